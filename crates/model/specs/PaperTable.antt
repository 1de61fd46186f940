-- The executions that document 01 marks K1 to K12, in its notation. WB, zeros and size 1 unless said.
use Rattle.std.specs.Prelude.{ℕ, List, [], ◌∷◌, ◌++◌}
use Rattle.model.specs.Search.{allowed, forbidden, unfinished}
use Rattle.model.specs.Calls.{legal, breaks}
use Rattle.model.specs.Verdict.{word_allowed, word_forbidden, word_refused, word_steps}
use Rattle.model.specs.Notation.{x, y, wb, uc, wc, ld, ld_acq, st, st_rel, mf, record_of}
use Rattle.model.specs.Rows.{Row, judged, searched, printed}

-- one processor, st x=1, ld x sees 1
unfoldable pub k1 : List ℕ
k1 = record_of (wb ∷ []) ((st x 1 ∷ ld x 1 ∷ []) ∷ []) []

-- as K1, ld sees 0
unfoldable pub k2 : List ℕ
k2 = record_of (wb ∷ []) ((st x 1 ∷ ld x 0 ∷ []) ∷ []) []

-- K1 on UC
unfoldable pub k4 : List ℕ
k4 = record_of (uc ∷ []) ((st x 1 ∷ ld x 1 ∷ []) ∷ []) []

-- st x=1, st.rel y=1; ld.acq y sees 1, ld x sees 0
unfoldable pub k6 : List ℕ
k6 = record_of (wb ∷ wb ∷ []) ((st x 1 ∷ st_rel y 1 ∷ []) ∷ (ld_acq y 1 ∷ ld x 0 ∷ []) ∷ []) []

-- K6 with st for st.rel
unfoldable pub k7 : List ℕ
k7 = record_of (wb ∷ wb ∷ []) ((st x 1 ∷ st y 1 ∷ []) ∷ (ld_acq y 1 ∷ ld x 0 ∷ []) ∷ []) []

-- K6 with ld for ld.acq
unfoldable pub k8 : List ℕ
k8 = record_of (wb ∷ wb ∷ []) ((st x 1 ∷ st_rel y 1 ∷ []) ∷ (ld y 1 ∷ ld x 0 ∷ []) ∷ []) []

-- st x=1, ld y sees 0; st y=1, ld x sees 0
unfoldable pub k9 : List ℕ
k9 = record_of (wb ∷ wb ∷ []) ((st x 1 ∷ ld y 0 ∷ []) ∷ (st y 1 ∷ ld x 0 ∷ []) ∷ []) []

-- K9 with an mf in each middle
unfoldable pub k10 : List ℕ
k10 = record_of (wb ∷ wb ∷ []) ((st x 1 ∷ mf ∷ ld y 0 ∷ []) ∷ (st y 1 ∷ mf ∷ ld x 0 ∷ []) ∷ []) []

-- st x=1, st x=2; ld.acq x sees 2, ld x sees 1; on WB, and on WC
unfoldable pub k11 : List ℕ
k11 = record_of (wb ∷ []) ((st x 1 ∷ st x 2 ∷ []) ∷ (ld_acq x 2 ∷ ld x 1 ∷ []) ∷ []) []

unfoldable pub k12 : List ℕ
k12 = record_of (wc ∷ []) ((st x 1 ∷ st x 2 ∷ []) ∷ (ld_acq x 2 ∷ ld x 1 ∷ []) ∷ []) []

-- K11 with ld for ld.acq; then with the pair 2 3
unfoldable pub k11_ld : List ℕ
k11_ld = record_of (wb ∷ []) ((st x 1 ∷ st x 2 ∷ []) ∷ (ld x 2 ∷ ld x 1 ∷ []) ∷ []) []

unfoldable pub k11_pair : List ℕ
k11_pair = record_of (wb ∷ []) ((st x 1 ∷ st x 2 ∷ []) ∷ (ld x 2 ∷ ld x 1 ∷ []) ∷ []) ((2, 3) ∷ [])

unfoldable pub paper_table : List Row
paper_table =
    searched k1 [] 1000 allowed 3 (0 ∷ 1 ∷ 2 ∷ [])
    ∷ searched k1 [] 2 unfinished 2 (0 ∷ 1 ∷ [])
    ∷ searched k2 [] 1000 forbidden 2 []
    ∷ searched k2 [] 1 unfinished 1 (0 ∷ [])
    ∷ judged k1 (0 ∷ 2 ∷ 1 ∷ []) legal
    ∷ judged k4 (0 ∷ 2 ∷ 1 ∷ []) (breaks 14)
    ∷ judged k1 (1 ∷ 0 ∷ 2 ∷ []) (breaks 1)
    ∷ searched k6 [] 1000 forbidden 20 []
    ∷ searched k7 [] 1000 allowed 23 (0 ∷ 1 ∷ 3 ∷ 4 ∷ 5 ∷ 6 ∷ 7 ∷ 2 ∷ [])
    ∷ searched k8 [] 1000 allowed 18 (0 ∷ 1 ∷ 3 ∷ 7 ∷ 2 ∷ 4 ∷ 5 ∷ 6 ∷ [])
    ∷ searched k9 [] 1000 allowed 31 (0 ∷ 1 ∷ 3 ∷ 4 ∷ 6 ∷ 5 ∷ 7 ∷ 2 ∷ [])
    ∷ searched k10 [] 1000 forbidden 390 []
    ∷ searched k11 [] 1000 forbidden 26 []
    ∷ searched k12 [] 1000 allowed 21 (0 ∷ 1 ∷ 3 ∷ 4 ∷ 5 ∷ 6 ∷ 2 ∷ 7 ∷ [])
    ∷ searched k11_ld [] 1000 allowed 10 (0 ∷ 1 ∷ 2 ∷ 3 ∷ 4 ∷ 7 ∷ 5 ∷ 6 ∷ [])
    ∷ searched k11_pair [] 1000 forbidden 26 []
    -- For K1 the verdict program prints 'allowed 0 1 2', then 'steps 3'.
    ∷ printed k1 (
    word_allowed ++ (32 ∷ 48 ∷ 32 ∷ 49 ∷ 32 ∷ 50 ∷ 10 ∷ []) ++ word_steps ++ (32 ∷ 51 ∷ 10 ∷ []))
    ∷ printed k2 (word_forbidden ++ (10 ∷ []) ++ word_steps ++ (32 ∷ 50 ∷ 10 ∷ []))
    ∷ printed k10 (word_forbidden ++ (10 ∷ []) ++ word_steps ++ (32 ∷ 51 ∷ 57 ∷ 48 ∷ 10 ∷ []))
    ∷ printed (k1 ++ (0 ∷ [])) (word_refused ++ (32 ∷ 49 ∷ 53 ∷ 10 ∷ []))
    ∷ []
