-- For each rule, orders that it alone tells apart; for each of document 01's traps, an execution that the mistake would answer differently.
use Rattle.std.specs.Prelude.{ℕ, true, List, [], ◌∷◌, ◌++◌, replicate}
use Rattle.std.proofs.Math.Option.{some}
use Rattle.model.specs.Search.{allowed, forbidden}
use Rattle.model.specs.Calls.{says, legal, breaks}
use Rattle.model.specs.Courses.{proper, other}
use Rattle.model.specs.Notation.{x, y, wb, uc, wc, ld, ld_acq, st, st_rel, mf, record_of}
use Rattle.model.specs.Rows.{Row, judged, searched, searched_no, tabled, followed}
use Rattle.model.specs.PaperTable.{k1, k2}

-- one program on the lines of x and y
abbrev pub one : List ℕ → List ℕ → List (List ℕ) → List ℕ
one line_x line_y program = record_of (line_x ∷ line_y ∷ []) (program ∷ []) []

-- one program with the pair 0 1
abbrev pub one_pair : List (List ℕ) → List ℕ
one_pair program = record_of (wb ∷ wb ∷ []) (program ∷ []) ((0, 1) ∷ [])

-- two programs
abbrev pub two : List ℕ → List ℕ → List (List ℕ) → List (List ℕ) → List ℕ
two line_x line_y first second = record_of (line_x ∷ line_y ∷ []) (first ∷ second ∷ []) []

-- Two bytes at x: two bytes are written and one of them again, then both are read
abbrev halves : ℕ → ℕ → List ℕ
halves low high = one wb wb (
    (2 ∷ 0 ∷ 2 ∷ 5 ∷ 6 ∷ 0 ∷ 0 ∷ 0 ∷ 0 ∷ 0 ∷ 0 ∷ [])
    ∷ st 1 7
    ∷ (0 ∷ 0 ∷ 2 ∷ low ∷ high ∷ 0 ∷ 0 ∷ 0 ∷ 0 ∷ 0 ∷ 0 ∷ [])
    ∷ [])

unfoldable pub rule_table : List Row
rule_table =
    -- 1: LV first, then the own RV; the storing processor is the first, or the second
    judged (two wb wb (st x 1 ∷ []) []) (0 ∷ 1 ∷ 2 ∷ []) legal
    ∷ judged (two wb wb (st x 1 ∷ []) []) (0 ∷ 2 ∷ 1 ∷ []) (breaks 1)
    ∷ judged (two wb wb (st x 1 ∷ []) []) (1 ∷ 0 ∷ 2 ∷ []) (breaks 1)
    ∷ judged (two wb wb [] (st x 1 ∷ [])) (0 ∷ 2 ∷ 1 ∷ []) legal
    ∷ judged (two wb wb [] (st x 1 ∷ [])) (0 ∷ 1 ∷ 2 ∷ []) (breaks 1)
    -- 2: the R of an ld.acq first, before LV and RV too; nothing holds for a plain ld, nor for another processor
    ∷ judged (one wb wb (ld_acq x 0 ∷ ld y 0 ∷ [])) (1 ∷ 0 ∷ []) (breaks 2)
    ∷ judged (one wb wb (ld_acq x 0 ∷ st y 1 ∷ [])) (1 ∷ 0 ∷ 2 ∷ []) (breaks 2)
    ∷ judged (one wb wb (ld x 0 ∷ ld y 0 ∷ [])) (1 ∷ 0 ∷ []) legal
    ∷ judged (one wb wb (ld x 0 ∷ ld_acq y 0 ∷ [])) (1 ∷ 0 ∷ []) legal
    ∷ judged (two wb wb (ld_acq x 0 ∷ []) (ld y 0 ∷ [])) (1 ∷ 0 ∷ []) legal
    -- 3: a load's R before all of the st.rel; a store's LV before LV and RV before RV, and no more
    ∷ judged (one wb wb (ld x 0 ∷ st_rel y 1 ∷ [])) (1 ∷ 0 ∷ 2 ∷ []) (breaks 3)
    ∷ judged (one wb wb (ld x 0 ∷ st y 1 ∷ [])) (1 ∷ 0 ∷ 2 ∷ []) legal
    ∷ judged (one wb wb (st x 1 ∷ st_rel y 1 ∷ [])) (2 ∷ 0 ∷ 1 ∷ 3 ∷ []) (breaks 3)
    ∷ judged (one wb wb (st x 1 ∷ st_rel y 1 ∷ [])) (0 ∷ 2 ∷ 3 ∷ 1 ∷ []) (breaks 3)
    ∷ judged (one wb wb (st x 1 ∷ st_rel y 1 ∷ [])) (0 ∷ 2 ∷ 1 ∷ 3 ∷ []) legal
    ∷ judged (one wb wb (st x 1 ∷ st y 1 ∷ [])) (2 ∷ 3 ∷ 0 ∷ 1 ∷ []) legal
    -- 4: all before F, F before all, F before F
    ∷ judged (one wb wb (st x 1 ∷ mf ∷ ld y 0 ∷ [])) (0 ∷ 1 ∷ 2 ∷ 3 ∷ []) legal
    ∷ judged (one wb wb (st x 1 ∷ mf ∷ ld y 0 ∷ [])) (0 ∷ 2 ∷ 1 ∷ 3 ∷ []) (breaks 4)
    ∷ judged (one wb wb (st x 1 ∷ mf ∷ ld y 0 ∷ [])) (0 ∷ 1 ∷ 3 ∷ 2 ∷ []) (breaks 4)
    ∷ judged (one wb wb (mf ∷ mf ∷ [])) (1 ∷ 0 ∷ []) (breaks 4)
    -- 5, 6, 7: only where the accesses overlap
    ∷ judged k2 (2 ∷ 0 ∷ 1 ∷ []) (breaks 5)
    ∷ judged (one wb wb (st x 1 ∷ ld y 0 ∷ [])) (2 ∷ 0 ∷ 1 ∷ []) legal
    ∷ judged (one wb wb (ld x 1 ∷ st x 1 ∷ [])) (1 ∷ 2 ∷ 0 ∷ []) (breaks 6)
    ∷ judged (one wb wb (ld y 0 ∷ st x 1 ∷ [])) (1 ∷ 2 ∷ 0 ∷ []) legal
    ∷ judged (one wb wb (st x 1 ∷ st x 2 ∷ [])) (2 ∷ 0 ∷ 1 ∷ 3 ∷ []) (breaks 7)
    ∷ judged (one wc wc (st x 1 ∷ st x 2 ∷ [])) (2 ∷ 0 ∷ 1 ∷ 3 ∷ []) (breaks 7)
    ∷ judged (one wb wb (st x 1 ∷ st 1 2 ∷ [])) (2 ∷ 3 ∷ 0 ∷ 1 ∷ []) legal
    -- 8: R or LV before R or LV, for a given pair
    ∷ judged (one_pair (ld x 0 ∷ ld y 0 ∷ [])) (1 ∷ 0 ∷ []) (breaks 8)
    ∷ judged (one_pair (st x 1 ∷ ld y 0 ∷ [])) (2 ∷ 0 ∷ 1 ∷ []) (breaks 8)
    ∷ judged (one_pair (st x 1 ∷ ld y 0 ∷ [])) (0 ∷ 2 ∷ 1 ∷ []) legal
    ∷ judged (one_pair (ld x 0 ∷ st y 1 ∷ [])) (1 ∷ 0 ∷ 2 ∷ []) (breaks 8)
    -- 9: the own RVs in the order of the LVs, on WB and UC
    ∷ judged (one wb wb (st x 1 ∷ st x 2 ∷ [])) (0 ∷ 2 ∷ 3 ∷ 1 ∷ []) (breaks 9)
    ∷ judged (one uc wb (st x 1 ∷ st x 2 ∷ [])) (0 ∷ 2 ∷ 3 ∷ 1 ∷ []) (breaks 9)
    ∷ judged (one wc wb (st x 1 ∷ st x 2 ∷ [])) (0 ∷ 2 ∷ 3 ∷ 1 ∷ []) legal
    ∷ judged (one wb wb (st x 1 ∷ st y 2 ∷ [])) (0 ∷ 2 ∷ 3 ∷ 1 ∷ []) legal
    -- 10: one order of the RVs to every processor, on WB and UC
    ∷ judged (two wb wb (st x 1 ∷ []) (st x 2 ∷ [])) (0 ∷ 1 ∷ 3 ∷ 5 ∷ 2 ∷ 4 ∷ []) (breaks 10)
    ∷ judged (two uc wb (st x 1 ∷ []) (st x 2 ∷ [])) (0 ∷ 1 ∷ 3 ∷ 5 ∷ 2 ∷ 4 ∷ []) (breaks 10)
    ∷ judged (two wc wb (st x 1 ∷ []) (st x 2 ∷ [])) (0 ∷ 1 ∷ 3 ∷ 5 ∷ 2 ∷ 4 ∷ []) legal
    ∷ judged (two wb wb (st x 1 ∷ []) (st y 2 ∷ [])) (0 ∷ 1 ∷ 3 ∷ 5 ∷ 2 ∷ 4 ∷ []) legal
    -- 11: the byte of the latest RV to the reader, of its own latest LV while local, else the initial byte; byte by byte
    ∷ judged k2 (0 ∷ 1 ∷ 2 ∷ []) (breaks 11)
    ∷ judged k1 (0 ∷ 1 ∷ 2 ∷ []) legal
    ∷ judged (one wb wb (ld x 1 ∷ [])) (0 ∷ []) (breaks 11)
    ∷ judged (record_of ((0 ∷ 1 ∷ 2 ∷ 3 ∷ 4 ∷ 5 ∷ 6 ∷ 7 ∷ 8 ∷ []) ∷ []) ((ld 2 3 ∷ []) ∷ []) []) (0 ∷ []) legal
    ∷ judged (two wb wb (st x 1 ∷ []) (ld x 1 ∷ [])) (0 ∷ 1 ∷ 2 ∷ 3 ∷ []) legal
    ∷ judged (two wb wb (st x 1 ∷ []) (ld x 1 ∷ [])) (0 ∷ 1 ∷ 3 ∷ 2 ∷ []) (breaks 11)
    ∷ judged (two wb wb (st x 1 ∷ []) (ld x 0 ∷ [])) (0 ∷ 1 ∷ 3 ∷ 2 ∷ []) legal
    ∷ judged (one wb wb (st x 1 ∷ st x 2 ∷ ld x 2 ∷ [])) (0 ∷ 2 ∷ 1 ∷ 4 ∷ 3 ∷ []) legal
    ∷ judged (one wb wb (st x 1 ∷ st x 2 ∷ ld x 1 ∷ [])) (0 ∷ 2 ∷ 1 ∷ 4 ∷ 3 ∷ []) (breaks 11)
    ∷ judged (two wb wb (st x 1 ∷ ld x 1 ∷ []) (st x 2 ∷ [])) (0 ∷ 4 ∷ 6 ∷ 5 ∷ 3 ∷ 1 ∷ 2 ∷ []) legal
    ∷ judged (two wb wb (st x 1 ∷ ld x 2 ∷ []) (st x 2 ∷ [])) (0 ∷ 4 ∷ 6 ∷ 5 ∷ 3 ∷ 1 ∷ 2 ∷ []) (breaks 11)
    ∷ judged (one wb wb ((2 ∷ 0 ∷ 2 ∷ 5 ∷ 6 ∷ 0 ∷ 0 ∷ 0 ∷ 0 ∷ 0 ∷ 0 ∷ []) ∷ ld 1 6 ∷ [])) (0 ∷ 1 ∷ 2 ∷ []) legal
    ∷ judged (halves 5 7) (0 ∷ 1 ∷ 2 ∷ 4 ∷ 3 ∷ []) legal
    ∷ judged (halves 5 6) (0 ∷ 1 ∷ 2 ∷ 4 ∷ 3 ∷ []) (breaks 11)
    ∷ judged (halves 6 7) (0 ∷ 1 ∷ 2 ∷ 3 ∷ 4 ∷ []) (breaks 11)
    -- 12: a release to WB is seen by all as one block; a plain store, and a st.rel to UC or WC, is not
    ∷ judged (two wb wb (st_rel x 1 ∷ []) (ld y 0 ∷ [])) (0 ∷ 1 ∷ 3 ∷ 2 ∷ []) (breaks 12)
    ∷ judged (two wb wb (st_rel x 1 ∷ []) (ld y 0 ∷ [])) (0 ∷ 3 ∷ 1 ∷ 2 ∷ []) legal
    ∷ judged (two wb wb (st x 1 ∷ []) (ld y 0 ∷ [])) (0 ∷ 1 ∷ 3 ∷ 2 ∷ []) legal
    ∷ judged (two uc wb (st_rel x 1 ∷ []) (ld y 0 ∷ [])) (0 ∷ 1 ∷ 3 ∷ 2 ∷ []) legal
    ∷ judged (two wc wb (st_rel x 1 ∷ []) (ld y 0 ∷ [])) (0 ∷ 1 ∷ 3 ∷ 2 ∷ []) legal
    -- 13: two UC accesses in program order, by R and LV
    ∷ judged (one uc uc (ld x 0 ∷ ld y 0 ∷ [])) (1 ∷ 0 ∷ []) (breaks 13)
    ∷ judged (one uc wb (ld x 0 ∷ ld y 0 ∷ [])) (1 ∷ 0 ∷ []) legal
    ∷ judged (one wb uc (ld x 0 ∷ ld y 0 ∷ [])) (1 ∷ 0 ∷ []) legal
    ∷ judged (one wc wc (ld x 0 ∷ ld y 0 ∷ [])) (1 ∷ 0 ∷ []) legal
    ∷ judged (one uc uc (st x 1 ∷ st y 1 ∷ [])) (2 ∷ 0 ∷ 1 ∷ 3 ∷ []) (breaks 13)
    ∷ judged (one uc uc (st x 1 ∷ st y 1 ∷ [])) (0 ∷ 2 ∷ 3 ∷ 1 ∷ []) legal
    ∷ judged (two uc uc (ld x 0 ∷ []) (ld y 0 ∷ [])) (1 ∷ 0 ∷ []) legal
    -- 14: no bypass from a UC store; the load overlaps and is the storing processor's
    ∷ judged (one uc wb (st x 1 ∷ ld x 1 ∷ [])) (0 ∷ 1 ∷ 2 ∷ []) legal
    ∷ judged (one uc wb (st x 1 ∷ ld y 0 ∷ [])) (0 ∷ 2 ∷ 1 ∷ []) legal
    ∷ judged (two uc wb (st x 1 ∷ []) (ld x 0 ∷ [])) (0 ∷ 3 ∷ 1 ∷ 2 ∷ []) legal
    -- the lowest number: rules 5 and 11
    ∷ judged k1 (2 ∷ 0 ∷ 1 ∷ []) (breaks 5)
    -- the traps: two plain loads of one place (K11 with ld) and own stores read before their RV (K3) stand in the paper's table, blocks under rule 12
    -- a st.rel does not hold back later instructions
    ∷ judged (one wb wb (st_rel x 1 ∷ ld y 0 ∷ [])) (2 ∷ 0 ∷ 1 ∷ []) legal
    ∷ searched (two wb wb (st_rel x 1 ∷ ld y 0 ∷ []) (st_rel y 1 ∷ ld x 0 ∷ [])) [] 1000 allowed 31 (0 ∷ 3 ∷ 4 ∷ 6 ∷ 5 ∷ 7 ∷ 1 ∷ 2 ∷ [])
    -- a saved position is tested against the record
    ∷ searched_no k2 (0 ∷ 2 ∷ 1 ∷ []) 2 21
    -- MD:WAW is as document 01 words it: on WC the own RVs may change places (order 0 2 3 1 4)
    ∷ searched (one wc wb (st x 1 ∷ st x 2 ∷ ld x 1 ∷ [])) [] 1000 allowed 10 (0 ∷ 2 ∷ 3 ∷ 1 ∷ 4 ∷ [])
    -- a search goes on from a position, and ends at a full one
    ∷ searched k1 (0 ∷ 1 ∷ []) 1000 allowed 1 (0 ∷ 1 ∷ 2 ∷ [])
    ∷ searched k1 (0 ∷ 1 ∷ 2 ∷ []) 1000 allowed 0 (0 ∷ 1 ∷ 2 ∷ [])
    ∷ searched k1 (0 ∷ 2 ∷ []) 1000 allowed 1 (0 ∷ 2 ∷ 1 ∷ [])
    ∷ searched k2 (0 ∷ 1 ∷ []) 0 forbidden 0 (0 ∷ 1 ∷ [])
    -- lists of calls over one buffer: 1, none, 5 steps of K1, others refused in between; and K2 to its end, a call after it not made
    ∷ followed k1 (proper 1 ∷ other k2 1 2 9 ∷ proper 0 ∷ other (k1 ++ (0 ∷ [])) 0 12 9 ∷ proper 5 ∷ []) (record {
      buffer = 0 ∷ 1 ∷ 2 ∷ replicate 9 99;
      length = 3;
      steps = 3;
      sum = 6;
      answer = some (says allowed);
      given = 0 ∷ [];
      left = (0 ∷ 1 ∷ 2 ∷ []) ∷ (0 ∷ []) ∷ (0 ∷ []) ∷ [];
      accepted = true;
      refused = true;
    })
    ∷ followed k2 (proper 2 ∷ other k2 0 2 1 ∷ proper 1 ∷ []) (record {
      buffer = replicate 12 99;
      length = 0;
      steps = 2;
      sum = 2;
      answer = some (says forbidden);
      given = [];
      left = [] ∷ [];
      accepted = true;
      refused = true;
    })
    -- the chain table, by each rule of 1 to 8 and 13 (15: `RequestTable`)
    ∷ tabled k1 (0 ∷ 1 ∷ 1 ∷ 0 ∷ 0 ∷ 0 ∷ 0 ∷ 0 ∷ 0 ∷ [])
    ∷ tabled (two wb wb (st x 1 ∷ []) []) (0 ∷ 1 ∷ 1 ∷ 0 ∷ 0 ∷ 1 ∷ 0 ∷ 0 ∷ 0 ∷ [])
    ∷ tabled (one wb wb (ld_acq x 0 ∷ ld y 0 ∷ [])) (0 ∷ 1 ∷ 0 ∷ 0 ∷ [])
    ∷ tabled (one wb wb (ld x 0 ∷ st_rel y 1 ∷ [])) (0 ∷ 1 ∷ 1 ∷ 0 ∷ 0 ∷ 1 ∷ 0 ∷ 0 ∷ 0 ∷ [])
    ∷ tabled (one wb wb (ld x 0 ∷ mf ∷ [])) (0 ∷ 1 ∷ 0 ∷ 0 ∷ [])
    ∷ tabled (one wb wb (ld x 1 ∷ st x 1 ∷ [])) (0 ∷ 1 ∷ 1 ∷ 0 ∷ 0 ∷ 1 ∷ 0 ∷ 0 ∷ 0 ∷ [])
    ∷ tabled (one wb wb (st x 1 ∷ st x 2 ∷ [])) (0 ∷ 1 ∷ 1 ∷ 1 ∷ 0 ∷ 0 ∷ 0 ∷ 0 ∷ 0 ∷ 0 ∷ 0 ∷ 1 ∷ 0 ∷ 0 ∷ 0 ∷ 0 ∷ [])
    ∷ tabled (one_pair (ld x 0 ∷ ld y 0 ∷ [])) (0 ∷ 1 ∷ 0 ∷ 0 ∷ [])
    ∷ tabled (one uc uc (ld x 0 ∷ ld y 0 ∷ [])) (0 ∷ 1 ∷ 0 ∷ 0 ∷ [])
    ∷ tabled (one wb wb (ld_acq x 0 ∷ ld_acq y 0 ∷ mf ∷ [])) (0 ∷ 1 ∷ 1 ∷ 0 ∷ 0 ∷ 1 ∷ 0 ∷ 0 ∷ 0 ∷ [])
    ∷ []
