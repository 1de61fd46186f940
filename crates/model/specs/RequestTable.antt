-- For each request of document 02 that has landed, calls and what they must answer.
use Rattle.std.specs.Prelude.{ℕ, ◌*◌, ◌/◌, true, List, [], ◌∷◌, ◌++◌, length, replicate}
use Rattle.std.proofs.Math.Option.{some}
use Rattle.base.specs.Lists.{for, count}
use Rattle.model.specs.Search.{allowed, forbidden}
use Rattle.model.specs.Calls.{says, legal, breaks}
use Rattle.model.specs.Courses.{proper, other}
use Rattle.model.specs.Verdict.{word_allowed, word_steps}
use Rattle.model.specs.Notation.{x, y, wb, uc, uc_of, ld, st, st_rel, mf, sem_acq, sem_rel, ld16, st16, st16_rel, zeros, record_of}
use Rattle.model.specs.RuleTable.{one, one_pair, two}
use Rattle.model.specs.Sections.{Sections, sections_from}
use Rattle.model.specs.Renumbering.{equal, left_first, right_first}
use Rattle.model.specs.Rows.{Row, lent, judged, searched, tabled, printed, followed, composed, composed_no, copied, copied_no, compared, compared_no}

-- P2: two processors, and nothing in their programs
unfoldable pub nothing : List ℕ
nothing = record_of (wb ∷ []) ([] ∷ [] ∷ []) []

-- P6: load buffering, on these lines of x and y: ld x sees 1, st y=1; ld y sees 1, st x=1
abbrev load_buffering : List ℕ → List ℕ → List ℕ
load_buffering line_x line_y = two line_x line_y (ld x 1 ∷ st y 1 ∷ []) (ld y 1 ∷ st x 1 ∷ [])

-- P4: one program on WB lines of x and y with the initial bytes 1 to 16
abbrev from_1_to_16 : List (List ℕ) → List ℕ
from_1_to_16 program = one (0 ∷ count 1 8) (0 ∷ count 9 8) program

-- and a load of addresses 12 and 13
abbrev ld_two : ℕ → ℕ → List ℕ
ld_two low high = 0 ∷ 12 ∷ 2 ∷ low ∷ high ∷ replicate 6 0

-- P3: one program on a WB line
abbrev alone : List (List ℕ) → List ℕ
alone program = record_of (wb ∷ []) (program ∷ []) []

-- P9: a store of one processor, two loads of the other, the second of which depends on the first; under both numberings
abbrev reader : List (List ℕ)
reader = ld x 1 ∷ ld x 0 ∷ []

abbrev writer_reader_lem : List ℕ
writer_reader_lem = record_of (wb ∷ []) ((st x 1 ∷ []) ∷ reader ∷ []) ((1, 2) ∷ [])

abbrev reader_writer_lem : List ℕ
reader_writer_lem = record_of (wb ∷ []) (reader ∷ (st x 1 ∷ []) ∷ []) ((0, 1) ∷ [])

-- two processors with two loads each, of which the first saw 1 and 2
abbrev two_readers : List (ℕ × ℕ) → List ℕ
two_readers pairs = record_of (wb ∷ []) (reader ∷ (ld x 2 ∷ ld x 0 ∷ []) ∷ []) pairs

-- one instruction on these lines
abbrev on_lines : List (List ℕ) → List ℕ → List ℕ
on_lines lines i = record_of lines ((i ∷ []) ∷ []) []

-- three processors with an instruction each
abbrev three : List ℕ → List ℕ → List ℕ → List ℕ
three i j k = record_of (wb ∷ []) ((i ∷ []) ∷ (j ∷ []) ∷ (k ∷ []) ∷ []) []

-- two processors with the same three loads, and these pairs, by their bytes
abbrev alike_readers : List ℕ → List ℕ
alike_readers pairs = 2 ∷ 1 ∷ wb ++ for (replicate 2 (replicate 3 (ld x 0))) (λ p. 3 ∷ for p (λ i. i)) ++ (length pairs / 2 ∷ pairs)

-- P7: a store to the upper half and one to the lower half of a load of sixteen bytes, one of them of the load's processor
abbrev halves : ℕ → ℕ → List ℕ
halves low high = two wb wb (st x 1 ∷ []) (st y 2 ∷ ld16 x low high ∷ [])

-- P1: a section of instructions, each entry behind its processor; and sections with WB lines of x and y
abbrev placed : List (ℕ × List ℕ) → List ℕ
placed entries = for entries (λ e. e.0 ∷ e.1)

abbrev on_xy : ℕ → List (ℕ × List ℕ) → List ℕ → Sections
on_xy p entries pairs = sections_from p (wb ++ wb) (placed entries) pairs

-- an entry of eleven bytes
abbrev short : ℕ → ℕ → List ℕ
short kind size = kind ∷ 0 ∷ size ∷ replicate 8 0

-- P12: three programs, the second empty, that saw these values
abbrev seeing : ℕ → ℕ → ℕ → ℕ → List ℕ
seeing a b low high =
    record_of ((0 ∷ count 1 8) ∷ wb ∷ []) ((ld x a ∷ st x 9 ∷ []) ∷ [] ∷ (sem_acq x b 4 ∷ mf ∷ st16 x 1 2 ∷ ld16 x low high ∷ []) ∷ []) ((0, 1) ∷ [])

unfoldable pub request_table : List Row
request_table =
    -- P2: the empty order is legal; a search answers 'allowed' with 0 steps at every allowance; the chain table has no mark
    judged nothing [] legal
    ∷ searched nothing [] 0 allowed 0 []
    ∷ searched nothing [] 1000 allowed 0 []
    ∷ tabled nothing []
    -- P2: no blank after 'allowed', then 'steps 0'
    ∷ printed nothing (word_allowed ++ (10 ∷ []) ++ word_steps ++ (32 ∷ 48 ∷ 10 ∷ []))
    -- P2: a list of calls is at its end after the first that is not refused
    ∷ followed nothing (other (nothing ++ (0 ∷ [])) 0 12 9 ∷ proper 0 ∷ proper 5 ∷ []) (record {
      buffer = lent;
      length = 0;
      steps = 0;
      sum = 0;
      answer = some (says allowed);
      given = [];
      left = [] ∷ [];
      accepted = true;
      refused = true;
    })
    -- P4: where no store wrote the byte, a load sees the initial byte of its own address; a store beside it changes nothing, its own hides it
    ∷ judged (from_1_to_16 (ld 3 4 ∷ ld 12 13 ∷ [])) (1 ∷ 0 ∷ []) legal
    ∷ judged (from_1_to_16 (ld 3 5 ∷ [])) (0 ∷ []) (breaks 11)
    ∷ judged (from_1_to_16 (ld 3 12 ∷ [])) (0 ∷ []) (breaks 11)
    ∷ judged (from_1_to_16 (ld_two 13 14 ∷ [])) (0 ∷ []) legal
    ∷ judged (from_1_to_16 (ld_two 13 13 ∷ [])) (0 ∷ []) (breaks 11)
    ∷ searched (from_1_to_16 (st 3 9 ∷ ld 4 5 ∷ [])) [] 1000 allowed 3 (0 ∷ 1 ∷ 2 ∷ [])
    ∷ searched (from_1_to_16 (st 3 9 ∷ ld 4 4 ∷ [])) [] 1000 forbidden 2 []
    ∷ searched (from_1_to_16 (st 3 9 ∷ ld 3 4 ∷ [])) [] 1000 forbidden 2 []
    -- P6: two UC accesses of one program in one domain are ordered by rule 13, in two they are not: judge, search and table
    ∷ judged (one (uc_of 1) (uc_of 1) (ld x 0 ∷ ld y 0 ∷ [])) (1 ∷ 0 ∷ []) (breaks 13)
    ∷ judged (one (uc_of 1) (uc_of 2) (ld x 0 ∷ ld y 0 ∷ [])) (1 ∷ 0 ∷ []) legal
    ∷ judged (one uc (uc_of 3) (ld x 0 ∷ ld y 0 ∷ [])) (1 ∷ 0 ∷ []) legal
    ∷ judged (one (uc_of 3) (uc_of 3) (ld x 0 ∷ st y 1 ∷ [])) (1 ∷ 0 ∷ 2 ∷ []) (breaks 13)
    ∷ judged (one (uc_of 3) (uc_of 2) (ld x 0 ∷ st y 1 ∷ [])) (1 ∷ 0 ∷ 2 ∷ []) legal
    ∷ judged (one (uc_of 2) (uc_of 2) (st x 1 ∷ ld y 0 ∷ [])) (2 ∷ 0 ∷ 1 ∷ []) (breaks 13)
    ∷ judged (one (uc_of 2) (uc_of 1) (st x 1 ∷ ld y 0 ∷ [])) (2 ∷ 0 ∷ 1 ∷ []) legal
    ∷ judged (one (uc_of 1) (uc_of 1) (st x 1 ∷ st y 1 ∷ [])) (2 ∷ 0 ∷ 1 ∷ 3 ∷ []) (breaks 13)
    ∷ judged (one (uc_of 1) uc (st x 1 ∷ st y 1 ∷ [])) (2 ∷ 0 ∷ 1 ∷ 3 ∷ []) legal
    ∷ searched (load_buffering uc uc) [] 1000 forbidden 0 []
    ∷ searched (load_buffering (uc_of 2) (uc_of 2)) [] 1000 forbidden 0 []
    ∷ searched (load_buffering uc (uc_of 1)) [] 1000 allowed 8 (1 ∷ 2 ∷ 3 ∷ 4 ∷ 5 ∷ 7 ∷ 6 ∷ 0 ∷ [])
    ∷ tabled (one (uc_of 3) (uc_of 3) (ld x 0 ∷ ld y 0 ∷ [])) (0 ∷ 1 ∷ 0 ∷ 0 ∷ [])
    ∷ tabled (one (uc_of 3) (uc_of 2) (ld x 0 ∷ ld y 0 ∷ [])) (0 ∷ 0 ∷ 0 ∷ 0 ∷ [])
    -- P6: rules 9, 10, 12 and 14 ignore the domain
    ∷ judged (one (uc_of 3) wb (st x 1 ∷ st x 2 ∷ [])) (0 ∷ 2 ∷ 3 ∷ 1 ∷ []) (breaks 9)
    ∷ judged (two (uc_of 3) wb (st x 1 ∷ []) (st x 2 ∷ [])) (0 ∷ 1 ∷ 3 ∷ 5 ∷ 2 ∷ 4 ∷ []) (breaks 10)
    ∷ judged (two (uc_of 3) wb (st_rel x 1 ∷ []) (ld y 0 ∷ [])) (0 ∷ 1 ∷ 3 ∷ 2 ∷ []) legal
    ∷ judged (one (uc_of 3) wb (st x 1 ∷ ld x 1 ∷ [])) (0 ∷ 2 ∷ 1 ∷ []) (breaks 14)
    -- P3: R, LV, RV_0 onwards; rule 15: R before LV
    ∷ judged (alone (sem_acq x 0 1 ∷ [])) (0 ∷ 1 ∷ 2 ∷ []) legal
    ∷ judged (alone (sem_acq x 1 1 ∷ [])) (1 ∷ 0 ∷ 2 ∷ []) (breaks 15)
    ∷ judged (alone (sem_rel x 0 1 ∷ [])) (0 ∷ 2 ∷ 1 ∷ []) (breaks 1)
    ∷ judged (alone (sem_acq x 1 1 ∷ [])) (0 ∷ 1 ∷ 2 ∷ []) (breaks 11)
    ∷ judged (alone (sem_acq x 0 1 ∷ [])) (1 ∷ 0 ∷ 2 ∷ []) (breaks 11)
    -- P3, rule 2: the acquiring kind by its R alone, its own LV and RV are not later and hold nothing back
    ∷ judged (one wb wb (sem_acq x 0 1 ∷ ld y 0 ∷ [])) (3 ∷ 0 ∷ 1 ∷ 2 ∷ []) (breaks 2)
    ∷ judged (one wb wb (sem_acq x 0 1 ∷ ld y 0 ∷ [])) (0 ∷ 3 ∷ 1 ∷ 2 ∷ []) legal
    ∷ judged (one wb wb (sem_rel x 0 1 ∷ ld y 0 ∷ [])) (3 ∷ 0 ∷ 1 ∷ 2 ∷ []) legal
    ∷ judged (one wb wb (sem_rel x 0 1 ∷ sem_acq y 0 1 ∷ [])) (3 ∷ 4 ∷ 5 ∷ 0 ∷ 1 ∷ 2 ∷ []) legal
    -- P3, rule 3: an earlier load's R before every operation, the R too; an earlier semaphore is load and store
    ∷ judged (one wb wb (ld y 0 ∷ sem_rel x 0 1 ∷ [])) (1 ∷ 0 ∷ 2 ∷ 3 ∷ []) (breaks 3)
    ∷ judged (one wb wb (ld y 0 ∷ sem_acq x 0 1 ∷ [])) (1 ∷ 0 ∷ 2 ∷ 3 ∷ []) legal
    ∷ judged (one wb wb (sem_rel x 0 1 ∷ sem_rel y 0 1 ∷ [])) (3 ∷ 0 ∷ 1 ∷ 2 ∷ 4 ∷ 5 ∷ []) (breaks 3)
    ∷ judged (one wb wb (sem_rel x 0 1 ∷ sem_rel y 0 1 ∷ [])) (0 ∷ 3 ∷ 4 ∷ 1 ∷ 2 ∷ 5 ∷ []) (breaks 3)
    ∷ judged (one wb wb (sem_rel x 0 1 ∷ sem_rel y 0 1 ∷ [])) (0 ∷ 1 ∷ 3 ∷ 4 ∷ 2 ∷ 5 ∷ []) legal
    ∷ judged (one wb wb (st x 1 ∷ sem_rel y 0 1 ∷ [])) (2 ∷ 0 ∷ 3 ∷ 1 ∷ 4 ∷ []) legal
    ∷ judged (one wb wb (sem_acq x 0 1 ∷ st_rel y 1 ∷ [])) (0 ∷ 3 ∷ 1 ∷ 2 ∷ 4 ∷ []) (breaks 3)
    ∷ judged (one wb wb (sem_acq x 0 1 ∷ mf ∷ [])) (0 ∷ 1 ∷ 3 ∷ 2 ∷ []) (breaks 4)
    -- P3, rules 5 to 7: between two different instructions
    ∷ judged (one wb wb (st x 1 ∷ sem_acq x 1 2 ∷ [])) (2 ∷ 0 ∷ 1 ∷ 3 ∷ 4 ∷ []) (breaks 5)
    ∷ judged (one wb wb (ld x 0 ∷ sem_acq x 0 2 ∷ [])) (1 ∷ 2 ∷ 0 ∷ 3 ∷ []) (breaks 6)
    ∷ judged (one wb wb (sem_rel x 0 2 ∷ st x 2 ∷ [])) (0 ∷ 3 ∷ 1 ∷ 2 ∷ 4 ∷ []) (breaks 7)
    -- P3, rule 8: at a semaphore R, as the later one and as the earlier one
    ∷ judged (one_pair (st y 1 ∷ sem_acq x 0 1 ∷ [])) (2 ∷ 0 ∷ 1 ∷ 3 ∷ 4 ∷ []) (breaks 8)
    ∷ judged (one_pair (sem_rel x 0 1 ∷ st y 1 ∷ [])) (3 ∷ 0 ∷ 1 ∷ 2 ∷ 4 ∷ []) (breaks 8)
    ∷ judged (one_pair (sem_rel x 0 1 ∷ st y 1 ∷ [])) (0 ∷ 3 ∷ 1 ∷ 2 ∷ 4 ∷ []) legal
    ∷ judged (one_pair (sem_rel x 0 1 ∷ sem_acq y 0 1 ∷ [])) (3 ∷ 0 ∷ 1 ∷ 2 ∷ 4 ∷ 5 ∷ []) (breaks 8)
    ∷ judged (one_pair (sem_rel x 0 1 ∷ sem_acq y 0 1 ∷ [])) (0 ∷ 3 ∷ 4 ∷ 5 ∷ 1 ∷ 2 ∷ []) legal
    -- P3, rules 9 and 10: a semaphore is among the stores
    ∷ judged (two wb wb (st x 1 ∷ sem_acq x 1 2 ∷ []) []) (0 ∷ 3 ∷ 4 ∷ 5 ∷ 1 ∷ 2 ∷ 6 ∷ []) (breaks 9)
    ∷ judged (two wb wb (st x 1 ∷ sem_acq x 1 2 ∷ []) []) (0 ∷ 1 ∷ 3 ∷ 4 ∷ 5 ∷ 6 ∷ 2 ∷ []) (breaks 10)
    -- P3, rule 11: another load sees what the semaphore wrote, not what it saw
    ∷ judged (two wb wb (sem_acq x 0 7 ∷ []) (ld x 7 ∷ [])) (0 ∷ 1 ∷ 2 ∷ 3 ∷ 4 ∷ []) legal
    ∷ judged (two wb wb (sem_acq x 0 7 ∷ []) (ld x 0 ∷ [])) (0 ∷ 1 ∷ 2 ∷ 3 ∷ 4 ∷ []) (breaks 11)
    -- P3, rule 12: for the releasing kind, never for the acquiring one
    ∷ judged (two wb wb (sem_rel x 0 1 ∷ []) (ld y 0 ∷ [])) (0 ∷ 1 ∷ 2 ∷ 4 ∷ 3 ∷ []) (breaks 12)
    ∷ judged (two wb wb (sem_acq x 0 1 ∷ []) (ld y 0 ∷ [])) (0 ∷ 1 ∷ 2 ∷ 4 ∷ 3 ∷ []) legal
    -- P3, rule 16: no RV_p of another overlapping store between R and RV_p, by anyone; its RV to another processor is free, and so is a store to other bytes
    ∷ judged (two wb wb (sem_acq x 0 1 ∷ []) (st x 2 ∷ [])) (0 ∷ 1 ∷ 4 ∷ 6 ∷ 5 ∷ 2 ∷ 3 ∷ []) (breaks 16)
    ∷ judged (two wb wb (sem_acq x 0 1 ∷ []) (st x 2 ∷ [])) (0 ∷ 1 ∷ 4 ∷ 2 ∷ 3 ∷ 6 ∷ 5 ∷ []) legal
    ∷ judged (two wb wb (sem_acq x 0 1 ∷ []) (st 1 2 ∷ [])) (0 ∷ 1 ∷ 4 ∷ 6 ∷ 5 ∷ 2 ∷ 3 ∷ []) legal
    ∷ judged (two wb wb (st x 2 ∷ []) (sem_acq x 2 1 ∷ [])) (0 ∷ 1 ∷ 2 ∷ 3 ∷ 4 ∷ 6 ∷ 5 ∷ []) legal
    ∷ judged (two wb wb (st x 1 ∷ sem_acq x 1 2 ∷ []) []) (0 ∷ 1 ∷ 3 ∷ 2 ∷ 4 ∷ 5 ∷ 6 ∷ []) legal
    -- P3: a lock taken by two processors, both seeing 0; a lock taken and released by one; the chain table has rule 15
    ∷ searched (two wb wb (sem_acq x 0 1 ∷ []) (sem_acq x 0 1 ∷ [])) [] 1000 forbidden 50 []
    ∷ searched (alone (sem_acq x 0 1 ∷ sem_rel x 1 0 ∷ [])) [] 1000 allowed 6 (0 ∷ 1 ∷ 2 ∷ 3 ∷ 4 ∷ 5 ∷ [])
    ∷ tabled (alone (sem_acq x 0 1 ∷ [])) (0 ∷ 1 ∷ 1 ∷ 0 ∷ 0 ∷ 1 ∷ 0 ∷ 0 ∷ 0 ∷ [])
    -- P7, rule 11: byte by byte, so halves from two stores; a store of sixteen bytes is seen whole, by smaller loads too
    ∷ judged (one wb wb (st y 7 ∷ ld16 x 0 7 ∷ [])) (0 ∷ 1 ∷ 2 ∷ []) legal
    ∷ judged (one wb wb (st y 7 ∷ ld16 x 0 0 ∷ [])) (0 ∷ 1 ∷ 2 ∷ []) (breaks 11)
    ∷ judged (one wb wb (st y 7 ∷ ld16 x 7 7 ∷ [])) (0 ∷ 1 ∷ 2 ∷ []) (breaks 11)
    ∷ judged (one wb wb (st16 x 1 2 ∷ ld y 2 ∷ [])) (0 ∷ 2 ∷ 1 ∷ []) legal
    ∷ judged (one wb wb (st16 x 1 2 ∷ ld y 1 ∷ [])) (0 ∷ 1 ∷ 2 ∷ []) (breaks 11)
    -- P7: local for the bytes of the upper half alone
    ∷ judged (halves 1 2) (0 ∷ 1 ∷ 2 ∷ 3 ∷ 6 ∷ 5 ∷ 4 ∷ []) legal
    ∷ judged (halves 0 2) (0 ∷ 1 ∷ 2 ∷ 3 ∷ 6 ∷ 5 ∷ 4 ∷ []) (breaks 11)
    ∷ judged (halves 1 0) (0 ∷ 1 ∷ 2 ∷ 3 ∷ 6 ∷ 5 ∷ 4 ∷ []) (breaks 11)
    -- P7, the other rules see one access: here two overlap in the upper half alone. Rules 5 to 7
    ∷ judged (one wb wb (st y 1 ∷ ld16 x 0 0 ∷ [])) (2 ∷ 0 ∷ 1 ∷ []) (breaks 5)
    ∷ judged (one wb wb (st16 x 1 2 ∷ ld y 0 ∷ [])) (2 ∷ 0 ∷ 1 ∷ []) (breaks 5)
    ∷ judged (one wb wb (ld16 x 0 0 ∷ st y 1 ∷ [])) (1 ∷ 0 ∷ 2 ∷ []) (breaks 6)
    ∷ judged (one wb wb (st16 x 1 2 ∷ st y 3 ∷ [])) (2 ∷ 0 ∷ 1 ∷ 3 ∷ []) (breaks 7)
    -- P7, rules 9, 10 and 12
    ∷ judged (one wb wb (st16 x 1 2 ∷ st y 3 ∷ [])) (0 ∷ 2 ∷ 3 ∷ 1 ∷ []) (breaks 9)
    ∷ judged (two wb wb (st16 x 1 2 ∷ []) (st y 3 ∷ [])) (0 ∷ 1 ∷ 3 ∷ 5 ∷ 2 ∷ 4 ∷ []) (breaks 10)
    ∷ judged (two wb wb (st16_rel x 1 2 ∷ []) (ld y 0 ∷ [])) (0 ∷ 1 ∷ 3 ∷ 2 ∷ []) (breaks 12)
    -- P7, rules 13, 14 and 16; bytes that only touch are not shared
    ∷ judged (one (uc_of 1) (uc_of 1) (ld16 x 0 0 ∷ ld y 0 ∷ [])) (1 ∷ 0 ∷ []) (breaks 13)
    ∷ judged (record_of (uc_of 1 ∷ uc_of 1 ∷ uc_of 2 ∷ []) ((ld16 x 0 0 ∷ ld 16 0 ∷ []) ∷ []) []) (1 ∷ 0 ∷ []) legal
    ∷ judged (one uc uc (st16 x 1 2 ∷ ld y 2 ∷ [])) (0 ∷ 2 ∷ 1 ∷ []) (breaks 14)
    ∷ judged (two wb wb (sem_acq y 0 1 ∷ []) (st16 x 3 4 ∷ [])) (0 ∷ 1 ∷ 4 ∷ 6 ∷ 5 ∷ 2 ∷ 3 ∷ []) (breaks 16)
    ∷ judged (record_of (wb ∷ wb ∷ wb ∷ []) ((st16 x 1 2 ∷ ld 16 0 ∷ []) ∷ []) []) (2 ∷ 0 ∷ 1 ∷ []) legal
    -- P7: no load sees half of a store of sixteen bytes; search and table
    ∷ searched (two wb wb (st16 x 1 2 ∷ []) (ld16 x 1 0 ∷ [])) [] 1000 forbidden 3 []
    ∷ searched (one wb wb (st16 x 1 2 ∷ ld y 2 ∷ [])) [] 1000 allowed 3 (0 ∷ 1 ∷ 2 ∷ [])
    ∷ tabled (one wb wb (st16 x 1 2 ∷ ld y 2 ∷ [])) (0 ∷ 1 ∷ 1 ∷ 0 ∷ 0 ∷ 0 ∷ 0 ∷ 0 ∷ 0 ∷ [])
    -- P1: instructions grouped by processor, their order kept within each; pairs by the numbers after grouping. The record wanted is put down in the notation
    ∷ composed (on_xy 2 ((1, ld y 0) ∷ (0, st x 1) ∷ (1, sem_acq x 0 1) ∷ (0, ld16 x 0 0) ∷ (0, mf) ∷ []) (3 ∷ 4 ∷ []))
    (record_of (wb ∷ wb ∷ []) ((st x 1 ∷ ld16 x 0 0 ∷ mf ∷ []) ∷ (ld y 0 ∷ sem_acq x 0 1 ∷ []) ∷ []) ((3, 4) ∷ []))
    ∷ composed (on_xy 3 ((1, ld x 0) ∷ []) []) (record_of (wb ∷ wb ∷ []) ([] ∷ (ld x 0 ∷ []) ∷ [] ∷ []) [])
    ∷ composed (sections_from 2 wb [] []) nothing
    -- P1, 23: a section that is not a whole number of entries, also where 24 fails. Twelve bytes are too few for a semaphore, and for size 16 of kinds 0 to 3
    ∷ composed_no (sections_from 1 (0 ∷ wb) [] []) lent 23
    ∷ composed_no (on_xy 1 [] (0 ∷ [])) lent 23
    ∷ composed_no (sections_from 0 wb (replicate 11 0) []) lent 23
    ∷ composed_no (on_xy 1 ((0, short 5 3) ∷ []) []) lent 23
    ∷ composed_no (on_xy 1 ((0, short 6 16) ∷ []) []) lent 23
    ∷ composed_no (on_xy 1 ((0, short 3 16) ∷ []) []) lent 23
    ∷ composed_no (on_xy 1 ((9, mf) ∷ (0, short 0 16) ∷ []) []) lent 23
    -- P1: a semaphore has twenty bytes at any size, also one that question 7 refuses; an mf, and a kind that is not known, counts as twelve
    ∷ composed_no (on_xy 1 ((0, short 5 3 ++ replicate 8 0) ∷ []) []) lent 7
    ∷ composed_no (on_xy 1 ((0, short 6 16 ++ replicate 8 0) ∷ []) []) lent 7
    ∷ composed_no (on_xy 1 ((0, short 4 16) ∷ []) []) lent 7
    ∷ composed_no (on_xy 1 ((0, short 7 16) ∷ (0, short 8 16) ∷ []) []) lent 6
    -- P1, 24: a processor number that is not below P; without an instruction none is asked
    ∷ composed_no (on_xy 2 ((0, mf) ∷ (2, short 7 1) ∷ []) []) lent 24
    ∷ composed_no (on_xy 0 ((0, mf) ∷ []) []) lent 24
    ∷ composed_no (on_xy 0 [] []) lent 2
    ∷ composed_no (on_xy 9 ((8, mf) ∷ []) []) lent 2
    -- P1: the first failed question of the record. A count over 255 is no smaller one: 257 lines are not 1, 256 instructions not none, 256 pairs not none; it
    -- fails where the walk meets it
    ∷ composed_no (sections_from 1 (replicate (257 * 9) 0) [] []) lent 3
    ∷ composed_no (sections_from 1 [] [] []) lent 3
    ∷ composed_no (sections_from 1 wb (replicate (256 * 12) 0) []) lent 5
    ∷ composed_no (on_xy 1 ((0, ld x 0) ∷ []) (replicate (256 * 2) 0)) lent 12
    ∷ composed_no (sections_from 9 (replicate (257 * 9) 0) [] []) lent 2
    ∷ composed_no (on_xy 1 ((0, short 7 1) ∷ []) (replicate (256 * 2) 0)) lent 6
    ∷ composed_no (on_xy 2 (replicate 41 (1, mf) ++ ((0, short 7 1) ∷ [])) []) lent 6
    ∷ composed_no (on_xy 1 ((0, ld x 0) ∷ (0, ld x 0) ∷ (0, ld x 0) ∷ []) (1 ∷ 2 ∷ 0 ∷ 1 ∷ [])) lent 14
    ∷ composed_no (sections_from 1 uc (placed ((0, sem_acq x 0 1) ∷ [])) []) lent 26
    ∷ composed_no (sections_from 1 (uc ++ wb) (placed ((0, st16 x 0 1) ∷ [])) []) lent 27
    -- P1, 25: a buffer shorter than the record, asked last
    ∷ composed_no (sections_from 2 wb [] []) (replicate 13 5) 25
    ∷ composed_no (sections_from 2 (zeros 3) [] []) [] 4
    -- P12: zeros where a load or a semaphore saw something, in both halves of sixteen bytes; what was written stays, and all other bytes do
    ∷ copied (seeing 5 3 6 8) (seeing 0 0 0 0)
    ∷ copied nothing nothing
    -- P12: the record's questions, then 25
    ∷ copied_no nothing (replicate 13 5) 25
    ∷ copied_no (9 ∷ []) [] 2
    -- P9: programs under other numbers, their pairs carried along; the left one is handed back. A pair more, and it is another record
    ∷ compared writer_reader_lem reader_writer_lem equal writer_reader_lem
    ∷ compared (record_of (wb ∷ []) ((st x 1 ∷ []) ∷ reader ∷ []) []) reader_writer_lem left_first (record_of (wb ∷ []) ((st x 1 ∷ []) ∷ reader ∷ []) [])
    -- P9: the same pair of numbers within its program, of one program and of the other
    ∷ compared (two_readers ((0, 1) ∷ [])) (two_readers ((2, 3) ∷ [])) left_first (two_readers ((0, 1) ∷ []))
    -- P9: attribute and initial bytes of a line that no access touches do not count, the number of lines does; an mf touches none, sixteen bytes two
    ∷ compared (on_lines (wb ∷ uc ∷ []) (ld x 0)) (on_lines (wb ∷ (0 ∷ count 1 8) ∷ []) (ld x 0)) equal (on_lines (wb ∷ uc ∷ []) (ld x 0))
    ∷ compared (on_lines (wb ∷ uc ∷ []) (ld x 0)) (on_lines (wb ∷ []) (ld x 0)) right_first (on_lines (wb ∷ []) (ld x 0))
    ∷ compared (on_lines (uc ∷ []) mf) (on_lines (wb ∷ []) mf) equal (on_lines (uc ∷ []) mf)
    ∷ compared (on_lines (uc ∷ []) (ld x 0)) (on_lines (wb ∷ []) (ld x 0)) right_first (on_lines (wb ∷ []) (ld x 0))
    ∷ compared (on_lines (wb ∷ (0 ∷ count 1 8) ∷ []) (ld16 x 0 0)) (on_lines (wb ∷ wb ∷ []) (ld16 x 0 0)) right_first (on_lines (wb ∷ wb ∷ []) (ld16 x 0 0))
    ∷ compared (on_lines (uc ∷ []) (st x 1)) (on_lines (wb ∷ []) (st x 1)) right_first (on_lines (wb ∷ []) (st x 1))
    ∷ compared (on_lines (wb ∷ []) (sem_acq x 0 1)) (on_lines ((0 ∷ count 1 8) ∷ []) (sem_acq x 0 1)) left_first (on_lines (wb ∷ []) (sem_acq x 0 1))
    -- P9: the order is that of the smallest forms. As they are written, the left one of these stands behind the right one
    ∷ compared (three (ld x 2) (ld x 1) (ld x 0)) (three (ld x 0) (ld x 3) (ld x 1)) left_first (three (ld x 2) (ld x 1) (ld x 0))
    -- P9: of equal programs the one with the longer list of pairs comes first, where the other list begins it
    ∷ compared (alike_readers (1 ∷ 2 ∷ [])) (alike_readers (4 ∷ 5 ∷ [])) equal (alike_readers (1 ∷ 2 ∷ []))
    ∷ compared (alike_readers (0 ∷ 2 ∷ 1 ∷ 2 ∷ 3 ∷ 5 ∷ [])) (alike_readers (0 ∷ 2 ∷ 3 ∷ 5 ∷ 4 ∷ 5 ∷ [])) equal (alike_readers (0 ∷ 2 ∷ 1 ∷ 2 ∷ 3 ∷ 5 ∷ []))
    ∷ compared (alike_readers (0 ∷ 2 ∷ 3 ∷ 5 ∷ 4 ∷ 5 ∷ [])) (alike_readers (0 ∷ 2 ∷ 3 ∷ 4 ∷ 4 ∷ 5 ∷ [])) right_first (alike_readers (0 ∷ 2 ∷ 3 ∷ 4 ∷ 4 ∷ 5 ∷ []))
    ∷ compared (alike_readers (0 ∷ 2 ∷ 3 ∷ 5 ∷ 4 ∷ 5 ∷ [])) (alike_readers (0 ∷ 2 ∷ 1 ∷ 2 ∷ 4 ∷ 5 ∷ [])) left_first (alike_readers (0 ∷ 2 ∷ 3 ∷ 5 ∷ 4 ∷ 5 ∷ []))
    -- P9: the left record's question, else the right one's; the empty part is handed back
    ∷ compared_no (9 ∷ []) [] 2
    ∷ compared_no nothing (9 ∷ []) 2
    ∷ compared_no (1 ∷ 9 ∷ []) (9 ∷ []) 3
    ∷ []
