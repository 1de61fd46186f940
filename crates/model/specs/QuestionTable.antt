-- For each question, records and calls that it refuses and others, as near as can be, that it passes.
use Rattle.std.specs.Prelude.{ℕ, ◌+◌, List, [], ◌∷◌, ◌++◌, map, take, drop, replicate}
use Rattle.base.specs.Lists.{for, count, below}
use Rattle.model.specs.Notation.{x, y, wb, uc, wc, uc_of, zeros, ld, st, mf, entry, sem_acq, sem_rel, entry16, ld16, st16, record_of}
use Rattle.model.specs.Rows.{Row, judged_no, searched_no, tabled_no, cut}
use Rattle.model.specs.PaperTable.{k1, k2, k11_pair}
use Rattle.model.specs.RequestTable.{nothing}

-- the record is refused with this number
abbrev refused : List ℕ → ℕ → Row
refused bytes q = judged_no bytes [] q

-- a record with an instruction passes questions 1 to 15, 26 and 27: it is its empty order that is refused
abbrev passes : List ℕ → Row
passes bytes = judged_no bytes [] 16

-- one processor, one line, one instruction
abbrev only : List ℕ → List ℕ
only i = record_of (wb ∷ []) ((i ∷ []) ∷ []) []

-- these lines and one instruction
abbrev on : List (List ℕ) → List ℕ
on lines = record_of lines ((ld x 0 ∷ []) ∷ []) []

-- one line and these programs
abbrev programs : List (List (List ℕ)) → List ℕ
programs ps = record_of (wb ∷ []) ps []

-- on two processors: ld x, st x, ld x, mf, st x; ld x
abbrev pairs : List (ℕ × ℕ) → List ℕ
pairs ps = record_of (wb ∷ []) ((ld x 0 ∷ st x 1 ∷ ld x 0 ∷ mf ∷ st x 2 ∷ []) ∷ (ld x 0 ∷ []) ∷ []) ps

-- ten loads and the first n pairs of them
abbrev many_pairs : ℕ → List ℕ
many_pairs n = record_of (wb ∷ []) (replicate 10 (ld x 0) ∷ []) (take n (for (below 9) (λ a. map (λ d. (a, d)) (drop (1 + a) (below 10)))))

-- eight processors; stores and loads on the first
abbrev eight : ℕ → ℕ → List ℕ
eight stores loads = programs ((replicate stores (st x 1) ++ replicate loads (ld x 0)) ∷ replicate 7 [])

-- an entry of which eight bytes are missing, where its kind and size have them
abbrev cut_short : ℕ → ℕ → List ℕ
cut_short kind size = 1 ∷ 1 ∷ wb ++ (1 ∷ entry kind 0 size 0)

-- a load of sixteen bytes on two lines
abbrev over : List ℕ → List ℕ → List ℕ
over first second = record_of (first ∷ second ∷ []) ((ld16 x 0 0 ∷ []) ∷ []) []

-- a semaphore that saw one byte, with a spare byte that is not zero
abbrev spare_seen : List ℕ
spare_seen = (5 ∷ 0 ∷ 1 ∷ 5 ∷ 1 ∷ replicate 6 0) ++ (5 ∷ replicate 7 0)

unfoldable pub question_table : List Row
question_table =
    -- 1: before each item, and before the item's own questions
    cut k11_pair 1
    ∷ refused (1 ∷ 1 ∷ 9 ∷ 0 ∷ []) 1
    ∷ refused (1 ∷ 1 ∷ wb ++ (1 ∷ 9 ∷ 0 ∷ [])) 1
    -- 2: 1 to 8 processors
    ∷ refused (0 ∷ []) 2
    ∷ refused (9 ∷ []) 2
    ∷ passes (programs (replicate 7 [] ++ ((ld x 0 ∷ []) ∷ [])))
    -- 3: 1 to 8 lines
    ∷ refused (1 ∷ 0 ∷ []) 3
    ∷ refused (1 ∷ 9 ∷ []) 3
    ∷ passes (record_of (replicate 8 wb) ((ld 63 0 ∷ []) ∷ []) [])
    -- 4: attributes 0, 1, 2, 17, 33 and 49, of each line
    ∷ refused (on (wb ∷ zeros 3 ∷ [])) 4
    ∷ refused (on (zeros 16 ∷ [])) 4
    ∷ refused (on (zeros 18 ∷ [])) 4
    ∷ refused (on (zeros 50 ∷ [])) 4
    ∷ refused (on (uc_of 4 ∷ [])) 4
    ∷ refused (on (zeros 255 ∷ [])) 4
    ∷ passes (on (wb ∷ uc ∷ wc ∷ zeros 17 ∷ zeros 33 ∷ zeros 49 ∷ []))
    -- 5: 40 instructions over all
    ∷ refused (programs (replicate 41 (ld x 0) ∷ [])) 5
    ∷ refused (programs (replicate 40 (ld x 0) ∷ (ld x 0 ∷ []) ∷ [])) 5
    ∷ passes (programs (replicate 39 (ld x 0) ∷ (ld x 0 ∷ []) ∷ []))
    -- 6: kinds 0 to 6
    ∷ refused (only (entry 7 0 1 0)) 6
    ∷ refused (only (entry 255 0 1 0)) 6
    ∷ passes (only mf)
    ∷ passes (only (sem_acq x 0 1))
    ∷ passes (only (sem_rel x 0 1))
    -- 1 of a semaphore: eleven bytes before 6 and 7, the other eight after 7
    ∷ refused (cut_short 7 0) 6
    ∷ refused (cut_short 5 3) 7
    ∷ refused (cut_short 5 1) 1
    ∷ refused (cut_short 6 8) 1
    ∷ cut (only (sem_acq x 0 1)) 1
    -- and so of an access of size 16, the other eight before 8
    ∷ refused (cut_short 0 16) 1
    ∷ refused (cut_short 3 16) 1
    ∷ refused (cut_short 5 16) 7
    ∷ refused (cut_short 4 16) 7
    ∷ refused (take 30 (only (st16 x 1 1))) 1
    ∷ refused (only (st16 x 1 1)) 8
    ∷ cut (over wb wb) 1
    -- 7: sizes 1, 2, 4, 8 and 16, of an mf 0, of a semaphore not 16
    ∷ refused (only (entry 0 0 0 0)) 7
    ∷ refused (only (entry 0 0 3 0)) 7
    ∷ refused (only (entry 0 0 15 0)) 7
    ∷ refused (only (entry 0 0 32 0)) 7
    ∷ refused (only (entry 4 0 1 0)) 7
    ∷ refused (only (entry16 4 0 0 0)) 7
    ∷ refused (only (entry16 5 0 0 0)) 7
    ∷ refused (only (entry16 6 0 0 0)) 7
    ∷ passes (record_of (wb ∷ wb ∷ []) ((ld16 x 0 0 ∷ entry16 1 0 0 0 ∷ st16 x 1 1 ∷ entry16 3 0 1 1 ∷ []) ∷ []) [])
    ∷ passes (programs ((ld x 0 ∷ entry 0 6 2 0 ∷ entry 0 4 4 0 ∷ entry 0 0 8 0 ∷ []) ∷ []))
    -- 8: a multiple of the size, within the lines, of an mf 0
    ∷ refused (only (entry 0 4 8 0)) 8
    ∷ refused (only (entry 0 1 2 0)) 8
    ∷ refused (only (ld 8 0)) 8
    ∷ refused (only (entry 4 8 0 0)) 8
    ∷ refused (only (entry 4 1 0 0)) 8
    ∷ passes (only (ld 7 0))
    ∷ refused (record_of (replicate 3 wb) ((ld16 8 0 0 ∷ []) ∷ []) []) 8
    ∷ refused (record_of (replicate 3 wb) ((ld16 16 0 0 ∷ []) ∷ []) []) 8
    ∷ passes (record_of (replicate 4 wb) ((ld16 16 0 0 ∷ []) ∷ []) [])
    -- 26: a semaphore's line is WB; after 8, before 9
    ∷ refused (record_of (uc ∷ []) ((sem_acq x 0 1 ∷ []) ∷ []) []) 26
    ∷ refused (record_of (wc ∷ []) ((sem_rel x 0 1 ∷ []) ∷ []) []) 26
    ∷ refused (record_of (wb ∷ uc ∷ []) ((sem_rel x 0 1 ∷ sem_rel y 0 1 ∷ []) ∷ []) []) 26
    ∷ passes (record_of (uc ∷ wb ∷ []) ((st x 1 ∷ sem_rel y 0 1 ∷ []) ∷ []) [])
    ∷ refused (record_of (uc ∷ []) ((sem_acq y 0 1 ∷ []) ∷ []) []) 8
    ∷ refused (record_of (uc ∷ []) ((spare_seen ∷ []) ∷ []) []) 26
    -- 27: both lines of an access have one attribute byte, so one domain; after 8
    ∷ refused (over wb uc) 27
    ∷ refused (over wc wb) 27
    ∷ refused (over (uc_of 1) (uc_of 2)) 27
    ∷ passes (over wc wc)
    ∷ passes (over (uc_of 2) (uc_of 2))
    ∷ refused (record_of (wb ∷ wb ∷ wb ∷ uc ∷ []) ((st16 16 1 1 ∷ []) ∷ []) []) 27
    ∷ passes (record_of (wb ∷ uc ∷ wc ∷ wc ∷ []) ((st16 16 1 1 ∷ []) ∷ []) [])
    ∷ passes (record_of (wb ∷ uc ∷ []) ((entry 0 0 8 0 ∷ entry 2 8 8 0 ∷ []) ∷ []) [])
    ∷ refused (record_of (wb ∷ uc ∷ wb ∷ []) ((ld16 8 0 0 ∷ []) ∷ []) []) 8
    -- 9: data bytes past the size are zero; size 16 leaves none
    ∷ refused (only (0 ∷ 0 ∷ 1 ∷ 5 ∷ 1 ∷ 0 ∷ 0 ∷ 0 ∷ 0 ∷ 0 ∷ 0 ∷ [])) 9
    ∷ refused (only (0 ∷ 0 ∷ 4 ∷ 5 ∷ 1 ∷ 1 ∷ 1 ∷ 0 ∷ 0 ∷ 0 ∷ 1 ∷ [])) 9
    ∷ refused (only (0 ∷ 0 ∷ 1 ∷ 5 ∷ 0 ∷ 0 ∷ 0 ∷ 0 ∷ 0 ∷ 0 ∷ 1 ∷ [])) 9
    ∷ refused (only (entry 4 0 0 1)) 9
    ∷ refused (only spare_seen) 9
    ∷ refused (only (entry 6 0 1 5 ++ (5 ∷ 1 ∷ replicate 6 0))) 9
    ∷ refused (only (entry 6 0 1 5 ++ (5 ∷ replicate 6 0 ++ (1 ∷ [])))) 9
    ∷ passes (only (5 ∷ 0 ∷ 8 ∷ count 1 16))
    ∷ passes (only (2 ∷ 0 ∷ 8 ∷ 1 ∷ 2 ∷ 3 ∷ 4 ∷ 5 ∷ 6 ∷ 7 ∷ 8 ∷ []))
    ∷ passes (record_of (wb ∷ wb ∷ []) (((2 ∷ 0 ∷ 16 ∷ count 1 16) ∷ []) ∷ []) [])
    -- 10 is not asked: a record with no instruction passes (`RequestTable`), and where it is cut it is refused as any other
    ∷ cut nothing 1
    -- 11: 128 operations
    ∷ passes (eight 14 0)
    ∷ refused (eight 15 0) 11
    ∷ passes (eight 14 2)
    ∷ refused (eight 14 3) 11
    -- a semaphore has 2 + P
    ∷ passes (programs (replicate 12 (sem_acq x 0 1) ∷ replicate 8 (ld x 0) ∷ replicate 6 []))
    ∷ refused (programs (replicate 12 (sem_acq x 0 1) ∷ replicate 9 (ld x 0) ∷ replicate 6 [])) 11
    -- 12: 40 pairs
    ∷ passes (many_pairs 40)
    ∷ refused (many_pairs 41) 12
    -- 13: first below second, in one program, no mf, not both stores
    ∷ passes (pairs ((0, 1) ∷ (0, 2) ∷ (0, 4) ∷ (1, 2) ∷ (2, 4) ∷ []))
    ∷ refused (pairs ((1, 0) ∷ [])) 13
    ∷ refused (pairs ((1, 1) ∷ [])) 13
    ∷ refused (pairs ((0, 6) ∷ [])) 13
    ∷ refused (pairs ((2, 5) ∷ [])) 13
    ∷ refused (pairs ((0, 3) ∷ [])) 13
    ∷ refused (pairs ((3, 4) ∷ [])) 13
    ∷ refused (pairs ((1, 4) ∷ [])) 13
    -- a semaphore is no store here
    ∷ passes (record_of (wb ∷ []) ((st x 1 ∷ sem_rel x 1 2 ∷ sem_acq x 2 3 ∷ st x 4 ∷ []) ∷ []) ((0, 1) ∷ (1, 2) ∷ (2, 3) ∷ []))
    ∷ refused (record_of (wb ∷ []) ((st x 1 ∷ sem_rel x 1 2 ∷ sem_acq x 2 3 ∷ st x 4 ∷ []) ∷ []) ((0, 3) ∷ [])) 13
    -- 14: above the one before it
    ∷ refused (pairs ((0, 1) ∷ (0, 1) ∷ [])) 14
    ∷ refused (pairs ((0, 2) ∷ (0, 1) ∷ [])) 14
    ∷ refused (pairs ((0, 1) ∷ (1, 2) ∷ (0, 4) ∷ [])) 14
    -- 15: the end
    ∷ refused (k1 ++ (0 ∷ [])) 15
    -- 16: N entries
    ∷ judged_no k1 (0 ∷ 1 ∷ []) 16
    ∷ judged_no k1 (0 ∷ 1 ∷ 2 ∷ 3 ∷ []) 16
    ∷ judged_no nothing (0 ∷ []) 16
    -- 17: below N, and different
    ∷ judged_no k1 (0 ∷ 1 ∷ 3 ∷ []) 17
    ∷ judged_no k1 (0 ∷ 1 ∷ 0 ∷ []) 17
    -- 18: N bytes of buffer
    ∷ searched_no k2 (9 ∷ 9 ∷ []) 4 18
    -- 19: a saved length of at most N
    ∷ searched_no k2 (0 ∷ 0 ∷ 9 ∷ 9 ∷ []) 4 19
    ∷ searched_no k2 (0 ∷ 0 ∷ 9 ∷ []) 4 19
    ∷ searched_no nothing [] 1 19
    ∷ searched_no nothing (0 ∷ []) 1 19
    -- 20: the saved entries below N, and different
    ∷ searched_no k2 (2 ∷ 2 ∷ 9 ∷ []) 2 20
    ∷ searched_no k2 (2 ∷ 3 ∷ 9 ∷ []) 2 20
    ∷ searched_no k2 (0 ∷ 1 ∷ 0 ∷ []) 3 20
    -- 21: the saved position is consistent
    ∷ searched_no k2 (1 ∷ 9 ∷ 9 ∷ []) 1 21
    ∷ searched_no k2 (0 ∷ 1 ∷ 2 ∷ []) 3 21
    -- a call's own questions come after the record's
    ∷ searched_no (k1 ++ (0 ∷ [])) [] 4 15
    -- 22: N × N bytes of table
    ∷ tabled_no k1 (replicate 8 5) 22
    ∷ tabled_no (9 ∷ []) (replicate 9 5) 2
    ∷ []
