-- Records written as the papers write executions: `record_of lines programs pairs` gives the bytes.
use Rattle.std.specs.Prelude.{ℕ, ◌+◌, ◌*◌, List, [], ◌∷◌, ◌++◌, length, replicate}
use Rattle.base.specs.Lists.{for}

-- x is address 0, y address 8
abbrev pub x : ℕ
x = 0

abbrev pub y : ℕ
y = 8

-- a line of zeros
unfoldable pub zeros : ℕ → List ℕ
zeros attribute = attribute ∷ replicate 8 0

abbrev pub wb : List ℕ
wb = zeros 0

abbrev pub uc : List ℕ
uc = zeros 1

abbrev pub wc : List ℕ
wc = zeros 2

-- a UC line of domain d; `uc` is of domain 0
abbrev pub uc_of : ℕ → List ℕ
uc_of d = zeros (1 + 16 * d)

-- an entry with one byte of data
abbrev pub entry : ℕ → ℕ → ℕ → ℕ → List ℕ
entry kind address size value = kind ∷ address ∷ size ∷ value ∷ replicate 7 0

-- the value seen or written, of size 1
abbrev pub ld : ℕ → ℕ → List ℕ
ld address value = entry 0 address 1 value

abbrev pub ld_acq : ℕ → ℕ → List ℕ
ld_acq address value = entry 1 address 1 value

abbrev pub st : ℕ → ℕ → List ℕ
st address value = entry 2 address 1 value

abbrev pub st_rel : ℕ → ℕ → List ℕ
st_rel address value = entry 3 address 1 value

abbrev pub mf : List ℕ
mf = entry 4 0 0 0

-- a semaphore with one byte seen and one written
abbrev pub semaphore : ℕ → ℕ → ℕ → ℕ → List ℕ
semaphore kind address sees writes = entry kind address 1 sees ++ (writes ∷ replicate 7 0)

abbrev pub sem_acq : ℕ → ℕ → ℕ → List ℕ
sem_acq address sees writes = semaphore 5 address sees writes

abbrev pub sem_rel : ℕ → ℕ → ℕ → List ℕ
sem_rel address sees writes = semaphore 6 address sees writes

-- an access of sixteen bytes, with one byte in its lower and one in its upper half
abbrev pub entry16 : ℕ → ℕ → ℕ → ℕ → List ℕ
entry16 kind address low high = entry kind address 16 low ++ (high ∷ replicate 7 0)

abbrev pub ld16 : ℕ → ℕ → ℕ → List ℕ
ld16 address low high = entry16 0 address low high

abbrev pub st16 : ℕ → ℕ → ℕ → List ℕ
st16 address low high = entry16 2 address low high

abbrev pub st16_rel : ℕ → ℕ → ℕ → List ℕ
st16_rel address low high = entry16 3 address low high

unfoldable pub record_of : List (List ℕ) → List (List (List ℕ)) → List (ℕ × ℕ) → List ℕ
record_of lines programs pairs =
    length programs ∷ length lines ∷ for lines (λ l. l)
    ++ for programs (λ p. length p ∷ for p (λ i. i))
    ++ (length pairs ∷ for pairs (λ p. p.0 ∷ p.1 ∷ []))
