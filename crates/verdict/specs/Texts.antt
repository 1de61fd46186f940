-- Text in a lent buffer, as far as there is room.
use Rattle.std.specs.Prelude.{ℕ, suc, ◌≤◌, min, ◌≡◌, cond, List, [], ◌∷◌, ◌++◌, length, take, drop, set, ltb}

-- the buffer with a text at its front: what has no room is left out, bytes past the text stay
unfoldable pub printed : List ℕ → List ℕ → List ℕ
printed buffer text = take (length buffer) (text ++ drop (length text) buffer)

-- room for the lines of any verdict
abbrev pub lines_limit : ℕ
lines_limit = 4096

-- the lines are printed: the buffer as it is left, how many bytes were written, and that the limit is room for all
pub record Prints (before lines after : List ℕ) (count : ℕ) : Type 0 where
  pub bytes : after ≡ printed before lines
  pub written : count ≡ min (length lines) (length before)
  pub fits : length lines ≤ lines_limit

-- a buffer, and the index where the next byte goes
pub record Text : Type 0 where
  pub buffer : List ℕ
  pub next : ℕ

-- one byte more, where there is room for it
unfoldable pub with_byte : Text → ℕ → Text
with_byte t b =
    let longer : Text = record { buffer = set t.buffer t.next b; next = suc t.next } in
    cond (ltb t.next (length t.buffer)) longer t

-- bytes more, one after the other
unfoldable pub with_bytes : Text → List ℕ → Text
with_bytes t [] = t
with_bytes t (b ∷ bytes) = with_bytes (with_byte t b) bytes

-- the bytes, written from an index on, leave this buffer and this index
pub record Appends (before : List ℕ) (at : ℕ) (bytes : List ℕ) (after : List ℕ) (next : ℕ) : Type 0 where
  pub leaves : record { buffer = after; next = next } ≡ with_bytes (record { buffer = before; next = at }) bytes
