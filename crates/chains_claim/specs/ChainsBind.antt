-- Why a mark of the chain table may be quoted (document 02, P5): what the marks say of the orders of a record, and the claim that this holds for every accepted one.
use Rattle.std.specs.Prelude.{ℕ, ◌*◌, ◌≤◌, ◌<◌, ◌≡◌, Bool, true, ◌↔◌, ◌⊎◌, length}
use mathlib.Core.List.{List, [], ◌∷◌, Memᴰ}
use Rattle.base.specs.Orders.{OrderOf}
use Rattle.model.specs.Execution.{Execution, Operation, operations}
use Rattle.model.specs.Rules.{before, link1, link2, link3, link4, link5, link6, link7, link8, link13, link15, ◌≺◌, links_of}
use Rattle.model.specs.Calls.{says, read_all, Legal, done, table_call}
use Rattle.relation_chain_table.specs.Paths.{mark}

-- the rules that are links: 1 to 8, 13 and 15
abbrev pub link_rules : Execution → List (Operation → Operation → Bool)
link_rules e =
    link1 ∷ link2 ∷ link3 ∷ link4 ∷ link5 ∷ link6 ∷ link7 ∷ link8 e ∷ link13 e ∷ link15 ∷ []

-- an order keeps every link: wherever one of these rules requires 'a before b', it puts a before b
abbrev pub KeepsLinks : Execution → List ℕ → Type 0
KeepsLinks e order =
    (link : Operation → Operation → Bool) → Memᴰ link (link_rules e)
    → (a b : ℕ) → Memᴰ (a ≺ b) (links_of e link) → before order a b ≡ true

-- a linear extension of the links: an order of all the operations that keeps every link
abbrev pub LinearExtension : Execution → List ℕ → Type 0
LinearExtension e order = OrderOf (operations e) order × KeepsLinks e order

-- What the marks of a table say of the orders of a record that holds the execution e. Operations a and b are given by number, below N.
pub record Binds (bytes : List ℕ) (e : Execution) (table : List ℕ) : Type 0 where
  -- Each mark is 0 or 1.
  pub zero_or_one : (a b : ℕ) → a < operations e → b < operations e
      → (mark (operations e) table a b ≡ 0) ⊎ (mark (operations e) table a b ≡ 1)
  -- Where mark (a, b) is 1, every legal order has a before b.
  pub in_every_legal_order : (a b : ℕ) → a < operations e → b < operations e → mark (operations e) table a b ≡ 1
      → (order : List ℕ) → Legal bytes order → before order a b ≡ true
  -- Every mark on the diagonal is 0: none is 1.
  pub diagonal : (a : ℕ) → a < operations e → mark (operations e) table a a ≡ 0
  -- Nothing is missing: where a and b differ, mark (a, b) is 0 exactly where some order of all the operations keeps every link and puts b before a.
  -- (The converse, which P5 does not ask for: nor is a mark of 1 too many.)
  pub nothing_missing : (a b : ℕ) → a < operations e → b < operations e → (a ≡ b → ⊥)
      → (mark (operations e) table a b ≡ 0) ↔ ((order : List ℕ) × LinearExtension e order × (before order b a ≡ true))

-- For every accepted record, and every table with room for its marks (question 22): the call answers done, and the marks that it leaves there bind the orders.
abbrev pub ChainsBind : Type 0
ChainsBind =
    (bytes table : List ℕ) (e : Execution) → read_all bytes ≡ says e → operations e * operations e ≤ length table
    → ((table_call bytes table).answer ≡ says done) × Binds bytes e (table_call bytes table).table
