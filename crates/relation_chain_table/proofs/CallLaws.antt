-- The table that the call leaves, by place: where the record is accepted and the table has room, a mark is 1 exactly where a path of links leads.
use Prim.Native.Nat.{ℕ, ◌+◌, ◌*◌, ◌<◌, ◌≤◌}
use native.Mathlib.Omega.{arith}
use mathlib.Core.Path.{◌≡◌, sym, ap, ◌∙◌}
use mathlib.Core.List.{List, ◌++◌, map}
use lib.ListN.{length, get_or, drop, length-map, get_or-append}
use borrow.Author.Tests.{le-leb}
use Rattle.base.specs.Lists.{below}
use Rattle.base.proofs.Lists.{length_count, getD_below}
use Rattle.model.specs.Execution.{Execution, operations}
use Rattle.model.specs.Questions.{found, read_record}
use Rattle.model.specs.Rules.{Link, links_of, linked}
use Rattle.model.specs.Chains.{chain_mark, chain_marks}
use Rattle.model.specs.Calls.{says, and_then, asks, answer_of, read_all, done, table_marks, tabling, table_reply, table_call}
use Rattle.model.proofs.Accepted.{accepted, read_found}
use Rattle.relation_chain_table.specs.Paths.{mark, BytesArePaths, ChainsArePaths}
use Rattle.relation_chain_table.proofs.LinkedLaws.{chain_marks_are_paths}
use Rattle.relation_chain_table.proofs.RowLaws.{in_square, rows_length, rows_at}

-- mark (a, b) stands at a × n + b
module _ (n : ℕ) (links : List Link) where
  row_long : (a : ℕ) → length (map (chain_mark n links a) (below n)) ≡ n
  unfolding below
  row_long a = length-map (below n) (chain_mark n links a) ∙ length_count 0 n

  pub marks_length : length (chain_marks n links) ≡ n * n
  unfolding chain_marks
  marks_length = rows_length (λ a. map (chain_mark n links a) (below n)) n row_long n

  pub mark_at_lem : (a b : ℕ) → a < n → b < n → get_or (chain_marks n links) (a * n + b) 0 ≡ chain_mark n links a b
  unfolding chain_marks
  mark_at_lem a b h l =
      rows_at (λ a. map (chain_mark n links a) (below n)) n row_long n a b h l ∙ getD_below (chain_mark n links a) 0 n b l

module _ (bytes table : List ℕ) (e : Execution) (rest : List ℕ) (read : read_record bytes ≡ found e rest) (room : operations e * operations e ≤ length table) where
  abbrev links : List Link
  links = links_of e (linked e)

  -- what the call answers, and the table that it leaves
  pub table_done : (table_call bytes table).answer ≡ says done
  unfolding table_call tabling read_all table_marks table_reply answer_of and_then asks
  table_done = rw (read, le-leb (operations e * operations e) (length table) room)

  pub table_left : (table_call bytes table).table ≡ chain_marks (operations e) links ++ drop (length (chain_marks (operations e) links)) table
  unfolding table_call tabling read_all table_marks table_reply answer_of and_then asks
  table_left = rw (read, le-leb (operations e * operations e) (length table) room)

  -- each of its marks
  pub mark_left : (a b : ℕ) → a < operations e → b < operations e → mark (operations e) (table_call bytes table).table a b ≡ chain_mark (operations e) links a b
  mark_left a b h l =
      let marks = chain_marks (operations e) links in
      ap (λ (t : List ℕ). mark (operations e) t a b) table_left
      ∙ get_or-append marks (drop (length marks) table) 0 (a * operations e + b) (omega (arith, marks_length (operations e) links, in_square a b (operations e) h l))
      ∙ mark_at_lem (operations e) links a b h l

  pub bytes_are_paths : BytesArePaths (operations e) links (table_call bytes table).table
  bytes_are_paths a b h l =
      let there = mark_left a b h l in
      let both = chain_marks_are_paths e (accepted bytes e rest read) a b h l in
      (λ t. both.0 (sym there ∙ t), λ p. there ∙ both.1 p)

pub chains_are_paths : ChainsArePaths
chains_are_paths bytes table e h room = let (rest, f) = read_found bytes e h in bytes_are_paths bytes table e rest f room
