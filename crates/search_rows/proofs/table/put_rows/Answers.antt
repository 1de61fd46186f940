-- Each turn puts in the row of one operation.
use Prim.Native.Nat.{◌<◌}
use native.Mathlib.Omega.{arith}
use mathlib.Core.Path.{refl, sym, ◌∙◌}
use Rattle.relation_links.proofs.CompiledLaws.{few_lines, few_instructions, accepted_anyhow}
use Rattle.search_rows.proofs.RowLaws.{in_lines}
use Rattle.search_rows.proofs.TableLaws.{filled_none, filled_more, filled}
use borrow.Author.Rules.{rules}
use Rattle.search_rows.proofs.table.put_rows.Goals as goal

pub put_words-requires : goal.put_words-requires
put_words-requires c =
    record {
      bounds = (few_instructions c.args.bytes.now c.args.x c.requires.1, few_lines c.args.bytes.now c.args.x c.requires.1, in_lines c.args.bytes.now c.args.x c.requires.1);
      lengths = (refl, refl, refl);
    }

pub loop-o-init : goal.loop-o-init
loop-o-init c = filled_none c.requires.2

pub row_of-row-requires : goal.row_of-row-requires
row_of-row-requires c = (
  c.requires.0,
  accepted_anyhow c.args.bytes.now c.args.x c.requires.1,
  c.loop-o-test.true,
  record {
    owners_are = refl;
    roles_are = refl;
    kinds_are = refl;
    firsts_are = refl;
    processors_are = refl;
    addresses_are = refl;
    sizes_are = refl;
  },
  c.put_words.ensures.0,
)

pub put_row-requires : goal.put_row-requires
put_row-requires c = (omega (arith, c.loop-o-test.true, (c.requires.0 c.args.bytes.now).tabled.counts, c.requires.1.operations_few), c.loop-o.invariant.long, search rules)

pub overflow_step-o : goal.overflow_step-o
overflow_step-o c =
    let few : c.loop-o.o < 128 = omega (arith, c.loop-o-test.true, (c.requires.0 c.args.bytes.now).tabled.counts, c.requires.1.operations_few) in
    search rules

pub loop-o-smaller : goal.loop-o-smaller
loop-o-smaller c = omega (arith, c.loop-o-test.true)

pub loop-o-preserved : goal.loop-o-preserved
loop-o-preserved c = filled_more c.loop-o.invariant c.loop-o-test.true (omega (arith, (c.requires.0 c.args.bytes.now).tabled.counts, c.requires.1.operations_few)) c.row_of-row.result (c.row_of-row.ensures _ c.put_words.ensures.1) c.put_row.ensures

pub shape_of-rows : goal.shape_of-rows
shape_of-rows c = c.loop-o.invariant.long ∙ sym c.requires.2

pub returns : goal.returns
returns c = filled c.loop-o.invariant c.loop-o-test.false (c.requires.0 _) (c.requires.0 _).tabled.counts c.known_data.ensures c.known_bytes.ensures
