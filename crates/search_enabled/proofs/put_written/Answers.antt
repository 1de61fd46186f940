-- The set of its first word, and that of its second.
use Rattle.search_sets.specs.Tables.{set_at}
use Rattle.search_enabled.proofs.AffectLaws.{written_one, written_two}
use Rattle.search_enabled.proofs.put_written.Goals as goal

pub returns-then-field_of-ne0 : goal.returns-then-field_of-ne0
returns-then-field_of-ne0 c =
    λ p k. written_two c.args.rows.now c.args.a.0 p k (set_at c.args.writers.now p k) c.word_of.ensures.0 c.field_of.ensures (c.put_writer.ensures p k) c.if-field_of-ne0.true c.word_of-then-field_of-ne0.ensures.0 (c.put_writer-then-field_of-ne0.ensures p k)

pub returns-else-field_of-ne0 : goal.returns-else-field_of-ne0
returns-else-field_of-ne0 c =
    λ p k. written_one c.args.rows.now c.args.a.0 p k (set_at c.args.writers.now p k) c.word_of.ensures.0 c.field_of.ensures (c.put_writer.ensures p k) c.if-field_of-ne0.false
