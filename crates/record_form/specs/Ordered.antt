-- The processors of a decoded record, in an order.
use Rattle.std.specs.Prelude.{List, map, take}
use Rattle.model.specs.Renumbering.{Processor, processor_at}
use Rattle.record_decoded.specs.declared.types.Execution.{Execution}
use Rattle.record_decoded.specs.Decoded.{instructions_of, pairs_of}
use Rattle.record_form.specs.declared.sort.Order.{Order}

abbrev pub in_order : Execution → Order → List Processor
in_order x order = map (processor_at (instructions_of x.instructions) (pairs_of x.pairs)) (take x.processors order.processors)
