-- Each turn puts one entry where it is the processor's.
use Prim.Native.Nat.{◌-◌}
use native.Mathlib.Omega.{arith}
use mathlib.Core.Path.{◌≡◌}
use lib.ListN.{length, drop, length-drop}
use Rattle.std.proofs.Common.{rules}
use Rattle.std.proofs.lemmas.Slice.{put_mid-paste}
use Rattle.base.proofs.Copies.{rest}
use Rattle.record_writer.proofs.EntryLaws.{putting_starts, entry_some, putting_room, putting_more, putting_other, putting_ends}
use Rattle.record_writer.proofs.entries.put_entries.Goals as goal

pub loop-entry-init : goal.loop-entry-init
loop-entry-init c = (tt, tt, putting_starts (search rules) c.requires.0 c.requires.1)

pub overflow_sub-bytes : goal.overflow_sub-bytes
overflow_sub-bytes c = omega (arith, entry_some c.loop-entry.invariant.2 c.in-Some.ensures.steps)

pub slice_bounds-copy_from_slice-end : goal.slice_bounds-copy_from_slice-end
slice_bounds-copy_from_slice-end c =
    let room = putting_room c.loop-entry.invariant.2 c.in-Some.ensures.steps (search rules) in
    search rules

pub slice_bounds-copy_from_slice-count-then-byte_at-p : goal.slice_bounds-copy_from_slice-count-then-byte_at-p
slice_bounds-copy_from_slice-count-then-byte_at-p c = omega (arith, entry_some c.loop-entry.invariant.2 c.in-Some.ensures.steps)

pub slice_bounds-copy_from_slice-start-then-byte_at-p : goal.slice_bounds-copy_from_slice-start-then-byte_at-p
slice_bounds-copy_from_slice-start-then-byte_at-p c =
    let some = entry_some c.loop-entry.invariant.2 c.in-Some.ensures.steps in
    search rules

pub loop-entry-preserved-then-byte_at-p : goal.loop-entry-preserved-then-byte_at-p
loop-entry-preserved-then-byte_at-p c =
    let inv = c.loop-entry.invariant.2 in
    let taken = c.in-Some.ensures.steps in
    let entry = c.in-Some.entry.now in
    let behind = rest 1 entry in
    let bytes : c.copy_from_slice.new.self ≡ drop 1 entry = search rules in (
      tt,
      tt,
      putting_more inv taken (search rules)
          (put_mid-paste c.loop-entry.next _ c.loop-entry.out c.copy_from_slice.new.self (drop 1 entry) (length entry - 1) bytes (omega arith) (omega (arith, length-drop 1 entry))),
    )

pub loop-entry-preserved : goal.loop-entry-preserved
loop-entry-preserved c = (tt, tt, putting_other c.loop-entry.invariant.2 c.in-Some.ensures.steps (search rules))

pub returns : goal.returns
returns c = putting_ends c.loop-entry.invariant.2 c.in-None.ensures.steps.0
