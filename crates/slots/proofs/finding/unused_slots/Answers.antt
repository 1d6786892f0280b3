use Rattle.std.proofs.Common.{refl, arith}
use Rattle.slots.proofs.Recoverings.{kept_if, unused_of}
use Rattle.slots.proofs.finding.unused_slots.Goals as goal

pub loop-place-preserved : goal.loop-place-preserved
loop-place-preserved c = (
  kept_if _ _ _ _ _ _ _ c.loop-place.invariant.0
      (unused_of c.args.rows.now c.args.marks.now c.args.first c.loop-place.place c.has_nothing-keep.result c.has_nothing-keep.ensures)
      refl c.in_ok-push_if.ensures.items,
  let room = c.in_ok-push_if.ensures.room in omega (arith, c.loop-place.invariant.1),
)
