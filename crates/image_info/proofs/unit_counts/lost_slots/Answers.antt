use Rattle.std.proofs.Common.{◌*◌, true, false, sym, ◌∙◌, arith, add-zero}
use Rattle.scan.specs.Scanned.{is_lost}
use Rattle.image_info.proofs.Counted.{count_more, early, late}
use Rattle.image_info.proofs.unit_counts.lost_slots.Goals as goal
use Rattle.image_info.proofs.unit_counts.lost_slots.Goals.{then-epoch_at-cut, else-epoch_at-cut}

pub loop-place-preserved : goal.loop-place-preserved
loop-place-preserved c =
    let test = is_lost c.args.wide.now in
    let first = c.args.unit * c.slots.result in
    let place = c.loop-place.place in
    let few = c.loop-place.invariant.few in
    elim c.if-epoch_at-cut.branch [
      | then-epoch_at-cut w ↦ record {
        counted = count_more test first place c.loop-place.lost _ true c.loop-place.invariant.counted
            (late _ _ _ _ c.saturating_sub-cut.ensures c.epoch_at.ensures w.if-epoch_at-cut.true) w.lost-is;
        few = omega (arith, w.lost-is, few);
      }
      | else-epoch_at-cut w ↦ record {
        counted = count_more test first place c.loop-place.lost _ false c.loop-place.invariant.counted
            (early _ _ _ _ c.saturating_sub-cut.ensures c.epoch_at.ensures w.if-epoch_at-cut.false)
            (w.lost-is ∙ sym (add-zero c.loop-place.lost));
        few = omega (arith, w.lost-is, few);
      }
    ]
