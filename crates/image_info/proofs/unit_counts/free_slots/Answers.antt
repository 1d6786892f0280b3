use Rattle.std.proofs.Common.{◌*◌, true, false, sym, ◌∙◌, arith, add-zero, eq-eqb, ne_eqb}
use Rattle.image_info.specs.UnitCounts.{is_free}
use Rattle.image_info.proofs.Counted.{count_more}
use Rattle.image_info.proofs.unit_counts.free_slots.Goals as goal
use Rattle.image_info.proofs.unit_counts.free_slots.Goals.{then-epoch_at-eq0, else-epoch_at-eq0}

pub loop-place-preserved : goal.loop-place-preserved
loop-place-preserved c =
    let test = is_free c.args.wide.now in
    let first = c.args.unit * c.slots.result in
    let place = c.loop-place.place in
    let few = c.loop-place.invariant.few in
    elim c.if-epoch_at-eq0.branch [
      | then-epoch_at-eq0 w ↦ record {
        counted = count_more test first place c.loop-place.free _ true c.loop-place.invariant.counted
            (eq-eqb _ 0 (sym c.epoch_at.ensures ∙ w.if-epoch_at-eq0.true)) w.free-is;
        few = omega (arith, w.free-is, few);
      }
      | else-epoch_at-eq0 w ↦ record {
        counted = count_more test first place c.loop-place.free _ false c.loop-place.invariant.counted
            (ne_eqb _ 0 (λ e. w.if-epoch_at-eq0.false (c.epoch_at.ensures ∙ e))) (w.free-is ∙ sym (add-zero c.loop-place.free));
        few = omega (arith, w.free-is, few);
      }
    ]
