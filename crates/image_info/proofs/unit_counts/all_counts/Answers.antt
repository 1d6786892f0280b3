use Rattle.std.proofs.Common.{◌≡◌, ℕ, [], ◌∷◌, List, length, sym, ap, ◌∙◌, subst, arith}
use Rattle.std.specs.Prelude.{Some, slice_get}
use Rattle.std.proofs.lemmas.List.{length-append}
use Rattle.plain.proofs.Recovered.{each_more}
use Rattle.image_info.specs.declared.unit_counts.UnitCounts.{UnitCounts}
use Rattle.image_info.specs.UnitCounts.{AreCounts}
use Rattle.image_info.proofs.unit_counts.all_counts.Goals as goal

pub loop-unit-preserved : goal.loop-unit-preserved
loop-unit-preserved c =
    let s = c.args.layout in
    let wide = c.args.wide.now in
    let so_far = c.loop-unit.invariant in
    let own = c.in_ok-counts_of.field-0 in
    record {
      many = omega (
        arith,
        so_far.many,
        ap length c.in_ok-push.ensures.items ∙ length-append c.loop-unit.counts.items (own ∷ []),
      );
      each = subst (λ (cs : List UnitCounts). (unit : ℕ) (n : UnitCounts) → slice_get cs unit ≡ Some n → AreCounts s wide unit n)
          (sym c.in_ok-push.ensures.items)
          (each_more (AreCounts s wide) c.loop-unit.counts.items own so_far.each
          (subst (λ (unit : ℕ). AreCounts s wide unit own) (sym so_far.many) c.in_ok-counts_of.ensures));
    }
