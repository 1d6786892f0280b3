use Rattle.std.proofs.Common.{◌≡◌, ◌-◌, ap, ◌∙◌, subst, arith, refl, rules}
use Rattle.std.specs.Prelude.{slice_get, Some}
use Rattle.std.specs.List.{flat_map}
use Rattle.std.proofs.lemmas.Option.{slice_get_read}
use Rattle.core_steps.specs.Clock.{clock}
use Rattle.core_steps.specs.Flushing.{unit_list}
use Rattle.core_run.proofs.FlushPlaces.{row_in_lists}
use Rattle.core_run.proofs.flushing.listed_at.Goals as goal

pub returns-in-Ok : goal.returns-in-Ok
returns-in-Ok c =
    let units = c.args.core.now.units in
    let same : c.saturating_sub-epoch.result ≡ clock c.args.core.now - 1 = omega (arith, c.saturating_sub-epoch.ensures, c.clock.ensures) in
    subst (λ x. slice_get (flat_map (unit_list x) units) c.args.place ≡ Some c.in-Ok.slot) same
    (ap (slice_get (flat_map (unit_list c.saturating_sub-epoch.result) units)) c.loop-part.invariant
    ∙ row_in_lists (unit_list c.saturating_sub-epoch.result) units c.loop-part.part-index c.part-item.result c.loop-part.left c.in-Ok.slot
    (slice_get_read units _ c.loop-part.part-index c.part-item.result refl (search rules) (search rules)) c.in-Ok.ensures)
