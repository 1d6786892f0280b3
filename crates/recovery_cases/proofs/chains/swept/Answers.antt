use Rattle.std.proofs.Common.{refl, inl, inr}
use Rattle.mont_image.specs.declared.stored_image.Image.{Image}
use Rattle.recovery_cases.specs.Leftovers.{HoldsSame}
use Rattle.recovery_cases.proofs.Leaving.{at_some, left_behind, same_at_last}
use Rattle.recovery_cases.proofs.chains.swept.Goals as goal

pub loop-init : goal.loop-init
loop-init g c = record { new = c.requires; goes_on = inl refl }

pub behind_cut-requires-after_bounds : goal.behind_cut-requires-after_bounds
behind_cut-requires-after_bounds g c κs within = c.loop.invariant.new

pub loop-preserved : goal.loop-preserved
loop-preserved g c =
    let same = at_some c.in_ok-image.field-0 c.in-Some.image (λ (x : Image). HoldsSame c.loop.left x) c.in-Some.is c.in_ok-image.ensures in
    record { new = same.new; goes_on = inr (same_at_last c.args.image c.loop.left c.in-Some.image c.loop.invariant.goes_on same) }

pub behind_whole-requires-after_bounds : goal.behind_whole-requires-after_bounds
behind_whole-requires-after_bounds g c κs within = c.loop.invariant.new

pub returns : goal.returns
returns g c = left_behind c.behind_whole.result c.args.image c.loop.left c.loop.invariant.goes_on c.behind_whole.ensures
