-- What every image that a crash permits holds of a sound core.
use Rattle.std.specs.Prelude.{◌≡◌, ℕ, ◌≤◌, List, take, slice_get, All, Some}
use Rattle.mont_base.specs.declared.operation.Entry.{Entry}
use Rattle.mont_base.specs.Image.{IsPermitted, clock_of, cut_of, records_of, IsWellFormed}
use Rattle.mont_base.specs.History.{state_after, cut_at}
use Rattle.mont_base.specs.Versions.{live_objects}
use Rattle.mont_base.specs.Structure.{IsStructure}
use Rattle.core_steps.specs.declared.parts.Core.{Core}
use Rattle.core_steps.specs.declared.parts.UnitPart.{UnitPart}
use Rattle.core_steps.specs.declared.parts.CallerPart.{CallerPart}
use Rattle.core_steps.specs.Places.{EachAt}
use Rattle.core_steps.specs.Clock.{clock, durable_clock}
use Rattle.core_steps.specs.Sound.{Base, base_state, IsSound}

-- The image's live objects of the unit make the state to which its history leads up to the image's
-- cut.
abbrev pub HoldsCutOf : Base → Core → List ℕ → ℕ → UnitPart → Type 0
HoldsCutOf base c image u p =
    IsStructure c.layout u (live_objects (records_of c.layout image u))
    (state_after (base_state base u) (cut_at (cut_of image) p.history))

pub record HoldsCut (base : Base) (c : Core) (image : List ℕ) : Type 0 where
  pub not_before : durable_clock c ≤ clock_of image
  pub not_behind : clock_of image ≤ clock c
  pub well_formed : IsWellFormed c.layout image
  pub cut : EachAt (HoldsCutOf base c image) c.units

-- ---- laws
-- Recovery accepts every image that a crash permits, and rebuilds of each unit exactly the
-- operations up to two epochs before the image's clock.
abbrev pub ImagesHoldCuts : Type 0
ImagesHoldCuts =
    (base : Base) (c : Core) (image : List ℕ) → IsSound base c → IsPermitted c.cur c.dur image
    → HoldsCut base c image

-- What a caller knows to be durable is in the cut of every such image.
abbrev pub ImagesHoldSynced : Type 0
ImagesHoldSynced =
    (base : Base) (c : Core) (image : List ℕ) (k u n : ℕ) (q : CallerPart) (p : UnitPart)
    → IsSound base c → IsPermitted c.cur c.dur image
    → slice_get c.callers k ≡ Some q → slice_get q.synced u ≡ Some n → slice_get c.units u ≡ Some p
    → All (λ (e : Entry). e.epoch ≤ cut_of image) (take n p.history)
