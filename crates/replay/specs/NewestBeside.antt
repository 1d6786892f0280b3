-- The newest records that are kept beside a core, and leaves that are judged on them.
use Rattle.std.specs.Prelude.{◌≡◌, ℕ, List, Option, Some, slice_get}
use Rattle.std.specs.BTreeMap.{values}
use Rattle.mont_base.specs.declared.record.Held.{Held}
use Rattle.mont_base.specs.declared.effect.Effect.{Effect}
use Rattle.mont_base.specs.declared.operation.Op.{Op}
use Rattle.mont_laws.specs.Effects.{IsOpOf, AreEffects}
use Rattle.core_steps.specs.declared.parts.Core.{Core}
use Rattle.core_steps.specs.declared.parts.UnitPart.{UnitPart}
use Rattle.core_steps.specs.Stages.{epoch_of}
use Rattle.core_steps.specs.Events.{AreNoneLost, OfUnit, OfCaller}
use Rattle.core_answer.specs.Answering.{IsReadyToLeave}
use Rattle.core_answer.specs.Newest.{HaveSameNewest}
use Rattle.replay.specs.declared.newest_kept.NewestKept.{NewestKept}

-- these are the newest records of a unit, where there is one
abbrev pub IsKeptOf : List Held → List UnitPart → ℕ → Type 0
IsKeptOf records units u =
    (p : UnitPart) → slice_get units u ≡ Some p → HaveSameNewest records p.records

-- what is kept of units are the newest of their records; of some nothing may be kept
abbrev pub AreKept : List (Option NewestKept) → List UnitPart → Type 0
AreKept kept units =
    (u : ℕ) (n : NewestKept) → slice_get kept u ≡ Some (Some n)
    → IsKeptOf (values n.records) units u

-- A unit may leave its epoch, and what it has written are these effects, where these are the newest
-- of its records.
pub record IsLeaving (c : Core) (u k : ℕ) (records : List Held) (op : Op) (effects : List Effect)
    : Type 0 where
  pub none_lost : AreNoneLost c.units
  pub of_unit : IsOpOf c.layout u op
  pub ready : OfUnit c u (λ p. OfCaller c k (λ q. IsReadyToLeave p q (epoch_of p.stage)
      × AreEffects u records effects p.written))
