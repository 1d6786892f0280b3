-- How a part loads the durable clock, and how a unit closes a slot that isn't needed.
use Rattle.std.specs.Prelude.{◌≡◌, ℕ, ◌+◌, ◌≤◌, ◌⊎◌, Bool, ◌&&◌, not, ◌==◌, nat_le, List, [], ◌∷◌, filter, slice_set, None, if◌then◌else◌}
use Rattle.mont_base.specs.Layout.{word_of}
use Rattle.mont_laws.specs.declared.retiring.Retired.{Retired}
use Rattle.mont_laws.specs.Records.{without_slot}
use Rattle.core_steps.specs.declared.parts.Core.{Core}
use Rattle.core_steps.specs.declared.parts.UnitPart.{UnitPart}
use Rattle.core_steps.specs.declared.parts.CallerPart.{CallerPart}
use Rattle.core_steps.specs.declared.parts.UnitStage.TheVariants as stages
use Rattle.core_steps.specs.Clock.{durable_clock}
use Rattle.core_steps.specs.Stages.{is_idle, is_unfrozen}

-- ---- LoadDurable
abbrev pub can_load_durable : UnitPart → Bool
can_load_durable p = is_unfrozen p && is_idle p.stage

abbrev pub after_load_durable : UnitPart → ℕ → UnitPart
after_load_durable p durable = record p { durable = durable }

abbrev pub load_durable : Core → ℕ → UnitPart → Core
load_durable c u p =
    record c { units = slice_set c.units u (after_load_durable p (durable_clock c)) }

-- A caller knows all that it has seen to be durable, two epochs after the newest of it.
abbrev pub after_see_durable : CallerPart → ℕ → CallerPart
after_see_durable q durable = record q {
  durable = durable;
  synced = if nat_le (q.newest + 2) durable then q.fronts else q.synced;
}

abbrev pub see_durable : Core → ℕ → CallerPart → Core
see_durable c k q =
    record c { callers = slice_set c.callers k (after_see_durable q (durable_clock c)) }

-- ---- CloseLabel
-- the slot is the first retired one, and the durable clock that the unit knows is two epochs
-- after
abbrev pub IsFirstDue : List Retired → ℕ → ℕ → Type 0
IsFirstDue [] durable slot = ⊥
IsFirstDue (t ∷ ts) durable slot = (t.slot ≡ slot) × (t.epoch + 2 ≤ durable)

abbrev pub IsFirstLost : List ℕ → ℕ → Type 0
IsFirstLost [] slot = ⊥
IsFirstLost (first ∷ rest) slot = first ≡ slot

abbrev pub IsDueNow : UnitPart → ℕ → Type 0
IsDueNow p slot = IsFirstDue p.retired p.durable slot ⊎ IsFirstLost p.lost slot

pub record CanClose (p : UnitPart) (slot : ℕ) : Type 0 where
  pub unfrozen : p.frozen ≡ None
  pub stage : p.stage ≡ stages.Idle
  pub due : IsDueNow p slot

abbrev pub after_close_label : UnitPart → ℕ → UnitPart
after_close_label p slot = record p { stage = stages.Closing slot }

abbrev pub close_label : Core → ℕ → UnitPart → ℕ → Core
close_label c u p slot = record c {
  cur = slice_set c.cur (word_of slot 0) 0;
  units = slice_set c.units u (after_close_label p slot);
}

-- ---- PersistClose
pub record CanPersistClose (p : UnitPart) (slot : ℕ) : Type 0 where
  pub unfrozen : p.frozen ≡ None
  pub stage : p.stage ≡ stages.Closing slot

-- the slot leaves the records and the retired slots, or the lost ones
abbrev pub without_retired : ℕ → List Retired → List Retired
without_retired slot retired = filter (λ (t : Retired). not (t.slot == slot)) retired

abbrev pub without_lost : ℕ → List ℕ → List ℕ
without_lost slot lost = filter (λ n. not (n == slot)) lost

abbrev pub after_persist_close : UnitPart → ℕ → UnitPart
after_persist_close p slot = record p {
  stage = stages.Idle;
  records = without_slot slot p.records;
  retired = without_retired slot p.retired;
  lost = without_lost slot p.lost;
}

abbrev pub persist_close : Core → ℕ → UnitPart → ℕ → Core
persist_close c u p slot = record c {
  dur = slice_set c.dur (word_of slot 0) 0;
  units = slice_set c.units u (after_persist_close p slot);
}
