-- What a unit needs to announce an epoch, to be registered in it, and to take the announcement back
-- or leave it after, and the core after each of these steps.
use Rattle.std.specs.Prelude.{ℕ, ◌+◌, ◌*◌, ◌/◌, Bool, ◌&&◌, ◌||◌, not, ◌==◌, nat_le, [], ◌∷◌, ◌++◌, slice_set, slice_index, if◌then◌else◌, Some, is_none}
use Rattle.mont_base.specs.declared.constants.TheConstants.{FIRST_CLOCK, LAST}
use Rattle.core_steps.specs.declared.parts.Core.{Core}
use Rattle.core_steps.specs.declared.parts.UnitPart.{UnitPart}
use Rattle.core_steps.specs.declared.parts.CallerPart.{CallerPart}
use Rattle.core_steps.specs.declared.parts.UnitStage.{UnitStage}
use Rattle.core_steps.specs.declared.parts.UnitStage.TheVariants.{Idle, Told, Within}
use Rattle.core_steps.specs.Clock.{clock}
use Rattle.core_steps.specs.Stages.{is_idle, is_told, is_within, is_unfrozen, is_empty}

-- Look: the clock is loaded, and nothing changes.
abbrev pub can_look : UnitPart → Bool
can_look p = is_unfrozen p && is_idle p.stage

-- Tell
abbrev pub can_tell : UnitPart → ℕ → Bool
can_tell p e =
    is_unfrozen p
    && ((is_idle p.stage || is_told p.stage) && (nat_le FIRST_CLOCK e && nat_le e LAST))

abbrev pub after_tell : UnitPart → ℕ → UnitPart
after_tell p e = record p { stage = Told e }

abbrev pub tell : Core → ℕ → UnitPart → ℕ → Core
tell c u p e =
    record c { told = slice_set c.told u (2 * e); units = slice_set c.units u (after_tell p e) }

-- Confirm, where the clock shows now
abbrev pub can_confirm : UnitPart → Bool
can_confirm p = is_unfrozen p && is_told p.stage

abbrev pub confirmed : ℕ → UnitStage → UnitStage
confirmed now (Told e) = if now == e then Within e else Told e
confirmed now stage = stage

abbrev pub after_confirm : UnitPart → ℕ → UnitPart
after_confirm p now = record p { stage = confirmed now p.stage }

abbrev pub confirm : Core → ℕ → UnitPart → Core
confirm c u p = record c { units = slice_set c.units u (after_confirm p (clock c)) }

-- Withdraw
abbrev pub has_stored : UnitPart → Bool
has_stored p = not (is_empty p.written && is_none p.writing)

abbrev pub can_withdraw : UnitPart → Bool
can_withdraw p = is_unfrozen p && (is_told p.stage || (is_within p.stage && not (has_stored p)))

abbrev pub after_withdraw : UnitPart → UnitPart
after_withdraw p = record p { stage = Idle }

abbrev pub withdraw : Core → ℕ → UnitPart → Core
withdraw c u p =
    record c { told = slice_set c.told u 0; units = slice_set c.units u (after_withdraw p) }

-- Freeze: the announcement keeps its epoch and becomes odd, if there is one.
abbrev pub can_freeze : UnitPart → Bool
can_freeze p = is_unfrozen p

abbrev pub made_odd : UnitStage → ℕ → ℕ
made_odd (Told e) word = 2 * (word / 2) + 1
made_odd (Within e) word = 2 * (word / 2) + 1
made_odd _ word = word

abbrev pub after_freeze : UnitPart → ℕ → UnitPart
after_freeze p k = record p { frozen = Some k }

abbrev pub caller_after_freeze : CallerPart → ℕ → CallerPart
caller_after_freeze q u = record q { cuts = q.cuts ++ u ∷ [] }

abbrev pub freeze : Core → ℕ → UnitPart → ℕ → CallerPart → Core
freeze c u p k q = record c {
  told = slice_set c.told u (made_odd p.stage (slice_index c.told u));
  units = slice_set c.units u (after_freeze p k);
  callers = slice_set c.callers k (caller_after_freeze q u);
}
