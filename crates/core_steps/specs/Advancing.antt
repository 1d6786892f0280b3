-- What the advancer needs to pass a unit and to move the clock, and the core after each of these
-- steps.
use Rattle.std.specs.Prelude.{ℕ, ◌+◌, ◌/◌, ◌%◌, Bool, true, false, ◌&&◌, ◌||◌, not, ◌==◌, nat_lt, nat_le, List, [], ◌∷◌, ◌++◌, length, slice_set, if◌then◌else◌}
use Rattle.std.specs.List.{list_any}
use Rattle.mont_base.specs.declared.constants.TheConstants.{LAST}
use Rattle.core_steps.specs.declared.parts.Core.{Core}
use Rattle.core_steps.specs.declared.parts.AdvPart.{AdvPart}
use Rattle.core_steps.specs.declared.parts.AdvPart.TheVariants.{Rest, Checking, Flushing, Clocked}
use Rattle.core_steps.specs.Clock.{clock, next_clock}

-- Check, by an advancer over n units, where the clock shows now and the announcement is word
abbrev pub can_check : ℕ → AdvPart → Bool
can_check now Rest = nat_lt now LAST
can_check now (Checking j) = true
can_check now _ = false

-- the unit whose announcement is loaded next
abbrev pub unit_at_hand : AdvPart → ℕ
unit_at_hand (Checking j) = j
unit_at_hand _ = 0

-- nothing is announced, or an epoch that isn't below the clock
abbrev pub lets_pass : ℕ → ℕ → Bool
lets_pass now word = (word == 0) || nat_le now (word / 2)

abbrev pub past_unit : ℕ → ℕ → AdvPart
past_unit n j = if nat_lt (j + 1) n then Checking (j + 1) else Flushing 0 0

abbrev pub after_check : ℕ → ℕ → ℕ → AdvPart → AdvPart
after_check n now word a =
    if lets_pass now word then past_unit n (unit_at_hand a) else Checking (unit_at_hand a)

-- an odd announcement shows that a caller was cut in the unit
abbrev pub is_odd : ℕ → Bool
is_odd word = word % 2 == 1

abbrev pub with_odd : List ℕ → ℕ → ℕ → List ℕ
with_odd odd u word =
    if is_odd word && not (list_any (λ v. v == u) odd) then odd ++ u ∷ [] else odd

abbrev pub check : Core → ℕ → Core
check c word = record c {
  advancer = after_check (length c.units) (clock c) word c.advancer;
  odd = with_odd c.odd (unit_at_hand c.advancer) word;
}

-- SetClock, once all is written back
abbrev pub set_clock : Core → Core
set_clock c = record c { cur = slice_set c.cur 0 (next_clock (clock c)); advancer = Clocked }

-- PersistClock
abbrev pub is_clocked : AdvPart → Bool
is_clocked Clocked = true
is_clocked _ = false

abbrev pub persist_clock : Core → Core
persist_clock c = record c { dur = slice_set c.dur 0 (clock c); advancer = Rest }
