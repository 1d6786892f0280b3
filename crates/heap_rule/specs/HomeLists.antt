-- What stands in the slots of the table where units' lists have their homes.
use Rattle.std.specs.Prelude.{◌≡◌, ℕ, ◌+◌, ◌-◌, Bool, false, ◌==◌, nat_lt, List, [], ◌++◌, if◌then◌else◌}
use mathlib.Core.Option.{Option, none, some}
use lib.ListN.{get_elem?}
use Rattle.core_steps.specs.declared.parts.UnitPart.{UnitPart}
use Rattle.core_steps.specs.declared.parts.UnitStage.{UnitStage}
use Rattle.core_steps.specs.declared.parts.UnitStage.TheVariants.{Within}
use Rattle.core_steps.specs.Flushing.{unit_list}
use Rattle.heap_rule.specs.declared.views.UnitTurn.{UnitTurn}
use Rattle.heap_rule.specs.declared.views.FullTurn.{FullTurn}
use Rattle.heap_rule.specs.Views.{Cell, listing, list_place}

-- ---- what a unit makes of its list for an epoch
abbrev pub is_in_epoch : ℕ → UnitStage → Bool
is_in_epoch x (Within e) = e == x
is_in_epoch x _ = false

-- in its turn: nothing while the list is out, and at home also what was pushed
abbrev pub turn_home : ℕ → UnitTurn → List ℕ → Option Cell
turn_home room t slots = if t.out then none else some (listing room (slots ++ t.pushed))

abbrev pub unit_home : ℕ → ℕ → UnitPart → UnitTurn → Option Cell
unit_home room x p t =
    if is_in_epoch x p.stage then turn_home room t (unit_list x p)
    else some (listing room (unit_list x p))

-- ---- what the advancer has made of a unit's full list
pub data Full : Type 0 where
  Waiting : Full
  Out : Full
  Empty : Full

abbrev pub full_at : FullTurn → ℕ → Full
full_at f u =
    if nat_lt u f.emptied then Empty
    else (if f.out then (if u == f.emptied then Out else Waiting) else Waiting)

abbrev pub full_home : ℕ → Full → Option Cell → Option Cell
full_home room Waiting home = home
full_home room Out home = none
full_home room Empty home = some (listing room [])

-- Where the clock shows now: the unit's list for that epoch, and the one for the epoch before.
pub record HomesFit
    (room now : ℕ) (p : UnitPart) (t : UnitTurn) (f : Full) (homes : List (Option Cell)) (u : ℕ)
    : Type 0 where
  pub young : get_elem? homes (list_place u now) ≡ some (unit_home room now p t)
  pub old : get_elem? homes (list_place u (now + 1))
      ≡ some (full_home room f (unit_home room (now - 1) p t))

-- the advancer has begun with the list
abbrev pub IsTouched : Full → Type 0
IsTouched Waiting = ⊥
IsTouched Out = Unit {0}
IsTouched Empty = Unit {0}
