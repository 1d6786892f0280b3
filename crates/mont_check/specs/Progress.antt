-- What the outcomes of one caller have shown so far, and which may come next.
use Rattle.std.specs.Prelude.{◌≡◌, ℕ, ◌+◌, false, ◌||◌, max, List, count_by, Option, Some, None, if◌then◌else◌}
use Rattle.std.specs.List.{list_any}
use Rattle.std.specs.Ordering.{nat_cmp}
use Rattle.std.specs.BTreeMap as tree
use Rattle.mont_base.specs.declared.operation.Entry.{Entry}
use Rattle.job_text.specs.declared.outcome.Outcome.{Outcome}
use Rattle.job_text.specs.Outcomes.{clock_of, is_at, is_cut, place_of, settled_of, tick_of}
use Rattle.mont_check.specs.declared.progress.Progress.{Progress}
use Rattle.mont_check.specs.Bounds.{IsAtMost, IsBelow, IsSettled, joined, greatest}
use Rattle.mont_check.specs.Shown.{epoch_in, only_in, place_in}

-- ---- which outcome may come next
abbrev pub AllowsEntry : Progress → Option ℕ → Type 0
AllowsEntry p epoch =
    (e : ℕ) → epoch ≡ Some e → IsAtMost p.newest e × IsAtMost p.clock e

abbrev pub AllowsPlace : Progress → Option (ℕ × ℕ) → Type 0
AllowsPlace p named =
    (unit place : ℕ) → named ≡ Some (unit, place)
    → IsBelow (tree.get nat_cmp p.places unit) place

abbrev pub AllowsTick : Progress → Option ℕ → Type 0
AllowsTick p epoch = (e : ℕ) → epoch ≡ Some e → IsAtMost p.newest e × IsBelow p.clock e

abbrev pub AllowsSettled : Progress → Option ℕ → Type 0
AllowsSettled p clock =
    (e : ℕ) → clock ≡ Some e → IsSettled p.newest e × IsAtMost p.clock e

-- the entry that the outcome names
pub record AllowsCall (histories : List (List Entry)) (p : Progress) (o : Outcome)
    : Type 0 where
  pub entry : AllowsEntry p (epoch_in histories o)
  pub place : AllowsPlace p (place_of o)

-- the clock that it shows
pub record AllowsClock (p : Progress) (o : Outcome) : Type 0 where
  pub tick : AllowsTick p (tick_of o)
  pub settled : AllowsSettled p (settled_of o)

pub record Allows (histories : List (List Entry)) (p : Progress) (o : Outcome) : Type 0 where
  pub uncut : p.was_cut ≡ false
  pub call : AllowsCall histories p o
  pub clock : AllowsClock p o

-- ---- what was shown
pub record IsFresh (p : Progress) : Type 0 where
  pub calls : p.calls ≡ 0
  pub newest : p.newest ≡ None
  pub clock : p.clock ≡ None
  pub places : (unit : ℕ) → tree.get nat_cmp p.places unit ≡ None
  pub uncut : p.was_cut ≡ false

-- these outcomes have shown this
pub record HasShown (histories : List (List Entry)) (os : List Outcome) (p : Progress)
    : Type 0 where
  pub calls : p.calls ≡ count_by is_at os
  pub newest : p.newest ≡ greatest (epoch_in histories) os
  pub clock : p.clock ≡ greatest clock_of os
  pub places : (unit : ℕ) → tree.get nat_cmp p.places unit ≡ greatest (place_in unit) os
  pub was_cut : p.was_cut ≡ list_any is_cut os

-- a place is known of its unit, unless a greater one is
abbrev pub RaisesPlace :
    Option (ℕ × ℕ) → tree.BTreeMap ℕ ℕ → tree.BTreeMap ℕ ℕ → Type 0
RaisesPlace named old new =
    (unit : ℕ)
    → tree.get nat_cmp new unit ≡ joined max (tree.get nat_cmp old unit) (only_in unit named)

-- one outcome more was taken in
pub record Notes (histories : List (List Entry)) (o : Outcome) (old new : Progress) : Type 0 where
  pub calls : new.calls ≡ old.calls + (if is_at o then 1 else 0)
  pub newest : new.newest ≡ joined max old.newest (epoch_in histories o)
  pub clock : new.clock ≡ joined max old.clock (clock_of o)
  pub places : RaisesPlace (place_of o) old.places new.places
  pub was_cut : new.was_cut ≡ (old.was_cut || is_cut o)
