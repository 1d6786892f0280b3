-- What a part showed at an earlier moment, and what a caller makes of it.
use Rattle.std.specs.Prelude.{◌≡◌, ℕ, ◌≤◌, max, Bool, true, false, ◌&&◌, ◌==◌, not, List, [], ◌∷◌, ◌++◌, length, map, filter, replicate, slice_get, slice_set, All, Option, Some, None}
use Rattle.std.specs.List.{list_any, AllZip}
use Rattle.mont_base.specs.declared.operation.Entry.{Entry}
use Rattle.mont_base.specs.Seen.{View, FitsHistories}
use Rattle.core_steps.specs.declared.parts.Core.{Core}
use Rattle.core_steps.specs.declared.parts.UnitPart.{UnitPart}
use Rattle.core_steps.specs.declared.parts.UnitStage.{UnitStage}
use Rattle.core_steps.specs.declared.parts.CallerPart.{CallerPart}
use Rattle.core_steps.specs.declared.parts.Mark.{Mark}
use Rattle.core_steps.specs.declared.parts.Note.{Note}
use Rattle.core_steps.specs.declared.parts.Part.{Part}
use Rattle.core_steps.specs.declared.parts.Part.TheVariants as parts
use Rattle.core_steps.specs.Places.{RowHas, on_row}
use Rattle.core_steps.specs.Clock.{clock, durable_clock}
use Rattle.core_steps.specs.Stages.{epoch_within}

-- ---- what is noted of a part
abbrev pub last_epoch : List Entry → ℕ
last_epoch [] = 0
last_epoch (e ∷ []) = e.epoch
last_epoch (e ∷ d ∷ es) = last_epoch (d ∷ es)

-- the mark of a unit, with the caller that was cut in it
abbrev pub mark_of : ℕ → Option ℕ → List Mark
mark_of u None = []
mark_of u (Some k) = record { unit = u; by = Some k } ∷ []

abbrev pub unit_note : ℕ → ℕ → UnitPart → Note
unit_note units u p = record {
  fronts = slice_set (replicate units 0) u (length p.history);
  newest = last_epoch p.history;
  durable = p.durable;
  marks = mark_of u p.frozen;
}

-- the advancer doesn't know which caller was cut
abbrev pub advancer_note : ℕ → ℕ → List ℕ → Note
advancer_note units durable odd = record {
  fronts = replicate units 0;
  newest = 0;
  durable = durable;
  marks = map (λ u. record { unit = u; by = None }) odd;
}

abbrev pub caller_note : CallerPart → Note
caller_note q =
    record { fronts = q.fronts; newest = q.newest; durable = q.durable; marks = q.marks }

abbrev pub note_of : Core → Part → Option Note
note_of c (parts.Unit u) =
    on_row (slice_get c.units u) None (λ p. Some (unit_note (length c.units) u p))
note_of c parts.Advancer =
    Some (advancer_note (length c.units) (durable_clock c) c.odd)
note_of c (parts.Caller k) = on_row (slice_get c.callers k) None (λ q. Some (caller_note q))

-- ---- when a note is true of a core
abbrev pub histories_of : List UnitPart → List (List Entry)
histories_of units = map (λ (p : UnitPart). p.history) units

-- the caller that was cut in each unit, where one was
abbrev pub cuts_of : List UnitPart → List (Option ℕ)
cuts_of units = map (λ (p : UnitPart). p.frozen) units

abbrev pub NamesCaller : Option ℕ → ℕ → Type 0
NamesCaller None k = Unit {0}
NamesCaller (Some j) k = j ≡ k

-- a caller was cut in the unit, and it is the one that the mark names, if it names one
pub record IsTrueMark (cuts : List (Option ℕ)) (m : Mark) : Type 0 where
  pub by : ℕ
  pub cut : slice_get cuts m.unit ≡ Some (Some by)
  pub named : NamesCaller m.by by

abbrev pub seen_by_note : Note → View
seen_by_note note = record { fronts = note.fronts; newest = note.newest }

pub record IsTrueOf
    (histories : List (List Entry)) (cuts : List (Option ℕ)) (now durable : ℕ) (note : Note)
    : Type 0 where
  pub fits : FitsHistories histories (seen_by_note note)
  pub newest : note.newest ≤ now
  pub known : note.durable ≤ durable
  pub marks : All (IsTrueMark cuts) note.marks

abbrev pub IsTrueNote : Core → Note → Type 0
IsTrueNote c note =
    IsTrueOf (histories_of c.units) (cuts_of c.units) (clock c) (durable_clock c) note

-- ---- what stays while a core goes on
-- the epoch within which a unit is left, where a caller was cut in it within one
abbrev pub left_within : Option ℕ → UnitStage → Option ℕ
left_within None stage = None
left_within (Some k) stage = epoch_within stage

abbrev pub lefts_of : List UnitPart → List (Option ℕ)
lefts_of units = map (λ (p : UnitPart). left_within p.frozen p.stage) units

-- all that a note is judged by, and within which epochs units are left
pub record Moment : Type 0 where
  pub histories : List (List Entry)
  pub cuts : List (Option ℕ)
  pub lefts : List (Option ℕ)
  pub now : ℕ
  pub durable : ℕ

abbrev pub moment_of : Core → Moment
moment_of c = record {
  histories = histories_of c.units;
  cuts = cuts_of c.units;
  lefts = lefts_of c.units;
  now = clock c;
  durable = durable_clock c;
}

abbrev pub BeginsWith : List Entry → List Entry → Type 0
BeginsWith h front = (rest : List Entry) × (h ≡ front ++ rest)

-- Each history begins with the earlier one, whoever was cut in a unit stays so, a unit that is left
-- within an epoch stays within it, and no clock has fallen.
pub record Grows (old new : Moment) : Type 0 where
  pub histories : AllZip BeginsWith new.histories old.histories
  pub cuts : (u k : ℕ) → slice_get old.cuts u ≡ Some (Some k) → slice_get new.cuts u ≡ Some (Some k)
  pub lefts :
      (u e : ℕ) → slice_get old.lefts u ≡ Some (Some e)
      → slice_get new.lefts u ≡ Some (Some e)
  pub now : old.now ≤ new.now
  pub durable : old.durable ≤ new.durable

-- ---- what a caller makes of a note
abbrev pub greater_fronts : List ℕ → List ℕ → List ℕ
greater_fronts [] others = []
greater_fronts (n ∷ ns) [] = n ∷ ns
greater_fronts (n ∷ ns) (m ∷ ms) = max n m ∷ greater_fronts ns ms

abbrev pub same_caller : Option ℕ → Option ℕ → Bool
same_caller None None = true
same_caller (Some j) (Some k) = j == k
same_caller _ _ = false

abbrev pub same_mark : Mark → Mark → Bool
same_mark m n = (m.unit == n.unit) && same_caller m.by n.by

-- the marks with those of the others that aren't among them
abbrev pub joined_marks : List Mark → List Mark → List Mark
joined_marks marks others =
    marks ++ filter (λ (m : Mark). not (list_any (same_mark m) marks)) others

abbrev pub after_hear : CallerPart → Note → CallerPart
after_hear q note = record q {
  fronts = greater_fronts q.fronts note.fronts;
  newest = max q.newest note.newest;
  durable = max q.durable note.durable;
  marks = joined_marks q.marks note.marks;
}

abbrev pub hear : Core → ℕ → CallerPart → Note → Core
hear c k q note = record c { callers = slice_set c.callers k (after_hear q note) }

-- Join: what a unit or the advancer hears leaves the core as it is.
abbrev pub join : Core → Part → Note → Core
join c (parts.Unit u) note = c
join c parts.Advancer note = c
join c (parts.Caller k) note = on_row (slice_get c.callers k) c (λ q. hear c k q note)

-- ---- the parts that there are
abbrev pub HasPart : Core → Part → Type 0
HasPart c (parts.Unit u) = RowHas (slice_get c.units u) (λ _. Unit {0})
HasPart c parts.Advancer = Unit {0}
HasPart c (parts.Caller k) = RowHas (slice_get c.callers k) (λ _. Unit {0})
