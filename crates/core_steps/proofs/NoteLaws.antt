-- What a part shows is true, and what was true of a core stays so.
use Rattle.std.proofs.Common.{◌≡◌, ℕ, suc, ◌≤◌, ◌≢◌, List, [], ◌∷◌, length, set, replicate, length-set, sym, refl, ◌∙◌, subst, ⊎_elim, arith}
use Rattle.std.specs.Prelude.{slice_get, Option, Some, None, All, AllPairs}
use Rattle.std.proofs.lemmas.List.{take_all, length-replicate}
use Rattle.std.proofs.lemmas.List.Elements.{All-nil, All-cons, All-head, All-tail, All-weaker, All-map}
use Rattle.mont_base.specs.declared.operation.Entry.{Entry}
use Rattle.mont_base.specs.Layout.{Shape}
use Rattle.mont_base.specs.State.{State}
use Rattle.mont_base.specs.Seen.{FrontFits, FitsHistories}
use Rattle.core_steps.specs.declared.parts.CallerPart.{CallerPart}
use Rattle.core_steps.specs.declared.parts.Note.{Note}
use Rattle.core_steps.specs.declared.parts.UnitPart.{UnitPart}
use Rattle.core_steps.specs.declared.parts.UnitStage.{UnitStage}
use Rattle.core_steps.specs.declared.parts.UnitStage.TheVariants.{Idle, Told, Within, Closing}
use Rattle.core_steps.specs.CallerClauses.{IsCut, CallersFit}
use Rattle.core_steps.specs.Notes.{last_epoch, mark_of, unit_note, advancer_note, caller_note, IsTrueMark, IsTrueOf, Moment, Grows, histories_of, cuts_of}
use Rattle.core_steps.specs.Sound.{StageFits}
use Rattle.core_steps.specs.Stages.{limit_of}
use Rattle.core_steps.specs.UnitClauses.{UnitFits}
use Rattle.core_steps.proofs.Rows.{row_set, row_copy}
use Rattle.core_steps.proofs.RowFacts.{same_item}
use Rattle.core_steps.proofs.Growth.{view_later, marks_later}
use Rattle.core_steps.proofs.CallerFrames.{history_row, cut_row, histories_length}

-- ---- the last epoch of a history
abbrev IsRising : List Entry → Type 0
IsRising h = AllPairs (λ (d e : Entry). d.epoch ≤ e.epoch) h

-- epochs rise after the first entry
rising_tail : (e : Entry) (h : List Entry) → IsRising (e ∷ h) → IsRising h
rising_tail e h r i j d l w = r (suc i) (suc j) d (omega arith) (omega arith)

-- no entry is of a later one,
pub last_is_newest : (h : List Entry) → IsRising h → All (λ (e : Entry). e.epoch ≤ last_epoch h) h
last_is_newest [] r = All-nil (λ (e : Entry). e.epoch ≤ 0)
last_is_newest (e ∷ []) r =
    All-cons (λ (d : Entry). d.epoch ≤ e.epoch) e [] (omega arith) (All-nil (λ (d : Entry). d.epoch ≤ e.epoch))
last_is_newest (e ∷ d ∷ es) r =
    let rest = last_is_newest (d ∷ es) (rising_tail e (d ∷ es) r) in
    let first = r 0 1 e (omega arith) (omega arith) in
    let second = All-head (λ (c : Entry). c.epoch ≤ last_epoch (d ∷ es)) d es rest in
    All-cons (λ (c : Entry). c.epoch ≤ last_epoch (d ∷ es)) e (d ∷ es) (omega arith) rest

-- and what bounds all entries bounds it
pub last_within : (limit : ℕ) (h : List Entry) → All (λ (e : Entry). e.epoch ≤ limit) h → last_epoch h ≤ limit
last_within limit [] a = omega arith
last_within limit (e ∷ []) a = All-head (λ (c : Entry). c.epoch ≤ limit) e [] a
last_within limit (e ∷ d ∷ es) a = last_within limit (d ∷ es) (All-tail (λ (c : Entry). c.epoch ≤ limit) e (d ∷ es) a)

-- nothing of a unit is of an epoch that the clock hasn't reached
pub limit_reached : (base now : ℕ) (passed : Type 0) (stage : UnitStage) → StageFits base now passed stage → limit_of now stage ≤ now
limit_reached base now passed Idle f = omega arith
limit_reached base now passed (Told e) f = omega arith
limit_reached base now passed (Within e) f = f.reached
limit_reached base now passed (Closing slot) f = omega arith

-- ---- what is noted is true
-- a unit's note
module _ (histories : List (List Entry)) (cuts : List (Option ℕ)) (now durable units u : ℕ) (p : UnitPart)
    (size : length histories ≡ units) (there : slice_get histories u ≡ Some p.history) (cut : slice_get cuts u ≡ Some p.frozen)
    (rising : IsRising p.history) where
  -- a front of 0 fits each history
  nothing_before : (newest : ℕ) (h : List Entry) → FrontFits newest 0 h
  nothing_before newest h = record { there = omega arith; epochs = All-nil (λ (e : Entry). e.epoch ≤ newest) }

  -- the unit's front fits its history
  whole_before : FrontFits (last_epoch p.history) (length p.history) p.history
  whole_before = record {
    there = omega arith;
    epochs = subst (All (λ (e : Entry). e.epoch ≤ last_epoch p.history))
        (sym (take_all (length p.history) p.history (omega arith))) (last_is_newest p.history rising);
  }

  -- and so do all fronts of its note
  unit_note_fits : FitsHistories histories
      (record { fronts = set (replicate units 0) u (length p.history); newest = last_epoch p.history })
  unit_note_fits = record {
    units = length-set (replicate units 0) u (length p.history) ∙ length-replicate units 0 ∙ sym size;
    each = λ v front h at is. ⊎_elim
        (λ (t : (v ≡ u) × (length p.history ≡ front)).
        let same : p.history ≡ h =
        same_item histories u p.history h there (subst (λ (n : ℕ). slice_get histories n ≡ Some h) t.0 is) in
        subst (λ (n : ℕ). FrontFits (last_epoch p.history) n h) t.1
        (subst (FrontFits (last_epoch p.history) (length p.history)) same whole_before))
        (λ (t : (v ≢ u) × (slice_get (replicate units 0) v ≡ Some front)).
        subst (λ (n : ℕ). FrontFits (last_epoch p.history) n h) (row_copy units v 0 front t.1).0 (nothing_before (last_epoch p.history) h))
        (row_set (replicate units 0) u v (length p.history) front at);
  }

  -- its mark is true
  unit_marks : (o : Option ℕ) → slice_get cuts u ≡ Some o → All (IsTrueMark cuts) (mark_of u o)
  unit_marks None e = All-nil (IsTrueMark cuts)
  unit_marks (Some k) e = All-cons (IsTrueMark cuts) _ [] (record { by = k; cut = e; named = refl }) (All-nil (IsTrueMark cuts))

  -- and its note is
  note_of_unit : last_epoch p.history ≤ now → p.durable ≤ durable → IsTrueOf histories cuts now durable (unit_note units u p)
  note_of_unit low known = record { fits = unit_note_fits; newest = low; known = known; marks = unit_marks p.frozen cut }

-- (from the facts on the unit, its registration and the clocks)
pub unit_note_true :
    (s : Shape) (base now durable u : ℕ) (state : State) (passed : Type 0) (units : List UnitPart) (p : UnitPart)
    → slice_get units u ≡ Some p → UnitFits s base now durable u state p → StageFits base now passed p.stage → p.durable ≤ durable
    → IsTrueOf (histories_of units) (cuts_of units) now durable (unit_note (length units) u p)
unit_note_true s base now durable u state passed units p there fits stage known =
    let last = last_within (limit_of now p.stage) p.history fits.reached.of_entries in
    let limit = limit_reached base now passed p.stage stage in
    note_of_unit (histories_of units) (cuts_of units) now durable (length units) u p (histories_length units) (history_row units u p there)
    (cut_row units u p there) fits.legal.rising (omega arith) known

-- the advancer's (from the facts on the callers)
pub advancer_note_true :
    (now durable : ℕ) (units : List UnitPart) (callers : List CallerPart) (odd : List ℕ)
    → CallersFit (histories_of units) (cuts_of units) now callers odd
    → IsTrueOf (histories_of units) (cuts_of units) now durable (advancer_note (length units) durable odd)
advancer_note_true now durable units callers odd f = record {
  fits = record {
    units = length-replicate (length units) 0 ∙ sym (histories_length units);
    each = λ v front h at is.
        subst (λ (n : ℕ). FrontFits 0 n h) (row_copy (length units) v 0 front at).0
        (record { there = omega arith; epochs = All-nil (λ (e : Entry). e.epoch ≤ 0) });
  };
  newest = omega arith;
  known = omega arith;
  marks = All-map (IsTrueMark (cuts_of units)) (λ (u : ℕ). record { unit = u; by = None }) odd
      (All-weaker (IsCut (cuts_of units)) (λ u. IsTrueMark (cuts_of units) (record { unit = u; by = None }))
      (λ u c. record { by = c.0; cut = c.1; named = tt }) odd f.loaded_odd);
}

-- a caller's (from the facts on the callers and the clocks)
pub caller_note_true :
    (histories : List (List Entry)) (cuts : List (Option ℕ)) (now durable k : ℕ) (callers : List CallerPart) (q : CallerPart) (odd : List ℕ)
    → slice_get callers k ≡ Some q → CallersFit histories cuts now callers odd → q.durable ≤ durable
    → IsTrueOf histories cuts now durable (caller_note q)
caller_note_true histories cuts now durable k callers q odd there f known =
    let fit = f.each k q there in record { fits = fit.seen; newest = fit.reached; known = known; marks = fit.marks }

-- ---- what was true stays so
pub note_lasts :
    (old new : Moment) (note : Note) → Grows old new → IsTrueOf old.histories old.cuts old.now old.durable note
    → IsTrueOf new.histories new.cuts new.now new.durable note
note_lasts old new note g t = record {
  fits = view_later old new g _ t.fits;
  newest = let a = t.newest in let b = g.now in omega arith;
  known = let a = t.known in let b = g.durable in omega arith;
  marks = marks_later old new g note.marks t.marks;
}
