-- A caller that took a note of a unit has seen all of it.
use Rattle.std.proofs.Common.{◌≡◌, ℕ, length, sym, ap, ◌∙◌, subst}
use Rattle.std.specs.Prelude.{slice_get, slice_index}
use Rattle.heap.specs.HeapShown.{HeapShown, UnitShown, CallerShown}
use Rattle.heap_rule.specs.Plays.{IsNotBeyond, HasSeenAll}
use Rattle.heap_rule.specs.SoundUnits.{IsSoundUnit}
use Rattle.heap_rule.specs.Views.{caller_heard, note_of_unit}
use Rattle.slots.specs.Books.{RegionShown, Agrees}
use Rattle.structure_call.specs.Checking.{WasNoted}
use Rattle.structure_call.proofs.SoundHistories.{sound_shows}

-- the caller once it took the note
abbrev noted_by : CallerShown → UnitShown → CallerShown
noted_by q seat = record {
  table = q.table;
  known = caller_heard q.known (note_of_unit (length q.known.part.fronts) seat.known);
}

module _ (heap : HeapShown) (old : RegionShown) (q r : CallerShown) (agrees : Agrees old) where
  noted_of : IsNotBeyond q.known old.seat.known → r ≡ noted_by q old.seat → HasSeenAll r.known old.seat.known
      → (now durable : ℕ) × IsSoundUnit heap.opening now durable old.seat.known → WasNoted heap old old q r
  noted_of seen noted all sound = record {
    same = λ i. old;
    seen = seen;
    noted = noted;
    front = ap (λ (u : ℕ). slice_index r.known.part.fronts u) agrees.0 ∙ all.front;
    entries = ap (λ (u : ℕ). slice_get r.known.entries u) agrees.0 ∙ all.entries;
    showed = sound_shows heap old agrees.0 (sound.0, (sound.1, sound.2));
  }

  -- by the seat that the region lent, and that came back as it was
  pub was_noted : (lent seat : UnitShown) → lent ≡ old.seat → seat ≡ lent → IsNotBeyond q.known lent.known → r ≡ noted_by q lent
      → HasSeenAll r.known lent.known
      → (now durable : ℕ) × IsSoundUnit heap.opening now durable lent.known
      → WasNoted heap old (record { seat = seat; books = old.books }) q r
  was_noted lent seat is back seen noted all sound =
      subst (λ (s : UnitShown). WasNoted heap old (record { seat = s; books = old.books }) q r) (sym (back ∙ is))
      (noted_of (subst (λ (s : UnitShown). IsNotBeyond q.known s.known) is seen) (noted ∙ ap (noted_by q) is)
      (subst (λ (s : UnitShown). HasSeenAll r.known s.known) is all)
      (sound.0, sound.1, subst (λ (s : UnitShown). IsSoundUnit heap.opening sound.0 sound.1 s.known) is sound.2))
