-- What is told of a unit that leaves once its list was given back, as the region had it before.
use Rattle.std.proofs.Common.{◌≡◌, ℕ, ◌≤◌, sym, subst, length, List, take}
use Rattle.std.specs.Prelude.{Some, slice_get, slice_index}
use Rattle.mont_base.specs.declared.operation.Entry.{Entry}
use Rattle.heap.specs.HeapShown.{HeapShown, UnitShown}
use Rattle.heap_rule.specs.Plays.{IsNotBeyond}
use Rattle.heap_rule.specs.SoundUnits.{IsSoundUnit}
use Rattle.heap_rule.specs.Views.{unit_gave}
use Rattle.heap_rule.specs.declared.views.CallerKnown.{CallerKnown}
use Rattle.heap_rule.specs.declared.views.UnitKnown.{UnitKnown}
use Rattle.slots.specs.Books.{RegionShown}
use Rattle.slots.specs.Reclaiming.{IsSound}

-- the seat of a unit whose list was given back
abbrev pub seat_gave : RegionShown → UnitShown
seat_gave r = record { table = r.seat.table; known = unit_gave r.seat.known }

-- What a caller has seen of a unit is told by the unit's number and its history.
pub seen_at : (q : CallerKnown) (h k : UnitKnown) → k.unit ≡ h.unit → k.part.history ≡ h.part.history → IsNotBeyond q k → IsNotBeyond q h
seen_at q h k same_unit same_history seen = record {
  front = subst (λ (u : ℕ). slice_index q.part.fronts u ≤ length h.part.history) same_unit
      (subst (λ (es : List Entry). slice_index q.part.fronts k.unit ≤ length es) same_history seen.front);
  entries = subst (λ (u : ℕ). slice_get q.entries u ≡ Some (take (slice_index q.part.fronts u) h.part.history)) same_unit
      (subst (λ (es : List Entry). slice_get q.entries k.unit ≡ Some (take (slice_index q.part.fronts k.unit) es)) same_history
      seen.entries);
}

module _ (heap : HeapShown) (old : RegionShown) (lent : UnitShown) (is : lent ≡ seat_gave old) where
  -- a turn isn't among the unit's clauses
  pub sound_gave : (now durable : ℕ) × IsSoundUnit heap.opening now durable lent.known → IsSound heap old
  sound_gave k =
      let s = subst (λ (x : UnitShown). IsSoundUnit heap.opening k.0 k.1 x.known) is k.2 in (
        k.0,
        (
          k.1,
          record {
            accepted = s.accepted;
            begun = s.begun;
            behind = s.behind;
            near = s.near;
            last = s.last;
            known = s.known;
            valid = s.valid;
            clean = s.clean;
            slots = s.slots;
            fits = s.fits;
          },
        ),
      )

  -- nor does a turn tell what the caller had seen
  pub seen_gave : (q : CallerKnown) → IsNotBeyond q lent.known → IsNotBeyond q old.seat.known
  seen_gave q k =
      let given = subst (λ (x : UnitShown). IsNotBeyond q x.known) is k in
      record { front = given.front; entries = given.entries }

-- and after the answer
pub sound_after : (heap : HeapShown) (new : RegionShown) (seat : UnitShown) → new.seat ≡ seat
    → (now durable : ℕ) × IsSoundUnit heap.opening now durable seat.known → IsSound heap new
sound_after heap new seat is k =
    (k.0, (k.1, subst (λ (x : UnitShown). IsSoundUnit heap.opening k.0 k.1 x.known) (sym is) k.2))
