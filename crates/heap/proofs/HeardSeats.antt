-- What the fields of a ticket are once it has taken a note.
use Rattle.std.proofs.Common.{◌≡◌, ℕ, suc, ◌*◌, ◌<◌, ◌≤◌, List, [], ◌∷◌, length, set, get_or, replicate, refl, ap, sym, ◌∙◌, subst, arith}
use Rattle.std.specs.Prelude.{max}
use Rattle.atomic_table.specs.Seated.{TableId}
use Rattle.core_steps.specs.Notes.{greater_fronts, last_epoch}
use Rattle.heap_rule.specs.declared.views.AdvKnown.{AdvKnown}
use Rattle.heap_rule.specs.declared.views.CallerKnown.{CallerKnown}
use Rattle.heap_rule.specs.declared.views.NoteKnown.{NoteKnown}
use Rattle.heap_rule.specs.declared.views.UnitKnown.{UnitKnown}
use Rattle.heap_rule.specs.Views.{Seated, caller_view, the_caller, note_of_unit, note_of_advancer, caller_heard}
use Rattle.heap_rule.specs.Plays.{IsNotBeyond}
use Rattle.heap_rule.proofs.HearPlays.{greater_none, greater_one}
use Rattle.heap.specs.HeapShown.{IsCaller, Counts}

pub length-greater : (ns ms : List ℕ) → length (greater_fronts ns ms) ≡ length ns
length-greater [] ms = refl
length-greater (n ∷ ns) [] = refl
length-greater (n ∷ ns) (m ∷ ms) = ap suc (length-greater ns ms)

module _ (t : TableId) (number : ℕ) (counts : Counts) (fronts synced : List ℕ) (m : Seated)
    (k : IsCaller t number counts fronts synced m) where
  abbrev hearer : CallerKnown
  hearer = the_caller m.0

  pub heard_keeps : (r : TableId) (n : Seated) (note : NoteKnown) (more : List ℕ) (newest durable : ℕ) → r ≡ t
      → more ≡ greater_fronts fronts note.note.fronts → newest ≡ max counts.newest note.note.newest
      → durable ≡ max counts.durable note.note.durable → n ≡ (caller_view (caller_heard hearer note), [])
      → IsCaller r number (record { calls = counts.calls; newest = newest; durable = durable }) more synced n
  heard_keeps r n note more newest durable same fronts_are newest_is durable_is is = subst
      (λ (z : TableId × Seated). IsCaller z.0 number (record { calls = counts.calls; newest = newest; durable = durable }) more synced
      z.1)
      (λ j. (sym same j, sym is j))
      (let long : length more ≡ length fronts = ap length fronts_are ∙ length-greater fronts note.note.fronts in record {
        whole = refl;
        number_is = k.number_is;
        calls_are = k.calls_are;
        answered = k.answered;
        newest_is = newest_is ∙ ap (λ (x : ℕ). max x note.note.newest) k.newest_is;
        durable_is = durable_is ∙ ap (λ (x : ℕ). max x note.note.durable) k.durable_is;
        fronts_are = fronts_are ∙ ap (λ (x : List ℕ). greater_fronts x note.note.fronts) k.fronts_are;
        synced_are = k.synced_are;
        as_many = k.as_many ∙ sym long;
        slots = k.slots ∙ ap (λ (x : ℕ). 2 * x) (sym long);
      })

  -- of a unit
  pub unit_heard : (r : TableId) (n : Seated) (h : UnitKnown) (unit entries newest durable : ℕ) (more : List ℕ) (now later : ℕ) → r ≡ t
      → unit ≡ h.unit → unit < length fronts → entries ≡ length h.part.history → newest ≡ last_epoch h.part.history
      → durable ≡ h.part.durable → IsNotBeyond hearer h
      → n ≡ (caller_view (caller_heard hearer (note_of_unit (length hearer.part.fronts) h)), [])
      → more ≡ set fronts unit entries → now ≡ max counts.newest newest
      → later ≡ max counts.durable durable
      → IsCaller r number (record { calls = counts.calls; newest = now; durable = later }) more synced n
  unit_heard r n h unit entries newest durable more now later same of_unit inside entries_are newest_is durable_is low is more_is
      now_is later_is =
      heard_keeps r n (note_of_unit (length hearer.part.fronts) h) more now later same
      (more_is ∙ ((λ j. set fronts (of_unit j) (entries_are j))
      ∙ (sym (greater_one fronts h.unit (length h.part.history) (subst (λ (x : ℕ). x < length fronts) of_unit inside)
      (subst (λ (ns : List ℕ). get_or ns h.unit 0 ≤ length h.part.history) (sym k.fronts_are) low.front))
      ∙ (λ j. greater_fronts fronts (set (replicate (length (k.fronts_are j)) 0) h.unit (length h.part.history))))))
      (now_is ∙ ap (max counts.newest) newest_is) (later_is ∙ ap (max counts.durable) durable_is) is

  -- and of the advancer
  pub advancer_heard : (r : TableId) (n : Seated) (a : AdvKnown) (durable later : ℕ) → r ≡ t → durable ≡ a.durable
      → n ≡ (caller_view (caller_heard hearer (note_of_advancer (length hearer.part.fronts) a)), [])
      → later ≡ max counts.durable durable
      → IsCaller r number (record { calls = counts.calls; newest = counts.newest; durable = later }) fronts synced n
  advancer_heard r n a durable later same durable_is is later_is =
      heard_keeps r n (note_of_advancer (length hearer.part.fronts) a) fronts counts.newest later same
      (sym (greater_none fronts) ∙ (λ j. greater_fronts fronts (replicate (length (k.fronts_are j)) 0)))
      (omega arith) (later_is ∙ ap (max counts.durable) durable_is) is
