-- What the fields of a unit's seat and of a ticket are once a caller was answered.
use Rattle.std.proofs.Common.{◌≡◌, ℕ, ◌+◌, ◌*◌, List, [], ◌∷◌, ◌++◌, length, length-append, set, length-set, refl, ap, sym, ◌∙◌, subst, arith, true, cond}
use Rattle.std.specs.Prelude.{None}
use Rattle.atomic_table.specs.Seated.{TableId}
use Rattle.mont_base.specs.declared.operation.Entry.{Entry}
use Rattle.core_steps.specs.Announcing.{can_tell}
use Rattle.core_steps.specs.Notes.{last_epoch}
use Rattle.core_steps.specs.Stages.{epoch_of}
use Rattle.heap_rule.specs.declared.views.CallerKnown.{CallerKnown}
use Rattle.heap_rule.specs.declared.views.UnitKnown.{UnitKnown}
use Rattle.heap_rule.specs.declared.views.UnitTurn.{UnitTurn}
use Rattle.heap_rule.specs.Views.{Seated, list_place, unit_view, caller_view, the_unit, the_caller, unit_out, unit_told, unit_left, unit_read, unit_frozen, caller_answered, caller_cut}
use Rattle.heap.proofs.SeatTables.{tell_rests, tell_first, tell_last}
use Rattle.heap.specs.HeapShown.{IsUnit, IsCaller, Counts}

last_of_push : (h : List Entry) (e : Entry) → last_epoch (h ++ e ∷ []) ≡ e.epoch
last_of_push [] e = refl
last_of_push (d ∷ []) e = refl
last_of_push (d ∷ c ∷ cs) e = last_of_push (c ∷ cs) e

module _ (t : TableId) (unit epoch entries newest durable : ℕ) (m : Seated) (k : IsUnit t unit epoch entries newest durable m) where
  abbrev known : UnitKnown
  known = the_unit m.0

  -- an epoch was announced
  pub told_keeps : (r : TableId) (n : Seated) (e : ℕ) → r ≡ t → can_tell known.part e ≡ true → n ≡ (unit_view (unit_told known e), m.1)
      → IsUnit r unit e entries newest durable n
  told_keeps r n e same may is =
      let home = k.rests (tell_rests known.part e may) in
      let out : m.1 ≡ [] = ap (λ (x : Seated). x.1) k.whole
      ∙ ap (λ (x : UnitTurn). cond x.out ((list_place known.unit (epoch_of known.part.stage), None) ∷ []) []) home in
      let told : unit_out (unit_told known e) ≡ [] = ap (λ (x : UnitTurn). cond x.out ((list_place known.unit e, None) ∷ []) []) home in
      subst (λ (z : TableId × Seated). IsUnit z.0 unit e entries newest durable z.1) (λ j. (sym same j, sym is j))
      (record {
        whole = λ j. (unit_view (unit_told known e), (out ∙ sym told) j);
        number = k.number;
        epoch_is = refl;
        entries_are = k.entries_are;
        newest_is = k.newest_is;
        durable_is = k.durable_is;
        rests = λ _. home;
        slot = k.slot;
        small = k.small;
        last = tell_last known.part e may;
        begun = λ _. tell_first known.part e may;
      })

  -- it was left with an answer
  pub left_keeps : (r : TableId) (n : Seated) (e : Entry) → r ≡ t → e.epoch ≡ epoch → n ≡ (unit_view (unit_left known e), [])
      → IsUnit r unit 0 (entries + 1) epoch durable n
  left_keeps r n e same of_epoch is = subst (λ (z : TableId × Seated). IsUnit z.0 unit 0 (entries + 1) epoch durable z.1)
      (λ j. (sym same j, sym is j))
      (record {
        whole = refl;
        number = k.number;
        epoch_is = refl;
        entries_are = ap (λ (x : ℕ). x + 1) k.entries_are ∙ sym (length-append known.part.history (e ∷ []));
        newest_is = sym of_epoch ∙ sym (last_of_push known.part.history e);
        durable_is = k.durable_is;
        rests = λ _. refl;
        slot = k.slot;
        small = k.small;
        last = omega arith;
        begun = λ h. absurd (cc);
      })

  pub read_keeps : (r : TableId) (n : Seated) (found : ℕ) (e : Entry) → r ≡ t → e.epoch ≡ found
      → n ≡ (unit_view (unit_read known found e), m.1) → IsUnit r unit epoch (entries + 1) found durable n
  read_keeps r n found e same of_epoch is = subst (λ (z : TableId × Seated). IsUnit z.0 unit epoch (entries + 1) found durable z.1)
      (λ j. (sym same j, sym is j))
      (record {
        whole = λ j. (unit_view (unit_read known found e), (k.whole j).1);
        number = k.number;
        epoch_is = k.epoch_is;
        entries_are = ap (λ (x : ℕ). x + 1) k.entries_are ∙ sym (length-append known.part.history (e ∷ []));
        newest_is = sym of_epoch ∙ sym (last_of_push known.part.history e);
        durable_is = k.durable_is;
        rests = k.rests;
        slot = k.slot;
        small = k.small;
        last = k.last;
        begun = k.begun;
      })

  pub frozen_keeps : (r : TableId) (n : Seated) (by : ℕ) → r ≡ t → n ≡ (unit_view (unit_frozen known by), m.1)
      → IsUnit r unit epoch entries newest durable n
  frozen_keeps r n by same is = subst (λ (z : TableId × Seated). IsUnit z.0 unit epoch entries newest durable z.1)
      (λ j. (sym same j, sym is j))
      (record {
        whole = λ j. (unit_view (unit_frozen known by), (k.whole j).1);
        number = k.number;
        epoch_is = k.epoch_is;
        entries_are = k.entries_are;
        newest_is = k.newest_is;
        durable_is = k.durable_is;
        rests = k.rests;
        slot = k.slot;
        small = k.small;
        last = k.last;
        begun = k.begun;
      })

module _ (t : TableId) (number : ℕ) (counts : Counts) (fronts synced : List ℕ) (m : Seated)
    (k : IsCaller t number counts fronts synced m) where
  abbrev asker : CallerKnown
  asker = the_caller m.0

  pub answered_keeps : (r : TableId) (n : Seated) (h : UnitKnown) (unit place : ℕ) (e : Entry) → r ≡ t → unit ≡ h.unit
      → place ≡ length h.part.history → n ≡ (caller_view (caller_answered asker h e), [])
      → IsCaller r number (record { calls = counts.calls + 1; newest = e.epoch; durable = counts.durable }) (set fronts unit
      (place + 1)) synced n
  answered_keeps r n h unit place e same of_unit at is = subst
      (λ (z : TableId × Seated). IsCaller z.0 number (record { calls = counts.calls + 1; newest = e.epoch; durable = counts.durable })
      (set fronts unit (place + 1)) synced z.1)
      (λ j. (sym same j, sym is j))
      (record {
        whole = refl;
        number_is = k.number_is;
        calls_are = ap (λ (x : ℕ). x + 1) k.calls_are;
        answered = ap (λ (x : ℕ). x + 1) k.answered ∙ sym (length-append asker.part.receipts _);
        newest_is = refl;
        durable_is = k.durable_is;
        fronts_are = λ j. set (k.fronts_are j) (of_unit j) (at j + 1);
        synced_are = k.synced_are;
        as_many = k.as_many ∙ sym (length-set fronts unit (place + 1));
        slots = k.slots ∙ sym (ap (λ (x : ℕ). 2 * x) (length-set fronts unit (place + 1)));
      })

  pub cut_keeps : (r : TableId) (n : Seated) (h : UnitKnown) → r ≡ t → n ≡ (caller_view (caller_cut asker h), [])
      → IsCaller r number counts fronts synced n
  cut_keeps r n h same is = subst (λ (z : TableId × Seated). IsCaller z.0 number counts fronts synced z.1) (λ j.
      (sym same j, sym is j))
      (record {
        whole = refl;
        number_is = k.number_is;
        calls_are = k.calls_are;
        answered = k.answered;
        newest_is = k.newest_is;
        durable_is = k.durable_is;
        fronts_are = k.fronts_are;
        synced_are = k.synced_are;
        as_many = k.as_many;
        slots = k.slots;
      })
