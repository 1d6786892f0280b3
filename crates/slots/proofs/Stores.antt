-- The stores of a record, one by one.
use Rattle.std.proofs.Common.{◌≡◌, ℕ, zero, suc, ◌+◌, ◌-◌, ◌<◌, [], ◌∷◌, ◌++◌, get_or, sym, refl, ap, ◌∙◌, subst, arith, add-one, inl, inr}
use Rattle.std.specs.Prelude.{Option, Some, None}
use Rattle.mont_base.specs.declared.constants.TheConstants.{FIELDS}
use Rattle.mont_base.specs.declared.record.Held.{Held}
use Rattle.mont_base.specs.Layout.{Shape}
use Rattle.mont_laws.specs.SlotReadings.{held_words, IsRecordOf}
use Rattle.core_steps.specs.declared.parts.UnitStage.TheVariants.{Within}
use Rattle.core_steps.specs.declared.parts.Writing.{Writing}
use Rattle.core_steps.specs.Stages.{epoch_of}
use Rattle.core_steps.specs.Storing.{IsFreeSlot, CanStore, CanStoreField, front_of, change_in, with_field}
use Rattle.core_steps.proofs.RoleFronts.{front_step, front_whole}
use Rattle.heap.specs.HeapShown.{UnitShown}
use Rattle.heap_rule.specs.declared.views.UnitKnown.{UnitKnown}
use Rattle.heap_rule.specs.Views.{unit_wrote}
use Rattle.slots.specs.Putting.{MayWrite, unit_writing, unit_put, IsUnfinishedAt}

-- after so many stores
abbrev pub unit_begun : UnitKnown → Held → ℕ → UnitKnown
unit_begun h w zero = h
unit_begun h w (suc n) = unit_writing h w (suc n)

abbrev pub seat_begun : UnitShown → Held → ℕ → UnitShown
seat_begun t w n = record t { known = unit_begun t.known w n }

module _ (s : Shape) (t : UnitShown) (w : Held) (valid : IsRecordOf t.known.unit w) (running : t.known.part.frozen ≡ None)
    (may : MayWrite t.known.part w.label.epoch) (free : IsFreeSlot s t.known.unit t.known.part w.slot) where
  blank_front : change_in t.known.part.writing w.slot w.label.epoch ≡ front_of w 0
  blank_front = ap (λ (o : Option Writing). change_in o w.slot w.label.epoch) may.whole

  -- the next field may be stored
  pub can_field : (n field value : ℕ) → field ≡ n + 1 → field < FIELDS → value ≡ get_or (held_words w) field 0
      → CanStore (IsFreeSlot s (seat_begun t w n).known.unit (seat_begun t w n).known.part w.slot)
      (seat_begun t w n).known.unit (seat_begun t w n).known.part w.slot field value
  can_field n field value at few is =
      subst (λ (f : ℕ). CanStore (IsFreeSlot s (seat_begun t w n).known.unit (seat_begun t w n).known.part w.slot)
      (seat_begun t w n).known.unit (seat_begun t w n).known.part w.slot f value) (sym (at ∙ add-one n)) (by n (omega arith)
      (is ∙ ap (λ (f : ℕ). get_or (held_words w) f 0) at))
    where
      by : (n : ℕ) → n + 1 < FIELDS → value ≡ get_or (held_words w) (n + 1) 0
          → CanStoreField (IsFreeSlot s (seat_begun t w n).known.unit (seat_begun t w n).known.part w.slot)
          (seat_begun t w n).known.unit (seat_begun t w n).known.part w.slot n value
      by zero few is = record {
        unfrozen = running;
        epoch = w.label.epoch;
        stage = may.stage;
        field = few;
        turn = inl (refl, may.whole, free);
        whole = w;
        valid = valid;
        in_slot = refl;
        of_epoch = refl;
        before = blank_front;
        stores = is;
      }
      by (suc n) few is = record {
        unfrozen = running;
        epoch = w.label.epoch;
        stage = may.stage;
        field = few;
        turn = inr (record { slot = w.slot; change = front_of w (suc n); stored = suc n }, refl, refl, refl);
        whole = w;
        valid = valid;
        in_slot = refl;
        of_epoch = refl;
        before = refl;
        stores = is;
      }

  -- and then one more is
  pub stored_field : (n field value : ℕ) → field ≡ n + 1 → field < FIELDS → value ≡ get_or (held_words w) field 0
      → record (seat_begun t w n) { known = unit_wrote (seat_begun t w n).known w.slot field value } ≡ seat_begun t w field
  stored_field n field value at few is =
      subst (λ (f : ℕ). record (seat_begun t w n) { known = unit_wrote (seat_begun t w n).known w.slot f value } ≡ seat_begun t w f)
      (sym (at ∙ add-one n)) (by n (omega arith) (is ∙ ap (λ (f : ℕ). get_or (held_words w) f 0) at))
    where
      next : (n : ℕ) → n + 1 < FIELDS → value ≡ get_or (held_words w) (n + 1) 0
          → with_field (front_of w n) (suc n) value ≡ front_of w (suc n)
      next n few is =
          (λ i. with_field (front_of w n) (sym (add-one n) i) (is i))
          ∙ front_step t.known.unit w valid n few ∙ ap (front_of w) (add-one n)

      shown : (change : Held) (steps n : ℕ) → change ≡ front_of w (suc n) → steps ≡ t.known.steps + suc n
          → record t {
            known = record t.known {
              part = record t.known.part { writing = Some (record { slot = w.slot; change = change; stored = suc n }) };
              steps = steps;
            };
          } ≡ seat_begun t w (suc n)
      shown change steps n e f = λ i. record t {
        known = record t.known {
          part = record t.known.part { writing = Some (record { slot = w.slot; change = e i; stored = suc n }) };
          steps = f i;
        };
      }

      by : (n : ℕ) → n + 1 < FIELDS → value ≡ get_or (held_words w) (n + 1) 0
          → record (seat_begun t w n) { known = unit_wrote (seat_begun t w n).known w.slot (suc n) value } ≡ seat_begun t w (suc n)
      by zero few is =
          let stage : epoch_of t.known.part.stage ≡ w.label.epoch = ap epoch_of may.stage in
          shown (with_field (change_in t.known.part.writing w.slot (epoch_of t.known.part.stage)) (suc zero) value) (t.known.steps + 1) zero
          ((λ i. with_field (change_in t.known.part.writing w.slot (stage i)) (suc zero) value)
          ∙ ap (λ (c : Held). with_field c (suc zero) value) blank_front ∙ next zero few is) (omega arith)
      by (suc n) few is =
          shown (with_field (front_of w (suc n)) (suc (suc n)) value) (t.known.steps + suc n + 1) (suc n) (next (suc n) few is)
          (omega arith)

  -- the label's epoch last
  pub can_label : (n value : ℕ) → n + 1 ≡ FIELDS → value ≡ get_or (held_words w) 0 0
      → CanStore (IsFreeSlot s (seat_begun t w n).known.unit (seat_begun t w n).known.part w.slot)
      (seat_begun t w n).known.unit (seat_begun t w n).known.part w.slot 0 value
  can_label zero value last is = absurd (omega arith)
  can_label (suc n) value last is = record {
    unfrozen = running;
    stage = may.stage ∙ ap Within (sym is);
    writing = record { slot = w.slot; change = front_of w (suc n); stored = suc n };
    is = refl;
    in_slot = refl;
    last = last;
  }

  pub stored_label : (n value : ℕ) → n + 1 ≡ FIELDS
      → record (seat_begun t w n) { known = unit_wrote (seat_begun t w n).known w.slot 0 value }
      ≡ record { table = t.table; known = unit_put t.known w }
  stored_label zero value last = absurd (omega arith)
  stored_label (suc n) value last =
      let all : suc n ≡ FIELDS - 1 = omega arith in
      let whole : front_of w (suc n) ≡ w = ap (front_of w) all ∙ front_whole t.known.unit w valid in
      let steps : t.known.steps + suc n + 1 ≡ t.known.steps + FIELDS = omega arith in
      λ i. record t {
        known = record t.known {
          part = record t.known.part { writing = None; written = t.known.part.written ++ whole i ∷ [] };
          steps = steps i;
        };
      }

  -- a cut leaves what was stored before it
  pub stored_cut : (n : ℕ) → n < FIELDS → IsUnfinishedAt t (seat_begun t w n) w
  stored_cut zero few = inl refl
  stored_cut (suc n) few = inr (refl, record { stored = suc n; some = omega arith; few = few; shows = refl })
