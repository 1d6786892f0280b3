-- What each event makes of the words of its own slot.
use Rattle.std.proofs.Common.{◌≡◌, ◌≢◌, ℕ, zero, suc, ◌+◌, ◌<◌, ◌≤◌, ◌⊎◌, List, [], ◌∷◌, length, set, get_or, sym, refl, ap, ◌∙◌, subst, inl, inr, ⊎_elim, arith, Bool, true, false}
use Rattle.std.proofs.lemmas.Bool.{cases_lt, cases_eq}
use Rattle.std.proofs.lemmas.List.{length-set, get_or-set_same, get_or-set_other, ext_get_or}
use Rattle.mont_base.specs.declared.constants.TheConstants.{FIELDS}
use Rattle.mont_base.specs.declared.record.Held.{Held}
use Rattle.mont_laws.specs.SlotReadings.{held_words, IsRecordOf}
use Rattle.mont_laws.specs.SlotImages.{IsEpochOf}
use Rattle.core_steps.specs.declared.parts.Writing.{Writing}
use Rattle.core_steps.specs.Storing.{front_of}
use Rattle.core_steps.specs.Roles.{Role, Free, Unfinished, Written, Kept, Lost, IsFree, IsBegun, HasFields, IsUnfinished, IsWritten, IsKept, IsLost, SlotFits}
use Rattle.core_steps.proofs.RoleFronts.{long_held}

-- a role and words that are equal to others fit as these do
pub refit : (now unit : ℕ) (x y : Role) (ws vs ds es : List ℕ) → x ≡ y → ws ≡ vs → ds ≡ es
    → SlotFits now unit x ws ds → SlotFits now unit y vs es
refit now unit x y ws vs ds es a b d h =
    subst (λ (z : Role × List ℕ × List ℕ). SlotFits now unit z.0 z.1 z.2) (λ i. (a i, b i, d i)) h

-- ---- a field is stored
-- a free slot is one of which no field was stored
pub free_begun : (ws ds : List ℕ) → IsFree ws ds → IsBegun 0 ws ds
free_begun ws ds k = record {
  closed = k.closed;
  was_closed = ap (λ (l : List ℕ). get_or l 0 0) k.settled ∙ k.closed;
  settled = λ f far. ap (λ (l : List ℕ). get_or l f 0) k.settled;
}

-- where n fields of a record were stored, one more field makes n + 1
pub store_fits : (unit n value : ℕ) (w : Writing) (whole : Held) (ws ds : List ℕ) → IsBegun n ws ds → n + 1 < length ws
    → n + 1 < FIELDS → IsRecordOf unit whole → w.stored ≡ n + 1 → w.change ≡ front_of whole (n + 1) → whole.slot ≡ w.slot
    → HasFields whole (n + 1) ws → value ≡ get_or (held_words whole) (n + 1) 0
    → IsUnfinished unit w (set ws (n + 1) value) ds
store_fits unit n value w whole ws ds k inside few valid stored shown in_slot before is = record {
  some = omega arith;
  few = omega arith;
  begun = record {
    closed = get_or-set_other ws (n + 1) 0 value 0 (λ h. omega arith) ∙ k.closed;
    was_closed = k.was_closed;
    settled = λ f far. k.settled f (omega arith) ∙ sym (get_or-set_other ws (n + 1) f value 0 (λ h. omega arith));
  };
  whole = whole;
  valid = valid;
  shown = shown ∙ ap (front_of whole) (sym stored);
  in_slot = in_slot;
  fields = λ f some low. ⊎_elim
      (λ (same : f ≡ n + 1).
      ap (λ (i : ℕ). get_or (set ws (n + 1) value) i 0) same
      ∙ get_or-set_same ws (n + 1) value 0 inside ∙ is
      ∙ ap (λ (i : ℕ). get_or (held_words whole) i 0) (sym same))
      (λ (other : f ≢ n + 1). get_or-set_other ws (n + 1) f value 0 other ∙ before f some (omega arith))
      (cases_eq f (n + 1));
}

-- ---- the label is stored
-- words that have a label and all other fields of a record are its words
same_words : (ws hs : List ℕ) (e : ℕ) → length ws ≡ length hs → get_or hs 0 0 ≡ e → 0 < length ws
    → ((f : ℕ) → 1 ≤ f → f < length ws → get_or ws f 0 ≡ get_or hs f 0) → set ws 0 e ≡ hs
same_words ws hs e long first some each = ext_get_or 0 (set ws 0 e) hs (length-set ws 0 e ∙ long) at
  where
    at : (f : ℕ) → f < length (set ws 0 e) → get_or (set ws 0 e) f 0 ≡ get_or hs f 0
    at zero low = get_or-set_same ws 0 e 0 some ∙ sym first
    at (suc f) low = get_or-set_other ws 0 (suc f) e 0 (λ h. omega arith) ∙ each (suc f) (omega arith) (omega (arith, length-set ws 0 e))

-- where all fields but the label of a record were stored, the label makes it whole
pub label_fits : (now unit n : ℕ) (w : Held) (ws ds : List ℕ) → IsBegun n ws ds → length ws ≡ FIELDS → IsRecordOf unit w
    → now ≤ w.label.epoch + 1 → HasFields w FIELDS ws → IsWritten now unit w (set ws 0 w.label.epoch) ds
label_fits now unit n w ws ds k long valid near before = record {
  valid = valid;
  near = near;
  current = same_words ws (held_words w) w.label.epoch (long ∙ sym (long_held unit w valid)) refl (omega arith)
      (λ f some low. before f some (omega arith));
  label = inl k.was_closed;
}

-- ---- what was written becomes records
abbrev pub left : Role → Role
left Free = Free
left (Unfinished w) = Unfinished w
left (Written w) = Kept w false
left (Kept r closing) = Kept r closing
left (Lost closing) = Lost closing

-- the words fit as they are
pub leave_fits : (now unit : ℕ) (x : Role) (ws ds : List ℕ) → SlotFits now unit x ws ds → SlotFits now unit (left x) ws ds
leave_fits now unit Free ws ds k = k
leave_fits now unit (Unfinished w) ws ds k = k
leave_fits now unit (Written w) ws ds k = let near = k.near in record {
  valid = k.valid;
  current = k.current;
  label = k.label;
  old = λ l. absurd (omega arith);
  due = λ e. absurd (cc);
}
leave_fits now unit (Kept r closing) ws ds k = k
leave_fits now unit (Lost closing) ws ds k = k

-- ---- the label of a record or of a lost slot is closed
pub close_fits : (now unit : ℕ) (r : Held) (ws ds : List ℕ) → IsKept now unit r false ws ds → r.label.epoch + 2 ≤ now
    → IsKept now unit r true (set ws 0 0) ds
close_fits now unit r ws ds k old = record {
  valid = k.valid;
  current = ap (λ (l : List ℕ). set l 0 0) k.current;
  label = k.label;
  old = k.old;
  due = λ e. old;
}

-- so it is with a lost slot
pub close_lost : (now : ℕ) (ws ds : List ℕ) → IsLost now false ws ds → IsLost now true (set ws 0 0) ds
close_lost now ws ds k = record { current = ap (λ (l : List ℕ). set l 0 0) k.current; beyond = k.beyond }

-- ---- and durably
first_closed : (ws : List ℕ) → get_or (set ws 0 0) 0 0 ≡ 0
first_closed [] = refl
first_closed (x ∷ ws) = refl

-- a record's slot is then free
pub closed_free : (now unit : ℕ) (r : Held) (ws ds : List ℕ) → IsKept now unit r true ws ds → IsFree ws (set ds 0 0)
closed_free now unit r ws ds k = record {
  closed = ap (λ (l : List ℕ). get_or l 0 0) k.current;
  settled = ap (λ (l : List ℕ). set l 0 0) (k.old (k.due refl)) ∙ sym k.current;
}

-- and a lost one
pub lost_free : (now : ℕ) (ws ds : List ℕ) → IsLost now true ws ds → IsFree ws (set ds 0 0)
lost_free now ws ds k = record {
  closed = ap (λ (l : List ℕ). get_or l 0 0) k.current ∙ first_closed ds;
  settled = sym k.current;
}

-- ---- a word of a record of the epoch before the clock becomes durable
first_of_set : (ds : List ℕ) (f v : ℕ) → ((get_or (set ds f v) 0 0 ≡ v) × (f ≡ 0)) ⊎ (get_or (set ds f v) 0 0 ≡ get_or ds 0 0)
first_of_set [] f v = inr refl
first_of_set (x ∷ ds) zero v = inl (refl, refl)
first_of_set (x ∷ ds) (suc f) v = inr refl

-- the words fit as before
pub persist_fits : (now unit f value : ℕ) (r : Held) (closing : Bool) (ws ds : List ℕ) → IsKept now unit r closing ws ds
    → r.label.epoch + 1 ≡ now → value ≡ get_or ws f 0 → IsKept now unit r closing ws (set ds f value)
persist_fits now unit f value r true ws ds k before is = absurd (let old = k.due refl in omega arith)
persist_fits now unit f value r false ws ds k before is = record {
  valid = k.valid;
  current = k.current;
  label = ⊎_elim
      (λ (h : (get_or (set ds f value) 0 0 ≡ value) × (f ≡ 0)).
      inr (h.0 ∙ is ∙ ap (λ (g : ℕ). get_or ws g 0) h.1 ∙ ap (λ (l : List ℕ). get_or l 0 0) k.current))
      (λ (h : get_or (set ds f value) 0 0 ≡ get_or ds 0 0). subst (IsEpochOf r) (sym h) k.label)
      (first_of_set ds f value);
  old = λ l. absurd (omega arith);
  due = λ e. absurd (cc);
}

-- ---- the clock moves
-- what the next epoch needs of a slot: what is written has this epoch, and a record of the epoch before is durable
abbrev pub IsReady : ℕ → Role → List ℕ → List ℕ → Type 0
IsReady now Free ws ds = Unit {0}
IsReady now (Unfinished w) ws ds = Unit {0}
IsReady now (Written w) ws ds = w.label.epoch ≡ now
IsReady now (Kept r closing) ws ds = r.label.epoch + 1 ≡ now → ds ≡ ws
IsReady now (Lost closing) ws ds = ⊥

-- records that become two epochs old are durable
kept_later : (now unit : ℕ) (r : Held) (closing : Bool) (ws ds : List ℕ) → IsKept now unit r closing ws ds
    → (r.label.epoch + 1 ≡ now → ds ≡ ws) → r.label.epoch + 2 ≤ now + 1 → ds ≡ held_words r
kept_later now unit r true ws ds k ready old = k.old (k.due refl)
kept_later now unit r false ws ds k ready old = ⊎_elim
    (λ (l : now < r.label.epoch + 2). ready (omega arith) ∙ k.current)
    (λ (l : r.label.epoch + 2 ≤ now). k.old l)
    (cases_lt now (r.label.epoch + 2))

-- and the words fit in the next epoch
pub later_fits : (now unit : ℕ) (x : Role) (ws ds : List ℕ) → SlotFits now unit x ws ds → IsReady now x ws ds
    → SlotFits (now + 1) unit x ws ds
later_fits now unit Free ws ds k ready = k
later_fits now unit (Unfinished w) ws ds k ready = k
later_fits now unit (Written w) ws ds k ready =
    record { valid = k.valid; near = omega arith; current = k.current; label = k.label }
later_fits now unit (Kept r closing) ws ds k ready = record {
  valid = k.valid;
  current = k.current;
  label = k.label;
  old = kept_later now unit r closing ws ds k ready;
  due = λ e. let l = k.due e in omega arith;
}
later_fits now unit (Lost closing) ws ds k ready = absurd ready
