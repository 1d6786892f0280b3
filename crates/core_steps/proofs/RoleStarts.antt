-- The roles of the slots of a store that begins: of an empty one, and of one that was recovered from an image.
use Rattle.std.proofs.Common.{◌≡◌, ◌≢◌, ℕ, ◌<◌, ◌≤◌, ◌⊎◌, List, length, replicate, get_or, sym, refl, ap, ◌∙◌, subst, inl, inr, ⊎_elim, arith, Bool, true, false}
use Rattle.std.specs.Prelude.{Option, Some, None, ◌==◌, AllPairs}
use Rattle.std.specs.List.{Contains}
use Rattle.std.proofs.lemmas.Bool.{eqb-true, eqb-false, ne_eqb}
use Rattle.std.proofs.lemmas.Option.{slice_get_within}
use Rattle.mont_base.specs.declared.record.Held.{Held}
use Rattle.mont_base.specs.Layout.{Shape, IsLayout, units_of, total_of, unit_of_slot}
use Rattle.mont_base.specs.Image.{clock_of, cut_of, words_at, epoch_at, record_at, IsWellFormed}
use Rattle.mont_laws.proofs.Members.{no_element}
use Rattle.mont_laws.proofs.SlotWords.{first_at}
use Rattle.mont_laws.proofs.UnitSlots.{slots_have_units}
use Rattle.mont_laws.proofs.UnitRecords.{read_of_listed, listed_of_read}
use Rattle.mont_laws.proofs.SettledWords.{well_formed_slots_are_read, empty_words_are_a_store}
use Rattle.core_steps.specs.declared.parts.UnitPart.{UnitPart}
use Rattle.core_steps.specs.declared.parts.UnitStage.{UnitStage}
use Rattle.core_steps.specs.Places.{EachAt}
use Rattle.core_steps.specs.Stages.{is_closing}
use Rattle.core_steps.specs.Fresh.{fresh_words, fresh_unit}
use Rattle.core_steps.specs.Opened.{IsRecoveredUnit}
use Rattle.core_steps.specs.Roles.{Role, Free, Unfinished, Written, Kept, Lost, SlotFits, Says, HasRole, Shows, HasSlots}
use Rattle.core_steps.proofs.Rows.{row_copy}

-- ---- an empty store
fresh_says : (slot : ℕ) (x : Role) → Says fresh_unit slot x → ⊥
fresh_says slot Free k = k
fresh_says slot (Unfinished w) k = let clash : None ≡ Some w = k.1 in cc
fresh_says slot (Written w) k = no_element w k.1
fresh_says slot (Kept r closing) k = no_element r k.2
fresh_says slot (Lost closing) k = no_element slot k.1

-- a fresh unit says nothing of its slots
fresh_shows : (s : Shape) (u : ℕ) → Shows s (λ slot. Free) u fresh_unit
fresh_shows s u = record {
  says = λ slot x k. absurd (fresh_says slot x k);
  others = λ slot of_unit. inl refl;
  writes = λ w e. absurd (cc);
  wrote = λ w k. absurd (no_element w k);
  written_once = λ i j d low high. absurd (omega arith);
  lost_once = λ i j d low high. absurd (omega arith);
}

-- all its slots are free
pub fresh_slots : (s : Shape) (now units : ℕ) → IsLayout s
    → HasSlots s now (fresh_words s) (fresh_words s) (replicate units fresh_unit)
fresh_slots s now units layout = record {
  role = λ slot. Free;
  fits = λ slot low. record {
    closed = first_at (fresh_words s) slot ∙ (empty_words_are_a_store s layout).closed slot;
    settled = refl;
  };
  shows = λ u p at. subst (Shows s (λ slot. Free) u) (row_copy units u fresh_unit p at).0 (fresh_shows s u);
}

-- ---- a store that was recovered from an image
-- the role of a slot by what is read of it, and by whether it is closed
abbrev found_role : Option Held → Bool → Role
found_role (Some r) closed = Kept r false
found_role None true = Free
found_role None false = Lost false

module _ (s : Shape) (image : List ℕ) (k : IsWellFormed s image) where
  abbrev role_at : ℕ → Role
  role_at slot = found_role (record_at s image slot) (epoch_at image slot == 0)

  -- a unit has slots
  least : 1 ≤ s.slots
  least = let some = k.layout.some_slots in omega arith

  -- a slot that isn't closed and holds nothing within the cut is beyond it
  beyond : (slot : ℕ) → slot < total_of s → record_at s image slot ≡ None → (epoch_at image slot == 0) ≡ false
      → cut_of image < epoch_at image slot
  beyond slot low e open_slot = ⊎_elim
      (λ (z : epoch_at image slot ≡ 0). absurd (eqb-false (epoch_at image slot) 0 open_slot z))
      (λ (l : cut_of image < epoch_at image slot). l)
      ((well_formed_slots_are_read s image slot k low).none.0 e)

  -- the words of each slot fit the role that is found
  found_fits : (slot : ℕ) → slot < total_of s → (o : Option Held) → record_at s image slot ≡ o
      → (b : Bool) → (epoch_at image slot == 0) ≡ b
      → SlotFits (clock_of image) (unit_of_slot s slot) (found_role o b) (words_at image slot) (words_at image slot)
  found_fits slot low (Some r) e b is =
      let found = ((well_formed_slots_are_read s image slot k low).some r).0 e in record {
        valid = found.spelled.valid;
        current = found.spelled.shown;
        label = inr (ap (λ (l : List ℕ). get_or l 0 0) found.spelled.shown);
        old = λ l. found.spelled.shown;
        due = λ c. absurd (cc);
      }
  found_fits slot low None e true is =
      record { closed = first_at image slot ∙ eqb-true (epoch_at image slot) 0 is; settled = refl }
  found_fits slot low None e false is =
      let far = beyond slot low e is in
      let first = first_at image slot in
      record { current = refl; beyond = omega arith }

  module _ (u : ℕ) (p : UnitPart) (of_store : u < units_of s) (f : IsRecoveredUnit s image u p) where
    -- a slot of the unit is one of the store's
    in_store : (slot : ℕ) → unit_of_slot s slot ≡ u → slot < total_of s
    in_store slot of_unit = (slots_have_units s slot least).1 (subst (λ (v : ℕ). v < units_of s) (sym of_unit) of_store)

    -- and isn't being closed
    none_closing : (slot : ℕ) → is_closing p.stage slot ≡ false
    none_closing slot = ap (λ (z : UnitStage). is_closing z slot) f.stage

    -- what the unit says of a slot is the role that is found
    found_says : (slot : ℕ) (x : Role) → Says p slot x → HasRole s role_at u slot x
    found_says slot Free h = absurd h
    found_says slot (Unfinished w) h = let clash : None ≡ Some w = sym f.writing ∙ h.1 in absurd (cc)
    found_says slot (Written w) h = absurd (no_element w (subst (λ (l : List Held). Contains l w) f.written h.1))
    found_says slot (Kept r b) h =
        let listed = read_of_listed s image u r least (subst (λ (l : List Held). Contains l r) f.records h.2) in
        subst (λ (n : ℕ). HasRole s role_at u n (Kept r b)) h.0 (record {
          inside = in_store r.slot listed.0;
          of_unit = listed.0;
          is = ap (λ (o : Option Held). found_role o (epoch_at image r.slot == 0)) listed.1
              ∙ ap (Kept r) (sym (h.1 ∙ none_closing slot));
        })
    found_says slot (Lost b) h =
        let far = (f.lost.members slot).0 h.1 in
        let low = in_store slot far.0 in
        let high = far.1 in
        let unread = (well_formed_slots_are_read s image slot k low).none.1 (inr high) in
        let open_slot : (epoch_at image slot == 0) ≡ false = ne_eqb (epoch_at image slot) 0 (λ z. omega arith) in record {
          inside = low;
          of_unit = far.0;
          is = (λ i. found_role (unread i) (open_slot i)) ∙ ap Lost (sym (h.0 ∙ none_closing slot));
        }

    -- and every other slot is found free
    found_others : (slot : ℕ) → unit_of_slot s slot ≡ u → (o : Option Held) → record_at s image slot ≡ o
        → (b : Bool) → (epoch_at image slot == 0) ≡ b → (found_role o b ≡ Free) ⊎ Says p slot (found_role o b)
    found_others slot of_unit (Some r) e b is =
        let found = ((well_formed_slots_are_read s image slot k (in_store slot of_unit)).some r).0 e in
        let listed = listed_of_read s image u r least (
          ap (unit_of_slot s) found.there ∙ of_unit,
          ap (record_at s image) found.there ∙ e,
        ) in
        inr (found.there, sym (none_closing slot), subst (λ (l : List Held). Contains l r) (sym f.records) listed)
    found_others slot of_unit None e true is = inl refl
    found_others slot of_unit None e false is =
        inr (sym (none_closing slot), (f.lost.members slot).1 (of_unit, beyond slot (in_store slot of_unit) e is))

    -- so the unit shows the roles
    found_shows : Shows s role_at u p
    found_shows = record {
      says = found_says;
      others = λ slot of_unit. found_others slot of_unit (record_at s image slot) refl (epoch_at image slot == 0) refl;
      writes = λ w e. let clash : None ≡ Some w = sym f.writing ∙ e in absurd (cc);
      wrote = λ w h. absurd (no_element w (subst (λ (l : List Held). Contains l w) f.written h));
      written_once = subst (AllPairs (λ (w z : Held). w.slot ≢ z.slot)) (sym f.written) (λ i j d low high. absurd (omega arith));
      lost_once = λ i j d low high same. let below = f.lost.rising i j d low high in omega arith;
    }

  -- recovery's records and lost slots are the roles that the image shows
  pub recovered_slots : (units : List UnitPart) → length units ≡ units_of s → EachAt (IsRecoveredUnit s image) units
      → HasSlots s (clock_of image) image image units
  recovered_slots units count found = record {
    role = role_at;
    fits = λ slot low. found_fits slot low (record_at s image slot) refl (epoch_at image slot == 0) refl;
    shows = λ u p at. found_shows u p (let inside = slice_get_within units u p at in omega arith) (found u p at);
  }
