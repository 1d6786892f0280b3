-- The steps by which a unit closes a slot keep the roles of the slots.
use Rattle.std.proofs.Common.{◌≡◌, ◌≢◌, ℕ, ◌+◌, ◌≤◌, ◌⊎◌, List, [], ◌∷◌, set, sym, refl, ap, ◌∙◌, subst, inl, inr, ⊎_elim, arith, true, false}
use Rattle.std.specs.Prelude.{slice_get, Some, ◌==◌, not}
use Rattle.std.specs.List.{Contains}
use Rattle.std.proofs.lemmas.Bool.{eq-eqb, ne_eqb, eqb-false, not-true, not_from_false}
use Rattle.std.proofs.lemmas.List.Elements.{All-head}
use Rattle.std.proofs.lemmas.List.Kept.{AllPairs-filter}
use Rattle.mont_base.specs.declared.record.Held.{Held}
use Rattle.mont_base.specs.Layout.{Shape, word_of, unit_of_slot}
use Rattle.mont_base.specs.Image.{words_at}
use Rattle.mont_laws.specs.declared.retiring.Retired.{Retired}
use Rattle.mont_laws.proofs.Members.{first_element, kept_element, element_kept}
use Rattle.mont_laws.proofs.Apart.{stays, stayed}
use Rattle.mont_laws.proofs.SlotWords.{stores_change_one_field}
use Rattle.core_steps.specs.declared.parts.UnitPart.{UnitPart}
use Rattle.core_steps.specs.declared.parts.UnitStage.{UnitStage}
use Rattle.core_steps.specs.declared.parts.UnitStage.TheVariants.{Idle, Within, Closing}
use Rattle.core_steps.specs.declared.parts.Writing.{Writing}
use Rattle.core_steps.specs.Stages.{is_closing}
use Rattle.core_steps.specs.Closing.{IsFirstDue, IsFirstLost, IsDueNow, without_lost, after_close_label, after_persist_close}
use Rattle.core_steps.specs.UnitClauses.{IsOwnEpoch, HasVersions}
use Rattle.core_steps.specs.Roles.{Role, Free, Unfinished, Written, Kept, Lost, IsFree, SlotFits, Says, Shows, HasSlots}
use Rattle.core_steps.proofs.RoleWords.{close_fits, close_lost, closed_free, lost_free}
use Rattle.core_steps.proofs.RoleMoves.{Moves, stay, current_moves, durable_moves, has_moved}
use Rattle.core_steps.proofs.RoleFacts.{said_fits, IsSpared, SparesSlot, spared}

-- the role of a slot that is being closed
abbrev closed : Role → Role
closed Free = Free
closed (Unfinished w) = Unfinished w
closed (Written w) = Written w
closed (Kept r closing) = Kept r true
closed (Lost closing) = Lost true

-- records and lost slots, which alone may be closed
abbrev MayClose : Role → Type 0
MayClose Free = ⊥
MayClose (Unfinished w) = ⊥
MayClose (Written w) = ⊥
MayClose (Kept r closing) = Unit {0}
MayClose (Lost closing) = Unit {0}

-- a slot that is a record's, or lost
abbrev pub IsUsed : UnitPart → ℕ → Type 0
IsUsed p slot = ((r : Held) × (r.slot ≡ slot) × Contains p.records r) ⊎ Contains p.lost slot

-- the record is two epochs old
abbrev pub IsDueSlot : ℕ → UnitPart → ℕ → Type 0
IsDueSlot now p slot =
    ((r : Held) × (r.slot ≡ slot) × Contains p.records r × (r.label.epoch + 2 ≤ now)) ⊎ Contains p.lost slot

-- ---- lost slots without one
in_without_lost : (slot : ℕ) (lost : List ℕ) (n : ℕ) → Contains (without_lost slot lost) n → Contains lost n × (n ≢ slot)
in_without_lost slot lost n h =
    let parts = kept_element (λ (m : ℕ). not (m == slot)) n lost h in (parts.0, eqb-false n slot (not-true (n == slot) parts.1))

without_lost_from : (slot : ℕ) (lost : List ℕ) (n : ℕ) → Contains lost n → n ≢ slot → Contains (without_lost slot lost) n
without_lost_from slot lost n h other =
    element_kept (λ (m : ℕ). not (m == slot)) n lost h (not_from_false (n == slot) (ne_eqb n slot other))

module _ (s : Shape) (role : ℕ → Role) (u slot : ℕ) (p : UnitPart) (shows : Shows s role u p)
    (x : Role) (is : role slot ≡ x) (may : MayClose x) where
  -- nothing is being written in a slot that may be closed
  not_writing : (w : Writing) → w.slot ≡ slot → p.writing ≡ Some w → ⊥
  not_writing w e h = subst MayClose (sym is ∙ (shows.says slot (Unfinished w) (e, h)).is) may

  -- and nothing was
  not_written : (w : Held) → w.slot ≡ slot → Contains p.written w → ⊥
  not_written w e h = subst MayClose (sym is ∙ (shows.says slot (Written w) (e, h)).is) may

  -- its label is closed
  close_moves : p.stage ≡ Idle → Says (after_close_label p slot) slot (closed x) → Moves p (after_close_label p slot) slot (closed x)
  close_moves idle says = record {
    records = λ r n. stay;
    written = λ w n. stay;
    writing = λ w n. stay;
    lost = λ t n. stay;
    closing = λ t n. ne_eqb t slot n ∙ sym (ap (λ (z : UnitStage). is_closing z t) idle);
    own_record = λ r e h. ap closed (sym is ∙ (shows.says slot (Kept r (is_closing p.stage slot)) (e, refl, h)).is)
        ∙ ap (Kept r) (sym (eq-eqb slot slot refl));
    own_written = λ w e h. absurd (not_written w e h);
    own_writing = λ w e h. absurd (not_writing w e h);
    own_lost = λ h. ap closed (sym is ∙ (shows.says slot (Lost (is_closing p.stage slot)) (refl, h)).is)
        ∙ ap Lost (sym (eq-eqb slot slot refl));
    here = inr says;
    writes = λ w e. let clash : Idle ≡ Within w.change.label.epoch = sym idle ∙ shows.writes w e in absurd (cc);
    wrote = λ w e. let clash : Idle ≡ Within w.label.epoch = sym idle ∙ shows.wrote w e in absurd (cc);
    written_once = shows.written_once;
    lost_once = shows.lost_once;
  }

  -- and durably, whereupon it is free
  persist_moves : p.stage ≡ Closing slot → Moves p (after_persist_close p slot) slot Free
  persist_moves stage = record {
    records = λ r n. (λ h. (stayed r slot p.records h).0, λ h. stays r slot p.records h n);
    written = λ w n. stay;
    writing = λ w n. stay;
    lost = λ t n. (λ h. (in_without_lost slot p.lost t h).0, λ h. without_lost_from slot p.lost t h n);
    closing = λ t n. sym (ap (λ (z : UnitStage). is_closing z t) stage ∙ ne_eqb t slot n);
    own_record = λ r e h. absurd ((stayed r slot p.records h).1 e);
    own_written = λ w e h. absurd (not_written w e h);
    own_writing = λ w e h. absurd (not_writing w e h);
    own_lost = λ h. absurd ((in_without_lost slot p.lost slot h).1 refl);
    here = inl refl;
    writes = λ w e. let clash : Closing slot ≡ Within w.change.label.epoch = sym stage ∙ shows.writes w e in absurd (cc);
    wrote = λ w e. let clash : Closing slot ≡ Within w.label.epoch = sym stage ∙ shows.wrote w e in absurd (cc);
    written_once = shows.written_once;
    lost_once = AllPairs-filter (λ (n m : ℕ). n ≢ m) (λ (n : ℕ). not (n == slot)) p.lost shows.lost_once;
  }

module _ (s : Shape) (now : ℕ) (cur dur : List ℕ) (units : List UnitPart) (u : ℕ) (p : UnitPart)
    (h : HasSlots s now cur dur units) (at : slice_get units u ≡ Some p) where
  -- ---- the label is closed
  module _ (slot : ℕ) (idle : p.stage ≡ Idle) where
    none_closing : false ≡ is_closing p.stage slot
    none_closing = sym (ap (λ (z : UnitStage). is_closing z slot) idle)

    -- words that fit the role of a slot that is being closed
    closes : (x : Role) → Says p slot x → MayClose x → Says (after_close_label p slot) slot (closed x)
        → SlotFits now (unit_of_slot s slot) (closed x) (set (words_at cur slot) 0 0) (words_at dur slot)
        → HasSlots s now (set cur (word_of slot 0) 0) dur (set units u (after_close_label p slot))
    closes x says may behind fits =
        let place = (h.shows u p at).says slot x says in
        has_moved s now cur dur units u p slot (after_close_label p slot) (closed x) (set cur (word_of slot 0) 0) dur h at
        place.inside place.of_unit (current_moves cur dur slot 0 0 (omega arith))
        (close_moves s h.role u slot p (h.shows u p at) x place.is may idle behind)
        (subst (λ (l : List ℕ). SlotFits now (unit_of_slot s slot) (closed x) l (words_at dur slot))
        (sym (stores_change_one_field cur slot 0 0 (omega arith)).own) fits)

    -- the label of a slot that is due is closed
    pub slots_close_label : IsDueSlot now p slot → HasSlots s now (set cur (word_of slot 0) 0) dur (set units u (after_close_label p slot))
    slots_close_label due = ⊎_elim
        (λ (d : (r : Held) × (r.slot ≡ slot) × Contains p.records r × (r.label.epoch + 2 ≤ now)).
        let says : Says p slot (Kept d.0 false) = (d.1, none_closing, d.2) in
        closes (Kept d.0 false) says tt (d.1, sym (eq-eqb slot slot refl), d.2)
        (close_fits now (unit_of_slot s slot) d.0 (words_at cur slot) (words_at dur slot)
        (said_place (Kept d.0 false) says) d.3))
        (λ (d : Contains p.lost slot).
        let says : Says p slot (Lost false) = (none_closing, d) in
        closes (Lost false) says tt (sym (eq-eqb slot slot refl), d)
        (close_lost now (words_at cur slot) (words_at dur slot) (said_place (Lost false) says)))
        due
      where
        said_place : (x : Role) → Says p slot x → SlotFits now (unit_of_slot s slot) x (words_at cur slot) (words_at dur slot)
        said_place x says = let place = (h.shows u p at).says slot x says in
            subst (λ (y : Role). SlotFits now (unit_of_slot s slot) y (words_at cur slot) (words_at dur slot)) place.is
            (h.fits slot place.inside)

  -- ---- and durably
  module _ (slot : ℕ) (stage : p.stage ≡ Closing slot) where
    is_closed : true ≡ is_closing p.stage slot
    is_closed = sym (ap (λ (z : UnitStage). is_closing z slot) stage ∙ eq-eqb slot slot refl)

    -- words that fit a free slot
    frees : (x : Role) → Says p slot x → MayClose x → IsFree (words_at cur slot) (set (words_at dur slot) 0 0)
        → HasSlots s now cur (set dur (word_of slot 0) 0) (set units u (after_persist_close p slot))
    frees x says may free =
        let place = (h.shows u p at).says slot x says in
        has_moved s now cur dur units u p slot (after_persist_close p slot) Free cur (set dur (word_of slot 0) 0) h at
        place.inside place.of_unit (durable_moves cur dur slot 0 0 (omega arith))
        (persist_moves s h.role u slot p (h.shows u p at) x place.is may stage)
        (subst (λ (l : List ℕ). IsFree (words_at cur slot) l) (sym (stores_change_one_field dur slot 0 0 (omega arith)).own) free)

    -- and is closed durably
    pub slots_persist_close : IsUsed p slot → HasSlots s now cur (set dur (word_of slot 0) 0) (set units u (after_persist_close p slot))
    slots_persist_close used = ⊎_elim
        (λ (d : (r : Held) × (r.slot ≡ slot) × Contains p.records r).
        let says : Says p slot (Kept d.0 true) = (d.1, is_closed, d.2) in
        frees (Kept d.0 true) says tt
        (closed_free now u d.0 (words_at cur slot) (words_at dur slot) (said_fits s now cur dur units u p h at slot (Kept d.0 true) says)))
        (λ (d : Contains p.lost slot).
        let says : Says p slot (Lost true) = (is_closed, d) in
        frees (Lost true) says tt
        (lost_free now (words_at cur slot) (words_at dur slot) (said_fits s now cur dur units u p h at slot (Lost true) says)))
        used

    -- a slot that is being closed no advance writes back
    pub closing_spares : IsUsed p slot → SparesSlot now units slot
    closing_spares used = spared s now cur dur units h slot (⊎_elim
        (λ (d : (r : Held) × (r.slot ≡ slot) × Contains p.records r).
        let says : Says p slot (Kept d.0 true) = (d.1, is_closed, d.2) in
        let old = (said_fits s now cur dur units u p h at slot (Kept d.0 true) says).due refl in
        subst (IsSpared now) (sym ((h.shows u p at).says slot (Kept d.0 true) says).is) old)
        (λ (d : Contains p.lost slot). subst (IsSpared now) (sym ((h.shows u p at).says slot (Lost true) (is_closed, d)).is) tt)
        used)

  -- nor one that may be
  pub close_spares : (slot : ℕ) → IsDueSlot now p slot → SparesSlot now units slot
  close_spares slot due = spared s now cur dur units h slot (⊎_elim
      (λ (d : (r : Held) × (r.slot ≡ slot) × Contains p.records r × (r.label.epoch + 2 ≤ now)).
      subst (IsSpared now) (sym ((h.shows u p at).says slot (Kept d.0 (is_closing p.stage slot)) (d.1, refl, d.2)).is) d.3)
      (λ (d : Contains p.lost slot).
      subst (IsSpared now) (sym ((h.shows u p at).says slot (Lost (is_closing p.stage slot)) (refl, d)).is) tt)
      due)

-- ---- a slot that is due is that of an old record, or lost
first_retired : (base : ℕ) (records : List Held) (retired : List Retired) (known slot : ℕ) → HasVersions base records retired
    → IsFirstDue retired known slot
    → (r : Held) × (r.slot ≡ slot) × Contains records r × ((r.label.epoch + 2 ≤ known) ⊎ (r.label.epoch + 2 ≤ base))
first_retired base records [] known slot k due = absurd due
first_retired base records (t ∷ ts) known slot k due =
    let r = k.retires.0.due_record in
    let late = due.1 in (
      r,
      k.retires.0.in_slot ∙ due.0,
      k.retires.0.there,
      ⊎_elim
          (λ (own : r.label.epoch ≤ t.epoch). inl (omega arith))
          (λ (found : r.label.epoch + 2 ≤ base). inr found)
          (All-head (IsOwnEpoch base records) t ts k.own r k.retires.0.there k.retires.0.in_slot),
    )

-- from what is true of a unit's versions
pub due_slot : (base now : ℕ) (p : UnitPart) (slot : ℕ) → HasVersions base p.records p.retired → base ≤ now → p.durable ≤ now
    → IsDueNow p slot → IsDueSlot now p slot
due_slot base now p slot k begun known due = ⊎_elim
    (λ (first : IsFirstDue p.retired p.durable slot).
    let is = first_retired base p.records p.retired p.durable slot k first in
    inl (
      is.0,
      is.1,
      is.2,
      ⊎_elim
          (λ (l : is.0.label.epoch + 2 ≤ p.durable). omega arith)
          (λ (l : is.0.label.epoch + 2 ≤ base). omega arith)
          is.3,
    ))
    (λ (first : IsFirstLost p.lost slot). inr (by p.lost first))
    due
  where
    by : (lost : List ℕ) → IsFirstLost lost slot → Contains lost slot
    by [] e = absurd e
    by (n ∷ ns) e = subst (Contains (n ∷ ns)) e (first_element n ns)
