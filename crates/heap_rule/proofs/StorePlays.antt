-- What each step owes the rule by which a unit stores a word of a slot, closes a label, and makes that
-- durable.
use Rattle.std.proofs.Common.{◌≡◌, ◌≢◌, ℕ, zero, suc, ◌+◌, ◌-◌, ◌<◌, ◌≤◌, List, [], ◌∷◌, set, refl, sym, ap, ◌∙◌, subst, ⊎_elim, inl, inr, arith, Bool, true, false, cond, map, ne_eqb}
use Rattle.std.specs.Prelude.{slice_get, Some, None, ◌==◌, ◌||◌, filter}
use mathlib.Core.Option.{none}
use Rattle.atomic_table.specs.Table.{keeps, step, Allows}
use Rattle.mont_base.specs.declared.constants.TheConstants.{FIELDS}
use Rattle.mont_base.specs.declared.record.Held.{Held}
use Rattle.mont_base.specs.Layout.{Shape, total_of, word_of}
use Rattle.mont_laws.proofs.SlotWords.{stores_change_one_field}
use Rattle.core_steps.specs.declared.event.Event.TheVariants as events
use Rattle.core_steps.specs.declared.parts.Core.{Core}
use Rattle.core_steps.specs.declared.parts.UnitPart.{UnitPart}
use Rattle.core_steps.specs.declared.parts.UnitStage.{UnitStage}
use Rattle.core_steps.specs.declared.parts.UnitStage.TheVariants.{Closing}
use Rattle.core_steps.specs.declared.parts.Writing.{Writing}
use Rattle.core_steps.specs.Clock.{clock, durable_clock}
use Rattle.core_steps.specs.Stages.{is_announced, is_empty}
use Rattle.core_steps.specs.Storing.{IsFreeSlot, LooksFree, IsTurn, CanStore, after_store, store}
use Rattle.core_steps.specs.Closing.{IsDueNow, CanClose, CanPersistClose, after_close_label, close_label, after_persist_close, persist_close, without_lost}
use Rattle.core_steps.specs.Events.{IsSettled, closing_of}
use Rattle.core_steps.specs.Flushing.{unit_list}
use Rattle.core_steps.specs.Sound.{Base, IsSound}
use Rattle.core_steps.specs.UnitClauses.{ClosesDue}
use Rattle.core_steps.proofs.CloseLaws.{lost_apart}
use Rattle.core_steps.proofs.UnitCloses.{due_lost, due_old}
use Rattle.core_steps.proofs.UnitLists.{listed_without}
use Rattle.core_steps.proofs.RowFacts.{row_from}
use Rattle.core_steps.proofs.Rows.{row_set, row_here}
use Rattle.core_steps.proofs.RoleFacts.{slot_looks_free, free_settled, writing_settled, writing_label}
use Rattle.core_steps.proofs.StoreLaws.{some_slots}
use Rattle.heap_rule.specs.declared.rule.Opening.{Opening}
use Rattle.heap_rule.specs.declared.views.UnitKnown.{UnitKnown}
use Rattle.heap_rule.specs.Views.{Cell, unit_view, is_among, with_clean, home_turn, unit_wrote, unit_closed, unit_persisted}
use Rattle.heap_rule.specs.TableWords.{durable_place}
use Rattle.heap_rule.specs.Rule.{AreClean, ShowsCore}
use Rattle.heap_rule.specs.Plays.{wrote, closed, persisted}
use Rattle.heap_rule.specs.SoundUnits.{IsSoundUnit}
use Rattle.heap_rule.proofs.WordPlaces.{slot_at_word, field_at_word}
use Rattle.heap_rule.proofs.HomeSlots.{stage_same}
use Rattle.heap_rule.proofs.RuleFrames.{Reached, goes}
use Rattle.heap_rule.proofs.RunFacts.{unit_sound}
use Rattle.heap_rule.proofs.CoreFacts.{at_row, none_announced, stores_current, stores_durable, slot_word_within}
use Rattle.heap_rule.proofs.UnitPlays.{IsOwnStep, own_store, still_clean, rest_home}

-- ---- Store
module _ (base : Base) (c : Core) (u : ℕ) (p : UnitPart) (sound : IsSound base c) (at : slice_get c.units u ≡ Some p) where
  -- a slot that is free to the unit looks so in both memories
  looks_free : (slot : ℕ) → IsFreeSlot c.layout u p slot → p.writing ≡ None → LooksFree c.layout c.cur c.dur u p slot
  looks_free slot free unwritten = slot_looks_free c.layout (clock c) c.cur c.dur c.units u p sound.slots at
      (some_slots c.layout sound.sizes.layout) sound.sizes.unit_count slot free unwritten

  -- and the word that is stored has no store pending
  turn_settled : (slot n : ℕ) → n + 1 < FIELDS → IsTurn (IsFreeSlot c.layout u p slot) p slot n
      → IsSettled c.cur c.dur (word_of slot (suc n))
  turn_settled slot n low turn = ⊎_elim
      (λ (t : (n ≡ 0) × (p.writing ≡ None) × IsFreeSlot c.layout u p slot).
      free_settled c.layout (clock c) c.cur c.dur c.units u p sound.slots at
      (some_slots c.layout sound.sizes.layout) sound.sizes.unit_count slot (suc n) t.2 t.1 (omega arith))
      (λ (t : (w : Writing) × (p.writing ≡ Some w) × (w.slot ≡ slot) × (w.stored ≡ n)).
      let stored = t.3 in
      subst (λ (z : ℕ). IsSettled c.cur c.dur (word_of z (suc n))) t.2
      (writing_settled c.layout (clock c) c.cur c.dur c.units u p sound.slots at t.0 (suc n) t.1 (omega arith) (omega arith)))
      turn

  store_allowed : (slot field value : ℕ) → CanStore (IsFreeSlot c.layout u p slot) u p slot field value
      → CanStore (LooksFree c.layout c.cur c.dur u p slot) u p slot field value × IsSettled c.cur c.dur (word_of slot field)
  store_allowed slot zero value can = (
    can,
    subst (λ (z : ℕ). IsSettled c.cur c.dur (word_of z 0)) can.in_slot
        (writing_label c.layout (clock c) c.cur c.dur c.units u p sound.slots at can.writing can.is),
  )
  store_allowed slot (suc n) value can = (
    record {
      unfrozen = can.unfrozen;
      epoch = can.epoch;
      stage = can.stage;
      field = can.field;
      turn = ⊎_elim
          (λ (t : (n ≡ 0) × (p.writing ≡ None) × IsFreeSlot c.layout u p slot). inl (t.0, t.1, looks_free slot t.2 t.1))
          (λ (t : (w : Writing) × (p.writing ≡ Some w) × (w.slot ≡ slot) × (w.stored ≡ n)). inr t)
          can.turn;
      whole = can.whole;
      valid = can.valid;
      in_slot = can.in_slot;
      of_epoch = can.of_epoch;
      before = can.before;
      stores = can.stores;
    },
    turn_settled slot n can.field can.turn,
  )

-- the unit writes in an epoch, and its stage stays
can_stage : (free : Type 0) (u : ℕ) (p : UnitPart) (slot field value : ℕ) → CanStore free u p slot field value
    → is_announced p.stage ≡ true
can_stage free u p slot zero value can = ap is_announced can.stage
can_stage free u p slot (suc n) value can = ap is_announced can.stage

pub can_field : (free : Type 0) (u : ℕ) (p : UnitPart) (slot field value : ℕ) → CanStore free u p slot field value → field < FIELDS
can_field free u p slot zero value can = omega arith
can_field free u p slot (suc n) value can = let l = can.field in omega arith

stored_stage : (p : UnitPart) (slot field value : ℕ) → (after_store p slot field value).stage ≡ p.stage
stored_stage p slot zero value = refl
stored_stage p slot (suc n) value = refl

stored_records : (p : UnitPart) (slot field value : ℕ) → (after_store p slot field value).records ≡ p.records
stored_records p slot zero value = refl
stored_records p slot (suc n) value = refl

stored_lost : (p : UnitPart) (slot field value : ℕ) → (after_store p slot field value).lost ≡ p.lost
stored_lost p slot zero value = refl
stored_lost p slot (suc n) value = refl

list_by_records : (x : ℕ) (p q : UnitPart) → q.records ≡ p.records → unit_list x q ≡ unit_list x p
list_by_records x p q same = ap (λ (rs : List Held). map (λ (r : Held). r.slot) (filter (λ (r : Held). r.label.epoch == x) rs)) same

pub stores : (o : Opening) (slots seat : ℕ) (h : UnitKnown) (c : List (ℕ × Cell)) (slot field value : ℕ)
    → CanStore (IsFreeSlot o.layout h.unit h.part slot) h.unit h.part slot field value → slot < total_of o.layout
    → Allows (ShowsCore o) slots seat (unit_view h, c) (word_of slot field) (λ _. value)
    (λ _ m. wrote (step slots (word_of slot field) value 0 none) (unit_view h, c) value m)
stores o slots seat h c slot field value may inside s k long at small =
    let f = (k.views seat (unit_view h) at).units.0 in
    let core = k.board.core in
    let q : UnitPart = after_store h.part slot field value in
    let d : Core = store core h.unit h.part slot field value in
    let low = can_field _ h.unit h.part slot field value may in
    let can = subst (λ (l : Shape). CanStore (IsFreeSlot l h.unit h.part slot) h.unit h.part slot field value) (sym k.layout) may in
    let same = list_by_records (clock core - 1) h.part q (stored_records h.part slot field value) in
    let is : IsOwnStep core d h.unit h.part q = record {
      units = refl;
      advancer = refl;
      odd = refl;
      layout = refl;
      clock_is = (stores_change_one_field core.cur slot field value low).clock;
      durable = refl;
      lost = λ e. stored_lost h.part slot field value ∙ e;
      old_list = λ _. same;
    } in
    let home : (x : ℕ) → _ = λ (x : ℕ). stage_same core.layout.slots x h.part q (k.board.turn h.unit)
    (stored_stage h.part slot field value)
    (list_by_records x h.part q (stored_records h.part slot field value)) in (
      unit_view (unit_wrote h slot field value),
      keeps,
      tt,
      own_store o s k seat h f (word_of slot field) value c q (h.steps + 1) h.loaded h.clean d
          (goes o s k d (events.Store h.unit slot field value) (
            none_announced core.units core.advancer h.unit h.part k.sound.lost f.part (can_stage _ h.unit h.part slot field value may),
            row_from (λ (p : UnitPart). CanStore (LooksFree core.layout core.cur core.dur h.unit p slot) h.unit p slot field value
                × IsSettled core.cur core.dur (word_of slot field)) (slice_get core.units h.unit) h.part f.part
                (store_allowed _ core h.unit h.part k.sound f.part slot field value can),
          )
          (at_row core.units h.unit h.part core (λ p. store core h.unit p slot field value) f.part))
          is refl (still_clean o s k seat h f q d is) (home (clock core)) (home (clock core - 1))
          (stores_current o s k (word_of slot field) value (slot_word_within o.layout slot field inside low)),
      (λ i. (unit_view (unit_wrote h (sym (slot_at_word slot field low) i) (sym (field_at_word slot field low) i) value), c)),
    )

-- ---- CloseLabel
pub closes_label : (o : Opening) (slots seat : ℕ) (h : UnitKnown) (c : List (ℕ × Cell)) (slot : ℕ) → CanClose h.part slot
    → slot < total_of o.layout → h.turn ≡ home_turn
    → Allows (ShowsCore o) slots seat (unit_view h, c) (word_of slot 0) (λ _. 0)
    (λ _ m. closed (step slots (word_of slot 0) 0 0 none) (unit_view h, c) 0 m)
closes_label o slots seat h c slot may inside home s k long at small =
    let f = (k.views seat (unit_view h) at).units.0 in
    let core = k.board.core in
    let q : UnitPart = after_close_label h.part slot in
    let d : Core = close_label core h.unit h.part slot in
    let low : 0 < FIELDS = omega arith in
    let is : IsOwnStep core d h.unit h.part q = record {
      units = refl;
      advancer = refl;
      odd = refl;
      layout = refl;
      clock_is = (stores_change_one_field core.cur slot 0 0 low).clock;
      durable = refl;
      lost = λ e. e;
      old_list = λ _. refl;
    } in (
      unit_view (unit_closed h slot),
      keeps,
      tt,
      own_store o s k seat h f (word_of slot 0) 0 c q (h.steps + 1) h.loaded h.clean d
          (goes o s k d (events.CloseLabel h.unit slot)
          (row_from (λ (p : UnitPart). CanClose p slot) (slice_get core.units h.unit) h.part f.part may)
          (at_row core.units h.unit h.part core (λ p. close_label core h.unit p slot) f.part))
          is refl (still_clean o s k seat h f q d is) (rest_home o s k seat h f q (clock core) home refl)
          (rest_home o s k seat h f q (clock core - 1) home refl)
          (stores_current o s k (word_of slot 0) 0 (slot_word_within o.layout slot 0 inside low)),
      (λ i. (unit_view (unit_closed h (sym (slot_at_word slot 0 low) i)), c)),
    )

-- ---- PersistClose
-- what is closed is of no list that the advance under way needs, nor of the next
listed_due : (base : Base) (c : Core) (u : ℕ) (p : UnitPart) (slot x : ℕ) → IsSound base c → slice_get c.units u ≡ Some p
    → p.stage ≡ Closing slot → clock c ≤ x + 1 → unit_list x (after_persist_close p slot) ≡ unit_list x p
listed_due base c u p slot x s at stage late =
    let fits = s.units u p at in
    let due : IsDueNow p slot = subst (λ (y : UnitStage). ClosesDue y p) stage fits.closing in
    let begun = s.clocks.begun in
    let behind = s.clocks.behind in
    let known = s.clocks.of_units u p at in
    listed_without x slot p (λ r a is. elim due [
      | inl first ↦ λ same.
          let old = due_old base.clock (durable_clock c) p.durable slot p.records p.retired fits.versions first begun known r a is in
          absurd (omega arith)
      | inr lost ↦ absurd (lost_apart base c u p s at slot r a (due_lost p.lost slot lost) is)
    ])

-- a unit of which nothing is lost any more is clean
clean_closed : (units : List UnitPart) (clean : List ℕ) (u : ℕ) (q : UnitPart) → AreClean (set units u q) clean
    → AreClean (set units u q) (with_clean clean u q)
clean_closed units clean u q are = by (is_empty q.lost) refl
  where
    none_of : (l : List ℕ) → is_empty l ≡ true → l ≡ []
    none_of [] e = refl
    none_of (n ∷ ns) e = absurd (cc)

    own : is_empty q.lost ≡ true → AreClean (set units u q) (u ∷ clean)
    own e v r at among = ⊎_elim
        (λ (t : (v ≡ u) × (q ≡ r)). subst (λ (z : UnitPart). z.lost ≡ []) t.1 (none_of q.lost e))
        (λ (t : (v ≢ u) × (slice_get units v ≡ Some r)). are v r at (ap (λ b. b || is_among clean v) (sym (ne_eqb u v (λ z. t.0
        (sym z)))) ∙ among))
        (row_set units u v q r at)

    by : (b : Bool) → is_empty q.lost ≡ b → AreClean (set units u q) (cond b (u ∷ clean) clean)
    by true e = own e
    by false e = are

swept_lost : (slot : ℕ) (p : UnitPart) → p.lost ≡ [] → (after_persist_close p slot).lost ≡ []
swept_lost slot p e = ap (λ (l : List ℕ). without_lost slot l) e

pub persists_close : (o : Opening) (slots seat : ℕ) (h : UnitKnown) (c : List (ℕ × Cell)) (slot : ℕ) → CanPersistClose h.part slot
    → slot < total_of o.layout → h.turn ≡ home_turn
    → Allows (ShowsCore o) slots seat (unit_view h, c) (durable_place o.layout (word_of slot 0)) (λ _. 0)
    (λ _ m. persisted o (step slots (durable_place o.layout (word_of slot 0)) 0 0 none) (unit_view h, c) 0 m)
persists_close o slots seat h c slot may inside home s k long at small =
    let f = (k.views seat (unit_view h) at).units.0 in
    let core = k.board.core in
    let q : UnitPart = after_persist_close h.part slot in
    let d : Core = persist_close core h.unit h.part slot in
    let low : 0 < FIELDS = omega arith in
    let here : closing_of h.part.stage ≡ slot = ap closing_of may.stage in
    let old = listed_due _ core h.unit h.part slot (clock core - 1) k.sound f.part may.stage (omega arith) in
    let young = listed_due _ core h.unit h.part slot (clock core) k.sound f.part may.stage (omega arith) in
    let is : IsOwnStep core d h.unit h.part q = record {
      units = refl;
      advancer = refl;
      odd = refl;
      layout = refl;
      clock_is = refl;
      durable = (stores_change_one_field core.dur slot 0 0 low).clock;
      lost = swept_lost slot h.part;
      old_list = λ _. old;
    } in
    let y : Reached o k.states core d = goes o s k d (events.PersistClose h.unit)
    (row_from (λ (p : UnitPart). (slot : ℕ) × CanPersistClose p slot) (slice_get core.units h.unit) h.part f.part (slot, may))
    (ap (persist_close core h.unit h.part) (sym here)
    ∙ at_row core.units h.unit h.part core (λ p. persist_close core h.unit p (closing_of p.stage)) f.part) in (
      unit_view (unit_persisted h slot),
      keeps,
      tt,
      own_store o s k seat h f (durable_place o.layout (word_of slot 0)) 0 c q (h.steps + 1) h.loaded (with_clean h.clean h.unit q) d
          y is refl (clean_closed core.units h.clean h.unit q (still_clean o s k seat h f q d is))
          (rest_home o s k seat h f q (clock core) home young)
          (rest_home o s k seat h f q (clock core - 1) home old)
          (stores_durable o s k (word_of slot 0) 0 (slot_word_within o.layout slot 0 inside low)),
      (
        (λ i. (unit_view (unit_persisted h (sym here i)), c)),
        (
          clock d,
          durable_clock d,
          subst (λ (z : ℕ). IsSoundUnit o (clock d) (durable_clock d) (unit_persisted h z)) (sym here)
              (unit_sound o s k d y refl (unit_persisted h slot) (row_here core.units h.unit q h.part f.part)
              (clean_closed core.units h.clean h.unit q (still_clean o s k seat h f q d is))),
        ),
      ),
    )
