-- With every step histories only grow, whoever was cut stays so, and no clock falls. So a note that was
-- true stays so.
use Rattle.std.proofs.Common.{◌≡◌, ℕ, zero, suc, ◌≤◌, List, [], ◌∷◌, ◌++◌, set, get_or-set_other, sym, refl, ap, ◌∙◌, subst, arith, true}
use Rattle.std.specs.Prelude.{slice_get, Option, Some, None, is_none}
use Rattle.mont_base.specs.declared.operation.Entry.{Entry}
use Rattle.mont_base.specs.Image.{clock_of}
use Rattle.mont_base.specs.Layout.{word_of}
use Rattle.core_steps.specs.declared.event.Event.{Event}
use Rattle.core_steps.specs.declared.event.Event.TheVariants as events
use Rattle.core_steps.specs.declared.parts.AdvPart.{AdvPart}
use Rattle.core_steps.specs.declared.parts.AdvPart.TheVariants.{Rest, Checking, Flushing, Holding, Clocked}
use Rattle.core_steps.specs.declared.parts.CallerPart.{CallerPart}
use Rattle.core_steps.specs.declared.parts.Core.{Core}
use Rattle.core_steps.specs.declared.parts.Note.{Note}
use Rattle.core_steps.specs.declared.parts.Part.{Part}
use Rattle.core_steps.specs.declared.parts.Part.TheVariants as parts
use Rattle.core_steps.specs.declared.parts.UnitPart.{UnitPart}
use Rattle.core_steps.specs.declared.parts.UnitStage.{UnitStage}
use Rattle.core_steps.specs.Clock.{clock, durable_clock, next_clock}
use Rattle.core_steps.specs.Advancing.{set_clock, persist_clock}
use Rattle.core_steps.specs.Announcing.{can_tell, can_confirm, can_withdraw, can_freeze, after_tell, after_confirm, after_withdraw, after_freeze, tell, confirm, withdraw, freeze}
use Rattle.core_steps.specs.CallAnswers.{CanLeave, entry_of, leave, read}
use Rattle.core_steps.specs.Closing.{CanClose, CanPersistClose, after_load_durable, after_close_label, after_persist_close, load_durable, see_durable, close_label, persist_close}
use Rattle.core_steps.specs.Events.{OfCaller, IsAllowed, closing_of, after}
use Rattle.core_steps.specs.Flushing.{flush_list, words_persisted}
use Rattle.core_steps.specs.Notes.{Moment, moment_of, Grows, histories_of, cuts_of, left_within, lefts_of, IsTrueNote, hear}
use Rattle.core_steps.specs.Places.{RowHas, on_row}
use Rattle.core_steps.specs.Sound.{Base, IsSound}
use Rattle.core_steps.specs.Stages.{epoch_of, is_unfrozen}
use Rattle.core_steps.specs.Storing.{after_store, store}
use Rattle.core_steps.proofs.CallerFrames.{histories_set, cuts_set, lefts_set, histories_kept, cuts_kept, lefts_kept, history_row, cut_row, left_row}
use Rattle.core_steps.proofs.Growth.{grows_itself, grows_by_entry, has_none, grows_by_cut, grows_by_clock}
use Rattle.core_steps.proofs.NoteLaws.{note_lasts}
use Rattle.core_steps.proofs.Decisions.{both}
use Rattle.core_steps.proofs.RowFacts.{row_gives}

-- ---- the clock is word 0
slot_word_keeps : (words : List ℕ) (slot field value : ℕ) → clock_of words ≤ clock_of (set words (word_of slot field) value)
slot_word_keeps words slot field value =
    let same : clock_of (set words (word_of slot field) value) ≡ clock_of words =
    get_or-set_other words (word_of slot field) 0 value 0 (λ e. omega arith) in
    omega arith

-- a clock that is stored isn't below the one before
first_word_rises : (words : List ℕ) (value : ℕ) → clock_of words ≤ value → clock_of words ≤ clock_of (set words 0 value)
first_word_rises [] value l = omega arith
first_word_rises (w ∷ ws) value l = l

-- ---- one part changes
module _ (c : Core) where
  -- what notes are judged by after a step
  abbrev grown : List UnitPart → List ℕ → List ℕ → Moment
  grown units cur dur =
      record {
        histories = histories_of units;
        cuts = cuts_of units;
        lefts = lefts_of units;
        now = clock_of cur;
        durable = clock_of dur;
      }

  -- the unit is left within the same epoch, if within one
  abbrev IsLeftSo : UnitPart → UnitPart → Type 0
  IsLeftSo p t = left_within t.frozen t.stage ≡ left_within p.frozen p.stage

  -- a unit's part keeps its history and its cut caller
  part_step : (u : ℕ) (p t : UnitPart) (cur dur : List ℕ) → slice_get c.units u ≡ Some p → t.history ≡ p.history → t.frozen ≡ p.frozen
      → IsLeftSo p t → clock c ≤ clock_of cur → durable_clock c ≤ clock_of dur
      → Grows (moment_of c) (grown (set c.units u t) cur dur)
  part_step u p t cur dur there history frozen left l m = subst (Grows (moment_of c))
      (λ i. record {
        histories = sym (histories_kept c.units u p t there history) i;
        cuts = sym (cuts_kept c.units u p t there frozen) i;
        lefts = sym (lefts_kept c.units u p t there left) i;
        now = clock_of cur;
        durable = clock_of dur;
      })
      (grows_by_clock (moment_of c) (clock_of cur) (clock_of dur) l m)

  -- its history has one entry more
  entry_step : (u : ℕ) (p t : UnitPart) (e : Entry) → slice_get c.units u ≡ Some p → t.history ≡ p.history ++ e ∷ []
      → t.frozen ≡ p.frozen → IsLeftSo p t → Grows (moment_of c) (grown (set c.units u t) c.cur c.dur)
  entry_step u p t e there history frozen left = subst (Grows (moment_of c))
      (λ i. record {
        histories = (ap (set (histories_of c.units) u) (sym history) ∙ sym (histories_set c.units u t)) i;
        cuts = sym (cuts_kept c.units u p t there frozen) i;
        lefts = sym (lefts_kept c.units u p t there left) i;
        now = clock c;
        durable = durable_clock c;
      })
      (grows_by_entry (moment_of c) u p.history e (history_row c.units u p there))

  -- a caller is cut in it
  cut_step : (u : ℕ) (p t : UnitPart) (k : ℕ) → slice_get c.units u ≡ Some p → t.history ≡ p.history → p.frozen ≡ None
      → t.frozen ≡ Some k → Grows (moment_of c) (grown (set c.units u t) c.cur c.dur)
  cut_step u p t k there history before frozen = subst (Grows (moment_of c))
      (λ i. record {
        histories = sym (histories_kept c.units u p t there history) i;
        cuts = (ap (set (cuts_of c.units) u) (sym frozen) ∙ sym (cuts_set c.units u t)) i;
        lefts = sym (lefts_set c.units u t) i;
        now = clock c;
        durable = durable_clock c;
      })
      (grows_by_cut (moment_of c) u k (left_within t.frozen t.stage)
      (has_none (cuts_of c.units) u (cut_row c.units u p there ∙ ap Some before))
      (has_none (lefts_of c.units) u (left_row c.units u p there ∙ ap (λ (o : Option ℕ). Some (left_within o p.stage)) before)))

  -- a step of a part that there is, and no change without it
  row_step : {A : Type 0} (o : Option A) (f : A → Core) → ((a : A) → o ≡ Some a → Grows (moment_of c) (moment_of (f a)))
      → Grows (moment_of c) (moment_of (on_row o c f))
  row_step None f g = grows_itself (moment_of c)
  row_step (Some a) f g = g a refl

  -- no caller was cut in a unit that makes a step, so it isn't left
  moves_on : (o : Option ℕ) (s t : UnitStage) → is_none o ≡ true → left_within o t ≡ left_within o s
  moves_on None s t e = refl
  moves_on (Some k) s t e = absurd (cc)

  of_unit : (P : UnitPart → Type 0) (u : ℕ) (p : UnitPart) → slice_get c.units u ≡ Some p → RowHas (slice_get c.units u) P → P p
  of_unit P u p is h = subst (λ o. RowHas o P) is h

  -- a step of a unit that there is
  own_step : (u : ℕ) (f : UnitPart → Core)
      → ((p : UnitPart) → slice_get c.units u ≡ Some p → Grows (moment_of c) (moment_of (f p)))
      → Grows (moment_of c) (moment_of (on_row (slice_get c.units u) c f))
  own_step u f g = row_step (slice_get c.units u) f g

  -- ---- each kind of step
  load_step : (part : Part) → Grows (moment_of c) (moment_of (after c (events.LoadDurable part)))
  load_step (parts.Unit u) = own_step u (λ p. load_durable c u p)
      (λ p e. part_step u p (after_load_durable p (durable_clock c)) c.cur c.dur e refl refl refl (omega arith) (omega arith))
  load_step parts.Advancer = grows_itself (moment_of c)
  load_step (parts.Caller k) = row_step (slice_get c.callers k) (λ q. see_durable c k q) (λ q e. grows_itself (moment_of c))

  -- a note changes no more than a caller
  join_step : (part : Part) (note : Note) → Grows (moment_of c) (moment_of (after c (events.Join part note)))
  join_step (parts.Unit u) note = grows_itself (moment_of c)
  join_step parts.Advancer note = grows_itself (moment_of c)
  join_step (parts.Caller k) note = row_step (slice_get c.callers k) (λ q. hear c k q note) (λ q e. grows_itself (moment_of c))

  -- a word of a slot is made durable
  persist_step : (a : AdvPart) → durable_clock c ≤ clock_of (words_persisted (flush_list c) c.dur a)
  persist_step Rest = omega arith
  persist_step (Checking j) = omega arith
  persist_step (Flushing done field) = omega arith
  persist_step (Holding done field value) = slot_word_keeps c.dur _ field value
  persist_step Clocked = omega arith

  -- only an unfrozen unit is frozen
  freeze_step : (u k : ℕ) → RowHas (slice_get c.units u) (λ p. OfCaller c k (λ _. can_freeze p ≡ true))
      → Grows (moment_of c) (moment_of (after c (events.Freeze u k)))
  freeze_step u k may = own_step u (λ p. on_row (slice_get c.callers k) c (λ q. freeze c u p k q))
      (λ p e. row_step (slice_get c.callers k) (λ q. freeze c u p k q)
      (λ q is. cut_step u p (after_freeze p k) k e refl
      (none_frozen p.frozen (subst (λ o. RowHas o (λ (x : CallerPart). can_freeze p ≡ true)) is
      (subst (λ o. RowHas o (λ p. OfCaller c k (λ _. can_freeze p ≡ true))) e may))) refl))
    where
      -- no caller was cut in it
      none_frozen : (o : Option ℕ) → is_none o ≡ true → o ≡ None
      none_frozen None e = refl
      none_frozen (Some j) e = absurd (cc)

module _ (base : Base) (c : Core) (sound : IsSound base c) where
  -- every step that a sound core allows
  pub steps_grow : (e : Event) → IsAllowed c e → Grows (moment_of c) (moment_of (after c e))
  steps_grow (events.Look u) may = grows_itself (moment_of c)
  steps_grow (events.Tell u e) may = own_step c u (λ p. tell c u p e)
      (λ p is. part_step c u p (after_tell p e) c.cur c.dur is refl refl
      (moves_on c p.frozen p.stage _ (both (is_unfrozen p) _ (of_unit c (λ q. can_tell q e ≡ true) u p is may.1)).0)
      (omega arith) (omega arith))
  steps_grow (events.Confirm u) may = own_step c u (λ p. confirm c u p)
      (λ p is. part_step c u p (after_confirm p (clock c)) c.cur c.dur is refl refl
      (moves_on c p.frozen p.stage _ (both (is_unfrozen p) _ (of_unit c (λ q. can_confirm q ≡ true) u p is may.1)).0)
      (omega arith) (omega arith))
  steps_grow (events.Store u slot zero value) may = own_step c u (λ p. store c u p slot zero value)
      (λ p is. part_step c u p (after_store p slot zero value) (set c.cur (word_of slot zero) value) c.dur is refl refl refl
      (slot_word_keeps c.cur slot zero value) (omega arith))
  steps_grow (events.Store u slot (suc n) value) may = own_step c u (λ p. store c u p slot (suc n) value)
      (λ p is. part_step c u p (after_store p slot (suc n) value) (set c.cur (word_of slot (suc n)) value) c.dur is refl refl refl
      (slot_word_keeps c.cur slot (suc n) value) (omega arith))
  steps_grow (events.Leave u k op reply) may = own_step c u
      (λ p. on_row (slice_get c.callers k) c (λ q. leave c u p k q (entry_of k q op reply (epoch_of p.stage))))
      (λ p is. row_step c (slice_get c.callers k) (λ q. leave c u p k q (entry_of k q op reply (epoch_of p.stage)))
      (λ q at. let can = row_gives (λ (r : CallerPart). CanLeave c.layout u p r op reply (epoch_of p.stage)) (slice_get c.callers k)
      (of_unit c (λ (p : UnitPart). OfCaller c k (λ r. CanLeave c.layout u p r op reply (epoch_of p.stage))) u p is may.1) in
      entry_step c u p _ (entry_of k q op reply (epoch_of p.stage)) is refl refl
      (moves_on c p.frozen p.stage _ (ap is_none can.2.unfrozen))))
  steps_grow (events.Read u k op reply) may = own_step c u
      (λ p. on_row (slice_get c.callers k) c (λ q. read c u p k q (entry_of k q op reply (clock c))))
      (λ p is. row_step c (slice_get c.callers k) (λ q. read c u p k q (entry_of k q op reply (clock c)))
      (λ q at. entry_step c u p _ (entry_of k q op reply (clock c)) is refl refl refl))
  steps_grow (events.Withdraw u) may = own_step c u (λ p. withdraw c u p)
      (λ p is. part_step c u p (after_withdraw p) c.cur c.dur is refl refl
      (moves_on c p.frozen p.stage _ (both (is_unfrozen p) _ (of_unit c (λ q. can_withdraw q ≡ true) u p is may.1)).0)
      (omega arith) (omega arith))
  steps_grow (events.Freeze u k) may = freeze_step c u k may.1
  steps_grow (events.LoadDurable part) may = load_step c part
  steps_grow (events.CloseLabel u slot) may = own_step c u (λ p. close_label c u p slot)
      (λ p is. part_step c u p (after_close_label p slot) (set c.cur (word_of slot 0) 0) c.dur is refl refl
      (moves_on c p.frozen p.stage _ (ap is_none (of_unit c (λ q. CanClose q slot) u p is may).unfrozen))
      (slot_word_keeps c.cur slot 0 0) (omega arith))
  steps_grow (events.PersistClose u) may = own_step c u (λ p. persist_close c u p (closing_of p.stage))
      (λ p is. part_step c u p (after_persist_close p (closing_of p.stage)) c.cur (set c.dur (word_of (closing_of p.stage) 0) 0) is refl
      refl (moves_on c p.frozen p.stage _
      (ap is_none (of_unit c (λ q. (slot : ℕ) × CanPersistClose q slot) u p is may).1.unfrozen))
      (omega arith) (slot_word_keeps c.dur (closing_of p.stage) 0 0))
  steps_grow events.Check may = grows_itself (moment_of c)
  steps_grow events.LoadWord may = grows_itself (moment_of c)
  steps_grow events.PersistWord may = grows_by_clock (moment_of c) (clock c)
      (clock_of (words_persisted (flush_list c) c.dur c.advancer)) (omega arith) (persist_step c c.advancer)
  steps_grow events.SetClock may =
      let last = sound.clocks.last in
      grows_by_clock (moment_of c) (clock (set_clock c)) (durable_clock c) (first_word_rises c.cur (next_clock (clock c)) (omega arith))
      (omega arith)
  steps_grow events.PersistClock may = grows_by_clock (moment_of c) (clock c) (durable_clock (persist_clock c)) (omega arith)
      (first_word_rises c.dur (clock c) sound.clocks.behind)
  steps_grow (events.Split part) may = grows_itself (moment_of c)
  steps_grow (events.Join part note) may = join_step c part note
  steps_grow (events.Exchange part) may = grows_itself (moment_of c)

  -- no allowed step makes a true note untrue
  pub notes_last : (e : Event) (note : Note) → IsAllowed c e → IsTrueNote c note → IsTrueNote (after c e) note
  notes_last e note may t = note_lasts (moment_of c) (moment_of (after c e)) note (steps_grow e may) t
