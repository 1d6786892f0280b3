-- Each step by which the advancer passes a unit, writes a word back or moves the clock keeps a core sound.
use Rattle.std.proofs.Common.{◌≡◌, ℕ, ◌+◌, ◌-◌, ◌<◌, ◌≤◌, List, length, set, get_or, sym, refl, ap, ◌∙◌, subst, ⊎_elim, arith, length-set, Bool, true, false}
use Rattle.std.specs.Prelude.{slice_get, Some, nat_lt, min, if◌then◌else◌}
use Rattle.std.specs.List.{Contains}
use Rattle.std.proofs.lemmas.Option.{slice_get_within, get_or_from_slice_get}
use Rattle.mont_base.specs.declared.constants.TheConstants.{FIELDS}
use Rattle.mont_base.specs.Layout.{Shape, IsLayout, units_of, total_of, word_of}
use Rattle.mont_base.specs.Image.{clock_of}
use Rattle.mont_laws.proofs.SlotWords.{clock_stores_change_clock, stores_change_one_field}
use Rattle.core_steps.specs.declared.parts.Core.{Core}
use Rattle.core_steps.specs.declared.parts.UnitPart.{UnitPart}
use Rattle.core_steps.specs.declared.parts.UnitStage.{UnitStage}
use Rattle.core_steps.specs.declared.parts.UnitStage.TheVariants.{Within}
use Rattle.core_steps.specs.declared.parts.AdvPart.{AdvPart}
use Rattle.core_steps.specs.declared.parts.AdvPart.TheVariants.{Rest, Checking, Flushing, Holding, Clocked}
use Rattle.core_steps.specs.Clock.{clock, durable_clock, greatest_word, next_clock}
use Rattle.core_steps.specs.Stages.{UnderWay, Ahead, phase_of, passed_of}
use Rattle.core_steps.specs.Advancing.{can_check, unit_at_hand, lets_pass, after_check, check, set_clock, is_clocked, persist_clock}
use Rattle.core_steps.specs.Flushing.{all_listed, flush_list, can_load_word, after_load_word, load_word, can_persist_word, behind_field, after_persist_word, words_persisted, persist_word, is_flushed}
use Rattle.core_steps.specs.Notes.{histories_of, cuts_of}
use Rattle.core_steps.specs.Events.{AreNoneLost}
use Rattle.core_steps.specs.Roles.{HasSlots}
use Rattle.core_steps.specs.WriteBack.{FlushFits}
use Rattle.core_steps.specs.Sound.{Base, base_state, IsInStore, IsUnderWay, ClocksStand, announcement, IsSound}
use Rattle.core_steps.proofs.Frames.{sound_at, sizes_kept, sizes_moved, registration_many, lost_none, none_lost_moving}
use Rattle.core_steps.proofs.FlushLists.{of_listed, at_in}
use Rattle.core_steps.proofs.WriteBackLaws.{flush_begins, flush_loads, flush_persists, flush_ends, hand_at}
use Rattle.core_steps.proofs.Checks.{hand_within, checks, passed_before, each_checked, now_passed, registered_passes, stage_passed, stage_later}
use Rattle.core_steps.proofs.UnitFrames.{unit_clock, unit_durable}
use Rattle.core_steps.proofs.RoleFacts.{record_inside}
use Rattle.core_steps.proofs.RoleClocks.{slots_persist_word, slots_persist_clock, slots_set_clock}
use Rattle.core_steps.proofs.AnswerLaws.{within_fits}
use Rattle.core_steps.proofs.StoreLaws.{some_slots, some_clock}
use Rattle.core_steps.proofs.CallerFrames.{callers_later, callers_odd, loaded_odd_is_cut}

-- ---- Check
some_units : (s : Shape) → IsLayout s → 0 < units_of s
some_units s k = let some = k.kinds.some in omega arith

pub check_law :
    (base : Base) (c : Core) → IsSound base c → AreNoneLost c.units → can_check (clock c) c.advancer ≡ true
    → IsSound base (check c (get_or c.told (unit_at_hand c.advancer) 0))
check_law base c s none may =
    let n : ℕ = length c.units in
    let now : ℕ = clock c in
    let d : ℕ = durable_clock c in
    let a : AdvPart = c.advancer in
    let j : ℕ = unit_at_hand a in
    let w : ℕ = get_or c.told j 0 in
    let b : ℕ = base.clock in
    let way = checks now d a may s.clocks.stand in
    let units : 0 < n = subst (λ (m : ℕ). 0 < m) (sym s.sizes.unit_count) (some_units c.layout s.sizes.layout) in
    let hand = hand_within n now a units may s.sizes.place in record {
      sizes = sizes_moved c.layout c.cur c.dur base.states c.units a (after_check n now w a)
          (each_checked (IsInStore n) n now w a (λ i is. omega arith) (λ l. l) tt) s.sizes;
      clocks = record {
        low = s.clocks.low;
        begun = s.clocks.begun;
        behind = s.clocks.behind;
        last = s.clocks.last;
        stand = each_checked (λ x. ClocksStand (phase_of x) now d) n now w a (λ i is. way) (λ l. way) way;
        of_units = s.clocks.of_units;
        of_callers = s.clocks.of_callers;
      };
      announcements = s.announcements;
      registration = λ v p h. stage_passed b now (v < passed_of n a) (v < passed_of n (after_check n now w a)) p.stage
          (λ e is k behind. ⊎_elim
          (λ l. k.same (subst (λ (m : ℕ). v < m) (sym (passed_before n now a may)) l))
          (λ (t : (v ≡ j) × (lets_pass now w ≡ true)). registered_passes b now e w p.frozen s.clocks.low k.begun k.reached
          (ap (λ (i : ℕ). get_or c.told i 0) (sym t.0)
          ∙ (get_or_from_slice_get c.told v (announcement p.stage p.frozen) 0 (s.announcements.each v p h)
          ∙ ap (λ (x : UnitStage). announcement x p.frozen) is)) t.1)
          (now_passed n now w a v (slice_get_within c.units v p h) behind))
          (s.registration v p h);
      slots = s.slots;
      lost = lost_none c.units (after_check n now w a) none;
      flush = each_checked (FlushFits c.cur c.dur (all_listed (now - 1) c.units)) n now w a (λ i is. tt) (λ l. tt)
          (flush_begins c.cur c.dur (all_listed (now - 1) c.units));
      units = s.units;
      callers = callers_odd (histories_of c.units) (cuts_of c.units) now c.callers c.odd j w
          (loaded_odd_is_cut c.told c.units j s.announcements) s.callers;
    }

-- ---- LoadWord
-- a step within the write-back leaves the phase and the units that were passed
record IsInFlush (a b : AdvPart) : Type 0 where
  moving : a ≡ Rest → ⊥
  phase : phase_of b ≡ phase_of a
  passed : (n : ℕ) → passed_of n b ≡ passed_of n a
  place : (n : ℕ) → IsInStore n b

loads_in_flush : (slots cur : List ℕ) (a : AdvPart) → can_load_word (length slots) a ≡ true → IsInFlush a (after_load_word slots cur a)
loads_in_flush slots cur Rest may = absurd (cc)
loads_in_flush slots cur (Checking j) may = absurd (cc)
loads_in_flush slots cur (Flushing d f) may = record { moving = λ e. absurd (cc); phase = refl; passed = λ n. refl; place = λ n. tt }
loads_in_flush slots cur (Holding d f v) may = absurd (cc)
loads_in_flush slots cur Clocked may = absurd (cc)

-- the words that are durable may change, but not the clock
in_flush :
    (base : Base) (c : Core) (dur : List ℕ) (a : AdvPart) → IsSound base c → IsInFlush c.advancer a → length dur ≡ length c.dur
    → clock_of dur ≡ durable_clock c → HasSlots c.layout (clock c) c.cur dur c.units
    → FlushFits c.cur dur (flush_list c) a → IsSound base (record c { dur = dur; advancer = a })
in_flush base c dur a s k long is slots flush =
    let d : Core = record c { dur = dur; advancer = a } in
    sound_at base (clock c) (durable_clock c) d refl is (record {
      sizes = sizes_moved c.layout c.cur dur base.states c.units c.advancer a (k.place (length c.units))
          (sizes_kept c.layout c.cur c.dur c.cur dur base.states c.units c.units c.advancer refl long refl s.sizes);
      clocks = record {
        low = s.clocks.low;
        begun = s.clocks.begun;
        behind = s.clocks.behind;
        last = s.clocks.last;
        stand = subst (λ x. ClocksStand x (clock c) (durable_clock c)) (sym k.phase) s.clocks.stand;
        of_units = s.clocks.of_units;
        of_callers = s.clocks.of_callers;
      };
      announcements = s.announcements;
      registration = registration_many base.clock (clock c) (passed_of (length c.units) c.advancer) (passed_of (length c.units) a) c.units
          (sym (k.passed (length c.units))) s.registration;
      slots = slots;
      lost = lost_none c.units a (none_lost_moving c.units c.advancer s.lost k.moving);
      flush = flush;
      units = s.units;
      callers = s.callers;
    })

pub load_word_law :
    (base : Base) (c : Core) → IsSound base c → can_load_word (length (flush_list c)) c.advancer ≡ true → IsSound base (load_word c)
load_word_law base c s may = in_flush base c c.dur (after_load_word (flush_list c) c.cur c.advancer) s
    (loads_in_flush (flush_list c) c.cur c.advancer may) refl refl s.slots (flush_loads c.cur c.dur (flush_list c) c.advancer may s.flush)

-- ---- PersistWord
persists_in_flush : (a : AdvPart) → can_persist_word a ≡ true → IsInFlush a (after_persist_word a)
persists_in_flush Rest may = absurd (cc)
persists_in_flush (Checking j) may = absurd (cc)
persists_in_flush (Flushing d f) may = absurd (cc)
persists_in_flush (Holding d f v) may = goes (nat_lt (f + 1) FIELDS)
  where
    goes : (t : Bool) → IsInFlush (Holding d f v) (if t then Flushing d (f + 1) else Flushing (min (d + 1) greatest_word) 0)
    goes true = record { moving = λ e. absurd (cc); phase = refl; passed = λ n. refl; place = λ n. tt }
    goes false = record { moving = λ e. absurd (cc); phase = refl; passed = λ n. refl; place = λ n. tt }
persists_in_flush Clocked may = absurd (cc)

-- the loaded word is one of a record of the epoch before the clock
persists_held :
    (base : Base) (c : Core) (done field value : ℕ) → IsSound base c → FlushFits c.cur c.dur (flush_list c) (Holding done field value)
    → HasSlots c.layout (clock c) c.cur (set c.dur (word_of (get_or (flush_list c) done 0) field) value) c.units
persists_held base c done field value s k =
    let slot : ℕ = get_or (flush_list c) done 0 in
    let at = hand_at (flush_list c) done k.inside in
    let m = of_listed (clock c - 1) c.units slot (at_in (flush_list c) done slot at) in
    let begun = some_clock base c s in
    let of_epoch = m.of_epoch in
    subst (λ (n : ℕ). HasSlots c.layout (clock c) c.cur (set c.dur (word_of n field) value) c.units) m.in_slot
    (slots_persist_word c.layout (clock c) c.cur c.dur c.units s.slots m.unit m.part m.held field value m.at m.there (omega arith) k.low
    (k.held slot at ∙ ap (λ (n : ℕ). get_or c.cur (word_of n field) 0) (sym m.in_slot)))

-- a listed slot is one of the store
listed_inside : (base : Base) (c : Core) → IsSound base c → (slot : ℕ) → Contains (flush_list c) slot → slot < total_of c.layout
listed_inside base c s slot h =
    let m = of_listed (clock c - 1) c.units slot h in
    subst (λ (n : ℕ). n < total_of c.layout) m.in_slot
    (record_inside c.layout (clock c) c.cur c.dur c.units m.unit m.part s.slots m.at m.held m.there)

persist_held_law :
    (base : Base) (c : Core) (done field value : ℕ) → IsSound base c → c.advancer ≡ Holding done field value
    → IsSound base (record c { dur = set c.dur (word_of (get_or (flush_list c) done 0) field) value; advancer = behind_field done field })
persist_held_law base c done field value s is =
    let k : FlushFits c.cur c.dur (flush_list c) (Holding done field value) =
    subst (FlushFits c.cur c.dur (flush_list c)) is s.flush in
    let slot : ℕ = get_or (flush_list c) done 0 in
    in_flush base c (set c.dur (word_of slot field) value) (behind_field done field) s
    (subst (λ (a : AdvPart). IsInFlush a (behind_field done field)) (sym is) (persists_in_flush (Holding done field value) refl))
    (length-set c.dur (word_of slot field) value) (stores_change_one_field c.dur slot field value k.low).clock
    (persists_held base c done field value s k)
    (flush_persists c.layout c.cur c.dur (flush_list c) done field value s.sizes.current s.sizes.durable (listed_inside base c s) k)

pub persist_word_law :
    (base : Base) (c : Core) → IsSound base c → can_persist_word c.advancer ≡ true → IsSound base (persist_word c)
persist_word_law base c s may = by c.advancer refl may
  where
    by :
        (a : AdvPart) → c.advancer ≡ a → can_persist_word a ≡ true
        → IsSound base (record c { dur = words_persisted (flush_list c) c.dur a; advancer = after_persist_word a })
    by Rest is may = absurd (cc)
    by (Checking j) is may = absurd (cc)
    by (Flushing d f) is may = absurd (cc)
    by (Holding d f v) is may = persist_held_law base c d f v s is
    by Clocked is may = absurd (cc)

-- ---- SetClock
-- where all is written back, every unit was passed
record IsDone (n : ℕ) (units : List UnitPart) (a : AdvPart) : Type 0 where
  moving : a ≡ Rest → ⊥
  phase : phase_of a ≡ UnderWay
  passed : passed_of (length units) a ≡ length units

flushed_done : (n : ℕ) (units : List UnitPart) (a : AdvPart) → is_flushed n a ≡ true → IsDone n units a
flushed_done n units Rest may = absurd (cc)
flushed_done n units (Checking j) may = absurd (cc)
flushed_done n units (Flushing d f) may = record { moving = λ e. absurd (cc); phase = refl; passed = refl }
flushed_done n units (Holding d f v) may = absurd (cc)
flushed_done n units Clocked may = absurd (cc)

pub set_clock_law :
    (base : Base) (c : Core) → IsSound base c → is_flushed (length (flush_list c)) c.advancer ≡ true → IsSound base (set_clock c)
set_clock_law base c s may =
    let now : ℕ = clock c in
    let d : ℕ = durable_clock c in
    let b : ℕ = base.clock in
    let n : ℕ = length c.units in
    let done = flushed_done (length (flush_list c)) c.units c.advancer may in
    let way : IsUnderWay now d = subst (λ x. ClocksStand x now d) done.phase s.clocks.stand in
    let same = way.same in
    let room = way.room in
    let small : next_clock now ≡ now + 1 = omega arith in
    let some = some_slots c.layout s.sizes.layout in
    let words : 1 ≤ length c.cur = let long = s.sizes.current in omega arith in
    let later : clock (set_clock c) ≡ now + 1 = (clock_stores_change_clock c.cur (next_clock now) words).clock ∙ small in
    let begun = some_clock base c s in
    let passed = λ (u : ℕ) (p : UnitPart) (at : slice_get c.units u ≡ Some p).
    subst (λ (m : ℕ). u < m) (sym done.passed) (slice_get_within c.units u p at) in
    let registered = λ (u : ℕ) (p : UnitPart) (e : ℕ) (at : slice_get c.units u ≡ Some p) (stage : p.stage ≡ Within e).
    (within_fits b now (u < passed_of n c.advancer) p.stage e stage (s.registration u p at)).same (passed u p at) in
    let none = none_lost_moving c.units c.advancer s.lost done.moving in
    sound_at base (now + 1) d (set_clock c) later refl (record {
      sizes = sizes_moved c.layout (set c.cur 0 (next_clock now)) c.dur base.states c.units c.advancer Clocked tt
          (sizes_kept c.layout c.cur c.dur (set c.cur 0 (next_clock now)) c.dur base.states c.units c.units c.advancer
          (length-set c.cur 0 (next_clock now)) refl refl s.sizes);
      clocks = record {
        low = s.clocks.low;
        begun = s.clocks.begun;
        behind = omega arith;
        last = omega arith;
        stand = omega arith;
        of_units = s.clocks.of_units;
        of_callers = s.clocks.of_callers;
      };
      announcements = s.announcements;
      registration = λ u p at. stage_later b now (now + 1) (u < passed_of n c.advancer) (u < 0) p.stage (passed u p at)
          (λ l. omega arith) refl (s.registration u p at);
      slots = subst (λ (m : ℕ). HasSlots c.layout (now + 1) (set c.cur 0 m) c.dur c.units) (sym small)
          (slots_set_clock c.layout now c.cur c.dur c.units s.slots (λ u p e at stage. registered u p e at stage)
          (λ u p r at h before. flush_ends (now - 1) c.units c.cur c.dur c.advancer may s.flush u p r at h (omega arith))
          none some s.sizes.current s.sizes.unit_count);
      lost = lost_none c.units Clocked none;
      flush = tt;
      units = λ u p at. unit_clock c.layout b d u (base_state base u) now (now + 1) p (omega arith) (s.units u p at);
      callers = callers_later (histories_of c.units) (cuts_of c.units) now c.callers c.odd (now + 1) (omega arith) s.callers;
    })

-- ---- PersistClock
record IsAhead (a : AdvPart) : Type 0 where
  moving : a ≡ Rest → ⊥
  phase : phase_of a ≡ Ahead
  passed : (n : ℕ) → passed_of n a ≡ 0

clocked_ahead : (a : AdvPart) → is_clocked a ≡ true → IsAhead a
clocked_ahead Rest may = absurd (cc)
clocked_ahead (Checking j) may = absurd (cc)
clocked_ahead (Flushing d f) may = absurd (cc)
clocked_ahead (Holding d f v) may = absurd (cc)
clocked_ahead Clocked may = record { moving = λ e. absurd (cc); phase = refl; passed = λ n. refl }

pub persist_clock_law : (base : Base) (c : Core) → IsSound base c → is_clocked c.advancer ≡ true → IsSound base (persist_clock c)
persist_clock_law base c s may =
    let now : ℕ = clock c in
    let d : ℕ = durable_clock c in
    let b : ℕ = base.clock in
    let ahead = clocked_ahead c.advancer may in
    let words : 1 ≤ length c.dur = let long = s.sizes.durable in omega arith in
    let durable : durable_clock (persist_clock c) ≡ now = (clock_stores_change_clock c.dur now words).clock in
    let behind = s.clocks.behind in
    let begun = s.clocks.begun in
    sound_at base now now (persist_clock c) refl durable (record {
      sizes = sizes_moved c.layout c.cur (set c.dur 0 now) base.states c.units c.advancer Rest tt
          (sizes_kept c.layout c.cur c.dur c.cur (set c.dur 0 now) base.states c.units c.units c.advancer refl (length-set c.dur 0 now) refl
          s.sizes);
      clocks = record {
        low = s.clocks.low;
        begun = omega arith;
        behind = omega arith;
        last = s.clocks.last;
        stand = refl;
        of_units = λ u p h. let l = s.clocks.of_units u p h in omega arith;
        of_callers = λ k q h. let l = s.clocks.of_callers k q h in omega arith;
      };
      announcements = s.announcements;
      registration =
          registration_many b now (passed_of (length c.units) c.advancer) 0 c.units (ahead.passed (length c.units)) s.registration;
      slots = slots_persist_clock c.layout now c.cur c.dur c.units s.slots now s.sizes.durable;
      lost = lost_none c.units Rest (none_lost_moving c.units c.advancer s.lost ahead.moving);
      flush = tt;
      units = λ u p at. unit_durable c.layout b now d now u (base_state base u) p behind (s.units u p at);
      callers = s.callers;
    })
