-- What each step of the advancer owes the rule.
use Rattle.std.proofs.Common.{◌≡◌, ℕ, ◌+◌, ◌-◌, ◌*◌, ◌<◌, ◌≤◌, List, [], length, set, refl, sym, ap, ◌∙◌, subst, arith, Bool, true, false, cond}
use Rattle.std.specs.Prelude.{slice_get, slice_index, Some, min, nat_lt}
use mathlib.Core.Option.{none}
use Rattle.atomic_table.specs.Table.{State, keeps, step, Allows}
use Rattle.std.proofs.lemmas.Option.{slice_get_within, slice_get-get_or, same_Some}
use Rattle.mont_base.specs.declared.constants.TheConstants.{FIELDS, LAST}
use Rattle.mont_base.specs.Layout.{units_of, total_of, word_of}
use Rattle.mont_base.specs.Image.{clock_of}
use Rattle.mont_laws.proofs.SlotWords.{stores_change_one_field}
use Rattle.core_steps.specs.declared.event.Event.TheVariants as events
use Rattle.core_steps.specs.declared.parts.AdvPart.{AdvPart}
use Rattle.core_steps.specs.declared.parts.AdvPart.TheVariants.{Rest, Checking, Flushing, Holding, Clocked}
use Rattle.core_steps.specs.declared.parts.Core.{Core}
use Rattle.core_steps.specs.declared.parts.UnitPart.{UnitPart}
use Rattle.core_steps.specs.Clock.{clock, durable_clock, next_clock, greatest_word}
use Rattle.core_steps.specs.Stages.{passed_of, phase_of, limit_of}
use Rattle.core_steps.specs.Advancing.{can_check, unit_at_hand, lets_pass, after_check, with_odd, check, set_clock, is_clocked, persist_clock}
use Rattle.core_steps.specs.Events.{AreNoneLost}
use Rattle.core_steps.specs.Flushing.{unit_list, flush_list, can_load_word, after_load_word, load_word, can_persist_word, after_persist_word, words_persisted, persist_word, is_flushed}
use Rattle.core_steps.specs.Sound.{LostWait, ClocksStand, announcement}
use Rattle.core_steps.specs.WriteBack.{FlushFits}
use Rattle.core_steps.proofs.NoteLaws.{limit_reached}
use Rattle.core_steps.proofs.RowFacts.{item_at}
use Rattle.core_steps.proofs.Rows.{first_set}
use Rattle.heap_rule.specs.declared.rule.Opening.{Opening}
use Rattle.heap_rule.specs.declared.views.AdvKnown.{AdvKnown}
use Rattle.heap_rule.specs.declared.views.FullTurn.{FullTurn}
use Rattle.heap_rule.specs.declared.views.UnitKnown.{UnitKnown}
use Rattle.heap_rule.specs.SoundUnits.{IsSoundUnit}
use Rattle.heap_rule.specs.declared.views.View.{View}
use Rattle.heap_rule.specs.Views.{Cell, advancer_view, are_clean, home_turn, none_learnt, full_rest, list_at, joined, holding, place_at_hand, slot_at_hand, field_at_hand, word_in_hand, advancer_checked, advancer_loaded, advancer_persisted, advancer_set, advancer_rested}
use Rattle.heap_rule.specs.TableWords.{laid_out, durable_place, announcement_place}
use Rattle.heap_rule.specs.HomeLists.{IsTouched, full_at, HomesFit}
use Rattle.heap_rule.specs.Rule.{IsLearnt, AreClean, Owners, Board, Homes, AreLists, FitsAdvancer, FitsView, ShowsCore}
use Rattle.heap_rule.specs.Plays.{IsAnnouncement, IsListOf, IsAhead, checked, loaded_word, persisted_word, set_clock as clock_was_set, persisted_clock}
use Rattle.heap_rule.proofs.HomeSlots.{in_later, full_below, full_none, clock_moves}
use Rattle.heap_rule.proofs.Growing.{Sweeps, sweeps_itself, learnt_still}
use Rattle.heap_rule.proofs.RuleFrames.{Reached, goes, stays, Moves, steps, loads}
use Rattle.heap_rule.proofs.RunFacts.{unit_sound, announces}
use Rattle.heap_rule.proofs.CoreFacts.{durable_low, none_clean, none_moving, stores_current, stores_durable, found_current, found_announced, slot_word_within}
use Rattle.heap_rule.proofs.ListRoom.{lists_few, all_few}
use Rattle.heap_rule.proofs.ListFacts.{list_above, joined_lists, remembers, lists_after_check, still_passed}

-- ---- the advancer's part, its clocks and its turn change
pub advancer_moves : (own : Owners) (seat : ℕ) (c d : Board) → own.advancer ≡ seat → d.core.units ≡ c.core.units → d.turn ≡ c.turn
    → d.core.callers ≡ c.core.callers → d.core.layout ≡ c.core.layout → Moves own (λ j. j ≡ seat) c d
advancer_moves own seat c d mine units turn callers layout = record {
  units = λ v off. (ap (λ l. slice_get l v) units, ap (λ t. t v) turn);
  advancer = λ off. absurd (off mine);
  callers = λ k off. ap (λ l. slice_get l k) callers;
  count = ap length units;
  caller_count = ap length callers;
  layout = layout;
  sweeps = subst (λ l. Sweeps c.core.units l) (sym units) (sweeps_itself c.core.units);
}

module _ (o : Opening) (s : State Cell View) (k : ShowsCore o s) (seat : ℕ) (a : AdvKnown) (f : FitsAdvancer k.board k.own seat a) where
  abbrev board_of : Core → FullTurn → Board
  board_of d full = record { core = d; turn = k.board.turn; full = full }

  -- the view at another part, and what goes with it
  abbrev pub went : AdvPart → ℕ → ℕ → List ℕ → List (List ℕ) → FullTurn → ℕ → ℕ → AdvKnown
  went part now durable odd lists turn n l = record a {
    part = part;
    clock = now;
    durable = durable;
    odd = odd;
    lists = lists;
    turn = turn;
    steps = n;
    loaded = l;
  }

  advancer_fits : (d : Core) (w : AdvKnown) → Reached o k.states k.board.core d → d.units ≡ k.board.core.units
      → d.layout ≡ k.board.core.layout
      → d.advancer ≡ w.part → clock d ≡ w.clock → durable_clock d ≡ w.durable → d.odd ≡ w.odd → length w.lists ≡ length a.lists
      → AreLists d w.lists → w.units ≡ a.units → w.room ≡ a.room → w.learnt ≡ a.learnt → w.clean ≡ a.clean
      → FitsView (board_of d w.turn) k.own seat (advancer_view w)
  advancer_fits d w r units layout part now durable odd count lists n room learnt clean = record {
    units = tt;
    advancers = (
      record {
        mine = f.mine;
        part = part;
        clock_is = now;
        durable = durable;
        odd = odd;
        units = ap length units ∙ (f.units ∙ sym n);
        room = ap (λ s. s.slots) layout ∙ (f.room ∙ sym room);
        list_count = count ∙ (f.list_count ∙ sym n);
        lists = lists;
        turn = refl;
        learnt = subst (λ l. IsLearnt d l) (sym learnt) (learnt_still k.board.core d a.learnt r.grows f.learnt);
        clean = subst (λ (z : List UnitPart × List ℕ). AreClean z.0 z.1) (λ i. (sym units i, sym clean i)) f.clean;
      },
      tt,
    );
    callers = tt;
    notes = tt;
  }

-- ---- Check
-- no slot is lost when an advance begins or goes on
none_at_check : (units : List UnitPart) (a : AdvPart) → LostWait units a → (a ≡ Rest → AreNoneLost units) → AreNoneLost units
none_at_check units Rest wait rest = rest refl
none_at_check units (Checking j) wait rest = none_moving units (Checking j) wait (λ e. absurd (cc))
none_at_check units (Flushing d g) wait rest = none_moving units (Flushing d g) wait (λ e. absurd (cc))
none_at_check units (Holding d g v) wait rest = none_moving units (Holding d g v) wait (λ e. absurd (cc))
none_at_check units Clocked wait rest = none_moving units Clocked wait (λ e. absurd (cc))

-- the list of a unit by its part
list_known : (o : Opening) (s : State Cell View) (k : ShowsCore o s) (a : AdvKnown) (u x : ℕ) (p : UnitPart)
    → slice_get k.board.core.units u ≡ Some p → u ≡ unit_at_hand a.part → x ≡ announcement p.stage p.frozen
    → clock k.board.core ≡ a.clock → durable_clock k.board.core ≡ a.durable
    → IsListOf o a x (unit_list (clock k.board.core - 1) p)
list_known o s k a u x p at hand word now durable =
    let core = k.board.core in
    let h : UnitKnown = record {
      unit = u;
      room = a.room;
      part = p;
      turn = home_turn;
      steps = 0;
      loaded = 0;
      learnt = none_learnt;
      clean = [];
    } in record {
      shown = h;
      sound = subst (λ (z : ℕ × ℕ). IsSoundUnit o z.0 z.1 h) (λ i. (now i, durable i))
          (unit_sound o s k core (stays o s k) refl h at (λ v q is among. absurd (cc)));
      of_unit = hand;
      announced = word;
      is = ap (λ (x : ℕ). unit_list (x - 1) p) now;
    }

pub checks : (o : Opening) (slots seat : ℕ) (a : AdvKnown) (c : List (ℕ × Cell)) → can_check a.clock a.part ≡ true
    → (a.part ≡ Rest → are_clean (units_of o.layout) a.clean ≡ true) → unit_at_hand a.part < a.units
    → Allows (ShowsCore o) slots seat (advancer_view a, c) (announcement_place o.layout (unit_at_hand a.part)) (λ n. n)
    (checked o (step slots (announcement_place o.layout (unit_at_hand a.part)) 0 0 none) (advancer_view a, c))
checks o slots seat a c may rest inside s k long at small =
    let f = (k.views seat (advancer_view a) at).advancers.0 in
    let core = k.board.core in
    let j : ℕ = unit_at_hand core.advancer in
    let there : j ≡ unit_at_hand a.part = ap unit_at_hand f.part in
    let i : ℕ = announcement_place o.layout (unit_at_hand a.part) in
    let x : ℕ = slice_index s.words i in
    let found : x ≡ slice_index core.told j = found_announced o s k (unit_at_hand a.part) ∙ ap (slice_index core.told) (sym there) in
    let can : can_check (clock core) core.advancer ≡ true = (λ i. can_check (f.clock_is i) (f.part i)) ∙ may in
    let units = f.units in
    let count = f.list_count in
    let one = item_at core.units j (omega arith) in
    let list : List ℕ = unit_list (clock core - 1) one.0 in
    let told = k.sound.announcements.as_many in
    let low = slice_get_within core.units j one.0 one.1 in
    let word : slice_index core.told j ≡ announcement one.0.stage one.0.frozen =
    same_Some _ _ (sym (slice_get-get_or core.told j 0 (omega arith)) ∙ k.sound.announcements.each j one.0 one.1) in
    let d : Core = check core x in
    let r : Reached o k.states core d = goes o s k d events.Check
    (none_at_check core.units core.advancer k.sound.lost (λ e. none_clean o s k a.clean f.clean (rest (sym f.part ∙ e))), can)
    (ap (check core) found) in
    let w : AdvKnown = advancer_checked a x list in (
      advancer_view w,
      keeps,
      tt,
      loads o s k seat i c (advancer_view w) keeps (board_of o s k seat a f d a.turn) r
          (advancer_moves k.own seat k.board (board_of o s k seat a f d a.turn) f.mine refl refl refl refl)
          refl
          (λ u t. still_passed (length core.units) (clock core) x core.advancer u can (omega arith)
          (k.passed u (subst (λ (z : FullTurn). IsTouched (full_at z u)) (sym f.turn) t)))
          (subst (λ (z : FullTurn). Homes (board_of o s k seat a f d z) s.homes) f.turn k.homes)
          (advancer_fits o s k seat a f d w r refl refl (λ i. after_check (f.units i) (f.clock_is i) x (f.part i)) f.clock_is f.durable
          (λ i. with_odd (f.odd i) (there i) x)
          (remembers a.lists (lets_pass a.clock x) (unit_at_hand a.part) list)
          (λ u q is passed.
          ap (λ (z : ℕ × ℕ). list_at (cond (lets_pass z.0 x) (set a.lists z.1 list) a.lists) u) (λ i. (sym f.clock_is i, sym there i))
          ∙ lists_after_check core a.lists x one.0 can one.1 (omega arith) f.lists u q is passed)
          refl refl refl refl),
      (
        (list, refl, list_known o s k a j x one.0 one.1 there (found ∙ word) f.clock_is f.durable),
        subst IsAnnouncement (sym (found ∙ word)) (announces o s k j one.0 one.1),
      ),
    )

-- ---- LoadWord and PersistWord
-- where all units were passed
all_passed_load : (n m : ℕ) (a : AdvPart) → can_load_word m a ≡ true → passed_of n a ≡ n
all_passed_load n m Rest may = absurd (cc)
all_passed_load n m (Checking j) may = absurd (cc)
all_passed_load n m (Flushing d g) may = refl
all_passed_load n m (Holding d g v) may = absurd (cc)
all_passed_load n m Clocked may = absurd (cc)

all_passed_persist : (n : ℕ) (a : AdvPart) → can_persist_word a ≡ true → passed_of n a ≡ n
all_passed_persist n Rest may = absurd (cc)
all_passed_persist n (Checking j) may = absurd (cc)
all_passed_persist n (Flushing d g) may = absurd (cc)
all_passed_persist n (Holding d g v) may = refl
all_passed_persist n Clocked may = absurd (cc)

all_passed_set : (n m : ℕ) (a : AdvPart) → is_flushed m a ≡ true → passed_of n a ≡ n
all_passed_set n m Rest may = absurd (cc)
all_passed_set n m (Checking j) may = absurd (cc)
all_passed_set n m (Flushing d g) may = refl
all_passed_set n m (Holding d g v) may = absurd (cc)
all_passed_set n m Clocked may = absurd (cc)

-- the field at hand is one of a slot
hand_field : (cur dur slots : List ℕ) (a : AdvPart) → FlushFits cur dur slots a → field_at_hand a < FIELDS
hand_field cur dur slots Rest f = omega arith
hand_field cur dur slots (Checking j) f = omega arith
hand_field cur dur slots (Flushing d g) f = f.low
hand_field cur dur slots (Holding d g v) f = f.low
hand_field cur dur slots Clocked f = omega arith

holding_found : (slots cur : List ℕ) (n x : ℕ) (a : AdvPart) → can_load_word n a ≡ true
    → x ≡ slice_index cur (word_of (slice_index slots (place_at_hand a)) (field_at_hand a))
    → after_load_word slots cur a ≡ holding a x
holding_found slots cur n x Rest may e = refl
holding_found slots cur n x (Checking j) may e = refl
holding_found slots cur n x (Flushing d g) may e = λ i. Holding d g (sym e i)
holding_found slots cur n x (Holding d g v) may e = refl
holding_found slots cur n x Clocked may e = refl

moving_load : (m : ℕ) (a : AdvPart) → can_load_word m a ≡ true → a ≡ Rest → ⊥
moving_load m a may e = let no : can_load_word m Rest ≡ true = ap (can_load_word m) (sym e) ∙ may in absurd (cc)

moving_persist : (a : AdvPart) → can_persist_word a ≡ true → a ≡ Rest → ⊥
moving_persist a may e = let no : can_persist_word Rest ≡ true = ap can_persist_word (sym e) ∙ may in absurd (cc)

moving_set : (m : ℕ) (a : AdvPart) → is_flushed m a ≡ true → a ≡ Rest → ⊥
moving_set m a may e = let no : is_flushed m Rest ≡ true = ap (is_flushed m) (sym e) ∙ may in absurd (cc)

moving_clock : (a : AdvPart) → is_clocked a ≡ true → a ≡ Rest → ⊥
moving_clock a may e = let no : is_clocked Rest ≡ true = ap is_clocked (sym e) ∙ may in absurd (cc)

holding_all : (n x m : ℕ) (a : AdvPart) → can_load_word m a ≡ true → passed_of n (holding a x) ≡ n
holding_all n x m Rest may = absurd (cc)
holding_all n x m (Checking j) may = absurd (cc)
holding_all n x m (Flushing d g) may = refl
holding_all n x m (Holding d g v) may = absurd (cc)
holding_all n x m Clocked may = absurd (cc)

behind_all : (n d g : ℕ) (b : Bool) → passed_of n (cond b (Flushing d (g + 1)) (Flushing (min (d + 1) greatest_word) 0)) ≡ n
behind_all n d g true = refl
behind_all n d g false = refl

persisted_all : (n : ℕ) (a : AdvPart) → can_persist_word a ≡ true → passed_of n (after_persist_word a) ≡ n
persisted_all n Rest may = absurd (cc)
persisted_all n (Checking j) may = absurd (cc)
persisted_all n (Flushing d g) may = absurd (cc)
persisted_all n (Holding d g v) may = behind_all n d g (nat_lt (g + 1) FIELDS)
persisted_all n Clocked may = absurd (cc)

below_all : (u n m : ℕ) → u < m → m ≡ n → u < n
below_all u n m l e = omega arith

-- the word at hand is loaded
pub loads_word : (o : Opening) (slots seat : ℕ) (a : AdvKnown) (c : List (ℕ × Cell))
    → can_load_word (length (joined a.lists)) a.part ≡ true → slot_at_hand a < total_of o.layout → field_at_hand a.part < FIELDS
    → Allows (ShowsCore o) slots seat (advancer_view a, c) (word_of (slot_at_hand a) (field_at_hand a.part)) (λ n. n)
    (loaded_word (step slots (word_of (slot_at_hand a) (field_at_hand a.part)) 0 0 none) (advancer_view a, c))
loads_word o slots seat a c may inside low s k long at small =
    let f = (k.views seat (advancer_view a) at).advancers.0 in
    let core = k.board.core in
    let i : ℕ = word_of (slot_at_hand a) (field_at_hand a.part) in
    let x : ℕ = slice_index s.words i in
    let passed : passed_of (length core.units) core.advancer ≡ length core.units =
    ap (passed_of (length core.units)) f.part ∙ all_passed_load (length core.units) (length (joined a.lists)) a.part may in
    let same : joined a.lists ≡ flush_list core = joined_lists core a.lists f.lists (f.list_count ∙ sym f.units) passed in
    let found : x ≡ slice_index core.cur i = found_current o s k i (slot_word_within o.layout (slot_at_hand a)
    (field_at_hand a.part) inside low) in
    let can : can_load_word (length (flush_list core)) core.advancer ≡ true = (λ i. can_load_word (length (sym same i)) (f.part i))
    ∙ may in
    let d : Core = load_word core in
    let r : Reached o k.states core d = goes o s k d events.LoadWord (
      none_moving core.units core.advancer k.sound.lost (λ e. moving_load (length (joined a.lists)) a.part may (sym f.part
          ∙ e)),
      can,
    ) refl in
    let part : d.advancer ≡ holding a.part x =
    (λ i. after_load_word (sym same i) core.cur (f.part i))
    ∙ holding_found (joined a.lists) core.cur (length (joined a.lists)) x a.part may found in
    let w : AdvKnown = advancer_loaded a x in (
      advancer_view w,
      keeps,
      tt,
      loads o s k seat i c (advancer_view w) keeps (board_of o s k seat a f d a.turn) r
          (advancer_moves k.own seat k.board (board_of o s k seat a f d a.turn) f.mine refl refl refl refl)
          refl
          (λ u t. below_all u (passed_of (length core.units) d.advancer) (passed_of (length core.units) core.advancer)
          (k.passed u (subst (λ (z : FullTurn). IsTouched (full_at z u)) (sym f.turn) t))
          (passed ∙ sym (ap (passed_of (length core.units)) part
          ∙ holding_all (length core.units) x (length (joined a.lists)) a.part may)))
          (subst (λ (z : FullTurn). Homes (board_of o s k seat a f d z) s.homes) f.turn k.homes)
          (advancer_fits o s k seat a f d w r refl refl part f.clock_is f.durable f.odd refl
          (λ u q is more. f.lists u q is (subst (λ (n : ℕ). u < n) (sym passed)
          (below_all u (length core.units) (passed_of (length core.units) d.advancer) more
          (ap (passed_of (length core.units)) part ∙ holding_all (length core.units) x (length (joined a.lists)) a.part may))))
          refl refl refl refl),
      refl,
    )

-- the word that is held is made durable
persisted_word_there : (slots dur : List ℕ) (a : AdvPart) → can_persist_word a ≡ true
    → words_persisted slots dur a ≡ set dur (word_of (slice_index slots (place_at_hand a)) (field_at_hand a)) (word_in_hand a)
persisted_word_there slots dur Rest may = absurd (cc)
persisted_word_there slots dur (Checking j) may = absurd (cc)
persisted_word_there slots dur (Flushing d g) may = absurd (cc)
persisted_word_there slots dur (Holding d g v) may = refl
persisted_word_there slots dur Clocked may = absurd (cc)

place_below : (cur dur slots : List ℕ) (a : AdvPart) → can_persist_word a ≡ true → FlushFits cur dur slots a
    → place_at_hand a < length slots
place_below cur dur slots Rest may f = absurd (cc)
place_below cur dur slots (Checking j) may f = absurd (cc)
place_below cur dur slots (Flushing d g) may f = absurd (cc)
place_below cur dur slots (Holding d g v) may f = f.inside
place_below cur dur slots Clocked may f = absurd (cc)

pub persists_word : (o : Opening) (slots seat : ℕ) (a : AdvKnown) (c : List (ℕ × Cell)) → can_persist_word a.part ≡ true
    → slot_at_hand a < total_of o.layout → field_at_hand a.part < FIELDS
    → Allows (ShowsCore o) slots seat (advancer_view a, c) (durable_place o.layout (word_of (slot_at_hand a) (field_at_hand a.part)))
    (λ _. word_in_hand a.part)
    (λ _ m. persisted_word (step slots (durable_place o.layout (word_of (slot_at_hand a) (field_at_hand a.part)))
    (word_in_hand a.part) 0 none)
    (advancer_view a, c) (word_in_hand a.part) m)
persists_word o slots seat a c may inside low s k long at small =
    let f = (k.views seat (advancer_view a) at).advancers.0 in
    let core = k.board.core in
    let i : ℕ = word_of (slot_at_hand a) (field_at_hand a.part) in
    let passed : passed_of (length core.units) core.advancer ≡ length core.units =
    ap (passed_of (length core.units)) f.part ∙ all_passed_persist (length core.units) a.part may in
    let same : joined a.lists ≡ flush_list core = joined_lists core a.lists f.lists (f.list_count ∙ sym f.units) passed in
    let d : Core = persist_word core in
    let r : Reached o k.states core d = goes o s k d events.PersistWord (
      none_moving core.units core.advancer k.sound.lost (λ e. moving_persist a.part may (sym f.part ∙ e)),
      ap can_persist_word f.part
          ∙ may,
    ) refl in
    let dur : d.dur ≡ set core.dur i (word_in_hand a.part) =
    (λ i. words_persisted (sym same i) core.dur (f.part i)) ∙ persisted_word_there (joined a.lists) core.dur a.part may in
    let part : d.advancer ≡ after_persist_word a.part = ap after_persist_word f.part in
    let behind : passed_of (length core.units) d.advancer ≡ length core.units =
    ap (passed_of (length core.units)) part ∙ persisted_all (length core.units) a.part may in
    let inside_list = place_below core.cur core.dur (flush_list core) core.advancer (ap can_persist_word f.part ∙ may) k.sound.flush in
    let few = all_few (clock core - 1) core.layout.slots core.units (λ u q is. lists_few o s k u q is (clock core - 1)) in
    let listed : place_at_hand core.advancer < length core.units * core.layout.slots = omega arith in
    let w : AdvKnown = advancer_persisted a in (
      advancer_view w,
      keeps,
      tt,
      steps o s k seat (durable_place o.layout i) (word_in_hand a.part) c (advancer_view w) keeps (board_of o s k seat a f d a.turn) r
          (advancer_moves k.own seat k.board (board_of o s k seat a f d a.turn) f.mine refl refl refl refl)
          (stores_durable o s k i (word_in_hand a.part) (slot_word_within o.layout (slot_at_hand a) (field_at_hand a.part) inside low)
          ∙ ap (λ (ws : List ℕ). laid_out core.cur ws core.told) (sym dur))
          (λ u t. below_all u (passed_of (length core.units) d.advancer) (passed_of (length core.units) core.advancer)
          (k.passed u (subst (λ (z : FullTurn). IsTouched (full_at z u)) (sym f.turn) t)) (passed ∙ sym behind))
          (subst (λ (z : FullTurn). Homes (board_of o s k seat a f d z) s.homes) f.turn k.homes)
          (advancer_fits o s k seat a f d w r refl refl part f.clock_is
          (ap clock_of dur ∙ ((stores_change_one_field core.dur (slot_at_hand a) (field_at_hand a.part)
          (word_in_hand a.part) low).clock ∙ f.durable))
          f.odd refl
          (λ u q is more. f.lists u q is (subst (λ (n : ℕ). u < n) (sym passed)
          (below_all u (length core.units) (passed_of (length core.units) d.advancer) more behind)))
          refl refl refl refl),
      (refl, subst (λ (z : AdvPart × ℕ). place_at_hand z.0 < z.1) (λ i. (f.part i, f.units i * f.room i)) listed),
    )

-- ---- SetClock
under_way : (n now durable : ℕ) (a : AdvPart) → is_flushed n a ≡ true → ClocksStand (phase_of a) now durable → now < LAST
under_way n now durable Rest may c = absurd (cc)
under_way n now durable (Checking j) may c = absurd (cc)
under_way n now durable (Flushing d g) may c = c.room
under_way n now durable (Holding d g v) may c = absurd (cc)
under_way n now durable Clocked may c = absurd (cc)

next_is : (now : ℕ) → now < LAST → next_clock now ≡ now + 1
next_is now l = omega arith

pub sets_clock : (o : Opening) (slots seat : ℕ) (a : AdvKnown) (c : List (ℕ × Cell)) → is_flushed (length (joined a.lists)) a.part ≡ true
    → a.turn ≡ record { emptied = a.units; out = false }
    → Allows (ShowsCore o) slots seat (advancer_view a, c) 0 (λ _. a.clock + 1)
    (λ _ m. clock_was_set (step slots 0 (a.clock + 1) 0 none) (advancer_view a, c) (a.clock + 1) m)
sets_clock o slots seat a c may empty s k long at small =
    let f = (k.views seat (advancer_view a) at).advancers.0 in
    let core = k.board.core in
    let now : ℕ = clock core in
    let passed : passed_of (length core.units) core.advancer ≡ length core.units =
    ap (passed_of (length core.units)) f.part ∙ all_passed_set (length core.units) (length (joined a.lists)) a.part may in
    let same : joined a.lists ≡ flush_list core = joined_lists core a.lists f.lists (f.list_count ∙ sym f.units) passed in
    let can : is_flushed (length (flush_list core)) core.advancer ≡ true = (λ i. is_flushed (length (sym same i)) (f.part i)) ∙ may in
    let last : now < LAST = under_way (length (flush_list core)) now (durable_clock core) core.advancer can k.sound.clocks.stand in
    let next : next_clock now ≡ a.clock + 1 = next_is now last ∙ ap (λ (x : ℕ). x + 1) f.clock_is in
    let d : Core = set_clock core in
    let r : Reached o k.states core d = goes o s k d events.SetClock (
      none_moving core.units core.advancer k.sound.lost (λ e. moving_set (length (joined a.lists)) a.part may (sym f.part
          ∙ e)),
      can,
    ) refl in
    let size = k.sound.sizes.current in
    let later : clock d ≡ now + 1 = first_set core.cur (next_clock now) 0 (omega arith) ∙ next_is now last in
    let high : a.clock < LAST = subst (λ (x : ℕ). x < LAST) f.clock_is last in
    let w : AdvKnown = advancer_set a in (
      advancer_view w,
      keeps,
      tt,
      steps o s k seat 0 (a.clock + 1) c (advancer_view w) keeps (board_of o s k seat a f d full_rest) r
          (advancer_moves k.own seat k.board (board_of o s k seat a f d full_rest) f.mine refl refl refl refl)
          (stores_current o s k 0 (a.clock + 1) (omega arith)
          ∙ ap (λ (x : ℕ). laid_out (set core.cur 0 x) core.dur core.told) (sym next))
          (λ u t. absurd (subst IsTouched (full_none u) t))
          (λ u p is.
          let there : u < length core.units = slice_get_within core.units u p is in
          let units = f.units in
          let registered = k.sound.registration u p is in
          let reached = (k.sound.units u p is).reached.of_records in
          let limit = limit_reached (clock_of o.words) now (u < passed_of (length core.units) core.advancer) p.stage registered in
          subst (λ (n : ℕ). HomesFit core.layout.slots n p (k.board.turn u) (full_at full_rest u) s.homes u) (sym later)
          (clock_moves core.layout.slots now p (k.board.turn u) (full_at k.board.full u) (full_at full_rest u) s.homes u
          (ap (λ (g : FullTurn). full_at g u) (f.turn ∙ empty) ∙ full_below (record { emptied = a.units; out = false }) u (omega arith))
          (full_none u) (list_above (now + 1) (limit_of now p.stage) p reached (omega arith))
          (in_later (clock_of o.words) now (u < passed_of (length core.units) core.advancer) p.stage registered)
          (k.homes u p is)))
          (advancer_fits o s k seat a f d w r refl refl refl (later ∙ ap (λ (x : ℕ). x + 1) f.clock_is) f.durable f.odd refl
          (λ u q is more. absurd (none_below u more)) refl refl refl refl),
      (refl, high),
    )
  where
    none_below : (u : ℕ) → u < 0 → ⊥
    none_below u l = omega arith

-- ---- PersistClock
clock_ahead : (now durable : ℕ) (a : AdvPart) → is_clocked a ≡ true → ClocksStand (phase_of a) now durable → durable + 1 ≡ now
clock_ahead now durable Rest may c = absurd (cc)
clock_ahead now durable (Checking j) may c = absurd (cc)
clock_ahead now durable (Flushing d g) may c = absurd (cc)
clock_ahead now durable (Holding d g v) may c = absurd (cc)
clock_ahead now durable Clocked may c = c

is_ahead : (o : Opening) (now durable : ℕ) (a : AdvKnown) → now ≡ a.clock → durable ≡ a.durable → durable + 1 ≡ now → 2 ≤ durable
    → clock_of o.words ≤ durable → now ≤ LAST → a.learnt.newest ≤ now → a.learnt.durable ≤ durable → IsAhead o a
is_ahead o now durable a clock_is durable_is next low begun last newest known = record {
  low = omega arith;
  begun = omega arith;
  next = omega arith;
  high = omega arith;
  reached = omega arith;
  ahead = omega arith;
}

pub persists_clock : (o : Opening) (slots seat : ℕ) (a : AdvKnown) (c : List (ℕ × Cell)) → is_clocked a.part ≡ true
    → Allows (ShowsCore o) slots seat (advancer_view a, c) (durable_place o.layout 0) (λ _. a.clock)
    (λ _ m. persisted_clock o (step slots (durable_place o.layout 0) a.clock 0 none) (advancer_view a, c) a.clock m)
persists_clock o slots seat a c may s k long at small =
    let f = (k.views seat (advancer_view a) at).advancers.0 in
    let core = k.board.core in
    let clocked : is_clocked core.advancer ≡ true = ap is_clocked f.part ∙ may in
    let d : Core = persist_clock core in
    let r : Reached o k.states core d = goes o s k d events.PersistClock
    (none_moving core.units core.advancer k.sound.lost (λ e. moving_clock a.part may (sym f.part ∙ e)), clocked) refl in
    let size = k.sound.sizes.durable in
    let later : durable_clock d ≡ clock core = first_set core.dur (clock core) 0 (omega arith) in
    let w : AdvKnown = advancer_rested a in (
      advancer_view w,
      keeps,
      tt,
      steps o s k seat (durable_place o.layout 0) a.clock c (advancer_view w) keeps (board_of o s k seat a f d a.turn) r
          (advancer_moves k.own seat k.board (board_of o s k seat a f d a.turn) f.mine refl refl refl refl)
          (stores_durable o s k 0 a.clock (omega arith)
          ∙ ap (λ (x : ℕ). laid_out core.cur (set core.dur 0 x) core.told) (sym f.clock_is))
          (λ u t. absurd (none_clocked (length core.units) u core.advancer clocked
          (k.passed u (subst (λ (z : FullTurn). IsTouched (full_at z u)) (sym f.turn) t))))
          (subst (λ (z : FullTurn). Homes (board_of o s k seat a f d z) s.homes) f.turn k.homes)
          (advancer_fits o s k seat a f d w r refl refl refl f.clock_is (later ∙ f.clock_is) f.odd refl
          (λ u q is more. absurd (none_below u more)) refl refl refl refl),
      (
        refl,
        is_ahead o (clock core) (durable_clock core) a f.clock_is f.durable
            (clock_ahead (clock core) (durable_clock core) core.advancer clocked k.sound.clocks.stand) (durable_low _ core k.sound)
            k.sound.clocks.begun k.sound.clocks.last f.learnt.newest f.learnt.durable,
      ),
    )
  where
    none_below : (u : ℕ) → u < 0 → ⊥
    none_below u l = omega arith

    none_clocked : (n u : ℕ) (b : AdvPart) → is_clocked b ≡ true → u < passed_of n b → ⊥
    none_clocked n u Rest may l = none_below u l
    none_clocked n u (Checking j) may l = absurd (cc)
    none_clocked n u (Flushing d g) may l = absurd (cc)
    none_clocked n u (Holding d g v) may l = absurd (cc)
    none_clocked n u Clocked may l = none_below u l
