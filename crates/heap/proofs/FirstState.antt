-- The table of a store that is opened shows the core with which it opens: both memories are the words, no
-- unit has a record of the clock or of the epoch before, and all lists are at home and empty.
use Rattle.std.proofs.Common.{◌≡◌, ℕ, zero, suc, ◌+◌, ◌-◌, ◌*◌, ◌<◌, ◌≤◌, List, [], ◌∷◌, length, map, replicate, refl, sym, ap, ◌∙◌, subst, ⊎_elim, arith, Bool, true, false, cond, ne_eqb}
use Rattle.std.specs.Prelude.{slice_get, Some, filter, ◌==◌, nat_lt}
use Rattle.std.specs.List.{Contains, range_with_len}
use Rattle.std.proofs.lemmas.Bool.{eqb-true}
use Rattle.std.proofs.lemmas.Bool.Decides.{nat_tests}
use Rattle.std.proofs.lemmas.List.{length-replicate, length-map}
use Rattle.std.proofs.lemmas.List.Elements.{All-nil}
use Rattle.std.proofs.lemmas.List.FromFn.{get_or-range_with_len, length-range_with_len}
use Rattle.std.proofs.lemmas.Option.{slice_get_within, slice_get_read, get_or_from_slice_get}
use mathlib.Core.Option.{Option, some, some-injective, some-ne-none}
use lib.ListN.{get_elem?}
use Rattle.atomic_table.specs.Table.{opening}
use Rattle.mont_base.specs.declared.operation.Entry.{Entry}
use Rattle.mont_base.specs.declared.record.Held.{Held}
use Rattle.mont_base.specs.Layout.{units_of, total_of}
use Rattle.mont_base.specs.Image.{clock_of, records_of, IsWellFormed}
use Rattle.mont_laws.proofs.Members.{first_element, later_element}
use Rattle.mont_laws.proofs.SettledWords.{well_formed_slots_are_read}
use Rattle.mont_laws.proofs.UnitRecords.{read_of_listed}
use Rattle.mont_laws.proofs.UnitSlots.{slots_have_units}
use Rattle.core_steps.specs.declared.parts.Core.{Core}
use Rattle.core_steps.specs.declared.parts.UnitPart.{UnitPart}
use Rattle.core_steps.specs.Fresh.{fresh_caller}
use Rattle.core_steps.specs.Notes.{histories_of}
use Rattle.core_steps.specs.Opened.{recovered, recovered_unit, slots_beyond}
use Rattle.core_steps.specs.Stages.{is_empty}
use Rattle.core_steps.proofs.Decisions.{either_true}
use Rattle.core_steps.proofs.RecoveredCores.{images_are_recovered}
use Rattle.core_steps.proofs.RowFacts.{row_of_map, row_in_map}
use Rattle.core_steps.proofs.Rows.{copy_row}
use Rattle.core_steps.proofs.StartLaws.{recovered_cores_are_sound}
use Rattle.heap_rule.specs.declared.rule.Opening.{Opening}
use Rattle.heap_rule.specs.declared.views.View.{View}
use Rattle.heap_rule.specs.HomeLists.{Full, Waiting, Empty, full_at, full_home, unit_home, IsTouched, HomesFit}
use Rattle.heap_rule.specs.Rule.{Each, Board, Owners, FitsUnit, FitsAdvancer, FitsCaller, FitsView, IsLeft, AreClean, IsLearnt, Homes, ShowsCore, seen_in}
use Rattle.heap_rule.specs.TableWords.{table_words}
use Rattle.heap_rule.specs.Views.{Cell, listing, list_place, home_turn, full_rest, none_learnt, clean_at, is_among, first_advancer, units_from, callers_from, first_view}

-- ---- lists
-- copies of one item, all at home
home_copies : (n i : ℕ) (y : Cell) → i < n → get_elem? (map some (replicate n y)) i ≡ some (some y)
home_copies zero i y l = absurd (omega arith)
home_copies (suc n) zero y l = refl
home_copies (suc n) (suc i) y l = home_copies n i y (omega arith)

-- records of earlier epochs alone give an empty list
none_listed : (x : ℕ) (rs : List Held) → ((r : Held) → Contains rs r → r.label.epoch < x)
    → map (λ (r : Held). r.slot) (filter (λ (r : Held). r.label.epoch == x) rs) ≡ []
none_listed x [] early = refl
none_listed x (r ∷ rs) early =
    let l = early r (first_element r rs) in
    let other : (r.label.epoch == x) ≡ false = ne_eqb r.label.epoch x (λ e. omega arith) in
    let rest = filter (λ (q : Held). q.label.epoch == x) rs in
    ap (λ (b : Bool). map (λ (q : Held). q.slot) (cond b (r ∷ rest) rest)) other
    ∙ none_listed x rs (λ q h. early q (later_element r rs q h))

-- what is left of a list passed the test
passes : (P : ℕ → Bool) (xs : List ℕ) (u : ℕ) → is_among (filter P xs) u ≡ true → P u ≡ true
passes P [] u e = absurd (cc)
passes P (x ∷ xs) u e = by (P x) refl (λ h. passes P xs u h) e
  where
    by : (b : Bool) → P x ≡ b → (is_among (filter P xs) u ≡ true → P u ≡ true)
        → is_among (cond b (x ∷ filter P xs) (filter P xs)) u ≡ true → P u ≡ true
    by true is rest e = ⊎_elim (λ (same : (x == u) ≡ true). subst (λ (z : ℕ). P z ≡ true) (eqb-true x u same) is) rest
        (either_true (x == u) (is_among (filter P xs) u) e)
    by false is rest e = rest e

empty_is : (xs : List ℕ) → is_empty xs ≡ true → xs ≡ []
empty_is [] e = refl
empty_is (x ∷ xs) e = absurd (cc)

-- nothing is seen at fronts of 0
none_seen : (n : ℕ) (hs : List (List Entry)) → length hs ≡ n → replicate n [] ≡ seen_in (replicate n 0) hs
none_seen zero hs e = refl
none_seen (suc n) [] e = absurd (omega arith)
none_seen (suc n) (h ∷ hs) e = λ i. [] ∷ none_seen n hs (omega arith) i

none_before : (u : ℕ) → nat_lt u 0 ≡ false
none_before u = grind (arith, nat_tests)

-- the advancer has begun with no list
waiting : (u : ℕ) → full_at full_rest u ≡ Waiting
waiting u = ap (λ (b : Bool). cond b Empty Waiting) (none_before u)

-- ---- the first state
module _ (o : Opening) (well : IsWellFormed o.layout o.words) where
  abbrev first_core : Core
  first_core = recovered o.layout o.words o.callers

  abbrev first_units : List UnitPart
  first_units = map (recovered_unit o.layout o.words) (range_with_len 0 (units_of o.layout))

  abbrev first_board : Board
  first_board = record { core = first_core; turn = λ _. home_turn; full = full_rest }

  abbrev first_owner : Owners
  first_owner = record { unit = λ _. 0; advancer = 0; caller = λ _. 0 }

  least : 1 ≤ o.layout.slots
  least = let some = well.layout.some_slots in omega arith

  -- the records that a store opens with are two epochs older than its clock
  opened_old : (u : ℕ) (r : Held) → u < units_of o.layout → Contains (records_of o.layout o.words u) r
      → r.label.epoch + 2 ≤ clock_of o.words
  opened_old u r low h =
      let read = read_of_listed o.layout o.words u r least h in
      let inside : r.slot < total_of o.layout =
      (slots_have_units o.layout r.slot least).1 (subst (λ (v : ℕ). v < units_of o.layout) (sym read.0) low) in
      let cut = (((well_formed_slots_are_read o.layout o.words r.slot well inside).some r).0 read.1).within in
      let begun = well.clock_begun in
      omega arith

  -- units by their numbers
  unit_there : (u : ℕ) → u < units_of o.layout → slice_get first_units u ≡ Some (recovered_unit o.layout o.words u)
  unit_there u low =
      let range = range_with_len 0 (units_of o.layout) in
      let at = get_or-range_with_len 0 (units_of o.layout) u u low in
      row_in_map (recovered_unit o.layout o.words) range u u
      (slice_get_read range (units_of o.layout) u u (sym (length-range_with_len 0 (units_of o.layout))) low (omega (arith, at)))

  there_unit : (u : ℕ) (p : UnitPart) → slice_get first_units u ≡ Some p
      → (u < units_of o.layout) × (recovered_unit o.layout o.words u ≡ p)
  there_unit u p e =
      let range = range_with_len 0 (units_of o.layout) in
      let from = row_of_map (recovered_unit o.layout o.words) range u p e in
      let low : u < units_of o.layout =
      subst (λ (n : ℕ). u < n) (length-range_with_len 0 (units_of o.layout)) (slice_get_within range u from.0 from.1) in
      let at = get_or-range_with_len 0 (units_of o.layout) u from.0 low in
      let is = get_or_from_slice_get range u from.0 from.0 from.1 in
      let same : u ≡ from.0 = omega (arith, at, is) in
      (low, ap (recovered_unit o.layout o.words) same ∙ from.2)

  unit_count : length first_units ≡ units_of o.layout
  unit_count = length-map (range_with_len 0 (units_of o.layout)) (recovered_unit o.layout o.words)
      ∙ length-range_with_len 0 (units_of o.layout)

  -- ---- lists at home
  module _ (homes : List (Option Cell)) (are : homes ≡ map some (replicate (2 * units_of o.layout) (listing o.layout.slots []))) where
    home_at : (u x : ℕ) (l : List ℕ) → u < units_of o.layout → l ≡ []
        → get_elem? homes (list_place u x) ≡ some (some (listing o.layout.slots l))
    home_at u x l low is = ap (λ (hs : List (Option Cell)). get_elem? hs (list_place u x)) are
        ∙ (home_copies (2 * units_of o.layout) (list_place u x) (listing o.layout.slots []) (omega arith)
        ∙ ap (λ (slots : List ℕ). some (some (listing o.layout.slots slots))) (sym is))

    first_homes : Homes first_board homes
    first_homes u p e =
        let is = there_unit u p e in
        let low = is.0 in
        let now : ℕ = clock_of o.words in
        let begun = well.clock_begun in
        let none : (x : ℕ) → now ≤ x + 1
        → map (λ (r : Held). r.slot) (filter (λ (r : Held). r.label.epoch == x) (records_of o.layout o.words u)) ≡ [] =
        λ x near. none_listed x (records_of o.layout o.words u) (λ r h. let old = opened_old u r low h in omega arith) in
        subst (λ (q : UnitPart). HomesFit o.layout.slots now q home_turn (full_at full_rest u) homes u) is.1
        (record {
          young = home_at u now _ low (none now (omega arith));
          old = home_at u (now + 1) _ low (none (now - 1) (omega arith))
              ∙ sym (ap (λ (f : Full). some (full_home o.layout.slots f
              (unit_home o.layout.slots (now - 1) (recovered_unit o.layout o.words u) home_turn))) (waiting u));
        })

  -- ---- what the first seat knows
  first_clean : AreClean first_units (clean_at o)
  first_clean u p e known =
      let is = (there_unit u p e).1 in
      ap (λ (q : UnitPart). q.lost) (sym is)
      ∙ empty_is (slots_beyond o.layout o.words u)
      (passes (λ (v : ℕ). is_empty (slots_beyond o.layout o.words v)) (range_with_len 0 (units_of o.layout)) u known)

  nothing_learnt : IsLearnt first_core none_learnt
  nothing_learnt = record { newest = omega arith; durable = omega arith }

  units_fit : (u n : ℕ) → u + n ≤ units_of o.layout → Each (FitsUnit first_board first_owner 0) (units_from o u n)
  units_fit u zero l = tt
  units_fit u (suc n) l = (
    record {
      mine = refl;
      part = unit_there u (omega arith);
      turn = refl;
      room = refl;
      learnt = nothing_learnt;
      clean = first_clean;
    },
    units_fit (u + 1) n (omega arith),
  )

  callers_fit : (k n : ℕ) → k + n ≤ o.callers → Each (FitsCaller first_board first_owner 0) (callers_from o k n)
  callers_fit k zero l = tt
  callers_fit k (suc n) l = (
    record {
      mine = refl;
      part = copy_row o.callers k (fresh_caller (units_of o.layout)) (omega arith);
      entries = none_seen (units_of o.layout) (histories_of first_units) (length-map first_units (λ (p : UnitPart). p.history)
          ∙ unit_count);
      left = All-nil (IsLeft first_units);
      clean = first_clean;
    },
    callers_fit (k + 1) n (omega arith),
  )

  advancer_fits : FitsAdvancer first_board first_owner 0 (first_advancer o)
  advancer_fits = record {
    mine = refl;
    part = refl;
    clock_is = refl;
    durable = refl;
    odd = refl;
    units = unit_count;
    room = refl;
    list_count = length-replicate (units_of o.layout) [];
    lists = λ u p e passed. absurd (omega (arith, passed));
    turn = refl;
    learnt = nothing_learnt;
    clean = first_clean;
  }

  first_fits : FitsView first_board first_owner 0 (first_view o)
  first_fits = record {
    units = units_fit 0 (units_of o.layout - 0) (omega arith);
    advancers = (advancer_fits, tt);
    callers = callers_fit 0 (o.callers - 0) (omega arith);
    notes = tt;
  }

-- the whole state
pub opens : (o : Opening) (words : List ℕ) (lists : List Cell) → IsWellFormed o.layout o.words
    → words ≡ table_words (recovered o.layout o.words o.callers) → lists ≡ replicate (2 * units_of o.layout) (listing o.layout.slots [])
    → ShowsCore o (opening words lists (first_view o))
opens o words lists well are empty =
    let found = images_are_recovered o.layout o.words o.callers well in
    let states = found.1 in
    record {
      board = first_board o well;
      own = first_owner o well;
      accepted = well;
      states = states.0;
      base = states.1;
      events = [];
      run = refl;
      sound = recovered_cores_are_sound o.layout o.words states.0 o.callers (recovered o.layout o.words o.callers) well states.1 found.0;
      layout = refl;
      callers = length-replicate o.callers (fresh_caller (units_of o.layout));
      words = are;
      passed = λ u touched. absurd (subst IsTouched (waiting u) touched);
      homes = first_homes o well (map some lists) (ap (map some) empty);
      views = one;
    }
  where
    one : (seat : ℕ) (v : View) → get_elem? (first_view o ∷ []) seat ≡ some v → FitsView (first_board o well) (first_owner o well) seat v
    one zero v e = subst (FitsView (first_board o well) (first_owner o well) 0) (some-injective (first_view o) v e) (first_fits o well)
    one (suc seat) v e = absurd (some-ne-none v (sym e))
