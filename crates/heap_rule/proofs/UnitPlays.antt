-- What each step of a unit's own owes the rule.
use Rattle.std.proofs.Common.{◌≡◌, ◌≢◌, ℕ, ◌+◌, ◌-◌, ◌*◌, ◌/◌, ◌<◌, List, [], length, set, refl, sym, ap, ◌∙◌, subst, ⊎_elim, arith, Bool, true, false, length-set}
use Rattle.std.specs.Prelude.{slice_get, slice_index, Some, max, ◌||◌}
use mathlib.Core.Option.{Option, none}
use Rattle.atomic_table.specs.Table.{State, keeps, step, Allows, stepped}
use Rattle.mont_base.specs.Layout.{units_of}
use Rattle.core_steps.specs.declared.event.Event.TheVariants as events
use Rattle.core_steps.specs.declared.parts.Core.{Core}
use Rattle.core_steps.specs.declared.parts.CallerPart.{CallerPart}
use Rattle.core_steps.specs.declared.parts.Part.TheVariants as parts
use Rattle.core_steps.specs.declared.parts.UnitPart.{UnitPart}
use Rattle.core_steps.specs.declared.parts.AdvPart.{AdvPart}
use Rattle.core_steps.specs.Clock.{clock, durable_clock}
use Rattle.core_steps.specs.Stages.{is_idle, is_told, is_within, is_unfrozen, is_announced, passed_of}
use Rattle.core_steps.specs.Announcing.{can_look, can_tell, after_tell, tell, can_confirm, after_confirm, confirm, can_withdraw, after_withdraw, withdraw}
use Rattle.core_steps.specs.Closing.{can_load_durable, after_load_durable, load_durable}
use Rattle.core_steps.specs.Events.{AreNoneLost}
use Rattle.core_steps.specs.Flushing.{unit_list}
use Rattle.core_steps.proofs.Decisions.{both, either_true}
use Rattle.core_steps.proofs.RowFacts.{row_from}
use Rattle.core_steps.proofs.Rows.{each_set, row_here, row_else, row_same}
use Rattle.heap_rule.specs.declared.rule.Opening.{Opening}
use Rattle.heap_rule.specs.declared.views.UnitKnown.{UnitKnown}
use Rattle.heap_rule.specs.declared.views.UnitTurn.{UnitTurn}
use Rattle.heap_rule.specs.declared.views.FullTurn.{FullTurn}
use Rattle.heap_rule.specs.declared.views.View.{View}
use Rattle.heap_rule.specs.Views.{Cell, home_turn, unit_view, are_clean, unit_looked, unit_told, unit_confirmed, unit_withdrew, unit_loaded_durable}
use Rattle.heap_rule.specs.TableWords.{table_words, durable_place, announcement_place}
use Rattle.heap_rule.specs.HomeLists.{unit_home, full_at, HomesFit, IsTouched}
use Rattle.heap_rule.specs.Rule.{Owners, Board, HasPassed, Homes, Passed, AreClean, FitsUnit, FitsView, ShowsCore}
use Rattle.heap_rule.specs.Plays.{looked, told, confirmed, withdrew, loaded_durable}
use Rattle.heap_rule.specs.SoundUnits.{IsSoundUnit}
use Rattle.heap_rule.proofs.HomeSlots.{same_moves, rest_same}
use Rattle.heap_rule.proofs.Growing.{Sweeps, clean_still, learnt_still}
use Rattle.heap_rule.proofs.RuleFrames.{Reached, goes, Moves, steps, loads}
use Rattle.heap_rule.proofs.RunFacts.{unit_sound}
use Rattle.heap_rule.proofs.CoreFacts.{at_row, none_clean, none_announced, is_clock, is_durable, stores_announced, found_clock, found_durable_clock}

-- ---- one unit's part changes
pub record IsOwnStep (c d : Core) (u : ℕ) (p q : UnitPart) : Type 0 where
  pub units : d.units ≡ set c.units u q
  pub advancer : d.advancer ≡ c.advancer
  pub odd : d.odd ≡ c.odd
  pub layout : d.layout ≡ c.layout
  pub clock_is : clock d ≡ clock c
  pub durable : durable_clock d ≡ durable_clock c
  pub lost : p.lost ≡ [] → q.lost ≡ []
  -- once the unit was passed, its list for the epoch before the clock stays
  pub old_list : HasPassed c u → unit_list (clock c - 1) q ≡ unit_list (clock c - 1) p

pub sweeps_one : (units : List UnitPart) (u : ℕ) (p q : UnitPart) → slice_get units u ≡ Some p → (p.lost ≡ [] → q.lost ≡ [])
    → Sweeps units (set units u q)
sweeps_one units u p q at lost = each_set (λ v r. (t : UnitPart) × (slice_get units v ≡ Some t) × (t.lost ≡ [] → r.lost ≡ [])) units u q
    (λ v r off is. (r, is, λ e. e)) (p, at, lost)

-- and with it its turn
pub own_moves : (own : Owners) (mine : ℕ → Type 0) (c d : Board) (u : ℕ) (p q : UnitPart) → mine (own.unit u)
    → slice_get c.core.units u ≡ Some p → IsOwnStep c.core d.core u p q
    → ((v : ℕ) → v ≢ u → d.turn v ≡ c.turn v) → d.full ≡ c.full
    → ((k : ℕ) → (mine (own.caller k) → ⊥) → slice_get d.core.callers k ≡ slice_get c.core.callers k)
    → length d.core.callers ≡ length c.core.callers → Moves own mine c d
own_moves own mine c d u p q has at is turns full callers count = record {
  units = λ v off.
      let apart : v ≢ u = λ same. off (subst (λ (x : ℕ). mine (own.unit x)) (sym same) has) in (
        subst (λ (l : List UnitPart). slice_get l v ≡ slice_get c.core.units v) (sym is.units)
            (row_else c.core.units u v q apart),
        turns v apart,
      );
  advancer = λ off. record {
    part = is.advancer;
    clock_is = is.clock_is;
    durable = is.durable;
    odd = is.odd;
    full = full;
    lists = λ v r h passed.
        each_set (λ (v : ℕ) (r : UnitPart). HasPassed c.core v → (t : UnitPart) × (slice_get c.core.units v ≡ Some t)
        × (unit_list (clock c.core - 1) r ≡ unit_list (clock c.core - 1) t)) c.core.units u q
        (λ v r off e before. (r, e, refl)) (λ before. (p, at, is.old_list before)) v r
        (subst (λ (l : List UnitPart). slice_get l v ≡ Some r) is.units h) passed;
  };
  callers = callers;
  count = ap length is.units ∙ length-set c.core.units u q;
  caller_count = count;
  layout = is.layout;
  sweeps = subst (Sweeps c.core.units) (sym is.units) (sweeps_one c.core.units u p q at is.lost);
}

-- the lists at home
pub own_homes : (c d : Board) (homes : List (Option Cell)) (u : ℕ) (p q : UnitPart) → slice_get c.core.units u ≡ Some p
    → IsOwnStep c.core d.core u p q → ((v : ℕ) → v ≢ u → d.turn v ≡ c.turn v) → d.full ≡ c.full
    → unit_home c.core.layout.slots (clock c.core) q (d.turn u) ≡ unit_home c.core.layout.slots (clock c.core) p (c.turn u)
    → unit_home c.core.layout.slots (clock c.core - 1) q (d.turn u) ≡ unit_home c.core.layout.slots (clock c.core - 1) p (c.turn u)
    → Homes c homes → Homes d homes
own_homes c d homes u p q at is turns full young old all v r h =
    let room : ℕ = c.core.layout.slots in
    each_set (λ (v : ℕ) (r : UnitPart). HomesFit d.core.layout.slots (clock d.core) r (d.turn v)
    (full_at d.full v) homes v) c.core.units u q
    (λ v r off e. subst (λ (x : ℕ × ℕ × UnitTurn × FullTurn). HomesFit x.0 x.1 r x.2 (full_at x.3 v) homes v)
    (λ i. ((sym is.layout i).slots, sym is.clock_is i, sym (turns v off) i, sym full i)) (all v r e))
    (subst (λ (x : ℕ × ℕ × FullTurn). HomesFit x.0 x.1 q (d.turn u) (full_at x.2 u) homes u)
    (λ i. ((sym is.layout i).slots, sym is.clock_is i, sym full i))
    (same_moves room (clock c.core) p q (c.turn u) (d.turn u) (full_at c.full u) homes u young old (all u p at)))
    v r (subst (λ (l : List UnitPart). slice_get l v ≡ Some r) is.units h)

pub own_passed : (c d : Board) (u : ℕ) (p q : UnitPart) → IsOwnStep c.core d.core u p q → d.full ≡ c.full → Passed c → Passed d
own_passed c d u p q is full all v t =
    let count : length d.core.units ≡ length c.core.units = ap length is.units ∙ length-set c.core.units u q in
    subst (λ (x : ℕ × AdvPart). v < passed_of x.0 x.1) (λ i. (sym count i, sym is.advancer i))
    (all v (subst (λ (f : FullTurn). IsTouched (full_at f v)) full t))

-- ---- what a step of the unit leaves
-- the seat's view, at another part, number of steps, loaded word and clean units
abbrev pub moved : UnitKnown → UnitPart → ℕ → ℕ → List ℕ → UnitKnown
moved h q n l clean = record h { part = q; steps = n; loaded = l; clean = clean }

module _ (o : Opening) (s : State Cell View) (k : ShowsCore o s) (seat : ℕ) (h : UnitKnown) (f : FitsUnit k.board k.own seat h) where
  abbrev own_board : Core → Board
  own_board d = record { core = d; turn = k.board.turn; full = k.board.full }

  -- no list at home changes
  abbrev SameHome : UnitPart → ℕ → Type 0
  SameHome q x = unit_home k.board.core.layout.slots x q (k.board.turn h.unit)
      ≡ unit_home k.board.core.layout.slots x h.part (k.board.turn h.unit)

  record Owed (d : Core) (w : UnitKnown) : Type 0 where
    moves : Moves k.own (λ j. j ≡ seat) k.board (own_board d)
    passed : Passed (own_board d)
    homes : Homes (own_board d) s.homes
    fits : FitsView (own_board d) k.own seat (unit_view w)

  owes : (q : UnitPart) (n l : ℕ) (clean : List ℕ) (d : Core) → Reached o k.states k.board.core d
      → IsOwnStep k.board.core d h.unit h.part q → d.callers ≡ k.board.core.callers → AreClean d.units clean
      → SameHome q (clock k.board.core) → SameHome q (clock k.board.core - 1) → Owed d (moved h q n l clean)
  owes q n l clean d r is callers clean_is young old = record {
    moves = own_moves k.own (λ j. j ≡ seat) k.board (own_board d) h.unit h.part q f.mine f.part is (λ v off. refl) refl
        (λ i off. ap (λ (cs : List CallerPart). slice_get cs i) callers) (ap length callers);
    passed = own_passed k.board (own_board d) h.unit h.part q is refl k.passed;
    homes = own_homes k.board (own_board d) s.homes h.unit h.part q f.part is (λ v off. refl) refl young old k.homes;
    fits = record {
      units = (
        record {
          mine = f.mine;
          part = ap (λ (us : List UnitPart). slice_get us h.unit) is.units ∙ row_here k.board.core.units h.unit q h.part f.part;
          turn = f.turn;
          room = ap (λ s. s.slots) is.layout ∙ f.room;
          learnt = learnt_still k.board.core d h.learnt r.grows f.learnt;
          clean = clean_is;
        },
        tt,
      );
      advancers = tt;
      callers = tt;
      notes = tt;
    };
  }

  -- a store of a word
  pub own_store : (i x : ℕ) (c : List (ℕ × Cell)) (q : UnitPart) (n l : ℕ) (clean : List ℕ) (d : Core)
      → Reached o k.states k.board.core d → IsOwnStep k.board.core d h.unit h.part q → d.callers ≡ k.board.core.callers
      → AreClean d.units clean → SameHome q (clock k.board.core) → SameHome q (clock k.board.core - 1)
      → set (table_words k.board.core) i x ≡ table_words d
      → ShowsCore o (stepped s i x seat c (unit_view (moved h q n l clean)) keeps)
  own_store i x c q n l clean d r is callers clean_is young old words =
      let y = owes q n l clean d r is callers clean_is young old in
      steps o s k seat i x c (unit_view (moved h q n l clean)) keeps (own_board d) r y.moves words y.passed y.homes y.fits

  -- a load
  pub own_load : (i : ℕ) (c : List (ℕ × Cell)) (q : UnitPart) (n l : ℕ) (clean : List ℕ) (d : Core)
      → Reached o k.states k.board.core d → IsOwnStep k.board.core d h.unit h.part q → d.callers ≡ k.board.core.callers
      → AreClean d.units clean → SameHome q (clock k.board.core) → SameHome q (clock k.board.core - 1)
      → table_words k.board.core ≡ table_words d
      → ShowsCore o (stepped s i (slice_index s.words i) seat c (unit_view (moved h q n l clean)) keeps)
  own_load i c q n l clean d r is callers clean_is young old words =
      let y = owes q n l clean d r is callers clean_is young old in
      loads o s k seat i c (unit_view (moved h q n l clean)) keeps (own_board d) r y.moves words y.passed y.homes y.fits

  -- the clean units stay so
  pub still_clean : (q : UnitPart) (d : Core) → IsOwnStep k.board.core d h.unit h.part q → AreClean d.units h.clean
  still_clean q d is = clean_still k.board.core.units d.units h.clean
      (subst (Sweeps k.board.core.units) (sym is.units) (sweeps_one k.board.core.units h.unit h.part q f.part is.lost)) f.clean

  -- where nothing is pushed, no list depends on the stage
  pub rest_home : (q : UnitPart) (x : ℕ) → h.turn ≡ home_turn → unit_list x q ≡ unit_list x h.part → SameHome q x
  rest_home q x home same = rest_same k.board.core.layout.slots x h.part q (k.board.turn h.unit) (f.turn ∙ home) same

-- ---- Look
pub looks : (o : Opening) (slots seat : ℕ) (h : UnitKnown) (c : List (ℕ × Cell)) → can_look h.part ≡ true
    → Allows (ShowsCore o) slots seat (unit_view h, c) 0 (λ n. n) (looked (step slots 0 0 0 none) (unit_view h, c))
looks o slots seat h c may s k long at small =
    let f = (k.views seat (unit_view h) at).units.0 in
    let core = k.board.core in
    let x : ℕ = slice_index s.words 0 in
    let is : IsOwnStep core core h.unit h.part h.part = record {
      units = sym (row_same core.units h.unit h.part f.part);
      advancer = refl;
      odd = refl;
      layout = refl;
      clock_is = refl;
      durable = refl;
      lost = λ e. e;
      old_list = λ _. refl;
    } in (
      unit_view (unit_looked h x),
      keeps,
      tt,
      own_load o s k seat h f 0 c h.part (h.steps + 1) x h.clean core
          (goes o s k core (events.Look h.unit) (row_from (λ (p : UnitPart). can_look p
          ≡ true) (slice_get core.units h.unit) h.part f.part may) refl)
          is refl (still_clean o s k seat h f h.part core is) refl refl refl,
      (refl, is_clock _ core k.sound h.learnt h.unit h.part x f.learnt f.part (found_clock o s k)),
    )

-- ---- Tell
half : (e : ℕ) → (2 * e) / 2 ≡ e
half e = omega arith

-- no slot is lost where a unit may announce an epoch
pub none_at_tell : (o : Opening) (s : State Cell View) (k : ShowsCore o s) (p : UnitPart) (u e : ℕ) (clean : List ℕ)
    → slice_get k.board.core.units u ≡ Some p → AreClean k.board.core.units clean → can_tell p e ≡ true
    → (is_idle p.stage ≡ true → are_clean (units_of o.layout) clean ≡ true) → AreNoneLost k.board.core.units
none_at_tell o s k p u e clean at are may idle =
    let rest = both (is_unfrozen p) _ may in
    let stage = both (is_idle p.stage || is_told p.stage) _ rest.1 in
    ⊎_elim
    (λ (t : is_idle p.stage ≡ true). none_clean o s k clean are (idle t))
    (λ (t : is_told p.stage ≡ true). none_announced k.board.core.units k.board.core.advancer u p k.sound.lost at
    (ap (λ b. b || is_within p.stage) t))
    (either_true (is_idle p.stage) (is_told p.stage) stage.0)

pub tells : (o : Opening) (slots seat : ℕ) (h : UnitKnown) (c : List (ℕ × Cell)) (e : ℕ) → can_tell h.part e ≡ true
    → (is_idle h.part.stage ≡ true → are_clean (units_of o.layout) h.clean ≡ true) → h.turn ≡ home_turn
    → Allows (ShowsCore o) slots seat (unit_view h, c) (announcement_place o.layout h.unit) (λ _. 2 * e)
    (λ _ m. told (step slots (announcement_place o.layout h.unit) (2 * e) 0 none) (unit_view h, c) (2 * e) m)
tells o slots seat h c e may idle home s k long at small =
    let f = (k.views seat (unit_view h) at).units.0 in
    let core = k.board.core in
    let q : UnitPart = after_tell h.part e in
    let d : Core = tell core h.unit h.part e in
    let is : IsOwnStep core d h.unit h.part q = record {
      units = refl;
      advancer = refl;
      odd = refl;
      layout = refl;
      clock_is = refl;
      durable = refl;
      lost = λ e. e;
      old_list = λ _. refl;
    } in (
      unit_view (unit_told h e),
      keeps,
      tt,
      own_store o s k seat h f (announcement_place o.layout h.unit) (2 * e) c q (h.steps + 1) h.loaded h.clean d
          (goes o s k d (events.Tell h.unit e) (
            none_at_tell o s k h.part h.unit e h.clean f.part f.clean may idle,
            row_from (λ (p : UnitPart). can_tell p e ≡ true) (slice_get core.units h.unit) h.part f.part may,
          )
          (at_row core.units h.unit h.part core (λ p. tell core h.unit p e) f.part))
          is refl (still_clean o s k seat h f q d is) (rest_home o s k seat h f q (clock core) home refl)
          (rest_home o s k seat h f q (clock core - 1) home refl) (stores_announced o s k h.unit (2 * e)),
      ap (λ (x : ℕ). (unit_view (unit_told h x), c)) (sym (half e)),
    )

-- ---- Confirm
pub confirms : (o : Opening) (slots seat : ℕ) (h : UnitKnown) (c : List (ℕ × Cell)) → can_confirm h.part ≡ true → h.turn ≡ home_turn
    → Allows (ShowsCore o) slots seat (unit_view h, c) 0 (λ n. n) (confirmed (step slots 0 0 0 none) (unit_view h, c))
confirms o slots seat h c may home s k long at small =
    let f = (k.views seat (unit_view h) at).units.0 in
    let core = k.board.core in
    let x : ℕ = slice_index s.words 0 in
    let found = found_clock o s k in
    let q : UnitPart = after_confirm h.part (clock core) in
    let d : Core = confirm core h.unit h.part in
    let told = (both (is_unfrozen h.part) (is_told h.part.stage) may).1 in
    let is : IsOwnStep core d h.unit h.part q = record {
      units = refl;
      advancer = refl;
      odd = refl;
      layout = refl;
      clock_is = refl;
      durable = refl;
      lost = λ e. e;
      old_list = λ _. refl;
    } in (
      unit_view (unit_confirmed h x),
      keeps,
      tt,
      subst (λ (y : ℕ). ShowsCore o (stepped s 0 x seat c (unit_view (moved h (after_confirm h.part y) (h.steps + 1) x h.clean)) keeps))
          (sym found)
          (own_load o s k seat h f 0 c q (h.steps + 1) x h.clean d
          (goes o s k d (events.Confirm h.unit) (
            none_announced core.units core.advancer h.unit h.part k.sound.lost f.part (ap (λ b. b || is_within h.part.stage) told),
            row_from (λ (p : UnitPart). can_confirm p ≡ true) (slice_get core.units h.unit) h.part f.part may,
          )
          (at_row core.units h.unit h.part core (λ p. confirm core h.unit p) f.part))
          is refl (still_clean o s k seat h f q d is) (rest_home o s k seat h f q (clock core) home refl)
          (rest_home o s k seat h f q (clock core - 1) home refl) refl),
      (refl, is_clock _ core k.sound h.learnt h.unit h.part x f.learnt f.part found),
    )

-- ---- Withdraw
withdraws_announced : (p : UnitPart) → can_withdraw p ≡ true → is_announced p.stage ≡ true
withdraws_announced p may =
    let stage = (both (is_unfrozen p) _ may).1 in
    ⊎_elim
    (λ (t : is_told p.stage ≡ true). ap (λ b. b || is_within p.stage) t)
    (λ t. or_right (is_told p.stage) (is_within p.stage) (both (is_within p.stage) _ t).0)
    (either_true (is_told p.stage) _ stage)
  where
    or_right : (a b : Bool) → b ≡ true → (a || b) ≡ true
    or_right true b e = refl
    or_right false b e = e

pub withdraws : (o : Opening) (slots seat : ℕ) (h : UnitKnown) (c : List (ℕ × Cell)) → can_withdraw h.part ≡ true → h.turn ≡ home_turn
    → Allows (ShowsCore o) slots seat (unit_view h, c) (announcement_place o.layout h.unit) (λ _. 0)
    (λ _ m. withdrew (step slots (announcement_place o.layout h.unit) 0 0 none) (unit_view h, c) 0 m)
withdraws o slots seat h c may home s k long at small =
    let f = (k.views seat (unit_view h) at).units.0 in
    let core = k.board.core in
    let q : UnitPart = after_withdraw h.part in
    let d : Core = withdraw core h.unit h.part in
    let is : IsOwnStep core d h.unit h.part q = record {
      units = refl;
      advancer = refl;
      odd = refl;
      layout = refl;
      clock_is = refl;
      durable = refl;
      lost = λ e. e;
      old_list = λ _. refl;
    } in (
      unit_view (unit_withdrew h),
      keeps,
      tt,
      own_store o s k seat h f (announcement_place o.layout h.unit) 0 c q (h.steps + 1) h.loaded h.clean d
          (goes o s k d (events.Withdraw h.unit) (
            none_announced core.units core.advancer h.unit h.part k.sound.lost f.part (withdraws_announced h.part may),
            row_from (λ (p : UnitPart). can_withdraw p ≡ true) (slice_get core.units h.unit) h.part f.part may,
          )
          (at_row core.units h.unit h.part core (λ p. withdraw core h.unit p) f.part))
          is refl (still_clean o s k seat h f q d is) (rest_home o s k seat h f q (clock core) home refl)
          (rest_home o s k seat h f q (clock core - 1) home refl) (stores_announced o s k h.unit 0),
      refl,
    )

-- ---- LoadDurable
pub loads_durable : (o : Opening) (slots seat : ℕ) (h : UnitKnown) (c : List (ℕ × Cell)) → can_load_durable h.part ≡ true
    → Allows (ShowsCore o) slots seat (unit_view h, c) (durable_place o.layout 0) (λ n. n)
    (loaded_durable o (step slots (durable_place o.layout 0) 0 0 none) (unit_view h, c))
loads_durable o slots seat h c may s k long at small =
    let f = (k.views seat (unit_view h) at).units.0 in
    let core = k.board.core in
    let i : ℕ = durable_place o.layout 0 in
    let x : ℕ = slice_index s.words i in
    let found = found_durable_clock o s k in
    let q : UnitPart = after_load_durable h.part (durable_clock core) in
    let d : Core = load_durable core h.unit h.part in
    let is : IsOwnStep core d h.unit h.part q = record {
      units = refl;
      advancer = refl;
      odd = refl;
      layout = refl;
      clock_is = refl;
      durable = refl;
      lost = λ e. e;
      old_list = λ _. refl;
    } in
    let y : Reached o k.states core d = goes o s k d (events.LoadDurable (parts.Unit h.unit))
    (row_from (λ (p : UnitPart). can_load_durable p ≡ true) (slice_get core.units h.unit) h.part f.part may)
    (at_row core.units h.unit h.part core (λ p. load_durable core h.unit p) f.part) in
    let known = k.sound.clocks.of_units h.unit h.part f.part in
    let learnt = f.learnt.durable in (
      unit_view (unit_loaded_durable h x),
      keeps,
      tt,
      subst (λ (y : ℕ). ShowsCore o (stepped s i x seat c (unit_view (moved h (after_load_durable h.part y)
          (h.steps + 1) x h.clean)) keeps))
          (sym found)
          (own_load o s k seat h f i c q (h.steps + 1) x h.clean d y is refl (still_clean o s k seat h f q d is) refl refl refl),
      (
        refl,
        is_durable _ core k.sound (max h.part.durable h.learnt.durable) x (omega arith) found,
        (
          clock core,
          subst (λ (z : ℕ). IsSoundUnit o (clock core) z (unit_loaded_durable h z)) (sym found)
              (unit_sound o s k d y refl (unit_loaded_durable h (durable_clock core)) (row_here core.units h.unit q h.part f.part)
              (still_clean o s k seat h f q d is)),
        ),
      ),
    )
