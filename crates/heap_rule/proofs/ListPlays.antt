-- What taking a list out and giving it back owe the rule.
use Rattle.std.proofs.Common.{◌≡◌, ◌≢◌, ℕ, ◌+◌, ◌-◌, ◌*◌, ◌<◌, List, [], ◌∷◌, ◌++◌, set, refl, sym, ap, ◌∙◌, subst, inl, inr, arith, Bool, true, false, cond}
use Rattle.std.specs.Prelude.{slice_get, Some, All}
use mathlib.Core.Option.{Option, none, some}
use mathlib.Core.Logic.{dite}
use native.Mathlib.Decide.{ℕ_discrete}
use lib.ListN.{get_elem?}
use Rattle.atomic_table.specs.Table.{State, takes, gives, step, Allows}
use Rattle.mont_base.specs.SlotLists.{Roomy}
use Rattle.mont_base.specs.Image.{clock_of}
use Rattle.core_steps.specs.declared.parts.AdvPart.{AdvPart}
use Rattle.core_steps.specs.declared.parts.UnitPart.{UnitPart}
use Rattle.core_steps.specs.declared.parts.UnitStage.{UnitStage}
use Rattle.core_steps.specs.declared.parts.UnitStage.TheVariants.{Idle, Told, Within, Closing}
use Rattle.core_steps.specs.Clock.{clock}
use Rattle.core_steps.specs.Stages.{is_within, epoch_of, passed_of}
use Rattle.core_steps.specs.Flushing.{unit_list}
use Rattle.core_steps.specs.Sound.{StageFits, IsRegistered}
use Rattle.core_steps.proofs.RowFacts.{item_at, same_item}
use Rattle.heap_rule.specs.declared.rule.Opening.{Opening}
use Rattle.heap_rule.specs.declared.views.AdvKnown.{AdvKnown}
use Rattle.heap_rule.specs.declared.views.FullTurn.{FullTurn}
use Rattle.heap_rule.specs.declared.views.UnitKnown.{UnitKnown}
use Rattle.heap_rule.specs.declared.views.UnitTurn.{UnitTurn}
use Rattle.heap_rule.specs.declared.views.View.{View}
use Rattle.heap_rule.specs.Views.{Cell, listing, list_place, listed_in, slots_written, unit_view, advancer_view, list_at, unit_took, unit_gave, advancer_took, advancer_gave}
use Rattle.heap_rule.specs.HomeLists.{turn_home, unit_home, Full, Waiting, Out, Empty, full_at, full_home, HomesFit, IsTouched}
use Rattle.heap_rule.specs.Rule.{Board, HasPassed, Homes, FitsUnit, FitsAdvancer, FitsView, ShowsCore}
use Rattle.heap_rule.specs.Plays.{took_list, gave_list, took_full, gave_empty}
use Rattle.heap_rule.proofs.CoreFacts.{clock_low}
use Rattle.heap_rule.proofs.Growing.{sweeps_itself}
use Rattle.heap_rule.proofs.HomeSlots.{InTurn, turn_there, turn_moves, full_moves, else_moves, unit_home_else, in_passed, full_out, full_waits, full_gave, full_out_else, full_gave_else}
use Rattle.heap_rule.proofs.RuleFrames.{stays, Moves, loads, one_given, given_hit, given_miss}
use Rattle.heap_rule.proofs.FlushPlays.{advancer_moves}
use Rattle.heap_rule.proofs.ListRoom.{has_room, lists_inside}

-- ---- a unit's turn
registered : (b now : ℕ) (passed : Type 0) (s : UnitStage) → is_within s ≡ true → StageFits b now passed s
    → IsRegistered b now passed (epoch_of s)
registered b now passed Idle w f = absurd (cc)
registered b now passed (Told e) w f = absurd (cc)
registered b now passed (Within e) w f = f
registered b now passed (Closing slot) w f = absurd (cc)

waits : (f : Full) → (IsTouched f → ⊥) → f ≡ Waiting
waits Waiting h = refl
waits Out h = absurd (h tt)
waits Empty h = absurd (h tt)

module _ (o : Opening) (s : State Cell View) (k : ShowsCore o s) where
  -- the list of a unit in its turn is the young one, or the old one with which the advancer has not begun
  in_turn : (u : ℕ) (p : UnitPart) → slice_get k.board.core.units u ≡ Some p → is_within p.stage ≡ true
      → InTurn (clock k.board.core) p (full_at k.board.full u)
  in_turn u p at within =
      let r = registered (clock_of o.words) (clock k.board.core) (HasPassed k.board.core u) p.stage within
      (k.sound.registration u p at) in
      let near = r.near in
      let reached = r.reached in
      dite (ℕ_discrete (epoch_of p.stage) (clock k.board.core)) inl
      (λ n. inr (omega arith, waits (full_at k.board.full u) (λ t. n (r.same (k.passed u t)))))

  -- its turn changes, and what stands in the place of its list
  turns_unit : (u : ℕ) (p : UnitPart) (w : UnitTurn) → slice_get k.board.core.units u ≡ Some p → is_within p.stage ≡ true
      → Homes (record { core = k.board.core; turn = one_given k.board.turn u w; full = k.board.full })
      (set s.homes (list_place u (epoch_of p.stage)) (turn_home k.board.core.layout.slots w (unit_list (epoch_of p.stage) p)))
  turns_unit u p w at within v r h =
      let core = k.board.core in
      let room : ℕ = core.layout.slots in
      let x : Option Cell = turn_home room w (unit_list (epoch_of p.stage) p) in
      let i : ℕ = list_place u (epoch_of p.stage) in
      let turn : ℕ → UnitTurn = one_given k.board.turn u w in
      let low = clock_low _ core k.sound in
      dite (ℕ_discrete v u)
      (λ (same : v ≡ u). subst (λ (y : ℕ × UnitPart). HomesFit room (clock core) y.1 (turn y.0) (full_at k.board.full y.0)
      (set s.homes i x) y.0)
      (λ j. (sym same j, same_item core.units u p r at (ap (slice_get core.units) (sym same) ∙ h) j))
      (subst (λ (t : UnitTurn). HomesFit room (clock core) p t (full_at k.board.full u) (set s.homes i x) u) (sym
      (given_hit k.board.turn u w))
      (turn_moves room (clock core) p (k.board.turn u) w (full_at k.board.full u) s.homes u (omega arith) within
      (in_turn u p at within) (k.homes u p at))))
      (λ apart. subst (λ (t : UnitTurn). HomesFit room (clock core) r t (full_at k.board.full v) (set s.homes i x) v)
      (sym (given_miss k.board.turn u w v apart))
      (else_moves room (clock core) r (k.board.turn v) (full_at k.board.full v) s.homes u v (epoch_of p.stage) x apart (k.homes v r h)))

  moves_turn : (seat u : ℕ) (w : UnitTurn) → k.own.unit u ≡ seat
      → Moves k.own (λ j. j ≡ seat) k.board (record { core = k.board.core; turn = one_given k.board.turn u w; full = k.board.full })
  moves_turn seat u w mine = record {
    units = λ v off. (refl, given_miss k.board.turn u w v (λ same. off (ap k.own.unit same ∙ mine)));
    advancer = λ off. record {
      part = refl;
      clock_is = refl;
      durable = refl;
      odd = refl;
      full = refl;
      lists = λ v q at passed. (q, at, refl);
    };
    callers = λ i off. refl;
    count = refl;
    caller_count = refl;
    layout = refl;
    sweeps = sweeps_itself k.board.core.units;
  }

  unit_turned : (seat : ℕ) (h : UnitKnown) (w : UnitTurn) → FitsUnit k.board k.own seat h
      → FitsView (record { core = k.board.core; turn = one_given k.board.turn h.unit w; full = k.board.full }) k.own seat
      (unit_view (record h { turn = w }))
  unit_turned seat h w f = record {
    units = (
      record {
        mine = f.mine;
        part = f.part;
        turn = given_hit k.board.turn h.unit w;
        room = f.room;
        learnt = f.learnt;
        clean = f.clean;
      },
      tt,
    );
    advancers = tt;
    callers = tt;
    notes = tt;
  }

pub takes_list : (o : Opening) (slots seat : ℕ) (h : UnitKnown) (c : List (ℕ × Cell)) → is_within h.part.stage ≡ true → h.turn.out ≡ false
    → Allows (ShowsCore o) slots seat (unit_view h, c) 0 (λ n. n) (took_list (step slots 0 0 0 none) (unit_view h, c))
takes_list o slots seat h c within home s k long at small =
    let f = (k.views seat (unit_view h) at).units.0 in
    let core = k.board.core in
    let w : UnitTurn = record { out = true; pushed = h.turn.pushed } in
    let place : ℕ = list_place h.unit (epoch_of h.part.stage) in
    let list : Cell = listing h.room (listed_in h ++ h.turn.pushed) in
    let d : Board = record { core = core; turn = one_given k.board.turn h.unit w; full = k.board.full } in (
      unit_view (unit_took h),
      takes place list,
      turn_there core.layout.slots (clock core) h.part (k.board.turn h.unit) (full_at k.board.full h.unit) s.homes h.unit within
          (in_turn o s k h.unit h.part f.part within) (k.homes h.unit h.part f.part)
          ∙ ((λ i. some (turn_home (f.room i) (f.turn i) (listed_in h))) ∙ ap (λ b. some (cond b none (some list))) home),
      loads o s k seat 0 c (unit_view (unit_took h)) (takes place list) d (stays o s k)
          (moves_turn o s k seat h.unit w f.mine) refl k.passed
          (turns_unit o s k h.unit h.part w f.part within) (unit_turned o s k seat h w f),
      (refl, has_room o s k h.unit h.part f.part h.room f.room),
    )

pub gives_list : (o : Opening) (slots seat : ℕ) (h : UnitKnown) (c : List (ℕ × Cell)) (l : Roomy) → is_within h.part.stage ≡ true
    → l ≡ record { slots = listed_in h ++ slots_written h.part; room = h.room }
    → Allows (ShowsCore o) slots seat (unit_view h, (list_place h.unit (epoch_of h.part.stage), Some l) ∷ c) 0 (λ n. n)
    (gave_list (step slots 0 0 0 none) (unit_view h, (list_place h.unit (epoch_of h.part.stage), Some l) ∷ c))
gives_list o slots seat h c l within list s k long at small =
    let f = (k.views seat (unit_view h) at).units.0 in
    let core = k.board.core in
    let w : UnitTurn = record { out = false; pushed = slots_written h.part } in
    let place : ℕ = list_place h.unit (epoch_of h.part.stage) in
    let d : Board = record { core = core; turn = one_given k.board.turn h.unit w; full = k.board.full } in (
      unit_view (unit_gave h),
      gives,
      tt,
      loads o s k seat 0 ((place, Some l) ∷ c) (unit_view (unit_gave h)) gives d (stays o s k)
          (moves_turn o s k seat h.unit w f.mine) refl k.passed
          (subst (λ (z : Cell). Homes d (set s.homes place (some z)))
          ((λ j. listing (f.room j) (listed_in h ++ slots_written h.part)) ∙ ap (λ (l : Roomy). Some l) (sym list))
          (turns_unit o s k h.unit h.part w f.part within))
          (unit_turned o s k seat h w f),
      refl,
    )

-- ---- the advancer's turn
module _ (o : Opening) (s : State Cell View) (k : ShowsCore o s) where
  -- what it made of one unit's list changes, and what stands in its place
  turns_full : (u : ℕ) (p : UnitPart) (g : FullTurn) (x : Option Cell) → slice_get k.board.core.units u ≡ Some p
      → ((v : ℕ) → v ≢ u → full_at g v ≡ full_at k.board.full v)
      → full_home k.board.core.layout.slots (full_at g u) (unit_home k.board.core.layout.slots (clock k.board.core - 1) p
      (k.board.turn u)) ≡ x
      → Homes (record { core = k.board.core; turn = k.board.turn; full = g }) (set s.homes (list_place u (clock k.board.core + 1)) x)
  turns_full u p g x at else_same is v r h =
      let core = k.board.core in
      let room : ℕ = core.layout.slots in
      let i : ℕ = list_place u (clock core + 1) in
      dite (ℕ_discrete v u)
      (λ (same : v ≡ u). subst (λ (y : ℕ × UnitPart). HomesFit room (clock core) y.1 (k.board.turn y.0) (full_at g y.0)
      (set s.homes i x) y.0)
      (λ j. (sym same j, same_item core.units u p r at (ap (slice_get core.units) (sym same) ∙ h) j))
      (subst (λ (z : Option Cell). HomesFit room (clock core) p (k.board.turn u) (full_at g u) (set s.homes i z) u) is
      (full_moves room (clock core) p (k.board.turn u) (full_at k.board.full u) (full_at g u) s.homes u (k.homes u p at))))
      (λ apart. subst (λ (z : Full). HomesFit room (clock core) r (k.board.turn v) z (set s.homes i x) v) (sym (else_same v apart))
      (else_moves room (clock core) r (k.board.turn v) (full_at k.board.full v) s.homes u v (clock core + 1) x apart (k.homes v r h)))

  full_turned : (seat : ℕ) (a : AdvKnown) (g : FullTurn) → FitsAdvancer k.board k.own seat a
      → FitsView (record { core = k.board.core; turn = k.board.turn; full = g }) k.own seat (advancer_view (record a { turn = g }))
  full_turned seat a g f = record {
    units = tt;
    advancers = (
      record {
        mine = f.mine;
        part = f.part;
        clock_is = f.clock_is;
        durable = f.durable;
        odd = f.odd;
        units = f.units;
        room = f.room;
        list_count = f.list_count;
        lists = f.lists;
        turn = refl;
        learnt = f.learnt;
        clean = f.clean;
      },
      tt,
    );
    callers = tt;
    notes = tt;
  }

pub takes_full : (o : Opening) (slots seat : ℕ) (a : AdvKnown) (c : List (ℕ × Cell)) → a.turn.emptied < a.units
    → a.turn.emptied < passed_of a.units a.part → a.turn.out ≡ false
    → Allows (ShowsCore o) slots seat (advancer_view a, c) 0 (λ n. n) (took_full (step slots 0 0 0 none) (advancer_view a, c))
takes_full o slots seat a c inside may home s k long at small =
    let f = (k.views seat (advancer_view a) at).advancers.0 in
    let core = k.board.core in
    let u : ℕ = a.turn.emptied in
    let units = f.units in
    let one = item_at core.units u (omega arith) in
    let p : UnitPart = one.0 in
    let g : FullTurn = record { emptied = u; out = true } in
    let was : k.board.full ≡ record { emptied = u; out = false } = f.turn ∙ ap (λ (b : Bool). record { emptied = u; out = b }) home in
    let waiting : full_at k.board.full u ≡ Waiting = ap (λ (z : FullTurn). full_at z u) was ∙ full_waits u in
    let passed : HasPassed core u = subst (λ (z : ℕ × AdvPart). u < passed_of z.0 z.1) (λ i. (sym f.units i, sym f.part i)) may in
    let stays_else : (v : ℕ) → v ≢ u → full_at g v ≡ full_at k.board.full v =
    λ v apart. full_out_else u v apart ∙ sym (ap (λ (z : FullTurn). full_at z v) was) in
    let d : Board = record { core = core; turn = k.board.turn; full = g } in
    let room : ℕ = core.layout.slots in
    let low = clock_low _ core k.sound in
    let list : Cell = listing a.room (list_at a.lists u) in
    let place : ℕ = list_place u (a.clock + 1) in
    let rests : unit_home room (clock core - 1) p (k.board.turn u) ≡ some (listing room (unit_list (clock core - 1) p)) =
    unit_home_else room (clock core - 1) p (k.board.turn u)
    (in_passed (clock_of o.words) (clock core) (HasPassed core u) p.stage (omega arith) passed (k.sound.registration u p one.1)) in (
      advancer_view (advancer_took a),
      takes place list,
      (λ i. get_elem? s.homes (list_place u (sym f.clock_is i + 1)))
          ∙ ((k.homes u p one.1).old
          ∙ ((λ i. some (full_home room (waiting i) (unit_home room (clock core - 1) p (k.board.turn u))))
          ∙ (ap (λ (z : Option Cell). some z) rests
          ∙ (λ i. some (some (listing (f.room i) (sym (f.lists u p one.1 passed) i))))))),
      loads o s k seat 0 c (advancer_view (advancer_took a)) (takes place list) d (stays o s k)
          (advancer_moves k.own seat k.board d f.mine refl refl refl refl) refl
          (λ v t. dite (ℕ_discrete v u) (λ (same : v ≡ u). subst (HasPassed core) (sym same) passed)
          (λ apart. k.passed v (subst IsTouched (stays_else v apart) t)))
          (subst (λ (n : ℕ). Homes d (set s.homes (list_place u (n + 1)) none)) f.clock_is
          (turns_full o s k u p g none one.1 stays_else
          (ap (λ (z : Full). full_home room z (unit_home room (clock core - 1) p (k.board.turn u))) (full_out u))))
          (full_turned o s k seat a g f),
      (
        refl,
        subst (λ (z : ℕ × ℕ × List ℕ). All (λ slot. slot < z.0 * z.1) z.2)
            (λ i. ((sym k.sound.sizes.unit_count ∙ f.units) i, f.room i, sym (f.lists u p one.1 passed) i))
            (lists_inside o s k u p one.1 (clock core - 1)),
      ),
    )

pub gives_empty : (o : Opening) (slots seat : ℕ) (a : AdvKnown) (c : List (ℕ × Cell)) → a.turn.emptied < a.units → a.turn.out ≡ true
    → Allows (ShowsCore o) slots seat (advancer_view a, (list_place a.turn.emptied (a.clock + 1), listing a.room []) ∷ c) 0 (λ n. n)
    (gave_empty (step slots 0 0 0 none) (advancer_view a, (list_place a.turn.emptied (a.clock + 1), listing a.room []) ∷ c))
gives_empty o slots seat a c inside away s k long at small =
    let f = (k.views seat (advancer_view a) at).advancers.0 in
    let core = k.board.core in
    let u : ℕ = a.turn.emptied in
    let units = f.units in
    let one = item_at core.units u (omega arith) in
    let p : UnitPart = one.0 in
    let g : FullTurn = record { emptied = u + 1; out = false } in
    let was : k.board.full ≡ record { emptied = u; out = true } = f.turn ∙ ap (λ (b : Bool). record { emptied = u; out = b }) away in
    let out : full_at k.board.full u ≡ Out = ap (λ (z : FullTurn). full_at z u) was ∙ full_out u in
    let stays_else : (v : ℕ) → v ≢ u → full_at g v ≡ full_at k.board.full v =
    λ v apart. full_gave_else u v apart ∙ sym (ap (λ (z : FullTurn). full_at z v) was) in
    let d : Board = record { core = core; turn = k.board.turn; full = g } in
    let room : ℕ = core.layout.slots in
    let me : List (ℕ × Cell) = (list_place u (a.clock + 1), listing a.room []) ∷ c in (
      advancer_view (advancer_gave a),
      gives,
      tt,
      loads o s k seat 0 me (advancer_view (advancer_gave a)) gives d (stays o s k)
          (advancer_moves k.own seat k.board d f.mine refl refl refl refl) refl
          (λ v t. dite (ℕ_discrete v u) (λ (same : v ≡ u). subst (HasPassed core) (sym same) (k.passed u (subst IsTouched (sym out) tt)))
          (λ apart. k.passed v (subst IsTouched (stays_else v apart) t)))
          (subst (λ (z : ℕ × ℕ). Homes d (set s.homes (list_place u (z.0 + 1)) (some (listing z.1 [])))) (λ j. (f.clock_is j, f.room j))
          (turns_full o s k u p g (some (listing room [])) one.1 stays_else
          (ap (λ (z : Full). full_home room z (unit_home room (clock core - 1) p (k.board.turn u))) (full_gave u))))
          (full_turned o s k seat a g f),
      refl,
    )
