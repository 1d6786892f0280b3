-- What each step owes the rule that changes a unit's part and a caller's, or a caller's alone.
use Rattle.std.proofs.Common.{◌≡◌, ◌≢◌, ℕ, zero, suc, ◌+◌, ◌-◌, List, [], ◌∷◌, ◌++◌, length, set, take, refl, sym, ap, ◌∙◌, subst, arith, true, false, length-set, length-append}
use Rattle.std.specs.Prelude.{slice_get, slice_index, Option, Some, None, is_none, max, All}
use Rattle.std.proofs.lemmas.List.{take_all}
use Rattle.std.proofs.lemmas.List.Elements.{All-nil, All-cons, All-append}
use Rattle.std.proofs.lemmas.Option.{slice_get_within, slice_get-get_or, same_Some}
use mathlib.Core.Option.{none, some}
use mathlib.Core.Logic.{dite}
use native.Mathlib.Decide.{ℕ_discrete}
use Rattle.atomic_table.specs.Table.{State, keeps, step, Allows, stepped}
use Rattle.mont_base.specs.declared.operation.Entry.{Entry}
use Rattle.mont_base.specs.declared.operation.Op.{Op}
use Rattle.mont_base.specs.declared.operation.Reply.{Reply}
use Rattle.mont_base.specs.declared.record.Held.{Held}
use Rattle.mont_base.specs.Layout.{Shape, units_of}
use Rattle.mont_base.specs.Image.{clock_of}
use Rattle.core_steps.specs.declared.event.Event.TheVariants as events
use Rattle.core_steps.specs.declared.parts.CallerPart.{CallerPart}
use Rattle.core_steps.specs.declared.parts.Core.{Core}
use Rattle.core_steps.specs.declared.parts.Part.TheVariants as parts
use Rattle.core_steps.specs.declared.parts.UnitPart.{UnitPart}
use Rattle.core_steps.specs.declared.parts.UnitStage.{UnitStage}
use Rattle.core_steps.specs.declared.parts.UnitStage.TheVariants.{Idle, Told, Within, Closing}
use Rattle.core_steps.specs.Places.{RowHas, on_row}
use Rattle.core_steps.specs.CallerClauses.{view_of}
use Rattle.core_steps.specs.Clock.{clock, durable_clock}
use Rattle.core_steps.specs.Stages.{is_within, is_announced, epoch_of}
use Rattle.core_steps.specs.Announcing.{can_freeze, made_odd, after_freeze, caller_after_freeze, freeze}
use Rattle.core_steps.specs.CallAnswers.{CanLeave, CanRead, entry_of, after_answer, after_leave, after_read, leave, read}
use Rattle.core_steps.specs.Closing.{after_see_durable, see_durable}
use Rattle.core_steps.specs.Flushing.{unit_list}
use Rattle.core_steps.specs.Notes.{moment_of, left_within, histories_of}
use Rattle.core_steps.specs.Sound.{StageFits, announcement}
use Rattle.core_steps.proofs.CallerFrames.{histories_set, left_row}
use Rattle.core_steps.proofs.RoleFacts.{written_epochs}
use Rattle.core_steps.proofs.RowFacts.{row_from}
use Rattle.core_steps.proofs.Rows.{row_here, row_else}
use Rattle.core_steps.proofs.UnitLists.{listed_else, listed_there}
use Rattle.heap_rule.specs.declared.rule.Opening.{Opening}
use Rattle.heap_rule.specs.declared.views.CallerKnown.{CallerKnown}
use Rattle.heap_rule.specs.declared.views.LeftWithin.{LeftWithin}
use Rattle.heap_rule.specs.declared.views.UnitKnown.{UnitKnown}
use Rattle.heap_rule.specs.declared.views.UnitTurn.{UnitTurn}
use Rattle.heap_rule.specs.declared.views.View.{View}
use Rattle.heap_rule.specs.Views.{Cell, listing, home_turn, caller_view, pair_view, are_clean, slots_written, odd_announcement, left_at, unit_left, unit_read, unit_frozen, caller_answered, caller_saw, caller_cut}
use Rattle.heap_rule.specs.TableWords.{laid_out, durable_place, announcement_place}
use Rattle.heap_rule.specs.HomeLists.{turn_home, unit_home}
use Rattle.heap_rule.specs.Rule.{Board, HasPassed, Homes, Passed, IsLeft, AreLeft, seen_in, FitsUnit, FitsCaller, FitsView, ShowsCore}
use Rattle.heap_rule.specs.SoundUnits.{IsSoundUnit}
use Rattle.heap_rule.specs.Plays.{answer_of, left, read as was_read, frozen, saw_durable}
use Rattle.heap_rule.proofs.HomeSlots.{unit_home_in, in_other, unit_home_else}
use Rattle.heap_rule.proofs.Growing.{Sweeps, sweeps_itself, clean_still, learnt_still, left_still, entries_still}
use Rattle.heap_rule.proofs.RuleFrames.{Reached, goes, stays, Moves, steps, loads, one_given, given_hit, given_miss}
use Rattle.heap_rule.proofs.RunFacts.{unit_sound}
use Rattle.heap_rule.proofs.CoreFacts.{at_row, none_clean, none_announced, clock_low, is_clock, is_durable, stores_announced, not_beyond, found_clock, found_durable_clock}
use Rattle.heap_rule.proofs.UnitPlays.{IsOwnStep, sweeps_one, own_moves, own_homes, own_passed}

-- ---- a caller that is answered has seen the whole history
pub seen_set : (fronts : List ℕ) (hs : List (List Entry)) (u n : ℕ) (h : List Entry) → length h ≡ n
    → seen_in (set fronts u n) (set hs u h) ≡ set (seen_in fronts hs) u h
seen_set [] hs u n h e = refl
seen_set (m ∷ ms) [] zero n h e = refl
seen_set (m ∷ ms) [] (suc u) n h e = refl
seen_set (m ∷ ms) (g ∷ gs) zero n h e = λ i. take_all n h (omega arith) i ∷ seen_in ms gs
seen_set (m ∷ ms) (g ∷ gs) (suc u) n h e = λ i. take m g ∷ seen_set ms gs u n h e i

-- ---- a unit's part and turn and a caller's part change
module _ (o : Opening) (s : State Cell View) (k : ShowsCore o s) (seat : ℕ) (h : UnitKnown) (q : CallerKnown)
    (f : FitsUnit k.board k.own seat h) (g : FitsCaller k.board k.own seat q) where
  abbrev pair_board : Core → UnitTurn → Board
  pair_board d w = record { core = d; turn = one_given k.board.turn h.unit w; full = k.board.full }

  -- what the list at home becomes
  abbrev HomeStays : UnitPart → UnitTurn → ℕ → Type 0
  HomeStays p w x = unit_home k.board.core.layout.slots x p w ≡ unit_home k.board.core.layout.slots x h.part (k.board.turn h.unit)

  record PairOwed (d : Core) (w : UnitTurn) (v : View) : Type 0 where
    moves : Moves k.own (λ j. j ≡ seat) k.board (pair_board d w)
    passed : Passed (pair_board d w)
    homes : Homes (pair_board d w) s.homes
    fits : FitsView (pair_board d w) k.own seat v

  pair_owes : (p : UnitPart) (w : UnitTurn) (n l : ℕ) (r : CallerPart) (entries : List (List Entry)) (within : List LeftWithin) (d : Core)
      → Reached o k.states k.board.core d → IsOwnStep k.board.core d h.unit h.part p → d.callers ≡ set k.board.core.callers q.caller r
      → HomeStays p w (clock k.board.core) → HomeStays p w (clock k.board.core - 1)
      → entries ≡ seen_in r.fronts (histories_of d.units) → AreLeft d.units within
      → PairOwed d w (pair_view (record h { part = p; turn = w; steps = n; loaded = l })
      (record q { part = r; entries = entries; within = within }))
  pair_owes p w n l r entries within d y is callers young old seen left =
      let given = given_hit k.board.turn h.unit w in
      let room : ℕ = k.board.core.layout.slots in
      let sweeps = subst (Sweeps k.board.core.units) (sym is.units) (sweeps_one k.board.core.units h.unit h.part p f.part is.lost) in
      record {
        moves = own_moves k.own (λ j. j ≡ seat) k.board (pair_board d w) h.unit h.part p f.mine f.part is
            (λ v off. given_miss k.board.turn h.unit w v off) refl
            (λ i off. ap (λ (cs : List CallerPart). slice_get cs i) callers
            ∙ row_else k.board.core.callers q.caller i r (λ e. off (ap k.own.caller e ∙ g.mine)))
            (ap length callers ∙ length-set k.board.core.callers q.caller r);
        passed = own_passed k.board (pair_board d w) h.unit h.part p is refl k.passed;
        homes = own_homes k.board (pair_board d w) s.homes h.unit h.part p f.part is
            (λ v off. given_miss k.board.turn h.unit w v off) refl
            (ap (unit_home room (clock k.board.core) p) given ∙ young)
            (ap (unit_home room (clock k.board.core - 1) p) given ∙ old) k.homes;
        fits = record {
          units = (
            record {
              mine = f.mine;
              part = ap (λ (us : List UnitPart). slice_get us h.unit) is.units ∙ row_here k.board.core.units h.unit p h.part f.part;
              turn = given;
              room = ap (λ s. s.slots) is.layout ∙ f.room;
              learnt = learnt_still k.board.core d h.learnt y.grows f.learnt;
              clean = clean_still k.board.core.units d.units h.clean sweeps f.clean;
            },
            tt,
          );
          advancers = tt;
          callers = (
            record {
              mine = g.mine;
              part = ap (λ (cs : List CallerPart). slice_get cs q.caller) callers ∙ row_here k.board.core.callers q.caller r q.part g.part;
              entries = seen;
              left = left;
              clean = clean_still k.board.core.units d.units q.clean sweeps g.clean;
            },
            tt,
          );
          notes = tt;
        };
      }

  -- what it has seen once it was answered
  answered_entries : (p : UnitPart) (e : Entry) → p.history ≡ h.part.history ++ e ∷ []
      → set q.entries h.unit (h.part.history ++ e ∷ [])
      ≡ seen_in (after_answer q.part h.unit (length h.part.history) e).fronts (histories_of (set k.board.core.units h.unit p))
  answered_entries p e is =
      ap (λ (es : List (List Entry)). set es h.unit (h.part.history ++ e ∷ [])) g.entries
      ∙ (sym (seen_set q.part.fronts (histories_of k.board.core.units) h.unit (length h.part.history + 1) (h.part.history ++ e ∷ [])
      (length-append h.part.history (e ∷ [])))
      ∙ (λ i. seen_in (set q.part.fronts h.unit (length h.part.history + 1))
      ((ap (set (histories_of k.board.core.units) h.unit) (sym is) ∙ sym (histories_set k.board.core.units h.unit p)) i)))

-- ---- Leave
-- leaving changes no list at home, where all written slots were pushed
home_left : (r x epoch : ℕ) (p : UnitPart) (e : Entry) (t : UnitTurn) → p.stage ≡ Within epoch
    → All (λ (w : Held). w.label.epoch ≡ epoch) p.written → t ≡ record { out = false; pushed = slots_written p }
    → unit_home r x (after_leave p e) home_turn ≡ unit_home r x p t
home_left r x epoch p e t stage epochs given =
    let within : is_within p.stage ≡ true = ap is_within stage in
    let own : epoch_of p.stage ≡ epoch = ap epoch_of stage in
    dite (ℕ_discrete x epoch)
    (λ (same : x ≡ epoch).
    ap (λ (l : List ℕ). some (listing r l)) (ap (λ (y : ℕ). unit_list y (after_leave p e)) same ∙ listed_there epoch p e epochs)
    ∙ ((λ i. some (listing r (unit_list (sym own i) p ++ slots_written p)))
    ∙ (ap (λ (w : UnitTurn). turn_home r w (unit_list (epoch_of p.stage) p)) (sym given)
    ∙ sym (unit_home_in r x p t within (own ∙ sym same)))))
    (λ (apart : x ≢ epoch).
    ap (λ (l : List ℕ). some (listing r l)) (listed_else x epoch p e epochs apart)
    ∙ sym (unit_home_else r x p t (in_other p.stage x within (λ z. apart (sym z ∙ own)))))

pub leaves : (o : Opening) (slots seat : ℕ) (h : UnitKnown) (q : CallerKnown) (c : List (ℕ × Cell)) (op : Op) (reply : Reply)
    → CanLeave o.layout h.unit h.part q.part op reply (epoch_of h.part.stage)
    → h.turn ≡ record { out = false; pushed = slots_written h.part }
    → Allows (ShowsCore o) slots seat (pair_view h q, c) (announcement_place o.layout h.unit) (λ _. 0)
    (λ _ m. left o op reply (step slots (announcement_place o.layout h.unit) 0 0 none) (pair_view h q, c) 0 m)
leaves o slots seat h q c op reply may given s k long at small =
    let view = k.views seat (pair_view h q) at in
    let f = view.units.0 in
    let g = view.callers.0 in
    let core = k.board.core in
    let epoch : ℕ = epoch_of h.part.stage in
    let e : Entry = answer_of q op reply epoch in
    let p : UnitPart = after_leave h.part e in
    let d : Core = leave core h.unit h.part q.caller q.part e in
    let can = subst (λ (l : Shape). CanLeave l h.unit h.part q.part op reply epoch) (sym k.layout) may in
    let epochs = written_epochs core.layout (clock core) core.cur core.dur core.units h.unit h.part k.sound.slots f.part epoch
    may.stage in
    let registered = k.sound.registration h.unit h.part f.part in
    let is : IsOwnStep core d h.unit h.part p = record {
      units = refl;
      advancer = refl;
      odd = refl;
      layout = refl;
      clock_is = refl;
      durable = refl;
      lost = λ e. e;
      old_list = λ passed.
          let same = within_now (clock_of o.words) (clock core) (HasPassed core h.unit) h.part.stage epoch may.stage registered passed in
          let low = clock_low _ core k.sound in
          listed_else (clock core - 1) epoch h.part e epochs (λ z. omega arith);
    } in
    let y : Reached o k.states core d = goes o s k d (events.Leave h.unit q.caller op reply) (
      none_announced core.units core.advancer h.unit h.part k.sound.lost f.part (ap is_announced may.stage),
      row_from (λ (p : UnitPart). RowHas (slice_get core.callers q.caller) (λ (r : CallerPart). CanLeave core.layout h.unit p r op reply
          (epoch_of p.stage)))
          (slice_get core.units h.unit) h.part f.part
          (row_from (λ (r : CallerPart). CanLeave core.layout h.unit h.part r op reply epoch)
          (slice_get core.callers q.caller) q.part g.part can),
    )
    (at_row core.callers q.caller q.part core (λ (r : CallerPart). leave core h.unit h.part q.caller r
    (entry_of q.caller r op reply epoch)) g.part
    ∙ at_row core.units h.unit h.part core (λ (p : UnitPart). on_row (slice_get core.callers q.caller) core
    (λ (r : CallerPart). leave core h.unit p q.caller r (entry_of q.caller r op reply (epoch_of p.stage)))) f.part) in
    let home : (x : ℕ) → HomeStays o s k seat h q f g p home_turn x =
    λ (x : ℕ). home_left core.layout.slots x epoch h.part e (k.board.turn h.unit) may.stage epochs (f.turn ∙ given) in
    let owed = pair_owes o s k seat h q f g p home_turn (h.steps + 1) h.loaded (after_answer q.part h.unit (length h.part.history) e)
    (set q.entries h.unit (h.part.history ++ e ∷ [])) q.within d y is refl (home (clock core)) (home (clock core - 1))
    (answered_entries o s k seat h q f g p e refl) (left_still core d q.within y.grows g.left) in (
      pair_view (unit_left h e) (caller_answered q h e),
      keeps,
      tt,
      steps o s k seat (announcement_place o.layout h.unit) 0 c (pair_view (unit_left h e) (caller_answered q h e)) keeps
          (pair_board o s k seat h q f g d home_turn) y owed.moves (stores_announced o s k h.unit 0) owed.passed owed.homes owed.fits,
      (
        refl,
        not_beyond o s k h q f.part g.part g.entries,
        (clock core, durable_clock core, unit_sound o s k core (stays o s k) refl h f.part f.clean),
        (
          clock core,
          durable_clock core,
          unit_sound o s k d y refl (unit_left h e) (row_here core.units h.unit p h.part f.part) owed.fits.units.0.clean,
        ),
      ),
    )
  where
    within_now : (b now : ℕ) (passed : Type 0) (stage : UnitStage) (x : ℕ) → stage ≡ Within x
        → StageFits b now passed stage → passed → x ≡ now
    within_now b now passed stage x is fits before =
        let r = subst (StageFits b now passed) is fits in r.same before

-- ---- Read
pub reads : (o : Opening) (slots seat : ℕ) (h : UnitKnown) (q : CallerKnown) (c : List (ℕ × Cell)) (op : Op) (reply : Reply)
    → CanRead o.layout h.unit h.part q.part op reply → are_clean (units_of o.layout) h.clean ≡ true
    → Allows (ShowsCore o) slots seat (pair_view h q, c) 0 (λ n. n) (was_read o op reply (step slots 0 0 0 none) (pair_view h q, c))
reads o slots seat h q c op reply may clean s k long at small =
    let view = k.views seat (pair_view h q) at in
    let f = view.units.0 in
    let g = view.callers.0 in
    let core = k.board.core in
    let x : ℕ = slice_index s.words 0 in
    let found = found_clock o s k in
    let e : Entry = answer_of q op reply (clock core) in
    let p : UnitPart = after_read h.part e in
    let d : Core = read core h.unit h.part q.caller q.part e in
    let can = subst (λ (l : Shape). CanRead l h.unit h.part q.part op reply) (sym k.layout) may in
    let is : IsOwnStep core d h.unit h.part p = record {
      units = refl;
      advancer = refl;
      odd = refl;
      layout = refl;
      clock_is = refl;
      durable = refl;
      lost = λ e. e;
      old_list = λ _. refl;
    } in
    let y : Reached o k.states core d = goes o s k d (events.Read h.unit q.caller op reply) (
      none_clean o s k h.clean f.clean clean,
      row_from (λ (p : UnitPart). RowHas (slice_get core.callers q.caller) (λ (r : CallerPart). CanRead core.layout h.unit p r op reply))
          (slice_get core.units h.unit) h.part f.part
          (row_from (λ (r : CallerPart). CanRead core.layout h.unit h.part r op reply) (slice_get core.callers q.caller) q.part g.part can),
    )
    (at_row core.callers q.caller q.part core (λ (r : CallerPart). read core h.unit h.part q.caller r (entry_of q.caller r op reply
    (clock core))) g.part
    ∙ at_row core.units h.unit h.part core (λ (p : UnitPart). on_row (slice_get core.callers q.caller) core
    (λ (r : CallerPart). read core h.unit p q.caller r (entry_of q.caller r op reply (clock core)))) f.part) in
    let home : (z : ℕ) → HomeStays o s k seat h q f g p h.turn z =
    λ (z : ℕ). ap (unit_home core.layout.slots z h.part) (sym f.turn) in
    let owed = pair_owes o s k seat h q f g p h.turn (h.steps + 1) x (after_answer q.part h.unit (length h.part.history) e)
    (set q.entries h.unit (h.part.history ++ e ∷ [])) q.within d y is refl (home (clock core)) (home (clock core - 1))
    (answered_entries o s k seat h q f g p e refl) (left_still core d q.within y.grows g.left) in
    let caller = k.sound.callers.each q.caller q.part g.part in
    let reached = caller.reached in
    let durable = k.sound.clocks.of_callers q.caller q.part g.part in
    let newest = f.learnt.newest in
    let known = f.learnt.durable in (
      pair_view (unit_read h x (answer_of q op reply x)) (caller_answered q h (answer_of q op reply x)),
      keeps,
      tt,
      subst (λ (z : ℕ). ShowsCore o (stepped s 0 x seat c
          (pair_view (unit_read h x (answer_of q op reply z)) (caller_answered q h (answer_of q op reply z))) keeps)) (sym found)
          (loads o s k seat 0 c (pair_view (unit_read h x e) (caller_answered q h e)) keeps
          (pair_board o s k seat h q f g d h.turn) y owed.moves refl owed.passed owed.homes owed.fits),
      (
        refl,
        not_beyond o s k h q f.part g.part g.entries,
        is_clock _ core k.sound
            (record { newest = max h.learnt.newest q.part.newest; durable = max h.learnt.durable q.part.durable }) h.unit h.part x
            (record { newest = omega arith; durable = omega arith }) f.part found,
        (clock core, durable_clock core, unit_sound o s k core (stays o s k) refl h f.part f.clean),
        (
          durable_clock core,
          subst (λ (z : ℕ). IsSoundUnit o z (durable_clock core) (unit_read h z (answer_of q op reply z))) (sym found)
              (unit_sound o s k d y refl (unit_read h (clock core) e) (row_here core.units h.unit p h.part f.part)
              owed.fits.units.0.clean),
        ),
      ),
    )

-- ---- Freeze
none_from : (o : Option ℕ) → is_none o ≡ true → o ≡ None
none_from None e = refl
none_from (Some j) e = absurd (cc)

odd_made : (stage : UnitStage) (word : ℕ) → word ≡ announcement stage None → made_odd stage word ≡ odd_announcement stage
odd_made Idle word e = e
odd_made (Told x) word e = omega arith
odd_made (Within x) word e = omega arith
odd_made (Closing slot) word e = e

-- the unit is left where it is
left_by_cut : (units : List UnitPart) (u k : ℕ) (p : UnitPart) → slice_get units u ≡ Some p → p.frozen ≡ Some k
    → AreLeft units (left_at u p.stage)
left_by_cut units u k p at cut = by p.stage refl
  where
    by : (stage : UnitStage) → p.stage ≡ stage → AreLeft units (left_at u stage)
    by Idle is = All-nil (IsLeft units)
    by (Told x) is = All-nil (IsLeft units)
    by (Within x) is = All-cons (IsLeft units) (record { unit = u; epoch = x }) []
        (left_row units u p at ∙ (λ i. Some (left_within (cut i) (is i)))) (All-nil (IsLeft units))
    by (Closing slot) is = All-nil (IsLeft units)

pub freezes : (o : Opening) (slots seat : ℕ) (h : UnitKnown) (q : CallerKnown) (c : List (ℕ × Cell)) (value : ℕ) → can_freeze h.part ≡ true
    → are_clean (units_of o.layout) h.clean ≡ true → value ≡ odd_announcement h.part.stage
    → Allows (ShowsCore o) slots seat (pair_view h q, c) (announcement_place o.layout h.unit) (λ _. value)
    (λ _ m. frozen (step slots (announcement_place o.layout h.unit) value 0 none) (pair_view h q, c) value m)
freezes o slots seat h q c value may clean odd s k long at small =
    let view = k.views seat (pair_view h q) at in
    let f = view.units.0 in
    let g = view.callers.0 in
    let core = k.board.core in
    let p : UnitPart = after_freeze h.part q.caller in
    let d : Core = freeze core h.unit h.part q.caller q.part in
    let is : IsOwnStep core d h.unit h.part p = record {
      units = refl;
      advancer = refl;
      odd = refl;
      layout = refl;
      clock_is = refl;
      durable = refl;
      lost = λ e. e;
      old_list = λ _. refl;
    } in
    let y : Reached o k.states core d = goes o s k d (events.Freeze h.unit q.caller) (
      none_clean o s k h.clean f.clean clean,
      row_from (λ (p : UnitPart). RowHas (slice_get core.callers q.caller) (λ (r : CallerPart). can_freeze p ≡ true))
          (slice_get core.units h.unit) h.part f.part
          (row_from (λ (r : CallerPart). can_freeze h.part ≡ true) (slice_get core.callers q.caller) q.part g.part may),
    )
    (at_row core.callers q.caller q.part core (λ (r : CallerPart). freeze core h.unit h.part q.caller r) g.part
    ∙ at_row core.units h.unit h.part core (λ (p : UnitPart). on_row (slice_get core.callers q.caller) core
    (λ (r : CallerPart). freeze core h.unit p q.caller r)) f.part) in
    let home : (z : ℕ) → HomeStays o s k seat h q f g p h.turn z =
    λ (z : ℕ). ap (unit_home core.layout.slots z h.part) (sym f.turn) in
    let fits = (k.sound.callers.each q.caller q.part g.part).seen in
    let owed = pair_owes o s k seat h q f g p h.turn (h.steps + 1) h.loaded (caller_after_freeze q.part h.unit) q.entries
    (q.within ++ left_at h.unit h.part.stage) d y is refl (home (clock core)) (home (clock core - 1))
    (entries_still (moment_of core) (moment_of d) (view_of q.part) q.entries y.grows fits g.entries)
    (All-append (IsLeft d.units) q.within (left_at h.unit h.part.stage) (left_still core d q.within y.grows g.left)
    (left_by_cut d.units h.unit q.caller p (row_here core.units h.unit p h.part f.part) refl)) in
    let told = k.sound.announcements.as_many in
    let within = slice_get_within core.units h.unit h.part f.part in
    let there : slice_index core.told h.unit ≡ announcement h.part.stage h.part.frozen =
    same_Some _ _ (sym (slice_get-get_or core.told h.unit 0 (omega arith)) ∙ k.sound.announcements.each h.unit h.part f.part) in
    let word : value ≡ made_odd h.part.stage (slice_index core.told h.unit) =
    odd ∙ sym (odd_made h.part.stage (slice_index core.told h.unit) (there
    ∙ ap (announcement h.part.stage) (none_from h.part.frozen may))) in (
      pair_view (unit_frozen h q.caller) (caller_cut q h),
      keeps,
      tt,
      steps o s k seat (announcement_place o.layout h.unit) value c (pair_view (unit_frozen h q.caller) (caller_cut q h)) keeps
          (pair_board o s k seat h q f g d h.turn) y owed.moves
          (stores_announced o s k h.unit value ∙ ap (λ (z : ℕ). laid_out core.cur core.dur (set core.told h.unit z)) word)
          owed.passed owed.homes owed.fits,
      refl,
    )

-- ---- a caller loads the durable clock
pub sees_durable : (o : Opening) (slots seat : ℕ) (q : CallerKnown) (c : List (ℕ × Cell))
    → Allows (ShowsCore o) slots seat (caller_view q, c) (durable_place o.layout 0) (λ n. n)
    (saw_durable (step slots (durable_place o.layout 0) 0 0 none) (caller_view q, c))
sees_durable o slots seat q c s k long at small =
    let g = (k.views seat (caller_view q) at).callers.0 in
    let core = k.board.core in
    let i : ℕ = durable_place o.layout 0 in
    let x : ℕ = slice_index s.words i in
    let found = found_durable_clock o s k in
    let r : CallerPart = after_see_durable q.part (durable_clock core) in
    let d : Core = see_durable core q.caller q.part in
    let b : Board = record { core = d; turn = k.board.turn; full = k.board.full } in
    let y : Reached o k.states core d = goes o s k d (events.LoadDurable (parts.Caller q.caller))
    (row_from (λ (r : CallerPart). Unit {0}) (slice_get core.callers q.caller) q.part g.part tt)
    (at_row core.callers q.caller q.part core (λ (r : CallerPart). see_durable core q.caller r) g.part) in
    let moves : Moves k.own (λ j. j ≡ seat) k.board b = record {
      units = λ u off. (refl, refl);
      advancer = λ off. record {
        part = refl;
        clock_is = refl;
        durable = refl;
        odd = refl;
        full = refl;
        lists = λ u t at passed. (t, at, refl);
      };
      callers = λ j off. row_else core.callers q.caller j r (λ e. off (ap k.own.caller e ∙ g.mine));
      count = refl;
      caller_count = length-set core.callers q.caller r;
      layout = refl;
      sweeps = sweeps_itself core.units;
    } in (
      caller_view (caller_saw q x),
      keeps,
      tt,
      subst (λ (z : ℕ). ShowsCore o (stepped s i x seat c
          (caller_view (record q { part = after_see_durable q.part z; steps = q.steps + 1; loaded = x })) keeps)) (sym found)
          (loads o s k seat i c (caller_view (record q { part = r; steps = q.steps + 1; loaded = x })) keeps b y moves refl k.passed
          k.homes
          (record {
            units = tt;
            advancers = tt;
            callers = (
              record {
                mine = g.mine;
                part = row_here core.callers q.caller r q.part g.part;
                entries = g.entries;
                left = g.left;
                clean = g.clean;
              },
              tt,
            );
            notes = tt;
          })),
      (refl, is_durable _ core k.sound q.part.durable x (k.sound.clocks.of_callers q.caller q.part g.part) found),
    )
