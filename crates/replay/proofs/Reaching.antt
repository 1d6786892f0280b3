-- Cores that events reach one after another.
use Rattle.std.proofs.Common.{◌≡◌, ℕ, suc, zero, ◌+◌, ◌<◌, ◌≤◌, List, [], ◌∷◌, ◌++◌, length, take, drop, get_or, Some, slice_get, Option, None, refl, sym, ap, ◌∙◌, subst, arith, add-one}
use Rattle.std.specs.List.{flat_map, enumerate_from}
use Rattle.std.proofs.Math.Seq.{drop-cons}
use Rattle.std.proofs.lemmas.List.{take_more, take_all}
use Rattle.std.proofs.lemmas.List.FromFn.{length-enumerate_from, get_or-enumerate_from}
use Rattle.std.proofs.lemmas.Option.{slice_get-get_or}
use Rattle.mont_base.specs.State.{Run}
use Rattle.core_steps.specs.declared.event.Event.{Event}
use Rattle.core_steps.specs.declared.parts.Core.{Core}
use Rattle.core_steps.specs.Events.{after}
use Rattle.core_steps.specs.CoreRuns.{after_all, AreAllowed}
use Rattle.job_text.specs.Lines.{line_of}
use Rattle.job_text.specs.Runs.{first_run, runs_behind}
use Rattle.job_text.proofs.Written.{written_more}
use Rattle.replay.specs.declared.schedule.Schedule.{Schedule}
use Rattle.replay.specs.EventWords.{has_pairs}
use Rattle.replay.specs.Schedules.{Move, moves, moves_of}
use Rattle.replay.specs.Replays.{MayMake, MayMakeAll, IsAllAllowed, IsFirstNotAllowed, fresh_core, last_core, reached, core_words}
use Rattle.replay.proofs.Moves.{events_in, events_back, moves_long}

-- ---- one event more
after_push : (c : Core) (es : List Event) (e : Event) → after_all c (es ++ e ∷ []) ≡ after (after_all c es) e
after_push c [] e = refl
after_push c (x ∷ es) e = after_push (after c x) es e

reached_long : (c : Core) (es : List Event) → length (reached c es) ≡ length es
reached_long c [] = refl
reached_long c (e ∷ es) = ap suc (reached_long (after c e) es)

reached_at : (c : Core) (es : List Event) (i : ℕ) (d : Core) → i < length es → get_or (reached c es) i d ≡ after_all c (take (suc i) es)
reached_at c [] i d within = absurd (omega arith)
reached_at c (e ∷ es) zero d within = refl
reached_at c (e ∷ es) (suc i) d within = reached_at (after c e) es i d (omega arith)

make_push : (c : Core) (ms : List Move) (m : Move) → MayMakeAll c ms → MayMake (after_all c (events_in ms)) m → MayMakeAll c (ms ++ m ∷ [])
make_push c [] m all may = (may, tt)
make_push c (x ∷ ms) m all may = (all.0, make_push (after c x.0) ms m all.1 may)

events_take : (i : ℕ) (ms : List Move) → events_in (take i ms) ≡ take i (events_in ms)
events_take zero ms = refl
events_take (suc i) [] = refl
events_take (suc i) (m ∷ ms) = ap (λ (es : List Event). m.0 ∷ es) (events_take i ms)

-- where each may be made, each is allowed
all_allowed : (c : Core) (ms : List Move) → MayMakeAll c ms → AreAllowed c (events_in ms)
all_allowed c [] all = tt
all_allowed c (m ∷ ms) all = (all.0.allowed, all_allowed (after c m.0) ms all.1)

pub each_allowed : (s : Schedule) → IsAllAllowed s → AreAllowed (fresh_core s) s.events
each_allowed s all = subst (AreAllowed (fresh_core s)) (events_back s.events s.runs) (all_allowed (fresh_core s) (moves s) all)

-- ---- so many events were made
pub record HasMade (s : Schedule) (i : ℕ) (c : Core) (runs : List Run) : Type 0 where
  pub core : c ≡ after_all (fresh_core s) (take i s.events)
  pub made : MayMakeAll (fresh_core s) (take i (moves s))
  pub left : moves_of (drop i s.events) runs ≡ drop i (moves s)

pub none_made : (s : Schedule) (c : Core) → c ≡ fresh_core s → HasMade s 0 c s.runs
none_made s c fresh = record { core = fresh; made = tt; left = refl }

module _ (s : Schedule) (i : ℕ) (c : Core) (runs : List Run) (h : HasMade s i c runs) (e : Event) (within : i < length s.events)
    (is : e ≡ get_or s.events i e) where
  abbrev pub next : Move
  next = (e, first_run (has_pairs e) runs)

  next_left : moves_of (drop (suc i) s.events) (runs_behind (has_pairs e) runs) ≡ drop (suc i) (moves s)
  next_left =
      let events : drop i s.events ≡ e ∷ drop (suc i) s.events =
      drop-cons s.events i e within ∙ ap (λ (x : Event). x ∷ drop (suc i) s.events) (sym is) in
      let own : next ∷ moves_of (drop (suc i) s.events) (runs_behind (has_pairs e) runs) ≡ drop i (moves s) =
      ap (λ (es : List Event). moves_of es runs) (sym events) ∙ h.left in
      let other = drop-cons (moves s) i next (omega (arith, moves_long s.events s.runs)) in
      cc

  next_is : get_or (moves s) i next ≡ next
  next_is =
      let events : drop i s.events ≡ e ∷ drop (suc i) s.events =
      drop-cons s.events i e within ∙ ap (λ (x : Event). x ∷ drop (suc i) s.events) (sym is) in
      let own : next ∷ moves_of (drop (suc i) s.events) (runs_behind (has_pairs e) runs) ≡ drop i (moves s) =
      ap (λ (es : List Event). moves_of es runs) (sym events) ∙ h.left in
      let other = drop-cons (moves s) i next (omega (arith, moves_long s.events s.runs)) in
      cc

  made_so_far : after_all (fresh_core s) (events_in (take i (moves s))) ≡ c
  made_so_far =
      ap (after_all (fresh_core s)) (events_take i (moves s) ∙ ap (take i) (events_back s.events s.runs)) ∙ sym h.core

  pub one_made : (d : Core) → MayMake c next → d ≡ after c e → HasMade s (i + 1) d (runs_behind (has_pairs e) runs)
  one_made d may made = record {
    core =
        made ∙ ap (λ (x : Core). after x e) h.core ∙ sym (after_push (fresh_core s) (take i s.events) e)
        ∙ ap (λ (es : List Event). after_all (fresh_core s) es)
        (sym (take_more s.events i e within ∙ ap (λ (x : Event). take i s.events ++ x ∷ []) (sym is)));
    made =
        subst (MayMakeAll (fresh_core s))
        (sym (take_more (moves s) i next (omega (arith, moves_long s.events s.runs)) ∙ ap
        (λ (m : Move). take i (moves s) ++ m ∷ []) next_is))
        (make_push (fresh_core s) (take i (moves s)) next h.made (subst (λ (x : Core). MayMake x next) (sym made_so_far) may));
    left =
        subst (λ (n : ℕ). moves_of (drop n s.events) (runs_behind (has_pairs e) runs) ≡ drop n (moves s)) (sym (add-one i)) next_left;
  }

  pub none_allowed : (MayMake c next → ⊥) → (line : ℕ) → line ≡ i + 2 → IsFirstNotAllowed s line
  none_allowed none line at = record {
    place = i;
    counted = at;
    move = next;
    there = slice_get-get_or (moves s) i next (omega (arith, moves_long s.events s.runs)) ∙ ap Some next_is;
    before = h.made;
    not_allowed = λ may. none (subst (λ (x : Core). MayMake x next) (sym h.core) may);
  }

  -- the line of the core that was reached
  pub line_more : (start was now : List ℕ) (d : Core) → d ≡ after c e
      → was ≡ start ++ flat_map (λ (p : ℕ × Core). line_of (core_words p)) (take i (enumerate_from 1 (reached (fresh_core s) s.events)))
      → now ≡ was ++ line_of (core_words (i + 1, d))
      → now ≡ start ++ flat_map (λ (p : ℕ × Core). line_of (core_words p))
      (take (i + 1) (enumerate_from 1 (reached (fresh_core s) s.events)))
  line_more start was now d made before written =
      let cores = reached (fresh_core s) s.events in
      let low : i < length cores = omega (arith, reached_long (fresh_core s) s.events) in
      let events : take (suc i) s.events ≡ take i s.events ++ e ∷ [] =
      ap (λ (n : ℕ). take n s.events) (sym (add-one i)) ∙ take_more s.events i e within
      ∙ ap (λ (x : Event). take i s.events ++ x ∷ []) (sym is) in
      let core : get_or cores i d ≡ d =
      reached_at (fresh_core s) s.events i d within ∙ ap (after_all (fresh_core s)) events
      ∙ after_push (fresh_core s) (take i s.events) e ∙ ap (λ (x : Core). after x e) (sym h.core) ∙ sym made in
      let number : 1 + i ≡ i + 1 = omega arith in
      let item : get_or (enumerate_from 1 cores) i (0, d) ≡ (i + 1, d) =
      get_or-enumerate_from 1 cores i (0, d) low ∙ (λ j. (number j, core j)) in
      written_more (λ (p : ℕ × Core). line_of (core_words p)) (enumerate_from 1 cores) i (0, d) start was now
      (omega (arith, length-enumerate_from 1 cores)) before
      (written ∙ ap (λ (p : ℕ × Core). was ++ line_of (core_words p)) (sym item))

-- all were made
module _ (s : Schedule) (i : ℕ) (c : Core) (runs : List Run) (h : HasMade s i c runs) (past : length s.events ≤ i) where
  pub all_made : IsAllAllowed s
  all_made = subst (MayMakeAll (fresh_core s)) (take_all i (moves s) (omega (arith, moves_long s.events s.runs))) h.made

  pub last_made : c ≡ last_core s
  last_made = h.core ∙ ap (after_all (fresh_core s)) (take_all i s.events past)

  pub lines_past : length (enumerate_from 1 (reached (fresh_core s) s.events)) ≤ i
  lines_past = omega (
    arith,
    past,
    length-enumerate_from 1 (reached (fresh_core s) s.events),
    reached_long (fresh_core s) s.events,
  )

-- no event of a schedule whose events are all allowed isn't
may_at : (c : Core) (ms : List Move) (i : ℕ) (m : Move) → MayMakeAll c ms → slice_get ms i ≡ Some m
    → MayMake (after_all c (take i (events_in ms))) m
may_at c [] i m all at = absurd (let none : ◌≡◌ {A = Option Move} None (Some m) = at in cc)
may_at c (x ∷ ms) zero m all at =
    let same : x ≡ m = (let both : ◌≡◌ {A = Option Move} (Some x) (Some m) = at in cc) in subst (MayMake c) same all.0
may_at c (x ∷ ms) (suc i) m all at = may_at (after c x.0) ms i m all.1 at

pub all_or_none : (s : Schedule) (line : ℕ) → IsAllAllowed s → IsFirstNotAllowed s line → ⊥
all_or_none s line all r =
    r.not_allowed (subst (λ (es : List Event). MayMake (after_all (fresh_core s) (take r.place es)) r.move) (events_back s.events s.runs)
    (may_at (fresh_core s) (moves s) r.place r.move all r.there))
