-- The states kept beside a core are those to which its histories lead, and judge its reads.
use Rattle.std.proofs.Common.{◌≡◌, ℕ, Bool, true, false, suc, zero, ◌+◌, Option, Some, None, List, [], ◌∷◌, ◌++◌, length, map, slice_get, replicate, MatchOption, refl, sym, ap, ◌∙◌, subst, arith}
use Rattle.std.specs.Prelude.{slice_set, option_map, unwrap_or}
use Rattle.std.specs.List.{enumerate_from}
use Rattle.std.proofs.lemmas.List.{map-set, length-map}
use Rattle.std.proofs.lemmas.Option.{slice_get-map}
use Rattle.mont_base.specs.declared.operation.Entry.{Entry}
use Rattle.mont_base.specs.declared.operation.Op.{Op}
use Rattle.mont_base.specs.declared.operation.Reply.{Reply}
use Rattle.mont_base.specs.Layout.{Shape, IsLayout}
use Rattle.mont_base.specs.Image.{empty_states}
use Rattle.core_steps.specs.Fresh.{fresh, fresh_unit}
use Rattle.core_steps.proofs.Steps.{allowed_law}
use Rattle.core_steps.proofs.StartLaws.{fresh_cores_are_sound}
use Rattle.mont_base.specs.State.{State, QueueOf, Run, empty_state, step, run_of}
use Rattle.mont_base.specs.History.{state_after}
use Rattle.mont_laws.specs.Effects.{IsOpOf}
use Rattle.mont_laws.specs.Structures.{HasStructure}
use Rattle.core_steps.specs.declared.event.Event.{Event}
use Rattle.core_steps.specs.declared.event.Event.TheVariants as events
use Rattle.core_steps.specs.declared.parts.Core.{Core}
use Rattle.core_steps.specs.declared.parts.UnitPart.{UnitPart}
use Rattle.core_steps.specs.declared.parts.CallerPart.{CallerPart}
use Rattle.core_steps.specs.Places.{RowHas, on_row}
use Rattle.core_steps.specs.Stages.{epoch_of, limit_of}
use Rattle.core_steps.specs.Clock.{clock, durable_clock}
use Rattle.core_steps.specs.Notes.{histories_of}
use Rattle.core_steps.specs.CallAnswers.{CanRead, entry_of, leave, read, after_leave, after_read}
use Rattle.core_steps.specs.Events.{OfUnit, OfCaller, AreNoneLost, IsAllowed, after}
use Rattle.core_steps.specs.Sound.{IsSound, base_state}
use Rattle.core_steps.proofs.UnitAnswers.{shown_whole, judged_state}
use Rattle.core_answer.specs.Answering.{IsReadyToRead}
use Rattle.replay.specs.Replays.{nothing, unit_state, state_of_history, unit_states}
use Rattle.std.specs.Bool.{OnTrue, OnFalse}
use Rattle.plain.specs.declared.unit_state.UnitState.{UnitState}
use Rattle.plain.specs.States.{state_of}
use Rattle.replay.proofs.StatesKept.{IsQuiet, quiet_kept}
use Rattle.replay.proofs.RecoveredMemories.{layout_kept, numbered_state}

-- ---- numbered lists with an item replaced
numbered_set : {X Y : Type 0} (f : ℕ × X → Y) (k : ℕ) (xs : List X) (u : ℕ) (x : X)
    → map f (enumerate_from k (slice_set xs u x)) ≡ slice_set (map f (enumerate_from k xs)) u (f (k + u, x))
numbered_set f k [] u x = refl
numbered_set {X} {Y} f k (y ∷ ys) zero x =
    let number : k ≡ k + 0 = omega arith in
    ap (λ (n : ℕ). f (n, x) ∷ map f (enumerate_from (k + 1) ys)) number
numbered_set f k (y ∷ ys) (suc u) x =
    let number : k + 1 + u ≡ k + suc u = omega arith in
    ap (λ zs. f (k, y) ∷ zs) (numbered_set f (k + 1) ys u x)
    ∙ ap (λ (n : ℕ). f (k, y) ∷ slice_set (map f (enumerate_from (k + 1) ys)) u (f (n, x))) number

-- ---- one entry more
after_entry : (s : State) (h : List Entry) (e : Entry) → state_after s (h ++ e ∷ []) ≡ (step (state_after s h) e.op).state
after_entry s [] e = refl
after_entry s (g ∷ h) e = after_entry (step s g.op).state h e

entry_set : (us : List UnitPart) (u : ℕ) (p : UnitPart) → histories_of (slice_set us u p) ≡ slice_set (histories_of us) u p.history
entry_set us u p = map-set (λ (x : UnitPart). x.history) us u p

pub row_of : {A : Type 0} (o : Option A) (P : A → Type 0) → RowHas o P → (x : A) × (o ≡ Some x) × P x
row_of None P h = absurd h
row_of (Some x) P h = (x, refl, h)

-- ---- the state of one unit
module _ (c : Core) where
  pub state_there : (u : ℕ) (p : UnitPart) → slice_get c.units u ≡ Some p → slice_get (unit_states c) u ≡ Some (unit_state c u p)
  state_there u p at =
      let number : 0 + u ≡ u = omega arith in
      by 0 (histories_of c.units) u (slice_get-map (λ (x : UnitPart). x.history) c.units u ∙ ap
      (option_map (λ (x : UnitPart). x.history)) at)
      ∙ ap (λ (n : ℕ). Some (state_of_history c.layout (n, p.history))) number
    where
      by : (k : ℕ) (hs : List (List Entry)) (n : ℕ) → slice_get hs n ≡ Some p.history
          → slice_get (map (state_of_history c.layout) (enumerate_from k hs)) n ≡ Some (state_of_history c.layout (k + n, p.history))
      by k [] n e = absurd (let none : ◌≡◌ {A = Option (List Entry)} None (Some p.history) = e in cc)
      by k (h ∷ hs) zero e =
          let same : h ≡ p.history = (let both : ◌≡◌ {A = Option (List Entry)} (Some h) (Some p.history) = e in cc) in
          let number : k ≡ k + 0 = omega arith in
          λ i. Some (state_of_history c.layout (number i, same i))
      by k (h ∷ hs) (suc n) e =
          let number : k + 1 + n ≡ k + suc n = omega arith in
          by (k + 1) hs n e ∙ ap (λ (m : ℕ). Some (state_of_history c.layout (m, p.history))) number

  pub state_at : (u : ℕ) (x : State) → slice_get (unit_states c) u ≡ Some x
      → (p : UnitPart) × (slice_get c.units u ≡ Some p) × (x ≡ unit_state c u p)
  state_at u x at = by (slice_get c.units u) refl
    where
      by : (o : Option UnitPart) → slice_get c.units u ≡ o → (p : UnitPart) × (slice_get c.units u ≡ Some p) × (x ≡ unit_state c u p)
      by (Some p) e =
          let both : ◌≡◌ {A = Option State} (Some x) (Some (unit_state c u p)) = sym at ∙ state_there u p e in
          (p, e, (let same : x ≡ unit_state c u p = cc in same))
      by None e =
          let own = numbered_state (state_of_history c.layout) 0 (histories_of c.units) u x at in
          let none : ◌≡◌ {A = Option (List Entry)} None (Some own.0) =
          sym (slice_get-map (λ (q : UnitPart). q.history) c.units u ∙ ap (option_map (λ (q : UnitPart). q.history)) e) ∙ own.1 in
          absurd (cc)

-- ---- states in memory
module _ (c : Core) (states : List UnitState) (own : map state_of states ≡ unit_states c) (u : ℕ) where
  pub none_there : slice_get states u ≡ None → (P : UnitPart → Type 0) → OfUnit c u P → ⊥
  none_there none P h =
      let p = row_of (slice_get c.units u) P h in
      let both : ◌≡◌ {A = Option State} None (Some (unit_state c u p.0)) =
      sym (slice_get-map state_of states u ∙ ap (option_map state_of) none) ∙ ap (λ (xs : List State). slice_get xs u) own
      ∙ state_there c u p.0 p.1 in
      absurd (cc)

  pub some_there : (x : UnitState) → slice_get states u ≡ Some x → slice_get (unit_states c) u ≡ Some (state_of x)
  some_there x at =
      sym (ap (λ (xs : List State). slice_get xs u) own) ∙ slice_get-map state_of states u ∙ ap (option_map state_of) at

  -- a run is that of the unit's state
  module _ (x : UnitState) (at : slice_get states u ≡ Some x) (o : Op) (run : Run) where
    pub run_yes : (b : Bool) → (b ≡ true → run_of (state_of x) o ≡ Some run)
        → OnTrue b (OfUnit c u (λ p. run_of (unit_state c u p) o ≡ Some run))
    run_yes false tells = tt
    run_yes true tells =
        let there = state_at c u (state_of x) (some_there x at) in
        subst (λ (row : Option UnitPart). RowHas row (λ p. run_of (unit_state c u p) o ≡ Some run)) (sym there.1)
        (ap (λ (s : State). run_of s o) (sym there.2) ∙ tells refl)

    pub run_no : (b : Bool) → (run_of (state_of x) o ≡ Some run → b ≡ true)
        → OnFalse b (IsOpOf c.layout u o → OfUnit c u (λ p. run_of (unit_state c u p) o ≡ Some run) → ⊥)
    run_no true tells = tt
    run_no false tells = λ of h.
        let there = state_at c u (state_of x) (some_there x at) in
        let p = row_of (slice_get c.units u) _ h in
        let both : ◌≡◌ {A = Option UnitPart} (Some p.0) (Some there.0) = sym p.1 ∙ there.1 in
        let same : p.0 ≡ there.0 = cc in
        let yes = tells (ap (λ (s : State). run_of s o) (there.2 ∙ ap (unit_state c u) (sym same)) ∙ p.2) in
        absurd (cc)

-- ---- states from event to event
pub quiet_states : (c : Core) (e : Event) → IsQuiet e → unit_states (after c e) ≡ unit_states c
quiet_states c e quiet =
    λ i. map (state_of_history (layout_kept c e i)) (enumerate_from 0 (quiet_kept c e quiet i))

answered_states : (c d : Core) (u : ℕ) (p q : UnitPart) (e : Entry) → d.layout ≡ c.layout → d.units ≡ slice_set c.units u q
    → q.history ≡ p.history ++ e ∷ []
    → unit_states d ≡ slice_set (unit_states c) u (step (unit_state c u p) e.op).state
answered_states c d u p q e layout units history =
    (λ i. map (state_of_history (layout i)) (enumerate_from 0 (histories_of (units i))))
    ∙ ap (λ (hs : List (List Entry)). map (state_of_history c.layout) (enumerate_from 0 hs))
    (entry_set c.units u q ∙ ap (λ (h : List Entry). slice_set (histories_of c.units) u h) history)
    ∙ numbered_set (state_of_history c.layout) 0 (histories_of c.units) u (p.history ++ e ∷ [])
    ∙ ap (slice_set (unit_states c) u)
    (let number : 0 + u ≡ u = omega arith in
    ap (λ (n : ℕ). state_of_history c.layout (n, p.history ++ e ∷ [])) number ∙ after_entry (base_state (nothing c.layout) u) p.history e)

pub read_row : (c : Core) (u k : ℕ) (o : Op) (r : Reply) (p : UnitPart) (q : CallerPart) → slice_get c.units u ≡ Some p
    → slice_get c.callers k ≡ Some q → after c (events.Read u k o r) ≡ read c u p k q (entry_of k q o r (clock c))
read_row c u k o r p q at by =
    (λ i. on_row (at i) c (λ x. on_row (slice_get c.callers k) c (λ y. read c u x k y (entry_of k y o r (clock c)))))
    ∙ (λ i. on_row (by i) c (λ y. read c u p k y (entry_of k y o r (clock c))))

pub leave_row : (c : Core) (u k : ℕ) (o : Op) (r : Reply) (p : UnitPart) (q : CallerPart) → slice_get c.units u ≡ Some p
    → slice_get c.callers k ≡ Some q → after c (events.Leave u k o r) ≡ leave c u p k q (entry_of k q o r (epoch_of p.stage))
leave_row c u k o r p q at by =
    (λ i. on_row (at i) c (λ x. on_row (slice_get c.callers k) c (λ y. leave c u x k y (entry_of k y o r (epoch_of x.stage)))))
    ∙ (λ i. on_row (by i) c (λ y. leave c u p k y (entry_of k y o r (epoch_of p.stage))))

pub read_states : (c : Core) (u k : ℕ) (o : Op) (r : Reply) → IsAllowed c (events.Read u k o r) → (x : State)
    → slice_get (unit_states c) u ≡ Some x → unit_states (after c (events.Read u k o r)) ≡ slice_set (unit_states c) u (step x o).state
read_states c u k o r h x at =
    let p = row_of (slice_get c.units u) _ h.1 in
    let q = row_of (slice_get c.callers k) _ p.2 in
    let own = state_at c u x at in
    let both : ◌≡◌ {A = Option UnitPart} (Some p.0) (Some own.0) = sym p.1 ∙ own.1 in
    let same : p.0 ≡ own.0 = cc in
    ap unit_states (read_row c u k o r p.0 q.0 p.1 q.1)
    ∙ answered_states c (read c u p.0 k q.0 (entry_of k q.0 o r (clock c))) u p.0 (after_read p.0 (entry_of k q.0 o r (clock c)))
    (entry_of k q.0 o r (clock c)) refl refl refl
    ∙ ap (λ (s : State). slice_set (unit_states c) u (step s o).state) (ap (unit_state c u) same ∙ sym own.2)

pub leave_states : (c : Core) (u k : ℕ) (o : Op) (r : Reply) → IsAllowed c (events.Leave u k o r) → (x : State)
    → slice_get (unit_states c) u ≡ Some x → unit_states (after c (events.Leave u k o r)) ≡ slice_set (unit_states c) u (step x o).state
leave_states c u k o r h x at =
    let p = row_of (slice_get c.units u) _ h.1 in
    let q = row_of (slice_get c.callers k) _ p.2 in
    let own = state_at c u x at in
    let both : ◌≡◌ {A = Option UnitPart} (Some p.0) (Some own.0) = sym p.1 ∙ own.1 in
    let same : p.0 ≡ own.0 = cc in
    let e = entry_of k q.0 o r (epoch_of p.0.stage) in
    ap unit_states (leave_row c u k o r p.0 q.0 p.1 q.1)
    ∙ answered_states c (leave c u p.0 k q.0 e) u p.0 (after_leave p.0 e) e refl refl refl
    ∙ ap (λ (s : State). slice_set (unit_states c) u (step s o).state) (ap (unit_state c u) same ∙ sym own.2)

-- ---- reads are judged on them
-- what a read needs, where this is the state of its unit
pub record IsAnswered (c : Core) (u k : ℕ) (o : Op) (r : Reply) (x : State) : Type 0 where
  pub none_lost : AreNoneLost c.units
  pub ready : OfUnit c u (λ p. OfCaller c k (λ q. IsReadyToRead p q))
  pub of_unit : IsOpOf c.layout u o
  pub replies : r ≡ (step x o).reply
  pub changes : (step x o).effects ≡ []

module _ (c : Core) (sound : IsSound (nothing c.layout) c) (u k : ℕ) (o : Op) (r : Reply) (x : State)
    (at : slice_get (unit_states c) u ≡ Some x) where
  pub own_unit : (p : UnitPart) → slice_get c.units u ≡ Some p → x ≡ unit_state c u p
  own_unit p here =
      let both : ◌≡◌ {A = Option State} (Some x) (Some (unit_state c u p)) = sym at ∙ state_there c u p here in cc

  pub shown : (p : UnitPart) → slice_get c.units u ≡ Some p → HasStructure c.layout u p.records (unit_state c u p)
  shown p here =
      let f = sound.units u p here in
      shown_whole c.layout (durable_clock c) u (base_state (nothing c.layout) u) p.records p.history f.objects
      (limit_of (clock c) p.stage) f.reached

  can_read : (p : UnitPart) (q : CallerPart) → slice_get c.units u ≡ Some p → IsReadyToRead p q → IsAnswered c u k o r x
      → CanRead c.layout u p q o r
  can_read p q here ready h = record {
    unfrozen = ready.unfrozen;
    stage = ready.stage;
    judged = record {
      of_unit = h.of_unit;
      state = unit_state c u p;
      shown = shown p here;
      replies = h.replies ∙ ap (λ (s : State). (step s o).reply) (own_unit p here);
    };
    changes = ap (λ (s : State). (step s o).effects) (sym (own_unit p here)) ∙ h.changes;
    numbers = ready.numbers;
  }

  pub read_may : IsAnswered c u k o r x → IsAllowed c (events.Read u k o r)
  read_may h =
      let p = row_of (slice_get c.units u) _ h.ready in
      let q = row_of (slice_get c.callers k) _ p.2 in (
        h.none_lost,
        subst (λ (row : Option UnitPart). RowHas row (λ y. OfCaller c k (λ z. CanRead c.layout u y z o r))) (sym p.1)
            (subst (λ (row : Option CallerPart). RowHas row (λ z. CanRead c.layout u p.0 z o r)) (sym q.1) (can_read p.0 q.0 p.1 q.2 h)),
      )

  pub read_needs : IsAllowed c (events.Read u k o r) → IsAnswered c u k o r x
  read_needs h =
      let p = row_of (slice_get c.units u) _ h.1 in
      let q = row_of (slice_get c.callers k) _ p.2 in
      let can : CanRead c.layout u p.0 q.0 o r = q.2 in
      let f = sound.units u p.0 p.1 in
      let same =
      judged_state c.layout (durable_clock c) u (base_state (nothing c.layout) u) p.0.records p.0.history f.objects
      (limit_of (clock c) p.0.stage)
      f.reached p.0 o r can.judged refl
      ∙ sym (own_unit p.0 p.1) in
      record {
        none_lost = h.0;
        ready =
            subst (λ (row : Option UnitPart). RowHas row (λ y. OfCaller c k (λ z. IsReadyToRead y z))) (sym p.1)
            (subst (λ (row : Option CallerPart). RowHas row (λ z. IsReadyToRead p.0 z)) (sym q.1)
            (record { unfrozen = can.unfrozen; stage = can.stage; numbers = can.numbers }));
        of_unit = can.judged.of_unit;
        replies = can.judged.replies ∙ ap (λ (s : State). (step s o).reply) same;
        changes = ap (λ (s : State). (step s o).effects) (sym same) ∙ can.changes;
      }

-- ---- an operation carried out on the state of a unit
-- what is told of it: the reply, and the states after it
abbrev pub IsTold : List State → ℕ → Op → Option Reply → List State → Type 0
IsTold xs u o told ys =
    MatchOption told (slice_get xs u ≡ None)
    (λ r. (x : State) × (slice_get xs u ≡ Some x) × (r ≡ (step x o).reply) × (ys ≡ slice_set xs u (step x o).state))

pub unit_there : (c : Core) (u : ℕ) (P : UnitPart → Type 0) → OfUnit c u P → slice_get (unit_states c) u ≡ None → ⊥
unit_there c u P h none =
    let p = row_of (slice_get c.units u) P h in
    let both : ◌≡◌ {A = Option State} None (Some (unit_state c u p.0)) = sym none ∙ state_there c u p.0 p.1 in
    absurd (cc)

module _ (c : Core) (xs ys : List State) (own : xs ≡ unit_states c) (u : ℕ) (o : Op) where
  pub told_states : (t : Option Reply) (next : List State) → IsTold xs u o t ys → (slice_get (unit_states c) u ≡ None → ⊥)
      → ((x : State) → slice_get (unit_states c) u ≡ Some x → next ≡ slice_set (unit_states c) u (step x o).state) → ys ≡ next
  told_states None next told there goes = absurd (there (ap (λ (zs : List State). slice_get zs u) (sym own) ∙ told))
  told_states (Some r) next told there goes =
      told.3 ∙ ap (λ (zs : List State). slice_set zs u (step told.0 o).state) own
      ∙ sym (goes told.0 (ap (λ (zs : List State). slice_get zs u) (sym own) ∙ told.1))

  pub told_reply : (t : Option Reply) (x : State) → IsTold xs u o t ys → slice_get (unit_states c) u ≡ Some x → t ≡ Some (step x o).reply
  told_reply None x told at =
      let both : ◌≡◌ {A = Option State} None (Some x) = sym told ∙ ap (λ (zs : List State). slice_get zs u) own ∙ at in
      absurd (cc)
  told_reply (Some r) x told at =
      let both : ◌≡◌ {A = Option State} (Some told.0) (Some x) = sym told.1 ∙ ap (λ (zs : List State). slice_get zs u) own ∙ at in
      let same : told.0 ≡ x = cc in
      ap Some (told.2 ∙ ap (λ (s : State). (step s o).reply) same)

pub same_reply : (a b : Reply) (t : Option Reply) → t ≡ Some a → t ≡ Some b → b ≡ a
same_reply a b t e f = cc

-- ---- an event that answers nobody
pub quiet_of : (e : Event) → ((u k : ℕ) (o : Op) (r : Reply) → e ≡ events.Leave u k o r → ⊥)
    → ((u k : ℕ) (o : Op) (r : Reply) → e ≡ events.Read u k o r → ⊥) → IsQuiet e
quiet_of (events.Leave u k o r) l m = l u k o r refl
quiet_of (events.Read u k o r) l m = m u k o r refl
quiet_of _ l m = tt

-- ---- the states of a fresh core
begun : (g : ℕ → State) (k : ℕ) (xs : List State) → ((i : ℕ) (x : State) → slice_get xs i ≡ Some x → g (k + i) ≡ x)
    → map (λ (p : ℕ × List Entry). state_after (g p.0) p.1) (enumerate_from k (histories_of (replicate (length xs) fresh_unit))) ≡ xs
begun g k [] each = refl
begun g k (x ∷ xs) each =
    let number : k ≡ k + 0 = omega arith in
    let first : g k ≡ x = ap g number ∙ each 0 x refl in
    let others = begun g (k + 1) xs
    (λ i y at. let number : k + 1 + i ≡ k + suc i = omega arith in ap g number ∙ each (suc i) y at) in
    λ i. first i ∷ others i

pub fresh_states : (s : Shape) (callers : ℕ) → unit_states (fresh s callers) ≡ empty_states s
fresh_states s callers =
    ap
    (λ (n : ℕ). map (λ (p : ℕ × List Entry). state_after (base_state (nothing s) p.0) p.1)
    (enumerate_from 0 (histories_of (replicate n fresh_unit)))) (sym (length-map s.kinds empty_state))
    ∙ begun (λ (u : ℕ). base_state (nothing s) u) 0 (empty_states s)
    (λ i x at. let number : 0 + i ≡ i = omega arith in
    ap (λ (n : ℕ). base_state (nothing s) n) number ∙ ap (λ (row : Option State). unwrap_or row (QueueOf [])) at)

pub fresh_kept : (c : Core) (s : Shape) (callers : ℕ) (xs : List State) → c ≡ fresh s callers → xs ≡ empty_states s → xs ≡ unit_states c
fresh_kept c s callers xs same empty = empty ∙ sym (fresh_states s callers) ∙ ap unit_states (sym same)

pub fresh_sound : (c : Core) (s : Shape) (callers : ℕ) → IsLayout s → c ≡ fresh s callers → IsSound (nothing c.layout) c
fresh_sound c s callers is same = subst (λ (k : Core). IsSound (nothing k.layout) k) (sym same) (fresh_cores_are_sound s callers is)

pub sound_kept : (c d : Core) (e : Event) → IsSound (nothing c.layout) c → IsAllowed c e → d ≡ after c e → IsSound (nothing d.layout) d
sound_kept c d e sound allowed same =
    subst (λ (k : Core). IsSound (nothing k.layout) k) (sym same)
    (subst (λ (l : Shape). IsSound (nothing l) (after c e)) (sym (layout_kept c e)) (allowed_law (nothing c.layout) c e sound allowed))
