-- What an answer leaves true of a unit, with records written or without.
use Rattle.std.proofs.Common.{◌≡◌, ℕ, ◌+◌, ◌≤◌, List, [], ◌∷◌, ◌++◌, append-nil, sym, refl, ap, ◌∙◌, subst, inl, inr, arith, Bool, true, false}
use Rattle.std.specs.Prelude.{All, Some, nat_lt, sum_by, if◌then◌else◌}
use Rattle.std.specs.List.{Contains}
use Rattle.std.proofs.lemmas.List.Elements.{All-contains, All-append, All-weaker, All-push, All-nil, Contains-append_cases}
use Rattle.std.proofs.lemmas.List.Quantifiers.{all_pairs_push}
use Rattle.mont_base.specs.declared.constants.TheConstants.{LAST}
use Rattle.mont_base.specs.declared.record.Held.{Held}
use Rattle.mont_base.specs.declared.operation.Op.{Op}
use Rattle.mont_base.specs.declared.operation.Reply.{Reply}
use Rattle.mont_base.specs.declared.operation.Entry.{Entry}
use Rattle.mont_base.specs.declared.effect.Effect.{Effect}
use Rattle.mont_base.specs.Layout.{Shape}
use Rattle.mont_base.specs.State.{State, step, unit_of_op}
use Rattle.mont_base.specs.History.{state_after, RepliesFollow, IsLegal, cut_at}
use Rattle.mont_base.specs.Room.{retires, retired_late}
use Rattle.mont_laws.specs.declared.retiring.Retired.{Retired}
use Rattle.mont_laws.specs.Records.{AreApart, cut_records}
use Rattle.mont_laws.specs.Structures.{HasStructure}
use Rattle.mont_laws.specs.Effects.{AreEffects, AreNewest}
use Rattle.mont_laws.specs.Retiring.{Retires, HaveNewSlots, retired_by_all}
use Rattle.mont_laws.proofs.Members.{all_elements}
use Rattle.mont_laws.proofs.Histories.{all_pass, follows_on}
use Rattle.mont_laws.proofs.Shown.{one_state}
use Rattle.mont_laws.proofs.Written.{step_retires, effects_count}
use Rattle.core_steps.specs.declared.parts.UnitPart.{UnitPart}
use Rattle.core_steps.specs.declared.parts.CallerPart.{CallerPart}
use Rattle.core_steps.specs.declared.parts.UnitStage.{UnitStage}
use Rattle.core_steps.specs.Stages.{limit_of}
use Rattle.core_steps.specs.CallAnswers.{IsJudged, CanLeave, CanRead, entry_of, after_leave, after_read}
use Rattle.core_steps.specs.UnitClauses.{IsOwnEpoch, RetiresBefore, HasVersions, ShowsCuts, AreReached, ClosesDue, UnitFits}
use Rattle.core_steps.proofs.UnitQueues.{pairs_append, pairs_all, slot_record, retired_low, retired_at}
use Rattle.core_steps.proofs.UnitFrames.{reached_later}

-- ---- a history with one more entry
-- whose reply is the one of the state that the history leads to
replies_push : (st : State) (h : List Entry) (e : Entry) → RepliesFollow st h → e.reply ≡ (step (state_after st h) e.op).reply
    → RepliesFollow st (h ++ e ∷ [])
replies_push st [] e follow replies = (replies, tt)
replies_push st (g ∷ h) e follow replies = (follow.0, replies_push (step st g.op).state h e follow.1 replies)

-- and what it retires is added
late_push : (x : ℕ) (st : State) (h : List Entry) (e : Entry) → retired_late x st (h ++ e ∷ [])
    ≡ retired_late x st h + (if nat_lt x (e.epoch + 2) then sum_by retires (step (state_after st h) e.op).effects else 0)
late_push x st [] e = let n = (if nat_lt x (e.epoch + 2) then sum_by retires (step st e.op).effects else 0) in omega arith
late_push x st (g ∷ h) e =
    let n = (if nat_lt x (g.epoch + 2) then sum_by retires (step st g.op).effects else 0) in
    let m = (if nat_lt x (e.epoch + 2) then sum_by retires (step (state_after (step st g.op).state h) e.op).effects else 0) in
    omega (arith, late_push x (step st g.op).state h e)

-- it stays legal where the entry's epoch isn't below any so far
pub legal_push : (s : Shape) (u : ℕ) (st : State) (b : ℕ) (h : List Entry) (e : Entry) → IsLegal s u st b h
    → unit_of_op s e.op ≡ Some u → e.reply ≡ (step (state_after st h) e.op).reply
    → All (λ (g : Entry). g.epoch ≤ e.epoch) h → b ≤ e.epoch → e.epoch ≤ LAST → IsLegal s u st b (h ++ e ∷ [])
legal_push s u st b h e legal of_unit replies last begun low = record {
  of_unit = All-push (λ (g : Entry). unit_of_op s g.op ≡ Some u) h e legal.of_unit of_unit;
  replies = replies_push st h e legal.replies replies;
  rising = all_pairs_push (λ (f g : Entry). f.epoch ≤ g.epoch) h e legal.rising last;
  begins = All-push (λ (g : Entry). b ≤ g.epoch) h e legal.begins begun;
  ends = All-push (λ (g : Entry). g.epoch ≤ LAST) h e legal.ends low;
}

-- ---- records and a history of which each cut from d - 2 on shows the other
module _ (s : Shape) (d u : ℕ) (st : State) (rs : List Held) (h : List Entry) (cuts : ShowsCuts s u st d rs h) (n : ℕ)
    (reached : AreReached n rs h) where
  -- all records show the whole history
  pub shown_whole : HasStructure s u rs (state_after st h)
  shown_whole =
      let old = All-weaker (λ (r : Held). r.label.epoch ≤ n) (λ (r : Held). r.label.epoch ≤ n + d)
      (λ r l. omega (arith, l)) rs reached.of_records in
      let past = All-weaker (λ (e : Entry). e.epoch ≤ n) (λ (e : Entry). e.epoch ≤ n + d) (λ e l. omega (arith, l)) h reached.of_entries in
      subst (λ (x : List Held × List Entry). HasStructure s u x.0 (state_after st x.1))
      (λ k. (all_pass (λ (r : Held). r.label.epoch) (n + d) rs old k, all_pass (λ (e : Entry). e.epoch) (n + d) h past k))
      (cuts (n + d) (omega arith))

  -- So the state that a reply is judged on is the one that the history leads to.
  pub judged_state : (p : UnitPart) (op : Op) (reply : Reply) (j : IsJudged s u p op reply) → p.records ≡ rs → j.state ≡ state_after st h
  judged_state p op reply j e = one_state s u rs j.state (state_after st h)
      (subst (λ (qs : List Held). HasStructure s u qs j.state) e j.shown) shown_whole

-- ---- records of an epoch that nothing so far is above, which stand in slots that nothing else has
module _ (b u e : ℕ) (rs ws : List Held) (ts : List Retired) (state : State) (op : Op) (versions : HasVersions b rs ts)
    (new : HaveNewSlots rs ws) (at : All (λ (w : Held). w.label.epoch ≡ e) ws) (low : All (λ (r : Held). r.label.epoch ≤ e) rs)
    (are : AreEffects u rs (step state op).effects ws) where
  -- they stay apart, and retire what they follow
  added_retires : AreApart (rs ++ ws) × Retires (rs ++ ws) (ts ++ retired_by_all rs ws)
  added_retires = step_retires u rs ws ts state op versions.apart new are versions.retires

  -- none of them is above the epoch
  all_low : All (λ (r : Held). r.label.epoch ≤ e) (rs ++ ws)
  all_low = All-append (λ (r : Held). r.label.epoch ≤ e) rs ws low
      (All-weaker (λ (w : Held). w.label.epoch ≡ e) (λ (w : Held). w.label.epoch ≤ e) (λ w l. omega (arith, l)) ws at)

  -- what was retired is of records that were there
  old_own : (t : Retired) → Contains ts t → IsOwnEpoch b (rs ++ ws) t
  old_own t a r c is = elim (Contains-append_cases rs ws r c) [
    | inl k ↦ All-contains (IsOwnEpoch b rs) ts t versions.own a r k is
    | inr k ↦
        let one = slot_record rs ts versions.apart versions.retires t a in
        absurd (new.unused one.retired_record r one.there k (one.in_slot ∙ sym is))
  ]

  -- what is retired now has the epoch
  new_own : (t : Retired) → Contains (retired_by_all rs ws) t → IsOwnEpoch b (rs ++ ws) t
  new_own t a r c is =
      let same = All-contains (λ (t : Retired). t.epoch ≡ e) (retired_by_all rs ws) t (retired_at rs e ws at) a in
      let l = All-contains (λ (r : Held). r.label.epoch ≤ e) (rs ++ ws) r all_low c in
      inl (omega arith)

  -- which isn't below those that were retired
  rises : (t v : Retired) → Contains ts t → Contains (retired_by_all rs ws) v → RetiresBefore b t v
  rises t v a c =
      let l = retired_low rs ts versions.apart versions.retires e low t a in
      let same = All-contains (λ (t : Retired). t.epoch ≡ e) (retired_by_all rs ws) v (retired_at rs e ws at) c in
      inr (omega arith)

  -- and is the same for all of them
  level : (t v : Retired) → Contains (retired_by_all rs ws) t → Contains (retired_by_all rs ws) v → RetiresBefore b t v
  level t v a c =
      let same = All-contains (λ (t : Retired). t.epoch ≡ e) (retired_by_all rs ws) in
      let first = same t (retired_at rs e ws at) a in
      let last = same v (retired_at rs e ws at) c in
      inr (omega arith)

  -- so the versions are as they have to be
  pub versions_added : HasVersions b (rs ++ ws) (ts ++ retired_by_all rs ws)
  versions_added = record {
    apart = added_retires.0;
    retires = added_retires.1;
    own = All-append (IsOwnEpoch b (rs ++ ws)) ts (retired_by_all rs ws) (all_elements (IsOwnEpoch b (rs ++ ws)) ts old_own)
        (all_elements (IsOwnEpoch b (rs ++ ws)) (retired_by_all rs ws) new_own);
    rising = pairs_append (RetiresBefore b) ts (retired_by_all rs ws) versions.rising
        (pairs_all (RetiresBefore b) (retired_by_all rs ws) level) rises;
  }

-- Leave: what was written becomes records, of the epoch in which the unit is registered, in slots that nothing else has.
module _ (s : Shape) (b now d u : ℕ) (st : State) (p : UnitPart) (k : ℕ) (q : CallerPart) (op : Op) (reply : Reply) where
  pub unit_leave : (e : ℕ) → CanLeave s u p q op reply e → HaveNewSlots p.records p.written
      → All (λ (w : Held). w.label.epoch ≡ e) p.written → b ≤ e → e ≤ now → now ≤ LAST → UnitFits s b now d u st p
      → UnitFits s b now d u st (after_leave p (entry_of k q op reply e))
  unit_leave e can new at begun reached last fits = record {
    versions = versions_added b u e p.records p.written p.retired can.judged.state op fits.versions new at far.of_records can.changes;
    objects = λ x above. follows_on s u st x p.records p.written p.history entry can.judged.of_unit newest are (fits.objects x above);
    legal = legal_push s u st b p.history entry fits.legal can.judged.of_unit.of_unit replies far.of_entries begun (omega arith);
    reached = reached_later e now (p.records ++ p.written) (p.history ++ entry ∷ []) reached (record {
      of_records = All-append (λ (r : Held). r.label.epoch ≤ e) p.records p.written far.of_records
          (All-weaker (λ (w : Held). w.label.epoch ≡ e) (λ (w : Held). w.label.epoch ≤ e) (λ w l. omega (arith, l)) p.written at);
      of_entries = All-push (λ (g : Entry). g.epoch ≤ e) p.history entry far.of_entries (omega arith);
    });
    room = λ x from known. effects_count u x e p.records (step (state_after st p.history) op).effects p.written p.retired are at
        ∙ ap (λ (n : ℕ). n + (if nat_lt x (e + 2) then sum_by retires (step (state_after st p.history) op).effects else 0))
        (fits.room x from known)
        ∙ sym (late_push x st p.history entry);
    closing = tt;
  }
    where
      entry : Entry
      entry = entry_of k q op reply e

      far : AreReached e p.records p.history
      far = subst (λ (stage : UnitStage). AreReached (limit_of now stage) p.records p.history) can.stage fits.reached

      state : can.judged.state ≡ state_after st p.history
      state = judged_state s d u st p.records p.history fits.objects e far p op reply can.judged refl

      are : AreEffects u p.records (step (state_after st p.history) op).effects p.written
      are = subst (λ (a : State). AreEffects u p.records (step a op).effects p.written) state can.changes

      replies : reply ≡ (step (state_after st p.history) op).reply
      replies = can.judged.replies ∙ ap (λ (a : State). (step a op).reply) state

      newest : AreNewest p.records p.written p.history entry
      newest = record { records_before = far.of_records; written_at = at; entries_before = far.of_entries }

  -- Read: nothing is written, and the entry has the clock as its epoch.
  pub unit_read : CanRead s u p q op reply → b ≤ now → now ≤ LAST → UnitFits s b now d u st p
      → UnitFits s b now d u st (after_read p (entry_of k q op reply now))
  unit_read can begun last fits = record {
    versions = fits.versions;
    objects = λ x above. subst
        (λ (rs : List Held). HasStructure s u (cut_records x rs) (state_after st (cut_at x (p.history ++ entry ∷ []))))
        (append-nil p.records) (follows_on s u st x p.records [] p.history entry can.judged.of_unit newest are (fits.objects x above));
    legal = legal_push s u st b p.history entry fits.legal can.judged.of_unit.of_unit replies far.of_entries begun last;
    reached = subst (λ (stage : UnitStage). AreReached (limit_of now stage) p.records (p.history ++ entry ∷ [])) (sym can.stage) (record {
      of_records = far.of_records;
      of_entries = All-push (λ (g : Entry). g.epoch ≤ now) p.history entry far.of_entries (omega arith);
    });
    room = λ x from known. fits.room x from known ∙ sym (late_push x st p.history entry ∙ no_more x);
    closing = subst (λ (stage : UnitStage). ClosesDue stage (after_read p entry)) (sym can.stage) tt;
  }
    where
      entry : Entry
      entry = entry_of k q op reply now

      far : AreReached now p.records p.history
      far = subst (λ (stage : UnitStage). AreReached (limit_of now stage) p.records p.history) can.stage fits.reached

      state : can.judged.state ≡ state_after st p.history
      state = judged_state s d u st p.records p.history fits.objects now far p op reply can.judged refl

      none : (step (state_after st p.history) op).effects ≡ []
      none = ap (λ (a : State). (step a op).effects) (sym state) ∙ can.changes

      are : AreEffects u p.records (step (state_after st p.history) op).effects []
      are = subst (λ (es : List Effect). AreEffects u p.records es []) (sym none) tt

      replies : reply ≡ (step (state_after st p.history) op).reply
      replies = can.judged.replies ∙ ap (λ (a : State). (step a op).reply) state

      newest : AreNewest p.records [] p.history entry
      newest = record {
        records_before = far.of_records;
        written_at = All-nil (λ (w : Held). w.label.epoch ≡ now);
        entries_before = far.of_entries;
      }

      no_more : (x : ℕ) → retired_late x st p.history
          + (if nat_lt x (now + 2) then sum_by retires (step (state_after st p.history) op).effects else 0) ≡ retired_late x st p.history
      no_more x = rw none (by (nat_lt x (now + 2)))
        where
          by : (t : Bool) → retired_late x st p.history + (if t then 0 else 0) ≡ retired_late x st p.history
          by true = omega arith
          by false = omega arith
