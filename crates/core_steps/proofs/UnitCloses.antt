-- What a unit keeps while it closes a slot that isn't needed.
use Rattle.std.proofs.Common.{◌≡◌, ℕ, ◌+◌, ◌≤◌, List, [], ◌∷◌, sym, refl, ◌∙◌, subst, inl, inr, arith, false}
use Rattle.std.specs.Prelude.{◌≢◌, ◌==◌, not, if◌then◌else◌}
use Rattle.std.specs.List.{Contains}
use Rattle.std.proofs.lemmas.Bool.Decides.{nat_tests}
use Rattle.std.proofs.lemmas.Bool.{eq-eqb}
use Rattle.std.proofs.lemmas.List.Elements.{All-contains, All-head, All-tail, All-filter}
use Rattle.std.proofs.lemmas.List.Sums.{sum_by-cons}
use Rattle.mont_base.specs.declared.record.Held.{Held}
use Rattle.mont_base.specs.declared.operation.Entry.{Entry}
use Rattle.mont_base.specs.Layout.{Shape}
use Rattle.mont_base.specs.State.{State}
use Rattle.mont_laws.specs.declared.retiring.Retired.{Retired}
use Rattle.mont_laws.specs.Records.{AreApart, without_slot}
use Rattle.mont_laws.specs.Retiring.{Retires, IsIn, is_late, count_late, ShowSameAt}
use Rattle.mont_laws.proofs.Members.{first_element, pairs_tail, all_elements}
use Rattle.mont_laws.proofs.Apart.{stayed}
use Rattle.mont_laws.proofs.Closing.{closes_first}
use Rattle.core_steps.specs.declared.parts.UnitPart.{UnitPart}
use Rattle.core_steps.specs.declared.parts.UnitStage.{UnitStage}
use Rattle.core_steps.specs.declared.parts.UnitStage.TheVariants.{Closing}
use Rattle.core_steps.specs.Stages.{limit_of}
use Rattle.core_steps.specs.Closing.{IsFirstDue, IsFirstLost, IsDueNow, CanClose, after_close_label, without_retired, after_persist_close}
use Rattle.core_steps.specs.UnitClauses.{IsOwnEpoch, RetiresBefore, HasVersions, ShowsCuts, AreReached, WaitsAsTold, ClosesDue, UnitFits}
use Rattle.core_steps.proofs.UnitQueues.{slot_record, slots_once, without_free, without_none, in_queue}

-- the first lost slot is one of them
pub due_lost : (lost : List ℕ) (slot : ℕ) → IsFirstLost lost slot → Contains lost slot
due_lost [] slot h = absurd h
due_lost (n ∷ lost) slot h = subst (Contains (n ∷ lost)) h (first_element n lost)

-- a slot that is due is that of a record two epochs older than the durable clock
pub due_record : (b d known slot : ℕ) (rs : List Held) (ts : List Retired) → HasVersions b rs ts → IsFirstDue ts known slot → b ≤ d
    → known ≤ d → (r : Held) × (r.slot ≡ slot) × Contains rs r × (r.label.epoch + 2 ≤ d)
due_record b d known slot rs [] h due begun reached = absurd due
due_record b d known slot rs (t ∷ ts) h due begun reached =
    let at = h.retires.0 in
    let old = All-head (IsOwnEpoch b rs) t ts h.own at.due_record at.there at.in_slot in
    let far = due.1 in
    (at.due_record, at.in_slot ∙ due.0, at.there, elim old [ inl l ↦ omega arith | inr l ↦ omega arith ])

-- and each record of that slot is as old
pub due_old : (b d known slot : ℕ) (rs : List Held) (ts : List Retired) → HasVersions b rs ts → IsFirstDue ts known slot → b ≤ d
    → known ≤ d → (r : Held) → Contains rs r → r.slot ≡ slot → r.label.epoch + 2 ≤ d
due_old b d known slot rs [] h due begun reached r a is = absurd due
due_old b d known slot rs (t ∷ ts) h due begun reached r a is =
    let far = due.1 in
    elim (All-head (IsOwnEpoch b rs) t ts h.own r a (is ∙ sym due.0)) [ inl l ↦ omega arith | inr l ↦ omega arith ]

-- CloseLabel
pub unit_close_label : (s : Shape) (b now d u : ℕ) (st : State) (p : UnitPart) (slot : ℕ) → CanClose p slot → UnitFits s b now d u st p
    → UnitFits s b now d u st (after_close_label p slot)
unit_close_label s b now d u st p slot can fits = record {
  versions = fits.versions;
  objects = fits.objects;
  legal = fits.legal;
  reached = subst (λ (stage : UnitStage). AreReached (limit_of now stage) p.records p.history) can.stage fits.reached;
  room = fits.room;
  closing = can.due;
}

-- ---- what is left once a slot is closed
record Leaves (s : Shape) (b d u : ℕ) (st : State) (known : ℕ) (qs : List Held) (vs : List Retired) (h : List Entry) : Type 0 where
  pub versions : HasVersions b qs vs
  pub objects : ShowsCuts s u st d qs h
  pub room : WaitsAsTold b st known vs h

module _ (s : Shape) (b d u : ℕ) (st : State) (known : ℕ) (rs : List Held) (h : List Entry) (reached : known ≤ d) where
  -- the first retired slot, and its record with it
  leaves_first : (t : Retired) (ts : List Retired) → HasVersions b rs (t ∷ ts) → ShowsCuts s u st d rs h
      → WaitsAsTold b st known (t ∷ ts) h → t.epoch + 2 ≤ known
      → Leaves s b d u st known (without_slot t.slot rs) (without_retired t.slot (t ∷ ts)) h
  leaves_first t ts versions objects room due =
      subst (λ (vs : List Retired). Leaves s b d u st known (without_slot t.slot rs) vs h) (sym behind) (record {
        versions = record {
          apart = closes.0;
          retires = closes.1;
          own = all_elements (IsOwnEpoch b (without_slot t.slot rs)) ts (λ v a r c is.
              All-contains (IsOwnEpoch b rs) ts v (All-tail (IsOwnEpoch b rs) t ts versions.own) a r (stayed r t.slot rs c).0 is);
          rising = pairs_tail (RetiresBefore b) t ts versions.rising;
        };
        objects = λ x above. ((closes_first s u x rs t ts versions.apart versions.retires (omega arith)).2 _).1 (objects x above);
        room = λ x from low. sym (none_late x low) ∙ room x from low;
      })
    where
      closes : AreApart (without_slot t.slot rs) × Retires (without_slot t.slot rs) ts × ShowSameAt s u t.epoch (without_slot t.slot rs) rs
      closes = closes_first s u t.epoch rs t ts versions.apart versions.retires (omega arith)

      behind : without_retired t.slot (t ∷ ts) ≡ ts
      behind = rw (eq-eqb t.slot t.slot refl) (without_none t.slot ts (λ v a e.
          (slots_once rs (t ∷ ts) versions.apart versions.retires).0 (subst (λ (n : ℕ). IsIn n ts) e (in_queue ts v a))))

      none_late : (x : ℕ) → known ≤ x → count_late x (t ∷ ts) ≡ count_late x ts
      none_late x low =
          let early : is_late x t ≡ false = grind (arith, nat_tests) in
          sum_by-cons (λ v. if is_late x v then 1 else 0) t ts ∙ rw early (omega arith)

  -- a slot that no record has
  leaves_none : (slot : ℕ) (ts : List Retired) → HasVersions b rs ts → ShowsCuts s u st d rs h → WaitsAsTold b st known ts h
      → ((r : Held) → Contains rs r → r.slot ≢ slot)
      → Leaves s b d u st known (without_slot slot rs) (without_retired slot ts) h
  leaves_none slot ts versions objects room other =
      let kept = without_free slot rs other in
      let waits : without_retired slot ts ≡ ts = without_none slot ts (λ t a e.
      let one = slot_record rs ts versions.apart versions.retires t a in
      other one.retired_record one.there (one.in_slot ∙ e)) in
      subst (λ (x : List Held × List Retired). Leaves s b d u st known x.0 x.1 h) (λ k. (sym kept k, sym waits k))
      (record { versions = versions; objects = objects; room = room })

  -- the slot that is first due, by its number
  leaves_due : (slot : ℕ) (ts : List Retired) → IsFirstDue ts known slot → HasVersions b rs ts → ShowsCuts s u st d rs h
      → WaitsAsTold b st known ts h → Leaves s b d u st known (without_slot slot rs) (without_retired slot ts) h
  leaves_due slot [] due versions objects room = absurd due
  leaves_due slot (t ∷ ts) due versions objects room =
      subst (λ (n : ℕ). Leaves s b d u st known (without_slot n rs) (without_retired n (t ∷ ts)) h) due.0
      (leaves_first t ts versions objects room due.1)

-- PersistClose: the slot is the first retired one with its record, or a lost one, which no record has.
pub unit_persist_close : (s : Shape) (b now d u : ℕ) (st : State) (p : UnitPart) (slot : ℕ) → p.stage ≡ Closing slot
    → ((r : Held) → Contains p.records r → Contains p.lost slot → r.slot ≢ slot) → p.durable ≤ d → UnitFits s b now d u st p
    → UnitFits s b now d u st (after_persist_close p slot)
unit_persist_close s b now d u st p slot stage other known fits = record {
  versions = left.versions;
  objects = left.objects;
  legal = fits.legal;
  reached = record {
    of_records = All-filter (λ (r : Held). not (r.slot == slot)) (λ (r : Held). r.label.epoch ≤ now) p.records far.of_records;
    of_entries = far.of_entries;
  };
  room = left.room;
  closing = tt;
}
  where
    far : AreReached now p.records p.history
    far = subst (λ (stage : UnitStage). AreReached (limit_of now stage) p.records p.history) stage fits.reached

    due : IsDueNow p slot
    due = subst (λ (stage : UnitStage). ClosesDue stage p) stage fits.closing

    left : Leaves s b d u st p.durable (without_slot slot p.records) (without_retired slot p.retired) p.history
    left = elim due [
      | inl first ↦ leaves_due s b d u st p.durable p.records p.history known slot p.retired first fits.versions fits.objects fits.room
      | inr lost ↦ leaves_none s b d u st p.durable p.records p.history known slot p.retired fits.versions fits.objects fits.room
          (λ r a. other r a (due_lost p.lost slot lost))
    ]
