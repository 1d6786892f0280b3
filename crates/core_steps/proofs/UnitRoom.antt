-- How many records a unit has: its live ones and its retired ones, as many as its history tells.
use Rattle.std.proofs.Common.{◌≡◌, ℕ, suc, ◌+◌, ◌-◌, ◌<◌, ◌≤◌, List, [], ◌∷◌, length, sym, refl, ap, ◌∙◌, subst, inl, inr, arith, true}
use Rattle.std.specs.Prelude.{◌≢◌, ◌==◌, not, filter, All, AllPairs, if◌then◌else◌}
use Rattle.std.specs.List.{Contains}
use Rattle.std.proofs.lemmas.Bool.Decides.{nat_tests}
use Rattle.std.proofs.lemmas.Bool.{cases_lt, eq-eqb, ne_eqb}
use Rattle.std.proofs.lemmas.List.{length-map}
use Rattle.std.proofs.lemmas.List.Elements.{All-head, All-tail, All-contains, All-weaker, All-nil, All-cons, All-filter}
use Rattle.std.proofs.lemmas.List.Sums.{sum_by-cons}
use Rattle.mont_base.specs.declared.record.Held.{Held}
use Rattle.mont_base.specs.Layout.{Shape}
use Rattle.mont_base.specs.State.{State, size_of}
use Rattle.mont_base.specs.History.{state_after}
use Rattle.mont_base.specs.Room.{used_slots, room_of}
use Rattle.mont_base.specs.Versions.{is_live, object_of, live_objects}
use Rattle.mont_laws.specs.declared.retiring.Retired.{Retired}
use Rattle.mont_laws.specs.Records.{AreApart, without_slot}
use Rattle.mont_laws.specs.Structures.{HasStructure}
use Rattle.mont_laws.specs.Retiring.{Retires, is_late, count_late}
use Rattle.mont_laws.proofs.Members.{element_cases, no_element, pairs_head, pairs_tail}
use Rattle.mont_laws.proofs.Agreement.{as_many}
use Rattle.mont_laws.proofs.Closing.{closes_first}
use Rattle.mont_laws.proofs.Histories.{all_pass}
use Rattle.mont_laws.proofs.Unretired.{live_left}
use Rattle.core_steps.specs.declared.parts.UnitPart.{UnitPart}
use Rattle.core_steps.specs.Stages.{limit_of}
use Rattle.core_steps.specs.Closing.{IsFirstDue}
use Rattle.core_steps.specs.UnitClauses.{RetiresBefore, UnitFits}
use Rattle.core_steps.proofs.UnitQueues.{without_free, filter_whole}
use Rattle.core_steps.proofs.UnitAnswers.{shown_whole}

abbrev OtherSlot : Held → Held → Type 0
OtherSlot q r = q.slot ≢ r.slot

-- ---- retired slots that aren't due
-- they are all late
all_late : (x : ℕ) (ts : List Retired) → All (λ (t : Retired). x < t.epoch + 2) ts → count_late x ts ≡ length ts
all_late x [] late = refl
all_late x (t ∷ ts) late =
    let l = All-head (λ (t : Retired). x < t.epoch + 2) t ts late in
    let is : is_late x t ≡ true = grind (arith, nat_tests) in
    sum_by-cons (λ v. if is_late x v then 1 else 0) t ts
    ∙ rw is (omega (arith, all_late x ts (All-tail (λ (t : Retired). x < t.epoch + 2) t ts late)))

-- where the first isn't due, none is
pub none_due : (b known : ℕ) (ts : List Retired) → b ≤ known → AllPairs (RetiresBefore b) ts
    → ((slot : ℕ) → IsFirstDue ts known slot → ⊥) → All (λ (t : Retired). known < t.epoch + 2) ts
none_due b known [] begun rising none = All-nil (λ (t : Retired). known < t.epoch + 2)
none_due b known (t ∷ ts) begun rising none = elim (cases_lt known (t.epoch + 2)) [
  | inl first ↦ All-cons (λ (t : Retired). known < t.epoch + 2) t ts first
      (All-weaker (RetiresBefore b t) (λ (v : Retired). known < v.epoch + 2)
      (λ v l. elim l [ inl m ↦ absurd (omega arith) | inr m ↦ omega arith ]) ts (pairs_head (RetiresBefore b) t ts rising))
  | inr due ↦ absurd (none t.slot (refl, due))
]

-- ---- records
-- one record goes with its slot
fewer_by_one : (rs : List Held) (r : Held) → AllPairs OtherSlot rs → Contains rs r → length rs ≡ suc (length (without_slot r.slot rs))
fewer_by_one [] r slots a = absurd (no_element r a)
fewer_by_one (q ∷ rs) r slots a = elim (element_cases q rs r a) [
  | inl e ↦ rw (eq-eqb q.slot r.slot (sym (ap (λ (x : Held). x.slot) e))) (ap (λ (qs : List Held). suc (length qs))
      (sym (without_free r.slot rs (λ p c is. All-contains (OtherSlot q) rs p (pairs_head OtherSlot q rs slots) c
      (sym (ap (λ (x : Held). x.slot) e) ∙ sym is)))))
  | inr c ↦ rw (ne_eqb q.slot r.slot (All-contains (OtherSlot q) rs r (pairs_head OtherSlot q rs slots) c))
      (ap suc (fewer_by_one rs r (pairs_tail OtherSlot q rs slots) c))
]

-- where none is retired, all are live
all_live : (rs : List Held) → AreApart rs → Retires rs [] → length (live_objects rs) ≡ length rs
all_live rs apart h = length-map (filter (is_live rs) rs) object_of
    ∙ ap (λ (qs : List Held). length qs) (filter_whole (is_live rs) rs (λ r a. (live_left rs [] r apart h a).1 (λ i. i)))

module _ (s : Shape) (u n : ℕ) (state : State) where
  -- the live records and the retired ones are all of them
  pub live_and_retired : (ts : List Retired) (rs : List Held) → AreApart rs → Retires rs ts → All (λ (r : Held). r.label.epoch ≤ n) rs
      → HasStructure s u rs state → length rs ≡ size_of state + length ts
  live_and_retired [] rs apart h low shown = omega (arith, all_live rs apart h, as_many s u rs apart state shown)
  live_and_retired (t ∷ ts) rs apart h low shown =
      let x : ℕ = n + t.epoch in
      let closes = closes_first s u x rs t ts apart h (omega arith) in
      let high = All-weaker (λ (r : Held). r.label.epoch ≤ n) (λ (r : Held). r.label.epoch ≤ x) (λ r l. omega (arith, l)) rs low in
      let fewer = All-filter (λ (r : Held). not (r.slot == t.slot)) (λ (r : Held). r.label.epoch ≤ x) rs high in
      let whole = all_pass (λ (r : Held). r.label.epoch) x in
      let left : HasStructure s u (without_slot t.slot rs) state =
      subst (λ (qs : List Held). HasStructure s u qs state) (whole (without_slot t.slot rs) fewer)
      ((closes.2 state).1 (subst (λ (qs : List Held). HasStructure s u qs state) (sym (whole rs high)) shown)) in
      let rest = live_and_retired ts (without_slot t.slot rs) closes.0 closes.1
      (All-filter (λ (r : Held). not (r.slot == t.slot)) (λ (r : Held). r.label.epoch ≤ n) rs low) left in
      let one = subst (λ (slot : ℕ). length rs ≡ suc (length (without_slot slot rs))) h.0.in_slot
      (fewer_by_one rs h.0.due_record apart.slots h.0.there) in
      omega (arith, rest, one)

-- ---- a unit
module _ (s : Shape) (b now d u : ℕ) (st : State) (p : UnitPart) (fits : UnitFits s b now d u st p) where
  -- its records show its history
  shown : HasStructure s u p.records (state_after st p.history)
  shown = shown_whole s d u st p.records p.history fits.objects (limit_of now p.stage) fits.reached

  -- they are as many as the things of its state, and its retired ones
  pub unit_records : length p.records ≡ size_of (state_after st p.history) + length p.retired
  unit_records = live_and_retired s u (limit_of now p.stage) (state_after st p.history) p.retired p.records fits.versions.apart
      fits.versions.retires fits.reached.of_records shown

  -- the live ones are as many as the things
  pub unit_live : length (live_objects p.records) ≡ size_of (state_after st p.history)
  unit_live = as_many s u p.records fits.versions.apart (state_after st p.history) shown

  -- the records that aren't retired and those that were retired late are as many as the history tells
  pub unit_used : (x : ℕ) → b ≤ x → p.durable ≤ x
      → (length p.records - length p.retired) + count_late x p.retired ≡ used_slots st p.history x
  unit_used x begun known = omega (arith, unit_records, fits.room x begun known)

  -- Where all that is due is closed, the records are as many as the history tells.
  pub unit_used_whole : b ≤ p.durable → All (λ (t : Retired). p.durable < t.epoch + 2) p.retired
      → length p.records ≡ used_slots st p.history p.durable
  unit_used_whole begun late =
      omega (arith, unit_records, fits.room p.durable begun (omega arith), all_late p.durable p.retired late)

  -- Then the slots without a record are the room that the history tells.
  pub unit_room : (slots : ℕ) → b ≤ p.durable → All (λ (t : Retired). p.durable < t.epoch + 2) p.retired
      → slots - length p.records ≡ room_of slots st p.history p.durable
  unit_room slots begun late = ap (λ (n : ℕ). slots - n) (unit_used_whole begun late)

  -- All that is due is closed where the first retired slot isn't due, since the others aren't due before it.
  pub unit_used_undue : b ≤ p.durable → ((slot : ℕ) → IsFirstDue p.retired p.durable slot → ⊥)
      → length p.records ≡ used_slots st p.history p.durable
  unit_used_undue begun none = unit_used_whole begun (none_due b p.durable p.retired begun fits.versions.rising none)
