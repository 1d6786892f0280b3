-- What a look at an announcement makes of the advancer.
use Rattle.std.proofs.Common.{◌≡◌, ℕ, ◌+◌, ◌/◌, ◌<◌, ◌≤◌, ◌⊎◌, refl, inl, inr, ⊎_elim, arith, Bool, true, false}
use Rattle.std.specs.Prelude.{Option, Some, None, nat_le, nat_lt, ◌==◌, if◌then◌else◌}
use Rattle.mont_base.specs.declared.constants.TheConstants.{FIRST_CLOCK, LAST}
use Rattle.core_steps.specs.declared.parts.UnitStage.{UnitStage}
use Rattle.core_steps.specs.declared.parts.UnitStage.TheVariants.{Idle, Told, Within, Closing}
use Rattle.core_steps.specs.declared.parts.AdvPart.{AdvPart}
use Rattle.core_steps.specs.declared.parts.AdvPart.TheVariants.{Rest, Checking, Flushing, Holding, Clocked}
use Rattle.core_steps.specs.Stages.{phase_of, passed_of}
use Rattle.core_steps.specs.Advancing.{can_check, unit_at_hand, lets_pass, past_unit, after_check}
use Rattle.core_steps.specs.Sound.{IsUnderWay, IsInStore, ClocksStand, announced, IsRegistered, StageFits}
use Rattle.core_steps.proofs.Decisions.{either_true, le_true, lt_true, lt_false, eq_true}

-- where a check is allowed, the unit at hand is one of the store's
pub hand_within : (n now : ℕ) (a : AdvPart) → 0 < n → can_check now a ≡ true → IsInStore n a → unit_at_hand a < n
hand_within n now Rest some may place = some
hand_within n now (Checking j) some may place = place
hand_within n now (Flushing d f) some may place = absurd (cc)
hand_within n now (Holding d f v) some may place = absurd (cc)
hand_within n now Clocked some may place = absurd (cc)

-- a check begins or goes on with an advance
pub checks :
    (now durable : ℕ) (a : AdvPart) → can_check now a ≡ true → ClocksStand (phase_of a) now durable → IsUnderWay now durable
checks now durable Rest may stand = record { same = stand; room = lt_true now LAST may }
checks now durable (Checking j) may stand = stand
checks now durable (Flushing d f) may stand = absurd (cc)
checks now durable (Holding d f v) may stand = absurd (cc)
checks now durable Clocked may stand = absurd (cc)

-- the units that were passed are those below the one at hand
pub passed_before : (n now : ℕ) (a : AdvPart) → can_check now a ≡ true → passed_of n a ≡ unit_at_hand a
passed_before n now Rest may = refl
passed_before n now (Checking j) may = refl
passed_before n now (Flushing d f) may = absurd (cc)
passed_before n now (Holding d f v) may = absurd (cc)
passed_before n now Clocked may = absurd (cc)

-- a fact of every place where a check may lead
pub each_checked :
    (P : AdvPart → Type 0) (n now w : ℕ) (a : AdvPart) → ((j : ℕ) → j ≡ unit_at_hand a → P (Checking j))
    → (unit_at_hand a + 1 < n → P (Checking (unit_at_hand a + 1))) → P (Flushing 0 0) → P (after_check n now w a)
each_checked P n now w a here next last = goes (lets_pass now w)
  where
    on : (t : Bool) → nat_lt (unit_at_hand a + 1) n ≡ t → P (if t then Checking (unit_at_hand a + 1) else Flushing 0 0)
    on true is = next (lt_true (unit_at_hand a + 1) n is)
    on false is = last

    goes : (t : Bool) → P (if t then past_unit n (unit_at_hand a) else Checking (unit_at_hand a))
    goes true = on (nat_lt (unit_at_hand a + 1) n) refl
    goes false = here (unit_at_hand a) refl

nat_cases : (v n : ℕ) → v < n + 1 → (v < n) ⊎ (v ≡ n)
nat_cases v n l = grind arith

-- which units an advancer has passed after a check: those before, and the one at hand if it lets pass
pub now_passed :
    (n now w : ℕ) (a : AdvPart) (v : ℕ) → v < n → v < passed_of n (after_check n now w a)
    → (v < unit_at_hand a) ⊎ ((v ≡ unit_at_hand a) × (lets_pass now w ≡ true))
now_passed n now w a v inside h = goes (lets_pass now w) refl h
  where
    on :
        (t : Bool) → nat_lt (unit_at_hand a + 1) n ≡ t
        → v < passed_of n (if t then Checking (unit_at_hand a + 1) else Flushing 0 0)
        → (v < unit_at_hand a) ⊎ (v ≡ unit_at_hand a)
    on true is h = nat_cases v (unit_at_hand a) h
    on false is h =
        let l : n ≤ unit_at_hand a + 1 = lt_false (unit_at_hand a + 1) n is in nat_cases v (unit_at_hand a) (omega arith)

    goes :
        (t : Bool) → lets_pass now w ≡ t
        → v < passed_of n (if t then past_unit n (unit_at_hand a) else Checking (unit_at_hand a))
        → (v < unit_at_hand a) ⊎ ((v ≡ unit_at_hand a) × (lets_pass now w ≡ true))
    goes true is h = ⊎_elim inl (λ same. inr (same, is)) (on (nat_lt (unit_at_hand a + 1) n) refl h)
    goes false is h = inl h

-- a registered unit that lets the advancer pass writes with the clock
pub registered_passes :
    (b now e w : ℕ) (o : Option ℕ) → FIRST_CLOCK ≤ b → b ≤ e → e ≤ now → w ≡ announced e o → lets_pass now w ≡ true → e ≡ now
registered_passes b now e w o low begun reached is pass = ⊎_elim
    (λ (z : (w == 0) ≡ true). let z' : w ≡ 0 = eq_true w 0 z in absurd (some o is z'))
    (λ (z : nat_le now (w / 2) ≡ true).
    let z' : now ≤ w / 2 = le_true now (w / 2) z in let h : w / 2 ≡ e = half o is in omega arith)
    (either_true (w == 0) (nat_le now (w / 2)) pass)
  where
    some : (o : Option ℕ) → w ≡ announced e o → w ≡ 0 → ⊥
    some None is z = omega arith
    some (Some k) is z = omega arith

    half : (o : Option ℕ) → w ≡ announced e o → w / 2 ≡ e
    half None is = omega arith
    half (Some k) is = omega arith

-- other units are passed than before
pub stage_passed :
    (b now : ℕ) (before behind : Type 0) (s : UnitStage)
    → ((e : ℕ) → s ≡ Within e → IsRegistered b now before e → behind → e ≡ now) → StageFits b now before s
    → StageFits b now behind s
stage_passed b now before behind Idle more k = tt
stage_passed b now before behind (Told e) more k = tt
stage_passed b now before behind (Within e) more k =
    record { begun = k.begun; reached = k.reached; near = k.near; same = more e refl k }
stage_passed b now before behind (Closing s) more k = tt

-- the clock moves on where the unit was passed
pub stage_later :
    (b now later : ℕ) (passed behind : Type 0) (s : UnitStage) → passed → (behind → ⊥) → later ≡ now + 1 → StageFits b now passed s
    → StageFits b later behind s
stage_later b now later passed behind Idle x none is k = tt
stage_later b now later passed behind (Told e) x none is k = tt
stage_later b now later passed behind (Within e) x none is k =
    let same : e ≡ now = k.same x in
    let begun = k.begun in
    record { begun = begun; reached = omega arith; near = omega arith; same = λ z. absurd (none z) }
stage_later b now later passed behind (Closing s) x none is k = tt
