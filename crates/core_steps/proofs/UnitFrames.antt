-- What is true of a unit stays true where its records, its retired slots and its history stay.
use Rattle.std.proofs.Common.{◌≡◌, ℕ, ◌≤◌, ◌⊎◌, zero, suc, List, sym, refl, ◌∙◌, subst, arith, Bool, true, false}
use Rattle.std.specs.Prelude.{◌||◌, ◌==◌, if◌then◌else◌}
use Rattle.std.proofs.lemmas.Bool.{and_parts, eqb-true}
use Rattle.std.proofs.lemmas.List.Elements.{All-weaker}
use Rattle.mont_base.specs.declared.constants.TheConstants.{LAST}
use Rattle.mont_base.specs.declared.record.Held.{Held}
use Rattle.mont_base.specs.declared.operation.Entry.{Entry}
use Rattle.mont_base.specs.Layout.{Shape}
use Rattle.mont_base.specs.State.{State}
use Rattle.mont_base.specs.History.{IsLegal}
use Rattle.mont_laws.specs.declared.retiring.Retired.{Retired}
use Rattle.core_steps.specs.declared.parts.UnitPart.{UnitPart}
use Rattle.core_steps.specs.declared.parts.UnitStage.{UnitStage}
use Rattle.core_steps.specs.declared.parts.UnitStage.TheVariants.{Idle, Told, Within, Closing}
use Rattle.core_steps.specs.Clock.{next_clock}
use Rattle.core_steps.specs.Stages.{is_idle, is_told, is_within, is_unfrozen, limit_of}
use Rattle.core_steps.specs.Announcing.{can_tell, after_tell, can_confirm, confirmed, after_confirm, after_withdraw, after_freeze}
use Rattle.core_steps.specs.Storing.{after_store_field, after_store_label, after_store}
use Rattle.core_steps.specs.Closing.{can_load_durable, after_load_durable, IsFirstDue, IsFirstLost}
use Rattle.core_steps.specs.Sound.{StageFits}
use Rattle.core_steps.specs.UnitClauses.{HasVersions, ShowsCuts, AreReached, WaitsAsTold, ClosesDue, UnitFits}

-- ---- what is reached by one epoch is reached by any later one
pub reached_later : (low high : ℕ) (rs : List Held) (h : List Entry) → low ≤ high → AreReached low rs h → AreReached high rs h
reached_later low high rs h le r = record {
  of_records = All-weaker (λ (q : Held). q.label.epoch ≤ low) (λ (q : Held). q.label.epoch ≤ high)
      (λ q l. omega (arith, l)) rs r.of_records;
  of_entries = All-weaker (λ (e : Entry). e.epoch ≤ low) (λ (e : Entry). e.epoch ≤ high)
      (λ e l. omega (arith, l)) h r.of_entries;
}

-- the limit rises with the clock
pub limit_later : (now later : ℕ) (stage : UnitStage) → now ≤ later → limit_of now stage ≤ limit_of later stage
limit_later now later Idle le = le
limit_later now later (Told e) le = le
limit_later now later (Within e) le = omega arith
limit_later now later (Closing slot) le = le

-- and is never above it, where a registered unit's epoch is reached
pub limit_low : (b now : ℕ) (passed : Type 0) (stage : UnitStage) → StageFits b now passed stage → limit_of now stage ≤ now
limit_low b now passed Idle fits = omega arith
limit_low b now passed (Told e) fits = omega arith
limit_low b now passed (Within e) fits = fits.reached
limit_low b now passed (Closing slot) fits = omega arith

-- it is the clock where no unit is registered
pub limit_out : (now : ℕ) (stage : UnitStage) → is_within stage ≡ false → limit_of now stage ≡ now
limit_out now Idle out = refl
limit_out now (Told e) out = refl
limit_out now (Within e) out = absurd (cc)
limit_out now (Closing slot) out = refl

-- ---- each clause goes by the fields that it speaks of: versions,
same_versions : (b : ℕ) (rs qs : List Held) (ts us : List Retired) → qs ≡ rs → us ≡ ts → HasVersions b rs ts → HasVersions b qs us
same_versions b rs qs ts us e f h =
    subst (λ (x : List Held × List Retired). HasVersions b x.0 x.1) (λ k. (sym e k, sym f k)) h

-- objects,
same_cuts : (s : Shape) (d u : ℕ) (st : State) (rs qs : List Held) (h g : List Entry) → qs ≡ rs → g ≡ h → ShowsCuts s u st d rs h
    → ShowsCuts s u st d qs g
same_cuts s d u st rs qs h g e f k = subst (λ (x : List Held × List Entry). ShowsCuts s u st d x.0 x.1) (λ k. (sym e k, sym f k)) k

-- what is reached,
same_reached : (n : ℕ) (rs qs : List Held) (h g : List Entry) → qs ≡ rs → g ≡ h → AreReached n rs h → AreReached n qs g
same_reached n rs qs h g e f k = subst (λ (x : List Held × List Entry). AreReached n x.0 x.1) (λ k. (sym e k, sym f k)) k

-- and room
same_room : (b : ℕ) (st : State) (known kept : ℕ) (ts us : List Retired) (h g : List Entry) → kept ≡ known → us ≡ ts → g ≡ h
    → WaitsAsTold b st known ts h → WaitsAsTold b st kept us g
same_room b st known kept ts us h g e f i k =
    subst (λ (x : ℕ × List Retired × List Entry). WaitsAsTold b st x.0 x.1 x.2) (λ k. (sym e k, sym f k, sym i k)) k

-- a slot that is due stays due where nothing of it changes
pub closes_same : (stage : UnitStage) (p q : UnitPart) → q.retired ≡ p.retired → q.lost ≡ p.lost → q.durable ≡ p.durable
    → ClosesDue stage p → ClosesDue stage q
closes_same Idle p q e f i h = tt
closes_same (Told n) p q e f i h = tt
closes_same (Within n) p q e f i h = tt
closes_same (Closing slot) p q e f i h =
    subst (λ (x : List Retired × List ℕ × ℕ). IsFirstDue x.0 x.2 slot ⊎ IsFirstLost x.1 slot) (λ k. (sym e k, sym f k, sym i k)) h

-- ---- what the conditions of the steps say of the stage
-- a unit that may announce an epoch isn't registered
told_out : (p : UnitPart) (e : ℕ) → can_tell p e ≡ true → is_within p.stage ≡ false
told_out p e can = by p.stage (and_parts _ _ (and_parts _ _ can).1).0
  where
    by : (stage : UnitStage) → (is_idle stage || is_told stage) ≡ true → is_within stage ≡ false
    by Idle h = refl
    by (Told n) h = refl
    by (Within n) h = absurd (cc)
    by (Closing slot) h = refl

-- one that may be registered has announced its epoch
confirm_told : (p : UnitPart) → can_confirm p ≡ true → is_told p.stage ≡ true
confirm_told p can = (and_parts (is_unfrozen p) (is_told p.stage) can).1

-- it was limited by the clock,
told_limit : (now : ℕ) (stage : UnitStage) → is_told stage ≡ true → limit_of now stage ≡ now
told_limit now Idle told = refl
told_limit now (Told e) told = refl
told_limit now (Within e) told = absurd (cc)
told_limit now (Closing slot) told = refl

-- and still is
confirmed_limit : (now : ℕ) (stage : UnitStage) → is_told stage ≡ true → limit_of now (confirmed now stage) ≡ now
confirmed_limit now Idle told = absurd (cc)
confirmed_limit now (Told e) told = by (now == e) refl
  where
    by : (t : Bool) → (now == e) ≡ t → limit_of now (if t then Within e else Told e) ≡ now
    by true same = sym (eqb-true now e same)
    by false other = refl
confirmed_limit now (Within e) told = absurd (cc)
confirmed_limit now (Closing slot) told = absurd (cc)

-- and closes nothing
confirmed_closes : (now : ℕ) (stage : UnitStage) (q : UnitPart) → is_told stage ≡ true → ClosesDue (confirmed now stage) q
confirmed_closes now Idle q told = absurd (cc)
confirmed_closes now (Told e) q told = by (now == e)
  where
    by : (t : Bool) → ClosesDue (if t then Within e else Told e) q
    by true = tt
    by false = tt
confirmed_closes now (Within e) q told = absurd (cc)
confirmed_closes now (Closing slot) q told = absurd (cc)

-- nor does an idle one
idle_closes : (stage : UnitStage) (q : UnitPart) → is_idle stage ≡ true → ClosesDue stage q
idle_closes Idle q idle = tt
idle_closes (Told e) q idle = absurd (cc)
idle_closes (Within e) q idle = absurd (cc)
idle_closes (Closing slot) q idle = absurd (cc)

module _ (s : Shape) (b d u : ℕ) (st : State) where
  -- The part may change its stage, what it writes and who was cut, and the clock may rise.
  pub unit_same : (now later : ℕ) (p q : UnitPart) → q.records ≡ p.records → q.retired ≡ p.retired → q.history ≡ p.history
      → q.durable ≡ p.durable → AreReached (limit_of later q.stage) p.records p.history → ClosesDue q.stage q
      → UnitFits s b now d u st p → UnitFits s b later d u st q
  unit_same now later p q rs ts h known reached closing fits = record {
    versions = same_versions b p.records q.records p.retired q.retired rs ts fits.versions;
    objects = same_cuts s d u st p.records q.records p.history q.history rs h fits.objects;
    legal = subst (IsLegal s u st b) (sym h) fits.legal;
    reached = same_reached (limit_of later q.stage) p.records q.records p.history q.history rs h reached;
    room = same_room b st p.durable q.durable p.retired q.retired p.history q.history known ts h fits.room;
    closing = closing;
  }

  -- Tell
  pub unit_tell : (now e : ℕ) (p : UnitPart) → can_tell p e ≡ true → UnitFits s b now d u st p → UnitFits s b now d u st (after_tell p e)
  unit_tell now e p can fits = unit_same now now p (after_tell p e) refl refl refl refl
      (subst (λ (n : ℕ). AreReached n p.records p.history) (limit_out now p.stage (told_out p e can)) fits.reached) tt fits

  -- Confirm
  pub unit_confirm : (now : ℕ) (p : UnitPart) → can_confirm p ≡ true → UnitFits s b now d u st p
      → UnitFits s b now d u st (after_confirm p now)
  unit_confirm now p can fits = unit_same now now p (after_confirm p now) refl refl refl refl
      (subst (λ (n : ℕ). AreReached n p.records p.history)
      (told_limit now p.stage (confirm_told p can) ∙ sym (confirmed_limit now p.stage (confirm_told p can))) fits.reached)
      (confirmed_closes now p.stage (after_confirm p now) (confirm_told p can)) fits

  -- Withdraw, of a unit that is registered in an epoch that the clock has reached
  pub unit_withdraw : (now : ℕ) (passed : Type 0) (p : UnitPart) → StageFits b now passed p.stage → UnitFits s b now d u st p
      → UnitFits s b now d u st (after_withdraw p)
  unit_withdraw now passed p stage fits = unit_same now now p (after_withdraw p) refl refl refl refl
      (reached_later (limit_of now p.stage) now p.records p.history (limit_low b now passed p.stage stage) fits.reached) tt fits

  -- Freeze
  pub unit_freeze : (now k : ℕ) (p : UnitPart) → UnitFits s b now d u st p → UnitFits s b now d u st (after_freeze p k)
  unit_freeze now k p fits = unit_same now now p (after_freeze p k) refl refl refl refl fits.reached
      (closes_same p.stage p (after_freeze p k) refl refl refl fits.closing) fits

  -- Store
  pub unit_store : (now slot field value : ℕ) (p : UnitPart) → UnitFits s b now d u st p
      → UnitFits s b now d u st (after_store p slot field value)
  unit_store now slot zero value p fits = unit_same now now p (after_store_label p slot) refl refl refl refl fits.reached
      (closes_same p.stage p (after_store_label p slot) refl refl refl fits.closing) fits
  unit_store now slot (suc n) value p fits = unit_same now now p (after_store_field p slot (suc n) value) refl refl refl refl fits.reached
      (closes_same p.stage p (after_store_field p slot (suc n) value) refl refl refl fits.closing) fits

  -- SetClock: the clock rises
  pub unit_clock : (now later : ℕ) (p : UnitPart) → now ≤ later → UnitFits s b now d u st p → UnitFits s b later d u st p
  unit_clock now later p le fits = unit_same now later p p refl refl refl refl
      (reached_later (limit_of now p.stage) (limit_of later p.stage) p.records p.history (limit_later now later p.stage le) fits.reached)
      fits.closing fits

-- up to the last one there is a next clock
pub next_above : (now : ℕ) → now ≤ LAST → now ≤ next_clock now
next_above now low = omega arith

-- PersistClock: the durable clock rises
pub unit_durable : (s : Shape) (b now d e u : ℕ) (st : State) (p : UnitPart) → d ≤ e → UnitFits s b now d u st p → UnitFits s b now e u st p
unit_durable s b now d e u st p le fits = record {
  versions = fits.versions;
  objects = λ x low. fits.objects x (omega arith);
  legal = fits.legal;
  reached = fits.reached;
  room = fits.room;
  closing = fits.closing;
}

-- LoadDurable: the unit learns a durable clock that is not below what it knew
pub unit_load_durable : (s : Shape) (b now d u : ℕ) (st : State) (p : UnitPart) → can_load_durable p ≡ true → p.durable ≤ d
    → UnitFits s b now d u st p → UnitFits s b now d u st (after_load_durable p d)
unit_load_durable s b now d u st p can known fits = record {
  versions = fits.versions;
  objects = fits.objects;
  legal = fits.legal;
  reached = fits.reached;
  room = λ x begun low. fits.room x begun (omega arith);
  closing = idle_closes p.stage (after_load_durable p d) ((and_parts (is_unfrozen p) (is_idle p.stage) can).1);
}
