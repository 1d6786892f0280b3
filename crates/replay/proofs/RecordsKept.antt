-- The newest records that are kept beside units, from event to event.
use Rattle.std.proofs.Common.{◌≡◌, ◌≢◌, ℕ, suc, zero, Option, Some, None, List, slice_get, map, replicate, refl, sym, ap, ◌∙◌, subst, ⊎_elim}
use Rattle.std.specs.Prelude.{slice_set, option_map}
use Rattle.std.specs.BTreeMap.{values}
use Rattle.std.proofs.lemmas.Option.{slice_get-map}
use Rattle.mont_base.specs.declared.record.Held.{Held}
use Rattle.mont_base.specs.declared.operation.Op.{Op}
use Rattle.mont_base.specs.declared.operation.Reply.{Reply}
use Rattle.core_steps.specs.declared.event.Event.{Event}
use Rattle.core_steps.specs.declared.event.Event.TheVariants as events
use Rattle.core_steps.specs.declared.parts.Core.{Core}
use Rattle.core_steps.specs.declared.parts.Part.TheVariants as parts
use Rattle.core_steps.specs.declared.parts.UnitPart.{UnitPart}
use Rattle.core_steps.specs.Places.{on_row}
use Rattle.core_steps.specs.Stages.{epoch_of}
use Rattle.core_steps.specs.Clock.{clock, durable_clock}
use Rattle.core_steps.specs.Notes.{hear}
use Rattle.core_steps.specs.Announcing.{tell, after_tell, confirm, after_confirm, withdraw, after_withdraw, freeze, after_freeze}
use Rattle.core_steps.specs.Storing.{store, after_store}
use Rattle.core_steps.specs.CallAnswers.{entry_of, read, after_leave, after_read}
use Rattle.core_steps.specs.Closing.{load_durable, after_load_durable, see_durable, close_label, after_close_label, persist_close, after_persist_close}
use Rattle.core_steps.specs.Events.{IsAllowed, after, closing_of}
use Rattle.core_steps.proofs.Rows.{row_set}
use Rattle.core_answer.specs.Newest.{HaveSameNewest}
use Rattle.replay.specs.declared.newest_kept.NewestKept.{NewestKept}
use Rattle.replay.specs.NewestBeside.{IsKeptOf, AreKept}
use Rattle.replay.proofs.StatesKept.{unit_row, caller_row, both_rows}
use Rattle.replay.proofs.UnitStates.{row_of, leave_row}

-- ---- units whose records stay
abbrev records : UnitPart → List Held
records p = p.records

store_kept : (p : UnitPart) (slot field value : ℕ) → records (after_store p slot field value) ≡ records p
store_kept p slot zero value = refl
store_kept p slot (suc n) value = refl

-- an event that changes no records
abbrev pub IsRecordless : Event → Type 0
IsRecordless (events.Leave u k o r) = ⊥
IsRecordless (events.PersistClose u) = ⊥
IsRecordless _ = Unit {0}

same_records : (c : Core) (e : Event) → IsRecordless e → map records (after c e).units ≡ map records c.units
same_records c (events.Look u) less = refl
same_records c (events.Tell u e) less = unit_row records c u _ (λ p. tell c u p e) (λ p. after_tell p e) refl (λ p. refl) (λ p. refl)
same_records c (events.Confirm u) less =
    unit_row records c u _ (λ p. confirm c u p) (λ p. after_confirm p (clock c)) refl (λ p. refl) (λ p. refl)
same_records c (events.Store u slot field value) less =
    unit_row records c u _ (λ p. store c u p slot field value) (λ p. after_store p slot field value) refl (λ p. refl)
    (λ p. store_kept p slot field value)
same_records c (events.Leave u k op reply) less = absurd less
same_records c (events.Read u k op reply) less =
    both_rows records c u _ _ (λ p q. read c u p k q (entry_of k q op reply (clock c)))
    (λ p q. after_read p (entry_of k q op reply (clock c))) refl
    (λ p q. refl) (λ p q. refl)
same_records c (events.Withdraw u) less = unit_row records c u _ (λ p. withdraw c u p) (λ p. after_withdraw p) refl (λ p. refl) (λ p. refl)
same_records c (events.Freeze u k) less =
    both_rows records c u _ _ (λ p q. freeze c u p k q) (λ p q. after_freeze p k) refl (λ p q. refl) (λ p q. refl)
same_records c (events.LoadDurable (parts.Unit u)) less =
    unit_row records c u _ (λ p. load_durable c u p) (λ p. after_load_durable p (durable_clock c)) refl (λ p. refl) (λ p. refl)
same_records c (events.LoadDurable parts.Advancer) less = refl
same_records c (events.LoadDurable (parts.Caller k)) less = caller_row records c _ (λ q. see_durable c k q) (λ q. refl)
same_records c (events.CloseLabel u slot) less =
    unit_row records c u _ (λ p. close_label c u p slot) (λ p. after_close_label p slot) refl (λ p. refl) (λ p. refl)
same_records c (events.PersistClose u) less = absurd less
same_records c events.Check less = refl
same_records c events.LoadWord less = refl
same_records c events.PersistWord less = refl
same_records c events.SetClock less = refl
same_records c events.PersistClock less = refl
same_records c (events.Split part) less = refl
same_records c (events.Join (parts.Unit u) note) less = refl
same_records c (events.Join parts.Advancer note) less = refl
same_records c (events.Join (parts.Caller k) note) less = caller_row records c _ (λ q. hear c k q note) (λ q. refl)
same_records c (events.Exchange part) less = refl

pub recordless_of : (e : Event) → ((u k : ℕ) (o : Op) (r : Reply) → e ≡ events.Leave u k o r → ⊥)
    → ((u : ℕ) → e ≡ events.PersistClose u → ⊥)
    → IsRecordless e
recordless_of (events.Leave u k o r) l m = l u k o r refl
recordless_of (events.PersistClose u) l m = m u refl
recordless_of _ l m = tt

-- ---- what is kept of units with the same records
kept_same : (ns : List (Option NewestKept)) (us vs : List UnitPart) → map records vs ≡ map records us → AreKept ns us → AreKept ns vs
kept_same ns us vs same are u n at p here = by (slice_get us u) refl
  where
    found : option_map records (slice_get us u) ≡ Some p.records
    found =
        sym (slice_get-map records us u) ∙ ap (λ (rs : List (List Held)). slice_get rs u) (sym same)
        ∙ slice_get-map records vs u ∙ ap (option_map records) here

    by : (o : Option UnitPart) → slice_get us u ≡ o → HaveSameNewest (values n.records) p.records
    by None e =
        let none : ◌≡◌ {A = Option (List Held)} None (Some p.records) = ap (option_map records) (sym e) ∙ found in
        absurd (cc)
    by (Some q) e =
        let both : ◌≡◌ {A = Option (List Held)} (Some q.records) (Some p.records) = ap (option_map records) (sym e) ∙ found in
        let is : q.records ≡ p.records = cc in
        subst (HaveSameNewest (values n.records)) is (are u n at q e)

pub recordless_kept : (c d : Core) (e : Event) (ns : List (Option NewestKept)) → IsRecordless e → d ≡ after c e → AreKept ns c.units
    → AreKept ns d.units
recordless_kept c d e ns less made are =
    kept_same ns c.units d.units (ap (λ (k : Core). map records k.units) made ∙ same_records c e less) are

-- ---- where one unit is changed
-- what is kept of the others
set_kept : (ns : List (Option NewestKept)) (us : List UnitPart) (u : ℕ) (o : Option NewestKept) (q : UnitPart) → AreKept ns us
    → ((n : NewestKept) → o ≡ Some n → HaveSameNewest (values n.records) q.records) → AreKept (slice_set ns u o) (slice_set us u q)
set_kept ns us u o q are own v n at p here =
    ⊎_elim
    (λ a.
    ⊎_elim (λ b. subst (λ (y : UnitPart). HaveSameNewest (values n.records) y.records) b.1 (own n a.1)) (λ b. absurd (b.0 a.0))
    (row_set us u v q p here))
    (λ a. ⊎_elim (λ b. absurd (a.0 b.0)) (λ b. are v n a.1 p b.1) (row_set us u v q p here))
    (row_set ns u v o (Some n) at)

-- nothing kept is true of each unit
pub none_kept : (m : ℕ) (us : List UnitPart) → AreKept (replicate m None) us
none_kept m us u n at p here = absurd (by m u at)
  where
    by : (m u : ℕ) → slice_get (replicate m None) u ≡ Some (Some n) → ⊥
    by zero u e = let none : ◌≡◌ {A = Option (Option NewestKept)} None (Some (Some n)) = e in cc
    by (suc m) zero e = let none : ◌≡◌ {A = Option (Option NewestKept)} (Some None) (Some (Some n)) = e in cc
    by (suc m) (suc u) e = by m u e

-- what is forgotten of one is no harm
pub forgot : (ns : List (Option NewestKept)) (us : List UnitPart) (u : ℕ) → AreKept ns us → AreKept (slice_set ns u None) us
forgot ns us u are v n at p here =
    ⊎_elim (λ a. let no : ◌≡◌ {A = Option NewestKept} None (Some n) = a.1 in absurd (cc)) (λ a. are v n a.1 p here)
    (row_set ns u v None (Some n) at)

pub closed_kept : (c d : Core) (u : ℕ) (ns : List (Option NewestKept)) → d ≡ after c (events.PersistClose u) → AreKept ns c.units
    → AreKept (slice_set ns u None) d.units
closed_kept c d u ns made are = subst (λ (k : Core). AreKept (slice_set ns u None) k.units) (sym made) (by (slice_get c.units u) refl)
  where
    by : (o : Option UnitPart) → slice_get c.units u ≡ o
        → AreKept (slice_set ns u None) (on_row o c (λ p. persist_close c u p (closing_of p.stage))).units
    by None e = forgot ns c.units u are
    by (Some p) e =
        set_kept ns c.units u None (after_persist_close p (closing_of p.stage)) are
        (λ n no. let none : ◌≡◌ {A = Option NewestKept} None (Some n) = no in absurd (cc))

pub left_kept : (c d : Core) (u k : ℕ) (o : Op) (r : Reply) (ns : List (Option NewestKept)) (n : NewestKept)
    → IsAllowed c (events.Leave u k o r) → d ≡ after c (events.Leave u k o r) → IsKeptOf (values n.records) d.units u → AreKept ns c.units
    → AreKept (slice_set ns u (Some n)) d.units
left_kept c d u k o r ns n allowed made own are v m at p here =
    ⊎_elim
    (λ a.
    let both : ◌≡◌ {A = Option NewestKept} (Some n) (Some m) = a.1 in
    let is : n ≡ m = cc in
    subst (λ (y : NewestKept). HaveSameNewest (values y.records) p.records) is
    (own p (ap (λ (w : ℕ). slice_get d.units w) (sym a.0) ∙ here)))
    (λ a. are v m a.1 p (others a.0)) (row_set ns u v (Some n) (Some m) at)
  where
    others : v ≢ u → slice_get c.units v ≡ Some p
    others off =
        let a = row_of (slice_get c.units u) _ allowed.1 in
        let b = row_of (slice_get c.callers k) _ a.2 in
        let e = entry_of k b.0 o r (epoch_of a.0.stage) in
        ⊎_elim (λ y. absurd (off y.0)) (λ y. y.1)
        (row_set c.units u v (after_leave a.0 e) p
        (ap (λ (y : Core). slice_get y.units v) (sym (made ∙ leave_row c u k o r a.0 b.0 a.1 b.1)) ∙ here))
