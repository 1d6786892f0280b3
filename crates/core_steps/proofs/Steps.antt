-- Every allowed step keeps a core sound, and so does every run of them.
use Rattle.std.proofs.Common.{◌≡◌, ℕ, zero, suc, [], ◌∷◌, sym, refl, subst, inl, inr, ⊎_elim, true}
use Rattle.std.specs.Prelude.{slice_get, Option, Some, None}
use Rattle.mont_base.specs.Layout.{word_of}
use Rattle.core_steps.specs.declared.event.Event.TheVariants as events
use Rattle.core_steps.specs.declared.parts.Core.{Core}
use Rattle.core_steps.specs.declared.parts.UnitPart.{UnitPart}
use Rattle.core_steps.specs.declared.parts.CallerPart.{CallerPart}
use Rattle.core_steps.specs.declared.parts.Part.{Part}
use Rattle.core_steps.specs.declared.parts.Part.TheVariants as parts
use Rattle.core_steps.specs.declared.parts.Note.{Note}
use Rattle.core_steps.specs.declared.parts.Writing.{Writing}
use Rattle.core_steps.specs.Places.{RowHas, on_row}
use Rattle.core_steps.specs.Clock.{clock}
use Rattle.core_steps.specs.Stages.{epoch_of}
use Rattle.core_steps.specs.Announcing.{can_tell, tell, can_confirm, confirm, can_withdraw, withdraw, can_freeze, freeze}
use Rattle.core_steps.specs.Storing.{LooksFree, IsFreeSlot, IsTurn, CanStore, store}
use Rattle.core_steps.specs.CallAnswers.{CanLeave, CanRead, entry_of, leave, read}
use Rattle.core_steps.specs.Closing.{can_load_durable, load_durable, see_durable, CanClose, close_label, CanPersistClose, persist_close}
use Rattle.core_steps.specs.Notes.{IsTrueNote, hear, join}
use Rattle.core_steps.specs.Events.{IsSettled, CanLoadDurable, closing_of, loaded_durable, after}
use Rattle.core_steps.specs.Sound.{Base, IsSound}
use Rattle.core_steps.specs.CoreRuns.{StepsKeepSoundness, SoundnessLasts}
use Rattle.core_steps.proofs.RoleFacts.{free_slot}
use Rattle.core_steps.proofs.AnnounceLaws.{tell_law, confirm_law, withdraw_law, freeze_law, load_durable_law}
use Rattle.core_steps.proofs.StoreLaws.{some_slots, some_clock, store_law}
use Rattle.core_steps.proofs.AnswerLaws.{leave_law, read_law}
use Rattle.core_steps.proofs.CloseLaws.{close_label_law, persist_close_law}
use Rattle.core_steps.proofs.AdvanceLaws.{check_law, load_word_law, persist_word_law, set_clock_law, persist_clock_law}
use Rattle.core_steps.proofs.HearLaws.{see_durable_law, hear_law}

-- what follows from a condition on the item that was found
on_found :
    {A : Type 0} (P : Core → Type 0) (o : Option A) (c : Core) (Q : A → Type 0) (g : A → Core)
    → ((x : A) → o ≡ Some x → Q x → P (g x)) → RowHas o Q → P (on_row o c g)
on_found P None c Q g law may = absurd may
on_found P (Some x) c Q g law may = law x refl may

-- ---- Store, into a slot that looks free
turn_free :
    (base : Base) (c : Core) (u : ℕ) (p : UnitPart) (slot n : ℕ) → IsSound base c → slice_get c.units u ≡ Some p
    → IsTurn (LooksFree c.layout c.cur c.dur u p slot) p slot n → IsTurn (IsFreeSlot c.layout u p slot) p slot n
turn_free base c u p slot n s at turn = ⊎_elim
    (λ (t : (n ≡ 0) × (p.writing ≡ None) × LooksFree c.layout c.cur c.dur u p slot).
    inl (
      t.0,
      t.1,
      free_slot c.layout (clock c) c.cur c.dur c.units u p s.slots at (some_slots c.layout s.sizes.layout) s.sizes.unit_count
          slot t.2 t.1 (some_clock base c s),
    ))
    (λ (t : (w : Writing) × (p.writing ≡ Some w) × (w.slot ≡ slot) × (w.stored ≡ n)). inr t)
    turn

pub store_free :
    (base : Base) (c : Core) (u : ℕ) (p : UnitPart) (slot field value : ℕ) → IsSound base c → slice_get c.units u ≡ Some p
    → CanStore (LooksFree c.layout c.cur c.dur u p slot) u p slot field value → CanStore (IsFreeSlot c.layout u p slot) u p slot field value
store_free base c u p slot zero value s at can = can
store_free base c u p slot (suc n) value s at can = record {
  unfrozen = can.unfrozen;
  epoch = can.epoch;
  stage = can.stage;
  field = can.field;
  turn = turn_free base c u p slot n s at can.turn;
  whole = can.whole;
  valid = can.valid;
  in_slot = can.in_slot;
  of_epoch = can.of_epoch;
  before = can.before;
  stores = can.stores;
}

-- ---- steps of callers and of the advancer
durable_law : (base : Base) (c : Core) (part : Part) → IsSound base c → CanLoadDurable c part → IsSound base (loaded_durable c part)
durable_law base c (parts.Unit u) s may =
    on_found (IsSound base) (slice_get c.units u) c (λ p. can_load_durable p ≡ true) (λ p. load_durable c u p)
    (λ p at can. load_durable_law base c u p s at can) may
durable_law base c parts.Advancer s may = absurd may
durable_law base c (parts.Caller k) s may =
    on_found (IsSound base) (slice_get c.callers k) c (λ _. Unit {0}) (λ q. see_durable c k q)
    (λ q at can. see_durable_law base c k q s at) may

join_law :
    (base : Base) (c : Core) (part : Part) (note : Note) → IsSound base c → IsTrueNote c note → IsSound base (join c part note)
join_law base c (parts.Unit u) note s is = s
join_law base c parts.Advancer note s is = s
join_law base c (parts.Caller k) note s is = by (slice_get c.callers k) refl
  where
    by : (o : Option CallerPart) → slice_get c.callers k ≡ o → IsSound base (on_row o c (λ q. hear c k q note))
    by None e = s
    by (Some q) e = hear_law base c k q note s e is

-- ---- all steps
pub allowed_law : StepsKeepSoundness
allowed_law base c (events.Look u) s may = s
allowed_law base c (events.Tell u e) s may =
    on_found (IsSound base) (slice_get c.units u) c (λ p. can_tell p e ≡ true) (λ p. tell c u p e)
    (λ p at can. tell_law base c u p e s may.0 at can) may.1
allowed_law base c (events.Confirm u) s may =
    on_found (IsSound base) (slice_get c.units u) c (λ p. can_confirm p ≡ true) (λ p. confirm c u p)
    (λ p at can. confirm_law base c u p s at can) may.1
allowed_law base c (events.Store u slot field value) s may =
    on_found (IsSound base) (slice_get c.units u) c
    (λ p. CanStore (LooksFree c.layout c.cur c.dur u p slot) u p slot field value × IsSettled c.cur c.dur (word_of slot field))
    (λ p. store c u p slot field value)
    (λ p at can. store_law base c u p slot field value s at (store_free base c u p slot field value s at can.0)) may.1
allowed_law base c (events.Leave u k op reply) s may =
    on_found (IsSound base) (slice_get c.units u) c
    (λ p. RowHas (slice_get c.callers k) (λ q. CanLeave c.layout u p q op reply (epoch_of p.stage)))
    (λ p. on_row (slice_get c.callers k) c (λ q. leave c u p k q (entry_of k q op reply (epoch_of p.stage))))
    (λ p at can. on_found (IsSound base) (slice_get c.callers k) c (λ q. CanLeave c.layout u p q op reply (epoch_of p.stage))
    (λ q. leave c u p k q (entry_of k q op reply (epoch_of p.stage)))
    (λ q by can. leave_law base c u p k q op reply (epoch_of p.stage) s at by can) can) may.1
allowed_law base c (events.Read u k op reply) s may =
    on_found (IsSound base) (slice_get c.units u) c
    (λ p. RowHas (slice_get c.callers k) (λ q. CanRead c.layout u p q op reply))
    (λ p. on_row (slice_get c.callers k) c (λ q. read c u p k q (entry_of k q op reply (clock c))))
    (λ p at can. on_found (IsSound base) (slice_get c.callers k) c (λ q. CanRead c.layout u p q op reply)
    (λ q. read c u p k q (entry_of k q op reply (clock c)))
    (λ q by can. read_law base c u p k q op reply s at by can) can) may.1
allowed_law base c (events.Withdraw u) s may =
    on_found (IsSound base) (slice_get c.units u) c (λ p. can_withdraw p ≡ true) (λ p. withdraw c u p)
    (λ p at can. withdraw_law base c u p s at can) may.1
allowed_law base c (events.Freeze u k) s may =
    on_found (IsSound base) (slice_get c.units u) c (λ p. RowHas (slice_get c.callers k) (λ _. can_freeze p ≡ true))
    (λ p. on_row (slice_get c.callers k) c (λ q. freeze c u p k q))
    (λ p at can. on_found (IsSound base) (slice_get c.callers k) c (λ _. can_freeze p ≡ true) (λ q. freeze c u p k q)
    (λ q by can. freeze_law base c u p k q s at by can) can) may.1
allowed_law base c (events.LoadDurable part) s may = durable_law base c part s may
allowed_law base c (events.CloseLabel u slot) s may =
    on_found (IsSound base) (slice_get c.units u) c (λ p. CanClose p slot) (λ p. close_label c u p slot)
    (λ p at can. close_label_law base c u p slot s at can) may
allowed_law base c (events.PersistClose u) s may =
    on_found (IsSound base) (slice_get c.units u) c (λ p. (slot : ℕ) × CanPersistClose p slot)
    (λ p. persist_close c u p (closing_of p.stage))
    (λ p at can. subst (λ (n : ℕ). IsSound base (persist_close c u p n)) (λ i. closing_of (sym can.1.stage i))
    (persist_close_law base c u p can.0 s at can.1)) may
allowed_law base c events.Check s may = check_law base c s may.0 may.1
allowed_law base c events.LoadWord s may = load_word_law base c s may.1
allowed_law base c events.PersistWord s may = persist_word_law base c s may.1
allowed_law base c events.SetClock s may = set_clock_law base c s may.1
allowed_law base c events.PersistClock s may = persist_clock_law base c s may.1
allowed_law base c (events.Split part) s may = s
allowed_law base c (events.Join part note) s may = join_law base c part note s may.1
allowed_law base c (events.Exchange part) s may = s

pub all_law : SoundnessLasts
all_law base c [] s may = s
all_law base c (e ∷ es) s may = all_law base (after c e) es (allowed_law base c e s may.0) may.1
