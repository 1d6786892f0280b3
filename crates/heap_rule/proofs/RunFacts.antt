-- What lasts over all steps that were made since the store was opened: soundness from whatever recovery gives,
-- what this tells of a unit, and that each announced epoch is one.
use Rattle.std.proofs.Common.{◌≡◌, ℕ, zero, suc, ◌+◌, ◌≤◌, List, [], ◌∷◌, set, refl, sym, ◌∙◌, subst, inl, inr, arith, Bool, true, false}
use Rattle.std.specs.Prelude.{slice_get, Option, Some, None, ◌||◌, nat_le, ◌==◌, cond}
use Rattle.mont_base.specs.declared.constants.TheConstants.{FIRST_CLOCK, LAST}
use Rattle.mont_base.specs.Image.{clock_of, IsWellFormed, IsRecovered}
use Rattle.mont_base.specs.Layout.{Shape}
use Rattle.mont_base.specs.State.{State as Contents}
use Rattle.mont_laws.specs.SlotReadings.{IsRecordOf}
use Rattle.mont_laws.proofs.Members.{all_elements}
use Rattle.atomic_table.specs.Table.{State}
use Rattle.core_steps.specs.declared.event.Event.{Event}
use Rattle.core_steps.specs.declared.event.Event.TheVariants as events
use Rattle.core_steps.specs.declared.parts.CallerPart.{CallerPart}
use Rattle.core_steps.specs.declared.parts.Core.{Core}
use Rattle.core_steps.specs.declared.parts.Part.TheVariants as parts
use Rattle.core_steps.specs.declared.parts.UnitPart.{UnitPart}
use Rattle.core_steps.specs.declared.parts.UnitStage.{UnitStage}
use Rattle.core_steps.specs.declared.parts.UnitStage.TheVariants.{Idle, Told, Within, Closing}
use Rattle.core_steps.specs.Places.{EachAt, on_row}
use Rattle.core_steps.specs.Clock.{clock, durable_clock}
use Rattle.core_steps.specs.Stages.{Phase, Resting, UnderWay, Ahead, phase_of, epoch_of, is_unfrozen, is_idle, is_told}
use Rattle.core_steps.specs.Announcing.{can_tell, after_tell, confirmed, after_confirm, after_withdraw, after_freeze, tell, confirm, withdraw, freeze}
use Rattle.core_steps.specs.Storing.{after_store, store}
use Rattle.core_steps.specs.CallAnswers.{entry_of, after_leave, after_read, leave, read}
use Rattle.core_steps.specs.Closing.{after_load_durable, load_durable, see_durable, after_close_label, close_label, after_persist_close, persist_close}
use Rattle.core_steps.specs.Notes.{hear}
use Rattle.core_steps.specs.Events.{IsAllowed, closing_of, after}
use Rattle.core_steps.specs.Opened.{recovered, opened_at}
use Rattle.core_steps.specs.Sound.{Base, base_state, ClocksStand, announcement, IsSound}
use Rattle.core_steps.specs.UnitClauses.{UnitFits}
use Rattle.core_steps.proofs.Decisions.{both, le_true}
use Rattle.core_steps.proofs.RecoveredCores.{images_are_recovered}
use Rattle.core_steps.proofs.RoleFacts.{record_valid}
use Rattle.core_steps.proofs.RowFacts.{row_gives}
use Rattle.core_steps.proofs.Rows.{each_set}
use Rattle.core_steps.proofs.StartLaws.{recovered_cores_are_sound}
use Rattle.core_steps.proofs.Steps.{allowed_law}
use Rattle.heap_rule.specs.declared.rule.Opening.{Opening}
use Rattle.heap_rule.specs.declared.views.UnitKnown.{UnitKnown}
use Rattle.heap_rule.specs.declared.views.View.{View}
use Rattle.heap_rule.specs.Views.{Cell}
use Rattle.heap_rule.specs.Rule.{IsRun, ShowsCore, AreClean}
use Rattle.heap_rule.specs.Plays.{IsEpoch, IsAnnouncement}
use Rattle.heap_rule.specs.SoundUnits.{HasOwnSlots, IsSoundUnit}
use Rattle.heap_rule.proofs.RuleFrames.{Reached}
use Rattle.heap_rule.proofs.UsedSlots.{own_slots}

-- ---- soundness
run_sound : (base : Base) (start : Core) (es : List Event) (c : Core) → IsSound base start → IsRun start es c → IsSound base c
run_sound base start [] c sound run = subst (IsSound base) (sym run) sound
run_sound base start (e ∷ es) c sound run =
    subst (IsSound base) (sym run.3) (allowed_law base run.0 e (run_sound base start es run.0 sound run.1) run.2)

-- whatever recovery gives of the words with which the store was opened
pub always_sound : (o : Opening) → IsWellFormed o.layout o.words → (states : List Contents) → IsRecovered o.layout o.words states
    → (es : List Event) (c : Core) → IsRun (recovered o.layout o.words o.callers) es c → IsSound (opened_at (clock_of o.words) states) c
always_sound o well states is es c run =
    let start : Core = recovered o.layout o.words o.callers in
    run_sound (opened_at (clock_of o.words) states) start es c
    (recovered_cores_are_sound o.layout o.words states o.callers start well is (images_are_recovered o.layout o.words o.callers well).0)
    run

-- the clock is the durable one, or the next
pub clocks_near : (phase : Phase) (now durable : ℕ) → ClocksStand phase now durable → now ≤ durable + 1
clocks_near Resting now durable h = omega arith
clocks_near UnderWay now durable h = let same = h.same in omega arith
clocks_near Ahead now durable h = omega arith

-- what is told of a unit after a step
pub unit_sound : (o : Opening) (s : State Cell View) (k : ShowsCore o s) (d : Core) → Reached o k.states k.board.core d
    → d.layout ≡ k.board.core.layout → (h : UnitKnown) → slice_get d.units h.unit ≡ Some h.part → AreClean d.units h.clean
    → IsSoundUnit o (clock d) (durable_clock d) h
unit_sound o s k d r same h at clean =
    let clocks = r.sound.clocks in
    let layout : d.layout ≡ o.layout = same ∙ k.layout in
    let slots = r.sound.slots in
    let unit = r.sound.units h.unit h.part at in record {
      accepted = k.accepted;
      begun = clocks.begun;
      behind = clocks.behind;
      near = clocks_near (phase_of d.advancer) (clock d) (durable_clock d) clocks.stand;
      last = clocks.last;
      known = clocks.of_units h.unit h.part at;
      valid = all_elements (IsRecordOf h.unit) h.part.records
          (λ x c. record_valid d.layout (clock d) d.cur d.dur d.units h.unit h.part slots at x c);
      clean = clean h.unit h.part at;
      slots = subst (λ (l : Shape). HasOwnSlots l h.unit h.part) layout
          (own_slots d.layout (clock d) d.cur d.dur d.units h.unit h.part slots at unit.versions.apart);
      fits = λ states is. subst (λ (l : Shape). UnitFits l (clock_of o.words) (clock d) (durable_clock d) h.unit
          (base_state (opened_at (clock_of o.words) states) h.unit) h.part) layout
          ((always_sound o k.accepted states is r.events d r.run).units h.unit h.part at);
    }

-- ---- announcements
abbrev HasEpoch : UnitStage → Type 0
HasEpoch (Told e) = IsEpoch e
HasEpoch (Within e) = IsEpoch e
HasEpoch _ = Unit {0}

abbrev HaveEpochs : List UnitPart → Type 0
HaveEpochs = EachAt (λ u p. HasEpoch p.stage)

-- a unit that there is changes its part
one_changes : (c : Core) (u : ℕ) (g : UnitPart → Core) → HaveEpochs c.units
    → ((p : UnitPart) → slice_get c.units u ≡ Some p → HaveEpochs (g p).units) → HaveEpochs (on_row (slice_get c.units u) c g).units
one_changes c u g all law = by (slice_get c.units u) refl
  where
    by : (o : Option UnitPart) → slice_get c.units u ≡ o → HaveEpochs (on_row o c g).units
    by None e = all
    by (Some p) e = law p e

-- a caller that there is changes its own
caller_changes : (c : Core) (o : Option CallerPart) (g : CallerPart → Core) → HaveEpochs c.units
    → ((q : CallerPart) → HaveEpochs (g q).units) → HaveEpochs (on_row o c g).units
caller_changes c None g all law = all
caller_changes c (Some q) g all law = law q

part_set : (units : List UnitPart) (u : ℕ) (q : UnitPart) → HaveEpochs units → HasEpoch q.stage → HaveEpochs (set units u q)
part_set units u q all mine = each_set (λ v p. HasEpoch p.stage) units u q (λ v p off is. all v p is) mine

told_epoch : (p : UnitPart) (e : ℕ) → can_tell p e ≡ true → IsEpoch e
told_epoch p e may =
    let range = both (nat_le FIRST_CLOCK e) (nat_le e LAST)
    (both (is_idle p.stage || is_told p.stage) _ (both (is_unfrozen p) _ may).1).1 in
    record { low = le_true FIRST_CLOCK e range.0; high = le_true e LAST range.1 }

confirmed_epoch : (now : ℕ) (stage : UnitStage) → HasEpoch stage → HasEpoch (confirmed now stage)
confirmed_epoch now Idle h = tt
confirmed_epoch now (Told e) h = by (now == e)
  where
    by : (b : Bool) → HasEpoch (cond b (Within e) (Told e))
    by true = h
    by false = h
confirmed_epoch now (Within e) h = h
confirmed_epoch now (Closing slot) h = tt

stored_stage : (p : UnitPart) (slot field value : ℕ) → p.stage ≡ (after_store p slot field value).stage
stored_stage p slot zero value = refl
stored_stage p slot (suc n) value = refl

-- every step leaves announced epochs that are ones
epochs_last : (c : Core) (e : Event) → HaveEpochs c.units → IsAllowed c e → HaveEpochs (after c e).units
epochs_last c (events.Look u) all may = all
epochs_last c (events.Tell u e) all may =
    let found = row_gives (λ p. can_tell p e ≡ true) (slice_get c.units u) may.1 in
    one_changes c u (λ p. tell c u p e) all (λ p at. part_set c.units u (after_tell p e) all (told_epoch found.0 e found.2))
epochs_last c (events.Confirm u) all may = one_changes c u (λ p. confirm c u p) all
    (λ p at. part_set c.units u (after_confirm p (clock c)) all (confirmed_epoch (clock c) p.stage (all u p at)))
epochs_last c (events.Store u slot field value) all may = one_changes c u (λ p. store c u p slot field value) all
    (λ p at. part_set c.units u (after_store p slot field value) all
    (subst HasEpoch (stored_stage p slot field value) (all u p at)))
epochs_last c (events.Leave u k op reply) all may =
    one_changes c u (λ p. on_row (slice_get c.callers k) c (λ q. leave c u p k q (entry_of k q op reply (epoch_of p.stage)))) all
    (λ p at. caller_changes c (slice_get c.callers k) (λ q. leave c u p k q (entry_of k q op reply (epoch_of p.stage))) all
    (λ q. part_set c.units u (after_leave p (entry_of k q op reply (epoch_of p.stage))) all tt))
epochs_last c (events.Read u k op reply) all may =
    one_changes c u (λ p. on_row (slice_get c.callers k) c (λ q. read c u p k q (entry_of k q op reply (clock c)))) all
    (λ p at. caller_changes c (slice_get c.callers k) (λ q. read c u p k q (entry_of k q op reply (clock c))) all
    (λ q. part_set c.units u (after_read p (entry_of k q op reply (clock c))) all (all u p at)))
epochs_last c (events.Withdraw u) all may =
    one_changes c u (λ p. withdraw c u p) all (λ p at. part_set c.units u (after_withdraw p) all tt)
epochs_last c (events.Freeze u k) all may =
    one_changes c u (λ p. on_row (slice_get c.callers k) c (λ q. freeze c u p k q)) all
    (λ p at. caller_changes c (slice_get c.callers k) (λ q. freeze c u p k q) all
    (λ q. part_set c.units u (after_freeze p k) all (all u p at)))
epochs_last c (events.LoadDurable (parts.Unit u)) all may = one_changes c u (λ p. load_durable c u p) all
    (λ p at. part_set c.units u (after_load_durable p (durable_clock c)) all (all u p at))
epochs_last c (events.LoadDurable parts.Advancer) all may = all
epochs_last c (events.LoadDurable (parts.Caller k)) all may =
    caller_changes c (slice_get c.callers k) (λ q. see_durable c k q) all (λ q. all)
epochs_last c (events.CloseLabel u slot) all may =
    one_changes c u (λ p. close_label c u p slot) all (λ p at. part_set c.units u (after_close_label p slot) all tt)
epochs_last c (events.PersistClose u) all may = one_changes c u (λ p. persist_close c u p (closing_of p.stage)) all
    (λ p at. part_set c.units u (after_persist_close p (closing_of p.stage)) all tt)
epochs_last c events.Check all may = all
epochs_last c events.LoadWord all may = all
epochs_last c events.PersistWord all may = all
epochs_last c events.SetClock all may = all
epochs_last c events.PersistClock all may = all
epochs_last c (events.Split part) all may = all
epochs_last c (events.Join (parts.Unit u) note) all may = all
epochs_last c (events.Join parts.Advancer note) all may = all
epochs_last c (events.Join (parts.Caller k) note) all may =
    caller_changes c (slice_get c.callers k) (λ q. hear c k q note) all (λ q. all)
epochs_last c (events.Exchange part) all may = all

run_epochs : (start : Core) (es : List Event) (c : Core) → HaveEpochs start.units → IsRun start es c → HaveEpochs c.units
run_epochs start [] c all run = subst (λ (z : Core). HaveEpochs z.units) (sym run) all
run_epochs start (e ∷ es) c all run =
    subst (λ (z : Core). HaveEpochs z.units) (sym run.3) (epochs_last run.0 e (run_epochs start es run.0 all run.1) run.2)

-- no unit of the core that recovery opens with has an epoch announced
opened_epochs : (o : Opening) → IsWellFormed o.layout o.words → HaveEpochs (recovered o.layout o.words o.callers).units
opened_epochs o well u p at =
    subst HasEpoch (sym ((images_are_recovered o.layout o.words o.callers well).0.units u p at).stage) tt

is_announcement : (stage : UnitStage) (frozen : Option ℕ) → HasEpoch stage → IsAnnouncement (announcement stage frozen)
is_announcement Idle frozen h = inl refl
is_announcement (Told e) None h = inr (subst IsEpoch (omega arith) h)
is_announcement (Told e) (Some k) h = inr (subst IsEpoch (omega arith) h)
is_announcement (Within e) None h = inr (subst IsEpoch (omega arith) h)
is_announcement (Within e) (Some k) h = inr (subst IsEpoch (omega arith) h)
is_announcement (Closing slot) frozen h = inl refl

-- the announcement of a unit that there is
pub announces : (o : Opening) (s : State Cell View) (k : ShowsCore o s) (u : ℕ) (p : UnitPart) → slice_get k.board.core.units u ≡ Some p
    → IsAnnouncement (announcement p.stage p.frozen)
announces o s k u p at = is_announcement p.stage p.frozen
    (run_epochs (recovered o.layout o.words o.callers) k.events k.board.core (opened_epochs o k.accepted) k.run u p at)
