-- Which steps a core allows, and the core after each.
use Rattle.std.specs.Prelude.{◌≡◌, ℕ, true, List, [], length, slice_get, slice_index}
use Rattle.core_steps.specs.declared.event.Event.{Event}
use Rattle.core_steps.specs.declared.event.Event.TheVariants as events
use Rattle.core_steps.specs.declared.parts.Core.{Core}
use Rattle.core_steps.specs.declared.parts.UnitPart.{UnitPart}
use Rattle.core_steps.specs.declared.parts.CallerPart.{CallerPart}
use Rattle.core_steps.specs.declared.parts.UnitStage.{UnitStage}
use Rattle.core_steps.specs.declared.parts.UnitStage.TheVariants as stages
use Rattle.core_steps.specs.declared.parts.Part.{Part}
use Rattle.core_steps.specs.declared.parts.Part.TheVariants as parts
use Rattle.mont_base.specs.Layout.{word_of}
use Rattle.core_steps.specs.Places.{EachAt, RowHas, on_row}
use Rattle.core_steps.specs.Clock.{clock}
use Rattle.core_steps.specs.Stages.{epoch_of, is_unfrozen}
use Rattle.core_steps.specs.Announcing.{can_look, can_tell, tell, can_confirm, confirm, can_withdraw, withdraw, can_freeze, freeze}
use Rattle.core_steps.specs.Storing.{LooksFree, CanStore, store}
use Rattle.core_steps.specs.CallAnswers.{CanLeave, CanRead, entry_of, leave, read}
use Rattle.core_steps.specs.Closing.{can_load_durable, load_durable, see_durable, CanClose, close_label, CanPersistClose, persist_close}
use Rattle.core_steps.specs.Advancing.{can_check, unit_at_hand, check, set_clock, is_clocked, persist_clock}
use Rattle.core_steps.specs.Flushing.{flush_list, can_load_word, load_word, can_persist_word, persist_word, is_flushed}
use Rattle.core_steps.specs.Notes.{IsTrueNote, HasPart, join}

-- no unit has a lost slot
abbrev pub AreNoneLost : List UnitPart → Type 0
AreNoneLost units = EachAt (λ _ p. p.lost ≡ []) units

-- the word has no store pending
abbrev pub IsSettled : List ℕ → List ℕ → ℕ → Type 0
IsSettled cur dur word = slice_index dur word ≡ slice_index cur word

-- a condition on the part of a unit, or on that of a caller
abbrev pub OfUnit : Core → ℕ → (UnitPart → Type 0) → Type 0
OfUnit c u P = RowHas (slice_get c.units u) P

abbrev pub OfCaller : Core → ℕ → (CallerPart → Type 0) → Type 0
OfCaller c k P = RowHas (slice_get c.callers k) P

-- ---- conditions
-- the step of a unit's own
abbrev pub UnitMay : Core → Event → Type 0
UnitMay c (events.Tell u e) = OfUnit c u (λ p. can_tell p e ≡ true)
UnitMay c (events.Confirm u) = OfUnit c u (λ p. can_confirm p ≡ true)
UnitMay c (events.Store u slot field value) =
    OfUnit c u (λ p. CanStore (LooksFree c.layout c.cur c.dur u p slot) u p slot field value
    × IsSettled c.cur c.dur (word_of slot field))
UnitMay c (events.Leave u k op reply) =
    OfUnit c u (λ p. OfCaller c k (λ q. CanLeave c.layout u p q op reply (epoch_of p.stage)))
UnitMay c (events.Read u k op reply) =
    OfUnit c u (λ p. OfCaller c k (λ q. CanRead c.layout u p q op reply))
UnitMay c (events.Withdraw u) = OfUnit c u (λ p. can_withdraw p ≡ true)
UnitMay c (events.Freeze u k) =
    OfUnit c u (λ p. OfCaller c k (λ _. can_freeze p ≡ true))
UnitMay c events.Check = can_check (clock c) c.advancer ≡ true
UnitMay c events.LoadWord = can_load_word (length (flush_list c)) c.advancer ≡ true
UnitMay c events.PersistWord = can_persist_word c.advancer ≡ true
UnitMay c events.SetClock = is_flushed (length (flush_list c)) c.advancer ≡ true
UnitMay c events.PersistClock = is_clocked c.advancer ≡ true
UnitMay c _ = ⊥

abbrev pub CanLoadDurable : Core → Part → Type 0
CanLoadDurable c (parts.Unit u) = OfUnit c u (λ p. can_load_durable p ≡ true)
CanLoadDurable c parts.Advancer = ⊥
CanLoadDurable c (parts.Caller k) = OfCaller c k (λ _. Unit {0})

-- a frozen unit moves no list
abbrev pub CanExchange : Core → Part → Type 0
CanExchange c (parts.Unit u) = OfUnit c u (λ p. is_unfrozen p ≡ true)
CanExchange c parts.Advancer = Unit {0}
CanExchange c (parts.Caller k) = OfCaller c k (λ _. Unit {0})

-- Whether the core allows the step. One that names a unit or a caller which the core doesn't have
-- isn't allowed. While any unit has a lost slot, the store is only looked at and swept.
abbrev pub IsAllowed : Core → Event → Type 0
IsAllowed c (events.Look u) = OfUnit c u (λ p. can_look p ≡ true)
IsAllowed c (events.LoadDurable part) = CanLoadDurable c part
IsAllowed c (events.CloseLabel u slot) = OfUnit c u (λ p. CanClose p slot)
IsAllowed c (events.PersistClose u) =
    OfUnit c u (λ p. (slot : ℕ) × CanPersistClose p slot)
IsAllowed c (events.Split part) = HasPart c part
IsAllowed c (events.Join part note) = HasPart c part × IsTrueNote c note
IsAllowed c (events.Exchange part) = CanExchange c part
IsAllowed c e = AreNoneLost c.units × UnitMay c e

-- ---- effects
-- the slot that a unit closes, where it closes one
abbrev pub closing_of : UnitStage → ℕ
closing_of (stages.Closing slot) = slot
closing_of _ = 0

abbrev pub loaded_durable : Core → Part → Core
loaded_durable c (parts.Unit u) = on_row (slice_get c.units u) c (λ p. load_durable c u p)
loaded_durable c parts.Advancer = c
loaded_durable c (parts.Caller k) = on_row (slice_get c.callers k) c (λ q. see_durable c k q)

-- the core after the step
abbrev pub after : Core → Event → Core
after c (events.Look u) = c
after c (events.Tell u e) = on_row (slice_get c.units u) c (λ p. tell c u p e)
after c (events.Confirm u) = on_row (slice_get c.units u) c (λ p. confirm c u p)
after c (events.Store u slot field value) =
    on_row (slice_get c.units u) c (λ p. store c u p slot field value)
after c (events.Leave u k op reply) =
    on_row (slice_get c.units u) c (λ p. on_row (slice_get c.callers k) c
    (λ q. leave c u p k q (entry_of k q op reply (epoch_of p.stage))))
after c (events.Read u k op reply) =
    on_row (slice_get c.units u) c (λ p. on_row (slice_get c.callers k) c
    (λ q. read c u p k q (entry_of k q op reply (clock c))))
after c (events.Withdraw u) = on_row (slice_get c.units u) c (λ p. withdraw c u p)
after c (events.Freeze u k) =
    on_row (slice_get c.units u) c (λ p. on_row (slice_get c.callers k) c (λ q. freeze c u p k q))
after c (events.LoadDurable part) = loaded_durable c part
after c (events.CloseLabel u slot) =
    on_row (slice_get c.units u) c (λ p. close_label c u p slot)
after c (events.PersistClose u) =
    on_row (slice_get c.units u) c (λ p. persist_close c u p (closing_of p.stage))
after c events.Check = check c (slice_index c.told (unit_at_hand c.advancer))
after c events.LoadWord = load_word c
after c events.PersistWord = persist_word c
after c events.SetClock = set_clock c
after c events.PersistClock = persist_clock c
after c (events.Split part) = c
after c (events.Join part note) = join c part note
after c (events.Exchange part) = c
