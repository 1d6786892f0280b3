-- Each store of a word of a record keeps a core sound.
use Rattle.std.proofs.Common.{◌≡◌, ℕ, zero, suc, ◌+◌, ◌-◌, ◌<◌, ◌≤◌, List, length, map, set, refl, sym, ap, subst, arith, length-set, true}
use Rattle.std.specs.Prelude.{slice_get, Some, ◌==◌, filter}
use Rattle.std.specs.List.{Contains}
use Rattle.mont_base.specs.declared.constants.TheConstants.{FIELDS}
use Rattle.mont_base.specs.declared.record.Held.{Held}
use Rattle.mont_base.specs.Layout.{Shape, IsLayout, word_of}
use Rattle.mont_laws.proofs.SlotWords.{stores_change_one_field}
use Rattle.core_steps.specs.declared.parts.Core.{Core}
use Rattle.core_steps.specs.declared.parts.UnitPart.{UnitPart}
use Rattle.core_steps.specs.declared.parts.UnitStage.{UnitStage}
use Rattle.core_steps.specs.Clock.{clock, durable_clock}
use Rattle.core_steps.specs.Stages.{is_announced, phase_of, passed_of}
use Rattle.core_steps.specs.Storing.{IsFreeSlot, CanStore, after_store_field, after_store_label, after_store, store}
use Rattle.core_steps.specs.Flushing.{all_listed}
use Rattle.core_steps.specs.Roles.{HasSlots}
use Rattle.core_steps.specs.UnitClauses.{UnitFits}
use Rattle.core_steps.specs.Sound.{Base, base_state, announcement, StageFits, IsSound}
use Rattle.core_steps.proofs.Frames.{clocks_unit, announcements_same, lost_none, none_lost, none_lost_unit}
use Rattle.core_steps.proofs.FlushLists.{of_listed}
use Rattle.core_steps.proofs.WriteBackLaws.{flush_stored}
use Rattle.core_steps.proofs.SoundUnits.{callers_kept, flush_kept, sound_unit}
use Rattle.core_steps.proofs.RoleFacts.{SparesSlot}
use Rattle.core_steps.proofs.RoleStores.{slots_store_field, slots_store_label, store_spares, label_spares}
use Rattle.core_steps.proofs.UnitFrames.{unit_store}
use Rattle.core_steps.proofs.AnswerLaws.{within_fits}

pub some_slots : (s : Shape) → IsLayout s → 1 ≤ s.slots
some_slots s k = let some = k.some_slots in omega arith

-- a slot that no record of the epoch before the clock is in isn't listed
pub not_listed :
    (now : ℕ) (units : List UnitPart) (slot : ℕ) → 1 ≤ now → SparesSlot now units slot
    → Contains (all_listed (now - 1) units) slot → ⊥
not_listed now units slot some spares h =
    let k = of_listed (now - 1) units slot h in
    let is = k.of_epoch in
    spares k.unit k.part k.held k.at k.there (omega arith) k.in_slot

pub some_clock : (base : Base) (c : Core) → IsSound base c → 2 ≤ clock c
some_clock base c s =
    let low = s.clocks.low in let begun = s.clocks.begun in let behind = s.clocks.behind in omega arith

-- a store of one word of a slot that isn't to be written back
stored :
    (base : Base) (c : Core) (u : ℕ) (p q : UnitPart) (slot field value : ℕ) → IsSound base c → slice_get c.units u ≡ Some p
    → field < FIELDS → is_announced p.stage ≡ true → q ≡ after_store p slot field value → q.stage ≡ p.stage → q.frozen ≡ p.frozen
    → q.records ≡ p.records → q.history ≡ p.history → q.durable ≡ p.durable → q.lost ≡ p.lost
    → SparesSlot (clock c) c.units slot → HasSlots c.layout (clock c) (set c.cur (word_of slot field) value) c.dur (set c.units u q)
    → IsSound base (record c { cur = set c.cur (word_of slot field) value; units = set c.units u q })
stored base c u p q slot field value s at low announced is stage frozen records history durable lost spares slots =
    let now : ℕ = clock c in
    let d : ℕ = durable_clock c in
    let b : ℕ = base.clock in
    let begun = some_clock base c s in
    let none = none_lost c.units c.advancer u p s.lost at announced in
    let known = s.clocks.of_units u p at in
    sound_unit base c u q (set c.cur (word_of slot field) value) c.dur c.told c.callers s (record {
      current = length-set c.cur (word_of slot field) value;
      durable = refl;
      clock_stays = (stores_change_one_field c.cur slot field value low).clock;
      durable_stays = refl;
      clocks = clocks_unit b now d (phase_of c.advancer) c.units c.callers u q (omega arith) s.clocks;
      announcements = announcements_same c.told c.units u p q at (λ i. announcement (sym stage i) (sym frozen i)) s.announcements;
      stage = subst (λ (x : UnitStage). StageFits b now (u < passed_of (length c.units) c.advancer) x) (sym stage) (s.registration u p at);
      slots = slots;
      lost = lost_none (set c.units u q) c.advancer (none_lost_unit c.units u p q at lost none);
      flush = flush_kept (set c.cur (word_of slot field) value) c.dur (now - 1) c.units u p q c.advancer at
          (ap (λ (rs : List Held). map (λ (r : Held). r.slot) (filter (λ (r : Held). r.label.epoch == now - 1) rs)) records)
          (flush_stored c.cur c.dur (all_listed (now - 1) c.units) slot field value c.advancer low
          (not_listed now c.units slot (omega arith) spares) s.flush);
      unit = subst (λ (x : UnitPart). UnitFits c.layout b now d u (base_state base u) x) (sym is)
          (unit_store c.layout b d u (base_state base u) now slot field value p (s.units u p at));
      seen = callers_kept c.units u p q now c.callers c.odd at history frozen s.callers;
    })

pub store_law :
    (base : Base) (c : Core) (u : ℕ) (p : UnitPart) (slot field value : ℕ) → IsSound base c → slice_get c.units u ≡ Some p
    → CanStore (IsFreeSlot c.layout u p slot) u p slot field value → IsSound base (store c u p slot field value)
store_law base c u p slot zero value s at can =
    let n : ℕ = passed_of (length c.units) c.advancer in
    let some = some_slots c.layout s.sizes.layout in
    let registered = within_fits base.clock (clock c) (u < n) p.stage value can.stage (s.registration u p at) in
    stored base c u p (after_store_label p slot) slot 0 value s at (omega arith) (ap is_announced can.stage)
    refl refl refl refl refl refl refl
    (label_spares c.layout (clock c) c.cur c.dur c.units u p s.slots at some s.sizes.unit_count slot value can)
    (slots_store_label c.layout (clock c) c.cur c.dur c.units u p s.slots at some s.sizes.unit_count s.sizes.current slot value can
    registered.near)
store_law base c u p slot (suc n) value s at can =
    let some = some_slots c.layout s.sizes.layout in
    let low = can.field in
    let next : n + 1 ≡ suc n = omega arith in
    stored base c u p (after_store_field p slot (suc n) value) slot (suc n) value s at (omega arith) (ap is_announced can.stage)
    refl refl refl refl refl refl refl
    (store_spares c.layout (clock c) c.cur c.dur c.units u p s.slots at some s.sizes.unit_count slot n can.turn)
    (subst
    (λ (m : ℕ). HasSlots c.layout (clock c) (set c.cur (word_of slot m) value) c.dur (set c.units u (after_store_field p slot m value)))
    next
    (slots_store_field c.layout (clock c) c.cur c.dur c.units u p s.slots at some s.sizes.unit_count s.sizes.current slot n value can))
