-- Each step by which a unit closes a slot keeps a core sound.
use Rattle.std.proofs.Common.{◌≡◌, ◌≢◌, ℕ, ◌+◌, ◌-◌, ◌≤◌, set, refl, ap, subst, inl, inr, ⊎_elim, arith, length-set}
use Rattle.std.specs.Prelude.{slice_get, Some, not, ◌==◌}
use Rattle.std.specs.List.{Contains}
use Rattle.mont_base.specs.declared.record.Held.{Held}
use Rattle.mont_base.specs.Layout.{word_of}
use Rattle.mont_laws.proofs.Members.{kept_element}
use Rattle.mont_laws.proofs.SlotWords.{stores_change_one_field}
use Rattle.core_steps.specs.declared.parts.Core.{Core}
use Rattle.core_steps.specs.declared.parts.UnitPart.{UnitPart}
use Rattle.core_steps.specs.declared.parts.UnitStage.{UnitStage}
use Rattle.core_steps.specs.Clock.{clock, durable_clock}
use Rattle.core_steps.specs.Stages.{phase_of}
use Rattle.core_steps.specs.Closing.{IsFirstDue, IsFirstLost, IsDueNow, CanClose, after_close_label, close_label, CanPersistClose, after_persist_close, persist_close}
use Rattle.core_steps.specs.Flushing.{all_listed}
use Rattle.core_steps.specs.UnitClauses.{ClosesDue}
use Rattle.core_steps.specs.Sound.{Base, base_state, announcement, IsSound}
use Rattle.core_steps.proofs.Frames.{clocks_unit, announcements_same, lost_unit}
use Rattle.core_steps.proofs.WriteBackLaws.{flush_stored, flush_settled}
use Rattle.core_steps.proofs.SoundUnits.{callers_kept, flush_kept, sound_unit}
use Rattle.core_steps.proofs.RoleFacts.{lost_no_record}
use Rattle.core_steps.proofs.RoleCloses.{IsUsed, IsDueSlot, slots_close_label, slots_persist_close, close_spares, closing_spares}
use Rattle.core_steps.proofs.UnitCloses.{due_lost, due_record, unit_close_label, unit_persist_close}
use Rattle.core_steps.proofs.UnitLists.{listed_closed}
use Rattle.core_steps.proofs.StoreLaws.{not_listed, some_clock}

-- the slot that is due is that of a record that is old enough, or a lost one
module _ (base : Base) (c : Core) (u : ℕ) (p : UnitPart) (s : IsSound base c) (at : slice_get c.units u ≡ Some p) where
  pub due_slot : (slot : ℕ) → IsDueNow p slot → IsDueSlot (clock c) p slot
  due_slot slot due = ⊎_elim
      (λ (first : IsFirstDue p.retired p.durable slot).
      let behind = s.clocks.behind in
      let k = due_record base.clock (durable_clock c) p.durable slot p.records p.retired (s.units u p at).versions first s.clocks.begun
      (s.clocks.of_units u p at) in
      let old = k.3 in
      inl (k.0, k.1, k.2, omega arith))
      (λ (first : IsFirstLost p.lost slot). inr (due_lost p.lost slot first))
      due

  pub used_slot : (slot : ℕ) → IsDueNow p slot → IsUsed p slot
  used_slot slot due = ⊎_elim
      (λ (k : (r : Held) × (r.slot ≡ slot) × Contains p.records r × (r.label.epoch + 2 ≤ clock c)). inl (k.0, k.1, k.2))
      (λ (k : Contains p.lost slot). inr k)
      (due_slot slot due)

  -- a lost slot is no record's
  pub lost_apart : (slot : ℕ) (r : Held) → Contains p.records r → Contains p.lost slot → r.slot ≢ slot
  lost_apart slot r h l = lost_no_record c.layout (clock c) c.cur c.dur c.units u p s.slots at slot r l h

-- ---- CloseLabel
pub close_label_law :
    (base : Base) (c : Core) (u : ℕ) (p : UnitPart) (slot : ℕ) → IsSound base c → slice_get c.units u ≡ Some p → CanClose p slot
    → IsSound base (close_label c u p slot)
close_label_law base c u p slot s at can =
    let now : ℕ = clock c in
    let d : ℕ = durable_clock c in
    let b : ℕ = base.clock in
    let q : UnitPart = after_close_label p slot in
    let due = due_slot base c u p s at slot can.due in
    let begun = some_clock base c s in
    sound_unit base c u q (set c.cur (word_of slot 0) 0) c.dur c.told c.callers s (record {
      current = length-set c.cur (word_of slot 0) 0;
      durable = refl;
      clock_stays = (stores_change_one_field c.cur slot 0 0 (omega arith)).clock;
      durable_stays = refl;
      clocks = clocks_unit b now d (phase_of c.advancer) c.units c.callers u q (s.clocks.of_units u p at) s.clocks;
      announcements =
          announcements_same c.told c.units u p q at (ap (λ (x : UnitStage). announcement x p.frozen) can.stage) s.announcements;
      stage = tt;
      slots = slots_close_label c.layout now c.cur c.dur c.units u p s.slots at slot can.stage due;
      lost = lost_unit c.units c.advancer u p q at (λ n h. h) (λ e. absurd (cc)) s.lost;
      flush = flush_kept (set c.cur (word_of slot 0) 0) c.dur (now - 1) c.units u p q c.advancer at refl
          (flush_stored c.cur c.dur (all_listed (now - 1) c.units) slot 0 0 c.advancer (omega arith)
          (not_listed now c.units slot (omega arith)
          (close_spares c.layout now c.cur c.dur c.units u p s.slots at slot due)) s.flush);
      unit = unit_close_label c.layout b now d u (base_state base u) p slot can (s.units u p at);
      seen = callers_kept c.units u p q now c.callers c.odd at refl refl s.callers;
    })

-- ---- PersistClose
pub persist_close_law :
    (base : Base) (c : Core) (u : ℕ) (p : UnitPart) (slot : ℕ) → IsSound base c → slice_get c.units u ≡ Some p → CanPersistClose p slot
    → IsSound base (persist_close c u p slot)
persist_close_law base c u p slot s at can =
    let now : ℕ = clock c in
    let d : ℕ = durable_clock c in
    let b : ℕ = base.clock in
    let q : UnitPart = after_persist_close p slot in
    let fits = s.units u p at in
    let due : IsDueNow p slot = subst (λ (x : UnitStage). ClosesDue x p) can.stage fits.closing in
    let used = used_slot base c u p s at slot due in
    let apart = lost_apart base c u p s at slot in
    let known = s.clocks.of_units u p at in
    let begun = some_clock base c s in
    sound_unit base c u q c.cur (set c.dur (word_of slot 0) 0) c.told c.callers s (record {
      current = refl;
      durable = length-set c.dur (word_of slot 0) 0;
      clock_stays = refl;
      durable_stays = (stores_change_one_field c.dur slot 0 0 (omega arith)).clock;
      clocks = clocks_unit b now d (phase_of c.advancer) c.units c.callers u q known s.clocks;
      announcements =
          announcements_same c.told c.units u p q at (ap (λ (x : UnitStage). announcement x p.frozen) can.stage) s.announcements;
      stage = tt;
      slots = slots_persist_close c.layout now c.cur c.dur c.units u p s.slots at slot can.stage used;
      lost = lost_unit c.units c.advancer u p q at (λ n h. (kept_element (λ m. not (m == slot)) n p.lost h).0) (λ e. absurd (cc)) s.lost;
      flush = flush_kept c.cur (set c.dur (word_of slot 0) 0) (now - 1) c.units u p q c.advancer at
          (listed_closed b d now slot p fits.versions due apart s.clocks.begun known s.clocks.behind)
          (flush_settled c.cur c.dur (all_listed (now - 1) c.units) slot 0 0 c.advancer (omega arith)
          (not_listed now c.units slot (omega arith)
          (closing_spares c.layout now c.cur c.dur c.units u p s.slots at slot can.stage used)) s.flush);
      unit = unit_persist_close c.layout b now d u (base_state base u) p slot can.stage apart known fits;
      seen = callers_kept c.units u p q now c.callers c.odd at refl refl s.callers;
    })
