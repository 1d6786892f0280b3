-- Each step by which a unit answers a caller keeps a core sound.
use Rattle.std.proofs.Common.{◌≡◌, ℕ, ◌-◌, ◌<◌, ◌≤◌, List, [], ◌∷◌, ◌++◌, length, set, sym, refl, ap, ◌∙◌, subst, arith, true}
use Rattle.std.specs.Prelude.{slice_get, Option, Some, All}
use Rattle.std.proofs.lemmas.Option.{slice_get_within}
use Rattle.mont_base.specs.declared.operation.Op.{Op}
use Rattle.mont_base.specs.declared.operation.Reply.{Reply}
use Rattle.mont_base.specs.declared.operation.Entry.{Entry}
use Rattle.core_steps.specs.declared.parts.Core.{Core}
use Rattle.core_steps.specs.declared.parts.UnitPart.{UnitPart}
use Rattle.core_steps.specs.declared.parts.CallerPart.{CallerPart}
use Rattle.core_steps.specs.declared.parts.UnitStage.{UnitStage}
use Rattle.core_steps.specs.declared.parts.UnitStage.TheVariants.{Within}
use Rattle.core_steps.specs.declared.parts.AdvPart.{AdvPart}
use Rattle.core_steps.specs.declared.parts.AdvPart.TheVariants.{Rest, Checking, Flushing, Holding, Clocked}
use Rattle.core_steps.specs.Clock.{clock, durable_clock}
use Rattle.core_steps.specs.Stages.{limit_of, is_announced, phase_of, passed_of}
use Rattle.core_steps.specs.CallAnswers.{CanLeave, CanRead, entry_of, after_answer, after_leave, after_read, leave, read}
use Rattle.core_steps.specs.Flushing.{unit_list, all_listed}
use Rattle.core_steps.specs.Notes.{histories_of, cuts_of}
use Rattle.core_steps.specs.WriteBack.{FlushFits}
use Rattle.core_steps.specs.UnitClauses.{AreReached}
use Rattle.core_steps.specs.CallerClauses.{CallersFit}
use Rattle.core_steps.specs.Sound.{Base, base_state, IsRegistered, StageFits, IsSound}
use Rattle.core_steps.proofs.Frames.{clocks_unit, clocks_caller, announcements_unit, announcements_same, lost_none, none_lost, none_lost_unit, lost_unit}
use Rattle.core_steps.proofs.SoundUnits.{flush_kept, sound_unit}
use Rattle.core_steps.proofs.RoleFacts.{new_slots, written_epochs}
use Rattle.core_steps.proofs.RoleMoves.{slots_same}
use Rattle.core_steps.proofs.RoleStores.{slots_leave}
use Rattle.core_steps.proofs.UnitAnswers.{unit_leave, unit_read}
use Rattle.core_steps.proofs.UnitLists.{listed_else}
use Rattle.core_steps.proofs.CallerFrames.{histories_set, cuts_kept, history_row}
use Rattle.core_steps.proofs.CallerAnswers.{callers_answer}

-- the list to be written back stays, where it matters
flush_passed :
    (cur dur : List ℕ) (x : ℕ) (units : List UnitPart) (u : ℕ) (p q : UnitPart) (a : AdvPart) → slice_get units u ≡ Some p
    → (u < passed_of (length units) a → unit_list x q ≡ unit_list x p) → FlushFits cur dur (all_listed x units) a
    → FlushFits cur dur (all_listed x (set units u q)) a
flush_passed cur dur x units u p q Rest at same k = tt
flush_passed cur dur x units u p q (Checking j) at same k = tt
flush_passed cur dur x units u p q (Flushing d f) at same k =
    flush_kept cur dur x units u p q (Flushing d f) at (same (slice_get_within units u p at)) k
flush_passed cur dur x units u p q (Holding d f v) at same k =
    flush_kept cur dur x units u p q (Holding d f v) at (same (slice_get_within units u p at)) k
flush_passed cur dur x units u p q Clocked at same k = tt

-- a registered unit's stage
pub within_fits :
    (b now : ℕ) (passed : Type 0) (stage : UnitStage) (e : ℕ) → stage ≡ Within e → StageFits b now passed stage
    → IsRegistered b now passed e
within_fits b now passed stage e is k = subst (λ (x : UnitStage). StageFits b now passed x) is k

-- the caller and the unit's history after an answer
seen_answer :
    (base : Base) (c : Core) (u : ℕ) (p t : UnitPart) (k : ℕ) (q : CallerPart) (op : Op) (reply : Reply) (epoch : ℕ) → IsSound base c
    → slice_get c.units u ≡ Some p → slice_get c.callers k ≡ Some q → q.newest ≤ epoch → epoch ≤ clock c
    → All (λ (e : Entry). e.epoch ≤ epoch) p.history → t.history ≡ p.history ++ entry_of k q op reply epoch ∷ [] → t.frozen ≡ p.frozen
    → CallersFit (histories_of (set c.units u t)) (cuts_of (set c.units u t)) (clock c)
    (set c.callers k (after_answer q u (length p.history) (entry_of k q op reply epoch))) c.odd
seen_answer base c u p t k q op reply epoch s at by newest reached entries history frozen =
    let e : Entry = entry_of k q op reply epoch in
    let callers : List CallerPart = set c.callers k (after_answer q u (length p.history) e) in
    subst (λ (x : List (List Entry) × List (Option ℕ)). CallersFit x.0 x.1 (clock c) callers c.odd)
    (λ i. (sym (histories_set c.units u t ∙ ap (set (histories_of c.units) u) history) i, sym (cuts_kept c.units u p t at frozen) i))
    (callers_answer (histories_of c.units) (cuts_of c.units) (clock c) u k p.history c.callers q c.odd op reply epoch
    (history_row c.units u p at) by newest reached entries s.callers)

-- ---- Leave
pub leave_law :
    (base : Base) (c : Core) (u : ℕ) (p : UnitPart) (k : ℕ) (q : CallerPart) (op : Op) (reply : Reply) (epoch : ℕ) → IsSound base c
    → slice_get c.units u ≡ Some p → slice_get c.callers k ≡ Some q → CanLeave c.layout u p q op reply epoch
    → IsSound base (leave c u p k q (entry_of k q op reply epoch))
leave_law base c u p k q op reply epoch s at by can =
    let now : ℕ = clock c in
    let d : ℕ = durable_clock c in
    let b : ℕ = base.clock in
    let n : ℕ = passed_of (length c.units) c.advancer in
    let e : Entry = entry_of k q op reply epoch in
    let t : UnitPart = after_leave p e in
    let r : CallerPart = after_answer q u (length p.history) e in
    let fits = s.units u p at in
    let last = s.clocks.last in
    let low = s.clocks.low in
    let registered = within_fits b now (u < n) p.stage epoch can.stage (s.registration u p at) in
    let reached = registered.reached in
    let begun = registered.begun in
    let written = written_epochs c.layout now c.cur c.dur c.units u p s.slots at epoch can.stage in
    let announced : is_announced p.stage ≡ true = ap is_announced can.stage in
    let none = none_lost c.units c.advancer u p s.lost at announced in
    let entries = subst (λ (x : UnitStage). AreReached (limit_of now x) p.records p.history) can.stage fits.reached in
    sound_unit base c u t c.cur c.dur (set c.told u 0) (set c.callers k r) s (record {
      current = refl;
      durable = refl;
      clock_stays = refl;
      durable_stays = refl;
      clocks = clocks_caller b now d (phase_of c.advancer) (set c.units u t) c.callers k r (s.clocks.of_callers k q by)
          (clocks_unit b now d (phase_of c.advancer) c.units c.callers u t (s.clocks.of_units u p at) s.clocks);
      announcements = announcements_unit c.told c.units u 0 p t at refl s.announcements;
      stage = tt;
      slots = slots_leave c.layout now c.cur c.dur c.units u p e epoch s.slots at can.stage can.whole;
      lost = lost_none (set c.units u t) c.advancer (none_lost_unit c.units u p t at refl none);
      flush = flush_passed c.cur c.dur (now - 1) c.units u p t c.advancer at
          (λ passed. listed_else (now - 1) epoch p e written (let same = registered.same passed in λ is. omega arith)) s.flush;
      unit = unit_leave c.layout b now d u (base_state base u) p k q op reply epoch can
          (new_slots c.layout now c.cur c.dur c.units u p s.slots at) written begun reached last fits;
      seen = seen_answer base c u p t k q op reply epoch s at by can.newest reached entries.of_entries refl refl;
    })

-- ---- Read
pub read_law :
    (base : Base) (c : Core) (u : ℕ) (p : UnitPart) (k : ℕ) (q : CallerPart) (op : Op) (reply : Reply) → IsSound base c
    → slice_get c.units u ≡ Some p → slice_get c.callers k ≡ Some q → CanRead c.layout u p q op reply
    → IsSound base (read c u p k q (entry_of k q op reply (clock c)))
read_law base c u p k q op reply s at by can =
    let now : ℕ = clock c in
    let d : ℕ = durable_clock c in
    let b : ℕ = base.clock in
    let e : Entry = entry_of k q op reply now in
    let t : UnitPart = after_read p e in
    let r : CallerPart = after_answer q u (length p.history) e in
    let fits = s.units u p at in
    let last = s.clocks.last in
    let begun = s.clocks.begun in
    let behind = s.clocks.behind in
    let entries = subst (λ (x : UnitStage). AreReached (limit_of now x) p.records p.history) can.stage fits.reached in
    sound_unit base c u t c.cur c.dur c.told (set c.callers k r) s (record {
      current = refl;
      durable = refl;
      clock_stays = refl;
      durable_stays = refl;
      clocks = clocks_caller b now d (phase_of c.advancer) (set c.units u t) c.callers k r (s.clocks.of_callers k q by)
          (clocks_unit b now d (phase_of c.advancer) c.units c.callers u t (s.clocks.of_units u p at) s.clocks);
      announcements = announcements_same c.told c.units u p t at refl s.announcements;
      stage = s.registration u p at;
      slots = slots_same c.layout now c.cur c.dur c.units u p t s.slots at refl refl refl refl refl;
      lost = lost_unit c.units c.advancer u p t at (λ m h. h) (λ x. none_lost c.units c.advancer u p s.lost at x) s.lost;
      flush = flush_kept c.cur c.dur (now - 1) c.units u p t c.advancer at refl s.flush;
      unit = unit_read c.layout b now d u (base_state base u) p k q op reply can (omega arith) last fits;
      seen = seen_answer base c u p t k q op reply now s at by (s.callers.each k q by).reached (omega arith) entries.of_entries refl refl;
    })
