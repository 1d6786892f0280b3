-- A step of one unit leaves a sound core where it leaves each group of clauses.
use Rattle.std.proofs.Common.{◌≡◌, ℕ, ◌-◌, ◌<◌, List, length, set, sym, subst, length-set}
use Rattle.std.specs.Prelude.{slice_get, Option, Some}
use Rattle.mont_base.specs.declared.operation.Entry.{Entry}
use Rattle.mont_base.specs.Image.{clock_of}
use Rattle.core_steps.specs.declared.parts.Core.{Core}
use Rattle.core_steps.specs.declared.parts.UnitPart.{UnitPart}
use Rattle.core_steps.specs.declared.parts.CallerPart.{CallerPart}
use Rattle.core_steps.specs.declared.parts.AdvPart.{AdvPart}
use Rattle.core_steps.specs.Clock.{clock, durable_clock}
use Rattle.core_steps.specs.Stages.{phase_of, passed_of}
use Rattle.core_steps.specs.Flushing.{unit_list, all_listed}
use Rattle.core_steps.specs.Notes.{histories_of, cuts_of}
use Rattle.core_steps.specs.Roles.{HasSlots}
use Rattle.core_steps.specs.WriteBack.{FlushFits}
use Rattle.core_steps.specs.UnitClauses.{UnitFits}
use Rattle.core_steps.specs.CallerClauses.{CallersFit}
use Rattle.core_steps.specs.Sound.{Base, base_state, Clocks, Announcements, StageFits, LostWait, IsSound}
use Rattle.core_steps.proofs.Rows.{each_set}
use Rattle.core_steps.proofs.Frames.{sound_at, sizes_kept, registration_unit}
use Rattle.core_steps.proofs.FlushLists.{listed_set}
use Rattle.core_steps.proofs.WriteBackLaws.{flush_listed}
use Rattle.core_steps.proofs.CallerFrames.{histories_kept, cuts_kept}

-- the histories and the cut callers stay
pub callers_kept :
    (units : List UnitPart) (u : ℕ) (p q : UnitPart) (now : ℕ) (callers : List CallerPart) (odd : List ℕ) → slice_get units u ≡ Some p
    → q.history ≡ p.history → q.frozen ≡ p.frozen → CallersFit (histories_of units) (cuts_of units) now callers odd
    → CallersFit (histories_of (set units u q)) (cuts_of (set units u q)) now callers odd
callers_kept units u p q now callers odd at history frozen k =
    subst (λ (t : List (List Entry) × List (Option ℕ)). CallersFit t.0 t.1 now callers odd)
    (λ i. (sym (histories_kept units u p q at history) i, sym (cuts_kept units u p q at frozen) i)) k

-- the list to be written back stays
pub flush_kept :
    (cur dur : List ℕ) (x : ℕ) (units : List UnitPart) (u : ℕ) (p q : UnitPart) (a : AdvPart) → slice_get units u ≡ Some p
    → unit_list x q ≡ unit_list x p → FlushFits cur dur (all_listed x units) a → FlushFits cur dur (all_listed x (set units u q)) a
flush_kept cur dur x units u p q a at same k =
    flush_listed cur dur (all_listed x units) (all_listed x (set units u q)) a (sym (listed_set x units u p q at same)) k

-- What a step of unit u makes of each group, the clocks staying as they are.
pub record UnitStep
    (base : Base) (c : Core) (u : ℕ) (q : UnitPart) (cur dur told : List ℕ) (callers : List CallerPart) : Type 0 where
  pub current : length cur ≡ length c.cur
  pub durable : length dur ≡ length c.dur
  pub clock_stays : clock_of cur ≡ clock c
  pub durable_stays : clock_of dur ≡ durable_clock c
  pub clocks : Clocks base.clock (clock c) (durable_clock c) (phase_of c.advancer) (set c.units u q) callers
  pub announcements : Announcements told (set c.units u q)
  pub stage : StageFits base.clock (clock c) (u < passed_of (length c.units) c.advancer) q.stage
  pub slots : HasSlots c.layout (clock c) cur dur (set c.units u q)
  pub lost : LostWait (set c.units u q) c.advancer
  pub flush : FlushFits cur dur (all_listed (clock c - 1) (set c.units u q)) c.advancer
  pub unit : UnitFits c.layout base.clock (clock c) (durable_clock c) u (base_state base u) q
  pub seen : CallersFit (histories_of (set c.units u q)) (cuts_of (set c.units u q)) (clock c) callers c.odd

pub sound_unit :
    (base : Base) (c : Core) (u : ℕ) (q : UnitPart) (cur dur told : List ℕ) (callers : List CallerPart) → IsSound base c
    → UnitStep base c u q cur dur told callers
    → IsSound base (record c { cur = cur; dur = dur; told = told; units = set c.units u q; callers = callers })
sound_unit base c u q cur dur told callers s k =
    let d : Core = record c { cur = cur; dur = dur; told = told; units = set c.units u q; callers = callers } in
    let many : length (set c.units u q) ≡ length c.units = length-set c.units u q in
    let b : ℕ = base.clock in
    sound_at base (clock c) (durable_clock c) d k.clock_stays k.durable_stays (record {
      sizes = sizes_kept c.layout c.cur c.dur cur dur base.states c.units (set c.units u q) c.advancer k.current k.durable many s.sizes;
      clocks = k.clocks;
      announcements = k.announcements;
      registration = subst
          (λ (n : ℕ). (v : ℕ) (r : UnitPart) → slice_get (set c.units u q) v ≡ Some r
          → StageFits b (clock c) (v < passed_of n c.advancer) r.stage) (sym many)
          (registration_unit b (clock c) (passed_of (length c.units) c.advancer) c.units u q k.stage s.registration);
      slots = k.slots;
      lost = k.lost;
      flush = k.flush;
      units = each_set (λ (v : ℕ) (r : UnitPart). UnitFits c.layout b (clock c) (durable_clock c) v (base_state base v) r) c.units u q
          (λ v r apart h. s.units v r h) k.unit;
      callers = k.seen;
    })
