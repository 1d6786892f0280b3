-- The cores that a store begins with are sound.
use Rattle.std.proofs.Common.{◌≡◌, ℕ, suc, ◌*◌, ◌<◌, ◌≤◌, List, [], length, replicate, sym, refl, ap, ◌∙◌, subst, arith}
use Rattle.std.specs.Prelude.{slice_get, unwrap_or, Option, Some}
use Rattle.std.specs.Option.{option_map}
use Rattle.std.proofs.lemmas.List.{length-replicate, length-map}
use Rattle.std.proofs.lemmas.Option.{slice_get-map, slice_get_within}
use Rattle.mont_base.specs.declared.constants.TheConstants.{FIRST_CLOCK, FIELDS}
use Rattle.mont_base.specs.declared.kinds.UnitKind.{UnitKind}
use Rattle.mont_base.specs.Layout.{Shape, units_of, total_of, words_of, kind_of}
use Rattle.mont_base.specs.Image.{clock_of, empty_states, records_of, IsWellFormed, IsRecovered}
use Rattle.mont_base.specs.State.{State, QueueOf, empty_state}
use Rattle.mont_base.specs.Structure.{IsStructure}
use Rattle.mont_base.specs.Versions.{live_objects}
use Rattle.core_steps.specs.declared.parts.Core.{Core}
use Rattle.core_steps.specs.declared.parts.UnitPart.{UnitPart}
use Rattle.core_steps.specs.declared.parts.CallerPart.{CallerPart}
use Rattle.core_steps.specs.declared.parts.AdvPart.TheVariants.{Rest}
use Rattle.core_steps.specs.Fresh.{fresh_unit, fresh_caller, fresh}
use Rattle.mont_base.specs.declared.record.Held.{Held}
use Rattle.mont_laws.specs.Records.{AreSameRecords}
use Rattle.core_steps.specs.Stages.{is_announced}
use Rattle.core_steps.specs.Notes.{histories_of, cuts_of}
use Rattle.core_steps.specs.CallerClauses.{CallersFit}
use Rattle.core_steps.specs.Opened.{IsRecoveredUnit, opened_at, RecoveredCoresAreSound}
use Rattle.core_steps.specs.CoreRuns.{FreshCoresAreSound}
use Rattle.core_steps.specs.UnitClauses.{UnitFits}
use Rattle.core_steps.specs.Sound.{base_state, announcement, StageFits, IsSound}
use Rattle.core_steps.proofs.Rows.{row_copy, copy_row}
use Rattle.core_steps.proofs.RowFacts.{item_at}
use Rattle.core_steps.proofs.Frames.{lost_none}
use Rattle.core_steps.proofs.RoleStarts.{fresh_slots, recovered_slots}
use Rattle.core_steps.proofs.UnitStarts.{unit_fresh, unit_recovered}
use Rattle.core_steps.proofs.CallerStarts.{callers_start, callers_fresh}

-- the state that a unit of a kind begins with
empty_base :
    (s : Shape) (u : ℕ) (kind : UnitKind) → kind_of s u ≡ Some kind
    → base_state (opened_at FIRST_CLOCK (empty_states s)) u ≡ empty_state kind
empty_base s u kind e = ap (λ (o : Option State). unwrap_or o (QueueOf []))
    (slice_get-map empty_state s.kinds u ∙ ap (option_map empty_state) e)

fresh_fits :
    (s : Shape) (u : ℕ) (p : UnitPart) → u < units_of s → fresh_unit ≡ p
    → UnitFits s FIRST_CLOCK FIRST_CLOCK FIRST_CLOCK u (base_state (opened_at FIRST_CLOCK (empty_states s)) u) p
fresh_fits s u p low is =
    let kind = item_at s.kinds u low in
    subst (λ (x : State × UnitPart). UnitFits s FIRST_CLOCK FIRST_CLOCK FIRST_CLOCK u x.0 x.1)
    (λ i. (sym (empty_base s u kind.0 kind.1) i, is i)) (unit_fresh s FIRST_CLOCK FIRST_CLOCK FIRST_CLOCK u kind.0 kind.1)

pub fresh_cores_are_sound : FreshCoresAreSound
fresh_cores_are_sound s k layout =
    let n : ℕ = units_of s in
    let words : length (fresh s k).cur ≡ words_of s = ap suc (length-replicate (FIELDS * total_of s) 0) ∙ omega arith in record {
      sizes = record {
        layout = layout;
        current = words;
        durable = words;
        unit_count = length-replicate n fresh_unit;
        state_count = length-map s.kinds empty_state;
        place = tt;
      };
      clocks = record {
        low = omega arith;
        begun = omega arith;
        behind = omega arith;
        last = omega arith;
        stand = refl;
        of_units = λ u p h. subst (λ (p : UnitPart). p.durable ≤ FIRST_CLOCK) (row_copy n u fresh_unit p h).0 (omega arith);
        of_callers = λ j q h. subst (λ (q : CallerPart). q.durable ≤ FIRST_CLOCK) (row_copy k j (fresh_caller n) q h).0 (omega arith);
      };
      announcements = record {
        as_many = length-replicate n 0 ∙ sym (length-replicate n fresh_unit);
        each = λ u p h. let r = row_copy n u fresh_unit p h in
            subst (λ (p : UnitPart). slice_get (replicate n 0) u ≡ Some (announcement p.stage p.frozen)) r.0 (copy_row n u 0 r.1);
      };
      registration =
          λ u p h. subst (λ (p : UnitPart). StageFits FIRST_CLOCK FIRST_CLOCK (u < 0) p.stage) (row_copy n u fresh_unit p h).0 tt;
      slots = fresh_slots s FIRST_CLOCK n layout;
      lost = lost_none (replicate n fresh_unit) Rest (λ u p h. ap (λ (q : UnitPart). q.lost) (sym (row_copy n u fresh_unit p h).0));
      flush = tt;
      units = λ u p h. let r = row_copy n u fresh_unit p h in fresh_fits s u p r.1 r.0;
      callers = callers_fresh FIRST_CLOCK k n;
    }

-- ---- the core of an image that recovery accepts
-- a unit's state is the one that recovery rebuilds
recovered_state :
    (s : Shape) (image : List ℕ) (states : List State) (u : ℕ) → IsRecovered s image states → u < units_of s
    → IsStructure s u (live_objects (records_of s image u)) (base_state (opened_at (clock_of image) states) u)
recovered_state s image states u k low =
    let count = k.0 in
    let there = item_at states u (omega arith) in
    subst (IsStructure s u (live_objects (records_of s image u))) (sym (ap (λ (o : Option State). unwrap_or o (QueueOf [])) there.1))
    (k.1 u there.0 there.1)

recovered_fits :
    (s : Shape) (image : List ℕ) (states : List State) (u : ℕ) (p : UnitPart) → IsWellFormed s image → IsRecovered s image states
    → u < units_of s → IsRecoveredUnit s image u p
    → UnitFits s (clock_of image) (clock_of image) (clock_of image) u (base_state (opened_at (clock_of image) states) u) p
recovered_fits s image states u p well k low unit =
    let queue = unit.retired in
    let same = subst (λ (rs : List Held). AreSameRecords rs queue.sorted) unit.records queue.same in
    unit_recovered s image u well low queue.sorted queue.rising same (base_state (opened_at (clock_of image) states) u) p
    (recovered_state s image states u k low) unit.records queue.is unit.history unit.stage

pub recovered_cores_are_sound : RecoveredCoresAreSound
recovered_cores_are_sound s image states k c well recovered is =
    subst (IsSound (opened_at (clock_of image) states)) (sym same) sound
  where
    opened : Core
    opened = record {
      layout = s;
      cur = image;
      dur = image;
      told = replicate (units_of s) 0;
      units = c.units;
      advancer = Rest;
      odd = [];
      callers = replicate k (fresh_caller (units_of s));
    }

    same : c ≡ opened
    same = λ i. record {
      layout = is.layout i;
      cur = is.current i;
      dur = is.durable i;
      told = is.told i;
      units = c.units;
      advancer = is.advancer i;
      odd = is.odd i;
      callers = is.caller_parts i;
    }

    inside : (u : ℕ) (p : UnitPart) → slice_get c.units u ≡ Some p → u < units_of s
    inside u p at = let count = is.unit_count in let low = slice_get_within c.units u p at in omega arith

    sound : IsSound (opened_at (clock_of image) states) opened
    sound = let begun = well.clock_begun in record {
      sizes = record {
        layout = well.layout;
        current = well.size;
        durable = well.size;
        unit_count = is.unit_count;
        state_count = recovered.0;
        place = tt;
      };
      clocks = record {
        low = begun;
        begun = omega arith;
        behind = omega arith;
        last = well.clock_last;
        stand = refl;
        of_units = λ u p h. let none = (is.units u p h).durable in omega arith;
        of_callers = λ j q h. subst (λ (q : CallerPart). q.durable ≤ clock_of image) (row_copy k j (fresh_caller (units_of s)) q h).0
            (omega arith);
      };
      announcements = record {
        as_many = length-replicate (units_of s) 0 ∙ sym is.unit_count;
        each = λ u p h. let unit = is.units u p h in
            copy_row (units_of s) u 0 (inside u p h) ∙ ap Some (λ i. announcement (sym unit.stage i) (sym unit.frozen i));
      };
      registration = λ u p h. subst (StageFits (clock_of image) (clock_of image) (u < 0)) (sym (is.units u p h).stage) tt;
      slots = recovered_slots s image well c.units is.unit_count is.units;
      lost = λ u slot p h there. record {
        advancer = refl;
        unannounced = λ v q at. ap is_announced (is.units v q at).stage;
      };
      flush = tt;
      units = λ u p h. recovered_fits s image states u p well recovered (inside u p h) (is.units u p h);
      callers = subst (λ (n : ℕ). CallersFit (histories_of c.units) (cuts_of c.units) (clock_of image) (replicate k (fresh_caller n)) [])
          is.unit_count
          (callers_start (clock_of image) k c.units (λ u p h. (is.units u p h).history) (λ u p h. (is.units u p h).frozen));
    }
