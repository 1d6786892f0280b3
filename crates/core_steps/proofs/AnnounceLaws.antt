-- Each step by which a unit announces an epoch, stops doing so or is left by its caller keeps a core sound.
use Rattle.std.proofs.Common.{◌≡◌, ℕ, ◌-◌, ◌*◌, ◌≤◌, ◌<◌, List, [], ◌∷◌, length, set, get_or, sym, refl, ap, ◌∙◌, subst, ⊎_elim, arith, Bool, true, false}
use Rattle.std.specs.Prelude.{slice_get, Option, Some, None, is_none, nat_le, ◌==◌, ◌&&◌, ◌||◌, not, if◌then◌else◌}
use Rattle.std.specs.List.{Contains}
use Rattle.std.proofs.lemmas.Option.{get_or_from_slice_get}
use Rattle.mont_base.specs.declared.constants.TheConstants.{FIRST_CLOCK, LAST}
use Rattle.mont_base.specs.declared.record.Held.{Held}
use Rattle.core_steps.specs.declared.parts.Core.{Core}
use Rattle.core_steps.specs.declared.parts.UnitPart.{UnitPart}
use Rattle.core_steps.specs.declared.parts.CallerPart.{CallerPart}
use Rattle.core_steps.specs.declared.parts.UnitStage.{UnitStage}
use Rattle.core_steps.specs.declared.parts.UnitStage.TheVariants.{Idle, Told, Within, Closing}
use Rattle.core_steps.specs.Clock.{clock, durable_clock}
use Rattle.core_steps.specs.Stages.{is_idle, is_told, is_within, is_announced, is_closing, is_unfrozen, is_empty, phase_of, passed_of}
use Rattle.core_steps.specs.Announcing.{can_tell, after_tell, tell, can_confirm, confirmed, after_confirm, confirm, has_stored, can_withdraw, after_withdraw, withdraw, can_freeze, made_odd, after_freeze, caller_after_freeze, freeze}
use Rattle.core_steps.specs.Closing.{can_load_durable, after_load_durable, load_durable}
use Rattle.core_steps.specs.Events.{AreNoneLost}
use Rattle.core_steps.specs.Sound.{Base, base_state, announced, announcement, StageFits, IsSound}
use Rattle.core_steps.proofs.Decisions.{both, either_true, eq_true}
use Rattle.core_steps.proofs.Frames.{clocks_unit, clocks_caller, announcements_unit, announcements_same, lost_none, none_lost, none_lost_unit, lost_unit}
use Rattle.core_steps.proofs.SoundUnits.{callers_kept, flush_kept, sound_unit}
use Rattle.mont_base.specs.declared.operation.Entry.{Entry}
use Rattle.mont_laws.proofs.Members.{no_element}
use Rattle.core_steps.specs.Notes.{histories_of, cuts_of}
use Rattle.core_steps.specs.CallerClauses.{CallersFit}
use Rattle.core_steps.proofs.RoleFacts.{none_writing, none_written}
use Rattle.core_steps.proofs.RoleMoves.{slots_same, slots_restaged}
use Rattle.core_steps.proofs.UnitFrames.{unit_tell, unit_confirm, unit_withdraw, unit_freeze, unit_load_durable}
use Rattle.core_steps.proofs.CallerFrames.{histories_kept, cuts_set, history_row, cut_row, callers_freeze}

-- ---- stages
-- a unit of this stage isn't registered and closes no slot
pub record IsQuiet (stage : UnitStage) : Type 0 where
  pub outside : (e : ℕ) → stage ≡ Within e → ⊥
  pub closes_none : (t : ℕ) → is_closing stage t ≡ false

idle_quiet : (stage : UnitStage) → is_idle stage ≡ true → IsQuiet stage
idle_quiet Idle is = record { outside = λ e w. absurd (cc); closes_none = λ t. refl }
idle_quiet (Told e) is = absurd (cc)
idle_quiet (Within e) is = absurd (cc)
idle_quiet (Closing slot) is = absurd (cc)

told_quiet : (stage : UnitStage) → is_told stage ≡ true → IsQuiet stage
told_quiet Idle is = absurd (cc)
told_quiet (Told e) is = record { outside = λ e w. absurd (cc); closes_none = λ t. refl }
told_quiet (Within e) is = absurd (cc)
told_quiet (Closing slot) is = absurd (cc)

within_closes_none : (stage : UnitStage) → is_within stage ≡ true → (t : ℕ) → is_closing stage t ≡ false
within_closes_none Idle is t = absurd (cc)
within_closes_none (Told e) is t = absurd (cc)
within_closes_none (Within e) is t = refl
within_closes_none (Closing slot) is t = absurd (cc)

told_announced : (stage : UnitStage) → is_told stage ≡ true → is_announced stage ≡ true
told_announced Idle is = absurd (cc)
told_announced (Told e) is = refl
told_announced (Within e) is = absurd (cc)
told_announced (Closing slot) is = absurd (cc)

within_announced : (stage : UnitStage) → is_within stage ≡ true → is_announced stage ≡ true
within_announced Idle is = absurd (cc)
within_announced (Told e) is = absurd (cc)
within_announced (Within e) is = refl
within_announced (Closing slot) is = absurd (cc)

announced_unfrozen : (e : ℕ) (o : Option ℕ) → is_none o ≡ true → announced e o ≡ 2 * e
announced_unfrozen e None n = refl
announced_unfrozen e (Some k) n = absurd (cc)

-- ---- Tell
told_before : (p : UnitPart) (e : ℕ) → can_tell p e ≡ true → (is_unfrozen p ≡ true) × IsQuiet p.stage
told_before p e may =
    let rest : Bool = (is_idle p.stage || is_told p.stage) && (nat_le FIRST_CLOCK e && nat_le e LAST) in
    let first = both (is_unfrozen p) rest may in
    let stage = (both (is_idle p.stage || is_told p.stage) (nat_le FIRST_CLOCK e && nat_le e LAST) first.1).0 in
    (first.0, ⊎_elim (idle_quiet p.stage) (told_quiet p.stage) (either_true (is_idle p.stage) (is_told p.stage) stage))

pub tell_law :
    (base : Base) (c : Core) (u : ℕ) (p : UnitPart) (e : ℕ) → IsSound base c → AreNoneLost c.units → slice_get c.units u ≡ Some p
    → can_tell p e ≡ true → IsSound base (tell c u p e)
tell_law base c u p e s none at may =
    let q : UnitPart = after_tell p e in
    let now : ℕ = clock c in
    let d : ℕ = durable_clock c in
    let before = told_before p e may in
    let quiet = before.1 in
    let writing = none_writing c.layout now c.cur c.dur c.units u p s.slots at quiet.outside in
    let nothing = none_written c.layout now c.cur c.dur c.units u p s.slots at quiet.outside in
    sound_unit base c u q c.cur c.dur (set c.told u (2 * e)) c.callers s (record {
      current = refl;
      durable = refl;
      clock_stays = refl;
      durable_stays = refl;
      clocks = clocks_unit base.clock now d (phase_of c.advancer) c.units c.callers u q (s.clocks.of_units u p at) s.clocks;
      announcements = announcements_unit c.told c.units u (2 * e) p q at (sym (announced_unfrozen e p.frozen before.0)) s.announcements;
      stage = tt;
      slots = slots_restaged c.layout now c.cur c.dur c.units u p (Told e) s.slots at quiet.closes_none (λ t. refl) writing nothing;
      lost = lost_none (set c.units u q) c.advancer (none_lost_unit c.units u p q at refl none);
      flush = flush_kept c.cur c.dur (now - 1) c.units u p q c.advancer at refl s.flush;
      unit = unit_tell c.layout base.clock d u (base_state base u) now e p may (s.units u p at);
      seen = callers_kept c.units u p q now c.callers c.odd at refl refl s.callers;
    })

-- ---- Confirm
announcement_confirmed : (now : ℕ) (s : UnitStage) (o : Option ℕ) → announcement s o ≡ announcement (confirmed now s) o
announcement_confirmed now Idle o = refl
announcement_confirmed now (Told e) o =
    elim (now == e) as (λ t. announced e o ≡ announcement (if t then Within e else Told e) o) [ true ↦ refl | false ↦ refl ]
announcement_confirmed now (Within e) o = refl
announcement_confirmed now (Closing s) o = refl

-- an epoch that is the clock can be registered
told_fits :
    (b now e : ℕ) (passed : Type 0) → b ≤ now → (t : Bool) → (now == e) ≡ t → StageFits b now passed (if t then Within e else Told e)
told_fits b now e passed begun true is =
    let same : now ≡ e = eq_true now e is in
    record { begun = omega arith; reached = omega arith; near = omega arith; same = λ _. sym same }
told_fits b now e passed begun false is = tt

stage_confirmed :
    (b now : ℕ) (passed : Type 0) (s : UnitStage) → b ≤ now → StageFits b now passed s → StageFits b now passed (confirmed now s)
stage_confirmed b now passed Idle begun k = tt
stage_confirmed b now passed (Told e) begun k = told_fits b now e passed begun (now == e) refl
stage_confirmed b now passed (Within e) begun k = k
stage_confirmed b now passed (Closing s) begun k = tt

-- neither stage closes a slot
confirmed_closes_none : (now : ℕ) (s : UnitStage) → is_told s ≡ true → (t : ℕ) → is_closing (confirmed now s) t ≡ false
confirmed_closes_none now Idle is t = absurd (cc)
confirmed_closes_none now (Told e) is t =
    elim (now == e) as (λ b. is_closing (if b then Within e else Told e) t ≡ false) [ true ↦ refl | false ↦ refl ]
confirmed_closes_none now (Within e) is t = absurd (cc)
confirmed_closes_none now (Closing s) is t = absurd (cc)

pub confirm_law :
    (base : Base) (c : Core) (u : ℕ) (p : UnitPart) → IsSound base c → slice_get c.units u ≡ Some p → can_confirm p ≡ true
    → IsSound base (confirm c u p)
confirm_law base c u p s at may =
    let now : ℕ = clock c in
    let q : UnitPart = after_confirm p now in
    let d : ℕ = durable_clock c in
    let told = (both (is_unfrozen p) (is_told p.stage) may).1 in
    let quiet = told_quiet p.stage told in
    let writing = none_writing c.layout now c.cur c.dur c.units u p s.slots at quiet.outside in
    let nothing = none_written c.layout now c.cur c.dur c.units u p s.slots at quiet.outside in
    let none = none_lost c.units c.advancer u p s.lost at (told_announced p.stage told) in
    let begun = s.clocks.begun in
    let behind = s.clocks.behind in
    sound_unit base c u q c.cur c.dur c.told c.callers s (record {
      current = refl;
      durable = refl;
      clock_stays = refl;
      durable_stays = refl;
      clocks = clocks_unit base.clock now d (phase_of c.advancer) c.units c.callers u q (s.clocks.of_units u p at) s.clocks;
      announcements = announcements_same c.told c.units u p q at (announcement_confirmed now p.stage p.frozen) s.announcements;
      stage = stage_confirmed base.clock now (u < passed_of (length c.units) c.advancer) p.stage (omega arith) (s.registration u p at);
      slots = slots_restaged c.layout now c.cur c.dur c.units u p (confirmed now p.stage) s.slots at quiet.closes_none
          (confirmed_closes_none now p.stage told) writing nothing;
      lost = lost_none (set c.units u q) c.advancer (none_lost_unit c.units u p q at refl none);
      flush = flush_kept c.cur c.dur (now - 1) c.units u p q c.advancer at refl s.flush;
      unit = unit_confirm c.layout base.clock d u (base_state base u) now p may (s.units u p at);
      seen = callers_kept c.units u p q now c.callers c.odd at refl refl s.callers;
    })

-- ---- Withdraw
-- nothing was stored, and an epoch is announced
record IsUnstored (p : UnitPart) : Type 0 where
  announced_epoch : is_announced p.stage ≡ true
  closes_none : (t : ℕ) → is_closing p.stage t ≡ false
  none : p.writing ≡ None
  nothing : (w : Held) → Contains p.written w → ⊥

none_from : {A : Type 0} (o : Option A) → is_none o ≡ true → o ≡ None
none_from None is = refl
none_from (Some a) is = absurd (cc)

empty_has_none : (ws : List Held) → is_empty ws ≡ true → (w : Held) → Contains ws w → ⊥
empty_has_none [] is w h = no_element w h
empty_has_none (x ∷ ws) is w h = absurd (cc)

not_true : (b : Bool) → not b ≡ true → b ≡ false
not_true true is = absurd (cc)
not_true false is = refl

not_false : (b : Bool) → not b ≡ false → b ≡ true
not_false true is = refl
not_false false is = absurd (cc)

stored_none : (p : UnitPart) → not (has_stored p) ≡ true → (p.writing ≡ None) × ((w : Held) → Contains p.written w → ⊥)
stored_none p is =
    let empty = both (is_empty p.written) (is_none p.writing)
    (not_false (is_empty p.written && is_none p.writing) (not_true (has_stored p) is)) in
    (none_from p.writing empty.1, empty_has_none p.written empty.0)

withdraw_before :
    (base : Base) (c : Core) (u : ℕ) (p : UnitPart) → IsSound base c → slice_get c.units u ≡ Some p → can_withdraw p ≡ true
    → IsUnstored p
withdraw_before base c u p s at may = ⊎_elim
    (λ (told : is_told p.stage ≡ true). let quiet = told_quiet p.stage told in record {
      announced_epoch = told_announced p.stage told;
      closes_none = quiet.closes_none;
      none = none_writing c.layout (clock c) c.cur c.dur c.units u p s.slots at quiet.outside;
      nothing = none_written c.layout (clock c) c.cur c.dur c.units u p s.slots at quiet.outside;
    })
    (λ (w : (is_within p.stage && not (has_stored p)) ≡ true).
    let k = both (is_within p.stage) (not (has_stored p)) w in
    let stored = stored_none p k.1 in record {
      announced_epoch = within_announced p.stage k.0;
      closes_none = within_closes_none p.stage k.0;
      none = stored.0;
      nothing = stored.1;
    })
    (either_true (is_told p.stage) (is_within p.stage && not (has_stored p))
    (both (is_unfrozen p) (is_told p.stage || (is_within p.stage && not (has_stored p))) may).1)

pub withdraw_law :
    (base : Base) (c : Core) (u : ℕ) (p : UnitPart) → IsSound base c → slice_get c.units u ≡ Some p → can_withdraw p ≡ true
    → IsSound base (withdraw c u p)
withdraw_law base c u p s at may =
    let now : ℕ = clock c in
    let q : UnitPart = after_withdraw p in
    let d : ℕ = durable_clock c in
    let k = withdraw_before base c u p s at may in
    let none = none_lost c.units c.advancer u p s.lost at k.announced_epoch in
    sound_unit base c u q c.cur c.dur (set c.told u 0) c.callers s (record {
      current = refl;
      durable = refl;
      clock_stays = refl;
      durable_stays = refl;
      clocks = clocks_unit base.clock now d (phase_of c.advancer) c.units c.callers u q (s.clocks.of_units u p at) s.clocks;
      announcements = announcements_unit c.told c.units u 0 p q at refl s.announcements;
      stage = tt;
      slots = slots_restaged c.layout now c.cur c.dur c.units u p Idle s.slots at k.closes_none (λ t. refl) k.none k.nothing;
      lost = lost_none (set c.units u q) c.advancer (none_lost_unit c.units u p q at refl none);
      flush = flush_kept c.cur c.dur (now - 1) c.units u p q c.advancer at refl s.flush;
      unit = unit_withdraw c.layout base.clock d u (base_state base u) now (u < passed_of (length c.units) c.advancer) p
          (s.registration u p at) (s.units u p at);
      seen = callers_kept c.units u p q now c.callers c.odd at refl refl s.callers;
    })

-- ---- Freeze
announcement_odd :
    (s : UnitStage) (o : Option ℕ) (w k : ℕ) → is_none o ≡ true → w ≡ announcement s o → made_odd s w ≡ announcement s (Some k)
announcement_odd Idle o w k n e = e
announcement_odd (Told x) o w k n e = let e' : w ≡ 2 * x = e ∙ announced_unfrozen x o n in omega arith
announcement_odd (Within x) o w k n e = let e' : w ≡ 2 * x = e ∙ announced_unfrozen x o n in omega arith
announcement_odd (Closing s) o w k n e = e

pub freeze_law :
    (base : Base) (c : Core) (u : ℕ) (p : UnitPart) (k : ℕ) (r : CallerPart) → IsSound base c → slice_get c.units u ≡ Some p
    → slice_get c.callers k ≡ Some r → can_freeze p ≡ true → IsSound base (freeze c u p k r)
freeze_law base c u p k r s at by may =
    let now : ℕ = clock c in
    let q : UnitPart = after_freeze p k in
    let t : CallerPart = caller_after_freeze r u in
    let d : ℕ = durable_clock c in
    let w : ℕ = get_or c.told u 0 in
    let uncut = none_from p.frozen may in
    sound_unit base c u q c.cur c.dur (set c.told u (made_odd p.stage w)) (set c.callers k t) s (record {
      current = refl;
      durable = refl;
      clock_stays = refl;
      durable_stays = refl;
      clocks = clocks_caller base.clock now d (phase_of c.advancer) (set c.units u q) c.callers k t (s.clocks.of_callers k r by)
          (clocks_unit base.clock now d (phase_of c.advancer) c.units c.callers u q (s.clocks.of_units u p at) s.clocks);
      announcements = announcements_unit c.told c.units u (made_odd p.stage w) p q at
          (announcement_odd p.stage p.frozen w k may
          (get_or_from_slice_get c.told u (announcement p.stage p.frozen) 0 (s.announcements.each u p at))) s.announcements;
      stage = s.registration u p at;
      slots = slots_same c.layout now c.cur c.dur c.units u p q s.slots at refl refl refl refl refl;
      lost = lost_unit c.units c.advancer u p q at (λ n h. h) (λ e. none_lost c.units c.advancer u p s.lost at e) s.lost;
      flush = flush_kept c.cur c.dur (now - 1) c.units u p q c.advancer at refl s.flush;
      unit = unit_freeze c.layout base.clock d u (base_state base u) now k p (s.units u p at);
      seen = subst (λ (t : List (List Entry) × List (Option ℕ)). CallersFit t.0 t.1 now (set c.callers k (caller_after_freeze r u)) c.odd)
          (λ i. (sym (histories_kept c.units u p q at refl) i, sym (cuts_set c.units u q) i))
          (callers_freeze (histories_of c.units) (cuts_of c.units) now c.callers c.odd u k p.history r (history_row c.units u p at)
          (cut_row c.units u p at ∙ ap Some uncut) by s.callers);
    })

-- ---- LoadDurable, of a unit
pub load_durable_law :
    (base : Base) (c : Core) (u : ℕ) (p : UnitPart) → IsSound base c → slice_get c.units u ≡ Some p → can_load_durable p ≡ true
    → IsSound base (load_durable c u p)
load_durable_law base c u p s at may =
    let now : ℕ = clock c in
    let d : ℕ = durable_clock c in
    let q : UnitPart = after_load_durable p d in
    sound_unit base c u q c.cur c.dur c.told c.callers s (record {
      current = refl;
      durable = refl;
      clock_stays = refl;
      durable_stays = refl;
      clocks = clocks_unit base.clock now d (phase_of c.advancer) c.units c.callers u q (omega arith) s.clocks;
      announcements = announcements_same c.told c.units u p q at refl s.announcements;
      stage = s.registration u p at;
      slots = slots_same c.layout now c.cur c.dur c.units u p q s.slots at refl refl refl refl refl;
      lost = lost_unit c.units c.advancer u p q at (λ n h. h) (λ e. none_lost c.units c.advancer u p s.lost at e) s.lost;
      flush = flush_kept c.cur c.dur (now - 1) c.units u p q c.advancer at refl s.flush;
      unit = unit_load_durable c.layout base.clock now d u (base_state base u) p may (s.clocks.of_units u p at) (s.units u p at);
      seen = callers_kept c.units u p q now c.callers c.odd at refl refl s.callers;
    })
