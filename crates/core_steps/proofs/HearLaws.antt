-- Each step by which a caller learns something keeps a core sound.
use Rattle.std.proofs.Common.{◌≡◌, ℕ, ◌≤◌, set, arith}
use Rattle.std.specs.Prelude.{slice_get, Some}
use Rattle.core_steps.specs.declared.parts.Core.{Core}
use Rattle.core_steps.specs.declared.parts.CallerPart.{CallerPart}
use Rattle.core_steps.specs.declared.parts.Note.{Note}
use Rattle.core_steps.specs.Clock.{clock, durable_clock}
use Rattle.core_steps.specs.Stages.{phase_of}
use Rattle.core_steps.specs.Closing.{after_see_durable, see_durable}
use Rattle.core_steps.specs.Notes.{histories_of, cuts_of, IsTrueNote, after_hear, hear}
use Rattle.core_steps.specs.CallerClauses.{CallersFit}
use Rattle.core_steps.specs.Sound.{Base, IsSound}
use Rattle.core_steps.proofs.Frames.{clocks_caller}
use Rattle.core_steps.proofs.CallerHears.{callers_hear, durable_heard, callers_see_durable}

-- a caller's part changes
sound_caller :
    (base : Base) (c : Core) (k : ℕ) (t : CallerPart) → IsSound base c → t.durable ≤ durable_clock c
    → CallersFit (histories_of c.units) (cuts_of c.units) (clock c) (set c.callers k t) c.odd
    → IsSound base (record c { callers = set c.callers k t })
sound_caller base c k t s known seen = record {
  sizes = s.sizes;
  clocks = clocks_caller base.clock (clock c) (durable_clock c) (phase_of c.advancer) c.units c.callers k t known s.clocks;
  announcements = s.announcements;
  registration = s.registration;
  slots = s.slots;
  lost = s.lost;
  flush = s.flush;
  units = s.units;
  callers = seen;
}

-- LoadDurable, of a caller
pub see_durable_law :
    (base : Base) (c : Core) (k : ℕ) (q : CallerPart) → IsSound base c → slice_get c.callers k ≡ Some q → IsSound base (see_durable c k q)
see_durable_law base c k q s at = sound_caller base c k (after_see_durable q (durable_clock c)) s (omega arith)
    (callers_see_durable (histories_of c.units) (cuts_of c.units) (clock c) k c.callers q c.odd at s.callers (durable_clock c)
    (s.clocks.of_callers k q at))

-- Join, of a caller
pub hear_law :
    (base : Base) (c : Core) (k : ℕ) (q : CallerPart) (note : Note) → IsSound base c → slice_get c.callers k ≡ Some q → IsTrueNote c note
    → IsSound base (hear c k q note)
hear_law base c k q note s at true_note = sound_caller base c k (after_hear q note) s
    (durable_heard q note (durable_clock c) (s.clocks.of_callers k q at) true_note.known)
    (callers_hear (histories_of c.units) (cuts_of c.units) (clock c) k c.callers q c.odd at s.callers (durable_clock c) note true_note)
