-- Runs of the machine.
use Rattle.std.specs.Prelude.{◌≡◌, ℕ, List, [], ◌∷◌, Some}
use Rattle.mont_base.specs.declared.constants.TheConstants.{FIRST_CLOCK}
use Rattle.mont_base.specs.Layout.{Shape, IsLayout}
use Rattle.mont_base.specs.Image.{empty_states}
use Rattle.core_steps.specs.declared.event.Event.{Event}
use Rattle.core_steps.specs.declared.parts.Core.{Core}
use Rattle.core_steps.specs.declared.parts.Note.{Note}
use Rattle.core_steps.specs.declared.parts.Part.{Part}
use Rattle.core_steps.specs.Events.{IsAllowed, after}
use Rattle.core_steps.specs.Fresh.{fresh}
use Rattle.core_steps.specs.Notes.{note_of, IsTrueNote}
use Rattle.core_steps.specs.Sound.{Base, IsSound}

-- the core after all steps of a list
abbrev pub after_all : Core → List Event → Core
after_all c [] = c
after_all c (e ∷ es) = after_all (after c e) es

-- each step of a list is allowed in its turn
abbrev pub AreAllowed : Core → List Event → Type 0
AreAllowed c [] = Unit {0}
AreAllowed c (e ∷ es) = IsAllowed c e × AreAllowed (after c e) es

-- Every allowed step leads from a sound core to a sound core,
abbrev pub StepsKeepSoundness : Type 0
StepsKeepSoundness =
    (base : Base) (c : Core) (e : Event) → IsSound base c → IsAllowed c e
    → IsSound base (after c e)

-- and so does every run of them.
abbrev pub SoundnessLasts : Type 0
SoundnessLasts =
    (base : Base) (c : Core) (es : List Event) → IsSound base c → AreAllowed c es
    → IsSound base (after_all c es)

-- The core of a store that was never used is sound.
abbrev pub FreshCoresAreSound : Type 0
FreshCoresAreSound =
    (s : Shape) (callers : ℕ) → IsLayout s
    → IsSound (record { clock = FIRST_CLOCK; states = empty_states s }) (fresh s callers)

-- What is noted of a part is true when it is noted,
abbrev pub SplitsAreTrue : Type 0
SplitsAreTrue =
    (base : Base) (c : Core) (part : Part) (note : Note) → IsSound base c
    → note_of c part ≡ Some note → IsTrueNote c note

-- and stays true under every step.
abbrev pub NotesLast : Type 0
NotesLast =
    (base : Base) (c : Core) (e : Event) (note : Note) → IsSound base c → IsAllowed c e
    → IsTrueNote c note → IsTrueNote (after c e) note
