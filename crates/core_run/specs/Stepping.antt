-- Which steps take memory.
use Rattle.std.specs.Prelude.{◌≡◌, ◌≢◌, ◌⊎◌, length}
use Rattle.core_steps.specs.declared.event.Event.{Event}
use Rattle.core_steps.specs.declared.event.Event.TheVariants as events
use Rattle.core_steps.specs.declared.parts.Core.{Core}
use Rattle.core_steps.specs.declared.parts.Part.{Part}
use Rattle.core_steps.specs.declared.parts.Part.TheVariants as parts
use Rattle.core_steps.specs.Events.{OfCaller, IsAllowed}

-- a step that answers a caller, whose reply is judged on the state that the unit's records show
abbrev pub AnswersCaller : Event → Type 0
AnswersCaller (events.Leave u k op reply) = Unit {0}
AnswersCaller (events.Read u k op reply) = Unit {0}
AnswersCaller _ = ⊥

-- what the caller knows to be durable isn't told of as many units as what it has seen; no sound
-- core has such a caller
abbrev pub LoadsLonger : Core → Part → Type 0
LoadsLonger c (parts.Caller k) = OfCaller c k (λ q. length q.synced ≢ length q.fronts)
LoadsLonger c _ = ⊥

abbrev pub JoinsLonger : Part → Type 0
JoinsLonger (parts.Caller k) = Unit {0}
JoinsLonger _ = ⊥

-- a step by which a list of the core may become longer
abbrev pub MakesLonger : Core → Event → Type 0
MakesLonger c (events.Store u slot field value) = field ≡ 0
MakesLonger c (events.Leave u k op reply) = Unit {0}
MakesLonger c (events.Read u k op reply) = Unit {0}
MakesLonger c (events.Freeze u k) = Unit {0}
MakesLonger c (events.LoadDurable part) = LoadsLonger c part
MakesLonger c events.Check = Unit {0}
MakesLonger c (events.Join part note) = JoinsLonger part
MakesLonger c _ = ⊥

-- A step that is judged may want for memory, and so may an allowed one that makes a list longer.
abbrev pub TakesMemory : Core → Event → Type 0
TakesMemory c e = AnswersCaller e ⊎ (MakesLonger c e × IsAllowed c e)
