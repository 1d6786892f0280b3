-- The words that texts are made of, and what stands after each: the table by which lines are judged.
use Rattle.std.specs.Prelude.{ℕ, List, [], ◌∷◌, codes}
use Rattle.mont_base.specs.declared.kinds.UnitKind.TheVariants as kinds
use Rattle.refusal_help.specs.declared.wanted.Wanted.{Wanted}
use Rattle.refusal_help.specs.declared.wanted.Wanted.TheVariants as wants
use Rattle.refusal_help.specs.declared.wanted.Figure.TheVariants as figures
use Rattle.refusal_help.specs.declared.wanted.Fixed.{Fixed}
use Rattle.refusal_help.specs.declared.wanted.Fixed.TheVariants as fixed
use Rattle.refusal_help.specs.declared.operation.Operation.{Operation}
use Rattle.refusal_help.specs.declared.operation.Operation.TheVariants as operations
use Rattle.refusal_help.specs.declared.event.Event.{Event}
use Rattle.refusal_help.specs.declared.event.Event.TheVariants as events
use Rattle.refusal_help.specs.declared.form.Form.{Form}
use Rattle.refusal_help.specs.declared.form.Form.TheVariants as forms
use Rattle.refusal_help.specs.declared.reply.Reply.{Reply}
use Rattle.refusal_help.specs.declared.reply.Reply.TheVariants as replies
use Rattle.refusal_help.specs.declared.part.Part.{Part}
use Rattle.refusal_help.specs.declared.part.Part.TheVariants as parts

abbrev pub fixed_word : Fixed → List ℕ
fixed_word fixed.JobTitle = codes "montage-job"
fixed_word fixed.ScheduleTitle = codes "montage-schedule"
fixed_word fixed.JobVersion = codes "3"
fixed_word fixed.ScheduleVersion = codes "1"
fixed_word fixed.Stop = codes "stop"
fixed_word fixed.Equals = codes "="

-- ---- what a caller asks
abbrev pub operation_word : Operation → List ℕ
operation_word operations.Put = codes "put"
operation_word operations.Get = codes "get"
operation_word operations.Del = codes "del"
operation_word operations.Enq = codes "enq"
operation_word operations.Deq = codes "deq"
operation_word operations.Len = codes "len"
operation_word operations.AddV = codes "addv"
operation_word operations.DelV = codes "delv"
operation_word operations.AddE = codes "adde"
operation_word operations.DelE = codes "dele"
operation_word operations.Vertex = codes "vertex"
operation_word operations.Degree = codes "degree"
operation_word operations.OPut = codes "oput"
operation_word operations.OGet = codes "oget"
operation_word operations.ODel = codes "odel"
operation_word operations.OFloor = codes "ofloor"
operation_word operations.ORank = codes "orank"
operation_word operations.ORange = codes "orange"
operation_word operations.Tick = codes "tick"
operation_word operations.Sync = codes "sync"

abbrev pub args_of : Operation → List Wanted
args_of operations.Put = wants.Key ∷ wants.Value ∷ []
args_of operations.Get = wants.Key ∷ []
args_of operations.Del = wants.Key ∷ []
args_of operations.Enq = wants.UnitOf kinds.Queue ∷ wants.Number figures.Any ∷ []
args_of operations.Deq = wants.UnitOf kinds.Queue ∷ []
args_of operations.Len = wants.UnitOf kinds.Queue ∷ []
args_of operations.AddV = wants.UnitOf kinds.Graph ∷ wants.Number figures.Any ∷ wants.Number figures.Any ∷ []
args_of operations.DelV = wants.UnitOf kinds.Graph ∷ wants.Number figures.Any ∷ []
args_of operations.AddE = wants.UnitOf kinds.Graph ∷ wants.Number figures.Any ∷ wants.Number figures.Any ∷ wants.Number figures.Any ∷ []
args_of operations.DelE = wants.UnitOf kinds.Graph ∷ wants.Number figures.Any ∷ wants.Number figures.Any ∷ []
args_of operations.Vertex = wants.UnitOf kinds.Graph ∷ wants.Number figures.Any ∷ []
args_of operations.Degree = wants.UnitOf kinds.Graph ∷ wants.Number figures.Any ∷ []
args_of operations.OPut = wants.UnitOf kinds.Ordered ∷ wants.Key ∷ wants.Value ∷ []
args_of operations.OGet = wants.UnitOf kinds.Ordered ∷ wants.Key ∷ []
args_of operations.ODel = wants.UnitOf kinds.Ordered ∷ wants.Key ∷ []
args_of operations.OFloor = wants.UnitOf kinds.Ordered ∷ wants.Key ∷ []
args_of operations.ORank = wants.UnitOf kinds.Ordered ∷ wants.Key ∷ []
args_of operations.ORange = wants.UnitOf kinds.Ordered ∷ wants.Key ∷ wants.Key ∷ wants.Number figures.Most ∷ []
args_of operations.Tick = []
args_of operations.Sync = []

-- ---- events of schedules
abbrev pub event_word : Event → List ℕ
event_word events.Look = codes "look"
event_word events.Tell = codes "tell"
event_word events.Confirm = codes "confirm"
event_word events.Store = codes "store"
event_word events.Leave = codes "leave"
event_word events.Read = codes "read"
event_word events.Withdraw = codes "withdraw"
event_word events.Freeze = codes "freeze"
event_word events.Durable = codes "durable"
event_word events.Close = codes "close"
event_word events.PersistClose = codes "persistclose"
event_word events.Check = codes "check"
event_word events.LoadWord = codes "loadword"
event_word events.PersistWord = codes "persistword"
event_word events.SetClock = codes "setclock"
event_word events.PersistClock = codes "persistclock"

abbrev pub event_args : Event → List Wanted
event_args events.Look = wants.Number figures.Unit ∷ []
event_args events.Tell = wants.Number figures.Unit ∷ wants.Number figures.Any ∷ []
event_args events.Confirm = wants.Number figures.Unit ∷ []
event_args events.Store = wants.Number figures.Unit ∷ wants.Number figures.Slot ∷ wants.Number figures.Any ∷ wants.Number figures.Any ∷ []
event_args events.Leave = wants.Number figures.Unit ∷ wants.Number figures.Caller ∷ wants.Operation ∷ []
event_args events.Read = wants.Number figures.Unit ∷ wants.Number figures.Caller ∷ wants.Operation ∷ []
event_args events.Withdraw = wants.Number figures.Unit ∷ []
event_args events.Freeze = wants.Number figures.Unit ∷ wants.Number figures.Caller ∷ []
event_args events.Durable = wants.Part ∷ []
event_args events.Close = wants.Number figures.Unit ∷ wants.Number figures.Slot ∷ []
event_args events.PersistClose = wants.Number figures.Unit ∷ []
event_args events.Check = []
event_args events.LoadWord = []
event_args events.PersistWord = []
event_args events.SetClock = []
event_args events.PersistClock = []

-- ---- the word after `durable`
abbrev pub part_word : Part → List ℕ
part_word parts.Unit = codes "unit"
part_word parts.Caller = codes "caller"

abbrev pub part_args : Part → List Wanted
part_args parts.Unit = wants.Number figures.Unit ∷ []
part_args parts.Caller = wants.Number figures.Caller ∷ []

-- ---- replies
abbrev pub reply_word : Reply → List ℕ
reply_word replies.Nothing = codes "none"
reply_word replies.Was = codes "was"
reply_word replies.Count = codes "count"
reply_word replies.NoEnds = codes "noends"
reply_word replies.Key = codes "key"
reply_word replies.Pairs = codes "pairs"

-- ---- the command line; after `resume` a second file may stand
abbrev pub form_word : Form → List ℕ
form_word forms.Run = codes "run"
form_word forms.Crash = codes "crash"
form_word forms.Resume = codes "resume"
form_word forms.Recover = codes "recover"
form_word forms.Check = codes "check"
form_word forms.Replay = codes "replay"
form_word forms.Big = codes "big"
form_word forms.Bank = codes "bank"
form_word forms.Help = codes "--help"
form_word forms.Version = codes "--version"

abbrev pub form_args : Form → List Wanted
form_args forms.Run = []
form_args forms.Crash = wants.File ∷ []
form_args forms.Resume = wants.File ∷ []
form_args forms.Recover = wants.File ∷ wants.Number figures.Workers ∷ []
form_args forms.Check = wants.File ∷ []
form_args forms.Replay = []
form_args forms.Big = wants.Number figures.Any ∷ []
form_args forms.Bank = wants.Number figures.Any ∷ []
form_args forms.Help = []
form_args forms.Version = []
