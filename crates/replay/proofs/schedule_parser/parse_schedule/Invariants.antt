use Rattle.std.proofs.Common.{length}
use Rattle.replay.proofs.ScheduleFronts.{IsSoFar}
use Rattle.replay.proofs.schedule_parser.parse_schedule.Given as goal

-- the text begins with that of the schedule so far, and goes on with the rest
abbrev pub invariant-loop-rest : goal.invariant-loop-rest
invariant-loop-rest l =
    IsSoFar l.fn.text (record { layout = l.layout; callers = l.callers; events = l.events; runs = l.runs }) l.rest

abbrev pub decreases-loop-rest : goal.decreases-loop-rest
decreases-loop-rest l = length l.rest
