use Rattle.replay.proofs.UnitStates.{none_there, run_yes, run_no}
use Rattle.replay.proofs.making.is_run_of_unit.Goals as goal

pub returns-in_default-clause-no : goal.returns-in_default-clause-no
returns-in_default-clause-no c = λ of h.
    none_there c.args.core.now c.args.states.now c.requires c.args.unit c.in_default.ensures _ h

pub returns-clause-yes : goal.returns-clause-yes
returns-clause-yes c =
    run_yes c.args.core.now c.args.states.now c.requires c.args.unit c.in-Some.state.now c.in-Some.ensures c.args.op.now c.args.run.now
    c.gives_run.result c.gives_run.ensures.0

pub returns-clause-no : goal.returns-clause-no
returns-clause-no c =
    run_no c.args.core.now c.args.states.now c.requires c.args.unit c.in-Some.state.now c.in-Some.ensures c.args.op.now c.args.run.now
    c.gives_run.result c.gives_run.ensures.1
