use Rattle.std.proofs.Common.{ℕ, ap, sym, ◌∙◌}
use Rattle.std.specs.Prelude.{Err}
use Rattle.std.proofs.lemmas.Result.{err_from_is_err_and}
use Rattle.core_steps.specs.Advancing.{past_unit}
use Rattle.write_back.proofs.Asking.{asked_more}
use Rattle.write_back.proofs.AskedTimes.{asks_more}
use Rattle.advance.proofs.Ways.{same_more, same_layout, checked_more, checked_way, reason_more, past_here, past_end, past_moves}
use Rattle.advance.proofs.advancer.Advancer.pass_units.Goals as goal

pub pass_unit-requires-clause-heap : goal.pass_unit-requires-clause-heap
pass_unit-requires-clause-heap g c = c.loop-unit.invariant.same.table ∙ c.requires.heap

pub pass_unit-requires-clause-layout : goal.pass_unit-requires-clause-layout
pass_unit-requires-clause-layout g c = same_layout _ _ _ c.loop-unit.invariant.same c.requires.layout

pub pass_unit-requires-clause-clean : goal.pass_unit-requires-clause-clean
pass_unit-requires-clause-clean g c = c.loop-unit.invariant.clean

pub pass_unit-requires-clause-may : goal.pass_unit-requires-clause-may
pass_unit-requires-clause-may g c = (c.loop-unit.invariant.here c.loop-unit-test.true).0

pub pass_unit-requires-clause-unit : goal.pass_unit-requires-clause-unit
pass_unit-requires-clause-unit g c = (c.loop-unit.invariant.here c.loop-unit-test.true).1

pub loop-unit-preserved : goal.loop-unit-preserved
loop-unit-preserved g c =
    let i = c.loop-unit.invariant in
    let e = c.in_ok-pass_unit.ensures in
    let on = e.ok ∙ ap (λ (n : ℕ). past_unit n c.loop-unit.unit) (sym i.count) in record {
      gate = asked_more _ _ _ _ _ _ i.gate e.gate;
      asked = asks_more g.G.Gate.asked _ _ _ _ _ _ _ i.asked e.asked;
      same = same_more _ _ _ i.same e.same;
      first = i.first;
      checked = checked_more _ _ _ i.checked e.checked;
      clean = λ rest. absurd (past_moves _ _ _ on rest);
      here = λ below. past_here _ _ _ _ on below;
      past = λ above. past_end _ _ _ on above;
      count = i.count ∙ sym e.same.units;
    }

pub returns-in_err-pass_unit-clause-gate : goal.returns-in_err-pass_unit-clause-gate
returns-in_err-pass_unit-clause-gate g c =
    let p = err_from_is_err_and c.from_residual.result c.from_residual.ensures.1 in
    rw (p.1, p.2) (asked_more _ _ _ _ _ _ c.loop-unit.invariant.gate c.in_err-pass_unit.ensures.gate)

pub returns-in_err-pass_unit-clause-asked : goal.returns-in_err-pass_unit-clause-asked
returns-in_err-pass_unit-clause-asked g c =
    let p = err_from_is_err_and c.from_residual.result c.from_residual.ensures.1 in
    rw (p.1, p.2) (asks_more g.G.Gate.asked _ _ _ _ _ _ _ c.loop-unit.invariant.asked c.in_err-pass_unit.ensures.asked)

pub returns-in_err-pass_unit-clause-same : goal.returns-in_err-pass_unit-clause-same
returns-in_err-pass_unit-clause-same g c = same_more _ _ _ c.loop-unit.invariant.same c.in_err-pass_unit.ensures.same

pub returns-in_err-pass_unit-clause-way : goal.returns-in_err-pass_unit-clause-way
returns-in_err-pass_unit-clause-way g c =
    checked_way _ _ c.loop-unit.invariant.first (checked_more _ _ _ c.loop-unit.invariant.checked c.in_err-pass_unit.ensures.checked)

pub returns-in_err-pass_unit-clause-reason : goal.returns-in_err-pass_unit-clause-reason
returns-in_err-pass_unit-clause-reason g c =
    let p = err_from_is_err_and c.from_residual.result c.from_residual.ensures.1 in
    rw (p.1, p.2) (reason_more _ c.args.self.now.known c.loop-unit.self.known c.pass_unit.new.self.known
    c.loop-unit.invariant.checked.steps (λ w. c.in_err-pass_unit.ensures.going (ap Err w)) c.in_err-pass_unit.ensures.reason)
