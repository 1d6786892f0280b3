use Rattle.std.proofs.Common.{◌∙◌, ap, map}
use Rattle.job_run.specs.Desks.{empty_desk}
use Rattle.job_run.proofs.Worked.{fresh_desks, all_worked}
use Rattle.job_run.proofs.run.done_by.Goals as goal

pub run_desks-desks-requires-clause-fresh : goal.run_desks-desks-requires-clause-fresh
run_desks-desks-requires-clause-fresh g c κs within =
    fresh_desks (g.S.Asks.opening c.args.store.now) (g.S.Asks.has c.args.store.now) g.S.Asks.known g.S.Asks.cuts
    g.S.Asks.endless c.args.passes.now.items c.set_out-desks.result.items
    (c.set_out-desks.ensures ∙ ap (λ v. map empty_desk v.items) c.replace.ensures.value) c.requires.passes

pub returns-clause-worked : goal.returns-clause-worked
returns-clause-worked g c =
    all_worked (g.S.Asks.opening c.args.store.now) (g.S.Asks.has c.args.store.now) g.S.Asks.known g.S.Asks.cuts
    g.S.Asks.endless c.args.job.now c.args.passes.now.items c.clear_away.new.passes.items c.set_out-desks.result.items
    c.run_desks-desks.result.0.items c.clear_away.new.done.items
    (c.set_out-desks.ensures ∙ ap (λ v. map empty_desk v.items) c.replace.ensures.value)
    c.clear_away.ensures.passes c.clear_away.ensures.done c.run_desks-desks.ensures.worked
