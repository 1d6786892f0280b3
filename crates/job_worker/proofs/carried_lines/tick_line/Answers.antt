use Rattle.std.proofs.Common.{ap, ◌∙◌, Err}
use Rattle.caller.specs.declared.sync_refusal.SyncRefusal.TheVariants as syncs
use Rattle.job_worker.specs.Asking.{advance_was_cut}
use Rattle.job_worker.proofs.Gates.{asked_none, asked_on}
use Rattle.job_worker.proofs.Later.{keeps_same, keeps_trans}
use Rattle.job_worker.proofs.Waits.{ends_ticked, ends_tick_refused, heard_stuck, heard_end}
use Rattle.job_worker.proofs.carried_lines.tick_line.Goals as goal

pub loop-init : goal.loop-init
loop-init g c = record {
  has = c.requires.pass;
  gate = asked_none g.S.Asks.cuts g.S.Asks.endless c.args.pass.now;
  keeps = keeps_same (g.S.Asks.known c.args.pass.now);
}

pub loop-preserved : goal.loop-preserved
loop-preserved g c =
    let a = c.in-Err-NotYet-default-default-false in
    let i = c.loop.invariant in
    record {
      has = c.tick.ensures.pass;
      gate = asked_on g.S.Asks.cuts g.S.Asks.endless c.args.pass.now c.loop.pass c.tick.new.pass
          (advance_was_cut c.tick.result) (ap advance_was_cut (a.is ∙ ap Err a.field-0-is)) i.gate c.tick.ensures.gate;
      keeps = keeps_trans (g.S.Asks.known c.args.pass.now) (g.S.Asks.known c.loop.pass) (g.S.Asks.known c.tick.new.pass)
          i.keeps c.tick.ensures.keeps;
    }

pub returns-in-Ok-clause-ends : goal.returns-in-Ok-clause-ends
returns-in-Ok-clause-ends g c =
    ends_ticked (g.S.Asks.opening c.args.store.now) (g.S.Asks.known c.args.pass.now) (g.S.Asks.known c.loop.pass)
    (g.S.Asks.known c.tick.new.pass) c.in-Ok.epoch c.loop.invariant.keeps c.tick.ensures.keeps c.in-Ok.ensures.moved

pub returns-in-Err-NotYet-clause-ends : goal.returns-in-Err-NotYet-clause-ends
returns-in-Err-NotYet-clause-ends g c =
    let a = c.in-Err-NotYet in
    let r = g.S.Asks.known c.tick.new.pass in
    ends_tick_refused (g.S.Asks.opening c.args.store.now) (g.S.Asks.known c.args.pass.now) r
    (syncs.Stuck a.unit a.epoch)
    (keeps_trans (g.S.Asks.known c.args.pass.now) (g.S.Asks.known c.loop.pass) r c.loop.invariant.keeps c.tick.ensures.keeps)
    (heard_stuck r c.tick.result a.unit a.epoch a.field-0-2 a.field-0-2-test (a.is ∙ ap Err a.field-0-is) c.tick.ensures.refused)

pub returns-in-Err-Cut-clause-ends : goal.returns-in-Err-Cut-clause-ends
returns-in-Err-Cut-clause-ends g c =
    let r = g.S.Asks.known c.tick.new.pass in
    ends_tick_refused (g.S.Asks.opening c.args.store.now) (g.S.Asks.known c.args.pass.now) r syncs.Cut
    (keeps_trans (g.S.Asks.known c.args.pass.now) (g.S.Asks.known c.loop.pass) r c.loop.invariant.keeps c.tick.ensures.keeps) tt

pub returns-in-Err-ClockEnd-clause-ends : goal.returns-in-Err-ClockEnd-clause-ends
returns-in-Err-ClockEnd-clause-ends g c =
    let a = c.in-Err-ClockEnd in
    let r = g.S.Asks.known c.tick.new.pass in
    ends_tick_refused (g.S.Asks.opening c.args.store.now) (g.S.Asks.known c.args.pass.now) r syncs.ClockEnd
    (keeps_trans (g.S.Asks.known c.args.pass.now) (g.S.Asks.known c.loop.pass) r c.loop.invariant.keeps c.tick.ensures.keeps)
    (heard_end r c.tick.result (a.is ∙ ap Err a.field-0-is) c.tick.ensures.refused)
