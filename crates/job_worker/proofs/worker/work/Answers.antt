use Rattle.std.proofs.Common.{◌≡◌, ◌==◌, true, ◌++◌, ◌∷◌, [], List, ap, sym, ◌∙◌, subst, arith, length, length-append}
use Rattle.std.proofs.lemmas.Bool.{eq-eqb}
use Rattle.std.proofs.lemmas.List.{take_all}
use Rattle.job_text.specs.declared.job.Line.{Line}
use Rattle.job_text.specs.declared.outcome.Outcome.{Outcome}
use Rattle.job_text.specs.Outcomes.{is_cut as ends_lines}
use Rattle.job_text.specs.Report.{lines_by}
use Rattle.job_worker.specs.Ending.{AreUncut, AreEnds}
use Rattle.job_worker.proofs.Gates.{asked_none, asked_on}
use Rattle.job_worker.proofs.Later.{goes_trans}
use Rattle.job_worker.proofs.Lines.{no_ends, more_ends, more_uncut, uncut_cuts, own_there, own_more, HasDone, done_all, done_cut, done_along}
use Rattle.job_worker.proofs.Waits.{on_err_of}
use Rattle.job_worker.proofs.worker.work.Goals as goal
use Rattle.job_worker.proofs.worker.work.Goals.{else-loop-line-test, then-loop-line-test+else-line-caller+in_ok-reserve+in_ok-outcome+then-is_cut}

pub loop-line-init : goal.loop-line-init
loop-line-init g c =
    let o = g.S.Asks.opening c.args.store.now in
    let q = g.S.Asks.known c.args.pass.now in
    let own = lines_by c.args.caller c.args.lines.now in
    let none = c.new-outcomes.ensures.items in
    record {
      has = c.requires.pass;
      gate = asked_none g.S.Asks.cuts g.S.Asks.endless c.args.pass.now;
      count = ap length none;
      uncut = λ k d below. let long = ap length none in let n : ⊥ = omega (arith, long, below) in absurd n;
      ends = subst (λ (v : List Outcome). AreEnds o q q own v) (sym none)
          (no_ends o q own c.requires.unanswered);
    }

pub returns-in_err-reserve-clause-uncut : goal.returns-in_err-reserve-clause-uncut
returns-in_err-reserve-clause-uncut g c =
    let i = c.loop-line.invariant in
    on_err_of c.from_residual.result (uncut_cuts (g.S.Asks.opening c.args.store.now) (g.S.Asks.known c.args.pass.now)
    (g.S.Asks.known c.loop-line.pass) (lines_by c.args.caller c.args.lines.now) c.loop-line.outcomes.items i.ends i.uncut)

pub returns-in_err-outcome-clause-goes_on : goal.returns-in_err-outcome-clause-goes_on
returns-in_err-outcome-clause-goes_on g c =
    goes_trans (g.S.Asks.known c.args.pass.now) (g.S.Asks.known c.loop-line.pass) (g.S.Asks.known c.carry_out_line.new.pass)
    c.loop-line.invariant.ends.goes_on c.in_err-outcome.ensures.keeps.goes_on

pub returns-in_err-outcome-clause-uncut : goal.returns-in_err-outcome-clause-uncut
returns-in_err-outcome-clause-uncut g c =
    let i = c.loop-line.invariant in
    on_err_of c.from_residual-in_err-outcome.result
    (c.in_err-outcome.ensures.keeps.cuts ∙ uncut_cuts (g.S.Asks.opening c.args.store.now) (g.S.Asks.known c.args.pass.now)
    (g.S.Asks.known c.loop-line.pass) (lines_by c.args.caller c.args.lines.now) c.loop-line.outcomes.items i.ends i.uncut)

pub loop-line-preserved : goal.loop-line-preserved
loop-line-preserved g c =
    let o = g.S.Asks.opening c.args.store.now in
    let q = g.S.Asks.known c.args.pass.now in
    let r = g.S.Asks.known c.loop-line.pass in
    let s = g.S.Asks.known c.carry_out_line.new.pass in
    let i = c.loop-line.invariant in
    let xs = c.loop-line.outcomes.items in
    let x = c.in_ok-outcome.outcome in
    let line = c.line-item.result in
    let own = lines_by c.args.caller c.args.lines.now in
    let mine : (line.caller == c.args.caller) ≡ true = eq-eqb line.caller c.args.caller c.if-line-caller.false in
    let made : c.push_reserved.new.self.items ≡ xs ++ x ∷ [] =
    c.push_reserved.ensures.items ∙ ap (λ (v : List Outcome). v ++ x ∷ []) c.reserve.ensures.items in
    let uncut = sym c.is_cut.ensures ∙ c.if-is_cut.false in
    record {
      has = c.carry_out_line.ensures.pass;
      gate = asked_on g.S.Asks.cuts g.S.Asks.endless c.args.pass.now c.loop-line.pass c.carry_out_line.new.pass (ends_lines x) uncut
          i.gate c.in_ok-outcome.ensures.gate;
      count = omega (
        arith,
        ap length made,
        length-append xs (x ∷ []),
        own_more c.args.caller c.args.lines.now c.loop-line.line-index line (length xs) c.loop-line-test.true c.line-item.is i.count mine,
      );
      uncut = subst (λ (v : List Outcome). AreUncut v) (sym made) (more_uncut xs x i.uncut uncut);
      ends = subst (λ (v : List Outcome). AreEnds o q s own v) (sym made)
          (more_ends o q r s own xs line x i.uncut i.ends c.in_ok-outcome.ensures.ends
          (own_there c.args.caller c.args.lines.now xs c.loop-line.line-index line i.count c.loop-line-test.true c.line-item.is mine));
    }

pub returns : goal.returns
returns g c =
    let o = g.S.Asks.opening c.args.store.now in
    let has = g.S.Asks.has c.args.store.now in
    let lines = lines_by c.args.caller c.args.lines.now in
    let start = c.args.pass.now in
    let i = c.loop-line.invariant in
    let xs = c.loop-line.outcomes.items in
    let d : HasDone g.S.Asks.cuts g.S.Asks.endless g.S.Asks.known has o lines start c.loop-line-test.pass c.loop-line-test.outcomes.items =
    elim c.loop-line-test.branch [
      | else-loop-line-test w ↦
          done_along g.S.Asks.cuts g.S.Asks.endless g.S.Asks.known has o lines start c.loop-line-test.pass c.loop-line.pass
          c.loop-line-test.outcomes.items xs w.pass-is (ap (λ v. v.items) w.outcomes-is)
          (done_all g.S.Asks.cuts g.S.Asks.endless g.S.Asks.known has o lines start c.loop-line.pass xs i.has i.gate
          (i.count ∙ ap (λ (ls : List Line). length (lines_by c.args.caller ls))
          (take_all c.loop-line.line-index c.args.lines.now
          (let past = w.loop-line-test.false in let most = c.loop-line.auto.line-index-end in omega (arith, past, most)))) i.uncut i.ends)
      | then-loop-line-test+else-line-caller+in_ok-reserve+in_ok-outcome+then-is_cut w ↦ (
          let x = w.in_ok-outcome.outcome in
          let made : w.push_reserved.new.self.items ≡ xs ++ x ∷ [] =
          w.push_reserved.ensures.items ∙ ap (λ (v : List Outcome). v ++ x ∷ []) w.reserve.ensures.items in
          done_along g.S.Asks.cuts g.S.Asks.endless g.S.Asks.known has o lines start c.loop-line-test.pass w.carry_out_line.new.pass
          c.loop-line-test.outcomes.items (xs ++ x ∷ []) w.pass-is (ap (λ v. v.items) w.outcomes-is ∙ made)
          (done_cut g.S.Asks.cuts g.S.Asks.endless g.S.Asks.known has o lines start c.loop-line.pass w.carry_out_line.new.pass xs
          w.line-item.result x w.carry_out_line.ensures.pass i.gate w.in_ok-outcome.ensures.gate
          (sym w.is_cut.ensures ∙ w.if-is_cut.true)
          (own_there c.args.caller c.args.lines.now xs c.loop-line.line-index w.line-item.result i.count w.loop-line-test.true
          w.line-item.is (eq-eqb w.line-item.result.caller c.args.caller w.if-line-caller.false))
          i.uncut i.ends w.in_ok-outcome.ensures.ends))
    ] in
    record { pass = d.pass; goes_on = d.goes_on; gate = d.gate; worked = d.worked; uncut = tt }
