use Rattle.std.proofs.Common.{◌∙◌, sym, subst}
use Rattle.std.specs.Prelude.{IfOk, IfErr}
use Rattle.heap.specs.HeapShown.{HeapShown}
use Rattle.caller.specs.Continued.{HasContinued}
use Rattle.job_worker.specs.Asking.{HasLearntWhy}
use Rattle.montage.proofs.CallsAsked.{if_continued, if_learnt_why}
use Rattle.montage.proofs.asking.AskedStoreAsksPass.call.Goals as goal

pub returns-clause-answered : goal.returns-clause-answered
returns-clause-answered g c =
    let q = c.args.pass.now.ticket in
    let r = c.apply.new.pass.ticket in
    let opened = c.heap-heap.ensures.opened in
    subst
    (λ (h : HeapShown). IfOk c.apply.result (λ receipt. HasContinued h.opening q.known r.known c.args.op.now receipt))
    (sym opened.of_heap ∙ c.self.view_is)
    (if_continued g.N.HeapName.heap _ opened q r c.args.op.now c.apply.result c.apply.ensures.answered)

pub returns-clause-refused : goal.returns-clause-refused
returns-clause-refused g c =
    let q = c.args.pass.now.ticket in
    let r = c.apply.new.pass.ticket in
    let opened = c.heap-heap.ensures.opened in
    subst (λ (h : HeapShown). IfErr c.apply.result (λ why. HasLearntWhy h.opening q.known r.known c.args.op.now why))
    (sym opened.of_heap ∙ c.self.view_is)
    (if_learnt_why g.N.HeapName.heap _ opened q r c.args.op.now c.apply.result c.apply.ensures.refused)

pub returns-clause-pass : goal.returns-clause-pass
returns-clause-pass g c =
    let same = c.apply.ensures.same in
    record {
      own = same.table ∙ c.requires.pass.own;
      whole = same.whole c.requires.pass.whole;
    }
