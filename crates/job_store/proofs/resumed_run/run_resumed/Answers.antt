use Rattle.std.proofs.Common.{sym, ap, ◌∙◌, map}
use Rattle.std.specs.FinMap as finite
use Rattle.heap_rule.specs.declared.rule.Opening.{Opening}
use Rattle.mont_image.specs.ImageReader.{parts_of}
use Rattle.mont_check.proofs.Layouts.{layout_Decides}
use Rattle.job_store.specs.ResumeRefusal.{of_image, of_opening}
use Rattle.job_store.specs.ResumedRun.{RefusesResume}
use Rattle.job_store.proofs.Resumed.{fits, of_other, refusal_is, refuses_boxes, refuses_now, told_one, told_two}
use Rattle.job_store.proofs.resumed_run.run_resumed.Goals as goal

pub returns-in_err-recovered-clause-refused : goal.returns-in_err-recovered-clause-refused
returns-in_err-recovered-clause-refused g c =
    let why = c.in_err-recovered.field-0.0 in
    let boxes = map (λ b. finite.len (g.I.Index.places b)) c.args.indexes.items in
    refusal_is c.from_residual-in_err-recovered.result (of_image why) (RefusesResume c.args.job.now (parts_of c.args.image) boxes)
    c.from_residual-in_err-recovered.ensures.1
    (refuses_now c.args.job.now (parts_of c.args.image) boxes c.in_ok-image.image why c.in_ok-image.ensures.now
    c.in_err-recovered.ensures.refused)

pub returns-then-ne-clause-refused : goal.returns-then-ne-clause-refused
returns-then-ne-clause-refused g c =
    let image = c.in_ok-image.image in
    of_other c.args.job.now (parts_of c.args.image) image c.in_ok-image.ensures.now c.in_ok-image.ensures.accepted
    c.in_ok-recovered.ensures.accepted
    (λ same. told_two _ (sym c.ne.ensures ∙ c.if-ne.true) ((layout_Decides image.layout c.args.job.now.layout).1 same))

pub run_recovered-requires-clause-layout : goal.run_recovered-requires-clause-layout
run_recovered-requires-clause-layout g c κs within =
    ap (λ (o : Opening). o.layout) c.in_ok-recovered.ensures.opening
    ∙ (layout_Decides c.in_ok-image.image.layout c.args.job.now.layout).0 (told_one _ (sym c.ne.ensures ∙ c.if-ne.false))

pub returns-in_err-run_recovered-clause-refused : goal.returns-in_err-run_recovered-clause-refused
returns-in_err-run_recovered-clause-refused g c =
    let why = c.in_err-run_recovered.field-0.0 in
    let boxes = map (λ b. finite.len (g.I.Index.places b)) c.args.indexes.items in
    let image = c.in_ok-image.image in
    refusal_is c.from_residual-in_err-run_recovered.result (of_opening why)
    (RefusesResume c.args.job.now (parts_of c.args.image) boxes) c.from_residual-in_err-run_recovered.ensures.1
    (refuses_boxes c.args.job.now (parts_of c.args.image) boxes why
    (fits c.args.job.now (parts_of c.args.image) image c.in_ok-image.ensures.now c.in_ok-image.ensures.accepted
    c.in_ok-recovered.ensures.accepted
    ((layout_Decides image.layout c.args.job.now.layout).0 (told_one _ (sym c.ne.ensures ∙ c.if-ne.false))))
    c.in_err-run_recovered.ensures.lacks)

pub returns-clause-accepted : goal.returns-clause-accepted
returns-clause-accepted g c =
    let image = c.in_ok-image.image in
    record {
      fits = fits c.args.job.now (parts_of c.args.image) image c.in_ok-image.ensures.now c.in_ok-image.ensures.accepted
          c.in_ok-recovered.ensures.accepted
          ((layout_Decides image.layout c.args.job.now.layout).0 (told_one _ (sym c.ne.ensures ∙ c.if-ne.false)));
      boxed = c.in_ok-run_recovered.ensures.boxes;
    }
