use Rattle.std.proofs.Common.{map, string_bytes}
use Rattle.montage_tool.proofs.Settling.{answered_by, settled_answers, settled_quiet, some_of}
use Rattle.montage_tool.proofs.serving.serve.Goals as goal

pub returns-clause-answered : goal.returns-clause-answered
returns-clause-answered g c =
    answered_by g.J.Source g.O.Sink (map string_bytes c.args.words.now) c.args.job.now c.answer-status.new.job c.args.out.now
    c.answer-status.new.out c.answer-status.result _ _ _ _ _
    c.answer-status.ensures.answered c.answer-status.ensures.job c.answer-status.ensures.out

pub returns-then-is_some-clause-answered : goal.returns-then-is_some-clause-answered
returns-then-is_some-clause-answered g c =
    let words = map string_bytes c.args.words.now in
    answered_by g.J.Source g.O.Sink words c.args.job.now c.answer-status.new.job c.args.out.now c.answer-status.new.out c.settled.result
    _ _ _ _ _
    (settled_answers _ _ _ _ c.in_ok-image_out.image_out.faults c.answer-status.new.image_out.faults c.settled.new.image_out.faults _ _ _
    words c.files_of-files.result c.files_of-files.ensures.named c.files_of-files.ensures.others
    (some_of c.files_of-files.result.image_out c.is_some.result c.is_some.ensures c.if-is_some.true) c.answer-status.result
    c.settled.result c.settled.ensures c.answer-status.ensures.answered)
    c.answer-status.ensures.job
    (λ none. c.answer-status.ensures.out (settled_quiet c.answer-status.result c.settled.result _ _ c.settled.ensures none))
