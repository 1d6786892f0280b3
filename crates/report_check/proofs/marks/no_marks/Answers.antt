use Rattle.std.proofs.Common.{◌∙◌, List, false, ap, arith, length, map, replicate}
use Rattle.std.proofs.lemmas.List.{take_all}
use Rattle.mont_base.specs.declared.operation.Entry.{Entry}
use Rattle.report_check.proofs.MarkLaws.{none_marked}
use Rattle.report_check.proofs.marks.no_marks.Goals as goal

pub returns : goal.returns
returns c =
    none_marked c.args.report.now.histories c.loop-history.marks
    (c.loop-history.invariant
    ∙ ap (map (λ (h : List Entry). replicate (length h) false))
    (take_all c.loop-history.history-index c.as_slice-rows.result.now (omega arith) ∙ c.as_slice-rows.ensures))
