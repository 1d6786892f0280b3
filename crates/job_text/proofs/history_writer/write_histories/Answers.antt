use Rattle.std.proofs.Common.{◌∙◌, [], sym, arith}
use Rattle.std.specs.List.{enumerate_from}
use Rattle.job_text.specs.Lines.{text_of}
use Rattle.job_text.specs.Runs.{spelled, spelled_all}
use Rattle.job_text.specs.ReportText.{history_lines}
use Rattle.job_text.proofs.Runs.{spelled_at, spelled_all_long}
use Rattle.job_text.proofs.Written.{numbered_item, parts_written, numbered_past}
use Rattle.job_text.proofs.history_writer.write_histories.Goals as goal

pub loop-unit-preserved : goal.loop-unit-preserved
loop-unit-preserved c =
    let hs = c.args.histories.now in
    let rss = c.args.runs.now in
    let k = c.loop-unit.unit in
    numbered_item (λ p. text_of (history_lines p.0 p.1)) (spelled_all hs rss) k []
    (spelled c.as_slice.result.now c.runs_of_unit.result.now) _ _ _ (omega (arith, spelled_all_long hs rss))
    ((λ i. spelled ((c.as_slice.ensures ∙ c.index-histories-unit.is) i) (c.runs_of_unit.ensures i))
    ∙ sym (spelled_at hs rss k _ [] (omega arith))) c.loop-unit.invariant c.in_ok-write_history.ensures

pub returns : goal.returns
returns c = parts_written (λ p. history_lines p.0 p.1) (enumerate_from 0 (spelled_all c.args.histories.now c.args.runs.now))
    c.loop-unit.unit _ _
    (numbered_past (spelled_all c.args.histories.now c.args.runs.now) _
    (omega (arith, spelled_all_long c.args.histories.now c.args.runs.now))) c.loop-unit.invariant
