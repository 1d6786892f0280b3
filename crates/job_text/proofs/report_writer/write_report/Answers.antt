use Rattle.std.proofs.Common.{◌∙◌, ap}
use Rattle.job_text.specs.PlainReport.{report_of}
use Rattle.job_text.proofs.WholeReport.{report_written}
use Rattle.job_text.proofs.report_writer.write_report.Goals as goal

pub returns : goal.returns
returns c =
    ap (λ v. v.items) c.into_bytes.ensures.value
    ∙ report_written (report_of c.args.report.now) _ _ _ _ c.kinds-kinds.ensures.value c.as_slice.ensures c.as_slice-2.ensures
    c.as_slice-3.ensures _ _ _ _ _ _ _ c.new-text.ensures.bytes
    c.in_ok-write_report_header.ensures c.in_ok-write_base.ensures c.in_ok-write_histories.ensures c.in_ok-write_outcomes.ensures
    c.in_ok-write_image.ensures c.in_ok-push_str.ensures.bytes
