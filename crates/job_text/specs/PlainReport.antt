-- A report in memory as a plain value.
use Rattle.job_text.specs.Report as plainly
use Rattle.plain.specs.States.{states_of}
use Rattle.job_text.specs.declared.report.Report.{Report}

-- contents become lists of states
abbrev pub report_of : Report → plainly.Report
report_of r =
    record {
      layout = r.layout;
      callers = r.callers;
      base_clock = r.base_clock;
      base = states_of r.base;
      histories = r.histories;
      runs = r.runs;
      outcomes = r.outcomes;
      image_clock = r.image_clock;
      contents = states_of r.contents;
    }
