use Rattle.std.proofs.Common.{◌≡◌, ◌++◌, take}
use Rattle.std.specs.String.{string_bytes}
use Rattle.std.specs.List.{flat_map, enumerate_from}
use Rattle.job_text.specs.Runs.{spelled_all}
use Rattle.job_text.specs.Lines.{text_of}
use Rattle.job_text.specs.ReportText.{history_lines}
use Rattle.job_text.proofs.history_writer.write_histories.Given as goal

abbrev pub invariant-loop-unit : goal.invariant-loop-unit
invariant-loop-unit l = string_bytes l.text ≡ string_bytes l.initial.text ++ flat_map (λ p. text_of (history_lines p.0 p.1))
    (take l.unit (enumerate_from 0 (spelled_all l.histories l.runs)))
