use Rattle.std.proofs.Common.{◌≡◌, ◌++◌, take}
use Rattle.std.specs.String.{string_bytes}
use Rattle.std.specs.List.{flat_map, enumerate_from}
use Rattle.job_text.specs.Lines.{text_of}
use Rattle.job_text.specs.ReportText.{caller_lines}
use Rattle.job_text.proofs.history_writer.write_outcomes.Given as goal

abbrev pub invariant-loop-caller : goal.invariant-loop-caller
invariant-loop-caller l = string_bytes l.text ≡ string_bytes l.initial.text ++ flat_map (λ p. text_of (caller_lines p.0 p.1))
    (take l.caller (enumerate_from 0 l.outcomes))
