use Rattle.std.proofs.Common.{◌≡◌, ◌++◌, take, map}
use Rattle.std.specs.String.{string_bytes}
use Rattle.std.specs.List.{flat_map, enumerate_from}
use Rattle.job_text.specs.Lines.{text_of}
use Rattle.job_text.specs.ReportText.{unit_lines}
use Rattle.plain.specs.States.{state_of}
use Rattle.job_text.proofs.contents_writer.write_units.Given as goal

abbrev pub invariant-loop-unit : goal.invariant-loop-unit
invariant-loop-unit l = string_bytes l.text ≡ string_bytes l.initial.text ++ flat_map (λ p. text_of (unit_lines l.fn.kinds p.0 p.1))
    (take l.unit (enumerate_from 0 (map state_of l.units)))
