use Rattle.std.proofs.Common.{◌≡◌, length, map}
use Rattle.plain.specs.States.{state_of}
use Rattle.job_text.specs.TextParts.{AllFrom}
use Rattle.job_text.specs.Readings.{Reads}
use Rattle.job_text.specs.ReportText.{contents_lines}
use Rattle.job_text.specs.ReportRanges.{IsUnit}
use Rattle.job_text.proofs.contents_reader.next_units.Given as goal

-- the units so far were read
abbrev pub invariant-loop-unit : goal.invariant-loop-unit
invariant-loop-unit l =
    Reads (AllFrom (IsUnit l.fn.layout.kinds) 0) (contents_lines l.fn.layout.kinds) l.fn.lines l.lines (map state_of l.units)
    × (length l.units ≡ l.unit)
