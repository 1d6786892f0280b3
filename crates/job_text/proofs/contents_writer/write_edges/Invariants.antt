use Rattle.std.proofs.Common.{◌≡◌, ◌++◌, map}
use Rattle.std.specs.String.{string_bytes}
use Rattle.job_text.specs.Lines.{text_of}
use Rattle.job_text.specs.ReportText.{edge_words}
use Rattle.job_text.proofs.contents_writer.write_edges.Given as goal

-- what is written so far and what is still to come are the whole
abbrev pub invariant-loop-from : goal.invariant-loop-from
invariant-loop-from l =
    string_bytes l.text ++ text_of (map edge_words l.from-iterator) ≡ string_bytes l.fn.text ++ text_of (map edge_words l.fn.edges)
