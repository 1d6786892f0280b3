use Rattle.std.proofs.Common.{◌≡◌, ◌++◌, map}
use Rattle.std.specs.String.{string_bytes}
use Rattle.job_text.specs.Lines.{text_of}
use Rattle.job_text.specs.ReportText.{vertex_words}
use Rattle.job_text.proofs.contents_writer.write_vertices.Given as goal

-- what is written so far and what is still to come are the whole
abbrev pub invariant-loop-vertex : goal.invariant-loop-vertex
invariant-loop-vertex l =
    string_bytes l.text ++ text_of (map vertex_words l.vertex-iterator) ≡ string_bytes l.fn.text ++ text_of (map vertex_words l.fn.vertices)
