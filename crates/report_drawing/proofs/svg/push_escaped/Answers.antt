use Rattle.std.proofs.Common.{◌++◌, List, ℕ, string_bytes, ap, ◌∙◌, arith}
use Rattle.std.proofs.lemmas.List.{take_all}
use Rattle.job_text.proofs.Written.{written_more}
use Rattle.report_drawing.specs.Svg.{svg_byte, escaped}
use Rattle.report_drawing.proofs.svg.push_escaped.Goals as goal

pub loop-byte-preserved : goal.loop-byte-preserved
loop-byte-preserved c = written_more svg_byte c.as_bytes-bytes.result.now c.loop-byte.byte-index _ _ _ _ (omega arith) c.loop-byte.invariant
    c.in_ok-push_byte.ensures

pub returns : goal.returns
returns c =
    c.loop-byte.invariant
    ∙ ap (λ (bs : List ℕ). string_bytes c.args.svg.now ++ escaped bs)
    (take_all c.loop-byte.byte-index c.as_bytes-bytes.result.now (omega arith) ∙ c.as_bytes-bytes.ensures.value)
