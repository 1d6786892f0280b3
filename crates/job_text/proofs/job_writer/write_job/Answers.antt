use Rattle.std.proofs.Common.{◌≡◌, ◌++◌, List, [], ℕ, get_or, ap, ◌∙◌, Vec, Global}
use Rattle.std.specs.String.{string_bytes}
use Rattle.std.proofs.lemmas.List.{take_all}
use Rattle.job_text.specs.Lines.{line_of}
use Rattle.job_text.specs.Grammar.{head_of, job_of}
use Rattle.job_text.specs.JobText.{head_words, line_words, job_text}
use Rattle.job_text.specs.declared.job.Line.{Line}
use Rattle.job_text.specs.declared.job.Stop.{Stop}
use Rattle.job_text.proofs.JobWritten.{written_header, written_stop, written_line}
use Rattle.job_text.proofs.job_writer.write_job.Goals as goal

pub loop-stop-init : goal.loop-stop-init
loop-stop-init c =
    let h = head_of c.args.job.now in
    c.in_ok-write_job_header.ensures ∙ ap (λ (bs : List ℕ). bs ++ line_of (head_words h)) c.new-text.ensures.bytes
    ∙ written_header h

pub loop-stop-preserved : goal.loop-stop-preserved
loop-stop-preserved c =
    let stops = c.as_slice-stop-items.result.now in
    let none : Stop = record { who = 0; steps = 0 } in
    written_stop (head_of c.args.job.now) stops c.loop-stop.stop-index none _ _ c.in_ok-writeln.ensures.bytes c.loop-stop.invariant
    c.loop-stop-test.true

pub loop-line-init : goal.loop-line-init
loop-line-init c =
    c.loop-stop.invariant ∙ ap (λ (ss : List Stop). job_text (job_of (head_of c.args.job.now) ss []))
    (take_all c.loop-stop.stop-index c.as_slice-stop-items.result.now c.loop-stop-test.false ∙ c.as_slice-stop-items.ensures)

pub loop-line-preserved : goal.loop-line-preserved
loop-line-preserved c =
    let lines = c.as_slice-line-items.result.now in
    let own = c.line-item.result in
    let line : string_bytes c.writeln-in-loop-line.new.self ≡ string_bytes c.loop-line.text ++ line_of
    (line_words (get_or lines c.loop-line.line-index own)) =
    c.in_ok-writeln-2.ensures.bytes ∙ ap (λ (l : Line). string_bytes c.loop-line.text ++ line_of (line_words l)) c.line-item.is in
    written_line (head_of c.args.job.now) c.args.job.now.stops lines c.loop-line.line-index own _ _ line c.loop-line.invariant
    c.loop-line-test.true

pub returns : goal.returns
returns c =
    let lines = c.as_slice-line-items.result.now in
    let bytes : c.into_bytes.result.items ≡ string_bytes c.loop-line.text = ap (λ (v : Vec ℕ Global). v.items) c.into_bytes.ensures.value in
    bytes ∙ c.loop-line.invariant
    ∙ ap (λ (ls : List Line). job_text (job_of (head_of c.args.job.now) c.args.job.now.stops ls))
    (take_all c.loop-line.line-index lines c.loop-line-test.false ∙ c.as_slice-line-items.ensures)
