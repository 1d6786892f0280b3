use Rattle.std.proofs.Common.{◌≡◌, Some, codes, length, ap, ◌∙◌, arith}
use Rattle.std.proofs.lemmas.Slice.Eq.{strip_prefix_is}
use Rattle.std.proofs.lemmas.Bool.Decides.{Decides-eqb}
use Rattle.job_text.specs.LineWords.{words_of}
use Rattle.job_text.proofs.HeadWords.{all, head_tail_words, head_told}
use Rattle.job_text.proofs.header.read_head.Goals as goal

pub returns-in_err-words : goal.returns-in_err-words
returns-in_err-words c =
    let rest = c.in_ok-strip_prefix.field-0 in
    let front = strip_prefix_is Decides-eqb c.args.line.now (codes "montage-job 3 ") (Some rest) c.in_ok-strip_prefix.ensures.cases in
    rw c.from_residual-in_err-words.ensures (λ h is same.
    omega (arith, ap length (head_tail_words c.args.line.now rest.now h front is same), c.in_err-words.ensures))

pub returns : goal.returns
returns c =
    let rest = c.in_ok-strip_prefix.field-0 in
    let front = strip_prefix_is Decides-eqb c.args.line.now (codes "montage-job 3 ") (Some rest) c.in_ok-strip_prefix.ensures.cases in
    let own : all c.as_slice.result.now ≡ words_of rest.now = ap all c.as_slice.ensures.value ∙ c.in_ok-words.ensures in
    head_told c.args.line.now rest.now c.as_slice.result.now c.head_in.result front own c.head_in.ensures
