use Rattle.std.proofs.Common.{◌≡◌, Some, codes, length, ap, ◌∙◌, arith}
use Rattle.std.proofs.lemmas.Slice.Eq.{strip_prefix_is}
use Rattle.std.proofs.lemmas.Bool.Decides.{Decides-eqb}
use Rattle.job_text.specs.LineWords.{words_of}
use Rattle.replay.proofs.TitleWords.{all, title_tail_words, title_told}
use Rattle.replay.proofs.title.read_title.Goals as goal

pub returns-in_err-words : goal.returns-in_err-words
returns-in_err-words c =
    let rest = c.in_ok-strip_prefix.field-0 in
    let front = strip_prefix_is Decides-eqb c.args.line.now (codes "montage-schedule 1 ") (Some rest) c.in_ok-strip_prefix.ensures.cases in
    rw c.from_residual-in_err-words.ensures (λ s n is same.
    omega (arith, ap length (title_tail_words c.args.line.now rest.now s n front is same), c.in_err-words.ensures))

pub returns : goal.returns
returns c =
    let rest = c.in_ok-strip_prefix.field-0 in
    let front = strip_prefix_is Decides-eqb c.args.line.now (codes "montage-schedule 1 ") (Some rest) c.in_ok-strip_prefix.ensures.cases in
    let own : all c.as_slice.result.now ≡ words_of rest.now = ap all c.as_slice.ensures.value ∙ c.in_ok-words.ensures in
    title_told c.args.line.now rest.now c.as_slice.result.now c.title_in.result front own c.title_in.ensures
