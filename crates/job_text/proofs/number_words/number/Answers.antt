use Rattle.std.proofs.Common.{◌≡◌, subst, sym, true, arith, rules}
use Rattle.std.specs.Str.{IsAscii}
use Rattle.std.proofs.lemmas.Fmt.{IsAscii-decimal}
use Rattle.std.proofs.lemmas.Str.{IsUtf8-from_ascii}
use Rattle.job_text.proofs.Digits.{parsed_plain, decimal_plain}
use Rattle.job_text.specs.Parts.{IsUnpadded}
use Rattle.job_text.proofs.number_words.number.Goals as goal

pub returns-then-not-is_unpadded : goal.returns-then-not-is_unpadded
returns-then-not-is_unpadded c = λ n small is.
    let plain : IsUnpadded c.args.word.now = subst (λ w. IsUnpadded w) (sym is) (decimal_plain n small) in
    let yes : c.is_unpadded.result ≡ true = c.is_unpadded.ensures.1 plain in
    cc

pub returns-then-not-is_ascii : goal.returns-then-not-is_ascii
returns-then-not-is_ascii c = λ n small is.
    let beyond = c.if-not-is_ascii.ensures.cases in
    let low : IsAscii c.args.word.now = subst (λ w. IsAscii w) (sym is) (IsAscii-decimal n small) in
    omega (arith, beyond.1, low beyond.0)

pub from_utf8_unchecked-text-requires : goal.from_utf8_unchecked-text-requires
from_utf8_unchecked-text-requires c = IsUtf8-from_ascii c.args.word.now c.if-not-is_ascii.ensures.cases

pub returns : goal.returns
returns c =
    let plain = c.if-not-is_unpadded.ensures.0 (search rules) in
    let parsed = rw c.from_utf8_unchecked-text.ensures at c.parse.ensures.value.0 in
    rw c.ok.ensures.value (parsed_plain c.args.word.now c.parse.result plain parsed)
