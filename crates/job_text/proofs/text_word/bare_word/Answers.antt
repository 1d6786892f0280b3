use Rattle.std.proofs.Common.{sym, arith}
use Rattle.job_text.proofs.TextWords.{read_word, word_utf8}
use Rattle.job_text.proofs.text_word.bare_word.Goals as goal

pub from_utf8_unchecked-requires : goal.from_utf8_unchecked-requires
from_utf8_unchecked-requires c =
    let l = c.loop-at in
    let ends = l.auto.at-end in
    let past = c.loop-at-test.false in
    word_utf8 c.args.text.now l.held l.at c.len-len.result (omega (arith, ends, past)) l.invariant.1

pub returns : goal.returns
returns c =
    let l = c.loop-at in
    let ends = l.auto.at-end in
    let past = c.loop-at-test.false in
    read_word c.args.text.now l.held _ l.at c.len-len.result c.requires (sym c.len-len.ensures.value) (omega (arith, ends, past))
    l.invariant.1 c.from_utf8_unchecked.ensures
