use Rattle.refusal_help.proofs.TextBytes.{one_byte}
use Rattle.refusal_help.proofs.text_word.check_text.Goals as goal

pub loop-rest-preserved : goal.loop-rest-preserved
loop-rest-preserved c =
    one_byte c.args.word.now c.loop-rest.rest.now c.in-Some.after.now c.loop-rest.bytes c.in-Some.field-0-0 c.loop-rest.invariant
    c.in-Some.ensures.0 c.in-Some.ensures.1
