use Rattle.std.proofs.Common.{◌%◌, ◌^◌, ap, ◌∙◌, arith}
use Rattle.std.proofs.lemmas.List.{take_all}
use Rattle.shard_map.specs.NumberTexts.{number_spelled}
use Rattle.shard_map.proofs.NumbersSpelled.{spelled_all}
use Rattle.shard_map.proofs.number_texts.number_spelled.Goals as goal

pub returns-clause-digits : goal.returns-clause-digits
returns-clause-digits c n small is =
    let text = c.args.text.now in
    spelled_all text c.loop-at.number n
    (c.loop-at.invariant ∙ ap (λ ds. number_spelled ds % 2 ^ 64) (take_all c.loop-at.at text (omega arith))) small is
