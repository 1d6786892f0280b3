use Rattle.std.proofs.Common.{◌∙◌, ap}
use Rattle.mont_base.specs.Bodies.{pair_in}
use Rattle.payload.proofs.Bodies.{pair_in-pair_body, pair_body-words}
use Rattle.payload.proofs.map_body.pair_body.Goals as goal

pub returns-clause-read_back : goal.returns-clause-read_back
returns-clause-read_back c =
    ap pair_in (pair_body-words c.args.key.now c.args.value.now _ _ c.words.ensures.value c.words-2.ensures.value)
    ∙ pair_in-pair_body c.args.key.now c.args.value.now c.words.ensures.text c.words-2.ensures.text
