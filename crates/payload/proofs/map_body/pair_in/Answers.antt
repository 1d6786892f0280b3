use Rattle.std.proofs.Common.{◌∙◌, sym}
use Rattle.payload.proofs.Bodies.{pair_body-read}
use Rattle.payload.proofs.map_body.pair_in.Goals as goal

pub returns-clause-only : goal.returns-clause-only
returns-clause-only c =
    pair_body-read c.args.body.now c.told-body c.fits-body c.in_ok-key.key c.in_ok-value.value
    (sym c.of_words.ensures ∙ c.in_ok-key.was)
    (sym c.value_in.ensures ∙ c.in_ok-value.was)
