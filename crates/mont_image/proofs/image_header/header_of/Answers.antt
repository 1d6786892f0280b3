use Rattle.mont_image.proofs.Headers.{header_words_are, header_spelled}
use Rattle.std.proofs.Common.{◌∙◌}
use Rattle.mont_image.proofs.image_header.header_of.Goals as goal

pub returns-clause-exact : goal.returns-clause-exact
returns-clause-exact c =
    c.header_told.ensures
    ∙ header_words_are c.args.bytes.now c.word_at-magic.result c.word_at-version.result c.word_at-units.result c.word_at-slots.result
    c.word_at-clock.result c.told-bytes c.word_at-magic.ensures c.word_at-version.ensures c.word_at-units.ensures
    c.word_at-slots.ensures c.word_at-clock.ensures

pub returns-clause-spelled : goal.returns-clause-spelled
returns-clause-spelled c =
    header_spelled c.args.bytes.now c.header_told.result c.told-bytes c.fits-bytes (c.header_told.ensures
    ∙ header_words_are c.args.bytes.now c.word_at-magic.result c.word_at-version.result c.word_at-units.result c.word_at-slots.result
    c.word_at-clock.result c.told-bytes c.word_at-magic.ensures c.word_at-version.ensures c.word_at-units.ensures
    c.word_at-slots.ensures c.word_at-clock.ensures)
