use Rattle.std.proofs.Common.{◌≡◌, sym, ap, ◌∙◌, Ok}
use Rattle.std.proofs.lemmas.Result.{err_from_is_err_and}
use Rattle.mont_base.specs.Image.{words_at}
use Rattle.mont_base.specs.Layout.{unit_of_slot}
use Rattle.mont_base.specs.Record.{reading}
use Rattle.scan.proofs.Among.{read_record}
use Rattle.scan.proofs.slots.record_of.Goals as goal

pub returns-in_err-read : goal.returns-in_err-read
returns-in_err-read c =
    let failed = err_from_is_err_and c.from_residual.result c.from_residual.ensures.1 in
    let s = c.args.layout.now in
    let image = c.args.image.now in
    let same : reading (unit_of_slot s c.args.slot) (words_at image c.args.slot) ≡ reading c.unit_of_slot.result c.words_at.result =
    λ i. reading (sym c.unit_of_slot.ensures i) (sym c.words_at.ensures i) in
    rw (failed.1, failed.2)
    (c.requires.kept, (same ∙ sym c.read_words.ensures.exact ∙ c.in_err-read.was))

pub returns : goal.returns
returns c =
    let s = c.args.layout.now in
    let image = c.args.image.now in
    let same : reading (unit_of_slot s c.args.slot) (words_at image c.args.slot) ≡ reading c.unit_of_slot.result c.words_at.result =
    λ i. reading (sym c.unit_of_slot.ensures i) (sym c.words_at.ensures i) in
    read_record s image c.args.slot c.requires.kept c.in-Some.read.0 c.in-Some.read.1
    (same ∙ sym c.read_words.ensures.exact ∙ c.in_ok-read.was ∙ ap Ok c.in-Some.is)
