use Rattle.plain.specs.States.{states_of}
use Rattle.mont_image.specs.ImageReader.{parts_of}
use Rattle.job_store.proofs.Resumed.{refusal_is}
use Rattle.montage_tool.specs.Service.{RefusesImage}
use Rattle.montage_tool.specs.StatusCauses.{of_words}
use Rattle.montage_tool.proofs.ToldContents.{contents_are, refused_now}
use Rattle.montage_tool.proofs.told_contents.contents_text.Goals as goal

pub returns-in_err-contents-clause-refused : goal.returns-in_err-contents-clause-refused
returns-in_err-contents-clause-refused g c =
    λ left of.
    let why = c.in_err-contents.field-0.0 in
    refusal_is c.from_residual-in_err-contents.result (of_words why) (RefusesImage left) c.from_residual-in_err-contents.ensures.1
    (refused_now left (parts_of c.args.image) of c.in_ok-image.image c.in_ok-image.ensures.now why c.in_err-contents.ensures.refused)

pub returns-clause-told : goal.returns-clause-told
returns-clause-told g c =
    λ left of.
    contents_are left (parts_of c.args.image) of c.in_ok-image.image c.in_ok-image.ensures.now c.in_ok-image.ensures.accepted
    c.in_ok-contents.ensures.accepted (states_of c.in_ok-contents.contents) c.in_ok-contents.ensures.found c.clock.result c.clock.ensures
    c.in_ok-write_contents.field-0.items c.in_ok-write_contents.ensures
