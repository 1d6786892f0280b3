use Rattle.std.proofs.Common.{string_bytes, subst, refl}
use Rattle.image_info.specs.Process.{CameOf, IsCutOff, IsWritten}
use Rattle.image_info.proofs.Shown.{refused, shows, troubled, unread}
use Rattle.image_info.proofs.showing.show.Goals as goal

pub returns-in_err-bytes : goal.returns-in_err-bytes
returns-in_err-bytes g c =
    let image = c.args.image.now in
    let out = c.args.out.now in
    let read = c.read_at_most.new.source in
    troubled (CameOf g.S.Source g.O.Sink image read out out) c.from_residual.result _ c.from_residual.ensures.1
    (unread g.S.Source g.O.Sink image read out out c.in_err-bytes.field-0.0 c.in_err-bytes.ensures.few c.in_err-bytes.ensures.cause refl)

pub returns-in_err-text : goal.returns-in_err-text
returns-in_err-text g c =
    let image = c.args.image.now in
    let out = c.args.out.now in
    let read = c.read_at_most.new.source in
    let bytes = c.in_ok-bytes.bytes.items in
    troubled (CameOf g.S.Source g.O.Sink image read out out) c.from_residual-in_err-text.result _ c.from_residual-in_err-text.ensures.1
    (refused g.S.Source g.O.Sink image read out out bytes c.in_ok-bytes.ensures.bytes c.in_ok-bytes.ensures.cause
    c.in_err-text.field-0.0 c.in_err-text.ensures.refused refl)

pub returns-in-Ok : goal.returns-in-Ok
returns-in-Ok g c =
    let image = c.args.image.now in
    let out = c.args.out.now in
    let read = c.read_at_most.new.source in
    let bytes = c.in_ok-bytes.bytes.items in
    let told = c.deliver.new.sink in
    let text = c.in_ok-text.text in
    shows g.S.Source g.O.Sink image read out told bytes c.in_ok-bytes.ensures.bytes c.in_ok-bytes.ensures.cause
    (IsWritten g.O.Sink out told) (string_bytes text) c.in_ok-text.ensures.told
    (subst (IsWritten g.O.Sink out told) c.as_bytes.ensures.value
    (record { all = c.in-Ok.ensures.all; sound = c.in-Ok.ensures.cause.kept }))

pub returns : goal.returns
returns g c =
    let image = c.args.image.now in
    let out = c.args.out.now in
    let read = c.read_at_most.new.source in
    let bytes = c.in_ok-bytes.bytes.items in
    let told = c.deliver.new.sink in
    let text = c.in_ok-text.text in
    shows g.S.Source g.O.Sink image read out told bytes c.in_ok-bytes.ensures.bytes c.in_ok-bytes.ensures.cause
    (IsCutOff g.O.Sink out told) (string_bytes text) c.in_ok-text.ensures.told
    (subst (IsCutOff g.O.Sink out told) c.as_bytes.ensures.value
    (record { front = c.in-Err.ensures.part; failed = c.in-Err.ensures.cause.failed }))
