use Rattle.std.proofs.Common.{◌-◌, ◌∙◌, ℕ, ap, string_bytes}
use Rattle.process_devices.proofs.BesideNames.{front_of, if_ok, named}
use Rattle.process_devices.proofs.beside_name.beside_name.Goals as goal

pub returns : goal.returns
returns c =
    let name = c.args.name.now in
    let kept = c.floor_char_boundary-end.result in
    if_ok c.format-2.result c.format-2.ensures.ok λ beside is.
    named name c.args.turn kept c.saturating_sub.result c.unwrap_or-front.result.now (string_bytes c.in_ok-ending.ending)
    (string_bytes beside) c.ranges.turn.fits c.in_ok-ending.ensures.ok
    (c.saturating_sub.ensures ∙ ap (λ (n : ℕ). 255 - n) (c.len.ensures ∙ c.in_ok-ending.ending.bytes.ok.0)) c.floor_char_boundary-end.ensures.bound
    c.floor_char_boundary-end.ensures.nearest
    (front_of (λ x. x.now) name kept c.utf8.name c.floor_char_boundary-end.ensures.boundary c.get.result c.get.ensures.cases
    c.unwrap_or-front.result _ c.unwrap_or-front.ensures)
    is
