use Rattle.std.proofs.Common.{◌++◌, ◌∙◌, ap, map}
use Rattle.std.specs.List.{concat}
use Rattle.std.specs.String.{string_bytes}
use Rattle.mont_base.specs.Image.{clock_of}
use Rattle.image_info.specs.ToldLines.{clock_line, epoch_line, fault_lines, layout_line, unit_lines, version_line}
use Rattle.image_info.proofs.Written.{all_lines}
use Rattle.image_info.proofs.told_lines.info_text.Goals as goal

pub returns : goal.returns
returns c =
    let info = c.args.info.now in
    let s = info.image.layout in
    all_lines (version_line info.version) (layout_line s) (clock_line (clock_of info.image.words) info.cut)
    (unit_lines s.kinds info.units.items) (map epoch_line info.epochs.items) (fault_lines info.image info.faults.items)
    _ _ _ _ _ _ _ c.new-text.ensures.bytes c.in_ok-push_version.ensures c.in_ok-push_layout.ensures
    (c.in_ok-push_clock.ensures ∙ ap (λ n. string_bytes c.push_layout.new.text ++ clock_line n info.cut) c.clock.ensures)
    (c.in_ok-push_units.ensures
    ∙ (λ i. string_bytes c.push_clock.new.text
    ++ concat (unit_lines ((c.as_slice.ensures.value ∙ c.kinds-kinds.ensures.value) i) (c.deref.ensures.value i))))
    (c.in_ok-push_epochs.ensures
    ∙ ap (λ es. string_bytes c.push_units.new.text ++ concat (map epoch_line es)) c.deref-2.ensures.value)
    (c.in_ok-push_faults.ensures
    ∙ ap (λ fs. string_bytes c.push_epochs.new.text ++ concat (fault_lines info.image fs)) c.deref-3.ensures.value)
