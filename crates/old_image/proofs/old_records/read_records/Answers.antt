use Rattle.std.proofs.Common.{[], ◌∷◌, ◌++◌, ap, ◌∙◌, sym, below_more, arith}
use Rattle.std.specs.List.{cons_option, filter_map, range_with_len}
use Rattle.std.proofs.lemmas.List.Elements.{filter_map-append}
use Rattle.mont_base.specs.Image.{record_at}
use Rattle.scan.specs.Scanned.{IsReadAt}
use Rattle.old_image.proofs.FlatSlots.{range_next}
use Rattle.old_image.proofs.old_records.read_records.Goals as goal

pub loop-slot-preserved : goal.loop-slot-preserved
loop-slot-preserved c =
    let s = c.args.layout.now in
    let wide = c.args.wide.now in
    let slot = c.loop-slot.slot in
    record {
      records = c.in_ok-add-in-Ok.ensures
          ∙ (λ i. c.loop-slot.invariant.records i ++ cons_option (c.in-Ok.ensures.0 i) [])
          ∙ sym (filter_map-append (record_at s wide) (range_with_len 0 slot) (slot ∷ []))
          ∙ ap (filter_map (record_at s wide)) (range_next 0 slot slot (omega arith));
      readable = below_more (IsReadAt s wide) slot c.loop-slot.invariant.readable c.in-Ok.ensures.1;
    }
