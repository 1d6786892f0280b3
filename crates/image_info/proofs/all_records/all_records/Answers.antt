use Rattle.std.proofs.Common.{sym, ap, ◌∙◌, zero-add}
use Rattle.mont_base.specs.Image.{record_at}
use Rattle.plain.proofs.Recovered.{filter_map_hit, filter_map_miss}
use Rattle.image_info.proofs.all_records.all_records.Goals as goal
use Rattle.image_info.proofs.all_records.all_records.Goals.{in-Some+in_ok-push, in_default}

pub loop-slot-preserved : goal.loop-slot-preserved
loop-slot-preserved c =
    let h = record_at c.args.layout.now c.args.wide.now in
    let read = ap h (zero-add c.loop-slot.slot) ∙ sym c.record_at.ensures in
    elim c.match-record_at.branch [
      | in-Some+in_ok-push w ↦
          ap (λ v. v.items) w.found-is
          ∙ filter_map_hit h 0 c.loop-slot.slot c.loop-slot.found.items w.push.new.self.items w.in-Some.held (read
          ∙ w.in-Some.is) c.loop-slot.invariant w.in_ok-push.ensures.items
      | in_default w ↦
          ap (λ v. v.items) w.found-is
          ∙ filter_map_miss h 0 c.loop-slot.slot c.loop-slot.found.items (read ∙ w.in_default.is) c.loop-slot.invariant
    ]
