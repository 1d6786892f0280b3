use Rattle.std.proofs.Common.{◌+◌, sym, ap, ◌∙◌, append-nil, zero-add}
use Rattle.std.specs.Prelude.{Some, None}
use Rattle.std.specs.List.{range_with_len}
use Rattle.std.specs.Option.{option_map}
use Rattle.mont_base.specs.declared.record.SlotFault.{SlotFault}
use Rattle.image_units.specs.declared.image_fault.ImageFault.TheVariants as faults
use Rattle.old_image.proofs.FlatSlots.{range_next}
use Rattle.image_info.specs.AllFaults.{slot_fault_at}
use Rattle.image_info.proofs.Behind.{kept_push}
use Rattle.image_info.proofs.slot_faults.push_slot_faults.Goals as goal
use Rattle.image_info.proofs.slot_faults.push_slot_faults.Goals.{in-Some+in_ok-push, in_default}

pub loop-slot-preserved : goal.loop-slot-preserved
loop-slot-preserved c =
    let slot = c.loop-slot.slot in
    let more = sym (range_next 0 slot slot (zero-add slot)) in
    let read = ap (option_map (λ (fault : SlotFault). faults.Slot slot fault)) (sym c.fault_at.ensures) in
    let push = kept_push (slot_fault_at c.args.layout.now c.args.wide.now) c.args.faults.now.items c.loop-slot.faults.items
    c.match-fault_at.faults.items (range_with_len 0 slot) (range_with_len 0 (slot + 1)) slot in
    elim c.match-fault_at.branch [
      | in-Some+in_ok-push w ↦ push (Some (faults.Slot slot w.in-Some.fault)) c.loop-slot.invariant
          (read ∙ ap (option_map (λ (fault : SlotFault). faults.Slot slot fault)) w.in-Some.is)
          (ap (λ v. v.items) w.faults-is ∙ w.in_ok-push.ensures.items) more
      | in_default w ↦ push None c.loop-slot.invariant
          (read ∙ ap (option_map (λ (fault : SlotFault). faults.Slot slot fault)) w.in_default.is)
          (ap (λ v. v.items) w.faults-is ∙ sym (append-nil c.loop-slot.faults.items)) more
    ]
