use Rattle.std.proofs.Common.{◌+◌, Bool, [], get_or, take, sym, ap, ◌∙◌, append-nil, if◌then◌else◌}
use Rattle.std.specs.Prelude.{Some, None}
use Rattle.std.proofs.lemmas.List.{take_more}
use Rattle.mont_base.specs.declared.record.Object.{Object}
use Rattle.mont_base.specs.declared.record.ObjectFault.TheVariants.{End}
use Rattle.image_units.specs.declared.image_fault.ImageFault.TheVariants as faults
use Rattle.image_info.specs.AllFaults.{end_fault_at}
use Rattle.image_info.proofs.Behind.{kept_push}
use Rattle.image_info.proofs.graph_faults.push_end_faults.Goals as goal
use Rattle.image_info.proofs.graph_faults.push_end_faults.Goals.{then-lacks_end+in_ok-push, else-lacks_end}

some_object : Object
some_object = record { slot = 0; identity = 0; version = 0; body = [] }

pub loop-object-preserved : goal.loop-object-preserved
unfolding some_object
loop-object-preserved c =
    let unit = c.args.unit in
    let objects = c.args.objects.now in
    let i = c.loop-object.object-index in
    let here = get_or objects i some_object in
    let more = take_more objects i some_object c.loop-object-test.true in
    let told = λ (b : Bool). if b then Some (faults.Object unit here.slot End) else None in
    let read = sym (c.lacks_end.ensures objects c.requires) in
    let push = kept_push (end_fault_at unit objects) c.args.faults.now.items c.loop-object.faults.items c.if-lacks_end.faults.items
    (take i objects) (take (i + 1) objects) here in
    elim c.if-lacks_end.branch [
      | then-lacks_end+in_ok-push w ↦ push (Some (faults.Object unit here.slot End)) c.loop-object.invariant
          (ap told (read ∙ w.if-lacks_end.true)) (ap (λ v. v.items) w.faults-is ∙ w.in_ok-push.ensures.items) more
      | else-lacks_end w ↦ push None c.loop-object.invariant
          (ap told (read ∙ w.if-lacks_end.false)) (ap (λ v. v.items) w.faults-is ∙ sym (append-nil c.loop-object.faults.items)) more
    ]
