use Rattle.std.proofs.Common.{List, [], get_or, take, sym, ap, ◌∙◌, subst, append-nil}
use Rattle.std.specs.Prelude.{Option, Some, None}
use Rattle.std.specs.Option.{option_map}
use Rattle.std.proofs.lemmas.List.{take_more}
use Rattle.mont_base.specs.declared.record.Object.{Object}
use Rattle.mont_base.specs.declared.record.ObjectFault.{ObjectFault}
use Rattle.image_units.specs.declared.image_fault.ImageFault.TheVariants as faults
use Rattle.image_info.specs.AllFaults.{judged_fault, object_fault_told}
use Rattle.image_info.proofs.Behind.{behind_more}
use Rattle.image_info.proofs.object_faults.push_judged.Goals as goal
use Rattle.image_info.proofs.object_faults.push_judged.Goals.{in-Some+in_ok-push, in_default}

some_object : Object
some_object = record { slot = 0; identity = 0; version = 0; body = [] }

pub loop-object-preserved : goal.loop-object-preserved
unfolding some_object
loop-object-preserved g c =
    let unit = c.args.unit in
    let objects = c.args.objects.now in
    let i = c.loop-object.object-index in
    let here = get_or objects i some_object in
    let so_far = c.loop-object.invariant in
    let fault_of = g.J.Judge.fault_of c.args.judge.now in
    let tell : Option ObjectFault → _ = option_map (object_fault_told unit here) in
    let fault = c.in_ok-fault.ensures.fault (take i objects) so_far.knows
    ∙ ap (λ (f : List Object → Object → Option ObjectFault). f (take i objects) here) so_far.same in
    let push = behind_more (judged_fault unit fault_of) c.args.faults.now.items c.loop-object.faults.items c.match-branch-2.faults.items
    objects i some_object in
    record {
      knows = subst (g.J.Judge.knows c.judge.new.self) (sym (take_more objects i some_object c.loop-object-test.true))
          (c.in_ok-fault.ensures.known (take i objects) so_far.knows);
      same = c.judge.ensures.same ∙ so_far.same;
      told = elim c.match-branch-2.branch [
        | in-Some+in_ok-push w ↦ push (Some (faults.Object unit here.slot w.in-Some.fault)) c.loop-object-test.true so_far.told
            (ap tell (sym fault ∙ w.in-Some.is)) (ap (λ v. v.items) w.faults-is ∙ w.in_ok-push.ensures.items)
        | in_default w ↦ push None c.loop-object-test.true so_far.told
            (ap tell (sym fault ∙ w.in_default.is))
            (ap (λ v. v.items) w.faults-is ∙ sym (append-nil c.loop-object.faults.items))
      ];
    }
