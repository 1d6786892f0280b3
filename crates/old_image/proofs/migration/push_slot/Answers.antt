use Rattle.std.proofs.Common.{ℕ, List, ◌++◌, length, ap, ◌∙◌, sym}
use Rattle.mont_base.specs.declared.record.Object.{Object}
use Rattle.old_image.proofs.PushedSlots.{IsNotHere, passed, same_first, some_there, taken}
use Rattle.old_image.proofs.migration.push_slot.Goals as goal
use Rattle.old_image.proofs.migration.push_slot.Goals.{in_default-via-in-Some+else-object-slot, in_default-via-in_default}

pub returns-in_ok-extend_from_slice-in-Some : goal.returns-in_ok-extend_from_slice-in-Some
returns-in_ok-extend_from_slice-in-Some c left all =
    taken c.args.layout.now c.args.wide.now c.requires.size c.requires.clock c.args.slot c.requires.slot left c.in-Some.object.now
    c.args.objects.now c.in-Some.behind.now c.args.words.now.items c.extend_from_slice.new.self.items c.in-Some.ensures.cases.0 all
    c.if-object-slot.true
    (c.in_ok-extend_from_slice-in-Some.ensures.items ∙ ap (λ (ws : List ℕ). c.args.words.now.items ++ ws) c.words_now.ensures)

pub returns-in_ok-extend_from_slice-in_default : goal.returns-in_ok-extend_from_slice-in_default
returns-in_ok-extend_from_slice-in_default c left all =
    let away : IsNotHere c.args.slot c.args.objects.now = λ o rest e. elim c.in_default.branch [
      | in_default-via-in-Some+else-object-slot w ↦
          (λ here. w.if-object-slot.false (ap (λ (x : Object). x.slot) (same_first _ _ _ _ (sym w.in-Some.ensures.cases.0 ∙ e)) ∙ here))
      | in_default-via-in_default w ↦ (λ here. some_there o rest (ap length (sym e) ∙ w.in_default.ensures.cases))
    ] in
    passed c.args.layout.now c.args.wide.now c.requires.size c.requires.clock c.args.slot c.requires.slot left c.args.objects.now
    c.args.words.now.items c.extend_from_slice-in_default.new.self.items away all
    c.in_ok-extend_from_slice-in_default.ensures.items
