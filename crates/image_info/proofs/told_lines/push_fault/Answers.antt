use Rattle.std.proofs.Common.{◌++◌, ◌∙◌, ap, List, ℕ, append_assoc}
use Rattle.std.specs.Prelude.{codes}
use Rattle.std.specs.String.{string_bytes}
use Rattle.image_units.specs.FaultWords.{fault_words}
use Rattle.image_info.specs.ToldLines.{slot_of, slot_told}
use Rattle.image_info.proofs.Written.{between_marks}
use Rattle.image_info.proofs.told_lines.push_fault.Goals as goal

pub returns : goal.returns
returns c =
    let words = fault_words c.args.fault in
    between_marks (string_bytes c.args.text.now) (codes "fault " ++ words) (slot_told c.args.image.now (slot_of c.args.fault))
    (codes "\n") _ _ _ c.in_ok-write.ensures.bytes
    (c.in_ok-push_slot.ensures ∙ ap (λ s. string_bytes c.write.new.self ++ slot_told c.args.image.now s) c.slot_of.ensures)
    c.in_ok-push_str.ensures.bytes
    ∙ ap (λ (bs : List ℕ). string_bytes c.args.text.now ++ bs)
    (append_assoc (codes "fault ") words (slot_told c.args.image.now (slot_of c.args.fault) ++ codes "\n"))
