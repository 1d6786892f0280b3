use Rattle.std.proofs.Common.{◌∷◌, ◌++◌, List, ℕ, ap, ◌∙◌, arith}
use Rattle.std.proofs.lemmas.List.{take_all}
use Rattle.std.specs.String.{string_bytes}
use Rattle.std.specs.List.{flat_map, enumerate_from}
use Rattle.core_steps.specs.declared.parts.UnitPart.{UnitPart}
use Rattle.job_text.proofs.Written.{numbered_item, numbered_past}
use Rattle.replay.specs.Replays.{unit_words}
use Rattle.replay.proofs.CoreTold.{shown}
use Rattle.replay.proofs.core_lines.write_shown.Goals as goal

pub loop-unit-preserved : goal.loop-unit-preserved
loop-unit-preserved c =
    let told = c.args.told.now in
    let part = c.index-units-unit.result in
    numbered_item (λ (p : ℕ × UnitPart). flat_map (λ (word : List ℕ). 32 ∷ word) (unit_words told p)) c.args.units.now
    c.loop-unit.unit part part
    (string_bytes c.args.text.now) (string_bytes c.loop-unit.text) (string_bytes c.write.new.self) (omega arith) c.index-units-unit.is
    c.loop-unit.invariant
    (c.in_ok-write.ensures.bytes
    ∙ shown (string_bytes c.loop-unit.text) _ _ _ _ c.word-announcement.ensures c.stage_letter-letter.ensures)

pub returns : goal.returns
returns c =
    c.loop-unit.invariant
    ∙ ap
    (λ (ps : List (ℕ × UnitPart)). string_bytes c.args.text.now
    ++ flat_map (λ (p : ℕ × UnitPart). flat_map (λ (word : List ℕ). 32 ∷ word) (unit_words c.args.told.now p)) ps)
    (take_all c.loop-unit.unit (enumerate_from 0 c.args.units.now) (numbered_past c.args.units.now c.loop-unit.unit (omega arith)))
