use Rattle.std.proofs.Common.{◌∷◌, ◌++◌, List, ℕ, decimal, ap, ◌∙◌}
use Rattle.std.specs.String.{string_bytes}
use Rattle.std.specs.List.{flat_map, enumerate_from}
use Rattle.core_steps.specs.declared.parts.UnitPart.{UnitPart}
use Rattle.replay.specs.Replays.{unit_words}
use Rattle.replay.proofs.CoreTold.{core_line}
use Rattle.replay.proofs.core_lines.write_core.Goals as goal

pub returns : goal.returns
returns c =
    let core = c.args.core.now in
    let old = string_bytes c.args.text.now in
    core_line old (string_bytes c.write.new.self) (string_bytes c.write_shown.new.text)
    (string_bytes c.push_str.new.self) c.args.number core
    (c.in_ok-write.ensures.bytes
    ∙ (λ i. old ++ (decimal c.args.number ++ 32 ∷ (decimal (c.clock-clock.ensures i) ++ 32 ∷ decimal (c.durable_clock-durable.ensures i)))))
    (c.in_ok-write_shown.ensures
    ∙ ap
    (λ (us : List UnitPart). string_bytes c.write.new.self
    ++ flat_map (λ (p : ℕ × UnitPart). flat_map (λ (word : List ℕ). 32 ∷ word) (unit_words core.told p)) (enumerate_from 0 us))
    c.as_slice.ensures)
    c.in_ok-push_str.ensures.bytes
