use Rattle.std.proofs.Common.{◌≡◌, ◌++◌, ◌∷◌, take}
use Rattle.std.specs.String.{string_bytes}
use Rattle.std.specs.List.{flat_map}
use Rattle.job_text.specs.Spelling.{pair_words}
use Rattle.job_text.proofs.run_writer.write_run.Given as goal

abbrev pub invariant-loop-key : goal.invariant-loop-key
invariant-loop-key l = string_bytes l.text ≡ string_bytes l.initial.text
    ++ flat_map (λ p. flat_map (λ word. 32 ∷ word) (pair_words p)) (take l.key-index l.run)
