use Rattle.std.proofs.Common.{◌∷◌, ◌++◌, List, ℕ, ap, sym, ◌∙◌, arith}
use Rattle.std.specs.String.{string_bytes}
use Rattle.std.specs.List.{flat_map}
use Rattle.std.proofs.lemmas.List.{take_all}
use Rattle.job_text.specs.Spelling.{pair_words}
use Rattle.job_text.proofs.RunWords.{run_spaced}
use Rattle.job_text.proofs.run_writer.write_run.Goals as goal

pub returns : goal.returns
returns c =
    c.loop-key.invariant
    ∙ ap (λ t. string_bytes c.args.text.now ++ flat_map (λ p. flat_map (λ word. 32 ∷ word) (pair_words p)) t)
    (take_all c.loop-key.key-index c.args.run.now (omega arith))
    ∙ ap (λ (t : List ℕ). string_bytes c.args.text.now ++ t) (sym (run_spaced c.args.run.now))
