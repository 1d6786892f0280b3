use Rattle.std.proofs.Common.{◌≡◌, sym, ap, ◌∙◌, List, ℕ, Bor}
use Rattle.std.proofs.lemmas.Slice.Eq.{slice_eq-Decides}
use Rattle.std.proofs.lemmas.Bool.Decides.{Decides-eqb}
use Rattle.job_text.specs.JobText.{first_word}
use Rattle.job_text.proofs.FirstWords.{first_word_split, first_word_whole}
use Rattle.job_text.proofs.stops.begins_stop.Goals as goal
use Rattle.job_text.proofs.stops.begins_stop.Goals.{in-Some, in-None}

pub returns : goal.returns
returns c =
    let now : Bor (List ℕ) → List ℕ = λ b. b.now in
    let word : first_word c.args.line.now ≡ c.match-split_once.word.now =
    elim c.match-split_once.branch [
      | in-Some w ↦ first_word_split _ _ _ w.in-Some.ensures
          ∙ sym (ap now w.word-is)
      | in-None w ↦ first_word_whole _ w.in-None.ensures ∙ sym (ap now w.word-is)
    ] in
    let tells = slice_eq-Decides Decides-eqb c.match-split_once.word.now c.as_slice.result.now c.eq.result c.eq.ensures in
    rw word (rw c.as_slice.ensures at tells)
