-- How the text of a bank ends whose accounts have together what they had at first.
use Rattle.std.proofs.Common.{◌≡◌, ℕ, List, [], ◌∷◌, ◌++◌, codes, ap, ◌∙◌}
use Rattle.std.proofs.lemmas.List.{append_assoc}
use Rattle.std.proofs.lemmas.List.Concat.{flat_map-append}
use Rattle.mont_base.specs.declared.operation.Entry.{Entry}
use Rattle.mont_base.specs.State.{State}
use Rattle.job_text.specs.Lines.{line_of, text_of}
use Rattle.job_text.specs.ReportText.{histories_lines, image_lines}
use Rattle.job_text.specs.Runs.{spelled_all}
use Rattle.bank_job.specs.Bank.{bank_layout}
use Rattle.bank_store.specs.BankRun.{IsBankRun}
use Rattle.bank_job.specs.BankText.{bank_text, head_words, number_total, total_words}
use Rattle.store.specs.MapBoxes.{HaveEmptyBoxes}
use Rattle.montage_tool.specs.GeneratedForms.{IsBankText, kept_total}

-- the lines before the last two, and those
abbrev Lines : Type 0
Lines = List (List (List ℕ))

abbrev last_two : ℕ → Lines
last_two total = total_words total ∷ (codes "end" ∷ []) ∷ []

last_lines : (a b c : Lines) (total : ℕ) → total ≡ 8000
    → (front : List ℕ) × (text_of (a ++ b ++ c ++ last_two total) ≡ front ++ kept_total)
last_lines a b c total is =
    let joined : a ++ b ++ c ++ last_two total ≡ (a ++ b ++ c) ++ last_two total = simp append_assoc in (
      text_of (a ++ b ++ c),
      ap (λ (ls : Lines). text_of ls) joined
          ∙ flat_map-append line_of (a ++ b ++ c) (last_two total)
          ∙ ap (λ (n : ℕ). text_of (a ++ b ++ c) ++ text_of (last_two n)) is,
    )

pub kept_end : (number : ℕ) (histories : List (List Entry)) (clock : ℕ) (states : List State) → number_total states ≡ 8000
    → (front : List ℕ) × (bank_text number histories clock states ≡ front ++ kept_total)
kept_end number histories clock states is =
    last_lines (head_words number ∷ []) (histories_lines (spelled_all histories [])) (image_lines bank_layout.kinds clock states)
    (number_total states) is

-- the text of a run
pub bank_told : (number : ℕ) (boxes : List ℕ) (histories : List (List Entry)) (clock : ℕ) (states : List State) (text : List ℕ)
    → HaveEmptyBoxes bank_layout boxes → IsBankRun number histories clock states → text ≡ bank_text number histories clock states
    → IsBankText number boxes text
bank_told number boxes histories clock states text boxed run is = record {
  boxed = boxed;
  histories = histories;
  clock = clock;
  contents = states;
  run = run;
  text_is = is;
  kept = λ low. let end = kept_end number histories clock states (run.total low) in (end.0, is ∙ end.1);
}
