-- The text of a run of the bank: its histories and what recovery found are spelled as in a report.
use Rattle.std.specs.Prelude.{ℕ, ◌%◌, ◌^◌, List, [], ◌∷◌, ◌++◌, codes, decimal, sum_by}
use Rattle.std.specs.FinMap as finite
use Rattle.mont_base.specs.declared.operation.Entry.{Entry}
use Rattle.mont_base.specs.State.{State, MapOf}
use Rattle.job_text.specs.Lines.{text_of}
use Rattle.job_text.specs.ReportText.{histories_lines, image_lines}
use Rattle.job_text.specs.Runs.{spelled_all}
use Rattle.big_job.specs.Totals.{value_of_pair}
use Rattle.bank_job.specs.Bank.{bank_layout}

-- what the values of a map come to as numbers; other units have none
abbrev pub pairs_total : State → ℕ
pairs_total (MapOf m) = sum_by value_of_pair (finite.entries m)
pairs_total _ = 0

-- those of all units, modulo 2^64
abbrev pub number_total : List State → ℕ
number_total states = sum_by pairs_total states % 2 ^ 64

abbrev pub head_words : ℕ → List (List ℕ)
head_words number = codes "montage-bank" ∷ decimal number ∷ []

abbrev pub total_words : ℕ → List (List ℕ)
total_words total = codes "total" ∷ decimal total ∷ []

-- no operation of the bank asks for a range, so no entry has a run
abbrev pub bank_lines : ℕ → List (List Entry) → ℕ → List State → List (List (List ℕ))
bank_lines number histories clock states =
    (head_words number ∷ [])
    ++ histories_lines (spelled_all histories [])
    ++ image_lines bank_layout.kinds clock states
    ++ (total_words (number_total states) ∷ (codes "end" ∷ []) ∷ [])

-- the one text of these histories, and of these contents of an image of this clock
abbrev pub bank_text : ℕ → List (List Entry) → ℕ → List State → List ℕ
bank_text number histories clock states = text_of (bank_lines number histories clock states)
