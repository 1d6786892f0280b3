-- Histories and outcomes as parts of a report's text.
use Rattle.std.proofs.Common.{◌≡◌, ℕ, ◌^◌, ◌<◌, ◌≤◌, List, ◌∷◌, length, codes, refl, sym, ap}
use Rattle.job_text.specs.declared.outcome.Outcome.{Outcome}
use Rattle.job_text.specs.Operations.{IsNumber}
use Rattle.job_text.specs.TextParts.{Row, rows_from}
use Rattle.job_text.specs.Runs.{Spelled}
use Rattle.job_text.specs.ReportText.{entry_words, history_lines, histories_lines, outcome_words, caller_lines, outcomes_lines}
use Rattle.job_text.specs.ReportRanges.{IsSpelled, IsOutcomeAt, AreCounted, AreOutcomes}
use Rattle.job_text.specs.ReportRows.{line_of_row, AllOf, count_words}
use Rattle.job_text.proofs.Leaves.{IsOnce}
use Rattle.job_text.proofs.ReadLines.{line_once}
use Rattle.job_text.proofs.RowParts.{count_part}
use Rattle.job_text.proofs.AnswerWords.{entry_part}
use Rattle.job_text.proofs.OutcomeWords.{outcome_part}
use Rattle.job_text.proofs.ListParts.{plain_rows, placed_rows, each_some, each_once, sized_some, sized_once}

abbrev pub FewCallers : ℕ → Type 0
FewCallers callers = (1 ≤ callers) × (callers < 2 ^ 64)

-- ---- entries
module _ (callers : ℕ) (few : FewCallers callers) where
  abbrev pub EntryAt : ℕ → Spelled → Type 0
  EntryAt place e = IsSpelled callers e

  abbrev pub entry_rows : ℕ → Spelled → List Row
  entry_rows place = line_of_row (entry_words place)

  pub entry_once : (place : ℕ) → IsOnce (EntryAt place) (entry_rows place)
  entry_once place = line_once (IsSpelled callers) (entry_words place) (entry_part callers place few)

  pub some_entry : (n place : ℕ) → place < n → (e : Spelled) × EntryAt place e
  some_entry n place low = let part = entry_part callers place few in (part.value, part.is)

  pub some_entries : (n : ℕ) → IsNumber n → (h : List Spelled) × AllOf EntryAt n h
  some_entries n small = each_some EntryAt entry_rows entry_once n (some_entry n)

  pub entries_once : (n : ℕ) → IsNumber n → IsOnce (AllOf EntryAt n) (rows_from entry_rows 0)
  entries_once n small = each_once EntryAt entry_rows entry_once n (some_entry n)

  -- ---- a history
  pub history_is : (h : List Spelled) → IsNumber (length h) → AllOf EntryAt (length h) h → AreCounted (IsSpelled callers) h
  history_is h count all = record { each = all.0; count = count }

  pub history_back : (h : List Spelled) → AreCounted (IsSpelled callers) h → IsNumber (length h) × AllOf EntryAt (length h) h
  history_back h is = (is.count, (is.each, refl))

  pub history_rows : (unit : ℕ) (h : List Spelled)
      → history_lines unit h ≡ count_words (codes "unit") unit (length h) ∷ rows_from entry_rows 0 h
  history_rows unit h = ap (λ (rs : List Row). count_words (codes "unit") unit (length h) ∷ rs) (sym (placed_rows entry_words 0 h))

  pub history_once : (unit : ℕ) → IsOnce (AreCounted (IsSpelled callers)) (history_lines unit)
  history_once unit =
      sized_once (count_words (codes "unit") unit) (count_part (codes "unit") unit) (AllOf EntryAt) (rows_from entry_rows 0) length
      (λ n h is. is.1) (AreCounted (IsSpelled callers)) (history_lines unit) history_is history_back (history_rows unit) entries_once

  pub some_history : (n unit : ℕ) → unit < n → (h : List Spelled) × AreCounted (IsSpelled callers) h
  some_history n unit low =
      sized_some (count_words (codes "unit") unit) (count_part (codes "unit") unit) (AllOf EntryAt) (rows_from entry_rows 0) length
      (λ n h is. is.1) (AreCounted (IsSpelled callers)) (history_lines unit) history_is history_back (history_rows unit) some_entries

  pub some_histories : (n : ℕ) → (hs : List (List Spelled)) × AllOf (λ unit h. AreCounted (IsSpelled callers) h) n hs
  some_histories n = each_some (λ unit h. AreCounted (IsSpelled callers) h) history_lines history_once n (some_history n)

  pub histories_once : (n : ℕ) → IsOnce (AllOf (λ unit h. AreCounted (IsSpelled callers) h) n) histories_lines
  histories_once n = each_once (λ unit h. AreCounted (IsSpelled callers) h) history_lines history_once n (some_history n)

-- ---- outcomes
module _ (units callers : ℕ) where
  abbrev pub outcome_rows : ℕ → Outcome → List Row
  outcome_rows place = line_of_row outcome_words

  pub outcome_once : (n place : ℕ) → IsOnce (IsOutcomeAt units callers n place) (outcome_rows place)
  outcome_once n place = line_once (IsOutcomeAt units callers n place) outcome_words (outcome_part units callers n place)

  pub some_outcome : (n m place : ℕ) → place < m → (o : Outcome) × IsOutcomeAt units callers n place o
  some_outcome n m place low = let part = outcome_part units callers n place in (part.value, part.is)

  pub some_outcomes : (n : ℕ) → IsNumber n → (os : List Outcome) × AllOf (IsOutcomeAt units callers n) n os
  some_outcomes n small = each_some (IsOutcomeAt units callers n) outcome_rows (outcome_once n) n (some_outcome n n)

  pub outcomes_once : (n : ℕ) → IsNumber n → IsOnce (AllOf (IsOutcomeAt units callers n) n) (rows_from outcome_rows 0)
  outcomes_once n small = each_once (IsOutcomeAt units callers n) outcome_rows (outcome_once n) n (some_outcome n n)

  abbrev pub OutcomesOf : ℕ → List Outcome → Type 0
  OutcomesOf n os = AllOf (IsOutcomeAt units callers n) n os

  pub caller_is : (os : List Outcome) → IsNumber (length os) → OutcomesOf (length os) os → AreOutcomes units callers os
  caller_is os count all = record { each = all.0; count = count }

  pub caller_back : (os : List Outcome) → AreOutcomes units callers os → IsNumber (length os) × OutcomesOf (length os) os
  caller_back os is = (is.count, (is.each, refl))

  pub caller_rows : (caller : ℕ) (os : List Outcome) → caller_lines caller os
      ≡ count_words (codes "caller") caller (length os) ∷ rows_from outcome_rows 0 os
  caller_rows caller os = ap (λ (rs : List Row). count_words (codes "caller") caller (length os) ∷ rs) (sym
      (plain_rows outcome_words 0 os))

  pub caller_once : (caller : ℕ) → IsOnce (AreOutcomes units callers) (caller_lines caller)
  caller_once caller =
      sized_once (count_words (codes "caller") caller) (count_part (codes "caller") caller) OutcomesOf (rows_from outcome_rows 0) length
      (λ n os is. is.1) (AreOutcomes units callers) (caller_lines caller) caller_is caller_back (caller_rows caller) outcomes_once

  pub some_caller : (n caller : ℕ) → caller < n → (os : List Outcome) × AreOutcomes units callers os
  some_caller n caller low =
      sized_some (count_words (codes "caller") caller) (count_part (codes "caller") caller) OutcomesOf (rows_from outcome_rows 0) length
      (λ n os is. is.1) (AreOutcomes units callers) (caller_lines caller) caller_is caller_back (caller_rows caller) some_outcomes

  pub some_callers : (n : ℕ) → (oss : List (List Outcome)) × AllOf (λ caller os. AreOutcomes units callers os) n oss
  some_callers n = each_some (λ caller os. AreOutcomes units callers os) caller_lines caller_once n (some_caller n)

  pub callers_once : (n : ℕ) → IsOnce (AllOf (λ caller os. AreOutcomes units callers os) n) outcomes_lines
  callers_once n = each_once (λ caller os. AreOutcomes units callers os) caller_lines caller_once n (some_caller n)
