-- The generated job or the generated bank of a number, run on a store of its own: what may be
-- written of it, and why nothing is. No source is asked: boxes are all that is given.
use Rattle.std.specs.Prelude.{◌≡◌, ℕ, ◌<◌, List, [], ◌∷◌, ◌++◌, codes}
use Rattle.mont_base.specs.declared.constants.TheConstants.{LAST}
use Rattle.mont_base.specs.declared.operation.Entry.{Entry}
use Rattle.mont_base.specs.Layout.{Shape}
use Rattle.mont_base.specs.State.{State}
use Rattle.bank_job.specs.Bank.{bank_layout}
use Rattle.bank_store.specs.BankRun.{IsBankRun}
use Rattle.bank_job.specs.BankText.{bank_text, total_words}
use Rattle.big_job.specs.Generated.{generated_head}
use Rattle.job_store.specs.BigRun.{IsBigSummary}
use Rattle.job_text.specs.Lines.{text_of}
use Rattle.store.specs.MapBoxes.{HaveEmptyBoxes, IsFirstLack}
use Rattle.montage_tool.specs.declared.status.Status.{Status}
use Rattle.montage_tool.specs.declared.status.Status.TheVariants.{Memory, BadIndex}

-- the lowest map unit without an empty box, or memory ran out
abbrev pub RefusesStore : Shape → List ℕ → Status → Type 0
RefusesStore s boxes (BadIndex unit len) = IsFirstLack s boxes unit len
RefusesStore s boxes Memory = Unit {0}
RefusesStore s boxes _ = ⊥

-- ---- the generated job
-- the summary of a run
pub record IsBigText (number : ℕ) (boxes text : List ℕ) : Type 0 where
  pub boxed : HaveEmptyBoxes generated_head.layout boxes
  pub summary : IsBigSummary number text

-- ---- the generated bank
-- the last two lines where the accounts have together what they had at first
abbrev pub kept_total : List ℕ
kept_total = text_of (total_words 8000 ∷ (codes "end" ∷ []) ∷ [])

-- the text of a run, of its image's clock and what recovery finds in that image
pub record IsBankText (number : ℕ) (boxes text : List ℕ) : Type 0 where
  pub boxed : HaveEmptyBoxes bank_layout boxes
  pub histories : List (List Entry)
  pub clock : ℕ
  pub contents : List State
  pub run : IsBankRun number histories clock contents
  pub text_is : text ≡ bank_text number histories clock contents
  pub kept : clock < LAST → (front : List ℕ) × (text ≡ front ++ kept_total)
