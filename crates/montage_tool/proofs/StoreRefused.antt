-- A store that is made is refused for its boxes, or for memory.
use Rattle.std.proofs.Common.{ℕ, List, sym, ◌∙◌}
use Rattle.std.specs.Prelude.{Option}
use Rattle.mont_base.specs.Layout.{Shape}
use Rattle.store.specs.MapBoxes.{HaveEmptyBoxes, IsFirstLack}
use Rattle.montage_tool.specs.declared.status.Status.{Status}
use Rattle.montage_tool.specs.declared.status.Status.TheVariants.{Done, BadWords, BadJob, BadImage, ReadFault, WriteFault, Memory, BadIndex, OtherLayout, BadReport, NotAllowed, BadSchedule}
use Rattle.montage_tool.specs.Devices.{HasOutput}
use Rattle.montage_tool.specs.GeneratedForms.{RefusesStore}

-- what holds of both holds of the refusal
pub refused_store : (P : Status → Type 0) (s : Shape) (boxes : List ℕ)
    → ((unit : ℕ) (len : Option ℕ) → IsFirstLack s boxes unit len → P (BadIndex unit len)) → P Memory → (status : Status)
    → RefusesStore s boxes status → P status
refused_store P s boxes lacks memory (BadIndex unit len) refused = lacks unit len refused
refused_store P s boxes lacks memory Memory refused = memory
refused_store P s boxes lacks memory Done refused = absurd refused
refused_store P s boxes lacks memory BadWords refused = absurd refused
refused_store P s boxes lacks memory (BadJob line fault) refused = absurd refused
refused_store P s boxes lacks memory (BadImage fault) refused = absurd refused
refused_store P s boxes lacks memory (ReadFault which) refused = absurd refused
refused_store P s boxes lacks memory (WriteFault which) refused = absurd refused
refused_store P s boxes lacks memory (OtherLayout kinds slots) refused = absurd refused
refused_store P s boxes lacks memory (BadReport line) refused = absurd refused
refused_store P s boxes lacks memory (NotAllowed line) refused = absurd refused
refused_store P s boxes lacks memory (BadSchedule line) refused = absurd refused

pub boxed_lacks_none : (s : Shape) (boxes : List ℕ) (unit : ℕ) (len : Option ℕ) → HaveEmptyBoxes s boxes → IsFirstLack s boxes unit len → ⊥
boxed_lacks_none s boxes unit len boxed lack = lack.lacks (sym lack.has ∙ boxed unit lack.map)

-- nothing was written
pub store_quiet : (s : Shape) (boxes : List ℕ) (status : Status) → RefusesStore s boxes status → ¬ HasOutput status
store_quiet s boxes status refused =
    refused_store (λ (st : Status). ¬ HasOutput st) s boxes (λ unit len lack out. out) (λ out. out) status refused
