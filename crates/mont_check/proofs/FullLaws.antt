-- When a call may have found its unit full, told by the earliest clock that its caller may have met.
use Rattle.std.proofs.Common.{◌≡◌, ℕ, ◌<◌, ◌≤◌, List, length, take, Option, Some, None, refl, sym, ◌∙◌, arith}
use Rattle.std.specs.Prelude.{◌↔◌, All}
use Rattle.mont_base.specs.declared.operation.Entry.{Entry}
use Rattle.mont_base.specs.declared.operation.Op.{Op}
use Rattle.mont_base.specs.declared.record.Held.{Held}
use Rattle.mont_base.specs.Counting.{effects_then}
use Rattle.mont_base.specs.Room.{room_of}
use Rattle.mont_base.specs.State.{State}
use Rattle.job_text.specs.declared.outcome.Outcome.{Outcome}
use Rattle.job_text.specs.Causes.{MayBeFull, SomeMoment}
use Rattle.job_text.specs.Outcomes.{clock_of}
use Rattle.job_text.specs.Report.{Report}
use Rattle.mont_check.specs.declared.cause.Cause.TheVariants.{NeedsMore}
use Rattle.mont_check.specs.declared.progress.Progress.{Progress}
use Rattle.mont_check.specs.Bounds.{IsAtMost}
use Rattle.mont_check.specs.LineAnswers.{first_clock}
use Rattle.mont_check.specs.Moments.{HasMoment}
use Rattle.mont_check.specs.Progress.{HasShown}
use Rattle.mont_check.proofs.MomentLaws.{moments}
use Rattle.mont_check.proofs.ProgressLaws.{all_at_most}
use Rattle.mont_check.proofs.WalkLaws.{room_rises}

-- the room was too small at this clock
abbrev pub TooSmallAt : Report → Op → ℕ → ℕ → State → List Entry → Type 0
TooSmallAt r op clock unit base h = room_of r.layout.slots base h clock < length (effects_then base h op)

earlier_too :
    (r : Report) (before after : List Outcome) (op : Op) (c d : ℕ) → c ≤ d → SomeMoment r before after op (TooSmallAt r op d)
    → SomeMoment r before after op (TooSmallAt r op c)
earlier_too r before after op c d above m = record {
  unit = m.unit;
  of_unit = m.of_unit;
  base = m.base;
  opened = m.opened;
  history = m.history;
  kept = m.kept;
  point = m.point;
  is_point = m.is_point;
  held =
      let rises = room_rises r.layout.slots c d m.base (take m.point m.history) above in
      let held = m.held in omega arith;
}

from_base : (known : Option ℕ) (base : ℕ) → base ≤ first_clock known base
from_base None base = omega arith
from_base (Some clock) base = omega arith

from_known : (known : Option ℕ) (base : ℕ) → IsAtMost known (first_clock known base)
from_known None base n is = absurd cc
from_known (Some clock) base n is = let same : clock ≡ n = cc in omega arith

first_below : (known : Option ℕ) (base bound : ℕ) → IsAtMost known bound → base ≤ bound → first_clock known base ≤ bound
first_below None base bound known low = low
first_below (Some clock) base bound known low = let here = known clock refl in omega arith

module _ (r : Report) (before after : List Outcome) (p : Progress) (op : Op) (shown : HasShown r.histories before p) (clock : ℕ)
    (is : clock ≡ first_clock p.clock r.base_clock) where
  -- no clock that the caller may have met is below
  is_first : (d : ℕ) → r.base_clock ≤ d → All (λ o. (e : ℕ) → clock_of o ≡ Some e → e ≤ d) before → clock ≤ d
  is_first d begun learnt =
      let known_low : IsAtMost p.clock d = λ n known. (all_at_most clock_of before d).0 learnt n (sym shown.clock ∙ known) in
      let low = first_below p.clock r.base_clock d known_low begun in
      omega arith

  pub never_full : r.image_clock < clock → ⊥ ↔ MayBeFull r before after op
  never_full past = (
    λ never. absurd never,
    λ m. absurd (let low = is_first m.clock m.reached.begun m.learnt in let last = m.reached.last in omega arith),
  )

module _ (r : Report) (records : List (List Held)) (before after : List Outcome) (p : Progress) (op : Op)
    (shown : HasShown r.histories before p) (clock : ℕ) (is : clock ≡ first_clock p.clock r.base_clock) where
  pub full_told :
      clock ≤ r.image_clock → (X : Type 0) → (X ↔ HasMoment r records p after op (NeedsMore clock)) → X ↔ MayBeFull r before after op
  full_told low X says =
      let same = moments r records before after p op (NeedsMore clock) shown in (
        λ yes. record {
          clock = clock;
          reached = record { begun = (let from = from_base p.clock r.base_clock in omega arith); last = low };
          learnt = (all_at_most clock_of before clock).1
              (λ n known. let from = from_known p.clock r.base_clock n (shown.clock ∙ known) in omega arith);
          lacks = same.0 (says.0 yes);
        },
        λ m. says.1
            (same.1 (earlier_too r before after op clock m.clock
            (is_first r before after p op shown clock is m.clock m.reached.begun m.learnt) m.lacks)),
      )
