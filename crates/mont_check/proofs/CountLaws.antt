-- A number is at its end, told of what is true of the unit.
use Rattle.std.proofs.Common.{ℕ, List, take, count_by, subst}
use Rattle.std.specs.Prelude.{◌↔◌}
use Rattle.mont_base.specs.declared.operation.Entry.{Entry}
use Rattle.mont_base.specs.declared.operation.Op.{Op}
use Rattle.mont_base.specs.declared.record.Held.{Held}
use Rattle.mont_base.specs.declared.refusal.Which.{Which}
use Rattle.mont_base.specs.declared.refusal.Which.TheVariants as ends
use Rattle.mont_base.specs.State.{State}
use Rattle.job_text.specs.declared.outcome.Outcome.{Outcome}
use Rattle.mont_base.specs.Counting.{IsAtEnd, records_in}
use Rattle.job_text.specs.Causes.{SomeMoment}
use Rattle.job_text.specs.Outcomes.{is_at}
use Rattle.job_text.specs.Report.{Report}
use Rattle.mont_check.specs.declared.cause.Cause.TheVariants.{AtEnd}
use Rattle.mont_check.specs.declared.progress.Progress.{Progress}
use Rattle.mont_check.specs.Moments.{HasMoment}
use Rattle.mont_check.specs.Progress.{HasShown}
use Rattle.mont_check.proofs.MomentLaws.{HeldThen, moments}

module _ (r : Report) (records : List (List Held)) (op : Op) (calls unit : ℕ) (base : State) (h : List Entry) where
  ended : (which : Which) → HeldThen r records op (AtEnd which calls) unit base h → IsAtEnd (records_in records unit) calls which op base h
  ended ends.Call e = e
  ended ends.Place e = e
  ended ends.Identity e = e
  ended ends.Version e = e
  ended ends.Serial e = e

  ended_back :
      (which : Which) → IsAtEnd (records_in records unit) calls which op base h → HeldThen r records op (AtEnd which calls) unit base h
  ended_back ends.Call e = e
  ended_back ends.Place e = e
  ended_back ends.Identity e = e
  ended_back ends.Version e = e
  ended_back ends.Serial e = e

pub moment_as :
    (r : Report) (before after : List Outcome) (op : Op) (P Q : ℕ → State → List Entry → Type 0)
    → ((unit : ℕ) (base : State) (h : List Entry) → P unit base h → Q unit base h) → SomeMoment r before after op P
    → SomeMoment r before after op Q
moment_as r before after op P Q then m = record {
  unit = m.unit;
  of_unit = m.of_unit;
  base = m.base;
  opened = m.opened;
  history = m.history;
  kept = m.kept;
  point = m.point;
  is_point = m.is_point;
  held = then m.unit m.base (take m.point m.history) m.held;
}

pub count_told :
    (r : Report) (records : List (List Held)) (before after : List Outcome) (p : Progress) (op : Op) (which : Which)
    → HasShown r.histories before p → (X : Type 0) → (X ↔ HasMoment r records p after op (AtEnd which p.calls))
    → X ↔ SomeMoment r before after op (λ unit base h. IsAtEnd (records_in records unit) (count_by is_at before) which op base h)
count_told r records before after p op which shown X says =
    let Ends : ℕ → ℕ → State → List Entry → Type 0 = λ calls unit base h. IsAtEnd (records_in records unit) calls which op base h in
    let Held_now : ℕ → State → List Entry → Type 0 = HeldThen r records op (AtEnd which p.calls) in
    let same = moments r records before after p op (AtEnd which p.calls) shown in
    subst (λ (calls : ℕ). X ↔ SomeMoment r before after op (Ends calls)) shown.calls (
      λ yes. moment_as r before after op Held_now (Ends p.calls) (λ unit base h. ended r records op p.calls unit base h which)
          (same.0 (says.0 yes)),
      λ m. says.1
          (same.1
          (moment_as r before after op (Ends p.calls) Held_now (λ unit base h. ended_back r records op p.calls unit base h which) m)),
    )
