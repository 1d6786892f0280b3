-- What is told of an answer, where the line and its outcome are of these forms.
use Rattle.std.proofs.Common.{◌≡◌, ℕ, List, refl, sym, subst}
use Rattle.std.specs.Prelude.{◌↔◌}
use Rattle.mont_base.specs.declared.operation.Op.{Op}
use Rattle.mont_base.specs.declared.record.Held.{Held}
use Rattle.job_text.specs.declared.job.Deed.{Deed}
use Rattle.job_text.specs.declared.outcome.Outcome.{Outcome}
use Rattle.job_text.specs.declared.outcome.Outcome.TheVariants.{At, Synced, Ticked, Stuck, ClockEnd, Full, CountEnd, Halted, CutIn, Cut}
use Rattle.job_text.specs.AnsweredLines.{Answers, AnswersCall, AnswersSync, AnswersTick, EndsWait}
use Rattle.job_text.specs.Causes.{MayBeFull}
use Rattle.job_text.specs.Report.{Report}

module _ (r : Report) (MayBeCut : Type 0) where
  -- what isn't the clock of a tick ends it like a sync, and the other way round
  pub tick_waits : (o : Outcome) → ((epoch : ℕ) → ¬ (o ≡ Ticked epoch)) → EndsWait r MayBeCut o ↔ AnswersTick r MayBeCut o
  tick_waits (At unit place) not = (λ e. e, λ e. e)
  tick_waits (Synced epoch) not = (λ e. e, λ e. e)
  tick_waits (Ticked epoch) not = absurd (not epoch refl)
  tick_waits (Stuck unit epoch) not = (λ e. e, λ e. e)
  tick_waits ClockEnd not = (λ e. e, λ e. e)
  tick_waits (Full need free clock) not = (λ e. e, λ e. e)
  tick_waits (CountEnd which) not = (λ e. e, λ e. e)
  tick_waits (Halted unit by) not = (λ e. e, λ e. e)
  tick_waits (CutIn unit) not = (λ e. e, λ e. e)
  tick_waits Cut not = (λ e. e, λ e. e)

  pub sync_waits : (o : Outcome) → ((epoch : ℕ) → ¬ (o ≡ Synced epoch)) → EndsWait r MayBeCut o ↔ AnswersSync r MayBeCut o
  sync_waits (At unit place) not = (λ e. e, λ e. e)
  sync_waits (Synced epoch) not = absurd (not epoch refl)
  sync_waits (Ticked epoch) not = (λ e. e, λ e. e)
  sync_waits (Stuck unit epoch) not = (λ e. e, λ e. e)
  sync_waits ClockEnd not = (λ e. e, λ e. e)
  sync_waits (Full need free clock) not = (λ e. e, λ e. e)
  sync_waits (CountEnd which) not = (λ e. e, λ e. e)
  sync_waits (Halted unit by) not = (λ e. e, λ e. e)
  sync_waits (CutIn unit) not = (λ e. e, λ e. e)
  sync_waits Cut not = (λ e. e, λ e. e)

  module _ (records : List (List Held)) (caller : ℕ) (before after : List Outcome) (P : Type 0) where
    -- a call that waits may have been full
    pub call_waits :
        (op : Op) (o : Outcome) → EndsWait r MayBeCut o → P ↔ MayBeFull r before after op
        → P ↔ AnswersCall r MayBeCut records caller before after op o
    call_waits op (At unit place) ends says = absurd ends
    call_waits op (Synced epoch) ends says = absurd ends
    call_waits op (Ticked epoch) ends says = absurd ends
    call_waits op (Stuck unit epoch) ends says = (λ p. (ends, says.0 p), λ both. says.1 both.1)
    call_waits op ClockEnd ends says = (λ p. (ends, says.0 p), λ both. says.1 both.1)
    call_waits op (Full need free clock) ends says = absurd ends
    call_waits op (CountEnd which) ends says = absurd ends
    call_waits op (Halted unit by) ends says = absurd ends
    call_waits op (CutIn unit) ends says = absurd ends
    call_waits op Cut ends says = (λ p. (ends, says.0 p), λ both. says.1 both.1)

    pub call_is :
        (op : Op) (o p : Outcome) → o ≡ p → P ↔ AnswersCall r MayBeCut records caller before after op p
        → P ↔ AnswersCall r MayBeCut records caller before after op o
    call_is op o p is says = subst (λ (y : Outcome). P ↔ AnswersCall r MayBeCut records caller before after op y) (sym is) says

    pub deed_is :
        (d e : Deed) (o : Outcome) → d ≡ e → P ↔ Answers r MayBeCut records caller before after e o
        → P ↔ Answers r MayBeCut records caller before after d o
    deed_is d e o is says = subst (λ (x : Deed). P ↔ Answers r MayBeCut records caller before after x o) (sym is) says
