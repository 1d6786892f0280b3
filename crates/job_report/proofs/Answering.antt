-- Lines that are answered where a caller may be cut for one reason are so where it may for another.
use Rattle.std.proofs.Common.{ℕ, ◌+◌, List, take, drop}
use Rattle.mont_base.specs.declared.operation.Op.{Op}
use Rattle.mont_base.specs.declared.record.Held.{Held}
use Rattle.job_text.specs.declared.job.Deed.{Deed}
use Rattle.job_text.specs.declared.job.Deed.TheVariants.{Call, Tick, Sync}
use Rattle.job_text.specs.declared.job.Line.{Line}
use Rattle.job_text.specs.declared.outcome.Outcome.{Outcome}
use Rattle.job_text.specs.declared.outcome.Outcome.TheVariants.{At, Synced, Ticked, Stuck, ClockEnd, Full, CountEnd, Halted, CutIn, Cut}
use Rattle.job_text.specs.AnsweredLines.{Answers, AnswersCall, AnswersSync, AnswersTick, AnswersLines, EndsWait}
use Rattle.job_text.specs.Report.{Report}

module _ (t : Report) (M N : Type 0) (may : M → N) where
  waits_for : (x : Outcome) → EndsWait t M x → EndsWait t N x
  waits_for (At unit place) h = absurd h
  waits_for (Synced epoch) h = absurd h
  waits_for (Ticked epoch) h = absurd h
  waits_for (Stuck unit epoch) h = h
  waits_for ClockEnd h = h
  waits_for (Full need free clock) h = absurd h
  waits_for (CountEnd which) h = absurd h
  waits_for (Halted unit by) h = absurd h
  waits_for (CutIn unit) h = absurd h
  waits_for Cut h = may h

  tick_for : (x : Outcome) → AnswersTick t M x → AnswersTick t N x
  tick_for (At unit place) h = absurd h
  tick_for (Synced epoch) h = absurd h
  tick_for (Ticked epoch) h = h
  tick_for (Stuck unit epoch) h = h
  tick_for ClockEnd h = h
  tick_for (Full need free clock) h = absurd h
  tick_for (CountEnd which) h = absurd h
  tick_for (Halted unit by) h = absurd h
  tick_for (CutIn unit) h = absurd h
  tick_for Cut h = may h

  sync_for : (x : Outcome) → AnswersSync t M x → AnswersSync t N x
  sync_for (At unit place) h = absurd h
  sync_for (Synced epoch) h = h
  sync_for (Ticked epoch) h = absurd h
  sync_for (Stuck unit epoch) h = h
  sync_for ClockEnd h = h
  sync_for (Full need free clock) h = absurd h
  sync_for (CountEnd which) h = absurd h
  sync_for (Halted unit by) h = absurd h
  sync_for (CutIn unit) h = absurd h
  sync_for Cut h = may h

  module _ (records : List (List Held)) (caller : ℕ) (before after : List Outcome) where
    call_for : (op : Op) (x : Outcome) → AnswersCall t M records caller before after op x
        → AnswersCall t N records caller before after op x
    call_for op (At unit place) h = h
    call_for op (Synced epoch) h = absurd h.0
    call_for op (Ticked epoch) h = absurd h.0
    call_for op (Stuck unit epoch) h = h
    call_for op ClockEnd h = h
    call_for op (Full need free clock) h = h
    call_for op (CountEnd which) h = h
    call_for op (Halted unit by) h = h
    call_for op (CutIn unit) h = (may h.0, h.1)
    call_for op Cut h = (may h.0, h.1)

    answers_for : (deed : Deed) (x : Outcome) → Answers t M records caller before after deed x
        → Answers t N records caller before after deed x
    answers_for (Call op) x h = call_for op x h
    answers_for Tick x h = tick_for x h
    answers_for Sync x h = sync_for x h

  pub lines_for : (records : List (List Held)) (caller : ℕ) (lines : List Line) (xs : List Outcome)
      → AnswersLines t M records caller lines xs → AnswersLines t N records caller lines xs
  lines_for records caller lines xs a = record {
    few = a.few;
    all = a.all;
    each = λ i l x h e. answers_for records caller (take i xs) (drop (i + 1) xs) l.deed x (a.each i l x h e);
    order = a.order;
  }
