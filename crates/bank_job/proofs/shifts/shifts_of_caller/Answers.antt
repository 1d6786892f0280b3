use Rattle.std.proofs.Common.{◌∷◌, ◌++◌, List, [], All, sym, ap, ◌∙◌, subst, arith}
use Rattle.std.proofs.lemmas.List.Elements.{All-nil, All-push}
use Rattle.big_job.specs.CallerWords.{first_word, next_word}
use Rattle.bank_job.specs.declared.shifts.Shift.{Shift}
use Rattle.bank_job.specs.Shifts.{first_shifts, IsBetweenUnits}
use Rattle.bank_job.proofs.Made.{first_none, first_more, word_more}
use Rattle.bank_job.proofs.shifts.shifts_of_caller.Goals as goal

pub loop-init : goal.loop-init
loop-init c = record {
  word = c.first_word-word.ensures;
  shifts = c.new-shifts.ensures.items ∙ sym (first_none c.args.number c.args.caller);
  units = subst (All IsBetweenUnits) (sym c.new-shifts.ensures.items) (All-nil IsBetweenUnits);
}

pub loop-preserved : goal.loop-preserved
loop-preserved c =
    let number = c.args.number in
    let caller = c.args.caller in
    let at = c.loop.counter in
    let word = c.next_word-word.ensures ∙ ap next_word c.loop.invariant.word ∙ sym (word_more (first_word number caller) at) in
    record {
      word = word;
      shifts = c.in_ok-push.ensures.items ∙ ap (λ (ss : List Shift). ss ++ c.shift_of.result ∷ []) c.loop.invariant.shifts
          ∙ ap (λ (s : Shift). first_shifts number caller at ++ s ∷ []) c.shift_of.ensures.value
          ∙ sym (first_more number caller at c.next_word-word.result word);
      units = subst (All IsBetweenUnits) (sym c.in_ok-push.ensures.items)
          (All-push IsBetweenUnits c.loop.shifts.items c.shift_of.result c.loop.invariant.units c.shift_of.ensures.units);
    }

pub returns-clause-value : goal.returns-clause-value
returns-clause-value c = c.loop.invariant.shifts ∙ ap (first_shifts c.args.number c.args.caller) (omega arith)
