use Rattle.std.proofs.Common.{sym, subst}
use Rattle.mont_base.specs.declared.record.Held.{Held}
use Rattle.core_answer.specs.Unfinished.{ShowsNext}
use Rattle.core_answer.proofs.Completions.{completed, completed_goes_on}
use Rattle.core_answer.proofs.unfinished.goes_on.Goals as goal

pub returns : goal.returns
returns c =
    let a = c.args in
    let Shows : Held → Type 0 = ShowsNext a.unit a.change.now a.stored a.value in (
      λ t.
          completed_goes_on a.unit a.slot a.epoch a.change.now a.stored a.value
          (subst Shows c.completion-whole.ensures (c.shows_next.ensures.0 t)),
      λ g. c.shows_next.ensures.1
          (subst Shows (sym c.completion-whole.ensures) (completed a.unit a.slot a.epoch a.change.now a.stored a.value c.requires g)),
    )
