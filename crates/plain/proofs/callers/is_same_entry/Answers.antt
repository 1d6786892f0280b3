use Rattle.std.proofs.Common.{◌∙◌, sym}
use Rattle.plain.proofs.SameEntries.{same_entry}
use Rattle.plain.proofs.callers.is_same_entry.Goals as goal

pub returns : goal.returns
returns c =
    let same = same_entry c.args.a.now c.args.b.now in
    (λ e. same.0 (sym c.eq.ensures ∙ e), λ e. c.eq.ensures ∙ same.1 e)
