use Rattle.std.proofs.Common.{◌≡◌, suc, ◌-◌, List, [], ◌∷◌, length, ap, sym, ◌∙◌, arith}
use Rattle.std.specs.Prelude.{slice_get, Some}
use Rattle.std.proofs.lemmas.Option.{same_Some}
use Rattle.mont_base.specs.declared.operation.Entry.{Entry}
use Rattle.core_steps.specs.Notes.{last_epoch}
use Rattle.core_run.proofs.notes.last_epoch.Goals as goal

last_read : (h : List Entry) (e : Entry) → slice_get h (length h - 1) ≡ Some e → e.epoch ≡ last_epoch h
last_read [] e at = absurd (cc)
last_read (d ∷ []) e at = ap (λ (x : Entry). x.epoch) (sym (same_Some d e at))
last_read (d ∷ f ∷ es) e at =
    let this : length (d ∷ f ∷ es) - 1 ≡ suc (length (f ∷ es) - 1) = omega arith in
    last_read (f ∷ es) e (ap (slice_get (d ∷ f ∷ es)) (sym this) ∙ at)

pub returns-in-Some : goal.returns-in-Some
returns-in-Some c = last_read c.args.entries.now c.in-Some.entry.now (sym c.in-Some.ensures.value)
