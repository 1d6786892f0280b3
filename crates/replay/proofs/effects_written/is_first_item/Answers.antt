use Rattle.std.proofs.Common.{ℕ, sym, ap, ◌∙◌, subst}
use Rattle.std.specs.Prelude.{Some}
use Rattle.std.specs.BTreeMap.{values}
use Rattle.std.proofs.lemmas.Option.{same_Some}
use Rattle.mont_laws.specs.Effects.{IsLeastSerial}
use Rattle.replay.proofs.effects_written.is_first_item.Goals as goal

pub returns-then-held-item : goal.returns-then-held-item
returns-then-held-item c =
    let Least : ℕ → Type 0 = IsLeastSerial (values c.args.newest.now.records) in
    let read = sym c.in-Some.ensures.exact in (
      λ t. (
        c.in-Some.serial,
        read ∙ ap (λ (n : ℕ). Some (c.in-Some.serial, n)) c.if-held-item.true,
        c.is_least_serial.ensures.0 t,
      ),
      λ first. c.is_least_serial.ensures.1
          (subst Least (ap (λ (e : ℕ × ℕ). e.0) (same_Some _ _ (sym first.1 ∙ read))) first.2),
    )
