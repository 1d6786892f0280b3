use Rattle.std.proofs.Common.{◌+◌, ℕ, sym, ap, ◌∙◌, arith}
use Rattle.slots.proofs.Seen.{version_of_change, first_version_of, version_low}
use Rattle.slots.proofs.region.Region.version_of.Goals as goal

pub overflow_add-result : goal.overflow_add-result
overflow_add-result c = omega (
  arith,
  version_low c.args.self.now c.args.change.now c.in-Some.slot c.version_at.result c.requires.agrees
      c.requires.may (sym c.in-Some.ensures) c.version_at.ensures,
)

pub returns-in-Some : goal.returns-in-Some
returns-in-Some c = ap (λ (n : ℕ). n + 1) (c.version_at.ensures
    ∙ version_of_change c.args.self.now c.args.change.now c.in-Some.slot c.requires.agrees c.requires.may.names (sym c.in-Some.ensures))

pub returns-in-None : goal.returns-in-None
returns-in-None c = first_version_of c.args.self.now c.args.change.now c.requires.agrees (sym c.in-None.ensures)
