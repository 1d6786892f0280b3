use Rattle.std.proofs.Common.{◌≡◌, ℕ, ◌<◌, get_or, sym, ap, ◌∙◌, refl, arith, lit<}
use Rattle.refusal_help.specs.declared.operation.Operation.{Operation}
use Rattle.refusal_help.specs.declared.operation.Operation.TheVariants as names
use Rattle.refusal_help.specs.declared.operation.TheConstants.{OPERATIONS}
use Rattle.refusal_help.specs.Table.{operation_word}
use Rattle.refusal_help.proofs.operation.Operation.of_word.Goals as goal

-- each name stands at its place
named : (n : Operation) → (k : ℕ) × (k < 20) × (get_or OPERATIONS k names.Put ≡ n)
named names.Put = (0, lit< tt, refl)
named names.Get = (1, lit< tt, refl)
named names.Del = (2, lit< tt, refl)
named names.Enq = (3, lit< tt, refl)
named names.Deq = (4, lit< tt, refl)
named names.Len = (5, lit< tt, refl)
named names.AddV = (6, lit< tt, refl)
named names.DelV = (7, lit< tt, refl)
named names.AddE = (8, lit< tt, refl)
named names.DelE = (9, lit< tt, refl)
named names.Vertex = (10, lit< tt, refl)
named names.Degree = (11, lit< tt, refl)
named names.OPut = (12, lit< tt, refl)
named names.OGet = (13, lit< tt, refl)
named names.ODel = (14, lit< tt, refl)
named names.OFloor = (15, lit< tt, refl)
named names.ORank = (16, lit< tt, refl)
named names.ORange = (17, lit< tt, refl)
named names.Tick = (18, lit< tt, refl)
named names.Sync = (19, lit< tt, refl)

pub returns : goal.returns
returns c = λ n is.
    let at = named n in
    c.loop-name.invariant at.0 names.Put (omega (arith, at.1)) (is ∙ ap operation_word (sym at.2))
