use Rattle.std.proofs.Common.{◌≡◌, take}
use Rattle.std.specs.Prelude.{map}
use Rattle.slots.specs.declared.books.Written.{Written}
use Rattle.machine_cases.proofs.permits.held_of.Given as goal

abbrev pub invariant-loop-one : goal.invariant-loop-one
invariant-loop-one l = l.records.items ≡ map (λ (w : Written). w.held) (take l.one-index l.written)
