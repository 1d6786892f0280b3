-- Refusals of a guard as refusals of the call, which name the unit.
use Rattle.std.specs.Prelude.{ℕ, Ok, Err}
use Rattle.std.specs.declared.result.Result.{Result}
use Rattle.mont_base.specs.declared.gate.Cut.{Cut}
use Rattle.mont_base.specs.declared.refusal.CallRefusal.{CallRefusal}
use Rattle.mont_base.specs.declared.refusal.CallRefusal.TheVariants as calls
use Rattle.op_guard.specs.declared.guard.Guard.{Guard}
use Rattle.op_guard.specs.declared.guard.GuardRefusal.{GuardRefusal}
use Rattle.op_guard.specs.declared.guard.GuardRefusal.TheVariants as guards

abbrev pub cut_in : {T : Type 0} → ℕ → Result T Cut → Result T CallRefusal
cut_in unit (Ok value) = Ok value
cut_in unit (Err cut) = Err (calls.Cut unit)

abbrev pub refused_in : ℕ → Result Guard GuardRefusal → Result Guard CallRefusal
refused_in unit (Ok guard) = Ok guard
refused_in unit (Err (guards.Full need free clock)) = Err (calls.Full need free clock)
refused_in unit (Err guards.Cut) = Err (calls.Cut unit)
