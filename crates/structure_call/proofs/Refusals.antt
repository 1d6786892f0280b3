-- What an answer of a guard's steps was that was handed on.
use Rattle.std.proofs.Common.{◌≡◌, ℕ, true, false, List, [], ◌∷◌, length, refl, arith}
use Rattle.std.specs.Prelude.{◌==◌, ◌≢◌, Result, Ok, Err}
use Rattle.std.proofs.lemmas.Bool.Decides.{nat_tests}
use Rattle.mont_base.specs.declared.gate.Cut.{Cut}
use Rattle.mont_base.specs.declared.refusal.CallRefusal.{CallRefusal}
use Rattle.op_guard.specs.declared.guard.Guard.{Guard}
use Rattle.op_guard.specs.declared.guard.GuardRefusal.{GuardRefusal}
use Rattle.op_guard.specs.declared.guard.GuardRefusal.TheVariants as guards
use Rattle.structure_call.specs.Refusing.{cut_in, refused_in}

pub not_cut : {T : Type 0} (unit : ℕ) (answer : Result T Cut) (value : T) (handed : Result T CallRefusal)
    → handed ≡ cut_in unit answer → handed ≡ Ok value → answer ≡ Ok value
not_cut unit (Ok v) value handed is ok = cc
not_cut unit (Err cut) value handed is ok = absurd (cc)

pub not_refused : (unit : ℕ) (begun : Result Guard GuardRefusal) (guard : Guard) (handed : Result Guard CallRefusal)
    → handed ≡ refused_in unit begun → handed ≡ Ok guard → begun ≡ Ok guard
not_refused unit (Ok g) guard handed is ok = cc
not_refused unit (Err (guards.Full need free clock)) guard handed is ok = absurd (cc)
not_refused unit (Err guards.Cut) guard handed is ok = absurd (cc)

-- a list whose length is tested
pub none_there : {A : Type 0} (xs : List A) → (length xs == 0) ≡ true → xs ≡ []
none_there [] e = refl
none_there (x ∷ xs) e = absurd (grind (arith, nat_tests))

pub some_there : {A : Type 0} (xs : List A) → (length xs == 0) ≡ false → xs ≢ []
some_there [] e none = absurd (cc)
some_there (x ∷ xs) e none = absurd (cc)
