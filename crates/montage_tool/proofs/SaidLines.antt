-- A line that is told.
use Rattle.std.proofs.Common.{◌≡◌, ◌⊎◌, ℕ, List, length, inl, inr, sym, subst, arith}
use Rattle.std.specs.Prelude.{Option, Result, Ok, Err, OnOk, OnErr}
use Rattle.std.specs.Io.KnownBytes.{Appends}
use Rattle.std.proofs.lemmas.List.{take_all}
use Rattle.mont_base.specs.Delivery.{AppendsFront}
use Rattle.mont_base.specs.Faults.{HasCause}
use Rattle.montage_tool.specs.Program.{IsSaid}

module _ {O : Type 0} (taken : O → Option (List ℕ)) (faults : O → ℕ) (out told : O) (line : List ℕ) where
  pub told_line : {E : Type 0} (result : Result (Unit {0}) E) → OnOk result (Appends (taken out) (taken told) line)
      → OnErr result (AppendsFront (taken out) (taken told) line) → HasCause (faults out) (faults told) result
      → IsSaid taken faults out told line
  told_line (Ok done) all part cause = record {
    front = (length line, omega arith, subst (Appends (taken out) (taken told)) (sym (take_all (length line) line (omega arith))) all);
    later = cause.later;
    whole = λ none. all;
  }
  told_line (Err failed) all part cause =
      record { front = part; later = cause.later; whole = λ none. absurd (none cause.failed) }

-- it is told, or there was no memory for it and the sink stayed as it was
pub told_or_not : {O : Type 0} {T : Type 0} (old new : O) {E : Type 0} (result : Result (Unit {0}) E) → OnOk result T
    → OnErr result (new ≡ old) → T ⊎ (new ≡ old)
told_or_not old new (Ok done) told untold = inl told
told_or_not old new (Err failed) told untold = inr untold
