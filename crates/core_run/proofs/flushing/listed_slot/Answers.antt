use Rattle.std.proofs.Common.{◌≡◌, ℕ, ◌+◌, List, length, get_or, sym, ◌∙◌, arith}
use Rattle.std.specs.Prelude.{slice_get, Some, Result, Ok, Err, MatchResult}
use Rattle.std.specs.Result.{result_unwrap_or}
use Rattle.std.proofs.lemmas.Option.{get_or_from_slice_get}
use Rattle.std.proofs.lemmas.List.{get_or_past}
use Rattle.core_steps.specs.Flushing.{flush_list}
use Rattle.core_run.proofs.flushing.listed_slot.Goals as goal

found_or_past :
    (xs : List ℕ) (i : ℕ) (r : Result ℕ ℕ) → MatchResult r (λ x. slice_get xs i ≡ Some x) (λ n. length xs + n ≡ i)
    → result_unwrap_or r 0 ≡ get_or xs i 0
found_or_past xs i (Ok x) h = sym (get_or_from_slice_get xs i x 0 h)
found_or_past xs i (Err n) h = sym (get_or_past xs i 0 (omega arith))

pub returns : goal.returns
returns c = c.unwrap_or.ensures ∙ found_or_past (flush_list c.args.core.now) c.args.place c.listed_at.result c.listed_at.ensures
