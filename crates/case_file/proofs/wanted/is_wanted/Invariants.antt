use Rattle.std.proofs.Common.{◌≡◌, ℕ, ◌<◌, slice_index_or}
use Rattle.case_file.specs.declared.case.Part.{Part}
use Rattle.case_file.specs.Wanted.{Wants}
use Rattle.case_file.proofs.wanted.is_wanted.Given as goal

-- none of the parts so far wants the text
abbrev pub invariant-loop-part : goal.invariant-loop-part
invariant-loop-part l = (k : ℕ) (p : Part) → k < l.part-index → slice_index_or l.fn.case.parts.items k p ≡ p → Wants l.fn.got p → ⊥
