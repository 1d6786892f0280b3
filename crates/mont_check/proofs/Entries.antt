-- The entries of histories.
use Rattle.std.proofs.Common.{◌≡◌, ℕ, ◌<◌, ◌≤◌, ◌⊎◌, inl, inr, List, length, get_or, subst, arith}
use Rattle.std.specs.Prelude.{slice_get, Some, None}
use Rattle.std.proofs.lemmas.Option.{slice_get_within, slice_get_cases}
use Rattle.mont_base.specs.declared.operation.Entry.{Entry}
use Rattle.mont_base.specs.Seen.{IsEntryAt}

-- a place below a history's length has an entry
pub entry_there :
    (hs : List (List Entry)) (unit place : ℕ) (h : List Entry) → slice_get hs unit ≡ Some h → place < length h
    → (e : Entry) × IsEntryAt hs unit place e
entry_there hs unit place h known within = found ((slice_get_cases h place).1)
  where
    found :
        ((x : Entry) × (place < length h) × (slice_get h place ≡ Some x) × (get_or h place x ≡ x))
        ⊎ ((length h ≤ place) × (slice_get h place ≡ None)) → (e : Entry) × IsEntryAt hs unit place e
    found (inl x) = (x.0, (h, known, x.2))
    found (inr past) = absurd (omega arith)

-- an entry of a history is below its length
pub entry_within :
    (hs : List (List Entry)) (unit place : ℕ) (h : List Entry) (e : Entry) → slice_get hs unit ≡ Some h → IsEntryAt hs unit place e
    → place < length h
entry_within hs unit place h e known there =
    let same : there.0 ≡ h = cc (known, there.1) in
    subst (λ (k : List Entry). place < length k) same (slice_get_within there.0 place e there.2)
