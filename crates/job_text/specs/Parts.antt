-- The parts of a text.
use Rattle.std.specs.Prelude.{◌≡◌, ◌≢◌, ◌≤◌, ℕ, length, slice_index, ◌==◌, false, List, ◌∷◌, ◌++◌, All}

-- none of the bytes is this one
abbrev pub Lacks : ℕ → List ℕ → Type 0
Lacks byte bytes = All (λ b. (b == byte) ≡ false) bytes

-- what stands before the first such byte, and what stands after it
pub record IsSplit (byte : ℕ) (bytes before after : List ℕ) : Type 0 where
  pub joined : bytes ≡ before ++ byte ∷ after
  pub first : Lacks byte before

-- a word that begins neither with a sign nor with a zero in front of others
pub record IsUnpadded (word : List ℕ) : Type 0 where
  pub unsigned : slice_index word 0 ≢ 43
  pub no_zero : slice_index word 0 ≡ 48 → length word ≤ 1
