-- Which bytes were taken of a source, and whether it failed.
use Rattle.std.specs.Prelude.{◌≡◌, ℕ, ◌<◌, ◌≤◌, ◌⊎◌, List, [], ◌++◌, length, Option, Result, Ok, Err}
use Rattle.std.specs.Io.KnownBytes.{Consumes, IsAtEnd}
use Rattle.mont_base.specs.Faults.{Rose}
use Rattle.source_bytes.specs.declared.read_refusal.ReadRefusal.{ReadRefusal}
use Rattle.source_bytes.specs.declared.read_refusal.ReadRefusal.TheVariants.{Read, Memory}

-- these bytes were taken of a source, to its end or as many as are read at most
pub record TakesBytes (most : ℕ) (old new : Option (List ℕ)) (bytes : List ℕ) : Type 0 where
  pub taken : Consumes old new bytes
  pub few : length bytes ≤ most
  pub ended : length bytes < most → IsAtEnd new

-- the count of faults rose where it is said that the source failed, and nowhere else
abbrev pub TellsFaults : {T : Type 0} (before now : ℕ) → Result T ReadRefusal → Type 0
TellsFaults before now (Ok bytes) = now ≡ before
TellsFaults before now (Err Read) = (before ≤ now) × Rose before now
TellsFaults before now (Err Memory) = now ≡ before

-- These bytes are a text, or its front. Nothing follows them in the text, unless they are as many
-- as are read at most.
abbrev pub IsReadOf : ℕ → List ℕ → List ℕ → Type 0
IsReadOf most text bytes =
    (more : List ℕ) × (text ≡ bytes ++ more) × ((more ≡ []) ⊎ (most ≤ length bytes))
