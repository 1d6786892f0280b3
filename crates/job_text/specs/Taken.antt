-- What is left of a source, and of its count of faults, where a job was read of it.
use Rattle.std.specs.Prelude.{◌≡◌, ℕ, ◌<◌, ◌≤◌, List, length, Option, Result, Ok, Err}
use Rattle.std.specs.Io.KnownBytes.{Consumes, IsAtEnd}
use Rattle.mont_base.specs.Faults.{Rose}
use Rattle.mont_base.specs.Losses.{LosesAtMost, LosesFirst}
use Rattle.job_text.specs.declared.limits.TheConstants.{READ_BYTES}
use Rattle.job_text.specs.declared.job_refusal.JobRefusal.{JobRefusal}
use Rattle.job_text.specs.declared.job_refusal.JobRefusal.TheVariants.{Text, Read, Memory}

-- no more than are read at most
abbrev pub HasLostSome : Option (List ℕ) → Option (List ℕ) → Type 0
HasLostSome = LosesAtMost READ_BYTES

-- these bytes were taken of a source, to its end or as many as are read at most
pub record TakesBytes (old new : Option (List ℕ)) (bytes : List ℕ) : Type 0 where
  pub taken : Consumes old new bytes
  pub few : length bytes ≤ READ_BYTES
  pub ended : length bytes < READ_BYTES → IsAtEnd new

-- A job was read to the end. For a fault of a text it was read to the end, or as many bytes as
-- are read at most. Where the source failed or memory ran out it may be fewer.
abbrev pub IsTaken : {J : Type 0} (old new : Option (List ℕ)) → Result J JobRefusal → Type 0
IsTaken old new (Ok job) = LosesFirst READ_BYTES old new × IsAtEnd new
IsTaken old new (Err (Text line fault)) = LosesFirst READ_BYTES old new
IsTaken old new (Err Read) = HasLostSome old new
IsTaken old new (Err Memory) = HasLostSome old new

-- the count of faults rose where it is said that the source failed, and nowhere else
abbrev pub TellsFaults : {J : Type 0} (before now : ℕ) → Result J JobRefusal → Type 0
TellsFaults before now (Ok job) = now ≡ before
TellsFaults before now (Err (Text line fault)) = now ≡ before
TellsFaults before now (Err Read) = (before ≤ now) × Rose before now
TellsFaults before now (Err Memory) = now ≡ before
