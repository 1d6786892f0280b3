-- The name of a file that is written beside another.
use Rattle.std.specs.Prelude.{◌≡◌, ◌+◌, ◌<◌, ◌≤◌, ℕ, List, ◌++◌, codes, decimal, length, take, IsCharBoundary}
use Rattle.process_devices.specs.declared.beside_name.TheConstants.{NAME_BYTES}

-- the number of the try, and a word that tells what the file is
abbrev pub ending_of : ℕ → List ℕ
ending_of turn = codes "." ++ decimal turn ++ codes ".unfinished"

-- As much of the file's name as leaves room for that ending, in whole characters, and the ending. It
-- is no longer than a name of a file may be.
pub record IsBesideName (name : List ℕ) (turn : ℕ) (beside : List ℕ) : Type 0 where
  pub kept : ℕ
  pub is : beside ≡ take kept name ++ ending_of turn
  pub fits : length beside ≤ NAME_BYTES
  pub longest :
      (more : ℕ) → kept < more → IsCharBoundary name more
      → NAME_BYTES < more + length (ending_of turn)
