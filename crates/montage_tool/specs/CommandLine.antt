-- The words of the command line.
use Rattle.std.specs.Prelude.{ℕ, List, slice_get, Option, Some, None}
use Rattle.std.specs.declared.io.ErrorKind.{ErrorKind}
use Rattle.std.specs.declared.io.ErrorKind.TheVariants.{OutOfMemory}
use Rattle.montage_tool.specs.declared.status.Status.{Status}
use Rattle.montage_tool.specs.declared.status.Status.TheVariants.{BadWords, Memory}

-- where they can't be had, memory ran out, or one of them isn't UTF-8
abbrev pub status_of_kind : ErrorKind → Status
status_of_kind OutOfMemory = Memory
status_of_kind _ = BadWords

-- the word at a place, where a place is named that has one
abbrev pub word_at : List (List ℕ) → Option ℕ → Option (List ℕ)
word_at words None = None
word_at words (Some place) = slice_get words place
