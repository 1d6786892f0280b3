-- How slots are cut into pieces.
use Rattle.std.specs.Prelude.{ℕ, ◌+◌, ◌*◌, ◌/◌, ◌-◌, List}
use Rattle.std.specs.List.{range_with_len}
use Rattle.mont_base.specs.Layout.{Shape, total_of}

-- where a piece begins
abbrev pub piece_start : Shape → ℕ → ℕ → ℕ
piece_start s workers piece = total_of s * piece / workers

-- the slots of a piece: up to where the next one begins
unfoldable pub piece_slots : Shape → ℕ → ℕ → List ℕ
piece_slots s workers piece =
    range_with_len (piece_start s workers piece)
    (piece_start s workers (piece + 1) - piece_start s workers piece)
