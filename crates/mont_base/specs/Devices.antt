-- What contracts see of the devices in memory, and which of their calls fail.
use Rattle.std.specs.Prelude.{ℕ, ◌+◌, ◌-◌, ◌^◌, Bool, ◌==◌, min, List, length}
use Rattle.std.specs.List.{list_any}

-- What a device does call by call: a call moves at most `piece` bytes, those with these numbers
-- fail, and this one is the next. The first call has number 0.
pub record Calls : Type 0 where
  pub piece : ℕ
  pub failing : List ℕ
  pub next : ℕ

-- the calls that such a device makes from the start
abbrev pub calls_from_start : ℕ → List ℕ → Calls
calls_from_start piece failing = record { piece = piece; failing = failing; next = 0 }

-- after the next call; the number stands still at the last value of a `u64`
abbrev pub behind_next : Calls → Calls
behind_next calls = record {
  piece = calls.piece;
  failing = calls.failing;
  next = min (calls.next + 1) (2 ^ 64 - 1);
}

-- whether the next call is one of those that fail
abbrev pub fails_next : Calls → Bool
fails_next calls = list_any (λ call. call == calls.next) calls.failing

-- bytes that are left to read, and how often reading failed
pub record Readable : Type 0 where
  pub left : List ℕ
  pub calls : Calls
  pub faults : ℕ

-- how many bytes the next call gives into a buffer of this length, where it doesn't fail
abbrev pub gives_next : Readable → ℕ → ℕ
gives_next r room = min (min (length r.left) r.calls.piece) room

-- bytes that were taken, how many there is room for, and how often writing failed
pub record Writable : Type 0 where
  pub taken : List ℕ
  pub reserved : ℕ
  pub calls : Calls
  pub faults : ℕ

-- how many bytes it still has room for
abbrev pub room_left : Writable → ℕ
room_left w = w.reserved - length w.taken

-- how many bytes the next call takes of so many, where it doesn't fail
abbrev pub takes_next : Writable → ℕ → ℕ
takes_next w many = min (min many w.calls.piece) (room_left w)
