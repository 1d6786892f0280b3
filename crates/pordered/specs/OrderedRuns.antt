-- What pairs of an ordered unit are told, whatever map its records show.
use Rattle.std.specs.Prelude.{◌≡◌, ℕ, Option, slice_get}
use Rattle.std.specs.FinMap as finite
use Rattle.mont_base.specs.State.{Key, Value, Pairs, Run, range_of}
use Rattle.mont_laws.specs.Structures.{HasPairs}
use Rattle.slots.specs.Books.{RegionShown}

-- the pairs are the run of a range on the map that the records show
abbrev pub HasRun : RegionShown → Key → Key → ℕ → Run → Type 0
HasRun r from to most run = (pairs : Pairs)
    → HasPairs r.books.layout r.books.unit r.seat.known.part.records pairs
    → run ≡ range_of pairs from to most

-- the pair at a place of that map, by rising key, if there are so many
abbrev pub HasPairAt : RegionShown → ℕ → Option (Key × Value) → Type 0
HasPairAt r place pair = (pairs : Pairs)
    → HasPairs r.books.layout r.books.unit r.seat.known.part.records pairs
    → pair ≡ slice_get (finite.entries pairs) place
