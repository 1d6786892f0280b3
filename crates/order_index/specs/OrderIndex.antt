-- What an ordered index keeps, and where a key is in it or would go.
use Rattle.std.specs.Prelude.{◌≡◌, ℕ, ◌+◌, ◌≤◌, ◌^◌, true, length, slice_get, Some, None}
use Rattle.std.specs.FinMap as finite
use Rattle.mont_base.specs.State.{Key, key_cmp}
use Rattle.index_kit.specs.Index.{Entries}
use Rattle.counted_tree.specs.Order.{count_below}

-- entries by rising key, and at most one node that waits for a further one
pub record IsKeptInOrder (entries waiting : Entries) : Type 0 where
  pub sorted : finite.is_sorted key_cmp entries ≡ true
  pub one : length waiting ≤ 1
  pub few : length entries + length waiting ≤ 2 ^ 60

-- after the entries of keys below it is the key's own
pub record IsHeldAt (entries : Entries) (key : Key) (at : ℕ) : Type 0 where
  pub behind : at ≡ count_below key_cmp key entries
  pub there : (place : ℕ) × (slice_get entries at ≡ Some (key, place))

-- or it has none, and would have it there
pub record IsMissingAt (entries : Entries) (key : Key) (at : ℕ) : Type 0 where
  pub behind : at ≡ count_below key_cmp key entries
  pub within : at ≤ length entries
  pub none : finite.find key_cmp key entries ≡ None
