-- Where a key is in a list of entries by rising key, or would go.
use Rattle.std.specs.Prelude.{◌≡◌, ℕ, ◌<◌, ◌≤◌, length, slice_index_or}
use Rattle.std.specs.declared.cmp.Ordering.TheVariants.{Less, Greater}
use Rattle.mont_base.specs.State.{Key, key_cmp}
use Rattle.index_kit.specs.Index.{Entries}

-- the entry at this place has the key
pub record IsAt (entries : Entries) (key : Key) (at : ℕ) : Type 0 where
  pub within : at < length entries
  pub same : (d : Key × ℕ) → (slice_index_or entries at d).0 ≡ key

-- the key would go here: the keys before are below it, and those from here on above it
pub record IsGap (entries : Entries) (key : Key) (at : ℕ) : Type 0 where
  pub within : at ≤ length entries
  pub below : (i : ℕ) (d : Key × ℕ) → i < at → key_cmp (slice_index_or entries i d).0 key ≡ Less
  pub above : (i : ℕ) (d : Key × ℕ) → at ≤ i → i < length entries
      → key_cmp (slice_index_or entries i d).0 key ≡ Greater
