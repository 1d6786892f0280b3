-- Of entries by rising key, those up to a key and those from one key to another, and where these
-- stand.
use Rattle.std.specs.Prelude.{◌≡◌, ◌+◌, List, length, take, drop}
use Rattle.std.specs.List.{filter}
use Rattle.std.specs.Ordering.{is_le}
use Rattle.mont_base.specs.State.{Key, key_cmp, is_between}
use Rattle.index_kit.specs.Index.{Entries}
use Rattle.counted_tree.specs.Order.{count_below}
use Rattle.order_index.specs.declared.stretch.Stretch.{Stretch}

-- with the key itself
abbrev pub up_to : {X : Type 0} → Key → List (Key × X) → List (Key × X)
up_to {X} key entries = filter (λ (e : Key × X). is_le (key_cmp e.0 key)) entries

-- with both keys
abbrev pub between : {X : Type 0} → Key → Key → List (Key × X) → List (Key × X)
between {X} from to entries = filter (λ (e : Key × X). is_between from to e.0) entries

-- the places of the entries from one key to another: after the entries of all lower keys
pub record IsStretch (from to : Key) (entries : Entries) (places : Stretch) : Type 0 where
  pub first : places.first ≡ count_below key_cmp from entries
  pub behind : places.behind ≡ places.first + length (between from to entries)
  pub there : between from to entries ≡ drop places.first (take places.behind entries)
