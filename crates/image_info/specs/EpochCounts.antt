-- How many records each epoch has.
use Rattle.std.specs.Prelude.{◌≡◌, ℕ, zero, suc, ◌<◌, ◌==◌, List, AllPairs, count_by, Option, Some, None}
use Rattle.std.specs.List.{find}
use Rattle.std.specs.Ordering.{nat_cmp}
use Rattle.std.specs.BTreeMap as tree
use Rattle.mont_base.specs.declared.record.Held.{Held}
use Rattle.image_info.specs.declared.epoch_counts.EpochCount.{EpochCount}

abbrev pub records_at : ℕ → List Held → ℕ
records_at epoch records = count_by (λ (r : Held). r.label.epoch == epoch) records

-- a number of records, if there are some
abbrev pub if_some : ℕ → Option ℕ
if_some zero = None
if_some (suc n) = Some (suc n)

-- what is told of an epoch: nothing where no record is of it
abbrev pub told_of : ℕ → ℕ → Option EpochCount
told_of epoch zero = None
told_of epoch (suc n) = Some (record { epoch = epoch; records = suc n })

-- the epochs of the records, each once with its number of records, by rising epoch
pub record AreEpochs (records : List Held) (counts : List EpochCount) : Type 0 where
  pub rising : AllPairs (λ (a b : EpochCount). a.epoch < b.epoch) counts
  pub told :
      (epoch : ℕ)
      → find (λ (c : EpochCount). c.epoch == epoch) counts
      ≡ told_of epoch (records_at epoch records)

-- a map has the number of records of each epoch
abbrev pub HasNumbers : tree.BTreeMap ℕ ℕ → List Held → Type 0
HasNumbers m records =
    (epoch : ℕ) → tree.get nat_cmp m epoch ≡ if_some (records_at epoch records)

-- what is told of an entry of the map
abbrev pub count_of : ℕ × ℕ → EpochCount
count_of e = record { epoch = e.0; records = e.1 }
