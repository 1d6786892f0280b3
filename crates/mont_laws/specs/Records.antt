-- The records of a unit: which are live, which stand up to an epoch, and which make no difference.
use Rattle.std.specs.Prelude.{◌≡◌, ◌≢◌, ◌↔◌, ℕ, ◌<◌, ◌≤◌, ◌⊎◌, true, not, ◌==◌, nat_le, List, Option, Some, None, filter, AllPairs, if◌then◌else◌}
use Rattle.std.specs.List.{Contains}
use Rattle.mont_base.specs.declared.record.Held.{Held}
use Rattle.mont_base.specs.Versions.{is_delete, newest_of}
use Rattle.mont_base.specs.Image.{DiffersFrom}

-- an identity is live by its newest version, where that is no anti-payload
abbrev pub live_if : Option Held → Option Held
live_if None = None
live_if (Some r) = if is_delete r.label.kind then None else Some r

-- the live record of an identity
abbrev pub live_of : ℕ → List Held → Option Held
live_of identity records = live_if (newest_of identity records)

-- no slot stands twice, and no version of an identity
pub record AreApart (records : List Held) : Type 0 where
  pub slots : AllPairs (λ (r q : Held). r.slot ≢ q.slot) records
  pub versions : AllPairs DiffersFrom records

-- the same records, in whatever order
abbrev pub AreSameRecords : List Held → List Held → Type 0
AreSameRecords records others = (r : Held) → Contains records r ↔ Contains others r

-- the records up to an epoch
abbrev pub cut_records : ℕ → List Held → List Held
cut_records x records = filter (λ (r : Held). nat_le r.label.epoch x) records

abbrev pub without_slot : ℕ → List Held → List Held
without_slot slot records = filter (λ (r : Held). not (r.slot == slot)) records

-- no other record has its identity
abbrev pub IsAlone : List Held → Held → Type 0
IsAlone records r =
    (q : Held) → Contains records q → q.label.identity ≡ r.label.identity → q ≡ r

-- a later version of its identity
pub record IsLaterVersion (records : List Held) (r q : Held) : Type 0 where
  pub there : Contains records q
  pub identity : q.label.identity ≡ r.label.identity
  pub version : r.label.version < q.label.version

-- A record that makes no difference from epoch x on: by then it has a later version, or it is an
-- anti-payload and alone.
abbrev pub IsObsolete : ℕ → List Held → Held → Type 0
IsObsolete x records r =
    ((q : Held) × IsLaterVersion records r q × (q.label.epoch ≤ x))
    ⊎ ((is_delete r.label.kind ≡ true) × IsAlone records r)
