-- The newest record of each identity, kept by identity.
use Rattle.std.specs.Prelude.{◌≡◌, ℕ, ◌+◌, ◌<◌, ◌≤◌, List, [], ◌∷◌, Option, Some, None, if◌then◌else◌}
use Rattle.std.specs.Ordering.{nat_cmp}
use Rattle.std.specs.BTreeMap as tree
use Rattle.mont_base.specs.declared.record.Held.{Held}
use Rattle.mont_base.specs.Bodies.{item_in}
use Rattle.mont_base.specs.Versions.{is_delete, newest_of}

-- what a map has under an identity is a record of it
abbrev pub IsKeyed : tree.BTreeMap ℕ Held → Type 0
IsKeyed m = (q : ℕ) (r : Held) → tree.get nat_cmp m q ≡ Some r → r.label.identity ≡ q

-- a record is newer than the one that is known, if one is
abbrev pub IsNewer : Option Held → Held → Type 0
IsNewer None r = Unit {0}
IsNewer (Some known) r = known.label.version < r.label.version

-- two lists of records have the same newest one of each identity
abbrev pub HaveSameNewest : List Held → List Held → Type 0
HaveSameNewest records others = (q : ℕ) → newest_of q records ≡ newest_of q others

-- records in the first slots, in their order
abbrev pub numbered : ℕ → List Held → List Held
numbered n [] = []
numbered n (r ∷ rs) = record r { slot = n } ∷ numbered (n + 1) rs

-- the serial of a live item
abbrev pub serial_in : Option (ℕ × ℕ) → Option ℕ
serial_in None = None
serial_in (Some e) = Some e.0

abbrev pub live_serial : Held → Option ℕ
live_serial r = if is_delete r.label.kind then None else serial_in (item_in r.body)

-- a record has no serial, or a lower one, or one that isn't lower
abbrev pub IsSerialBelow : ℕ → Held → Type 0
IsSerialBelow serial r = (other : ℕ) → live_serial r ≡ Some other → other < serial

abbrev pub IsSerialFrom : ℕ → Held → Type 0
IsSerialFrom serial r = (other : ℕ) → live_serial r ≡ Some other → serial ≤ other
