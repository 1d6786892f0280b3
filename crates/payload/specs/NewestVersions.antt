-- The greatest version of each identity.
use Rattle.std.specs.Prelude.{◌≡◌, ℕ, Bool, false, nat_lt, List, Option, Some, None}
use Rattle.std.specs.List.{list_any}
use Rattle.std.specs.Ordering.{nat_cmp}
use Rattle.std.specs.BTreeMap as tree
use Rattle.mont_base.specs.declared.record.Held.{Held}
use Rattle.mont_base.specs.Versions.{is_later}

-- whether a version is known that is above this one
abbrev pub is_above : ℕ → Option ℕ → Bool
is_above version None = false
is_above version (Some other) = nat_lt version other

-- a map tells of each record whether a later version is among these
abbrev pub HasNewest : tree.BTreeMap ℕ ℕ → List Held → Type 0
HasNewest m records =
    (r : Held) → list_any (is_later r) records
    ≡ is_above r.label.version (tree.get nat_cmp m r.label.identity)
