-- The versions of the identities of one unit, and which of them are live.
use Rattle.std.specs.Prelude.{ℕ, Bool, true, false, ◌&&◌, ◌==◌, not, nat_lt, List, [], ◌∷◌, map, filter, if◌then◌else◌, Option, Some, None}
use Rattle.std.specs.List.{list_any}
use Rattle.mont_base.specs.declared.record.Held.{Held}
use Rattle.mont_base.specs.declared.record.Object.{Object}
use Rattle.mont_base.specs.declared.record.Kind.{Kind}
use Rattle.mont_base.specs.declared.record.Kind.TheVariants as kinds

abbrev pub is_delete : Kind → Bool
is_delete kinds.New = false
is_delete kinds.Copy = false
is_delete kinds.Delete = true

-- whether the second record is a later version of the first
abbrev pub is_later : Held → Held → Bool
is_later r q = (q.label.identity == r.label.identity) && nat_lt r.label.version q.label.version

-- a record is live where it is the greatest version of its identity and no anti-payload
abbrev pub is_live : List Held → Held → Bool
is_live records r = not (is_delete r.label.kind) && not (list_any (is_later r) records)

abbrev pub object_of : Held → Object
object_of r =
    record { slot = r.slot; identity = r.label.identity; version = r.label.version; body = r.body }

-- the live ones, in the order of the records
abbrev pub live_objects : List Held → List Object
live_objects records = map object_of (filter (is_live records) records)

-- the later version of two, if there are two
abbrev pub later_of : Option Held → Option Held → Option Held
later_of None o = o
later_of (Some r) None = Some r
later_of (Some r) (Some q) = if nat_lt r.label.version q.label.version then Some q else Some r

abbrev pub only_of : ℕ → Held → Option Held
only_of identity r = if r.label.identity == identity then Some r else None

-- the record of an identity with the greatest version
abbrev pub newest_of : ℕ → List Held → Option Held
newest_of identity [] = None
newest_of identity (r ∷ rs) = later_of (only_of identity r) (newest_of identity rs)
