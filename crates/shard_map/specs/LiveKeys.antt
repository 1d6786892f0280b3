-- Where the live keys of a map unit are.
use Rattle.std.specs.Prelude.{ℕ, List, Option, Some, None}
use Rattle.std.specs.FinMap as finite
use Rattle.mont_base.specs.declared.record.Held.{Held}
use Rattle.mont_base.specs.Layout.{Shape}
use Rattle.mont_base.specs.State.{Key, Value}
use Rattle.mont_laws.specs.Records.{live_of}
use Rattle.mont_laws.specs.Shows.{Things, Shows}
use Rattle.mont_laws.specs.Structures.{pair_for}
use Rattle.index_kit.specs.Index.{Places}

-- the key of a pair, with the slot in which it stands
abbrev pub key_in_slot : ℕ → Option (Key × Value) → Option (Key × ℕ)
key_in_slot slot None = None
key_in_slot slot (Some pair) = Some (pair.0, slot)

-- that of a live record
abbrev pub key_of_live : Shape → ℕ → Option Held → Option (Option (Key × ℕ))
key_of_live s unit None = None
key_of_live s unit (Some live) = Some (key_in_slot live.slot (pair_for s unit live.body))

-- of each live identity
abbrev pub live_keys : Shape → ℕ → List Held → Things Key ℕ
live_keys s unit records identity = key_of_live s unit (live_of identity records)

-- The places are those of the live keys, each the slot of its record, and of no other key.
abbrev pub HoldsLiveKeys : Shape → ℕ → List Held → Places → Type 0
HoldsLiveKeys s unit records places = Shows (live_keys s unit records) (finite.get places)
