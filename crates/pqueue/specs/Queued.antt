-- The items that stand in a queue, each with where its record is.
use Rattle.std.specs.Prelude.{◌≡◌, ℕ, ◌<◌, List, All, AllPairs, Option, Some, None}
use Rattle.std.specs.List.{Contains}
use Rattle.mont_base.specs.declared.record.Held.{Held}
use Rattle.mont_base.specs.declared.record.Object.{Object}
use Rattle.mont_base.specs.Bodies.{item_in}
use Rattle.mont_laws.specs.Records.{live_of}
use Rattle.mont_laws.specs.Structures.{item_for}
use Rattle.slots.specs.Books.{record_in}
use Rattle.pqueue.specs.declared.queued.Queued.{Queued}

-- ---- the live items of a queue
-- The live record of an identity is in its slot, and holds the serial and the item.
pub record IsLiveItem (records : List Held) (q : Queued) : Type 0 where
  pub live : Held
  pub is : live_of q.identity records ≡ Some live
  pub in_slot : live.slot ≡ q.slot
  pub holds : item_for live.body ≡ Some (q.serial, q.item)

abbrev pub serial_in : Queued → ℕ
serial_in q = q.serial

abbrev pub StandsBefore : Queued → Queued → Type 0
StandsBefore p q = p.serial < q.serial

-- an item has the identity
abbrev pub HasIdentity : List Queued → ℕ → Type 0
HasIdentity items identity = (q : Queued) × Contains items q × (q.identity ≡ identity)

-- These are the live items by rising serial, and nothing else is live.
pub record AreLiveItems (records : List Held) (items : List Queued) : Type 0 where
  pub each : All (IsLiveItem records) items
  pub all : (identity : ℕ) (r : Held) → live_of identity records ≡ Some r
      → HasIdentity items identity
  pub rising : AllPairs StandsBefore items

-- ---- read of bodies
abbrev pub queued_as : Option (ℕ × ℕ) → ℕ → ℕ → Option Queued
queued_as None identity slot = None
queued_as (Some e) identity slot =
    Some (record { serial = e.0; identity = identity; slot = slot; item = e.1 })

abbrev pub queued_in : List ℕ → ℕ → ℕ → Option Queued
queued_in body identity slot = queued_as (item_in body) identity slot

abbrev pub queued_of : Object → Option Queued
queued_of o = queued_in o.body o.identity o.slot

abbrev pub queued_by : Option Held → Option Queued
queued_by None = None
queued_by (Some r) = queued_in r.body r.label.identity r.slot

-- the item that the record in a slot holds
abbrev pub queued_at : List Held → ℕ → Option Queued
queued_at records slot = queued_by (record_in records slot)
