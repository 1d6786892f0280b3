-- A planned operation: what it is answered, and the changes that make its effects.
use Rattle.std.specs.Prelude.{◌≡◌, ℕ, nat_lt, Bool, List, Option, Some, if◌then◌else◌}
use Rattle.std.specs.List.{AllZip, list_any}
use Rattle.mont_base.specs.declared.constants.TheConstants.{LAST}
use Rattle.mont_base.specs.declared.effect.Effect.{Effect}
use Rattle.mont_base.specs.declared.effect.Effect.TheVariants.{Inserts, Replaces, Removes}
use Rattle.mont_base.specs.declared.effect.Thing.{Thing}
use Rattle.mont_base.specs.declared.effect.Thing.TheVariants.{Pair, Item, Vertex, Edge}
use Rattle.mont_base.specs.declared.operation.Op.{Op}
use Rattle.mont_base.specs.declared.operation.Reply.{Reply}
use Rattle.mont_base.specs.declared.record.Change.{Change}
use Rattle.mont_base.specs.declared.record.Change.TheVariants.{Insert, Replace, Remove}
use Rattle.mont_base.specs.declared.record.Held.{Held}
use Rattle.mont_base.specs.declared.refusal.Which.{Which}
use Rattle.mont_base.specs.declared.refusal.Which.TheVariants as ends
use Rattle.mont_base.specs.Bodies.{item_body}
use Rattle.mont_base.specs.State.{State, step}
use Rattle.mont_laws.specs.Effects.{IsOpOf, HasNameOf, IsBodyOf}
use Rattle.mont_laws.specs.Records.{live_of}
use Rattle.mont_laws.specs.Structures.{HasStructure}
use Rattle.core_steps.specs.declared.parts.CallerPart.{CallerPart}
use Rattle.slots.specs.Books.{BooksShown, RegionShown}
use Rattle.slots.specs.WrittenRecords.{has_serial, first_end}

-- ---- changes and effects
-- the live record of an identity is in this slot, and has the name of a thing
pub record NamesThing (records : List Held) (thing : Thing) (slot identity : ℕ) : Type 0 where
  pub live : Held
  pub is : live_of identity records ≡ Some live
  pub in_slot : live.slot ≡ slot
  pub named : HasNameOf records thing live.body

-- a body is that of a thing; an item has the serial that is next, which may be above the last
-- number
abbrev pub IsBodyNext : BooksShown → List Held → Thing → List ℕ → Type 0
IsBodyNext b records (Pair key value) body = IsBodyOf records (Pair key value) body
IsBodyNext b records (Item item) body = body ≡ item_body b.serial item
IsBodyNext b records (Vertex vertex attribute) body =
    IsBodyOf records (Vertex vertex attribute) body
IsBodyNext b records (Edge from to attribute) body = IsBodyOf records (Edge from to attribute) body

-- a change makes an effect
abbrev pub Makes : BooksShown → List Held → Effect → Change → Type 0
Makes b records (Inserts thing) (Insert body) = IsBodyNext b records thing body
Makes b records (Replaces thing) (Replace slot identity body) =
    NamesThing records thing slot identity × IsBodyNext b records thing body
Makes b records (Removes thing) (Remove slot identity) = NamesThing records thing slot identity
Makes b records _ _ = ⊥

-- The reply is the plain step's on the state that the unit's records show, and the changes make
-- its effects, one for each, in their order.
pub record IsPlan
    (r : RegionShown) (op : Op) (reply : Reply) (changes : List Change) : Type 0 where
  pub of_unit : IsOpOf r.books.layout r.books.unit op
  pub state : State
  pub shown : HasStructure r.books.layout r.books.unit r.seat.known.part.records state
  pub replies : reply ≡ (step state op).reply
  pub makes : AllZip (Makes r.books r.seat.known.part.records) (step state op).effects changes

-- ---- numbers
-- an item is added to a queue
abbrev pub adds_item : BooksShown → List Change → Bool
adds_item b changes = list_any (has_serial b.layout b.unit) changes

-- the first number that the call would be given above the last one: of the caller's calls, or of
-- the unit's numbers
abbrev pub first_at_end : CallerPart → RegionShown → List Change → Option Which
first_at_end q r changes =
    if nat_lt LAST q.calls then Some ends.Call
    else first_end r.books r.seat.known.part.records changes (adds_item r.books changes)
