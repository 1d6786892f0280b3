-- The records that an operation writes, one for each of its effects.
use Rattle.std.specs.Prelude.{◌≡◌, ◌↔◌, ℕ, ◌+◌, ◌<◌, ◌≤◌, List, [], ◌∷◌, ◌++◌, Some, None, All, length, map}
use Rattle.std.specs.List.{AllZip}
use Rattle.mont_base.specs.declared.constants.TheConstants.{LAST}
use Rattle.mont_base.specs.declared.record.Held.{Held}
use Rattle.mont_base.specs.declared.record.Kind.TheVariants as kinds
use Rattle.mont_base.specs.declared.operation.Op.{Op}
use Rattle.mont_base.specs.declared.operation.Op.TheVariants as ops
use Rattle.mont_base.specs.declared.operation.Entry.{Entry}
use Rattle.mont_base.specs.declared.effect.Thing.{Thing}
use Rattle.mont_base.specs.declared.effect.Thing.TheVariants.{Pair, Item, Vertex, Edge}
use Rattle.mont_base.specs.declared.effect.Effect.{Effect}
use Rattle.mont_base.specs.declared.effect.Effect.TheVariants.{Inserts, Replaces, Removes}
use Rattle.mont_base.specs.Layout.{Shape}
use Rattle.mont_base.specs.Texts.{IsText}
use Rattle.mont_base.specs.State.{State, Value, step, unit_of_op}
use Rattle.mont_base.specs.History.{state_after}
use Rattle.mont_base.specs.Versions.{newest_of}
use Rattle.mont_base.specs.Bodies.{pair_in, item_in, vertex_in, edge_in, pair_body, item_body, vertex_body, edge_body, no_body}
use Rattle.mont_laws.specs.Records.{live_of}
use Rattle.mont_laws.specs.Structures.{HasStructure, FollowsHistory}

-- ---- serials of a queue
-- a live record has a serial
abbrev pub HasLiveSerial : List Held → ℕ → Type 0
HasLiveSerial records serial =
    (identity : ℕ) × (r : Held) × (item : ℕ)
    × (live_of identity records ≡ Some r) × (item_in r.body ≡ Some (serial, item))

-- a serial above that of every live item
pub record IsNewSerial (records : List Held) (serial : ℕ) : Type 0 where
  pub some : 1 ≤ serial
  pub last : serial ≤ LAST
  pub above : (other : ℕ) → HasLiveSerial records other → other < serial

-- the serial of the first live item
abbrev pub IsLeastSerial : List Held → ℕ → Type 0
IsLeastSerial records serial = (other : ℕ) → HasLiveSerial records other → serial ≤ other

-- ---- bodies
-- an item is the first of the queue
abbrev pub IsFirstItem : List Held → ℕ → List ℕ → Type 0
IsFirstItem records item body =
    (serial : ℕ) × (item_in body ≡ Some (serial, item)) × IsLeastSerial records serial

-- a body holds what has the name of a thing: its key, vertex or ends, or the queue's first place
abbrev pub HasNameOf : List Held → Thing → List ℕ → Type 0
HasNameOf records (Pair key value) body = (old : Value) × (pair_in body ≡ Some (key, old))
HasNameOf records (Item item) body = IsFirstItem records item body
HasNameOf records (Vertex vertex attribute) body =
    (old : ℕ) × (vertex_in body ≡ Some (vertex, old))
HasNameOf records (Edge from to attribute) body =
    (old : ℕ) × (edge_in body ≡ Some ((from, to), old))

-- an item gets a new serial
abbrev pub IsNewItem : List Held → ℕ → List ℕ → Type 0
IsNewItem records item body =
    (serial : ℕ) × (body ≡ item_body serial item) × IsNewSerial records serial

-- a body is that of a thing
abbrev pub IsBodyOf : List Held → Thing → List ℕ → Type 0
IsBodyOf records (Pair key value) body = body ≡ pair_body key value
IsBodyOf records (Item item) body = IsNewItem records item body
IsBodyOf records (Vertex vertex attribute) body = body ≡ vertex_body vertex attribute
IsBodyOf records (Edge from to attribute) body = body ≡ edge_body (from, to) attribute

-- ---- labels
-- the first version of an identity that no record has
pub record IsFirstVersion (records : List Held) (w : Held) : Type 0 where
  pub unused : newest_of w.label.identity records ≡ None
  pub version : w.label.version ≡ 1

-- the next version of the live identity that has the name of a thing
pub record IsNextVersion (records : List Held) (thing : Thing) (w : Held) : Type 0 where
  pub last : Held
  pub live : live_of w.label.identity records ≡ Some last
  pub named : HasNameOf records thing last.body
  pub version : w.label.version ≡ last.label.version + 1

-- ---- effects
abbrev pub Writes : List Held → Effect → Held → Type 0
Writes records (Inserts thing) w =
    (w.label.kind ≡ kinds.New) × IsFirstVersion records w × IsBodyOf records thing w.body
Writes records (Replaces thing) w =
    (w.label.kind ≡ kinds.Copy) × IsNextVersion records thing w × IsBodyOf records thing w.body
Writes records (Removes thing) w =
    (w.label.kind ≡ kinds.Delete) × IsNextVersion records thing w × (w.body ≡ no_body)

-- a record of the unit is what an effect writes
pub record IsEffect (unit : ℕ) (records : List Held) (effect : Effect) (w : Held) : Type 0 where
  pub of_unit : w.label.unit ≡ unit
  pub writes : Writes records effect w

-- Written records are these effects, one for each, in their order. Each is judged on the records
-- before all of them.
abbrev pub AreEffects : ℕ → List Held → List Effect → List Held → Type 0
AreEffects unit records effects written = AllZip (IsEffect unit records) effects written

-- the same, each judged on the records before it
abbrev pub AreEffectsInTurn : ℕ → List Held → List Effect → List Held → Type 0
AreEffectsInTurn unit records [] [] = Unit {0}
AreEffectsInTurn unit records [] (w ∷ ws) = ⊥
AreEffectsInTurn unit records (e ∷ es) [] = ⊥
AreEffectsInTurn unit records (e ∷ es) (w ∷ ws) =
    IsEffect unit records e w × AreEffectsInTurn unit (records ++ w ∷ []) es ws

-- ---- operations
abbrev pub CarriesTexts : Op → Type 0
CarriesTexts (ops.Put key value) = IsText key × IsText value
CarriesTexts (ops.OPut unit key value) = IsText key × IsText value
CarriesTexts _ = Unit {0}

-- an operation of a unit, whose key and value are texts
pub record IsOpOf (s : Shape) (unit : ℕ) (op : Op) : Type 0 where
  pub of_unit : unit_of_op s op ≡ Some unit
  pub texts : CarriesTexts op

-- an operation that adds an item finds a serial for it
abbrev pub HasSerial : List Held → Op → Type 0
HasSerial records (ops.Enq unit item) = (serial : ℕ) × IsNewSerial records serial
HasSerial records _ = Unit {0}

-- Nothing so far has a later epoch than this entry, and the written records have its epoch.
pub record AreNewest (records written : List Held) (history : List Entry) (e : Entry) : Type 0 where
  pub records_before : All (λ (r : Held). r.label.epoch ≤ e.epoch) records
  pub written_at : All (λ (w : Held). w.label.epoch ≡ e.epoch) written
  pub entries_before : All (λ (d : Entry). d.epoch ≤ e.epoch) history

-- ---- laws
-- The effects of an operation lead to the state after it.
abbrev pub LeadOn : Type 0
LeadOn =
    (s : Shape) (unit : ℕ) (records written : List Held) (state : State) (op : Op)
    → IsOpOf s unit op → HasStructure s unit records state
    → AreEffects unit records (step state op).effects written
    → HasStructure s unit (records ++ written) (step state op).state

-- and so they do in each cut
abbrev pub LeadOnInCuts : Type 0
LeadOnInCuts =
    (s : Shape) (unit x : ℕ) (base : State) (records written : List Held)
    → (history : List Entry) (e : Entry) → IsOpOf s unit e.op → AreNewest records written history e
    → AreEffects unit records (step (state_after base history) e.op).effects written
    → FollowsHistory s unit base x records history
    → FollowsHistory s unit base x (records ++ written) (history ++ e ∷ [])

-- The effects of an operation may be judged at once, or one after the other.
abbrev pub JudgedInTurn : Type 0
JudgedInTurn =
    (unit : ℕ) (records written : List Held) (state : State) (op : Op)
    → AreEffects unit records (step state op).effects written
    ↔ AreEffectsInTurn unit records (step state op).effects written

-- records of an epoch in these slots
pub record AreWrittenAt (epoch : ℕ) (slots : List ℕ) (written : List Held) : Type 0 where
  pub in_slots : map (λ (w : Held). w.slot) written ≡ slots
  pub at_epoch : All (λ (w : Held). w.label.epoch ≡ epoch) written

-- Each operation's effects can be written, in any slots and at any epoch.
abbrev pub CanBeWritten : Type 0
CanBeWritten =
    (s : Shape) (unit epoch : ℕ) (slots : List ℕ) (records : List Held) (state : State) (op : Op)
    → HasSerial records op → HasStructure s unit records state
    → length slots ≡ length (step state op).effects
    → (written : List Held) × AreWrittenAt epoch slots written
    × AreEffects unit records (step state op).effects written
