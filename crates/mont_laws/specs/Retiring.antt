-- The slots that wait to be closed, in the order in which they are.
use Rattle.std.specs.Prelude.{◌≡◌, ◌≢◌, ◌↔◌, ℕ, ◌+◌, ◌<◌, ◌≤◌, ◌⊎◌, ◌==◌, nat_lt, Bool, true, false, List, [], ◌∷◌, ◌++◌, Option, Some, None, All, AllPairs, sum_by, count_by, if◌then◌else◌}
use Rattle.std.specs.List.{Contains, flat_map}
use Rattle.mont_base.specs.declared.record.Held.{Held}
use Rattle.mont_laws.specs.declared.retiring.Retired.{Retired}
use Rattle.mont_base.specs.declared.effect.Effect.{Effect}
use Rattle.mont_base.specs.declared.operation.Op.{Op}
use Rattle.mont_base.specs.Layout.{Shape}
use Rattle.mont_base.specs.Room.{retires}
use Rattle.mont_base.specs.State.{State, step}
use Rattle.mont_base.specs.Versions.{is_delete, is_live, newest_of}
use Rattle.mont_laws.specs.Records.{AreApart, AreSameRecords, IsAlone, IsLaterVersion, cut_records, without_slot}
use Rattle.mont_laws.specs.Structures.{HasStructure}
use Rattle.mont_laws.specs.Effects.{AreEffects}

-- ---- by the order of closing
-- a record is the least version of its identity, and this one is the next
pub record IsLeastBefore (records : List Held) (r q : Held) : Type 0 where
  pub later : IsLaterVersion records r q
  pub next : (p : Held) → Contains records p → p.label.identity ≡ r.label.identity
      → (p ≡ r) ⊎ (q.label.version ≤ p.label.version)

-- A record is due at the epoch of the next version, and an anti-payload that is left alone at its
-- own.
abbrev pub IsDue : List Held → Held → ℕ → Type 0
IsDue records r epoch =
    ((q : Held) × IsLeastBefore records r q × (q.label.epoch ≡ epoch))
    ⊎ ((is_delete r.label.kind ≡ true) × (r.label.epoch ≡ epoch) × IsAlone records r)

-- one record of each identity, and no anti-payload
pub record AreAllLive (records : List Held) : Type 0 where
  pub kept : (r : Held) → Contains records r → is_delete r.label.kind ≡ false
  pub single : (r : Held) → Contains records r → IsAlone records r

-- the record of the slot is due
pub record IsDueAt (records : List Held) (t : Retired) : Type 0 where
  pub due_record : Held
  pub there : Contains records due_record
  pub in_slot : due_record.slot ≡ t.slot
  pub due : IsDue records due_record t.epoch

-- The retired slots of records: the first is due, and the others are the retired ones once it is
-- closed. In the end only live records are left.
abbrev pub Retires : List Held → List Retired → Type 0
Retires records [] = AreAllLive records
Retires records (t ∷ ts) = IsDueAt records t × Retires (without_slot t.slot records) ts

-- ---- by the records
abbrev pub IsIn : ℕ → List Retired → Type 0
IsIn slot [] = ⊥
IsIn slot (t ∷ ts) = (slot ≡ t.slot) ⊎ IsIn slot ts

-- one slot stands before another
abbrev pub StandsBefore : ℕ → ℕ → List Retired → Type 0
StandsBefore a b [] = ⊥
StandsBefore a b (t ∷ ts) = ((a ≡ t.slot) × IsIn b ts) ⊎ StandsBefore a b ts

abbrev pub StandOnce : List Retired → Type 0
StandOnce [] = Unit {0}
StandOnce (t ∷ ts) = (IsIn t.slot ts → ⊥) × StandOnce ts

-- the next version of a record
pub record IsSuccessor (records : List Held) (r q : Held) : Type 0 where
  pub later : IsLaterVersion records r q
  pub next : (p : Held) → Contains records p → p.label.identity ≡ r.label.identity
      → (p.label.version ≤ r.label.version) ⊎ (q.label.version ≤ p.label.version)

abbrev pub IsGreatest : List Held → Held → Type 0
IsGreatest records r =
    (p : Held) → Contains records p → p.label.identity ≡ r.label.identity
    → p.label.version ≤ r.label.version

-- the epoch of the next version, or an anti-payload's own where it is the greatest
abbrev pub IsRetireEpoch : List Held → Held → ℕ → Type 0
IsRetireEpoch records r epoch =
    ((q : Held) × IsSuccessor records r q × (q.label.epoch ≡ epoch))
    ⊎ ((is_delete r.label.kind ≡ true) × (r.label.epoch ≡ epoch) × IsGreatest records r)

-- a slot is that of a record, with its retire epoch
pub record IsRetiredRecord (records : List Held) (t : Retired) : Type 0 where
  pub retired_record : Held
  pub there : Contains records retired_record
  pub in_slot : retired_record.slot ≡ t.slot
  pub epoch : IsRetireEpoch records retired_record t.epoch

-- a record is the newest of its identity, and no anti-payload
abbrev pub IsNewestLive : List Held → Held → Type 0
IsNewestLive records r =
    (is_delete r.label.kind ≡ false) × (newest_of r.label.identity records ≡ Some r)

-- The same said of each record of the unit.
pub record AreRetired (records : List Held) (queue : List Retired) : Type 0 where
  pub each : All (IsRetiredRecord records) queue
  pub once : StandOnce queue
  -- all but the newest of each identity, and that one too where it is an anti-payload
  pub left : (r : Held) → Contains records r → IsIn r.slot queue ⊎ IsNewestLive records r
  -- by rising version
  pub order : (r q : Held) → IsLaterVersion records r q → Contains records r
      → IsIn q.slot queue → StandsBefore r.slot q.slot queue

-- ---- what is retired by written records
-- the version before it, and an anti-payload itself right after its victim
abbrev pub retired_by : Option Held → Held → List Retired
retired_by None w = []
retired_by (Some victim) w =
    record { slot = victim.slot; epoch = w.label.epoch }
    ∷ (if is_delete w.label.kind then record { slot = w.slot; epoch = w.label.epoch } ∷ [] else [])

abbrev pub retired_by_all : List Held → List Held → List Retired
retired_by_all records written =
    flat_map (λ (w : Held). retired_by (newest_of w.label.identity records) w) written

-- written records stand in slots that nothing else has
pub record HaveNewSlots (records written : List Held) : Type 0 where
  pub unused : (r w : Held) → Contains records r → Contains written w → r.slot ≢ w.slot
  pub apart : AllPairs (λ (w z : Held). w.slot ≢ z.slot) written

-- ---- what is retired among records that are found
-- records by rising identity and version
abbrev pub IsBelow : Held → Held → Type 0
IsBelow r q =
    (r.label.identity < q.label.identity)
    ⊎ ((r.label.identity ≡ q.label.identity) × (r.label.version < q.label.version))

abbrev pub retired_at_own : Held → List Retired
retired_at_own r =
    if is_delete r.label.kind then record { slot = r.slot; epoch = r.label.epoch } ∷ [] else []

abbrev pub retired_before : Held → List Held → List Retired
retired_before r [] = retired_at_own r
retired_before r (q ∷ qs) =
    if q.label.identity == r.label.identity
    then record { slot = r.slot; epoch = q.label.epoch } ∷ []
    else retired_at_own r

-- in this order
abbrev pub retired_among : List Held → List Retired
retired_among [] = []
retired_among (r ∷ rs) = retired_before r rs ++ retired_among rs

-- ---- how many were retired with an epoch above x - 2
abbrev pub is_late : ℕ → Retired → Bool
is_late x t = nat_lt x (t.epoch + 2)

abbrev pub count_late : ℕ → List Retired → ℕ
count_late x queue = count_by (is_late x) queue

-- ---- laws
-- records show the same in a cut
abbrev pub ShowSameAt : Shape → ℕ → ℕ → List Held → List Held → Type 0
ShowSameAt s unit x records others =
    (state : State)
    → HasStructure s unit (cut_records x records) state
    ↔ HasStructure s unit (cut_records x others) state

-- The first retired record makes no difference from its epoch on, and once it is closed the others
-- are retired.
abbrev pub FirstCanClose : Type 0
FirstCanClose =
    (s : Shape) (unit x : ℕ) (records : List Held) (t : Retired) (ts : List Retired)
    → AreApart records → Retires records (t ∷ ts) → t.epoch ≤ x
    → AreApart (without_slot t.slot records) × Retires (without_slot t.slot records) ts
    × ShowSameAt s unit x (without_slot t.slot records) records

-- Written records keep the records apart, and retire what they follow after all others.
abbrev pub WrittenRetire : Type 0
WrittenRetire =
    (unit : ℕ) (records written : List Held) (queue : List Retired) (state : State) (op : Op)
    → AreApart records → HaveNewSlots records written
    → AreEffects unit records (step state op).effects written → Retires records queue
    → AreApart (records ++ written)
    × Retires (records ++ written) (queue ++ retired_by_all records written)

-- Found records are retired by rising identity and version.
abbrev pub FoundRetire : Type 0
FoundRetire =
    (records sorted : List Held) → AreApart records → AllPairs IsBelow sorted
    → AreSameRecords records sorted → Retires records (retired_among sorted)

-- The records of one identity retire by rising version, each at the epoch of the next, and only a
-- greatest one that is no anti-payload is left.
abbrev pub RetireByVersion : Type 0
RetireByVersion =
    (records : List Held) (queue : List Retired) → AreApart records
    → Retires records queue ↔ AreRetired records queue

-- the live records are those that aren't retired
abbrev pub LiveAreLeft : Type 0
LiveAreLeft =
    (records : List Held) (queue : List Retired) (r : Held)
    → AreApart records → Retires records queue → Contains records r
    → (is_live records r ≡ true) ↔ (IsIn r.slot queue → ⊥)

-- Written records of one epoch retire as many as their effects do.
abbrev pub RetireAsMany : Type 0
RetireAsMany =
    (unit x epoch : ℕ) (records written : List Held) (effects : List Effect) (queue : List Retired)
    → AreEffects unit records effects written → All (λ (w : Held). w.label.epoch ≡ epoch) written
    → count_late x (queue ++ retired_by_all records written)
    ≡ count_late x queue + (if nat_lt x (epoch + 2) then sum_by retires effects else 0)
