-- The core that recovery opens with.
use Rattle.std.specs.Prelude.{◌≡◌, ◌↔◌, ℕ, ◌<◌, nat_lt, List, [], length, map, replicate, AllPairs, None}
use Rattle.std.specs.List.{Contains, filter, range_with_len}
use Rattle.std.specs.FinMap as finite
use Rattle.mont_base.specs.declared.record.Held.{Held}
use Rattle.mont_base.specs.Layout.{Shape, units_of, unit_of_slot}
use Rattle.mont_base.specs.Image.{clock_of, cut_of, epoch_at, slots_of, records_of, IsWellFormed, IsRecovered}
use Rattle.mont_base.specs.State.{State, edge_cmp}
use Rattle.mont_laws.specs.declared.retiring.Retired.{Retired}
use Rattle.mont_laws.specs.Records.{AreSameRecords}
use Rattle.mont_laws.specs.Retiring.{IsBelow, retired_among}
use Rattle.core_steps.specs.declared.parts.Core.{Core}
use Rattle.core_steps.specs.declared.parts.UnitPart.{UnitPart}
use Rattle.core_steps.specs.declared.parts.UnitStage.TheVariants.{Idle}
use Rattle.core_steps.specs.declared.parts.AdvPart.TheVariants.{Rest}
use Rattle.core_steps.specs.Places.{EachAt}
use Rattle.core_steps.specs.Fresh.{fresh_caller}
use Rattle.core_steps.specs.Sound.{Base, IsSound}

-- the queue of found records: by rising identity and version
pub record IsFoundQueue (records : List Held) (queue : List Retired) : Type 0 where
  pub sorted : List Held
  pub rising : AllPairs IsBelow sorted
  pub same : AreSameRecords records sorted
  pub is : queue ≡ retired_among sorted

-- slots that are open beyond the cut, by rising number
pub record AreLeftOpen (s : Shape) (image : List ℕ) (u : ℕ) (lost : List ℕ) : Type 0 where
  pub members : (slot : ℕ)
      → Contains lost slot ↔ ((unit_of_slot s slot ≡ u) × (cut_of image < epoch_at image slot))
  pub rising : AllPairs (λ (slot other : ℕ). slot < other) lost

pub record IsRecoveredUnit (s : Shape) (image : List ℕ) (u : ℕ) (p : UnitPart) : Type 0 where
  pub stage : p.stage ≡ Idle
  pub history : p.history ≡ []
  pub records : p.records ≡ records_of s image u
  pub retired : IsFoundQueue p.records p.retired
  pub written : p.written ≡ []
  pub writing : p.writing ≡ None
  pub lost : AreLeftOpen s image u p.lost
  pub durable : p.durable ≡ 0
  pub frozen : p.frozen ≡ None

-- Both memories are the image, and nobody did anything yet.
pub record IsRecoveredCore (s : Shape) (image : List ℕ) (callers : ℕ) (c : Core) : Type 0 where
  pub layout : c.layout ≡ s
  pub current : c.cur ≡ image
  pub durable : c.dur ≡ image
  pub told : c.told ≡ replicate (units_of s) 0
  pub unit_count : length c.units ≡ units_of s
  pub units : EachAt (IsRecoveredUnit s image) c.units
  pub advancer : c.advancer ≡ Rest
  pub odd : c.odd ≡ []
  pub caller_parts : c.callers ≡ replicate callers (fresh_caller (units_of s))

-- ---- the core of an image
-- a version of an identity
abbrev pub version_of : Held → ℕ × ℕ
version_of r = (r.label.identity, r.label.version)

-- the records by rising identity, and those of one identity by rising version
abbrev pub versions_in : List Held → finite.FinMap edge_cmp Held
versions_in records = finite.from_entries (map (λ (r : Held). (version_of r, r)) records)

abbrev pub by_version : List Held → List Held
by_version records = finite.values (versions_in records)

-- a unit's slots that are open beyond the cut
abbrev pub slots_beyond : Shape → List ℕ → ℕ → List ℕ
slots_beyond s image u =
    filter (λ (slot : ℕ). nat_lt (cut_of image) (epoch_at image slot)) (slots_of s u)

abbrev pub recovered_unit : Shape → List ℕ → ℕ → UnitPart
recovered_unit s image u = record {
  stage = Idle;
  history = [];
  records = records_of s image u;
  retired = retired_among (by_version (records_of s image u));
  written = [];
  writing = None;
  lost = slots_beyond s image u;
  durable = 0;
  frozen = None;
}

abbrev pub recovered : Shape → List ℕ → ℕ → Core
recovered s image callers = record {
  layout = s;
  cur = image;
  dur = image;
  told = replicate (units_of s) 0;
  units = map (recovered_unit s image) (range_with_len 0 (units_of s));
  advancer = Rest;
  odd = [];
  callers = replicate callers (fresh_caller (units_of s));
}

-- ---- laws
-- an image that recovery accepts has structures, and a core that recovery opens with
abbrev pub ImagesAreRecovered : Type 0
ImagesAreRecovered =
    (s : Shape) (image : List ℕ) (callers : ℕ) → IsWellFormed s image
    → IsRecoveredCore s image callers (recovered s image callers)
    × ((states : List State) × IsRecovered s image states)

abbrev pub opened_at : ℕ → List State → Base
opened_at clock states = record { clock = clock; states = states }

-- what recovery rebuilds of an image is the base of the core that it opens with
abbrev pub RecoveredCoresAreSound : Type 0
RecoveredCoresAreSound =
    (s : Shape) (image : List ℕ) (states : List State) (callers : ℕ) (c : Core)
    → IsWellFormed s image → IsRecovered s image states → IsRecoveredCore s image callers c
    → IsSound (opened_at (clock_of image) states) c
