-- The steps by which the advancer writes a slot back, and what its gate was asked before each.
use Rattle.std.specs.Prelude.{◌≡◌, ℕ, zero, suc, ◌+◌, ◌<◌, ◌≤◌, ◌⊎◌, Bool, true, false, length, min}
use Rattle.mont_base.specs.declared.constants.TheConstants.{FIELDS}
use Rattle.core_steps.specs.declared.parts.AdvPart.{AdvPart}
use Rattle.core_steps.specs.declared.parts.AdvPart.TheVariants.{Flushing, Holding}
use Rattle.core_steps.specs.Clock.{greatest_word}
use Rattle.core_steps.specs.Flushing.{can_load_word, can_persist_word}
use Rattle.heap_rule.specs.declared.views.AdvKnown.{AdvKnown}
use Rattle.heap_rule.specs.Plays.{IsPlaceListed}
use Rattle.heap_rule.specs.Views.{joined, place_at_hand, field_at_hand, advancer_loaded, advancer_persisted}

-- ---- one step
-- the word at hand is loaded
pub record IsLoad (a b : AdvKnown) : Type 0 where
  pub word : ℕ
  pub may : can_load_word (length (joined a.lists)) a.part ≡ true
  pub is : b ≡ advancer_loaded a word

-- the loaded word is made durable
pub record IsPersist (a b : AdvKnown) : Type 0 where
  pub may : can_persist_word a.part ≡ true
  pub listed : IsPlaceListed a
  pub is : b ≡ advancer_persisted a

abbrev pub IsFlushStep : AdvKnown → AdvKnown → Type 0
IsFlushStep a b = IsLoad a b ⊎ IsPersist a b

-- ---- many steps
-- So many of them lead from a seat to another, with a gate before and after. The gate was asked
-- once before each, and passed it.
abbrev pub AreFlushSteps :
    {G : Type 0} → (G → G → Bool → Type 0) → ℕ → AdvKnown → G → AdvKnown → G → Type 0
AreFlushSteps asked zero a g b h = (b ≡ a) × (h ≡ g)
AreFlushSteps {G} asked (suc n) a g b h =
    (m : AdvKnown) × (i : G) × AreFlushSteps asked n a g m i × asked i h false × IsFlushStep m b

-- A call made such steps, and no other; where it was cut, its gate was asked once more, and cut.
pub record Flushes {G : Type 0} (asked : G → G → Bool → Type 0) (old : AdvKnown) (before : G)
    (new : AdvKnown) (after : G) (cut : Bool) : Type 0 where
  pub many : ℕ
  pub last : G
  pub steps : AreFlushSteps asked many old before new last
  pub passed : cut ≡ false → after ≡ last
  pub refused : cut ≡ true → asked last after true

-- ---- where the steps lead
-- they change the part, the count of steps and the word that was loaded last
abbrev pub with_hand_of : AdvKnown → AdvKnown → AdvKnown
with_hand_of a b = record a { part = b.part; steps = b.steps; loaded = b.loaded }

-- after the last word of a slot the first word of the next one is at hand
abbrev pub behind_slot : ℕ → AdvPart
behind_slot done = Flushing (min (done + 1) greatest_word) 0

-- the word at hand, where it waits to be loaded, and where it is
abbrev pub IsAt : ℕ → ℕ → AdvKnown → Type 0
IsAt done field a =
    (a.part ≡ Flushing done field) ⊎ (a.part ≡ Holding done field a.loaded)

-- a word of the same slot is at hand, not before the one that was
pub record IsWithinSlot (old new : AdvKnown) : Type 0 where
  pub field : ℕ
  pub later : field_at_hand old.part ≤ field
  pub low : field < FIELDS
  pub there : IsAt (place_at_hand old.part) field new
