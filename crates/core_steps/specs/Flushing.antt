-- Which slots an advance writes back, and how the advancer does it, word by word.
use Rattle.std.specs.Prelude.{ℕ, zero, suc, ◌+◌, ◌-◌, Bool, true, false, ◌==◌, nat_lt, List, min, map, filter, slice_index, slice_set, if◌then◌else◌}
use Rattle.std.specs.List.{flat_map}
use Rattle.mont_base.specs.declared.constants.TheConstants.{FIELDS}
use Rattle.mont_base.specs.declared.record.Held.{Held}
use Rattle.mont_base.specs.Layout.{word_of}
use Rattle.core_steps.specs.declared.parts.Core.{Core}
use Rattle.core_steps.specs.declared.parts.UnitPart.{UnitPart}
use Rattle.core_steps.specs.declared.parts.AdvPart.{AdvPart}
use Rattle.core_steps.specs.declared.parts.AdvPart.TheVariants.{Flushing, Holding}
use Rattle.core_steps.specs.Clock.{clock, greatest_word}

-- a unit's list for an epoch: the slots of its records of that epoch, in their order
abbrev pub unit_list : ℕ → UnitPart → List ℕ
unit_list x p = map (λ (r : Held). r.slot) (filter (λ (r : Held). r.label.epoch == x) p.records)

-- the lists of all units, one after the other
abbrev pub all_listed : ℕ → List UnitPart → List ℕ
all_listed x units = flat_map (unit_list x) units

-- the slots that an advance writes back are those of the epoch before the clock
abbrev pub flush_list : Core → List ℕ
flush_list c = all_listed (clock c - 1) c.units

-- ---- LoadWord, where n slots are to be written back
abbrev pub can_load_word : ℕ → AdvPart → Bool
can_load_word n (Flushing done field) = nat_lt done n
can_load_word n _ = false

abbrev pub after_load_word : List ℕ → List ℕ → AdvPart → AdvPart
after_load_word slots cur (Flushing done field) =
    Holding done field (slice_index cur (word_of (slice_index slots done) field))
after_load_word slots cur a = a

abbrev pub load_word : Core → Core
load_word c = record c { advancer = after_load_word (flush_list c) c.cur c.advancer }

-- ---- PersistWord
abbrev pub can_persist_word : AdvPart → Bool
can_persist_word (Holding done field value) = true
can_persist_word _ = false

-- the field after this one; the number of slots that are done stays a word
abbrev pub behind_field : ℕ → ℕ → AdvPart
behind_field done field =
    if nat_lt (field + 1) FIELDS then Flushing done (field + 1)
    else Flushing (min (done + 1) greatest_word) 0

abbrev pub after_persist_word : AdvPart → AdvPart
after_persist_word (Holding done field value) = behind_field done field
after_persist_word a = a

abbrev pub words_persisted : List ℕ → List ℕ → AdvPart → List ℕ
words_persisted slots dur (Holding done field value) =
    slice_set dur (word_of (slice_index slots done) field) value
words_persisted slots dur a = dur

abbrev pub persist_word : Core → Core
persist_word c = record c {
  dur = words_persisted (flush_list c) c.dur c.advancer;
  advancer = after_persist_word c.advancer;
}

-- ---- all n slots are written back
abbrev pub is_flushed : ℕ → AdvPart → Bool
is_flushed n (Flushing done zero) = done == n
is_flushed n (Flushing done (suc field)) = false
is_flushed n _ = false
