-- A record that isn't written whole.
use Rattle.std.specs.Prelude.{◌≡◌, ℕ, zero, suc, ◌+◌, ◌/◌, replicate, slice_index, slice_set, unwrap_or}
use Rattle.mont_base.specs.declared.constants.TheConstants.{BODY}
use Rattle.mont_base.specs.declared.record.Held.{Held}
use Rattle.mont_base.specs.declared.record.Kind.{Kind}
use Rattle.mont_base.specs.declared.record.Kind.TheVariants as kinds
use Rattle.mont_base.specs.Record.{kind_of_number}
use Rattle.mont_laws.specs.SlotReadings.{held_words, IsRecordOf}
use Rattle.core_steps.specs.Storing.{front_of}

-- A record of the unit of which the change shows the epoch and the first n fields after it, and of
-- which the value is the next one.
pub record ShowsNext (unit : ℕ) (change : Held) (n value : ℕ) (whole : Held) : Type 0 where
  pub valid : IsRecordOf unit whole
  pub before : change ≡ front_of whole n
  pub stores : value ≡ slice_index (held_words whole) (n + 1)

-- there is one in this slot and of this epoch
pub record GoesOn (unit slot epoch : ℕ) (change : Held) (n value : ℕ) : Type 0 where
  pub whole : Held
  pub in_slot : whole.slot ≡ slot
  pub of_epoch : whole.label.epoch ≡ epoch
  pub shows : ShowsNext unit change n value whole

-- ---- the record that has what is shown, the value after it, and else the least words
abbrev pub least_version : Kind → ℕ
least_version kinds.New = 1
least_version kinds.Copy = 2
least_version kinds.Delete = 2

abbrev pub kind_in : ℕ → Kind
kind_in value = unwrap_or (kind_of_number (value / 256)) kinds.New

abbrev pub first_label : ℕ → ℕ → Kind → ℕ → ℕ → ℕ → Held
first_label unit slot kind epoch identity version = record {
  slot = slot;
  label = record {
    epoch = epoch;
    kind = kind;
    unit = unit;
    identity = identity;
    version = version;
  };
  body = replicate BODY 0;
}

abbrev pub completion : ℕ → ℕ → ℕ → Held → ℕ → ℕ → Held
completion unit slot epoch change zero value =
    first_label unit slot (kind_in value) epoch 1 (least_version (kind_in value))
completion unit slot epoch change (suc zero) value =
    first_label unit slot change.label.kind epoch value (least_version change.label.kind)
completion unit slot epoch change (suc (suc zero)) value =
    first_label unit slot change.label.kind epoch change.label.identity value
completion unit slot epoch change (suc (suc (suc m))) value = record {
  slot = slot;
  label = record {
    epoch = epoch;
    kind = change.label.kind;
    unit = unit;
    identity = change.label.identity;
    version = change.label.version;
  };
  body = slice_set change.body m value;
}
