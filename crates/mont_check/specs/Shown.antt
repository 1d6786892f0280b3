-- What one outcome shows, where it shows something.
use Rattle.std.specs.Prelude.{ℕ, ◌==◌, List, slice_get, Option, Some, None, if◌then◌else◌}
use Rattle.mont_base.specs.declared.operation.Entry.{Entry}
use Rattle.job_text.specs.declared.outcome.Outcome.{Outcome}
use Rattle.job_text.specs.declared.outcome.Outcome.TheVariants.{At}
use Rattle.job_text.specs.Outcomes.{place_of}

-- the epoch of the entry that it names, if the entry is there
abbrev pub entry_in : Option (List Entry) → ℕ → Option Entry
entry_in None place = None
entry_in (Some h) place = slice_get h place

abbrev pub epoch_of_entry : Option Entry → Option ℕ
epoch_of_entry None = None
epoch_of_entry (Some e) = Some e.epoch

abbrev pub epoch_in : List (List Entry) → Outcome → Option ℕ
epoch_in histories (At unit place) =
    epoch_of_entry (entry_in (slice_get histories unit) place)
epoch_in histories _ = None

-- its place, if it is one of the unit
abbrev pub only_in : ℕ → Option (ℕ × ℕ) → Option ℕ
only_in unit None = None
only_in unit (Some p) = if p.0 == unit then Some p.1 else None

abbrev pub place_in : ℕ → Outcome → Option ℕ
place_in unit o = only_in unit (place_of o)
