-- What the lanes of a picture show: each entry of each unit, and each outcome of each caller.
use Rattle.std.specs.Prelude.{ℕ, ◌+◌, ◌-◌, max, List, ◌++◌, Bool, true, false, ◌&&◌, nat_lt, map, take, slice_get, Option, Some, None, string_bytes}
use Rattle.std.specs.List.{fold, enumerate_from}
use Rattle.mont_base.specs.declared.operation.Entry.{Entry}
use Rattle.job_text.specs.declared.outcome.Outcome.{Outcome}
use Rattle.job_text.specs.declared.outcome.Outcome.TheVariants as outcomes
use Rattle.job_text.specs.declared.report.Report.{Report}
use Rattle.report_drawing.specs.declared.lanes.Cell.{Cell}
use Rattle.report_drawing.specs.declared.lanes.Lane.{Lane}
use Rattle.report_drawing.specs.Labels.{entry_label, outcome_label}

-- a label in the column of an epoch, grey if it is an entry that is lost
pub record Shown : Type 0 where
  pub epoch : ℕ
  pub lost : Bool
  pub label : List ℕ

-- what a crash at this clock takes
abbrev pub is_lost : ℕ → ℕ → Bool
is_lost image_clock epoch = nat_lt (image_clock - 2) epoch

-- ---- the lane of a unit: its entries in their order, each at its epoch
abbrev pub entry_shown : ℕ → Entry → Shown
entry_shown image_clock e =
    record { epoch = e.epoch; lost = is_lost image_clock e.epoch; label = entry_label e }

abbrev pub unit_lane : ℕ → List Entry → List Shown
unit_lane image_clock history = map (entry_shown image_clock) history

-- ---- the lane of a caller: its outcomes in their order, each at the epoch that it had reached
-- the epoch of an entry, if there is one
abbrev pub epoch_of : Option Entry → ℕ
epoch_of (Some e) = e.epoch
epoch_of None = 0

-- the entry at a place of a history, if there is such a history
abbrev pub epoch_in : Option (List Entry) → ℕ → ℕ
epoch_in (Some history) place = epoch_of (slice_get history place)
epoch_in None place = 0

-- the epoch of the entry that an outcome names, or the clock that it tells
abbrev pub told_epoch : List (List Entry) → Outcome → ℕ
told_epoch histories (outcomes.At unit place) = epoch_in (slice_get histories unit) place
told_epoch histories (outcomes.Synced epoch) = epoch
told_epoch histories (outcomes.Ticked epoch) = epoch
told_epoch histories _ = 0

-- the greatest of the clock at the start and of what these outcomes tell
abbrev pub reached : ℕ → List (List Entry) → List Outcome → ℕ
reached base_clock histories os =
    fold (λ epoch o. max epoch (told_epoch histories o)) base_clock os

abbrev pub is_entry : Outcome → Bool
is_entry (outcomes.At unit place) = true
is_entry _ = false

abbrev pub outcome_shown : ℕ → ℕ → Outcome → Shown
outcome_shown image_clock epoch o =
    record {
      epoch = epoch;
      lost = is_entry o && is_lost image_clock epoch;
      label = outcome_label o;
    }

abbrev pub caller_lane : Report → List Outcome → List Shown
caller_lane r os =
    map
    (λ (p : ℕ × Outcome).
    outcome_shown r.image_clock (reached r.base_clock r.histories (take (p.0 + 1) os)) p.1)
    (enumerate_from 0 os)

-- ---- the lanes of all units, and after them those of all callers
abbrev pub unit_lanes : Report → List (List Shown)
unit_lanes r = map (unit_lane r.image_clock) r.histories

abbrev pub caller_lanes : Report → List (List Shown)
caller_lanes r = map (caller_lane r) r.outcomes

abbrev pub lanes_of : Report → List (List Shown)
lanes_of r = unit_lanes r ++ caller_lanes r

-- ---- what a lane in memory shows
abbrev pub shown_of : Cell → Shown
shown_of cell = record { epoch = cell.epoch; lost = cell.lost; label = string_bytes cell.label }

abbrev pub cells_of : Lane → List Shown
cells_of lane = map shown_of lane.cells.items
