-- When a report continues what a caller has seen.
use Rattle.std.specs.Prelude.{◌≡◌, ℕ, ◌≤◌, true}
use Rattle.mont_base.specs.declared.constants.TheConstants.{LAST}
use Rattle.mont_base.specs.Image.{clock_of, IsRecovered}
use Rattle.core_steps.specs.declared.parts.Mark.{Mark}
use Rattle.core_steps.specs.Notes.{NamesCaller}
use Rattle.heap_rule.specs.declared.rule.Opening.{Opening}
use Rattle.heap_rule.specs.declared.views.CallerKnown.{CallerKnown}
use Rattle.heap_rule.specs.SeenEntries.{AreFronts}
use Rattle.caller.specs.Telling.{has_mark}
use Rattle.job_text.specs.Causes.{WasCutIn}
use Rattle.job_text.specs.Report.{Report}

-- ---- a caller and a report
-- By the report, a caller was cut in the unit, and it is the one that the mark names, if it names
-- one.
pub record IsCutAsMarked (t : Report) (m : Mark) : Type 0 where
  pub by : ℕ
  pub named : NamesCaller m.by by
  pub cut : WasCutIn t by m.unit

-- The report is of a store that opened so. The entries that the caller has seen of each unit are
-- the first of its history, the image's clock isn't below a durable one that the caller knows, and
-- the caller's marks are true.
pub record Continues (o : Opening) (t : Report) (q : CallerKnown) : Type 0 where
  pub layout : t.layout ≡ o.layout
  pub base_clock : t.base_clock ≡ clock_of o.words
  pub base : IsRecovered o.layout o.words t.base
  pub seen : AreFronts t.histories q.entries
  pub durable : q.part.durable ≤ t.image_clock
  pub last : t.image_clock ≤ LAST
  pub marks : (m : Mark) → has_mark q.part.marks m ≡ true → IsCutAsMarked t m
