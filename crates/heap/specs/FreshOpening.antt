-- How a store that was never used opens.
use Rattle.std.specs.Prelude.{◌≡◌, ℕ, ◌<◌, IsTrue}
use Rattle.mont_base.specs.Layout.{Shape, units_of}
use Rattle.mont_base.specs.Image.{IsWellFormed, IsRecovered, empty_states}
use Rattle.core_steps.specs.Fresh.{fresh_words, fresh_unit, fresh}
use Rattle.core_steps.specs.Opened.{recovered}
use Rattle.heap_rule.specs.declared.rule.Opening.{Opening}
use Rattle.heap_rule.specs.Views.{first_unit, clean_at, are_clean}

abbrev pub fresh_opening : Shape → ℕ → Opening
fresh_opening s callers = record { layout = s; words = fresh_words s; callers = callers }

-- Its words are recovered with nothing in any unit, and the core that recovery opens with is the
-- fresh one.
pub record OpensEmpty (s : Shape) (callers : ℕ) : Type 0 where
  pub words : IsWellFormed s (fresh_words s)
  pub base : IsRecovered s (fresh_words s) (empty_states s)
  pub core : recovered s (fresh_words s) callers ≡ fresh s callers
  pub each_unit :
      (u : ℕ) → u < units_of s → (first_unit (fresh_opening s callers) u).part ≡ fresh_unit
  pub clean : IsTrue (are_clean (units_of s) (clean_at (fresh_opening s callers)))
