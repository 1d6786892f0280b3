-- How a verdict is told.
use Rattle.std.specs.Prelude.{ℕ, List, ◌++◌, codes, decimal}
use Rattle.image_units.specs.FaultWords.{fault_words}
use Rattle.report_check.specs.declared.verdict.Verdict.{Verdict}
use Rattle.report_check.specs.declared.verdict.Verdict.TheVariants as verdicts

abbrev pub verdict_words : Verdict → List ℕ
verdict_words verdicts.Layout = codes "no layout"
verdict_words (verdicts.History unit place) =
    codes "no history " ++ decimal unit ++ codes " " ++ decimal place
verdict_words (verdicts.Outcome caller line) =
    codes "no outcome " ++ decimal caller ++ codes " " ++ decimal line
verdict_words (verdicts.Unnamed unit place) =
    codes "no unnamed " ++ decimal unit ++ codes " " ++ decimal place
verdict_words (verdicts.Image fault) = codes "no image " ++ fault_words fault
verdict_words (verdicts.Clock clock) = codes "no clock " ++ decimal clock
verdict_words (verdicts.Contents unit) = codes "no contents " ++ decimal unit
verdict_words verdicts.Yes = codes "yes"
