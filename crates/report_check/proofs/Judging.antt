-- What marks on a report's entries tell of their names.
use Rattle.std.proofs.Common.{ℕ, Bool, List}
use Rattle.job_text.specs.Outcomes.{times_named}
use Rattle.job_text.specs.Report.{Report}
use Rattle.report_check.specs.HeldOutcomes.{IsNamed}
use Rattle.report_check.specs.Lowest.{AllHold, IsLowestPair}
use Rattle.report_check.specs.Marks.{AreMarks, IsMarkedThere}
use Rattle.report_check.proofs.MarkLaws.{entry_marked, marked_there}

module _ (r : Report) (ms : List (List Bool)) (are : AreMarks r.histories (times_named r.outcomes) ms) where
  named_of_marked : (u p : ℕ) → IsMarkedThere ms u p → IsNamed r u p
  named_of_marked u p all e there =
      let found = marked_there r.histories (times_named r.outcomes) ms are u p e there in
      (are.each u p found.0 found.1).0 (all found.0 found.1)

  marked_of_named : (u p : ℕ) → IsNamed r u p → IsMarkedThere ms u p
  marked_of_named u p named b there =
      let found = entry_marked r.histories (times_named r.outcomes) ms are u p b there in
      (are.each u p b there).1 (named found.0 found.1)

  pub all_named : AllHold (IsMarkedThere ms) → AllHold (IsNamed r)
  all_named all u p = named_of_marked u p (all u p)

  pub first_unnamed : (u p : ℕ) → IsLowestPair (IsMarkedThere ms) u p → IsLowestPair (IsNamed r) u p
  first_unnamed u p is = record {
    lower = λ m n low. named_of_marked m n (is.lower m n low);
    before = λ n low. named_of_marked u n (is.before n low);
    fails = λ named. is.fails (marked_of_named u p named);
  }
