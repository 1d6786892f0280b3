use Rattle.std.proofs.Common.{List, ℕ, map, sym, subst, ◌∙◌}
use Rattle.std.specs.List.{Contains}
use Rattle.std.specs.List.Sorted.{IsStrictlyIncreasing}
use Rattle.report_drawing.specs.Lanes.{cells_of}
use Rattle.report_drawing.specs.Columns.{epochs_in}
use Rattle.report_drawing.proofs.Held.{once_held}
use Rattle.std.proofs.lemmas.List.Filters.{dedup_is}
use Rattle.std.proofs.lemmas.List.Kept.{Contains-dedup_nat, Contains-from_dedup}
use Rattle.std.proofs.lemmas.List.Sorted.{Contains-permutation, IsPermutation-sym}
use Rattle.std.proofs.lemmas.Map.Keys.{IsStrictlyIncreasing-dedup}
use Rattle.std.proofs.lemmas.Result.{MatchResult-weaker}
use Rattle.report_drawing.proofs.columns.columns_of.Goals as goal

pub returns : goal.returns
returns c =
    let is = c.as_slice.ensures.value ∙ dedup_is _ _ _ c.dedup.ensures.filtered in
    let moved = c.sort_unstable.ensures.permutation in
    let stand = c.in_ok-epochs.ensures in
    let es = c.as_slice.result.now in
    let rising : IsStrictlyIncreasing es = rw is (IsStrictlyIncreasing-dedup _ c.sort_unstable.ensures.sorted) in
    let from : (q : ℕ) → Contains es q → Contains (epochs_in c.args.report.now.base_clock c.args.report.now.image_clock
    (map cells_of c.args.lanes.now)) q =
    λ q h. subst (λ (xs : List ℕ). Contains xs q) stand
    (Contains-permutation _ _ q (IsPermutation-sym _ _ moved) (Contains-from_dedup _ _ q (rw is at h))) in
    let into : (q : ℕ) → Contains (epochs_in c.args.report.now.base_clock c.args.report.now.image_clock
    (map cells_of c.args.lanes.now)) q → Contains es q =
    λ q h. rw is (Contains-dedup_nat _ q (Contains-permutation _ _ q moved (subst (λ (xs : List ℕ). Contains xs q) (sym stand) h))) in
    MatchResult-weaker c.columns_at.result c.columns_at.ensures
    (λ columns made.
    record {
      epochs = es;
      rising = rising;
      all = λ q. (from q, into q);
      columns = made;
      once = λ q h. rw made (once_held c.args.report.now.image_clock es q rising (into q h));
    })
    (λ e t. t)
