use Rattle.std.specs.Cmp.Lexicographic.{bytes_decides}
use Rattle.std.proofs.lemmas.Bool.Decides.{Decides-and}
use Rattle.std.proofs.lemmas.Slice.Eq.{slice_eq-Decides}
use Rattle.report_check.proofs.run_left.same_pairs.Goals as goal

pub returns : goal.returns
returns c =
    slice_eq-Decides
    (λ p q.
    let both = Decides-and _ _ (bytes_decides p.0 q.0) (bytes_decides p.1 q.1) in
    (λ yes. let is = both.0 yes in λ i. (is.0 i, is.1 i), λ e. both.1 ((λ i. (e i).0), (λ i. (e i).1)))) c.args.a.now c.args.b.now
    c.eq.result c.eq.ensures
