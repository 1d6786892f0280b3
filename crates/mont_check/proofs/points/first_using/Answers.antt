use Rattle.std.proofs.Common.{◌≡◌, ◌<◌, get_or, ltb, rules, subst, arith}
use Rattle.std.proofs.lemmas.Bool.{ltb-true}
use Rattle.std.proofs.lemmas.List.Sorted.{IsPartitionPoint-from_clause, IsPartitionedBy-ltb}
use Rattle.std.proofs.lemmas.Option.{get_or_from_slice_get}
use Rattle.mont_check.specs.declared.points.Point.{Point}
use Rattle.mont_check.proofs.points.first_using.Goals as goal

pub returns : goal.returns
returns c n p low at =
    let xs = c.args.points.now in
    let here : get_or xs n p ≡ p = get_or_from_slice_get xs n p p at in
    let by_live =
    IsPartitionPoint-from_clause (λ (q : Point). ltb q.live c.args.used) xs c.partition_point-by_live.result
    c.partition_point-by_live.ensures.partitioned (IsPartitionedBy-ltb (λ (q : Point). q.live) xs c.args.used c.requires.live)
    (λ a r q k. search rules) in
    let by_taken =
    IsPartitionPoint-from_clause (λ (q : Point). ltb q.taken c.saturating_add-taken.result) xs c.partition_point-by_taken.result
    c.partition_point-by_taken.ensures.partitioned
    (IsPartitionedBy-ltb (λ (q : Point). q.taken) xs c.saturating_add-taken.result c.requires.taken) (λ a r q k. search rules) in
    let live =
    subst (λ (q : Point). q.live < c.args.used) here (ltb-true (get_or xs n p).live c.args.used
    (by_live.0 n p (omega arith) (omega arith))) in
    let taken =
    subst (λ (q : Point). q.taken < c.saturating_add-taken.result) here
    (ltb-true (get_or xs n p).taken c.saturating_add-taken.result (by_taken.0 n p (omega arith) (omega arith))) in
    (live, omega arith)
