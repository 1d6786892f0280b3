use Rattle.std.proofs.Common.{◌+◌, ◌-◌, ◌<◌, ◌≤◌, get_or, leb, rules, subst, arith}
use Rattle.std.proofs.lemmas.Bool.{leb-false, leb-true}
use Rattle.std.proofs.lemmas.List.Sorted.{IsPartitionPoint-from_clause, IsPartitionedBy-leb}
use Rattle.std.proofs.lemmas.Option.{get_or_from_slice_get, slice_get_within}
use Rattle.mont_base.specs.declared.operation.Entry.{Entry}
use Rattle.mont_check.proofs.PointLaws.{rises}
use Rattle.mont_check.proofs.points.settled_count.Goals as goal

pub returns : goal.returns
returns c =
    let h = c.args.history.now in
    let last = c.args.clock - 2 in
    let at =
    IsPartitionPoint-from_clause (λ (e : Entry). leb e.epoch (c.args.clock - 2)) h c.partition_point.result
    c.partition_point.ensures.partitioned
    (IsPartitionedBy-leb (λ (e : Entry). e.epoch) h (c.args.clock - 2) (rises h c.requires)) (λ a r q k. search rules) in
    record {
      there = c.partition_point.ensures.bound;
      before = λ n e low there.
          subst (λ (x : Entry). x.epoch + 2 ≤ c.args.clock) (get_or_from_slice_get h n e e there)
          (let early = leb-true (get_or h n e).epoch (c.args.clock - 2) (at.0 n e (omega arith) low) in omega arith);
      behind = λ n e high there.
          subst (λ (x : Entry). c.args.clock < x.epoch + 2) (get_or_from_slice_get h n e e there)
          (let late = leb-false (get_or h n e).epoch (c.args.clock - 2) (at.1 n e high (slice_get_within h n e there)) in omega arith);
    }
