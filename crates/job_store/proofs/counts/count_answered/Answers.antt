use Rattle.std.proofs.Common.{◌≤◌, length, ap, sym, subst, arith}
use Rattle.std.specs.Prelude.{count_by}
use Rattle.std.proofs.lemmas.List.Sums.{count_by-le-length, sum_by_more_le_part}
use Rattle.job_text.specs.Outcomes.{is_at}
use Rattle.job_store.proofs.counts.count_answered.Goals as goal

pub overflow_add-count : goal.overflow_add-count
overflow_add-count c =
    let l = c.loop-of_caller in
    let outcomes = c.args.outcomes.now in
    let item = c.of_caller-item.result in
    let most = sum_by_more_le_part (λ os. count_by is_at os) (λ os. length os) outcomes l.of_caller-index item
    (let t = c.loop-of_caller-test.true in omega (arith, t)) (λ os. count_by-le-length is_at os) in
    let so_far = l.invariant in
    let one = c.answered_by_one-count.ensures in
    let few = c.requires.few in
    let small = subst (λ os. count_by is_at os ≤ length item) (sym c.as_slice.ensures) (count_by-le-length is_at item) in
    let same = ap (λ os. length os) c.of_caller-item.is in
    omega (arith, so_far, most, one, few, small, same)
