use Rattle.std.proofs.Common.{◌≡◌, ℕ, ◌+◌, ◌<◌, leb, rules, length-drop, get_or, false, subst, sym, arith}
use Rattle.std.proofs.lemmas.Bool.Decides.{nat_tests}
use Rattle.std.proofs.lemmas.List.{get_or-drop}
use Rattle.std.proofs.lemmas.List.Sorted.{IsPartitionPoint-from_clause, IsPartitionedBy-leb}
use Rattle.mont_check.specs.declared.asked.Asked.{Asked}
use Rattle.mont_check.proofs.questions.begun_by.Goals as goal

above : (m n : ℕ) → leb m n ≡ false → n < m
above m n failed = grind (arith, nat_tests)

pub returns : goal.returns
returns c =
    let xs = c.args.waiting.now in
    let i = c.partition_point.result in
    let at =
    IsPartitionPoint-from_clause (λ (a : Asked). leb a.start c.args.point) xs i c.partition_point.ensures.partitioned
    (IsPartitionedBy-leb (λ (a : Asked). a.start) xs c.args.point c.requires) (λ a r q k. search rules) in
    record {
      few = c.partition_point.ensures.bound;
      later = λ k d low.
          let within = length-drop i xs in
          let failed : leb (get_or xs (i + k) d).start c.args.point ≡ false = at.1 (i + k) d (omega arith) (omega arith) in
          subst (λ (a : Asked). c.args.point < a.start) (sym (get_or-drop i xs k d))
          (above (get_or xs (i + k) d).start c.args.point failed);
    }
