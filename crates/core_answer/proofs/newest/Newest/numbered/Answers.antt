use Rattle.std.proofs.Common.{◌≡◌, sym, subst, arith}
use Rattle.std.specs.BTreeMap.{values}
use Rattle.std.proofs.lemmas.Grind.{common_steps}
use Rattle.mont_laws.specs.Records.{AreApart}
use Rattle.core_answer.specs.Newest.{numbered}
use Rattle.core_answer.proofs.NumberedRecords.{numbered_apart}
use Rattle.core_answer.proofs.newest.Newest.numbered.Goals as goal

pub returns-clause-apart : goal.returns-clause-apart
returns-clause-apart c =
    let m = c.args.self.now.records in
    let all : c.loop-newest.held.items ≡ numbered 0 (values m) = grind (arith, common_steps) in
    subst AreApart (sym all) (numbered_apart m c.len-records.ensures.ordered c.args.self.now.keyed)
