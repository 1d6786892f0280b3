use Rattle.std.proofs.Common.{rules, tests, ◌==◌}
use Rattle.std.proofs.lemmas.Iterator.{YieldsList-from_slice}
use Rattle.std.proofs.lemmas.Iterator.Consumers.{YieldsList-from_copied}
use Rattle.std.proofs.lemmas.Iterator.Search.{find_from_yields_List}
use Rattle.mont_base.specs.Layout.{code_of, kinds_all}
use Rattle.mont_base.proofs.KindTable.{searched}
use Rattle.mont_base.proofs.kinds.UnitKind.of_code.Goals as goal

pub returns : goal.returns
returns c =
    searched code_of c.args.code c.find.result
    (find_from_yields_List (λ k. code_of k == c.args.code) _ _ c.find.result c.find.ensures.ran
    (YieldsList-from_copied (YieldsList-from_slice kinds_all (search rules))) (λ x b q k. search (rules, tests)))
