use Rattle.std.proofs.Common.{ap, sym, ◌∙◌, rules, tests}
use Rattle.std.specs.Prelude.{not, ◌&&◌, ◌==◌}
use Rattle.std.specs.List.{list_any}
use Rattle.std.proofs.lemmas.Iterator.{YieldsList-from_slice}
use Rattle.std.proofs.lemmas.Iterator.Search.{any_from_yields_List}
use Rattle.core_run.proofs.advancing.is_new_odd.Goals as goal

pub returns-then-is_odd : goal.returns-then-is_odd
returns-then-is_odd c =
    let found = any_from_yields_List (λ v. v == c.args.unit) _ _ c.any.result c.any.ensures.ran
    (YieldsList-from_slice c.args.odd.now cc) (λ x b q k. search (rules, tests)) in
    let odd = c.is_odd.ensures in
    let yes = c.if-is_odd.true in
    ap not found ∙ ap (λ b. b && not (list_any (λ v. v == c.args.unit) c.args.odd.now)) (sym yes ∙ odd)
