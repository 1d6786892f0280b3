use Rattle.std.proofs.Common.{ap, sym, ◌∙◌}
use Rattle.std.specs.Option.{option_copied}
use Rattle.pgraph.proofs.Shelved.{found_by_order, kept, value_kept}
use Rattle.pgraph.proofs.shelf.Shelf.get.Goals as goal

pub returns-in_err-key : goal.returns-in_err-key
returns-in_err-key g c =
    ap option_copied c.from_residual.ensures
    ∙ sym (value_kept c.self.inside.values c.self.inside.keys.entries c.self.invariant c.args.self.now c.self.view_is c.args.name
    ∙ ap (kept c.self.inside.values) (sym (c.get.ensures.value ∙ found_by_order _ _ g.met.K.Ord.matches_eq _ _)
    ∙ ap option_copied c.in_err-key.was))

pub returns : goal.returns
returns g c =
    c.get-2.ensures
    ∙ sym (value_kept c.self.inside.values c.self.inside.keys.entries c.self.invariant c.args.self.now c.self.view_is c.args.name
    ∙ ap (kept c.self.inside.values) (sym (c.get.ensures.value ∙ found_by_order _ _ g.met.K.Ord.matches_eq _ _)
    ∙ ap option_copied c.in_ok-key.was))
