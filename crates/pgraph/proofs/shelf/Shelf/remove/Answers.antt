use Rattle.std.proofs.Common.{None, ap, sym, refl, ◌∙◌}
use Rattle.pgraph.proofs.Shelved.{found_by_order, updates_by_order, remove_shelved, kept, value_kept, sets_value, others_kept, not_others}
use Rattle.pgraph.proofs.shelf.Shelf.remove.Goals as goal

pub returns-in_err-key-clause-value : goal.returns-in_err-key-clause-value
returns-in_err-key-clause-value g c =
    c.from_residual.ensures
    ∙ sym (value_kept c.self.inside.values c.self.inside.keys.entries c.self.invariant c.args.self.now c.self.view_is c.args.name
    ∙ ap (kept c.self.inside.values) (sym (c.remove.ensures.value ∙ found_by_order _ _ g.met.K.Ord.matches_eq _ _)
    ∙ c.in_err-key.was))

pub returns-clause-value : goal.returns-clause-value
returns-clause-value g c =
    c.try_remove.ensures.value
    ∙ sym (value_kept c.self.inside.values c.self.inside.keys.entries c.self.invariant c.args.self.now c.self.view_is c.args.name
    ∙ ap (kept c.self.inside.values) (sym (c.remove.ensures.value ∙ found_by_order _ _ g.met.K.Ord.matches_eq _ _)
    ∙ c.in_ok-key.was))

pub returns-in_err-key-clause-taken : goal.returns-in_err-key-clause-taken
returns-in_err-key-clause-taken g c =
    sets_value c.self.inside.values c.self.inside.values c.self.inside.keys.entries c.remove.new.self.entries c.args.name None None
    c.self.invariant
    (updates_by_order _ _ g.met.K.Ord.matches_eq _ _ _ _ c.remove.ensures.updates.0)
    (λ q f. refl) refl (λ h. h) c.args.self.now c.self.view_is

pub returns-clause-taken : goal.returns-clause-taken
returns-clause-taken g c =
    sets_value c.self.inside.values c.try_remove.new.self c.self.inside.keys.entries c.remove.new.self.entries c.args.name None None
    c.self.invariant
    (updates_by_order _ _ g.met.K.Ord.matches_eq _ _ _ _ c.remove.ensures.updates.0)
    (λ q f. others_kept c.self.inside.values c.try_remove.new.self c.in_ok-key.key None c.try_remove.ensures.updates _
    (not_others c.self.inside.values c.self.inside.keys.entries c.self.invariant c.args.name c.in_ok-key.key
    (sym (c.remove.ensures.value ∙ found_by_order _ _ g.met.K.Ord.matches_eq _ _)
    ∙ c.in_ok-key.was) q f))
    refl (λ h. h) c.args.self.now c.self.view_is

pub invariant_of-self-2 : goal.invariant_of-self-2
invariant_of-self-2 g c =
    remove_shelved c.self.inside.values c.try_remove.new.self c.self.inside.keys.entries c.remove.new.self.entries c.args.name
    c.self.invariant
    (updates_by_order _ _ g.met.K.Ord.matches_eq _ _ _ _ c.remove.ensures.updates.0)
    (λ q f. others_kept c.self.inside.values c.try_remove.new.self c.in_ok-key.key None c.try_remove.ensures.updates _
    (not_others c.self.inside.values c.self.inside.keys.entries c.self.invariant c.args.name c.in_ok-key.key
    (sym (c.remove.ensures.value ∙ found_by_order _ _ g.met.K.Ord.matches_eq _ _)
    ∙ c.in_ok-key.was) q f))
