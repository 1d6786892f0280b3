use Rattle.std.proofs.Common.{◌≡◌, refl, sym, ap, ◌∙◌}
use Rattle.std.specs.Prelude.{Option, Some, None, OnSome}
use Rattle.std.specs.Option.{option_copied}
use Rattle.pgraph.specs.Shelf.{value_of}
use Rattle.pgraph.proofs.Shelved.{found_by_order, kept, value_kept, written_sets}
use Rattle.pgraph.proofs.shelf.Shelf.get_mut.Goals as goal

on_some : {A P : Type 0} (o : Option A) → P → OnSome o P
on_some None p = tt
on_some (Some x) p = p

pub returns-in_err-key : goal.returns-in_err-key
returns-in_err-key g c = rw c.from_residual.ensures (
  (refl, λ w. tt, c.self.view_is),
  record {
    lends = tt;
    value = sym (value_kept c.self.inside.values c.self.inside.keys.entries c.self.invariant c.args.self.now c.self.view_is c.args.name
        ∙ ap (kept c.self.inside.values) (sym (c.get.ensures.value ∙ found_by_order _ _ g.met.K.Ord.matches_eq _ _)
        ∙ ap option_copied c.in_err-key.was));
  },
)

pub returns : goal.returns
returns g c =
    let values = c.self.inside.values in
    let es = c.self.inside.keys.entries in
    let key = c.in_ok-key.field-0.now in
    let has : value_of g.K.Ord.cmp es c.args.name ≡ Some key =
    sym (c.get.ensures.value ∙ found_by_order _ _ g.met.K.Ord.matches_eq _ _) ∙ ap option_copied c.in_ok-key.was in (
      (
        refl,
        λ w. on_some c.get_mut.result (written_sets g.met.K.Ord.total values es c.self.invariant c.args.name key has w c.args.self.now
            c.self.view_is),
        c.self.view_is,
      ),
      record {
        lends = tt;
        value = c.get_mut.ensures.value ∙ sym (value_kept values es c.self.invariant c.args.self.now c.self.view_is c.args.name
            ∙ ap (kept values) has);
      },
    )
