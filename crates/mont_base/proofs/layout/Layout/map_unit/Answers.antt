use Rattle.std.proofs.Common.{List, sym, ap, ◌∙◌}
use Rattle.std.specs.Prelude.{slice_get}
use Rattle.std.proofs.lemmas.List.{drop_all}
use Rattle.mont_base.specs.declared.kinds.UnitKind.{UnitKind}
use Rattle.mont_base.specs.declared.kinds.UnitKind.TheVariants as kinds
use Rattle.mont_base.specs.Layout.{units_from, map_units}
use Rattle.mont_base.proofs.Units.{absent}
use Rattle.mont_base.proofs.layout.Layout.map_unit.Goals as goal

-- after the last unit every map unit was passed
pub unreachable-requires : goal.unreachable-requires
unreachable-requires c =
    let items = c.as_slice-kind-items.result.now in
    let rest = drop_all c.loop-unit.unit items c.loop-unit-test.false in
    let none =
    ap (λ (ks : List UnitKind). slice_get (units_from c.loop-unit.unit kinds.Map ks) c.loop-unit.left) (sym rest)
    ∙ c.loop-unit.invariant in
    let same = ap (λ (ks : List UnitKind). units_from 0 kinds.Map ks) c.as_slice-kind-items.ensures.value ∙ ap map_units c.self.view_is in
    absent (map_units c.args.self.now) c.args.number c.requires (sym (none ∙ ap (λ us. slice_get us c.args.number) same))
