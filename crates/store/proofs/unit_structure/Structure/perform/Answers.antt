use Rattle.std.proofs.Common.{sym, ap, ◌∙◌}
use Rattle.mont_base.specs.Layout.{is_of_kind, kind_of}
use Rattle.store.specs.UnitAt.{region_of, structure_kind}
use Rattle.store.proofs.AskedKeys.{asks_key}
use Rattle.store.proofs.unit_structure.Structure.perform.Goals as goal

pub perform-requires-clause-key : goal.perform-requires-clause-key
perform-requires-clause-key g c =
    let layout = c.args.heap.now.opening.layout in
    let unit = (region_of c.args.self.now).books.unit in
    asks_key layout unit
    (ap (λ s. is_of_kind (kind_of layout unit) (structure_kind s)) (sym c.in-Map.is) ∙ c.requires.kind)
    c.args.op.now c.requires.op.of_unit
