use Rattle.std.proofs.Common.{refl, sym, ◌∙◌}
use Rattle.std.specs.declared.alloc.AllocError.{AllocError}
use Rattle.mont_base.specs.declared.record.ObjectFault.TheVariants.{Key}
use Rattle.mont_base.specs.Structure.{pair_at, map_fault}
use Rattle.plain.proofs.Maps.{keys_total, keys_differ}
use Rattle.plain.proofs.Named.{adds, pair_told}
use Rattle.plain.proofs.pair_table.PairTableGather.add.Goals as goal

pub returns : goal.returns
returns c =
    let names = sym c.in-Some.ensures.exact in
    let s = c.args.self.now.layout in
    let unit = c.args.self.now.unit in
    let h = adds keys_total pair_at {E = AllocError} keys_differ
    (λ lower. map_fault s unit lower c.args.object.now) Key _ _ _ _ _ _ c.is_some-stood.result c.then_some.result
    names c.in_ok-insert.ensures.old c.is_some-stood.ensures c.then_some.ensures c.in_ok-insert.ensures.updates.0
    (λ lower. pair_told lower s unit _ _ _ names (sym c.keeps.ensures ∙ c.if-not-keeps.false)) in
    record { fault = h.fault; added = h.added; same = refl }
