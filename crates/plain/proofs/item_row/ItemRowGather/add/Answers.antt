use Rattle.std.proofs.Common.{◌≡◌, true, refl, sym, ◌∙◌, rules}
use Rattle.std.specs.Cmp.{nat_cmp_total}
use Rattle.std.specs.FinMap.{nat_cmp-IsAntisymmetric}
use Rattle.std.specs.declared.alloc.AllocError.{AllocError}
use Rattle.mont_base.specs.declared.record.ObjectFault.TheVariants.{Serial}
use Rattle.mont_base.specs.Structure.{item_at, queue_fault, is_serial}
use Rattle.plain.proofs.Named.{adds, item_told}
use Rattle.plain.proofs.item_row.ItemRowGather.add.Goals as goal

pub returns : goal.returns
returns c =
    let names = sym c.item_in.ensures.exact ∙ c.in-Some.is in
    let serial : is_serial c.in-Some.serial ≡ true = search rules in
    let h = adds nat_cmp_total item_at {E = AllocError} nat_cmp-IsAntisymmetric
    (λ lower. queue_fault lower c.args.object.now) Serial _ _ _ _ _ _ c.is_some-stood.result c.then_some.result
    names c.in_ok-insert.ensures.old c.is_some-stood.ensures c.then_some.ensures c.in_ok-insert.ensures.updates.0
    (λ lower. item_told lower _ _ _ names serial) in
    record { fault = h.fault; added = h.added; same = refl }
