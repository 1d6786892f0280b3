use Rattle.std.proofs.Common.{sym, subst}
use Rattle.mont_base.specs.Image.{IsWellFormed}
use Rattle.mont_base.specs.Layout.{Shape}
use Rattle.bank_store.proofs.Refused.{only_memory}
use Rattle.bank_store.proofs.bank_contents.contents_left.Goals as goal

pub out_of_memory-requires : goal.out_of_memory-requires
out_of_memory-requires g c =
    let image = c.args.image.now in
    only_memory image.layout image.words c.in-Err.why c.in-Err.ensures.refused
    (subst (λ (s : Shape). IsWellFormed s image.words) (sym c.requires.layout) (c.requires.accepts image.words c.requires.permitted))
