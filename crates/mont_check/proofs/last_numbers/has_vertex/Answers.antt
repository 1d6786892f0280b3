use Rattle.std.proofs.Common.{◌∙◌, sym, ap}
use Rattle.std.specs.Cmp.{unsigned_ties}
use Rattle.std.specs.Ordering.{eq_by_cmp, nat_cmp}
use Rattle.mont_base.specs.Structure.{names}
use Rattle.mont_check.proofs.last_numbers.has_vertex.Goals as goal

pub returns-in-Some : goal.returns-in-Some
returns-in-Some c =
    unsigned_ties c.args.vertex c.in-Some.held
    ∙ sym (ap (names (eq_by_cmp nat_cmp c.args.vertex)) (sym c.vertex_in.ensures.exact ∙ c.in-Some.is))
