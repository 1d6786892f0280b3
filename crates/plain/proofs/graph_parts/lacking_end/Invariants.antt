use Rattle.std.proofs.Common.{◌≡◌, drop}
use Rattle.std.specs.Ordering.{nat_cmp}
use Rattle.mont_base.specs.Structure.{vertex_at, end_fault}
use Rattle.plain.specs.Built.{HasNamed}
use Rattle.plain.proofs.graph_parts.lacking_end.Given as goal

-- no edge so far lacks an end
abbrev pub invariant-loop-object : goal.invariant-loop-object
invariant-loop-object l = HasNamed nat_cmp vertex_at l.vertices l.objects
    → end_fault l.objects (drop l.object-index l.objects) ≡ end_fault l.objects l.objects
