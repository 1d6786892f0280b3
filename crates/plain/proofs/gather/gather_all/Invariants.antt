use Rattle.std.proofs.Common.{◌≡◌, [], take, drop}
use Rattle.mont_base.specs.Structure.{first_fault}
use Rattle.plain.proofs.gather.gather_all.Given as goal

-- what the objects so far hold is gathered, and none of them has a fault
abbrev pub invariant-loop-object : goal.invariant-loop-object
invariant-loop-object g l = record {
  has : g.G.Gather.has l.into (take l.object-index l.objects);
  same : g.G.Gather.fault_of l.into ≡ g.G.Gather.fault_of l.fn.into;
  sound : first_fault (g.G.Gather.fault_of l.fn.into) (take l.object-index l.objects) (drop l.object-index l.objects)
      ≡ first_fault (g.G.Gather.fault_of l.fn.into) [] l.objects;
}
