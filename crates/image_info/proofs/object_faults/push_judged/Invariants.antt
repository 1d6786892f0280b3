use Rattle.std.proofs.Common.{◌≡◌, ◌++◌, take}
use Rattle.image_info.specs.AllFaults.{judged}
use Rattle.image_info.proofs.object_faults.push_judged.Given as goal

-- the objects so far were judged
abbrev pub invariant-loop-object : goal.invariant-loop-object
invariant-loop-object g l = record {
  knows : g.J.Judge.knows l.judge (take l.object-index l.objects);
  same : g.J.Judge.fault_of l.judge ≡ g.J.Judge.fault_of l.fn.judge;
  told : l.faults.items
      ≡ l.initial.faults.items ++ judged l.unit (g.J.Judge.fault_of l.fn.judge) (take l.object-index l.objects);
}
