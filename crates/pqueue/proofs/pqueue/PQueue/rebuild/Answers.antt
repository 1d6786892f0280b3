use Rattle.pqueue.proofs.Rebuilds.{rebuilt}
use Rattle.pqueue.proofs.pqueue.PQueue.rebuild.Goals as goal

pub invariant_of-result : goal.invariant_of-result
invariant_of-result c = rebuilt c.args.region c.args.objects.now c.in_ok-items.items.items c.from_vec.result.items c.requires.agrees
    c.requires.of_queue c.requires.objects c.requires.structure c.in_ok-items.ensures.same c.in_ok-items.ensures.rising
    c.from_vec.ensures.items

pub returns-clause-items : goal.returns-clause-items
returns-clause-items c = (rebuilt c.args.region c.args.objects.now c.in_ok-items.items.items c.from_vec.result.items c.requires.agrees
    c.requires.of_queue c.requires.objects c.requires.structure c.in_ok-items.ensures.same c.in_ok-items.ensures.rising
    c.from_vec.ensures.items).holds
