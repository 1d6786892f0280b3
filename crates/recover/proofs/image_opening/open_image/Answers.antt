use Rattle.std.proofs.Common.{refl}
use Rattle.recover.proofs.Dealt.{recovery_opened}
use Rattle.recover.proofs.LostTotal.{opened_lost}
use Rattle.recover.proofs.image_opening.open_image.Goals as goal

pub invariant_of-result : goal.invariant_of-result
invariant_of-result c =
    recovery_opened (record { layout = c.args.layout; words = c.args.words.now; callers = c.args.callers }) c.in_ok-heap.heap
    c.in_ok-heap.seats.units.items c.in_ok-heap.seats.advancer c.in_ok-heap.seats.callers.items c.in_ok-regions.regions.items
    c.args.found _ _ c.in_ok-heap.ensures c.requires.accepted c.requires.found c.in_ok-objects.ensures refl c.requires.callers.0
    c.in_ok-regions.ensures.many c.in_ok-regions.ensures.opened

pub returns-clause-unswept : goal.returns-clause-unswept
returns-clause-unswept c =
    opened_lost (record { layout = c.args.layout; words = c.args.words.now; callers = c.args.callers }) c.in_ok-heap.heap
    c.in_ok-regions.regions.items c.in_ok-heap.ensures.opening c.in_ok-regions.ensures.many c.in_ok-regions.ensures.opened
