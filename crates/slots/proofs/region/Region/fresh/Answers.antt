use Rattle.slots.proofs.Opens.{fresh_region}
use Rattle.slots.proofs.region.Region.fresh.Goals as goal

pub returns-clause-agrees : goal.returns-clause-agrees
returns-clause-agrees c = fresh_region c.args.layout c.args.unit c.in_ok-books.ensures.layout c.requires.inside c.args.seat
    c.in_ok-books.books c.requires.of_unit c.requires.begins c.in_ok-books.ensures.books
