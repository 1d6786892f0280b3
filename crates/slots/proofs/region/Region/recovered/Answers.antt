use Rattle.slots.proofs.Found.{found_region}
use Rattle.slots.proofs.region.Region.recovered.Goals as goal

pub returns-clause-agrees : goal.returns-clause-agrees
returns-clause-agrees c = found_region c.args.layout c.args.unit c.in_ok-books.ensures.layout c.requires.inside c.args.records.now
    c.args.lost.now c.requires.found c.args.seat c.in_ok-books.books c.requires.of_unit c.requires.begins c.in_ok-books.ensures.books
