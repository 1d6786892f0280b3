use Rattle.plain.proofs.Acceptable.{apart_by_count}
use Rattle.plain.proofs.acceptance.are_apart.Goals as goal

pub returns : goal.returns
returns c = apart_by_count c.args.held.now c.in_ok-versions_of.field-0 c.len.result c.in_ok-versions_of.ensures c.len.ensures.len
