use Rattle.std.proofs.Common.{ap}
use Rattle.heap_rule.specs.declared.rule.Opening.{Opening}
use Rattle.bank_store.proofs.TellersBehind.{all_between, all_tables, passes_all, passes_shifted, passes_whole}
use Rattle.bank_store.proofs.side_by_side.run_tellers.Goals as goal

pub ready_tellers-requires-clause-layout : goal.ready_tellers-requires-clause-layout
ready_tellers-requires-clause-layout g c = ap (λ (o : Opening). o.layout) c.requires.opening

pub all_worked-behind-requires-clause-layout : goal.all_worked-behind-requires-clause-layout
all_worked-behind-requires-clause-layout g c κs within = ap (λ (o : Opening). o.layout) c.requires.opening

pub all_worked-behind-requires-clause-pass : goal.all_worked-behind-requires-clause-pass
all_worked-behind-requires-clause-pass g c κs within =
    all_tables g.N.HeapName.heap c.args.number c.in_ok-ready.ready.items c.in_ok-ready.ensures

pub all_worked-behind-requires-clause-between : goal.all_worked-behind-requires-clause-between
all_worked-behind-requires-clause-between g c κs within =
    all_between g.N.HeapName.heap c.args.number c.in_ok-ready.ready.items c.in_ok-ready.ensures

pub returns-clause-callers : goal.returns-clause-callers
returns-clause-callers g c =
    passes_all g.N.HeapName.heap c.args.number c.in_ok-ready.ready.items c.all_worked-behind.result.items c.in_ok-ready.ensures
    c.all_worked-behind.ensures (λ ps. ps.items) c.passes_of.result c.passes_of.ensures.passes c.passes_of.ensures.made c.requires.opening

pub returns-clause-whole : goal.returns-clause-whole
returns-clause-whole g c =
    passes_whole g.N.HeapName.heap c.args.number c.in_ok-ready.ready.items c.all_worked-behind.result.items c.in_ok-ready.ensures
    c.all_worked-behind.ensures (λ ps. ps.items) c.passes_of.result c.passes_of.ensures.passes c.passes_of.ensures.made

pub returns-clause-shifted : goal.returns-clause-shifted
returns-clause-shifted g c =
    passes_shifted g.N.HeapName.heap c.args.number c.in_ok-ready.ready.items c.all_worked-behind.result.items c.in_ok-ready.ensures
    c.all_worked-behind.ensures (λ ps. ps.items) c.passes_of.result c.passes_of.ensures.passes c.passes_of.ensures.made
