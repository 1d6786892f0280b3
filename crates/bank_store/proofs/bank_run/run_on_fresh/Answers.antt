use Rattle.std.proofs.Common.{sym, ap, ◌∙◌}
use Rattle.heap_rule.specs.declared.rule.Opening.{Opening}
use Rattle.bank_store.proofs.FirstTellers.{new_tickets}
use Rattle.bank_store.proofs.bank_run.run_on_fresh.Goals as goal

pub fresh-requires-clause-gates : goal.fresh-requires-clause-gates
fresh-requires-clause-gates g c =
    c.in_ok-gates.ensures ∙ sym (ap (λ (o : Opening). o.callers) c.requires.opening)

pub run_and_stop-requires-clause-tickets : goal.run_and_stop-requires-clause-tickets
run_and_stop-requires-clause-tickets g c κs within =
    new_tickets g.N.HeapName.heap _ c.args.seats.callers.items c.in_ok-store.ensures.tickets c.requires.opens.each_caller
