use Rattle.std.proofs.Common.{◌≡◌, map}
use Rattle.store_stop.proofs.closed_stores.tickets_of.Given as goal

abbrev pub invariant-loop-pass : goal.invariant-loop-pass
invariant-loop-pass g l = l.tickets.items ≡ map (λ p. p.ticket) l.yielded
