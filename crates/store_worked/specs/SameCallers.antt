-- The caller of a ticket.
use Rattle.std.specs.Prelude.{◌≡◌}
use Rattle.heap.specs.HeapShown.{CallerShown}

-- a ticket is still of the same caller of the same heap
pub record IsSameCaller (q r : CallerShown) : Type 0 where
  pub table : r.table ≡ q.table
  pub caller : r.known.caller ≡ q.known.caller
