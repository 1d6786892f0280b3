-- A seat that a flush changed twice.
use Rattle.std.proofs.Common.{◌≡◌, ap, ◌∙◌}
use Rattle.heap.specs.HeapShown.{AdvShown}
use Rattle.write_back.specs.Flush.{with_flush_of}

pub stays_more : (x y z : AdvShown) → y ≡ record { table = x.table; known = with_flush_of x.known y.known }
    → z ≡ record { table = y.table; known = with_flush_of y.known z.known }
    → z ≡ record { table = x.table; known = with_flush_of x.known z.known }
stays_more x y z one other =
    other
    ∙ ap (λ (s : AdvShown). let t : AdvShown = record { table = s.table; known = with_flush_of s.known z.known } in t) one
