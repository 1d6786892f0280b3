-- The callers so far are ready, and the others are new.
use Rattle.std.proofs.Common.{◌≡◌, ℕ, ◌+◌, ◌<◌, List, length, map}
use Rattle.std.specs.Prelude.{Option, All}
use Rattle.mont_base.specs.declared.operation.Receipt.{Receipt}
use Rattle.heap_rule.specs.Views.{note_of_caller}
use Rattle.heap.specs.HeapShown.{CallerShown}
use Rattle.store.specs.Store.{IsFirstPass}
use Rattle.bank_store.specs.BankCallers.{IsOpener}
use Rattle.bank_store.specs.OpenedAccounts.{KnowsOpening, puts_given}
use Rattle.bank_store.proofs.ReadyTellers.{AreReadyBelow, new_callers}
use Rattle.bank_store.proofs.readying.ready_tellers.Given as goal

abbrev pub invariant-loop-pass : goal.invariant-loop-pass
invariant-loop-pass g l =
    (ends : List (Option Receipt)) × (opener : CallerShown) × (n : ℕ) × (q : CallerShown)
    × IsOpener g.N.HeapName.heap ends opener
    × (0 < length l.tellers.items)
    × (length l.tellers.items + n ≡ 4)
    × (map (λ p. p.ticket) l.pass-iterator.rest.items ≡ new_callers g.N.HeapName.heap (length l.tellers.items) n)
    × All (IsFirstPass g.N.HeapName.heap) l.pass-iterator.rest.items
    × AreReadyBelow g.N.HeapName.heap l.fn.number ends opener l.tellers.items
    × (l.news ≡ record { table = g.N.HeapName.heap.table; known = note_of_caller q.known })
    × KnowsOpening q.known (puts_given ends)
