use Rattle.heap_pass.proofs.KeptReceipts.{some_given, last_kept, last_holds}
use Rattle.pordered.proofs.pordered.POrdered.apply.Goals as goal

pub last_receipt-requires : goal.last_receipt-requires
last_receipt-requires g c = record { some = some_given c.in_ok-perform.ensures.answered c.deref.result.now c.deref.ensures.value }

pub returns-clause-answered : goal.returns-clause-answered
returns-clause-answered g c =
    last_holds c.in_ok-perform.ensures.answered c.deref.result.now c.deref.ensures.value c.last_receipt.result c.last_receipt.ensures

pub returns-clause-receipts : goal.returns-clause-receipts
returns-clause-receipts g c =
    last_kept c.in_ok-perform.ensures.answered c.deref.result.now c.deref.ensures.value c.last_receipt.result c.last_receipt.ensures
