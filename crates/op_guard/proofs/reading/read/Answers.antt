use Rattle.heap_pass.proofs.KeptReceipts.{some_given, last_holds, last_kept}
use Rattle.op_guard.proofs.reading.read.Goals as goal

pub last_receipt-requires : goal.last_receipt-requires
last_receipt-requires g c = record { some = some_given c.in_ok-keep_read.ensures.read c.deref.result.now c.deref.ensures.value }

pub returns-clause-read : goal.returns-clause-read
returns-clause-read g c = last_holds c.in_ok-keep_read.ensures.read c.deref.result.now c.deref.ensures.value c.last_receipt.result
    c.last_receipt.ensures

pub returns-clause-receipts : goal.returns-clause-receipts
returns-clause-receipts g c = last_kept c.in_ok-keep_read.ensures.read c.deref.result.now c.deref.ensures.value c.last_receipt.result
    c.last_receipt.ensures
