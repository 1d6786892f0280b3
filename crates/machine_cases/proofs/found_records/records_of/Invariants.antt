use Rattle.machine_cases.proofs.FoundRecords.{AreRecordsBelow}
use Rattle.machine_cases.proofs.found_records.records_of.Given as goal

abbrev pub invariant-loop-slot : goal.invariant-loop-slot
invariant-loop-slot l = AreRecordsBelow l.region l.slot l.records.items
