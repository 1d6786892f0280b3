use Rattle.mont_laws.proofs.UnitRecords.{records_are_listed}
use Rattle.mont_laws.proofs.unit_records.records_are_listed.Goals as goal

pub returns : goal.returns
returns c = records_are_listed
