use Rattle.mont_laws.proofs.UnitRecords.{records_are_listed_once}
use Rattle.mont_laws.proofs.unit_records.records_are_listed_once.Goals as goal

pub returns : goal.returns
returns c = records_are_listed_once
