use Rattle.mont_laws.proofs.SlotReadings.{records_are_read_back}
use Rattle.mont_laws.proofs.slot_readings.records_are_read_back.Goals as goal

pub returns : goal.returns
returns c = records_are_read_back
