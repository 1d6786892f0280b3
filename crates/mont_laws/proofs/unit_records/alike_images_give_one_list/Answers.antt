use Rattle.mont_laws.proofs.UnitRecords.{alike_images_give_one_list}
use Rattle.mont_laws.proofs.unit_records.alike_images_give_one_list.Goals as goal

pub returns : goal.returns
returns c = alike_images_give_one_list
