use Rattle.mont_laws.proofs.Cuts.{images_have_cuts}
use Rattle.mont_laws.proofs.unit_records.images_have_cuts.Goals as goal

pub returns : goal.returns
returns c = images_have_cuts
