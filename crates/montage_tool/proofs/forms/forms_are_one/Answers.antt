use Rattle.montage_tool.proofs.FormWords.{same_form}
use Rattle.montage_tool.proofs.forms.forms_are_one.Goals as goal

pub returns : goal.returns
returns c = same_form
