use Rattle.std.proofs.Common.{rules}
use Rattle.structure_call.proofs.Notes.{was_noted}
use Rattle.structure_call.proofs.checking.take_note.Goals as goal

pub returns-clause-noted : goal.returns-clause-noted
returns-clause-noted g c = search (rules, was_noted)
