use Rattle.report_check.proofs.shown_names.ShownNames.next_entry.Goals as goal

pub returns-in_default-clause-entry : goal.returns-in_default-clause-entry
returns-in_default-clause-entry c e is = c.in_default.ensures.entry e is.there
