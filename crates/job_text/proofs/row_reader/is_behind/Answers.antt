use Rattle.job_text.proofs.KeyRanks.{text_below, first_below}
use Rattle.job_text.proofs.row_reader.is_behind.Goals as goal

pub returns-in-Some : goal.returns-in-Some
returns-in-Some c = text_below c.args.last c.in-Some.last c.args.key.now c.lt.result c.in-Some.is c.requires.last c.requires.key
    c.lt.ensures

pub returns-in-None : goal.returns-in-None
returns-in-None c = first_below c.args.last c.args.key.now c.in-None.is c.requires.key
