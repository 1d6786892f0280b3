use Rattle.slots.proofs.Seen.{record_is_put, record_is_valid}
use Rattle.slots.proofs.region.Region.record_by.Goals as goal

pub returns-clause-record_is : goal.returns-clause-record_is
returns-clause-record_is c = record_is_put c.args.self.now c.args.change.now c.args.epoch c.args.slot _ _ _ _ _ c.unit.ensures
    c.kind_of.ensures c.identity_of.ensures c.version_of.ensures c.body_of.ensures.words

pub returns-clause-valid : goal.returns-clause-valid
returns-clause-valid c = record_is_valid c.args.self.now c.args.change.now c.args.epoch c.args.slot _ _ _ _ _ c.unit.ensures
    c.kind_of.ensures c.identity_of.ensures c.version_of.ensures c.body_of.ensures.words c.requires.agrees
    c.requires.registered c.requires.may c.body_of.ensures.long
