use Rattle.std.proofs.Common.{refl}
use Rattle.slots.proofs.Seen.{own_answered, room_answered, answered_is, answered_agree}
use Rattle.slots.proofs.region.Region.left.Goals as goal

pub settle-requires-clause-own : goal.settle-requires-clause-own
settle-requires-clause-own c = own_answered _ _ _ c.self.view_is c.requires

pub settle-requires-clause-room : goal.settle-requires-clause-room
settle-requires-clause-room c = room_answered _ _ _ c.self.view_is c.requires

pub returns-clause-books : goal.returns-clause-books
returns-clause-books c = answered_is _ _ _ c.self.view_is c.requires _ c.settle.ensures

pub returns-clause-agrees : goal.returns-clause-agrees
returns-clause-agrees c = answered_agree _ _ _ c.self.view_is c.requires _ _ refl c.settle.ensures
