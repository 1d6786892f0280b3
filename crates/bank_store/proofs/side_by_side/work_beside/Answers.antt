use denote.Param.Send.{sendable}
use Rattle.std.proofs.Crossing.{crosses}
use Rattle.store_sharing.proofs.Sharing.{store_shared}
use Rattle.bank_store.proofs.side_by_side.work_beside.Goals as goal

pub join_mut-requires-send-F : goal.join_mut-requires-send-F
join_mut-requires-send-F g c κs within = search (sendable, crosses, store_shared) depth 40
