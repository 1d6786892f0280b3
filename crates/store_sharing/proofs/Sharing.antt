-- A store may be shared by threads: what stands behind its locks may go to another thread. Each lemma is on one type, from
-- its parts upwards, since searched for at once it is beyond the prover's bounds.
use Rattle.std.proofs.Common.{ℕ}
use denote.RattleType.{RattleType}
use denote.Param.{number}
use denote.Param.Send.{IsSend, IsSync, sendable}
use denote.Param.SendFields.{declared_sync}
use Rattle.std.proofs.Crossing.{crosses}
use Rattle.std.proofs.MapsCrossing as maps
use Rattle.atomic_table.proofs.shared.Seat.TheSendSync as table
use Rattle.atomic_table.proofs.shared.Shared.TheSendSync as shared
use Rattle.atomic_table.proofs.send_lease.SendLease.TheSendSync as lease
use Rattle.heap.specs.contracts.heap.Heap as heap
use Rattle.heap_pass.specs.declared.named.HeapName as names
use Rattle.index_kit.specs.declared.index.Index as index
use Rattle.heap_pass.specs.contracts.padding.Apart as apart
use Rattle.heap_pass.specs.contracts.named.Named as named
use Rattle.std.specs.contracts.sync.Mutex as mutex
use Rattle.advance.specs.contracts.advancer.Advancer as advancer
use Rattle.plain.specs.contracts.contents.Contents as contents
use Rattle.counted_tree.proofs.tree.Tree.TheLaws.TheKnot as tree
use Rattle.heap.specs.contracts.seats.UnitSeat as seat
use Rattle.slots.specs.contracts.region.Region as region
use Rattle.slots.specs.contracts.books.Books as books
use Rattle.shard_map.specs.contracts.map_shard.MapShard as shard
use Rattle.order_index.specs.contracts.order_index.OrderIndex as order
use Rattle.pqueue.specs.contracts.pqueue.PQueue as queue
use Rattle.pgraph.specs.contracts.node.VertexNode as vertex
use Rattle.pgraph.specs.contracts.graph_index.GraphIndex as graph_index
use Rattle.pgraph.specs.contracts.pgraph.PGraph as graph
use Rattle.pordered.specs.contracts.pordered.POrdered as ordered
use Rattle.store.specs.contracts.unit_structure.Structure as structure
use Rattle.store.specs.contracts.unit_at.UnitAt as unit
use Rattle.store.specs.contracts.store.Store as store
use Rattle.store.specs.contracts.store.Store.TheInside as inside

-- ---- what may go to another thread
seat_sent : IsSend seat.the_row
seat_sent = search (sendable, crosses, table.the_send) depth 20

books_sent : IsSend books.the_row
books_sent = search (sendable, crosses) depth 80

region_sent : IsSend region.the_row
region_sent = search (sendable, crosses, seat_sent, books_sent) depth 40

order_sent : IsSend order.the_row
order_sent = search (sendable, crosses, tree.send-Tree) depth 80

shard_sent : (I : RattleType) (asks : _) → IsSend I → IsSend (shard.the_row I asks)
shard_sent I asks s = search (sendable, crosses, region_sent) depth 40

queue_sent : IsSend queue.the_row
queue_sent = search (sendable, crosses, region_sent) depth 40

vertex_sent : IsSend vertex.the_row
vertex_sent = search (sendable, crosses, maps.crosses) depth 80

index_sent : IsSend graph_index.the_row
index_sent = search (sendable, crosses, maps.crosses, vertex_sent) depth 80 fits 2000

graph_sent : IsSend graph.the_row
graph_sent = search (sendable, crosses, index_sent, region_sent) depth 80

ordered_sent : IsSend ordered.the_row
ordered_sent = search (sendable, crosses, shard_sent, order_sent) depth 40

structure_sent : (I : RattleType) (asks : _) → IsSend I → IsSend (structure.the_row I asks)
structure_sent I asks s = search (sendable, crosses, shard_sent, queue_sent, graph_sent, ordered_sent) depth 40

unit_sent : (U N I : RattleType) (name : _) (asks : _) → IsSend N → IsSend I → IsSend (unit.the_row U N I name asks)
unit_sent U N I name asks n s = search (sendable, crosses, structure_sent) depth 40

advancer_sent : IsSend advancer.the_row
advancer_sent = search (sendable, crosses, table.the_send) depth 40

-- ---- what may be shared
heap_shared : IsSync heap.the_row
heap_shared = search (sendable, crosses, shared.the_sync, lease.the_sync) depth 60

contents_shared : IsSync contents.the_row
contents_shared = search (sendable, crosses, maps.crosses) depth 60

apart_shared : (T : RattleType) → IsSync T → IsSync (apart.the_row T)
apart_shared T s = search (sendable, crosses) depth 40

clock_shared : (N : RattleType) (name : _) (of : _) → IsSend N → IsSync (mutex.the_row (named.the_row N advancer.the_row name of))
clock_shared N name of n = search (sendable, crosses, advancer_sent) depth 40

module _ (N I : RattleType) (name : names.Ghosts N.Denot) (asks : index.Ghosts I.Denot) (n : IsSend N) (s : IsSend I) where
  lock : (k : ℕ) → IsSync (apart.the_row (mutex.the_row (unit.the_row (number k) N I name asks)))
  lock k = search (apart_shared, crosses, unit_sent) depth 40

  -- the heap, the clock at which it opened, sixteen locks, the advancer's, the base
  inside_shared : IsSync (inside.the_row N I name asks)
  inside_shared = declared_sync (inside.the_type N I name asks) (
    heap_shared,
    (
      search (apart_shared, sendable) depth 20,
      (
        lock 0,
        (
          lock 1,
          (
            lock 2,
            (
              lock 3,
              (
                lock 4,
                (
                  lock 5,
                  (
                    lock 6,
                    (
                      lock 7,
                      (
                        lock 8,
                        (
                          lock 9,
                          (
                            lock 10,
                            (
                              lock 11,
                              (
                                lock 12,
                                (
                                  lock 13,
                                  (
                                    lock 14,
                                    (
                                      lock 15,
                                      (clock_shared N name _ n, (contents_shared, tt)),
                                    ),
                                  ),
                                ),
                              ),
                            ),
                          ),
                        ),
                      ),
                    ),
                  ),
                ),
              ),
            ),
          ),
        ),
      ),
    ),
  )

  pub store_shared : IsSync (store.the_row N I name asks)
  store_shared = search (sendable, inside_shared) depth 20
