use Rattle.std.proofs.Common.{◌≡◌, ◌≤◌, ◌++◌, refl, arith, length, drop, ◌∙◌, length-append, length-drop}
use Rattle.std.proofs.lemmas.List.{length-take-le}
use Rattle.source_bytes.proofs.BytesRead.{consumes_none, consumes_piece, lost_piece}
use Rattle.source_bytes.proofs.bounded.read_at_most.Goals as goal

pub loop-chunk-init : goal.loop-chunk-init
loop-chunk-init g c = (
  consumes_none (g.S.Source.left c.args.source.now) c.new-bytes.result.items c.new-bytes.ensures.items,
  refl,
  omega (arith, c.new-bytes.ensures.len),
  refl,
)

pub loop-chunk-preserved : goal.loop-chunk-preserved
loop-chunk-preserved g c =
    let i = c.loop-chunk.invariant in
    let left = g.S.Source.left in
    let count = c.in_ok-count.count in
    let buf = c.read.new.buf in
    let tail = drop c.min-room.result c.loop-chunk.chunk in
    let bound : count ≤ length buf = c.in_ok-count.ensures.bound in
    let long : length buf ≡ c.min-room.result = c.read.auto.buf
    ∙ length-take-le c.min-room.result c.loop-chunk.chunk (omega (arith, i.3)) in (
      consumes_piece (left c.args.source.now) (left c.loop-chunk.source) (left c.read.new.self) c.loop-chunk.bytes.items
          c.extend_from_slice.new.self.items buf tail count i.0 c.in_ok-count.ensures.bytes.0 bound c.in_ok-extend_from_slice.ensures.items,
      c.in_ok-count.ensures.cause.kept ∙ i.1,
      omega (
        arith,
        c.in_ok-extend_from_slice.ensures.len,
        length-take-le count (buf ++ tail) (omega (arith, length-append buf tail)),
        long,
      ),
      omega (arith, long, length-append buf tail, length-drop c.min-room.result c.loop-chunk.chunk, i.3),
    )

pub returns-in_err-extend_from_slice-clause-few : goal.returns-in_err-extend_from_slice-clause-few
returns-in_err-extend_from_slice-clause-few g c =
    let i = c.loop-chunk.invariant in
    let left = g.S.Source.left in
    let buf = c.read.new.buf in
    let long : length buf ≡ c.min-room.result = c.read.auto.buf
    ∙ length-take-le c.min-room.result c.loop-chunk.chunk (omega (arith, i.3)) in
    lost_piece c.args.most (left c.args.source.now) (left c.loop-chunk.source)
    (left c.read.new.self) c.loop-chunk.bytes.items buf c.in_ok-count.count
    i.0 c.in_ok-count.ensures.bytes.0 c.in_ok-count.ensures.bound (omega (arith, long))
