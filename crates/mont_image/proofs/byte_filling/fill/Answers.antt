use Rattle.std.proofs.Common.{◌-◌, ◌++◌, take, length, arith, ◌∙◌, length-append}
use Rattle.std.proofs.lemmas.List.{length-take-le}
use borrow.Rule.Slice.PartMut.{post_of}
use Rattle.mont_image.proofs.Filling.{filled_more}
use Rattle.mont_image.proofs.byte_filling.fill.Goals as goal

pub loop-count-preserved : goal.loop-count-preserved
loop-count-preserved g c =
    let i = c.loop-count.invariant in
    let left = g.S.Source.left in
    record {
      taken =
          filled_more (left c.args.source.now) (left c.loop-count.source) (left c.read.new.self) c.loop-count.buf c.read.new.buf
          c.loop-count.count c.in_ok-given.given
          (length c.loop-count.buf - c.loop-count.count) i.taken c.in_ok-given.ensures.bytes.0 i.bound
          c.in_ok-given.ensures.bound;
      kept = c.in_ok-given.ensures.cause.kept ∙ i.kept;
      bound =
          let front = length-take-le c.loop-count.count c.loop-count.buf i.bound in
          omega (
            arith,
            length-append (take c.loop-count.count c.loop-count.buf)
                (c.read.new.buf ++ post_of c.loop-count.count (length c.loop-count.buf - c.loop-count.count) c.loop-count.buf),
            length-append c.read.new.buf (post_of c.loop-count.count (length c.loop-count.buf - c.loop-count.count) c.loop-count.buf),
            c.in_ok-given.ensures.bound,
          );
    }
