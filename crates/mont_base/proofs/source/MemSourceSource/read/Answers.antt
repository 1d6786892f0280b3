use Rattle.std.proofs.Common.{◌+◌, length, drop, ap, sym, ◌∙◌, arith, length-drop}
use Rattle.mont_base.specs.Devices.{Readable}
use Rattle.mont_base.proofs.Bytes.{left_before, empty_of_length}
use Rattle.mont_base.proofs.source.MemSourceSource.read.Goals as goal

-- what was copied is the front of what was left
pub returns-clause-bytes : goal.returns-clause-bytes
returns-clause-bytes c =
    let bytes = c.self.inside.bytes.items in
    let at = c.self.inside.at in
    let count = c.min-count.result in
    let copied = c.copy_from_slice.new.self in
    let tail = drop count c.args.buf.now in (
      sym (ap (λ (r : Readable). r.left) c.self.view_is)
          ∙ left_before bytes at count copied tail c.deref-2.result.now c.deref-2.ensures.value c.copy_from_slice.ensures.after
          (omega (arith, length-drop at bytes, ap length c.deref-2.ensures.value)),
      λ none room. empty_of_length (drop (at + count) bytes)
          (omega (arith, length-drop (at + count) bytes, ap length c.deref-2.ensures.value)),
    )
