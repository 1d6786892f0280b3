use Rattle.std.proofs.Common.{append_assoc}
use Rattle.job_text.proofs.contents_text.write_contents_header.Goals as goal

pub returns : goal.returns
returns c =
    simp append_assoc (rw (c.as_slice.ensures.value, c.kinds-kinds.ensures.value, c.slots-slots.ensures.value) at c.writeln.ensures.bytes)
