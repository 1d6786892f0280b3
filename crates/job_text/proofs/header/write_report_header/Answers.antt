use Rattle.std.proofs.Common.{append_assoc}
use Rattle.job_text.proofs.header.write_report_header.Goals as goal

pub returns : goal.returns
returns c =
    simp append_assoc (rw (c.as_slice.ensures.value, c.kinds-kinds.ensures.value, c.slots-slots.ensures.value) at c.writeln.ensures.bytes)
