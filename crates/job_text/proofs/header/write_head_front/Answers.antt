use Rattle.job_text.proofs.header.write_head_front.Goals as goal

pub returns : goal.returns
returns c = rw (c.as_slice.ensures.value, c.kinds-kinds.ensures.value, c.slots-slots.ensures.value) at c.in_ok-write.ensures.bytes
