use Rattle.std.proofs.Common.{◌≡◌, ◌<◌, take}
use Rattle.job_text.specs.Spelling.{hex_digits}
use Rattle.job_text.proofs.Once.{places}
use Rattle.job_text.proofs.masks.mask.Given as goal

-- the bytes so far are the digits of the number so far
abbrev pub invariant-loop-byte : goal.invariant-loop-byte
invariant-loop-byte l = (l.mask < places l.byte-index) × (take l.byte-index l.word ≡ hex_digits l.byte-index l.mask)
