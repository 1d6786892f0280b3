use Rattle.std.proofs.Common.{◌≡◌, ◌≤◌, ◌++◌, length, take}
use Rattle.std.specs.List.{All, flat_map}
use Rattle.mont_base.specs.declared.constants.TheConstants.{TEXT_BYTES}
use Rattle.job_text.specs.Spelling.{byte_word}
use Rattle.job_text.proofs.TextWords.{IsByte}
use Rattle.job_text.proofs.text_word.text.Given as goal

-- the word is the spelling of the bytes so far, and goes on with the rest
abbrev pub invariant-loop-rest : goal.invariant-loop-rest
invariant-loop-rest l = (l.fn.word ≡ flat_map byte_word (take l.len l.held) ++ l.rest) × (l.len ≤ TEXT_BYTES) × (length l.held ≡ TEXT_BYTES)
    × All IsByte (take l.len l.held)

abbrev pub decreases-loop-rest : goal.decreases-loop-rest
decreases-loop-rest l = length l.rest
