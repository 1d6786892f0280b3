use Rattle.std.proofs.Common.{◌≡◌, true, take}
use Rattle.std.specs.List.{list_all, flat_map}
use Rattle.job_text.specs.Spelling.{is_bare, byte_word}
use Rattle.job_text.proofs.text_word.bare_word.Given as goal

-- the bytes so far stand for themselves, so they are spelled by themselves
abbrev pub invariant-loop-at : goal.invariant-loop-at
invariant-loop-at l = (list_all is_bare (take l.at l.text) ≡ true) × (flat_map byte_word (take l.at l.text) ≡ take l.at l.held)
