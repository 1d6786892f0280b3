use Rattle.std.proofs.Common.{◌≡◌, ◌-◌, ◌^◌, min, drop}
use Rattle.mont_base.specs.declared.constants.TheConstants.{TEXT_BYTES}
use Rattle.job_text.specs.Ranks.{texts_of, texts_behind}
use Rattle.job_text.proofs.ranks.texts_behind.Given as goal

-- so many texts have room after a place, and so many of them stand after what the text has there
abbrev pub invariant-loop-room : goal.invariant-loop-room
invariant-loop-room l =
    (l.count ≡ min (texts_of l.room) (2 ^ 64 - 1)) × (l.behind ≡ min (texts_behind l.room (drop (TEXT_BYTES - l.room) l.text)) (2 ^ 64 - 1))
