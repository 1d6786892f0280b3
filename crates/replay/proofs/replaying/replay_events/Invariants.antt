use Rattle.std.proofs.Common.{◌≡◌, ◌++◌, take}
use Rattle.std.specs.String.{string_bytes}
use Rattle.std.specs.List.{flat_map, enumerate_from}
use Rattle.job_text.specs.Lines.{line_of}
use Rattle.std.specs.Prelude.{map}
use Rattle.plain.specs.States.{state_of}
use Rattle.core_steps.specs.Sound.{IsSound}
use Rattle.replay.specs.NewestBeside.{AreKept}
use Rattle.replay.specs.Replays.{nothing, unit_states, fresh_core, reached, core_words}
use Rattle.replay.proofs.Reaching.{HasMade}
use Rattle.replay.proofs.replaying.replay_events.Given as goal

-- so many events were made, with a line for each; the states are those of the core
abbrev pub invariant-loop-place : goal.invariant-loop-place
invariant-loop-place l =
    HasMade l.fn.schedule l.place l.core l.runs
    × (string_bytes l.text ≡ string_bytes l.initial.text
    ++ flat_map (λ p. line_of (core_words p)) (take l.place (enumerate_from 1 (reached (fresh_core l.fn.schedule) l.fn.schedule.events))))
    × IsSound (nothing l.core.layout) l.core
    × (map state_of l.states ≡ unit_states l.core)
    × AreKept l.kept l.core.units
