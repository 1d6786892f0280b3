use Rattle.std.proofs.Common.{◌≡◌, map, take}
use Rattle.mont_base.specs.State.{empty_state}
use Rattle.plain.specs.States.{state_of}
use Rattle.plain.proofs.contents.Contents.empty.Given as goal

-- the units so far have nothing in them
abbrev pub invariant-loop-kind : goal.invariant-loop-kind
invariant-loop-kind l = map state_of l.units ≡ map empty_state (take l.kind-index l.kind-items)
