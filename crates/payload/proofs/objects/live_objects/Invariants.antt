use Rattle.std.proofs.Common.{◌≡◌, take, map}
use Rattle.std.specs.List.{filter}
use Rattle.mont_base.specs.Versions.{is_live, object_of}
use Rattle.payload.proofs.objects.live_objects.Given as goal

-- the live ones of the records so far
abbrev pub invariant-loop-held : goal.invariant-loop-held
invariant-loop-held l = l.live.items ≡ map object_of (filter (is_live l.records) (take l.held-index l.records))
