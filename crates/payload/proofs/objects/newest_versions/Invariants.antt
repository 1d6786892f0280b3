use Rattle.std.proofs.Common.{take}
use Rattle.payload.specs.NewestVersions.{HasNewest}
use Rattle.payload.proofs.objects.newest_versions.Given as goal

abbrev pub invariant-loop-held : goal.invariant-loop-held
invariant-loop-held l = HasNewest l.newest (take l.held-index l.records)
