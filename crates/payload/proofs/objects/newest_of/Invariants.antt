use Rattle.std.proofs.Common.{◌≡◌, drop}
use Rattle.mont_base.specs.Versions.{later_of, newest_of}
use Rattle.payload.proofs.objects.newest_of.Given as goal

-- the newest so far, and of the records that are left
abbrev pub invariant-loop-held : goal.invariant-loop-held
invariant-loop-held l =
    later_of l.newest (newest_of l.identity (drop l.held-index l.records)) ≡ newest_of l.identity l.records
