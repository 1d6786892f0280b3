use Rattle.std.proofs.Common.{◌≡◌, ℕ, take}
use Rattle.std.specs.BTreeMap as tree
use Rattle.image_units.specs.FoundVersions.{HasNoRepeat}
use Rattle.image_units.proofs.FirstRepeats.{slot_of_version, version_cmp}
use Rattle.image_units.proofs.found_versions.check_versions.Given as goal

-- the slots of the versions so far, of which none stood twice
abbrev pub invariant-loop-held : goal.invariant-loop-held
invariant-loop-held l = record {
  seen : (q : ℕ × ℕ × ℕ) → tree.get version_cmp l.seen q ≡ slot_of_version q (take l.held-index l.records);
  apart : HasNoRepeat (take l.held-index l.records);
}
