use Rattle.std.proofs.Common.{◌≡◌, ◌++◌, ℕ, take}
use Rattle.std.specs.List.{find}
use Rattle.std.specs.Option.{option_map}
use Rattle.std.specs.BTreeMap as tree
use Rattle.image_units.proofs.FirstRepeats.{version_cmp}
use Rattle.image_info.specs.AllFaults.{is_version, repeats}
use Rattle.image_info.proofs.Repeated.{slot_of}
use Rattle.image_info.proofs.repeat_faults.push_repeats.Given as goal

-- the lowest slots of the versions so far, and the slots that repeat one
abbrev pub invariant-loop-held : goal.invariant-loop-held
invariant-loop-held l = record {
  seen : (v : ℕ × ℕ × ℕ)
      → tree.get version_cmp l.seen v ≡ option_map slot_of (find (is_version v) (take l.held-index l.records));
  told : l.faults.items ≡ l.initial.faults.items ++ repeats (take l.held-index l.records);
}
