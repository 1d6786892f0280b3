-- What refusals of other layers mean for recovery, and which faults of the image they are.
use Rattle.std.specs.Prelude.{ℕ, Option, Some, None}
use Rattle.mont_image.specs.declared.image_refusal.ImageRefusal.{ImageRefusal}
use Rattle.mont_image.specs.declared.image_refusal.ImageRefusal.TheVariants as bytes
use Rattle.plain.specs.declared.structure.BuildRefusal.{BuildRefusal}
use Rattle.plain.specs.declared.structure.BuildRefusal.TheVariants as built
use Rattle.scan.specs.declared.scanned.ScanRefusal.{ScanRefusal}
use Rattle.scan.specs.declared.scanned.ScanRefusal.TheVariants as scanned
use Rattle.image_units.specs.declared.image_fault.ImageFault.{ImageFault}
use Rattle.image_units.specs.declared.image_fault.ImageFault.TheVariants as faults
use Rattle.image_units.specs.declared.recovery_refusal.RecoverRefusal.{RecoverRefusal}
use Rattle.image_units.specs.declared.recovery_refusal.RecoverRefusal.TheVariants.{Slot, Twice, Object, Memory}

abbrev pub of_scan : ScanRefusal → RecoverRefusal
of_scan (scanned.Slot slot fault) = Slot slot fault
of_scan scanned.Memory = Memory

abbrev pub of_build : ℕ → BuildRefusal → RecoverRefusal
of_build unit (built.Object slot fault) = Object unit slot fault
of_build unit built.Memory = Memory

-- a source that failed and want of memory are no faults of the image
abbrev pub fault_of_bytes : ImageRefusal → Option ImageFault
fault_of_bytes bytes.Magic = Some faults.Magic
fault_of_bytes bytes.Version = Some faults.Version
fault_of_bytes bytes.Layout = Some faults.Layout
fault_of_bytes bytes.Clock = Some faults.Clock
fault_of_bytes (bytes.Short words) = Some (faults.Short words)
fault_of_bytes bytes.Long = Some faults.Long
fault_of_bytes bytes.Read = None
fault_of_bytes bytes.Memory = None

abbrev pub fault_of_words : RecoverRefusal → Option ImageFault
fault_of_words (Slot slot fault) = Some (faults.Slot slot fault)
fault_of_words (Twice slot other) = Some (faults.Twice slot other)
fault_of_words (Object unit slot fault) = Some (faults.Object unit slot fault)
fault_of_words Memory = None
