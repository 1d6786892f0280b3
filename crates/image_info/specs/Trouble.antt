-- Why nothing is shown, or not all of it, and with which exit code a process ends.
use Rattle.std.specs.Prelude.{ℕ, Option, Some, None, Result, Ok, Err}
use Rattle.image_units.specs.declared.image_fault.ImageFault.{ImageFault}
use Rattle.image_units.specs.Refusals.{fault_of_bytes}
use Rattle.mont_image.specs.declared.image_refusal.ImageRefusal.{ImageRefusal}
use Rattle.source_bytes.specs.declared.read_refusal.ReadRefusal.{ReadRefusal}
use Rattle.source_bytes.specs.declared.read_refusal.ReadRefusal.TheVariants as reading
use Rattle.image_info.specs.declared.trouble.Trouble.{Trouble}
use Rattle.image_info.specs.declared.trouble.Trouble.TheVariants.{Read, Write, NoImage, Memory}

abbrev pub exit_code_of : Result (Unit {0}) Trouble → ℕ
exit_code_of (Ok shown) = 0
exit_code_of (Err Read) = 5
exit_code_of (Err Write) = 6
exit_code_of (Err Memory) = 7
exit_code_of (Err (NoImage fault)) = 10

-- of bytes that couldn't be read
abbrev pub trouble_of_reading : ReadRefusal → Trouble
trouble_of_reading reading.Read = Read
trouble_of_reading reading.Memory = Memory

-- of bytes that were read: their fault, if they have one
abbrev pub trouble_of_fault : Option ImageFault → Trouble
trouble_of_fault (Some fault) = NoImage fault
trouble_of_fault None = Memory

abbrev pub trouble_of_bytes : ImageRefusal → Trouble
trouble_of_bytes refusal = trouble_of_fault (fault_of_bytes refusal)
