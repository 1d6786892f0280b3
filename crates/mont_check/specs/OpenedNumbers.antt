-- What the records with which a unit was opened tell of its numbers.
use Rattle.std.specs.Prelude.{◌≡◌, List}
use Rattle.mont_base.specs.declared.record.Held.{Held}
use Rattle.mont_base.specs.Versions.{live_objects}
use Rattle.mont_base.specs.Counting.{greatest_by, identity_of, serial_of}
use Rattle.mont_check.specs.declared.opened_numbers.Opening.{Opening}

pub record IsOpening (records : List Held) (o : Opening) : Type 0 where
  pub identity : o.identity ≡ greatest_by identity_of records
  pub serial : o.serial ≡ greatest_by serial_of (live_objects records)
  pub objects : o.objects.items ≡ live_objects records
