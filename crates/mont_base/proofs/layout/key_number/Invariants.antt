use Rattle.std.proofs.Common.{◌≡◌, ◌%◌, take}
use Rattle.mont_base.specs.Layout.{key_number}
use Rattle.mont_base.proofs.layout.key_number.Given as goal

-- the number of the bytes so far, or one with the same remainder
abbrev pub invariant-loop-byte : goal.invariant-loop-byte
invariant-loop-byte l = record {
  spelled : l.byte-items ≡ l.key;
  number : l.number % l.maps ≡ key_number l.maps (take l.byte-index l.byte-items);
}
