-- The clock of a core.
use Rattle.std.specs.Prelude.{ℕ, ◌+◌, ◌-◌, ◌^◌, min}
use Rattle.mont_base.specs.Image.{clock_of}
use Rattle.core_steps.specs.declared.parts.Core.{Core}

-- the clock, and the clock that would outlive a crash
abbrev pub clock : Core → ℕ
clock c = clock_of c.cur

abbrev pub durable_clock : Core → ℕ
durable_clock c = clock_of c.dur

-- the greatest number that a word can hold
abbrev pub greatest_word : ℕ
greatest_word = 2 ^ 64 - 1

-- one more; the clock of a sound core never comes near to where the word is full
abbrev pub next_clock : ℕ → ℕ
next_clock now = min (now + 1) greatest_word
