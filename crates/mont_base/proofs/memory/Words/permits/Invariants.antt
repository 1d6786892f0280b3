use Rattle.std.proofs.Common.{◌≡◌, ℕ, ◌<◌, ◌⊎◌, length, slice_index}
use Rattle.mont_base.proofs.memory.Words.permits.Given as goal

-- each word so far is current or durable
abbrev pub invariant-loop-at : goal.invariant-loop-at
invariant-loop-at l =
    (length l.image ≡ length l.current)
    × ((w : ℕ) → w < l.at → (slice_index l.image w ≡ slice_index l.current w) ⊎ (slice_index l.image w ≡ slice_index l.durable w))
