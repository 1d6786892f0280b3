use Rattle.std.proofs.Common.{◌≡◌, ◌<◌, ℕ, get_or, vec_len}
use Rattle.mont_image.specs.Picking.{picked_at}
use Rattle.mont_image.proofs.picking.pick.Given as goal

-- the words so far are picked
abbrev pub invariant-loop-at : goal.invariant-loop-at
invariant-loop-at l = record {
  long : vec_len l.picked ≡ l.at;
  each : (w : ℕ) → w < l.at → get_or l.picked.items w 0 ≡ picked_at l.mask l.words.cur l.words.dur w;
}
