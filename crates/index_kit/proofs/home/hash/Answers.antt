use Rattle.std.proofs.Common.{◌≡◌, ℕ, ◌+◌, ◌%◌, ◌^◌, arith}
use Rattle.mont_base.specs.Texts.{byte_words}
use Rattle.index_kit.specs.Home.{hash_of}
use Rattle.index_kit.proofs.home.hash.Goals as goal

summed : (a b c d : ℕ) → ((((0 + a) % 2 ^ 64 + b) % 2 ^ 64 + c) % 2 ^ 64 + d) % 2 ^ 64 ≡ (a + (b + (c + (d + 0)))) % 2 ^ 64
summed a b c d = omega arith

pub returns : goal.returns
unfolding hash_of byte_words
returns c =
    rw (c.add_weighed.ensures, c.add_weighed-sum-3.ensures, c.add_weighed-sum-2.ensures, c.add_weighed-sum.ensures, c.words.ensures.value)
    (summed _ _ _ _)
