-- What a hasher is fed of a text.
use Rattle.std.specs.Prelude.{◌≡◌, ℕ, true, List, nat_eq}
use Rattle.std.specs.Cmp.Lexicographic.{pointwise, bytes_decides}
use Rattle.std.specs.Hash.{HashWrites, slice, u64}
use Rattle.std.proofs.Common.{ap}
use Rattle.mont_base.specs.Texts.{text_words}

-- its four words
abbrev pub words_fed : List ℕ → HashWrites
words_fed text = slice u64 (text_words text)

pub same_words_fed : (s t : List ℕ) → pointwise nat_eq s t ≡ true → words_fed s ≡ words_fed t
same_words_fed s t e = ap words_fed ((bytes_decides s t).0 e)
