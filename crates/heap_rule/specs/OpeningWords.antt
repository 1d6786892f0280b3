-- The words with which a store opens: those that it is given, or those of a store that was never
-- used.
use Rattle.std.specs.Prelude.{ℕ, List, Option, Some, None}
use Rattle.mont_base.specs.Layout.{Shape}
use Rattle.core_steps.specs.Fresh.{fresh_words}

abbrev pub words_or_fresh : Shape → Option (List ℕ) → List ℕ
words_or_fresh s None = fresh_words s
words_or_fresh s (Some words) = words
