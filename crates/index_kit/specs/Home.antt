-- The hash of a key, and what it chooses: the cell in which a search for the key begins, and its
-- mark.
use Rattle.std.specs.Prelude.{ℕ, ◌+◌, ◌*◌, ◌/◌, ◌%◌, ◌^◌, List, [], ◌∷◌}
use Rattle.mont_base.specs.State.{Key}
use Rattle.mont_base.specs.Texts.{text_words}
use Rattle.index_kit.specs.declared.home.TheConstants.{WEIGHTS}
use Rattle.index_kit.specs.declared.cells.TheConstants.{HELD}

-- the sum of words by their weights
abbrev pub weighed : List ℕ → List ℕ → ℕ
weighed [] weights = 0
weighed (word ∷ words) [] = 0
weighed (word ∷ words) (weight ∷ weights) = word * weight + weighed words weights

-- the hash of a key is such a sum of its four words, in 64 bits
unfoldable pub hash_of : Key → ℕ
hash_of key = weighed (text_words key) WEIGHTS % 2 ^ 64

-- the cell that is as far along the cells as the hash is along all hashes
unfoldable pub home_of : ℕ → Key → ℕ
home_of cells key = hash_of key * cells / 2 ^ 64

-- seven bits of the hash, in a byte whose highest bit says that a cell isn't free
unfoldable pub mark_of : Key → ℕ
mark_of key = HELD + hash_of key / 2 ^ 32 % HELD
