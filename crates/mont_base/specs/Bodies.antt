-- What the body of a payload says: one encoder and one decoder for each body, the only places that
-- know what stands where.
use Rattle.std.specs.Prelude.{ℕ, ◌-◌, Bool, ◌&&◌, ◌==◌, List, ◌∷◌, ◌++◌, length, drop, replicate, slice_index, if◌then◌else◌, Option, Some, None}
use Rattle.mont_base.specs.declared.constants.TheConstants.{BODY, VERTEX_TAG, EDGE_TAG}
use Rattle.mont_base.specs.Texts.{byte_words, text_of_words, are_zero}
use Rattle.mont_base.specs.State.{Key, Value, Ends}

-- the words after the first ones, which aren't used
abbrev pub spare : ℕ → List ℕ
spare used = replicate (BODY - used) 0

abbrev pub is_clean : ℕ → List ℕ → Bool
is_clean used body = are_zero (drop used body)

-- the body of an anti-payload
abbrev pub no_body : List ℕ
no_body = spare 0

-- a pair of a map or of an ordered unit: both lengths, and then the words of the key and of the
-- value
abbrev pub pair_body : Key → Value → List ℕ
pair_body key value = length key ∷ length value ∷ (byte_words key ++ byte_words value)

abbrev pub both : {A B : Type 0} → Option A → Option B → Option (A × B)
both None b = None
both (Some a) None = None
both (Some a) (Some b) = Some (a, b)

abbrev pub key_in : List ℕ → Option Key
key_in body =
    text_of_words (slice_index body 0) (slice_index body 2) (slice_index body 3)
    (slice_index body 4)

abbrev pub value_in : List ℕ → Option Value
value_in body =
    text_of_words (slice_index body 1) (slice_index body 5) (slice_index body 6)
    (slice_index body 7)

-- the pair of a body, if its words are those of texts
abbrev pub pair_in : List ℕ → Option (Key × Value)
pair_in body = both (key_in body) (value_in body)

-- an item of a queue: its serial and itself
abbrev pub item_body : ℕ → ℕ → List ℕ
item_body serial item = serial ∷ item ∷ spare 2

-- serial and item of a body, if no other word is used
abbrev pub item_in : List ℕ → Option (ℕ × ℕ)
item_in body = if is_clean 2 body then Some (slice_index body 0, slice_index body 1) else None

-- a vertex of a graph: a tag, the vertex and its attribute
abbrev pub vertex_body : ℕ → ℕ → List ℕ
vertex_body vertex attribute = VERTEX_TAG ∷ vertex ∷ attribute ∷ spare 3

abbrev pub is_vertex_body : List ℕ → Bool
is_vertex_body body = slice_index body 0 == VERTEX_TAG

-- vertex and attribute of a body, if it has the tag and no other word is used
abbrev pub vertex_in : List ℕ → Option (ℕ × ℕ)
vertex_in body =
    if is_vertex_body body
    && is_clean 3 body then Some (slice_index body 1, slice_index body 2) else None

-- an edge of a graph: a tag, the vertices that it goes from and to, and its attribute
abbrev pub edge_body : Ends → ℕ → List ℕ
edge_body ends attribute = EDGE_TAG ∷ ends.0 ∷ ends.1 ∷ attribute ∷ spare 4

abbrev pub is_edge_body : List ℕ → Bool
is_edge_body body = slice_index body 0 == EDGE_TAG

-- ends and attribute of a body, if it has the tag and no other word is used
abbrev pub edge_in : List ℕ → Option (Ends × ℕ)
edge_in body =
    if is_edge_body body && is_clean 4 body then Some
    ((slice_index body 1, slice_index body 2), slice_index body 3) else None
