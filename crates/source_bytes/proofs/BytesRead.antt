-- Bytes that were read of a source.
use Rattle.std.proofs.Common.{◌≡◌, ℕ, ◌+◌, ◌≤◌, inl, inr, Option, Some, None, IfSome, List, [], ◌++◌, length, take, drop, sym, ap, ◌∙◌, subst, arith, ◌⊎◌, length-drop}
use Rattle.std.proofs.lemmas.List.{append_assoc, append-nil, take-append-le, nil_from_length, drop_at, length-append, length-take-le}
use Rattle.std.proofs.lemmas.Bool.{cases_lt}
use Rattle.std.specs.Io.KnownBytes.{Consumes, IsAtEnd}
use Rattle.mont_base.specs.Losses.{LosesAtMost, LosesFirst}
use Rattle.source_bytes.specs.BytesTaken.{TakesBytes, IsReadOf}

pub consumes_none : (known : Option (List ℕ)) (bytes : List ℕ) → bytes ≡ [] → Consumes known known bytes
consumes_none None bytes none = tt
consumes_none (Some xs) bytes none = ap (λ (ys : List ℕ). ys ++ xs) (sym none)

pub consumes_more : (old now new : Option (List ℕ)) (bytes more : List ℕ) → Consumes old now bytes → Consumes now new more
    → Consumes old new (bytes ++ more)
consumes_more None now new bytes more h i = tt
consumes_more (Some xs) None new bytes more h i = absurd h
consumes_more (Some xs) (Some ys) None bytes more h i = absurd i
consumes_more (Some xs) (Some ys) (Some zs) bytes more h i = h ∙ ap (λ (ws : List ℕ). bytes ++ ws) i ∙ sym (append_assoc bytes more zs)

lost : (n : ℕ) (old new : Option (List ℕ)) (bytes : List ℕ) → Consumes old new bytes → length bytes ≡ n → LosesFirst n old new
lost n None new bytes h long = tt
lost n (Some xs) None bytes h long = absurd h
lost n (Some xs) (Some ys) bytes h long = sym (ap (λ (zs : List ℕ). drop n zs) h ∙ drop_at bytes ys n long)

lost_whole : (most : ℕ) (old new : Option (List ℕ)) (bytes : List ℕ) → Consumes old new bytes → length bytes ≤ most → IsAtEnd new
    → LosesFirst most old new
lost_whole most None new bytes h few end = tt
lost_whole most (Some xs) None bytes h few end = absurd h
lost_whole most (Some xs) (Some ys) bytes h few end =
    let whole : xs ≡ bytes = h ∙ ap (λ (zs : List ℕ). bytes ++ zs) end ∙ append-nil bytes in
    end ∙ sym (nil_from_length (drop most xs) (omega (arith, length-drop most xs, ap length whole)))

-- as many bytes as are read at most are taken, or all
pub lost_all : (most : ℕ) (old new : Option (List ℕ)) (bytes : List ℕ) → TakesBytes most old new bytes → LosesFirst most old new
lost_all most old new bytes t = elim (cases_lt (length bytes) most) [
  | inl fewer ↦ lost_whole most old new bytes t.taken t.few (t.ended fewer)
  | inr all ↦ lost most old new bytes t.taken (omega (arith, t.few))
]

read_front : (most : ℕ) (old new : Option (List ℕ)) (bytes : List ℕ) → Consumes old new bytes
    → (IsAtEnd new) ⊎ (most ≤ length bytes) → IfSome old (λ text. IsReadOf most text bytes)
read_front most None new bytes h end = tt
read_front most (Some xs) None bytes h end = absurd h
read_front most (Some xs) (Some ys) bytes h end = (ys, h, end)

-- what was taken is all of the source's text, or its front
pub read_of : (most : ℕ) (old new : Option (List ℕ)) (bytes : List ℕ) → TakesBytes most old new bytes
    → IfSome old (λ text. IsReadOf most text bytes)
read_of most old new bytes t = elim (cases_lt (length bytes) most) [
  | inl fewer ↦ read_front most old new bytes t.taken (inl (t.ended fewer))
  | inr all ↦ read_front most old new bytes t.taken (inr all)
]

-- the piece that was read stands in the front of the buffer
appended : (new old xs ys : List ℕ) (count : ℕ) → new ≡ old ++ take count (xs ++ ys) → count ≤ length xs → new ≡ old ++ take count xs
appended new old xs ys count push bound = push ∙ ap (λ (zs : List ℕ). old ++ zs) (take-append-le count xs ys bound)

-- one piece more was read into the front of the buffer
pub consumes_piece : (old now new : Option (List ℕ)) (bytes grown buf tail : List ℕ) (count : ℕ) → Consumes old now bytes
    → Consumes now new (take count buf) → count ≤ length buf → grown ≡ bytes ++ take count (buf ++ tail) → Consumes old new grown
consumes_piece old now new bytes grown buf tail count so_far read bound push =
    subst (λ (xs : List ℕ). Consumes old new xs) (sym (appended grown bytes buf tail count push bound))
    (consumes_more old now new bytes (take count buf) so_far read)

-- a piece more was taken, and there was no memory to keep it
pub lost_piece : (most : ℕ) (old now new : Option (List ℕ)) (bytes buf : List ℕ) (count : ℕ) → Consumes old now bytes
    → Consumes now new (take count buf) → count ≤ length buf → length bytes + length buf ≤ most → LosesAtMost most old new
lost_piece most old now new bytes buf count so_far read bound room = (
  bytes ++ take count buf,
  omega (arith, length-append bytes (take count buf), length-take-le count buf bound),
  consumes_more old now new bytes (take count buf) so_far read,
)
