-- Bytes that were read of a source.
use Rattle.std.proofs.Common.{◌≡◌, ℕ, ◌+◌, ◌<◌, ◌≤◌, inl, inr, Option, Some, None, IfSome, Result, Ok, Err, IfOk, List, [], ◌++◌, length, take, drop, sym, ap, ◌∙◌, subst, arith, refl, ◌⊎◌, length-drop}
use Rattle.std.proofs.lemmas.List.{append_assoc, append-nil, take-append-le, nil_from_length, drop_at, length-append, length-take-le}
use Rattle.std.proofs.lemmas.Bool.{cases_lt}
use Rattle.std.specs.Io.KnownBytes.{Consumes, Keeps, IsAtEnd}
use Rattle.mont_base.specs.Losses.{LosesFirst}
use Rattle.job_text.specs.declared.limits.TheConstants.{READ_BYTES}
use Rattle.job_text.specs.declared.job_refusal.JobRefusal.{JobRefusal}
use Rattle.job_text.specs.declared.job_refusal.JobRefusal.TheVariants.{Text, Read, Memory}
use Rattle.job_text.specs.Refused.{IsReadOf}
use Rattle.job_text.specs.Taken.{HasLostSome, TakesBytes, IsTaken}

pub consumes_none : (known : Option (List ℕ)) (bytes : List ℕ) → bytes ≡ [] → Consumes known known bytes
consumes_none None bytes none = tt
consumes_none (Some xs) bytes none = ap (λ (ys : List ℕ). ys ++ xs) (sym none)

pub consumes_more : (old now new : Option (List ℕ)) (bytes more : List ℕ) → Consumes old now bytes → Consumes now new more
    → Consumes old new (bytes ++ more)
consumes_more None now new bytes more h i = tt
consumes_more (Some xs) None new bytes more h i = absurd h
consumes_more (Some xs) (Some ys) None bytes more h i = absurd i
consumes_more (Some xs) (Some ys) (Some zs) bytes more h i = h ∙ ap (λ (ws : List ℕ). bytes ++ ws) i ∙ sym (append_assoc bytes more zs)

-- a failure takes nothing more
pub consumes_kept : (old now new : Option (List ℕ)) (bytes : List ℕ) → Consumes old now bytes → Keeps now new → Consumes old new bytes
consumes_kept None now new bytes h i = tt
consumes_kept (Some xs) None new bytes h i = absurd h
consumes_kept (Some xs) (Some ys) None bytes h i = absurd i
consumes_kept (Some xs) (Some ys) (Some zs) bytes h i = h ∙ ap (λ (ws : List ℕ). bytes ++ ws) (sym i)

lost : (n : ℕ) (old new : Option (List ℕ)) (bytes : List ℕ) → Consumes old new bytes → length bytes ≡ n → LosesFirst n old new
lost n None new bytes h long = tt
lost n (Some xs) None bytes h long = absurd h
lost n (Some xs) (Some ys) bytes h long = sym (ap (λ (zs : List ℕ). drop n zs) h ∙ drop_at bytes ys n long)

pub lost_some : (old new : Option (List ℕ)) (bytes : List ℕ) → Consumes old new bytes → length bytes ≤ READ_BYTES → HasLostSome old new
lost_some old new bytes h few = (bytes, few, h)

lost_whole : (old new : Option (List ℕ)) (bytes : List ℕ) → Consumes old new bytes → length bytes ≤ READ_BYTES → IsAtEnd new
    → LosesFirst READ_BYTES old new
lost_whole None new bytes h few end = tt
lost_whole (Some xs) None bytes h few end = absurd h
lost_whole (Some xs) (Some ys) bytes h few end =
    let whole : xs ≡ bytes = h ∙ ap (λ (zs : List ℕ). bytes ++ zs) end ∙ append-nil bytes in
    end ∙ sym (nil_from_length (drop READ_BYTES xs) (omega (arith, length-drop READ_BYTES xs, ap length whole)))

-- as many bytes as are read at most are taken, or all
pub lost_all : (old new : Option (List ℕ)) (bytes : List ℕ) → TakesBytes old new bytes → LosesFirst READ_BYTES old new
lost_all old new bytes t = elim (cases_lt (length bytes) READ_BYTES) [
  | inl fewer ↦ lost_whole old new bytes t.taken t.few (t.ended fewer)
  | inr all ↦ lost READ_BYTES old new bytes t.taken (omega (arith, t.few))
]

read_front : (old new : Option (List ℕ)) (bytes : List ℕ) → Consumes old new bytes → (IsAtEnd new) ⊎ (READ_BYTES ≤ length bytes)
    → IfSome old (λ text. IsReadOf text bytes)
read_front None new bytes h end = tt
read_front (Some xs) None bytes h end = absurd h
read_front (Some xs) (Some ys) bytes h end = (ys, h, end)

pub read_of : (old new : Option (List ℕ)) (bytes : List ℕ) → TakesBytes old new bytes → IfSome old (λ text. IsReadOf text bytes)
read_of old new bytes t = elim (cases_lt (length bytes) READ_BYTES) [
  | inl fewer ↦ read_front old new bytes t.taken (inl (t.ended fewer))
  | inr all ↦ read_front old new bytes t.taken (inr all)
]

-- the piece that was read stands in the front of the buffer
pub appended : (new old xs ys : List ℕ) (count : ℕ) → new ≡ old ++ take count (xs ++ ys) → count ≤ length xs → new ≡ old ++ take count xs
appended new old xs ys count push bound = push ∙ ap (λ (zs : List ℕ). old ++ zs) (take-append-le count xs ys bound)

-- one piece more was read into the front of the buffer
pub consumes_piece : (old now new : Option (List ℕ)) (bytes grown buf tail : List ℕ) (count : ℕ) → Consumes old now bytes
    → Consumes now new (take count buf) → count ≤ length buf → grown ≡ bytes ++ take count (buf ++ tail) → Consumes old new grown
consumes_piece old now new bytes grown buf tail count so_far read bound push =
    subst (λ (xs : List ℕ). Consumes old new xs) (sym (appended grown bytes buf tail count push bound))
    (consumes_more old now new bytes (take count buf) so_far read)

pub lost_piece : (old now new : Option (List ℕ)) (bytes buf : List ℕ) (count : ℕ) → Consumes old now bytes
    → Consumes now new (take count buf) → count ≤ length buf → length bytes + length buf ≤ READ_BYTES → HasLostSome old new
lost_piece old now new bytes buf count so_far read bound room =
    lost_some old new (bytes ++ take count buf) (consumes_more old now new bytes (take count buf) so_far read)
    (omega (arith, length-append bytes (take count buf), length-take-le count buf bound))

-- what was taken of the source where its bytes gave this answer
pub taken_for : {J : Type 0} (P Q : J → Type 0) (old new : Option (List ℕ)) (bytes : List ℕ) (r : Result J JobRefusal)
    → TakesBytes old new bytes → IfOk r (λ j. P j × Q j × (length bytes < READ_BYTES)) → IsTaken old new r
taken_for P Q old new bytes (Ok j) t small = (lost_all old new bytes t, t.ended small.2)
taken_for P Q old new bytes (Err (Text line fault)) t small = lost_all old new bytes t
taken_for P Q old new bytes (Err Read) t small = lost_some old new bytes t.taken t.few
taken_for P Q old new bytes (Err Memory) t small = lost_some old new bytes t.taken t.few
