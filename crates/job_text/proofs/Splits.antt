-- Splits of a text at a byte.
use Rattle.std.proofs.Common.{◌≡◌, ℕ, ◌+◌, ◌-◌, ◌<◌, ◌≤◌, Bool, true, false, cond, not, ◌&&◌, ◌==◌, ltb, Some, None, List, [], ◌∷◌, ◌++◌, length, take, drop, get_or, sym, ap, ◌∙◌, refl, subst, arith, position}
use Rattle.std.specs.List.{position_or_len}
use Rattle.std.proofs.lemmas.List.{take-append-drop, drop_more, get_or-take, length-take-le, take_rest}
use Rattle.std.proofs.lemmas.List.Sums.{fails_before_first}
use Rattle.std.proofs.lemmas.List.Quantifiers.{position-Some}
use Rattle.std.proofs.lemmas.List.Elements.{All-head, All-tail, All-append, All-cons, All-nil}
use Rattle.std.proofs.lemmas.Bool.{ltb-false}
use Rattle.std.proofs.lemmas.Bool.Decides.{Decides-eqb}
use Rattle.job_text.specs.Parts.{Lacks, IsSplit}

past_from_none : (t : Bool) (m : ℕ) → cond t (Some m) None ≡ None → t ≡ false
past_from_none true m e = cc
past_from_none false m e = refl

-- where the byte isn't found, no byte is it
pub Lacks-from_none : (byte : ℕ) (bytes : List ℕ) → position (λ b. b == byte) bytes ≡ None → Lacks byte bytes
Lacks-from_none byte bytes none k d within =
    let p : ℕ → Bool = λ b. b == byte in
    let past : length bytes ≤ position_or_len p bytes = ltb-false _ _
    (past_from_none (ltb (position_or_len p bytes) (length bytes)) (position_or_len p bytes) none) in
    fails_before_first p bytes k d (omega arith)

-- the parts at the place where it is found
pub IsSplit-from_some : (byte : ℕ) (bytes : List ℕ) (at : ℕ) → position (λ b. b == byte) bytes ≡ Some at
    → IsSplit byte bytes (take at bytes) (take (length bytes - (at + 1)) (drop (at + 1) bytes))
IsSplit-from_some byte bytes at some =
    let found = position-Some (λ b. b == byte) bytes at 0 some in
    let here : get_or bytes at 0 ≡ byte = (Decides-eqb (get_or bytes at 0) byte).0 found.1 in
    record {
      joined = sym (take-append-drop at bytes) ∙ ap (λ ys. take at bytes ++ ys)
          (drop_more bytes at 0 found.0 ∙ ap (λ b. b ∷ drop (at + 1) bytes) here)
          ∙ ap (λ ys. take at bytes ++ byte ∷ ys) (sym (take_rest bytes (at + 1)));
      first = λ k d within.
          let below : k < at = omega (arith, length-take-le at bytes (omega arith)) in
          let before = position-Some (λ b. b == byte) bytes at d some in
          rw get_or-take (before.2 k below);
    }

-- a byte that some part lacks isn't that part's first
pub Lacks-head_differs : (byte y : ℕ) (ys : List ℕ) → Lacks byte (y ∷ ys) → y ≡ byte → ⊥
Lacks-head_differs byte y ys lacks same =
    let yes : (y == byte) ≡ true = (Decides-eqb y byte).1 same in
    let no : (y == byte) ≡ false = All-head (λ b. (b == byte) ≡ false) y ys lacks in
    cc

pub Lacks-rest : (byte y : ℕ) (ys : List ℕ) → Lacks byte (y ∷ ys) → Lacks byte ys
Lacks-rest byte y ys lacks = All-tail (λ b. (b == byte) ≡ false) y ys lacks

-- there is one way to split a text at the first such byte
pub split_at_first : (byte : ℕ) (xs ys before after : List ℕ) → Lacks byte xs → Lacks byte before → xs ++ byte ∷ ys ≡ before ++ byte ∷ after
    → (xs ≡ before) × (ys ≡ after)
split_at_first byte [] ys [] after l m e = (refl, cc)
split_at_first byte [] ys (b ∷ bs) after l m e = absurd (Lacks-head_differs byte b bs m (cc))
split_at_first byte (x ∷ xs) ys [] after l m e = absurd (Lacks-head_differs byte x xs l (cc))
split_at_first byte (x ∷ xs) ys (b ∷ bs) after l m e =
    let rest : xs ++ byte ∷ ys ≡ bs ++ byte ∷ after = cc in
    let same : x ≡ b = cc in
    let more = split_at_first byte xs ys bs after (Lacks-rest byte x xs l) (Lacks-rest byte b bs m) rest in
    let front : xs ≡ bs = more.0 in
    (cc, more.1)

-- nothing that lacks a byte is split at it
pub not_split_lacking : (byte : ℕ) (bytes before after : List ℕ) → Lacks byte bytes → bytes ≡ before ++ byte ∷ after → ⊥
not_split_lacking byte bytes [] after lacks e = Lacks-head_differs byte byte after (subst (λ (xs : List ℕ). Lacks byte xs) e lacks) refl
not_split_lacking byte [] (b ∷ bs) after lacks e = cc
not_split_lacking byte (x ∷ xs) (b ∷ bs) after lacks e = not_split_lacking byte xs bs after (Lacks-rest byte x xs lacks) (cc)

pub Lacks-append : (byte : ℕ) (xs ys : List ℕ) → Lacks byte xs → Lacks byte ys → Lacks byte (xs ++ ys)
Lacks-append byte xs ys l m = All-append (λ b. (b == byte) ≡ false) xs ys l m

pub Lacks-cons : (byte x : ℕ) (xs : List ℕ) → (x == byte) ≡ false → Lacks byte xs → Lacks byte (x ∷ xs)
Lacks-cons byte x xs h l = All-cons (λ b. (b == byte) ≡ false) x xs h l

-- a test that computes
abbrev pub lacks : ℕ → List ℕ → Bool
lacks byte [] = true
lacks byte (x ∷ xs) = not (x == byte) && lacks byte xs

both_hold : (t u : Bool) → (not t && u) ≡ true → (t ≡ false) × (u ≡ true)
both_hold true u e = absurd (cc)
both_hold false u e = (refl, e)

pub Lacks-tested : (byte : ℕ) (xs : List ℕ) → lacks byte xs ≡ true → Lacks byte xs
Lacks-tested byte [] e = All-nil (λ b. (b == byte) ≡ false)
Lacks-tested byte (x ∷ xs) e =
    let parts = both_hold (x == byte) (lacks byte xs) e in
    Lacks-cons byte x xs parts.0 (Lacks-tested byte xs parts.1)
