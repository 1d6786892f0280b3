-- The first words of a record, as a unit stores them one after the other.
use Rattle.std.proofs.Common.{◌≡◌, ℕ, zero, suc, ◌+◌, ◌-◌, ◌*◌, ◌/◌, ◌%◌, ◌<◌, ◌≤◌, List, [], ◌∷◌, ◌++◌, length, take, replicate, set, get_or, sym, refl, ap, ◌∙◌, subst, arith, append-nil}
use Rattle.std.specs.Prelude.{unwrap_or}
use Rattle.std.proofs.lemmas.List.{take_all, length-append, length-replicate, length-take-le, get_or-take, get_or_append_left}
use Rattle.mont_base.specs.declared.constants.TheConstants.{FIELDS}
use Rattle.mont_base.specs.declared.record.Held.{Held}
use Rattle.mont_base.specs.declared.record.Kind.{Kind}
use Rattle.mont_base.specs.declared.record.Kind.TheVariants as kinds
use Rattle.mont_base.specs.Record.{number_of_kind, kind_of_number}
use Rattle.mont_laws.specs.SlotReadings.{held_words, IsRecordOf}
use Rattle.mont_laws.proofs.SlotReadings.{length-slot_words}
use Rattle.core_steps.specs.Storing.{held_at, front_words, front_of, with_field}
use Rattle.core_steps.specs.Roles.{HasFields}

-- ---- a list's front, and zeros after it
front_get : (xs zs : List ℕ) (n f : ℕ) → f < n → n ≤ length xs → get_or (take n xs ++ zs) f 0 ≡ get_or xs f 0
front_get xs zs n f low long =
    get_or_append_left (take n xs) zs 0 f (omega (arith, length-take-le n xs long)) ∙ get_or-take n xs f 0 low

-- such a list is as long as both parts
length-front : (xs : List ℕ) (n m : ℕ) → n ≤ length xs → length (take n xs ++ replicate m 0) ≡ n + m
length-front xs n m long =
    length-append (take n xs) (replicate m 0)
    ∙ omega (arith, length-take-le n xs long, length-replicate {A = ℕ} m 0)

-- one more item of the list is set
front_set : (xs : List ℕ) (n m : ℕ) → n < length xs
    → set (take n xs ++ replicate (suc m) 0) n (get_or xs n 0) ≡ take (suc n) xs ++ replicate m 0
front_set [] n m low = absurd (omega arith)
front_set (x ∷ xs) zero m low = refl
front_set (x ∷ xs) (suc n) m low = ap (λ (l : List ℕ). x ∷ l) (front_set xs n m (omega arith))

-- ---- words that show a label
pub shown_number : (k unit : ℕ) → unit < 256 → (256 * k + unit) / 256 ≡ k
shown_number k unit low = omega arith

-- so the second word of a slot shows its kind
pub shown_kind : (kind : Kind) (unit : ℕ) → unit < 256
    → unwrap_or (kind_of_number ((256 * number_of_kind kind + unit) / 256)) kinds.New ≡ kind
shown_kind kind unit low =
    ap (λ (n : ℕ). unwrap_or (kind_of_number n) kinds.New) (shown_number (number_of_kind kind) unit low) ∙ back kind
  where
    back : (kind : Kind) → unwrap_or (kind_of_number (number_of_kind kind)) kinds.New ≡ kind
    back kinds.New = refl
    back kinds.Copy = refl
    back kinds.Delete = refl

-- and its unit
pub shown_unit : (k unit : ℕ) → unit < 256 → (256 * k + unit) % 256 ≡ unit
shown_unit k unit low = omega arith

-- the words of a record show it
pub held_back : (r : Held) → r.label.unit < 256 → held_at r.slot (held_words r) ≡ r
held_back r low = λ i. record {
  slot = r.slot;
  label = record {
    epoch = r.label.epoch;
    kind = shown_kind r.label.kind r.label.unit low i;
    unit = shown_unit (number_of_kind r.label.kind) r.label.unit low i;
    identity = r.label.identity;
    version = r.label.version;
  };
  body = r.body;
}

-- words whose second one is that of a kind and a unit are those of the record that they show
words_back : (slot : ℕ) (words : List ℕ) (kind : Kind) (unit : ℕ) → unit < 256 → 4 ≤ length words
    → get_or words 1 0 ≡ 256 * number_of_kind kind + unit → held_words (held_at slot words) ≡ words
words_back slot [] kind unit low long is = absurd (omega arith)
words_back slot (a ∷ []) kind unit low long is = absurd (omega arith)
words_back slot (a ∷ b ∷ []) kind unit low long is = absurd (omega arith)
words_back slot (a ∷ b ∷ c ∷ []) kind unit low long is = absurd (omega arith)
words_back slot (a ∷ b ∷ c ∷ d ∷ ws) kind unit low long is =
    subst (λ (n : ℕ). held_words (held_at slot (a ∷ n ∷ c ∷ d ∷ ws)) ≡ a ∷ n ∷ c ∷ d ∷ ws) (sym is)
    (λ i. a ∷ (256 * number_of_kind (shown_kind kind unit low i) + shown_unit (number_of_kind kind) unit low i) ∷ c ∷ d ∷ ws)

-- ---- a record's first fields
module _ (u : ℕ) (r : Held) (valid : IsRecordOf u r) where
  -- a record has as many words as a slot
  pub long_held : length (held_words r) ≡ FIELDS
  long_held = length-slot_words r.label r.body valid.body

  -- the epoch is there from the beginning
  pub front_epoch : (n : ℕ) → n < FIELDS → (front_of r n).label.epoch ≡ r.label.epoch
  front_epoch n few = front_get (held_words r) (replicate (FIELDS - (n + 1)) 0) (n + 1) 0 (omega arith) (omega (arith, long_held))

  -- once a field was stored, the front's words are those of the record that they show
  front_back : (n : ℕ) → 1 ≤ n → n < FIELDS → held_words (front_of r n) ≡ front_words r n
  front_back n some low = words_back r.slot (front_words r n) r.label.kind r.label.unit valid.label.unit
      (omega (arith, length-front (held_words r) (n + 1) (FIELDS - (n + 1)) (omega (arith, long_held))))
      (front_get (held_words r) (replicate (FIELDS - (n + 1)) 0) (n + 1) 1 (omega arith) (omega (arith, long_held)))

  -- so the stored fields are the record's
  front_field : (n f : ℕ) → 1 ≤ f → f ≤ n → n < FIELDS → get_or (held_words (front_of r n)) f 0 ≡ get_or (held_words r) f 0
  front_field n f some low few =
      ap (λ (l : List ℕ). get_or l f 0) (front_back n (omega arith) few)
      ∙ front_get (held_words r) (replicate (FIELDS - (n + 1)) 0) (n + 1) f (omega arith) (omega (arith, long_held))

  -- one more word of it is set
  set_next : (n m k : ℕ) → n + 1 < FIELDS → FIELDS - (n + 1) ≡ suc m → FIELDS - (k + 1) ≡ m → k ≡ n + 1
      → set (front_words r n) (n + 1) (get_or (held_words r) (n + 1) 0) ≡ front_words r k
  set_next n m k few rest behind next =
      let place : suc (n + 1) ≡ k + 1 = omega arith in
      ap (λ (z : ℕ). set (take (n + 1) (held_words r) ++ replicate z 0) (n + 1) (get_or (held_words r) (n + 1) 0)) rest
      ∙ front_set (held_words r) (n + 1) m (omega (arith, long_held))
      ∙ (λ i. take (place i) (held_words r) ++ replicate (sym behind i) 0)

  -- one more field
  pub front_step : (n : ℕ) → n + 1 < FIELDS
      → with_field (front_of r n) (n + 1) (get_or (held_words r) (n + 1) 0) ≡ front_of r (n + 1)
  front_step n few = ap (held_at r.slot) (words n few)
    where
      words : (n : ℕ) → n + 1 < FIELDS
          → set (held_words (front_of r n)) (n + 1) (get_or (held_words r) (n + 1) 0) ≡ front_words r (n + 1)
      words zero few = refl
      words (suc n) few =
          ap (λ (l : List ℕ). set l (suc n + 1) (get_or (held_words r) (suc n + 1) 0)) (front_back (suc n) (omega arith) (omega arith))
          ∙ set_next (suc n) (FIELDS - (suc n + 1) - 1) (suc n + 1) few (omega arith) (omega arith) refl

  -- all fields are the record
  pub front_whole : front_of r (FIELDS - 1) ≡ r
  front_whole = ap (held_at r.slot) (all (held_words r) long_held) ∙ held_back r valid.label.unit
    where
      all : (xs : List ℕ) → length xs ≡ FIELDS → take FIELDS xs ++ [] ≡ xs
      all xs e = append-nil (take FIELDS xs) ∙ take_all FIELDS xs (omega arith)

-- records with one front have the same first fields
pub same_fields : (u v n : ℕ) (r q : Held) (ws : List ℕ) → IsRecordOf u r → IsRecordOf v q → n < FIELDS → front_of r n ≡ front_of q n
    → HasFields r (n + 1) ws → HasFields q (n + 1) ws
same_fields u v n r q ws valid also few same h f some low =
    h f some low
    ∙ sym (front_field u r valid n f some (omega arith) few)
    ∙ ap (λ (x : Held). get_or (held_words x) f 0) same
    ∙ front_field v q also n f some (omega arith) few
