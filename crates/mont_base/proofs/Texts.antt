-- Texts and the words that hold them.
use Rattle.std.proofs.Common.{◌≡◌, ℕ, zero, suc, ◌+◌, ◌-◌, ◌^◌, ◌<◌, ◌≤◌, ◌==◌, true, List, [], ◌∷◌, ◌++◌, length, take, drop, get_or, replicate, refl, sym, ap, subst, ◌∙◌, arith, ⊎_elim, length-take, length-drop, length-append}
use Rattle.std.specs.Prelude.{◌≢◌, Option, Some, nat_eq, slice_index}
use Rattle.std.specs.Cmp.{first_so, second_so}
use Rattle.std.specs.Cmp.Lexicographic.{pointwise, bytes_decides}
use Rattle.std.specs.Int.{w64, to_le_bytes, from_le_bytes, sum_through, byte_worth}
use Rattle.std.specs.declared.cmp.Ordering.TheVariants.{Equal}
use Rattle.std.specs.Ordering.{nat_cmp, ordering_then}
use Rattle.std.proofs.lemmas.Nat.{le_bytes_8, from_le_bytes-to_le_bytes_8}
use Rattle.std.proofs.Math.Seq.{drop-append_seam, take-append_seam}
use Rattle.std.proofs.lemmas.Bool.{cases_lt, le-leb}
use Rattle.std.proofs.lemmas.Bool.Decides.{Decides-eqb, same_from_decides}
use Rattle.std.proofs.lemmas.List.{get_or-drop, get_or-take, get_or_past, get_or_append_left, get_or-append-add, drop-drop, take-append-drop, take_all, length-replicate}
use Rattle.std.proofs.lemmas.List.Elements.{All-get_or, All-from_get_or, All-from_recursion}
use borrow.Rule.Slice.PartMut.{put_mid}
use Rattle.mont_base.proofs.TextOrder.{are_bytes, first_tells, then_assoc, slice_cmp_append, cmp_fronts}
use Rattle.mont_base.specs.declared.constants.TheConstants.{TEXT_BYTES}
use Rattle.mont_base.specs.declared.text.Text.TheInside.{Inside}
use Rattle.mont_base.specs.Texts.{IsText, byte_words, bytes_of_words, text_words, text_of_bytes, text_of_words, are_zero, text_cmp}
use Rattle.mont_base.specs.TextWords.{bytes_of_text, IsTextInside}

-- ---- words by bytes
sum_same : (f g : ℕ → ℕ) (k : ℕ) → ((i : ℕ) → i ≤ k → f i ≡ g i) → sum_through f k ≡ sum_through g k
sum_same f g zero e = e 0 (omega arith)
sum_same f g (suc k) e =
    ap (λ (n : ℕ). n + f (suc k)) (sum_same f g k (λ i h. e i (omega arith)))
    ∙ ap (λ (n : ℕ). sum_through g k + n) (e (suc k) (omega arith))

-- a word has eight bytes, and those after the end of a list are 0
pub same_word : (xs ys : List ℕ) → ((i : ℕ) → i < 8 → get_or xs i 0 ≡ get_or ys i 0) → from_le_bytes w64 xs ≡ from_le_bytes w64 ys
same_word xs ys e =
    sum_same (λ i. byte_worth i (slice_index xs i)) (λ i. byte_worth i (slice_index ys i)) 7 (λ i h. ap (byte_worth i) (e i (omega arith)))

-- ---- bytes that are 0
pub zero_at : (xs : List ℕ) → are_zero xs ≡ true → (i : ℕ) → get_or xs i 0 ≡ 0
zero_at [] h zero = refl
zero_at [] h (suc i) = refl
zero_at (x ∷ xs) h zero = (Decides-eqb x 0).0 (first_so (x == 0) (are_zero xs) h)
zero_at (x ∷ xs) h (suc i) = zero_at xs (second_so (x == 0) (are_zero xs) h) i

pub are_zero-replicate : (n : ℕ) → are_zero (replicate n 0) ≡ true
are_zero-replicate zero = refl
are_zero-replicate (suc n) = are_zero-replicate n

module _ (held : List ℕ) (len : ℕ) (clean : are_zero (drop len held) ≡ true) where
  zero_behind : (i : ℕ) → len ≤ i → get_or held i 0 ≡ 0
  zero_behind i h =
      let at : len + (i - len) ≡ i = omega arith in
      subst (λ (j : ℕ). get_or held j 0 ≡ 0) at (sym (get_or-drop len held (i - len) 0) ∙ zero_at (drop len held) clean (i - len))

  -- the front of bytes after which all are 0 reads as they do
  pub front_reads : (i : ℕ) → get_or (take len held) i 0 ≡ get_or held i 0
  front_reads i = ⊎_elim
      (λ (h : i < len). get_or-take len held i 0 h)
      (λ (h : len ≤ i). get_or_past (take len held) i 0 (omega (arith, length-take len held)) ∙ sym (zero_behind i h))
      (cases_lt i len)

  front_word : (k : ℕ) → from_le_bytes w64 (drop k held) ≡ from_le_bytes w64 (drop k (take len held))
  front_word k = same_word (drop k held) (drop k (take len held)) (λ i h.
      get_or-drop k held i 0 ∙ sym (front_reads (k + i)) ∙ sym (get_or-drop k (take len held) i 0))

  -- and has the same words
  pub words_of_front :
      from_le_bytes w64 (drop 0 held) ∷ from_le_bytes w64 (drop 8 held) ∷ from_le_bytes w64 (drop 16 held) ∷ [] ≡ byte_words (take len held)
  unfolding byte_words
  words_of_front = λ i. front_word 0 i ∷ front_word 8 i ∷ front_word 16 i ∷ []

-- ---- the bytes of the words of 24 bytes
module _ (held : List ℕ) (long : length held ≡ TEXT_BYTES) (bytes : (i : ℕ) → get_or held i 0 < 256) where
  piece_byte : (k i : ℕ) → get_or (take 8 (drop k held)) i 0 < 256
  piece_byte k i = ⊎_elim
      (λ (h : i < 8). subst (λ (b : ℕ). b < 256) (sym (get_or-take 8 (drop k held) i 0 h ∙ get_or-drop k held i 0)) (bytes (k + i)))
      (λ (h : 8 ≤ i). subst (λ (b : ℕ). b < 256) (sym (get_or_past (take 8 (drop k held)) i 0 (omega (arith, length-take 8 (drop k held)))))
      (omega arith))
      (cases_lt i 8)

  word_back : (k : ℕ) → k + 8 ≤ TEXT_BYTES → to_le_bytes w64 (from_le_bytes w64 (drop k held)) ≡ take 8 (drop k held)
  word_back k fits =
      le_bytes_8 (take 8 (drop k held)) (from_le_bytes w64 (drop k held))
      (omega (arith, length-take 8 (drop k held), length-drop k held, long))
      (piece_byte k)
      (same_word (drop k held) (take 8 (drop k held)) (λ i h. sym (get_or-take 8 (drop k held) i 0 h)))

  pub bytes_back :
      bytes_of_words (from_le_bytes w64 (drop 0 held)) (from_le_bytes w64 (drop 8 held)) (from_le_bytes w64 (drop 16 held)) ≡ held
  unfolding bytes_of_words
  bytes_back =
      let last : take 8 (drop 16 held) ≡ drop 16 held = take_all 8 (drop 16 held) (omega (arith, length-drop 16 held, long)) in
      (λ i. word_back 0 (omega arith) i ++ (word_back 8 (omega arith) i ++ (word_back 16 (omega arith) ∙ last) i))
      ∙ ap (λ (xs : List ℕ). take 8 held ++ (take 8 (drop 8 held) ++ xs)) (sym (drop-drop 8 8 held))
      ∙ ap (λ (xs : List ℕ). take 8 held ++ xs) (take-append-drop 8 (drop 8 held))
      ∙ take-append-drop 8 held

-- ---- a text read back from its words
accepted :
    (len : ℕ) (bytes : List ℕ) → len ≤ TEXT_BYTES → are_zero (drop len bytes) ≡ true → text_of_bytes len bytes ≡ Some (take len bytes)
accepted len bytes short clean = rw (le-leb len TEXT_BYTES short, clean) refl

module _ (text : List ℕ) (is : IsText text) where
  padded_reads : (i : ℕ) → get_or (text ++ replicate (TEXT_BYTES - length text) 0) i 0 ≡ get_or text i 0
  padded_reads i = ⊎_elim
      (λ (h : i < length text). get_or_append_left text (replicate (TEXT_BYTES - length text) 0) 0 i h)
      (λ (h : length text ≤ i).
      let at : length text + (i - length text) ≡ i = omega arith in
      subst (λ (j : ℕ). get_or (text ++ replicate (TEXT_BYTES - length text) 0) j 0 ≡ 0) at
      (get_or-append-add text (replicate (TEXT_BYTES - length text) 0) (i - length text) 0
      ∙ zero_at (replicate (TEXT_BYTES - length text) 0) (are_zero-replicate (TEXT_BYTES - length text)) (i - length text))
      ∙ sym (get_or_past text i 0 h))
      (cases_lt i (length text))

  padded_long : length (text ++ replicate (TEXT_BYTES - length text) 0) ≡ TEXT_BYTES
  padded_long =
      omega (
        arith,
        length-append text (replicate (TEXT_BYTES - length text) 0),
        length-replicate {A = ℕ} (TEXT_BYTES - length text) 0,
        is.short,
      )

  padded_bytes : (i : ℕ) → get_or (text ++ replicate (TEXT_BYTES - length text) 0) i 0 < 256
  padded_bytes i = subst (λ (b : ℕ). b < 256) (sym (padded_reads i)) (⊎_elim
      (λ (h : i < length text). All-get_or (λ b. b < 256) text i 0 h is.bytes)
      (λ (h : length text ≤ i). subst (λ (b : ℕ). b < 256) (sym (get_or_past text i 0 h)) (omega arith))
      (cases_lt i (length text)))

  padded_word : (k : ℕ) → from_le_bytes w64 (drop k text) ≡ from_le_bytes w64 (drop k (text ++ replicate (TEXT_BYTES - length text) 0))
  padded_word k =
      same_word (drop k text) (drop k (text ++ replicate (TEXT_BYTES - length text) 0)) (λ i h.
      get_or-drop k text i 0 ∙ sym (padded_reads (k + i)) ∙ sym (get_or-drop k (text ++ replicate (TEXT_BYTES - length text) 0) i 0))

  bytes_padded :
      bytes_of_words (from_le_bytes w64 text) (from_le_bytes w64 (drop 8 text)) (from_le_bytes w64 (drop 16 text)) ≡ text
      ++ replicate (TEXT_BYTES - length text) 0
  bytes_padded =
      (λ i. bytes_of_words (padded_word 0 i) (padded_word 8 i) (padded_word 16 i))
      ∙ bytes_back (text ++ replicate (TEXT_BYTES - length text) 0) padded_long padded_bytes

  -- the text of its four words
  pub text_back :
      text_of_words (length text) (get_or (byte_words text) 0 0) (get_or (byte_words text) 1 0) (get_or (byte_words text) 2 0) ≡ Some text
  unfolding byte_words
  text_back =
      let held = text ++ replicate (TEXT_BYTES - length text) 0 in
      let rest : drop (length text) held ≡ replicate (TEXT_BYTES - length text) 0 =
      drop-append_seam text (replicate (TEXT_BYTES - length text) 0) in
      let clean : are_zero (drop (length text) held) ≡ true = ap are_zero rest ∙ are_zero-replicate (TEXT_BYTES - length text) in
      ap (text_of_bytes (length text)) bytes_padded
      ∙ accepted (length text) held is.short clean
      ∙ ap (λ (xs : List ℕ). Some xs) (take-append_seam text (replicate (TEXT_BYTES - length text) 0))

-- texts of the same words are the same
pub same_by_words : (s t : List ℕ) → IsText s → IsText t → text_words s ≡ text_words t → s ≡ t
same_by_words s t is it e =
    let word : (i : ℕ) → get_or (byte_words s) i 0 ≡ get_or (byte_words t) i 0 = λ i. ap (λ (ws : List ℕ). get_or ws (suc i) 0) e in
    let long : length s ≡ length t = ap (λ (ws : List ℕ). get_or ws 0 0) e in
    let both : ◌≡◌ {A = Option (List ℕ)} (Some s) (Some t) =
    sym (text_back s is)
    ∙ (λ i. text_of_words (long i) (word 0 i) (word 1 i) (word 2 i))
    ∙ text_back t it in
    cc

-- ---- a text that is kept in place
byte_below : (n i : ℕ) → get_or (to_le_bytes w64 n) i 0 < 256
byte_below n i = ⊎_elim
    (λ (h : i < 8). All-get_or (λ b. b < 256) (to_le_bytes w64 n) i 0 h
    (All-from_recursion (λ b. b < 256) (to_le_bytes w64 n) (are_bytes n)))
    (λ (h : 8 ≤ i). subst (λ (b : ℕ). b < 256) (sym (get_or_past (to_le_bytes w64 n) i 0 h)) (omega arith))
    (cases_lt i 8)

module _ (a b c : ℕ) where
  word_of_bytes : (i : ℕ) → i < 24 → get_or (bytes_of_words a b c) i 0 < 256
  unfolding bytes_of_words
  word_of_bytes i h = ⊎_elim
      (λ (k : i < 8). subst (λ (x : ℕ). x < 256)
      (sym (get_or_append_left (to_le_bytes w64 a) (to_le_bytes w64 b ++ to_le_bytes w64 c) 0 i k)) (byte_below a i))
      (λ (k : 8 ≤ i).
      let at : 8 + (i - 8) ≡ i = omega arith in
      let here = get_or-append-add (to_le_bytes w64 a) (to_le_bytes w64 b ++ to_le_bytes w64 c) (i - 8) 0 in
      subst (λ (j : ℕ). get_or (bytes_of_words a b c) j 0 < 256) at (subst (λ (x : ℕ). x < 256) (sym here) (behind (i - 8))))
      (cases_lt i 8)
    where
      behind : (j : ℕ) → get_or (to_le_bytes w64 b ++ to_le_bytes w64 c) j 0 < 256
      behind j = ⊎_elim
          (λ (k : j < 8). subst (λ (x : ℕ). x < 256) (sym (get_or_append_left (to_le_bytes w64 b) (to_le_bytes w64 c) 0 j k))
          (byte_below b j))
          (λ (k : 8 ≤ j).
          let at : 8 + (j - 8) ≡ j = omega arith in
          subst (λ (n : ℕ). get_or (to_le_bytes w64 b ++ to_le_bytes w64 c) n 0 < 256) at
          (subst (λ (x : ℕ). x < 256) (sym (get_or-append-add (to_le_bytes w64 b) (to_le_bytes w64 c) (j - 8) 0)) (byte_below c (j - 8))))
          (cases_lt j 8)

  pub length-bytes_of_words : length (bytes_of_words a b c) ≡ TEXT_BYTES
  unfolding bytes_of_words
  length-bytes_of_words = refl

  -- the bytes of three words, as they are put together
  pub put_together :
      (xs ys zs : List ℕ) → xs ≡ to_le_bytes w64 a → ys ≡ to_le_bytes w64 b → zs ≡ to_le_bytes w64 c
      → put_mid 16 8 (put_mid 8 8 (xs ++ replicate 16 0) ys) zs ≡ bytes_of_words a b c
  unfolding bytes_of_words
  put_together xs ys zs x y z = λ i. put_mid 16 8 (put_mid 8 8 (x i ++ replicate 16 0) (y i)) (z i)

module _ (t : Inside) (is : IsTextInside t) where
  pub length_of_view : length (bytes_of_text t) ≡ t.len
  unfolding bytes_of_text
  length_of_view =
      omega (arith, length-take t.len (bytes_of_words t.first t.second t.third), length-bytes_of_words t.first t.second t.third, is.short)

  pub text_of_view : IsText (bytes_of_text t)
  unfolding bytes_of_text
  text_of_view = record {
    short = omega (arith, length-take t.len (bytes_of_words t.first t.second t.third), is.short);
    bytes = All-from_get_or (λ b. b < 256) (bytes_of_text t) 0 (λ i h.
        let inside : i < t.len = omega (arith, length_of_view) in
        subst (λ (x : ℕ). x < 256) (sym (get_or-take t.len (bytes_of_words t.first t.second t.third) i 0 inside))
        (word_of_bytes t.first t.second t.third i (omega (arith, is.short))));
  }

  pub words_of_view : t.len ∷ t.first ∷ t.second ∷ t.third ∷ [] ≡ text_words (bytes_of_text t)
  words_of_view = λ i. sym length_of_view i ∷ is.words i

  pub byte_of_view : (at : ℕ) → at < t.len → get_or (bytes_of_words t.first t.second t.third) at 0 ≡ get_or (bytes_of_text t) at 0
  unfolding bytes_of_text
  byte_of_view at h = sym (get_or-take t.len (bytes_of_words t.first t.second t.third) at 0 h)

  padded_view : bytes_of_words t.first t.second t.third ≡ bytes_of_text t ++ replicate (TEXT_BYTES - length (bytes_of_text t)) 0
  unfolding byte_words
  padded_view =
      let word : (i : ℕ) → get_or (t.first ∷ t.second ∷ t.third ∷ []) i 0 ≡ get_or (byte_words (bytes_of_text t)) i 0 =
      λ i. ap (λ (ws : List ℕ). get_or ws i 0) is.words in
      (λ i. bytes_of_words (word 0 i) (word 1 i) (word 2 i)) ∙ bytes_padded (bytes_of_text t) text_of_view

  clean_view : are_zero (drop t.len (bytes_of_words t.first t.second t.third)) ≡ true
  clean_view =
      let zeros = replicate (TEXT_BYTES - length (bytes_of_text t)) 0 in
      ap (λ (bytes : List ℕ). are_zero (drop t.len bytes)) padded_view
      ∙ ap (λ (n : ℕ). are_zero (drop n (bytes_of_text t ++ zeros))) (sym length_of_view)
      ∙ ap are_zero (drop-append_seam (bytes_of_text t) zeros)
      ∙ are_zero-replicate (TEXT_BYTES - length (bytes_of_text t))

three :
    (a b c x y z : ℕ) → text_cmp (bytes_of_words a b c) (bytes_of_words x y z) ≡ ordering_then
    (ordering_then (text_cmp (to_le_bytes w64 a) (to_le_bytes w64 x)) (text_cmp (to_le_bytes w64 b) (to_le_bytes w64 y)))
    (text_cmp (to_le_bytes w64 c) (to_le_bytes w64 z))
unfolding bytes_of_words
three a b c x y z =
    let first = text_cmp (to_le_bytes w64 a) (to_le_bytes w64 x) in
    let second = text_cmp (to_le_bytes w64 b) (to_le_bytes w64 y) in
    let third = text_cmp (to_le_bytes w64 c) (to_le_bytes w64 z) in
    slice_cmp_append (to_le_bytes w64 a) (to_le_bytes w64 b ++ to_le_bytes w64 c) (to_le_bytes w64 x)
    (to_le_bytes w64 y ++ to_le_bytes w64 z) refl
    ∙ ap (ordering_then first) (slice_cmp_append (to_le_bytes w64 b) (to_le_bytes w64 c) (to_le_bytes w64 y) (to_le_bytes w64 z) refl)
    ∙ sym (then_assoc first second third)

-- texts are compared word by word, and then by their lengths
cmp_by_words :
    (t u : Inside) → IsTextInside t → IsTextInside u → ordering_then (ordering_then (ordering_then
    (text_cmp (to_le_bytes w64 t.first) (to_le_bytes w64 u.first))
    (text_cmp (to_le_bytes w64 t.second) (to_le_bytes w64 u.second))) (text_cmp (to_le_bytes w64 t.third)
    (to_le_bytes w64 u.third))) (nat_cmp t.len u.len) ≡ text_cmp (bytes_of_text t) (bytes_of_text u)
unfolding bytes_of_text
cmp_by_words t u is iu =
    ap (λ o. ordering_then o (nat_cmp t.len u.len)) (sym (three t.first t.second t.third u.first u.second u.third))
    ∙ sym (cmp_fronts (bytes_of_words t.first t.second t.third) (bytes_of_words u.first u.second u.third) t.len u.len
    (length-bytes_of_words t.first t.second t.third ∙ sym (length-bytes_of_words u.first u.second u.third))
    (omega (arith, length-bytes_of_words t.first t.second t.third, is.short))
    (omega (arith, length-bytes_of_words u.first u.second u.third, iu.short))
    (clean_view t is) (clean_view u iu))

-- where the first words are the same, the others tell
pub cmp_behind :
    (t u : Inside) → IsTextInside t → IsTextInside u
    → text_cmp (to_le_bytes w64 t.first) (to_le_bytes w64 u.first) ≡ Equal → ordering_then (ordering_then
    (text_cmp (to_le_bytes w64 t.second) (to_le_bytes w64 u.second)) (text_cmp (to_le_bytes w64 t.third)
    (to_le_bytes w64 u.third))) (nat_cmp t.len u.len) ≡ text_cmp (bytes_of_text t) (bytes_of_text u)
cmp_behind t u is iu same =
    ap (λ o. ordering_then (ordering_then (ordering_then o (text_cmp (to_le_bytes w64 t.second) (to_le_bytes w64 u.second)))
    (text_cmp (to_le_bytes w64 t.third) (to_le_bytes w64 u.third))) (nat_cmp t.len u.len)) (sym same)
    ∙ cmp_by_words t u is iu

-- and where they aren't, they tell alone
pub cmp_apart :
    (t u : Inside) → IsTextInside t → IsTextInside u → text_cmp (to_le_bytes w64 t.first) (to_le_bytes w64 u.first) ≢ Equal
    → text_cmp (to_le_bytes w64 t.first) (to_le_bytes w64 u.first) ≡ text_cmp (bytes_of_text t) (bytes_of_text u)
cmp_apart t u is iu apart = first_tells _ _ _ _ apart ∙ cmp_by_words t u is iu

-- the first bytes of 24 of which the others are 0, kept in place
module _
    (held : List ℕ) (len : ℕ) (long : length held ≡ TEXT_BYTES) (bytes : (i : ℕ) → get_or held i 0 < 256)
    (clean : are_zero (drop len held) ≡ true) where
  pub view_of_held :
      bytes_of_text (record {
        len = len;
        first = from_le_bytes w64 (drop 0 held);
        second = from_le_bytes w64 (drop 8 held);
        third =
            from_le_bytes w64 (drop 16 held);
      }) ≡ take len held
  unfolding bytes_of_text
  view_of_held = ap (take len) (bytes_back held long bytes)

  pub held_is_text :
      len ≤ TEXT_BYTES → IsTextInside (record {
        len = len;
        first = from_le_bytes w64 (drop 0 held);
        second = from_le_bytes w64
            (drop 8 held);
        third = from_le_bytes w64 (drop 16 held);
      })
  held_is_text short = record { short = short; words = words_of_front held len clean ∙ ap byte_words (sym view_of_held) }

-- words of which the bytes after the end are 0 are those of a text
words_back :
    (a b c : ℕ) → a < 2 ^ 64 → b < 2 ^ 64 → c < 2 ^ 64 → a ∷ b ∷ c ∷ [] ≡ from_le_bytes w64 (drop 0 (bytes_of_words a b c))
    ∷ from_le_bytes w64 (drop 8 (bytes_of_words a b c)) ∷ from_le_bytes w64 (drop 16 (bytes_of_words a b c)) ∷ []
unfolding bytes_of_words
words_back a b c first second third = λ i.
    sym (from_le_bytes-to_le_bytes_8 a first) i ∷ sym (from_le_bytes-to_le_bytes_8 b second) i
    ∷ sym (from_le_bytes-to_le_bytes_8 c third) i ∷ []

module _ (len a b c : ℕ) (short : len ≤ TEXT_BYTES) (clean : are_zero (drop len (bytes_of_words a b c)) ≡ true) where
  pub words_are_text :
      a < 2 ^ 64 → b < 2 ^ 64 → c < 2 ^ 64 → IsTextInside (record { len = len; first = a; second = b; third = c })
  unfolding bytes_of_text
  words_are_text first second third = record {
    short = short;
    words = words_back a b c first second third ∙ words_of_front (bytes_of_words a b c) len clean;
  }

  pub text_of_clean : text_of_words len a b c ≡ Some (bytes_of_text (record { len = len; first = a; second = b; third = c }))
  unfolding bytes_of_text
  text_of_clean = accepted len (bytes_of_words a b c) short clean

-- texts are the same exactly where their words are
pub same_texts : (s t : List ℕ) → IsText s → IsText t → pointwise nat_eq (text_words s) (text_words t) ≡ pointwise nat_eq s t
same_texts s t is it =
    let words = bytes_decides (text_words s) (text_words t) in
    let whole = bytes_decides s t in
    same_from_decides (pointwise nat_eq (text_words s) (text_words t)) (pointwise nat_eq s t)
    (λ e. same_by_words s t is it (words.0 e), λ e. words.1 (ap text_words e)) whole

pub are_zero-drop : (n : ℕ) (xs : List ℕ) → are_zero xs ≡ true → are_zero (drop n xs) ≡ true
are_zero-drop zero xs h = h
are_zero-drop (suc n) [] h = refl
are_zero-drop (suc n) (x ∷ xs) h = are_zero-drop n xs (second_so (x == 0) (are_zero xs) h)
