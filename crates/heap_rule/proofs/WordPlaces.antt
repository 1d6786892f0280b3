-- The words of the machine among those of the table: what a store of each kind changes, and what a load
-- finds.
use Rattle.std.proofs.Common.{◌≡◌, ℕ, zero, suc, ◌+◌, ◌-◌, ◌*◌, ◌<◌, List, [], ◌∷◌, ◌++◌, length, set, get_or, length-append, refl, ap, ◌∙◌, arith}
use Rattle.std.specs.Prelude.{slice_index}
use Rattle.std.proofs.lemmas.List.{set-append_left, set-append_right, get_or-append_right}
use lib.ListN.{get_or-append}
use Rattle.heap_rule.specs.TableWords.{spread, laid_out, slot_at, field_at}

-- ---- announcements, eight words apart
eight_more : (u : ℕ) → 8 * suc u ≡ suc (suc (suc (suc (suc (suc (suc (suc (8 * u))))))))
eight_more u = omega arith

set_spread : (ws : List ℕ) (u x : ℕ) → set (spread ws) (8 * u) x ≡ spread (set ws u x)
set_spread [] u x = refl
set_spread (w ∷ ws) zero x = refl
set_spread (w ∷ ws) (suc u) x = ap (λ (i : ℕ). set (spread (w ∷ ws)) i x) (eight_more u)
    ∙ (λ k. w ∷ 0 ∷ 0 ∷ 0 ∷ 0 ∷ 0 ∷ 0 ∷ 0 ∷ set_spread ws u x k)

get_spread : (ws : List ℕ) (u : ℕ) → slice_index (spread ws) (8 * u) ≡ slice_index ws u
get_spread [] u = refl
get_spread (w ∷ ws) zero = refl
get_spread (w ∷ ws) (suc u) = ap (slice_index (spread (w ∷ ws))) (eight_more u) ∙ get_spread ws u

pub length_spread : (ws : List ℕ) → length (spread ws) ≡ 8 * length ws
length_spread [] = refl
length_spread (w ∷ ws) = let e = length_spread ws in omega (arith, e)

module _ (cur dur told : List ℕ) where
  -- ---- stores
  pub set_current : (i x : ℕ) → i < length cur → set (laid_out cur dur told) i x ≡ laid_out (set cur i x) dur told
  set_current i x l = set-append_left cur (dur ++ spread told) i x l

  pub set_durable : (n i x : ℕ) → length cur ≡ n → i < length dur
      → set (laid_out cur dur told) (n + i) x ≡ laid_out cur (set dur i x) told
  set_durable n i x e l =
      let at : n + i - n ≡ i = omega arith in
      set-append_right cur (dur ++ spread told) n (n + i) x e (omega arith)
      ∙ ap (λ (j : ℕ). cur ++ set (dur ++ spread told) j x) at
      ∙ ap (λ (ws : List ℕ). cur ++ ws) (set-append_left dur (spread told) i x l)

  pub set_announced : (n u x : ℕ) → length cur ≡ n → length dur ≡ n
      → set (laid_out cur dur told) (2 * n + 8 * u) x ≡ laid_out cur dur (set told u x)
  set_announced n u x e f =
      let at : 2 * n + 8 * u - n ≡ n + 8 * u = omega arith in
      let behind : n + 8 * u - n ≡ 8 * u = omega arith in
      set-append_right cur (dur ++ spread told) n (2 * n + 8 * u) x e (omega arith)
      ∙ ap (λ (j : ℕ). cur ++ set (dur ++ spread told) j x) at
      ∙ ap (λ (ws : List ℕ). cur ++ ws)
      (set-append_right dur (spread told) n (n + 8 * u) x f (omega arith)
      ∙ ap (λ (j : ℕ). dur ++ set (spread told) j x) behind
      ∙ ap (λ (ws : List ℕ). dur ++ ws) (set_spread told u x))

  -- ---- loads
  pub get_current : (i : ℕ) → i < length cur → slice_index (laid_out cur dur told) i ≡ slice_index cur i
  get_current i l = get_or-append cur (dur ++ spread told) 0 i l

  pub get_durable : (n i : ℕ) → length cur ≡ n → i < length dur → slice_index (laid_out cur dur told) (n + i) ≡ slice_index dur i
  get_durable n i e l =
      let at : n + i - n ≡ i = omega arith in
      get_or-append_right cur (dur ++ spread told) n (n + i) 0 e (omega arith)
      ∙ ap (λ (j : ℕ). get_or (dur ++ spread told) j 0) at
      ∙ get_or-append dur (spread told) 0 i l

  pub get_announced : (n u : ℕ) → length cur ≡ n → length dur ≡ n
      → slice_index (laid_out cur dur told) (2 * n + 8 * u) ≡ slice_index told u
  get_announced n u e f =
      let at : 2 * n + 8 * u - n ≡ n + 8 * u = omega arith in
      let behind : n + 8 * u - n ≡ 8 * u = omega arith in
      get_or-append_right cur (dur ++ spread told) n (2 * n + 8 * u) 0 e (omega arith)
      ∙ ap (λ (j : ℕ). get_or (dur ++ spread told) j 0) at
      ∙ get_or-append_right dur (spread told) n (n + 8 * u) 0 f (omega arith)
      ∙ ap (λ (j : ℕ). get_or (spread told) j 0) behind
      ∙ get_spread told u

  pub length_laid_out : length (laid_out cur dur told) ≡ length cur + length dur + 8 * length told
  length_laid_out =
      let e = length-append cur (dur ++ spread told) in
      let f = length-append dur (spread told) in
      let g = length_spread told in
      omega (arith, e, f, g)

-- ---- a word of a slot
pub slot_at_word : (slot field : ℕ) → field < 12 → slot_at (1 + 12 * slot + field) ≡ slot
slot_at_word slot field l = omega arith

pub field_at_word : (slot field : ℕ) → field < 12 → field_at (1 + 12 * slot + field) ≡ field
field_at_word slot field l = omega arith
