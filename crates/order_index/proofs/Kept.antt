-- What an ordered index keeps is its finite map, and so it stays when a key is put or taken out.
use Rattle.std.proofs.Common.{refl, ◌≡◌, ℕ, ◌+◌, ◌≤◌, [], ◌∷◌, ◌++◌, length, take, drop, set, ap, ◌∙◌, arith, length-append, length-take, length-set, append_assoc}
use Rattle.std.proofs.lemmas.List.{length-drop}
use Rattle.std.specs.FinMap as finite
use Rattle.mont_base.specs.State.{Key}
use Rattle.index_kit.specs.Index.{Places, Entries, IndexView, CanPut}
use Rattle.order_index.specs.OrderIndex.{IsKeptInOrder, IsHeldAt, IsMissingAt}
use Rattle.order_index.proofs.Listed.{listed, rises, got_none, set_held, put_in, taken_out}

module _ (es waiting : Entries) (v : IndexView) (kept : IsKeptInOrder es waiting)
    (is : record { places = finite.from_sorted es; spare = length waiting } ≡ v) where
  pub entries_of : finite.entries v.places ≡ es
  entries_of = listed v.places es kept.sorted (ap (λ (w : IndexView). w.places) is)

  -- where a key that isn't there may be put, a node waits for it
  pub waits_for : (key : Key) (at : ℕ) → IsMissingAt es key at → CanPut v.places v.spare key → 1 ≤ length waiting
  waits_for key at missing can =
      let spare : length waiting ≡ v.spare = ap (λ (w : IndexView). w.spare) is in
      let room : 1 ≤ v.spare = can (got_none v.places es entries_of key at missing) in
      omega (arith, spare, room)

module _ (es waiting : Entries) (kept : IsKeptInOrder es waiting) (m : Places) (is : finite.entries m ≡ es) (key : Key) (at : ℕ) where
  pub set_kept : IsHeldAt es key at → (place : ℕ) → IsKeptInOrder (set es at (key, place)) waiting
  set_kept held place = record {
    sorted = rises _ _ (set_held m es is key at held place);
    one = kept.one;
    few = let n = length-set es at (key, place) in omega (arith, n, kept.few);
  }

  pub put_kept : IsMissingAt es key at → 1 ≤ length waiting → (place : ℕ) → IsKeptInOrder (take at es ++ (key, place) ∷ drop at es) []
  put_kept missing room place = record {
    sorted = rises _ _ (put_in m es is key at missing place);
    one = omega arith;
    few =
        let n = length-append (take at es) ((key, place) ∷ drop at es) in
        let t = length-take at es in let d = length-drop at es in
        omega (arith, n, t, d, kept.few, room, missing.within);
  }

  pub taken_kept : IsHeldAt es key at → IsKeptInOrder (take at es ++ drop (at + 1) es) waiting
  taken_kept held = record {
    sorted = rises _ _ (taken_out m es is key at held);
    one = kept.one;
    few =
        let n = length-append (take at es) (drop (at + 1) es) in
        let t = length-take at es in let d = length-drop (at + 1) es in
        omega (arith, n, t, d, kept.few);
  }

-- ---- the node that waited, with the entry that is put
one_set : (w : Entries) (x : Key × ℕ) → length w ≡ 1 → set w 0 x ≡ x ∷ []
one_set [] x e = absurd (omega arith)
one_set (y ∷ []) x e = refl
one_set (y ∷ z ∷ w) x e = absurd (omega arith)

pub put_new : (es waiting node new : Entries) (at : ℕ) (x : Key × ℕ) → IsKeptInOrder es waiting → 1 ≤ length waiting
    → node ≡ set waiting 0 x
    → new ≡ take at es ++ node ++ drop at es → new ≡ take at es ++ x ∷ drop at es
put_new es waiting node new at x kept room is made =
    let alone : node ≡ x ∷ [] = is ∙ one_set waiting x (omega (arith, kept.one, room)) in
    made ∙ ap (λ (l : Entries). take at es ++ l ++ drop at es) alone ∙ append_assoc (take at es) (x ∷ []) (drop at es)
