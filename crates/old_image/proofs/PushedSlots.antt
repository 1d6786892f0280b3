-- Slots whose words are added one after the other.
use Rattle.std.proofs.Common.{◌≡◌, ℕ, suc, ◌+◌, ◌<◌, ◌≤◌, List, ◌∷◌, ◌++◌, length, take, replicate, refl, sym, ap, ◌∙◌, subst, arith}
use Rattle.std.specs.Prelude.{◌≢◌, Option, Some, None}
use Rattle.std.specs.List.{Contains, cons_option, filter_map, range_with_len}
use Rattle.mont_base.specs.declared.constants.TheConstants.{FIELDS, LABEL, LAST}
use Rattle.mont_base.specs.declared.record.Object.{Object}
use Rattle.mont_base.specs.Image.{clock_of, words_at}
use Rattle.mont_base.specs.Layout.{Shape, total_of, words_of}
use Rattle.mont_laws.proofs.Mapped.{mapped_from, range_bounds}
use Rattle.mont_laws.proofs.Members.{first_element}
use Rattle.old_image.specs.Migration.{PushesSlot, object_at}
use Rattle.old_image.proofs.LiveSlots.{no_object, object_is, object_slot}

pub same_first : {A : Type 0} (x y : A) (xs ys : List A) → x ∷ xs ≡ y ∷ ys → x ≡ y
same_first x y xs ys e = cc

same_rest : {A : Type 0} (x y : A) (xs ys : List A) → x ∷ xs ≡ y ∷ ys → xs ≡ ys
same_rest x y xs ys e = cc

pub some_there : {A : Type 0} (x : A) (xs : List A) → length (x ∷ xs) ≡ 0 → ⊥
some_there x xs e = omega arith

-- the first of these objects doesn't stand in the slot
abbrev pub IsNotHere : ℕ → List Object → Type 0
IsNotHere slot os = (o : Object) (rest : List Object) → os ≡ o ∷ rest → o.slot ≢ slot

module _ (s : Shape) (wide : List ℕ) (size : length wide ≡ words_of s) (clock : clock_of wide ≤ LAST) (slot : ℕ)
    (inside : slot < total_of s) (left : ℕ) where
  abbrev rest : List Object
  rest = filter_map (object_at s wide) (range_with_len (slot + 1) left)

  split : (os : List Object) → os ≡ filter_map (object_at s wide) (range_with_len slot (1 + left))
      → os ≡ cons_option (object_at s wide slot) rest
  split os e = let next : 1 + left ≡ suc left = omega arith in
      e ∙ ap (λ (n : ℕ). filter_map (object_at s wide) (range_with_len slot n)) next

  -- what stands after the slot
  behind_slot : (o : Object) → Contains rest o → slot < o.slot
  behind_slot o h =
      let at = mapped_from (object_at s wide) o (range_with_len (slot + 1) left) h in
      let low = (range_bounds at.0 (slot + 1) left at.1).0 in
      let there = object_slot s wide at.0 o at.2 in
      omega arith

  pub taken : (o : Object) (os behind : List Object) (before now : List ℕ) → os ≡ o ∷ behind
      → os ≡ filter_map (object_at s wide) (range_with_len slot (1 + left)) → o.slot ≡ slot
      → now ≡ before ++ (take LABEL (words_at wide slot) ++ o.body) → PushesSlot s wide slot left before now behind
  taken o os behind before now is all there words = by (object_at s wide slot) refl (sym is ∙ split os all)
    where
      by : (p : Option Object) → object_at s wide slot ≡ p → o ∷ behind ≡ cons_option p rest → PushesSlot s wide slot left before now behind
      by None e same =
          let later = behind_slot o (subst (λ (xs : List Object). Contains xs o) same (first_element o behind)) in absurd (omega arith)
      by (Some p) e same = record {
        words = words ∙ ap (λ (ws : List ℕ). before ++ ws) (object_is s wide size clock slot o inside
            (e ∙ ap Some (sym (same_first o p behind rest same)))).1;
        objects = same_rest o p behind rest same;
      }

  pub passed : (os : List Object) (before now : List ℕ) → IsNotHere slot os
      → os ≡ filter_map (object_at s wide) (range_with_len slot (1 + left)) → now ≡ before ++ replicate FIELDS 0
      → PushesSlot s wide slot left before now os
  passed os before now away all words = by (object_at s wide slot) refl (split os all)
    where
      by : (p : Option Object) → object_at s wide slot ≡ p → os ≡ cons_option p rest → PushesSlot s wide slot left before now os
      by None e same = record {
        words = words ∙ ap (λ (ws : List ℕ). before ++ ws) (sym (no_object s wide size clock slot e));
        objects = same;
      }
      by (Some p) e same = absurd (away p rest same (object_slot s wide slot p e))
