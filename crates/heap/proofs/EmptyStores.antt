-- A store that was never used opens with the fresh core.
use Rattle.std.proofs.Common.{◌≡◌, ℕ, zero, suc, ◌+◌, ◌<◌, Bool, true, false, cond, List, [], ◌∷◌, map, replicate, ap, refl, ◌∙◌, subst, arith, eq-eqb}
use Rattle.std.specs.Prelude.{filter, nat_lt, ◌==◌, ◌||◌, ◌&&◌}
use Rattle.std.specs.List.{range_with_len}
use Rattle.mont_base.specs.declared.record.Held.{Held}
use Rattle.mont_base.specs.Layout.{Shape, IsLayout, units_of}
use Rattle.mont_base.specs.Image.{cut_of, epoch_at, slots_of}
use Rattle.mont_laws.specs.Records.{AreSameRecords}
use Rattle.mont_laws.specs.Retiring.{retired_among}
use Rattle.mont_laws.specs.SettledWords.{IsEmptyStore}
use Rattle.mont_laws.proofs.Members.{no_element, first_element}
use Rattle.mont_laws.proofs.SettledWords.{empty_words_are_a_store}
use Rattle.core_steps.specs.declared.parts.UnitPart.{UnitPart}
use Rattle.core_steps.specs.Fresh.{fresh_words, fresh_unit, fresh}
use Rattle.core_steps.specs.Opened.{by_version, slots_beyond, recovered_unit, recovered}
use Rattle.core_steps.specs.Stages.{is_empty}
use Rattle.core_steps.proofs.VersionOrder.{versions_same}
use Rattle.heap_rule.specs.Views.{is_among, are_clean, clean_at}
use Rattle.heap.specs.FreshOpening.{fresh_opening, OpensEmpty}

-- ---- lists
none_pass : (P : ℕ → Bool) → ((x : ℕ) → P x ≡ false) → (xs : List ℕ) → filter P xs ≡ []
none_pass P fails [] = refl
none_pass P fails (x ∷ xs) = ap (λ (b : Bool). cond b (x ∷ filter P xs) (filter P xs)) (fails x) ∙ none_pass P fails xs

each_passes : (P : ℕ → Bool) → ((x : ℕ) → P x ≡ true) → (xs : List ℕ) → filter P xs ≡ xs
each_passes P fits [] = refl
each_passes P fits (x ∷ xs) =
    ap (λ (b : Bool). cond b (x ∷ filter P xs) (filter P xs)) (fits x) ∙ ap (λ (ys : List ℕ). x ∷ ys) (each_passes P fits xs)

copies : {A : Type 0} (f : ℕ → A) (a : A) → ((x : ℕ) → f x ≡ a) → (n from : ℕ) → map f (range_with_len from n) ≡ replicate n a
copies f a same zero from = refl
copies f a same (suc n) from = λ i. same from i ∷ copies f a same n (from + 1) i

-- a range has its numbers
pub or_right : (b c : Bool) → c ≡ true → (b || c) ≡ true
or_right true c e = refl
or_right false c e = e

pub in_range : (n from k : ℕ) → k < n → is_among (range_with_len from n) (from + k) ≡ true
in_range zero from k low = absurd (omega arith)
in_range (suc n) from zero low =
    let same : from ≡ from + 0 = omega arith in
    ap (λ (b : Bool). b || is_among (range_with_len (from + 1) n) (from + 0)) (eq-eqb from (from + 0) same)
in_range (suc n) from (suc k) low =
    let same : from + 1 + k ≡ from + suc k = omega arith in
    or_right (from == from + suc k) (is_among (range_with_len (from + 1) n) (from + suc k))
    (subst (λ (u : ℕ). is_among (range_with_len (from + 1) n) u ≡ true) same (in_range n (from + 1) k (omega arith)))

are_clean_in : (n : ℕ) (clean : List ℕ) → ((u : ℕ) → u < n → is_among clean u ≡ true) → are_clean n clean ≡ true
are_clean_in zero clean each = refl
are_clean_in (suc n) clean each =
    (λ i. each n (omega arith) i && are_clean n clean) ∙ are_clean_in n clean (λ u low. each u (omega arith))

-- no records are none in any order
none_of_none : (rs : List Held) → AreSameRecords [] rs → rs ≡ []
none_of_none [] same = refl
none_of_none (r ∷ rs) same = absurd (no_element r ((same r).1 (first_element r rs)))

none_by_version : by_version [] ≡ []
none_by_version = none_of_none (by_version []) (versions_same [] (λ i j d low high. absurd (omega arith)))

-- ---- the store
module _ (s : Shape) (layout : IsLayout s) where
  store : IsEmptyStore s (fresh_words s)
  store = empty_words_are_a_store s layout

  none_beyond : (u : ℕ) → slots_beyond s (fresh_words s) u ≡ []
  none_beyond u = none_pass (λ slot. nat_lt (cut_of (fresh_words s)) (epoch_at (fresh_words s) slot)) fails (slots_of s u)
    where
      fails : (slot : ℕ) → nat_lt (cut_of (fresh_words s)) (epoch_at (fresh_words s) slot) ≡ false
      fails slot = ap (nat_lt 0) (store.closed slot)

  pub nothing_recovered : (u : ℕ) → recovered_unit s (fresh_words s) u ≡ fresh_unit
  nothing_recovered u = λ i. record fresh_unit {
    records = store.records u i;
    retired = (ap (λ (rs : List Held). retired_among (by_version rs)) (store.records u) ∙ ap retired_among none_by_version) i;
    lost = none_beyond u i;
  }

  core_is : (callers : ℕ) → recovered s (fresh_words s) callers ≡ fresh s callers
  core_is callers = ap (λ (units : List UnitPart). record (fresh s callers) { units = units })
      (copies (recovered_unit s (fresh_words s)) fresh_unit nothing_recovered (units_of s) 0)

  all_clean : (callers : ℕ) → are_clean (units_of s) (clean_at (fresh_opening s callers)) ≡ true
  all_clean callers =
      ap (are_clean (units_of s))
      (each_passes (λ u. is_empty (slots_beyond s (fresh_words s) u)) (λ u. ap is_empty (none_beyond u)) (range_with_len 0 (units_of s)))
      ∙ are_clean_in (units_of s) (range_with_len 0 (units_of s))
      (λ u low. subst (λ (v : ℕ). is_among (range_with_len 0 (units_of s)) v ≡ true) (begins u) (in_range (units_of s) 0 u low))
    where
      begins : (u : ℕ) → 0 + u ≡ u
      begins u = omega arith

  pub opens_empty : (callers : ℕ) → OpensEmpty s callers
  opens_empty callers = record {
    words = store.well_formed;
    base = store.recovered;
    core = core_is callers;
    each_unit = λ u low. nothing_recovered u;
    clean = all_clean callers;
  }
