-- The slots that wait to be closed: whose they are, and of which epochs.
use Rattle.std.proofs.Common.{◌≡◌, ℕ, ◌≤◌, List, [], ◌∷◌, ◌++◌, refl, ap, inl, inr, arith, Bool, true, false}
use Rattle.std.specs.Prelude.{◌≢◌, ◌==◌, not, filter, All, AllPairs, Option, Some, None, if◌then◌else◌}
use Rattle.std.specs.List.{Contains}
use Rattle.std.proofs.lemmas.List.Elements.{All-contains, All-nil, All-cons, All-append, All-head, All-tail}
use Rattle.std.proofs.lemmas.Bool.{ne_eqb, not_from_false}
use Rattle.std.proofs.lemmas.List.Kept.{AllPairs-cons}
use Rattle.mont_base.specs.declared.record.Held.{Held}
use Rattle.mont_base.specs.Versions.{is_delete, newest_of}
use Rattle.mont_laws.specs.Records.{AreApart, without_slot}
use Rattle.mont_laws.specs.declared.retiring.Retired.{Retired}
use Rattle.mont_laws.specs.Retiring.{Retires, IsIn, IsRetireEpoch, IsRetiredRecord, StandOnce, retired_by, retired_by_all}
use Rattle.mont_laws.proofs.Members.{first_element, later_element, element_cases, no_element, pairs_head, pairs_tail, all_elements}
use Rattle.mont_laws.proofs.ByVersion.{are_retired}
use Rattle.core_steps.specs.Closing.{without_retired}

-- ---- lists
-- lists of which each two elements are related, one after the other
pub pairs_append : {A : Type 0} (R : A → A → Type 0) (xs ys : List A) → AllPairs R xs → AllPairs R ys
    → ((a b : A) → Contains xs a → Contains ys b → R a b) → AllPairs R (xs ++ ys)
pairs_append R [] ys h g across = g
pairs_append R (x ∷ xs) ys h g across = AllPairs-cons R x (xs ++ ys)
    (All-append (R x) xs ys (pairs_head R x xs h) (all_elements (R x) ys (λ b c. across x b (first_element x xs) c)))
    (pairs_append R xs ys (pairs_tail R x xs h) g (λ a b c e. across a b (later_element x xs a c) e))

-- what holds of each two elements of a list
pub pairs_all : {A : Type 0} (R : A → A → Type 0) (xs : List A) → ((a b : A) → Contains xs a → Contains xs b → R a b) → AllPairs R xs
pairs_all R [] each = λ i j d lt within. absurd (omega arith)
pairs_all R (x ∷ xs) each = AllPairs-cons R x xs
    (all_elements (R x) xs (λ b c. each x b (first_element x xs) (later_element x xs b c)))
    (pairs_all R xs (λ a b c e. each a b (later_element x xs a c) (later_element x xs b e)))

-- a filter that every element passes
pub filter_whole : {A : Type 0} (p : A → Bool) (xs : List A) → ((a : A) → Contains xs a → p a ≡ true) → filter p xs ≡ xs
filter_whole p [] each = refl
filter_whole p (x ∷ xs) each =
    rw (each x (first_element x xs)) (ap (λ ys. x ∷ ys) (filter_whole p xs (λ a c. each a (later_element x xs a c))))

-- ---- slots
-- dropping a slot that no record has drops none of them
pub without_free : (slot : ℕ) (rs : List Held) → ((r : Held) → Contains rs r → r.slot ≢ slot) → without_slot slot rs ≡ rs
without_free slot rs other = filter_whole (λ (r : Held). not (r.slot == slot)) rs
    (λ r a. not_from_false (r.slot == slot) (ne_eqb r.slot slot (other r a)))

-- and so with one that isn't retired
pub without_none : (slot : ℕ) (ts : List Retired) → ((t : Retired) → Contains ts t → t.slot ≢ slot) → without_retired slot ts ≡ ts
without_none slot ts other = filter_whole (λ (t : Retired). not (t.slot == slot)) ts
    (λ t c. not_from_false (t.slot == slot) (ne_eqb t.slot slot (other t c)))

-- each slot of a queue stands in it
pub in_queue : (ts : List Retired) (t : Retired) → Contains ts t → IsIn t.slot ts
in_queue [] t c = absurd (no_element t c)
in_queue (v ∷ ts) t c = elim (element_cases v ts t c) [ inl e ↦ inl (ap (λ (x : Retired). x.slot) e) | inr k ↦ inr (in_queue ts t k) ]

module _ (rs : List Held) (ts : List Retired) (apart : AreApart rs) (h : Retires rs ts) where
  -- each slot is that of a record
  pub slot_record : (t : Retired) → Contains ts t → IsRetiredRecord rs t
  slot_record t a = All-contains (IsRetiredRecord rs) ts t (are_retired ts rs apart h).each a

  -- no slot stands twice
  pub slots_once : StandOnce ts
  slots_once = (are_retired ts rs apart h).once

  -- the epochs are those of records
  pub retired_low : (n : ℕ) → All (λ (r : Held). r.label.epoch ≤ n) rs → (t : Retired) → Contains ts t → t.epoch ≤ n
  retired_low n low t a = by (slot_record t a).epoch
    where
      low_of : (r : Held) → Contains rs r → r.label.epoch ≤ n
      low_of r c = All-contains (λ (r : Held). r.label.epoch ≤ n) rs r low c

      by : IsRetireEpoch rs (slot_record t a).retired_record t.epoch → t.epoch ≤ n
      by (inl k) = let l = low_of k.0 k.1.later.there in omega (arith, k.2)
      by (inr k) = let l = low_of (slot_record t a).retired_record (slot_record t a).there in omega (arith, k.1)

-- ---- what written records retire has their epoch
module _ (rs : List Held) (n : ℕ) where
  -- by one of them,
  retired_by_at : (o : Option Held) (w : Held) → w.label.epoch ≡ n → All (λ (t : Retired). t.epoch ≡ n) (retired_by o w)
  retired_by_at None w at = All-nil (λ (t : Retired). t.epoch ≡ n)
  retired_by_at (Some victim) w at =
      All-cons (λ (t : Retired). t.epoch ≡ n) (record { slot = victim.slot; epoch = w.label.epoch })
      (if is_delete w.label.kind then record { slot = w.slot; epoch = w.label.epoch } ∷ [] else []) at (by (is_delete w.label.kind))
    where
      by : (t : Bool) → All (λ (t : Retired). t.epoch ≡ n) (if t then record { slot = w.slot; epoch = w.label.epoch } ∷ [] else [])
      by true = All-cons (λ (t : Retired). t.epoch ≡ n) (record { slot = w.slot; epoch = w.label.epoch }) [] at
          (All-nil (λ (t : Retired). t.epoch ≡ n))
      by false = All-nil (λ (t : Retired). t.epoch ≡ n)

  -- and by all
  pub retired_at : (ws : List Held) → All (λ (w : Held). w.label.epoch ≡ n) ws → All (λ (t : Retired). t.epoch ≡ n) (retired_by_all rs ws)
  retired_at [] at = All-nil (λ (t : Retired). t.epoch ≡ n)
  retired_at (w ∷ ws) at = All-append (λ (t : Retired). t.epoch ≡ n) (retired_by (newest_of w.label.identity rs) w) (retired_by_all rs ws)
      (retired_by_at (newest_of w.label.identity rs) w (All-head (λ (w : Held). w.label.epoch ≡ n) w ws at))
      (retired_at ws (All-tail (λ (w : Held). w.label.epoch ≡ n) w ws at))
