-- What a cut lets through before and after records and an entry are added.
use Rattle.std.proofs.Common.{◌≡◌, ℕ, ◌<◌, ◌≤◌, List, [], ◌∷◌, ◌++◌, append-nil, sym, refl, ap, ◌∙◌, subst, arith, Bool, true, false}
use Rattle.std.specs.Prelude.{nat_le, filter, All}
use Rattle.std.proofs.lemmas.Bool.Decides.{nat_tests}
use Rattle.std.proofs.lemmas.List.Elements.{filter-append, All-head, All-tail, All-weaker, All-cons, All-nil}
use Rattle.mont_base.specs.declared.record.Held.{Held}
use Rattle.mont_base.specs.declared.operation.Entry.{Entry}
use Rattle.mont_base.specs.Layout.{Shape}
use Rattle.mont_base.specs.State.{State, step}
use Rattle.mont_base.specs.History.{state_after, cut_at}
use Rattle.mont_laws.specs.Records.{cut_records}
use Rattle.mont_laws.specs.Structures.{HasStructure, FollowsHistory}
use Rattle.mont_laws.specs.Effects.{AreEffects, IsOpOf, AreNewest}
use Rattle.mont_laws.proofs.Shown.{effects_lead}

module _ {A : Type 0} (epoch : A → ℕ) (x : ℕ) where
  pub all_pass : (xs : List A) → All (λ a. epoch a ≤ x) xs → filter (λ a. nat_le (epoch a) x) xs ≡ xs
  all_pass [] h = refl
  all_pass (a ∷ xs) h =
      let low = All-head (λ a. epoch a ≤ x) a xs h in
      let t : nat_le (epoch a) x ≡ true = grind (arith, nat_tests) in
      rw t (ap (λ ys. a ∷ ys) (all_pass xs (All-tail (λ a. epoch a ≤ x) a xs h)))

  none_passes : (xs : List A) → All (λ a. x < epoch a) xs → filter (λ a. nat_le (epoch a) x) xs ≡ []
  none_passes [] h = refl
  none_passes (a ∷ xs) h =
      let high = All-head (λ a. x < epoch a) a xs h in
      let t : nat_le (epoch a) x ≡ false = grind (arith, nat_tests) in
      rw t (none_passes xs (All-tail (λ a. x < epoch a) a xs h))

  -- Below the epoch of what is added nothing changes, and from it on all counts.
  pub added_above : (xs ys : List A) → All (λ b. x < epoch b) ys
      → filter (λ a. nat_le (epoch a) x) (xs ++ ys) ≡ filter (λ a. nat_le (epoch a) x) xs
  added_above xs ys h = filter-append (λ a. nat_le (epoch a) x) xs ys
      ∙ ap (λ zs. filter (λ a. nat_le (epoch a) x) xs ++ zs) (none_passes ys h) ∙ append-nil _

  pub added_within : (xs ys : List A) → All (λ a. epoch a ≤ x) xs → All (λ b. epoch b ≤ x) ys
      → filter (λ a. nat_le (epoch a) x) (xs ++ ys) ≡ xs ++ ys
  added_within xs ys g h = filter-append (λ a. nat_le (epoch a) x) xs ys
      ∙ ap (λ zs. zs ++ filter (λ a. nat_le (epoch a) x) ys) (all_pass xs g) ∙ ap (λ zs. xs ++ zs) (all_pass ys h)

abbrev record_epoch : Held → ℕ
record_epoch r = r.label.epoch

abbrev entry_epoch : Entry → ℕ
entry_epoch d = d.epoch

pub after_push : (base : State) (h : List Entry) (e : Entry) → state_after base (h ++ e ∷ []) ≡ (step (state_after base h) e.op).state
after_push base [] e = refl
after_push base (d ∷ h) e = after_push (step base d.op).state h e

module _ (s : Shape) (unit : ℕ) (base : State) where
  -- The records written at an epoch that is not below any so far, and the entry that goes with them.
  pub follows_on : (x : ℕ) (rs ws : List Held) (h : List Entry) (e : Entry) → IsOpOf s unit e.op → AreNewest rs ws h e
      → AreEffects unit rs (step (state_after base h) e.op).effects ws → FollowsHistory s unit base x rs h
      → FollowsHistory s unit base x (rs ++ ws) (h ++ e ∷ [])
  follows_on x rs ws h e op new are so_far = by (nat_le e.epoch x) refl
    where
      by : (t : Bool) → nat_le e.epoch x ≡ t → FollowsHistory s unit base x (rs ++ ws) (h ++ e ∷ [])
      by true f =
          let within : e.epoch ≤ x = grind (arith, nat_tests) in
          let old = All-weaker (λ (r : Held). r.label.epoch ≤ e.epoch) (λ (r : Held). r.label.epoch ≤ x)
          (λ r l. omega (arith, l)) rs new.records_before in
          let late = All-weaker (λ (w : Held). w.label.epoch ≡ e.epoch) (λ (w : Held). w.label.epoch ≤ x)
          (λ w l. omega (arith, l)) ws new.written_at in
          let past = All-weaker (λ (d : Entry). d.epoch ≤ e.epoch) (λ (d : Entry). d.epoch ≤ x)
          (λ d l. omega (arith, l)) h new.entries_before in
          let now : HasStructure s unit rs (state_after base h) =
          subst (λ (qs : List Held). HasStructure s unit qs (state_after base h)) (all_pass record_epoch x rs old)
          (subst (λ (g : List Entry). HasStructure s unit (cut_records x rs) (state_after base g))
          (all_pass entry_epoch x h past) so_far) in
          subst (λ (qs : List Held). HasStructure s unit qs (state_after base (cut_at x (h ++ e ∷ []))))
          (sym (added_within record_epoch x rs ws old late))
          (subst (λ (g : List Entry). HasStructure s unit (rs ++ ws) (state_after base g))
          (sym (added_within entry_epoch x h (e ∷ []) past
          (All-cons (λ (d : Entry). d.epoch ≤ x) e [] within (All-nil (λ (d : Entry). d.epoch ≤ x)))))
          (subst (HasStructure s unit (rs ++ ws)) (sym (after_push base h e))
          (effects_lead s unit rs ws (state_after base h) e.op op now are)))
      by false f =
          let above : x < e.epoch = grind (arith, nat_tests) in
          let late = All-weaker (λ (w : Held). w.label.epoch ≡ e.epoch) (λ (w : Held). x < w.label.epoch)
          (λ w l. omega (arith, l)) ws new.written_at in
          subst (λ (qs : List Held). HasStructure s unit qs (state_after base (cut_at x (h ++ e ∷ []))))
          (sym (added_above record_epoch x rs ws late))
          (subst (λ (g : List Entry). HasStructure s unit (cut_records x rs) (state_after base g))
          (sym (added_above entry_epoch x h (e ∷ [])
          (All-cons (λ (d : Entry). x < d.epoch) e [] above (All-nil (λ (d : Entry). x < d.epoch))))) so_far)

  -- records that were found count in each cut that has them
  pub follows_found : (x : ℕ) (rs : List Held) → All (λ (r : Held). r.label.epoch ≤ x) rs → HasStructure s unit rs base
      → FollowsHistory s unit base x rs []
  follows_found x rs low is = subst (λ (qs : List Held). HasStructure s unit qs base) (sym (all_pass record_epoch x rs low)) is
