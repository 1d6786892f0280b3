-- What holds of all receipts that name the entries holds of each entry.
use Rattle.std.proofs.Common.{T, ◌≡◌, ℕ, ◌<◌, Bool, true, false, List, [], ◌∷◌, sym, refl, ap, ◌∙◌, subst, arith}
use Rattle.std.specs.Prelude.{◌&&◌, ◌==◌, slice_get, Some, All, count_by}
use Rattle.std.proofs.Math.Facts.{eqb_yes}
use Rattle.std.proofs.lemmas.List.Elements.{All-head, All-tail}
use Rattle.std.proofs.lemmas.Option.{same_Some}
use Rattle.mont_base.specs.declared.operation.Entry.{Entry}
use Rattle.mont_base.specs.declared.operation.Receipt.{Receipt}
use Rattle.mont_base.specs.Seen.{IsEntryAt, names_place}
use Rattle.core_steps.proofs.RowFacts.{all_at}
use Rattle.store_stop.proofs.Items.{all_gives}
use Rattle.unit_totals.specs.Naming.{NameEachOnce}

pub both : (a b : Bool) → (a && b) ≡ true → (a ≡ true) × (b ≡ true)
both true true e = (refl, refl)
both true false e = absurd (cc e)
both false b e = absurd (cc e)

-- one of the receipts names the place
pub found : (P : Receipt → Type 0) (p : Receipt → Bool) (rs : List Receipt) → All P rs → 0 < count_by p rs
    → (r : Receipt) × (p r ≡ true) × P r
found P p [] all some = absurd (omega (arith, some))
found P p (r ∷ rs) all some = by (p r) refl (found P p rs (All-tail P r rs all))
  where
    by : (b : Bool) → p r ≡ b → (0 < count_by p rs → (x : Receipt) × (p x ≡ true) × P x) → (x : Receipt) × (p x ≡ true) × P x
    by true e rest = (r, e, All-head P r rs all)
    by false e rest = rest (subst (λ (n : ℕ). 0 < n) (rw e refl) some)

module _ (histories : List (List Entry)) (rs : List Receipt) (k : NameEachOnce histories rs) (P : Entry → Type 0)
    (all : All (λ (r : Receipt). P r.entry) rs) where
  abbrev Holds : Receipt → Type 0
  Holds r = P r.entry × IsEntryAt histories r.unit r.place r.entry

  each : All Holds rs
  each = all_at Holds rs (λ i r e. (
    all_gives (λ (x : Receipt). P x.entry) rs i r all e,
    all_gives (λ (x : Receipt). IsEntryAt histories x.unit x.place x.entry) rs i r k.there e,
  ))

  one_entry : (unit place : ℕ) (d e : Entry) → IsEntryAt histories unit place d → IsEntryAt histories unit place e → d ≡ e
  one_entry unit place d e (h, th, hd) (g, tg, he) =
      let same : h ≡ g = same_Some h g (sym th ∙ tg) in
      same_Some d e (sym hd ∙ ap (λ (v : List Entry). slice_get v place) same ∙ he)

  pub entry_holds : (unit place : ℕ) (e : Entry) → IsEntryAt histories unit place e → P e
  entry_holds unit place e there =
      let once = k.once unit place e there in
      let f = found Holds (names_place unit place) rs each (omega (arith, once)) in
      let names = both (f.0.unit == unit) (f.0.place == place) f.1 in
      let u : f.0.unit ≡ unit = eqb_yes (subst T (sym names.0) tt) in
      let p : f.0.place ≡ place = eqb_yes (subst T (sym names.1) tt) in
      let at : IsEntryAt histories unit place f.0.entry =
      subst (λ (x : ℕ × ℕ). IsEntryAt histories x.0 x.1 f.0.entry) (λ i. (u i, p i)) f.2.1 in
      subst P (one_entry unit place f.0.entry e at there) f.2.0

  -- so it holds of each history
  pub history_holds : (unit : ℕ) (h : List Entry) → slice_get histories unit ≡ Some h → All P h
  history_holds unit h there = all_at P h (λ place e at. entry_holds unit place e (h, there, at))
