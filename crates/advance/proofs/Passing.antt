-- What an announcement shows that doesn't let the advancer pass.
use Rattle.std.proofs.Common.{◌≡◌, ◌≢◌, ℕ, ◌/◌, ◌<◌, ⊎_elim, Bool, true, false, List, [], ◌∷◌, ◌++◌, cond, refl, sym, ap, ◌∙◌, subst, arith}
use Rattle.std.specs.Prelude.{◌==◌, ◌&&◌, ◌||◌, not, nat_le}
use Rattle.std.specs.List.{list_any}
use Rattle.std.proofs.lemmas.Bool.Decides.{nat_tests}
use Rattle.std.proofs.lemmas.List.Folds.{list_any-append}
use Rattle.core_steps.specs.declared.parts.AdvPart.TheVariants as parts
use Rattle.core_steps.specs.Advancing.{unit_at_hand, lets_pass, past_unit, is_odd, with_odd}
use Rattle.heap_rule.specs.declared.views.AdvKnown.{AdvKnown}
use Rattle.heap_rule.specs.Plays.{IsEpoch, IsAnnouncement}
use Rattle.heap_rule.specs.Views.{is_among, advancer_checked}
use Rattle.advance.specs.Advance.{HasShown}

-- ---- marks
or_right : (a b : Bool) → b ≡ true → (a || b) ≡ true
or_right true b e = refl
or_right false b e = e

same_number : (n : ℕ) → (n == n) ≡ true
same_number n = grind arith

new_mark : (odd : List ℕ) (u : ℕ) (among : Bool) → is_among odd u ≡ among → is_among (cond (not among) (odd ++ u ∷ []) odd) u ≡ true
new_mark odd u true is = is
new_mark odd u false is = list_any-append (λ (w : ℕ). w == u) odd (u ∷ [])
    ∙ or_right (is_among odd u) (list_any (λ (w : ℕ). w == u) (u ∷ [])) (ap (λ (b : Bool). b || false) (same_number u))

marked : (odd : List ℕ) (u word : ℕ) → is_odd word ≡ true → is_among (with_odd odd u word) u ≡ true
marked odd u word e = ap (λ (b : Bool). is_among (cond (b && not (is_among odd u)) (odd ++ u ∷ []) odd) u) e
    ∙ new_mark odd u (is_among odd u) refl

holds_announced : (now word : ℕ) → lets_pass now word ≡ false → (word ≢ 0) × (word / 2 < now)
holds_announced now word e = (
  λ z. let t : (word == 0) ≡ true = ap (λ (n : ℕ). n == 0) z in
      let w : lets_pass now word ≡ true = ap (λ (b : Bool). b || nat_le now (word / 2)) t in
      absurd (cc),
  by (word == 0) e,
)
  where
    by : (t : Bool) → (t || nat_le now (word / 2)) ≡ false → word / 2 < now
    by true h = absurd (cc)
    by false h = grind (arith, nat_tests)

-- ---- an announcement that holds the advancer
pub shows : (a b : AdvKnown) (word unit : ℕ) (list : List ℕ) → b ≡ advancer_checked a word list → unit ≡ unit_at_hand a.part
    → lets_pass a.clock word ≡ false → IsAnnouncement word → b.durable ≡ b.clock → HasShown unit (word / 2) (is_odd word) a b
shows a b word unit list made at holds announces kept =
    let told = holds_announced a.clock word holds in
    subst (λ (z : ℕ × AdvKnown). HasShown z.0 (word / 2) (is_odd word) a z.1) (λ i. (sym at i, sym made i)) (record {
      loads = omega arith;
      holds = holds;
      epoch_is = refl;
      begun = ⊎_elim (λ (z : word ≡ 0). absurd (told.0 z)) (λ (z : IsEpoch (word / 2)). z.low) announces;
      below = told.1;
      below_durable =
          subst (λ (n : ℕ). word / 2 < n)
          (sym (ap (λ (x : AdvKnown). x.durable) (sym made) ∙ (kept ∙ ap (λ (x : AdvKnown). x.clock) made))) told.1;
      cut_is = refl;
      stays = ap (λ (b : Bool). cond b (past_unit a.units (unit_at_hand a.part)) (parts.Checking (unit_at_hand a.part))) holds;
      marked = λ e. marked a.odd (unit_at_hand a.part) word e;
    })
