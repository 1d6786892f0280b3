-- The lists that the advancer knows, and when a unit lists nothing for an epoch.
use Rattle.std.proofs.Common.{◌≡◌, ◌≢◌, ℕ, zero, suc, ◌-◌, ◌<◌, ◌≤◌, List, [], ◌∷◌, ◌++◌, length, map, set, length-set, refl, sym, ap, ◌∙◌, ⊎_elim, arith, Bool, true, false, cond, ne_eqb}
use Rattle.std.specs.Prelude.{slice_get, Some, All, filter, ◌==◌}
use Rattle.std.proofs.lemmas.List.Elements.{All-head, All-tail}
use Rattle.mont_base.specs.declared.record.Held.{Held}
use Rattle.core_steps.specs.declared.parts.Core.{Core}
use Rattle.core_steps.specs.declared.parts.AdvPart.{AdvPart}
use Rattle.core_steps.specs.declared.parts.UnitPart.{UnitPart}
use Rattle.core_steps.specs.Clock.{clock}
use Rattle.core_steps.specs.Stages.{passed_of}
use Rattle.core_steps.specs.Advancing.{can_check, unit_at_hand, lets_pass, after_check}
use Rattle.core_steps.specs.Flushing.{unit_list, all_listed, flush_list}
use Rattle.core_steps.proofs.Checks.{each_checked, now_passed, passed_before}
use Rattle.core_steps.proofs.RowFacts.{same_item}
use Rattle.heap_rule.specs.Views.{list_at, joined}
use Rattle.heap_rule.specs.Rule.{AreLists}
use Rattle.heap_rule.proofs.HomeSlots.{list_here, list_else}

-- nothing is listed for an epoch that no record has
pub list_above : (x m : ℕ) (p : UnitPart) → All (λ (r : Held). r.label.epoch ≤ m) p.records → m < x → unit_list x p ≡ []
list_above x m p all l = ap (map (λ (r : Held). r.slot)) (by p.records all)
  where
    by : (rs : List Held) → All (λ (r : Held). r.label.epoch ≤ m) rs → filter (λ (r : Held). r.label.epoch == x) rs ≡ []
    by [] all = refl
    by (r ∷ rs) all =
        let first = All-head (λ (r : Held). r.label.epoch ≤ m) r rs all in
        ap (λ b. cond b (r ∷ filter (λ (r : Held). r.label.epoch == x) rs) (filter (λ (r : Held). r.label.epoch == x) rs))
        (ne_eqb r.label.epoch x (λ e. omega arith))
        ∙ by rs (All-tail (λ (r : Held). r.label.epoch ≤ m) r rs all)

-- ---- all lists
lists_joined : (x : ℕ) (ps : List UnitPart) (ls : List (List ℕ)) → length ls ≡ length ps
    → ((u : ℕ) (p : UnitPart) → slice_get ps u ≡ Some p → list_at ls u ≡ unit_list x p) → joined ls ≡ all_listed x ps
lists_joined x [] [] e all = refl
lists_joined x [] (l ∷ ls) e all = absurd (omega arith)
lists_joined x (p ∷ ps) [] e all = absurd (omega arith)
lists_joined x (p ∷ ps) (l ∷ ls) e all = λ i. all 0 p refl i ++ lists_joined x ps ls (omega arith) (λ u q at. all (suc u) q at) i

row_within : {A : Type 0} (l : List A) (i : ℕ) (a : A) → slice_get l i ≡ Some a → i < length l
row_within [] i a e = absurd (cc)
row_within (x ∷ xs) zero a e = omega arith
row_within (x ∷ xs) (suc i) a e = let l = row_within xs i a e in omega arith

-- once all units were passed, the advancer knows all that is to be written back
pub joined_lists : (c : Core) (lists : List (List ℕ)) → AreLists c lists → length lists ≡ length c.units
    → passed_of (length c.units) c.advancer ≡ length c.units → joined lists ≡ flush_list c
joined_lists c lists are count all = lists_joined (clock c - 1) c.units lists count
    (λ u p at. let l = row_within c.units u p at in are u p at (omega arith))

-- ---- a check
remembered : (lists : List (List ℕ)) (t : Bool) (i : ℕ) (l : List ℕ) → length (cond t (set lists i l) lists) ≡ length lists
remembered lists true i l = length-set lists i l
remembered lists false i l = refl

remembered_else : (lists : List (List ℕ)) (t : Bool) (i j : ℕ) (l : List ℕ) → j ≢ i
    → list_at (cond t (set lists i l) lists) j ≡ list_at lists j
remembered_else lists true i j l n = list_else lists i j l n
remembered_else lists false i j l n = refl

pub remembers : (lists : List (List ℕ)) (t : Bool) (i : ℕ) (l : List ℕ) → length (cond t (set lists i l) lists) ≡ length lists
remembers = remembered

-- the list of the unit that is passed is remembered
pub lists_after_check : (c : Core) (lists : List (List ℕ)) (x : ℕ) (p : UnitPart) → can_check (clock c) c.advancer ≡ true
    → slice_get c.units (unit_at_hand c.advancer) ≡ Some p → unit_at_hand c.advancer < length lists → AreLists c lists
    → (u : ℕ) (q : UnitPart) → slice_get c.units u ≡ Some q
    → u < passed_of (length c.units) (after_check (length c.units) (clock c) x c.advancer)
    → list_at (cond (lets_pass (clock c) x) (set lists (unit_at_hand c.advancer) (unit_list (clock c - 1) p)) lists) u
    ≡ unit_list (clock c - 1) q
lists_after_check c lists x p may at room known u q is passed =
    let j : ℕ = unit_at_hand c.advancer in
    let l : List ℕ = unit_list (clock c - 1) p in
    let before = passed_before (length c.units) (clock c) c.advancer may in
    ⊎_elim
    (λ (below : u < j). remembered_else lists (lets_pass (clock c) x) j u l (λ e. omega arith) ∙ known u q is (omega arith))
    (λ (t : (u ≡ j) × (lets_pass (clock c) x ≡ true)).
    ap (λ b. list_at (cond b (set lists j l) lists) u) t.1
    ∙ (ap (list_at (set lists j l)) t.0
    ∙ (list_here lists j l room
    ∙ ap (unit_list (clock c - 1)) (same_item c.units j p q at (ap (slice_get c.units) (sym t.0) ∙ is)))))
    (now_passed (length c.units) (clock c) x c.advancer u (row_within c.units u q is) passed)

-- no unit is forgotten
pub still_passed : (n now x : ℕ) (a : AdvPart) (u : ℕ) → can_check now a ≡ true → unit_at_hand a < n → u < passed_of n a
    → u < passed_of n (after_check n now x a)
still_passed n now x a u may inside l =
    let before = passed_before n now a may in
    each_checked (λ (b : AdvPart). u < passed_of n b) n now x a (λ j e. omega arith) (λ next. omega arith) (omega arith)
