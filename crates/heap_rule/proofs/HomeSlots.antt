-- The slots of the table where lists have their homes, and what stands there as turns go round.
use Rattle.std.proofs.Common.{◌≡◌, ◌≢◌, ◌⊎◌, ℕ, zero, suc, ◌+◌, ◌-◌, ◌<◌, ◌≤◌, List, [], ◌∷◌, length, set, refl, sym, ap, ◌∙◌, subst, ⊎_elim, arith, true, false, cond, append-nil, eq-eqb, ne_eqb}
use Rattle.std.specs.Prelude.{nat_lt, ◌==◌}
use Rattle.std.proofs.lemmas.Bool.Decides.{nat_tests}
use mathlib.Core.Option.{Option, some, some-ne-none}
use lib.ListN.{get_elem?}
use Rattle.atomic_table.proofs.Lists.{set_else}
use Rattle.core_steps.specs.declared.parts.UnitPart.{UnitPart}
use Rattle.core_steps.specs.declared.parts.UnitStage.{UnitStage}
use Rattle.core_steps.specs.declared.parts.UnitStage.TheVariants.{Idle, Told, Within, Closing}
use Rattle.core_steps.specs.Stages.{is_within, epoch_of}
use Rattle.core_steps.specs.Flushing.{unit_list}
use Rattle.core_steps.specs.Sound.{StageFits}
use Rattle.heap_rule.specs.declared.views.UnitTurn.{UnitTurn}
use Rattle.heap_rule.specs.declared.views.FullTurn.{FullTurn}
use Rattle.heap_rule.specs.Views.{Cell, listing, list_place, home_turn, list_at}
use Rattle.heap_rule.specs.HomeLists.{is_in_epoch, turn_home, unit_home, Full, Waiting, Out, Empty, full_at, full_home, HomesFit}

-- ---- places
place_apart : (u v x y : ℕ) → v ≢ u → list_place v y ≢ list_place u x
place_apart u v x y n e = n (omega arith)

place_near : (u x : ℕ) → list_place u (x + 1) ≢ list_place u x
place_near u x e = omega arith

place_again : (u x : ℕ) → list_place u (x + 1 + 1) ≡ list_place u x
place_again u x = omega arith

place_old : (u e now : ℕ) → e + 1 ≡ now → list_place u e ≡ list_place u (now + 1)
place_old u e now is = sym (place_again u e) ∙ ap (λ (x : ℕ). list_place u (x + 1)) is

put_there : (l : List (Option Cell)) (i : ℕ) (o x : Option Cell) → get_elem? l i ≡ some o → get_elem? (set l i x) i ≡ some x
put_there [] i o x e = absurd (some-ne-none o (sym e))
put_there (y ∷ ys) zero o x e = refl
put_there (y ∷ ys) (suc i) o x e = put_there ys i o x e

put_at : (l : List (Option Cell)) (i j : ℕ) (o x : Option Cell) → i ≡ j → get_elem? l j ≡ some o → get_elem? (set l i x) j ≡ some x
put_at l i j o x e at = subst (λ (i : ℕ). get_elem? (set l i x) j ≡ some x) (sym e) (put_there l j o x at)

-- ---- whether a unit is in an epoch
in_epoch_within : (s : UnitStage) (x : ℕ) → is_within s ≡ true → is_in_epoch x s ≡ (epoch_of s == x)
in_epoch_within Idle x w = absurd (cc)
in_epoch_within (Told e) x w = absurd (cc)
in_epoch_within (Within e) x w = refl
in_epoch_within (Closing slot) x w = absurd (cc)

pub in_other : (s : UnitStage) (x : ℕ) → is_within s ≡ true → epoch_of s ≢ x → is_in_epoch x s ≡ false
in_other s x w n = in_epoch_within s x w ∙ ne_eqb (epoch_of s) x n

-- no unit is in an epoch that the clock hasn't reached
pub in_later : (b now : ℕ) (passed : Type 0) (s : UnitStage) → StageFits b now passed s → is_in_epoch (now + 1) s ≡ false
in_later b now passed Idle k = refl
in_later b now passed (Told e) k = refl
in_later b now passed (Within e) k = let low = k.reached in ne_eqb e (now + 1) (λ h. omega arith)
in_later b now passed (Closing slot) k = refl

-- and none that the advancer has passed is in the epoch before the clock
pub in_passed : (b now : ℕ) (passed : Type 0) (s : UnitStage) → 1 ≤ now → passed → StageFits b now passed s
    → is_in_epoch (now - 1) s ≡ false
in_passed b now passed Idle low h k = refl
in_passed b now passed (Told e) low h k = refl
in_passed b now passed (Within e) low h k = let same = k.same h in ne_eqb e (now - 1) (λ z. omega arith)
in_passed b now passed (Closing slot) low h k = refl

-- ---- what stands in a unit's slots, by cases

pub unit_home_in : (r x : ℕ) (p : UnitPart) (t : UnitTurn) → is_within p.stage ≡ true → epoch_of p.stage ≡ x
    → unit_home r x p t ≡ turn_home r t (unit_list (epoch_of p.stage) p)
unit_home_in r x p t w e =
    ap (λ b. cond b (turn_home r t (unit_list x p)) (some (listing r (unit_list x p))))
    (in_epoch_within p.stage x w ∙ eq-eqb (epoch_of p.stage) x e)
    ∙ ap (λ (x : ℕ). turn_home r t (unit_list x p)) (sym e)

pub unit_home_else : (r x : ℕ) (p : UnitPart) (t : UnitTurn) → is_in_epoch x p.stage ≡ false
    → unit_home r x p t ≡ some (listing r (unit_list x p))
unit_home_else r x p t e = ap (λ b. cond b (turn_home r t (unit_list x p)) (some (listing r (unit_list x p)))) e

-- with nothing pushed, it is the list of the records
pub unit_home_rest : (r x : ℕ) (p : UnitPart) → unit_home r x p home_turn ≡ some (listing r (unit_list x p))
unit_home_rest r x p =
    elim (is_in_epoch x p.stage)
    as (λ b. cond b (turn_home r home_turn (unit_list x p)) (some (listing r (unit_list x p))) ≡ some (listing r (unit_list x p))) [
      | true ↦ ap (λ (l : List ℕ). some (listing r l)) (append-nil (unit_list x p))
      | false ↦ refl
    ]

-- where nothing is pushed, no home depends on the stage
pub rest_same : (r x : ℕ) (p q : UnitPart) (t : UnitTurn) → t ≡ home_turn → unit_list x q ≡ unit_list x p
    → unit_home r x q t ≡ unit_home r x p t
rest_same r x p q t home same = ap (unit_home r x q) home
    ∙ (unit_home_rest r x q ∙ ((λ i. some (listing r (same i))) ∙ (sym (unit_home_rest r x p) ∙ ap (unit_home r x p) (sym home))))

-- a part with the same stage and records has the same homes
pub stage_same : (r x : ℕ) (p q : UnitPart) (t : UnitTurn) → q.stage ≡ p.stage → unit_list x q ≡ unit_list x p
    → unit_home r x q t ≡ unit_home r x p t
stage_same r x p q t stage same = λ i. cond (is_in_epoch x (stage i)) (turn_home r t (same i)) (some (listing r (same i)))

-- ---- what the advancer made of the lists
pub full_below : (f : FullTurn) (u : ℕ) → u < f.emptied → full_at f u ≡ Empty
full_below f u l =
    let e : nat_lt u f.emptied ≡ true = grind (arith, nat_tests) in
    ap (λ b. cond b Empty (cond f.out (cond (u == f.emptied) Out Waiting) Waiting)) e

above : (f : FullTurn) (u : ℕ) → f.emptied ≤ u → full_at f u ≡ cond f.out (cond (u == f.emptied) Out Waiting) Waiting
above f u l =
    let e : nat_lt u f.emptied ≡ false = grind (arith, nat_tests) in
    ap (λ b. cond b Empty (cond f.out (cond (u == f.emptied) Out Waiting) Waiting)) e

pub full_out : (e : ℕ) → full_at (record { emptied = e; out = true }) e ≡ Out
full_out e = above (record { emptied = e; out = true }) e (omega arith) ∙ ap (λ b. cond b Out Waiting) (eq-eqb e e refl)

pub full_waits : (e : ℕ) → full_at (record { emptied = e; out = false }) e ≡ Waiting
full_waits e = above (record { emptied = e; out = false }) e (omega arith)

pub full_gave : (e : ℕ) → full_at (record { emptied = e + 1; out = false }) e ≡ Empty
full_gave e = full_below (record { emptied = e + 1; out = false }) e (omega arith)

pub full_none : (u : ℕ) → full_at (record { emptied = 0; out = false }) u ≡ Waiting
full_none u = above (record { emptied = 0; out = false }) u (omega arith)

below_or : (e u : ℕ) → u ≢ e → (u < e) ⊎ (e < u)
below_or e u n = grind arith

pub full_out_else : (e u : ℕ) → u ≢ e
    → full_at (record { emptied = e; out = true }) u ≡ full_at (record { emptied = e; out = false }) u
full_out_else e u n = ⊎_elim
    (λ (l : u < e). full_below (record { emptied = e; out = true }) u l ∙ sym (full_below (record { emptied = e; out = false }) u l))
    (λ (l : e < u). above (record { emptied = e; out = true }) u (omega arith)
    ∙ (ap (λ b. cond b Out Waiting) (ne_eqb u e n) ∙ sym (above (record { emptied = e; out = false }) u (omega arith))))
    (below_or e u n)

pub full_gave_else : (e u : ℕ) → u ≢ e
    → full_at (record { emptied = e + 1; out = false }) u ≡ full_at (record { emptied = e; out = true }) u
full_gave_else e u n = ⊎_elim
    (λ (l : u < e). full_below (record { emptied = e + 1; out = false }) u (omega arith)
    ∙ sym (full_below (record { emptied = e; out = true }) u l))
    (λ (l : e < u). above (record { emptied = e + 1; out = false }) u (omega arith)
    ∙ (ap (λ b. cond b Out Waiting) (sym (ne_eqb u e n)) ∙ sym (above (record { emptied = e; out = true }) u (omega arith))))
    (below_or e u n)

-- ---- the lists that the advancer knows
pub list_here : (ls : List (List ℕ)) (i : ℕ) (l : List ℕ) → i < length ls → list_at (set ls i l) i ≡ l
list_here [] i l h = absurd (omega arith)
list_here (x ∷ xs) zero l h = refl
list_here (x ∷ xs) (suc i) l h = list_here xs i l (omega arith)

pub list_else : (ls : List (List ℕ)) (i j : ℕ) (l : List ℕ) → j ≢ i → list_at (set ls i l) j ≡ list_at ls j
list_else [] i j l n = refl
list_else (x ∷ xs) zero zero l n = absurd (n refl)
list_else (x ∷ xs) zero (suc j) l n = refl
list_else (x ∷ xs) (suc i) zero l n = refl
list_else (x ∷ xs) (suc i) (suc j) l n = list_else xs i j l (λ e. n (ap suc e))

-- ---- where the list of a unit in its turn stands: it is the young one, or the old one with which the
-- advancer has not begun
abbrev pub InTurn : ℕ → UnitPart → Full → Type 0
InTurn now p f = (epoch_of p.stage ≡ now) ⊎ ((epoch_of p.stage + 1 ≡ now) × (f ≡ Waiting))

module _ (r now : ℕ) (p : UnitPart) where
  pub turn_there : (t : UnitTurn) (f : Full) (homes : List (Option Cell)) (u : ℕ) → is_within p.stage ≡ true → InTurn now p f
      → HomesFit r now p t f homes u
      → get_elem? homes (list_place u (epoch_of p.stage)) ≡ some (turn_home r t (unit_list (epoch_of p.stage) p))
  turn_there t f homes u w place h = ⊎_elim
      (λ e. ap (λ (x : ℕ). get_elem? homes (list_place u x)) e ∙ (h.young
      ∙ ap (λ (o : Option Cell). some o) (unit_home_in r now p t w e)))
      (λ (z : (epoch_of p.stage + 1 ≡ now) × (f ≡ Waiting)). let e = z.0 in
      ap (get_elem? homes) (place_old u (epoch_of p.stage) now e)
      ∙ (h.old ∙ ((λ i. some (full_home r (z.1 i) (unit_home r (now - 1) p t)))
      ∙ ap (λ (o : Option Cell). some o) (unit_home_in r (now - 1) p t w (omega arith)))))
      place

  -- the unit changes its turn, and what stands in its slot
  pub turn_moves : (t w : UnitTurn) (f : Full) (homes : List (Option Cell)) (u : ℕ) → 1 ≤ now → is_within p.stage ≡ true
      → InTurn now p f → HomesFit r now p t f homes u
      → HomesFit r now p w f (set homes (list_place u (epoch_of p.stage)) (turn_home r w (unit_list (epoch_of p.stage) p))) u
  turn_moves t w f homes u low within place h =
      let x : Option Cell = turn_home r w (unit_list (epoch_of p.stage) p) in
      let i : ℕ = list_place u (epoch_of p.stage) in
      ⊎_elim
      (λ (e : epoch_of p.stage ≡ now). record {
        young = put_at homes i (list_place u now) (unit_home r now p t) x (ap (list_place u) e) h.young
            ∙ ap (λ (o : Option Cell). some o) (sym (unit_home_in r now p w within e));
        old = set_else homes i (list_place u (now + 1)) x (λ z. place_near u now (z ∙ ap (list_place u) e))
            ∙ (h.old ∙ ap (λ (o : Option Cell). some (full_home r f o))
            (unit_home_else r (now - 1) p t (in_other p.stage (now - 1) within (λ z. omega arith))
            ∙ sym (unit_home_else r (now - 1) p w (in_other p.stage (now - 1) within (λ z. omega arith)))));
      })
      (λ (z : (epoch_of p.stage + 1 ≡ now) × (f ≡ Waiting)). let e = z.0 in record {
        young = set_else homes i (list_place u now) x (λ y. place_near u now (sym (y ∙ place_old u (epoch_of p.stage) now e)))
            ∙ (h.young ∙ ap (λ (o : Option Cell). some o)
            (unit_home_else r now p t (in_other p.stage now within (λ y. omega arith))
            ∙ sym (unit_home_else r now p w (in_other p.stage now within (λ y. omega arith)))));
        old = put_at homes i (list_place u (now + 1)) (full_home r f (unit_home r (now - 1) p t)) x (place_old u
            (epoch_of p.stage) now e) h.old
            ∙ ((λ i. some (sym (unit_home_in r (now - 1) p w within (omega arith)) i))
            ∙ (λ i. some (full_home r (sym z.1 i) (unit_home r (now - 1) p w))));
      })
      place

  -- the advancer changes what it made of the old list, and what stands in its slot
  pub full_moves : (t : UnitTurn) (f g : Full) (homes : List (Option Cell)) (u : ℕ) → HomesFit r now p t f homes u
      → HomesFit r now p t g (set homes (list_place u (now + 1)) (full_home r g (unit_home r (now - 1) p t))) u
  full_moves t f g homes u h =
      let x : Option Cell = full_home r g (unit_home r (now - 1) p t) in
      record {
        young = set_else homes (list_place u (now + 1)) (list_place u now) x (λ e. place_near u now (sym e)) ∙ h.young;
        old = put_there homes (list_place u (now + 1)) (full_home r f (unit_home r (now - 1) p t)) x h.old;
      }

  -- the lists of another unit stay
  pub else_moves : (t : UnitTurn) (f : Full) (homes : List (Option Cell)) (u v x : ℕ) (o : Option Cell) → v ≢ u
      → HomesFit r now p t f homes v → HomesFit r now p t f (set homes (list_place u x) o) v
  else_moves t f homes u v x o apart h = record {
    young = set_else homes (list_place u x) (list_place v now) o (place_apart u v x now apart) ∙ h.young;
    old = set_else homes (list_place u x) (list_place v (now + 1)) o (place_apart u v x (now + 1) apart) ∙ h.old;
  }

  -- the clock goes on: the empty old list is then the young one, and the young one the old one
  pub clock_moves : (t : UnitTurn) (f g : Full) (homes : List (Option Cell)) (u : ℕ) → f ≡ Empty → g ≡ Waiting
      → unit_list (now + 1) p ≡ [] → is_in_epoch (now + 1) p.stage ≡ false
      → HomesFit r now p t f homes u → HomesFit r (now + 1) p t g homes u
  clock_moves t f g homes u empty waits bare later h =
      let back : now ≡ now + 1 - 1 = omega arith in
      record {
        young = h.old
            ∙ ((λ i. some (full_home r (empty i) (unit_home r (now - 1) p t)))
            ∙ ap (λ (o : Option Cell). some o) (ap (λ (l : List ℕ). some (listing r l)) (sym bare)
            ∙ sym (unit_home_else r (now + 1) p t later)));
        old = ap (get_elem? homes) (place_again u now)
            ∙ (h.young ∙ ((λ i. some (unit_home r (back i) p t))
            ∙ (λ i. some (full_home r (sym waits i) (unit_home r (now + 1 - 1) p t)))));
      }

-- a unit's part and turn change, and no list
pub same_moves : (r now : ℕ) (p q : UnitPart) (t w : UnitTurn) (f : Full) (homes : List (Option Cell)) (u : ℕ)
    → unit_home r now q w ≡ unit_home r now p t → unit_home r (now - 1) q w ≡ unit_home r (now - 1) p t
    → HomesFit r now p t f homes u → HomesFit r now q w f homes u
same_moves r now p q t w f homes u young old h = record {
  young = h.young ∙ ap (λ (o : Option Cell). some o) (sym young);
  old = h.old ∙ ap (λ (o : Option Cell). some (full_home r f o)) (sym old);
}
