-- Steps that change one slot of one unit, and steps that change none.
use Rattle.std.proofs.Common.{◌≡◌, ◌≢◌, ℕ, ◌<◌, ◌⊎◌, ◌↔◌, List, set, sym, refl, ap, ◌∙◌, subst, inl, inr, ⊎_elim, Bool, false}
use Rattle.std.specs.Prelude.{slice_get, Some, None, ◌==◌, if◌then◌else◌, AllPairs}
use Rattle.std.specs.List.{Contains}
use Rattle.std.proofs.lemmas.Bool.{cases_eq, eq-eqb, ne_eqb}
use Rattle.mont_base.specs.declared.constants.TheConstants.{FIELDS}
use Rattle.mont_base.specs.declared.record.Held.{Held}
use Rattle.mont_base.specs.Layout.{Shape, total_of, word_of, unit_of_slot}
use Rattle.mont_base.specs.Image.{words_at}
use Rattle.mont_laws.proofs.SlotWords.{stores_change_one_field}
use Rattle.core_steps.specs.declared.parts.UnitPart.{UnitPart}
use Rattle.core_steps.specs.declared.parts.UnitStage.{UnitStage}
use Rattle.core_steps.specs.declared.parts.UnitStage.TheVariants.{Within}
use Rattle.core_steps.specs.declared.parts.Writing.{Writing}
use Rattle.core_steps.specs.Stages.{is_closing}
use Rattle.core_steps.specs.Roles.{Role, Free, Unfinished, Written, Kept, Lost, SlotFits, WordsFit, Says, HasRole, Shows, HasSlots}
use Rattle.core_steps.proofs.Rows.{each_set}
use Rattle.core_steps.proofs.RoleWords.{refit}

-- ---- one slot has a new role
abbrev pub put : (ℕ → Role) → ℕ → Role → ℕ → Role
put role slot x t = if t == slot then x else role t

-- the slot has it
pub put_here : (role : ℕ → Role) (slot : ℕ) (x : Role) → put role slot x slot ≡ x
put_here role slot x = ap (λ (b : Bool). if b then x else role slot) (eq-eqb slot slot refl)

-- and each other slot the one that it had
pub put_else : (role : ℕ → Role) (slot : ℕ) (x : Role) (t : ℕ) → t ≢ slot → put role slot x t ≡ role t
put_else role slot x t n = ap (λ (b : Bool). if b then x else role t) (ne_eqb t slot n)

-- the role that a slot has already
pub put_same : (role : ℕ → Role) (slot : ℕ) (x : Role) → role slot ≡ x → (t : ℕ) → put role slot x t ≡ role t
put_same role slot x is t = ⊎_elim
    (λ (e : t ≡ slot). ap (put role slot x) e ∙ put_here role slot x ∙ sym is ∙ ap role (sym e))
    (λ (n : t ≢ slot). put_else role slot x t n)
    (cases_eq t slot)

-- ---- parts that give the same roles
-- roles that are the same at the slots of a unit
pub shows_same : (s : Shape) (role new : ℕ → Role) (u : ℕ) (p : UnitPart)
    → ((t : ℕ) → unit_of_slot s t ≡ u → new t ≡ role t) → Shows s role u p → Shows s new u p
shows_same s role new u p same k = record {
  says = λ t y h. let old = k.says t y h in
      record { inside = old.inside; of_unit = old.of_unit; is = same t old.of_unit ∙ old.is };
  others = λ t of_t. ⊎_elim
      (λ (f : role t ≡ Free). inl (same t of_t ∙ f))
      (λ (h : Says p t (role t)). inr (subst (Says p t) (sym (same t of_t)) h))
      (k.others t of_t);
  writes = k.writes;
  wrote = k.wrote;
  written_once = k.written_once;
  lost_once = k.lost_once;
}

-- the part of a unit after a step that leaves all roles
pub record Keeps (p q : UnitPart) : Type 0 where
  pub from : (t : ℕ) (y : Role) → Says q t y → Says p t y
  pub back : (t : ℕ) (y : Role) → Says p t y → Says q t y
  pub writes : (w : Writing) → q.writing ≡ Some w → q.stage ≡ Within w.change.label.epoch
  pub wrote : (w : Held) → Contains q.written w → q.stage ≡ Within w.label.epoch
  pub written : q.written ≡ p.written
  pub lost : q.lost ≡ p.lost

-- such a step leaves the roles as they are shown
pub shows_kept : (s : Shape) (role : ℕ → Role) (u : ℕ) (p q : UnitPart) → Shows s role u p → Keeps p q → Shows s role u q
shows_kept s role u p q k m = record {
  says = λ t y h. k.says t y (m.from t y h);
  others = λ t of_t. ⊎_elim inl (λ (h : Says p t (role t)). inr (m.back t (role t) h)) (k.others t of_t);
  writes = m.writes;
  wrote = m.wrote;
  written_once = subst (AllPairs (λ (w z : Held). w.slot ≢ z.slot)) (sym m.written) k.written_once;
  lost_once = subst (AllPairs (λ (slot other : ℕ). slot ≢ other)) (sym m.lost) k.lost_once;
}

-- ---- a part that gives one slot the role x, and the others those that they had
pub record Moves (p q : UnitPart) (slot : ℕ) (x : Role) : Type 0 where
  pub records : (r : Held) → r.slot ≢ slot → Contains q.records r ↔ Contains p.records r
  pub written : (w : Held) → w.slot ≢ slot → Contains q.written w ↔ Contains p.written w
  pub writing : (w : Writing) → w.slot ≢ slot → (q.writing ≡ Some w) ↔ (p.writing ≡ Some w)
  pub lost : (n : ℕ) → n ≢ slot → Contains q.lost n ↔ Contains p.lost n
  pub closing : (n : ℕ) → n ≢ slot → is_closing q.stage n ≡ is_closing p.stage n
  pub own_record : (r : Held) → r.slot ≡ slot → Contains q.records r → x ≡ Kept r (is_closing q.stage slot)
  pub own_written : (w : Held) → w.slot ≡ slot → Contains q.written w → x ≡ Written w
  pub own_writing : (w : Writing) → w.slot ≡ slot → q.writing ≡ Some w → x ≡ Unfinished w
  pub own_lost : Contains q.lost slot → x ≡ Lost (is_closing q.stage slot)
  pub here : (x ≡ Free) ⊎ Says q slot x
  pub writes : (w : Writing) → q.writing ≡ Some w → q.stage ≡ Within w.change.label.epoch
  pub wrote : (w : Held) → Contains q.written w → q.stage ≡ Within w.label.epoch
  pub written_once : AllPairs (λ (w z : Held). w.slot ≢ z.slot) q.written
  pub lost_once : AllPairs (λ (n m : ℕ). n ≢ m) q.lost

-- nothing changes
pub stay : {A : Type 0} → A ↔ A
stay = (λ h. h, λ h. h)

module _ (p q : UnitPart) (slot : ℕ) (x : Role) (m : Moves p q slot x) where
  -- what the new part says of another slot, the old one said
  says_from : (t : ℕ) (y : Role) → t ≢ slot → Says q t y → Says p t y
  says_from t Free n h = h
  says_from t (Unfinished w) n h = (h.0, (m.writing w (λ e. n (sym h.0 ∙ e))).0 h.1)
  says_from t (Written w) n h = (h.0, (m.written w (λ e. n (sym h.0 ∙ e))).0 h.1)
  says_from t (Kept r b) n h = (h.0, h.1 ∙ m.closing t n, (m.records r (λ e. n (sym h.0 ∙ e))).0 h.2)
  says_from t (Lost b) n h = (h.0 ∙ m.closing t n, (m.lost t n).0 h.1)

  -- and it says what the old one said
  says_back : (t : ℕ) (y : Role) → t ≢ slot → Says p t y → Says q t y
  says_back t Free n h = h
  says_back t (Unfinished w) n h = (h.0, (m.writing w (λ e. n (sym h.0 ∙ e))).1 h.1)
  says_back t (Written w) n h = (h.0, (m.written w (λ e. n (sym h.0 ∙ e))).1 h.1)
  says_back t (Kept r b) n h = (h.0, h.1 ∙ sym (m.closing t n), (m.records r (λ e. n (sym h.0 ∙ e))).1 h.2)
  says_back t (Lost b) n h = (h.0 ∙ sym (m.closing t n), (m.lost t n).1 h.1)

  -- of the slot it says the role x
  says_own : (y : Role) → Says q slot y → x ≡ y
  says_own Free h = absurd h
  says_own (Unfinished w) h = m.own_writing w h.0 h.1
  says_own (Written w) h = m.own_written w h.0 h.1
  says_own (Kept r b) h = m.own_record r h.0 h.2 ∙ ap (Kept r) (sym h.1)
  says_own (Lost b) h = m.own_lost h.1 ∙ ap Lost (sym h.0)

-- the new part shows the roles with the new one
pub shows_moved : (s : Shape) (role : ℕ → Role) (u slot : ℕ) (p q : UnitPart) (x : Role) → Shows s role u p → slot < total_of s
    → unit_of_slot s slot ≡ u → Moves p q slot x → Shows s (put role slot x) u q
shows_moved s role u slot p q x k inside of_unit m = record {
  says = λ t y h. ⊎_elim
      (λ (e : t ≡ slot). subst (λ (n : ℕ). HasRole s (put role slot x) u n y) (sym e) (record {
        inside = inside;
        of_unit = of_unit;
        is = put_here role slot x ∙ says_own p q slot x m y (subst (λ (n : ℕ). Says q n y) e h);
      }))
      (λ (n : t ≢ slot). let old = k.says t y (says_from p q slot x m t y n h) in
      record { inside = old.inside; of_unit = old.of_unit; is = put_else role slot x t n ∙ old.is })
      (cases_eq t slot);
  others = λ t of_t. ⊎_elim
      (λ (e : t ≡ slot). let same : put role slot x t ≡ x = ap (put role slot x) e ∙ put_here role slot x in ⊎_elim
      (λ (f : x ≡ Free). inl (same ∙ f))
      (λ (h : Says q slot x). inr (subst (λ (z : ℕ × Role). Says q z.0 z.1) (λ i. (sym e i, sym same i)) h))
      m.here)
      (λ (n : t ≢ slot). let same = put_else role slot x t n in ⊎_elim
      (λ (f : role t ≡ Free). inl (same ∙ f))
      (λ (h : Says p t (role t)). inr (subst (Says q t) (sym same) (says_back p q slot x m t (role t) n h)))
      (k.others t of_t))
      (cases_eq t slot);
  writes = m.writes;
  wrote = m.wrote;
  written_once = m.written_once;
  lost_once = m.lost_once;
}

-- ---- words that are those of before in every slot but one
pub record WordsMove (cur dur new late : List ℕ) (slot : ℕ) : Type 0 where
  pub now_others : (t : ℕ) → t ≢ slot → words_at new t ≡ words_at cur t
  pub late_others : (t : ℕ) → t ≢ slot → words_at late t ≡ words_at dur t

-- a current word of the slot is stored
pub current_moves : (cur dur : List ℕ) (slot f v : ℕ) → f < FIELDS → WordsMove cur dur (set cur (word_of slot f) v) dur slot
current_moves cur dur slot f v low = record {
  now_others = (stores_change_one_field cur slot f v low).others;
  late_others = λ t n. refl;
}

-- a durable one is
pub durable_moves : (cur dur : List ℕ) (slot f v : ℕ) → f < FIELDS → WordsMove cur dur cur (set dur (word_of slot f) v) slot
durable_moves cur dur slot f v low = record {
  now_others = λ t n. refl;
  late_others = (stores_change_one_field dur slot f v low).others;
}

-- words that fit the roles fit them after such a step, if those of the slot fit the new role
pub fits_moved : (s : Shape) (role : ℕ → Role) (now : ℕ) (cur dur new late : List ℕ) (slot : ℕ) (x : Role)
    → WordsFit s role now cur dur → WordsMove cur dur new late slot
    → SlotFits now (unit_of_slot s slot) x (words_at new slot) (words_at late slot)
    → WordsFit s (put role slot x) now new late
fits_moved s role now cur dur new late slot x k m mine t low = ⊎_elim
    (λ (e : t ≡ slot).
    subst (λ (n : ℕ). SlotFits now (unit_of_slot s n) (put role slot x n) (words_at new n) (words_at late n)) (sym e)
    (subst (λ (y : Role). SlotFits now (unit_of_slot s slot) y (words_at new slot) (words_at late slot))
    (sym (put_here role slot x)) mine))
    (λ (n : t ≢ slot).
    refit now (unit_of_slot s t) (role t) (put role slot x t) (words_at cur t) (words_at new t) (words_at dur t) (words_at late t)
    (sym (put_else role slot x t n)) (sym (m.now_others t n)) (sym (m.late_others t n)) (k t low))
    (cases_eq t slot)

-- ---- all slots
module _ (s : Shape) (now : ℕ) (cur dur : List ℕ) (units : List UnitPart) (u : ℕ) (p : UnitPart) where
  -- one slot of the unit has a new role, with words that fit it
  pub has_moved : (slot : ℕ) (q : UnitPart) (x : Role) (new late : List ℕ) (h : HasSlots s now cur dur units)
      → slice_get units u ≡ Some p → slot < total_of s → unit_of_slot s slot ≡ u → WordsMove cur dur new late slot → Moves p q slot x
      → SlotFits now (unit_of_slot s slot) x (words_at new slot) (words_at late slot) → HasSlots s now new late (set units u q)
  has_moved slot q x new late h at inside of_unit words m mine = record {
    role = put h.role slot x;
    fits = fits_moved s h.role now cur dur new late slot x h.fits words mine;
    shows = each_set (Shows s (put h.role slot x)) units u q
        (λ v r n e. shows_same s h.role (put h.role slot x) v r
        (λ t of_t. put_else h.role slot x t (λ same. n (sym of_t ∙ ap (unit_of_slot s) same ∙ of_unit))) (h.shows v r e))
        (shows_moved s h.role u slot p q x (h.shows u p at) inside of_unit m);
  }

  -- no slot has
  pub has_kept : (q : UnitPart) → HasSlots s now cur dur units → slice_get units u ≡ Some p → Keeps p q
      → HasSlots s now cur dur (set units u q)
  has_kept q h at m = record {
    role = h.role;
    fits = h.fits;
    shows = each_set (Shows s h.role) units u q (λ v r n e. h.shows v r e) (shows_kept s h.role u p q (h.shows u p at) m);
  }

  -- the unit's part has the same records, written slots, unfinished slot, lost slots and stage
  pub slots_same : (q : UnitPart) → HasSlots s now cur dur units → slice_get units u ≡ Some p
      → q.records ≡ p.records → q.written ≡ p.written → q.writing ≡ p.writing → q.lost ≡ p.lost → q.stage ≡ p.stage
      → HasSlots s now cur dur (set units u q)
  slots_same q h at records written writing lost stage = has_kept q h at (record {
    from = λ t y k. from t y k;
    back = λ t y k. back t y k;
    writes = λ w is. stage ∙ (h.shows u p at).writes w (sym writing ∙ is);
    wrote = λ w k. stage ∙ (h.shows u p at).wrote w (subst (λ (l : List Held). Contains l w) written k);
    written = written;
    lost = lost;
  })
    where
      closing : (t : ℕ) → is_closing q.stage t ≡ is_closing p.stage t
      closing t = ap (λ (z : UnitStage). is_closing z t) stage

      from : (t : ℕ) (y : Role) → Says q t y → Says p t y
      from t Free k = k
      from t (Unfinished w) k = (k.0, sym writing ∙ k.1)
      from t (Written w) k = (k.0, subst (λ (l : List Held). Contains l w) written k.1)
      from t (Kept r b) k = (k.0, k.1 ∙ closing t, subst (λ (l : List Held). Contains l r) records k.2)
      from t (Lost b) k = (k.0 ∙ closing t, subst (λ (l : List ℕ). Contains l t) lost k.1)

      back : (t : ℕ) (y : Role) → Says p t y → Says q t y
      back t Free k = k
      back t (Unfinished w) k = (k.0, writing ∙ k.1)
      back t (Written w) k = (k.0, subst (λ (l : List Held). Contains l w) (sym written) k.1)
      back t (Kept r b) k = (k.0, k.1 ∙ sym (closing t), subst (λ (l : List Held). Contains l r) (sym records) k.2)
      back t (Lost b) k = (k.0 ∙ sym (closing t), subst (λ (l : List ℕ). Contains l t) (sym lost) k.1)

  -- the stage changes and closes no slot, neither before nor after, and nothing was stored
  pub slots_restaged : (stage : UnitStage) → HasSlots s now cur dur units → slice_get units u ≡ Some p
      → ((t : ℕ) → is_closing p.stage t ≡ false) → ((t : ℕ) → is_closing stage t ≡ false)
      → p.writing ≡ None → ((w : Held) → Contains p.written w → ⊥)
      → HasSlots s now cur dur (set units u (record p { stage = stage }))
  slots_restaged stage h at before behind none nothing = has_kept (record p { stage = stage }) h at (record {
    from = λ t y k. from t y k;
    back = λ t y k. back t y k;
    writes = λ w is. let clash : None ≡ Some w = sym none ∙ is in absurd (cc);
    wrote = λ w k. absurd (nothing w k);
    written = refl;
    lost = refl;
  })
    where
      from : (t : ℕ) (y : Role) → Says (record p { stage = stage }) t y → Says p t y
      from t Free k = k
      from t (Unfinished w) k = k
      from t (Written w) k = k
      from t (Kept r b) k = (k.0, k.1 ∙ behind t ∙ sym (before t), k.2)
      from t (Lost b) k = (k.0 ∙ behind t ∙ sym (before t), k.1)

      back : (t : ℕ) (y : Role) → Says p t y → Says (record p { stage = stage }) t y
      back t Free k = k
      back t (Unfinished w) k = k
      back t (Written w) k = k
      back t (Kept r b) k = (k.0, k.1 ∙ before t ∙ sym (behind t), k.2)
      back t (Lost b) k = (k.0 ∙ before t ∙ sym (behind t), k.1)
