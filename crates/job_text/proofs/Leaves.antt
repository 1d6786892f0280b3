-- Where lines leave a part is told by where they leave what it is made of.
use Rattle.std.proofs.Common.{◌≡◌, ℕ, zero, suc, ◌+◌, ◌-◌, ◌<◌, ◌≤◌, ◌⊎◌, inl, inr, List, [], ◌∷◌, ◌++◌, length, refl, sym, ap, ◌∙◌, subst, arith}
use Rattle.std.proofs.lemmas.List.{append_assoc, append-nil, append_cancel_left, length-append, length_push}
use Rattle.job_text.specs.TextParts.{Row, Begins, LeavesAt, BothAre, both_rows, rows_from, AllFrom}

-- of two fronts of one list, one is a front of the other
pub one_front : {A : Type 0} (xs ys zs ts : List A) → xs ++ ys ≡ zs ++ ts
    → ((s : List A) × (xs ≡ zs ++ s) × (ts ≡ s ++ ys)) ⊎ ((s : List A) × (zs ≡ xs ++ s) × (ys ≡ s ++ ts))
one_front [] ys zs ts e = inr (zs, refl, e)
one_front (x ∷ xs) ys [] ts e = inl (x ∷ xs, refl, sym e)
one_front (x ∷ xs) ys (z ∷ zs) ts e =
    let same : x ≡ z = cc in
    let rest : xs ++ ys ≡ zs ++ ts = cc in
    elim (one_front xs ys zs ts rest) [
      | inl f ↦ inl (f.0, (let more : xs ≡ zs ++ f.0 = f.1 in cc), f.2)
      | inr f ↦ inr (f.0, (let more : zs ≡ xs ++ f.0 = f.1 in cc), f.2)
    ]

-- no two values have lines of which one begins with the other
abbrev pub IsOnce : {X : Type 0} → (X → Type 0) → (X → List Row) → Type 0
IsOnce {X} Is rows = (x y : X) (a b : List Row) → Is x → Is y → rows x ++ a ≡ rows y ++ b → x ≡ y

-- ---- the same part by other values
module _ {X Y : Type 0} (Is : X → Type 0) (rows : X → List Row) (Js : Y → Type 0) (others : Y → List Row)
    (to : (x : X) → Is x → (y : Y) × Js y × (others y ≡ rows x))
    (back : (y : Y) → Js y → (x : X) × Is x × (rows x ≡ others y)) where
  begins_to : (front : List Row) → Begins Is rows front → Begins Js others front
  begins_to front b =
      let t = to b.0 b.1 in
      (t.0, t.1, b.2, t.2 ∙ b.3)

  begins_back : (front : List Row) → Begins Js others front → Begins Is rows front
  begins_back front b =
      let t = back b.0 b.1 in
      (t.0, t.1, b.2, t.2 ∙ b.3)

  pub leaves_other : (ls : List Row) (place : ℕ) → LeavesAt Is rows ls place → LeavesAt Js others ls place
  leaves_other ls place l = record {
    before = l.before;
    after = l.after;
    joined = l.joined;
    counted = l.counted;
    begins = begins_to l.before l.begins;
    wrong = λ row behind e b. l.wrong row behind e (begins_back _ b);
    unfinished = λ y behind is e. let t = back y is in l.unfinished t.0 behind t.1 (e ∙ ap (λ rs. rs ++ behind) (sym t.2));
  }

-- ---- one part after another
module _ {A B : Type 0} (Is : A → Type 0) (rows : A → List Row) (More : A → B → Type 0) (more : A → B → List Row) where
  pub leaves_first : ((a : A) → Is a → (b : B) × More a b) → (ls : List Row) (place : ℕ) → LeavesAt Is rows ls place
      → LeavesAt (BothAre Is More) (both_rows rows more) ls place
  leaves_first some ls place l = record {
    before = l.before;
    after = l.after;
    joined = l.joined;
    counted = l.counted;
    begins =
        let b = l.begins in
        let s = some b.0 b.1 in
        ((b.0, s.0), (b.1, s.1), b.2 ++ more b.0 s.0, ap (λ rs. rs ++ more b.0 s.0) b.3 ∙ append_assoc l.before b.2 (more b.0 s.0));
    wrong = λ row behind e b. elim (one_front (rows b.0.0) (more b.0.0 b.0.1) (l.before ++ row ∷ []) b.2 b.3) [
      | inl f ↦ l.wrong row behind e (b.0.0, b.1.0, f.0, f.1)
      | inr f ↦ l.unfinished b.0.0 (f.0 ++ behind) b.1.0
          (l.joined ∙ ap (λ rs. l.before ++ rs) e ∙ sym (append_assoc l.before (row ∷ []) behind)
          ∙ ap (λ rs. rs ++ behind) f.1 ∙ append_assoc (rows b.0.0) f.0 behind)
    ];
    unfinished = λ x behind is e. l.unfinished x.0 (more x.0 x.1 ++ behind) is.0
        (e ∙ append_assoc (rows x.0) (more x.0 x.1) behind);
  }

  pub leaves_second : IsOnce Is rows → (a : A) → Is a → (ls rest : List Row) (place : ℕ) → ls ≡ rows a ++ rest
      → LeavesAt (More a) (more a) rest place → LeavesAt (BothAre Is More) (both_rows rows more) ls (length (rows a) + place)
  leaves_second once a is ls rest place split l = record {
    before = rows a ++ l.before;
    after = l.after;
    joined = split ∙ ap (λ rs. rows a ++ rs) l.joined ∙ sym (append_assoc (rows a) l.before l.after);
    counted = omega (arith, length-append (rows a) l.before, l.counted);
    begins =
        let b = l.begins in
        ((a, b.0), (is, b.1), b.2, ap (λ rs. rows a ++ rs) b.3 ∙ sym (append_assoc (rows a) l.before b.2));
    wrong = λ row behind e b.
        let whole : rows b.0.0 ++ more b.0.0 b.0.1 ≡ rows a ++ ((l.before ++ row ∷ []) ++ b.2) =
        b.3 ∙ ap (λ rs. rs ++ b.2) (append_assoc (rows a) l.before (row ∷ [])) ∙ append_assoc (rows a) (l.before ++ row ∷ []) b.2 in
        let same : b.0.0 ≡ a = once b.0.0 a _ _ b.1.0 is whole in
        let rest_of : rows a ++ more a b.0.1 ≡ rows a ++ ((l.before ++ row ∷ []) ++ b.2) =
        subst (λ (x : A). rows x ++ more x b.0.1 ≡ rows a ++ ((l.before ++ row ∷ []) ++ b.2)) same whole in
        l.wrong row behind e (b.0.1, subst (λ (x : A). More x b.0.1) same b.1.1, b.2, append_cancel_left (rows a) _ _ rest_of);
    unfinished = λ x behind are e.
        let whole : rows x.0 ++ (more x.0 x.1 ++ behind) ≡ rows a ++ rest =
        sym (append_assoc (rows x.0) (more x.0 x.1) behind) ∙ sym e ∙ split in
        let same : x.0 ≡ a = once x.0 a _ _ are.0 is whole in
        let rest_of : rows a ++ (more a x.1 ++ behind) ≡ rows a ++ rest =
        subst (λ (y : A). rows y ++ (more y x.1 ++ behind) ≡ rows a ++ rest) same whole in
        l.unfinished x.1 behind (subst (λ (y : A). More y x.1) same are.1) (sym (append_cancel_left (rows a) _ _ rest_of));
  }

  pub both_once : IsOnce Is rows → ((a : A) → Is a → IsOnce (More a) (more a)) → IsOnce (BothAre Is More) (both_rows rows more)
  both_once once again x y a b is are e =
      let whole : rows x.0 ++ (more x.0 x.1 ++ a) ≡ rows y.0 ++ (more y.0 y.1 ++ b) =
      sym (append_assoc (rows x.0) (more x.0 x.1) a) ∙ e ∙ append_assoc (rows y.0) (more y.0 y.1) b in
      let same : x.0 ≡ y.0 = once x.0 y.0 _ _ is.0 are.0 whole in
      let rest_of : rows y.0 ++ (more y.0 x.1 ++ a) ≡ rows y.0 ++ (more y.0 y.1 ++ b) =
      subst (λ (z : A). rows z ++ (more z x.1 ++ a) ≡ rows y.0 ++ (more y.0 y.1 ++ b)) same whole in
      let second : x.1 ≡ y.1 = again y.0 are.0 x.1 y.1 a b (subst (λ (z : A). More z x.1) same is.1) are.1
      (append_cancel_left (rows y.0) _ _ rest_of) in
      λ i. (same i, second i)

-- ---- items one after the other
module _ {X : Type 0} (rows : ℕ → X → List Row) where
  pub rows_append : (k : ℕ) (xs ys : List X) → rows_from rows k (xs ++ ys) ≡ rows_from rows k xs ++ rows_from rows (k + length xs) ys
  rows_append k [] ys = let same : k ≡ k + 0 = omega arith in ap (λ (n : ℕ). rows_from rows n ys) same
  rows_append k (x ∷ xs) ys =
      let same : (k + 1) + length xs ≡ k + suc (length xs) = omega arith in
      ap (λ rs. rows k x ++ rs) (rows_append (k + 1) xs ys ∙ ap (λ (n : ℕ). rows_from rows (k + 1) xs ++ rows_from rows n ys) same)
      ∙ sym (append_assoc (rows k x) (rows_from rows (k + 1) xs) (rows_from rows (k + suc (length xs)) ys))

  pub rows_push : (xs : List X) (x : X) → rows_from rows 0 (xs ++ x ∷ []) ≡ rows_from rows 0 xs ++ rows (length xs) x
  rows_push xs x =
      rows_append 0 xs (x ∷ [])
      ∙ ap (λ rs. rows_from rows 0 xs ++ rs)
      (append-nil (rows (0 + length xs) x) ∙ (let same : 0 + length xs ≡ length xs = omega arith in ap (λ (n : ℕ). rows n x) same))

module _ {X : Type 0} (Is : ℕ → X → Type 0) where
  pub all_append : (k : ℕ) (xs ys : List X) → AllFrom Is k xs → AllFrom Is (k + length xs) ys → AllFrom Is k (xs ++ ys)
  all_append k [] ys a b = let same : k + 0 ≡ k = omega arith in subst (λ (n : ℕ). AllFrom Is n ys) same b
  all_append k (x ∷ xs) ys a b =
      let same : k + suc (length xs) ≡ (k + 1) + length xs = omega arith in
      (a.0, all_append (k + 1) xs ys a.1 (subst (λ (n : ℕ). AllFrom Is n ys) same b))

  pub all_front : (k : ℕ) (xs ys : List X) → AllFrom Is k (xs ++ ys) → AllFrom Is k xs
  all_front k [] ys a = tt
  all_front k (x ∷ xs) ys a = (a.0, all_front (k + 1) xs ys a.1)

  pub all_rest : (k : ℕ) (xs ys : List X) → AllFrom Is k (xs ++ ys) → AllFrom Is (k + length xs) ys
  all_rest k [] ys a = let same : k ≡ k + 0 = omega arith in subst (λ (n : ℕ). AllFrom Is n ys) same a
  all_rest k (x ∷ xs) ys a =
      let same : (k + 1) + length xs ≡ k + suc (length xs) = omega arith in
      subst (λ (n : ℕ). AllFrom Is n ys) same (all_rest (k + 1) xs ys a.1)

  pub all_push : (xs : List X) (x : X) → AllFrom Is 0 xs → Is (length xs) x → AllFrom Is 0 (xs ++ x ∷ [])
  all_push xs x a is =
      let same : length xs ≡ 0 + length xs = omega arith in
      all_append 0 xs (x ∷ []) a (subst (λ (n : ℕ). Is n x) same is, tt)

  pub all_last : (xs : List X) (x : X) → AllFrom Is 0 (xs ++ x ∷ []) → Is (length xs) x
  all_last xs x a =
      let same : 0 + length xs ≡ length xs = omega arith in
      subst (λ (n : ℕ). Is n x) same (all_rest 0 xs (x ∷ []) a).0

-- Lists of n items. Room says of a list that it is a front of one.
module _ {X : Type 0} (Is : ℕ → X → Type 0) (rows : ℕ → X → List Row)
    (once : (k : ℕ) → IsOnce (Is k) (rows k)) where
  -- lists whose lines begin alike begin alike
  pub same_fronts : (k : ℕ) (xs ys : List X) (a b : List Row) → AllFrom Is k xs → AllFrom Is k ys → length xs ≤ length ys
      → rows_from rows k xs ++ a ≡ rows_from rows k ys ++ b
      → (zs : List X) × (ys ≡ xs ++ zs) × (a ≡ rows_from rows (k + length xs) zs ++ b)
  same_fronts k [] ys a b all many long e =
      let same : k ≡ k + 0 = omega arith in
      (ys, refl, e ∙ ap (λ (n : ℕ). rows_from rows n ys ++ b) same)
  same_fronts k (x ∷ xs) [] a b all many long e = absurd (omega arith)
  same_fronts k (x ∷ xs) (y ∷ ys) a b all many long e =
      let whole : rows k x ++ (rows_from rows (k + 1) xs ++ a) ≡ rows k y ++ (rows_from rows (k + 1) ys ++ b) =
      sym (append_assoc (rows k x) (rows_from rows (k + 1) xs) a) ∙ e ∙ append_assoc (rows k y) (rows_from rows (k + 1) ys) b in
      let same : x ≡ y = once k x y _ _ all.0 many.0 whole in
      let next : rows k y ++ (rows_from rows (k + 1) xs ++ a) ≡ rows k y ++ (rows_from rows (k + 1) ys ++ b) =
      subst (λ (z : X). rows k z ++ (rows_from rows (k + 1) xs ++ a) ≡ rows k y ++ (rows_from rows (k + 1) ys ++ b)) same whole in
      let more = same_fronts (k + 1) xs ys a b all.1 many.1 (omega arith) (append_cancel_left (rows k y) _ _ next) in
      let place : (k + 1) + length xs ≡ k + suc (length xs) = omega arith in
      (more.0, (let rest : ys ≡ xs ++ more.0 = more.1 in cc), more.2 ∙ ap (λ (n : ℕ). rows_from rows n more.0 ++ b) place)

  module _ (n : ℕ) (Room : List X → Type 0)
      (each : (xs : List X) → Room xs → AllFrom Is 0 xs)
      (front : (xs ys : List X) → Room (xs ++ ys) → Room xs)
      (more : (xs : List X) → Room xs → length xs < n → (x : X) × Room (xs ++ x ∷ [])) where
    abbrev pub IsFull : List X → Type 0
    IsFull xs = Room xs × (length xs ≡ n)

    -- each front is one of a whole list
    pub filled : (left : ℕ) (xs : List X) → Room xs → length xs + left ≡ n → (ys : List X) × IsFull (xs ++ ys)
    filled zero xs room e = ([], subst IsFull (sym (append-nil xs)) (room, omega arith))
    filled (suc left) xs room e =
        let next = more xs room (omega arith) in
        let rest = filled left (xs ++ next.0 ∷ []) next.1 (omega (arith, length_push xs next.0)) in
        (next.0 ∷ rest.0, subst IsFull (append_assoc xs (next.0 ∷ []) rest.0) rest.1)

    pub some_full : Room [] → (xs : List X) × IsFull xs
    some_full room = filled n [] room (omega arith)

    pub full_once : IsOnce IsFull (rows_from rows 0)
    full_once xs ys a b all many e =
        let f = same_fronts 0 xs ys a b (each xs all.0) (each ys many.0) (omega arith) e in
        let none : length f.0 ≡ 0 = (let long : length ys ≡ length (xs ++ f.0) = ap length f.1 in omega (arith, length-append xs f.0)) in
        empty_rest xs ys f.0 none f.1
      where
        empty_rest : (us vs zs : List X) → length zs ≡ 0 → vs ≡ us ++ zs → us ≡ vs
        empty_rest us vs [] z is = sym (is ∙ append-nil us)
        empty_rest us vs (w ∷ zs) z is = absurd (omega arith)

    pub leaves_item : (xs : List X) → Room xs → length xs < n → (ls rest : List Row) (place : ℕ) → ls ≡ rows_from rows 0 xs ++ rest
        → LeavesAt (λ (x : X). Room (xs ++ x ∷ [])) (rows (length xs)) rest place
        → LeavesAt IsFull (rows_from rows 0) ls (length (rows_from rows 0 xs) + place)
    leaves_item xs room low ls rest place split l = record {
      before = rows_from rows 0 xs ++ l.before;
      after = l.after;
      joined = split ∙ ap (λ rs. rows_from rows 0 xs ++ rs) l.joined ∙ sym (append_assoc (rows_from rows 0 xs) l.before l.after);
      counted = omega (arith, length-append (rows_from rows 0 xs) l.before, l.counted);
      begins =
          let b = l.begins in
          let rest = filled (n - suc (length xs)) (xs ++ b.0 ∷ []) b.1 (omega (arith, length_push xs b.0)) in
          let ys = rest.0 in (
            (xs ++ b.0 ∷ []) ++ ys,
            rest.1,
            b.2 ++ rows_from rows (0 + length (xs ++ b.0 ∷ [])) ys,
            rows_append rows 0 (xs ++ b.0 ∷ []) ys
                ∙ ap (λ rs. rs ++ rows_from rows (0 + length (xs ++ b.0 ∷ [])) ys)
                (rows_push rows xs b.0 ∙ ap (λ rs. rows_from rows 0 xs ++ rs) b.3 ∙ sym (append_assoc (rows_from rows 0 xs) l.before b.2))
                ∙ append_assoc (rows_from rows 0 xs ++ l.before) b.2 (rows_from rows (0 + length (xs ++ b.0 ∷ [])) ys),
          );
      wrong = λ row behind e b.
          let whole : rows_from rows 0 xs ++ ((l.before ++ row ∷ []) ++ b.2) ≡ rows_from rows 0 b.0 ++ [] =
          sym (append_assoc (rows_from rows 0 xs) (l.before ++ row ∷ []) b.2)
          ∙ ap (λ rs. rs ++ b.2) (sym (append_assoc (rows_from rows 0 xs) l.before (row ∷ []))) ∙ sym b.3
          ∙ sym (append-nil (rows_from rows 0 b.0)) in
          let f = same_fronts 0 xs b.0 _ [] (each xs room) (each b.0 b.1.0) (omega (arith, b.1.1)) whole in
          wrong_behind row behind e b.2 f.0 b.0 b.1 f.1 f.2;
      unfinished = λ ys behind full e.
          let whole : rows_from rows 0 xs ++ rest ≡ rows_from rows 0 ys ++ behind = sym split ∙ e in
          let f = same_fronts 0 xs ys _ behind (each xs room) (each ys full.0) (omega (arith, full.1)) whole in
          whole_behind f.0 ys full f.1 behind f.2;
    }
      where
        -- the item after xs of a whole list, and what follows it
        next_is : (ys zs : List X) (z : X) → IsFull ys → ys ≡ xs ++ z ∷ zs → Room (xs ++ z ∷ [])
        next_is ys zs z full e = front (xs ++ z ∷ []) zs
            (subst Room (e ∙ sym (append_assoc xs (z ∷ []) zs)) full.0)

        some_behind : (ys : List X) → IsFull ys → ys ≡ xs ++ [] → ⊥
        some_behind ys full e =
            let long : length ys ≡ length (xs ++ []) = ap length e in
            omega (arith, length-append xs [], full.1)

        place_is : 0 + length xs ≡ length xs
        place_is = omega arith

        whole_behind : (zs ys : List X) → IsFull ys → ys ≡ xs ++ zs → (behind : List Row)
            → rest ≡ rows_from rows (0 + length xs) zs ++ behind → ⊥
        whole_behind [] ys full e behind is = some_behind ys full e
        whole_behind (z ∷ zs) ys full e behind is =
            l.unfinished z (rows_from rows ((0 + length xs) + 1) zs ++ behind) (next_is ys zs z full e)
            (is ∙ append_assoc (rows (0 + length xs) z) (rows_from rows ((0 + length xs) + 1) zs) behind
            ∙ ap (λ (k : ℕ). rows k z ++ (rows_from rows ((0 + length xs) + 1) zs ++ behind)) place_is)

        wrong_behind : (row : Row) (behind : List Row) → l.after ≡ row ∷ behind → (tail : List Row) (zs ys : List X) → IsFull ys
            → ys ≡ xs ++ zs → (l.before ++ row ∷ []) ++ tail ≡ rows_from rows (0 + length xs) zs ++ [] → ⊥
        wrong_behind row behind at tail [] ys full e is = some_behind ys full e
        wrong_behind row behind at tail (z ∷ zs) ys full e is =
            let after : List Row = rows_from rows ((0 + length xs) + 1) zs ++ [] in
            let apart : rows (length xs) z ++ after ≡ (l.before ++ row ∷ []) ++ tail =
            sym (is ∙ append_assoc (rows (0 + length xs) z) (rows_from rows ((0 + length xs) + 1) zs) []
            ∙ ap (λ (k : ℕ). rows k z ++ after) place_is) in
            elim (one_front (rows (length xs) z) after (l.before ++ row ∷ []) tail apart) [
              | inl f ↦ l.wrong row behind at (z, next_is ys zs z full e, f.0, f.1)
              | inr f ↦ l.unfinished z (f.0 ++ behind) (next_is ys zs z full e)
                  (l.joined ∙ ap (λ rs. l.before ++ rs) at ∙ sym (append_assoc l.before (row ∷ []) behind)
                  ∙ ap (λ rs. rs ++ behind) f.1 ∙ append_assoc (rows (length xs) z) f.0 behind)
            ]
