-- Lists of which each item has fewer after it than the one before, and the maps that they are.
use Rattle.std.proofs.Common.{◌≡◌, ℕ, ◌+◌, ◌-◌, ◌<◌, ◌≤◌, T, true, false, Bool, ◌&&◌, List, [], ◌∷◌, ◌++◌, length, refl, sym, ap, ◌∙◌, subst, arith}
use Rattle.std.proofs.lemmas.List.{length-append, length_push}
use Rattle.std.specs.declared.cmp.Ordering.{Ordering}
use Rattle.std.specs.declared.cmp.Ordering.TheVariants.{Less, Equal, Greater}
use Rattle.std.specs.Ordering.{is_lt}
use Rattle.std.specs.FinMap.{put, is_sorted}
use Rattle.std.specs.FinMap.Entries.{below_all, by_order}
use Rattle.job_text.specs.TextParts.{AllFrom}
use Rattle.job_text.specs.Ranks.{Falls, limit_after, LeavesRoom, IsNext}
use Rattle.job_text.proofs.Leaves.{all_front, all_push, all_last}
use Rattle.job_text.proofs.Ranked.{IsRank}

-- ---- one more item
module _ {X : Type 0} (behind : X → ℕ) where
  pub limit_append : (l : ℕ) (xs ys : List X) → limit_after behind l (xs ++ ys) ≡ limit_after behind (limit_after behind l xs) ys
  limit_append l [] ys = refl
  limit_append l (x ∷ xs) ys = limit_append (behind x) xs ys

  pub falls_append : (l : ℕ) (xs ys : List X) → Falls behind l xs → Falls behind (limit_after behind l xs) ys → Falls behind l (xs ++ ys)
  falls_append l [] ys f g = g
  falls_append l (x ∷ xs) ys f g = (f.0, falls_append (behind x) xs ys f.1 g)

  pub falls_front : (l : ℕ) (xs ys : List X) → Falls behind l (xs ++ ys) → Falls behind l xs
  falls_front l [] ys f = tt
  falls_front l (x ∷ xs) ys f = (f.0, falls_front (behind x) xs ys f.1)

  pub falls_rest : (l : ℕ) (xs ys : List X) → Falls behind l (xs ++ ys) → Falls behind (limit_after behind l xs) ys
  falls_rest l [] ys f = f
  falls_rest l (x ∷ xs) ys f = falls_rest (behind x) xs ys f.1

  pub falls_long : (l : ℕ) (xs : List X) → Falls behind l xs → length xs + limit_after behind l xs ≤ l
  falls_long l [] f = omega arith
  falls_long l (x ∷ xs) f = let rest = falls_long (behind x) xs f.1 in let first = f.0 in omega arith

  falls_weaker : (l m : ℕ) (xs : List X) → l ≤ m → Falls behind l xs → Falls behind m xs
  falls_weaker l m [] low f = tt
  falls_weaker l m (x ∷ xs) low f = let first = f.0 in (omega arith, f.1)

  module _ (Is : X → Type 0) (all n : ℕ) where
    pub room_front : (xs ys : List X) → LeavesRoom (λ k x. Is x) behind all n (xs ++ ys) → LeavesRoom (λ k x. Is x) behind all n xs
    room_front xs ys h = record {
      each = all_front (λ k x. Is x) 0 xs ys h.each;
      falls = falls_front all xs ys h.falls;
      room =
          let rest = falls_long (limit_after behind all xs) ys (falls_rest all xs ys h.falls) in
          omega (arith, h.room, limit_append all xs ys, length-append xs ys);
    }

    pub room_next : (xs : List X) (x : X) → LeavesRoom (λ k x. Is x) behind all n xs
        → IsNext Is behind (limit_after behind all xs) (n - (length xs + 1)) x → LeavesRoom (λ k x. Is x) behind all n (xs ++ x ∷ [])
    room_next xs x h next = record {
      each = all_push (λ k x. Is x) xs x h.each next.is;
      falls = falls_append all xs (x ∷ []) h.falls (next.below, tt);
      room = omega (arith, next.enough, limit_append all xs (x ∷ []), length_push xs x);
    }

    pub next_room : (xs : List X) (x : X) → LeavesRoom (λ k x. Is x) behind all n (xs ++ x ∷ [])
        → IsNext Is behind (limit_after behind all xs) (n - (length xs + 1)) x
    next_room xs x h = record {
      is = all_last (λ k x. Is x) xs x h.each;
      below = (falls_rest all xs (x ∷ []) h.falls).0;
      enough = omega (arith, h.room, limit_append all xs (x ∷ []), length_push xs x);
    }

    pub room_more : ((m : ℕ) → m < all → (x : X) × Is x × (behind x ≡ m)) → (xs : List X) → LeavesRoom (λ k x. Is x) behind all n xs
        → length xs < n → (x : X) × LeavesRoom (λ k x. Is x) behind all n (xs ++ x ∷ [])
    room_more each xs h few =
        let long = falls_long all xs h.falls in
        let enough = h.room in
        let found = each (limit_after behind all xs - 1) (omega arith) in
        (found.0, room_next xs found.0 h (record { is = found.1; below = omega (arith, found.2); enough = omega (arith, found.2) }))

    pub room_none : n ≤ all → LeavesRoom (λ k x. Is x) behind all n []
    room_none few = record { each = tt; falls = tt; room = omega arith }

-- ---- maps
both : (a b : Bool) → T a → T b → T (a && b)
both true b p q = q
both false b p q = p

first : (a b : Bool) → T (a && b) → T a
first true b p = tt
first false b p = p

second : (a b : Bool) → T (a && b) → T b
second true b p = p
second false b p = absurd p

less : (o : Ordering) → T (is_lt o) → o ≡ Less
less Less p = refl
less Equal p = absurd p
less Greater p = absurd p

module _ {K V : Type 0} (R : K → K → Ordering) (IsKey : K → Type 0) (behind : K → ℕ) (all : ℕ) (rank : IsRank R IsKey behind all) where
  abbrev pub behind_key : K × V → ℕ
  behind_key e = behind e.0

  HeadBelow : ℕ → List (K × V) → Type 0
  HeadBelow l [] = Unit {0}
  HeadBelow l (e ∷ es) = behind e.0 < l

  falls_sorted : (k : ℕ) (l : ℕ) (es : List (K × V)) → AllFrom (λ (i : ℕ) (e : K × V). IsKey e.0) k es → T (is_sorted R es)
      → HeadBelow l es → Falls behind_key l es
  unfolding HeadBelow
  falls_sorted k l [] keys sorted low = tt
  falls_sorted k l (e ∷ []) keys sorted low = (low, tt)
  falls_sorted k l (e ∷ f ∷ es) keys sorted low =
      let next = less (R e.0 f.0) (first _ _ (first _ _ sorted)) in
      (low, falls_sorted (k + 1) (behind e.0) (f ∷ es) keys.1 (second _ _ sorted) (rank.falls e.0 f.0 keys.0 keys.1.0 next))

  pub entries_fall : (es : List (K × V)) → AllFrom (λ (i : ℕ) (e : K × V). IsKey e.0) 0 es → T (is_sorted R es) → Falls behind_key all es
  unfolding HeadBelow
  entries_fall [] keys sorted = tt
  entries_fall (e ∷ es) keys sorted = falls_sorted 0 all (e ∷ es) keys sorted (rank.low e.0 keys.0)

  all_below : (i : ℕ) (k : K) (es : List (K × V)) → IsKey k → AllFrom (λ (i : ℕ) (e : K × V). IsKey e.0) i es
      → Falls behind_key (behind k) es → T (below_all R k es)
  all_below i k [] is keys falls = tt
  all_below i k (e ∷ es) is keys falls =
      let low = falls.0 in
      both _ _ (subst (λ (o : Ordering). T (is_lt o)) (sym (rank.rises k e.0 is keys.0 low)) tt)
      (all_below (i + 1) k es is keys.1 (falls_weaker behind_key (behind e.0) (behind k) es (omega arith) falls.1))

  pub falls_are_sorted : (i l : ℕ) (es : List (K × V)) → AllFrom (λ (i : ℕ) (e : K × V). IsKey e.0) i es → Falls behind_key l es
      → T (is_sorted R es)
  falls_are_sorted i l [] keys falls = tt
  falls_are_sorted i l (e ∷ es) keys falls =
      both _ _ (all_below (i + 1) e.0 es keys.0 keys.1 falls.1) (falls_are_sorted (i + 1) (behind e.0) es keys.1 falls.1)

  -- a key after all others goes last
  pub put_last : (i l : ℕ) (k : K) (v : V) (es : List (K × V)) → IsKey k → AllFrom (λ (i : ℕ) (e : K × V). IsKey e.0) i es
      → Falls behind_key l es → behind k < limit_after behind_key l es → put R k v es ≡ es ++ (k, v) ∷ []
  put_last i l k v [] is keys falls low = refl
  put_last i l k v (e ∷ es) is keys falls low =
      let long = falls_long behind_key (behind e.0) es falls.1 in
      let past = rank.past e.0 k keys.0 is (omega arith) in
      ap (λ (o : Ordering). by_order o ((k, v) ∷ e ∷ es) ((e.0, v) ∷ es) (e ∷ put R k v es)) past
      ∙ ap (λ (fs : List (K × V)). e ∷ fs) (put_last (i + 1) (behind e.0) k v es is keys.1 falls.1 low)
