-- A put adds its value and takes the earlier one out, and a removal takes it out.
use Rattle.std.proofs.Common.{T, ◌≡◌, ℕ, ◌+◌, Bool, true, false, cond, List, [], ◌∷◌, Some, None, Option, refl, sym, ap, ◌∙◌, subst, arith}
use Rattle.std.specs.Prelude.{sum_by}
use Rattle.std.specs.declared.cmp.Ordering.{Ordering}
use Rattle.std.specs.declared.cmp.Ordering.TheVariants.{Less, Equal, Greater}
use Rattle.std.specs.Ordering.{is_eq, is_lt, eq_by_cmp}
use Rattle.std.specs.Cmp.{IsTotalOrder, tied_itself, first_so, second_so}
use Rattle.std.specs.Cmp.Lexicographic.{nat_list_cmp_total}
use Rattle.std.specs.FinMap as finite
use Rattle.std.specs.FinMap.Entries.{put, find, is_sorted, below_all}
use Rattle.std.proofs.lemmas.List.Sums.{sum_by-cons}
use Rattle.mont_base.specs.declared.operation.Op.{Op}
use Rattle.mont_base.specs.declared.operation.Op.TheVariants as ops
use Rattle.mont_base.specs.State.{Key, Value, Pairs, State, MapOf, Step, key_cmp, map_step, map_del, earlier_text}
use Rattle.mont_base.specs.History.{state_after, RepliesFollow}
use Rattle.unit_totals.specs.MapBooks.{amount_in, put_amount, told_amount, taken_amount, put_in, taken_out, BooksBalance}

is_less : (r : Ordering) → is_lt r ≡ true → r ≡ Less
is_less Less h = refl
is_less Equal h = cc
is_less Greater h = cc

is_tied : (r : Ordering) → is_eq r ≡ true → r ≡ Equal
is_tied Less h = cc
is_tied Equal h = refl
is_tied Greater h = cc

-- ---- a value that is put among entries by rising key
found : {X : Type 0} → (X → ℕ) → Option X → ℕ
found f None = 0
found f (Some x) = f x

module _ {K X : Type 0} {R : K → K → Ordering} (o : IsTotalOrder R) (f : X → ℕ) where
  abbrev sum : List (K × X) → ℕ
  sum es = sum_by (λ (e : K × X). f e.1) es

  none_found : (k x : K) (es : List (K × X)) → R k x ≡ Less → below_all R x es ≡ true → find R k es ≡ None
  none_found k x [] low h = refl
  none_found k x (e ∷ es) low h =
      let l = o.trans k x e.0 low (is_less _ (first_so (is_lt (R x e.0)) (below_all R x es) h)) in
      rw l (none_found k x es low (second_so (is_lt (R x e.0)) (below_all R x es) h))

  put_sum : (k : K) (v : X) (es : List (K × X)) → is_sorted R es ≡ true → sum (put R k v es) + found f (find R k es) ≡ sum es + f v
  unfolding found
  put_sum k v [] s = let c = sum_by-cons (λ (e : K × X). f e.1) (k, v) [] in omega (arith, c)
  put_sum k v (e ∷ es) s = by (R k e.0) refl (put_sum k v es (second_so (below_all R e.0 es) (is_sorted R es) s))
    where
      by : (r : Ordering) → R k e.0 ≡ r → sum (put R k v es) + found f (find R k es) ≡ sum es + f v
          → sum (put R k v (e ∷ es)) + found f (find R k (e ∷ es)) ≡ sum (e ∷ es) + f v
      by Less h rest =
          let none = none_found k e.0 es h (first_so (below_all R e.0 es) (is_sorted R es) s) in
          rw h (rw none (let c = sum_by-cons (λ (e : K × X). f e.1) (k, v) (e ∷ es) in omega (arith, c)))
      by Equal h rest =
          let c = sum_by-cons (λ (e : K × X). f e.1) (e.0, v) es in
          let d = sum_by-cons (λ (e : K × X). f e.1) e es in
          rw h (omega (arith, c, d))
      by Greater h rest =
          let c = sum_by-cons (λ (e : K × X). f e.1) e (put R k v es) in
          let d = sum_by-cons (λ (e : K × X). f e.1) e es in
          rw h (omega (arith, c, d, rest))

-- ---- a put and a removal of a map
same_key : finite.IsAntisymmetric key_cmp
same_key = finite.slice_cmp-IsAntisymmetric finite.nat_cmp-IsAntisymmetric

told_found : (f : Value → ℕ) (old : Option Value) → told_amount f (earlier_text old) ≡ found f old
unfolding found
told_found f None = refl
told_found f (Some v) = refl

told : (b : Bool) → T b → b ≡ true
told true t = refl
told false t = absurd t

put_total : (f : Value → ℕ) (m : Pairs) (k : Key) (v : Value)
    → amount_in f (MapOf (finite.insert m k v)) + told_amount f (earlier_text (finite.get m k)) ≡ amount_in f (MapOf m) + f v
put_total f m k v =
    let put_is = finite.entries-insert nat_list_cmp_total m k v in
    let old_is = told_found f (finite.get m k) ∙ ap (found f) (finite.get-entries m k) in
    let one = put_sum nat_list_cmp_total f k v (finite.entries m) (told _ (finite.entries_sorted m)) in
    let left = ap (sum_by (λ (e : Key × Value). f e.1)) put_is in
    omega (arith, old_is, one, left)

-- to put back what was removed
put_back : (m : Pairs) (k : Key) (v : Value) → finite.get m k ≡ Some v → finite.insert (finite.remove m k) k v ≡ m
put_back m k v there = finite.same_map nat_list_cmp_total same_key _ _ (λ q. finite.get-insert nat_list_cmp_total (finite.remove m k) k v q
    ∙ ap (cond (eq_by_cmp key_cmp q k) (Some v)) (finite.get-remove nat_list_cmp_total m k q) ∙ at q (eq_by_cmp key_cmp q k) refl)
  where
    at : (q : Key) (b : Bool) → eq_by_cmp key_cmp q k ≡ b → cond b (Some v) (cond b None (finite.get m q)) ≡ finite.get m q
    at q true e = sym there ∙ finite.get_tied nat_list_cmp_total m q k (is_tied _ e)
    at q false e = refl

none_left : (m : Pairs) (k : Key) → finite.get (finite.remove m k) k ≡ None
none_left m k = finite.get-remove nat_list_cmp_total m k k
    ∙ ap (λ r. cond (is_eq r) None (finite.get m k)) (tied_itself nat_list_cmp_total k)

remove_total : (f : Value → ℕ) (m : Pairs) (k : Key) (v : Value) → finite.get m k ≡ Some v
    → amount_in f (MapOf (finite.remove m k)) + f v ≡ amount_in f (MapOf m)
remove_total f m k v there =
    let one = put_total f (finite.remove m k) k v in
    let back = ap (λ (n : Pairs). amount_in f (MapOf n)) (put_back m k v there) in
    let none = ap (λ (old : Option Value). told_amount f (earlier_text old)) (none_left m k) in
    omega (arith, one, back, none)

-- ---- each operation of a map
record StepBalances (f : Value → ℕ) (m : Pairs) (op : Op) (s : Step) : Type 0 where
  pub behind : Pairs
  pub leads : s.state ≡ MapOf behind
  pub sums : amount_in f (MapOf behind) + taken_amount f op s.reply ≡ amount_in f (MapOf m) + put_amount f op

removal : (f : Value → ℕ) (m : Pairs) (k : Key) (old : Option Value) → finite.get m k ≡ old → StepBalances f m (ops.Del k) (map_del m k old)
removal f m k None is = record { behind = m; leads = refl; sums = refl }
removal f m k (Some v) is =
    let one = remove_total f m k v is in
    record { behind = finite.remove m k; leads = refl; sums = omega (arith, one) }

-- a removal from an ordered unit is one from a map
ordered_removal : (f : Value → ℕ) (m : Pairs) (unit : ℕ) (k : Key) (s : Step) → StepBalances f m (ops.Del k) s
    → StepBalances f m (ops.ODel unit k) s
ordered_removal f m unit k s b = record { behind = b.behind; leads = b.leads; sums = b.sums }

step_balances : (f : Value → ℕ) (m : Pairs) (op : Op) → StepBalances f m op (map_step m op)
step_balances f m (ops.Put k v) = record { behind = finite.insert m k v; leads = refl; sums = put_total f m k v }
step_balances f m (ops.Del k) = removal f m k (finite.get m k) refl
step_balances f m (ops.OPut unit k v) = record { behind = finite.insert m k v; leads = refl; sums = put_total f m k v }
step_balances f m (ops.ODel unit k) = ordered_removal f m unit k (map_del m k (finite.get m k)) (removal f m k (finite.get m k) refl)
step_balances f m _ = record { behind = m; leads = refl; sums = refl }

pub balance : BooksBalance
balance f m [] follows = refl
balance f m (e ∷ es) follows =
    let b = step_balances f m e.op in
    let rest = balance f b.behind es (subst (λ (s : State). RepliesFollow s es) b.leads follows.1) in
    let leads = ap (λ (s : State). amount_in f (state_after s es)) b.leads in
    let reply = ap (taken_amount f e.op) follows.0 in
    let c = sum_by-cons (put_in f) e es in
    let d = sum_by-cons (taken_out f) e es in
    omega (arith, b.sums, rest, leads, reply, c, d)
