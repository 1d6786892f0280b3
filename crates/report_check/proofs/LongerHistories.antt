-- A history that is one entry longer, and a front of a history.
use Rattle.std.proofs.Common.{◌≡◌, ℕ, ◌+◌, ◌≤◌, List, [], ◌∷◌, ◌++◌, length, get_or, take, drop, Some, refl, sym, ap, ◌∙◌, subst, arith}
use Rattle.std.specs.Prelude.{All, AllPairs, Option, None}
use Rattle.std.specs.List.{cons_option}
use Rattle.std.proofs.lemmas.List.{length-append, length-take, get_or-take, get_or_append_left, get_or-append-add, take-append-drop}
use Rattle.std.proofs.lemmas.List.Elements.{All-push, All-pop, All-take}
use Rattle.std.proofs.lemmas.List.Quantifiers.{all_pairs_push}
use Rattle.mont_base.specs.declared.constants.TheConstants.{LAST}
use Rattle.mont_base.specs.declared.operation.Entry.{Entry}
use Rattle.mont_base.specs.Layout.{Shape}
use Rattle.mont_base.specs.State.{State, step, run_of, unit_of_op}
use Rattle.mont_base.specs.History.{IsLegal, RepliesFollow, runs_of, state_after}
use Rattle.plain.specs.Continues.{ContinuesHistory}
use Rattle.std.proofs.lemmas.List.Elements.{All-nil}

-- ---- lists
module _ {A : Type 0} (xs : List A) (x : A) where
  pub all_but_last : (P : A → Type 0) → All P (xs ++ x ∷ []) → All P xs
  all_but_last P h = (All-pop P (xs ++ x ∷ []) xs (Some x) refl h).0

  pub the_last : (P : A → Type 0) → All P (xs ++ x ∷ []) → P x
  the_last P h = (All-pop P (xs ++ x ∷ []) xs (Some x) refl h).1

  pub pairs_but_last : (R : A → A → Type 0) → AllPairs R (xs ++ x ∷ []) → AllPairs R xs
  pairs_but_last R h i j d lt inside =
      let longer : length (xs ++ x ∷ []) ≡ length xs + 1 = length-append xs (x ∷ []) in
      let one : get_or (xs ++ x ∷ []) i d ≡ get_or xs i d = get_or_append_left xs (x ∷ []) d i (omega arith) in
      let two : get_or (xs ++ x ∷ []) j d ≡ get_or xs j d = get_or_append_left xs (x ∷ []) d j inside in
      subst (λ y. R (get_or xs i d) y) two (subst (λ y. R y (get_or (xs ++ x ∷ []) j d)) one (h i j d lt (omega arith)))

  pub pairs_with_last : (R : A → A → Type 0) → AllPairs R (xs ++ x ∷ []) → All (λ y. R y x) xs
  pairs_with_last R h i d inside =
      let longer : length (xs ++ x ∷ []) ≡ length xs + 1 = length-append xs (x ∷ []) in
      let one : get_or (xs ++ x ∷ []) i d ≡ get_or xs i d = get_or_append_left xs (x ∷ []) d i inside in
      let two : get_or (xs ++ x ∷ []) (length xs + 0) d ≡ x = get_or-append-add xs (x ∷ []) 0 d in
      subst (λ y. R (get_or xs i d) y) two
      (subst (λ y. R y (get_or (xs ++ x ∷ []) (length xs + 0) d)) one (h i (length xs + 0) d (omega arith) (omega arith)))

pub pairs_of_front : {A : Type 0} (R : A → A → Type 0) (n : ℕ) (xs : List A) → AllPairs R xs → AllPairs R (take n xs)
pairs_of_front R n xs h i j d lt inside =
    let long : length (take n xs) ≤ length xs = omega (arith, length-take n xs) in
    let few : length (take n xs) ≤ n = omega (arith, length-take n xs) in
    let one : get_or (take n xs) i d ≡ get_or xs i d = get_or-take n xs i d (omega arith) in
    let two : get_or (take n xs) j d ≡ get_or xs j d = get_or-take n xs j d (omega arith) in
    subst (λ y. R y (get_or (take n xs) j d)) (sym one) (subst (λ y. R (get_or xs i d) y) (sym two) (h i j d lt (omega arith)))

-- ---- replies and runs
pub replies_more : (base : State) (xs : List Entry) (e : Entry) → RepliesFollow base xs
    → e.reply ≡ (step (state_after base xs) e.op).reply → RepliesFollow base (xs ++ e ∷ [])
replies_more base [] e h is = (is, tt)
replies_more base (d ∷ xs) e h is = (h.0, replies_more (step base d.op).state xs e h.1 is)

pub replies_less : (base : State) (xs ys : List Entry) → RepliesFollow base (xs ++ ys) → RepliesFollow base xs
replies_less base [] ys h = tt
replies_less base (d ∷ xs) ys h = (h.0, replies_less (step base d.op).state xs ys h.1)

pub last_reply : (base : State) (xs : List Entry) (e : Entry) → RepliesFollow base (xs ++ e ∷ [])
    → e.reply ≡ (step (state_after base xs) e.op).reply
last_reply base [] e h = h.0
last_reply base (d ∷ xs) e h = last_reply (step base d.op).state xs e h.1

cons_longer : {A : Type 0} (o : Option A) (xs ys : List A) → cons_option o (xs ++ ys) ≡ cons_option o xs ++ ys
cons_longer None xs ys = refl
cons_longer (Some x) xs ys = refl

pub runs_longer : (base : State) (xs ys : List Entry)
    → runs_of base (xs ++ ys) ≡ runs_of base xs ++ runs_of (state_after base xs) ys
runs_longer base [] ys = refl
runs_longer base (d ∷ xs) ys =
    ap (cons_option (run_of base d.op)) (runs_longer (step base d.op).state xs ys)
    ∙ cons_longer (run_of base d.op) (runs_of (step base d.op).state xs) (runs_of (state_after (step base d.op).state xs) ys)

-- ---- legal histories
-- the greatest of a clock and of the epochs
pub record IsNewest (clock : ℕ) (xs : List Entry) (newest : ℕ) : Type 0 where
  pub least : (x : ℕ) → newest ≤ x → (clock ≤ x) × All (λ (d : Entry). d.epoch ≤ x) xs
  pub bound : (x : ℕ) → clock ≤ x → All (λ (d : Entry). d.epoch ≤ x) xs → newest ≤ x

pub newest_none : (clock : ℕ) → IsNewest clock [] clock
newest_none clock = record {
  least = λ x h. (h, All-nil (λ (d : Entry). d.epoch ≤ x));
  bound = λ x h all. h;
}

pub newest_more : (clock : ℕ) (xs : List Entry) (newest : ℕ) (e : Entry) → IsNewest clock xs newest → newest ≤ e.epoch
    → IsNewest clock (xs ++ e ∷ []) e.epoch
newest_more clock xs newest e is later = record {
  least = λ x h. let old = is.least x (omega arith) in (old.0, All-push (λ (d : Entry). d.epoch ≤ x) xs e old.1 h);
  bound = λ x h all. the_last xs e (λ (d : Entry). d.epoch ≤ x) all;
}

module _ (s : Shape) (unit : ℕ) (base : State) (clock : ℕ) where
  pub legal_more : (xs : List Entry) (e : Entry) (newest : ℕ) → IsNewest clock xs newest → IsLegal s unit base clock xs
      → ContinuesHistory s unit newest (step (state_after base xs) e.op).reply e → IsLegal s unit base clock (xs ++ e ∷ [])
  legal_more xs e newest is h next = record {
    of_unit = All-push (λ (d : Entry). unit_of_op s d.op ≡ Some unit) xs e h.of_unit next.of_unit;
    replies = replies_more base xs e h.replies next.replied;
    rising = all_pairs_push (λ (c d : Entry). c.epoch ≤ d.epoch) xs e h.rising ((is.least e.epoch next.later).1);
    begins = All-push (λ (d : Entry). clock ≤ d.epoch) xs e h.begins ((is.least e.epoch next.later).0);
    ends = All-push (λ (d : Entry). d.epoch ≤ LAST) xs e h.ends next.last;
  }

  pub legal_next : (xs : List Entry) (e : Entry) (newest : ℕ) → IsNewest clock xs newest → IsLegal s unit base clock (xs ++ e ∷ [])
      → ContinuesHistory s unit newest (step (state_after base xs) e.op).reply e
  legal_next xs e newest is h = record {
    of_unit = the_last xs e (λ (d : Entry). unit_of_op s d.op ≡ Some unit) h.of_unit;
    replied = last_reply base xs e h.replies;
    later = is.bound e.epoch (the_last xs e (λ (d : Entry). clock ≤ d.epoch) h.begins)
        (pairs_with_last xs e (λ (c d : Entry). c.epoch ≤ d.epoch) h.rising);
    last = the_last xs e (λ (d : Entry). d.epoch ≤ LAST) h.ends;
  }

  pub legal_front : (n : ℕ) (h : List Entry) → IsLegal s unit base clock h → IsLegal s unit base clock (take n h)
  legal_front n h is = record {
    of_unit = All-take (λ (d : Entry). unit_of_op s d.op ≡ Some unit) n h is.of_unit;
    replies = replies_less base (take n h) (drop n h) (subst (RepliesFollow base) (sym (take-append-drop n h)) is.replies);
    rising = pairs_of_front (λ (c d : Entry). c.epoch ≤ d.epoch) n h is.rising;
    begins = All-take (λ (d : Entry). clock ≤ d.epoch) n h is.begins;
    ends = All-take (λ (d : Entry). d.epoch ≤ LAST) n h is.ends;
  }
