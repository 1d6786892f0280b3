-- The operations that survive in a chain of rounds, and a chain with a further round after it.
use Rattle.std.proofs.Common.{◌≡◌, ℕ, zero, suc, ◌<◌, ◌≤◌, List, [], ◌∷◌, ◌++◌, Bool, true, false, ap, sym, ◌∙◌, subst, refl, arith}
use Rattle.std.specs.Prelude.{length, slice_get, nat_le, Some, All, AllPairs}
use Rattle.std.proofs.lemmas.Bool.Decides.{nat_tests}
use Rattle.std.proofs.lemmas.List.Elements.{All-append, All-cons, All-head, All-nil, All-tail, All-weaker, All-filter, filter_passes}
use Rattle.std.proofs.lemmas.List.Kept.{AllPairs-cons, AllPairs-filter}
use Rattle.std.proofs.lemmas.Option.{same_Some}
use Rattle.mont_base.specs.declared.constants.TheConstants.{FIRST_CLOCK, LAST}
use Rattle.mont_base.specs.declared.operation.Entry.{Entry}
use Rattle.mont_base.specs.History.{IsLegal, RepliesFollow, state_after, cut_at}
use Rattle.mont_base.specs.Image.{empty_states}
use Rattle.mont_base.specs.Layout.{Shape}
use Rattle.mont_base.specs.State.{State, step, unit_of_op}
use Rattle.mont_laws.proofs.Members.{pairs_head, pairs_tail}
use Rattle.store_stop.specs.Headline.{cut_states}
use Rattle.rounds.specs.Rounds.{Round, AreRoundsFrom, IsRoundFrom, ChainsAreLegal, RoundsGoOn, states_left, states_at_end, clock_at_end, history_in, kept_in, kept_to, strung}

abbrev IsBefore : Entry → Entry → Type 0
IsBefore d e = d.epoch ≤ e.epoch

-- ---- replies
-- those of two histories, one after the other
replies_behind : (s : State) (g h : List Entry) → RepliesFollow s g → RepliesFollow (state_after s g) h → RepliesFollow s (g ++ h)
replies_behind s [] h a b = b
replies_behind s (e ∷ g) h a b = (a.0, replies_behind (step s e.op).state g h a.1 b)

state_behind : (s : State) (g h : List Entry) → state_after s (g ++ h) ≡ state_after (state_after s g) h
state_behind s [] h = refl
state_behind s (e ∷ g) h = state_behind (step s e.op).state g h

-- where epochs never fall, the entries up to an epoch are answered as they were
module _ (x : ℕ) where
  nothing_late : (h : List Entry) → All (λ (e : Entry). x < e.epoch) h → cut_at x h ≡ []
  nothing_late [] late = refl
  nothing_late (e ∷ es) late =
      let first = All-head (λ (d : Entry). x < d.epoch) e es late in
      let t : nat_le e.epoch x ≡ false = grind (arith, nat_tests) in
      rw t (nothing_late es (All-tail (λ (d : Entry). x < d.epoch) e es late))

  cut_replies : (s : State) (h : List Entry) → AllPairs IsBefore h → RepliesFollow s h → RepliesFollow s (cut_at x h)
  cut_replies s [] rising replies = replies
  cut_replies s (e ∷ es) rising replies = by (nat_le e.epoch x) refl
      (cut_replies (step s e.op).state es (pairs_tail IsBefore e es rising) replies.1)
    where
      by : (t : Bool) → nat_le e.epoch x ≡ t → RepliesFollow (step s e.op).state (cut_at x es) → RepliesFollow s (cut_at x (e ∷ es))
      by true f rest = rw f (replies.0, rest)
      by false f rest =
          let above : x < e.epoch = grind (arith, nat_tests) in
          let late : All (λ (d : Entry). x < d.epoch) es =
          All-weaker (λ (d : Entry). e.epoch ≤ d.epoch) (λ (d : Entry). x < d.epoch) (λ d low. omega arith) es
          (pairs_head IsBefore e es rising) in
          subst (RepliesFollow s) (sym (nothing_late (e ∷ es) (All-cons (λ (d : Entry). x < d.epoch) e es above late))) tt

  cut_reached : (h : List Entry) → All (λ (e : Entry). e.epoch ≤ x) (cut_at x h)
  cut_reached h = All-weaker (λ (e : Entry). nat_le e.epoch x ≡ true) (λ (e : Entry). e.epoch ≤ x) (λ e t. reached e t) (cut_at x h)
      (filter_passes (λ (e : Entry). nat_le e.epoch x) h)
    where
      reached : (e : Entry) → nat_le e.epoch x ≡ true → e.epoch ≤ x
      reached e t = grind (arith, nat_tests)

  -- so they are legal
  pub cut_is_legal : (s : Shape) (unit : ℕ) (base : State) (clock : ℕ) (h : List Entry) → IsLegal s unit base clock h
      → IsLegal s unit base clock (cut_at x h)
  cut_is_legal s unit base clock h legal = record {
    of_unit = All-filter (λ (e : Entry). nat_le e.epoch x) (λ (e : Entry). unit_of_op s e.op ≡ Some unit) h legal.of_unit;
    replies = cut_replies base h legal.rising legal.replies;
    rising = AllPairs-filter IsBefore (λ (e : Entry). nat_le e.epoch x) h legal.rising;
    begins = All-filter (λ (e : Entry). nat_le e.epoch x) (λ (e : Entry). clock ≤ e.epoch) h legal.begins;
    ends = All-filter (λ (e : Entry). nat_le e.epoch x) (λ (e : Entry). e.epoch ≤ LAST) h legal.ends;
  }

-- ---- epochs
-- no entry of the front is of a later epoch than any after it
rising_behind : (x : ℕ) (g h : List Entry) → AllPairs IsBefore g → AllPairs IsBefore h → All (λ (e : Entry). e.epoch ≤ x) g
    → All (λ (e : Entry). x ≤ e.epoch) h → AllPairs IsBefore (g ++ h)
rising_behind x [] h a b low high = b
rising_behind x (e ∷ g) h a b low high =
    let first = All-head (λ (d : Entry). d.epoch ≤ x) e g low in
    AllPairs-cons IsBefore e (g ++ h)
    (All-append (IsBefore e) g h (pairs_head IsBefore e g a)
    (All-weaker (λ (d : Entry). x ≤ d.epoch) (IsBefore e) (λ d above. omega arith) h high))
    (rising_behind x g h (pairs_tail IsBefore e g a) b (All-tail (λ (d : Entry). d.epoch ≤ x) e g low) high)

-- a legal history, and after it one that is legal from where it leads
pub legal_behind : (s : Shape) (unit : ℕ) (base : State) (clock x later : ℕ) (g h : List Entry) → clock ≤ later → x ≤ later
    → IsLegal s unit base clock g → All (λ (e : Entry). e.epoch ≤ x) g → IsLegal s unit (state_after base g) later h
    → IsLegal s unit base clock (g ++ h)
legal_behind s unit base clock x later g h passed near a low b = record {
  of_unit = All-append (λ (e : Entry). unit_of_op s e.op ≡ Some unit) g h a.of_unit b.of_unit;
  replies = replies_behind base g h a.replies b.replies;
  rising = rising_behind x g h a.rising b.rising low
      (All-weaker (λ (e : Entry). later ≤ e.epoch) (λ (e : Entry). x ≤ e.epoch) (λ e above. omega arith) h b.begins);
  begins = All-append (λ (e : Entry). clock ≤ e.epoch) g h a.begins
      (All-weaker (λ (e : Entry). later ≤ e.epoch) (λ (e : Entry). clock ≤ e.epoch) (λ e above. omega arith) h b.begins);
  ends = All-append (λ (e : Entry). e.epoch ≤ LAST) g h a.ends b.ends;
}

nothing_is_legal : (s : Shape) (unit : ℕ) (base : State) (clock : ℕ) → IsLegal s unit base clock []
nothing_is_legal s unit base clock = record {
  of_unit = All-nil (λ (e : Entry). unit_of_op s e.op ≡ Some unit);
  replies = tt;
  rising = λ i j d before within. absurd (omega arith);
  begins = All-nil (λ (e : Entry). clock ≤ e.epoch);
  ends = All-nil (λ (e : Entry). e.epoch ≤ LAST);
}

-- ---- one round
-- a unit with a state has a history, and its cut leads to the state that is left
pub record Leaves (x : ℕ) (base : List State) (histories : List (List Entry)) (unit : ℕ) (state : State) : Type 0 where
  pub told : slice_get histories unit ≡ Some (history_in histories unit)
  pub left : slice_get (cut_states x base histories) unit ≡ Some (state_after state (cut_at x (history_in histories unit)))

left_at : (x : ℕ) (base : List State) (histories : List (List Entry)) (unit : ℕ) (state : State) → length base ≡ length histories
    → slice_get base unit ≡ Some state → Leaves x base histories unit state
left_at x [] histories unit state many e = absurd (cc)
left_at x (b ∷ base) [] unit state many e = absurd (omega arith)
left_at x (b ∷ base) (h ∷ histories) zero state many e =
    record { told = refl; left = ap (λ (s : State). Some (state_after s (cut_at x h))) (same_Some b state e) }
left_at x (b ∷ base) (h ∷ histories) (suc unit) state many e =
    let rest = left_at x base histories unit state (omega arith) e in
    record { told = rest.told; left = rest.left }

-- ---- all rounds
module _ (s : Shape) (unit : ℕ) where
  pub record Strung (clock : ℕ) (base : List State) (state : State) (rs : List Round) : Type 0 where
    pub legal : IsLegal s unit state clock (strung unit rs)
    pub leads : slice_get (states_at_end base rs) unit ≡ Some (state_after state (strung unit rs))

  strung_from : (clock : ℕ) (base : List State) (state : State) (rs : List Round) → AreRoundsFrom s clock base rs
      → slice_get base unit ≡ Some state → Strung clock base state rs
  strung_from clock base state [] rounds e = record { legal = nothing_is_legal s unit state clock; leads = e }
  strung_from clock base state (r ∷ rs) rounds e =
      let is = rounds.0 in
      let at : slice_get r.base unit ≡ Some state = ap (λ (b : List State). slice_get b unit) is.base_is ∙ e in
      let leaves = left_at (kept_to r) r.base r.histories unit state (is.legal.based ∙ sym is.legal.units) at in
      let whole : IsLegal s unit state r.clock (history_in r.histories unit) =
      is.legal.each unit state (history_in r.histories unit) at leaves.told in
      let kept : IsLegal s unit state clock (kept_in r unit) =
      subst (λ (c : ℕ). IsLegal s unit state c (kept_in r unit)) is.clock_is
      (cut_is_legal (kept_to r) s unit state r.clock (history_in r.histories unit) whole) in
      let rest = strung_from r.image_clock (states_left r) (state_after state (kept_in r unit)) rs rounds.1 leaves.left in
      let passed : clock ≤ r.image_clock = subst (λ (c : ℕ). c ≤ r.image_clock) is.clock_is is.not_before in
      record {
        legal = legal_behind s unit state clock (kept_to r) r.image_clock (kept_in r unit) (strung unit rs) passed (omega arith)
            kept (cut_reached (kept_to r) (history_in r.histories unit)) rest.legal;
        leads = rest.leads ∙ ap Some (sym (state_behind state (kept_in r unit) (strung unit rs)));
      }

pub chains_are_legal : ChainsAreLegal
chains_are_legal s rs unit empty chain at =
    let all = strung_from s unit FIRST_CLOCK (empty_states s) empty rs chain at in
    record { legal = all.legal; leads = all.leads }

-- ---- one more round
module _ (s : Shape) (r : Round) where
  pub goes_on : (clock : ℕ) (base : List State) (rs : List Round) → AreRoundsFrom s clock base rs
      → IsRoundFrom s (clock_at_end clock rs) (states_at_end base rs) r → AreRoundsFrom s clock base (rs ++ r ∷ [])
  goes_on clock base [] rounds next = (next, tt)
  goes_on clock base (q ∷ rs) rounds next = (rounds.0, goes_on q.image_clock (states_left q) rs rounds.1 next)

  states_then : (base : List State) (rs : List Round) → states_at_end base (rs ++ r ∷ []) ≡ states_left r
  states_then base [] = refl
  states_then base (q ∷ rs) = states_then (states_left q) rs

  clock_then : (clock : ℕ) (rs : List Round) → clock_at_end clock (rs ++ r ∷ []) ≡ r.image_clock
  clock_then clock [] = refl
  clock_then clock (q ∷ rs) = clock_then q.image_clock rs

pub rounds_go_on : RoundsGoOn
rounds_go_on s rs r chain next = record {
  chain = goes_on s r FIRST_CLOCK (empty_states s) rs chain next;
  states = states_then s r (empty_states s) rs;
  clock = clock_then s r FIRST_CLOCK rs;
}
