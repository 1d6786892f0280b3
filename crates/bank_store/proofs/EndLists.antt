-- What holds of shifts and their ends, one after the other.
use Rattle.std.proofs.Common.{◌≡◌, List, [], ◌∷◌, ◌++◌, sym, ap, ◌∙◌, subst, append_assoc}
use Rattle.std.specs.Prelude.{All}
use Rattle.std.proofs.lemmas.List.{append-nil}
use Rattle.std.proofs.lemmas.List.Elements.{All-head, All-tail}
use Rattle.mont_base.specs.declared.operation.Receipt.{Receipt}
use Rattle.bank_job.specs.declared.shifts.Shift.{Shift}
use Rattle.bank_store.specs.Ends.{End, HoldsOfEach, all_given, receipts_given}

pub given_more : (ends : List End) (end : End) → all_given (ends ++ end ∷ []) ≡ all_given ends ++ receipts_given end
given_more [] end = append-nil (receipts_given end)
given_more (e ∷ es) end =
    ap (λ (rs : List Receipt). receipts_given e ++ rs) (given_more es end)
    ∙ sym (append_assoc (receipts_given e) (all_given es) (receipts_given end))

-- one more after them
pub holds_more : (P Q : Shift → End → List Receipt → List Receipt → Type 0) (shift : Shift) (end : End)
    → ((s : Shift) (e : End) (before behind : List Receipt) → P s e before behind → Q s e before (behind ++ receipts_given end))
    → (earlier : List Receipt) (shifts : List Shift) (ends : List End) → Q shift end (earlier ++ all_given ends) []
    → HoldsOfEach P earlier shifts ends → HoldsOfEach Q earlier (shifts ++ shift ∷ []) (ends ++ end ∷ [])
holds_more P Q shift end step earlier [] [] last holds =
    (subst (λ (rs : List Receipt). Q shift end rs []) (append-nil earlier) last, tt)
holds_more P Q shift end step earlier (s ∷ ss) (e ∷ es) last holds = (
  subst (Q s e earlier) (sym (given_more es end)) (step s e earlier (all_given es) holds.0),
  holds_more P Q shift end step (earlier ++ receipts_given e) ss es
      (subst (λ (rs : List Receipt). Q shift end rs []) (sym (append_assoc earlier (receipts_given e) (all_given es))) last) holds.1,
)
holds_more P Q shift end step earlier [] (e ∷ es) last holds = absurd holds
holds_more P Q shift end step earlier (s ∷ ss) [] last holds = absurd holds

-- what is weaker holds of them, too
pub holds_weaker : (P Q : Shift → End → List Receipt → List Receipt → Type 0)
    → ((s : Shift) (e : End) (before behind : List Receipt) → P s e before behind → Q s e before behind)
    → (earlier : List Receipt) (shifts : List Shift) (ends : List End) → HoldsOfEach P earlier shifts ends
    → HoldsOfEach Q earlier shifts ends
holds_weaker P Q step earlier [] [] holds = tt
holds_weaker P Q step earlier (s ∷ ss) (e ∷ es) holds =
    (step s e earlier (all_given es) holds.0, holds_weaker P Q step (earlier ++ receipts_given e) ss es holds.1)
holds_weaker P Q step earlier [] (e ∷ es) holds = absurd holds
holds_weaker P Q step earlier (s ∷ ss) [] holds = absurd holds

-- and so it does of what stands after a front, which it knows
pub holds_behind : (P Q : Shift → End → List Receipt → List Receipt → Type 0) (Fits : Shift → Type 0) (front : List Receipt)
    → ((s : Shift) (e : End) (before behind : List Receipt) → Fits s → P s e before behind → Q s e (front ++ before) behind)
    → (earlier : List Receipt) (shifts : List Shift) (ends : List End) → All Fits shifts → HoldsOfEach P earlier shifts ends
    → HoldsOfEach Q (front ++ earlier) shifts ends
holds_behind P Q Fits front step earlier [] [] fits holds = tt
holds_behind P Q Fits front step earlier (s ∷ ss) (e ∷ es) fits holds = (
  step s e earlier (all_given es) (All-head Fits s ss fits) holds.0,
  subst (λ (rs : List Receipt). HoldsOfEach Q rs ss es) (sym (append_assoc front earlier (receipts_given e)))
      (holds_behind P Q Fits front step (earlier ++ receipts_given e) ss es (All-tail Fits s ss fits) holds.1),
)
holds_behind P Q Fits front step earlier [] (e ∷ es) fits holds = absurd holds
holds_behind P Q Fits front step earlier (s ∷ ss) [] fits holds = absurd holds
