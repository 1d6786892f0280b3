-- What the view of a part says stays true while the core goes on.
use Rattle.std.proofs.Common.{◌≡◌, ℕ, suc, ◌≤◌, List, [], ◌∷◌, length, sym, refl, ◌∙◌, arith}
use Rattle.std.specs.Prelude.{slice_get, Some}
use Rattle.std.proofs.lemmas.List.Elements.{All-weaker}
use Rattle.std.specs.List.{AllZip}
use Rattle.mont_base.specs.declared.operation.Entry.{Entry}
use Rattle.mont_base.specs.Seen.{View as Front, FitsHistories}
use Rattle.core_steps.specs.declared.parts.Core.{Core}
use Rattle.core_steps.specs.declared.parts.UnitPart.{UnitPart}
use Rattle.core_steps.specs.Notes.{BeginsWith, Moment, moment_of, Grows}
use Rattle.core_steps.proofs.Growth.{front_stays}
use Rattle.heap_rule.specs.declared.views.Learnt.{Learnt}
use Rattle.heap_rule.specs.declared.views.LeftWithin.{LeftWithin}
use Rattle.heap_rule.specs.Rule.{IsLearnt, IsLeft, AreLeft, AreClean, seen_in}

-- no unit loses a slot
abbrev pub Sweeps : List UnitPart → List UnitPart → Type 0
Sweeps old new =
    (u : ℕ) (q : UnitPart) → slice_get new u ≡ Some q → (p : UnitPart) × (slice_get old u ≡ Some p) × (p.lost ≡ [] → q.lost ≡ [])

pub sweeps_itself : (units : List UnitPart) → Sweeps units units
sweeps_itself units u q at = (q, at, λ e. e)

pub clean_still : (old new : List UnitPart) (clean : List ℕ) → Sweeps old new → AreClean old clean → AreClean new clean
clean_still old new clean sweeps are u q at among = let was = sweeps u q at in was.2 (are u was.0 was.1 among)

pub learnt_still : (c d : Core) (l : Learnt) → Grows (moment_of c) (moment_of d) → IsLearnt c l → IsLearnt d l
learnt_still c d l g is = let now = g.now in let durable = g.durable in let a = is.newest in let b = is.durable in
    record { newest = omega arith; durable = omega arith }

-- what is left within an epoch stays so
pub left_still : (c d : Core) (within : List LeftWithin) → Grows (moment_of c) (moment_of d) → AreLeft c.units within
    → AreLeft d.units within
left_still c d within g are = All-weaker (IsLeft c.units) (IsLeft d.units) (λ w is. g.lefts w.unit w.epoch is) within are

-- the entries before a front that is there
seen_later : (fronts : List ℕ) (hs gs : List (List Entry)) → AllZip BeginsWith gs hs
    → ((u n : ℕ) (h : List Entry) → slice_get fronts u ≡ Some n → slice_get hs u ≡ Some h → n ≤ length h)
    → seen_in fronts gs ≡ seen_in fronts hs
seen_later [] hs gs z within = refl
seen_later (n ∷ ns) [] [] z within = refl
seen_later (n ∷ ns) [] (g ∷ gs) z within = absurd z
seen_later (n ∷ ns) (h ∷ hs) [] z within = absurd z
seen_later (n ∷ ns) (h ∷ hs) (g ∷ gs) z within =
    let first = front_stays n h g z.0 (within 0 n h refl refl) in
    let rest = seen_later ns hs gs z.1 (λ u m k a b. within (suc u) m k a b) in
    λ i. first i ∷ rest i

pub entries_still : (m l : Moment) (view : Front) (entries : List (List Entry)) → Grows m l → FitsHistories m.histories view
    → entries ≡ seen_in view.fronts m.histories → entries ≡ seen_in view.fronts l.histories
entries_still m l view entries g fits is =
    is ∙ sym (seen_later view.fronts m.histories l.histories g.histories (λ u n h a b. (fits.each u n h a b).there))
