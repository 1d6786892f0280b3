-- What recovery rebuilds of the words of a core that events reach.
use Rattle.std.proofs.Common.{◌≡◌, ℕ, suc, zero, ◌+◌, inl, inr, Option, Some, None, List, [], ◌∷◌, ◌++◌, length, map, slice_get, codes, refl, sym, ap, ◌∙◌, subst, arith}
use Rattle.std.specs.List.{enumerate_from}
use Rattle.std.proofs.lemmas.List.{append_assoc, append-nil, length-map}
use Rattle.std.proofs.lemmas.List.FromFn.{length-enumerate_from}
use Rattle.std.proofs.lemmas.Grind.{flat_map-append}
use Rattle.mont_base.specs.Layout.{Shape, IsLayout}
use Rattle.mont_base.specs.State.{State}
use Rattle.mont_base.specs.Image.{IsPermitted, IsWellFormed, IsRecovered, records_of}
use Rattle.mont_base.specs.Versions.{live_objects}
use Rattle.mont_base.specs.Structure.{IsStructure}
use Rattle.core_steps.specs.declared.event.Event.{Event}
use Rattle.core_steps.specs.declared.event.Event.TheVariants as events
use Rattle.core_steps.specs.declared.parts.Core.{Core}
use Rattle.core_steps.specs.declared.parts.Part.TheVariants as parts
use Rattle.core_steps.specs.Places.{on_row}
use Rattle.core_steps.specs.Stages.{epoch_of}
use Rattle.core_steps.specs.Clock.{clock}
use Rattle.core_steps.specs.Announcing.{tell, confirm, withdraw, freeze}
use Rattle.core_steps.specs.Storing.{store}
use Rattle.core_steps.specs.CallAnswers.{entry_of, leave, read}
use Rattle.core_steps.specs.Closing.{load_durable, see_durable, close_label, persist_close}
use Rattle.core_steps.specs.Notes.{hear}
use Rattle.core_steps.specs.Events.{after, closing_of}
use Rattle.core_steps.specs.CoreRuns.{after_all}
use Rattle.core_steps.specs.Sound.{IsSound}
use Rattle.core_steps.proofs.Steps.{all_law}
use Rattle.core_steps.proofs.StartLaws.{fresh_cores_are_sound}
use Rattle.core_steps.proofs.CutLaws.{images_hold_cuts}
use Rattle.job_text.specs.Lines.{text_of, line_of}
use Rattle.replay.specs.declared.schedule.Schedule.{Schedule}
use Rattle.replay.specs.Replays.{IsAllAllowed, fresh_core, last_core, nothing, cut_state, cut_states}
use Rattle.replay.proofs.Reaching.{each_allowed}

-- ---- no event changes the layout
row_kept : {A : Type 0} (o : Option A) (c : Core) (f : A → Core) → ((x : A) → (f x).layout ≡ c.layout) → (on_row o c f).layout ≡ c.layout
row_kept None c f each = refl
row_kept (Some x) c f each = each x

pub layout_kept : (c : Core) (e : Event) → (after c e).layout ≡ c.layout
layout_kept c (events.Look u) = refl
layout_kept c (events.Tell u e) = row_kept (slice_get c.units u) c (λ p. tell c u p e) (λ p. refl)
layout_kept c (events.Confirm u) = row_kept (slice_get c.units u) c (λ p. confirm c u p) (λ p. refl)
layout_kept c (events.Store u slot field value) = row_kept (slice_get c.units u) c (λ p. store c u p slot field value) (λ p. refl)
layout_kept c (events.Leave u k op reply) =
    row_kept (slice_get c.units u) c
    (λ p. on_row (slice_get c.callers k) c (λ q. leave c u p k q (entry_of k q op reply (epoch_of p.stage))))
    (λ p. row_kept (slice_get c.callers k) c (λ q. leave c u p k q (entry_of k q op reply (epoch_of p.stage))) (λ q. refl))
layout_kept c (events.Read u k op reply) =
    row_kept (slice_get c.units u) c
    (λ p. on_row (slice_get c.callers k) c (λ q. read c u p k q (entry_of k q op reply (clock c))))
    (λ p. row_kept (slice_get c.callers k) c (λ q. read c u p k q (entry_of k q op reply (clock c))) (λ q. refl))
layout_kept c (events.Withdraw u) = row_kept (slice_get c.units u) c (λ p. withdraw c u p) (λ p. refl)
layout_kept c (events.Freeze u k) =
    row_kept (slice_get c.units u) c (λ p. on_row (slice_get c.callers k) c (λ q. freeze c u p k q))
    (λ p. row_kept (slice_get c.callers k) c (λ q. freeze c u p k q) (λ q. refl))
layout_kept c (events.LoadDurable (parts.Unit u)) = row_kept (slice_get c.units u) c (λ p. load_durable c u p) (λ p. refl)
layout_kept c (events.LoadDurable parts.Advancer) = refl
layout_kept c (events.LoadDurable (parts.Caller k)) = row_kept (slice_get c.callers k) c (λ q. see_durable c k q) (λ q. refl)
layout_kept c (events.CloseLabel u slot) = row_kept (slice_get c.units u) c (λ p. close_label c u p slot) (λ p. refl)
layout_kept c (events.PersistClose u) = row_kept (slice_get c.units u) c (λ p. persist_close c u p (closing_of p.stage)) (λ p. refl)
layout_kept c events.Check = refl
layout_kept c events.LoadWord = refl
layout_kept c events.PersistWord = refl
layout_kept c events.SetClock = refl
layout_kept c events.PersistClock = refl
layout_kept c (events.Split part) = refl
layout_kept c (events.Join (parts.Unit u) note) = refl
layout_kept c (events.Join parts.Advancer note) = refl
layout_kept c (events.Join (parts.Caller k) note) = row_kept (slice_get c.callers k) c (λ q. hear c k q note) (λ q. refl)
layout_kept c (events.Exchange part) = refl

all_kept : (c : Core) (es : List Event) → (after_all c es).layout ≡ c.layout
all_kept c [] = refl
all_kept c (e ∷ es) = all_kept (after c e) es ∙ layout_kept c e

pub last_layout : (s : Schedule) → (last_core s).layout ≡ s.layout
last_layout s = all_kept (fresh_core s) s.events

-- ---- the last core is sound
pub last_sound : (s : Schedule) → IsLayout s.layout → IsAllAllowed s → IsSound (nothing (last_core s).layout) (last_core s)
last_sound s layout all =
    subst (λ (l : Shape). IsSound (nothing l) (last_core s)) (sym (last_layout s))
    (all_law (nothing s.layout) (fresh_core s) s.events (fresh_cores_are_sound s.layout s.callers layout) (each_allowed s all))

-- an item of a numbered list
pub numbered_state : {X Y : Type 0} (f : ℕ × X → Y) (k : ℕ) (xs : List X) (u : ℕ) (y : Y) → slice_get
    (map f (enumerate_from k xs)) u ≡ Some y
    → (x : X) × (slice_get xs u ≡ Some x) × (y ≡ f (k + u, x))
numbered_state {X} {Y} f k [] u y at = absurd (let none : ◌≡◌ {A = Option Y} None (Some y) = at in cc)
numbered_state {X} {Y} f k (x ∷ xs) zero y at =
    let first : f (k, x) ≡ y = (let both : ◌≡◌ {A = Option Y} (Some (f (k, x))) (Some y) = at in cc) in
    let number : k ≡ k + 0 = omega arith in
    (x, refl, sym first ∙ ap (λ (n : ℕ). f (n, x)) number)
numbered_state {X} {Y} f k (x ∷ xs) (suc u) y at =
    let more = numbered_state f (k + 1) xs u y at in
    let number : k + 1 + u ≡ k + suc u = omega arith in
    (more.0, more.1, more.2 ∙ ap (λ (n : ℕ). f (n, more.0)) number)

-- ---- both memories are images that a crash permits
module _ (c : Core) (sound : IsSound (nothing c.layout) c) where
  pub current_permitted : IsPermitted c.cur c.dur c.cur
  current_permitted = record { as_long = refl; each = λ w within. inl refl }

  pub durable_permitted : IsPermitted c.cur c.dur c.dur
  durable_permitted = record { as_long = sound.sizes.durable ∙ sym sound.sizes.current; each = λ w within. inr refl }

  pub well_formed : (image : List ℕ) → IsPermitted c.cur c.dur image → IsWellFormed c.layout image
  well_formed image permitted = (images_hold_cuts (nothing c.layout) c image sound permitted).well_formed

  pub recovered : (image : List ℕ) → IsPermitted c.cur c.dur image → IsRecovered c.layout image (cut_states c image)
  recovered image permitted = (
    length-map (enumerate_from 0 c.units) (cut_state c image) ∙ length-enumerate_from 0 c.units ∙ sound.sizes.unit_count,
    λ u state at.
        let own = numbered_state (cut_state c image) 0 c.units u state at in
        let number : 0 + u ≡ u = omega arith in
        let is : state ≡ cut_state c image (u, own.0) = own.2 ∙ ap (λ (n : ℕ). cut_state c image (n, own.0)) number in
        subst (λ (t : State). IsStructure c.layout u (live_objects (records_of c.layout image u)) t) (sym is)
        ((images_hold_cuts (nothing c.layout) c image sound permitted).cut u own.0 own.1),
  )

-- ---- the lines of both
abbrev Row : Type 0
Row = List (List ℕ)

regroup : (old d x m y e : List ℕ) → ((((old ++ d) ++ x) ++ m) ++ y) ++ e ≡ old ++ (((d ++ x) ++ (m ++ y)) ++ (e ++ []))
regroup old d x m y e = simp (append_assoc, append-nil)

pub lines_told : (old now : List ℕ) (xs ys : List Row)
    → now ≡ ((((old ++ codes "durable\n") ++ text_of xs) ++ codes "current\n") ++ text_of ys) ++ codes "end\n"
    → now ≡ old ++ text_of (((codes "durable" ∷ []) ∷ xs) ++ ((codes "current" ∷ []) ∷ ys) ++ ((codes "end" ∷ []) ∷ []))
lines_told old now xs ys told =
    told ∙ regroup old (codes "durable\n") (text_of xs) (codes "current\n") (text_of ys) (codes "end\n")
    ∙ ap (λ (bs : List ℕ). old ++ bs)
    (sym (flat_map-append line_of (((codes "durable" ∷ []) ∷ xs) ++ ((codes "current" ∷ []) ∷ ys)) ((codes "end" ∷ []) ∷ [])
    ∙ ap (λ (bs : List ℕ). bs ++ (codes "end\n" ++ [])) (flat_map-append line_of ((codes "durable" ∷ []) ∷ xs)
    ((codes "current" ∷ []) ∷ ys))))
