-- Attempts to move the clock on: what one is, and how often it was tried.
use Rattle.std.specs.Prelude.{◌≡◌, ℕ, zero, suc, ◌<◌, Bool, true, false, Ok, Err, IfOk}
use Rattle.std.specs.declared.result.Result.{Result}
use Rattle.mont_base.specs.Image.{clock_of}
use Rattle.heap_rule.specs.declared.views.AdvKnown.{AdvKnown}
use Rattle.heap.specs.HeapShown.{HeapShown, AdvShown}
use Rattle.heap_pass.specs.OfHeap.{IsAdvancerOf}
use Rattle.write_back.specs.AskedSteps.{AsksEachStep}
use Rattle.advance.specs.declared.advance_refusal.AdvanceRefusal.{AdvanceRefusal}
use Rattle.advance.specs.declared.advance_refusal.AdvanceRefusal.TheVariants.{ClockEnd}
use Rattle.advance.specs.Advance.{IsAdvanced, IsSameSeat, IsUnderWay, HasReason, IsAtEnd, was_cut}

-- ---- one
-- what an advance made of the advancer's seat
abbrev pub Advances : AdvKnown → AdvKnown → Result ℕ AdvanceRefusal → Type 0
Advances before left (Ok clock) = IsAdvanced before clock left
Advances before left (Err why) = IsUnderWay before left × HasReason why before left

-- The advance of the heap's advancer was begun or gone on with, and came to this answer. Its gate
-- was asked once for each step that the advancer's seat counts.
pub record HasAdvanced {G : Type 0} (asked : G → G → Bool → Type 0) (heap : HeapShown)
    (before after : G) (answer : Result ℕ AdvanceRefusal) : Type 0 where
  pub found : AdvShown
  pub left : AdvShown
  pub of_heap : IsAdvancerOf heap found
  pub same : IsSameSeat found left
  pub advances : Advances found.known left.known answer
  pub steps :
      AsksEachStep asked found.known.steps left.known.steps before after (was_cut answer)
  pub begun : IfOk answer (λ clock. clock_of heap.opening.words < clock)
  pub at_end : IsAtEnd found.known → answer ≡ Err ClockEnd

-- ---- many
-- what is known of one try: the gate before it and after, and its answer
abbrev pub Try : Type 0 → Type 1
Try A = A → A → Result ℕ AdvanceRefusal → Type 0

-- one, and whether the gate cut it
abbrev pub IsTry : {A : Type 0} → Try A → A → A → Bool → Type 0
IsTry tried g h cut =
    (answer : Result ℕ AdvanceRefusal) × tried g h answer × (was_cut answer ≡ cut)

-- so many, one after the other, of which the gate cut none
abbrev pub AreTries : {A : Type 0} → Try A → ℕ → A → A → Type 0
AreTries tried zero g h = h ≡ g
AreTries {A} tried (suc n) g h = (i : A) × AreTries tried n g i × IsTry tried i h false

-- As many were made as were asked for, or the gate cut the one after the last of these, and no
-- more were made.
pub record HasTried {A : Type 0} (tried : Try A) (attempts : ℕ) (before after : A) (cut : Bool)
    : Type 0 where
  pub many : ℕ
  pub last : A
  pub tries : AreTries tried many before last
  pub all : cut ≡ false → (many ≡ attempts) × (after ≡ last)
  pub ended : cut ≡ true → (many < attempts) × IsTry tried last after true
