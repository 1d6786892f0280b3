-- Units that are known to be clean, where a seat takes a note.
use Rattle.std.proofs.Common.{◌≡◌, ◌∙◌, ap, refl, ℕ, zero, suc, List, ◌++◌, true}
use Rattle.std.specs.Prelude.{Bool, ◌&&◌, ◌||◌, ◌==◌}
use Rattle.std.specs.List.{list_any}
use Rattle.std.proofs.lemmas.List.Folds.{list_any-append}
use Rattle.core_steps.proofs.Decisions.{both}
use Rattle.mont_base.specs.Layout.{units_of}
use Rattle.heap_rule.specs.declared.views.CallerKnown.{CallerKnown}
use Rattle.heap_rule.specs.Views.{is_among, are_clean, advancer_shown}
use Rattle.heap.specs.HeapShown.{HeapShown, AdvShown}
use Rattle.heap_pass.specs.OfHeap.{IsAdvancerOf}

-- they stay so when more are known
pub are_clean-append : (n : ℕ) (clean more : List ℕ) → are_clean n clean ≡ true → are_clean n (clean ++ more) ≡ true
are_clean-append zero clean more all = refl
are_clean-append (suc n) clean more all =
    let parts = both (is_among clean n) (are_clean n clean) all in
    ap (λ (b : Bool). b && are_clean n (clean ++ more))
    (list_any-append (λ v. v == n) clean more ∙ ap (λ (b : Bool). b || list_any (λ v. v == n) more) parts.0)
    ∙ are_clean-append n clean more parts.1

-- an advancer of the heap is one still when it was shown what a caller has seen
pub shown_advancer_of :
    (heap : HeapShown) (a : AdvShown) (q : CallerKnown) → IsAdvancerOf heap a
    → IsAdvancerOf heap (record { table = a.table; known = advancer_shown a.known q })
shown_advancer_of heap a q fits = record {
  of_heap = record {
    of_table = fits.of_heap.of_table;
    all_clean = are_clean-append (units_of heap.opening.layout) a.known.clean q.clean fits.of_heap.all_clean;
  };
  of_layout = record { units = fits.of_layout.units; room = fits.of_layout.room; lists = fits.of_layout.lists };
}
