-- A store that was stopped is a round; what was swept opens the same store.
use Rattle.std.proofs.Common.{◌≡◌, ℕ, ◌≤◌, List, ap, sym, ◌∙◌, subst, refl, arith}
use Rattle.mont_base.specs.Image.{IsPermitted, clock_of, cut_of}
use Rattle.mont_base.specs.Layout.{Shape}
use Rattle.mont_base.specs.State.{State}
use Rattle.plain.specs.declared.contents.Contents.{Contents}
use Rattle.plain.specs.States.{states_of}
use Rattle.heap.specs.HeapShown.{CallerShown}
use Rattle.store_stop.specs.declared.headline.Stopped.{Stopped}
use Rattle.store_stop.specs.Headline.{AreLegal, HoldsHistories, IsStopped, cut_states, parts_shown}
use Rattle.rounds.specs.Rounds.{StoppedStoresMakeRounds, SweptImagesOpenTheSame, IsRoundOfStore, round_of, states_left}

module _ (s : Shape) (clock : ℕ) (base : Contents) (callers : List CallerShown) (t : Stopped) (image : List ℕ)
    (stopped : IsStopped s clock base callers t) (permitted : IsPermitted t.words.cur t.words.dur image) where
  holds : HoldsHistories s (states_of base) t.histories (parts_shown callers) t.words image
  holds = stopped.images image permitted

  same_base : states_of t.base ≡ states_of base
  same_base = ap states_of stopped.base_is

  reached : t.base_clock ≤ clock_of image
  reached =
      let is = stopped.base_clock in
      let begun = stopped.clocks.begun in
      let low = holds.not_before in
      omega (arith, is, begun, low)

  left_is : states_left (round_of t (clock_of image)) ≡ cut_states (cut_of image) (states_of base) t.histories
  left_is = ap (λ (states : List State). cut_states (cut_of image) states t.histories) same_base

  made : IsRoundOfStore s clock (states_of base) image (round_of t (clock_of image))
  made = record {
    round = record {
      clock_is = stopped.base_clock;
      base_is = same_base;
      legal = subst (λ (x : ℕ × List State). AreLegal s x.0 x.1 t.histories) (λ i. (sym stopped.base_clock i, sym same_base i))
          stopped.legal;
      not_before = reached;
    };
    left = record {
      clock_is = refl;
      rebuilt = λ states. let r = holds.rebuilt states in (
        λ is. r.0 is ∙ sym left_is,
        λ is. r.1 (is ∙ left_is),
      );
    };
  }

pub stopped_stores_make_rounds : StoppedStoresMakeRounds
stopped_stores_make_rounds = made

pub swept_images_open_the_same : SweptImagesOpenTheSame
swept_images_open_the_same o clock later base states holds opens =
    (opens.clock_is ∙ holds.clock_is, (holds.rebuilt states).0 opens.recovered)
