-- What a column shows of a lane, label by label.
use Rattle.std.proofs.Common.{◌≡◌, ℕ, ◌+◌, ◌<◌, ◌≤◌, min, List, [], ◌∷◌, ◌++◌, cond, true, false, length, get_or, take, map, sym, ap, ◌∙◌, arith, length-take}
use Rattle.std.proofs.lemmas.List.{append-nil, take_all, take-append-le, map-append, length-map, get_or-map, length_push}
use Rattle.std.proofs.lemmas.List.Elements.{filter_more}
use Rattle.report_drawing.specs.declared.columns.Column.{Column}
use Rattle.report_drawing.specs.declared.lanes.Cell.{Cell}
use Rattle.report_drawing.specs.Lanes.{Shown, shown_of}
use Rattle.report_drawing.specs.Columns.{holds}
use Rattle.report_drawing.specs.Folding.{Drawn, drawn_of, label_of, in_column, most_of, more_labels, IsStack}
use Rattle.report_drawing.specs.declared.folding.Label.{Label}

-- the labels that are drawn of what a column holds, and how many more it holds
pub record Counts (most : ℕ) (held : List Shown) (labels : List Drawn) (more : ℕ) : Type 0 where
  pub drawn : labels ≡ map label_of (take most held)
  pub all : length (take most held) + more ≡ length held

-- one more that is drawn
pub one_drawn : (most : ℕ) (held : List Shown) (labels now : List Drawn) (more : ℕ) (s : Shown) → Counts most held labels more
    → length labels < most → now ≡ labels ++ label_of s ∷ [] → Counts most (held ++ s ∷ []) now more
one_drawn most held labels now more s counts room is =
    let long : length labels ≡ min most (length held) =
    ap length counts.drawn ∙ length-map (take most held) label_of ∙ length-take most held in
    let few : length held < most = omega (arith, long) in
    let whole : take most held ≡ held = take_all most held (omega arith) in
    let still : take most (held ++ s ∷ []) ≡ held ++ s ∷ [] =
    take_all most (held ++ s ∷ []) (omega (arith, length_push held s)) in
    record {
      drawn =
          is
          ∙ ap (λ ls. ls ++ label_of s ∷ []) (counts.drawn ∙ ap (map label_of) whole)
          ∙ sym (map-append label_of held (s ∷ []))
          ∙ ap (map label_of) (sym still);
      all = omega (arith, ap length still, ap length whole, length_push held s, counts.all);
    }

-- one more that is counted
pub one_counted : (most : ℕ) (held : List Shown) (labels : List Drawn) (more : ℕ) (s : Shown) → Counts most held labels more
    → most ≤ length labels → Counts most (held ++ s ∷ []) labels (more + 1)
one_counted most held labels more s counts full =
    let long : length labels ≡ min most (length held) =
    ap length counts.drawn ∙ length-map (take most held) label_of ∙ length-take most held in
    let many : most ≤ length held = omega (arith, long) in
    let still : take most (held ++ s ∷ []) ≡ take most held = take-append-le most held (s ∷ []) many in
    record {
      drawn = counts.drawn ∙ ap (map label_of) (sym still);
      all = omega (arith, ap length still, length_push held s, counts.all);
    }

-- what a column holds of some cells and of one more
pub held_more : (c : Column) (cells : List Cell) (i : ℕ) (d : Cell) → i < length cells → in_column c (take (i + 1) (map shown_of cells))
    ≡ in_column c (take i (map shown_of cells))
    ++ cond (holds c (get_or cells i d).epoch) (shown_of (get_or cells i d) ∷ []) []
held_more c cells i d within =
    let there : get_or (map shown_of cells) i (shown_of d) ≡ shown_of (get_or cells i d) =
    get_or-map shown_of cells i d (shown_of d) within in
    filter_more (λ (s : Shown). holds c s.epoch) (map shown_of cells) i (shown_of d) (omega (arith, length-map cells shown_of))
    ∙ ap (λ (s : Shown). in_column c (take i (map shown_of cells)) ++ cond (holds c s.epoch) (s ∷ []) []) there

-- one more cell that the column holds, and one that it doesn't
pub held_one : (c : Column) (cells : List Cell) (i : ℕ) (x : Cell) → i < length cells → x ≡ get_or cells i x → holds c x.epoch ≡ true
    → in_column c (take (i + 1) (map shown_of cells)) ≡ in_column c (take i (map shown_of cells)) ++ shown_of x ∷ []
held_one c cells i x within is holding =
    let held = in_column c (take i (map shown_of cells)) in
    held_more c cells i x within
    ∙ ap (λ (y : Cell). held ++ cond (holds c y.epoch) (shown_of y ∷ []) []) (sym is)
    ∙ ap (λ b. held ++ cond b (shown_of x ∷ []) []) holding

pub held_none : (c : Column) (cells : List Cell) (i : ℕ) (x : Cell) → i < length cells → x ≡ get_or cells i x → holds c x.epoch ≡ false
    → in_column c (take (i + 1) (map shown_of cells)) ≡ in_column c (take i (map shown_of cells))
held_none c cells i x within is lacking =
    let held = in_column c (take i (map shown_of cells)) in
    held_more c cells i x within
    ∙ ap (λ (y : Cell). held ++ cond (holds c y.epoch) (shown_of y ∷ []) []) (sym is)
    ∙ ap (λ b. held ++ cond b (shown_of x ∷ []) []) lacking
    ∙ append-nil held

-- what is drawn when a label was pushed
pub label_pushed : (was now : List Label) (label : Label) (s : Shown) → now ≡ was ++ label ∷ [] → drawn_of label ≡ label_of s
    → map drawn_of now ≡ map drawn_of was ++ label_of s ∷ []
label_pushed was now label s pushed is =
    ap (map drawn_of) pushed
    ∙ map-append drawn_of was (label ∷ [])
    ∙ ap (λ d. map drawn_of was ++ d ∷ []) is

-- what a column shows when each cell was looked at, and what says how many more it holds
pub stack_ends : (c : Column) (lane : List Shown) (i : ℕ) (labels now : List Drawn) (more : ℕ) → length lane ≤ i → Counts (most_of c)
    (in_column c (take i lane)) labels more → now ≡ labels ++ more_labels c more → IsStack lane c now
stack_ends c lane i labels now more past counts said =
    let whole : take i lane ≡ lane = take_all i lane past in
    record {
      more = more;
      drawn =
          said
          ∙ ap (λ ls. ls ++ more_labels c more)
          (counts.drawn ∙ ap (λ xs. map label_of (take (most_of c) (in_column c xs))) whole);
      all = rw whole at counts.all;
    }
