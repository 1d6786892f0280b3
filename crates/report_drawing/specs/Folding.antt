-- What is drawn of a lane in each column: each label once, or counted once among those that aren't.
use Rattle.std.specs.Prelude.{◌≡◌, ℕ, zero, suc, ◌+◌, List, [], ◌∷◌, ◌++◌, Bool, ◌==◌, length, map, take, filter, codes, decimal, string_bytes, if◌then◌else◌}
use Rattle.std.specs.List.{AllZip}
use Rattle.std.specs.Global.{Vec}
use Rattle.report_drawing.specs.declared.columns.Column.{Column}
use Rattle.report_drawing.specs.declared.folding.Label.{Label}
use Rattle.report_drawing.specs.declared.folding.Strip.{Strip}
use Rattle.report_drawing.specs.Lanes.{Shown}
use Rattle.report_drawing.specs.Columns.{holds}

-- a label as it is drawn, grey if it is lost
pub record Drawn : Type 0 where
  pub lost : Bool
  pub text : List ℕ

abbrev pub drawn_of : Label → Drawn
drawn_of label = record { lost = label.lost; text = string_bytes label.text }

abbrev pub drawn_all : Vec Label → List Drawn
drawn_all labels = map drawn_of labels.items

-- the label of a cell
abbrev pub label_of : Shown → Drawn
label_of s = record { lost = s.lost; text = s.label }

-- what a column holds of a lane
abbrev pub in_column : Column → List Shown → List Shown
in_column c lane = filter (λ (s : Shown). holds c s.epoch) lane

-- twelve labels of a lane at most are drawn in a column, and none in one that is folded
abbrev pub most_of : Column → ℕ
most_of c = if c.first == c.last then 12 else 0

-- what says how many aren't drawn, if there are any
abbrev pub more_labels : Column → ℕ → List Drawn
more_labels c zero = []
more_labels c (suc n) = record { lost = c.lost; text = decimal (suc n) ++ codes " more" } ∷ []

-- Of a lane a column shows the first labels in their order, each once, one below the other, and
-- below them how many more there are: what is drawn and what is counted is all that it holds.
pub record IsStack (lane : List Shown) (c : Column) (labels : List Drawn) : Type 0 where
  pub more : ℕ
  pub drawn :
      labels ≡ map label_of (take (most_of c) (in_column c lane)) ++ more_labels c more
  pub all : length (take (most_of c) (in_column c lane)) + more ≡ length (in_column c lane)

-- one such list of labels for each column
abbrev pub AreStacks : List Column → List Shown → List (List Drawn) → Type 0
AreStacks columns lane stacks = AllZip (IsStack lane) columns stacks

-- ---- what is drawn of each lane
abbrev pub stacks_drawn : Strip → List (List Drawn)
stacks_drawn strip = map drawn_all strip.stacks.items

abbrev pub AreStrips : List Column → List (List Shown) → List Strip → Type 0
AreStrips columns lanes strips =
    AllZip (λ lane strip. AreStacks columns lane (stacks_drawn strip)) lanes strips
