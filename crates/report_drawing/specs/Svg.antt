-- Lanes as SVG: a row of text for each label, in the column and the lane of the label.
use Rattle.std.specs.Prelude.{ℕ, ◌+◌, ◌*◌, ◌-◌, ◌^◌, min, max, List, [], ◌∷◌, ◌++◌, Bool, true, false, ◌==◌, length, slice_index_or, codes, decimal, encode_utf8, string_bytes, if◌then◌else◌}
use Rattle.std.specs.List.{fold, flat_map, enumerate_from}
use Rattle.report_drawing.specs.declared.folding.Strip.{Strip}
use Rattle.report_drawing.specs.Folding.{Drawn, stacks_drawn}

-- what doesn't stand for itself has a name
abbrev pub svg_byte : ℕ → List ℕ
svg_byte byte =
    if byte == 60 then codes "&lt;"
    else if byte == 62 then codes "&gt;"
    else if byte == 38 then codes "&amp;"
    else encode_utf8 byte

abbrev pub escaped : List ℕ → List ℕ
escaped text = flat_map svg_byte text

-- ---- rows of text, each 20 pixels below the row before it, the first below this height
abbrev pub text_svg : ℕ → ℕ → List ℕ
text_svg x y = codes "<text x='" ++ decimal x ++ codes "' y='" ++ decimal y ++ codes "'>" ++ 10 ∷ []

-- what is lost is grey
abbrev pub row_start : ℕ → Bool → List ℕ
row_start x true = codes "<tspan x='" ++ decimal x ++ codes "' dy='20' fill='gray'>"
row_start x false = codes "<tspan x='" ++ decimal x ++ codes "' dy='20' fill='black'>"

abbrev pub row_end : List ℕ
row_end = codes "</tspan>" ++ 10 ∷ []

abbrev pub row_svg : ℕ → Bool → List ℕ → List ℕ
row_svg x lost text = row_start x lost ++ escaped text ++ row_end

abbrev pub end_svg : List ℕ
end_svg = codes "</text>" ++ 10 ∷ []

-- ---- a lane: its name, and each label of each column
abbrev pub rows_svg : ℕ → List Drawn → List ℕ
rows_svg x labels = flat_map (λ (label : Drawn). row_svg x label.lost label.text) labels

abbrev pub stack_svg : ℕ → ℕ → List Drawn → List ℕ
stack_svg x y [] = []
stack_svg x y (label ∷ labels) = text_svg x y ++ rows_svg x (label ∷ labels) ++ end_svg

abbrev pub name_svg : ℕ → List ℕ → List ℕ
name_svg y name = text_svg 10 y ++ row_svg 10 false name ++ end_svg

-- the column at each place begins where these starts say
abbrev pub start_of : List ℕ → ℕ → ℕ
start_of starts place = slice_index_or starts place 120

abbrev pub stacks_svg : List ℕ → ℕ → List (List Drawn) → List ℕ
stacks_svg starts y stacks =
    flat_map (λ (p : ℕ × List Drawn). stack_svg (start_of starts p.0) y p.1)
    (enumerate_from 0 stacks)

abbrev pub strip_svg : List ℕ → ℕ → Strip → List ℕ
strip_svg starts y strip =
    name_svg y (string_bytes strip.name) ++ stacks_svg starts y (stacks_drawn strip)

-- ---- lanes one below the other, each as high as its highest column, and one row at least
abbrev pub rows_of : List (List Drawn) → ℕ
rows_of stacks = fold (λ rows labels. max rows (length labels)) 1 stacks

-- a place in a picture is a number of 64 bits
abbrev pub capped : ℕ → ℕ
capped n = min n (2 ^ 64 - 1)

abbrev pub below : ℕ → List (List Drawn) → ℕ
below y stacks = capped (y + capped (rows_of stacks * 20))

abbrev pub strips_svg : List ℕ → ℕ → List Strip → List ℕ
strips_svg starts y [] = []
strips_svg starts y (strip ∷ strips) =
    strip_svg starts y strip ++ strips_svg starts (below y (stacks_drawn strip)) strips
