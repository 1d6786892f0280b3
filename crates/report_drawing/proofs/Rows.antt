-- Rows of text that are written one by one.
use Rattle.std.proofs.Common.{◌≡◌, ℕ, ◌+◌, ◌<◌, ◌≤◌, List, [], ◌∷◌, ◌++◌, length, get_or, take, drop, map, refl, sym, ap, ◌∙◌, string_bytes, arith}
use Rattle.std.proofs.lemmas.List.{append-nil, append_assoc, take_all, at_drop_more}
use Rattle.std.proofs.lemmas.List.Folds.{flat_map-map}
use Rattle.std.specs.List.{flat_map}
use Rattle.report_drawing.specs.declared.folding.Label.{Label}
use Rattle.report_drawing.specs.declared.folding.Strip.{Strip}
use Rattle.report_drawing.specs.Folding.{Drawn, drawn_of, stacks_drawn}
use Rattle.report_drawing.specs.Svg.{text_svg, row_svg, end_svg, rows_svg, stack_svg, strip_svg, strips_svg, below}

-- a label in memory as a row
abbrev pub label_svg : ℕ → Label → List ℕ
label_svg x label = row_svg x label.lost (string_bytes label.text)

-- when each label was written
pub rows_written : (x : ℕ) (labels : List Label) (i : ℕ) (start now : List ℕ) → length labels ≤ i → now
    ≡ start ++ flat_map (label_svg x) (take i labels) → now ≡ start ++ rows_svg x (map drawn_of labels)
rows_written x labels i start now past done =
    done
    ∙ ap (λ (ls : List Label). start ++ flat_map (label_svg x) ls) (take_all i labels past)
    ∙ ap (λ (bs : List ℕ). start ++ bs) (sym (flat_map-map (λ (d : Drawn). row_svg x d.lost d.text) drawn_of labels))

-- labels of which there are some
pub stack_some : (x y : ℕ) (labels : List Drawn) → 0 < length labels → stack_svg x y labels
    ≡ text_svg x y ++ rows_svg x labels ++ end_svg
stack_some x y [] some = absurd (omega arith)
stack_some x y (label ∷ labels) some = refl

-- three texts, one after the other
pub three_written : (start one two three first second third : List ℕ) → first ≡ start ++ one → second ≡ first ++ two → third
    ≡ second ++ three → third ≡ start ++ (one ++ two ++ three)
three_written start one two three first second third a b c =
    c
    ∙ ap (λ (bs : List ℕ). bs ++ three) (b ∙ ap (λ (bs : List ℕ). bs ++ two) a)
    ∙ ap (λ (bs : List ℕ). bs ++ three) (append_assoc start one two)
    ∙ append_assoc start (one ++ two) three

-- the lanes from one on, and the one with the others
pub strips_more : (starts : List ℕ) (y : ℕ) (strips : List Strip) (i : ℕ) (d : Strip) → i < length strips
    → strips_svg starts y (drop i strips)
    ≡ strip_svg starts y (get_or strips i d)
    ++ strips_svg starts (below y (stacks_drawn (get_or strips i d))) (drop (i + 1) strips)
strips_more starts y strips i d within = at_drop_more (strips_svg starts y) strips i d within

-- a lane was written, and the others are left
pub strip_written : (starts : List ℕ) (y next : ℕ) (strips : List Strip) (i : ℕ) (d : Strip) (was now whole : List ℕ)
    → i < length strips → now ≡ was ++ strip_svg starts y (get_or strips i d) → next ≡ below y (stacks_drawn (get_or strips i d))
    → was ++ strips_svg starts y (drop i strips) ≡ whole → now ++ strips_svg starts next (drop (i + 1) strips) ≡ whole
strip_written starts y next strips i d was now whole within step lower before =
    let rest = drop (i + 1) strips in
    ap (λ (bs : List ℕ). bs ++ strips_svg starts next rest) step
    ∙ ap (λ (n : ℕ). (was ++ strip_svg starts y (get_or strips i d)) ++ strips_svg starts n rest) lower
    ∙ append_assoc was (strip_svg starts y (get_or strips i d)) (strips_svg starts (below y (stacks_drawn (get_or strips i d))) rest)
    ∙ ap (λ (bs : List ℕ). was ++ bs) (sym (strips_more starts y strips i d within))
    ∙ before

-- labels of which there are none
pub stack_none : (x y : ℕ) (labels : List Label) (text : List ℕ) → length labels ≡ 0 → text ≡ text ++ stack_svg x y (map drawn_of labels)
stack_none x y [] text none = sym (append-nil text)
stack_none x y (label ∷ labels) text some = absurd (omega arith)
