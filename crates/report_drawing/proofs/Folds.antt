-- The columns of many epochs.
use Rattle.std.proofs.Common.{◌≡◌, ℕ, ◌-◌, ◌<◌, List, [], ◌∷◌, ◌++◌, Bool, cond, length, get_or, take, drop, map, sym, ap, ◌∙◌, arith}
use Rattle.std.proofs.lemmas.Bool.{lt-leb}
use Rattle.std.proofs.lemmas.List.{append_assoc, length-take-le, length-drop, get_or-take, get_or-drop, drop-drop}
use Rattle.report_drawing.specs.declared.columns.Column.{Column}
use Rattle.report_drawing.specs.Columns.{column, single, columns_in}

-- the columns of more epochs than are drawn, when they were pushed part by part
pub columns_folded : (lost : Bool) (es front rest between back : List ℕ) (start first second third : List Column) → 25 < length es
    → front ≡ take 12 es → rest ≡ drop 12 es → between ≡ take (length rest - 12) rest → back ≡ drop (length rest - 12) rest
    → first ≡ start ++ map (single lost) front
    → second ≡ first ++ column lost (get_or between 0 0) (get_or between (length between - 1) 0) ∷ []
    → third ≡ second ++ map (single lost) back → third ≡ start ++ columns_in lost es
columns_folded lost es front rest between back start first second third many is-front is-rest is-between is-back a b c =
    let long : length rest ≡ length es - 12 = ap length is-rest ∙ length-drop 12 es in
    let middle : length between ≡ length es - 24 =
    ap length is-between ∙ length-take-le (length rest - 12) rest (omega arith) ∙ omega (arith, long) in
    let low : get_or between 0 0 ≡ get_or es 12 0 =
    ap (λ (xs : List ℕ). get_or xs 0 0) is-between
    ∙ get_or-take (length rest - 12) rest 0 0 (omega (arith, long))
    ∙ ap (λ (xs : List ℕ). get_or xs 0 0) is-rest
    ∙ get_or-drop 12 es 0 0 in
    let high : get_or between (length between - 1) 0 ≡ get_or es (length es - 13) 0 =
    ap (λ (xs : List ℕ). get_or xs (length between - 1) 0) is-between
    ∙ get_or-take (length rest - 12) rest (length between - 1) 0 (omega (arith, long, middle))
    ∙ ap (λ (xs : List ℕ). get_or xs (length between - 1) 0) is-rest
    ∙ get_or-drop 12 es (length between - 1) 0
    ∙ ap (λ (k : ℕ). get_or es k 0) (omega (arith, middle)) in
    let last : back ≡ drop (length es - 12) es =
    is-back
    ∙ ap (λ (xs : List ℕ). drop (length rest - 12) xs) is-rest
    ∙ drop-drop (length rest - 12) 12 es
    ∙ ap (λ (k : ℕ). drop k es) (omega (arith, long)) in
    let fold : column lost (get_or between 0 0) (get_or between (length between - 1) 0)
    ≡ column lost (get_or es 12 0) (get_or es (length es - 13) 0) =
    λ i. column lost (low i) (high i) in
    let piece = column lost (get_or between 0 0) (get_or between (length between - 1) 0) in
    let parts : third
    ≡ start
    ++ (map (single lost) (take 12 es)
    ++ column lost (get_or es 12 0) (get_or es (length es - 13) 0) ∷ map (single lost) (drop (length es - 12) es)) =
    c
    ∙ ap (λ (xs : List Column). xs ++ map (single lost) back) (b ∙ ap (λ (xs : List Column). xs ++ piece ∷ []) a)
    ∙ append_assoc (start ++ map (single lost) front) (piece ∷ []) (map (single lost) back)
    ∙ append_assoc start (map (single lost) front) (piece ∷ map (single lost) back)
    ∙ (λ i. start ++ (map (single lost) (is-front i) ++ fold i ∷ map (single lost) (last i))) in
    let no = lt-leb (length es) 25 many in
    parts
    ∙ ap (λ (b : Bool). start ++ cond b (map (single lost) es)
    (map (single lost) (take 12 es)
    ++ column lost (get_or es 12 0) (get_or es (length es - 13) 0) ∷ map (single lost) (drop (length es - 12) es))) (sym no)
