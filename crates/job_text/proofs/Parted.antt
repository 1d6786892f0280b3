-- Texts as lines.
use Rattle.std.proofs.Common.{◌≡◌, ℕ, suc, ◌+◌, ◌*◌, ◌<◌, ◌≤◌, false, ◌==◌, List, [], ◌∷◌, ◌++◌, length, map, get_or, ap, ◌∙◌, refl, arith}
use Rattle.std.specs.List.{onto_first, join_with_byte}
use Rattle.std.proofs.lemmas.List.{append_assoc, length-append}
use Rattle.std.proofs.lemmas.List.Splits.{slice_split_at, slice_split_none, slice_split-cons_no, length-slice_split, join_with_byte-slice_split}
use Rattle.std.proofs.lemmas.List.Elements.{All-head}
use Rattle.job_text.specs.declared.limits.TheConstants.{LINE_BYTES}
use Rattle.job_text.specs.Lines.{spaced, text_of, parts_of, line_at}
use Rattle.job_text.specs.Parts.{Lacks, IsSplit}
use Rattle.job_text.proofs.Splits.{Lacks-rest}

pub parts_split : (line after : List ℕ) → Lacks 10 line → parts_of (line ++ 10 ∷ after) ≡ line ∷ parts_of after
parts_split line after lacks = slice_split_at (λ b. b == 10) line 10 after lacks refl

pub parts_lacking : (rest : List ℕ) → Lacks 10 rest → parts_of rest ≡ rest ∷ []
parts_lacking rest lacks = slice_split_none (λ b. b == 10) rest lacks

pub some_part : (text : List ℕ) → 1 ≤ length (parts_of text)
some_part text = omega (arith, length-slice_split (λ b. b == 10) text)

onto_line : (x : ℕ) (parts : List (List ℕ)) → get_or (onto_first x parts) 0 [] ≡ x ∷ get_or parts 0 []
onto_line x [] = refl
onto_line x (part ∷ parts) = refl

-- a text without a line feed stands in the first line, whatever follows
pub line_lacking : (rest more : List ℕ) → Lacks 10 rest → line_at (rest ++ more) 0 ≡ rest ++ line_at more 0
line_lacking [] more lacks = refl
line_lacking (x ∷ xs) more lacks =
    let other : (x == 10) ≡ false = All-head (λ b. (b == 10) ≡ false) x xs lacks in
    ap (λ (ps : List (List ℕ)). get_or ps 0 []) (slice_split-cons_no (λ b. b == 10) x (xs ++ more) other)
    ∙ onto_line x (parts_of (xs ++ more))
    ∙ ap (λ (ys : List ℕ). x ∷ ys) (line_lacking xs more (Lacks-rest 10 x xs lacks))

-- a line that is ended stays, whatever follows
pub line_split : (text line after more : List ℕ) → IsSplit 10 text line after → line_at (text ++ more) 0 ≡ line
line_split text line after more split =
    let whole : text ++ more ≡ line ++ 10 ∷ (after ++ more) = ap (λ (xs : List ℕ). xs ++ more) split.joined
    ∙ append_assoc line (10 ∷ after) more in
    ap (λ (xs : List ℕ). line_at xs 0) whole ∙ ap (λ (ps : List (List ℕ)). get_or ps 0 []) (parts_split line (after ++ more) split.first)

only_part : (parts : List (List ℕ)) (text : List ℕ) → join_with_byte 10 parts ≡ text → length parts ≡ 1 → get_or parts 0 [] ≡ text
only_part [] text e one = absurd (omega arith)
only_part (p ∷ []) text e one = e
only_part (p ∷ q ∷ ps) text e one = absurd (omega arith)

-- where a text has no line feed, it is its one line
pub whole_line : (text : List ℕ) → length (parts_of text) ≡ 1 → line_at text 0 ≡ text
whole_line text one = only_part (parts_of text) text (join_with_byte-slice_split 10 text) one

-- the lines of a text that begins with these lines
pub parts_front : (ws : List (List (List ℕ))) (rest : List ℕ)
    → ((k : ℕ) (d : List (List ℕ)) → k < length ws → Lacks 10 (spaced (get_or ws k d))) → parts_of (text_of ws ++ rest)
    ≡ map spaced ws ++ parts_of rest
parts_front [] rest lack = refl
parts_front (w ∷ ws) rest lack =
    let behind = text_of ws ++ rest in
    let whole : text_of (w ∷ ws) ++ rest ≡ spaced w ++ 10 ∷ behind = simp append_assoc in
    ap parts_of whole
    ∙ parts_split (spaced w) behind (lack 0 w (omega arith))
    ∙ ap (λ (ps : List (List ℕ)). spaced w ∷ ps) (parts_front ws rest (λ k d within. lack (suc k) d (omega arith)))

-- the lines of a text are no longer than `LINE_BYTES` each, besides their line feeds
pub length_front : (ws : List (List (List ℕ)))
    → ((k : ℕ) (d : List (List ℕ)) → k < length ws → length (spaced (get_or ws k d)) ≤ LINE_BYTES)
    → length (text_of ws) ≤ (LINE_BYTES + 1) * length ws
length_front [] short = omega arith
length_front (w ∷ ws) short =
    let first : length (spaced w) ≤ LINE_BYTES = short 0 w (omega arith) in
    let rest = length_front ws (λ k d within. short (suc k) d (omega arith)) in
    simp length-append (omega arith)
