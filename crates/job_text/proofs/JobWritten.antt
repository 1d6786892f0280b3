-- A job's text, written line by line.
use Rattle.std.proofs.Common.{◌≡◌, ℕ, ◌+◌, ◌<◌, List, [], ◌∷◌, ◌++◌, length, map, get_or, take, sym, ap, ◌∙◌}
use Rattle.std.proofs.lemmas.List.{append-nil, append_assoc, take_more, map-append}
use Rattle.std.proofs.lemmas.List.Concat.{flat_map-append}
use Rattle.job_text.specs.declared.header.Head.{Head}
use Rattle.job_text.specs.declared.job.Line.{Line}
use Rattle.job_text.specs.declared.job.Stop.{Stop}
use Rattle.job_text.specs.Lines.{text_of, line_of}
use Rattle.job_text.specs.Grammar.{job_of}
use Rattle.job_text.specs.JobText.{head_words, stop_words, line_words, job_lines, job_text}

-- the header alone
pub written_header : (h : Head) → [] ++ line_of (head_words h) ≡ job_text (job_of h [] [])
written_header h = sym (append-nil (line_of (head_words h)))

text_push : (ws : List (List (List ℕ))) (w : List (List ℕ)) → text_of ws ++ line_of w ≡ text_of (ws ++ w ∷ [])
text_push ws w =
    ap (λ (xs : List ℕ). text_of ws ++ xs) (sym (append-nil (line_of w))) ∙ sym (flat_map-append line_of ws (w ∷ []))

pub stop_pushed : (first : List (List ℕ)) (ss : List Stop) (s : Stop)
    → (first ∷ (map stop_words ss ++ map line_words [])) ++ stop_words s ∷ []
    ≡ first ∷ (map stop_words (ss ++ s ∷ []) ++ map line_words [])
stop_pushed first ss s =
    ap (λ (ws : List (List (List ℕ))). first ∷ (ws ++ stop_words s ∷ [])) (append-nil (map stop_words ss))
    ∙ ap (λ (ws : List (List (List ℕ))). first ∷ ws) (sym (map-append stop_words ss (s ∷ [])))
    ∙ ap (λ (ws : List (List (List ℕ))). first ∷ ws) (sym (append-nil (map stop_words (ss ++ s ∷ []))))

pub line_pushed : (first : List (List ℕ)) (ss : List Stop) (ls : List Line) (l : Line)
    → (first ∷ (map stop_words ss ++ map line_words ls)) ++ line_words l ∷ [] ≡ first ∷ (map stop_words ss ++ map line_words (ls ++ l ∷ []))
line_pushed first ss ls l =
    ap (λ (ws : List (List (List ℕ))). first ∷ ws) (append_assoc (map stop_words ss) (map line_words ls) (line_words l ∷ []))
    ∙ ap (λ (ws : List (List (List ℕ))). first ∷ (map stop_words ss ++ ws)) (sym (map-append line_words ls (l ∷ [])))

one_stop_more : (h : Head) (ss : List Stop) (s : Stop) → job_text (job_of h ss []) ++ line_of (stop_words s)
    ≡ job_text (job_of h (ss ++ s ∷ []) [])
one_stop_more h ss s = text_push (job_lines (job_of h ss [])) (stop_words s) ∙ ap text_of (stop_pushed (head_words h) ss s)

one_line_more : (h : Head) (ss : List Stop) (ls : List Line) (l : Line) → job_text (job_of h ss ls) ++ line_of (line_words l)
    ≡ job_text (job_of h ss (ls ++ l ∷ []))
one_line_more h ss ls l = text_push (job_lines (job_of h ss ls)) (line_words l) ∙ ap text_of (line_pushed (head_words h) ss ls l)

-- one more stop
pub written_stop : (h : Head) (ss : List Stop) (i : ℕ) (d : Stop) (before after : List ℕ)
    → after ≡ before ++ line_of (stop_words (get_or ss i d)) → before ≡ job_text (job_of h (take i ss) []) → i < length ss
    → after ≡ job_text (job_of h (take (i + 1) ss) [])
written_stop h ss i d before after push so_far within =
    push
    ∙ ap (λ (xs : List ℕ). xs ++ line_of (stop_words (get_or ss i d))) so_far
    ∙ one_stop_more h (take i ss) (get_or ss i d)
    ∙ ap (λ (ts : List Stop). job_text (job_of h ts [])) (sym (take_more ss i d within))

-- one more line
pub written_line : (h : Head) (ss : List Stop) (lines : List Line) (i : ℕ) (d : Line) (before after : List ℕ)
    → after ≡ before ++ line_of (line_words (get_or lines i d)) → before ≡ job_text (job_of h ss (take i lines)) → i < length lines
    → after ≡ job_text (job_of h ss (take (i + 1) lines))
written_line h ss lines i d before after push so_far within =
    push
    ∙ ap (λ (xs : List ℕ). xs ++ line_of (line_words (get_or lines i d))) so_far
    ∙ one_line_more h ss (take i lines) (get_or lines i d)
    ∙ ap (λ (ls : List Line). job_text (job_of h ss ls)) (sym (take_more lines i d within))
