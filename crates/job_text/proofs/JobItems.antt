-- The lines of a job tell its stops and its lines.
use Rattle.std.proofs.Common.{◌≡◌, ℕ, ◌+◌, inl, inr, ◌⊎◌, List, [], ◌∷◌, ◌++◌, map, All, get_or, sym, ap, ◌∙◌, refl, subst, arith}
use Rattle.std.proofs.lemmas.List.Elements.{All-head, All-tail}
use Rattle.job_text.specs.declared.header.Head.{Head}
use Rattle.job_text.specs.declared.job.Job.{Job}
use Rattle.job_text.specs.declared.job.Line.{Line}
use Rattle.job_text.specs.declared.job.Stop.{Stop}
use Rattle.job_text.specs.Lines.{spaced}
use Rattle.job_text.specs.Grammar.{head_of, job_of, IsHead, IsStop, IsLine, IsJob}
use Rattle.job_text.specs.JobText.{head_words, stop_words, line_words, deed_words, job_lines}
use Rattle.job_text.proofs.SeenWords.{line_parts, caller_digit}
use Rattle.job_text.proofs.Once.{line_once, stop_once, head_once}

abbrev pub tail_lines : List Stop → List Line → List (List ℕ)
tail_lines ss ls = map spaced (map stop_words ss ++ map line_words ls)

-- what one line more adds to stops and lines
abbrev pub IsLast : List Stop → List Line → List Stop → List Line → List ℕ → Type 0
IsLast ss ls ts ms line =
    ((l : Line) × (ss ≡ ts) × (ls ≡ ms ++ l ∷ []) × (line ≡ spaced (line_words l)))
    ⊎ ((s : Stop) × (ss ≡ ts ++ s ∷ []) × (ls ≡ []) × (ms ≡ []) × (line ≡ spaced (stop_words s)))

module _ (h : Head) (is : IsHead h) where
  same_line : (l m : Line) → IsLine h l → IsLine h m → spaced (line_words l) ≡ spaced (line_words m) → l ≡ m
  same_line l m i k e = line_once l m (omega (arith, is.few_callers, i.caller)) (omega (arith, is.few_callers, k.caller)) i.asked k.asked e

  same_stop : (s t : Stop) → IsStop h s → IsStop h t → spaced (stop_words s) ≡ spaced (stop_words t) → s ≡ t
  same_stop s t i k e = stop_once s t (omega (arith, is.few_callers, i.who)) (omega (arith, i.few_steps))
      (omega (arith, is.few_callers, k.who)) (omega (arith, k.few_steps)) e

  -- a stop line begins with another byte than a line of a caller
  apart : (s : Stop) (l : Line) → IsLine h l → spaced (stop_words s) ≡ spaced (line_words l) → ⊥
  apart s l i e =
      let whole : spaced (stop_words s) ≡ (48 + l.caller) ∷ 32 ∷ spaced (deed_words l.deed) =
      e ∙ line_parts l ∙ ap (λ (c : List ℕ). c ++ 32 ∷ spaced (deed_words l.deed)) (caller_digit h l is i) in
      let first : 115 ≡ 48 + l.caller = ap (λ (xs : List ℕ). get_or xs 0 0) whole in
      omega (arith, is.few_callers, i.caller)

  lines_last : (ls ms : List Line) (line : List ℕ) → All (IsLine h) ls → All (IsLine h) ms → map spaced (map line_words ls)
      ≡ map spaced (map line_words ms) ++ line ∷ [] → (l : Line) × (ls ≡ ms ++ l ∷ []) × (line ≡ spaced (line_words l))
  lines_last [] [] line i k e = absurd (cc)
  lines_last [] (m ∷ ms) line i k e = absurd (cc)
  lines_last (l ∷ []) [] line i k e = (l, refl, cc)
  lines_last (l ∷ n ∷ ns) [] line i k e = absurd (cc)
  lines_last (l ∷ ls) (m ∷ ms) line i k e =
      let first : spaced (line_words l) ≡ spaced (line_words m) = cc in
      let same : l ≡ m = same_line l m (All-head (IsLine h) l ls i) (All-head (IsLine h) m ms k) first in
      let rest : map spaced (map line_words ls) ≡ map spaced (map line_words ms) ++ line ∷ [] = cc in
      let more = lines_last ls ms line (All-tail (IsLine h) l ls i) (All-tail (IsLine h) m ms k) rest in
      let tail : ls ≡ ms ++ more.0 ∷ [] = more.1 in
      (more.0, cc, more.2)

  pub items_last : (ss : List Stop) (ls : List Line) (ts : List Stop) (ms : List Line) (line : List ℕ) → All (IsStop h) ss
      → All (IsLine h) ls → All (IsStop h) ts → All (IsLine h) ms → tail_lines ss ls ≡ tail_lines ts ms ++ line ∷ []
      → IsLast ss ls ts ms line
  items_last [] ls [] ms line a b c d e = let last = lines_last ls ms line b d e in inl (last.0, refl, last.1, last.2)
  items_last [] [] (t ∷ ts) ms line a b c d e = absurd (cc)
  items_last [] (l ∷ ls) (t ∷ ts) ms line a b c d e = absurd (apart t l (All-head (IsLine h) l ls b) (cc))
  items_last (s ∷ ss) ls [] (m ∷ ms) line a b c d e = absurd (apart s m (All-head (IsLine h) m ms d) (cc))
  items_last (s ∷ []) [] [] [] line a b c d e = inr (s, refl, refl, refl, cc)
  items_last (s ∷ []) (l ∷ ls) [] [] line a b c d e = absurd (cc)
  items_last (s ∷ r ∷ ss) ls [] [] line a b c d e = absurd (cc)
  items_last (s ∷ ss) ls (t ∷ ts) ms line a b c d e =
      let first : spaced (stop_words s) ≡ spaced (stop_words t) = cc in
      let same : s ≡ t = same_stop s t (All-head (IsStop h) s ss a) (All-head (IsStop h) t ts c) first in
      let rest : tail_lines ss ls ≡ tail_lines ts ms ++ line ∷ [] = cc in
      with_stop ss ls ts ms line s t same
      (items_last ss ls ts ms line (All-tail (IsStop h) s ss a) b (All-tail (IsStop h) t ts c) d rest)
    where
      with_stop : (ss : List Stop) (ls : List Line) (ts : List Stop) (ms : List Line) (line : List ℕ) (s t : Stop) → s ≡ t
          → IsLast ss ls ts ms line → IsLast (s ∷ ss) ls (t ∷ ts) ms line
      with_stop ss ls ts ms line s t same (inl w) = let tail : ss ≡ ts = w.1 in inl (w.0, cc, w.2, w.3)
      with_stop ss ls ts ms line s t same (inr w) = let tail : ss ≡ ts ++ w.0 ∷ [] = w.1 in inr (w.0, cc, w.2, w.3, w.4)

  lines_once : (ls ms : List Line) → All (IsLine h) ls → All (IsLine h) ms → map spaced (map line_words ls) ≡ map spaced (map line_words ms)
      → ls ≡ ms
  lines_once [] [] i k e = refl
  lines_once [] (m ∷ ms) i k e = absurd (cc)
  lines_once (l ∷ ls) [] i k e = absurd (cc)
  lines_once (l ∷ ls) (m ∷ ms) i k e =
      let first : spaced (line_words l) ≡ spaced (line_words m) = cc in
      let same : l ≡ m = same_line l m (All-head (IsLine h) l ls i) (All-head (IsLine h) m ms k) first in
      let rest : map spaced (map line_words ls) ≡ map spaced (map line_words ms) = cc in
      let more : ls ≡ ms = lines_once ls ms (All-tail (IsLine h) l ls i) (All-tail (IsLine h) m ms k) rest in
      cc

  pub items_once : (ss : List Stop) (ls : List Line) (ts : List Stop) (ms : List Line) → All (IsStop h) ss → All (IsLine h) ls
      → All (IsStop h) ts → All (IsLine h) ms → tail_lines ss ls ≡ tail_lines ts ms → (ss ≡ ts) × (ls ≡ ms)
  items_once [] ls [] ms a b c d e = (refl, lines_once ls ms b d e)
  items_once [] [] (t ∷ ts) ms a b c d e = absurd (cc)
  items_once [] (l ∷ ls) (t ∷ ts) ms a b c d e = absurd (apart t l (All-head (IsLine h) l ls b) (cc))
  items_once (s ∷ ss) ls [] [] a b c d e = absurd (cc)
  items_once (s ∷ ss) ls [] (m ∷ ms) a b c d e = absurd (apart s m (All-head (IsLine h) m ms d) (cc))
  items_once (s ∷ ss) ls (t ∷ ts) ms a b c d e =
      let first : spaced (stop_words s) ≡ spaced (stop_words t) = cc in
      let same : s ≡ t = same_stop s t (All-head (IsStop h) s ss a) (All-head (IsStop h) t ts c) first in
      let rest : tail_lines ss ls ≡ tail_lines ts ms = cc in
      let more = items_once ss ls ts ms (All-tail (IsStop h) s ss a) b (All-tail (IsStop h) t ts c) d rest in
      let tail : ss ≡ ts = more.0 in
      (cc, more.1)

first_parts : {X : Type 0} (x y : X) (xs ys : List X) → x ∷ xs ≡ y ∷ ys → (x ≡ y) × (xs ≡ ys)
first_parts x y xs ys e = (cc, cc)

-- two jobs have two texts
pub job_lines_once : (j k : Job) → IsJob j → IsJob k → map spaced (job_lines j) ≡ map spaced (job_lines k) → j ≡ k
job_lines_once j k a b e =
    let parts = first_parts (spaced (head_words (head_of j))) (spaced (head_words (head_of k))) (tail_lines j.stops j.lines)
    (tail_lines k.stops k.lines) e in
    let head : head_of j ≡ head_of k = head_once (head_of j) (head_of k) a.head b.head parts.0 in
    let items = items_once (head_of j) a.head j.stops j.lines k.stops k.lines a.stops a.lines
    (subst (λ (h : Head). All (IsStop h) k.stops) (sym head) b.stops)
    (subst (λ (h : Head). All (IsLine h) k.lines) (sym head) b.lines) parts.1 in
    λ i. job_of (head i) (items.0 i) (items.1 i)

-- a job that goes on with one line more has the same head, and one stop or line more
pub job_goes_on : (j k : Job) (line : List ℕ) → IsJob j → IsJob k → map spaced (job_lines k) ≡ map spaced (job_lines j) ++ line ∷ []
    → (head_of k ≡ head_of j) × IsLast k.stops k.lines j.stops j.lines line
job_goes_on j k line a b e =
    let parts = first_parts (spaced (head_words (head_of k))) (spaced (head_words (head_of j))) (tail_lines k.stops k.lines)
    (tail_lines j.stops j.lines ++ line ∷ []) e in
    let head : head_of k ≡ head_of j = head_once (head_of k) (head_of j) b.head a.head parts.0 in (
      head,
      items_last (head_of j) a.head k.stops k.lines j.stops j.lines line
          (subst (λ (h : Head). All (IsStop h) k.stops) head b.stops)
          (subst (λ (h : Head). All (IsLine h) k.lines) head b.lines) a.stops a.lines parts.1,
    )
