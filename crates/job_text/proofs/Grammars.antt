-- What is a job, line by line.
use Rattle.std.proofs.Common.{◌≡◌, ◌≢◌, ℕ, ◌+◌, ◌<◌, ◌≤◌, List, [], ◌∷◌, ◌++◌, length, take, get_or, All, refl, subst, arith, lit≤}
use Rattle.std.specs.Prelude.{AllPairs, None}
use Rattle.std.specs.List.{fold}
use Rattle.std.proofs.lemmas.List.{length-append, length-take-le, get_or_at, get_or_append_left, get_or-take}
use Rattle.std.proofs.lemmas.List.Elements.{All-nil, All-take, All-push}
use Rattle.std.proofs.lemmas.List.Quantifiers.{all_pairs_push}
use Rattle.mont_base.specs.Layout.{Shape, map_units, unit_of_key, key_number, next_digit}
use Rattle.mont_base.proofs.Units.{absent}
use Rattle.job_text.specs.declared.limits.TheConstants.{MOST_LINES}
use Rattle.job_text.specs.declared.header.Head.{Head}
use Rattle.job_text.specs.declared.job.Line.{Line}
use Rattle.job_text.specs.declared.job.Stop.{Stop}
use Rattle.job_text.specs.Grammar.{job_of, IsHead, IsStop, IsLine, Rises, IsJob}

-- ---- lists of which one more or fewer is said
all_last : {X : Type 0} (P : X → Type 0) (xs : List X) (x : X) → All P (xs ++ x ∷ []) → P x
all_last P xs x h = subst P (get_or_at xs x [] x (length xs) refl) (h (length xs) x (omega (arith, length-append xs (x ∷ []))))

pairs_take : {X : Type 0} (R : X → X → Type 0) (xs : List X) (n : ℕ) → n ≤ length xs → AllPairs R xs → AllPairs R (take n xs)
pairs_take R xs n within h i k d low high =
    let long : length (take n xs) ≡ n = length-take-le n xs within in
    rw (get_or-take n xs i d (omega arith)) (rw (get_or-take n xs k d (omega arith)) (h i k d low (omega arith)))

pairs_last : {X : Type 0} (R : X → X → Type 0) (xs : List X) (x : X) → AllPairs R (xs ++ x ∷ []) → All (λ y. R y x) xs
pairs_last R xs x h k d within =
    let here = h k (length xs) d within (omega (arith, length-append xs (x ∷ []))) in
    let last = get_or_at xs x [] d (length xs) refl in
    subst (λ y. R y x) (get_or_append_left xs (x ∷ []) d k within) (subst (λ y. R (get_or (xs ++ x ∷ []) k d) y) last here)

-- ---- where a unit is a map, each key has a unit
low_number : (maps : ℕ) (key : List ℕ) (n : ℕ) → n < maps → fold (next_digit maps) n key < maps
low_number maps [] n low = low
low_number maps (b ∷ bs) n low = low_number maps bs (next_digit maps n b) (omega arith)

pub key_has_unit : (s : Shape) (key : List ℕ) → 0 < length (map_units s) → unit_of_key s key ≢ None
key_has_unit s key some = absent (map_units s) (key_number (length (map_units s)) key) (low_number (length (map_units s)) key 0 some)

-- ---- first lines
pub begun_job : (h : Head) → IsHead h → IsJob (job_of h [] [])
begun_job h is = record {
  head = is;
  stops = All-nil (IsStop h);
  rising = λ i k d low high. absurd (omega arith);
  lines = All-nil (IsLine h);
  few_lines = lit≤ tt;
}

-- ---- one line more
pub line_added : (h : Head) (ss : List Stop) (ls : List Line) (l : Line) → IsJob (job_of h ss ls) → IsLine h l
    → length ss + length ls + 1 < MOST_LINES → IsJob (job_of h ss (ls ++ l ∷ []))
line_added h ss ls l t is few = record {
  head = t.head;
  stops = t.stops;
  rising = t.rising;
  lines = All-push (IsLine h) ls l t.lines is;
  few_lines = omega (arith, length-append ls (l ∷ []));
}

pub line_is : (h : Head) (ss : List Stop) (ls : List Line) (l : Line) → IsJob (job_of h ss (ls ++ l ∷ [])) → IsLine h l
line_is h ss ls l t = all_last (IsLine h) ls l t.lines

-- ---- one stop more
pub stop_added : (h : Head) (ss : List Stop) (s : Stop) → IsJob (job_of h ss []) → IsStop h s → All (λ t. Rises t s) ss
    → length ss + 1 < MOST_LINES → IsJob (job_of h (ss ++ s ∷ []) [])
stop_added h ss s t is rising few = record {
  head = t.head;
  stops = All-push (IsStop h) ss s t.stops is;
  rising = all_pairs_push Rises ss s t.rising rising;
  lines = t.lines;
  few_lines = omega (arith, length-append ss (s ∷ []));
}

pub stop_is : (h : Head) (ss : List Stop) (s : Stop) → IsJob (job_of h (ss ++ s ∷ []) []) → IsStop h s
stop_is h ss s t = all_last (IsStop h) ss s t.stops

pub stop_rises : (h : Head) (ss : List Stop) (s : Stop) → IsJob (job_of h (ss ++ s ∷ []) []) → All (λ t. Rises t s) ss
stop_rises h ss s t = pairs_last Rises ss s t.rising

-- ---- the first lines of a job are a job's
pub lines_cut : (h : Head) (ss : List Stop) (ls : List Line) (n : ℕ) → n ≤ length ls → IsJob (job_of h ss ls)
    → IsJob (job_of h ss (take n ls))
lines_cut h ss ls n within t = record {
  head = t.head;
  stops = t.stops;
  rising = t.rising;
  lines = All-take (IsLine h) n ls t.lines;
  few_lines = omega (arith, length-take-le n ls within, t.few_lines);
}

pub stops_cut : (h : Head) (ss : List Stop) (ls : List Line) (n : ℕ) → n ≤ length ss → IsJob (job_of h ss ls)
    → IsJob (job_of h (take n ss) [])
stops_cut h ss ls n within t = record {
  head = t.head;
  stops = All-take (IsStop h) n ss t.stops;
  rising = pairs_take Rises ss n within t.rising;
  lines = All-nil (IsLine h);
  few_lines = omega (arith, length-take-le n ss within, t.few_lines);
}
