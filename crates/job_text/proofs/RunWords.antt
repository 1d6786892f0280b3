-- The words of runs tell their pairs.
use Rattle.std.proofs.Common.{◌≡◌, ◌≢◌, ℕ, ◌+◌, ◌-◌, ◌*◌, ◌≤◌, List, [], ◌∷◌, ◌++◌, length, map, take, drop, get_or, Bor, refl, sym, ap, ◌∙◌, subst, arith}
use Rattle.std.specs.List.{flat_map}
use Rattle.std.proofs.lemmas.List.{append_assoc, append-nil, length-map, take_all}
use Rattle.std.proofs.lemmas.Grind.{flat_map-append}
use Rattle.mont_base.specs.State.{Run, Key, Value}
use Rattle.mont_base.specs.Texts.{IsText}
use Rattle.job_text.specs.Lines.{spaced}
use Rattle.job_text.specs.Spelling.{text_word, pair_words, run_words}
use Rattle.job_text.specs.TextParts.{Row, AllFrom}
use Rattle.job_text.specs.ReportRanges.{IsPair}
use Rattle.job_text.proofs.RowParts.{pair_once}

abbrev pub AllPairs : ℕ → Run → Type 0
AllPairs k run = AllFrom (λ place p. IsPair p) k run

-- a key and a value each
pub run_words_long : (run : Run) → length (run_words run) ≡ 2 * length run
run_words_long [] = refl
run_words_long (p ∷ run) = let more = run_words_long run in omega (arith, more)

pub run_words_push : (run : Run) (p : Key × Value) → run_words (run ++ p ∷ []) ≡ run_words run ++ pair_words p
run_words_push run p = flat_map-append pair_words run (p ∷ [])

pub pairs_push : (k : ℕ) (run : Run) (p : Key × Value) → AllPairs k run → IsPair p → AllPairs k (run ++ p ∷ [])
pairs_push k [] p all is = (is, tt)
pairs_push k (q ∷ run) p all is = (all.0, pairs_push (k + 1) run p all.1 is)

-- a run whose words begin with those of another has more pairs after it
pub more_pairs : (j k : ℕ) (run other : Run) (rest : Row) → AllPairs j run → AllPairs k other → run_words other ≡ run_words run ++ rest
    → (more : Run) × (i : ℕ) × AllPairs i more × (rest ≡ run_words more) × (length other ≡ length run + length more)
more_pairs j k [] other rest all is e = (other, k, is, sym e, omega arith)
more_pairs j k (p ∷ run) [] rest all is e = absurd (cc)
more_pairs j k (p ∷ run) (q ∷ other) rest all is e =
    let more = more_pairs (j + 1) (k + 1) run other rest all.1 is.1 (cc) in
    (more.0, more.1, more.2, more.3, omega (arith, more.4))

pub run_once : (j k : ℕ) (run other : Run) → AllPairs j run → AllPairs k other → run_words run ≡ run_words other → run ≡ other
run_once j k [] [] all is e = refl
run_once j k [] (q ∷ other) all is e = absurd (cc)
run_once j k (p ∷ run) [] all is e = absurd (cc)
run_once j k (p ∷ run) (q ∷ other) all is e =
    let first = pair_once p q all.0 is.0 (cc) in
    let rest = run_once (j + 1) (k + 1) run other all.1 is.1 (cc) in
    λ i. first i ∷ rest i

-- ---- words that are read two by two
abbrev pub Nows : List (Bor (List ℕ)) → Row
Nows ws = map (λ word. word.now) ws

pub two_off : (rest : List (Bor (List ℕ))) (d e : Bor (List ℕ)) → 2 ≤ length rest
    → Nows rest ≡ (get_or rest 0 d).now ∷ (get_or rest 1 e).now ∷ Nows (take (length rest - 2) (drop 2 rest))
two_off [] d e many = absurd (omega arith)
two_off (x ∷ []) d e many = absurd (omega arith)
two_off (x ∷ y ∷ rest) d e many =
    ap (λ (ws : List (Bor (List ℕ))). x.now ∷ y.now ∷ Nows ws) (sym (take_all (length (x ∷ y ∷ rest) - 2) rest (omega arith)))

module _ (ws : Row) (run : Run) (rest : List (Bor (List ℕ))) (all : AllPairs 0 run) (so_far : ws ≡ run_words run ++ Nows rest) where
  -- the pairs that another run has after those read
  left_over : (other : Run) → AllPairs 0 other → ws ≡ run_words other
      → (more : Run) × (i : ℕ) × AllPairs i more × (Nows rest ≡ run_words more) × (length other ≡ length run + length more)
  left_over other is e = more_pairs 0 0 run other (Nows rest) all is (sym e ∙ so_far)

  pub too_many : 2 ≤ length rest → length run ≡ 16 → (other : Run) → AllPairs 0 other → length other ≤ 16 → ws ≢ run_words other
  too_many many full other is few e =
      let left = left_over other is e in
      by left.0 left.3 left.4
    where
      by : (more : Run) → Nows rest ≡ run_words more → length other ≡ length run + length more → ⊥
      by [] words long = omega (arith, ap length words, length-map rest (λ word. word.now), many)
      by (p ∷ more) words long = omega (arith, long, full, few)

  module _ (many : 2 ≤ length rest) where
    pub no_key : (d : Bor (List ℕ)) → ((t : List ℕ) → IsText t → (get_or rest 0 d).now ≢ text_word t) → (other : Run) → AllPairs 0 other
        → ws ≢ run_words other
    no_key d none other is same =
        let left = left_over other is same in
        by left.0 left.1 left.2 left.3
      where
        by : (more : Run) (i : ℕ) → AllPairs i more → Nows rest ≡ run_words more → ⊥
        by [] i are words = omega (arith, ap length words, length-map rest (λ word. word.now), many)
        by (p ∷ more) i are words =
            let both : (get_or rest 0 d).now ∷ (get_or rest 1 d).now ∷ Nows (take (length rest - 2) (drop 2 rest))
            ≡ text_word p.0 ∷ text_word p.1 ∷ run_words more = sym (two_off rest d d many) ∙ words in
            none p.0 are.0.0 (cc)

    pub no_value : (d : Bor (List ℕ)) → ((t : List ℕ) → IsText t → (get_or rest 1 d).now ≢ text_word t) → (other : Run) → AllPairs 0 other
        → ws ≢ run_words other
    no_value d none other is same =
        let left = left_over other is same in
        by left.0 left.1 left.2 left.3
      where
        by : (more : Run) (i : ℕ) → AllPairs i more → Nows rest ≡ run_words more → ⊥
        by [] i are words = omega (arith, ap length words, length-map rest (λ word. word.now), many)
        by (p ∷ more) i are words =
            let both : (get_or rest 0 d).now ∷ (get_or rest 1 d).now ∷ Nows (take (length rest - 2) (drop 2 rest))
            ≡ text_word p.0 ∷ text_word p.1 ∷ run_words more = sym (two_off rest d d many) ∙ words in
            none p.1 are.0.1 (cc)

    pub one_more : (d e : Bor (List ℕ)) (key value : List ℕ) (new : Run) → IsText key → IsText value → (get_or rest 0 d).now ≡ text_word key
        → (get_or rest 1 e).now ≡ text_word value → new ≡ run ++ (key, value) ∷ []
        → AllPairs 0 new × (ws ≡ run_words new ++ Nows (take (length rest - 2) (drop 2 rest)))
    one_more d e key value new first second is are same =
        let behind = Nows (take (length rest - 2) (drop 2 rest)) in (
          subst (AllPairs 0) (sym same) (pairs_push 0 run (key, value) all (first, second)),
          so_far ∙ ap (λ (t : Row). run_words run ++ t) (two_off rest d e many ∙ (λ i. is i ∷ are i ∷ behind))
              ∙ sym (append_assoc (run_words run) (pair_words (key, value)) behind)
              ∙ ap (λ (t : Row). t ++ behind) (sym (run_words_push run (key, value)) ∙ ap run_words (sym same)),
        )

  pub none_left : length rest ≡ 0 → ws ≡ run_words run
  none_left empty = by rest empty so_far
    where
      by : (others : List (Bor (List ℕ))) → length others ≡ 0 → ws ≡ run_words run ++ Nows others → ws ≡ run_words run
      by [] done e = e ∙ append-nil (run_words run)
      by (x ∷ others) done e = absurd (omega (arith, done))

  pub one_left : length rest ≡ 1 → (other : Run) → AllPairs 0 other → ws ≢ run_words other
  one_left alone other is e =
      let left = left_over other is e in
      by left.0 left.3
    where
      by : (more : Run) → Nows rest ≡ run_words more → ⊥
      by [] words = omega (arith, ap length words, length-map rest (λ word. word.now), alone)
      by (p ∷ more) words = omega (arith, ap length words, length-map rest (λ word. word.now), alone)

-- ---- how words are written after others
first_spaced : (w : List ℕ) (vs : Row) → spaced (w ∷ vs) ≡ w ++ flat_map (λ word. 32 ∷ word) vs
first_spaced w [] = sym (append-nil w)
first_spaced w (v ∷ vs) = ap (λ (t : List ℕ). w ++ 32 ∷ t) (first_spaced v vs)

pub spaced_behind : (w : List ℕ) (ws vs : Row) → spaced ((w ∷ ws) ++ vs) ≡ spaced (w ∷ ws) ++ flat_map (λ word. 32 ∷ word) vs
spaced_behind w [] vs = first_spaced w vs
spaced_behind w (v ∷ ws) vs =
    ap (λ (t : List ℕ). w ++ 32 ∷ t) (spaced_behind v ws vs)
    ∙ sym (append_assoc w (32 ∷ spaced (v ∷ ws)) (flat_map (λ word. 32 ∷ word) vs))

pub run_spaced : (run : Run) → flat_map (λ (word : List ℕ). 32 ∷ word) (run_words run)
    ≡ flat_map (λ (p : Key × Value). flat_map (λ (word : List ℕ). 32 ∷ word) (pair_words p)) run
run_spaced [] = refl
run_spaced (p ∷ run) = flat_map-append (λ (word : List ℕ). 32 ∷ word) (pair_words p) (run_words run)
    ∙ ap (λ (t : List ℕ). flat_map (λ (word : List ℕ). 32 ∷ word) (pair_words p) ++ t) (run_spaced run)
