-- One change more is written.
use Rattle.std.proofs.Common.{◌≡◌, ℕ, ◌+◌, cond, List, [], ◌∷◌, ◌++◌, length, refl, ap, ◌∙◌, arith}
use Rattle.std.specs.Prelude.{Some}
use Rattle.std.proofs.lemmas.List.Sums.{sum_by-cons, sum_by_push}
use Rattle.mont_base.specs.declared.record.Change.{Change}
use Rattle.mont_base.specs.declared.record.Change.TheVariants.{Insert, Replace, Remove}
use Rattle.mont_base.specs.declared.record.Held.{Held}
use Rattle.mont_base.specs.Layout.{Shape}
use Rattle.slots.specs.WrittenRecords.{record_by, identity_after, inserts, is_insert, has_serial, serial_in}
use Rattle.structure_call.specs.Carrying.{records_by, last_of, serial_behind}

-- the next identity after one change more
pub inserts_more : (cs : List Change) (c : Change) → inserts (cs ++ c ∷ []) ≡ inserts cs + cond (is_insert c) 1 0
inserts_more cs c = sum_by_push (λ (x : Change). cond (is_insert x) 1 0) cs c

inserts_first : (c : Change) (cs : List Change) → inserts (c ∷ cs) ≡ cond (is_insert c) 1 0 + inserts cs
inserts_first c cs = sum_by-cons (λ (x : Change). cond (is_insert x) 1 0) c cs

pub next_is : (next : ℕ) (c : Change) → identity_after next c ≡ next + cond (is_insert c) 1 0
next_is next (Insert body) = refl
next_is next (Replace slot identity body) = omega arith
next_is next (Remove slot identity) = omega arith

-- what it writes
pub records_more : (unit next : ℕ) (kept : List Held) (epoch : ℕ) (cs : List Change) (slots : List ℕ) (c : Change) (slot : ℕ)
    → length slots ≡ length cs
    → records_by unit next kept epoch (cs ++ c ∷ []) (slots ++ slot ∷ [])
    ≡ records_by unit next kept epoch cs slots ++ record_by unit (next + inserts cs) kept c epoch slot ∷ []
records_more unit next kept epoch [] [] c slot long =
    ap (λ (n : ℕ). record_by unit n kept c epoch slot ∷ []) (omega arith)
records_more unit next kept epoch [] (s ∷ slots) c slot long = absurd (omega arith)
records_more unit next kept epoch (d ∷ cs) [] c slot long = absurd (omega arith)
records_more unit next kept epoch (d ∷ cs) (s ∷ slots) c slot long =
    let after = next_is next d in
    let first = inserts_first d cs in
    let behind = records_more unit (identity_after next d) kept epoch cs slots c slot (omega arith) in
    ap (λ (rs : List Held). record_by unit next kept d epoch s ∷ rs) (behind
    ∙ ap (λ (n : ℕ). records_by unit (identity_after next d) kept epoch cs slots ++ record_by unit n kept c epoch slot ∷ [])
    (omega arith))

pub last_more : (slots : List ℕ) (slot : ℕ) → last_of (slots ++ slot ∷ []) ≡ Some slot
last_more [] slot = refl
last_more (s ∷ []) slot = refl
last_more (s ∷ t ∷ slots) slot = last_more (t ∷ slots) slot

pub serial_more : (s : Shape) (unit next : ℕ) (cs : List Change) (c : Change)
    → serial_behind s unit next (cs ++ c ∷ [])
    ≡ cond (has_serial s unit c) (serial_in c + 1) (serial_behind s unit next cs)
serial_more s unit next [] c = refl
serial_more s unit next (d ∷ cs) c = serial_more s unit (cond (has_serial s unit d) (serial_in d + 1) next) cs c
