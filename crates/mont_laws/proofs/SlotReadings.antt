-- What the words of a slot are read as, and which words are read as a record.
use Rattle.std.proofs.Common.{◌≡◌, ℕ, zero, suc, ◌+◌, ◌*◌, ◌/◌, ◌%◌, ◌<◌, ◌≤◌, List, [], ◌∷◌, length, get_or, sym, refl, ap, ◌∙◌, subst, arith, Bool, true, false}
use Rattle.std.specs.Prelude.{Option, Some, None, Result, Ok, Err, nat_le, not, ◌&&◌, ◌==◌, if◌then◌else◌}
use Rattle.std.proofs.lemmas.Bool.{and_parts, and_from, eqb-true, eqb-false, ne_eqb, eq-eqb, leb-true, le-leb, not-false, not_from_true}
use Rattle.std.proofs.lemmas.List.{length-drop}
use Rattle.std.proofs.lemmas.Option.{same_Some}
use Rattle.mont_base.specs.declared.constants.TheConstants.{FIELDS, LABEL, LAST}
use Rattle.mont_base.specs.declared.record.Held.{Held}
use Rattle.mont_base.specs.declared.record.Label.{Label}
use Rattle.mont_base.specs.declared.record.Kind.{Kind}
use Rattle.mont_base.specs.declared.record.Kind.TheVariants as kinds
use Rattle.mont_base.specs.declared.record.SlotFault.{SlotFault}
use Rattle.mont_base.specs.declared.record.SlotFault.TheVariants as faults
use Rattle.mont_base.specs.Record.{IsLabel, IsVersionOf, IsBody, number_of_kind, kind_of_number, is_version_of, label_at, body_at, slot_words, reading, reading_of_kind}
use Rattle.mont_laws.specs.SlotReadings.{RecordsAreReadBack, Spells, WordsSpellWhatIsRead}

abbrev pub Reading : Type 0
Reading = Result (Option (Label × List ℕ)) SlotFault

-- ---- the words of a label and a body are read as these
number_parts : (k unit : ℕ) → unit < 256 → ((256 * k + unit) / 256 ≡ k) × ((256 * k + unit) % 256 ≡ unit)
number_parts k unit small = (omega arith, omega arith)

kind_back : (kind : Kind) → kind_of_number (number_of_kind kind) ≡ Some kind
kind_back kinds.New = refl
kind_back kinds.Copy = refl
kind_back kinds.Delete = refl

from_to : (a b n : ℕ) → a ≤ n → n ≤ b → (nat_le a n && nat_le n b) ≡ true
from_to a b n low high = and_from (nat_le a n) (nat_le n b) (le-leb a n low) (le-leb n b high)

version_passes : (kind : Kind) (version : ℕ) → IsVersionOf kind version → is_version_of kind version ≡ true
version_passes kinds.New version is = eq-eqb version 1 is
version_passes kinds.Copy version is = from_to 2 LAST version is.0 is.1
version_passes kinds.Delete version is = from_to 2 LAST version is.0 is.1

-- the faults of a word of the kind, in the order in which they are tried
abbrev tried : Bool → Bool → Bool → SlotFault → SlotFault → SlotFault → Label × List ℕ → Reading
tried a b c x y z v = if a then Err x else (if b then Err y else (if c then Err z else Ok (Some v)))

pub reading-slot_words : (unit : ℕ) (l : Label) (body : List ℕ) → IsLabel l → l.unit ≡ unit
    → reading unit (slot_words l body) ≡ Ok (Some (l, body))
reading-slot_words unit l body is same =
    let words : List ℕ = slot_words l body in
    let second : ℕ = 256 * number_of_kind l.kind + l.unit in
    let parts = number_parts (number_of_kind l.kind) l.unit is.unit in
    let some = is.some_epoch in
    let open_slot : (l.epoch == 0) ≡ false = ne_eqb l.epoch 0 (λ e. omega arith) in
    let own : not (second % 256 == unit) ≡ false = not_from_true (second % 256 == unit) (eq-eqb (second % 256) unit (parts.1 ∙ same)) in
    let identity : not (nat_le 1 l.identity && nat_le l.identity LAST) ≡ false =
    not_from_true (nat_le 1 l.identity && nat_le l.identity LAST) (from_to 1 LAST l.identity is.some_identity is.last_identity) in
    let version : not (is_version_of l.kind l.version) ≡ false =
    not_from_true (is_version_of l.kind l.version) (version_passes l.kind l.version is.version) in
    let rest : Bool → Bool → Bool → Reading = λ a b c.
    tried a b c (faults.Unit second) (faults.Identity l.identity) (faults.Version l.version) (label_at l.kind words, body_at words) in
    ap (λ (b : Bool). if b then Ok None else reading_of_kind (kind_of_number (second / 256)) unit words) open_slot
    ∙ ap (λ (k : ℕ). reading_of_kind (kind_of_number k) unit words) parts.0
    ∙ ap (λ (o : Option Kind). reading_of_kind o unit words) (kind_back l.kind)
    ∙ ap (λ (b : Bool). rest b (not (nat_le 1 l.identity && nat_le l.identity LAST)) (not (is_version_of l.kind l.version))) own
    ∙ ap (λ (b : Bool). rest false b (not (is_version_of l.kind l.version))) identity
    ∙ ap (λ (b : Bool). rest false false b) version
    ∙ ap (λ (u : ℕ). Ok (Some (record l { unit = u }, body))) parts.1

pub length-slot_words : (l : Label) (body : List ℕ) → IsBody body → length (slot_words l body) ≡ FIELDS
length-slot_words l body is = omega arith

pub records_are_read_back : RecordsAreReadBack
records_are_read_back unit r is = record {
  many = length-slot_words r.label r.body is.body;
  read = reading-slot_words unit r.label r.body is.label is.of_unit;
}

-- ---- what is read is a label and a body whose words these are
kind_number : (n : ℕ) (k : Kind) → kind_of_number n ≡ Some k → number_of_kind k ≡ n
kind_number zero k e = absurd (cc)
kind_number (suc zero) k e = ap number_of_kind (sym (same_Some kinds.New k e))
kind_number (suc (suc zero)) k e = ap number_of_kind (sym (same_Some kinds.Copy k e))
kind_number (suc (suc (suc zero))) k e = ap number_of_kind (sym (same_Some kinds.Delete k e))
kind_number (suc (suc (suc (suc n)))) k e = absurd (cc)

within : (a b n : ℕ) → (nat_le a n && nat_le n b) ≡ true → (a ≤ n) × (n ≤ b)
within a b n e = let p = and_parts (nat_le a n) (nat_le n b) e in (leb-true a n p.0, leb-true n b p.1)

version_is : (k : Kind) (v : ℕ) → is_version_of k v ≡ true → IsVersionOf k v
version_is kinds.New v e = eqb-true v 1 e
version_is kinds.Copy v e = within 2 LAST v e
version_is kinds.Delete v e = within 2 LAST v e

by_words : (ws : List ℕ) → LABEL ≤ length ws
    → ws ≡ get_or ws 0 0 ∷ get_or ws 1 0 ∷ get_or ws 2 0 ∷ get_or ws 3 0 ∷ body_at ws
by_words [] l = absurd (omega arith)
by_words (a ∷ []) l = absurd (omega arith)
by_words (a ∷ b ∷ []) l = absurd (omega arith)
by_words (a ∷ b ∷ c ∷ []) l = absurd (omega arith)
by_words (a ∷ b ∷ c ∷ d ∷ ws) l = refl

passed : (a b c : Bool) (x y z : SlotFault) (v w : Label × List ℕ) → tried a b c x y z v ≡ Ok (Some w)
    → (a ≡ false) × (b ≡ false) × (c ≡ false) × (v ≡ w)
passed true b c x y z v w e = absurd (cc)
passed false true c x y z v w e = absurd (cc)
passed false false true x y z v w e = absurd (cc)
passed false false false x y z v w e = let same : v ≡ w = cc in (refl, refl, refl, same)

not_nothing : (a b c : Bool) (x y z : SlotFault) (v : Label × List ℕ) → tried a b c x y z v ≡ Ok None → ⊥
not_nothing true b c x y z v e = cc
not_nothing false true c x y z v e = cc
not_nothing false false true x y z v e = cc
not_nothing false false false x y z v e = cc

module _ (unit : ℕ) (ws : List ℕ) (long : length ws ≡ FIELDS) where
  abbrev bad_unit : Bool
  bad_unit = not (get_or ws 1 0 % 256 == unit)

  abbrev good_identity : Bool
  good_identity = nat_le 1 (get_or ws 2 0) && nat_le (get_or ws 2 0) LAST

  abbrev of_kind : Kind → Reading
  of_kind k = tried bad_unit (not good_identity) (not (is_version_of k (get_or ws 3 0)))
      (faults.Unit (get_or ws 1 0)) (faults.Identity (get_or ws 2 0)) (faults.Version (get_or ws 3 0)) (label_at k ws, body_at ws)

  -- what a pair that was read says of the words
  abbrev Shown : Label × List ℕ → Type 0
  Shown v = IsLabel v.0 × (v.0.unit ≡ unit) × IsBody v.1 × (ws ≡ slot_words v.0 v.1)

  shown_by_kind : (w : Label × List ℕ) (o : Option Kind) → 1 ≤ get_or ws 0 0 → get_or ws 0 0 ≤ LAST
      → kind_of_number (get_or ws 1 0 / 256) ≡ o → reading_of_kind o unit ws ≡ Ok (Some w) → Shown w
  shown_by_kind w None some last is e = absurd (cc)
  shown_by_kind w (Some k) some last is e =
      let t = passed bad_unit (not good_identity) (not (is_version_of k (get_or ws 3 0)))
      (faults.Unit (get_or ws 1 0)) (faults.Identity (get_or ws 2 0)) (faults.Version (get_or ws 3 0))
      (label_at k ws, body_at ws) w e in
      let identity = within 1 LAST (get_or ws 2 0) (not-false good_identity t.1) in
      let number : number_of_kind k ≡ get_or ws 1 0 / 256 = kind_number (get_or ws 1 0 / 256) k is in
      let second : get_or ws 1 0 ≡ 256 * number_of_kind k + get_or ws 1 0 % 256 = omega arith in
      let label : IsLabel (label_at k ws) = record {
        unit = omega arith;
        some_epoch = some;
        last_epoch = last;
        some_identity = identity.0;
        last_identity = identity.1;
        version = version_is k (get_or ws 3 0) (not-false (is_version_of k (get_or ws 3 0)) t.2);
      } in
      subst Shown t.3 (
        label,
        eqb-true (get_or ws 1 0 % 256) unit (not-false (get_or ws 1 0 % 256 == unit) t.0),
        length-drop LABEL ws ∙ omega arith,
        by_words ws (omega arith)
            ∙ ap (λ (n : ℕ). get_or ws 0 0 ∷ n ∷ get_or ws 2 0 ∷ get_or ws 3 0 ∷ body_at ws) second,
      )

  abbrev of_first : Bool → Reading
  of_first b = if b then Ok None else reading_of_kind (kind_of_number (get_or ws 1 0 / 256)) unit ws

  shown : (w : Label × List ℕ) → get_or ws 0 0 ≤ LAST → reading unit ws ≡ Ok (Some w) → Shown w
  shown w last e = go (get_or ws 0 0 == 0) refl e
    where
      go : (b : Bool) → (get_or ws 0 0 == 0) ≡ b → of_first b ≡ Ok (Some w) → Shown w
      go true is e = absurd (cc)
      go false is e =
          let open_slot = eqb-false (get_or ws 0 0) 0 is in
          shown_by_kind w (kind_of_number (get_or ws 1 0 / 256)) (omega arith) last refl e

  pub spelled : (r : Held) → get_or ws 0 0 ≤ LAST → reading unit ws ≡ Ok (Some (r.label, r.body)) → Spells unit ws r
  spelled r last e = let is = shown (r.label, r.body) last e in record {
    valid = record { label = is.0; of_unit = is.1; body = is.2 };
    shown = is.3;
  }

  none_by_kind : (o : Option Kind) → reading_of_kind o unit ws ≡ Ok None → ⊥
  none_by_kind None e = cc
  none_by_kind (Some k) e = not_nothing bad_unit (not good_identity) (not (is_version_of k (get_or ws 3 0)))
      (faults.Unit (get_or ws 1 0)) (faults.Identity (get_or ws 2 0)) (faults.Version (get_or ws 3 0)) (label_at k ws, body_at ws) e

  pub closed_of_nothing : reading unit ws ≡ Ok None → get_or ws 0 0 ≡ 0
  closed_of_nothing e = go (get_or ws 0 0 == 0) refl e
    where
      go : (b : Bool) → (get_or ws 0 0 == 0) ≡ b → of_first b ≡ Ok None → get_or ws 0 0 ≡ 0
      go true is e = eqb-true (get_or ws 0 0) 0 is
      go false is e = absurd (none_by_kind (kind_of_number (get_or ws 1 0 / 256)) e)

  pub nothing_of_closed : get_or ws 0 0 ≡ 0 → reading unit ws ≡ Ok None
  nothing_of_closed is = ap of_first (eq-eqb (get_or ws 0 0) 0 is)

pub read_of_spelled : (unit : ℕ) (ws : List ℕ) (r : Held) → Spells unit ws r → reading unit ws ≡ Ok (Some (r.label, r.body))
read_of_spelled unit ws r k =
    ap (reading unit) k.shown ∙ reading-slot_words unit r.label r.body k.valid.label k.valid.of_unit

pub words_spell_what_is_read : WordsSpellWhatIsRead
words_spell_what_is_read unit ws long last = record {
  nothing = (closed_of_nothing unit ws long, nothing_of_closed unit ws long);
  some = λ r. (spelled unit ws long r last, read_of_spelled unit ws r);
}
