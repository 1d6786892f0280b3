-- Where a value is that of the next field of some record, it is that of the one with the least words after it.
use Rattle.std.proofs.Common.{◌≡◌, ℕ, zero, suc, ◌+◌, ◌-◌, ◌*◌, ◌<◌, ◌≤◌, [], ◌∷◌, ◌++◌, length, take, replicate, set, get_or, sym, refl, ap, ◌∙◌, subst, arith}
use Rattle.std.proofs.lemmas.List.{take-set, take-append-le, take_all, length-append, length-replicate, length-take-le, length-set, get_or-set_same}
use Rattle.mont_base.specs.declared.constants.TheConstants.{FIELDS}
use Rattle.mont_base.specs.declared.record.Held.{Held}
use Rattle.mont_base.specs.declared.record.Kind.{Kind}
use Rattle.mont_base.specs.declared.record.Kind.TheVariants as kinds
use Rattle.mont_base.specs.Record.{number_of_kind, IsVersionOf}
use Rattle.mont_laws.specs.SlotReadings.{held_words, IsRecordOf}
use Rattle.core_steps.specs.Storing.{held_at, front_of}
use Rattle.core_steps.proofs.RoleFronts.{shown_kind}
use Rattle.core_answer.specs.Unfinished.{ShowsNext, GoesOn, least_version, kind_in, completion}

-- the record with the least words has what is shown, and the value after it
abbrev pub IsCompleted : ℕ → ℕ → ℕ → Held → ℕ → ℕ → Type 0
IsCompleted unit slot epoch change n value = ShowsNext unit change n value (completion unit slot epoch change n value)

pub completion_slot : (unit slot epoch : ℕ) (change : Held) (n value : ℕ) → (completion unit slot epoch change n value).slot ≡ slot
completion_slot unit slot epoch change zero value = refl
completion_slot unit slot epoch change (suc zero) value = refl
completion_slot unit slot epoch change (suc (suc zero)) value = refl
completion_slot unit slot epoch change (suc (suc (suc m))) value = refl

pub completion_epoch : (unit slot epoch : ℕ) (change : Held) (n value : ℕ) → (completion unit slot epoch change n value).label.epoch ≡ epoch
completion_epoch unit slot epoch change zero value = refl
completion_epoch unit slot epoch change (suc zero) value = refl
completion_epoch unit slot epoch change (suc (suc zero)) value = refl
completion_epoch unit slot epoch change (suc (suc (suc m))) value = refl

-- such a record is one
pub completed_goes_on : (unit slot epoch : ℕ) (change : Held) (n value : ℕ) → IsCompleted unit slot epoch change n value
    → GoesOn unit slot epoch change n value
completed_goes_on unit slot epoch change n value shows = record {
  whole = completion unit slot epoch change n value;
  in_slot = completion_slot unit slot epoch change n value;
  of_epoch = completion_epoch unit slot epoch change n value;
  shows = shows;
}

least_valid : (kind : Kind) → IsVersionOf kind (least_version kind)
least_valid kinds.New = refl
least_valid kinds.Copy = (omega arith, omega arith)
least_valid kinds.Delete = (omega arith, omega arith)

-- records in one slot whose first words are the same have one front
same_front : (r q : Held) (n : ℕ) → r.slot ≡ q.slot → take (n + 1) (held_words r) ≡ take (n + 1) (held_words q)
    → front_of r n ≡ front_of q n
same_front r q n slot words = λ i. held_at (slot i) (words i ++ replicate (FIELDS - (n + 1)) 0)

module _ (u slot e : ℕ) (change : Held) (value : ℕ)
    (w : Held) (valid : IsRecordOf u w) (in_slot : w.slot ≡ slot) (of_epoch : w.label.epoch ≡ e)
  where
    small : u < 256
    small = let a = valid.of_unit in let b = valid.label.unit in omega arith

    begun : 1 ≤ e
    begun = let a = of_epoch in let b = valid.label.some_epoch in omega arith

    kind_at_first : value ≡ get_or (held_words w) 1 0 → kind_in value ≡ w.label.kind
    kind_at_first stores = ap kind_in stores ∙ shown_kind w.label.kind w.label.unit valid.label.unit

    at_kind : change ≡ front_of w 0 → value ≡ get_or (held_words w) 1 0 → IsCompleted u slot e change 0 value
    at_kind before stores =
        let kind = kind_at_first stores in
        let epoch_last = valid.label.last_epoch in
        let epoch_is = of_epoch in
        record {
          valid = record {
            label = record {
              unit = small;
              some_epoch = begun;
              last_epoch = omega arith;
              some_identity = omega arith;
              last_identity = omega arith;
              version = least_valid (kind_in value);
            };
            of_unit = refl;
            body = refl;
          };
          stores = stores ∙ (λ i. 256 * number_of_kind (sym kind i) + valid.of_unit i);
          before = before ∙ same_front w (completion u slot e change 0 value) 0 in_slot (λ i. of_epoch i ∷ []);
        }

    at_identity : change ≡ front_of w 1 → value ≡ get_or (held_words w) 2 0 → IsCompleted u slot e change 1 value
    at_identity before stores =
        let kind : change.label.kind ≡ w.label.kind =
        ap (λ (h : Held). h.label.kind) before ∙ shown_kind w.label.kind w.label.unit valid.label.unit in
        let epoch_last = valid.label.last_epoch in
        let epoch_is = of_epoch in
        let least = valid.label.some_identity in
        let last = valid.label.last_identity in
        let is : value ≡ w.label.identity = stores in
        record {
          valid = record {
            label = record {
              unit = small;
              some_epoch = begun;
              last_epoch = omega arith;
              some_identity = omega arith;
              last_identity = omega arith;
              version = least_valid change.label.kind;
            };
            of_unit = refl;
            body = refl;
          };
          stores = refl;
          before = before ∙ same_front w (completion u slot e change 1 value) 1 in_slot
              (λ i. of_epoch i ∷ (256 * number_of_kind (sym kind i) + valid.of_unit i) ∷ []);
        }

    at_version : change ≡ front_of w 2 → value ≡ get_or (held_words w) 3 0 → IsCompleted u slot e change 2 value
    at_version before stores =
        let kind : change.label.kind ≡ w.label.kind =
        ap (λ (h : Held). h.label.kind) before ∙ shown_kind w.label.kind w.label.unit valid.label.unit in
        let identity : change.label.identity ≡ w.label.identity = ap (λ (h : Held). h.label.identity) before in
        let epoch_last = valid.label.last_epoch in
        let epoch_is = of_epoch in
        let least = valid.label.some_identity in
        let last = valid.label.last_identity in
        record {
          valid = record {
            label = record {
              unit = small;
              some_epoch = begun;
              last_epoch = omega arith;
              some_identity = omega arith;
              last_identity = omega arith;
              version = subst (λ (x : Kind × ℕ). IsVersionOf x.0 x.1) (λ i. (sym kind i, sym stores i)) valid.label.version;
            };
            of_unit = refl;
            body = refl;
          };
          stores = refl;
          before = before ∙ same_front w (completion u slot e change 2 value) 2 in_slot
              (λ i. of_epoch i ∷ (256 * number_of_kind (sym kind i) + valid.of_unit i) ∷ sym identity i ∷ []);
        }

    module _ (m : ℕ) (few : suc (suc (suc m)) + 1 < FIELDS) (before : change ≡ front_of w (suc (suc (suc m))))
        (stores : value ≡ get_or (held_words w) (suc (suc (suc m)) + 1) 0) where
      next : suc (suc (suc m)) + 1 ≡ suc (suc (suc (suc m)))
      next = omega arith

      shown : change ≡ held_at w.slot (take (suc (suc (suc (suc m)))) (held_words w) ++ replicate (FIELDS - suc (suc (suc (suc m)))) 0)
      shown = before ∙ ap (λ (z : ℕ). held_at w.slot (take z (held_words w) ++ replicate (FIELDS - z) 0)) next

      kind : change.label.kind ≡ w.label.kind
      kind = ap (λ (h : Held). h.label.kind) shown ∙ shown_kind w.label.kind w.label.unit valid.label.unit

      identity : change.label.identity ≡ w.label.identity
      identity = ap (λ (h : Held). h.label.identity) shown

      version : change.label.version ≡ w.label.version
      version = ap (λ (h : Held). h.label.version) shown

      body : change.body ≡ take m w.body ++ replicate (FIELDS - suc (suc (suc (suc m)))) 0
      body = ap (λ (h : Held). h.body) shown

      front : length (take m w.body) ≡ m
      front = let long = valid.body in length-take-le m w.body (omega arith)

      long : length change.body ≡ 8
      long = ap length body ∙ length-append (take m w.body) (replicate (FIELDS - suc (suc (suc (suc m)))) 0)
          ∙ omega (arith, front, length-replicate {A = ℕ} (FIELDS - suc (suc (suc (suc m)))) 0)

      same_body : take m w.body ≡ take m (set change.body m value)
      same_body = let few_words = front in
          sym (take-set change.body m value ∙ ap (take m) body
          ∙ take-append-le m (take m w.body) (replicate (FIELDS - suc (suc (suc (suc m)))) 0) (omega arith)
          ∙ take_all m (take m w.body) (omega arith))

      in_body : IsCompleted u slot e change (suc (suc (suc m))) value
      in_body =
          let epoch_last = valid.label.last_epoch in
          let epoch_is = of_epoch in
          let least = valid.label.some_identity in
          let last = valid.label.last_identity in
          let c = completion u slot e change (suc (suc (suc m))) value in
          record {
            valid = record {
              label = record {
                unit = small;
                some_epoch = begun;
                last_epoch = omega arith;
                some_identity = omega (arith, identity);
                last_identity = omega (arith, identity);
                version = subst (λ (x : Kind × ℕ). IsVersionOf x.0 x.1) (λ i. (sym kind i, sym version i)) valid.label.version;
              };
              of_unit = refl;
              body = length-set change.body m value ∙ long;
            };
            stores = sym (ap (λ (z : ℕ). get_or (held_words c) z 0) next ∙ get_or-set_same change.body m value 0 (omega (arith, long)));
            before = before ∙ same_front w c (suc (suc (suc m))) in_slot
                (ap (λ (z : ℕ). take z (held_words w)) next
                ∙ (λ i. of_epoch i ∷ (256 * number_of_kind (sym kind i) + valid.of_unit i) ∷ sym identity i ∷ sym version i ∷ same_body i)
                ∙ ap (λ (z : ℕ). take z (held_words c)) (sym next));
          }

-- where a value is that of the next field of some record, it is that of the record with the least words
pub completed : (unit slot epoch : ℕ) (change : Held) (n value : ℕ) → n + 1 < FIELDS → GoesOn unit slot epoch change n value
    → IsCompleted unit slot epoch change n value
completed unit slot epoch change zero value few g =
    at_kind unit slot epoch change value g.whole g.shows.valid g.in_slot g.of_epoch g.shows.before g.shows.stores
completed unit slot epoch change (suc zero) value few g =
    at_identity unit slot epoch change value g.whole g.shows.valid g.in_slot g.of_epoch g.shows.before g.shows.stores
completed unit slot epoch change (suc (suc zero)) value few g =
    at_version unit slot epoch change value g.whole g.shows.valid g.in_slot g.of_epoch g.shows.before g.shows.stores
completed unit slot epoch change (suc (suc (suc m))) value few g =
    in_body unit slot epoch change value g.whole g.shows.valid g.in_slot g.of_epoch m few g.shows.before g.shows.stores
