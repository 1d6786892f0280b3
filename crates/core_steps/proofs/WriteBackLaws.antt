-- What the advancer has written back stays so, and how it goes on.
use Rattle.std.proofs.Common.{◌≡◌, ◌≢◌, ℕ, zero, suc, ◌+◌, ◌<◌, ◌≤◌, List, length, set, get_or, sym, refl, ap, ◌∙◌, subst, ⊎_elim, arith, Bool, true, false}
use Rattle.std.specs.Prelude.{slice_get, Some, nat_lt, min, if◌then◌else◌}
use Rattle.std.specs.List.{Contains}
use Rattle.std.proofs.lemmas.Bool.{cases_eq, ltb-true, ltb-false, eqb-true}
use Rattle.std.proofs.lemmas.List.{ext_get_or, length-set, set-get_or, get_or-set_same, get_or-set_other}
use Rattle.std.proofs.lemmas.Option.{same_Some, slice_get-get_or}
use Rattle.mont_base.specs.declared.constants.TheConstants.{FIELDS}
use Rattle.mont_base.specs.declared.record.Held.{Held}
use Rattle.mont_base.specs.Layout.{Shape, total_of, words_of, word_of}
use Rattle.mont_base.specs.Image.{words_at}
use Rattle.mont_laws.proofs.SlotWords.{stores_change_one_field, word_at, length-words_at}
use Rattle.core_steps.specs.declared.parts.UnitPart.{UnitPart}
use Rattle.core_steps.specs.declared.parts.AdvPart.{AdvPart}
use Rattle.core_steps.specs.declared.parts.AdvPart.TheVariants.{Rest, Checking, Flushing, Holding, Clocked}
use Rattle.core_steps.specs.Clock.{greatest_word}
use Rattle.core_steps.specs.Flushing.{all_listed, can_load_word, after_load_word, behind_field, is_flushed}
use Rattle.core_steps.specs.WriteBack.{AreWrittenBack, FlushFits}
use Rattle.core_steps.proofs.FlushLists.{at_in, in_at, in_listed}

-- ---- steps of units
-- words that are the same at the listed slots
pub flush_same :
    (cur dur new late slots : List ℕ) (a : AdvPart) → ((n : ℕ) → Contains slots n → words_at new n ≡ words_at cur n)
    → ((n : ℕ) → Contains slots n → words_at late n ≡ words_at dur n) → FlushFits cur dur slots a → FlushFits new late slots a
flush_same cur dur new late slots a now was k = go a k
  where
    backs : (d f : ℕ) → AreWrittenBack cur dur slots d f → AreWrittenBack new late slots d f
    backs d f k = record {
      whole = λ i n low e. was n (at_in slots i n e) ∙ k.whole i n low e ∙ sym (now n (at_in slots i n e));
      fields = λ n g e low. ap (λ (l : List ℕ). get_or l g 0) (was n (at_in slots d n e)) ∙ k.fields n g e low
          ∙ sym (ap (λ (l : List ℕ). get_or l g 0) (now n (at_in slots d n e)));
    }

    word : (n f : ℕ) → Contains slots n → f < FIELDS → get_or cur (word_of n f) 0 ≡ get_or new (word_of n f) 0
    word n f e low = sym (word_at cur n f low) ∙ ap (λ (l : List ℕ). get_or l f 0) (sym (now n e)) ∙ word_at new n f low

    go : (a : AdvPart) → FlushFits cur dur slots a → FlushFits new late slots a
    go Rest k = tt
    go (Checking j) k = tt
    go (Flushing d f) k = record { inside = k.inside; low = k.low; last = k.last; written_back = backs d f k.written_back }
    go (Holding d f v) k = record {
      inside = k.inside;
      low = k.low;
      held = λ n e. k.held n e ∙ word n f (at_in slots d n e) k.low;
      written_back = backs d f k.written_back;
    }
    go Clocked k = tt

-- one word of a slot that isn't listed is stored
pub flush_stored :
    (cur dur slots : List ℕ) (slot field value : ℕ) (a : AdvPart) → field < FIELDS → (Contains slots slot → ⊥) → FlushFits cur dur slots a
    → FlushFits (set cur (word_of slot field) value) dur slots a
flush_stored cur dur slots slot field value a low spared k =
    flush_same cur dur (set cur (word_of slot field) value) dur slots a
    (λ n h. (stores_change_one_field cur slot field value low).others n (λ e. spared (subst (Contains slots) e h)))
    (λ n h. refl) k

-- or made durable
pub flush_settled :
    (cur dur slots : List ℕ) (slot field value : ℕ) (a : AdvPart) → field < FIELDS → (Contains slots slot → ⊥) → FlushFits cur dur slots a
    → FlushFits cur (set dur (word_of slot field) value) slots a
flush_settled cur dur slots slot field value a low spared k =
    flush_same cur dur cur (set dur (word_of slot field) value) slots a (λ n h. refl)
    (λ n h. (stores_change_one_field dur slot field value low).others n (λ e. spared (subst (Contains slots) e h))) k

-- the list is the same
pub flush_listed :
    (cur dur slots others : List ℕ) (a : AdvPart) → slots ≡ others → FlushFits cur dur slots a → FlushFits cur dur others a
flush_listed cur dur slots others a is k = subst (λ (l : List ℕ). FlushFits cur dur l a) is k

-- ---- steps of the advancer
-- nothing is written back yet
pub flush_begins : (cur dur slots : List ℕ) → FlushFits cur dur slots (Flushing 0 0)
flush_begins cur dur slots = record {
  inside = omega arith;
  low = omega arith;
  last = λ e. refl;
  written_back = record { whole = λ i n low e. absurd (omega arith); fields = λ n f e low. absurd (omega arith) };
}

-- the slot at hand
pub hand_at : (slots : List ℕ) (done : ℕ) → done < length slots → slice_get slots done ≡ Some (get_or slots done 0)
hand_at slots done low = slice_get-get_or slots done 0 low

pub flush_loads :
    (cur dur slots : List ℕ) (a : AdvPart) → can_load_word (length slots) a ≡ true → FlushFits cur dur slots a
    → FlushFits cur dur slots (after_load_word slots cur a)
flush_loads cur dur slots Rest may k = absurd (cc)
flush_loads cur dur slots (Checking j) may k = absurd (cc)
flush_loads cur dur slots (Flushing done field) may k = let low = ltb-true done (length slots) may in record {
  inside = low;
  low = k.low;
  held = λ n e. ap (λ (m : ℕ). get_or cur (word_of m field) 0)
      (same_Some (get_or slots done 0) n (sym (hand_at slots done low) ∙ e));
  written_back = k.written_back;
}
flush_loads cur dur slots (Holding done field value) may k = absurd (cc)
flush_loads cur dur slots Clocked may k = absurd (cc)

-- ---- PersistWord
set_same : (ws ds : List ℕ) (f : ℕ) → ds ≡ ws → set ds f (get_or ws f 0) ≡ ws
set_same ws ds f e = ap (λ (l : List ℕ). set l f (get_or ws f 0)) e ∙ set-get_or ws f 0

-- one more field of the slot at hand is durable
module _
    (cur dur late slots : List ℕ) (done field slot value : ℕ) (at : slice_get slots done ≡ Some slot)
    (inside : field < length (words_at dur slot)) (is : value ≡ get_or (words_at cur slot) field 0)
    (own : words_at late slot ≡ set (words_at dur slot) field value)
    (others : (t : ℕ) → t ≢ slot → words_at late t ≡ words_at dur t) (k : AreWrittenBack cur dur slots done field) where
  earlier : (i n : ℕ) → i < done → slice_get slots i ≡ Some n → words_at late n ≡ words_at cur n
  earlier i n low e = ⊎_elim
      (λ (same : n ≡ slot).
      subst (λ (m : ℕ). words_at late m ≡ words_at cur m) (sym same) (own ∙ ap (set (words_at dur slot) field) is
      ∙ set_same (words_at cur slot) (words_at dur slot) field
      (subst (λ (m : ℕ). words_at dur m ≡ words_at cur m) same (k.whole i n low e))))
      (λ (other : n ≢ slot). others n other ∙ k.whole i n low e)
      (cases_eq n slot)

  more_field : (f : ℕ) → f < field + 1 → get_or (words_at late slot) f 0 ≡ get_or (words_at cur slot) f 0
  more_field f low = ap (λ (l : List ℕ). get_or l f 0) own ∙ ⊎_elim
      (λ (here : f ≡ field). ap (λ (g : ℕ). get_or (set (words_at dur slot) field value) g 0) here
      ∙ get_or-set_same (words_at dur slot) field value 0 inside ∙ is ∙ ap (λ (g : ℕ). get_or (words_at cur slot) g 0) (sym here))
      (λ (there : f ≢ field). get_or-set_other (words_at dur slot) field f value 0 there ∙ k.fields slot f at (omega arith))
      (cases_eq f field)

  more_back : AreWrittenBack cur late slots done (field + 1)
  more_back = record {
    whole = earlier;
    fields = λ n f e low. subst (λ (m : ℕ). get_or (words_at late m) f 0 ≡ get_or (words_at cur m) f 0)
        (same_Some slot n (sym at ∙ e)) (more_field f low);
  }

-- all fields of a slot are the slot
next_back :
    (cur dur slots : List ℕ) (done field slot : ℕ) → slice_get slots done ≡ Some slot
    → length (words_at dur slot) ≡ length (words_at cur slot) → length (words_at dur slot) ≤ field
    → AreWrittenBack cur dur slots done field → AreWrittenBack cur dur slots (done + 1) 0
next_back cur dur slots done field slot at as_long all k = record {
  whole = λ i n low e. ⊎_elim
      (λ (here : i ≡ done). let same : slot ≡ n = same_Some slot n (sym at ∙ ap (slice_get slots) (sym here) ∙ e) in
      subst (λ (m : ℕ). words_at dur m ≡ words_at cur m) same
      (ext_get_or 0 (words_at dur slot) (words_at cur slot) as_long (λ f few. k.fields slot f at (omega arith))))
      (λ (there : i ≢ done). k.whole i n (omega arith) e)
      (cases_eq i done);
  fields = λ n f e low. absurd (omega arith);
}

-- fewer slots are durable too
back_less :
    (cur dur slots : List ℕ) (done less : ℕ) → less ≤ done → AreWrittenBack cur dur slots done 0 → AreWrittenBack cur dur slots less 0
back_less cur dur slots done less few k =
    record { whole = λ i n low e. k.whole i n (omega arith) e; fields = λ n f e low. absurd (omega arith) }

-- the loaded word becomes durable
pub flush_persists :
    (s : Shape) (cur dur slots : List ℕ) (done field value : ℕ) → length cur ≡ words_of s → length dur ≡ words_of s
    → ((n : ℕ) → Contains slots n → n < total_of s) → FlushFits cur dur slots (Holding done field value)
    → FlushFits cur (set dur (word_of (get_or slots done 0) field) value) slots (behind_field done field)
flush_persists s cur dur slots done field value wide far within k = goes (nat_lt (field + 1) FIELDS) refl
  where
    slot : ℕ
    slot = get_or slots done 0

    late : List ℕ
    late = set dur (word_of (get_or slots done 0) field) value

    more : AreWrittenBack cur (set dur (word_of (get_or slots done 0) field) value) slots done (field + 1)
    more =
        let n : ℕ = get_or slots done 0 in
        let at = hand_at slots done k.inside in
        let low = k.low in
        let place = within n (at_in slots done n at) in
        let long = length-words_at s dur n far place in
        let change = stores_change_one_field dur n field value low in
        more_back cur dur (set dur (word_of n field) value) slots done field n value at (omega arith)
        (k.held n at ∙ sym (word_at cur n field low)) change.own change.others k.written_back

    goes :
        (b : Bool) → nat_lt (field + 1) FIELDS ≡ b
        → FlushFits cur (set dur (word_of (get_or slots done 0) field) value) slots
        (if b then Flushing done (field + 1) else Flushing (min (done + 1) greatest_word) 0)
    goes true is = let inside = k.inside in record {
      inside = omega arith;
      low = ltb-true (field + 1) FIELDS is;
      last = λ e. absurd (omega arith);
      written_back = more;
    }
    goes false is =
        let n : ℕ = get_or slots done 0 in
        let inside = k.inside in
        let low = k.low in
        let end = ltb-false (field + 1) FIELDS is in
        let at = hand_at slots done inside in
        let place = within n (at_in slots done n at) in
        let size = length-set dur (word_of n field) value ∙ far in
        let long = length-words_at s (set dur (word_of n field) value) n size place in
        let long' = length-words_at s cur n wide place in record {
          inside = omega arith;
          low = omega arith;
          last = λ e. refl;
          written_back = back_less cur (set dur (word_of n field) value) slots (done + 1) (min (done + 1) greatest_word)
              (omega arith)
              (next_back cur (set dur (word_of n field) value) slots done (field + 1) n at (long ∙ sym long') (omega arith) more);
        }

-- ---- SetClock
-- where all is written back, each record of the epoch is durable
pub flush_ends :
    (x : ℕ) (units : List UnitPart) (cur dur : List ℕ) (a : AdvPart) → is_flushed (length (all_listed x units)) a ≡ true
    → FlushFits cur dur (all_listed x units) a → (u : ℕ) (p : UnitPart) (r : Held) → slice_get units u ≡ Some p → Contains p.records r
    → r.label.epoch ≡ x → words_at dur r.slot ≡ words_at cur r.slot
flush_ends x units cur dur Rest may k u p r at h is = absurd (cc)
flush_ends x units cur dur (Checking j) may k u p r at h is = absurd (cc)
flush_ends x units cur dur (Flushing done zero) may k u p r at h is =
    let slots : List ℕ = all_listed x units in
    let place = in_at slots r.slot (in_listed x units u p r at h is) in
    let low = place.1 in
    let all : done ≡ length slots = eqb-true done (length slots) may in
    k.written_back.whole place.0 r.slot (omega arith) place.2
flush_ends x units cur dur (Flushing done (suc field)) may k u p r at h is = absurd (cc)
flush_ends x units cur dur (Holding done field value) may k u p r at h is = absurd (cc)
flush_ends x units cur dur Clocked may k u p r at h is = absurd (cc)
