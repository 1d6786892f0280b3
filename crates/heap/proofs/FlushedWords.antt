-- A slot that is written back word by word: what was done so far, and what each step adds.
use Rattle.std.proofs.Common.{◌≡◌, ℕ, suc, ◌+◌, ◌*◌, ◌<◌, ◌≤◌, Bool, true, false, length, cond, refl, sym, ap, ◌∙◌, subst, inl, inr, arith}
use Rattle.std.specs.Prelude.{nat_lt, slice_index, if◌then◌else◌}
use mathlib.Core.Option.{none}
use Rattle.atomic_table.specs.Table.{step, Allows}
use Rattle.std.proofs.lemmas.Bool.{lt-ltb, le-ltb}
use Rattle.mont_base.specs.declared.constants.TheConstants.{FIELDS}
use Rattle.mont_base.specs.Faults.{Rose}
use Rattle.mont_base.specs.Layout.{Shape, total_of, word_of, words_of}
use Rattle.core_steps.specs.declared.parts.AdvPart.{AdvPart}
use Rattle.core_steps.specs.declared.parts.AdvPart.TheVariants.{Flushing, Holding}
use Rattle.core_steps.specs.Flushing.{can_load_word, can_persist_word, after_persist_word}
use Rattle.heap_rule.specs.declared.rule.Opening.{Opening}
use Rattle.heap_rule.specs.declared.views.AdvKnown.{AdvKnown}
use Rattle.heap_rule.specs.Plays.{IsPlaceListed, loaded_word, persisted_word}
use Rattle.heap_rule.specs.Rule.{ShowsCore}
use Rattle.heap_rule.specs.TableWords.{durable_place, word_count}
use Rattle.heap_rule.specs.Views.{Seated, joined, holding, place_at_hand, slot_at_hand, field_at_hand, word_in_hand, advancer_view, the_advancer, advancer_loaded, advancer_persisted}
use Rattle.heap_rule.proofs.CoreFacts.{slot_word_within}
use Rattle.heap_rule.proofs.SeatedPlays.{loads_word_as, persists_word_as}
use Rattle.heap.specs.FlushSteps.{IsFlushStep, AreFlushSteps, Flushes, IsWithinSlot, with_hand_of, behind_slot}
use Rattle.heap.specs.GateAsked.{IsAskedOften}

-- the part once so many words of the slot are durable
abbrev pub at_field : ℕ → ℕ → AdvPart
at_field done field = if nat_lt field FIELDS then Flushing done field else behind_slot done

pub at_low : (done field : ℕ) → field < FIELDS → at_field done field ≡ Flushing done field
at_low done field low = ap (λ (b : Bool). cond b (Flushing done field) (behind_slot done)) (lt-ltb field FIELDS low)

-- what is known of a gate that passed a step
pub record Passes {G : Type 0} (cuts : G → ℕ) (endless : G → Bool) (asked : G → G → Bool → Type 0) (h i : G) : Type 0 where
  pub kept : cuts i ≡ cuts h
  pub same : endless i ≡ endless h
  pub asks : asked h i false

-- and of one that cut it
pub record Refuses {G : Type 0} (cuts : G → ℕ) (endless : G → Bool) (asked : G → G → Bool → Type 0) (h i : G) : Type 0 where
  pub later : cuts h ≤ cuts i
  pub counted : Rose (cuts h) (cuts i)
  pub same : endless i ≡ endless h
  pub ends : endless h ≡ true → ⊥
  pub asks : asked h i true

module _ {G : Type 0} (cuts : G → ℕ) (endless : G → Bool) (asked : G → G → Bool → Type 0) where
  -- the seat and its gate before and now, and the part that the advancer has now
  pub record HasFlushed (old : Seated) (g : G) (new : Seated) (h : G) (part : AdvPart) : Type 0 where
    pub gate : IsAskedOften cuts endless g h false
    pub many : ℕ
    pub steps : AreFlushSteps asked many (the_advancer old.0) g (the_advancer new.0) h
    pub me : new ≡ (advancer_view (with_hand_of (the_advancer old.0) (the_advancer new.0)), old.1)
    pub part_is : (the_advancer new.0).part ≡ part

  pub begins : (old : Seated) (g : G) (part : AdvPart) → old.0 ≡ advancer_view (the_advancer old.0)
      → (the_advancer old.0).part ≡ part → HasFlushed old g old g part
  begins old g part view is = record {
    gate = record {
      later = omega arith;
      kept = λ e. refl;
      counted = λ e. absurd (cc);
      same = refl;
      passes = λ e. refl;
    };
    many = 0;
    steps = (refl, refl);
    me = λ i. (view i, old.1);
    part_is = is;
  }

  module _ (old : Seated) (g : G) (new : Seated) (h : G) (part : AdvPart) (f : HasFlushed old g new h part) where
    abbrev was : AdvKnown
    was = the_advancer old.0

    abbrev now : AdvKnown
    now = the_advancer new.0

    -- but for the word at hand the advancer knows what it knew
    pub stays : now ≡ with_hand_of was now
    stays = ap (λ (m : Seated). the_advancer m.0) f.me

    pub same_lists : joined now.lists ≡ joined was.lists
    same_lists = ap (λ (a : AdvKnown). joined a.lists) stays

    pub same_view : new.0 ≡ advancer_view now
    same_view = ap (λ (m : Seated). m.0) f.me ∙ ap advancer_view (sym stays)

    -- the gate passes one more
    passed_on : (i : G) → Passes cuts endless asked h i → IsAskedOften cuts endless g i false
    passed_on i p = let gate = f.gate in record {
      later = let first = gate.later in let kept = p.kept in omega (arith, first, kept);
      kept = λ e. p.kept ∙ gate.kept refl;
      counted = λ e. absurd (cc);
      same = p.same ∙ gate.same;
      passes = λ e. refl;
    }

    -- one step more
    stepped : (later : Seated) (i : G) (next : AdvKnown) (there : AdvPart) → Passes cuts endless asked h i → IsFlushStep now next
        → later ≡ (advancer_view next, new.1) → next ≡ with_hand_of was next → next.part ≡ there
        → HasFlushed old g later i there
    stepped later i next there p step is same at =
        let next_is : the_advancer later.0 ≡ next = ap (λ (m : Seated). the_advancer m.0) is in record {
          gate = passed_on i p;
          many = suc f.many;
          steps = (now, h, f.steps, p.asks, subst (λ (a : AdvKnown). IsFlushStep now a) (sym next_is) step);
          me = is ∙ (λ j. (advancer_view ((same ∙ ap (with_hand_of was) (sym next_is)) j), (ap (λ (m : Seated). m.1) f.me) j));
          part_is = ap (λ (a : AdvKnown). a.part) next_is ∙ at;
        }

  -- the word at hand is that of the field
  pub at_word : (old : Seated) (g : G) (new : Seated) (h : G) (done field : ℕ) → field < FIELDS
      → HasFlushed old g new h (at_field done field) → HasFlushed old g new h (Flushing done field)
  at_word old g new h done field low f = subst (λ (p : AdvPart). HasFlushed old g new h p) (at_low done field low) f

  -- it is loaded
  pub loaded : (old : Seated) (g : G) (new : Seated) (h : G) (done field : ℕ) → HasFlushed old g new h (Flushing done field)
      → done < length (joined (the_advancer old.0).lists) → (later : Seated) (i : G) (word : ℕ) → Passes cuts endless asked h i
      → later ≡ (advancer_view (advancer_loaded (the_advancer new.0) word), new.1)
      → HasFlushed old g later i (Holding done field word) × ((the_advancer later.0).loaded ≡ word)
  loaded old g new h done field f listed later i word p is =
      let now : AdvKnown = the_advancer new.0 in
      let same = stays old g new h (Flushing done field) f in (
        stepped old g new h (Flushing done field) f later i (advancer_loaded now word) (Holding done field word) p
            (inl (record {
              word = word;
              may = (λ j. can_load_word (length (same_lists old g new h (Flushing done field) f j)) (f.part_is j))
                  ∙ lt-ltb done (length (joined (the_advancer old.0).lists)) listed;
              is = refl;
            }))
            is
            (ap (λ (a : AdvKnown). advancer_loaded a word) same)
            (ap (λ (q : AdvPart). holding q word) f.part_is),
        ap (λ (m : Seated). (the_advancer m.0).loaded) is,
      )

  -- and made durable
  pub persisted : (old : Seated) (g : G) (new : Seated) (h : G) (done field word : ℕ)
      → HasFlushed old g new h (Holding done field word) → (later : Seated) (i : G) → Passes cuts endless asked h i
      → later ≡ (advancer_view (advancer_persisted (the_advancer new.0)), new.1) → IsPlaceListed (the_advancer new.0)
      → HasFlushed old g later i (at_field done (field + 1))
  persisted old g new h done field word f later i p is listed =
      let now : AdvKnown = the_advancer new.0 in
      let same = stays old g new h (Holding done field word) f in
      stepped old g new h (Holding done field word) f later i (advancer_persisted now) (at_field done (field + 1)) p
      (inr (record {
        may = ap can_persist_word f.part_is;
        listed = listed;
        is = refl;
      }))
      is
      (ap advancer_persisted same)
      (ap after_persist_word f.part_is)

  -- ---- what a call tells that ends so
  pub ends : (old : Seated) (g : G) (new : Seated) (h : G) (part : AdvPart) → HasFlushed old g new h part
      → Flushes asked (the_advancer old.0) g (the_advancer new.0) h false
  ends old g new h part f = record {
    many = f.many;
    last = h;
    steps = f.steps;
    passed = λ e. refl;
    refused = λ e. absurd (cc);
  }

  pub is_cut : (old : Seated) (g : G) (new : Seated) (h : G) (part : AdvPart) → HasFlushed old g new h part → (i : G)
      → Refuses cuts endless asked h i
      → Flushes asked (the_advancer old.0) g (the_advancer new.0) i true × IsAskedOften cuts endless g i true
  is_cut old g new h part f i r =
      let gate = f.gate in (
        record {
          many = f.many;
          last = h;
          steps = f.steps;
          passed = λ e. absurd (cc);
          refused = λ e. r.asks;
        },
        record {
          later = let first = gate.later in let second = r.later in omega (arith, first, second);
          kept = λ e. absurd (cc);
          counted = λ e. subst (λ (n : ℕ). Rose n (cuts i)) (gate.kept refl) r.counted;
          same = r.same ∙ gate.same;
          passes = λ e. absurd (r.ends (gate.same ∙ e));
        },
      )

-- the slot, its place and its count stay
pub still_listed : (a b : AdvKnown) (done first field word : ℕ) → b ≡ with_hand_of a b → a.part ≡ Flushing done first
    → b.part ≡ Holding done field word → IsPlaceListed b → IsPlaceListed a
still_listed a b done first field word same was is listed =
    let here : place_at_hand b.part ≡ place_at_hand a.part = ap place_at_hand is ∙ sym (ap place_at_hand was) in
    let units : b.units ≡ a.units = ap (λ (x : AdvKnown). x.units) same in
    let room : b.room ≡ a.room = ap (λ (x : AdvKnown). x.room) same in
    subst (λ (z : ℕ × ℕ × ℕ). z.0 < z.1 * z.2) (λ i. (here i, units i, room i)) listed

-- ---- places
pub first_part : (a : AdvKnown) (done first : ℕ) → a.part ≡ Flushing done first → first < FIELDS → a.part ≡ at_field done first
first_part a done first is low = is ∙ sym (at_low done first low)

pub last_part : (done field : ℕ) → FIELDS ≤ field → at_field done field ≡ behind_slot done
last_part done field high = ap (λ (b : Bool). cond b (Flushing done field) (behind_slot done)) (le-ltb field FIELDS high)

pub word_place : (i start slot field : ℕ) → i ≡ start + field → start ≡ word_of slot 0 → i ≡ word_of slot field
word_place i start slot field e is = omega arith

-- both words of a field are among those of the table
pub current_within : (s l : Shape) (n slot field i : ℕ) → n ≡ word_count l → l ≡ s → slot < total_of s → field < FIELDS
    → i ≡ word_of slot field → i < n
current_within s l n slot field i count same inside low e =
    let within = slot_word_within s slot field inside low in
    let words : n ≡ word_count s = count ∙ ap word_count same in
    omega arith

pub durable_within : (s l : Shape) (n words slot field i : ℕ) → n ≡ word_count l → l ≡ s → slot < total_of s → field < FIELDS
    → words ≡ words_of l → i ≡ word_of slot field → words + i < n
durable_within s l n words slot field i count same inside low whole e =
    let within = slot_word_within s slot field inside low in
    let counted : n ≡ word_count s = count ∙ ap word_count same in
    let all : words ≡ words_of s = whole ∙ ap words_of same in
    omega arith

pub durable_word : (s l : Shape) (words i slot field : ℕ) → words ≡ words_of l → l ≡ s → i ≡ word_of slot field
    → words + i ≡ durable_place s (word_of slot field)
durable_word s l words i slot field whole same e = λ j. (whole ∙ ap words_of same) j + e j

-- the slot at hand is the same one
same_slot : (a b : AdvKnown) (done : ℕ) → b ≡ with_hand_of a b → place_at_hand a.part ≡ done → place_at_hand b.part ≡ done
    → slot_at_hand a ≡ slot_at_hand b
same_slot a b done same was is =
    λ j. slice_index (joined (sym (ap (λ (x : AdvKnown). x.lists) same) j)) ((was ∙ sym is) j)

module _ {G : Type 0} (cuts : G → ℕ) (endless : G → Bool) (asked : G → G → Bool → Type 0) (o : Opening) (slots seat : ℕ)
    (old : Seated) (g : G) (new : Seated) (h : G) (done first field slot : ℕ) (was : (the_advancer old.0).part ≡ Flushing done first)
    (at : slot ≡ slot_at_hand (the_advancer old.0)) (inside : slot < total_of o.layout) (low : field < FIELDS) where
  -- the word at hand may be loaded
  pub may_load : HasFlushed cuts endless asked old g new h (Flushing done field) → done < length (joined (the_advancer old.0).lists)
      → (i : ℕ) → i ≡ word_of slot field
      → Allows (ShowsCore o) slots seat new i (λ n. n) (loaded_word (step slots i 0 0 none) new)
  may_load f listed i is =
      let now : AdvKnown = the_advancer new.0 in
      let here = at ∙ same_slot (the_advancer old.0) now done (stays cuts endless asked old g new h (Flushing done field) f)
      (ap place_at_hand was) (ap place_at_hand f.part_is) in
      loads_word_as o slots seat i new now (same_view cuts endless asked old g new h (Flushing done field) f)
      (is ∙ (λ j. word_of (here j) (ap field_at_hand (sym f.part_is) j)))
      ((λ j. can_load_word (length (same_lists cuts endless asked old g new h (Flushing done field) f j)) (f.part_is j))
      ∙ lt-ltb done (length (joined (the_advancer old.0).lists)) listed)
      (subst (λ (n : ℕ). n < total_of o.layout) here inside)
      (subst (λ (p : AdvPart). field_at_hand p < FIELDS) (sym f.part_is) low)

  -- and made durable
  pub may_persist : (word : ℕ) → HasFlushed cuts endless asked old g new h (Holding done field word)
      → (i : ℕ) → i ≡ durable_place o.layout (word_of slot field)
      → Allows (ShowsCore o) slots seat new i (λ _. word) (λ _ m. persisted_word (step slots i word 0 none) new word m)
  may_persist word f i is =
      let now : AdvKnown = the_advancer new.0 in
      let here = at ∙ same_slot (the_advancer old.0) now done (stays cuts endless asked old g new h (Holding done field word) f)
      (ap place_at_hand was) (ap place_at_hand f.part_is) in
      persists_word_as o slots seat i word new now (same_view cuts endless asked old g new h (Holding done field word) f)
      (is ∙ (λ j. durable_place o.layout (word_of (here j) (ap field_at_hand (sym f.part_is) j))))
      (ap word_in_hand (sym f.part_is))
      (ap can_persist_word f.part_is)
      (subst (λ (n : ℕ). n < total_of o.layout) here inside)
      (subst (λ (p : AdvPart). field_at_hand p < FIELDS) (sym f.part_is) low)

-- ---- where a cut leaves it
pub waits_to_load : (a b : AdvKnown) (done first field : ℕ) → a.part ≡ Flushing done first → b.part ≡ Flushing done field
    → first ≤ field → field < FIELDS → IsWithinSlot a b
waits_to_load a b done first field was is from low = record {
  field = field;
  later = subst (λ (p : AdvPart). field_at_hand p ≤ field) (sym was) from;
  low = low;
  there = inl (is ∙ ap (λ (p : AdvPart). Flushing (place_at_hand p) field) (sym was));
}

pub waits_to_persist : (a b : AdvKnown) (done first field word : ℕ) → a.part ≡ Flushing done first → b.part ≡ Holding done field word
    → b.loaded ≡ word → first ≤ field → field < FIELDS → IsWithinSlot a b
waits_to_persist a b done first field word was is found from low = record {
  field = field;
  later = subst (λ (p : AdvPart). field_at_hand p ≤ field) (sym was) from;
  low = low;
  there = inr (is ∙ (λ j. Holding (place_at_hand (sym was j)) field (sym found j)));
}
