-- What marks tell, and one more.
use Rattle.std.proofs.Common.{◌≡◌, ◌≢◌, ℕ, zero, suc, ◌<◌, ◌≤◌, ◌⊎◌, inl, inr, ⊎_elim, Bool, true, false, List, [], ◌∷◌, length, map, replicate, Option, Some, None, refl, sym, ap, ◌∙◌, subst, arith}
use Rattle.std.specs.Prelude.{◌↔◌, IsTrue, slice_get, slice_set}
use Rattle.std.proofs.lemmas.List.{length-replicate, length-set}
use Rattle.std.proofs.lemmas.Option.{same_Some, slice_get_within, slice_get_past}
use Rattle.std.proofs.lemmas.Bool.{cases_eq, cases_lt}
use Rattle.mont_base.specs.declared.operation.Entry.{Entry}
use Rattle.mont_base.specs.Seen.{IsEntryAt}
use Rattle.report_check.specs.Marks.{AreMarks, IsMarkedThere, MarksOne, mark_at, mark_in}
use Rattle.report_check.proofs.ListRows.{same_rows, item_there, set_cases, long_rows}

-- ---- no marks
unset_in : (n p : ℕ) (b : Bool) → slice_get (replicate n false) p ≡ Some b → b ≡ false
unset_in zero p b there = absurd (cc)
unset_in (suc n) zero b there = sym (same_Some false b there)
unset_in (suc n) (suc p) b there = unset_in n p b there

unset : (hs : List (List Entry)) (u p : ℕ) (b : Bool)
    → mark_at (map (λ (h : List Entry). replicate (length h) false) hs) u p ≡ Some b → b ≡ false
unset [] u p b there = absurd (cc)
unset (h ∷ hs) zero p b there = unset_in (length h) p b there
unset (h ∷ hs) (suc u) p b there = unset hs u p b there

unset_long : (hs : List (List Entry)) → map length (map (λ (h : List Entry). replicate (length h) false) hs) ≡ map length hs
unset_long [] = refl
unset_long (h ∷ hs) = λ i. length-replicate (length h) false i ∷ unset_long hs i

pub none_marked : (hs : List (List Entry)) (ms : List (List Bool)) → ms ≡ map (λ (h : List Entry). replicate (length h) false) hs
    → AreMarks hs (λ u p. 0) ms
none_marked hs ms is = record {
  shape = ap (map length) is ∙ unset_long hs;
  each = λ u p b there.
      let no : b ≡ false = unset hs u p b (ap (λ (v : List (List Bool)). mark_at v u p) (sym is) ∙ there) in (
        λ yes. absurd (let t : false ≡ true = sym no ∙ yes in cc),
        λ some. absurd (omega arith),
      );
}

-- ---- where a mark is
mark_of : (ms : List (List Bool)) (u p : ℕ) (row : List Bool) (b : Bool) → slice_get ms u ≡ Some row → slice_get row p ≡ Some b
    → mark_at ms u p ≡ Some b
mark_of ms u p row b one two = ap (λ (o : Option (List Bool)). mark_in o p) one ∙ two

row_of_mark : (o : Option (List Bool)) (p : ℕ) (b : Bool) → mark_in o p ≡ Some b
    → (row : List Bool) × (o ≡ Some row) × (slice_get row p ≡ Some b)
row_of_mark None p b there = absurd (cc)
row_of_mark (Some row) p b there = (row, refl, there)

module _ (hs : List (List Entry)) (times : ℕ → ℕ → ℕ) (ms : List (List Bool)) (are : AreMarks hs times ms) (u p : ℕ) where
  pub marked_there : (e : Entry) → IsEntryAt hs u p e → (b : Bool) × (mark_at ms u p ≡ Some b)
  marked_there e there =
      let row = same_rows ms hs u there.0 are.shape there.1 in
      let within = slice_get_within there.0 p e there.2 in
      let long = row.2 in
      let found = item_there row.0 p (omega arith) in
      (found.0, mark_of ms u p row.0 found.0 row.1 found.1)

  pub entry_marked : (b : Bool) → mark_at ms u p ≡ Some b → (e : Entry) × IsEntryAt hs u p e
  entry_marked b there =
      let row = row_of_mark (slice_get ms u) p b there in
      let own = same_rows hs ms u row.0 (sym are.shape) row.1 in
      let within = slice_get_within row.0 p b row.2 in
      let long = own.2 in
      let found = item_there own.0 p (omega arith) in
      (found.0, (own.0, own.1, found.1))

  -- an entry without a mark wasn't named
  pub unmarked : (e : Entry) → IsEntryAt hs u p e → (mark_at ms u p ≡ Some true → ⊥) → times u p ≡ 0
  unmarked e there not =
      let found = marked_there e there in
      ⊎_elim
      (λ (none : times u p < 1). omega arith)
      (λ (some : 1 ≤ times u p). absurd (not (found.1 ∙ ap Some ((are.each u p found.0 found.1).1 some))))
      (cases_lt (times u p) 1)

  pub marked : mark_at ms u p ≡ Some true → 1 ≤ times u p
  marked there = (are.each u p true there).0 refl

-- as often is as often
pub marks_same : (hs : List (List Entry)) (f g : ℕ → ℕ → ℕ) (ms : List (List Bool)) → ((u p : ℕ) → g u p ≡ f u p)
    → AreMarks hs f ms → AreMarks hs g ms
marks_same hs f g ms same are = record {
  shape = are.shape;
  each = λ u p b there.
      let told = are.each u p b there in
      let e = same u p in
      (λ yes. let few = told.0 yes in omega (arith, few, e), λ some. told.1 (omega (arith, some, e)));
}

-- ---- one mark more
pub marks_row : (ms : List (List Bool)) (unit place : ℕ) (row : List Bool) → slice_get ms unit ≡ Some row → place < length row
    → MarksOne unit place ms (slice_set ms unit (slice_set row place true))
marks_row ms unit place row known inside = record {
  shape = long_rows ms unit (slice_set row place true) row known (length-set row place true);
  each = λ u p b there. by u p b (row_of_mark (slice_get (slice_set ms unit (slice_set row place true)) u) p b there);
  kept = λ there. not_false (row_of_mark (slice_get (slice_set ms unit (slice_set row place true)) unit) place false there);
}
  where
    new : List (List Bool)
    new = slice_set ms unit (slice_set row place true)

    by : (u p : ℕ) (b : Bool) → ((x : List Bool) × (slice_get new u ≡ Some x) × (slice_get x p ≡ Some b))
        → ((u ≡ unit) × (p ≡ place) × (b ≡ true)) ⊎ (mark_at ms u p ≡ Some b)
    by u p b x = ⊎_elim
        (λ (here : (u ≡ unit) × (x.0 ≡ slice_set row place true)). ⊎_elim
        (λ (set : (p ≡ place) × (b ≡ true)). inl (here.0, set.0, set.1))
        (λ (other : (p ≢ place) × (slice_get row p ≡ Some b)).
        inr (mark_of ms u p row b (ap (slice_get ms) here.0 ∙ known) other.1))
        (set_cases row place true p b (ap (λ (r : List Bool). slice_get r p) (sym here.1) ∙ x.2)))
        (λ (other : (u ≢ unit) × (slice_get ms u ≡ Some x.0)). inr (mark_of ms u p x.0 b other.1 x.2))
        (set_cases ms unit (slice_set row place true) u x.0 x.1)

    not_false : ((x : List Bool) × (slice_get new unit ≡ Some x) × (slice_get x place ≡ Some false)) → ⊥
    not_false x = ⊎_elim
        (λ (here : (unit ≡ unit) × (x.0 ≡ slice_set row place true)). ⊎_elim
        (λ (set : (place ≡ place) × (false ≡ true)). absurd (let t = set.1 in cc))
        (λ (other : (place ≢ place) × (slice_get row place ≡ Some false)). other.0 refl)
        (set_cases row place true place false (ap (λ (r : List Bool). slice_get r place) (sym here.1) ∙ x.2)))
        (λ (other : (unit ≢ unit) × (slice_get ms unit ≡ Some x.0)). other.0 refl)
        (set_cases ms unit (slice_set row place true) unit x.0 x.1)

-- nothing is there to be marked
pub marks_none : (ms : List (List Bool)) (unit place : ℕ) → mark_at ms unit place ≡ None → MarksOne unit place ms ms
marks_none ms unit place none = record {
  shape = refl;
  each = λ u p b there. inr there;
  kept = λ there. absurd (let t : ◌≡◌ {A = Option Bool} None (Some false) = sym none ∙ there in cc);
}

pub no_row : (ms : List (List Bool)) (unit place : ℕ) → length ms ≤ unit → mark_at ms unit place ≡ None
no_row ms unit place past = ap (λ (o : Option (List Bool)). mark_in o place) (slice_get_past ms unit past)

pub no_place : (ms : List (List Bool)) (unit place : ℕ) (row : List Bool) → slice_get ms unit ≡ Some row → length row ≤ place
    → mark_at ms unit place ≡ None
no_place ms unit place row known past =
    ap (λ (o : Option (List Bool)). mark_in o place) known ∙ slice_get_past row place past

-- the entry was named once more
pub marked_more : (hs : List (List Entry)) (f g : ℕ → ℕ → ℕ) (old new : List (List Bool)) (unit place : ℕ) → AreMarks hs f old
    → MarksOne unit place old new → (1 ≤ g unit place) → ((u p : ℕ) → ((u ≡ unit) × (p ≡ place) → ⊥) → g u p ≡ f u p)
    → AreMarks hs g new
marked_more hs f g old new unit place are one named others = record {
  shape = one.shape ∙ are.shape;
  each = λ u p b there. ⊎_elim
      (λ (eu : u ≡ unit). ⊎_elim
      (λ (ep : p ≡ place). here u p b there eu ep)
      (λ (np : p ≢ place). elsewhere u p b there (λ both. np both.1))
      (cases_eq p place))
      (λ (nu : u ≢ unit). elsewhere u p b there (λ both. nu both.0))
      (cases_eq u unit);
}
  where
    set_true : (b : Bool) → mark_at new unit place ≡ Some b → b ≡ true
    set_true true there = refl
    set_true false there = absurd (one.kept there)

    here : (u p : ℕ) (b : Bool) → mark_at new u p ≡ Some b → u ≡ unit → p ≡ place → IsTrue b ↔ (1 ≤ g u p)
    here u p b there eu ep =
        let yes : b ≡ true = set_true b ((λ i. mark_at new (sym eu i) (sym ep i)) ∙ there) in
        (λ _. subst (λ n. 1 ≤ n) (λ i. g (sym eu i) (sym ep i)) named, λ _. yes)

    elsewhere : (u p : ℕ) (b : Bool) → mark_at new u p ≡ Some b → ((u ≡ unit) × (p ≡ place) → ⊥) → IsTrue b ↔ (1 ≤ g u p)
    elsewhere u p b there apart = ⊎_elim
        (λ (is : (u ≡ unit) × (p ≡ place) × (b ≡ true)). absurd (apart (is.0, is.1)))
        (λ (was : mark_at old u p ≡ Some b).
        let told = are.each u p b was in
        let e = others u p apart in
        (λ yes. let few = told.0 yes in omega (arith, few, e), λ some. told.1 (omega (arith, some, e))))
        (one.each u p b there)

-- ---- a search for what isn't marked
pub unmarked_here : (ms : List (List Bool)) (unit place : ℕ) (row : List Bool) → slice_get ms unit ≡ Some row → place < length row
    → (mark_at ms unit place ≡ Some true → ⊥) → ¬ IsMarkedThere ms unit place
unmarked_here ms unit place row known inside not all =
    let found = item_there row place inside in
    let at : mark_at ms unit place ≡ Some found.0 = mark_of ms unit place row found.0 known found.1 in
    not (at ∙ ap Some (all found.0 at))

pub marked_here : (ms : List (List Bool)) (unit place : ℕ) → mark_at ms unit place ≡ Some true → IsMarkedThere ms unit place
marked_here ms unit place is b there = same_Some b true (sym there ∙ is)

pub marked_past : (ms : List (List Bool)) (unit place : ℕ) → mark_at ms unit place ≡ None → IsMarkedThere ms unit place
marked_past ms unit place none b there = absurd (let t : ◌≡◌ {A = Option Bool} None (Some b) = sym none ∙ there in cc)
