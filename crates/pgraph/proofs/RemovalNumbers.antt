-- Removals together are given a number above the last one where one of them is.
use Rattle.std.proofs.Common.{◌≡◌, ℕ, ◌+◌, ◌-◌, Bool, true, false, List, [], ◌∷◌, ◌++◌, map, refl, sym, ap, ◌∙◌, subst, arith, inl, inr, ◌⊎◌}
use Rattle.std.specs.Prelude.{All, Option, Some, None, ◌&&◌, ◌||◌, nat_lt, if◌then◌else◌, Ok, Err, OnOk, IfErr}
use Rattle.std.specs.declared.result.Result.{Result}
use Rattle.std.specs.List.{Contains, list_any}
use Rattle.std.specs.Result.{IsErrAnd}
use Rattle.std.proofs.lemmas.Bool.Decides.{nat_tests}
use Rattle.std.proofs.lemmas.List.Elements.{All-cons, All-head, All-tail, Contains-append_left, Contains-append_right}
use Rattle.mont_base.specs.declared.constants.TheConstants.{LAST}
use Rattle.mont_base.specs.declared.kinds.UnitKind.TheVariants as unit_kinds
use Rattle.mont_base.specs.declared.record.Change.{Change}
use Rattle.mont_base.specs.declared.record.Held.{Held}
use Rattle.mont_base.specs.declared.refusal.CallRefusal.{CallRefusal}
use Rattle.mont_base.specs.declared.refusal.CallRefusal.TheVariants.{CountEnd}
use Rattle.mont_base.specs.declared.refusal.Which.{Which}
use Rattle.mont_base.specs.declared.refusal.Which.TheVariants as ends
use Rattle.mont_base.specs.Layout.{kind_of}
use Rattle.mont_base.specs.State.{Ends}
use Rattle.mont_laws.proofs.Members.{no_element, first_element, later_element, element_cases}
use Rattle.core_steps.specs.declared.parts.CallerPart.{CallerPart}
use Rattle.heap.specs.HeapShown.{HeapShown, CallerShown}
use Rattle.slots.specs.Books.{BooksShown, RegionShown}
use Rattle.slots.specs.WrittenRecords.{IsLiveAt, NamesLive, ends_version, inserts}
use Rattle.slots.specs.Serials.{is_queue}
use Rattle.structure_call.specs.Checking.{EndsCount}
use Rattle.structure_call.specs.Planning.{adds_item, first_at_end}
use Rattle.pgraph.specs.declared.graph_edit.GraphEdit.{GraphEdit}
use Rattle.pgraph.specs.declared.graph_edit.GraphEdit.TheVariants.{Remove}
use Rattle.pgraph.specs.declared.node.Name.{Name}
use Rattle.pgraph.specs.declared.node.Node.{Node}
use Rattle.pgraph.specs.GraphCall.{AreLiveEdges, HaveNumbers, EndsAtEdge}
use Rattle.pgraph.specs.GraphEdit.{nodes_with, removal, edge_removal, changes_of}
use Rattle.pgraph.specs.GraphIndex.{Nodes, part_of}

-- ---- no change of a graph adds an item
pub no_items : (b : BooksShown) (cs : List Change) → kind_of b.layout b.unit ≡ Some unit_kinds.Graph → adds_item b cs ≡ false
no_items b [] e = refl
no_items b (c ∷ cs) e = rw e (no_items b cs e)

-- ---- removals add nothing
never : (t : Bool) → (t && false) ≡ false
never true = refl
never false = refl

or_false : (t : Bool) → (t || false) ≡ t
or_false true = refl
or_false false = refl

serials_none : (b : BooksShown) (es : List (Ends × Node)) (n : Node) → adds_item b (map edge_removal es ++ removal n ∷ []) ≡ false
serials_none b [] n = ap (λ t. t || false) (never (is_queue b.layout b.unit))
serials_none b (e ∷ es) n = ap (λ t. t || adds_item b (map edge_removal es ++ removal n ∷ [])) (never (is_queue b.layout b.unit))
    ∙ serials_none b es n

inserts_none : (es : List (Ends × Node)) (n : Node) → inserts (map edge_removal es ++ removal n ∷ []) ≡ 0
inserts_none [] n = refl
inserts_none (e ∷ es) n = inserts_none es n

-- ---- one change at its end
any_at : {A : Type 0} (p : A → Bool) (xs : List A) (x : A) → Contains xs x → p x ≡ true → list_any p xs ≡ true
any_at p [] x c e = absurd (no_element x c)
any_at {A} p (y ∷ xs) x c e = by (p y) refl (element_cases y xs x c) (λ d. any_at p xs x d e)
  where
    by : (t : Bool) → p y ≡ t → (x ≡ y) ⊎ Contains xs x → (Contains xs x → list_any p xs ≡ true) → (t || list_any p xs) ≡ true
    by true f d rest = refl
    by false f (inl is) rest = let g : p y ≡ true = ap p (sym is) ∙ e in absurd (cc)
    by false f (inr d) rest = rest d

removal_there : (es : List (Ends × Node)) (e : Ends × Node) → Contains es e → Contains (map edge_removal es) (edge_removal e)
removal_there [] e c = absurd (no_element e c)
removal_there (d ∷ es) e c = by (element_cases d es e c) (λ b. removal_there es e b)
  where
    by : (e ≡ d) ⊎ Contains es e → (Contains es e → Contains (map edge_removal es) (edge_removal e))
        → Contains (map edge_removal (d ∷ es)) (edge_removal e)
    by (inl is) rest = subst (λ (x : Ends × Node). Contains (map edge_removal (d ∷ es)) (edge_removal x)) (sym is)
        (first_element (edge_removal d) (map edge_removal es))
    by (inr b) rest = later_element (edge_removal d) (map edge_removal es) (edge_removal e) (rest b)

module _ (q : CallerPart) (r : RegionShown) where
  -- which number is at its end, where nothing is added and some version is at its end or none
  abbrev number_end : Bool → Option Which
  number_end t = if nat_lt LAST q.calls then Some ends.Call
      else (if nat_lt LAST r.books.places then Some ends.Place else (if t then Some ends.Version else None))

  abbrev at_end : Change → Bool
  at_end c = ends_version r.seat.known.part.records c

  removals_end : (cs : List Change) → inserts cs ≡ 0 → adds_item r.books cs ≡ false → first_at_end q r cs ≡ number_end (list_any at_end cs)
  removals_end cs none same =
      by (nat_lt LAST q.calls) (nat_lt LAST r.books.places) (nat_lt (LAST + 1 - r.books.identity) (inserts cs)) (list_any at_end cs)
      (adds_item r.books cs) (nat_lt LAST r.books.serial) (few (LAST + 1 - r.books.identity) (inserts cs) none) same
    where
      few : (left asked : ℕ) → asked ≡ 0 → nat_lt left asked ≡ false
      few left asked e = grind (arith, nat_tests)

      by : (c p i v s l : Bool) → i ≡ false → s ≡ false
          → (if c then Some ends.Call else (if p then Some ends.Place else (if i then Some ends.Identity
          else (if v then Some ends.Version else (if s && l then Some ends.Serial else None)))))
          ≡ (if c then Some ends.Call else (if p then Some ends.Place else (if v then Some ends.Version else None)))
      by c p i v s l e f = rw (e, f) refl

  one_end : (n : Node) → first_at_end q r (removal n ∷ []) ≡ number_end (at_end (removal n))
  one_end n = removals_end (removal n ∷ []) refl (serials_none r.books [] n) ∙ ap number_end (or_false (at_end (removal n)))

  all_end : (es : List (Ends × Node)) (n : Node) → first_at_end q r (map edge_removal es ++ removal n ∷ [])
      ≡ number_end (list_any at_end (map edge_removal es ++ removal n ∷ []))
  all_end es n = removals_end (map edge_removal es ++ removal n ∷ []) (inserts_none es n) (serials_none r.books es n)

  both_none : (t u : Bool) → number_end t ≡ None → number_end u ≡ None → number_end (t || u) ≡ None
  both_none true u e f = e
  both_none false u e f = f

  more_ends : (w : Which) (t u : Bool) → (t ≡ true → u ≡ true) → number_end t ≡ Some w → number_end u ≡ Some w
  more_ends w true u h e = ap number_end (h refl) ∙ e
  more_ends w false false h e = e
  more_ends w false true h e = by (nat_lt LAST q.calls) (nat_lt LAST r.books.places) e
    where
      by : (c p : Bool) → (if c then Some ends.Call else (if p then Some ends.Place else None)) ≡ Some w
          → (if c then Some ends.Call else (if p then Some ends.Place else Some ends.Version)) ≡ Some w
      by true p e = e
      by false true e = e
      by false false e = absurd (cc)

  -- ---- with a number for each removal there is one for all
  numbers_any : (es : List (Ends × Node)) (n : Node) → HaveNumbers q r es → number_end (at_end (removal n)) ≡ None
      → number_end (list_any at_end (map edge_removal es ++ removal n ∷ [])) ≡ None
  numbers_any [] n h e = ap number_end (or_false (at_end (removal n))) ∙ e
  numbers_any (x ∷ es) n h e = both_none (at_end (edge_removal x)) (list_any at_end (map edge_removal es ++ removal n ∷ []))
      (sym (one_end x.1) ∙ All-head (λ (e : Ends × Node). first_at_end q r (edge_removal e ∷ []) ≡ None) x es h)
      (numbers_any es n (All-tail (λ (e : Ends × Node). first_at_end q r (edge_removal e ∷ []) ≡ None) x es h) e)

  pub all_numbers : (es : List (Ends × Node)) (n : Node) → HaveNumbers q r es → first_at_end q r (removal n ∷ []) ≡ None
      → first_at_end q r (map edge_removal es ++ removal n ∷ []) ≡ None
  all_numbers es n h e = all_end es n ∙ numbers_any es n h (sym (one_end n) ∙ e)

  -- ---- without a number for one removal there is none for all
  some_end : (es : List (Ends × Node)) (n m : Node) → Contains (map edge_removal es ++ removal n ∷ []) (removal m) → (w : Which)
      → first_at_end q r (removal m ∷ []) ≡ Some w → first_at_end q r (map edge_removal es ++ removal n ∷ []) ≡ Some w
  some_end es n m there w e = all_end es n
      ∙ more_ends w (at_end (removal m)) (list_any at_end (map edge_removal es ++ removal n ∷ []))
      (any_at at_end (map edge_removal es ++ removal n ∷ []) (removal m) there) (sym (one_end m) ∙ e)

  pub edge_end : (es : List (Ends × Node)) (n : Node) (x : Ends × Node) → Contains es x → (w : Which)
      → first_at_end q r (edge_removal x ∷ []) ≡ Some w → first_at_end q r (map edge_removal es ++ removal n ∷ []) ≡ Some w
  edge_end es n x there w e = some_end es n x.1
      (Contains-append_left (map edge_removal es) (removal n ∷ []) (edge_removal x) (removal_there es x there)) w e

  pub last_end : (es : List (Ends × Node)) (n : Node) (w : Which) → first_at_end q r (removal n ∷ []) ≡ Some w
      → first_at_end q r (map edge_removal es ++ removal n ∷ []) ≡ Some w
  last_end es n w e = some_end es n n
      (Contains-append_right (map edge_removal es) (removal n ∷ []) (removal n) (first_element (removal n) [])) w e

ends_more : (heap : HeapShown) (old new : RegionShown) (q r : CallerShown) (cs ds : List Change) (why : CallRefusal)
    → ((w : Which) → first_at_end q.known.part old cs ≡ Some w → first_at_end q.known.part old ds ≡ Some w)
    → EndsCount heap old new q r cs why → EndsCount heap old new q r ds why
ends_more heap old new q r cs ds (CountEnd w) f h = (f w h.0, h.1)
ends_more heap old new q r cs ds _ f h = absurd h

-- ---- what is removed is live
module _ (records : List Held) where
  pub edges_named : (es : List (Ends × Node)) (n : Node) → All (NamesLive records) (map edge_removal es ++ removal n ∷ [])
      → AreLiveEdges records es
  edges_named [] n h = λ i d l. absurd (omega arith)
  edges_named (e ∷ es) n h = All-cons (λ (e : Ends × Node). IsLiveAt records e.1.slot e.1.identity) e es
      (All-head (NamesLive records) (edge_removal e) (map edge_removal es ++ removal n ∷ []) h)
      (edges_named es n (All-tail (NamesLive records) (edge_removal e) (map edge_removal es ++ removal n ∷ []) h))

  pub last_named : (es : List (Ends × Node)) (n : Node) → All (NamesLive records) (map edge_removal es ++ removal n ∷ [])
      → All (NamesLive records) (removal n ∷ [])
  last_named [] n h = h
  last_named (e ∷ es) n h = last_named es n (All-tail (NamesLive records) (edge_removal e) (map edge_removal es ++ removal n ∷ []) h)

-- ---- so a refusal for one is one for all
module _ (heap : HeapShown) (old new : RegionShown) (q r : CallerShown) (es : List (Ends × Node)) (n : Node) (why : CallRefusal) where
  pub edge_ends : EndsAtEdge heap old new q r es why → EndsCount heap old new q r (map edge_removal es ++ removal n ∷ []) why
  edge_ends h = ends_more heap old new q r (edge_removal h.edge ∷ []) (map edge_removal es ++ removal n ∷ []) why
      (edge_end q.known.part old es n h.edge h.there) h.ends

  pub last_ends : EndsCount heap old new q r (removal n ∷ []) why → EndsCount heap old new q r (map edge_removal es ++ removal n ∷ []) why
  last_ends h = ends_more heap old new q r (removal n ∷ []) (map edge_removal es ++ removal n ∷ []) why (last_end q.known.part old es n) h

-- ---- a check of an edit
module _ (nodes : Nodes) (edit : GraphEdit) (name : Name) (n : Node) (is : edit ≡ Remove name n) where
  pub removal_named : (records : List Held) → All (NamesLive records) (changes_of nodes edit)
      → All (NamesLive records) (map edge_removal (nodes_with nodes (part_of name)) ++ removal n ∷ [])
  removal_named records h = subst (λ (e : GraphEdit). All (NamesLive records) (changes_of nodes e)) is h

  pub removal_numbers : (q : CallerPart) (r : RegionShown) → HaveNumbers q r (nodes_with nodes (part_of name))
      → first_at_end q r (removal n ∷ []) ≡ None → first_at_end q r (changes_of nodes edit) ≡ None
  removal_numbers q r h e = ap (λ (x : GraphEdit). first_at_end q r (changes_of nodes x)) is
      ∙ all_numbers q r (nodes_with nodes (part_of name)) n h e

  module _ (heap : HeapShown) (old new : RegionShown) (q r : CallerShown) (why : CallRefusal) where
    pub edge_refused : EndsAtEdge heap old new q r (nodes_with nodes (part_of name)) why
        → EndsCount heap old new q r (changes_of nodes edit) why
    edge_refused h = subst (λ (e : GraphEdit). EndsCount heap old new q r (changes_of nodes e) why) (sym is)
        (edge_ends heap old new q r (nodes_with nodes (part_of name)) n why h)

    pub last_refused : (ran : RegionShown) → ran ≡ old → (s : CallerShown) → s ≡ q → EndsCount heap ran new s r (removal n ∷ []) why
        → EndsCount heap old new q r (changes_of nodes edit) why
    last_refused ran was s same h = subst (λ (e : GraphEdit). EndsCount heap old new q r (changes_of nodes e) why) (sym is)
        (last_ends heap old new q r (nodes_with nodes (part_of name)) n why
        (subst (λ (x : RegionShown × CallerShown). EndsCount heap x.0 new x.1 r (removal n ∷ []) why) (λ i. (was i, same i)) h))

-- a refusal that is handed on
pub at_exit : {X E : Type 0} (r : Result X E) (e : E) (Q : E → Type 0) → IsErrAnd r (λ d. d ≡ e) → Q e → IfErr r Q
at_exit (Ok x) e Q is h = absurd is
at_exit (Err d) e Q is h = subst Q (sym is) h

-- an answer that tells more
pub ok_more : {X E : Type 0} (r : Result X E) (P Q : Type 0) → OnOk r P → (P → Q) → OnOk r Q
ok_more (Ok x) P Q h f = f h
ok_more (Err e) P Q h f = tt

pub err_more : {X E : Type 0} (r : Result X E) (P Q : E → Type 0) → IfErr r P → ((e : E) → P e → Q e) → IfErr r Q
err_more (Ok x) P Q h f = tt
err_more (Err e) P Q h f = f e h
