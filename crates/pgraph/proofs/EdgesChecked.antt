-- The edges that go with a vertex are checked one by one.
use Rattle.std.proofs.Common.{◌≡◌, List, [], ◌∷◌, ◌++◌, append_assoc, sym, subst, ◌∙◌, arith}
use Rattle.std.specs.Prelude.{All, None}
use Rattle.std.specs.List.{Contains}
use Rattle.std.proofs.lemmas.List.Elements.{All-cons, All-head, All-tail, All-contains}
use Rattle.mont_base.specs.declared.record.Change.{Change}
use Rattle.mont_base.specs.declared.record.Held.{Held}
use Rattle.mont_base.specs.declared.refusal.CallRefusal.{CallRefusal}
use Rattle.mont_base.specs.State.{Ends}
use Rattle.mont_laws.proofs.Members.{first_element, later_element}
use Rattle.heap.specs.HeapShown.{HeapShown, CallerShown}
use Rattle.slots.specs.Books.{RegionShown}
use Rattle.slots.specs.WrittenRecords.{NamesLive, IsLiveAt}
use Rattle.structure_call.specs.Checking.{EndsCount}
use Rattle.structure_call.specs.Planning.{first_at_end}
use Rattle.pgraph.specs.declared.node.Node.{Node}
use Rattle.pgraph.specs.GraphEdit.{edge_removal}
use Rattle.pgraph.specs.GraphCall.{AreLiveEdges, HaveNumbers, EndsAtEdge}

-- So many edges are checked, and these are left. Nothing changed.
pub record AreChecked
    (old new : RegionShown) (q r : CallerShown) (done left all : List (Ends × Node)) : Type 0 where
  pub region : new ≡ old
  pub caller : r ≡ q
  pub numbers : HaveNumbers q.known.part old done
  pub parts : all ≡ done ++ left

middle_element : {A : Type 0} (xs : List A) (x : A) (ys : List A) → Contains (xs ++ x ∷ ys) x
middle_element [] x ys = first_element x ys
middle_element (y ∷ xs) x ys = later_element y (xs ++ x ∷ ys) x (middle_element xs x ys)

All-push : {A : Type 0} (P : A → Type 0) (xs : List A) (x : A) → All P xs → P x → All P (xs ++ x ∷ [])
All-push P [] x h p = All-cons P x [] p (λ i d l. absurd (omega arith))
All-push P (y ∷ xs) x h p = All-cons P y (xs ++ x ∷ []) (All-head P y xs h) (All-push P xs x (All-tail P y xs h) p)

-- one change that names what is live
pub named_one : (records : List Held) (c : Change) → NamesLive records c → All (NamesLive records) (c ∷ [])
named_one records c h = All-cons (NamesLive records) c [] h (λ i d l. absurd (omega arith))

module _ (old new : RegionShown) (q r : CallerShown) (done left all : List (Ends × Node)) (e : Ends × Node)
    (checked : AreChecked old new q r done (e ∷ left) all) where
  pub next_there : Contains all e
  next_there = subst (λ (xs : List (Ends × Node)). Contains xs e) (sym checked.parts) (middle_element done e left)

  pub next_live : AreLiveEdges old.seat.known.part.records all → IsLiveAt new.seat.known.part.records e.1.slot e.1.identity
  next_live live = subst (λ (s : RegionShown). IsLiveAt s.seat.known.part.records e.1.slot e.1.identity) (sym checked.region)
      (All-contains (λ (e : Ends × Node). IsLiveAt old.seat.known.part.records e.1.slot e.1.identity) all e live next_there)

  pub next_checked : (now : RegionShown) (s : CallerShown) → now ≡ new → s ≡ r → first_at_end r.known.part new (edge_removal e ∷ []) ≡ None
      → AreChecked old now q s (done ++ e ∷ []) left all
  next_checked now s is was none = record {
    region = is ∙ checked.region;
    caller = was ∙ checked.caller;
    numbers = All-push (λ (e : Ends × Node). first_at_end q.known.part old (edge_removal e ∷ []) ≡ None) done e checked.numbers
        (subst (λ (x : RegionShown × CallerShown). first_at_end x.1.known.part x.0 (edge_removal e ∷ []) ≡ None)
        (λ i. (checked.region i, checked.caller i)) none);
    parts = checked.parts ∙ sym (append_assoc done (e ∷ []) left);
  }

  pub next_ends : (heap : HeapShown) (now : RegionShown) (s : CallerShown) (why : CallRefusal)
      → EndsCount heap new now r s (edge_removal e ∷ []) why → EndsAtEdge heap old now q s all why
  next_ends heap now s why ends = record {
    edge = e;
    there = next_there;
    ends = subst (λ (x : RegionShown × CallerShown). EndsCount heap x.0 now x.1 s (edge_removal e ∷ []) why)
        (λ i. (checked.region i, checked.caller i)) ends;
  }
