-- Where no number is at its end, there is one for each change.
use Rattle.std.proofs.Common.{◌≡◌, ℕ, ◌+◌, ◌-◌, ◌≤◌, Bool, true, false, cond, List, [], ◌∷◌, refl, sym, ap, ◌∙◌, arith}
use Rattle.std.specs.Prelude.{◌||◌, ◌&&◌, nat_lt, nat_le, slice_index, All, IsTrue, Option, Some, None}
use Rattle.std.specs.List.{AllZip, list_any}
use Rattle.std.proofs.lemmas.Bool.Decides.{nat_tests}
use Rattle.std.proofs.lemmas.List.Elements.{All-cons, All-nil}
use Rattle.mont_base.specs.declared.constants.TheConstants.{LAST}
use Rattle.mont_base.specs.declared.effect.Effect.{Effect}
use Rattle.mont_base.specs.declared.effect.Effect.TheVariants.{Inserts, Replaces, Removes}
use Rattle.mont_base.specs.declared.effect.Thing.{Thing}
use Rattle.mont_base.specs.declared.effect.Thing.TheVariants.{Pair, Item, Vertex, Edge}
use Rattle.mont_base.specs.declared.kinds.UnitKind.TheVariants as unit_kinds
use Rattle.mont_base.specs.declared.record.Change.{Change}
use Rattle.mont_base.specs.declared.record.Change.TheVariants.{Insert, Replace, Remove}
use Rattle.mont_base.specs.declared.record.Held.{Held}
use Rattle.mont_base.specs.declared.refusal.Which.{Which}
use Rattle.mont_base.specs.Layout.{Shape, kind_of, is_of_kind}
use Rattle.mont_laws.specs.Records.{live_of}
use Rattle.core_steps.specs.declared.parts.CallerPart.{CallerPart}
use Rattle.slots.specs.Books.{BooksShown, RegionShown}
use Rattle.slots.specs.WrittenRecords.{NamesLive, IsLiveAt, ends_version, greatest_version, version_in, has_serial, serial_in, inserts, is_insert}
use Rattle.structure_call.proofs.KeptPlans.{newest_live}
use Rattle.structure_call.specs.Planning.{NamesThing, IsBodyNext, Makes, adds_item, first_at_end}
use Rattle.structure_call.proofs.ChangeEffects.{FitsKind, AllFit, is_item, has_one, has_more}

-- ---- numbers that are left, each to what it is asked for
pub record AreLeft (q : CallerPart) (r : RegionShown) (changes : List Change) : Type 0 where
  pub call : q.calls ≤ LAST
  pub place : r.books.places ≤ LAST
  pub identities : inserts changes ≤ LAST + 1 - r.books.identity
  pub versions : list_any (ends_version r.seat.known.part.records) changes ≡ false
  pub serial : adds_item r.books changes ≡ true → r.books.serial ≤ LAST

none_of : (ends : Bool) (which : Which) (rest : Option Which) → cond ends (Some which) rest ≡ None → (ends ≡ false) × (rest ≡ None)
none_of true which rest e = absurd (cc)
none_of false which rest e = (refl, e)

not_above : (n : ℕ) → nat_lt LAST n ≡ false → n ≤ LAST
not_above n e = grind (arith, nat_tests)

pub numbers_left : (q : CallerPart) (r : RegionShown) (changes : List Change) → first_at_end q r changes ≡ None → AreLeft q r changes
numbers_left q r changes none =
    let calls = none_of (nat_lt LAST q.calls) _ _ none in
    let places = none_of (nat_lt LAST r.books.places) _ _ calls.1 in
    let identities = none_of (nat_lt (LAST + 1 - r.books.identity) (inserts changes)) _ _ places.1 in
    let versions = none_of (list_any (ends_version r.seat.known.part.records) changes) _ _ identities.1 in
    let serials = none_of (adds_item r.books changes && nat_lt LAST r.books.serial) _ _ versions.1 in
    record {
      call = not_above q.calls calls.0;
      place = not_above r.books.places places.0;
      identities = few (LAST + 1 - r.books.identity) (inserts changes) identities.0;
      versions = versions.0;
      serial = λ adds. not_above r.books.serial (sym (ap (λ (t : Bool). t && nat_lt LAST r.books.serial) adds) ∙ serials.0);
    }
  where
    few : (left asked : ℕ) → nat_lt left asked ≡ false → asked ≤ left
    few left asked e = grind (arith, nat_tests)

-- ---- each change by itself
module _ (b : BooksShown) (kept : List Held) where
  live_at : (thing : Thing) (slot identity : ℕ) → NamesThing kept thing slot identity → IsLiveAt kept slot identity
  live_at thing slot identity k = record { live = k.live; is = k.is; in_slot = k.in_slot }

  names_live : (e : Effect) (c : Change) → Makes b kept e c → NamesLive kept c
  names_live (Inserts thing) (Insert body) h = tt
  names_live (Replaces thing) (Replace slot identity body) h = live_at thing slot identity h.0
  names_live (Removes thing) (Remove slot identity) h = live_at thing slot identity h
  names_live _ _ h = absurd h

  pub all_live : (es : List Effect) (cs : List Change) → AllZip (Makes b kept) es cs → All (NamesLive kept) cs
  all_live [] [] h = All-nil (NamesLive kept)
  all_live [] (c ∷ cs) h = absurd h
  all_live (e ∷ es) [] h = absurd h
  all_live (e ∷ es) (c ∷ cs) h = All-cons (NamesLive kept) c cs (names_live e c h.0) (all_live es cs h.1)

  -- ---- versions, where the same records were live
  module _ (old : List Held) (live : (identity : ℕ) → live_of identity kept ≡ live_of identity old) where
    same_version : (thing : Thing) (slot identity : ℕ) → NamesThing kept thing slot identity
        → greatest_version identity kept ≡ greatest_version identity old
    same_version thing slot identity k =
        ap version_in (newest_live kept identity k.live k.is
        ∙ sym (newest_live old identity k.live (sym (live identity) ∙ k.is)))

    version_left : (e : Effect) (c : Change) → Makes b kept e c → ends_version old c ≡ false → ends_version kept c ≡ false
    version_left (Inserts thing) (Insert body) h left = refl
    version_left (Replaces thing) (Replace slot identity body) h left =
        ap (λ (v : ℕ). nat_le LAST v) (same_version thing slot identity h.0) ∙ left
    version_left (Removes thing) (Remove slot identity) h left =
        ap (λ (v : ℕ). nat_le LAST v) (same_version thing slot identity h) ∙ left
    version_left _ _ h left = absurd h

    neither : (a b : Bool) → (a || b) ≡ false → (a ≡ false) × (b ≡ false)
    neither true b e = absurd (cc)
    neither false b e = (refl, e)

    pub versions_left : (es : List Effect) (cs : List Change) → AllZip (Makes b kept) es cs
        → list_any (ends_version old) cs ≡ false → All (λ (c : Change). ends_version kept c ≡ false) cs
    versions_left [] [] h left = All-nil (λ (c : Change). ends_version kept c ≡ false)
    versions_left [] (c ∷ cs) h left = absurd h
    versions_left (e ∷ es) [] h left = absurd h
    versions_left (e ∷ es) (c ∷ cs) h left =
        let both = neither (ends_version old c) (list_any (ends_version old) cs) left in
        All-cons (λ (c : Change). ends_version kept c ≡ false) c cs (version_left e c h.0 both.0) (versions_left es cs h.1 both.1)

  -- ---- serials
  module _ (s : Shape) (unit : ℕ) (queue : Bool) (of_kind : is_of_kind (kind_of s unit) unit_kinds.Queue ≡ queue) where
    of_queue : (new : Bool) → (is_of_kind (kind_of s unit) unit_kinds.Queue && new) ≡ true → (queue ≡ true) × (new ≡ true)
    of_queue new e = by (is_of_kind (kind_of s unit) unit_kinds.Queue) of_kind e
      where
        by : (t : Bool) → t ≡ queue → (t && new) ≡ true → (queue ≡ true) × (new ≡ true)
        by true is e = (sym is, e)
        by false is e = absurd (cc)

    item_serial : (thing : Thing) (body : List ℕ) → is_item thing ≡ true → b.serial ≤ LAST → IsBodyNext b kept thing body
        → slice_index body 0 ≤ LAST
    item_serial (Item item) body is low h =
        let first : slice_index body 0 ≡ b.serial = ap (λ (words : List ℕ). slice_index words 0) h in omega arith
    item_serial (Pair key value) body is low h = absurd (cc)
    item_serial (Vertex vertex attribute) body is low h = absurd (cc)
    item_serial (Edge from to attribute) body is low h = absurd (cc)

    serial_left : (e : Effect) (c : Change) → FitsKind queue e → (queue ≡ true → is_insert c ≡ true → b.serial ≤ LAST)
        → Makes b kept e c → has_serial s unit c ≡ true → serial_in c ≤ LAST
    serial_left (Inserts thing) (Insert body) fits low h has =
        let is = of_queue true has in item_serial thing body (fits ∙ is.0) (low is.0 refl) h
    serial_left (Replaces thing) (Replace slot identity body) fits low h has = absurd (cc ((of_queue false has).1))
    serial_left (Removes thing) (Remove slot identity) fits low h has = absurd (cc ((of_queue false has).1))
    serial_left _ _ fits low h has = absurd h

    pub serials_left : (es : List Effect) (cs : List Change) → AllFit queue es
        → (list_any (has_serial s unit) cs ≡ true → b.serial ≤ LAST) → AllZip (Makes b kept) es cs
        → All (λ (c : Change). IsTrue (has_serial s unit c) → serial_in c ≤ LAST) cs
    serials_left [] [] fit low h = All-nil (λ (c : Change). IsTrue (has_serial s unit c) → serial_in c ≤ LAST)
    serials_left [] (c ∷ cs) fit low h = absurd h
    serials_left (e ∷ es) [] fit low h = absurd h
    serials_left (e ∷ es) (c ∷ cs) fit low h =
        All-cons (λ (c : Change). IsTrue (has_serial s unit c) → serial_in c ≤ LAST) c cs
        (serial_left e c fit.0 (λ is new. low (has_one s unit c cs (of_kind ∙ is) new)) h.0)
        (serials_left es cs fit.1 (λ more. low (has_more s unit c cs more)) h.1)
