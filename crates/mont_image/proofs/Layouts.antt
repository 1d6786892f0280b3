-- The layout that a header and codes tell.
use Rattle.std.proofs.Common.{◌≡◌, ℕ, ◌+◌, ◌*◌, ◌/◌, ◌<◌, ◌≤◌, ◌⊎◌, Bool, true, false, List, [], ◌∷◌, ◌++◌, map, length, take, Option, Result, Ok, Err, refl, sym, ap, ◌∙◌, subst, arith, ⊎_elim, length-append, replicate}
use Rattle.std.specs.Prelude.{nat_le}
use Rattle.std.specs.Io.KnownBytes.{Consumes}
use Rattle.std.proofs.KnownBytes.{Consumes-nil}
use Rattle.std.proofs.lemmas.Bool.Decides.{nat_tests}
use Rattle.std.proofs.lemmas.List.{length-map, length-replicate, take_at}
use Rattle.mont_base.specs.declared.kinds.UnitKind.{UnitKind}
use Rattle.mont_base.specs.declared.kinds.UnitKind.TheVariants as kinds
use Rattle.mont_base.specs.Kinds.{old_kinds}
use Rattle.mont_base.specs.Layout.{Shape, IsLayout, shape, code_of}
use Rattle.mont_image.specs.declared.image_refusal.ImageRefusal.{ImageRefusal}
use Rattle.mont_image.specs.declared.image_refusal.ImageRefusal.TheVariants as faults
use Rattle.mont_image.specs.declared.image_text.TheConstants.{WORD, HEADER, MOST_OLD_MAPS}
use Rattle.mont_image.specs.declared.image_text.Header.{Header}
use Rattle.mont_image.specs.declared.image_text.Version.{Version}
use Rattle.mont_image.specs.declared.image_text.Version.TheVariants.{First, Second, Third}
use Rattle.mont_image.specs.ImageHeader.{IsHeader}
use Rattle.mont_image.specs.ImageLayout.{IsLayoutOf, EndsInCodes, HasNoKinds, RefusesCodes}
use Rattle.mont_image.specs.ImageRefusal.{Refuses}
use Rattle.mont_image.specs.ImageText.{unless, units_told, codes_told, code_count, HasKindsOf, header_words, most_units, layout_in, layout_told, layout_of_kinds, kinds_of_codes, bytes_of, words_in}
use Rattle.mont_image.specs.StoredImage.{IsOldKinds, maps_in}
use Rattle.mont_image.proofs.WordBytes.{length-words_in}
use Rattle.mont_image.proofs.Codes.{kinds_back}
use Rattle.mont_image.proofs.Filling.{refuses_map}
use Rattle.mont_image.proofs.Spelled.{bytes_of_none}

pub unless_false : {A : Type 0} (b : Bool) (fault : ImageRefusal) (r : Result A ImageRefusal) → b ≡ false → unless b fault r ≡ Err fault
unless_false true fault r e = cc
unless_false false fault r e = refl

pub unless_true : {A : Type 0} (b : Bool) (fault : ImageRefusal) (r : Result A ImageRefusal) → b ≡ true → unless b fault r ≡ r
unless_true true fault r e = refl
unless_true false fault r e = cc

pub le_true : (m n : ℕ) → m ≤ n → nat_le m n ≡ true
le_true m n h = grind (arith, nat_tests)

pub le_false : (m n : ℕ) → n < m → nat_le m n ≡ false
le_false m n h = grind (arith, nat_tests)

-- ---- codes that are refused

module _ (h : Header) (rest : List ℕ) where
  count : length (header_words h ++ words_in rest) ≡ HEADER + length rest / WORD
  count = omega (arith, length-words_in rest)

  codes_short : (whole : ℕ) → EndsInCodes h.units whole rest
      → layout_told Third h (header_words h ++ words_in rest) ≡ Err (faults.Short whole)
  codes_short whole e =
      let few = e.few in
      let is = e.words in
      unless_false (nat_le (HEADER + h.units) (length (header_words h ++ words_in rest)))
      (faults.Short (length (header_words h ++ words_in rest)))
      (layout_of_kinds (kinds_of_codes (take h.units (words_in rest))) h.slots)
      (le_false (HEADER + h.units) (length (header_words h ++ words_in rest)) (omega (arith, count)))
      ∙ ap (λ (n : ℕ). Err (faults.Short n)) (count ∙ sym is)

  codes_none : HasNoKinds h.units rest → layout_told Third h (header_words h ++ words_in rest) ≡ Err faults.Layout
  codes_none e =
      let many = e.many in
      unless_true (nat_le (HEADER + h.units) (length (header_words h ++ words_in rest)))
      (faults.Short (length (header_words h ++ words_in rest)))
      (layout_of_kinds (kinds_of_codes (take h.units (words_in rest))) h.slots)
      (le_true (HEADER + h.units) (length (header_words h ++ words_in rest)) (omega (arith, count)))
      ∙ ap (λ (o : Option (List UnitKind)). layout_of_kinds o h.slots) e.none

  codes_refuse : (fault : ImageRefusal) → RefusesCodes h.units fault rest
      → layout_told Third h (header_words h ++ words_in rest) ≡ Err fault
  codes_refuse faults.Magic e = absurd e
  codes_refuse faults.Version e = absurd e
  codes_refuse faults.Layout e = codes_none e
  codes_refuse faults.Clock e = absurd e
  codes_refuse (faults.Short whole) e = codes_short whole e
  codes_refuse faults.Long e = absurd e
  codes_refuse faults.Read e = absurd e
  codes_refuse faults.Memory e = absurd e

pub layout_refused : (h : Header) (old new : Option (List ℕ)) (fault : ImageRefusal) → h.version ≡ Third
    → Refuses (WORD * h.units) (RefusesCodes h.units) old new fault
    → Refuses (WORD * code_count h.version h.units) (λ f rest. layout_in h (header_words h ++ words_in rest) ≡ Err f) old new fault
layout_refused h old new fault is refuses =
    let P = λ (f : ImageRefusal) (rest : List ℕ). layout_in h (header_words h ++ words_in rest) ≡ Err f in
    let mapped = refuses_map (WORD * h.units) (RefusesCodes h.units) P old new fault
    (λ rest e. ap (λ (v : Version). layout_told v h (header_words h ++ words_in rest)) is ∙ codes_refuse h rest fault e) refuses in
    subst (λ (n : ℕ). Refuses (WORD * n) P old new fault) (sym (ap (λ (v : Version). code_count v h.units) is)) mapped

-- ---- layouts that are told

pub length-old_kinds : (n : ℕ) → length (old_kinds n) ≡ n + 2
length-old_kinds n =
    omega (
      arith,
      length-append (replicate n kinds.Map) (kinds.Queue ∷ kinds.Graph ∷ []),
      length-replicate n kinds.Map,
    )

pub maps_in-old_kinds : (n : ℕ) → maps_in (old_kinds n) ≡ n
maps_in-old_kinds n = omega (arith, length-old_kinds n)

pub are_old : (n : ℕ) → 1 ≤ n → n ≤ MOST_OLD_MAPS → IsOldKinds (old_kinds n)
are_old n some few = record {
  some = omega (arith, maps_in-old_kinds n);
  few = omega (arith, maps_in-old_kinds n);
  kinds = ap old_kinds (sym (maps_in-old_kinds n));
}

module _ (h : Header) (ks : List UnitKind) (old new : Option (List ℕ)) (head : IsHeader h) (layout : IsLayout (shape ks h.slots)) where
  of_version : (v : Version) → h.version ≡ v → units_told v ks ≡ h.units → HasKindsOf v ks → Consumes old new (bytes_of (codes_told v ks))
      → IsLayoutOf h (shape ks h.slots) × Consumes old new (bytes_of (codes_told h.version ks))
  of_version v is units has taken = (
    record {
      layout = layout;
      slots = refl;
      units = ap (λ (w : Version). units_told w ks) is ∙ units;
      kinds = subst (λ (w : Version). HasKindsOf w ks) (sym is) has;
    },
    subst (λ (w : Version). Consumes old new (bytes_of (codes_told w ks))) (sym is) taken,
  )

  nothing : new ≡ old → Consumes old new (bytes_of [])
  nothing same = subst (λ (known : Option (List ℕ)). Consumes old known (bytes_of [])) (sym same)
      (subst (λ (bs : List ℕ). Consumes old old bs) bytes_of_none (Consumes-nil old))

  pub old_layout : (h.version ≡ First) ⊎ (h.version ≡ Second) → ks ≡ old_kinds h.units → new ≡ old
      → IsLayoutOf h (shape ks h.slots) × Consumes old new (bytes_of (codes_told h.version ks))
  old_layout versions is same =
      let units : maps_in ks ≡ h.units = ap maps_in is ∙ maps_in-old_kinds h.units in
      ⊎_elim
      (λ (e : h.version ≡ First).
      let most : h.units ≤ MOST_OLD_MAPS = subst (λ (v : Version). h.units ≤ most_units v) e head.few_units in
      of_version First e units (subst IsOldKinds (sym is) (are_old h.units head.some_units most)) (nothing same))
      (λ (e : h.version ≡ Second).
      let most : h.units ≤ MOST_OLD_MAPS = subst (λ (v : Version). h.units ≤ most_units v) e head.few_units in
      of_version Second e units (subst IsOldKinds (sym is) (are_old h.units head.some_units most)) (nothing same))
      versions

  pub new_layout : h.version ≡ Third → length ks ≡ h.units → Consumes old new (bytes_of (map code_of ks))
      → IsLayoutOf h (shape ks h.slots) × Consumes old new (bytes_of (codes_told h.version ks))
  new_layout is long taken = of_version Third is long tt taken

-- the layout is told by its own codes
old_back : (h : Header) (s : Shape) → s.slots ≡ h.slots → maps_in s.kinds ≡ h.units → IsOldKinds s.kinds
    → shape (old_kinds h.units) h.slots ≡ s
old_back h s slots units has =
    let kinds : old_kinds h.units ≡ s.kinds = ap old_kinds (sym units) ∙ sym has.kinds in
    λ i. record { kinds = kinds i; slots = sym slots i }

pub layout_back : (h : Header) (s : Shape) (v : Version) (more : List ℕ) → s.slots ≡ h.slots → units_told v s.kinds ≡ h.units
    → HasKindsOf v s.kinds → layout_told v h (header_words h ++ (codes_told v s.kinds ++ more)) ≡ Ok s
layout_back h s First more slots units has = ap Ok (old_back h s slots units has)
layout_back h s Second more slots units has = ap Ok (old_back h s slots units has)
layout_back h s Third more slots units has =
    let codes = map code_of s.kinds in
    let long : length codes ≡ h.units = length-map s.kinds code_of ∙ units in
    let ws = header_words h ++ (codes ++ more) in
    unless_true (nat_le (HEADER + h.units) (length ws)) (faults.Short (length ws))
    (layout_of_kinds (kinds_of_codes (take h.units (codes ++ more))) h.slots)
    (le_true (HEADER + h.units) (length ws) (omega (arith, long, length-append codes more)))
    ∙ ap (λ (cs : List ℕ). layout_of_kinds (kinds_of_codes cs) h.slots) (take_at codes more h.units long)
    ∙ ap (λ (o : Option (List UnitKind)). layout_of_kinds o h.slots) (kinds_back s.kinds)
    ∙ (λ i. Ok (record { kinds = s.kinds; slots = sym slots i }))
