-- Things of a graph that are removed at once, or one after the other.
use Rattle.std.proofs.Common.{◌≡◌, ℕ, List, [], ◌∷◌, ◌++◌, map, sym, refl, ap, ◌∙◌, subst, arith, Bool, true, false}
use Rattle.std.specs.Prelude.{◌≢◌, Some, None, ◌==◌, AllPairs, All, if◌then◌else◌}
use Rattle.std.proofs.lemmas.Bool.Decides.{nat_tests}
use Rattle.std.proofs.lemmas.List.Elements.{All-nil, All-cons}
use Rattle.std.proofs.lemmas.List.Kept.{AllPairs-cons}
use Rattle.std.proofs.lemmas.Option.{same_Some}
use Rattle.mont_base.specs.declared.record.Held.{Held}
use Rattle.mont_base.specs.declared.effect.Thing.{Thing}
use Rattle.mont_base.specs.declared.effect.Thing.TheVariants.{Pair, Item, Vertex, Edge}
use Rattle.mont_base.specs.declared.effect.Effect.TheVariants.{Removes}
use Rattle.mont_base.specs.State.{Ends}
use Rattle.mont_base.specs.Versions.{newest_of}
use Rattle.mont_base.specs.Bodies.{vertex_in, edge_in}
use Rattle.mont_laws.specs.Records.{live_if, live_of}
use Rattle.mont_laws.specs.Effects.{HasNameOf, IsEffect, AreEffects, AreEffectsInTurn}
use Rattle.mont_laws.proofs.Newest.{newest_push, newest_past}
use Rattle.mont_laws.proofs.Bodies.{vertex_tag, edge_tag, no_vertex_tag}
use Rattle.mont_laws.proofs.Edits.{next_above}

-- two things of a graph with different names
abbrev pub OtherPart : Thing → Thing → Type 0
OtherPart (Vertex v a) (Vertex w b) = v ≢ w
OtherPart (Vertex v a) (Edge f t b) = Unit {0}
OtherPart (Edge f t a) (Vertex w b) = Unit {0}
OtherPart (Edge f t a) (Edge g u b) = ◌≢◌ {A = Ends} (f, t) (g, u)
OtherPart _ _ = ⊥

abbrev pub AllOther : Thing → List Thing → Type 0
AllOther s [] = Unit {0}
AllOther s (t ∷ ts) = OtherPart s t × AllOther s ts

abbrev pub ApartParts : List Thing → Type 0
ApartParts [] = Unit {0}
ApartParts (t ∷ ts) = AllOther t ts × ApartParts ts

clash : (body : List ℕ) (x : ℕ × ℕ) (y : Ends × ℕ) → vertex_in body ≡ Some x → edge_in body ≡ Some y → ⊥
clash body x y e f = let g = vertex_tag body x e in let h = no_vertex_tag body (edge_tag body y f) in let c : true ≡ false = sym g ∙ h in
    absurd (cc)

-- no body has both names
names_apart : (rs : List Held) (s t : Thing) (body : List ℕ) → OtherPart s t → HasNameOf rs s body → HasNameOf rs t body → ⊥
names_apart rs (Vertex v a) (Vertex w b) body ne g h = ne (ap (λ (x : ℕ × ℕ). x.0) (same_Some (v, g.0) (w, h.0) (sym g.1 ∙ h.1)))
names_apart rs (Vertex v a) (Edge f t b) body ne g h = clash body (v, g.0) ((f, t), h.0) g.1 h.1
names_apart rs (Edge f t a) (Vertex w b) body ne g h = clash body (w, h.0) ((f, t), g.0) h.1 g.1
names_apart rs (Edge f t a) (Edge d u b) body ne g h = ne
    (ap (λ (x : Ends × ℕ). x.0) (same_Some ((f, t), g.0) ((d, u), h.0) (sym g.1 ∙ h.1)))
names_apart rs (Vertex v a) (Pair k x) body ne g h = ne
names_apart rs (Vertex v a) (Item x) body ne g h = ne
names_apart rs (Edge f t a) (Pair k x) body ne g h = ne
names_apart rs (Edge f t a) (Item x) body ne g h = ne
names_apart rs (Pair k x) t body ne g h = ne
names_apart rs (Item x) t body ne g h = ne

-- which part a body names has nothing to do with the other records
name_still : (rs qs : List Held) (s t : Thing) (body : List ℕ) → OtherPart s t → HasNameOf rs t body → HasNameOf qs t body
name_still rs qs (Vertex v a) (Vertex w b) body ne h = h
name_still rs qs (Vertex v a) (Edge f t b) body ne h = h
name_still rs qs (Edge f t a) (Vertex w b) body ne h = h
name_still rs qs (Edge f t a) (Edge d u b) body ne h = h
name_still rs qs (Vertex v a) (Pair k x) body ne h = absurd ne
name_still rs qs (Vertex v a) (Item x) body ne h = absurd ne
name_still rs qs (Edge f t a) (Pair k x) body ne h = absurd ne
name_still rs qs (Edge f t a) (Item x) body ne h = absurd ne
name_still rs qs (Pair k x) t body ne h = absurd ne
name_still rs qs (Item x) t body ne h = absurd ne

module _ (unit : ℕ) where
  -- two removals of different things are of different identities
  other_identity : (rs : List Held) (s t : Thing) (w z : Held) → OtherPart s t → IsEffect unit rs (Removes s) w
      → IsEffect unit rs (Removes t) z → w.label.identity ≢ z.label.identity
  other_identity rs s t w z ne g h is =
      let a = g.writes.1 in
      let b = h.writes.1 in
      let same : a.last ≡ b.last = same_Some a.last b.last (sym a.live ∙ ap (λ (i : ℕ). live_of i rs) is ∙ b.live) in
      names_apart rs s t b.last.body ne (subst (λ (r : Held). HasNameOf rs s r.body) same a.named) b.named

  with_newest : (rs qs : List Held) (s t : Thing) (z : Held) → OtherPart s t
      → newest_of z.label.identity rs ≡ newest_of z.label.identity qs → IsEffect unit rs (Removes t) z → IsEffect unit qs (Removes t) z
  with_newest rs qs s t z ne e h =
      let b = h.writes.1 in
      record {
        of_unit = h.of_unit;
        writes = (
          h.writes.0,
          record {
            last = b.last;
            live = ap live_if (sym e)
                ∙ b.live;
            named = name_still rs qs s t b.last.body ne b.named;
            version = b.version;
          },
          h.writes.2,
        );
      }

  all_still : (s : Thing) (ts : List Thing) (rs zs : List Held) (w : Held) → AllOther s ts → IsEffect unit rs (Removes s) w
      → AreEffects unit rs (map Removes ts) zs → AreEffects unit (rs ++ w ∷ []) (map Removes ts) zs
  all_still s [] rs [] w other g h = tt
  all_still s [] rs (z ∷ zs) w other g h = h
  all_still s (t ∷ ts) rs [] w other g h = h
  all_still s (t ∷ ts) rs (z ∷ zs) w other g h = (
    with_newest rs (rs ++ w ∷ []) s t z other.0 (sym (newest_past z.label.identity rs w (other_identity rs s t w z other.0 g h.0))) h.0,
    all_still s ts rs zs w other.1 g h.1,
  )

  pub removed_in_turn : (ts : List Thing) (rs ws : List Held) → ApartParts ts → AreEffects unit rs (map Removes ts) ws
      → AreEffectsInTurn unit rs (map Removes ts) ws
  removed_in_turn [] rs [] apart h = tt
  removed_in_turn [] rs (w ∷ ws) apart h = h
  removed_in_turn (t ∷ ts) rs [] apart h = h
  removed_in_turn (t ∷ ts) rs (w ∷ ws) apart h =
      (h.0, removed_in_turn ts (rs ++ w ∷ []) ws apart.1 (all_still t ts rs ws w apart.0 h.0 h.1))

  -- an identity that was just removed isn't live
  not_just_removed : (rs : List Held) (s t : Thing) (w z : Held) → IsEffect unit rs (Removes s) w
      → IsEffect unit (rs ++ w ∷ []) (Removes t) z → w.label.identity ≢ z.label.identity
  not_just_removed rs s t w z g h is =
      let b = h.writes.1 in
      let newest : newest_of z.label.identity (rs ++ w ∷ []) ≡ Some w = newest_push z.label.identity rs w (next_above s g.writes.1)
      ∙ by (w.label.identity == z.label.identity) refl in
      let gone : live_if (Some w) ≡ None = rw g.writes.0 refl in
      let no : None ≡ Some b.last = sym gone ∙ ap live_if (sym newest) ∙ b.live in
      absurd (cc)
    where
      by : (t : Bool) → (w.label.identity == z.label.identity) ≡ t → (if t then Some w else newest_of z.label.identity rs) ≡ Some w
      by true e = refl
      by false e = absurd (grind (arith, nat_tests))

  all_before : (s : Thing) (ts : List Thing) (rs zs : List Held) (w : Held) → AllOther s ts → IsEffect unit rs (Removes s) w
      → AreEffects unit (rs ++ w ∷ []) (map Removes ts) zs → AreEffects unit rs (map Removes ts) zs
  all_before s [] rs [] w other g h = tt
  all_before s [] rs (z ∷ zs) w other g h = h
  all_before s (t ∷ ts) rs [] w other g h = h
  all_before s (t ∷ ts) rs (z ∷ zs) w other g h = (
    with_newest (rs ++ w ∷ []) rs s t z other.0 (newest_past z.label.identity rs w (not_just_removed rs s t w z g h.0)) h.0,
    all_before s ts rs zs w other.1 g h.1,
  )

  pub removed_at_once : (ts : List Thing) (rs ws : List Held) → ApartParts ts → AreEffectsInTurn unit rs (map Removes ts) ws
      → AreEffects unit rs (map Removes ts) ws
  removed_at_once [] rs [] apart h = tt
  removed_at_once [] rs (w ∷ ws) apart h = h
  removed_at_once (t ∷ ts) rs [] apart h = h
  removed_at_once (t ∷ ts) rs (w ∷ ws) apart h =
      (h.0, all_before t ts rs ws w apart.0 h.0 (removed_at_once ts (rs ++ w ∷ []) ws apart.1 h.1))

  -- removed identities are different
  from_first : (s : Thing) (ts : List Thing) (rs zs : List Held) (w : Held) → AllOther s ts → IsEffect unit rs (Removes s) w
      → AreEffects unit rs (map Removes ts) zs → All (λ (z : Held). w.label.identity ≢ z.label.identity) zs
  from_first s [] rs [] w other g h = All-nil _
  from_first s [] rs (z ∷ zs) w other g h = absurd h
  from_first s (t ∷ ts) rs [] w other g h = absurd h
  from_first s (t ∷ ts) rs (z ∷ zs) w other g h = All-cons (λ (z : Held). w.label.identity ≢ z.label.identity) z zs
      (other_identity rs s t w z other.0 g h.0) (from_first s ts rs zs w other.1 g h.1)

  pub removed_apart : (ts : List Thing) (rs ws : List Held) → ApartParts ts → AreEffects unit rs (map Removes ts) ws
      → AllPairs (λ (w z : Held). w.label.identity ≢ z.label.identity) ws
  removed_apart [] rs [] apart h = λ i j d lt within. absurd (omega arith)
  removed_apart [] rs (w ∷ ws) apart h = absurd h
  removed_apart (t ∷ ts) rs [] apart h = absurd h
  removed_apart (t ∷ ts) rs (w ∷ ws) apart h = AllPairs-cons (λ (w z : Held). w.label.identity ≢ z.label.identity) w ws
      (from_first t ts rs ws w apart.0 h.0 h.1) (removed_apart ts rs ws apart.1 h.1)
