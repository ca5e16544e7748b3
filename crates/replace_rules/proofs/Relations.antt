-- What groups rewrite, the two sides of marked words of their places are.
use Rattle.std.proofs.Common.{◌≡◌, ◌↔◌, ◌⊎◌, ℕ, ◌<◌, Bool, List, [], ◌∷◌, ◌++◌, Option, Some, None, All, length, refl, sym, ap, subst, inl, inr}
use Rattle.std.specs.List.{Contains, slice_get, flat_map, filter_map}
use Rattle.std.proofs.lemmas.Option.{slice_get_within}
use Rattle.std.proofs.lemmas.List.Elements.{All-nil, All-cons, All-head, All-tail, All-append, All-map, All-weaker, All-contains, Contains-append_left, Contains-append_right, Contains-append_cases}
use Rattle.fsm_base.specs.declared.letters.Sym.{Sym}
use Rattle.fsm_base.specs.declared.letters.Bound.{Bound}
use Rattle.fsm_base.specs.declared.letters.Bound.TheVariants.{Edge, Inner}
use Rattle.word_relations.specs.Words.{IsOver}
use Rattle.word_relations.proofs.Members.{Contains-nil_cases, Contains-cons_cases, Contains-head, Contains-tail, Contains-map, Contains-map_cases}
use Rattle.word_relations.proofs.Places.{Contains-from_slice_get}
use Rattle.fsa.specs.Automaton.{Automaton}
use Rattle.fsa.specs.Language as language
use Rattle.fsa.specs.Complete.{Complete, Accepts}
use Rattle.lang_algebra.specs.Languages.{IsLang}
use Rattle.expr_meaning.specs.Operators.{inner}
use Rattle.expr_meaning.specs.Replacement.{Piece, copied, replaced, read_before, read_behind, IsPiece, IsRewritten}
use Rattle.replace_words.specs.declared.marks.Mark.{Mark}
use Rattle.replace_words.specs.declared.marks.Mark.TheVariants.{Copy, Up, Low, Same, Open, Close}
use Rattle.replace_words.specs.Places.{HasNoEmptyCentre, HoldsBetween, ReplacesAt, AppliesAt, IsRewrittenAt}
use Rattle.replace_words.specs.Marked.{ups, lows, sames, bracket, upper_of, lower_of, symbol_of, IsReplacement, IsBlock, IsWellMarked, IsKept}
use Rattle.replace_words.proofs.Claimed.{rewritings_are_marked}
use Rattle.replace_rules.specs.Letters.{IsMarkOf}
use Rattle.replace_rules.proofs.Sets.{accepted_letters}
use Rattle.replace_rules.specs.declared.rules.LangMap.{LangMap}
use Rattle.replace_rules.specs.declared.rules.LangContext.{LangContext}
use Rattle.replace_rules.specs.declared.rules.LangGroup.{LangGroup}
use Rattle.replace_rules.specs.Rules.{IsPut, HasCentre, HasMapping, HasContext, Allows, ReplacesBy, AppliesBy, IsMapOver, AreMapsOver}
use Rattle.replace_rules.specs.Places.{Place, choices, place_with, places_in, places_of, HasPlain, HasMarkup, LeftPart, RightPart, rules_by}

-- the places of groups are those of each
pub place_group : (groups : List LangGroup) (p : Place) → Contains (places_of groups) p → (g : LangGroup) × Contains groups g × Contains (places_in g) p
place_group [] p h = absurd (Contains-nil_cases p h)
place_group (g ∷ groups) p h = elim (Contains-append_cases (places_in g) (places_of groups) p h) as (λ _. (f : LangGroup) × Contains (g ∷ groups) f × Contains (places_in f) p) [
  | inl here ↦ (g, Contains-head g groups, here)
  | inr later ↦ let r = place_group groups p later in (r.0, Contains-tail g groups r.0 r.1, r.2)
]

group_place : (groups : List LangGroup) (g : LangGroup) (p : Place) → Contains groups g → Contains (places_in g) p → Contains (places_of groups) p
group_place [] g p among h = absurd (Contains-nil_cases g among)
group_place (f ∷ groups) g p among h = elim (Contains-cons_cases f groups g among) as (λ _. Contains (places_of (f ∷ groups)) p) [
  | inl same ↦ Contains-append_left (places_in f) (places_of groups) p (subst (λ x. Contains (places_in x) p) (sym same) h)
  | inr later ↦ Contains-append_right (places_in f) (places_of groups) p (group_place groups g p later h)
]

-- the mappings of a place are those of its group
pub place_maps : (groups : List LangGroup) (p : Place) → Contains (places_of groups) p → (g : LangGroup) × Contains groups g × (p.maps ≡ g.maps.items)
place_maps groups p h =
    let r = place_group groups p h in
    let t = Contains-map_cases (place_with r.0.maps.items r.0.side) (choices r.0.contexts.items) p r.2 in
    (r.0, r.1, ap (λ (q : Place). q.maps) (sym t.2))

-- one of the contexts holds, or none is asked for
abbrev Chosen : List LangContext → List (Bound Sym) → List (Bound Sym) → Type 0
Chosen contexts before behind = (o : Option LangContext) × Contains (choices contexts) o × LeftPart o (Edge ∷ before) × RightPart o (behind ++ Edge ∷ [])

chosen_there : (contexts : List LangContext) (before behind : List (Bound Sym)) → ((contexts ≡ []) ⊎ HasContext contexts before behind) → Chosen contexts before behind
chosen_there [] before behind h = (None, Contains-head None [], tt, tt)
chosen_there (c ∷ contexts) before behind (inl none) = let e : c ∷ contexts ≡ [] = none in absurd (cc)
chosen_there (c ∷ contexts) before behind (inr (d, among, l, r)) = (Some d, Contains-map Some (c ∷ contexts) d among, l, r)

chosen_back : (contexts : List LangContext) (before behind : List (Bound Sym)) → Chosen contexts before behind → (contexts ≡ []) ⊎ HasContext contexts before behind
chosen_back [] before behind h = inl refl
chosen_back (c ∷ contexts) before behind (o, among, l, r) =
    let t = Contains-map_cases Some (c ∷ contexts) o among in
    inr (t.0, t.1, subst (λ x. LeftPart x (Edge ∷ before)) (sym t.2) l, subst (λ x. RightPart x (behind ++ Edge ∷ [])) (sym t.2) r)

allowed_place : (groups : List LangGroup) (g : LangGroup) (before behind : List (Piece Sym)) → Contains groups g → Allows g before behind → (p : Place) × Contains (places_of groups) p × (p.maps ≡ g.maps.items) × HoldsBetween rules_by p before behind
allowed_place groups g before behind among h =
    let c = chosen_there g.contexts.items (inner (read_before g.side before)) (inner (read_behind g.side behind)) h in
    (place_with g.maps.items g.side c.0, group_place groups g (place_with g.maps.items g.side c.0) among (Contains-map (place_with g.maps.items g.side) (choices g.contexts.items) c.0 c.1), refl, (c.2, c.3))

place_allowed : (groups : List LangGroup) (p : Place) (before behind : List (Piece Sym)) → Contains (places_of groups) p → HoldsBetween rules_by p before behind → (g : LangGroup) × Contains groups g × (p.maps ≡ g.maps.items) × Allows g before behind
place_allowed groups p before behind among h =
    let r = place_group groups p among in
    let g = r.0 in
    let t = Contains-map_cases (place_with g.maps.items g.side) (choices g.contexts.items) p r.2 in
    let held : HoldsBetween rules_by (place_with g.maps.items g.side t.0) before behind = subst (λ q. HoldsBetween rules_by q before behind) (sym t.2) h in
    (g, r.1, ap (λ (q : Place). q.maps) (sym t.2), chosen_back g.contexts.items (inner (read_before g.side before)) (inner (read_behind g.side behind)) (t.0, t.1, held.0, held.1))

-- mappings put in the place of a centre what places make of it
abbrev Made : List LangMap → List Sym → List Sym → Type 0
Made maps c r = HasPlain maps c r ⊎ ((b : List Sym) × (a : List Sym) × (r ≡ b ++ (c ++ a)) × HasMarkup maps b c a)

made_there : (maps : List LangMap) (c r : List Sym) → HasMapping maps c r → Made maps c r
made_there maps c r (m, among, is, put) = go m.after refl put
  where
    go : (o : Option (Complete Sym)) → m.after ≡ o → IsPut m.result o c r → Made maps c r
    go None none is_put = inl (m, among, none, is, is_put)
    go (Some d) some (b, a, e, pb, pa) = inr (b, a, e, (m, among, d, some, is, pb, pa))

made_back : (maps : List LangMap) (c r : List Sym) → Made maps c r → HasMapping maps c r
made_back maps c r (inl (m, among, none, is, put)) = (m, among, is, subst (λ o. IsPut m.result o c r) (sym none) put)
made_back maps c r (inr (b, a, e, (m, among, d, some, is, pb, pa))) = (m, among, is, subst (λ o. IsPut m.result o c r) (sym some) (b, a, e, pb, pa))

replaces_there : (groups : List LangGroup) (before : List (Piece Sym)) (c r : List Sym) (behind : List (Piece Sym)) → ReplacesBy groups before c r behind → ReplacesAt rules_by (places_of groups) before c r behind
replaces_there groups before c r behind (g, among, does, allows) =
    let p = allowed_place groups g before behind among allows in
    (p.0, p.1, made_there p.0.maps c r (subst (λ ms. HasMapping ms c r) (sym p.2) does), p.3)

replaces_back : (groups : List LangGroup) (before : List (Piece Sym)) (c r : List Sym) (behind : List (Piece Sym)) → ReplacesAt rules_by (places_of groups) before c r behind → ReplacesBy groups before c r behind
replaces_back groups before c r behind (p, among, does, holds) =
    let g = place_allowed groups p before behind among holds in
    (g.0, g.1, subst (λ ms. HasMapping ms c r) g.2 (made_back p.maps c r does), g.3)

applies_there : (groups : List LangGroup) (before : List (Piece Sym)) (c : List Sym) (behind : List (Piece Sym)) → AppliesBy groups before c behind → AppliesAt rules_by (places_of groups) before c behind
applies_there groups before c behind (g, among, has, allows) =
    let p = allowed_place groups g before behind among allows in
    (p.0, p.1, subst (λ ms. HasCentre ms c) (sym p.2) has, p.3)

applies_back : (groups : List LangGroup) (before : List (Piece Sym)) (c : List Sym) (behind : List (Piece Sym)) → AppliesAt rules_by (places_of groups) before c behind → AppliesBy groups before c behind
applies_back groups before c behind (p, among, has, holds) =
    let g = place_allowed groups p before behind among holds in
    (g.0, g.1, subst (λ ms. HasCentre ms c) g.2 has, g.3)

-- the same replacements make the same rewritings
module _ (symbols : List Sym) (R R' : List (Piece Sym) → List Sym → List Sym → List (Piece Sym) → Type 0) (A A' : List (Piece Sym) → List Sym → List (Piece Sym) → Type 0)
    (more : (before : List (Piece Sym)) (c r : List Sym) (behind : List (Piece Sym)) → R before c r behind → R' before c r behind)
    (less : (before : List (Piece Sym)) (c : List Sym) (behind : List (Piece Sym)) → A' before c behind → A before c behind) where
  piece_more : (before : List (Piece Sym)) (q : Piece Sym) (behind : List (Piece Sym)) → IsPiece symbols R A before q behind → IsPiece symbols R' A' before q behind
  piece_more before (copied s) behind h = h
  piece_more before (replaced c r) behind h = more before c r behind h

  pub rewritten_more : (optional : Bool) (u w : List Sym) → IsRewritten symbols R A optional u w → IsRewritten symbols R' A' optional u w
  rewritten_more optional u w (pieces, (each, once), obliged, up, low) =
      (pieces, (λ before q behind is. piece_more before q behind (each before q behind is), once), λ must before c behind is applies. obliged must before c behind is (less before c behind applies), up, low)

pub rewritten_places : (symbols : List Sym) (groups : List LangGroup) (optional : Bool) (u w : List Sym) → IsRewritten symbols (ReplacesBy groups) (AppliesBy groups) optional u w ↔ IsRewrittenAt rules_by (places_of groups) symbols optional u w
rewritten_places symbols groups optional u w = (
  rewritten_more symbols (ReplacesBy groups) (ReplacesAt rules_by (places_of groups)) (AppliesBy groups) (AppliesAt rules_by (places_of groups)) (replaces_there groups) (applies_back groups) optional u w,
  rewritten_more symbols (ReplacesAt rules_by (places_of groups)) (ReplacesBy groups) (AppliesAt rules_by (places_of groups)) (AppliesBy groups) (replaces_back groups) (applies_there groups) optional u w,
)

-- no centre is empty
pub no_empty_centres : (symbols : List Sym) (groups : List LangGroup) → AreMapsOver symbols groups → (p : Place) → Contains (places_of groups) p → HasNoEmptyCentre rules_by p
no_empty_centres symbols groups over p among = record {
  centre = λ h. not_empty h.0 h.1 h.2;
  replaces = λ r h. not_empty h.0 h.1 h.3;
  surrounds = λ b a h. not_empty h.0 h.1 h.4;
}
  where
    not_empty : (m : LangMap) → Contains p.maps m → Accepts m.centre [] → ⊥
    not_empty m there h = let g = place_maps groups p among in (over g.0 g.1 m (subst (λ ms. Contains ms m) g.2 there)).no_empty h

-- words of a language whose letters are among some symbols are over these
accepted_symbols : (symbols : List Sym) (d : Complete Sym) (w : List Sym) → IsOver symbols d.letters → Accepts d w → IsOver symbols w
accepted_symbols symbols d w over h = All-weaker (Contains d.letters) (Contains symbols) (λ s among. All-contains (Contains symbols) d.letters s over among) w (accepted_letters d h)

module _ (symbols : List Sym) (groups : List LangGroup) (over : AreMapsOver symbols groups) where
  abbrev Of : Bound Mark → Type 0
  Of m = IsMarkOf symbols (length (places_of groups)) m

  map_over : (p : Place) → Contains (places_of groups) p → (m : LangMap) → Contains p.maps m → IsMapOver symbols m
  map_over p among m there = let g = place_maps groups p among in over g.0 g.1 m (subst (λ ms. Contains ms m) g.2 there)

  bracket_over : (k : ℕ) (b : List (Bound Mark)) → k < length (places_of groups) → All Of b → All Of (bracket k b)
  bracket_over k b l all = All-cons Of (Inner (Open k)) (b ++ Inner (Close k) ∷ []) l (All-append Of b (Inner (Close k) ∷ []) all (All-cons Of (Inner (Close k)) [] l (All-nil Of)))

  ups_over : (w : List Sym) → IsOver symbols w → All Of (ups w)
  ups_over w h = All-map Of (λ s. Inner (Up s)) w h

  lows_over : (w : List Sym) → IsOver symbols w → All Of (lows w)
  lows_over w h = All-map Of (λ s. Inner (Low s)) w h

  sames_over : (w : List Sym) → IsOver symbols w → All Of (sames w)
  sames_over w h = All-map Of (λ s. Inner (Same s)) w h

  replacement_over : (k : ℕ) (p : Place) (v : List (Bound Mark)) → slice_get (places_of groups) k ≡ Some p → IsReplacement rules_by k p v → All Of v
  replacement_over k p v at (inl (c, r, e, (m, there, none, pc, pr))) =
      let is = map_over p (Contains-from_slice_get (places_of groups) k p at) m there in
      subst (All Of) (sym e) (bracket_over k (ups c ++ lows r) (slice_get_within (places_of groups) k p at)
      (All-append Of (ups c) (lows r) (ups_over c (accepted_symbols symbols m.centre c is.centre pc)) (lows_over r (accepted_symbols symbols m.result r is.result pr))))
  replacement_over k p v at (inr (b, c, a, e, (m, there, d, some, pc, pb, pa))) =
      let is = map_over p (Contains-from_slice_get (places_of groups) k p at) m there in
      subst (All Of) (sym e) (bracket_over k (lows b ++ sames c ++ lows a) (slice_get_within (places_of groups) k p at)
      (All-append Of (lows b ++ sames c) (lows a) (All-append Of (lows b) (sames c) (lows_over b (accepted_symbols symbols m.result b is.result pb)) (sames_over c (accepted_symbols symbols m.centre c is.centre pc)))
      (lows_over a (accepted_symbols symbols d a (is.after d some) pa))))

  block_over : (v : List (Bound Mark)) → IsBlock rules_by symbols (places_of groups) v → All Of v
  block_over v (inl (s, e, among)) = subst (All Of) (sym e) (All-cons Of (Inner (Copy s)) [] among (All-nil Of))
  block_over v (inr (k, (p, at, is))) = replacement_over k p v at is

  blocks_over : (vs : List (List (Bound Mark))) → All (IsBlock rules_by symbols (places_of groups)) vs → All Of (flat_map (λ v. v) vs)
  blocks_over [] h = All-nil Of
  blocks_over (v ∷ vs) h =
      All-append Of v (flat_map (λ v. v) vs) (block_over v (All-head (IsBlock rules_by symbols (places_of groups)) v vs h)) (blocks_over vs (All-tail (IsBlock rules_by symbols (places_of groups)) v vs h))

  pub well_over : (z : List (Bound Mark)) → IsWellMarked rules_by symbols (places_of groups) z → All Of z
  well_over z (vs, e, all) = subst (All Of) (sym e) (All-cons Of Edge (flat_map (λ v. v) vs ++ Edge ∷ []) tt (All-append Of (flat_map (λ v. v) vs) (Edge ∷ []) (blocks_over vs all) (All-cons Of Edge [] tt (All-nil Of))))
