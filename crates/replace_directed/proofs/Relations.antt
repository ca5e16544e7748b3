-- The words of marks that keep a directed rule relate what it does.
use Rattle.std.proofs.Common.{◌≡◌, ◌↔◌, ℕ, ◌<◌, ◌==◌, Bool, true, false, List, [], ◌∷◌, ◌++◌, Option, Some, None, length, refl, sym, ap, subst, ◌∙◌, inl, inr, arith, append-nil}
use Rattle.std.specs.Prelude.{All}
use Rattle.std.specs.List.{Contains, slice_get, flat_map, filter_map}
use Rattle.std.proofs.lemmas.Bool.Decides.{Decides-eqb}
use Rattle.std.proofs.lemmas.Option.{slice_get_within, slice_get_cases}
use Rattle.std.proofs.lemmas.List.Elements.{All-nil, All-cons, All-append, All-head, All-tail, All-map, All-weaker, All-contains}
use Rattle.fsm_base.specs.declared.letters.Sym.{Sym}
use Rattle.fsm_base.specs.declared.letters.Bound.{Bound}
use Rattle.fsm_base.specs.declared.letters.Bound.TheVariants.{Edge, Inner}
use Rattle.word_relations.specs.Words.{IsOver}
use Rattle.word_relations.specs.Relations.{AreSame}
use Rattle.word_relations.proofs.Members.{Contains-head}
use Rattle.fsa.specs.Automaton.{Automaton}
use Rattle.fsa.specs.Language as language
use Rattle.fsa.specs.Complete.{Complete, Accepts}
use Rattle.lang_algebra.specs.Languages.{IsLang}
use Rattle.expr_meaning.specs.Operators.{inner, HasPrefix, HasSuffix}
use Rattle.expr_meaning.specs.Replacement.{uppers}
use Rattle.replace_words.specs.declared.marks.Mark.{Mark}
use Rattle.replace_words.specs.declared.marks.Mark.TheVariants.{Copy, Up, Low, Same, Open, Close}
use Rattle.replace_words.specs.Places.{HasNoEmptyCentre, Makes, ReplacesAt}
use Rattle.replace_words.specs.Marked.{upper_of, lower_of, symbol_of, bracket, ups, lows, sames, IsReplacement, IsBlock}
use Rattle.replace_rules.specs.declared.rules.LangMap.{LangMap}
use Rattle.replace_rules.specs.declared.rules.LangContext.{LangContext}
use Rattle.replace_rules.specs.Letters.{IsMarkOf}
use Rattle.replace_rules.specs.Places.{IsBody, IsBodyOf}
use Rattle.replace_rules.specs.Rules.{HasMapping, HasContext, IsPut}
use Rattle.replace_rules.proofs.Sets.{accepted_letters}
use Rattle.regex_ast.specs.declared.expr.Way.{Way}
use Rattle.directed_words.specs.declared.ways.Length.{Length}
use Rattle.directed_words.specs.declared.ways.Length.TheVariants.{Longest, Shortest}
use Rattle.expr_meaning.specs.Directed.{IsDirectedBy}
use Rattle.directed_words.specs.Laws.{MatchesAt, from_left}
use Rattle.directed_words.specs.Marked.{BarsOthers, IsMarkedFromLeft}
use Rattle.directed_words.proofs.Directions.{directed_are_marked}
use Rattle.expr_meaning.proofs.Directed.{same_directed}
use Rattle.replace_directed.specs.Directed.{HoldsIn, IsMatch, ReplacesIn, AreOver}
use Rattle.replace_directed.specs.Marked.{directing, LeftAt, RightAt, IsCentre, IsOther, NoneOther, IsKeptBy, IsBlockOf, AreBlocksOf, HoldsEverywhere}

module _ (symbols : List Sym) (maps : List LangMap) (contexts : List LangContext) where
  -- a number below that of the contexts is that of one
  context_at : (k : ℕ) → k < length contexts → (p : LangContext) × (slice_get contexts k ≡ Some p)
  context_at k l = elim (slice_get_cases contexts k).1 as (λ _. (p : LangContext) × (slice_get contexts k ≡ Some p)) [
    | inl there ↦ (there.0, there.2)
    | inr past ↦ let more = past.0 in absurd (omega (arith, l, more))
  ]

  replacement_there : (k : ℕ) (p : LangContext) (v b : List (Bound Mark)) → v ≡ bracket k b → (m : LangMap) → Contains maps m → (o : Option (Complete Sym)) → m.after ≡ o → IsBodyOf m.centre m.result o b → IsReplacement (directing maps) k p v
  replacement_there k p v b e m among None is (c, r, eb, pc, pr) = inl (c, r, e ∙ ap (bracket k) eb, (m, among, is, pc, pr))
  replacement_there k p v b e m among (Some d) is (f, c, a, eb, pc, pf, pa) = inr (f, c, a, e ∙ ap (bracket k) eb, (m, among, d, is, pc, pf, pa))

  replacement_back : (k : ℕ) (p : LangContext) (v : List (Bound Mark)) → IsReplacement (directing maps) k p v → (b : List (Bound Mark)) × (v ≡ bracket k b) × IsBody maps b
  replacement_back k p v (inl (c, r, e, (m, among, is, pc, pr))) = (ups c ++ lows r, e, (m, among, subst (λ o. IsBodyOf m.centre m.result o (ups c ++ lows r)) (sym is) (c, r, refl, pc, pr)))
  replacement_back k p v (inr (f, c, a, e, (m, among, d, is, pc, pf, pa))) = (lows f ++ sames c ++ lows a, e, (m, among, subst (λ o. IsBodyOf m.centre m.result o (lows f ++ sames c ++ lows a)) (sym is) (f, c, a, refl, pc, pf, pa)))

  -- blocks are the same
  block_there : (v : List (Bound Mark)) → IsBlockOf symbols maps (length contexts) v → IsBlock (directing maps) symbols contexts v
  block_there v (inl copy) = inl copy
  block_there v (inr (k, l, (b, e, (m, among, body)))) =
      let p = context_at k l in
      inr (k, (p.0, p.1, replacement_there k p.0 v b e m among m.after refl body))

  block_back : (v : List (Bound Mark)) → IsBlock (directing maps) symbols contexts v → IsBlockOf symbols maps (length contexts) v
  block_back v (inl copy) = inl copy
  block_back v (inr (k, (p, at, replaced))) = inr (k, slice_get_within contexts k p at, replacement_back k p v replaced)

  -- what is asked is the same
  others_there : (size : Length) (p : LangContext) (w : List (Bound Mark)) → NoneOther size (LeftAt p) (λ m. IsCentre maps m × IsOther size m) (RightAt p) w → BarsOthers (directing maps) size p w
  others_there Longest p w h = h
  others_there Shortest p w h = h

  others_back : (size : Length) (p : LangContext) (w : List (Bound Mark)) → BarsOthers (directing maps) size p w → NoneOther size (LeftAt p) (λ m. IsCentre maps m × IsOther size m) (RightAt p) w
  others_back Longest p w h = h
  others_back Shortest p w h = h

  abbrev AreKept : Length → List (Bound Mark) → Type 0
  AreKept size w = (k : ℕ) (p : LangContext) → slice_get contexts k ≡ Some p → IsKeptBy maps size k p w

  marked_there : (size : Length) (w : List (Bound Mark)) → AreBlocksOf symbols maps (length contexts) w → AreKept size w → IsMarkedFromLeft (directing maps) symbols contexts size w
  marked_there size w (vs, e, all) kept = (
    ((vs, e, All-weaker (IsBlockOf symbols maps (length contexts)) (IsBlock (directing maps) symbols contexts) block_there vs all), λ k p at. let h = kept k p at in record { left = h.0.0; right = h.0.1; centre = λ is. absurd (let clash : true ≡ false = is in cc) }),
    λ k p at. let h = kept k p at in (h.1, others_there size p w h.2),
  )

  pub marked_back : (size : Length) (w : List (Bound Mark)) → IsMarkedFromLeft (directing maps) symbols contexts size w → AreBlocksOf symbols maps (length contexts) w × AreKept size w
  marked_back size w (((vs, e, all), kept), barred) = (
    (vs, e, All-weaker (IsBlock (directing maps) symbols contexts) (IsBlockOf symbols maps (length contexts)) block_back vs all),
    λ k p at. let h = kept k p at in let b = barred k p at in ((h.left, h.right), b.0, others_back size p w b.1),
  )

  -- the words that keep what the rule asks, where all marks are those of some symbols
  pub marked_language : (marks : List (Bound Mark)) (size : Length) (well : Automaton (Bound Mark)) (words : Complete (Bound Mark)) → ((x : Bound Mark) → Contains marks x ↔ IsMarkOf symbols (length contexts) x)
      → ((w : List (Bound Mark)) → language.Accepts well w ↔ AreBlocksOf symbols maps (length contexts) w) → IsLang marks (λ w. (IsOver marks w × language.Accepts well w) × AreKept size w) words
      → (w : List (Bound Mark)) → Accepts words w ↔ (All (IsMarkOf symbols (length contexts)) w × IsMarkedFromLeft (directing maps) symbols contexts size w)
  marked_language marks size well words marks_are well_is words_are w = (
    λ h.
        let r = (words_are.words w).0 h in
        (All-weaker (Contains marks) (IsMarkOf symbols (length contexts)) (λ x. (marks_are x).0) w r.0.0, marked_there size w ((well_is w).0 r.0.1) r.1),
    λ (all, marked).
        let (blocks, kept) = marked_back size w marked in
        (words_are.words w).1 ((All-weaker (IsMarkOf symbols (length contexts)) (Contains marks) (λ x. (marks_are x).1) w all, (well_is w).1 blocks), kept),
  )

  module _ (over : AreOver symbols maps) where
    -- the mappings replace no empty word
    pub no_empty : (p : LangContext) → Contains contexts p → HasNoEmptyCentre (directing maps) p
    no_empty p among = record {
      centre = λ h. (over h.0 h.1).no_empty h.2;
      replaces = λ result h. (over h.0 h.1).no_empty h.3;
      surrounds = λ before after h. (over h.0 h.1).no_empty h.4;
    }

    -- the words are over the marks of the symbols and contexts
    abbrev Of : Bound Mark → Type 0
    Of m = IsMarkOf symbols (length contexts) m

    word_over : (lang : Complete Sym) → IsOver symbols lang.letters → (r : List Sym) → Accepts lang r → IsOver symbols r
    word_over lang letters r h = All-weaker (Contains lang.letters) (Contains symbols) (λ s among. All-contains (Contains symbols) lang.letters s letters among) r (accepted_letters lang h)

    body_over : (m : LangMap) → Contains maps m → (o : Option (Complete Sym)) → m.after ≡ o → (b : List (Bound Mark)) → IsBodyOf m.centre m.result o b → All Of b
    body_over m among None is b (c, r, e, pc, pr) =
        let t = over m among in
        subst (All Of) (sym e) (All-append Of (ups c) (lows r) (All-map Of (λ s. Inner (Up s)) c (word_over m.centre t.centre c pc)) (All-map Of (λ s. Inner (Low s)) r (word_over m.result t.result r pr)))
    body_over m among (Some d) is b (f, c, a, e, pc, pf, pa) =
        let t = over m among in
        subst (All Of) (sym e)
        (All-append Of (lows f ++ sames c) (lows a) (All-append Of (lows f) (sames c) (All-map Of (λ s. Inner (Low s)) f (word_over m.result t.result f pf)) (All-map Of (λ s. Inner (Same s)) c (word_over m.centre t.centre c pc))) (All-map Of (λ s. Inner (Low s)) a (word_over d (t.after d is) a pa)))

    block_over : (v : List (Bound Mark)) → IsBlockOf symbols maps (length contexts) v → All Of v
    block_over v (inl (s, e, among)) = subst (All Of) (sym e) (All-cons Of (Inner (Copy s)) [] among (All-nil Of))
    block_over v (inr (k, l, (b, e, (m, among, body)))) =
        subst (All Of) (sym e) (All-cons Of (Inner (Open k)) (b ++ Inner (Close k) ∷ []) l (All-append Of b (Inner (Close k) ∷ []) (body_over m among m.after refl b body) (All-cons Of (Inner (Close k)) [] l (All-nil Of))))

    blocks_over : (vs : List (List (Bound Mark))) → All (IsBlockOf symbols maps (length contexts)) vs → All Of (flat_map (λ v. v) vs)
    blocks_over [] h = All-nil Of
    blocks_over (v ∷ vs) h =
        All-append Of v (flat_map (λ v. v) vs) (block_over v (All-head (IsBlockOf symbols maps (length contexts)) v vs h)) (blocks_over vs (All-tail (IsBlockOf symbols maps (length contexts)) v vs h))

    pub well_over : (w : List (Bound Mark)) → AreBlocksOf symbols maps (length contexts) w → All Of w
    well_over w (vs, e, all) = subst (All Of) (sym e) (All-cons Of Edge (flat_map (λ v. v) vs ++ Edge ∷ []) tt (All-append Of (flat_map (λ v. v) vs) (Edge ∷ []) (blocks_over vs all) (All-cons Of Edge [] tt (All-nil Of))))

-- what places make is what mappings do
makes_there : (maps : List LangMap) (p : LangContext) (c put : List Sym) → HasMapping maps c put → Makes (directing maps) p c put
makes_there maps p c put (m, among, has, puts) = go m.after refl puts
  where
    go : (o : Option (Complete Sym)) → m.after ≡ o → IsPut m.result o c put → Makes (directing maps) p c put
    go None is h = inl (m, among, is, has, h)
    go (Some d) is (b, f, whole, before, behind) = inr (b, f, whole, (m, among, d, is, has, before, behind))

makes_back : (maps : List LangMap) (p : LangContext) (c put : List Sym) → Makes (directing maps) p c put → HasMapping maps c put
makes_back maps p c put (inl (m, among, is, has, h)) = (m, among, has, subst (λ o. IsPut m.result o c put) (sym is) h)
makes_back maps p c put (inr (b, f, whole, (m, among, d, is, has, before, behind))) = (m, among, has, subst (λ o. IsPut m.result o c put) (sym is) (b, f, whole, before, behind))

-- places that hold where the contexts do make the same rule
module _ (symbols : List Sym) (maps : List LangMap) (contexts places : List LangContext) (there : (x z : List Sym) → HoldsIn contexts x z → HasContext places (inner x) (inner z)) (back : (x z : List Sym) → HasContext places (inner x) (inner z) → HoldsIn contexts x z) where
  same_places : (way : Way) → AreSame (IsDirectedBy (MatchesAt (directing maps) places) symbols (ReplacesAt (directing maps) places) way) (IsDirectedBy (IsMatch maps contexts) symbols (ReplacesIn maps contexts) way)
  same_places = same_directed symbols (MatchesAt (directing maps) places) (IsMatch maps contexts) (ReplacesAt (directing maps) places) (ReplacesIn maps contexts)
      (λ before c r behind. (
        λ h. (makes_back maps h.0 c r h.2, back (uppers before) (uppers behind) (h.0, h.1, h.3.0, h.3.1)),
        λ h. let p = there (uppers before) (uppers behind) h.1 in (p.0, p.1, makes_there maps p.0 c r h.0, (p.2, p.3)),
      ))
      (λ x c z. (
        λ h. (h.2, back x z (h.0, h.1, h.3, h.4)),
        λ h. let p = there x z h.1 in (p.0, p.1, h.0, p.2, p.3),
      ))

-- where there are contexts, these are the places
pub by_contexts : (symbols : List Sym) (maps : List LangMap) (contexts : List LangContext) → (contexts ≡ [] → ⊥) → (way : Way) → AreSame (IsDirectedBy (MatchesAt (directing maps) contexts) symbols (ReplacesAt (directing maps) contexts) way) (IsDirectedBy (IsMatch maps contexts) symbols (ReplacesIn maps contexts) way)
by_contexts symbols maps contexts some = same_places symbols maps contexts contexts (λ x z h. elim h as (λ _. HasContext contexts (inner x) (inner z)) [ inl none ↦ absurd (some none) | inr holds ↦ holds ]) (λ x z h. inr h)

-- and else one that holds everywhere
pub by_everywhere : (symbols : List Sym) (maps : List LangMap) (contexts places : List LangContext) (p : LangContext) → contexts ≡ [] → places ≡ p ∷ [] → HoldsEverywhere p
    → (way : Way) → AreSame (IsDirectedBy (MatchesAt (directing maps) places) symbols (ReplacesAt (directing maps) places) way) (IsDirectedBy (IsMatch maps contexts) symbols (ReplacesIn maps contexts) way)
by_everywhere symbols maps contexts places p none one everywhere = same_places symbols maps contexts places (λ x z h. (p, subst (λ ps. Contains ps p) (sym one) (Contains-head p []), left _, right _)) (λ x z h. inl none)
  where
    left : (x : List (Bound Sym)) → HasSuffix (Accepts p.left) x
    left x = (x, [], sym (append-nil x), everywhere.left)

    right : (z : List (Bound Sym)) → HasPrefix (Accepts p.right) z
    right z = ([], z, refl, everywhere.right)

-- whether there are contexts
pub no_contexts : (contexts : List LangContext) (b : Bool) → b ≡ (length contexts == 0) → b ≡ true → contexts ≡ []
no_contexts [] b is empty = refl
no_contexts (c ∷ contexts) b is empty = let none : length (c ∷ contexts) ≡ 0 = (Decides-eqb (length (c ∷ contexts)) 0).0 (sym is ∙ empty) in absurd (omega (arith, none))

pub some_contexts : (contexts : List LangContext) (b : Bool) → b ≡ (length contexts == 0) → b ≡ false → contexts ≡ [] → ⊥
some_contexts contexts b is some none = let clash : false ≡ true = sym some ∙ is ∙ (Decides-eqb (length contexts) 0).1 (ap (λ (cs : List LangContext). length cs) none) in cc
