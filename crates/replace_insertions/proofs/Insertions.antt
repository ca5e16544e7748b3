-- What insertions relate, the two sides of their words of marks are.
use Rattle.std.proofs.Common.{◌≡◌, ◌↔◌, ℕ, ◌<◌, ◌==◌, Bool, true, false, List, [], ◌∷◌, ◌++◌, Some, length, refl, sym, ap, subst, ◌∙◌, inl, inr, arith, append-nil}
use Rattle.std.specs.Prelude.{All}
use Rattle.std.specs.List.{Contains, slice_get, filter_map, flat_map}
use Rattle.std.proofs.lemmas.Bool.Decides.{Decides-eqb}
use Rattle.std.proofs.lemmas.Option.{slice_get_within, slice_get_cases}
use Rattle.std.proofs.lemmas.List.Elements.{All-nil, All-cons, All-head, All-tail, All-append, All-map, All-weaker, All-contains}
use Rattle.fsm_base.specs.declared.letters.Sym.{Sym}
use Rattle.fsm_base.specs.declared.letters.Bound.{Bound}
use Rattle.fsm_base.specs.declared.letters.Bound.TheVariants.{Edge, Inner}
use Rattle.regex_ast.specs.declared.expr.Side.{Side}
use Rattle.word_relations.specs.Words.{IsOver}
use Rattle.word_relations.proofs.Members.{Contains-head}
use Rattle.fsa.specs.Automaton.{Automaton}
use Rattle.fsa.specs.Language as language
use Rattle.fsa.specs.Complete.{Complete, Accepts}
use Rattle.lang_algebra.specs.Languages.{IsLang}
use Rattle.expr_meaning.specs.Operators.{HasPrefix, HasSuffix}
use Rattle.expr_meaning.specs.Replacement.{Piece, copied, replaced, IsPiece, IsRewritten}
use Rattle.replace_words.specs.declared.marks.Mark.{Mark}
use Rattle.replace_words.specs.declared.marks.Mark.TheVariants.{Copy, Low, Open, Close}
use Rattle.replace_words.specs.Filled.{InsertsOnly, IsFilledWord}
use Rattle.replace_words.specs.Places.{HoldsBetween, ReplacesAt, AppliesAt, IsRewrittenAt}
use Rattle.replace_words.specs.Marked.{upper_of, lower_of, symbol_of, bracket, ups, lows, IsBlock}
use Rattle.replace_words.proofs.Inserted.{insertions_are_marked}
use Rattle.replace_rules.specs.Letters.{IsMarkOf}
use Rattle.replace_rules.proofs.Sets.{accepted_letters}
use Rattle.replace_rules.specs.declared.rules.LangContext.{LangContext}
use Rattle.replace_insertions.specs.Insertions.{AllowsAt, InsertsBy, AsksBy}
use Rattle.replace_insertions.specs.Marked.{inserting, AreAskedIn, IsBlockOf, AreBlocksOf, HoldsEverywhere}

module _ (symbols : List Sym) (put : Complete Sym) (side : Side) (contexts : List LangContext) where
  -- contexts insert and do nothing else
  inserts : (p : LangContext) → Contains contexts p → InsertsOnly (inserting put side) p
  inserts p among = record { replaces = λ c r h. h.0; surrounds = λ b c a h. h; centre = λ c h. h; any = refl }

  -- a number below that of the contexts is that of one
  context_at : (k : ℕ) → k < length contexts → (p : LangContext) × (slice_get contexts k ≡ Some p)
  context_at k l = elim (slice_get_cases contexts k).1 as (λ _. (p : LangContext) × (slice_get contexts k ≡ Some p)) [
    | inl there ↦ (there.0, there.2)
    | inr past ↦ let more = past.0 in absurd (omega (arith, l, more))
  ]

  -- blocks are the same
  block_there : (v : List (Bound Mark)) → IsBlockOf symbols put (length contexts) v → IsBlock (inserting put side) symbols contexts v
  block_there v (inl copy) = inl copy
  block_there v (inr (k, l, (r, e, pr))) =
      let p = context_at k l in
      inr (k, (p.0, p.1, inl ([], r, e, (refl, pr))))

  block_back : (v : List (Bound Mark)) → IsBlock (inserting put side) symbols contexts v → IsBlockOf symbols put (length contexts) v
  block_back v (inl copy) = inl copy
  block_back v (inr (k, (p, at, inl (c, r, e, (none, pr))))) = inr (k, slice_get_within contexts k p at, (r, e ∙ ap (λ c. bracket k (ups c ++ lows r)) none, pr))
  block_back v (inr (k, (p, at, inr (b, c, a, e, none)))) = absurd none

  -- words that have what insertions ask
  filled_there : (optional : Bool) (w : List (Bound Mark)) → AreBlocksOf symbols put (length contexts) w → AreAskedIn side optional contexts w → IsFilledWord (inserting put side) symbols contexts optional w
  filled_there optional w (vs, e, all) (once, asked) = (
    (vs, e, All-weaker (IsBlockOf symbols put (length contexts)) (IsBlock (inserting put side) symbols contexts) block_there vs all),
    once,
    λ k p at. let h = asked k p at in record { left = h.0.0; right = h.0.1; gap = h.1 },
  )

  filled_back : (optional : Bool) (w : List (Bound Mark)) → IsFilledWord (inserting put side) symbols contexts optional w → AreBlocksOf symbols put (length contexts) w × AreAskedIn side optional contexts w
  filled_back optional w ((vs, e, all), once, filled) = (
    (vs, e, All-weaker (IsBlock (inserting put side) symbols contexts) (IsBlockOf symbols put (length contexts)) block_back vs all),
    (once, λ k p at. let h = filled k p at in ((h.left, h.right), h.gap)),
  )

  -- they are over the marks of the symbols and contexts
  module _ (over : IsOver symbols put.letters) where
    abbrev Of : Bound Mark → Type 0
    Of m = IsMarkOf symbols (length contexts) m

    put_over : (r : List Sym) → Accepts put r → IsOver symbols r
    put_over r h = All-weaker (Contains put.letters) (Contains symbols) (λ s among. All-contains (Contains symbols) put.letters s over among) r (accepted_letters put h)

    block_over : (v : List (Bound Mark)) → IsBlockOf symbols put (length contexts) v → All Of v
    block_over v (inl (s, e, among)) = subst (All Of) (sym e) (All-cons Of (Inner (Copy s)) [] among (All-nil Of))
    block_over v (inr (k, l, (r, e, pr))) =
        subst (All Of) (sym e)
        (All-cons Of (Inner (Open k)) (lows r ++ Inner (Close k) ∷ []) l (All-append Of (lows r) (Inner (Close k) ∷ []) (All-map Of (λ s. Inner (Low s)) r (put_over r pr)) (All-cons Of (Inner (Close k)) [] l (All-nil Of))))

    blocks_over : (vs : List (List (Bound Mark))) → All (IsBlockOf symbols put (length contexts)) vs → All Of (flat_map (λ v. v) vs)
    blocks_over [] h = All-nil Of
    blocks_over (v ∷ vs) h =
        All-append Of v (flat_map (λ v. v) vs) (block_over v (All-head (IsBlockOf symbols put (length contexts)) v vs h)) (blocks_over vs (All-tail (IsBlockOf symbols put (length contexts)) v vs h))

    well_over : (w : List (Bound Mark)) → AreBlocksOf symbols put (length contexts) w → All Of w
    well_over w (vs, e, all) = subst (All Of) (sym e) (All-cons Of Edge (flat_map (λ v. v) vs ++ Edge ∷ []) tt (All-append Of (flat_map (λ v. v) vs) (Edge ∷ []) (blocks_over vs all) (All-cons Of Edge [] tt (All-nil Of))))

    -- the words that have what the insertion asks relate what it does
    pub inserted_relation : (marks : List (Bound Mark)) (optional : Bool) (well : Automaton (Bound Mark)) (words : Complete (Bound Mark)) → ((x : Bound Mark) → Contains marks x ↔ Of x) → ((w : List (Bound Mark)) → language.Accepts well w ↔ AreBlocksOf symbols put (length contexts) w)
        → IsLang marks (λ w. (IsOver marks w × language.Accepts well w) × AreAskedIn side optional contexts w) words
        → (u w : List Sym) → ((z : List (Bound Mark)) × Accepts words z × (filter_map (symbol_of upper_of) z ≡ u) × (filter_map (symbol_of lower_of) z ≡ w)) ↔ IsRewrittenAt (inserting put side) contexts symbols optional u w
    inserted_relation marks optional well words marks_are well_is words_are u w = (
      λ (z, h, up, low).
          let r = (words_are.words z).0 h in
          (insertions_are_marked LangContext (inserting put side) contexts symbols optional u w inserts).1 (z, filled_there optional z ((well_is z).0 r.0.1) r.1, up, low),
      λ h.
          let (z, filled, up, low) = (insertions_are_marked LangContext (inserting put side) contexts symbols optional u w inserts).0 h in
          let (blocks, asked) = filled_back optional z filled in
          let all : IsOver marks z = All-weaker Of (Contains marks) (λ x. (marks_are x).1) z (well_over z blocks) in
          (z, (words_are.words z).1 ((all, (well_is z).1 blocks), asked), up, low),
    )

-- the same replacements make the same rewritings
module _ (symbols : List Sym) (R R' : List (Piece Sym) → List Sym → List Sym → List (Piece Sym) → Type 0) (A A' : List (Piece Sym) → List Sym → List (Piece Sym) → Type 0)
    (more : (before : List (Piece Sym)) (c r : List Sym) (behind : List (Piece Sym)) → R before c r behind → R' before c r behind)
    (less : (before : List (Piece Sym)) (c : List Sym) (behind : List (Piece Sym)) → A' before c behind → A before c behind) where
  piece_more : (before : List (Piece Sym)) (q : Piece Sym) (behind : List (Piece Sym)) → IsPiece symbols R A before q behind → IsPiece symbols R' A' before q behind
  piece_more before (copied s) behind h = h
  piece_more before (replaced c r) behind h = more before c r behind h

  rewritten_more : (optional : Bool) (u w : List Sym) → IsRewritten symbols R A optional u w → IsRewritten symbols R' A' optional u w
  rewritten_more optional u w (pieces, (each, once), obliged, up, low) =
      (pieces, (λ before q behind is. piece_more before q behind (each before q behind is), once), λ must before c behind is applies. obliged must before c behind is (less before c behind applies), up, low)

-- places that hold where the contexts do insert what the contexts ask for
module _ (symbols : List Sym) (put : Complete Sym) (side : Side) (contexts places : List LangContext)
    (there : (before behind : List (Piece Sym)) → AllowsAt side contexts before behind → (p : LangContext) × Contains places p × HoldsBetween (inserting put side) p before behind)
    (back : (before behind : List (Piece Sym)) (p : LangContext) → Contains places p → HoldsBetween (inserting put side) p before behind → AllowsAt side contexts before behind) where
  inserts_there : (before : List (Piece Sym)) (c r : List Sym) (behind : List (Piece Sym)) → InsertsBy put side contexts before c r behind → ReplacesAt (inserting put side) places before c r behind
  inserts_there before c r behind (none, words, allows) = let p = there before behind allows in (p.0, p.1, inl (none, words), p.2)

  inserts_back : (before : List (Piece Sym)) (c r : List Sym) (behind : List (Piece Sym)) → ReplacesAt (inserting put side) places before c r behind → InsertsBy put side contexts before c r behind
  inserts_back before c r behind (p, among, inl (none, words), holds) = (none, words, back before behind p among holds)
  inserts_back before c r behind (p, among, inr (b, a, whole, never), holds) = absurd never

  asks_there : (before : List (Piece Sym)) (c : List Sym) (behind : List (Piece Sym)) → AsksBy side contexts before c behind → AppliesAt (inserting put side) places before c behind
  asks_there before c behind (none, allows) = let p = there before behind allows in (p.0, p.1, none, p.2)

  asks_back : (before : List (Piece Sym)) (c : List Sym) (behind : List (Piece Sym)) → AppliesAt (inserting put side) places before c behind → AsksBy side contexts before c behind
  asks_back before c behind (p, among, none, holds) = (none, back before behind p among holds)

  same_insertions : (optional : Bool) (u w : List Sym) → IsRewrittenAt (inserting put side) places symbols optional u w ↔ IsRewritten symbols (InsertsBy put side contexts) (AsksBy side contexts) optional u w
  same_insertions optional u w = (
    rewritten_more symbols (ReplacesAt (inserting put side) places) (InsertsBy put side contexts) (AppliesAt (inserting put side) places) (AsksBy side contexts) inserts_back asks_there optional u w,
    rewritten_more symbols (InsertsBy put side contexts) (ReplacesAt (inserting put side) places) (AsksBy side contexts) (AppliesAt (inserting put side) places) inserts_there asks_back optional u w,
  )

-- where there are contexts, these are the places
pub by_contexts : (symbols : List Sym) (put : Complete Sym) (side : Side) (contexts : List LangContext) → (contexts ≡ [] → ⊥) → (optional : Bool) (u w : List Sym) → IsRewrittenAt (inserting put side) contexts symbols optional u w ↔ IsRewritten symbols (InsertsBy put side contexts) (AsksBy side contexts) optional u w
by_contexts symbols put side contexts some = same_insertions symbols put side contexts contexts
    (λ before behind allows. elim allows as (λ _. (p : LangContext) × Contains contexts p × HoldsBetween (inserting put side) p before behind) [ inl none ↦ absurd (some none) | inr h ↦ (h.0, h.1, (h.2, h.3)) ])
    (λ before behind p among h. inr (p, among, h.0, h.1))

-- and else one that holds everywhere
pub by_everywhere : (symbols : List Sym) (put : Complete Sym) (side : Side) (contexts places : List LangContext) (p : LangContext) → contexts ≡ [] → places ≡ p ∷ [] → HoldsEverywhere p → (optional : Bool) (u w : List Sym) → IsRewrittenAt (inserting put side) places symbols optional u w ↔ IsRewritten symbols (InsertsBy put side contexts) (AsksBy side contexts) optional u w
by_everywhere symbols put side contexts places p none one everywhere = same_insertions symbols put side contexts places
    (λ before behind allows. (p, subst (λ ps. Contains ps p) (sym one) (Contains-head p []), (left _, right _)))
    (λ before behind q among h. inl none)
  where
    left : (x : List (Bound Sym)) → HasSuffix (Accepts p.left) x
    left x = (x, [], sym (append-nil x), everywhere.left)

    right : (z : List (Bound Sym)) → HasPrefix (Accepts p.right) z
    right z = ([], z, refl, everywhere.right)

-- whether there are contexts
pub no_contexts : (contexts : List LangContext) (b : Bool) → b ≡ (length contexts == 0) → b ≡ true → contexts ≡ []
no_contexts [] b is empty = refl
no_contexts (c ∷ contexts) b is empty = let none : length (c ∷ contexts) ≡ 0 = (Decides-eqb (length (c ∷ contexts)) 0).0 (sym is ∙ empty) in absurd (omega (arith, none))

pub some_contexts : (contexts : List LangContext) (b : Bool) → b ≡ (length contexts == 0) → b ≡ false → contexts ≡ [] → ⊥
some_contexts contexts b is some none = let clash : false ≡ true = sym some ∙ is ∙ (Decides-eqb (length contexts) 0).1 (ap (λ (cs : List LangContext). length cs) none) in cc
