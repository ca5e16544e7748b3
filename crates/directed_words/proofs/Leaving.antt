-- What directed rules leave as it is, and that they relate no more than rules without a direction.
use Rattle.std.proofs.Common.{◌≡◌, ◌↔◌, List, [], ◌∷◌, ◌++◌, false, map, refl, sym, ap, subst, ◌∙◌, append_assoc}
use Rattle.std.specs.Prelude.{Contains}
use Rattle.std.proofs.lemmas.Grind.{flat_map-append}
use Rattle.std.proofs.lemmas.List.{map-append}
use Rattle.std.proofs.lemmas.List.Elements.{All-head, All-tail}
use Rattle.fsm_base.specs.declared.letters.Sym.{Sym}
use Rattle.word_relations.specs.Words.{IsOver}
use Rattle.expr_meaning.specs.Replacement.{Piece, copied, replaced, upper, uppers, lowers, IsPiece, IsFilled, IsRewritten}
use Rattle.regex_ast.specs.declared.expr.Way.{Way}
use Rattle.regex_ast.specs.declared.expr.Way.TheVariants.{LeftLongest, LeftShortest, RightLongest, RightShortest}
use Rattle.expr_meaning.specs.Directed.{Bars, BeginsAt, EndsAt, StandsAt, IsDirected, AppliesOn, IsDirectedBy}
use Rattle.directed_words.specs.Comparisons.{DirectedLeaveOthers, DirectedAreRewritings}
use Rattle.directed_words.proofs.Splits.{nil_split}

abbrev pub Pieces : Type 0
Pieces = List (Piece Sym)

abbrev pub copies : List Sym → Pieces
copies u = map copied u

-- the upper side of pieces, in parts
pub uppers_parts : (ps before : Pieces) (p : Piece Sym) (behind : Pieces) → ps ≡ before ++ p ∷ behind → uppers ps ≡ uppers before ++ (upper p ++ uppers behind)
uppers_parts ps before p behind is = ap uppers is ∙ flat_map-append upper before (p ∷ behind)

uppers_copies : (u : List Sym) → uppers (copies u) ≡ u
uppers_copies [] = refl
uppers_copies (s ∷ u) = ap (λ z. s ∷ z) (uppers_copies u)

lowers_copies : (u : List Sym) → lowers (copies u) ≡ u
lowers_copies [] = refl
lowers_copies (s ∷ u) = ap (λ z. s ∷ z) (lowers_copies u)

-- pieces of which none is replaced have the same word on both sides
same_sides : (ps : Pieces) → ((before : Pieces) (c r : List Sym) (behind : Pieces) → ps ≡ before ++ replaced c r ∷ behind → ⊥) → uppers ps ≡ lowers ps
same_sides [] none = refl
same_sides (copied s ∷ ps) none = ap (λ z. s ∷ z) (same_sides ps (λ before c r behind e. none (copied s ∷ before) c r behind (ap (λ z. copied s ∷ z) e)))
same_sides (replaced c r ∷ ps) none = absurd (none [] c r ps refl)

not_replaced : (u : List Sym) (before : Pieces) (c r : List Sym) (behind : Pieces) → copies u ≡ before ++ replaced c r ∷ behind → ⊥
not_replaced [] before c r behind e = nil_split before (replaced c r) behind e
not_replaced (s ∷ u) [] c r behind e = let e' : copied s ∷ copies u ≡ replaced c r ∷ behind = e in cc
not_replaced (s ∷ u) (p ∷ before) c r behind e =
    let e' : copied s ∷ copies u ≡ p ∷ (before ++ replaced c r ∷ behind) = e in
    let tail : copies u ≡ before ++ replaced c r ∷ behind = cc in
    not_replaced u before c r behind tail

last_of : (s : Sym) (c : List Sym) → (i : List Sym) × (t : Sym) × (s ∷ c ≡ i ++ t ∷ [])
last_of s [] = ([], s, refl)
last_of s (t ∷ c) = let r = last_of t c in (s ∷ r.0, r.1, ap (λ z. s ∷ z) r.2)

-- a copied symbol, which any match bars
abbrev Copied : Piece Sym → Type 0
Copied p = (s : Sym) × (p ≡ copied s)

bars : (way : Way) (c : List Sym) (p : Piece Sym) → Copied p → Bars way c p
bars LeftLongest c p (s, is) = subst (Bars LeftLongest c) (sym is) tt
bars LeftShortest c p (s, is) = subst (Bars LeftShortest c) (sym is) tt
bars RightLongest c p (s, is) = subst (Bars RightLongest c) (sym is) tt
bars RightShortest c p (s, is) = subst (Bars RightShortest c) (sym is) tt

module _ (Match : List Sym → List Sym → List Sym → Type 0) (Replaces : List (Piece Sym) → List Sym → List Sym → List (Piece Sym) → Type 0) (symbols : List Sym) where
  abbrev Is : Pieces → Piece Sym → Pieces → Type 0
  Is before p behind = IsPiece symbols Replaces (AppliesOn Match) before p behind

  copied_at : (u : List Sym) (before : Pieces) (p : Piece Sym) (behind b h : Pieces) → IsOver symbols u → copies u ≡ before ++ p ∷ behind → Is b p h
  copied_at [] before p behind b h over e = absurd (nil_split before p behind e)
  copied_at (s ∷ u) [] p behind b h over e =
      let e' : copied s ∷ copies u ≡ p ∷ behind = e in
      let head : copied s ≡ p = cc in
      subst (λ q. Is b q h) head (All-head (Contains symbols) s u over)
  copied_at (s ∷ u) (q ∷ before) p behind b h over e =
      let e' : copied s ∷ copies u ≡ q ∷ (before ++ p ∷ behind) = e in
      let tail : copies u ≡ before ++ p ∷ behind = cc in
      copied_at u before p behind b h (All-tail (Contains symbols) s u over) tail

  -- a match at a piece is one of the whole word
  begins_in : (u : List Sym) (ps before : Pieces) (p : Piece Sym) (behind : Pieces) (c : List Sym) → u ≡ uppers ps → ps ≡ before ++ p ∷ behind → ((x c z : List Sym) → u ≡ x ++ (c ++ z) → Match x c z → ⊥) → BeginsAt Match before p behind c → ⊥
  begins_in u ps before p behind c up is none (z, whole, match) = none (uppers before) c z (up ∙ uppers_parts ps before p behind is ∙ ap (λ v. uppers before ++ v) whole) match

  ends_in : (u : List Sym) (ps before : Pieces) (p : Piece Sym) (behind : Pieces) (c : List Sym) → u ≡ uppers ps → ps ≡ before ++ p ∷ behind → ((x c z : List Sym) → u ≡ x ++ (c ++ z) → Match x c z → ⊥) → EndsAt Match before p behind c → ⊥
  ends_in u ps before p behind c up is none (x, whole, match) =
      none x c (uppers behind) (up ∙ uppers_parts ps before p behind is ∙ sym (append_assoc (uppers before) (upper p) (uppers behind)) ∙ ap (λ v. v ++ uppers behind) whole ∙ append_assoc x c (uppers behind)) match

  stands_in : (way : Way) (u : List Sym) (ps before : Pieces) (p : Piece Sym) (behind : Pieces) (c : List Sym) → u ≡ uppers ps → ps ≡ before ++ p ∷ behind → ((x c z : List Sym) → u ≡ x ++ (c ++ z) → Match x c z → ⊥) → StandsAt Match way before p behind c → ⊥
  stands_in LeftLongest u ps before p behind c up is none h = begins_in u ps before p behind c up is none h
  stands_in LeftShortest u ps before p behind c up is none h = begins_in u ps before p behind c up is none h
  stands_in RightLongest u ps before p behind c up is none h = ends_in u ps before p behind c up is none h
  stands_in RightShortest u ps before p behind c up is none h = ends_in u ps before p behind c up is none h

  left_alone : (way : Way) (u : List Sym) → ((before behind : Pieces) (c r : List Sym) → Replaces before c r behind → Match (uppers before) c (uppers behind)) → IsOver symbols u
      → ((x c z : List Sym) → u ≡ x ++ (c ++ z) → Match x c z → ⊥) → (w : List Sym) → IsDirectedBy Match symbols Replaces way u w ↔ (u ≡ w)
  left_alone way u matched over none w = (
    λ (ps, (each, once), directed, up, low). up ∙ same_sides ps (λ before c r behind is. none (uppers before) c (uppers behind) (up ∙ uppers_parts ps before (replaced c r) behind is) (matched before behind c r (each before (replaced c r) behind is))) ∙ sym low,
    λ same. (
      copies u,
      (λ before p behind is. copied_at u before p behind before behind over is, λ before one two behind is. not_replaced u before [] one (replaced [] two ∷ behind) is),
      λ before p behind c is stands bars. stands_in way u (copies u) before p behind c (sym (uppers_copies u)) is none stands,
      sym (uppers_copies u),
      sym same ∙ sym (lowers_copies u),
    ),
  )

  -- a match in copied symbols would bar the first of them, and the last
  first_barred : (ps before : Pieces) (s : Sym) (c : List Sym) (behind : Pieces) → ((before : Pieces) (p : Piece Sym) (behind : Pieces) (c : List Sym) → ps ≡ before ++ p ∷ behind → BeginsAt Match before p behind c → Copied p → ⊥) → ps ≡ before ++ (copies (s ∷ c) ++ behind) → Match (uppers before) (s ∷ c) (uppers behind) → ⊥
  first_barred ps before s c behind none is match =
      none before (copied s) (copies c ++ behind) (s ∷ c) is (uppers behind, ap (λ v. s ∷ v) (flat_map-append upper (copies c) behind ∙ ap (λ v. v ++ uppers behind) (uppers_copies c)), match) (s, refl)

  last_barred : (ps before : Pieces) (s : Sym) (c : List Sym) (behind : Pieces) → ((before : Pieces) (p : Piece Sym) (behind : Pieces) (c : List Sym) → ps ≡ before ++ p ∷ behind → EndsAt Match before p behind c → Copied p → ⊥) → ps ≡ before ++ (copies (s ∷ c) ++ behind) → Match (uppers before) (s ∷ c) (uppers behind) → ⊥
  last_barred ps before s c behind none is match =
      let (i, t, e) = last_of s c in
      none (before ++ copies i) (copied t) behind (s ∷ c)
      (is ∙ ap (λ v. before ++ (copies v ++ behind)) e ∙ ap (λ v. before ++ (v ++ behind)) (map-append copied i (t ∷ [])) ∙ ap (λ v. before ++ v) (append_assoc (copies i) (copied t ∷ []) behind) ∙ sym (append_assoc before (copies i) (copied t ∷ behind)))
      (uppers before, ap (λ v. v ++ t ∷ []) (flat_map-append upper before (copies i) ∙ ap (λ v. uppers before ++ v) (uppers_copies i)) ∙ append_assoc (uppers before) i (t ∷ []) ∙ ap (λ v. uppers before ++ v) (sym e), match) (t, refl)

  none_left : (way : Way) (ps before : Pieces) (s : Sym) (c : List Sym) (behind : Pieces) → IsDirected Match way ps → ps ≡ before ++ (copies (s ∷ c) ++ behind) → Match (uppers before) (s ∷ c) (uppers behind) → ⊥
  none_left LeftLongest ps before s c behind directed = first_barred ps before s c behind (λ b p h d is stands one. directed b p h d is stands (bars LeftLongest d p one))
  none_left LeftShortest ps before s c behind directed = first_barred ps before s c behind (λ b p h d is stands one. directed b p h d is stands (bars LeftShortest d p one))
  none_left RightLongest ps before s c behind directed = last_barred ps before s c behind (λ b p h d is stands one. directed b p h d is stands (bars RightLongest d p one))
  none_left RightShortest ps before s c behind directed = last_barred ps before s c behind (λ b p h d is stands one. directed b p h d is stands (bars RightShortest d p one))

  rewritten : (way : Way) (u w : List Sym) → ((x z : List Sym) → Match x [] z → ⊥) → IsDirectedBy Match symbols Replaces way u w → IsRewritten symbols Replaces (AppliesOn Match) false u w
  rewritten way u w no_empty (ps, derives, directed, up, low) = (ps, derives, λ must before centre behind is match. obliged before centre behind is match, up, low)
    where
      obliged : (before : Pieces) (centre : List Sym) (behind : Pieces) → ps ≡ before ++ (copies centre ++ behind) → Match (uppers before) centre (uppers behind) → (centre ≡ []) × IsFilled before behind
      obliged before [] behind is match = absurd (no_empty (uppers before) (uppers behind) match)
      obliged before (s ∷ c) behind is match = absurd (none_left way ps before s c behind directed is match)

pub directed_leave_others : DirectedLeaveOthers
directed_leave_others Match Replaces symbols way u matched over none w = left_alone Match Replaces symbols way u matched over none w

pub directed_are_rewritings : DirectedAreRewritings
directed_are_rewritings Match Replaces symbols way u w no_empty h = rewritten Match Replaces symbols way u w no_empty h
