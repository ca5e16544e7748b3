-- Directed rules, in two spellings.
use Rattle.std.proofs.Common.{◌≡◌, ◌<◌, List, ◌∷◌, ◌++◌, length, map, refl, sym, ap, subst, ◌∙◌, arith}
use Rattle.std.proofs.Math.Path.{subst₂}
use Rattle.std.specs.List.{Contains}
use Rattle.std.proofs.lemmas.List.{length-map, map-append}
use Rattle.regex_ast.specs.declared.expr.Way.{Way}
use Rattle.regex_ast.specs.declared.expr.Way.TheVariants.{LeftLongest, LeftShortest, RightLongest, RightShortest}
use Rattle.expr_meaning.specs.Replacement.{Piece, copied, replaced, upper, uppers, lowers, IsDerivation}
use Rattle.expr_meaning.specs.Directed.{Bars, BeginsAt, EndsAt, StandsAt, IsDirected, AppliesOn, IsDirectedBy}
use Rattle.expr_spelling.proofs.Words.{CarriesPairs, Tells, split, in_two}
use Rattle.expr_spelling.proofs.Pieces.{CarriesRules, piece, uppers_spelled, lowers_spelled, after_place, spelled_pieces, known_piece, derivation}

-- what a directed rule does and where it has matches, in two spellings
pub record CarriesDirected {K S M : Type 0} (f : K → S) (g : K → M) (alphabet : List S) (other : List M)
    (N : List S → List S → List S → Type 0) (R : List (Piece S) → List S → List S → List (Piece S) → Type 0)
    (O : List M → List M → List M → Type 0) (T : List (Piece M) → List M → List M → List (Piece M) → Type 0) : Type 0 where
  pub letter : (x : S) → Contains alphabet x → (k : K) × (x ≡ f k) × Contains other (g k)
  pub words : (before behind : List (Piece S)) (c r : List S) → R before c r behind → (y : List K) × (z : List K) × (c ≡ map f y) × (r ≡ map f z)
  pub replaces : (before behind : List (Piece K)) (y z : List K) → R (map (piece f) before) (map f y) (map f z) (map (piece f) behind)
      → T (map (piece g) before) (map g y) (map g z) (map (piece g) behind)
  pub matches : (x y z : List K) → O (map g x) (map g y) (map g z) → N (map f x) (map f y) (map f z)

module _ {K L : Type 0} (h : K → L) where
  upper_spelled : (p : Piece K) → upper (piece h p) ≡ map h (upper p)
  upper_spelled (copied k) = refl
  upper_spelled (replaced c r) = refl

  -- the upper words behind a place, and those before it, with the piece there
  spelled_behind : (p : Piece K) (behind : List (Piece K)) → upper (piece h p) ++ uppers (map (piece h) behind) ≡ map h (upper p ++ uppers behind)
  spelled_behind p behind = uppers_spelled h (p ∷ behind)

  spelled_before : (before : List (Piece K)) (p : Piece K) → uppers (map (piece h) before) ++ upper (piece h p) ≡ map h (uppers before ++ upper p)
  spelled_before before p =
      ap (λ (u : List L). u ++ upper (piece h p)) (uppers_spelled h before) ∙ ap (λ (u : List L). map h (uppers before) ++ u) (upper_spelled p) ∙ sym (map-append h (uppers before) (upper p))

module _ {K S M : Type 0} (f : K → S) (g : K → M) where
  longer : (x y : List K) → length (map g x) < length (map g y) → length (map f x) < length (map f y)
  longer x y h = omega (arith, length-map x f, length-map y f, length-map x g, length-map y g)

  bars_spelled : (way : Way) (c : List K) (p : Piece K) → Bars way (map g c) (piece g p) → Bars way (map f c) (piece f p)
  bars_spelled way c (copied k) h = tt
  bars_spelled LeftLongest c (replaced d r) h = longer d c h
  bars_spelled LeftShortest c (replaced d r) h = longer c d h
  bars_spelled RightLongest c (replaced d r) h = longer d c h
  bars_spelled RightShortest c (replaced d r) h = longer c d h

module _ {K S M : Type 0} (f : K → S) (g : K → M) (tells : Tells f g) (alphabet : List S) (other : List M)
    {N : List S → List S → List S → Type 0} {R : List (Piece S) → List S → List S → List (Piece S) → Type 0}
    {O : List M → List M → List M → Type 0} {T : List (Piece M) → List M → List M → List (Piece M) → Type 0}
    (carries : CarriesDirected f g alphabet other N R O T) where
  as_rules : CarriesRules f g alphabet other R (AppliesOn N) T (AppliesOn O)
  as_rules = record {
    letter = carries.letter;
    words = carries.words;
    replaces = carries.replaces;
    applies = λ before behind y h.
        subst₂ (λ (x z : List S). N x (map f y) z) (sym (uppers_spelled f before)) (sym (uppers_spelled f behind))
        (carries.matches (uppers before) y (uppers behind) (subst₂ (λ (x z : List M). O x (map g y) z) (uppers_spelled g before) (uppers_spelled g behind) h));
  }

  -- the spelled word of a match that stands at a piece
  abbrev Stands : (List (Piece S) → Piece S → List (Piece S) → List S → Type 0) → List (Piece K) → Piece K → List (Piece K) → List M → Type 0
  Stands At before p behind c = (y : List K) × (c ≡ map g y) × At (map (piece f) before) (piece f p) (map (piece f) behind) (map f y)

  begins : (before : List (Piece K)) (p : Piece K) (behind : List (Piece K)) (c : List M) → BeginsAt O (map (piece g) before) (piece g p) (map (piece g) behind) c
      → Stands (BeginsAt N) before p behind c
  begins before p behind c (z, whole, h) =
      let r = split g (upper p ++ uppers behind) c z (sym (spelled_behind g p behind) ∙ whole) in
      let spelled = subst₂ (λ (a b : List M). O (uppers (map (piece g) before)) a b) r.3 r.4 h in
      let here = carries.matches (uppers before) r.0 r.1 (subst (λ (x : List M). O x (map g r.0) (map g r.1)) (uppers_spelled g before) spelled) in (
        r.0,
        r.3,
        (map f r.1, spelled_behind f p behind ∙ in_two f (upper p ++ uppers behind) r.0 r.1 r.2, subst (λ (x : List S). N x (map f r.0) (map f r.1)) (sym (uppers_spelled f before)) here),
      )

  ends : (before : List (Piece K)) (p : Piece K) (behind : List (Piece K)) (c : List M) → EndsAt O (map (piece g) before) (piece g p) (map (piece g) behind) c
      → Stands (EndsAt N) before p behind c
  ends before p behind c (x, whole, h) =
      let r = split g (uppers before ++ upper p) x c (sym (spelled_before g before p) ∙ whole) in
      let spelled = subst₂ (λ (a b : List M). O a b (uppers (map (piece g) behind))) r.3 r.4 h in
      let here = carries.matches r.0 r.1 (uppers behind) (subst (λ (z : List M). O (map g r.0) (map g r.1) z) (uppers_spelled g behind) spelled) in (
        r.1,
        r.4,
        (map f r.0, spelled_before f before p ∙ in_two f (uppers before ++ upper p) r.0 r.1 r.2, subst (λ (z : List S). N (map f r.0) (map f r.1) z) (sym (uppers_spelled f behind)) here),
      )

  stands : (way : Way) (before : List (Piece K)) (p : Piece K) (behind : List (Piece K)) (c : List M) → StandsAt O way (map (piece g) before) (piece g p) (map (piece g) behind) c
      → Stands (StandsAt N way) before p behind c
  stands LeftLongest before p behind c h = begins before p behind c h
  stands LeftShortest before p behind c h = begins before p behind c h
  stands RightLongest before p behind c h = ends before p behind c h
  stands RightShortest before p behind c h = ends before p behind c h

  directs : (way : Way) (qs : List (Piece K)) → IsDirected N way (map (piece f) qs) → IsDirected O way (map (piece g) qs)
  directs way qs h before p behind c is there bars =
      let r = split (piece g) qs before (p ∷ behind) is in
      let q = after_place g r.1 p behind r.4 in
      let at_before = subst (λ (x : List (Piece M)). StandsAt O way x p behind c) r.3 there in
      let at_piece = subst (λ (x : Piece M). StandsAt O way (map (piece g) r.0) x behind c) q.3 at_before in
      let at_place = subst (λ (x : List (Piece M)). StandsAt O way (map (piece g) r.0) (piece g q.0) x c) q.4 at_piece in
      let here = stands way r.0 q.0 q.1 c at_place in
      h (map (piece f) r.0) (piece f q.0) (map (piece f) q.1) (map f here.0) (in_two (piece f) qs r.0 (q.0 ∷ q.1) (r.2 ∙ ap (λ (z : List (Piece K)). r.0 ++ z) q.2)) here.2
      (bars_spelled f g way here.0 q.0 (subst₂ (λ (d : List M) (x : Piece M). Bars way d x) here.1 q.3 bars))

  pub directed : (way : Way) → CarriesPairs f g (IsDirectedBy N alphabet R way) (IsDirectedBy O other T way)
  directed way = record { pair = pair }
    where
      pair : (u w : List S) → IsDirectedBy N alphabet R way u w → (y : List K) × (z : List K) × (u ≡ map f y) × (w ≡ map f z) × IsDirectedBy O other T way (map g y) (map g z)
      pair u w (ps, derives, none_barred, up, low) =
          let k = spelled_pieces f ps (λ before p behind is. known_piece f g tells alphabet other as_rules before p behind (derives.0 before p behind is)) in (
            uppers k.0,
            lowers k.0,
            up ∙ ap uppers k.1 ∙ uppers_spelled f k.0,
            low ∙ ap lowers k.1 ∙ lowers_spelled f k.0,
            (
              map (piece g) k.0,
              derivation f g tells alphabet other as_rules k.0 (subst (IsDerivation alphabet R (AppliesOn N)) k.1 derives),
              directs way k.0 (subst (IsDirected N way) k.1 none_barred),
              sym (uppers_spelled g k.0),
              sym (lowers_spelled g k.0),
            ),
          )
