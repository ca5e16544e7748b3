-- What directed rules from the left rewrite is the two sides of their words of marks.
use Rattle.std.proofs.Common.{◌≡◌, true, List, [], ◌∷◌, ◌++◌, map, refl, sym, ap, subst, ◌∙◌, inl, inr}
use Rattle.std.specs.Prelude.{Contains}
use Rattle.std.specs.List.{filter_map}
use Rattle.std.proofs.lemmas.List.{map-append}
use Rattle.fsm_base.specs.declared.letters.Sym.{Sym}
use Rattle.fsm_base.specs.declared.letters.Bound.TheVariants.{Edge}
use Rattle.word_relations.proofs.Places.{Contains-from_slice_get, slice_get_from_Contains}
use Rattle.expr_meaning.specs.Replacement as piece
use Rattle.expr_meaning.specs.Replacement.{Piece, uppers, lowers, IsPiece, IsDerivation}
use Rattle.replace_words.specs.Claims.{Claim, copied, replaced, marked, upper}
use Rattle.replace_words.specs.Places.{Rules, HasNoEmptyCentre, Makes, ReplacesAt, AppliesAt}
use Rattle.replace_words.specs.Marked.{upper_of, lower_of, symbol_of, written, IsMarked}
use Rattle.replace_words.proofs.Claimed.{forget, uppers_forget, lowers_forget, split_claims, first_claim, derived_claims, claimed_each}
use Rattle.directed_words.specs.declared.ways.Length.{Length}
use Rattle.directed_words.specs.declared.ways.Length.TheVariants.{Longest, Shortest}
use Rattle.expr_meaning.specs.Directed.{Bars, BeginsAt, IsDirected, AppliesOn, IsDirectedBy}
use Rattle.directed_words.specs.Laws.{from_left, MatchesAt, IsMarkedFromLeftBy, DirectedAreMarkedWords}
use Rattle.directed_words.specs.Marked.{BarsCopies, BarsOthers}
use Rattle.directed_words.proofs.Bridge.{marked_up, marked_down, claims_of}
use Rattle.directed_words.proofs.Reading.{reads_upper, reads_lower, side_of_written}
use Rattle.directed_words.proofs.Matches.{BarsClaim, U}
use Rattle.directed_words.proofs.Barred.{NoneBars, barred_up, barred_down}

upper_forget : (p : Claim) → piece.upper (forget p) ≡ upper p
upper_forget (copied s) = refl
upper_forget (replaced k c r) = refl
upper_forget (marked k b c a) = refl

bars_forget : (size : Length) (c : List Sym) (p : Claim) → BarsClaim size c p → Bars (from_left size) c (forget p)
bars_forget Longest c (copied s) h = tt
bars_forget Shortest c (copied s) h = tt
bars_forget Longest c (replaced k b r) h = h
bars_forget Shortest c (replaced k b r) h = h
bars_forget Longest c (marked k f b a) h = h
bars_forget Shortest c (marked k f b a) h = h

bars_claim : (size : Length) (c : List Sym) (p : Claim) → Bars (from_left size) c (forget p) → BarsClaim size c p
bars_claim size c (copied s) h = tt
bars_claim Longest c (replaced k b r) h = h
bars_claim Shortest c (replaced k b r) h = h
bars_claim Longest c (marked k f b a) h = h
bars_claim Shortest c (marked k f b a) h = h

module _ {P : Type 0} (of : Rules P) (places : List P) where
  abbrev M : List Sym → List Sym → List Sym → Type 0
  M = MatchesAt of places

  begins : (before : List Claim) (p : Claim) (behind : List Claim) (c z : List Sym) → upper p ++ U behind ≡ c ++ z → M (U before) c z → BeginsAt M (map forget before) (forget p) (map forget behind) c
  begins before p behind c z whole match = (
    z,
    ap (λ u. u ++ uppers (map forget behind)) (upper_forget p) ∙ ap (λ u. upper p ++ u) (uppers_forget behind) ∙ whole,
    subst (λ u. M u c z) (sym (uppers_forget before)) match,
  )

  parts : (cs before : List Claim) (p : Claim) (behind : List Claim) → cs ≡ before ++ p ∷ behind → map forget cs ≡ map forget before ++ forget p ∷ map forget behind
  parts cs before p behind whole = ap (map forget) whole ∙ map-append forget before (p ∷ behind)

  claims_there : (size : Length) (cs : List Claim) → IsDirected M (from_left size) (map forget cs) → NoneBars of places size cs
  claims_there Longest cs h before p behind c z whole is match asks = h (map forget before) (forget p) (map forget behind) c (parts cs before p behind whole) (begins before p behind c z is match) (bars_forget Longest c p asks)
  claims_there Shortest cs h before p behind c z whole is match asks = h (map forget before) (forget p) (map forget behind) c (parts cs before p behind whole) (begins before p behind c z is match) (bars_forget Shortest c p asks)

  begun : (size : Length) (cs : List Claim) → NoneBars of places size cs → (before : List (Piece Sym)) (p : Piece Sym) (behind : List (Piece Sym)) (c : List Sym) → map forget cs ≡ before ++ p ∷ behind → BeginsAt M before p behind c → Bars (from_left size) c p → ⊥
  begun size cs none before p behind c is (z, whole, match) asks =
      let r = split_claims cs before (p ∷ behind) is in
      let f = first_claim r.1 p behind r.4 in
      none r.0 f.0 f.1 c z (r.2 ∙ ap (λ (y : List Claim). r.0 ++ y) f.2)
      (ap (λ (u : List Sym). u ++ U f.1) (sym (upper_forget f.0) ∙ ap piece.upper (sym f.3)) ∙ ap (λ (u : List Sym). piece.upper p ++ u) (sym (uppers_forget f.1) ∙ ap uppers (sym f.4)) ∙ whole)
      (subst (λ u. M u c z) (ap uppers r.3 ∙ uppers_forget r.0) match) (bars_claim size c f.0 (subst (Bars (from_left size) c) f.3 asks))

  claims_back : (size : Length) (cs : List Claim) → NoneBars of places size cs → IsDirected M (from_left size) (map forget cs)
  claims_back Longest cs none before p behind c is stands asks = begun Longest cs none before p behind c is stands asks
  claims_back Shortest cs none before p behind c is stands asks = begun Shortest cs none before p behind c is stands asks

  module _ (symbols : List Sym) (no_empty : (p : P) → Contains places p → HasNoEmptyCentre of p) where
    abbrev R : List (Piece Sym) → List Sym → List Sym → List (Piece Sym) → Type 0
    R = ReplacesAt of places

    piece_there : (before : List (Piece Sym)) (p : Piece Sym) (behind : List (Piece Sym)) → IsPiece symbols R (AppliesOn M) before p behind → IsPiece symbols R (AppliesAt of places) before p behind
    piece_there before (piece.copied s) behind h = h
    piece_there before (piece.replaced c r) behind h = h

    piece_back : (before : List (Piece Sym)) (p : Piece Sym) (behind : List (Piece Sym)) → IsPiece symbols R (AppliesAt of places) before p behind → IsPiece symbols R (AppliesOn M) before p behind
    piece_back before (piece.copied s) behind h = h
    piece_back before (piece.replaced c r) behind h = h

    none_made : (p : P) (r : List Sym) → Contains places p → Makes of p [] r → ⊥
    none_made p r among (inl plain) = (no_empty p among).replaces r plain
    none_made p r among (inr (b, a, whole, markup)) = (no_empty p among).surrounds b a markup

    there : (size : Length) (u w : List Sym) → IsDirectedBy M symbols R (from_left size) u w → IsMarkedFromLeftBy of places symbols size u w
    there size u w (ps, (each, once), directed, up, low) =
        let r = derived_claims of places symbols ps (λ before p behind is. piece_there before p behind (each before p behind is), once) in
        let none = claims_there size r.0 (subst (IsDirected M (from_left size)) (sym r.1) directed) in (
          written r.0,
          (marked_up of symbols places r.0 r.2, λ k p at. barred_up of places size r.0 none p (Contains-from_slice_get places k p at)),
          side_of_written reads_upper r.0 ∙ sym (uppers_forget r.0) ∙ ap uppers r.1 ∙ sym up,
          side_of_written reads_lower r.0 ∙ sym (lowers_forget r.0) ∙ ap lowers r.1 ∙ sym low,
        )

    back : (size : Length) (u w : List Sym) → IsMarkedFromLeftBy of places symbols size u w → IsDirectedBy M symbols R (from_left size) u w
    back size u w (z, (m, bars), up, low) =
        let cs = claims_of of symbols places m.0.0 m.0.2 in
        let is : z ≡ written cs.0 = m.0.1 ∙ ap (λ v. Edge ∷ (v ++ Edge ∷ [])) cs.1 in
        let claimed = marked_down of symbols places cs.0 cs.2 (subst (IsMarked of symbols places true) is m) in
        let each = claimed_each of places symbols cs.0 claimed in
        let barred : (q : P) → Contains places q → BarsCopies of q (written cs.0) × BarsOthers of size q (written cs.0) =
        λ q among. let n = slice_get_from_Contains places q among in subst (λ v. BarsCopies of q v × BarsOthers of size q v) is (bars n.0 q n.1) in (
          map forget cs.0,
          (
            λ before p behind e. piece_back before p behind (each before p behind e),
            λ before one two behind e. let h = each before (piece.replaced [] one) (piece.replaced [] two ∷ behind) e in none_made h.0 one h.1 h.2,
          ),
          claims_back size cs.0 (barred_down of places (λ p among. (no_empty p among).centre) size cs.0 barred),
          sym up ∙ ap (λ v. filter_map (symbol_of upper_of) v) is ∙ side_of_written reads_upper cs.0 ∙ sym (uppers_forget cs.0),
          sym low ∙ ap (λ v. filter_map (symbol_of lower_of) v) is ∙ side_of_written reads_lower cs.0 ∙ sym (lowers_forget cs.0),
        )

pub directed_are_marked : DirectedAreMarkedWords
directed_are_marked P of places symbols size u w no_empty = (there of places symbols no_empty size u w, back of places symbols no_empty size u w)
