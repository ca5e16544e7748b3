-- Relations on whose paths conditions may stand: what they are where none stands there, and their compositions.
use Rattle.std.proofs.Common.{◌≡◌, ◌<◌, ℕ, List, [], ◌∷◌, ◌++◌, refl, sym, ap, subst, ◌∙◌}
use Rattle.std.specs.List.{Contains}
use Rattle.std.specs.Prelude.{IsTrue}
use Rattle.fsm_base.specs.declared.letters.Sym.{Sym}
use Rattle.word_relations.specs.Relations.{AreSame, IsComposition}
use Rattle.word_relations.proofs.Members.{Contains-head, Contains-tail}
use Rattle.word_relations.proofs.Pairs.{same_trans}
use Rattle.fsa.specs.Automaton.{Automaton}
use Rattle.fsm_base.specs.declared.letters.Pair.{Pair}
use Rattle.fst_algebra.specs.Relation.{IsRelated}
use Rattle.fst_algebra.specs.Relations.{UsesUpper, UsesLower}
use Rattle.project_meaning.specs.Trees.{Piece}
use Rattle.project_meaning.specs.Lexicons.{flags_pass}
use Rattle.fst_flagged.specs.declared.condition.Condition.{Condition}
use Rattle.fst_flagged.specs.declared.condition.Run.{Run}
use Rattle.fst_flagged.specs.declared.condition.Run.TheVariants.{Upper, Lower}
use Rattle.fst_flagged.specs.Conditions.{first, letters_of, flags_of, Hold}
use Rattle.fst_flagged.specs.Flagged.{FlaggedView, FlaggedRelates, HasNoConditions, UsesLetters}
use Rattle.fst_flagged.proofs.Words.{letter_below, letters-letter, flags-letter, letters_of-append, flags_of-append}
use Rattle.fst_algebra.proofs.Used.{upper_used}
use Rattle.network_algebra.specs.Networks.{UsesSymbols, IsNetwork, PairsOf, kind_of_network, RelatesOnly}
use Rattle.network_algebra.specs.declared.network.Network.{Network}

-- compositions of the same relations
pub composition_same : (P P' Q Q' : List Sym → List Sym → Type 0) → AreSame P P' → AreSame Q Q' → AreSame (IsComposition P Q) (IsComposition P' Q')
composition_same P P' Q Q' f g u w = (λ (v, r, s). (v, (f u v).0 r, (g v w).0 s), λ (v, r, s). (v, (f u v).1 r, (g v w).1 s))

pub relates_along : (P Q : List Sym → List Sym → Type 0) → AreSame P Q → (n : Network) → RelatesOnly P n → RelatesOnly Q n
relates_along P Q same n only = record { kind_is = only.kind_is; pairs = same_trans (PairsOf n) P Q only.pairs same }

-- words without conditions
letters_alone : (x : List Sym) → ((y : Sym) → Contains x y → y.0 < first) → letters_of x ≡ x
letters_alone [] small = refl
letters_alone (y ∷ x) small =
    letters_of-append (y ∷ []) x
    ∙ ap (λ (z : List Sym). z ++ letters_of x) (letters-letter y (letter_below y (small y (Contains-head y x))))
    ∙ ap (λ (z : List Sym). y ∷ z) (letters_alone x (λ z among. small z (Contains-tail y x z among)))

no_flags : (run : Run) (conditions : List Condition) (x : List Sym) → ((y : Sym) → Contains x y → y.0 < first) → flags_of run conditions x ≡ []
no_flags run conditions [] small = refl
no_flags run conditions (y ∷ x) small =
    flags_of-append run conditions (y ∷ []) x
    ∙ ap (λ (ps : List (Piece (List ℕ))). ps ++ flags_of run conditions x) (flags-letter run conditions y (letter_below y (small y (Contains-head y x))))
    ∙ no_flags run conditions x (λ z among. small z (Contains-tail y x z among))

-- where none stands on a path
module _ (f : FlaggedView) (none : HasNoConditions f.net) where
  small : (x w : List Sym) → IsRelated f.net x w → (y : Sym) → Contains x y → y.0 < first
  small x w related y among = none.upper y (upper_used f.net x w related y among)

  held : (run : Run) (x w : List Sym) → IsRelated f.net x w → IsTrue (flags_pass (flags_of run f.conditions x))
  held run x w related = ap (λ (ps : List (Piece (List ℕ))). flags_pass ps) (no_flags run f.conditions x (small x w related))

  pub bare_relation : AreSame (IsRelated f.net) (FlaggedRelates f)
  bare_relation u w = (
    λ related. (u, related, (held Upper u w related, held Lower u w related), letters_alone u (small u w related)),
    λ (x, related, h, letters). subst (λ (z : List Sym). IsRelated f.net z w) (sym (letters_alone x (small x w related)) ∙ letters) related,
  )

  pub bare_symbols : (symbols : List Sym) → UsesLetters symbols f → UsesSymbols symbols f.net
  bare_symbols symbols uses = record { upper = λ x used. uses.upper x used (none.upper x used); lower = uses.lower }

-- the letters of a composition
pub letters_below : (f g : FlaggedView) (s : Automaton Pair) → ((x : Sym) → UsesUpper g.net x → x.0 < first → UsesUpper f.net x) → ((x : Sym) → UsesLower g.net x → UsesLower s x) → (symbols : List Sym) → UsesLetters symbols f → UsesSymbols symbols s → UsesLetters symbols g
letters_below f g s upper lower symbols above below = record {
  upper = λ x used small. above.upper x (upper x used small) small;
  lower = λ x used. below.lower x (lower x used);
}

pub letters_above : (r : Automaton Pair) (f g : FlaggedView) → ((x : Sym) → UsesUpper g.net x → x.0 < first → UsesUpper r x) → ((x : Sym) → UsesLower g.net x → UsesLower f.net x) → (symbols : List Sym) → UsesSymbols symbols r → UsesLetters symbols f → UsesLetters symbols g
letters_above r f g upper lower symbols above below = record {
  upper = λ x used small. above.upper x (upper x used small);
  lower = λ x used. below.lower x (lower x used);
}

pub letters_composed : (r s m : Automaton Pair) → ((x : Sym) → UsesUpper m x → UsesUpper r x) → ((x : Sym) → UsesLower m x → UsesLower s x) → (symbols : List Sym) → UsesSymbols symbols r → UsesSymbols symbols s → UsesSymbols symbols m
letters_composed r s m upper lower symbols above below = record { upper = λ x used. above.upper x (upper x used); lower = λ x used. below.lower x (lower x used) }

-- what a composition with one of them plain is of both
module _ (f g : FlaggedView) (m : Automaton Pair) (n : Network) where
  pub plain_below : AreSame (IsRelated m) (FlaggedRelates g) → RelatesOnly (IsComposition (FlaggedRelates f) (IsRelated m)) n → RelatesOnly (IsComposition (FlaggedRelates f) (FlaggedRelates g)) n
  plain_below same only =
      relates_along (IsComposition (FlaggedRelates f) (IsRelated m)) (IsComposition (FlaggedRelates f) (FlaggedRelates g))
      (composition_same (FlaggedRelates f) (FlaggedRelates f) (IsRelated m) (FlaggedRelates g) (λ u w. (λ h. h, λ h. h)) same) n only

  pub plain_above : AreSame (IsRelated m) (FlaggedRelates f) → RelatesOnly (IsComposition (IsRelated m) (FlaggedRelates g)) n → RelatesOnly (IsComposition (FlaggedRelates f) (FlaggedRelates g)) n
  plain_above same only =
      relates_along (IsComposition (IsRelated m) (FlaggedRelates g)) (IsComposition (FlaggedRelates f) (FlaggedRelates g))
      (composition_same (IsRelated m) (FlaggedRelates f) (FlaggedRelates g) (FlaggedRelates g) same (λ u w. (λ h. h, λ h. h))) n only

  pub letters_plain_below : ((symbols : List Sym) → UsesLetters symbols g → UsesSymbols symbols m) → ((symbols : List Sym) → UsesLetters symbols f → UsesSymbols symbols m → IsNetwork symbols n) → (symbols : List Sym) → UsesLetters symbols f → UsesLetters symbols g → IsNetwork symbols n
  letters_plain_below plain letters symbols above below = letters symbols above (plain symbols below)

  pub letters_plain_above : ((symbols : List Sym) → UsesLetters symbols f → UsesSymbols symbols m) → ((symbols : List Sym) → UsesSymbols symbols m → UsesLetters symbols g → IsNetwork symbols n) → (symbols : List Sym) → UsesLetters symbols f → UsesLetters symbols g → IsNetwork symbols n
  letters_plain_above plain letters symbols above below = letters symbols (plain symbols above) below

-- where the transducer itself has no conditions
module _ (f : FlaggedView) (m : Automaton Pair) (is : m ≡ f.net) (none : HasNoConditions m) where
  pub own_relation : AreSame (IsRelated m) (FlaggedRelates f)
  own_relation = subst (λ (z : Automaton Pair). AreSame (IsRelated z) (FlaggedRelates f)) (sym is) (bare_relation f (subst HasNoConditions is none))

  pub own_symbols : (symbols : List Sym) → UsesLetters symbols f → UsesSymbols symbols m
  own_symbols symbols uses = subst (UsesSymbols symbols) (sym is) (bare_symbols f (subst HasNoConditions is none) symbols uses)
