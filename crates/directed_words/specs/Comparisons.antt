-- What directed rules leave as it is, that they relate no more than rules without a direction, and where they relate the same.
use Rattle.std.specs.Prelude.{◌≡◌, ◌↔◌, ◌+◌, ◌<◌, ◌≤◌, false, List, [], ◌∷◌, ◌++◌, length}
use Rattle.fsm_base.specs.declared.letters.Sym.{Sym}
use Rattle.word_relations.specs.Words.{IsOver}
use Rattle.expr_meaning.specs.Replacement.{Piece, uppers, IsRewritten}
use Rattle.regex_ast.specs.declared.expr.Way.{Way}
use Rattle.expr_meaning.specs.Directed.{AppliesOn, IsDirectedBy}

-- where replacements are of matches, a word without a match is related to itself alone
abbrev pub DirectedLeaveOthers : Type 1
DirectedLeaveOthers =
    (Match : List Sym → List Sym → List Sym → Type 0) (Replaces : List (Piece Sym) → List Sym → List Sym → List (Piece Sym) → Type 0) (symbols : List Sym) (way : Way) (u : List Sym)
    → ((before behind : List (Piece Sym)) (c r : List Sym) → Replaces before c r behind → Match (uppers before) c (uppers behind)) → IsOver symbols u
    → ((x c z : List Sym) → u ≡ x ++ (c ++ z) → Match x c z → ⊥) → (w : List Sym) → IsDirectedBy Match symbols Replaces way u w ↔ (u ≡ w)

-- where no match is empty, a directed rule relates no more than the rule without a direction, which leaves no match in copied symbols
abbrev pub DirectedAreRewritings : Type 1
DirectedAreRewritings =
    (Match : List Sym → List Sym → List Sym → Type 0) (Replaces : List (Piece Sym) → List Sym → List Sym → List (Piece Sym) → Type 0) (symbols : List Sym) (way : Way) (u w : List Sym)
    → ((x z : List Sym) → Match x [] z → ⊥) → IsDirectedBy Match symbols Replaces way u w → IsRewritten symbols Replaces (AppliesOn Match) false u w

-- of two matches of the word, neither begins within the other, unless they are the same
abbrev pub NoneOverlap : (List Sym → List Sym → List Sym → Type 0) → List Sym → Type 0
NoneOverlap Match u =
    (x c z y d v : List Sym) → u ≡ x ++ (c ++ z) → Match x c z → u ≡ y ++ (d ++ v) → Match y d v → length x ≤ length y → length y < length x + length c → (x ≡ y) × (c ≡ d)

-- where replacements are of matches and no match is empty, a word of which no matches overlap is related to what the obligatory rule without
-- a direction relates it to
abbrev pub DirectedAgreeWithoutOverlap : Type 1
DirectedAgreeWithoutOverlap =
    (Match : List Sym → List Sym → List Sym → Type 0) (Replaces : List (Piece Sym) → List Sym → List Sym → List (Piece Sym) → Type 0) (symbols : List Sym) (way : Way) (u w : List Sym)
    → ((before behind : List (Piece Sym)) (c r : List Sym) → Replaces before c r behind → Match (uppers before) c (uppers behind)) → ((x z : List Sym) → Match x [] z → ⊥) → NoneOverlap Match u
    → IsDirectedBy Match symbols Replaces way u w ↔ IsRewritten symbols Replaces (AppliesOn Match) false u w

-- where each match is one symbol, directed rules relate what the obligatory rule without a direction does, and all ways the same
abbrev pub DirectedAgreeOnSymbols : Type 1
DirectedAgreeOnSymbols =
    (Match : List Sym → List Sym → List Sym → Type 0) (Replaces : List (Piece Sym) → List Sym → List Sym → List (Piece Sym) → Type 0) (symbols : List Sym) (way other : Way) (u w : List Sym)
    → ((before behind : List (Piece Sym)) (c r : List Sym) → Replaces before c r behind → Match (uppers before) c (uppers behind)) → ((x c z : List Sym) → Match x c z → (s : Sym) × (c ≡ s ∷ []))
    → (IsDirectedBy Match symbols Replaces way u w ↔ IsRewritten symbols Replaces (AppliesOn Match) false u w)
    × (IsDirectedBy Match symbols Replaces way u w ↔ IsDirectedBy Match symbols Replaces other u w)
