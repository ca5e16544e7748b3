-- Rules from the right are rules from the left of all words turned round.
use Rattle.std.proofs.Common.{◌≡◌, ◌<◌, List, [], ◌∷◌, ◌++◌, refl, sym, ap, subst, ◌∙◌, append_assoc, append-nil}
use Rattle.std.specs.Prelude.{reverse}
use Rattle.std.proofs.Math.Path.{subst₂}
use Rattle.std.proofs.lemmas.Grind.{flat_map-append}
use Rattle.std.proofs.lemmas.List.{reverse-append, reverse-reverse, length-reverse}
use Rattle.fsm_base.specs.declared.letters.Sym.{Sym}
use Rattle.expr_meaning.specs.Replacement.{Piece, copied, replaced, upper, lower, uppers, lowers, IsPiece, IsDerivation}
use Rattle.directed_words.specs.declared.ways.Length.{Length}
use Rattle.directed_words.specs.declared.ways.Length.TheVariants.{Longest, Shortest}
use Rattle.expr_meaning.specs.Directed.{Bars, IsDirected, AppliesOn, IsDirectedBy}
use Rattle.directed_words.specs.Laws.{AreTurned, ReplaceTurned, RightIsLeftTurned, from_left, from_right}

-- a piece turned round, and pieces
turned : Piece Sym → Piece Sym
turned (copied s) = copied s
turned (replaced c r) = replaced (reverse c) (reverse r)

abbrev turn : List (Piece Sym) → List (Piece Sym)
turn [] = []
turn (p ∷ ps) = turn ps ++ turned p ∷ []

turn_append : (a b : List (Piece Sym)) → turn (a ++ b) ≡ turn b ++ turn a
turn_append [] b = sym (append-nil (turn b))
turn_append (p ∷ a) b = ap (λ z. z ++ turned p ∷ []) (turn_append a b) ∙ append_assoc (turn b) (turn a) (turned p ∷ [])

turned_twice : (p : Piece Sym) → turned (turned p) ≡ p
unfolding turned
turned_twice (copied s) = refl
turned_twice (replaced c r) = ap (λ z. replaced z (reverse (reverse r))) (reverse-reverse c) ∙ ap (λ z. replaced c z) (reverse-reverse r)

turn_twice : (ps : List (Piece Sym)) → turn (turn ps) ≡ ps
turn_twice [] = refl
turn_twice (p ∷ ps) = turn_append (turn ps) (turned p ∷ []) ∙ ap (λ q. q ∷ turn (turn ps)) (turned_twice p) ∙ ap (λ z. p ∷ z) (turn_twice ps)

upper_turned : (p : Piece Sym) → upper (turned p) ≡ reverse (upper p)
unfolding turned
upper_turned (copied s) = refl
upper_turned (replaced c r) = refl

lower_turned : (p : Piece Sym) → lower (turned p) ≡ reverse (lower p)
unfolding turned
lower_turned (copied s) = refl
lower_turned (replaced c r) = refl

uppers_turn : (ps : List (Piece Sym)) → uppers (turn ps) ≡ reverse (uppers ps)
uppers_turn [] = refl
uppers_turn (p ∷ ps) =
    flat_map-append upper (turn ps) (turned p ∷ []) ∙ ap (λ z. uppers (turn ps) ++ z) (append-nil (upper (turned p)) ∙ upper_turned p) ∙ ap (λ z. z ++ reverse (upper p)) (uppers_turn ps)
    ∙ sym (reverse-append (upper p) (uppers ps))

lowers_turn : (ps : List (Piece Sym)) → lowers (turn ps) ≡ reverse (lowers ps)
lowers_turn [] = refl
lowers_turn (p ∷ ps) =
    flat_map-append lower (turn ps) (turned p ∷ []) ∙ ap (λ z. lowers (turn ps) ++ z) (append-nil (lower (turned p)) ∙ lower_turned p) ∙ ap (λ z. z ++ reverse (lower p)) (lowers_turn ps)
    ∙ sym (reverse-append (lower p) (lowers ps))

-- pieces turned round, in parts
turn_parts : (a : List (Piece Sym)) (p : Piece Sym) (b : List (Piece Sym)) → turn (a ++ p ∷ b) ≡ turn b ++ turned p ∷ turn a
turn_parts a p b = turn_append a (p ∷ b) ∙ append_assoc (turn b) (turned p ∷ []) (turn a)

parts_back : (ps a : List (Piece Sym)) (p : Piece Sym) (b : List (Piece Sym)) → turn ps ≡ a ++ p ∷ b → ps ≡ turn b ++ turned p ∷ turn a
parts_back ps a p b is = sym (turn_twice ps) ∙ ap turn is ∙ turn_parts a p b

two_parts : (a : List (Piece Sym)) (p q : Piece Sym) (b : List (Piece Sym)) → turn (a ++ p ∷ q ∷ b) ≡ turn b ++ turned q ∷ turned p ∷ turn a
two_parts a p q b =
    turn_parts a p (q ∷ b) ∙ append_assoc (turn b) (turned q ∷ []) (turned p ∷ turn a)

reverse_back : (a b : List Sym) → a ≡ reverse b → reverse a ≡ b
reverse_back a b is = ap reverse is ∙ reverse-reverse b

-- what turned pieces are read as, behind and before
uppers_back : (ps : List (Piece Sym)) → uppers ps ≡ reverse (uppers (turn ps))
uppers_back ps = sym (reverse_back (uppers (turn ps)) (uppers ps) (uppers_turn ps))

module _ (Match Turned : List Sym → List Sym → List Sym → Type 0) (R R' : List (Piece Sym) → List Sym → List Sym → List (Piece Sym) → Type 0) (symbols : List Sym)
    (same : (x c z : List Sym) → Match x c z → Turned (reverse z) (reverse c) (reverse x)) (back : (x c z : List Sym) → Turned (reverse z) (reverse c) (reverse x) → Match x c z)
    (there : (before behind left right : List (Piece Sym)) (c r : List Sym) → uppers left ≡ reverse (uppers behind) → uppers right ≡ reverse (uppers before) → R before c r behind → R' left (reverse c) (reverse r) right) where
  piece_turned : (before : List (Piece Sym)) (p : Piece Sym) (behind left right : List (Piece Sym)) → uppers left ≡ reverse (uppers behind) → uppers right ≡ reverse (uppers before) → IsPiece symbols R (AppliesOn Match) before p behind
      → IsPiece symbols R' (AppliesOn Turned) left (turned p) right
  unfolding turned
  piece_turned before (copied s) behind left right l r h = h
  piece_turned before (replaced c w) behind left right l r h = there before behind left right c w l r h

  derivation_turned : (ps : List (Piece Sym)) → IsDerivation symbols R (AppliesOn Match) ps → IsDerivation symbols R' (AppliesOn Turned) (turn ps)
  unfolding turned
  derivation_turned ps (each, once) = (
    λ before p behind is.
        let h = piece_turned (turn behind) (turned p) (turn before) before behind (uppers_back before) (uppers_back behind) (each (turn behind) (turned p) (turn before) (parts_back ps before p behind is)) in
        subst (λ q. IsPiece symbols R' (AppliesOn Turned) before q behind) (turned_twice p) h,
    λ before one two behind is. once (turn behind) (reverse two) (reverse one) (turn before) (sym (turn_twice ps) ∙ ap turn is ∙ two_parts before (replaced [] one) (replaced [] two) behind),
  )

  -- what is barred at a piece
  stands_turned : (before : List (Piece Sym)) (p : Piece Sym) (behind : List (Piece Sym)) (c : List Sym) → (z : List Sym) × (upper p ++ uppers behind ≡ c ++ z) × Turned (uppers before) c z
      → (x : List Sym) × (uppers (turn behind) ++ upper (turned p) ≡ x ++ reverse c) × Match x (reverse c) (uppers (turn before))
  stands_turned before p behind c (z, whole, h) = (
    reverse z,
    ap (λ u. u ++ upper (turned p)) (uppers_turn behind) ∙ ap (λ u. reverse (uppers behind) ++ u) (upper_turned p) ∙ sym (reverse-append (upper p) (uppers behind)) ∙ ap reverse whole ∙ reverse-append c z,
    back (reverse z) (reverse c) (uppers (turn before)) (subst (λ u. Turned u (reverse (reverse c)) (reverse (reverse z))) (uppers_back before) (subst₂ (λ u v. Turned (uppers before) u v) (sym (reverse-reverse c)) (sym (reverse-reverse z)) h)),
  )

  bars_turned : (size : Length) (c : List Sym) (p : Piece Sym) → Bars (from_left size) c p → Bars (from_right size) (reverse c) (turned p)
  unfolding turned
  bars_turned Longest c (copied s) h = tt
  bars_turned Shortest c (copied s) h = tt
  bars_turned Longest c (replaced b r) h = subst₂ (λ m n. m < n) (sym (length-reverse b)) (sym (length-reverse c)) h
  bars_turned Shortest c (replaced b r) h = subst₂ (λ m n. m < n) (sym (length-reverse c)) (sym (length-reverse b)) h

  directed_turned : (size : Length) (ps : List (Piece Sym)) → IsDirected Match (from_right size) ps → IsDirected Turned (from_left size) (turn ps)
  directed_turned Longest ps h before p behind c is stands bars =
      h (turn behind) (turned p) (turn before) (reverse c) (parts_back ps before p behind is) (stands_turned before p behind c stands) (bars_turned Longest c p bars)
  directed_turned Shortest ps h before p behind c is stands bars =
      h (turn behind) (turned p) (turn before) (reverse c) (parts_back ps before p behind is) (stands_turned before p behind c stands) (bars_turned Shortest c p bars)

  right_turned : (size : Length) (u w : List Sym) → IsDirectedBy Match symbols R (from_right size) u w → IsDirectedBy Turned symbols R' (from_left size) (reverse u) (reverse w)
  right_turned size u w (ps, derives, directed, up, low) = (turn ps, derivation_turned ps derives, directed_turned size ps directed, ap reverse up ∙ sym (uppers_turn ps), ap reverse low ∙ sym (lowers_turn ps))

  -- and back
  stands_left : (before : List (Piece Sym)) (p : Piece Sym) (behind : List (Piece Sym)) (c : List Sym) → (x : List Sym) × (uppers before ++ upper p ≡ x ++ c) × Match x c (uppers behind)
      → (z : List Sym) × (upper (turned p) ++ uppers (turn before) ≡ reverse c ++ z) × Turned (uppers (turn behind)) (reverse c) z
  stands_left before p behind c (x, whole, h) = (
    reverse x,
    ap (λ u. u ++ uppers (turn before)) (upper_turned p) ∙ ap (λ u. reverse (upper p) ++ u) (uppers_turn before) ∙ sym (reverse-append (uppers before) (upper p)) ∙ ap reverse whole ∙ reverse-append x c,
    subst (λ u. Turned u (reverse c) (reverse x)) (sym (uppers_turn behind)) (same x c (uppers behind) h),
  )

  bars_left : (size : Length) (c : List Sym) (p : Piece Sym) → Bars (from_right size) c p → Bars (from_left size) (reverse c) (turned p)
  unfolding turned
  bars_left Longest c (copied s) h = tt
  bars_left Shortest c (copied s) h = tt
  bars_left Longest c (replaced b r) h = subst₂ (λ m n. m < n) (sym (length-reverse b)) (sym (length-reverse c)) h
  bars_left Shortest c (replaced b r) h = subst₂ (λ m n. m < n) (sym (length-reverse c)) (sym (length-reverse b)) h

  directed_back : (size : Length) (ps : List (Piece Sym)) → IsDirected Turned (from_left size) ps → IsDirected Match (from_right size) (turn ps)
  directed_back Longest ps h before p behind c is stands bars =
      h (turn behind) (turned p) (turn before) (reverse c) (parts_back ps before p behind is) (stands_left before p behind c stands) (bars_left Longest c p bars)
  directed_back Shortest ps h before p behind c is stands bars =
      h (turn behind) (turned p) (turn before) (reverse c) (parts_back ps before p behind is) (stands_left before p behind c stands) (bars_left Shortest c p bars)

-- derivations of the turned rules, turned back
module _ (Match Turned : List Sym → List Sym → List Sym → Type 0) (R R' : List (Piece Sym) → List Sym → List Sym → List (Piece Sym) → Type 0) (symbols : List Sym) (match : AreTurned Match Turned) (replace : ReplaceTurned R R') where
  derived_back : (before behind left right : List (Piece Sym)) (c r : List Sym) → uppers left ≡ reverse (uppers behind) → uppers right ≡ reverse (uppers before) → R' before c r behind → R left (reverse c) (reverse r) right
  derived_back before behind left right c r l h is =
      (replace left right before behind (reverse c) (reverse r) (sym (reverse_back (uppers right) (uppers before) h)) (sym (reverse_back (uppers left) (uppers behind) l))).1
      (subst₂ (λ x y. R' before x y behind) (sym (reverse-reverse c)) (sym (reverse-reverse r)) is)

  match_back : (x c z : List Sym) → Turned x c z → Match (reverse z) (reverse c) (reverse x)
  match_back x c z h =
      (match (reverse z) (reverse c) (reverse x)).1
      (subst (λ u. Turned u (reverse (reverse c)) (reverse (reverse z))) (sym (reverse-reverse x)) (subst₂ (λ u v. Turned x u v) (sym (reverse-reverse c)) (sym (reverse-reverse z)) h))

  match_there : (x c z : List Sym) → Match (reverse z) (reverse c) (reverse x) → Turned x c z
  match_there x c z h =
      subst₂ (λ u v. Turned x u v) (reverse-reverse c) (reverse-reverse z) (subst (λ u. Turned u (reverse (reverse c)) (reverse (reverse z))) (reverse-reverse x) ((match (reverse z) (reverse c) (reverse x)).0 h))

  left_turned : (size : Length) (u w : List Sym) → IsDirectedBy Turned symbols R' (from_left size) (reverse u) (reverse w) → IsDirectedBy Match symbols R (from_right size) u w
  left_turned size u w (ps, derives, directed, up, low) = (
    turn ps,
    derivation_turned Turned Match R' R symbols match_back match_there derived_back ps derives,
    directed_back Match Turned R R' symbols (λ x c z. (match x c z).0) (λ x c z. (match x c z).1) (λ before behind left right c r l h. (replace before behind left right c r l h).0) size ps directed,
    sym (reverse-reverse u) ∙ ap reverse up ∙ sym (uppers_turn ps),
    sym (reverse-reverse w) ∙ ap reverse low ∙ sym (lowers_turn ps),
  )

pub right_is_left_turned : RightIsLeftTurned
right_is_left_turned Match Turned R R' symbols size u w match replace = (
  right_turned Match Turned R R' symbols (λ x c z. (match x c z).0) (λ x c z. (match x c z).1) (λ before behind left right c r l h. (replace before behind left right c r l h).0) size u w,
  left_turned Match Turned R R' symbols match replace size u w,
)
