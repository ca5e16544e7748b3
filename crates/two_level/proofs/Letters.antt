-- Strings of pairs as strings that may have the edge, and their letters.
use Rattle.std.proofs.Common.{◌≡◌, ◌<◌, ◌≤◌, ◌+◌, ℕ, List, [], ◌∷◌, ◌++◌, length, take, drop, get_or, arith, refl, sym, ap, ◌∙◌, length-append}
use Rattle.std.specs.List.{Contains}
use Rattle.std.proofs.lemmas.List.{take-append-drop}
use Rattle.std.proofs.lemmas.List.Elements.{All-nil, All-cons, All-head, All-tail, All-append, All-weaker}
use Rattle.fsm_base.specs.declared.letters.Bound.{Bound}
use Rattle.fsm_base.specs.declared.letters.Bound.TheVariants.{Edge, Inner}
use Rattle.word_relations.specs.Words.{IsOver, IsDistinct}
use Rattle.word_relations.proofs.Members.{Contains-head, Contains-tail, Contains-map, Contains-map_cases}
use Rattle.expr_meaning.specs.Operators.{inner}
use Rattle.network_algebra.specs.Networks.{all_letters}
use Rattle.network_sets.proofs.Inside.{distinct_map, distinct_more}

module _ {L : Type 0} (letters : List L) where
  -- a string over the letters, as one that may have the edge, and back
  pub inner_over : (u : List L) → IsOver letters u → IsOver (inner letters) (inner u)
  inner_over [] over = All-nil (Contains (inner letters))
  inner_over (x ∷ u) over =
      All-cons (Contains (inner letters)) (Inner x) (inner u) (Contains-map Inner letters x (All-head (Contains letters) x u over)) (inner_over u (All-tail (Contains letters) x u over))

  pub over_inner : (w : List (Bound L)) → IsOver (inner letters) w → (u : List L) × (w ≡ inner u) × IsOver letters u
  over_inner [] over = ([], refl, All-nil (Contains letters))
  over_inner (x ∷ w) over =
      let r = Contains-map_cases Inner letters x (All-head (Contains (inner letters)) x w over) in
      let rest = over_inner w (All-tail (Contains (inner letters)) x w over) in
      (r.0 ∷ rest.0, ap (λ z. z ∷ w) (sym r.2) ∙ ap (λ z. Inner r.0 ∷ z) rest.1, All-cons (Contains letters) r.0 rest.0 r.1 rest.2)

  pub inside_all : (x : Bound L) → Contains (inner letters) x → Contains (all_letters letters) x
  inside_all x h = Contains-tail Edge (inner letters) x h

  pub edge_among : Contains (all_letters letters) Edge
  edge_among = Contains-head Edge (inner letters)

  pub all_over : (u : List L) → IsOver letters u → IsOver (all_letters letters) (inner u)
  all_over u over = All-weaker (Contains (inner letters)) (Contains (all_letters letters)) inside_all (inner u) (inner_over u over)

  -- with the edge before and behind
  pub edge_before : (u : List L) → IsOver letters u → IsOver (all_letters letters) (Edge ∷ inner u)
  edge_before u over = All-cons (Contains (all_letters letters)) Edge (inner u) edge_among (all_over u over)

  pub edge_behind : (u : List L) → IsOver letters u → IsOver (all_letters letters) (inner u ++ Edge ∷ [])
  edge_behind u over = All-append (Contains (all_letters letters)) (inner u) (Edge ∷ []) (all_over u over) (All-cons (Contains (all_letters letters)) Edge [] edge_among (All-nil (Contains (all_letters letters))))

  inner_apart : (x y : L) → Inner x ≡ Inner y → x ≡ y
  inner_apart x y e = cc

  edge_apart : (x : L) → Inner x ≡ Edge → ⊥
  edge_apart x e = cc

  no_edge_inside : Contains (inner letters) Edge → ⊥
  no_edge_inside h = let r = Contains-map_cases Inner letters Edge h in edge_apart r.0 r.2

  pub all_distinct : IsDistinct letters → IsDistinct (all_letters letters)
  all_distinct distinct = distinct_more Edge (inner letters) no_edge_inside (distinct_map Inner inner_apart letters distinct)

-- different strings are different as ones with the edge behind them
pub inner_same : {L : Type 0} (x y : List L) → inner x ≡ inner y → x ≡ y
inner_same [] [] is = refl
inner_same [] (b ∷ y) is = let e : [] ≡ Inner b ∷ inner y = is in absurd (cc)
inner_same (a ∷ x) [] is = let e : Inner a ∷ inner x ≡ [] = is in absurd (cc)
inner_same (a ∷ x) (b ∷ y) is =
    let e : Inner a ∷ inner x ≡ Inner b ∷ inner y = is in
    let head : a ≡ b = cc in
    let tail : inner x ≡ inner y = cc in
    ap (λ z. z ∷ x) head ∙ ap (λ z. b ∷ z) (inner_same x y tail)

pub ended_same : {L : Type 0} (x y : List L) → inner x ++ Edge ∷ [] ≡ inner y ++ Edge ∷ [] → x ≡ y
ended_same [] [] is = refl
ended_same [] (b ∷ y) is = let e : Edge ∷ [] ≡ Inner b ∷ (inner y ++ Edge ∷ []) = is in absurd (cc)
ended_same (a ∷ x) [] is = let e : Inner a ∷ (inner x ++ Edge ∷ []) ≡ Edge ∷ [] = is in absurd (cc)
ended_same (a ∷ x) (b ∷ y) is =
    let e : Inner a ∷ (inner x ++ Edge ∷ []) ≡ Inner b ∷ (inner y ++ Edge ∷ []) = is in
    let head : a ≡ b = cc in
    let tail : inner x ++ Edge ∷ [] ≡ inner y ++ Edge ∷ [] = cc in
    ap (λ z. z ∷ x) head ∙ ap (λ z. b ∷ z) (ended_same x y tail)

-- rows of nothing, of one, and in two parts
pub no_item : {X : Type 0} (xs : List X) → length xs < 1 → xs ≡ []
no_item [] few = refl
no_item (x ∷ xs) few = absurd (omega arith)

pub one_item : {X : Type 0} (xs : List X) (first : X) → 1 ≤ length xs → length xs < 2 → first ≡ get_or xs 0 first → xs ≡ first ∷ []
one_item [] first some few is = absurd (omega arith)
one_item (x ∷ []) first some few is = ap (λ z. z ∷ []) (sym is)
one_item (x ∷ y ∷ xs) first some few is = absurd (omega arith)

pub halves_joined : {X : Type 0} (front back whole : List X) (n : ℕ) → front ≡ take n whole → back ≡ drop n whole → front ++ back ≡ whole
halves_joined front back whole n first second = ap (λ z. z ++ back) first ∙ ap (λ z. take n whole ++ z) second ∙ take-append-drop n whole

pub length_joined : {X : Type 0} (front back whole : List X) → front ++ back ≡ whole → length front + length back ≡ length whole
length_joined front back whole is = sym (length-append front back) ∙ ap length is
