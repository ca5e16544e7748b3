-- How much a term weighs: more than its operands together. The recursion over expressions ends by it.
use Rattle.std.proofs.Common.{◌≡◌, ℕ, zero, suc, ◌+◌, ◌<◌, ◌≤◌, List, [], ◌∷◌, ◌++◌, length, get_or, map, ap, sym, ◌∙◌, arith}
use Rattle.std.proofs.lemmas.List.{map-append}
use Rattle.regex_ast.specs.Terms.{Term, term, group, maybe, not_one, suffixed, prefixed, ignore, concat, chain, Terms, no_term, then_term, Links, no_link, or, and, less, terms_of, links_of}
use Rattle.regex_ast.specs.declared.expr.Expr.{Expr}
use Rattle.regex_ast.specs.declared.expr.Link.{Link, Or, And, Less}

abbrev mutual
  pub weight : {A : Type 0} → Term A → ℕ
  weight (group e) = weight e + 4
  weight (maybe e) = weight e + 4
  weight (not_one n e) = weight e + 4
  weight (suffixed e suffixes) = weight e + 4
  weight (prefixed prefixes e) = weight e + 4
  weight (ignore es) = weight_each es + 4
  weight (concat es) = weight_each es + 4
  weight (chain e links) = weight e + weight_links links + 4
  weight _ = 0

  pub weight_each : {A : Type 0} → Terms A → ℕ
  weight_each no_term = 0
  weight_each (then_term e es) = weight e + 3 + weight_each es

  pub weight_links : {A : Type 0} → Links A → ℕ
  weight_links no_link = 0
  weight_links (or e links) = weight e + 3 + weight_links links
  weight_links (and e links) = weight e + 3 + weight_links links
  weight_links (less e links) = weight e + 3 + weight_links links

-- the weight of a row is that of its parts
each_append : {A : Type 0} (xs ys : List (Term A)) → weight_each (terms_of (xs ++ ys)) ≡ weight_each (terms_of xs) + weight_each (terms_of ys)
each_append [] ys = omega arith
each_append (x ∷ xs) ys = omega (arith, each_append xs ys)

links_append : {A : Type 0} (xs ys : List (Link A)) → weight_links (links_of (xs ++ ys)) ≡ weight_links (links_of xs) + weight_links (links_of ys)
links_append [] ys = omega arith
links_append (Or e ∷ xs) ys = omega (arith, links_append xs ys)
links_append (And e ∷ xs) ys = omega (arith, links_append xs ys)
links_append (Less e ∷ xs) ys = omega (arith, links_append xs ys)

-- a row that isn't empty weighs something
links_some : {A : Type 0} (xs : List (Link A)) → 0 < length xs → 0 < weight_links (links_of xs)
links_some [] some = absurd (omega arith)
links_some (Or e ∷ xs) some = omega arith
links_some (And e ∷ xs) some = omega arith
links_some (Less e ∷ xs) some = omega arith

-- each half of a row weighs less, where neither is empty
abbrev pub EachLighter : {X : Type 0} → (List X → ℕ) → List X → List X → List X → Type 0
EachLighter weigh whole front back = (weigh front < weigh whole) × (weigh back < weigh whole)

halves : {X : Type 0} (weigh : List X → ℕ) (front back whole : List X) → front ++ back ≡ whole → weigh (front ++ back) ≡ weigh front + weigh back → 0 < weigh front → 0 < weigh back → EachLighter weigh whole front back
halves weigh front back whole is sum first second =
    let total : weigh whole ≡ weigh front + weigh back = sym (ap weigh is) ∙ sum in
    (omega (arith, total, first, second), omega (arith, total, first, second))

pub each_halves : {A : Type 0} (front back whole : List (Expr A)) → front ++ back ≡ whole → 0 < length front → 0 < length back → EachLighter (λ (xs : List (Expr A)). weight_each (terms_of (map term xs))) whole front back
each_halves {A} front back whole is first second =
    halves (λ (xs : List (Expr A)). weight_each (terms_of (map term xs))) front back whole is
    (ap (λ (z : List (Term A)). weight_each (terms_of z)) (map-append term front back) ∙ each_append (map term front) (map term back)) (some front first) (some back second)
  where
    some : (xs : List (Expr A)) → 0 < length xs → 0 < weight_each (terms_of (map term xs))
    some [] h = absurd (omega arith)
    some (x ∷ xs) h = omega arith

pub links_halves : {A : Type 0} (front back whole : List (Link A)) → front ++ back ≡ whole → 0 < length front → 0 < length back → EachLighter (λ (xs : List (Link A)). weight_links (links_of xs)) whole front back
links_halves {A} front back whole is first second = halves (λ (xs : List (Link A)). weight_links (links_of xs)) front back whole is (links_append front back) (links_some front first) (links_some back second)

-- an operand of a row weighs less than the row
pub operand_lighter : {A : Type 0} (xs : List (Expr A)) (most i : ℕ) (d : Expr A) → i < length xs → weight_each (terms_of (map term xs)) ≤ most → weight (term (get_or xs i d)) < most
operand_lighter [] most i d within light = absurd (omega arith)
operand_lighter (x ∷ xs) most zero d within light = omega (arith, light)
operand_lighter (x ∷ xs) most (suc i) d within light = operand_lighter xs most i d (omega arith) (omega (arith, light))

-- an operand with the operator before it
abbrev pub link_weight : {A : Type 0} → Link A → ℕ
link_weight (Or e) = weight (term e) + 2
link_weight (And e) = weight (term e) + 2
link_weight (Less e) = weight (term e) + 2

pub link_lighter : {A : Type 0} (link : Link A) → link_weight link < weight_links (links_of (link ∷ []))
link_lighter (Or e) = omega arith
link_lighter (And e) = omega arith
link_lighter (Less e) = omega arith
