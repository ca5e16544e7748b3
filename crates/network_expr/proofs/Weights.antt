-- How much a term weighs: more than its operands together. The recursion over expressions ends by it.
use Rattle.std.proofs.Common.{◌≡◌, ℕ, ◌+◌, ◌<◌, List, [], ◌∷◌, ◌++◌, length, map, ap, sym, ◌∙◌, arith}
use Rattle.std.proofs.lemmas.List.{map-append}
use Rattle.regex_ast.specs.Terms.{Term, term, group, maybe, not_one, cross, suffixed, prefixed, ignore, concat, chain, only, rules, directed, steps, Terms, no_term, then_term, Links, no_link, or, and, less, Contexts, no_context, between, Steps, no_step, cross_with, then, Mappings, no_mapping, plain, markup, insert, Groups, no_group, then_group, terms_of, links_of, contexts_of, steps_by}
use Rattle.regex_ast.specs.declared.expr.Atom.{Atom}
use Rattle.regex_ast.specs.declared.expr.Expr.{Expr}
use Rattle.regex_ast.specs.declared.expr.Link.{Link, Or, And, Less}
use Rattle.regex_ast.specs.declared.expr.Step.{Step, CrossWith, Then}
use Rattle.regex_ast.specs.declared.expr.Context.{Context}

abbrev mutual
  pub weight : {A : Type 0} → Term A → ℕ
  weight (group e) = weight e + 4
  weight (maybe e) = weight e + 4
  weight (not_one n e) = weight e + 4
  weight (cross e f) = weight e + weight f + 4
  weight (suffixed e suffixes) = weight e + 4
  weight (prefixed prefixes e) = weight e + 4
  weight (ignore es) = weight_each es + 4
  weight (concat es) = weight_each es + 4
  weight (chain e links) = weight e + weight_links links + 4
  weight (only e contexts) = weight e + weight_contexts contexts + 4
  weight (rules optional groups) = weight_groups groups + 4
  weight (directed way maps contexts) = weight_mappings maps + weight_contexts contexts + 4
  weight (steps e more) = weight e + weight_steps more + 4
  weight _ = 0

  pub weight_each : {A : Type 0} → Terms A → ℕ
  weight_each no_term = 0
  weight_each (then_term e es) = weight e + 3 + weight_each es

  pub weight_links : {A : Type 0} → Links A → ℕ
  weight_links no_link = 0
  weight_links (or e links) = weight e + 3 + weight_links links
  weight_links (and e links) = weight e + 3 + weight_links links
  weight_links (less e links) = weight e + 3 + weight_links links

  pub weight_contexts : {A : Type 0} → Contexts A → ℕ
  weight_contexts no_context = 0
  weight_contexts (between l r contexts) = weight l + weight r + 3 + weight_contexts contexts

  pub weight_steps : {A : Type 0} → Steps A → ℕ
  weight_steps no_step = 0
  weight_steps (cross_with e more) = weight e + 3 + weight_steps more
  weight_steps (then e more) = weight e + 3 + weight_steps more

  pub weight_mappings : {A : Type 0} → Mappings A → ℕ
  weight_mappings no_mapping = 0
  weight_mappings (plain c r maps) = weight c + weight r + 3 + weight_mappings maps
  weight_mappings (markup c b a maps) = weight c + weight b + weight a + 3 + weight_mappings maps
  weight_mappings (insert r maps) = weight r + 3 + weight_mappings maps

  pub weight_groups : {A : Type 0} → Groups A → ℕ
  weight_groups no_group = 0
  weight_groups (then_group maps side contexts groups) = weight_mappings maps + weight_contexts contexts + weight_groups groups

-- the weight of a row is that of its parts
each_append : (xs ys : List (Term Atom)) → weight_each (terms_of (xs ++ ys)) ≡ weight_each (terms_of xs) + weight_each (terms_of ys)
each_append [] ys = omega arith
each_append (x ∷ xs) ys = omega (arith, each_append xs ys)

links_append : (xs ys : List (Link Atom)) → weight_links (links_of (xs ++ ys)) ≡ weight_links (links_of xs) + weight_links (links_of ys)
links_append [] ys = omega arith
links_append (Or e ∷ xs) ys = omega (arith, links_append xs ys)
links_append (And e ∷ xs) ys = omega (arith, links_append xs ys)
links_append (Less e ∷ xs) ys = omega (arith, links_append xs ys)

contexts_append : (xs ys : List (Context Atom)) → weight_contexts (contexts_of (xs ++ ys)) ≡ weight_contexts (contexts_of xs) + weight_contexts (contexts_of ys)
contexts_append [] ys = omega arith
contexts_append (c ∷ xs) ys = omega (arith, contexts_append xs ys)

-- a row that isn't empty weighs something
each_some : (xs : List (Term Atom)) → 0 < length xs → 0 < weight_each (terms_of xs)
each_some [] some = absurd (omega arith)
each_some (x ∷ xs) some = omega arith

links_some : (xs : List (Link Atom)) → 0 < length xs → 0 < weight_links (links_of xs)
links_some [] some = absurd (omega arith)
links_some (Or e ∷ xs) some = omega arith
links_some (And e ∷ xs) some = omega arith
links_some (Less e ∷ xs) some = omega arith

contexts_some : (xs : List (Context Atom)) → 0 < length xs → 0 < weight_contexts (contexts_of xs)
contexts_some [] some = absurd (omega arith)
contexts_some (c ∷ xs) some = omega arith

-- each half of a row weighs less, where neither is empty
abbrev pub EachLighter : {X : Type 0} → (List X → ℕ) → List X → List X → List X → Type 0
EachLighter weigh whole front back = (weigh front < weigh whole) × (weigh back < weigh whole)

halves : {X : Type 0} (weigh : List X → ℕ) (front back whole : List X) → front ++ back ≡ whole → weigh (front ++ back) ≡ weigh front + weigh back → 0 < weigh front → 0 < weigh back → EachLighter weigh whole front back
halves weigh front back whole is sum first second =
    let total : weigh whole ≡ weigh front + weigh back = sym (ap weigh is) ∙ sum in
    (omega (arith, total, first, second), omega (arith, total, first, second))

pub each_halves : (front back whole : List (Expr Atom)) → front ++ back ≡ whole → 0 < length front → 0 < length back → EachLighter (λ (xs : List (Expr Atom)). weight_each (terms_of (map term xs))) whole front back
each_halves front back whole is first second =
    halves (λ (xs : List (Expr Atom)). weight_each (terms_of (map term xs))) front back whole is
    (ap (λ (z : List (Term Atom)). weight_each (terms_of z)) (map-append term front back) ∙ each_append (map term front) (map term back)) (some front first) (some back second)
  where
    some : (xs : List (Expr Atom)) → 0 < length xs → 0 < weight_each (terms_of (map term xs))
    some [] h = absurd (omega arith)
    some (x ∷ xs) h = omega arith

pub links_halves : (front back whole : List (Link Atom)) → front ++ back ≡ whole → 0 < length front → 0 < length back → EachLighter (λ (xs : List (Link Atom)). weight_links (links_of xs)) whole front back
links_halves front back whole is first second = halves (λ (xs : List (Link Atom)). weight_links (links_of xs)) front back whole is (links_append front back) (links_some front first) (links_some back second)

pub contexts_halves : (front back whole : List (Context Atom)) → front ++ back ≡ whole → 0 < length front → 0 < length back → EachLighter (λ (xs : List (Context Atom)). weight_contexts (contexts_of xs)) whole front back
contexts_halves front back whole is first second = halves (λ (xs : List (Context Atom)). weight_contexts (contexts_of xs)) front back whole is (contexts_append front back) (contexts_some front first) (contexts_some back second)

-- an operand with the operator before it
abbrev pub link_weight : Link Atom → ℕ
link_weight (Or e) = weight (term e) + 2
link_weight (And e) = weight (term e) + 2
link_weight (Less e) = weight (term e) + 2

abbrev pub step_weight : Step Atom → ℕ
step_weight (CrossWith e) = weight (term e) + 2
step_weight (Then e) = weight (term e) + 2

pub link_lighter : (link : Link Atom) → link_weight link < weight_links (links_of (link ∷ []))
link_lighter (Or e) = omega arith
link_lighter (And e) = omega arith
link_lighter (Less e) = omega arith

pub step_lighter : (step : Step Atom) → step_weight step < weight_steps (steps_by (step ∷ []))
step_lighter (CrossWith e) = omega arith
step_lighter (Then e) = omega arith
