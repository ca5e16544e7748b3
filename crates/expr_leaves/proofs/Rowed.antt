-- Rows that are made item by item: what was made stands in front of what is left to make.
use Rattle.std.proofs.Common.{◌≡◌, ◌+◌, ◌<◌, ◌≤◌, ℕ, List, [], ◌∷◌, ◌++◌, length, drop, get_or, map, refl, sym, ap, ◌∙◌}
use Rattle.std.proofs.lemmas.List.{drop_all}
use Rattle.word_relations.proofs.Behind.{left_behind}
use Rattle.regex_ast.specs.Terms.{Terms, term, terms_of, links_of, contexts_of, steps_by, mappings_of, groups_of, then_term, no_term, or, and, less, cross_with, then, no_link, no_context, no_step, no_mapping, no_group}
use Rattle.regex_ast.specs.declared.expr.Expr.{Expr}
use Rattle.regex_ast.specs.declared.expr.Context.{Context}
use Rattle.regex_ast.specs.declared.expr.Group.{Group}
use Rattle.regex_ast.specs.declared.expr.Link.{Link, Or, And, Less}
use Rattle.regex_ast.specs.declared.expr.Mapping.{Mapping, Plain, Markup, Insert}
use Rattle.regex_ast.specs.declared.expr.Step.{Step, CrossWith, Then}
use Rattle.expr_leaves.specs.Mapped.{mapped, mapped_each, mapped_links, mapped_contexts, mapped_steps, mapped_mappings, mapped_groups}
use Rattle.expr_leaves.proofs.Replaced.{link_before, step_before, context_before, mapping_before, group_before, IsLinkOf, IsStepOf, IsContextOf, IsMappingOf, IsGroupOf}

-- items in front of a row
abbrev pub onto : {Y S : Type 0} → (Y → S → S) → List Y → S → S
onto put [] rest = rest
onto put (y ∷ ys) rest = put y (onto put ys rest)

onto-append : {Y S : Type 0} (put : Y → S → S) (ys : List Y) (y : Y) (rest : S) → onto put (ys ++ y ∷ []) rest ≡ onto put ys (put y rest)
onto-append put [] y rest = refl
onto-append put (x ∷ ys) y rest = ap (put x) (onto-append put ys y rest)

abbrev pub expr_before : {A : Type 0} → Expr A → Terms A → Terms A
expr_before e rest = then_term (term e) rest

-- one item more is made
module _ {X Y R S : Type 0} (row : List X → R) (put : X → R → R) (put_made : Y → S → S) (made : R → S)
    (row_first : (x : X) (xs : List X) → row (x ∷ xs) ≡ put x (row xs)) where
  more : (xs : List X) (i : ℕ) (x : X) (found new : List Y) (y : Y) → i < length xs → x ≡ get_or xs i x → new ≡ found ++ y ∷ []
      → ((rest : R) → put_made y (made rest) ≡ made (put x rest))
      → onto put_made found (made (row (drop i xs))) ≡ made (row xs) → onto put_made new (made (row (drop (i + 1) xs))) ≡ made (row xs)
  more xs i x found new y below is new_is stands so_far =
      ap (λ (z : List Y). onto put_made z (made (row (drop (i + 1) xs)))) new_is
      ∙ onto-append put_made found y (made (row (drop (i + 1) xs)))
      ∙ ap (onto put_made found) (stands (row (drop (i + 1) xs)) ∙ ap made (sym (row_first x (drop (i + 1) xs)) ∙ ap row (sym (left_behind xs i x below is))))
      ∙ so_far

  ended : (xs : List X) (i : ℕ) (found : List Y) (all none : S) → length xs ≤ i → made (row []) ≡ none → all ≡ onto put_made found none
      → onto put_made found (made (row (drop i xs))) ≡ made (row xs) → all ≡ made (row xs)
  ended xs i found all none over none_is all_is so_far =
      all_is ∙ ap (onto put_made found) (sym none_is ∙ ap (λ (z : List X). made (row z)) (sym (drop_all i xs over))) ∙ so_far

each_all : {A : Type 0} (found : List (Expr A)) → terms_of (map term found) ≡ onto expr_before found no_term
each_all [] = refl
each_all (e ∷ es) = ap (then_term (term e)) (each_all es)

links_first : {A : Type 0} (l : Link A) (ls : List (Link A)) → links_of (l ∷ ls) ≡ link_before l (links_of ls)
links_first (Or e) ls = refl
links_first (And e) ls = refl
links_first (Less e) ls = refl

links_all : {A : Type 0} (found : List (Link A)) → links_of found ≡ onto link_before found no_link
links_all [] = refl
links_all (l ∷ ls) = links_first l ls ∙ ap (link_before l) (links_all ls)

steps_first : {A : Type 0} (s : Step A) (ss : List (Step A)) → steps_by (s ∷ ss) ≡ step_before s (steps_by ss)
steps_first (CrossWith e) ss = refl
steps_first (Then e) ss = refl

steps_all : {A : Type 0} (found : List (Step A)) → steps_by found ≡ onto step_before found no_step
steps_all [] = refl
steps_all (s ∷ ss) = steps_first s ss ∙ ap (step_before s) (steps_all ss)

contexts_all : {A : Type 0} (found : List (Context A)) → contexts_of found ≡ onto context_before found no_context
contexts_all [] = refl
contexts_all (c ∷ cs) = ap (context_before c) (contexts_all cs)

mappings_first : {A : Type 0} (m : Mapping A) (ms : List (Mapping A)) → mappings_of (m ∷ ms) ≡ mapping_before m (mappings_of ms)
mappings_first (Plain c r) ms = refl
mappings_first (Markup c b a) ms = refl
mappings_first (Insert r) ms = refl

mappings_all : {A : Type 0} (found : List (Mapping A)) → mappings_of found ≡ onto mapping_before found no_mapping
mappings_all [] = refl
mappings_all (m ∷ ms) = mappings_first m ms ∙ ap (mapping_before m) (mappings_all ms)

groups_all : {A : Type 0} (found : List (Group A)) → groups_of found ≡ onto group_before found no_group
groups_all [] = refl
groups_all (g ∷ gs) = ap (group_before g) (groups_all gs)

module _ {A B : Type 0} (f : A → B) where
  pub each_more : (xs : List (Expr A)) (i : ℕ) (x : Expr A) (found new : List (Expr B)) (y : Expr B) → i < length xs → x ≡ get_or xs i x → new ≡ found ++ y ∷ []
      → term y ≡ mapped f (term x)
      → onto expr_before found (mapped_each f (terms_of (map term (drop i xs)))) ≡ mapped_each f (terms_of (map term xs)) → onto expr_before new (mapped_each f (terms_of (map term (drop (i + 1) xs)))) ≡ mapped_each f (terms_of (map term xs))
  each_more xs i x found new y below is new_is same = more (λ z. terms_of (map term z)) expr_before expr_before (mapped_each f) (λ x xs. refl) xs i x found new y below is new_is (λ rest. ap (λ t. then_term t (mapped_each f rest)) same)

  pub each_ended : (xs : List (Expr A)) (i : ℕ) (found : List (Expr B)) → length xs ≤ i
      → onto expr_before found (mapped_each f (terms_of (map term (drop i xs)))) ≡ mapped_each f (terms_of (map term xs))
      → terms_of (map term found) ≡ mapped_each f (terms_of (map term xs))
  each_ended xs i found over = ended (λ z. terms_of (map term z)) expr_before expr_before (mapped_each f) (λ x xs. refl) xs i found (terms_of (map term found)) no_term over refl (each_all found)

  pub links_more : (xs : List (Link A)) (i : ℕ) (x : Link A) (found new : List (Link B)) (y : Link B) → i < length xs → x ≡ get_or xs i x
      → new ≡ found ++ y ∷ [] → IsLinkOf f x y
      → onto link_before found (mapped_links f (links_of (drop i xs))) ≡ mapped_links f (links_of xs) → onto link_before new (mapped_links f (links_of (drop (i + 1) xs))) ≡ mapped_links f (links_of xs)
  links_more = more links_of link_before link_before (mapped_links f) links_first

  pub links_ended : (xs : List (Link A)) (i : ℕ) (found : List (Link B)) → length xs ≤ i
      → onto link_before found (mapped_links f (links_of (drop i xs))) ≡ mapped_links f (links_of xs) → links_of found ≡ mapped_links f (links_of xs)
  links_ended xs i found over = ended links_of link_before link_before (mapped_links f) links_first xs i found (links_of found) no_link over refl (links_all found)

  pub steps_more : (xs : List (Step A)) (i : ℕ) (x : Step A) (found new : List (Step B)) (y : Step B) → i < length xs → x ≡ get_or xs i x
      → new ≡ found ++ y ∷ [] → IsStepOf f x y
      → onto step_before found (mapped_steps f (steps_by (drop i xs))) ≡ mapped_steps f (steps_by xs) → onto step_before new (mapped_steps f (steps_by (drop (i + 1) xs))) ≡ mapped_steps f (steps_by xs)
  steps_more = more steps_by step_before step_before (mapped_steps f) steps_first

  pub steps_ended : (xs : List (Step A)) (i : ℕ) (found : List (Step B)) → length xs ≤ i
      → onto step_before found (mapped_steps f (steps_by (drop i xs))) ≡ mapped_steps f (steps_by xs) → steps_by found ≡ mapped_steps f (steps_by xs)
  steps_ended xs i found over = ended steps_by step_before step_before (mapped_steps f) steps_first xs i found (steps_by found) no_step over refl (steps_all found)

  pub contexts_more : (xs : List (Context A)) (i : ℕ) (x : Context A) (found new : List (Context B)) (y : Context B) → i < length xs → x ≡ get_or xs i x
      → new ≡ found ++ y ∷ [] → IsContextOf f x y
      → onto context_before found (mapped_contexts f (contexts_of (drop i xs))) ≡ mapped_contexts f (contexts_of xs) → onto context_before new (mapped_contexts f (contexts_of (drop (i + 1) xs))) ≡ mapped_contexts f (contexts_of xs)
  contexts_more = more contexts_of context_before context_before (mapped_contexts f) (λ x xs. refl)

  pub contexts_ended : (xs : List (Context A)) (i : ℕ) (found : List (Context B)) → length xs ≤ i
      → onto context_before found (mapped_contexts f (contexts_of (drop i xs))) ≡ mapped_contexts f (contexts_of xs)
      → contexts_of found ≡ mapped_contexts f (contexts_of xs)
  contexts_ended xs i found over = ended contexts_of context_before context_before (mapped_contexts f) (λ x xs. refl) xs i found (contexts_of found) no_context over refl (contexts_all found)

  pub mappings_more : (xs : List (Mapping A)) (i : ℕ) (x : Mapping A) (found new : List (Mapping B)) (y : Mapping B) → i < length xs → x ≡ get_or xs i x
      → new ≡ found ++ y ∷ [] → IsMappingOf f x y
      → onto mapping_before found (mapped_mappings f (mappings_of (drop i xs))) ≡ mapped_mappings f (mappings_of xs) → onto mapping_before new (mapped_mappings f (mappings_of (drop (i + 1) xs))) ≡ mapped_mappings f (mappings_of xs)
  mappings_more = more mappings_of mapping_before mapping_before (mapped_mappings f) mappings_first

  pub mappings_ended : (xs : List (Mapping A)) (i : ℕ) (found : List (Mapping B)) → length xs ≤ i
      → onto mapping_before found (mapped_mappings f (mappings_of (drop i xs))) ≡ mapped_mappings f (mappings_of xs)
      → mappings_of found ≡ mapped_mappings f (mappings_of xs)
  mappings_ended xs i found over = ended mappings_of mapping_before mapping_before (mapped_mappings f) mappings_first xs i found (mappings_of found) no_mapping over refl (mappings_all found)

  pub groups_more : (xs : List (Group A)) (i : ℕ) (x : Group A) (found new : List (Group B)) (y : Group B) → i < length xs → x ≡ get_or xs i x
      → new ≡ found ++ y ∷ [] → IsGroupOf f x y
      → onto group_before found (mapped_groups f (groups_of (drop i xs))) ≡ mapped_groups f (groups_of xs) → onto group_before new (mapped_groups f (groups_of (drop (i + 1) xs))) ≡ mapped_groups f (groups_of xs)
  groups_more = more groups_of group_before group_before (mapped_groups f) (λ x xs. refl)

  pub groups_ended : (xs : List (Group A)) (i : ℕ) (found : List (Group B)) → length xs ≤ i
      → onto group_before found (mapped_groups f (groups_of (drop i xs))) ≡ mapped_groups f (groups_of xs) → groups_of found ≡ mapped_groups f (groups_of xs)
  groups_ended xs i found over = ended groups_of group_before group_before (mapped_groups f) (λ x xs. refl) xs i found (groups_of found) no_group over refl (groups_all found)

  -- an item of the same form, whose expressions stand for those of the other with their leaves mapped
  pub is_or : (x : Link A) (e : Expr A) (y : Expr B) → x ≡ Or e → term y ≡ mapped f (term e) → IsLinkOf f x (Or y)
  is_or x e y is same = λ rest. rw is (ap (λ t. or t (mapped_links f rest)) same)

  pub is_and : (x : Link A) (e : Expr A) (y : Expr B) → x ≡ And e → term y ≡ mapped f (term e) → IsLinkOf f x (And y)
  is_and x e y is same = λ rest. rw is (ap (λ t. and t (mapped_links f rest)) same)

  pub is_less : (x : Link A) (e : Expr A) (y : Expr B) → x ≡ Less e → term y ≡ mapped f (term e) → IsLinkOf f x (Less y)
  is_less x e y is same = λ rest. rw is (ap (λ t. less t (mapped_links f rest)) same)

  pub is_cross_with : (x : Step A) (e : Expr A) (y : Expr B) → x ≡ CrossWith e → term y ≡ mapped f (term e) → IsStepOf f x (CrossWith y)
  is_cross_with x e y is same = λ rest. rw is (ap (λ t. cross_with t (mapped_steps f rest)) same)

  pub is_then : (x : Step A) (e : Expr A) (y : Expr B) → x ≡ Then e → term y ≡ mapped f (term e) → IsStepOf f x (Then y)
  is_then x e y is same = λ rest. rw is (ap (λ t. then t (mapped_steps f rest)) same)

  pub is_between : (x : Context A) (y : Context B) → term y.left ≡ mapped f (term x.left) → term y.right ≡ mapped f (term x.right) → IsContextOf f x y
  is_between x y left right = λ rest. rw (left, right) refl

  pub is_plain : (x : Mapping A) (c r : Expr A) (d s : Expr B) → x ≡ Plain c r → term d ≡ mapped f (term c) → term s ≡ mapped f (term r) → IsMappingOf f x (Plain d s)
  is_plain x c r d s is same same2 = λ rest. rw (is, same, same2) refl

  pub is_markup : (x : Mapping A) (c b a : Expr A) (d p q : Expr B) → x ≡ Markup c b a → term d ≡ mapped f (term c) → term p ≡ mapped f (term b) → term q ≡ mapped f (term a) → IsMappingOf f x (Markup d p q)
  is_markup x c b a d p q is same same2 same3 = λ rest. rw (is, same, same2, same3) refl

  pub is_insert : (x : Mapping A) (r : Expr A) (s : Expr B) → x ≡ Insert r → term s ≡ mapped f (term r) → IsMappingOf f x (Insert s)
  is_insert x r s is same = λ rest. rw (is, same) refl
