-- Rows of rules, directed rules and groups by the items of the `Vec`s that hold them.
use Rattle.std.proofs.Common.{◌≡◌, ℕ, ◌+◌, ◌<◌, ◌≤◌, List, length, get_or, sym, ap, ◌∙◌, arith}
use denote.Param.Weighed.{most, at_most}
use Rattle.regex_ast.specs.Terms.{term, rules, directed, then_group, maps_of, side_of, contexts_in, mappings_of, contexts_of, groups_of}
use Rattle.expr_leaves.specs.Mapped.{mapped_contexts, mapped_groups, mapped_mappings}
use Rattle.expr_leaves.proofs.Replaced.{IsGroupOf}
use Rattle.regex_ast.specs.declared.expr.Expr.{Expr, Rules, Directed, items_hidden-the_row-Context-2}
use Rattle.regex_ast.specs.declared.expr.Expr.TheViews.{out-RuleSet, roll-out-RuleSet, out-Directed, roll-out-Directed, out-Group, size-Group, roll-Group, roll-out-Group, size-Expr, size-Context, size_is-Directed, sized-Directed}
use Rattle.regex_ast.specs.declared.expr.RuleSet.{RuleSet}
use Rattle.regex_ast.specs.declared.expr.Directed as directed_set
use Rattle.regex_ast.specs.declared.expr.Group.{Group, items_hidden-the_row-Mapping-4}
use Rattle.regex_ast.proofs.Rows.{term-Rules, term-Directed}

-- what stands for a set of rules
pub term_rules : {A : Type 0} (r : RuleSet A) → term (Rules r) ≡ rules (out-RuleSet A r).optional (groups_of (out-RuleSet A r).groups.items)
term_rules {A} r = ap (λ (s : RuleSet A). term (Rules s)) (sym (roll-out-RuleSet A r)) ∙ term-Rules (out-RuleSet A r).optional (out-RuleSet A r).groups

-- and for a directed rule
pub term_directed : {A : Type 0} (d : directed_set.Directed A) → term (Directed d) ≡ directed (out-Directed A d).way (mappings_of (out-Directed A d).maps.items) (contexts_of (out-Directed A d).contexts.items)
term_directed {A} d = ap (λ (s : directed_set.Directed A). term (Directed s)) (sym (roll-out-Directed A d)) ∙ term-Directed (out-Directed A d).way (out-Directed A d).maps (out-Directed A d).contexts

pub maps_of_is : {A : Type 0} (g : Group A) → maps_of g ≡ (out-Group A g).maps.items
unfolding roll-Group denote.Hole.Carrier.roll
maps_of_is {A} g = ap (λ (s : Group A). maps_of s) (sym (roll-out-Group A g)) ∙ items_hidden-the_row-Mapping-4 A (out-Group A g).maps

pub contexts_in_is : {A : Type 0} (g : Group A) → contexts_in g ≡ (out-Group A g).contexts.items
unfolding roll-Group denote.Hole.Carrier.roll
contexts_in_is {A} g = ap (λ (s : Group A). contexts_in s) (sym (roll-out-Group A g)) ∙ items_hidden-the_row-Context-2 A (out-Group A g).contexts

pub side_of_is : {A : Type 0} (g : Group A) → side_of g ≡ (out-Group A g).side
unfolding roll-Group denote.Hole.Carrier.roll
side_of_is {A} g = ap (λ (s : Group A). side_of s) (sym (roll-out-Group A g))

-- a group whose parts are those of another one, with other leaves, stands for it
pub group_made : {A B : Type 0} (f : A → B) (old : Group A) (new : Group B) → mappings_of (maps_of new) ≡ mapped_mappings f (mappings_of (maps_of old)) → side_of new ≡ side_of old
    → contexts_of (contexts_in new) ≡ mapped_contexts f (contexts_of (contexts_in old)) → IsGroupOf f old new
group_made f old new maps side contexts = λ rest i. then_group (maps i) (side i) (contexts i) (mapped_groups f rest)

-- no group of a row is larger than the row's largest
pub size_in : {A : Type 0} (gs : List (Group A)) (i : ℕ) (g : Group A) → i < length gs → g ≡ get_or gs i g → size-Group A g ≤ most (size-Group A) gs
size_in {A} gs i g below is = omega (arith, at_most {X = Group A} (size-Group A) gs i g below, ap (size-Group A) is)

-- the contexts of a directed rule are smaller than the rule
pub contexts_smaller : {A : Type 0} (e : Expr A) (d : directed_set.Directed A) → e ≡ Directed d → 2 + most (size-Context A) (out-Directed A d).contexts.items ≤ size-Expr A e
contexts_smaller {A} e d is = omega (arith, ap (size-Expr A) is, sized-Directed A d, size_is-Directed A d)
