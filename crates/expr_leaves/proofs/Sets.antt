-- Rows of rules, directed rules and groups by the items of the `Vec`s that hold them.
use Rattle.std.proofs.Common.{◌≡◌, sym, ap, ◌∙◌}
use Rattle.regex_ast.specs.Terms.{term, rules, directed, maps_of, contexts_in, mappings_of, contexts_of, groups_of}
use Rattle.regex_ast.specs.declared.expr.Expr.{Rules, Directed, items_hidden-the_row-Context-2}
use Rattle.regex_ast.specs.declared.expr.Expr.TheViews.{out-RuleSet, roll-out-RuleSet, out-Directed, roll-out-Directed, out-Group, roll-Group, roll-out-Group}
use Rattle.regex_ast.specs.declared.expr.RuleSet.{RuleSet}
use Rattle.regex_ast.specs.declared.expr.Directed as directed_set
use Rattle.regex_ast.specs.declared.expr.Group.{Group, items_hidden-the_row-Mapping-4}
use Rattle.regex_ast.proofs.Rows.{term-Rules, term-Directed}

-- what stands for a set of rules
pub term_rules : {A : Type 0} (r : RuleSet A) → term (Rules r) ≡ rules (out-RuleSet A r).optional (groups_of (out-RuleSet A r).groups.items)
term_rules {A} r = ap (λ (s : RuleSet A). term (Rules s)) (sym (roll-out-RuleSet A r)) ∙ term-Rules (out-RuleSet A r).optional (out-RuleSet A r).groups

-- and for a directed rule
pub term_directed : {A : Type 0} (d : directed_set.Directed A) → term (Directed d) ≡ directed (out-Directed A d).way (mappings_of (out-Directed A d).maps.items) (contexts_of (out-Directed A d).contexts.items)
term_directed {A} d = ap (λ (s : directed_set.Directed A). term (Directed s)) (sym (roll-out-Directed A d)) ∙ term-Directed (out-Directed A d).way (out-Directed A d).maps (out-Directed A d).contexts

pub maps_of_is : {A : Type 0} (g : Group A) → maps_of g ≡ (out-Group A g).maps.items
unfolding roll-Group denote.Hole.Carrier.roll
maps_of_is {A} g = ap (λ (s : Group A). maps_of s) (sym (roll-out-Group A g)) ∙ items_hidden-the_row-Mapping-4 A (out-Group A g).maps

pub contexts_in_is : {A : Type 0} (g : Group A) → contexts_in g ≡ (out-Group A g).contexts.items
unfolding roll-Group denote.Hole.Carrier.roll
contexts_in_is {A} g = ap (λ (s : Group A). contexts_in s) (sym (roll-out-Group A g)) ∙ items_hidden-the_row-Context-2 A (out-Group A g).contexts
