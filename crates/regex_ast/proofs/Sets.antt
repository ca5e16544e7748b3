-- Rows of rules, directed rules and groups by the items of the `Vec`s that hold them.
use Rattle.std.proofs.Common.{◌≡◌, sym, ap, ◌∙◌}
use Rattle.regex_ast.specs.Terms.{term, rules, directed, maps_of, contexts_in, mappings_of, contexts_of, groups_of}
use Rattle.regex_ast.specs.declared.expr.Raw.{Raw}
use Rattle.regex_ast.specs.declared.expr.Expr.{Rules, Directed, items_hidden-the_row-Context-2}
use Rattle.regex_ast.specs.declared.expr.Expr.TheViews.{out-RuleSet, roll-out-RuleSet, out-Directed, roll-out-Directed, out-Group, roll-Group, roll-out-Group}
use Rattle.regex_ast.specs.declared.expr.RuleSet.{RuleSet}
use Rattle.regex_ast.specs.declared.expr.Directed as directed_set
use Rattle.regex_ast.specs.declared.expr.Group.{Group, items_hidden-the_row-Mapping-4}
use Rattle.regex_ast.proofs.Rows.{term-Rules, term-Directed}

-- what stands for a set of rules
pub term_rules : (r : RuleSet Raw) → term (Rules r) ≡ rules (out-RuleSet Raw r).optional (groups_of (out-RuleSet Raw r).groups.items)
term_rules r = ap (λ s. term (Rules s)) (sym (roll-out-RuleSet Raw r)) ∙ term-Rules (out-RuleSet Raw r).optional (out-RuleSet Raw r).groups

-- and for a directed rule
pub term_directed : (d : directed_set.Directed Raw) → term (Directed d) ≡ directed (out-Directed Raw d).way (mappings_of (out-Directed Raw d).maps.items) (contexts_of (out-Directed Raw d).contexts.items)
term_directed d = ap (λ s. term (Directed s)) (sym (roll-out-Directed Raw d)) ∙ term-Directed (out-Directed Raw d).way (out-Directed Raw d).maps (out-Directed Raw d).contexts

pub maps_of_is : (g : Group Raw) → maps_of g ≡ (out-Group Raw g).maps.items
unfolding roll-Group denote.Hole.Carrier.roll
maps_of_is g = ap (λ (s : Group Raw). maps_of s) (sym (roll-out-Group Raw g)) ∙ items_hidden-the_row-Mapping-4 Raw (out-Group Raw g).maps

pub contexts_in_is : (g : Group Raw) → contexts_in g ≡ (out-Group Raw g).contexts.items
unfolding roll-Group denote.Hole.Carrier.roll
contexts_in_is g = ap (λ (s : Group Raw). contexts_in s) (sym (roll-out-Group Raw g)) ∙ items_hidden-the_row-Context-2 Raw (out-Group Raw g).contexts
