-- The terms of nodes with lists, from the items of the `Vec`s that hold them.
use Rattle.std.proofs.Common.{◌≡◌, Bool, List, [], map, Vec, Box, Global, refl, ap, ◌∙◌}
use Rattle.regex_ast.specs.Terms.{Term, empty, term, terms, then_term, ignore, concat, chain, links, or, and, less, only, contexts, between, rules, directed, groups, then_group, mappings, plain, markup, insert, steps, steps_of, cross_with, then as compose, terms_of, links_of, contexts_of, steps_by, mappings_of, groups_of}
use Rattle.regex_ast.specs.declared.expr.Expr.{Expr, Ignore, Ignore', Concat, Concat', Chain, Chain', Only, Only', Rules, Directed, Steps, Steps', Row_of-Context, end_of-Context, more_of-Context, items-the_row-Context, items_hidden-the_row-Context-2, Row_of-Step, end_of-Step, more_of-Step, items-the_row-Step, items_hidden-the_row-Step-3, Row_of-Expr, items_hidden-the_row-Expr-0, end_of-Expr, more_of-Expr, items-the_row-Expr, Row_of-Link, end_of-Link, more_of-Link, items-the_row-Link, items_hidden-the_row-Link-1}
use Rattle.regex_ast.specs.declared.expr.Context.{Context}
use Rattle.regex_ast.specs.declared.expr.Way.{Way}
use Rattle.regex_ast.specs.declared.expr.Directed.{Directed' as Directed_of, items_hidden-the_row-Mapping-4, roll-Directed}
use Rattle.regex_ast.specs.declared.expr.Directed as directed_set
use Rattle.regex_ast.specs.declared.expr.Group.{Group, Group' as Group_of, Row_of-Mapping, end_of-Mapping, more_of-Mapping, items-the_row-Mapping}
use Rattle.regex_ast.specs.declared.expr.Link.{Link, Or, And, Less}
use Rattle.regex_ast.specs.declared.expr.Mapping.{Mapping, Plain, Markup, Insert}
use Rattle.regex_ast.specs.declared.expr.RuleSet.{RuleSet, RuleSet', Row_of-Group, end_of-Group, more_of-Group, items-the_row-Group, items_hidden-the_row-Group-5, roll-RuleSet}
use Rattle.regex_ast.specs.declared.expr.Step.{Step, CrossWith, Then}

terms_of_row : {A : Type 0} {n : _} → (row : Row_of-Expr A n) → terms row ≡ terms_of (map term (items-the_row-Expr A n row))
terms_of_row end_of-Expr = refl
terms_of_row (more_of-Expr e row) = ap (then_term (term e)) (terms_of_row row)

links_of_row : {A : Type 0} {n : _} → (row : Row_of-Link A n) → links row ≡ links_of (items-the_row-Link A n row)
links_of_row end_of-Link = refl
links_of_row (more_of-Link (Or e) row) = ap (or (term e)) (links_of_row row)
links_of_row (more_of-Link (And e) row) = ap (and (term e)) (links_of_row row)
links_of_row (more_of-Link (Less e) row) = ap (less (term e)) (links_of_row row)

contexts_of_row : {A : Type 0} {n : _} → (row : Row_of-Context A n) → contexts row ≡ contexts_of (items-the_row-Context A n row)
contexts_of_row end_of-Context = refl
contexts_of_row (more_of-Context l r row) = ap (between (term l) (term r)) (contexts_of_row row)

steps_of_row : {A : Type 0} {n : _} → (row : Row_of-Step A n) → steps_of row ≡ steps_by (items-the_row-Step A n row)
steps_of_row end_of-Step = refl
steps_of_row (more_of-Step (CrossWith e) row) = ap (cross_with (term e)) (steps_of_row row)
steps_of_row (more_of-Step (Then e) row) = ap (compose (term e)) (steps_of_row row)

mappings_of_row : {A : Type 0} {n : _} → (row : Row_of-Mapping A n) → mappings row ≡ mappings_of (items-the_row-Mapping A n row)
mappings_of_row end_of-Mapping = refl
mappings_of_row (more_of-Mapping (Plain c r) row) = ap (plain (term c) (term r)) (mappings_of_row row)
mappings_of_row (more_of-Mapping (Markup c b a) row) = ap (markup (term c) (term b) (term a)) (mappings_of_row row)
mappings_of_row (more_of-Mapping (Insert r) row) = ap (insert (term r)) (mappings_of_row row)

groups_of_row : {A : Type 0} {n : _} → (row : Row_of-Group A n) → groups row ≡ groups_of (items-the_row-Group A n row)
groups_of_row end_of-Group = refl
groups_of_row {A} (more_of-Group (Group_of shape maps side shape' all) row) =
    ap (λ ms. then_group ms side (contexts all) (groups row)) (mappings_of_row maps)
    ∙ ap (λ cs. then_group (mappings_of (items-the_row-Mapping A _ maps)) side cs (groups row)) (contexts_of_row all)
    ∙ ap (then_group (mappings_of (items-the_row-Mapping A _ maps)) side (contexts_of (items-the_row-Context A _ all))) (groups_of_row row)

abbrev items_of : {A : Type 0} → Expr A → List (Expr A)
items_of {A} (Concat' shape row) = items-the_row-Expr A _ row
items_of {A} (Ignore' shape row) = items-the_row-Expr A _ row
items_of _ = []

abbrev IsConcat : {A : Type 0} → Expr A → Type 0
IsConcat (Concat' shape row) = Unit {0}
IsConcat _ = ⊥

term_items : {A : Type 0} (e : Expr A) → IsConcat e → term e ≡ concat (terms_of (map term (items_of e)))
term_items (Concat' shape row) h = ap concat (terms_of_row row)
term_items _ h = absurd h

-- what stands for the expressions of a `Vec` side by side
pub term-Concat : {A : Type 0} (parts : Vec (Expr A) Global) → term (Concat parts) ≡ concat (terms_of (map term parts.items))
term-Concat {A} parts = term_items (Concat parts) tt ∙ ap (λ v. concat (terms_of (map term v))) (items_hidden-the_row-Expr-0 A parts)

abbrev links_in : {A : Type 0} → Expr A → List (Link A)
links_in {A} (Chain' p e shape row) = items-the_row-Link A _ row
links_in _ = []

abbrev first_in : {A : Type 0} → Expr A → Term A
first_in (Chain' p e shape row) = term e
first_in _ = empty

abbrev IsChain : {A : Type 0} → Expr A → Type 0
IsChain (Chain' p e shape row) = Unit {0}
IsChain _ = ⊥

term_links : {A : Type 0} (e : Expr A) → IsChain e → term e ≡ chain (first_in e) (links_of (links_in e))
term_links (Chain' p e shape row) h = ap (chain (term e)) (links_of_row row)
term_links _ h = absurd h

-- what stands for an operand and the operands of a `Vec` in a row
pub term-Chain : {A : Type 0} (first : Box (Expr A) Global) (operands : Vec (Link A) Global) → term (Chain first operands) ≡ chain (term first.value) (links_of operands.items)
term-Chain {A} first operands = term_links (Chain first operands) tt ∙ ap (λ v. chain (term first.value) (links_of v)) (items_hidden-the_row-Link-1 A operands)

abbrev IsIgnore : {A : Type 0} → Expr A → Type 0
IsIgnore (Ignore' shape row) = Unit {0}
IsIgnore _ = ⊥

ignored_items : {A : Type 0} (e : Expr A) → IsIgnore e → term e ≡ ignore (terms_of (map term (items_of e)))
ignored_items (Ignore' shape row) h = ap ignore (terms_of_row row)
ignored_items _ h = absurd h

-- what stands for the expressions of a `Vec` with `/` between them
pub term-Ignore : {A : Type 0} (parts : Vec (Expr A) Global) → term (Ignore parts) ≡ ignore (terms_of (map term parts.items))
term-Ignore {A} parts = ignored_items (Ignore parts) tt ∙ ap (λ v. ignore (terms_of (map term v))) (items_hidden-the_row-Expr-0 A parts)

abbrev contexts_below : {A : Type 0} → Expr A → List (Context A)
contexts_below {A} (Only' p e shape row) = items-the_row-Context A _ row
contexts_below _ = []

abbrev centre_in : {A : Type 0} → Expr A → Term A
centre_in (Only' p e shape row) = term e
centre_in _ = empty

abbrev IsOnly : {A : Type 0} → Expr A → Type 0
IsOnly (Only' p e shape row) = Unit {0}
IsOnly _ = ⊥

term_contexts : {A : Type 0} (e : Expr A) → IsOnly e → term e ≡ only (centre_in e) (contexts_of (contexts_below e))
term_contexts (Only' p e shape row) h = ap (only (term e)) (contexts_of_row row)
term_contexts _ h = absurd h

-- what stands for a restriction to the contexts of a `Vec`
pub term-Only : {A : Type 0} (centre : Box (Expr A) Global) (allowed : Vec (Context A) Global) → term (Only centre allowed) ≡ only (term centre.value) (contexts_of allowed.items)
term-Only {A} centre allowed = term_contexts (Only centre allowed) tt ∙ ap (λ v. only (term centre.value) (contexts_of v)) (items_hidden-the_row-Context-2 A allowed)

abbrev steps_in : {A : Type 0} → Expr A → List (Step A)
steps_in {A} (Steps' p e shape row) = items-the_row-Step A _ row
steps_in _ = []

abbrev start_in : {A : Type 0} → Expr A → Term A
start_in (Steps' p e shape row) = term e
start_in _ = empty

abbrev IsSteps : {A : Type 0} → Expr A → Type 0
IsSteps (Steps' p e shape row) = Unit {0}
IsSteps _ = ⊥

term_steps : {A : Type 0} (e : Expr A) → IsSteps e → term e ≡ steps (start_in e) (steps_by (steps_in e))
term_steps (Steps' p e shape row) h = ap (steps (term e)) (steps_of_row row)
term_steps _ h = absurd h

-- what stands for an operand and the steps of a `Vec` behind it
pub term-Steps : {A : Type 0} (first : Box (Expr A) Global) (more : Vec (Step A) Global) → term (Steps first more) ≡ steps (term first.value) (steps_by more.items)
term-Steps {A} first more = term_steps (Steps first more) tt ∙ ap (λ v. steps (term first.value) (steps_by v)) (items_hidden-the_row-Step-3 A more)

abbrev groups_below : {A : Type 0} → RuleSet A → List (Group A)
groups_below {A} (RuleSet' optional shape row) = items-the_row-Group A _ row

abbrev optional_in : {A : Type 0} → RuleSet A → Bool
optional_in (RuleSet' optional shape row) = optional

term_groups : {A : Type 0} (set : RuleSet A) → term (Rules set) ≡ rules (optional_in set) (groups_of (groups_below set))
term_groups (RuleSet' optional shape row) = ap (rules optional) (groups_of_row row)

-- what stands for a set of rules with the groups of a `Vec`
pub term-Rules : {A : Type 0} (optional : Bool) (all : Vec (Group A) Global) → term (Rules (roll-RuleSet A (record { optional = optional; groups = all }))) ≡ rules optional (groups_of all.items)
unfolding roll-RuleSet denote.Hole.Carrier.roll
term-Rules {A} optional all = term_groups (roll-RuleSet A (record { optional = optional; groups = all })) ∙ ap (λ v. rules optional (groups_of v)) (items_hidden-the_row-Group-5 A all)

abbrev maps_below : {A : Type 0} → directed_set.Directed A → List (Mapping A)
maps_below {A} (Directed_of way shape maps shape' all) = items-the_row-Mapping A _ maps

abbrev contexts_beside : {A : Type 0} → directed_set.Directed A → List (Context A)
contexts_beside {A} (Directed_of way shape maps shape' all) = items-the_row-Context A _ all

abbrev way_in : {A : Type 0} → directed_set.Directed A → Way
way_in (Directed_of way shape maps shape' all) = way

term_parts : {A : Type 0} (set : directed_set.Directed A) → term (Directed set) ≡ directed (way_in set) (mappings_of (maps_below set)) (contexts_of (contexts_beside set))
term_parts {A} (Directed_of way shape maps shape' all) =
    ap (λ ms. directed way ms (contexts all)) (mappings_of_row maps) ∙ ap (directed way (mappings_of (items-the_row-Mapping A _ maps))) (contexts_of_row all)

-- what stands for a directed rule with the mappings and the contexts of `Vec`s
pub term-Directed : {A : Type 0} (way : Way) (maps : Vec (Mapping A) Global) (all : Vec (Context A) Global) → term (Directed (roll-Directed A (record { way = way; maps = maps; contexts = all }))) ≡ directed way (mappings_of maps.items) (contexts_of all.items)
unfolding roll-Directed denote.Hole.Carrier.roll
term-Directed {A} way maps all =
    term_parts (roll-Directed A (record { way = way; maps = maps; contexts = all }))
    ∙ ap (λ v. directed way (mappings_of v) (contexts_of (contexts_beside (roll-Directed A (record { way = way; maps = maps; contexts = all }))))) (items_hidden-the_row-Mapping-4 A maps)
    ∙ ap (λ v. directed way (mappings_of maps.items) (contexts_of v)) (items_hidden-the_row-Context-2 A all)
