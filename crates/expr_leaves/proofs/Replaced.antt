-- Expressions whose leaves are replaced, item by item.
use Rattle.std.proofs.Common.{◌≡◌}
use Rattle.regex_ast.specs.declared.expr.Context.{Context}
use Rattle.regex_ast.specs.declared.expr.Group.{Group}
use Rattle.regex_ast.specs.declared.expr.Link.{Link, Or, And, Less}
use Rattle.regex_ast.specs.declared.expr.Mapping.{Mapping, Plain, Markup, Insert}
use Rattle.regex_ast.specs.declared.expr.Step.{Step, CrossWith, Then}
use Rattle.regex_ast.specs.Terms.{Links, Contexts, Steps, Mappings, Groups, term, maps_of, side_of, contexts_in, mappings_of, contexts_of, or, and, less, between, cross_with, then, plain, markup, insert, then_group}
use Rattle.expr_leaves.specs.Mapped.{mapped_contexts, mapped_groups, mapped_links, mapped_mappings, mapped_steps}

-- an item of a row in front of others
abbrev pub link_before : {A : Type 0} → Link A → Links A → Links A
link_before (Or e) rest = or (term e) rest
link_before (And e) rest = and (term e) rest
link_before (Less e) rest = less (term e) rest

abbrev pub step_before : {A : Type 0} → Step A → Steps A → Steps A
step_before (CrossWith e) rest = cross_with (term e) rest
step_before (Then e) rest = then (term e) rest

abbrev pub context_before : {A : Type 0} → Context A → Contexts A → Contexts A
context_before c rest = between (term c.left) (term c.right) rest

abbrev pub mapping_before : {A : Type 0} → Mapping A → Mappings A → Mappings A
mapping_before (Plain c r) rest = plain (term c) (term r) rest
mapping_before (Markup c b a) rest = markup (term c) (term b) (term a) rest
mapping_before (Insert r) rest = insert (term r) rest

abbrev pub group_before : {A : Type 0} → Group A → Groups A → Groups A
group_before g rest = then_group (mappings_of (maps_of g)) (side_of g) (contexts_of (contexts_in g)) rest

-- the item stands for the other one, its leaves mapped
abbrev pub IsLinkOf : {A B : Type 0} → (A → B) → Link A → Link B → Type 0
IsLinkOf {A} f old new = (rest : Links A) → link_before new (mapped_links f rest) ≡ mapped_links f (link_before old rest)

abbrev pub IsStepOf : {A B : Type 0} → (A → B) → Step A → Step B → Type 0
IsStepOf {A} f old new = (rest : Steps A) → step_before new (mapped_steps f rest) ≡ mapped_steps f (step_before old rest)

abbrev pub IsContextOf : {A B : Type 0} → (A → B) → Context A → Context B → Type 0
IsContextOf {A} f old new = (rest : Contexts A) → context_before new (mapped_contexts f rest) ≡ mapped_contexts f (context_before old rest)

abbrev pub IsMappingOf : {A B : Type 0} → (A → B) → Mapping A → Mapping B → Type 0
IsMappingOf {A} f old new = (rest : Mappings A) → mapping_before new (mapped_mappings f rest) ≡ mapped_mappings f (mapping_before old rest)

abbrev pub IsGroupOf : {A B : Type 0} → (A → B) → Group A → Group B → Type 0
IsGroupOf {A} f old new = (rest : Groups A) → group_before new (mapped_groups f rest) ≡ mapped_groups f (group_before old rest)
