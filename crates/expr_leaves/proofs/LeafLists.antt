-- The leaves of the items of a list, item by item.
use Rattle.std.proofs.Common.{◌≡◌, ◌+◌, ◌<◌, ℕ, List, [], ◌∷◌, ◌++◌, map, length, drop, get_or, refl, sym, ap, ◌∙◌, append_assoc, append-nil}
use Rattle.word_relations.proofs.Behind.{left_behind}
use Rattle.regex_ast.specs.Terms.{Term, term, terms_of, links_of, contexts_of, steps_by, mappings_of, groups_of, maps_of, contexts_in}
use Rattle.regex_ast.specs.declared.expr.Expr.{Expr}
use Rattle.regex_ast.specs.declared.expr.Context.{Context}
use Rattle.regex_ast.specs.declared.expr.Group.{Group}
use Rattle.regex_ast.specs.declared.expr.Link.{Link, Or, And, Less}
use Rattle.regex_ast.specs.declared.expr.Step.{Step, CrossWith, Then}
use Rattle.regex_ast.specs.declared.expr.Mapping.{Mapping, Plain, Markup, Insert}
use Rattle.expr_leaves.specs.Leaves.{leaves_in, leaves_in_each, leaves_in_links, leaves_in_contexts, leaves_in_steps, leaves_in_mappings, leaves_in_groups}

pub each_left : {A : Type 0} (operands : List (Expr A)) (i : ℕ) (operand : Expr A) → i < length operands → operand ≡ get_or operands i operand
    → leaves_in_each (terms_of (map term (drop i operands))) ≡ leaves_in (term operand) ++ leaves_in_each (terms_of (map term (drop (i + 1) operands)))
each_left {A} operands i operand below is = ap (λ (z : List (Expr A)). leaves_in_each (terms_of (map term z))) (left_behind operands i operand below is)

-- the terms of operands
abbrev pub operand_term : {A : Type 0} → Link A → Term A
operand_term (Or e) = term e
operand_term (And e) = term e
operand_term (Less e) = term e

abbrev pub step_term : {A : Type 0} → Step A → Term A
step_term (CrossWith e) = term e
step_term (Then e) = term e

pub links_left : {A : Type 0} (links : List (Link A)) (i : ℕ) (link : Link A) → i < length links → link ≡ get_or links i link
    → leaves_in_links (links_of (drop i links)) ≡ leaves_in (operand_term link) ++ leaves_in_links (links_of (drop (i + 1) links))
links_left {A} links i link below is = ap (λ (z : List (Link A)). leaves_in_links (links_of z)) (left_behind links i link below is) ∙ by link
  where
    by : (l : Link A) → leaves_in_links (links_of (l ∷ drop (i + 1) links)) ≡ leaves_in (operand_term l) ++ leaves_in_links (links_of (drop (i + 1) links))
    by (Or e) = refl
    by (And e) = refl
    by (Less e) = refl

pub steps_left : {A : Type 0} (steps : List (Step A)) (i : ℕ) (step : Step A) → i < length steps → step ≡ get_or steps i step
    → leaves_in_steps (steps_by (drop i steps)) ≡ leaves_in (step_term step) ++ leaves_in_steps (steps_by (drop (i + 1) steps))
steps_left {A} steps i step below is = ap (λ (z : List (Step A)). leaves_in_steps (steps_by z)) (left_behind steps i step below is) ∙ by step
  where
    by : (s : Step A) → leaves_in_steps (steps_by (s ∷ drop (i + 1) steps)) ≡ leaves_in (step_term s) ++ leaves_in_steps (steps_by (drop (i + 1) steps))
    by (CrossWith e) = refl
    by (Then e) = refl

pub contexts_left : {A : Type 0} (contexts : List (Context A)) (i : ℕ) (context : Context A) → i < length contexts → context ≡ get_or contexts i context
    → leaves_in_contexts (contexts_of (drop i contexts)) ≡ (leaves_in (term context.left) ++ leaves_in (term context.right)) ++ leaves_in_contexts (contexts_of (drop (i + 1) contexts))
contexts_left {A} contexts i context below is = ap (λ (z : List (Context A)). leaves_in_contexts (contexts_of z)) (left_behind contexts i context below is)

-- the leaves of a group: those of its mappings, and those of its contexts
pub group_alone : {A : Type 0} (g : Group A) → leaves_in_groups (groups_of (g ∷ [])) ≡ leaves_in_mappings (mappings_of (maps_of g)) ++ leaves_in_contexts (contexts_of (contexts_in g))
group_alone g = append-nil (leaves_in_mappings (mappings_of (maps_of g)) ++ leaves_in_contexts (contexts_of (contexts_in g)))

group_first : {A : Type 0} (g : Group A) (groups : List (Group A)) → leaves_in_groups (groups_of (g ∷ groups)) ≡ leaves_in_groups (groups_of (g ∷ [])) ++ leaves_in_groups (groups_of groups)
group_first {A} g groups = ap (λ (z : List A). z ++ leaves_in_groups (groups_of groups)) (sym (group_alone g))

pub groups_left : {A : Type 0} (groups : List (Group A)) (i : ℕ) (group : Group A) → i < length groups → group ≡ get_or groups i group
    → leaves_in_groups (groups_of (drop i groups)) ≡ leaves_in_groups (groups_of (group ∷ [])) ++ leaves_in_groups (groups_of (drop (i + 1) groups))
groups_left {A} groups i group below is = ap (λ (z : List (Group A)). leaves_in_groups (groups_of z)) (left_behind groups i group below is) ∙ group_first group (drop (i + 1) groups)

mapping_first : {A : Type 0} (m : Mapping A) (maps : List (Mapping A)) → leaves_in_mappings (mappings_of (m ∷ maps)) ≡ leaves_in_mappings (mappings_of (m ∷ [])) ++ leaves_in_mappings (mappings_of maps)
mapping_first (Plain c r) maps = simp (append_assoc, append-nil)
mapping_first (Markup c b a) maps = simp (append_assoc, append-nil)
mapping_first (Insert r) maps = simp (append_assoc, append-nil)

pub mappings_left : {A : Type 0} (maps : List (Mapping A)) (i : ℕ) (m : Mapping A) → i < length maps → m ≡ get_or maps i m
    → leaves_in_mappings (mappings_of (drop i maps)) ≡ leaves_in_mappings (mappings_of (m ∷ [])) ++ leaves_in_mappings (mappings_of (drop (i + 1) maps))
mappings_left {A} maps i m below is = ap (λ (z : List (Mapping A)). leaves_in_mappings (mappings_of z)) (left_behind maps i m below is) ∙ mapping_first m (drop (i + 1) maps)
