-- Insertions among the items of a node.
use Rattle.std.proofs.Common.{◌≡◌, ◌<◌, ◌≤◌, ◌+◌, ◌&&◌, ℕ, Bool, false, not, List, [], ◌∷◌, length, drop, get_or, refl, sym, ap, ◌∙◌, arith}
use Rattle.std.proofs.lemmas.List.{at_drop_more}
use Rattle.regex_ast.specs.Terms.{mappings_of, groups_of}
use Rattle.regex_ast.specs.declared.expr.Expr.TheViews.{out-Group}
use Rattle.regex_ast.specs.declared.expr.Group.{Group}
use Rattle.regex_ast.specs.declared.expr.Mapping.{Mapping, Plain, Markup, Insert}
use Rattle.expr_kinds.specs.Built.{has_no_insertion, holds_insertion, is_insertion, is_insertion_alone}
use Rattle.expr_kinds.proofs.Sets.{maps_of_is}

-- two mappings or more aren't one
pub none_alone : {A : Type 0} (maps : List (Mapping A)) → 2 ≤ length maps → false ≡ is_insertion_alone (mappings_of maps)
none_alone [] many = refl
none_alone (Plain c r ∷ maps) many = refl
none_alone (Markup c b a ∷ maps) many = refl
none_alone (Insert r ∷ []) many = absurd (omega arith)
none_alone (Insert r ∷ Plain c d ∷ maps) many = refl
none_alone (Insert r ∷ Markup c b a ∷ maps) many = refl
none_alone (Insert r ∷ Insert d ∷ maps) many = refl

-- nor are two groups or more
pub no_one_group : {A : Type 0} (groups : List (Group A)) → 2 ≤ length groups → false ≡ is_insertion (groups_of groups)
no_one_group [] many = refl
no_one_group (g ∷ []) many = absurd (omega arith)
no_one_group (g ∷ h ∷ groups) many = refl

-- one group, and then the others
group_first : {A : Type 0} (g : Group A) (groups : List (Group A)) → has_no_insertion (groups_of (g ∷ groups)) ≡ not (holds_insertion (mappings_of (out-Group A g).maps.items)) && has_no_insertion (groups_of groups)
group_first {A} g groups = ap (λ maps. not (holds_insertion (mappings_of maps)) && has_no_insertion (groups_of groups)) (maps_of_is g)

-- the groups that are left, where this is the next and these are its mappings
pub group_next : {A : Type 0} (groups : List (Group A)) (i : ℕ) (g : Group A) (maps : List (Mapping A)) (holds : Bool) → i < length groups → g ≡ get_or groups i g → maps ≡ (out-Group A g).maps.items → holds ≡ holds_insertion (mappings_of maps)
    → has_no_insertion (groups_of (drop i groups)) ≡ not holds && has_no_insertion (groups_of (drop (i + 1) groups))
group_next {A} groups i g maps holds within at is told =
    at_drop_more (λ (xs : List (Group A)). has_no_insertion (groups_of xs)) groups i g within
    ∙ ap (λ (x : Group A). has_no_insertion (groups_of (x ∷ drop (i + 1) groups))) (sym at)
    ∙ group_first g (drop (i + 1) groups)
    ∙ ap (λ (b : Bool). not b && has_no_insertion (groups_of (drop (i + 1) groups))) (sym (told ∙ ap (λ (ms : List (Mapping A)). holds_insertion (mappings_of ms)) is))
