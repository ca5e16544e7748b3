-- The terms of nodes with lists, from the items of the `Vec`s that hold them.
use Rattle.std.proofs.Common.{◌≡◌, ◌==◌, Bool, true, false, List, [], ◌∷◌, length, map, Vec, vec_len, Box, Global, refl, ap, ◌∙◌, arith}
use Rattle.std.proofs.lemmas.Bool.Decides.{Decides-eqb}
use Rattle.regex_ast.specs.Terms.{Term, term, ignore, concat, terms_of, or, and, less, chain, links_of, steps, steps_by, cross_with, then as compose, only, rules, directed, contexts_of, between, mappings_of, plain, markup, insert, groups_of, then_group, maps_of, side_of, contexts_in}
use Rattle.regex_ast.specs.declared.expr.Expr.{Expr, Ignore, Concat, Chain, Only, Rules, Directed, Steps}
use Rattle.regex_ast.specs.declared.expr.Expr.TheViews.{roll-RuleSet, roll-Directed}
use Rattle.regex_ast.specs.declared.expr.Context.{Context}
use Rattle.regex_ast.specs.declared.expr.Group.{Group}
use Rattle.regex_ast.specs.declared.expr.Mapping.{Mapping, Plain, Markup, Insert}
use Rattle.regex_ast.specs.declared.expr.Link.{Link, Or, And, Less}
use Rattle.regex_ast.specs.declared.expr.Raw.{Raw}
use Rattle.regex_ast.specs.declared.expr.Way.{Way}
use Rattle.regex_ast.specs.declared.expr.Step.{Step, CrossWith, Then}
use Rattle.regex_ast.proofs.Rows.{term-Ignore, term-Concat, term-Chain, term-Only, term-Rules, term-Directed, term-Steps}
use Rattle.regex_grammar.specs.Grammar.{ignoring, side_by_side, links_by, with_links, steps_by as grammar_steps, with_steps, contexts_by, mappings_by, groups_by}
use Rattle.regex_parser.specs.Values.{link_value, step_value, context_value, mapping_value, group_value}

-- a first expression and others behind it, in one `Vec`
pub term-ignoring : (first : Expr Raw) (more : List (Expr Raw)) (row : Vec (Expr Raw) Global) → row.items ≡ first ∷ more → (more ≡ [] → ⊥) → term (Ignore row) ≡ ignoring (term first) (map term more)
term-ignoring first [] row e some = absurd (some refl)
term-ignoring first (next ∷ more) row e some = term-Ignore row ∙ ap (λ es. ignore (terms_of (map term es))) e

pub term-side_by_side : (first : Expr Raw) (more : List (Expr Raw)) (row : Vec (Expr Raw) Global) → row.items ≡ first ∷ more → (more ≡ [] → ⊥) → term (Concat row) ≡ side_by_side (term first) (map term more)
term-side_by_side first [] row e some = absurd (some refl)
term-side_by_side first (next ∷ more) row e some = term-Concat row ∙ ap (λ es. concat (terms_of (map term es))) e

links_same : (ls : List (Link Raw)) → links_of ls ≡ links_by (map link_value ls)
links_same [] = refl
links_same (Or e ∷ ls) = ap (or (term e)) (links_same ls)
links_same (And e ∷ ls) = ap (and (term e)) (links_same ls)
links_same (Less e ∷ ls) = ap (less (term e)) (links_same ls)

linked : (t : Term Raw) (ls : List (Link Raw)) → (ls ≡ [] → ⊥) → chain t (links_of ls) ≡ with_links t (map link_value ls)
linked t [] some = absurd (some refl)
linked t (l ∷ ls) some = ap (chain t) (links_same (l ∷ ls))

-- a first expression and the links behind it
pub term-with_links : (first : Box (Expr Raw) Global) (e : Expr Raw) (more : Vec (Link Raw) Global) → first.value ≡ e → (more.items ≡ [] → ⊥) → term (Chain first more) ≡ with_links (term e) (map link_value more.items)
term-with_links first e more same some = term-Chain first more ∙ ap (λ f. chain (term f) (links_of more.items)) same ∙ linked (term e) more.items some

steps_same : (ss : List (Step Raw)) → steps_by ss ≡ grammar_steps (map step_value ss)
steps_same [] = refl
steps_same (CrossWith e ∷ ss) = ap (cross_with (term e)) (steps_same ss)
steps_same (Then e ∷ ss) = ap (compose (term e)) (steps_same ss)

stepped : (t : Term Raw) (ss : List (Step Raw)) → (ss ≡ [] → ⊥) → steps t (steps_by ss) ≡ with_steps t (map step_value ss)
stepped t [] some = absurd (some refl)
stepped t (s ∷ ss) some = ap (steps t) (steps_same (s ∷ ss))

-- a first expression and the steps behind it
pub term-with_steps : (first : Box (Expr Raw) Global) (e : Expr Raw) (more : Vec (Step Raw) Global) → first.value ≡ e → (more.items ≡ [] → ⊥) → term (Steps first more) ≡ with_steps (term e) (map step_value more.items)
term-with_steps first e more same some = term-Steps first more ∙ ap (λ f. steps (term f) (steps_by more.items)) same ∙ stepped (term e) more.items some

-- a `Vec` that isn't empty has items
pub not_none : {X : Type 0} (v : Vec X Global) → false ≡ (vec_len v == 0) → v.items ≡ [] → ⊥
not_none v some none = let zero_long : (vec_len v == 0) ≡ true = (Decides-eqb (vec_len v) 0).1 (omega (arith, v.ok, ap length none)) in let clash : false ≡ true = some ∙ zero_long in cc

contexts_same : (cs : List (Context Raw)) → contexts_of cs ≡ contexts_by (map context_value cs)
contexts_same [] = refl
contexts_same (c ∷ cs) = ap (between (term c.left) (term c.right)) (contexts_same cs)

pub term-restriction : (centre : Box (Expr Raw) Global) (e : Expr Raw) (allowed : Vec (Context Raw) Global) → centre.value ≡ e → term (Only centre allowed) ≡ only (term e) (contexts_by (map context_value allowed.items))
term-restriction centre e allowed same = term-Only centre allowed ∙ ap (λ f. only (term f) (contexts_of allowed.items)) same ∙ ap (only (term e)) (contexts_same allowed.items)

mappings_same : (ms : List (Mapping Raw)) → mappings_of ms ≡ mappings_by (map mapping_value ms)
mappings_same [] = refl
mappings_same (Plain c r ∷ ms) = ap (plain (term c) (term r)) (mappings_same ms)
mappings_same (Markup c b a ∷ ms) = ap (markup (term c) (term b) (term a)) (mappings_same ms)
mappings_same (Insert r ∷ ms) = ap (insert (term r)) (mappings_same ms)

groups_same : (gs : List (Group Raw)) → groups_of gs ≡ groups_by (map group_value gs)
groups_same [] = refl
groups_same (g ∷ gs) =
    ap (λ ms. then_group ms (side_of g) (contexts_of (contexts_in g)) (groups_of gs)) (mappings_same (maps_of g))
    ∙ ap (λ cs. then_group (mappings_by (map mapping_value (maps_of g))) (side_of g) cs (groups_of gs)) (contexts_same (contexts_in g))
    ∙ ap (then_group (mappings_by (map mapping_value (maps_of g))) (side_of g) (contexts_by (map context_value (contexts_in g)))) (groups_same gs)

pub term-rules : (optional : Bool) (all : Vec (Group Raw) Global) → term (Rules (roll-RuleSet Raw (record { optional = optional; groups = all }))) ≡ rules optional (groups_by (map group_value all.items))
term-rules optional all = term-Rules optional all ∙ ap (rules optional) (groups_same all.items)

pub term-directed : (way : Way) (maps : Vec (Mapping Raw) Global) (all : Vec (Context Raw) Global) → term (Directed (roll-Directed Raw (record { way = way; maps = maps; contexts = all }))) ≡ directed way (mappings_by (map mapping_value maps.items)) (contexts_by (map context_value all.items))
term-directed way maps all = term-Directed way maps all ∙ ap (λ ms. directed way ms (contexts_of all.items)) (mappings_same maps.items) ∙ ap (directed way (mappings_by (map mapping_value maps.items))) (contexts_same all.items)
