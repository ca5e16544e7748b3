-- What is found in parts one behind the other, and in the items of a row.
use Rattle.std.proofs.Common.{◌≡◌, ◌+◌, ◌<◌, ℕ, arith, Bool, true, false, ◌||◌, List, [], ◌∷◌, ◌++◌, map, length, drop, get_or, refl, sym, ap, ◌∙◌, append_assoc, append-nil}
use Rattle.std.proofs.lemmas.List.Folds.{list_any-append}
use Rattle.std.specs.List.{list_any}
use Rattle.word_relations.proofs.Behind.{left_behind}
use Rattle.regex_ast.specs.Terms.{Term, term, terms_of, links_of, contexts_of, steps_by, mappings_of, groups_of, maps_of, contexts_in}
use Rattle.regex_ast.specs.declared.expr.Raw.{Raw}
use Rattle.regex_ast.specs.declared.expr.Expr.{Expr}
use Rattle.regex_ast.specs.declared.expr.Context.{Context}
use Rattle.regex_ast.specs.declared.expr.Group.{Group}
use Rattle.regex_ast.specs.declared.expr.Link.{Link, Or, And, Less}
use Rattle.regex_ast.specs.declared.expr.Step.{Step, CrossWith, Then}
use Rattle.regex_ast.specs.declared.expr.Mapping.{Mapping, Plain, Markup, Insert}
use Rattle.regex_reader.specs.declared.findings.Findings.{Findings}
use Rattle.regex_reader.specs.Found.{found_in, either}
use Rattle.regex_reader.specs.Tests.{Node, nodes, each_of, each_link, each_context, each_step, each_mapping, each_group, is_misplaced, has_high_power, has_large_rule, context_count, mapping_count, mappings_in, contexts_in as contexts_in_all}

or_assoc : (a b c : Bool) → ((a || b) || c) ≡ (a || (b || c))
or_assoc true b c = refl
or_assoc false b c = refl

or_false : (a : Bool) → (a || false) ≡ a
or_false true = refl
or_false false = refl

made : (a b c d e f : Bool) → a ≡ d → b ≡ e → c ≡ f → ◌≡◌ {A = Findings} (record { misplaced_edge = a; high_power = b; large_rule = c }) (record { misplaced_edge = d; high_power = e; large_rule = f })
made a b c d e f p q r = rw (p, q, r) refl

pub found_in-append : (xs ys : List Node) → found_in (xs ++ ys) ≡ either (found_in xs) (found_in ys)
found_in-append xs ys = made _ _ _ _ _ _ (list_any-append is_misplaced xs ys) (list_any-append has_high_power xs ys) (list_any-append has_large_rule xs ys)

either-assoc : (a b c : Findings) → either (either a b) c ≡ either a (either b c)
either-assoc a b c = made _ _ _ _ _ _ (or_assoc a.misplaced_edge b.misplaced_edge c.misplaced_edge) (or_assoc a.high_power b.high_power c.high_power) (or_assoc a.large_rule b.large_rule c.large_rule)

either_none : (a : Findings) → either a (found_in []) ≡ a
either_none a = made _ _ _ _ _ _ (or_false a.misplaced_edge) (or_false a.high_power) (or_false a.large_rule)

-- a step of a loop over items: what was found, and what is in the rest
go_on : (found item new whole : Findings) (front rest all : List Node) → new ≡ either found item → item ≡ found_in front → all ≡ front ++ rest → either found (found_in all) ≡ whole
    → either new (found_in rest) ≡ whole
go_on found item new whole front rest all new_is item_is all_is so_far =
    ap (λ (n : Findings). either n (found_in rest)) new_is ∙ either-assoc found item (found_in rest)
    ∙ ap (λ (i : Findings). either found (either i (found_in rest))) item_is
    ∙ ap (either found) (sym (found_in-append front rest) ∙ ap found_in (sym all_is)) ∙ so_far

-- the end of the loop
pub finish : (found whole : Findings) (all : List Node) → all ≡ [] → either found (found_in all) ≡ whole → found ≡ whole
finish found whole all none so_far = sym (either_none found) ∙ ap (λ ns. either found (found_in ns)) (sym none) ∙ so_far

parts_left : (inside : Bool) (parts : List (Expr Raw)) (i : ℕ) (part : Expr Raw) → i < length parts → part ≡ get_or parts i part
    → each_of inside (terms_of (map term (drop i parts))) ≡ nodes inside (term part) ++ each_of inside (terms_of (map term (drop (i + 1) parts)))
parts_left inside parts i part below is = ap (λ (z : List (Expr Raw)). each_of inside (terms_of (map term z))) (left_behind parts i part below is)

-- the term of an operand
abbrev pub operand_term : Link Raw → Term Raw
operand_term (Or e) = term e
operand_term (And e) = term e
operand_term (Less e) = term e

links_left : (inside : Bool) (links : List (Link Raw)) (i : ℕ) (link : Link Raw) → i < length links → link ≡ get_or links i link
    → each_link inside (links_of (drop i links)) ≡ nodes inside (operand_term link) ++ each_link inside (links_of (drop (i + 1) links))
links_left inside links i link below is = ap (λ (z : List (Link Raw)). each_link inside (links_of z)) (left_behind links i link below is) ∙ by link
  where
    by : (l : Link Raw) → each_link inside (links_of (l ∷ drop (i + 1) links)) ≡ nodes inside (operand_term l) ++ each_link inside (links_of (drop (i + 1) links))
    by (Or e) = refl
    by (And e) = refl
    by (Less e) = refl

abbrev pub step_term : Step Raw → Term Raw
step_term (CrossWith e) = term e
step_term (Then e) = term e

steps_left : (inside : Bool) (steps : List (Step Raw)) (i : ℕ) (step : Step Raw) → i < length steps → step ≡ get_or steps i step
    → each_step inside (steps_by (drop i steps)) ≡ nodes inside (step_term step) ++ each_step inside (steps_by (drop (i + 1) steps))
steps_left inside steps i step below is = ap (λ (z : List (Step Raw)). each_step inside (steps_by z)) (left_behind steps i step below is) ∙ by step
  where
    by : (s : Step Raw) → each_step inside (steps_by (s ∷ drop (i + 1) steps)) ≡ nodes inside (step_term s) ++ each_step inside (steps_by (drop (i + 1) steps))
    by (CrossWith e) = refl
    by (Then e) = refl

contexts_left : (contexts : List (Context Raw)) (i : ℕ) (context : Context Raw) → i < length contexts → context ≡ get_or contexts i context
    → each_context (contexts_of (drop i contexts)) ≡ (nodes true (term context.left) ++ nodes true (term context.right)) ++ each_context (contexts_of (drop (i + 1) contexts))
contexts_left contexts i context below is = ap (λ (z : List (Context Raw)). each_context (contexts_of z)) (left_behind contexts i context below is) ∙ sym (append_assoc (nodes true (term context.left)) _ _)

groups_left : (inside : Bool) (groups : List (Group Raw)) (i : ℕ) (group : Group Raw) → i < length groups → group ≡ get_or groups i group
    → each_group inside (groups_of (drop i groups)) ≡ (each_mapping inside (mappings_of (maps_of group)) ++ each_context (contexts_of (contexts_in group))) ++ each_group inside (groups_of (drop (i + 1) groups))
groups_left inside groups i group below is = ap (λ (z : List (Group Raw)). each_group inside (groups_of z)) (left_behind groups i group below is) ∙ sym (append_assoc (each_mapping inside (mappings_of (maps_of group))) _ _)

mapping_first : (inside : Bool) (m : Mapping Raw) (maps : List (Mapping Raw)) → each_mapping inside (mappings_of (m ∷ maps)) ≡ each_mapping inside (mappings_of (m ∷ [])) ++ each_mapping inside (mappings_of maps)
mapping_first inside (Plain c r) maps = simp (append_assoc, append-nil)
mapping_first inside (Markup c b a) maps = simp (append_assoc, append-nil)
mapping_first inside (Insert r) maps = simp append-nil

mappings_left : (inside : Bool) (maps : List (Mapping Raw)) (i : ℕ) (m : Mapping Raw) → i < length maps → m ≡ get_or maps i m
    → each_mapping inside (mappings_of (drop i maps)) ≡ each_mapping inside (mappings_of (m ∷ [])) ++ each_mapping inside (mappings_of (drop (i + 1) maps))
mappings_left inside maps i m below is = ap (λ (z : List (Mapping Raw)). each_mapping inside (mappings_of z)) (left_behind maps i m below is) ∙ mapping_first inside m (drop (i + 1) maps)

-- the parts of an expression, found one behind the other
pub both : (r a b : Findings) (xs ys : List Node) → r ≡ either a b → a ≡ found_in xs → b ≡ found_in ys → r ≡ found_in (xs ++ ys)
both r a b xs ys r_is a_is b_is = r_is ∙ ap (λ (i : Findings). either i b) a_is ∙ ap (either (found_in xs)) b_is ∙ sym (found_in-append xs ys)

-- a node of rules in front of its parts
pub in_front : (node : Node) (large : Bool) (r a b : Findings) (xs : List Node) → is_misplaced node ≡ false → has_high_power node ≡ false → has_large_rule node ≡ large
    → r ≡ either a b → a ≡ record { misplaced_edge = false; high_power = false; large_rule = large } → b ≡ found_in xs → r ≡ found_in (node ∷ xs)
in_front node large r a b xs no_edge no_power is_large r_is a_is b_is =
    r_is ∙ ap (λ (i : Findings). either i b) a_is ∙ ap (either (record { misplaced_edge = false; high_power = false; large_rule = large })) b_is
    ∙ made _ _ _ _ _ _ (ap (λ v. v || list_any is_misplaced xs) (sym no_edge)) (ap (λ v. v || list_any has_high_power xs) (sym no_power)) (ap (λ v. v || list_any has_large_rule xs) (sym is_large))

pub context_count_is : (contexts : List (Context Raw)) → context_count (contexts_of contexts) ≡ length contexts
context_count_is [] = refl
context_count_is (c ∷ cs) = omega (arith, context_count_is cs)

pub mapping_count_is : (maps : List (Mapping Raw)) → mapping_count (mappings_of maps) ≡ length maps
mapping_count_is [] = refl
mapping_count_is (Plain c r ∷ maps) = omega (arith, mapping_count_is maps)
mapping_count_is (Markup c b a ∷ maps) = omega (arith, mapping_count_is maps)
mapping_count_is (Insert r ∷ maps) = omega (arith, mapping_count_is maps)

-- the mappings and contexts of the groups that are left
pub mappings_counted : (groups : List (Group Raw)) (i : ℕ) (group : Group Raw) → i < length groups → group ≡ get_or groups i group
    → mappings_in (groups_of (drop i groups)) ≡ length (maps_of group) + mappings_in (groups_of (drop (i + 1) groups))
mappings_counted groups i group below is = ap (λ (z : List (Group Raw)). mappings_in (groups_of z)) (left_behind groups i group below is) ∙ ap (λ n. n + mappings_in (groups_of (drop (i + 1) groups))) (mapping_count_is (maps_of group))

pub contexts_counted : (groups : List (Group Raw)) (i : ℕ) (group : Group Raw) → i < length groups → group ≡ get_or groups i group
    → contexts_in_all (groups_of (drop i groups)) ≡ length (contexts_in group) + contexts_in_all (groups_of (drop (i + 1) groups))
contexts_counted groups i group below is = ap (λ (z : List (Group Raw)). contexts_in_all (groups_of z)) (left_behind groups i group below is) ∙ ap (λ n. n + contexts_in_all (groups_of (drop (i + 1) groups))) (context_count_is (contexts_in group))

-- A step of the loop over each kind of row.

pub parts_go_on : (inside : Bool) (parts : List (Expr Raw)) (i : ℕ) (part : Expr Raw) (found item new : Findings) → i < length parts → part ≡ get_or parts i part → new ≡ either found item → item ≡ found_in (nodes inside (term part))
    → either found (found_in (each_of inside (terms_of (map term (drop i parts))))) ≡ found_in (each_of inside (terms_of (map term parts))) → either new (found_in (each_of inside (terms_of (map term (drop (i + 1) parts))))) ≡ found_in (each_of inside (terms_of (map term parts)))
parts_go_on inside parts i part found item new below is new_is item_is so_far =
    go_on found item new (found_in (each_of inside (terms_of (map term parts)))) (nodes inside (term part)) (each_of inside (terms_of (map term (drop (i + 1) parts)))) (each_of inside (terms_of (map term (drop i parts)))) new_is item_is (parts_left inside parts i part below is) so_far

pub links_go_on : (inside : Bool) (links : List (Link Raw)) (i : ℕ) (link : Link Raw) (t : Term Raw) (found item new : Findings) → i < length links → link ≡ get_or links i link → operand_term link ≡ t → new ≡ either found item → item ≡ found_in (nodes inside t)
    → either found (found_in (each_link inside (links_of (drop i links)))) ≡ found_in (each_link inside (links_of links)) → either new (found_in (each_link inside (links_of (drop (i + 1) links)))) ≡ found_in (each_link inside (links_of links))
links_go_on inside links i link t found item new below is operand new_is item_is so_far =
    go_on found item new (found_in (each_link inside (links_of links))) (nodes inside (operand_term link)) (each_link inside (links_of (drop (i + 1) links))) (each_link inside (links_of (drop i links))) new_is (item_is ∙ ap (λ e. found_in (nodes inside e)) (sym operand)) (links_left inside links i link below is) so_far

pub steps_go_on : (inside : Bool) (steps : List (Step Raw)) (i : ℕ) (step : Step Raw) (t : Term Raw) (found item new : Findings) → i < length steps → step ≡ get_or steps i step → step_term step ≡ t → new ≡ either found item → item ≡ found_in (nodes inside t)
    → either found (found_in (each_step inside (steps_by (drop i steps)))) ≡ found_in (each_step inside (steps_by steps)) → either new (found_in (each_step inside (steps_by (drop (i + 1) steps)))) ≡ found_in (each_step inside (steps_by steps))
steps_go_on inside steps i step t found item new below is operand new_is item_is so_far =
    go_on found item new (found_in (each_step inside (steps_by steps))) (nodes inside (step_term step)) (each_step inside (steps_by (drop (i + 1) steps))) (each_step inside (steps_by (drop i steps))) new_is (item_is ∙ ap (λ e. found_in (nodes inside e)) (sym operand)) (steps_left inside steps i step below is) so_far

pub contexts_go_on : (contexts : List (Context Raw)) (i : ℕ) (context : Context Raw) (found left right item new : Findings) → i < length contexts → context ≡ get_or contexts i context → new ≡ either found item → item ≡ either left right → left ≡ found_in (nodes true (term context.left)) → right ≡ found_in (nodes true (term context.right))
    → either found (found_in (each_context (contexts_of (drop i contexts)))) ≡ found_in (each_context (contexts_of contexts)) → either new (found_in (each_context (contexts_of (drop (i + 1) contexts)))) ≡ found_in (each_context (contexts_of contexts))
contexts_go_on contexts i context found left right item new below is new_is item_is left_is right_is so_far =
    go_on found item new (found_in (each_context (contexts_of contexts))) (nodes true (term context.left) ++ nodes true (term context.right)) (each_context (contexts_of (drop (i + 1) contexts))) (each_context (contexts_of (drop i contexts)))
    new_is (both item left right (nodes true (term context.left)) (nodes true (term context.right)) item_is left_is right_is) (contexts_left contexts i context below is) so_far

pub groups_go_on : (inside : Bool) (groups : List (Group Raw)) (i : ℕ) (group : Group Raw) (found maps contexts item new : Findings) → i < length groups → group ≡ get_or groups i group → new ≡ either found item → item ≡ either maps contexts → maps ≡ found_in (each_mapping inside (mappings_of (maps_of group))) → contexts ≡ found_in (each_context (contexts_of (contexts_in group)))
    → either found (found_in (each_group inside (groups_of (drop i groups)))) ≡ found_in (each_group inside (groups_of groups)) → either new (found_in (each_group inside (groups_of (drop (i + 1) groups)))) ≡ found_in (each_group inside (groups_of groups))
groups_go_on inside groups i group found maps contexts item new below is new_is item_is maps_is contexts_is so_far =
    go_on found item new (found_in (each_group inside (groups_of groups))) (each_mapping inside (mappings_of (maps_of group)) ++ each_context (contexts_of (contexts_in group))) (each_group inside (groups_of (drop (i + 1) groups))) (each_group inside (groups_of (drop i groups)))
    new_is (both item maps contexts (each_mapping inside (mappings_of (maps_of group))) (each_context (contexts_of (contexts_in group))) item_is maps_is contexts_is) (groups_left inside groups i group below is) so_far

pub mappings_go_on : (inside : Bool) (maps : List (Mapping Raw)) (i : ℕ) (m : Mapping Raw) (found item new : Findings) → i < length maps → m ≡ get_or maps i m → new ≡ either found item → item ≡ found_in (each_mapping inside (mappings_of (m ∷ [])))
    → either found (found_in (each_mapping inside (mappings_of (drop i maps)))) ≡ found_in (each_mapping inside (mappings_of maps)) → either new (found_in (each_mapping inside (mappings_of (drop (i + 1) maps)))) ≡ found_in (each_mapping inside (mappings_of maps))
mappings_go_on inside maps i m found item new below is new_is item_is so_far =
    go_on found item new (found_in (each_mapping inside (mappings_of maps))) (each_mapping inside (mappings_of (m ∷ []))) (each_mapping inside (mappings_of (drop (i + 1) maps))) (each_mapping inside (mappings_of (drop i maps))) new_is item_is (mappings_left inside maps i m below is) so_far
