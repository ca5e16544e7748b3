-- The parts of contexts, mappings and groups, as they are read one behind the other.
use Rattle.std.proofs.Common.{◌≡◌, ◌<◌, ℕ, Bool, true, false, cond, Option, Some, None, List, [], ◌∷◌, ◌++◌, length, map, refl, sym, ap, ◌∙◌, arith}
use Rattle.std.specs.Option.{option_map, option_and_then}
use Rattle.regex_ast.specs.Terms.{Term, empty, only, rules, directed}
use Rattle.regex_ast.specs.declared.expr.Context.{Context}
use Rattle.regex_ast.specs.declared.expr.Group.{Group}
use Rattle.regex_ast.specs.declared.expr.Mapping.{Mapping}
use Rattle.regex_ast.specs.declared.expr.Raw.{Raw}
use Rattle.regex_ast.specs.declared.expr.Side.{Side}
use Rattle.regex_ast.specs.declared.expr.Side.TheVariants.{UpUp as up_up}
use Rattle.regex_ast.specs.declared.expr.Way.{Way}
use Rattle.regex_ast.specs.declared.expr.Way.TheVariants.{LeftLongest as left_longest, LeftShortest as left_shortest, RightLongest as right_longest, RightShortest as right_shortest}
use Rattle.regex_grammar.specs.Rows.{Reader, begins, option_at, row_at}
use Rattle.regex_grammar.specs.Grammar.{part, ContextTerm, contexts_by, in_a_row, SidedTerm, sided_by, right_and_more, MappingTerm, plain_mapping, marking, inserting, mapping_by, mappings_by, with_centre, marks_term, GroupTerm, group_by, group_tail_by, groups_by, RulingTerm, restriction, replacement_by, or_no_context, direction_by, with_ruling, insertion_by, arrow_operator, way_operator}
use Rattle.regex_grammar.specs.Reading.{is_level, is_up_up, behind_at, one_of, side_of, arrow_of, way_of, context_at, context_behind, contexts_at, sided_at, dots_at, right_by, right_from, right_at, mapping_at, mapping_row_at, group_tail_at, group_at, replacement_at, upper_at, directed_at, ruling_at, nine_by}
use Rattle.regex_grammar.proofs.Cases.{map_some, then_some}
use Rattle.regex_grammar.proofs.Exact.{exact_shorter}
use Rattle.regex_grammar.proofs.Operators.{behind_exact}
use Rattle.regex_grammar.proofs.Levels5to8.{chain_exact}
use Rattle.regex_grammar.proofs.Level9.{context_exact, right_exact, group_exact}
use Rattle.regex_grammar.proofs.Level10.{expression_inside}
use Rattle.regex_tokens.proofs.Fronts.{after_takes}
use Rattle.regex_tokens.specs.Fronts.{after}
use Rattle.regex_tokens.specs.declared.token.Operator.{Operator}
use Rattle.regex_tokens.specs.declared.token.Operator.TheVariants.{Comma, GroupComma, Underscore, Dots, UpUp, Only, Insertion}
use Rattle.regex_tokens.specs.declared.token.Token.{Token}
use Rattle.regex_tokens.specs.declared.token.Token.TheVariants.{Operator as operator}
use Rattle.regex_parser.specs.Levels.{is_operand, chain_within, part_within, context_within, contexts_within, sided_within, marks_within, right_within, mapping_within, mappings_within, upper_within, group_tail_within, group_within, replacement_within, directed_within, restriction_within, ruling_within, insertion_within, nine_within}
use Rattle.regex_parser.specs.Values.{made, context_value as context_of_program, sided_value, mapping_value, group_value}
use Rattle.regex_parser.proofs.Fronts.{no_comma, no_group_comma, no_up_up, side_begins, no_side, arrow_takes, way_takes, no_ruling, after_begins, behind_found, behind_fails}
use Rattle.regex_parser.proofs.Loops.{Shortens, MoreSoFar, row_read, row_fails, row_none, made_row_read, made_row_fails, made_row_none, all_pushed, made_then, made_then_none, made_map, made_map_none, tail_found, tail_fails, tail_unbegun}

made_twice : {K T U V : Type 0} (f : U → V) (g : T → U) (o : Option (T × List K)) → made f (made g o) ≡ made (λ x. f (g x)) o
made_twice f g None = refl
made_twice f g (Some x) = refl

-- Contexts.

abbrev context_of : Term Raw → Term Raw → ContextTerm Raw
context_of l r = record { left = l; right = r }

underscored : (read : Reader Token (Term Raw)) (l : Term Raw) (rest behind : List Token) → after Underscore rest ≡ Some behind → context_behind read l rest ≡ made (λ x. context_of l (part x)) (option_at (is_level 7) read behind)
underscored read l rest behind front = ap (option_and_then (λ us. made (λ x. context_of l (part x)) (option_at (is_level 7) read us))) front

left_read : (read : Reader Token (Term Raw)) (tokens : List Token) (l : Term Raw) (rest : List Token) → Some (l, rest) ≡ made part (option_at (is_level 7) read tokens) → context_behind read l rest ≡ context_at read tokens
left_read read tokens l rest left = made_then part (context_behind read) (option_at (is_level 7) read tokens) l rest left

pub context_read : (read : Reader Token (Term Raw)) (tokens : List Token) (l : Term Raw) (rest behind : List Token) (r : Term Raw) (last : List Token)
    → Some (l, rest) ≡ made part (option_at (is_level 7) read tokens) → after Underscore rest ≡ Some behind → Some (r, last) ≡ made part (option_at (is_level 7) read behind) → Some (context_of l r, last) ≡ context_at read tokens
context_read read tokens l rest behind r last left front right =
    made_map part (context_of l) (option_at (is_level 7) read behind) r last right ∙ sym (underscored read l rest behind front) ∙ left_read read tokens l rest left

pub context_without_left : (read : Reader Token (Term Raw)) (tokens : List Token) → None ≡ made part (option_at (is_level 7) read tokens) → None ≡ context_at read tokens
context_without_left read tokens left = made_then_none part (λ x us. context_behind read (part x) us) (option_at (is_level 7) read tokens) left

pub context_without_place : (read : Reader Token (Term Raw)) (tokens : List Token) (l : Term Raw) (rest : List Token) → Some (l, rest) ≡ made part (option_at (is_level 7) read tokens) → None ≡ after Underscore rest → None ≡ context_at read tokens
context_without_place read tokens l rest left none = ap (option_and_then (λ us. made (λ x. context_of l (part x)) (option_at (is_level 7) read us))) none ∙ left_read read tokens l rest left

pub context_without_right : (read : Reader Token (Term Raw)) (tokens : List Token) (l : Term Raw) (rest behind : List Token)
    → Some (l, rest) ≡ made part (option_at (is_level 7) read tokens) → after Underscore rest ≡ Some behind → None ≡ made part (option_at (is_level 7) read behind) → None ≡ context_at read tokens
context_without_right read tokens l rest behind left front none =
    made_map_none part (λ x. context_of l (part x)) (option_at (is_level 7) read behind) none ∙ sym (underscored read l rest behind front) ∙ left_read read tokens l rest left

-- What is behind `...`.

pub dots_read : (read : Reader Token (Term Raw)) (centre before behind : Term Raw) (tokens rest : List Token) → Some (behind, rest) ≡ made part (option_at (is_level 7) read tokens) → Some (marking centre before behind, rest) ≡ made (mapping_by centre) (dots_at read before tokens)
dots_read read centre before behind tokens rest e =
    made_map part (marking centre before) (option_at (is_level 7) read tokens) behind rest e ∙ sym (made_twice (mapping_by centre) (λ x. marks_term before (part x)) (option_at (is_level 7) read tokens))

pub dots_none : (read : Reader Token (Term Raw)) (centre before : Term Raw) (tokens : List Token) → None ≡ made part (option_at (is_level 7) read tokens) → None ≡ made (mapping_by centre) (dots_at read before tokens)
dots_none read centre before tokens e =
    made_map_none part (λ x. marking centre before (part x)) (option_at (is_level 7) read tokens) e ∙ sym (made_twice (mapping_by centre) (λ x. marks_term before (part x)) (option_at (is_level 7) read tokens))

-- Rows of level 9.

unfoldable pub is_comma : Token → Bool
is_comma t = is_level 11 t

unfoldable pub is_group_comma : Token → Bool
is_group_comma t = is_level 13 t

unfoldable pub next_context_within : ℕ → Reader Token (ContextTerm Raw)
next_context_within depth tokens = behind_at Comma (λ c. c) (context_within depth) tokens

unfoldable pub next_mapping_within : ℕ → Operator → Reader Token (MappingTerm Raw)
next_mapping_within depth arrow tokens = behind_at Comma (λ m. m) (mapping_within depth arrow) tokens

unfoldable pub next_group_within : ℕ → Bool → Reader Token (GroupTerm Raw)
next_group_within depth optional tokens = behind_at GroupComma (λ g. g) (group_within depth optional) tokens

abbrev pub ContextsSoFar : ℕ → List Token → List (Context Raw) → List (Context Raw) → List Token → Type 0
ContextsSoFar depth behind before now rest = MoreSoFar is_comma (next_context_within depth) behind (map context_of_program before) (map context_of_program now) rest

abbrev pub MappingsSoFar : ℕ → Operator → List Token → List (Mapping Raw) → List (Mapping Raw) → List Token → Type 0
MappingsSoFar depth arrow behind before now rest = MoreSoFar is_comma (next_mapping_within depth arrow) behind (map mapping_value before) (map mapping_value now) rest

abbrev pub GroupsSoFar : ℕ → Bool → List Token → List (Group Raw) → List (Group Raw) → List Token → Type 0
GroupsSoFar depth optional behind before now rest = MoreSoFar is_group_comma (next_group_within depth optional) behind (map group_value before) (map group_value now) rest

-- Parts that may be left out.

pub part_blank : (depth : ℕ) (tokens : List Token) → false ≡ begins is_operand tokens → Some (empty, tokens) ≡ part_within depth tokens
unfolding is_operand part_within
part_blank depth tokens none = ap (λ b. made part (cond b (option_map (λ (x : Term Raw × List Token). (Some x.0, x.1)) (chain_within depth tokens)) (Some (None, tokens)))) none

pub part_is : (depth : ℕ) (tokens : List Token) → true ≡ begins is_operand tokens → chain_within depth tokens ≡ part_within depth tokens
unfolding is_operand part_within
part_is depth tokens here = same (chain_within depth tokens) ∙ ap (λ b. made part (cond b (option_map (λ (x : Term Raw × List Token). (Some x.0, x.1)) (chain_within depth tokens)) (Some (None, tokens)))) here
  where
    same : (o : Option (Term Raw × List Token)) → o ≡ made part (option_map {U = Option (Term Raw) × List Token} (λ (x : Term Raw × List Token). (Some x.0, x.1)) o)
    same None = refl
    same (Some x) = refl

pub context_found : (depth : ℕ) (tokens : List Token) (l : Term Raw) (rest behind : List Token) (r : Term Raw) (last : List Token)
    → Some (l, rest) ≡ part_within depth tokens → Some behind ≡ after Underscore rest → Some (r, last) ≡ part_within depth behind → Some (record { left = l; right = r }, last) ≡ context_within depth tokens
unfolding part_within context_within
context_found depth tokens l rest behind r last left front right = context_read (chain_within depth) tokens l rest behind r last left (sym front) right

pub context_unbegun : (depth : ℕ) (tokens : List Token) → None ≡ part_within depth tokens → None ≡ context_within depth tokens
unfolding part_within context_within
context_unbegun depth tokens left = context_without_left (chain_within depth) tokens left

pub context_unplaced : (depth : ℕ) (tokens : List Token) (l : Term Raw) (rest : List Token) → Some (l, rest) ≡ part_within depth tokens → None ≡ after Underscore rest → None ≡ context_within depth tokens
unfolding part_within context_within
context_unplaced depth tokens l rest left none = context_without_place (chain_within depth) tokens l rest left none

pub context_unended : (depth : ℕ) (tokens : List Token) (l : Term Raw) (rest behind : List Token)
    → Some (l, rest) ≡ part_within depth tokens → Some behind ≡ after Underscore rest → None ≡ part_within depth behind → None ≡ context_within depth tokens
unfolding part_within context_within
context_unended depth tokens l rest behind left front none = context_without_right (chain_within depth) tokens l rest behind left (sym front) none

pub marks_found : (depth : ℕ) (centre before behind : Term Raw) (tokens rest : List Token) → Some (behind, rest) ≡ part_within depth tokens → Some (marking centre before behind, rest) ≡ marks_within depth centre before tokens
unfolding part_within marks_within
marks_found depth centre before behind tokens rest e = dots_read (chain_within depth) centre before behind tokens rest e

pub marks_none : (depth : ℕ) (centre before : Term Raw) (tokens : List Token) → None ≡ part_within depth tokens → None ≡ marks_within depth centre before tokens
unfolding part_within marks_within
marks_none depth centre before tokens e = dots_none (chain_within depth) centre before tokens e

-- Rows.

pub next_context_shorter : (depth : ℕ) → Shortens (next_context_within depth)
unfolding next_context_within context_within chain_within
next_context_shorter depth = exact_shorter (behind_exact Comma (is_level 11) (λ (c : ContextTerm Raw). c) refl (context_exact (chain_exact (expression_inside depth))))

mapping_shorter : (depth : ℕ) (arrow : Operator) → Shortens (mapping_within depth arrow)
unfolding mapping_within chain_within
mapping_shorter depth arrow tokens x e = then_some _ (chain_within depth tokens) x e (λ c first more. then_some _ (after arrow c.1) x more (λ rest front last. map_some _ (right_at (chain_within depth) rest) x last (λ y item same.
    let centre : length c.1 < length tokens = exact_shorter (chain_exact (expression_inside depth)) tokens c first in
    let right : length y.1 < length rest = exact_shorter (right_exact (chain_exact (expression_inside depth))) rest y item in
    omega (arith, centre, right, ap length (after_takes arrow c.1 rest front), ap (λ (v : MappingTerm Raw × List Token). length v.1) same))))

pub next_mapping_shorter : (depth : ℕ) (arrow : Operator) → Shortens (next_mapping_within depth arrow)
unfolding next_mapping_within
next_mapping_shorter depth arrow tokens x e = then_some _ (after Comma tokens) x e (λ rest front last. map_some _ (mapping_within depth arrow rest) x last (λ y item same.
    omega (arith, mapping_shorter depth arrow rest y item, ap length (after_takes Comma tokens rest front), ap (λ (v : MappingTerm Raw × List Token). length v.1) same)))

pub next_group_shorter : (depth : ℕ) (optional : Bool) → Shortens (next_group_within depth optional)
unfolding next_group_within group_within chain_within
next_group_shorter depth optional = exact_shorter (behind_exact GroupComma (is_level 13) (λ (g : GroupTerm Raw). g) refl (group_exact optional (chain_exact (expression_inside depth))))

pub comma_begins : (tokens operand : List Token) → Some operand ≡ after Comma tokens → begins is_comma tokens ≡ true
unfolding is_comma
comma_begins tokens operand front = after_begins Comma (is_level 11) refl tokens operand (sym front)

pub comma_none : (tokens : List Token) → None ≡ after Comma tokens → begins is_comma tokens ≡ false
unfolding is_comma
comma_none tokens none = no_comma tokens none

pub group_comma_begins : (tokens operand : List Token) → Some operand ≡ after GroupComma tokens → begins is_group_comma tokens ≡ true
unfolding is_group_comma
group_comma_begins tokens operand front = after_begins GroupComma (is_level 13) refl tokens operand (sym front)

pub group_comma_none : (tokens : List Token) → None ≡ after GroupComma tokens → begins is_group_comma tokens ≡ false
unfolding is_group_comma
group_comma_none tokens none = no_group_comma tokens none

pub next_context_read : (depth : ℕ) (tokens operand : List Token) (t : ContextTerm Raw) (behind : List Token) → Some operand ≡ after Comma tokens → Some (t, behind) ≡ context_within depth operand → next_context_within depth tokens ≡ Some (t, behind)
unfolding next_context_within
next_context_read depth tokens operand t behind front item = behind_found Comma (λ (u : ContextTerm Raw). u) (context_within depth) tokens operand t behind t (sym front) (sym item) refl

pub next_mapping_read : (depth : ℕ) (arrow : Operator) (tokens operand : List Token) (t : MappingTerm Raw) (behind : List Token) → Some operand ≡ after Comma tokens → Some (t, behind) ≡ mapping_within depth arrow operand → next_mapping_within depth arrow tokens ≡ Some (t, behind)
unfolding next_mapping_within
next_mapping_read depth arrow tokens operand t behind front item = behind_found Comma (λ (u : MappingTerm Raw). u) (mapping_within depth arrow) tokens operand t behind t (sym front) (sym item) refl

pub next_group_read : (depth : ℕ) (optional : Bool) (tokens operand : List Token) (t : GroupTerm Raw) (behind : List Token) → Some operand ≡ after GroupComma tokens → Some (t, behind) ≡ group_within depth optional operand → next_group_within depth optional tokens ≡ Some (t, behind)
unfolding next_group_within
next_group_read depth optional tokens operand t behind front item = behind_found GroupComma (λ (u : GroupTerm Raw). u) (group_within depth optional) tokens operand t behind t (sym front) (sym item) refl

contexts_are : (depth : ℕ) (tokens : List Token) → row_at (is_level 11) in_a_row (context_within depth) (behind_at Comma (λ c. c) (context_within depth)) tokens ≡ contexts_within depth tokens
unfolding context_within contexts_within
contexts_are depth tokens = refl

pub contexts_read : (depth : ℕ) (tokens : List Token) (e : Context Raw) (behind : List Token) (none one all : List (Context Raw)) (rest : List Token)
    → Some (context_of_program e, behind) ≡ context_within depth tokens → none ≡ [] → one ≡ none ++ e ∷ [] → ContextsSoFar depth behind one all rest → None ≡ after Comma rest → Some (map context_of_program all, rest) ≡ contexts_within depth tokens
unfolding is_comma next_context_within contexts_within
contexts_read depth tokens e behind none one all rest begun blank pushed row stop =
    row_read (is_level 11) in_a_row (context_within depth) (behind_at Comma (λ c. c) (context_within depth)) tokens (context_of_program e) behind row.more rest (map context_of_program all) (sym begun) row.so_far (no_comma rest stop) (all_pushed context_of_program e none one all row.more blank pushed row.pushed)
    ∙ contexts_are depth tokens

pub contexts_fail : (depth : ℕ) (tokens : List Token) (e : Context Raw) (behind : List Token) (one all : List (Context Raw)) (rest operand : List Token)
    → Some (context_of_program e, behind) ≡ context_within depth tokens → ContextsSoFar depth behind one all rest → Some operand ≡ after Comma rest → None ≡ context_within depth operand → None ≡ contexts_within depth tokens
unfolding is_comma next_context_within
contexts_fail depth tokens e behind one all rest operand begun row front none =
    row_fails (is_level 11) in_a_row (context_within depth) (behind_at Comma (λ c. c) (context_within depth)) tokens (context_of_program e) behind row.more rest (sym begun) row.so_far (after_begins Comma (is_level 11) refl rest operand (sym front))
    (behind_fails Comma (λ (c : ContextTerm Raw). c) (context_within depth) rest operand (sym front) none)
    ∙ contexts_are depth tokens

pub contexts_none : (depth : ℕ) (tokens : List Token) → None ≡ context_within depth tokens → None ≡ contexts_within depth tokens
contexts_none depth tokens none = row_none (is_level 11) in_a_row (context_within depth) (behind_at Comma (λ c. c) (context_within depth)) tokens none ∙ contexts_are depth tokens

-- Contexts of a group.

sides_of : Reader Token (Term Raw) → List Token → Bool → Option (SidedTerm Raw × List Token)
sides_of read tokens here = made sided_by (cond here (option_map {U = Option (SidedTerm Raw) × List Token} (λ (x : SidedTerm Raw × List Token). (Some x.0, x.1)) (sided_at read tokens)) (Some (None, tokens)))

sided_here : (depth : ℕ) (tokens : List Token) → begins (is_level 12) tokens ≡ true → sided_at (chain_within depth) tokens ≡ sided_within depth tokens
unfolding sides_of sided_within
sided_here depth tokens here = same (sided_at (chain_within depth) tokens) ∙ ap (sides_of (chain_within depth) tokens) (sym here)
  where
    same : (o : Option (SidedTerm Raw × List Token)) → o ≡ made sided_by (option_map {U = Option (SidedTerm Raw) × List Token} (λ (x : SidedTerm Raw × List Token). (Some x.0, x.1)) o)
    same None = refl
    same (Some x) = refl

pub sided_blank : (depth : ℕ) (tokens : List Token) (contexts : List (Context Raw)) → None ≡ one_of side_of tokens → contexts ≡ [] → Some (sided_value up_up contexts, tokens) ≡ sided_within depth tokens
unfolding sides_of sided_within
sided_blank depth tokens contexts none blank =
    ap (λ (cs : List (Context Raw)). Some (sided_value up_up cs, tokens)) blank ∙ ap (sides_of (chain_within depth) tokens) (sym (no_side tokens none))

with_side : Side → List (ContextTerm Raw) → SidedTerm Raw
with_side side contexts = record { side = side; contexts = contexts }

sides_read : (depth : ℕ) (tokens : List Token) (side : Side) (behind : List Token) → Some (side, behind) ≡ one_of side_of tokens → made (with_side side) (contexts_within depth behind) ≡ sided_within depth tokens
unfolding with_side contexts_within
sides_read depth tokens side behind front =
    ap (option_and_then (λ (s : Side × List Token). made (with_side s.0) (contexts_at (chain_within depth) s.1))) front ∙ sided_here depth tokens (side_begins tokens (side, behind) (sym front))

pub sided_read : (depth : ℕ) (tokens : List Token) (side : Side) (behind : List Token) (contexts : List (Context Raw)) (rest : List Token)
    → Some (side, behind) ≡ one_of side_of tokens → Some (map context_of_program contexts, rest) ≡ contexts_within depth behind → Some (sided_value side contexts, rest) ≡ sided_within depth tokens
unfolding with_side
sided_read depth tokens side behind contexts rest front item = ap (made (with_side side)) item ∙ sides_read depth tokens side behind front

pub sided_fails : (depth : ℕ) (tokens : List Token) (side : Side) (behind : List Token) → Some (side, behind) ≡ one_of side_of tokens → None ≡ contexts_within depth behind → None ≡ sided_within depth tokens
unfolding with_side
sided_fails depth tokens side behind front none = ap (made (with_side side)) none ∙ sides_read depth tokens side behind front

-- Mappings.

pub right_marks : (depth : ℕ) (centre : Term Raw) (tokens behind : List Token) → Some behind ≡ after Dots tokens → marks_within depth centre empty behind ≡ right_within depth centre tokens
unfolding marks_within right_within
right_marks depth centre tokens behind front = ap (λ o. made (mapping_by centre) (right_from (chain_within depth) o tokens)) front

right_item : (depth : ℕ) (centre : Term Raw) (tokens : List Token) (t : Term Raw) (rest : List Token) → None ≡ after Dots tokens → Some (t, rest) ≡ chain_within depth tokens → made (mapping_by centre) (right_by (chain_within depth) t rest (after Dots rest)) ≡ right_within depth centre tokens
unfolding right_within
right_item depth centre tokens t rest none item =
    ap (λ o. made (mapping_by centre) (option_and_then (λ (x : Term Raw × List Token). right_by (chain_within depth) x.0 x.1 (after Dots x.1)) o)) item
    ∙ ap (λ o. made (mapping_by centre) (right_from (chain_within depth) o tokens)) none

pub right_marked : (depth : ℕ) (centre : Term Raw) (tokens : List Token) (t : Term Raw) (rest behind : List Token) → None ≡ after Dots tokens → Some (t, rest) ≡ chain_within depth tokens → Some behind ≡ after Dots rest → marks_within depth centre t behind ≡ right_within depth centre tokens
unfolding marks_within
right_marked depth centre tokens t rest behind none item front = ap (λ o. made (mapping_by centre) (right_by (chain_within depth) t rest o)) front ∙ right_item depth centre tokens t rest none item

pub right_plain : (depth : ℕ) (centre : Term Raw) (tokens : List Token) (t : Term Raw) (rest : List Token) → None ≡ after Dots tokens → Some (t, rest) ≡ chain_within depth tokens → None ≡ after Dots rest → Some (plain_mapping centre t, rest) ≡ right_within depth centre tokens
right_plain depth centre tokens t rest none item front = ap (λ o. made (mapping_by centre) (right_by (chain_within depth) t rest o)) front ∙ right_item depth centre tokens t rest none item

pub right_none : (depth : ℕ) (centre : Term Raw) (tokens : List Token) → None ≡ after Dots tokens → None ≡ chain_within depth tokens → None ≡ right_within depth centre tokens
unfolding right_within
right_none depth centre tokens none item =
    ap (λ o. made (mapping_by centre) (option_and_then (λ (x : Term Raw × List Token). right_by (chain_within depth) x.0 x.1 (after Dots x.1)) o)) item
    ∙ ap (λ o. made (mapping_by centre) (right_from (chain_within depth) o tokens)) none

-- what is read behind a centre and its arrow
arrowed : {T U : Type 0} (o : Operator) (make : Term Raw → T → U) (right : Reader Token T) (read : Reader Token (Term Raw)) (tokens : List Token) (t : Term Raw) (rest behind : List Token) → Some (t, rest) ≡ read tokens → Some behind ≡ after o rest
    → made (make t) (right behind) ≡ option_and_then (λ c. behind_at o (λ r. make c.0 r) right c.1) (read tokens)
arrowed {T} {U} o make right read tokens t rest behind item front =
    ap (option_and_then (λ us. made (make t) (right us))) front ∙ ap (option_and_then (λ (c : Term Raw × List Token). behind_at o (λ r. make c.0 r) right c.1)) item

unarrowed : {T U : Type 0} (o : Operator) (make : Term Raw → T → U) (right : Reader Token T) (read : Reader Token (Term Raw)) (tokens : List Token) (t : Term Raw) (rest : List Token) → Some (t, rest) ≡ read tokens → None ≡ after o rest
    → None ≡ option_and_then (λ c. behind_at o (λ r. make c.0 r) right c.1) (read tokens)
unarrowed {T} {U} o make right read tokens t rest item front =
    ap (option_and_then (λ us. made (make t) (right us))) front ∙ ap (option_and_then (λ (c : Term Raw × List Token). behind_at o (λ r. make c.0 r) right c.1)) item

uncentred : {T U : Type 0} (o : Operator) (make : Term Raw → T → U) (right : Reader Token T) (read : Reader Token (Term Raw)) (tokens : List Token) → None ≡ read tokens → None ≡ option_and_then (λ c. behind_at o (λ r. make c.0 r) right c.1) (read tokens)
uncentred {T} {U} o make right read tokens item = ap (option_and_then (λ (c : Term Raw × List Token). behind_at o (λ r. make c.0 r) right c.1)) item

pub mapping_is : (depth : ℕ) (arrow : Operator) (tokens : List Token) (t : Term Raw) (rest behind : List Token) → Some (t, rest) ≡ chain_within depth tokens → Some behind ≡ after arrow rest → right_within depth t behind ≡ mapping_within depth arrow tokens
unfolding right_within mapping_within
mapping_is depth arrow tokens t rest behind item front = arrowed arrow mapping_by (right_at (chain_within depth)) (chain_within depth) tokens t rest behind item front

pub mapping_unarrowed : (depth : ℕ) (arrow : Operator) (tokens : List Token) (t : Term Raw) (rest : List Token) → Some (t, rest) ≡ chain_within depth tokens → None ≡ after arrow rest → None ≡ mapping_within depth arrow tokens
unfolding mapping_within
mapping_unarrowed depth arrow tokens t rest item front = unarrowed arrow mapping_by (right_at (chain_within depth)) (chain_within depth) tokens t rest item front

pub mapping_none : (depth : ℕ) (arrow : Operator) (tokens : List Token) → None ≡ chain_within depth tokens → None ≡ mapping_within depth arrow tokens
unfolding mapping_within
mapping_none depth arrow tokens item = uncentred arrow mapping_by (right_at (chain_within depth)) (chain_within depth) tokens item

pub mappings_read : (depth : ℕ) (arrow : Operator) (centre : Term Raw) (tokens : List Token) (e : Mapping Raw) (behind : List Token) (none one all : List (Mapping Raw)) (rest : List Token)
    → Some (mapping_value e, behind) ≡ right_within depth centre tokens → none ≡ [] → one ≡ none ++ e ∷ [] → MappingsSoFar depth arrow behind one all rest → None ≡ after Comma rest → Some (map mapping_value all, rest) ≡ mappings_within depth arrow centre tokens
unfolding is_comma next_mapping_within mapping_within right_within mappings_within
mappings_read depth arrow centre tokens e behind none one all rest begun blank pushed row stop =
    made_row_read (is_level 11) right_and_more (right_at (chain_within depth)) (behind_at Comma (λ m. m) (mapping_at arrow (chain_within depth))) (with_centre centre) (mapping_by centre) (λ (m : MappingTerm Raw) ms. m ∷ ms) (λ x ms. refl)
    tokens (mapping_value e) behind row.more rest (map mapping_value all) begun row.so_far (no_comma rest stop) (all_pushed mapping_value e none one all row.more blank pushed row.pushed)

pub mappings_fail : (depth : ℕ) (arrow : Operator) (centre : Term Raw) (tokens : List Token) (e : Mapping Raw) (behind : List Token) (one all : List (Mapping Raw)) (rest operand : List Token)
    → Some (mapping_value e, behind) ≡ right_within depth centre tokens → MappingsSoFar depth arrow behind one all rest → Some operand ≡ after Comma rest → None ≡ mapping_within depth arrow operand → None ≡ mappings_within depth arrow centre tokens
unfolding is_comma next_mapping_within mapping_within right_within mappings_within
mappings_fail depth arrow centre tokens e behind one all rest operand begun row front none =
    made_row_fails (is_level 11) right_and_more (right_at (chain_within depth)) (behind_at Comma (λ m. m) (mapping_at arrow (chain_within depth))) (with_centre centre) (mapping_by centre) tokens (mapping_value e) behind row.more rest begun row.so_far
    (after_begins Comma (is_level 11) refl rest operand (sym front)) (behind_fails Comma (λ (m : MappingTerm Raw). m) (mapping_at arrow (chain_within depth)) rest operand (sym front) none)

pub mappings_none : (depth : ℕ) (arrow : Operator) (centre : Term Raw) (tokens : List Token) → None ≡ right_within depth centre tokens → None ≡ mappings_within depth arrow centre tokens
unfolding right_within mappings_within
mappings_none depth arrow centre tokens none = made_row_none (is_level 11) right_and_more (right_at (chain_within depth)) (behind_at Comma (λ m. m) (mapping_at arrow (chain_within depth))) (with_centre centre) (mapping_by centre) tokens none

-- Groups.

pub group_is : (depth : ℕ) (optional : Bool) (tokens : List Token) (t : Term Raw) (rest : List Token) (o : Operator) (behind : List Token) → Some (t, rest) ≡ chain_within depth tokens → o ≡ arrow_operator optional → Some behind ≡ after o rest → group_tail_within depth optional t behind ≡ group_within depth optional tokens
unfolding group_tail_within group_within
group_is depth optional tokens t rest o behind item same front =
    arrowed (arrow_operator optional) group_by (group_tail_at optional (chain_within depth)) (chain_within depth) tokens t rest behind item (front ∙ ap (λ p. after p rest) same)

pub group_unarrowed : (depth : ℕ) (optional : Bool) (tokens : List Token) (t : Term Raw) (rest : List Token) (o : Operator) → Some (t, rest) ≡ chain_within depth tokens → o ≡ arrow_operator optional → None ≡ after o rest → None ≡ group_within depth optional tokens
unfolding group_within
group_unarrowed depth optional tokens t rest o item same front =
    unarrowed (arrow_operator optional) group_by (group_tail_at optional (chain_within depth)) (chain_within depth) tokens t rest item (front ∙ ap (λ p. after p rest) same)

pub group_none : (depth : ℕ) (optional : Bool) (tokens : List Token) → None ≡ chain_within depth tokens → None ≡ group_within depth optional tokens
unfolding group_within
group_none depth optional tokens item = uncentred (arrow_operator optional) group_by (group_tail_at optional (chain_within depth)) (chain_within depth) tokens item

abbrev group_of : List (MappingTerm Raw) → SidedTerm Raw → GroupTerm Raw
group_of maps sided = record { maps = maps; sided = sided }

pub group_tail_found : (depth : ℕ) (optional : Bool) (centre : Term Raw) (tokens : List Token) (o : Operator) (maps : List (MappingTerm Raw)) (behind : List Token) (sided : SidedTerm Raw) (last : List Token) (g : GroupTerm Raw)
    → o ≡ arrow_operator optional → Some (maps, behind) ≡ mappings_within depth o centre tokens → Some (sided, last) ≡ sided_within depth behind → g ≡ record { maps = maps; sided = sided } → Some (g, last) ≡ group_tail_within depth optional centre tokens
unfolding mappings_within sided_within group_tail_within
group_tail_found depth optional centre tokens o maps behind sided last g arrow row sides same =
    tail_found (with_centre centre) sided_by group_tail_by (group_by centre) group_of (λ x w. refl) (mapping_row_at (arrow_operator optional) (chain_within depth) tokens) (λ us. option_at (is_level 12) (sided_at (chain_within depth)) us) maps behind sided last g
    (row ∙ ap (λ a. made (with_centre centre) (mapping_row_at a (chain_within depth) tokens)) arrow) sides same

pub group_tail_sides : (depth : ℕ) (optional : Bool) (centre : Term Raw) (tokens : List Token) (o : Operator) (maps : List (MappingTerm Raw)) (behind : List Token)
    → o ≡ arrow_operator optional → Some (maps, behind) ≡ mappings_within depth o centre tokens → None ≡ sided_within depth behind → None ≡ group_tail_within depth optional centre tokens
unfolding mappings_within sided_within group_tail_within
group_tail_sides depth optional centre tokens o maps behind arrow row sides =
    tail_fails (with_centre centre) sided_by group_tail_by (group_by centre) (mapping_row_at (arrow_operator optional) (chain_within depth) tokens) (λ us. option_at (is_level 12) (sided_at (chain_within depth)) us) maps behind
    (row ∙ ap (λ a. made (with_centre centre) (mapping_row_at a (chain_within depth) tokens)) arrow) sides

pub group_tail_none : (depth : ℕ) (optional : Bool) (centre : Term Raw) (tokens : List Token) (o : Operator) → o ≡ arrow_operator optional → None ≡ mappings_within depth o centre tokens → None ≡ group_tail_within depth optional centre tokens
unfolding mappings_within group_tail_within
group_tail_none depth optional centre tokens o arrow row =
    tail_unbegun (with_centre centre) group_tail_by (group_by centre) (mapping_row_at (arrow_operator optional) (chain_within depth) tokens) (λ us. option_at (is_level 12) (sided_at (chain_within depth)) us)
    (row ∙ ap (λ a. made (with_centre centre) (mapping_row_at a (chain_within depth) tokens)) arrow)

pub replacement_read : (depth : ℕ) (optional : Bool) (centre : Term Raw) (tokens : List Token) (e : Group Raw) (behind : List Token) (none one all : List (Group Raw)) (rest : List Token) (u : Term Raw)
    → Some (group_value e, behind) ≡ group_tail_within depth optional centre tokens → none ≡ [] → one ≡ none ++ e ∷ [] → GroupsSoFar depth optional behind one all rest → None ≡ after GroupComma rest
    → u ≡ rules optional (groups_by (map group_value all)) → Some (u, rest) ≡ replacement_within depth optional centre tokens
unfolding is_group_comma next_group_within group_within group_tail_within replacement_within
replacement_read depth optional centre tokens e behind none one all rest u begun blank pushed row stop same =
    made_row_read (is_level 13) (replacement_by optional) (group_tail_at optional (chain_within depth)) (behind_at GroupComma (λ g. g) (group_at optional (chain_within depth))) (λ (y : RulingTerm Raw). with_ruling centre (Some y)) (group_by centre)
    (λ (g : GroupTerm Raw) gs. rules optional (groups_by (g ∷ gs))) (λ x gs. refl) tokens (group_value e) behind row.more rest u begun row.so_far (no_group_comma rest stop)
    (same ∙ ap (λ gs. rules optional (groups_by gs)) (all_pushed group_value e none one all row.more blank pushed row.pushed))

pub replacement_fails : (depth : ℕ) (optional : Bool) (centre : Term Raw) (tokens : List Token) (e : Group Raw) (behind : List Token) (one all : List (Group Raw)) (rest operand : List Token)
    → Some (group_value e, behind) ≡ group_tail_within depth optional centre tokens → GroupsSoFar depth optional behind one all rest → Some operand ≡ after GroupComma rest → None ≡ group_within depth optional operand → None ≡ replacement_within depth optional centre tokens
unfolding is_group_comma next_group_within group_within group_tail_within replacement_within
replacement_fails depth optional centre tokens e behind one all rest operand begun row front none =
    made_row_fails (is_level 13) (replacement_by optional) (group_tail_at optional (chain_within depth)) (behind_at GroupComma (λ g. g) (group_at optional (chain_within depth))) (λ (y : RulingTerm Raw). with_ruling centre (Some y)) (group_by centre)
    tokens (group_value e) behind row.more rest begun row.so_far (after_begins GroupComma (is_level 13) refl rest operand (sym front)) (behind_fails GroupComma (λ (g : GroupTerm Raw). g) (group_at optional (chain_within depth)) rest operand (sym front) none)

pub replacement_none : (depth : ℕ) (optional : Bool) (centre : Term Raw) (tokens : List Token) → None ≡ group_tail_within depth optional centre tokens → None ≡ replacement_within depth optional centre tokens
unfolding group_tail_within replacement_within
replacement_none depth optional centre tokens none =
    made_row_none (is_level 13) (replacement_by optional) (group_tail_at optional (chain_within depth)) (behind_at GroupComma (λ g. g) (group_at optional (chain_within depth))) (λ (y : RulingTerm Raw). with_ruling centre (Some y)) (group_by centre) tokens none

-- Directed rules.

uppers_of : Reader Token (Term Raw) → List Token → Bool → Option (List (ContextTerm Raw) × List Token)
uppers_of read tokens here = made or_no_context (cond here (option_map {U = Option (List (ContextTerm Raw)) × List Token} (λ (x : List (ContextTerm Raw) × List Token). (Some x.0, x.1)) (upper_at read tokens)) (Some (None, tokens)))

pub upper_blank : (depth : ℕ) (tokens : List Token) (contexts : List (Context Raw)) → None ≡ after UpUp tokens → contexts ≡ [] → Some (map context_of_program contexts, tokens) ≡ upper_within depth tokens
unfolding uppers_of upper_within
upper_blank depth tokens contexts none blank =
    ap (λ (cs : List (Context Raw)). Some (map context_of_program cs, tokens)) blank ∙ ap (uppers_of (chain_within depth) tokens) (sym (no_up_up tokens none))

pub upper_is : (depth : ℕ) (tokens behind : List Token) → Some behind ≡ after UpUp tokens → contexts_within depth behind ≡ upper_within depth tokens
unfolding uppers_of contexts_within upper_within
upper_is depth tokens behind front =
    same (contexts_at (chain_within depth) behind)
    ∙ ap (λ o. made or_no_context (option_map {U = Option (List (ContextTerm Raw)) × List Token} (λ (x : List (ContextTerm Raw) × List Token). (Some x.0, x.1)) (option_and_then (λ us. made (λ (c : List (ContextTerm Raw)). c) (contexts_at (chain_within depth) us)) o))) front
    ∙ ap (uppers_of (chain_within depth) tokens) (sym (after_begins UpUp is_up_up refl tokens behind (sym front)))
  where
    same : (o : Option (List (ContextTerm Raw) × List Token)) → o ≡ made or_no_context (option_map {U = Option (List (ContextTerm Raw)) × List Token} (λ (x : List (ContextTerm Raw) × List Token). (Some x.0, x.1)) (made (λ (c : List (ContextTerm Raw)). c) o))
    same None = refl
    same (Some x) = refl

abbrev directed_of : Way → List (MappingTerm Raw) → List (ContextTerm Raw) → Term Raw
directed_of way maps contexts = directed way (mappings_by maps) (contexts_by contexts)

pub directed_found : (depth : ℕ) (way : Way) (centre : Term Raw) (tokens : List Token) (o : Operator) (maps : List (MappingTerm Raw)) (behind : List Token) (contexts : List (ContextTerm Raw)) (last : List Token) (u : Term Raw)
    → o ≡ way_operator way → Some (maps, behind) ≡ mappings_within depth o centre tokens → Some (contexts, last) ≡ upper_within depth behind → u ≡ directed way (mappings_by maps) (contexts_by contexts) → Some (u, last) ≡ directed_within depth way centre tokens
unfolding mappings_within upper_within directed_within
directed_found depth way centre tokens o maps behind contexts last u arrow row uppers same =
    tail_found (with_centre centre) or_no_context (direction_by way) (λ (y : RulingTerm Raw). with_ruling centre (Some y)) (directed_of way) (λ x w. refl) (mapping_row_at (way_operator way) (chain_within depth) tokens) (λ us. option_at is_up_up (upper_at (chain_within depth)) us)
    maps behind contexts last u (row ∙ ap (λ a. made (with_centre centre) (mapping_row_at a (chain_within depth) tokens)) arrow) uppers same

pub directed_unplaced : (depth : ℕ) (way : Way) (centre : Term Raw) (tokens : List Token) (o : Operator) (maps : List (MappingTerm Raw)) (behind : List Token)
    → o ≡ way_operator way → Some (maps, behind) ≡ mappings_within depth o centre tokens → None ≡ upper_within depth behind → None ≡ directed_within depth way centre tokens
unfolding mappings_within upper_within directed_within
directed_unplaced depth way centre tokens o maps behind arrow row uppers =
    tail_fails (with_centre centre) or_no_context (direction_by way) (λ (y : RulingTerm Raw). with_ruling centre (Some y)) (mapping_row_at (way_operator way) (chain_within depth) tokens) (λ us. option_at is_up_up (upper_at (chain_within depth)) us)
    maps behind (row ∙ ap (λ a. made (with_centre centre) (mapping_row_at a (chain_within depth) tokens)) arrow) uppers

pub directed_none : (depth : ℕ) (way : Way) (centre : Term Raw) (tokens : List Token) (o : Operator) → o ≡ way_operator way → None ≡ mappings_within depth o centre tokens → None ≡ directed_within depth way centre tokens
unfolding mappings_within directed_within
directed_none depth way centre tokens o arrow row =
    tail_unbegun (with_centre centre) (direction_by way) (λ (y : RulingTerm Raw). with_ruling centre (Some y)) (mapping_row_at (way_operator way) (chain_within depth) tokens) (λ us. option_at is_up_up (upper_at (chain_within depth)) us)
    (row ∙ ap (λ a. made (with_centre centre) (mapping_row_at a (chain_within depth) tokens)) arrow)

-- Level 9.

pub restriction_read : (depth : ℕ) (centre : Term Raw) (tokens : List Token) (allowed : List (Context Raw)) (rest : List Token) (u : Term Raw)
    → Some (map context_of_program allowed, rest) ≡ contexts_within depth tokens → u ≡ only centre (contexts_by (map context_of_program allowed)) → Some (u, rest) ≡ restriction_within depth centre tokens
unfolding contexts_within restriction_within
restriction_read depth centre tokens allowed rest u item same = ap (λ v. Some (v, rest)) same ∙ ap (made (λ y. only centre (contexts_by y))) item

pub restriction_none : (depth : ℕ) (centre : Term Raw) (tokens : List Token) → None ≡ contexts_within depth tokens → None ≡ restriction_within depth centre tokens
unfolding contexts_within restriction_within
restriction_none depth centre tokens item = ap (made (λ y. only centre (contexts_by y))) item

ruled : (depth : ℕ) (t : Term Raw) (tokens : List Token) → Option (RulingTerm Raw × List Token) → Option (Term Raw × List Token)
ruled depth t tokens o = made (with_ruling t) (option_map {U = Option (RulingTerm Raw) × List Token} (λ (x : RulingTerm Raw × List Token). (Some x.0, x.1)) o)

restricted_same : (t : Term Raw) (o : Option (List (ContextTerm Raw) × List Token)) → made (λ y. only t (contexts_by y)) o ≡ made (with_ruling t) (option_map {U = Option (RulingTerm Raw) × List Token} (λ (x : RulingTerm Raw × List Token). (Some x.0, x.1)) (made restriction o))
restricted_same t None = refl
restricted_same t (Some x) = refl

replaced_same : (t : Term Raw) (o : Option (RulingTerm Raw × List Token)) → made (λ y. with_ruling t (Some y)) o ≡ made (with_ruling t) (option_map {U = Option (RulingTerm Raw) × List Token} (λ (x : RulingTerm Raw × List Token). (Some x.0, x.1)) o)
replaced_same t None = refl
replaced_same t (Some x) = refl

restriction_rules : (depth : ℕ) (t : Term Raw) (tokens behind : List Token) → tokens ≡ operator Only ∷ behind → restriction_within depth t behind ≡ ruling_within depth t tokens
unfolding restriction_within ruling_within
restriction_rules depth t tokens behind spelled =
    restricted_same t (contexts_at (chain_within depth) behind) ∙ ap (λ us. made (with_ruling t) (option_at (is_level 14) (ruling_at (chain_within depth)) us)) (sym spelled)

pub ruling_only : (depth : ℕ) (t : Term Raw) (tokens behind : List Token) → Some behind ≡ after Only tokens → restriction_within depth t behind ≡ ruling_within depth t tokens
ruling_only depth t tokens behind front = restriction_rules depth t tokens behind (after_takes Only tokens behind (sym front))

pub ruling_arrow : (depth : ℕ) (t : Term Raw) (tokens : List Token) (optional : Bool) (behind : List Token) → Some (optional, behind) ≡ one_of arrow_of tokens → replacement_within depth optional t behind ≡ ruling_within depth t tokens
unfolding replacement_within ruling_within
ruling_arrow depth t tokens true behind front =
    replaced_same t (replacement_at true (chain_within depth) behind) ∙ ap (λ us. made (with_ruling t) (option_at (is_level 14) (ruling_at (chain_within depth)) us)) (sym (arrow_takes tokens true behind front))
ruling_arrow depth t tokens false behind front =
    replaced_same t (replacement_at false (chain_within depth) behind) ∙ ap (λ us. made (with_ruling t) (option_at (is_level 14) (ruling_at (chain_within depth)) us)) (sym (arrow_takes tokens false behind front))

pub ruling_way : (depth : ℕ) (t : Term Raw) (tokens : List Token) (way : Way) (behind : List Token) → Some (way, behind) ≡ one_of way_of tokens → directed_within depth way t behind ≡ ruling_within depth t tokens
unfolding directed_within ruling_within
ruling_way depth t tokens left_longest behind front =
    replaced_same t (directed_at left_longest (chain_within depth) behind) ∙ ap (λ us. made (with_ruling t) (option_at (is_level 14) (ruling_at (chain_within depth)) us)) (sym (way_takes tokens left_longest behind front))
ruling_way depth t tokens left_shortest behind front =
    replaced_same t (directed_at left_shortest (chain_within depth) behind) ∙ ap (λ us. made (with_ruling t) (option_at (is_level 14) (ruling_at (chain_within depth)) us)) (sym (way_takes tokens left_shortest behind front))
ruling_way depth t tokens right_longest behind front =
    replaced_same t (directed_at right_longest (chain_within depth) behind) ∙ ap (λ us. made (with_ruling t) (option_at (is_level 14) (ruling_at (chain_within depth)) us)) (sym (way_takes tokens right_longest behind front))
ruling_way depth t tokens right_shortest behind front =
    replaced_same t (directed_at right_shortest (chain_within depth) behind) ∙ ap (λ us. made (with_ruling t) (option_at (is_level 14) (ruling_at (chain_within depth)) us)) (sym (way_takes tokens right_shortest behind front))

pub ruling_none : (depth : ℕ) (t : Term Raw) (tokens : List Token) → None ≡ after Only tokens → None ≡ one_of arrow_of tokens → None ≡ one_of way_of tokens → Some (t, tokens) ≡ ruling_within depth t tokens
unfolding ruling_within
ruling_none depth t tokens only_none none way_none =
    ap (λ b. made (with_ruling t) (cond b (option_map {U = Option (RulingTerm Raw) × List Token} (λ (x : RulingTerm Raw × List Token). (Some x.0, x.1)) (ruling_at (chain_within depth) tokens)) (Some (None, tokens)))) (sym (no_ruling tokens only_none none way_none))

insertion_from : (depth : ℕ) (tokens : List Token) (optional : Bool) (behind : List Token) (t : Term Raw) (rest : List Token) → Some (optional, behind) ≡ one_of arrow_of tokens → Some (t, rest) ≡ chain_within depth behind
    → made (λ s. rules optional (groups_by (record { maps = inserting t ∷ []; sided = s } ∷ []))) (sided_within depth rest) ≡ insertion_within depth tokens
unfolding sided_within insertion_within
insertion_from depth tokens optional behind t rest front item =
    made_twice (λ s. rules optional (groups_by (record { maps = inserting t ∷ []; sided = s } ∷ []))) sided_by (option_at (is_level 12) (sided_at (chain_within depth)) rest)
    ∙ ap (option_and_then (λ (x : Term Raw × List Token). made (insertion_by optional x.0) (option_at (is_level 12) (sided_at (chain_within depth)) x.1))) item
    ∙ ap (option_and_then (λ (a : Bool × List Token). option_and_then (λ (x : Term Raw × List Token). made (insertion_by a.0 x.0) (option_at (is_level 12) (sided_at (chain_within depth)) x.1)) (chain_within depth a.1))) front

pub insertion_read : (depth : ℕ) (tokens : List Token) (optional : Bool) (behind : List Token) (t : Term Raw) (rest : List Token) (sided : SidedTerm Raw) (last : List Token) (u : Term Raw)
    → Some (optional, behind) ≡ one_of arrow_of tokens → Some (t, rest) ≡ chain_within depth behind → Some (sided, last) ≡ sided_within depth rest
    → u ≡ rules optional (groups_by (record { maps = inserting t ∷ []; sided = sided } ∷ [])) → Some (u, last) ≡ insertion_within depth tokens
insertion_read depth tokens optional behind t rest sided last u front item sides same =
    ap (λ v. Some (v, last)) same
    ∙ ap (made (λ s. rules optional (groups_by (record { maps = inserting t ∷ []; sided = s } ∷ [])))) sides
    ∙ insertion_from depth tokens optional behind t rest front item

pub insertion_unsided : (depth : ℕ) (tokens : List Token) (optional : Bool) (behind : List Token) (t : Term Raw) (rest : List Token)
    → Some (optional, behind) ≡ one_of arrow_of tokens → Some (t, rest) ≡ chain_within depth behind → None ≡ sided_within depth rest → None ≡ insertion_within depth tokens
insertion_unsided depth tokens optional behind t rest front item sides =
    ap (made (λ s. rules optional (groups_by (record { maps = inserting t ∷ []; sided = s } ∷ [])))) sides ∙ insertion_from depth tokens optional behind t rest front item

pub insertion_fails : (depth : ℕ) (tokens : List Token) (optional : Bool) (behind : List Token) → Some (optional, behind) ≡ one_of arrow_of tokens → None ≡ chain_within depth behind → None ≡ insertion_within depth tokens
unfolding insertion_within
insertion_fails depth tokens optional behind front item =
    ap (option_and_then (λ (x : Term Raw × List Token). made (insertion_by optional x.0) (option_at (is_level 12) (sided_at (chain_within depth)) x.1))) item
    ∙ ap (option_and_then (λ (a : Bool × List Token). option_and_then (λ (x : Term Raw × List Token). made (insertion_by a.0 x.0) (option_at (is_level 12) (sided_at (chain_within depth)) x.1)) (chain_within depth a.1))) front

pub insertion_none : (depth : ℕ) (tokens : List Token) → None ≡ one_of arrow_of tokens → None ≡ insertion_within depth tokens
unfolding insertion_within
insertion_none depth tokens none =
    ap (option_and_then (λ (a : Bool × List Token). option_and_then (λ (x : Term Raw × List Token). made (insertion_by a.0 x.0) (option_at (is_level 12) (sided_at (chain_within depth)) x.1)) (chain_within depth a.1))) none

pub nine_inserted : (depth : ℕ) (tokens behind : List Token) → Some behind ≡ after Insertion tokens → insertion_within depth behind ≡ nine_within depth tokens
unfolding insertion_within nine_within
nine_inserted depth tokens behind front = ap (λ o. nine_by (chain_within depth) o tokens) front

pub nine_ruled : (depth : ℕ) (tokens : List Token) (t : Term Raw) (rest : List Token) → None ≡ after Insertion tokens → Some (t, rest) ≡ chain_within depth tokens → ruling_within depth t rest ≡ nine_within depth tokens
unfolding ruling_within nine_within
nine_ruled depth tokens t rest none item =
    ap (option_and_then (λ (x : Term Raw × List Token). made (with_ruling x.0) (option_at (is_level 14) (ruling_at (chain_within depth)) x.1))) item
    ∙ ap (λ o. nine_by (chain_within depth) o tokens) none

pub nine_none : (depth : ℕ) (tokens : List Token) → None ≡ after Insertion tokens → None ≡ chain_within depth tokens → None ≡ nine_within depth tokens
unfolding nine_within
nine_none depth tokens none item =
    ap (option_and_then (λ (x : Term Raw × List Token). made (with_ruling x.0) (option_at (is_level 14) (ruling_at (chain_within depth)) x.1))) item
    ∙ ap (λ o. nine_by (chain_within depth) o tokens) none
