-- The expressions of xfst (Beesley and Karttunen, Finite State Morphology, 2003, chapters 2 and 3; replacement by
-- Karttunen, The Replace Operator, 1995, Kempe and Karttunen, Parallel Replacement in Finite State Calculus, 1996, and
-- Karttunen, Directed Replacement, 1996).
-- An expression is a tree by the levels of the operators, tightest first:
--
--   1   a run, a quoted text, a text in braces, `?`, `.#.`, `[ ]`, `[E]`, `(E)`
--   2   `\` before it, any number of times
--   3   `A:B`, at most one `:`
--   4   suffixes `*` `+` `^n` `.u` `.l` `.i` `.r`
--   5   prefixes `~` `$`
--   6   `/`
--   7   concatenation, by standing side by side
--   8   `|` `&` `-`
--   9   `A => CONTEXTS`, groups of mappings joined by `,,`, or one group with a directed arrow
--   10  `.x.` `.o.`
--
-- Operators of one level in a row are one node, and a row of one operand is its operand.
use Rattle.std.specs.Prelude.{◌≡◌, ℕ, zero, suc, Bool, true, false, IsTrue, List, [], ◌∷◌, length, map, codes, ⊤, Option, None, Some, if◌then◌else◌, min, ◌+◌, ◌-◌, ◌*◌, ◌&&◌, nat_lt}
use Rattle.std.specs.List.{list_all}
use Rattle.std.specs.Option.{option_map}
use Rattle.std.specs.Str.{bytes_eq}
use Rattle.regex_ast.specs.Terms.{Term, Links, Contexts, Steps, Mappings, Groups, empty, any, edge, atom, letters, group, maybe, not_one, cross, suffixed, prefixed, ignore, concat, chain, only, rules, directed as directed_rule, steps, terms_of, no_link, or, and, less, no_context, between, no_step, cross_with, then as compose, no_mapping, plain, markup, insert, no_group, then_group}
use Rattle.regex_ast.specs.declared.expr.Raw.{Raw}
use Rattle.regex_ast.specs.declared.expr.Raw.TheVariants.{Run as run_symbol, Quoted as quoted_symbol}
use Rattle.regex_ast.specs.declared.expr.Suffix.{Suffix}
use Rattle.regex_ast.specs.declared.expr.Suffix.TheVariants.{Star as any_number, Plus as one_or_more, Power as times, Upper as upper_side, Lower as lower_side, Inverse as inverse, Reverse as reverse}
use Rattle.regex_ast.specs.declared.expr.Prefix.{Prefix}
use Rattle.regex_ast.specs.declared.expr.Prefix.TheVariants.{Not, Contains}
use Rattle.regex_ast.specs.declared.expr.Side.{Side}
use Rattle.regex_ast.specs.declared.expr.Side.TheVariants.{UpUp as up_up, LowUp as low_up, UpLow as up_low, LowLow as low_low}
use Rattle.regex_ast.specs.declared.expr.Way.{Way}
use Rattle.regex_ast.specs.declared.expr.Way.TheVariants.{LeftLongest as left_longest, LeftShortest as left_shortest, RightLongest as right_longest, RightShortest as right_shortest}
use Rattle.regex_grammar.specs.Rows.{Row, Tailed, Led, put_option, put_row, put_tailed, put_led, row_value, tailed_value, led_value}
use Rattle.regex_tokens.specs.declared.token.Run.{Run}
use Rattle.regex_tokens.specs.declared.token.Operator.{Operator}
use Rattle.regex_tokens.specs.declared.token.Operator.TheVariants.{OpenSquare, CloseSquare, OpenRound, CloseRound, Optional, Arrow, LeftLongest, LeftShortest, RightLongest, RightShortest, Only, UpUp, Bar, LowUp, Slash, UpLow, LowLow, Backslash, Ampersand, Minus, Tilde, Dollar, Star, Plus, Caret, Colon, GroupComma, Comma, Question, Underscore, Dots, CrossWith, Then, Upper, Lower, Inverse, Reverse, Edge, Insertion}
use Rattle.regex_tokens.specs.declared.token.Token.{Token}
use Rattle.regex_tokens.specs.declared.token.Token.TheVariants.{Operator as operator, Quoted as quoted_token, Braced as braced_token, Run as run_token}

-- Trees.

-- a leaf: a run, a quoted text, or the characters between braces
pub data Leaf : Type 0 where
  run : Run → Leaf
  quoted : List ℕ → Leaf
  braced : List (List ℕ) → Leaf

-- level 1, over what may stand in brackets
pub data Primary (E : Type 0) : Type 0 where
  leaf : Leaf → Primary E
  question : Primary E
  boundary : Primary E
  blank : Primary E
  grouped : E → Primary E
  optional : E → Primary E

-- level 2; a mark is a backslash
abbrev pub Negated : Type 0 → Type 0
Negated E = Led ⊤ (Primary E)

-- level 3
abbrev pub Crossed : Type 0 → Type 0
Crossed E = Tailed (Negated E) (Negated E)

-- a byte that is a decimal digit
abbrev pub is_digit : ℕ → Bool
is_digit b = nat_lt 47 b && nat_lt b 58

-- digits, one at least
abbrev pub is_number : List ℕ → Bool
is_number [] = false
is_number (c ∷ cs) = list_all is_digit (c ∷ cs)

-- the number that decimal digits say, where those before them said n
abbrev pub number_behind : ℕ → List ℕ → ℕ
number_behind n [] = n
number_behind n (c ∷ cs) = number_behind (10 * n + (c - 48)) cs

abbrev pub number_of : List ℕ → ℕ
number_of digits = number_behind 0 digits

-- the number of a power: a run of digits without escape
pub record Times : Type 0 where
  pub run : Run
  pub plain : run.escaped ≡ false
  pub decimal : IsTrue (is_number run.text)

-- level 4: one suffix, and an operand with its suffixes
pub data SuffixForm : Type 0 where
  star : SuffixForm
  plus : SuffixForm
  power : Times → SuffixForm
  upper : SuffixForm
  lower : SuffixForm
  inverted : SuffixForm
  reversed : SuffixForm

abbrev pub Suffixed : Type 0 → Type 0
Suffixed E = Row (Crossed E) SuffixForm

-- level 5
abbrev pub Prefixed : Type 0 → Type 0
Prefixed E = Led Prefix (Suffixed E)

-- level 6
abbrev pub Ignored : Type 0 → Type 0
Ignored E = Row (Prefixed E) (Prefixed E)

-- level 7
abbrev pub Concatenated : Type 0 → Type 0
Concatenated E = Row (Ignored E) (Ignored E)

-- level 8: an operand with the operator before it, and a row of them
pub data Linked (C : Type 0) : Type 0 where
  or_else : C → Linked C
  and_also : C → Linked C
  but_not : C → Linked C

abbrev pub Chained : Type 0 → Type 0
Chained E = Row (Concatenated E) (Linked (Concatenated E))

-- level 9, over what stands at level 8
pub record ContextForm (C : Type 0) : Type 0 where
  pub left : Option C
  pub right : Option C

abbrev pub ContextRow : Type 0 → Type 0
ContextRow C = Row (ContextForm C) (ContextForm C)

pub record Sided (C : Type 0) : Type 0 where
  pub side : Side
  pub contexts : ContextRow C

-- what stands behind an arrow: a result, or what is put before and behind `...`
pub data RightSide (C : Type 0) : Type 0 where
  result : C → RightSide C
  marks : Option C → Option C → RightSide C

pub record MappingForm (C : Type 0) : Type 0 where
  pub centre : C
  pub right : RightSide C

-- mappings behind their first centre and arrow: the right side, and further mappings
abbrev pub MappingRow : Type 0 → Type 0
MappingRow C = Row (RightSide C) (MappingForm C)

-- the same with contexts: a group behind its first centre and arrow
abbrev pub GroupTail : Type 0 → Type 0
GroupTail C = Tailed (MappingRow C) (Sided C)

pub record GroupForm (C : Type 0) : Type 0 where
  pub centre : C
  pub tail : GroupTail C

-- what stands behind a level 8: `=>` and contexts, or an arrow and what follows it. All arrows are the same:
-- `(->)` where it is true, or that of a way, with which stands one group, whose contexts are behind `||`
pub data Ruling (C : Type 0) : Type 0 where
  restricted : ContextRow C → Ruling C
  replaced : Bool → Row (GroupTail C) (GroupForm C) → Ruling C
  directed : Way → Tailed (MappingRow C) (ContextRow C) → Ruling C

-- `[..]` stands alone in its set of rules
pub data Nine (C : Type 0) : Type 0 where
  ruled : Tailed C (Ruling C) → Nine C
  inserted : Bool → Tailed C (Sided C) → Nine C

-- level 10: an operand with the operator before it, and a row of them
pub data StepForm (N : Type 0) : Type 0 where
  crossing : N → StepForm N
  composing : N → StepForm N

abbrev pub Stepped : Type 0 → Type 0
Stepped E = Row (Nine (Chained E)) (StepForm (Nine (Chained E)))

-- an expression with fewer than so many pairs of brackets round each of its tokens
abbrev pub Expression : ℕ → Type 0
Expression zero = ⊥
Expression (suc n) = Stepped (Expression n)

-- Tokens: those of a tree, and then these.

abbrev pub token_of : Leaf → Token
token_of (run r) = run_token r
token_of (quoted cs) = quoted_token cs
token_of (braced cs) = braced_token cs

abbrev pub put_primary : {E : Type 0} → (E → List Token → List Token) → Primary E → List Token → List Token
put_primary put (leaf a) rest = token_of a ∷ rest
put_primary put question rest = operator Question ∷ rest
put_primary put boundary rest = operator Edge ∷ rest
put_primary put blank rest = operator OpenSquare ∷ operator CloseSquare ∷ rest
put_primary put (grouped e) rest = operator OpenSquare ∷ put e (operator CloseSquare ∷ rest)
put_primary put (optional e) rest = operator OpenRound ∷ put e (operator CloseRound ∷ rest)

abbrev pub put_backslash : ⊤ → List Token → List Token
put_backslash mark rest = operator Backslash ∷ rest

-- an operator, and then these
abbrev pub put_behind : {A : Type 0} → Operator → (A → List Token → List Token) → A → List Token → List Token
put_behind o put a rest = operator o ∷ put a rest

abbrev pub put_negated : {E : Type 0} → (E → List Token → List Token) → Negated E → List Token → List Token
put_negated put x rest = put_led put_backslash (put_primary put) x rest

abbrev pub put_crossed : {E : Type 0} → (E → List Token → List Token) → Crossed E → List Token → List Token
put_crossed put x rest = put_tailed (put_negated put) (put_behind Colon (put_negated put)) x rest

abbrev pub put_suffix : SuffixForm → List Token → List Token
put_suffix star rest = operator Star ∷ rest
put_suffix plus rest = operator Plus ∷ rest
put_suffix (power n) rest = operator Caret ∷ run_token n.run ∷ rest
put_suffix upper rest = operator Upper ∷ rest
put_suffix lower rest = operator Lower ∷ rest
put_suffix inverted rest = operator Inverse ∷ rest
put_suffix reversed rest = operator Reverse ∷ rest

abbrev pub put_suffixed : {E : Type 0} → (E → List Token → List Token) → Suffixed E → List Token → List Token
put_suffixed put x rest = put_row (put_crossed put) put_suffix x rest

abbrev pub put_prefix : Prefix → List Token → List Token
put_prefix Not rest = operator Tilde ∷ rest
put_prefix Contains rest = operator Dollar ∷ rest

abbrev pub put_prefixed : {E : Type 0} → (E → List Token → List Token) → Prefixed E → List Token → List Token
put_prefixed put x rest = put_led put_prefix (put_suffixed put) x rest

abbrev pub put_ignored : {E : Type 0} → (E → List Token → List Token) → Ignored E → List Token → List Token
put_ignored put x rest = put_row (put_prefixed put) (put_behind Slash (put_prefixed put)) x rest

abbrev pub put_concat : {E : Type 0} → (E → List Token → List Token) → Concatenated E → List Token → List Token
put_concat put x rest = put_row (put_ignored put) (put_ignored put) x rest

abbrev pub put_linked : {C : Type 0} → (C → List Token → List Token) → Linked C → List Token → List Token
put_linked put (or_else c) rest = operator Bar ∷ put c rest
put_linked put (and_also c) rest = operator Ampersand ∷ put c rest
put_linked put (but_not c) rest = operator Minus ∷ put c rest

abbrev pub put_chain : {E : Type 0} → (E → List Token → List Token) → Chained E → List Token → List Token
put_chain put x rest = put_row (put_concat put) (put_linked (put_concat put)) x rest

abbrev pub put_context : {C : Type 0} → (C → List Token → List Token) → ContextForm C → List Token → List Token
put_context put c rest = put_option put c.left (operator Underscore ∷ put_option put c.right rest)

abbrev pub put_contexts : {C : Type 0} → (C → List Token → List Token) → ContextRow C → List Token → List Token
put_contexts put x rest = put_row (put_context put) (put_behind Comma (put_context put)) x rest

abbrev pub side_operator : Side → Operator
side_operator up_up = UpUp
side_operator low_up = LowUp
side_operator up_low = UpLow
side_operator low_low = LowLow

abbrev pub put_sided : {C : Type 0} → (C → List Token → List Token) → Sided C → List Token → List Token
put_sided put s rest = operator (side_operator s.side) ∷ put_contexts put s.contexts rest

abbrev pub put_right : {C : Type 0} → (C → List Token → List Token) → RightSide C → List Token → List Token
put_right put (result c) rest = put c rest
put_right put (marks before behind) rest = put_option put before (operator Dots ∷ put_option put behind rest)

-- the arrow of rules that may leave a match as it is, and of those that may not
abbrev pub arrow_operator : Bool → Operator
arrow_operator true = Optional
arrow_operator false = Arrow

-- the arrow of a way
abbrev pub way_operator : Way → Operator
way_operator left_longest = LeftLongest
way_operator left_shortest = LeftShortest
way_operator right_longest = RightLongest
way_operator right_shortest = RightShortest

-- a mapping, and mappings behind their first centre and arrow, all by this arrow
abbrev pub put_mapping : {C : Type 0} → Operator → (C → List Token → List Token) → MappingForm C → List Token → List Token
put_mapping o put m rest = put m.centre (operator o ∷ put_right put m.right rest)

abbrev pub put_mapping_row : {C : Type 0} → Operator → (C → List Token → List Token) → MappingRow C → List Token → List Token
put_mapping_row o put x rest = put_row (put_right put) (put_behind Comma (put_mapping o put)) x rest

abbrev pub put_group_tail : {C : Type 0} → Bool → (C → List Token → List Token) → GroupTail C → List Token → List Token
put_group_tail arrow put x rest = put_tailed (put_mapping_row (arrow_operator arrow) put) (put_sided put) x rest

abbrev pub put_group : {C : Type 0} → Bool → (C → List Token → List Token) → GroupForm C → List Token → List Token
put_group arrow put g rest = put g.centre (operator (arrow_operator arrow) ∷ put_group_tail arrow put g.tail rest)

abbrev pub put_ruling : {C : Type 0} → (C → List Token → List Token) → Ruling C → List Token → List Token
put_ruling put (restricted contexts) rest = operator Only ∷ put_contexts put contexts rest
put_ruling put (replaced arrow groups) rest = operator (arrow_operator arrow) ∷ put_row (put_group_tail arrow put) (put_behind GroupComma (put_group arrow put)) groups rest
put_ruling put (directed way x) rest = operator (way_operator way) ∷ put_tailed (put_mapping_row (way_operator way) put) (put_behind UpUp (put_contexts put)) x rest

abbrev pub put_nine : {C : Type 0} → (C → List Token → List Token) → Nine C → List Token → List Token
put_nine put (ruled x) rest = put_tailed put (put_ruling put) x rest
put_nine put (inserted arrow x) rest = operator Insertion ∷ operator (arrow_operator arrow) ∷ put_tailed put (put_sided put) x rest

abbrev pub put_step : {N : Type 0} → (N → List Token → List Token) → StepForm N → List Token → List Token
put_step put (crossing n) rest = operator CrossWith ∷ put n rest
put_step put (composing n) rest = operator Then ∷ put n rest

abbrev pub put_steps : {E : Type 0} → (E → List Token → List Token) → Stepped E → List Token → List Token
put_steps put x rest = put_row (put_nine (put_chain put)) (put_step (put_nine (put_chain put))) x rest

abbrev pub put_expression : (n : ℕ) → Expression n → List Token → List Token
put_expression zero e rest = absurd e
put_expression (suc n) e rest = put_steps (put_expression n) e rest

-- What a tree says.

-- the run `0` without escape, `""` and `{}` are the empty string; an escaped run is never a name; each character
-- between braces is a symbol
abbrev pub run_term : List ℕ → Bool → Term Raw
run_term cs true = atom (quoted_symbol cs)
run_term cs false = if bytes_eq cs (codes "0") then empty else atom (run_symbol cs)

abbrev pub quoted_term : List ℕ → Term Raw
quoted_term [] = empty
quoted_term (c ∷ cs) = atom (quoted_symbol (c ∷ cs))

abbrev pub braced_term : List (List ℕ) → Term Raw
braced_term [] = empty
braced_term (c ∷ cs) = letters (map quoted_symbol (c ∷ cs))

abbrev pub leaf_term : Leaf → Term Raw
leaf_term (run r) = run_term r.text r.escaped
leaf_term (quoted cs) = quoted_term cs
leaf_term (braced cs) = braced_term cs

abbrev pub primary_term : {E : Type 0} → (E → Term Raw) → Primary E → Term Raw
primary_term says (leaf a) = leaf_term a
primary_term says question = any
primary_term says boundary = edge
primary_term says blank = empty
primary_term says (grouped e) = group (says e)
primary_term says (optional e) = maybe (says e)

-- an operand behind so many backslashes
abbrev pub with_backslashes : List ⊤ → Term Raw → Term Raw
with_backslashes [] t = t
with_backslashes (m ∷ more) t = not_one (length (m ∷ more)) t

abbrev pub negated_term : {E : Type 0} → (E → Term Raw) → Negated E → Term Raw
negated_term says x = led_value with_backslashes (λ m. m) (primary_term says) x

-- an upper side, and a lower side that may be left out
abbrev pub with_lower : Term Raw → Option (Term Raw) → Term Raw
with_lower t None = t
with_lower t (Some u) = cross t u

abbrev pub crossed_term : {E : Type 0} → (E → Term Raw) → Crossed E → Term Raw
crossed_term says x = tailed_value with_lower (negated_term says) (negated_term says) x

-- a number above 255 stands as 256, which the limit refuses
abbrev pub power_value : List ℕ → ℕ
power_value digits = min (number_of digits) 256

abbrev pub suffix_of : SuffixForm → Suffix
suffix_of star = any_number
suffix_of plus = one_or_more
suffix_of (power n) = times (power_value n.run.text)
suffix_of upper = upper_side
suffix_of lower = lower_side
suffix_of inverted = inverse
suffix_of reversed = reverse

abbrev pub with_suffixes : Term Raw → List Suffix → Term Raw
with_suffixes t [] = t
with_suffixes t (s ∷ more) = suffixed t (s ∷ more)

abbrev pub suffixed_term : {E : Type 0} → (E → Term Raw) → Suffixed E → Term Raw
suffixed_term says x = row_value with_suffixes (crossed_term says) suffix_of x

abbrev pub with_prefixes : List Prefix → Term Raw → Term Raw
with_prefixes [] t = t
with_prefixes (p ∷ more) t = prefixed (p ∷ more) t

abbrev pub prefixed_term : {E : Type 0} → (E → Term Raw) → Prefixed E → Term Raw
prefixed_term says x = led_value with_prefixes (λ p. p) (suffixed_term says) x

-- one term alone, or several with `/` between them
abbrev pub ignoring : Term Raw → List (Term Raw) → Term Raw
ignoring t [] = t
ignoring t (u ∷ us) = ignore (terms_of (t ∷ u ∷ us))

abbrev pub ignored_term : {E : Type 0} → (E → Term Raw) → Ignored E → Term Raw
ignored_term says x = row_value ignoring (prefixed_term says) (prefixed_term says) x

-- one term alone, or several side by side
abbrev pub side_by_side : Term Raw → List (Term Raw) → Term Raw
side_by_side t [] = t
side_by_side t (u ∷ us) = concat (terms_of (t ∷ u ∷ us))

abbrev pub concat_term : {E : Type 0} → (E → Term Raw) → Concatenated E → Term Raw
concat_term says x = row_value side_by_side (ignored_term says) (ignored_term says) x

abbrev pub linked_value : {C T : Type 0} → (C → T) → Linked C → Linked T
linked_value says (or_else c) = or_else (says c)
linked_value says (and_also c) = and_also (says c)
linked_value says (but_not c) = but_not (says c)

abbrev pub links_by : {A : Type 0} → List (Linked (Term A)) → Links A
links_by [] = no_link
links_by (or_else t ∷ more) = or t (links_by more)
links_by (and_also t ∷ more) = and t (links_by more)
links_by (but_not t ∷ more) = less t (links_by more)

abbrev pub with_links : Term Raw → List (Linked (Term Raw)) → Term Raw
with_links t [] = t
with_links t (l ∷ more) = chain t (links_by (l ∷ more))

abbrev pub chain_term : {E : Type 0} → (E → Term Raw) → Chained E → Term Raw
chain_term says x = row_value with_links (concat_term says) (linked_value (concat_term says)) x

-- a part that is left out is the empty string
abbrev pub part : {A : Type 0} → Option (Term A) → Term A
part None = empty
part (Some t) = t

-- a context as its two parts
pub record ContextTerm (A : Type 0) : Type 0 where
  pub left : Term A
  pub right : Term A

abbrev pub context_value : {C A : Type 0} → (C → Term A) → ContextForm C → ContextTerm A
context_value says c = record { left = part (option_map says c.left); right = part (option_map says c.right) }

abbrev pub contexts_by : {A : Type 0} → List (ContextTerm A) → Contexts A
contexts_by [] = no_context
contexts_by (c ∷ more) = between c.left c.right (contexts_by more)

abbrev pub in_a_row : {X : Type 0} → X → List X → List X
in_a_row x xs = x ∷ xs

abbrev pub contexts_value : {C A : Type 0} → (C → Term A) → ContextRow C → List (ContextTerm A)
contexts_value says x = row_value in_a_row (context_value says) (context_value says) x

pub record SidedTerm (A : Type 0) : Type 0 where
  pub side : Side
  pub contexts : List (ContextTerm A)

abbrev pub sided_value : {C A : Type 0} → (C → Term A) → Sided C → SidedTerm A
sided_value says s = record { side = s.side; contexts = contexts_value says s.contexts }

-- a group without contexts asks for none; its side says nothing
abbrev pub sided_by : {A : Type 0} → Option (SidedTerm A) → SidedTerm A
sided_by None = record { side = up_up; contexts = [] }
sided_by (Some s) = s

pub data RightTerm (A : Type 0) : Type 0 where
  result_term : Term A → RightTerm A
  marks_term : Term A → Term A → RightTerm A

abbrev pub right_value : {C A : Type 0} → (C → Term A) → RightSide C → RightTerm A
right_value says (result c) = result_term (says c)
right_value says (marks before behind) = marks_term (part (option_map says before)) (part (option_map says behind))

pub data MappingTerm (A : Type 0) : Type 0 where
  plain_mapping : Term A → Term A → MappingTerm A
  marking : Term A → Term A → Term A → MappingTerm A
  inserting : Term A → MappingTerm A

abbrev pub mapping_by : {A : Type 0} → Term A → RightTerm A → MappingTerm A
mapping_by centre (result_term t) = plain_mapping centre t
mapping_by centre (marks_term before behind) = marking centre before behind

abbrev pub mappings_by : {A : Type 0} → List (MappingTerm A) → Mappings A
mappings_by [] = no_mapping
mappings_by (plain_mapping c r ∷ more) = plain c r (mappings_by more)
mappings_by (marking c b a ∷ more) = markup c b a (mappings_by more)
mappings_by (inserting r ∷ more) = insert r (mappings_by more)

abbrev pub mapping_value : {C A : Type 0} → (C → Term A) → MappingForm C → MappingTerm A
mapping_value says m = mapping_by (says m.centre) (right_value says m.right)

-- a group behind its first centre
pub record GroupTailTerm (A : Type 0) : Type 0 where
  pub right : RightTerm A
  pub more : List (MappingTerm A)
  pub sided : SidedTerm A

pub record GroupTerm (A : Type 0) : Type 0 where
  pub maps : List (MappingTerm A)
  pub sided : SidedTerm A

abbrev pub right_and_more : {A : Type 0} → RightTerm A → List (MappingTerm A) → RightTerm A × List (MappingTerm A)
right_and_more right more = (right, more)

abbrev pub mapping_row_value : {C A : Type 0} → (C → Term A) → MappingRow C → RightTerm A × List (MappingTerm A)
mapping_row_value says x = row_value right_and_more (right_value says) (mapping_value says) x

-- the mappings, by their first centre
abbrev pub with_centre : {A : Type 0} → Term A → RightTerm A × List (MappingTerm A) → List (MappingTerm A)
with_centre centre maps = mapping_by centre maps.0 ∷ maps.1

abbrev pub group_tail_by : {A : Type 0} → RightTerm A × List (MappingTerm A) → Option (SidedTerm A) → GroupTailTerm A
group_tail_by maps sided = record { right = maps.0; more = maps.1; sided = sided_by sided }

abbrev pub group_tail_value : {C A : Type 0} → (C → Term A) → GroupTail C → GroupTailTerm A
group_tail_value says x = tailed_value group_tail_by (mapping_row_value says) (sided_value says) x

abbrev pub group_by : {A : Type 0} → Term A → GroupTailTerm A → GroupTerm A
group_by centre tail = record { maps = mapping_by centre tail.right ∷ tail.more; sided = tail.sided }

abbrev pub group_value : {C A : Type 0} → (C → Term A) → GroupForm C → GroupTerm A
group_value says g = group_by (says g.centre) (group_tail_value says g.tail)

abbrev pub groups_by : {A : Type 0} → List (GroupTerm A) → Groups A
groups_by [] = no_group
groups_by (g ∷ more) = then_group (mappings_by g.maps) g.sided.side (contexts_by g.sided.contexts) (groups_by more)

-- what stands behind a level 8, as what it makes of its term
pub data RulingTerm (A : Type 0) : Type 0 where
  restriction : List (ContextTerm A) → RulingTerm A
  replacement : Bool → GroupTailTerm A → List (GroupTerm A) → RulingTerm A
  direction : Way → RightTerm A × List (MappingTerm A) → List (ContextTerm A) → RulingTerm A

abbrev pub replacement_by : {A : Type 0} → Bool → GroupTailTerm A → List (GroupTerm A) → RulingTerm A
replacement_by arrow tail groups = replacement arrow tail groups

-- contexts that are left out are none
abbrev pub or_no_context : {A : Type 0} → Option (List (ContextTerm A)) → List (ContextTerm A)
or_no_context None = []
or_no_context (Some contexts) = contexts

abbrev pub direction_by : {A : Type 0} → Way → RightTerm A × List (MappingTerm A) → Option (List (ContextTerm A)) → RulingTerm A
direction_by way maps contexts = direction way maps (or_no_context contexts)

abbrev pub ruling_value : {C A : Type 0} → (C → Term A) → Ruling C → RulingTerm A
ruling_value says (restricted contexts) = restriction (contexts_value says contexts)
ruling_value says (replaced arrow groups) = row_value (replacement_by arrow) (group_tail_value says) (group_value says) groups
ruling_value says (directed way x) = tailed_value (direction_by way) (mapping_row_value says) (contexts_value says) x

abbrev pub with_ruling : {A : Type 0} → Term A → Option (RulingTerm A) → Term A
with_ruling t None = t
with_ruling t (Some (restriction contexts)) = only t (contexts_by contexts)
with_ruling t (Some (replacement arrow tail more)) = rules arrow (groups_by (group_by t tail ∷ more))
with_ruling t (Some (direction way maps contexts)) = directed_rule way (mappings_by (with_centre t maps)) (contexts_by contexts)

abbrev pub insertion_by : {A : Type 0} → Bool → Term A → Option (SidedTerm A) → Term A
insertion_by arrow t sided = rules arrow (groups_by (record { maps = inserting t ∷ []; sided = sided_by sided } ∷ []))

abbrev pub nine_term : {C A : Type 0} → (C → Term A) → Nine C → Term A
nine_term says (ruled x) = tailed_value with_ruling says (ruling_value says) x
nine_term says (inserted arrow x) = tailed_value (insertion_by arrow) says (sided_value says) x

abbrev pub step_value : {N T : Type 0} → (N → T) → StepForm N → StepForm T
step_value says (crossing n) = crossing (says n)
step_value says (composing n) = composing (says n)

abbrev pub steps_by : {A : Type 0} → List (StepForm (Term A)) → Steps A
steps_by [] = no_step
steps_by (crossing t ∷ more) = cross_with t (steps_by more)
steps_by (composing t ∷ more) = compose t (steps_by more)

abbrev pub with_steps : Term Raw → List (StepForm (Term Raw)) → Term Raw
with_steps t [] = t
with_steps t (s ∷ more) = steps t (steps_by (s ∷ more))

abbrev pub steps_term : {E : Type 0} → (E → Term Raw) → Stepped E → Term Raw
steps_term says x = row_value with_steps (nine_term (chain_term says)) (step_value (nine_term (chain_term says))) x

abbrev pub expression_term : (n : ℕ) → Expression n → Term Raw
expression_term zero e = absurd e
expression_term (suc n) e = steps_term (expression_term n) e
