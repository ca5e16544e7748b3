-- Reading as a function on tokens, step by step, which a parser computes. Its answers are proved to be those of the
-- grammar (proofs/Levels.antt).
use Rattle.std.specs.Prelude.{ℕ, zero, suc, Bool, true, false, List, [], ◌∷◌, ◌==◌, ⊤, Option, None, Some, if◌then◌else◌}
use Rattle.std.specs.Option.{option_map, option_and_then}
use Rattle.regex_ast.specs.Terms.{Term, empty, any, edge, group, maybe}
use Rattle.regex_ast.specs.declared.expr.Raw.{Raw}
use Rattle.regex_ast.specs.declared.expr.Suffix.{Suffix}
use Rattle.regex_ast.specs.declared.expr.Suffix.TheVariants.{Star as any_number, Plus as one_or_more, Power as times, Upper as upper_side, Lower as lower_side, Inverse as inverse, Reverse as reverse}
use Rattle.regex_ast.specs.declared.expr.Prefix.{Prefix}
use Rattle.regex_ast.specs.declared.expr.Prefix.TheVariants.{Not, Contains}
use Rattle.regex_ast.specs.declared.expr.Side.{Side}
use Rattle.regex_ast.specs.declared.expr.Side.TheVariants.{UpUp as up_up, LowUp as low_up, UpLow as up_low, LowLow as low_low}
use Rattle.regex_ast.specs.declared.expr.Way.{Way}
use Rattle.regex_ast.specs.declared.expr.Way.TheVariants.{LeftLongest as left_longest, LeftShortest as left_shortest, RightLongest as right_longest, RightShortest as right_shortest}
use Rattle.regex_tokens.specs.Fronts.{after}
use Rattle.regex_tokens.specs.declared.token.Operator.{Operator}
use Rattle.regex_tokens.specs.declared.token.Operator.TheVariants.{OpenSquare, CloseSquare, OpenRound, CloseRound, Optional, Arrow, LeftLongest, LeftShortest, RightLongest, RightShortest, Only, UpUp, Bar, LowUp, Slash, UpLow, LowLow, Backslash, Ampersand, Minus, Tilde, Dollar, Star, Plus, Caret, Colon, Semicolon, GroupComma, Comma, Question, Underscore, Dots, CrossWith, Then, Upper, Lower, Inverse, Reverse, Edge, Insertion}
use Rattle.regex_tokens.specs.declared.token.Token.{Token}
use Rattle.regex_tokens.specs.declared.token.Token.TheVariants.{Operator as operator, Quoted as quoted_token, Braced as braced_token, Run as run_token}
use Rattle.regex_grammar.specs.Rows.{Reader, option_at, row_at, tailed_at, led_at}
use Rattle.regex_grammar.specs.Whole.{most_open}
use Rattle.regex_grammar.specs.Grammar.{run_term, quoted_term, braced_term, is_number, power_value, with_backslashes, with_lower, with_suffixes, with_prefixes, ignoring, side_by_side, Linked, or_else, and_also, but_not, with_links, part, ContextTerm, in_a_row, SidedTerm, RightTerm, result_term, marks_term, MappingTerm, mapping_by, GroupTailTerm, right_and_more, group_tail_by, GroupTerm, group_by, RulingTerm, restriction, replacement_by, direction_by, with_ruling, insertion_by, arrow_operator, way_operator, StepForm, crossing, composing, with_steps}

-- The row that a token goes on, by the level whose operands it stands behind; within level 9 by what it goes on there: 9 a
-- right side, 11 contexts or mappings, 12 a group, 13 groups, 14 a level 8. 7 is what begins an operand, which
-- goes on a concatenation; 10 begins a context; 15 is the row of `.x.` and `.o.`; 16 goes on nothing.
abbrev pub operator_level : Operator → ℕ
operator_level Colon = 3
operator_level Star = 4
operator_level Plus = 4
operator_level Caret = 4
operator_level Upper = 4
operator_level Lower = 4
operator_level Inverse = 4
operator_level Reverse = 4
operator_level Slash = 6
operator_level OpenSquare = 7
operator_level OpenRound = 7
operator_level Question = 7
operator_level Edge = 7
operator_level Backslash = 7
operator_level Tilde = 7
operator_level Dollar = 7
operator_level Bar = 8
operator_level Ampersand = 8
operator_level Minus = 8
operator_level Dots = 9
operator_level Underscore = 10
operator_level Comma = 11
operator_level UpUp = 12
operator_level LowUp = 12
operator_level UpLow = 12
operator_level LowLow = 12
operator_level GroupComma = 13
operator_level Arrow = 14
operator_level Optional = 14
operator_level LeftLongest = 14
operator_level LeftShortest = 14
operator_level RightLongest = 14
operator_level RightShortest = 14
operator_level Only = 14
operator_level CrossWith = 15
operator_level Then = 15
operator_level CloseSquare = 16
operator_level CloseRound = 16
operator_level Semicolon = 16
operator_level Insertion = 16

abbrev pub level : Token → ℕ
level (run_token r) = 7
level (quoted_token cs) = 7
level (braced_token cs) = 7
level (operator o) = operator_level o

abbrev pub is_level : ℕ → Token → Bool
is_level n t = level t == n

-- `\`
abbrev pub is_backslash : Token → Bool
is_backslash (operator Backslash) = true
is_backslash _ = false

-- `~` and `$`
abbrev pub is_prefix : Token → Bool
is_prefix (operator Tilde) = true
is_prefix (operator Dollar) = true
is_prefix _ = false

-- `||`
abbrev pub is_up_up : Token → Bool
is_up_up (operator UpUp) = true
is_up_up _ = false

abbrev pub is_insertion : Token → Bool
is_insertion (operator Insertion) = true
is_insertion _ = false

-- Reading behind an operator.
abbrev pub behind_at : {T U : Type 0} → Operator → (T → U) → Reader Token T → Reader Token U
behind_at o make read tokens = option_and_then (λ rest. option_map (λ x. (make x.0, x.1)) (read rest)) (after o tokens)

-- what begins with one of these operators: which of them it is, and the tokens behind
abbrev pub one_of : {T : Type 0} → (Operator → Option T) → Reader Token T
one_of choose [] = None
one_of choose (operator o ∷ rest) = option_map (λ t. (t, rest)) (choose o)
one_of choose (_ ∷ rest) = None

-- Level 1.

-- an expression behind which a bracket closes
abbrev pub bracket_at : (Term Raw → Term Raw) → Operator → Reader Token (Term Raw) → Reader Token (Term Raw)
bracket_at make last inner tokens = option_and_then (λ x. option_map (λ rest. (make x.0, rest)) (after last x.1)) (inner tokens)

-- what is behind `[`, of which this is behind a `]`
abbrev pub square_by : Option (List Token) → Reader Token (Term Raw) → Reader Token (Term Raw)
square_by (Some rest) inner tokens = Some (empty, rest)
square_by None inner tokens = bracket_at group CloseSquare inner tokens

abbrev pub square_at : Reader Token (Term Raw) → Reader Token (Term Raw)
square_at inner tokens = square_by (after CloseSquare tokens) inner tokens

abbrev pub primary_at : Reader Token (Term Raw) → Reader Token (Term Raw)
primary_at inner [] = None
primary_at inner (run_token r ∷ rest) = Some (run_term r.text r.escaped, rest)
primary_at inner (quoted_token cs ∷ rest) = Some (quoted_term cs, rest)
primary_at inner (braced_token cs ∷ rest) = Some (braced_term cs, rest)
primary_at inner (operator Question ∷ rest) = Some (any, rest)
primary_at inner (operator Edge ∷ rest) = Some (edge, rest)
primary_at inner (operator OpenSquare ∷ rest) = square_at inner rest
primary_at inner (operator OpenRound ∷ rest) = bracket_at maybe CloseRound inner rest
primary_at inner (operator _ ∷ rest) = None

-- Levels 2 to 8.

abbrev pub backslash_of : Operator → Option ⊤
backslash_of Backslash = Some tt
backslash_of _ = None

abbrev pub negated_at : Reader Token (Term Raw) → Reader Token (Term Raw)
negated_at inner tokens = led_at is_backslash with_backslashes (one_of backslash_of) (primary_at inner) tokens

abbrev pub crossed_at : Reader Token (Term Raw) → Reader Token (Term Raw)
crossed_at inner tokens = tailed_at (is_level 3) with_lower (negated_at inner) (behind_at Colon (λ t. t) (negated_at inner)) tokens

-- the power of this number, where it is one
abbrev pub power_of : List ℕ → Bool → Option Suffix
power_of digits true = None
power_of digits false = if is_number digits then Some (times (power_value digits)) else None

abbrev pub power_at : Reader Token Suffix
power_at (run_token r ∷ rest) = option_map (λ s. (s, rest)) (power_of r.text r.escaped)
power_at _ = None

abbrev pub suffix_at : Reader Token Suffix
suffix_at (operator Star ∷ rest) = Some (any_number, rest)
suffix_at (operator Plus ∷ rest) = Some (one_or_more, rest)
suffix_at (operator Caret ∷ rest) = power_at rest
suffix_at (operator Upper ∷ rest) = Some (upper_side, rest)
suffix_at (operator Lower ∷ rest) = Some (lower_side, rest)
suffix_at (operator Inverse ∷ rest) = Some (inverse, rest)
suffix_at (operator Reverse ∷ rest) = Some (reverse, rest)
suffix_at _ = None

abbrev pub suffixed_at : Reader Token (Term Raw) → Reader Token (Term Raw)
suffixed_at inner tokens = row_at (is_level 4) with_suffixes (crossed_at inner) suffix_at tokens

abbrev pub prefix_of : Operator → Option Prefix
prefix_of Tilde = Some Not
prefix_of Dollar = Some Contains
prefix_of _ = None

abbrev pub prefixed_at : Reader Token (Term Raw) → Reader Token (Term Raw)
prefixed_at inner tokens = led_at is_prefix with_prefixes (one_of prefix_of) (suffixed_at inner) tokens

abbrev pub ignored_at : Reader Token (Term Raw) → Reader Token (Term Raw)
ignored_at inner tokens = row_at (is_level 6) ignoring (prefixed_at inner) (behind_at Slash (λ t. t) (prefixed_at inner)) tokens

abbrev pub concat_at : Reader Token (Term Raw) → Reader Token (Term Raw)
concat_at inner tokens = row_at (is_level 7) side_by_side (ignored_at inner) (ignored_at inner) tokens

abbrev pub linked_of : {T : Type 0} → Operator → Option (T → Linked T)
linked_of Bar = Some or_else
linked_of Ampersand = Some and_also
linked_of Minus = Some but_not
linked_of _ = None

abbrev pub link_at : Reader Token (Term Raw) → Reader Token (Linked (Term Raw))
link_at read tokens = option_and_then (λ y. option_map (λ x. (y.0 x.0, x.1)) (read y.1)) (one_of linked_of tokens)

abbrev pub chain_at : Reader Token (Term Raw) → Reader Token (Term Raw)
chain_at inner tokens = row_at (is_level 8) with_links (concat_at inner) (link_at (concat_at inner)) tokens

-- Level 9, over the reader of level 8.

-- what is behind a context's left part
abbrev pub context_behind : Reader Token (Term Raw) → Term Raw → Reader Token (ContextTerm Raw)
context_behind read l tokens = option_and_then (λ rest. option_map (λ r. (record { left = l; right = part r.0 }, r.1)) (option_at (is_level 7) read rest)) (after Underscore tokens)

abbrev pub context_at : Reader Token (Term Raw) → Reader Token (ContextTerm Raw)
context_at read tokens = option_and_then (λ l. context_behind read (part l.0) l.1) (option_at (is_level 7) read tokens)

abbrev pub contexts_at : Reader Token (Term Raw) → Reader Token (List (ContextTerm Raw))
contexts_at read tokens = row_at (is_level 11) in_a_row (context_at read) (behind_at Comma (λ c. c) (context_at read)) tokens

abbrev pub side_of : Operator → Option Side
side_of UpUp = Some up_up
side_of LowUp = Some low_up
side_of UpLow = Some up_low
side_of LowLow = Some low_low
side_of _ = None

abbrev pub sided_at : Reader Token (Term Raw) → Reader Token (SidedTerm Raw)
sided_at read tokens = option_and_then (λ s. option_map (λ x. (record { side = s.0; contexts = x.0 }, x.1)) (contexts_at read s.1)) (one_of side_of tokens)

-- what is behind `...`
abbrev pub dots_at : Reader Token (Term Raw) → Term Raw → Reader Token (RightTerm Raw)
dots_at read before tokens = option_map (λ x. (marks_term before (part x.0), x.1)) (option_at (is_level 7) read tokens)

-- a right side whose first part was read, behind which this is behind `...`
abbrev pub right_by : Reader Token (Term Raw) → Term Raw → List Token → Option (List Token) → Option (RightTerm Raw × List Token)
right_by read t tokens None = Some (result_term t, tokens)
right_by read t tokens (Some rest) = dots_at read t rest

-- a right side, of which this is behind `...` at its front
abbrev pub right_from : Reader Token (Term Raw) → Option (List Token) → Reader Token (RightTerm Raw)
right_from read (Some rest) tokens = dots_at read empty rest
right_from read None tokens = option_and_then (λ x. right_by read x.0 x.1 (after Dots x.1)) (read tokens)

abbrev pub right_at : Reader Token (Term Raw) → Reader Token (RightTerm Raw)
right_at read tokens = right_from read (after Dots tokens) tokens

abbrev pub mapping_at : Operator → Reader Token (Term Raw) → Reader Token (MappingTerm Raw)
mapping_at o read tokens = option_and_then (λ c. behind_at o (λ r. mapping_by c.0 r) (right_at read) c.1) (read tokens)

abbrev pub mapping_row_at : Operator → Reader Token (Term Raw) → Reader Token (RightTerm Raw × List (MappingTerm Raw))
mapping_row_at o read tokens = row_at (is_level 11) right_and_more (right_at read) (behind_at Comma (λ m. m) (mapping_at o read)) tokens

abbrev pub group_tail_at : Bool → Reader Token (Term Raw) → Reader Token (GroupTailTerm Raw)
group_tail_at arrow read tokens = tailed_at (is_level 12) group_tail_by (mapping_row_at (arrow_operator arrow) read) (sided_at read) tokens

abbrev pub group_at : Bool → Reader Token (Term Raw) → Reader Token (GroupTerm Raw)
group_at arrow read tokens = option_and_then (λ c. behind_at (arrow_operator arrow) (λ g. group_by c.0 g) (group_tail_at arrow read) c.1) (read tokens)

abbrev pub replacement_at : Bool → Reader Token (Term Raw) → Reader Token (RulingTerm Raw)
replacement_at arrow read tokens = row_at (is_level 13) (replacement_by arrow) (group_tail_at arrow read) (behind_at GroupComma (λ g. g) (group_at arrow read)) tokens

-- contexts behind `||`
abbrev pub upper_at : Reader Token (Term Raw) → Reader Token (List (ContextTerm Raw))
upper_at read tokens = behind_at UpUp (λ c. c) (contexts_at read) tokens

abbrev pub directed_at : Way → Reader Token (Term Raw) → Reader Token (RulingTerm Raw)
directed_at way read tokens = tailed_at is_up_up (direction_by way) (mapping_row_at (way_operator way) read) (upper_at read) tokens

abbrev pub ruling_at : Reader Token (Term Raw) → Reader Token (RulingTerm Raw)
ruling_at read (operator Only ∷ rest) = option_map (λ x. (restriction x.0, x.1)) (contexts_at read rest)
ruling_at read (operator Optional ∷ rest) = replacement_at true read rest
ruling_at read (operator Arrow ∷ rest) = replacement_at false read rest
ruling_at read (operator LeftLongest ∷ rest) = directed_at left_longest read rest
ruling_at read (operator LeftShortest ∷ rest) = directed_at left_shortest read rest
ruling_at read (operator RightLongest ∷ rest) = directed_at right_longest read rest
ruling_at read (operator RightShortest ∷ rest) = directed_at right_shortest read rest
ruling_at read _ = None

-- which arrow: true for `(->)`
abbrev pub arrow_of : Operator → Option Bool
arrow_of Optional = Some true
arrow_of Arrow = Some false
arrow_of _ = None

-- which directed arrow
abbrev pub way_of : Operator → Option Way
way_of LeftLongest = Some left_longest
way_of LeftShortest = Some left_shortest
way_of RightLongest = Some right_longest
way_of RightShortest = Some right_shortest
way_of _ = None

-- what is behind `[..]`
abbrev pub insertion_at : Reader Token (Term Raw) → Reader Token (Term Raw)
insertion_at read tokens = option_and_then (λ a. tailed_at (is_level 12) (insertion_by a.0) read (sided_at read) a.1) (one_of arrow_of tokens)

-- a level 9, of which this is behind `[..]` at its front
abbrev pub nine_by : Reader Token (Term Raw) → Option (List Token) → Reader Token (Term Raw)
nine_by read (Some rest) tokens = insertion_at read rest
nine_by read None tokens = tailed_at (is_level 14) with_ruling read (ruling_at read) tokens

abbrev pub nine_at : Reader Token (Term Raw) → Reader Token (Term Raw)
nine_at read tokens = nine_by read (after Insertion tokens) tokens

-- Level 10.

abbrev pub step_of : {T : Type 0} → Operator → Option (T → StepForm T)
step_of CrossWith = Some crossing
step_of Then = Some composing
step_of _ = None

abbrev pub step_at : Reader Token (Term Raw) → Reader Token (StepForm (Term Raw))
step_at read tokens = option_and_then (λ y. option_map (λ x. (y.0 x.0, x.1)) (read y.1)) (one_of step_of tokens)

abbrev pub steps_at : Reader Token (Term Raw) → Reader Token (Term Raw)
steps_at inner tokens = row_at (is_level 15) with_steps (nine_at (chain_at inner)) (step_at (nine_at (chain_at inner))) tokens

-- an expression with fewer than so many pairs of brackets round each of its tokens
unfoldable pub expression_at : ℕ → Reader Token (Term Raw)
expression_at zero tokens = None
expression_at (suc n) tokens = steps_at (expression_at n) tokens

-- what was read, where no token is left
abbrev pub all_read : {T : Type 0} → T → List Token → Option T
all_read t [] = Some t
all_read t (_ ∷ rest) = None

-- the expression that the tokens are
abbrev pub whole_at : List Token → Option (Term Raw)
whole_at tokens = option_and_then (λ x. all_read x.0 x.1) (expression_at (suc most_open) tokens)
