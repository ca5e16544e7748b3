-- What each function of the parser reads, where so many brackets may be opened: the levels of the grammar by name, so that
-- a proof about one of them sees no other.
use Rattle.std.specs.Prelude.{ℕ, Bool, None, Some, List, [], ◌∷◌, length}
use Rattle.regex_ast.specs.Terms.{Term, any, edge, maybe, only}
use Rattle.regex_ast.specs.declared.expr.Prefix.{Prefix}
use Rattle.regex_ast.specs.declared.expr.Raw.{Raw}
use Rattle.regex_ast.specs.declared.expr.Suffix.{Suffix}
use Rattle.regex_ast.specs.declared.expr.Way.{Way}
use Rattle.regex_grammar.specs.Rows.{Reader, many, option_at}
use Rattle.regex_grammar.specs.Grammar.{run_term, quoted_term, braced_term, part, ContextTerm, contexts_by, SidedTerm, sided_by, MappingTerm, mapping_by, with_centre, or_no_context, GroupTerm, group_by, with_ruling}
use Rattle.regex_grammar.specs.Reading.{is_level, is_up_up, is_backslash, is_prefix, one_of, backslash_of, prefix_of, suffix_at, primary_at, square_at, bracket_at, negated_at, crossed_at, suffixed_at, prefixed_at, ignored_at, concat_at, chain_at, context_at, contexts_at, sided_at, dots_at, right_at, mapping_at, mapping_row_at, upper_at, group_tail_at, group_at, replacement_at, directed_at, ruling_at, insertion_at, nine_at, steps_at, expression_at}
use Rattle.regex_tokens.specs.declared.token.Operator.{Operator}
use Rattle.regex_tokens.specs.declared.token.Operator.TheVariants.{CloseRound, Question, Edge}
use Rattle.regex_tokens.specs.declared.token.Token.{Token}
use Rattle.regex_tokens.specs.declared.token.Token.TheVariants.{Operator as operator, Quoted as quoted_token, Braced as braced_token, Run as run_token}
use Rattle.regex_parser.specs.Values.{made}

-- What begins an operand.
unfoldable pub is_operand : Token → Bool
is_operand t = is_level 7 t

-- Marks before and behind an operand.

unfoldable pub backslashes_at : Reader Token ℕ
backslashes_at tokens = made length (many is_backslash (one_of backslash_of) (length tokens) tokens)

unfoldable pub prefixes_at : Reader Token (List Prefix)
prefixes_at tokens = many is_prefix (one_of prefix_of) (length tokens) tokens

unfoldable pub suffixes_at : Reader Token (List Suffix)
suffixes_at tokens = many (is_level 4) suffix_at (length tokens) tokens

-- Levels 1 to 8.

-- level 1 without brackets
unfoldable pub leaf_at : Reader Token (Term Raw)
leaf_at [] = None
leaf_at (run_token r ∷ rest) = Some (run_term r.text r.escaped, rest)
leaf_at (quoted_token cs ∷ rest) = Some (quoted_term cs, rest)
leaf_at (braced_token cs ∷ rest) = Some (braced_term cs, rest)
leaf_at (operator Question ∷ rest) = Some (any, rest)
leaf_at (operator Edge ∷ rest) = Some (edge, rest)
leaf_at (operator _ ∷ rest) = None

unfoldable pub square_within : ℕ → Reader Token (Term Raw)
square_within depth tokens = square_at (expression_at depth) tokens

unfoldable pub round_within : ℕ → Reader Token (Term Raw)
round_within depth tokens = bracket_at maybe CloseRound (expression_at depth) tokens

unfoldable pub primary_within : ℕ → Reader Token (Term Raw)
primary_within depth tokens = primary_at (expression_at depth) tokens

unfoldable pub negated_within : ℕ → Reader Token (Term Raw)
negated_within depth tokens = negated_at (expression_at depth) tokens

unfoldable pub crossed_within : ℕ → Reader Token (Term Raw)
crossed_within depth tokens = crossed_at (expression_at depth) tokens

unfoldable pub suffixed_within : ℕ → Reader Token (Term Raw)
suffixed_within depth tokens = suffixed_at (expression_at depth) tokens

unfoldable pub prefixed_within : ℕ → Reader Token (Term Raw)
prefixed_within depth tokens = prefixed_at (expression_at depth) tokens

unfoldable pub ignored_within : ℕ → Reader Token (Term Raw)
ignored_within depth tokens = ignored_at (expression_at depth) tokens

unfoldable pub concat_within : ℕ → Reader Token (Term Raw)
concat_within depth tokens = concat_at (expression_at depth) tokens

unfoldable pub chain_within : ℕ → Reader Token (Term Raw)
chain_within depth tokens = chain_at (expression_at depth) tokens

-- Level 9: a level 8 that may be left out, and what stands round it. A centre that was read before is given.

unfoldable pub part_within : ℕ → Reader Token (Term Raw)
part_within depth tokens = made part (option_at (is_level 7) (chain_within depth) tokens)

unfoldable pub context_within : ℕ → Reader Token (ContextTerm Raw)
context_within depth tokens = context_at (chain_within depth) tokens

unfoldable pub contexts_within : ℕ → Reader Token (List (ContextTerm Raw))
contexts_within depth tokens = contexts_at (chain_within depth) tokens

unfoldable pub sided_within : ℕ → Reader Token (SidedTerm Raw)
sided_within depth tokens = made sided_by (option_at (is_level 12) (sided_at (chain_within depth)) tokens)

unfoldable pub marks_within : ℕ → Term Raw → Term Raw → Reader Token (MappingTerm Raw)
marks_within depth centre before tokens = made (mapping_by centre) (dots_at (chain_within depth) before tokens)

unfoldable pub right_within : ℕ → Term Raw → Reader Token (MappingTerm Raw)
right_within depth centre tokens = made (mapping_by centre) (right_at (chain_within depth) tokens)

unfoldable pub mapping_within : ℕ → Operator → Reader Token (MappingTerm Raw)
mapping_within depth arrow tokens = mapping_at arrow (chain_within depth) tokens

unfoldable pub mappings_within : ℕ → Operator → Term Raw → Reader Token (List (MappingTerm Raw))
mappings_within depth arrow centre tokens = made (with_centre centre) (mapping_row_at arrow (chain_within depth) tokens)

unfoldable pub upper_within : ℕ → Reader Token (List (ContextTerm Raw))
upper_within depth tokens = made or_no_context (option_at is_up_up (upper_at (chain_within depth)) tokens)

unfoldable pub group_tail_within : ℕ → Bool → Term Raw → Reader Token (GroupTerm Raw)
group_tail_within depth optional centre tokens = made (group_by centre) (group_tail_at optional (chain_within depth) tokens)

unfoldable pub group_within : ℕ → Bool → Reader Token (GroupTerm Raw)
group_within depth optional tokens = group_at optional (chain_within depth) tokens

unfoldable pub replacement_within : ℕ → Bool → Term Raw → Reader Token (Term Raw)
replacement_within depth optional centre tokens = made (λ y. with_ruling centre (Some y)) (replacement_at optional (chain_within depth) tokens)

unfoldable pub directed_within : ℕ → Way → Term Raw → Reader Token (Term Raw)
directed_within depth way centre tokens = made (λ y. with_ruling centre (Some y)) (directed_at way (chain_within depth) tokens)

unfoldable pub restriction_within : ℕ → Term Raw → Reader Token (Term Raw)
restriction_within depth centre tokens = made (λ y. only centre (contexts_by y)) (contexts_at (chain_within depth) tokens)

unfoldable pub ruling_within : ℕ → Term Raw → Reader Token (Term Raw)
ruling_within depth centre tokens = made (with_ruling centre) (option_at (is_level 14) (ruling_at (chain_within depth)) tokens)

unfoldable pub insertion_within : ℕ → Reader Token (Term Raw)
insertion_within depth tokens = insertion_at (chain_within depth) tokens

unfoldable pub nine_within : ℕ → Reader Token (Term Raw)
nine_within depth tokens = nine_at (chain_within depth) tokens

-- Level 10.

unfoldable pub steps_within : ℕ → Reader Token (Term Raw)
steps_within depth tokens = steps_at (expression_at depth) tokens
