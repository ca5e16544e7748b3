-- Levels 1 to 8 and 10 as they are read, by the names of `specs/Levels.antt`.
use Rattle.std.proofs.Common.{◌≡◌, ℕ, zero, suc, ◌-◌, Bool, true, false, cond, Option, Some, None, List, [], ◌∷◌, length, map, refl, sym, ap, ◌∙◌, arith}
use Rattle.std.specs.Bool.{⊤}
use Rattle.std.specs.Option.{option_map, option_and_then}
use Rattle.regex_ast.specs.Terms.{Term, term, empty, group, maybe, cross}
use Rattle.regex_ast.specs.declared.expr.Expr.{Expr}
use Rattle.regex_ast.specs.declared.expr.Link.{Link}
use Rattle.regex_ast.specs.declared.expr.Prefix.{Prefix}
use Rattle.regex_ast.specs.declared.expr.Raw.{Raw}
use Rattle.regex_ast.specs.declared.expr.Step.{Step}
use Rattle.regex_ast.specs.declared.expr.Suffix.{Suffix}
use Rattle.regex_tokens.specs.Fronts.{after}
use Rattle.regex_tokens.specs.declared.token.Operator.{Operator}
use Rattle.regex_tokens.specs.declared.token.Operator.TheVariants.{Slash, Colon, OpenSquare, OpenRound, CloseSquare, CloseRound, Question, Edge}
use Rattle.regex_tokens.specs.declared.token.Token.{Token}
use Rattle.regex_tokens.specs.declared.token.Token.TheVariants.{Operator as operator, Quoted as quoted_token, Braced as braced_token, Run as run_token}
use Rattle.regex_tokens.proofs.Fronts.{after_takes, after_again}
use Rattle.regex_grammar.specs.Rows.{Reader, begins, many, option_at}
use Rattle.regex_grammar.specs.Grammar.{with_backslashes, with_suffixes, with_prefixes, with_lower, ignoring, side_by_side, Linked, with_links, StepForm, with_steps}
use Rattle.regex_grammar.specs.Reading.{is_level, is_backslash, behind_at, one_of, backslash_of, suffix_at, linked_of, link_at, step_of, step_at, bracket_at, square_by, primary_at, negated_at, suffixed_at, prefixed_at, ignored_at, concat_at, chain_at, nine_at, steps_at, expression_at}
use Rattle.regex_grammar.proofs.Exact.{exact_shorter}
use Rattle.regex_grammar.proofs.Operators.{behind_exact}
use Rattle.regex_grammar.proofs.Levels5to8.{prefixed_exact, ignored_exact, concat_exact, link_exact, chain_exact}
use Rattle.regex_grammar.proofs.Level9.{nine_exact}
use Rattle.regex_grammar.proofs.Level10.{step_exact, expression_inside}
use Rattle.regex_parser.specs.Levels.{is_operand, backslashes_at, prefixes_at, suffixes_at, leaf_at, square_within, round_within, primary_within, negated_within, crossed_within, suffixed_within, prefixed_within, ignored_within, concat_within, chain_within, nine_within, steps_within}
use Rattle.regex_parser.specs.Values.{made, not_one_of, linked_by, link_value, step_by, step_value}
use Rattle.regex_parser.specs.declared.front.LinkOperator.{LinkOperator}
use Rattle.regex_parser.specs.declared.front.StepOperator.{StepOperator}
use Rattle.regex_parser.proofs.Loops.{Shortens, RowSoFar, row_read, row_fails, row_none}
use Rattle.regex_parser.proofs.Fronts.{no_slash, no_colon, no_link, no_step, after_begins, link_begins, step_begins, behind_found, behind_fails, formed_found, formed_fails}

-- Brackets.

pub expression_none : (depth : ℕ) (tokens : List Token) → depth ≡ 0 → None ≡ expression_at depth tokens
unfolding expression_at
expression_none zero tokens e = refl
expression_none (suc n) tokens e = absurd (omega arith)

pub expression_steps : (depth : ℕ) (tokens : List Token) → (depth ≡ 0 → ⊥) → steps_within (depth - 1) tokens ≡ expression_at depth tokens
unfolding expression_at steps_within
expression_steps zero tokens some = absurd (some refl)
expression_steps (suc n) tokens some = ap (λ d. steps_at (expression_at d) tokens) (omega arith)

bracketed : (make : Term Raw → Term Raw) (last : Operator) (inner : Reader Token (Term Raw)) (tokens : List Token) (t : Term Raw) (rest behind : List Token) (u : Term Raw) → Some (t, rest) ≡ inner tokens → Some behind ≡ after last rest → u ≡ make t → Some (u, behind) ≡ bracket_at make last inner tokens
bracketed make last inner tokens t rest behind u item close same =
    ap (λ v. Some (v, behind)) same
    ∙ ap (option_map (λ us. (make t, us))) close
    ∙ ap (option_and_then (λ (x : Term Raw × List Token). option_map (λ us. (make x.0, us)) (after last x.1))) item

unbracketed : (make : Term Raw → Term Raw) (last : Operator) (inner : Reader Token (Term Raw)) (tokens : List Token) → None ≡ inner tokens → None ≡ bracket_at make last inner tokens
unbracketed make last inner tokens item = ap (option_and_then (λ (x : Term Raw × List Token). option_map (λ us. (make x.0, us)) (after last x.1))) item

unclosed : (make : Term Raw → Term Raw) (last : Operator) (inner : Reader Token (Term Raw)) (tokens : List Token) (t : Term Raw) (rest : List Token) → Some (t, rest) ≡ inner tokens → None ≡ after last rest → None ≡ bracket_at make last inner tokens
unclosed make last inner tokens t rest item close =
    ap (option_map (λ us. (make t, us))) close
    ∙ ap (option_and_then (λ (x : Term Raw × List Token). option_map (λ us. (make x.0, us)) (after last x.1))) item

pub round_read : (depth : ℕ) (tokens : List Token) (t : Term Raw) (rest behind : List Token) (u : Term Raw) → Some (t, rest) ≡ expression_at depth tokens → Some behind ≡ after CloseRound rest → u ≡ maybe t → Some (u, behind) ≡ round_within depth tokens
unfolding round_within
round_read depth tokens t rest behind u item close same = bracketed maybe CloseRound (expression_at depth) tokens t rest behind u item close same

pub round_none : (depth : ℕ) (tokens : List Token) → None ≡ expression_at depth tokens → None ≡ round_within depth tokens
unfolding round_within
round_none depth tokens item = unbracketed maybe CloseRound (expression_at depth) tokens item

pub round_open : (depth : ℕ) (tokens : List Token) (t : Term Raw) (rest : List Token) → Some (t, rest) ≡ expression_at depth tokens → None ≡ after CloseRound rest → None ≡ round_within depth tokens
unfolding round_within
round_open depth tokens t rest item close = unclosed maybe CloseRound (expression_at depth) tokens t rest item close

pub square_blank : (depth : ℕ) (tokens rest : List Token) → Some rest ≡ after CloseSquare tokens → Some (empty, rest) ≡ square_within depth tokens
unfolding square_within
square_blank depth tokens rest close = ap (λ o. square_by o (expression_at depth) tokens) close

square_filled : (depth : ℕ) (tokens : List Token) → None ≡ after CloseSquare tokens → bracket_at group CloseSquare (expression_at depth) tokens ≡ square_within depth tokens
unfolding square_within
square_filled depth tokens filled = ap (λ o. square_by o (expression_at depth) tokens) filled

pub square_read : (depth : ℕ) (tokens : List Token) (t : Term Raw) (rest behind : List Token) (u : Term Raw) → None ≡ after CloseSquare tokens → Some (t, rest) ≡ expression_at depth tokens → Some behind ≡ after CloseSquare rest → u ≡ group t → Some (u, behind) ≡ square_within depth tokens
square_read depth tokens t rest behind u filled item close same = bracketed group CloseSquare (expression_at depth) tokens t rest behind u item close same ∙ square_filled depth tokens filled

pub square_none : (depth : ℕ) (tokens : List Token) → None ≡ after CloseSquare tokens → None ≡ expression_at depth tokens → None ≡ square_within depth tokens
square_none depth tokens filled item = unbracketed group CloseSquare (expression_at depth) tokens item ∙ square_filled depth tokens filled

pub square_open : (depth : ℕ) (tokens : List Token) (t : Term Raw) (rest : List Token) → None ≡ after CloseSquare tokens → Some (t, rest) ≡ expression_at depth tokens → None ≡ after CloseSquare rest → None ≡ square_within depth tokens
square_open depth tokens t rest filled item close = unclosed group CloseSquare (expression_at depth) tokens t rest item close ∙ square_filled depth tokens filled

-- Level 1.

pub primary_square : (depth : ℕ) (tokens rest : List Token) → Some rest ≡ after OpenSquare tokens → square_within depth rest ≡ primary_within depth tokens
unfolding square_within primary_within
primary_square depth tokens rest front = ap (primary_at (expression_at depth)) (sym (after_takes OpenSquare tokens rest (sym front)))

pub primary_round : (depth : ℕ) (tokens rest : List Token) → Some rest ≡ after OpenRound tokens → round_within depth rest ≡ primary_within depth tokens
unfolding round_within primary_within
primary_round depth tokens rest front = ap (primary_at (expression_at depth)) (sym (after_takes OpenRound tokens rest (sym front)))

pub primary_leaf : (depth : ℕ) (tokens : List Token) → None ≡ after OpenSquare tokens → None ≡ after OpenRound tokens → leaf_at tokens ≡ primary_within depth tokens
unfolding leaf_at primary_within
primary_leaf depth [] square round = refl
primary_leaf depth (run_token r ∷ rest) square round = refl
primary_leaf depth (quoted_token cs ∷ rest) square round = refl
primary_leaf depth (braced_token cs ∷ rest) square round = refl
primary_leaf depth (operator Question ∷ rest) square round = refl
primary_leaf depth (operator Edge ∷ rest) square round = refl
primary_leaf depth (operator OpenSquare ∷ rest) square round = let clash : None ≡ Some rest = square ∙ after_again OpenSquare rest in absurd cc
primary_leaf depth (operator OpenRound ∷ rest) square round = let clash : None ≡ Some rest = round ∙ after_again OpenRound rest in absurd cc
primary_leaf depth (operator _ ∷ rest) square round = refl

-- Level 2.

backslashes_are : (marks : List ⊤) (t : Term Raw) → with_backslashes marks t ≡ not_one_of (length marks) t
backslashes_are [] t = refl
backslashes_are (m ∷ more) t = refl

abbrev negated_from : Reader Token (Term Raw) → Option (List ⊤ × List Token) → Option (Term Raw × List Token)
negated_from read marks = option_and_then (λ y. made (with_backslashes y.0) (read y.1)) marks

negated_by : (read : Reader Token (Term Raw)) (count : ℕ) (behind : List Token) (t : Term Raw) (rest : List Token) (u : Term Raw) → Some (t, rest) ≡ read behind → u ≡ not_one_of count t
    → (o : Option (List ⊤ × List Token)) → made length o ≡ Some (count, behind) → Some (u, rest) ≡ negated_from read o
negated_by read count behind t rest u item same None e = absurd cc
negated_by read count behind t rest u item same (Some y) e =
    let a : ℕ × List Token = (length y.0, y.1) in
    let b : ℕ × List Token = (count, behind) in
    let pair : a ≡ b = cc in
    let there : Some (t, rest) ≡ read y.1 = item ∙ ap read (sym (ap (λ (p : ℕ × List Token). p.1) pair)) in
    let value : u ≡ with_backslashes y.0 t = same ∙ ap (λ n. not_one_of n t) (sym (ap (λ (p : ℕ × List Token). p.0) pair)) ∙ sym (backslashes_are y.0 t) in
    ap (λ v. Some (v, rest)) value ∙ ap (option_map (λ (x : Term Raw × List Token). (with_backslashes y.0 x.0, x.1))) there

negated_fails : (read : Reader Token (Term Raw)) (count : ℕ) (behind : List Token) → None ≡ read behind → (o : Option (List ⊤ × List Token)) → made length o ≡ Some (count, behind) → None ≡ negated_from read o
negated_fails read count behind item None e = absurd cc
negated_fails read count behind item (Some y) e =
    let a : ℕ × List Token = (length y.0, y.1) in
    let b : ℕ × List Token = (count, behind) in
    let pair : a ≡ b = cc in
    let there : None ≡ read y.1 = item ∙ ap read (sym (ap (λ (p : ℕ × List Token). p.1) pair)) in
    ap (option_map (λ (x : Term Raw × List Token). (with_backslashes y.0 x.0, x.1))) there

pub negated_read : (depth : ℕ) (tokens : List Token) (count : ℕ) (behind : List Token) (t : Term Raw) (rest : List Token) (u : Term Raw)
    → backslashes_at tokens ≡ Some (count, behind) → Some (t, rest) ≡ primary_within depth behind → u ≡ not_one_of count t → Some (u, rest) ≡ negated_within depth tokens
unfolding backslashes_at primary_within negated_within
negated_read depth tokens count behind t rest u marks item same =
    negated_by (primary_at (expression_at depth)) count behind t rest u item same (many is_backslash (one_of backslash_of) (length tokens) tokens) marks

pub negated_none : (depth : ℕ) (tokens : List Token) (count : ℕ) (behind : List Token) → backslashes_at tokens ≡ Some (count, behind) → None ≡ primary_within depth behind → None ≡ negated_within depth tokens
unfolding backslashes_at primary_within negated_within
negated_none depth tokens count behind marks item = negated_fails (primary_at (expression_at depth)) count behind item (many is_backslash (one_of backslash_of) (length tokens) tokens) marks

-- Level 3.

abbrev lower_at : ℕ → Reader Token (Option (Term Raw))
lower_at depth tokens = option_at (is_level 3) (behind_at Colon (λ t. t) (negated_at (expression_at depth))) tokens

-- a lower side, or none
abbrev lowered : Option (Term Raw × List Token) → Option (Option (Term Raw) × List Token)
lowered o = option_map {U = Option (Term Raw) × List Token} (λ (x : Term Raw × List Token). (Some x.0, x.1)) o

upper_read : (depth : ℕ) (tokens : List Token) (t : Term Raw) (behind : List Token) → Some (t, behind) ≡ negated_within depth tokens → made (with_lower t) (lower_at depth behind) ≡ crossed_within depth tokens
unfolding negated_within crossed_within
upper_read depth tokens t behind item = ap (option_and_then (λ (x : Term Raw × List Token). made (with_lower x.0) (lower_at depth x.1))) item

pub crossed_none : (depth : ℕ) (tokens : List Token) → None ≡ negated_within depth tokens → None ≡ crossed_within depth tokens
unfolding negated_within crossed_within
crossed_none depth tokens item = ap (option_and_then (λ (x : Term Raw × List Token). made (with_lower x.0) (lower_at depth x.1))) item

no_lower : (depth : ℕ) (behind : List Token) → None ≡ after Colon behind → Some (None, behind) ≡ lower_at depth behind
no_lower depth behind none = ap (λ b. cond b (lowered (behind_at Colon (λ t. t) (negated_at (expression_at depth)) behind)) (Some (None, behind))) (sym (no_colon behind none))

lower_read : (depth : ℕ) (behind operand : List Token) → Some operand ≡ after Colon behind → lowered (negated_within depth operand) ≡ lower_at depth behind
unfolding negated_within
lower_read depth behind operand front =
    map_again (negated_at (expression_at depth) operand)
    ∙ ap (λ o. lowered (option_and_then (λ us. option_map {U = Term Raw × List Token} (λ (x : Term Raw × List Token). (x.0, x.1)) (negated_at (expression_at depth) us)) o)) front
    ∙ ap (λ b. cond b (lowered (behind_at Colon (λ t. t) (negated_at (expression_at depth)) behind)) (Some (None, behind))) (sym (after_begins Colon (is_level 3) refl behind operand (sym front)))
  where
    map_again : (o : Option (Term Raw × List Token)) → lowered o ≡ lowered (option_map {U = Term Raw × List Token} (λ (x : Term Raw × List Token). (x.0, x.1)) o)
    map_again None = refl
    map_again (Some x) = refl

pub crossed_alone : (depth : ℕ) (tokens : List Token) (t : Term Raw) (behind : List Token) → Some (t, behind) ≡ negated_within depth tokens → None ≡ after Colon behind → Some (t, behind) ≡ crossed_within depth tokens
crossed_alone depth tokens t behind item none = ap (made (with_lower t)) (no_lower depth behind none) ∙ upper_read depth tokens t behind item

pub crossed_read : (depth : ℕ) (tokens : List Token) (t : Term Raw) (behind operand : List Token) (l : Term Raw) (rest : List Token) (u : Term Raw)
    → Some (t, behind) ≡ negated_within depth tokens → Some operand ≡ after Colon behind → Some (l, rest) ≡ negated_within depth operand → u ≡ cross t l → Some (u, rest) ≡ crossed_within depth tokens
crossed_read depth tokens t behind operand l rest u item front lower same =
    ap (λ v. Some (v, rest)) same
    ∙ ap (option_map (λ (x : Term Raw × List Token). (cross t x.0, x.1))) lower
    ∙ map_twice (negated_within depth operand)
    ∙ ap (made (with_lower t)) (lower_read depth behind operand front)
    ∙ upper_read depth tokens t behind item
  where
    map_twice : (o : Option (Term Raw × List Token)) → option_map (λ (x : Term Raw × List Token). (cross t x.0, x.1)) o ≡ made (with_lower t) (lowered o)
    map_twice None = refl
    map_twice (Some x) = refl

pub crossed_open : (depth : ℕ) (tokens : List Token) (t : Term Raw) (behind operand : List Token) → Some (t, behind) ≡ negated_within depth tokens → Some operand ≡ after Colon behind → None ≡ negated_within depth operand → None ≡ crossed_within depth tokens
crossed_open depth tokens t behind operand item front lower =
    ap (λ (o : Option (Term Raw × List Token)). made (with_lower t) (lowered o)) lower
    ∙ ap (made (with_lower t)) (lower_read depth behind operand front)
    ∙ upper_read depth tokens t behind item

-- Levels 4 and 5.

pub suffixed_read : (depth : ℕ) (tokens : List Token) (t : Term Raw) (behind : List Token) (marks : List Suffix) (rest : List Token) (u : Term Raw)
    → Some (t, behind) ≡ crossed_within depth tokens → Some (marks, rest) ≡ suffixes_at behind → u ≡ with_suffixes t marks → Some (u, rest) ≡ suffixed_within depth tokens
unfolding crossed_within suffixes_at suffixed_within
suffixed_read depth tokens t behind marks rest u item found same =
    ap (λ v. Some (v, rest)) same
    ∙ ap (option_map (λ (y : List Suffix × List Token). (with_suffixes t y.0, y.1))) found
    ∙ ap (option_and_then (λ (x : Term Raw × List Token). option_map (λ (y : List Suffix × List Token). (with_suffixes x.0 y.0, y.1)) (many (is_level 4) suffix_at (length x.1) x.1))) item

pub suffixed_fails : (depth : ℕ) (tokens : List Token) (t : Term Raw) (behind : List Token) → Some (t, behind) ≡ crossed_within depth tokens → None ≡ suffixes_at behind → None ≡ suffixed_within depth tokens
unfolding crossed_within suffixes_at suffixed_within
suffixed_fails depth tokens t behind item found =
    ap (option_map (λ (y : List Suffix × List Token). (with_suffixes t y.0, y.1))) found
    ∙ ap (option_and_then (λ (x : Term Raw × List Token). option_map (λ (y : List Suffix × List Token). (with_suffixes x.0 y.0, y.1)) (many (is_level 4) suffix_at (length x.1) x.1))) item

pub suffixed_none : (depth : ℕ) (tokens : List Token) → None ≡ crossed_within depth tokens → None ≡ suffixed_within depth tokens
unfolding crossed_within suffixed_within
suffixed_none depth tokens item = ap (option_and_then (λ (x : Term Raw × List Token). option_map (λ (y : List Suffix × List Token). (with_suffixes x.0 y.0, y.1)) (many (is_level 4) suffix_at (length x.1) x.1))) item

pub prefixed_read : (depth : ℕ) (tokens : List Token) (marks : List Prefix) (behind : List Token) (t : Term Raw) (rest : List Token) (u : Term Raw)
    → prefixes_at tokens ≡ Some (marks, behind) → Some (t, rest) ≡ suffixed_within depth behind → u ≡ with_prefixes marks t → Some (u, rest) ≡ prefixed_within depth tokens
unfolding prefixes_at suffixed_within prefixed_within
prefixed_read depth tokens marks behind t rest u found item same =
    ap (λ v. Some (v, rest)) same
    ∙ ap (option_map (λ (x : Term Raw × List Token). (with_prefixes marks x.0, x.1))) item
    ∙ ap (option_and_then (λ (y : List Prefix × List Token). option_map (λ (x : Term Raw × List Token). (with_prefixes y.0 x.0, x.1)) (suffixed_at (expression_at depth) y.1))) (sym found)

pub prefixed_none : (depth : ℕ) (tokens : List Token) (marks : List Prefix) (behind : List Token) → prefixes_at tokens ≡ Some (marks, behind) → None ≡ suffixed_within depth behind → None ≡ prefixed_within depth tokens
unfolding prefixes_at suffixed_within prefixed_within
prefixed_none depth tokens marks behind found item =
    ap (option_map (λ (x : Term Raw × List Token). (with_prefixes marks x.0, x.1))) item
    ∙ ap (option_and_then (λ (y : List Prefix × List Token). option_map (λ (x : Term Raw × List Token). (with_prefixes y.0 x.0, x.1)) (suffixed_at (expression_at depth) y.1))) (sym found)

-- Level 6.

unfoldable pub is_slash : Token → Bool
is_slash t = is_level 6 t

unfoldable pub slash_within : ℕ → Reader Token (Term Raw)
slash_within depth tokens = behind_at Slash (λ t. t) (prefixed_within depth) tokens

abbrev pub IgnoredSoFar : ℕ → List Token → Expr Raw → Expr Raw → List (Expr Raw) → List Token → Type 0
IgnoredSoFar depth behind e now more rest = RowSoFar is_slash (slash_within depth) behind e now (map term more) rest

pub slash_shorter : (depth : ℕ) → Shortens (slash_within depth)
unfolding slash_within prefixed_within
slash_shorter depth = exact_shorter (behind_exact Slash (is_level 6) (λ (t : Term Raw). t) refl (prefixed_exact (expression_inside depth)))

pub slash_begins : (tokens operand : List Token) → Some operand ≡ after Slash tokens → begins is_slash tokens ≡ true
unfolding is_slash
slash_begins tokens operand front = after_begins Slash (is_level 6) refl tokens operand (sym front)

pub slash_read : (depth : ℕ) (tokens operand : List Token) (t : Term Raw) (behind : List Token) → Some operand ≡ after Slash tokens → Some (t, behind) ≡ prefixed_within depth operand → slash_within depth tokens ≡ Some (t, behind)
unfolding slash_within
slash_read depth tokens operand t behind front item = behind_found Slash (λ (u : Term Raw). u) (prefixed_within depth) tokens operand t behind t (sym front) (sym item) refl

pub ignored_read : (depth : ℕ) (tokens : List Token) (e now : Expr Raw) (behind : List Token) (more : List (Expr Raw)) (rest : List Token) (u : Term Raw)
    → Some (term e, behind) ≡ prefixed_within depth tokens → IgnoredSoFar depth behind e now more rest → None ≡ after Slash rest → u ≡ ignoring (term now) (map term more) → Some (u, rest) ≡ ignored_within depth tokens
unfolding is_slash slash_within prefixed_within ignored_within
ignored_read depth tokens e now behind more rest u begun row stop same =
    row_read (is_level 6) ignoring (prefixed_at (expression_at depth)) (behind_at Slash (λ t. t) (prefixed_at (expression_at depth))) tokens (term e) behind (map term more) rest u (sym begun) row.so_far (no_slash rest stop) (same ∙ ap (λ (x : Expr Raw). ignoring (term x) (map term more)) row.kept)

pub ignored_fails : (depth : ℕ) (tokens : List Token) (e now : Expr Raw) (behind : List Token) (more : List (Expr Raw)) (rest operand : List Token)
    → Some (term e, behind) ≡ prefixed_within depth tokens → IgnoredSoFar depth behind e now more rest → Some operand ≡ after Slash rest → None ≡ prefixed_within depth operand → None ≡ ignored_within depth tokens
unfolding is_slash slash_within prefixed_within ignored_within
ignored_fails depth tokens e now behind more rest operand begun row front none =
    row_fails (is_level 6) ignoring (prefixed_at (expression_at depth)) (behind_at Slash (λ t. t) (prefixed_at (expression_at depth))) tokens (term e) behind (map term more) rest (sym begun) row.so_far (slash_begins rest operand front)
    (behind_fails Slash (λ (t : Term Raw). t) (prefixed_at (expression_at depth)) rest operand (sym front) none)

-- a row whose first item isn't there
pub ignored_none : (depth : ℕ) (tokens : List Token) → None ≡ prefixed_within depth tokens → None ≡ ignored_within depth tokens
unfolding prefixed_within ignored_within
ignored_none depth tokens none = row_none (is_level 6) ignoring (prefixed_at (expression_at depth)) (behind_at Slash (λ t. t) (prefixed_at (expression_at depth))) tokens none

-- Level 7.

abbrev pub ConcatSoFar : ℕ → List Token → Expr Raw → Expr Raw → List (Expr Raw) → List Token → Type 0
ConcatSoFar depth behind e now more rest = RowSoFar is_operand (ignored_within depth) behind e now (map term more) rest

pub ignored_shorter : (depth : ℕ) → Shortens (ignored_within depth)
unfolding ignored_within
ignored_shorter depth = exact_shorter (ignored_exact (expression_inside depth))

pub concat_read : (depth : ℕ) (tokens : List Token) (e now : Expr Raw) (behind : List Token) (more : List (Expr Raw)) (rest : List Token) (u : Term Raw)
    → Some (term e, behind) ≡ ignored_within depth tokens → ConcatSoFar depth behind e now more rest → false ≡ begins is_operand rest → u ≡ side_by_side (term now) (map term more) → Some (u, rest) ≡ concat_within depth tokens
unfolding is_operand ignored_within concat_within
concat_read depth tokens e now behind more rest u begun row stop same =
    row_read (is_level 7) side_by_side (ignored_at (expression_at depth)) (ignored_at (expression_at depth)) tokens (term e) behind (map term more) rest u (sym begun) row.so_far (sym stop) (same ∙ ap (λ (x : Expr Raw). side_by_side (term x) (map term more)) row.kept)

pub concat_fails : (depth : ℕ) (tokens : List Token) (e now : Expr Raw) (behind : List Token) (more : List (Expr Raw)) (rest : List Token)
    → Some (term e, behind) ≡ ignored_within depth tokens → ConcatSoFar depth behind e now more rest → true ≡ begins is_operand rest → None ≡ ignored_within depth rest → None ≡ concat_within depth tokens
unfolding is_operand ignored_within concat_within
concat_fails depth tokens e now behind more rest begun row here none =
    row_fails (is_level 7) side_by_side (ignored_at (expression_at depth)) (ignored_at (expression_at depth)) tokens (term e) behind (map term more) rest (sym begun) row.so_far (sym here) none

pub concat_none : (depth : ℕ) (tokens : List Token) → None ≡ ignored_within depth tokens → None ≡ concat_within depth tokens
unfolding ignored_within concat_within
concat_none depth tokens none = row_none (is_level 7) side_by_side (ignored_at (expression_at depth)) (ignored_at (expression_at depth)) tokens none

-- Level 8.

unfoldable pub is_link : Token → Bool
is_link t = is_level 8 t

unfoldable pub link_within : ℕ → Reader Token (Linked (Term Raw))
link_within depth tokens = link_at (concat_within depth) tokens

abbrev pub ChainSoFar : ℕ → List Token → Expr Raw → Expr Raw → List (Link Raw) → List Token → Type 0
ChainSoFar depth behind e now more rest = RowSoFar is_link (link_within depth) behind e now (map link_value more) rest

pub link_shorter : (depth : ℕ) → Shortens (link_within depth)
unfolding link_within concat_within
link_shorter depth = exact_shorter (link_exact (concat_exact (expression_inside depth)))

pub link_here : (tokens : List Token) (o : LinkOperator) (operand : List Token) → Some (linked_by o, operand) ≡ one_of (linked_of {T = Term Raw}) tokens → begins is_link tokens ≡ true
unfolding is_link
link_here tokens o operand front = link_begins tokens (linked_by o, operand) (sym front)

pub link_read : (depth : ℕ) (tokens : List Token) (o : LinkOperator) (operand : List Token) (t : Term Raw) (behind : List Token) (u : Linked (Term Raw))
    → Some (linked_by o, operand) ≡ one_of (linked_of {T = Term Raw}) tokens → Some (t, behind) ≡ concat_within depth operand → u ≡ linked_by o t → link_within depth tokens ≡ Some (u, behind)
unfolding link_within
link_read depth tokens o operand t behind u front item same = formed_found (linked_of {T = Term Raw}) (concat_within depth) tokens (linked_by o) operand t behind u (sym front) (sym item) same

pub chain_read : (depth : ℕ) (tokens : List Token) (e now : Expr Raw) (behind : List Token) (more : List (Link Raw)) (rest : List Token) (u : Term Raw)
    → Some (term e, behind) ≡ concat_within depth tokens → ChainSoFar depth behind e now more rest → None ≡ one_of (linked_of {T = Term Raw}) rest → u ≡ with_links (term now) (map link_value more) → Some (u, rest) ≡ chain_within depth tokens
unfolding is_link link_within concat_within chain_within
chain_read depth tokens e now behind more rest u begun row stop same =
    row_read (is_level 8) with_links (concat_at (expression_at depth)) (link_at (concat_at (expression_at depth))) tokens (term e) behind (map link_value more) rest u (sym begun) row.so_far (no_link rest stop) (same ∙ ap (λ (x : Expr Raw). with_links (term x) (map link_value more)) row.kept)

pub chain_fails : (depth : ℕ) (tokens : List Token) (e now : Expr Raw) (behind : List Token) (more : List (Link Raw)) (rest : List Token) (o : LinkOperator) (operand : List Token)
    → Some (term e, behind) ≡ concat_within depth tokens → ChainSoFar depth behind e now more rest → Some (linked_by o, operand) ≡ one_of (linked_of {T = Term Raw}) rest → None ≡ concat_within depth operand → None ≡ chain_within depth tokens
unfolding is_link link_within concat_within chain_within
chain_fails depth tokens e now behind more rest o operand begun row front none =
    row_fails (is_level 8) with_links (concat_at (expression_at depth)) (link_at (concat_at (expression_at depth))) tokens (term e) behind (map link_value more) rest (sym begun) row.so_far (link_here rest o operand front)
    (formed_fails (linked_of {T = Term Raw}) (concat_at (expression_at depth)) rest (linked_by o) operand (sym front) none)

pub chain_none : (depth : ℕ) (tokens : List Token) → None ≡ concat_within depth tokens → None ≡ chain_within depth tokens
unfolding concat_within chain_within
chain_none depth tokens none = row_none (is_level 8) with_links (concat_at (expression_at depth)) (link_at (concat_at (expression_at depth))) tokens none

-- Level 10.

unfoldable pub is_step : Token → Bool
is_step t = is_level 15 t

unfoldable pub step_within : ℕ → Reader Token (StepForm (Term Raw))
step_within depth tokens = step_at (nine_within depth) tokens

abbrev pub StepsSoFar : ℕ → List Token → Expr Raw → Expr Raw → List (Step Raw) → List Token → Type 0
StepsSoFar depth behind e now more rest = RowSoFar is_step (step_within depth) behind e now (map step_value more) rest

pub step_shorter : (depth : ℕ) → Shortens (step_within depth)
unfolding step_within nine_within chain_within
step_shorter depth = exact_shorter (step_exact (nine_exact (chain_exact (expression_inside depth))))

pub step_here : (tokens : List Token) (o : StepOperator) (operand : List Token) → Some (step_by o, operand) ≡ one_of (step_of {T = Term Raw}) tokens → begins is_step tokens ≡ true
unfolding is_step
step_here tokens o operand front = step_begins tokens (step_by o, operand) (sym front)

pub step_read : (depth : ℕ) (tokens : List Token) (o : StepOperator) (operand : List Token) (t : Term Raw) (behind : List Token) (u : StepForm (Term Raw))
    → Some (step_by o, operand) ≡ one_of (step_of {T = Term Raw}) tokens → Some (t, behind) ≡ nine_within depth operand → u ≡ step_by o t → step_within depth tokens ≡ Some (u, behind)
unfolding step_within
step_read depth tokens o operand t behind u front item same = formed_found (step_of {T = Term Raw}) (nine_within depth) tokens (step_by o) operand t behind u (sym front) (sym item) same

pub steps_read : (depth : ℕ) (tokens : List Token) (e now : Expr Raw) (behind : List Token) (more : List (Step Raw)) (rest : List Token) (u : Term Raw)
    → Some (term e, behind) ≡ nine_within depth tokens → StepsSoFar depth behind e now more rest → None ≡ one_of (step_of {T = Term Raw}) rest → u ≡ with_steps (term now) (map step_value more) → Some (u, rest) ≡ steps_within depth tokens
unfolding is_step step_within chain_within nine_within steps_within
steps_read depth tokens e now behind more rest u begun row stop same =
    row_read (is_level 15) with_steps (nine_at (chain_at (expression_at depth))) (step_at (nine_at (chain_at (expression_at depth)))) tokens (term e) behind (map step_value more) rest u (sym begun) row.so_far (no_step rest stop) (same ∙ ap (λ (x : Expr Raw). with_steps (term x) (map step_value more)) row.kept)

pub steps_fails : (depth : ℕ) (tokens : List Token) (e now : Expr Raw) (behind : List Token) (more : List (Step Raw)) (rest : List Token) (o : StepOperator) (operand : List Token)
    → Some (term e, behind) ≡ nine_within depth tokens → StepsSoFar depth behind e now more rest → Some (step_by o, operand) ≡ one_of (step_of {T = Term Raw}) rest → None ≡ nine_within depth operand → None ≡ steps_within depth tokens
unfolding is_step step_within chain_within nine_within steps_within
steps_fails depth tokens e now behind more rest o operand begun row front none =
    row_fails (is_level 15) with_steps (nine_at (chain_at (expression_at depth))) (step_at (nine_at (chain_at (expression_at depth)))) tokens (term e) behind (map step_value more) rest (sym begun) row.so_far (step_here rest o operand front)
    (formed_fails (step_of {T = Term Raw}) (nine_at (chain_at (expression_at depth))) rest (step_by o) operand (sym front) none)

pub steps_none : (depth : ℕ) (tokens : List Token) → None ≡ nine_within depth tokens → None ≡ steps_within depth tokens
unfolding chain_within nine_within steps_within
steps_none depth tokens none = row_none (is_level 15) with_steps (nine_at (chain_at (expression_at depth))) (step_at (nine_at (chain_at (expression_at depth)))) tokens none
