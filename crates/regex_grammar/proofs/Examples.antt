-- The definitions at work: what they read of some lists of tokens.
use Rattle.std.proofs.Common.{◌≡◌, ℕ, Some, None, List, [], ◌∷◌, true, false, refl}
use Rattle.std.specs.Prelude.{codes}
use Rattle.regex_ast.specs.Terms.{Term, empty, atom, group, not_one, cross, suffixed, concat, chain, only, rules, directed, steps, no_term, then_term, no_link, or, no_context, between, no_step, cross_with, no_mapping, plain, markup, insert, no_group, then_group}
use Rattle.regex_ast.specs.declared.expr.Raw.{Raw}
use Rattle.regex_ast.specs.declared.expr.Raw.TheVariants.{Run as run_symbol}
use Rattle.regex_ast.specs.declared.expr.Suffix.TheVariants.{Star as any_number, Power as times}
use Rattle.regex_ast.specs.declared.expr.Side.TheVariants.{UpUp as up_up, LowUp as low_up}
use Rattle.regex_ast.specs.declared.expr.Way.TheVariants.{LeftLongest as left_longest}
use Rattle.regex_tokens.specs.declared.token.Operator.TheVariants.{OpenSquare, CloseSquare, Optional, Arrow, LeftLongest, Only, UpUp, Bar, LowUp, Backslash, Star, Caret, Colon, GroupComma, Comma, Underscore, Dots, CrossWith, Insertion}
use Rattle.regex_tokens.specs.declared.token.Token.{Token}
use Rattle.regex_tokens.specs.declared.token.Token.TheVariants.{Operator as operator, Run as run_token}
use Rattle.regex_grammar.specs.Whole.{most_open}
use Rattle.regex_grammar.specs.Reading.{expression_at, whole_at}

abbrev r : List ℕ → Token
r cs = run_token (record { text = cs; escaped = false })

abbrev t : List ℕ → Term Raw
t cs = atom (run_symbol cs)

abbrev a : List ℕ
a = codes "a"

abbrev b : List ℕ
b = codes "b"

abbrev c : List ℕ
c = codes "c"

abbrev d : List ℕ
d = codes "d"

-- a b* | [c]
rows_by_level : expression_at 3 (r a ∷ r b ∷ operator Star ∷ operator Bar ∷ operator OpenSquare ∷ r c ∷ operator CloseSquare ∷ []) ≡ Some (chain (concat (then_term (t a) (then_term (suffixed (t b) (any_number ∷ [])) no_term))) (or (group (t c)) no_link), [])
unfolding expression_at
rows_by_level = refl

-- the same at the full depth
at_full_depth : whole_at (r a ∷ r b ∷ operator Star ∷ operator Bar ∷ operator OpenSquare ∷ r c ∷ operator CloseSquare ∷ []) ≡ Some (chain (concat (then_term (t a) (then_term (suffixed (t b) (any_number ∷ [])) no_term))) (or (group (t c)) no_link))
unfolding expression_at most_open
at_full_depth = refl

-- a -> b , c -> d ... || a _ , _ b ,, a -> b
groups_of_rules : expression_at 3 (r a ∷ operator Arrow ∷ r b ∷ operator Comma ∷ r c ∷ operator Arrow ∷ r d ∷ operator Dots ∷ operator UpUp ∷ r a ∷ operator Underscore ∷ operator Comma ∷ operator Underscore ∷ r b ∷ operator GroupComma ∷ r a ∷ operator Arrow ∷ r b ∷ [])
    ≡ Some (rules false (then_group (plain (t a) (t b) (markup (t c) (t d) empty no_mapping)) up_up (between (t a) empty (between empty (t b) no_context)) (then_group (plain (t a) (t b) no_mapping) up_up no_context no_group)), [])
unfolding expression_at
groups_of_rules = refl

-- [..] (->) a // b _ .x. \ \ a:b^12
insertion_and_steps : expression_at 3 (operator Insertion ∷ operator Optional ∷ r a ∷ operator LowUp ∷ r b ∷ operator Underscore ∷ operator CrossWith ∷ operator Backslash ∷ operator Backslash ∷ r a ∷ operator Colon ∷ r b ∷ operator Caret ∷ r (codes "12") ∷ [])
    ≡ Some (steps (rules true (then_group (insert (t a) no_mapping) low_up (between (t b) empty no_context) no_group)) (cross_with (suffixed (cross (not_one 2 (t a)) (t b)) (times 12 ∷ [])) no_step), [])
unfolding expression_at
insertion_and_steps = refl

-- a => _ , b _ c
contexts_of_a_restriction : expression_at 1 (r a ∷ operator Only ∷ operator Underscore ∷ operator Comma ∷ r b ∷ operator Underscore ∷ r c ∷ []) ≡ Some (only (t a) (between empty empty (between (t b) (t c) no_context)), [])
unfolding expression_at
contexts_of_a_restriction = refl

-- a -> b (->) c: the reader stops before the second arrow
other_arrow_left : expression_at 1 (r a ∷ operator Arrow ∷ r b ∷ operator Optional ∷ r c ∷ []) ≡ Some (rules false (then_group (plain (t a) (t b) no_mapping) up_up no_context no_group), operator Optional ∷ r c ∷ [])
unfolding expression_at
other_arrow_left = refl

-- a -> b , c (->) d
other_arrow_refused : expression_at 1 (r a ∷ operator Arrow ∷ r b ∷ operator Comma ∷ r c ∷ operator Optional ∷ r d ∷ []) ≡ None
unfolding expression_at
other_arrow_refused = refl

-- a @-> b , c @-> d ... || a _ , _ b
a_directed_rule : expression_at 1 (r a ∷ operator LeftLongest ∷ r b ∷ operator Comma ∷ r c ∷ operator LeftLongest ∷ r d ∷ operator Dots ∷ operator UpUp ∷ r a ∷ operator Underscore ∷ operator Comma ∷ operator Underscore ∷ r b ∷ [])
    ≡ Some (directed left_longest (plain (t a) (t b) (markup (t c) (t d) empty no_mapping)) (between (t a) empty (between empty (t b) no_context)), [])
unfolding expression_at
a_directed_rule = refl

-- a @-> b // _: the reader stops before `//`
other_side_left : expression_at 1 (r a ∷ operator LeftLongest ∷ r b ∷ operator LowUp ∷ operator Underscore ∷ []) ≡ Some (directed left_longest (plain (t a) (t b) no_mapping) no_context, operator LowUp ∷ operator Underscore ∷ [])
unfolding expression_at
other_side_left = refl

-- a @-> b ,, c @-> d: and before `,,`
group_left : expression_at 1 (r a ∷ operator LeftLongest ∷ r b ∷ operator GroupComma ∷ r c ∷ operator LeftLongest ∷ r d ∷ []) ≡ Some (directed left_longest (plain (t a) (t b) no_mapping) no_context, operator GroupComma ∷ r c ∷ operator LeftLongest ∷ r d ∷ [])
unfolding expression_at
group_left = refl

-- a @-> b , c -> d
plain_arrow_refused : expression_at 1 (r a ∷ operator LeftLongest ∷ r b ∷ operator Comma ∷ r c ∷ operator Arrow ∷ r d ∷ []) ≡ None
unfolding expression_at
plain_arrow_refused = refl

-- [..] @-> a
directed_insertion_refused : expression_at 1 (operator Insertion ∷ operator LeftLongest ∷ r a ∷ []) ≡ None
unfolding expression_at
directed_insertion_refused = refl

-- [a], where no bracket may be opened
too_deep : expression_at 1 (operator OpenSquare ∷ r a ∷ operator CloseSquare ∷ []) ≡ None
unfolding expression_at
too_deep = refl

-- [ ], which has nothing inside
empty_brackets : expression_at 1 (operator OpenSquare ∷ operator CloseSquare ∷ []) ≡ Some (empty, [])
unfolding expression_at
empty_brackets = refl
