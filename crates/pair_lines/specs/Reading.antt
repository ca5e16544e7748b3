-- What the functions of this crate find on their way to the pairs of a string.
use Rattle.std.specs.Prelude.{◌≡◌, ◌+◌, ◌==◌, ℕ, Bool, true, false, List, [], ◌∷◌, Option, MatchOption, cond}
use Rattle.std.specs.Option.{option_map}
use Rattle.regex_ast.specs.declared.expr.Raw.{Raw}
use Rattle.regex_ast.specs.declared.fault.ReadError.{ReadError}
use Rattle.regex_ast.specs.declared.fault.ReadError.TheVariants.{Fault, Memory}
use Rattle.regex_ast.specs.declared.fault.Why.TheVariants as why
use Rattle.regex_ast.specs.declared.twolc.PairAtom.{PairAtom}
use Rattle.regex_tokens.specs.Bytes.{is_blank}
use Rattle.regex_tokens.specs.declared.token.Ending.TheVariants.{Whole}
use Rattle.project_meaning.specs.Trees.{Pair}
use Rattle.twolc_expressions.specs.Views.{pair_view}
use Rattle.twolc_tokens.specs.declared.token.Token.TheVariants.{Atom}
use Rattle.twolc_tokens.specs.declared.token.Tokens.{Tokens}
use Rattle.pair_lines.specs.Strings.{IsPair, IsPairString}

-- the text behind the blanks in front of it
abbrev pub behind_blanks : List ℕ → List ℕ
behind_blanks [] = []
behind_blanks (b ∷ text) = cond (is_blank b) (behind_blanks text) (b ∷ text)

-- how many bytes stand before the first blank that no `%` escapes, or all; `escaped` says whether a `%` escapes the first
abbrev pub word_len_from : Bool → List ℕ → ℕ
word_len_from escaped [] = 0
word_len_from true (b ∷ text) = word_len_from false text + 1
word_len_from false (b ∷ text) = cond (is_blank b) 0 (word_len_from (b == 37) text + 1)

abbrev pub word_len : List ℕ → ℕ
word_len text = word_len_from false text

-- the tokens are this atom alone
abbrev pub IsAlone : Tokens → List ℕ → Type 0
IsAlone found text = (line : ℕ) × (found.tokens.items ≡ record { token = Atom text; line = line } ∷ []) × (found.ending ≡ Whole)

-- the pair that an atom is, if it is one
abbrev pub IsPairFound : List ℕ → Option (PairAtom Raw) → Type 0
IsPairFound atom found = MatchOption (option_map pair_view found) ((p : Pair Raw) → ¬ IsPair atom p) (IsPair atom)

-- a line is no pair string, or there was no memory
abbrev pub IsWhyNoString : List ℕ → ReadError → Type 0
IsWhyNoString line (Fault at reason) = (at ≡ 1) × (reason ≡ why.Statement) × ((pairs : List (Pair Raw)) → ¬ IsPairString line pairs)
IsWhyNoString line (Memory refused) = Unit {0}
