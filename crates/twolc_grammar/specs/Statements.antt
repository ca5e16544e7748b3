-- The statements of a twolc text: the list of the alphabet, `NAME = x y .. ;` in the sets, `NAME = EXPRESSION ;` in the
-- definitions, and rules `"name" x:y ARROW L _ R ; ..`.
use Rattle.std.specs.Prelude.{◌≡◌, ◌≢◌, ◌<◌, ◌+◌, ℕ, Bool, true, false, nat_lt, List, [], ◌∷◌, ◌++◌, length, map, Some, Result, Ok, Err}
use Rattle.regex_ast.specs.Terms.{Contexts, no_context, between}
use Rattle.regex_ast.specs.declared.expr.Raw.{Raw}
use Rattle.regex_ast.specs.declared.fault.Why.{Why}
use Rattle.regex_ast.specs.declared.fault.Why.TheVariants as why
use Rattle.regex_reader.specs.Brackets.{nests_too_deep}
use Rattle.regex_reader.specs.Files.{is_name}
use Rattle.regex_reader.specs.Limits.{most_in_rules}
use Rattle.regex_reader.specs.declared.brackets.Bracket.{Bracket}
use Rattle.regex_reader.specs.declared.brackets.Bracket.TheVariants.{Opening, Closing, Neither}
use Rattle.project_meaning.specs.Trees.{Pair, Part, Set, PairDefinition, Rule}
use Rattle.twolc_grammar.specs.Atoms.{Names, is_known, symbols_in, centre_in, one_symbol_in}
use Rattle.twolc_grammar.specs.Expressions.{IsExpression, IsPart, has_edge, has_high_power}
use Rattle.twolc_tokens.specs.declared.token.Operator.TheVariants.{OpenSquare, CloseSquare, OpenRound, CloseRound, Arrow, Semicolon, Underscore, Equals}
use Rattle.twolc_tokens.specs.declared.token.Token.{Token}
use Rattle.twolc_tokens.specs.declared.token.Token.TheVariants.{Operator as operator, Quoted as quoted, Atom as atom}

-- Brackets.

-- what a token is among them
abbrev pub bracket_of : Token → Bracket
bracket_of (operator OpenSquare) = Opening
bracket_of (operator OpenRound) = Opening
bracket_of (operator CloseSquare) = Closing
bracket_of (operator CloseRound) = Closing
bracket_of _ = Neither

-- a token stands inside more open brackets than may be, where so many are open before the tokens
abbrev pub is_too_deep : ℕ → List Token → Bool
is_too_deep count tokens = nests_too_deep count (map bracket_of tokens)

-- What statements say.

pub data Statement : Type 0 where
  alphabet : List (Pair Raw) → Statement
  set : Set Raw → Statement
  definition : PairDefinition Raw → Statement
  rule : Rule Raw → Statement

-- where a statement stands
pub data Section : Type 0 where
  in_alphabet : Section
  in_sets : Section
  in_definitions : Section
  in_rules : Section

-- any number of atoms, and `;`
abbrev pub IsList : List Token → List (List ℕ) → Type 0
IsList tokens atoms = tokens ≡ map atom atoms ++ operator Semicolon ∷ []

-- `NAME =` and these
abbrev pub IsNamed : List Token → List ℕ → List Token → Type 0
IsNamed tokens name behind = (tokens ≡ atom name ∷ operator Equals ∷ behind) × (is_name name ≡ true)

-- contexts, each with its `;`
abbrev pub AreContexts : Names → List Token → Contexts (Part Raw) → Type 0
AreContexts names tokens no_context = tokens ≡ []
AreContexts names tokens (between l r contexts) =
    (left : List Token) × (right : List Token) × (rest : List Token) × (tokens ≡ left ++ (operator Underscore ∷ (right ++ (operator Semicolon ∷ rest))))
    × IsPart names left l × IsPart names right r × AreContexts names rest contexts

-- the tokens are a statement of this section that says this, where these names are known
abbrev pub IsStatement : Names → Section → List Token → Statement → Type 0
IsStatement names in_alphabet tokens (alphabet pairs) = (atoms : List (List ℕ)) × IsList tokens atoms × (map (λ p. Some p) pairs ≡ map symbols_in atoms)
IsStatement names in_sets tokens (set s) =
    (list : List Token) × (atoms : List (List ℕ)) × IsNamed tokens s.name list × IsList list atoms × (0 < length atoms) × (map (λ x. Some x) s.symbols ≡ map one_symbol_in atoms)
IsStatement names in_definitions tokens (definition d) =
    (expression : List Token) × IsNamed tokens d.name (expression ++ operator Semicolon ∷ []) × IsExpression names expression d.term × (has_edge expression ≡ false)
IsStatement names in_rules tokens (rule r) =
    (centre : List ℕ) × (rest : List Token) × (tokens ≡ quoted r.name ∷ atom centre ∷ operator (Arrow r.kind) ∷ rest)
    × (centre_in names centre ≡ Some r.centre) × AreContexts names rest r.contexts × (r.contexts ≢ no_context)
IsStatement names section tokens _ = ⊥

-- Limits, and names that are declared again.

abbrev pub count : Contexts (Part Raw) → ℕ
count no_context = 0
count (between l r contexts) = 1 + count contexts

abbrev pub is_large : Statement → Bool
is_large (rule r) = nat_lt most_in_rules (count r.contexts)
is_large _ = false

-- a set or a definition with a name that is known
abbrev pub is_again : Names → Statement → Bool
is_again names (set s) = is_known names s.name
is_again names (definition d) = is_known names d.name
is_again names _ = false

-- what is found in the tokens of one statement: what it says, or why it is refused
pub data Verdict (names : Names) (section : Section) (tokens : List Token) : Result Statement Why → Type 0 where
  deep : is_too_deep 0 tokens ≡ true → Verdict names section tokens (Err why.LimitNesting)
  unread : is_too_deep 0 tokens ≡ false → ((s : Statement) → IsStatement names section tokens s → ⊥) → Verdict names section tokens (Err why.Statement)
  power : (s : Statement) → is_too_deep 0 tokens ≡ false → IsStatement names section tokens s → has_high_power false tokens ≡ true → Verdict names section tokens (Err why.LimitPower)
  large : (s : Statement) → is_too_deep 0 tokens ≡ false → IsStatement names section tokens s → has_high_power false tokens ≡ false → is_large s ≡ true → Verdict names section tokens (Err why.LimitRule)
  again : (s : Statement) → is_too_deep 0 tokens ≡ false → IsStatement names section tokens s → has_high_power false tokens ≡ false → is_large s ≡ false → is_again names s ≡ true → Verdict names section tokens (Err why.Duplicate)
  fine : (s : Statement) → is_too_deep 0 tokens ≡ false → IsStatement names section tokens s → has_high_power false tokens ≡ false → is_large s ≡ false → is_again names s ≡ false → Verdict names section tokens (Ok s)
