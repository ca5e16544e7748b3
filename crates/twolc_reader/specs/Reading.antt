-- Words for what the reader answers, and for what its functions compute on their way to a grammar.
use Rattle.std.specs.Prelude.{◌≡◌, ◌≢◌, ◌<◌, ◌≤◌, ℕ, Bool, true, false, List, [], ◌∷◌, ◌++◌, map, length, take, drop, codes, ⊤, Option, None, Some, Result, Ok, Err, if◌then◌else◌}
use Rattle.std.specs.List.{list_any, flat_map}
use Rattle.std.specs.Str.{bytes_eq}
use Rattle.regex_ast.specs.declared.expr.Raw.{Raw}
use Rattle.regex_ast.specs.declared.fault.ReadError.{ReadError}
use Rattle.regex_ast.specs.declared.fault.ReadError.TheVariants.{Fault, Memory}
use Rattle.regex_ast.specs.declared.fault.Why.{Why}
use Rattle.regex_ast.specs.declared.fault.Why.TheVariants as why
use Rattle.regex_ast.specs.declared.twolc.Grammar.{Grammar}
use Rattle.regex_ast.specs.declared.twolc.TwoLevelRule.{TwoLevelRule}
use Rattle.regex_reader.specs.Files.{FaultAt}
use Rattle.regex_tokens.specs.declared.token.Ending.{Ending}
use Rattle.regex_tokens.specs.declared.token.Ending.TheVariants.{Whole, NoToken}
use Rattle.project_meaning.specs.Trees.{Grammar as Tree}
use Rattle.twolc_tokens.specs.Cuts.{Cuts}
use Rattle.twolc_tokens.specs.declared.token.Placed.{Placed}
use Rattle.twolc_tokens.specs.declared.token.Token.{Token}
use Rattle.twolc_tokens.specs.declared.token.Token.TheVariants.{Quoted as quoted}
use Rattle.twolc_expressions.specs.Views.{pair_view}
use Rattle.twolc_grammar.specs.Atoms.{Names}
use Rattle.twolc_grammar.specs.Expressions.{has_high_power}
use Rattle.twolc_grammar.specs.Sections.{Stage, beginning, listed, within, State, Says, ReadsAs, IsOne, is_semicolon, may_begin, names_of, tokens_of}
use Rattle.twolc_grammar.specs.Statements.{Section as Part, in_alphabet, in_sets, in_definitions, in_rules, Statement as Said, alphabet, set, definition, rule, Verdict, is_again, is_large, is_too_deep}
use Rattle.twolc_reader.specs.StatementReading.{set_view, definition_view}
use Rattle.twolc_reader.specs.RuleReading.{rule_view}
use Rattle.twolc_reader.specs.declared.stage.Section.{Section}
use Rattle.twolc_reader.specs.declared.stage.Section.TheVariants.{Alphabet, Sets, Definitions, Rules}
use Rattle.twolc_reader.specs.declared.stage.Stage.{Stage as Reached}
use Rattle.twolc_reader.specs.declared.stage.Stage.TheVariants.{Beginning, Listed, Within}
use Rattle.twolc_reader.specs.declared.statement.Statement.{Statement}
use Rattle.twolc_reader.specs.declared.statement.Statement.TheVariants.{Alphabet as Pairs, Set, Definition, Rule}

-- a grammar as a plain tree
abbrev pub grammar_view : Grammar Raw → Tree Raw
grammar_view g = record { pairs = map pair_view g.pairs.items; sets = map set_view g.sets.items; definitions = map definition_view g.definitions.items; rules = map rule_view g.rules.items }

-- a grammar, a fault, or want of memory, where this says what they may be
abbrev pub IsAnswer : (Result (Tree Raw) FaultAt → Type 0) → Result (Grammar Raw) ReadError → Type 0
IsAnswer Says (Ok g) = Says (Ok (grammar_view g))
IsAnswer Says (Err (Fault line reason)) = Says (Err (record { line = line; why = reason }))
IsAnswer Says (Err (Memory refused)) = ⊤

-- the grammar of the text, or its first fault
abbrev pub IsRead : List ℕ → Result (Grammar Raw) ReadError → Type 0
IsRead text answer = IsAnswer (ReadsAs text) answer

-- Lines of rules. A quoted text is the name of a rule and nothing else.

-- a quoted text and its line; of another token nothing
abbrev pub name_in : ℕ → Token → List (List ℕ × ℕ)
name_in line (quoted name) = (name, line) ∷ []
name_in line _ = []

-- the quoted texts among tokens, each with its line
abbrev pub names_at : List Placed → List (List ℕ × ℕ)
names_at placed = flat_map (λ p. name_in p.line p.token) placed

-- the name of a rule, and the line that it has
abbrev pub name_of : TwoLevelRule Raw → List ℕ × ℕ
name_of r = (r.name, r.line)

-- the rules have the names that stand in the text, in order, and each has the line of its name
abbrev pub HaveLines : List ℕ → List (TwoLevelRule Raw) → Type 0
HaveLines text rules = (placed : List Placed) × (ending : Ending) × Cuts 1 text placed ending × (map name_of rules ≡ names_at placed)

-- the names of the rules so far, and those that stand in what is left
abbrev pub names_with : Grammar Raw → List Placed → List (List ℕ × ℕ)
names_with g rest = map name_of g.rules.items ++ names_at rest

-- Stages and sections.

abbrev pub section_view : Section → Part
section_view Alphabet = in_alphabet
section_view Sets = in_sets
section_view Definitions = in_definitions
section_view Rules = in_rules

abbrev pub stage_view : Reached → Stage
stage_view Beginning = beginning
stage_view Listed = listed
stage_view (Within section) = within (section_view section)

abbrev pub is_head_word : List ℕ → Bool
is_head_word word = list_any (bytes_eq word) (codes "Alphabet" ∷ codes "Sets" ∷ codes "Definitions" ∷ codes "Rules" ∷ [])

-- a statement of the section may begin with the token
abbrev pub may_begin_in : Part → Token → Bool
may_begin_in section token = may_begin (within section) token

-- the section that a stage is within, where a statement may begin with the token there
abbrev pub IsBegun : Stage → Token → Option Part → Type 0
IsBegun stage token None = may_begin stage token ≡ false
IsBegun stage token (Some section) = (stage ≡ within section) × (may_begin_in section token ≡ true)

-- The tokens of one statement.

-- the tokens to the first `;` and those behind it, or there is none
abbrev pub IsEndedSplit : List Placed → Option (List Placed × List Placed) → Type 0
IsEndedSplit tokens None = list_any is_semicolon (tokens_of tokens) ≡ false
IsEndedSplit tokens (Some x) = (tokens ≡ x.0 ++ x.1) × IsOne in_sets x.0 x.1

-- the tokens of the statement in front and those behind it, or it has no end
abbrev pub IsOneSplit : Part → List Placed → Option (List Placed × List Placed) → Type 0
IsOneSplit section tokens None = (section ≢ in_rules) × (list_any is_semicolon (tokens_of tokens) ≡ false)
IsOneSplit section tokens (Some x) = (tokens ≡ x.0 ++ x.1) × IsOne section x.0 x.1

-- so many tokens are the rule in front
abbrev pub IsEndOfRule : List Placed → ℕ → Type 0
IsEndOfRule tokens count = (count ≤ length tokens) × IsOne in_rules (take count tokens) (drop count tokens)

-- Statements.

abbrev pub statement_view : Statement → Said
statement_view (Pairs pairs) = alphabet (map pair_view pairs.items)
statement_view (Set s) = set (set_view s)
statement_view (Definition d) = definition (definition_view d)
statement_view (Rule r) = rule (rule_view r)

-- the name of a rule, with its line; of another statement nothing
abbrev pub names_of_statement : Statement → List (List ℕ × ℕ)
names_of_statement (Rule r) = name_of r ∷ []
names_of_statement _ = []

-- a rule has this line
abbrev pub HasLine : ℕ → Statement → Type 0
HasLine line (Rule r) = r.line ≡ line
HasLine line _ = ⊤

-- what is found in the tokens of one statement, every fault in this line
abbrev pub IsVerdict : Names → Part → ℕ → List Token → Result Statement ReadError → Type 0
IsVerdict names section line tokens (Ok s) = Verdict names section tokens (Ok (statement_view s))
IsVerdict names section line tokens (Err (Fault at reason)) = (at ≡ line) × Verdict names section tokens (Err reason)
IsVerdict names section line tokens (Err (Memory refused)) = ⊤

-- why a statement is refused that has a reading, if it is
abbrev pub refusal : Names → List Token → Said → Option Why
refusal names tokens s = if has_high_power false tokens then Some why.LimitPower else (if is_large s then Some why.LimitRule else (if is_again names s then Some why.Duplicate else None))

-- the statement, or a fault in this line where it is refused
abbrev pub unless : Statement → ℕ → Option Why → Result Statement ReadError
unless s line None = Ok s
unless s line (Some reason) = Err (Fault line reason)

-- the fault of a statement without a `;` that begins in this line
abbrev pub open_fault : ℕ → List Token → Ending → ReadError
open_fault line tokens (NoToken at) = Fault at why.Token
open_fault line tokens Whole = Fault line (if is_too_deep 0 tokens then why.LimitNesting else why.Statement)

-- the line of the place without a token that a statement may go on to
abbrev pub broken_at : Part → List Placed → Ending → Option ℕ
broken_at in_rules [] (NoToken line) = Some line
broken_at section behind ending = None

-- Steps.

abbrev pub state : Reached → Tree Raw → List Placed → Ending → State
state stage g rest ending = record { stage = stage_view stage; grammar = g; rest = rest; ending = ending }

-- whatever the second state says, the first one does
abbrev pub LeadsTo : State → State → Type 0
LeadsTo s t = (answer : Result (Tree Raw) FaultAt) → Says t answer → Says s answer

-- the stage and the tokens behind a step that lead on, or the fault
abbrev pub IsStep : Reached → List Placed → Ending → Grammar Raw → Grammar Raw → Names → Result (Reached × List Placed) ReadError → Type 0
IsStep stage tokens ending old new names (Ok x) =
    LeadsTo (state stage (grammar_view old) tokens ending) (state x.0 (grammar_view new) x.1 ending) × (length x.1 < length tokens) × (names ≡ names_of (grammar_view new))
IsStep stage tokens ending old new names (Err (Fault line reason)) = Says (state stage (grammar_view old) tokens ending) (Err (record { line = line; why = reason }))
IsStep stage tokens ending old new names (Err (Memory refused)) = ⊤
