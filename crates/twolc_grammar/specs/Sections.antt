-- A twolc text as a whole: `Alphabet` and its list, then `Sets` and `Definitions` and their statements, each of which may be left
-- out, and `Rules` and one rule at least. A head word is a run without escape, and counts only where a statement begins.
use Rattle.std.specs.Prelude.{◌≡◌, ◌≢◌, ◌⊎◌, ℕ, Bool, true, false, not, List, [], ◌∷◌, ◌++◌, map, codes, Option, None, Some, Result, Ok, Err, cond}
use Rattle.std.specs.List.{list_any}
use Rattle.std.specs.Str.{bytes_eq}
use Rattle.regex_ast.specs.declared.expr.Raw.{Raw}
use Rattle.regex_ast.specs.declared.fault.Why.{Why}
use Rattle.regex_ast.specs.declared.fault.Why.TheVariants as why
use Rattle.regex_tokens.specs.declared.token.Ending.{Ending}
use Rattle.regex_tokens.specs.declared.token.Ending.TheVariants.{Whole, NoToken}
use Rattle.regex_reader.specs.Files.{FaultAt}
use Rattle.project_meaning.specs.Trees.{Grammar}
use Rattle.twolc_tokens.specs.Cuts.{Cuts}
use Rattle.twolc_tokens.specs.declared.token.Operator.TheVariants.{Semicolon}
use Rattle.twolc_tokens.specs.declared.token.Placed.{Placed}
use Rattle.twolc_tokens.specs.declared.token.Token.{Token}
use Rattle.twolc_tokens.specs.declared.token.Token.TheVariants.{Operator as operator, Quoted as quoted, Atom as atom}
use Rattle.twolc_grammar.specs.Atoms.{Names}
use Rattle.twolc_grammar.specs.Statements.{Statement, alphabet, set, definition, rule, Section, in_alphabet, in_sets, in_definitions, in_rules, Verdict}

-- how far a text was read: nothing yet, the list of the alphabet, or the head word of a section
pub data Stage : Type 0 where
  beginning : Stage
  listed : Stage
  within : Section → Stage

-- the head words that may come at a stage, and the sections that they begin
abbrev pub heads_at : Stage → List (List ℕ × Section)
heads_at beginning = (codes "Alphabet", in_alphabet) ∷ []
heads_at listed = (codes "Sets", in_sets) ∷ (codes "Definitions", in_definitions) ∷ (codes "Rules", in_rules) ∷ []
heads_at (within in_alphabet) = []
heads_at (within in_sets) = (codes "Definitions", in_definitions) ∷ (codes "Rules", in_rules) ∷ []
heads_at (within in_definitions) = (codes "Rules", in_rules) ∷ []
heads_at (within in_rules) = []

abbrev pub section_of : List (List ℕ × Section) → List ℕ → Option Section
section_of [] word = None
section_of (head ∷ heads) word = cond (bytes_eq word head.0) (Some head.1) (section_of heads word)

-- the section that a token begins at a stage
abbrev pub leads : Stage → Token → Option Section
leads stage (atom word) = section_of (heads_at stage) word
leads stage _ = None

abbrev pub is_head : Token → Bool
is_head (atom word) = list_any (bytes_eq word) (codes "Alphabet" ∷ codes "Sets" ∷ codes "Definitions" ∷ codes "Rules" ∷ [])
is_head _ = false

abbrev pub is_quoted : Token → Bool
is_quoted (quoted name) = true
is_quoted _ = false

abbrev pub is_semicolon : Token → Bool
is_semicolon (operator Semicolon) = true
is_semicolon _ = false

-- a statement may begin with the token at a stage: the list of the alphabet with any, one of the sets and definitions with any that
-- is no head word, and a rule with a quoted name
abbrev pub may_begin : Stage → Token → Bool
may_begin beginning token = false
may_begin listed token = false
may_begin (within in_alphabet) token = true
may_begin (within in_sets) token = not (is_head token)
may_begin (within in_definitions) token = not (is_head token)
may_begin (within in_rules) token = is_quoted token

abbrev pub tokens_of : List Placed → List Token
tokens_of placed = map (λ p. p.token) placed

-- tokens to the first `;`
pub record IsEnded (one : List Placed) : Type 0 where
  pub front : List Placed
  pub last : Placed
  pub whole : one ≡ front ++ last ∷ []
  pub front_is : list_any is_semicolon (tokens_of front) ≡ false
  pub last_is : last.token ≡ operator Semicolon

-- nothing, or a quoted text in front
abbrev pub begins_rule : List Placed → Bool
begins_rule [] = true
begins_rule (p ∷ rest) = is_quoted p.token

-- the tokens of one statement before the rest: in the rules to the next quoted text, or to the end; else to the first `;`
abbrev pub IsOne : Section → List Placed → List Placed → Type 0
IsOne in_rules [] rest = ⊥
IsOne in_rules (first ∷ more) rest = (list_any is_quoted (tokens_of more) ≡ false) × (begins_rule rest ≡ true)
IsOne section one rest = IsEnded one

-- tokens at the end of the text that are no whole statement: without a `;`, or in the rules any, since a rule may go on
abbrev pub is_open : Section → Placed → List Placed → Bool
is_open in_rules first more = not (list_any is_quoted (tokens_of more))
is_open section first more = not (list_any is_semicolon (tokens_of (first ∷ more)))

-- the grammar so far, with what a statement says
abbrev pub with_statement : Grammar Raw → Statement → Grammar Raw
with_statement g (alphabet pairs) = record g { pairs = pairs }
with_statement g (set s) = record g { sets = g.sets ++ s ∷ [] }
with_statement g (definition d) = record g { definitions = g.definitions ++ d ∷ [] }
with_statement g (rule r) = record g { rules = g.rules ++ r ∷ [] }

abbrev pub stage_behind : Section → Stage
stage_behind in_alphabet = listed
stage_behind section = within section

abbrev pub names_of : Grammar Raw → Names
names_of g = record { sets = map (λ s. s.name) g.sets; definitions = map (λ d. d.name) g.definitions }

abbrev pub fault_at : ℕ → Why → Result (Grammar Raw) FaultAt
fault_at line why = Err (record { line = line; why = why })

-- what was read so far, and what is left
pub record State : Type 0 where
  pub stage : Stage
  pub grammar : Grammar Raw
  pub rest : List Placed
  pub ending : Ending

-- the end of the text: the grammar, where a rule was read; what is missing has line 0
abbrev pub is_empty : {A : Type 0} → List A → Bool
is_empty [] = true
is_empty (x ∷ xs) = false

abbrev pub whole : Stage → Grammar Raw → Result (Grammar Raw) FaultAt
whole (within in_rules) g = cond (is_empty g.rules) (fault_at 0 why.Statement) (Ok g)
whole _ g = fault_at 0 why.Statement

abbrev pub at_end : Stage → Grammar Raw → Ending → Result (Grammar Raw) FaultAt
at_end stage g Whole = whole stage g
at_end stage g (NoToken line) = fault_at line why.Token

-- What the tokens that are left say: the whole grammar, or the first fault.
pub data Says : State → Result (Grammar Raw) FaultAt → Type 0 where
  ended : (stage : Stage) (g : Grammar Raw) (ending : Ending) → Says (record { stage = stage; grammar = g; rest = []; ending = ending }) (at_end stage g ending)
  head : (stage : Stage) (g : Grammar Raw) (p : Placed) (rest : List Placed) (ending : Ending) (section : Section) (answer : Result (Grammar Raw) FaultAt)
      → leads stage p.token ≡ Some section → Says (record { stage = within section; grammar = g; rest = rest; ending = ending }) answer
      → Says (record { stage = stage; grammar = g; rest = p ∷ rest; ending = ending }) answer
  strange : (stage : Stage) (g : Grammar Raw) (p : Placed) (rest : List Placed) (ending : Ending)
      → leads stage p.token ≡ None → may_begin stage p.token ≡ false → Says (record { stage = stage; grammar = g; rest = p ∷ rest; ending = ending }) (fault_at p.line why.Statement)
  no_token : (section : Section) (g : Grammar Raw) (p : Placed) (more : List Placed) (line : ℕ)
      → leads (within section) p.token ≡ None → may_begin (within section) p.token ≡ true → is_open section p more ≡ true
      → Says (record { stage = within section; grammar = g; rest = p ∷ more; ending = NoToken line }) (fault_at line why.Token)
  unended : (section : Section) (g : Grammar Raw) (p : Placed) (more : List Placed) (why : Why)
      → section ≢ in_rules → leads (within section) p.token ≡ None → may_begin (within section) p.token ≡ true → is_open section p more ≡ true → Verdict (names_of g) section (tokens_of (p ∷ more)) (Err why)
      → Says (record { stage = within section; grammar = g; rest = p ∷ more; ending = Whole }) (fault_at p.line why)
  read : (section : Section) (g : Grammar Raw) (p : Placed) (more rest : List Placed) (ending : Ending) (s : Statement) (answer : Result (Grammar Raw) FaultAt)
      → leads (within section) p.token ≡ None → may_begin (within section) p.token ≡ true → IsOne section (p ∷ more) rest → (rest ≢ []) ⊎ ((ending ≡ Whole) ⊎ (section ≢ in_rules))
      → Verdict (names_of g) section (tokens_of (p ∷ more)) (Ok s) → Says (record { stage = stage_behind section; grammar = with_statement g s; rest = rest; ending = ending }) answer
      → Says (record { stage = within section; grammar = g; rest = p ∷ (more ++ rest); ending = ending }) answer
  refused : (section : Section) (g : Grammar Raw) (p : Placed) (more rest : List Placed) (ending : Ending) (why : Why)
      → leads (within section) p.token ≡ None → may_begin (within section) p.token ≡ true → IsOne section (p ∷ more) rest → (rest ≢ []) ⊎ ((ending ≡ Whole) ⊎ (section ≢ in_rules))
      → Verdict (names_of g) section (tokens_of (p ∷ more)) (Err why) → Says (record { stage = within section; grammar = g; rest = p ∷ (more ++ rest); ending = ending }) (fault_at p.line why)

abbrev pub nothing_read : List Placed → Ending → State
nothing_read placed ending = record { stage = beginning; grammar = record { pairs = []; sets = []; definitions = []; rules = [] }; rest = placed; ending = ending }

-- what a text says: its grammar, or its first fault
pub record ReadsAs (text : List ℕ) (answer : Result (Grammar Raw) FaultAt) : Type 0 where
  pub placed : List Placed
  pub ending : Ending
  pub cut : Cuts 1 text placed ending
  pub says : Says (nothing_read placed ending) answer

-- a text says one thing only
abbrev pub OneReading : Type 0
OneReading = (text : List ℕ) (a b : Result (Grammar Raw) FaultAt) → ReadsAs text a → ReadsAs text b → a ≡ b
