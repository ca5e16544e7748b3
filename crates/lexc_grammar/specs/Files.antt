-- What a lexc text says: its lexicons, or its first fault (Beesley and Karttunen, Finite State Morphology, 2003, chapter 4). A text is
-- `Multichar_Symbols` and declared symbols, or neither, then lexicons, and then `END`, or not. A lexicon is `LEXICON`, its name
-- and entries. Keywords count only where they are the first word of a statement, and each declared symbol is a statement.
-- Statement by statement a place without a token is tried first, then the others. Behind all statements the names in entries are
-- looked for.
use Rattle.std.specs.Prelude.{◌≡◌, ◌≢◌, ◌+◌, ◌-◌, ◌⊎◌, ℕ, Bool, true, false, nat_le, nat_lt, List, [], ◌∷◌, ◌++◌, length, map, codes, chars, Option, None, Some, Result, Ok, Err, if◌then◌else◌}
use Rattle.std.specs.List.{flat_map, list_any}
use Rattle.std.specs.Str.{bytes_eq}
use Rattle.regex_ast.specs.Flags.{IsFlag}
use Rattle.regex_ast.specs.declared.expr.Raw.{Raw}
use Rattle.regex_ast.specs.declared.fault.Why.{Why}
use Rattle.regex_ast.specs.declared.fault.Why.TheVariants as why
use Rattle.regex_tokens.specs.Cuts.{newlines}
use Rattle.regex_reader.specs.Files.{FaultAt}
use Rattle.project_meaning.specs.Projects.{with_texts}
use Rattle.project_meaning.specs.Trees.{Form, Lexicon}
use Rattle.lexc_forms.specs.Letters.{characters_of, text_of}
use Rattle.lexc_forms.specs.declared.letters.Letter.{Letter}
use Rattle.lexc_forms.specs.declared.letters.Letter.TheVariants.{Plain}
use Rattle.lexc_tokens.specs.Tokens.{Follows, NoneFollows, behind_blanks}
use Rattle.lexc_tokens.specs.declared.token.Token.{Token}
use Rattle.lexc_tokens.specs.declared.token.Token.TheVariants.{Word as word, Semicolon as semicolon}
use Rattle.lexc_grammar.specs.Limits.{most_entries, most_features}
use Rattle.lexc_grammar.specs.Lexicons.{EntryAt, LexiconAt, Known, nothing_known, with_symbol, with_lexicon, with_entry, lexicons_of, features_in, without_lines}
use Rattle.lexc_grammar.specs.Entries.{fault_at, hash, EntrySays}
use Rattle.lexc_grammar.specs.declared.statements.Keyword.{Keyword}
use Rattle.lexc_grammar.specs.declared.statements.Keyword.TheVariants as keyword
use Rattle.lexc_grammar.specs.declared.statements.Stage.{Stage}
use Rattle.lexc_grammar.specs.declared.statements.Stage.TheVariants.{Beginning, InSymbols, InLexicon}
use Rattle.lexc_grammar.specs.declared.statements.Ending.{Ending}
use Rattle.lexc_grammar.specs.declared.statements.Ending.TheVariants.{Ended, Unended, Broken}

-- how keywords are spelled, without escapes
abbrev pub spelling : Keyword → List Letter
spelling keyword.Symbols = map (λ c. Plain c) (codes "Multichar_Symbols")
spelling keyword.Lexicon = map (λ c. Plain c) (codes "LEXICON")
spelling keyword.End = map (λ c. Plain c) (codes "END")

abbrev pub IsNoKeyword : List Letter → Type 0
IsNoKeyword letters = (k : Keyword) → letters ≢ spelling k

abbrev pub OneSpelling : Type 0
OneSpelling = (j k : Keyword) → spelling j ≡ spelling k → j ≡ k

-- only an entry may begin with an expression
abbrev pub opens : Stage → Bool
opens Beginning = false
opens InSymbols = false
opens InLexicon = true

-- Limits of entries, and names that aren't there.

-- what bars one more entry with this form, if anything does
abbrev pub limit_of : Known → Form Raw → Option Why
limit_of known form =
    if nat_le most_entries known.count then Some why.LimitEntries else if nat_lt most_features (length (with_texts known.features (features_in form))) then Some why.LimitFeatures else None

abbrev pub is_among : List (List ℕ) → List ℕ → Bool
is_among names name = list_any (bytes_eq name) names

-- the line of the first entry that goes on in none of these lexicons
abbrev pub unknown_next : List (List ℕ) → Option (List ℕ) → Bool
unknown_next names None = false
unknown_next names (Some name) = if is_among names name then false else true

abbrev pub first_unknown : List (List ℕ) → List EntryAt → Option ℕ
first_unknown names [] = None
first_unknown names (e ∷ entries) = if unknown_next names e.entry.next then Some e.line else first_unknown names entries

abbrev pub or_unknown : List LexiconAt → Option ℕ → Result (List LexiconAt) FaultAt
or_unknown lexicons None = Ok lexicons
or_unknown lexicons (Some line) = fault_at line why.UnknownLexicon

-- what is said behind all statements: there is a lexicon `Root`, and each entry goes on in one that is there
abbrev pub closed : Known → Result (List LexiconAt) FaultAt
closed known =
    if is_among known.names (codes "Root") then or_unknown (lexicons_of known) (first_unknown known.names (flat_map (λ l. l.entries) (lexicons_of known))) else fault_at 0 why.UnknownLexicon

-- the text of so many lines
module _ (lines : ℕ) where
  -- the line of what comes next
  abbrev pub line_of : List ℕ → ℕ
  line_of text = lines - newlines (behind_blanks text)

  -- a text goes on with the tokens of one entry, which end so, and this is behind it
  abbrev pub HasTokens : Bool → List ℕ → List Token → Ending → List ℕ → Type 0
  HasTokens begins text [] Ended rest = Follows begins text semicolon rest
  HasTokens begins text [] Unended rest = behind_blanks text ≡ []
  HasTokens begins text [] (Broken at) rest = NoneFollows begins text × (at ≡ line_of text)
  HasTokens begins text (token ∷ tokens) ending rest = (token ≢ semicolon) × (behind : List ℕ) × Follows begins text token behind × HasTokens false behind tokens ending rest

  -- nothing comes next that is a name
  abbrev pub HasNoName : List ℕ → Type 0
  HasNoName text = (behind_blanks text ≡ []) ⊎ ((rest : List ℕ) × (Follows false text semicolon rest ⊎ Follows false text (word hash) rest))

  -- what a text says whose statements stand here, where this is known
  pub data Says : Stage → Known → List ℕ → Result (List LexiconAt) FaultAt → Type 0 where
    all_read : (stage : Stage) (known : Known) (text : List ℕ) → behind_blanks text ≡ [] → Says stage known text (closed known)
    end_word : (stage : Stage) (known : Known) (text rest : List ℕ) → Follows (opens stage) text (word (spelling keyword.End)) rest → Says stage known text (closed known)
    no_token : (stage : Stage) (known : Known) (text : List ℕ) → NoneFollows (opens stage) text → Says stage known text (fault_at (line_of text) why.Token)
    -- `Multichar_Symbols`, which stands at the beginning alone
    symbols : (known : Known) (text rest : List ℕ) (answer : Result (List LexiconAt) FaultAt) → Follows false text (word (spelling keyword.Symbols)) rest → Says InSymbols known rest answer → Says Beginning known text answer
    symbols_later : (stage : Stage) (known : Known) (text rest : List ℕ) → stage ≢ Beginning → Follows (opens stage) text (word (spelling keyword.Symbols)) rest → Says stage known text (fault_at (line_of text) why.Statement)
    -- a declared symbol, or a flag, which is none
    symbol : (known : Known) (text rest : List ℕ) (letters : List Letter) (answer : Result (List LexiconAt) FaultAt)
        → Follows false text (word letters) rest → IsNoKeyword letters → (IsFlag (text_of letters) → ⊥) → Says InSymbols (with_symbol known (line_of text) (characters_of letters) (text_of letters)) rest answer → Says InSymbols known text answer
    flag : (known : Known) (text rest : List ℕ) (letters : List Letter) (answer : Result (List LexiconAt) FaultAt)
        → Follows false text (word letters) rest → IsNoKeyword letters → IsFlag (text_of letters) → Says InSymbols known rest answer → Says InSymbols known text answer
    -- text that is no statement
    stray_word : (known : Known) (text rest : List ℕ) (letters : List Letter) → Follows false text (word letters) rest → IsNoKeyword letters → Says Beginning known text (fault_at (line_of text) why.Statement)
    stray_end : (stage : Stage) (known : Known) (text rest : List ℕ) → stage ≢ InLexicon → Follows false text semicolon rest → Says stage known text (fault_at (line_of text) why.Statement)
    -- `LEXICON` and a name
    lexicon : (stage : Stage) (known : Known) (text behind rest : List ℕ) (name : List Letter) (answer : Result (List LexiconAt) FaultAt)
        → Follows (opens stage) text (word (spelling keyword.Lexicon)) behind → Follows false behind (word name) rest → name ≢ hash → is_among known.names (text_of name) ≡ false
        → Says InLexicon (with_lexicon known (line_of text) (text_of name)) rest answer → Says stage known text answer
    lexicon_again : (stage : Stage) (known : Known) (text behind rest : List ℕ) (name : List Letter)
        → Follows (opens stage) text (word (spelling keyword.Lexicon)) behind → Follows false behind (word name) rest → name ≢ hash → is_among known.names (text_of name) ≡ true
        → Says stage known text (fault_at (line_of text) why.Duplicate)
    no_name : (stage : Stage) (known : Known) (text behind : List ℕ) → Follows (opens stage) text (word (spelling keyword.Lexicon)) behind → HasNoName behind → Says stage known text (fault_at (line_of text) why.Statement)
    no_token_for_name : (stage : Stage) (known : Known) (text behind : List ℕ) → Follows (opens stage) text (word (spelling keyword.Lexicon)) behind → NoneFollows false behind → Says stage known text (fault_at (line_of behind) why.Token)
    -- an entry
    entry : (known : Known) (text rest : List ℕ) (tokens : List Token) (form : Form Raw) (next : Option (List ℕ)) (answer : Result (List LexiconAt) FaultAt)
        → behind_blanks text ≢ [] → ((k : Keyword) (more : List Token) → tokens ≢ word (spelling k) ∷ more) → HasTokens true text tokens Ended rest → EntrySays known.declared (line_of text) tokens Ended (Ok (form, next))
        → limit_of known form ≡ None → Says InLexicon (with_entry known (line_of text) form next) rest answer → Says InLexicon known text answer
    entry_too_many : (known : Known) (text rest : List ℕ) (tokens : List Token) (form : Form Raw) (next : Option (List ℕ)) (reason : Why)
        → behind_blanks text ≢ [] → ((k : Keyword) (more : List Token) → tokens ≢ word (spelling k) ∷ more) → HasTokens true text tokens Ended rest → EntrySays known.declared (line_of text) tokens Ended (Ok (form, next))
        → limit_of known form ≡ Some reason → Says InLexicon known text (fault_at (line_of text) reason)
    entry_refused : (known : Known) (text rest : List ℕ) (tokens : List Token) (ending : Ending) (found : FaultAt)
        → behind_blanks text ≢ [] → ((k : Keyword) (more : List Token) → tokens ≢ word (spelling k) ∷ more) → HasTokens true text tokens ending rest → EntrySays known.declared (line_of text) tokens ending (Err found) → Says InLexicon known text (Err found)

-- what a text says
abbrev pub ReadsAs : List ℕ → Result (List LexiconAt) FaultAt → Type 0
ReadsAs text answer = Says (newlines (chars text) + 1) Beginning nothing_known (chars text) answer

-- the same without the lines of lexicons and entries
abbrev pub SaysLexicons : List ℕ → Result (List (Lexicon Raw)) FaultAt → Type 0
SaysLexicons text (Ok lexicons) = (read : List LexiconAt) × ReadsAs text (Ok read) × (lexicons ≡ map without_lines read)
SaysLexicons text (Err found) = ReadsAs text (Err found)
