-- A lexc text says one thing only.
use Rattle.std.proofs.Common.{◌≡◌, ◌≢◌, ◌+◌, ℕ, Bool, true, false, cond, List, [], ◌∷◌, map, chars, Option, Result, Ok, Err, refl, sym, ap, subst, ◌∙◌}
use Rattle.std.proofs.lemmas.List.Elements.{All-nil}
use Rattle.regex_ast.specs.declared.expr.Raw.{Raw}
use Rattle.regex_ast.specs.declared.fault.Why.TheVariants as why
use Rattle.regex_tokens.specs.Cuts.{newlines}
use Rattle.regex_reader.specs.Files.{FaultAt}
use Rattle.project_meaning.specs.Trees.{Form}
use Rattle.lexc_forms.specs.Letters.{characters_of, text_of}
use Rattle.lexc_forms.specs.declared.letters.Letter.{Letter}
use Rattle.lexc_tokens.specs.Tokens.{Follows, behind_blanks}
use Rattle.lexc_tokens.specs.declared.token.Token.{Token}
use Rattle.lexc_tokens.specs.declared.token.Token.TheVariants.{Word as word, Semicolon as semicolon}
use Rattle.lexc_grammar.specs.Entries.{Said, fault_at, EntrySays}
use Rattle.lexc_grammar.specs.Files.{Says, all_read, end_word, no_token, symbols, symbols_later, symbol, flag, stray_word, stray_end, lexicon, lexicon_again, no_name, no_token_for_name, entry, entry_too_many, entry_refused, ReadsAs, spelling, opens, limit_of, is_among, closed, line_of, HasTokens}
use Rattle.lexc_grammar.specs.Lexicons.{LexiconAt, Known, nothing_known, without_lines, with_symbol, with_lexicon, with_entry}
use Rattle.lexc_grammar.specs.declared.statements.Keyword.{Keyword}
use Rattle.lexc_grammar.specs.declared.statements.Keyword.TheVariants as keyword
use Rattle.lexc_grammar.specs.declared.statements.Stage.{Stage}
use Rattle.lexc_grammar.specs.declared.statements.Stage.TheVariants.{Beginning, InSymbols, InLexicon}
use Rattle.lexc_grammar.specs.declared.statements.Ending.{Ending}
use Rattle.lexc_grammar.specs.declared.statements.Ending.TheVariants.{Ended, Unended, Broken}
use Rattle.lexc_grammar.specs.Laws.{OneReading}
use Rattle.lexc_grammar.proofs.Forms.{IsNoFlag, HasNoFlags, with_symbol_none}
use Rattle.lexc_grammar.proofs.Entries.{accepted, refused}
use Rattle.lexc_grammar.proofs.Moves.{at_end, at_no_token, at_keyword, at_other, IsNoKeywordToken, named, unnamed, broken, Move, stops, goes, fault_here, name_move, limited_move, Moves, Step, step_once, words_same}

module _ (lines : ℕ) where
  -- The statements of a text, one move after another.
  data Runs : Stage → Known → List ℕ → Result (List LexiconAt) FaultAt → Type 0 where
    last : (stage : Stage) (known : Known) (text : List ℕ) (answer : Result (List LexiconAt) FaultAt) → HasNoFlags known.declared → Step lines known text stage (stops answer) → Runs stage known text answer
    more : (stage behind : Stage) (known new : Known) (text rest : List ℕ) (answer : Result (List LexiconAt) FaultAt)
        → HasNoFlags known.declared → Step lines known text stage (goes behind new rest) → Runs behind new rest answer → Runs stage known text answer

  -- Moves, statement by statement.
  module _ (known : Known) (text : List ℕ) where
    keyword_step : (stage : Stage) (k : Keyword) (rest : List ℕ) (move : Move) → Follows (opens stage) text (word (spelling k)) rest → Moves lines known text stage (at_keyword k rest) move → Step lines known text stage move
    keyword_step stage k rest move follows moves = record { first = at_keyword k rest; comes = follows; told = tt; moves = moves }

    other_step : (stage : Stage) (token : Token) (rest : List ℕ) (move : Move) → Follows (opens stage) text token rest → IsNoKeywordToken token → Moves lines known text stage (at_other token rest) move → Step lines known text stage move
    other_step stage token rest move follows told moves = record { first = at_other token rest; comes = follows; told = told; moves = moves }

    end_is_no_keyword : IsNoKeywordToken semicolon
    end_is_no_keyword k same = cc

    word_is_none : (letters : List Letter) → ((k : Keyword) → letters ≢ spelling k) → IsNoKeywordToken (word letters)
    word_is_none letters none k same = none k (words_same letters (spelling k) same)

    late_step : (stage : Stage) (rest : List ℕ) → stage ≢ Beginning → Follows (opens stage) text (word (spelling keyword.Symbols)) rest → Step lines known text stage (fault_here lines known text why.Statement)
    late_step Beginning rest late follows = absurd (late refl)
    late_step InSymbols rest late follows = keyword_step InSymbols keyword.Symbols rest (fault_here lines known text why.Statement) follows refl
    late_step InLexicon rest late follows = keyword_step InLexicon keyword.Symbols rest (fault_here lines known text why.Statement) follows refl

    stray_step : (stage : Stage) (rest : List ℕ) → stage ≢ InLexicon → Follows false text semicolon rest → Step lines known text stage (fault_here lines known text why.Statement)
    stray_step Beginning rest outside follows = other_step Beginning semicolon rest (fault_here lines known text why.Statement) follows end_is_no_keyword refl
    stray_step InSymbols rest outside follows = other_step InSymbols semicolon rest (fault_here lines known text why.Statement) follows end_is_no_keyword refl
    stray_step InLexicon rest outside follows = absurd (outside refl)

    name_new : (behind : List ℕ) (name : List Letter) (rest : List ℕ) → is_among known.names (text_of name) ≡ false → goes InLexicon (with_lexicon known (line_of lines text) (text_of name)) rest ≡ name_move lines known text behind (named name rest)
    name_new behind name rest absent = ap (λ (b : Bool). cond b (fault_here lines known text why.Duplicate) (goes InLexicon (with_lexicon known (line_of lines text) (text_of name)) rest)) (sym absent)

    name_again : (behind : List ℕ) (name : List Letter) (rest : List ℕ) → is_among known.names (text_of name) ≡ true → fault_here lines known text why.Duplicate ≡ name_move lines known text behind (named name rest)
    name_again behind name rest there = ap (λ (b : Bool). cond b (fault_here lines known text why.Duplicate) (goes InLexicon (with_lexicon known (line_of lines text) (text_of name)) rest)) (sym there)

    abbrev NoKeyword : List Token → Type 0
    NoKeyword tokens = (k : Keyword) (others : List Token) → tokens ≢ word (spelling k) ∷ others

    first_is_none : (token : Token) (tokens : List Token) → NoKeyword (token ∷ tokens) → IsNoKeywordToken token
    first_is_none token tokens none k same = none k tokens (ap (λ (t : Token). t ∷ tokens) same)

    accepted_step : (tokens : List Token) (rest : List ℕ) (form : Form Raw) (next : Option (List ℕ)) (move : Move) → NoKeyword tokens → HasTokens lines true text tokens Ended rest → EntrySays known.declared (line_of lines text) tokens Ended (Ok (form, next))
        → move ≡ limited_move lines known text form next rest (limit_of known form) → Step lines known text InLexicon move
    accepted_step [] rest form next move none has says is = other_step InLexicon semicolon rest move has end_is_no_keyword (accepted form next rest, ([], has, says), is)
    accepted_step (t ∷ tokens) rest form next move none has says is = other_step InLexicon t has.1 move has.2 (first_is_none t tokens none) (accepted form next rest, (t ∷ tokens, has, says), is)

    fault_is : (fault other : FaultAt) → ◌≡◌ {A = Said} (Err fault) (Err other) → fault ≡ other
    fault_is fault other same = cc

    refused_step : (tokens : List Token) (ending : Ending) (rest : List ℕ) (fault : FaultAt) → behind_blanks text ≢ [] → NoKeyword tokens → HasTokens lines true text tokens ending rest → EntrySays known.declared (line_of lines text) tokens ending (Err fault)
        → Step lines known text InLexicon (stops (Err fault))
    refused_step [] Ended rest fault some none has says = other_step InLexicon semicolon rest (stops (Err fault)) has end_is_no_keyword (refused fault, ([], Ended, rest, has, says), refl)
    refused_step [] Unended rest fault some none has says = absurd (some has)
    refused_step [] (Broken at) rest fault some none has says = record { first = at_no_token; comes = has.0; told = tt; moves = ap (λ (f : FaultAt). stops (Err f)) (fault_is fault (record { line = at; why = why.Token }) says) ∙ ap (λ (line : ℕ). stops (fault_at line why.Token)) has.1 }
    refused_step (t ∷ tokens) ending rest fault some none has says = other_step InLexicon t has.1 (stops (Err fault)) has.2 (first_is_none t tokens none) (refused fault, (t ∷ tokens, ending, rest, has, says), refl)

  runs : (stage : Stage) (known : Known) (text : List ℕ) (answer : Result (List LexiconAt) FaultAt) → Says lines stage known text answer → HasNoFlags known.declared → Runs stage known text answer
  runs stage known text answer (all_read s k t none) free = last s k t (closed k) free (record { first = at_end; comes = none; told = tt; moves = refl })
  runs stage known text answer (end_word s k t rest follows) free = last s k t (closed k) free (keyword_step k t s keyword.End rest (stops (closed k)) follows refl)
  runs stage known text answer (no_token s k t none) free = last s k t (fault_at (line_of lines t) why.Token) free (record { first = at_no_token; comes = none; told = tt; moves = refl })
  runs stage known text answer (symbols k t rest a follows says) free =
      more Beginning InSymbols k k t rest a free (keyword_step k t Beginning keyword.Symbols rest (goes InSymbols k rest) follows refl) (runs InSymbols k rest a says free)
  runs stage known text answer (symbols_later s k t rest late follows) free = last s k t (fault_at (line_of lines t) why.Statement) free (late_step k t s rest late follows)
  runs stage known text answer (symbol k t rest letters a follows none no_flag says) free =
      let new = with_symbol k (line_of lines t) (characters_of letters) (text_of letters) in
      more InSymbols InSymbols k new t rest a free (other_step k t InSymbols (word letters) rest (goes InSymbols new rest) follows (word_is_none k t letters none) (false, no_flag, refl))
      (runs InSymbols new rest a says (with_symbol_none (characters_of letters) k.declared no_flag free))
  runs stage known text answer (flag k t rest letters a follows none is says) free =
      more InSymbols InSymbols k k t rest a free (other_step k t InSymbols (word letters) rest (goes InSymbols k rest) follows (word_is_none k t letters none) (true, is, refl)) (runs InSymbols k rest a says free)
  runs stage known text answer (stray_word k t rest letters follows none) free =
      last Beginning k t (fault_at (line_of lines t) why.Statement) free (other_step k t Beginning (word letters) rest (fault_here lines k t why.Statement) follows (word_is_none k t letters none) refl)
  runs stage known text answer (stray_end s k t rest outside follows) free = last s k t (fault_at (line_of lines t) why.Statement) free (stray_step k t s rest outside follows)
  runs stage known text answer (lexicon s k t behind rest name a header follows no_hash absent says) free =
      let new = with_lexicon k (line_of lines t) (text_of name) in
      more s InLexicon k new t rest a free (keyword_step k t s keyword.Lexicon behind (goes InLexicon new rest) header (named name rest, (follows, no_hash), name_new k t behind name rest absent)) (runs InLexicon new rest a says free)
  runs stage known text answer (lexicon_again s k t behind rest name header follows no_hash there) free =
      last s k t (fault_at (line_of lines t) why.Duplicate) free (keyword_step k t s keyword.Lexicon behind (fault_here lines k t why.Duplicate) header (named name rest, (follows, no_hash), name_again k t behind name rest there))
  runs stage known text answer (no_name s k t behind header none) free = last s k t (fault_at (line_of lines t) why.Statement) free (keyword_step k t s keyword.Lexicon behind (fault_here lines k t why.Statement) header (unnamed, none, refl))
  runs stage known text answer (no_token_for_name s k t behind header none) free =
      last s k t (fault_at (line_of lines behind) why.Token) free (keyword_step k t s keyword.Lexicon behind (stops (fault_at (line_of lines behind) why.Token)) header (broken, none, refl))
  runs stage known text answer (entry k t rest tokens form next a some none has says fits later) free =
      let new = with_entry k (line_of lines t) form next in
      more InLexicon InLexicon k new t rest a free (accepted_step k t tokens rest form next (goes InLexicon new rest) none has says (ap (limited_move lines k t form next rest) (sym fits))) (runs InLexicon new rest a later free)
  runs stage known text answer (entry_too_many k t rest tokens form next reason some none has says limit) free =
      last InLexicon k t (fault_at (line_of lines t) reason) free (accepted_step k t tokens rest form next (fault_here lines k t reason) none has says (ap (limited_move lines k t form next rest) (sym limit)))
  runs stage known text answer (entry_refused k t rest tokens ending fault some none has says) free = last InLexicon k t (Err fault) free (refused_step k t tokens ending rest fault some none has says)

  -- Two runs of one text.

  stops_same : (a b : Result (List LexiconAt) FaultAt) → stops a ≡ stops b → a ≡ b
  stops_same a b same = cc

  stops_goes : (a : Result (List LexiconAt) FaultAt) (stage : Stage) (known : Known) (text : List ℕ) → stops a ≡ goes stage known text → ⊥
  stops_goes a stage known text same = cc

  goes_same : (stage other : Stage) (known them : Known) (text rest : List ℕ) → goes stage known text ≡ goes other them rest → (stage ≡ other) × (known ≡ them) × (text ≡ rest)
  goes_same stage other known them text rest same =
      let stages : stage ≡ other = cc in let knowns : known ≡ them = cc in let texts : text ≡ rest = cc in (stages, knowns, texts)

  run_once : (stage : Stage) (known : Known) (text : List ℕ) (a b : Result (List LexiconAt) FaultAt) → Runs stage known text a → Runs stage known text b → a ≡ b
  run_once stage known text a b (last s k t x free p) (last z l u y never q) = stops_same x y (step_once lines k t free s (stops x) (stops y) p q)
  run_once stage known text a b (last s k t x free p) (more z behind l new u rest y never q later) = absurd (stops_goes x behind new rest (step_once lines k t free s (stops x) (goes behind new rest) p q))
  run_once stage known text a b (more s behind k new t rest x free p later) (last z l u y never q) = absurd (stops_goes y behind new rest (step_once lines k t free s (stops y) (goes behind new rest) q p))
  run_once stage known text a b (more s behind k new t rest x free p later) (more z there l next u left y never q others) =
      let same = goes_same there behind next new left rest (step_once lines k t free s (goes there next left) (goes behind new rest) q p) in
      run_once behind new rest x y later
      (subst (λ (r : List ℕ). Runs behind new r y) same.2 (subst (λ (n : Known). Runs behind n left y) same.1 (subst (λ (g : Stage). Runs g next left y) same.0 others)))

-- what a text says with the lines of lexicons and entries is one thing
pub reads_once : (text : List ℕ) (a b : Result (List LexiconAt) FaultAt) → ReadsAs text a → ReadsAs text b → a ≡ b
reads_once text a b p q =
    let lines = newlines (chars text) + 1 in
    run_once lines Beginning nothing_known (chars text) a b (runs lines Beginning nothing_known (chars text) a p (All-nil IsNoFlag)) (runs lines Beginning nothing_known (chars text) b q (All-nil IsNoFlag))

oks_same : (x y : List LexiconAt) → ◌≡◌ {A = Result (List LexiconAt) FaultAt} (Ok x) (Ok y) → x ≡ y
oks_same x y same = cc

ok_err : (x : List LexiconAt) (fault : FaultAt) → ◌≡◌ {A = Result (List LexiconAt) FaultAt} (Ok x) (Err fault) → ⊥
ok_err x fault same = cc

errs_same : (fault other : FaultAt) → ◌≡◌ {A = Result (List LexiconAt) FaultAt} (Err fault) (Err other) → fault ≡ other
errs_same fault other same = cc

pub one_reading : OneReading
one_reading text (Ok x) (Ok y) p q = ap Ok (p.2 ∙ ap (map without_lines) (oks_same p.0 q.0 (reads_once text (Ok p.0) (Ok q.0) p.1 q.1)) ∙ sym q.2)
one_reading text (Ok x) (Err other) p q = absurd (ok_err p.0 other (reads_once text (Ok p.0) (Err other) p.1 q))
one_reading text (Err fault) (Ok y) p q = absurd (ok_err q.0 fault (reads_once text (Ok q.0) (Err fault) q.1 p))
one_reading text (Err fault) (Err other) p q = ap Err (errs_same fault other (reads_once text (Err fault) (Err other) p q))
