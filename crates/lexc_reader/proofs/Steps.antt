-- Statements, one by one: what the text says is what the text behind a statement says.
use Rattle.std.proofs.Common.{◌≡◌, ◌≢◌, ◌==◌, ◌+◌, ◌-◌, ◌^◌, ◌<◌, ℕ, Bool, true, false, List, [], ◌∷◌, length, take, drop, Option, None, Some, Result, Ok, Err, refl, sym, ap, subst, ◌∙◌, inl, inr, arith, length-drop}
use Rattle.std.proofs.lemmas.Bool.Decides.{Decides-eqb}
use Rattle.std.proofs.lemmas.List.{drop-drop}
use Rattle.regex_ast.specs.Flags.{IsFlag}
use Rattle.regex_ast.specs.declared.expr.Raw.{Raw}
use Rattle.regex_ast.specs.declared.fault.ReadError.{ReadError}
use Rattle.regex_ast.specs.declared.fault.ReadError.TheVariants.{Fault, Memory}
use Rattle.regex_ast.specs.declared.fault.Why.{Why}
use Rattle.regex_ast.specs.declared.fault.Why.TheVariants as why
use Rattle.regex_reader.specs.Files.{FaultAt}
use Rattle.regex_tokens.specs.Cuts.{newlines}
use Rattle.project_meaning.specs.Trees.{Form}
use Rattle.lexc_forms.specs.Letters.{characters_of, text_of}
use Rattle.lexc_forms.specs.declared.letters.Letter.{Letter}
use Rattle.lexc_forms.specs.declared.letters.Letter.TheVariants.{Plain, Escaped}
use Rattle.lexc_tokens.specs.Steps.{IsNext}
use Rattle.lexc_tokens.specs.Tokens.{Follows, Stands, letter_front, behind_blanks, inner_len}
use Rattle.lexc_tokens.specs.declared.expressions.Inside.TheVariants.{Nothing}
use Rattle.lexc_tokens.specs.declared.scanning.Found.{Found}
use Rattle.lexc_tokens.specs.declared.scanning.Next.TheVariants as what
use Rattle.lexc_tokens.specs.declared.token.Token.{Token}
use Rattle.lexc_tokens.specs.declared.token.Token.TheVariants.{Word as word, Semicolon as semicolon, Expression as expression}
use Rattle.lexc_grammar.specs.Entries.{fault_at, hash, EntrySays}
use Rattle.lexc_grammar.specs.Files.{Says, HasTokens, all_read, end_word, no_token, symbols, symbols_later, symbol, flag, stray_word, stray_end, lexicon, lexicon_again, no_name, no_token_for_name, entry, entry_too_many, entry_refused, opens, spelling, closed, line_of, limit_of, is_among, IsNoKeyword}
use Rattle.lexc_grammar.specs.Lexicons.{Known, with_symbol, with_lexicon, with_entry}
use Rattle.lexc_grammar.specs.declared.statements.Ending.{Ending}
use Rattle.lexc_grammar.specs.declared.statements.Ending.TheVariants.{Ended}
use Rattle.lexc_grammar.specs.declared.statements.Keyword.{Keyword}
use Rattle.lexc_grammar.specs.declared.statements.Keyword.TheVariants as keyword
use Rattle.lexc_grammar.specs.declared.statements.Stage.{Stage}
use Rattle.lexc_grammar.specs.declared.statements.Stage.TheVariants.{Beginning, InSymbols, InLexicon}
use Rattle.lexc_reader.specs.EntryAnswers.{IsEntryRead, MayBeEntry}
use Rattle.lexc_reader.specs.Gathering.{AreEntryTokens}
use Rattle.lexc_reader.specs.declared.gathering.EntryTokens.{EntryTokens}
use Rattle.lexc_reader.specs.Answers.{IsFound, IsStatementRead, IsStep, lines_of}
use Rattle.lexc_reader.proofs.Newlines.{newlines_encoded, newlines_front, other_first}

-- What comes next.

pub line_back : (at lines : ℕ) (text : List ℕ) → at + newlines (behind_blanks text) ≡ lines → line_of lines text ≡ at
line_back at lines text is = omega (arith, is)

pub none_left : (lines : ℕ) (stage : Stage) (known : Known) (text : List ℕ) → behind_blanks text ≡ [] → IsStatementRead lines stage known text known (Ok None)
none_left lines stage known text none = (refl, all_read stage known text none)

pub none_next : (line at : ℕ) (stage : Stage) (known : Known) (text : List ℕ) → IsNext (opens stage) line text (what.NoToken at) → Says (line + newlines text) stage known text (fault_at at why.Token)
none_next line at stage known text is =
    subst (λ (n : ℕ). Says (line + newlines text) stage known text (fault_at n why.Token)) (line_back at (line + newlines text) text is.1) (no_token stage known text is.0)

no_letter : (text : List ℕ) (letter : Letter) (n : ℕ) → letter_front text ≡ Some (letter, n) → text ≢ []
no_letter [] letter n is e = absurd cc
no_letter (c ∷ cs) letter n is e = absurd cc

stands_some : (opening : Bool) (text : List ℕ) (token : Token) (rest : List ℕ) → Stands opening text token rest → text ≢ []
stands_some opening text (word []) rest is e = is.0 refl
stands_some opening text (word (l ∷ ls)) rest is e = no_letter text l is.2.0 is.2.1 e
stands_some opening text semicolon rest is e = let clash : 59 ∷ rest ≡ [] = sym is ∙ e in cc
stands_some opening text (expression x) rest is e = let clash : 60 ∷ is.1 ≡ [] = sym is.2 ∙ e in cc

-- letters that aren't other than `#`
pub is_hash : (letters : List Letter) → ((letters ≢ hash) → ⊥) → letters ≡ hash
is_hash [] none = absurd (none (λ e. cc))
is_hash (Escaped c ∷ letters) none = absurd (none (λ e. cc))
is_hash (Plain c ∷ letter ∷ letters) none = absurd (none (λ e. cc))
is_hash (Plain c ∷ []) none = by (c == 35) refl
  where
    by : (test : Bool) → (c == 35) ≡ test → Plain c ∷ [] ≡ hash
    by true is = ap (λ (n : ℕ). Plain n ∷ []) ((Decides-eqb c 35).0 is)
    by false is = absurd (none (λ e. let same : c ≡ 35 = cc in let clash : (35 == 35) ≡ false = subst (λ (n : ℕ). (n == 35) ≡ false) same is in cc))

pub one_word : (letters others : List Letter) → word letters ≡ word others → letters ≡ others
one_word letters others same = cc

module _ (text : List ℕ) (found : Found) where
  module _ (stage : Stage) (known : Known) (is : IsFound (opens stage) text found) where
    fault_here : (reason : Why) → Says (lines_of text found) stage known text (fault_at (line_of (lines_of text found) text) reason) → Says (lines_of text found) stage known text (fault_at found.line reason)
    fault_here reason says = subst (λ (n : ℕ). Says (lines_of text found) stage known text (fault_at n reason)) (line_back found.line (lines_of text found) text is.line_is) says

    follows_as : (token : Token) → found.token ≡ token → Follows (opens stage) text token (drop found.len text)
    follows_as token same = subst (λ (t : Token). Follows (opens stage) text t (drop found.len text)) same is.follows

    pub ends : found.token ≡ word (spelling keyword.End) → Says (lines_of text found) stage known text (closed known)
    ends same = end_word stage known text (drop found.len text) (follows_as (word (spelling keyword.End)) same)

    pub symbols_too_late : stage ≢ Beginning → found.token ≡ word (spelling keyword.Symbols) → Says (lines_of text found) stage known text (fault_at found.line why.Statement)
    symbols_too_late late same = fault_here why.Statement (symbols_later stage known text (drop found.len text) late (follows_as (word (spelling keyword.Symbols)) same))

  pub begins : (known : Known) → IsFound false text found → found.token ≡ word (spelling keyword.Symbols) → IsStep (lines_of text found) Beginning known text known (record { stage = InSymbols; len = found.len; line = found.behind })
  begins known is same = record {
    some = is.some;
    within = is.within;
    line_is = refl;
    goes_on = λ answer says. symbols known text (drop found.len text) answer (follows_as Beginning known is (word (spelling keyword.Symbols)) same) says;
  }

  pub stray : (known : Known) → IsFound false text found → ((letters : List Letter) → found.token ≡ word letters → IsNoKeyword letters) → Says (lines_of text found) Beginning known text (fault_at found.line why.Statement)
  stray known is none = by found.token refl
    where
      by : (token : Token) → found.token ≡ token → Says (lines_of text found) Beginning known text (fault_at found.line why.Statement)
      by (word letters) same = fault_here Beginning known is why.Statement (stray_word known text (drop found.len text) letters (follows_as Beginning known is (word letters) same) (none letters same))
      by semicolon same = fault_here Beginning known is why.Statement (stray_end Beginning known text (drop found.len text) (λ e. cc) (follows_as Beginning known is semicolon same))
      by (expression x) same = let follows : Follows false text (expression x) (drop found.len text) = follows_as Beginning known is (expression x) same in let clash : false ≡ true = follows.0 in cc

  -- Declared symbols.

  pub no_symbol : (known : Known) → IsFound false text found → ((letters : List Letter) → found.token ≡ word letters → ⊥) → Says (lines_of text found) InSymbols known text (fault_at found.line why.Statement)
  no_symbol known is none = by found.token refl
    where
      by : (token : Token) → found.token ≡ token → Says (lines_of text found) InSymbols known text (fault_at found.line why.Statement)
      by (word letters) same = absurd (none letters same)
      by semicolon same = fault_here InSymbols known is why.Statement (stray_end InSymbols known text (drop found.len text) (λ e. cc) (follows_as InSymbols known is semicolon same))
      by (expression x) same = let follows : Follows false text (expression x) (drop found.len text) = follows_as InSymbols known is (expression x) same in let clash : false ≡ true = follows.0 in cc

  module _ (known : Known) (is : IsFound false text found) (letters : List Letter) (same : found.token ≡ word letters) (none : IsNoKeyword letters) where
    pub is_flag : IsFlag (text_of letters) → IsStep (lines_of text found) InSymbols known text known (record { stage = InSymbols; len = found.len; line = found.behind })
    is_flag flag_is = record {
      some = is.some;
      within = is.within;
      line_is = refl;
      goes_on = λ answer says. flag known text (drop found.len text) letters answer (follows_as InSymbols known is (word letters) same) none flag_is says;
    }

    pub is_symbol : (new : Known) → (IsFlag (text_of letters) → ⊥) → new ≡ with_symbol known found.line (characters_of letters) (text_of letters) → IsStep (lines_of text found) InSymbols known text new (record { stage = InSymbols; len = found.len; line = found.behind })
    is_symbol new no_flag new_is = record {
      some = is.some;
      within = is.within;
      line_is = refl;
      goes_on = λ answer says.
          symbol known text (drop found.len text) letters answer (follows_as InSymbols known is (word letters) same) none no_flag
          (subst (λ (k : Known). Says (lines_of text found) InSymbols k (drop found.len text) answer) (new_is ∙ ap (λ (n : ℕ). with_symbol known n (characters_of letters) (text_of letters)) (sym (line_back found.line (lines_of text found) text is.line_is))) says);
    }

  -- Names of lexicons.

  module _ (stage : Stage) (known : Known) (is : IsFound (opens stage) text found) (same : found.token ≡ word (spelling keyword.Lexicon)) (behind : List ℕ) (behind_is : behind ≡ drop found.len text) where
    header : Follows (opens stage) text (word (spelling keyword.Lexicon)) behind
    header = subst (λ (z : List ℕ). Follows (opens stage) text (word (spelling keyword.Lexicon)) z) (sym behind_is) (follows_as stage known is (word (spelling keyword.Lexicon)) same)

    lines_are : found.behind + newlines behind ≡ lines_of text found
    lines_are = ap (λ (z : List ℕ). found.behind + newlines z) behind_is

    pub name_unended : behind_blanks behind ≡ [] → Says (lines_of text found) stage known text (fault_at found.line why.Statement)
    name_unended none = fault_here stage known is why.Statement (no_name stage known text behind header (inl none))

    pub name_broken : (at : ℕ) → IsNext false found.behind behind (what.NoToken at) → Says (lines_of text found) stage known text (fault_at at why.Token)
    name_broken at none =
        subst (λ (n : ℕ). Says (lines_of text found) stage known text (fault_at n why.Token)) (line_back at (lines_of text found) behind (none.1 ∙ lines_are)) (no_token_for_name stage known text behind header none.0)

    module _ (name : Found) (named : IsNext false found.behind behind (what.Found name)) where
      pub name_is_none : ((letters : List Letter) → name.token ≡ word letters → letters ≡ hash) → Says (lines_of text found) stage known text (fault_at found.line why.Statement)
      name_is_none none = by name.token refl
        where
          follows_by : (token : Token) → name.token ≡ token → Follows false behind token (drop name.len behind)
          follows_by token e = subst (λ (t : Token). Follows false behind t (drop name.len behind)) e named.2

          by : (token : Token) → name.token ≡ token → Says (lines_of text found) stage known text (fault_at found.line why.Statement)
          by (word letters) e = fault_here stage known is why.Statement (no_name stage known text behind header (inr (drop name.len behind, inr (follows_by (word hash) (e ∙ ap word (none letters e))))))
          by semicolon e = fault_here stage known is why.Statement (no_name stage known text behind header (inr (drop name.len behind, inl (follows_by semicolon e))))
          by (expression x) e = let follows : Follows false behind (expression x) (drop name.len behind) = follows_by (expression x) e in let clash : false ≡ true = follows.0 in cc

      module _ (letters : List Letter) (name_is : name.token ≡ word letters) (no_hash : letters ≢ hash) where
        name_follows : Follows false behind (word letters) (drop name.len behind)
        name_follows = subst (λ (t : Token). Follows false behind t (drop name.len behind)) name_is named.2

        pub name_again : is_among known.names (text_of letters) ≡ true → Says (lines_of text found) stage known text (fault_at found.line why.Duplicate)
        name_again there = fault_here stage known is why.Duplicate (lexicon_again stage known text behind (drop name.len behind) letters header name_follows no_hash there)

        pub name_read : (new : Known) → is_among known.names (text_of letters) ≡ false → new ≡ with_lexicon known found.line (text_of letters) → IsStep (lines_of text found) stage known text new (record { stage = InLexicon; len = found.len + name.len; line = name.behind })
        name_read new absent new_is =
            let rest_is : drop name.len behind ≡ drop (found.len + name.len) text = ap (drop name.len) behind_is ∙ drop-drop name.len found.len text in
            record {
              some = omega (arith, is.some);
              within = omega (arith, is.within, named.1, ap length behind_is, length-drop found.len text);
              line_is = ap (λ (z : List ℕ). name.behind + newlines z) (sym rest_is) ∙ named.4 ∙ lines_are;
              goes_on = λ answer says.
                  lexicon stage known text behind (drop name.len behind) letters answer header name_follows no_hash absent
                  (subst (λ (k : Known). Says (lines_of text found) InLexicon k (drop name.len behind) answer) (new_is ∙ ap (λ (n : ℕ). with_lexicon known n (text_of letters)) (sym (line_back found.line (lines_of text found) text is.line_is)))
                  (subst (λ (z : List ℕ). Says (lines_of text found) InLexicon new z answer) (sym rest_is) says));
            }

  -- Entries.

  module _ (known : Known) (is : IsFound true text found) where
    some_text : behind_blanks text ≢ []
    some_text = stands_some true (behind_blanks text) found.token (drop found.len text) is.follows

    pub empty_entry : found.token ≡ semicolon → Says (lines_of text found) InLexicon known text (fault_at found.line why.Statement)
    empty_entry same =
        fault_here InLexicon known is why.Statement
        (entry_refused known text (drop found.len text) [] Ended (record { line = line_of (lines_of text found) text; why = why.Statement }) some_text (λ k more e. cc) (follows_as InLexicon known is semicolon same) refl)

    module _ (no_end : found.token ≢ semicolon) (none : (letters : List Letter) → found.token ≡ word letters → IsNoKeyword letters) (behind : List ℕ) (behind_is : behind ≡ drop found.len text) (all : EntryTokens) (gathered : AreEntryTokens found.behind found.token behind all) where
      rest : List ℕ
      rest = drop all.len behind

      lines_same : found.behind + newlines behind ≡ lines_of text found
      lines_same = ap (λ (z : List ℕ). found.behind + newlines z) behind_is

      no_word : (k : Keyword) (more : List Token) → all.tokens.items ≢ word (spelling k) ∷ more
      no_word k more e =
          let whole : found.token ∷ gathered.others ≡ word (spelling k) ∷ more = sym gathered.all ∙ e in
          let first : found.token ≡ word (spelling k) = cc in
          none (spelling k) first k refl

      has_tokens : HasTokens (lines_of text found) true text all.tokens.items all.ending rest
      unfolding rest
      has_tokens =
          subst (λ (ts : List Token). HasTokens (lines_of text found) true text ts all.ending rest) (sym gathered.all)
          (no_end, behind, subst (λ (z : List ℕ). Follows true text found.token z) (sym behind_is) is.follows, subst (λ (n : ℕ). HasTokens n false behind gathered.others all.ending rest) lines_same gathered.has)

      says_here : (answer : Result (Form Raw × Option (List ℕ)) FaultAt) → EntrySays known.declared found.line all.tokens.items all.ending answer → EntrySays known.declared (line_of (lines_of text found) text) all.tokens.items all.ending answer
      says_here answer says = subst (λ (n : ℕ). EntrySays known.declared n all.tokens.items all.ending answer) (sym (line_back found.line (lines_of text found) text is.line_is)) says

      pub refused : (at : ℕ) (reason : Why) → EntrySays known.declared found.line all.tokens.items all.ending (fault_at at reason) → Says (lines_of text found) InLexicon known text (fault_at at reason)
      refused at reason says = entry_refused known text rest all.tokens.items all.ending (record { line = at; why = reason }) some_text no_word has_tokens (says_here (fault_at at reason) says)

      pub entry_stopped : (new : Known) (e : ReadError) → IsEntryRead known.declared found.line all.tokens.items all.ending (Err e) → IsStatementRead (lines_of text found) InLexicon known text new (Err e)
      entry_stopped new (Fault at reason) says = refused at reason says
      entry_stopped new (Memory refusal) says = tt

      pub may_be_entry : lines_of text found < 2 ^ 32 - 1 → MayBeEntry found.line all.tokens.items
      may_be_entry few = subst (MayBeEntry found.line) (sym gathered.all) (by found.token refl)
        where
          by : (token : Token) → found.token ≡ token → MayBeEntry found.line (token ∷ gathered.others)
          by (word letters) same = tt
          by semicolon same = absurd (no_end same)
          by (expression e) same =
              let follows : Follows true text (expression e) (drop found.len text) = subst (λ (t : Token). Follows true text t (drop found.len text)) same is.follows in
              let bytes : newlines e ≡ newlines (take (inner_len Nothing follows.1) follows.1) = ap newlines follows.3 ∙ newlines_encoded (take (inner_len Nothing follows.1) follows.1) in
              let inner : newlines (behind_blanks text) ≡ newlines follows.1 = ap newlines follows.2 ∙ other_first 60 [] follows.1 (omega arith) refl in
              omega (arith, few, is.line_is, bytes, inner, newlines_front (inner_len Nothing follows.1) follows.1)

      module _ (form : Form Raw) (next : Option (List ℕ)) (says : EntrySays known.declared found.line all.tokens.items all.ending (Ok (form, next))) (ended : all.ending ≡ Ended) where
        has_all : HasTokens (lines_of text found) true text all.tokens.items Ended rest
        has_all = subst (λ (e : Ending). HasTokens (lines_of text found) true text all.tokens.items e rest) ended has_tokens

        says_all : EntrySays known.declared (line_of (lines_of text found) text) all.tokens.items Ended (Ok (form, next))
        says_all = subst (λ (e : Ending). EntrySays known.declared (line_of (lines_of text found) text) all.tokens.items e (Ok (form, next))) ended (says_here (Ok (form, next)) says)

        pub barred : (reason : Why) → limit_of known form ≡ Some reason → Says (lines_of text found) InLexicon known text (fault_at found.line reason)
        barred reason limit = fault_here InLexicon known is reason (entry_too_many known text rest all.tokens.items form next reason some_text no_word has_all says_all limit)

        pub entry_read : (new : Known) → (limit_of known form ≡ None) × (new ≡ with_entry known found.line form next) → IsStep (lines_of text found) InLexicon known text new (record { stage = InLexicon; len = found.len + all.len; line = all.behind })
        unfolding rest
        entry_read new added =
            let rest_is : rest ≡ drop (found.len + all.len) text = ap (drop all.len) behind_is ∙ drop-drop all.len found.len text in
            record {
              some = omega (arith, is.some);
              within = omega (arith, is.within, gathered.within, ap length behind_is, length-drop found.len text);
              line_is = ap (λ (z : List ℕ). all.behind + newlines z) (sym rest_is) ∙ gathered.line_is ∙ lines_same;
              goes_on = λ answer more.
                  entry known text rest all.tokens.items form next answer some_text no_word has_all says_all added.0
                  (subst (λ (k : Known). Says (lines_of text found) InLexicon k rest answer) (added.1 ∙ ap (λ (n : ℕ). with_entry known n form next) (sym (line_back found.line (lines_of text found) text is.line_is)))
                  (subst (λ (z : List ℕ). Says (lines_of text found) InLexicon new z answer) (sym rest_is) more));
            }
