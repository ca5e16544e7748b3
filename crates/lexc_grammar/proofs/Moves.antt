-- One statement of a text moves on in one way: it ends the text with an answer, or the text behind it says the answer.
use Rattle.std.proofs.Common.{◌≡◌, ◌≢◌, ℕ, Bool, true, false, cond, List, length, Option, None, Some, Result, Err, refl, sym, ap, subst, ◌∙◌, inl, inr, arith}
use Rattle.std.specs.Bool.{⊤}
use Rattle.regex_ast.specs.Flags.{IsFlag}
use Rattle.regex_ast.specs.declared.expr.Raw.{Raw}
use Rattle.regex_ast.specs.declared.fault.Why.{Why}
use Rattle.regex_ast.specs.declared.fault.Why.TheVariants as why
use Rattle.regex_reader.specs.Files.{FaultAt}
use Rattle.project_meaning.specs.Trees.{Form}
use Rattle.lexc_forms.specs.Letters.{characters_of, text_of}
use Rattle.lexc_forms.specs.declared.letters.Letter.{Letter}
use Rattle.lexc_tokens.specs.Tokens.{Follows, NoneFollows}
use Rattle.lexc_tokens.specs.declared.token.Token.{Token}
use Rattle.lexc_tokens.specs.declared.token.Token.TheVariants.{Word as word, Semicolon as semicolon, Expression as expression}
use Rattle.lexc_grammar.specs.Entries.{fault_at, hash}
use Rattle.lexc_grammar.specs.Files.{spelling, opens, limit_of, is_among, closed, line_of, HasNoName}
use Rattle.lexc_grammar.specs.Lexicons.{LexiconAt, Known, with_symbol, with_lexicon, with_entry}
use Rattle.lexc_grammar.specs.declared.statements.Keyword.{Keyword}
use Rattle.lexc_grammar.specs.declared.statements.Keyword.TheVariants as keyword
use Rattle.lexc_grammar.specs.declared.statements.Stage.{Stage}
use Rattle.lexc_grammar.specs.declared.statements.Stage.TheVariants.{Beginning, InSymbols, InLexicon}
use Rattle.lexc_grammar.proofs.Tokens.{Next, nothing, no_front, found, IsNext, next_once, first_found}
use Rattle.lexc_grammar.proofs.Forms.{HasNoFlags}
use Rattle.lexc_grammar.proofs.Entries.{Entry, accepted, refused, IsEntry, next_entry_once}

-- Keywords.

one_keyword : (j k : Keyword) → spelling j ≡ spelling k → j ≡ k
one_keyword keyword.Symbols keyword.Symbols same = refl
one_keyword keyword.Symbols keyword.Lexicon same = absurd (omega (arith, ap length same))
one_keyword keyword.Symbols keyword.End same = absurd (omega (arith, ap length same))
one_keyword keyword.Lexicon keyword.Symbols same = absurd (omega (arith, ap length same))
one_keyword keyword.Lexicon keyword.Lexicon same = refl
one_keyword keyword.Lexicon keyword.End same = absurd (omega (arith, ap length same))
one_keyword keyword.End keyword.Symbols same = absurd (omega (arith, ap length same))
one_keyword keyword.End keyword.Lexicon same = absurd (omega (arith, ap length same))
one_keyword keyword.End keyword.End same = refl

pub words_same : (k l : List Letter) → word k ≡ word l → k ≡ l
words_same k l same = cc

-- What a statement begins with.

pub data First : Type 0 where
  at_end : First
  at_no_token : First
  at_keyword : Keyword → List ℕ → First
  at_other : Token → List ℕ → First

abbrev pub next_of : First → Next
next_of at_end = nothing
next_of at_no_token = no_front
next_of (at_keyword k rest) = found (word (spelling k)) rest
next_of (at_other token rest) = found token rest

abbrev pub IsNoKeywordToken : Token → Type 0
IsNoKeywordToken token = (k : Keyword) → token ≢ word (spelling k)

abbrev pub IsTold : First → Type 0
IsTold (at_other token rest) = IsNoKeywordToken token
IsTold first = ⊤

first_once : (a b : First) → IsTold a → IsTold b → next_of a ≡ next_of b → a ≡ b
first_once at_end at_end p q same = refl
first_once at_end at_no_token p q same = absurd cc
first_once at_end (at_keyword l s) p q same = absurd cc
first_once at_end (at_other b s) p q same = absurd cc
first_once at_no_token at_end p q same = absurd cc
first_once at_no_token at_no_token p q same = refl
first_once at_no_token (at_keyword l s) p q same = absurd cc
first_once at_no_token (at_other b s) p q same = absurd cc
first_once (at_keyword k r) at_end p q same = absurd cc
first_once (at_keyword k r) at_no_token p q same = absurd cc
first_once (at_keyword k r) (at_keyword l s) p q same =
    let both = first_found (word (spelling k)) (word (spelling l)) r s same in
    let key : k ≡ l = one_keyword k l (words_same (spelling k) (spelling l) both.0) in
    λ i. at_keyword (key i) (both.1 i)
first_once (at_keyword k r) (at_other b s) p q same = absurd (q k (sym (first_found (word (spelling k)) b r s same).0))
first_once (at_other a r) at_end p q same = absurd cc
first_once (at_other a r) at_no_token p q same = absurd cc
first_once (at_other a r) (at_keyword l s) p q same = absurd (p l (first_found a (word (spelling l)) r s same).0)
first_once (at_other a r) (at_other b s) p q same = let both = first_found a b r s same in λ i. at_other (both.0 i) (both.1 i)

-- The name of a lexicon.

-- what stands behind `LEXICON`: a name, none, or a place where no token begins
pub data Naming : Type 0 where
  named : List Letter → List ℕ → Naming
  unnamed : Naming
  broken : Naming

module _ (lines : ℕ) where
  abbrev pub IsNaming : List ℕ → Naming → Type 0
  IsNaming behind (named name rest) = Follows false behind (word name) rest × (name ≢ hash)
  IsNaming behind unnamed = HasNoName lines behind
  IsNaming behind broken = NoneFollows false behind

  name_not_none : (behind : List ℕ) (name : List Letter) (rest : List ℕ) → Follows false behind (word name) rest → name ≢ hash → HasNoName lines behind → ⊥
  name_not_none behind name rest follows no_hash (inl none) = by (next_once false behind (found (word name) rest) nothing follows none)
    where
      by : found (word name) rest ≡ nothing → ⊥
      by same = cc
  name_not_none behind name rest follows no_hash (inr (other, inl end)) = by (first_found (word name) semicolon rest other (next_once false behind (found (word name) rest) (found semicolon other) follows end)).0
    where
      by : word name ≡ semicolon → ⊥
      by same = cc
  name_not_none behind name rest follows no_hash (inr (other, inr mark)) =
      no_hash (words_same name hash (first_found (word name) (word hash) rest other (next_once false behind (found (word name) rest) (found (word hash) other) follows mark)).0)

  none_not_broken : (behind : List ℕ) → HasNoName lines behind → NoneFollows false behind → ⊥
  none_not_broken behind (inl none) q = q.0 none
  none_not_broken behind (inr (other, inl end)) q = q.1 semicolon other end
  none_not_broken behind (inr (other, inr mark)) q = q.1 (word hash) other mark

  naming_once : (behind : List ℕ) (a b : Naming) → IsNaming behind a → IsNaming behind b → a ≡ b
  naming_once behind (named n r) (named m s) p q =
      let both = first_found (word n) (word m) r s (next_once false behind (found (word n) r) (found (word m) s) p.0 q.0) in
      let name : n ≡ m = words_same n m both.0 in
      λ i. named (name i) (both.1 i)
  naming_once behind (named n r) unnamed p q = absurd (name_not_none behind n r p.0 p.1 q)
  naming_once behind (named n r) broken p q = absurd (q.1 (word n) r p.0)
  naming_once behind unnamed (named m s) p q = absurd (name_not_none behind m s q.0 q.1 p)
  naming_once behind unnamed unnamed p q = refl
  naming_once behind unnamed broken p q = absurd (none_not_broken behind p q)
  naming_once behind broken (named m s) p q = absurd (p.1 (word m) s q.0)
  naming_once behind broken unnamed p q = absurd (none_not_broken behind q p)
  naming_once behind broken broken p q = refl

-- Moves.

pub data Move : Type 0 where
  stops : Result (List LexiconAt) FaultAt → Move
  goes : Stage → Known → List ℕ → Move

abbrev pub IsFlagSo : List Letter → Bool → Type 0
IsFlagSo letters true = IsFlag (text_of letters)
IsFlagSo letters false = IsFlag (text_of letters) → ⊥

flag_once : (letters : List Letter) (a b : Bool) → IsFlagSo letters a → IsFlagSo letters b → a ≡ b
flag_once letters true true p q = refl
flag_once letters true false p q = absurd (q p)
flag_once letters false true p q = absurd (p q)
flag_once letters false false p q = refl

module _ (lines : ℕ) (known : Known) (text : List ℕ) where
  abbrev pub fault_here : Why → Move
  fault_here reason = stops (fault_at (line_of lines text) reason)

  abbrev pub symbol_move : List Letter → List ℕ → Bool → Move
  symbol_move letters rest true = goes InSymbols known rest
  symbol_move letters rest false = goes InSymbols (with_symbol known (line_of lines text) (characters_of letters) (text_of letters)) rest

  abbrev pub name_move : List ℕ → Naming → Move
  name_move behind (named name rest) =
      cond (is_among known.names (text_of name)) (fault_here why.Duplicate) (goes InLexicon (with_lexicon known (line_of lines text) (text_of name)) rest)
  name_move behind unnamed = fault_here why.Statement
  name_move behind broken = stops (fault_at (line_of lines behind) why.Token)

  abbrev pub limited_move : Form Raw → Option (List ℕ) → List ℕ → Option Why → Move
  limited_move form next rest None = goes InLexicon (with_entry known (line_of lines text) form next) rest
  limited_move form next rest (Some reason) = fault_here reason

  abbrev pub entry_move : Entry → Move
  entry_move (accepted form next rest) = limited_move form next rest (limit_of known form)
  entry_move (refused fault) = stops (Err fault)

  abbrev pub symbols_move : Stage → List ℕ → Move
  symbols_move Beginning rest = goes InSymbols known rest
  symbols_move InSymbols rest = fault_here why.Statement
  symbols_move InLexicon rest = fault_here why.Statement

  abbrev pub KeywordMoves : Stage → Keyword → List ℕ → Move → Type 0
  KeywordMoves stage keyword.Symbols rest move = move ≡ symbols_move stage rest
  KeywordMoves stage keyword.Lexicon behind move = (n : Naming) × IsNaming lines behind n × (move ≡ name_move behind n)
  KeywordMoves stage keyword.End rest move = move ≡ stops (closed known)

  abbrev pub SymbolMoves : Token → List ℕ → Move → Type 0
  SymbolMoves (word letters) rest move = (is_flag : Bool) × IsFlagSo letters is_flag × (move ≡ symbol_move letters rest is_flag)
  SymbolMoves semicolon rest move = move ≡ fault_here why.Statement
  SymbolMoves (expression e) rest move = move ≡ fault_here why.Statement

  abbrev pub OtherMoves : Stage → Token → List ℕ → Move → Type 0
  OtherMoves Beginning token rest move = move ≡ fault_here why.Statement
  OtherMoves InSymbols token rest move = SymbolMoves token rest move
  OtherMoves InLexicon token rest move = (e : Entry) × IsEntry lines known text e × (move ≡ entry_move e)

  -- a statement that begins so moves on so
  abbrev pub Moves : Stage → First → Move → Type 0
  Moves stage at_end move = move ≡ stops (closed known)
  Moves stage at_no_token move = move ≡ fault_here why.Token
  Moves stage (at_keyword k rest) move = KeywordMoves stage k rest move
  Moves stage (at_other token rest) move = OtherMoves stage token rest move

  pub record Step (stage : Stage) (move : Move) : Type 0 where
    pub first : First
    pub comes : IsNext (opens stage) text (next_of first)
    pub told : IsTold first
    pub moves : Moves stage first move

  module _ (none : HasNoFlags known.declared) where
    keyword_once : (stage : Stage) (k : Keyword) (rest : List ℕ) (a b : Move) → KeywordMoves stage k rest a → KeywordMoves stage k rest b → a ≡ b
    keyword_once stage keyword.Symbols rest a b p q = p ∙ sym q
    keyword_once stage keyword.Lexicon rest a b p q = p.2 ∙ ap (name_move rest) (naming_once lines rest p.0 q.0 p.1 q.1) ∙ sym q.2
    keyword_once stage keyword.End rest a b p q = p ∙ sym q

    symbol_once : (token : Token) (rest : List ℕ) (a b : Move) → SymbolMoves token rest a → SymbolMoves token rest b → a ≡ b
    symbol_once (word letters) rest a b p q = p.2 ∙ ap (symbol_move letters rest) (flag_once letters p.0 q.0 p.1 q.1) ∙ sym q.2
    symbol_once semicolon rest a b p q = p ∙ sym q
    symbol_once (expression e) rest a b p q = p ∙ sym q

    other_once : (stage : Stage) (token : Token) (rest : List ℕ) (a b : Move) → OtherMoves stage token rest a → OtherMoves stage token rest b → a ≡ b
    other_once Beginning token rest a b p q = p ∙ sym q
    other_once InSymbols token rest a b p q = symbol_once token rest a b p q
    other_once InLexicon token rest a b p q = p.2 ∙ ap entry_move (next_entry_once lines known text none p.0 q.0 p.1 q.1) ∙ sym q.2

    moves_once : (stage : Stage) (first : First) (a b : Move) → Moves stage first a → Moves stage first b → a ≡ b
    moves_once stage at_end a b p q = p ∙ sym q
    moves_once stage at_no_token a b p q = p ∙ sym q
    moves_once stage (at_keyword k rest) a b p q = keyword_once stage k rest a b p q
    moves_once stage (at_other token rest) a b p q = other_once stage token rest a b p q

    -- a statement moves on in one way
    pub step_once : (stage : Stage) (a b : Move) → Step stage a → Step stage b → a ≡ b
    step_once stage a b p q =
        let same : p.first ≡ q.first = first_once p.first q.first p.told q.told (next_once (opens stage) text (next_of p.first) (next_of q.first) p.comes q.comes) in
        moves_once stage q.first a b (subst (λ (f : First). Moves stage f a) same p.moves) q.moves
