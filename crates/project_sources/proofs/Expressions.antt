-- The expressions of xfst texts and of entries are compiled, since no token of theirs is a run, or a symbol in braces, with an
-- empty text.
use Rattle.std.proofs.Common.{◌≡◌, ◌+◌, ℕ, Bool, true, false, cond, IsTrue, codes, List, [], ◌∷◌, ◌++◌, map, All, Result, Ok, Err, refl, sym, subst}
use Rattle.std.proofs.lemmas.Bool.{and_parts}
use Rattle.std.proofs.lemmas.List.Elements.{All-cons, All-nil, All-contains}
use Rattle.std.specs.List.{list_all, list_any}
use Rattle.std.specs.Str.{bytes_eq}
use Rattle.regex_ast.specs.Terms.{Term, empty, atom}
use Rattle.regex_ast.specs.declared.expr.Raw.{Raw}
use Rattle.regex_ast.specs.declared.expr.Raw.TheVariants.{Run as run_symbol, Quoted as quoted_symbol}
use Rattle.regex_ast.specs.declared.fault.Why.{Why}
use Rattle.regex_ast.specs.declared.fault.Why.TheVariants as why
use Rattle.regex_tokens.specs.Bytes.{is_character}
use Rattle.regex_tokens.specs.Spelling.{Piece, plain, escaped, meant, Spells}
use Rattle.regex_tokens.specs.Cuts.{Cuts, newlines}
use Rattle.regex_tokens.specs.declared.comments.Comments.{Comments}
use Rattle.regex_tokens.specs.declared.comments.Comments.TheVariants.{OfDefinitions, OfEntries}
use Rattle.regex_tokens.specs.declared.token.Ending.{Ending}
use Rattle.regex_tokens.specs.declared.token.Place.{Place}
use Rattle.regex_tokens.specs.declared.token.Token.{Token}
use Rattle.regex_tokens.specs.declared.token.Token.TheVariants.{Operator as operator, Quoted as quoted_token, Braced as braced_token, Run as run_token}
use Rattle.regex_grammar.specs.Grammar.{run_term, quoted_term, braced_term}
use Rattle.regex_reader.specs.Files.{Statement, Placed, tokens_of, places_of, IsStatement, Verdict, FaultAt, Says, ReadsAs, ExpressionSays, ReadsExpression}
use Rattle.project_meaning.specs.Leaves.{symbol, named, leaf_of}
use Rattle.project_sources.specs.Built.{is_built_leaf, is_built_letter}
use Rattle.project_sources.specs.BuiltLaws.{ExpressionsAreBuilt}
use Rattle.project_sources.proofs.Spelled.{IsBuilt, TokenIsBuilt, TokensAreBuilt, reading_built}

pub ok_same : {X E : Type 0} (x y : X) → ◌≡◌ {A = Result X E} (Ok x) (Ok y) → x ≡ y
ok_same x y e = cc

module _ (names : List (List ℕ)) where
  abbrev pub IsCompiled : Term Raw → Type 0
  IsCompiled t = IsBuilt (leaf_of names) is_built_leaf is_built_letter t

  abbrev AreCompiled : List Token → Type 0
  AreCompiled tokens = TokensAreBuilt (leaf_of names) is_built_leaf is_built_letter tokens

  -- Tokens.

  run_compiled : (b : ℕ) (bs : List ℕ) (is_escaped : Bool) → IsCompiled (run_term (b ∷ bs) is_escaped)
  run_compiled b bs true = refl
  run_compiled b bs false = by (bytes_eq (b ∷ bs) (codes "0"))
    where
      leaf : (is : Bool) → IsTrue (is_built_leaf (cond is (named (b ∷ bs)) (symbol (b ∷ bs))))
      leaf true = refl
      leaf false = refl

      by : (is : Bool) → IsCompiled (cond is empty (atom (run_symbol (b ∷ bs))))
      by true = tt
      by false = leaf (list_any (bytes_eq (b ∷ bs)) names)

  pieces_compiled : (first : Piece) (more : List Piece) (is_escaped : Bool) → IsCompiled (run_term (meant (first ∷ more)) is_escaped)
  pieces_compiled (plain b) more is_escaped = run_compiled b (meant more) is_escaped
  pieces_compiled (escaped b) more is_escaped = run_compiled b (meant more) is_escaped

  quoted_compiled : (text : List ℕ) → IsCompiled (quoted_term text)
  quoted_compiled [] = tt
  quoted_compiled (b ∷ bs) = refl

  characters_compiled : (characters : List (List ℕ)) → IsTrue (list_all is_character characters) → IsTrue (list_all is_built_letter (map (leaf_of names) (map quoted_symbol characters)))
  characters_compiled [] h = refl
  characters_compiled ([] ∷ characters) h = h
  characters_compiled ((b ∷ bs) ∷ characters) h = characters_compiled characters (and_parts (is_character (b ∷ bs)) (list_all is_character characters) h).1

  braced_compiled : (characters : List (List ℕ)) → IsTrue (list_all is_character characters) → IsCompiled (braced_term characters)
  braced_compiled [] h = tt
  braced_compiled (c ∷ characters) h = characters_compiled (c ∷ characters) h

  token_compiled : (t : Token) (bytes : List ℕ) → Spells t bytes → TokenIsBuilt (leaf_of names) is_built_leaf is_built_letter t
  token_compiled (operator o) bytes spelled = tt
  token_compiled (quoted_token text) bytes spelled = quoted_compiled text
  token_compiled (braced_token characters) bytes spelled = braced_compiled characters spelled.apart
  token_compiled (run_token r) bytes spelled = subst (λ text. IsCompiled (run_term text r.escaped)) (sym spelled.text) (pieces_compiled spelled.first spelled.more r.escaped)

  cut_compiled : (comments : Comments) (line : ℕ) (text : List ℕ) (tokens : List Token) (places : List Place) (ending : Ending) → Cuts comments line text tokens places ending → AreCompiled tokens
  cut_compiled comments line text [] places ending cut = tt
  cut_compiled comments line text (t ∷ tokens) [] ending cut = absurd cut
  cut_compiled comments line text (t ∷ tokens) (p ∷ places) ending (front, rest, first, line_is, apart_is, more) =
      (token_compiled t front first.longest.spelled, cut_compiled comments (p.line + newlines front) rest tokens places ending more)

  -- An entry's expression.

  said_expression : (line : ℕ) (tokens : List Token) (ending : Ending) (answer : Result (Term Raw) FaultAt) (t : Term Raw) → ExpressionSays line tokens ending answer → answer ≡ Ok t → AreCompiled tokens → IsCompiled t
  said_expression line tokens ending answer t (ExpressionSays.no_token at) e compiled = let clash : Err _ ≡ Ok t = e in cc
  said_expression line tokens ending answer t (ExpressionSays.deep d) e compiled = let clash : Err _ ≡ Ok t = e in cc
  said_expression line tokens ending answer t (ExpressionSays.unread d none) e compiled = let clash : Err _ ≡ Ok t = e in cc
  said_expression line tokens ending answer t (ExpressionSays.power s d is high) e compiled = let clash : Err _ ≡ Ok t = e in cc
  said_expression line tokens ending answer t (ExpressionSays.fine s d is low) e compiled =
      subst IsCompiled (ok_same s t e) (reading_built (leaf_of names) is_built_leaf is_built_letter tokens s compiled is.reads)

  pub expression_compiled : (text : List ℕ) (line : ℕ) (t : Term Raw) → ReadsExpression text line (Ok t) → IsCompiled t
  expression_compiled text line t reads =
      said_expression line reads.tokens reads.ending (Ok t) t reads.says refl (cut_compiled OfEntries line text reads.tokens reads.places reads.ending reads.cut)

  -- Statements.

  abbrev IsCompiledStatement : Statement → Type 0
  IsCompiledStatement s = IsCompiled s.term

  both_compiled : (front rest : List Placed) → AreCompiled (tokens_of (front ++ rest)) → AreCompiled (tokens_of front) × AreCompiled (tokens_of rest)
  both_compiled [] rest compiled = (tt, compiled)
  both_compiled (p ∷ front) rest compiled = let more = both_compiled front rest compiled.1 in ((compiled.0, more.0), more.1)

  statement_compiled : (placed : List Placed) (s : Statement) → IsStatement placed s → AreCompiled (tokens_of placed) → IsCompiledStatement s
  statement_compiled placed s is compiled =
      let form = is.form in
      let all = subst (λ (z : List Placed). AreCompiled (tokens_of z)) form.whole compiled in
      let inner = both_compiled is.expression (form.last ∷ []) all.1.1 in
      reading_built (leaf_of names) is_built_leaf is_built_letter (tokens_of is.expression) s.term inner.0 is.reads

  verdict_compiled : (placed : List Placed) (answer : Result Statement Why) (s : Statement) → Verdict placed answer → answer ≡ Ok s → AreCompiled (tokens_of placed) → IsCompiledStatement s
  verdict_compiled placed answer s (Verdict.deep d) e compiled = let clash : Err why.LimitNesting ≡ Ok s = e in cc
  verdict_compiled placed answer s (Verdict.unread d none) e compiled = let clash : Err why.Statement ≡ Ok s = e in cc
  verdict_compiled placed answer s (Verdict.power t d is high) e compiled = let clash : Err why.LimitPower ≡ Ok s = e in cc
  verdict_compiled placed answer s (Verdict.rule t d is low large) e compiled = let clash : Err why.LimitRule ≡ Ok s = e in cc
  verdict_compiled placed answer s (Verdict.fine t d is low small) e compiled = subst IsCompiledStatement (ok_same t s e) (statement_compiled placed t is compiled)

  abbrev IsCompiledAnswer : Result (List Statement) FaultAt → Type 0
  IsCompiledAnswer (Ok statements) = All IsCompiledStatement statements
  IsCompiledAnswer (Err found) = Unit {0}

  said_compiled : (placed : List Placed) (ending : Ending) (answer : Result (List Statement) FaultAt) → Says placed ending answer → AreCompiled (tokens_of placed) → IsCompiledAnswer answer
  said_compiled placed ending answer Says.nothing compiled = All-nil IsCompiledStatement
  said_compiled placed ending answer (Says.no_token all line none) compiled = tt
  said_compiled placed ending answer (Says.unended all reason some none verdict) compiled = tt
  said_compiled placed ending answer (Says.read one rest end s more is verdict says) compiled =
      let both = both_compiled one rest compiled in
      All-cons IsCompiledStatement s more (verdict_compiled one (Ok s) s verdict refl both.0) (said_compiled rest end (Ok more) says both.1)
  said_compiled placed ending answer (Says.later one rest end s fault is verdict says) compiled = tt
  said_compiled placed ending answer (Says.refused one rest end reason is verdict) compiled = tt

  pub statements_compiled : (text : List ℕ) (statements : List Statement) → ReadsAs text (Ok statements) → All IsCompiledStatement statements
  statements_compiled text statements reads =
      said_compiled reads.placed reads.ending (Ok statements) reads.says (cut_compiled OfDefinitions 1 text (tokens_of reads.placed) (places_of reads.placed) reads.ending reads.cut)

pub expressions_built : ExpressionsAreBuilt
expressions_built text statements reads names s among = All-contains (λ (s : Statement). IsCompiled names s.term) statements s (statements_compiled names text statements reads) among
