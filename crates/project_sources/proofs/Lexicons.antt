-- The lexicons of lexc texts are compiled: each piece of a word is a flag or a symbol with a text, and each expression is one that is
-- compiled.
use Rattle.std.proofs.Common.{◌≢◌, ◌<◌, ◌≤◌, ℕ, Bool, true, false, cond, IsTrue, codes, List, [], ◌∷◌, length, map, take, drop, All, Option, None, Some, Result, Ok, Err, encode_utf8_all, refl, sym, subst, arith}
use Rattle.std.proofs.lemmas.List.Elements.{All-append, All-cons, All-nil, All-push, All-map, All-weaker}
use Rattle.std.proofs.lemmas.Str.{length-le-encodes}
use Rattle.std.specs.List.{flat_map}
use Rattle.regex_ast.specs.declared.expr.Raw.{Raw}
use Rattle.regex_ast.specs.declared.fault.Why.{Why}
use Rattle.regex_ast.specs.declared.fault.Why.TheVariants as why
use Rattle.regex_ast.specs.declared.lexc.Piece.{Piece as PieceOf}
use Rattle.regex_ast.specs.declared.lexc.Form.{Form as FormOf}
use Rattle.regex_ast.specs.declared.lexc.Form.TheVariants.{Sides, Pairs}
use Rattle.regex_reader.specs.Files.{FaultAt}
use Rattle.project_meaning.specs.Trees.{Piece, letter, Form, sides, pairs, Lexicon}
use Rattle.project_meaning.specs.Leaves.{symbol, resolved_piece, resolved_form, resolved_entry, resolved_lexicon}
use Rattle.lexc_forms.specs.Letters.{character_of, characters_of, text_of}
use Rattle.lexc_forms.specs.declared.letters.Letter.{Letter}
use Rattle.lexc_forms.specs.Forms.{IsWhole, CutsInto, IsForm, alone, is_nothing, symbol_of}
use Rattle.lexc_tokens.specs.declared.token.Token.{Token}
use Rattle.lexc_tokens.specs.declared.token.Token.TheVariants.{Word as word, Semicolon as semicolon, Expression as expression}
use Rattle.lexc_grammar.specs.Entries.{Said, fault_at, with_next, with_form, with_expression, WordSays, EntrySays}
use Rattle.lexc_grammar.specs.Files.{Says, ReadsAs, closed, or_unknown, line_of, is_among, first_unknown}
use Rattle.lexc_grammar.specs.Lexicons.{EntryAt, LexiconAt, Known, nothing_known, without_lines, form_of, piece_of, with_symbol, with_lexicon, with_entry, lexicons_of}
use Rattle.lexc_grammar.specs.declared.statements.Stage.{Stage}
use Rattle.lexc_grammar.specs.declared.statements.Stage.TheVariants.{Beginning}
use Rattle.lexc_grammar.specs.declared.statements.Ending.{Ending}
use Rattle.lexc_grammar.specs.declared.statements.Ending.TheVariants.{Ended, Unended, Broken}
use Rattle.project_sources.specs.Built.{PieceIsBuiltBy, FormIsBuiltBy, LexiconIsBuiltBy}
use Rattle.project_sources.specs.Built.{is_built_leaf, is_built_letter}
use Rattle.project_sources.specs.BuiltLaws.{LexiconsAreBuilt}
use Rattle.project_sources.proofs.Expressions.{expression_compiled}

-- Pieces.

abbrev IsBuiltPiece : PieceOf Raw → Type 0
IsBuiltPiece piece = PieceIsBuiltBy is_built_letter (resolved_piece (piece_of piece))

text_built : (text : List ℕ) → 0 < length text → IsTrue (is_built_letter (symbol text))
text_built [] some = absurd (omega (arith, some))
text_built (b ∷ bs) some = refl

symbol_built : (characters : List ℕ) → 0 < length characters → IsTrue (is_built_letter (symbol (encode_utf8_all characters)))
symbol_built characters some = text_built (encode_utf8_all characters) (omega (arith, some, length-le-encodes characters))

taken : (n : ℕ) (characters : List ℕ) → 0 < n → n ≤ length characters → 0 < length (take n characters)
taken n characters some within = grind arith

whole_built : (declared : List (List ℕ)) (characters : List ℕ) (piece : PieceOf Raw) → 0 < length characters → IsWhole declared characters piece → IsBuiltPiece piece
whole_built declared characters piece some (IsWhole.symbol listed) = symbol_built characters some
whole_built declared characters piece some (IsWhole.flag f is) = tt

alone_built : (l : Letter) → All IsBuiltPiece (alone l)
alone_built l = by (is_nothing l)
  where
    by : (nothing : Bool) → All IsBuiltPiece (cond nothing [] (symbol_of (character_of l ∷ []) ∷ []))
    by true = All-nil IsBuiltPiece
    by false = All-cons IsBuiltPiece (symbol_of (character_of l ∷ [])) [] (symbol_built (character_of l ∷ []) (omega arith)) (All-nil IsBuiltPiece)

cut_built : (declared : List (List ℕ)) (letters : List Letter) (pieces : List (PieceOf Raw)) → CutsInto declared letters pieces → All IsBuiltPiece pieces
cut_built declared letters pieces CutsInto.ended = All-nil IsBuiltPiece
cut_built declared letters pieces (CutsInto.longest all n piece more is cuts) =
    All-cons IsBuiltPiece piece more (whole_built declared (take n (characters_of all)) piece (taken n (characters_of all) is.some is.within) is.whole) (cut_built declared (drop n all) more cuts)
cut_built declared letters pieces (CutsInto.one l all more none cuts) = All-append IsBuiltPiece (alone l) more (alone_built l) (cut_built declared all more cuts)

module _ (names : List (List ℕ)) where
  -- Forms.

  abbrev IsBuiltForm : Form Raw → Type 0
  IsBuiltForm form = FormIsBuiltBy is_built_leaf is_built_letter (resolved_form names form)

  side_built : (pieces : List (PieceOf Raw)) → All IsBuiltPiece pieces → All (PieceIsBuiltBy is_built_letter) (map resolved_piece (map piece_of pieces))
  side_built pieces built =
      All-map (PieceIsBuiltBy is_built_letter) resolved_piece (map piece_of pieces) (All-map (λ (p : Piece Raw). PieceIsBuiltBy is_built_letter (resolved_piece p)) piece_of pieces built)

  word_built : (declared : List (List ℕ)) (letters : List Letter) (f : FormOf Raw) → IsForm declared letters f → IsBuiltForm (form_of f)
  word_built declared letters (Sides upper lower) (up, low, split, above, below) = (side_built upper.items (cut_built declared up upper.items above), side_built lower.items (cut_built declared low lower.items below))
  word_built declared letters (Pairs e) is = absurd is

  nothing_built : IsBuiltForm (sides [] [])
  nothing_built = (All-nil (PieceIsBuiltBy is_built_letter), All-nil (PieceIsBuiltBy is_built_letter))

  -- Entries.

  abbrev IsBuiltSaid : Said → Type 0
  IsBuiltSaid (Ok x) = IsBuiltForm x.0
  IsBuiltSaid (Err found) = Unit {0}

  abbrev IsBuiltResult : Result (Form Raw) FaultAt → Type 0
  IsBuiltResult (Ok form) = IsBuiltForm form
  IsBuiltResult (Err found) = Unit {0}

  next_built : (form : Result (Form Raw) FaultAt) (next : List Letter) → IsBuiltResult form → IsBuiltSaid (with_next form next)
  next_built (Ok form) next built = built
  next_built (Err found) next built = tt

  form_built : (line : ℕ) (form : Result (Form Raw) FaultAt) (more : List Token) (ending : Ending) → IsBuiltResult form → IsBuiltSaid (with_form line form more ending)
  form_built line form more (Broken at) built = tt
  form_built line form more Unended built = tt
  form_built line form [] Ended built = tt
  form_built line form (word next ∷ []) Ended built = next_built form next built
  form_built line form (word next ∷ t ∷ more) Ended built = tt
  form_built line form (semicolon ∷ more) Ended built = tt
  form_built line form (expression e ∷ more) Ended built = tt

  fault_built : (line at : ℕ) (reason : Why) (more : List Token) (ending : Ending) → IsBuiltSaid (with_expression line (Err (record { line = at; why = reason })) more ending)
  fault_built line at why.Token more ending = tt
  fault_built line at why.LimitNesting more (Broken there) = tt
  fault_built line at why.LimitNesting more Ended = tt
  fault_built line at why.LimitNesting more Unended = tt
  fault_built line at reason more ending = form_built line (Err (record { line = at; why = reason })) more ending tt

  entry_built : (declared : List (List ℕ)) (line : ℕ) (tokens : List Token) (ending : Ending) (said : Said) → EntrySays declared line tokens ending said → IsBuiltSaid said
  entry_built declared line [] ending said says = subst IsBuiltSaid (sym says) (form_built line (Ok (sides [] [])) [] ending nothing_built)
  entry_built declared line (word next ∷ []) ending said says = subst IsBuiltSaid (sym says) (form_built line (Ok (sides [] [])) (word next ∷ []) ending nothing_built)
  entry_built declared line (word letters ∷ t ∷ more) ending said (form, says, is) = subst IsBuiltSaid (sym is) (form_built line form (t ∷ more) ending (by form says))
    where
      by : (form : Result (Form Raw) FaultAt) → WordSays declared line letters form → IsBuiltResult form
      by (Ok form) (f, is_form, same) = subst IsBuiltForm (sym same) (word_built declared letters f is_form)
      by (Err found) says = tt
  entry_built declared line (expression e ∷ more) ending said (Ok t, reads, is) =
      subst IsBuiltSaid (sym is) (form_built line (Ok (pairs t)) more ending (expression_compiled names e line t reads))
  entry_built declared line (expression e ∷ more) ending said (Err found, reads, is) = subst IsBuiltSaid (sym is) (fault_built line found.line found.why more ending)
  entry_built declared line (semicolon ∷ more) ending said says = absurd says

  -- What is known behind statements.

  abbrev IsBuiltEntry : EntryAt → Type 0
  IsBuiltEntry e = IsBuiltForm e.entry.form

  abbrev IsBuiltLexicon : LexiconAt → Type 0
  IsBuiltLexicon l = All IsBuiltEntry l.entries

  abbrev IsBuiltKnown : Known → Type 0
  IsBuiltKnown known = All IsBuiltLexicon known.finished × IsBuiltLexicon known.current

  abbrev IsBuiltAnswer : Result (List LexiconAt) FaultAt → Type 0
  IsBuiltAnswer (Ok lexicons) = All IsBuiltLexicon lexicons
  IsBuiltAnswer (Err found) = Unit {0}

  all_built : (known : Known) → IsBuiltKnown known → All IsBuiltLexicon (lexicons_of known)
  all_built known built = All-push IsBuiltLexicon known.finished known.current built.0 built.1

  closed_built : (known : Known) → IsBuiltKnown known → IsBuiltAnswer (closed known)
  closed_built known built = by (is_among known.names (codes "Root")) (first_unknown known.names (flat_map (λ l. l.entries) (lexicons_of known)))
    where
      each : (o : Option ℕ) → IsBuiltAnswer (or_unknown (lexicons_of known) o)
      each None = all_built known built
      each (Some line) = tt

      by : (root : Bool) (o : Option ℕ) → IsBuiltAnswer (cond root (or_unknown (lexicons_of known) o) (fault_at 0 why.UnknownLexicon))
      by true o = each o
      by false o = tt

  symbol_known : (known : Known) (line : ℕ) (characters : List ℕ) (letters : List Letter) → letters ≢ [] → IsBuiltKnown known → IsBuiltKnown (with_symbol known line characters (text_of letters))
  symbol_known known line characters letters some built = (built.0, All-push IsBuiltEntry known.current.entries _ built.1 (side, side))
    where
      count : (ls : List Letter) → ls ≢ [] → 0 < length (characters_of ls)
      count [] none = absurd (none refl)
      count (l ∷ ls) none = omega arith

      side : All (PieceIsBuiltBy is_built_letter) (letter (symbol (text_of letters)) ∷ [])
      side =
          All-cons (PieceIsBuiltBy is_built_letter) (letter (symbol (text_of letters))) [] (symbol_built (characters_of letters) (count letters some)) (All-nil (PieceIsBuiltBy is_built_letter))

  lexicon_known : (known : Known) (line : ℕ) (name : List ℕ) → IsBuiltKnown known → IsBuiltKnown (with_lexicon known line name)
  lexicon_known known line name built = (all_built known built, All-nil IsBuiltEntry)

  entry_known : (known : Known) (line : ℕ) (form : Form Raw) (next : Option (List ℕ)) → IsBuiltForm form → IsBuiltKnown known → IsBuiltKnown (with_entry known line form next)
  entry_known known line form next here built = (built.0, All-push IsBuiltEntry known.current.entries _ built.1 here)

  -- Statements.

  said_built : (lines : ℕ) (stage : Stage) (known : Known) (text : List ℕ) (answer : Result (List LexiconAt) FaultAt) → Says lines stage known text answer → IsBuiltKnown known → IsBuiltAnswer answer
  said_built lines stage known text answer (Says.all_read s k t none) built = closed_built k built
  said_built lines stage known text answer (Says.end_word s k t rest follows) built = closed_built k built
  said_built lines stage known text answer (Says.no_token s k t none) built = tt
  said_built lines stage known text answer (Says.symbols k t rest a follows says) built = said_built lines _ k rest a says built
  said_built lines stage known text answer (Says.symbols_later s k t rest late follows) built = tt
  said_built lines stage known text answer (Says.symbol k t rest letters a follows none no_flag says) built =
      said_built lines _ (with_symbol k (line_of lines t) (characters_of letters) (text_of letters)) rest a says (symbol_known k (line_of lines t) (characters_of letters) letters follows.0 built)
  said_built lines stage known text answer (Says.flag k t rest letters a follows none is says) built = said_built lines _ k rest a says built
  said_built lines stage known text answer (Says.stray_word k t rest letters follows none) built = tt
  said_built lines stage known text answer (Says.stray_end s k t rest outside follows) built = tt
  said_built lines stage known text answer (Says.lexicon s k t behind rest name a header follows no_hash absent says) built =
      said_built lines _ (with_lexicon k (line_of lines t) (text_of name)) rest a says (lexicon_known k (line_of lines t) (text_of name) built)
  said_built lines stage known text answer (Says.lexicon_again s k t behind rest name header follows no_hash there) built = tt
  said_built lines stage known text answer (Says.no_name s k t behind header none) built = tt
  said_built lines stage known text answer (Says.no_token_for_name s k t behind header none) built = tt
  said_built lines stage known text answer (Says.entry k t rest tokens form next a some none has says fits more) built =
      said_built lines _ (with_entry k (line_of lines t) form next) rest a more
      (entry_known k (line_of lines t) form next (entry_built k.declared (line_of lines t) tokens Ended (Ok (form, next)) says) built)
  said_built lines stage known text answer (Says.entry_too_many k t rest tokens form next reason some none has says limit) built = tt
  said_built lines stage known text answer (Says.entry_refused k t rest tokens ending fault some none has says) built = tt

  read_built : (text : List ℕ) (lexicons : List LexiconAt) → ReadsAs text (Ok lexicons) → All IsBuiltLexicon lexicons
  read_built text lexicons reads = said_built _ Beginning nothing_known _ (Ok lexicons) reads (All-nil IsBuiltLexicon, All-nil IsBuiltEntry)

  -- a lexicon without its lines, resolved
  abbrev IsBuiltHere : Lexicon Raw → Type 0
  IsBuiltHere l = LexiconIsBuiltBy is_built_leaf is_built_letter (resolved_lexicon names l)

  without_built : (l : LexiconAt) → IsBuiltLexicon l → IsBuiltHere (without_lines l)
  without_built l built =
      All-map (λ entry. FormIsBuiltBy is_built_leaf is_built_letter entry.form) (resolved_entry names) (map (λ e. e.entry) l.entries)
      (All-map (λ entry. IsBuiltForm entry.form) (λ (e : EntryAt). e.entry) l.entries built)

pub lexicons_built : LexiconsAreBuilt
lexicons_built text lexicons (read, reads, is) names =
    All-map (LexiconIsBuiltBy is_built_leaf is_built_letter) (resolved_lexicon names) lexicons
    (subst (All (IsBuiltHere names)) (sym is) (All-map (IsBuiltHere names) without_lines read (All-weaker (IsBuiltLexicon names) (λ l. IsBuiltHere names (without_lines l)) (without_built names) read (read_built names text read reads))))
