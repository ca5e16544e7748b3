-- What holds of the lexicons of a text, statement by statement.
use Rattle.std.proofs.Common.{◌≡◌, ◌≢◌, ◌+◌, ◌<◌, ℕ, zero, suc, Bool, true, false, cond, List, [], ◌∷◌, ◌++◌, length, take, drop, map, codes, All, Contains, Option, None, Some, Result, Ok, Err, slice_get, refl, sym, ap, subst, ◌∙◌, inl, inr, arith}
use Rattle.std.specs.Bool.{⊤}
use Rattle.std.proofs.lemmas.List.{length-take-le, map-append}
use Rattle.std.proofs.lemmas.List.Elements.{All-nil, All-cons, All-head, All-tail, All-push}
use Rattle.std.proofs.lemmas.Str.{length-le-encodes}
use Rattle.std.specs.List.{flat_map}
use Rattle.std.specs.Str.{encode_utf8_all}
use Rattle.word_relations.specs.Words.{IsDistinct}
use Rattle.word_relations.proofs.Members.{Contains-nil_cases, Contains-cons_cases}
use Rattle.word_relations.proofs.Places.{slice_get-append_cases, Contains-from_slice_get}
use Rattle.regex_ast.specs.Terms.{Term}
use Rattle.regex_ast.specs.declared.expr.Raw.{Raw}
use Rattle.regex_ast.specs.declared.expr.Raw.TheVariants.{Quoted}
use Rattle.regex_ast.specs.declared.fault.Why.{Why}
use Rattle.regex_ast.specs.declared.fault.Why.TheVariants as why
use Rattle.regex_ast.specs.declared.lexc.Form.{Form as FormOf}
use Rattle.regex_ast.specs.declared.lexc.Form.TheVariants.{Sides, Pairs}
use Rattle.regex_ast.specs.declared.lexc.Piece.{Piece as PieceOf}
use Rattle.regex_reader.specs.Files.{FaultAt}
use Rattle.project_meaning.specs.Trees.{Form, sides, pairs, letter as letter_piece}
use Rattle.lexc_forms.specs.Forms.{CutsInto, ended, longest, one, IsWhole, symbol as whole_symbol, flag as whole_flag, IsForm, alone, is_nothing, symbol_of}
use Rattle.lexc_forms.specs.Letters.{character_of, characters_of, text_of}
use Rattle.lexc_forms.specs.declared.letters.Letter.{Letter}
use Rattle.lexc_forms.proofs.Symbols.{is_listed, not_listed}
use Rattle.lexc_tokens.specs.declared.token.Token.{Token}
use Rattle.lexc_tokens.specs.declared.token.Token.TheVariants.{Word as word, Semicolon as semicolon, Expression as expression}
use Rattle.lexc_grammar.specs.Entries.{Said, fault_at, with_form, with_expression, WordSays, EntrySays}
use Rattle.lexc_grammar.specs.Files.{Says, all_read, end_word, no_token, symbols, symbols_later, symbol, flag, stray_word, stray_end, lexicon, lexicon_again, no_name, no_token_for_name, entry, entry_too_many, entry_refused, closed, or_unknown, is_among, unknown_next, first_unknown}
use Rattle.lexc_grammar.specs.Lexicons.{EntryAt, LexiconAt, Known, nothing_known, with_symbol, with_lexicon, with_entry, lexicons_of, form_of, piece_of}
use Rattle.lexc_grammar.specs.declared.statements.Ending.TheVariants.{Ended}
use Rattle.lexc_grammar.specs.declared.statements.Stage.{Stage}
use Rattle.lexc_reader.specs.Sound.{PieceIsSound, FormIsSound, GoesOnIn, AreSound, LexiconsAreSound}

-- Lists.

all_front : {X : Type 0} (P : X → Type 0) (xs ys : List X) → All P (xs ++ ys) → All P xs
all_front P [] ys all = All-nil P
all_front P (x ∷ xs) ys all = All-cons P x xs (All-head P x (xs ++ ys) all) (all_front P xs ys (All-tail P x (xs ++ ys) all))

all_back : {X : Type 0} (P : X → Type 0) (xs ys : List X) → All P (xs ++ ys) → All P ys
all_back P [] ys all = all
all_back P (x ∷ xs) ys all = all_back P xs ys (All-tail P x (xs ++ ys) all)

all_each : (P : EntryAt → Type 0) (lexicons : List LexiconAt) → All P (flat_map (λ l. l.entries) lexicons) → All (λ (l : LexiconAt). All P l.entries) lexicons
all_each P [] all = All-nil (λ (l : LexiconAt). All P l.entries)
all_each P (l ∷ ls) all =
    All-cons (λ (m : LexiconAt). All P m.entries) l ls (all_front P l.entries (flat_map (λ m. m.entries) ls) all) (all_each P ls (all_back P l.entries (flat_map (λ m. m.entries) ls) all))

-- a text that is new keeps texts distinct
distinct_more : (xs : List (List ℕ)) (x : List ℕ) → IsDistinct xs → (Contains xs x → ⊥) → IsDistinct (xs ++ x ∷ [])
distinct_more xs x distinct new i j y at other =
    elim (slice_get-append_cases xs (x ∷ []) i y at) as (λ _. i ≡ j) [
      | inl a ↦ elim (slice_get-append_cases xs (x ∷ []) j y other) as (λ _. i ≡ j) [
        | inl b ↦ distinct i j y a b
        | inr b ↦ absurd (new (subst (Contains xs) (sym (last b.0 b.2)) (Contains-from_slice_get xs i y a)))
      ]
      | inr a ↦ elim (slice_get-append_cases xs (x ∷ []) j y other) as (λ _. i ≡ j) [
        | inl b ↦ absurd (new (subst (Contains xs) (sym (last a.0 a.2)) (Contains-from_slice_get xs j y b)))
        | inr b ↦ a.1 ∙ ap (λ k. k + length xs) (place a.0 a.2 ∙ sym (place b.0 b.2)) ∙ sym b.1
      ]
    ]
  where
    last : (k : ℕ) → slice_get (x ∷ []) k ≡ Some y → x ≡ y
    last k e = elim (Contains-cons_cases x [] y (Contains-from_slice_get (x ∷ []) k y e)) as (λ _. x ≡ y) [ inl h ↦ h | inr none ↦ absurd (Contains-nil_cases y none) ]

    place : (k : ℕ) → slice_get (x ∷ []) k ≡ Some y → k ≡ 0
    place zero e = refl
    place (suc k) e = let clash : None ≡ Some y = e in absurd (cc)

-- Texts that aren't empty.

encoded_some : (characters : List ℕ) → 0 < length characters → 0 < length (encode_utf8_all characters)
encoded_some characters some = omega (arith, some, length-le-encodes characters)

text_some : (letters : List Letter) → letters ≢ [] → 0 < length (text_of letters)
text_some [] some = absurd (some refl)
text_some (l ∷ ls) some = encoded_some (character_of l ∷ characters_of ls) (omega arith)

-- Forms.

whole_sound : (declared : List (List ℕ)) (characters : List ℕ) (piece : PieceOf Raw) → 0 < length characters → IsWhole declared characters piece → PieceIsSound (piece_of piece)
whole_sound declared characters piece some (whole_symbol listed) = encoded_some characters some
whole_sound declared characters piece some (whole_flag f is) = (is.feature, is.value)

alone_sound : (letter : Letter) (pieces : List (PieceOf Raw)) → All PieceIsSound (map piece_of pieces) → All PieceIsSound (map piece_of (alone letter ++ pieces))
alone_sound letter pieces rest = by (is_nothing letter)
  where
    by : (nothing : Bool) → All PieceIsSound (map piece_of (cond nothing [] (symbol_of (character_of letter ∷ []) ∷ []) ++ pieces))
    by true = rest
    by false = All-cons PieceIsSound (piece_of (symbol_of (character_of letter ∷ []))) (map piece_of pieces) (encoded_some (character_of letter ∷ []) (omega arith)) rest

cuts_sound : (declared : List (List ℕ)) (letters : List Letter) (pieces : List (PieceOf Raw)) → CutsInto declared letters pieces → All PieceIsSound (map piece_of pieces)
cuts_sound declared letters pieces ended = All-nil PieceIsSound
cuts_sound declared letters pieces (longest ls n piece more is cuts) =
    All-cons PieceIsSound (piece_of piece) (map piece_of more)
    (whole_sound declared (take n (characters_of ls)) piece (omega (arith, is.some, is.within, length-take-le n (characters_of ls) is.within)) is.whole)
    (cuts_sound declared (drop n ls) more cuts)
cuts_sound declared letters pieces (one letter ls more none cuts) = alone_sound letter more (cuts_sound declared ls more cuts)

word_sound : (declared : List (List ℕ)) (line : ℕ) (letters : List Letter) (form : Form Raw) → WordSays declared line letters (Ok form) → FormIsSound form
word_sound declared line letters form says = subst FormIsSound (sym says.2) (by says.0 says.1)
  where
    by : (f : FormOf Raw) → IsForm declared letters f → FormIsSound (form_of f)
    by (Sides upper lower) is = (cuts_sound declared is.0 upper.items is.3, cuts_sound declared is.1 lower.items is.4)
    by (Pairs e) is = absurd is

-- Entries.

abbrev form_said : Form Raw → Said → Form Raw
form_said other (Ok x) = x.0
form_said other (Err found) = other

form_kept : (line : ℕ) (form : Result (Form Raw) FaultAt) (more : List Token) (said : Form Raw) (next : Option (List ℕ)) → ◌≡◌ {A = Said} (Ok (said, next)) (with_form line form more Ended) → form ≡ Ok said
form_kept line form [] said next is = absurd cc
form_kept line (Ok form) (word letters ∷ []) said next is = ap Ok (sym (ap (form_said said) is))
form_kept line (Err found) (word letters ∷ []) said next is = absurd cc
form_kept line form (word letters ∷ t ∷ ts) said next is = absurd cc
form_kept line form (semicolon ∷ ts) said next is = absurd cc
form_kept line form (expression e ∷ ts) said next is = absurd cc

no_form : (line : ℕ) (found : FaultAt) (more : List Token) (said : Form Raw) (next : Option (List ℕ)) → ◌≡◌ {A = Said} (Ok (said, next)) (with_form line (Err found) more Ended) → ⊥
no_form line found more said next is = let same : Err found ≡ Ok said = form_kept line (Err found) more said next is in cc

no_expression : (line at : ℕ) (reason : Why) (more : List Token) (said : Form Raw) (next : Option (List ℕ)) → ◌≡◌ {A = Said} (Ok (said, next)) (with_expression line (fault_at at reason) more Ended) → ⊥
no_expression line at why.Token more said next is = cc
no_expression line at why.LimitNesting more said next is = cc
no_expression line at reason more said next is = no_form line (record { line = at; why = reason }) more said next is

entry_sound : (declared : List (List ℕ)) (line : ℕ) (tokens : List Token) (form : Form Raw) (next : Option (List ℕ)) → EntrySays declared line tokens Ended (Ok (form, next)) → FormIsSound form
entry_sound declared line [] form next says = absurd cc
entry_sound declared line (word letters ∷ []) form next says = bare (form_kept line (Ok (sides [] [])) (word letters ∷ []) form next says)
  where
    bare : ◌≡◌ {A = Result (Form Raw) FaultAt} (Ok (sides [] [])) (Ok form) → FormIsSound form
    bare same = let is : sides [] [] ≡ form = cc in subst FormIsSound is (All-nil PieceIsSound, All-nil PieceIsSound)
entry_sound declared line (word letters ∷ t ∷ ts) form next says =
    word_sound declared line letters form (subst (WordSays declared line letters) (form_kept line says.0 (t ∷ ts) form next says.2) says.1)
entry_sound declared line (expression e ∷ more) form next says = by says.0 says.2
  where
    by : (read : Result (Term Raw) FaultAt) → ◌≡◌ {A = Said} (Ok (form, next)) (with_expression line read more Ended) → FormIsSound form
    by (Ok t) is = paired t (form_kept line (Ok (pairs t)) more form next is)
      where
        paired : (t : Term Raw) → ◌≡◌ {A = Result (Form Raw) FaultAt} (Ok (pairs t)) (Ok form) → FormIsSound form
        paired t same = let is : pairs t ≡ form = cc in subst FormIsSound is tt
    by (Err found) is = absurd (no_expression line found.line found.why more form next is)
entry_sound declared line (semicolon ∷ more) form next says = absurd says

-- What is known.

record IsSoundSoFar (known : Known) : Type 0 where
  names : map (λ l. l.name) known.finished ++ known.current.name ∷ [] ≡ [] ∷ known.names
  distinct : IsDistinct ([] ∷ known.names)
  finished : All (λ (l : LexiconAt). All (λ e. FormIsSound e.entry.form) l.entries) known.finished
  current : All (λ e. FormIsSound e.entry.form) known.current.entries

at_first : IsSoundSoFar nothing_known
at_first = record {
  names = refl;
  distinct = distinct_more [] [] (λ i j x at other. absurd (none_at i x at)) (Contains-nil_cases []);
  finished = All-nil (λ (l : LexiconAt). All (λ e. FormIsSound e.entry.form) l.entries);
  current = All-nil (λ (e : EntryAt). FormIsSound e.entry.form);
}
  where
    none_at : (i : ℕ) (x : List ℕ) → slice_get [] i ≡ Some x → ⊥
    none_at i x at = cc

module _ (known : Known) (so_far : IsSoundSoFar known) (line : ℕ) where
  symbol_more : (characters : List ℕ) (letters : List Letter) → letters ≢ [] → IsSoundSoFar (with_symbol known line characters (text_of letters))
  symbol_more characters letters some = record {
    names = so_far.names;
    distinct = so_far.distinct;
    finished = so_far.finished;
    current = All-push (λ (e : EntryAt). FormIsSound e.entry.form) known.current.entries
        (record { line = line; entry = record { form = sides (letter_piece (Quoted (text_of letters)) ∷ []) (letter_piece (Quoted (text_of letters)) ∷ []); next = None } })
        so_far.current (one_piece, one_piece);
  }
    where
      one_piece : All PieceIsSound (letter_piece (Quoted (text_of letters)) ∷ [])
      one_piece = All-cons PieceIsSound (letter_piece (Quoted (text_of letters))) [] (text_some letters some) (All-nil PieceIsSound)

  lexicon_more : (letters : List Letter) → letters ≢ [] → is_among known.names (text_of letters) ≡ false → IsSoundSoFar (with_lexicon known line (text_of letters))
  lexicon_more letters some absent = record {
    names = ap (λ (z : List (List ℕ)). z ++ text_of letters ∷ []) (map-append (λ (l : LexiconAt). l.name) known.finished (known.current ∷ []) ∙ so_far.names);
    distinct = distinct_more ([] ∷ known.names) (text_of letters) so_far.distinct new;
    finished = All-push (λ (l : LexiconAt). All (λ e. FormIsSound e.entry.form) l.entries) known.finished known.current so_far.finished so_far.current;
    current = All-nil (λ (e : EntryAt). FormIsSound e.entry.form);
  }
    where
      new : Contains ([] ∷ known.names) (text_of letters) → ⊥
      new among = elim (Contains-cons_cases [] known.names (text_of letters) among) as (λ _. ⊥) [
        | inl same ↦ absurd (omega (arith, text_some letters some, ap length same))
        | inr others ↦ not_listed known.names (text_of letters) absent others
      ]

  entry_more : (tokens : List Token) (at : ℕ) (form : Form Raw) (next : Option (List ℕ)) → EntrySays known.declared at tokens Ended (Ok (form, next)) → IsSoundSoFar (with_entry known line form next)
  entry_more tokens at form next says = record {
    names = so_far.names;
    distinct = so_far.distinct;
    finished = so_far.finished;
    current = All-push (λ (e : EntryAt). FormIsSound e.entry.form) known.current.entries (record { line = line; entry = record { form = form; next = next } })
        so_far.current (entry_sound known.declared at tokens form next says);
  }

-- Behind all statements.

known_next : (names : List (List ℕ)) (next : Option (List ℕ)) → unknown_next names next ≡ false → GoesOnIn names next
known_next names None is = tt
known_next names (Some name) is = is_listed names name (by (is_among names name) is)
  where
    by : (there : Bool) → cond there false true ≡ false → there ≡ true
    by true is = refl
    by false is = absurd cc

all_known : (names : List (List ℕ)) (entries : List EntryAt) → first_unknown names entries ≡ None → All (λ (e : EntryAt). GoesOnIn names e.entry.next) entries
all_known names [] none = All-nil (λ (e : EntryAt). GoesOnIn names e.entry.next)
all_known names (e ∷ entries) none = by (unknown_next names e.entry.next) refl none (all_known names entries)
  where
    by : (unknown : Bool) → unknown_next names e.entry.next ≡ unknown → cond unknown (Some e.line) (first_unknown names entries) ≡ None
        → (first_unknown names entries ≡ None → All (λ (e : EntryAt). GoesOnIn names e.entry.next) entries) → All (λ (e : EntryAt). GoesOnIn names e.entry.next) (e ∷ entries)
    by true is none later = absurd cc
    by false is none later = All-cons (λ (e : EntryAt). GoesOnIn names e.entry.next) e entries (known_next names e.entry.next is) (later none)

abbrev AnswerIsSound : Result (List LexiconAt) FaultAt → Type 0
AnswerIsSound (Ok lexicons) = AreSound lexicons
AnswerIsSound (Err found) = ⊤

closed_sound : (known : Known) → IsSoundSoFar known → AnswerIsSound (closed known)
closed_sound known so_far = by (is_among known.names (codes "Root")) refl (first_unknown known.names (flat_map (λ l. l.entries) (lexicons_of known))) refl
  where
    by : (there : Bool) → is_among known.names (codes "Root") ≡ there → (found : Option ℕ) → first_unknown known.names (flat_map (λ l. l.entries) (lexicons_of known)) ≡ found
        → AnswerIsSound (cond there (or_unknown (lexicons_of known) found) (fault_at 0 why.UnknownLexicon))
    by false is found none = tt
    by true is (Some line) none = tt
    by true is None none = record {
      declared = known.names;
      names = map-append (λ (l : LexiconAt). l.name) known.finished (known.current ∷ []) ∙ so_far.names;
      distinct = so_far.distinct;
      root = is_listed known.names (codes "Root") is;
      forms = All-push (λ (l : LexiconAt). All (λ e. FormIsSound e.entry.form) l.entries) known.finished known.current so_far.finished so_far.current;
      nexts = all_each (λ (e : EntryAt). GoesOnIn known.names e.entry.next) (lexicons_of known) (all_known known.names (flat_map (λ l. l.entries) (lexicons_of known)) none);
    }

says_sound : (lines : ℕ) (stage : Stage) (known : Known) (text : List ℕ) (answer : Result (List LexiconAt) FaultAt) → Says lines stage known text answer → IsSoundSoFar known → AnswerIsSound answer
says_sound lines stage known text answer (all_read s k t none) so_far = closed_sound k so_far
says_sound lines stage known text answer (end_word s k t rest follows) so_far = closed_sound k so_far
says_sound lines stage known text answer (no_token s k t none) so_far = tt
says_sound lines stage known text answer (symbols k t rest a follows says) so_far = says_sound lines _ k rest a says so_far
says_sound lines stage known text answer (symbols_later s k t rest late follows) so_far = tt
says_sound lines stage known text answer (symbol k t rest letters a follows none no_flag says) so_far = says_sound lines _ _ rest a says (symbol_more k so_far _ _ letters follows.0)
says_sound lines stage known text answer (flag k t rest letters a follows none is says) so_far = says_sound lines _ k rest a says so_far
says_sound lines stage known text answer (stray_word k t rest letters follows none) so_far = tt
says_sound lines stage known text answer (stray_end s k t rest other follows) so_far = tt
says_sound lines stage known text answer (lexicon s k t behind rest name a header follows no_hash absent says) so_far = says_sound lines _ _ rest a says (lexicon_more k so_far _ name follows.0 absent)
says_sound lines stage known text answer (lexicon_again s k t behind rest name header follows no_hash there) so_far = tt
says_sound lines stage known text answer (no_name s k t behind header none) so_far = tt
says_sound lines stage known text answer (no_token_for_name s k t behind header none) so_far = tt
says_sound lines stage known text answer (entry k t rest tokens form next a some no_word has says_entry fits says) so_far = says_sound lines _ _ rest a says (entry_more k so_far _ tokens _ form next says_entry)
says_sound lines stage known text answer (entry_too_many k t rest tokens form next reason some no_word has says_entry limit) so_far = tt
says_sound lines stage known text answer (entry_refused k t rest tokens ending found some no_word has says_entry) so_far = tt

pub sound : LexiconsAreSound
sound text lexicons says = says_sound _ _ nothing_known _ (Ok lexicons) says at_first
