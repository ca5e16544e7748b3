-- A manifest with one line more.
use Rattle.std.proofs.Common.{◌≡◌, ◌≢◌, ◌==◌, ◌&&◌, ◌+◌, ℕ, zero, suc, Bool, true, false, not, List, [], ◌∷◌, ◌++◌, length, map, Option, Some, None, refl, sym, ap, subst, ◌∙◌, inl, inr, arith, append-nil, All}
use Rattle.std.specs.List.{Contains, list_all, slice_get}
use Rattle.std.proofs.lemmas.Grind.{flat_map-append}
use Rattle.std.proofs.lemmas.List.Elements.{All-append, All-cons, All-nil}
use Rattle.fsm_base.specs.Symbols.{IsSymbol}
use Rattle.word_relations.specs.Words.{IsDistinct}
use Rattle.word_relations.proofs.Members.{Contains-nil_cases, Contains-cons_cases, Contains-head}
use Rattle.word_relations.proofs.Places.{slice_get-append_cases, Contains-from_slice_get}
use Rattle.project_manifest.specs.Lines.{Line, NamesAgain, Placed, SaysLine, alphabet_line, file_in, files_in, gloss_line, keyword_of, lexc_line, require_line, said_behind, symbols_of, symbols_said, twolc_line, xfst_line}
use Rattle.project_manifest.specs.Manifests.{is_symbol_word, project_name, takes_nothing, text_of}
use Rattle.project_manifest.specs.Reading.{IsManifest}
use Rattle.project_manifest.specs.declared.keywords.Keyword.{Keyword}
use Rattle.project_manifest.specs.declared.keywords.Keyword.TheVariants.{Lexc, Twolc, Xfst, Alphabet, Require, Gloss}

-- an item that is new keeps a list distinct
distinct_more : {X : Type 0} (xs : List X) (x : X) → IsDistinct xs → (Contains xs x → ⊥) → IsDistinct (xs ++ x ∷ [])
distinct_more xs x distinct new i j y at other =
    elim (slice_get-append_cases xs (x ∷ []) i y at) as (λ _. i ≡ j) [
      | inl a ↦ elim (slice_get-append_cases xs (x ∷ []) j y other) as (λ _. i ≡ j) [
        | inl b ↦ distinct i j y a b
        | inr b ↦ absurd (new (subst (Contains xs) (sym (last b.0 b.2)) (Contains-from_slice_get xs i y a)))
      ]
      | inr a ↦ elim (slice_get-append_cases xs (x ∷ []) j y other) as (λ _. i ≡ j) [
        | inl b ↦ absurd (new (subst (Contains xs) (sym (last a.0 a.2)) (Contains-from_slice_get xs j y b)))
        | inr b ↦ a.1 ∙ ap (λ k. k + length xs) (place a.0 a.2 ∙ sym (place b.0 b.2)) ∙ sym b.1
      ]
    ]
  where
    last : (k : ℕ) → slice_get (x ∷ []) k ≡ Some y → x ≡ y
    last k e = elim (Contains-cons_cases x [] y (Contains-from_slice_get (x ∷ []) k y e)) as (λ _. x ≡ y) [ inl h ↦ h | inr none ↦ absurd (Contains-nil_cases y none) ]

    place : (k : ℕ) → slice_get (x ∷ []) k ≡ Some y → k ≡ 0
    place zero e = refl
    place (suc k) e = let clash : None ≡ Some y = e in absurd (cc)

-- the symbols that words stand for aren't empty
and_first : (a b : Bool) → (a && b) ≡ true → a ≡ true
and_first true b h = refl
and_first false b h = cc

and_second : (a b : Bool) → (a && b) ≡ true → b ≡ true
and_second true b h = h
and_second false b h = cc

not_empty : (text : List ℕ) → not (length text == 0) ≡ true → IsSymbol text
not_empty [] h = cc
not_empty (b ∷ bs) h = omega arith

symbol_is : (word : List ℕ) → is_symbol_word word ≡ true → IsSymbol (text_of word)
symbol_is word h = not_empty (text_of word) (and_first _ _ (and_second (not (takes_nothing false word)) _ h))

symbols_are : (words : List (List ℕ)) → list_all is_symbol_word words ≡ true → All IsSymbol (map text_of words)
symbols_are [] h = All-nil IsSymbol
symbols_are (word ∷ words) h = All-cons IsSymbol (text_of word) (map text_of words) (symbol_is word (and_first _ _ h)) (symbols_are words (and_second (is_symbol_word word) _ h))

-- the symbols of a line are those of its words
none_such : {symbols : List (List ℕ)} → None ≡ Some (alphabet_line symbols) → ⊥
none_such e = cc

said_symbols : (keyword : Option Keyword) (words symbols : List (List ℕ)) → said_behind keyword words ≡ Some (alphabet_line symbols) → symbols ≡ map text_of words
said_symbols None words symbols e = absurd (none_such e)
said_symbols (Some Lexc) [] symbols e = absurd (none_such e)
said_symbols (Some Lexc) (a ∷ []) symbols e = absurd (none_such e)
said_symbols (Some Lexc) (a ∷ b ∷ []) symbols e = let clash : Some (lexc_line a b) ≡ Some (alphabet_line symbols) = e in cc
said_symbols (Some Lexc) (a ∷ b ∷ c ∷ words) symbols e = absurd (none_such e)
said_symbols (Some Twolc) [] symbols e = absurd (none_such e)
said_symbols (Some Twolc) (a ∷ []) symbols e = absurd (none_such e)
said_symbols (Some Twolc) (a ∷ b ∷ []) symbols e = let clash : Some (twolc_line a b) ≡ Some (alphabet_line symbols) = e in cc
said_symbols (Some Twolc) (a ∷ b ∷ c ∷ words) symbols e = absurd (none_such e)
said_symbols (Some Xfst) [] symbols e = absurd (none_such e)
said_symbols (Some Xfst) (a ∷ []) symbols e = let clash : Some (xfst_line a) ≡ Some (alphabet_line symbols) = e in cc
said_symbols (Some Xfst) (a ∷ b ∷ words) symbols e = absurd (none_such e)
said_symbols (Some Gloss) [] symbols e = absurd (none_such e)
said_symbols (Some Gloss) (a ∷ []) symbols e = let clash : Some (gloss_line a) ≡ Some (alphabet_line symbols) = e in cc
said_symbols (Some Gloss) (a ∷ b ∷ words) symbols e = absurd (none_such e)
said_symbols (Some Require) [] symbols e = absurd (none_such e)
said_symbols (Some Require) (a ∷ words) symbols e = let clash : Some (require_line (a ∷ words)) ≡ Some (alphabet_line symbols) = e in cc
said_symbols (Some Alphabet) [] symbols e = absurd (none_such e)
said_symbols (Some Alphabet) (a ∷ words) symbols e = let same : Some (alphabet_line (map text_of (a ∷ words))) ≡ Some (alphabet_line symbols) = e in cc

line_symbols : (words symbols : List (List ℕ)) → SaysLine words (alphabet_line symbols) → All IsSymbol symbols
line_symbols [] symbols says = absurd says
line_symbols (word ∷ words) symbols (is, all) = subst (All IsSymbol) (sym (said_symbols (keyword_of word) words symbols is)) (symbols_are words all)

-- the file that a line names has another name than the manifest
line_file : (words : List (List ℕ)) (said : Line) (file : List ℕ) → SaysLine words said → file_in said ≡ file ∷ [] → file ≢ project_name
line_file [] said file says names = absurd says
line_file (word ∷ words) (lexc_line name it) file (is, fine) names = let same : it ∷ [] ≡ file ∷ [] = names in let here : it ≡ file = cc in subst (λ (f : List ℕ). f ≢ project_name) here fine.1.other
line_file (word ∷ words) (twolc_line name it) file (is, fine) names = let same : it ∷ [] ≡ file ∷ [] = names in let here : it ≡ file = cc in subst (λ (f : List ℕ). f ≢ project_name) here fine.1.other
line_file (word ∷ words) (xfst_line it) file (is, fine) names = let same : it ∷ [] ≡ file ∷ [] = names in let here : it ≡ file = cc in subst (λ (f : List ℕ). f ≢ project_name) here fine.other
line_file (word ∷ words) (gloss_line it) file (is, fine) names = let same : it ∷ [] ≡ file ∷ [] = names in let here : it ≡ file = cc in subst (λ (f : List ℕ). f ≢ project_name) here fine.other
line_file (word ∷ words) (alphabet_line symbols) file (is, fine) names = let clash : [] ≡ file ∷ [] = names in cc
line_file (word ∷ words) (require_line required) file (is, fine) names = let clash : [] ≡ file ∷ [] = names in cc

-- Lines with one more behind them.
module _ (lines : List Placed) (is : IsManifest lines) (l : Placed) where
  abbrev IsOther : List ℕ → Type 0
  IsOther file = file ≢ project_name

  files_more : files_in (lines ++ l ∷ []) ≡ files_in lines ++ file_in l.said
  files_more = flat_map-append (λ (p : Placed). file_in p.said) lines (l ∷ []) ∙ ap (λ (z : List (List ℕ)). files_in lines ++ z) (append-nil (file_in l.said))

  symbols_more : symbols_of (lines ++ l ∷ []) ≡ symbols_of lines ++ symbols_said l.said
  symbols_more = flat_map-append (λ (p : Placed). symbols_said p.said) lines (l ∷ []) ∙ ap (λ (z : List (List ℕ)). symbols_of lines ++ z) (append-nil (symbols_said l.said))

  with_file : (file : List ℕ) → file_in l.said ≡ file ∷ [] → symbols_said l.said ≡ [] → (Contains (files_in lines) file → ⊥) → file ≢ project_name → IsManifest (lines ++ l ∷ [])
  with_file file names none new other =
      let files : files_in (lines ++ l ∷ []) ≡ files_in lines ++ file ∷ [] = files_more ∙ ap (λ (z : List (List ℕ)). files_in lines ++ z) names in
      let symbols : symbols_of (lines ++ l ∷ []) ≡ symbols_of lines = symbols_more ∙ ap (λ (z : List (List ℕ)). symbols_of lines ++ z) none ∙ append-nil (symbols_of lines) in
      record {
        distinct = subst IsDistinct (sym files) (distinct_more (files_in lines) file is.distinct new);
        others = subst (All IsOther) (sym files) (All-append IsOther (files_in lines) (file ∷ []) is.others (All-cons IsOther file [] other (All-nil IsOther)));
        symbols = subst (All IsSymbol) (sym symbols) is.symbols;
      }

  without_file : file_in l.said ≡ [] → All IsSymbol (symbols_said l.said) → IsManifest (lines ++ l ∷ [])
  without_file none all =
      let files : files_in (lines ++ l ∷ []) ≡ files_in lines = files_more ∙ ap (λ (z : List (List ℕ)). files_in lines ++ z) none ∙ append-nil (files_in lines) in
      record {
        distinct = subst IsDistinct (sym files) is.distinct;
        others = subst (All IsOther) (sym files) is.others;
        symbols = subst (All IsSymbol) (sym symbols_more) (All-append IsSymbol (symbols_of lines) (symbols_said l.said) is.symbols all);
      }

not_before : (lines : List Placed) (said : Line) (file : List ℕ) → file_in said ≡ file ∷ [] → (NamesAgain lines said → ⊥) → Contains (files_in lines) file → ⊥
not_before lines said file names new among = new (inl (file, subst (λ (z : List (List ℕ)). Contains z file) (sym names) (Contains-head file []), among))

pub grown : (lines : List Placed) (words : List (List ℕ)) (line : ℕ) (said : Line) → IsManifest lines → SaysLine words said → (NamesAgain lines said → ⊥)
    → IsManifest (lines ++ record { line = line; said = said } ∷ [])
grown lines words line (lexc_line name file) is says new = with_file lines is _ file refl refl (not_before lines (lexc_line name file) file refl new) (line_file words (lexc_line name file) file says refl)
grown lines words line (twolc_line name file) is says new = with_file lines is _ file refl refl (not_before lines (twolc_line name file) file refl new) (line_file words (twolc_line name file) file says refl)
grown lines words line (xfst_line file) is says new = with_file lines is _ file refl refl (not_before lines (xfst_line file) file refl new) (line_file words (xfst_line file) file says refl)
grown lines words line (gloss_line file) is says new = with_file lines is _ file refl refl (not_before lines (gloss_line file) file refl new) (line_file words (gloss_line file) file says refl)
grown lines words line (alphabet_line symbols) is says new = without_file lines is _ refl (line_symbols words symbols says)
grown lines words line (require_line required) is says new = without_file lines is _ refl (All-nil IsSymbol)

pub no_lines : IsManifest []
no_lines = record { distinct = λ i j x at other. absurd (none_at i x at); others = All-nil (λ file. file ≢ project_name); symbols = All-nil IsSymbol }
  where
    none_at : (i : ℕ) (x : List ℕ) → slice_get [] i ≡ Some x → ⊥
    none_at i x at = Contains-nil_cases x (Contains-from_slice_get [] i x at)
