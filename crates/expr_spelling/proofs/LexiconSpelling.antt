-- Lexicons relate the same words in symbols and in texts, where their leaves and letters do.
use Rattle.std.proofs.Common.{◌≡◌, ℕ, Bool, IsTrue, List, [], ◌∷◌, ◌++◌, map, Some, All, refl, sym, ap, subst, ◌∙◌}
use Rattle.std.specs.Prelude.{codes}
use Rattle.std.specs.List.{Contains, flat_map}
use Rattle.std.proofs.lemmas.Grind.{flat_map-append}
use Rattle.std.proofs.lemmas.List.{map-append}
use Rattle.std.proofs.lemmas.List.Elements.{All-nil, All-cons, All-head, All-tail, All-append}
use Rattle.fsm_base.specs.Alphabet.{IsAlphabet, spelled, symbols_of, text_of, texts_of}
use Rattle.fsm_base.specs.declared.letters.Sym.{Sym}
use Rattle.fsm_base.proofs.AlphabetLemmas.{Contains-symbols_of, text_of-pair}
use Rattle.word_relations.specs.Words.{IsOver}
use Rattle.expr_spelling.specs.Laws.{IsSpelled}
use Rattle.expr_spelling.proofs.Spelling.{spelling}
use Rattle.project_meaning.specs.Trees.{Piece, letter, flag, Form, sides, pairs, Lexicon}
use Rattle.project_meaning.specs.Settings.{neutral}
use Rattle.project_meaning.specs.Lexicons.{LexiconsRelate, flags_pass, letters_of, piece_by}
use Rattle.expr_spelling.specs.LexiconLaws.{AreBuilt, FormIsBuilt, LexiconsAreSpelled, PieceIsBuilt}
use Rattle.expr_spelling.specs.Mapped.{mapped_lexicon}
use Rattle.expr_spelling.proofs.LexiconSides.{letters_alike, letters_alone, letters_by, run_alike}
use Rattle.expr_spelling.proofs.Paths.{AreAlike, FormGoes, Reading, path_goes}

-- a side over the alphabet's symbols, and the same over their texts
record IsSide (alphabet : List (Sym × List ℕ)) (x : List (Piece Sym)) (v : List (Piece (List ℕ))) : Type 0 where
  over : IsOver (symbols_of alphabet) (flat_map letters_of x)
  is : v ≡ map (piece_by (text_of alphabet)) x

module _ (alphabet : List (Sym × List ℕ)) where
  abbrev Side : List (Piece Sym) → List (Piece (List ℕ)) → Type 0
  Side = IsSide alphabet

  joined : (x y : List (Piece Sym)) (v w : List (Piece (List ℕ))) → Side x v → Side y w → Side (x ++ y) (v ++ w)
  joined x y v w a b = record {
    over =
        subst (IsOver (symbols_of alphabet)) (sym (flat_map-append letters_of x y))
        (All-append (Contains (symbols_of alphabet)) (flat_map letters_of x) (flat_map letters_of y) a.over b.over);
    is = (λ i. a.is i ++ b.is i) ∙ sym (map-append (piece_by (text_of alphabet)) x y);
  }

  alike : AreAlike Side
  alike = record { none = record { over = All-nil (Contains (symbols_of alphabet)); is = refl }; joined = joined }

  alike_back : AreAlike (λ (v : List (Piece (List ℕ))) (x : List (Piece Sym)). Side x v)
  alike_back = record { none = alike.none; joined = λ v w x y a b. joined x y v w a b }

  -- a word of symbols as a side
  of_word : (u : List Sym) → IsOver (symbols_of alphabet) u → Side (map letter u) (map letter (spelled alphabet u))
  of_word u over = record {
    over = subst (IsOver (symbols_of alphabet)) (sym (letters_alone u)) over;
    is = sym (letters_by (text_of alphabet) u);
  }

  -- what is left of a side without its flags, and whether these pass
  word_of : (x : List (Piece Sym)) (v : List (Piece (List ℕ))) → Side x v → flat_map letters_of v ≡ spelled alphabet (flat_map letters_of x)
  word_of x v side = ap (flat_map letters_of) side.is ∙ letters_alike (text_of alphabet) x

  passing : (x : List (Piece Sym)) (v : List (Piece (List ℕ))) → Side x v → flags_pass v ≡ flags_pass x
  passing x v side = ap flags_pass side.is ∙ run_alike (text_of alphabet) (λ feature. neutral) x

  module _ {A B C : Type 0} (number_in : B → Sym) (text_in : A → List ℕ) (numbered : B → List Sym → List Sym → Type 0) (texts : A → List (List ℕ) → List (List ℕ) → Type 0)
      (in_symbols letter_in_symbols : C → B) (in_texts letter_in_texts : C → A) (spells is_letter : C → Bool) (formed : IsAlphabet alphabet)
      (leaves : (leaf : C) → IsTrue (spells leaf) → IsSpelled alphabet (numbered (in_symbols leaf)) (texts (in_texts leaf)))
      (letters : (leaf : C) → IsTrue (is_letter leaf) → Contains alphabet (number_in (letter_in_symbols leaf), text_in (letter_in_texts leaf))) where
    abbrev by_number : Reading C B Sym
    by_number = record { leaf = in_symbols; letter = letter_in_symbols; letter_in = number_in; relates = numbered; alphabet = symbols_of alphabet }

    abbrev by_text : Reading C A (List ℕ)
    by_text = record { leaf = in_texts; letter = letter_in_texts; letter_in = text_in; relates = texts; alphabet = texts_of alphabet }

    -- a side of an entry
    abbrev in_numbers : List (Piece C) → List (Piece Sym)
    in_numbers pieces = map (piece_by number_in) (map (piece_by letter_in_symbols) pieces)

    abbrev in_words : List (Piece C) → List (Piece (List ℕ))
    in_words pieces = map (piece_by text_in) (map (piece_by letter_in_texts) pieces)

    of_pieces : (pieces : List (Piece C)) → All (PieceIsBuilt spells is_letter) pieces → Side (in_numbers pieces) (in_words pieces)
    of_pieces [] built = record { over = All-nil (Contains (symbols_of alphabet)); is = refl }
    of_pieces (letter leaf ∷ pieces) built =
        let number = number_in (letter_in_symbols leaf) in
        let text = text_in (letter_in_texts leaf) in
        let among = letters leaf (All-head (PieceIsBuilt spells is_letter) (letter leaf) pieces built) in
        let rest = of_pieces pieces (All-tail (PieceIsBuilt spells is_letter) (letter leaf) pieces built) in
        let same = text_of-pair alphabet formed.distinct number text among in
        record {
          over = All-cons (Contains (symbols_of alphabet)) number (flat_map letters_of (in_numbers pieces)) (Contains-symbols_of alphabet number text among) rest.over;
          is = λ i. letter (sym same i) ∷ rest.is i;
        }
    of_pieces (flag f ∷ pieces) built =
        let rest = of_pieces pieces (All-tail (PieceIsBuilt spells is_letter) (flag f) pieces built) in
        record { over = rest.over; is = ap (λ (v : List (Piece (List ℕ))). flag f ∷ v) rest.is }

    -- what a form adds, from numbers to texts and back
    to_texts : (form : Form C) → FormIsBuilt spells is_letter form → FormGoes by_number by_text Side form
    to_texts (sides upper lower) (a, b) x y (e, d) = (
      in_words upper,
      in_words lower,
      (refl, refl),
      subst (λ (z : List (Piece Sym)). Side z (in_words upper)) (sym e) (of_pieces upper a),
      subst (λ (z : List (Piece Sym)). Side z (in_words lower)) (sym d) (of_pieces lower b),
    )
    to_texts (pairs e) built x y (u, w, related, is, also) =
        let s = spelling numbered texts alphabet in_symbols in_texts spells formed leaves e built in
        let over = s.over u w related in (
          map letter (spelled alphabet u),
          map letter (spelled alphabet w),
          (spelled alphabet u, spelled alphabet w, (s.same (spelled alphabet u) (spelled alphabet w)).1 (u, w, related, refl, refl), refl, refl),
          subst (λ (z : List (Piece Sym)). Side z (map letter (spelled alphabet u))) (sym is) (of_word u over.0),
          subst (λ (z : List (Piece Sym)). Side z (map letter (spelled alphabet w))) (sym also) (of_word w over.1),
        )

    to_numbers : (form : Form C) → FormIsBuilt spells is_letter form → FormGoes by_text by_number (λ v x. Side x v) form
    to_numbers (sides upper lower) (a, b) v w (e, d) = (
      in_numbers upper,
      in_numbers lower,
      (refl, refl),
      subst (Side (in_numbers upper)) (sym e) (of_pieces upper a),
      subst (Side (in_numbers lower)) (sym d) (of_pieces lower b),
    )
    to_numbers (pairs e) built v w (t, t', related, is, also) =
        let s = spelling numbered texts alphabet in_symbols in_texts spells formed leaves e built in
        let (upper, lower, relates, up, low) = (s.same t t').0 related in
        let over = s.over upper lower relates in (
          map letter upper,
          map letter lower,
          (upper, lower, relates, refl, refl),
          subst (Side (map letter upper)) (sym (is ∙ ap (map letter) up)) (of_word upper over.0),
          subst (Side (map letter lower)) (sym (also ∙ ap (map letter) low)) (of_word lower over.1),
        )

    module _ (lexicons : List (Lexicon C)) (built : AreBuilt spells is_letter lexicons) where
      abbrev InNumbers : List Sym → List Sym → Type 0
      InNumbers = LexiconsRelate number_in numbered (symbols_of alphabet) (map (mapped_lexicon in_symbols letter_in_symbols) lexicons)

      abbrev InTexts : List (List ℕ) → List (List ℕ) → Type 0
      InTexts = LexiconsRelate text_in texts (texts_of alphabet) (map (mapped_lexicon in_texts letter_in_texts) lexicons)

      -- the lexicons relate the two words in texts, which are those in symbols
      record IsRelated (upper lower : List Sym) : Type 0 where
        upper_over : IsOver (symbols_of alphabet) upper
        lower_over : IsOver (symbols_of alphabet) lower
        relates : InTexts (spelled alphabet upper) (spelled alphabet lower)

      in_texts_too : (upper lower : List Sym) → InNumbers upper lower → IsRelated upper lower
      in_texts_too upper lower (path, x, y, leads, p, q, up, low) =
          let (other, v, w, goes, a, b) =
          path_goes by_number by_text Side alike (FormIsBuilt spells is_letter) to_texts lexicons built (Some (codes "Root")) path x y leads in
          record {
            upper_over = subst (IsOver (symbols_of alphabet)) (sym up) a.over;
            lower_over = subst (IsOver (symbols_of alphabet)) (sym low) b.over;
            relates = (
              other,
              v,
              w,
              goes,
              subst IsTrue (sym (passing x v a)) p,
              subst IsTrue (sym (passing y w b)) q,
              ap (spelled alphabet) up ∙ sym (word_of x v a),
              ap (spelled alphabet) low ∙ sym (word_of y w b),
            );
          }

      in_numbers_too : (u t : List (List ℕ)) → InTexts u t → (upper : List Sym) × (lower : List Sym) × InNumbers upper lower × (u ≡ spelled alphabet upper) × (t ≡ spelled alphabet lower)
      in_numbers_too u t (path, v, w, leads, p, q, up, low) =
          let (other, x, y, goes, a, b) =
          path_goes by_text by_number (λ v x. Side x v) alike_back (FormIsBuilt spells is_letter) to_numbers lexicons built (Some (codes "Root")) path v w leads in (
            flat_map letters_of x,
            flat_map letters_of y,
            (other, x, y, goes, subst IsTrue (passing x v a) p, subst IsTrue (passing y w b) q, refl, refl),
            up ∙ word_of x v a,
            low ∙ word_of y w b,
          )

      same_words : IsSpelled alphabet InNumbers InTexts
      same_words = record {
        over = λ upper lower related. let r = in_texts_too upper lower related in (r.upper_over, r.lower_over);
        same = λ u t. (
          in_numbers_too u t,
          λ (upper, lower, related, e, d).
              let r = in_texts_too upper lower related in
              subst (λ (z : List (List ℕ)). InTexts z t) (sym e) (subst (InTexts (spelled alphabet upper)) (sym d) r.relates),
        );
      }

pub lexicons_spelled : {A B C : Type 0} (number_in : B → Sym) (text_in : A → List ℕ) (numbered : B → List Sym → List Sym → Type 0) (texts : A → List (List ℕ) → List (List ℕ) → Type 0)
    → LexiconsAreSpelled C number_in text_in numbered texts
lexicons_spelled number_in text_in numbered texts alphabet in_symbols letter_in_symbols in_texts letter_in_texts spells is_letter formed leaves letters lexicons built =
    same_words alphabet number_in text_in numbered texts in_symbols letter_in_symbols in_texts letter_in_texts spells is_letter formed leaves letters lexicons built
