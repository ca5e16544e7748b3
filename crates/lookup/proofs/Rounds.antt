-- A turn of the graph is a loop of texts.
use Rattle.std.proofs.Common.{◌≡◌, ℕ, zero, suc, ◌<◌, ◌↔◌, List, [], ◌∷◌, ◌++◌, Option, None, Some, length, refl, subst, sym, ap, arith, ◌∙◌, append_assoc, length-append}
use Rattle.std.specs.List.{Contains}
use Rattle.std.specs.Option.{option_to_list}
use Rattle.std.proofs.lemmas.List.{map-append}
use Rattle.std.proofs.lemmas.List.Elements.{All-nil, All-cons, All-head, All-contains}
use Rattle.fsm_base.specs.Alphabet.{IsAlphabet, spelled, symbols_of, text_of, texts_of}
use Rattle.fsm_base.specs.Symbols.{IsSymbol}
use Rattle.fsm_base.specs.declared.letters.Sym.{Sym}
use Rattle.fsm_base.proofs.AlphabetLemmas.{text_of-pair}
use Rattle.word_relations.specs.Words.{IsOver, joined}
use Rattle.word_relations.proofs.Laws.{joined-append}
use Rattle.word_relations.proofs.Members.{Contains-map, Contains-map_cases}
use Rattle.word_relations.specs.Answers.{Answers, Found, IsLoop, Texts, times}
use Rattle.fsa.specs.declared.automaton.Edge.{Edge}
use Rattle.lookup.specs.Graph.{Connects, IsPath, Writes, letters_of}
use Rattle.lookup.specs.Turns.{IsTurn, rounds}
use Rattle.lookup.proofs.Turning.{goes_round}
use Rattle.lookup.specs.GraphTexts.{AreOf, GraphTexts}
use Rattle.lookup_answers.proofs.AnswerKinds.{Answers-same}

-- the text of a word
abbrev pub text : List (Sym × List ℕ) → List Sym → List ℕ
text alphabet word = joined (spelled alphabet word)

pub text-append : (alphabet : List (Sym × List ℕ)) (u v : List Sym) → text alphabet (u ++ v) ≡ text alphabet u ++ text alphabet v
text-append alphabet u v = ap joined (map-append (text_of alphabet) u v) ∙ joined-append (spelled alphabet u) (spelled alphabet v)

-- sets of words that are the same have the same texts
pub texts_same : (alphabet : List (Sym × List ℕ)) (P Q : List Sym → Type 0) → ((w : List Sym) → P w ↔ Q w) → (t : List ℕ) → Texts (λ texts. (w : List Sym) × P w × (texts ≡ spelled alphabet w)) t ↔ Texts (λ texts. (w : List Sym) × Q w × (texts ≡ spelled alphabet w)) t
texts_same alphabet P Q same t =
    (λ (texts, (w, p, is), joins). (texts, (w, (same w).0 p, is), joins), λ (texts, (w, q, is), joins). (texts, (w, (same w).1 q, is), joins))

-- a symbol of an alphabet has a text that is not empty
pub symbol_some : (alphabet : List (Sym × List ℕ)) → IsAlphabet alphabet → (s : Sym) → Contains (symbols_of alphabet) s → 0 < length (text_of alphabet s)
symbol_some alphabet formed s among =
    let r = Contains-map_cases (λ entry. entry.0) alphabet s among in
    let held : Contains alphabet (s, r.0.1) = subst (λ x. Contains alphabet (x, r.0.1)) r.2 r.1 in
    let is : text_of alphabet s ≡ r.0.1 = text_of-pair alphabet formed.distinct s r.0.1 held in
    let some : IsSymbol r.0.1 = All-contains IsSymbol (texts_of alphabet) r.0.1 formed.symbols (Contains-map (λ entry. entry.1) alphabet r.0 r.1) in
    subst (λ x. 0 < length x) (sym is) some

pub text_some : (alphabet : List (Sym × List ℕ)) → IsAlphabet alphabet → (word : List Sym) → IsOver (symbols_of alphabet) word → 0 < length word → 0 < length (text alphabet word)
text_some alphabet formed [] over some = absurd (omega arith)
text_some alphabet formed (s ∷ word) over some =
    let first = symbol_some alphabet formed s (All-head (Contains (symbols_of alphabet)) s word over) in
    let e = length-append (text_of alphabet s) (text alphabet word) in
    omega arith

module _ (alphabet : List (Sym × List ℕ)) (edges : List (Edge Sym)) where
  -- the letters of a path are symbols of the alphabet
  path_over : AreOf alphabet edges → (path : List (Edge Sym)) (a b : ℕ) → IsPath edges a path b → IsOver (symbols_of alphabet) (letters_of path)
  path_over are [] a b h = All-nil (Contains (symbols_of alphabet))
  path_over are (e ∷ path) a b (held, from, rest) = by e.letter refl (path_over are path e.to b rest)
    where
      by : (letter : Option Sym) → e.letter ≡ letter → IsOver (symbols_of alphabet) (letters_of path) → IsOver (symbols_of alphabet) (option_to_list letter ++ letters_of path)
      by None is over = over
      by (Some s) is over = All-cons (Contains (symbols_of alphabet)) s (letters_of path) (are e s held is) over

  pub connects_over : AreOf alphabet edges → (a b : ℕ) (w : List Sym) → Connects edges a w b → IsOver (symbols_of alphabet) w
  connects_over are a b w (path, is, letters) = subst (IsOver (symbols_of alphabet)) letters (path_over are path a b is)

  text-rounds : (m : ℕ) (w : List Sym) → text alphabet (rounds m w) ≡ times m (text alphabet w)
  text-rounds zero w = refl
  text-rounds (suc m) w = text-append alphabet w (rounds m w) ∙ ap (λ t. text alphabet w ++ t) (text-rounds m w)

  pub turn_loops : IsAlphabet alphabet → AreOf alphabet edges → (before round after : List Sym) → IsTurn edges before round after → IsLoop (GraphTexts alphabet edges) (text alphabet before) (text alphabet round) (text alphabet after)
  turn_loops formed are before round after turn = record {
    goes_round = text_some alphabet formed round (connects_over are turn.node turn.node round turn.goes_round) turn.some;
    related = λ m.
        let w : List Sym = before ++ (rounds m round ++ after) in
        let is : text alphabet w ≡ text alphabet before ++ times m (text alphabet round) ++ text alphabet after =
        text-append alphabet before (rounds m round ++ after)
        ∙ ap (λ t. text alphabet before ++ t) (text-append alphabet (rounds m round) after ∙ ap (λ t. t ++ text alphabet after) (text-rounds m round))
        ∙ sym (append_assoc (text alphabet before) (times m (text alphabet round)) (text alphabet after)) in
        (spelled alphabet w, (w, goes_round edges before round after turn m, refl), sym is);
  }

-- an answer for a graph is one for the set of words that it writes
pub answers_related : (alphabet : List (Sym × List ℕ)) (kept edges : List (Edge Sym)) (P : List Sym → Type 0) → ((w : List Sym) → Writes kept w ↔ Writes edges w) → ((w : List Sym) → Writes edges w ↔ P w) → (found : Found) → Answers (GraphTexts alphabet kept) found → Answers (λ t. Texts (λ texts. (w : List Sym) × P w × (texts ≡ spelled alphabet w)) t) found
answers_related alphabet kept edges P same words =
    Answers-same (GraphTexts alphabet kept) (λ t. Texts (λ texts. (w : List Sym) × P w × (texts ≡ spelled alphabet w)) t)
    (texts_same alphabet (Writes kept) P (λ w. (λ h. (words w).0 ((same w).0 h), λ p. (same w).1 ((words w).1 p))))
