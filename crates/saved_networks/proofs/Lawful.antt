-- What is found in a network is a lawful reply by the text that it was read from.
use Rattle.std.proofs.Common.{◌≡◌, ◌↔◌, ◌++◌, ℕ, ◌==◌, Bool, true, false, cond, List, [], ◌∷◌, Some, Ok, Err, IfOk, Result, codes, decimal, refl, sym, ap, subst, ◌∙◌, inl, inr, slice_get, arith, suc, Contains}
use Rattle.std.proofs.lemmas.Bool.Decides.{nat_tests}
use Rattle.std.proofs.lemmas.List.Elements.{All-contains_itself, All-head, All-tail, All-weaker}
use Rattle.std.proofs.lemmas.Option.{same_Some}
use Rattle.word_relations.specs.Answers.{Answers, Found, strings, more, loop, times}
use Rattle.word_relations.specs.Words.{IsOver}
use Rattle.word_relations.proofs.Members.{Contains-nil_cases, Contains-cons_cases}
use Rattle.fsm_base.specs.declared.letters.Sym.{Sym}
use Rattle.fsm_base.specs.Alphabet.{IsAlphabet, spelled, symbols_of, text_of, texts_of}
use Rattle.fsm_base.specs.Cut.{cut}
use Rattle.fsm_base.proofs.AlphabetLemmas.{same_symbol}
use Rattle.lookup_walk.specs.Answering.{IsOverAlphabet, UpperTexts}
use Rattle.lookup_walk.specs.Nets.{NetRelates}
use Rattle.lookup_walk.proofs.Related.{symbols_below}
use Rattle.reply_meaning.specs.Replies.{answer_bytes, headed}
use Rattle.saved_networks.specs.Networks.{IsSavedAs, SavedView}
use Rattle.saved_networks.specs.Replies.{RepliesToWordBySaved, TextsAbove, answered, no_symbol}

-- a symbol of an alphabet and its text stand at one place
text_placed : (alphabet : List (Sym × List ℕ)) (s : Sym) → Contains (symbols_of alphabet) s → (k : ℕ) × (slice_get (symbols_of alphabet) k ≡ Some s) × (slice_get (texts_of alphabet) k ≡ Some (text_of alphabet s))
text_placed [] s among = absurd (Contains-nil_cases s among)
text_placed (entry ∷ alphabet) s among = by (text_placed alphabet s) (s.0 == entry.0.0) refl
  where
    rest : (s.0 == entry.0.0) ≡ false → Contains (symbols_of alphabet) s
    rest other =
        elim (Contains-cons_cases entry.0 (symbols_of alphabet) s among) as (λ _. Contains (symbols_of alphabet) s) [
          | inl is ↦ absurd (apart (ap (λ (z : Sym). z.0) is) other)
          | inr behind ↦ behind
        ]
      where
        apart : entry.0.0 ≡ s.0 → (s.0 == entry.0.0) ≡ false → ⊥
        apart e o = grind (arith, nat_tests)

    by : (Contains (symbols_of alphabet) s → (k : ℕ) × (slice_get (symbols_of alphabet) k ≡ Some s) × (slice_get (texts_of alphabet) k ≡ Some (text_of alphabet s))) → (b : Bool) → (s.0 == entry.0.0) ≡ b
        → (k : ℕ) × (slice_get (symbols_of (entry ∷ alphabet)) k ≡ Some s) × (slice_get (texts_of (entry ∷ alphabet)) k ≡ Some (cond b entry.1 (text_of alphabet s)))
    by behind true same = (0, ap (λ (z : Sym). Some z) (sym (same_symbol s entry.0 same)), refl)
    by behind false other = let found = behind (rest other) in (suc found.0, found.1, found.2)

-- symbols of an alphabet with the same text are the same
symbol_from_text : (alphabet : List (Sym × List ℕ)) → IsAlphabet alphabet → (s t : Sym) → Contains (symbols_of alphabet) s → Contains (symbols_of alphabet) t → text_of alphabet s ≡ text_of alphabet t → s ≡ t
symbol_from_text alphabet formed s t s_among t_among same =
    let a = text_placed alphabet s s_among in
    let b = text_placed alphabet t t_among in
    let places : a.0 ≡ b.0 = formed.apart a.0 b.0 (text_of alphabet t) (a.2 ∙ ap (λ (z : List ℕ). Some z) same) b.2 in
    same_Some s t (sym a.1 ∙ ap (λ (k : ℕ). slice_get (symbols_of alphabet) k) places ∙ b.1)

-- a word of symbols is known by its texts
word_from_texts : (alphabet : List (Sym × List ℕ)) → IsAlphabet alphabet → (u w : List Sym) → IsOver (symbols_of alphabet) u → IsOver (symbols_of alphabet) w → spelled alphabet u ≡ spelled alphabet w → u ≡ w
word_from_texts alphabet formed [] [] a b same = refl
word_from_texts alphabet formed [] (y ∷ w) a b same = cc
word_from_texts alphabet formed (x ∷ u) [] a b same = cc
word_from_texts alphabet formed (x ∷ u) (y ∷ w) a b same =
    let head : text_of alphabet x ≡ text_of alphabet y = cc in
    let tail : spelled alphabet u ≡ spelled alphabet w = cc in
    let first = symbol_from_text alphabet formed x y (All-head (Contains (symbols_of alphabet)) x u a) (All-head (Contains (symbols_of alphabet)) y w b) head in
    let others = word_from_texts alphabet formed u w (All-tail (Contains (symbols_of alphabet)) x u a) (All-tail (Contains (symbols_of alphabet)) y w b) tail in
    ap (λ (z : Sym). z ∷ u) first ∙ ap (λ (z : List Sym). y ∷ z) others

-- the same texts have the same lawful answers
answers_same : (T U : List ℕ → Type 0) → ((text : List ℕ) → T text ↔ U text) → (found : Found) → Answers T found → Answers U found
answers_same T U same (strings texts) a = record {
  few = a.few;
  all = λ text. (λ u. (a.all text).0 ((same text).1 u), λ among. (same text).0 ((a.all text).1 among));
  in_order = a.in_order;
}
answers_same T U same more a = record {
  bound = a.bound;
  finite = λ text u. a.finite text ((same text).1 u);
  texts = a.texts;
  beyond = a.beyond;
  distinct = a.distinct;
  related = All-weaker T U (λ text t. (same text).0 t) a.texts a.related;
}
answers_same T U same (loop before round after) a = record { goes_round = a.goes_round; related = λ m. (same (before ++ times m round ++ after)).0 (a.related m) }

module _ (text : List ℕ) (saved : SavedView) (over : IsOverAlphabet saved.alphabet saved.net) (is : IsSavedAs text saved) where
  lower_over : (upper lower : List Sym) → NetRelates saved.net upper lower → IsOver (symbols_of saved.alphabet) lower
  lower_over upper lower related = All-weaker (Contains lower) (Contains (symbols_of saved.alphabet)) (symbols_below saved.alphabet saved.net over upper lower related) lower (All-contains_itself lower)

  -- the texts that the network finds are those that the text relates
  texts_above : (lower : List Sym) → IsOver (symbols_of saved.alphabet) lower → (found : List ℕ) → UpperTexts saved.net saved.alphabet lower found ↔ TextsAbove text (spelled saved.alphabet lower) found
  texts_above lower here found = (
    λ (texts, (upper, related, texts_are), found_is). (texts, (is.relates texts (spelled saved.alphabet lower)).1 (upper, lower, related, texts_are, refl), found_is),
    λ (texts, relates, found_is).
        let (upper, other, related, texts_are, same) = (is.relates texts (spelled saved.alphabet lower)).0 relates in
        let lower_is = word_from_texts saved.alphabet is.formed lower other here (lower_over upper other related) same in
        (texts, (upper, subst (λ (z : List Sym). NetRelates saved.net upper z) (sym lower_is) related, texts_are), found_is),
  )

  pub lawful : (version : ℕ) (word : List ℕ) (symbols : List Sym) (found : Found) (bytes : List ℕ) → cut (texts_of saved.alphabet) word ≡ Ok (spelled saved.alphabet symbols) → IsOver (symbols_of saved.alphabet) symbols
      → Answers (UpperTexts saved.net saved.alphabet symbols) found → bytes ≡ answer_bytes version word found → RepliesToWordBySaved text version word bytes
  lawful version word symbols found bytes cut_is here answers told =
      answered (spelled saved.alphabet symbols) found (subst (λ (a : List (List ℕ)). cut a word ≡ Ok (spelled saved.alphabet symbols)) is.symbols cut_is)
      (answers_same (UpperTexts saved.net saved.alphabet symbols) (TextsAbove text (spelled saved.alphabet symbols)) (texts_above symbols here) found answers) told

  pub lawful_stop : (version : ℕ) (word : List ℕ) (at : ℕ) (bytes : List ℕ) → cut (texts_of saved.alphabet) word ≡ Err at → bytes ≡ headed version (codes "symbol " ++ decimal at ++ 32 ∷ word) → RepliesToWordBySaved text version word bytes
  lawful_stop version word at bytes cut_is told = no_symbol at (subst (λ (a : List (List ℕ)). cut a word ≡ Err at) is.symbols cut_is) told

-- what follows of a value follows of it where it is an answer
pub if_ok : {A E : Type 0} (P Q : A → Type 0) → ((a : A) → P a → Q a) → (r : Result A E) → IfOk r P → IfOk r Q
if_ok P Q so (Ok a) h = so a h
if_ok P Q so (Err e) h = tt
