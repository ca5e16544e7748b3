-- What a network finds is a lawful reply over the project that it shows.
use Rattle.std.proofs.Common.{◌≡◌, ◌↔◌, ◌++◌, ℕ, ◌==◌, Bool, true, false, cond, List, [], ◌∷◌, Some, None, Ok, Err, IfOk, Result, codes, decimal, refl, sym, ap, subst, ◌∙◌, inl, inr, slice_get, arith, suc, Contains}
use Rattle.std.proofs.lemmas.Bool.Decides.{nat_tests}
use Rattle.std.proofs.lemmas.List.Elements.{All-head, All-tail, All-weaker, All-contains_itself}
use Rattle.word_relations.specs.Words.{IsOver}
use Rattle.word_relations.proofs.Members.{Contains-nil_cases, Contains-cons_cases}
use Rattle.fsm_base.specs.declared.letters.Sym.{Sym}
use Rattle.fsm_base.specs.Alphabet.{IsAlphabet, symbols_of, texts_of, text_of, spelled}
use Rattle.fsm_base.specs.Cut.{cut}
use Rattle.word_relations.specs.Answers.{Answers, Found, strings, more, loop, times}
use Rattle.lookup_answers.specs.declared.direction.Direction.{Direction}
use Rattle.lookup_answers.specs.declared.direction.Direction.TheVariants.{Up, Down}
use Rattle.interlinear.specs.Glosses.{Entry as Glossed}
use Rattle.project_meaning.specs.Projects.{Project}
use Rattle.reply_meaning.specs.Replies.{RepliesToWord, answered, no_net, no_symbol, Related, answer_bytes, headed}
use Rattle.lookup.specs.Answering.{UpperTexts, LowerTexts}
use Rattle.lookup.specs.Nets.{NetView, NetRelates}
use Rattle.lookup_walk.proofs.Related.{symbols_above, symbols_below}
use Rattle.project_store.specs.Networks.{Shows, TextsTo}
use Rattle.project_model.proofs.Alphabets.{cases_bool}

-- a symbol of the alphabet and its text stand at one place
text_placed : (alphabet : List (Sym × List ℕ)) (s : Sym) → Contains (symbols_of alphabet) s → (k : ℕ) × (slice_get (symbols_of alphabet) k ≡ Some s) × (slice_get (texts_of alphabet) k ≡ Some (text_of alphabet s))
text_placed [] s among = absurd (Contains-nil_cases s among)
text_placed (entry ∷ alphabet) s among =
    elim (cases_bool (s.0 == entry.0.0)) as (λ _. (k : ℕ) × (slice_get (symbols_of (entry ∷ alphabet)) k ≡ Some s) × (slice_get (texts_of (entry ∷ alphabet)) k ≡ Some (text_of (entry ∷ alphabet) s))) [
      | inl same ↦ (0, ap (λ (z : Sym). Some z) (sym (same_sym s entry.0 same)), ap (λ (z : List ℕ). Some z) (sym (ap (λ (b : Bool). cond b entry.1 (text_of alphabet s)) same)))
      | inr other ↦
          let behind = text_placed alphabet s (rest other) in
          (suc behind.0, behind.1, behind.2 ∙ ap (λ (z : List ℕ). Some z) (sym (ap (λ (b : Bool). cond b entry.1 (text_of alphabet s)) other)))
    ]
  where
    same_sym : (a b : Sym) → (a.0 == b.0) ≡ true → a ≡ b
    same_sym a b e = ap (λ (n : ℕ). record { 0 = n }) (number_same a.0 b.0 e)
      where
        number_same : (m n : ℕ) → (m == n) ≡ true → m ≡ n
        number_same m n t = grind (arith, nat_tests)

    rest : (s.0 == entry.0.0) ≡ false → Contains (symbols_of alphabet) s
    rest other =
        elim (Contains-cons_cases entry.0 (symbols_of alphabet) s among) as (λ _. Contains (symbols_of alphabet) s) [
          | inl is ↦ absurd (apart (ap (λ (z : Sym). z.0) is) other)
          | inr behind ↦ behind
        ]
      where
        apart : entry.0.0 ≡ s.0 → (s.0 == entry.0.0) ≡ false → ⊥
        apart e o = grind (arith, nat_tests)

same_Some : {X : Type 0} (x y : X) → Some x ≡ Some y → x ≡ y
same_Some x y e = cc

-- symbols of an alphabet with the same text are the same
symbol_from_text : (alphabet : List (Sym × List ℕ)) → IsAlphabet alphabet → (s t : Sym) → Contains (symbols_of alphabet) s → Contains (symbols_of alphabet) t → text_of alphabet s ≡ text_of alphabet t → s ≡ t
symbol_from_text alphabet formed s t s_among t_among same =
    let a = text_placed alphabet s s_among in
    let b = text_placed alphabet t t_among in
    let places : a.0 ≡ b.0 = formed.apart a.0 b.0 (text_of alphabet t) (a.2 ∙ ap (λ (z : List ℕ). Some z) same) b.2 in
    same_Some s t (sym a.1 ∙ ap (λ (k : ℕ). slice_get (symbols_of alphabet) k) places ∙ b.1)

-- a word of symbols is known by its texts
word_from_texts : (alphabet : List (Sym × List ℕ)) → IsAlphabet alphabet → (u w : List Sym) → IsOver (symbols_of alphabet) u → IsOver (symbols_of alphabet) w → spelled alphabet u ≡ spelled alphabet w → u ≡ w
word_from_texts alphabet formed [] [] a b same = refl
word_from_texts alphabet formed [] (y ∷ w) a b same = cc
word_from_texts alphabet formed (x ∷ u) [] a b same = cc
word_from_texts alphabet formed (x ∷ u) (y ∷ w) a b same =
    let head : text_of alphabet x ≡ text_of alphabet y = cc in
    let tail : spelled alphabet u ≡ spelled alphabet w = cc in
    let first = symbol_from_text alphabet formed x y (All-head (Contains (symbols_of alphabet)) x u a) (All-head (Contains (symbols_of alphabet)) y w b) head in
    let others = word_from_texts alphabet formed u w (All-tail (Contains (symbols_of alphabet)) x u a) (All-tail (Contains (symbols_of alphabet)) y w b) tail in
    ap (λ (z : Sym). z ∷ u) first ∙ ap (λ (z : List Sym). y ∷ z) others

each_over : (letters word : List Sym) → ((symbol : Sym) → Contains word symbol → Contains letters symbol) → IsOver letters word
each_over letters word each = All-weaker (Contains word) (Contains letters) each word (All-contains_itself word)

-- the same texts have the same lawful answers
pub answers_same : (T U : List ℕ → Type 0) → ((text : List ℕ) → T text ↔ U text) → (found : Found) → Answers T found → Answers U found
answers_same T U same (strings texts) a = record {
  few = a.few;
  all = λ text. (λ u. (a.all text).0 ((same text).1 u), λ among. (same text).0 ((a.all text).1 among));
  in_order = a.in_order;
}
answers_same T U same more a = record {
  bound = a.bound;
  finite = λ text u. a.finite text ((same text).1 u);
  texts = a.texts;
  beyond = a.beyond;
  distinct = a.distinct;
  related = All-weaker T U (λ text t. (same text).0 t) a.texts a.related;
}
answers_same T U same (loop before round after) a = record { goes_round = a.goes_round; related = λ m. (same (before ++ times m round ++ after)).0 (a.related m) }

module _ (alphabet : List (Sym × List ℕ)) (name : List ℕ) (net : NetView) (project : Project) (glosses : List Glossed) (shown : Shows (record { alphabet = alphabet; name = name; net = Some net; glosses = glosses }) project) where
  -- related words are of the alphabet
  upper_over : (upper lower : List Sym) → NetRelates net upper lower → IsOver (symbols_of alphabet) upper
  upper_over upper lower related = each_over (symbols_of alphabet) upper (symbols_above alphabet net shown.net.over upper lower related)

  lower_over : (upper lower : List Sym) → NetRelates net upper lower → IsOver (symbols_of alphabet) lower
  lower_over upper lower related = each_over (symbols_of alphabet) lower (symbols_below alphabet net shown.net.over upper lower related)

  -- the texts that the network finds are those that the project relates
  upper_texts : (lower : List Sym) → IsOver (symbols_of alphabet) lower → (text : List ℕ) → UpperTexts net alphabet lower text ↔ Related project Up name (spelled alphabet lower) text
  upper_texts lower over text = (
    λ (texts, (upper, related, is), text_is). (texts, (shown.net.relates texts (spelled alphabet lower)).1 (upper, lower, related, is, refl), text_is),
    λ (texts, meaning, text_is).
        let (upper, lower', related, is, same) = (shown.net.relates texts (spelled alphabet lower)).0 meaning in
        (texts, (upper, subst (λ (z : List Sym). NetRelates net upper z) (sym (word_from_texts alphabet shown.formed lower lower' over (lower_over upper lower' related) same)) related, is), text_is),
  )

  lower_texts : (upper : List Sym) → IsOver (symbols_of alphabet) upper → (text : List ℕ) → LowerTexts net alphabet upper text ↔ Related project Down name (spelled alphabet upper) text
  lower_texts upper over text = (
    λ (texts, (lower, related, is), text_is). (texts, (shown.net.relates (spelled alphabet upper) texts).1 (upper, lower, related, refl, is), text_is),
    λ (texts, meaning, text_is).
        let (upper', lower, related, same, is) = (shown.net.relates (spelled alphabet upper) texts).0 meaning in
        (texts, (lower, subst (λ (z : List Sym). NetRelates net z lower) (sym (word_from_texts alphabet shown.formed upper upper' over (upper_over upper' lower related) same)) related, is), text_is),
  )

  pub found_texts : (direction : Direction) (word : List Sym) → IsOver (symbols_of alphabet) word → (text : List ℕ) → TextsTo direction net alphabet word text ↔ Related project direction name (spelled alphabet word) text
  found_texts Up word over = upper_texts word over
  found_texts Down word over = lower_texts word over

  -- what the network's alphabet cuts, the project's does
  pub cut_shown : (word : List ℕ) (r : Result (List (List ℕ)) ℕ) → cut (texts_of alphabet) word ≡ r → cut project.alphabet word ≡ r
  cut_shown word r is = ap (λ a. cut a word) shown.alphabet ∙ is

  pub lawful : (direction : Direction) (version : ℕ) (word : List ℕ) (symbols : List Sym) (found : Found) (bytes : List ℕ) → cut (texts_of alphabet) word ≡ Ok (spelled alphabet symbols) → IsOver (symbols_of alphabet) symbols → Answers (TextsTo direction net alphabet symbols) found
      → bytes ≡ answer_bytes version word found → RepliesToWord project direction version name word bytes
  lawful direction version word symbols found bytes is over answers told =
      answered (spelled alphabet symbols) found shown.net.defined (cut_shown word (Ok (spelled alphabet symbols)) is)
      (answers_same (TextsTo direction net alphabet symbols) (Related project direction name (spelled alphabet symbols)) (found_texts direction symbols over) found answers) told

  pub lawful_stop : (direction : Direction) (version : ℕ) (word : List ℕ) (at : ℕ) (bytes : List ℕ) → cut (texts_of alphabet) word ≡ Err at → bytes ≡ headed version (codes "symbol " ++ decimal at ++ 32 ∷ word) → RepliesToWord project direction version name word bytes
  lawful_stop direction version word at bytes is told = no_symbol at shown.net.defined (cut_shown word (Err at) is) told

-- a reply in which the name isn't defined
pub lawful_none : (alphabet : List (Sym × List ℕ)) (name : List ℕ) (project : Project) (glosses : List Glossed) → Shows (record { alphabet = alphabet; name = name; net = None; glosses = glosses }) project → (direction : Direction) (version : ℕ) (word bytes : List ℕ) → bytes ≡ headed version (codes "net " ++ name) → RepliesToWord project direction version name word bytes
lawful_none alphabet name project glosses shown direction version word bytes told = no_net shown.net told

-- what follows of a value follows of it where it is an answer
pub if_ok : {A E : Type 0} (P Q : A → Type 0) → ((a : A) → P a → Q a) → (r : Result A E) → IfOk r P → IfOk r Q
if_ok P Q so (Ok a) h = so a h
if_ok P Q so (Err e) h = tt
