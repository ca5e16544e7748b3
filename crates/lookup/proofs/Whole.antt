-- From the texts that the walk lists to those of the graph of symbols.
use Rattle.std.proofs.Common.{◌≡◌, ℕ, suc, ◌+◌, ◌*◌, ◌≤◌, ◌↔◌, List, [], ◌∷◌, ◌++◌, Option, None, Some, IfSome, IfNone, length, get_or, refl, sym, subst, ap, inl, inr, arith, ◌∙◌, length-append, option_to_list}
use Rattle.std.specs.List.{Contains}
use Rattle.std.proofs.Math.Nat.{mul-le-mul_right}
use Rattle.std.proofs.lemmas.List.{length-map}
use Rattle.word_relations.proofs.Members.{Contains-nil_cases, Contains-cons_cases}
use Rattle.word_relations.specs.Words.{joined}
use Rattle.fsm_base.specs.Alphabet.{spelled}
use Rattle.fsm_base.specs.declared.letters.Sym.{Sym}
use Rattle.fsa.specs.declared.automaton.Edge.{Edge}
use Rattle.word_relations.specs.Answers.{AreAll, AreMore}
use Rattle.lookup.specs.Graph.{AreUseful, IsPath, IsWithin, Leads, Writes, letters_of, start, end}
use Rattle.lookup.proofs.GraphPaths.{connects_among, path_among}
use Rattle.lookup.specs.Turns.{HasNoTurn}
use Rattle.lookup.proofs.Finite.{short}
use Rattle.lookup.proofs.Turning.{no_turn_from_bound}
use Rattle.lookup.specs.GraphTexts.{GraphTexts}
use Rattle.lookup.specs.Spelling.{text_on}
use Rattle.lookup.specs.Walks.{WritesText, word_of}
use Rattle.lookup.proofs.ListingSteps.{unword, word-unword}
use Rattle.lookup.proofs.Spelled.{text_along, text_along_is}
use Rattle.lookup.specs.declared.walk.Byte.{Byte}

-- the same answers for the same texts
pub all_same : (T U : List ℕ → Type 0) (texts : List (List ℕ)) → ((text : List ℕ) → T text ↔ U text) → AreAll T texts → AreAll U texts
all_same T U texts same a = record {
  few = a.few;
  all = λ text. (λ u. (a.all text).0 ((same text).1 u), λ h. (same text).0 ((a.all text).1 h));
  in_order = a.in_order;
}

pub more_same : (T U : List ℕ → Type 0) → ((text : List ℕ) → T text ↔ U text) → AreMore T → AreMore U
more_same T U same m = record {
  bound = m.bound;
  finite = λ text u. m.finite text ((same text).1 u);
  texts = m.texts;
  beyond = m.beyond;
  distinct = m.distinct;
  related = λ k d within. (same (get_or m.texts k d)).0 (m.related k d within);
}

-- edges in another order
module _ (edges rows : List (Edge Byte)) (are : (e : Edge Byte) → Contains rows e ↔ Contains edges e) where
  pub moved_same : (text : List ℕ) → WritesText rows text ↔ WritesText edges text
  moved_same text = (connects_among rows edges (λ e. (are e).0) start end (word_of text), connects_among edges rows (λ e. (are e).1) start end (word_of text))

  pub moved_useful : AreUseful edges → (e : Edge Byte) → Contains rows e → Leads rows e.to end
  moved_useful useful e h = let r = (useful e ((are e).0 h)).1 in (r.0, path_among edges rows (λ f. (are f).1) e.to end r.0 r.1)

one_more : (t u : List ℕ) (n m : ℕ) → length t ≤ m → length u ≤ n * m → length (t ++ u) ≤ suc n * m
one_more t u n m one more = let l = length-append t u in omega arith

-- how long texts are
module _ (alphabet : List (Sym × List ℕ)) where
  abbrev total : List (Edge Sym) → ℕ
  total [] = 0
  total (e ∷ es) = length (text_on alphabet e.letter) + total es

  total_has : (es : List (Edge Sym)) (e : Edge Sym) → Contains es e → length (text_on alphabet e.letter) ≤ total es
  total_has [] e h = absurd (Contains-nil_cases e h)
  total_has (f ∷ es) e h = elim (Contains-cons_cases f es e h) [
    | inl same ↦ let l = ap (λ x. length (text_on alphabet x.letter)) same in omega arith
    | inr later ↦ let l = total_has es e later in omega arith
  ]

  along_short : (edges : List (Edge Sym)) (a b : ℕ) (q : List (Edge Sym)) → IsPath edges a q b → length (text_along alphabet q) ≤ length (letters_of q) * total edges
  along_short edges a b [] h = omega arith
  along_short edges a b (e ∷ q) (held, from, rest) =
      let more = along_short edges e.to b q rest in
      elim e.letter as (λ o. length (text_on alphabet o) ≤ total edges → length (text_on alphabet o ++ text_along alphabet q) ≤ length (option_to_list o ++ letters_of q) * total edges) [
        | None ↦ λ _. more
        | Some symbol ↦ λ one. one_more (text_on alphabet (Some symbol)) (text_along alphabet q) (length (letters_of q)) (total edges) one more
      ] (total_has edges e held)

  module _ (edges : List (Edge Sym)) (count : ℕ) (within : IsWithin edges count) (free : HasNoTurn edges) where
    texts_short : (text : List ℕ) → GraphTexts alphabet edges text → length text ≤ count * total edges
    texts_short text (texts, (word, (q, h, letters), are), is) =
        let e : text ≡ text_along alphabet q = is ∙ ap joined are ∙ ap (λ w. joined (spelled alphabet w)) (sym letters) ∙ sym (text_along_is alphabet q) in
        let l = along_short edges start end q h in
        let few = short edges free count within (letters_of q) (q, h, refl) in
        let m = mul-le-mul_right (total edges) few in
        let n = ap length e in omega arith

    -- the graph of bytes has no loop with letters, so that no text is longer than it has nodes
    pub bytes_short : (bytes : List (Edge Byte)) (nodes : ℕ) → IsWithin bytes nodes → ((text : List ℕ) → WritesText bytes text ↔ GraphTexts alphabet edges text)
        → (text : List ℕ) → WritesText bytes text → length text ≤ nodes
    bytes_short bytes nodes inside same text written =
        let none : HasNoTurn bytes = no_turn_from_bound bytes (count * total edges) (λ w h.
        let t = unword w in
        let k : WritesText bytes t = subst (λ v. Writes bytes v) (sym (word-unword w)) h in
        let l = texts_short t ((same t).0 k) in
        let e : length (word_of t) ≡ length t = length-map t (λ n. record { 0 = n }) in
        let f = ap length (word-unword w) in omega arith) in
        let l = short bytes none nodes inside (word_of text) written in
        let e : length (word_of text) ≡ length text = length-map text (λ n. record { 0 = n }) in omega arith

-- the texts of the walk are those of the graph of symbols
pub whole_same : (T : List ℕ → Type 0) (bytes all kept view rows : List (Edge Byte)) → all ≡ bytes → view ≡ kept
    → ((e : Edge Byte) → Contains rows e ↔ Contains view e) → ((word : List Byte) → Writes kept word ↔ Writes all word) → ((text : List ℕ) → WritesText bytes text ↔ T text)
    → (text : List ℕ) → WritesText rows text ↔ T text
whole_same T bytes all kept view rows all_is view_is are same texts text =
    let one = moved_same view rows are text in
    let two = same (word_of text) in
    let three = texts text in (
      λ h. three.0 (subst (λ es. WritesText es text) all_is (two.0 (subst (λ es. WritesText es text) view_is (one.0 h)))),
      λ t. one.1 (subst (λ es. WritesText es text) (sym view_is) (two.1 (subst (λ es. WritesText es text) (sym all_is) (three.1 t)))),
    )

pub if_some : {X : Type 0} (o : Option X) (P Q : X → Type 0) → ((x : X) → P x → Q x) → IfSome o P → IfSome o Q
if_some None P Q f h = h
if_some (Some x) P Q f h = f x h

pub if_none : {X : Type 0} (o : Option X) (P Q : Type 0) → (P → Q) → IfNone o P → IfNone o Q
if_none None P Q f h = f h
if_none (Some x) P Q f h = h
