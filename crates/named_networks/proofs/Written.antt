-- The AT&T text of a network says what its name means.
use Rattle.std.proofs.Common.{◌≡◌, ◌<◌, ◌≤◌, ◌+◌, ◌↔◌, ℕ, List, [], ◌∷◌, All, Some, length, slice_get, sym, ap, subst, ◌∙◌, inl, inr, append-nil, arith}
use Rattle.std.specs.List.{AllZip, Contains}
use Rattle.std.specs.Option.{option_map}
use Rattle.std.proofs.lemmas.List.{length-map}
use Rattle.std.proofs.lemmas.List.Elements.{All-contains, All-contains_itself, All-weaker}
use Rattle.std.proofs.lemmas.Bool.{cases_eq}
use Rattle.std.proofs.lemmas.Option.{slice_get-map, slice_get_within, same_Some}
use Rattle.word_relations.specs.Relations.{AreSame}
use Rattle.word_relations.specs.Words.{joined}
use Rattle.word_relations.proofs.Places.{Contains-from_slice_get, slice_get_from_Contains}
use Rattle.fsm_base.specs.Alphabet.{IsAlphabet, spelled, symbols_of, text_of, texts_of}
use Rattle.fsm_base.specs.Symbols.{IsSymbol}
use Rattle.fsm_base.specs.declared.letters.Sym.{Sym}
use Rattle.fsm_base.specs.declared.letters.Pair.{Pair}
use Rattle.fsm_base.proofs.AlphabetLemmas.{text_of-pair}
use Rattle.fsa.specs.Automaton.{Automaton}
use Rattle.fst_algebra.specs.Relation.{IsRelated}
use Rattle.att_text.specs.Lines.{no_symbol}
use Rattle.att_text.specs.Paths.{RelatesTexts}
use Rattle.att_text.specs.Writing.{HasTextOf, IsField, UsesOnly}
use Rattle.expr_spelling.specs.Laws.{IsSpelled}
use Rattle.network_algebra.specs.Networks.{UsesSymbols}
use Rattle.project_meaning.specs.Meaning.{Word}
use Rattle.project_definitions.proofs.Referring.{at_map}
use Rattle.named_networks.specs.Fields.{HasNoBreak}
use Rattle.named_networks.proofs.Spelled.{zip_spelled, zipped}

-- the text of a symbol stands at its place
pub text_at : (alphabet : List (Sym × List ℕ)) → IsAlphabet alphabet → (k : ℕ) (s : Sym) → slice_get (symbols_of alphabet) k ≡ Some s → slice_get (texts_of alphabet) k ≡ Some (text_of alphabet s)
text_at alphabet formed k s at =
    let (e, at_e, is) = at_map (λ (x : Sym × List ℕ). x.0) alphabet k s at in
    let text : e.1 ≡ text_of alphabet s = sym (text_of-pair alphabet formed.distinct e.0 e.1 (Contains-from_slice_get alphabet k e at_e)) ∙ ap (text_of alphabet) is in
    slice_get-map (λ (y : Sym × List ℕ). y.1) alphabet k ∙ ap (option_map (λ (y : Sym × List ℕ). y.1)) at_e ∙ ap (λ (z : List ℕ). Some z) text

-- it is so of each text that stands before a place
abbrev pub AllBefore : (List ℕ → Type 0) → List (Sym × List ℕ) → ℕ → Type 0
AllBefore P alphabet i = (k : ℕ) (text : List ℕ) → k < i → slice_get (texts_of alphabet) k ≡ Some text → P text

pub before_more : (P : List ℕ → Type 0) (alphabet : List (Sym × List ℕ)) → IsAlphabet alphabet → (i : ℕ) (s : Sym) → slice_get (symbols_of alphabet) i ≡ Some s → P (text_of alphabet s) → AllBefore P alphabet i → AllBefore P alphabet (i + 1)
before_more P alphabet formed i s at here before k text less at_k = elim (cases_eq k i) as (λ _. P text) [
  | inl is ↦ subst P (same_Some (text_of alphabet s) text (sym (text_at alphabet formed i s at) ∙ ap (slice_get (texts_of alphabet)) (sym is) ∙ at_k)) here
  | inr apart ↦ before k text (omega (arith, less, apart)) at_k
]

pub before_all : (P : List ℕ → Type 0) (alphabet : List (Sym × List ℕ)) (i : ℕ) → length (symbols_of alphabet) ≤ i → AllBefore P alphabet i → All P (texts_of alphabet)
before_all P alphabet i past before =
    let texts = texts_of alphabet in
    let size = length-map alphabet (λ (x : Sym × List ℕ). x.0) in
    let many = length-map alphabet (λ (x : Sym × List ℕ). x.1) in
    All-weaker (Contains texts) P
    (λ text among.
    (let (k, at) = slice_get_from_Contains texts text among in
    let within = slice_get_within texts k text at in
    before k text (omega (arith, within, past, size, many)) at))
    texts (All-contains_itself texts)

-- the text of a word of one symbol
pub one_text : (alphabet : List (Sym × List ℕ)) (s : Sym) → joined (spelled alphabet (s ∷ [])) ≡ text_of alphabet s
one_text alphabet s = append-nil (text_of alphabet s)

-- texts that are no `@0@` and have no break may be fields
pub are_fields : (alphabet : List (Sym × List ℕ)) → IsAlphabet alphabet → (Contains (texts_of alphabet) no_symbol → ⊥) → All HasNoBreak (texts_of alphabet) → All IsField (texts_of alphabet)
are_fields alphabet formed none unbroken =
    let texts = texts_of alphabet in
    let field : (text : List ℕ) → Contains texts text → IsField text =
    λ text among. record {
      some = All-contains IsSymbol texts text formed.symbols among;
      other = λ is. none (subst (Contains texts) is among);
      no_tab = (All-contains HasNoBreak texts text unbroken among).0;
      no_newline = (All-contains HasNoBreak texts text unbroken among).1;
    } in
    All-weaker (Contains texts) IsField field texts (All-contains_itself texts)

pub uses_only : (symbols : List Sym) (m : Automaton Pair) → UsesSymbols symbols m → UsesOnly symbols m
uses_only symbols m uses symbol either = elim either [ inl upper ↦ uses.upper symbol upper | inr lower ↦ uses.lower symbol lower ]

-- a network that relates what a relation does, told by texts
pub texts_related : (alphabet : List (Sym × List ℕ)) (R : List Sym → List Sym → Type 0) (T : Word → Word → Type 0) (m : Automaton Pair) → IsSpelled alphabet R T → AreSame (IsRelated m) R
    → (upper lower : Word) → RelatesTexts (HasTextOf alphabet) m upper lower ↔ T upper lower
texts_related alphabet R T m spelled_as same upper lower = (
  λ r. (spelled_as.same upper lower).1 (
    r.upper_word,
    r.lower_word,
    (same r.upper_word r.lower_word).0 r.related,
    zipped alphabet r.upper_word upper r.upper_texts,
    zipped alphabet r.lower_word lower r.lower_texts,
  ),
  λ t.
      let (u, w, related, is, also) = (spelled_as.same upper lower).0 t in
      record {
        upper_word = u;
        lower_word = w;
        related = (same u w).1 related;
        upper_texts = subst (AllZip (HasTextOf alphabet) u) (sym is) (zip_spelled alphabet u);
        lower_texts = subst (AllZip (HasTextOf alphabet) w) (sym also) (zip_spelled alphabet w);
      },
)
