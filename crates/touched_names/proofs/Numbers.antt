-- The numbers of texts in distinct lists.
use Rattle.std.proofs.Common.{◌≡◌, ◌≢◌, ◌<◌, ◌↔◌, ◌+◌, ◌==◌, ℕ, zero, suc, Bool, true, false, cond, List, [], ◌∷◌, length, take, get_or, slice_get, All, Contains, Some, inl, inr, sym, ap, subst, ◌∙◌, arith}
use Rattle.std.proofs.lemmas.List.Elements.{All-contains, All-contains_itself, All-map, All-weaker, Contains-get_or}
use Rattle.std.proofs.lemmas.List.Sums.{passes_at_first}
use Rattle.std.proofs.lemmas.Option.{slice_get-map, get_or_from_slice_get, same_Some}
use Rattle.std.proofs.lemmas.Bool.Decides.{nat_tests}
use Rattle.std.proofs.lemmas.Slice.Eq.{bytes_eq-Decides}
use Rattle.std.specs.Option.{option_map}
use Rattle.std.specs.List.{list_any}
use Rattle.std.specs.Str.{bytes_eq}
use Rattle.fsm_base.specs.Alphabet.{symbols_of, text_of, texts_of}
use Rattle.fsm_base.specs.Symbols.{number_of, with_text}
use Rattle.fsm_base.specs.declared.letters.Sym.{Sym}
use Rattle.word_relations.specs.Words.{IsDistinct}
use Rattle.word_relations.proofs.Members.{Contains-map}
use Rattle.word_relations.proofs.Places.{Contains-from_slice_get, slice_get_from_Contains, take_more-slice_get}
use Rattle.name_resolution.proofs.Texts.{has_from_any, with_text-new}
use Rattle.body_equality.specs.Renumbered.{number_at}
use Rattle.project_definitions.proofs.Numbers.{at_number, number_within}
use Rattle.project_model.proofs.Alphabets.{cases_bool}
use Rattle.project_meaning.specs.Touched.{AreSameSymbols}
use Rattle.touched_names.specs.Itself.{places_among}

-- a text whose number is below the length is there
pub held_below : (text : List ℕ) (texts : List (List ℕ)) → number_of text texts < length texts → Contains texts text
held_below text texts below =
    let there = get_or texts (number_of text texts) [] in
    let is : text ≡ there = (bytes_eq-Decides text there).0 (passes_at_first (bytes_eq text) texts [] below) in
    subst (λ (t : List ℕ). Contains texts t) (sym is) (Contains-get_or texts (number_of text texts) [] below)

-- a text stands at one place
pub number_at_place : (texts : List (List ℕ)) → IsDistinct texts → (k : ℕ) (text : List ℕ) → slice_get texts k ≡ Some text → number_of text texts ≡ k
number_at_place texts distinct k text at = distinct (number_of text texts) k text (at_number texts text (Contains-from_slice_get texts k text at)) at

-- the number that stands at the number of a text is the text's among the others
pub number_there_is : (others texts : List (List ℕ)) (numbers : List ℕ) → numbers ≡ places_among others texts → (text : List ℕ) → Contains texts text
    → number_at numbers (number_of text texts) ≡ number_of text others
number_there_is others texts numbers are text among =
    get_or_from_slice_get numbers (number_of text texts) (number_of text others) (number_of text texts)
    (ap (λ (z : List ℕ). slice_get z (number_of text texts)) are
    ∙ slice_get-map (λ (t : List ℕ). number_of t others) texts (number_of text texts)
    ∙ ap (option_map (λ (t : List ℕ). number_of t others)) (at_number texts text among))

-- a place of a front
pub front_place : {X : Type 0} (n : ℕ) (xs : List X) (k : ℕ) (x : X) → slice_get (take n xs) k ≡ Some x → (k < n) × (slice_get xs k ≡ Some x)
front_place zero [] k x at = cc
front_place zero (y ∷ xs) k x at = cc
front_place (suc n) [] k x at = cc
front_place (suc n) (y ∷ xs) zero x at = (omega arith, at)
front_place (suc n) (y ∷ xs) (suc k) x at = let rest = front_place n xs k x at in (omega (arith, rest.0), rest.1)

-- the next of distinct texts is new
pub with_next : (texts : List (List ℕ)) → IsDistinct texts → (i : ℕ) (text : List ℕ) → slice_get texts i ≡ Some text → with_text text (take i texts) ≡ take (i + 1) texts
with_next texts distinct i text at =
    elim (cases_bool (list_any (bytes_eq text) (take i texts))) as (λ _. with_text text (take i texts) ≡ take (i + 1) texts) [
      | inl had ↦
          let found = slice_get_from_Contains (take i texts) text (has_from_any text (take i texts) had) in
          let front = front_place i texts found.0 text found.1 in
          let same : found.0 ≡ i = distinct found.0 i text front.1 at in
          absurd (omega (arith, same, front.0))
      | inr new ↦ with_text-new text (take i texts) new ∙ sym (take_more-slice_get texts i text at)
    ]

-- the text of the symbol at a place of an alphabet stands there
pub text_at : (alphabet : List (Sym × List ℕ)) → IsDistinct (symbols_of alphabet) → (k : ℕ) (s : Sym) → slice_get (symbols_of alphabet) k ≡ Some s
    → slice_get (texts_of alphabet) k ≡ Some (text_of alphabet s)
text_at [] distinct k s at = cc
text_at (entry ∷ alphabet) distinct zero s at =
    let is : entry.0 ≡ s = same_Some entry.0 s at in
    let test : (s.0 == entry.0.0) ≡ true = equal s.0 entry.0.0 (sym (ap (λ (t : Sym). t.0) is)) in
    ap (λ (b : Bool). Some (cond b entry.1 (text_of alphabet s))) (sym test)
  where
    equal : (n m : ℕ) → n ≡ m → (n == m) ≡ true
    equal n m e = grind (arith, nat_tests)
text_at (entry ∷ alphabet) distinct (suc k) s at =
    let apart : s.0 ≢ entry.0.0 = λ same. later distinct k s at same in
    let test : (s.0 == entry.0.0) ≡ false = differ s.0 entry.0.0 apart in
    text_at alphabet (behind distinct) k s at ∙ ap (λ (b : Bool). Some (cond b entry.1 (text_of alphabet s))) (sym test)
  where
    differ : (n m : ℕ) → n ≢ m → (n == m) ≡ false
    differ n m e = grind (arith, nat_tests)

    behind : IsDistinct (symbols_of (entry ∷ alphabet)) → IsDistinct (symbols_of alphabet)
    behind distinct i j t at_i at_j = let same : suc i ≡ suc j = distinct (suc i) (suc j) t at_i at_j in omega (arith, same)

    later : IsDistinct (symbols_of (entry ∷ alphabet)) → (k : ℕ) (s : Sym) → slice_get (symbols_of alphabet) k ≡ Some s → s.0 ≡ entry.0.0 → ⊥
    later distinct k s at same =
        let whole : s ≡ entry.0 = ap (λ (n : ℕ). record { 0 = n }) same in
        let clash : suc k ≡ 0 = distinct (suc k) 0 s at (ap (λ (t : Sym). Some t) (sym whole)) in
        absurd (omega (arith, clash))

-- each of these texts is among the others exactly where its place is below their number
pub all_held : (others texts : List (List ℕ)) → All (λ (place : ℕ). place < length others) (places_among others texts) ↔ ((text : List ℕ) → Contains texts text → Contains others text)
all_held others texts = (
  λ all text among. held_below text others (All-contains (λ (place : ℕ). place < length others) (places_among others texts) (number_of text others) all (Contains-map (λ (t : List ℕ). number_of t others) texts text among)),
  λ held. All-map (λ (place : ℕ). place < length others) (λ (t : List ℕ). number_of t others) texts
      (All-weaker (Contains texts) (λ (t : List ℕ). number_of t others < length others) (λ t among. number_within others t (held t among)) texts (All-contains_itself texts)),
)

pub same_texts : (old new : List (List ℕ)) → (All (λ (place : ℕ). place < length old) (places_among old new) × All (λ (place : ℕ). place < length new) (places_among new old)) ↔ AreSameSymbols old new
same_texts old new = (
  λ h symbol. ((all_held new old).0 h.1 symbol, (all_held old new).0 h.0 symbol),
  λ same. ((all_held old new).1 (λ text among. (same text).1 among), (all_held new old).1 (λ text among. (same text).0 among)),
)
