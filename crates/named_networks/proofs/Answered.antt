-- Lines that tell how languages over symbols compare tell it of the languages of names.
use Rattle.std.proofs.Common.{◌≡◌, ◌↔◌, ◌++◌, ◌∷◌, ℕ, Bool, true, false, List, IsTrue, codes, refl, subst, inl, inr}
use Rattle.word_relations.specs.Relations.{AreSame, IsUpper}
use Rattle.word_relations.specs.Words.{IsOver}
use Rattle.fsm_base.specs.Alphabet.{IsAlphabet, spelled, symbols_of}
use Rattle.fsm_base.specs.declared.letters.Sym.{Sym}
use Rattle.fsm_base.specs.declared.letters.Pair.{Pair}
use Rattle.fsa.specs.Automaton.{Automaton}
use Rattle.fsa.specs.Complete.{Accepts, Complete}
use Rattle.fsa.specs.Language as language
use Rattle.fst_algebra.specs.Relation.{IsRelated}
use Rattle.expr_kinds.specs.declared.form.Kind.TheVariants.{Language, Relation}
use Rattle.expr_spelling.specs.Laws.{IsSpelled}
use Rattle.lang_algebra.specs.Languages.{IsLang}
use Rattle.lang_equal.specs.Difference.{Differs, IsOutside, IsShortest}
use Rattle.lang_equal.proofs.Pairs.{accepted_over}
use Rattle.network_algebra.specs.Networks.{PairsOf, kind_of_network}
use Rattle.network_algebra.specs.declared.network.Network.{Network}
use Rattle.network_algebra.specs.declared.network.Network.TheVariants.{Flagged, Pairs, Words}
use Rattle.project_meaning.specs.Meaning.{Meaning, Word}
use Rattle.project_meaning.specs.Projects.{Project}
use Rattle.reply_meaning.specs.Replies.{headed}
use Rattle.named_networks.specs.Comparisons.{HasWord, IsComparison, in_first, in_second, outside, same, within, word_told}
use Rattle.named_networks.specs.Languages.{AreSpelled}
use Rattle.named_networks.specs.Lines.{all_told, differ_head}
use Rattle.named_networks.specs.declared.told.Question.{Question}
use Rattle.named_networks.specs.declared.told.Question.TheVariants.{Equal, Within}
use Rattle.named_networks.proofs.Spelled.{differs_spelled, none_spelled, outside_spelled, shortest_spelled, to_texts}

other_kind : Relation ≡ Language → ⊥
other_kind e = cc

-- a language relates words to themselves alone
pub itself : (n : Network) → kind_of_network n ≡ Language → (u w : List Sym) → PairsOf n u w → PairsOf n u u
itself (Words m) kind u w (accepted, is) = (accepted, refl)
itself (Pairs m) kind u w related = absurd (other_kind kind)
itself (Flagged f) kind u w related = absurd (other_kind kind)

-- the words of its transducer's upper side are those that it relates to themselves
pub language_is : (n : Network) → kind_of_network n ≡ Language → (pairs : Automaton Pair) → AreSame (IsRelated pairs) (PairsOf n) → (m : Automaton Sym) → ((w : List Sym) → language.Accepts m w ↔ IsUpper (IsRelated pairs) w)
    → (symbols : List Sym) (lang : Complete Sym) → IsLang symbols (language.Accepts m) lang → IsLang symbols (λ word. PairsOf n word word) lang
language_is n kind pairs same_pairs m upper symbols lang is = record {
  complete = is.complete;
  over = is.over;
  words = λ w. (
    λ h. (let (lower, related) = (upper w).0 ((is.words w).0 h) in itself n kind w lower ((same_pairs w lower).0 related)),
    λ h. (is.words w).1 ((upper w).1 (w, (same_pairs w w).1 h)),
  );
}

-- the language of a network is that of its name
pub language_spelled : (alphabet : List (Sym × List ℕ)) (project : Project) (name : List ℕ) (n : Network) (lang : Complete Sym) → kind_of_network n ≡ Language → IsSpelled alphabet (PairsOf n) (Meaning project name)
    → IsLang (symbols_of alphabet) (λ word. PairsOf n word word) lang → AreSpelled alphabet (Accepts lang) (HasWord project name)
language_spelled alphabet project name n lang kind means is = record {
  over = λ w h. (means.over w w ((is.words w).0 h)).0;
  same = λ texts. (
    λ m. let (u, w, related, e, d) = (means.same texts texts).0 m in (u, (is.words u).1 (itself n kind u w related), e),
    λ (w, h, e). (means.same texts texts).1 (w, w, (is.words w).0 h, e, e),
  );
}

-- a word in one of two languages over the same letters is over them
pub outside_over : (letters : List Sym) (a b : Complete Sym) → a.letters ≡ letters → (w : List Sym) → IsOutside (Accepts a) (Accepts b) w → IsOver letters w
outside_over letters a b first_is w h = subst (λ (ls : List Sym). IsOver ls w) first_is (accepted_over a 0 w h.0)

pub differs_over : (letters : List Sym) (a b : Complete Sym) → a.letters ≡ letters → b.letters ≡ letters → (w : List Sym) → Differs (Accepts a) (Accepts b) w → IsOver letters w
differs_over letters a b first_is second_is w h = elim h as (λ _. IsOver letters w) [ inl one ↦ outside_over letters a b first_is w one | inr other ↦ outside_over letters b a second_is w other ]

-- one language is the same as itself
pub alone : (project : Project) (version : ℕ) (question : Question) (name line : List ℕ) → line ≡ headed version (all_told question) → IsComparison project version question name name line
alone project version Equal name line is = (codes "same", same (λ w h. elim h [ inl one ↦ one.1 one.0 | inr one ↦ one.1 one.0 ]) refl, is)
alone project version Within name line is = (codes "within", within (λ w h. h.1 h.0) refl, is)

module _ (alphabet : List (Sym × List ℕ)) (formed : IsAlphabet alphabet) (project : Project) (version : ℕ) (one other : List ℕ) (P Q : List Sym → Type 0)
    (p : AreSpelled alphabet P (HasWord project one)) (q : AreSpelled alphabet Q (HasWord project other)) (line : List ℕ) where
  abbrev S : Word → Type 0
  S = HasWord project one

  abbrev T : Word → Type 0
  T = HasWord project other

  differs : AreSpelled alphabet (Differs P Q) (Differs S T)
  differs = differs_spelled alphabet formed P Q S T p q

  pub told_same : ((w : List Sym) → ¬ (Differs P Q w)) → line ≡ headed version (all_told Equal) → IsComparison project version Equal one other line
  told_same none is = (codes "same", same (none_spelled alphabet formed (Differs P Q) (Differs S T) differs none) refl, is)

  pub told_differ : (first : Bool) (w : List Sym) → IsShortest (Differs P Q) w → IsTrue first ↔ P w → line ≡ headed version (differ_head first ++ 32 ∷ word_told (spelled alphabet w)) → IsComparison project version Equal one other line
  told_differ true w shortest side is = (
    codes "differ 1 " ++ word_told (spelled alphabet w),
    in_first (spelled alphabet w) (shortest_spelled alphabet formed (Differs P Q) (Differs S T) differs w shortest) (to_texts alphabet formed P S p w (side.0 refl)) refl,
    is,
  )
  told_differ false w shortest side is = (
    codes "differ 2 " ++ word_told (spelled alphabet w),
    in_second (spelled alphabet w) (shortest_spelled alphabet formed (Differs P Q) (Differs S T) differs w shortest) (to_texts alphabet formed Q T q w (second shortest.inside)) refl,
    is,
  )
    where
      never : IsTrue false → ⊥
      never e = cc

      second : Differs P Q w → Q w
      second h = elim h as (λ _. Q w) [ inl left ↦ absurd (never (side.1 left.0)) | inr right ↦ right.0 ]

  abbrev outsides : AreSpelled alphabet (IsOutside P Q) (IsOutside S T)
  outsides = outside_spelled alphabet formed P Q S T p q

  pub told_within : ((w : List Sym) → ¬ (IsOutside P Q w)) → line ≡ headed version (all_told Within) → IsComparison project version Within one other line
  told_within none is = (codes "within", within (none_spelled alphabet formed (IsOutside P Q) (IsOutside S T) outsides none) refl, is)

  pub told_outside : (w : List Sym) → IsShortest (IsOutside P Q) w → line ≡ headed version (codes "outside" ++ 32 ∷ word_told (spelled alphabet w)) → IsComparison project version Within one other line
  told_outside w shortest is =
      (codes "outside " ++ word_told (spelled alphabet w), outside (spelled alphabet w) (shortest_spelled alphabet formed (IsOutside P Q) (IsOutside S T) outsides w shortest) refl, is)
