-- What networks are that the operators make of automata.
use Rattle.std.proofs.Common.{◌≡◌, ◌↔◌, ◌⊎◌, ℕ, Result, Ok, Err, IfOk, List, [], ◌∷◌, ◌++◌, Option, Some, None, reverse, refl, sym, ap, subst, ◌∙◌, inl, inr}
use Rattle.std.specs.List.{Contains}
use Rattle.std.specs.Option.{option_to_list}
use Rattle.std.proofs.lemmas.List.{reverse-append, reverse-reverse}
use Rattle.fsm_base.specs.declared.letters.Sym.{Sym}
use Rattle.fsm_base.specs.declared.letters.Pair.{Pair}
use Rattle.fsm_base.specs.declared.letters.Bound.{Bound}
use Rattle.fsm_base.specs.declared.letters.Bound.TheVariants.{Edge, Inner}
use Rattle.word_relations.specs.Words.{IsConcatenation}
use Rattle.word_relations.specs.Relations.{AreSame, IsConcatenationOfPairs, IsRepetitionOfPairs, IsIdentity, IsCross, IsInverse, IsUpper, IsLower}
use Rattle.word_relations.proofs.Members.{Contains-nil_cases, Contains-cons_cases, Contains-tail, Contains-map, Contains-map_cases}
use Rattle.word_relations.proofs.Pairs.{concatenation_same, same_trans}
use Rattle.fsa.specs.Automaton.{Automaton, UsesLetter}
use Rattle.fsa.specs.Language.{Accepts}
use Rattle.fst_algebra.specs.Relation.{symbols_on, IsRelated}
use Rattle.fst_algebra.proofs.Languages.{symbols_on-append, RelatedIn, related_same, related_union, related_concatenation}
use Rattle.fst_algebra.specs.Relations.{UsesUpper, UsesLower}
use Rattle.expr_kinds.specs.Kinds.{both}
use Rattle.expr_kinds.specs.declared.form.Kind.{Kind}
use Rattle.expr_kinds.specs.declared.form.Kind.TheVariants.{Language, Relation}
use Rattle.expr_meaning.specs.Operators.{inner, WithEdge, IsItself, IsRepetitionOf}
use Rattle.expr_meaning.proofs.Itself.{Itself, as_it_is, either_itself, concatenation_itself, repetition_itself, reverse_itself, inverse_itself, with_edge_itself}
use Rattle.network_algebra.specs.Networks.{all_letters, UsesOnly, UsesSymbols, IsNetwork, kind_of_network, WordsOf, PairsOf, IsFor, AreOperands}
use Rattle.network_algebra.specs.declared.network.Network.{Network}
use Rattle.network_algebra.specs.declared.network.Network.TheVariants.{Words, Pairs}
use Rattle.network_algebra.specs.declared.operands.Operands.{Operands}
use Rattle.network_algebra.specs.declared.operands.Operands.TheVariants.{Words as BothWords, Pairs as BothPairs}
use Rattle.network_algebra.proofs.Counted.{related_repeated}

-- what two clauses of one result give
pub IfOk-both : {X E : Type 0} (r : Result X E) {P Q R : X → Type 0} → IfOk r P → IfOk r Q → ((x : X) → P x → Q x → R x) → IfOk r R
IfOk-both (Ok x) p q f = f x p q
IfOk-both (Err e) p q f = p

pub no_language : Relation ≡ Language → ⊥
no_language is = cc

-- letters and symbols
pub inner_among : (symbols : List Sym) (x : Sym) → Contains (all_letters symbols) (Inner x) → Contains symbols x
inner_among symbols x h =
    elim (Contains-cons_cases Edge (inner symbols) (Inner x) h) as (λ _. Contains symbols x) [
      | inl e ↦ absurd (apart e)
      | inr t ↦ let r = Contains-map_cases Inner symbols (Inner x) t in subst (Contains symbols) (same r.0 r.2) r.1
    ]
  where
    apart : Edge ≡ Inner x → ⊥
    apart e = cc

    same : (y : Sym) → Inner y ≡ Inner x → y ≡ x
    same y e = cc

pub among_inner : (symbols : List Sym) (x : Sym) → Contains symbols x → Contains (all_letters symbols) (Inner x)
among_inner symbols x h = Contains-tail Edge (inner symbols) (Inner x) (Contains-map Inner symbols x h)

-- a network with the words of the set
pub words_for : (m : Automaton (Bound Sym)) (P : List (Bound Sym) → Type 0) (R : List Sym → List Sym → Type 0) → ((w : List (Bound Sym)) → Accepts m w ↔ P w) → Itself R P → IsFor Language P R (Words m)
words_for m P R language itself = record {
  kind_is = refl;
  words = λ is w. language w;
  pairs = λ u w. (λ h. (itself u w).1 ((language (inner u)).0 h.0, h.1), λ r. let a = (itself u w).0 r in ((language (inner u)).1 a.0, a.1));
}

-- a network that relates the pairs
pub pairs_for : (kind : Kind) (m : Automaton Pair) (P : List (Bound Sym) → Type 0) (R : List Sym → List Sym → Type 0) → kind ≡ Relation → AreSame (IsRelated m) R → IsFor kind P R (Pairs m)
pairs_for kind m P R is same = record {
  kind_is = sym is;
  words = λ language w. absurd (no_language (sym is ∙ language));
  pairs = same;
}

-- a language as a relation
pub itself_related : (m : Automaton Pair) (side : Automaton Sym) (words : Automaton (Bound Sym)) → AreSame (IsRelated m) (IsIdentity (Accepts side)) → ((u : List Sym) → Accepts side u ↔ Accepts words (inner u)) → AreSame (IsRelated m) (IsItself (Accepts words))
itself_related m side words relation inside u w = (
  λ h. let r = (relation u w).0 h in ((inside u).0 r.0, r.1),
  λ h. (relation u w).1 ((inside u).1 h.0, h.1),
)

pub itself_symbols : (m : Automaton Pair) (side : Automaton Sym) (words : Automaton (Bound Sym)) → ((x : Sym) → UsesUpper m x → UsesLetter side x) → ((x : Sym) → UsesLower m x → UsesLetter side x) → ((x : Sym) → UsesLetter side x → UsesLetter words (Inner x)) → (symbols : List Sym) → UsesOnly (all_letters symbols) words → UsesSymbols symbols m
itself_symbols m side words up low inside symbols only = record {
  upper = λ x used. inner_among symbols x (only (Inner x) (inside x (up x used)));
  lower = λ x used. inner_among symbols x (only (Inner x) (inside x (low x used)));
}

-- two operands side by side, and a choice of them
module _ (x y m : Automaton (Bound Sym)) where
  pub concat_words : ((w : List (Bound Sym)) → Accepts m w ↔ IsConcatenation (Accepts x) (Accepts y) w) → IsFor Language (IsConcatenation (Accepts x) (Accepts y)) (IsConcatenationOfPairs (IsItself (Accepts x)) (IsItself (Accepts y))) (Words m)
  concat_words language = words_for m (IsConcatenation (Accepts x) (Accepts y)) (IsConcatenationOfPairs (IsItself (Accepts x)) (IsItself (Accepts y))) language (concatenation_itself (IsItself (Accepts x)) (IsItself (Accepts y)) (Accepts x) (Accepts y) (as_it_is (Accepts x)) (as_it_is (Accepts y)))

  pub union_words : ((w : List (Bound Sym)) → Accepts m w ↔ (Accepts x w ⊎ Accepts y w)) → IsFor Language (λ w. Accepts x w ⊎ Accepts y w) (λ u w. IsItself (Accepts x) u w ⊎ IsItself (Accepts y) u w) (Words m)
  union_words language = words_for m (λ w. Accepts x w ⊎ Accepts y w) (λ u w. IsItself (Accepts x) u w ⊎ IsItself (Accepts y) u w) language (either_itself (IsItself (Accepts x)) (IsItself (Accepts y)) (Accepts x) (Accepts y) (as_it_is (Accepts x)) (as_it_is (Accepts y)))

module _ (x y m : Automaton Pair) (R S : List Sym → List Sym → Type 0) (f : AreSame (IsRelated x) R) (g : AreSame (IsRelated y) S) where
  pub concat_pairs : ((w : List Pair) → Accepts m w ↔ IsConcatenation (Accepts x) (Accepts y) w) → AreSame (IsRelated m) (IsConcatenationOfPairs R S)
  concat_pairs language =
      same_trans (IsRelated m) (IsConcatenationOfPairs (IsRelated x) (IsRelated y)) (IsConcatenationOfPairs R S)
      (same_trans (IsRelated m) (RelatedIn (IsConcatenation (Accepts x) (Accepts y))) (IsConcatenationOfPairs (IsRelated x) (IsRelated y)) (related_same (Accepts m) (IsConcatenation (Accepts x) (Accepts y)) language) (related_concatenation (Accepts x) (Accepts y)))
      (concatenation_same (IsRelated x) (IsRelated y) R S f g)

  pub union_pairs : ((w : List Pair) → Accepts m w ↔ (Accepts x w ⊎ Accepts y w)) → AreSame (IsRelated m) (λ u w. R u w ⊎ S u w)
  union_pairs language u w = (
    λ h. elim (either.0 h) as (λ _. R u w ⊎ S u w) [ inl a ↦ inl ((f u w).0 a) | inr b ↦ inr ((g u w).0 b) ],
    λ h. either.1 (elim h as (λ _. IsRelated x u w ⊎ IsRelated y u w) [ inl a ↦ inl ((f u w).1 a) | inr b ↦ inr ((g u w).1 b) ]),
  )
    where
      either : IsRelated m u w ↔ (IsRelated x u w ⊎ IsRelated y u w)
      either = same_trans (IsRelated m) (RelatedIn (λ v. Accepts x v ⊎ Accepts y v)) (λ u w. IsRelated x u w ⊎ IsRelated y u w) (related_same (Accepts m) (λ v. Accepts x v ⊎ Accepts y v) language) (related_union (Accepts x) (Accepts y)) u w

pub letters_of_two : (letters : List (Bound Sym)) (x y m : Automaton (Bound Sym)) → ((l : Bound Sym) → UsesLetter m l → UsesLetter x l ⊎ UsesLetter y l) → UsesOnly letters x → UsesOnly letters y → UsesOnly letters m
letters_of_two letters x y m used first second l h = elim (used l h) as (λ _. Contains letters l) [ inl a ↦ first l a | inr b ↦ second l b ]

pub symbols_of_two : (symbols : List Sym) (x y m : Automaton Pair) → ((l : Pair) → UsesLetter m l → UsesLetter x l ⊎ UsesLetter y l) → UsesSymbols symbols x → UsesSymbols symbols y → UsesSymbols symbols m
symbols_of_two symbols x y m used first second = record {
  upper = λ s (pair, h, on). elim (used pair h) as (λ _. Contains symbols s) [ inl a ↦ first.upper s (pair, a, on) | inr b ↦ second.upper s (pair, b, on) ];
  lower = λ s (pair, h, on). elim (used pair h) as (λ _. Contains symbols s) [ inl a ↦ first.lower s (pair, a, on) | inr b ↦ second.lower s (pair, b, on) ];
}

pub symbols_of_one : (symbols : List Sym) (x m : Automaton Pair) → ((l : Pair) → UsesLetter m l → UsesLetter x l) → UsesSymbols symbols x → UsesSymbols symbols m
symbols_of_one symbols x m used first = record {
  upper = λ s (pair, h, on). first.upper s (pair, used pair h, on);
  lower = λ s (pair, h, on). first.lower s (pair, used pair h, on);
}

-- two operands of one kind
module _ (a b : Network) (o : Operands) (ok : AreOperands a b o) where
  abbrev Concat : Network → Type 0
  Concat n = IsFor (both (kind_of_network a) (kind_of_network b)) (IsConcatenation (WordsOf a) (WordsOf b)) (IsConcatenationOfPairs (PairsOf a) (PairsOf b)) n

  abbrev Union : Network → Type 0
  Union n = IsFor (both (kind_of_network a) (kind_of_network b)) (λ w. WordsOf a w ⊎ WordsOf b w) (λ u w. PairsOf a u w ⊎ PairsOf b u w) n

  module _ (x y m : Automaton (Bound Sym)) (is : o ≡ BothWords x y) where
    pub they_are : (a ≡ Words x) × (b ≡ Words y)
    they_are = subst (AreOperands a b) is ok

    pub concat_of_words : ((w : List (Bound Sym)) → Accepts m w ↔ IsConcatenation (Accepts x) (Accepts y) w) → Concat (Words m)
    concat_of_words language =
        subst (λ z. IsFor (both (kind_of_network z) (kind_of_network b)) (IsConcatenation (WordsOf z) (WordsOf b)) (IsConcatenationOfPairs (PairsOf z) (PairsOf b)) (Words m)) (sym they_are.0)
        (subst (λ z. IsFor (kind_of_network z) (IsConcatenation (Accepts x) (WordsOf z)) (IsConcatenationOfPairs (IsItself (Accepts x)) (PairsOf z)) (Words m)) (sym they_are.1) (concat_words x y m language))

    pub union_of_words : ((w : List (Bound Sym)) → Accepts m w ↔ (Accepts x w ⊎ Accepts y w)) → Union (Words m)
    union_of_words language =
        subst (λ z. IsFor (both (kind_of_network z) (kind_of_network b)) (λ w. WordsOf z w ⊎ WordsOf b w) (λ u w. PairsOf z u w ⊎ PairsOf b u w) (Words m)) (sym they_are.0)
        (subst (λ z. IsFor (kind_of_network z) (λ w. Accepts x w ⊎ WordsOf z w) (λ u w. IsItself (Accepts x) u w ⊎ PairsOf z u w) (Words m)) (sym they_are.1) (union_words x y m language))

    pub letters_of_words : ((l : Bound Sym) → UsesLetter m l → UsesLetter x l ⊎ UsesLetter y l) → (symbols : List Sym) → IsNetwork symbols a → IsNetwork symbols b → UsesOnly (all_letters symbols) m
    letters_of_words used symbols first second = letters_of_two (all_letters symbols) x y m used (subst (IsNetwork symbols) they_are.0 first) (subst (IsNetwork symbols) they_are.1 second)

  module _ (x y m : Automaton Pair) (is : o ≡ BothPairs x y) where
    pub they_relate : AreOperands a b (BothPairs x y)
    they_relate = subst (AreOperands a b) is ok

    pub concat_of_pairs : ((w : List Pair) → Accepts m w ↔ IsConcatenation (Accepts x) (Accepts y) w) → Concat (Pairs m)
    concat_of_pairs language =
        pairs_for (both (kind_of_network a) (kind_of_network b)) m (IsConcatenation (WordsOf a) (WordsOf b)) (IsConcatenationOfPairs (PairsOf a) (PairsOf b)) they_relate.0
        (concat_pairs x y m (PairsOf a) (PairsOf b) they_relate.1 they_relate.2 language)

    pub union_of_pairs : ((w : List Pair) → Accepts m w ↔ (Accepts x w ⊎ Accepts y w)) → Union (Pairs m)
    union_of_pairs language =
        pairs_for (both (kind_of_network a) (kind_of_network b)) m (λ w. WordsOf a w ⊎ WordsOf b w) (λ u w. PairsOf a u w ⊎ PairsOf b u w) they_relate.0
        (union_pairs x y m (PairsOf a) (PairsOf b) they_relate.1 they_relate.2 language)

    pub symbols_of_pairs : ((l : Pair) → UsesLetter m l → UsesLetter x l ⊎ UsesLetter y l) → (symbols : List Sym) → IsNetwork symbols a → IsNetwork symbols b → UsesSymbols symbols m
    symbols_of_pairs used symbols first second = symbols_of_two symbols x y m used (they_relate.3 symbols first) (they_relate.4 symbols second)

-- repeated
pub repeated_words : (C : ℕ → Type 0) (x m : Automaton (Bound Sym)) → ((w : List (Bound Sym)) → Accepts m w ↔ IsRepetitionOf C (Accepts x) w) → IsFor Language (IsRepetitionOf C (Accepts x)) (IsRepetitionOfPairs C (IsItself (Accepts x))) (Words m)
repeated_words C x m language = words_for m (IsRepetitionOf C (Accepts x)) (IsRepetitionOfPairs C (IsItself (Accepts x))) language (repetition_itself (IsItself (Accepts x)) (Accepts x) (as_it_is (Accepts x)) C)

pub repeated_pairs : (C : ℕ → Type 0) (x m : Automaton Pair) → ((w : List Pair) → Accepts m w ↔ IsRepetitionOf C (Accepts x) w) → AreSame (IsRelated m) (IsRepetitionOfPairs C (IsRelated x))
repeated_pairs C x m language =
    same_trans (IsRelated m) (RelatedIn (IsRepetitionOf C (Accepts x))) (IsRepetitionOfPairs C (IsRelated x)) (related_same (Accepts m) (IsRepetitionOf C (Accepts x)) language) (related_repeated (Accepts x) C)

-- a smaller automaton
pub reduced_words : (x m : Automaton (Bound Sym)) → ((w : List (Bound Sym)) → Accepts m w ↔ Accepts x w) → IsFor Language (Accepts x) (IsItself (Accepts x)) (Words m)
reduced_words x m language = words_for m (Accepts x) (IsItself (Accepts x)) language (as_it_is (Accepts x))

pub reduced_pairs : (x m : Automaton Pair) → ((w : List Pair) → Accepts m w ↔ Accepts x w) → IsFor Relation (WordsOf (Pairs x)) (IsRelated x) (Pairs m)
reduced_pairs x m language = pairs_for Relation m (WordsOf (Pairs x)) (IsRelated x) refl (related_same (Accepts m) (Accepts x) language)

-- read backwards
one_backwards : {X : Type 0} (o : Option X) → reverse (option_to_list o) ≡ option_to_list o
one_backwards None = refl
one_backwards (Some x) = refl

side_backwards : (side : Pair → Option Sym) (v : List Pair) → symbols_on side (reverse v) ≡ reverse (symbols_on side v)
side_backwards side [] = refl
side_backwards side (x ∷ v) =
    ap (symbols_on side) (reverse-append (x ∷ []) v) ∙ symbols_on-append side (reverse v) (reverse (x ∷ [])) ∙ ap (λ (z : List Sym). z ++ symbols_on side (reverse (x ∷ []))) (side_backwards side v)
    ∙ ap (λ (z : List Sym). reverse (symbols_on side v) ++ z) (single (side x)) ∙ sym (reverse-append (option_to_list (side x)) (symbols_on side v))
  where
    single : (o : Option Sym) → option_to_list o ++ [] ≡ reverse (option_to_list o)
    single None = refl
    single (Some s) = refl

pub reversed_pairs : (x m : Automaton Pair) → ((w : List Pair) → Accepts m w ↔ Accepts x (reverse w)) → AreSame (IsRelated m) (λ u w. IsRelated x (reverse u) (reverse w))
reversed_pairs x m language u w = (
  λ (v, path, e, d). (
    reverse v,
    (language v).0 path,
    side_backwards (λ pair. pair.up) v ∙ ap reverse e,
    side_backwards (λ pair. pair.low) v ∙ ap reverse d,
  ),
  λ (v, path, e, d). (
    reverse v,
    (language (reverse v)).1 (subst (Accepts x) (sym (reverse-reverse v)) path),
    side_backwards (λ pair. pair.up) v ∙ ap reverse e ∙ reverse-reverse u,
    side_backwards (λ pair. pair.low) v ∙ ap reverse d ∙ reverse-reverse w,
  ),
)

pub reversed_words : (x m : Automaton (Bound Sym)) → ((w : List (Bound Sym)) → Accepts m w ↔ Accepts x (reverse w)) → IsFor Language (λ w. Accepts x (reverse w)) (λ u w. IsItself (Accepts x) (reverse u) (reverse w)) (Words m)
reversed_words x m language = words_for m (λ w. Accepts x (reverse w)) (λ u w. IsItself (Accepts x) (reverse u) (reverse w)) language (reverse_itself (IsItself (Accepts x)) (Accepts x) (as_it_is (Accepts x)))

-- the inverse of a language is the language
pub inverse_words : (x : Automaton (Bound Sym)) → IsFor Language (Accepts x) (IsInverse (IsItself (Accepts x))) (Words x)
inverse_words x = words_for x (Accepts x) (IsInverse (IsItself (Accepts x))) (λ w. (λ h. h, λ h. h)) (inverse_itself (IsItself (Accepts x)) (Accepts x) (as_it_is (Accepts x)))

-- a side as a language
pub side_words : (m : Automaton (Bound Sym)) (side : Automaton Sym) (P Q : List Sym → Type 0) → ((w : List (Bound Sym)) → Accepts m w ↔ WithEdge (Accepts side) w) → ((u : List Sym) → Accepts side u ↔ P u) → ((u : List Sym) → P u ↔ Q u) → IsFor Language (WithEdge Q) (λ u w. Q u × (u ≡ w)) (Words m)
side_words m side P Q edged language same =
    words_for m (WithEdge Q) (λ u w. Q u × (u ≡ w))
    (λ w. (λ h. let r = (edged w).0 h in (r.0, r.1, (same r.0).0 ((language r.0).0 r.2)), λ (u, is, q). (edged w).1 (u, is, (language u).1 ((same u).1 q))))
    (with_edge_itself Q)

pub upper_same : (R S : List Sym → List Sym → Type 0) → AreSame R S → (u : List Sym) → IsUpper R u ↔ IsUpper S u
upper_same R S f u = (λ (w, r). (w, (f u w).0 r), λ (w, s). (w, (f u w).1 s))

pub lower_same : (R S : List Sym → List Sym → Type 0) → AreSame R S → (w : List Sym) → IsLower R w ↔ IsLower S w
lower_same R S f w = (λ (u, r). (u, (f u w).0 r), λ (u, s). (u, (f u w).1 s))

pub side_letters : (symbols : List Sym) (m : Automaton (Bound Sym)) (side : Automaton Sym) → ((x : Bound Sym) → UsesLetter m x → (s : Sym) × UsesLetter side s × (x ≡ Inner s)) → ((s : Sym) → UsesLetter side s → Contains symbols s) → UsesOnly (all_letters symbols) m
side_letters symbols m side letters among x used =
    let r = letters x used in
    subst (Contains (all_letters symbols)) (sym r.2) (among_inner symbols r.0 (among r.0 r.1))

-- the cross product of two languages
pub crossed_pairs : (a b : Automaton (Bound Sym)) (x y : Automaton Sym) (m : Automaton Pair) → AreSame (IsRelated m) (IsCross (Accepts x) (Accepts y)) → ((u : List Sym) → Accepts x u ↔ Accepts a (inner u)) → ((u : List Sym) → Accepts y u ↔ Accepts b (inner u)) → AreSame (IsRelated m) (λ u w. Accepts a (inner u) × Accepts b (inner w))
crossed_pairs a b x y m relation first second u w = (
  λ h. let r = (relation u w).0 h in ((first u).0 r.0, (second w).0 r.1),
  λ h. (relation u w).1 ((first u).1 h.0, (second w).1 h.1),
)

pub crossed_symbols : (a b : Automaton (Bound Sym)) (x y : Automaton Sym) (m : Automaton Pair) → ((s : Sym) → UsesUpper m s → UsesLetter x s) → ((s : Sym) → UsesLower m s → UsesLetter y s) → ((s : Sym) → UsesLetter x s → UsesLetter a (Inner s)) → ((s : Sym) → UsesLetter y s → UsesLetter b (Inner s))
    → (symbols : List Sym) → UsesOnly (all_letters symbols) a → UsesOnly (all_letters symbols) b → UsesSymbols symbols m
crossed_symbols a b x y m up low first second symbols only other = record {
  upper = λ s used. inner_among symbols s (only (Inner s) (first s (up s used)));
  lower = λ s used. inner_among symbols s (other (Inner s) (second s (low s used)));
}

-- a letter of one of two automata, where both have letters of a third alone
pub of_either : {A B C : Type 0} → A ⊎ B → (A → C) → (B → C) → C
of_either or f g = elim or [ inl a ↦ f a | inr b ↦ g b ]

-- letters of automata that were joined, among those of another
module _ {L : Type 0} (whole : Automaton L) where
  pub none_used : (m : Automaton L) → ((x : L) → UsesLetter m x → Contains [] x) → (x : L) → UsesLetter m x → UsesLetter whole x
  none_used m letters x used = absurd (Contains-nil_cases x (letters x used))

  pub joined_used : (a b m : Automaton L) → ((x : L) → UsesLetter a x → UsesLetter whole x) → ((x : L) → UsesLetter b x → UsesLetter whole x) → ((x : L) → UsesLetter m x → UsesLetter a x ⊎ UsesLetter b x) → (x : L) → UsesLetter m x → UsesLetter whole x
  joined_used a b m first second letters x used = of_either (letters x used) (first x) (second x)
