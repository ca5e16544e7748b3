-- Networks on whose paths conditions stand: what is left where these are made states, and two operands of which one has them.
use Rattle.std.proofs.Common.{◌≡◌, ◌⊎◌, ℕ, List, reverse, refl, sym, ap, subst, ◌∙◌, inl, inr}
use Rattle.std.specs.List.{Contains}
use Rattle.fsm_base.specs.declared.letters.Sym.{Sym}
use Rattle.fsm_base.specs.declared.letters.Pair.{Pair}
use Rattle.fsm_base.specs.declared.letters.Bound.{Bound}
use Rattle.word_relations.specs.Relations.{AreSame, IsRepetitionOfPairs}
use Rattle.word_relations.proofs.Pairs.{same_trans, repetition_same}
use Rattle.fsa.specs.Automaton.{Automaton}
use Rattle.fsa.specs.Language.{Accepts}
use Rattle.fst_algebra.specs.Relation.{IsRelated}
use Rattle.fst_algebra.specs.Relations.{UsesUpper, UsesLower}
use Rattle.fst_flagged.specs.Flagged.{FlaggedView, FlaggedRelates, UsesLetters}
use Rattle.expr_kinds.specs.Kinds.{both}
use Rattle.expr_meaning.specs.Operators.{IsRepetitionOf}
use Rattle.expr_kinds.specs.declared.form.Kind.{Kind}
use Rattle.expr_kinds.specs.declared.form.Kind.TheVariants.{Language, Relation}
use Rattle.network_algebra.specs.Networks.{UsesSymbols, IsNetwork, kind_of_network, WordsOf, PairsOf, IsFor, RelatesOnly, AreOperands}
use Rattle.network_algebra.specs.declared.network.Network.{Network}
use Rattle.network_algebra.specs.declared.network.Network.TheVariants.{Words, Pairs}
use Rattle.network_algebra.specs.declared.operands.Operands.{Operands}
use Rattle.network_algebra.specs.declared.operands.Operands.TheVariants.{Words as BothWords, Pairs as BothPairs, Flagged as BothFlagged}
use Rattle.network_algebra.proofs.Meanings.{no_language, reversed_pairs, repeated_pairs}

-- a relation beside anything is a relation
pub relation_behind : (kind : Kind) → both kind Relation ≡ Relation
relation_behind Language = refl
relation_behind Relation = refl

-- a network that relates the pairs
pub flagged_for : (kind : Kind) (n : Network) (P : List (Bound Sym) → Type 0) (R : List Sym → List Sym → Type 0) → kind ≡ Relation → RelatesOnly R n → IsFor kind P R n
flagged_for kind n P R is only = record {
  kind_is = only.kind_is ∙ sym is;
  words = λ language w. absurd (no_language (sym is ∙ language));
  pairs = only.pairs;
}

-- the conditions of one network made states
module _ (f : FlaggedView) (m : Automaton Pair) where
  pub resolved_symbols : ((symbols : List Sym) → UsesLetters symbols f → (x : Sym) → UsesUpper m x → Contains symbols x) → ((symbols : List Sym) → UsesLetters symbols f → (x : Sym) → UsesLower m x → Contains symbols x) → (symbols : List Sym) → UsesLetters symbols f → UsesSymbols symbols m
  resolved_symbols upper lower symbols uses = record { upper = upper symbols uses; lower = lower symbols uses }

  module _ (same : AreSame (IsRelated m) (FlaggedRelates f)) where
    pub resolved_repeated : (C : ℕ → Type 0) (new : Automaton Pair) → ((w : List Pair) → (Accepts new w → IsRepetitionOf C (Accepts m) w) × (IsRepetitionOf C (Accepts m) w → Accepts new w)) → AreSame (IsRelated new) (IsRepetitionOfPairs C (FlaggedRelates f))
    resolved_repeated C new language = same_trans (IsRelated new) (IsRepetitionOfPairs C (IsRelated m)) (IsRepetitionOfPairs C (FlaggedRelates f)) (repeated_pairs C m new language) (repetition_same C (IsRelated m) (FlaggedRelates f) same)

    pub resolved_reversed : (new : Automaton Pair) → ((w : List Pair) → (Accepts new w → Accepts m (reverse w)) × (Accepts m (reverse w) → Accepts new w)) → AreSame (IsRelated new) (λ u w. FlaggedRelates f (reverse u) (reverse w))
    resolved_reversed new language = same_trans (IsRelated new) (λ u w. IsRelated m (reverse u) (reverse w)) (λ u w. FlaggedRelates f (reverse u) (reverse w)) (reversed_pairs m new language) (λ u w. same (reverse u) (reverse w))

-- a plain transducer as one that may have conditions
pub plain_letters : (symbols : List Sym) (m : Automaton Pair) (f : FlaggedView) → f.net ≡ m → UsesSymbols symbols m → UsesLetters symbols f
plain_letters symbols m f is uses =
    let here : UsesSymbols symbols f.net = subst (UsesSymbols symbols) (sym is) uses in
    record { upper = λ x used below. here.upper x used; lower = λ x used. here.lower x used }

-- the operands stand for another first network, which is a relation of the same pairs
pub first_along : (a b : Network) (m : Automaton Pair) (o : Operands) → kind_of_network b ≡ Relation → AreSame (IsRelated m) (PairsOf a) → ((symbols : List Sym) → IsNetwork symbols a → UsesSymbols symbols m) → AreOperands (Pairs m) b o → AreOperands a b o
first_along a b m (BothWords x y) kind same letters ok = absurd (apart ok.0)
  where
    apart : Pairs m ≡ Words x → ⊥
    apart e = cc
first_along a b m (BothPairs x y) kind same letters ok = (
  ap (both (kind_of_network a)) kind ∙ relation_behind (kind_of_network a),
  same_trans (IsRelated x) (IsRelated m) (PairsOf a) ok.1 same,
  ok.2,
  λ symbols h. ok.3 symbols (letters symbols h),
  ok.4,
)
first_along a b m (BothFlagged f g) kind same letters ok = (
  ap (both (kind_of_network a)) kind ∙ relation_behind (kind_of_network a),
  same_trans (FlaggedRelates f) (IsRelated m) (PairsOf a) ok.1 same,
  ok.2,
  λ symbols h. ok.3 symbols (letters symbols h),
  ok.4,
)

-- and for another second network
pub second_along : (a b : Network) (m : Automaton Pair) (o : Operands) → kind_of_network a ≡ Relation → AreSame (IsRelated m) (PairsOf b) → ((symbols : List Sym) → IsNetwork symbols b → UsesSymbols symbols m) → AreOperands a (Pairs m) o → AreOperands a b o
second_along a b m (BothWords x y) kind same letters ok = absurd (apart ok.1)
  where
    apart : Pairs m ≡ Words y → ⊥
    apart e = cc
second_along a b m (BothPairs x y) kind same letters ok = (
  ap (λ (k : Kind). both k (kind_of_network b)) kind,
  ok.1,
  same_trans (IsRelated y) (IsRelated m) (PairsOf b) ok.2 same,
  ok.3,
  λ symbols h. ok.4 symbols (letters symbols h),
)
second_along a b m (BothFlagged f g) kind same letters ok = (
  ap (λ (k : Kind). both k (kind_of_network b)) kind,
  ok.1,
  same_trans (FlaggedRelates g) (IsRelated m) (PairsOf b) ok.2 same,
  ok.3,
  λ symbols h. ok.4 symbols (letters symbols h),
)

-- what two operands that may have conditions make
module _ (a b : Network) (o : Operands) (ok : AreOperands a b o) (f g : FlaggedView) (is : o ≡ BothFlagged f g) where
  pub they_may : AreOperands a b (BothFlagged f g)
  they_may = subst (AreOperands a b) is ok

  pub union_of_either : (n : Network) → RelatesOnly (λ u w. FlaggedRelates f u w ⊎ FlaggedRelates g u w) n → IsFor (both (kind_of_network a) (kind_of_network b)) (λ w. WordsOf a w ⊎ WordsOf b w) (λ u w. PairsOf a u w ⊎ PairsOf b u w) n
  union_of_either n only =
      flagged_for (both (kind_of_network a) (kind_of_network b)) n (λ w. WordsOf a w ⊎ WordsOf b w) (λ u w. PairsOf a u w ⊎ PairsOf b u w) they_may.0
      (record {
        kind_is = only.kind_is;
        pairs = same_trans (PairsOf n) (λ u w. FlaggedRelates f u w ⊎ FlaggedRelates g u w) (λ u w. PairsOf a u w ⊎ PairsOf b u w) only.pairs either;
      })
    where
      either : AreSame (λ u w. FlaggedRelates f u w ⊎ FlaggedRelates g u w) (λ u w. PairsOf a u w ⊎ PairsOf b u w)
      either u w = (
        λ h. elim h as (λ _. PairsOf a u w ⊎ PairsOf b u w) [ inl r ↦ inl ((they_may.1 u w).0 r) | inr r ↦ inr ((they_may.2 u w).0 r) ],
        λ h. elim h as (λ _. FlaggedRelates f u w ⊎ FlaggedRelates g u w) [ inl r ↦ inl ((they_may.1 u w).1 r) | inr r ↦ inr ((they_may.2 u w).1 r) ],
      )

  pub letters_of_either : (n : Network) → ((symbols : List Sym) → UsesLetters symbols f → UsesLetters symbols g → IsNetwork symbols n) → (symbols : List Sym) → IsNetwork symbols a → IsNetwork symbols b → IsNetwork symbols n
  letters_of_either n letters symbols first second = letters symbols (they_may.3 symbols first) (they_may.4 symbols second)

  -- where the conditions of both are made states they are operands without conditions
  pub both_resolved : (x y : Automaton Pair) → AreSame (IsRelated x) (FlaggedRelates f) → AreSame (IsRelated y) (FlaggedRelates g) → ((symbols : List Sym) → UsesLetters symbols f → UsesSymbols symbols x) → ((symbols : List Sym) → UsesLetters symbols g → UsesSymbols symbols y) → AreOperands a b (BothPairs x y)
  both_resolved x y first second xs ys = (
    they_may.0,
    same_trans (IsRelated x) (FlaggedRelates f) (PairsOf a) first they_may.1,
    same_trans (IsRelated y) (FlaggedRelates g) (PairsOf b) second they_may.2,
    λ symbols h. xs symbols (they_may.3 symbols h),
    λ symbols h. ys symbols (they_may.4 symbols h),
  )
