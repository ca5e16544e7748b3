-- The composition of two networks of one kind.
use Rattle.std.proofs.Common.{◌≡◌, ◌↔◌, List, sym, subst}
use Rattle.fsm_base.specs.declared.letters.Sym.{Sym}
use Rattle.fsm_base.specs.declared.letters.Pair.{Pair}
use Rattle.fsm_base.specs.declared.letters.Bound.{Bound}
use Rattle.word_relations.specs.Relations.{AreSame, IsComposition}
use Rattle.word_relations.proofs.Pairs.{same_trans}
use Rattle.fsa.specs.Automaton.{Automaton}
use Rattle.fsa.specs.Language.{Accepts}
use Rattle.fst_algebra.specs.Relation.{IsRelated}
use Rattle.fst_algebra.specs.Relations.{UsesUpper, UsesLower}
use Rattle.expr_kinds.specs.Kinds.{both}
use Rattle.expr_meaning.specs.Operators.{IsItself}
use Rattle.expr_meaning.proofs.Itself.{as_it_is, composition_itself}
use Rattle.network_algebra.specs.Networks.{all_letters, UsesOnly, UsesSymbols, IsNetwork, kind_of_network, WordsOf, PairsOf, IsFor, RelatesOnly, AreOperands}
use Rattle.network_algebra.specs.declared.network.Network.{Network}
use Rattle.network_algebra.specs.declared.network.Network.TheVariants.{Words, Pairs}
use Rattle.network_algebra.specs.declared.operands.Operands.{Operands}
use Rattle.network_algebra.specs.declared.operands.Operands.TheVariants.{Words as BothWords, Pairs as BothPairs, Flagged as BothFlagged}
use Rattle.network_algebra.proofs.Meanings.{words_for, pairs_for}
use Rattle.network_algebra.proofs.Conditions.{flagged_for, they_may}
use Rattle.fst_flagged.specs.Flagged.{FlaggedView, FlaggedRelates, UsesLetters}
use Rattle.network_sets.proofs.Conditions.{composition_same}

module _ (a b : Network) (o : Operands) (ok : AreOperands a b o) where
  abbrev Composed : Network → Type 0
  Composed n = IsFor (both (kind_of_network a) (kind_of_network b)) (λ w. WordsOf a w × WordsOf b w) (IsComposition (PairsOf a) (PairsOf b)) n

  module _ (x y : Automaton (Bound Sym)) (is : o ≡ BothWords x y) where
    they_are : (a ≡ Words x) × (b ≡ Words y)
    they_are = subst (AreOperands a b) is ok

    pub first_only : (symbols : List Sym) → IsNetwork symbols a → UsesOnly (all_letters symbols) x
    first_only symbols h = subst (IsNetwork symbols) they_are.0 h

    pub second_only : (symbols : List Sym) → IsNetwork symbols b → UsesOnly (all_letters symbols) y
    second_only symbols h = subst (IsNetwork symbols) they_are.1 h

    pub composed_words : (m : Automaton (Bound Sym)) → ((w : List (Bound Sym)) → Accepts m w ↔ (Accepts x w × Accepts y w)) → Composed (Words m)
    composed_words m language =
        subst (λ z. IsFor (both (kind_of_network z) (kind_of_network b)) (λ w. WordsOf z w × WordsOf b w) (IsComposition (PairsOf z) (PairsOf b)) (Words m)) (sym they_are.0)
        (subst (λ z. IsFor (kind_of_network z) (λ w. Accepts x w × WordsOf z w) (IsComposition (IsItself (Accepts x)) (PairsOf z)) (Words m)) (sym they_are.1)
        (words_for m (λ w. Accepts x w × Accepts y w) (IsComposition (IsItself (Accepts x)) (IsItself (Accepts y))) language
        (composition_itself (IsItself (Accepts x)) (IsItself (Accepts y)) (Accepts x) (Accepts y) (as_it_is (Accepts x)) (as_it_is (Accepts y)))))

  module _ (x y m : Automaton Pair) (is : o ≡ BothPairs x y) where
    they_relate : AreOperands a b (BothPairs x y)
    they_relate = subst (AreOperands a b) is ok

    composed_same : AreSame (IsComposition (IsRelated x) (IsRelated y)) (IsComposition (PairsOf a) (PairsOf b))
    composed_same u w = (
      λ (v, r, s). (v, (they_relate.1 u v).0 r, (they_relate.2 v w).0 s),
      λ (v, r, s). (v, (they_relate.1 u v).1 r, (they_relate.2 v w).1 s),
    )

    pub composed_pairs : AreSame (IsRelated m) (IsComposition (IsRelated x) (IsRelated y)) → Composed (Pairs m)
    composed_pairs relation =
        pairs_for (both (kind_of_network a) (kind_of_network b)) m (λ w. WordsOf a w × WordsOf b w) (IsComposition (PairsOf a) (PairsOf b)) they_relate.0
        (same_trans (IsRelated m) (IsComposition (IsRelated x) (IsRelated y)) (IsComposition (PairsOf a) (PairsOf b)) relation composed_same)

    pub composed_symbols : ((s : Sym) → UsesUpper m s → UsesUpper x s) → ((s : Sym) → UsesLower m s → UsesLower y s) → (symbols : List Sym) → IsNetwork symbols a → IsNetwork symbols b → UsesSymbols symbols m
    composed_symbols up low symbols first second = record {
      upper = λ s used. (they_relate.3 symbols first).upper s (up s used);
      lower = λ s used. (they_relate.4 symbols second).lower s (low s used);
    }

  module _ (f g : FlaggedView) (n : Network) (is : o ≡ BothFlagged f g) where
    pub composed_flagged : RelatesOnly (IsComposition (FlaggedRelates f) (FlaggedRelates g)) n → Composed n
    composed_flagged only =
        let may = they_may a b o ok f g is in
        flagged_for (both (kind_of_network a) (kind_of_network b)) n (λ w. WordsOf a w × WordsOf b w) (IsComposition (PairsOf a) (PairsOf b)) may.0
        (record {
          kind_is = only.kind_is;
          pairs =
              same_trans (PairsOf n) (IsComposition (FlaggedRelates f) (FlaggedRelates g)) (IsComposition (PairsOf a) (PairsOf b)) only.pairs
              (composition_same (FlaggedRelates f) (PairsOf a) (FlaggedRelates g) (PairsOf b) may.1 may.2);
        })

    pub composed_letters : ((symbols : List Sym) → UsesLetters symbols f → UsesLetters symbols g → IsNetwork symbols n) → (symbols : List Sym) → IsNetwork symbols a → IsNetwork symbols b → IsNetwork symbols n
    composed_letters letters symbols first second = let may = they_may a b o ok f g is in letters symbols (may.3 symbols first) (may.4 symbols second)
