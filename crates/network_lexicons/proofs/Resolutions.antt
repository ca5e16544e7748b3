-- Networks of tapes whose flags pass.
use Rattle.std.proofs.Common.{◌≡◌, ◌<◌, ◌↔◌, List, Some}
use Rattle.fsm_base.specs.declared.letters.Sym.{Sym}
use Rattle.fsm_base.specs.declared.letters.Pair.{Pair}
use Rattle.word_relations.specs.Relations.{AreSame}
use Rattle.word_relations.proofs.Pairs.{same_trans}
use Rattle.fsa.specs.Automaton.{Automaton, UsesLetter}
use Rattle.fsa.specs.Language.{Accepts}
use Rattle.fst_algebra.specs.Relation.{IsRelated}
use Rattle.fst_algebra.specs.Relations.{UsesUpper, UsesLower}
use Rattle.fst_algebra.proofs.Languages.{related_same}
use Rattle.flag_diacritics.specs.declared.tape.Tape.{Tape}
use Rattle.flag_diacritics.specs.Tapes.{UsesPair}
use Rattle.fst_flagged.specs.Conditions.{first}
use Rattle.fst_flagged.specs.Flagged.{FlaggedView, UsesLetters}
use Rattle.expr_kinds.specs.declared.form.Kind.TheVariants.{Relation}
use Rattle.network_algebra.specs.Networks.{IsFor, IsNetwork, PairsOf, RelatesOnly, UsesSymbols, WordsOf, kind_of_network}
use Rattle.network_algebra.specs.declared.network.Network.{Network}
use Rattle.network_algebra.specs.declared.network.Network.TheVariants.{Pairs}
use Rattle.network_algebra.proofs.Meanings.{symbols_of_one}
use Rattle.network_lexicons.specs.Entries.{IsPairOver}

-- a transducer straightened and reduced
module _ (resolved pairs : Automaton Pair) (n : Network) where
  pub small_letters : ((x : Pair) → UsesLetter pairs x → UsesLetter resolved x) → ((symbols : List Sym) → IsNetwork symbols (Pairs pairs) → IsNetwork symbols n) → (symbols : List Sym) → UsesSymbols symbols resolved → IsNetwork symbols n
  small_letters letters same symbols uses = same symbols (symbols_of_one symbols resolved pairs letters uses)

  pub small_meaning : ((w : List Pair) → Accepts pairs w ↔ Accepts resolved w) → IsFor (kind_of_network (Pairs pairs)) (WordsOf (Pairs pairs)) (PairsOf (Pairs pairs)) n → RelatesOnly (IsRelated resolved) n
  small_meaning language is = record { kind_is = is.kind_is; pairs = same_trans (PairsOf n) (IsRelated pairs) (IsRelated resolved) is.pairs (related_same (Accepts pairs) (Accepts resolved) language) }

-- what is made of tapes has their symbols alone
module _ (tapes : Automaton Tape) (symbols : List Sym) (over : (pair : Pair) → UsesPair tapes pair → IsPairOver symbols pair) where
  pub resolved_over : (m : Automaton Pair) → ((x : Pair) → UsesLetter m x → UsesPair tapes x) → UsesSymbols symbols m
  resolved_over m pairs = record {
    upper = λ x (pair, uses, is). (over pair (pairs pair uses)).up x is;
    lower = λ x (pair, uses, is). (over pair (pairs pair uses)).low x is;
  }

  pub kept_over : (f : FlaggedView) → ((x : Sym) → UsesUpper f.net x → x.0 < first → (pair : Pair) × UsesPair tapes pair × (pair.up ≡ Some x)) → ((x : Sym) → UsesLower f.net x → (pair : Pair) × UsesPair tapes pair × (pair.low ≡ Some x)) → UsesLetters symbols f
  kept_over f upper lower = record {
    upper = λ x used small. let r = upper x used small in (over r.0 r.1).up x r.2;
    lower = λ x used. let r = lower x used in (over r.0 r.1).low x r.2;
  }

-- the letters of a network, by the tapes that it was made of
pub letters_of_resolved : (tapes : Automaton Tape) (m : Automaton Pair) → ((x : Pair) → UsesLetter m x → UsesPair tapes x) → (n : Network) → ((symbols : List Sym) → UsesSymbols symbols m → IsNetwork symbols n)
    → (symbols : List Sym) → ((pair : Pair) → UsesPair tapes pair → IsPairOver symbols pair) → IsNetwork symbols n
letters_of_resolved tapes m pairs n same symbols over = same symbols (resolved_over tapes symbols over m pairs)

pub letters_at : (tapes : Automaton Tape) (symbols : List Sym) → ((pair : Pair) → UsesPair tapes pair → IsPairOver symbols pair) → (n : Network)
    → ((others : List Sym) → ((pair : Pair) → UsesPair tapes pair → IsPairOver others pair) → IsNetwork others n) → IsNetwork symbols n
letters_at tapes symbols over n same = same symbols over

pub is_relation : (R : List Sym → List Sym → Type 0) (n : Network) → RelatesOnly R n → kind_of_network n ≡ Relation
is_relation R n only = only.kind_is

-- a network of the same
pub relates_same : (P Q : List Sym → List Sym → Type 0) → AreSame P Q → (n : Network) → RelatesOnly P n → RelatesOnly Q n
relates_same P Q same n only = record { kind_is = only.kind_is; pairs = same_trans (PairsOf n) P Q only.pairs same }
