-- What an automaton of the same language is, with no other letters.
use Rattle.std.proofs.Common.{◌↔◌, List}
use Rattle.fsm_base.specs.declared.letters.Pair.{Pair}
use Rattle.fsm_base.specs.declared.letters.Sym.{Sym}
use Rattle.word_relations.specs.Relations.{AreSame}
use Rattle.fsa.specs.Automaton.{Automaton, UsesLetter}
use Rattle.fsa.specs.Language.{Accepts}
use Rattle.fst_algebra.specs.Relation.{IsRelated}
use Rattle.fst_algebra.specs.Relations.{UsesLower, UsesUpper}

pub letters_used : {L : Type 0} (m a : Automaton L) (P : L → Type 0) → ((x : L) → UsesLetter m x → UsesLetter a x) → ((x : L) → UsesLetter a x → P x) → (x : L) → UsesLetter m x → P x
letters_used m a P used is x uses = is x (used x uses)

module _ (m a : Automaton Pair) where
  pub same_relation : (R : List Sym → List Sym → Type 0) → ((pairs : List Pair) → Accepts m pairs ↔ Accepts a pairs) → AreSame (IsRelated a) R → AreSame (IsRelated m) R
  same_relation R same is u w = (
    λ (pairs, accepted, up, low). (is u w).0 (pairs, (same pairs).0 accepted, up, low),
    λ r. let (pairs, accepted, up, low) = (is u w).1 r in (pairs, (same pairs).1 accepted, up, low),
  )

  pub upper_used : (P : Sym → Type 0) → ((pair : Pair) → UsesLetter m pair → UsesLetter a pair) → ((s : Sym) → UsesUpper a s → P s) → (s : Sym) → UsesUpper m s → P s
  upper_used P used is s (pair, uses, up) = is s (pair, used pair uses, up)

  pub lower_used : (P : Sym → Type 0) → ((pair : Pair) → UsesLetter m pair → UsesLetter a pair) → ((s : Sym) → UsesLower a s → P s) → (s : Sym) → UsesLower m s → P s
  lower_used P used is s (pair, uses, low) = is s (pair, used pair uses, low)
