-- What is a way through a network: the moves of a plain transducer, and of one with conditions as they stand above, or moved below.
use Rattle.std.proofs.Common.{◌≡◌, ℕ, ◌<◌, ◌↔◌, List, Bool, Option, None, Some, true, false, refl, sym, subst, ap, ◌∙◌, arith}
use Rattle.std.specs.Prelude.{nat_lt}
use Rattle.std.specs.List.{Contains}
use Rattle.std.proofs.lemmas.Bool.Decides.{nat_tests}
use Rattle.fsm_base.specs.Alphabet.{symbols_of}
use Rattle.fsm_base.specs.declared.letters.Sym.{Sym}
use Rattle.fsm_base.specs.declared.letters.Pair.{Pair}
use Rattle.fsa.specs.Automaton.{Automaton, UsesLetter}
use Rattle.fst_algebra.specs.Relation.{IsRelated}
use Rattle.fst_algebra.specs.Relations.{UsesLower}
use Rattle.fst_flagged.specs.Conditions.{Hold, first, is_letter, letters_of}
use Rattle.fst_flagged.specs.Flagged.{FlaggedRelates, FlaggedView, UsesLetters}
use Rattle.fst_flagged.specs.declared.condition.Condition.{Condition}
use Rattle.flag_runs.specs.Runs.{RulesView}
use Rattle.lookup_answers.specs.declared.direction.Direction.{Direction}
use Rattle.lookup_answers.specs.declared.direction.Direction.TheVariants.{Up, Down}
use Rattle.lookup_walk.specs.declared.moves.Move.{Move}
use Rattle.lookup_walk.specs.Moves.{AreMoves, IsRelatedBy}
use Rattle.lookup_walk.specs.Nets.{plain, flagged, NetRelatesBy}
use Rattle.lookup_walk.specs.Ways.{ComesTo, IsWay}
use Rattle.lookup_walk.proofs.Found.{on_a_side}

plain_by : (direction : Direction) (m : Automaton Pair) (read word : List Sym) → NetRelatesBy direction (plain m) read word ↔ IsRelatedBy direction m read word
plain_by Up m read word = (λ r. r, λ r. r)
plain_by Down m read word = (λ r. r, λ r. r)

pub plain_way : (direction : Direction) (m : Automaton Pair) (moves : List Move) → AreMoves direction m.edges moves → IsWay direction (plain m) moves m.finals None
plain_way direction m moves are = record {
  over = m;
  are = are;
  ends = refl;
  relates = λ read word. (
    λ r. (word, (plain_by direction m read word).0 r, refl),
    λ (written, related, is). (plain_by direction m read word).1 (subst (λ w. IsRelatedBy direction m read w) is related),
  );
  symbols = λ alphabet s over (pair, used, at) symbol. over pair s used (on_a_side direction pair s at);
}

pub below_first : (s : Sym) → is_letter s ≡ true → s.0 < first
below_first s is = let h : nat_lt s.0 first ≡ true = is in grind (arith, nat_tests)

module _ (f : FlaggedView) (rules : RulesView) (same : rules.conditions ≡ f.conditions) where
  held : (x : List Sym) → Hold f.conditions x → Hold rules.conditions x
  held x h = subst (λ (cs : List Condition). Hold cs x) (sym same) h

  holding : (x : List Sym) → Hold rules.conditions x → Hold f.conditions x
  holding x h = subst (λ (cs : List Condition). Hold cs x) same h

  pub way_up : (moves : List Move) → AreMoves Up f.net.edges moves → IsWay Up (flagged f) moves f.net.finals (Some rules)
  way_up moves are = record {
    over = f.net;
    are = are;
    ends = refl;
    relates = λ read word. (
      λ (x, related, hold, is). (x, related, (held x hold, is)),
      λ (x, related, (hold, is)). (x, related, holding x hold, is),
    );
    symbols = λ alphabet s over written symbol. over.upper s written (below_first s symbol);
  }

  pub way_down : (moves : List Move) (below : Automaton Pair) → AreMoves Down below.edges moves → ((x : Sym) → UsesLower below x → x.0 < first → UsesLower f.net x)
      → ((u w : List Sym) → FlaggedRelates f u w ↔ ((y : List Sym) × IsRelated below u y × Hold f.conditions y × (letters_of y ≡ w))) → IsWay Down (flagged f) moves below.finals (Some rules)
  way_down moves below are letters relation = record {
    over = below;
    are = are;
    ends = refl;
    relates = λ read word. (
      λ r. (let (y, related, hold, is) = (relation read word).0 r in (y, related, (held y hold, is))),
      λ (y, related, (hold, is)). (relation read word).1 (y, related, holding y hold, is),
    );
    symbols = λ alphabet s over written symbol. over.lower s (letters s written (below_first s symbol));
  }
