-- What a look-up in one direction goes over: moves and final states, and the rules of the conditions that the moves write, if they write any.
use Rattle.std.specs.Prelude.{◌≡◌, ◌↔◌, ℕ, List, Bool, true, Option, None, Some, Contains}
use Rattle.fsm_base.specs.Alphabet.{symbols_of}
use Rattle.fsm_base.specs.declared.letters.Sym.{Sym}
use Rattle.fsm_base.specs.declared.letters.Pair.{Pair}
use Rattle.fsa.specs.Automaton.{Automaton}
use Rattle.fst_flagged.specs.Conditions.{Hold, is_letter, letters_of}
use Rattle.flag_runs.specs.Runs.{RulesView}
use Rattle.lookup_walk.specs.Answering.{IsOverAlphabet}
use Rattle.lookup_walk.specs.Moves.{AreMoves, IsRelatedBy, IsWritten}
use Rattle.lookup_walk.specs.Nets.{NetView, plain, flagged, NetRelatesBy}
use Rattle.lookup_walk.specs.declared.kept.Kept.{Kept}
use Rattle.lookup_walk.specs.declared.kept.Kept.TheVariants.{Plain, Flagged}
use Rattle.lookup_walk.specs.declared.moves.Move.{Move}
use Rattle.lookup_answers.specs.declared.direction.Direction.{Direction}
use Rattle.lookup_answers.specs.declared.direction.Direction.TheVariants.{Up, Down}

-- what moves write comes to the word: it is the word, or its conditions hold and the word is left without them
abbrev pub ComesTo : Option RulesView → List Sym → List Sym → Type 0
ComesTo None written word = written ≡ word
ComesTo (Some rules) written word = Hold rules.conditions written × (letters_of written ≡ word)

-- the symbol that is written is no condition
abbrev pub IsSymbol : Option RulesView → Sym → Type 0
IsSymbol None symbol = Unit {0}
IsSymbol (Some rules) symbol = is_letter symbol ≡ true

-- the moves are those of a transducer with these final states. What it relates, as far as that comes to words, is what the network relates
pub record IsWay (direction : Direction) (net : NetView) (moves : List Move) (finals : List Bool) (rules : Option RulesView) : Type 0 where
  pub over : Automaton Pair
  pub are : AreMoves direction over.edges moves
  pub ends : over.finals ≡ finals
  pub relates : (read word : List Sym) → NetRelatesBy direction net read word ↔ ((written : List Sym) × IsRelatedBy direction over read written × ComesTo rules written word)
  pub symbols : (alphabet : List (Sym × List ℕ)) (symbol : Sym) → IsOverAlphabet alphabet net → IsWritten direction over symbol → IsSymbol rules symbol → Contains (symbols_of alphabet) symbol

-- a network as it is kept
abbrev pub view_of : Kept → NetView
view_of (Plain net) = plain net
view_of (Flagged kept) = flagged kept.net

abbrev pub finals_in : Direction → Kept → List Bool
finals_in direction (Plain net) = net.finals
finals_in Up (Flagged kept) = kept.net.net.finals
finals_in Down (Flagged kept) = kept.below.items

abbrev pub rules_in : Kept → Option RulesView
rules_in (Plain net) = None
rules_in (Flagged kept) = Some kept.rules

-- the moves are a way through the network in this direction
abbrev pub IsWayIn : Direction → Kept → List Move → Type 0
IsWayIn direction kept moves = IsWay direction (view_of kept) moves (finals_in direction kept) (rules_in kept)
