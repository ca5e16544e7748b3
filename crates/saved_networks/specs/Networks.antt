-- A network over an alphabet, and that both are those of an AT&T text: the alphabet has the text's symbols, and the network its relation.
use Rattle.std.specs.Prelude.{◌≡◌, ◌↔◌, ℕ, List, None, Ok}
use Rattle.fsm_base.specs.declared.letters.Sym.{Sym}
use Rattle.fsm_base.specs.declared.letters.Pair.{Pair}
use Rattle.fsm_base.specs.Alphabet.{IsAlphabet, spelled, texts_of}
use Rattle.fsm_base.specs.Normal.{source_text}
use Rattle.fsa.specs.Automaton.{Automaton}
use Rattle.att_text.specs.Faults.{fault_of}
use Rattle.att_text.specs.Paths.{HasTextIn, Relates, RelatesTexts}
use Rattle.lookup_walk.specs.Nets.{NetView, NetRelates}
use Rattle.saved_networks.specs.Replies.{symbols_in}

-- a network, and the symbols that words are cut into
pub record SavedView : Type 0 where
  pub alphabet : List (Sym × List ℕ)
  pub net : NetView

-- a network relates words of a table's symbols as the text does, and the table has the symbols of the text
pub record IsReadFrom (text : List ℕ) (table : List (List ℕ)) (m : Automaton Pair) : Type 0 where
  pub symbols : table ≡ symbols_in text
  pub relates : (upper lower : List (List ℕ)) → RelatesTexts (HasTextIn table) m upper lower ↔ Relates text upper lower

-- these are the bytes of a text without fault, and the network and the table are so of that text
pub record IsReadAs (bytes : List ℕ) (table : List (List ℕ)) (m : Automaton Pair) : Type 0 where
  pub text : List ℕ
  pub is : source_text bytes ≡ Ok text
  pub faultless : fault_of text ≡ None
  pub read : IsReadFrom text table m

-- the alphabet has the symbols of the text, and the network relates what the text does
pub record IsSavedAs (text : List ℕ) (saved : SavedView) : Type 0 where
  pub formed : IsAlphabet saved.alphabet
  pub symbols : texts_of saved.alphabet ≡ symbols_in text
  pub relates : (u w : List (List ℕ)) → Relates text u w
      ↔ ((upper : List Sym) × (lower : List Sym) × NetRelates saved.net upper lower × (u ≡ spelled saved.alphabet upper) × (w ≡ spelled saved.alphabet lower))

-- these are the bytes of a text without fault, and the network is so of that text
pub record IsSavedFrom (bytes : List ℕ) (saved : SavedView) : Type 0 where
  pub text : List ℕ
  pub is : source_text bytes ≡ Ok text
  pub faultless : fault_of text ≡ None
  pub network : IsSavedAs text saved
