-- Networks whose symbols are of an alphabet.
use Rattle.std.proofs.Common.{◌≡◌, ℕ, List, [], ◌∷◌, ◌++◌, Some, subst, sym, ap, inl, inr, ◌∙◌}
use Rattle.std.specs.List.{Contains}
use Rattle.std.proofs.lemmas.List.Elements.{Contains-push_cases}
use Rattle.std.proofs.lemmas.Option.{same_Some}
use Rattle.fsm_base.specs.Alphabet.{symbols_of}
use Rattle.fsm_base.specs.declared.letters.Sym.{Sym}
use Rattle.fsm_base.specs.declared.letters.Pair.{Pair}
use Rattle.fsa.specs.Automaton.{Automaton}
use Rattle.fsa.specs.declared.automaton.Edge.{Edge}
use Rattle.network_algebra.specs.Networks.{UsesOnly, UsesSymbols}
use Rattle.lookup.specs.Answering.{HasSymbolsOf}
use Rattle.network_trials.specs.Pairs.{IsPairOver}

-- with one edge more
pub over_push : (alphabet : List (Sym × List ℕ)) (m new : Automaton Pair) (edge : Edge Pair) (pair : Pair) → new ≡ record m { edges = m.edges ++ edge ∷ [] } → edge.letter ≡ Some pair
    → ((s : Sym) → pair.up ≡ Some s → Contains (symbols_of alphabet) s) → ((s : Sym) → pair.low ≡ Some s → Contains (symbols_of alphabet) s)
    → HasSymbolsOf alphabet m → HasSymbolsOf alphabet new
over_push alphabet m new edge pair is letter upper lower over q s (e, held, carries) side =
    elim (Contains-push_cases m.edges edge e (subst (λ es. Contains es e) (ap (λ n. n.edges) is) held)) [
      | inl old ↦ over q s (e, old, carries) side
      | inr same ↦
          let one : pair ≡ q = same_Some pair q (sym letter ∙ ap (λ x. x.letter) same ∙ carries) in
          elim side [
            | inl up ↦ upper s (ap (λ p. p.up) one ∙ up)
            | inr low ↦ lower s (ap (λ p. p.low) one ∙ low)
          ]
    ]

-- a network of pairs over the alphabet
pub over_pairs : (alphabet : List (Sym × List ℕ)) (pairs : List Pair) (m : Automaton Pair) → ((x : Pair) → Contains pairs x → IsPairOver alphabet x) → UsesOnly pairs m → HasSymbolsOf alphabet m
over_pairs alphabet pairs m over only x symbol used side = over x (only x used) symbol side

-- a network of symbols of the alphabet
pub over_symbols : (alphabet : List (Sym × List ℕ)) (m : Automaton Pair) → UsesSymbols (symbols_of alphabet) m → HasSymbolsOf alphabet m
over_symbols alphabet m uses x symbol used (inl up) = uses.upper symbol (x, used, up)
over_symbols alphabet m uses x symbol used (inr low) = uses.lower symbol (x, used, low)
