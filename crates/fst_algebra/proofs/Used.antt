-- Each symbol of a word that a network relates stands on one of its edges.
use Rattle.std.proofs.Common.{◌≡◌, ◌++◌, List, [], ◌∷◌, Option, Some, None, refl, sym, ap, subst, ◌∙◌, inl, inr}
use Rattle.std.specs.List.{Contains}
use Rattle.std.specs.Option.{option_to_list}
use Rattle.word_relations.proofs.Members.{Contains-nil_cases, Contains-cons_cases, Contains-head, Contains-tail}
use Rattle.fsm_base.specs.declared.letters.Sym.{Sym}
use Rattle.fsm_base.specs.declared.letters.Pair.{Pair}
use Rattle.fsa.specs.Automaton.{Automaton, UsesLetter}
use Rattle.fsa.specs.Language.{Accepts, AcceptsFrom, stop, read, skip}
use Rattle.fsa.specs.declared.automaton.Edge.{Edge}
use Rattle.fst_algebra.specs.Relation.{symbols_on, IsRelated}

-- the letters of an accepted word are used
accepted_used : {m : Automaton Pair} {p : _} {w : List Pair} → AcceptsFrom m p w → (x : Pair) → Contains w x → UsesLetter m x
accepted_used (stop f) x among = absurd (Contains-nil_cases x among)
accepted_used {m} (read {p = p} {q = q} {x = y} {w = w} has rest) x among =
    elim (Contains-cons_cases y w x among) as (λ _. UsesLetter m x) [
      | inl is ↦ subst (UsesLetter m) is (record { from = p; letter = Some y; to = q }, has, refl)
      | inr behind ↦ accepted_used rest x behind
    ]
accepted_used (skip has rest) x among = accepted_used rest x among

-- a symbol on a side comes from one of the pairs
pair_of_symbol : (side : Pair → Option Sym) (pairs : List Pair) (symbol : Sym) → Contains (symbols_on side pairs) symbol → (pair : Pair) × Contains pairs pair × (side pair ≡ Some symbol)
pair_of_symbol side [] symbol among = absurd (Contains-nil_cases symbol among)
pair_of_symbol side (x ∷ pairs) symbol among = by (pair_of_symbol side pairs symbol) (side x) refl among
  where
    by : (Contains (symbols_on side pairs) symbol → (pair : Pair) × Contains pairs pair × (side pair ≡ Some symbol)) → (o : Option Sym) → side x ≡ o → Contains (option_to_list o ++ symbols_on side pairs) symbol
        → (pair : Pair) × Contains (x ∷ pairs) pair × (side pair ≡ Some symbol)
    by rest None is h = let found = rest h in (found.0, Contains-tail x pairs found.0 found.1, found.2)
    by rest (Some y) is h =
        elim (Contains-cons_cases y (symbols_on side pairs) symbol h) as (λ _. (pair : Pair) × Contains (x ∷ pairs) pair × (side pair ≡ Some symbol)) [
          | inl same ↦ (x, Contains-head x pairs, is ∙ ap (λ (z : Sym). Some z) same)
          | inr behind ↦ let found = rest behind in (found.0, Contains-tail x pairs found.0 found.1, found.2)
        ]

-- the symbol stands on an edge's upper side
pub upper_used : (m : Automaton Pair) (upper lower : List Sym) → IsRelated m upper lower → (symbol : Sym) → Contains upper symbol → (pair : Pair) × UsesLetter m pair × (pair.up ≡ Some symbol)
upper_used m upper lower (pairs, accepted, is_up, is_low) symbol among =
    let found = pair_of_symbol (λ pair. pair.up) pairs symbol (subst (λ (z : List Sym). Contains z symbol) (sym is_up) among) in
    (found.0, accepted_used accepted found.0 found.1, found.2)

-- or on its lower side
pub lower_used : (m : Automaton Pair) (upper lower : List Sym) → IsRelated m upper lower → (symbol : Sym) → Contains lower symbol → (pair : Pair) × UsesLetter m pair × (pair.low ≡ Some symbol)
lower_used m upper lower (pairs, accepted, is_up, is_low) symbol among =
    let found = pair_of_symbol (λ pair. pair.low) pairs symbol (subst (λ (z : List Sym). Contains z symbol) (sym is_low) among) in
    (found.0, accepted_used accepted found.0 found.1, found.2)
