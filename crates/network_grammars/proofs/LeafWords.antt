-- Automata of leaves.
use Rattle.std.proofs.Common.{◌≡◌, ◌↔◌, ◌<◌, ℕ, List, [], ◌∷◌, Option, None, Some, MatchOption, refl, sym, ap, subst, ◌∙◌}
use Rattle.std.specs.List.{Contains, slice_get}
use Rattle.std.proofs.lemmas.Option.{same_Some, slice_get_within}
use Rattle.fsm_base.specs.declared.letters.Bound.{Bound}
use Rattle.fsm_base.specs.declared.letters.Bound.TheVariants.{Inner}
use Rattle.fsm_base.specs.declared.letters.Pair.{Pair as Letter}
use Rattle.fsm_base.specs.declared.letters.Sym.{Sym}
use Rattle.word_relations.proofs.Members.{Contains-map, Contains-map_cases, Contains-tail}
use Rattle.word_relations.proofs.Places.{Contains-from_slice_get}
use Rattle.word_relations.specs.Operations.{IsOneLetter}
use Rattle.word_relations.specs.Words.{IsDistinct}
use Rattle.regex_ast.specs.declared.expr.Atom.{Atom}
use Rattle.fsa.specs.Automaton.{Automaton, UsesLetter}
use Rattle.fsa.specs.Language.{Accepts}
use Rattle.expr_meaning.specs.Meaning.{InLeaf}
use Rattle.expr_meaning.specs.Operators.{inner, WithEdge}
use Rattle.network_algebra.specs.Networks.{UsesOnly, all_letters}
use Rattle.project_meaning.specs.Trees.{Pair, pair, called}
use Rattle.grammar_pairs.specs.Fitting.{Fits, IsNumber, IsOneOf, IsTwice}
use Rattle.grammar_pairs.specs.Tables.{under}
use Rattle.network_grammars.specs.PairMeaning.{IsScope, stands}
use Rattle.network_grammars.specs.declared.scope.Scope.{Scope}
use Rattle.network_grammars.proofs.PairRows.{HasWords}

-- the numbers of pairs differ
pub numbers_distinct : (scope : Scope) → IsScope scope → IsDistinct scope.numbers.items
numbers_distinct scope is i j n first second =
    let place : (k : ℕ) → slice_get scope.numbers.items k ≡ Some n → k ≡ n.0
    = λ k at. ap (λ (z : Sym). z.0) (same_Some (record { 0 = k }) n (sym (is.numbers.each k (subst (λ (c : ℕ). k < c) is.numbers.count (slice_get_within scope.numbers.items k n at))) ∙ at)) in
    place i first ∙ sym (place j second)

-- numbers of pairs are among those of all pairs
number_known : (scope : Scope) → IsScope scope → (P : Letter → Type 0) (n : Sym) → IsNumber scope.pairs P n → Contains scope.numbers.items n
number_known scope is P n (x, at, p) = Contains-from_slice_get scope.numbers.items n.0 n (is.numbers.each n.0 (slice_get_within scope.pairs n.0 x at))

pub numbers_over : (scope : Scope) → IsScope scope → (P : Letter → Type 0) (numbers : List Sym) → ((n : Sym) → Contains numbers n ↔ IsNumber scope.pairs P n) → (m : Automaton (Bound Sym)) → UsesOnly (inner numbers) m → UsesOnly (all_letters scope.numbers.items) m
numbers_over scope is P numbers has m only x used =
    let r = Contains-map_cases Inner numbers x (only x used) in
    Contains-tail _ (inner scope.numbers.items) x (subst (Contains (inner scope.numbers.items)) r.2 (Contains-map Inner scope.numbers.items r.0 (number_known scope is P r.0 ((has r.0).0 r.1))))

-- one number of some
one_number : (pairs : List Letter) (P : Letter → Type 0) (numbers : List Sym) → ((n : Sym) → Contains numbers n ↔ IsNumber pairs P n) → (w : List (Bound Sym)) → IsOneLetter (inner numbers) w ↔ WithEdge (λ u. IsOneOf pairs P u × (u ≡ u)) w
one_number pairs P numbers has w = (
  λ (x, among, is). let r = Contains-map_cases Inner numbers x among in (r.0 ∷ [], is ∙ ap (λ (z : Bound Sym). z ∷ []) (sym r.2), ((r.0, (has r.0).0 r.1, refl), refl)),
  λ (u, is, ((n, number, one), same)). (Inner n, Contains-map Inner numbers n ((has n).1 number), is ∙ ap inner one),
)

pub pair_words : (scope : Scope) (p : Pair Atom) (numbers : List Sym) (m : Automaton (Bound Sym)) → ((n : Sym) → Contains numbers n ↔ IsNumber scope.pairs (Fits scope.sets p) n) → ((w : List (Bound Sym)) → Accepts m w ↔ IsOneLetter (inner numbers) w)
    → HasWords m (InLeaf (stands scope) scope.numbers.items (pair p))
pair_words scope p numbers m has language w =
    let one = one_number scope.pairs (Fits scope.sets p) numbers has w in
    (λ a. one.0 ((language w).0 a), λ h. (language w).1 (one.1 h))

module _ (scope : Scope) (name : List ℕ) where
  -- what a name relates, by what stands under it
  abbrev Relates : Option (Automaton (Bound Sym)) → List Sym → List Sym → Type 0
  Relates found u w = MatchOption found (IsOneOf scope.pairs (IsTwice scope.sets name) u × (u ≡ w)) (λ m. Accepts m (inner u) × (u ≡ w))

  pub set_words : None ≡ under name scope.definitions → (numbers : List Sym) (m : Automaton (Bound Sym)) → ((n : Sym) → Contains numbers n ↔ IsNumber scope.pairs (IsTwice scope.sets name) n)
      → ((w : List (Bound Sym)) → Accepts m w ↔ IsOneLetter (inner numbers) w) → HasWords m (InLeaf (stands scope) scope.numbers.items (called name))
  set_words none numbers m has language w =
      let one = one_number scope.pairs (IsTwice scope.sets name) numbers has w in
      subst (λ (o : Option (Automaton (Bound Sym))). Accepts m w ↔ WithEdge (λ u. Relates o u u) w) none (λ a. one.0 ((language w).0 a), λ h. (language w).1 (one.1 h))

-- the words of a definition are over the numbers of pairs
pub named_over : (scope : Scope) → IsScope scope → (name : List ℕ) (words m : Automaton (Bound Sym)) → under name scope.definitions ≡ Some words
    → ((symbols : List Sym) → UsesOnly (all_letters symbols) words → UsesOnly (all_letters symbols) m) → UsesOnly (all_letters scope.numbers.items) m
named_over scope is name words m found through = through scope.numbers.items (is.over name words found)

-- the words without the edge
module _ (words m : Automaton (Bound Sym)) (inside : Automaton Sym) where
  pub edge_only : ((x : Sym) → UsesLetter inside x → UsesLetter words (Inner x)) → ((x : Bound Sym) → UsesLetter m x → (s : Sym) × UsesLetter inside s × (x ≡ Inner s)) → (symbols : List Sym) → UsesOnly (all_letters symbols) words → UsesOnly (all_letters symbols) m
  edge_only first second symbols only x used = let (s, has, is) = second x used in subst (Contains (all_letters symbols)) (sym is) (only (Inner s) (first s has))

  pub edge_words : ((u : List Sym) → Accepts inside u ↔ Accepts words (inner u)) → ((w : List (Bound Sym)) → Accepts m w ↔ WithEdge (Accepts inside) w) → (w : List (Bound Sym)) → Accepts m w ↔ WithEdge (λ u. Accepts words (inner u)) w
  edge_words first second w = (
    λ a. let (u, is, h) = (second w).0 a in (u, is, (first u).0 h),
    λ (u, is, h). (second w).1 (u, is, (first u).1 h),
  )
