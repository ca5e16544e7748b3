-- Leaves: what is told of them, and their networks.
use Rattle.std.proofs.Common.{◌≡◌, ◌↔◌, ◌==◌, ℕ, Bool, false, true, cond, IsTrue, List, [], ◌∷◌, All, Option, None, Some, MatchOption, refl, sym, ap, subst, ◌∙◌}
use Rattle.std.specs.List.{Contains, find}
use Rattle.std.specs.Option.{is_some}
use Rattle.std.proofs.lemmas.List.Elements.{All-head, All-tail}
use Rattle.fsm_base.specs.declared.letters.Bound.{Bound}
use Rattle.fsm_base.specs.declared.letters.Bound.TheVariants.{Inner}
use Rattle.fsm_base.specs.declared.letters.Pair.{Pair}
use Rattle.fsm_base.specs.declared.letters.Sym.{Sym}
use Rattle.fsm_base.proofs.AlphabetLemmas.{same_symbol}
use Rattle.fsa.specs.Automaton.{Automaton, UsesLetter}
use Rattle.fsa.specs.Language.{Accepts}
use Rattle.regex_ast.specs.declared.expr.Atom.{Atom}
use Rattle.regex_ast.specs.declared.expr.Atom.TheVariants.{Sym as Symbol, Name}
use Rattle.regex_ast.specs.Terms.{atom}
use Rattle.expr_kinds.specs.declared.form.Kind.TheVariants.{Language, Relation}
use Rattle.expr_meaning.specs.Leaves.{AreSound}
use Rattle.expr_meaning.specs.Operators.{inner, IsItself, WithEdge}
use Rattle.expr_meaning.proofs.Inner.{inner_same}
use Rattle.network_algebra.specs.Networks.{all_letters, IsFor, IsNetwork, PairsOf, UsesOnly, WordsOf, kind_of_network}
use Rattle.network_algebra.specs.declared.network.Network.{Network}
use Rattle.network_algebra.specs.declared.network.Network.TheVariants.{Words, Pairs, Flagged}
use Rattle.network_algebra.proofs.Meanings.{no_language}
use Rattle.network_expr.specs.Built.{IsMeant}
use Rattle.network_expr.specs.Parts.{part_of, stands, kinds, kind_of_part}
use Rattle.network_expr.specs.declared.parts.Part.{Part}

-- the network of a language relates words to themselves
network_itself : (n : Network) → kind_of_network n ≡ Language → (u w : List Sym) → PairsOf n u w → u ≡ w
network_itself (Words m) is u w h = h.1
network_itself (Pairs m) is u w h = absurd (no_language is)
network_itself (Flagged f) is u w h = absurd (no_language is)

part_itself : (part : Option Part) → kind_of_part part ≡ Language → (u w : List Sym) → MatchOption part ⊥ (λ p. PairsOf p.network.now u w) → u ≡ w
part_itself None is u w h = absurd h
part_itself (Some p) is u w h = network_itself p.network.now is u w h

module _ (parts : List Part) where
  leaf_itself : (a : Atom) → (kinds parts).kind a ≡ Language → (u w : List Sym) → stands parts a u w → u ≡ w
  leaf_itself (Symbol s) is u w h = h.1
  leaf_itself (Name name) is u w h = part_itself (part_of parts name) is u w h

  leaf_single : (a b : Atom) → (kinds parts).same a b ≡ true → (u w : List Sym) → stands parts a u u → stands parts b w w → u ≡ w
  leaf_single (Symbol s) (Symbol t) is u w h j = h.0 ∙ ap (λ (x : Sym). x ∷ []) (same_symbol s t is) ∙ sym j.0
  leaf_single (Symbol s) (Name name) is u w h j = let no : false ≡ true = is in cc
  leaf_single (Name name) (Symbol t) is u w h j = let no : false ≡ true = is in cc
  leaf_single (Name name) (Name other) is u w h j = let no : false ≡ true = is in cc

  pub parts_sound : AreSound (kinds parts) (stands parts)
  parts_sound = record { itself = leaf_itself; single = leaf_single }

  -- a name is meant by the network of its part, without the edge
  pub name_meant : (alphabet : List Sym) (name : ℕ) (part : Part) (r : Network) → part_of parts name ≡ Some part
      → IsFor (kind_of_network part.network.now) (WithEdge (λ u. PairsOf part.network.now u u)) (PairsOf part.network.now) r → IsMeant parts alphabet (atom (Name name)) r
  name_meant alphabet name part r is h =
      subst (λ (p : Option Part). IsFor (kind_of_part p) (λ w. WithEdge (λ u. MatchOption p ⊥ (λ q. PairsOf q.network.now u u)) w) (λ u w. MatchOption p ⊥ (λ q. PairsOf q.network.now u w)) r) (sym is) h

-- an item that is found has what all have
found_has : {X : Type 0} (P : X → Type 0) (test : X → Bool) (xs : List X) (x : X) → All P xs → find test xs ≡ Some x → P x
found_has P test [] x all is = let no : None ≡ Some x = is in absurd (cc)
found_has {X} P test (y ∷ xs) x all is = by (test y) refl (found_has P test xs x (All-tail P y xs all))
  where
    by : (b : Bool) → test y ≡ b → (find test xs ≡ Some x → P x) → P x
    by true e later =
        let first : Some y ≡ Some x = sym (ap (λ (b : Bool). cond b (Some y) (find test xs)) e) ∙ is in
        let same : y ≡ x = cc in
        subst P same (All-head P y xs all)
    by false e later = later (sym (ap (λ (b : Bool). cond b (Some y) (find test xs)) e) ∙ is)

pub name_over : (alphabet : List Sym) (parts : List Part) (name : ℕ) (part : Part) (r : Network) → All (λ p. IsNetwork alphabet p.network.now) parts → part_of parts name ≡ Some part
    → ((symbols : List Sym) → IsNetwork symbols part.network.now → IsNetwork symbols r) → IsNetwork alphabet r
name_over alphabet parts name part r all is letters = letters alphabet (found_has (λ p. IsNetwork alphabet p.network.now) (λ p. p.name == name) parts part all is)

-- a leaf that passes and is a name has a part
pub there_is : {X : Type 0} (o : Option X) → IsTrue (is_some o) → o ≡ None → ⊥
there_is None h is = let no : false ≡ true = h in cc
there_is (Some x) h is = let no : Some x ≡ None = is in cc

-- the words of a language without the edge
pub without_edge_for : (m r : Automaton (Bound Sym)) (i : Automaton Sym) → ((u : List Sym) → Accepts i u ↔ Accepts m (inner u)) → ((w : List (Bound Sym)) → Accepts r w ↔ WithEdge (Accepts i) w)
    → IsFor Language (WithEdge (λ u. IsItself (Accepts m) u u)) (IsItself (Accepts m)) (Words r)
without_edge_for m r i inside edged = record {
  kind_is = refl;
  words = λ is w. (
    λ h. let v = (edged w).0 h in (v.0, v.1, ((inside v.0).0 v.2, refl)),
    λ h. (edged w).1 (h.0, h.1, (inside h.0).1 h.2.0),
  );
  pairs = λ u w. (
    λ h. let v = (edged (inner u)).0 h.0 in ((inside u).0 (subst (Accepts i) (sym (inner_same u v.0 v.1)) v.2), h.1),
    λ h. ((edged (inner u)).1 (u, refl, (inside u).1 h.0), h.1),
  );
}

pub without_edge_only : (m r : Automaton (Bound Sym)) (i : Automaton Sym) → ((x : Sym) → UsesLetter i x → UsesLetter m (Inner x)) → ((x : Bound Sym) → UsesLetter r x → (s : Sym) × UsesLetter i s × (x ≡ Inner s))
    → (symbols : List Sym) → UsesOnly (all_letters symbols) m → UsesOnly (all_letters symbols) r
without_edge_only m r i inside edged symbols only x used =
    let s = edged x used in
    subst (Contains (all_letters symbols)) (sym s.2) (only (Inner s.0) (inside s.0 s.1))

-- a network that isn't that of a language
pub relation_unless : (n : Network) → ((m : Automaton (Bound Sym)) → n ≡ Words m → ⊥) → kind_of_network n ≡ Relation
relation_unless (Words m) none = absurd (none m refl)
relation_unless (Pairs m) none = refl
relation_unless (Flagged f) none = refl

-- a relation's network
pub relation_for : (n r : Network) → kind_of_network n ≡ Relation → IsFor (kind_of_network n) (WordsOf n) (PairsOf n) r → IsFor (kind_of_network n) (WithEdge (λ u. PairsOf n u u)) (PairsOf n) r
relation_for n r is h = record {
  kind_is = h.kind_is;
  words = λ language w. absurd (no_language (sym is ∙ language));
  pairs = h.pairs;
}
