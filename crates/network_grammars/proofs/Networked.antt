-- What the network of a grammar relates, by texts.
use Rattle.std.proofs.Common.{◌≡◌, List, [], ◌∷◌, Option, Some, All, map, reverse, subst}
use Rattle.std.proofs.lemmas.List.Elements.{All-contains, All-nil, All-cons, All-head, All-tail}
use Rattle.std.specs.List.{Contains}
use Rattle.fsm_base.specs.Alphabet.{symbols_of, text_of}
use Rattle.fsm_base.specs.declared.letters.Pair.{Pair as Letter}
use Rattle.fsm_base.specs.declared.letters.Sym.{Sym}
use Rattle.word_relations.specs.Words.{IsOver}
use Rattle.word_relations.specs.Relations.{AreSame}
use Rattle.regex_ast.specs.declared.expr.Atom.{Atom}
use Rattle.regex_ast.specs.declared.twolc.Grammar.{Grammar as GrammarOf}
use Rattle.fsa.specs.Automaton.{Automaton}
use Rattle.fst_algebra.specs.Relation.{IsRelated, symbols_on}
use Rattle.expr_kinds.specs.declared.form.Kind.TheVariants.{Relation}
use Rattle.network_algebra.specs.Networks.{IsFor, IsNetwork, PairsOf, UsesOnly, UsesSymbols, WordsOf, kind_of_network}
use Rattle.network_algebra.specs.declared.network.Network.{Network}
use Rattle.network_algebra.specs.declared.network.Network.TheVariants.{Pairs}
use Rattle.grammar_pairs.specs.Feasible.{feasible}
use Rattle.grammar_pairs.specs.Plain.{IsFormed, definition_of, grammar_of}
use Rattle.grammar_pairs.specs.Texts.{IsPairOver, in_texts}
use Rattle.grammar_pairs.proofs.Spelled.{own_texts}
use Rattle.network_grammars.specs.Built.{IsBuilt}
use Rattle.network_grammars.specs.PairMeaning.{IsScope}
use Rattle.network_grammars.specs.declared.scope.Scope.{Scope}
use Rattle.network_grammars.specs.Meaning.{IsNetworkOf, IsOverSymbols}
use Rattle.network_grammars.specs.Rules.{IsRuleOf, Pairwise}
use Rattle.network_grammars.proofs.Grammared.{begun, on_side, pairs_over, stands_for}
use Rattle.two_level.specs.Rules.{GrammarRelates}
use Rattle.two_level.specs.Spelled.{GrammarIsSpelled}
use Rattle.two_level.specs.declared.rule.LangRule.{LangRule}

-- the symbols on a side of a string of pairs
side_over : (symbols : List Sym) (side : Letter → Option Sym) (P : List Letter) → ((x : Letter) (s : Sym) → Contains P x → side x ≡ Some s → Contains symbols s) → (p : List Letter) → IsOver P p → IsOver symbols (symbols_on side p)
side_over symbols side P among p over = on_side symbols side p (each p over)
  where
    each : (q : List Letter) → IsOver P q → All (λ x. (s : Sym) → side x ≡ Some s → Contains symbols s) q
    each [] all = All-nil (λ x. (s : Sym) → side x ≡ Some s → Contains symbols s)
    each (x ∷ q) all =
        All-cons (λ x. (s : Sym) → side x ≡ Some s → Contains symbols s) x q (λ s is. among x s (All-head (Contains P) x q all) is) (each q (All-tail (Contains P) x q all))

module _ (g : GrammarOf Atom) (formed : IsFormed (grammar_of g)) (scope : Scope) (is_scope : IsScope scope) (built : IsBuilt g (reverse (map definition_of g.definitions.items)) scope)
    (rules : List LangRule) (ruled : Pairwise (IsRuleOf scope) g.rules.items rules) where
  -- by the texts of an alphabet
  pub network_meant : GrammarIsSpelled → (m : Automaton Letter) (n : Network) → AreSame (IsRelated m) (GrammarRelates scope.pairs rules) → IsFor Relation (WordsOf (Pairs m)) (PairsOf (Pairs m)) n → IsNetworkOf g n
  network_meant law m n related is alphabet lettered over =
      let paired = is.pairs in
      let text = text_of alphabet in
      let symbols = symbols_of alphabet in
      let own = own_texts alphabet lettered in
      let stands = stands_for text g formed symbols own scope is_scope built over rules ruled in
      let G = in_texts text (grammar_of g) in
      let known = pairs_over text g formed symbols own scope is_scope built over in
      record {
        over = λ u w r.
            let (p, (whole, keeps), up, low) = (related u w).0 ((paired u w).0 r) in (
              subst (IsOver symbols) up (side_over symbols (λ x. x.up) scope.pairs (λ x s among is. (known x among).up s is) p whole),
              subst (IsOver symbols) low (side_over symbols (λ x. x.low) scope.pairs (λ x s among is. (known x among).low s is) p whole),
            );
        same = λ u w. (
          λ h. let (x, y, first, second, r) = (law text G scope.pairs rules stands u w).0 h in (x, y, (paired x y).1 ((related x y).1 r), first, second),
          λ (x, y, r, first, second). (law text G scope.pairs rules stands u w).1 (x, y, first, second, (related x y).0 ((paired x y).0 r)),
        );
      }

  -- over symbols that the feasible pairs have
  pub network_over : (m : Automaton Letter) → UsesOnly scope.pairs m → (n : Network) → ((symbols : List Sym) → UsesSymbols symbols m → IsNetwork symbols n) → (symbols : List Sym) → IsOverSymbols symbols g → IsNetwork symbols n
  network_over m only n through symbols over =
      let start = begun g (reverse (map definition_of g.definitions.items)) scope built in
      let known = λ (x : Letter) (among : Contains scope.pairs x). All-contains (IsPairOver symbols) (feasible g) x over ((start.0 x).0 among) in
      through symbols (record {
        upper = λ s (x, used, is). (known x (only x used)).up s is;
        lower = λ s (x, used, is). (known x (only x used)).low s is;
      })

-- a smaller network of a relation is one of a relation
pub relation_kind : (m : Automaton Letter) (n : Network) → IsFor Relation (WordsOf (Pairs m)) (PairsOf (Pairs m)) n → kind_of_network n ≡ Relation
relation_kind m n is = is.kind_is
