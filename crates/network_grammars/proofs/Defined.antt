-- The scope of a grammar, definition by definition.
use Rattle.std.proofs.Common.{◌≡◌, ◌↔◌, ◌⊎◌, ◌+◌, ◌<◌, ℕ, Bool, true, false, cond, List, [], ◌∷◌, None, Some, All, length, map, reverse, take, get_or, refl, sym, ap, subst, ◌∙◌, inl, inr}
use Rattle.std.proofs.lemmas.List.{reverse-append}
use Rattle.std.proofs.lemmas.List.Elements.{All-contains}
use Rattle.std.proofs.lemmas.Option.{same_Some}
use Rattle.std.specs.List.{Contains}
use Rattle.std.specs.Str.{bytes_eq}
use Rattle.fsm_base.specs.declared.letters.Bound.{Bound}
use Rattle.fsm_base.specs.declared.letters.Pair.{Pair as Letter}
use Rattle.fsm_base.specs.declared.letters.Sym.{Sym}
use Rattle.word_relations.specs.Words.{IsDistinct}
use Rattle.word_relations.proofs.Members.{Contains-map}
use Rattle.fsa.specs.Automaton.{Automaton}
use Rattle.regex_ast.specs.declared.expr.Atom.{Atom}
use Rattle.regex_ast.specs.declared.twolc.Grammar.{Grammar as GrammarOf}
use Rattle.regex_ast.specs.declared.twolc.PairDefine.{PairDefine}
use Rattle.network_algebra.specs.Networks.{UsesOnly, all_letters}
use Rattle.project_meaning.specs.Trees.{PairDefinition}
use Rattle.grammar_pairs.specs.Feasible.{feasible}
use Rattle.grammar_pairs.specs.Plain.{IsPairForm, definition_of, set_of, term_of}
use Rattle.grammar_pairs.specs.Tables.{AreNumbers, HasSymbol, IsMember, under}
use Rattle.grammar_pairs.proofs.Growing.{image_more}
use Rattle.network_grammars.specs.Built.{IsBegun, IsBuilt}
use Rattle.network_grammars.specs.PairMeaning.{HasWordsOf, IsScope}
use Rattle.network_grammars.specs.declared.scope.Scope.{Scope}

cases_of : (b : Bool) → (b ≡ true) ⊎ (b ≡ false)
cases_of true = inl refl
cases_of false = inr refl

-- nothing stands under a name where there are none
nothing_under : {V : Type 0} (name : List ℕ) (table : List (List ℕ × V)) → table ≡ [] → under name table ≡ None
nothing_under {V} name table none = ap (λ (z : List (List ℕ × V)). under name z) none

pub first_scope : (scope : Scope) → IsDistinct scope.pairs → AreNumbers scope.pairs scope.numbers.items → scope.definitions ≡ [] → IsScope scope
first_scope scope distinct numbers none = record {
  distinct = distinct;
  numbers = numbers;
  over = λ name m found. let no : None ≡ Some m = sym (nothing_under name scope.definitions none) ∙ found in absurd (cc);
}

pub first_begun : (g : GrammarOf Atom) (scope : Scope) → ((x : Letter) → Contains scope.pairs x ↔ Contains (feasible g) x) → ((name : List ℕ) (s : Sym) → HasSymbol scope.sets name s ↔ IsMember (map set_of g.sets.items) name s) → scope.definitions ≡ [] → IsBegun g scope
first_begun g scope pairs sets none = record { pairs = pairs; sets = sets; none = λ name. nothing_under name scope.definitions none }

module _ (old : Scope) (new : List (List ℕ × Automaton (Bound Sym))) (name : List ℕ) (m : Automaton (Bound Sym)) (put : (other : List ℕ) → under other new ≡ cond (bytes_eq name other) (Some m) (under other old.definitions)) where
  pub scope_more : IsScope old → UsesOnly (all_letters old.numbers.items) m → IsScope (record old { definitions = new })
  scope_more is only = record { distinct = is.distinct; numbers = is.numbers; over = over }
    where
      over : (other : List ℕ) (n : Automaton (Bound Sym)) → under other new ≡ Some n → UsesOnly (all_letters old.numbers.items) n
      over other n found = elim (cases_of (bytes_eq name other)) as (λ _. UsesOnly (all_letters old.numbers.items) n) [
        | inl e ↦ subst (UsesOnly (all_letters old.numbers.items)) (same_Some m n (sym (put other ∙ ap (λ (b : Bool). cond b (Some m) (under other old.definitions)) e) ∙ found)) only
        | inr e ↦ is.over other n (sym (put other ∙ ap (λ (b : Bool). cond b (Some m) (under other old.definitions)) e) ∙ found)
      ]

  pub built_more : (g : GrammarOf Atom) (defs : List (PairDefine Atom)) (i : ℕ) (d : PairDefine Atom) → i < length defs → d ≡ get_or defs i d → name ≡ d.name → HasWordsOf old (term_of d.expr) m
      → IsBuilt g (reverse (map definition_of (take i defs))) old → IsBuilt g (reverse (map definition_of (take (i + 1) defs))) (record old { definitions = new })
  built_more g defs i d below is named words built =
      let front = map definition_of (take i defs) in
      let longer : reverse (map definition_of (take (i + 1) defs)) ≡ definition_of d ∷ reverse front = ap reverse (sym (image_more definition_of defs i d below is)) ∙ reverse-append front (definition_of d ∷ []) in
      subst (λ (z : List (PairDefinition Atom)). IsBuilt g z (record old { definitions = new })) (sym longer)
      (old, m, built, words, record { pairs = refl; numbers = refl; sets = refl; definitions = subst (λ (n : List ℕ). (other : List ℕ) → under other new ≡ cond (bytes_eq n other) (Some m) (under other old.definitions)) named put })

-- each definition has a form that is built
pub definition_form : (defs : List (PairDefine Atom)) → All (λ d. IsPairForm d.term) (map definition_of defs) → (i : ℕ) (d : PairDefine Atom) → i < length defs → d ≡ get_or defs i d → IsPairForm (term_of d.expr)
definition_form defs all i d below is =
    All-contains (λ (z : PairDefinition Atom). IsPairForm z.term) (map definition_of defs) (definition_of d) all (Contains-map definition_of defs d (i, below, sym is))
