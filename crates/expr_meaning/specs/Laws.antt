-- Laws of the operators, in the words of the subject (Beesley and Karttunen, Finite State Morphology, 2003, chapter 2),
-- and examples of the definitions at work. A and B are expressions of symbols, over any alphabet.
use Rattle.std.specs.Prelude.{◌≡◌, ◌↔◌, ◌⊎◌, Bool, true, false, List, [], ◌∷◌, ◌++◌}
use Rattle.fsm_base.specs.declared.letters.Bound.{Bound}
use Rattle.fsm_base.specs.declared.letters.Sym.{Sym}
use Rattle.word_relations.specs.Words.{IsOver}
use Rattle.word_relations.specs.Relations.{AreSame}
use Rattle.regex_ast.specs.declared.expr.Atom.{Atom}
use Rattle.regex_ast.specs.declared.expr.Atom.TheVariants.{Sym as Symbol}
use Rattle.regex_ast.specs.declared.expr.Side.{Side}
use Rattle.regex_ast.specs.declared.expr.Side.TheVariants.{UpUp, LowUp, UpLow, LowLow}
use Rattle.regex_ast.specs.declared.expr.Suffix.TheVariants.{Star, Inverse}
use Rattle.regex_ast.specs.declared.expr.Prefix.TheVariants.{Not, Contains as Part}
use Rattle.regex_ast.specs.Terms.{Term, Contexts, Groups, empty, edge, atom, only, steps, suffixed, prefixed, not_one, cross, group, concat, rules, no_term, then_term, no_context, between, no_step, cross_with, then, no_mapping, plain, no_group, then_group}
use Rattle.expr_kinds.specs.Atoms.{symbols}
use Rattle.expr_kinds.specs.Kinds.{IsLanguage}
use Rattle.expr_meaning.specs.Operators.{inner, IsItself}
use Rattle.expr_meaning.specs.Meaning.{In, InContext, IsCentre, Relates}
use Rattle.expr_meaning.specs.Leaves.{stands_for}

-- what an expression is a language of, and what it relates
abbrev pub Has : List Sym → Term Atom → List (Bound Sym) → Type 0
Has alphabet e w = In stands_for alphabet e w

abbrev pub Pairs : List Sym → Term Atom → List Sym → List Sym → Type 0
Pairs alphabet e u w = Relates stands_for alphabet e u w

-- what a language relates is each of its words, to itself
abbrev pub LanguageRelatesItself : Type 0
LanguageRelatesItself = (alphabet : List Sym) (a : Term Atom) → IsLanguage symbols a → AreSame (Pairs alphabet a) (IsItself (Has alphabet a))

-- `A => _` holds of all words over the alphabet
abbrev pub EmptyContextAllowsAll : Type 0
EmptyContextAllowsAll = (alphabet : List Sym) (a : Term Atom) (w : List (Bound Sym)) → Has alphabet (only a (between empty empty no_context)) w ↔ IsOver (inner alphabet) w

-- the context `.#. _` holds at the beginning of a word alone, and `_ .#.` at its end alone
abbrev pub EdgeIsAtBeginning : Type 0
EdgeIsAtBeginning =
    (alphabet : List Sym) (before behind : List (Bound Sym)) → IsOver (inner alphabet) before
    → InContext stands_for alphabet (between edge empty no_context) before behind ↔ (before ≡ [])

abbrev pub EdgeIsAtEnd : Type 0
EdgeIsAtEnd =
    (alphabet : List Sym) (before behind : List (Bound Sym)) → IsOver (inner alphabet) behind
    → InContext stands_for alphabet (between empty edge no_context) before behind ↔ (behind ≡ [])

-- `~~A` has, of the words over the alphabet that are in A or not in A, just those of A
abbrev pub NotIsUndone : Type 0
NotIsUndone =
    (alphabet : List Sym) (a : Term Atom) (w : List (Bound Sym)) → IsOver (inner alphabet) w → (Has alphabet a w ⊎ ¬ Has alphabet a w)
    → Has alphabet (prefixed (Not ∷ Not ∷ []) a) w ↔ Has alphabet a w

-- `A.i.i` relates what A relates
abbrev pub InverseIsUndone : Type 0
InverseIsUndone = (alphabet : List Sym) (a : Term Atom) → AreSame (Pairs alphabet (suffixed a (Inverse ∷ Inverse ∷ []))) (Pairs alphabet a)

-- `A .o. B` of languages relates each word of both to itself
abbrev pub CompositionIsBoth : Type 0
CompositionIsBoth =
    (alphabet : List Sym) (a b : Term Atom) → IsLanguage symbols a → IsLanguage symbols b
    → AreSame (Pairs alphabet (steps a (then b no_step))) (IsItself (λ w. Has alphabet a w × Has alphabet b w))

-- a symbol as an expression
abbrev pub the : Sym → Term Atom
the s = atom (Symbol s)

-- `a:b .o. b:c` relates a to c and nothing else
abbrev pub CrossesCompose : Type 0
CrossesCompose =
    (alphabet : List Sym) (a b c : Sym)
    → AreSame (Pairs alphabet (steps (cross (the a) (the b)) (then (cross (the b) (the c)) no_step))) (λ u w. (u ≡ a ∷ []) × (w ≡ c ∷ []))

-- `\a` over the alphabet a, b is b
abbrev pub OtherSymbol : Type 0
OtherSymbol = (a b : Sym) → (a ≡ b → ⊥) → (w : List (Bound Sym)) → Has (a ∷ b ∷ []) (not_one 1 (the a)) w ↔ Has (a ∷ b ∷ []) (the b) w

-- `a => b _` has the word ba, and not ab
abbrev pub OnlyBehind : Type 0
OnlyBehind =
    (a b : Sym) → (a ≡ b → ⊥)
    → Has (a ∷ b ∷ []) (only (the a) (between (the b) empty no_context)) (inner (b ∷ a ∷ [])) × ¬ Has (a ∷ b ∷ []) (only (the a) (between (the b) empty no_context)) (inner (a ∷ b ∷ []))

-- `~$A`
abbrev pub without : Term Atom → Term Atom
without a = prefixed (Not ∷ Part ∷ []) a

-- `[~$A [A .x. B]]* ~$A`
abbrev pub all_replaced : Term Atom → Term Atom → Term Atom
all_replaced a b =
    concat (then_term (suffixed (group (concat (then_term (without a) (then_term (group (steps a (cross_with b no_step))) no_term)))) (Star ∷ [])) (then_term (without a) no_term))

-- `A -> B` relates what `[~$A [A .x. B]]* ~$A` relates, where the empty word isn't in A
abbrev pub RulesReplaceAll : Type 0
RulesReplaceAll =
    (alphabet : List Sym) (a b : Term Atom) (side : Side) → (Has alphabet a [] → ⊥)
    → AreSame (Pairs alphabet (rules false (then_group (plain a b no_mapping) side no_context no_group))) (Pairs alphabet (all_replaced a b))

-- optional rules relate every word over the alphabet to itself
abbrev pub OptionalRulesLeaveAll : Type 0
OptionalRulesLeaveAll = (alphabet : List Sym) (groups : Groups Atom) (w : List Sym) → IsOver alphabet w → Pairs alphabet (rules true groups) w w

-- some mapping of the groups has the centre
abbrev pub HasCentre : List Sym → Groups Atom → List Sym → Type 0
HasCentre alphabet no_group centre = ⊥
HasCentre alphabet (then_group maps side contexts groups) centre = IsCentre stands_for alphabet maps centre ⊎ HasCentre alphabet groups centre

-- rules of which no centre occurs in a word over the alphabet relate it to itself alone
abbrev pub RulesLeaveOthers : Type 0
RulesLeaveOthers =
    (alphabet : List Sym) (optional : Bool) (groups : Groups Atom) (u : List Sym) → IsOver alphabet u
    → ((x centre y : List Sym) → u ≡ x ++ (centre ++ y) → HasCentre alphabet groups centre → ⊥)
    → (w : List Sym) → Pairs alphabet (rules optional groups) u w ↔ (u ≡ w)

-- the sides that contexts read, exchanged: `||` and `\/`, `//` and `\\`
abbrev pub turned : Side → Side
turned UpUp = LowLow
turned LowLow = UpUp
turned LowUp = UpLow
turned UpLow = LowUp

-- one group, of one mapping
abbrev pub one_rule : Term Atom → Term Atom → Side → Contexts Atom → Groups Atom
one_rule a b side contexts = then_group (plain a b no_mapping) side contexts no_group

-- where neither part has the empty word, the inverse of optional rules `A (->) B` in contexts is `B (->) A` in the same contexts, read on the
-- other sides
abbrev pub OptionalRulesTurn : Type 0
OptionalRulesTurn =
    (alphabet : List Sym) (a b : Term Atom) (side : Side) (contexts : Contexts Atom) → (Has alphabet a [] → ⊥) → (Has alphabet b [] → ⊥)
    → AreSame (Pairs alphabet (suffixed (rules true (one_rule a b side contexts)) (Inverse ∷ []))) (Pairs alphabet (rules true (one_rule b a (turned side) contexts)))
