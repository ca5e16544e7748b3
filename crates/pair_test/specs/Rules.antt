-- The rules of a grammar by the languages of their contexts (Koskenniemi, Two-level Morphology, 1983): which of them a string of pairs
-- breaks first, and the laws of this.
use Rattle.std.specs.Prelude.{◌↔◌, ℕ, List}
use Rattle.fsm_base.specs.declared.letters.Pair.{Pair}
use Rattle.word_relations.specs.Words.{IsOver}
use Rattle.fst_algebra.specs.Relation.{uppers, lowers}
use Rattle.two_level.specs.Rules.{GrammarRelates, Holds, Keeps}
use Rattle.two_level.specs.declared.rule.LangRule.{LangRule}
use Rattle.pair_test.specs.Splits.{IsBrokenAt}
use Rattle.pair_test.specs.Verdicts.{IsVerdict}
use Rattle.pair_test.specs.declared.verdict.Verdict.{Verdict}
use Rattle.pair_test.specs.declared.verdict.Verdict.TheVariants.{Pass}

-- the string breaks the rule at a place
abbrev pub IsRuleBrokenAt : List Pair → LangRule → ℕ → Type 0
IsRuleBrokenAt p r place = IsBrokenAt (λ x. x.up) (λ x. x.low) (Holds r.contexts.items) r.kind r.pair p place

-- what becomes of a string: it passes, or which rule it breaks first, and where
abbrev pub IsVerdictOn : List LangRule → List Pair → Verdict → Type 0
IsVerdictOn rules p verdict = IsVerdict (IsRuleBrokenAt p) rules verdict

-- a string keeps a rule exactly where it breaks it at no place
abbrev pub KeepsUnbroken : Type 0
KeepsUnbroken = (r : LangRule) (p : List Pair) → Keeps p r ↔ ¬ ((place : ℕ) × IsRuleBrokenAt p r place)

-- the two sides, without zeros, of a string of feasible pairs that passes are related by the grammar
abbrev pub PassingIsRelated : Type 0
PassingIsRelated = (pairs : List Pair) (rules : List LangRule) (p : List Pair) → IsOver pairs p → IsVerdictOn rules p Pass → GrammarRelates pairs rules (uppers p) (lowers p)
