-- Operands and steps one by one: each is built, fits, and weighs less than all.
use Rattle.std.proofs.Common.{◌<◌, ◌≤◌, ◌+◌, ℕ, zero, suc, List, [], ◌∷◌, length, map, take, get_or, arith}
use Rattle.fsm_base.specs.declared.letters.Sym.{Sym}
use Rattle.regex_ast.specs.declared.expr.Atom.{Atom}
use Rattle.regex_ast.specs.declared.expr.Expr.{Expr}
use Rattle.regex_ast.specs.declared.expr.Step.{Step, CrossWith, Then}
use Rattle.regex_ast.specs.Terms.{Term, term, terms_of, steps_by}
use Rattle.expr_kinds.specs.Kinds.{both, kind_of, kind_of_steps, EachFitsAsLanguage, Fits, IsLanguage, StepsFit}
use Rattle.expr_kinds.specs.declared.form.Kind.{Kind}
use Rattle.expr_kinds.specs.declared.form.Kind.TheVariants.{Relation}
use Rattle.network_expr.specs.Built.{AreBuiltOver, IsBuiltOver, StepsAreBuiltOver}
use Rattle.network_expr.specs.Parts.{kinds}
use Rattle.network_expr.specs.declared.parts.Part.{Part}
use Rattle.network_expr.proofs.Weights.{weight, weight_each, weight_steps, step_weight}

module _ (parts : List Part) (alphabet : List Sym) where
  -- what is asked of an operand that is a language, where it weighs less than so much
  pub record OperandReady (e : Term Atom) (most : ℕ) : Type 0 where
    pub built : IsBuiltOver parts alphabet e
    pub fits : Fits (kinds parts) e
    pub language : IsLanguage (kinds parts) e
    pub light : weight e + 2 < most

  pub operand_ready : (es : List (Expr Atom)) (most i : ℕ) (d : Expr Atom) → i < length es → AreBuiltOver parts alphabet (terms_of (map term es)) → EachFitsAsLanguage (kinds parts) (terms_of (map term es)) → weight_each (terms_of (map term es)) ≤ most → OperandReady (term (get_or es i d)) most
  operand_ready [] most i d within built fits light = absurd (omega arith)
  operand_ready (e ∷ es) most zero d within (b, built) (is, here, fits) light = record { built = b; fits = here; language = is; light = omega (arith, light) }
  operand_ready (e ∷ es) most (suc i) d within (b, built) (is, here, fits) light = operand_ready es most i d (omega arith) built fits (omega (arith, light))

  -- what is asked of a step behind something of such a kind
  pub record StepReady (kind : Kind) (step : Step Atom) (most : ℕ) : Type 0 where
    pub built : StepsAreBuiltOver parts alphabet (steps_by (step ∷ []))
    pub fits : StepsFit (kinds parts) kind (steps_by (step ∷ []))
    pub light : step_weight step < most

  pub step_ready : (steps : List (Step Atom)) (kind : Kind) (most i : ℕ) (d : Step Atom) → i < length steps → StepsAreBuiltOver parts alphabet (steps_by steps) → StepsFit (kinds parts) kind (steps_by steps) → weight_steps (steps_by steps) ≤ most
      → StepReady (kind_of_steps (kinds parts) kind (steps_by (take i steps))) (get_or steps i d) most
  step_ready [] kind most i d within built fits light = absurd (omega arith)
  step_ready (CrossWith e ∷ steps) kind most zero d within (b, built) (is, language, here, fits) light = record { built = (b, tt); fits = (is, language, here, tt); light = omega (arith, light) }
  step_ready (Then e ∷ steps) kind most zero d within (b, built) (here, fits) light = record { built = (b, tt); fits = (here, tt); light = omega (arith, light) }
  step_ready (CrossWith e ∷ steps) kind most (suc i) d within (b, built) (is, language, here, fits) light = step_ready steps Relation most i d (omega arith) built fits (omega (arith, light))
  step_ready (Then e ∷ steps) kind most (suc i) d within (b, built) (here, fits) light = step_ready steps (both kind (kind_of (kinds parts) (term e))) most i d (omega arith) built fits (omega (arith, light))
