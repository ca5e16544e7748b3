-- `.x.`, `.o.` and whole expressions are read exactly.
use Rattle.std.proofs.Common.{◌≡◌, ℕ, zero, suc, Some, true, List, ◌∷◌, Bool, refl, ap, arith}
use Rattle.regex_ast.specs.Terms.{Term}
use Rattle.regex_ast.specs.declared.expr.Raw.{Raw}
use Rattle.regex_tokens.specs.declared.token.Operator.{Operator}
use Rattle.regex_tokens.specs.declared.token.Operator.TheVariants.{CrossWith, Then}
use Rattle.regex_tokens.specs.declared.token.Token.{Token}
use Rattle.regex_tokens.specs.declared.token.Token.TheVariants.{Operator as operator}
use Rattle.regex_grammar.specs.Rows.{Reader}
use Rattle.regex_grammar.specs.Grammar.{StepForm, crossing, composing, put_step, put_steps, put_expression, step_value, with_steps, steps_term, expression_term}
use Rattle.regex_grammar.specs.Reading.{is_level, step_of, step_at, steps_at, expression_at}
use Rattle.regex_grammar.proofs.Cases.{same_some}
use Rattle.regex_grammar.proofs.Exact.{Exact, row_exact, mapped_exact}
use Rattle.regex_grammar.proofs.Operators.{goes_on, follow, Forms, forms_exact}
use Rattle.regex_grammar.proofs.Levels1to4.{Inside}
use Rattle.regex_grammar.proofs.Levels5to8.{chain_exact}
use Rattle.regex_grammar.proofs.Level9.{begins_nine, nine_exact}

step_forms : {N T : Type 0} (put : N → List Token → List Token) (says : N → T) → Forms step_of put (λ (make : T → StepForm T). λ n. make (says n)) (put_step put) (step_value says) (is_level 15)
step_forms {N} {T} put says = record { known = known; spelled = spelled }
  where
    known : (o : Operator) (make : T → StepForm T) → step_of o ≡ Some make → (n : N) → (s : StepForm N) × ((rest : List Token) → put_step put s rest ≡ operator o ∷ put n rest) × (step_value says s ≡ make (says n))
    known CrossWith make e n = (crossing n, (λ rest. refl), ap (λ (f : T → StepForm T). f (says n)) (same_some crossing make e))
    known Then make e n = (composing n, (λ rest. refl), ap (λ (f : T → StepForm T). f (says n)) (same_some composing make e))
    known _ make e n = absurd cc

    spelled : (s : StepForm N) → (o : Operator) × (make : T → StepForm T) × (n : N) × (step_of o ≡ Some make) × ((rest : List Token) → put_step put s rest ≡ operator o ∷ put n rest) × (step_value says s ≡ make (says n)) × (is_level 15 (operator o) ≡ true)
    spelled (crossing n) = (CrossWith, crossing, n, refl, (λ rest. refl), refl, refl)
    spelled (composing n) = (Then, composing, n, refl, (λ rest. refl), refl, refl)

pub step_exact : {N : Type 0} {read : Reader Token (Term Raw)} {put : N → List Token → List Token} {says : N → Term Raw} {starts goes : Token → Bool} → Exact read put says starts goes → Exact (step_at read) (put_step put) (step_value says) (is_level 15) goes
step_exact {put = put} {says = says} h = forms_exact (step_forms put says) (λ make. mapped_exact make h)

pub steps_exact : {E : Type 0} {inner : Reader Token (Term Raw)} {put : E → List Token → List Token} {says : E → Term Raw} → Inside inner put says → Exact (steps_at inner) (put_steps put) (steps_term says) begins_nine (goes_on 15)
steps_exact h = row_exact with_steps (nine_exact (chain_exact h)) (step_exact (nine_exact (chain_exact h))) (follow 14 14 15 (omega arith) (omega arith))

-- an expression may stand in brackets
pub inside : {E : Type 0} {inner : Reader Token (Term Raw)} {put : E → List Token → List Token} {says : E → Term Raw} → Exact inner put says begins_nine (goes_on 15) → Inside inner put says
inside h = record { starts = begins_nine; goes = goes_on 15; exact = h; no_empty = refl; square_ends = refl; round_ends = refl }

pub expression_exact : (n : ℕ) → Exact (expression_at n) (put_expression n) (expression_term n) begins_nine (goes_on 15)
unfolding expression_at
expression_exact zero = record {
  takes = λ tokens x e. absurd cc;
  again = λ a rest stop. absurd a;
  begun = λ a rest. absurd a;
  grows = λ a rest. absurd a;
}
expression_exact (suc n) = steps_exact (inside (expression_exact n))

-- as what stands in brackets
pub expression_inside : (n : ℕ) → Inside (expression_at n) (put_expression n) (expression_term n)
expression_inside n = inside (expression_exact n)
