-- Prefixes, `/`, concatenation and `|`, `&`, `-` are read exactly.
use Rattle.std.proofs.Common.{◌≡◌, ◌&&◌, not, Bool, true, false, Some, List, ◌∷◌, refl, ap, arith}
use Rattle.regex_ast.specs.Terms.{Term}
use Rattle.regex_ast.specs.declared.expr.Raw.{Raw}
use Rattle.regex_ast.specs.declared.expr.Prefix.{Prefix}
use Rattle.regex_ast.specs.declared.expr.Prefix.TheVariants.{Not, Contains}
use Rattle.regex_tokens.specs.declared.token.Operator.{Operator}
use Rattle.regex_tokens.specs.declared.token.Operator.TheVariants.{Bar, Slash, Ampersand, Minus, Tilde, Dollar}
use Rattle.regex_tokens.specs.declared.token.Token.{Token}
use Rattle.regex_tokens.specs.declared.token.Token.TheVariants.{Operator as operator}
use Rattle.regex_grammar.specs.Rows.{Reader}
use Rattle.regex_grammar.specs.Grammar.{Linked, or_else, and_also, but_not, put_prefix, put_prefixed, put_ignored, put_concat, put_linked, put_chain, with_prefixes, prefixed_term, ignoring, ignored_term, side_by_side, concat_term, linked_value, with_links, chain_term}
use Rattle.regex_grammar.specs.Reading.{level, is_level, is_prefix, prefix_of, prefixed_at, ignored_at, concat_at, linked_of, link_at, chain_at}
use Rattle.regex_grammar.proofs.Cases.{same_some}
use Rattle.regex_grammar.proofs.Exact.{Exact, Lead, row_exact, led_exact, mapped_exact}
use Rattle.regex_grammar.proofs.Operators.{goes_on, tighter, follow, Marks, marks_exact, Forms, forms_exact, behind_exact}
use Rattle.regex_grammar.proofs.Levels1to4.{begins_negated, Inside, level_seven, suffixed_exact}

-- Level 5.

pub prefix_marks : Marks prefix_of put_prefix (λ p. p) is_prefix
prefix_marks = record { known = known; spelled = spelled }
  where
    known : (o : Operator) (t : Prefix) → prefix_of o ≡ Some t → (p : Prefix) × ((rest : List Token) → put_prefix p rest ≡ operator o ∷ rest) × (p ≡ t)
    known Tilde t e = (Not, (λ rest. refl), cc)
    known Dollar t e = (Contains, (λ rest. refl), cc)
    known _ t e = absurd cc

    spelled : (p : Prefix) → (o : Operator) × ((rest : List Token) → put_prefix p rest ≡ operator o ∷ rest) × (prefix_of o ≡ Some p) × (is_prefix (operator o) ≡ true)
    spelled Not = (Tilde, (λ rest. refl), refl, refl)
    spelled Contains = (Dollar, (λ rest. refl), refl, refl)

no_prefix : (a b : Bool) → (a && not b) ≡ true → b ≡ false
no_prefix true false e = refl
no_prefix true true e = absurd cc
no_prefix false b e = absurd cc

prefix_ends : (t : Token) → is_prefix t ≡ true → goes_on 0 t ≡ false
prefix_ends (operator Tilde) e = refl
prefix_ends (operator Dollar) e = refl
prefix_ends _ e = absurd cc

prefix_begins : (t : Token) → is_prefix t ≡ true → is_level 7 t ≡ true
prefix_begins (operator Tilde) e = refl
prefix_begins (operator Dollar) e = refl
prefix_begins _ e = absurd cc

prefixed_lead : Lead is_prefix (goes_on 0) begins_negated (is_level 7)
prefixed_lead = record {
  item_mark = λ t e. no_prefix (is_level 7 t) (is_prefix t) e;
  item_ends = λ t e. tighter (level t) 0 7 (omega arith) (level_seven (is_level 7 t) _ e);
  mark_ends = prefix_ends;
  mark_starts = prefix_begins;
  item_starts = λ t e. level_seven (is_level 7 t) _ e;
}

pub prefixed_exact : {E : Type 0} {inner : Reader Token (Term Raw)} {put : E → List Token → List Token} {says : E → Term Raw} → Inside inner put says → Exact (prefixed_at inner) (put_prefixed put) (prefixed_term says) (is_level 7) (goes_on 4)
prefixed_exact h = led_exact with_prefixes (marks_exact (goes_on 0) prefix_marks) (suffixed_exact h) prefixed_lead

-- Level 6.

pub ignored_exact : {E : Type 0} {inner : Reader Token (Term Raw)} {put : E → List Token → List Token} {says : E → Term Raw} → Inside inner put says → Exact (ignored_at inner) (put_ignored put) (ignored_term says) (is_level 7) (goes_on 6)
ignored_exact h = row_exact ignoring (prefixed_exact h) (behind_exact Slash (is_level 6) (λ t. t) refl (prefixed_exact h)) (follow 4 4 6 (omega arith) (omega arith))

-- Level 7.

pub concat_exact : {E : Type 0} {inner : Reader Token (Term Raw)} {put : E → List Token → List Token} {says : E → Term Raw} → Inside inner put says → Exact (concat_at inner) (put_concat put) (concat_term says) (is_level 7) (goes_on 7)
concat_exact h = row_exact side_by_side (ignored_exact h) (ignored_exact h) (follow 6 6 7 (omega arith) (omega arith))

-- Level 8.

linked_forms : {C T : Type 0} (put : C → List Token → List Token) (says : C → T) → Forms linked_of put (λ (make : T → Linked T). λ c. make (says c)) (put_linked put) (linked_value says) (is_level 8)
linked_forms {C} {T} put says = record { known = known; spelled = spelled }
  where
    known : (o : Operator) (make : T → Linked T) → linked_of o ≡ Some make → (c : C) → (l : Linked C) × ((rest : List Token) → put_linked put l rest ≡ operator o ∷ put c rest) × (linked_value says l ≡ make (says c))
    known Bar make e c = (or_else c, (λ rest. refl), ap (λ (f : T → Linked T). f (says c)) (same_some or_else make e))
    known Ampersand make e c = (and_also c, (λ rest. refl), ap (λ (f : T → Linked T). f (says c)) (same_some and_also make e))
    known Minus make e c = (but_not c, (λ rest. refl), ap (λ (f : T → Linked T). f (says c)) (same_some but_not make e))
    known _ make e c = absurd cc

    spelled : (l : Linked C) → (o : Operator) × (make : T → Linked T) × (c : C) × (linked_of o ≡ Some make) × ((rest : List Token) → put_linked put l rest ≡ operator o ∷ put c rest) × (linked_value says l ≡ make (says c)) × (is_level 8 (operator o) ≡ true)
    spelled (or_else c) = (Bar, or_else, c, refl, (λ rest. refl), refl, refl)
    spelled (and_also c) = (Ampersand, and_also, c, refl, (λ rest. refl), refl, refl)
    spelled (but_not c) = (Minus, but_not, c, refl, (λ rest. refl), refl, refl)

pub link_exact : {C : Type 0} {read : Reader Token (Term Raw)} {put : C → List Token → List Token} {says : C → Term Raw} {starts goes : Token → Bool} → Exact read put says starts goes → Exact (link_at read) (put_linked put) (linked_value says) (is_level 8) goes
link_exact {put = put} {says = says} h = forms_exact (linked_forms put says) (λ make. mapped_exact make h)

pub chain_exact : {E : Type 0} {inner : Reader Token (Term Raw)} {put : E → List Token → List Token} {says : E → Term Raw} → Inside inner put says → Exact (chain_at inner) (put_chain put) (chain_term says) (is_level 7) (goes_on 8)
chain_exact h = row_exact with_links (concat_exact h) (link_exact (concat_exact h)) (follow 7 7 8 (omega arith) (omega arith))
