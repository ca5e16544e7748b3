-- What is found is what the tokens are.
use Rattle.std.proofs.Common.{◌≡◌, ◌==◌, false, List, [], ◌∷◌, length, Option, None, Some, Result, Ok, Err, IfOk, Vec, Global, refl, sym, ap, subst, ◌∙◌}
use Rattle.std.specs.Option.{option_map, option_and_then}
use Rattle.std.specs.declared.alloc.AllocError.{AllocError}
use Rattle.regex_ast.specs.Terms.{Term, term}
use Rattle.regex_ast.specs.declared.expr.Expr.{Expr}
use Rattle.regex_ast.specs.declared.expr.Raw.{Raw}
use Rattle.regex_ast.specs.declared.twolc.PairPart.{PairPart}
use Rattle.regex_tokens.specs.declared.token.Token.{Token as XfstToken}
use Rattle.regex_grammar.specs.Reading.{whole_at}
use Rattle.regex_grammar.specs.Whole.{IsReading}
use Rattle.regex_grammar.proofs.Whole.{reading_again, whole_takes}
use Rattle.project_meaning.specs.Trees.{Part}
use Rattle.twolc_tokens.specs.declared.token.Placed.{Placed}
use Rattle.twolc_tokens.specs.declared.token.Token.{Token}
use Rattle.twolc_grammar.specs.Atoms.{Names}
use Rattle.twolc_grammar.specs.Expressions.{as_xfst, over_pairs, IsExpression, IsPart}
use Rattle.twolc_grammar.specs.Sections.{tokens_of}
use Rattle.twolc_expressions.specs.Reading.{expression_in, pair_term, IsFound}

some_same : {A : Type 0} (x y : A) → Some x ≡ Some y → x ≡ y
some_same x y e = cc

again : (names : Names) (tokens : List Token) (t : Term (Part Raw)) → IsExpression names tokens t → expression_in names tokens ≡ Some t
again names tokens t (xs, ex, s, rs, os) = ap (option_and_then (λ ys. option_and_then (over_pairs names) (whole_at ys))) ex ∙ ap (option_and_then (over_pairs names)) (reading_again xs (Some s) rs) ∙ os

takes : (names : Names) (tokens : List Token) (t : Term (Part Raw)) → expression_in names tokens ≡ Some t → IsExpression names tokens t
takes names tokens t e = by (as_xfst false tokens) refl e
  where
    inner : (xs : List XfstToken) → as_xfst false tokens ≡ Some xs → (o : Option (Term Raw)) → whole_at xs ≡ o → option_and_then (over_pairs names) o ≡ Some t → IsExpression names tokens t
    inner xs is None whole e = absurd cc
    inner xs is (Some s) whole e = (xs, is, s, whole_takes xs s whole, e)

    by : (o : Option (List XfstToken)) → as_xfst false tokens ≡ o → option_and_then (λ xs. option_and_then (over_pairs names) (whole_at xs)) o ≡ Some t → IsExpression names tokens t
    by None is e = absurd cc
    by (Some xs) is e = inner xs is (whole_at xs) refl e

-- what the steps to an expression give
pub read_as : (names : Names) (tokens : List Token) (o : Option (Vec XfstToken Global)) (v : Vec XfstToken Global) (xs : List XfstToken) (r : Option (Term Raw)) → option_map (λ (w : Vec XfstToken Global). w.items) o ≡ as_xfst false tokens → o ≡ Some v → xs ≡ v.items → IsReading xs r → option_and_then (over_pairs names) r ≡ expression_in names tokens
read_as names tokens o v xs r made is same reading =
    let these : Some v.items ≡ as_xfst false tokens = ap (option_map (λ (w : Vec XfstToken Global). w.items)) (sym is) ∙ made in
    ap (option_and_then (over_pairs names)) (sym (reading_again xs r reading) ∙ ap whole_at same) ∙ ap (option_and_then (λ ys. option_and_then (over_pairs names) (whole_at ys))) these

pub unread : (names : Names) (tokens : List Token) (o : Option (Vec XfstToken Global)) (v : Vec XfstToken Global) (xs : List XfstToken) (r : Option (Expr Raw)) → option_map (λ (w : Vec XfstToken Global). w.items) o ≡ as_xfst false tokens → o ≡ Some v → xs ≡ v.items → IsReading xs (option_map term r) → r ≡ None → None ≡ expression_in names tokens
unread names tokens o v xs r made is same reading none = ap (λ (x : Option (Expr Raw)). option_and_then (over_pairs names) (option_map term x)) (sym none) ∙ read_as names tokens o v xs (option_map term r) made is same reading

pub read_ok : (names : Names) (tokens : List Token) (o : Option (Vec XfstToken Global)) (v : Vec XfstToken Global) (xs : List XfstToken) (r : Option (Expr Raw)) (e : Expr Raw) (answer : Result (Option (Expr (PairPart Raw))) AllocError) → option_map (λ (w : Vec XfstToken Global). w.items) o ≡ as_xfst false tokens → o ≡ Some v → xs ≡ v.items → IsReading xs (option_map term r) → r ≡ Some e
    → IfOk answer (λ found. option_map pair_term found ≡ over_pairs names (term e)) → IfOk answer (λ found. option_map pair_term found ≡ expression_in names tokens)
read_ok names tokens o v xs r e answer made is same reading some h =
    let whole : over_pairs names (term e) ≡ expression_in names tokens = ap (λ (x : Option (Expr Raw)). option_and_then (over_pairs names) (option_map term x)) (sym some) ∙ read_as names tokens o v xs (option_map term r) made is same reading in
    subst (λ (x : Option (Term (Part Raw))). IfOk answer (λ found. option_map pair_term found ≡ x)) whole h

pub found : (names : Names) (tokens : List Token) (o : Option (Term (Part Raw))) → o ≡ expression_in names tokens → IsFound (IsExpression names tokens) o
found names tokens None e = λ t h. let clash : None ≡ Some t = e ∙ again names tokens t h in cc
found names tokens (Some t) e = takes names tokens t (sym e)

pub found_ok : (names : Names) (tokens : List Token) (r : Result (Option (Expr (PairPart Raw))) AllocError) → IfOk r (λ o. option_map pair_term o ≡ expression_in names tokens) → IfOk r (λ o. IsFound (IsExpression names tokens) (option_map pair_term o))
found_ok names tokens (Ok o) e = found names tokens (option_map pair_term o) e
found_ok names tokens (Err error) e = e

pub part_ok : (names : Names) (placed : List Placed) (r : Result (Option (Expr (PairPart Raw))) AllocError) → false ≡ (length placed == 0) → IfOk r (λ o. IsFound (IsExpression names (tokens_of placed)) (option_map pair_term o)) → IfOk r (λ o. IsFound (IsPart names (tokens_of placed)) (option_map pair_term o))
part_ok names [] r some h = absurd cc
part_ok names (p ∷ more) (Ok None) some h = h
part_ok names (p ∷ more) (Ok (Some e)) some h = h
part_ok names (p ∷ more) (Err error) some h = h
