-- Contexts and rules one by one, and the pair of a centre.
use Rattle.std.proofs.Common.{◌≡◌, ◌<◌, ◌+◌, ℕ, zero, suc, List, [], ◌∷◌, ◌++◌, All, length, map, take, get_or, sym, subst, arith}
use Rattle.std.proofs.lemmas.List.{take_more}
use Rattle.std.proofs.lemmas.List.Elements.{All-contains}
use Rattle.word_relations.proofs.Members.{Contains-map}
use Rattle.regex_ast.specs.declared.expr.Atom.{Atom}
use Rattle.regex_ast.specs.declared.expr.Context.{Context}
use Rattle.regex_ast.specs.declared.twolc.PairPart.{PairPart}
use Rattle.regex_ast.specs.declared.twolc.TwoLevelRule.{TwoLevelRule}
use Rattle.project_meaning.specs.Trees.{Side, nothing, anything, one, member, Pair}
use Rattle.grammar_pairs.specs.Feasible.{written_pair}
use Rattle.grammar_pairs.specs.Plain.{ContextsArePairForms, IsFormedRule, IsNamedSide, IsPairForm, contexts_in, rule_of, term_of}
use Rattle.network_grammars.specs.Rules.{Pairwise}

pair_more : {A B : Type 0} (R : A → B → Type 0) (xs : List A) (ys : List B) (x : A) (y : B) → Pairwise R xs ys → R x y → Pairwise R (xs ++ x ∷ []) (ys ++ y ∷ [])
pair_more R [] [] x y all here = (here, tt)
pair_more R [] (b ∷ ys) x y all here = absurd all
pair_more R (a ∷ xs) [] x y all here = absurd all
pair_more R (a ∷ xs) (b ∷ ys) x y (first, rest) here = (first, pair_more R xs ys x y rest here)

-- one element more
pub pairs_more : {A B : Type 0} (R : A → B → Type 0) (xs : List A) (i : ℕ) (x : A) (ys : List B) (y : B) → i < length xs → x ≡ get_or xs i x → Pairwise R (take i xs) ys → R x y → Pairwise R (take (i + 1) xs) (ys ++ y ∷ [])
pairs_more {A} R xs i x ys y below is all here =
    let longer : take (i + 1) xs ≡ take i xs ++ x ∷ [] = subst (λ (p : A). take (i + 1) xs ≡ take i xs ++ p ∷ []) (sym is) (take_more xs i x below) in
    subst (λ (z : List A). Pairwise R z (ys ++ y ∷ [])) (sym longer) (pair_more R (take i xs) ys x y all here)

-- the forms of one of the contexts, and of one of the rules
pub context_forms : (contexts : List (Context (PairPart Atom))) → ContextsArePairForms (contexts_in contexts) → (i : ℕ) (c : Context (PairPart Atom)) → i < length contexts → c ≡ get_or contexts i c → IsPairForm (term_of c.left) × IsPairForm (term_of c.right)
context_forms [] forms i c below is = absurd (omega arith)
context_forms (d ∷ contexts) forms zero c below is = subst (λ (z : Context (PairPart Atom)). IsPairForm (term_of z.left) × IsPairForm (term_of z.right)) (sym is) (forms.0, forms.1)
context_forms (d ∷ contexts) forms (suc i) c below is = context_forms contexts forms.2 i c (omega arith) is

pub rule_forms : (rules : List (TwoLevelRule Atom)) → All IsFormedRule (map rule_of rules) → (i : ℕ) (r : TwoLevelRule Atom) → i < length rules → r ≡ get_or rules i r → IsFormedRule (rule_of r)
rule_forms rules all i r below is = All-contains IsFormedRule (map rule_of rules) (rule_of r) all (Contains-map rule_of rules r (i, below, sym is))

-- sides that name one symbol or none write a pair
not_empty : {X : Type 0} (x : X) (xs : List X) → x ∷ xs ≡ [] → ⊥
not_empty x xs e = cc

some_written : (up low : Side Atom) → IsNamedSide up → IsNamedSide low → written_pair (record { up = up; low = low }) ≡ [] → ⊥
some_written nothing nothing first second none = not_empty _ _ none
some_written nothing (one t) first second none = not_empty _ _ none
some_written (one s) nothing first second none = not_empty _ _ none
some_written (one s) (one t) first second none = not_empty _ _ none
some_written up anything first second none = second
some_written up (member set) first second none = second
some_written anything low first second none = first
some_written (member set) low first second none = first

pub named_written : (p : Pair Atom) → IsNamedSide p.up → IsNamedSide p.low → [] ≡ written_pair p → ⊥
named_written p first second none = some_written p.up p.low first second (sym none)
