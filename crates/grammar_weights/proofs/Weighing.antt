-- What definitions of a grammar weigh, one below the other, and the sums of their weights.
use Rattle.std.proofs.Common.{◌≡◌, ◌⊎◌, ◌+◌, ◌<◌, ℕ, Bool, true, false, cond, inl, inr, List, [], ◌∷◌, ◌++◌, Option, None, Some, length, map, take, get_or, refl, sym, ap, ◌∙◌, slice_get, arith}
use Rattle.std.specs.Prelude.{reverse, sum_by}
use Rattle.std.specs.Str.{bytes_eq}
use Rattle.std.proofs.lemmas.List.{length-append, map-append, reverse-append, take_more}
use Rattle.std.proofs.lemmas.List.Sums.{sum_by-cons}
use Rattle.std.proofs.lemmas.Option.{same_Some}
use Rattle.word_relations.proofs.Places.{slice_get-append_left}
use Rattle.regex_ast.specs.Terms.{Term}
use Rattle.regex_ast.specs.declared.expr.Atom.{Atom}
use Rattle.regex_ast.specs.declared.expr.Atom.TheVariants.{Sym, Name}
use Rattle.regex_ast.specs.declared.expr.Context.{Context}
use Rattle.regex_ast.specs.declared.twolc.PairDefine.{PairDefine}
use Rattle.regex_ast.specs.declared.twolc.PairPart.{PairPart}
use Rattle.regex_ast.specs.declared.twolc.PairPart.TheVariants.{Atom as OfPair, Named}
use Rattle.regex_ast.specs.declared.twolc.TwoLevelRule.{TwoLevelRule}
use Rattle.expr_kinds.specs.Atoms.{weight_at, weight_told, weights_at}
use Rattle.expr_kinds.specs.Forms.{capped, of_leaf}
use Rattle.expr_kinds.specs.Weights.{most_weight, weight_of, weight_of_contexts}
use Rattle.expr_kinds.specs.declared.form.Form.{Form}
use Rattle.expr_kinds.specs.declared.form.Kind.TheVariants.{Language}
use Rattle.expr_kinds.proofs.WeightLaws.{capped_alike, capped_twice}
use Rattle.expr_leaves.specs.Mapped.{mapped}
use Rattle.project_meaning.specs.Trees.{Part, Pair, pair, called, PairDefinition}
use Rattle.grammar_pairs.specs.Plain.{contexts_in, definition_of, pair_of, part_of, rule_of, term_of}
use Rattle.grammar_pairs.specs.Tables.{under}
use Rattle.grammar_weights.specs.Weighed.{IsWeighed, leaf_at, stands_for}
use Rattle.grammar_weights.specs.Weights.{part_weight, rule_weight}
use Rattle.grammar_weights.specs.declared.definitions.Weighed.{Weighed}
use Rattle.grammar_weights.proofs.Replaced.{mapped_weight}

pair_weight : (above : List (PairDefinition Atom)) (p : Pair Atom) → part_weight above (pair p) ≡ 1
pair_weight [] p = refl
pair_weight (d ∷ above) p = refl

symbol_weight : (forms : List Form) → weights_at forms (Sym (record { 0 = 0 })) ≡ 1
unfolding weights_at
symbol_weight forms = refl

name_weight : (forms : List Form) (place : ℕ) → weights_at forms (Name place) ≡ weight_at forms place
unfolding weights_at
name_weight forms place = refl

-- an expression weighs the same by what stands for its leaves
module _ (weighed : Weighed) (above : List (PairDefinition Atom)) (is : IsWeighed weighed above) where
  part_weighs : (p : PairPart Atom) → capped (weights_at weighed.forms.items (stands_for weighed.places p)) ≡ capped (part_weight above (part_of p))
  part_weighs (OfPair p) = ap capped (symbol_weight weighed.forms.items ∙ sym (pair_weight above (pair_of p)))
  part_weighs (Named name) = is.weights name

  pub term_weighs : (e : Term (PairPart Atom)) → capped (weight_of (weights_at weighed.forms.items) (mapped (stands_for weighed.places) e)) ≡ capped (weight_of (part_weight above) (mapped part_of e))
  term_weighs e =
      ap capped (mapped_weight (weights_at weighed.forms.items) (stands_for weighed.places) e)
      ∙ capped_alike (λ p. weights_at weighed.forms.items (stands_for weighed.places p)) (λ p. part_weight above (part_of p)) part_weighs e
      ∙ ap capped (sym (mapped_weight (part_weight above) part_of e))

cases_of : (b : Bool) → (b ≡ true) ⊎ (b ≡ false)
cases_of true = inl refl
cases_of false = inr refl

last_is : (forms : List Form) (form : Form) → slice_get (forms ++ form ∷ []) (length forms) ≡ Some form
last_is [] form = refl
last_is (f ∷ forms) form = last_is forms form

-- a definition below the others
module _ (old new : Weighed) (above : List (PairDefinition Atom)) (is : IsWeighed old above) (d : PairDefinition Atom) (weight : ℕ) (weight_is : weight ≡ capped (weight_of (part_weight above) d.term))
    (forms_are : new.forms.items ≡ old.forms.items ++ of_leaf Language weight ∷ [])
    (put : (name : List ℕ) → under name new.places ≡ cond (bytes_eq d.name name) (Some (length old.forms.items)) (under name old.places)) where
  abbrev forms : List Form
  forms = old.forms.items

  abbrev last : Form
  last = of_leaf Language weight

  last_weighs : weights_at new.forms.items (Name (length forms)) ≡ capped weight
  last_weighs = ap (λ (z : List Form). weights_at z (Name (length forms))) forms_are ∙ name_weight (forms ++ last ∷ []) (length forms) ∙ ap weight_told (last_is forms last)

  before_weighs : (o : Option ℕ) → ((place : ℕ) → o ≡ Some place → place < length forms) → weights_at new.forms.items (leaf_at o) ≡ weights_at forms (leaf_at o)
  before_weighs None within = symbol_weight new.forms.items ∙ sym (symbol_weight forms)
  before_weighs (Some place) within =
      ap (λ (z : List Form). weights_at z (Name place)) forms_are ∙ name_weight (forms ++ last ∷ []) place ∙ ap weight_told (slice_get-append_left forms (last ∷ []) place (within place refl)) ∙ sym (name_weight forms place)

  grown : length new.forms.items ≡ length forms + 1
  grown = ap length forms_are ∙ length-append forms (last ∷ [])

  pub one_below : IsWeighed new (d ∷ above)
  one_below = record {
    weights = λ name. elim (cases_of (bytes_eq d.name name)) as (λ _. capped (weights_at new.forms.items (leaf_at (under name new.places))) ≡ capped (part_weight (d ∷ above) (called name))) [
      | inl e ↦
          ap (λ (o : Option ℕ). capped (weights_at new.forms.items (leaf_at o))) (put name ∙ ap (λ (b : Bool). cond b (Some (length forms)) (under name old.places)) e)
          ∙ ap capped (last_weighs ∙ ap capped weight_is) ∙ capped_twice (capped (weight_of (part_weight above) d.term)) ∙ capped_twice (weight_of (part_weight above) d.term)
          ∙ sym (ap (λ (b : Bool). capped (cond b (weight_of (part_weight above) d.term) (part_weight above (called name)))) e)
      | inr e ↦
          ap (λ (o : Option ℕ). capped (weights_at new.forms.items (leaf_at o))) (put name ∙ ap (λ (b : Bool). cond b (Some (length forms)) (under name old.places)) e)
          ∙ ap capped (before_weighs (under name old.places) (is.within name)) ∙ is.weights name
          ∙ sym (ap (λ (b : Bool). capped (cond b (weight_of (part_weight above) d.term) (part_weight above (called name)))) e)
    ];
    within = λ name place at. elim (cases_of (bytes_eq d.name name)) as (λ _. place < length new.forms.items) [
      | inl e ↦
          let same = same_Some (length forms) place (sym (put name ∙ ap (λ (b : Bool). cond b (Some (length forms)) (under name old.places)) e) ∙ at) in
          omega (arith, same, grown)
      | inr e ↦
          let less = is.within name place (sym (put name ∙ ap (λ (b : Bool). cond b (Some (length forms)) (under name old.places)) e) ∙ at) in
          omega (arith, less, grown)
    ];
  }

-- no definition
pub none_above : (weighed : Weighed) → weighed.places ≡ [] → IsWeighed weighed []
none_above weighed empty = record {
  weights = λ name. ap capped (ap (λ (z : List (List ℕ × ℕ)). weights_at weighed.forms.items (leaf_at (under name z))) empty ∙ symbol_weight weighed.forms.items);
  within = λ name place at. let never : None ≡ Some place = ap (under name) (sym empty) ∙ at in absurd (cc);
}

-- one definition more of a list
pub definitions_more : (definitions : List (PairDefine Atom)) (i : ℕ) (d : PairDefine Atom) → i < length definitions → d ≡ get_or definitions i d
    → reverse (map definition_of (take (i + 1) definitions)) ≡ definition_of d ∷ reverse (map definition_of (take i definitions))
definitions_more definitions i d below is =
    ap (λ (z : List (PairDefine Atom)). reverse (map definition_of z)) (take_more definitions i d below ∙ ap (λ (x : PairDefine Atom). take i definitions ++ x ∷ []) (sym is))
    ∙ ap reverse (map-append definition_of (take i definitions) (d ∷ [])) ∙ reverse-append (map definition_of (take i definitions)) (definition_of d ∷ [])

-- Sums of weights, as far as they are told apart.

-- what is left, and what was added so far
pub record IsSumSo (weight left all : ℕ) : Type 0 where
  pub sum : capped (weight + left) ≡ capped all
  pub small : weight ≡ capped weight

pub nothing_so : (all : ℕ) → IsSumSo 0 all all
unfolding capped most_weight
nothing_so all = record { sum = ap capped (let e : 0 + all ≡ all = omega arith in e); small = omega arith }

sum_more : (weight one more left all a b here rest : ℕ) → one ≡ capped (a + b) → more ≡ capped (weight + one) → left ≡ here + rest → capped (a + b) ≡ capped here → capped (weight + left) ≡ capped all → capped (more + rest) ≡ capped all
unfolding capped most_weight
sum_more weight one more left all a b here rest one_is more_is left_is here_is so_far = omega (arith, one_is, more_is, left_is, here_is, so_far)

sum_small : (weight more : ℕ) → more ≡ capped weight → more ≡ capped more
unfolding capped most_weight
sum_small weight more is = omega (arith, is)

-- one item more, of two parts
pub so_more : (weight one more left all a b here rest : ℕ) → one ≡ capped (a + b) → more ≡ capped (weight + one) → left ≡ here + rest → capped (a + b) ≡ capped here → IsSumSo weight left all → IsSumSo more rest all
so_more weight one more left all a b here rest one_is more_is left_is here_is so_far = record {
  sum = sum_more weight one more left all a b here rest one_is more_is left_is here_is so_far.sum;
  small = sum_small (weight + one) more more_is;
}

pub so_ended : (weight left all : ℕ) → left ≡ 0 → IsSumSo weight left all → weight ≡ capped all
so_ended weight left all none so_far = so_far.small ∙ ap capped (let e : weight ≡ weight + left = omega (arith, none) in e) ∙ so_far.sum

-- two parts, each as far as weights are told apart
pub both_parts : (a b c d : ℕ) → a ≡ capped c → b ≡ capped d → capped (a + b) ≡ capped (c + d)
unfolding capped most_weight
both_parts a b c d first second = omega (arith, first, second)

-- and one that is exact
pub exact_part : (a b d : ℕ) → b ≡ capped d → capped (a + b) ≡ capped (a + d)
unfolding capped most_weight
exact_part a b d second = omega (arith, second)

pub context_left : (leaf : Part Atom → ℕ) (contexts rest : List (Context (PairPart Atom))) (c : Context (PairPart Atom)) → contexts ≡ c ∷ rest
    → weight_of_contexts leaf (contexts_in contexts) ≡ weight_of leaf (term_of c.left) + weight_of leaf (term_of c.right) + weight_of_contexts leaf (contexts_in rest)
context_left leaf contexts rest c is = ap (λ z. weight_of_contexts leaf (contexts_in z)) is

pub rule_left : (above : List (PairDefinition Atom)) (rules rest : List (TwoLevelRule Atom)) (r : TwoLevelRule Atom) → rules ≡ r ∷ rest
    → sum_by (rule_weight above) (map rule_of rules) ≡ rule_weight above (rule_of r) + sum_by (rule_weight above) (map rule_of rest)
rule_left above rules rest r is = ap (λ z. sum_by (rule_weight above) (map rule_of z)) is ∙ sum_by-cons (rule_weight above) (rule_of r) (map rule_of rest)

-- one more than a part
pub one_part : (a c : ℕ) → a ≡ capped c → capped (a + 1) ≡ capped (c + 1)
unfolding capped most_weight
one_part a c is = omega (arith, is)

pub first_part : (a b : ℕ) → capped (capped a + b) ≡ capped (a + b)
unfolding capped most_weight
first_part a b = omega arith
