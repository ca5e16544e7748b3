-- The weight that one pass tells is the expression's, as far as weights are told apart.
use Rattle.std.proofs.Common.{◌≡◌, ℕ, Bool, true, ◌+◌, ◌-◌, ◌*◌, zero, suc, List, [], ◌∷◌, length, refl, sym, ap, ◌∙◌, arith}
use Rattle.regex_ast.specs.declared.expr.Suffix.{Suffix}
use Rattle.regex_ast.specs.declared.expr.Suffix.TheVariants.{Star, Plus, Power, Upper, Lower, Inverse, Reverse}
use Rattle.regex_ast.specs.Terms.{Term, Terms, Links, Contexts, Steps, Mappings, Groups, empty, any, edge, atom, letters, group, maybe, not_one, cross, suffixed, prefixed, ignore, concat, chain, only, rules, directed, steps, no_term, then_term, no_link, or, and, less, no_context, between, no_step, cross_with, then, no_mapping, plain, markup, insert, no_group, then_group}
use Rattle.expr_kinds.specs.Kinds.{Leaves}
use Rattle.expr_kinds.specs.Weights.{most_weight, weight_behind, suffixed_weight, count_of, weight_of, weight_of_each, weight_of_links, weight_of_steps, weight_of_contexts, weight_of_mappings, weight_of_groups}
use Rattle.expr_kinds.specs.Forms.{capped, as_language, heavier, beside, behind, with_each, with_kind, nothing, form_in, form_in_each, form_in_links, form_in_steps, form_in_contexts, form_in_mappings, form_in_groups}
use Rattle.expr_kinds.specs.declared.form.Form.{Form}
use Rattle.expr_kinds.specs.declared.form.Kind.TheVariants.{Relation}

more_is : (f b n : ℕ) → f ≡ capped b → capped (f + n) ≡ capped (b + n)
unfolding capped most_weight
more_is f b n is = omega (arith, is)

two_is : (f b g n : ℕ) → f ≡ capped b → g ≡ capped n → capped (f + g) ≡ capped (b + n)
unfolding capped most_weight
two_is f b g n f_is g_is = omega (arith, f_is, g_is)

-- and one operator behind both
two_more : (f b g n : ℕ) → f ≡ capped b → g ≡ capped n → capped (capped (f + g) + 1) ≡ capped (b + n + 1)
unfolding capped most_weight
two_more f b g n f_is g_is = omega (arith, f_is, g_is)

times_is : (n f b : ℕ) → f ≡ capped b → capped (n * f + 1) ≡ capped (n * b + 1)
unfolding capped most_weight
times_is zero f b is = grind arith
times_is (suc n) f b is = grind (arith, is)

regrouped : (a b c d : ℕ) → b + c ≡ d → capped (a + b + c) ≡ capped (a + d)
regrouped a b c d is = ap capped (let e : a + b + c ≡ a + d = omega (arith, is) in e)

end : (b : ℕ) → b + 0 ≡ b
end b = omega arith

start : (f w : ℕ) → f ≡ capped (0 + w) → f ≡ capped w
start f w is = is ∙ ap capped (let e : 0 + w ≡ w = omega arith in e)

operand : (b w more : ℕ) → capped (b + w + 1 + more) ≡ capped (b + (w + 1 + more))
operand b w more = ap capped (let e : b + w + 1 + more ≡ b + (w + 1 + more) = omega arith in e)

group_end : (b maps contexts groups : ℕ) → capped (b + maps + contexts + groups) ≡ capped (b + (maps + contexts + groups))
group_end b maps contexts groups = ap capped (let e : b + maps + contexts + groups ≡ b + (maps + contexts + groups) = omega arith in e)

behind_weight : (f : Form) (b : ℕ) (s : Suffix) → f.weight ≡ capped b → (behind f s).weight ≡ capped (weight_behind b s)
behind_weight f b Star is = more_is f.weight b 1 is
behind_weight f b Plus is = more_is f.weight b 1 is
behind_weight f b (Power n) is = times_is n f.weight b is
behind_weight f b Upper is = more_is f.weight b 1 is
behind_weight f b Lower is = more_is f.weight b 1 is
behind_weight f b Inverse is = more_is f.weight b 1 is
behind_weight f b Reverse is = more_is f.weight b 1 is

with_each_weight : (f : Form) (b : ℕ) (ss : List Suffix) → f.weight ≡ capped b → (with_each f ss).weight ≡ capped (suffixed_weight b ss)
with_each_weight f b [] is = is
with_each_weight f b (s ∷ ss) is = with_each_weight (behind f s) (weight_behind b s) ss (behind_weight f b s is)

-- where leaves weigh the same as far as weights are told apart
module _ {A : Type 0} (leaves : Leaves A) (here leaf : A → ℕ) (built letter : A → Bool) (alike : (a : A) → capped (here a) ≡ capped (leaf a)) where
  mutual
    pub weight_as : (t : Term A) → (form_in leaves here built letter t).weight ≡ capped (weight_of leaf t)
    weight_as empty = refl
    weight_as any = refl
    weight_as edge = refl
    weight_as (atom a) = alike a
    weight_as (letters all) = refl
    weight_as (group e) = weight_as e
    weight_as (maybe e) = more_is _ _ 1 (weight_as e)
    weight_as (not_one n e) = more_is _ _ n (weight_as e)
    weight_as (cross e f) = two_more _ _ _ _ (weight_as e) (weight_as f)
    weight_as (suffixed e suffixes) = with_each_weight (form_in leaves here built letter e) (weight_of leaf e) suffixes (weight_as e)
    weight_as (prefixed prefixes e) = more_is _ _ (length prefixes) (weight_as e)
    weight_as (ignore es) = more_is _ (weight_of_each leaf es) (count_of es - 1) (start _ _ (each_weight nothing 0 es refl))
    weight_as (concat es) = more_is _ (weight_of_each leaf es) (count_of es - 1) (start _ _ (each_weight nothing 0 es refl))
    weight_as (chain e links) = links_weight (form_in leaves here built letter e) (weight_of leaf e) links (weight_as e)
    weight_as (only e contexts) = more_is _ _ 1 (contexts_weight (form_in leaves here built letter e) (weight_of leaf e) contexts (weight_as e))
    weight_as (rules optional groups) = more_is _ (weight_of_groups leaf groups) 1 (start _ _ (groups_weight nothing 0 groups refl))
    weight_as (directed way maps contexts) =
        more_is _ (weight_of_mappings leaf maps + weight_of_contexts leaf contexts) 1
        (contexts_weight (form_in_mappings leaves here built letter nothing maps) (weight_of_mappings leaf maps) contexts (start _ _ (mappings_weight nothing 0 maps refl)))
    weight_as (steps e more) = steps_weight (form_in leaves here built letter e) (weight_of leaf e) more (weight_as e)

    each_weight : (before : Form) (b : ℕ) (es : Terms A) → before.weight ≡ capped b → (form_in_each leaves here built letter before es).weight ≡ capped (b + weight_of_each leaf es)
    each_weight before b no_term is = is ∙ sym (ap capped (end b))
    each_weight before b (then_term e es) is =
        each_weight (beside before (form_in leaves here built letter e)) (b + weight_of leaf e) es (two_is _ _ _ _ is (weight_as e))
        ∙ regrouped b (weight_of leaf e) (weight_of_each leaf es) _ refl

    links_weight : (before : Form) (b : ℕ) (links : Links A) → before.weight ≡ capped b → (form_in_links leaves here built letter before links).weight ≡ capped (b + weight_of_links leaf links)
    links_weight before b no_link is = is ∙ sym (ap capped (end b))
    links_weight before b (or e links) is =
        links_weight (heavier (beside before (form_in leaves here built letter e)) 1) (b + weight_of leaf e + 1) links (two_more _ _ _ _ is (weight_as e))
        ∙ operand b (weight_of leaf e) (weight_of_links leaf links)
    links_weight before b (and e links) is =
        links_weight (heavier (as_language (beside before (form_in leaves here built letter e))) 1) (b + weight_of leaf e + 1) links (two_more _ _ _ _ is (weight_as e))
        ∙ operand b (weight_of leaf e) (weight_of_links leaf links)
    links_weight before b (less e links) is =
        links_weight (heavier (as_language (beside before (form_in leaves here built letter e))) 1) (b + weight_of leaf e + 1) links (two_more _ _ _ _ is (weight_as e))
        ∙ operand b (weight_of leaf e) (weight_of_links leaf links)

    steps_weight : (before : Form) (b : ℕ) (more : Steps A) → before.weight ≡ capped b → (form_in_steps leaves here built letter before more).weight ≡ capped (b + weight_of_steps leaf more)
    steps_weight before b no_step is = is ∙ sym (ap capped (end b))
    steps_weight before b (cross_with e more) is =
        steps_weight (with_kind (heavier (as_language (beside before (form_in leaves here built letter e))) 1) Relation) (b + weight_of leaf e + 1) more (two_more _ _ _ _ is (weight_as e))
        ∙ operand b (weight_of leaf e) (weight_of_steps leaf more)
    steps_weight before b (then e more) is =
        steps_weight (heavier (beside before (form_in leaves here built letter e)) 1) (b + weight_of leaf e + 1) more (two_more _ _ _ _ is (weight_as e))
        ∙ operand b (weight_of leaf e) (weight_of_steps leaf more)

    contexts_weight : (before : Form) (b : ℕ) (contexts : Contexts A) → before.weight ≡ capped b → (form_in_contexts leaves here built letter before contexts).weight ≡ capped (b + weight_of_contexts leaf contexts)
    contexts_weight before b no_context is = is ∙ sym (ap capped (end b))
    contexts_weight before b (between l r contexts) is =
        contexts_weight (beside before (beside (form_in leaves here built letter l) (form_in leaves here built letter r))) (b + (weight_of leaf l + weight_of leaf r)) contexts
        (two_is _ _ _ _ is (two_is _ _ _ _ (weight_as l) (weight_as r)))
        ∙ regrouped b (weight_of leaf l + weight_of leaf r) (weight_of_contexts leaf contexts) _ refl

    mappings_weight : (before : Form) (b : ℕ) (maps : Mappings A) → before.weight ≡ capped b → (form_in_mappings leaves here built letter before maps).weight ≡ capped (b + weight_of_mappings leaf maps)
    mappings_weight before b no_mapping is = is ∙ sym (ap capped (end b))
    mappings_weight before b (plain c r maps) is =
        mappings_weight (beside before (beside (form_in leaves here built letter c) (form_in leaves here built letter r))) (b + (weight_of leaf c + weight_of leaf r)) maps
        (two_is _ _ _ _ is (two_is _ _ _ _ (weight_as c) (weight_as r)))
        ∙ regrouped b (weight_of leaf c + weight_of leaf r) (weight_of_mappings leaf maps) _ refl
    mappings_weight before b (markup c m r maps) is =
        mappings_weight (beside before (beside (form_in leaves here built letter c) (beside (form_in leaves here built letter m) (form_in leaves here built letter r)))) (b + (weight_of leaf c + (weight_of leaf m + weight_of leaf r))) maps
        (two_is _ _ _ _ is (two_is _ _ _ _ (weight_as c) (two_is _ _ _ _ (weight_as m) (weight_as r))))
        ∙ regrouped b (weight_of leaf c + (weight_of leaf m + weight_of leaf r)) (weight_of_mappings leaf maps) _ (omega arith)
    mappings_weight before b (insert r maps) is =
        mappings_weight (beside before (form_in leaves here built letter r)) (b + weight_of leaf r) maps (two_is _ _ _ _ is (weight_as r))
        ∙ regrouped b (weight_of leaf r) (weight_of_mappings leaf maps) _ refl

    groups_weight : (before : Form) (b : ℕ) (groups : Groups A) → before.weight ≡ capped b → (form_in_groups leaves here built letter before groups).weight ≡ capped (b + weight_of_groups leaf groups)
    groups_weight before b no_group is = is ∙ sym (ap capped (end b))
    groups_weight before b (then_group maps side contexts groups) is =
        groups_weight (form_in_contexts leaves here built letter (form_in_mappings leaves here built letter before maps) contexts) (b + weight_of_mappings leaf maps + weight_of_contexts leaf contexts) groups
        (contexts_weight (form_in_mappings leaves here built letter before maps) (b + weight_of_mappings leaf maps) contexts (mappings_weight before b maps is))
        ∙ group_end b (weight_of_mappings leaf maps) (weight_of_contexts leaf contexts) (weight_of_groups leaf groups)

pub weight_is : {A : Type 0} (leaves : Leaves A) (leaf : A → ℕ) (built letter : A → Bool) (t : Term A) → (form_in leaves leaf built letter t).weight ≡ capped (weight_of leaf t)
weight_is leaves leaf built letter t = weight_as leaves leaf leaf built letter (λ a. refl) t

-- expressions weigh the same as far as weights are told apart, where their leaves do
pub capped_alike : {A : Type 0} (here leaf : A → ℕ) → ((a : A) → capped (here a) ≡ capped (leaf a)) → (t : Term A) → capped (weight_of here t) ≡ capped (weight_of leaf t)
capped_alike {A} here leaf alike t =
    let leaves : Leaves A = record { kind = λ a. Relation; same = λ a b. true } in
    sym (weight_is leaves here (λ a. true) (λ a. true) t) ∙ weight_as leaves here leaf (λ a. true) (λ a. true) alike t

pub capped_twice : (weight : ℕ) → capped (capped weight) ≡ capped weight
unfolding capped most_weight
capped_twice weight = omega arith
