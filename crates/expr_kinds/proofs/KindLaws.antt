-- The kind that one pass tells is the expression's.
use Rattle.std.proofs.Common.{◌≡◌, ℕ, Bool, List, [], ◌∷◌, refl, ap, ◌∙◌}
use Rattle.regex_ast.specs.declared.expr.Suffix.{Suffix}
use Rattle.regex_ast.specs.declared.expr.Suffix.TheVariants.{Star, Plus, Power, Upper, Lower, Inverse, Reverse}
use Rattle.regex_ast.specs.Terms.{Term, Terms, Links, Contexts, Steps, empty, any, edge, atom, letters, group, maybe, not_one, cross, suffixed, prefixed, ignore, concat, chain, only, rules, directed, steps, no_term, then_term, no_link, or, and, less, no_context, between, no_step, cross_with, then}
use Rattle.expr_kinds.specs.Kinds.{Leaves, both, kind_behind, with_suffixes, kind_of, kind_of_each, kind_of_chain, kind_of_steps, kind_of_contexts}
use Rattle.expr_kinds.specs.Forms.{as_language, heavier, beside, behind, with_each, with_kind, nothing, form_in, form_in_each, form_in_links, form_in_steps, form_in_contexts}
use Rattle.expr_kinds.specs.declared.form.Form.{Form}
use Rattle.expr_kinds.specs.declared.form.Kind.{Kind}
use Rattle.expr_kinds.specs.declared.form.Kind.TheVariants.{Language, Relation}

both_end : (k : Kind) → k ≡ both k Language
both_end Language = refl
both_end Relation = refl

both_assoc : (a b c : Kind) → both (both a b) c ≡ both a (both b c)
both_assoc Language b c = refl
both_assoc Relation b c = refl

behind_kind : (f : Form) (s : Suffix) → (behind f s).kind ≡ kind_behind f.kind s
behind_kind f Star = refl
behind_kind f Plus = refl
behind_kind f (Power n) = refl
behind_kind f Upper = refl
behind_kind f Lower = refl
behind_kind f Inverse = refl
behind_kind f Reverse = refl

with_each_kind : (f : Form) (ss : List Suffix) → (with_each f ss).kind ≡ with_suffixes f.kind ss
with_each_kind f [] = refl
with_each_kind f (s ∷ ss) = with_each_kind (behind f s) ss ∙ ap (λ k. with_suffixes k ss) (behind_kind f s)

mutual
  pub kind_is : {A : Type 0} (leaves : Leaves A) (leaf : A → ℕ) (built letter : A → Bool) (t : Term A) → (form_in leaves leaf built letter t).kind ≡ kind_of leaves t
  kind_is leaves leaf built letter empty = refl
  kind_is leaves leaf built letter any = refl
  kind_is leaves leaf built letter edge = refl
  kind_is leaves leaf built letter (atom a) = refl
  kind_is leaves leaf built letter (letters all) = refl
  kind_is leaves leaf built letter (group e) = kind_is leaves leaf built letter e
  kind_is leaves leaf built letter (maybe e) = kind_is leaves leaf built letter e
  kind_is leaves leaf built letter (not_one n e) = kind_is leaves leaf built letter e
  kind_is leaves leaf built letter (cross e f) = refl
  kind_is leaves leaf built letter (suffixed e suffixes) = with_each_kind (form_in leaves leaf built letter e) suffixes ∙ ap (λ k. with_suffixes k suffixes) (kind_is leaves leaf built letter e)
  kind_is leaves leaf built letter (prefixed prefixes e) = kind_is leaves leaf built letter e
  kind_is leaves leaf built letter (ignore es) = each_kind leaves leaf built letter nothing es
  kind_is leaves leaf built letter (concat es) = each_kind leaves leaf built letter nothing es
  kind_is leaves leaf built letter (chain e links) = links_kind leaves leaf built letter (form_in leaves leaf built letter e) links ∙ ap (λ k. kind_of_chain leaves k links) (kind_is leaves leaf built letter e)
  kind_is leaves leaf built letter (only e contexts) = contexts_kind leaves leaf built letter (form_in leaves leaf built letter e) contexts ∙ ap (λ k. both k (kind_of_contexts leaves contexts)) (kind_is leaves leaf built letter e)
  kind_is leaves leaf built letter (rules optional groups) = refl
  kind_is leaves leaf built letter (directed way maps contexts) = refl
  kind_is leaves leaf built letter (steps e more) = steps_kind leaves leaf built letter (form_in leaves leaf built letter e) more ∙ ap (λ k. kind_of_steps leaves k more) (kind_is leaves leaf built letter e)

  each_kind : {A : Type 0} (leaves : Leaves A) (leaf : A → ℕ) (built letter : A → Bool) (before : Form) (es : Terms A) → (form_in_each leaves leaf built letter before es).kind ≡ both before.kind (kind_of_each leaves es)
  each_kind leaves leaf built letter before no_term = both_end before.kind
  each_kind leaves leaf built letter before (then_term e es) =
      each_kind leaves leaf built letter (beside before (form_in leaves leaf built letter e)) es
      ∙ ap (λ k. both (both before.kind k) (kind_of_each leaves es)) (kind_is leaves leaf built letter e)
      ∙ both_assoc before.kind (kind_of leaves e) (kind_of_each leaves es)

  links_kind : {A : Type 0} (leaves : Leaves A) (leaf : A → ℕ) (built letter : A → Bool) (before : Form) (links : Links A) → (form_in_links leaves leaf built letter before links).kind ≡ kind_of_chain leaves before.kind links
  links_kind leaves leaf built letter before no_link = refl
  links_kind leaves leaf built letter before (or e links) = links_kind leaves leaf built letter (heavier (beside before (form_in leaves leaf built letter e)) 1) links ∙ ap (λ k. kind_of_chain leaves (both before.kind k) links) (kind_is leaves leaf built letter e)
  links_kind leaves leaf built letter before (and e links) = links_kind leaves leaf built letter (heavier (as_language (beside before (form_in leaves leaf built letter e))) 1) links ∙ ap (λ k. kind_of_chain leaves (both before.kind k) links) (kind_is leaves leaf built letter e)
  links_kind leaves leaf built letter before (less e links) = links_kind leaves leaf built letter (heavier (as_language (beside before (form_in leaves leaf built letter e))) 1) links ∙ ap (λ k. kind_of_chain leaves (both before.kind k) links) (kind_is leaves leaf built letter e)

  steps_kind : {A : Type 0} (leaves : Leaves A) (leaf : A → ℕ) (built letter : A → Bool) (before : Form) (more : Steps A) → (form_in_steps leaves leaf built letter before more).kind ≡ kind_of_steps leaves before.kind more
  steps_kind leaves leaf built letter before no_step = refl
  steps_kind leaves leaf built letter before (cross_with e more) = steps_kind leaves leaf built letter (with_kind (heavier (as_language (beside before (form_in leaves leaf built letter e))) 1) Relation) more
  steps_kind leaves leaf built letter before (then e more) = steps_kind leaves leaf built letter (heavier (beside before (form_in leaves leaf built letter e)) 1) more ∙ ap (λ k. kind_of_steps leaves (both before.kind k) more) (kind_is leaves leaf built letter e)

  contexts_kind : {A : Type 0} (leaves : Leaves A) (leaf : A → ℕ) (built letter : A → Bool) (before : Form) (contexts : Contexts A) → (form_in_contexts leaves leaf built letter before contexts).kind ≡ both before.kind (kind_of_contexts leaves contexts)
  contexts_kind leaves leaf built letter before no_context = both_end before.kind
  contexts_kind leaves leaf built letter before (between l r contexts) =
      contexts_kind leaves leaf built letter (beside before (beside (form_in leaves leaf built letter l) (form_in leaves leaf built letter r))) contexts
      ∙ ap (λ k. both (both before.kind (both k (form_in leaves leaf built letter r).kind)) (kind_of_contexts leaves contexts)) (kind_is leaves leaf built letter l)
      ∙ ap (λ k. both (both before.kind (both (kind_of leaves l) k)) (kind_of_contexts leaves contexts)) (kind_is leaves leaf built letter r)
      ∙ both_assoc before.kind (both (kind_of leaves l) (kind_of leaves r)) (kind_of_contexts leaves contexts)
