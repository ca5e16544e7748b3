-- Whether a network is built, as one pass tells it.
use Rattle.std.proofs.Common.{◌≡◌, ◌↔◌, ℕ, Bool, true, not, ◌&&◌, IsTrue, List, [], ◌∷◌, refl, sym, ◌∙◌}
use Rattle.regex_ast.specs.Terms.{Term, Terms, Links, Contexts, Steps, Mappings, Groups, empty, any, edge, atom, letters, group, maybe, not_one, cross, suffixed, prefixed, ignore, concat, chain, only, rules, directed, steps, no_term, then_term, no_link, or, and, less, no_context, between, no_step, cross_with, then, no_mapping, plain, markup, insert, no_group, then_group}
use Rattle.regex_ast.specs.declared.expr.Suffix.{Suffix}
use Rattle.regex_ast.specs.declared.expr.Suffix.TheVariants.{Star, Plus, Power, Upper, Lower, Inverse, Reverse}
use Rattle.expr_kinds.specs.Built.{holds_insertion, inserts_alone, IsBuiltBy, AreBuiltBy, LinksAreBuiltBy, ContextsAreBuiltBy, StepsAreBuiltBy, MappingsAreBuiltBy, GroupsAreBuiltBy}
use Rattle.expr_kinds.specs.Kinds.{Leaves}
use Rattle.expr_kinds.specs.Forms.{as_language, heavier, beside, behind, with_each, with_kind, nothing, form_in, form_in_each, form_in_links, form_in_steps, form_in_contexts, form_in_mappings, form_in_groups}
use Rattle.expr_kinds.specs.declared.form.Form.{Form}
use Rattle.expr_kinds.specs.declared.form.Kind.TheVariants.{Relation}
use Rattle.expr_kinds.proofs.FitLaws.{both_true}

behind_built : (f : Form) (s : Suffix) → (behind f s).built ≡ f.built
behind_built f Star = refl
behind_built f Plus = refl
behind_built f (Power n) = refl
behind_built f Upper = refl
behind_built f Lower = refl
behind_built f Inverse = refl
behind_built f Reverse = refl

with_each_built : (f : Form) (ss : List Suffix) → (with_each f ss).built ≡ f.built
with_each_built f [] = refl
with_each_built f (s ∷ ss) = with_each_built (behind f s) ss ∙ behind_built f s

along : (a b : Bool) (P : Type 0) → a ≡ b → IsTrue b ↔ P → IsTrue a ↔ P
along a b P is h = (λ t. h.0 (sym is ∙ t), λ p. is ∙ h.1 p)

-- what was built before, and one more
one_more : (before here : Bool) (P Q : Type 0) → IsTrue here ↔ P → (b : Bool) → IsTrue b ↔ (IsTrue (before && here) × Q) → IsTrue b ↔ (IsTrue before × (P × Q))
one_more before here P Q first b rest = (
  λ h. let a = rest.0 h in let both = (both_true before here).0 a.0 in (both.0, (first.0 both.1, a.1)),
  λ h. rest.1 ((both_true before here).1 (h.0, first.1 h.1.0), h.1.1),
)

from_first : (first : Bool) (P Q : Type 0) → IsTrue first ↔ P → (b : Bool) → IsTrue b ↔ (IsTrue first × Q) → IsTrue b ↔ (P × Q)
from_first first P Q is b all = (λ h. (is.0 (all.0 h).0, (all.0 h).1), λ h. all.1 (is.1 h.0, h.1))

from_none : (Q : Type 0) (b : Bool) → IsTrue b ↔ (IsTrue true × Q) → IsTrue b ↔ Q
from_none Q b all = (λ h. (all.0 h).1, λ h. all.1 (refl, h))

mutual
  pub built_is : {A : Type 0} (leaves : Leaves A) (leaf : A → ℕ) (built letter : A → Bool) (t : Term A) → IsTrue (form_in leaves leaf built letter t).built ↔ IsBuiltBy built letter t
  built_is leaves leaf built letter empty = (λ h. tt, λ h. refl)
  built_is leaves leaf built letter any = (λ h. tt, λ h. refl)
  built_is leaves leaf built letter edge = (λ h. tt, λ h. refl)
  built_is leaves leaf built letter (atom a) = (λ h. h, λ h. h)
  built_is leaves leaf built letter (letters all) = (λ h. h, λ h. h)
  built_is leaves leaf built letter (group e) = built_is leaves leaf built letter e
  built_is leaves leaf built letter (maybe e) = built_is leaves leaf built letter e
  built_is leaves leaf built letter (not_one n e) = built_is leaves leaf built letter e
  built_is leaves leaf built letter (cross e f) =
      let pair = both_true (form_in leaves leaf built letter e).built (form_in leaves leaf built letter f).built in
      let first = built_is leaves leaf built letter e in
      let second = built_is leaves leaf built letter f in
      (λ h. (first.0 (pair.0 h).0, second.0 (pair.0 h).1), λ h. pair.1 (first.1 h.0, second.1 h.1))
  built_is leaves leaf built letter (suffixed e suffixes) = along (with_each (form_in leaves leaf built letter e) suffixes).built (form_in leaves leaf built letter e).built (IsBuiltBy built letter e) (with_each_built (form_in leaves leaf built letter e) suffixes) (built_is leaves leaf built letter e)
  built_is leaves leaf built letter (prefixed prefixes e) = built_is leaves leaf built letter e
  built_is leaves leaf built letter (ignore es) = from_none (AreBuiltBy built letter es) (form_in_each leaves leaf built letter nothing es).built (each_built leaves leaf built letter nothing es)
  built_is leaves leaf built letter (concat es) = from_none (AreBuiltBy built letter es) (form_in_each leaves leaf built letter nothing es).built (each_built leaves leaf built letter nothing es)
  built_is leaves leaf built letter (chain e links) = from_first (form_in leaves leaf built letter e).built (IsBuiltBy built letter e) (LinksAreBuiltBy built letter links) (built_is leaves leaf built letter e) (form_in_links leaves leaf built letter (form_in leaves leaf built letter e) links).built (links_built leaves leaf built letter (form_in leaves leaf built letter e) links)
  built_is leaves leaf built letter (only e contexts) = from_first (form_in leaves leaf built letter e).built (IsBuiltBy built letter e) (ContextsAreBuiltBy built letter contexts) (built_is leaves leaf built letter e) (form_in_contexts leaves leaf built letter (form_in leaves leaf built letter e) contexts).built (contexts_built leaves leaf built letter (form_in leaves leaf built letter e) contexts)
  built_is leaves leaf built letter (rules optional groups) =
      let all = from_none (GroupsAreBuiltBy built letter groups) (form_in_groups leaves leaf built letter nothing groups).built (groups_built leaves leaf built letter nothing groups) in
      let pair = both_true (form_in_groups leaves leaf built letter nothing groups).built (inserts_alone groups) in
      (λ h. ((pair.0 h).1, all.0 (pair.0 h).0), λ h. pair.1 (all.1 h.1, h.0))
  built_is leaves leaf built letter (directed way maps contexts) =
      let before = form_in_mappings leaves leaf built letter nothing maps in
      let first = mappings_built leaves leaf built letter nothing maps in
      let second = contexts_built leaves leaf built letter before contexts in
      let pair = both_true (form_in_contexts leaves leaf built letter before contexts).built (not (holds_insertion maps)) in (
        λ h. let a = pair.0 h in let b = second.0 a.0 in (a.1, (first.0 b.0).1, b.1),
        λ h. pair.1 (second.1 (first.1 (refl, h.1), h.2), h.0),
      )
  built_is leaves leaf built letter (steps e more) = from_first (form_in leaves leaf built letter e).built (IsBuiltBy built letter e) (StepsAreBuiltBy built letter more) (built_is leaves leaf built letter e) (form_in_steps leaves leaf built letter (form_in leaves leaf built letter e) more).built (steps_built leaves leaf built letter (form_in leaves leaf built letter e) more)

  each_built : {A : Type 0} (leaves : Leaves A) (leaf : A → ℕ) (built letter : A → Bool) (before : Form) (es : Terms A) → IsTrue (form_in_each leaves leaf built letter before es).built ↔ (IsTrue before.built × AreBuiltBy built letter es)
  each_built leaves leaf built letter before no_term = (λ h. (h, tt), λ h. h.0)
  each_built leaves leaf built letter before (then_term e es) = one_more before.built (form_in leaves leaf built letter e).built (IsBuiltBy built letter e) (AreBuiltBy built letter es) (built_is leaves leaf built letter e) (form_in_each leaves leaf built letter (beside before (form_in leaves leaf built letter e)) es).built (each_built leaves leaf built letter (beside before (form_in leaves leaf built letter e)) es)

  links_built : {A : Type 0} (leaves : Leaves A) (leaf : A → ℕ) (built letter : A → Bool) (before : Form) (links : Links A) → IsTrue (form_in_links leaves leaf built letter before links).built ↔ (IsTrue before.built × LinksAreBuiltBy built letter links)
  links_built leaves leaf built letter before no_link = (λ h. (h, tt), λ h. h.0)
  links_built leaves leaf built letter before (or e links) = one_more before.built (form_in leaves leaf built letter e).built (IsBuiltBy built letter e) (LinksAreBuiltBy built letter links) (built_is leaves leaf built letter e) _ (links_built leaves leaf built letter (heavier (beside before (form_in leaves leaf built letter e)) 1) links)
  links_built leaves leaf built letter before (and e links) = one_more before.built (form_in leaves leaf built letter e).built (IsBuiltBy built letter e) (LinksAreBuiltBy built letter links) (built_is leaves leaf built letter e) _ (links_built leaves leaf built letter (heavier (as_language (beside before (form_in leaves leaf built letter e))) 1) links)
  links_built leaves leaf built letter before (less e links) = one_more before.built (form_in leaves leaf built letter e).built (IsBuiltBy built letter e) (LinksAreBuiltBy built letter links) (built_is leaves leaf built letter e) _ (links_built leaves leaf built letter (heavier (as_language (beside before (form_in leaves leaf built letter e))) 1) links)

  steps_built : {A : Type 0} (leaves : Leaves A) (leaf : A → ℕ) (built letter : A → Bool) (before : Form) (more : Steps A) → IsTrue (form_in_steps leaves leaf built letter before more).built ↔ (IsTrue before.built × StepsAreBuiltBy built letter more)
  steps_built leaves leaf built letter before no_step = (λ h. (h, tt), λ h. h.0)
  steps_built leaves leaf built letter before (cross_with e more) = one_more before.built (form_in leaves leaf built letter e).built (IsBuiltBy built letter e) (StepsAreBuiltBy built letter more) (built_is leaves leaf built letter e) _ (steps_built leaves leaf built letter (with_kind (heavier (as_language (beside before (form_in leaves leaf built letter e))) 1) Relation) more)
  steps_built leaves leaf built letter before (then e more) = one_more before.built (form_in leaves leaf built letter e).built (IsBuiltBy built letter e) (StepsAreBuiltBy built letter more) (built_is leaves leaf built letter e) _ (steps_built leaves leaf built letter (heavier (beside before (form_in leaves leaf built letter e)) 1) more)

  contexts_built : {A : Type 0} (leaves : Leaves A) (leaf : A → ℕ) (built letter : A → Bool) (before : Form) (contexts : Contexts A) → IsTrue (form_in_contexts leaves leaf built letter before contexts).built ↔ (IsTrue before.built × ContextsAreBuiltBy built letter contexts)
  contexts_built leaves leaf built letter before no_context = (λ h. (h, tt), λ h. h.0)
  contexts_built leaves leaf built letter before (between l r contexts) =
      let left = built_is leaves leaf built letter l in
      let right = built_is leaves leaf built letter r in
      let parts = both_true (form_in leaves leaf built letter l).built (form_in leaves leaf built letter r).built in
      let pair = both_true before.built ((form_in leaves leaf built letter l).built && (form_in leaves leaf built letter r).built) in
      let rest = contexts_built leaves leaf built letter (beside before (beside (form_in leaves leaf built letter l) (form_in leaves leaf built letter r))) contexts in (
        λ h. let a = rest.0 h in let b = pair.0 a.0 in let c = parts.0 b.1 in (b.0, (left.0 c.0, right.0 c.1, a.1)),
        λ h. rest.1 (pair.1 (h.0, parts.1 (left.1 h.1.0, right.1 h.1.1)), h.1.2),
      )

  mappings_built : {A : Type 0} (leaves : Leaves A) (leaf : A → ℕ) (built letter : A → Bool) (before : Form) (maps : Mappings A) → IsTrue (form_in_mappings leaves leaf built letter before maps).built ↔ (IsTrue before.built × MappingsAreBuiltBy built letter maps)
  mappings_built leaves leaf built letter before no_mapping = (λ h. (h, tt), λ h. h.0)
  mappings_built leaves leaf built letter before (plain c r maps) =
      let first = built_is leaves leaf built letter c in
      let second = built_is leaves leaf built letter r in
      let parts = both_true (form_in leaves leaf built letter c).built (form_in leaves leaf built letter r).built in
      let pair = both_true before.built ((form_in leaves leaf built letter c).built && (form_in leaves leaf built letter r).built) in
      let rest = mappings_built leaves leaf built letter (beside before (beside (form_in leaves leaf built letter c) (form_in leaves leaf built letter r))) maps in (
        λ h. let a = rest.0 h in let b = pair.0 a.0 in let d = parts.0 b.1 in (b.0, (tt, first.0 d.0, second.0 d.1, a.1)),
        λ h. rest.1 (pair.1 (h.0, parts.1 (first.1 h.1.1, second.1 h.1.2)), h.1.3),
      )
  mappings_built leaves leaf built letter before (markup c b a maps) =
      let first = built_is leaves leaf built letter c in
      let second = built_is leaves leaf built letter b in
      let third = built_is leaves leaf built letter a in
      let outer = both_true (form_in leaves leaf built letter b).built (form_in leaves leaf built letter a).built in
      let parts = both_true (form_in leaves leaf built letter c).built ((form_in leaves leaf built letter b).built && (form_in leaves leaf built letter a).built) in
      let pair = both_true before.built ((form_in leaves leaf built letter c).built && ((form_in leaves leaf built letter b).built && (form_in leaves leaf built letter a).built)) in
      let rest = mappings_built leaves leaf built letter (beside before (beside (form_in leaves leaf built letter c) (beside (form_in leaves leaf built letter b) (form_in leaves leaf built letter a)))) maps in (
        λ h. let x = rest.0 h in let y = pair.0 x.0 in let z = parts.0 y.1 in let v = outer.0 z.1 in (y.0, (tt, first.0 z.0, second.0 v.0, third.0 v.1, x.1)),
        λ h. rest.1 (pair.1 (h.0, parts.1 (first.1 h.1.1, outer.1 (second.1 h.1.2, third.1 h.1.3))), h.1.4),
      )
  mappings_built leaves leaf built letter before (insert r maps) =
      one_more before.built (form_in leaves leaf built letter r).built (IsBuiltBy built letter r) (MappingsAreBuiltBy built letter maps) (built_is leaves leaf built letter r) _ (mappings_built leaves leaf built letter (beside before (form_in leaves leaf built letter r)) maps)

  groups_built : {A : Type 0} (leaves : Leaves A) (leaf : A → ℕ) (built letter : A → Bool) (before : Form) (groups : Groups A) → IsTrue (form_in_groups leaves leaf built letter before groups).built ↔ (IsTrue before.built × GroupsAreBuiltBy built letter groups)
  groups_built leaves leaf built letter before no_group = (λ h. (h, tt), λ h. h.0)
  groups_built leaves leaf built letter before (then_group maps side contexts groups) =
      let first = form_in_mappings leaves leaf built letter before maps in
      let second = form_in_contexts leaves leaf built letter first contexts in
      let here = mappings_built leaves leaf built letter before maps in
      let there = contexts_built leaves leaf built letter first contexts in
      let rest = groups_built leaves leaf built letter second groups in (
        λ h. let x = rest.0 h in let y = there.0 x.0 in let z = here.0 y.0 in (z.0, (z.1, y.1, x.1)),
        λ h. rest.1 (there.1 (here.1 (h.0, h.1.0), h.1.1), h.1.2),
      )
