-- Whether each operand fits, as one pass tells it.
use Rattle.std.proofs.Common.{◌≡◌, ◌↔◌, ℕ, Bool, true, false, ◌&&◌, IsTrue, refl, sym, subst, ◌∙◌}
use Rattle.regex_ast.specs.Terms.{Term, Terms, Links, Contexts, Steps, Mappings, Groups, empty, any, edge, atom, letters, group, maybe, not_one, cross, suffixed, prefixed, ignore, concat, chain, only, rules, directed, steps, no_term, then_term, no_link, or, and, less, no_context, between, no_step, cross_with, then, no_mapping, plain, markup, insert, no_group, then_group}
use Rattle.regex_ast.specs.declared.expr.Suffix.{Suffix}
use Rattle.regex_ast.specs.declared.expr.Suffix.TheVariants.{Star, Plus, Power, Upper, Lower, Inverse, Reverse}
use Rattle.std.specs.Prelude.{List, [], ◌∷◌}
use Rattle.expr_kinds.specs.Kinds.{Leaves, both, kind_of, Fits, EachFits, EachFitsAsLanguage, ChainFits, StepsFit, ContextsFit, MappingsFit, GroupsFit}
use Rattle.expr_kinds.specs.Forms.{is_language, as_language, heavier, beside, behind, with_each, with_kind, nothing, form_in, form_in_each, form_in_links, form_in_steps, form_in_contexts, form_in_mappings, form_in_groups}
use Rattle.expr_kinds.specs.declared.form.Form.{Form}
use Rattle.expr_kinds.specs.declared.form.Kind.{Kind}
use Rattle.expr_kinds.specs.declared.form.Kind.TheVariants.{Language, Relation}
use Rattle.expr_kinds.proofs.KindLaws.{kind_is}

-- it fits, and it is a language
abbrev Holds : Form → Type 0
Holds f = IsTrue (as_language f).fits

pub both_true : (a b : Bool) → IsTrue (a && b) ↔ (IsTrue a × IsTrue b)
both_true true true = (λ h. (refl, refl), λ h. refl)
both_true true false = (λ h. (refl, h), λ h. h.1)
both_true false b = (λ h. absurd_false h, λ h. h.0)
  where
    absurd_false : {P : Type 0} → IsTrue false → P
    absurd_false h = cc

holds_is : (fits : Bool) (k : Kind) → IsTrue (fits && is_language k) ↔ (IsTrue fits × (k ≡ Language))
holds_is true Language = (λ h. (refl, refl), λ h. refl)
holds_is true Relation = (λ h. cc, λ h. cc)
holds_is false k = (λ h. cc, λ h. h.0)

both_languages : (a b : Kind) → (both a b ≡ Language) ↔ ((a ≡ Language) × (b ≡ Language))
both_languages Language b = (λ h. (refl, h), λ h. h.1)
both_languages Relation b = (λ h. cc, λ h. h.0)

-- both fit and are languages
beside_holds : (f g : Form) → Holds (beside f g) ↔ (Holds f × Holds g)
beside_holds f g = (
  λ h.
      let whole = (holds_is (f.fits && g.fits) (both f.kind g.kind)).0 h in
      let fit = (both_true f.fits g.fits).0 whole.0 in
      let kinds = (both_languages f.kind g.kind).0 whole.1 in
      ((holds_is f.fits f.kind).1 (fit.0, kinds.0), (holds_is g.fits g.kind).1 (fit.1, kinds.1)),
  λ h.
      let first = (holds_is f.fits f.kind).0 h.0 in
      let second = (holds_is g.fits g.kind).0 h.1 in
      (holds_is (f.fits && g.fits) (both f.kind g.kind)).1 ((both_true f.fits g.fits).1 (first.0, second.0), (both_languages f.kind g.kind).1 (first.1, second.1)),
)

-- an operand that must be a language
holds_as : (f : Form) (k : Kind) (P : Type 0) → f.kind ≡ k → (IsTrue f.fits ↔ P) → Holds f ↔ ((k ≡ Language) × P)
holds_as f k P is fits = (
  λ h. let both = (holds_is f.fits f.kind).0 h in (sym is ∙ both.1, fits.0 both.0),
  λ h. (holds_is f.fits f.kind).1 (fits.1 h.1, is ∙ h.0),
)

behind_fits : (f : Form) (s : Suffix) → (behind f s).fits ≡ f.fits
behind_fits f Star = refl
behind_fits f Plus = refl
behind_fits f (Power n) = refl
behind_fits f Upper = refl
behind_fits f Lower = refl
behind_fits f Inverse = refl
behind_fits f Reverse = refl

with_each_fits : (f : Form) (ss : List Suffix) → (with_each f ss).fits ≡ f.fits
with_each_fits f [] = refl
with_each_fits f (s ∷ ss) = with_each_fits (behind f s) ss ∙ behind_fits f s

along : (a b : Bool) (P : Type 0) → a ≡ b → IsTrue b ↔ P → IsTrue a ↔ P
along a b P is h = (λ t. h.0 (sym is ∙ t), λ p. is ∙ h.1 p)

always : {P : Type 0} → P → IsTrue true ↔ P
always p = (λ h. p, λ h. refl)

mutual
  pub fits_is : {A : Type 0} (leaves : Leaves A) (leaf : A → ℕ) (built letter : A → Bool) (t : Term A) → IsTrue (form_in leaves leaf built letter t).fits ↔ Fits leaves t
  fits_is leaves leaf built letter empty = always tt
  fits_is leaves leaf built letter any = always tt
  fits_is leaves leaf built letter edge = always tt
  fits_is leaves leaf built letter (atom a) = always tt
  fits_is leaves leaf built letter (letters all) = always tt
  fits_is leaves leaf built letter (group e) = fits_is leaves leaf built letter e
  fits_is leaves leaf built letter (maybe e) = fits_is leaves leaf built letter e
  fits_is leaves leaf built letter (not_one n e) = holds_as (form_in leaves leaf built letter e) (kind_of leaves e) (Fits leaves e) (kind_is leaves leaf built letter e) (fits_is leaves leaf built letter e)
  fits_is leaves leaf built letter (cross e f) =
      let first = holds_as (form_in leaves leaf built letter e) (kind_of leaves e) (Fits leaves e) (kind_is leaves leaf built letter e) (fits_is leaves leaf built letter e) in
      let second = holds_as (form_in leaves leaf built letter f) (kind_of leaves f) (Fits leaves f) (kind_is leaves leaf built letter f) (fits_is leaves leaf built letter f) in
      let pair = beside_holds (form_in leaves leaf built letter e) (form_in leaves leaf built letter f) in (
        λ h. let a = first.0 (pair.0 h).0 in let b = second.0 (pair.0 h).1 in (a.0, a.1, b.0, b.1),
        λ h. pair.1 (first.1 (h.0, h.1), second.1 (h.2, h.3)),
      )
  fits_is leaves leaf built letter (suffixed e suffixes) = along (with_each (form_in leaves leaf built letter e) suffixes).fits (form_in leaves leaf built letter e).fits (Fits leaves e) (with_each_fits (form_in leaves leaf built letter e) suffixes) (fits_is leaves leaf built letter e)
  fits_is leaves leaf built letter (prefixed prefixes e) = holds_as (form_in leaves leaf built letter e) (kind_of leaves e) (Fits leaves e) (kind_is leaves leaf built letter e) (fits_is leaves leaf built letter e)
  fits_is leaves leaf built letter (ignore es) = let all = each_holds leaves leaf built letter nothing es in (λ h. (all.0 h).1, λ h. all.1 (refl, h))
  fits_is leaves leaf built letter (concat es) = let all = each_fits leaves leaf built letter nothing es in (λ h. (all.0 h).1, λ h. all.1 (refl, h))
  fits_is leaves leaf built letter (chain e links) =
      let first = fits_is leaves leaf built letter e in
      let all = links_fit leaves leaf built letter (form_in leaves leaf built letter e) links in (
        λ h. (first.0 (all.0 h).0, subst (λ k. ChainFits leaves k links) (kind_is leaves leaf built letter e) (all.0 h).1),
        λ h. all.1 (first.1 h.0, subst (λ k. ChainFits leaves k links) (sym (kind_is leaves leaf built letter e)) h.1),
      )
  fits_is leaves leaf built letter (only e contexts) =
      let first = holds_as (form_in leaves leaf built letter e) (kind_of leaves e) (Fits leaves e) (kind_is leaves leaf built letter e) (fits_is leaves leaf built letter e) in
      let all = contexts_hold leaves leaf built letter (form_in leaves leaf built letter e) contexts in (
        λ h. let a = first.0 (all.0 h).0 in (a.0, a.1, (all.0 h).1),
        λ h. all.1 (first.1 (h.0, h.1), h.2),
      )
  fits_is leaves leaf built letter (rules optional groups) = let all = groups_hold leaves leaf built letter nothing groups in (λ h. (all.0 h).1, λ h. all.1 (refl, h))
  fits_is leaves leaf built letter (directed way maps contexts) =
      let first = mappings_hold leaves leaf built letter nothing maps in
      let all = contexts_hold leaves leaf built letter (form_in_mappings leaves leaf built letter nothing maps) contexts in (
        λ h. let a = all.0 h in ((first.0 a.0).1, a.1),
        λ h. all.1 (first.1 (refl, h.0), h.1),
      )
  fits_is leaves leaf built letter (steps e more) =
      let first = fits_is leaves leaf built letter e in
      let all = steps_fit leaves leaf built letter (form_in leaves leaf built letter e) more in (
        λ h. (first.0 (all.0 h).0, subst (λ k. StepsFit leaves k more) (kind_is leaves leaf built letter e) (all.0 h).1),
        λ h. all.1 (first.1 h.0, subst (λ k. StepsFit leaves k more) (sym (kind_is leaves leaf built letter e)) h.1),
      )

  each_fits : {A : Type 0} (leaves : Leaves A) (leaf : A → ℕ) (built letter : A → Bool) (before : Form) (es : Terms A) → IsTrue (form_in_each leaves leaf built letter before es).fits ↔ (IsTrue before.fits × EachFits leaves es)
  each_fits leaves leaf built letter before no_term = (λ h. (h, tt), λ h. h.0)
  each_fits leaves leaf built letter before (then_term e es) =
      let first = fits_is leaves leaf built letter e in
      let pair = both_true before.fits (form_in leaves leaf built letter e).fits in
      let rest = each_fits leaves leaf built letter (beside before (form_in leaves leaf built letter e)) es in (
        λ h. let a = rest.0 h in let b = pair.0 a.0 in (b.0, (first.0 b.1, a.1)),
        λ h. rest.1 (pair.1 (h.0, first.1 h.1.0), h.1.1),
      )

  each_holds : {A : Type 0} (leaves : Leaves A) (leaf : A → ℕ) (built letter : A → Bool) (before : Form) (es : Terms A) → Holds (form_in_each leaves leaf built letter before es) ↔ (Holds before × EachFitsAsLanguage leaves es)
  each_holds leaves leaf built letter before no_term = (λ h. (h, tt), λ h. h.0)
  each_holds leaves leaf built letter before (then_term e es) =
      let first = holds_as (form_in leaves leaf built letter e) (kind_of leaves e) (Fits leaves e) (kind_is leaves leaf built letter e) (fits_is leaves leaf built letter e) in
      let pair = beside_holds before (form_in leaves leaf built letter e) in
      let rest = each_holds leaves leaf built letter (beside before (form_in leaves leaf built letter e)) es in (
        λ h. let a = rest.0 h in let b = pair.0 a.0 in let c = first.0 b.1 in (b.0, (c.0, c.1, a.1)),
        λ h. rest.1 (pair.1 (h.0, first.1 (h.1.0, h.1.1)), h.1.2),
      )

  links_fit : {A : Type 0} (leaves : Leaves A) (leaf : A → ℕ) (built letter : A → Bool) (before : Form) (links : Links A) → IsTrue (form_in_links leaves leaf built letter before links).fits ↔ (IsTrue before.fits × ChainFits leaves before.kind links)
  links_fit leaves leaf built letter before no_link = (λ h. (h, tt), λ h. h.0)
  links_fit leaves leaf built letter before (or e links) =
      let first = fits_is leaves leaf built letter e in
      let pair = both_true before.fits (form_in leaves leaf built letter e).fits in
      let rest = links_fit leaves leaf built letter (heavier (beside before (form_in leaves leaf built letter e)) 1) links in (
        λ h. let a = rest.0 h in let b = pair.0 a.0 in (b.0, (first.0 b.1, subst (λ k. ChainFits leaves (both before.kind k) links) (kind_is leaves leaf built letter e) a.1)),
        λ h. rest.1 (pair.1 (h.0, first.1 h.1.0), subst (λ k. ChainFits leaves (both before.kind k) links) (sym (kind_is leaves leaf built letter e)) h.1.1),
      )
  links_fit leaves leaf built letter before (and e links) =
      let first = holds_as (form_in leaves leaf built letter e) (kind_of leaves e) (Fits leaves e) (kind_is leaves leaf built letter e) (fits_is leaves leaf built letter e) in
      let pair = beside_holds before (form_in leaves leaf built letter e) in
      let rest = links_fit leaves leaf built letter (heavier (as_language (beside before (form_in leaves leaf built letter e))) 1) links in (
        λ h. let a = rest.0 h in let b = pair.0 a.0 in let c = first.0 b.1 in let d = (holds_is before.fits before.kind).0 b.0 in
            (d.0, (d.1, c.0, c.1, subst (λ k. ChainFits leaves (both before.kind k) links) (kind_is leaves leaf built letter e) a.1)),
        λ h. rest.1 (pair.1 ((holds_is before.fits before.kind).1 (h.0, h.1.0), first.1 (h.1.1, h.1.2)), subst (λ k. ChainFits leaves (both before.kind k) links) (sym (kind_is leaves leaf built letter e)) h.1.3),
      )
  links_fit leaves leaf built letter before (less e links) =
      let first = holds_as (form_in leaves leaf built letter e) (kind_of leaves e) (Fits leaves e) (kind_is leaves leaf built letter e) (fits_is leaves leaf built letter e) in
      let pair = beside_holds before (form_in leaves leaf built letter e) in
      let rest = links_fit leaves leaf built letter (heavier (as_language (beside before (form_in leaves leaf built letter e))) 1) links in (
        λ h. let a = rest.0 h in let b = pair.0 a.0 in let c = first.0 b.1 in let d = (holds_is before.fits before.kind).0 b.0 in
            (d.0, (d.1, c.0, c.1, subst (λ k. ChainFits leaves (both before.kind k) links) (kind_is leaves leaf built letter e) a.1)),
        λ h. rest.1 (pair.1 ((holds_is before.fits before.kind).1 (h.0, h.1.0), first.1 (h.1.1, h.1.2)), subst (λ k. ChainFits leaves (both before.kind k) links) (sym (kind_is leaves leaf built letter e)) h.1.3),
      )

  steps_fit : {A : Type 0} (leaves : Leaves A) (leaf : A → ℕ) (built letter : A → Bool) (before : Form) (more : Steps A) → IsTrue (form_in_steps leaves leaf built letter before more).fits ↔ (IsTrue before.fits × StepsFit leaves before.kind more)
  steps_fit leaves leaf built letter before no_step = (λ h. (h, tt), λ h. h.0)
  steps_fit leaves leaf built letter before (cross_with e more) =
      let first = holds_as (form_in leaves leaf built letter e) (kind_of leaves e) (Fits leaves e) (kind_is leaves leaf built letter e) (fits_is leaves leaf built letter e) in
      let pair = beside_holds before (form_in leaves leaf built letter e) in
      let rest = steps_fit leaves leaf built letter (with_kind (heavier (as_language (beside before (form_in leaves leaf built letter e))) 1) Relation) more in (
        λ h. let a = rest.0 h in let b = pair.0 a.0 in let c = first.0 b.1 in let d = (holds_is before.fits before.kind).0 b.0 in (d.0, (d.1, c.0, c.1, a.1)),
        λ h. rest.1 (pair.1 ((holds_is before.fits before.kind).1 (h.0, h.1.0), first.1 (h.1.1, h.1.2)), h.1.3),
      )
  steps_fit leaves leaf built letter before (then e more) =
      let first = fits_is leaves leaf built letter e in
      let pair = both_true before.fits (form_in leaves leaf built letter e).fits in
      let rest = steps_fit leaves leaf built letter (heavier (beside before (form_in leaves leaf built letter e)) 1) more in (
        λ h. let a = rest.0 h in let b = pair.0 a.0 in (b.0, (first.0 b.1, subst (λ k. StepsFit leaves (both before.kind k) more) (kind_is leaves leaf built letter e) a.1)),
        λ h. rest.1 (pair.1 (h.0, first.1 h.1.0), subst (λ k. StepsFit leaves (both before.kind k) more) (sym (kind_is leaves leaf built letter e)) h.1.1),
      )

  contexts_hold : {A : Type 0} (leaves : Leaves A) (leaf : A → ℕ) (built letter : A → Bool) (before : Form) (contexts : Contexts A) → Holds (form_in_contexts leaves leaf built letter before contexts) ↔ (Holds before × ContextsFit leaves contexts)
  contexts_hold leaves leaf built letter before no_context = (λ h. (h, tt), λ h. h.0)
  contexts_hold leaves leaf built letter before (between l r contexts) =
      let left = holds_as (form_in leaves leaf built letter l) (kind_of leaves l) (Fits leaves l) (kind_is leaves leaf built letter l) (fits_is leaves leaf built letter l) in
      let right = holds_as (form_in leaves leaf built letter r) (kind_of leaves r) (Fits leaves r) (kind_is leaves leaf built letter r) (fits_is leaves leaf built letter r) in
      let parts = beside_holds (form_in leaves leaf built letter l) (form_in leaves leaf built letter r) in
      let pair = beside_holds before (beside (form_in leaves leaf built letter l) (form_in leaves leaf built letter r)) in
      let rest = contexts_hold leaves leaf built letter (beside before (beside (form_in leaves leaf built letter l) (form_in leaves leaf built letter r))) contexts in (
        λ h. let a = rest.0 h in let b = pair.0 a.0 in let c = parts.0 b.1 in let d = left.0 c.0 in let e = right.0 c.1 in (b.0, (d.0, d.1, e.0, e.1, a.1)),
        λ h. rest.1 (pair.1 (h.0, parts.1 (left.1 (h.1.0, h.1.1), right.1 (h.1.2, h.1.3))), h.1.4),
      )

  mappings_hold : {A : Type 0} (leaves : Leaves A) (leaf : A → ℕ) (built letter : A → Bool) (before : Form) (maps : Mappings A) → Holds (form_in_mappings leaves leaf built letter before maps) ↔ (Holds before × MappingsFit leaves maps)
  mappings_hold leaves leaf built letter before no_mapping = (λ h. (h, tt), λ h. h.0)
  mappings_hold leaves leaf built letter before (plain l r maps) =
      let left = holds_as (form_in leaves leaf built letter l) (kind_of leaves l) (Fits leaves l) (kind_is leaves leaf built letter l) (fits_is leaves leaf built letter l) in
      let right = holds_as (form_in leaves leaf built letter r) (kind_of leaves r) (Fits leaves r) (kind_is leaves leaf built letter r) (fits_is leaves leaf built letter r) in
      let parts = beside_holds (form_in leaves leaf built letter l) (form_in leaves leaf built letter r) in
      let pair = beside_holds before (beside (form_in leaves leaf built letter l) (form_in leaves leaf built letter r)) in
      let rest = mappings_hold leaves leaf built letter (beside before (beside (form_in leaves leaf built letter l) (form_in leaves leaf built letter r))) maps in (
        λ h. let a = rest.0 h in let b = pair.0 a.0 in let c = parts.0 b.1 in let d = left.0 c.0 in let e = right.0 c.1 in (b.0, (d.0, d.1, e.0, e.1, a.1)),
        λ h. rest.1 (pair.1 (h.0, parts.1 (left.1 (h.1.0, h.1.1), right.1 (h.1.2, h.1.3))), h.1.4),
      )
  mappings_hold leaves leaf built letter before (markup l m r maps) =
      let left = holds_as (form_in leaves leaf built letter l) (kind_of leaves l) (Fits leaves l) (kind_is leaves leaf built letter l) (fits_is leaves leaf built letter l) in
      let middle = holds_as (form_in leaves leaf built letter m) (kind_of leaves m) (Fits leaves m) (kind_is leaves leaf built letter m) (fits_is leaves leaf built letter m) in
      let right = holds_as (form_in leaves leaf built letter r) (kind_of leaves r) (Fits leaves r) (kind_is leaves leaf built letter r) (fits_is leaves leaf built letter r) in
      let later = beside_holds (form_in leaves leaf built letter m) (form_in leaves leaf built letter r) in
      let parts = beside_holds (form_in leaves leaf built letter l) (beside (form_in leaves leaf built letter m) (form_in leaves leaf built letter r)) in
      let pair = beside_holds before (beside (form_in leaves leaf built letter l) (beside (form_in leaves leaf built letter m) (form_in leaves leaf built letter r))) in
      let rest = mappings_hold leaves leaf built letter (beside before (beside (form_in leaves leaf built letter l) (beside (form_in leaves leaf built letter m) (form_in leaves leaf built letter r)))) maps in (
        λ h. let a = rest.0 h in let b = pair.0 a.0 in let c = parts.0 b.1 in let d = left.0 c.0 in let n = later.0 c.1 in let o = middle.0 n.0 in let e = right.0 n.1 in (b.0, (d.0, d.1, o.0, o.1, e.0, e.1, a.1)),
        λ h. rest.1 (pair.1 (h.0, parts.1 (left.1 (h.1.0, h.1.1), later.1 (middle.1 (h.1.2, h.1.3), right.1 (h.1.4, h.1.5)))), h.1.6),
      )
  mappings_hold leaves leaf built letter before (insert r maps) =
      let right = holds_as (form_in leaves leaf built letter r) (kind_of leaves r) (Fits leaves r) (kind_is leaves leaf built letter r) (fits_is leaves leaf built letter r) in
      let pair = beside_holds before (form_in leaves leaf built letter r) in
      let rest = mappings_hold leaves leaf built letter (beside before (form_in leaves leaf built letter r)) maps in (
        λ h. let a = rest.0 h in let b = pair.0 a.0 in let e = right.0 b.1 in (b.0, (e.0, e.1, a.1)),
        λ h. rest.1 (pair.1 (h.0, right.1 (h.1.0, h.1.1)), h.1.2),
      )

  groups_hold : {A : Type 0} (leaves : Leaves A) (leaf : A → ℕ) (built letter : A → Bool) (before : Form) (groups : Groups A) → Holds (form_in_groups leaves leaf built letter before groups) ↔ (Holds before × GroupsFit leaves groups)
  groups_hold leaves leaf built letter before no_group = (λ h. (h, tt), λ h. h.0)
  groups_hold leaves leaf built letter before (then_group maps side contexts groups) =
      let first = mappings_hold leaves leaf built letter before maps in
      let second = contexts_hold leaves leaf built letter (form_in_mappings leaves leaf built letter before maps) contexts in
      let rest = groups_hold leaves leaf built letter (form_in_contexts leaves leaf built letter (form_in_mappings leaves leaf built letter before maps) contexts) groups in (
        λ h. let a = rest.0 h in let b = second.0 a.0 in let c = first.0 b.0 in (c.0, (c.1, b.1, a.1)),
        λ h. rest.1 (second.1 (first.1 (h.0, h.1.0), h.1.1), h.1.2),
      )
