-- What one pass over an expression tells: its kind, whether each operand that must be a language is one, its weight,
-- where weights above the most that a definition may have aren't told apart, and whether its network is built.
use Rattle.std.specs.Prelude.{ℕ, ◌+◌, ◌-◌, ◌*◌, min, Bool, true, false, ◌&&◌, cond, not, List, [], ◌∷◌, length}
use Rattle.std.specs.List.{list_all}
use Rattle.regex_ast.specs.declared.expr.Suffix.{Suffix}
use Rattle.regex_ast.specs.declared.expr.Suffix.TheVariants.{Upper, Lower, Power}
use Rattle.regex_ast.specs.Terms.{Term, Terms, Links, Contexts, Steps, Mappings, Groups, empty, any, edge, atom, letters, group, maybe, not_one, cross, suffixed, prefixed, ignore, concat, chain, only, rules, directed, steps, no_term, then_term, no_link, or, and, less, no_context, between, no_step, cross_with, then, no_mapping, plain, markup, insert, no_group, then_group}
use Rattle.expr_kinds.specs.Built.{holds_insertion, inserts_alone}
use Rattle.expr_kinds.specs.Kinds.{Leaves, both, half, are_alike}
use Rattle.expr_kinds.specs.Weights.{most_weight, count_of}
use Rattle.expr_kinds.specs.declared.form.Form.{Form}
use Rattle.expr_kinds.specs.declared.form.Kind.{Kind}
use Rattle.expr_kinds.specs.declared.form.Kind.TheVariants.{Language, Relation}

unfoldable pub capped : ℕ → ℕ
capped weight = min weight (most_weight + 1)

abbrev pub is_language : Kind → Bool
is_language Language = true
is_language Relation = false

-- what has no operands, of this kind and weight
abbrev pub of_leaf : Kind → ℕ → Form
of_leaf kind weight = record { kind = kind; fits = true; weight = capped weight; built = true }

abbrev pub heavier : Form → ℕ → Form
heavier form more = record { kind = form.kind; fits = form.fits; weight = capped (form.weight + more); built = form.built }

-- no operand at all
abbrev pub nothing : Form
nothing = of_leaf Language 0

-- what must be a language
abbrev pub as_language : Form → Form
as_language form = record { kind = form.kind; fits = form.fits && is_language form.kind; weight = form.weight; built = form.built }

abbrev pub with_kind : Form → Kind → Form
with_kind form kind = record { kind = kind; fits = form.fits; weight = form.weight; built = form.built }

-- what is built only where this is
abbrev pub built_if : Form → Bool → Form
built_if form built = record { kind = form.kind; fits = form.fits; weight = form.weight; built = form.built && built }

-- two operands of one operator
abbrev pub beside : Form → Form → Form
beside first second = record { kind = both first.kind second.kind; fits = first.fits && second.fits; weight = capped (first.weight + second.weight); built = first.built && second.built }

abbrev pub behind : Form → Suffix → Form
behind form Upper = heavier (with_kind form Language) 1
behind form Lower = heavier (with_kind form Language) 1
behind form (Power n) = record { kind = form.kind; fits = form.fits; weight = capped (n * form.weight + 1); built = form.built }
behind form _ = heavier form 1

abbrev pub with_each : Form → List Suffix → Form
with_each form [] = form
with_each form (suffix ∷ suffixes) = with_each (behind form suffix) suffixes

abbrev mutual
  pub form_in : {A : Type 0} → Leaves A → (A → ℕ) → (A → Bool) → (A → Bool) → Term A → Form
  form_in leaves leaf built letter empty = of_leaf Language 1
  form_in leaves leaf built letter any = of_leaf Language 1
  form_in leaves leaf built letter edge = of_leaf Language 1
  form_in leaves leaf built letter (atom a) = built_if (of_leaf (leaves.kind a) (leaf a)) (built a)
  form_in leaves leaf built letter (letters all) = built_if (of_leaf Language (length all)) (list_all letter all)
  form_in leaves leaf built letter (group e) = form_in leaves leaf built letter e
  form_in leaves leaf built letter (maybe e) = heavier (form_in leaves leaf built letter e) 1
  form_in leaves leaf built letter (not_one n e) = heavier (as_language (form_in leaves leaf built letter e)) n
  form_in leaves leaf built letter (cross e f) = with_kind (heavier (as_language (beside (form_in leaves leaf built letter e) (form_in leaves leaf built letter f))) 1) (cond (are_alike leaves.same (half e) (half f)) Language Relation)
  form_in leaves leaf built letter (suffixed e suffixes) = with_each (form_in leaves leaf built letter e) suffixes
  form_in leaves leaf built letter (prefixed prefixes e) = heavier (as_language (form_in leaves leaf built letter e)) (length prefixes)
  form_in leaves leaf built letter (ignore es) = heavier (as_language (form_in_each leaves leaf built letter nothing es)) (count_of es - 1)
  form_in leaves leaf built letter (concat es) = heavier (form_in_each leaves leaf built letter nothing es) (count_of es - 1)
  form_in leaves leaf built letter (chain e links) = form_in_links leaves leaf built letter (form_in leaves leaf built letter e) links
  form_in leaves leaf built letter (only e contexts) = heavier (as_language (form_in_contexts leaves leaf built letter (form_in leaves leaf built letter e) contexts)) 1
  form_in leaves leaf built letter (rules optional groups) = built_if (with_kind (heavier (as_language (form_in_groups leaves leaf built letter nothing groups)) 1) Relation) (inserts_alone groups)
  form_in leaves leaf built letter (directed way maps contexts) =
      built_if (with_kind (heavier (as_language (form_in_contexts leaves leaf built letter (form_in_mappings leaves leaf built letter nothing maps) contexts)) 1) Relation) (not (holds_insertion maps))
  form_in leaves leaf built letter (steps e more) = form_in_steps leaves leaf built letter (form_in leaves leaf built letter e) more

  -- what was told before with what the items tell
  pub form_in_each : {A : Type 0} → Leaves A → (A → ℕ) → (A → Bool) → (A → Bool) → Form → Terms A → Form
  form_in_each leaves leaf built letter before no_term = before
  form_in_each leaves leaf built letter before (then_term e es) = form_in_each leaves leaf built letter (beside before (form_in leaves leaf built letter e)) es

  pub form_in_links : {A : Type 0} → Leaves A → (A → ℕ) → (A → Bool) → (A → Bool) → Form → Links A → Form
  form_in_links leaves leaf built letter before no_link = before
  form_in_links leaves leaf built letter before (or e links) = form_in_links leaves leaf built letter (heavier (beside before (form_in leaves leaf built letter e)) 1) links
  form_in_links leaves leaf built letter before (and e links) = form_in_links leaves leaf built letter (heavier (as_language (beside before (form_in leaves leaf built letter e))) 1) links
  form_in_links leaves leaf built letter before (less e links) = form_in_links leaves leaf built letter (heavier (as_language (beside before (form_in leaves leaf built letter e))) 1) links

  pub form_in_steps : {A : Type 0} → Leaves A → (A → ℕ) → (A → Bool) → (A → Bool) → Form → Steps A → Form
  form_in_steps leaves leaf built letter before no_step = before
  form_in_steps leaves leaf built letter before (cross_with e more) = form_in_steps leaves leaf built letter (with_kind (heavier (as_language (beside before (form_in leaves leaf built letter e))) 1) Relation) more
  form_in_steps leaves leaf built letter before (then e more) = form_in_steps leaves leaf built letter (heavier (beside before (form_in leaves leaf built letter e)) 1) more

  pub form_in_contexts : {A : Type 0} → Leaves A → (A → ℕ) → (A → Bool) → (A → Bool) → Form → Contexts A → Form
  form_in_contexts leaves leaf built letter before no_context = before
  form_in_contexts leaves leaf built letter before (between l r contexts) = form_in_contexts leaves leaf built letter (beside before (beside (form_in leaves leaf built letter l) (form_in leaves leaf built letter r))) contexts

  pub form_in_mappings : {A : Type 0} → Leaves A → (A → ℕ) → (A → Bool) → (A → Bool) → Form → Mappings A → Form
  form_in_mappings leaves leaf built letter before no_mapping = before
  form_in_mappings leaves leaf built letter before (plain c r maps) = form_in_mappings leaves leaf built letter (beside before (beside (form_in leaves leaf built letter c) (form_in leaves leaf built letter r))) maps
  form_in_mappings leaves leaf built letter before (markup c b a maps) = form_in_mappings leaves leaf built letter (beside before (beside (form_in leaves leaf built letter c) (beside (form_in leaves leaf built letter b) (form_in leaves leaf built letter a)))) maps
  form_in_mappings leaves leaf built letter before (insert r maps) = form_in_mappings leaves leaf built letter (beside before (form_in leaves leaf built letter r)) maps

  pub form_in_groups : {A : Type 0} → Leaves A → (A → ℕ) → (A → Bool) → (A → Bool) → Form → Groups A → Form
  form_in_groups leaves leaf built letter before no_group = before
  form_in_groups leaves leaf built letter before (then_group maps side contexts groups) = form_in_groups leaves leaf built letter (form_in_contexts leaves leaf built letter (form_in_mappings leaves leaf built letter before maps) contexts) groups
