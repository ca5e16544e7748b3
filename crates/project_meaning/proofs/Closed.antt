-- Each name that stands in a project's definitions is defined, by how leaves are resolved.
use Rattle.std.proofs.Common.{◌≡◌, ◌⊎◌, ℕ, Bool, true, false, cond, List, [], ◌∷◌, ◌++◌, map, refl, sym, ap, subst, ◌∙◌, inl, inr}
use Rattle.std.specs.List.{Contains, flat_map, list_any}
use Rattle.std.specs.Str.{bytes_eq}
use Rattle.std.proofs.lemmas.Map.Views.{Contains-from_any}
use Rattle.std.proofs.lemmas.Slice.Eq.{bytes_eq-Decides}
use Rattle.word_relations.proofs.Members.{Contains-nil_cases, Contains-head, Contains-tail, Contains-cons_cases, Contains-map, Contains-map_cases}
use Rattle.regex_ast.specs.declared.expr.Raw.{Raw}
use Rattle.regex_ast.specs.declared.expr.Raw.TheVariants.{Run, Quoted}
use Rattle.regex_ast.specs.Terms.{Term, Terms, Links, Contexts, Steps, Mappings, Groups, empty, any, edge, atom, letters, group, maybe, not_one, cross, suffixed, prefixed, ignore, concat, chain, only, rules, directed, steps, no_term, then_term, no_link, or, and, less, no_context, between, no_step, cross_with, then, no_mapping, plain, markup, insert, no_group, then_group}
use Rattle.expr_leaves.specs.Leaves.{listed, listed_each, listed_links, listed_contexts, listed_steps, listed_mappings, listed_groups}
use Rattle.expr_leaves.specs.Mapped.{mapped, mapped_each, mapped_links, mapped_contexts, mapped_steps, mapped_mappings, mapped_groups}
use Rattle.project_meaning.specs.Trees.{Form, sides, pairs, Entry, Lexicon, Body, xfst, lexc, twolc}
use Rattle.project_meaning.specs.Leaves.{Leaf, symbol, named, leaf_of, name_in, names_in, resolved, resolved_form, resolved_entry, resolved_lexicon, expressions_in, expressions_of, forms_in}
use Rattle.project_meaning.specs.Projects.{Written, Definition, IsClosed, names_of, definition_in, project_of}

append_cases : {X : Type 0} (xs ys : List X) (x : X) → Contains (xs ++ ys) x → Contains xs x ⊎ Contains ys x
append_cases [] ys x h = inr h
append_cases (z ∷ xs) ys x h =
    elim (Contains-cons_cases z (xs ++ ys) x h) as (λ _. Contains (z ∷ xs) x ⊎ Contains ys x) [
      | inl same ↦ inl (subst (λ y. Contains (z ∷ xs) y) same (Contains-head z xs))
      | inr more ↦ elim (append_cases xs ys x more) as (λ _. Contains (z ∷ xs) x ⊎ Contains ys x) [ inl there ↦ inl (Contains-tail z xs x there) | inr behind ↦ inr behind ]
    ]

flat_cases : {X Y : Type 0} (f : X → List Y) (xs : List X) (y : Y) → Contains (flat_map f xs) y → (x : X) × Contains xs x × Contains (f x) y
flat_cases f [] y h = absurd (Contains-nil_cases y h)
flat_cases {X} {Y} f (z ∷ xs) y h =
    elim (append_cases (f z) (flat_map f xs) y h) as (λ _. (x : X) × Contains (z ∷ xs) x × Contains (f x) y) [
      | inl here ↦ (z, Contains-head z xs, here)
      | inr more ↦ let r = flat_cases f xs y more in (r.0, Contains-tail z xs r.0 r.1, r.2)
    ]

module _ (names : List (List ℕ)) where
  abbrev Among : List (List ℕ) → Type 0
  Among found = (name : List ℕ) → Contains found name → Contains names name

  none : Among []
  none name h = absurd (Contains-nil_cases name h)

  both : (xs ys : List (List ℕ)) → Among xs → Among ys → Among (xs ++ ys)
  both xs ys f g name h = elim (append_cases xs ys name h) as (λ _. Contains names name) [ inl there ↦ f name there | inr behind ↦ g name behind ]

  by_test : (text : List ℕ) (b : Bool) → (b ≡ true → Contains names text) → Among (name_in (cond b (named text) (symbol text)))
  by_test text true is name h =
      elim (Contains-cons_cases text [] name h) as (λ _. Contains names name) [ inl same ↦ subst (Contains names) same (is refl) | inr more ↦ absurd (Contains-nil_cases name more) ]
  by_test text false is name h = none name h

  leaf : (raw : Raw) → Among (name_in (leaf_of names raw))
  leaf (Run text) = by_test text (list_any (bytes_eq text) names) (Contains-from_any (λ x y e. (bytes_eq-Decides x y).0 e) text names)
  leaf (Quoted text) = none

  abbrev of : Term Leaf → List (List ℕ)
  of e = listed name_in e

  abbrev go : Term Raw → Term Leaf
  go e = mapped (leaf_of names) e

  leaves : (all : List Raw) → Among (flat_map name_in (map (leaf_of names) all))
  leaves [] = none
  leaves (a ∷ all) = both (name_in (leaf_of names a)) (flat_map name_in (map (leaf_of names) all)) (leaf a) (leaves all)

  mutual
    among : (e : Term Raw) → Among (of (go e))
    among empty = none
    among any = none
    among edge = none
    among (atom a) = leaf a
    among (letters all) = leaves all
    among (group e) = among e
    among (maybe e) = among e
    among (not_one n e) = among e
    among (cross e f) = both (of (go e)) (of (go f)) (among e) (among f)
    among (suffixed e suffixes) = among e
    among (prefixed prefixes e) = among e
    among (ignore es) = each es
    among (concat es) = each es
    among (chain e links) = both (of (go e)) (listed_links name_in (mapped_links (leaf_of names) links)) (among e) (in_links links)
    among (only e contexts) = both (of (go e)) (listed_contexts name_in (mapped_contexts (leaf_of names) contexts)) (among e) (in_contexts contexts)
    among (rules optional groups) = in_groups groups
    among (directed way maps contexts) =
        both (listed_mappings name_in (mapped_mappings (leaf_of names) maps)) (listed_contexts name_in (mapped_contexts (leaf_of names) contexts)) (in_mappings maps) (in_contexts contexts)
    among (steps e more) = both (of (go e)) (listed_steps name_in (mapped_steps (leaf_of names) more)) (among e) (in_steps more)

    each : (es : Terms Raw) → Among (listed_each name_in (mapped_each (leaf_of names) es))
    each no_term = none
    each (then_term e es) = both (of (go e)) (listed_each name_in (mapped_each (leaf_of names) es)) (among e) (each es)

    in_links : (links : Links Raw) → Among (listed_links name_in (mapped_links (leaf_of names) links))
    in_links no_link = none
    in_links (or e links) = both (of (go e)) (listed_links name_in (mapped_links (leaf_of names) links)) (among e) (in_links links)
    in_links (and e links) = both (of (go e)) (listed_links name_in (mapped_links (leaf_of names) links)) (among e) (in_links links)
    in_links (less e links) = both (of (go e)) (listed_links name_in (mapped_links (leaf_of names) links)) (among e) (in_links links)

    in_contexts : (contexts : Contexts Raw) → Among (listed_contexts name_in (mapped_contexts (leaf_of names) contexts))
    in_contexts no_context = none
    in_contexts (between l r contexts) =
        both (of (go l) ++ of (go r)) (listed_contexts name_in (mapped_contexts (leaf_of names) contexts)) (both (of (go l)) (of (go r)) (among l) (among r)) (in_contexts contexts)

    in_steps : (more : Steps Raw) → Among (listed_steps name_in (mapped_steps (leaf_of names) more))
    in_steps no_step = none
    in_steps (cross_with e more) = both (of (go e)) (listed_steps name_in (mapped_steps (leaf_of names) more)) (among e) (in_steps more)
    in_steps (then e more) = both (of (go e)) (listed_steps name_in (mapped_steps (leaf_of names) more)) (among e) (in_steps more)

    in_mappings : (maps : Mappings Raw) → Among (listed_mappings name_in (mapped_mappings (leaf_of names) maps))
    in_mappings no_mapping = none
    in_mappings (plain c r maps) =
        both (of (go c) ++ of (go r)) (listed_mappings name_in (mapped_mappings (leaf_of names) maps)) (both (of (go c)) (of (go r)) (among c) (among r)) (in_mappings maps)
    in_mappings (markup c b a maps) =
        both (of (go c) ++ of (go b) ++ of (go a)) (listed_mappings name_in (mapped_mappings (leaf_of names) maps))
        (both (of (go c) ++ of (go b)) (of (go a)) (both (of (go c)) (of (go b)) (among c) (among b)) (among a)) (in_mappings maps)
    in_mappings (insert r maps) = both (of (go r)) (listed_mappings name_in (mapped_mappings (leaf_of names) maps)) (among r) (in_mappings maps)

    in_groups : (groups : Groups Raw) → Among (listed_groups name_in (mapped_groups (leaf_of names) groups))
    in_groups no_group = none
    in_groups (then_group maps side contexts groups) =
        both (listed_mappings name_in (mapped_mappings (leaf_of names) maps) ++ listed_contexts name_in (mapped_contexts (leaf_of names) contexts)) (listed_groups name_in (mapped_groups (leaf_of names) groups))
        (both (listed_mappings name_in (mapped_mappings (leaf_of names) maps)) (listed_contexts name_in (mapped_contexts (leaf_of names) contexts)) (in_mappings maps) (in_contexts contexts))
        (in_groups groups)

  -- each expression of a resolved body was resolved
  abbrev IsResolved : Term Leaf → Type 0
  IsResolved x = (e : Term Raw) × (go e ≡ x)

  in_form : (form : Form Raw) (x : Term Leaf) → Contains (expressions_in (resolved_form names form)) x → IsResolved x
  in_form (sides upper lower) x h = absurd (Contains-nil_cases x h)
  in_form (pairs e) x h =
      elim (Contains-cons_cases (go e) [] x h) as (λ _. IsResolved x) [ inl same ↦ (e, same) | inr more ↦ absurd (Contains-nil_cases x more) ]

  in_body : (body : Body Raw) (x : Term Leaf) → Contains (expressions_of (resolved names body)) x → IsResolved x
  in_body (xfst e) x h =
      elim (Contains-cons_cases (go e) [] x h) as (λ _. IsResolved x) [ inl same ↦ (e, same) | inr more ↦ absurd (Contains-nil_cases x more) ]
  in_body (lexc lexicons) x h =
      let (form, among_forms, inside) = flat_cases expressions_in (forms_in (map (resolved_lexicon names) lexicons)) x h in
      let (lexicon, of_lexicons, in_lexicon) = flat_cases (λ (l : Lexicon Leaf). map (λ (entry : Entry Leaf). entry.form) l.entries) (map (resolved_lexicon names) lexicons) form among_forms in
      let (source, of_sources, is_lexicon) = Contains-map_cases (resolved_lexicon names) lexicons lexicon of_lexicons in
      let (entry, of_entries, is_form) = Contains-map_cases (λ (entry : Entry Leaf). entry.form) (map (resolved_entry names) source.entries) form
      (subst (λ (l : Lexicon Leaf). Contains (map (λ (entry : Entry Leaf). entry.form) l.entries) form) (sym is_lexicon) in_lexicon) in
      let (written, of_written, is_entry) = Contains-map_cases (resolved_entry names) source.entries entry of_entries in
      in_form written.form x (subst (λ (f : Form Leaf). Contains (expressions_in f) x) (sym (ap (λ (entry : Entry Leaf). entry.form) is_entry ∙ is_form)) inside)
  in_body (twolc grammar) x h = absurd (Contains-nil_cases x h)

  among_body : (body : Body Raw) → Among (names_in (resolved names body))
  among_body body name h =
      let (x, inside, there) = flat_cases of (expressions_of (resolved names body)) name h in
      let (e, is) = in_body body x inside in
      among e name (subst (λ (y : Term Leaf). Contains (of y) name) (sym is) there)

pub closed : (written : List Written) (further : List (List ℕ)) → IsClosed (project_of written further)
closed written further name other (d, c, e, h) =
    let (w, of_written, is) = Contains-map_cases (definition_in (names_of written)) written d c in
    let there = among_body (names_of written) w.body other (subst (λ (x : Definition). Contains (names_in x.body) other) (sym is) h) in
    let (v, of_them, named_so) = Contains-map_cases (λ (d : Written). d.name) written other there in
    (definition_in (names_of written) v, Contains-map (definition_in (names_of written)) written v of_them, named_so)
