-- The names of a project, and those of places that are touched, sorted.
use Rattle.std.proofs.Common.{◌≡◌, ◌⊎◌, ◌<◌, ℕ, List, [], length, map, get_or, All, AllPairs, Contains, Some, slice_get, sym, ap, subst, ◌∙◌, inl, inr, arith}
use Rattle.std.proofs.lemmas.Bool.{cases_order}
use Rattle.std.proofs.lemmas.List.{length-map}
use Rattle.std.proofs.lemmas.List.Elements.{All-contains_itself, All-weaker}
use Rattle.std.proofs.lemmas.List.Sorted.{Contains-permutation, IsPermutation-sym}
use Rattle.std.proofs.lemmas.Option.{get_or_from_slice_get, same_Some, slice_get-get_or, slice_get-map, slice_get_within}
use Rattle.std.specs.Cmp.Lexicographic.{slice_cmp}
use Rattle.std.specs.List.Sorted.{IsPermutation, IsSorted}
use Rattle.std.specs.Option.{option_map}
use Rattle.std.specs.Ordering.{nat_cmp}
use Rattle.fsm_base.specs.declared.letters.Sym.{Sym}
use Rattle.word_relations.specs.Words.{IsDistinct}
use Rattle.word_relations.proofs.Members.{Contains-map, Contains-map_cases}
use Rattle.word_relations.proofs.Places.{Contains-from_slice_get}
use Rattle.editor_meaning.specs.Editing.{AreNames}
use Rattle.project_meaning.specs.Projects.{Defines, Project}
use Rattle.project_meaning.specs.Touched.{Touched}
use Rattle.project_definitions.specs.declared.definition.Definition.{Definition}
use Rattle.project_sources.specs.Sources.{Said}
use Rattle.project_store.specs.Loaded.{AreNames as AreProjectNames, IsLoadedFrom, LoadedView}
use Rattle.project_store.proofs.Ordered.{in_order_from_sorted}
use Rattle.touched_names.specs.Touched.{AreTouched, StandFor}
use Rattle.project_versions.specs.Rebuilt.{name_at}

-- the names of a project
pub names_mean : (p meant : Project) → meant ≡ p → (names : List (List ℕ)) → AreProjectNames p names → AreNames (Defines meant) names
names_mean p meant same names are = subst (λ (q : Project). AreNames (Defines q) names) (sym same) (record { all = are.all; in_order = are.in_order })

-- ascending places are different
places_differ : (places : List ℕ) → AllPairs (λ one next. one < next) places → IsDistinct places
places_differ places up i j p at also = by (cases_order i j)
  where
    is : get_or places i 0 ≡ p
    is = get_or_from_slice_get places i p 0 at

    is_also : get_or places j 0 ≡ p
    is_also = get_or_from_slice_get places j p 0 also

    by : (i ≡ j) ⊎ ((i < j) ⊎ (j < i)) → i ≡ j
    by (inl same) = same
    by (inr (inl lower)) =
        let r : get_or places i 0 < get_or places j 0 = up i j 0 lower (slice_get_within places j p also) in
        absurd (omega (arith, r, is, is_also))
    by (inr (inr lower)) =
        let r : get_or places j 0 < get_or places i 0 = up j i 0 lower (slice_get_within places i p at) in
        absurd (omega (arith, r, is, is_also))

-- definitions that are loaded stand for what was said
pub stand_for : (said : Said) (loaded : LoadedView) → IsLoadedFrom said loaded → StandFor said loaded.definitions loaded.alphabet
stand_for said loaded from = record {
  formed = from.formed;
  alphabet = from.alphabet;
  texts = from.texts;
  definitions = from.definitions;
  forms = loaded.forms;
  plan = record { distinct = from.plan.distinct; names = from.plan.names; forms = from.plan.forms; sound = from.plan.sound };
}

module _ (old new : Project) (definitions : List Definition) (distinct : IsDistinct (map (λ d. d.name) definitions)) (places : List ℕ) (are : AreTouched old new definitions places) where
  abbrev all_names : List (List ℕ)
  all_names = map (λ (d : Definition). d.name) definitions

  abbrev found : List (List ℕ)
  found = map (name_at definitions) places

  named_at : (place : ℕ) (d : Definition) → slice_get definitions place ≡ Some d → slice_get all_names place ≡ Some d.name
  named_at place d at = slice_get-map (λ (x : Definition). x.name) definitions place ∙ ap (option_map (λ (x : Definition). x.name)) at

  held : (place : ℕ) (d : Definition) → slice_get definitions place ≡ Some d → name_at definitions place ≡ d.name
  held place d at = get_or_from_slice_get all_names place d.name [] (named_at place d at)

  to : (name : List ℕ) → Touched old new name → Contains found name
  to name touched =
      let (place, d, there, at, named) = are.names name touched in
      subst (Contains found) (held place d at ∙ named) (Contains-map (name_at definitions) places place there)

  back : (name : List ℕ) → Contains found name → Touched old new name
  back name among =
      let (place, there, is) = Contains-map_cases (name_at definitions) places name among in
      let (d, at, touched) = (are.places.all place).0 there in
      subst (Touched old new) (sym (held place d at) ∙ is) touched

  place_of : (i : ℕ) (name : List ℕ) → slice_get found i ≡ Some name → (p : ℕ) × (slice_get places i ≡ Some p) × (slice_get all_names p ≡ Some name)
  place_of i name at =
      let size = length-map places (name_at definitions) in
      let below = slice_get_within found i name at in
      let p = get_or places i 0 in
      let p_at : slice_get places i ≡ Some p = slice_get-get_or places i 0 (omega (arith, below, size)) in
      let (d, d_at, touched) = (are.places.all p).0 (Contains-from_slice_get places i p p_at) in
      let is : name_at definitions p ≡ name = same_Some (name_at definitions p) name (sym (slice_get-map (name_at definitions) places i ∙ ap (option_map (name_at definitions)) p_at) ∙ at) in
      (p, p_at, named_at p d d_at ∙ ap (λ (n : List ℕ). Some n) (sym (held p d d_at) ∙ is))

  names_apart : IsDistinct found
  names_apart i j name at also =
      let (p, p_at, p_named) = place_of i name at in
      let (q, q_at, q_named) = place_of j name also in
      places_differ places are.places.ascending i j p p_at (subst (λ (k : ℕ). slice_get places j ≡ Some k) (sym (distinct p q name p_named q_named)) q_at)

  -- each place is that of a definition
  pub all_within : All (λ p. p < length definitions) places
  all_within =
      All-weaker (Contains places) (λ p. p < length definitions) (λ p there. (let (d, at, touched) = (are.places.all p).0 there in slice_get_within definitions p d at)) places (All-contains_itself places)

  -- and their names, sorted, are those that are touched
  pub names_touched : (sorted : List (List ℕ)) → IsPermutation found sorted → IsSorted (slice_cmp nat_cmp) sorted → AreNames (Touched old new) sorted
  names_touched sorted moved up = record {
    all = λ name. (
      λ touched. Contains-permutation found sorted name moved (to name touched),
      λ among. back name (Contains-permutation sorted found name (IsPermutation-sym found sorted moved) among),
    );
    in_order = in_order_from_sorted found sorted names_apart moved up;
  }

-- the same where the lists are the same
pub stand_as : (said : Said) (loaded : LoadedView) → IsLoadedFrom said loaded → (ds : List Definition) (symbols : List (Sym × List ℕ)) → ds ≡ loaded.definitions → symbols ≡ loaded.alphabet → StandFor said ds symbols
stand_as said loaded from ds symbols same same_symbols =
    subst (λ (d : List Definition). StandFor said d symbols) (sym same)
    (subst (λ (a : List (Sym × List ℕ)). StandFor said loaded.definitions a) (sym same_symbols) (stand_for said loaded from))
