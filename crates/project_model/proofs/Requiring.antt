-- Names that lines of a manifest require.
use Rattle.std.proofs.lemmas.List.Elements.{All-tail}
use Rattle.std.proofs.Common.{All, ◌≡◌, ◌↔◌, ◌+◌, ◌<◌, ℕ, List, [], ◌∷◌, ◌++◌, length, map, take, drop, get_or, refl, sym, ap, subst, ◌∙◌, inl}
use Rattle.std.proofs.lemmas.List.{map-append, take-append-drop, take_more}
use Rattle.std.specs.List.{Contains}
use Rattle.word_relations.proofs.Behind.{left_behind}
use Rattle.word_relations.proofs.Members.{Contains-map, Contains-map_cases}
use Rattle.regex_ast.specs.declared.fault.Fault.{Fault}
use Rattle.regex_ast.specs.declared.fault.Why.TheVariants as why
use Rattle.project_manifest.specs.Lines.{Placed, symbols_of, symbols_said}
use Rattle.project_manifest.specs.Manifests.{project_name}
use Rattle.project_manifest.specs.Rows.{HaveNone, Where}
use Rattle.project_manifest.specs.Sayings.{line_of, placed_of}
use Rattle.project_manifest.specs.declared.manifest.ManifestLine.{ManifestLine}
use Rattle.project_manifest.proofs.Firsts.{first_alike, first_past, none_append, none_more}
use Rattle.project_meaning.specs.Projects.{Defines, Written, definition_in, names_of}
use Rattle.project_sources.specs.Faults.{RequiresUnknown, SaidFault, fault, unknown}
use Rattle.project_sources.specs.Sources.{project_in}
use Rattle.project_model.specs.Answers.{IsUnknown, UnknownFault, said_of}

-- a project defines just the names of what is written
module _ (written : List Written) (lines : List Placed) (names : List (List ℕ)) (names_is : names ≡ names_of written) where
  defined : (name : List ℕ) → Contains names name → Defines (project_in (said_of lines written)) name
  defined name among =
      let (w, there, is) = Contains-map_cases (λ (w : Written). w.name) written name (subst (λ (z : List (List ℕ)). Contains z name) names_is among) in
      (definition_in (names_of written) w, Contains-map (definition_in (names_of written)) written w there, is)

  named : (name : List ℕ) → Defines (project_in (said_of lines written)) name → Contains names name
  named name (d, there, is) =
      let (w, among, d_is) = Contains-map_cases (definition_in (names_of written)) written d there in
      let same : w.name ≡ name = ap (λ e. e.name) d_is ∙ is in
      subst (λ (z : List (List ℕ)). Contains z name) (sym names_is) (subst (Contains (names_of written)) same (Contains-map (λ (v : Written). v.name) written w among))

  unknown_both : (l : Placed) → IsUnknown names l ↔ RequiresUnknown (project_in (said_of lines written)) l
  unknown_both l = (λ (name, required, none). (name, required, λ d. none (named name d)), λ (name, required, none). (name, required, λ n. none (defined name n)))

  pub unknown_fault : (found : Fault) → UnknownFault names lines found ↔ SaidFault (said_of lines written) unknown found
  unknown_fault =
      first_alike (λ (l : Placed). Where (IsUnknown names l) (fault project_name l.line why.UnknownName))
      (λ (l : Placed). Where (RequiresUnknown (project_in (said_of lines written)) l) (fault project_name l.line why.UnknownName)) (λ (l : Placed). l) (λ (l : Placed). l) lines lines refl
      (λ l other among same found. both l other same found)
    where
      both : (l other : Placed) → l ≡ other → (found : Fault)
          → Where (IsUnknown names l) (fault project_name l.line why.UnknownName) found ↔ Where (RequiresUnknown (project_in (said_of lines written)) other) (fault project_name other.line why.UnknownName) found
      both l other same found =
          subst (λ (p : Placed). Where (IsUnknown names l) (fault project_name l.line why.UnknownName) found ↔ Where (RequiresUnknown (project_in (said_of lines written)) p) (fault project_name p.line why.UnknownName) found) same
          (λ (is, e). ((unknown_both l).0 is, e), λ (is, e). ((unknown_both l).1 is, e))

-- A loop over lines, of which the one at this place is looked at.
module _ (names : List (List ℕ)) (xs : List ManifestLine) (i : ℕ) (x : ManifestLine) (below : i < length xs) (is : x ≡ get_or xs i x) where
  abbrev Has : Placed → Fault → Type 0
  Has l found = Where (IsUnknown names l) (fault project_name l.line why.UnknownName) found

  front_more : map placed_of (take (i + 1) xs) ≡ map placed_of (take i xs) ++ placed_of x ∷ []
  front_more = ap (map placed_of) (take_more_at) ∙ map-append placed_of (take i xs) (x ∷ [])
    where
      take_more_at : take (i + 1) xs ≡ take i xs ++ x ∷ []
      take_more_at = take_more xs i x below ∙ ap (λ (e : ManifestLine). take i xs ++ e ∷ []) (sym is)

  split : map placed_of xs ≡ map placed_of (take i xs) ++ placed_of x ∷ map placed_of (drop (i + 1) xs)
  split =
      ap (map placed_of) (sym (take-append-drop i xs)) ∙ map-append placed_of (take i xs) (drop i xs)
      ∙ ap (λ (z : List ManifestLine). map placed_of (take i xs) ++ map placed_of z) (left_behind xs i x below is)

  pub known_more : ((found : Fault) → UnknownFault names (map placed_of (take i xs)) found → ⊥) → (IsUnknown names (placed_of x) → ⊥) → (found : Fault) → UnknownFault names (map placed_of (take (i + 1) xs)) found → ⊥
  known_more none known =
      subst (λ (z : List Placed). HaveNone Has z) (sym front_more)
      (none_append Has (map placed_of (take i xs)) (placed_of x ∷ []) none (none_more Has (placed_of x) [] (λ found h. known h.0) (λ found h. h)))

  pub unknown_here : ((found : Fault) → UnknownFault names (map placed_of (take i xs)) found → ⊥) → IsUnknown names (placed_of x) → UnknownFault names (map placed_of xs) (fault project_name x.number why.UnknownName)
  unknown_here none is_unknown =
      subst (λ (z : List Placed). UnknownFault names z (fault project_name x.number why.UnknownName)) (sym split)
      (first_past Has (map placed_of (take i xs)) (placed_of x ∷ map placed_of (drop (i + 1) xs)) (fault project_name x.number why.UnknownName) none (inl (is_unknown, refl)))

-- the symbols of lines are those of the line at a place, and of the lines behind it
pub line_symbols : (xs : List ManifestLine) (i : ℕ) (x : ManifestLine) → i < length xs → x ≡ get_or xs i x
    → symbols_of (map placed_of (drop i xs)) ≡ symbols_said (line_of x.declares) ++ symbols_of (map placed_of (drop (i + 1) xs))
line_symbols xs i x below is = ap (λ (z : List ManifestLine). symbols_of (map placed_of z)) (left_behind xs i x below is)

pub All-behind : {X : Type 0} (P : X → Type 0) (xs ys : List X) → All P (xs ++ ys) → All P ys
All-behind P [] ys all = all
All-behind P (x ∷ xs) ys all = All-behind P xs ys (All-tail P x (xs ++ ys) all)
