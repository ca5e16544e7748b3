-- Whether so many files are held besides the manifest as may be, by how many there are.
use Rattle.std.proofs.Common.{◌≡◌, ◌≢◌, ℕ, zero, suc, ◌+◌, ◌<◌, ◌≤◌, Bool, true, false, not, cond, List, [], ◌∷◌, length, get_or, filter, Contains, None, Some, nat_eq, refl, sym, ap, subst, ◌∙◌, inl, inr, arith}
use Rattle.std.specs.Cmp.Lexicographic.{pointwise, bytes_decides, nat_list_eq_equiv}
use Rattle.std.specs.Str.{bytes_eq}
use Rattle.std.proofs.lemmas.List.Elements.{Contains-get_or}
use Rattle.std.proofs.lemmas.List.Filters.{length-filter_both}
use Rattle.std.proofs.lemmas.Map.Keys.{IsDistinct-from_apart}
use Rattle.std.proofs.lemmas.Map.Made.{is_member-Decides, length-le_from_is_member}
use Rattle.std.proofs.lemmas.Option.{slice_get-get_or}
use Rattle.std.proofs.lemmas.Slice.Eq.{bytes_eq-Decides}
use Rattle.word_relations.specs.Words.{IsDistinct}
use Rattle.word_relations.proofs.Members.{Contains-nil_cases, Contains-head, Contains-tail, Contains-cons_cases}
use Rattle.word_relations.proofs.Places.{Contains-from_slice_get}
use Rattle.fsm_base.proofs.AlphabetLemmas.{IsDistinct-tail, no_repeat}
use Rattle.fsm_io.specs.Folders.{Files, file_of}
use Rattle.project_manifest.specs.Lines.{most_files}
use Rattle.project_manifest.specs.Manifests.{project_name}
use Rattle.project_sources.specs.Files.{names_in}
use Rattle.project_sources.specs.Edits.{HoldsMost, held_in}

-- ---- different texts of a list are no more than its texts

no_more : (xs ys : List (List ℕ)) → IsDistinct xs → ((x : List ℕ) → Contains xs x → Contains ys x) → length xs ≤ length ys
no_more xs ys distinct inside =
    length-le_from_is_member nat_list_eq_equiv xs ys
    (IsDistinct-from_apart (pointwise nat_eq) xs (λ i j d less within. apart i j d less within (pointwise nat_eq (get_or xs i d) (get_or xs j d)) refl))
    (λ q member. (is_member-Decides bytes_decides ys q).1 (inside q ((is_member-Decides bytes_decides xs q).0 member)))
  where
    apart : (i j : ℕ) (d : List ℕ) → i < j → j < length xs → (b : Bool) → pointwise nat_eq (get_or xs i d) (get_or xs j d) ≡ b → pointwise nat_eq (get_or xs i d) (get_or xs j d) ≡ false
    apart i j d less within false e = e
    apart i j d less within true e =
        let same : get_or xs i d ≡ get_or xs j d = (bytes_decides (get_or xs i d) (get_or xs j d)).0 e in
        let again : i ≡ j = distinct i j (get_or xs j d) (slice_get-get_or xs i d (omega arith) ∙ ap Some same) (slice_get-get_or xs j d within) in
        absurd (omega arith)

-- ---- one more, and fewer

distinct_cons : (x : List ℕ) (xs : List (List ℕ)) → (Contains xs x → ⊥) → IsDistinct xs → IsDistinct (x ∷ xs)
distinct_cons x xs new apart zero zero y at_i at_j = refl
distinct_cons x xs new apart zero (suc j) y at_i at_j = let same : x ≡ y = cc in absurd (new (subst (λ (z : List ℕ). Contains xs z) (sym same) (Contains-from_slice_get xs j y at_j)))
distinct_cons x xs new apart (suc i) zero y at_i at_j = let same : x ≡ y = cc in absurd (new (subst (λ (z : List ℕ). Contains xs z) (sym same) (Contains-from_slice_get xs i y at_i)))
distinct_cons x xs new apart (suc i) (suc j) y at_i at_j = ap suc (apart i j y at_i at_j)

module _ (test : List ℕ → Bool) where
  pub kept_inside : (xs : List (List ℕ)) (x : List ℕ) → Contains (filter test xs) x → Contains xs x × (test x ≡ true)
  kept_inside [] x h = absurd (Contains-nil_cases x h)
  kept_inside (y ∷ xs) x h = by (test y) refl h (kept_inside xs x) where
    by : (t : Bool) → test y ≡ t → Contains (cond t (y ∷ filter test xs) (filter test xs)) x → (Contains (filter test xs) x → Contains xs x × (test x ≡ true)) → Contains (y ∷ xs) x × (test x ≡ true)
    by true e h later = elim (Contains-cons_cases y (filter test xs) x h) [
      | inl same ↦ (subst (λ (z : List ℕ). Contains (y ∷ xs) z) same (Contains-head y xs), ap test (sym same) ∙ e)
      | inr rest ↦ let below = later rest in (Contains-tail y xs x below.0, below.1)
    ]
    by false e h later = let below = later h in (Contains-tail y xs x below.0, below.1)

  kept_distinct : (xs : List (List ℕ)) → IsDistinct xs → IsDistinct (filter test xs)
  kept_distinct [] apart = apart
  kept_distinct (y ∷ xs) apart = by (test y) (kept_distinct xs (IsDistinct-tail y xs apart)) where
    by : (t : Bool) → IsDistinct (filter test xs) → IsDistinct (cond t (y ∷ filter test xs) (filter test xs))
    by true rest = distinct_cons y (filter test xs) (λ h. no_repeat y xs apart (kept_inside xs y h).0) rest
    by false rest = rest

-- ---- what is held has a name, and the other way round

held_named : (files : Files) (name : List ℕ) → file_of name files ≢ None → Contains (names_in files) name
held_named [] name held = absurd (held refl)
held_named (f ∷ files) name held = by (bytes_eq f.0 name) refl held (held_named files name) where
  by : (t : Bool) → bytes_eq f.0 name ≡ t → (cond t (Some f.1) (file_of name files) ≡ None → ⊥) → ((file_of name files ≡ None → ⊥) → Contains (names_in files) name) → Contains (f.0 ∷ names_in files) name
  by true e held later = subst (λ (z : List ℕ). Contains (f.0 ∷ names_in files) z) ((bytes_eq-Decides f.0 name).0 e) (Contains-head f.0 (names_in files))
  by false e held later = Contains-tail f.0 (names_in files) name (later held)

named_held : (files : Files) (name : List ℕ) → Contains (names_in files) name → file_of name files ≢ None
named_held [] name h none = Contains-nil_cases name h
named_held (f ∷ files) name h none = by (bytes_eq f.0 name) refl none (named_held files name) where
  by : (t : Bool) → bytes_eq f.0 name ≡ t → cond t (Some f.1) (file_of name files) ≡ None → (Contains (names_in files) name → file_of name files ≡ None → ⊥) → ⊥
  by true e none later = cc
  by false e none later = elim (Contains-cons_cases f.0 (names_in files) name h) [
    | inl same ↦ let both : true ≡ false = sym ((bytes_eq-Decides f.0 name).1 same) ∙ e in cc
    | inr rest ↦ later rest none
  ]

many_names : (files : Files) → length (names_in files) ≡ length files
many_names [] = refl
many_names (f ∷ files) = ap suc (many_names files)

-- ---- so many files

abbrev is_other : List ℕ → Bool
is_other name = not (bytes_eq name project_name)

abbrev is_project : List ℕ → Bool
is_project name = bytes_eq name project_name

turned : (t : Bool) → t ≡ not (not t)
turned true = refl
turned false = refl

not_true : (t : Bool) → not t ≡ true → t ≡ true → ⊥
not_true true e f = cc
not_true false e f = cc

module _ (files : Files) (apart : IsDistinct (names_in files)) where
  most_of : (names : List (List ℕ)) → IsDistinct names → 64 ≤ length names → ((name : List ℕ) → Contains names name → (name ≢ project_name) × Contains (names_in files) name) → HoldsMost (held_in files)
  unfolding most_files
  most_of names distinct many there = record {
    names = names;
    distinct = distinct;
    many = many;
    there = λ k d lt. let it = there (get_or names k d) (Contains-get_or names k d lt) in (it.0, named_held files (get_or names k d) it.1);
  }

  inside_of : (most : HoldsMost (held_in files)) (name : List ℕ) → Contains most.names name → (name ≢ project_name) × Contains (names_in files) name
  inside_of most name h =
      let it = most.there h.0 name h.1 in
      let P : List ℕ → Type 0 = λ z. (z ≢ project_name) × Contains (names_in files) z in
      subst P h.2 (it.0, held_named files (get_or most.names h.0 name) it.1)

  pub most_besides : file_of project_name files ≢ None → 64 < length files → HoldsMost (held_in files)
  most_besides held many =
      let names = names_in files in
      let others = filter is_other names in
      let both : length others + length (filter is_project names) ≡ length names = length-filter_both is_other is_project (λ x. turned (bytes_eq x project_name)) names in
      let one : length (filter is_project names) ≤ 1 =
      no_more (filter is_project names) (project_name ∷ []) (kept_distinct is_project names apart)
      (λ x h. subst (λ (z : List ℕ). Contains (project_name ∷ []) z) (sym ((bytes_eq-Decides x project_name).0 (kept_inside is_project names x h).1)) (Contains-head project_name [])) in
      let enough : 64 ≤ length others = omega (arith, both, one, many_names files, many) in
      most_of others (kept_distinct is_other names apart) enough
      (λ x h. let it = kept_inside is_other names x h in (λ same. not_true (bytes_eq x project_name) it.1 ((bytes_eq-Decides x project_name).1 same), it.0))

  pub most_alone : file_of project_name files ≡ None → 64 ≤ length files → HoldsMost (held_in files)
  most_alone none many =
      let enough : 64 ≤ length (names_in files) = omega (arith, many_names files, many) in
      most_of (names_in files) apart enough (λ x h. (λ same. named_held files x h (ap (λ (z : List ℕ). file_of z files) same ∙ none), h))

  unfolded : (most : HoldsMost (held_in files)) → 64 ≤ length most.names
  unfolding most_files
  unfolded most = most.many

  pub besides_most : file_of project_name files ≢ None → HoldsMost (held_in files) → 64 < length files
  besides_most held most =
      let all = project_name ∷ most.names in
      let fits : length all ≤ length (names_in files) =
      no_more all (names_in files) (distinct_cons project_name most.names (λ h. (inside_of most project_name h).0 refl) most.distinct)
      (λ x h. elim (Contains-cons_cases project_name most.names x h) [
        | inl same ↦ subst (λ (z : List ℕ). Contains (names_in files) z) same (held_named files project_name held)
        | inr rest ↦ (inside_of most x rest).1
      ]) in
      omega (arith, fits, many_names files, unfolded most)

  pub alone_most : HoldsMost (held_in files) → 64 ≤ length files
  alone_most most =
      let fits : length most.names ≤ length (names_in files) = no_more most.names (names_in files) most.distinct (λ x h. (inside_of most x h).1) in
      omega (arith, fits, many_names files, unfolded most)
