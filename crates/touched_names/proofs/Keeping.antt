-- A name that a change doesn't touch has the same kind and meaning in both projects, since the names in its definition do.
use Rattle.std.proofs.Common.{◌≡◌, ◌↔◌, ℕ, zero, suc, Bool, true, false, cond, List, [], ◌∷◌, ◌++◌, length, refl, sym, subst, ◌∙◌, inl, inr}
use Rattle.std.specs.List.{Contains, flat_map, list_any}
use Rattle.std.proofs.lemmas.Map.Views.{Contains-from_any}
use Rattle.std.proofs.lemmas.List.Elements.{Contains-append_cases}
use Rattle.word_relations.specs.Relations.{AreSame}
use Rattle.word_relations.proofs.Members.{Contains-nil_cases, Contains-head, Contains-tail}
use Rattle.regex_ast.specs.Terms.{Term, cross, empty}
use Rattle.expr_leaves.specs.Alphabet.{uses_alphabet}
use Rattle.expr_leaves.specs.Leaves.{listed}
use Rattle.expr_meaning.specs.Meaning.{In}
use Rattle.project_meaning.specs.Centres.{HasOwnEmptyCentre, centres_in}
use Rattle.project_meaning.specs.Leaves.{Leaf, name_in, names_in, expressions_of, body_uses_alphabet}
use Rattle.project_meaning.specs.Meaning.{Word, Meaning, BodyRelates, InExpression, stands_for}
use Rattle.project_meaning.specs.Projects.{Definition, Project, Defines, Refers}
use Rattle.project_meaning.specs.Touched.{AreSameSymbols, Touched}
use Rattle.project_meaning.specs.Trees.{Body, xfst}
use Rattle.project_meaning.proofs.Alike.{same_body as body_by_names}
use Rattle.project_meaning.proofs.Depths.{Ends, ends_in_time, names_unfold}
use Rattle.project_meaning.proofs.Places.{in_flat}
use Rattle.touched_names.specs.Staying.{Stays, IsOrderly}
use Rattle.touched_names.specs.Laws.{UntouchedNamesStay}
use Rattle.touched_names.proofs.Centres.{in_term}
use Rattle.touched_names.proofs.Lexicons.{alike_body, free_body}
use Rattle.touched_names.proofs.Sets.{Same, SamePairs}
use Rattle.touched_names.proofs.Tests.{any, any_of, text_test}
use Rattle.touched_names.proofs.Untouched.{was_there, names_untouched, symbols_stay, one_definition}

-- an element of a list before an empty one
before_end : {X : Type 0} (xs : List X) (x : X) → Contains (xs ++ []) x → Contains xs x
before_end xs x h = elim (Contains-append_cases xs [] x h) as (λ _. Contains xs x) [ inl here ↦ here | inr none ↦ absurd (Contains-nil_cases x none) ]

-- from which item an element of a joined list is
flat_cases : {X Y : Type 0} (f : X → List Y) (xs : List X) (y : Y) → Contains (flat_map f xs) y → (x : X) × Contains xs x × Contains (f x) y
flat_cases f [] y h = absurd (Contains-nil_cases y h)
flat_cases {X} {Y} f (z ∷ xs) y h =
    elim (Contains-append_cases (f z) (flat_map f xs) y h) as (λ _. (x : X) × Contains (z ∷ xs) x × Contains (f x) y) [
      | inl here ↦ (z, Contains-head z xs, here)
      | inr more ↦ let r = flat_cases f xs y more in (r.0, Contains-tail z xs r.0 r.1, r.2)
    ]

-- what these names mean, where others mean nothing
module _ (names : List (List ℕ)) where
  abbrev only : (List ℕ → Word → Word → Type 0) → List ℕ → Word → Word → Type 0
  only means name u w = cond (list_any (text_test.same name) names) (means name u w) ⊥

  only_is : (means : List ℕ → Word → Word → Type 0) (name : List ℕ) → Contains names name → means name ≡ only means name
  only_is means name among = let is = any text_test names name among in λ i u w. cond (sym is i) (means name u w) ⊥

  only_same : (means means' : List ℕ → Word → Word → Type 0) → ((name : List ℕ) → Contains names name → AreSame (means name) (means' name)) → (name : List ℕ) → SamePairs (only means name) (only means' name)
  only_same means means' same name = record { to = λ u w. (by u w).0; back = λ u w. (by u w).1 }
    where
      by_test : (u w : Word) (b : Bool) → list_any (text_test.same name) names ≡ b → cond b (means name u w) ⊥ ↔ cond b (means' name u w) ⊥
      by_test u w true is = same name (Contains-from_any text_test.sound name names is) u w
      by_test u w false is = (λ h. h, λ h. h)

      by : (u w : Word) → only means name u w ↔ only means' name u w
      by u w = by_test u w (list_any (text_test.same name) names) refl

-- a body and an expression where the names in it mean the same, over alphabets of the same symbols
module _ (means means' : List ℕ → Word → Word → Type 0) (alphabet alphabet' : List (List ℕ)) where
  abbrev Agree : List (List ℕ) → Type 0
  Agree names = (name : List ℕ) → Contains names name → AreSame (means name) (means' name)

  symbols_by : AreSameSymbols alphabet alphabet' → Same (Contains alphabet) (Contains alphabet')
  symbols_by same = record { to = λ s. (same s).0; back = λ s. (same s).1 }

  body_over : (body : Body Leaf) → Agree (names_in body) → AreSameSymbols alphabet alphabet' → AreSame (BodyRelates means alphabet body) (BodyRelates means' alphabet' body)
  body_over body agree symbols u w =
      let names = names_in body in
      let here = body_by_names means (only names means) alphabet body (only_is names means) in
      let there = body_by_names means' (only names means') alphabet' body (only_is names means') in
      let same = alike_body (only names means) (only names means') alphabet alphabet' (only_same names means means' agree) (symbols_by symbols) body u w in (
        λ h. subst (λ (R : Word → Word → Type 0). R u w) (sym there) (same.0 (subst (λ (R : Word → Word → Type 0). R u w) here h)),
        λ h. subst (λ (R : Word → Word → Type 0). R u w) (sym here) (same.1 (subst (λ (R : Word → Word → Type 0). R u w) there h)),
      )

  -- an expression has the empty word just where it relates that, crossed with nothing
  empty_over : (e : Term Leaf) → Agree (listed name_in e) → AreSameSymbols alphabet alphabet' → In (stands_for means) alphabet e [] ↔ In (stands_for means') alphabet' e []
  empty_over e agree symbols =
      let crossed : Body Leaf = xfst (cross e empty) in
      let same = body_over crossed (λ name h. agree name (before_end (listed name_in e) name (before_end (listed name_in e ++ []) name h))) symbols [] [] in
      (λ h. (same.0 (h, refl)).0, λ h. (same.1 (h, refl)).0)

-- and a body over any two alphabets, if it uses none or they have the same symbols
body_same : (means means' : List ℕ → Word → Word → Type 0) (alphabet alphabet' : List (List ℕ)) (body : Body Leaf)
    → ((name : List ℕ) → Contains (names_in body) name → AreSame (means name) (means' name)) → (body_uses_alphabet body ≡ true → AreSameSymbols alphabet alphabet')
    → AreSame (BodyRelates means alphabet body) (BodyRelates means' alphabet' body)
body_same means means' alphabet alphabet' body agree symbols = by (body_uses_alphabet body) refl
  where
    by : (uses : Bool) → body_uses_alphabet body ≡ uses → AreSame (BodyRelates means alphabet body) (BodyRelates means' alphabet' body)
    by true is = body_over means means' alphabet alphabet' body agree (symbols is)
    by false is = λ u w.
        let same = body_over means means' alphabet alphabet body agree (λ s. (λ h. h, λ h. h)) u w in
        let free = free_body means' alphabet alphabet' body is u w in
        (λ h. free.0 (same.0 h), λ h. same.1 (free.1 h))

module _ (old new : Project) (before : IsOrderly old) (after : IsOrderly new) where
  -- a definition that isn't touched
  record IsUntouched (name : List ℕ) : Type 0 where
    d : Definition
    named : d.name ≡ name
    there : Contains new.definitions d
    untouched : Touched old new d.name → ⊥

  module _ (name : List ℕ) (is : IsUntouched name) where
    here : Contains old.definitions is.d
    here = was_there old new is.d is.there is.untouched

    -- no other definition has the name
    one_old : (c : Definition) → Contains old.definitions c → c.name ≡ name → c ≡ is.d
    one_old c among named = one_definition old.definitions before.names c is.d among here (named ∙ sym is.named)

    one_new : (c : Definition) → Contains new.definitions c → c.name ≡ name → c ≡ is.d
    one_new c among named = one_definition new.definitions after.names c is.d among is.there (named ∙ sym is.named)

    module _ (names : (other : List ℕ) → Contains (names_in is.d.body) other → Stays old new other) where
      body_stays : AreSame (BodyRelates (Meaning old) old.alphabet is.d.body) (BodyRelates (Meaning new) new.alphabet is.d.body)
      body_stays = body_same (Meaning old) (Meaning new) old.alphabet new.alphabet is.d.body (λ other h. (names other h).meaning) (symbols_stay old new is.d is.there is.untouched)

      meaning_stays : AreSame (Meaning old name) (Meaning new name)
      meaning_stays u w =
          let first = names_unfold old before.acyclic before.closed name u w in
          let second = names_unfold new after.acyclic after.closed name u w in (
            λ h.
                let (c, among, named, related) = first.0 h in
                second.1 (is.d, is.there, is.named, (body_stays u w).0 (subst (λ (x : Definition). BodyRelates (Meaning old) old.alphabet x.body u w) (one_old c among named) related)),
            λ h.
                let (c, among, named, related) = second.0 h in
                first.1 (is.d, here, is.named, (body_stays u w).1 (subst (λ (x : Definition). BodyRelates (Meaning new) new.alphabet x.body u w) (one_new c among named) related)),
          )

      centre_stays : (centre : Term Leaf) → Contains (flat_map (λ e. centres_in e) (expressions_of is.d.body)) centre → InExpression old centre [] ↔ InExpression new centre []
      centre_stays centre among =
          let (e, of_body, in_it) = flat_cases (λ (x : Term Leaf). centres_in x) (expressions_of is.d.body) centre among in
          let inside = in_term name_in centre e in_it in
          empty_over (Meaning old) (Meaning new) old.alphabet new.alphabet centre
          (λ other h. (names other (in_flat (λ (x : Term Leaf). listed name_in x) (expressions_of is.d.body) e other of_body (inside.among other h))).meaning)
          (symbols_stay old new is.d is.there is.untouched (any_of (λ (x : Term Leaf). uses_alphabet x) (expressions_of is.d.body) e of_body inside.used))

      empty_centre_stays : HasOwnEmptyCentre old name ↔ HasOwnEmptyCentre new name
      empty_centre_stays = (
        λ (c, among, named, centre, own, has).
            let mine = subst (λ (x : Definition). Contains (flat_map (λ (e : Term Leaf). centres_in e) (expressions_of x.body)) centre) (one_old c among named) own in
            (is.d, is.there, is.named, centre, mine, (centre_stays centre mine).0 has),
        λ (c, among, named, centre, own, has).
            let mine = subst (λ (x : Definition). Contains (flat_map (λ (e : Term Leaf). centres_in e) (expressions_of x.body)) centre) (one_new c among named) own in
            (is.d, here, is.named, centre, mine, (centre_stays centre mine).1 has),
      )

  -- where references from the name end before this depth
  stays : (depth : ℕ) (name : List ℕ) → Ends new depth name → Defines new name → (Touched old new name → ⊥) → Stays old new name
  stays zero name ends defined untouched = absurd ends
  stays (suc depth) name ends (d, there, named) untouched =
      let is : IsUntouched name = record { d = d; named = named; there = there; untouched = λ touched. untouched (subst (Touched old new) named touched) } in
      let free = names_untouched old new d there is.untouched in
      let refers : (other : List ℕ) → Contains (names_in d.body) other → Refers new name other = λ other h. (d, there, named, h) in
      let names = λ (other : List ℕ) (h : Contains (names_in d.body) other). stays depth other (ends other (refers other h)) (after.closed name other (refers other h)) (free other h) in
      record {
        definition = d;
        named = named;
        before = here name is;
        now = there;
        refers = free;
        meaning = meaning_stays name is names;
        centre = empty_centre_stays name is names;
      }

pub untouched_names_stay : UntouchedNamesStay
untouched_names_stay old new before after name defined untouched =
    stays old new before after (length new.definitions) name (ends_in_time new after.acyclic after.closed name defined) defined untouched
