-- References of definitions by their places are references of names by their texts; so a definition reaches itself where its name
-- does.
use Rattle.std.proofs.Common.{◌≡◌, ◌<◌, ℕ, zero, suc, Bool, true, false, cond, nat_lt, List, [], ◌∷◌, ◌++◌, length, map, All, Contains, Some, None, slice_get, refl, sym, ap, subst, ◌∙◌, inl, inr, arith}
use Rattle.std.proofs.lemmas.Bool.Decides.{nat_tests}
use Rattle.std.proofs.lemmas.List.{length-map, map-append}
use Rattle.std.proofs.lemmas.List.Elements.{All-nil, All-cons, All-append, All-contains}
use Rattle.std.proofs.lemmas.Option.{slice_get-map, same_Some}
use Rattle.std.specs.List.{flat_map}
use Rattle.std.specs.Option.{option_map}
use Rattle.fsm_base.specs.Symbols.{number_of}
use Rattle.word_relations.proofs.Members.{Contains-map, Contains-map_cases}
use Rattle.word_relations.proofs.Places.{Contains-from_slice_get, slice_get_from_Contains, same_at}
use Rattle.regex_ast.specs.declared.expr.Atom.{Atom}
use Rattle.regex_ast.specs.declared.expr.Atom.TheVariants.{Sym, Name}
use Rattle.regex_ast.specs.declared.expr.Raw.{Raw}
use Rattle.regex_ast.specs.declared.fault.Fault.{Fault}
use Rattle.regex_ast.specs.declared.fault.Why.TheVariants as why
use Rattle.regex_ast.specs.Terms.{Term}
use Rattle.expr_leaves.specs.Leaves.{leaves_in, listed}
use Rattle.expr_leaves.specs.Mapped.{mapped}
use Rattle.name_order.specs.Graph.{Refers as Leads, Reaches as LeadsOn, at_once as leads_once, further as leads_further, IsWhole}
use Rattle.name_order.specs.Orders.{HasNoCycle as HasNoRound}
use Rattle.project_meaning.specs.Leaves.{Leaf, symbol, expressions_of, leaf_of, name_in, names_in, resolved, written as text_of}
use Rattle.project_meaning.specs.Projects.{Definition as Meant, Written, Project, Defines, Refers, Reaches, at_once, further, HasNoCycle, definition_in, names_of}
use Rattle.project_meaning.specs.Trees.{Body}
use Rattle.project_meaning.proofs.Closed.{closed}
use Rattle.project_sources.specs.Faults.{fault, fault_of, cyclic, SaidFault}
use Rattle.project_manifest.specs.Lines.{symbols_of}
use Rattle.project_manifest.specs.Rows.{First, Where}
use Rattle.project_sources.specs.Sources.{Said, project_in}
use Rattle.project_definitions.specs.Forms.{AreDefined}
use Rattle.name_resolution.specs.Numbered.{numbered}
use Rattle.project_definitions.specs.Bodies.{mapped_body}
use Rattle.project_definitions.specs.Plain.{body_of}
use Rattle.project_definitions.specs.Referring.{CycleFault, body_places, place_in, places_in, references_of}
use Rattle.name_resolution.specs.Resolved.{atom_of}
use Rattle.project_definitions.specs.Entries.{Entry, entry_of, entry_in}
use Rattle.project_definitions.specs.declared.definition.Definition.{Definition}
use Rattle.project_definitions.proofs.Numbers.{at_number, number_within}
use Rattle.project_definitions.proofs.Bodies.{expressions_mapped, expressions_resolved}
use Rattle.name_resolution.proofs.Listed.{listed_is}
use Rattle.name_resolution.proofs.GrammarLeaves.{leaf_cases}
use Rattle.name_resolution.proofs.Mapped.{mapped_listed, mapped_twice}

below : (n m : ℕ) → n < m → nat_lt n m ≡ true
below n m less = grind (arith, nat_tests)

not_below : (n : ℕ) → nat_lt n n ≡ false
not_below n = grind (arith, nat_tests)

is_below : (n m : ℕ) → nat_lt n m ≡ true → n < m
is_below n m less = grind (arith, nat_tests)

-- lists that are made of items that agree
map_alike : {X Y Z W : Type 0} (f : X → Z) (g : Y → Z) (h : X → W) (k : Y → W) → ((x : X) (y : Y) → f x ≡ g y → h x ≡ k y)
    → (xs : List X) (ys : List Y) → map f xs ≡ map g ys → map h xs ≡ map k ys
map_alike f g h k alike [] [] is = refl
map_alike f g h k alike [] (y ∷ ys) is = let e : [] ≡ g y ∷ map g ys = is in cc
map_alike f g h k alike (x ∷ xs) [] is = let e : f x ∷ map f xs ≡ [] = is in cc
map_alike f g h k alike (x ∷ xs) (y ∷ ys) is =
    let e : f x ∷ map f xs ≡ g y ∷ map g ys = is in
    let head : f x ≡ g y = cc in
    let tail : map f xs ≡ map g ys = cc in
    let first = alike x y head in
    let rest = map_alike f g h k alike xs ys tail in
    λ i. first i ∷ rest i

pub at_map : {X Y : Type 0} (f : X → Y) (xs : List X) (k : ℕ) (y : Y) → slice_get (map f xs) k ≡ Some y → (x : X) × (slice_get xs k ≡ Some x) × (f x ≡ y)
at_map f [] k y at = let never : None ≡ Some y = at in absurd (cc)
at_map f (x ∷ xs) zero y at = (x, refl, same_Some (f x) y at)
at_map f (x ∷ xs) (suc k) y at = at_map f xs k y at

flat_mapped : {A B C : Type 0} (f : B → C) (h : A → List B) (xs : List A) → flat_map (λ a. map f (h a)) xs ≡ map f (flat_map h xs)
flat_mapped f h [] = refl
flat_mapped {C = C} f h (x ∷ xs) = ap (λ (z : List C). map f (h x) ++ z) (flat_mapped f h xs) ∙ sym (map-append f (h x) (flat_map h xs))

-- the item at a place has it, and none before
pub first_here : {A F : Type 0} (Has : A → F → Type 0) (xs : List A) (k : ℕ) (x : A) (found : F) → slice_get xs k ≡ Some x → Has x found
    → ((j : ℕ) (y : A) → j < k → slice_get xs j ≡ Some y → (other : F) → Has y other → ⊥) → First Has xs found
first_here Has [] k x found at h before = let never : None ≡ Some x = at in absurd (cc)
first_here Has (y ∷ xs) zero x found at h before = inl (subst (λ z. Has z found) (sym (same_Some y x at)) h)
first_here Has (y ∷ xs) (suc k) x found at h before =
    inr (before 0 y (omega arith) refl, first_here Has xs k x found at h (λ j z lower at_z. before (suc j) z (omega (arith, lower)) at_z))

nowhere : {A F : Type 0} (Has : A → F → Type 0) (xs : List A) → ((x : A) (other : F) → Has x other → ⊥) → (found : F) → First Has xs found → ⊥
nowhere Has [] none found h = h
nowhere Has (x ∷ xs) none found h = elim h as (λ _. ⊥) [ inl here ↦ none x found here | inr later ↦ nowhere Has xs none found later.1 ]

-- what a definition refers to is the place of a definition
place_below : (n : ℕ) (a : Atom) → All (λ (p : ℕ). p < n) (place_in n a)
place_below n (Sym s) = All-nil (λ (p : ℕ). p < n)
place_below n (Name place) = by (nat_lt place n) refl
  where
    by : (b : Bool) → nat_lt place n ≡ b → All (λ (p : ℕ). p < n) (cond b (place ∷ []) [])
    by true less = All-cons (λ (p : ℕ). p < n) place [] (is_below place n less) (All-nil (λ (p : ℕ). p < n))
    by false less = All-nil (λ (p : ℕ). p < n)

places_below : (n : ℕ) (leaves : List Atom) → All (λ (p : ℕ). p < n) (flat_map (place_in n) leaves)
places_below n [] = All-nil (λ (p : ℕ). p < n)
places_below n (a ∷ leaves) = All-append (λ (p : ℕ). p < n) (place_in n a) (flat_map (place_in n) leaves) (place_below n a) (places_below n leaves)

each_below : (n : ℕ) (es : List (Term Atom)) → All (λ (p : ℕ). p < n) (flat_map (places_in n) es)
each_below n [] = All-nil (λ (p : ℕ). p < n)
each_below n (e ∷ es) =
    All-append (λ (p : ℕ). p < n) (places_in n e) (flat_map (places_in n) es)
    (subst (All (λ (p : ℕ). p < n)) (sym (listed_is (place_in n) e)) (places_below n (leaves_in e))) (each_below n es)

pub references_whole : (definitions : List Definition) → IsWhole (references_of definitions)
references_whole definitions place other (xs, at, h) =
    let n = length definitions in
    let (d, there, is) = at_map (λ (d : Definition). body_places n (body_of d.body)) definitions place xs at in
    let among : Contains (body_places n (body_of d.body)) other = subst (λ (ys : List ℕ). Contains ys other) (sym is) h in
    let less = All-contains (λ (p : ℕ). p < n) (body_places n (body_of d.body)) other (each_below n (expressions_of (body_of d.body))) among in
    let size = length-map definitions (λ (d : Definition). body_places n (body_of d.body)) in
    omega (arith, less, size)

module _ (names table : List (List ℕ)) where
  abbrev number : List ℕ → ℕ
  number name = number_of name names

  named_place : (text : List ℕ) → Contains names text → place_in (length names) (Name (number text)) ≡ number text ∷ []
  named_place text among = ap (λ (b : Bool). cond b (number text ∷ []) []) (below (number text) (length names) (number_within names text among))

  symbol_place : (text : List ℕ) → place_in (length names) (numbered names table (symbol text)) ≡ []
  symbol_place [] = ap (λ (b : Bool). cond b (length names ∷ []) []) (not_below (length names))
  symbol_place (b ∷ bs) = refl

  place_is : (leaf : Raw) → place_in (length names) (atom_of names table leaf) ≡ map number (name_in (leaf_of names leaf))
  place_is leaf =
      elim (leaf_cases names leaf) as (λ _. place_in (length names) (atom_of names table leaf) ≡ map number (name_in (leaf_of names leaf))) [
        | inl (is, among) ↦ subst (λ (l : Leaf). place_in (length names) (numbered names table l) ≡ map number (name_in l)) (sym is) (named_place (text_of leaf) among)
        | inr is ↦ subst (λ (l : Leaf). place_in (length names) (numbered names table l) ≡ map number (name_in l)) (sym is) (symbol_place (text_of leaf))
      ]

  abbrev by_text : Term Raw → Term Leaf
  by_text e = mapped (leaf_of names) e

  abbrev by_number : Term Leaf → Term Atom
  by_number e = mapped (numbered names table) e

  places_are : (e : Term Raw) → places_in (length names) (by_number (by_text e)) ≡ map number (listed name_in (by_text e))
  places_are e =
      ap (places_in (length names)) (mapped_twice (numbered names table) (leaf_of names) e)
      ∙ mapped_listed (place_in (length names)) (atom_of names table) e
      ∙ listed_is (λ leaf. place_in (length names) (atom_of names table leaf)) e
      ∙ ap (λ (of : Raw → List ℕ). flat_map of (leaves_in e)) (λ i leaf. place_is leaf i)
      ∙ flat_mapped number (λ leaf. name_in (leaf_of names leaf)) (leaves_in e)
      ∙ ap (map number) (sym (listed_is (λ leaf. name_in (leaf_of names leaf)) e) ∙ sym (mapped_listed name_in (leaf_of names) e))

  each_place : (es : List (Term Raw)) → flat_map (places_in (length names)) (map by_number (map by_text es)) ≡ map number (flat_map (λ (e : Term Leaf). listed name_in e) (map by_text es))
  each_place [] = refl
  each_place (e ∷ es) =
      let here = places_are e in
      let rest = each_place es in
      (λ i. here i ++ rest i) ∙ sym (map-append number (listed name_in (by_text e)) (flat_map (λ (x : Term Leaf). listed name_in x) (map by_text es)))

  body_places_are : (body : Body Raw) (b : Body Atom) → b ≡ mapped_body (numbered names table) (resolved names body)
      → body_places (length names) b ≡ map number (names_in (resolved names body))
  body_places_are body b is =
      let texts = expressions_resolved names body in
      let numbers = ap (λ (x : Body Atom). expressions_of x) is ∙ expressions_mapped (numbered names table) (resolved names body) ∙ ap (map by_number) texts in
      ap (flat_map (places_in (length names))) numbers ∙ each_place (expressions_of body) ∙ ap (λ (es : List (Term Leaf)). map number (flat_map (λ (e : Term Leaf). listed name_in e) es)) (sym texts)

-- definitions as they were said
module _ (said : Said) (table : List (List ℕ)) (definitions : List Definition) (are : AreDefined said table definitions) where
  abbrev names : List (List ℕ)
  names = names_of said.written

  abbrev place : List ℕ → ℕ
  place name = number_of name names

  abbrev project : Project
  project = project_in said

  abbrev graph : List (List ℕ)
  graph = references_of definitions

  pub count : length definitions ≡ length names
  count = sym (length-map definitions entry_of) ∙ ap length are.entries ∙ length-map said.written (entry_in names table) ∙ sym (length-map said.written (λ (w : Written). w.name))

  abbrev listed_by : Written → List ℕ
  listed_by w = map place (names_in (resolved names w.body))

  graph_is : graph ≡ map listed_by said.written
  graph_is =
      ap (λ n. map (λ (d : Definition). body_places n (body_of d.body)) definitions) count
      ∙ map_alike entry_of (entry_in names table) (λ d. body_places (length names) (body_of d.body)) listed_by
      (λ d w same. body_places_are names table w.body (body_of d.body) (ap (λ (e : Entry). e.body) same)) definitions said.written are.entries

  pub name_at : (k : ℕ) (w : Written) → slice_get said.written k ≡ Some w → slice_get names k ≡ Some w.name
  name_at k w at = slice_get-map (λ (w : Written). w.name) said.written k ∙ ap (option_map (λ (w : Written). w.name)) at

  -- a name stands at one place
  pub place_at : (k : ℕ) (name : List ℕ) → slice_get names k ≡ Some name → place name ≡ k
  place_at k name at = are.apart (place name) k name (at_number names name (Contains-from_slice_get names k name at)) at

  listed_at : (k : ℕ) (w : Written) → slice_get said.written k ≡ Some w → slice_get graph k ≡ Some (listed_by w)
  listed_at k w at = ap (λ (g : List (List ℕ)). slice_get g k) graph_is ∙ slice_get-map listed_by said.written k ∙ ap (option_map listed_by) at

  pub defined_among : (name : List ℕ) → Defines project name → Contains names name
  defined_among name (d, c, e) =
      let (w, there, is) = Contains-map_cases (definition_in names) said.written d c in
      subst (λ (n : List ℕ). Contains names n) (ap (λ (x : Meant). x.name) is ∙ e) (Contains-map (λ (w : Written). w.name) said.written w there)

  pub referred_among : (name other : List ℕ) → Refers project name other → Contains names other
  referred_among name other r = defined_among other (closed said.written (symbols_of said.manifest) name other r)

  pub to_graph : (name other : List ℕ) → Refers project name other → Leads graph (place name) (place other)
  to_graph name other (d, c, e, h) =
      let (w, there, is) = Contains-map_cases (definition_in names) said.written d c in
      let (k, at) = slice_get_from_Contains said.written w there in
      let name_is : w.name ≡ name = ap (λ (x : Meant). x.name) is ∙ e in
      let at_place : place name ≡ k = place_at k name (name_at k w at ∙ ap (λ (n : List ℕ). Some n) name_is) in
      let among : Contains (names_in (resolved names w.body)) other = subst (λ (x : Meant). Contains (names_in x.body) other) (sym is) h in
      (listed_by w, subst (λ (p : ℕ). slice_get graph p ≡ Some (listed_by w)) (sym at_place) (listed_at k w at), Contains-map place (names_in (resolved names w.body)) other among)

  pub from_graph : (p q : ℕ) (name : List ℕ) → slice_get names p ≡ Some name → Leads graph p q → (other : List ℕ) × (slice_get names q ≡ Some other) × Refers project name other
  from_graph p q name at (xs, is, h) =
      let (w, there, name_is) = at_map (λ (w : Written). w.name) said.written p name at in
      let same : xs ≡ listed_by w = same_at graph p xs (listed_by w) is (listed_at p w there) in
      let (other, among, place_is) = Contains-map_cases place (names_in (resolved names w.body)) q (subst (λ (ys : List ℕ). Contains ys q) same h) in
      let refers : Refers project name other = (definition_in names w, Contains-map (definition_in names) said.written w (Contains-from_slice_get said.written p w there), name_is, among) in
      (other, subst (λ (n : ℕ). slice_get names n ≡ Some other) place_is (at_number names other (referred_among name other refers)), refers)

  reaches_to : (name other : List ℕ) → Reaches project name other → LeadsOn graph (place name) (place other)
  reaches_to name other (at_once r) = leads_once (to_graph name other r)
  reaches_to name other (further {next} r more) = leads_further (to_graph name next r) (reaches_to next other more)

  reaches_from : (p q : ℕ) (name : List ℕ) → slice_get names p ≡ Some name → LeadsOn graph p q → (other : List ℕ) × (slice_get names q ≡ Some other) × Reaches project name other
  reaches_from p q name at (leads_once r) = let (other, there, refers) = from_graph p q name at r in (other, there, at_once refers)
  reaches_from p q name at (leads_further {next} r more) =
      let (between, there, refers) = from_graph p next name at r in
      let (other, last, reaches) = reaches_from next q between there more in
      (other, last, further refers reaches)

  pub acyclic : HasNoRound graph → HasNoCycle project
  acyclic none name r = none (place name) (reaches_to name name r)

  abbrev Cyclic : Written → Fault → Type 0
  Cyclic w found = Where (Reaches project w.name w.name) (fault_of w why.Cycle) found

  pub none_cyclic : HasNoRound graph → (found : Fault) → SaidFault said cyclic found → ⊥
  none_cyclic none found h = nowhere Cyclic said.written (λ w other here. acyclic none w.name here.0) found h

  pub cycle_fault : (found : Fault) → CycleFault definitions found → SaidFault said cyclic found
  cycle_fault found c =
      let d = c.definition in
      let entries : slice_get (map (entry_in names table) said.written) c.place ≡ Some (entry_of d) =
      ap (λ (es : List Entry). slice_get es c.place) (sym are.entries) ∙ slice_get-map entry_of definitions c.place ∙ ap (option_map entry_of) c.at in
      let (w, at, same) = at_map (entry_in names table) said.written c.place (entry_of d) entries in
      let named_there = name_at c.place w at in
      let (other, there, reaches) = reaches_from c.place c.place w.name named_there c.first.itself in
      let itself : Reaches project w.name w.name = subst (λ (n : List ℕ). Reaches project w.name n) (same_Some other w.name (sym there ∙ named_there)) reaches in
      let line = ap (λ (e : Entry). e.line) same in
      let file = ap (λ (e : Entry). e.file) same in
      let is : found ≡ fault_of w why.Cycle = c.is ∙ sym (λ i. fault (file i) (line i) why.Cycle) in
      first_here Cyclic said.written c.place w found at (itself, is)
      (λ j y lower at_y other here. c.first.first j lower (subst (λ (n : ℕ). LeadsOn graph n n) (place_at j y.name (name_at j y at_y)) (reaches_to y.name y.name here.0)))
