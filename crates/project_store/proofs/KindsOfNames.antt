-- The form at the place of a definition has the kind that its name has in the project.
use Rattle.std.proofs.Common.{◌≡◌, ◌<◌, ◌≤◌, ℕ, zero, suc, Bool, true, false, cond, nat_lt, List, [], ◌∷◌, ◌++◌, length, map, take, drop, All, Contains, Some, slice_get, refl, sym, ap, subst, ◌∙◌, arith}
use Rattle.std.proofs.lemmas.Bool.Decides.{nat_tests}
use Rattle.std.proofs.lemmas.List.{length-map, length-take, take-append-drop}
use Rattle.std.proofs.lemmas.List.Elements.{All-contains_itself, All-head, All-weaker}
use Rattle.std.proofs.lemmas.Option.{slice_get-map, slice_get_past, slice_get_within}
use Rattle.std.specs.List.{flat_map}
use Rattle.std.specs.Option.{option_map}
use Rattle.fsm_base.specs.Symbols.{number_of}
use Rattle.word_relations.proofs.Places.{Contains-from_slice_get, slice_get_from_Contains, slice_get-append_left}
use Rattle.regex_ast.specs.Terms.{Term}
use Rattle.regex_ast.specs.declared.expr.Atom.{Atom}
use Rattle.regex_ast.specs.declared.expr.Atom.TheVariants.{Sym, Name}
use Rattle.expr_kinds.specs.Atoms.{kind_at, kind_told, kinds_at, leaves_at, weight_told}
use Rattle.expr_kinds.specs.Forms.{capped}
use Rattle.expr_kinds.specs.Kinds.{kind_of}
use Rattle.expr_kinds.specs.declared.form.Form.{Form}
use Rattle.name_order.specs.Graph.{Refers as Leads, Reaches as LeadsOn, at_once, further}
use Rattle.name_order.specs.Orders.{HasNoCycle as HasNoRound, IsOrder}
use Rattle.project_manifest.specs.Lines.{symbols_of}
use Rattle.project_meaning.specs.Forms.{kind_in, weight_in}
use Rattle.project_meaning.specs.Leaves.{symbols_in}
use Rattle.project_meaning.specs.Projects.{Project, names_of}
use Rattle.project_meaning.specs.Trees.{Body, xfst, lexc, twolc}
use Rattle.project_sources.specs.Sources.{Said, project_in}
use Rattle.project_definitions.specs.Bodies.{kind_of_body}
use Rattle.project_definitions.specs.Forms.{AreDefined, AreForms}
use Rattle.project_definitions.specs.Plain.{body_of}
use Rattle.project_definitions.specs.Referring.{body_places, place_in, places_in, references_of}
use Rattle.project_definitions.specs.declared.definition.Definition.{Definition}
use Rattle.project_definitions.proofs.Built.{All-front}
use Rattle.project_definitions.proofs.Forming.{kind_there}
use Rattle.project_definitions.proofs.Mapped.{mapped_kind}
use Rattle.project_definitions.proofs.Numbers.{at_number}
use Rattle.project_definitions.proofs.Referring.{count, place_at}
use Rattle.project_model.proofs.Alphabets.{put}
use Rattle.project_store.specs.Loaded.{IsLoadedFrom, LoadedView}
use Rattle.project_store.proofs.Shown.{names_differ}

-- where what stands in a front of a list stands
taken_at : (xs : List ℕ) (i q : ℕ) → Contains (take i xs) q → (j : ℕ) × (slice_get xs j ≡ Some q) × (j < i)
taken_at xs i q h =
    let (j, at) = slice_get_from_Contains (take i xs) q h in
    let within = slice_get_within (take i xs) j q at in
    let short = length-take i xs in
    (j, ap (λ (ps : List ℕ). slice_get ps j) (sym (take-append-drop i xs)) ∙ slice_get-append_left (take i xs) (drop i xs) j within ∙ at, omega (arith, within, short))

item_at : {X : Type 0} (xs : List X) (k : ℕ) → k < length xs → (x : X) × (slice_get xs k ≡ Some x)
item_at [] k less = absurd (omega (arith, less))
item_at (x ∷ xs) zero less = (x, refl)
item_at (x ∷ xs) (suc k) less = item_at xs k (omega (arith, less))

not_less : (q n : ℕ) → nat_lt q n ≡ false → n ≤ q
not_less q n test = grind (arith, nat_tests)

-- where there is an order, no place reaches itself
module _ (graph : List (List ℕ)) (order : List ℕ) (ordered : IsOrder graph order) where
  earlier : (p q k : ℕ) → slice_get order k ≡ Some p → LeadsOn graph p q → (j : ℕ) × (slice_get order j ≡ Some q) × (j < k)
  earlier p q k at (at_once r) = taken_at order k q (ordered.behind k p q at r)
  earlier p q k at (further {next} r more) =
      let (j, at_j, lower) = taken_at order k next (ordered.behind k p next at r) in
      let (i, at_i, less) = earlier next q j at_j more in
      (i, at_i, omega (arith, lower, less))

  is_place : (p q : ℕ) → LeadsOn graph p q → p < length graph
  is_place p q (at_once (below, at, h)) = slice_get_within graph p below at
  is_place p q (further (below, at, h) more) = slice_get_within graph p below at

  no_round : HasNoRound graph
  no_round p r =
      let (k, at) = slice_get_from_Contains order p ((ordered.places p).1 (is_place p p r)) in
      let (j, at_j, less) = earlier p p k at r in
      let same : j ≡ k = ordered.once j k p at_j at in
      omega (arith, less, same)

-- forms that have the kinds of definitions, by the forms of those to which these refer, have one kind at each place
module _ (definitions : List Definition) (order : List ℕ) (ordered : IsOrder (references_of definitions) order) (f g : List Form)
    (f_long : length f ≡ length definitions) (g_long : length g ≡ length definitions)
    (f_kinds : (k : ℕ) (d : Definition) → slice_get definitions k ≡ Some d → kind_at f k ≡ kind_of_body (leaves_at f) (body_of d.body))
    (g_kinds : (k : ℕ) (d : Definition) → slice_get definitions k ≡ Some d → kind_at g k ≡ kind_of_body (leaves_at g) (body_of d.body)) where
  abbrev n : ℕ
  n = length definitions

  abbrev Same : ℕ → Type 0
  Same q = kind_at f q ≡ kind_at g q

  kind_each : (a : Atom) → All Same (place_in n a) → kinds_at f a ≡ kinds_at g a
  unfolding kinds_at
  kind_each (Sym s) known = refl
  kind_each (Name q) known = by (nat_lt q n) refl known
    where
      by : (b : Bool) → nat_lt q n ≡ b → All Same (cond b (q ∷ []) []) → kind_at f q ≡ kind_at g q
      by true less held = All-head Same q [] held
      by false past held =
          let high = not_less q n past in
          ap kind_told (slice_get_past f q (omega (arith, high, f_long)) ∙ sym (slice_get_past g q (omega (arith, high, g_long))))

  term_same : (e : Term Atom) → All Same (places_in n e) → kind_of (leaves_at f) e ≡ kind_of (leaves_at g) e
  term_same e known =
      sym (mapped_kind (λ (a : Atom). a) (leaves_at f) (leaves_at g) (place_in n) Same (λ a h. sym (kind_each a h)) (λ a b h k. refl) e known)
      ∙ mapped_kind (λ (a : Atom). a) (leaves_at g) (leaves_at g) (place_in n) Same (λ a h. refl) (λ a b h k. refl) e known

  body_same : (b : Body Atom) → All Same (body_places n b) → kind_of_body (leaves_at f) b ≡ kind_of_body (leaves_at g) b
  body_same (xfst e) known = term_same e (All-front Same (places_in n e) [] known)
  body_same (lexc lexicons) known = refl
  body_same (twolc grammar) known = refl

  abbrev places_of : Definition → List ℕ
  places_of d = body_places n (body_of d.body)

  same_below : (bound i p : ℕ) → i < bound → slice_get order i ≡ Some p → Same p
  same_below zero i p less at = absurd (omega (arith, less))
  same_below (suc bound) i p less at =
      let within = (ordered.places p).0 (Contains-from_slice_get order i p at) in
      let size = length-map definitions places_of in
      let (d, at_d) = item_at definitions p (omega (arith, within, size)) in
      let known : (q : ℕ) → Contains (places_of d) q → Same q =
      λ q h. (let refers : Leads (references_of definitions) p q = (places_of d, slice_get-map places_of definitions p ∙ ap (option_map places_of) at_d, h) in
      let (j, at_j, lower) = taken_at order i q (ordered.behind i p q at refers) in
      same_below bound j q (omega (arith, lower, less)) at_j) in
      f_kinds p d at_d ∙ body_same (body_of d.body) (All-weaker (Contains (places_of d)) Same known (places_of d) (All-contains_itself (places_of d))) ∙ sym (g_kinds p d at_d)

module _ (said : Said) (table : List (List ℕ)) (definitions : List Definition) (defined : AreDefined said table definitions) (order : List ℕ) (ordered : IsOrder (references_of definitions) order) where
  abbrev names : List (List ℕ)
  names = names_of said.written

  abbrev project : Project
  project = project_in said

  -- the forms that names have
  abbrev form_of : List ℕ → Form
  form_of name = record { kind = kind_in project name; fits = true; weight = capped (weight_in project name); built = true }

  abbrev own : List Form
  own = map form_of names

  form_at : (name : List ℕ) → Contains names name → slice_get own (number_of name names) ≡ Some (form_of name)
  form_at name among = slice_get-map form_of names (number_of name names) ∙ ap (option_map form_of) (at_number names name among)

  are_forms : AreForms names project own
  are_forms = record { kinds = λ name among. ap kind_told (form_at name among); weights = λ name among. ap weight_told (form_at name among) }

  as_many : length own ≡ length definitions
  as_many = length-map names form_of ∙ sym (count said table definitions defined)

  -- forms with the kinds of what the definitions stand for have those of the names
  kind_is : (forms : List Form) → length forms ≡ length definitions → ((k : ℕ) (d : Definition) → slice_get definitions k ≡ Some d → kind_at forms k ≡ kind_of_body (leaves_at forms) (body_of d.body))
      → (place : ℕ) (name : List ℕ) → slice_get names place ≡ Some name → kind_at forms place ≡ kind_in project name
  kind_is forms long kinds place name at =
      let graph = references_of definitions in
      let own_kinds = kind_there said table definitions defined (no_round graph order ordered) own as_many are_forms in
      let within = slice_get_within names place name at in
      let many = count said table definitions defined in
      let size = length-map definitions (λ (d : Definition). body_places (length definitions) (body_of d.body)) in
      let (i, at_i) = slice_get_from_Contains order place ((ordered.places place).1 (omega (arith, within, many, size))) in
      same_below definitions order ordered forms own long as_many kinds own_kinds (suc i) i place (omega arith) at_i
      ∙ subst (λ (p : ℕ). kind_at own p ≡ kind_in project name) (place_at said table definitions defined place name at) (are_forms.kinds name (Contains-from_slice_get names place name at))

-- in a project that is loaded the form at the place of a name has the name's kind
module _ (said : Said) (loaded : LoadedView) (from : IsLoadedFrom said loaded) where
  abbrev alphabet : List (List ℕ)
  alphabet = (project_in said).alphabet

  abbrev texts : List (List ℕ)
  texts = flat_map (λ d. symbols_in d.body) (project_in said).definitions

  are_defined : AreDefined said alphabet loaded.definitions
  are_defined = record {
    entries = from.definitions;
    symbols = All-front (Contains alphabet) texts (symbols_of said.manifest) (put (texts ++ symbols_of said.manifest) []);
    apart = names_differ said loaded from;
  }

  pub form_kind : (order : List ℕ) → IsOrder (references_of loaded.definitions) order → (forms : List Form) → forms ≡ loaded.forms → (place : ℕ) (name : List ℕ) → slice_get (names_of said.written) place ≡ Some name
      → (form : Form) → slice_get forms place ≡ Some form → form.kind ≡ kind_in (project_in said) name
  form_kind order ordered forms same place name at form form_at =
      let have = from.plan.forms in
      ap kind_told (sym form_at ∙ ap (λ (fs : List Form). slice_get fs place) same)
      ∙ kind_is said alphabet loaded.definitions are_defined order ordered loaded.forms have.count have.kinds place name at
