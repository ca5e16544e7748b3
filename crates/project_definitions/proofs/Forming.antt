-- The forms of definitions are told in an order in which each stands behind those that it refers to.
use Rattle.std.proofs.Common.{◌≡◌, ◌+◌, ◌<◌, ◌≤◌, ℕ, zero, suc, Bool, true, false, cond, List, [], ◌∷◌, length, map, get_or, take, drop, Contains, Some, None, slice_get, refl, sym, ap, subst, ◌∙◌, inl, inr, arith}
use Rattle.std.proofs.Math.ListN.{set}
use Rattle.std.proofs.lemmas.List.{length-map, length-take, take-append-drop, take_all, take_more}
use Rattle.std.proofs.lemmas.List.Elements.{Contains-get_or, Contains-push_cases}
use Rattle.std.proofs.lemmas.Option.{slice_get-get_or, slice_get-map, slice_get_within, same_Some}
use Rattle.std.proofs.lemmas.Slice.Eq.{bytes_eq-Decides}
use Rattle.std.specs.Option.{option_map}
use Rattle.std.specs.Str.{bytes_eq}
use Rattle.fsm_base.specs.Symbols.{number_of}
use Rattle.word_relations.specs.Words.{IsDistinct}
use Rattle.word_relations.proofs.Members.{Contains-map}
use Rattle.word_relations.proofs.Places.{Contains-from_slice_get, slice_get_from_Contains, slice_get-append_left, slice_get-set_other, slice_get-set_same}
use Rattle.expr_kinds.specs.Atoms.{kind_at, kind_told, leaves_at, weight_told, weights_at}
use Rattle.expr_kinds.specs.Forms.{capped}
use Rattle.expr_kinds.specs.declared.form.Form.{Form}
use Rattle.grammar_weights.specs.Weights.{is_same_symbol}
use Rattle.name_order.specs.Graph.{Refers as Leads}
use Rattle.name_order.specs.Orders.{HasNoCycle as HasNoRound, IsOrder}
use Rattle.project_meaning.specs.Forms.{definition_of, found_kind, found_weight, kind_in, weight_in}
use Rattle.project_meaning.specs.Leaves.{names_in, resolved, symbols_in}
use Rattle.project_meaning.specs.Projects.{Definition as Meant, Written, Refers, definition_in, names_of}
use Rattle.project_meaning.proofs.Closed.{closed}
use Rattle.project_meaning.proofs.Forms.{kinds_unfold, weights_unfold}
use Rattle.project_manifest.specs.Lines.{symbols_of}
use Rattle.project_sources.specs.Sources.{Said, project_in}
use Rattle.project_definitions.specs.Forms.{AreDefined, AreForms}
use Rattle.project_definitions.specs.Bodies.{kind_of_body, weight_of_body}
use Rattle.project_definitions.specs.Plain.{body_of}
use Rattle.project_definitions.specs.Referring.{body_places, references_of}
use Rattle.project_definitions.specs.Entries.{Entry, entry_of, entry_in}
use Rattle.project_definitions.specs.declared.definition.Definition.{Definition}
use Rattle.project_definitions.proofs.Numbers.{at_number, number_within}
use Rattle.project_definitions.proofs.Demanded.{held_each}
use Rattle.project_definitions.proofs.Referring.{acyclic, at_map, count, name_at, place_at, referred_among, to_graph}
use Rattle.project_definitions.proofs.Told.{IsTold, told_kind, told_weight}

-- the definition at a place is that of its name, where names are apart
definition_is : (ds : List Meant) (k : ℕ) (d : Meant) → IsDistinct (map (λ (x : Meant). x.name) ds) → slice_get ds k ≡ Some d → definition_of ds d.name ≡ Some d
definition_is [] k d apart at = let never : None ≡ Some d = at in absurd (cc)
definition_is (x ∷ ds) zero d apart at =
    let is : x ≡ d = same_Some x d at in
    let same : bytes_eq x.name d.name ≡ true = (bytes_eq-Decides x.name d.name).1 (ap (λ (y : Meant). y.name) is) in
    ap (λ (b : Bool). cond b (Some x) (definition_of ds d.name)) same ∙ ap (λ (y : Meant). Some y) is
definition_is (x ∷ ds) (suc k) d apart at =
    by (bytes_eq x.name d.name) refl (definition_is ds k d (λ i j n h g. let same = apart (suc i) (suc j) n h g in omega (arith, same)) at)
  where
    there : slice_get (map (λ (y : Meant). y.name) ds) k ≡ Some d.name
    there = slice_get-map (λ (y : Meant). y.name) ds k ∙ ap (option_map (λ (y : Meant). y.name)) at

    by : (b : Bool) → bytes_eq x.name d.name ≡ b → definition_of ds d.name ≡ Some d → cond b (Some x) (definition_of ds d.name) ≡ Some d
    by true same later =
        let is : x.name ≡ d.name = (bytes_eq-Decides x.name d.name).0 same in
        let never = apart 0 (suc k) d.name (ap (λ (n : List ℕ). Some n) is) there in
        absurd (omega (arith, never))
    by false other later = later

-- where what stands in a front of a list stands
taken_at : (xs : List ℕ) (i q : ℕ) → Contains (take i xs) q → (j : ℕ) × (slice_get xs j ≡ Some q) × (j < i)
taken_at xs i q h =
    let (j, at) = slice_get_from_Contains (take i xs) q h in
    let within = slice_get_within (take i xs) j q at in
    let short = length-take i xs in
    (j, ap (λ (ps : List ℕ). slice_get ps j) (sym (take-append-drop i xs)) ∙ slice_get-append_left (take i xs) (drop i xs) j within ∙ at, omega (arith, within, short))

-- the names at these places are told
abbrev pub AreTold : Said → List ℕ → List Form → Type 0
AreTold said places forms =
    (name : List ℕ) → Contains (names_of said.written) name → Contains places (number_of name (names_of said.written)) → IsTold (names_of said.written) (project_in said) forms name

module _ (said : Said) (table : List (List ℕ)) (definitions : List Definition) (are : AreDefined said table definitions) where
  abbrev names : List (List ℕ)
  names = names_of said.written

  abbrev place : List ℕ → ℕ
  place name = number_of name names

  meant_at : (k : ℕ) (w : Written) → slice_get said.written k ≡ Some w → definition_of (project_in said).definitions w.name ≡ Some (definition_in names w)
  meant_at k w at =
      definition_is (project_in said).definitions k (definition_in names w)
      (subst IsDistinct (sym names_kept) are.apart) (slice_get-map (definition_in names) said.written k ∙ ap (option_map (definition_in names)) at)
    where
      names_kept : map (λ (x : Meant). x.name) (project_in said).definitions ≡ names
      names_kept = kept said.written
        where
          kept : (ws : List Written) → map (λ (x : Meant). x.name) (map (definition_in names) ws) ≡ map (λ (w : Written). w.name) ws
          kept [] = refl
          kept (w ∷ ws) = ap (λ (z : List (List ℕ)). w.name ∷ z) (kept ws)

  -- the form at the place of a definition has the kind of its expression
  pub kind_there : HasNoRound (references_of definitions) → (forms : List Form) → length forms ≡ length definitions → AreForms names (project_in said) forms
      → (k : ℕ) (d : Definition) → slice_get definitions k ≡ Some d → kind_at forms k ≡ kind_of_body (leaves_at forms) (body_of d.body)
  kind_there rounds forms few all k d at =
      let entries : slice_get (map (entry_in names table) said.written) k ≡ Some (entry_of d) =
      ap (λ (es : List Entry). slice_get es k) (sym are.entries) ∙ slice_get-map entry_of definitions k ∙ ap (option_map entry_of) at in
      let (w, at_w, same) = at_map (entry_in names table) said.written k (entry_of d) entries in
      let there = Contains-map (definition_in names) said.written w (Contains-from_slice_get said.written k w at_w) in
      let named_there = name_at said table definitions are k w at_w in
      let numbered_by = ap (λ (e : Entry). e.body) (sym same) in
      let held = held_each (Contains table) (λ (x : Meant). symbols_in x.body) (project_in said).definitions are.symbols (definition_in names w) there in
      let told : (other : List ℕ) → Contains (names_in (resolved names w.body)) other → IsTold names (project_in said) forms other =
      λ other h. (let among = referred_among said table definitions are w.name other (definition_in names w, there, refl, h) in
      record { among = among; kind = all.kinds other among; weight = all.weights other among }) in
      let many = few ∙ count said table definitions are in
      subst (λ (p : ℕ). kind_at forms p ≡ kind_in (project_in said) w.name) (place_at said table definitions are k w.name named_there) (all.kinds w.name (Contains-from_slice_get names k w.name named_there))
      ∙ kinds_unfold (project_in said) (acyclic said table definitions are rounds) (closed said.written (symbols_of said.manifest)) w.name
      ∙ ap (found_kind (kind_in (project_in said))) (meant_at k w at_w)
      ∙ sym (told_kind names table (project_in said) forms many d.body (resolved names w.body) numbered_by held told)

  module _ (order : List ℕ) (ordered : IsOrder (references_of definitions) order) (rounds : HasNoRound (references_of definitions)) where
    module _ (forms : List Form) (few : length forms ≡ length definitions) (i : ℕ) (inside : i < length order) (d : Definition) (at : slice_get definitions (get_or order i 0) ≡ Some d) (form : Form)
        (kind : form.kind ≡ kind_of_body (leaves_at forms) (body_of d.body)) (weight : form.weight ≡ capped (weight_of_body (weights_at forms) is_same_symbol (body_of d.body)))
        (so_far : AreTold said (take i order) forms) where
      abbrev here : ℕ
      here = get_or order i 0

      abbrev after : List Form
      after = set forms here form

      here_at : slice_get order i ≡ Some here
      here_at = slice_get-get_or order i 0 inside

      here_within : here < length forms
      here_within =
          let within = (ordered.places here).0 (Contains-get_or order i 0 inside) in
          let size = length-map definitions (λ (d : Definition). body_places (length definitions) (body_of d.body)) in
          omega (arith, within, size, few)

      -- what was told stays
      not_here : (p : ℕ) → Contains (take i order) p → p ≡ here → ⊥
      not_here p h same =
          let (j, at_j, lower) = taken_at order i p h in
          let is = ordered.once j i here (at_j ∙ ap (λ (q : ℕ). Some q) same) here_at in
          omega (arith, is, lower)

      stays : (name : List ℕ) → Contains (take i order) (place name) → IsTold names (project_in said) forms name → IsTold names (project_in said) after name
      stays name h told =
          let apart = not_here (place name) h in
          let same = slice_get-set_other forms here (place name) form apart in
          record { among = told.among; kind = ap kind_told same ∙ told.kind; weight = ap weight_told same ∙ told.weight }

      -- the definition here is that of its name
      pub told_here : (name : List ℕ) → Contains names name → place name ≡ here → IsTold names (project_in said) after name
      told_here name among place_is =
          let entries : slice_get (map (entry_in names table) said.written) here ≡ Some (entry_of d) =
          ap (λ (es : List Entry). slice_get es here) (sym are.entries) ∙ slice_get-map entry_of definitions here ∙ ap (option_map entry_of) at in
          let (w, at_w, same) = at_map (entry_in names table) said.written here (entry_of d) entries in
          let name_is : w.name ≡ name = same_Some w.name name (sym (name_at said table definitions are here w at_w) ∙ subst (λ (p : ℕ). slice_get names p ≡ Some name) place_is (at_number names name among)) in
          let numbered_by = ap (λ (e : Entry). e.body) (sym same) in
          let held = held_each (Contains table) (λ (x : Meant). symbols_in x.body) (project_in said).definitions are.symbols (definition_in names w)
          (Contains-map (definition_in names) said.written w (Contains-from_slice_get said.written here w at_w)) in
          let referred : (other : List ℕ) → Contains (names_in (resolved names w.body)) other → Refers (project_in said) name other =
          λ other h. (definition_in names w, Contains-map (definition_in names) said.written w (Contains-from_slice_get said.written here w at_w), name_is, h) in
          let told : (other : List ℕ) → Contains (names_in (resolved names w.body)) other → IsTold names (project_in said) forms other =
          λ other h. so_far other (referred_among said table definitions are name other (referred other h))
          (ordered.behind i here (place other) here_at (subst (λ (p : ℕ). Leads (references_of definitions) p (place other)) place_is (to_graph said table definitions are name other (referred other h)))) in
          let project_acyclic = acyclic said table definitions are rounds in
          let project_closed = closed said.written (symbols_of said.manifest) in
          let found : definition_of (project_in said).definitions name ≡ Some (definition_in names w) = subst (λ (n : List ℕ). definition_of (project_in said).definitions n ≡ Some (definition_in names w)) name_is (meant_at here w at_w) in
          let formed : slice_get after (place name) ≡ Some form = subst (λ (p : ℕ). slice_get after p ≡ Some form) (sym place_is) (slice_get-set_same forms here form here_within) in
          let many = few ∙ count said table definitions are in
          record {
            among = among;
            kind = ap kind_told formed ∙ kind
                ∙ told_kind names table (project_in said) forms many d.body (resolved names w.body) numbered_by held told
                ∙ sym (kinds_unfold (project_in said) project_acyclic project_closed name ∙ ap (found_kind (kind_in (project_in said))) found);
            weight = ap weight_told formed ∙ weight
                ∙ told_weight names table (project_in said) forms many d.body w.body numbered_by held told
                ∙ ap capped (sym (weights_unfold (project_in said) project_acyclic project_closed name ∙ ap (found_weight (weight_in (project_in said))) found));
          }

      pub told_more : AreTold said (take (i + 1) order) after
      told_more name among h =
          elim (Contains-push_cases (take i order) here (place name) (subst (λ (ps : List ℕ). Contains ps (place name)) (take_more order i 0 inside) h)) as (λ _. IsTold names (project_in said) after name) [
            | inl old ↦ stays name old (so_far name among old)
            | inr same ↦ told_here name among (sym same)
          ]

    -- at the end all are told
    pub forms_are : (forms : List Form) (i : ℕ) → length order ≤ i → AreTold said (take i order) forms → AreForms names (project_in said) forms
    forms_are forms i past told = record { kinds = λ name among. (all name among).kind; weights = λ name among. (all name among).weight }
      where
        all : (name : List ℕ) → Contains names name → IsTold names (project_in said) forms name
        all name among =
            let within = number_within names name among in
            let size = length-map definitions (λ (d : Definition). body_places (length definitions) (body_of d.body)) in
            let many = count said table definitions are in
            told name among (subst (λ (ps : List ℕ). Contains ps (place name)) (sym (take_all i order past)) ((ordered.places (place name)).1 (omega (arith, within, size, many))))
