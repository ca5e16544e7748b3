-- Which definitions of a loaded project have an empty centre, as they are tried in order; and the first fault that this is.
use Rattle.std.proofs.Common.{◌≡◌, ◌<◌, ◌≤◌, ◌+◌, ◌++◌, ◌⊎◌, ℕ, zero, suc, Bool, true, false, List, [], ◌∷◌, length, length-take-le, take, take-take, get_or, get_or-take, All, Contains, Option, Some, None, Ok, Err, slice_get, refl, sym, ap, subst, ◌∙◌, inl, inr, arith}
use Rattle.std.proofs.Math.ListN.{replicate, set}
use Rattle.std.proofs.lemmas.Bool.{cases_eq, cases_lt}
use Rattle.std.proofs.lemmas.List.{length-map, length-replicate, length-set, map-append, take_all, take_more}
use Rattle.std.proofs.lemmas.List.Elements.{All-append, All-cons, All-contains, All-contains_itself, All-nil, All-weaker, Contains-append_left, Contains-get_or, Contains-push_cases}
use Rattle.std.proofs.lemmas.Option.{slice_get-get_or, slice_get-map, slice_get_within, same_Some}
use Rattle.std.specs.Borrow.{Bor}
use Rattle.std.specs.List.{flat_map}
use Rattle.std.specs.Option.{option_map}
use Rattle.word_relations.proofs.Members.{Contains-nil_cases, Contains-head, Contains-map, Contains-tail}
use Rattle.word_relations.proofs.Places.{slice_get_from_Contains, slice_get-set_other, slice_get-set_same}
use Rattle.fsm_base.specs.Symbols.{number_of}
use Rattle.fsm_io.specs.Folders.{Files}
use Rattle.regex_ast.specs.declared.expr.Atom.{Atom}
use Rattle.regex_ast.specs.declared.expr.Atom.TheVariants.{Sym, Name}
use Rattle.regex_ast.specs.declared.fault.Fault.{Fault}
use Rattle.regex_ast.specs.declared.fault.Why.TheVariants as why
use Rattle.expr_leaves.specs.Leaves.{seen}
use Rattle.name_order.specs.Graph.{Refers as Leads}
use Rattle.name_order.specs.Orders.{IsOrder}
use Rattle.network_algebra.specs.declared.network.Network.{Network}
use Rattle.project_meaning.specs.Centres.{HasEmptyCentre, HasOwnEmptyCentre}
use Rattle.project_meaning.specs.Leaves.{expressions_of, symbols_in}
use Rattle.project_meaning.specs.Projects.{Refers, Reaches, at_once, further, Written, names_of}
use Rattle.project_sources.specs.Faults.{fault, fault_of, read_rows, rows, FirstFault}
use Rattle.project_sources.specs.Laws.{all_readers}
use Rattle.project_manifest.specs.Lines.{symbols_of as further_symbols}
use Rattle.project_manifest.specs.Rows.{First, Where}
use Rattle.project_sources.specs.Sources.{FilesSay, Said, project_in, resolved_in}
use Rattle.project_sources.proofs.Once.{files_say_one, all_exact}
use Rattle.project_sources.proofs.Sound.{centres_come_last}
use Rattle.project_definitions.specs.Forms.{AreDefined}
use Rattle.project_definitions.specs.Plain.{body_of}
use Rattle.project_definitions.specs.Referring.{body_places, references_of}
use Rattle.project_definitions.specs.Entries.{Entry, entry_in, entry_of}
use Rattle.project_definitions.specs.declared.definition.Definition.{Definition}
use Rattle.project_definitions.proofs.Numbers.{at_number}
use Rattle.project_model.proofs.Alphabets.{put}
use Rattle.project_definitions.proofs.Referring.{at_map, count, first_here, from_graph, name_at, place_at, references_whole, referred_among, to_graph}
use Rattle.project_store.specs.Building.{AreBuilt, HasParts, IsBuiltAt, IsThere, expression_leaves}
use Rattle.project_store.specs.Centres.{AreClear, AreFree, AreTried, CentresAreBuilt, HasNoCentre, HasNoEmptyCentre, HasNoNetwork, HasNoOwn, HasNone, IsBarred, IsCentreError, IsFirstEmpty, IsFirstMark, IsFree, IsOutcome, OfPlace, body_centres, with_empty, with_network}
use Rattle.project_store.specs.Loaded.{IsLoadedFrom, LoadedView}
use Rattle.project_store.specs.Sharing.{StayThere}
use Rattle.project_store.specs.Projects.{IsOfSources, IsRead, IsWhyNot, Reads}
use Rattle.project_store.specs.declared.centres.Outcome.{Outcome}
use Rattle.project_store.specs.declared.centres.Outcome.TheVariants.{Built, EmptyCentre, Behind, Stands}
use Rattle.project_store.specs.declared.store_error.StoreError.{StoreError}
use Rattle.project_store.specs.declared.store_error.StoreError.TheVariants.{Memory, Refused}
use Rattle.project_store.proofs.Bodies.{referred_name}
use Rattle.project_store.proofs.Networks.{named_at, network_put, replicate_same}
use Rattle.project_store.proofs.Shown.{names_differ, no_own_centre}

-- what stands at a place within a list
there_at : {X : Type 0} (xs : List X) (k : ℕ) → k < length xs → (x : X) × (slice_get xs k ≡ Some x)
there_at [] k below = absurd (omega (arith, below))
there_at (x ∷ xs) zero below = (x, refl)
there_at (x ∷ xs) (suc k) below = there_at xs k (omega (arith, below))

-- what stands in a front of a list
take_has : {X : Type 0} (n : ℕ) (xs : List X) (k : ℕ) (x : X) → k < n → slice_get xs k ≡ Some x → Contains (take n xs) x
take_has n [] k x less at = let no : None ≡ Some x = at in absurd (cc)
take_has zero (y ∷ xs) k x less at = absurd (omega (arith, less))
take_has (suc n) (y ∷ xs) zero x less at = subst (Contains (y ∷ take n xs)) (same_Some y x at) (Contains-head y (take n xs))
take_has (suc n) (y ∷ xs) (suc k) x less at = Contains-tail y (take n xs) x (take_has n xs k x (omega (arith, less)) at)

-- none of items has anything
none_at : {A F : Type 0} (Has : A → F → Type 0) (xs : List A) → ((k : ℕ) (x : A) → slice_get xs k ≡ Some x → (other : F) → Has x other → ⊥) → (found : F) → First Has xs found → ⊥
none_at Has [] none found h = h
none_at Has (x ∷ xs) none found h = elim h as (λ _. ⊥) [
  | inl here ↦ none 0 x refl found here
  | inr later ↦ none_at Has xs (λ k y at. none (suc k) y at) found later.1
]

front_of_all : {X : Type 0} (P : X → Type 0) (xs ys : List X) → All P (xs ++ ys) → (x : X) → Contains xs x → P x
front_of_all P xs ys all x among = All-contains P (xs ++ ys) x all (Contains-append_left xs ys x among)

-- the project from which this was loaded
module _ (said : Said) (loaded : LoadedView) (from : IsLoadedFrom said loaded) where
  abbrev names : List (List ℕ)
  names = names_of said.written

  abbrev table : List (List ℕ)
  table = (project_in said).alphabet

  abbrev texts : List (List ℕ)
  texts = flat_map (λ d. symbols_in d.body) (project_in said).definitions

  defined : AreDefined said table loaded.definitions
  defined = record {
    entries = from.definitions;
    symbols =
        All-weaker (Contains texts) (Contains table)
        (λ text among. front_of_all (Contains table) texts (further_symbols said.manifest) (put (texts ++ further_symbols said.manifest) []) text among) texts (All-contains_itself texts);
    apart = names_differ said loaded from;
  }

  -- there are as many definitions as were said
  pub as_many : length loaded.definitions ≡ length said.written
  as_many = count said table loaded.definitions defined ∙ length-map said.written (λ (w : Written). w.name)

  -- a reference by names is one by places
  refers_there : (place : ℕ) (name other : List ℕ) → slice_get names place ≡ Some name → Refers (project_in said) name other
      → (q : ℕ) × Leads (references_of loaded.definitions) place q × (slice_get names q ≡ Some other)
  refers_there place name other at refers =
      let graph = references_of loaded.definitions in
      let leads = to_graph said table loaded.definitions defined name other refers in (
        number_of other names,
        subst (λ (p : ℕ). Leads graph p (number_of other names)) (place_at said table loaded.definitions defined place name at) leads,
        at_number names other (referred_among said table loaded.definitions defined name other refers),
      )

  -- what refers to definitions that are free of empty centres reaches none
  none_reached : (built : List (Option Network)) → AreFree loaded built → (place : ℕ) → HasParts loaded built place → (name : List ℕ) → slice_get names place ≡ Some name
      → (other : List ℕ) → Reaches (project_in said) name other → HasOwnEmptyCentre (project_in said) other → ⊥
  none_reached built are place parts name at other (at_once refers) own =
      let (q, leads, there) = refers_there place name other at refers in
      let (n, at_q) = parts q leads in
      are.free q n at_q said from other there (inl own)
  none_reached built are place parts name at other (further {next} refers more) own =
      let (q, leads, there) = refers_there place name next at refers in
      let (n, at_q) = parts q leads in
      are.free q n at_q said from next there (inr (other, more, own))

  -- what refers to a definition that has or reaches an own empty centre reaches one
  barred_reached : (place q : ℕ) → Leads (references_of loaded.definitions) place q → OfPlace loaded q IsBarred → (name : List ℕ) → slice_get names place ≡ Some name
      → (other : List ℕ) × Reaches (project_in said) name other × HasOwnEmptyCentre (project_in said) other
  barred_reached place q leads barred name at =
      let (next, there, refers) = from_graph said table loaded.definitions defined place q name at leads in
      elim (barred said from next there) as (λ _. (other : List ℕ) × Reaches (project_in said) name other × HasOwnEmptyCentre (project_in said) other) [
        | inl own ↦ (next, at_once refers, own)
        | inr (other, reaches, own) ↦ (other, further refers reaches, own)
      ]

  -- a definition without centres has no empty one
  pub plain_has_none : (place : ℕ) → HasNoCentre loaded place → (name : List ℕ) → slice_get names place ≡ Some name → HasEmptyCentre (project_in said) name → ⊥
  plain_has_none place plain name at has =
      let inside = slice_get_within names place name at in
      let many = count said table loaded.definitions defined in
      let (d, d_at) = there_at loaded.definitions place (omega (arith, inside, many)) in
      no_own_centre said loaded from place d d_at (plain d d_at) name at has.0

  -- what was said at the place of a definition
  pub said_at : (place : ℕ) (d : Definition) → slice_get loaded.definitions place ≡ Some d → (w : Written) × (slice_get said.written place ≡ Some w) × (entry_in names table w ≡ entry_of d)
  said_at place d at =
      at_map (entry_in names table) said.written place (entry_of d)
      (ap (λ (es : List Entry). slice_get es place) (sym from.definitions) ∙ slice_get-map entry_of loaded.definitions place ∙ ap (option_map entry_of) at)

  pub named_by : (place : ℕ) (w : Written) → slice_get said.written place ≡ Some w → slice_get names place ≡ Some w.name
  named_by place w at = name_at said table loaded.definitions defined place w at

  pub within_said : (place : ℕ) (w : Written) → slice_get said.written place ≡ Some w → place < length loaded.definitions
  within_said place w at = let inside = slice_get_within said.written place w at in let many = as_many in omega (arith, inside, many)

-- of what a definition refers to, by the names in its expression
module _ (loaded : LoadedView) (built : List (Option Network)) (are : AreBuilt loaded built) (place : ℕ) (d : Definition) (at : slice_get loaded.definitions place ≡ Some d) where
  -- a name that has no network is referred to
  pub behind_one : (leaf : Atom) → Contains (expression_leaves (body_of d.body)) leaf → HasNoNetwork built leaf → (other : ℕ) × Leads (references_of loaded.definitions) place other × (slice_get built other ≡ Some None)
  behind_one (Sym s) stood none = absurd none
  behind_one (Name p) stood none =
      let inside = slice_get_within built p None none in
      let many = are.count in
      (p, named_at loaded.definitions place d at p stood (omega (arith, inside, many)), none)

  -- what is referred to stands in an expression
  stands_in : (q : ℕ) → Leads (references_of loaded.definitions) place q → Contains (expression_leaves (body_of d.body)) (Name q)
  stands_in q (below, is, h) =
      let n = length loaded.definitions in
      let here = slice_get-map (λ (x : Definition). body_places n (body_of x.body)) loaded.definitions place ∙ ap (option_map (λ (x : Definition). body_places n (body_of x.body))) at in
      let same : below ≡ body_places n (body_of d.body) = same_Some below (body_places n (body_of d.body)) (sym is ∙ here) in
      referred_name n (expressions_of (body_of d.body)) q (subst (λ (ps : List ℕ). Contains ps q) same h)

  -- where no name is without network, each definition that is referred to has one
  pub none_behind : All (λ leaf. HasNoNetwork built leaf → ⊥) (expression_leaves (body_of d.body)) → HasParts loaded built place
  none_behind none q leads =
      let below = references_whole loaded.definitions place q leads in
      let size = length-map loaded.definitions (λ (x : Definition). body_places (length loaded.definitions) (body_of x.body)) in
      let many = are.count in
      let (o, there) = there_at built q (omega (arith, below, size, many)) in
      by o there (All-contains (λ leaf. HasNoNetwork built leaf → ⊥) (expression_leaves (body_of d.body)) (Name q) none (stands_in q leads))
    where
      by : (o : Option Network) → slice_get built q ≡ Some o → (slice_get built q ≡ Some None → ⊥) → IsThere built q
      by None there has = absurd (has there)
      by (Some n) there has = (n, there)

-- what comes of a definition whose references have their networks
module _ (loaded : LoadedView) (built : List (Option Network)) (are : AreFree loaded built) (place : ℕ) (parts : HasParts loaded built place) where
  pub is_free : OfPlace loaded place HasNoOwn → OfPlace loaded place IsFree
  is_free none said from name at barred = elim barred as (λ _. ⊥) [
    | inl own ↦ none said from name at own
    | inr (other, reaches, own) ↦ none_reached said loaded from built are place parts name at other reaches own
  ]

  pub is_empty : OfPlace loaded place HasOwnEmptyCentre → OfPlace loaded place HasEmptyCentre
  is_empty own said from name at = (own said from name at, λ other reaches h. none_reached said loaded from built are place parts name at other reaches h)

-- what came of the definitions at these places, where some networks were there first
pub record TriedSoFar (loaded : LoadedView) (first : List (Option Network)) (done : List ℕ) (built : List (Option Network)) (marks : List Bool) : Type 0 where
  pub are : AreFree loaded built
  pub stay : StayThere first built
  pub count : length marks ≡ length loaded.definitions
  pub empty : (place : ℕ) → slice_get marks place ≡ Some true → OfPlace loaded place HasEmptyCentre
  pub none : (place : ℕ) → Contains done place → slice_get marks place ≡ Some false → OfPlace loaded place HasNone
  pub barred : (place : ℕ) → Contains done place → slice_get built place ≡ Some None → OfPlace loaded place IsBarred
  pub why : (place : ℕ) → Contains done place → slice_get built place ≡ Some None → (p : ℕ) × (slice_get marks p ≡ Some true)

clash_network : (n : Network) → ◌≡◌ {A = Option (Option Network)} (Some None) (Some (Some n)) → ⊥
clash_network n e = cc

clash_mark : ◌≡◌ {A = Option Bool} (Some true) (Some false) → ⊥
clash_mark e = cc

-- none so far
pub tried_none : (loaded : LoadedView) (first built : List (Option Network)) (marks : List Bool) → AreFree loaded first → built ≡ first → marks ≡ replicate (length first) false → TriedSoFar loaded first [] built marks
tried_none loaded first built marks free same is = record {
  are = subst (AreFree loaded) (sym same) free;
  stay = λ p n at. ap (λ (nets : List (Option Network)). slice_get nets p) same ∙ at;
  count = ap length is ∙ length-replicate (length first) false ∙ free.are.count;
  empty = λ p at. absurd (clash_mark (ap (λ (b : Bool). Some b) (sym (replicate_same (length first) false p true (ap (λ (bs : List Bool). slice_get bs p) (sym is) ∙ at)))));
  none = λ p h. absurd (Contains-nil_cases p h);
  barred = λ p h. absurd (Contains-nil_cases p h);
  why = λ p h. absurd (Contains-nil_cases p h);
}

-- no network is free of empty centres
pub none_free : (loaded : LoadedView) (built : List (Option Network)) → length built ≡ length loaded.definitions → ((place : ℕ) → place < length loaded.definitions → slice_get built place ≡ Some None) → AreFree loaded built
none_free loaded built size none = record {
  are = record { count = size; each = λ p n at. absurd (nothing p n at) };
  free = λ p n at. absurd (nothing p n at);
}
  where
    nothing : (p : ℕ) (n : Network) → slice_get built p ≡ Some (Some n) → ⊥
    nothing p n at =
        let inside = slice_get_within built p (Some n) at in
        clash_network n (sym (none p (omega (arith, inside, size))) ∙ at)

-- the definition at a place more
module _ (loaded : LoadedView) (first : List (Option Network)) (done : List ℕ) (built : List (Option Network)) (marks : List Bool) (so_far : TriedSoFar loaded first done built marks) (place : ℕ) (within : place < length loaded.definitions)
    (behind : (other : ℕ) → Leads (references_of loaded.definitions) place other → Contains done other) where
  abbrev more : List ℕ
  more = done ++ place ∷ []

  inside_built : place < length built
  inside_built = let many = so_far.are.are.count in omega (arith, within, many)

  inside_empty : place < length marks
  inside_empty = let many = so_far.count in omega (arith, within, many)

  others : (p : ℕ) → (p ≡ place → ⊥) → Contains more p → Contains done p
  others p apart h = elim (Contains-push_cases done place p h) as (λ _. Contains done p) [ inl old ↦ old | inr same ↦ absurd (apart (sym same)) ]

  here_or : (P : ℕ → Type 0) → P place → (p : ℕ) → ((p ≡ place → ⊥) → P p) → P p
  here_or P here p there = elim (cases_eq p place) as (λ _. P p) [ inl same ↦ subst P (sym same) here | inr apart ↦ there apart ]

  put_built : (n : Network) → IsBuiltAt loaded place n → OfPlace loaded place IsFree → slice_get built place ≡ Some None → TriedSoFar loaded first more (set built place (Some n)) marks
  put_built n good free lacking = record {
    stay = λ p m at. elim (cases_eq p place) as (λ _. slice_get (set built place (Some n)) p ≡ Some (Some m)) [
      | inl same ↦ absurd (clash_network m (sym lacking ∙ subst (λ (k : ℕ). slice_get built k ≡ Some (Some m)) same (so_far.stay p m at)))
      | inr apart ↦ slice_get-set_other built place p (Some n) apart ∙ so_far.stay p m at
    ];
    are = record {
      are = network_put loaded built place n inside_built so_far.are.are good;
      free = λ p m at. elim (cases_eq p place) as (λ _. OfPlace loaded p IsFree) [
        | inl same ↦ subst (λ (k : ℕ). OfPlace loaded k IsFree) (sym same) free
        | inr apart ↦ so_far.are.free p m (sym (slice_get-set_other built place p (Some n) apart) ∙ at)
      ];
    };
    count = so_far.count;
    empty = so_far.empty;
    none = λ p h at. elim (cases_eq p place) as (λ _. OfPlace loaded p HasNone) [
      | inl same ↦ subst (λ (k : ℕ). OfPlace loaded k HasNone) (sym same) (λ said from name name_at has. free said from name name_at (inl has.0))
      | inr apart ↦ so_far.none p (others p apart h) at
    ];
    barred = λ p h at. so_far.barred p (others p (filled p at) h) (old p (filled p at) at);
    why = λ p h at. so_far.why p (others p (filled p at) h) (old p (filled p at) at);
  }
    where
      filled : (p : ℕ) → slice_get (set built place (Some n)) p ≡ Some None → p ≡ place → ⊥
      filled p at same = clash_network n (sym (subst (λ (k : ℕ). slice_get (set built place (Some n)) k ≡ Some None) same at) ∙ slice_get-set_same built place (Some n) inside_built)

      old : (p : ℕ) → (p ≡ place → ⊥) → slice_get (set built place (Some n)) p ≡ Some None → slice_get built p ≡ Some None
      old p apart at = sym (slice_get-set_other built place p (Some n) apart) ∙ at

  put_empty : OfPlace loaded place HasEmptyCentre → TriedSoFar loaded first more built (set marks place true)
  put_empty is = record {
    are = so_far.are;
    stay = so_far.stay;
    count = length-set marks place true ∙ so_far.count;
    empty = λ p at. here_or (λ k. OfPlace loaded k HasEmptyCentre) is p (λ apart. so_far.empty p (sym (slice_get-set_other marks place p true apart) ∙ at));
    none = λ p h at. elim (cases_eq p place) as (λ _. OfPlace loaded p HasNone) [
      | inl same ↦ absurd (clash_mark (sym (slice_get-set_same marks place true inside_empty) ∙ subst (λ (k : ℕ). slice_get (set marks place true) k ≡ Some false) same at))
      | inr apart ↦ so_far.none p (others p apart h) (sym (slice_get-set_other marks place p true apart) ∙ at)
    ];
    barred = λ p h at. here_or (λ k. OfPlace loaded k IsBarred) (λ said from name name_at. inl (is said from name name_at).0) p (λ apart. so_far.barred p (others p apart h) at);
    why = λ p h at. (place, slice_get-set_same marks place true inside_empty);
  }

  put_behind : (other : ℕ) → Leads (references_of loaded.definitions) place other → slice_get built other ≡ Some None → TriedSoFar loaded first more built marks
  put_behind other leads nothing = record {
    are = so_far.are;
    stay = so_far.stay;
    count = so_far.count;
    empty = so_far.empty;
    none = λ p h at. here_or (λ k. OfPlace loaded k HasNone) (λ said from name name_at has. (let (far, reaches, own) = reached said from name name_at in has.1 far reaches own)) p (λ apart. so_far.none p (others p apart h) at);
    barred = λ p h at. here_or (λ k. OfPlace loaded k IsBarred) (λ said from name name_at. inr (reached said from name name_at)) p (λ apart. so_far.barred p (others p apart h) at);
    why = λ p h at. elim (cases_eq p place) as (λ _. (q : ℕ) × (slice_get marks q ≡ Some true)) [
      | inl same ↦ so_far.why other (behind other leads) nothing
      | inr apart ↦ so_far.why p (others p apart h) at
    ];
  }
    where
      reached : (said : Said) (from : IsLoadedFrom said loaded) (name : List ℕ) → slice_get (names_of said.written) place ≡ Some name
          → (far : List ℕ) × Reaches (project_in said) name far × HasOwnEmptyCentre (project_in said) far
      reached said from name name_at = barred_reached said loaded from place other leads (so_far.barred other (behind other leads) nothing) name name_at

  -- one that has its network already
  put_standing : IsThere built place → TriedSoFar loaded first more built marks
  put_standing (n, there) = record {
    are = so_far.are;
    stay = so_far.stay;
    count = so_far.count;
    empty = so_far.empty;
    none = λ p h at. here_or (λ k. OfPlace loaded k HasNone) (λ said from name name_at has. so_far.are.free place n there said from name name_at (inl has.0)) p (λ apart. so_far.none p (others p apart h) at);
    barred = λ p h at. so_far.barred p (others p (lacks p at) h) at;
    why = λ p h at. so_far.why p (others p (lacks p at) h) at;
  }
    where
      lacks : (p : ℕ) → slice_get built p ≡ Some None → p ≡ place → ⊥
      lacks p at same = clash_network n (sym (subst (λ (k : ℕ). slice_get built k ≡ Some None) same at) ∙ there)

  pub tried_more : (outcome : Outcome) → IsOutcome loaded built place outcome → TriedSoFar loaded first more (with_network outcome place built) (with_empty outcome place marks)
  tried_more Stands there = put_standing there
  tried_more (Built n) (good, free, lacking) = put_built n good free lacking
  tried_more EmptyCentre is = put_empty is
  tried_more Behind (other, leads, nothing) = put_behind other leads nothing

-- a front of the order, behind which no definition has a centre
module _ (loaded : LoadedView) (order : List ℕ) (ordered : IsOrder (references_of loaded.definitions) order) (end : ℕ) (inside : end ≤ length order) where
  pub within_all : (place : ℕ) → Contains order place → place < length loaded.definitions
  within_all place among =
      let below = (ordered.places place).0 among in
      let size = length-map loaded.definitions (λ (x : Definition). body_places (length loaded.definitions) (body_of x.body)) in
      omega (arith, below, size)

  pub all_within : All (λ place. place < length loaded.definitions) order
  all_within = All-weaker (Contains order) (λ place. place < length loaded.definitions) within_all order (All-contains_itself order)

  -- the front itself
  module _ (front : List ℕ) (front_is : front ≡ take end order) where
    front_long : length front ≡ end
    front_long = ap length front_is ∙ length-take-le end order inside

    -- the next place of the front
    module _ (i : ℕ) (next : i < length front) where
      abbrev here : ℕ
      here = get_or front i 0

      before_end : i < end
      before_end = let long = front_long in omega (arith, next, long)

      in_order : i < length order
      in_order = let less = before_end in omega (arith, less, inside)

      same_place : here ≡ get_or order i 0
      same_place = ap (λ (xs : List ℕ). get_or xs i 0) front_is ∙ get_or-take end order i 0 before_end

      same_front : take i front ≡ take i order
      same_front = let less = before_end in ap (take i) front_is ∙ take-take i end order (omega (arith, less))

      pub here_within : here < length loaded.definitions
      here_within = subst (λ (p : ℕ). p < length loaded.definitions) (sym same_place) (within_all (get_or order i 0) (Contains-get_or order i 0 in_order))

      here_behind : (other : ℕ) → Leads (references_of loaded.definitions) here other → Contains (take i front) other
      here_behind other leads =
          subst (λ (ps : List ℕ). Contains ps other) (sym same_front)
          (ordered.behind i (get_or order i 0) other (slice_get-get_or order i 0 in_order) (subst (λ (p : ℕ). Leads (references_of loaded.definitions) p other) same_place leads))

      pub front_more : (first built : List (Option Network)) (marks : List Bool) (outcome : Outcome) → IsOutcome loaded built here outcome → TriedSoFar loaded first (take i front) built marks
          → TriedSoFar loaded first (take (i + 1) front) (with_network outcome here built) (with_empty outcome here marks)
      front_more first built marks outcome is so_far =
          subst (λ (done : List ℕ). TriedSoFar loaded first done (with_network outcome here built) (with_empty outcome here marks)) (sym (take_more front i 0 next))
          (tried_more loaded first (take i front) built marks so_far here here_within here_behind outcome is)

  -- the whole front
  module _ (plain : (i place : ℕ) (d : Definition) → end ≤ i → slice_get order i ≡ Some place → slice_get loaded.definitions place ≡ Some d → body_centres (body_of d.body) ≡ []) where
    -- each definition is in the front or has no centre
    either : (place : ℕ) → place < length loaded.definitions → Contains (take end order) place ⊎ HasNoCentre loaded place
    either place below =
        let size = length-map loaded.definitions (λ (x : Definition). body_places (length loaded.definitions) (body_of x.body)) in
        let (k, at) = slice_get_from_Contains order place ((ordered.places place).1 (omega (arith, below, size))) in
        elim (cases_lt k end) as (λ _. Contains (take end order) place ⊎ HasNoCentre loaded place) [
          | inl less ↦ inl (take_has end order k place less at)
          | inr past ↦ inr (λ d d_at. plain k place d past at d_at)
        ]

    tried_all : (first built : List (Option Network)) (marks : List Bool) → TriedSoFar loaded first (take end order) built marks → AreTried loaded built marks
    tried_all first built marks so_far = record {
      count = so_far.count;
      empty = so_far.empty;
      none = λ place at. (let inside = slice_get_within marks place false at in let many = so_far.count in
          elim (either place (omega (arith, inside, many))) as (λ _. OfPlace loaded place HasNone) [
            | inl done ↦ so_far.none place done at
            | inr plainly ↦ (λ said from name name_at has. plain_has_none said loaded from place plainly name name_at has)
          ]);
      ready = λ filled. record {
        are = so_far.are.are;
        free = so_far.are.free;
        plain = λ place nothing. (let inside = slice_get_within built place None nothing in let many = so_far.are.are.count in
            elim (either place (omega (arith, inside, many))) as (λ _. HasNoCentre loaded place) [
              | inl done ↦ (let (p, marked) = so_far.why place done nothing in absurd (filled p marked))
              | inr plainly ↦ plainly
            ]);
      };
    }

    pub tried_front : (first : List (Option Network)) (front : List ℕ) (i : ℕ) (built : List (Option Network)) (marks : List Bool) → front ≡ take end order → length front ≤ i → TriedSoFar loaded first (take i front) built marks
        → AreTried loaded built marks
    tried_front first front i built marks is past so_far = tried_all first built marks (subst (λ (done : List ℕ). TriedSoFar loaded first done built marks) (take_all i front past ∙ is) so_far)

-- the leaves of an expression, one after another
module _ (built : List (Option Network)) (leaves : List (Bor Atom)) where
  abbrev Netted : Atom → Type 0
  Netted leaf = HasNoNetwork built leaf → ⊥

  pub none_lacking_more : (i : ℕ) (d : Bor Atom) → i < length leaves → Netted (get_or leaves i d).now → All Netted (seen (take i leaves)) → All Netted (seen (take (i + 1) leaves))
  none_lacking_more i d below here so_far =
      let one = (get_or leaves i d).now in
      subst (All Netted) (sym (ap (λ (xs : List (Bor Atom)). seen xs) (take_more leaves i d below) ∙ map-append (λ (x : Bor Atom). x.now) (take i leaves) (get_or leaves i d ∷ [])))
      (All-append Netted (seen (take i leaves)) (one ∷ []) so_far (All-cons Netted one [] here (All-nil Netted)))

  pub none_lacking : (i : ℕ) (all : List Atom) → length leaves ≤ i → seen leaves ≡ all → All Netted (seen (take i leaves)) → All Netted all
  none_lacking i all past is so_far = subst (All Netted) (ap (λ (xs : List (Bor Atom)). seen xs) (take_all i leaves past) ∙ is) so_far

  pub one_lacking : (i : ℕ) (d : Bor Atom) (all : List Atom) → i < length leaves → seen leaves ≡ all → HasNoNetwork built (get_or leaves i d).now → (leaf : Atom) × Contains all leaf × HasNoNetwork built leaf
  one_lacking i d all below is has =
      let one = (get_or leaves i d).now in
      (one, subst (λ (xs : List Atom). Contains xs one) is (Contains-map (λ (x : Bor Atom). x.now) leaves (get_or leaves i d) (Contains-get_or leaves i d below)), has)

-- the end of the definitions with centres, among those so far
module _ (definitions : List Definition) (order : List ℕ) where
  abbrev pub NoneFrom : ℕ → ℕ → Type 0
  NoneFrom end index = (i place : ℕ) (d : Definition) → end ≤ i → i < index → slice_get order i ≡ Some place → slice_get definitions place ≡ Some d → body_centres (body_of d.body) ≡ []

  pub ends_here : (index : ℕ) → NoneFrom (index + 1) (index + 1)
  ends_here index i place d past less at d_at = absurd (omega (arith, past, less))

  pub ends_before : (end index : ℕ) (p : ℕ) (e : Definition) → slice_get order index ≡ Some p → slice_get definitions p ≡ Some e → body_centres (body_of e.body) ≡ [] → NoneFrom end index → NoneFrom end (index + 1)
  ends_before end index p e p_at e_at none so_far i place d past less at d_at = elim (cases_eq i index) as (λ _. body_centres (body_of d.body) ≡ []) [
    | inl same ↦
        (let p_is : place ≡ p = same_Some place p (sym at ∙ ap (slice_get order) same ∙ p_at) in
        let d_is : d ≡ e = same_Some d e (sym d_at ∙ ap (slice_get definitions) p_is ∙ e_at) in
        subst (λ (x : Definition). body_centres (body_of x.body) ≡ []) (sym d_is) none)
    | inr apart ↦ so_far i place d past (omega (arith, less, apart)) at d_at
  ]

-- The first mark.
module _ (loaded : LoadedView) (built : List (Option Network)) (marks : List Bool) (tried : AreTried loaded built marks) where
  pub none_empty : AreClear (length marks) marks → HasNoEmptyCentre loaded
  none_empty clear place below = let many = tried.count in tried.none place (clear place (omega (arith, below, many)))

  pub none_marked : AreClear (length marks) marks → CentresAreBuilt loaded built
  none_marked clear = tried.ready (λ place marked. clash_mark (sym marked ∙ clear place (slice_get_within marks place true marked)))

  pub first_empty : (place : ℕ) → IsFirstMark marks place → IsFirstEmpty loaded place
  first_empty place (marked, clear) = record { empty = tried.empty place marked; first = λ before lower. tried.none before (clear before lower) }

  pub first_within : (place : ℕ) → IsFirstMark marks place → place < length loaded.definitions
  first_within place (marked, clear) = let inside = slice_get_within marks place true marked in let many = tried.count in omega (arith, inside, many)

-- one mark more that isn't set
pub clear_more : (marks : List Bool) (place : ℕ) (mark : Bool) → slice_get marks place ≡ Some mark → mark ≡ false → AreClear place marks → AreClear (place + 1) marks
clear_more marks place mark at is clear before lower = elim (cases_eq before place) as (λ _. slice_get marks before ≡ Some false) [
  | inl same ↦ subst (λ (k : ℕ). slice_get marks k ≡ Some false) (sym same) (at ∙ ap (λ (b : Bool). Some b) is)
  | inr apart ↦ clear before (omega (arith, lower, apart))
]

-- What was loaded of sources without a fault that is read.
module _ (sources : Files) (said : Said) (free : (found : Fault) → FirstFault all_readers sources read_rows found → ⊥) (says : FilesSay all_readers sources said) (loaded : LoadedView) (from : IsLoadedFrom said loaded) where
  abbrev Empty : Written → Fault → Type 0
  Empty w found = Where (HasEmptyCentre (project_in said) (resolved_in said w).name) (fault_of w why.EmptyCentre) found

  pub reads_project : HasNoEmptyCentre loaded → Reads sources (Ok (project_in said))
  reads_project none = (no_fault, said, says, refl)
    where
      no_fault : (found : Fault) → FirstFault all_readers sources rows found → ⊥
      no_fault found h = elim ((centres_come_last all_readers read_rows sources found).0 h) as (λ _. ⊥) [
        | inl read ↦ free found read
        | inr (clear, (other, other_says, first)) ↦
            (let same : other ≡ said = files_say_one all_readers all_exact sources other said other_says says in
            none_at Empty said.written (λ k w at found here. none k (within_said said loaded from k w at) said from w.name (named_by said loaded from k w at) here.0) found
            (subst (λ (s : Said). First (λ w. Where (HasEmptyCentre (project_in s) (resolved_in s w).name) (fault_of w why.EmptyCentre)) s.written found) same first))
      ]

  pub reads_fault : (found : Fault) (place : ℕ) (d : Definition) → slice_get loaded.definitions place ≡ Some d → IsFirstEmpty loaded place → found ≡ fault d.file d.line why.EmptyCentre → Reads sources (Err found)
  reads_fault found place d at first is =
      let (w, w_at, same) = said_at said loaded from place d at in
      let line = ap (λ (e : Entry). e.line) same in
      let file = ap (λ (e : Entry). e.file) same in
      let of_written : found ≡ fault_of w why.EmptyCentre = is ∙ sym (λ i. fault (file i) (line i) why.EmptyCentre) in
      let has = first.empty said from w.name (named_by said loaded from place w w_at) in
      let earlier = first_here Empty said.written place w found w_at (has, of_written)
      (λ j y lower at_y other here. first.first j lower said from y.name (named_by said loaded from j y at_y) here.0) in
      (centres_come_last all_readers read_rows sources found).1 (inr (free, (said, says, earlier)))

-- so it is with what telling its centres answers
pub read_whole : (sources : Files) (loaded : LoadedView) → IsRead sources loaded → HasNoEmptyCentre loaded → IsOfSources sources loaded
read_whole sources loaded read none = (read.said, read.from, reads_project sources read.said read.free read.says loaded read.from none, read.glosses)

pub why_not_loaded : (sources : Files) (loaded : LoadedView) → IsRead sources loaded → (error : StoreError) → IsCentreError loaded error → IsWhyNot sources error
why_not_loaded sources loaded read (Memory refused) is = tt
why_not_loaded sources loaded read (Refused found) (place, d, at, first, is) = reads_fault sources read.said read.free read.says loaded read.from found place d at first is

-- a fault that is read is the first
pub first_of_read : (sources : Files) (found : Fault) → FirstFault all_readers sources read_rows found → Reads sources (Err found)
first_of_read sources found read = (centres_come_last all_readers read_rows sources found).1 (inl read)
