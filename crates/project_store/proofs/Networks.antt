-- The networks of a project's definitions are built of one another.
use Rattle.std.proofs.Common.{◌≡◌, ◌⊎◌, ◌<◌, ◌≤◌, ◌+◌, ◌++◌, ℕ, true, false, List, [], ◌∷◌, length, take, get_or, AllPairs, Contains, Option, Some, None, is_some, IsTrue, Result, Ok, Err, IfOk, IfErr, OnOk, slice_get, refl, sym, ap, subst, ◌∙◌, inl, inr, arith}
use Rattle.std.proofs.Math.ListN.{replicate, set}
use Rattle.std.proofs.lemmas.Bool.{cases_eq}
use Rattle.std.proofs.lemmas.List.{get_or-replicate, length-map, length-replicate, length-set, map-append, take_all, take_more}
use Rattle.std.proofs.lemmas.List.Elements.{All-contains, All-contains_itself, All-weaker, Contains-append_left, Contains-push, Contains-push_cases, Contains-get_or}
use Rattle.std.proofs.lemmas.List.Quantifiers.{all_pairs_push}
use Rattle.std.proofs.lemmas.Option.{slice_get-get_or, slice_get-map, slice_get_within, same_Some}
use Rattle.std.specs.Borrow.{Bor}
use Rattle.std.specs.Option.{option_map}
use Rattle.word_relations.proofs.Members.{Contains-nil_cases, Contains-head}
use Rattle.word_relations.proofs.Places.{Contains-from_slice_get, slice_get-append_left, slice_get-append_right, slice_get-set_other, slice_get-set_same}
use Rattle.fsm_base.specs.Alphabet.{symbols_of}
use Rattle.fsm_base.specs.declared.letters.Sym.{Sym as Symbol}
use Rattle.regex_ast.specs.declared.expr.Atom.{Atom}
use Rattle.regex_ast.specs.declared.expr.Atom.TheVariants.{Sym, Name}
use Rattle.regex_ast.specs.Terms.{Term}
use Rattle.expr_kinds.specs.Atoms.{is_leaf_at, is_symbol_of, kind_at, kinds_at, leaves_at}
use Rattle.expr_kinds.specs.Built.{IsBuilt, IsBuiltBy}
use Rattle.expr_kinds.specs.Kinds.{Fits}
use Rattle.expr_kinds.proofs.LeafLaws.{fits_alike, kind_alike}
use Rattle.expr_leaves.specs.Leaves.{leaves_in, seen}
use Rattle.name_order.specs.Graph.{Refers}
use Rattle.name_order.specs.Orders.{IsOrder}
use Rattle.network_algebra.specs.Networks.{IsNetwork}
use Rattle.network_algebra.specs.declared.network.Network.{Network}
use Rattle.network_expr.specs.Parts.{IsGround, is_leaf_of, kind_of_part, kinds, part_of}
use Rattle.network_expr.specs.declared.parts.Part.{Part}
use Rattle.network_build.specs.Networks.{BodyHasEmptyCentre, IsNetworkOf, IsWhyNotBuilt}
use Rattle.network_build.specs.declared.compiled.BuildError.{BuildError}
use Rattle.network_build.specs.declared.compiled.BuildError.TheVariants.{Memory, EmptyCentre}
use Rattle.project_meaning.specs.Centres.{HasOwnEmptyCentre, centres_in}
use Rattle.project_meaning.specs.Leaves.{expressions_of}
use Rattle.project_meaning.specs.Trees.{Body, xfst, lexc, twolc}
use Rattle.project_meaning.proofs.Places.{in_flat}
use Rattle.project_sources.specs.Built.{BodyIsBuiltBy}
use Rattle.project_definitions.specs.Bodies.{BodyFitsBy, IsFormed, kind_of_body}
use Rattle.project_definitions.specs.Plain.{body_of}
use Rattle.network_build.proofs.Built.{built_alone, built_by}
use Rattle.project_model.specs.Plans.{IsPlan, IsSoundOver}
use Rattle.project_definitions.specs.Referring.{body_places, references_of}
use Rattle.project_definitions.specs.declared.definition.Definition.{Definition}
use Rattle.project_store.specs.Building.{AreBuilt, AreNamesAmong, ArePartsOf, HasParts, HasPut, IsBuiltAt, IsThere, expression_leaves}
use Rattle.project_store.specs.Centres.{CentresAreBuilt, HasFilled, HasNoCentre, HasNoOwn, IsFree, IsWhyUnbuilt, OfPlace}
use Rattle.project_store.specs.Loaded.{LoadedView, plan_in}
use Rattle.project_store.specs.Sharing.{IsLike, StayThere}
use Rattle.project_store.proofs.Bodies.{body_passes, expressions_built, name_refers}
use Rattle.project_store.proofs.Parts.{part_found, part_there}
use Rattle.project_store.proofs.Shown.{name_spelled_here, own_centre, spelled_too}

never : IsTrue false → ⊥
never e = cc

-- a name in an expression of a definition is referred to
pub named_at : (definitions : List Definition) (place : ℕ) (d : Definition) → slice_get definitions place ≡ Some d → (p : ℕ) → Contains (expression_leaves (body_of d.body)) (Name p) → p < length definitions
    → Refers (references_of definitions) place p
named_at definitions place d at p stood within =
    let n = length definitions in (
      body_places n (body_of d.body),
      slice_get-map (λ (x : Definition). body_places n (body_of x.body)) definitions place ∙ ap (option_map (λ (x : Definition). body_places n (body_of x.body))) at,
      name_refers n (expressions_of (body_of d.body)) p stood within,
    )

-- what is at a place is within
known_within : {X : Type 0} (xs : List X) (k : ℕ) → IsTrue (is_some (slice_get xs k)) → k < length xs
known_within {X} xs k h = by (slice_get xs k) refl h
  where
    by : (o : Option X) → slice_get xs k ≡ o → IsTrue (is_some o) → k < length xs
    by None e some = absurd (never some)
    by (Some x) e some = slice_get_within xs k x e

module _ (loaded : LoadedView) (plan : IsPlan (plan_in loaded)) (built : List (Option Network)) (are : AreBuilt loaded built) (place : ℕ) (d : Definition) (at : slice_get loaded.definitions place ≡ Some d)
    (names : List (Option ℕ)) (size : length names ≡ length built) (among : AreNamesAmong (expression_leaves (body_of d.body)) names) (parts : List Part) (parts_are : ArePartsOf names built parts) (has : HasParts loaded built place) where
  abbrev alphabet : List Symbol
  alphabet = symbols_of loaded.alphabet

  abbrev body : Body Atom
  body = body_of d.body

  -- each part is the network of its definition
  each : (part : Part) → Contains parts part → IsBuiltAt loaded part.name part.network.now
  each part there = are.each part.name part.network.now (parts_are.each part there)

  pub ground : IsGround alphabet parts
  ground = record {
    distinct = plan.distinct;
    rising = parts_are.rising;
    over = All-weaker (Contains parts) (λ (part : Part). IsNetwork alphabet part.network.now) (λ part there. (each part there).over) parts (All-contains_itself parts);
  }

  -- a name in the expression has its part
  named_there : (p : ℕ) → Contains (expression_leaves body) (Name p) → IsTrue (is_some (slice_get loaded.forms p)) → IsTrue (is_some (part_of parts p))
  named_there p stood known =
      let inside = known_within loaded.forms p known in
      let within : p < length loaded.definitions = omega (arith, inside, plan.forms.count) in
      let here : p < length names = omega (arith, within, size, are.count) in
      let (part, there, is) = parts_are.all p (among.all p here stood) (has p (named_at loaded.definitions place d at p stood within)) in
      part_there parts p part there is

  sound : IsSoundOver loaded.forms alphabet d
  sound = All-contains (IsSoundOver loaded.forms alphabet) loaded.definitions d plan.sound (Contains-from_slice_get loaded.definitions place d at)

  pub built_over : BodyIsBuiltBy (is_leaf_of parts alphabet) (is_symbol_of alphabet) body
  built_over = body_passes (is_leaf_at loaded.forms alphabet) (is_leaf_of parts alphabet) (is_symbol_of alphabet) body sound.built expression
    where
      leaf : (e : Term Atom) → Contains (expressions_of body) e → (a : Atom) → Contains (leaves_in e) a → IsTrue (is_leaf_at loaded.forms alphabet a) → IsTrue (is_leaf_of parts alphabet a)
      leaf e held (Sym s) stood h = h
      leaf e held (Name p) stood h = named_there p (in_flat leaves_in (expressions_of body) e (Name p) held stood) h

      expression : (e : Term Atom) → Contains (expressions_of body) e → IsBuiltBy (is_leaf_at loaded.forms alphabet) (is_symbol_of alphabet) e → IsBuiltBy (is_leaf_of parts alphabet) (is_symbol_of alphabet) e
      expression e held h = built_by (is_leaf_at loaded.forms alphabet) (is_symbol_of alphabet) (is_leaf_of parts alphabet) (is_symbol_of alphabet) e h (leaf e held, λ a stood g. g)

  alone : (e : Term Atom) → Contains (expressions_of body) e → IsBuilt (is_leaf_of parts alphabet) e
  alone e held =
      built_alone (is_leaf_of parts alphabet) (is_symbol_of alphabet) letter e
      (All-contains (IsBuiltBy (is_leaf_of parts alphabet) (is_symbol_of alphabet)) (expressions_of body) e (expressions_built (is_leaf_of parts alphabet) (is_symbol_of alphabet) body built_over) held)
    where
      letter : (a : Atom) → IsTrue (is_symbol_of alphabet a) → IsTrue (is_leaf_of parts alphabet a)
      letter (Sym s) h = h
      letter (Name p) h = absurd (never h)

  -- a part has the kind of the form at its place
  same_kind : (a : Atom) → IsTrue (is_leaf_of parts alphabet a) → (kinds parts).kind a ≡ (leaves_at loaded.forms).kind a
  unfolding kinds_at
  same_kind (Sym s) h = refl
  same_kind (Name p) h = by (part_of parts p) refl h
    where
      by : (o : Option Part) → part_of parts p ≡ o → IsTrue (is_some o) → kind_of_part (part_of parts p) ≡ kind_at loaded.forms p
      by None e some = absurd (never some)
      by (Some part) e some =
          let (there, is) = part_found parts p part e in
          ap kind_of_part e ∙ (each part there).kind ∙ ap (kind_at loaded.forms) is

  same_symbol : (a b : Atom) → IsTrue (is_leaf_of parts alphabet a) → IsTrue (is_leaf_of parts alphabet b) → (kinds parts).same a b ≡ (leaves_at loaded.forms).same a b
  same_symbol a b h g = refl

  pub fits : BodyFitsBy (kinds parts) body
  fits =
      All-weaker (Contains (expressions_of body)) (Fits (kinds parts))
      (λ e held.
      subst (λ (T : Type 0). T) (sym (fits_alike (leaves_at loaded.forms) (kinds parts) (is_leaf_of parts alphabet) same_kind same_symbol e (alone e held)))
      (All-contains (Fits (leaves_at loaded.forms)) (expressions_of body) e sound.fits held))
      (expressions_of body) (All-contains_itself (expressions_of body))

  pub formed : IsFormed body
  formed = sound.formed

  same_kind_of : (b : Body Atom) → ((e : Term Atom) → Contains (expressions_of b) e → IsBuilt (is_leaf_of parts alphabet) e) → kind_of_body (kinds parts) b ≡ kind_of_body (leaves_at loaded.forms) b
  same_kind_of (xfst e) all = kind_alike (leaves_at loaded.forms) (kinds parts) (is_leaf_of parts alphabet) same_kind same_symbol e (all e (Contains-head e []))
  same_kind_of (lexc lexicons) all = refl
  same_kind_of (twolc grammar) all = refl

  pub built_at : (n : Network) → IsNetworkOf parts alphabet body n → IsBuiltAt loaded place n
  built_at n of = record {
    kind = of.kind ∙ same_kind_of body alone ∙ sym (plan.forms.kinds place d at);
    over = of.over;
    means = λ said from name at_name. name_spelled_here said loaded from place d at parts each built_over n of.relation name at_name;
  }

  -- it has an own empty centre where its network can't be built
  own : BodyHasEmptyCentre parts alphabet body → OfPlace loaded place HasOwnEmptyCentre
  own h said from name at_name = (own_centre said loaded from place d at parts each built_over name at_name).0 h

  no_own : (BodyHasEmptyCentre parts alphabet body → ⊥) → OfPlace loaded place HasNoOwn
  no_own none said from name at_name h = none ((own_centre said loaded from place d at parts each built_over name at_name).1 h)

  no_centre : HasNoCentre loaded place → BodyHasEmptyCentre parts alphabet body → ⊥
  no_centre plain (e, held, (c, inside, empty)) =
      Contains-nil_cases c (subst (λ (cs : List (Term Atom)). Contains cs c) (plain d at) (in_flat (λ x. centres_in x) (expressions_of body) e c held inside))

  -- what building it answers
  pub built_as : (r : Result Network BuildError) → IfOk r (IsNetworkOf parts alphabet body) → IfOk r (IsBuiltAt loaded place)
  built_as (Ok n) of = built_at n of
  built_as (Err error) of = of

  pub filled_as : (r : Result Network BuildError) → OnOk r (BodyHasEmptyCentre parts alphabet body → ⊥) → OnOk r (OfPlace loaded place HasNoOwn)
  filled_as (Ok n) none = no_own none
  filled_as (Err error) none = none

  pub why_as : (r : Result Network BuildError) → IfErr r (IsWhyNotBuilt parts alphabet d) → IfErr r (IsWhyUnbuilt loaded place)
  why_as (Ok n) is = is
  why_as (Err (Memory refused)) is = tt
  why_as (Err (EmptyCentre line)) is = (own is.1, λ plain. no_centre plain is.1)

-- one leaf more
module _ (before : List Atom) (leaf : Atom) (names : List (Option ℕ)) (are : AreNamesAmong before names) where
  other_leaf : (a : Atom) → Contains (before ++ leaf ∷ []) a → (leaf ≡ a → ⊥) → Contains before a
  other_leaf a h apart = elim (Contains-push_cases before leaf a h) as (λ _. Contains before a) [ inl old ↦ old | inr same ↦ absurd (apart same) ]

  pub names_kept : ((p : ℕ) → leaf ≡ Name p → p < length names → ⊥) → AreNamesAmong (before ++ leaf ∷ []) names
  names_kept none = record {
    own = are.own;
    all = λ p within h. are.all p within (other_leaf (Name p) h (λ same. none p same within));
  }

  pub names_more : (p : ℕ) → leaf ≡ Name p → p < length names → AreNamesAmong (before ++ leaf ∷ []) (set names p (Some p))
  names_more p is within = record {
    own = λ q name at. own q name at;
    all = λ q inside h. all q inside h;
  }
    where
      same_name : (q : ℕ) → Name p ≡ Name q → p ≡ q
      same_name q e = cc

      own : (q name : ℕ) → slice_get (set names p (Some p)) q ≡ Some (Some name) → name ≡ q
      own q name at = by (cases_eq q p)
        where
          by : (q ≡ p) ⊎ (q ≡ p → ⊥) → name ≡ q
          by (inl same) =
              let at_p = subst (λ (k : ℕ). slice_get (set names p (Some p)) k ≡ Some (Some name)) same at in
              let is : Some p ≡ Some name = same_Some (Some p) (Some name) (sym (slice_get-set_same names p (Some p) within) ∙ at_p) in
              sym (same_Some p name is) ∙ sym same
          by (inr apart) = are.own q name (sym (slice_get-set_other names p q (Some p) apart) ∙ at)

      all : (q : ℕ) → q < length (set names p (Some p)) → Contains (before ++ leaf ∷ []) (Name q) → slice_get (set names p (Some p)) q ≡ Some (Some q)
      all q inside h = by (cases_eq q p)
        where
          by : (q ≡ p) ⊎ (q ≡ p → ⊥) → slice_get (set names p (Some p)) q ≡ Some (Some q)
          by (inl same) = subst (λ (k : ℕ). slice_get (set names p (Some p)) k ≡ Some (Some k)) (sym same) (slice_get-set_same names p (Some p) within)
          by (inr apart) =
              slice_get-set_other names p q (Some p) apart
              ∙ are.all q (omega (arith, inside, length-set names p (Some p))) (other_leaf (Name q) h (λ same. apart (sym (same_name q (sym is ∙ same)))))

seen_more : (leaves : List (Bor Atom)) (i : ℕ) (d : Bor Atom) → i < length leaves → seen (take (i + 1) leaves) ≡ seen (take i leaves) ++ (get_or leaves i d).now ∷ []
seen_more leaves i d below =
    ap (λ (xs : List (Bor Atom)). seen xs) (take_more leaves i d below)
    ∙ map-append (λ (x : Bor Atom). x.now) (take i leaves) (get_or leaves i d ∷ [])

-- the names of a front of the leaves, and of one leaf more
pub names_next : (leaves : List (Bor Atom)) (i : ℕ) (d : Bor Atom) (old new : List (Option ℕ)) → i < length leaves
    → ((before : List Atom) → AreNamesAmong before old → AreNamesAmong (before ++ (get_or leaves i d).now ∷ []) new) → AreNamesAmong (seen (take i leaves)) old → AreNamesAmong (seen (take (i + 1) leaves)) new
names_next leaves i d old new below more so_far =
    subst (λ (xs : List Atom). AreNamesAmong xs new) (sym (seen_more leaves i d below)) (more (seen (take i leaves)) so_far)

-- each item of a list of one item many times
pub replicate_same : {X : Type 0} (n : ℕ) (x : X) (p : ℕ) (y : X) → slice_get (replicate n x) p ≡ Some y → x ≡ y
replicate_same {X} n x p y at =
    let within = slice_get_within (replicate n x) p y at in
    let inside : p < n = omega (arith, within, length-replicate n x) in
    same_Some x y (ap (λ (z : X). Some z) (sym (get_or-replicate n p x x inside)) ∙ sym (slice_get-get_or (replicate n x) p x within) ∙ at)

pub no_names : (n p name : ℕ) → slice_get (replicate n None) p ≡ Some (Some name) → ⊥
no_names n p name at = let no : None ≡ Some name = replicate_same n None p (Some name) at in cc

-- no leaf so far
pub names_none : (names : List (Option ℕ)) → ((p name : ℕ) → slice_get names p ≡ Some (Some name) → ⊥) → AreNamesAmong [] names
names_none names none = record {
  own = λ p name at. absurd (none p name at);
  all = λ p within h. absurd (Contains-nil_cases (Name p) h);
}

-- the parts of a front of the names
pub record PartsSoFar (names : List (Option ℕ)) (built : List (Option Network)) (i : ℕ) (parts : List Part) : Type 0 where
  pub rising : AllPairs (λ one next. one.name < next.name) parts
  pub lower : (part : Part) → Contains parts part → part.name < i
  pub each : (part : Part) → Contains parts part → slice_get built part.name ≡ Some (Some part.network.now)
  pub all : (place : ℕ) → place < i → slice_get names place ≡ Some (Some place) → IsThere built place → (part : Part) × Contains parts part × (part.name ≡ place)

module _ (names : List (Option ℕ)) (built : List (Option Network)) where
  pub parts_none : PartsSoFar names built 0 []
  parts_none = record {
    rising = λ j d k less within. absurd (omega arith);
    lower = λ part h. absurd (Contains-nil_cases part h);
    each = λ part h. absurd (Contains-nil_cases part h);
    all = λ p within. absurd (omega (arith, within));
  }

  -- the next name with its part, and one without
  pub parts_more : (i : ℕ) (parts : List Part) (part : Part) → part.name ≡ i → slice_get built i ≡ Some (Some part.network.now) → PartsSoFar names built i parts → PartsSoFar names built (i + 1) (parts ++ part ∷ [])
  parts_more i parts part is at so_far = record {
    rising = all_pairs_push (λ one next. one.name < next.name) parts part so_far.rising (λ k d within. (let lower = so_far.lower (get_or parts k d) (Contains-get_or parts k d within) in omega (arith, lower, is)));
    lower = λ p h. elim (Contains-push_cases parts part p h) as (λ _. p.name < i + 1) [
      | inl old ↦ (let lower = so_far.lower p old in omega (arith, lower))
      | inr same ↦ (let name = ap (λ (x : Part). x.name) same in omega (arith, name, is))
    ];
    each = λ p h. elim (Contains-push_cases parts part p h) as (λ _. slice_get built p.name ≡ Some (Some p.network.now)) [
      | inl old ↦ so_far.each p old
      | inr same ↦ subst (λ (x : Part). slice_get built x.name ≡ Some (Some x.network.now)) same (ap (slice_get built) is ∙ at)
    ];
    all = λ place within named there. elim (cases_eq place i) as (λ _. (p : Part) × Contains (parts ++ part ∷ []) p × (p.name ≡ place)) [
      | inl same ↦ (part, Contains-push parts part, is ∙ sym same)
      | inr apart ↦ (let (p, h, name) = so_far.all place (omega (arith, within, apart)) named there in (p, Contains-append_left parts (part ∷ []) p h, name))
    ];
  }

  pub parts_past : (i : ℕ) (parts : List Part) → (slice_get names i ≡ Some (Some i) → IsThere built i → ⊥) → PartsSoFar names built i parts → PartsSoFar names built (i + 1) parts
  parts_past i parts none so_far = record {
    rising = so_far.rising;
    lower = λ p h. (let lower = so_far.lower p h in omega (arith, lower));
    each = so_far.each;
    all = λ place within named there. elim (cases_eq place i) as (λ _. (p : Part) × Contains parts p × (p.name ≡ place)) [
      | inl same ↦ absurd (none (subst (λ (k : ℕ). slice_get names k ≡ Some (Some k)) same named) (subst (IsThere built) same there))
      | inr apart ↦ so_far.all place (omega (arith, within, apart)) named there
    ];
  }

  clash_network : (n : Network) → ◌≡◌ {A = Option (Option Network)} (Some None) (Some (Some n)) → ⊥
  clash_network n e = cc

  clash_name : (k : ℕ) → ◌≡◌ {A = Option (Option ℕ)} (Some None) (Some (Some k)) → ⊥
  clash_name k e = cc

  -- the next place
  pub parts_next : (i : ℕ) (parts new : List Part) (name : Option ℕ) (network : Option Network) → slice_get names i ≡ Some name → slice_get built i ≡ Some network
      → ((place k : ℕ) → slice_get names place ≡ Some (Some k) → k ≡ place) → HasPut name network parts new → PartsSoFar names built i parts → PartsSoFar names built (i + 1) new
  parts_next i parts new (Some k) (Some n) at_name at_built own (part, is_name, is_network, is) so_far =
      subst (PartsSoFar names built (i + 1)) (sym is)
      (parts_more i parts part (is_name ∙ own i k at_name) (at_built ∙ ap (λ (m : Network). Some (Some m)) (sym is_network)) so_far)
  parts_next i parts new (Some k) None at_name at_built own is so_far =
      subst (PartsSoFar names built (i + 1)) (sym is) (parts_past i parts (λ named (n, there). clash_network n (sym at_built ∙ there)) so_far)
  parts_next i parts new None network at_name at_built own is so_far =
      subst (PartsSoFar names built (i + 1)) (sym is) (parts_past i parts (λ named there. clash_name i (sym at_name ∙ named)) so_far)

  pub parts_all : (i : ℕ) (parts : List Part) → length names ≤ i → PartsSoFar names built i parts → ArePartsOf names built parts
  parts_all i parts past so_far = record {
    rising = so_far.rising;
    each = so_far.each;
    all = λ place named there. (let within = slice_get_within names place (Some place) named in so_far.all place (omega (arith, within, past)) named there);
  }

clash : (n : Network) → ◌≡◌ {A = Option (Option Network)} (Some None) (Some (Some n)) → ⊥
clash n e = cc

-- one place more, without network
pub none_pushed : (built : List (Option Network)) → ((place : ℕ) → place < length built → slice_get built place ≡ Some None) → (place : ℕ) → place < length built + 1 → slice_get (built ++ None ∷ []) place ≡ Some None
none_pushed built none place within = by (cases_eq place (0 + length built))
  where
    by : (place ≡ 0 + length built) ⊎ (place ≡ 0 + length built → ⊥) → slice_get (built ++ None ∷ []) place ≡ Some None
    by (inl same) = ap (slice_get (built ++ None ∷ [])) same ∙ slice_get-append_right built (None ∷ []) 0
    by (inr apart) =
        let lower : place < length built = omega (arith, within, apart) in
        slice_get-append_left built (None ∷ []) place lower ∙ none place lower

-- with one network more
pub network_put : (loaded : LoadedView) (built : List (Option Network)) (place : ℕ) (n : Network) → place < length built → AreBuilt loaded built → IsBuiltAt loaded place n → AreBuilt loaded (set built place (Some n))
network_put loaded built place n within are good = record {
  count = length-set built place (Some n) ∙ are.count;
  each = λ p m at. elim (cases_eq p place) as (λ _. IsBuiltAt loaded p m) [
    | inl same ↦
        (let at_place = subst (λ (k : ℕ). slice_get (set built place (Some n)) k ≡ Some (Some m)) same at in
        let is : Some n ≡ Some m = same_Some (Some n) (Some m) (sym (slice_get-set_same built place (Some n) within) ∙ at_place) in
        subst (λ (k : ℕ). IsBuiltAt loaded k m) (sym same) (subst (IsBuiltAt loaded place) (same_Some n m is) good))
    | inr other ↦ are.each p m (sym (slice_get-set_other built place p (Some n) other) ∙ at)
  ];
}

-- a network that is like the one of a place is one of the place
pub like_built : (loaded : LoadedView) (place : ℕ) (n m : Network) → IsBuiltAt loaded place n → IsLike n m → IsBuiltAt loaded place m
like_built loaded place n m good like = record {
  kind = like.kind ∙ good.kind;
  over = like.over (symbols_of loaded.alphabet) good.over;
  means = λ said from name at. spelled_too loaded.alphabet like.relation (good.means said from name at);
}

pub like_if_built : {E : Type 0} (loaded : LoadedView) (place : ℕ) (n : Network) → IsBuiltAt loaded place n → (r : Result Network E) → IfOk r (IsLike n) → IfOk r (IsBuiltAt loaded place)
like_if_built loaded place n good (Ok m) like = like_built loaded place n m good like
like_if_built loaded place n good (Err error) like = tt

-- a place that has its network already, and one that gets it
pub filled_before : (loaded : LoadedView) (built : List (Option Network)) (place : ℕ) → CentresAreBuilt loaded built → IsThere built place → HasFilled loaded place built built
filled_before loaded built place are there = record { are = are; there = there; stay = λ other n at. at }

pub filled_now : (loaded : LoadedView) (built : List (Option Network)) (place : ℕ) (n : Network) → place < length built → CentresAreBuilt loaded built → IsBuiltAt loaded place n → OfPlace loaded place IsFree
    → slice_get built place ≡ Some None → HasFilled loaded place built (set built place (Some n))
filled_now loaded built place n within ready good free lacking = record {
  are = record {
    are = network_put loaded built place n within ready.are good;
    free = λ p m at. elim (cases_eq p place) as (λ _. OfPlace loaded p IsFree) [
      | inl same ↦ subst (λ (k : ℕ). OfPlace loaded k IsFree) (sym same) free
      | inr other ↦ ready.free p m (sym (slice_get-set_other built place p (Some n) other) ∙ at)
    ];
    plain = λ p none. elim (cases_eq p place) as (λ _. HasNoCentre loaded p) [
      | inl same ↦ absurd (clash n (sym none ∙ subst (λ (k : ℕ). slice_get (set built place (Some n)) k ≡ Some (Some n)) (sym same) (slice_get-set_same built place (Some n) within)))
      | inr other ↦ ready.plain p (sym (slice_get-set_other built place p (Some n) other) ∙ none)
    ];
  };
  there = (n, slice_get-set_same built place (Some n) within);
  stay = λ p m at. elim (cases_eq p place) as (λ _. slice_get (set built place (Some n)) p ≡ Some (Some m)) [
    | inl same ↦ absurd (clash m (sym lacking ∙ subst (λ (k : ℕ). slice_get built k ≡ Some (Some m)) same at))
    | inr other ↦ slice_get-set_other built place p (Some n) other ∙ at
  ];
}

-- what stands at a place, by a test
pub there_by : (built : List (Option Network)) (place : ℕ) (o : Option Network) → slice_get built place ≡ Some o → IsTrue (is_some o) → IsThere built place
there_by built place None at some = absurd (never some)
there_by built place (Some n) at some = (n, at)

pub none_by : (built : List (Option Network)) (place : ℕ) (o : Option Network) → slice_get built place ≡ Some o → is_some o ≡ false → slice_get built place ≡ Some None
none_by built place None at none = at
none_by built place (Some n) at none = let clash : true ≡ false = none in absurd (cc)

-- what is read at a place that has a network
pub read_there : (built : List (Option Network)) (place : ℕ) (o : Option Network) → IsThere built place → o ≡ get_or built place o → slice_get built place ≡ Some o
read_there built place o (n, at) is = slice_get-get_or built place o (slice_get_within built place (Some n) at) ∙ ap (λ (x : Option Network). Some x) (sym is)

-- the networks of a front of the order, of which the wanted one is none, where some networks were there first
pub record BuiltSoFar (loaded : LoadedView) (order : List ℕ) (wanted : ℕ) (first : List (Option Network)) (i : ℕ) (built : List (Option Network)) : Type 0 where
  pub are : CentresAreBuilt loaded built
  pub stay : StayThere first built
  pub there : (place : ℕ) → Contains (take i order) place → IsThere built place
  pub unwanted : Contains (take i order) wanted → ⊥

pub none_so_far : (loaded : LoadedView) (order : List ℕ) (wanted : ℕ) (built : List (Option Network)) → CentresAreBuilt loaded built → BuiltSoFar loaded order wanted built 0 built
none_so_far loaded order wanted built are = record {
  are = are;
  stay = λ place n at. at;
  there = λ place h. absurd (Contains-nil_cases place h);
  unwanted = λ h. Contains-nil_cases wanted h;
}

module _ (loaded : LoadedView) (order : List ℕ) (ordered : IsOrder (references_of loaded.definitions) order) (wanted : ℕ) (first : List (Option Network)) (i : ℕ) (inside : i < length order) (built : List (Option Network))
    (so_far : BuiltSoFar loaded order wanted first i built) where
  abbrev place : ℕ
  place = get_or order i 0

  here_at : slice_get order i ≡ Some place
  here_at = slice_get-get_or order i 0 inside

  pub place_within : place < length loaded.definitions
  place_within =
      let within = (ordered.places place).0 (Contains-get_or order i 0 inside) in
      let size = length-map loaded.definitions (λ (d : Definition). body_places (length loaded.definitions) (body_of d.body)) in
      omega (arith, within, size)

  -- those that the next definition refers to have their networks
  pub parts_there : HasParts loaded built place
  parts_there other refers = so_far.there other (ordered.behind i place other here_at refers)

  -- with the network of the next one
  pub built_more : (new : List (Option Network)) → HasFilled loaded place built new → (place ≡ wanted → ⊥) → BuiltSoFar loaded order wanted first (i + 1) new
  built_more new filled apart = record {
    are = filled.are;
    stay = λ p n at. filled.stay p n (so_far.stay p n at);
    there = λ p h. elim (cases p h) as (λ _. IsThere new p) [
      | inl old ↦ (let (n, at) = so_far.there p old in (n, filled.stay p n at))
      | inr same ↦ subst (IsThere new) same filled.there
    ];
    unwanted = λ h. elim (cases wanted h) as (λ _. ⊥) [ inl old ↦ so_far.unwanted old | inr same ↦ apart same ];
  }
    where
      cases : (p : ℕ) → Contains (take (i + 1) order) p → Contains (take i order) p ⊎ (place ≡ p)
      cases p h = Contains-push_cases (take i order) place p (subst (λ (ps : List ℕ). Contains ps p) (take_more order i 0 inside) h)

  -- the network of the next one is its own
  pub built_here : (new : List (Option Network)) (n : Network) → HasFilled loaded place built new → place ≡ wanted → slice_get new wanted ≡ Some (Some n) → IsBuiltAt loaded wanted n
  built_here new n filled same at = filled.are.are.each wanted n at

-- the wanted place is met in the order
pub never_past : (loaded : LoadedView) (order : List ℕ) → IsOrder (references_of loaded.definitions) order → (wanted : ℕ) (first : List (Option Network)) (i : ℕ) (built : List (Option Network)) → wanted < length loaded.definitions
    → length order ≤ i → BuiltSoFar loaded order wanted first i built → ⊥
never_past loaded order ordered wanted first i built within past so_far =
    let size = length-map loaded.definitions (λ (d : Definition). body_places (length loaded.definitions) (body_of d.body)) in
    let below : wanted < length (references_of loaded.definitions) = omega (arith, within, size) in
    so_far.unwanted (subst (λ (ps : List ℕ). Contains ps wanted) (sym (take_all i order past)) ((ordered.places wanted).1 below))
