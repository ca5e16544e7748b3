-- All networks of a project are built, and made ready for look-ups one after another, but for those that are kept.
use Rattle.std.proofs.Common.{◌≡◌, ◌<◌, ◌≤◌, ◌+◌, ◌++◌, zero, suc, ℕ, List, [], ◌∷◌, length, map, get_or, Contains, Option, Some, None, slice_get, refl, sym, ap, subst, ◌∙◌, inl, inr, arith}
use Rattle.std.proofs.lemmas.List.{length-append, length-map, take_all}
use Rattle.std.proofs.lemmas.Option.{same_Some, slice_get-map, slice_get_cases, slice_get_within}
use Rattle.std.specs.Option.{option_map}
use Rattle.word_relations.proofs.Places.{slice_get-append_cases}
use Rattle.fsm_base.specs.Alphabet.{symbols_of}
use Rattle.fsm_base.specs.declared.letters.Sym.{Sym}
use Rattle.lookup.specs.Answering.{IsOverAlphabet}
use Rattle.lookup.specs.Nets.{NetRelates, NetView}
use Rattle.name_order.specs.Orders.{IsOrder}
use Rattle.network_algebra.specs.Networks.{IsNetwork, PairsOf}
use Rattle.network_algebra.specs.declared.network.Network.{Network}
use Rattle.project_meaning.specs.Projects.{names_of}
use Rattle.project_definitions.specs.Plain.{body_of}
use Rattle.project_definitions.specs.Referring.{body_places, references_of}
use Rattle.project_definitions.specs.declared.definition.Definition.{Definition}
use Rattle.project_definitions.proofs.Referring.{at_map}
use Rattle.project_sources.specs.Sources.{Said, project_in}
use Rattle.project_store.specs.Building.{IsThere}
use Rattle.project_store.specs.Loaded.{IsLoadedFrom, LoadedView}
use Rattle.project_store.specs.Networks.{ShowsName}
use Rattle.project_store.specs.Sharing.{IsLike, StayThere}
use Rattle.project_store.proofs.Networks.{BuiltSoFar, place_within}
use Rattle.project_store.proofs.Shown.{name_here, same_name, shows_name}
use Rattle.project_versions.specs.Networks.{AreAllBuilt, AreKeptIn, AreNetworks, AreReady, IsKeptBy, IsReady, IsReadyAt, all_in, net_in}
use Rattle.project_versions.specs.declared.networks.Built.{Built}
use Rattle.word_relations.specs.Relations.{AreSame}

-- the next place of an order isn't the number of the definitions
pub not_past : (loaded : LoadedView) (order : List ℕ) → IsOrder (references_of loaded.definitions) order → (first : List (Option Network)) (i : ℕ) → i < length order → (built : List (Option Network))
    → BuiltSoFar loaded order (length loaded.definitions) first i built → get_or order i 0 ≡ length loaded.definitions → ⊥
not_past loaded order ordered first i inside built so_far same =
    let within = place_within loaded order ordered (length loaded.definitions) first i inside built so_far in
    omega (arith, within, same)

-- at the end of the order each definition has its network
pub all_there : (loaded : LoadedView) (order : List ℕ) → IsOrder (references_of loaded.definitions) order → (wanted : ℕ) (first : List (Option Network)) (i : ℕ) (built : List (Option Network)) → length order ≤ i
    → BuiltSoFar loaded order wanted first i built → AreAllBuilt loaded built
all_there loaded order ordered wanted first i built past so_far = record {
  are = record { are = so_far.are.are; free = so_far.are.free };
  all = λ place within.
      (let size = length-map loaded.definitions (λ (d : Definition). body_places (length loaded.definitions) (body_of d.body)) in
      let below : place < length (references_of loaded.definitions) = omega (arith, within, size) in
      so_far.there place (subst (λ (ps : List ℕ). Contains ps place) (sym (take_all i order past)) ((ordered.places place).1 below)));
}

no_item : {X : Type 0} (at : ℕ) (x : X) → slice_get {X = X} [] at ≡ Some x → ⊥
no_item {X} at x e = let none : ◌≡◌ {A = Option X} None (Some x) = e in cc

-- what is so of the items of a list and of one more
pub push_each : {X : Type 0} (P : ℕ → X → Type 0) (xs : List X) (x : X) → ((at : ℕ) (y : X) → slice_get xs at ≡ Some y → P at y) → P (length xs) x → (at : ℕ) (y : X) → slice_get (xs ++ x ∷ []) at ≡ Some y → P at y
push_each {X} P xs x before here at y e = elim (slice_get-append_cases xs (x ∷ []) at y e) as (λ _. P at y) [
  | inl old ↦ before at y old
  | inr (j, is, last) ↦ last_at j is last
]
  where
    last_at : (j : ℕ) → at ≡ j + length xs → slice_get (x ∷ []) j ≡ Some y → P at y
    last_at zero is last =
        let here_is : length xs ≡ at = omega (arith, is) in
        subst (λ (k : ℕ). P k y) here_is (subst (P (length xs)) (same_Some x y last) here)
    last_at (suc j) is last = absurd (no_item j y last)

-- what is made ready of a network that is like another is so of that
pub made_ready : (n copy : Network) (net : NetView) → IsLike n copy → AreSame (NetRelates net) (PairsOf copy) → ((alphabet : List (Sym × List ℕ)) → IsNetwork (symbols_of alphabet) copy → IsOverAlphabet alphabet net) → IsReady n net
made_ready n copy net like relation over = record {
  relation = λ u w. (λ h. (like.relation u w).0 ((relation u w).0 h), λ h. (relation u w).1 ((like.relation u w).1 h));
  over = λ alphabet uses. over alphabet (like.over (symbols_of alphabet) uses);
}

-- the networks before a place are ready, and those that are kept are the same
pub record ReadySoFar (all : List (Option Network)) (kept : List (Option Built)) (place : ℕ) (networks : List Built) : Type 0 where
  pub count : length networks ≡ place
  pub each : (at : ℕ) (b : Built) → slice_get networks at ≡ Some b → IsReadyAt all at b
  pub kept_by : (at : ℕ) (b : Built) → slice_get networks at ≡ Some b → IsKeptBy kept at b

pub none_ready : (all : List (Option Network)) (kept : List (Option Built)) → ReadySoFar all kept 0 []
none_ready all kept = record {
  count = refl;
  each = λ at b e. absurd (no_item at b e);
  kept_by = λ at b e. absurd (no_item at b e);
}

-- the network at the next place is there
pub next_there : (loaded : LoadedView) (all : List (Option Network)) → AreAllBuilt loaded all → (place : ℕ) → place < length all → IsThere all place
next_there loaded all are place within = let count = are.are.are.count in are.all place (omega (arith, within, count))

-- networks that stay are kept
pub kept_on : (kept : List (Option Built)) (built all : List (Option Network)) → StayThere built all → AreKeptIn kept built → AreKeptIn kept all
kept_on kept built all stay are place b at = let is = are place b at in record { there = stay place b.network is.there; ready = is.ready }

-- it is made ready
pub next_ready : (all : List (Option Network)) (kept : List (Option Built)) (place : ℕ) (networks : List Built) (b : Built) → ReadySoFar all kept place networks → IsReadyAt all place b → IsKeptBy kept place b
    → ReadySoFar all kept (place + 1) (networks ++ b ∷ [])
next_ready all kept place networks b so_far ready by = record {
  count = length-append networks (b ∷ []) ∙ ap (λ (k : ℕ). k + 1) so_far.count;
  each = push_each (IsReadyAt all) networks b so_far.each (subst (λ (k : ℕ). IsReadyAt all k b) (sym so_far.count) ready);
  kept_by = push_each (IsKeptBy kept) networks b so_far.kept_by (subst (λ (k : ℕ). IsKeptBy kept k b) (sym so_far.count) by);
}

-- all are ready
module _ (loaded : LoadedView) (all : List (Option Network)) (are : AreAllBuilt loaded all) (kept : List (Option Built)) (place : ℕ) (within : place ≤ length all) (past : length all ≤ place) (networks : List Built)
    (so_far : ReadySoFar all kept place networks) where
  moved : (p : ℕ) (n : Network) → slice_get (all_in networks) p ≡ Some (Some n) → slice_get all p ≡ Some (Some n)
  moved p n at =
      let (b, b_at, is) = at_map (λ (x : Built). Some x.network) networks p (Some n) at in
      (so_far.each p b b_at).there ∙ ap (λ (o : Option Network). Some o) is

  pub are_ready : AreReady loaded networks
  are_ready = record {
    free = record {
      are = record {
        count = (let size = so_far.count in let count = are.are.are.count in let same = length-map networks (λ (x : Built). Some x.network) in omega (arith, size, count, same, within, past));
        each = λ p n at. are.are.are.each p n (moved p n at);
      };
      free = λ p n at. are.are.free p n (moved p n at);
    };
    each = λ p b at. (so_far.each p b at).ready;
  }

-- networks that are ready are those of a version
module _ (loaded : LoadedView) (networks : List Built) (ready : AreReady loaded networks) where
  pub listed_at : (place : ℕ) (b : Built) → slice_get networks place ≡ Some b → slice_get (all_in networks) place ≡ Some (Some b.network)
  listed_at place b at = slice_get-map (λ (x : Built). Some x.network) networks place ∙ ap (option_map (λ (x : Built). Some x.network)) at

  over_at : (place : ℕ) (b : Built) → slice_get networks place ≡ Some b → IsOverAlphabet loaded.alphabet (net_in b)
  over_at place b at = (ready.each place b at).over loaded.alphabet (ready.free.are.each place b.network (listed_at place b at)).over

  shown : (said : Said) → IsLoadedFrom said loaded → (place : ℕ) (name : List ℕ) (net : NetView) → slice_get (names_of said.written) place ≡ Some name → slice_get (map net_in networks) place ≡ Some net
      → ShowsName loaded.alphabet name net (project_in said)
  shown said from place name net named at =
      let (b, b_at, is) = at_map net_in networks place net at in
      let good = ready.free.are.each place b.network (listed_at place b b_at) in
      let below = slice_get_within networks place b b_at in
      let count = ready.free.are.count in
      let size = length-map networks (λ (x : Built). Some x.network) in
      elim ((slice_get_cases loaded.definitions place).1) as (λ _. ShowsName loaded.alphabet name net (project_in said)) [
        | inl (d, inside, d_at, d_is) ↦
            subst (λ (m : NetView). ShowsName loaded.alphabet name m (project_in said)) is
            (shows_name said loaded from place d d_at name (sym (same_name said loaded from place d d_at) ∙ same_Some _ name (sym (name_here said loaded from place d d_at) ∙ named)) b.network (net_in b) good
            (ready.each place b b_at).relation (over_at place b b_at))
        | inr (outside, none) ↦ absurd (omega (arith, below, count, size, outside))
      ]

  pub are_networks : AreNetworks loaded (map net_in networks)
  are_networks = record {
    count = (let count = ready.free.are.count in length-map networks net_in ∙ sym (length-map networks (λ (x : Built). Some x.network)) ∙ count);
    over = λ place net at. (let (b, b_at, is) = at_map net_in networks place net at in subst (IsOverAlphabet loaded.alphabet) is (over_at place b b_at));
    shows = shown;
  }
