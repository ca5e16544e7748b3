-- Which networks of an old version a new project keeps, as they are looked for place by place.
use Rattle.std.proofs.Common.{◌≡◌, ◌<◌, ◌+◌, ◌++◌, ◌↔◌, ℕ, Bool, true, false, List, [], ◌∷◌, length, take, drop, get_or, Contains, Option, Some, None, slice_get, ◌≤◌, refl, sym, ap, subst, ◌∙◌, inl, inr, arith}
use Rattle.std.proofs.lemmas.List.{append-nil, drop_all, length-map, take_all, take_more}
use Rattle.std.proofs.lemmas.List.Elements.{Contains-push_cases}
use Rattle.std.proofs.lemmas.Option.{same_Some, slice_get_within}
use Rattle.std.specs.Prelude.{IfSome}
use Rattle.word_relations.proofs.Members.{Contains-nil_cases}
use Rattle.expr_kinds.specs.Atoms.{kind_at}
use Rattle.fsm_base.specs.Alphabet.{symbols_of, texts_of}
use Rattle.fsm_base.specs.Symbols.{number_of}
use Rattle.fsm_base.specs.declared.letters.Sym.{Sym}
use Rattle.project_definitions.specs.declared.definition.Definition.{Definition}
use Rattle.project_definitions.proofs.Numbers.{at_number}
use Rattle.project_definitions.proofs.Referring.{at_map}
use Rattle.project_store.specs.Loaded.{LoadedView}
use Rattle.touched_names.specs.Itself.{names_in, places_among}
use Rattle.touched_names.specs.Places.{IsMarked}
use Rattle.touched_names.specs.Staying.{IsSameAt}
use Rattle.touched_names.proofs.Numbers.{held_below}
use Rattle.project_versions.specs.Keeping.{IsKept, IsServing, KeepNumbers}
use Rattle.project_versions.specs.Networks.{AreReady}
use Rattle.project_versions.specs.declared.networks.Built.{Built}
use Rattle.project_versions.proofs.Readying.{push_each}

-- a place is marked or not, not both
clash_mark : ◌≡◌ {A = Option Bool} (Some true) (Some false) → ⊥
clash_mark e = cc

-- what a slice of all that a list has leaves there
pub written_back : (old new : List Bool) (n : ℕ) → length new ≡ length old → n ≡ length old → take n (new ++ drop (length new) old) ≡ new
written_back old new n same is =
    ap (λ (rest : List Bool). take n (new ++ rest)) (drop_all (length new) old (omega (arith, same))) ∙ ap (take n) (append-nil new) ∙ take_all n new (omega (arith, same, is))

-- the marks of a front of the places, and of one more
abbrev pub AreMarkedIn : ℕ → List ℕ → List Bool → Type 0
AreMarkedIn count places marks = (place : ℕ) → place < count → Contains places place → IsMarked marks place

pub none_marked : (count : ℕ) (marks : List Bool) → AreMarkedIn count [] marks
none_marked count marks place below among = absurd (Contains-nil_cases place among)

pub more_marked : (count : ℕ) (places : List ℕ) (i : ℕ) (old new : List Bool) → i < length places → (get_or places i 0 < count → IsMarked new (get_or places i 0)) → ((other : ℕ) → IsMarked old other → IsMarked new other)
    → AreMarkedIn count (take i places) old → AreMarkedIn count (take (i + 1) places) new
more_marked count places i old new inside here stay so_far place below among =
    elim (Contains-push_cases (take i places) (get_or places i 0) place (subst (λ (ps : List ℕ). Contains ps place) (take_more places i 0 inside) among)) as (λ _. IsMarked new place) [
      | inl before ↦ stay place (so_far place below before)
      | inr same ↦ subst (IsMarked new) same (here (subst (λ (k : ℕ). k < count) (sym same) below))
    ]

pub all_marked : (count : ℕ) (places : List ℕ) (i : ℕ) (marks : List Bool) → length places ≤ i → AreMarkedIn count (take i places) marks → AreMarkedIn count places marks
all_marked count places i marks past so_far = subst (λ (ps : List ℕ). AreMarkedIn count ps marks) (take_all i places past) so_far

-- all old symbols keep their numbers
pub keep_numbers : (old new : LoadedView) (same : List Bool) (count : ℕ) → count ≡ length (symbols_of old.alphabet) → ((place : ℕ) → IsMarked same place ↔ IsSameAt (texts_of old.alphabet) (texts_of new.alphabet) place)
    → ((place : ℕ) → place < count → IsMarked same place) → KeepNumbers old new
keep_numbers old new same count count_is marked all number below =
    let symbols = length-map old.alphabet (λ (entry : Sym × List ℕ). entry.0) in
    let texts = length-map old.alphabet (λ (entry : Sym × List ℕ). entry.1) in
    (marked number).0 (all number (omega (arith, below, count_is, symbols, texts)))

-- what is so of an item that there is
pub of_item : {X : Type 0} (o : Option X) (P : X → Type 0) (x : X) → o ≡ Some x → IfSome o P → P x
of_item None P x is h = let never : None ≡ Some x = is in absurd (cc)
of_item (Some y) P x is h = subst P (same_Some y x is) h

-- what is kept so far
abbrev pub KeptSoFar : LoadedView → List Built → LoadedView → List ℕ → List (Option Built) → Type 0
KeptSoFar old networks new touched kept = (place : ℕ) (b : Built) → slice_get kept place ≡ Some (Some b) → IsKept old networks new touched place b

pub none_kept : (old : LoadedView) (networks : List Built) (new : LoadedView) (touched : List ℕ) → KeptSoFar old networks new touched []
none_kept old networks new touched place b at = let never : ◌≡◌ {A = Option (Option Built)} None (Some (Some b)) = at in absurd (cc)

pub more_kept : (old : LoadedView) (networks : List Built) (new : LoadedView) (touched : List ℕ) (kept : List (Option Built)) (found : Option Built) → KeptSoFar old networks new touched kept
    → ((b : Built) → found ≡ Some b → IsKept old networks new touched (length kept) b) → KeptSoFar old networks new touched (kept ++ found ∷ [])
more_kept old networks new touched kept found so_far here place b at =
    push_each (λ (k : ℕ) (o : Option Built). (x : Built) → o ≡ Some x → IsKept old networks new touched k x) kept found
    (λ k o o_at x is. so_far k x (o_at ∙ ap (λ (y : Option Built). Some y) is)) here place (Some b) at b refl

module _ (old new : LoadedView) (networks : List Built) (ready : AreReady old networks) (touched numbers : List ℕ) (numbers_are : numbers ≡ places_among (names_in old.definitions) (names_in new.definitions)) (marks : List Bool)
    (marked : AreMarkedIn (length numbers) touched marks) (place : ℕ) where
  -- the network at the number of a name is one of the name
  pub kept_here : (flag : Bool) → slice_get marks place ≡ Some flag → flag ≡ false → KeepNumbers old new → (number : ℕ) → slice_get numbers place ≡ Some number → (b : Built) → IsServing networks number (kind_at new.forms place) b
      → IsKept old networks new touched place b
  kept_here flag flag_at clear keep number number_at b serving =
      let (name, at, is) = at_map (λ (text : List ℕ). number_of text (names_in old.definitions)) (names_in new.definitions) place number (ap (λ (ns : List ℕ). slice_get ns place) (sym numbers_are) ∙ number_at) in
      let below = slice_get_within networks number serving.one serving.there in
      let count = ready.free.are.count in
      let size = length-map networks (λ (x : Built). Some x.network) in
      let named = length-map old.definitions (λ (d : Definition). d.name) in
      let held = held_below name (names_in old.definitions) (omega (arith, below, count, size, named, is)) in
      record {
        before = number;
        name = name;
        was_there = subst (λ (k : ℕ). slice_get (names_in old.definitions) k ≡ Some name) is (at_number (names_in old.definitions) name held);
        is_there = at;
        untouched = λ among. clash_mark (sym (marked place (slice_get_within numbers place number number_at) among) ∙ flag_at ∙ ap (λ (f : Bool). Some f) clear);
        serving = serving;
        numbers = keep;
      }
