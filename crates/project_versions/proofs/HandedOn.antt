-- The networks that a new project keeps of an old version are those of its definitions, and none of these has or reaches an empty centre.
use Rattle.std.proofs.Common.{◌≡◌, ◌<◌, ℕ, List, [], ◌∷◌, length, Contains, Option, Some, None, slice_get, zero, suc, refl, sym, ap, subst, ◌∙◌, inl, inr, arith}
use Rattle.std.specs.Option.{option_map}
use Rattle.std.proofs.lemmas.List.{length-map}
use Rattle.std.proofs.lemmas.List.Elements.{All-contains_itself, All-weaker}
use Rattle.std.proofs.lemmas.Option.{get_or_from_slice_get, same_Some, slice_get-map, slice_get_within}
use Rattle.word_relations.specs.Relations.{AreSame}
use Rattle.word_relations.specs.Words.{IsDistinct, IsOver}
use Rattle.word_relations.proofs.Members.{Contains-cons_cases, Contains-head, Contains-map, Contains-map_cases, Contains-tail}
use Rattle.word_relations.proofs.Places.{Contains-from_slice_get, slice_get_from_Contains, same_at}
use Rattle.fsm_base.specs.Alphabet.{spelled, symbols_of, text_of, texts_of}
use Rattle.fsm_base.specs.Symbols.{number_of}
use Rattle.fsm_base.specs.declared.letters.Bound.{Bound}
use Rattle.fsm_base.specs.declared.letters.Bound.TheVariants.{Edge, Inner}
use Rattle.fsm_base.specs.declared.letters.Sym.{Sym}
use Rattle.expr_spelling.specs.Laws.{IsSpelled}
use Rattle.expr_meaning.specs.Operators.{inner}
use Rattle.lookup_walk.proofs.Related.{symbols_above, symbols_below}
use Rattle.lookup.specs.Nets.{NetView}
use Rattle.network_algebra.specs.Networks.{IsNetwork, PairsOf, all_letters}
use Rattle.network_algebra.specs.declared.network.Network.{Network}
use Rattle.network_algebra.specs.declared.network.Network.TheVariants.{Words, Pairs, Flagged}
use Rattle.project_meaning.specs.Centres.{HasOwnEmptyCentre}
use Rattle.project_meaning.specs.Meaning.{Meaning, Word}
use Rattle.project_meaning.specs.Projects.{Defines, Definition as Meant, Project, Reaches, Written, at_once, definition_in, further, names_of}
use Rattle.project_meaning.specs.Touched.{Touched}
use Rattle.project_definitions.specs.declared.definition.Definition.{Definition}
use Rattle.project_definitions.proofs.Referring.{at_map}
use Rattle.project_model.specs.Numbered.{numbers_in}
use Rattle.project_model.proofs.Alphabets.{symbols_of-listed, text_of-listed}
use Rattle.project_sources.specs.Sources.{Said, project_in}
use Rattle.project_store.specs.Building.{IsBuiltAt}
use Rattle.project_store.specs.Centres.{AreFree, IsBarred, IsFree, OfPlace}
use Rattle.project_store.specs.Loaded.{IsLoadedFrom, LoadedView}
use Rattle.project_store.proofs.Shown.{defined_here, names_differ, said_names}
use Rattle.project_store.proofs.Trying.{named_by, within_said}
use Rattle.touched_names.specs.Itself.{names_in}
use Rattle.touched_names.specs.Staying.{IsOrderly, Stays}
use Rattle.touched_names.specs.Touched.{AreTouched}
use Rattle.touched_names.proofs.Each.{each_twice}
use Rattle.touched_names.proofs.Keeping.{untouched_names_stay}
use Rattle.touched_names.proofs.Numbers.{number_at_place}
use Rattle.touched_names.proofs.Untouched.{touch_spreads}
use Rattle.project_versions.specs.Keeping.{IsKept, KeepNumbers, part_in, parts_in}
use Rattle.project_versions.specs.Networks.{AreKeptIn, AreReady, IsReady, net_in}
use Rattle.project_versions.specs.declared.networks.Built.{Built}
use Rattle.project_versions.proofs.Readying.{listed_at}

-- the symbol of a text, by its place in a table
abbrev numbered_as : List (List ℕ) → List ℕ → Sym
numbered_as table text = record { 0 = number_of text table }

-- a project that is loaded, and the numbers of its symbols
module _ (said : Said) (loaded : LoadedView) (from : IsLoadedFrom said loaded) where
  abbrev table : List (List ℕ)
  table = (project_in said).alphabet

  symbols_are : symbols_of loaded.alphabet ≡ numbers_in table table
  symbols_are = ap symbols_of from.alphabet ∙ symbols_of-listed table (numbers_in table table)

  texts_differ : IsDistinct table
  texts_differ = subst IsDistinct from.texts from.formed.apart

  in_table : (s : Sym) (text : List ℕ) → slice_get (texts_of loaded.alphabet) s.0 ≡ Some text → slice_get table s.0 ≡ Some text
  in_table s text at = subst (λ (t : List (List ℕ)). slice_get t s.0 ≡ Some text) from.texts at

  -- a symbol is of the alphabet that has a text at the place of its number
  symbol_here : (s : Sym) (text : List ℕ) → slice_get (texts_of loaded.alphabet) s.0 ≡ Some text → Contains (symbols_of loaded.alphabet) s
  symbol_here s text at =
      let number : number_of text table ≡ s.0 = number_at_place table texts_differ s.0 text (in_table s text at) in
      let held : Contains (numbers_in table table) (numbered_as table text) = Contains-map (numbered_as table) table text (Contains-from_slice_get table s.0 text (in_table s text at)) in
      let same : numbered_as table text ≡ s = λ i. record { 0 = number i } in
      subst (λ (z : List Sym). Contains z s) (sym symbols_are) (subst (Contains (numbers_in table table)) same held)

  -- and that is its text
  text_here : (s : Sym) (text : List ℕ) → slice_get (texts_of loaded.alphabet) s.0 ≡ Some text → text_of loaded.alphabet s ≡ text
  text_here s text at =
      ap (λ (a : List (Sym × List ℕ)). text_of a s) from.alphabet
      ∙ text_of-listed table (numbers_in table table) s (subst (λ (z : List Sym). Contains z s) symbols_are (symbol_here s text at))
      ∙ get_or_from_slice_get table s.0 text [] (in_table s text at)

  -- the number of a symbol is within the alphabet
  number_below : (s : Sym) → Contains (symbols_of loaded.alphabet) s → s.0 < length (texts_of loaded.alphabet)
  number_below s among =
      let (text, there, is) = Contains-map_cases (numbered_as table) table s (subst (λ (z : List Sym). Contains z s) symbols_are among) in
      let (k, at) = slice_get_from_Contains table text there in
      let number : number_of text table ≡ k = number_at_place table texts_differ k text at in
      let below = slice_get_within table k text at in
      let s_is : number_of text table ≡ s.0 = ap (λ (z : Sym). z.0) is in
      let size = ap (λ (t : List (List ℕ)). length t) from.texts in
      omega (arith, below, number, s_is, size)

  -- each definition has a name of its own, each name in one is defined, and none reaches itself
  pub orderly : IsOrderly (project_in said)
  orderly = record {
    closed = from.sound.closed;
    acyclic = from.sound.acyclic;
    names = subst IsDistinct (sym (each_twice (λ (d : Meant). d.name) (definition_in (names_of said.written)) (λ (w : Written). w.name) (λ w. refl) said.written)) (names_differ said loaded from);
  }

  -- the name at a place, as it was said
  pub name_said : (place : ℕ) (name : List ℕ) → slice_get (names_in loaded.definitions) place ≡ Some name → slice_get (names_of said.written) place ≡ Some name
  name_said place name at = subst (λ (ns : List (List ℕ)). slice_get ns place ≡ Some name) (said_names said loaded from) at

  -- no definition of a version has an own empty centre
  pub none_own : (networks : List Built) → AreReady loaded networks → (name : List ℕ) → HasOwnEmptyCentre (project_in said) name → ⊥
  none_own networks ready name own =
      let (w, written, is) = Contains-map_cases (definition_in (names_of said.written)) said.written own.0 own.1 in
      let (k, w_at) = slice_get_from_Contains said.written w written in
      let below = within_said said loaded from k w w_at in
      let count = ready.free.are.count in
      let size = length-map networks (λ (x : Built). Some x.network) in
      let (b, b_at) = item_at networks k (omega (arith, below, count, size)) in
      let w_named : w.name ≡ name = ap (λ (x : Meant). x.name) is ∙ own.2 in
      ready.free.free k b.network (listed_at loaded networks ready k b b_at) said from w.name (named_by said loaded from k w w_at)
      (inl (subst (HasOwnEmptyCentre (project_in said)) (sym w_named) own))
    where
      item_at : {X : Type 0} (xs : List X) (k : ℕ) → k < length xs → (x : X) × (slice_get xs k ≡ Some x)
      item_at [] k below = absurd (omega (arith, below))
      item_at (x ∷ xs) zero below = (x, refl)
      item_at (x ∷ xs) (suc k) below = item_at xs k (omega (arith, below))

-- what a name reaches is defined
reached_defined : (project : Project) → IsOrderly project → (name other : List ℕ) → Reaches project name other → Defines project other
reached_defined project orderly name other (at_once refers) = orderly.closed name other refers
reached_defined project orderly name other (further {next = next} refers more) = reached_defined project orderly next other more

-- an old version and a new project, where each old symbol has its number in the new alphabet
module _ (was is : Said) (old new : LoadedView) (from_old : IsLoadedFrom was old) (from_new : IsLoadedFrom is new) (numbers : KeepNumbers old new) where
  symbol_stays : (s : Sym) → Contains (symbols_of old.alphabet) s → Contains (symbols_of new.alphabet) s × (text_of old.alphabet s ≡ text_of new.alphabet s)
  symbol_stays s among =
      let (text, at_old, at_new) = numbers s.0 (number_below was old from_old s among) in
      (symbol_here is new from_new s text at_new, text_here was old from_old s text at_old ∙ sym (text_here is new from_new s text at_new))

  spelled_same : (word : List Sym) → ((s : Sym) → Contains word s → Contains (symbols_of old.alphabet) s) → spelled old.alphabet word ≡ spelled new.alphabet word
  spelled_same [] over = refl
  spelled_same (s ∷ word) over =
      let first = (symbol_stays s (over s (Contains-head s word))).1 in
      let rest = spelled_same word (λ t among. over t (Contains-tail s word t among)) in
      λ i. first i ∷ rest i

  word_over : (word : List Sym) → ((s : Sym) → Contains word s → Contains (symbols_of old.alphabet) s) → IsOver (symbols_of new.alphabet) word
  word_over word over = All-weaker (Contains word) (Contains (symbols_of new.alphabet)) (λ s among. (symbol_stays s (over s among)).0) word (All-contains_itself word)

  -- a network over the old alphabet is over the new one
  pub network_over : (n : Network) → IsNetwork (symbols_of old.alphabet) n → IsNetwork (symbols_of new.alphabet) n
  network_over (Words m) over = λ x used. letter_over x (over x used)
    where
      letter_over : (x : Bound Sym) → Contains (all_letters (symbols_of old.alphabet)) x → Contains (all_letters (symbols_of new.alphabet)) x
      letter_over Edge among = Contains-head Edge (inner (symbols_of new.alphabet))
      letter_over (Inner s) among = elim (Contains-cons_cases Edge (inner (symbols_of old.alphabet)) (Inner s) among) as (λ _. Contains (all_letters (symbols_of new.alphabet)) (Inner s)) [
        | inl is ↦ cc
        | inr there ↦
            let (t, held, same) = Contains-map_cases (λ (z : Sym). Inner z) (symbols_of old.alphabet) (Inner s) there in
            Contains-tail Edge (inner (symbols_of new.alphabet)) (Inner s)
            (subst (Contains (inner (symbols_of new.alphabet))) same (Contains-map (λ (z : Sym). Inner z) (symbols_of new.alphabet) t (symbol_stays t held).0))
      ]
  network_over (Pairs m) over = record { upper = λ s used. (symbol_stays s (over.upper s used)).0; lower = λ s used. (symbol_stays s (over.lower s used)).0 }
  network_over (Flagged f) over = record { upper = λ s used small. (symbol_stays s (over.upper s used small)).0; lower = λ s used. (symbol_stays s (over.lower s used)).0 }

  -- and what it spells over the old alphabet it spells over the new one
  pub spelling_stays : (n : Network) (net : NetView) → IsReady n net → IsNetwork (symbols_of old.alphabet) n → (T U : Word → Word → Type 0) → AreSame T U → IsSpelled old.alphabet (PairsOf n) T → IsSpelled new.alphabet (PairsOf n) U
  spelling_stays n net ready over T U alike spells = record {
    over = λ upper lower related. (word_over upper (above upper lower related), word_over lower (below upper lower related));
    same = λ u w. (
      λ means. (let i = (spells.same u w).0 ((alike u w).1 means) in (i.0, i.1, i.2, i.3 ∙ spelled_same i.0 (above i.0 i.1 i.2), i.4 ∙ spelled_same i.1 (below i.0 i.1 i.2))),
      λ (upper, lower, related, u_is, w_is).
          (alike u w).0 ((spells.same u w).1 (upper, lower, related, u_is ∙ sym (spelled_same upper (above upper lower related)), w_is ∙ sym (spelled_same lower (below upper lower related)))),
    );
  }
    where
      above : (upper lower : List Sym) → PairsOf n upper lower → (s : Sym) → Contains upper s → Contains (symbols_of old.alphabet) s
      above upper lower related = symbols_above old.alphabet net (ready.over old.alphabet over) upper lower ((ready.relation upper lower).1 related)

      below : (upper lower : List Sym) → PairsOf n upper lower → (s : Sym) → Contains lower s → Contains (symbols_of old.alphabet) s
      below upper lower related = symbols_below old.alphabet net (ready.over old.alphabet over) upper lower ((ready.relation upper lower).1 related)

-- the places that are touched, whatever was said of both
abbrev pub AreTouchedIn : LoadedView → LoadedView → List ℕ → Type 0
AreTouchedIn old new touched = (was is : Said) → IsLoadedFrom was old → IsLoadedFrom is new → AreTouched (project_in was) (project_in is) new.definitions touched

-- a network that is kept at a place
module _ (was : Said) (old : LoadedView) (from_old : IsLoadedFrom was old) (networks : List Built) (ready : AreReady old networks) (new : LoadedView) (touched : List ℕ) (are : AreTouchedIn old new touched)
    (place : ℕ) (b : Built) (kept : IsKept old networks new touched place b) where
  abbrev one : Built
  one = kept.serving.one

  good : IsBuiltAt old kept.before one.network
  good = ready.free.are.each kept.before one.network (listed_at old networks ready kept.before one kept.serving.there)

  pub ready_there : IsReady b.network (net_in b)
  ready_there =
      subst (λ (n : Network). IsReady n (net_in b)) (sym kept.serving.same.network)
      (subst (IsReady one.network) (sym kept.serving.same.net) (ready.each kept.before one kept.serving.there))

  module _ (is : Said) (from_new : IsLoadedFrom is new) where
    abbrev before : Project
    before = project_in was

    abbrev now : Project
    now = project_in is

    here : (d : Definition) × (slice_get new.definitions place ≡ Some d) × (d.name ≡ kept.name)
    here = at_map (λ (d : Definition). d.name) new.definitions place kept.name kept.is_there

    untouched : Touched before now kept.name → ⊥
    untouched h =
        kept.untouched (((are was is from_old from_new).places.all place).1 (here.0, here.1, subst (Touched before now) (sym here.2) h))

    stays : (name : List ℕ) → Defines now name → (Touched before now name → ⊥) → Stays before now name
    stays = untouched_names_stay before now (orderly was old from_old) (orderly is new from_new)

    defined : Defines now kept.name
    defined = defined_here is new from_new place here.0 here.1 kept.name here.2

    -- the name at the place is the one
    name_is : (name : List ℕ) → slice_get (names_of is.written) place ≡ Some name → kept.name ≡ name
    name_is name at = same_at (names_of is.written) place kept.name name (name_said is new from_new place kept.name kept.is_there) at

    means_here : IsSpelled new.alphabet (PairsOf one.network) (Meaning now kept.name)
    means_here =
        spelling_stays was is old new from_old from_new kept.numbers one.network (net_in one) (ready.each kept.before one kept.serving.there) good.over (Meaning before kept.name) (Meaning now kept.name)
        (stays kept.name defined untouched).meaning (good.means was from_old kept.name (name_said was old from_old kept.before kept.name kept.was_there))

    free_here : IsBarred now kept.name → ⊥
    free_here (inl own) = none_own was old from_old networks ready kept.name ((stays kept.name defined untouched).centre.1 own)
    free_here (inr (other, reaches, own)) =
        none_own was old from_old networks ready other
        ((stays other (reached_defined now (orderly is new from_new) kept.name other reaches) (λ h. untouched (touch_spreads before now kept.name other reaches h))).centre.1 own)

  pub built_there : (is : Said) → IsLoadedFrom is new → IsBuiltAt new place b.network
  built_there is from_new = record {
    kind = kept.serving.of_kind;
    over = subst (IsNetwork (symbols_of new.alphabet)) (sym kept.serving.same.network) (network_over was is old new from_old from_new kept.numbers one.network good.over);
    means = λ said from name at.
        subst (λ (n : Network). IsSpelled new.alphabet (PairsOf n) (Meaning (project_in said) name)) (sym kept.serving.same.network)
        (subst (λ (x : List ℕ). IsSpelled new.alphabet (PairsOf one.network) (Meaning (project_in said) x)) (name_is said from name at) (means_here said from));
  }

  pub free_there : OfPlace new place IsFree
  free_there said from name at = subst (IsFree (project_in said)) (name_is said from name at) (free_here said from)

-- all that are kept
module _ (was is : Said) (old new : LoadedView) (from_old : IsLoadedFrom was old) (from_new : IsLoadedFrom is new) (networks : List Built) (ready : AreReady old networks) (touched : List ℕ) (are : AreTouchedIn old new touched)
    (kept : List (Option Built)) (size : length kept ≡ length new.definitions) (each : (place : ℕ) (b : Built) → slice_get kept place ≡ Some (Some b) → IsKept old networks new touched place b) where
  part_at : (place : ℕ) (n : Network) → slice_get (parts_in kept) place ≡ Some (Some n) → (b : Built) × (slice_get kept place ≡ Some (Some b)) × (b.network ≡ n)
  part_at place n at = let (o, o_at, is) = at_map part_in kept place (Some n) at in by o o_at is
    where
      by : (o : Option Built) → slice_get kept place ≡ Some o → part_in o ≡ Some n → (b : Built) × (slice_get kept place ≡ Some (Some b)) × (b.network ≡ n)
      by None o_at is = let never : ◌≡◌ {A = Option Network} None (Some n) = is in absurd (cc)
      by (Some b) o_at is = (b, o_at, same_Some b.network n is)

  pub parts_free : AreFree new (parts_in kept)
  parts_free = record {
    are = record {
      count = length-map kept part_in ∙ size;
      each = λ place n at. (let (b, b_at, same) = part_at place n at in subst (IsBuiltAt new place) same (built_there was old from_old networks ready new touched are place b (each place b b_at) is from_new));
    };
    free = λ place n at. (let (b, b_at, same) = part_at place n at in free_there was old from_old networks ready new touched are place b (each place b b_at));
  }

  pub parts_kept : AreKeptIn kept (parts_in kept)
  parts_kept place b at = record {
    there = slice_get-map part_in kept place ∙ ap (option_map part_in) at;
    ready = ready_there was old from_old networks ready new touched are place b (each place b at);
  }
