-- The network of a definition shows what the project says of its name.
use Rattle.std.proofs.Common.{◌≡◌, ◌↔◌, ℕ, Bool, false, List, [], ◌∷◌, map, Option, Some, None, is_some, MatchOption, IsTrue, refl, sym, ap, subst, ◌∙◌, inl, inr, slice_get, All}
use Rattle.std.proofs.lemmas.List.Elements.{All-contains}
use Rattle.std.proofs.lemmas.Option.{slice_get-get_or, slice_get-map, same_Some}
use Rattle.std.specs.List.{Contains, flat_map}
use Rattle.std.specs.Option.{option_map}
use Rattle.word_relations.specs.Relations.{AreSame}
use Rattle.word_relations.specs.Words.{IsDistinct}
use Rattle.word_relations.proofs.Members.{Contains-nil_cases, Contains-cons_cases, Contains-head, Contains-tail, Contains-map, Contains-map_cases}
use Rattle.word_relations.proofs.Places.{Contains-from_slice_get}
use Rattle.fsm_base.specs.Alphabet.{spelled, symbols_of, text_of as text_of_number, texts_of}
use Rattle.fsm_base.specs.Symbols.{number_of}
use Rattle.fsm_base.proofs.AlphabetLemmas.{text_of-pair}
use Rattle.fsm_base.specs.declared.letters.Sym.{Sym}
use Rattle.regex_ast.specs.Terms.{Term}
use Rattle.regex_ast.specs.declared.expr.Atom.{Atom}
use Rattle.regex_ast.specs.declared.expr.Raw.{Raw}
use Rattle.expr_meaning.specs.Meaning.{In, Relates}
use Rattle.expr_kinds.specs.Atoms.{is_symbol_of}
use Rattle.expr_kinds.specs.Built.{IsBuilt, IsBuiltBy}
use Rattle.expr_spelling.specs.Laws.{IsSpelled}
use Rattle.expr_leaves.specs.Mapped.{mapped}
use Rattle.expr_spelling.proofs.Leaves.{symbols_spelled}
use Rattle.expr_spelling.proofs.Spelling.{spelling, spelling_empty}
use Rattle.network_algebra.specs.Networks.{PairsOf}
use Rattle.network_algebra.specs.declared.network.Network.{Network}
use Rattle.network_expr.specs.Parts.{is_leaf_of, named, part_of, stands}
use Rattle.network_expr.specs.declared.parts.Part.{Part}
use Rattle.network_centres.proofs.Within.{built_within}
use Rattle.network_build.specs.Networks.{BodyHasEmptyCentre, IsRelationOf}
use Rattle.network_build.proofs.Built.{built_both}
use Rattle.network_lexicons.specs.Plain.{symbol_in}
use Rattle.expr_spelling.specs.Mapped.{mapped_lexicon}
use Rattle.project_store.proofs.Resolved.{resolved_mapped}
use Rattle.expr_spelling.proofs.LexiconSpelling.{lexicons_spelled}
use Rattle.project_meaning.specs.Centres.{HasOwnEmptyCentre, centres_in}
use Rattle.grammar_pairs.specs.Laws.{HasLeaves}
use Rattle.grammar_pairs.specs.Mapped.{mapped_grammar}
use Rattle.grammar_pairs.specs.Plain.{IsFormed as GrammarIsFormed}
use Rattle.grammar_pairs.specs.Texts.{in_text}
use Rattle.project_meaning.specs.Trees.{Body, Grammar, Lexicon, xfst, lexc, twolc}
use Rattle.project_meaning.specs.Grammars.{GrammarRelates}
use Rattle.project_meaning.specs.Lexicons.{LexiconsRelate, text_in}
use Rattle.project_meaning.specs.Leaves.{Leaf, symbol, named as named_leaf, expressions_of, leaf_of, resolved, resolved_grammar, symbol_of, written as text_of}
use Rattle.project_meaning.specs.Projects.{Defines, Definition as Meant, Written, definition_in, names_of}
use Rattle.project_meaning.specs.Meaning.{InExpression, Word, BodyRelates, Meaning, NameRelates, stands_for as means_by}
use Rattle.project_meaning.proofs.Depths.{names_unfold}
use Rattle.project_meaning.proofs.Places.{in_flat}
use Rattle.lookup.specs.Answering.{IsOverAlphabet}
use Rattle.lookup.specs.Nets.{NetView, NetRelates}
use Rattle.project_sources.specs.Built.{BodyIsBuiltBy, LexiconIsBuiltBy}
use Rattle.project_sources.specs.Sources.{Said, project_in}
use Rattle.name_resolution.specs.Numbered.{numbered}
use Rattle.project_model.specs.Numbered.{IsBodyOver, is_leaf_over, is_symbol_over}
use Rattle.name_resolution.specs.Resolved.{atom_of}
use Rattle.project_model.specs.Plans.{IsSoundOver}
use Rattle.project_model.specs.Sound.{IsSound}
use Rattle.project_definitions.specs.Bodies.{IsFormed, mapped_body}
use Rattle.project_definitions.specs.Plain.{body_of}
use Rattle.project_definitions.specs.Entries.{Entry, entry_in, entry_of}
use Rattle.project_definitions.proofs.Numbers.{at_number}
use Rattle.project_definitions.proofs.Bodies.{expressions_mapped, expressions_resolved}
use Rattle.project_definitions.proofs.Expressions.{names_said}
use Rattle.name_resolution.proofs.GrammarLeaves.{leaf_cases}
use Rattle.name_resolution.proofs.Mapped.{mapped_twice}
use Rattle.project_definitions.proofs.Mapped.{mapped_built}
use Rattle.project_definitions.proofs.Referring.{at_map}
use Rattle.project_definitions.specs.declared.definition.Definition.{Definition}
use Rattle.project_store.specs.Building.{IsBuiltAt}
use Rattle.project_store.specs.Centres.{body_centres}
use Rattle.project_store.specs.Loaded.{IsLoadedFrom, LoadedView}
use Rattle.project_store.specs.Networks.{ShowsName}
use Rattle.project_store.proofs.Bodies.{centres_mapped, expressions_built, expressions_twice, flat_cases, lexicons_built, lexicons_twice}
use Rattle.project_store.proofs.Grammars.{texts_back}
use Rattle.project_store.proofs.Parts.{part_found}
use Rattle.project_store.proofs.Spelled.{entry_held, held_any, numbered_as}

-- what stands in one of two lists that are made alike has its like in the other
pub made_alike : {X Y Z : Type 0} (f : X → Z) (g : Y → Z) (xs : List X) (ys : List Y) (x : X) → map f xs ≡ map g ys → Contains xs x → (y : Y) × Contains ys y × (f x ≡ g y)
made_alike f g [] ys x is among = absurd (Contains-nil_cases x among)
made_alike f g (a ∷ xs) [] x is among = let e : f a ∷ map f xs ≡ [] = is in cc
made_alike {X} {Y} f g (a ∷ xs) (b ∷ ys) x is among =
    let e : f a ∷ map f xs ≡ g b ∷ map g ys = is in
    let head : f a ≡ g b = cc in
    let tail : map f xs ≡ map g ys = cc in
    elim (Contains-cons_cases a xs x among) as (λ _. (y : Y) × Contains (b ∷ ys) y × (f x ≡ g y)) [
      | inl same ↦ (b, Contains-head b ys, ap f (sym same) ∙ head)
      | inr behind ↦ let r = made_alike f g xs ys x tail behind in (r.0, Contains-tail b ys r.0 r.1, r.2)
    ]

-- definitions with different names that have the same name are the same
pub one_of_name : (ds : List Written) → IsDistinct (names_of ds) → (a b : Written) → Contains ds a → Contains ds b → a.name ≡ b.name → a ≡ b
one_of_name ds distinct a b (i, below, is) (j, within, is') same =
    let at = slice_get-get_or ds i a below ∙ ap (λ (x : Written). Some x) is in
    let at' = slice_get-get_or ds j b within ∙ ap (λ (x : Written). Some x) is' in
    let places : i ≡ j = distinct i j b.name (named i a at ∙ ap (λ (n : List ℕ). Some n) same) (named j b at') in
    same_Some a b (sym at ∙ ap (slice_get ds) places ∙ at')
  where
    named : (k : ℕ) (d : Written) → slice_get ds k ≡ Some d → slice_get (names_of ds) k ≡ Some d.name
    named k d d_at = slice_get-map (λ (d : Written). d.name) ds k ∙ ap (option_map (λ (d : Written). d.name)) d_at

never : IsTrue false → ⊥
never e = cc

-- the same relation of numbers is the same of texts
pub spelled_too : (alphabet : List (Sym × List ℕ)) → {R S : List Sym → List Sym → Type 0} {T : Word → Word → Type 0} → AreSame R S → IsSpelled alphabet S T → IsSpelled alphabet R T
spelled_too alphabet same spelled_as = record {
  over = λ upper lower h. spelled_as.over upper lower ((same upper lower).0 h);
  same = λ u v. (
    λ r. (let i = (spelled_as.same u v).0 r in (i.0, i.1, (same i.0 i.1).1 i.2, i.3, i.4)),
    λ (upper, lower, related, e, e'). (spelled_as.same u v).1 (upper, lower, (same upper lower).0 related, e, e'),
  );
}

module _ (said : Said) (loaded : LoadedView) (from : IsLoadedFrom said loaded) where
  abbrev names : List (List ℕ)
  names = names_of said.written

  abbrev table : List (List ℕ)
  table = (project_in said).alphabet

  pub said_names : map (λ (d : Definition). d.name) loaded.definitions ≡ names
  said_names = names_said names table loaded.definitions said.written from.definitions

  pub names_differ : IsDistinct names
  names_differ = subst IsDistinct said_names from.plan.names

  -- a definition of the project is one that is written
  written_of : (e : Meant) → Contains (project_in said).definitions e → (w : Written) × Contains said.written w × (definition_in names w ≡ e)
  written_of e among = Contains-map_cases (definition_in names) said.written e among

  -- a name without definition
  pub shows_none : (name : List ℕ) → ((d : Definition) → Contains loaded.definitions d → d.name ≡ name → ⊥) → ¬ (Defines (project_in said) name)
  shows_none name none (e, among, named) =
      let w = written_of e among in
      let d = made_alike (entry_in names table) entry_of said.written loaded.definitions w.0 (sym from.definitions) w.1 in
      none d.0 d.1 (sym (ap (λ (x : Entry). x.name) d.2) ∙ ap (λ (x : Meant). x.name) w.2 ∙ named)

  -- the definition at a place, and what was written there
  module _ (place : ℕ) (d : Definition) (at : slice_get loaded.definitions place ≡ Some d) where
    pub found : (w : Written) × (slice_get said.written place ≡ Some w) × (entry_in names table w ≡ entry_of d)
    found =
        at_map (entry_in names table) said.written place (entry_of d)
        (ap (λ (es : List Entry). slice_get es place) (sym from.definitions) ∙ slice_get-map entry_of loaded.definitions place ∙ ap (option_map entry_of) at)

    abbrev w : Written
    w = found.0

    w_among : Contains said.written w
    w_among = Contains-from_slice_get said.written place w found.1

    w_is : entry_of d ≡ entry_in names table w
    w_is = sym found.2

    abbrev m : Meant
    m = definition_in names w

    m_among : Contains (project_in said).definitions m
    m_among = Contains-map (definition_in names) said.written w w_among

    pub name_here : slice_get names place ≡ Some w.name
    name_here = slice_get-map (λ (x : Written). x.name) said.written place ∙ ap (option_map (λ (x : Written). x.name)) found.1

    pub same_name : w.name ≡ d.name
    same_name = ap (λ (x : Entry). x.name) found.2

    pub name_there : (name : List ℕ) → d.name ≡ name → slice_get names place ≡ Some name
    name_there name named = name_here ∙ ap (λ (n : List ℕ). Some n) (same_name ∙ named)

    pub defined_here : (name : List ℕ) → d.name ≡ name → Defines (project_in said) name
    defined_here name named = (m, m_among, same_name ∙ named)

    -- what another definition of this name is
    only : (e : Meant) → Contains (project_in said).definitions e → e.name ≡ w.name → e ≡ m
    only e e_among e_named =
        let other = written_of e e_among in
        let same = one_of_name said.written names_differ other.0 w other.1 w_among (ap (λ (x : Meant). x.name) other.2 ∙ e_named) in
        sym other.2 ∙ ap (definition_in names) same

    -- what is written, and what it is by numbers and by texts
    abbrev raw : Body Raw
    raw = w.body

    abbrev body : Body Atom
    body = body_of d.body

    abbrev meant : Body Leaf
    meant = resolved names raw

    abbrev means : List ℕ → Word → Word → Type 0
    means = Meaning (project_in said)

    by_number : body ≡ mapped_body (numbered names table) meant
    by_number = ap (λ (x : Entry). x.body) w_is

    -- its expressions
    abbrev expressions : List (Term Raw)
    expressions = expressions_of raw

    expressions_by_text : expressions_of meant ≡ map (mapped (leaf_of names)) expressions
    expressions_by_text = expressions_resolved names raw

    expressions_by_number : expressions_of body ≡ map (mapped (atom_of names table)) expressions
    expressions_by_number =
        ap (λ (b : Body Atom). expressions_of b) by_number ∙ expressions_mapped (numbered names table) meant ∙ ap (map (mapped (numbered names table))) expressions_by_text
        ∙ expressions_twice (numbered names table) (leaf_of names) (leaf_of names) expressions

    -- its centres by numbers and by texts
    abbrev centres : List (Term Raw)
    centres = body_centres raw

    centres_by_number : body_centres body ≡ map (mapped (atom_of names table)) centres
    centres_by_number = ap (λ (es : List (Term Atom)). flat_map (λ e. centres_in e) es) expressions_by_number ∙ centres_mapped (atom_of names table) expressions

    centres_by_text : body_centres meant ≡ map (mapped (leaf_of names)) centres
    centres_by_text = ap (λ (es : List (Term Leaf)). flat_map (λ e. centres_in e) es) expressions_by_text ∙ centres_mapped (leaf_of names) expressions

    -- its own empty centres are centres of its expressions
    abbrev OwnCentre : Term Raw → Type 0
    OwnCentre c = InExpression (project_in said) (mapped (leaf_of names) c) []

    own_from : (name : List ℕ) → slice_get names place ≡ Some name → (c : Term Raw) → Contains centres c → OwnCentre c → HasOwnEmptyCentre (project_in said) name
    own_from name at_name c there empty =
        let centre = mapped (leaf_of names) c in (
          m,
          m_among,
          same_Some w.name name (sym name_here ∙ at_name),
          centre,
          subst (λ (cs : List (Term Leaf)). Contains cs centre) (sym centres_by_text) (Contains-map (mapped (leaf_of names)) centres c there),
          empty,
        )

    own_among : (name : List ℕ) → slice_get names place ≡ Some name → HasOwnEmptyCentre (project_in said) name → (c : Term Raw) × Contains centres c × OwnCentre c
    own_among name at_name (e, e_among, e_named, centre, among, empty) =
        let is_name : w.name ≡ name = same_Some w.name name (sym name_here ∙ at_name) in
        let own : Contains (body_centres meant) centre = subst (λ (x : Meant). Contains (body_centres x.body) centre) (only e e_among (e_named ∙ sym is_name)) among in
        let (c, there, is) = Contains-map_cases (mapped (leaf_of names)) centres centre (subst (λ (cs : List (Term Leaf)). Contains cs centre) centres_by_text own) in
        (c, there, subst (λ (x : Term Leaf). InExpression (project_in said) x []) (sym is) empty)

    -- without a centre it has no empty one
    pub no_own_centre : body_centres body ≡ [] → (name : List ℕ) → slice_get names place ≡ Some name → HasOwnEmptyCentre (project_in said) name → ⊥
    no_own_centre none name at_name own =
        let (c, there, empty) = own_among name at_name own in
        let centre = mapped (atom_of names table) c in
        Contains-nil_cases centre (subst (λ (cs : List (Term Atom)). Contains cs centre) (sym centres_by_number ∙ none) (Contains-map (mapped (atom_of names table)) centres c there))

    module _ (parts : List Part) (each : (part : Part) → Contains parts part → IsBuiltAt loaded part.name part.network.now) where
      -- a leaf that is a symbol of the alphabet, or a name with a part
      spells_leaf : Leaf → Bool
      spells_leaf (symbol text) = is_symbol_over table (symbol text)
      spells_leaf (named_leaf name) = is_some (part_of parts (number_of name names))

      symbol_held : (text : List ℕ) → IsTrue (is_symbol_over table (symbol text)) → Contains loaded.alphabet (symbol_in (numbered names table (symbol text)), text)
      symbol_held [] h = absurd (never h)
      symbol_held (b ∷ bs) h =
          subst (λ (z : List (Sym × List ℕ)). Contains z (numbered_as table (b ∷ bs), b ∷ bs)) (sym from.alphabet) (entry_held table (b ∷ bs) (held_any (b ∷ bs) table h))

      symbol_spelled : (text : List ℕ) → IsTrue (is_symbol_over table (symbol text)) → IsSpelled loaded.alphabet (stands parts (numbered names table (symbol text))) (means_by means (symbol text))
      symbol_spelled [] h = absurd (never h)
      symbol_spelled (b ∷ bs) h = symbols_spelled means loaded.alphabet (numbered_as table (b ∷ bs)) (b ∷ bs) from.formed (symbol_held (b ∷ bs) h)

      name_spelled : (name : List ℕ) → Contains names name → IsTrue (is_some (part_of parts (number_of name names))) → IsSpelled loaded.alphabet (named parts (number_of name names)) (means name)
      name_spelled name among h = by (part_of parts (number_of name names)) refl h
        where
          by : (o : Option Part) → part_of parts (number_of name names) ≡ o → IsTrue (is_some o) → IsSpelled loaded.alphabet (named parts (number_of name names)) (means name)
          by None e some = absurd (never some)
          by (Some part) e some =
              let (there, is) = part_found parts (number_of name names) part e in
              let here : slice_get names part.name ≡ Some name = subst (λ (p : ℕ). slice_get names p ≡ Some name) (sym is) (at_number names name among) in
              subst (λ (o : Option Part). IsSpelled loaded.alphabet (λ u v. MatchOption o ⊥ (λ (x : Part). PairsOf x.network.now u v)) (means name)) (sym e) ((each part there).means said from name here)

      leaf_spelled : (leaf : Raw) → IsTrue (spells_leaf (leaf_of names leaf)) → IsSpelled loaded.alphabet (stands parts (atom_of names table leaf)) (means_by means (leaf_of names leaf))
      unfolding spells_leaf
      leaf_spelled leaf h =
          elim (leaf_cases names leaf) as (λ _. IsSpelled loaded.alphabet (stands parts (atom_of names table leaf)) (means_by means (leaf_of names leaf))) [
            | inl (is, among) ↦
                subst (λ (l : Leaf). IsSpelled loaded.alphabet (stands parts (numbered names table l)) (means_by means l)) (sym is)
                (name_spelled (text_of leaf) among (subst (λ (l : Leaf). IsTrue (spells_leaf l)) is h))
            | inr is ↦
                subst (λ (l : Leaf). IsSpelled loaded.alphabet (stands parts (numbered names table l)) (means_by means l)) (sym is)
                (symbol_spelled (text_of leaf) (subst (λ (l : Leaf). IsTrue (spells_leaf l)) is h))
          ]

      -- a symbol by its text, and a name by its part
      leaf_passes : (leaf : Leaf) → IsTrue (is_leaf_over table leaf) → IsTrue (is_leaf_of parts (symbols_of loaded.alphabet) (numbered names table leaf)) → IsTrue (spells_leaf leaf)
      unfolding spells_leaf
      leaf_passes (symbol text) h g = h
      leaf_passes (named_leaf name) h g = g

      letter_passes : (leaf : Leaf) → IsTrue (is_symbol_over table leaf) → IsTrue (spells_leaf leaf)
      unfolding spells_leaf
      letter_passes (symbol text) h = h
      letter_passes (named_leaf name) h = absurd (never h)

      abbrev spells : Raw → Bool
      spells leaf = spells_leaf (leaf_of names leaf)

      abbrev symbols : List Sym
      symbols = symbols_of loaded.alphabet

      sound : IsSound loaded.forms symbols body
      sound = All-contains (IsSoundOver loaded.forms symbols) loaded.definitions d from.plan.sound (Contains-from_slice_get loaded.definitions place d at)

      over : IsBodyOver table meant
      over = All-contains (λ (x : Meant). IsBodyOver table x.body) (project_in said).definitions m from.leaves m_among

      module _ (built : BodyIsBuiltBy (is_leaf_of parts symbols) (is_symbol_of symbols) body) where
        spelled_leaves : (e : Term Raw) → Contains expressions e → IsBuilt spells e
        spelled_leaves e among =
            let texts = subst (All (IsBuiltBy (is_leaf_over table) (is_symbol_over table))) expressions_by_text (expressions_built (is_leaf_over table) (is_symbol_over table) meant over) in
            let by_text =
            subst (λ (T : Type 0). T) (mapped_built (is_leaf_over table) (is_symbol_over table) (leaf_of names) e)
            (All-contains (IsBuiltBy (is_leaf_over table) (is_symbol_over table)) (map (mapped (leaf_of names)) expressions) (mapped (leaf_of names) e) texts (Contains-map (mapped (leaf_of names)) expressions e among)) in
            let numbers = subst (All (IsBuiltBy (is_leaf_of parts symbols) (is_symbol_of symbols))) expressions_by_number (expressions_built (is_leaf_of parts symbols) (is_symbol_of symbols) body built) in
            let by_part =
            subst (λ (T : Type 0). T) (mapped_built (is_leaf_of parts symbols) (is_symbol_of symbols) (atom_of names table) e)
            (All-contains (IsBuiltBy (is_leaf_of parts symbols) (is_symbol_of symbols)) (map (mapped (atom_of names table)) expressions) (mapped (atom_of names table) e) numbers (Contains-map (mapped (atom_of names table)) expressions e among)) in
            built_both (λ leaf. is_leaf_over table (leaf_of names leaf)) (λ leaf. is_symbol_over table (leaf_of names leaf)) (λ leaf. is_leaf_of parts symbols (atom_of names table leaf))
            (λ leaf. is_symbol_of symbols (atom_of names table leaf)) spells (λ leaf h g. leaf_passes (leaf_of names leaf) h g) (λ leaf h. letter_passes (leaf_of names leaf) h) e by_text by_part

        -- a centre has the empty word by numbers where it has it by texts
        centre_alike : (c : Term Raw) → Contains centres c → In (stands parts) symbols (mapped (atom_of names table) c) [] ↔ InExpression (project_in said) (mapped (leaf_of names) c) []
        centre_alike c among =
            let (e, held, inside) = flat_cases (λ x. centres_in x) expressions c among in
            let c_built = All-contains (λ (x : Term Raw). IsBuilt spells x) (centres_in e) c (built_within spells spells e (spelled_leaves e held)) inside in
            subst (λ (t : List (List ℕ)). In (stands parts) symbols (mapped (atom_of names table) c) [] ↔ In (means_by means) t (mapped (leaf_of names) c) []) from.texts
            (spelling_empty (stands parts) (means_by means) loaded.alphabet (atom_of names table) (leaf_of names) spells from.formed leaf_spelled c c_built)

        -- the definition has an own empty centre by numbers where it has one by texts
        pub own_centre : (name : List ℕ) → slice_get names place ≡ Some name → BodyHasEmptyCentre parts symbols body ↔ HasOwnEmptyCentre (project_in said) name
        own_centre name at_name = (to_text, to_number)
          where
            to_text : BodyHasEmptyCentre parts symbols body → HasOwnEmptyCentre (project_in said) name
            to_text (e, held, (centre, inside, empty)) =
                let among : Contains (body_centres body) centre = in_flat (λ x. centres_in x) (expressions_of body) e centre held inside in
                let (c, there, is) = Contains-map_cases (mapped (atom_of names table)) centres centre (subst (λ (cs : List (Term Atom)). Contains cs centre) centres_by_number among) in
                own_from name at_name c there ((centre_alike c there).0 (subst (λ (x : Term Atom). In (stands parts) symbols x []) (sym is) empty))

            to_number : HasOwnEmptyCentre (project_in said) name → BodyHasEmptyCentre parts symbols body
            to_number own =
                let (c, there, empty) = own_among name at_name own in
                let centre = mapped (atom_of names table) c in
                let among : Contains (body_centres body) centre =
                subst (λ (cs : List (Term Atom)). Contains cs centre) (sym centres_by_number) (Contains-map (mapped (atom_of names table)) centres c there) in
                let (e, held, inside) = flat_cases (λ x. centres_in x) (expressions_of body) centre among in
                (e, held, (centre, inside, (centre_alike c there).1 empty))

        -- a relation that is what is written, by numbers, is so by texts: an expression
        abbrev IsAlike : (List Sym → List Sym → Type 0) → Body Raw → Type 0
        IsAlike R written =
            IsRelationOf parts symbols (mapped_body (numbered names table) (resolved names written)) R → IsSpelled loaded.alphabet R (BodyRelates means table (resolved names written))

        expression_alike : (R : List Sym → List Sym → Type 0) (e : Term Raw) → IsBuilt spells e → IsAlike R (xfst e)
        expression_alike R e e_built is =
            spelled_too loaded.alphabet is
            (subst (λ (t : List (List ℕ)). IsSpelled loaded.alphabet (Relates (stands parts) symbols (mapped (numbered names table) (mapped (leaf_of names) e))) (Relates (means_by means) t (mapped (leaf_of names) e))) from.texts
            (subst (λ (x : Term Atom). IsSpelled loaded.alphabet (Relates (stands parts) symbols x) (Relates (means_by means) (texts_of loaded.alphabet) (mapped (leaf_of names) e))) (sym (mapped_twice (numbered names table) (leaf_of names) e))
            (spelling (stands parts) (means_by means) loaded.alphabet (atom_of names table) (leaf_of names) spells from.formed leaf_spelled e e_built)))

        -- lexicons
        lexicons_alike : (R : List Sym → List Sym → Type 0) (lexicons : List (Lexicon Raw)) → ((e : Term Raw) → Contains (expressions_of (lexc lexicons)) e → IsBuilt spells e) → IsBodyOver table (resolved names (lexc lexicons)) → IsAlike R (lexc lexicons)
        lexicons_alike R lexicons es_built over_table related =
            let is = resolved_mapped names lexicons in
            let letters = λ (leaf : Raw). is_symbol_over table (symbol_of leaf) in
            let lexicons_are =
            lexicons_built spells (is_leaf_over table) (is_symbol_over table) (leaf_of names) symbol_of lexicons es_built
            (subst (All (LexiconIsBuiltBy (is_leaf_over table) (is_symbol_over table))) is over_table) in
            let alike =
            lexicons_spelled symbol_in text_in (stands parts) (means_by means) loaded.alphabet (atom_of names table) (λ leaf. numbered names table (symbol_of leaf)) (leaf_of names) symbol_of spells letters from.formed leaf_spelled
            (λ leaf h. symbol_held (text_of leaf) h) lexicons lexicons_are in
            let twice = lexicons_twice (numbered names table) (leaf_of names) symbol_of lexicons in
            let to = mapped_lexicon (numbered names table) (numbered names table) in
            spelled_too loaded.alphabet related
            (subst (λ (ls : List (Lexicon Leaf)). IsSpelled loaded.alphabet (LexiconsRelate symbol_in (stands parts) symbols (map to ls)) (LexiconsRelate text_in (means_by means) table ls)) (sym is)
            (subst (λ (ls : List (Lexicon Atom)). IsSpelled loaded.alphabet (LexiconsRelate symbol_in (stands parts) symbols ls) (LexiconsRelate text_in (means_by means) table (map (mapped_lexicon (leaf_of names) symbol_of) lexicons))) (sym twice)
            (subst (λ (t : List (List ℕ)). IsSpelled loaded.alphabet (LexiconsRelate symbol_in (stands parts) symbols (map (mapped_lexicon (atom_of names table) (λ leaf. numbered names table (symbol_of leaf))) lexicons))
            (LexiconsRelate text_in (means_by means) t (map (mapped_lexicon (leaf_of names) symbol_of) lexicons))) from.texts alike)))

        -- and a grammar, each of whose symbols has the text of its number
        symbol_told : (leaf : Leaf) → IsTrue (is_symbol_over table leaf) → in_text (text_of_number loaded.alphabet) (numbered names table leaf) ≡ leaf
        symbol_told (symbol []) h = absurd (never h)
        symbol_told (symbol (b ∷ bs)) h = ap (λ (text : List ℕ). symbol text) (text_of-pair loaded.alphabet from.formed.distinct (numbered_as table (b ∷ bs)) (b ∷ bs) (symbol_held (b ∷ bs) h))
        symbol_told (named_leaf name) h = absurd (never h)

        grammar_alike : (R : List Sym → List Sym → Type 0) (grammar : Grammar Raw) → body ≡ mapped_body (numbered names table) (resolved names (twolc grammar)) → IsBodyOver table (resolved names (twolc grammar)) → IsAlike R (twolc grammar)
        grammar_alike R grammar is over_table related =
            let own = resolved_grammar grammar in
            let numbers = mapped_grammar (numbered names table) own in
            let has : HasLeaves (is_symbol_of symbols) numbers = subst (BodyIsBuiltBy (is_leaf_of parts symbols) (is_symbol_of symbols)) is built in
            let formed : GrammarIsFormed numbers = subst IsFormed is sound.formed in
            let same = texts_back (text_of_number loaded.alphabet) (numbered names table) (is_symbol_over table) symbol_told own formed over_table in
            subst (λ (g : Grammar Leaf). IsSpelled loaded.alphabet R (GrammarRelates g)) same (related loaded.alphabet from.formed has)

        written_alike : (R : List Sym → List Sym → Type 0) (written : Body Raw) → body ≡ mapped_body (numbered names table) (resolved names written) → ((e : Term Raw) → Contains (expressions_of written) e → IsBuilt spells e)
            → IsBodyOver table (resolved names written) → IsAlike R written
        written_alike R (xfst e) is es_built over_table = expression_alike R e (es_built e (Contains-head e []))
        written_alike R (lexc lexicons) is es_built over_table = lexicons_alike R lexicons es_built over_table
        written_alike R (twolc grammar) is es_built over_table = grammar_alike R grammar is over_table

        module _ (n : Network) (relation : IsRelationOf parts symbols body (PairsOf n)) where
          -- the network relates by numbers what the definition does by texts
          here : IsSpelled loaded.alphabet (PairsOf n) (BodyRelates means table meant)
          here = written_alike (PairsOf n) raw by_number spelled_leaves over (subst (λ (b : Body Atom). IsRelationOf parts symbols b (PairsOf n)) by_number relation)

          abbrev Related : Word → Word → Type 0
          Related u v = (upper : List Sym) × (lower : List Sym) × PairsOf n upper lower × (u ≡ spelled loaded.alphabet upper) × (v ≡ spelled loaded.alphabet lower)

          there : (u v : Word) → NameRelates means (project_in said) w.name u v → Related u v
          there u v (e, e_among, e_named, r) = (here.same u v).0 (subst (λ (x : Meant). BodyRelates means table x.body u v) (only e e_among e_named) r)

          back : (u v : Word) → Related u v → NameRelates means (project_in said) w.name u v
          back u v related = (m, m_among, refl, (here.same u v).1 related)

          -- the name relates what its network does
          pub name_spelled_here : (name : List ℕ) → slice_get names place ≡ Some name → IsSpelled loaded.alphabet (PairsOf n) (means name)
          name_spelled_here name at_name =
              subst (λ (x : List ℕ). IsSpelled loaded.alphabet (PairsOf n) (means x)) (same_Some w.name name (sym name_here ∙ at_name)) (record {
                over = here.over;
                same = λ u v. (
                  λ r. there u v ((names_unfold (project_in said) from.sound.acyclic from.sound.closed w.name u v).0 r),
                  λ r. (names_unfold (project_in said) from.sound.acyclic from.sound.closed w.name u v).1 (back u v r),
                );
              })

    -- a network that is built here shows the name
    pub shows_name : (name : List ℕ) → d.name ≡ name → (n : Network) (net : NetView) → IsBuiltAt loaded place n → AreSame (NetRelates net) (PairsOf n) → IsOverAlphabet loaded.alphabet net
        → ShowsName loaded.alphabet name net (project_in said)
    shows_name name is n net built same over =
        let spelled_as = built.means said from name (subst (λ (x : List ℕ). slice_get names place ≡ Some x) (same_name ∙ is) name_here) in
        record {
          defined = defined_here name is;
          over = over;
          relates = (spelled_too loaded.alphabet same spelled_as).same;
        }
