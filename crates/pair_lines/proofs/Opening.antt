-- The grammar of a definition is, by the texts of its symbols, that of its name in the project.
use Rattle.std.proofs.Common.{◌≡◌, ℕ, false, List, [], ◌∷◌, IsTrue, Some, refl, sym, ap, subst, ◌∙◌, slice_get}
use Rattle.std.proofs.lemmas.List.Elements.{All-contains}
use Rattle.std.specs.List.{Contains}
use Rattle.word_relations.proofs.Members.{Contains-map, Contains-map_cases}
use Rattle.word_relations.proofs.Places.{Contains-from_slice_get}
use Rattle.fsm_base.specs.Alphabet.{symbols_of, text_of}
use Rattle.fsm_base.specs.declared.letters.Sym.{Sym}
use Rattle.fsm_base.proofs.AlphabetLemmas.{text_of-pair}
use Rattle.regex_ast.specs.declared.expr.Atom.{Atom}
use Rattle.regex_ast.specs.declared.expr.Raw.{Raw}
use Rattle.regex_ast.specs.declared.twolc.Grammar.{Grammar as GrammarOf}
use Rattle.grammar_pairs.specs.Mapped.{mapped_grammar}
use Rattle.grammar_pairs.specs.Plain.{IsFormed as GrammarIsFormed, grammar_of}
use Rattle.grammar_pairs.specs.Texts.{in_text, in_texts}
use Rattle.name_resolution.specs.Numbered.{numbered}
use Rattle.network_build.proofs.Grammars.{grammar_over}
use Rattle.network_grammars.specs.Meaning.{IsOverSymbols}
use Rattle.project_definitions.specs.Bodies.{mapped_body}
use Rattle.project_definitions.specs.Entries.{Entry}
use Rattle.project_definitions.specs.Plain.{body_of}
use Rattle.project_definitions.specs.declared.definition.Body.{Body as BodyOf}
use Rattle.project_definitions.specs.declared.definition.Body.TheVariants.{Xfst, Lexc, Twolc}
use Rattle.project_definitions.specs.declared.definition.Definition.{Definition}
use Rattle.project_meaning.specs.Leaves.{Leaf, symbol, named, resolved, resolved_grammar}
use Rattle.project_meaning.specs.Projects.{Definition as Meant, Written, definition_in, names_of}
use Rattle.project_meaning.specs.Trees.{Body, Grammar, xfst, lexc, twolc}
use Rattle.project_model.specs.Numbered.{IsBodyOver, is_symbol_over}
use Rattle.project_model.specs.Plans.{IsPlan, IsSoundOver}
use Rattle.project_model.specs.Sound.{IsSound}
use Rattle.project_sources.specs.Sources.{Said, project_in}
use Rattle.project_store.specs.Loaded.{IsLoadedFrom, LoadedView, plan_in}
use Rattle.project_store.proofs.Shown.{found, names_differ, one_of_name, same_name}
use Rattle.project_store.proofs.Spelled.{entry_held, held_any, numbered_as}
use Rattle.pair_lines.specs.Replies.{HasGrammar}
use Rattle.pair_lines.proofs.Grammars.{texts_back}

never : IsTrue false → ⊥
never e = cc

-- a definition of a plan can be built over its symbols
sound_at : (loaded : LoadedView) → IsPlan (plan_in loaded) → (place : ℕ) (d : Definition) → slice_get loaded.definitions place ≡ Some d → IsSound loaded.forms (symbols_of loaded.alphabet) (body_of d.body)
sound_at loaded plan place d at = All-contains (IsSoundOver loaded.forms (symbols_of loaded.alphabet)) loaded.definitions d plan.sound (Contains-from_slice_get loaded.definitions place d at)

module _ (loaded : LoadedView) (plan : IsPlan (plan_in loaded)) (place : ℕ) (d : Definition) (at : slice_get loaded.definitions place ≡ Some d) (grammar : GrammarOf Atom) (is : d.body ≡ Twolc grammar) where
  sound_grammar : IsSound loaded.forms (symbols_of loaded.alphabet) (twolc (grammar_of grammar))
  sound_grammar = subst (λ (b : BodyOf Atom). IsSound loaded.forms (symbols_of loaded.alphabet) (body_of b)) is (sound_at loaded plan place d at)

  -- it has the forms of a text, and the symbols of the plan
  pub grammar_formed : GrammarIsFormed (grammar_of grammar)
  grammar_formed = sound_grammar.formed

  pub grammar_symbols : IsOverSymbols (symbols_of loaded.alphabet) grammar
  grammar_symbols = grammar_over (symbols_of loaded.alphabet) grammar sound_grammar.built

module _ (said : Said) (loaded : LoadedView) (from : IsLoadedFrom said loaded) (place : ℕ) (d : Definition) (at : slice_get loaded.definitions place ≡ Some d) where
  abbrev names : List (List ℕ)
  names = names_of said.written

  abbrev table : List (List ℕ)
  table = (project_in said).alphabet

  abbrev w : Written
  w = (found said loaded from place d at).0

  abbrev m : Meant
  m = definition_in names w

  w_among : Contains said.written w
  w_among = Contains-from_slice_get said.written place w (found said loaded from place d at).1

  m_among : Contains (project_in said).definitions m
  m_among = Contains-map (definition_in names) said.written w w_among

  by_number : body_of d.body ≡ mapped_body (numbered names table) (resolved names w.body)
  by_number = ap (λ (x : Entry). x.body) (sym (found said loaded from place d at).2)

  -- each symbol has the text of its number
  symbol_told : (leaf : Leaf) → IsTrue (is_symbol_over table leaf) → in_text (text_of loaded.alphabet) (numbered names table leaf) ≡ leaf
  symbol_told (symbol []) h = absurd (never h)
  symbol_told (symbol (b ∷ bs)) h =
      ap (λ (text : List ℕ). symbol text) (text_of-pair loaded.alphabet from.formed.distinct (numbered_as table (b ∷ bs)) (b ∷ bs)
      (subst (λ (z : List (Sym × List ℕ)). Contains z (numbered_as table (b ∷ bs), b ∷ bs)) (sym from.alphabet) (entry_held table (b ∷ bs) (held_any (b ∷ bs) table h))))
  symbol_told (named name) h = absurd (never h)

  over : IsBodyOver table (resolved names w.body)
  over = All-contains (λ (x : Meant). IsBodyOver table x.body) (project_in said).definitions m from.leaves m_among

  same_texts : (grammar : GrammarOf Atom) (raw : Body Raw) → twolc (grammar_of grammar) ≡ mapped_body (numbered names table) (resolved names raw) → IsBodyOver table (resolved names raw) → GrammarIsFormed (grammar_of grammar)
      → resolved names raw ≡ twolc (in_texts (text_of loaded.alphabet) (grammar_of grammar))
  same_texts grammar (xfst e) is over_table formed = absurd (cc)
  same_texts grammar (lexc lexicons) is over_table formed = absurd (cc)
  same_texts grammar (twolc g) is over_table formed =
      let own = resolved_grammar g in
      let numbers : grammar_of grammar ≡ mapped_grammar (numbered names table) own = cc in
      let back = texts_back (text_of loaded.alphabet) (numbered names table) (is_symbol_over table) symbol_told own (subst (λ (z : Grammar Atom). GrammarIsFormed z) numbers formed) over_table in
      ap (λ (z : Grammar Leaf). twolc z) (sym (ap (in_texts (text_of loaded.alphabet)) numbers ∙ back))

  -- the definition's grammar is the name's
  pub has_grammar : (name : List ℕ) → d.name ≡ name → (grammar : GrammarOf Atom) → d.body ≡ Twolc grammar → HasGrammar (project_in said) name (in_texts (text_of loaded.alphabet) (grammar_of grammar))
  has_grammar name is_name grammar is = (
    m,
    m_among,
    same_name said loaded from place d at ∙ is_name,
    same_texts grammar w.body (ap (λ (b : BodyOf Atom). body_of b) (sym is) ∙ by_number) over (grammar_formed loaded from.plan place d at grammar is),
  )

  -- what another definition of this name is
  only : (name : List ℕ) → d.name ≡ name → (e : Meant) → Contains (project_in said).definitions e → e.name ≡ name → e ≡ m
  only name is_name e among e_name =
      let (other, there, is) = Contains-map_cases (definition_in names) said.written e among in
      let same : other.name ≡ w.name = ap (λ (x : Meant). x.name) is ∙ e_name ∙ sym is_name ∙ sym (same_name said loaded from place d at) in
      sym is ∙ ap (definition_in names) (one_of_name said.written (names_differ said loaded from) other w there w_among same)

  no_other : (raw : Body Raw) (g : Grammar Leaf) (body : BodyOf Atom) → body_of body ≡ mapped_body (numbered names table) (resolved names raw) → resolved names raw ≡ twolc g → (grammar : GrammarOf Atom) × (body ≡ Twolc grammar)
  no_other raw g (Xfst e) is written = let clash : body_of (Xfst e) ≡ twolc (mapped_grammar (numbered names table) g) = is ∙ ap (mapped_body (numbered names table)) written in absurd (cc)
  no_other raw g (Lexc lexicons) is written = let clash : body_of (Lexc lexicons) ≡ twolc (mapped_grammar (numbered names table) g) = is ∙ ap (mapped_body (numbered names table)) written in absurd (cc)
  no_other raw g (Twolc grammar) is written = (grammar, refl)

  -- a name with another body has no grammar
  pub has_no_grammar : (name : List ℕ) → d.name ≡ name → ((grammar : GrammarOf Atom) → d.body ≡ Twolc grammar → ⊥) → (g : Grammar Leaf) → ¬ HasGrammar (project_in said) name g
  has_no_grammar name is_name none g (e, among, e_name, e_body) =
      let own : resolved names w.body ≡ twolc g = ap (λ (x : Meant). x.body) (sym (only name is_name e among e_name)) ∙ e_body in
      let (grammar, is) = no_other w.body g d.body by_number own in
      none grammar is
