-- The plan of what is written: loops over definitions and over the symbols of an alphabet.
use Rattle.std.proofs.Common.{◌≡◌, ◌↔◌, ◌+◌, ◌<◌, ◌≤◌, ℕ, List, [], ◌∷◌, ◌++◌, length, map, take, get_or, Option, Some, None, slice_get, refl, sym, ap, subst, ◌∙◌, inl, inr, arith, All, Contains, Result, Ok, Err, IfErr}
use Rattle.std.proofs.lemmas.List.{take_more, map-append, take_all, take-append-le, length-take}
use Rattle.std.proofs.lemmas.List.Elements.{All-weaker, All-contains}
use Rattle.std.proofs.lemmas.Option.{slice_get-get_or, get_or_from_slice_get, slice_get_within}
use Rattle.std.specs.List.{flat_map}
use Rattle.std.specs.Option.{option_map}
use Rattle.fsm_base.specs.Symbols.{IsSymbol, IsTable, number_of, with_text}
use Rattle.fsm_base.specs.declared.letters.Sym.{Sym}
use Rattle.word_relations.specs.Words.{IsDistinct}
use Rattle.expr_kinds.specs.declared.form.Form.{Form}
use Rattle.name_order.specs.Orders.{HasNoCycle as HasNoRound}
use Rattle.regex_ast.specs.declared.expr.Atom.{Atom}
use Rattle.regex_ast.specs.declared.fault.Fault.{Fault}
use Rattle.regex_ast.specs.declared.fault.Why.TheVariants as why
use Rattle.project_manifest.specs.Lines.{Placed, symbols_of}
use Rattle.project_manifest.specs.Manifests.{project_name}
use Rattle.project_manifest.specs.Rows.{First, HaveNone}
use Rattle.project_meaning.specs.Leaves.{resolved, symbols_in}
use Rattle.project_meaning.specs.Projects.{Definition as Meant, Written, definition_in, names_of, with_texts}
use Rattle.project_sources.specs.Limits.{most_symbols}
use Rattle.project_sources.specs.Sources.{Said, project_in}
use Rattle.project_sources.specs.Built.{BodyIsBuilt}
use Rattle.project_sources.specs.Faults.{fault, in_names, many_symbols, unknown, cyclic, no_language, heavy, SaidFault, NamesFault, definition_rows, said_rows}
use Rattle.project_manifest.proofs.Firsts.{none_more}
use Rattle.project_definitions.specs.Demands.{DemandFault, DoesMeet, demands}
use Rattle.project_model.specs.Answers.{IsPlanBy, IsRefusal, IsRefusedBy, UnknownFault, said_of}
use Rattle.project_definitions.specs.Forms.{AreDefined, AreForms}
use Rattle.project_meaning.specs.Trees.{Body}
use Rattle.project_definitions.specs.Bodies.{IsFormed, mapped_body}
use Rattle.project_model.specs.Gathered.{gathered, symbols_beside, symbols_of_all}
use Rattle.name_resolution.specs.Numbered.{numbered}
use Rattle.project_model.specs.Numbered.{IsBodyOver, numbers_in}
use Rattle.interlinear.specs.Glosses.{Entry as Glossed}
use Rattle.project_model.specs.Plans.{IsPlan, IsSoundOver, PlanView}
use Rattle.project_definitions.specs.Referring.{CycleFault, references_of}
use Rattle.project_definitions.specs.Entries.{Entry, entry_in, entry_of}
use Rattle.project_definitions.specs.declared.definition.Definition.{Definition}
use Rattle.project_definitions.specs.declared.demands.Demand.TheVariants as demand
use Rattle.project_sources.specs.declared.plan_error.PlanError.{PlanError}
use Rattle.project_sources.specs.declared.plan_error.PlanError.TheVariants.{Refused, Memory}
use Rattle.project_model.proofs.Alphabets.{numbers_distinct, put}
use Rattle.project_definitions.proofs.Built.{All-front}
use Rattle.project_definitions.proofs.Demanded.{demand_fault}
use Rattle.project_model.proofs.Gathering.{with_texts-append, with_texts_behind}
use Rattle.project_definitions.proofs.Steps.{refused_by}
use Rattle.project_definitions.proofs.Forming.{kind_there}
use Rattle.project_definitions.proofs.Referring.{count, cycle_fault, none_cyclic}
use Rattle.project_model.proofs.Requiring.{unknown_fault}
use Rattle.project_definitions.proofs.Expressions.{names_said}
use Rattle.project_model.proofs.Sound.{sound_definitions, written_over}
use Rattle.name_resolution.proofs.Texts.{one_longer}
use Rattle.project_definitions.proofs.Steps.{all_pass, made_more}

-- a list that is made of another by two functions
pub made_both : {X Y Z W : Type 0} (f : Y → W) (g : Z → W) (h : X → Z) (xs : List X) (i : ℕ) (x : X) (found new : List Y) (y : Y) → i < length xs
    → x ≡ get_or xs i x → new ≡ found ++ y ∷ [] → f y ≡ g (h x)
    → map f found ≡ map g (map h (take i xs)) → map f new ≡ map g (map h (take (i + 1) xs))
made_both {W = W} f g h xs i x found new y below is new_is same so_far =
    ap (map f) new_is ∙ map-append f found (y ∷ []) ∙ ap (λ (z : List W). z ++ f y ∷ []) so_far ∙ ap (λ (w : W). map g (map h (take i xs)) ++ w ∷ []) same
    ∙ sym (ap (map g) (made_more h xs i x below is) ∙ map-append g (map h (take i xs)) (h x ∷ []))

-- what refuses by one row refuses by another that has its faults
pub refused_so : (P Q : Fault → Type 0) (error : PlanError) → ((found : Fault) → P found → Q found) → IsRefusedBy P error → IsRefusedBy Q error
refused_so P Q (Refused found) each h = each found h
refused_so P Q (Memory refused) each h = tt

pub refused_or : {T : Type 0} (P Q : Fault → Type 0) (r : Result T PlanError) → ((found : Fault) → P found → Q found) → IfErr r (IsRefusedBy P) → IfErr r (IsRefusedBy Q)
refused_or P Q (Ok x) each h = tt
refused_or P Q (Err error) each h = refused_so P Q error each h

-- the definition of one that is written
pub entry_is : (names table : List (List ℕ)) (w : Written) (name file : List ℕ) (b : Body Atom) → name ≡ w.name → file ≡ w.file → b ≡ mapped_body (numbered names table) (resolved names w.body)
    → ◌≡◌ {A = Entry} (record { name = name; line = w.line; file = file; body = b }) (entry_in names table w)
entry_is names table w name file b name_is file_is body_is = λ i. record { name = name_is i; line = w.line; file = file_is i; body = body_is i }

-- the text at a place of a table
pub text_at : {X : Type 0} (f : X → List ℕ) (o : Option X) (table : List (List ℕ)) (n : ℕ) → option_map f o ≡ slice_get table n → n < length table → o ≡ None
    → ⊥
text_at f o table n at below none =
    let some : None ≡ Some (get_or table n []) = sym (ap (option_map f) none) ∙ at ∙ slice_get-get_or table n [] below in
    cc

pub symbol_at : (table : List (List ℕ)) (text : List ℕ) (n : ℕ) → IsTable table → Some text ≡ slice_get table n → IsSymbol text
symbol_at table text n formed at =
    let within = slice_get_within table n text (sym at) in
    subst IsSymbol (get_or_from_slice_get table n text [] (sym at)) (formed.symbols n [] within)

front_with : (table : List (List ℕ)) (text : List ℕ) (n : ℕ) → Some text ≡ slice_get table n → take (n + 1) table ≡ take n table ++ text ∷ []
front_with table text n at =
    take_more table n [] (slice_get_within table n text (sym at)) ∙ ap (λ (t : List ℕ). take n table ++ t ∷ []) (get_or_from_slice_get table n text [] (sym at))

-- one text of an alphabet more is in a table
pub texts_more : (old alphabet now new : List (List ℕ)) (text : List ℕ) (n : ℕ) → Some text ≡ slice_get alphabet n → now ≡ with_texts old (take n alphabet)
    → new ≡ with_text text now → new ≡ with_texts old (take (n + 1) alphabet)
texts_more old alphabet now new text n at now_is new_is =
    new_is ∙ ap (with_text text) now_is ∙ sym (with_texts-append old (take n alphabet) (text ∷ [])) ∙ sym (ap (with_texts old) (front_with alphabet text n at))

abbrev symbol : ℕ → Sym
symbol n = record { 0 = n }

-- the number of one text of an alphabet more
pub numbers_more : (table alphabet : List (List ℕ)) (old new : List Sym) (y : Sym) (text : List ℕ) (n : ℕ) → Some text ≡ slice_get alphabet n
    → new ≡ old ++ y ∷ [] → y.0 ≡ number_of text table → old ≡ numbers_in table (take n alphabet) → new ≡ numbers_in table (take (n + 1) alphabet)
numbers_more table alphabet old new y text n at new_is y_is so_far =
    new_is ∙ ap (λ (z : List Sym). z ++ y ∷ []) so_far ∙ ap (λ k. numbers_in table (take n alphabet) ++ symbol k ∷ []) y_is
    ∙ sym (ap (numbers_in table) (front_with alphabet text n at) ∙ map-append (λ (t : List ℕ). symbol (number_of t table)) (take n alphabet) (text ∷ []))

pub grown : (now new : List (List ℕ)) (text : List ℕ) (old n : ℕ) → length now ≤ old + n → new ≡ with_text text now → length new ≤ old + (n + 1)
grown now new text old n few new_is = omega (arith, ap length new_is, one_longer text now (old + n) few)

-- a table with more texts begins with what it was
pub begins_with : (old now texts : List (List ℕ)) → now ≡ with_texts old texts → take (length old) now ≡ old
begins_with old now texts now_is =
    let more = with_texts_behind texts old in
    ap (take (length old)) (now_is ∙ more.1) ∙ take-append-le (length old) old more.0 (omega arith) ∙ take_all (length old) old (omega arith)

-- the symbols of what is written are those of the definitions
symbols_said : (names : List (List ℕ)) (written : List Written) → flat_map (λ (d : Meant). symbols_in d.body) (map (definition_in names) written) ≡ symbols_of_all names written
symbols_said names [] = refl
symbols_said names (w ∷ written) = ap (λ (z : List (List ℕ)). symbols_beside names w ++ z) (symbols_said names written)

-- a plan of what is written, over an alphabet whose symbols are in the table
module _ (written : List Written) (names alphabet old new : List (List ℕ)) (definitions : List Definition) (names_are : names ≡ names_of written)
    (new_is : new ≡ with_texts old alphabet) (are : map entry_of definitions ≡ map (entry_in names new) written) (held : All (Contains alphabet) (symbols_of_all names written)) where
  said_are : map entry_of definitions ≡ map (entry_in (names_of written) new) written
  said_are = are ∙ ap (λ ns. map (entry_in ns new) written) names_are

  symbols_are : All (Contains alphabet) (flat_map (λ (d : Meant). symbols_in d.body) (map (definition_in (names_of written)) written))
  symbols_are = subst (All (Contains alphabet)) (sym (symbols_said (names_of written) written)) (subst (λ ns. All (Contains alphabet) (symbols_of_all ns written)) names_are held)

  in_table : All (Contains new) (flat_map (λ (d : Meant). symbols_in d.body) (map (definition_in (names_of written)) written))
  in_table = All-weaker (Contains alphabet) (Contains new) (λ text among. All-contains (Contains new) alphabet text (subst (λ (t : List (List ℕ)). All (Contains t) alphabet) (sym new_is) (put alphabet old)) among) _ symbols_are

  module _ (apart : IsDistinct names) where
    defined : (manifest : List Placed) → AreDefined (said_of manifest written) new definitions
    defined manifest = record { entries = said_are; symbols = in_table; apart = subst IsDistinct names_are apart }

    -- why there is no order
    pub why_no_order : (manifest : List Placed) (error : PlanError) → IsRefusedBy (CycleFault definitions) error
        → IsPlanBy definition_rows (said_of manifest written) old new (Err error)
    why_no_order manifest (Refused found) h = inl (cycle_fault (said_of manifest written) new definitions (defined manifest) found h)
    why_no_order manifest (Memory refused) h = tt

    module _ (rounds : HasNoRound (references_of definitions)) (forms : List Form) (few : length forms ≡ length definitions)
        (told : (said : Said) (table : List (List ℕ)) → AreDefined said table definitions → AreForms (names_of said.written) (project_in said) forms) where
      no_cycle : (manifest : List Placed) (found : Fault) → SaidFault (said_of manifest written) cyclic found → ⊥
      no_cycle manifest found h = none_cyclic (said_of manifest written) new definitions (defined manifest) rounds found h

      alike : (manifest : List Placed) (found : Fault)
          → First (DemandFault definitions forms) demands found ↔ First (SaidFault (said_of manifest written)) (no_language ∷ heavy ∷ []) found
      alike manifest found =
          demand_fault (said_of manifest written) new definitions (defined manifest) forms few (told (said_of manifest written) new (defined manifest)) found

      -- why there is no plan
      pub why_no_plan : (manifest : List Placed) (error : PlanError) → IsRefusedBy (First (DemandFault definitions forms) demands) error
          → IsPlanBy definition_rows (said_of manifest written) old new (Err error)
      why_no_plan manifest (Refused found) h = inr (no_cycle manifest, (alike manifest found).0 h)
      why_no_plan manifest (Memory refused) h = tt

      module _ (glosses : List Glossed) (formed : All (λ (w : Written). IsFormed w.body) written) (symbols : List Sym) (numbers_are : symbols ≡ numbers_in new alphabet) (distinct : IsDistinct alphabet) (fits : All (DoesMeet forms demand.Fits) definitions)
          (light : All (DoesMeet forms demand.Light) definitions) (built : All (λ (w : Written). BodyIsBuilt (resolved (names_of written) w.body)) written) where
        many : length forms ≡ length (names_of written)
        many = few ∙ count (said_of [] written) new definitions (defined [])

        over : All (λ (d : Meant). IsBodyOver alphabet d.body) (map (definition_in (names_of written)) written)
        over = written_over (names_of written) alphabet new forms many written symbols_are built

        abbrev plan : PlanView
        plan = record { definitions = definitions; symbols = symbols; forms = forms; glosses = glosses }

        pub is_plan : IsPlan plan
        is_plan = record {
          distinct = subst IsDistinct (sym numbers_are) (numbers_distinct new alphabet (subst (λ (t : List (List ℕ)). All (Contains t) alphabet) (sym new_is) (put alphabet old)) distinct);
          names = subst IsDistinct (names_are ∙ sym (names_said (names_of written) new definitions written said_are)) apart;
          forms = record { count = few; kinds = kind_there (said_of [] written) new definitions (defined []) rounds forms few (told (said_of [] written) new (defined [])) };
          sound = subst (λ (z : List Sym). All (IsSoundOver forms z) definitions) (sym numbers_are) (sound_definitions (names_of written) alphabet new forms many definitions written said_are formed fits over);
        }

        none_fails : (manifest : List Placed) → HaveNone (SaidFault (said_of manifest written)) definition_rows
        none_fails manifest =
            let none = none_more (DemandFault definitions forms) demand.Fits (demand.Light ∷ []) (all_pass forms demand.Fits definitions fits)
            (none_more (DemandFault definitions forms) demand.Light [] (all_pass forms demand.Light definitions light) (λ f p. p)) in
            none_more (SaidFault (said_of manifest written)) cyclic (no_language ∷ heavy ∷ []) (no_cycle manifest) (λ found h. none found ((alike manifest found).1 h))

        pub is_planned : (manifest : List Placed) → (project_in (said_of manifest written)).alphabet ≡ alphabet
            → IsPlanBy definition_rows (said_of manifest written) old new (Ok plan)
        is_planned manifest is = (
          none_fails manifest,
          record {
            definitions = said_are;
            symbols = numbers_are ∙ ap (numbers_in new) (sym is);
            table = new_is ∙ ap (with_texts old) (sym is);
            leaves = subst (λ (a : List (List ℕ)). All (λ (d : Meant). IsBodyOver a d.body) (map (definition_in (names_of written)) written)) (sym is) over;
            distinct = subst IsDistinct (sym is) distinct;
          },
        )

-- the alphabet of what is written, and of the further symbols that lines of a manifest have
module _ (written : List Written) (lines : List Placed) (names alphabet : List (List ℕ)) (names_is : names ≡ names_of written)
    (alphabet_is : alphabet ≡ gathered [] (symbols_of_all names written ++ symbols_of lines)) where
  abbrev said : Said
  said = said_of lines written

  abbrev whole : List (List ℕ)
  whole = with_texts [] (symbols_of_all names written ++ symbols_of lines)

  said_whole : (project_in said).alphabet ≡ whole
  said_whole =
      let same = symbols_said (names_of written) written ∙ ap (λ ns. symbols_of_all ns written) (sym names_is) in
      ap (λ (z : List (List ℕ)). with_texts [] (z ++ symbols_of lines)) same

  -- an alphabet beyond the limit, and one within it
  too_large : 1024 < length alphabet → most_symbols < length whole
  unfolding most_symbols
  too_large many = omega (arith, ap length alphabet_is, length-take (most_symbols + 1) whole)

  not_large : length alphabet ≤ 1024 → length whole ≤ most_symbols
  unfolding most_symbols
  not_large few = omega (arith, ap length alphabet_is, length-take (most_symbols + 1) whole)

  whole_is : length alphabet ≤ 1024 → alphabet ≡ whole
  whole_is few = alphabet_is ∙ take_all (most_symbols + 1) whole (omega (arith, not_large few))

  -- it has the symbols of the definitions
  pub symbols_held : length alphabet ≤ 1024 → All (Contains alphabet) (symbols_of_all names written)
  symbols_held few =
      subst (λ (t : List (List ℕ)). All (Contains t) (symbols_of_all names written)) (sym (whole_is few))
      (All-front (Contains whole) (symbols_of_all names written) (symbols_of lines) (put (symbols_of_all names written ++ symbols_of lines) []))

  -- the fault of a line that requires a name is one of what is said
  unknown_alike : (found : Fault) → UnknownFault names lines found ↔ SaidFault said unknown found
  unknown_alike = unknown_fault written lines names names_is

  module _ (none : (found : Fault) → NamesFault written found → ⊥) (old new : List (List ℕ)) where
    -- symbols that are too many
    pub why_large : (error : PlanError) → 1024 < length alphabet → IsRefusal (fault project_name 0 why.LimitSymbols) error → IsPlanBy said_rows said old new (Err error)
    why_large error many refusal =
        let much : most_symbols < length (project_in said).alphabet = omega (arith, ap length said_whole, too_large many) in
        refused_by (First (SaidFault said) said_rows) (fault project_name 0 why.LimitSymbols) error (inr (none, inl (much, refl))) refusal

    none_large : length alphabet ≤ 1024 → (found : Fault) → SaidFault said many_symbols found → ⊥
    none_large few found (much, is) = omega (arith, much, ap length said_whole, not_large few)

    -- a name that is required and isn't defined
    pub why_unknown : length alphabet ≤ 1024 → (line : ℕ) (error : PlanError) → UnknownFault names lines (fault project_name line why.UnknownName)
        → IsRefusal (fault project_name line why.UnknownName) error → IsPlanBy said_rows said old new (Err error)
    why_unknown few line error is refusal =
        refused_by (First (SaidFault said) said_rows) (fault project_name line why.UnknownName) error
        (inr (none, inr (none_large few, inl ((unknown_alike (fault project_name line why.UnknownName)).0 is)))) refusal

    none_unknown : ((found : Fault) → UnknownFault names lines found → ⊥) → (found : Fault) → SaidFault said unknown found → ⊥
    none_unknown known found h = known found ((unknown_alike found).1 h)

    -- what the definitions answer, all that is said does
    pub planned_whole : length alphabet ≤ 1024 → ((found : Fault) → UnknownFault names lines found → ⊥) → (answer : Result PlanView PlanError)
        → ((manifest : List Placed) → (project_in (said_of manifest written)).alphabet ≡ alphabet → IsPlanBy definition_rows (said_of manifest written) old new answer) → IsPlanBy said_rows said old new answer
    planned_whole few known answer by_definitions = by answer (by_definitions lines (said_whole ∙ sym (whole_is few)))
      where
        by : (answer : Result PlanView PlanError) → IsPlanBy definition_rows said old new answer → IsPlanBy said_rows said old new answer
        by (Ok made) (free, stands) = (
          none_more (SaidFault said) in_names (many_symbols ∷ unknown ∷ definition_rows) none
              (none_more (SaidFault said) many_symbols (unknown ∷ definition_rows) (none_large few) (none_more (SaidFault said) unknown definition_rows (none_unknown known) free)),
          stands,
        )
        by (Err (Refused found)) h = inr (none, inr (none_large few, inr (none_unknown known, h)))
        by (Err (Memory refused)) h = tt

-- why there are no names, as why there is no plan
pub from_names : (written : List Written) (lines : List Placed) (old new : List (List ℕ)) (error : PlanError) → IsRefusedBy (NamesFault written) error
    → IsPlanBy said_rows (said_of lines written) old new (Err error)
from_names written lines old new (Refused found) h = inl h
from_names written lines old new (Memory refused) h = tt
