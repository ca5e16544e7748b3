-- A definition of the new project is one of the old project's exactly where the old definition at the place of its name has the same body
-- by numbers.
use Rattle.std.proofs.Common.{◌≡◌, ◌<◌, ◌≤◌, ◌⊎◌, ◌↔◌, ◌==◌, ◌||◌, ℕ, Bool, true, false, List, [], ◌∷◌, length, slice_get, Contains, All, IsTrue, Option, None, Some, is_some, inl, inr, refl, sym, ap, subst, ◌∙◌, arith}
use Rattle.std.specs.List.{list_any, slice_index_or}
use Rattle.std.specs.Option.{option_map}
use Rattle.std.proofs.lemmas.Bool.Decides.{nat_tests}
use Rattle.std.proofs.lemmas.List.{length-map}
use Rattle.std.proofs.lemmas.List.Elements.{All-contains, All-contains_itself, All-head, All-tail}
use Rattle.std.proofs.lemmas.Option.{get_or_from_slice_get, slice_get-map, slice_get_within}
use Rattle.word_relations.specs.Words.{IsDistinct}
use Rattle.word_relations.proofs.Members.{Contains-map, Contains-map_cases}
use Rattle.word_relations.proofs.Places.{Contains-from_slice_get, slice_get_from_Contains, same_at}
use Rattle.fsm_base.specs.Alphabet.{symbols_of, texts_of}
use Rattle.fsm_base.specs.Symbols.{number_of}
use Rattle.fsm_base.specs.declared.letters.Sym.{Sym as Symbol}
use Rattle.regex_ast.specs.declared.expr.Atom.{Atom}
use Rattle.regex_ast.specs.declared.expr.Atom.TheVariants.{Sym, Name}
use Rattle.expr_kinds.specs.Atoms.{is_leaf_at, is_symbol_of}
use Rattle.body_equality.specs.Renumbered.{number_at, renumbered}
use Rattle.body_equality.specs.declared.renumbering.Renumbering.{Renumbering}
use Rattle.project_meaning.specs.Leaves.{Leaf, symbol, named, resolved, body_uses_alphabet}
use Rattle.project_meaning.specs.Projects.{Definition as Meant, Written, definition_in, names_of}
use Rattle.project_meaning.specs.Trees.{Body}
use Rattle.project_sources.specs.Built.{BodyIsBuiltBy}
use Rattle.project_sources.specs.Sources.{Said, project_in}
use Rattle.name_resolution.specs.Numbered.{numbered}
use Rattle.project_definitions.specs.Bodies.{mapped_body}
use Rattle.project_model.specs.Numbered.{numbers_in}
use Rattle.project_definitions.specs.Plain.{body_of}
use Rattle.project_model.specs.Plans.{IsSoundOver}
use Rattle.project_definitions.specs.Entries.{Entry, entry_in, entry_of}
use Rattle.project_definitions.specs.declared.definition.Definition.{Definition}
use Rattle.project_definitions.proofs.Numbers.{at_number}
use Rattle.project_model.proofs.Alphabets.{numbers_held, symbols_of-listed}
use Rattle.project_definitions.proofs.Expressions.{names_said}
use Rattle.project_definitions.proofs.Referring.{at_map}
use Rattle.touched_names.specs.Bodies.{uses_symbols}
use Rattle.touched_names.specs.Itself.{AreNumbers, IsKept, names_in, number_there, places_among}
use Rattle.touched_names.specs.Touched.{StandFor}
use Rattle.touched_names.proofs.Leafwise.{body_alike, body_same, body_twice, body_under, uses_by_leaves}
use Rattle.touched_names.proofs.Numbers.{held_below, number_at_place, number_there_is}

-- a symbol among others has the number of one of them
any_below : (n s : ℕ) (symbols : List Symbol) → All (λ (t : Symbol). t.0 < n) symbols → IsTrue (list_any (λ (t : Symbol). t.0 == s) symbols) → s < n
any_below n s [] all any = let never : false ≡ true = any in absurd (cc)
any_below n s (t ∷ symbols) all any =
    by (t.0 == s) refl (any_below n s symbols (All-tail (λ (x : Symbol). x.0 < n) t symbols all))
  where
    equal : (n m : ℕ) → (n == m) ≡ true → n ≡ m
    equal n m e = grind (arith, nat_tests)

    by : (b : Bool) → (t.0 == s) ≡ b → (IsTrue (list_any (λ (x : Symbol). x.0 == s) symbols) → s < n) → s < n
    by true e rest =
        let less = All-head (λ (x : Symbol). x.0 < n) t symbols all in
        let is = equal t.0 s e in
        omega (arith, less, is)
    by false e rest = rest (subst (λ (b : Bool). IsTrue (b || list_any (λ (x : Symbol). x.0 == s) symbols)) e any)

some_within : {X : Type 0} (xs : List X) (k : ℕ) → IsTrue (is_some (slice_get xs k)) → k < length xs
some_within {X = X} xs k there = by (slice_get xs k) refl there
  where
    by : (o : Option X) → slice_get xs k ≡ o → IsTrue (is_some o) → k < length xs
    by None at h = let never : false ≡ true = h in absurd (cc)
    by (Some x) at h = slice_get_within xs k x at

-- definitions that stand for what was said
module _ (said : Said) (definitions : List Definition) (symbols : List (Symbol × List ℕ)) (stand : StandFor said definitions symbols) where
  abbrev pub names : List (List ℕ)
  names = names_of said.written

  abbrev pub table : List (List ℕ)
  table = (project_in said).alphabet

  abbrev pub number : Leaf → Atom
  number leaf = numbered names table leaf

  abbrev pub leaf : Atom → Bool
  leaf a = is_leaf_at stand.forms (symbols_of symbols) a

  abbrev pub letter : Atom → Bool
  letter a = is_symbol_of (symbols_of symbols) a

  pub said_names : names_in definitions ≡ names
  said_names = names_said names table definitions said.written stand.definitions

  pub names_differ : IsDistinct names
  names_differ = subst IsDistinct said_names stand.plan.names

  pub texts_differ : IsDistinct table
  texts_differ = subst IsDistinct stand.texts stand.formed.apart

  symbols_are : symbols_of symbols ≡ numbers_in table table
  symbols_are = ap symbols_of stand.alphabet ∙ symbols_of-listed table (numbers_in table table)

  symbol_below : (s : Symbol) → IsTrue (is_symbol_of (symbols_of symbols) (Sym s)) → s.0 < length table
  symbol_below s h =
      any_below (length table) s.0 (numbers_in table table) (numbers_held table table (All-contains_itself table))
      (subst (λ (z : List Symbol). IsTrue (list_any (λ (t : Symbol). t.0 == s.0) z)) symbols_are h)

  count : length stand.forms ≡ length names
  count = stand.plan.forms.count ∙ sym (length-map definitions (λ (d : Definition). d.name)) ∙ ap length said_names

  name_below : (place : ℕ) → IsTrue (is_some (slice_get stand.forms place)) → place < length names
  name_below place h = let less = some_within stand.forms place h in omega (arith, less, count)

  -- a leaf by the text of its number
  abbrev pub spelled : Atom → Leaf
  spelled (Sym s) = symbol (slice_index_or table s.0 [])
  spelled (Name place) = named (slice_index_or names place [])

  text_back : (list : List (List ℕ)) (text : List ℕ) → number_of text list < length list → slice_index_or list (number_of text list) [] ≡ text
  text_back list text below = get_or_from_slice_get list (number_of text list) text [] (at_number list text (held_below text list below))

  -- a leaf whose number passes is the one of its number
  pub leaf_back : (l : Leaf) → IsTrue (leaf (number l)) → spelled (number l) ≡ l
  leaf_back (symbol []) h = let less = name_below (length names) h in absurd (omega (arith, less))
  leaf_back (symbol (b ∷ bs)) h = ap symbol (text_back table (b ∷ bs) (symbol_below (record { 0 = number_of (b ∷ bs) table }) h))
  leaf_back (named name) h = ap named (text_back names name (name_below (number_of name names) h))

  pub letter_back : (l : Leaf) → IsTrue (letter (number l)) → spelled (number l) ≡ l
  letter_back (symbol []) h = let never : false ≡ true = h in absurd (cc)
  letter_back (symbol (b ∷ bs)) h = ap symbol (text_back table (b ∷ bs) (symbol_below (record { 0 = number_of (b ∷ bs) table }) h))
  letter_back (named name) h = let never : false ≡ true = h in absurd (cc)

  -- a body whose numbers pass is the one of its numbers
  pub body_back : (b : Body Leaf) → BodyIsBuiltBy leaf letter (mapped_body number b) → mapped_body spelled (mapped_body number b) ≡ b
  body_back b h =
      let under = body_under leaf letter number b h in
      body_twice spelled number b
      ∙ body_alike (λ l. leaf (number l)) (λ l. letter (number l)) (λ l. spelled (number l)) (λ (l : Leaf). l) leaf_back letter_back b under
      ∙ body_same (λ l. leaf (number l)) (λ l. letter (number l)) b under

  -- the definition at a place, and what was said there
  pub entry_at : (k : ℕ) (w : Written) → slice_get said.written k ≡ Some w → (d : Definition) × (slice_get definitions k ≡ Some d) × (entry_of d ≡ entry_in names table w)
  entry_at k w at =
      at_map entry_of definitions k (entry_in names table w)
      (ap (λ (z : List Entry). slice_get z k) stand.definitions ∙ slice_get-map (entry_in names table) said.written k ∙ ap (option_map (entry_in names table)) at)

  pub written_at : (k : ℕ) (d : Definition) → slice_get definitions k ≡ Some d → (w : Written) × (slice_get said.written k ≡ Some w) × (entry_in names table w ≡ entry_of d)
  written_at k d at =
      at_map (entry_in names table) said.written k (entry_of d)
      (ap (λ (z : List Entry). slice_get z k) (sym stand.definitions) ∙ slice_get-map entry_of definitions k ∙ ap (option_map entry_of) at)

  pub name_of_written : (k : ℕ) (w : Written) → slice_get said.written k ≡ Some w → slice_get names k ≡ Some w.name
  name_of_written k w at = slice_get-map (λ (w : Written). w.name) said.written k ∙ ap (option_map (λ (w : Written). w.name)) at

  pub body_built : (k : ℕ) (d : Definition) → slice_get definitions k ≡ Some d → BodyIsBuiltBy leaf letter (body_of d.body)
  body_built k d at = (All-contains (IsSoundOver stand.forms (symbols_of symbols)) definitions d stand.plan.sound (Contains-from_slice_get definitions k d at)).built

-- the old project and the new one
module _ (before after : Said) (olds news : List Definition) (old_symbols new_symbols : List (Symbol × List ℕ)) (old : StandFor before olds old_symbols) (new : StandFor after news new_symbols)
    (numbers : Renumbering) (are : AreNumbers (texts_of old_symbols) (texts_of new_symbols) olds news numbers) where
  abbrev R : Atom → Atom
  R a = renumbered numbers a

  abbrev No : Leaf → Atom
  No l = number before olds old_symbols old l

  abbrev Nn : Leaf → Atom
  Nn l = number after news new_symbols new l

  abbrev old_names : List (List ℕ)
  old_names = names_of before.written

  abbrev new_names : List (List ℕ)
  new_names = names_of after.written

  abbrev old_table : List (List ℕ)
  old_table = (project_in before).alphabet

  abbrev new_table : List (List ℕ)
  new_table = (project_in after).alphabet

  symbol_numbers : numbers.symbols.items ≡ places_among old_table new_table
  symbol_numbers = are.symbols old.formed.apart ∙ ap (λ z. places_among z (texts_of new_symbols)) old.texts ∙ ap (places_among old_table) new.texts

  name_numbers : numbers.names.items ≡ places_among old_names new_names
  name_numbers =
      are.names old.plan.names
      ∙ ap (λ z. places_among z (names_in news)) (said_names before olds old_symbols old)
      ∙ ap (places_among old_names) (said_names after news new_symbols new)

  -- a leaf whose new number passes has the renumbered one in the old project
  leaf_there : (l : Leaf) → IsTrue (leaf after news new_symbols new (Nn l)) → R (Nn l) ≡ No l
  leaf_there (symbol []) h = let less = name_below after news new_symbols new (length new_names) h in absurd (omega (arith, less))
  leaf_there (symbol (b ∷ bs)) h =
      ap (λ n. Sym (record { 0 = n }))
      (number_there_is old_table new_table numbers.symbols.items symbol_numbers (b ∷ bs) (held_below (b ∷ bs) new_table (symbol_below after news new_symbols new (record { 0 = number_of (b ∷ bs) new_table }) h)))
  leaf_there (named name) h =
      ap Name (number_there_is old_names new_names numbers.names.items name_numbers name (held_below name new_names (name_below after news new_symbols new (number_of name new_names) h)))

  letter_there : (l : Leaf) → IsTrue (letter after news new_symbols new (Nn l)) → R (Nn l) ≡ No l
  letter_there (symbol []) h = let never : false ≡ true = h in absurd (cc)
  letter_there (symbol (b ∷ bs)) h = leaf_there (symbol (b ∷ bs)) h
  letter_there (named name) h = let never : false ≡ true = h in absurd (cc)

  body_there : (b : Body Leaf) → BodyIsBuiltBy (leaf after news new_symbols new) (letter after news new_symbols new) (mapped_body Nn b) → mapped_body R (mapped_body Nn b) ≡ mapped_body No b
  body_there b h =
      body_twice R Nn b
      ∙ body_alike (λ l. leaf after news new_symbols new (Nn l)) (λ l. letter after news new_symbols new (Nn l)) (λ l. R (Nn l)) No leaf_there letter_there b
      (body_under (leaf after news new_symbols new) (letter after news new_symbols new) Nn b h)

  -- definitions at places, and what was said there
  module _ (k j : ℕ) (a d : Definition) (v w : Written) (at_k : slice_get olds k ≡ Some a) (at_j : slice_get news j ≡ Some d)
      (a_is : entry_in old_names old_table v ≡ entry_of a) (d_is : entry_in new_names new_table w ≡ entry_of d) where
    abbrev bo : Body Leaf
    bo = resolved old_names v.body

    abbrev bn : Body Leaf
    bn = resolved new_names w.body

    old_body : body_of a.body ≡ mapped_body No bo
    old_body = sym (ap (λ (e : Entry). e.body) a_is)

    new_body : body_of d.body ≡ mapped_body Nn bn
    new_body = sym (ap (λ (e : Entry). e.body) d_is)

    moved : mapped_body R (body_of d.body) ≡ mapped_body No bn
    moved =
        ap (mapped_body R) new_body
        ∙ body_there bn (subst (BodyIsBuiltBy (leaf after news new_symbols new) (letter after news new_symbols new)) new_body (body_built after news new_symbols new j d at_j))

    old_built : BodyIsBuiltBy (leaf before olds old_symbols old) (letter before olds old_symbols old) (mapped_body No bo)
    old_built = subst (BodyIsBuiltBy (leaf before olds old_symbols old) (letter before olds old_symbols old)) old_body (body_built before olds old_symbols old k a at_k)

    pub same_bodies : body_of a.body ≡ mapped_body R (body_of d.body) ↔ bo ≡ bn
    same_bodies = (
      λ same.
          let numbers_same : mapped_body No bo ≡ mapped_body No bn = sym old_body ∙ same ∙ moved in
          sym (body_back before olds old_symbols old bo old_built)
          ∙ ap (mapped_body (spelled before olds old_symbols old)) numbers_same
          ∙ body_back before olds old_symbols old bn (subst (BodyIsBuiltBy (leaf before olds old_symbols old) (letter before olds old_symbols old)) numbers_same old_built),
      λ same. old_body ∙ ap (mapped_body No) same ∙ sym moved,
    )

  -- a new definition at a place
  module _ (j : ℕ) (d : Definition) (w : Written) (at_j : slice_get news j ≡ Some d) (w_at : slice_get after.written j ≡ Some w) (d_is : entry_in new_names new_table w ≡ entry_of d) where
    abbrev new_one : Meant
    new_one = definition_in new_names w

    there : number_there numbers j ≡ number_of w.name old_names
    there =
        let at = name_of_written after news new_symbols new j w w_at in
        let among = Contains-from_slice_get new_names j w.name at in
        let place : number_of w.name new_names ≡ j = number_at_place new_names (names_differ after news new_symbols new) j w.name at in
        ap (number_at numbers.names.items) (sym place) ∙ number_there_is old_names new_names numbers.names.items name_numbers w.name among

    pub kept_is : IsKept olds numbers (number_there numbers j) d ↔ Contains (project_in before).definitions new_one
    kept_is = (to, back)
      where
        to : IsKept olds numbers (number_there numbers j) d → Contains (project_in before).definitions new_one
        to (a, at, same) =
            let k = number_there numbers j in
            let (v, v_at, a_is) = written_at before olds old_symbols old k a at in
            let named_at : slice_get old_names k ≡ Some v.name = name_of_written before olds old_symbols old k v v_at in
            let within : number_of w.name old_names < length old_names = subst (λ n. n < length old_names) there (slice_get_within old_names k v.name named_at) in
            let w_named : slice_get old_names k ≡ Some w.name = ap (slice_get old_names) there ∙ at_number old_names w.name (held_below w.name old_names within) in
            let name_same : v.name ≡ w.name = same_at old_names k v.name w.name named_at w_named in
            let body_same : resolved old_names v.body ≡ resolved new_names w.body = (same_bodies k j a d v w at at_j a_is d_is).0 same in
            let one : definition_in old_names v ≡ new_one = λ i. record { name = name_same i; body = body_same i } in
            subst (λ (e : Meant). Contains (project_in before).definitions e) one
            (Contains-map (definition_in old_names) before.written v (Contains-from_slice_get before.written k v v_at))

        back : Contains (project_in before).definitions new_one → IsKept olds numbers (number_there numbers j) d
        back among =
            let (v, in_written, one) = Contains-map_cases (definition_in old_names) before.written new_one among in
            let (k, v_at) = slice_get_from_Contains before.written v in_written in
            let (a, at, a_is) = entry_at before olds old_symbols old k v v_at in
            let name_same : v.name ≡ w.name = ap (λ (e : Meant). e.name) one in
            let body_same : resolved old_names v.body ≡ resolved new_names w.body = ap (λ (e : Meant). e.body) one in
            let place : number_of w.name old_names ≡ k =
            number_at_place old_names (names_differ before olds old_symbols old) k w.name (name_of_written before olds old_symbols old k v v_at ∙ ap (λ (n : List ℕ). Some n) name_same) in
            (a, ap (slice_get olds) (there ∙ place) ∙ at, (same_bodies k j a d v w at at_j (sym a_is) d_is).1 body_same)

    pub uses_is : uses_symbols (body_of d.body) ≡ body_uses_alphabet new_one.body
    uses_is = ap (λ (b : Body Atom). uses_symbols b) (sym (ap (λ (e : Entry). e.body) d_is)) ∙ uses_by_leaves Nn (resolved new_names w.body)

-- what a comparison of two definitions tells
pub kept_here : (olds : List Definition) (numbers : Renumbering) (place : ℕ) (a d : Definition) → slice_get olds place ≡ Some a
    → (r : Bool) → (IsTrue r ↔ (body_of a.body ≡ mapped_body (renumbered numbers) (body_of d.body))) → IsTrue r ↔ IsKept olds numbers place d
kept_here olds numbers place a d at r told = (
  λ yes. (a, at, told.0 yes),
  λ kept. told.1 (subst (λ (x : Definition). body_of x.body ≡ mapped_body (renumbered numbers) (body_of d.body)) (same_at olds place kept.0 a kept.1 at) kept.2),
)

pub kept_nowhere : (olds : List Definition) (numbers : Renumbering) (place : ℕ) (d : Definition) → length olds ≤ place → IsTrue false ↔ IsKept olds numbers place d
kept_nowhere olds numbers place d ended = (
  λ yes. let never : false ≡ true = yes in absurd (cc),
  λ kept. let less = slice_get_within olds place kept.0 kept.1 in absurd (omega (arith, less, ended)),
)

-- a definition that is kept is touched by itself where it uses an alphabet that has other symbols
pub itself_by_alphabet : {Kept : Type 0} (uses same r : Bool) → Kept → same ≡ false → r ≡ uses → IsTrue r ↔ ((Kept → ⊥) ⊎ (IsTrue uses × (IsTrue same → ⊥)))
itself_by_alphabet uses same r kept differ is = (
  λ yes. inr (sym is ∙ yes, λ alike. let clash : same ≡ true = alike in absurd (cc)),
  λ told. elim told as (λ _. r ≡ true) [ inl lost ↦ absurd (lost kept) | inr by_use ↦ is ∙ by_use.0 ],
)
