-- Faults of a line behind others, and of lines one after another.
use Rattle.std.proofs.Common.{◌≡◌, ◌+◌, ◌<◌, ℕ, List, [], ◌∷◌, ◌++◌, length, map, take, drop, get_or, refl, sym, ap, subst, ◌∙◌, inl, inr}
use Rattle.std.proofs.lemmas.List.{map-append, take-append-drop, take_more}
use Rattle.std.proofs.lemmas.Grind.{flat_map-append}
use Rattle.word_relations.proofs.Behind.{left_behind}
use Rattle.regex_ast.specs.declared.fault.ReadError.{ReadError}
use Rattle.regex_ast.specs.declared.fault.ReadError.TheVariants.{Fault, Memory}
use Rattle.regex_ast.specs.declared.fault.Why.TheVariants as why
use Rattle.regex_reader.specs.Files.{FaultAt}
use Rattle.project_manifest.specs.Lines.{Line, LineFault, NamesAgain, NamesTooMany, Placed, SaysLine, SaysSome, SayingsFault, fault_at, line_in, line_rows, lines_in, many_files, named_again, no_line, placed_in}
use Rattle.project_manifest.specs.Manifests.{Saying, statements_in}
use Rattle.project_manifest.specs.Reading.{IsFaultless, IsLineError, IsManifestError}
use Rattle.project_manifest.specs.Rows.{At, First, HaveNone, places, places_from}
use Rattle.project_manifest.specs.Sayings.{saying_of}
use Rattle.project_manifest.specs.declared.said.Said.{Said}
use Rattle.project_manifest.proofs.Firsts.{first_past, none_append, none_more, places_append}
use Rattle.project_manifest.proofs.Saying.{line_is, one_line}

-- a line that says nothing
pub refused_line : (before : List Placed) (s : Saying) → ((said : Line) → SaysLine s.words said → ⊥) → First (LineFault before s) line_rows (fault_at s.line why.Statement)
refused_line before s none = inl (none, refl)

-- A line that says this.
module _ (before : List Placed) (s : Saying) (said : Line) (says : SaysLine s.words said) where
  of_this : (P : Line → Type 0) → SaysSome s.words P → P said
  of_this P (other, also, is) = subst P (one_line s.words other said also says) is

  some_line : (found : FaultAt) → LineFault before s no_line found → ⊥
  some_line found (none, e) = none said says

  pub refused_again : NamesAgain before said → First (LineFault before s) line_rows (fault_at s.line why.Duplicate)
  refused_again again = inr (some_line, inl ((said, says, again), refl))

  module _ (new : NamesAgain before said → ⊥) where
    not_again : (found : FaultAt) → LineFault before s named_again found → ⊥
    not_again found (some, e) = new (of_this (NamesAgain before) some)

    pub refused_many : NamesTooMany before said → First (LineFault before s) line_rows (fault_at s.line why.LimitFiles)
    refused_many many = inr (some_line, inr (not_again, inl ((said, says, many), refl)))

    pub faultless_line : (NamesTooMany before said → ⊥) → IsFaultless before s
    faultless_line few =
        none_more (LineFault before s) no_line (named_again ∷ many_files ∷ []) some_line
        (none_more (LineFault before s) named_again (many_files ∷ []) not_again
        (none_more (LineFault before s) many_files [] (λ found h. few (of_this (NamesTooMany before) h.0)) (λ found h. h)))

  -- with it the lines are these
  pub with_line : (old new : List Placed) → new ≡ old ++ record { line = s.line; said = said } ∷ [] → new ≡ old ++ placed_in s.line (line_in s.words)
  with_line old new is = is ∙ ap (λ o. old ++ placed_in s.line o) (sym (line_is s.words said says))

-- Lines one after another, of which the one at this place is read.
module _ (xs : List Said) (i : ℕ) (x : Said) (below : i < length xs) (is : x ≡ get_or xs i x) where
  abbrev front : List Saying
  front = map saying_of (take i xs)

  abbrev rest : List Saying
  rest = map saying_of (drop (i + 1) xs)

  abbrev HasAt : At Saying → FaultAt → Type 0
  HasAt place found = First (LineFault (lines_in place.before) place.item) line_rows found

  whole : map saying_of xs ≡ front ++ saying_of x ∷ rest
  whole =
      ap (map saying_of) (sym (take-append-drop i xs)) ∙ map-append saying_of (take i xs) (drop i xs)
      ∙ ap (λ (z : List Said). front ++ map saying_of z) (left_behind xs i x below is)

  one_more : map saying_of (take (i + 1) xs) ≡ front ++ saying_of x ∷ []
  one_more = ap (map saying_of) (take_more xs i x below ∙ ap (λ (e : Said). take i xs ++ e ∷ []) (sym is)) ∙ map-append saying_of (take i xs) (x ∷ [])

  pub lines_more : lines_in (map saying_of (take (i + 1) xs)) ≡ lines_in front ++ placed_in x.line (line_in (saying_of x).words)
  lines_more =
      ap lines_in one_more ∙ flat_map-append (λ (s : Saying). placed_in s.line (line_in s.words)) front (saying_of x ∷ [])
      ∙ ap (λ (z : List Placed). lines_in front ++ z) (append_none (placed_in x.line (line_in (saying_of x).words)))
    where
      append_none : (z : List Placed) → z ++ [] ≡ z
      append_none [] = refl
      append_none (l ∷ z) = ap (λ (r : List Placed). l ∷ r) (append_none z)

  module _ (before : List Placed) (before_is : before ≡ lines_in front) (none : HaveNone HasAt (places front)) where
    pub fault_here : (found : FaultAt) → First (LineFault before (saying_of x)) line_rows found → SayingsFault line_rows (map saying_of xs) found
    fault_here found h =
        let here : HasAt (record { before = front; item = saying_of x }) found = subst (λ (b : List Placed). First (LineFault b (saying_of x)) line_rows found) before_is h in
        let behind : First HasAt (places_from [] front ++ places_from front (saying_of x ∷ rest)) found = first_past HasAt (places front) (places_from front (saying_of x ∷ rest)) found none (inl here) in
        subst (λ (z : List Saying). First HasAt (places z) found) (sym whole) (subst (λ z. First HasAt z found) (sym (places_append [] front (saying_of x ∷ rest))) behind)

    pub none_here : IsFaultless before (saying_of x) → HaveNone HasAt (places (map saying_of (take (i + 1) xs)))
    none_here free =
        let here : (found : FaultAt) → HasAt (record { before = front; item = saying_of x }) found → ⊥ = subst (λ (b : List Placed). IsFaultless b (saying_of x)) before_is free in
        let all = none_append HasAt (places front) (places_from front (saying_of x ∷ [])) none (none_more HasAt (record { before = front; item = saying_of x }) [] here (λ found h. h)) in
        subst (λ (z : List Saying). HaveNone HasAt (places z)) (sym one_more) (subst (HaveNone HasAt) (sym (places_append [] front (saying_of x ∷ []))) all)

-- the first fault of the lines of a text, or want of memory
pub manifest_error : (xs : List Said) (i : ℕ) (x : Said) → i < length xs → x ≡ get_or xs i x → (before : List Placed) → before ≡ lines_in (map saying_of (take i xs))
    → ((found : FaultAt) → SayingsFault line_rows (map saying_of (take i xs)) found → ⊥) → (text : List ℕ) → map saying_of xs ≡ statements_in text → (error : ReadError)
    → IsLineError before (saying_of x) error → IsManifestError text error
manifest_error xs i x below is before before_is none text same (Fault line reason) h =
    subst (λ (z : List Saying). SayingsFault line_rows z (fault_at line reason)) same (fault_here xs i x below is before before_is none (fault_at line reason) h)
manifest_error xs i x below is before before_is none text same (Memory refused) h = tt
