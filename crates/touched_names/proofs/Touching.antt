-- The touched places are those of the touched names.
use Rattle.std.proofs.Common.{◌≡◌, ◌<◌, ◌↔◌, ◌++◌, ℕ, zero, suc, Bool, true, List, [], ◌∷◌, length, slice_get, Contains, IsTrue, Some, inl, inr, refl, sym, ap, subst, ◌∙◌, arith}
use Rattle.std.specs.List.{flat_map}
use Rattle.std.proofs.lemmas.Option.{slice_get_within}
use Rattle.word_relations.proofs.Members.{Contains-map, Contains-map_cases}
use Rattle.word_relations.proofs.Places.{Contains-from_slice_get, slice_get_from_Contains, same_at}
use Rattle.fsm_base.specs.Alphabet.{texts_of}
use Rattle.fsm_base.specs.Symbols.{number_of}
use Rattle.fsm_base.specs.declared.letters.Sym.{Sym as Symbol}
use Rattle.body_equality.specs.declared.renumbering.Renumbering.{Renumbering}
use Rattle.project_manifest.specs.Lines.{symbols_of}
use Rattle.project_meaning.specs.Leaves.{body_uses_alphabet, symbols_in}
use Rattle.project_meaning.specs.Projects.{Definition as Meant, Project, Written, definition_in, names_of}
use Rattle.project_meaning.specs.Touched.{AreSameSymbols, Touched, changed, by_alphabet, by_name}
use Rattle.project_sources.specs.Sources.{Said, project_in}
use Rattle.project_definitions.specs.Forms.{AreDefined}
use Rattle.project_definitions.specs.Plain.{body_of}
use Rattle.project_definitions.specs.Referring.{body_places, references_of}
use Rattle.project_definitions.specs.Entries.{Entry, entry_in, entry_of}
use Rattle.project_definitions.specs.declared.definition.Definition.{Definition}
use Rattle.project_definitions.proofs.Numbers.{at_number}
use Rattle.project_model.proofs.Alphabets.{put}
use Rattle.project_definitions.proofs.Built.{All-front}
use Rattle.project_definitions.proofs.Referring.{at_map, from_graph, to_graph}
use Rattle.touched_names.specs.Itself.{AreNumbers, IsTouchedItself, number_there}
use Rattle.touched_names.specs.Places.{ArePlaces, IsMarked, TouchedPlace, by_itself, by_reference}
use Rattle.touched_names.specs.Touched.{AreTouched, IsNamedAt, IsTouchedAt, StandFor}
use Rattle.touched_names.proofs.Kept.{entry_at, kept_is, name_of_written, names_differ, uses_is, written_at}
use Rattle.touched_names.proofs.Marking.{same_places}
use Rattle.touched_names.proofs.Numbers.{number_at_place}

module _ (before after : Said) (olds news : List Definition) (old_symbols new_symbols : List (Symbol × List ℕ)) (old : StandFor before olds old_symbols) (new : StandFor after news new_symbols)
    (numbers : Renumbering) (are : AreNumbers (texts_of old_symbols) (texts_of new_symbols) olds news numbers)
    (same : Bool) (same_is : IsTrue same ↔ AreSameSymbols (project_in before).alphabet (project_in after).alphabet)
    (itself : List Bool) (count : length itself ≡ length news)
    (marks : (place : ℕ) (d : Definition) → slice_get news place ≡ Some d → IsMarked itself place ↔ IsTouchedItself olds numbers (IsTrue same) (number_there numbers place) d) where
  abbrev old_project : Project
  old_project = project_in before

  abbrev new_project : Project
  new_project = project_in after

  abbrev names : List (List ℕ)
  names = names_of after.written

  abbrev table : List (List ℕ)
  table = new_project.alphabet

  abbrev graph : List (List ℕ)
  graph = references_of news

  abbrev all_symbols : List (List ℕ)
  all_symbols = flat_map (λ (d : Meant). symbols_in d.body) new_project.definitions

  are_defined : AreDefined after table news
  are_defined = record {
    entries = new.definitions;
    symbols = All-front (Contains table) all_symbols (symbols_of after.manifest) (put (all_symbols ++ symbols_of after.manifest) []);
    apart = names_differ after news new_symbols new;
  }

  -- what was said at a place, and the definition there
  record Placed (d : Meant) : Type 0 where
    place : ℕ
    one : Definition
    written : Written
    at : slice_get news place ≡ Some one
    said_at : slice_get after.written place ≡ Some written
    entry : entry_in names table written ≡ entry_of one
    is : definition_in names written ≡ d

  placed : (d : Meant) → Contains new_project.definitions d → Placed d
  placed d c =
      let (w, among, is) = Contains-map_cases (definition_in names) after.written d c in
      let (k, said_at) = slice_get_from_Contains after.written w among in
      let (one, at, entry) = entry_at after news new_symbols new k w said_at in
      record { place = k; one = one; written = w; at = at; said_at = said_at; entry = sym entry; is = is }

  -- a definition that is touched by itself
  marked : (d : Meant) (p : Placed d) → IsTouchedItself olds numbers (IsTrue same) (number_there numbers p.place) p.one → TouchedPlace graph itself (number_of d.name names)
  marked d p touched =
      let named : slice_get names p.place ≡ Some d.name = name_of_written after news new_symbols new p.place p.written p.said_at ∙ ap (λ (e : Meant). Some e.name) p.is in
      subst (TouchedPlace graph itself) (sym (number_at_place names (names_differ after news new_symbols new) p.place d.name named))
      (by_itself ((marks p.place p.one p.at).1 touched))

  -- the place of a touched name is touched
  to : (name : List ℕ) → Touched old_project new_project name → TouchedPlace graph itself (number_of name names)
  to _ (changed d c lacks) =
      let p = placed d c in
      let kept = kept_is before after olds news old_symbols new_symbols old new numbers are p.place p.one p.written p.at p.said_at p.entry in
      marked d p (inl (λ is_kept. lacks (subst (λ (e : Meant). Contains old_project.definitions e) p.is (kept.0 is_kept))))
  to _ (by_alphabet d c uses differ) =
      let p = placed d c in
      let used = uses_is before after olds news old_symbols new_symbols old new numbers are p.place p.one p.written p.at p.said_at p.entry in
      marked d p (inr (used ∙ ap (λ (e : Meant). body_uses_alphabet e.body) p.is ∙ uses, λ is_same. differ (same_is.0 is_same)))
  to _ (by_name d other c refers touched) =
      by_reference (to_graph after table news are_defined d.name other (d, c, refl, refers)) (to other touched)

  -- a definition that has a place, by what was said there
  meant_at : (k : ℕ) (w : Written) → slice_get after.written k ≡ Some w → Contains new_project.definitions (definition_in names w)
  meant_at k w at = Contains-map (definition_in names) after.written w (Contains-from_slice_get after.written k w at)

  itself_at : (k : ℕ) (d : Definition) → slice_get news k ≡ Some d → IsTouchedItself olds numbers (IsTrue same) (number_there numbers k) d → Touched old_project new_project d.name
  itself_at k d at touched =
      let (w, said_at, entry) = written_at after news new_symbols new k d at in
      let kept = kept_is before after olds news old_symbols new_symbols old new numbers are k d w at said_at entry in
      let used = uses_is before after olds news old_symbols new_symbols old new numbers are k d w at said_at entry in
      let there = meant_at k w said_at in
      subst (Touched old_project new_project) (ap (λ (e : Entry). e.name) entry)
      (elim touched as (λ _. Touched old_project new_project w.name) [
        | inl lost ↦ changed (definition_in names w) there (λ among. lost (kept.1 among))
        | inr (uses, differ) ↦ by_alphabet (definition_in names w) there (sym used ∙ uses) (λ alike. differ (same_is.1 alike))
      ])

  definition_at : (k : ℕ) → k < length news → (d : Definition) × (slice_get news k ≡ Some d)
  definition_at k less = there news k less
    where
      there : {X : Type 0} (xs : List X) (k : ℕ) → k < length xs → (x : X) × (slice_get xs k ≡ Some x)
      there [] k less = absurd (omega arith)
      there (x ∷ xs) zero less = (x, refl)
      there (x ∷ xs) (suc k) less = there xs k (omega (arith, less))

  -- the name at a touched place is touched
  from : (p : ℕ) → TouchedPlace graph itself p → IsTouchedAt old_project new_project news p
  from p (by_itself is_marked) =
      let less : p < length itself = slice_get_within itself p true is_marked in
      let (d, at) = definition_at p (omega (arith, less, count)) in
      (d, at, itself_at p d at ((marks p d at).0 is_marked))
  from p (by_reference {other = other} leads touched) =
      let (xs, refers_at, among) = leads in
      let (d, at, refers_is) = at_map (λ (d : Definition). body_places (length news) (body_of d.body)) news p xs refers_at in
      let (w, said_at, entry) = written_at after news new_symbols new p d at in
      let named = name_of_written after news new_symbols new p w said_at in
      let (name, name_at, (e, there, e_named, e_refers)) = from_graph after table news are_defined p other w.name named leads in
      let (d', at', touched') = from other touched in
      let (w', said_at', entry') = written_at after news new_symbols new other d' at' in
      let named' = name_of_written after news new_symbols new other w' said_at' in
      let one : d'.name ≡ name = sym (ap (λ (x : Entry). x.name) entry') ∙ same_at names other w'.name name named' name_at in
      let whole : Touched old_project new_project e.name = by_name e name there e_refers (subst (Touched old_project new_project) one touched') in
      (d, at, subst (Touched old_project new_project) (e_named ∙ ap (λ (x : Entry). x.name) entry) whole)

  -- a definition has the place of its name
  place_is : (k : ℕ) (d : Definition) → slice_get news k ≡ Some d → number_of d.name names ≡ k
  place_is k d at =
      let (w, said_at, entry) = written_at after news new_symbols new k d at in
      number_at_place names (names_differ after news new_symbols new) k d.name
      (name_of_written after news new_symbols new k w said_at ∙ ap (λ (x : Entry). Some x.name) entry)

  named_in : (d : Meant) → Contains new_project.definitions d → Contains names d.name
  named_in d c =
      let p = placed d c in
      Contains-from_slice_get names p.place d.name (name_of_written after news new_symbols new p.place p.written p.said_at ∙ ap (λ (e : Meant). Some e.name) p.is)

  -- a touched name is defined
  defined : (name : List ℕ) → Touched old_project new_project name → Contains names name
  defined _ (changed d c lacks) = named_in d c
  defined _ (by_alphabet d c uses differ) = named_in d c
  defined _ (by_name d other c refers touched) = named_in d c

  pub touched_all : (places : List ℕ) → ArePlaces (TouchedPlace graph itself) places → AreTouched old_project new_project news places
  touched_all places ok = record {
    places = same_places (TouchedPlace graph itself) (IsTouchedAt old_project new_project news) places (λ p. (from p, λ h. back p h)) ok;
    names = named_at;
  }
    where
      back : (p : ℕ) → IsTouchedAt old_project new_project news p → TouchedPlace graph itself p
      back p (d, at, touched) = subst (TouchedPlace graph itself) (place_is p d at) (to d.name touched)

      named_at : (name : List ℕ) → Touched old_project new_project name → IsNamedAt news places name
      named_at name touched =
          let k = number_of name names in
          let place = to name touched in
          let (d, at, again) = from k place in
          let (w, said_at, entry) = written_at after news new_symbols new k d at in
          let named = name_of_written after news new_symbols new k w said_at in
          let one : w.name ≡ name = same_at names k w.name name named (at_number names name (defined name touched)) in
          (k, d, (ok.all k).1 place, at, sym (ap (λ (x : Entry). x.name) entry) ∙ one)
