-- Paths over names and paths over places are the same, and so are their sides.
use Rattle.std.proofs.Common.{◌≡◌, ◌↔◌, ℕ, List, [], ◌∷◌, ◌++◌, Option, None, Some, refl, sym, ap, subst, inl, inr, ◌∙◌}
use Rattle.std.specs.List.{Contains, slice_get}
use Rattle.std.specs.Option.{option_map}
use Rattle.std.proofs.lemmas.List.Concat.{flat_map-append}
use Rattle.std.proofs.lemmas.Option.{slice_get-map, slice_get_cases, same_Some}
use Rattle.word_relations.specs.Words.{IsDistinct}
use Rattle.word_relations.proofs.Places.{Contains-from_slice_get, slice_get_from_Contains, same_at}
use Rattle.fsm_base.specs.declared.letters.Sym.{Sym}
use Rattle.fsm_base.specs.declared.letters.Pair.{Pair}
use Rattle.regex_ast.specs.declared.expr.Atom.{Atom}
use Rattle.regex_ast.specs.declared.lexc.FlagOp.{FlagOp}
use Rattle.project_meaning.specs.Trees.{Piece, Form, sides, pairs, Entry, Lexicon}
use Rattle.project_meaning.specs.Lexicons.{FormAdds, IsPath as IsNamedPath, IsEntryOf as IsNamedEntry}
use Rattle.flag_diacritics.specs.declared.tape.Tape.{Tape}
use Rattle.flag_diacritics.specs.declared.tape.Tape.TheVariants.{Pair as OfPair}
use Rattle.lexc_compile.specs.Paths.{IsPath, HasPath, PlacedEntry, SomeEntryUses}
use Rattle.network_expr.specs.Parts.{stands}
use Rattle.network_expr.specs.declared.parts.Part.{Part}
use Rattle.network_lexicons.specs.Plain.{symbol_in, names_of}
use Rattle.network_lexicons.specs.Sides.{upper_pieces, lower_pieces, upper_side, lower_side}
use Rattle.network_lexicons.specs.Entries.{IsPairOver, IsPlaceOf, IsEntryFor, AreLexiconsFor}

-- the lexicon with a name at a place
lexicon_at : (lexicons : List (Lexicon Atom)) (k : ℕ) (name : List ℕ) → slice_get (names_of lexicons) k ≡ Some name → (l : Lexicon Atom) × (slice_get lexicons k ≡ Some l) × (l.name ≡ name)
lexicon_at lexicons k name at = elim ((slice_get_cases lexicons k).1) [
  | inl there ↦
      let is : Some (there.0).name ≡ Some name = sym (slice_get-map (λ (l : Lexicon Atom). l.name) lexicons k ∙ ap (option_map (λ (l : Lexicon Atom). l.name)) there.2) ∙ at in
      (there.0, there.2, same_Some (there.0).name name is)
  | inr missing ↦
      let clash : None ≡ Some name = sym (slice_get-map (λ (l : Lexicon Atom). l.name) lexicons k ∙ ap (option_map (λ (l : Lexicon Atom). l.name)) missing.1) ∙ at in
      cc
]

name_stands : (lexicons : List (Lexicon Atom)) (k : ℕ) (l : Lexicon Atom) → slice_get lexicons k ≡ Some l → slice_get (names_of lexicons) k ≡ Some l.name
name_stands lexicons k l at = slice_get-map (λ (d : Lexicon Atom). d.name) lexicons k ∙ ap (option_map (λ (d : Lexicon Atom). d.name)) at

module _ (parts : List Part) (alphabet : List Sym) (lexicons : List (Lexicon Atom)) where
  -- what a form adds, whichever lexicons stand beside it
  form_to : (form : Form Atom) (x y : List (Piece Sym)) → FormAdds symbol_in (stands parts) alphabet lexicons form x y → FormAdds symbol_in (stands parts) alphabet [] form x y
  form_to (sides upper lower) x y h = h
  form_to (pairs e) x y h = h

  form_from : (form : Form Atom) (x y : List (Piece Sym)) → FormAdds symbol_in (stands parts) alphabet [] form x y → FormAdds symbol_in (stands parts) alphabet lexicons form x y
  form_from (sides upper lower) x y h = h
  form_from (pairs e) x y h = h

  -- where a path goes on there is a place
  place_of_path : (from : Option (List ℕ)) (path : List (Entry Atom)) (x y : List (Piece Sym)) → IsNamedPath symbol_in (stands parts) alphabet lexicons from path x y → (place : Option ℕ) × IsPlaceOf (names_of lexicons) from place
  place_of_path None path x y h = (None, tt)
  place_of_path (Some name) [] x y h = absurd h
  place_of_path (Some name) (entry ∷ path) x y (x1, x2, y1, y2, (l, held, is, among), adds, rest, x_is, y_is) =
      let p = slice_get_from_Contains lexicons l held in
      (Some p.0, name_stands lexicons p.0 l p.1 ∙ ap Some is)

  module _ (distinct : IsDistinct (names_of lexicons)) (flags : List FlagOp) (given : List PlacedEntry) (are : AreLexiconsFor parts alphabet (names_of lexicons) flags lexicons given) where
    abbrev HasTapes : Option ℕ → List (Piece Sym) → List (Piece Sym) → Type 0
    HasTapes place x y = (tape : List Tape) × HasPath (Contains given) place tape × (x ≡ upper_side flags tape) × (y ≡ lower_side flags tape)

    abbrev HasEntries : Option (List ℕ) → List (Piece Sym) → List (Piece Sym) → Type 0
    HasEntries from x y = (path : List (Entry Atom)) × IsNamedPath symbol_in (stands parts) alphabet lexicons from path x y

    -- an entry over names, by its place
    step_up : (name : List ℕ) (k : ℕ) (entry : Entry Atom) (next : Option ℕ) → slice_get (names_of lexicons) k ≡ Some name → IsNamedEntry lexicons name entry → IsPlaceOf (names_of lexicons) entry.next next
        → (g : PlacedEntry) × Contains given g × (g.place ≡ k) × IsEntryFor parts alphabet (names_of lexicons) flags entry g
    step_up name k entry next at (l, held, is, among) goes =
        let p = slice_get_from_Contains lexicons l held in
        let same : p.0 ≡ k = distinct p.0 k name (name_stands lexicons p.0 l p.1 ∙ ap Some is) at in
        are.all k l entry next (ap (slice_get lexicons) (sym same) ∙ p.1) among goes

    step_down : (name : List ℕ) (k : ℕ) (g : PlacedEntry) → slice_get (names_of lexicons) k ≡ Some name → Contains given g → g.place ≡ k
        → (entry : Entry Atom) × IsNamedEntry lexicons name entry × IsEntryFor parts alphabet (names_of lexicons) flags entry g
    step_down name k g at held here =
        let l = lexicon_at lexicons k name at in
        let r = are.only g held in
        let same : r.0 ≡ l.0 = same_at lexicons k r.0 l.0 (ap (slice_get lexicons) (sym here) ∙ r.2) l.1 in
        (r.1, (l.0, Contains-from_slice_get lexicons k l.0 l.1, l.2, subst (λ (d : Lexicon Atom). Contains d.entries r.1) same r.3), r.4)

    up : (path : List (Entry Atom)) (from : Option (List ℕ)) (place : Option ℕ) (x y : List (Piece Sym)) → IsPlaceOf (names_of lexicons) from place → IsNamedPath symbol_in (stands parts) alphabet lexicons from path x y → HasTapes place x y
    up [] None None x y goes h = ([], ([], refl), h.0, h.1)
    up [] None (Some k) x y goes h = absurd goes
    up [] (Some name) place x y goes h = absurd h
    up (entry ∷ path) None place x y goes h = absurd h
    up (entry ∷ path) (Some name) None x y goes h = absurd goes
    up (entry ∷ path) (Some name) (Some k) x y goes (x1, x2, y1, y2, member, adds, rest, x_is, y_is) =
        let next = place_of_path entry.next path x2 y2 rest in
        let g = step_up name k entry next.0 goes member next.1 in
        let is : IsEntryFor parts alphabet (names_of lexicons) flags entry g.0 = g.3 in
        let front = (is.sides flags (λ j f at. at) x1 y1).0 (form_to entry.form x1 y1 adds) in
        let back = up path entry.next (g.0).next x2 y2 is.next rest in (
          front.0 ++ back.0,
          (g.0 ∷ (back.1).0, (front.0, back.0, g.1, g.2, front.1, (back.1).1, refl)),
          x_is ∙ ap (λ s. s ++ x2) front.2 ∙ ap (λ s. upper_side flags front.0 ++ s) back.2 ∙ sym (flat_map-append (upper_pieces flags) front.0 back.0),
          y_is ∙ ap (λ s. s ++ y2) front.3 ∙ ap (λ s. lower_side flags front.0 ++ s) back.3 ∙ sym (flat_map-append (lower_pieces flags) front.0 back.0),
        )

    down : (path : List PlacedEntry) (from : Option (List ℕ)) (place : Option ℕ) (tape : List Tape) → IsPlaceOf (names_of lexicons) from place → IsPath (Contains given) place path tape → HasEntries from (upper_side flags tape) (lower_side flags tape)
    down [] None None tape goes h = ([], (ap (upper_side flags) h, ap (lower_side flags) h))
    down [] (Some name) None tape goes h = absurd goes
    down [] from (Some k) tape goes h = absurd h
    down (g ∷ path) from None tape goes h = absurd h
    down (g ∷ path) None (Some k) tape goes h = absurd goes
    down (g ∷ path) (Some name) (Some k) tape goes (front, back, member, here, added, rest, tape_is) =
        let e = step_down name k g goes member here in
        let is : IsEntryFor parts alphabet (names_of lexicons) flags e.0 g = e.2 in
        let adds = (is.sides flags (λ j f at. at) (upper_side flags front) (lower_side flags front)).1 (front, added, refl, refl) in
        let others = down path (e.0).next g.next back is.next rest in (
          e.0 ∷ others.0,
          (
            upper_side flags front,
            upper_side flags back,
            lower_side flags front,
            lower_side flags back,
            e.1,
            form_from (e.0).form (upper_side flags front) (lower_side flags front) adds,
            others.1,
            ap (upper_side flags) tape_is ∙ flat_map-append (upper_pieces flags) front back,
            ap (lower_side flags) tape_is ∙ flat_map-append (lower_pieces flags) front back,
          ),
        )

    -- from the lexicon with a name
    pub walks : (name : List ℕ) (k : ℕ) → slice_get (names_of lexicons) k ≡ Some name → (x y : List (Piece Sym)) → HasTapes (Some k) x y ↔ HasEntries (Some name) x y
    walks name k at x y = (
      λ (tape, (path, is), x_is, y_is).
          let found = down path (Some name) (Some k) tape at is in
          subst (λ s. HasEntries (Some name) s y) (sym x_is) (subst (λ s. HasEntries (Some name) (upper_side flags tape) s) (sym y_is) found),
      λ (path, is). up path (Some name) (Some k) x y at is,
    )

    -- what pairs are used
    pub pairs_over : (pair : Pair) → SomeEntryUses (Contains given) (OfPair pair) → IsPairOver alphabet pair
    pairs_over pair (g, held, uses) =
        let r = are.only g held in
        let is : IsEntryFor parts alphabet (names_of lexicons) flags r.1 g = r.4 in
        is.symbols pair uses
