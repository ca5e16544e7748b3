-- What forms add: two sides their tape alone, and an expression the tapes of its pairs.
use Rattle.std.proofs.Common.{◌≡◌, ◌↔◌, ◌==◌, ℕ, true, false, IsTrue, List, [], ◌∷◌, ◌++◌, Option, Some, All, map, refl, sym, ap, subst, inl, inr, ◌∙◌}
use Rattle.std.specs.List.{Contains, flat_map}
use Rattle.std.specs.Option.{option_to_list}
use Rattle.std.proofs.lemmas.Bool.{eqb-true}
use Rattle.std.proofs.lemmas.List.{map-append}
use Rattle.std.proofs.lemmas.List.Elements.{All-contains, Contains-append_left, Contains-append_right}
use Rattle.std.proofs.lemmas.Map.Views.{Contains-from_any}
use Rattle.std.proofs.lemmas.Option.{same_Some}
use Rattle.word_relations.specs.Relations.{AreSame}
use Rattle.word_relations.proofs.Members.{Contains-nil_cases, Contains-head, Contains-cons_cases, Contains-map_cases}
use Rattle.fsm_base.specs.declared.letters.Sym.{Sym}
use Rattle.fsm_base.specs.declared.letters.Pair.{Pair}
use Rattle.fsa.specs.Automaton.{Automaton, UsesLetter}
use Rattle.fsa.specs.Language.{Accepts}
use Rattle.fst_algebra.specs.Relation.{IsRelated, uppers, lowers}
use Rattle.regex_ast.specs.Terms.{Term}
use Rattle.regex_ast.specs.declared.expr.Atom.{Atom}
use Rattle.regex_ast.specs.declared.expr.Atom.TheVariants.{Sym as OfSym, Name}
use Rattle.regex_ast.specs.declared.lexc.FlagOp.{FlagOp}
use Rattle.regex_ast.specs.declared.lexc.Piece.{Piece as PieceOf}
use Rattle.expr_kinds.specs.Atoms.{is_symbol_of}
use Rattle.expr_meaning.specs.Meaning.{Relates}
use Rattle.project_meaning.specs.Trees.{Piece, letter, flag, sides, pairs}
use Rattle.project_meaning.specs.Lexicons.{piece_by}
use Rattle.flag_diacritics.specs.Numbers.{Keeps}
use Rattle.flag_diacritics.specs.declared.tape.Tape.{Tape}
use Rattle.flag_diacritics.specs.declared.tape.Tape.TheVariants.{Pair as OfPair}
use Rattle.network_algebra.specs.Networks.{UsesSymbols}
use Rattle.network_algebra.specs.Renamed.{IsRenamed}
use Rattle.network_expr.specs.Parts.{stands}
use Rattle.network_expr.specs.declared.parts.Part.{Part}
use Rattle.network_lexicons.specs.Plain.{piece_of, symbol_in}
use Rattle.network_lexicons.specs.Built.{PieceIsBuilt}
use Rattle.network_lexicons.specs.Sides.{upper_pieces, lower_pieces, upper_side, lower_side, side_of, HasSides}
use Rattle.lexc_compile.specs.Paths.{network, word}
use Rattle.network_lexicons.specs.Entries.{UsesPairsOver, HasSidesOf}

-- a symbol of a side that is built is one of the alphabet
same_number : (a b : Sym) → (b.0 == a.0) ≡ true → a ≡ b
same_number a b e = ap (λ (n : ℕ). record { 0 = n }) (sym (eqb-true b.0 a.0 e))

leaf_over : (alphabet : List Sym) (leaf : Atom) → IsTrue (is_symbol_of alphabet leaf) → Contains alphabet (symbol_in leaf)
leaf_over alphabet (OfSym s) h = Contains-from_any {eq = λ (q t : Sym). t.0 == q.0} same_number s alphabet h
leaf_over alphabet (Name n) h = let no : false ≡ true = h in cc

piece_over : (alphabet : List Sym) (p : Piece Atom) (x : Sym) → PieceIsBuilt alphabet p → piece_by symbol_in p ≡ letter x → Contains alphabet x
piece_over alphabet (letter leaf) x built is =
    let same : symbol_in leaf ≡ x = let e : letter (symbol_in leaf) ≡ letter x = is in cc in
    subst (Contains alphabet) same (leaf_over alphabet leaf built)
piece_over alphabet (flag f) x built is = let e : flag f ≡ letter x = is in cc

side_over : (alphabet : List Sym) (side : List (PieceOf Atom)) (x : Sym) → All (PieceIsBuilt alphabet) (map piece_of side) → Contains (side_of side) (letter x) → Contains alphabet x
side_over alphabet side x built held =
    let r = Contains-map_cases (piece_by symbol_in) (map piece_of side) (letter x) held in
    piece_over alphabet r.0 x (All-contains (PieceIsBuilt alphabet) (map piece_of side) r.0 built r.1) r.2

-- a piece of a letter of a tape is one of the tape
on_side : (f : Tape → List (Piece Sym)) (tape : List Tape) (t : Tape) (p : Piece Sym) → Contains tape t → Contains (f t) p → Contains (flat_map f tape) p
on_side f [] t p held has = absurd (Contains-nil_cases t held)
on_side f (u ∷ tape) t p held has = elim (Contains-cons_cases u tape t held) [
  | inl same ↦ Contains-append_left (f u) (flat_map f tape) p (subst (λ (v : Tape). Contains (f v) p) (sym same) has)
  | inr rest ↦ Contains-append_right (f u) (flat_map f tape) p (on_side f tape t p rest has)
]

has_symbol : (o : Option Sym) (x : Sym) → o ≡ Some x → Contains (map letter (option_to_list o)) (letter x)
has_symbol o x is = subst (λ (q : Option Sym). Contains (map letter (option_to_list q)) (letter x)) (sym is) (Contains-head (letter x) [])

-- pairs as tapes
abbrev name : Pair → Option Tape
name pair = Some (OfPair pair)

upper_pairs : (flags : List FlagOp) (ps : List Pair) → upper_side flags (map OfPair ps) ≡ map letter (uppers ps)
upper_pairs flags [] = refl
upper_pairs flags (p ∷ ps) = ap (λ (s : List (Piece Sym)). map letter (option_to_list p.up) ++ s) (upper_pairs flags ps) ∙ sym (map-append letter (option_to_list p.up) (uppers ps))

lower_pairs : (flags : List FlagOp) (ps : List Pair) → lower_side flags (map OfPair ps) ≡ map letter (lowers ps)
lower_pairs flags [] = refl
lower_pairs flags (p ∷ ps) = ap (λ (s : List (Piece Sym)). map letter (option_to_list p.low) ++ s) (lower_pairs flags ps) ∙ sym (map-append letter (option_to_list p.low) (lowers ps))

names_of_pairs : (ps : List Pair) → map name ps ≡ map Some (map OfPair ps)
names_of_pairs [] = refl
names_of_pairs (p ∷ ps) = ap (λ (os : List (Option Tape)). Some (OfPair p) ∷ os) (names_of_pairs ps)

pairs_of_names : (ps : List Pair) (tape : List Tape) → map name ps ≡ map Some tape → tape ≡ map OfPair ps
pairs_of_names [] [] e = refl
pairs_of_names [] (t ∷ tape) e = let clash : ◌≡◌ {A = List (Option Tape)} [] (Some t ∷ map Some tape) = e in cc
pairs_of_names (p ∷ ps) [] e = let clash : ◌≡◌ {A = List (Option Tape)} (Some (OfPair p) ∷ map name ps) [] = e in cc
pairs_of_names (p ∷ ps) (t ∷ tape) e =
    let both : ◌≡◌ {A = List (Option Tape)} (Some (OfPair p) ∷ map name ps) (Some t ∷ map Some tape) = e in
    let first : OfPair p ≡ t = cc in
    let rest : map name ps ≡ map Some tape = cc in
    ap (λ (s : Tape). s ∷ tape) (sym first) ∙ ap (λ (ts : List Tape). OfPair p ∷ ts) (pairs_of_names ps tape rest)

-- the tape of two sides
module _ (flags : List FlagOp) (upper lower : List (PieceOf Atom)) (tape : List Tape) (has : HasSides flags upper lower tape) where
  pub sides_symbols : (alphabet : List Sym) → All (PieceIsBuilt alphabet) (map piece_of upper) → All (PieceIsBuilt alphabet) (map piece_of lower) → UsesPairsOver alphabet (word tape)
  sides_symbols alphabet up_built low_built pair held =
      let same : Keeps flags flags = λ k f at. at in
      record {
        up = λ x is. side_over alphabet upper x up_built (subst (λ s. Contains s (letter x)) (has.upper_is flags same) (on_side (upper_pieces flags) tape (OfPair pair) (letter x) held (has_symbol pair.up x is)));
        low = λ x is. side_over alphabet lower x low_built (subst (λ s. Contains s (letter x)) (has.lower_is flags same) (on_side (lower_pieces flags) tape (OfPair pair) (letter x) held (has_symbol pair.low x is)));
      }

  pub sides_tape : (parts : List Part) (alphabet : List Sym) → HasSidesOf parts alphabet flags (sides (map piece_of upper) (map piece_of lower)) (word tape)
  sides_tape parts alphabet all keeps x y = (
    λ adds. (tape, refl, adds.0 ∙ sym (has.upper_is all keeps), adds.1 ∙ sym (has.lower_is all keeps)),
    λ (v, is, up, low).
        (up ∙ ap (upper_side all) is ∙ has.upper_is all keeps, low ∙ ap (lower_side all) is ∙ has.lower_is all keeps),
  )

-- the tapes of pairs
module _ (alphabet : List Sym) (r : Automaton Pair) (m : Automaton Tape) where
  pub pairs_symbols : UsesSymbols alphabet r → ((t : Tape) → UsesLetter m t → (p : Pair) × UsesLetter r p × (Some (OfPair p) ≡ Some t)) → UsesPairsOver alphabet (network m)
  pairs_symbols over letters pair uses =
      let s = letters (OfPair pair) uses in
      let same : s.0 ≡ pair = let e : OfPair s.0 ≡ OfPair pair = same_Some (OfPair s.0) (OfPair pair) s.2 in cc in
      let used : UsesLetter r pair = subst (UsesLetter r) same s.1 in
      record { up = λ x is. over.upper x (pair, used, is); low = λ x is. over.lower x (pair, used, is) }

  pub pairs_tapes : (parts : List Part) (flags : List FlagOp) (e : Term Atom) → AreSame (IsRelated r) (Relates (stands parts) alphabet e) → ((v : List Tape) → Accepts m v ↔ IsRenamed name (Accepts r) v) → HasSidesOf parts alphabet flags (pairs e) (network m)
  pairs_tapes parts flags e related language all keeps x y = (
    λ (u, w, relates, up, low).
        let v = (related u w).1 relates in (
          map OfPair v.0,
          (language (map OfPair v.0)).1 (v.0, v.1, names_of_pairs v.0),
          up ∙ ap (map letter) (sym v.2) ∙ sym (upper_pairs all v.0),
          low ∙ ap (map letter) (sym v.3) ∙ sym (lower_pairs all v.0),
        ),
    λ (tape, path, up, low).
        let v = (language tape).0 path in
        let is = pairs_of_names v.0 tape v.2 in (
          uppers v.0,
          lowers v.0,
          (related (uppers v.0) (lowers v.0)).0 (v.0, v.1, refl, refl),
          up ∙ ap (upper_side all) is ∙ upper_pairs all v.0,
          low ∙ ap (lower_side all) is ∙ lower_pairs all v.0,
        ),
  )
