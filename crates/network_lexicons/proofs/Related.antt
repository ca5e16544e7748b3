-- What a network of tapes relates, by the sides of its tapes.
use Rattle.std.proofs.Common.{◌≡◌, ◌↔◌, ℕ, Bool, ◌&&◌, List, [], ◌∷◌, ◌++◌, Option, None, Some, codes, map, refl, sym, ap, ◌∙◌}
use Rattle.std.specs.List.{Contains, flat_map, slice_get}
use Rattle.std.specs.Option.{option_to_list}
use Rattle.std.specs.Str.{bytes_eq}
use Rattle.word_relations.specs.Relations.{AreSame}
use Rattle.word_relations.specs.Words.{IsDistinct}
use Rattle.word_relations.proofs.Pairs.{same_trans}
use Rattle.fsm_base.specs.declared.letters.Sym.{Sym}
use Rattle.fsm_base.specs.declared.letters.Pair.{Pair}
use Rattle.fsa.specs.Automaton.{Automaton, UsesLetter}
use Rattle.fsa.specs.Language.{Accepts}
use Rattle.fst_algebra.specs.Relation.{uppers, lowers}
use Rattle.regex_ast.specs.declared.expr.Atom.{Atom}
use Rattle.regex_ast.specs.declared.lexc.FlagOp.{FlagOp}
use Rattle.project_meaning.specs.Trees.{Piece, letter, flag, Lexicon}
use Rattle.project_meaning.specs.Settings.{Setting, neutral, passes}
use Rattle.project_meaning.specs.Lexicons.{run_passes, features_behind, letters_of, LexiconsRelate}
use Rattle.flag_diacritics.specs.Tapes.{flag_of, upper_flag, lower_flag, pairs_of, TapesRelate, UsesPair}
use Rattle.flag_diacritics.specs.declared.tape.Tape.{Tape}
use Rattle.flag_diacritics.specs.declared.tape.Tape.TheVariants.{Pair as OfPair, UpFlag, LowFlag}
use Rattle.lexc_compile.specs.Paths.{HasPath, PlacedEntry, SomeEntryUses}
use Rattle.network_algebra.specs.Networks.{PairsOf, RelatesOnly}
use Rattle.network_algebra.specs.declared.network.Network.{Network}
use Rattle.network_expr.specs.Parts.{stands}
use Rattle.network_expr.specs.declared.parts.Part.{Part}
use Rattle.network_lexicons.specs.Plain.{symbol_in, names_of}
use Rattle.network_lexicons.specs.Sides.{upper_pieces, lower_pieces, upper_side, lower_side}
use Rattle.network_lexicons.specs.Entries.{AreLexiconsFor, IsPairOver}
use Rattle.network_lexicons.proofs.Walked.{walks, pairs_over}

-- symbols don't count for flags
symbols_pass : (now : List ℕ → Setting (List ℕ)) (o : Option Sym) (rest : List (Piece Sym)) → run_passes now (map letter (option_to_list o) ++ rest) ≡ run_passes now rest
symbols_pass now None rest = refl
symbols_pass now (Some x) rest = refl

flags_alike : (now : List ℕ → Setting (List ℕ)) (o : Option FlagOp) (xs : List (Piece Sym)) (ys : List (Piece (List ℕ))) → ((then : List ℕ → Setting (List ℕ)) → run_passes then xs ≡ run_passes then ys)
    → run_passes now (map (λ f. flag (flag_of f)) (option_to_list o) ++ xs) ≡ run_passes now (map (λ f. flag (flag_of f)) (option_to_list o) ++ ys)
flags_alike now None xs ys same = same now
flags_alike now (Some f) xs ys same = ap (λ (b : Bool). passes bytes_eq (now f.feature) f.kind f.value && b) (same (features_behind now (flag_of f)))

module _ (flags : List FlagOp) where
  upper_runs : (tape : List Tape) (now : List ℕ → Setting (List ℕ)) → run_passes now (flat_map (upper_pieces flags) tape) ≡ run_passes now (flat_map (upper_flag flags) tape)
  upper_runs [] now = refl
  upper_runs (OfPair pair ∷ tape) now = symbols_pass now pair.up (flat_map (upper_pieces flags) tape) ∙ upper_runs tape now
  upper_runs (UpFlag n ∷ tape) now = flags_alike now (slice_get flags n) (flat_map (upper_pieces flags) tape) (flat_map (upper_flag flags) tape) (upper_runs tape)
  upper_runs (LowFlag n ∷ tape) now = upper_runs tape now

  lower_runs : (tape : List Tape) (now : List ℕ → Setting (List ℕ)) → run_passes now (flat_map (lower_pieces flags) tape) ≡ run_passes now (flat_map (lower_flag flags) tape)
  lower_runs [] now = refl
  lower_runs (OfPair pair ∷ tape) now = symbols_pass now pair.low (flat_map (lower_pieces flags) tape) ∙ lower_runs tape now
  lower_runs (UpFlag n ∷ tape) now = lower_runs tape now
  lower_runs (LowFlag n ∷ tape) now = flags_alike now (slice_get flags n) (flat_map (lower_pieces flags) tape) (flat_map (lower_flag flags) tape) (lower_runs tape)

-- nor flags for symbols
symbols_left : (o : Option Sym) (rest : List (Piece Sym)) → flat_map letters_of (map letter (option_to_list o) ++ rest) ≡ option_to_list o ++ flat_map letters_of rest
symbols_left None rest = refl
symbols_left (Some x) rest = refl

flags_left : (o : Option FlagOp) (rest : List (Piece Sym)) → flat_map letters_of (map (λ f. flag (flag_of f)) (option_to_list o) ++ rest) ≡ flat_map letters_of rest
flags_left None rest = refl
flags_left (Some f) rest = refl

module _ (flags : List FlagOp) where
  upper_left : (tape : List Tape) → flat_map letters_of (flat_map (upper_pieces flags) tape) ≡ uppers (pairs_of tape)
  upper_left [] = refl
  upper_left (OfPair pair ∷ tape) = symbols_left pair.up (flat_map (upper_pieces flags) tape) ∙ ap (λ s. option_to_list pair.up ++ s) (upper_left tape)
  upper_left (UpFlag n ∷ tape) = flags_left (slice_get flags n) (flat_map (upper_pieces flags) tape) ∙ upper_left tape
  upper_left (LowFlag n ∷ tape) = upper_left tape

  lower_left : (tape : List Tape) → flat_map letters_of (flat_map (lower_pieces flags) tape) ≡ lowers (pairs_of tape)
  lower_left [] = refl
  lower_left (OfPair pair ∷ tape) = symbols_left pair.low (flat_map (lower_pieces flags) tape) ∙ ap (λ s. option_to_list pair.low ++ s) (lower_left tape)
  lower_left (UpFlag n ∷ tape) = lower_left tape
  lower_left (LowFlag n ∷ tape) = flags_left (slice_get flags n) (flat_map (lower_pieces flags) tape) ∙ lower_left tape

module _ (parts : List Part) (alphabet : List Sym) (lexicons : List (Lexicon Atom)) (distinct : IsDistinct (names_of lexicons)) (flags : List FlagOp) (given : List PlacedEntry) (are : AreLexiconsFor parts alphabet (names_of lexicons) flags lexicons given)
    (root : ℕ) (at : slice_get (names_of lexicons) root ≡ Some (codes "Root")) (net : Automaton Tape) where
  pub related : ((tape : List Tape) → Accepts net tape ↔ HasPath (Contains given) (Some root) tape) → AreSame (TapesRelate net flags) (LexiconsRelate symbol_in (stands parts) alphabet lexicons)
  related language u w = (
    λ (tape, accepts, (up, low), u_is, w_is).
        let found = (walks parts alphabet lexicons distinct flags given are (codes "Root") root at (upper_side flags tape) (lower_side flags tape)).0 (tape, (language tape).0 accepts, refl, refl) in (
          found.0,
          upper_side flags tape,
          lower_side flags tape,
          found.1,
          upper_runs flags tape (λ feature. neutral) ∙ up,
          lower_runs flags tape (λ feature. neutral) ∙ low,
          sym u_is ∙ sym (upper_left flags tape),
          sym w_is ∙ sym (lower_left flags tape),
        ),
    λ (path, x, y, is, up, low, u_is, w_is).
        let found = (walks parts alphabet lexicons distinct flags given are (codes "Root") root at x y).1 (path, is) in
        let tape = found.0 in (
          tape,
          (language tape).1 found.1,
          (
            sym (upper_runs flags tape (λ feature. neutral)) ∙ ap (λ (s : List (Piece Sym)). run_passes (λ feature. neutral) s) (sym found.2) ∙ up,
            sym (lower_runs flags tape (λ feature. neutral)) ∙ ap (λ (s : List (Piece Sym)). run_passes (λ feature. neutral) s) (sym found.3) ∙ low,
          ),
          sym (upper_left flags tape) ∙ ap (flat_map letters_of) (sym found.2) ∙ sym u_is,
          sym (lower_left flags tape) ∙ ap (flat_map letters_of) (sym found.3) ∙ sym w_is,
        ),
  )

  -- the pairs on the tapes are over the alphabet
  pub pairs_alphabet : ((x : Tape) → UsesLetter net x → SomeEntryUses (Contains given) x) → (pair : Pair) → UsesPair net pair → IsPairOver alphabet pair
  pairs_alphabet letters pair uses = pairs_over parts alphabet lexicons distinct flags given are pair (letters (OfPair pair) uses)

  -- what relates the tapes whose flags pass
  pub related_network : ((tape : List Tape) → Accepts net tape ↔ HasPath (Contains given) (Some root) tape) → (n : Network) → RelatesOnly (TapesRelate net flags) n → AreSame (PairsOf n) (LexiconsRelate symbol_in (stands parts) alphabet lexicons)
  related_network language n is = same_trans (PairsOf n) (TapesRelate net flags) (LexiconsRelate symbol_in (stands parts) alphabet lexicons) is.pairs (related language)
