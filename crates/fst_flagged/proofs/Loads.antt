-- What the letters of transducers with conditions carry, and those of tapes.
use Rattle.std.proofs.Common.{◌≡◌, ◌<◌, ◌≤◌, ◌-◌, ◌↔◌, ℕ, Bool, true, false, cond, List, [], ◌∷◌, ◌++◌, Option, Some, None, refl, sym, ap, subst, ◌∙◌}
use Rattle.std.specs.Prelude.{IsTrue, slice_get}
use Rattle.std.specs.List.{Contains, flat_map}
use Rattle.std.specs.Option.{option_to_list}
use Rattle.fsm_base.specs.declared.letters.Sym.{Sym}
use Rattle.fsm_base.specs.declared.letters.Pair.{Pair}
use Rattle.word_relations.specs.Relations.{AreSame}
use Rattle.fsa.specs.Automaton.{Automaton}
use Rattle.fsa.specs.Language.{Accepts}
use Rattle.fst_algebra.specs.Relation.{uppers, lowers, symbols_on, IsRelated}
use Rattle.project_meaning.specs.Trees.{Piece}
use Rattle.project_meaning.specs.Lexicons.{flags_pass}
use Rattle.regex_ast.specs.declared.lexc.FlagOp.{FlagOp}
use Rattle.flag_diacritics.specs.declared.tape.Tape.{Tape}
use Rattle.flag_diacritics.specs.Tapes.{upper_flag, lower_flag, pair_in, pairs_of, TapesRelate}
use Rattle.fst_flagged.specs.declared.condition.Condition.{Condition}
use Rattle.fst_flagged.specs.declared.condition.Run.{Run}
use Rattle.fst_flagged.specs.declared.condition.Run.TheVariants.{Upper, Lower}
use Rattle.fst_flagged.specs.Conditions.{letter_at, letters_of, condition_at, flag_in, flags_of, Hold}
use Rattle.fst_flagged.specs.Flagged.{FlaggedView, FlaggedRelates}
use Rattle.fst_flagged.proofs.Carried.{Load, Carried, flat_map-flat_map}

-- a pair with its conditions above, or below
abbrev pub above : List Condition → Load Pair
above conditions = record {
  upper = λ pair. letters_of (option_to_list pair.up);
  lower = λ pair. option_to_list pair.low;
  top = λ pair. flags_of Upper conditions (option_to_list pair.up);
  bottom = λ pair. flags_of Lower conditions (option_to_list pair.up);
}

abbrev pub below : List Condition → Load Pair
below conditions = record {
  upper = λ pair. option_to_list pair.up;
  lower = λ pair. letters_of (option_to_list pair.low);
  top = λ pair. flags_of Upper conditions (option_to_list pair.low);
  bottom = λ pair. flags_of Lower conditions (option_to_list pair.low);
}

-- a letter of tapes
abbrev pub of_tapes : List FlagOp → Load Tape
of_tapes flags = record {
  upper = λ tape. uppers (pair_in tape);
  lower = λ tape. lowers (pair_in tape);
  top = upper_flag flags;
  bottom = lower_flag flags;
}

-- what stands on a side, letter by letter
letters_on : (side : Pair → Option Sym) (pairs : List Pair) → flat_map (λ pair. letters_of (option_to_list (side pair))) pairs ≡ letters_of (symbols_on side pairs)
letters_on side pairs = sym (flat_map-flat_map letter_at (λ pair. option_to_list (side pair)) pairs)

flags_on : (run : Run) (conditions : List Condition) (side : Pair → Option Sym) (pairs : List Pair) → flat_map (λ pair. flags_of run conditions (option_to_list (side pair))) pairs ≡ flags_of run conditions (symbols_on side pairs)
flags_on run conditions side pairs =
    sym (flat_map-flat_map (flag_in run) (λ pair. flat_map (condition_at conditions) (option_to_list (side pair))) pairs)
    ∙ ap (λ (cs : List Condition). flat_map (flag_in run) cs) (sym (flat_map-flat_map (condition_at conditions) (λ pair. option_to_list (side pair)) pairs))

abbrev Passes : List (Piece (List ℕ)) → Type 0
Passes pieces = IsTrue (flags_pass pieces)

pub above_carries : (m : Automaton Pair) (conditions : List Condition) → AreSame (FlaggedRelates (record { net = m; conditions = conditions })) (Carried (Accepts m) (above conditions))
above_carries m conditions u w = (
  λ (x, (pairs, path, up, low), (top, bottom), letters). (
    pairs,
    path,
    subst Passes (ap (flags_of Upper conditions) (sym up) ∙ sym (flags_on Upper conditions (λ pair. pair.up) pairs)) top,
    subst Passes (ap (flags_of Lower conditions) (sym up) ∙ sym (flags_on Lower conditions (λ pair. pair.up) pairs)) bottom,
    letters_on (λ pair. pair.up) pairs ∙ ap letters_of up ∙ letters,
    low,
  ),
  λ (pairs, path, top, bottom, up, low). (
    uppers pairs,
    (pairs, path, refl, low),
    (subst Passes (flags_on Upper conditions (λ pair. pair.up) pairs) top, subst Passes (flags_on Lower conditions (λ pair. pair.up) pairs) bottom),
    sym (letters_on (λ pair. pair.up) pairs) ∙ up,
  ),
)

-- the relation of a transducer with its conditions below
abbrev pub RelatesAbove : Automaton Pair → List Condition → List Sym → List Sym → Type 0
RelatesAbove m conditions u w = (y : List Sym) × IsRelated m u y × Hold conditions y × (letters_of y ≡ w)

pub below_carries : (m : Automaton Pair) (conditions : List Condition) → AreSame (RelatesAbove m conditions) (Carried (Accepts m) (below conditions))
below_carries m conditions u w = (
  λ (y, (pairs, path, up, low), (top, bottom), letters). (
    pairs,
    path,
    subst Passes (ap (flags_of Upper conditions) (sym low) ∙ sym (flags_on Upper conditions (λ pair. pair.low) pairs)) top,
    subst Passes (ap (flags_of Lower conditions) (sym low) ∙ sym (flags_on Lower conditions (λ pair. pair.low) pairs)) bottom,
    up,
    letters_on (λ pair. pair.low) pairs ∙ ap letters_of low ∙ letters,
  ),
  λ (pairs, path, top, bottom, up, low). (
    lowers pairs,
    (pairs, path, up, refl),
    (subst Passes (flags_on Upper conditions (λ pair. pair.low) pairs) top, subst Passes (flags_on Lower conditions (λ pair. pair.low) pairs) bottom),
    sym (letters_on (λ pair. pair.low) pairs) ∙ low,
  ),
)

pub tapes_carry : (net : Automaton Tape) (flags : List FlagOp) → AreSame (TapesRelate net flags) (Carried (Accepts net) (of_tapes flags))
tapes_carry net flags u w = (
  λ (tape, path, (top, bottom), up, low). (tape, path, top, bottom, sym (on (λ pair. pair.up) tape) ∙ up, sym (on (λ pair. pair.low) tape) ∙ low),
  λ (tape, path, top, bottom, up, low). (tape, path, (top, bottom), on (λ pair. pair.up) tape ∙ up, on (λ pair. pair.low) tape ∙ low),
)
  where
    on : (side : Pair → Option Sym) (tape : List Tape) → symbols_on side (pairs_of tape) ≡ flat_map (λ letter. symbols_on side (pair_in letter)) tape
    on side tape = flat_map-flat_map (λ pair. option_to_list (side pair)) pair_in tape
