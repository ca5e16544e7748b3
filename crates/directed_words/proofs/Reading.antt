-- One side of a written derivation.
use Rattle.std.proofs.Common.{◌≡◌, List, [], ◌∷◌, ◌++◌, Option, Some, None, refl, ap, ◌∙◌, append-nil, map}
use Rattle.std.specs.Prelude.{option_map}
use Rattle.std.specs.List.{flat_map, filter_map, cons_option}
use Rattle.std.proofs.lemmas.List.{map-append}
use Rattle.std.proofs.lemmas.List.Elements.{filter_map-append}
use Rattle.fsm_base.specs.declared.letters.Sym.{Sym}
use Rattle.fsm_base.specs.declared.letters.Bound.{Bound}
use Rattle.fsm_base.specs.declared.letters.Bound.TheVariants.{Edge, Inner}
use Rattle.replace_words.specs.declared.marks.Mark.{Mark}
use Rattle.replace_words.specs.Marked.{upper_of, lower_of}
use Rattle.regex_ast.specs.declared.expr.Side.{Side}
use Rattle.regex_ast.specs.declared.expr.Side.TheVariants.{UpUp, LowUp, UpLow, LowLow}
use Rattle.replace_words.specs.Claims.{Claim, copied, replaced, marked, upper, lower, left_side, right_side}
use Rattle.replace_words.specs.Marked.{ups, lows, sames, encode, written, reading, symbol_of, on_left, on_right}

upper_ups : (w : List Sym) → reading upper_of (ups w) ≡ map Inner w
upper_ups [] = refl
upper_ups (s ∷ w) = ap (λ v. Inner s ∷ v) (upper_ups w)

lower_ups : (w : List Sym) → reading lower_of (ups w) ≡ []
lower_ups [] = refl
lower_ups (s ∷ w) = lower_ups w

upper_lows : (w : List Sym) → reading upper_of (lows w) ≡ []
upper_lows [] = refl
upper_lows (s ∷ w) = upper_lows w

lower_lows : (w : List Sym) → reading lower_of (lows w) ≡ map Inner w
lower_lows [] = refl
lower_lows (s ∷ w) = ap (λ v. Inner s ∷ v) (lower_lows w)

upper_sames : (w : List Sym) → reading upper_of (sames w) ≡ map Inner w
upper_sames [] = refl
upper_sames (s ∷ w) = ap (λ v. Inner s ∷ v) (upper_sames w)

lower_sames : (w : List Sym) → reading lower_of (sames w) ≡ map Inner w
lower_sames [] = refl
lower_sames (s ∷ w) = ap (λ v. Inner s ∷ v) (lower_sames w)

-- a projection of marks reads this side of each piece
pub record Reads (f : Mark → Option Sym) (side : Claim → List Sym) : Type 0 where
  pub piece : (p : Claim) → reading f (encode p) ≡ map Inner (side p)

upper_piece : (p : Claim) → reading upper_of (encode p) ≡ map Inner (upper p)
upper_piece (copied s) = refl
upper_piece (replaced k c b) = simp (filter_map-append, upper_ups, upper_lows, append-nil)
upper_piece (marked k b c a) = simp (filter_map-append, upper_sames, upper_lows, append-nil)

lower_piece : (p : Claim) → reading lower_of (encode p) ≡ map Inner (lower p)
lower_piece (copied s) = refl
lower_piece (replaced k c b) = simp (filter_map-append, lower_ups, lower_lows, append-nil)
lower_piece (marked k b c a) = simp (filter_map-append, lower_sames, lower_lows, append-nil, map-append)

pub reads_upper : Reads upper_of upper
reads_upper = record { piece = upper_piece }

pub reads_lower : Reads lower_of lower
reads_lower = record { piece = lower_piece }

pub reads_left : (side : Side) → Reads (on_left side) (left_side side)
reads_left UpUp = reads_upper
reads_left LowUp = reads_lower
reads_left UpLow = reads_upper
reads_left LowLow = reads_lower

pub reads_right : (side : Side) → Reads (on_right side) (right_side side)
reads_right UpUp = reads_upper
reads_right LowUp = reads_upper
reads_right UpLow = reads_lower
reads_right LowLow = reads_lower

-- the letter, or none at the edge
strip : Bound Sym → Option Sym
strip Edge = None
strip (Inner s) = Some s

strip_inner : (v : List Sym) → filter_map strip (map Inner v) ≡ v
unfolding strip
strip_inner [] = refl
strip_inner (s ∷ v) = ap (λ w. s ∷ w) (strip_inner v)

symbols : (f : Mark → Option Sym) (w : List (Bound Mark)) → filter_map (symbol_of f) w ≡ filter_map strip (reading f w)
unfolding strip
symbols f [] = refl
symbols f (Edge ∷ w) = symbols f w
symbols f (Inner m ∷ w) = go (f m) (symbols f w)
  where
    go : (o : Option Sym) → filter_map (symbol_of f) w ≡ filter_map strip (reading f w) → cons_option o (filter_map (symbol_of f) w) ≡ filter_map strip (cons_option (option_map Inner o) (reading f w))
    go None e = e
    go (Some s) e = ap (λ v. s ∷ v) e

module _ {f : Mark → Option Sym} {side : Claim → List Sym} (reads : Reads f side) where
  reading_pieces : (ps : List Claim) → reading f (flat_map encode ps) ≡ map Inner (flat_map side ps)
  reading_pieces [] = refl
  reading_pieces (p ∷ ps) = simp (filter_map-append, map-append, reads.piece p, reading_pieces ps)

  -- the pieces before a place
  pub reading_before : (ps : List Claim) → reading f (Edge ∷ flat_map encode ps) ≡ Edge ∷ map Inner (flat_map side ps)
  reading_before ps = ap (λ v. Edge ∷ v) (reading_pieces ps)

  -- the pieces behind a place
  pub reading_behind : (ps : List Claim) → reading f (flat_map encode ps ++ Edge ∷ []) ≡ map Inner (flat_map side ps) ++ Edge ∷ []
  reading_behind ps = simp (filter_map-append, reading_pieces ps)

  -- all of the pieces, without the edges
  pub side_of_written : (ps : List Claim) → filter_map (symbol_of f) (written ps) ≡ flat_map side ps
  unfolding strip
  side_of_written ps =
      symbols f (written ps) ∙ ap (λ v. filter_map strip (Edge ∷ v)) (reading_behind ps) ∙ filter_map-append strip (map Inner (flat_map side ps)) (Edge ∷ []) ∙ append-nil (filter_map strip (map Inner (flat_map side ps))) ∙ strip_inner (flat_map side ps)
