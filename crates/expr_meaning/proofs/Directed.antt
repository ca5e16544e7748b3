-- Directed rules with other matches and replacements: what one relates another does that replaces where it does, and that has no match
-- where it has none.
use Rattle.std.proofs.Common.{◌↔◌, List}
use Rattle.std.specs.List.{Contains}
use Rattle.word_relations.specs.Relations.{AreSame}
use Rattle.regex_ast.specs.declared.expr.Way.{Way}
use Rattle.regex_ast.specs.declared.expr.Way.TheVariants.{LeftLongest, LeftShortest, RightLongest, RightShortest}
use Rattle.expr_meaning.specs.Replacement.{Piece, copied, replaced, IsPiece}
use Rattle.expr_meaning.specs.Directed.{StandsAt, AppliesOn, IsDirectedBy}

-- over an alphabet that has the letters of the other
module _ {L : Type 0} (alphabet other : List L) (M N : List L → List L → List L → Type 0) (R S : List (Piece L) → List L → List L → List (Piece L) → Type 0)
    (letters : (x : L) → Contains alphabet x → Contains other x)
    (replaces : (before : List (Piece L)) (centre result : List L) (behind : List (Piece L)) → R before centre result behind → S before centre result behind)
    (matches : (x centre z : List L) → N x centre z → M x centre z) where
  piece_goes : (before : List (Piece L)) (piece : Piece L) (behind : List (Piece L)) → IsPiece alphabet R (AppliesOn M) before piece behind → IsPiece other S (AppliesOn N) before piece behind
  piece_goes before (copied x) behind h = letters x h
  piece_goes before (replaced centre result) behind h = replaces before centre result behind h

  stands : (way : Way) (before : List (Piece L)) (piece : Piece L) (behind : List (Piece L)) (c : List L) → StandsAt N way before piece behind c → StandsAt M way before piece behind c
  stands LeftLongest before piece behind c (z, whole, h) = (z, whole, matches _ c z h)
  stands LeftShortest before piece behind c (z, whole, h) = (z, whole, matches _ c z h)
  stands RightLongest before piece behind c (x, whole, h) = (x, whole, matches x c _ h)
  stands RightShortest before piece behind c (x, whole, h) = (x, whole, matches x c _ h)

  pub directed_goes : (way : Way) (u w : List L) → IsDirectedBy M alphabet R way u w → IsDirectedBy N other S way u w
  directed_goes way u w (pieces, (each, once), directed, up, low) = (
    pieces,
    (λ before piece behind is. piece_goes before piece behind (each before piece behind is), once),
    λ before piece behind c is there bars. directed before piece behind c is (stands way before piece behind c there) bars,
    up,
    low,
  )

-- over one alphabet, with the same matches and the same replacements
pub same_directed : {L : Type 0} (alphabet : List L) (M N : List L → List L → List L → Type 0) (R S : List (Piece L) → List L → List L → List (Piece L) → Type 0)
    → ((before : List (Piece L)) (centre result : List L) (behind : List (Piece L)) → R before centre result behind ↔ S before centre result behind)
    → ((x centre z : List L) → M x centre z ↔ N x centre z) → (way : Way) → AreSame (IsDirectedBy M alphabet R way) (IsDirectedBy N alphabet S way)
same_directed alphabet M N R S replaces matches way u w = (
  directed_goes alphabet alphabet M N R S (λ x h. h) (λ before centre result behind. (replaces before centre result behind).0) (λ x centre z. (matches x centre z).1) way u w,
  directed_goes alphabet alphabet N M S R (λ x h. h) (λ before centre result behind. (replaces before centre result behind).1) (λ x centre z. (matches x centre z).0) way u w,
)
