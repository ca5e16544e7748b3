-- Words with words of a set put in.
use Rattle.std.proofs.Common.{List, [], ◌∷◌}
use Rattle.word_relations.specs.Operations.{HasPutIn, IsIgnoring}
use Rattle.word_relations.proofs.Laws.{IsRepetition-more}

-- more words, and more words that are put in
pub IsIgnoring-more : {L : Type 0} (P P' Q Q' : List L → Type 0) → ((w : List L) → P w → P' w) → ((w : List L) → Q w → Q' w) → (w : List L) → IsIgnoring P Q w → IsIgnoring P' Q' w
IsIgnoring-more {L} P P' Q Q' f g w (v, p, h) = (v, f v p, more v w h)
  where
    more : (v w : List L) → HasPutIn Q v w → HasPutIn Q' v w
    more [] w h = IsRepetition-more Q Q' g w h
    more (x ∷ v) w (front, rest, is, words, h) = (front, rest, is, IsRepetition-more Q Q' g front words, more v rest h)
