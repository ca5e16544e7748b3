use Rattle.std.proofs.Common.{◌≡◌, ◌≤◌, ◌++◌, [], ◌∷◌, length}
use Rattle.word_relations.specs.Answers.{most_answers}
use Rattle.lookup.specs.Listings.{IsListing}
use Rattle.lookup.specs.Walks.{IsWalk}
use Rattle.lookup.proofs.OrderOfBytes.{left}
use Rattle.lookup.proofs.listing.listed.Given as goal

abbrev pub invariant-moves : goal.invariant-moves
invariant-moves l = record {
  walk : IsWalk l.walk;
  rows : l.walk.rows ≡ l.fn.walk.rows;
  bound : l.walk.marked.bound ≡ l.fn.walk.marked.bound;
  short : length l.walk.text.items ≤ l.fn.walk.marked.bound;
  listing : IsListing l.fn.walk.rows l.walk.text.items l.walk.floor l.found.items;
  few : length l.found.items ≤ most_answers;
}

abbrev pub decreases-moves : goal.decreases-moves
decreases-moves l = left l.walk.marked.bound (l.walk.text.items ++ l.walk.floor ∷ [])
