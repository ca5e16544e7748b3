-- What a place refers to, by its list.
use Rattle.std.proofs.Common.{◌≡◌, ℕ, ◌<◌, List, Some, length, get_or, subst, ap, ◌∙◌}
use Rattle.std.specs.Prelude.{Vec}
use Rattle.std.specs.Global.{Global}
use Rattle.std.specs.List.{Contains, slice_get}
use Rattle.std.specs.Option.{option_map}
use Rattle.std.proofs.lemmas.List.{length-map}
use Rattle.std.proofs.lemmas.Option.{slice_get_read, slice_get-map, slice_get_within}
use Rattle.word_relations.proofs.Places.{same_at}
use Rattle.name_order.specs.Graph.{graph_of, Refers, Reaches, at_once, further}

pub count_of : (lists : List (Vec ℕ Global)) → length (graph_of lists) ≡ length lists
count_of lists = length-map lists (λ (list : Vec ℕ Global). list.items)

abbrev items_of : Vec ℕ Global → List ℕ
items_of list = list.items

module _ (lists : List (Vec ℕ Global)) (place : ℕ) (list : Vec ℕ Global) (within : place < length lists) (is : list ≡ get_or lists place list) where
  list_at : slice_get (graph_of lists) place ≡ Some list.items
  list_at = slice_get-map items_of lists place ∙ ap (option_map items_of) (slice_get_read lists (length lists) place list (λ _. length lists) within is)

  pub refers_from : (other : ℕ) → Contains list.items other → Refers (graph_of lists) place other
  refers_from other h = (list.items, list_at, h)

  pub refers_to : (other : ℕ) → Refers (graph_of lists) place other → Contains list.items other
  refers_to other (below, at, h) = subst (λ (xs : List ℕ). Contains xs other) (same_at (graph_of lists) place below list.items at list_at) h

pub refers_within : (graph : List (List ℕ)) (place other : ℕ) → Refers graph place other → place < length graph
refers_within graph place other (below, at, h) = slice_get_within graph place below at

pub reaches_within : (graph : List (List ℕ)) (place other : ℕ) → Reaches graph place other → place < length graph
reaches_within graph place other (at_once r) = refers_within graph place other r
reaches_within graph place other (further {next} r more) = refers_within graph place next r

pub reaches_on : (graph : List (List ℕ)) (a b c : ℕ) → Reaches graph a b → Refers graph b c → Reaches graph a c
reaches_on graph a b c (at_once r) s = further r (at_once s)
reaches_on graph a b c (further {next} r more) s = further r (reaches_on graph next b c more s)
