-- The words of a text: those of its lines, in order.
use Rattle.std.specs.Prelude.{ℕ, List}
use Rattle.std.specs.List.{flat_map}
use Rattle.interlinear.specs.Glosses.{lines_of}
use Rattle.interlinear.specs.Words.{words_of}

abbrev pub words_in : List ℕ → List (List ℕ)
words_in text = flat_map words_of (lines_of text)
