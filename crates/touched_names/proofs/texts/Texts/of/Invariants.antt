use Rattle.std.proofs.Common.{◌≡◌, take}
use Rattle.word_relations.specs.Words.{IsDistinct}
use Rattle.touched_names.proofs.texts.Texts.of.Given as goal

-- the texts so far
abbrev pub invariant-texts : goal.invariant-texts
invariant-texts l = IsDistinct l.texts → l.all ≡ take l.text-index l.texts
