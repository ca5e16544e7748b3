-- Words with each letter renamed, where each has a new name.
use Rattle.std.specs.Prelude.{◌≡◌, List, Option, None, Some, map}
use Rattle.fsm_base.specs.declared.letters.Bound.{Bound}
use Rattle.fsm_base.specs.declared.letters.Bound.TheVariants.{Edge, Inner}
use Rattle.fst_algebra.specs.declared.substitution.Image.{Image}
use Rattle.fst_algebra.specs.declared.substitution.Image.TheVariants.{Letter, Nothing}

-- the words of the set whose letters all have new names, with these
abbrev pub IsRenamed : {L M : Type 0} → (L → Option M) → (List L → Type 0) → List M → Type 0
IsRenamed {L} name P w = (v : List L) × P v × (map name v ≡ map Some w)

-- what stands in place of a letter: its new name, or nothing where it has none
abbrev pub letter_or_nothing : {M : Type 0} → Option M → Image M
letter_or_nothing None = Nothing
letter_or_nothing (Some y) = Letter y

-- the letter without the edge of the word, which has no other name
abbrev pub inside_of : {L : Type 0} → Bound L → Option L
inside_of Edge = None
inside_of (Inner x) = Some x
