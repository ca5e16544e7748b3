-- Laws of these definitions.
use Rattle.std.specs.Prelude.{◌≡◌, ◌≤◌, ℕ, List, [], ◌∷◌, length, codes}
use Rattle.word_relations.specs.Relations.{AreSame}
use Rattle.regex_ast.specs.Terms.{Term, atom, concat, no_term, then_term}
use Rattle.regex_ast.specs.declared.expr.Raw.{Raw}
use Rattle.regex_ast.specs.declared.expr.Raw.TheVariants.{Run}
use Rattle.project_meaning.specs.Trees.{Piece, xfst}
use Rattle.project_meaning.specs.Forms.{definition_of, found_kind, found_weight, kind_in, weight_in}
use Rattle.project_meaning.specs.Projects.{Written, Project, HasNoCycle, IsClosed, project_of}
use Rattle.project_meaning.specs.Meaning.{NameRelates, MeansTo, Meaning}
use Rattle.project_meaning.specs.Touched.{Touched}
use Rattle.project_meaning.specs.Lexicons.{flags_pass}
use Rattle.project_meaning.specs.PositiveFlags.{ArePositive}
use Rattle.project_meaning.specs.PositiveFlags as positive

-- where no name reaches itself, names mean the same to every greater depth
abbrev pub DepthIsEnough : Type 0
DepthIsEnough =
    (project : Project) → HasNoCycle project → IsClosed project → (depth : ℕ) → length project.definitions ≤ depth
    → (name : List ℕ) → AreSame (MeansTo depth project name) (Meaning project name)

-- there a name means what its definition relates, each name in it standing for what that means
abbrev pub NamesUnfold : Type 0
NamesUnfold = (project : Project) → HasNoCycle project → IsClosed project → (name : List ℕ) → AreSame (Meaning project name) (NameRelates (Meaning project) project name)

-- where no name reaches itself, a name has the kind and the weight of its definition, where each name in it has its own
abbrev pub KindsUnfold : Type 0
KindsUnfold = (project : Project) → HasNoCycle project → IsClosed project → (name : List ℕ) → kind_in project name ≡ found_kind (kind_in project) (definition_of project.definitions name)

abbrev pub WeightsUnfold : Type 0
WeightsUnfold = (project : Project) → HasNoCycle project → IsClosed project → (name : List ℕ) → weight_in project name ≡ found_weight (weight_in project) (definition_of project.definitions name)

-- between equal projects no name is touched
abbrev pub NothingTouched : Type 0
NothingTouched = (project : Project) (name : List ℕ) → Touched project project name → ⊥

-- flags of which none is negative pass where they pass by the table without negative flags
abbrev pub PositiveFlagsAsBefore : Type 0
PositiveFlagsAsBefore = (pieces : List (Piece (List ℕ))) → ArePositive pieces → flags_pass pieces ≡ positive.flags_pass pieces

-- `define A B C ;`, `define B b ;`, `define C c ;`
abbrev pub run : List ℕ → Term Raw
run text = atom (Run text)

abbrev pub defined : List ℕ → ℕ → Term Raw → Written
defined name line e = record { name = name; line = line; file = codes "r.xfst"; body = xfst e }

abbrev pub example : Project
example = project_of
    (defined (codes "A") 1 (concat (then_term (run (codes "B")) (then_term (run (codes "C")) no_term)))
    ∷ defined (codes "B") 2 (run (codes "b"))
    ∷ defined (codes "C") 3 (run (codes "c"))
    ∷ []) []

-- A relates bc to bc, and nothing else
abbrev pub NamesMayComeLater : Type 0
NamesMayComeLater = AreSame (Meaning example (codes "A")) (λ u w. (u ≡ codes "b" ∷ codes "c" ∷ []) × (u ≡ w))
