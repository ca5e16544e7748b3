-- What holds of the elements of lists, and of what each of them gives.
use Rattle.std.proofs.Common.{List, [], ◌∷◌, All, Contains, inl, inr}
use Rattle.std.proofs.lemmas.List.Elements.{All-nil, All-append, All-contains, All-contains_itself, All-weaker, Contains-append_cases}
use Rattle.std.specs.List.{flat_map}
use Rattle.word_relations.proofs.Members.{Contains-nil_cases, Contains-head}
use Rattle.project_meaning.proofs.Places.{in_back}

-- what holds of each element, where that may be known to be one
pub all_within : {X : Type 0} (P Q : X → Type 0) (xs : List X) → ((x : X) → Contains xs x → P x → Q x) → All P xs → All Q xs
all_within P Q xs goes h = All-weaker (Contains xs) Q (λ x at. goes x at (All-contains P xs x h at)) xs (All-contains_itself xs)

pub all_flat : {X Y : Type 0} (f : X → List Y) (P : Y → Type 0) (xs : List X) → ((x : X) → Contains xs x → All P (f x)) → All P (flat_map f xs)
all_flat f P [] h = All-nil P
all_flat f P (x ∷ xs) h = All-append P (f x) (flat_map f xs) (h x (Contains-head x xs)) (all_flat f P xs (λ y at. h y (in_back (x ∷ []) xs y at)))

pub flat_cases : {X Y : Type 0} (f : X → List Y) (xs : List X) (y : Y) → Contains (flat_map f xs) y → (x : X) × Contains xs x × Contains (f x) y
flat_cases f [] y at = absurd (Contains-nil_cases y at)
flat_cases {X = X} f (x ∷ xs) y at =
    elim (Contains-append_cases (f x) (flat_map f xs) y at) as (λ _. (z : X) × Contains (x ∷ xs) z × Contains (f z) y) [
      | inl here ↦ (x, Contains-head x xs, here)
      | inr there ↦ (let (z, among, gives) = flat_cases f xs y there in (z, in_back (x ∷ []) xs z among, gives))
    ]
