-- Lists that are mapped, item by item.
use Rattle.std.proofs.Common.{◌≡◌, List, [], ◌∷◌, map, All, refl}
use Rattle.std.proofs.lemmas.List.Elements.{All-nil, All-cons, All-head, All-tail}

pub each : {X Y : Type 0} (f g : X → Y) (P : X → Type 0) → ((x : X) → P x → f x ≡ g x) → (xs : List X) → All P xs → map f xs ≡ map g xs
each f g P agree [] all = refl
each f g P agree (x ∷ xs) all =
    let first = agree x (All-head P x xs all) in
    let rest = each f g P agree xs (All-tail P x xs all) in
    λ i. first i ∷ rest i

pub each_twice : {X Y Z : Type 0} (g : Y → Z) (f : X → Y) (h : X → Z) → ((x : X) → g (f x) ≡ h x) → (xs : List X) → map g (map f xs) ≡ map h xs
each_twice g f h agree [] = refl
each_twice g f h agree (x ∷ xs) = let first = agree x in let rest = each_twice g f h agree xs in λ i. first i ∷ rest i

pub each_same : {X : Type 0} (f : X → X) → ((x : X) → f x ≡ x) → (xs : List X) → map f xs ≡ xs
each_same f agree [] = refl
each_same f agree (x ∷ xs) = let first = agree x in let rest = each_same f agree xs in λ i. first i ∷ rest i

pub all_under : {X Y : Type 0} (f : X → Y) (P : Y → Type 0) (Q : X → Type 0) → ((x : X) → P (f x) → Q x) → (xs : List X) → All P (map f xs) → All Q xs
all_under f P Q from [] all = All-nil Q
all_under f P Q from (x ∷ xs) all = All-cons Q x xs (from x (All-head P (f x) (map f xs) all)) (all_under f P Q from xs (All-tail P (f x) (map f xs) all))
