-- Each step keeps that whoever knows which board's page is shown is right.
use Rattle.std.proofs.Common.{◌≡◌, ℕ, ◌≢◌, List, [], ◌∷◌, ◌++◌, Option, Some, None, set, refl, sym, subst, ⊎_elim}
use mathlib.Core.Option.{some}
use lib.ListN.{get_elem?}
use Rattle.atomic_table.proofs.Lists.{at_set, at_snoc}
use Rattle.publish_board.specs.Published.{Board}
use Rattle.publish_board.specs.Rule.{Knows, AllKnow}

know_set : (b : Board) (views : List (Option Board)) (seat : ℕ) (w : Option Board) → AllKnow b views → Knows b w → AllKnow b (set views seat w)
know_set b views seat w h k j u e = ⊎_elim (λ (t : (j ≡ seat) × (w ≡ u)). subst (Knows b) t.1 k) (λ (t : (j ≢ seat) × (get_elem? views j ≡ some u)). h j u t.1) (at_set views seat j w u e)

know_snoc : (b : Board) (views : List (Option Board)) (w : Option Board) → AllKnow b views → Knows b w → AllKnow b (views ++ w ∷ [])
know_snoc b views w h k j u e = ⊎_elim (h j u) (λ (same : w ≡ u). subst (Knows b) same k) (at_snoc views w u j e)

pub keeps_new : (b : Board) (views : List (Option Board)) → AllKnow b views → AllKnow b (views ++ None ∷ [])
keeps_new b views h = know_snoc b views None h tt

pub keeps_show : (seat : ℕ) (a b : Board) (views : List (Option Board)) → b ≡ a → AllKnow a views → (w : Option Board) × AllKnow b (set views seat w) × (w ≡ Some b)
keeps_show seat a b views is h = (Some b, know_set b views seat (Some b) (subst (λ (z : Board). AllKnow z views) (sym is) h) refl, refl)

pub keeps_find : (seat : ℕ) (v : Option Board) (b : Board) (views : List (Option Board)) → AllKnow b views → get_elem? views seat ≡ some v → (w : Option Board) × AllKnow b (set views seat w) × ((w ≡ v) × Knows b v)
keeps_find seat v b views h at = (v, know_set b views seat v h (h seat v at), (refl, h seat v at))

pub keeps_tell : (seat : ℕ) (v : Option Board) (b : Board) (views : List (Option Board)) → AllKnow b views → get_elem? views seat ≡ some v → AllKnow b (set views seat v ++ v ∷ [])
keeps_tell seat v b views h at = know_snoc b (set views seat v) v (know_set b views seat v h (h seat v at)) (h seat v at)

pub keeps_learn : (seat : ℕ) (other : ℕ) (w : Option Board) (b : Board) (views : List (Option Board)) → AllKnow b views → (other ≡ seat → ⊥) → get_elem? (set views seat w) other ≡ some w → AllKnow b (set (set views seat w) other None)
keeps_learn seat other w b views h apart there =
    let o : get_elem? views other ≡ some w = ⊎_elim (λ (t : (other ≡ seat) × (w ≡ w)). absurd (apart t.0)) (λ (t : (other ≢ seat) × (get_elem? views other ≡ some w)). t.1) (at_set views seat other w w there) in
    know_set b (set views seat w) other None (know_set b views seat w h (h other w o)) tt
