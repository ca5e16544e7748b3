-- The paths of a complete automaton: a step is taken back, since a letter has one place and a place one next
-- state.
use Rattle.std.proofs.Common.{◌≡◌, ℕ, ◌+◌, ◌*◌, ◌<◌, List, [], ◌∷◌, Some, true, ◌≤◌, ◌↔◌, Bool, IsTrue, length, get_or, drop, subst, sym, ap, ◌∙◌}
use Rattle.std.specs.List.{slice_get}
use Rattle.std.proofs.lemmas.List.{drop_more, drop_all}
use Rattle.word_relations.specs.Words.{IsDistinct}
use Rattle.word_relations.proofs.Places.{same_at}
use Rattle.fsa.specs.Complete.{Complete, IsComplete, Accepts, AcceptsFrom, stop, read, next_state}

pub stop_back : {L : Type 0} (d : Complete L) (s : ℕ) → AcceptsFrom d s [] → slice_get d.finals s ≡ Some true
stop_back d s (stop h) = h

pub read_back : {L : Type 0} (d : Complete L) → IsDistinct d.letters → (s t k : ℕ) (x : L) (w : List L) → slice_get d.letters k ≡ Some x → next_state d s k ≡ Some t → AcceptsFrom d s (x ∷ w) → AcceptsFrom d t w
read_back d distinct s t k x w at go (read {t = u} j at' go' rest) =
    let e : j ≡ k = distinct j k x at' at in
    let same : u ≡ t = same_at d.next (s * length d.letters + k) u t (subst (λ i. next_state d s i ≡ Some u) e go') go in
    subst (λ v. AcceptsFrom d v w) same rest

module _ {L : Type 0} (d : Complete L) (ok : IsComplete d) (w : List L) where
  -- the loop of `accepts`: what is left of the word is accepted from the state exactly where the word is accepted
  pub accepts_more : (s t k i : ℕ) (x : L) → i < length w → x ≡ get_or w i x → slice_get d.letters k ≡ Some x → next_state d s k ≡ Some t → (AcceptsFrom d s (drop i w) ↔ Accepts d w) → AcceptsFrom d t (drop (i + 1) w) ↔ Accepts d w
  accepts_more s t k i x within is at go both =
      let rest : drop i w ≡ x ∷ drop (i + 1) w = drop_more w i x within ∙ ap (λ y. y ∷ drop (i + 1) w) (sym is) in
      let whole : AcceptsFrom d s (x ∷ drop (i + 1) w) ↔ Accepts d w = subst (λ v. AcceptsFrom d s v ↔ Accepts d w) rest both in
      (λ h. whole.0 (read k at go h), λ h. read_back d ok.distinct s t k x (drop (i + 1) w) at go (whole.1 h))

  pub accepts_all : (s i : ℕ) (b : Bool) → length w ≤ i → (IsTrue b ↔ (slice_get d.finals s ≡ Some true)) → (AcceptsFrom d s (drop i w) ↔ Accepts d w) → IsTrue b ↔ Accepts d w
  accepts_all s i b past final both =
      let whole : AcceptsFrom d s [] ↔ Accepts d w = subst (λ v. AcceptsFrom d s v ↔ Accepts d w) (drop_all i w past) both in
      (λ h. whole.0 (stop (final.0 h)), λ h. final.1 (stop_back d s (whole.1 h)))
