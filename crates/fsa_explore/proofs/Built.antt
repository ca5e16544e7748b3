-- The language of a complete automaton that was built from a test and a step on lists: for any set of words that
-- the step takes apart, letter by letter, the automaton accepts just that set.
use Rattle.std.proofs.Common.{◌≡◌, ℕ, ◌+◌, ◌*◌, ◌<◌, ◌↔◌, List, [], ◌∷◌, Bool, Some, length, get_or, arith}
use Rattle.std.specs.List.{slice_get, Contains}
use Rattle.std.proofs.lemmas.Option.{slice_get_within, slice_get-get_or}
use Rattle.std.proofs.lemmas.Nat.{mul-add-lt}
use Rattle.word_relations.proofs.Places.{slice_get_from_Contains, Contains-from_slice_get}
use Rattle.fsa.specs.Complete.{Complete, AcceptsFrom, Accepts, stop, read}
use Rattle.fsa_explore.specs.Explored.{IsExplored}

-- the words of each list, by its step: the empty word of a final one, and those that begin with a letter
pub record IsLanguage {L : Type 0} (letters : List L) (IsState : List ℕ → Type 0) (Leads : List ℕ → ℕ → List ℕ → Type 0) (IsFinal : List ℕ → Type 0) (Words : List ℕ → List L → Type 0) : Type 0 where
  pub empty : (list : List ℕ) → IsState list → Words list [] ↔ IsFinal list
  pub longer : (list to : List ℕ) (place : ℕ) (x : L) (w : List L) → IsState list → Leads list place to → slice_get letters place ≡ Some x → Words list (x ∷ w) ↔ Words to w
  pub over : (list : List ℕ) (x : L) (w : List L) → IsState list → Words list (x ∷ w) → Contains letters x

module _ {L : Type 0} (letters : List L) (IsState : List ℕ → Type 0) (Leads : List ℕ → ℕ → List ℕ → Type 0) (IsFinal : List ℕ → Type 0) (Words : List ℕ → List L → Type 0) (language : IsLanguage letters IsState Leads IsFinal Words) (start next : List ℕ) (finals : List Bool) (built : IsExplored IsState Leads IsFinal (length letters) start next finals) where
  abbrev automaton : Complete L
  automaton = record { letters = letters; next = next; finals = finals }

  down : {s : ℕ} {w : List L} → AcceptsFrom automaton s w → (list : List ℕ) → slice_get built.lists s ≡ Some list → Words list w
  down {s} (stop h) list at = (language.empty list (built.states list (Contains-from_slice_get built.lists s list at))).1 ((built.final s list at).0 h)
  down {s} (read {t = t} {x = x} {w = w} place letter goes rest) list at =
      let to = built.leads s place t list (slice_get_within letters place x letter) at goes in
      (language.longer list to.0 place x w (built.states list (Contains-from_slice_get built.lists s list at)) to.2 letter).1 (down rest to.0 to.1)

  up : (w : List L) (s : ℕ) (list : List ℕ) → slice_get built.lists s ≡ Some list → Words list w → AcceptsFrom automaton s w
  up [] s list at h = stop ((built.final s list at).1 ((language.empty list (built.states list (Contains-from_slice_get built.lists s list at))).0 h))
  up (x ∷ w) s list at h =
      let state : IsState list = built.states list (Contains-from_slice_get built.lists s list at) in
      let place = slice_get_from_Contains letters x (language.over list x w state h) in
      let k : ℕ = place.0 in
      let letter : slice_get letters k ≡ Some x = place.1 in
      let inside : k < length letters = slice_get_within letters k x letter in
      let s_there : s < length finals = let l = slice_get_within built.lists s list at in let n : length finals ≡ length built.lists = built.count in omega arith in
      let full : length next ≡ length finals * length letters = built.full in
      let there : s * length letters + k < length next = let m = mul-add-lt s (length letters) k (length finals) s_there inside in omega arith in
      let t : ℕ = get_or next (s * length letters + k) 0 in
      let goes : slice_get next (s * length letters + k) ≡ Some t = slice_get-get_or next (s * length letters + k) 0 there in
      let to = built.leads s k t list inside at goes in
      read k letter goes (up w t to.0 to.1 ((language.longer list to.0 k x w state to.2 letter).0 h))

  pub built_language : (w : List L) → Accepts automaton w ↔ Words start w
  built_language w = (λ h. down h start built.start_first, λ h. up w 0 start built.start_first h)

  pub built_start : 0 < length finals
  built_start = let l = slice_get_within built.lists 0 start built.start_first in let n : length finals ≡ length built.lists = built.count in omega arith
