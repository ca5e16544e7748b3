-- The run of a complete automaton along a word, and which beginnings of the word it accepts.
use Rattle.std.proofs.Common.{◌≡◌, ◌<◌, ◌≤◌, ◌+◌, ◌↔◌, ℕ, zero, suc, Bool, true, List, [], ◌∷◌, ◌++◌, Some, IsTrue, length, take, refl, sym, ap, subst, ◌∙◌, arith, below_more, append_assoc, append-nil}
use Rattle.std.specs.List.{slice_get}
use Rattle.std.proofs.lemmas.List.{length_push}
use Rattle.std.proofs.lemmas.Option.{same_Some}
use Rattle.word_relations.specs.Words.{IsDistinct}
use Rattle.word_relations.proofs.Places.{slice_get-append_left, slice_get-push, take_more-slice_get}
use Rattle.fsa.specs.Complete.{Complete, Accepts, AcceptsFrom, next_state, read, stop}
use Rattle.fsa.proofs.Paths.{read_back, stop_back}
use Rattle.pair_test.specs.Marks.{AreAt, AreMarks, IsMarked}

-- after so many letters of the word the run is at the state, and of each number up to it is marked whether so many letters are accepted
pub record IsRun {L : Type 0} (d : Complete L) (word : List L) (n state : ℕ) (marks : List Bool) : Type 0 where
  pub leads : (v : List L) → Accepts d (take n word ++ v) ↔ AcceptsFrom d state v
  pub marked : AreMarks (λ k. Accepts d (take (k + 1) word)) n marks

pub there : {L : Type 0} (xs : List L) (n : ℕ) → n < length xs → (x : L) × (slice_get xs n ≡ Some x)
there [] n less = absurd (omega (arith, less))
there (x ∷ xs) zero less = (x, refl)
there (x ∷ xs) (suc n) less = there xs n (omega (arith, less))

module _ {L : Type 0} (d : Complete L) (word : List L) where
  pub run_start : IsRun d word 0 0 []
  run_start =
      record {
        leads = λ v. (λ h. h, λ h. h);
        marked = record { count = refl; each = λ k less. absurd (omega (arith, less)) };
      }

  -- one letter more
  pub run_more : IsDistinct d.letters → (places : List ℕ) → AreAt d.letters places word → (n state : ℕ) (marks : List Bool) → IsRun d word n state marks → (place next : ℕ) → n < length places → slice_get places n ≡ Some place
      → next_state d state place ≡ Some next → (final : Bool) → (IsTrue final ↔ (slice_get d.finals next ≡ Some true)) → (new : List Bool) → new ≡ marks ++ final ∷ [] → IsRun d word (n + 1) next new
  run_more distinct places are n state marks run place next within at go final says new is =
      record {
        leads = leads;
        marked = record {
          count = ap length is ∙ length_push marks final ∙ ap (λ k. k + 1) run.marked.count;
          each = below_more (λ k. IsMarked new k ↔ Accepts d (take (k + 1) word)) n before here;
        };
      }
    where
      has : (x : L) × (slice_get word n ≡ Some x)
      has = there word n (let c : length places ≡ length word = are.count in omega (arith, c, within))

      letter : slice_get d.letters place ≡ Some has.0
      letter = are.each n place at ∙ has.1

      longer : (v : List L) → take (n + 1) word ++ v ≡ take n word ++ (has.0 ∷ v)
      longer v = ap (λ z. z ++ v) (take_more-slice_get word n has.0 has.1) ∙ append_assoc (take n word) (has.0 ∷ []) v

      leads : (v : List L) → Accepts d (take (n + 1) word ++ v) ↔ AcceptsFrom d next v
      leads v = (
        λ h. read_back d distinct state next place has.0 v letter go ((run.leads (has.0 ∷ v)).0 (subst (Accepts d) (longer v) h)),
        λ h. subst (Accepts d) (sym (longer v)) ((run.leads (has.0 ∷ v)).1 (read place letter go h)),
      )

      before : (k : ℕ) → k < n → IsMarked new k ↔ Accepts d (take (k + 1) word)
      before k less =
          let kept : slice_get new k ≡ slice_get marks k = ap (λ z. slice_get z k) is ∙ slice_get-append_left marks (final ∷ []) k (let c : length marks ≡ n = run.marked.count in omega (arith, c, less)) in
          let old = run.marked.each k less in
          (λ h. old.0 (sym kept ∙ h), λ h. kept ∙ old.1 h)

      last : slice_get new n ≡ Some final
      last = ap (λ z. slice_get z n) is ∙ ap (λ k. slice_get (marks ++ final ∷ []) k) (sym run.marked.count) ∙ slice_get-push marks final

      whole : Accepts d (take (n + 1) word) ↔ AcceptsFrom d next []
      whole = let e : take (n + 1) word ++ [] ≡ take (n + 1) word = append-nil (take (n + 1) word) in (
        λ h. (leads []).0 (subst (Accepts d) (sym e) h),
        λ h. subst (Accepts d) e ((leads []).1 h),
      )

      here : IsMarked new n ↔ Accepts d (take (n + 1) word)
      here = (
        λ h. whole.1 (stop (says.0 (same_Some final true (sym last ∙ h)))),
        λ h. last ∙ ap Some (says.1 (stop_back d next (whole.0 h))),
      )

  pub run_all : (places : List ℕ) → AreAt d.letters places word → (n state : ℕ) (marks : List Bool) → IsRun d word n state marks → n ≤ length places → length places ≤ n → AreMarks (λ k. Accepts d (take (k + 1) word)) (length word) marks
  run_all places are n state marks run most least =
      let e : n ≡ length word = let c : length places ≡ length word = are.count in omega (arith, c, most, least) in
      subst (λ k. AreMarks (λ j. Accepts d (take (j + 1) word)) k marks) e run.marked
