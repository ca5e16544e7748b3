-- The word by which a pair was reached, read back from its end.
use Rattle.std.proofs.Common.{◌≡◌, ℕ, ◌<◌, List, [], ◌∷◌, ◌++◌, Option, Some, None, length, get_or, reverse, sym, ap, arith, ◌∙◌, append_assoc}
use Rattle.std.specs.List.{slice_get}
use Rattle.std.proofs.lemmas.Option.{slice_get_within, slice_get-get_or, get_or_from_slice_get}
use Rattle.std.proofs.lemmas.List.{append-nil, reverse-append}
use Rattle.word_relations.proofs.Places.{same_at}
use Rattle.lang_equal.specs.Search.{AreWordsOf}
use Rattle.lang_equal.specs.declared.search.Step.{Step}
use Rattle.lang_equal.proofs.Searching.{at_of}

module _ {L : Type 0} (letters : List L) (steps : List (Option Step)) (at : ℕ) (inside : at < length steps) where
  -- what the code reads is what stands there
  read_step : (o : Option Step) → get_or steps at None ≡ o → slice_get steps at ≡ Some o
  read_step o is = slice_get-get_or steps at None inside ∙ ap Some is

  pub step_back : (words : List (List L)) → AreWordsOf letters steps words → (step : Step) → get_or steps at None ≡ Some step → (step.before < at) × (step.place < length letters) × (step.before < length steps)
  step_back words are step is =
      let r = are.longer at step (read_step (Some step) is) in
      let before : step.before < at = r.0 in
      (before, slice_get_within letters step.place r.1.0 r.1.2, omega arith)

  module _ (number : ℕ) (words : List (List L)) (are : AreWordsOf letters steps words) (word : List L) where
    -- what is left of the word, and what was read from its end
    abbrev pub IsReadBack : ℕ → List L → Type 0
    IsReadBack from back = (v : List L) × (slice_get words from ≡ Some v) × (slice_get words number ≡ Some (v ++ reverse back))

    pub back_more : (step : Step) → get_or steps at None ≡ Some step → (x : L) → x ≡ get_or letters step.place x → (new : List L) → new ≡ word ++ x ∷ [] → IsReadBack at word → (v : List L) × (slice_get words step.before ≡ Some v) × (slice_get words number ≡ Some (v ++ reverse new))
    back_more step is x x_is new new_is before =
        let r = are.longer at step (read_step (Some step) is) in
        let y : L = r.1.0 in
        let v : List L = r.1.1 in
        let letter : x ≡ y = x_is ∙ get_or_from_slice_get letters step.place y x r.1.2 in
        let left : before.0 ≡ v ++ y ∷ [] = same_at words at before.0 (v ++ y ∷ []) before.1 r.1.4 in
        let turned : reverse new ≡ x ∷ reverse word = ap reverse new_is ∙ reverse-append word (x ∷ []) in
        let whole : before.0 ++ reverse word ≡ v ++ reverse new =
        ap (λ u. u ++ reverse word) left ∙ append_assoc v (y ∷ []) (reverse word) ∙ ap (λ z. v ++ (z ∷ reverse word)) (sym letter) ∙ ap (λ u. v ++ u) (sym turned) in
        (v, r.1.3, before.2 ∙ ap Some whole)

    pub back_all : get_or steps at None ≡ None → IsReadBack at word → slice_get words number ≡ Some (reverse word)
    back_all is before =
        let root : slice_get words at ≡ Some [] = are.root at (read_step None is) in
        let none : before.0 ≡ [] = same_at words at before.0 [] before.1 root in
        before.2 ∙ ap (λ v. Some (v ++ reverse word)) none

pub back_none : {L : Type 0} (letters : List L) (steps : List (Option Step)) (number : ℕ) → number < length steps → (words : List (List L)) → AreWordsOf letters steps words → (word : List L) → word ≡ [] → (v : List L) × (slice_get words number ≡ Some v) × (slice_get words number ≡ Some (v ++ reverse word))
back_none letters steps number inside words are word none =
    let v = at_of words number (let n : length words ≡ length steps = are.count in omega arith) in
    let same : v.0 ≡ v.0 ++ reverse word = sym (append-nil v.0) ∙ ap (λ u. v.0 ++ reverse u) (sym none) in
    (v.0, v.1, v.1 ∙ ap Some same)
