-- A chain accepts the letters of its edges alone.
use Rattle.std.proofs.Common.{◌≡◌, ℕ, zero, suc, ◌+◌, ◌↔◌, List, [], ◌∷◌, ◌++◌, Option, None, Some, inl, inr, drop, length, refl, subst, sym, ap, arith, append_assoc, append-nil, add-one, ◌∙◌}
use Rattle.std.specs.List.{Contains, slice_get}
use Rattle.std.specs.Option.{option_to_list}
use Rattle.std.proofs.lemmas.List.{drop_all, length_push}
use Rattle.std.proofs.lemmas.List.Elements.{Contains-append_cases}
use Rattle.word_relations.proofs.Members.{Contains-cons_cases, Contains-head, Contains-nil_cases, Contains-tail}
use Rattle.word_relations.proofs.Places.{slice_get_from_Contains, Contains-from_slice_get, slice_get-append_right}
use Rattle.fsa.specs.Automaton.{Automaton, IsFinal}
use Rattle.fsa.specs.Language.{Accepts, AcceptsFrom, stop}
use Rattle.fsa.specs.declared.automaton.Edge.{Edge}
use Rattle.fsa_rational.proofs.Walks.{AcceptsFrom-least, AcceptsFrom-step}
use Rattle.flag_diacritics.specs.declared.tape.Tape.{Tape}
use Rattle.lexc_compile.specs.Growing.{IsSame}
use Rattle.lexc_compile.specs.Paths.{network, word}
use Rattle.lexc_compile.specs.Words.{IsChain, letters_of}

-- what stands at a place, and behind it
drop_here : {X : Type 0} (xs : List X) (k : ℕ) (x : X) → slice_get xs k ≡ Some x → drop k xs ≡ x ∷ drop (suc k) xs
drop_here [] k x h = cc
drop_here (y ∷ ys) zero x h = let same : y ≡ x = cc in ap (λ z. z ∷ ys) same
drop_here (y ∷ ys) (suc k) x h = drop_here ys k x h

pub letters_of-append : (es fs : List (Edge Tape)) → letters_of (es ++ fs) ≡ letters_of es ++ letters_of fs
letters_of-append [] fs = refl
letters_of-append (e ∷ es) fs = ap (λ v. option_to_list e.letter ++ v) (letters_of-append es fs) ∙ sym (append_assoc (option_to_list e.letter) (letters_of es) (letters_of fs))

pub letters_of-push : (es : List (Edge Tape)) (e : Edge Tape) → letters_of (es ++ e ∷ []) ≡ letters_of es ++ option_to_list e.letter
letters_of-push es e = letters_of-append es (e ∷ []) ∙ ap (λ v. letters_of es ++ v) (append-nil (option_to_list e.letter))

-- a letter of edges is that of one of them
letter_from : (o : Option Tape) (x : Tape) → Contains (option_to_list o) x → o ≡ Some x
letter_from None x none = absurd (Contains-nil_cases x none)
letter_from (Some y) x one = elim (Contains-cons_cases y [] x one) [ inl same ↦ ap Some same | inr none ↦ absurd (Contains-nil_cases x none) ]

letters_from : (es : List (Edge Tape)) (x : Tape) → Contains (letters_of es) x → (e : Edge Tape) × Contains es e × (e.letter ≡ Some x)
letters_from [] x h = absurd (Contains-nil_cases x h)
letters_from (e ∷ es) x h = elim (Contains-append_cases (option_to_list e.letter) (letters_of es) x h) [
  | inl first ↦ (e, Contains-head e es, letter_from e.letter x first)
  | inr later ↦ let r = letters_from es x later in (r.0, Contains-tail e es r.0 r.1, r.2)
]

module _ (net : Automaton Tape) (is : IsChain net) where
  end_rest : (p : ℕ) → IsFinal net p → [] ≡ letters_of (drop p net.edges)
  end_rest p h = let at : p ≡ length net.edges = (is.end p).0 h in sym (ap letters_of (drop_all p net.edges (omega arith)))

  step_rest : (e : Edge Tape) (w : List Tape) → Contains net.edges e → w ≡ letters_of (drop e.to net.edges) → option_to_list e.letter ++ w ≡ letters_of (drop e.from net.edges)
  step_rest e w h s =
      let at = slice_get_from_Contains net.edges e h in
      let ends = is.order at.0 e at.1 in
      let rest : w ≡ letters_of (drop (suc at.0) net.edges) = s ∙ ap (λ k. letters_of (drop k net.edges)) (ends.1 ∙ add-one at.0) in
      ap (λ v. option_to_list e.letter ++ v) rest ∙ sym (ap letters_of (ap (λ k. drop k net.edges) ends.0 ∙ drop_here net.edges at.0 e at.1))

  -- from the end of these edges on the others are read
  accepts_rest : (done rest : List (Edge Tape)) → net.edges ≡ done ++ rest → AcceptsFrom net (length done) (letters_of rest)
  accepts_rest done [] all = stop ((is.end (length done)).1 (ap length (sym (append-nil done)) ∙ ap length (sym all)))
  accepts_rest done (e ∷ rest) all =
      let zero_at : 0 + length done ≡ length done = omega arith in
      let at : slice_get net.edges (length done) ≡ Some e =
      ap (λ es. slice_get es (length done)) all ∙ ap (λ k. slice_get (done ++ e ∷ rest) k) (sym zero_at) ∙ slice_get-append_right done (e ∷ rest) 0 in
      let ends = is.order (length done) e at in
      let long = length_push done e in
      let to_is : length (done ++ e ∷ []) ≡ e.to = omega arith in
      subst (λ p. AcceptsFrom net p (letters_of (e ∷ rest))) ends.0
      (AcceptsFrom-step net e (letters_of rest) (Contains-from_slice_get net.edges (length done) e at)
      (subst (λ p. AcceptsFrom net p (letters_of rest)) to_is (accepts_rest (done ++ e ∷ []) rest (all ∙ sym (append_assoc done (e ∷ []) rest)))))

  pub chain_language : (w : List Tape) → Accepts net w ↔ (w ≡ letters_of net.edges)
  chain_language w = (
    λ h. AcceptsFrom-least net (λ p v. v ≡ letters_of (drop p net.edges)) end_rest step_rest h,
    λ same. subst (λ v. AcceptsFrom net 0 v) (sym same) (accepts_rest [] net.edges refl),
  )

  -- so a word of these letters does for it
  pub chain_same : (tape : List Tape) → tape ≡ letters_of net.edges → IsSame (word tape) net
  chain_same tape same = record {
    adds = λ x. (λ h. (chain_language x).1 (h ∙ same), λ h. (chain_language x).0 h ∙ sym same);
    uses = λ x h. letters_from net.edges x (subst (λ xs. Contains xs x) same h);
  }

-- a network does for itself
pub network_same : (net : Automaton Tape) → IsSame (network net) net
network_same net = record { adds = λ x. (λ h. h, λ h. h); uses = λ x h. h }
