-- Edges that get numbers for their letters, one by one.
use Rattle.std.proofs.Common.{◌≡◌, ℕ, ◌+◌, ◌<◌, ◌≤◌, ◌↔◌, List, [], ◌∷◌, ◌++◌, Option, Some, length, get_or, take, refl, sym, ap, subst, inl, inr, ◌∙◌}
use Rattle.std.specs.List.{Contains, slice_get}
use Rattle.std.proofs.lemmas.List.{take_more, take_all}
use Rattle.std.proofs.lemmas.List.Elements.{Contains-push_cases, Contains-push, Contains-append_left}
use Rattle.word_relations.proofs.Members.{Contains-nil_cases}
use Rattle.fsa.specs.declared.automaton.Edge.{Edge}
use Rattle.fsa_reduce.specs.Numbering.{Keeps, StandsFor, AreNumbered}
use Rattle.fsa_reduce.proofs.Kept.{Keeps-get}

module _ {L : Type 0} where
  stands_still : (letters more : List (Option L)) (e : Edge L) (f : Edge ℕ) → Keeps letters more → StandsFor letters e f → StandsFor more e f
  stands_still letters more e f keeps s = (s.0, s.1, Keeps-get letters more s.0 e.letter keeps s.2, s.3, s.4)

  pub numbered_elements : (edges other : List (Edge L)) (letters : List (Option L)) (numbered : List (Edge ℕ)) → ((e : Edge L) → Contains other e ↔ Contains edges e) → AreNumbered other letters numbered → AreNumbered edges letters numbered
  numbered_elements edges other letters numbered same h = record {
    only = λ f c. let r = h.only f c in (r.0, (same r.0).0 r.1, r.2);
    all = λ e c. h.all e ((same e).1 c);
  }

module _ {L : Type 0} (edges : List (Edge L)) where
  pub numbered_none : (letters : List (Option L)) (numbered : List (Edge ℕ)) → numbered ≡ [] → AreNumbered (take 0 edges) letters numbered
  numbered_none letters numbered none = record {
    only = λ f h. absurd (Contains-nil_cases f (subst (λ es. Contains es f) none h));
    all = λ e h. absurd (Contains-nil_cases e h);
  }

  pub numbered_more : (i : ℕ) (x : Edge L) → i < length edges → x ≡ get_or edges i x → (letters more : List (Option L)) (numbered new : List (Edge ℕ)) (number : ℕ) → Keeps letters more → slice_get more number ≡ Some x.letter → new ≡ numbered ++ record { from = x.from; letter = Some number; to = x.to } ∷ [] → AreNumbered (take i edges) letters numbered → AreNumbered (take (i + 1) edges) more new
  numbered_more i x within at letters more numbered new number keeps is_number is h =
      let front : take (i + 1) edges ≡ take i edges ++ x ∷ [] = take_more edges i x within ∙ ap (λ y. take i edges ++ y ∷ []) (sym at) in
      let y : Edge ℕ = record { from = x.from; letter = Some number; to = x.to } in
      let stands : StandsFor more x y = (number, refl, is_number, refl, refl) in
      record {
        only = λ f c. elim (Contains-push_cases numbered y f (subst (λ es. Contains es f) is c)) [
          | inl held ↦
              let r = h.only f held in
              (r.0, subst (λ es. Contains es r.0) (sym front) (Contains-append_left (take i edges) (x ∷ []) r.0 r.1), stands_still letters more r.0 f keeps r.2)
          | inr same ↦ (x, subst (λ es. Contains es x) (sym front) (Contains-push (take i edges) x), subst (StandsFor more x) same stands)
        ];
        all = λ e c. elim (Contains-push_cases (take i edges) x e (subst (λ es. Contains es e) front c)) [
          | inl held ↦
              let r = h.all e held in
              (r.0, subst (λ es. Contains es r.0) (sym is) (Contains-append_left numbered (y ∷ []) r.0 r.1), stands_still letters more e r.0 keeps r.2)
          | inr same ↦ (y, subst (λ es. Contains es y) (sym is) (Contains-push numbered y), subst (λ z. StandsFor more z y) same stands)
        ];
      }

  pub numbered_all : (i : ℕ) (letters : List (Option L)) (numbered : List (Edge ℕ)) → length edges ≤ i → AreNumbered (take i edges) letters numbered → AreNumbered edges letters numbered
  numbered_all i letters numbered past h = subst (λ es. AreNumbered es letters numbered) (take_all i edges past) h
