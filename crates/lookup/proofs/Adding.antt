-- Steps that are added, one call after another.
use Rattle.std.proofs.Common.{◌≡◌, ℕ, ◌+◌, ◌<◌, ◌≤◌, ◌⊎◌, List, [], ◌∷◌, ◌++◌, Option, None, Some, length, get_or, take, refl, subst, sym, ap, inl, inr, ◌∙◌, append_assoc}
use Rattle.std.specs.List.{Contains, slice_get}
use Rattle.std.proofs.lemmas.List.{append-nil, take_more, take_all}
use Rattle.std.proofs.lemmas.List.Elements.{Contains-push_cases, Contains-push, Contains-append_left}
use Rattle.std.proofs.lemmas.Option.{slice_get_within}
use Rattle.fsm_base.specs.declared.letters.Sym.{Sym}
use Rattle.word_relations.proofs.Members.{Contains-nil_cases}
use Rattle.word_relations.proofs.Places.{slice_get-append_left}
use Rattle.fsa.specs.declared.automaton.Edge.{Edge}
use Rattle.lookup.specs.declared.explored.Config.{Config}
use Rattle.lookup_walk.specs.declared.moves.Move.{Move}
use Rattle.lookup.specs.Reached.{Reached, IsNode, AddsSteps}
use Rattle.lookup.specs.Steps.{Follows}

-- a node stays as it is when more configurations are found
pub IsNode-more : (old new more : List Config) → new ≡ old ++ more → (node : ℕ) (target : Option Config) → IsNode old node target → IsNode new node target
IsNode-more old new more is node None h = h
IsNode-more old new more is node (Some config) (k, at, found) =
    (k, at, ap (λ cs. slice_get cs k) is ∙ slice_get-append_left old more k (slice_get_within old k config found) ∙ found)

pub AddsSteps-none : (P : Option Sym → Option Config → Type 0) (node : ℕ) (r : Reached) → ((l : Option Sym) (t : Option Config) → P l t → ⊥) → AddsSteps P node r r
AddsSteps-none P node r never = record {
  found = ([], sym (append-nil r.configs));
  kept = λ e h. h;
  only = λ e h. inl h;
  all = λ l t p. absurd (never l t p);
}

pub AddsSteps-same : (P Q : Option Sym → Option Config → Type 0) (node : ℕ) (old new : Reached) → ((l : Option Sym) (t : Option Config) → P l t → Q l t) → ((l : Option Sym) (t : Option Config) → Q l t → P l t) → AddsSteps P node old new → AddsSteps Q node old new
AddsSteps-same P Q node old new f g adds = record {
  found = adds.found;
  kept = adds.kept;
  only = λ e h. elim (adds.only e h) [ inl was ↦ inl was | inr r ↦ inr (r.0, (r.1.0, r.1.1, f e.letter r.1.0 r.1.2)) ];
  all = λ l t q. adds.all l t (g l t q);
}

pub AddsSteps-then : (P Q R : Option Sym → Option Config → Type 0) (node : ℕ) (a b c : Reached) → ((l : Option Sym) (t : Option Config) → R l t → P l t ⊎ Q l t) → ((l : Option Sym) (t : Option Config) → P l t → R l t) → ((l : Option Sym) (t : Option Config) → Q l t → R l t) → AddsSteps P node a b → AddsSteps Q node b c → AddsSteps R node a c
AddsSteps-then P Q R node a b c split f g first second =
    let more : List Config = second.found.0 in
    let is : c.configs ≡ b.configs ++ more = second.found.1 in
    record {
      found = (first.found.0 ++ more, is ∙ ap (λ cs. cs ++ more) first.found.1 ∙ append_assoc a.configs first.found.0 more);
      kept = λ e h. second.kept e (first.kept e h);
      only = λ e h. elim (second.only e h) [
        | inl was ↦ elim (first.only e was) [
          | inl earlier ↦ inl earlier
          | inr r ↦ inr (r.0, (r.1.0, IsNode-more b.configs c.configs more is e.to r.1.0 r.1.1, f e.letter r.1.0 r.1.2))
        ]
        | inr r ↦ inr (r.0, (r.1.0, r.1.1, g e.letter r.1.0 r.1.2))
      ];
      all = λ l t p. elim (split l t p) [
        | inl q ↦ let r = first.all l t q in (r.0, IsNode-more b.configs c.configs more is r.0 t r.1, second.kept _ r.2)
        | inr q ↦ second.all l t q
      ];
    }

-- one edge more
pub AddsSteps-one : (old new : Reached) (node to : ℕ) (letter : Option Sym) (target : Option Config) → ((more : List Config) × (new.configs ≡ old.configs ++ more)) → IsNode new.configs to target → new.edges ≡ old.edges ++ record { from = node; letter = letter; to = to } ∷ [] → AddsSteps (λ l t. (l ≡ letter) × (t ≡ target)) node old new
AddsSteps-one old new node to letter target found is_node is =
    let edge : Edge Sym = record { from = node; letter = letter; to = to } in
    let here : Contains new.edges edge = subst (λ es. Contains es edge) (sym is) (Contains-push old.edges edge) in
    record {
      found = found;
      kept = λ e h. subst (λ es. Contains es e) (sym is) (Contains-append_left old.edges (edge ∷ []) e h);
      only = λ e h. elim (Contains-push_cases old.edges edge e (subst (λ es. Contains es e) is h)) [
        | inl was ↦ inl was
        | inr same ↦ inr (
          sym (ap (λ x. x.from) same),
          (target, subst (λ n. IsNode new.configs n target) (ap (λ (x : Edge Sym). x.to) same) is_node, (sym (ap (λ x. x.letter) same), refl)),
        )
      ];
      all = λ l t (same_letter, same_target). (
        to,
        subst (λ u. IsNode new.configs to u) (sym same_target) is_node,
        subst (λ m. Contains new.edges (record { from = node; letter = m; to = to })) (sym same_letter) here,
      );
    }

-- the steps along moves, one move more at a time
module _ (moves : List Move) (place node : ℕ) where
  pub follows_none : (r : Reached) → AddsSteps (Follows (take 0 moves) place) node r r
  follows_none r = AddsSteps-none (Follows (take 0 moves) place) node r (λ l t p. Contains-nil_cases p.0 p.1)

  pub follows_more : (i : ℕ) (d : Move) (start now new : Reached) → i < length moves → AddsSteps (Follows (take i moves) place) node start now
      → AddsSteps (λ l t. (l ≡ (get_or moves i d).write) × (t ≡ Some (record { place = place; state = (get_or moves i d).to }))) node now new
      → AddsSteps (Follows (take (i + 1) moves) place) node start new
  follows_more i d start now new within first second =
      let m : Move = get_or moves i d in
      let front : take (i + 1) moves ≡ take i moves ++ m ∷ [] = take_more moves i d within in
      AddsSteps-then (Follows (take i moves) place) (λ l t. (l ≡ m.write) × (t ≡ Some (record { place = place; state = m.to }))) (Follows (take (i + 1) moves) place) node start now new
      (λ l t (n, has, letter, target). elim (Contains-push_cases (take i moves) m n (subst (λ ms. Contains ms n) front has)) [
        | inl was ↦ inl (n, was, letter, target)
        | inr same ↦ inr (letter ∙ sym (ap (λ x. x.write) same), target ∙ sym (ap (λ (x : Move). Some (record { place = place; state = x.to })) same))
      ])
      (λ l t (n, has, letter, target). (n, subst (λ ms. Contains ms n) (sym front) (Contains-append_left (take i moves) (m ∷ []) n has), letter, target))
      (λ l t (letter, target). (m, subst (λ ms. Contains ms m) (sym front) (Contains-push (take i moves) m), letter, target))
      first second

  pub follows_all : (i : ℕ) (start now : Reached) → length moves ≤ i → AddsSteps (Follows (take i moves) place) node start now → AddsSteps (Follows moves place) node start now
  follows_all i start now past h = subst (λ ms. AddsSteps (Follows ms place) node start now) (take_all i moves past) h
