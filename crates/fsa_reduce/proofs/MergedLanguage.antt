-- An automaton with one state for each class of states that go on alike has the same language.
use Rattle.std.proofs.Common.{◌≡◌, ℕ, ◌+◌, ◌<◌, ◌↔◌, List, [], ◌∷◌, ◌++◌, Bool, true, Option, Some, None, length, get_or, take, refl, sym, ap, subst, inl, inr, arith, ◌∙◌}
use Rattle.std.specs.List.{Contains, slice_get}
use Rattle.std.proofs.lemmas.Option.{slice_get-get_or, slice_get_within, get_or_from_slice_get, same_Some}
use Rattle.std.proofs.lemmas.List.{take_more}
use Rattle.std.proofs.lemmas.List.Elements.{Contains-push_cases, Contains-push, Contains-append_left}
use Rattle.word_relations.proofs.Members.{Contains-nil_cases}
use Rattle.word_relations.proofs.Places.{same_at}
use Rattle.fsa.specs.Automaton.{Automaton, IsWellFormed, UsesLetter}
use Rattle.fsa.specs.Language.{AcceptsFrom, Accepts, stop, read, skip}
use Rattle.fsa.specs.declared.automaton.Edge.{Edge}
use Rattle.fsa.proofs.Arcs.{edge_same}
use Rattle.fsa_rational.specs.Shapes.{Extends, ForEach}
use Rattle.fsa_reduce.specs.Numbering.{StandsFor, AreNumbered}
use Rattle.fsa_reduce.specs.Classes.{AreAlike}
use Rattle.fsa_reduce.specs.Merging.{AreWithinBoth, IsMoved}

-- the numbered edges stay between the states
pub numbered_within : {L : Type 0} (edges : List (Edge L)) (letters : List (Option L)) (numbered : List (Edge ℕ)) (bound : ℕ) → ((e : Edge L) → Contains edges e → (e.from < bound) × (e.to < bound)) → AreNumbered edges letters numbered → AreWithinBoth numbered bound
numbered_within edges letters numbered bound within given f h =
    let r = given.only f h in
    let ends = within r.0 r.1 in
    let stands = r.2 in
    (subst (λ k. k < bound) stands.3 ends.0, subst (λ k. k < bound) stands.4 ends.1)

-- an edge between classes for each edge
abbrev pub IsMovedOf : List ℕ → List (Edge ℕ) → Edge ℕ → Type 0
IsMovedOf classes edges f = (e : Edge ℕ) × Contains edges e × IsMoved classes e f

module _ (classes : List ℕ) (edges : List (Edge ℕ)) where
  pub moved_more : (i : ℕ) (x y : Edge ℕ) → i < length edges → x ≡ get_or edges i x → (moved new : List (Edge ℕ)) → IsMoved classes x y → new ≡ moved ++ y ∷ [] → ((f : Edge ℕ) → Contains moved f ↔ IsMovedOf classes (take i edges) f) → (f : Edge ℕ) → Contains new f ↔ IsMovedOf classes (take (i + 1) edges) f
  moved_more i x y within at moved new is_moved is before f =
      let front : take (i + 1) edges ≡ take i edges ++ x ∷ [] = take_more edges i x within ∙ ap (λ z. take i edges ++ z ∷ []) (sym at) in (
        λ h. elim (Contains-push_cases moved y f (subst (λ es. Contains es f) is h)) [
          | inl held ↦
              let r = (before f).0 held in
              (r.0, subst (λ es. Contains es r.0) (sym front) (Contains-append_left (take i edges) (x ∷ []) r.0 r.1), r.2)
          | inr same ↦ (x, subst (λ es. Contains es x) (sym front) (Contains-push (take i edges) x), subst (IsMoved classes x) same is_moved)
        ],
        λ r. subst (λ es. Contains es f) (sym is) (elim (Contains-push_cases (take i edges) x r.0 (subst (λ es. Contains es r.0) front r.1)) [
          | inl held ↦ Contains-append_left moved (y ∷ []) f ((before f).1 (r.0, held, r.2))
          | inr same ↦
              let m : IsMoved classes x f = subst (λ e. IsMoved classes e f) (sym same) r.2 in
              let from = same_at classes x.from y.from f.from is_moved.0 m.0 in
              let to = same_at classes x.to y.to f.to is_moved.2 m.2 in
              subst (Contains (moved ++ y ∷ [])) (edge_same y f from (is_moved.1 ∙ sym m.1) to) (Contains-push moved y)
        ]),
      )

-- an edge stands for one edge
pub stands_once : {L : Type 0} (letters : List (Option L)) (e d : Edge L) (f : Edge ℕ) → StandsFor letters e f → StandsFor letters d f → e ≡ d
stands_once letters e d f s t =
    let number : s.0 ≡ t.0 = same_Some s.0 t.0 (sym s.1 ∙ t.1) in
    edge_same e d (s.3 ∙ sym t.3) (same_at letters t.0 e.letter d.letter (subst (λ k. slice_get letters k ≡ Some e.letter) number s.2) t.2) (s.4 ∙ sym t.4)

pub class_below : (finals : List Bool) (numbered : List (Edge ℕ)) (classes : List ℕ) (count : ℕ) → AreAlike finals numbered classes count → (s k : ℕ) → slice_get classes s ≡ Some k → k < count
class_below finals numbered classes count alike s k at =
    subst (λ x. x < count) (get_or_from_slice_get classes s k k at) (alike.within s k (slice_get_within classes s k at))

-- the edges between the classes stay below the count
pub moved_within : (finals : List Bool) (numbered moved : List (Edge ℕ)) (classes : List ℕ) (count : ℕ) → AreAlike finals numbered classes count → ((f : Edge ℕ) → Contains moved f ↔ IsMovedOf classes numbered f) → AreWithinBoth moved count
moved_within finals numbered moved classes count alike moves f c =
    let r = (moves f).0 c in
    (class_below finals numbered classes count alike r.0.from f.from r.2.0, class_below finals numbered classes count alike r.0.to f.to r.2.2)

-- the edges and the final states of the new automaton, and how it came about
pub record IsMerged {L : Type 0} (a m : Automaton L) (letters : List (Option L)) (numbered moved : List (Edge ℕ)) (classes : List ℕ) (count : ℕ) : Type 0 where
  pub formed : IsWellFormed a
  pub given : AreNumbered a.edges letters numbered
  pub start : slice_get classes 0 ≡ Some 0
  pub alike : AreAlike a.finals numbered classes count
  pub final : (k : ℕ) → slice_get m.finals k ≡ Some true ↔ ((s : ℕ) × (slice_get classes s ≡ Some k) × (slice_get a.finals s ≡ Some true))
  pub moves : (f : Edge ℕ) → Contains moved f ↔ IsMovedOf classes numbered f
  pub only : (e : Edge L) → Contains m.edges e → (f : Edge ℕ) × Contains moved f × StandsFor letters e f
  pub all : (e : Edge L) → (f : Edge ℕ) → Contains moved f → StandsFor letters e f → Contains m.edges e

pub merged_made : {L : Type 0} (a start m : Automaton L) (letters : List (Option L)) (numbered moved : List (Edge ℕ)) (classes : List ℕ) (count : ℕ) (finals : List Bool)
    → IsWellFormed a → AreNumbered a.edges letters numbered → slice_get classes 0 ≡ Some 0 → AreAlike a.finals numbered classes count
    → ((k : ℕ) → slice_get finals k ≡ Some true ↔ ((s : ℕ) × (slice_get classes s ≡ Some k) × (slice_get a.finals s ≡ Some true)))
    → ((f : Edge ℕ) → Contains moved f ↔ IsMovedOf classes numbered f)
    → start ≡ record { edges = []; finals = finals } → Extends start m (ForEach (λ f e. StandsFor letters e f) moved) → IsMerged a m letters numbered moved classes count
merged_made {L} a start m letters numbered moved classes count finals formed given first alike final moves begins made = record {
  formed = formed;
  given = given;
  start = first;
  alike = alike;
  final = λ k. subst (λ fs. slice_get fs k ≡ Some true ↔ ((s : ℕ) × (slice_get classes s ≡ Some k) × (slice_get a.finals s ≡ Some true))) (sym (made.finals ∙ ap (λ n. n.finals) begins)) (final k);
  moves = moves;
  only = λ e h. elim (made.only e h) [
    | inl held ↦ absurd (Contains-nil_cases e (subst (λ es. Contains es e) (ap (λ n. n.edges) begins) held))
    | inr r ↦ r
  ];
  all = λ e f h s. made.all e (f, h, s);
}

module _ {L : Type 0} (a m : Automaton L) (letters : List (Option L)) (numbered moved : List (Edge ℕ)) (classes : List ℕ) (count : ℕ) (is : IsMerged a m letters numbered moved classes count) where
  letter_of : (e d : Edge L) (f g : Edge ℕ) → StandsFor letters e f → StandsFor letters d g → g.letter ≡ f.letter → d.letter ≡ e.letter
  letter_of e d f g s t same =
      let number : t.0 ≡ s.0 = same_Some t.0 s.0 (sym t.1 ∙ same ∙ s.1) in
      same_at letters s.0 d.letter e.letter (subst (λ k. slice_get letters k ≡ Some d.letter) number t.2) s.2

  pub merged_letters : (x : L) → UsesLetter m x → UsesLetter a x
  merged_letters x (e, c, reads) =
      let r = is.only e c in
      let o = (is.moves r.0).0 r.1 in
      let d = is.given.only o.0 o.1 in
      (d.0, d.1, letter_of e d.0 r.0 o.0 r.2 d.2 (sym o.2.1) ∙ reads)

  -- an edge of the new automaton is an edge from each state of the class
  edge_down : (e : Edge L) → Contains m.edges e → (s : ℕ) → slice_get classes s ≡ Some e.from → (t : ℕ) × Contains a.edges (record { from = s; letter = e.letter; to = t }) × (slice_get classes t ≡ Some e.to)
  edge_down e c s at =
      let r = is.only e c in
      let f : Edge ℕ = r.0 in
      let o = (is.moves f).0 r.1 in
      let g : Edge ℕ = o.0 in
      let from : slice_get classes g.from ≡ Some e.from = o.2.0 ∙ ap Some (sym r.2.3) in
      let n = is.alike.step g s e.from o.1 from at in
      let h : Edge ℕ = n.0 in
      let d = is.given.only h n.2 in
      let letter : d.0.letter ≡ e.letter = letter_of e d.0 f h r.2 d.2 (n.4 ∙ sym o.2.1) in
      let to : slice_get classes h.to ≡ Some e.to = n.6 ∙ sym n.5 ∙ o.2.2 ∙ ap Some (sym r.2.4) in
      let leaves : d.0.from ≡ s = d.2.3 ∙ n.3 in
      let there : Edge L = record { from = s; letter = e.letter; to = h.to } in
      (h.to, subst (Contains a.edges) (edge_same d.0 there leaves letter d.2.4) d.1, to)

  -- an edge is an edge between the classes
  edge_up : (e : Edge L) → Contains a.edges e → (k : ℕ) → slice_get classes e.from ≡ Some k → (q : ℕ) × Contains m.edges (record { from = k; letter = e.letter; to = q }) × (slice_get classes e.to ≡ Some q)
  edge_up e c k at =
      let r = is.given.all e c in
      let f : Edge ℕ = r.0 in
      let ends = is.formed.within e c in
      let inside = ends.1 in
      let number = is.alike.number in
      let l : e.to < length classes = omega arith in
      let q = get_or classes e.to 0 in
      let to : slice_get classes e.to ≡ Some q = slice_get-get_or classes e.to 0 l in
      let g : Edge ℕ = record { from = k; letter = f.letter; to = q } in
      let from : slice_get classes f.from ≡ Some k = subst (λ s. slice_get classes s ≡ Some k) r.2.3 at in
      let into : slice_get classes f.to ≡ Some q = subst (λ s. slice_get classes s ≡ Some q) r.2.4 to in
      (q, is.all (record { from = k; letter = e.letter; to = q }) g ((is.moves g).1 (f, r.1, (from, refl, into))) (r.2.0, r.2.1, r.2.2, refl, refl), to)

  merged_down : {k : ℕ} {w : List L} → AcceptsFrom m k w → (s : ℕ) → slice_get classes s ≡ Some k → AcceptsFrom a s w
  merged_down {k} (stop h) s at =
      let r = (is.final k).0 h in
      stop (is.alike.final r.0 s k r.1 at r.2)
  merged_down {k} (read {q = q} {x = x} c rest) s at =
      let d = edge_down (record { from = k; letter = Some x; to = q }) c s at in
      read d.1 (merged_down rest d.0 d.2)
  merged_down {k} (skip {q = q} c rest) s at =
      let d = edge_down (record { from = k; letter = None; to = q }) c s at in
      skip d.1 (merged_down rest d.0 d.2)

  merged_up : {s : ℕ} {w : List L} → AcceptsFrom a s w → (k : ℕ) → slice_get classes s ≡ Some k → AcceptsFrom m k w
  merged_up {s} (stop h) k at = stop ((is.final k).1 (s, at, h))
  merged_up {s} (read {q = q} {x = x} c rest) k at =
      let u = edge_up (record { from = s; letter = Some x; to = q }) c k at in
      read u.1 (merged_up rest u.0 u.2)
  merged_up {s} (skip {q = q} c rest) k at =
      let u = edge_up (record { from = s; letter = None; to = q }) c k at in
      skip u.1 (merged_up rest u.0 u.2)

  pub merged_language : (w : List L) → Accepts m w ↔ Accepts a w
  merged_language w = (λ p. merged_down p 0 is.start, λ p. merged_up p 0 is.start)
