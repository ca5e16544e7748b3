-- The automaton of the words with each letter replaced by its image: each edge carries its letter's image, where that
-- is a letter or epsilon.
use Rattle.std.proofs.Common.{◌≡◌, ℕ, ◌↔◌, List, [], ◌∷◌, ◌++◌, true, Option, Some, None, refl, subst, sym, ap, inl, inr, ◌∙◌}
use Rattle.std.specs.List.{Contains, slice_get}
use Rattle.std.specs.Option.{option_to_list}
use Rattle.word_relations.proofs.Members.{Contains-nil_cases}
use Rattle.fsa.specs.Automaton.{Automaton, IsFinal, UsesLetter}
use Rattle.fsa.specs.Language.{AcceptsFrom, Accepts, stop, read, skip}
use Rattle.fsa.specs.declared.automaton.Edge.{Edge}
use Rattle.fsa_rational.specs.Shapes.{Extends, ForEach}
use Rattle.fsa_rational.proofs.Extended.{Extends-push, Extends-same}
use Rattle.fsa_rational.proofs.Walks.{AcceptsFrom-least, AcceptsFrom-step}
use Rattle.fst_algebra.specs.declared.substitution.Image.{Image}
use Rattle.fst_algebra.specs.declared.substitution.Image.TheVariants.{Letter, Epsilon, Nothing}
use Rattle.fst_algebra.specs.Substituted.{Spells, finish, keep, omit, IsSubstituted, letter_or_epsilon, image_on_edge, CarriesImage}

module _ {L M : Type 0} (image : L → Image M) where
  -- an edge's letter at the head of a word
  spelled_step : (letter : Option L) (new : Option M) (v : List L) (w : List M) → image_on_edge image letter ≡ letter_or_epsilon new → Spells image v w → Spells image (option_to_list letter ++ v) (option_to_list new ++ w)
  spelled_step None None v w is rest = rest
  spelled_step None (Some y) v w is rest = let clash : Epsilon ≡ Letter y = is in absurd (cc)
  spelled_step (Some x) None v w is rest = omit is rest
  spelled_step (Some x) (Some y) v w is rest = keep is rest

  kept_letter : (letter : Option L) (y : M) → image_on_edge image letter ≡ Letter y → (x : L) × (letter ≡ Some x) × (image x ≡ Letter y)
  kept_letter None y is = let clash : Epsilon ≡ Letter y = is in absurd (cc)
  kept_letter (Some x) y is = (x, refl, is)

  module _ (a : Automaton L) (start m : Automaton M) (none : start.edges ≡ []) (finals : start.finals ≡ a.finals) (made : Extends start m (ForEach (CarriesImage image) a.edges)) where
    m_finals : m.finals ≡ a.finals
    m_finals = made.finals ∙ finals

    old_edge : (e : Edge M) → Contains m.edges e → ForEach (CarriesImage image) a.edges e
    old_edge e h = elim (made.only e h) [ inl h0 ↦ absurd (Contains-nil_cases e (subst (λ es. Contains es e) none h0)) | inr r ↦ r ]

    abbrev Behind : ℕ → List M → Type 0
    Behind p w = (v : List L) × AcceptsFrom a p v × Spells image v w

    behind_edge : (f : Edge L) (letter : Option M) (w : List M) → Contains a.edges f → image_on_edge image f.letter ≡ letter_or_epsilon letter → Behind f.to w → Behind f.from (option_to_list letter ++ w)
    behind_edge f letter w held is (v, path, spelled) = (option_to_list f.letter ++ v, AcceptsFrom-step a f v held path, spelled_step f.letter letter v w is spelled)

    down : {p : ℕ} {w : List M} → AcceptsFrom m p w → Behind p w
    down = AcceptsFrom-least m Behind
        (λ p h. ([], stop (subst (λ fs. slice_get fs p ≡ Some true) m_finals h), finish))
        (λ e w h rest.
        let r = old_edge e h in
        subst (λ (x : Edge M). Behind x.to w → Behind x.from (option_to_list x.letter ++ w)) (sym r.2.2) (behind_edge r.0 r.2.0 w r.1 r.2.1) rest)

    new_edge : (p q : ℕ) (letter : Option L) (new : Option M) → Contains a.edges (record { from = p; letter = letter; to = q }) → image_on_edge image letter ≡ letter_or_epsilon new → Contains m.edges (record { from = p; letter = new; to = q })
    new_edge p q letter new held is = made.all (record { from = p; letter = new; to = q }) (record { from = p; letter = letter; to = q }, held, (new, is, refl))

    up_read : (p q : ℕ) (x : L) (v : List L) (w : List M) → Contains a.edges (record { from = p; letter = Some x; to = q }) → ((u : List M) → Spells image v u → AcceptsFrom m q u) → Spells image (x ∷ v) w → AcceptsFrom m p w
    up_read p q x v w held rest (keep {y = y} {w = u} is spelled) = read (new_edge p q (Some x) (Some y) held is) (rest u spelled)
    up_read p q x v w held rest (omit is spelled) = skip (new_edge p q (Some x) None held is) (rest w spelled)

    up_stop : (p : ℕ) (w : List M) → IsFinal a p → Spells image [] w → AcceptsFrom m p w
    up_stop p w h finish = stop (subst (λ fs. slice_get fs p ≡ Some true) (sym m_finals) h)

    up : {p : ℕ} {v : List L} → AcceptsFrom a p v → (w : List M) → Spells image v w → AcceptsFrom m p w
    up {p} (stop h) w spelled = up_stop p w h spelled
    up {p} (read {q = q} {x = x} {w = v} h rest) w spelled = up_read p q x v w h (up rest) spelled
    up {p} (skip {q = q} h rest) w spelled = skip (new_edge p q None None h refl) (up rest w spelled)

    pub substituted_language : (w : List M) → Accepts m w ↔ IsSubstituted image (Accepts a) w
    substituted_language w = (down, λ (v, path, spelled). up path w spelled)

    pub substituted_letters : (y : M) → UsesLetter m y → (x : L) × UsesLetter a x × (image x ≡ Letter y)
    substituted_letters y (e, h, reads) =
        let r = old_edge e h in
        let carries : r.2.0 ≡ Some y = sym (ap (λ f. f.letter) r.2.2) ∙ reads in
        let k = kept_letter r.0.letter y (r.2.1 ∙ ap letter_or_epsilon carries) in
        (k.0, (r.0, r.1, k.1), k.2)

same_letter : {M : Type 0} (one other : Option M) → letter_or_epsilon one ≡ letter_or_epsilon other → one ≡ other
same_letter None None is = refl
same_letter {M} None (Some y) is = let clash : Epsilon ≡ Letter y = is in absurd (cc)
same_letter {M} (Some x) None is = let clash : Letter x ≡ Epsilon = is in absurd (cc)
same_letter {M} (Some x) (Some y) is = let same : Letter x ≡ Letter y = is in cc

-- the edge with the image of an edge's letter, where there is one
module _ {L M : Type 0} (image : L → Image M) (old : Edge L) where
  pub one_edge : (now new : Automaton M) (letter : Option M) (found : Image M) → found ≡ image_on_edge image old.letter → found ≡ letter_or_epsilon letter → new ≡ record now { edges = now.edges ++ record { from = old.from; letter = letter; to = old.to } ∷ [] } → Extends now new (CarriesImage image old)
  one_edge now new letter found at found_is is =
      let carried : image_on_edge image old.letter ≡ letter_or_epsilon letter = sym at ∙ found_is in
      Extends-same now new (λ e. e ≡ record { from = old.from; letter = letter; to = old.to }) (CarriesImage image old)
      (λ e same. (letter, carried, same))
      (λ e (other, c, same). same ∙ ap (λ (o : Option M). record { from = old.from; letter = o; to = old.to }) (same_letter other letter (sym c ∙ carried)))
      (Extends-push now new (record { from = old.from; letter = letter; to = old.to }) is)

  pub no_edge : (found : Image M) → found ≡ image_on_edge image old.letter → found ≡ Nothing → (e : Edge M) → CarriesImage image old e → ⊥
  no_edge found at nothing e (letter, carried, is) = no_letter letter (sym nothing ∙ at ∙ carried)
    where
      no_letter : (o : Option M) → Nothing ≡ letter_or_epsilon o → ⊥
      no_letter None clash = let e : Nothing ≡ Epsilon = clash in cc
      no_letter (Some y) clash = let e : Nothing ≡ Letter y = clash in cc
