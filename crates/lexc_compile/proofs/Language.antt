-- The automaton of all entries accepts the tapes of the paths from the root.
use Rattle.std.proofs.Common.{◌≡◌, ℕ, ◌+◌, ◌↔◌, List, [], ◌∷◌, ◌++◌, Option, None, Some, refl, subst, sym, ap, inl, inr, append_assoc, ◌∙◌}
use Rattle.std.specs.List.{Contains}
use Rattle.std.specs.Option.{option_to_list}
use Rattle.fsa.specs.Automaton.{Automaton, IsFinal, UsesLetter}
use Rattle.fsa.specs.Language.{Accepts, AcceptsFrom, stop, skip}
use Rattle.fsa.specs.declared.automaton.Edge.{Edge}
use Rattle.fsa_rational.proofs.Walks.{AcceptsFrom-least}
use Rattle.flag_diacritics.specs.declared.tape.Tape.{Tape}
use Rattle.lexc_compile.specs.declared.steps.Step.{Step}
use Rattle.lexc_compile.specs.Paths.{Adds, IsPath, HasPath, PlacedEntry, SomeEntryUses}
use Rattle.lexc_compile.specs.Blocks.{target_of}
use Rattle.lexc_compile.specs.Built.{Inside, front, origin_of, IsRead, IsBuilt, HasEntry}

module _ (entries : List PlacedEntry) (count root : ℕ) (inside : ℕ → Inside) (m : Automaton Tape) (steps : List (Step × ℕ)) (is : IsBuilt entries count root inside m steps) where
  -- what is accepted behind what was read makes it a tape of a path
  abbrev SaysOf : Inside → List Tape → Type 0
  SaysOf d w = (x : List Tape) → IsRead d x → HasPath (Contains entries) (origin_of d) (x ++ w)

  says_final : (p : ℕ) → IsFinal m p → SaysOf (inside p) []
  says_final p h =
      let here : inside p ≡ front None [] = ap inside ((is.final p).0 h) ∙ is.targets None tt in
      subst (λ d. SaysOf d []) (sym here) (λ x read. ([], ap (λ v. v ++ []) read))

  says_step : (e : Edge Tape) (w : List Tape) → Contains m.edges e → SaysOf (inside e.to) w → SaysOf (inside e.from) (option_to_list e.letter ++ w)
  says_step e w h s x read = elim (is.follows e h) [
    | inl (same, reads) ↦
        subst (λ o. HasPath (Contains entries) o (x ++ (option_to_list e.letter ++ w))) (sym same)
        (subst (λ v. HasPath (Contains entries) (origin_of (inside e.to)) v) (append_assoc x (option_to_list e.letter) w) (s (x ++ option_to_list e.letter) (reads x read)))
    | inr (entry, origin, held, after, adds) ↦
        let rest : HasPath (Contains entries) entry.next w = subst (λ d. SaysOf d w) after s [] refl in
        subst (λ o. HasPath (Contains entries) o (x ++ (option_to_list e.letter ++ w))) (sym origin)
        (entry ∷ rest.0, (x ++ option_to_list e.letter, w, held, refl, adds x read, rest.1, sym (append_assoc x (option_to_list e.letter) w)))
  ]

  module _ (has : (entry : PlacedEntry) → Contains entries entry → HasEntry count m.edges entry) where
    -- a path's tape is accepted
    path_up : (path : List PlacedEntry) (from : Option ℕ) (w : List Tape) → IsPath (Contains entries) from path w → AcceptsFrom m (target_of count from) w
    path_up [] None w none = subst (λ (v : List Tape). AcceptsFrom m (count + 1) v) (sym none) (stop ((is.final (count + 1)).1 refl))
    path_up [] (Some k) w none = absurd none
    path_up (entry ∷ path) None w none = absurd none
    path_up (entry ∷ path) (Some k) w (begin, rest, held, here, adds, next, joined) =
        subst (λ (v : List Tape). AcceptsFrom m (k + 1) v) (sym joined)
        (subst (λ p. AcceptsFrom m (p + 1) (begin ++ rest)) here (has entry held begin adds m (λ e h. h) rest (path_up path entry.next rest next)))

    pub built_language : (tape : List Tape) → Accepts m tape ↔ HasPath (Contains entries) (Some root) tape
    built_language tape = (
      λ h. subst (λ d. SaysOf d tape) is.start (AcceptsFrom-least m (λ p w. SaysOf (inside p) w) says_final says_step h) [] refl,
      λ (path, along). skip is.first (path_up path (Some root) tape along),
    )

  pub built_letters : (x : Tape) → UsesLetter m x → SomeEntryUses (Contains entries) x
  built_letters x (e, held, reads) = is.letters e held x reads

-- the same tapes are of paths where there are entries that add the same
module _ (Has More : PlacedEntry → Type 0)
    (each : (entry : PlacedEntry) → Has entry → (other : PlacedEntry) × More other × (other.place ≡ entry.place) × (other.next ≡ entry.next) × ((x : List Tape) → Adds entry.content x → Adds other.content x)) where
  path_of_others : (path : List PlacedEntry) (from : Option ℕ) (w : List Tape) → IsPath Has from path w → HasPath More from w
  path_of_others [] None w none = ([], none)
  path_of_others [] (Some k) w none = absurd none
  path_of_others (entry ∷ path) None w none = absurd none
  path_of_others (entry ∷ path) (Some k) w (begin, rest, there, here, adds, next, joined) =
      let (other, held, place, goes_on, more) = each entry there in
      let (others, along) = subst (λ o. HasPath More o rest) (sym goes_on) (path_of_others path entry.next rest next) in
      (other ∷ others, (begin, rest, held, place ∙ here, more begin adds, along, joined))

  pub same_paths : (from : Option ℕ) (w : List Tape) → HasPath Has from w → HasPath More from w
  same_paths from w (path, along) = path_of_others path from w along
