-- The automaton of tapes accepts the words of the graph, symbol by symbol as tapes.
use Rattle.std.proofs.Common.{◌≡◌, ℕ, zero, suc, ◌<◌, ◌↔◌, List, [], ◌∷◌, ◌++◌, Option, None, Some, map, refl, subst, sym, ap, arith, ◌∙◌}
use Rattle.std.specs.List.{Contains}
use Rattle.std.specs.Option.{option_map, option_to_list}
use Rattle.fsm_base.specs.declared.letters.Sym.{Sym}
use Rattle.word_relations.proofs.Members.{Contains-map, Contains-map_cases}
use Rattle.fsa.specs.Automaton.{Automaton, IsFinal, UsesLetter}
use Rattle.fsa.specs.Language.{Accepts, AcceptsFrom, stop, read, skip}
use Rattle.fsa.specs.declared.automaton.Edge.{Edge}
use Rattle.flag_diacritics.specs.declared.tape.Tape.{Tape}
use Rattle.flag_runs.specs.Runs.{tape_of}
use Rattle.fst_flagged.specs.declared.condition.Condition.{Condition}
use Rattle.lookup.specs.Graph.{Connects, IsPath, Writes, end, letters_of, start}
use Rattle.lookup.specs.Obeyed.{HasLetter, swapped, tape_edge}

pub swap_twice : (n : ℕ) → swapped (swapped n) ≡ n
swap_twice zero = refl
swap_twice (suc zero) = refl
swap_twice (suc (suc n)) = refl

pub swap_within : (n count : ℕ) → 1 < count → n < count → swapped n < count
swap_within zero count some within = some
swap_within (suc zero) count some within = omega arith
swap_within (suc (suc n)) count some within = within

map_front : {X Y : Type 0} (f : X → Y) (o : Option X) (xs : List X) → map f (option_to_list o ++ xs) ≡ option_to_list (option_map f o) ++ map f xs
map_front f None xs = refl
map_front f (Some x) xs = refl

mapped_some : {X Y : Type 0} (f : X → Y) (o : Option X) (y : Y) → option_map f o ≡ Some y → (x : X) × (o ≡ Some x) × (f x ≡ y)
mapped_some f None y e = cc
mapped_some f (Some x) y e = (x, refl, cc)

module _ (conditions : List Condition) (edges : List (Edge Sym)) (m : Automaton Tape) (are : m.edges ≡ map (tape_edge conditions) edges) (ends : (q : ℕ) → IsFinal m q ↔ (q ≡ 1)) where
  abbrev taped : List Sym → List Tape
  taped x = map (tape_of conditions) x

  -- from the node some path to the end has the letters of this tape
  abbrev TapesFrom : ℕ → List Tape → Type 0
  TapesFrom a tape = (x : List Sym) × Connects edges a x end × (tape ≡ taped x)

  along : (a b : ℕ) (letter : Option Tape) (tape : List Tape) → Contains m.edges (record { from = swapped a; letter = letter; to = b }) → TapesFrom (swapped b) tape → TapesFrom a (option_to_list letter ++ tape)
  along a b letter tape held (x, (path, is_path, letters), tape_is) =
      let found : (e : Edge Sym) × Contains edges e × (tape_edge conditions e ≡ record { from = swapped a; letter = letter; to = b }) =
      Contains-map_cases (tape_edge conditions) edges (record { from = swapped a; letter = letter; to = b }) (subst (λ es. Contains es (record { from = swapped a; letter = letter; to = b })) are held) in
      let e : Edge Sym = found.0 in
      let from : e.from ≡ a = sym (swap_twice e.from) ∙ ap (λ (y : Edge Tape). swapped y.from) found.2 ∙ swap_twice a in
      let to : swapped b ≡ e.to = sym (ap (λ (y : Edge Tape). swapped y.to) found.2) ∙ swap_twice e.to in
      let letter_is : option_map (tape_of conditions) e.letter ≡ letter = ap (λ (y : Edge Tape). y.letter) found.2 in (
        option_to_list e.letter ++ x,
        (e ∷ path, (found.1, from, subst (λ n. IsPath edges n path end) to is_path), ap (λ v. option_to_list e.letter ++ v) letters),
        ap (λ l. option_to_list l ++ tape) (sym letter_is) ∙ ap (λ v. option_to_list (option_map (tape_of conditions) e.letter) ++ v) tape_is ∙ sym (map_front (tape_of conditions) e.letter x),
      )

  from_accepted : {q : ℕ} {tape : List Tape} → AcceptsFrom m q tape → TapesFrom (swapped q) tape
  from_accepted {q} (stop final) = ([], ([], ap swapped ((ends q).0 final), refl), refl)
  from_accepted {q = p} (read {q = q} {x = x} {w = w} held rest) =
      along (swapped p) q (Some x) w (subst (λ n. Contains m.edges (record { from = n; letter = Some x; to = q })) (sym (swap_twice p)) held) (from_accepted rest)
  from_accepted {q = p} (skip {q = q} {w = w} held rest) =
      along (swapped p) q None w (subst (λ n. Contains m.edges (record { from = n; letter = None; to = q })) (sym (swap_twice p)) held) (from_accepted rest)

  one : (p q : ℕ) (letter : Option Sym) (x : List Sym) → Contains m.edges (record { from = p; letter = option_map (tape_of conditions) letter; to = q }) → AcceptsFrom m q (taped x) → AcceptsFrom m p (taped (option_to_list letter ++ x))
  one p q None x held rest = skip held rest
  one p q (Some s) x held rest = read held rest

  on_path : (path : List (Edge Sym)) (a : ℕ) → IsPath edges a path end → AcceptsFrom m (swapped a) (taped (letters_of path))
  on_path [] a is = stop ((ends (swapped a)).1 (ap swapped is))
  on_path (e ∷ path) a (held, from, rest) =
      let here : Contains m.edges (tape_edge conditions e) = subst (λ es. Contains es (tape_edge conditions e)) (sym are) (Contains-map (tape_edge conditions) edges e held) in
      subst (λ n. AcceptsFrom m (swapped n) (taped (letters_of (e ∷ path)))) from (one (swapped e.from) (swapped e.to) e.letter (letters_of path) here (on_path path e.to rest))

  pub tapes_words : (tape : List Tape) → Accepts m tape ↔ ((x : List Sym) × Writes edges x × (tape ≡ map (tape_of conditions) x))
  tapes_words tape = (
    λ accepted. from_accepted accepted,
    λ (x, (path, is, letters), tape_is). subst (λ t. AcceptsFrom m 0 t) (sym tape_is) (subst (λ v. AcceptsFrom m 0 (taped v)) letters (on_path path start is)),
  )

  pub tapes_letters : (t : Tape) → UsesLetter m t → (s : Sym) × HasLetter edges s × (tape_of conditions s ≡ t)
  tapes_letters t (y, held, at) =
      let found = Contains-map_cases (tape_edge conditions) edges y (subst (λ es. Contains es y) are held) in
      let e : Edge Sym = found.0 in
      let r = mapped_some (tape_of conditions) e.letter t (ap (λ (z : Edge Tape). z.letter) found.2 ∙ at) in
      (r.0, (e, found.1, r.1), r.2)

pub tapes_within : (conditions : List Condition) (edges : List (Edge Sym)) (count : ℕ) → 1 < count → ((e : Edge Sym) → Contains edges e → (e.from < count) × (e.to < count))
    → (y : Edge Tape) → Contains (map (tape_edge conditions) edges) y → (y.from < count) × (y.to < count)
tapes_within conditions edges count some within y held =
    let found = Contains-map_cases (tape_edge conditions) edges y held in
    let e : Edge Sym = found.0 in
    let inside = within e found.1 in (
      subst (λ n. n < count) (ap (λ (z : Edge Tape). z.from) found.2) (swap_within e.from count some inside.0),
      subst (λ n. n < count) (ap (λ (z : Edge Tape). z.to) found.2) (swap_within e.to count some inside.1),
    )
