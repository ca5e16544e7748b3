-- The graph that was found writes just the words that the network relates to the word: its paths are the accepted
-- lists of pairs that have the word on the side that is read.
use Rattle.std.proofs.Common.{◌≡◌, ℕ, zero, suc, ◌+◌, ◌<◌, ◌≤◌, ◌↔◌, List, [], ◌∷◌, ◌++◌, Bool, Option, None, Some, length, drop, refl, subst, sym, ap, arith, ◌∙◌, length-drop}
use Rattle.std.specs.List.{Contains, slice_get}
use Rattle.std.specs.Option.{option_to_list, option_and_then}
use Rattle.std.proofs.lemmas.List.{drop_all}
use Rattle.std.proofs.lemmas.Option.{slice_get_within, same_Some}
use Rattle.fsm_base.specs.declared.letters.Sym.{Sym}
use Rattle.fsm_base.specs.declared.letters.Pair.{Pair}
use Rattle.word_relations.proofs.Places.{same_at}
use Rattle.fsa.specs.declared.automaton.Edge.{Edge}
use Rattle.fsa.specs.Automaton.{Automaton}
use Rattle.fsa.specs.Language.{AcceptsFrom, stop, read, skip}
use Rattle.lookup.specs.Graph.{Connects, IsPath, IsWithin, Writes, end, letters_of, start}
use Rattle.lookup.specs.Obeyed.{HasLetter}
use Rattle.lookup.specs.declared.explored.Config.{Config}
use Rattle.lookup_walk.specs.declared.moves.Move.{Move}
use Rattle.lookup_answers.specs.declared.direction.Direction.{Direction}
use Rattle.fst_algebra.specs.Relation.{symbols_on}
use Rattle.lookup_walk.specs.Moves.{AreMoves, IsRelatedBy, IsWritten, move_of, read_on, written_on}
use Rattle.lookup_walk.proofs.Runs.{related_by}
use Rattle.lookup.specs.Reached.{Reached, IsNode, IsExplored}
use Rattle.lookup.specs.Steps.{Reads, Steps}

-- what is left of a word begins with what stands at its place
drop_first : (word : List Sym) (i : ℕ) (s : Sym) (rest : List Sym) → s ∷ rest ≡ drop i word → (slice_get word i ≡ Some s) × (rest ≡ drop (i + 1) word)
drop_first [] zero s rest e = cc
drop_first [] (suc i) s rest e = cc
drop_first (x ∷ word) zero s rest e = (let h : x ≡ s = cc in ap Some h, cc)
drop_first (x ∷ word) (suc i) s rest e =
    let n : suc i + 1 ≡ suc (i + 1) = omega arith in
    let r = drop_first word i s rest e in
    (r.0, r.1 ∙ ap (λ k. drop k (x ∷ word)) (sym n))

first_drop : (word : List Sym) (i : ℕ) (s : Sym) → slice_get word i ≡ Some s → s ∷ drop (i + 1) word ≡ drop i word
first_drop [] i s e = cc
first_drop (x ∷ word) zero s e = let h : x ≡ s = same_Some x s e in ap (λ y. y ∷ word) (sym h)
first_drop (x ∷ word) (suc i) s e =
    let n : suc i + 1 ≡ suc (i + 1) = omega arith in
    ap (λ k. s ∷ drop k (x ∷ word)) n ∙ first_drop word i s e

module _ (direction : Direction) (m : Automaton Pair) (moves : List Move) (are : AreMoves direction m.edges moves) (word : List Sym) (reached : Reached) (explored : IsExplored (Steps moves m.finals word) (length reached.configs) reached) where
  abbrev edges : List (Edge Sym)
  edges = reached.edges

  -- the configuration has this number
  abbrev IsAt : ℕ → ℕ → ℕ → Type 0
  IsAt k place state = slice_get reached.configs k ≡ Some (record { place = place; state = state })

  -- one step, and what the path from there writes
  step : (k i q : ℕ) (letter : Option Sym) (d : Config) (w : List Sym) → IsAt k i q → Steps moves m.finals word (record { place = i; state = q }) letter (Some d)
      → ((j : ℕ) → slice_get reached.configs j ≡ Some d → Connects edges (j + 1) w end) → Connects edges (k + 1) (option_to_list letter ++ w) end
  step k i q letter d w at steps on =
      let r = explored.all k (record { place = i; state = q }) letter (Some d) (slice_get_within reached.configs k _ at) at steps in
      let rest = on r.1.0 r.1.2 in
      let edge : Edge Sym = record { from = k + 1; letter = letter; to = r.0 } in
      (edge ∷ rest.0, (r.2, refl, subst (λ n. IsPath edges n rest.0 end) (sym r.1.1) rest.1), ap (λ v. option_to_list letter ++ v) rest.2)

  writes : {q : ℕ} {pairs : List Pair} → AcceptsFrom m q pairs → (k i : ℕ) → IsAt k i q → symbols_on (read_on direction) pairs ≡ drop i word → Connects edges (k + 1) (symbols_on (written_on direction) pairs) end
  writes {q} (stop final) k i at is =
      let past : length word ≤ i = let e : 0 ≡ length (drop i word) = ap length is in let d = length-drop i word in omega arith in
      let r = explored.all k (record { place = i; state = q }) None None (slice_get_within reached.configs k _ at) at (refl, past, final) in
      (record { from = k + 1; letter = None; to = r.0 } ∷ [], (r.2, refl, r.1), refl)
  writes {q = p} (read {q = q} {x = x} {w = w} held rest) k i at is = by (read_on direction x) refl is (λ j place there e. writes rest j place there e)
    where
      by : (r : Option Sym) → read_on direction x ≡ r → option_to_list r ++ symbols_on (read_on direction) w ≡ drop i word
          → ((j place : ℕ) → IsAt j place q → symbols_on (read_on direction) w ≡ drop place word → Connects edges (j + 1) (symbols_on (written_on direction) w) end)
          → Connects edges (k + 1) (option_to_list (written_on direction x) ++ symbols_on (written_on direction) w) end
      by None none e on =
          let edge : Edge Pair = record { from = p; letter = Some x; to = q } in
          step k i p (written_on direction x) (record { place = i; state = q }) (symbols_on (written_on direction) w) at
          (move_of direction edge, (are (move_of direction edge)).1 (edge, held, refl), refl, subst (λ r. Reads word r i i) (sym none) refl, refl, refl)
          (λ j there. on j i there e)
      by (Some s) some e on =
          let edge : Edge Pair = record { from = p; letter = Some x; to = q } in
          let r = drop_first word i s (symbols_on (read_on direction) w) e in
          step k i p (written_on direction x) (record { place = i + 1; state = q }) (symbols_on (written_on direction) w) at
          (move_of direction edge, (are (move_of direction edge)).1 (edge, held, refl), refl, subst (λ r. Reads word r i (i + 1)) (sym some) (r.0, refl), refl, refl)
          (λ j there. on j (i + 1) there r.1)
  writes {q = p} (skip {q = q} {w = w} held rest) k i at is =
      let edge : Edge Pair = record { from = p; letter = None; to = q } in
      step k i p None (record { place = i; state = q }) (symbols_on (written_on direction) w) at
      (move_of direction edge, (are (move_of direction edge)).1 (edge, held, refl), refl, refl, refl, refl)
      (λ j there. writes rest j i there is)

  -- from the configuration the network reads the rest of the word, and writes this
  abbrev ReadsBack : ℕ → ℕ → List Sym → Type 0
  ReadsBack i q w = (pairs : List Pair) × AcceptsFrom m q pairs × (symbols_on (read_on direction) pairs ≡ drop i word) × (symbols_on (written_on direction) pairs ≡ w)

  along : (i q : ℕ) (d : Config) (letter : Option Pair) (out : Option Sym) (w : List Sym) → Contains m.edges (record { from = q; letter = letter; to = d.state }) → Reads word (option_and_then (read_on direction) letter) i d.place → option_and_then (written_on direction) letter ≡ out → ReadsBack d.place d.state w → ReadsBack i q (option_to_list out ++ w)
  along i q d None out w held here letter (pairs, accepted, reads, writes) =
      (pairs, skip held accepted, reads ∙ ap (λ n. drop n word) here, writes ∙ ap (λ l. option_to_list l ++ w) letter)
  along i q d (Some pair) out w held reads letter (pairs, accepted, left, writes) =
      (pair ∷ pairs, read held accepted, by (read_on direction pair) reads, ap (λ v. option_to_list (written_on direction pair) ++ v) writes ∙ ap (λ l. option_to_list l ++ w) letter)
    where
      by : (r : Option Sym) → Reads word r i d.place → option_to_list r ++ symbols_on (read_on direction) pairs ≡ drop i word
      by None here = left ∙ ap (λ n. drop n word) here
      by (Some s) (there, on) = ap (λ v. s ∷ v) (left ∙ ap (λ n. drop n word) on) ∙ first_drop word i s there

  -- no edge leaves the end
  from_end : (path : List (Edge Sym)) → IsPath edges end path end → letters_of path ≡ []
  from_end [] h = refl
  from_end (x ∷ path) (held, from, rest) = let r = explored.only x held in let up : x.from ≡ r.0 + 1 = r.4 in absurd (omega arith)

  reads_back : (path : List (Edge Sym)) (k i q : ℕ) → IsAt k i q → IsPath edges (k + 1) path end → ReadsBack i q (letters_of path)
  reads_back [] k i q at is = absurd (omega arith)
  reads_back (x ∷ path) k i q at (held, from, rest) =
      let r = explored.only x held in
      let up : x.from ≡ r.0 + 1 = r.4 in
      let here : r.0 ≡ k = omega arith in
      let same : r.1 ≡ record { place = i; state = q } = same_at reached.configs k r.1 (record { place = i; state = q }) (subst (λ n. slice_get reached.configs n ≡ Some r.1) here r.3) at in
      by r.2 r.5 (subst (λ c. Steps moves m.finals word c x.letter r.2) same r.6) (λ j place state there is. reads_back path j place state there is)
    where
      by : (t : Option Config) → IsNode reached.configs x.to t → Steps moves m.finals word (record { place = i; state = q }) x.letter t
          → ((j place state : ℕ) → IsAt j place state → IsPath edges (j + 1) path end → ReadsBack place state (letters_of path)) → ReadsBack i q (option_to_list x.letter ++ letters_of path)
      by None node (none, past, final) on =
          ([], stop final, sym (drop_all i word past), sym (ap (λ l. option_to_list l ++ letters_of path) none ∙ from_end path (subst (λ n. IsPath edges n path end) node rest)))
      by (Some d) (j, node, there) (move, has, state, reads, letter, to) on =
          let e = (are move).0 has in
          let P : ℕ → ℕ → Type 0 = λ a b. Contains m.edges (record { from = a; letter = e.0.letter; to = b }) in
          let leaves : e.0.from ≡ q = sym (ap (λ v. v.at.state) e.2) ∙ state in
          let enters : e.0.to ≡ d.state = sym (ap (λ (v : Move). v.to) e.2) ∙ to in
          along i q d e.0.letter x.letter (letters_of path) (subst (λ a. P a d.state) leaves (subst (λ b. P e.0.from b) enters e.1))
          (subst (λ r. Reads word r i d.place) (ap (λ v. v.at.read) e.2) reads) (sym (ap (λ v. v.write) e.2) ∙ letter)
          (on j d.place d.state there (subst (λ n. IsPath edges n path end) node rest))

  pub part_words : (written : List Sym) → Writes edges written ↔ IsRelatedBy direction m word written
  part_words written = (
    λ (path, is, letters).
        let r = reads_back path 0 0 0 explored.start is in (related_by direction m word written).1 (r.0, r.1, r.2, r.3 ∙ letters),
    λ related.
        let r = (related_by direction m word written).0 related in
        subst (λ v. Connects edges start v end) r.3 (writes r.1 0 0 explored.start r.2),
  )

module _ (moves : List Move) (finals : List Bool) (word : List Sym) (reached : Reached) (explored : IsExplored (Steps moves finals word) (length reached.configs) reached) where
  node_below : (node : ℕ) (t : Option Config) → IsNode reached.configs node t → node < length reached.configs + 1
  node_below node None e = omega arith
  node_below node (Some c) (k, e, at) = let w = slice_get_within reached.configs k c at in omega arith

  pub part_within : IsWithin reached.edges (length reached.configs + 1)
  part_within e held =
      let r = explored.only e held in
      (node_below e.from (Some r.1) (r.0, r.4, r.3), node_below e.to r.2 r.5)

  pub part_start : 1 < length reached.configs + 1
  part_start = let w = slice_get_within reached.configs 0 _ explored.start in omega arith

  written_of : (f : Pair → Option Sym) (letter : Option Pair) (s : Sym) → option_and_then f letter ≡ Some s → (pair : Pair) × (letter ≡ Some pair) × (f pair ≡ Some s)
  written_of f None s e = cc
  written_of f (Some pair) s e = (pair, refl, e)

  step_writes : (direction : Direction) (m : Automaton Pair) → AreMoves direction m.edges moves → (c : Config) (letter : Option Sym) (t : Option Config) (s : Sym) → letter ≡ Some s → Steps moves finals word c letter t → IsWritten direction m s
  step_writes direction m are c letter None s is (none, past, final) = let e : None ≡ Some s = sym none ∙ is in cc
  step_writes direction m are c letter (Some d) s is (move, has, state, reads, writes, to) =
      let e = (are move).0 has in
      let r = written_of (written_on direction) e.0.letter s (sym (ap (λ v. v.write) e.2) ∙ writes ∙ is) in
      (r.0, (e.0, e.1, r.1), r.2)

  pub part_symbols : (direction : Direction) (m : Automaton Pair) (s : Sym) → AreMoves direction m.edges moves → HasLetter reached.edges s → IsWritten direction m s
  part_symbols direction m s are (e, held, is) = let r = explored.only e held in step_writes direction m are r.1 e.letter r.2 s is r.6
