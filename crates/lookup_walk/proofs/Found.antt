-- What a walk from the start has found in the end, and that it writes symbols of the alphabet.
use Rattle.std.proofs.Common.{◌≡◌, ℕ, ◌≤◌, ◌↔◌, ◌⊎◌, List, [], ◌++◌, Bool, Option, None, Some, length, refl, sym, subst, ap, inl, inr, ◌∙◌}
use Rattle.std.specs.List.{Contains}
use Rattle.std.specs.Option.{option_and_then}
use Rattle.word_relations.proofs.Members.{Contains-nil_cases}
use Rattle.word_relations.specs.Words.{joined}
use Rattle.fsm_base.specs.Alphabet.{spelled, symbols_of}
use Rattle.fsm_base.specs.declared.letters.Sym.{Sym}
use Rattle.fsm_base.specs.declared.letters.Pair.{Pair}
use Rattle.fsa.specs.declared.automaton.Edge.{Edge}
use Rattle.fsa.specs.Automaton.{Automaton}
use Rattle.flag_diacritics.specs.Numbers.{Features}
use Rattle.flag_runs.specs.Runs.{RulesView}
use Rattle.word_relations.specs.Answers.{AreAll, IsInOrder, most_answers}
use Rattle.lookup_walk.specs.declared.moves.Move.{Move}
use Rattle.lookup_answers.specs.declared.direction.Direction.{Direction}
use Rattle.lookup_answers.specs.declared.direction.Direction.TheVariants.{Up, Down}
use Rattle.lookup_walk.specs.declared.walk.Trail.{Trail}
use Rattle.lookup_walk.specs.Answering.{IsOverAlphabet, TextsBy}
use Rattle.lookup_walk.specs.Moves.{AreMoves, IsRelatedBy, IsWritten, written_on}
use Rattle.lookup_walk.specs.Nets.{NetView, NetRelatesBy}
use Rattle.lookup_walk.specs.Walks.{Adds, ComesFrom, Goes, IsRun, WritesOver, writes_of}
use Rattle.lookup_walk.specs.Ways.{ComesTo, IsWay}
use Rattle.lookup_walk.proofs.Runs.{RunWrites, runs_related}

-- a symbol that is written stands on one of the sides
pub on_a_side : (direction : Direction) (pair : Pair) (s : Sym) → written_on direction pair ≡ Some s → (pair.up ≡ Some s) ⊎ (pair.low ≡ Some s)
on_a_side Up pair s is = inl is
on_a_side Down pair s is = inr is

-- what a move writes is written by the transducer
pub is_written : (direction : Direction) (m : Automaton Pair) (moves : List Move) → AreMoves direction m.edges moves → (x : Move) (s : Sym) → Contains moves x → x.write ≡ Some s → IsWritten direction m s
is_written direction m moves are x s has is =
    let e = (are x).0 has in
    by e.0 e.1 e.0.letter refl (sym (ap (λ (y : Move). y.write) e.2) ∙ is)
  where
    by : (e : Edge Pair) → Contains m.edges e → (l : Option Pair) → e.letter ≡ l → option_and_then (written_on direction) l ≡ Some s → IsWritten direction m s
    by e held None at none = cc
    by e held (Some pair) at written = (pair, (e, held, at), written)

module _ (direction : Direction) (net : NetView) (moves : List Move) (finals : List Bool) (rules : Option RulesView) (way : IsWay direction net moves finals rules) where
  pub writes_over : (alphabet : List (Sym × List ℕ)) → IsOverAlphabet alphabet net → WritesOver rules alphabet moves
  writes_over alphabet over x s has is symbol = way.symbols alphabet s over (is_written direction way.over moves way.are x s has is) symbol

  -- these features are those of the start
  abbrev AreFirst : Features → Type 0
  AreFirst values = (written word : List Sym) → ComesFrom rules values written word ↔ ComesTo rules written word

  pub goes_related : (values : Features) → AreFirst values → (read word : List Sym) → Goes rules moves finals values 0 read word ↔ NetRelatesBy direction net read word
  goes_related values first read word = (
    λ (path, run, reads, comes).
        let run' : IsRun moves way.over.finals 0 path = subst (λ fs. IsRun moves fs 0 path) (sym way.ends) run in
        let related : IsRelatedBy direction way.over read (writes_of path) = (runs_related direction way.over moves way.are read (writes_of path)).0 (path, run', reads, refl) in
        (way.relates read word).1 (writes_of path, related, (first (writes_of path) word).0 comes),
    λ r.
        let (written, related, comes) = (way.relates read word).0 r in
        let (path, run, reads, writes) = (runs_related direction way.over moves way.are read written).1 related in
        (path, subst (λ fs. IsRun moves fs 0 path) way.ends run, reads, subst (λ v. ComesFrom rules values v word) (sym writes) ((first written word).1 comes)),
  )

  pub all_found : (alphabet : List (Sym × List ℕ)) (values : Features) → AreFirst values → (word : List Sym) (old new : Trail) → old.written.items ≡ [] → old.found.items ≡ [] → Adds alphabet (Goes rules moves finals values 0 word) old new
      → (texts : List (List ℕ)) → ((t : List ℕ) → Contains texts t ↔ Contains new.found.items t) → IsInOrder texts → length texts ≤ most_answers → AreAll (TextsBy direction net alphabet word) texts
  all_found alphabet values first word old new empty none adds texts same ordered few = record {
    few = few;
    all = λ t. (
      λ (spelling, (written, related, is), joined_is).
          let here : Contains new.found.items (joined (spelled alphabet (old.written.items ++ written))) = adds.all written ((goes_related values first word written).1 related) in
          let text_is : joined (spelled alphabet (old.written.items ++ written)) ≡ t = ap (λ v. joined (spelled alphabet (v ++ written))) empty ∙ ap joined (sym is) ∙ sym joined_is in
          (same t).1 (subst (λ u. Contains new.found.items u) text_is here),
      λ h. elim (adds.only t ((same t).0 h)) [
        | inl was ↦ absurd (Contains-nil_cases t (subst (λ us. Contains us t) none was))
        | inr r ↦ inr_case t r
      ],
    );
    in_order = ordered;
  }
    where
      inr_case : (t : List ℕ) → ((w : List Sym) × Goes rules moves finals values 0 word w × (t ≡ joined (spelled alphabet (old.written.items ++ w)))) → TextsBy direction net alphabet word t
      inr_case t (w, goes, is) = (spelled alphabet w, (w, (goes_related values first word w).0 goes, refl), is ∙ ap (λ v. joined (spelled alphabet (v ++ w))) empty)
