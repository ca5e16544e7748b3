-- What is resolved of the tapes of a graph is what it writes where its conditions hold; and what that is in a way through a network.
use Rattle.std.proofs.Common.{◌≡◌, ℕ, ◌-◌, ◌↔◌, List, [], Bool, true, false, cond, Option, None, Some, map, refl, subst, sym, ap, ◌∙◌}
use Rattle.std.specs.Prelude.{slice_get}
use Rattle.word_relations.specs.Relations.{AreSame, IsUpper}
use Rattle.fsm_base.specs.declared.letters.Sym.{Sym}
use Rattle.fsm_base.specs.declared.letters.Pair.{Pair}
use Rattle.fsa.specs.Automaton.{Automaton, UsesLetter}
use Rattle.fsa.specs.Language.{Accepts}
use Rattle.fsa.specs.declared.automaton.Edge.{Edge}
use Rattle.regex_ast.specs.declared.lexc.FlagOp.{FlagOp}
use Rattle.flag_diacritics.specs.Tapes.{FlagsPass, TapesRelate, UsesPair, pairs_of}
use Rattle.flag_diacritics.specs.declared.tape.Tape.{Tape}
use Rattle.flag_diacritics.specs.declared.tape.Tape.TheVariants.{Pair as OfPair}
use Rattle.flag_runs.specs.Runs.{RulesView, flag_at, flag_on, flags_in, tape_of}
use Rattle.flag_runs.proofs.Holding.{lowers_of, passes_hold, uppers_of}
use Rattle.fst_algebra.specs.Relation.{IsRelated, uppers}
use Rattle.fst_algebra.specs.Relations.{UsesUpper}
use Rattle.fst_flagged.specs.Conditions.{first, is_letter}
use Rattle.fst_flagged.specs.declared.condition.Condition.{Condition}
use Rattle.fst_flagged.specs.declared.condition.Run.{Run}
use Rattle.fst_flagged.specs.declared.condition.Run.TheVariants.{Upper, Lower}
use Rattle.lookup_answers.specs.declared.direction.Direction.{Direction}
use Rattle.lookup_walk.specs.Answering.{IsOverAlphabet}
use Rattle.lookup_walk.specs.Moves.{AreMoves, IsRelatedBy, IsWritten}
use Rattle.lookup_walk.specs.Nets.{NetView, NetRelatesBy}
use Rattle.lookup_walk.specs.Ways.{IsWay}
use Rattle.lookup_walk.specs.declared.moves.Move.{Move}
use Rattle.lookup.specs.Graph.{Writes}
use Rattle.lookup.specs.GraphTexts.{AreOf}
use Rattle.lookup.specs.Obeyed.{HasLetter, WritesObeyed}

module _ (pair : Pair) where
  no_flag_on : (run : Run) (n : ℕ) → flag_on run n ≡ OfPair pair → ⊥
  no_flag_on Upper n e = cc
  no_flag_on Lower n e = cc

  no_flag : (o : Option Condition) (n : ℕ) → flag_at o n ≡ OfPair pair → ⊥
  no_flag None n e = cc
  no_flag (Some c) n e = no_flag_on c.run n e

  -- a tape that is a pair is that of a symbol
  pub tape_pair : (conditions : List Condition) (s : Sym) → tape_of conditions s ≡ OfPair pair → (is_letter s ≡ true) × (pair.up ≡ Some s)
  tape_pair conditions s = by (is_letter s) refl
    where
      by : (b : Bool) → is_letter s ≡ b → cond b (OfPair (record { up = Some s; low = None })) (flag_at (slice_get conditions (s.0 - first)) (s.0 - first)) ≡ OfPair pair → (is_letter s ≡ true) × (pair.up ≡ Some s)
      by true is e = let same : record { up = Some s; low = None } ≡ pair = cc in (is, sym (ap (λ (p : Pair). p.up) same))
      by false is e = absurd (no_flag (slice_get conditions (s.0 - first)) (s.0 - first) e)

module _ (conditions : List Condition) (edges : List (Edge Sym)) (tapes : Automaton Tape) (resolved : Automaton Pair) (words : Automaton Sym) where
  pub obeyed_words : (flags : List FlagOp) → flags ≡ flags_in conditions → ((tape : List Tape) → Accepts tapes tape ↔ ((x : List Sym) × Writes edges x × (tape ≡ map (tape_of conditions) x)))
      → AreSame (IsRelated resolved) (TapesRelate tapes flags) → ((w : List Sym) → Accepts words w ↔ IsUpper (IsRelated resolved) w) → (w : List Sym) → Accepts words w ↔ WritesObeyed conditions edges w
  obeyed_words flags flags_are language relation upper w = (
    λ accepted.
        let (l, related) = (upper w).0 accepted in
        let (tape, taken, passes, up, low) = (relation w l).0 related in
        let (x, writes, tape_is) = (language tape).0 taken in
        let here : FlagsPass (flags_in conditions) (map (tape_of conditions) x) = subst (λ fs. FlagsPass fs (map (tape_of conditions) x)) flags_are (subst (λ t. FlagsPass flags t) tape_is passes) in
        (x, writes, (passes_hold conditions x).0 here, sym (uppers_of conditions x) ∙ ap (λ t. uppers (pairs_of t)) (sym tape_is) ∙ up),
    λ (x, writes, hold, is).
        let tape : List Tape = map (tape_of conditions) x in
        (upper w).1 ([], (relation w []).1 (tape, (language tape).1 (x, writes, refl), subst (λ fs. FlagsPass fs tape) (sym flags_are) ((passes_hold conditions x).1 hold), uppers_of conditions x ∙ is, lowers_of conditions x)),
  )

  pub obeyed_letters : ((t : Tape) → UsesLetter tapes t → (s : Sym) × HasLetter edges s × (tape_of conditions s ≡ t)) → ((pair : Pair) → UsesLetter resolved pair → UsesPair tapes pair) → ((s : Sym) → UsesLetter words s → UsesUpper resolved s)
      → (s : Sym) → UsesLetter words s → HasLetter edges s × (is_letter s ≡ true)
  obeyed_letters letters pairs upper s used =
      let (pair, there, at) = upper s used in
      let (x, has, is) = letters (OfPair pair) (pairs pair there) in
      let r = tape_pair pair conditions x is in
      let same : x ≡ s = cc (r.1, at) in
      subst (λ y. HasLetter edges y × (is_letter y ≡ true)) same (has, r.0)

module _ (direction : Direction) (net : NetView) (moves : List Move) (finals : List Bool) (word : List Sym) (edges : List (Edge Sym))
    (writes : (m : Automaton Pair) (written : List Sym) → AreMoves direction m.edges moves → m.finals ≡ finals → Writes edges written ↔ IsRelatedBy direction m word written)
    (symbols : (m : Automaton Pair) (s : Sym) → AreMoves direction m.edges moves → HasLetter edges s → IsWritten direction m s) where
  pub plain_words : IsWay direction net moves finals None → (w : List Sym) → Writes edges w ↔ NetRelatesBy direction net word w
  plain_words way w = (
    λ here. (way.relates word w).1 (w, (writes way.over w way.are way.ends).0 here, refl),
    λ r.
        let (x, related, is) = (way.relates word w).0 r in
        (writes way.over w way.are way.ends).1 (subst (λ v. IsRelatedBy direction way.over word v) is related),
  )

  module _ (rules : RulesView) (way : IsWay direction net moves finals (Some rules)) (kept : List (Edge Sym)) where
    pub flagged_words : ((w : List Sym) → Writes kept w ↔ WritesObeyed rules.conditions edges w) → (w : List Sym) → Writes kept w ↔ NetRelatesBy direction net word w
    flagged_words obeyed w = (
      λ here.
          let (x, written, hold, is) = (obeyed w).0 here in
          (way.relates word w).1 (x, (writes way.over x way.are way.ends).0 written, (hold, is)),
      λ r.
          let (x, related, (hold, is)) = (way.relates word w).0 r in
          (obeyed w).1 (x, (writes way.over x way.are way.ends).1 related, hold, is),
    )

    pub flagged_symbols : ((s : Sym) → HasLetter kept s → HasLetter edges s × (is_letter s ≡ true)) → (alphabet : List (Sym × List ℕ)) → IsOverAlphabet alphabet net → AreOf alphabet kept
    flagged_symbols letters alphabet over e s held at =
        let r = letters s (e, held, at) in
        way.symbols alphabet s over (symbols way.over s way.are r.0) r.1
