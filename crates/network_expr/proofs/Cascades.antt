-- Composition of relations is associative, so that rows of compositions are what they are from left to right.
use Rattle.std.proofs.Common.{◌≡◌, ◌↔◌, ◌++◌, List, None, Some, refl, sym, ap, subst, ◌∙◌}
use Rattle.fsm_base.specs.declared.letters.Bound.{Bound}
use Rattle.fsm_base.specs.declared.letters.Sym.{Sym}
use Rattle.word_relations.specs.Relations.{AreSame, IsComposition}
use Rattle.word_relations.proofs.Pairs.{same_trans, same_back}
use Rattle.fsa.specs.Automaton.{Automaton}
use Rattle.fsa.specs.Language.{Accepts}
use Rattle.regex_ast.specs.declared.expr.Atom.{Atom}
use Rattle.regex_ast.specs.declared.expr.Step.{Step}
use Rattle.regex_ast.specs.Terms.{Term, no_step, cross_with, then, steps_by}
use Rattle.expr_kinds.specs.Kinds.{both, kind_of, kind_of_steps, StepsFit}
use Rattle.expr_kinds.specs.declared.form.Kind.{Kind}
use Rattle.expr_kinds.specs.declared.form.Kind.TheVariants.{Language, Relation}
use Rattle.expr_meaning.specs.Meaning.{In, InSteps, Relates, RelatesSteps}
use Rattle.expr_meaning.specs.Operators.{inner}
use Rattle.expr_meaning.proofs.Languages.{both_languages}
use Rattle.network_algebra.specs.Networks.{IsFor, PairsOf, WordsOf, kind_of_network}
use Rattle.network_algebra.specs.declared.network.Network.{Network}
use Rattle.network_algebra.specs.declared.network.Network.TheVariants.{Words}
use Rattle.network_sets.proofs.Alike.{SameWords, composition_same}
use Rattle.network_sets.proofs.Suffixed.{for_same}
use Rattle.network_expr.specs.Built.{IsMeant}
use Rattle.network_expr.specs.Cascades.{IsCascadeFor, PairsOfCascade, WordsOfCascade, kind_of_cascade}
use Rattle.network_expr.specs.Parts.{kinds, stands}
use Rattle.network_expr.specs.declared.cascade.Cascade.{Cascade}
use Rattle.network_expr.specs.declared.parts.Part.{Part}
use Rattle.network_expr.proofs.Rows.{both_three, steps_words, steps_language, steps_pairs, steps_words_split, steps_pairs_split, steps_kind}

-- composition is associative
pub composition_associates : {L : Type 0} (R S T : List L → List L → Type 0) → AreSame (IsComposition (IsComposition R S) T) (IsComposition R (IsComposition S T))
composition_associates R S T u w = (λ (v, (x, r, s), t). (x, r, (v, s, t)), λ (x, r, (v, s, t)). (v, (x, r, s), t))

-- the operand is composed with the tail
pub tail_grows : (head tail operand r : Network) → IsFor (both (kind_of_network tail) (kind_of_network operand)) (λ w. WordsOf tail w × WordsOf operand w) (IsComposition (PairsOf tail) (PairsOf operand)) r
    → IsCascadeFor (both (both (kind_of_network head) (kind_of_network tail)) (kind_of_network operand)) (λ w. (WordsOf head w × WordsOf tail w) × WordsOf operand w) (IsComposition (IsComposition (PairsOf head) (PairsOf tail)) (PairsOf operand)) (record { head = head; tail = Some r })
tail_grows head tail operand r h =
    let A = kind_of_network head in
    let B = kind_of_network tail in
    let C = kind_of_network operand in
    let R = PairsOf head in
    let S = PairsOf tail in
    let T = PairsOf operand in
    record {
      kind_is = ap (both A) h.kind_is ∙ sym (both_three A B C);
      words = λ language w. let two = both_languages A (both B C) (sym (both_three A B C) ∙ language) in let same = h.words two.1 w in (λ x. let y = same.0 x.1 in ((x.0, y.0), y.1), λ x. (x.0.0, same.1 (x.0.1, x.1)));
      pairs = same_trans (IsComposition R (PairsOf r)) (IsComposition R (IsComposition S T)) (IsComposition (IsComposition R S) T) (composition_same R R (PairsOf r) (IsComposition S T) (λ u w. (λ x. x, λ x. x)) h.pairs)
          (same_back (IsComposition (IsComposition R S) T) (IsComposition R (IsComposition S T)) (composition_associates R S T));
    }

-- the tail is composed with the head
pub head_grows : (head tail operand r : Network) → IsFor (both (kind_of_network head) (kind_of_network tail)) (λ w. WordsOf head w × WordsOf tail w) (IsComposition (PairsOf head) (PairsOf tail)) r
    → IsCascadeFor (both (both (kind_of_network head) (kind_of_network tail)) (kind_of_network operand)) (λ w. (WordsOf head w × WordsOf tail w) × WordsOf operand w) (IsComposition (IsComposition (PairsOf head) (PairsOf tail)) (PairsOf operand)) (record { head = r; tail = Some operand })
head_grows head tail operand r h =
    let A = kind_of_network head in
    let B = kind_of_network tail in
    let C = kind_of_network operand in
    record {
      kind_is = ap (λ k. both k C) h.kind_is;
      words = λ language w. let two = both_languages (both A B) C language in let same = h.words two.0 w in (λ x. (same.0 x.0, x.1), λ x. (same.1 x.0, x.1));
      pairs = composition_same (PairsOf r) (IsComposition (PairsOf head) (PairsOf tail)) (PairsOf operand) (PairsOf operand) h.pairs (λ u w. (λ x. x, λ x. x));
    }

-- the same of another set and relation
cascade_same : (k j : Kind) (P Q : List (Bound Sym) → Type 0) (R S : List Sym → List Sym → Type 0) (c : Cascade) → k ≡ j → (j ≡ Language → SameWords P Q) → AreSame R S → IsCascadeFor k P R c → IsCascadeFor j Q S c
cascade_same k j P Q R S c is f g h = record {
  kind_is = h.kind_is ∙ is;
  words = λ language w. let old = h.words (is ∙ language) w in let new = f language w in (λ x. new.0 (old.0 x), λ y. old.1 (new.1 y));
  pairs = same_trans (PairsOfCascade c) R S h.pairs g;
}

pub cascade_itself : (c : Cascade) → IsCascadeFor (kind_of_cascade c) (WordsOfCascade c) (PairsOfCascade c) c
cascade_itself c = record { kind_is = refl; words = λ language w. (λ h. h, λ h. h); pairs = λ u w. (λ h. h, λ h. h) }

-- a network alone
pub network_alone : (kind : Kind) (P : List (Bound Sym) → Type 0) (R : List Sym → List Sym → Type 0) (n : Network) → IsFor kind P R n → IsCascadeFor kind P R (record { head = n; tail = None })
network_alone kind P R n h = record { kind_is = h.kind_is; words = h.words; pairs = h.pairs }

-- the network of a row
pub joined_for : (kind : Kind) (P : List (Bound Sym) → Type 0) (R : List Sym → List Sym → Type 0) (c : Cascade) (n : Network) → IsCascadeFor kind P R c → IsFor (kind_of_cascade c) (WordsOfCascade c) (PairsOfCascade c) n → IsFor kind P R n
joined_for kind P R c n f h = for_same (kind_of_cascade c) kind (WordsOfCascade c) P (PairsOfCascade c) R n f.kind_is f.words f.pairs h

module _ (parts : List Part) (alphabet : List Sym) where
  -- the row is that of a row before it and steps
  abbrev pub IsCascaded : Kind → (List (Bound Sym) → Type 0) → (List Sym → List Sym → Type 0) → List (Step Atom) → Cascade → Type 0
  IsCascaded kind P R more c = IsCascadeFor (kind_of_steps (kinds parts) kind (steps_by more)) (InSteps (stands parts) alphabet P (steps_by more)) (RelatesSteps (stands parts) alphabet P R (steps_by more)) c

  pub cascade_more : (kind : Kind) (P : List (Bound Sym) → Type 0) (R : List Sym → List Sym → Type 0) (c d : Cascade) (xs ys whole : List (Step Atom)) → xs ++ ys ≡ whole → StepsFit (kinds parts) (kind_of_steps (kinds parts) kind (steps_by xs)) (steps_by ys)
      → IsCascaded kind P R xs c → IsCascaded (kind_of_cascade c) (WordsOfCascade c) (PairsOfCascade c) ys d → IsCascaded kind P R whole d
  cascade_more kind P R c d xs ys whole is fits f g =
      let more = steps_by ys in
      let K = kind_of_steps (kinds parts) kind (steps_by xs) in
      let Q = InSteps (stands parts) alphabet P (steps_by xs) in
      let S = RelatesSteps (stands parts) alphabet P R (steps_by xs) in
      let here : IsCascaded K Q S ys d =
      cascade_same (kind_of_steps (kinds parts) (kind_of_cascade c) more) (kind_of_steps (kinds parts) K more) (InSteps (stands parts) alphabet (WordsOfCascade c) more) (InSteps (stands parts) alphabet Q more)
      (RelatesSteps (stands parts) alphabet (WordsOfCascade c) (PairsOfCascade c) more) (RelatesSteps (stands parts) alphabet Q S more) d (ap (λ k. kind_of_steps (kinds parts) k more) f.kind_is)
      (λ language. steps_words parts alphabet more (WordsOfCascade c) Q (f.words (steps_language parts alphabet more K language))) (steps_pairs parts alphabet more (WordsOfCascade c) Q (PairsOfCascade c) S K fits f.words f.pairs) g in
      subst (λ (z : List (Step Atom)). IsCascaded kind P R z d) is
      (cascade_same (kind_of_steps (kinds parts) K more) (kind_of_steps (kinds parts) kind (steps_by (xs ++ ys))) (InSteps (stands parts) alphabet Q more) (InSteps (stands parts) alphabet P (steps_by (xs ++ ys)))
      (RelatesSteps (stands parts) alphabet Q S more) (RelatesSteps (stands parts) alphabet P R (steps_by (xs ++ ys))) d (sym (steps_kind parts xs ys kind)) (λ language w. let s = steps_words_split parts alphabet xs ys P w in (s.1, s.0))
      (same_back (RelatesSteps (stands parts) alphabet P R (steps_by (xs ++ ys))) (RelatesSteps (stands parts) alphabet Q S more) (steps_pairs_split parts alphabet xs ys P R)) here)

  -- one more operand of `.o.`
  pub then_cascaded : (c d : Cascade) (b : Network) (e : Term Atom) → IsMeant parts alphabet e b → IsCascadeFor (both (kind_of_cascade c) (kind_of_network b)) (λ w. WordsOfCascade c w × WordsOf b w) (IsComposition (PairsOfCascade c) (PairsOf b)) d
      → IsCascadeFor (kind_of_steps (kinds parts) (kind_of_cascade c) (then e no_step)) (InSteps (stands parts) alphabet (WordsOfCascade c) (then e no_step)) (RelatesSteps (stands parts) alphabet (WordsOfCascade c) (PairsOfCascade c) (then e no_step)) d
  then_cascaded c d b e f h =
      let K = kind_of_cascade c in
      let J = kind_of (kinds parts) e in
      cascade_same (both K (kind_of_network b)) (both K J) (λ w. WordsOfCascade c w × WordsOf b w) (λ w. WordsOfCascade c w × In (stands parts) alphabet e w)
      (IsComposition (PairsOfCascade c) (PairsOf b)) (IsComposition (PairsOfCascade c) (Relates (stands parts) alphabet e)) d (ap (both K) f.kind_is)
      (λ language w. let same = f.words (both_languages K J language).1 w in (λ x. (x.0, same.0 x.1), λ x. (x.0, same.1 x.1)))
      (composition_same (PairsOfCascade c) (PairsOfCascade c) (PairsOf b) (Relates (stands parts) alphabet e) (λ u w. (λ x. x, λ x. x)) f.pairs) h

  -- one more operand of `.x.`, behind a language
  pub crossed_cascaded : (c : Cascade) (n r : Network) (x y : Automaton (Bound Sym)) (e : Term Atom) → kind_of_cascade c ≡ Language → IsFor (kind_of_cascade c) (WordsOfCascade c) (PairsOfCascade c) n → n ≡ Words x → ((w : List (Bound Sym)) → Accepts y w ↔ In (stands parts) alphabet e w)
      → IsFor Relation (λ w. Accepts x w × Accepts y w) (λ u w. Accepts x (inner u) × Accepts y (inner w)) r
      → IsCascadeFor (kind_of_steps (kinds parts) (kind_of_cascade c) (cross_with e no_step)) (InSteps (stands parts) alphabet (WordsOfCascade c) (cross_with e no_step)) (RelatesSteps (stands parts) alphabet (WordsOfCascade c) (PairsOfCascade c) (cross_with e no_step))
      (record { head = r; tail = None })
  crossed_cascaded c n r x y e language joined is second h =
      let first : SameWords (Accepts x) (WordsOfCascade c) = subst (λ (z : Network). SameWords (WordsOf z) (WordsOfCascade c)) is (joined.words language) in
      network_alone Relation (λ v. WordsOfCascade c v × In (stands parts) alphabet e v) (λ u w. WordsOfCascade c (inner u) × In (stands parts) alphabet e (inner w)) r
      (for_same Relation Relation (λ w. Accepts x w × Accepts y w) (λ v. WordsOfCascade c v × In (stands parts) alphabet e v) (λ u w. Accepts x (inner u) × Accepts y (inner w)) (λ u w. WordsOfCascade c (inner u) × In (stands parts) alphabet e (inner w)) r refl
      (λ none w. (λ h. ((first w).0 h.0, (second w).0 h.1), λ h. ((first w).1 h.0, (second w).1 h.1)))
      (λ u w. (λ h. ((first (inner u)).0 h.0, (second (inner w)).0 h.1), λ h. ((first (inner u)).1 h.0, (second (inner w)).1 h.1))) h)
