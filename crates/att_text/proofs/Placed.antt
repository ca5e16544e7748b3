-- A network, as it is written state by state.
use Rattle.std.proofs.Common.{◌≡◌, ◌↔◌, ◌⊎◌, ◌+◌, ◌<◌, ◌≤◌, ◌^◌, ◌==◌, ℕ, zero, suc, Bool, true, false, cond, eq-eqb, List, [], ◌∷◌, ◌++◌, length, Option, Some, None, IsPermutation, refl, sym, subst, ap, ◌∙◌, inl, inr, arith}
use Rattle.std.specs.List.{All, Contains, slice_get}
use Rattle.std.specs.Option.{option_map}
use Rattle.std.proofs.lemmas.Grind.{flat_map-append}
use Rattle.std.proofs.lemmas.Bool.{cases_eq, false≢true}
use Rattle.std.proofs.lemmas.List.{append_assoc, append-nil}
use Rattle.std.proofs.lemmas.List.Elements.{All-head, All-tail, Contains-append_left, Contains-append_right, Contains-append_cases, Contains-push, Contains-push_cases}
use Rattle.std.proofs.lemmas.List.Sorted.{Contains-permutation, IsPermutation-sym}
use Rattle.std.proofs.lemmas.Option.{slice_get_within}
use Rattle.word_relations.specs.Words.{IsDistinct}
use Rattle.word_relations.proofs.Members.{Contains-nil_cases, Contains-cons_cases, Contains-head}
use Rattle.word_relations.proofs.Places.{Contains-from_slice_get, slice_get_from_Contains, slice_get-append_left, same_at}
use Rattle.fsm_base.specs.Alphabet.{symbols_of, text_of, texts_of}
use Rattle.fsm_base.specs.declared.letters.Sym.{Sym}
use Rattle.fsm_base.specs.declared.letters.Pair.{Pair}
use Rattle.fsa.specs.declared.automaton.Edge.{Edge}
use Rattle.fsa.specs.Automaton.{Automaton, IsFinal}
use Rattle.att_text.specs.Drawing.{Extends, Keeps}
use Rattle.att_text.specs.Lines.{Saying, arc, final, said_in, state_in}
use Rattle.att_text.specs.Paths.{Leads, Relates, RelatesTexts}
use Rattle.att_text.specs.Sides.{HasSide, upper_side, lower_side}
use Rattle.att_text.specs.Writing.{BeginsWith, HasTextOf, IsAttText, UsesOnly, IsField, fields_saying, text_saying}
use Rattle.att_text.specs.Written.{AddsArcs, IsEdgeOf, IsSaidOf, IsSayable, IsWriting, MayBeField, MayBeOf, edge_said}
use Rattle.att_text.proofs.Drawn.{Keeps-extended}
use Rattle.att_text.proofs.Sayable.{is_text, said_written}
use Rattle.att_text.proofs.Simulation.{Simulates, relates_same}

-- the line of one more saying
pub text_more : (text new : List ℕ) (old : List ℕ) (said : List Saying) (s : Saying) → text ≡ old ++ text_saying said → new ≡ text ++ (fields_saying s ++ 10 ∷ []) → new ≡ old ++ text_saying (said ++ s ∷ [])
text_more text new old said s is more =
    more ∙ ap (λ t. t ++ (fields_saying s ++ 10 ∷ [])) is ∙ append_assoc old (text_saying said) (fields_saying s ++ 10 ∷ [])
    ∙ ap (λ t. old ++ t) (ap (λ t. text_saying said ++ t) (sym (append-nil (fields_saying s ++ 10 ∷ []))) ∙ sym (flat_map-append (λ x. fields_saying x ++ 10 ∷ []) said (s ∷ [])))

-- an alphabet's text may be a field
text_field : (alphabet : List (Sym × List ℕ)) (symbol : Sym) → All IsField (texts_of alphabet) → Contains (symbols_of alphabet) symbol → IsField (text_of alphabet symbol)
text_field [] symbol fields held = absurd (Contains-nil_cases symbol held)
text_field (entry ∷ alphabet) symbol fields held = by (symbol.0 == entry.0.0) refl (Contains-cons_cases entry.0 (symbols_of alphabet) symbol held) (λ later. text_field alphabet symbol (All-tail IsField entry.1 (texts_of alphabet) fields) later)
  where
    by : (b : Bool) → (symbol.0 == entry.0.0) ≡ b → (entry.0 ≡ symbol) ⊎ Contains (symbols_of alphabet) symbol → (Contains (symbols_of alphabet) symbol → IsField (text_of alphabet symbol)) → IsField (cond (symbol.0 == entry.0.0) entry.1 (text_of alphabet symbol))
    by true is held rest = subst (λ b. IsField (cond b entry.1 (text_of alphabet symbol))) (sym is) (All-head IsField entry.1 (texts_of alphabet) fields)
    by false is (inl same) rest = absurd (false≢true (sym is ∙ eq-eqb symbol.0 entry.0.0 (ap (λ (x : Sym). x.0) (sym same))))
    by false is (inr later) rest = subst (λ b. IsField (cond b entry.1 (text_of alphabet symbol))) (sym is) (rest later)

side_may : (alphabet : List (Sym × List ℕ)) (side : Option Sym) → All IsField (texts_of alphabet) → MayBeOf alphabet side → MayBeField (option_map (text_of alphabet) side)
side_may alphabet None fields of = tt
side_may alphabet (Some symbol) fields of = text_field alphabet symbol fields of

module _ (alphabet : List (Sym × List ℕ)) (place : ℕ) (edges : List (Edge Pair)) (text : List ℕ) (old : List ℕ) where
  pub arcs_none : IsDistinct old → AddsArcs alphabet place edges 0 text text old old
  arcs_none once = record {
    said = [];
    text = sym (append-nil text);
    grows = ([], sym (append-nil old));
    once = once;
    sayable = λ s h. absurd (Contains-nil_cases s h);
    arcs = λ k e below at. absurd (omega arith);
    only = λ s h. absurd (Contains-nil_cases s h);
    none = λ e. refl;
  }

  pub arcs_more : (count : ℕ) (now next : List ℕ) (states new : List ℕ) (e : Edge Pair) (to : ℕ) → All IsField (texts_of alphabet) → IsEdgeOf alphabet e → place < 2 ^ 64 → to < 2 ^ 64
      → slice_get edges count ≡ Some e → slice_get new to ≡ Some e.to → (new ≡ states) ⊎ (new ≡ states ++ e.to ∷ []) → IsDistinct new
      → next ≡ now ++ (fields_saying (edge_said alphabet place to e) ++ 10 ∷ [])
      → AddsArcs alphabet place edges count text now old states → AddsArcs alphabet place edges (count + 1) text next old new
  arcs_more count now next states new e to fields of small small_to at is kept once more d = record {
    said = d.said ++ edge_said alphabet place to e ∷ [];
    text = text_more now next text d.said (edge_said alphabet place to e) d.text more;
    grows = grown;
    once = once;
    sayable = λ s h. elim (Contains-push_cases d.said (edge_said alphabet place to e) s h) [
      | inl before ↦ d.sayable s before
      | inr last ↦ subst IsSayable last (small, small_to, side_may alphabet (upper_side e.letter) fields of.0, side_may alphabet (lower_side e.letter) fields of.1)
    ];
    arcs = λ k f below g. elim (cases_eq k count) [
      | inl same ↦
          let equal : e ≡ f = same_at edges count e f at (subst (λ i. slice_get edges i ≡ Some f) same g) in
          (to, is ∙ ap (λ (x : Edge Pair). Some x.to) equal, subst (λ x. Contains (d.said ++ edge_said alphabet place to e ∷ []) (edge_said alphabet place to x)) equal (Contains-push d.said (edge_said alphabet place to e)))
      | inr other ↦
          let before = d.arcs k f (omega arith) g in
          (before.0, keeps before.0 f.to before.1, Contains-append_left d.said (edge_said alphabet place to e ∷ []) (edge_said alphabet place before.0 f) before.2)
    ];
    only = λ s h. elim (Contains-push_cases d.said (edge_said alphabet place to e) s h) [
      | inl before ↦ let k = d.only s before in (k.0, k.1, k.2, k.3, keeps k.2 k.1.to k.4, k.5)
      | inr last ↦ (count, e, to, at, is, sym last)
    ];
    none = λ none. absurd (some_said d.said (edge_said alphabet place to e) none);
  }
    where
      onto : (new ≡ states) ⊎ (new ≡ states ++ e.to ∷ []) → Extends states new
      onto (inl same) = ([], same ∙ sym (append-nil states))
      onto (inr grown) = (e.to ∷ [], grown)

      keeps : Keeps states new
      keeps = Keeps-extended states new (onto kept)

      grown : Extends old new
      grown = ((d.grows.0 ++ (onto kept).0), (onto kept).1 ∙ ap (λ ss. ss ++ (onto kept).0) d.grows.1 ∙ append_assoc old d.grows.0 (onto kept).0)

      some_said : (xs : List Saying) (x : Saying) → xs ++ x ∷ [] ≡ [] → ⊥
      some_said [] x e = cc
      some_said (y ∷ xs) x e = cc

module _ (alphabet : List (Sym × List ℕ)) (net : Automaton Pair) where
  pub writing_none : (states : List ℕ) → states ≡ 0 ∷ [] → IsWriting alphabet net states 0 []
  writing_none states is = record {
    said = [];
    text_is = refl;
    start = ap (λ ss. slice_get ss 0) is;
    once = subst (λ (ss : List ℕ). IsDistinct {L = ℕ} ss) (sym is) alone_once;
    sayable = λ s h. absurd (Contains-nil_cases s h);
    arcs = λ e place held below at. absurd (omega arith);
    finals = λ state place below at ends. absurd (omega arith);
    only = λ s h. absurd (Contains-nil_cases s h);
    begins = tt;
    alone = λ e. is;
  }
    where
      within : (i x : ℕ) → slice_get (0 ∷ []) i ≡ Some x → i ≡ 0
      within zero x e = refl
      within (suc i) x e = cc

      alone_once : IsDistinct {L = ℕ} (0 ∷ [])
      alone_once i j x a b = within i x a ∙ sym (within j x b)

  -- what is said of states that were written stays so
  said_kept : (states new : List ℕ) (count : ℕ) → Keeps states new → (s : Saying) → IsSaidOf alphabet net states count s → IsSaidOf alphabet net new (count + 1) s
  said_kept states new count keeps (arc from to upper lower) (below, k) = (omega arith, (k.0, k.1, keeps from k.0.from k.2, keeps to k.0.to k.3, k.4, k.5))
  said_kept states new count keeps (final place) (below, k) = (omega arith, (k.0, keeps place k.0 k.1, k.2))

  -- the line that a state is final, where it is
  abbrev pub IsEnd : ℕ → ℕ → List Saying → Type 0
  IsEnd state place tail = (IsFinal net state × (tail ≡ final place ∷ [])) ⊎ ((IsFinal net state → ⊥) × (tail ≡ []))

  module _ (states new : List ℕ) (place state : ℕ) (text next last : List ℕ) (rows row : List (Edge Pair)) (tail : List Saying)
      (w : IsWriting alphabet net states place text) (below : place < length states) (at : slice_get states place ≡ Some state) (same : IsPermutation net.edges rows)
      (left : (e : Edge Pair) → Contains row e ↔ (Contains rows e × (e.from ≡ state))) (d : AddsArcs alphabet place row (length row) text next states new)
      (small : place < 2 ^ 64) (end : IsEnd state place tail) (ended : last ≡ next ++ text_saying tail) where
    keeps : Keeps states new
    keeps = Keeps-extended states new d.grows

    before : (k x : ℕ) → k < length states → slice_get new k ≡ Some x → slice_get states k ≡ Some x
    before k x within e = sym (slice_get-append_left states d.grows.0 k within) ∙ subst (λ (ss : List ℕ). slice_get ss k ≡ Some x) d.grows.1 e

    in_tail : (s : Saying) → Contains tail s → IsFinal net state × (final place ≡ s)
    in_tail s h = elim end [
      | inl there ↦ (there.0, only_one (subst (λ (xs : List Saying). Contains xs s) there.1 h))
      | inr never ↦ absurd (Contains-nil_cases s (subst (λ (xs : List Saying). Contains xs s) never.1 h))
    ]
      where
        only_one : Contains (final place ∷ []) s → final place ≡ s
        only_one h = elim (Contains-cons_cases (final place) [] s h) [ inl e ↦ e | inr none ↦ absurd (Contains-nil_cases s none) ]

    in_new : (s : Saying) → Contains (w.said ++ (d.said ++ tail)) s → Contains w.said s ⊎ (Contains d.said s ⊎ Contains tail s)
    in_new s h = elim (Contains-append_cases w.said (d.said ++ tail) s h) [
      | inl old ↦ inl old
      | inr more ↦ inr (Contains-append_cases d.said tail s more)
    ]

    from_row : (s : Saying) → Contains d.said s → IsSaidOf alphabet net new (place + 1) s
    from_row s h =
        let k = d.only s h in
        let held = (left k.1).0 (Contains-from_slice_get row k.0 k.1 k.3) in
        subst (IsSaidOf alphabet net new (place + 1)) (sym k.5)
        (omega arith, (k.1, Contains-permutation rows net.edges k.1 (IsPermutation-sym net.edges rows same) held.0, subst (λ (v : ℕ). slice_get new place ≡ Some v) (sym held.1) (keeps place state at), k.4, refl, refl))

    from_tail : (s : Saying) → Contains tail s → IsSaidOf alphabet net new (place + 1) s
    from_tail s h = let k = in_tail s h in subst (IsSaidOf alphabet net new (place + 1)) k.1 (omega arith, (state, keeps place state at, k.0))

    begins_row : (said : List Saying) → ((s : Saying) → Contains said s → state_in s ≡ place) → BeginsWith place (said ++ tail)
    begins_row [] f = elim end [
      | inl there ↦ subst (BeginsWith place) (sym there.1) refl
      | inr never ↦ subst (BeginsWith place) (sym never.1) tt
    ]
    begins_row (s ∷ more) f = f s (Contains-head s more)

    row_state : (s : Saying) → Contains d.said s → state_in s ≡ place
    row_state s h = let k = d.only s h in ap state_in k.5

    begins_new : (said : List Saying) → BeginsWith 0 said → (said ≡ [] → states ≡ 0 ∷ []) → BeginsWith 0 (said ++ (d.said ++ tail))
    begins_new [] b alone =
        let one : length states ≡ 1 = ap length (alone refl) in
        let zero_place : place ≡ 0 = omega arith in
        subst (λ p. BeginsWith p (d.said ++ tail)) zero_place (begins_row d.said row_state)
    begins_new (s ∷ more) b alone = b

    none_left : (xs ys : List Saying) → xs ++ ys ≡ [] → xs ≡ []
    none_left [] ys e = refl
    none_left (x ∷ xs) ys e = cc

    none_right : (xs ys : List Saying) → xs ++ ys ≡ [] → ys ≡ []
    none_right [] ys e = e
    none_right (x ∷ xs) ys e = cc

    joins : last ≡ text_saying (w.said ++ (d.said ++ tail))
    joins =
        ended ∙ ap (λ t. t ++ text_saying tail) (d.text ∙ ap (λ t. t ++ text_saying d.said) w.text_is) ∙ append_assoc (text_saying w.said) (text_saying d.said) (text_saying tail)
        ∙ ap (λ t. text_saying w.said ++ t) (sym (flat_map-append (λ s. fields_saying s ++ 10 ∷ []) d.said tail)) ∙ sym (flat_map-append (λ s. fields_saying s ++ 10 ∷ []) w.said (d.said ++ tail))

    pub writing_more : IsWriting alphabet net new (place + 1) last
    writing_more = record {
      said = w.said ++ (d.said ++ tail);
      text_is = joins;
      start = keeps 0 0 w.start;
      once = d.once;
      sayable = λ s h. elim (in_new s h) [
        | inl old ↦ w.sayable s old
        | inr (inl more) ↦ d.sayable s more
        | inr (inr ends) ↦ subst IsSayable (in_tail s ends).1 small
      ];
      arcs = λ e p held less is. elim (cases_eq p place) [
        | inl here ↦
            let equal : state ≡ e.from = same_at new place state e.from (keeps place state at) (subst (λ (v : ℕ). slice_get new v ≡ Some e.from) here is) in
            let inside = slice_get_from_Contains row e ((left e).1 (Contains-permutation net.edges rows e same held, sym equal)) in
            let k = d.arcs inside.0 e (slice_get_within row inside.0 e inside.1) inside.1 in (
              k.0,
              k.1,
              subst (λ (v : ℕ). Contains (w.said ++ (d.said ++ tail)) (edge_said alphabet v k.0 e)) (sym here)
                  (Contains-append_right w.said (d.said ++ tail) (edge_said alphabet place k.0 e) (Contains-append_left d.said tail (edge_said alphabet place k.0 e) k.2)),
            )
        | inr other ↦
            let k = w.arcs e p held (omega arith) (before p e.from (omega arith) is) in
            (k.0, keeps k.0 e.to k.1, Contains-append_left w.said (d.said ++ tail) (edge_said alphabet p k.0 e) k.2)
      ];
      finals = λ q p less is ends. elim (cases_eq p place) [
        | inl here ↦
            let equal : state ≡ q = same_at new place state q (keeps place state at) (subst (λ (v : ℕ). slice_get new v ≡ Some q) here is) in
            elim end [
              | inl there ↦ subst (λ (v : ℕ). Contains (w.said ++ (d.said ++ tail)) (final v)) (sym here)
                  (Contains-append_right w.said (d.said ++ tail) (final place) (Contains-append_right d.said tail (final place) (subst (λ (xs : List Saying). Contains xs (final place)) (sym there.1) (Contains-head (final place) []))))
              | inr never ↦ absurd (never.0 (subst (IsFinal net) (sym equal) ends))
            ]
        | inr other ↦ Contains-append_left w.said (d.said ++ tail) (final p) (w.finals q p (omega arith) (before p q (omega arith) is) ends)
      ];
      only = λ s h. elim (in_new s h) [
        | inl old ↦ said_kept states new place keeps s (w.only s old)
        | inr (inl more) ↦ from_row s more
        | inr (inr ends) ↦ from_tail s ends
      ];
      begins = begins_new w.said w.begins w.alone;
      alone = λ none. d.none (none_left d.said tail (none_right w.said (d.said ++ tail) none)) ∙ w.alone (none_left w.said (d.said ++ tail) none);
    }

  -- each state that was found is written
  module _ (states : List ℕ) (count : ℕ) (text : List ℕ) (w : IsWriting alphabet net states count text) (past : length states ≤ count) where
    side_has : (side : Option Sym) (text : Option (List ℕ)) → option_map (text_of alphabet) side ≡ text → HasSide (HasTextOf alphabet) side text
    side_has None None e = tt
    side_has None (Some t) e = cc
    side_has (Some s) None e = cc
    side_has (Some s) (Some t) e = let same : text_of alphabet s ≡ t = cc in same

    simulates : Simulates (HasTextOf alphabet) net w.said (λ s p. slice_get states p ≡ Some s)
    simulates = record {
      same = λ s t u a b. sym a ∙ b;
      edge = λ e p held at.
          let within = slice_get_within states p e.from at in
          let k = w.arcs e p held (omega arith) at in
          (k.0, option_map (text_of alphabet) (upper_side e.letter), option_map (text_of alphabet) (lower_side e.letter), k.1, side_has (upper_side e.letter) _ refl, side_has (lower_side e.letter) _ refl, k.2);
      line = λ s p q up low held at.
          let k = (w.only (arc p q up low) held).1 in
          (k.0, k.1, same_at states p k.0.from s k.2 at, k.3, side_has (upper_side k.0.letter) up k.4, side_has (lower_side k.0.letter) low k.5);
      stops = λ s p at ends. let within = slice_get_within states p s at in w.finals s p (omega arith) at ends;
      final_line = λ s p at held. let k = (w.only (final p) held).1 in subst (IsFinal net) (same_at states p k.0 s k.1 at) k.2;
    }

    pub written_relates : (upper lower : List (List ℕ)) → Relates text upper lower ↔ RelatesTexts (HasTextOf alphabet) net upper lower
    written_relates upper lower =
        let k = relates_same (HasTextOf alphabet) net w.said (λ s p. slice_get states p ≡ Some s) simulates w.start upper lower in
        let same : said_in text ≡ w.said = ap said_in w.text_is ∙ said_written w.said w.sayable in
        (λ r. k.1 (subst (λ (said : List Saying). Leads said 0 upper lower) same r), λ r. subst (λ (said : List Saying). Leads said 0 upper lower) (sym same) (k.0 r))

    pub written_begins : BeginsWith 0 (said_in text)
    written_begins = subst (BeginsWith 0) (sym (ap said_in w.text_is ∙ said_written w.said w.sayable)) w.begins

    pub written_text : IsAttText text
    written_text = subst IsAttText (sym w.text_is) (is_text w.said w.sayable)

-- the first state that is placed
pub first_place : (old new : List ℕ) (place : ℕ) → old ≡ [] → (new ≡ old) ⊎ (new ≡ old ++ 0 ∷ []) → slice_get new place ≡ Some 0 → new ≡ 0 ∷ []
first_place old new place none (inr grown) at = grown ∙ ap (λ ss. ss ++ 0 ∷ []) none
first_place old new place none (inl same) at =
    let within = slice_get_within new place 0 at in
    let empty : length new ≡ 0 = ap length (same ∙ none) in
    absurd (omega arith)

-- an edge of a network whose symbols are of the alphabet
pub edges_of : (alphabet : List (Sym × List ℕ)) (net : Automaton Pair) → UsesOnly (symbols_of alphabet) net → (e : Edge Pair) → Contains net.edges e → IsEdgeOf alphabet e
edges_of alphabet net only e held = by e.letter refl
  where
    side : (pair : Pair) (symbol : Option Sym) → ((s : Sym) → symbol ≡ Some s → Contains (symbols_of alphabet) s) → MayBeOf alphabet symbol
    side pair None f = tt
    side pair (Some s) f = f s refl

    by : (letter : Option Pair) → e.letter ≡ letter → IsEdgeOf alphabet e
    by None is = subst (λ l. MayBeOf alphabet (upper_side l) × MayBeOf alphabet (lower_side l)) (sym is) (tt, tt)
    by (Some pair) is = subst (λ l. MayBeOf alphabet (upper_side l) × MayBeOf alphabet (lower_side l)) (sym is)
        (side pair pair.up (λ s on. only s (inl (pair, (e, held, is), on))), side pair pair.low (λ s on. only s (inr (pair, (e, held, is), on))))
