-- A drawing, step by step.
use Rattle.std.proofs.Common.{◌≡◌, ◌⊎◌, ◌+◌, ◌<◌, ◌≤◌, ℕ, zero, suc, Bool, true, false, List, [], ◌∷◌, ◌++◌, length, set, Option, Some, None, sym, subst, ap, ◌∙◌, inl, inr, arith, length-append, length-set}
use Rattle.std.specs.List.{Contains, slice_get}
use Rattle.std.proofs.lemmas.Bool.{cases_eq}
use Rattle.std.proofs.lemmas.List.Elements.{Contains-append_left, Contains-push, Contains-push_cases}
use Rattle.std.proofs.lemmas.Option.{slice_get_within}
use Rattle.word_relations.specs.Words.{IsDistinct}
use Rattle.word_relations.proofs.Members.{Contains-nil_cases}
use Rattle.word_relations.proofs.Places.{slice_get-append_left, slice_get-append_cases, slice_get-set_same, slice_get-set_other}
use Rattle.fsm_base.specs.declared.letters.Sym.{Sym}
use Rattle.fsm_base.specs.declared.letters.Pair.{Pair}
use Rattle.fsa.specs.declared.automaton.Edge.{Edge}
use Rattle.att_text.specs.Lines.{Saying, arc, final}
use Rattle.att_text.specs.Paths.{HasTextIn}
use Rattle.att_text.specs.Sides.{HasSide, upper_side, lower_side}
use Rattle.att_text.specs.Drawing.{Keeps, Extends, IsDrawn, IsDrawnAs, IsDrawnFor}

pub Keeps-append : {X : Type 0} (xs ys : List X) → Keeps xs (xs ++ ys)
Keeps-append xs ys place x at = slice_get-append_left xs ys place (slice_get_within xs place x at) ∙ at

pub Keeps-extended : {X : Type 0} (old new : List X) → Extends old new → Keeps old new
Keeps-extended old new e place x at = subst (λ ys. slice_get ys place ≡ Some x) (sym e.1) (Keeps-append old e.0 place x at)

pub side_kept : (T U : Sym → List ℕ → Type 0) → ((s : Sym) (t : List ℕ) → T s t → U s t) → (side : Option Sym) (text : Option (List ℕ)) → HasSide T side text → HasSide U side text
side_kept T U f None None h = h
side_kept T U f None (Some t) h = absurd h
side_kept T U f (Some s) None h = absurd h
side_kept T U f (Some s) (Some t) h = f s t h

pub table_side : (old new : List (List ℕ)) → Keeps old new → (side : Option Sym) (text : Option (List ℕ)) → HasSide (HasTextIn old) side text → HasSide (HasTextIn new) side text
table_side old new keeps side text h = side_kept (HasTextIn old) (HasTextIn new) (λ s t at. keeps s.0 t at) side text h

module _ (table new_table : List (List ℕ)) (states new_states : List ℕ) (tables : Keeps table new_table) (more : Keeps states new_states) where
  as_kept : (e : Edge Pair) (p q : ℕ) (up low : Option (List ℕ)) → IsDrawnAs table states e p q up low → IsDrawnAs new_table new_states e p q up low
  as_kept e p q up low d = record {
    from = more e.from p d.from;
    to = more e.to q d.to;
    upper = table_side table new_table tables (upper_side e.letter) up d.upper;
    lower = table_side table new_table tables (lower_side e.letter) low d.lower;
  }

  for_kept : (edges new_edges : List (Edge Pair)) (finals new_finals : List Bool) → ((e : Edge Pair) → Contains edges e → Contains new_edges e)
      → ((place : ℕ) → slice_get finals place ≡ Some true → slice_get new_finals place ≡ Some true)
      → (s : Saying) → IsDrawnFor table states edges finals s → IsDrawnFor new_table new_states new_edges new_finals s
  for_kept edges new_edges finals new_finals f g (arc p q up low) d = (d.0, f d.0 d.1, as_kept d.0 p q up low d.2)
  for_kept edges new_edges finals new_finals f g (final p) d = (d.0, more d.0 p d.1, g d.0 d.2)

  -- with more states and a longer table
  pub drawn_kept : (said : List Saying) (edges : List (Edge Pair)) (finals new_finals : List Bool) → IsDistinct new_states → length new_finals ≡ length new_states
      → ((place : ℕ) → slice_get finals place ≡ Some true → slice_get new_finals place ≡ Some true)
      → ((place : ℕ) → slice_get new_finals place ≡ Some true → slice_get finals place ≡ Some true)
      → IsDrawn table said states edges finals → IsDrawn new_table said new_states edges new_finals
  drawn_kept said edges finals new_finals once each f g d = record {
    start = more 0 0 d.start;
    once = once;
    each = each;
    lines = λ s h. for_kept edges edges finals new_finals (λ e h. h) f s (d.lines s h);
    edges_said = λ e h. let k = d.edges_said e h in (k.0, k.1, k.2, k.3, k.4, as_kept e k.0 k.1 k.2 k.3 k.5);
    finals_said = λ place at. let k = d.finals_said place (g place at) in (k.0, more place k.0 k.1, k.2);
  }

pub drawn_table : (table new_table : List (List ℕ)) (said : List Saying) (states : List ℕ) (edges : List (Edge Pair)) (finals : List Bool) → Keeps table new_table → IsDrawn table said states edges finals → IsDrawn new_table said states edges finals
drawn_table table new_table said states edges finals keeps d =
    drawn_kept table new_table states states keeps (λ place x at. at) said edges finals finals d.once d.each (λ place at. at) (λ place at. at) d

no_true : (finals : List Bool) (place : ℕ) → slice_get (finals ++ false ∷ []) place ≡ Some true → slice_get finals place ≡ Some true
no_true finals place at = elim (slice_get-append_cases finals (false ∷ []) place true at) [
  | inl old ↦ old
  | inr new ↦ absurd (alone new.0 new.2)
]
  where
    alone : (j : ℕ) → slice_get (false ∷ []) j ≡ Some true → ⊥
    alone zero e = cc
    alone (suc j) e = cc

-- a state that is put behind the others where it is new
pub drawn_state : (table : List (List ℕ)) (said : List Saying) (states new_states : List ℕ) (edges : List (Edge Pair)) (finals new_finals : List Bool) (state : ℕ)
    → (new_states ≡ states) ⊎ (new_states ≡ states ++ state ∷ []) → IsDistinct new_states
    → (length finals < length new_states → new_finals ≡ finals ++ false ∷ []) → (length new_states ≤ length finals → new_finals ≡ finals)
    → IsDrawn table said states edges finals → IsDrawn table said new_states edges new_finals
drawn_state table said states new_states edges finals new_finals state (inl same) once pushed unpushed d =
    let each = d.each in
    let long : length new_states ≡ length states = ap length same in
    let finals_same : new_finals ≡ finals = unpushed (omega arith) in
    subst (λ ks. IsDrawn table said ks edges new_finals) (sym same) (subst (λ fs. IsDrawn table said states edges fs) (sym finals_same) d)
drawn_state table said states new_states edges finals new_finals state (inr grown) once pushed unpushed d =
    let each = d.each in
    let long : length new_states ≡ length states + 1 = ap length grown ∙ length-append states (state ∷ []) in
    let finals_grown : new_finals ≡ finals ++ false ∷ [] = pushed (omega arith) in
    let long_finals : length new_finals ≡ length finals + 1 = ap length finals_grown ∙ length-append finals (false ∷ []) in
    drawn_kept table table states new_states (λ place x at. at) (Keeps-extended states new_states (state ∷ [], grown)) said edges finals new_finals once (omega arith)
    (λ place at. Keeps-extended finals new_finals (false ∷ [], finals_grown) place true at)
    (λ place at. no_true finals place (subst (λ fs. slice_get fs place ≡ Some true) finals_grown at))
    d

pub state_keeps : (states new_states : List ℕ) (state : ℕ) → (new_states ≡ states) ⊎ (new_states ≡ states ++ state ∷ []) → Keeps states new_states
state_keeps states new_states state (inl same) place x at = subst (λ ks. slice_get ks place ≡ Some x) (sym same) at
state_keeps states new_states state (inr grown) place x at = Keeps-extended states new_states (state ∷ [], grown) place x at

-- an edge for one more arc line
pub drawn_edge : (table : List (List ℕ)) (said : List Saying) (states : List ℕ) (edges : List (Edge Pair)) (finals : List Bool) (e : Edge Pair) (p q : ℕ) (up low : Option (List ℕ))
    → IsDrawnAs table states e p q up low → IsDrawn table said states edges finals → IsDrawn table (said ++ arc p q up low ∷ []) states (edges ++ e ∷ []) finals
drawn_edge table said states edges finals e p q up low here d = record {
  start = d.start;
  once = d.once;
  each = d.each;
  lines = λ s h. elim (Contains-push_cases said (arc p q up low) s h) [
    | inl old ↦ for_kept table table states states (λ place x at. at) (λ place x at. at) edges (edges ++ e ∷ []) finals finals (λ f held. Contains-append_left edges (e ∷ []) f held) (λ place at. at) s (d.lines s old)
    | inr new ↦ subst (λ s. IsDrawnFor table states (edges ++ e ∷ []) finals s) new (e, Contains-push edges e, here)
  ];
  edges_said = λ f h. elim (Contains-push_cases edges e f h) [
    | inl old ↦ let k = d.edges_said f old in (k.0, k.1, k.2, k.3, Contains-append_left said (arc p q up low ∷ []) (arc k.0 k.1 k.2 k.3) k.4, k.5)
    | inr new ↦ (p, q, up, low, Contains-push said (arc p q up low), subst (λ f. IsDrawnAs table states f p q up low) new here)
  ];
  finals_said = λ place at. let k = d.finals_said place at in (k.0, k.1, Contains-append_left said (arc p q up low ∷ []) (final k.0) k.2);
}

-- one more final state
pub drawn_final : (table : List (List ℕ)) (said : List Saying) (states : List ℕ) (edges : List (Edge Pair)) (finals : List Bool) (place p : ℕ) → slice_get states place ≡ Some p
    → IsDrawn table said states edges finals → IsDrawn table (said ++ final p ∷ []) states edges (set finals place true)
drawn_final table said states edges finals place p at d =
    let each = d.each in
    let within = slice_get_within states place p at in
    record {
      start = d.start;
      once = d.once;
      each = length-set finals place true ∙ d.each;
      lines = λ s h. elim (Contains-push_cases said (final p) s h) [
        | inl old ↦ for_kept table table states states (λ k x e. e) (λ k x e. e) edges edges finals (set finals place true) (λ f held. held) kept s (d.lines s old)
        | inr new ↦ subst (λ s. IsDrawnFor table states edges (set finals place true) s) new (place, at, slice_get-set_same finals place true (omega arith))
      ];
      edges_said = λ f h. let k = d.edges_said f h in (k.0, k.1, k.2, k.3, Contains-append_left said (final p ∷ []) (arc k.0 k.1 k.2 k.3) k.4, k.5);
      finals_said = λ k e. elim (cases_eq k place) [
        | inl same ↦ (p, subst (λ j. slice_get states j ≡ Some p) (sym same) at, Contains-push said (final p))
        | inr other ↦ let r = d.finals_said k (sym (slice_get-set_other finals place k true other) ∙ e) in (r.0, r.1, Contains-append_left said (final p ∷ []) (final r.0) r.2)
      ];
    }
  where
    kept : (k : ℕ) → slice_get finals k ≡ Some true → slice_get (set finals place true) k ≡ Some true
    kept k e = elim (cases_eq k place) [
      | inl same ↦ subst (λ j. slice_get (set finals place true) j ≡ Some true) (sym same) (slice_get-set_same finals place true (subst (λ j. j < length finals) same (slice_get_within finals k true e)))
      | inr other ↦ slice_get-set_other finals place k true other ∙ e
    ]

-- the state 0 alone
pub drawn_none : (table : List (List ℕ)) (states : List ℕ) (finals : List Bool) → states ≡ 0 ∷ [] → finals ≡ false ∷ [] → IsDistinct states → IsDrawn table [] states [] finals
drawn_none table states finals states_are finals_are once = record {
  start = ap (λ ks. slice_get ks 0) states_are;
  once = once;
  each = ap length finals_are ∙ sym (ap length states_are);
  lines = λ s h. absurd (Contains-nil_cases s h);
  edges_said = λ e h. absurd (Contains-nil_cases e h);
  finals_said = λ place at. absurd (none place (subst (λ fs. slice_get fs place ≡ Some true) finals_are at));
}
  where
    none : (place : ℕ) → slice_get (false ∷ []) place ≡ Some true → ⊥
    none zero e = cc
    none (suc j) e = cc

-- what the steps of an arc draw
pub arc_drawn : (table table_1 table_2 : List (List ℕ)) (said : List Saying) (states states_1 states_2 : List ℕ) (edges edges_1 edges_2 new_edges : List (Edge Pair)) (finals finals_1 finals_2 : List Bool)
    (from to p q : ℕ) (up_symbol low_symbol : Option Sym) (letter : Option Pair) (up low : Option (List ℕ))
    → Extends table table_1 → Extends table_1 table_2 → HasSide (HasTextIn table_1) up_symbol up → HasSide (HasTextIn table_2) low_symbol low → upper_side letter ≡ up_symbol → lower_side letter ≡ low_symbol
    → slice_get states_1 from ≡ Some p → Keeps states_1 states_2 → slice_get states_2 to ≡ Some q
    → ((t : List (List ℕ)) (s : List Saying) → IsDrawn t s states edges finals → IsDrawn t s states_1 edges_1 finals_1)
    → ((t : List (List ℕ)) (s : List Saying) → IsDrawn t s states_1 edges_1 finals_1 → IsDrawn t s states_2 edges_2 finals_2)
    → new_edges ≡ edges_2 ++ record { from = from; letter = letter; to = to } ∷ []
    → IsDrawn table said states edges finals → IsDrawn table_2 (said ++ arc p q up low ∷ []) states_2 new_edges finals_2
arc_drawn table table_1 table_2 said states states_1 states_2 edges edges_1 edges_2 new_edges finals finals_1 finals_2 from to p q up_symbol low_symbol letter up low more_1 more_2 hu hl is_up is_low at_from keeps at_to step_1 step_2 pushed d =
    let tables : Keeps table table_2 = λ place x at. Keeps-extended table_1 table_2 more_2 place x (Keeps-extended table table_1 more_1 place x at) in
    let before = drawn_table table table_2 said states edges finals tables d in
    let e : Edge Pair = record { from = from; letter = letter; to = to } in
    subst (λ es. IsDrawn table_2 (said ++ arc p q up low ∷ []) states_2 es finals_2) (sym pushed)
    (drawn_edge table_2 said states_2 edges_2 finals_2 e p q up low
    (record {
      from = keeps from p at_from;
      to = at_to;
      upper = subst (λ s. HasSide (HasTextIn table_2) s up) (sym is_up) (table_side table_1 table_2 (Keeps-extended table_1 table_2 more_2) up_symbol up hu);
      lower = subst (λ s. HasSide (HasTextIn table_2) s low) (sym is_low) hl;
    })
    (step_2 table_2 said (step_1 table_2 said before)))
