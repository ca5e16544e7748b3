-- A drawing relates what its lines do.
use Rattle.std.proofs.Common.{◌≡◌, ◌↔◌, ◌<◌, ℕ, Bool, true, List, Option, Some, None, Result, Ok, Err, OnOk, length, sym, subst, ap, ◌∙◌, inl, inr, arith}
use Rattle.std.specs.declared.alloc.AllocError.{AllocError}
use Rattle.std.specs.List.{Contains, slice_get}
use Rattle.std.proofs.lemmas.Option.{same_Some, slice_get_within}
use Rattle.word_relations.proofs.Places.{same_at}
use Rattle.fsm_base.specs.declared.letters.Sym.{Sym}
use Rattle.fsm_base.specs.declared.letters.Pair.{Pair}
use Rattle.fsa.specs.declared.automaton.Edge.{Edge}
use Rattle.att_text.specs.Lines.{Saying, arc, final}
use Rattle.att_text.specs.Paths.{HasSymbolsIn, HasTextIn, Leads, RelatesTexts}
use Rattle.att_text.specs.Sides.{HasSide, lower_side, upper_side}
use Rattle.att_text.specs.Drawing.{IsDrawn}
use Rattle.att_text.proofs.Simulation.{Simulates, relates_same}

module _ (table : List (List ℕ)) (said : List Saying) (states : List ℕ) (edges : List (Edge Pair)) (finals : List Bool) (d : IsDrawn table said states edges finals) where
  drawn_simulates : Simulates (HasTextIn table) (record { edges = edges; finals = finals }) said (λ s p. slice_get states s ≡ Some p)
  drawn_simulates = record {
    same = λ s t u a b. same_Some t u (sym a ∙ b);
    edge = λ e p held at.
        let k = d.edges_said e held in
        (k.1, k.2, k.3, k.5.to, k.5.upper, k.5.lower, subst (λ v. Contains said (arc v k.1 k.2 k.3)) (same_at states e.from k.0 p k.5.from at) k.4);
    line = λ s p q up low held at.
        let k = d.lines (arc p q up low) held in
        (k.0, k.1, d.once k.0.from s p k.2.from at, k.2.to, k.2.upper, k.2.lower);
    stops = λ s p at ends.
        let k = d.finals_said s ends in
        subst (λ v. Contains said (final v)) (same_at states s k.0 p k.1 at) k.2;
    final_line = λ s p at held.
        let k = d.lines (final p) held in
        subst (λ v. slice_get finals v ≡ Some true) (d.once k.0 s p k.1 at) k.2;
  }

  pub drawn_relates : (upper lower : List (List ℕ)) → RelatesTexts (HasTextIn table) (record { edges = edges; finals = finals }) upper lower ↔ Leads said 0 upper lower
  drawn_relates upper lower = relates_same (HasTextIn table) (record { edges = edges; finals = finals }) said (λ s p. slice_get states s ≡ Some p) drawn_simulates d.start upper lower

  pub drawn_within : (e : Edge Pair) → Contains edges e → (e.from < length finals) × (e.to < length finals)
  drawn_within e held =
      let k = d.edges_said e held in
      let from = slice_get_within states e.from k.0 k.5.from in
      let to = slice_get_within states e.to k.1 k.5.to in
      let each = d.each in
      ((omega arith), (omega arith))

  -- the symbols of an edge have texts in the table
  side_within : (side : Option Sym) (text : Option (List ℕ)) → HasSide (HasTextIn table) side text → (symbol : Sym) → side ≡ Some symbol → symbol.0 < length table
  side_within None text h symbol is = let clash : None ≡ Some symbol = is in absurd (cc)
  side_within (Some s) None h symbol is = absurd h
  side_within (Some s) (Some text) h symbol is = subst (λ (z : Sym). z.0 < length table) (same_Some s symbol is) (slice_get_within table s.0 text h)

  pub drawn_symbols : HasSymbolsIn table (record { edges = edges; finals = finals })
  drawn_symbols pair symbol (e, held, letter) on =
      let k = d.edges_said e held in
      elim on as (λ _. symbol.0 < length table) [
        | inl up ↦ side_within (upper_side e.letter) k.2 k.5.upper symbol (ap upper_side letter ∙ up)
        | inr low ↦ side_within (lower_side e.letter) k.3 k.5.lower symbol (ap lower_side letter ∙ low)
      ]

-- what holds of each table holds of one
pub at_table : (P : List (List ℕ) → List Saying → Type 0) (table : List (List ℕ)) (r : Result (Unit {0}) AllocError) → OnOk r ((t : List (List ℕ)) (s : List Saying) → P t s) → OnOk r ((s : List Saying) → P table s)
at_table P table (Ok x) f = f table
at_table P table (Err e) f = tt
