-- A network and lines that go the same way, step by step, relate the same.
use Rattle.std.proofs.Common.{◌≡◌, ◌↔◌, ℕ, List, [], ◌∷◌, ◌++◌, Option, Some, None, refl, sym, subst, ap}
use Rattle.std.specs.List.{AllZip, Contains}
use Rattle.std.specs.Option.{option_to_list}
use Rattle.fsm_base.specs.declared.letters.Sym.{Sym}
use Rattle.fsm_base.specs.declared.letters.Pair.{Pair}
use Rattle.fsa.specs.declared.automaton.Edge.{Edge}
use Rattle.fsa.specs.Automaton.{Automaton, IsFinal}
use Rattle.fsa.specs.Language.{AcceptsFrom, stop, read, skip}
use Rattle.fst_algebra.specs.Relation.{uppers, lowers}
use Rattle.att_text.specs.Lines.{Saying, arc, final}
use Rattle.att_text.specs.Paths.{Leads, ends, along, RelatesTexts}
use Rattle.att_text.specs.Sides.{HasSide, upper_side, lower_side}

-- the states that stand for each other are left by edges and by arc lines that stand for each other
pub record Simulates (HasText : Sym → List ℕ → Type 0) (m : Automaton Pair) (said : List Saying) (Named : ℕ → ℕ → Type 0) : Type 0 where
  pub same : (symbol : Sym) (t u : List ℕ) → HasText symbol t → HasText symbol u → t ≡ u
  pub edge : (e : Edge Pair) (p : ℕ) → Contains m.edges e → Named e.from p → (q : ℕ) × (up : Option (List ℕ)) × (low : Option (List ℕ)) × Named e.to q × HasSide HasText (upper_side e.letter) up × HasSide HasText (lower_side e.letter) low × Contains said (arc p q up low)
  pub line : (s p q : ℕ) (up low : Option (List ℕ)) → Contains said (arc p q up low) → Named s p → (e : Edge Pair) × Contains m.edges e × (e.from ≡ s) × Named e.to q × HasSide HasText (upper_side e.letter) up × HasSide HasText (lower_side e.letter) low
  pub stops : (s p : ℕ) → Named s p → IsFinal m s → Contains said (final p)
  pub final_line : (s p : ℕ) → Named s p → Contains said (final p) → IsFinal m s

module _ (HasText : Sym → List ℕ → Type 0) where
  nil_zip : (ts : List (List ℕ)) → AllZip HasText [] ts → ts ≡ []
  nil_zip [] z = refl
  nil_zip (t ∷ ts) z = absurd z

  -- a side's text in front of others
  split_side : ((symbol : Sym) (t u : List ℕ) → HasText symbol t → HasText symbol u → t ≡ u) → (side : Option Sym) (text : Option (List ℕ)) → HasSide HasText side text → (us : List Sym) (ts : List (List ℕ)) → AllZip HasText (option_to_list side ++ us) ts → (rest : List (List ℕ)) × (ts ≡ option_to_list text ++ rest) × AllZip HasText us rest
  split_side same None None h us ts z = (ts, refl, z)
  split_side same None (Some t) h us ts z = absurd h
  split_side same (Some s) None h us ts z = absurd h
  split_side same (Some s) (Some t) h us [] z = absurd z
  split_side same (Some s) (Some t) h us (u ∷ ts) z = (ts, ap (λ (x : List ℕ). x ∷ ts) (same s u t z.0 h), z.1)

  join_side : (side : Option Sym) (text : Option (List ℕ)) → HasSide HasText side text → (us : List Sym) (ts : List (List ℕ)) → AllZip HasText us ts → AllZip HasText (option_to_list side ++ us) (option_to_list text ++ ts)
  join_side None None h us ts z = z
  join_side None (Some t) h us ts z = absurd h
  join_side (Some s) None h us ts z = absurd h
  join_side (Some s) (Some t) h us ts z = (h, z)

  module _ (m : Automaton Pair) (said : List Saying) (Named : ℕ → ℕ → Type 0) (x : Simulates HasText m said Named) where
    leads : {s : ℕ} {pairs : List Pair} (p : ℕ) → AcceptsFrom m s pairs → Named s p → (upper lower : List (List ℕ)) → AllZip HasText (uppers pairs) upper → AllZip HasText (lowers pairs) lower → Leads said p upper lower
    leads p (stop {p = s} h) r upper lower zu zl =
        subst (λ u. Leads said p u lower) (sym (nil_zip upper zu)) (subst (λ l. Leads said p [] l) (sym (nil_zip lower zl)) (ends (x.stops s p r h)))
    leads p (read {p = s} {q = q} {x = pair} {w = w} held rest) r upper lower zu zl =
        let k = x.edge (record { from = s; letter = Some pair; to = q }) p held r in
        let u = split_side x.same pair.up k.1 k.4 (uppers w) upper zu in
        let l = split_side x.same pair.low k.2 k.5 (lowers w) lower zl in
        subst (λ (y : List (List ℕ)). Leads said p y lower) (sym u.1) (subst (λ (y : List (List ℕ)). Leads said p (option_to_list k.1 ++ u.0) y) (sym l.1)
        (along p k.0 k.1 k.2 u.0 l.0 k.6 (leads k.0 rest k.3 u.0 l.0 u.2 l.2)))
    leads p (skip {p = s} {q = q} {w = w} held rest) r upper lower zu zl =
        let k = x.edge (record { from = s; letter = None; to = q }) p held r in
        let u = split_side x.same None k.1 k.4 (uppers w) upper zu in
        let l = split_side x.same None k.2 k.5 (lowers w) lower zl in
        subst (λ (y : List (List ℕ)). Leads said p y lower) (sym u.1) (subst (λ (y : List (List ℕ)). Leads said p (option_to_list k.1 ++ u.0) y) (sym l.1)
        (along p k.0 k.1 k.2 u.0 l.0 k.6 (leads k.0 rest k.3 u.0 l.0 u.2 l.2)))

    -- a path, with what it has on its sides
    record Goes (s : ℕ) (upper lower : List (List ℕ)) : Type 0 where
      pairs : List Pair
      path : AcceptsFrom m s pairs
      on_upper : AllZip HasText (uppers pairs) upper
      on_lower : AllZip HasText (lowers pairs) lower

    step_back : (from to : ℕ) (letter : Option Pair) (s : ℕ) (up low : Option (List ℕ)) (upper lower : List (List ℕ)) → Contains m.edges (record { from = from; letter = letter; to = to }) → from ≡ s → HasSide HasText (upper_side letter) up → HasSide HasText (lower_side letter) low → Goes to upper lower → Goes s (option_to_list up ++ upper) (option_to_list low ++ lower)
    step_back from to None s up low upper lower held e hu hl g = record {
      pairs = g.pairs;
      path = subst (λ a. AcceptsFrom m a g.pairs) e (skip held g.path);
      on_upper = join_side None up hu (uppers g.pairs) upper g.on_upper;
      on_lower = join_side None low hl (lowers g.pairs) lower g.on_lower;
    }
    step_back from to (Some pair) s up low upper lower held e hu hl g = record {
      pairs = pair ∷ g.pairs;
      path = subst (λ a. AcceptsFrom m a (pair ∷ g.pairs)) e (read held g.path);
      on_upper = join_side pair.up up hu (uppers g.pairs) upper g.on_upper;
      on_lower = join_side pair.low low hl (lowers g.pairs) lower g.on_lower;
    }

    goes : {p : ℕ} {upper lower : List (List ℕ)} (s : ℕ) → Leads said p upper lower → Named s p → Goes s upper lower
    goes s (ends {state = p} h) r = record { pairs = []; path = stop (x.final_line s p r h); on_upper = tt; on_lower = tt }
    goes s (along from to up low upper lower held rest) r =
        let k = x.line s from to up low held r in
        step_back k.0.from k.0.to k.0.letter s up low upper lower k.1 k.2 k.4 k.5 (goes k.0.to rest k.3)

    pub relates_same : Named 0 0 → (upper lower : List (List ℕ)) → RelatesTexts HasText m upper lower ↔ Leads said 0 upper lower
    relates_same start upper lower = (there, back)
      where
        there : RelatesTexts HasText m upper lower → Leads said 0 upper lower
        there k =
            let pairs = k.related.0 in
            leads 0 k.related.1 start upper lower
            (subst (λ w. AllZip HasText w upper) (sym k.related.2) k.upper_texts)
            (subst (λ w. AllZip HasText w lower) (sym k.related.3) k.lower_texts)

        back : Leads said 0 upper lower → RelatesTexts HasText m upper lower
        back l =
            let g = goes 0 l start in
            record {
              upper_word = uppers g.pairs;
              lower_word = lowers g.pairs;
              related = (g.pairs, g.path, refl, refl);
              upper_texts = g.on_upper;
              lower_texts = g.on_lower;
            }
