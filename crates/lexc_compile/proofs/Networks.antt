-- An entry's block: what is read in it is what leads so far in the entry's network.
use Rattle.std.proofs.Common.{◌≡◌, ℕ, ◌+◌, ◌-◌, ◌<◌, List, [], ◌++◌, false, Option, None, Some, replicate, length, refl, subst, sym, ap, inl, inr, arith, length-append, append_assoc, ◌∙◌}
use Rattle.std.specs.List.{Contains}
use Rattle.std.specs.Option.{option_to_list}
use Rattle.std.proofs.lemmas.List.{length-replicate}
use Rattle.std.proofs.lemmas.Option.{slice_get_within}
use Rattle.fsa.specs.Automaton.{Automaton, IsFinal}
use Rattle.fsa.specs.Language.{Accepts, AcceptsFrom, stop, skip}
use Rattle.fsa.specs.declared.automaton.Edge.{Edge}
use Rattle.fsa_rational.specs.Shapes.{epsilon, shifted}
use Rattle.fsa_rational.proofs.Walks.{AcceptsFrom-step, AcceptsFrom-moved}
use Rattle.flag_diacritics.specs.declared.tape.Tape.{Tape}
use Rattle.lexc_compile.specs.declared.steps.Step.{Step}
use Rattle.lexc_compile.specs.Paths.{PlacedEntry, network}
use Rattle.lexc_compile.specs.Blocks.{home_of, target_of, IsThere, IsBlockEdge, AddsBlock}
use Rattle.lexc_compile.specs.Built.{Inside, front, within, GoesOn, IsBuilt, AddsEntry}
use Rattle.lexc_compile.proofs.Growing.{extended, extended_below, extended_from, IsRight, grown, target_within}

module _ (count place : ℕ) (net : Automaton Tape) (next : Option ℕ) (there : place < count) (goes_on : IsThere count next) (m new : Automaton Tape) (steps : List (Step × ℕ)) (adds : AddsBlock count place net next m new) where
  abbrev added : PlacedEntry
  added = record { place = place; content = network net; next = next }

  long : length new.finals ≡ length m.finals + length net.finals
  long = ap length adds.finals ∙ length-append m.finals (replicate (length net.finals) false) ∙ ap (λ n. length m.finals + n) (length-replicate (length net.finals) false)

  module _ (entries : List PlacedEntry) (root : ℕ) (inside : ℕ → Inside) (held : Contains entries (record { place = place; content = network net; next = next })) (is : IsBuilt entries count root inside m steps) where
    abbrev around : ℕ → Inside
    around = extended inside (length m.finals) (λ p. within (Some place) net (p - length m.finals))

    same : (p : ℕ) → p < length m.finals → around p ≡ inside p
    same p l = extended_below inside (length m.finals) (λ q. within (Some place) net (q - length m.finals)) p l

    home_is : around (home_of place) ≡ front (Some place) []
    home_is = let h = is.homes in same (home_of place) (omega arith) ∙ is.targets (Some place) (omega arith)

    target_is : around (target_of count next) ≡ front next []
    target_is = same (target_of count next) (target_within entries count root inside m steps is next goes_on) ∙ is.targets next goes_on

    state_is : (q : ℕ) → around (q + length m.finals) ≡ within (Some place) net q
    state_is q =
        let back : q + length m.finals - length m.finals ≡ q = omega arith in
        extended_from inside (length m.finals) (λ p. within (Some place) net (p - length m.finals)) (q + length m.finals) (omega arith) ∙ ap (λ k. within (Some place) net k) back

    begin_is : around (length m.finals) ≡ within (Some place) net 0
    begin_is = let zero_at : length m.finals ≡ 0 + length m.finals = omega arith in ap around zero_at ∙ state_is 0

    -- an edge between states at which these are read
    goes_between : (p q : ℕ) (letter : Option Tape) (before after : Inside) → around p ≡ before → around q ≡ after → GoesOn entries before letter after → GoesOn entries (around p) letter (around q)
    goes_between p q letter before after p_is q_is goes =
        subst (λ d. GoesOn entries d letter (around q)) (sym p_is) (subst (λ d. GoesOn entries before letter d) (sym q_is) goes)

    right_into : IsRight entries around new (epsilon (home_of place) (length m.finals))
    right_into =
        let l = long in
        let h = is.homes in
        let s = adds.formed.start in (
          omega arith,
          omega arith,
          goes_between (home_of place) (length m.finals) None (front (Some place) []) (within (Some place) net 0) home_is begin_is
              (inl (refl, λ x read rest accepted. subst (λ v. AcceptsFrom net 0 ((v ++ []) ++ rest)) (sym read) accepted)),
          λ x reads. absurd (cc),
        )

    right_inside : (f : Edge Tape) → Contains net.edges f → IsRight entries around new (shifted (length m.finals) f)
    right_inside f member =
        let l = long in
        let ends = adds.formed.within f member in (
          omega arith,
          omega arith,
          goes_between (f.from + length m.finals) (f.to + length m.finals) f.letter (within (Some place) net f.from) (within (Some place) net f.to) (state_is f.from) (state_is f.to)
              (inl (
                refl,
                λ x read rest accepted.
                    subst (λ v. Accepts net v) (sym (append_assoc x (option_to_list f.letter) rest)) (read (option_to_list f.letter ++ rest) (AcceptsFrom-step net f rest member accepted)),
              )),
          λ x reads. (added, held, (f, member, reads)),
        )

    right_behind : (q : ℕ) → IsFinal net q → IsRight entries around new (epsilon (q + length m.finals) (target_of count next))
    right_behind q final =
        let l = long in
        let in_net = slice_get_within net.finals q _ final in
        let reached : target_of count next < length m.finals = target_within entries count root inside m steps is next goes_on in (
          omega arith,
          omega arith,
          goes_between (q + length m.finals) (target_of count next) None (within (Some place) net q) (front next []) (state_is q) target_is
              (inr (added, refl, held, refl, λ x read. read [] (stop final))),
          λ x reads. absurd (cc),
        )

    right : (e : Edge Tape) → IsBlockEdge count place net next (length m.finals) e → IsRight entries around new e
    right e (inl is_it) = subst (λ f. IsRight entries around new f) (sym is_it) right_into
    right e (inr (inl (f, member, is_it))) = subst (λ f. IsRight entries around new f) (sym is_it) (right_inside f member)
    right e (inr (inr (q, final, is_it))) = subst (λ f. IsRight entries around new f) (sym is_it) (right_behind q final)

    built_block : (read : ℕ → Inside) × IsBuilt entries count root read new steps
    built_block = (
      around,
      grown entries count root inside m steps is (length net.finals) around new steps same adds.finals adds.kept
          (λ e h. elim (adds.only e h) [ inl old ↦ inl old | inr made ↦ inr (right e made) ]) (λ row h. inl h),
    )

  pub adds_network : AddsEntry count (record { place = place; content = network net; next = next }) m steps new steps
  adds_network = record {
    kept = adds.kept;
    has = λ w accepted beyond f rest goes.
        let begin = length m.finals in
        let zero_at : 0 + begin ≡ begin = omega arith in
        let through : AcceptsFrom beyond (0 + begin) (w ++ rest) =
        AcceptsFrom-moved net beyond begin rest (λ e h. f (shifted begin e) (adds.all (shifted begin e) (inr (inl (e, h, refl)))))
        (λ q final. skip (f (epsilon (q + begin) (target_of count next)) (adds.all (epsilon (q + begin) (target_of count next)) (inr (inr (q, final, refl))))) goes) accepted in
        skip (f (epsilon (home_of place) begin) (adds.all (epsilon (home_of place) begin) (inl refl))) (subst (λ p. AcceptsFrom beyond p (w ++ rest)) zero_at through);
    built = λ entries root inside held is. built_block entries root inside held is;
  }
