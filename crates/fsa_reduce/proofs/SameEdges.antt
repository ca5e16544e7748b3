-- Edges that compare equal are the same.
use Rattle.std.proofs.Common.{◌≡◌, ℕ, Bool, true, Option, Some, None, refl, ap, subst}
use Rattle.std.specs.Prelude.{nat_eq, ◌&&◌}
use Rattle.std.specs.Option.{option_eq}
use Rattle.std.specs.Cmp.{IsEquivalence}
use Rattle.fsa.specs.declared.automaton.Edge.{Edge}
use Rattle.fsa.proofs.Arcs.{edge_same}
use Rattle.fsa_explore.proofs.SameMarks.{both, numbers_same, number_itself, all_true, same_answers}

abbrev pub edge_eq : Edge ℕ → Edge ℕ → Bool
edge_eq x y = nat_eq x.from y.from && (option_eq nat_eq x.letter y.letter && nat_eq x.to y.to)

letters_same : (x y : Option ℕ) → option_eq nat_eq x y ≡ true → x ≡ y
letters_same None None e = refl
letters_same None (Some y) e = absurd (cc)
letters_same (Some x) None e = absurd (cc)
letters_same (Some x) (Some y) e = ap Some (numbers_same x y e)

letter_itself : (x : Option ℕ) → option_eq nat_eq x x ≡ true
letter_itself None = refl
letter_itself (Some x) = number_itself x

pub edges_same : (x y : Edge ℕ) → edge_eq x y ≡ true → x ≡ y
edges_same x y e =
    let first = both (nat_eq x.from y.from) (option_eq nat_eq x.letter y.letter && nat_eq x.to y.to) e in
    let rest = both (option_eq nat_eq x.letter y.letter) (nat_eq x.to y.to) first.1 in
    edge_same x y (numbers_same x.from y.from first.0) (letters_same x.letter y.letter rest.0) (numbers_same x.to y.to rest.1)

pub edge_itself : (x : Edge ℕ) → edge_eq x x ≡ true
edge_itself x = all_true (nat_eq x.from x.from) (option_eq nat_eq x.letter x.letter) (nat_eq x.to x.to) (number_itself x.from) (letter_itself x.letter) (number_itself x.to)

pub edge_eq_equiv : IsEquivalence edge_eq
edge_eq_equiv = record {
  refl = edge_itself;
  symm = λ x y. same_answers (edge_eq x y) (edge_eq y x)
      (λ e. subst (λ z. edge_eq z x ≡ true) (edges_same x y e) (edge_itself x))
      (λ e. subst (λ z. edge_eq z y ≡ true) (edges_same y x e) (edge_itself y));
  congr = λ x y z e. ap (λ v. edge_eq v z) (edges_same x y e);
}
