-- Marks that compare equal are the same.
use Rattle.std.proofs.Common.{◌≡◌, ℕ, Bool, true, false, refl, sym, ap, subst, arith}
use Rattle.std.specs.Prelude.{nat_eq, ◌&&◌}
use Rattle.std.specs.Cmp.{IsEquivalence}
use Rattle.std.proofs.lemmas.Bool.Decides.{nat_tests}
use Rattle.fsa_explore.specs.declared.signatures.Mark.{Mark}
use Rattle.fsa_explore.proofs.Signed.{mark_same}

pub both : (a b : Bool) → (a && b) ≡ true → (a ≡ true) × (b ≡ true)
both true true e = (refl, refl)
both true false e = absurd (cc)
both false b e = absurd (cc)

pub numbers_same : (x y : ℕ) → nat_eq x y ≡ true → x ≡ y
numbers_same x y e = grind (arith, nat_tests)

pub number_itself : (x : ℕ) → nat_eq x x ≡ true
number_itself x = grind (arith, nat_tests)

pub all_true : (a b c : Bool) → a ≡ true → b ≡ true → c ≡ true → (a && (b && c)) ≡ true
all_true a b c e f g = rw (e, f, g) refl

pub same_answers : (a b : Bool) → (a ≡ true → b ≡ true) → (b ≡ true → a ≡ true) → a ≡ b
same_answers true b f g = sym (f refl)
same_answers false true f g = g refl
same_answers false false f g = refl

abbrev pub mark_eq : Mark → Mark → Bool
mark_eq x y = nat_eq x.letter y.letter && (nat_eq x.kind y.kind && nat_eq x.number y.number)

pub marks_same : (x y : Mark) → mark_eq x y ≡ true → x ≡ y
marks_same x y e =
    let first = both (nat_eq x.letter y.letter) (nat_eq x.kind y.kind && nat_eq x.number y.number) e in
    let rest = both (nat_eq x.kind y.kind) (nat_eq x.number y.number) first.1 in
    mark_same x y (numbers_same x.letter y.letter first.0) (numbers_same x.kind y.kind rest.0) (numbers_same x.number y.number rest.1)

mark_itself : (x : Mark) → mark_eq x x ≡ true
mark_itself x = all_true (nat_eq x.letter x.letter) (nat_eq x.kind x.kind) (nat_eq x.number x.number) (number_itself x.letter) (number_itself x.kind) (number_itself x.number)

pub mark_eq_equiv : IsEquivalence mark_eq
mark_eq_equiv = record {
  refl = mark_itself;
  symm = λ x y. same_answers (mark_eq x y) (mark_eq y x)
      (λ e. subst (λ z. mark_eq z x ≡ true) (marks_same x y e) (mark_itself x))
      (λ e. subst (λ z. mark_eq z y ≡ true) (marks_same y x e) (mark_itself y));
  congr = λ x y z e. ap (λ v. mark_eq v z) (marks_same x y e);
}
