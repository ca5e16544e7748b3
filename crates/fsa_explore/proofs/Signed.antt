-- Equal signatures say the same of whether a state is final, and have the same marks.
use Rattle.std.proofs.Common.{◌≡◌, ℕ, ◌⊎◌, List, [], ◌∷◌, Bool, true, false, Option, Some, None, refl, sym, ap, subst, inl, inr, arith, ◌∙◌}
use Rattle.std.specs.List.{Contains, flat_map}
use Rattle.fsa_explore.specs.declared.signatures.Mark.{Mark}
use Rattle.fsa_explore.specs.Signatures.{IsSignature, end_number, mark_of, numbers}

-- what stands at the front of a list, and behind it
first_in : List ℕ → ℕ
first_in [] = 0
first_in (x ∷ xs) = x

rest_in : List ℕ → List ℕ
rest_in [] = []
rest_in (x ∷ xs) = xs

first_same : (x y : ℕ) (xs ys : List ℕ) → x ∷ xs ≡ y ∷ ys → x ≡ y
unfolding first_in
first_same x y xs ys e = ap first_in e

rest_same : (x y : ℕ) (xs ys : List ℕ) → x ∷ xs ≡ y ∷ ys → xs ≡ ys
unfolding rest_in
rest_same x y xs ys e = ap rest_in e

pub mark_same : (m n : Mark) → m.letter ≡ n.letter → m.kind ≡ n.kind → m.number ≡ n.number → m ≡ n
mark_same m n a b c =
    let with_letter : ℕ → Mark = λ x. record { letter = x; kind = m.kind; number = m.number } in
    let with_kind : ℕ → Mark = λ x. record { letter = n.letter; kind = x; number = m.number } in
    let with_number : ℕ → Mark = λ x. record { letter = n.letter; kind = n.kind; number = x } in
    ap with_letter a ∙ ap with_kind b ∙ ap with_number c

marks_same : (ms ns : List Mark) → flat_map numbers ms ≡ flat_map numbers ns → ms ≡ ns
marks_same [] [] e = refl
marks_same [] (n ∷ ns) e = absurd (cc)
marks_same (m ∷ ms) [] e = absurd (cc)
marks_same (m ∷ ms) (n ∷ ns) e =
    let letter = first_same m.letter n.letter _ _ e in
    let tail = rest_same m.letter n.letter _ _ e in
    let kind = first_same m.kind n.kind _ _ tail in
    let tail2 = rest_same m.kind n.kind _ _ tail in
    let number = first_same m.number n.number _ _ tail2 in
    let rest = rest_same m.number n.number _ _ tail2 in
    ap (λ x. x ∷ ms) (mark_same m n letter kind number) ∙ ap (λ xs. n ∷ xs) (marks_same ms ns rest)

end_same : (a b : Bool) → end_number a ≡ end_number b → a ≡ b
end_same true true e = refl
end_same true false e = absurd (omega arith)
end_same false true e = absurd (omega arith)
end_same false false e = refl

-- a signature belongs to one answer of whether a state is final, and to one set of marks
pub signatures_agree : (a b : Bool) (ms ns : List Mark) (list : List ℕ) → IsSignature a ms list → IsSignature b ns list → (a ≡ b) × ((m : Mark) → Contains ms m → Contains ns m)
signatures_agree a b ms ns row i j =
    let same : end_number a ∷ flat_map numbers i.0 ≡ end_number b ∷ flat_map numbers j.0 = sym i.1 ∙ j.1 in
    let listed : i.0 ≡ j.0 = marks_same i.0 j.0 (rest_same (end_number a) (end_number b) _ _ same) in
    (end_same a b (first_same (end_number a) (end_number b) _ _ same), λ m h. (j.2 m).0 (subst (λ xs. Contains xs m) listed ((i.2 m).1 h)))

pub letter_same : (x y c d : Option ℕ) (s t : ℕ) → mark_of x c s ≡ mark_of y d t → x ≡ y
letter_same None None c d s t e = refl
letter_same (Some x) (Some y) None None s t e = ap Some (ap (λ m. m.letter) e)
letter_same (Some x) (Some y) None (Some d) s t e = ap Some (ap (λ m. m.letter) e)
letter_same (Some x) (Some y) (Some c) None s t e = ap Some (ap (λ m. m.letter) e)
letter_same (Some x) (Some y) (Some c) (Some d) s t e = ap Some (ap (λ m. m.letter) e)
letter_same None (Some y) None None s t e = let k = ap (λ m. m.kind) e in absurd (omega arith)
letter_same None (Some y) None (Some d) s t e = let k = ap (λ m. m.kind) e in absurd (omega arith)
letter_same None (Some y) (Some c) None s t e = let k = ap (λ m. m.kind) e in absurd (omega arith)
letter_same None (Some y) (Some c) (Some d) s t e = let k = ap (λ m. m.kind) e in absurd (omega arith)
letter_same (Some x) None None None s t e = let k = ap (λ m. m.kind) e in absurd (omega arith)
letter_same (Some x) None None (Some d) s t e = let k = ap (λ m. m.kind) e in absurd (omega arith)
letter_same (Some x) None (Some c) None s t e = let k = ap (λ m. m.kind) e in absurd (omega arith)
letter_same (Some x) None (Some c) (Some d) s t e = let k = ap (λ m. m.kind) e in absurd (omega arith)

-- both states count by the same class, or each by itself
abbrev pub CountAlike : Option ℕ → Option ℕ → ℕ → ℕ → Type 0
CountAlike c d s t = ((k : ℕ) × (c ≡ Some k) × (d ≡ Some k)) ⊎ ((c ≡ None) × (d ≡ None) × (s ≡ t))

-- with the letters known to be the same
same_letter : (x c d : Option ℕ) (s t : ℕ) → mark_of x c s ≡ mark_of x d t → CountAlike c d s t
same_letter None None None s t e = inr (refl, refl, ap (λ m. m.number) e)
same_letter None (Some c) (Some d) s t e = inl (c, refl, sym (ap Some (ap (λ m. m.number) e)))
same_letter None None (Some d) s t e = let k = ap (λ m. m.kind) e in absurd (omega arith)
same_letter None (Some c) None s t e = let k = ap (λ m. m.kind) e in absurd (omega arith)
same_letter (Some x) None None s t e = inr (refl, refl, ap (λ m. m.number) e)
same_letter (Some x) (Some c) (Some d) s t e = inl (c, refl, sym (ap Some (ap (λ m. m.number) e)))
same_letter (Some x) None (Some d) s t e = let k = ap (λ m. m.kind) e in absurd (omega arith)
same_letter (Some x) (Some c) None s t e = let k = ap (λ m. m.kind) e in absurd (omega arith)

pub target_same : (x y c d : Option ℕ) (s t : ℕ) → mark_of x c s ≡ mark_of y d t → CountAlike c d s t
target_same x y c d s t e = same_letter x c d s t (subst (λ z. mark_of x c s ≡ mark_of z d t) (sym (letter_same x y c d s t e)) e)
