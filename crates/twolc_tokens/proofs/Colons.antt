-- The loop over the bytes of an atom to its `:`.
use Rattle.std.proofs.Common.{◌≡◌, ◌≤◌, ◌<◌, ℕ, ◌+◌, Bool, true, false, cond, not, ◌&&◌, ◌==◌, List, [], ◌∷◌, ◌++◌, length, take, drop, Option, Some, None, refl, sym, ap, subst, ◌∙◌, arith, append_assoc, length-drop, zero, suc}
use Rattle.std.specs.Option.{option_map}
use Rattle.std.specs.Str.{IsUtf8, IsCharBoundary}
use Rattle.std.proofs.lemmas.Str.{IsUtf8-drop}
use Rattle.regex_tokens.specs.Bytes.{begins}
use Rattle.regex_tokens.proofs.Utf8.{boundary_by, first_boundary}
use Rattle.twolc_tokens.specs.Spelling.{before_byte, split_from, sides_of}
use Rattle.twolc_tokens.specs.Reading.{IsColon}

-- the sides behind a front, whose upper one has it in front
abbrev pub behind_front : List ℕ → Option (List ℕ × List ℕ) → Option (List ℕ × List ℕ)
behind_front front parts = option_map (λ p. (front ++ p.0, p.1)) parts

pub record SoFar (atom : List ℕ) (place : ℕ) (escaped : Bool) : Type 0 where
  pub within : place ≤ length atom
  pub same : sides_of atom ≡ behind_front (take place atom) (split_from escaped (drop place atom))

front_nothing : (parts : Option (List ℕ × List ℕ)) → parts ≡ behind_front [] parts
front_nothing None = refl
front_nothing (Some p) = refl

pub begin : (atom : List ℕ) → SoFar atom 0 false
begin atom = record { within = omega arith; same = front_nothing (sides_of atom) }

and_no : (b : Bool) → (b && false) ≡ false
and_no true = refl
and_no false = refl

and_yes : (b : Bool) → (b && true) ≡ b
and_yes true = refl
and_yes false = refl

split_step : (escaped : Bool) (b : ℕ) (bs : List ℕ) → (b == 58 && not escaped) ≡ false → split_from escaped (b ∷ bs) ≡ before_byte b (split_from (b == 37 && not escaped) bs)
split_step true b bs e = ap (λ x. before_byte b (split_from x bs)) (sym (and_no (b == 37)))
split_step false b bs e =
    let here : (b == 58) ≡ false = sym (and_yes (b == 58)) ∙ e in
    ap (λ x. cond x (Some ([], bs)) (before_byte b (split_from (b == 37) bs))) here ∙ ap (λ x. before_byte b (split_from x bs)) (sym (and_yes (b == 37)))

front_step : (front : List ℕ) (b : ℕ) (parts : Option (List ℕ × List ℕ)) → behind_front front (before_byte b parts) ≡ behind_front (front ++ b ∷ []) parts
front_step front b None = refl
front_step front b (Some p) = ap (λ bs. Some (bs, p.1)) (sym (append_assoc front (b ∷ []) p.0))

-- one more byte of the front
pub next : (n : ℕ) (xs : List ℕ) (b : ℕ) (bs : List ℕ) → drop n xs ≡ b ∷ bs → (take (n + 1) xs ≡ take n xs ++ b ∷ []) × (drop (n + 1) xs ≡ bs) × (n < length xs)
next n xs b bs e = let one : n + 1 ≡ suc n = omega arith in subst (λ m. (take m xs ≡ take n xs ++ b ∷ []) × (drop m xs ≡ bs) × (n < length xs)) (sym one) (by n xs e)
  where
    heads : (x : ℕ) (xs : List ℕ) → x ∷ xs ≡ b ∷ bs → (x ≡ b) × (xs ≡ bs)
    heads x xs e = (cc, cc)

    by : (n : ℕ) (xs : List ℕ) → drop n xs ≡ b ∷ bs → (take (suc n) xs ≡ take n xs ++ b ∷ []) × (drop (suc n) xs ≡ bs) × (n < length xs)
    by zero [] e = absurd cc
    by zero (x ∷ xs) e = let h = heads x xs e in (ap (λ y. y ∷ []) h.0, h.1, omega arith)
    by (suc n) [] e = absurd cc
    by (suc n) (x ∷ xs) e = let h = by n xs e in (ap (λ ys. x ∷ ys) h.0, h.1, omega (arith, h.2))

pub go_on : (atom : List ℕ) (place : ℕ) (escaped : Bool) (b : ℕ) (bs : List ℕ) → drop place atom ≡ b ∷ bs → SoFar atom place escaped → (b == 58 && not escaped) ≡ false → SoFar atom (place + 1) (b == 37 && not escaped)
go_on atom place escaped b bs e h other =
    let n = next place atom b bs e in
    record {
      within = omega (arith, n.2);
      same = h.same ∙ ap (λ xs. behind_front (take place atom) (split_from escaped xs)) e ∙ ap (behind_front (take place atom)) (split_step escaped b bs other) ∙ front_step (take place atom) b (split_from (b == 37 && not escaped) bs)
          ∙ ap (λ xs. behind_front xs (split_from (b == 37 && not escaped) bs)) (sym n.0) ∙ ap (λ xs. behind_front (take (place + 1) atom) (split_from (b == 37 && not escaped) xs)) (sym n.1);
    }

front_end : (front : List ℕ) → front ++ [] ≡ front
front_end [] = refl
front_end (b ∷ bs) = ap (λ xs. b ∷ xs) (front_end bs)

pub found : (atom : List ℕ) (place : ℕ) (escaped : Bool) (b : ℕ) (bs : List ℕ) → drop place atom ≡ b ∷ bs → SoFar atom place escaped → b ≡ 58 → escaped ≡ false → IsColon atom (Some place)
found atom place escaped b bs e h colon plain =
    let n = next place atom b bs e in
    let here : drop place atom ≡ 58 ∷ bs = e ∙ ap (λ x. x ∷ bs) colon in (
      h.same ∙ ap (λ x. behind_front (take place atom) (split_from x (drop place atom))) plain ∙ ap (λ xs. behind_front (take place atom) (split_from false xs)) here
          ∙ ap (λ xs. Some (xs, bs)) (front_end (take place atom)) ∙ ap (λ xs. Some (take place atom, xs)) (sym n.1),
      here ∙ ap (λ xs. 58 ∷ xs) (sym n.1),
      h.within,
    )

pub past : (atom : List ℕ) (place : ℕ) (escaped : Bool) → SoFar atom place escaped → length atom ≤ place → sides_of atom ≡ None
past atom place escaped h end = h.same ∙ ap (λ xs. behind_front (take place atom) (split_from escaped xs)) (none (drop place atom) (omega (arith, length-drop place atom))) ∙ by escaped
  where
    none : (xs : List ℕ) → length xs ≡ 0 → xs ≡ []
    none [] e = refl
    none (x ∷ xs) e = absurd (omega arith)

    by : (escaped : Bool) → behind_front (take place atom) (split_from escaped []) ≡ None
    by true = refl
    by false = refl

-- the text from the `:` on may be cut behind it
pub cut : (atom behind : List ℕ) (n : ℕ) → IsUtf8 atom → IsColon atom (Some n) → behind ≡ drop n atom → IsCharBoundary behind 1
cut atom behind n utf8 colon e =
    let here : behind ≡ 58 ∷ drop (n + 1) atom = e ∙ colon.1 in
    first_boundary 58 behind (omega arith) (ap (begins (λ c. c == 58)) here) (subst IsUtf8 (sym e) (IsUtf8-drop atom n utf8 (boundary_by atom n colon.2 (λ b bs f. low b bs (sym colon.1 ∙ f)))))
  where
    low : (b : ℕ) (bs : List ℕ) → 58 ∷ drop (n + 1) atom ≡ b ∷ bs → b < 128
    low b bs e = let same : 58 ≡ b = cc in omega arith
