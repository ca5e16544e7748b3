-- The symbols of a text, and a table that gets them.
use Rattle.std.proofs.Common.{◌≡◌, ◌⊎◌, ◌≤◌, ℕ, Bool, true, false, cond, ◌||◌, List, [], ◌∷◌, ◌++◌, length, Option, Some, None, refl, sym, subst, ap, ◌∙◌, inl, inr, arith, length-append, true≢false}
use Rattle.std.specs.Prelude.{nat_lt}
use Rattle.std.specs.List.{list_any}
use Rattle.std.specs.Str.{bytes_eq}
use Rattle.std.proofs.lemmas.Bool.{ltb-false}
use Rattle.std.proofs.lemmas.List.{append_assoc, append-nil}
use Rattle.std.proofs.lemmas.List.Folds.{list_any-append}
use Rattle.std.proofs.lemmas.Slice.Eq.{bytes_eq-Decides}
use Rattle.fsm_base.specs.Symbols.{with_text}
use Rattle.regex_tokens.specs.Reading.{is_flag}
use Rattle.att_text.specs.declared.faults.AttWhy.TheVariants.{Flag, OpenSymbol, LimitSymbols}
use Rattle.att_text.specs.Lines.{Saying, arc, final}
use Rattle.att_text.specs.Faults.{fault_in, is_open, most_symbols, on_sides, with_said, with_side}
use Rattle.att_text.specs.Drawing.{Extends, HasRoom, IsBeside}

-- which texts are among others with one more
any_left : (y x : List ℕ) (xs : List (List ℕ)) → list_any (bytes_eq y) xs ≡ true → list_any (bytes_eq y) (xs ++ x ∷ []) ≡ true
any_left y x xs e = list_any-append (bytes_eq y) xs (x ∷ []) ∙ ap (λ b. b || (bytes_eq y x || false)) e

any_new : (y x : List ℕ) (xs : List (List ℕ)) → y ≡ x → list_any (bytes_eq y) (xs ++ x ∷ []) ≡ true
any_new y x xs same = list_any-append (bytes_eq y) xs (x ∷ []) ∙ by (list_any (bytes_eq y) xs)
  where
    by : (b : Bool) → (b || (bytes_eq y x || false)) ≡ true
    by true = refl
    by false = ap (λ b. b || false) ((bytes_eq-Decides y x).1 same)

any_push : (y x : List ℕ) (xs : List (List ℕ)) → list_any (bytes_eq y) (xs ++ x ∷ []) ≡ true → (list_any (bytes_eq y) xs ≡ true) ⊎ (y ≡ x)
any_push y x xs e = by (list_any (bytes_eq y) xs) (bytes_eq y x) refl (sym (list_any-append (bytes_eq y) xs (x ∷ [])) ∙ e)
  where
    by : (a b : Bool) → bytes_eq y x ≡ b → (a || (b || false)) ≡ true → (a ≡ true) ⊎ (y ≡ x)
    by true b f e = inl refl
    by false true f e = inr ((bytes_eq-Decides y x).0 f)
    by false false f e = absurd (true≢false (sym e))

module _ (first : List (List ℕ)) where
  pub beside_none : IsBeside first [] first
  beside_none = record { few = omega arith; held = λ text e. absurd (true≢false (sym e)) }

  beside_text : (x : List ℕ) (symbols table : List (List ℕ)) → IsBeside first symbols table → IsBeside first (with_text x symbols) (with_text x table)
  beside_text x symbols table b = by (list_any (bytes_eq x) symbols) refl (list_any (bytes_eq x) table) refl
    where
      by : (p : Bool) → list_any (bytes_eq x) symbols ≡ p → (q : Bool) → list_any (bytes_eq x) table ≡ q → IsBeside first (cond p symbols (symbols ++ x ∷ [])) (cond q table (table ++ x ∷ []))
      by true e true f = b
      by true e false f = absurd (true≢false (sym (b.held x e) ∙ f))
      by false e true f = record {
        few = let few = b.few in omega (arith, length-append symbols (x ∷ []));
        held = λ y h. elim (any_push y x symbols h) [ inl old ↦ b.held y old | inr same ↦ subst (λ z. list_any (bytes_eq z) table ≡ true) (sym same) f ];
      }
      by false e false f = record {
        few = let few = b.few in omega (arith, length-append symbols (x ∷ []), length-append table (x ∷ []));
        held = λ y h. elim (any_push y x symbols h) [ inl old ↦ any_left y x table (b.held y old) | inr same ↦ any_new y x table same ];
      }

  beside_side : (side : Option (List ℕ)) (symbols table : List (List ℕ)) → IsBeside first symbols table → IsBeside first (with_side side symbols) (with_side side table)
  beside_side None symbols table b = b
  beside_side (Some x) symbols table b = beside_text x symbols table b

  pub beside_said : (said : Saying) (symbols table : List (List ℕ)) → IsBeside first symbols table → IsBeside first (with_said said symbols) (with_said said table)
  beside_said (final state) symbols table b = b
  beside_said (arc p q up low) symbols table b = beside_side low (with_side up symbols) (with_side up table) (beside_side up symbols table b)

-- a line without fault has room
few_symbols : (a b c : Bool) → cond a (Some Flag) (cond b (Some OpenSymbol) (cond c (Some LimitSymbols) None)) ≡ None → c ≡ false
few_symbols true b c e = cc
few_symbols false true c e = cc
few_symbols false false true e = cc
few_symbols false false false e = refl

pub room_for : (said : Saying) (symbols table : List (List ℕ)) → HasRoom symbols table → fault_in symbols said ≡ None → length (with_said said table) ≤ 16777216
room_for said symbols table room none =
    let few = (beside_said room.0 said symbols table room.1).few in
    let within : length (with_said said symbols) ≤ most_symbols =
    ltb-false most_symbols (length (with_said said symbols)) (few_symbols (on_sides is_flag said) (on_sides is_open said) (nat_lt most_symbols (length (with_said said symbols))) none) in
    let most = room.2 in
    omega arith

-- a table with more texts
pub extends_none : {X : Type 0} (xs : List X) → Extends xs xs
extends_none xs = ([], sym (append-nil xs))

pub extends_then : {X : Type 0} (xs ys zs : List X) → Extends xs ys → Extends ys zs → Extends xs zs
extends_then xs ys zs a b = (a.0 ++ b.0, b.1 ∙ ap (λ v. v ++ b.0) a.1 ∙ append_assoc xs a.0 b.0)

pub extends_text : (x : List ℕ) (table : List (List ℕ)) → Extends table (with_text x table)
extends_text x table = by (list_any (bytes_eq x) table)
  where
    by : (b : Bool) → Extends table (cond b table (table ++ x ∷ []))
    by true = extends_none table
    by false = (x ∷ [], refl)

pub extends_side : (side : Option (List ℕ)) (table : List (List ℕ)) → Extends table (with_side side table)
extends_side None table = extends_none table
extends_side (Some x) table = extends_text x table

pub extends_within : {X : Type 0} (xs ys : List X) → Extends xs ys → length xs ≤ length ys
extends_within xs ys e = let long = ap length e.1 ∙ length-append xs e.0 in omega arith
