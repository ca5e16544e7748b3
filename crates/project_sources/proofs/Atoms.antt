-- The atoms of twolc texts: whatever an atom is, no symbol of it is an empty text. Each `%` in it has a byte behind it, so a run
-- without escapes isn't empty where the run isn't.
use Rattle.std.proofs.Common.{◌≡◌, inl, inr, ℕ, Bool, true, false, not, ◌&&◌, ◌||◌, ◌==◌, cond, IsTrue, codes, List, [], ◌∷◌, ◌++◌, Option, None, Some, refl, sym, subst, eqb-true}
use Rattle.std.proofs.lemmas.Bool.{and_from, and_parts, false_from_ne_true, false≢true}
use Rattle.std.specs.List.{list_all}
use Rattle.std.specs.Option.{option_and_then, option_map}
use Rattle.std.specs.Str.{bytes_eq}
use Rattle.regex_ast.specs.declared.expr.Raw.{Raw}
use Rattle.regex_ast.specs.declared.expr.Raw.TheVariants.{Run, Quoted}
use Rattle.regex_tokens.specs.Reading.{undone_from}
use Rattle.regex_tokens.specs.Spelling.{Piece, plain, escaped, is_piece, written}
use Rattle.grammar_pairs.specs.Laws.{side_passes, pair_passes, part_passes}
use Rattle.project_meaning.specs.Leaves.{symbol, symbol_of, resolved_side, resolved_pair, resolved_part}
use Rattle.project_meaning.specs.Trees.{Side, nothing, anything, one, member, Pair, Part, pair, called}
use Rattle.project_sources.specs.Built.{is_built_letter}
use Rattle.twolc_tokens.specs.Spelling.{is_run_byte, MayBeSide, IsAtom, before_byte, split_from, sides_of}
use Rattle.twolc_grammar.specs.Atoms.{Names, is_escaped, symbol_in, is_known, is_one_of, side_in, is_nothing, pair_of, pair_in, part_by, part_in, no_names, is_plain_side, plain_pair, symbols_in, centre_by, centre_in, symbol_by, one_symbol_in}

pub some_same : {X : Type 0} (x y : X) → Some x ≡ Some y → x ≡ y
some_same x y e = cc

-- what an option is of which another was made
pub mapped_some : {X Y : Type 0} (f : X → Y) (o : Option X) (y : Y) → option_map f o ≡ Some y → (x : X) × (o ≡ Some x) × (f x ≡ y)
mapped_some f None y e = let clash : None ≡ Some y = e in cc
mapped_some f (Some x) y e = (x, refl, some_same (f x) y e)

pub then_some : {X Y : Type 0} (f : X → Option Y) (o : Option X) (y : Y) → option_and_then f o ≡ Some y → (x : X) × (o ≡ Some x) × (f x ≡ Some y)
then_some f None y e = let clash : None ≡ Some y = e in cc
then_some f (Some x) y e = (x, refl, e)

-- Escapes.

-- each `%` has a byte behind it; `inside` says whether one stands before the text
abbrev is_closed : Bool → List ℕ → Bool
is_closed inside [] = not inside
is_closed true (b ∷ bs) = is_closed false bs
is_closed false (b ∷ bs) = is_closed (b == 37) bs

abbrev has_text : List ℕ → Bool
has_text text = is_built_letter (symbol text)

-- an atom that isn't empty, and in which each `%` has a byte behind it
abbrev pub is_fine : List ℕ → Bool
is_fine text = has_text text && is_closed false text

run_is_no_escape : (b : ℕ) → IsTrue (is_run_byte b) → (b == 37) ≡ false
run_is_no_escape b h = false_from_ne_true (b == 37) (λ e. false≢true (subst (λ x. IsTrue (is_run_byte x)) (eqb-true b 37 e) h))

colon_is_no_escape : (b : ℕ) → (b == 58) ≡ true → (b == 37) ≡ false
colon_is_no_escape b e = subst (λ x. (x == 37) ≡ false) (sym (eqb-true b 58 e)) refl

pieces_closed : (pieces : List Piece) → IsTrue (list_all (is_piece is_run_byte) pieces) → IsTrue (is_closed false (written pieces))
pieces_closed [] h = refl
pieces_closed (plain b ∷ more) h =
    let parts = and_parts (is_run_byte b) (list_all (is_piece is_run_byte) more) h in
    subst (λ (is : Bool). IsTrue (is_closed is (written more))) (sym (run_is_no_escape b parts.0)) (pieces_closed more parts.1)
pieces_closed (escaped b ∷ more) h = pieces_closed more (and_parts (is_piece is_run_byte (escaped b)) (list_all (is_piece is_run_byte) more) h).1

closed_append : (inside : Bool) (xs ys : List ℕ) → IsTrue (is_closed inside xs) → IsTrue (is_closed false ys) → IsTrue (is_closed inside (xs ++ ys))
closed_append true [] ys h k = absurd (false≢true h)
closed_append false [] ys h k = k
closed_append true (x ∷ xs) ys h k = closed_append false xs ys h k
closed_append false (x ∷ xs) ys h k = closed_append (x == 37) xs ys h k

some_append : (xs : List ℕ) (y : ℕ) (ys : List ℕ) → IsTrue (has_text (xs ++ y ∷ ys))
some_append [] y ys = refl
some_append (x ∷ xs) y ys = refl

some_written : (first : Piece) (more : List Piece) → IsTrue (has_text (written (first ∷ more)))
some_written (plain b) more = refl
some_written (escaped b) more = refl

side_closed : (bytes : List ℕ) → MayBeSide bytes → IsTrue (is_closed false bytes)
side_closed bytes (inl none) = subst (λ z. IsTrue (is_closed false z)) (sym none) refl
side_closed bytes (inr (inl (text, run))) = subst (λ z. IsTrue (is_closed false z)) (sym run.spelled) (pieces_closed (run.first ∷ run.more) run.fine)
side_closed bytes (inr (inr any)) = subst (λ z. IsTrue (is_closed false z)) (sym any) refl

pub atom_fine : (bytes : List ℕ) → IsAtom bytes → IsTrue (is_fine bytes)
atom_fine bytes (inl (text, run)) =
    let all = run.first ∷ run.more in
    subst (λ z. IsTrue (is_fine z)) (sym run.spelled) (and_from (has_text (written all)) (is_closed false (written all)) (some_written run.first run.more) (pieces_closed all run.fine))
atom_fine bytes (inr (up, low, is, above, below)) =
    let whole = up ++ 58 ∷ low in
    subst (λ z. IsTrue (is_fine z)) (sym is) (and_from (has_text whole) (is_closed false whole) (some_append up 58 low) (closed_append false up (58 ∷ low) (side_closed up above) (side_closed low below)))

-- the parts before and behind a `:`
abbrev AreClosed : Bool → List ℕ × List ℕ → Type 0
AreClosed inside sides = IsTrue (is_closed inside sides.0) × IsTrue (is_closed false sides.1)

sides_closed : (inside : Bool) (bytes : List ℕ) (sides : List ℕ × List ℕ) → IsTrue (is_closed inside bytes) → split_from inside bytes ≡ Some sides → AreClosed inside sides
sides_closed inside [] sides h e = let clash : None ≡ Some sides = e in cc
sides_closed true (b ∷ bs) sides h e =
    let (p, is, same) = mapped_some (λ (p : List ℕ × List ℕ). (b ∷ p.0, p.1)) (split_from false bs) sides e in
    subst (AreClosed true) same (sides_closed false bs p h is)
sides_closed false (b ∷ bs) sides h e = by (b == 58) refl e (λ p is. sides_closed (b == 37) bs p h is)
  where
    by : (colon : Bool) → (b == 58) ≡ colon → cond colon (Some ([], bs)) (before_byte b (split_from (b == 37) bs)) ≡ Some sides
        → ((p : List ℕ × List ℕ) → split_from (b == 37) bs ≡ Some p → AreClosed (b == 37) p) → AreClosed false sides
    by true colon e more =
        let front : List ℕ × List ℕ = ([], bs) in
        subst (AreClosed false) (some_same front sides e) (refl, subst (λ (is : Bool). IsTrue (is_closed is bs)) (colon_is_no_escape b colon) h)
    by false colon e more =
        let (p, is, same) = mapped_some (λ (p : List ℕ × List ℕ). (b ∷ p.0, p.1)) (split_from (b == 37) bs) sides e in
        subst (AreClosed false) same (more p is)

-- Symbols.

undone_some : (b : ℕ) (bs : List ℕ) → IsTrue (is_closed false (b ∷ bs)) → IsTrue (has_text (undone_from false (b ∷ bs)))
undone_some b bs h = by (b == 37) bs h
  where
    by : (is : Bool) (bs : List ℕ) → IsTrue (is_closed is bs) → IsTrue (has_text (cond is (undone_from true bs) (b ∷ undone_from false bs)))
    by true [] h = h
    by true (c ∷ cs) h = refl
    by false bs h = refl

abbrev pub HasText : Raw → Type 0
HasText raw = IsTrue (is_built_letter (symbol_of raw))

symbol_fine : (b : ℕ) (bs : List ℕ) → IsTrue (is_closed false (b ∷ bs)) → HasText (symbol_in (b ∷ bs))
symbol_fine b bs h = by (is_escaped (b ∷ bs))
  where
    by : (is : Bool) → HasText (cond is (Quoted (undone_from false (b ∷ bs))) (Run (b ∷ bs)))
    by true = undone_some b bs h
    by false = refl

-- Parts.

abbrev pub SideIsFine : Side Raw → Type 0
SideIsFine s = IsTrue (side_passes is_built_letter (resolved_side s))

abbrev pub PairIsFine : Pair Raw → Type 0
PairIsFine p = IsTrue (pair_passes is_built_letter (resolved_pair p))

abbrev pub PartIsFine : Part Raw → Type 0
PartIsFine p = IsTrue (part_passes is_built_letter (resolved_part p))

module _ (names : Names) where
  side_fine : (run : List ℕ) (s : Side Raw) → IsTrue (is_closed false run) → side_in names run ≡ Some s → SideIsFine s
  side_fine [] s h e = subst SideIsFine (some_same anything s e) refl
  side_fine (b ∷ bs) s h e = by (bytes_eq (b ∷ bs) [] || bytes_eq (b ∷ bs) (codes "?")) (bytes_eq (b ∷ bs) (codes "0")) (is_one_of names.sets (b ∷ bs)) (is_one_of names.definitions (b ∷ bs)) e
    where
      by : (any zero set definition : Bool) → cond any (Some anything) (cond zero (Some nothing) (cond set (Some (member (b ∷ bs))) (cond definition None (Some (one (symbol_in (b ∷ bs))))))) ≡ Some s → SideIsFine s
      by true zero set definition e = subst SideIsFine (some_same anything s e) refl
      by false true set definition e = subst SideIsFine (some_same nothing s e) refl
      by false false true definition e = subst SideIsFine (some_same (member (b ∷ bs)) s e) refl
      by false false false true e = let clash : None ≡ Some s = e in cc
      by false false false false e = subst SideIsFine (some_same (one (symbol_in (b ∷ bs))) s e) (symbol_fine b bs h)

  pair_fine : (up low : List ℕ) (p : Pair Raw) → IsTrue (is_closed false up) → IsTrue (is_closed false low) → pair_in names up low ≡ Some p → PairIsFine p
  pair_fine up low p above below e = by (bytes_eq up [] && bytes_eq low []) e
    where
      both : (u l : Side Raw) → SideIsFine u → SideIsFine l → (none : Bool) → cond none None (Some (record { up = u; low = l })) ≡ Some p → PairIsFine p
      both u l first second true e = let clash : None ≡ Some p = e in cc
      both u l first second false e =
          let made : Pair Raw = record { up = u; low = l } in
          subst PairIsFine (some_same made p e) (and_from (side_passes is_built_letter (resolved_side u)) (side_passes is_built_letter (resolved_side l)) first second)

      by : (none : Bool) → cond none None (option_and_then (λ u. option_and_then (pair_of u) (side_in names low)) (side_in names up)) ≡ Some p → PairIsFine p
      by true e = let clash : None ≡ Some p = e in cc
      by false e =
          let (u, is, then) = then_some (λ u. option_and_then (pair_of u) (side_in names low)) (side_in names up) p e in
          let (l, also, last) = then_some (pair_of u) (side_in names low) p then in
          both u l (side_fine up u above is) (side_fine low l below also) (is_nothing u && is_nothing l) last

  pub part_fine : (atom : List ℕ) (p : Part Raw) → IsTrue (is_fine atom) → part_in names atom ≡ Some p → PartIsFine p
  part_fine [] p h e = absurd (false≢true h)
  part_fine (b ∷ bs) p h e = by (sides_of (b ∷ bs)) refl e
    where
      alone : (none known : Bool) → cond none None (cond known (Some (called (b ∷ bs))) (Some (pair (record { up = one (symbol_in (b ∷ bs)); low = one (symbol_in (b ∷ bs)) })))) ≡ Some p → PartIsFine p
      alone true known e = let clash : None ≡ Some p = e in cc
      alone false true e = subst PartIsFine (some_same (called (b ∷ bs)) p e) refl
      alone false false e =
          let twice : Pair Raw = record { up = one (symbol_in (b ∷ bs)); low = one (symbol_in (b ∷ bs)) } in
          let symbol = symbol_fine b bs h in
          subst PartIsFine (some_same (pair twice) p e) (and_from (is_built_letter (symbol_of (symbol_in (b ∷ bs)))) (is_built_letter (symbol_of (symbol_in (b ∷ bs)))) symbol symbol)

      by : (o : Option (List ℕ × List ℕ)) → sides_of (b ∷ bs) ≡ o → part_by names (b ∷ bs) o ≡ Some p → PartIsFine p
      by None is e = alone (bytes_eq (b ∷ bs) (codes "0")) (is_known names (b ∷ bs)) e
      by (Some sides) is e =
          let (q, made, same) = mapped_some pair (pair_in names sides.0 sides.1) p e in
          let closed = sides_closed false (b ∷ bs) sides h is in
          subst PartIsFine same (pair_fine sides.0 sides.1 q closed.0 closed.1 made)

  plain_fine : (p : Part Raw) (q : Pair Raw) → PartIsFine p → plain_pair p ≡ Some q → PairIsFine q
  plain_fine (pair p) q h e = by (is_plain_side p.up && is_plain_side p.low) e
    where
      by : (plain : Bool) → cond plain (Some p) None ≡ Some q → PairIsFine q
      by true e = subst PairIsFine (some_same p q e) h
      by false e = let clash : None ≡ Some q = e in cc
  plain_fine (called name) q h e = let clash : None ≡ Some q = e in cc

  pub centre_fine : (atom : List ℕ) (q : Pair Raw) → IsTrue (is_fine atom) → centre_in names atom ≡ Some q → PairIsFine q
  centre_fine atom q h e = by (sides_of atom) e
    where
      by : (o : Option (List ℕ × List ℕ)) → centre_by names atom o ≡ Some q → PairIsFine q
      by None e = let clash : None ≡ Some q = e in cc
      by (Some sides) e = let (p, is, then) = then_some plain_pair (part_in names atom) q e in plain_fine p q (part_fine atom p h is) then

pub symbols_fine : (atom : List ℕ) (q : Pair Raw) → IsTrue (is_fine atom) → symbols_in atom ≡ Some q → PairIsFine q
symbols_fine atom q h e = let (p, is, then) = then_some plain_pair (part_in no_names atom) q e in plain_fine no_names p q (part_fine no_names atom p h is) then

pub one_symbol_fine : (atom : List ℕ) (raw : Raw) → IsTrue (is_fine atom) → one_symbol_in atom ≡ Some raw → HasText raw
one_symbol_fine [] raw h e = absurd (false≢true h)
one_symbol_fine (b ∷ bs) raw h e = by (sides_of (b ∷ bs)) e
  where
    alone : (none : Bool) → cond none None (Some (symbol_in (b ∷ bs))) ≡ Some raw → HasText raw
    alone true e = let clash : None ≡ Some raw = e in cc
    alone false e = subst HasText (some_same (symbol_in (b ∷ bs)) raw e) (symbol_fine b bs h)

    by : (o : Option (List ℕ × List ℕ)) → symbol_by (b ∷ bs) o ≡ Some raw → HasText raw
    by None e = alone (bytes_eq (b ∷ bs) (codes "0")) e
    by (Some sides) e = let clash : None ≡ Some raw = e in cc
