-- A line that is written says again what it was written for.
use Rattle.std.proofs.Common.{◌≡◌, ◌≢◌, ◌<◌, ◌^◌, ◌==◌, ◌&&◌, ◌||◌, ℕ, zero, suc, Bool, true, false, cond, get_or, List, [], ◌∷◌, ◌++◌, length, map, Option, Some, None, refl, sym, ap, ◌∙◌, arith}
use Rattle.std.specs.Prelude.{decimal}
use Rattle.std.specs.List.{Contains, filter_map, cons_option}
use Rattle.std.specs.Char.{is_ascii_digit}
use Rattle.std.specs.Str.{all_ascii_digits, bytes_eq}
use Rattle.std.proofs.lemmas.Bool.{false≢true, true≢false, ne_eqb}
use Rattle.std.proofs.lemmas.Fmt.{digits_decimal}
use Rattle.std.proofs.lemmas.List.{append_assoc}
use Rattle.std.proofs.lemmas.List.Elements.{All-append, All-cons, All-from_get_or, All-nil}
use Rattle.std.proofs.lemmas.Slice.Eq.{bytes_eq-Decides}
use Rattle.word_relations.proofs.Members.{Contains-head, Contains-tail}
use Rattle.att_text.specs.Lines.{Saying, arc, final, arc_between, arc_of, fields_of, final_of, lines_of, no_symbol, said_by, said_in, said_of, side_of, state_of}
use Rattle.att_text.specs.Views.{HasNo}
use Rattle.att_text.specs.Writing.{IsAttText, fields_saying, side_field, text_saying}
use Rattle.att_text.specs.Written.{IsSayable, MayBeField}
use Rattle.att_text.proofs.Numbers.{own, state_again}
use Rattle.att_text.proofs.Pieces.{lines_at, field_first, field_alone}

-- a digit is neither a tab nor a newline
digit_not : (mark : ℕ) → is_ascii_digit mark ≡ false → (b : ℕ) → is_ascii_digit b ≡ true → b ≢ mark
digit_not mark other b digit e = true≢false (sym digit ∙ ap is_ascii_digit e ∙ other)

digits_no : (mark : ℕ) → is_ascii_digit mark ≡ false → (ds : List ℕ) → all_ascii_digits ds ≡ true → HasNo mark ds
digits_no mark other [] e = All-nil (λ b. b ≢ mark)
digits_no mark other (d ∷ ds) e = by (is_ascii_digit d) refl (λ rest. digits_no mark other ds rest)
  where
    by : (b : Bool) → is_ascii_digit d ≡ b → (all_ascii_digits ds ≡ true → HasNo mark ds) → HasNo mark (d ∷ ds)
    by true is later = All-cons (λ b. b ≢ mark) d ds (digit_not mark other d is) (later (sym (ap (λ b. b && all_ascii_digits ds) is) ∙ e))
    by false is later = absurd (false≢true (sym (ap (λ b. b && all_ascii_digits ds) is) ∙ e))

decimal_no : (mark : ℕ) → is_ascii_digit mark ≡ false → (n : ℕ) → n < 2 ^ 64 → HasNo mark (decimal n)
decimal_no mark other n small = digits_no mark other (decimal n) (digits_decimal own n small)

-- a side's field
none : (mark : ℕ) → 64 ≢ mark → 48 ≢ mark → (k : ℕ) → k < length no_symbol → get_or no_symbol k 0 ≢ mark
none mark at digit zero l = at
none mark at digit (suc zero) l = digit
none mark at digit (suc (suc zero)) l = at
none mark at digit (suc (suc (suc k))) l = absurd (omega arith)

side_no_tab : (side : Option (List ℕ)) → MayBeField side → HasNo 9 (side_field side)
side_no_tab None h = All-from_get_or (λ b. b ≢ 9) no_symbol 0 (none 9 (omega arith) (omega arith))
side_no_tab (Some text) h = h.no_tab

side_no_newline : (side : Option (List ℕ)) → MayBeField side → HasNo 10 (side_field side)
side_no_newline None h = All-from_get_or (λ b. b ≢ 10) no_symbol 0 (none 10 (omega arith) (omega arith))
side_no_newline (Some text) h = h.no_newline

side_again : (side : Option (List ℕ)) → MayBeField side → side_of (side_field side) ≡ side
side_again None h = refl
side_again (Some text) h = by (bytes_eq text no_symbol) refl
  where
    by : (b : Bool) → bytes_eq text no_symbol ≡ b → cond (bytes_eq text no_symbol) None (Some text) ≡ Some text
    by true is = absurd (h.other ((bytes_eq-Decides text no_symbol).0 is))
    by false is = ap (λ b. cond b None (Some text)) is

side_some : (side : Option (List ℕ)) → MayBeField side → (length (side_field side) == 0) ≡ false
side_some None h = refl
side_some (Some text) h = let some = h.some in ne_eqb (length text) 0 (omega arith)

-- what is written says it again
module _ (from to : ℕ) (up low : Option (List ℕ)) (s : IsSayable (arc from to up low)) where
  arc_fields : fields_of (fields_saying (arc from to up low)) ≡ decimal from ∷ (decimal to ∷ (side_field up ∷ (side_field low ∷ [])))
  arc_fields =
      field_first (fields_saying (arc from to up low)) (decimal from) _ (decimal_no 9 refl from s.0) refl
      ∙ ap (λ fs. decimal from ∷ fs) (field_first (decimal to ++ 9 ∷ (side_field up ++ 9 ∷ side_field low)) (decimal to) _ (decimal_no 9 refl to s.1) refl
      ∙ ap (λ fs. decimal to ∷ fs) (field_first (side_field up ++ 9 ∷ side_field low) (side_field up) _ (side_no_tab up s.2) refl
      ∙ ap (λ fs. side_field up ∷ fs) (field_alone (side_field low) (side_no_tab low s.3))))

  arc_said : arc_of (decimal from) (decimal to) (side_field up) (side_field low) ≡ Some (arc from to up low)
  arc_said =
      ap (λ b. cond (b || (length (side_field low) == 0)) None (arc_between (state_of (decimal from)) (state_of (decimal to)) (side_field up) (side_field low))) (side_some up s.2)
      ∙ ap (λ b. cond b None (arc_between (state_of (decimal from)) (state_of (decimal to)) (side_field up) (side_field low))) (side_some low s.3)
      ∙ ap (λ p. arc_between p (state_of (decimal to)) (side_field up) (side_field low)) (state_again from s.0)
      ∙ ap (λ q. arc_between (Some from) q (side_field up) (side_field low)) (state_again to s.1)
      ∙ ap (λ u. Some (arc from to u (side_of (side_field low)))) (side_again up s.2)
      ∙ ap (λ l. Some (arc from to up l)) (side_again low s.3)

  arc_no_newline : HasNo 10 (fields_saying (arc from to up low))
  arc_no_newline =
      let lower : HasNo 10 (9 ∷ side_field low) = All-cons (λ b. b ≢ 10) 9 (side_field low) (omega arith) (side_no_newline low s.3) in
      let sides : HasNo 10 (9 ∷ (side_field up ++ 9 ∷ side_field low)) = All-cons (λ b. b ≢ 10) 9 (side_field up ++ 9 ∷ side_field low) (omega arith) (All-append (λ b. b ≢ 10) (side_field up) (9 ∷ side_field low) (side_no_newline up s.2) lower) in
      let behind : HasNo 10 (9 ∷ (decimal to ++ 9 ∷ (side_field up ++ 9 ∷ side_field low))) = All-cons (λ b. b ≢ 10) 9 (decimal to ++ 9 ∷ (side_field up ++ 9 ∷ side_field low)) (omega arith) (All-append (λ b. b ≢ 10) (decimal to) (9 ∷ (side_field up ++ 9 ∷ side_field low)) (decimal_no 10 refl to s.1) sides) in
      All-append (λ b. b ≢ 10) (decimal from) (9 ∷ (decimal to ++ 9 ∷ (side_field up ++ 9 ∷ side_field low))) (decimal_no 10 refl from s.0) behind

said_again : (said : Saying) → IsSayable said → said_of (fields_saying said) ≡ Some said
said_again (arc from to up low) s = ap said_by (arc_fields from to up low s) ∙ arc_said from to up low s
said_again (final state) s = ap said_by (field_alone (decimal state) (decimal_no 9 refl state s)) ∙ ap final_of (state_again state s)

said_no_newline : (said : Saying) → IsSayable said → HasNo 10 (fields_saying said)
said_no_newline (arc from to up low) s = arc_no_newline from to up low s
said_no_newline (final state) s = decimal_no 10 refl state s

-- the lines of what is written
written_lines : (said : List Saying) → ((s : Saying) → Contains said s → IsSayable s) → map said_of (lines_of (text_saying said)) ≡ map Some said
written_lines [] f = refl
written_lines (s ∷ more) f =
    ap (λ t. map said_of (lines_of t)) (append_assoc (fields_saying s) (10 ∷ []) (text_saying more))
    ∙ ap (map said_of) (lines_at (fields_saying s) (text_saying more) (said_no_newline s (f s (Contains-head s more))))
    ∙ ap (λ x. x ∷ map said_of (lines_of (text_saying more))) (said_again s (f s (Contains-head s more)))
    ∙ ap (λ xs. Some s ∷ xs) (written_lines more (λ t h. f t (Contains-tail s more t h)))

filter_all : (lines : List (List ℕ)) (said : List Saying) → map said_of lines ≡ map Some said → filter_map said_of lines ≡ said
filter_all [] [] e = refl
filter_all [] (s ∷ more) e = cc
filter_all (line ∷ lines) [] e = cc
filter_all (line ∷ lines) (s ∷ more) e =
    let first : said_of line ≡ Some s = cc in
    let rest : map said_of lines ≡ map Some more = cc in
    ap (λ x. cons_option x (filter_map said_of lines)) first ∙ ap (λ xs. s ∷ xs) (filter_all lines more rest)

module _ (said : List Saying) (sayable : (s : Saying) → Contains said s → IsSayable s) where
  pub said_written : said_in (text_saying said) ≡ said
  said_written = filter_all (lines_of (text_saying said)) said (written_lines said sayable)

  pub is_text : IsAttText (text_saying said)
  is_text = written_lines said sayable ∙ ap (map Some) (sym said_written)

-- the line of an arc, written piece by piece
pub arc_text : (x0 x1 x2 x3 x4 x5 x6 x7 x8 from to up low : List ℕ) → x1 ≡ x0 ++ from → x2 ≡ x1 ++ 9 ∷ [] → x3 ≡ x2 ++ to → x4 ≡ x3 ++ 9 ∷ [] → x5 ≡ x4 ++ up → x6 ≡ x5 ++ 9 ∷ [] → x7 ≡ x6 ++ low → x8 ≡ x7 ++ 10 ∷ []
    → x8 ≡ x0 ++ ((from ++ 9 ∷ (to ++ 9 ∷ (up ++ 9 ∷ low))) ++ 10 ∷ [])
arc_text x0 x1 x2 x3 x4 x5 x6 x7 x8 from to up low e1 e2 e3 e4 e5 e6 e7 e8 =
    e8 ∙ ap (λ t. t ++ 10 ∷ []) (e7 ∙ ap (λ t. t ++ low) (e6 ∙ ap (λ t. t ++ 9 ∷ []) (e5 ∙ ap (λ t. t ++ up) (e4 ∙ ap (λ t. t ++ 9 ∷ []) (e3 ∙ ap (λ t. t ++ to) (e2 ∙ ap (λ t. t ++ 9 ∷ []) e1))))))
    ∙ flat
  where
    flat : ((((((((x0 ++ from) ++ 9 ∷ []) ++ to) ++ 9 ∷ []) ++ up) ++ 9 ∷ []) ++ low) ++ 10 ∷ []) ≡ x0 ++ ((from ++ 9 ∷ (to ++ 9 ∷ (up ++ 9 ∷ low))) ++ 10 ∷ [])
    flat = simp append_assoc
