-- The first separator of tokens, and that none stands in a part of a context.
use Rattle.std.proofs.Common.{◌≡◌, ◌<◌, ◌+◌, ℕ, zero, suc, Bool, true, false, not, ◌&&◌, cond, List, [], ◌∷◌, ◌++◌, length, take, drop, get_or, Option, None, Some, refl, sym, ap, ◌∙◌, arith}
use Rattle.std.specs.List.{list_all, position, position_from}
use Rattle.std.specs.Option.{option_map, option_and_then}
use Rattle.std.proofs.lemmas.List.Quantifiers.{position-Some}
use Rattle.std.proofs.lemmas.Iterator.Adapters.{position_from-zero}
use Rattle.regex_ast.specs.Terms.{Term}
use Rattle.regex_tokens.specs.declared.token.Token.{Token as XfstToken}
use Rattle.regex_tokens.proofs.Lists.{and_right, and_true}
use Rattle.project_meaning.specs.Trees.{Part}
use Rattle.regex_ast.specs.declared.expr.Raw.{Raw}
use Rattle.twolc_tokens.specs.declared.token.Operator.TheVariants.{Semicolon, Underscore}
use Rattle.twolc_tokens.specs.declared.token.Placed.{Placed}
use Rattle.twolc_tokens.specs.declared.token.Token.{Token}
use Rattle.twolc_tokens.specs.declared.token.Token.TheVariants.{Operator as operator}
use Rattle.twolc_grammar.specs.Atoms.{Names}
use Rattle.twolc_grammar.specs.Expressions.{as_token, as_xfst, is_caret, IsPart}
use Rattle.twolc_grammar.specs.Sections.{tokens_of}
use Rattle.twolc_reader.specs.declared.separator.Separator.{Separator}
use Rattle.twolc_reader.specs.declared.separator.Separator.TheVariants.{Underscore as behind_left, Semicolon as behind_right}
use Rattle.twolc_reader.specs.RuleReading.{sign, is_separator, is_inner, IsSplit}

underscore_is : (t : Token) → is_separator behind_left t ≡ true → t ≡ operator Underscore
underscore_is (operator Underscore) e = refl
underscore_is _ e = absurd cc

semicolon_is : (t : Token) → is_separator behind_right t ≡ true → t ≡ operator Semicolon
semicolon_is (operator Semicolon) e = refl
semicolon_is _ e = absurd cc

is_sign : (s : Separator) (t : Token) → is_separator s t ≡ true → t ≡ sign s
is_sign behind_left t e = underscore_is t e
is_sign behind_right t e = semicolon_is t e

pub sign_ends : (s : Separator) → is_inner s (sign s) ≡ false
sign_ends behind_left = refl
sign_ends behind_right = refl

-- Its place.

split_places : (s : Separator) (d : Placed) (ps : List Placed) (k : ℕ) → k < length ps → is_separator s (get_or ps k d).token ≡ true → ((j : ℕ) → j < k → is_separator s (get_or ps j d).token ≡ false) → IsSplit s (tokens_of ps) (Some (tokens_of (take k ps), tokens_of (drop 1 (drop k ps))))
split_places s d [] k below is before = absurd (omega arith)
split_places s d (p ∷ ps) zero below is before = (refl, ap (λ t. t ∷ tokens_of ps) (is_sign s p.token is))
split_places s d (p ∷ ps) (suc k) below is before =
    let deeper = split_places s d ps k (omega arith) is (λ j h. before (suc j) (omega arith)) in
    (and_true _ _ (ap not (before 0 (omega arith))) deeper.0, ap (λ ts. p.token ∷ ts) deeper.1)

some_place : Placed
some_place = record { token = operator Semicolon; line = 1 }

pub split_found : (s : Separator) (ps : List Placed) (k : ℕ) → Some k ≡ position (λ (p : Placed). is_separator s p.token) ps → IsSplit s (tokens_of ps) (Some (tokens_of (take k ps), tokens_of (drop 1 (drop k ps))))
split_found s ps k first =
    let found = position-Some (λ (p : Placed). is_separator s p.token) ps k some_place (sym first) in split_places s some_place ps k found.0 found.1 found.2

pub place_below : (s : Separator) (ps : List Placed) (k : ℕ) → Some k ≡ position (λ (p : Placed). is_separator s p.token) ps → k < length ps
place_below s ps k first = (position-Some (λ (p : Placed). is_separator s p.token) ps k some_place (sym first)).0

none_from : (s : Separator) (ps : List Placed) (i : ℕ) → position_from (λ (p : Placed). is_separator s p.token) i ps ≡ None → list_all (is_inner s) (tokens_of ps) ≡ true
none_from s [] i e = refl
none_from s (p ∷ ps) i e = by (is_separator s p.token) (none_from s ps (i + 1)) e
  where
    by : (b : Bool) → (position_from (λ (p : Placed). is_separator s p.token) (i + 1) ps ≡ None → list_all (is_inner s) (tokens_of ps) ≡ true) → cond b (Some i) (position_from (λ (p : Placed). is_separator s p.token) (i + 1) ps) ≡ None → (not b && list_all (is_inner s) (tokens_of ps)) ≡ true
    by true more e = absurd cc
    by false more e = more e

pub split_none : (s : Separator) (ps : List Placed) → None ≡ position (λ (p : Placed). is_separator s p.token) ps → IsSplit s (tokens_of ps) None
split_none s ps none = none_from s ps 0 (sym (position_from-zero (λ (p : Placed). is_separator s p.token) ps) ∙ sym none)

-- No separator stands in a part of a context.

sign_strange : (s : Separator) (mark : Bool) → as_token mark (sign s) ≡ None
sign_strange behind_left mark = refl
sign_strange behind_right mark = refl

not_so : (b : Bool) → (b ≡ true → ⊥) → not b ≡ true
not_so true h = absurd (h refl)
not_so false h = refl

token_inner : (s : Separator) (mark : Bool) (t : Token) (x : XfstToken) → as_token mark t ≡ Some x → is_inner s t ≡ true
token_inner s mark t x e = not_so (is_separator s t) (λ is. let clash : None ≡ Some x = sym (sign_strange s mark) ∙ ap (as_token mark) (sym (is_sign s t is)) ∙ e in cc)

all_inner : (s : Separator) (mark : Bool) (tokens : List Token) (xs : List XfstToken) → as_xfst mark tokens ≡ Some xs → list_all (is_inner s) tokens ≡ true
all_inner s mark [] xs e = refl
all_inner s mark (t ∷ ts) xs e = by (as_token mark t) refl (as_xfst (is_caret t) ts) (λ ys h. all_inner s (is_caret t) ts ys h) e
  where
    by : (o : Option XfstToken) → as_token mark t ≡ o → (rest : Option (List XfstToken)) → ((ys : List XfstToken) → rest ≡ Some ys → list_all (is_inner s) ts ≡ true) → option_and_then (λ x. option_map (λ ys. x ∷ ys) rest) o ≡ Some xs → (is_inner s t && list_all (is_inner s) ts) ≡ true
    by None is rest more e = absurd cc
    by (Some x) is None more e = absurd cc
    by (Some x) is (Some ys) more e = and_true _ _ (token_inner s mark t x is) (more ys refl)

pub part_inner : (s : Separator) (names : Names) (tokens : List Token) (t : Term (Part Raw)) → IsPart names tokens t → list_all (is_inner s) tokens ≡ true
part_inner s names [] t h = refl
part_inner s names (x ∷ tokens) t h = all_inner s false (x ∷ tokens) h.0 h.1

-- where tokens have one, not all are others
pub has_sign : (s : Separator) (front behind : List Token) → list_all (is_inner s) (front ++ sign s ∷ behind) ≡ true → ⊥
has_sign s [] behind e = no_sign (is_inner s (sign s)) (list_all (is_inner s) behind) (sign_ends s) e
  where
    no_sign : (a b : Bool) → a ≡ false → (a && b) ≡ true → ⊥
    no_sign true b is e = absurd cc
    no_sign false b is e = cc
has_sign s (t ∷ front) behind e = has_sign s front behind (and_right _ _ e)
