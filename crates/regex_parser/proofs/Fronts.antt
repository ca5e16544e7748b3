-- What stands at the front of the tokens.
use Rattle.std.proofs.Common.{◌≡◌, ◌<◌, Bool, true, false, Option, Some, None, List, [], ◌∷◌, length, refl, sym, ap, ◌∙◌, arith}
use Rattle.std.specs.Bool.{⊤}
use Rattle.std.specs.Option.{option_map, option_and_then}
use Rattle.regex_parser.specs.Values.{made}
use Rattle.regex_ast.specs.Terms.{Term}
use Rattle.regex_ast.specs.declared.expr.Prefix.{Prefix}
use Rattle.regex_ast.specs.declared.expr.Raw.{Raw}
use Rattle.regex_ast.specs.declared.expr.Side.{Side}
use Rattle.regex_ast.specs.declared.expr.Suffix.{Suffix}
use Rattle.regex_ast.specs.declared.expr.Way.{Way}
use Rattle.regex_ast.specs.declared.expr.Way.TheVariants.{LeftLongest as left_longest, LeftShortest as left_shortest, RightLongest as right_longest, RightShortest as right_shortest}
use Rattle.regex_grammar.specs.Rows.{begins, Reader}
use Rattle.regex_grammar.specs.Reading.{is_level, is_up_up, is_backslash, is_prefix, behind_at, one_of, backslash_of, prefix_of, suffix_at, power_at, power_of, linked_of, step_of, side_of, arrow_of, way_of}
use Rattle.regex_grammar.specs.Grammar.{Linked, StepForm, arrow_operator, way_operator}
use Rattle.regex_tokens.proofs.Fronts.{after_takes, after_again}
use Rattle.regex_tokens.specs.Fronts.{after}
use Rattle.regex_tokens.specs.declared.token.Operator.{Operator}
use Rattle.regex_tokens.specs.declared.token.Operator.TheVariants.{Backslash, Tilde, Dollar, Star, Plus, Caret, Upper, Lower, Inverse, Reverse, Bar, Ampersand, Minus, CrossWith, Then, UpUp, LowUp, UpLow, LowLow, Optional, Arrow, LeftLongest, LeftShortest, RightLongest, RightShortest, Only, Slash, Colon, Comma, GroupComma}
use Rattle.regex_tokens.specs.declared.token.Token.{Token}
use Rattle.regex_tokens.specs.declared.token.Token.TheVariants.{Operator as operator, Quoted as quoted_token, Braced as braced_token, Run as run_token}

behind_first : {T : Type 0} (rest : List Token) (o : Option T) (x : T × List Token) → option_map (λ t. (t, rest)) o ≡ Some x → x.1 ≡ rest
behind_first rest None x e = absurd cc
behind_first {T} rest (Some t) x e = let pair : T × List Token = (t, rest) in let same : pair ≡ x = cc in ap (λ (y : T × List Token). y.1) (sym same)

-- what is behind the first token is shorter
pub one_shorter : {T : Type 0} (choose : Operator → Option T) (tokens : List Token) (x : T × List Token) → one_of choose tokens ≡ Some x → length x.1 < length tokens
one_shorter choose [] x e = absurd cc
one_shorter choose (operator o ∷ rest) x e = omega (arith, ap length (behind_first rest (choose o) x e))
one_shorter choose (quoted_token cs ∷ rest) x e = absurd cc
one_shorter choose (braced_token cs ∷ rest) x e = absurd cc
one_shorter choose (run_token r ∷ rest) x e = absurd cc

pub backslash_begins : (tokens : List Token) (x : ⊤ × List Token) → one_of backslash_of tokens ≡ Some x → begins is_backslash tokens ≡ true
backslash_begins [] x e = absurd cc
backslash_begins (operator Backslash ∷ rest) x e = refl
backslash_begins (operator _ ∷ rest) x e = absurd cc
backslash_begins (_ ∷ rest) x e = absurd cc

pub no_backslash : (tokens : List Token) → None ≡ one_of backslash_of tokens → begins is_backslash tokens ≡ false
no_backslash [] e = refl
no_backslash (operator Backslash ∷ rest) e = absurd cc
no_backslash (operator _ ∷ rest) e = refl
no_backslash (_ ∷ rest) e = refl

pub prefix_begins : (tokens : List Token) (x : Prefix × List Token) → one_of prefix_of tokens ≡ Some x → begins is_prefix tokens ≡ true
prefix_begins [] x e = absurd cc
prefix_begins (operator Tilde ∷ rest) x e = refl
prefix_begins (operator Dollar ∷ rest) x e = refl
prefix_begins (operator _ ∷ rest) x e = absurd cc
prefix_begins (_ ∷ rest) x e = absurd cc

pub no_prefix : (tokens : List Token) → None ≡ one_of prefix_of tokens → begins is_prefix tokens ≡ false
no_prefix [] e = refl
no_prefix (operator Tilde ∷ rest) e = absurd cc
no_prefix (operator Dollar ∷ rest) e = absurd cc
no_prefix (operator _ ∷ rest) e = refl
no_prefix (_ ∷ rest) e = refl

some_behind : (s : Suffix) (rest : List Token) (x : Suffix × List Token) → Some (s, rest) ≡ Some x → x.1 ≡ rest
some_behind s rest x e = let pair : Suffix × List Token = (s, rest) in let same : pair ≡ x = cc in ap (λ (y : Suffix × List Token). y.1) (sym same)

power_shorter : (tokens : List Token) (x : Suffix × List Token) → power_at tokens ≡ Some x → length x.1 < length tokens
power_shorter [] x e = absurd cc
power_shorter (run_token r ∷ rest) x e = omega (arith, ap length (behind_first rest (power_of r.text r.escaped) x e))
power_shorter (_ ∷ rest) x e = absurd cc

pub suffix_shorter : (tokens : List Token) (x : Suffix × List Token) → suffix_at tokens ≡ Some x → length x.1 < length tokens
suffix_shorter [] x e = absurd cc
suffix_shorter (operator Star ∷ rest) x e = omega (arith, ap length (some_behind _ rest x e))
suffix_shorter (operator Plus ∷ rest) x e = omega (arith, ap length (some_behind _ rest x e))
suffix_shorter (operator Caret ∷ rest) x e = omega (arith, power_shorter rest x e)
suffix_shorter (operator Upper ∷ rest) x e = omega (arith, ap length (some_behind _ rest x e))
suffix_shorter (operator Lower ∷ rest) x e = omega (arith, ap length (some_behind _ rest x e))
suffix_shorter (operator Inverse ∷ rest) x e = omega (arith, ap length (some_behind _ rest x e))
suffix_shorter (operator Reverse ∷ rest) x e = omega (arith, ap length (some_behind _ rest x e))
suffix_shorter (operator _ ∷ rest) x e = absurd cc
suffix_shorter (_ ∷ rest) x e = absurd cc

pub link_begins : (tokens : List Token) (x : (Term Raw → Linked (Term Raw)) × List Token) → one_of (linked_of {T = Term Raw}) tokens ≡ Some x → begins (is_level 8) tokens ≡ true
link_begins [] x e = absurd cc
link_begins (operator Bar ∷ rest) x e = refl
link_begins (operator Ampersand ∷ rest) x e = refl
link_begins (operator Minus ∷ rest) x e = refl
link_begins (operator _ ∷ rest) x e = absurd cc
link_begins (_ ∷ rest) x e = absurd cc

pub no_link : (tokens : List Token) → None ≡ one_of (linked_of {T = Term Raw}) tokens → begins (is_level 8) tokens ≡ false
no_link [] e = refl
no_link (operator Bar ∷ rest) e = absurd cc
no_link (operator Ampersand ∷ rest) e = absurd cc
no_link (operator Minus ∷ rest) e = absurd cc
no_link (operator _ ∷ rest) e = refl
no_link (quoted_token cs ∷ rest) e = refl
no_link (braced_token cs ∷ rest) e = refl
no_link (run_token r ∷ rest) e = refl

pub step_begins : (tokens : List Token) (x : (Term Raw → StepForm (Term Raw)) × List Token) → one_of (step_of {T = Term Raw}) tokens ≡ Some x → begins (is_level 15) tokens ≡ true
step_begins [] x e = absurd cc
step_begins (operator CrossWith ∷ rest) x e = refl
step_begins (operator Then ∷ rest) x e = refl
step_begins (operator _ ∷ rest) x e = absurd cc
step_begins (_ ∷ rest) x e = absurd cc

pub no_step : (tokens : List Token) → None ≡ one_of (step_of {T = Term Raw}) tokens → begins (is_level 15) tokens ≡ false
no_step [] e = refl
no_step (operator CrossWith ∷ rest) e = absurd cc
no_step (operator Then ∷ rest) e = absurd cc
no_step (operator _ ∷ rest) e = refl
no_step (quoted_token cs ∷ rest) e = refl
no_step (braced_token cs ∷ rest) e = refl
no_step (run_token r ∷ rest) e = refl

pub no_slash : (tokens : List Token) → None ≡ after Slash tokens → begins (is_level 6) tokens ≡ false
no_slash [] e = refl
no_slash (operator Slash ∷ rest) e = let clash : None ≡ Some rest = e ∙ after_again Slash rest in absurd cc
no_slash (operator _ ∷ rest) e = refl
no_slash (quoted_token cs ∷ rest) e = refl
no_slash (braced_token cs ∷ rest) e = refl
no_slash (run_token r ∷ rest) e = refl

pub no_colon : (tokens : List Token) → None ≡ after Colon tokens → begins (is_level 3) tokens ≡ false
no_colon [] e = refl
no_colon (operator Colon ∷ rest) e = let clash : None ≡ Some rest = e ∙ after_again Colon rest in absurd cc
no_colon (operator _ ∷ rest) e = refl
no_colon (quoted_token cs ∷ rest) e = refl
no_colon (braced_token cs ∷ rest) e = refl
no_colon (run_token r ∷ rest) e = refl

pub no_comma : (tokens : List Token) → None ≡ after Comma tokens → begins (is_level 11) tokens ≡ false
no_comma [] e = refl
no_comma (operator Comma ∷ rest) e = let clash : None ≡ Some rest = e ∙ after_again Comma rest in absurd cc
no_comma (operator _ ∷ rest) e = refl
no_comma (quoted_token cs ∷ rest) e = refl
no_comma (braced_token cs ∷ rest) e = refl
no_comma (run_token r ∷ rest) e = refl

pub no_group_comma : (tokens : List Token) → None ≡ after GroupComma tokens → begins (is_level 13) tokens ≡ false
no_group_comma [] e = refl
no_group_comma (operator GroupComma ∷ rest) e = let clash : None ≡ Some rest = e ∙ after_again GroupComma rest in absurd cc
no_group_comma (operator _ ∷ rest) e = refl
no_group_comma (quoted_token cs ∷ rest) e = refl
no_group_comma (braced_token cs ∷ rest) e = refl
no_group_comma (run_token r ∷ rest) e = refl

pub no_up_up : (tokens : List Token) → None ≡ after UpUp tokens → begins is_up_up tokens ≡ false
no_up_up [] e = refl
no_up_up (operator UpUp ∷ rest) e = let clash : None ≡ Some rest = e ∙ after_again UpUp rest in absurd cc
no_up_up (operator _ ∷ rest) e = refl
no_up_up (quoted_token cs ∷ rest) e = refl
no_up_up (braced_token cs ∷ rest) e = refl
no_up_up (run_token r ∷ rest) e = refl

pub side_begins : (tokens : List Token) (x : Side × List Token) → one_of side_of tokens ≡ Some x → begins (is_level 12) tokens ≡ true
side_begins [] x e = absurd cc
side_begins (operator UpUp ∷ rest) x e = refl
side_begins (operator LowUp ∷ rest) x e = refl
side_begins (operator UpLow ∷ rest) x e = refl
side_begins (operator LowLow ∷ rest) x e = refl
side_begins (operator _ ∷ rest) x e = absurd cc
side_begins (_ ∷ rest) x e = absurd cc

pub no_side : (tokens : List Token) → None ≡ one_of side_of tokens → begins (is_level 12) tokens ≡ false
no_side [] e = refl
no_side (operator UpUp ∷ rest) e = absurd cc
no_side (operator LowUp ∷ rest) e = absurd cc
no_side (operator UpLow ∷ rest) e = absurd cc
no_side (operator LowLow ∷ rest) e = absurd cc
no_side (operator _ ∷ rest) e = refl
no_side (quoted_token cs ∷ rest) e = refl
no_side (braced_token cs ∷ rest) e = refl
no_side (run_token r ∷ rest) e = refl

arrow_same : (a b : Bool × List Token) → Some a ≡ Some b → operator (arrow_operator b.0) ∷ b.1 ≡ operator (arrow_operator a.0) ∷ a.1
arrow_same a b e = let same : a ≡ b = cc in ap (λ (x : Bool × List Token). operator (arrow_operator x.0) ∷ x.1) (sym same)

-- the tokens that an arrow begins
pub arrow_takes : (tokens : List Token) (optional : Bool) (behind : List Token) → Some (optional, behind) ≡ one_of arrow_of tokens → tokens ≡ operator (arrow_operator optional) ∷ behind
arrow_takes [] optional behind e = absurd cc
arrow_takes (operator Optional ∷ rest) optional behind e = arrow_same (optional, behind) (true, rest) e
arrow_takes (operator Arrow ∷ rest) optional behind e = arrow_same (optional, behind) (false, rest) e
arrow_takes (operator _ ∷ rest) optional behind e = absurd cc
arrow_takes (_ ∷ rest) optional behind e = absurd cc

way_same : (a b : Way × List Token) → Some a ≡ Some b → operator (way_operator b.0) ∷ b.1 ≡ operator (way_operator a.0) ∷ a.1
way_same a b e = let same : a ≡ b = cc in ap (λ (x : Way × List Token). operator (way_operator x.0) ∷ x.1) (sym same)

pub way_takes : (tokens : List Token) (way : Way) (behind : List Token) → Some (way, behind) ≡ one_of way_of tokens → tokens ≡ operator (way_operator way) ∷ behind
way_takes [] way behind e = absurd cc
way_takes (operator LeftLongest ∷ rest) way behind e = way_same (way, behind) (left_longest, rest) e
way_takes (operator LeftShortest ∷ rest) way behind e = way_same (way, behind) (left_shortest, rest) e
way_takes (operator RightLongest ∷ rest) way behind e = way_same (way, behind) (right_longest, rest) e
way_takes (operator RightShortest ∷ rest) way behind e = way_same (way, behind) (right_shortest, rest) e
way_takes (operator _ ∷ rest) way behind e = absurd cc
way_takes (_ ∷ rest) way behind e = absurd cc

pub no_ruling : (tokens : List Token) → None ≡ after Only tokens → None ≡ one_of arrow_of tokens → None ≡ one_of way_of tokens → begins (is_level 14) tokens ≡ false
no_ruling [] d e g = refl
no_ruling (operator Only ∷ rest) d e g = let clash : None ≡ Some rest = d ∙ after_again Only rest in absurd cc
no_ruling (operator Optional ∷ rest) d e g = absurd cc
no_ruling (operator Arrow ∷ rest) d e g = absurd cc
no_ruling (operator LeftLongest ∷ rest) d e g = absurd cc
no_ruling (operator LeftShortest ∷ rest) d e g = absurd cc
no_ruling (operator RightLongest ∷ rest) d e g = absurd cc
no_ruling (operator RightShortest ∷ rest) d e g = absurd cc
no_ruling (operator _ ∷ rest) d e g = refl
no_ruling (quoted_token cs ∷ rest) d e g = refl
no_ruling (braced_token cs ∷ rest) d e g = refl
no_ruling (run_token r ∷ rest) d e g = refl

-- what is behind an operator begins with it
pub after_begins : (o : Operator) (p : Token → Bool) → p (operator o) ≡ true → (tokens rest : List Token) → after o tokens ≡ Some rest → begins p tokens ≡ true
after_begins o p passes tokens rest e = ap (begins p) (after_takes o tokens rest e) ∙ passes

-- Reading behind an operator.

pub behind_found : {T U : Type 0} (o : Operator) (make : T → U) (read : Reader Token T) (tokens operand : List Token) (t : T) (behind : List Token) (u : U) → after o tokens ≡ Some operand → read operand ≡ Some (t, behind) → u ≡ make t → behind_at o make read tokens ≡ Some (u, behind)
behind_found {T} o make read tokens operand t behind u front item same =
    ap (option_and_then (λ rest. option_map (λ (x : T × List Token). (make x.0, x.1)) (read rest))) front
    ∙ ap (option_map (λ (x : T × List Token). (make x.0, x.1))) item
    ∙ ap (λ v. Some (v, behind)) (sym same)

pub behind_fails : {T U : Type 0} (o : Operator) (make : T → U) (read : Reader Token T) (tokens operand : List Token) → after o tokens ≡ Some operand → None ≡ read operand → None ≡ behind_at o make read tokens
behind_fails {T} o make read tokens operand front item =
    ap (option_map (λ (x : T × List Token). (make x.0, x.1))) item
    ∙ sym (ap (option_and_then (λ rest. option_map (λ (x : T × List Token). (make x.0, x.1)) (read rest))) front)

-- what is read behind one of some operators
pub formed_found : {T U : Type 0} (choose : Operator → Option (T → U)) (read : Reader Token T) (tokens : List Token) (make : T → U) (operand : List Token) (t : T) (behind : List Token) (u : U)
    → one_of choose tokens ≡ Some (make, operand) → read operand ≡ Some (t, behind) → u ≡ make t → option_and_then (λ y. made y.0 (read y.1)) (one_of choose tokens) ≡ Some (u, behind)
formed_found {T} {U} choose read tokens make operand t behind u front item same =
    ap (option_and_then (λ (y : (T → U) × List Token). option_map (λ (x : T × List Token). (y.0 x.0, x.1)) (read y.1))) front
    ∙ ap (option_map (λ (x : T × List Token). (make x.0, x.1))) item
    ∙ ap (λ v. Some (v, behind)) (sym same)

pub formed_fails : {T U : Type 0} (choose : Operator → Option (T → U)) (read : Reader Token T) (tokens : List Token) (make : T → U) (operand : List Token)
    → one_of choose tokens ≡ Some (make, operand) → None ≡ read operand → None ≡ option_and_then (λ y. made y.0 (read y.1)) (one_of choose tokens)
formed_fails {T} {U} choose read tokens make operand front item =
    ap (option_map (λ (x : T × List Token). (make x.0, x.1))) item
    ∙ sym (ap (option_and_then (λ (y : (T → U) × List Token). option_map (λ (x : T × List Token). (y.0 x.0, x.1)) (read y.1))) front)
