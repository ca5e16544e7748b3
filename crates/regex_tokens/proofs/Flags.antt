-- The test of a flag and what a flag is.
use Rattle.std.proofs.Common.{◌≡◌, ◌↔◌, ◌≢◌, ℕ, ◌<◌, ◌==◌, Bool, true, false, not, ◌&&◌, ◌||◌, List, [], ◌∷◌, ◌++◌, length, All, refl, sym, ap, subst, ◌∙◌, arith, append_assoc}
use Rattle.std.specs.Bool.{Decides}
use Rattle.std.specs.List.{list_all}
use Rattle.std.proofs.lemmas.Bool.Decides.{Decides-eqb, Decides-by_and, nat_tests}
use Rattle.regex_ast.specs.Flags.{IsFeatureByte, IsFeature, HasValue, sets, negates, unifies, requires_value, bars_value, HasNoValue, clears, requires_any, bars_any, IsFlag, valued, plain}
use Rattle.regex_tokens.specs.Reading.{is_feature_byte}
use Rattle.regex_tokens.specs.Reading.{taken, left, has_value, has_no_value, is_at, is_value, is_behind_feature, is_behind_kind, is_flag}
use Rattle.regex_tokens.proofs.Lists.{and_left, and_right, and_true, taken-left, list_all-taken, taken-front, left-front}
use Rattle.regex_tokens.proofs.Lists.{false_by}

or_cases : {P : Type 0} (a b : Bool) → (a || b) ≡ true → (a ≡ true → P) → (b ≡ true → P) → P
or_cases true b e l r = l refl
or_cases false b e l r = r e

or_left : (a b : Bool) → a ≡ true → (a || b) ≡ true
or_left a b e = rw e refl

or_right : (a b : Bool) → b ≡ true → (a || b) ≡ true
or_right true b e = refl
or_right false b e = e

differs : (b c : ℕ) → b ≢ c → (b == c) ≡ false
differs b c h = false_by (b == c) (λ e. absurd (h ((Decides-eqb b c).0 e)))

feature_byte : (b : ℕ) → Decides (is_feature_byte b) (IsFeatureByte b)
feature_byte b = (
  (λ e. (
    (λ h. let clash : true ≡ false = sym e ∙ ap is_feature_byte h in cc),
    (λ h. let clash : true ≡ false = sym e ∙ ap is_feature_byte h in cc),
    (λ h. let clash : true ≡ false = sym e ∙ ap is_feature_byte h in cc),
    (λ h. let clash : true ≡ false = sym e ∙ ap is_feature_byte h in cc),
    (λ h. let clash : true ≡ false = sym e ∙ ap is_feature_byte h in cc),
  )),
  (λ h. rw (differs b 9 h.0, differs b 10 h.1, differs b 32 h.2, differs b 46 h.3, differs b 64 h.4) refl),
)

feature_bytes : (bs : List ℕ) → Decides (list_all is_feature_byte bs) (All IsFeatureByte bs)
feature_bytes bs = Decides-by_and is_feature_byte IsFeatureByte (list_all is_feature_byte) feature_byte refl (λ _ _. refl) bs

not_empty : (n : ℕ) → not (n == 0) ≡ true → 0 < n
not_empty n e = grind (arith, nat_tests)

is_not_empty : (n : ℕ) → 0 < n → not (n == 0) ≡ true
is_not_empty n h = grind (arith, nat_tests)

no_bytes : (bs : List ℕ) → (length bs == 0) ≡ true → bs ≡ []
no_bytes [] e = refl
no_bytes (b ∷ bs) e = let none : length (b ∷ bs) ≡ 0 = (Decides-eqb (length (b ∷ bs)) 0).0 e in absurd (omega arith)

feature_of : (text : List ℕ) → not (length (taken is_feature_byte text) == 0) ≡ true → IsFeature (taken is_feature_byte text)
feature_of text e = (not_empty _ e, (feature_bytes _).0 (list_all-taken is_feature_byte text))

at_end : (text : List ℕ) → is_at text ≡ true → text ≡ 64 ∷ []
at_end [] e = cc
at_end (c ∷ rest) e = let first : c ≡ 64 = (Decides-eqb c 64).0 (and_left _ _ e) in let none : rest ≡ [] = no_bytes rest (and_right (c == 64) _ e) in cc

-- A test that holds tells a flag.

spelled_plain : (a k dot : ℕ) (rest feature after : List ℕ) (c : ℕ) → a ≡ 64 → dot ≡ 46 → feature ++ c ∷ after ≡ rest → c ≡ 64 → after ≡ [] → a ∷ k ∷ dot ∷ rest ≡ 64 ∷ k ∷ 46 ∷ feature ++ 64 ∷ []
spelled_plain a k dot rest feature after c ea ed er ec en = rw (ea, ed, ← er, ec, en) refl

spelled_valued : (a k dot : ℕ) (rest feature after value end : List ℕ) (c : ℕ) → a ≡ 64 → dot ≡ 46 → feature ++ c ∷ after ≡ rest → c ≡ 46 → value ++ end ≡ after → end ≡ 64 ∷ [] → a ∷ k ∷ dot ∷ rest ≡ 64 ∷ k ∷ 46 ∷ feature ++ 46 ∷ value ++ 64 ∷ []
spelled_valued a k dot rest feature after value end c ea ed er ec ev ee = rw (ea, ed, ← er, ec, ← ev, ee) (ap (λ t. 64 ∷ k ∷ 46 ∷ t) (sym (append_assoc feature (46 ∷ value) (64 ∷ []))))

kind_valued : {P : Type 0} (k : ℕ) → has_value k ≡ true → (HasValue k → P) → P
kind_valued k e flag = or_cases _ _ e (λ h. flag (at 80 sets h)) (λ e. or_cases _ _ e (λ h. flag (at 85 unifies h)) (λ e. or_cases _ _ e (λ h. flag (at 82 requires_value h)) (λ e. or_cases _ _ e (λ h. flag (at 68 bars_value h)) (λ h. flag (at 78 negates h))))) where
  at : (n : ℕ) → HasValue n → (k == n) ≡ true → HasValue k
  at n h e = subst HasValue (sym ((Decides-eqb k n).0 e)) h

kind_plain : {P : Type 0} (k : ℕ) → has_no_value k ≡ true → (HasNoValue k → P) → P
kind_plain k e flag = or_cases _ _ e (λ h. flag (at 67 clears h)) (λ e. or_cases _ _ e (λ h. flag (at 82 requires_any h)) (λ h. flag (at 68 bars_any h))) where
  at : (n : ℕ) → HasNoValue n → (k == n) ≡ true → HasNoValue k
  at n h e = subst HasNoValue (sym ((Decides-eqb k n).0 e)) h

flag_behind : (a k dot : ℕ) (rest feature behind : List ℕ) → a ≡ 64 → dot ≡ 46 → feature ++ behind ≡ rest → IsFeature feature → is_behind_feature k behind ≡ true → IsFlag (a ∷ k ∷ dot ∷ rest)
flag_behind a k dot rest feature [] ea ed er hf e = absurd cc
flag_behind a k dot rest feature (c ∷ after) ea ed er hf e = or_cases _ _ e
    (λ h. let ends : (has_no_value k && length after == 0) ≡ true = and_right (c == 64) _ h in
    kind_plain k (and_left _ _ ends) (λ kind. plain k feature kind hf
    (spelled_plain a k dot rest feature after c ea ed er ((Decides-eqb c 64).0 (and_left _ _ h)) (no_bytes after (and_right (has_no_value k) _ ends)))))
    (λ h. let goes : (has_value k && is_value after) ≡ true = and_right (c == 46) _ h in
    let value_is : is_value after ≡ true = and_right (has_value k) _ goes in
    let hv : IsFeature (taken is_feature_byte after) = feature_of after (and_left _ _ value_is) in
    let spelled : a ∷ k ∷ dot ∷ rest ≡ 64 ∷ k ∷ 46 ∷ feature ++ 46 ∷ taken is_feature_byte after ++ 64 ∷ [] =
    spelled_valued a k dot rest feature after (taken is_feature_byte after) (left is_feature_byte after) c ea ed er ((Decides-eqb c 46).0 (and_left _ _ h)) (taken-left is_feature_byte after) (at_end _ (and_right (not (length (taken is_feature_byte after) == 0)) _ value_is)) in
    kind_valued k (and_left _ _ goes)
    (λ kind. valued k feature (taken is_feature_byte after) kind hf hv spelled))

pub flag_takes : (text : List ℕ) → is_flag text ≡ true → IsFlag text
flag_takes [] e = absurd cc
flag_takes (a ∷ []) e = absurd cc
flag_takes (a ∷ k ∷ []) e = absurd cc
flag_takes (a ∷ k ∷ dot ∷ rest) e =
    let more : (dot == 46 && is_behind_kind k rest) ≡ true = and_right (a == 64) _ e in
    let behind : is_behind_kind k rest ≡ true = and_right (dot == 46) _ more in
    flag_behind a k dot rest (taken is_feature_byte rest) (left is_feature_byte rest) ((Decides-eqb a 64).0 (and_left _ _ e)) ((Decides-eqb dot 46).0 (and_left _ _ more)) (taken-left is_feature_byte rest)
    (feature_of rest (and_left _ _ behind)) (and_right (not (length (taken is_feature_byte rest) == 0)) _ behind)

-- A flag passes the test.

value_again : (value : List ℕ) → IsFeature value → is_value (value ++ 64 ∷ []) ≡ true
value_again value h =
    let all : list_all is_feature_byte value ≡ true = (feature_bytes value).1 h.1 in
    let front : taken is_feature_byte (value ++ 64 ∷ []) ≡ value = taken-front is_feature_byte value (64 ∷ []) all refl in
    let behind : left is_feature_byte (value ++ 64 ∷ []) ≡ 64 ∷ [] = left-front is_feature_byte value (64 ∷ []) all refl in
    and_true _ _ (ap (λ f. not (length f == 0)) front ∙ is_not_empty _ h.0) (ap is_at behind)

behind_kind_again : (k : ℕ) (feature rest : List ℕ) (c : ℕ) → IsFeature feature → is_feature_byte c ≡ false → is_behind_feature k (c ∷ rest) ≡ true → is_behind_kind k (feature ++ c ∷ rest) ≡ true
behind_kind_again k feature rest c h stop e =
    let all : list_all is_feature_byte feature ≡ true = (feature_bytes feature).1 h.1 in
    let front : taken is_feature_byte (feature ++ c ∷ rest) ≡ feature = taken-front is_feature_byte feature (c ∷ rest) all stop in
    let behind : left is_feature_byte (feature ++ c ∷ rest) ≡ c ∷ rest = left-front is_feature_byte feature (c ∷ rest) all stop in
    and_true _ _ (ap (λ f. not (length f == 0)) front ∙ is_not_empty _ h.0) (ap (is_behind_feature k) behind ∙ e)

valued_again : (k : ℕ) (feature value : List ℕ) → has_value k ≡ true → IsFeature feature → IsFeature value → is_flag (64 ∷ k ∷ 46 ∷ feature ++ 46 ∷ value ++ 64 ∷ []) ≡ true
valued_again k feature value hk hf hv =
    ap (is_behind_kind k) (append_assoc feature (46 ∷ value) (64 ∷ [])) ∙ behind_kind_again k feature (value ++ 64 ∷ []) 46 hf refl (and_true _ _ hk (value_again value hv))

plain_again : (k : ℕ) (feature : List ℕ) → has_no_value k ≡ true → IsFeature feature → is_flag (64 ∷ k ∷ 46 ∷ feature ++ 64 ∷ []) ≡ true
plain_again k feature hk hf = behind_kind_again k feature [] 64 hf refl (or_left _ _ (and_true _ _ hk refl))

value_kind : (k : ℕ) → HasValue k → has_value k ≡ true
value_kind _ sets = refl
value_kind _ negates = refl
value_kind _ unifies = refl
value_kind _ requires_value = refl
value_kind _ bars_value = refl

plain_kind : (k : ℕ) → HasNoValue k → has_no_value k ≡ true
plain_kind _ clears = refl
plain_kind _ requires_any = refl
plain_kind _ bars_any = refl

flag_again : (text : List ℕ) → IsFlag text → is_flag text ≡ true
flag_again text (valued k feature value hk hf hv e) = ap is_flag e ∙ valued_again k feature value (value_kind k hk) hf hv
flag_again text (plain k feature hk hf e) = ap is_flag e ∙ plain_again k feature (plain_kind k hk) hf

-- just the flags pass the test
pub flags_pass : (text : List ℕ) → is_flag text ≡ true ↔ IsFlag text
flags_pass text = (flag_takes text, flag_again text)

-- a text that passes is no flag, and a text that is no flag passes
pub no_flag : (text : List ℕ) → Decides (not (is_flag text)) (IsFlag text → ⊥)
no_flag text = (
  (λ e f. clash (is_flag text) e (flag_again text f)),
  (λ h. fails (is_flag text) refl h),
) where
  clash : (b : Bool) → not b ≡ true → b ≡ true → ⊥
  clash true e f = cc
  clash false e f = cc

  fails : (b : Bool) → is_flag text ≡ b → (IsFlag text → ⊥) → not b ≡ true
  fails true e h = absurd (h (flag_takes text e))
  fails false e h = refl
