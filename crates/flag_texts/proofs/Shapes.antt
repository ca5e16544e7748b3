-- The parts of a flag, and that it has them in one way.
use Rattle.std.proofs.Common.{◌≡◌, ◌≢◌, ℕ, List, [], ◌∷◌, ◌++◌, Option, Some, None, refl, sym, ap, subst, ◌∙◌, arith, append_assoc}
use Rattle.std.proofs.lemmas.List.{append_cancel_right}
use Rattle.std.proofs.lemmas.List.Elements.{All-nil, All-cons, All-append, All-weaker}
use Rattle.regex_ast.specs.Flags.{IsFlag, valued, plain, IsFeature, IsFeatureByte, HasValue, HasNoValue, sets, negates, unifies, requires_value, bars_value, clears, requires_any, bars_any}
use Rattle.regex_ast.specs.declared.lexc.FlagKind.{FlagKind}
use Rattle.regex_ast.specs.declared.lexc.FlagKind.TheVariants.{P, N, C, R, D, U}
use Rattle.flag_texts.specs.Reading.{letter_of, ending_of, MayHave, HasNo}
use Rattle.flag_texts.proofs.Splits.{one_split, has_mark}

-- the feature and what is behind it, without the last mark
abbrev pub body : List ℕ → Option (List ℕ) → List ℕ
body feature None = feature
body feature (Some value) = feature ++ 46 ∷ value

pub record Shape (text : List ℕ) : Type 0 where
  pub kind : FlagKind
  pub feature : List ℕ
  pub value : Option (List ℕ)
  pub feature_is : IsFeature feature
  pub value_is : MayHave kind value
  pub spelled : text ≡ 64 ∷ (letter_of kind ∷ 46 ∷ body feature value) ++ 64 ∷ []

-- a flag has a shape
with_value : (text feature value : List ℕ) (kind : FlagKind) → HasValue (letter_of kind) → IsFeature feature → IsFeature value → text ≡ 64 ∷ letter_of kind ∷ 46 ∷ feature ++ 46 ∷ value ++ 64 ∷ [] → Shape text
with_value text feature value kind has is v_is e = record { kind = kind; feature = feature; value = Some value; feature_is = is; value_is = (has, v_is); spelled = e }

without_value : (text feature : List ℕ) (kind : FlagKind) → HasNoValue (letter_of kind) → IsFeature feature → text ≡ 64 ∷ letter_of kind ∷ 46 ∷ feature ++ 64 ∷ [] → Shape text
without_value text feature kind has is e = record { kind = kind; feature = feature; value = None; feature_is = is; value_is = has; spelled = e }

pub shape_of : (text : List ℕ) → IsFlag text → Shape text
shape_of text (valued kind feature value sets is v_is e) = with_value text feature value P sets is v_is e
shape_of text (valued kind feature value negates is v_is e) = with_value text feature value N negates is v_is e
shape_of text (valued kind feature value unifies is v_is e) = with_value text feature value U unifies is v_is e
shape_of text (valued kind feature value requires_value is v_is e) = with_value text feature value R requires_value is v_is e
shape_of text (valued kind feature value bars_value is v_is e) = with_value text feature value D bars_value is v_is e
shape_of text (plain kind feature clears is e) = without_value text feature C clears is e
shape_of text (plain kind feature requires_any is e) = without_value text feature R requires_any is e
shape_of text (plain kind feature bars_any is e) = without_value text feature D bars_any is e

-- bytes that don't stand in features
feature_has_no : (mark : ℕ) → ((b : ℕ) → IsFeatureByte b → b ≢ mark) → (feature : List ℕ) → IsFeature feature → HasNo mark feature
feature_has_no mark apart feature is = All-weaker IsFeatureByte (λ b. b ≢ mark) apart feature is.1

pub no_dot : (feature : List ℕ) → IsFeature feature → HasNo 46 feature
no_dot feature is = feature_has_no 46 (λ b h. h.3) feature is

no_mark : (feature : List ℕ) → IsFeature feature → HasNo 64 feature
no_mark feature is = feature_has_no 64 (λ b h. h.4) feature is

letter_apart : (kind : FlagKind) → (letter_of kind ≢ 64) × (letter_of kind ≢ 46)
letter_apart P = (λ e. absurd (omega arith), λ e. absurd (omega arith))
letter_apart N = (λ e. absurd (omega arith), λ e. absurd (omega arith))
letter_apart C = (λ e. absurd (omega arith), λ e. absurd (omega arith))
letter_apart R = (λ e. absurd (omega arith), λ e. absurd (omega arith))
letter_apart D = (λ e. absurd (omega arith), λ e. absurd (omega arith))
letter_apart U = (λ e. absurd (omega arith), λ e. absurd (omega arith))

dot_apart : (b : ℕ) → b ≡ 46 → b ≢ 64
dot_apart b is e = absurd (omega arith)

body_has_no_mark : (feature : List ℕ) (value : Option (List ℕ)) (kind : FlagKind) → IsFeature feature → MayHave kind value → HasNo 64 (body feature value)
body_has_no_mark feature None kind is v = no_mark feature is
body_has_no_mark feature (Some value) kind is v = All-append (λ b. b ≢ 64) feature (46 ∷ value) (no_mark feature is) (All-cons (λ b. b ≢ 64) 46 value (dot_apart 46 refl) (no_mark value v.1))

-- nothing else is spelled so
module _ (text : List ℕ) (flag : IsFlag text) where
  shape : Shape text
  shape = shape_of text flag

  inner_is : HasNo 64 (letter_of shape.kind ∷ 46 ∷ body shape.feature shape.value)
  inner_is = All-cons (λ b. b ≢ 64) (letter_of shape.kind) (46 ∷ body shape.feature shape.value) (letter_apart shape.kind).0 (All-cons (λ b. b ≢ 64) 46 (body shape.feature shape.value) (dot_apart 46 refl) (body_has_no_mark shape.feature shape.value shape.kind shape.feature_is shape.value_is))

  pub no_between : ((inner : List ℕ) → HasNo 64 inner → text ≢ 64 ∷ inner ++ 64 ∷ []) → ⊥
  no_between never = never (letter_of shape.kind ∷ 46 ∷ body shape.feature shape.value) inner_is shape.spelled

  module _ (inner : List ℕ) (at : text ≡ 64 ∷ inner ++ 64 ∷ []) where
    same_inner : inner ≡ letter_of shape.kind ∷ 46 ∷ body shape.feature shape.value
    same_inner =
        let marked : 64 ∷ inner ++ 64 ∷ [] ≡ 64 ∷ (letter_of shape.kind ∷ 46 ∷ body shape.feature shape.value) ++ 64 ∷ [] = sym at ∙ shape.spelled in
        let ends : inner ++ 64 ∷ [] ≡ (letter_of shape.kind ∷ 46 ∷ body shape.feature shape.value) ++ 64 ∷ [] = cc in
        append_cancel_right inner (letter_of shape.kind ∷ 46 ∷ body shape.feature shape.value) (64 ∷ []) ends

    pub no_letter : HasNo 46 inner → ⊥
    no_letter none = has_mark 46 (letter_of shape.kind ∷ []) (body shape.feature shape.value) (subst (HasNo 46) same_inner none)

    module _ (letter rest : List ℕ) (letter_is : HasNo 46 letter) (split : inner ≡ letter ++ 46 ∷ rest) where
      one_letter : HasNo 46 (letter_of shape.kind ∷ [])
      one_letter = All-cons (λ b. b ≢ 46) (letter_of shape.kind) [] (letter_apart shape.kind).1 (All-nil (λ b. b ≢ 46))

      same_parts : (letter ≡ letter_of shape.kind ∷ []) × (rest ≡ body shape.feature shape.value)
      same_parts = one_split 46 letter (letter_of shape.kind ∷ []) rest (body shape.feature shape.value) letter_is one_letter (sym split ∙ same_inner)

      pub no_kind : ((kind : FlagKind) → letter ≢ letter_of kind ∷ []) → ⊥
      no_kind never = never shape.kind same_parts.0

      module _ (kind : FlagKind) (kind_is : letter ≡ letter_of kind ∷ []) where
        same_kind : kind ≡ shape.kind
        same_kind = by kind shape.kind (let same : letter_of kind ∷ [] ≡ letter_of shape.kind ∷ [] = sym kind_is ∙ same_parts.0 in cc)
          where
            by : (a b : FlagKind) → letter_of a ≡ letter_of b → a ≡ b
            by P P e = refl
            by P N e = absurd (omega arith)
            by P C e = absurd (omega arith)
            by P R e = absurd (omega arith)
            by P D e = absurd (omega arith)
            by P U e = absurd (omega arith)
            by N P e = absurd (omega arith)
            by N N e = refl
            by N C e = absurd (omega arith)
            by N R e = absurd (omega arith)
            by N D e = absurd (omega arith)
            by N U e = absurd (omega arith)
            by C P e = absurd (omega arith)
            by C N e = absurd (omega arith)
            by C C e = refl
            by C R e = absurd (omega arith)
            by C D e = absurd (omega arith)
            by C U e = absurd (omega arith)
            by R P e = absurd (omega arith)
            by R N e = absurd (omega arith)
            by R C e = absurd (omega arith)
            by R R e = refl
            by R D e = absurd (omega arith)
            by R U e = absurd (omega arith)
            by D P e = absurd (omega arith)
            by D N e = absurd (omega arith)
            by D C e = absurd (omega arith)
            by D R e = absurd (omega arith)
            by D D e = refl
            by D U e = absurd (omega arith)
            by U P e = absurd (omega arith)
            by U N e = absurd (omega arith)
            by U C e = absurd (omega arith)
            by U R e = absurd (omega arith)
            by U D e = absurd (omega arith)
            by U U e = refl

        -- the rest is a feature alone, or a feature and a value
        alone : HasNo 46 rest → (v : Option (List ℕ)) → rest ≡ body shape.feature v → MayHave shape.kind v → IsFeature rest × MayHave kind None
        alone none None is may = (subst IsFeature (sym is) shape.feature_is, subst (λ k. MayHave k None) (sym same_kind) may)
        alone none (Some v) is may = absurd (has_mark 46 shape.feature v (subst (HasNo 46) is none))

        pub parts_alone : HasNo 46 rest → IsFeature rest × MayHave kind None
        parts_alone none = alone none shape.value same_parts.1 shape.value_is

        both : (feature value : List ℕ) → HasNo 46 feature → rest ≡ feature ++ 46 ∷ value → (v : Option (List ℕ)) → rest ≡ body shape.feature v → MayHave shape.kind v → IsFeature feature × MayHave kind (Some value)
        both feature value none at' None is may = absurd (has_mark 46 feature value (subst (HasNo 46) (sym is ∙ at') (no_dot shape.feature shape.feature_is)))
        both feature value none at' (Some v) is may =
            let same = one_split 46 feature shape.feature value v none (no_dot shape.feature shape.feature_is) (sym at' ∙ is) in
            (subst IsFeature (sym same.0) shape.feature_is, subst (λ k. MayHave k (Some value)) (sym same_kind) (subst (λ z. MayHave shape.kind (Some z)) (sym same.1) may))

        pub parts_both : (feature value : List ℕ) → HasNo 46 feature → rest ≡ feature ++ 46 ∷ value → IsFeature feature × MayHave kind (Some value)
        parts_both feature value none at' = both feature value none at' shape.value same_parts.1 shape.value_is

-- parts that are put together
pub spelled_alone : (text inner letter rest : List ℕ) (kind : FlagKind) → text ≡ 64 ∷ inner ++ 64 ∷ [] → inner ≡ letter ++ 46 ∷ rest → letter ≡ letter_of kind ∷ [] → text ≡ 64 ∷ letter_of kind ∷ 46 ∷ rest ++ ending_of None
spelled_alone text inner letter rest kind at split is = at ∙ ap (λ (z : List ℕ). 64 ∷ z ++ 64 ∷ []) (split ∙ ap (λ (z : List ℕ). z ++ 46 ∷ rest) is)

pub spelled_both : (text inner letter rest feature value : List ℕ) (kind : FlagKind) → text ≡ 64 ∷ inner ++ 64 ∷ [] → inner ≡ letter ++ 46 ∷ rest → letter ≡ letter_of kind ∷ [] → rest ≡ feature ++ 46 ∷ value → text ≡ 64 ∷ letter_of kind ∷ 46 ∷ feature ++ ending_of (Some value)
spelled_both text inner letter rest feature value kind at split is parts =
    at ∙ ap (λ (z : List ℕ). 64 ∷ z ++ 64 ∷ []) (split ∙ ap (λ (z : List ℕ). z ++ 46 ∷ rest) is)
    ∙ ap (λ (z : List ℕ). 64 ∷ letter_of kind ∷ 46 ∷ (z ++ 64 ∷ [])) parts
    ∙ ap (λ (z : List ℕ). 64 ∷ letter_of kind ∷ 46 ∷ z) (append_assoc feature (46 ∷ value) (64 ∷ []))

-- between two marks
pub no_front : (text before rest : List ℕ) → HasNo 64 before → text ≡ before ++ 64 ∷ rest → (before ≡ [] → ⊥) → (inner : List ℕ) → HasNo 64 inner → text ≢ 64 ∷ inner ++ 64 ∷ []
no_front text before rest none at some inner is e = some (one_split 64 before [] rest (inner ++ 64 ∷ []) none (All-nil (λ b. b ≢ 64)) (sym at ∙ e)).0

behind_front : (text before rest inner : List ℕ) → HasNo 64 before → text ≡ before ++ 64 ∷ rest → text ≡ 64 ∷ inner ++ 64 ∷ [] → rest ≡ inner ++ 64 ∷ []
behind_front text before rest inner none at e = (one_split 64 before [] rest (inner ++ 64 ∷ []) none (All-nil (λ b. b ≢ 64)) (sym at ∙ e)).1

pub no_second : (text before rest : List ℕ) → HasNo 64 before → text ≡ before ++ 64 ∷ rest → HasNo 64 rest → (inner : List ℕ) → HasNo 64 inner → text ≢ 64 ∷ inner ++ 64 ∷ []
no_second text before rest none at clear inner is e = has_mark 64 inner [] (subst (HasNo 64) (behind_front text before rest inner none at e) clear)

pub no_end : (text before rest middle behind : List ℕ) → HasNo 64 before → text ≡ before ++ 64 ∷ rest → HasNo 64 middle → rest ≡ middle ++ 64 ∷ behind → (behind ≡ [] → ⊥) → (inner : List ℕ) → HasNo 64 inner → text ≢ 64 ∷ inner ++ 64 ∷ []
no_end text before rest middle behind none at clear split some inner is e =
    some (one_split 64 middle inner behind [] clear is (sym split ∙ behind_front text before rest inner none at e)).1
