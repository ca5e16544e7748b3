-- The form of a word is one, where no declared symbol is a flag.
use Rattle.std.proofs.Common.{◌≡◌, ◌≢◌, ◌==◌, ℕ, Bool, true, false, cond, List, [], ◌∷◌, ◌++◌, map, take, drop, All, Option, None, Some, refl, sym, ap, subst, ◌∙◌, inl, inr, arith}
use Rattle.std.proofs.lemmas.List.{append_cancel_right}
use Rattle.std.proofs.lemmas.List.Elements.{All-push, All-contains, All-weaker}
use Rattle.std.specs.List.{list_any}
use Rattle.std.specs.Str.{encode_utf8_all, bytes_eq}
use Rattle.regex_ast.specs.Flags.{IsFlag, IsFeature, IsFeatureByte}
use Rattle.regex_ast.specs.declared.expr.Raw.{Raw}
use Rattle.regex_ast.specs.declared.lexc.FlagKind.{FlagKind}
use Rattle.regex_ast.specs.declared.lexc.FlagKind.TheVariants.{P, N, C, R, D, U}
use Rattle.regex_ast.specs.declared.lexc.FlagOp.{FlagOp}
use Rattle.regex_ast.specs.declared.lexc.Piece.{Piece}
use Rattle.regex_ast.specs.declared.lexc.Piece.TheVariants.{Flag}
use Rattle.regex_ast.specs.declared.lexc.Form.{Form as FormOf}
use Rattle.regex_ast.specs.declared.lexc.Form.TheVariants.{Sides, Pairs}
use Rattle.fsm_base.specs.Symbols.{with_text}
use Rattle.flag_texts.specs.Reading.{HasNo, IsFlagOf, MayHave, letter_of, ending_of}
use Rattle.flag_texts.proofs.Shapes.{no_dot}
use Rattle.flag_texts.proofs.Splits.{one_split, has_mark}
use Rattle.project_meaning.specs.Trees.{sides}
use Rattle.lexc_forms.specs.Letters.{characters_of, is_colon}
use Rattle.lexc_forms.specs.declared.letters.Letter.{Letter}
use Rattle.lexc_forms.specs.declared.letters.Letter.TheVariants.{Plain}
use Rattle.lexc_forms.specs.Forms.{IsWhole, symbol, flag, IsLongestPiece, HasNoPiece, alone, CutsInto, ended, longest, one, HasSides, IsForm}
use Rattle.lexc_forms.proofs.Pieces.{flag_of_parts}
use Rattle.lexc_forms.proofs.Positions.{one_first, any_inside}
use Rattle.lexc_grammar.specs.Lexicons.{form_of, piece_of}

-- Flags.

kind_of : ℕ → FlagKind
kind_of n = cond (n == 80) P (cond (n == 78) N (cond (n == 67) C (cond (n == 82) R (cond (n == 68) D U))))

kind_again : (kind : FlagKind) → kind_of (letter_of kind) ≡ kind
unfolding kind_of
kind_again P = refl
kind_again N = refl
kind_again C = refl
kind_again R = refl
kind_again D = refl
kind_again U = refl

one_kind : (j k : FlagKind) → letter_of j ≡ letter_of k → j ≡ k
one_kind j k same = sym (kind_again j) ∙ ap kind_of same ∙ kind_again k

no_mark : (feature : List ℕ) → IsFeature feature → HasNo 64 feature
no_mark feature is = All-weaker IsFeatureByte (λ b. b ≢ 64) (λ b h. h.4) feature is.1

-- a feature has no `.`, and no `@`, which ends the flag
no_dot_or_end : (feature : List ℕ) → IsFeature feature → HasNo 46 (feature ++ 64 ∷ [])
no_dot_or_end feature is = All-push (λ b. b ≢ 46) feature 64 (no_dot feature is) (λ e. absurd (omega arith))

-- what stands behind the kind says the feature and the value
parts_same : (kind other : FlagKind) (f g : List ℕ) (v w : Option (List ℕ)) → IsFeature f → IsFeature g → MayHave kind v → MayHave other w → f ++ ending_of v ≡ g ++ ending_of w → (f ≡ g) × (v ≡ w)
parts_same kind other f g None None p q may might e = ((one_split 64 f g [] [] (no_mark f p) (no_mark g q) e).0, refl)
parts_same kind other f g None (Some w) p q may might e = absurd (has_mark 46 g (w ++ 64 ∷ []) (subst (HasNo 46) e (no_dot_or_end f p)))
parts_same kind other f g (Some v) None p q may might e = absurd (has_mark 46 f (v ++ 64 ∷ []) (subst (HasNo 46) (sym e) (no_dot_or_end g q)))
parts_same kind other f g (Some v) (Some w) p q may might e =
    let parts = one_split 46 f g (v ++ 64 ∷ []) (w ++ 64 ∷ []) (no_dot f p) (no_dot g q) e in
    (parts.0, ap Some (append_cancel_right v w (64 ∷ []) parts.1))

behind_kind : (j k : ℕ) (xs ys : List ℕ) → 64 ∷ j ∷ 46 ∷ xs ≡ 64 ∷ k ∷ 46 ∷ ys → (j ≡ k) × (xs ≡ ys)
behind_kind j k xs ys e = let letter : j ≡ k = cc in let rest : xs ≡ ys = cc in (letter, rest)

flag_same : (f g : FlagOp) → f.kind ≡ g.kind → f.feature ≡ g.feature → f.value ≡ g.value → f ≡ g
flag_same f g kind feature value = λ i. record { kind = kind i; feature = feature i; value = value i }

-- a text is one flag
pub one_flag : (text : List ℕ) (f g : FlagOp) → IsFlagOf text f → IsFlagOf text g → f ≡ g
one_flag text f g p q =
    let parts = behind_kind (letter_of f.kind) (letter_of g.kind) (f.feature ++ ending_of f.value) (g.feature ++ ending_of g.value) (sym p.spelled ∙ q.spelled) in
    let same = parts_same f.kind g.kind f.feature g.feature f.value g.value p.feature q.feature p.value q.value parts.1 in
    flag_same f g (one_kind f.kind g.kind parts.0) same.0 same.1

-- Pieces.

-- none of the declared symbols is a flag
abbrev pub IsNoFlag : List ℕ → Type 0
IsNoFlag characters = IsFlag (encode_utf8_all characters) → ⊥

abbrev pub HasNoFlags : List (List ℕ) → Type 0
HasNoFlags declared = All IsNoFlag declared

pub with_symbol_none : (characters : List ℕ) (declared : List (List ℕ)) → IsNoFlag characters → HasNoFlags declared → HasNoFlags (with_text characters declared)
with_symbol_none characters declared new none = by (list_any (bytes_eq characters) declared)
  where
    by : (listed : Bool) → HasNoFlags (cond listed declared (declared ++ characters ∷ []))
    by true = none
    by false = All-push IsNoFlag declared characters none new

module _ (declared : List (List ℕ)) (none : HasNoFlags declared) where
  whole_once : (text : List ℕ) (a b : Piece Raw) → IsWhole declared text a → IsWhole declared text b → a ≡ b
  whole_once text a b (symbol listed) (symbol again) = refl
  whole_once text a b (symbol listed) (flag g is) = absurd (All-contains IsNoFlag declared text none listed (flag_of_parts (encode_utf8_all text) g is))
  whole_once text a b (flag f is) (symbol listed) = absurd (All-contains IsNoFlag declared text none listed (flag_of_parts (encode_utf8_all text) f is))
  whole_once text a b (flag f is) (flag g are) = ap Flag (one_flag (encode_utf8_all text) f g is are)

  size_once : (text : List ℕ) (n m : ℕ) (a b : Piece Raw) → IsLongestPiece declared text n a → IsLongestPiece declared text m b → n ≡ m
  size_once text n m a b p q = omega (arith, p.longest m b q.within q.whole, q.longest n a p.within p.whole)

  longest_once : (text : List ℕ) (n m : ℕ) (a b : Piece Raw) → IsLongestPiece declared text n a → IsLongestPiece declared text m b → a ≡ b
  longest_once text n m a b p q =
      let size : n ≡ m = size_once text n m a b p q in
      whole_once (take m text) a b (subst (λ (k : ℕ). IsWhole declared (take k text) a) size p.whole) q.whole

  not_both : (text : List ℕ) (n : ℕ) (a : Piece Raw) → IsLongestPiece declared text n a → HasNoPiece declared text → ⊥
  not_both text n a p no_piece = no_piece n a p.within p.whole

  not_at_end : (n : ℕ) (a : Piece Raw) → IsLongestPiece declared [] n a → ⊥
  not_at_end n a p = absurd (omega (arith, p.some, p.within))

  cons_same : (x y : Piece Raw) (xs ys : List (Piece Raw)) → x ≡ y → xs ≡ ys → x ∷ xs ≡ y ∷ ys
  cons_same x y xs ys e f = λ i. e i ∷ f i

  -- letters are cut in one way
  pub cuts_once : (letters : List Letter) (a b : List (Piece Raw)) → CutsInto declared letters a → CutsInto declared letters b → a ≡ b
  cuts_once letters a b ended ended = refl
  cuts_once letters a b ended (longest others m y ys q more) = absurd (not_at_end m y q)
  cuts_once letters a b (longest others n x xs p cuts) ended = absurd (not_at_end n x p)
  cuts_once letters a b (longest others n x xs p cuts) (longest them m y ys q more) =
      cons_same x y xs ys (longest_once (characters_of others) n m x y p q)
      (cuts_once (drop n others) xs ys cuts (subst (λ (k : ℕ). CutsInto declared (drop k others) ys) (size_once (characters_of others) m n y x q p) more))
  cuts_once letters a b (longest others n x xs p cuts) (one l them ys q more) = absurd (not_both (characters_of others) n x p q)
  cuts_once letters a b (one l others xs p cuts) (longest them m y ys q more) = absurd (not_both (characters_of (l ∷ others)) m y q p)
  cuts_once letters a b (one l others xs p cuts) (one k them ys q more) = ap (λ (z : List (Piece Raw)). alone l ++ z) (cuts_once others xs ys cuts more)

-- Sides.

-- a word has its sides in one way
pub sides_once : (word u v l m : List Letter) → HasSides word u l → HasSides word v m → (u ≡ v) × (l ≡ m)
sides_once word u v l m (inl p) (inl q) = (p.1 ∙ sym q.1, p.2 ∙ sym q.2)
sides_once word u v l m (inl p) (inr q) = absurd (any_inside is_colon v m (Plain 58) refl (sym (ap (list_any is_colon) q.0) ∙ p.0))
sides_once word u v l m (inr p) (inl q) = absurd (any_inside is_colon u l (Plain 58) refl (sym (ap (list_any is_colon) p.0) ∙ q.0))
sides_once word u v l m (inr p) (inr q) = one_first is_colon u v l m (Plain 58) (Plain 58) p.1 q.1 refl refl (sym p.0 ∙ q.0)

-- a word has one form
pub form_once : (declared : List (List ℕ)) → HasNoFlags declared → (word : List Letter) (f g : FormOf Raw) → IsForm declared word f → IsForm declared word g → form_of f ≡ form_of g
form_once declared none word (Sides upper lower) (Sides up low) p q =
    let same = sides_once word p.0 q.0 p.1 q.1 p.2 q.2 in
    let above : upper.items ≡ up.items = cuts_once declared none q.0 upper.items up.items (subst (λ (z : List Letter). CutsInto declared z upper.items) same.0 p.3) q.3 in
    let below : lower.items ≡ low.items = cuts_once declared none q.1 lower.items low.items (subst (λ (z : List Letter). CutsInto declared z lower.items) same.1 p.4) q.4 in
    λ i. sides (map piece_of (above i)) (map piece_of (below i))
form_once declared none word (Sides upper lower) (Pairs e) p q = absurd q
form_once declared none word (Pairs e) g p q = absurd p
