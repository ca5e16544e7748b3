-- Where an element stands in lists that were put together.
use Rattle.std.proofs.Common.{◌≡◌, ◌+◌, ◌<◌, List, [], ◌∷◌, ◌++◌, length, refl, ap, sym, ◌∙◌, append_assoc, arith, length-append}
use Rattle.std.specs.Prelude.{All}
use Rattle.std.proofs.lemmas.List.Elements.{All-head, All-tail}
use Rattle.std.specs.List.{flat_map}

-- z stands in the first list, or in the second
pub data SplitAt {A : Type 0} (a b x : List A) (z : A) (y : List A) : Type 0 where
  in_first : (y' : List A) → a ≡ x ++ z ∷ y' → y ≡ y' ++ b → SplitAt a b x z y
  in_second : (x' : List A) → x ≡ a ++ x' → b ≡ x' ++ z ∷ y → SplitAt a b x z y

pub split_at : {A : Type 0} (a b x : List A) (z : A) (y : List A) → a ++ b ≡ x ++ z ∷ y → SplitAt a b x z y
split_at [] b x z y e = in_second x refl e
split_at (h ∷ a) b [] z y e = in_first a (cc) (cc)
split_at (h ∷ a) b (g ∷ x) z y e =
    let head : h ≡ g = cc in
    let tail : a ++ b ≡ x ++ z ∷ y = cc in
    elim (split_at a b x z y tail) [ in_first y' p q ↦ in_first y' (cc) q | in_second x' p q ↦ in_second x' (cc) q ]

-- the piece in which z stands
pub record Place {A B : Type 0} (f : A → List B) (ps : List A) (t x : List B) (z : B) (y : List B) : Type 0 where
  pub before : List A
  pub piece : A
  pub behind : List A
  pub left : List B
  pub right : List B
  pub whole : ps ≡ before ++ piece ∷ behind
  pub at_left : x ≡ flat_map f before ++ left
  pub inside : f piece ≡ left ++ z ∷ right
  pub at_right : y ≡ right ++ (flat_map f behind ++ t)

pub locate : {A B : Type 0} (f : A → List B) (ps : List A) (t x : List B) (z : B) (y : List B) → ((x' y' : List B) → t ≡ x' ++ z ∷ y' → ⊥) → flat_map f ps ++ t ≡ x ++ z ∷ y → Place f ps t x z y
locate f [] t x z y no_t e = absurd (no_t x y e)
locate f (p ∷ ps) t x z y no_t e =
    let e' : f p ++ (flat_map f ps ++ t) ≡ x ++ z ∷ y = sym (append_assoc (f p) (flat_map f ps) t) ∙ e in
    elim (split_at (f p) (flat_map f ps ++ t) x z y e') [
      | in_first y' inside rest ↦ record { before = []; piece = p; behind = ps; left = x; right = y'; whole = refl; at_left = refl; inside = inside; at_right = rest }
      | in_second x' first rest ↦
          let r = locate f ps t x' z y no_t rest in
          record {
            before = p ∷ r.before;
            piece = r.piece;
            behind = r.behind;
            left = r.left;
            right = r.right;
            whole = ap (λ qs. p ∷ qs) r.whole;
            at_left = first ∙ ap (λ v. f p ++ v) r.at_left ∙ sym (append_assoc (f p) (flat_map f r.before) r.left);
            inside = r.inside;
            at_right = r.at_right;
          }
    ]

-- nothing stands in the empty list
pub nil_split : {A : Type 0} (x : List A) (z : A) (y : List A) → [] ≡ x ++ z ∷ y → ⊥
nil_split [] z y e = cc
nil_split (g ∷ x) z y e = cc

-- what stands in a list of one element
pub single_split : {A : Type 0} (h : A) (x : List A) (z : A) (y : List A) → h ∷ [] ≡ x ++ z ∷ y → (h ≡ z) × (x ≡ []) × (y ≡ [])
single_split h [] z y e = (cc, refl, cc)
single_split h (g ∷ x) z y e = let tail : [] ≡ x ++ z ∷ y = cc in absurd (nil_split x z y tail)

-- where two lists are put together in two ways, the longer front goes on with what stands behind the shorter one
pub append_meet : {A : Type 0} (a b c e : List A) → a ++ b ≡ c ++ e → length a < length c → (t : A) × (d : List A) × (c ≡ a ++ t ∷ d) × (b ≡ t ∷ (d ++ e))
append_meet [] b [] e is l = absurd (omega (arith, l))
append_meet [] b (t ∷ d) e is l = (t, d, refl, is)
append_meet (x ∷ a) b [] e is l = absurd (omega (arith, l))
append_meet (x ∷ a) b (y ∷ c) e is l =
    let whole : x ∷ (a ++ b) ≡ y ∷ (c ++ e) = is in
    let head : y ≡ x = cc in
    let tail : a ++ b ≡ c ++ e = cc in
    let less : length a < length c = omega (arith, l) in
    let r = append_meet a b c e tail less in
    (r.0, r.1, ap (λ z. z ∷ c) head ∙ ap (λ z. x ∷ z) r.2, r.3)

-- a front is shorter than the whole, where an element stands behind it
pub front_shorter : {A : Type 0} (x a b : List A) (t : A) (w : List A) → w ≡ x ++ (a ++ t ∷ b) → length x < length w
front_shorter x a b t w is =
    let l : length w ≡ length x + (length a + length (t ∷ b)) = ap length is ∙ length-append x (a ++ t ∷ b) ∙ ap (λ n. length x + n) (length-append a (t ∷ b)) in
    omega (arith, l)

-- what is so of all elements is so of each
pub all_here : {A : Type 0} (Q : A → Type 0) (x : List A) (t : A) (y : List A) → All Q (x ++ t ∷ y) → Q t
all_here Q [] t y h = All-head Q t y h
all_here Q (g ∷ x) t y h = all_here Q x t y (All-tail Q g (x ++ t ∷ y) h)
