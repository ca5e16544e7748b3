-- Where no matches of a word overlap, directed rules relate it to what rules without a direction do.
use Rattle.std.proofs.Common.{◌≡◌, ◌↔◌, ◌⊎◌, ◌+◌, ◌<◌, ◌≤◌, List, [], ◌∷◌, ◌++◌, false, length, refl, sym, ap, subst, ◌∙◌, inl, inr, append_assoc, append-nil, arith, length-append}
use Rattle.std.proofs.lemmas.Grind.{flat_map-append}
use Rattle.fsm_base.specs.declared.letters.Sym.{Sym}
use Rattle.expr_meaning.specs.Replacement.{Piece, copied, replaced, upper, uppers, IsPiece, IsObligatory, IsRewritten}
use Rattle.regex_ast.specs.declared.expr.Way.{Way}
use Rattle.regex_ast.specs.declared.expr.Way.TheVariants.{LeftLongest, LeftShortest, RightLongest, RightShortest}
use Rattle.expr_meaning.specs.Directed.{Bars, BeginsAt, EndsAt, StandsAt, AppliesOn, IsDirectedBy}
use Rattle.directed_words.specs.Comparisons.{NoneOverlap, DirectedAgreeWithoutOverlap, DirectedAgreeOnSymbols}
use Rattle.directed_words.proofs.Splits.{in_first, in_second, split_at, single_split}
use Rattle.directed_words.proofs.Leaving.{Pieces, copies, uppers_parts, directed_are_rewritings}

-- where two lists are put together in two ways, the second front is longer or goes on with what stands behind the first
meet : {A : Type 0} (a b c e : List A) → a ++ b ≡ c ++ e → ((d : List A) × (c ≡ a ++ d) × (b ≡ d ++ e)) ⊎ (length c < length a)
meet [] b c e is = inl (c, refl, is)
meet (x ∷ a) b [] e is = inr (omega arith)
meet {A} (x ∷ a) b (y ∷ c) e is =
    let whole : x ∷ (a ++ b) ≡ y ∷ (c ++ e) = is in
    let head : x ≡ y = cc in
    let tail : a ++ b ≡ c ++ e = cc in
    elim (meet a b c e tail) as (λ _. ((d : List A) × (y ∷ c ≡ x ∷ (a ++ d)) × (b ≡ d ++ e)) ⊎ (length (y ∷ c) < length (x ∷ a))) [
      | inl r ↦ inl (r.0, ap (λ h. h ∷ c) (sym head) ∙ ap (λ z. x ∷ z) r.1, r.2)
      | inr less ↦ inr (omega (arith, less))
    ]

same_front : {A : Type 0} (x y a b : List A) → x ++ a ≡ y ++ b → length x ≡ length y → (x ≡ y) × (a ≡ b)
same_front [] [] a b is same = (refl, is)
same_front [] (h ∷ y) a b is same = absurd (omega (arith, same))
same_front (g ∷ x) [] a b is same = absurd (omega (arith, same))
same_front (g ∷ x) (h ∷ y) a b is same =
    let whole : g ∷ (x ++ a) ≡ h ∷ (y ++ b) = is in
    let head : g ≡ h = cc in
    let tail : x ++ a ≡ y ++ b = cc in
    let less : length x ≡ length y = omega (arith, same) in
    let r = same_front x y a b tail less in
    (ap (λ k. k ∷ x) head ∙ ap (λ z. h ∷ z) r.0, r.1)

-- a word before the last symbol
before_last : (b : List Sym) (s : Sym) (x c : List Sym) → b ++ s ∷ [] ≡ x ++ c → 0 < length c → (d : List Sym) × (b ≡ x ++ d) × (c ≡ d ++ s ∷ [])
before_last b s x [] is some = absurd (omega (arith, some))
before_last b s x (t ∷ c) is some =
    elim (split_at b (s ∷ []) x t c is) as (λ _. (d : List Sym) × (b ≡ x ++ d) × (t ∷ c ≡ d ++ s ∷ [])) [
      | in_first y whole rest ↦ (t ∷ y, whole, ap (λ z. t ∷ z) rest)
      | in_second y front rest ↦
          let (same, none, nil) = single_split s y t c rest in
          ([], unended b x y front none, ap (λ h. h ∷ c) (sym same) ∙ ap (λ z. s ∷ z) nil)
    ]
  where
    unended : (b x y : List Sym) → x ≡ b ++ y → y ≡ [] → b ≡ x ++ []
    unended b x y e none = sym (e ∙ ap (λ z. b ++ z) none ∙ append-nil b) ∙ sym (append-nil x)

-- where a word ends in the upper side of pieces: between two of them, or within a replacement
data Cut (ps : Pieces) (x y : List Sym) : Type 0 where
  between : (front back : Pieces) → ps ≡ front ++ back → uppers front ≡ x → uppers back ≡ y → Cut ps x y
  within : (front : Pieces) (c r : List Sym) (back : Pieces) → ps ≡ front ++ replaced c r ∷ back → length (uppers front) < length x → length x < length (uppers front) + length c → Cut ps x y

cut_behind : (p : Piece Sym) (ps : Pieces) (x d y : List Sym) → x ≡ upper p ++ d → Cut ps d y → Cut (p ∷ ps) x y
cut_behind p ps x d y is (between front back e at rest) = between (p ∷ front) back (ap (λ z. p ∷ z) e) (ap (λ z. upper p ++ z) at ∙ sym is) rest
cut_behind p ps x d y is (within front c r back e less more) =
    let long : length x ≡ length (upper p) + length d = ap length is ∙ length-append (upper p) d in
    let far : length (uppers (p ∷ front)) ≡ length (upper p) + length (uppers front) = length-append (upper p) (uppers front) in
    within (p ∷ front) c r back (ap (λ z. p ∷ z) e) (omega (arith, long, far, less)) (omega (arith, long, far, more))

cut : (ps : Pieces) (x y : List Sym) → uppers ps ≡ x ++ y → Cut ps x y
cut ps [] y e = between [] ps refl refl e
cut [] (s ∷ x) y e = let clash : [] ≡ s ∷ (x ++ y) = e in absurd (cc)
cut (copied t ∷ ps) (s ∷ x) y e =
    let e' : t ∷ uppers ps ≡ s ∷ (x ++ y) = e in
    let head : s ≡ t = cc in
    let tail : uppers ps ≡ x ++ y = cc in
    cut_behind (copied t) ps (s ∷ x) x y (ap (λ h. h ∷ x) head) (cut ps x y tail)
cut (replaced c r ∷ ps) (s ∷ x) y e =
    elim (meet c (uppers ps) (s ∷ x) y e) as (λ _. Cut (replaced c r ∷ ps) (s ∷ x) y) [
      | inl t ↦ cut_behind (replaced c r) ps (s ∷ x) t.0 y t.1 (cut ps t.0 y t.2)
      | inr less ↦ within [] c r ps refl (omega arith) (omega (arith, less))
    ]

-- pieces of which none is replaced
all_copied : (ps : Pieces) → ((before : Pieces) (c r : List Sym) (behind : Pieces) → ps ≡ before ++ replaced c r ∷ behind → ⊥) → ps ≡ copies (uppers ps)
all_copied [] none = refl
all_copied (copied s ∷ ps) none = ap (λ z. copied s ∷ z) (all_copied ps (λ before c r behind e. none (copied s ∷ before) c r behind (ap (λ z. copied s ∷ z) e)))
all_copied (replaced c r ∷ ps) none = absurd (none [] c r ps refl)

-- the length of the upper side, in parts
parts_length : (ps before : Pieces) (p : Piece Sym) (behind : Pieces) → ps ≡ before ++ p ∷ behind → length (uppers ps) ≡ length (uppers before) + (length (upper p) + length (uppers behind))
parts_length ps before p behind is =
    ap length (uppers_parts ps before p behind is) ∙ length-append (uppers before) (upper p ++ uppers behind) ∙ ap (λ n. length (uppers before) + n) (length-append (upper p) (uppers behind))

-- where a copied symbol and a replacement stand in the same pieces, one stands before the other
copied_beside : (ps a : Pieces) (s : Sym) (b before : Pieces) (c r : List Sym) (behind : Pieces) → ps ≡ a ++ copied s ∷ b → ps ≡ before ++ replaced c r ∷ behind → 0 < length (uppers before) + length (uppers behind)
copied_beside ps a s b before c r behind one two =
    elim (split_at a (copied s ∷ b) before (replaced c r) behind (sym one ∙ two)) as (λ _. 0 < length (uppers before) + length (uppers behind)) [
      | in_first y whole rest ↦ let l = parts_length behind y (copied s) b rest in omega (arith, l)
      | in_second y front rest ↦ second y front rest
    ]
  where
    second : (y : Pieces) → before ≡ a ++ y → copied s ∷ b ≡ y ++ replaced c r ∷ behind → 0 < length (uppers before) + length (uppers behind)
    second [] front rest = let clash : copied s ∷ b ≡ replaced c r ∷ behind = rest in absurd (cc)
    second (p ∷ y) front rest =
        let e : copied s ∷ b ≡ p ∷ (y ++ replaced c r ∷ behind) = rest in
        let head : p ≡ copied s = cc in
        let l = parts_length before a (copied s) y (front ∙ ap (λ q. a ++ q ∷ y) head) in
        omega (arith, l)

module _ (Match : List Sym → List Sym → List Sym → Type 0) (Replaces : Pieces → List Sym → List Sym → Pieces → Type 0) (symbols : List Sym)
    (matched : (before behind : Pieces) (c r : List Sym) → Replaces before c r behind → Match (uppers before) c (uppers behind)) (no_empty : (x z : List Sym) → Match x [] z → ⊥) where
  long : (x c z : List Sym) → Match x c z → 0 < length c
  long x [] z m = absurd (no_empty x z m)
  long x (s ∷ c) z m = omega arith

  module _ (u : List Sym) (apart : NoneOverlap Match u) (ps : Pieces) (up : u ≡ uppers ps)
      (each : (before : Pieces) (p : Piece Sym) (behind : Pieces) → ps ≡ before ++ p ∷ behind → IsPiece symbols Replaces (AppliesOn Match) before p behind) (obliged : IsObligatory symbols Replaces (AppliesOn Match) ps) where
    -- each replacement is of a match
    replaced_match : (before : Pieces) (c r : List Sym) (behind : Pieces) → ps ≡ before ++ replaced c r ∷ behind → Match (uppers before) c (uppers behind)
    replaced_match before c r behind is = matched before behind c r (each before (replaced c r) behind is)

    replaced_at : (before : Pieces) (c r : List Sym) (behind : Pieces) → ps ≡ before ++ replaced c r ∷ behind → u ≡ uppers before ++ (c ++ uppers behind)
    replaced_at before c r behind is = up ∙ uppers_parts ps before (replaced c r) behind is

    -- no match stands over pieces of which one is copied
    none_over : (x c z : List Sym) → u ≡ x ++ (c ++ z) → Match x c z → (a m b : Pieces) → ps ≡ a ++ (m ++ b) → uppers a ≡ x → uppers m ≡ c → uppers b ≡ z → (f : Pieces) (s : Sym) (g : Pieces) → m ≡ f ++ copied s ∷ g → ⊥
    none_over x c z at match a m b whole ax mc bz f s g one =
        let (nil, filled) = obliged a c b (whole ∙ ap (λ v. a ++ (v ++ b)) (all_copied m none ∙ ap copies mc)) (subst (λ v. Match v c (uppers b)) (sym ax) (subst (λ v. Match x c v) (sym bz) match)) in
        let some = long x c z match in
        omega (arith, some, ap length nil)
      where
        none : (before : Pieces) (d r : List Sym) (behind : Pieces) → m ≡ before ++ replaced d r ∷ behind → ⊥
        none before d r behind is =
            let there : ps ≡ (a ++ before) ++ replaced d r ∷ (behind ++ b) =
            whole ∙ ap (λ v. a ++ (v ++ b)) is ∙ ap (λ v. a ++ v) (append_assoc before (replaced d r ∷ behind) b) ∙ sym (append_assoc a before (replaced d r ∷ (behind ++ b))) in
            let far : length (uppers (a ++ before)) ≡ length x + length (uppers before) = ap length (flat_map-append upper a before ∙ ap (λ v. v ++ uppers before) ax) ∙ length-append x (uppers before) in
            let size : length c ≡ length (uppers before) + (length d + length (uppers behind)) = ap length (sym mc) ∙ parts_length m before (replaced d r) behind is in
            let other = replaced_match (a ++ before) d r (behind ++ b) there in
            let some = long (uppers (a ++ before)) d (uppers (behind ++ b)) other in
            let same = apart x c z (uppers (a ++ before)) d (uppers (behind ++ b)) at match (replaced_at (a ++ before) d r (behind ++ b) there) other (omega (arith, far)) (omega (arith, far, size, some)) in
            let beside = copied_beside m f s g before d r behind one is in
            omega (arith, size, beside, ap length same.1)

    -- no match begins at a copied symbol, and none ends at one
    none_begins : (before : Pieces) (s : Sym) (behind : Pieces) (c : List Sym) → ps ≡ before ++ copied s ∷ behind → BeginsAt Match before (copied s) behind c → ⊥
    none_begins before s behind [] is (z, whole, match) = no_empty (uppers before) z match
    none_begins before s behind (t ∷ c) is (z, whole, match) =
        let e : s ∷ uppers behind ≡ t ∷ (c ++ z) = whole in
        let head : s ≡ t = cc in
        let tail : uppers behind ≡ c ++ z = cc in
        let at : u ≡ uppers before ++ (t ∷ (c ++ z)) = up ∙ uppers_parts ps before (copied s) behind is ∙ ap (λ v. uppers before ++ v) whole in
        elim (cut behind c z tail) as (λ _. ⊥) [
          | between front back f fc bz ↦
              none_over (uppers before) (t ∷ c) z at match before (copied s ∷ front) back (is ∙ ap (λ v. before ++ copied s ∷ v) f) refl (ap (λ h. h ∷ uppers front) head ∙ ap (λ v. t ∷ v) fc) bz [] s front refl
          | within front d r back f less more ↦
              let there : ps ≡ (before ++ copied s ∷ front) ++ replaced d r ∷ back = is ∙ ap (λ v. before ++ copied s ∷ v) f ∙ sym (append_assoc before (copied s ∷ front) (replaced d r ∷ back)) in
              let far = parts_length (before ++ copied s ∷ front) before (copied s) front refl in
              let other = replaced_match (before ++ copied s ∷ front) d r back there in
              let same = apart (uppers before) (t ∷ c) z (uppers (before ++ copied s ∷ front)) d (uppers back) at match (replaced_at (before ++ copied s ∷ front) d r back there) other (omega (arith, far)) (omega (arith, far, less)) in
              omega (arith, far, ap length same.0)
        ]

    none_ends : (before : Pieces) (s : Sym) (behind : Pieces) (c : List Sym) → ps ≡ before ++ copied s ∷ behind → EndsAt Match before (copied s) behind c → ⊥
    none_ends before s behind c is (x, whole, match) =
        let (d, front_is, c_is) = before_last (uppers before) s x c whole (long x c (uppers behind) match) in
        let at : u ≡ x ++ (c ++ uppers behind) =
        up ∙ uppers_parts ps before (copied s) behind is ∙ sym (append_assoc (uppers before) (s ∷ []) (uppers behind)) ∙ ap (λ v. v ++ uppers behind) whole ∙ append_assoc x c (uppers behind) in
        elim (cut before x d front_is) as (λ _. ⊥) [
          | between front back f fx bd ↦
              let there : ps ≡ front ++ ((back ++ copied s ∷ []) ++ behind) = is ∙ ap (λ v. v ++ copied s ∷ behind) f ∙ append_assoc front back (copied s ∷ behind) ∙ ap (λ v. front ++ v) (sym (append_assoc back (copied s ∷ []) behind)) in
              none_over x c (uppers behind) at match front (back ++ copied s ∷ []) behind there fx (flat_map-append upper back (copied s ∷ []) ∙ ap (λ v. v ++ s ∷ []) bd ∙ sym c_is) refl back s [] refl
          | within front e r back f less more ↦
              let there : ps ≡ front ++ replaced e r ∷ (back ++ copied s ∷ behind) = is ∙ ap (λ v. v ++ copied s ∷ behind) f ∙ append_assoc front (replaced e r ∷ back) (copied s ∷ behind) in
              let other = replaced_match front e r (back ++ copied s ∷ behind) there in
              let same = apart (uppers front) e (uppers (back ++ copied s ∷ behind)) x c (uppers behind) (replaced_at front e r (back ++ copied s ∷ behind) there) other at match (omega (arith, less)) more in
              omega (arith, less, ap length same.0)
        ]

    -- a match that begins where a replacement does, or ends there, is its centre
    same_begun : (before : Pieces) (d r : List Sym) (behind : Pieces) (c : List Sym) → ps ≡ before ++ replaced d r ∷ behind → BeginsAt Match before (replaced d r) behind c → d ≡ c
    same_begun before d r behind c is (z, whole, match) =
        let own = replaced_match before d r behind is in
        let some = long (uppers before) d (uppers behind) own in
        let at = replaced_at before d r behind is in
        (apart (uppers before) d (uppers behind) (uppers before) c z at own (at ∙ ap (λ v. uppers before ++ v) whole) match (omega arith) (omega (arith, some))).1

    same_ended : (before : Pieces) (d r : List Sym) (behind : Pieces) (c : List Sym) → ps ≡ before ++ replaced d r ∷ behind → EndsAt Match before (replaced d r) behind c → d ≡ c
    same_ended before d r behind c is (x, whole, match) =
        let own = replaced_match before d r behind is in
        let some = long (uppers before) d (uppers behind) own in
        let more = long x c (uppers behind) match in
        let at = replaced_at before d r behind is in
        let at' : u ≡ x ++ (c ++ uppers behind) = at ∙ sym (append_assoc (uppers before) d (uppers behind)) ∙ ap (λ v. v ++ uppers behind) whole ∙ append_assoc x c (uppers behind) in
        let size : length (uppers before) + length d ≡ length x + length c = sym (length-append (uppers before) d) ∙ ap length whole ∙ length-append x c in
        elim (meet (uppers before) d x c whole) as (λ _. d ≡ c) [
          | inl t ↦
              let far : length x ≡ length (uppers before) + length t.0 = ap length t.1 ∙ length-append (uppers before) t.0 in
              (apart (uppers before) d (uppers behind) x c (uppers behind) at own at' match (omega (arith, far)) (omega (arith, size, more))).1
          | inr less ↦ sym (apart x c (uppers behind) (uppers before) d (uppers behind) at' match at own (omega (arith, less)) (omega (arith, size, some))).1
        ]

    -- so no match bars a piece
    none_bars : (way : Way) (before : Pieces) (p : Piece Sym) (behind : Pieces) (c : List Sym) → ps ≡ before ++ p ∷ behind → StandsAt Match way before p behind c → Bars way c p → ⊥
    none_bars LeftLongest before (copied s) behind c is stands bars = none_begins before s behind c is stands
    none_bars LeftLongest before (replaced d r) behind c is stands bars = omega (arith, bars, ap length (same_begun before d r behind c is stands))
    none_bars LeftShortest before (copied s) behind c is stands bars = none_begins before s behind c is stands
    none_bars LeftShortest before (replaced d r) behind c is stands bars = omega (arith, bars, ap length (same_begun before d r behind c is stands))
    none_bars RightLongest before (copied s) behind c is stands bars = none_ends before s behind c is stands
    none_bars RightLongest before (replaced d r) behind c is stands bars = omega (arith, bars, ap length (same_ended before d r behind c is stands))
    none_bars RightShortest before (copied s) behind c is stands bars = none_ends before s behind c is stands
    none_bars RightShortest before (replaced d r) behind c is stands bars = omega (arith, bars, ap length (same_ended before d r behind c is stands))

pub directed_agree_without_overlap : DirectedAgreeWithoutOverlap
directed_agree_without_overlap Match Replaces symbols way u w matched no_empty apart = (
  λ h. directed_are_rewritings Match Replaces symbols way u w no_empty h,
  λ (ps, derives, must, up, low). (ps, derives, λ before p behind c is stands bars. none_bars Match Replaces symbols matched no_empty u apart ps up derives.0 (must refl) way before p behind c is stands bars, up, low),
)

-- matches of one symbol each don't overlap
symbols_apart : (Match : List Sym → List Sym → List Sym → Type 0) → ((x c z : List Sym) → Match x c z → (s : Sym) × (c ≡ s ∷ [])) → (u : List Sym) → NoneOverlap Match u
symbols_apart Match ones u x c z y d v at match at' match' least most =
    let (s, c_is) = ones x c z match in
    let (t, d_is) = ones y d v match' in
    let c_one : length c ≡ 1 = ap length c_is in
    let d_one : length d ≡ 1 = ap length d_is in
    let r = same_front x y (c ++ z) (d ++ v) (sym at ∙ at') (omega (arith, c_one, least, most)) in
    (r.0, (same_front c d z v r.1 (omega (arith, c_one, d_one))).0)

pub directed_agree_on_symbols : DirectedAgreeOnSymbols
directed_agree_on_symbols Match Replaces symbols way other u w matched ones =
    let no_empty = λ (x z : List Sym) (match : Match x [] z). let h = ones x [] z match in let clash : [] ≡ h.0 ∷ [] = h.1 in let no : ⊥ = cc in no in
    let apart = symbols_apart Match ones u in
    let one = directed_agree_without_overlap Match Replaces symbols way u w matched no_empty apart in
    let two = directed_agree_without_overlap Match Replaces symbols other u w matched no_empty apart in
    (one, (λ h. two.1 (one.0 h), λ h. one.1 (two.0 h)))
