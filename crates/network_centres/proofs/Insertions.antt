-- The derivations of an insertion, and the words that stand at the places.
use Rattle.std.proofs.Common.{◌≡◌, ◌+◌, ◌⊎◌, ◌↔◌, Bool, false, List, [], ◌∷◌, ◌++◌, Option, None, Some, length, map, refl, sym, ap, subst, ◌∙◌, inl, inr, arith, append-nil, length-append}
use Rattle.std.proofs.Math.Path.{subst₂}
use Rattle.std.specs.List.{Contains}
use Rattle.std.proofs.lemmas.List.{append_assoc, length-map}
use Rattle.std.proofs.lemmas.List.Elements.{All-nil, All-cons, All-contains, Contains-append_right}
use Rattle.fsm_base.specs.declared.letters.Sym.{Sym}
use Rattle.word_relations.specs.Words.{IsOver}
use Rattle.word_relations.specs.Relations.{AreSame}
use Rattle.regex_ast.specs.declared.expr.Atom.{Atom}
use Rattle.word_relations.proofs.Members.{Contains-head}
use Rattle.regex_ast.specs.declared.expr.Side.{Side}
use Rattle.regex_ast.specs.declared.expr.Side.TheVariants.{UpUp, LowUp, UpLow, LowLow}
use Rattle.regex_ast.specs.Terms.{Term, Contexts, Groups, no_context, no_mapping, insert, no_group, then_group}
use Rattle.expr_meaning.specs.Operators.{inner}
use Rattle.expr_meaning.specs.Replacement.{Piece, copied, replaced, uppers, lowers, read_before, read_behind, IsFilled, IsPiece, IsDerivation, IsObligatory, IsRewritten}
use Rattle.network_centres.specs.Insertions.{InsertionFillsPlaces, with_before, with_behind, filled, read_left, read_right, IsFilling, AreFillings, IsInserted}
use Rattle.expr_meaning.specs.Meaning.{InContext, Replaces, Applies}
use Rattle.expr_meaning.specs.Leaves.{stands_for}
use Rattle.expr_meaning.specs.Laws.{Has}

module _ {L : Type 0} where
  -- what is put in at a place, or nothing
  abbrev put : Option (List L) → List (Piece L)
  put None = []
  put (Some word) = replaced [] word ∷ []

  abbrev word_of : Option (List L) → List L
  word_of None = []
  word_of (Some word) = word

  abbrev words_of : List (Option (List L)) → List (List L)
  words_of places = map word_of places

  -- the pieces before a place and behind it
  abbrev pieces_before : List (Option (List L)) → List L → List (Piece L)
  pieces_before (m ∷ ms) (s ∷ x) = put m ++ copied s ∷ pieces_before ms x
  pieces_before _ _ = []

  abbrev pieces_behind : List L → List (Option (List L)) → List (Piece L)
  pieces_behind (s ∷ z) (m ∷ ms) = copied s ∷ put m ++ pieces_behind z ms
  pieces_behind _ _ = []

  uppers_put : (m : Option (List L)) (ps : List (Piece L)) → uppers (put m ++ ps) ≡ uppers ps
  uppers_put None ps = refl
  uppers_put (Some word) ps = refl

  lowers_put : (m : Option (List L)) (ps : List (Piece L)) → lowers (put m ++ ps) ≡ word_of m ++ lowers ps
  lowers_put None ps = refl
  lowers_put (Some word) ps = refl

  uppers_behind : (z : List L) (ms : List (Option (List L))) → length ms ≡ length z → uppers (pieces_behind z ms) ≡ z
  uppers_behind [] ms same = refl
  uppers_behind (s ∷ z) [] same = absurd (omega (arith, same))
  uppers_behind (s ∷ z) (m ∷ ms) same = ap (λ (u : List L). s ∷ u) (uppers_put m (pieces_behind z ms) ∙ uppers_behind z ms (omega (arith, same)))

  lowers_behind : (z : List L) (ms : List (Option (List L))) → length ms ≡ length z → lowers (pieces_behind z ms) ≡ with_behind z (words_of ms)
  lowers_behind [] ms same = refl
  lowers_behind (s ∷ z) [] same = absurd (omega (arith, same))
  lowers_behind (s ∷ z) (m ∷ ms) same = ap (λ (u : List L). s ∷ u) (lowers_put m (pieces_behind z ms) ∙ ap (λ (u : List L). word_of m ++ u) (lowers_behind z ms (omega (arith, same))))

  uppers_before : (ms : List (Option (List L))) (x : List L) → length ms ≡ length x → uppers (pieces_before ms x) ≡ x
  uppers_before [] [] same = refl
  uppers_before [] (s ∷ x) same = absurd (omega (arith, same))
  uppers_before (m ∷ ms) [] same = absurd (omega (arith, same))
  uppers_before (m ∷ ms) (s ∷ x) same = uppers_put m (copied s ∷ pieces_before ms x) ∙ ap (λ (u : List L). s ∷ u) (uppers_before ms x (omega (arith, same)))

  lowers_before : (ms : List (Option (List L))) (x : List L) → length ms ≡ length x → lowers (pieces_before ms x) ≡ with_before (words_of ms) x
  lowers_before [] [] same = refl
  lowers_before [] (s ∷ x) same = absurd (omega (arith, same))
  lowers_before (m ∷ ms) [] same = absurd (omega (arith, same))
  lowers_before (m ∷ ms) (s ∷ x) same = lowers_put m (copied s ∷ pieces_before ms x) ∙ ap (λ (u : List L). word_of m ++ s ∷ u) (lowers_before ms x (omega (arith, same)))

  -- what contexts read of them
  before_read : (side : Side) (ms : List (Option (List L))) (x : List L) → length ms ≡ length x → read_before side (pieces_before ms x) ≡ read_left side x (with_before (words_of ms) x)
  before_read UpUp ms x same = uppers_before ms x same
  before_read LowUp ms x same = lowers_before ms x same
  before_read UpLow ms x same = uppers_before ms x same
  before_read LowLow ms x same = lowers_before ms x same

  behind_read : (side : Side) (z : List L) (ms : List (Option (List L))) → length ms ≡ length z → read_behind side (pieces_behind z ms) ≡ read_right side z (with_behind z (words_of ms))
  behind_read UpUp z ms same = uppers_behind z ms same
  behind_read LowUp z ms same = uppers_behind z ms same
  behind_read UpLow z ms same = lowers_behind z ms same
  behind_read LowLow z ms same = lowers_behind z ms same

  -- both parts of what stands at the places
  abbrev pieces_of : Option (List L) → List (Option (List L)) → List L → List (Piece L)
  pieces_of m ms u = put m ++ pieces_behind u ms

  together : (front : List (Option (List L))) (k : Option (List L)) (back : List (Option (List L))) (x z : List L) (m : Option (List L)) (ms : List (Option (List L))) → m ∷ ms ≡ front ++ k ∷ back → length front ≡ length x
      → pieces_of m ms (x ++ z) ≡ pieces_before front x ++ (put k ++ pieces_behind z back)
  together [] k back [] z m ms is same =
      let head : m ≡ k = cc in
      let tail : ms ≡ back = cc in
      ap (λ (n : Option (List L)). put n ++ pieces_behind z ms) head ∙ ap (λ (ns : List (Option (List L))). put k ++ pieces_behind z ns) tail
  together [] k back (s ∷ x) z m ms is same = absurd (omega (arith, same))
  together (f ∷ front) k back [] z m ms is same = absurd (omega (arith, same))
  together (f ∷ front) k back (s ∷ x) z m [] is same = let e : m ∷ [] ≡ f ∷ (front ++ k ∷ back) = is in absurd (no_more front k back (cc))
    where
      no_more : (front : List (Option (List L))) (k : Option (List L)) (back : List (Option (List L))) → [] ≡ front ++ k ∷ back → ⊥
      no_more [] k back e = cc
      no_more (f ∷ front) k back e = cc
  together (f ∷ front) k back (s ∷ x) z m (n ∷ ms) is same =
      let e : m ∷ n ∷ ms ≡ f ∷ (front ++ k ∷ back) = is in
      let head : m ≡ f = cc in
      let tail : n ∷ ms ≡ front ++ k ∷ back = cc in
      let later = together front k back x z n ms tail (omega (arith, same)) in
      ap (λ (l : Option (List L)). put l ++ copied s ∷ pieces_of n ms (x ++ z)) head ∙ ap (λ (ps : List (Piece L)). put f ++ copied s ∷ ps) later
      ∙ sym (append_assoc (put f) (copied s ∷ pieces_before front x) (put k ++ pieces_behind z back))

  -- a cut between pieces is before what stands at a place, or behind it
  abbrev IsCut : Option (List L) → List (Option (List L)) → List L → List (Piece L) → List (Piece L) → Type 0
  IsCut m ms u before behind =
      (x z : List L) × (front : List (Option (List L))) × (k : Option (List L)) × (back : List (Option (List L))) × (u ≡ x ++ z) × (m ∷ ms ≡ front ++ k ∷ back) × (length front ≡ length x) × (length back ≡ length z)
      × (((before ≡ pieces_before front x) × (behind ≡ put k ++ pieces_behind z back)) ⊎ ((before ≡ pieces_before front x ++ put k) × (behind ≡ pieces_behind z back)))

  cut_later : (m : Option (List L)) (n : Option (List L)) (ms : List (Option (List L))) (s : L) (u : List L) (before behind all : List (Piece L)) → all ≡ put m ++ copied s ∷ before → IsCut n ms u before behind → IsCut m (n ∷ ms) (s ∷ u) all behind
  cut_later m n ms s u before behind all is (x, z, front, k, back, word, places, first, last, sides) = (
    s ∷ x,
    z,
    m ∷ front,
    k,
    back,
    ap (λ (v : List L). s ∷ v) word,
    ap (λ (ns : List (Option (List L))). m ∷ ns) places,
    omega (arith, first),
    last,
    elim sides as (λ _. ((all ≡ pieces_before (m ∷ front) (s ∷ x)) × (behind ≡ put k ++ pieces_behind z back)) ⊎ ((all ≡ pieces_before (m ∷ front) (s ∷ x) ++ put k) × (behind ≡ pieces_behind z back))) [
      | inl at ↦ inl (is ∙ ap (λ (ps : List (Piece L)). put m ++ copied s ∷ ps) at.0, at.1)
      | inr at ↦ inr (is ∙ ap (λ (ps : List (Piece L)). put m ++ copied s ∷ ps) at.0 ∙ sym (append_assoc (put m) (copied s ∷ pieces_before front x) (put k)), at.1)
    ],
  )

  cut : (m : Option (List L)) (ms : List (Option (List L))) (u : List L) (before behind : List (Piece L)) → length ms ≡ length u → pieces_of m ms u ≡ before ++ behind → IsCut m ms u before behind
  cut m ms u [] behind same is = ([], u, [], m, ms, refl, refl, refl, same, inl (refl, sym is))
  cut None [] [] (p ∷ before) behind same is = let e : [] ≡ p ∷ (before ++ behind) = is in absurd (cc)
  cut None [] (s ∷ u) (p ∷ before) behind same is = absurd (omega (arith, same))
  cut None (n ∷ ms) [] (p ∷ before) behind same is = absurd (omega (arith, same))
  cut None (n ∷ ms) (s ∷ u) (p ∷ before) behind same is =
      let e : copied s ∷ pieces_of n ms u ≡ p ∷ (before ++ behind) = is in
      let head : p ≡ copied s = cc in
      let tail : pieces_of n ms u ≡ before ++ behind = cc in
      cut_later None n ms s u before behind (p ∷ before) (ap (λ (q : Piece L). q ∷ before) head) (cut n ms u before behind (omega (arith, same)) tail)
  cut (Some word) ms u (p ∷ []) behind same is =
      let e : replaced [] word ∷ pieces_behind u ms ≡ p ∷ behind = is in
      let head : p ≡ replaced [] word = cc in
      let tail : behind ≡ pieces_behind u ms = cc in
      ([], u, [], Some word, ms, refl, refl, refl, same, inr (ap (λ (q : Piece L). q ∷ []) head, tail))
  cut (Some word) [] [] (p ∷ q ∷ before) behind same is = let e : replaced [] word ∷ [] ≡ p ∷ q ∷ (before ++ behind) = is in absurd (cc)
  cut (Some word) [] (s ∷ u) (p ∷ q ∷ before) behind same is = absurd (omega (arith, same))
  cut (Some word) (n ∷ ms) [] (p ∷ q ∷ before) behind same is = absurd (omega (arith, same))
  cut (Some word) (n ∷ ms) (s ∷ u) (p ∷ q ∷ before) behind same is =
      let e : replaced [] word ∷ copied s ∷ pieces_of n ms u ≡ p ∷ q ∷ (before ++ behind) = is in
      let first : p ≡ replaced [] word = cc in
      let head : q ≡ copied s = cc in
      let tail : pieces_of n ms u ≡ before ++ behind = cc in
      cut_later (Some word) n ms s u before behind (p ∷ q ∷ before) (ap (λ (r : Piece L). r ∷ q ∷ before) first ∙ ap (λ (r : Piece L). replaced [] word ∷ r ∷ before) head) (cut n ms u before behind (omega (arith, same)) tail)

  -- no insertion stands at the end of the pieces before a place, nor at the beginning of those behind it
  open_before : (front : List (Option (List L))) (x : List L) (ps : List (Piece L)) (c word : List L) → pieces_before front x ≡ ps ++ replaced c word ∷ [] → ⊥
  open_before [] x ps c word is = none ps is
    where
      none : (ps : List (Piece L)) → [] ≡ ps ++ replaced c word ∷ [] → ⊥
      none [] e = cc
      none (p ∷ ps) e = cc
  open_before (m ∷ front) [] ps c word is = none ps is
    where
      none : (ps : List (Piece L)) → [] ≡ ps ++ replaced c word ∷ [] → ⊥
      none [] e = cc
      none (p ∷ ps) e = cc
  open_before (None ∷ front) (s ∷ x) [] c word is = let e : copied s ∷ pieces_before front x ≡ replaced c word ∷ [] = is in cc
  open_before (None ∷ front) (s ∷ x) (p ∷ ps) c word is =
      let e : copied s ∷ pieces_before front x ≡ p ∷ (ps ++ replaced c word ∷ []) = is in
      open_before front x ps c word (cc)
  open_before (Some put_in ∷ front) (s ∷ x) [] c word is = let e : replaced [] put_in ∷ copied s ∷ pieces_before front x ≡ replaced c word ∷ [] = is in cc
  open_before (Some put_in ∷ front) (s ∷ x) (p ∷ []) c word is = let e : replaced [] put_in ∷ copied s ∷ pieces_before front x ≡ p ∷ replaced c word ∷ [] = is in cc
  open_before (Some put_in ∷ front) (s ∷ x) (p ∷ q ∷ ps) c word is =
      let e : replaced [] put_in ∷ copied s ∷ pieces_before front x ≡ p ∷ q ∷ (ps ++ replaced c word ∷ []) = is in
      open_before front x ps c word (cc)

  open_behind : (z : List L) (back : List (Option (List L))) (ps : List (Piece L)) (c word : List L) → pieces_behind z back ≡ replaced c word ∷ ps → ⊥
  open_behind [] back ps c word is = let e : [] ≡ replaced c word ∷ ps = is in cc
  open_behind (s ∷ z) [] ps c word is = let e : [] ≡ replaced c word ∷ ps = is in cc
  open_behind (s ∷ z) (m ∷ back) ps c word is = let e : copied s ∷ pieces_of m back z ≡ replaced c word ∷ ps = is in cc

  not_filled : (front : List (Option (List L))) (x z : List L) (back : List (Option (List L))) → IsFilled (pieces_before front x) (pieces_behind z back) → ⊥
  not_filled front x z back h = elim h as (λ _. ⊥) [ inl at ↦ open_before front x at.0 [] at.1 at.2 | inr at ↦ open_behind z back at.0 [] at.1 at.2 ]

  -- a piece that replaces is the word at its place
  replaced_at : (m : Option (List L)) (ms : List (Option (List L))) (u : List L) (before : List (Piece L)) (c r : List L) (behind : List (Piece L)) → length ms ≡ length u → pieces_of m ms u ≡ before ++ replaced c r ∷ behind
      → (x z : List L) × (front back : List (Option (List L))) × (u ≡ x ++ z) × (m ∷ ms ≡ front ++ Some r ∷ back) × (length front ≡ length x) × (length back ≡ length z) × (c ≡ []) × (before ≡ pieces_before front x) × (behind ≡ pieces_behind z back)
  replaced_at m ms u before c r behind same is =
      let (x, z, front, k, back, word, places, first, last, sides) = cut m ms u before (replaced c r ∷ behind) same is in
      elim sides as (λ _. (x z : List L) × (front back : List (Option (List L))) × (u ≡ x ++ z) × (m ∷ ms ≡ front ++ Some r ∷ back) × (length front ≡ length x) × (length back ≡ length z) × (c ≡ []) × (before ≡ pieces_before front x) × (behind ≡ pieces_behind z back)) [
        | inl at ↦ let t = there k z back at.1 in (x, z, front, back, word, places ∙ ap (λ (o : Option (List L)). front ++ o ∷ back) t.0, first, last, t.1, at.0, t.2)
        | inr at ↦ absurd (open_behind z back behind c r (sym at.1))
      ]
    where
      there : (k : Option (List L)) (z : List L) (back : List (Option (List L))) → replaced c r ∷ behind ≡ put k ++ pieces_behind z back → (k ≡ Some r) × (c ≡ []) × (behind ≡ pieces_behind z back)
      there None z back is = absurd (open_behind z back behind c r (sym is))
      there (Some word) z back is =
          let e : replaced c r ∷ behind ≡ replaced [] word ∷ pieces_behind z back = is in
          let centre : c ≡ [] = cc in
          let same_word : r ≡ word = cc in
          (ap (λ (w : List L). Some w) (sym same_word), centre, cc)

  -- a piece that copies is a symbol of the word
  copied_first : (z : List L) (back : List (Option (List L))) (s : L) (behind : List (Piece L)) → copied s ∷ behind ≡ pieces_behind z back → (more : List L) × (z ≡ s ∷ more)
  copied_first [] back s behind is = let e : copied s ∷ behind ≡ [] = is in absurd (cc)
  copied_first (r ∷ z) [] s behind is = let e : copied s ∷ behind ≡ [] = is in absurd (cc)
  copied_first (r ∷ z) (m ∷ back) s behind is = let e : copied s ∷ behind ≡ copied r ∷ pieces_of m back z = is in (z, ap (λ (q : L). q ∷ z) (cc))

  copied_at : (m : Option (List L)) (ms : List (Option (List L))) (u : List L) (before : List (Piece L)) (s : L) (behind : List (Piece L)) → length ms ≡ length u → pieces_of m ms u ≡ before ++ copied s ∷ behind
      → (x more : List L) × (u ≡ x ++ s ∷ more)
  copied_at m ms u before s behind same is =
      let (x, z, front, k, back, word, places, first, last, sides) = cut m ms u before (copied s ∷ behind) same is in
      elim sides as (λ _. (x more : List L) × (u ≡ x ++ s ∷ more)) [
        | inl at ↦ let r = there k z back at.1 in (x, r.0, word ∙ ap (λ (y : List L). x ++ y) r.1)
        | inr at ↦ let r = copied_first z back s behind at.1 in (x, r.0, word ∙ ap (λ (y : List L). x ++ y) r.1)
      ]
    where
      there : (k : Option (List L)) (z : List L) (back : List (Option (List L))) → copied s ∷ behind ≡ put k ++ pieces_behind z back → (more : List L) × (z ≡ s ∷ more)
      there None z back is = copied_first z back s behind is
      there (Some word) z back is = let e : copied s ∷ behind ≡ replaced [] word ∷ pieces_behind z back = is in absurd (cc)

  -- places by the words at them
  abbrev IsSplitAt : List (Option (List L)) → List (List L) → List L → List (List L) → Type 0
  IsSplitAt places before word behind = (front : List (Option (List L))) × (k : Option (List L)) × (back : List (Option (List L))) × (places ≡ front ++ k ∷ back) × (words_of front ≡ before) × (word_of k ≡ word) × (words_of back ≡ behind)

  words_later : (f : Option (List L)) (places : List (Option (List L))) (b : List L) (before : List (List L)) (word : List L) (behind : List (List L)) → word_of f ≡ b → IsSplitAt places before word behind → IsSplitAt (f ∷ places) (b ∷ before) word behind
  words_later f places b before word behind head (front, k, back, is, first, here, last) =
      (f ∷ front, k, back, ap (λ (ns : List (Option (List L))). f ∷ ns) is, ap (λ (v : List L). v ∷ words_of front) head ∙ ap (λ (vs : List (List L)). b ∷ vs) first, here, last)

  words_split : (places : List (Option (List L))) (before : List (List L)) (word : List L) (behind : List (List L)) → words_of places ≡ before ++ word ∷ behind → IsSplitAt places before word behind
  words_split [] [] word behind is = let e : [] ≡ word ∷ behind = is in absurd (cc)
  words_split [] (b ∷ before) word behind is = let e : [] ≡ b ∷ (before ++ word ∷ behind) = is in absurd (cc)
  words_split (k ∷ back) [] word behind is = let e : word_of k ∷ words_of back ≡ word ∷ behind = is in ([], k, back, refl, refl, cc, cc)
  words_split (f ∷ places) (b ∷ before) word behind is =
      let e : word_of f ∷ words_of places ≡ b ∷ (before ++ word ∷ behind) = is in
      let head : word_of f ≡ b = cc in
      words_later f places b before word behind head (words_split places before word behind (cc))

  -- pieces of which each replacement puts something in, and no two stand side by side
  abbrev IsPlain : List L → Piece L → Type 0
  IsPlain alphabet (copied s) = Contains alphabet s
  IsPlain alphabet (replaced c r) = c ≡ []

  abbrev ArePlain : List L → List (Piece L) → Type 0
  ArePlain alphabet ps =
      ((before : List (Piece L)) (p : Piece L) (behind : List (Piece L)) → ps ≡ before ++ p ∷ behind → IsPlain alphabet p)
      × ((before : List (Piece L)) (one two : List L) (behind : List (Piece L)) → ps ≡ before ++ replaced [] one ∷ replaced [] two ∷ behind → ⊥)

  plain_behind : (alphabet : List L) (p : Piece L) (ps : List (Piece L)) → ArePlain alphabet (p ∷ ps) → ArePlain alphabet ps
  plain_behind alphabet p ps plain = (
    λ before q behind is. plain.0 (p ∷ before) q behind (ap (λ (rs : List (Piece L)). p ∷ rs) is),
    λ before one two behind is. plain.1 (p ∷ before) one two behind (ap (λ (rs : List (Piece L)). p ∷ rs) is),
  )

  shape : (alphabet : List L) (ps : List (Piece L)) → ArePlain alphabet ps → (m : Option (List L)) × (ms : List (Option (List L))) × (v : List L) × (ps ≡ pieces_of m ms v) × (length ms ≡ length v) × IsOver alphabet v
  shape alphabet [] plain = (None, [], [], refl, refl, All-nil (Contains alphabet))
  shape alphabet (copied s ∷ ps) plain =
      let (m, ms, v, is, same, over) = shape alphabet ps (plain_behind alphabet (copied s) ps plain) in
      (None, m ∷ ms, s ∷ v, ap (λ (rs : List (Piece L)). copied s ∷ rs) is, omega (arith, same), All-cons (Contains alphabet) s v (plain.0 [] (copied s) ps refl) over)
  shape alphabet (replaced c r ∷ ps) plain =
      let (m, ms, v, is, same, over) = shape alphabet ps (plain_behind alphabet (replaced c r) ps plain) in
      let centre : c ≡ [] = plain.0 [] (replaced c r) ps refl in
      (Some r, ms, v, ap (λ (d : List L). replaced d r ∷ ps) centre ∙ ap (λ (rs : List (Piece L)). replaced [] r ∷ rs) (alone m ms v centre is), same, over)
    where
      alone : (m : Option (List L)) (ms : List (Option (List L))) (v : List L) → c ≡ [] → ps ≡ pieces_of m ms v → ps ≡ pieces_behind v ms
      alone None ms v centre is = is
      alone (Some word) ms v centre is =
          absurd (plain.1 [] r word (pieces_behind v ms) (ap (λ (d : List L). replaced d r ∷ ps) centre ∙ ap (λ (rs : List (Piece L)). replaced [] r ∷ rs) is))

  module _ (optional : Bool) (side : Side) (P : List L → Type 0) (May : List L → List L → Type 0) where
    abbrev MayAt : List L → List L → List (List L) → List (List L) → Type 0
    MayAt x z before behind = May (read_left side x (with_before before x)) (read_right side z (with_behind z behind))

    -- what is put in is a word of the set, where one may be; and where none is, none need be
    abbrev IsRight : Option (List L) → Type 0 → Type 0
    IsRight None Here = optional ≡ false → ¬ Here
    IsRight (Some word) Here = Here × P word

    abbrev AreRight : List (Option (List L)) → List L → Type 0
    AreRight places u =
        (x z : List L) (front : List (Option (List L))) (k : Option (List L)) (back : List (Option (List L))) → u ≡ x ++ z → places ≡ front ++ k ∷ back → length front ≡ length x → IsRight k (MayAt x z (words_of front) (words_of back))

    right_filling : (k : Option (List L)) (Here : Type 0) → IsRight k Here → IsFilling optional P Here (word_of k)
    right_filling None Here right = inr (right, refl)
    right_filling (Some word) Here right = inl right

    right_fillings : (places : List (Option (List L))) (u : List L) → AreRight places u → AreFillings optional side P May (words_of places) u
    right_fillings places u right x z before word behind at is count =
        let (front, k, back, split, b, w, e) = words_split places before word behind is in
        let size : length front ≡ length x = sym (length-map front word_of) ∙ ap length b ∙ count in
        let here = right_filling k (MayAt x z (words_of front) (words_of back)) (right x z front k back at split size) in
        subst (λ (v : List L). IsFilling optional P (MayAt x z before behind) v) w
        (subst₂ (λ (bs es : List (List L)). IsFilling optional P (MayAt x z bs es) (word_of k)) b e here)

    pick : (word : List L) (Here : Type 0) → IsFilling optional P Here word → (k : Option (List L)) × (word_of k ≡ word) × IsRight k Here
    pick word Here h = elim h as (λ _. (k : Option (List L)) × (word_of k ≡ word) × IsRight k Here) [ inl there ↦ (Some word, refl, there) | inr none ↦ (None, sym none.1, none.0) ]

    -- and back: at each place it is told whether something is put in
    module _ (words : List (List L)) (u : List L) (fillings : AreFillings optional side P May words u) where
      abbrev AreChosen : List L → List L → List (List L) → List (Option (List L)) → Type 0
      AreChosen x z before places =
          (y t : List L) (front : List (Option (List L))) (k : Option (List L)) (back : List (Option (List L))) → z ≡ y ++ t → places ≡ front ++ k ∷ back → length front ≡ length y
          → IsRight k (MayAt (x ++ y) t (before ++ words_of front) (words_of back))

      at_place : (x z : List L) (before : List (List L)) (k : Option (List L)) (places : List (Option (List L))) → IsRight k (MayAt x z before (words_of places)) → IsRight k (MayAt (x ++ []) z (before ++ []) (words_of places))
      at_place x z before k places right = subst₂ (λ (v : List L) (bs : List (List L)). IsRight k (MayAt v z bs (words_of places))) (sym (append-nil x)) (sym (append-nil before)) right

      choose : (x z : List L) (before rest : List (List L)) → u ≡ x ++ z → words ≡ before ++ rest → length before ≡ length x → length rest ≡ length z + 1 → (places : List (Option (List L))) × (words_of places ≡ rest) × AreChosen x z before places
      choose x z before [] at is count left = absurd (omega (arith, left))
      choose x [] before (word ∷ more ∷ rest) at is count left = absurd (omega (arith, left))
      choose x (s ∷ z) before (word ∷ []) at is count left = absurd (omega (arith, left))
      choose x [] before (word ∷ []) at is count left =
          let (k, same, right) = pick word (MayAt x [] before []) (fillings x [] before word [] at is count) in
          (k ∷ [], ap (λ (w : List L). w ∷ []) same, each k right)
        where
          each : (k : Option (List L)) → IsRight k (MayAt x [] before []) → AreChosen x [] before (k ∷ [])
          each k right [] t [] l back at split size =
              let e : k ∷ [] ≡ l ∷ back = split in
              let head : k ≡ l = cc in
              let tail : [] ≡ back = cc in
              subst (λ (v : List L). IsRight l (MayAt (x ++ []) v (before ++ []) (words_of back))) at
              (subst₂ (λ (o : Option (List L)) (os : List (Option (List L))). IsRight o (MayAt (x ++ []) [] (before ++ []) (words_of os))) head tail (at_place x [] before k [] right))
          each k right (y ∷ ys) t front l back at split size = let e : [] ≡ y ∷ (ys ++ t) = at in absurd (cc)
          each k right [] t (f ∷ front) l back at split size = absurd (omega (arith, size))
      choose x (s ∷ z) before (word ∷ more ∷ rest) at is count left =
          let (k, same, right) = pick word (MayAt x (s ∷ z) before (more ∷ rest)) (fillings x (s ∷ z) before word (more ∷ rest) at is count) in
          let later = choose (x ++ s ∷ []) z (before ++ word ∷ []) (more ∷ rest) (at ∙ sym (append_assoc x (s ∷ []) z)) (is ∙ sym (append_assoc before (word ∷ []) (more ∷ rest))) (sizes before word x s count) (omega (arith, left)) in (
            k ∷ later.0,
            ap (λ (w : List L). w ∷ words_of later.0) same ∙ ap (λ (ws : List (List L)). word ∷ ws) later.1,
            each k later.0 same (subst (λ (ws : List (List L)). IsRight k (MayAt x (s ∷ z) before ws)) (sym later.1) right) later.2,
          )
        where
          sizes : (before : List (List L)) (word : List L) (x : List L) (s : L) → length before ≡ length x → length (before ++ word ∷ []) ≡ length (x ++ s ∷ [])
          sizes before word x s e = omega (arith, length-append before (word ∷ []), length-append x (s ∷ []), e)

          each : (k : Option (List L)) (places : List (Option (List L))) → word_of k ≡ word → IsRight k (MayAt x (s ∷ z) before (words_of places)) → AreChosen (x ++ s ∷ []) z (before ++ word ∷ []) places → AreChosen x (s ∷ z) before (k ∷ places)
          each k places same right later [] t [] l back at split size =
              let e : k ∷ places ≡ l ∷ back = split in
              let head : k ≡ l = cc in
              let tail : places ≡ back = cc in
              subst (λ (v : List L). IsRight l (MayAt (x ++ []) v (before ++ []) (words_of back))) at
              (subst₂ (λ (o : Option (List L)) (os : List (Option (List L))). IsRight o (MayAt (x ++ []) (s ∷ z) (before ++ []) (words_of os))) head tail (at_place x (s ∷ z) before k places right))
          each k places same right later (y ∷ ys) t [] l back at split size = absurd (omega (arith, size))
          each k places same right later [] t (f ∷ front) l back at split size = absurd (omega (arith, size))
          each k places same right later (y ∷ ys) t (f ∷ front) l back at split size =
              let e : s ∷ z ≡ y ∷ (ys ++ t) = at in
              let symbol : s ≡ y = cc in
              let d : k ∷ places ≡ f ∷ (front ++ l ∷ back) = split in
              let first : k ≡ f = cc in
              let here = later ys t front l back (cc) (cc) (omega (arith, size)) in
              let word_is : word ≡ word_of f = sym same ∙ ap word_of first in
              subst₂ (λ (v : List L) (bs : List (List L)). IsRight l (MayAt v t bs (words_of back)))
              (append_assoc x (s ∷ []) ys ∙ ap (λ (q : L). x ++ q ∷ ys) symbol)
              (append_assoc before (word ∷ []) (words_of front) ∙ ap (λ (v : List L). before ++ v ∷ words_of front) word_is) here

      chosen : length words ≡ length u + 1 → (places : List (Option (List L))) × (words_of places ≡ words) × AreRight places u
      chosen count = choose [] u [] words refl refl refl count

-- replacements that put words of a set in the place of the empty word, where they may stand
module _ {L : Type 0} (alphabet : List L) (optional : Bool) (side : Side) (P : List L → Type 0) (May : List L → List L → Type 0) (Does : List (Piece L) → List L → List L → List (Piece L) → Type 0) (Asks : List (Piece L) → List L → List (Piece L) → Type 0)
    (does : (before : List (Piece L)) (c r : List L) (behind : List (Piece L)) → Does before c r behind ↔ ((c ≡ []) × P r × May (read_before side before) (read_behind side behind)))
    (asks : (before : List (Piece L)) (c : List L) (behind : List (Piece L)) → Asks before c behind ↔ ((c ≡ []) × May (read_before side before) (read_behind side behind))) where
  abbrev Allowed : List (Piece L) → List (Piece L) → Type 0
  Allowed before behind = May (read_before side before) (read_behind side behind)

  -- at a place contexts read the same of the pieces and of the words
  abbrev Here : List L → List L → List (Option (List L)) → List (Option (List L)) → Type 0
  Here x z front back = MayAt optional side P May x z (words_of front) (words_of back)

  here_allowed : (front : List (Option (List L))) (x z : List L) (back : List (Option (List L))) → length front ≡ length x → length back ≡ length z → Here x z front back → Allowed (pieces_before front x) (pieces_behind z back)
  here_allowed front x z back first last h = subst₂ (λ (l r : List L). May l r) (sym (before_read side front x first)) (sym (behind_read side z back last)) h

  allowed_here : (front : List (Option (List L))) (x z : List L) (back : List (Option (List L))) → length front ≡ length x → length back ≡ length z → Allowed (pieces_before front x) (pieces_behind z back) → Here x z front back
  allowed_here front x z back first last h = subst₂ (λ (l r : List L). May l r) (before_read side front x first) (behind_read side z back last) h

  -- a derivation puts in right words
  module _ (pieces : List (Piece L)) (derives : IsDerivation alphabet Does Asks pieces) (obliged : optional ≡ false → IsObligatory alphabet Does Asks pieces) where
    plain : ArePlain alphabet pieces
    plain = (each, derives.1)
      where
        each : (before : List (Piece L)) (p : Piece L) (behind : List (Piece L)) → pieces ≡ before ++ p ∷ behind → IsPlain alphabet p
        each before (copied s) behind is = derives.0 before (copied s) behind is
        each before (replaced c r) behind is = ((does before c r behind).0 (derives.0 before (replaced c r) behind is)).0

    put_right : (m : Option (List L)) (ms : List (Option (List L))) (u : List L) → pieces ≡ pieces_of m ms u → length ms ≡ length u → AreRight optional side P May (m ∷ ms) u
    put_right m ms u made same x z front k back at split first =
        let last : length back ≡ length z =
        omega (arith, same, ap length split ∙ length-append front (k ∷ back), ap length at ∙ length-append x z, first) in
        let is : pieces ≡ pieces_before front x ++ (put k ++ pieces_behind z back) =
        made ∙ ap (λ (v : List L). pieces_of m ms v) at ∙ together front k back x z m ms split first in
        right k last is
      where
        right : (k : Option (List L)) → length back ≡ length z → pieces ≡ pieces_before front x ++ (put k ++ pieces_behind z back) → IsRight optional side P May k (Here x z front back)
        right None last is =
            λ none here. not_filled front x z back (obliged none (pieces_before front x) [] (pieces_behind z back) is ((asks (pieces_before front x) [] (pieces_behind z back)).1 (refl, here_allowed front x z back first last here))).1
        right (Some word) last is =
            let done = (does (pieces_before front x) [] word (pieces_behind z back)).0 (derives.0 (pieces_before front x) (replaced [] word) (pieces_behind z back) is) in
            (allowed_here front x z back first last done.2, done.1)

    derived : (u w : List L) → u ≡ uppers pieces → w ≡ lowers pieces → IsInserted optional side P May alphabet u w
    derived u w up low =
        let (m, ms, v, is, same, over) = shape alphabet pieces plain in
        let word : u ≡ v = up ∙ ap uppers is ∙ uppers_put m (pieces_behind v ms) ∙ uppers_behind v ms same in
        let lower_word : w ≡ filled (words_of (m ∷ ms)) v = low ∙ ap lowers is ∙ lowers_put m (pieces_behind v ms) ∙ ap (λ (y : List L). word_of m ++ y) (lowers_behind v ms same) in
        let count : length (words_of (m ∷ ms)) ≡ length v + 1 = omega (arith, length-map ms word_of, same) in
        subst (λ (y : List L). IsInserted optional side P May alphabet y w) (sym word)
        (over, words_of (m ∷ ms), count, lower_word, right_fillings optional side P May (m ∷ ms) v (put_right m ms v is same))

  -- right words at the places are a derivation
  module _ (u : List L) (over : IsOver alphabet u) (m : Option (List L)) (ms : List (Option (List L))) (same : length ms ≡ length u) (right : AreRight optional side P May (m ∷ ms) u) where
    derivation : IsDerivation alphabet Does Asks (pieces_of m ms u)
    derivation = (each, none)
      where
        each : (before : List (Piece L)) (p : Piece L) (behind : List (Piece L)) → pieces_of m ms u ≡ before ++ p ∷ behind → IsPiece alphabet Does Asks before p behind
        each before (copied s) behind is =
            let (x, more, word) = copied_at m ms u before s behind same is in
            All-contains (Contains alphabet) (x ++ s ∷ more) s (subst (IsOver alphabet) word over) (Contains-append_right x (s ∷ more) s (Contains-head s more))
        each before (replaced c r) behind is =
            let (x, z, front, back, at, split, first, last, centre, left, after) = replaced_at m ms u before c r behind same is in
            let here = right x z front (Some r) back at split first in
            subst₂ (λ (b e : List (Piece L)). Does b c r e) (sym left) (sym after) ((does (pieces_before front x) c r (pieces_behind z back)).1 (centre, here.1, here_allowed front x z back first last here.0))

        none : (before : List (Piece L)) (one two : List L) (behind : List (Piece L)) → pieces_of m ms u ≡ before ++ replaced [] one ∷ replaced [] two ∷ behind → ⊥
        none before one two behind is =
            let (x, z, front, back, at, split, first, last, centre, left, after) = replaced_at m ms u before [] one (replaced [] two ∷ behind) same is in
            open_behind z back behind [] two (sym after)

    obligatory : optional ≡ false → IsObligatory alphabet Does Asks (pieces_of m ms u)
    obligatory asked before centre behind is applies =
        let (none, allowed) = (asks before centre behind).0 applies in
        let whole : pieces_of m ms u ≡ before ++ behind = is ∙ ap (λ (c : List L). before ++ (map copied c ++ behind)) none in
        let (x, z, front, k, back, at, split, first, last, sides) = cut m ms u before behind same whole in (
          none,
          elim sides as (λ _. IsFilled before behind) [
            | inl here ↦ before_it x z front k back first last here.0 here.1 allowed (right x z front k back at split first)
            | inr here ↦ behind_it x z front k back first last here.0 here.1 allowed (right x z front k back at split first)
          ],
        )
      where
        left_empty : (x z : List L) (front back : List (Option (List L))) → length front ≡ length x → length back ≡ length z → before ≡ pieces_before front x → behind ≡ pieces_behind z back → Allowed before behind → (optional ≡ false → ¬ Here x z front back) → IsFilled before behind
        left_empty x z front back first last b e allowed nothing = absurd (nothing asked (allowed_here front x z back first last (subst₂ (λ (l r : List (Piece L)). Allowed l r) b e allowed)))

        before_it : (x z : List L) (front : List (Option (List L))) (k : Option (List L)) (back : List (Option (List L))) → length front ≡ length x → length back ≡ length z → before ≡ pieces_before front x → behind ≡ put k ++ pieces_behind z back
            → Allowed before behind → IsRight optional side P May k (Here x z front back) → IsFilled before behind
        before_it x z front None back first last b e allowed nothing = left_empty x z front back first last b e allowed nothing
        before_it x z front (Some word) back first last b e allowed there = inr (pieces_behind z back, word, e)

        behind_it : (x z : List L) (front : List (Option (List L))) (k : Option (List L)) (back : List (Option (List L))) → length front ≡ length x → length back ≡ length z → before ≡ pieces_before front x ++ put k → behind ≡ pieces_behind z back
            → Allowed before behind → IsRight optional side P May k (Here x z front back) → IsFilled before behind
        behind_it x z front None back first last b e allowed nothing = left_empty x z front back first last (b ∙ append-nil (pieces_before front x)) e allowed nothing
        behind_it x z front (Some word) back first last b e allowed there = inl (pieces_before front x, word, b)

    rewritten : (w : List L) → w ≡ filled (words_of (m ∷ ms)) u → IsRewritten alphabet Does Asks optional u w
    rewritten w is = (
      pieces_of m ms u,
      derivation,
      obligatory,
      sym (uppers_put m (pieces_behind u ms) ∙ uppers_behind u ms same),
      is ∙ sym (lowers_put m (pieces_behind u ms) ∙ ap (λ (y : List L). word_of m ++ y) (lowers_behind u ms same)),
    )

  some_place : (u w : List L) → IsOver alphabet u → (places : List (Option (List L))) → length places ≡ length u + 1 → AreRight optional side P May places u → w ≡ filled (words_of places) u → IsRewritten alphabet Does Asks optional u w
  some_place u w over [] count right is = absurd (omega (arith, count))
  some_place u w over (m ∷ ms) count right is = rewritten u over m ms (omega (arith, count)) right w is

  inserted : (u w : List L) → IsInserted optional side P May alphabet u w → IsRewritten alphabet Does Asks optional u w
  inserted u w (over, words, count, is, fillings) =
      let (places, same, right) = chosen optional side P May words u fillings count in
      some_place u w over places (sym (length-map places word_of) ∙ ap length same ∙ count) right (is ∙ ap (λ (ws : List (List L)). filled ws u) (sym same))

  pub fills_places : AreSame (IsRewritten alphabet Does Asks optional) (IsInserted optional side P May alphabet)
  fills_places u w = (λ (pieces, derives, obliged, up, low). derived pieces derives obliged u w up low, inserted u w)

-- an insertion is such
module _ (alphabet : List Sym) (a : Term Atom) (side : Side) (contexts : Contexts Atom) where
  abbrev Puts : List Sym → Type 0
  Puts word = Has alphabet a (inner word)

  abbrev May : List Sym → List Sym → Type 0
  May x z = (contexts ≡ no_context) ⊎ InContext stands_for alphabet contexts (inner x) (inner z)

  abbrev rule : Groups Atom
  rule = then_group (insert a no_mapping) side contexts no_group

  does_it : (before : List (Piece Sym)) (c r : List Sym) (behind : List (Piece Sym)) → Replaces stands_for alphabet rule before c r behind ↔ ((c ≡ []) × Puts r × May (read_before side before) (read_behind side behind))
  does_it before c r behind = (
    λ h. elim h as (λ _. (c ≡ []) × Puts r × May (read_before side before) (read_behind side behind)) [
      | inl here ↦ elim here.0 as (λ _. (c ≡ []) × Puts r × May (read_before side before) (read_behind side behind)) [ inl both ↦ (both.0, both.1, here.1) | inr none ↦ absurd none ]
      | inr none ↦ absurd none
    ],
    λ h. inl (inl (h.0, h.1), h.2),
  )

  asks_it : (before : List (Piece Sym)) (c : List Sym) (behind : List (Piece Sym)) → Applies stands_for alphabet rule before c behind ↔ ((c ≡ []) × May (read_before side before) (read_behind side behind))
  asks_it before c behind = (
    λ h. elim h as (λ _. (c ≡ []) × May (read_before side before) (read_behind side behind)) [
      | inl here ↦ elim here.0 as (λ _. (c ≡ []) × May (read_before side before) (read_behind side behind)) [ inl is ↦ (is, here.1) | inr none ↦ absurd none ]
      | inr none ↦ absurd none
    ],
    λ h. inl (inl h.0, h.1),
  )

pub insertion_fills_places : InsertionFillsPlaces
insertion_fills_places alphabet optional a side contexts =
    fills_places alphabet optional side (Puts alphabet a side contexts) (May alphabet a side contexts) (Replaces stands_for alphabet (rule alphabet a side contexts)) (Applies stands_for alphabet (rule alphabet a side contexts)) (does_it alphabet a side contexts) (asks_it alphabet a side contexts)
