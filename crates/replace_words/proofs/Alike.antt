-- Words of marks, and the words of the firsts of their symbols.
use Rattle.std.proofs.Common.{◌≡◌, ◌↔◌, ◌⊎◌, ℕ, Bool, false, List, [], ◌∷◌, ◌++◌, Option, Some, None, map, refl, sym, ap, subst, ◌∙◌, inl, inr}
use Rattle.std.specs.Prelude.{All, Contains, slice_get, option_map}
use Rattle.std.specs.List.{flat_map, filter_map, cons_option}
use Rattle.std.proofs.Math.Path.{subst₂}
use Rattle.std.proofs.lemmas.List.{map-append}
use Rattle.std.proofs.lemmas.List.Elements.{All-nil, All-cons, All-head, All-tail}
use Rattle.fsm_base.specs.declared.letters.Bound.{Bound}
use Rattle.fsm_base.specs.declared.letters.Bound.TheVariants.{Edge, Inner}
use Rattle.fsm_base.specs.declared.letters.Sym.{Sym}
use Rattle.regex_ast.specs.declared.expr.Side.{Side}
use Rattle.regex_ast.specs.declared.expr.Side.TheVariants.{UpUp, LowUp, UpLow, LowLow}
use Rattle.word_relations.specs.Words.{IsOver}
use Rattle.word_relations.proofs.Places.{Contains-from_slice_get}
use Rattle.replace_words.specs.declared.marks.Mark.{Mark}
use Rattle.replace_words.specs.declared.marks.Mark.TheVariants.{Copy, Up, Low, Same, Open, Close}
use Rattle.replace_words.specs.Places.{Rules}
use Rattle.replace_words.specs.Marked.{upper_of, lower_of, copies, ups, lows, sames, bracket, side_of, reading, on_left, on_right, LeavesNone, IsReplacement, IsBlock, IsWellMarked, LeftHolds, RightHolds, IsKept}
use Rattle.replace_words.specs.Firsts.{first_mark, first_bound, HasSymbolIn, IsBoundIn, ActsByFirsts}
use Rattle.replace_words.specs.Laws.{MarkedWordsGoByFirsts}

-- parts of a list of which all are so
all_front : {X : Type 0} (Q : X → Type 0) (x y : List X) → All Q (x ++ y) → All Q x
all_front Q [] y h = All-nil Q
all_front Q (a ∷ x) y h = All-cons Q a x (All-head Q a (x ++ y) h) (all_front Q x y (All-tail Q a (x ++ y) h))

all_back : {X : Type 0} (Q : X → Type 0) (x y : List X) → All Q (x ++ y) → All Q y
all_back Q [] y h = h
all_back Q (a ∷ x) y h = all_back Q x y (All-tail Q a (x ++ y) h)

-- where what a function gives of a list is in parts, the list is
pub map_split : {X Y : Type 0} (f : X → Y) (w : List X) (x y : List Y) → map f w ≡ x ++ y → (u : List X) × (v : List X) × (w ≡ u ++ v) × (map f u ≡ x) × (map f v ≡ y)
map_split f w [] y is = ([], w, refl, refl, is)
map_split f [] (b ∷ x) y is = let e : [] ≡ b ∷ (x ++ y) = is in absurd (cc)
map_split f (a ∷ w) (b ∷ x) y is =
    let e : f a ∷ map f w ≡ b ∷ (x ++ y) = is in
    let head : f a ≡ b = cc in
    let tail : map f w ≡ x ++ y = cc in
    let r = map_split f w x y tail in
    (a ∷ r.0, r.1, ap (λ z. a ∷ z) r.2, ap (λ b. b ∷ map f r.0) head ∙ ap (λ z. b ∷ z) r.3, r.4)

map_cons : {X Y : Type 0} (f : X → Y) (w : List X) (b : Y) (y : List Y) → map f w ≡ b ∷ y → (a : X) × (v : List X) × (w ≡ a ∷ v) × (f a ≡ b) × (map f v ≡ y)
map_cons f [] b y is = let e : [] ≡ b ∷ y = is in absurd (cc)
map_cons f (a ∷ w) b y is =
    let e : f a ∷ map f w ≡ b ∷ y = is in
    let head : f a ≡ b = cc in
    let tail : map f w ≡ y = cc in
    (a, w, refl, head, tail)

map_nil : {X Y : Type 0} (f : X → Y) (w : List X) → map f w ≡ [] → w ≡ []
map_nil f [] is = refl
map_nil f (a ∷ w) is = let e : f a ∷ map f w ≡ [] = is in absurd (cc)

module _ (first : Sym → Sym) where
  abbrev Mapped : List (Bound Mark) → List (Bound Mark)
  Mapped w = map (first_mark first) w

  -- a way to write a symbol as a mark
  record Writes (symbols : List Sym) (K : Sym → Mark) : Type 0 where
    pub there : (s : Sym) → first_mark first (Inner (K s)) ≡ Inner (K (first s))
    pub back : (m : Bound Mark) (t : Sym) → first_mark first m ≡ Inner (K t) → (s : Sym) × (m ≡ Inner (K s)) × (first s ≡ t)
    pub symbol : (s : Sym) → HasSymbolIn symbols (Inner (K s)) → Contains symbols s

  copy_back : (m : Bound Mark) (t : Sym) → first_mark first m ≡ Inner (Copy t) → (s : Sym) × (m ≡ Inner (Copy s)) × (first s ≡ t)
  copy_back Edge t is = let e : Edge ≡ Inner (Copy t) = is in absurd (cc)
  copy_back (Inner (Copy s)) t is = let e : Inner (Copy (first s)) ≡ Inner (Copy t) = is in (s, refl, cc)
  copy_back (Inner (Up s)) t is = let e : Inner (Up (first s)) ≡ Inner (Copy t) = is in absurd (cc)
  copy_back (Inner (Low s)) t is = let e : Inner (Low (first s)) ≡ Inner (Copy t) = is in absurd (cc)
  copy_back (Inner (Same s)) t is = let e : Inner (Same (first s)) ≡ Inner (Copy t) = is in absurd (cc)
  copy_back (Inner (Open k)) t is = let e : Inner (Open k) ≡ Inner (Copy t) = is in absurd (cc)
  copy_back (Inner (Close k)) t is = let e : Inner (Close k) ≡ Inner (Copy t) = is in absurd (cc)

  up_back : (m : Bound Mark) (t : Sym) → first_mark first m ≡ Inner (Up t) → (s : Sym) × (m ≡ Inner (Up s)) × (first s ≡ t)
  up_back Edge t is = let e : Edge ≡ Inner (Up t) = is in absurd (cc)
  up_back (Inner (Copy s)) t is = let e : Inner (Copy (first s)) ≡ Inner (Up t) = is in absurd (cc)
  up_back (Inner (Up s)) t is = let e : Inner (Up (first s)) ≡ Inner (Up t) = is in (s, refl, cc)
  up_back (Inner (Low s)) t is = let e : Inner (Low (first s)) ≡ Inner (Up t) = is in absurd (cc)
  up_back (Inner (Same s)) t is = let e : Inner (Same (first s)) ≡ Inner (Up t) = is in absurd (cc)
  up_back (Inner (Open k)) t is = let e : Inner (Open k) ≡ Inner (Up t) = is in absurd (cc)
  up_back (Inner (Close k)) t is = let e : Inner (Close k) ≡ Inner (Up t) = is in absurd (cc)

  low_back : (m : Bound Mark) (t : Sym) → first_mark first m ≡ Inner (Low t) → (s : Sym) × (m ≡ Inner (Low s)) × (first s ≡ t)
  low_back Edge t is = let e : Edge ≡ Inner (Low t) = is in absurd (cc)
  low_back (Inner (Copy s)) t is = let e : Inner (Copy (first s)) ≡ Inner (Low t) = is in absurd (cc)
  low_back (Inner (Up s)) t is = let e : Inner (Up (first s)) ≡ Inner (Low t) = is in absurd (cc)
  low_back (Inner (Low s)) t is = let e : Inner (Low (first s)) ≡ Inner (Low t) = is in (s, refl, cc)
  low_back (Inner (Same s)) t is = let e : Inner (Same (first s)) ≡ Inner (Low t) = is in absurd (cc)
  low_back (Inner (Open k)) t is = let e : Inner (Open k) ≡ Inner (Low t) = is in absurd (cc)
  low_back (Inner (Close k)) t is = let e : Inner (Close k) ≡ Inner (Low t) = is in absurd (cc)

  same_back : (m : Bound Mark) (t : Sym) → first_mark first m ≡ Inner (Same t) → (s : Sym) × (m ≡ Inner (Same s)) × (first s ≡ t)
  same_back Edge t is = let e : Edge ≡ Inner (Same t) = is in absurd (cc)
  same_back (Inner (Copy s)) t is = let e : Inner (Copy (first s)) ≡ Inner (Same t) = is in absurd (cc)
  same_back (Inner (Up s)) t is = let e : Inner (Up (first s)) ≡ Inner (Same t) = is in absurd (cc)
  same_back (Inner (Low s)) t is = let e : Inner (Low (first s)) ≡ Inner (Same t) = is in absurd (cc)
  same_back (Inner (Same s)) t is = let e : Inner (Same (first s)) ≡ Inner (Same t) = is in (s, refl, cc)
  same_back (Inner (Open k)) t is = let e : Inner (Open k) ≡ Inner (Same t) = is in absurd (cc)
  same_back (Inner (Close k)) t is = let e : Inner (Close k) ≡ Inner (Same t) = is in absurd (cc)

  open_back : (m : Bound Mark) (k : ℕ) → first_mark first m ≡ Inner (Open k) → m ≡ Inner (Open k)
  open_back Edge k is = let e : Edge ≡ Inner (Open k) = is in absurd (cc)
  open_back (Inner (Copy s)) k is = let e : Inner (Copy (first s)) ≡ Inner (Open k) = is in absurd (cc)
  open_back (Inner (Up s)) k is = let e : Inner (Up (first s)) ≡ Inner (Open k) = is in absurd (cc)
  open_back (Inner (Low s)) k is = let e : Inner (Low (first s)) ≡ Inner (Open k) = is in absurd (cc)
  open_back (Inner (Same s)) k is = let e : Inner (Same (first s)) ≡ Inner (Open k) = is in absurd (cc)
  open_back (Inner (Open j)) k is = is
  open_back (Inner (Close j)) k is = let e : Inner (Close j) ≡ Inner (Open k) = is in absurd (cc)

  close_back : (m : Bound Mark) (k : ℕ) → first_mark first m ≡ Inner (Close k) → m ≡ Inner (Close k)
  close_back Edge k is = let e : Edge ≡ Inner (Close k) = is in absurd (cc)
  close_back (Inner (Copy s)) k is = let e : Inner (Copy (first s)) ≡ Inner (Close k) = is in absurd (cc)
  close_back (Inner (Up s)) k is = let e : Inner (Up (first s)) ≡ Inner (Close k) = is in absurd (cc)
  close_back (Inner (Low s)) k is = let e : Inner (Low (first s)) ≡ Inner (Close k) = is in absurd (cc)
  close_back (Inner (Same s)) k is = let e : Inner (Same (first s)) ≡ Inner (Close k) = is in absurd (cc)
  close_back (Inner (Open j)) k is = let e : Inner (Open j) ≡ Inner (Close k) = is in absurd (cc)
  close_back (Inner (Close j)) k is = is

  edge_back : (m : Bound Mark) → first_mark first m ≡ Edge → m ≡ Edge
  edge_back Edge is = refl
  edge_back (Inner (Copy s)) is = let e : Inner (Copy (first s)) ≡ Edge = is in absurd (cc)
  edge_back (Inner (Up s)) is = let e : Inner (Up (first s)) ≡ Edge = is in absurd (cc)
  edge_back (Inner (Low s)) is = let e : Inner (Low (first s)) ≡ Edge = is in absurd (cc)
  edge_back (Inner (Same s)) is = let e : Inner (Same (first s)) ≡ Edge = is in absurd (cc)
  edge_back (Inner (Open j)) is = let e : Inner (Open j) ≡ Edge = is in absurd (cc)
  edge_back (Inner (Close j)) is = let e : Inner (Close j) ≡ Edge = is in absurd (cc)

  writes_copy : (symbols : List Sym) → Writes symbols Copy
  writes_copy symbols = record { there = λ s. refl; back = copy_back; symbol = λ s h. h }

  writes_up : (symbols : List Sym) → Writes symbols Up
  writes_up symbols = record { there = λ s. refl; back = up_back; symbol = λ s h. h }

  writes_low : (symbols : List Sym) → Writes symbols Low
  writes_low symbols = record { there = λ s. refl; back = low_back; symbol = λ s h. h }

  writes_same : (symbols : List Sym) → Writes symbols Same
  writes_same symbols = record { there = λ s. refl; back = same_back; symbol = λ s h. h }

  abbrev in_mark : (Sym → Mark) → List Sym → List (Bound Mark)
  in_mark K w = map (λ s. Inner (K s)) w

  module _ (symbols : List Sym) (K : Sym → Mark) (writes : Writes symbols K) where
    written_there : (u : List Sym) → Mapped (in_mark K u) ≡ in_mark K (map first u)
    written_there [] = refl
    written_there (s ∷ u) = ap (λ m. m ∷ Mapped (in_mark K u)) (writes.there s) ∙ ap (λ z. Inner (K (first s)) ∷ z) (written_there u)

    written_back : (w : List (Bound Mark)) (v : List Sym) → Mapped w ≡ in_mark K v → (u : List Sym) × (w ≡ in_mark K u) × (map first u ≡ v)
    written_back [] [] is = ([], refl, refl)
    written_back [] (t ∷ v) is = let e : [] ≡ Inner (K t) ∷ in_mark K v = is in absurd (cc)
    written_back (m ∷ w) [] is = let e : first_mark first m ∷ Mapped w ≡ [] = is in absurd (cc)
    written_back (m ∷ w) (t ∷ v) is =
        let e : first_mark first m ∷ Mapped w ≡ Inner (K t) ∷ in_mark K v = is in
        let head : first_mark first m ≡ Inner (K t) = cc in
        let tail : Mapped w ≡ in_mark K v = cc in
        let s = writes.back m t head in
        let r = written_back w v tail in
        (s.0 ∷ r.0, ap (λ z. z ∷ w) s.1 ∙ ap (λ z. Inner (K s.0) ∷ z) r.1, ap (λ z. z ∷ map first r.0) s.2 ∙ ap (λ z. t ∷ z) r.2)

    written_over : (u : List Sym) → All (HasSymbolIn symbols) (in_mark K u) → IsOver symbols u
    written_over [] h = All-nil (Contains symbols)
    written_over (s ∷ u) h =
        All-cons (Contains symbols) s u (writes.symbol s (All-head (HasSymbolIn symbols) (Inner (K s)) (in_mark K u) h)) (written_over u (All-tail (HasSymbolIn symbols) (Inner (K s)) (in_mark K u) h))

  -- what is read of the word of the firsts
  record ReadsFirst (f : Mark → Option Sym) : Type 0 where
    pub same : (m : Bound Mark) → side_of f (first_mark first m) ≡ option_map (first_bound first) (side_of f m)
    pub within : (symbols : List Sym) (m : Bound Mark) (b : Bound Sym) → HasSymbolIn symbols m → side_of f m ≡ Some b → IsBoundIn symbols b

  upper_same : (m : Bound Mark) → side_of upper_of (first_mark first m) ≡ option_map (first_bound first) (side_of upper_of m)
  upper_same Edge = refl
  upper_same (Inner (Copy s)) = refl
  upper_same (Inner (Up s)) = refl
  upper_same (Inner (Low s)) = refl
  upper_same (Inner (Same s)) = refl
  upper_same (Inner (Open k)) = refl
  upper_same (Inner (Close k)) = refl

  lower_same : (m : Bound Mark) → side_of lower_of (first_mark first m) ≡ option_map (first_bound first) (side_of lower_of m)
  lower_same Edge = refl
  lower_same (Inner (Copy s)) = refl
  lower_same (Inner (Up s)) = refl
  lower_same (Inner (Low s)) = refl
  lower_same (Inner (Same s)) = refl
  lower_same (Inner (Open k)) = refl
  lower_same (Inner (Close k)) = refl

  bound_within : (symbols : List Sym) (a b : Bound Sym) → IsBoundIn symbols a → Some a ≡ Some b → IsBoundIn symbols b
  bound_within symbols a b h e = let same : a ≡ b = cc in subst (IsBoundIn symbols) same h

  upper_within : (symbols : List Sym) (m : Bound Mark) (b : Bound Sym) → HasSymbolIn symbols m → side_of upper_of m ≡ Some b → IsBoundIn symbols b
  upper_within symbols Edge b h e = bound_within symbols Edge b tt e
  upper_within symbols (Inner (Copy s)) b h e = bound_within symbols (Inner s) b h e
  upper_within symbols (Inner (Up s)) b h e = bound_within symbols (Inner s) b h e
  upper_within symbols (Inner (Low s)) b h e = let c : None ≡ Some b = e in absurd (cc)
  upper_within symbols (Inner (Same s)) b h e = bound_within symbols (Inner s) b h e
  upper_within symbols (Inner (Open k)) b h e = let c : None ≡ Some b = e in absurd (cc)
  upper_within symbols (Inner (Close k)) b h e = let c : None ≡ Some b = e in absurd (cc)

  lower_within : (symbols : List Sym) (m : Bound Mark) (b : Bound Sym) → HasSymbolIn symbols m → side_of lower_of m ≡ Some b → IsBoundIn symbols b
  lower_within symbols Edge b h e = bound_within symbols Edge b tt e
  lower_within symbols (Inner (Copy s)) b h e = bound_within symbols (Inner s) b h e
  lower_within symbols (Inner (Up s)) b h e = let c : None ≡ Some b = e in absurd (cc)
  lower_within symbols (Inner (Low s)) b h e = bound_within symbols (Inner s) b h e
  lower_within symbols (Inner (Same s)) b h e = bound_within symbols (Inner s) b h e
  lower_within symbols (Inner (Open k)) b h e = let c : None ≡ Some b = e in absurd (cc)
  lower_within symbols (Inner (Close k)) b h e = let c : None ≡ Some b = e in absurd (cc)

  reads_upper : ReadsFirst upper_of
  reads_upper = record { same = upper_same; within = upper_within }

  reads_lower : ReadsFirst lower_of
  reads_lower = record { same = lower_same; within = lower_within }

  reads_left : (side : Side) → ReadsFirst (on_left side)
  reads_left UpUp = reads_upper
  reads_left LowUp = reads_lower
  reads_left UpLow = reads_upper
  reads_left LowLow = reads_lower

  reads_right : (side : Side) → ReadsFirst (on_right side)
  reads_right UpUp = reads_upper
  reads_right LowUp = reads_upper
  reads_right UpLow = reads_lower
  reads_right LowLow = reads_lower

  module _ {f : Mark → Option Sym} (reads : ReadsFirst f) where
    reading_firsts : (w : List (Bound Mark)) → reading f (Mapped w) ≡ map (first_bound first) (reading f w)
    reading_firsts [] = refl
    reading_firsts (m ∷ w) = ap (λ o. cons_option o (reading f (Mapped w))) (reads.same m) ∙ go (side_of f m) (reading_firsts w)
      where
        go : (o : Option (Bound Sym)) → reading f (Mapped w) ≡ map (first_bound first) (reading f w) → cons_option (option_map (first_bound first) o) (reading f (Mapped w)) ≡ map (first_bound first) (cons_option o (reading f w))
        go None e = e
        go (Some b) e = ap (λ z. first_bound first b ∷ z) e

    reading_within : (symbols : List Sym) (w : List (Bound Mark)) → All (HasSymbolIn symbols) w → All (IsBoundIn symbols) (reading f w)
    reading_within symbols [] h = All-nil (IsBoundIn symbols)
    reading_within symbols (m ∷ w) h = go (side_of f m) (λ b e. reads.within symbols m b (All-head (HasSymbolIn symbols) m w h) e) (reading_within symbols w (All-tail (HasSymbolIn symbols) m w h))
      where
        go : (o : Option (Bound Sym)) → ((b : Bound Sym) → o ≡ Some b → IsBoundIn symbols b) → All (IsBoundIn symbols) (reading f w) → All (IsBoundIn symbols) (cons_option o (reading f w))
        go None is rest = rest
        go (Some b) is rest = All-cons (IsBoundIn symbols) b (reading f w) (is b refl) rest

  module _ {P : Type 0} (of : Rules P) (symbols : List Sym) where
    abbrev In : List (Bound Mark) → Type 0
    In w = All (HasSymbolIn symbols) w

    left_same : (p : P) → ActsByFirsts of symbols first p → (x : List (Bound Mark)) → In x → LeftHolds of p x ↔ LeftHolds of p (Mapped x)
    left_same p acts x h =
        let r = acts.left (reading (on_left (of.side p)) x) (reading_within (reads_left (of.side p)) symbols x h) in
        let e = reading_firsts (reads_left (of.side p)) x in
        (λ held. subst (of.left p) (sym e) (r.0 held), λ held. r.1 (subst (of.left p) e held))

    right_same : (p : P) → ActsByFirsts of symbols first p → (x : List (Bound Mark)) → In x → RightHolds of p x ↔ RightHolds of p (Mapped x)
    right_same p acts x h =
        let r = acts.right (reading (on_right (of.side p)) x) (reading_within (reads_right (of.side p)) symbols x h) in
        let e = reading_firsts (reads_right (of.side p)) x in
        (λ held. subst (of.right p) (sym e) (r.0 held), λ held. r.1 (subst (of.right p) e held))

    -- parts of a word whose symbols are among these
    in_front : (w x y : List (Bound Mark)) → In w → w ≡ x ++ y → In x
    in_front w x y h is = all_front (HasSymbolIn symbols) x y (subst In is h)

    in_back : (w x y : List (Bound Mark)) → In w → w ≡ x ++ y → In y
    in_back w x y h is = all_back (HasSymbolIn symbols) x y (subst In is h)

    -- what is asked of a place
    kept_there : (p : P) → ActsByFirsts of symbols first p → (optional : Bool) (k : ℕ) (w : List (Bound Mark)) → In w → IsKept of optional k p w → IsKept of optional k p (Mapped w)
    kept_there p acts optional k w h kept = record {
      left = λ x y is.
          let (u, v, e, ux, vy) = map_split (first_mark first) w x (Inner (Open k) ∷ y) is in
          let (a, t, te, ax, ty) = map_cons (first_mark first) v (Inner (Open k)) y vy in
          let whole : w ≡ u ++ Inner (Open k) ∷ t = e ∙ ap (λ z. u ++ z) te ∙ ap (λ m. u ++ m ∷ t) (open_back a k ax) in
          subst (LeftHolds of p) ux ((left_same p acts u (in_front w u v h e)).0 (kept.left u t whole));
      right = λ x y is.
          let (u, v, e, ux, vy) = map_split (first_mark first) w x (Inner (Close k) ∷ y) is in
          let (a, t, te, ax, ty) = map_cons (first_mark first) v (Inner (Close k)) y vy in
          let whole : w ≡ u ++ Inner (Close k) ∷ t = e ∙ ap (λ z. u ++ z) te ∙ ap (λ m. u ++ m ∷ t) (close_back a k ax) in
          let inside = All-tail (HasSymbolIn symbols) (Inner (Close k)) t (in_back w u (Inner (Close k) ∷ t) h whole) in
          subst (RightHolds of p) ty ((right_same p acts t inside).0 (kept.right u t whole));
      centre = λ must x c z is centre l r.
          let (u, v, e, ux, vy) = map_split (first_mark first) w x (copies c ++ z) is in
          let (b, t, te, bc, tz) = map_split (first_mark first) v (copies c) z vy in
          let (d, de, dc) = written_back symbols Copy (writes_copy symbols) b c bc in
          let whole : w ≡ u ++ (copies d ++ t) = e ∙ ap (λ z. u ++ z) te ∙ ap (λ m. u ++ (m ++ t)) de in
          let rest = in_back w u (copies d ++ t) h whole in
          let over = written_over symbols Copy (writes_copy symbols) d (all_front (HasSymbolIn symbols) (copies d) t rest) in
          kept.centre must u d t whole ((acts.centre d over).1 (subst (of.centre p) (sym dc) centre)) ((left_same p acts u (in_front w u v h e)).1 (subst (LeftHolds of p) (sym ux) l))
          ((right_same p acts t (all_back (HasSymbolIn symbols) (copies d) t rest)).1 (subst (RightHolds of p) (sym tz) r));
    }

    kept_back : (p : P) → ActsByFirsts of symbols first p → (optional : Bool) (k : ℕ) (w : List (Bound Mark)) → In w → IsKept of optional k p (Mapped w) → IsKept of optional k p w
    kept_back p acts optional k w h kept = record {
      left = λ x y is.
          let whole : Mapped w ≡ Mapped x ++ Inner (Open k) ∷ Mapped y = ap (λ z. Mapped z) is ∙ map-append (first_mark first) x (Inner (Open k) ∷ y) in
          (left_same p acts x (in_front w x (Inner (Open k) ∷ y) h is)).1 (kept.left (Mapped x) (Mapped y) whole);
      right = λ x y is.
          let whole : Mapped w ≡ Mapped x ++ Inner (Close k) ∷ Mapped y = ap (λ z. Mapped z) is ∙ map-append (first_mark first) x (Inner (Close k) ∷ y) in
          let inside = All-tail (HasSymbolIn symbols) (Inner (Close k)) y (in_back w x (Inner (Close k) ∷ y) h is) in
          (right_same p acts y inside).1 (kept.right (Mapped x) (Mapped y) whole);
      centre = λ must x c z is centre l r.
          let whole : Mapped w ≡ Mapped x ++ (copies (map first c) ++ Mapped z) =
          ap (λ z. Mapped z) is ∙ map-append (first_mark first) x (copies c ++ z) ∙ ap (λ v. Mapped x ++ v) (map-append (first_mark first) (copies c) z ∙ ap (λ v. v ++ Mapped z) (written_there symbols Copy (writes_copy symbols) c)) in
          let rest = in_back w x (copies c ++ z) h is in
          let over = written_over symbols Copy (writes_copy symbols) c (all_front (HasSymbolIn symbols) (copies c) z rest) in
          kept.centre must (Mapped x) (map first c) (Mapped z) whole ((acts.centre c over).0 centre) ((left_same p acts x (in_front w x (copies c ++ z) h is)).0 l)
          ((right_same p acts z (all_back (HasSymbolIn symbols) (copies c) z rest)).0 r);
    }

    -- what stands between brackets
    bracket_there : (k : ℕ) (b : List (Bound Mark)) → Mapped (bracket k b) ≡ bracket k (Mapped b)
    bracket_there k b = ap (λ z. Inner (Open k) ∷ z) (map-append (first_mark first) b (Inner (Close k) ∷ []))

    bracket_back : (k : ℕ) (w b : List (Bound Mark)) → Mapped w ≡ bracket k b → (a : List (Bound Mark)) × (w ≡ bracket k a) × (Mapped a ≡ b)
    bracket_back k w b is =
        let (m, v, e, mo, vr) = map_cons (first_mark first) w (Inner (Open k)) (b ++ Inner (Close k) ∷ []) is in
        let (a, t, ve, ab, tc) = map_split (first_mark first) v b (Inner (Close k) ∷ []) vr in
        let (n, s, te, nc, sn) = map_cons (first_mark first) t (Inner (Close k)) [] tc in
        let last : t ≡ Inner (Close k) ∷ [] = te ∙ ap (λ z. z ∷ s) (close_back n k nc) ∙ ap (λ z. Inner (Close k) ∷ z) (map_nil (first_mark first) s sn) in
        (a, e ∙ ap (λ z. z ∷ v) (open_back m k mo) ∙ ap (λ z. Inner (Open k) ∷ z) (ve ∙ ap (λ z. a ++ z) last), ab)

    in_bracket : (k : ℕ) (b : List (Bound Mark)) → In (bracket k b) → In b
    in_bracket k b h = all_front (HasSymbolIn symbols) b (Inner (Close k) ∷ []) (All-tail (HasSymbolIn symbols) (Inner (Open k)) (b ++ Inner (Close k) ∷ []) h)

    abbrev Ups : List Sym → List (Bound Mark) → Type 0
    Ups u w = w ≡ ups u

    plain_there : (c r : List Sym) → Mapped (ups c ++ lows r) ≡ ups (map first c) ++ lows (map first r)
    plain_there c r =
        map-append (first_mark first) (ups c) (lows r) ∙ ap (λ z. z ++ Mapped (lows r)) (written_there symbols Up (writes_up symbols) c) ∙ ap (λ z. ups (map first c) ++ z) (written_there symbols Low (writes_low symbols) r)

    markup_there : (b c a : List Sym) → Mapped (lows b ++ sames c ++ lows a) ≡ lows (map first b) ++ sames (map first c) ++ lows (map first a)
    markup_there b c a =
        map-append (first_mark first) (lows b ++ sames c) (lows a)
        ∙ ap (λ z. z ++ Mapped (lows a)) (map-append (first_mark first) (lows b) (sames c) ∙ ap (λ z. z ++ Mapped (sames c)) (written_there symbols Low (writes_low symbols) b) ∙ ap (λ z. lows (map first b) ++ z) (written_there symbols Same (writes_same symbols) c))
        ∙ ap (λ z. (lows (map first b) ++ sames (map first c)) ++ z) (written_there symbols Low (writes_low symbols) a)

    replacement_there : (p : P) → ActsByFirsts of symbols first p → (k : ℕ) (v : List (Bound Mark)) → In v → IsReplacement of k p v → IsReplacement of k p (Mapped v)
    replacement_there p acts k v h (inl (c, r, is, does)) =
        let body = in_bracket k (ups c ++ lows r) (subst In is h) in
        let oc = written_over symbols Up (writes_up symbols) c (all_front (HasSymbolIn symbols) (ups c) (lows r) body) in
        let or = written_over symbols Low (writes_low symbols) r (all_back (HasSymbolIn symbols) (ups c) (lows r) body) in
        inl (map first c, map first r, ap (λ z. Mapped z) is ∙ bracket_there k (ups c ++ lows r) ∙ ap (bracket k) (plain_there c r), (acts.replaces c r oc or).0 does)
    replacement_there p acts k v h (inr (b, c, a, is, does)) =
        let body = in_bracket k (lows b ++ sames c ++ lows a) (subst In is h) in
        let start = all_front (HasSymbolIn symbols) (lows b ++ sames c) (lows a) body in
        let ob = written_over symbols Low (writes_low symbols) b (all_front (HasSymbolIn symbols) (lows b) (sames c) start) in
        let oc = written_over symbols Same (writes_same symbols) c (all_back (HasSymbolIn symbols) (lows b) (sames c) start) in
        let oa = written_over symbols Low (writes_low symbols) a (all_back (HasSymbolIn symbols) (lows b ++ sames c) (lows a) body) in
        inr (map first b, map first c, map first a, ap (λ z. Mapped z) is ∙ bracket_there k (lows b ++ sames c ++ lows a) ∙ ap (bracket k) (markup_there b c a), (acts.surrounds b c a ob oc oa).0 does)

    replacement_back : (p : P) → ActsByFirsts of symbols first p → (k : ℕ) (v : List (Bound Mark)) → In v → IsReplacement of k p (Mapped v) → IsReplacement of k p v
    replacement_back p acts k v h (inl (c, r, is, does)) =
        let (m, e, me) = bracket_back k v (ups c ++ lows r) is in
        let (x, y, xy, xc, yr) = map_split (first_mark first) m (ups c) (lows r) me in
        let (c', ec, cc') = written_back symbols Up (writes_up symbols) x c xc in
        let (r', er, rr') = written_back symbols Low (writes_low symbols) y r yr in
        let whole : m ≡ ups c' ++ lows r' = xy ∙ ap (λ z. z ++ y) ec ∙ ap (λ z. ups c' ++ z) er in
        let body = subst In whole (in_bracket k m (subst In e h)) in
        let oc = written_over symbols Up (writes_up symbols) c' (all_front (HasSymbolIn symbols) (ups c') (lows r') body) in
        let or = written_over symbols Low (writes_low symbols) r' (all_back (HasSymbolIn symbols) (ups c') (lows r') body) in
        inl (c', r', e ∙ ap (bracket k) whole, (acts.replaces c' r' oc or).1 (subst₂ (of.replaces p) (sym cc') (sym rr') does))
    replacement_back p acts k v h (inr (b, c, a, is, does)) =
        let (m, e, me) = bracket_back k v (lows b ++ sames c ++ lows a) is in
        let (xs, y, xy, xc, ya) = map_split (first_mark first) m (lows b ++ sames c) (lows a) me in
        let (w, x, wx, wb, xc') = map_split (first_mark first) xs (lows b) (sames c) xc in
        let (b', eb, bb') = written_back symbols Low (writes_low symbols) w b wb in
        let (c', ec, cc') = written_back symbols Same (writes_same symbols) x c xc' in
        let (a', ea, aa') = written_back symbols Low (writes_low symbols) y a ya in
        let whole : m ≡ lows b' ++ sames c' ++ lows a' = xy ∙ ap (λ z. z ++ y) (wx ∙ ap (λ z. z ++ x) eb ∙ ap (λ z. lows b' ++ z) ec) ∙ ap (λ z. (lows b' ++ sames c') ++ z) ea in
        let body = subst In whole (in_bracket k m (subst In e h)) in
        let start = all_front (HasSymbolIn symbols) (lows b' ++ sames c') (lows a') body in
        let ob = written_over symbols Low (writes_low symbols) b' (all_front (HasSymbolIn symbols) (lows b') (sames c') start) in
        let oc = written_over symbols Same (writes_same symbols) c' (all_back (HasSymbolIn symbols) (lows b') (sames c') start) in
        let oa = written_over symbols Low (writes_low symbols) a' (all_back (HasSymbolIn symbols) (lows b' ++ sames c') (lows a') body) in
        let made : of.surrounds p (map first b') (map first c') (map first a') = rw (bb', cc', aa') does in
        inr (b', c', a', e ∙ ap (bracket k) whole, (acts.surrounds b' c' a' ob oc oa).1 made)

    module _ (firsts : List Sym) (places : List P) (act : (p : P) → Contains places p → ActsByFirsts of symbols first p) (are : (s : Sym) → Contains symbols s → Contains firsts (first s)) where
      block_there : (v : List (Bound Mark)) → In v → IsBlock of symbols places v → IsBlock of firsts places (Mapped v)
      block_there v h (inl (s, is, among)) = inl (first s, ap (λ z. Mapped z) is, are s among)
      block_there v h (inr (k, (p, at, does))) = inr (k, (p, at, replacement_there p (act p (Contains-from_slice_get places k p at)) k v h does))

      block_back : (v : List (Bound Mark)) → In v → IsBlock of firsts places (Mapped v) → IsBlock of symbols places v
      block_back v h (inl (t, is, among)) =
          let (m, w, e, mc, wn) = map_cons (first_mark first) v (Inner (Copy t)) [] is in
          let s = copy_back m t mc in
          let whole : v ≡ Inner (Copy s.0) ∷ [] = e ∙ ap (λ z. z ∷ w) s.1 ∙ ap (λ z. Inner (Copy s.0) ∷ z) (map_nil (first_mark first) w wn) in
          inl (s.0, whole, All-head (HasSymbolIn symbols) (Inner (Copy s.0)) [] (subst In whole h))
      block_back v h (inr (k, (p, at, does))) = inr (k, (p, at, replacement_back p (act p (Contains-from_slice_get places k p at)) k v h does))

      abbrev Joined : List (List (Bound Mark)) → List (Bound Mark)
      Joined vs = flat_map (λ v. v) vs

      blocks_there : (vs : List (List (Bound Mark))) → In (Joined vs) → All (IsBlock of symbols places) vs → (us : List (List (Bound Mark))) × (Mapped (Joined vs) ≡ Joined us) × All (IsBlock of firsts places) us
      blocks_there [] h all = ([], refl, All-nil (IsBlock of firsts places))
      blocks_there (v ∷ vs) h all =
          let r = blocks_there vs (all_back (HasSymbolIn symbols) v (Joined vs) h) (All-tail (IsBlock of symbols places) v vs all) in
          let block = block_there v (all_front (HasSymbolIn symbols) v (Joined vs) h) (All-head (IsBlock of symbols places) v vs all) in
          (Mapped v ∷ r.0, map-append (first_mark first) v (Joined vs) ∙ ap (λ z. Mapped v ++ z) r.1, All-cons (IsBlock of firsts places) (Mapped v) r.0 block r.2)

      blocks_back : (us : List (List (Bound Mark))) (w : List (Bound Mark)) → In w → Mapped w ≡ Joined us → All (IsBlock of firsts places) us → (vs : List (List (Bound Mark))) × (w ≡ Joined vs) × All (IsBlock of symbols places) vs
      blocks_back [] w h is all = ([], map_nil (first_mark first) w is, All-nil (IsBlock of symbols places))
      blocks_back (u ∷ us) w h is all =
          let (v, t, e, vu, tr) = map_split (first_mark first) w u (Joined us) is in
          let r = blocks_back us t (in_back w v t h e) tr (All-tail (IsBlock of firsts places) u us all) in
          let block = block_back v (in_front w v t h e) (subst (IsBlock of firsts places) (sym vu) (All-head (IsBlock of firsts places) u us all)) in
          (v ∷ r.0, e ∙ ap (λ z. v ++ z) r.1, All-cons (IsBlock of symbols places) v r.0 block r.2)

      well_there : (w : List (Bound Mark)) → In w → IsWellMarked of symbols places w → IsWellMarked of firsts places (Mapped w)
      well_there w h (vs, is, all) =
          let inside = All-tail (HasSymbolIn symbols) Edge (Joined vs ++ Edge ∷ []) (subst In is h) in
          let r = blocks_there vs (all_front (HasSymbolIn symbols) (Joined vs) (Edge ∷ []) inside) all in
          (r.0, ap (λ z. Mapped z) is ∙ ap (λ z. Edge ∷ z) (map-append (first_mark first) (Joined vs) (Edge ∷ []) ∙ ap (λ z. z ++ Edge ∷ []) r.1), r.2)

      well_back : (w : List (Bound Mark)) → In w → IsWellMarked of firsts places (Mapped w) → IsWellMarked of symbols places w
      well_back w h (us, is, all) =
          let (m, v, e, me, vr) = map_cons (first_mark first) w Edge (Joined us ++ Edge ∷ []) is in
          let (a, t, ve, au, tc) = map_split (first_mark first) v (Joined us) (Edge ∷ []) vr in
          let (n, s, te, ne, sn) = map_cons (first_mark first) t Edge [] tc in
          let last : t ≡ Edge ∷ [] = te ∙ ap (λ z. z ∷ s) (edge_back n ne) ∙ ap (λ z. Edge ∷ z) (map_nil (first_mark first) s sn) in
          let whole : w ≡ Edge ∷ (a ++ Edge ∷ []) = e ∙ ap (λ z. z ∷ v) (edge_back m me) ∙ ap (λ z. Edge ∷ z) (ve ∙ ap (λ z. a ++ z) last) in
          let inside = all_front (HasSymbolIn symbols) a (Edge ∷ []) (All-tail (HasSymbolIn symbols) Edge (a ++ Edge ∷ []) (subst In whole h)) in
          let r = blocks_back us a inside au all in
          (r.0, whole ∙ ap (λ z. Edge ∷ (z ++ Edge ∷ [])) r.1, r.2)

pub marked_by_firsts : MarkedWordsGoByFirsts
marked_by_firsts P of places symbols firsts first optional z act are h = (
  λ m. (well_there first of symbols firsts places act are z h m.0, λ k p at. kept_there first of symbols p (act p (Contains-from_slice_get places k p at)) optional k z h (m.1 k p at)),
  λ m. (well_back first of symbols firsts places act are z h m.0, λ k p at. kept_back first of symbols p (act p (Contains-from_slice_get places k p at)) optional k z h (m.1 k p at)),
)
