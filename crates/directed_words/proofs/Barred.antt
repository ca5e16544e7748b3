-- The words of marks in which no match bars a piece are those of claims that no match bars.
use Rattle.std.proofs.Common.{◌≡◌, ℕ, ◌<◌, List, [], ◌∷◌, ◌++◌, Some, length, refl, sym, ap, subst, ◌∙◌, append_assoc}
use Rattle.std.specs.Prelude.{Contains}
use Rattle.std.specs.List.{flat_map, cons_option}
use Rattle.std.proofs.lemmas.Grind.{flat_map-append}
use Rattle.std.proofs.lemmas.List.{map-append}
use Rattle.std.proofs.lemmas.List.Elements.{filter_map-append}
use Rattle.fsm_base.specs.declared.letters.Sym.{Sym}
use Rattle.fsm_base.specs.declared.letters.Bound.{Bound}
use Rattle.fsm_base.specs.declared.letters.Bound.TheVariants.{Edge, Inner}
use Rattle.expr_meaning.specs.Operators.{inner}
use Rattle.replace_words.specs.declared.marks.Mark.{Mark}
use Rattle.replace_words.specs.declared.marks.Mark.TheVariants.{Copy, Open, Close}
use Rattle.replace_words.specs.Claims.{Claim, copied, replaced, marked, IsBy, upper}
use Rattle.replace_words.specs.Places.{Rules}
use Rattle.replace_words.specs.Marked.{encode, written}
use Rattle.directed_words.specs.declared.ways.Length.{Length}
use Rattle.directed_words.specs.declared.ways.Length.TheVariants.{Longest, Shortest}
use Rattle.directed_words.specs.Laws.{MatchesAt}
use Rattle.directed_words.specs.Marked.{LeftReads, CentreReads, RightReads, BarsCopies, BarsOthers}
use Rattle.directed_words.proofs.Splits.{append_meet}
use Rattle.directed_words.proofs.Encode.{open_here, close_here, copy_here}
use Rattle.directed_words.proofs.Reading.{reads_upper, reading_before, reading_behind}
use Rattle.directed_words.proofs.Matches.{Read, symbol, U, tail_of, Start, copied_mark, opening_mark, closing_mark, upper_mark, mark_upper, inside_upper, upper_inside, no_close, split_read, cut_read, inner_split, rest_read, start_at, block_is, past_close, before_close, longer_read, shorter_read, BarsClaim}

-- the marks of claims, from a claim on
written_at : (cs before : List Claim) (p : Claim) (behind : List Claim) → cs ≡ before ++ p ∷ behind → written cs ≡ (Edge ∷ flat_map encode before) ++ (encode p ++ tail_of behind)
written_at cs before p behind whole = rw whole (simp (flat_map-append, append_assoc))

bars_copied : (size : Length) (c : List Sym) (p : Claim) (s : Sym) → p ≡ copied s → BarsClaim size c p
bars_copied size c p s is = subst (BarsClaim size c) (sym is) tt

bars_longer : (c : List Sym) (p : Claim) → length (upper p) < length c → BarsClaim Longest c p
bars_longer c (copied s) h = tt
bars_longer c (replaced k centre r) h = h
bars_longer c (marked k b centre a) h = h

bars_shorter : (c : List Sym) (p : Claim) → length c < length (upper p) → BarsClaim Shortest c p
bars_shorter c (copied s) h = tt
bars_shorter c (replaced k centre r) h = h
bars_shorter c (marked k b centre a) h = h

not_copied : (p : Claim) (k : ℕ) (s : Sym) → IsBy k p → p ≡ copied s → ⊥
not_copied p k s by is = subst (IsBy k) is by

-- a list with an element isn't empty
nothing : (e : List (Bound Mark)) (m : Bound Mark) (v : List (Bound Mark)) → e ++ m ∷ v ≡ [] → ⊥
nothing [] m v is = cc
nothing (g ∷ e) m v is = cc

module _ {P : Type 0} (of : Rules P) (places : List P) where
  -- no match that begins where a claim does bars it
  abbrev pub NoneBars : Length → List Claim → Type 0
  NoneBars size cs =
      (before : List Claim) (p : Claim) (behind : List Claim) (c z : List Sym) → cs ≡ before ++ p ∷ behind → upper p ++ U behind ≡ c ++ z → MatchesAt of places (U before) c z → BarsClaim size c p → ⊥

  -- a match in the marks is one of the upper word
  record There (before : List Claim) (p : Claim) (behind : List Claim) (m : List (Bound Mark)) : Type 0 where
    pub centre : List Sym
    pub rest : List Sym
    pub whole : upper p ++ U behind ≡ centre ++ rest
    pub read : Read m ≡ inner centre
    pub matches : MatchesAt of places (U before) centre rest

  there : (cs : List Claim) (x m z rest : List (Bound Mark)) (q : P) → Contains places q → (s : Start cs x rest) → rest ≡ m ++ z → LeftReads of q x → CentreReads of q m → RightReads of q z → There s.before s.piece s.behind m
  there cs x m z rest q among s e left (c, read, centre) right =
      let is : inner c ++ Read z ≡ inner (upper s.piece ++ U s.behind) ++ Edge ∷ [] = ap (λ v. v ++ Read z) (sym read) ∙ sym (filter_map-append symbol m z) ∙ ap Read (sym e ∙ s.rest_is) ∙ rest_read s.piece s.behind in
      let r = inner_split c (upper s.piece ++ U s.behind) (Read z) is in
      record {
        centre = c;
        rest = r.0;
        whole = r.1;
        read = read;
        matches = (q, among, centre, subst (of.left q) (ap Read s.at ∙ reading_before reads_upper s.before) left, subst (of.right q) r.2 right);
      }

  -- so the marks keep what is asked
  copies_barred : (size : Length) (cs : List Claim) → NoneBars size cs → (q : P) → Contains places q → BarsCopies of q (written cs)
  copies_barred size cs none q among x m z e left (centre, (o, y, whole, kind)) right =
      let s = copied_mark o kind in
      let m_is : m ≡ Inner (Copy s.0) ∷ y = whole ∙ ap (λ g. g ∷ y) s.1 in
      let at = start_at cs (Copy s.0) x (y ++ z) (λ p l r h. (copy_here p s.0 l r h).1) (e ∙ ap (λ v. x ++ (v ++ z)) m_is) in
      let t = there cs x m z (Inner (Copy s.0) ∷ (y ++ z)) q among at.0 (ap (λ v. v ++ z) (sym m_is)) left centre right in
      none at.0.before at.0.piece at.0.behind t.centre t.rest at.0.whole t.whole t.matches (bars_copied size t.centre at.0.piece s.0 (copy_here at.0.piece s.0 [] at.1 at.2).0)

  longer_barred : (cs : List Claim) → NoneBars Longest cs → (q : P) → Contains places q → BarsOthers of Longest q (written cs)
  longer_barred cs none q among x m z e left (centre, (o, y, k, v, t, r, whole, is_o, is_k, is_t)) right =
      let j = opening_mark o is_o in
      let i = closing_mark k is_k in
      let s = upper_mark t is_t in
      let m_is : m ≡ Inner (Open j.0) ∷ (y ++ Inner (Close i.0) ∷ (v ++ t ∷ r)) = whole ∙ ap (λ g. g ∷ (y ++ k ∷ (v ++ t ∷ r))) j.1 ∙ ap (λ g. Inner (Open j.0) ∷ (y ++ g ∷ (v ++ t ∷ r))) i.1 in
      let y' = y ++ Inner (Close i.0) ∷ (v ++ t ∷ r) in
      let at = start_at cs (Open j.0) x (y' ++ z) (λ p l r h. (open_here p j.0 l r h).1) (e ∙ ap (λ v. x ++ (v ++ z)) m_is) in
      let w = there cs x m z (Inner (Open j.0) ∷ (y' ++ z)) q among at.0 (ap (λ v. v ++ z) (sym m_is)) left centre right in
      let n = past_close at.0.piece (tail_of at.0.behind) (Inner (Open j.0) ∷ y) (v ++ t ∷ r) z i.0 at.0.rest_is in
      let read : Read (encode at.0.piece ++ ((n.0 ++ v) ++ t ∷ r)) ≡ inner w.centre = ap (λ u. Read (encode at.0.piece ++ u)) (append_assoc n.0 v (t ∷ r)) ∙ ap Read (sym (m_is ∙ n.1)) ∙ w.read in
      none at.0.before at.0.piece at.0.behind w.centre w.rest at.0.whole w.whole w.matches (bars_longer w.centre at.0.piece (longer_read at.0.piece (n.0 ++ v) r t s.0 w.centre read s.1))

  shorter_barred : (cs : List Claim) → NoneBars Shortest cs → (q : P) → Contains places q → BarsOthers of Shortest q (written cs)
  shorter_barred cs none q among x m z e left (centre, (o, y, whole, is_o, all)) (right, (n, z', z_is, is_n)) =
      let j = opening_mark o is_o in
      let s = inside_upper n is_n in
      let m_is : m ≡ Inner (Open j.0) ∷ y = whole ∙ ap (λ g. g ∷ y) j.1 in
      let at = start_at cs (Open j.0) x (y ++ z) (λ p l r h. (open_here p j.0 l r h).1) (e ∙ ap (λ v. x ++ (v ++ z)) m_is) in
      let w = there cs x m z (Inner (Open j.0) ∷ (y ++ z)) q among at.0 (ap (λ v. v ++ z) (sym m_is)) left centre right in
      let by = (open_here at.0.piece j.0 [] at.1 at.2).0 in
      let b = before_close at.0.piece j.0 (tail_of at.0.behind) y n z' by (ap (λ v. Inner (Open j.0) ∷ (y ++ v)) (sym z_is) ∙ at.0.rest_is) all in
      none at.0.before at.0.piece at.0.behind w.centre w.rest at.0.whole w.whole w.matches (bars_shorter w.centre at.0.piece (shorter_read at.0.piece (Inner (Open j.0) ∷ y) b.0 n s.0 w.centre b.1 (ap Read (sym m_is) ∙ w.read) s.1))

  pub barred_up : (size : Length) (cs : List Claim) → NoneBars size cs → (q : P) → Contains places q → BarsCopies of q (written cs) × BarsOthers of size q (written cs)
  barred_up Longest cs none q among = (copies_barred Longest cs none q among, longer_barred cs none q among)
  barred_up Shortest cs none q among = (copies_barred Shortest cs none q among, shorter_barred cs none q among)

  -- and what the marks keep, the claims do
  module _ (no_empty : (p : P) → Contains places p → of.centre p [] → ⊥) (cs before : List Claim) (behind : List Claim) (c z : List Sym) (q : P) (among : Contains places q) (centre : of.centre q c)
      (left : of.left q (Edge ∷ inner (U before))) (right : of.right q (inner z ++ Edge ∷ [])) where
    abbrev X : List (Bound Mark)
    X = Edge ∷ flat_map encode before

    left_read : LeftReads of q X
    left_read = subst (of.left q) (sym (reading_before reads_upper before)) left

    tail_read : (a : List Sym) → U behind ≡ a ++ z → Read (tail_of behind) ≡ inner a ++ (inner z ++ Edge ∷ [])
    tail_read a is = reading_behind reads_upper behind ∙ ap (λ u. inner u ++ Edge ∷ []) is ∙ ap (λ v. v ++ Edge ∷ []) (map-append Inner a z) ∙ append_assoc (inner a) (inner z) (Edge ∷ [])

    none_copied : BarsCopies of q (written cs) → (s : Sym) → cs ≡ before ++ copied s ∷ behind → s ∷ U behind ≡ c ++ z → ⊥
    none_copied bars s whole is = go c is centre
      where
        go : (d : List Sym) → s ∷ U behind ≡ d ++ z → of.centre q d → ⊥
        go [] is has = no_empty q among has
        go (t ∷ d) is has =
            let e : s ∷ U behind ≡ t ∷ (d ++ z) = is in
            let head : s ≡ t = cc in
            let tail : U behind ≡ d ++ z = cc in
            let r = cut_read (tail_of behind) (inner d) z (tail_read d tail) in
            bars X (Inner (Copy s) ∷ r.0) r.1 (written_at cs before (copied s) behind whole ∙ ap (λ v. X ++ Inner (Copy s) ∷ v) r.2) left_read
            ((t ∷ d, ap (λ x. Inner x ∷ Read r.0) head ∙ ap (λ v. Inner t ∷ v) r.3, has), (Inner (Copy s), r.0, refl, refl)) (subst (of.right q) (sym r.4) right)

    none_longer : BarsOthers of Longest q (written cs) → (p : Claim) (k : ℕ) → IsBy k p → cs ≡ before ++ p ∷ behind → upper p ++ U behind ≡ c ++ z → length (upper p) < length c → ⊥
    none_longer bars p k by whole is less =
        let (t, d, c_is, behind_is) = append_meet (upper p) (U behind) c z is less in
        let r = cut_read (tail_of behind) (inner (t ∷ d)) z (tail_read (t ∷ d) behind_is) in
        let n = split_read r.0 [] (Inner t) (inner d) r.3 in
        let b = block_is p k by in
        let m = encode p ++ r.0 in
        let shape : m ≡ Inner (Open k) ∷ (b.0 ++ Inner (Close k) ∷ (n.before ++ n.mark ∷ n.behind)) =
        ap (λ u. u ++ r.0) b.1 ∙ ap (λ u. Inner (Open k) ∷ u) (append_assoc b.0 (Inner (Close k) ∷ []) r.0) ∙ ap (λ u. Inner (Open k) ∷ (b.0 ++ Inner (Close k) ∷ u)) n.whole in
        let read : Read m ≡ inner c = filter_map-append symbol (encode p) r.0 ∙ ap (λ v. v ++ Read r.0) (reads_upper.piece p) ∙ ap (λ v. inner (upper p) ++ v) r.3 ∙ sym (map-append Inner (upper p) (t ∷ d)) ∙ ap inner (sym c_is) in
        bars X m r.1 (written_at cs before p behind whole ∙ ap (λ v. X ++ v) (ap (λ v. encode p ++ v) r.2 ∙ sym (append_assoc (encode p) r.0 r.1))) left_read
        ((c, read, centre), (Inner (Open k), b.0, Inner (Close k), n.before, n.mark, n.behind, shape, refl, refl, mark_upper n.mark t n.read_mark)) (subst (of.right q) (sym r.4) right)

    none_shorter : BarsOthers of Shortest q (written cs) → (p : Claim) (k : ℕ) → IsBy k p → cs ≡ before ++ p ∷ behind → upper p ++ U behind ≡ c ++ z → length c < length (upper p) → ⊥
    none_shorter bars p k by whole is less =
        let (t, d, p_is, z_is) = append_meet c z (upper p) (U behind) (sym is) less in
        let n = split_read (encode p) (inner c) (Inner t) (inner d) (reads_upper.piece p ∙ ap inner p_is ∙ map-append Inner c (t ∷ d)) in
        let b = block_is p k by in
        let inside = upper_inside n.mark t n.read_mark (λ s e. not_copied p k s by (copy_here p s n.before n.behind (n.whole ∙ ap (λ g. n.before ++ g ∷ n.behind) e)).0) in
        let rest = n.mark ∷ (n.behind ++ tail_of behind) in
        let front = opened n.before n.mark n.behind (b.0 ++ Inner (Close k) ∷ []) (sym b.1 ∙ n.whole) n.read_mark in
        let read_rest : Read rest ≡ inner z ++ Edge ∷ [] =
        ap (λ o. cons_option o (Read (n.behind ++ tail_of behind))) n.read_mark ∙ ap (λ v. Inner t ∷ v) (filter_map-append symbol n.behind (tail_of behind) ∙ ap (λ v. v ++ Read (tail_of behind)) n.read_behind ∙ ap (λ v. inner d ++ v) (reading_behind reads_upper behind) ∙ sym (append_assoc (inner d) (inner (U behind)) (Edge ∷ [])) ∙ ap (λ v. v ++ Edge ∷ []) (sym (map-append Inner d (U behind))))
        ∙ ap (λ v. inner v ++ Edge ∷ []) (sym z_is) in
        bars X n.before rest (written_at cs before p behind whole ∙ ap (λ v. X ++ v) (ap (λ v. v ++ tail_of behind) n.whole ∙ append_assoc n.before (n.mark ∷ n.behind) (tail_of behind))) left_read
        ((c, n.read_before, centre), (Inner (Open k), front.0, front.1, refl, no_close front.0 (λ a e j h. closed (Inner (Open k) ∷ a) e j n.before n.mark n.behind n.whole (front.1 ∙ ap (λ v. Inner (Open k) ∷ v) h))))
        (subst (of.right q) (sym read_rest) right, (n.mark, n.behind ++ tail_of behind, refl, inside))
      where
        -- the bracket stands before the symbol
        opened : (u : List (Bound Mark)) (m : Bound Mark) (v y : List (Bound Mark)) {s : Sym} → Inner (Open k) ∷ y ≡ u ++ m ∷ v → symbol m ≡ Some (Inner s) → (u' : List (Bound Mark)) × (u ≡ Inner (Open k) ∷ u')
        opened [] m v y {s} e read =
            let head : m ≡ Inner (Open k) = cc in
            let clash : symbol (Inner (Open k)) ≡ Some (Inner s) = subst (λ x. symbol x ≡ Some (Inner s)) head read in
            absurd (cc)
        opened (g ∷ u) m v y {s} e read = let head : g ≡ Inner (Open k) = cc in (u, ap (λ x. x ∷ u) head)

        -- none closes there
        closed : (a e : List (Bound Mark)) (j : ℕ) (u : List (Bound Mark)) (m : Bound Mark) (v : List (Bound Mark)) → encode p ≡ u ++ m ∷ v → u ≡ a ++ Inner (Close j) ∷ e → ⊥
        closed a e j u m v whole is =
            let there : encode p ≡ a ++ Inner (Close j) ∷ (e ++ m ∷ v) = whole ∙ ap (λ w. w ++ m ∷ v) is ∙ append_assoc a (Inner (Close j) ∷ e) (m ∷ v) in
            nothing e m v (close_here p j a (e ++ m ∷ v) there).1

  pub barred_down : ((p : P) → Contains places p → of.centre p [] → ⊥) → (size : Length) (cs : List Claim) → ((q : P) → Contains places q → BarsCopies of q (written cs) × BarsOthers of size q (written cs)) → NoneBars size cs
  barred_down no_empty size cs bars before (copied s) behind c z whole is (q, among, centre, left, right) asks =
      none_copied no_empty cs before behind c z q among centre left right (bars q among).0 s whole is
  barred_down no_empty Longest cs bars before (replaced k b r) behind c z whole is (q, among, centre, left, right) asks =
      none_longer no_empty cs before behind c z q among centre left right (bars q among).1 (replaced k b r) k refl whole is asks
  barred_down no_empty Shortest cs bars before (replaced k b r) behind c z whole is (q, among, centre, left, right) asks =
      none_shorter no_empty cs before behind c z q among centre left right (bars q among).1 (replaced k b r) k refl whole is asks
  barred_down no_empty Longest cs bars before (marked k f b a) behind c z whole is (q, among, centre, left, right) asks =
      none_longer no_empty cs before behind c z q among centre left right (bars q among).1 (marked k f b a) k refl whole is asks
  barred_down no_empty Shortest cs bars before (marked k f b a) behind c z whole is (q, among, centre, left, right) asks =
      none_shorter no_empty cs before behind c z q among centre left right (bars q among).1 (marked k f b a) k refl whole is asks
