-- The graph that is spelled byte by byte writes the texts of the graph that it was made of.
use Rattle.std.proofs.Common.{◌≡◌, ℕ, suc, ◌+◌, ◌<◌, ◌⊎◌, ◌↔◌, List, [], ◌∷◌, ◌++◌, None, Some, IsUtf8, length, refl, sym, subst, ap, inl, inr, arith, ◌∙◌, append_assoc, length-append, option_to_list}
use Rattle.std.specs.List.{Contains, slice_get}
use Rattle.std.proofs.lemmas.List.{append-nil, map-append}
use Rattle.std.proofs.lemmas.List.Elements.{Contains-push_cases, Contains-push, Contains-append_left}
use Rattle.std.proofs.lemmas.Option.{slice_get_within, same_Some}
use Rattle.std.proofs.lemmas.Str.{IsUtf8-append, IsUtf8-nil}
use Rattle.word_relations.proofs.Members.{Contains-nil_cases}
use Rattle.word_relations.proofs.Places.{slice_get-append_left, slice_get-push}
use Rattle.word_relations.specs.Words.{joined}
use Rattle.fsa.specs.declared.automaton.Edge.{Edge}
use Rattle.fsm_base.specs.Alphabet.{spelled, text_of}
use Rattle.fsm_base.specs.declared.letters.Sym.{Sym}
use Rattle.lookup.specs.Graph.{Connects, IsPath, IsWithin, letters_of, start, end}
use Rattle.lookup.proofs.GraphPaths.{connects-append, connects_among, connects_edge}
use Rattle.lookup.specs.GraphTexts.{AreOf, GraphTexts}
use Rattle.lookup.specs.Spelling.{IsOf, chain, text_on}
use Rattle.lookup.specs.Walks.{WritesText, word_of}
use Rattle.lookup.specs.declared.walk.Byte.{Byte}
use Rattle.lookup.proofs.Fronts.{prepend}
use Rattle.lookup.proofs.ListingSteps.{unword}

-- what is left to read at a new node, and the node that is reached then
abbrev pub Rest : Type 0
Rest = List ℕ × ℕ

unword-word : (text : List ℕ) → unword (word_of text) ≡ text
unword-word [] = refl
unword-word (x ∷ text) = ap (λ t. x ∷ t) (unword-word text)

same_text_of : (a b : List ℕ) → word_of a ≡ word_of b → a ≡ b
same_text_of a b e = sym (unword-word a) ∙ ap unword e ∙ unword-word b

module _ (alphabet : List (Sym × List ℕ)) where
  -- the text along a path
  abbrev pub text_along : List (Edge Sym) → List ℕ
  text_along [] = []
  text_along (e ∷ p) = text_on alphabet e.letter ++ text_along p

  pub text_along_is : (p : List (Edge Sym)) → text_along p ≡ joined (spelled alphabet (letters_of p))
  text_along_is [] = refl
  text_along_is (e ∷ p) =
      elim e.letter as (λ o. text_on alphabet o ++ text_along p ≡ joined (spelled alphabet (option_to_list o ++ letters_of p))) [
        | None ↦ text_along_is p
        | Some symbol ↦ ap (λ t. text_of alphabet symbol ++ t) (text_along_is p)
      ]

  module _ (count : ℕ) where
    -- an edge of bytes may begin what is left at a node: at an old one the text of an edge
    abbrev pub Begins : List (Edge Sym) → List Rest → ℕ → List ℕ → ℕ → Type 0
    Begins done rests v whole to =
        ((e : Edge Sym) × Contains done e × (e.from ≡ v) × (v < count) × (text_on alphabet e.letter ≡ whole) × (e.to ≡ to))
        ⊎ ((i : ℕ) × (v ≡ count + i) × (slice_get rests i ≡ Some (whole, to)))

    -- so much is left at a node: at an old one nothing
    abbrev pub Stands : List Rest → ℕ → List ℕ → ℕ → Type 0
    Stands rests v rest to = ((v < count) × (rest ≡ []) × (v ≡ to)) ⊎ ((i : ℕ) × (v ≡ count + i) × (slice_get rests i ≡ Some (rest, to)))

    pub record Lawful (done : List (Edge Sym)) (rests : List Rest) (b : Edge Byte) : Type 0 where
      pub whole : List ℕ
      pub rest : List ℕ
      pub to : ℕ
      pub begins : Begins done rests b.from whole to
      pub spells : word_of whole ≡ option_to_list b.letter ++ word_of rest
      pub stands : Stands rests b.to rest to

    pub record IsSpelled (done : List (Edge Sym)) (rests : List Rest) (bytes : List (Edge Byte)) : Type 0 where
      pub chains : (e : Edge Sym) → Contains done e → Connects bytes e.from (word_of (text_on alphabet e.letter)) e.to
      pub law : (b : Edge Byte) → Contains bytes b → Lawful done rests b

    pub spelled_first : IsSpelled [] [] []
    spelled_first = record { chains = λ e h. absurd (Contains-nil_cases e h); law = λ b h. absurd (Contains-nil_cases b h) }

    -- more edges, and more new nodes
    keeps_at : (rests more : List Rest) (i : ℕ) (r : Rest) → slice_get rests i ≡ Some r → slice_get (rests ++ more) i ≡ Some r
    keeps_at rests more i r h = slice_get-append_left rests more i (slice_get_within rests i r h) ∙ h

    begins_more : (done new : List (Edge Sym)) (rests more : List Rest) (v : ℕ) (whole : List ℕ) (to : ℕ) → Begins done rests v whole to → Begins (done ++ new) (rests ++ more) v whole to
    begins_more done new rests more v whole to (inl (e, held, from, old, text, at)) = inl (e, Contains-append_left done new e held, from, old, text, at)
    begins_more done new rests more v whole to (inr (i, is, at)) = inr (i, is, keeps_at rests more i (whole, to) at)

    stands_more : (rests more : List Rest) (v : ℕ) (rest : List ℕ) (to : ℕ) → Stands rests v rest to → Stands (rests ++ more) v rest to
    stands_more rests more v rest to (inl h) = inl h
    stands_more rests more v rest to (inr (i, is, at)) = inr (i, is, keeps_at rests more i (rest, to) at)

    lawful_more : (done new : List (Edge Sym)) (rests more : List Rest) (b : Edge Byte) → Lawful done rests b → Lawful (done ++ new) (rests ++ more) b
    lawful_more done new rests more b l = record {
      whole = l.whole;
      rest = l.rest;
      to = l.to;
      begins = begins_more done new rests more b.from l.whole l.to l.begins;
      spells = l.spells;
      stands = stands_more rests more b.to l.rest l.to l.stands;
    }

    -- a chain more
    pub record Chained (done : List (Edge Sym)) (rests : List Rest) (bytes : List (Edge Byte)) (node : ℕ) (text : List ℕ) (to : ℕ) : Type 0 where
      pub more : List Rest
      pub count_is : length more ≡ length text
      pub law : (b : Edge Byte) → Contains (bytes ++ chain node (count + length rests) text to) b → Lawful done (rests ++ more) b
      pub path : Connects (bytes ++ chain node (count + length rests) text to) node (word_of text) to

    chained : (text : List ℕ) (done : List (Edge Sym)) (rests : List Rest) (bytes : List (Edge Byte)) (node to : ℕ) → to < count
        → ((b : Edge Byte) → Contains bytes b → Lawful done rests b) → Begins done rests node text to → Chained done rests bytes node text to
    chained [] done rests bytes node to old law begins =
        let last : Edge Byte = record { from = node; letter = None; to = to } in
        record {
          more = [];
          count_is = refl;
          law = λ b h. subst (λ rs. Lawful done rs b) (sym (append-nil rests)) (elim (Contains-push_cases bytes last b h) [
            | inl before ↦ law b before
            | inr same ↦ subst (λ x. Lawful done rests x) same (record { whole = []; rest = []; to = to; begins = begins; spells = refl; stands = inl (old, refl, refl) })
          ]);
          path = connects_edge (bytes ++ last ∷ []) last (Contains-push bytes last);
        }
    chained (x ∷ text) done rests bytes node to old law begins =
        let fresh = count + length rests in
        let one : Rest = (text, to) in
        let rests' = rests ++ one ∷ [] in
        let first : Edge Byte = record { from = node; letter = Some (record { 0 = x }); to = fresh } in
        let bytes' = bytes ++ first ∷ [] in
        let law' : (b : Edge Byte) → Contains bytes' b → Lawful done rests' b = λ b h. elim (Contains-push_cases bytes first b h) [
          | inl before ↦ subst (λ d. Lawful d rests' b) (append-nil done) (lawful_more done [] rests (one ∷ []) b (law b before))
          | inr same ↦ subst (λ y. Lawful done rests' y) same (record {
            whole = x ∷ text;
            rest = text;
            to = to;
            begins = subst (λ d. Begins d rests' node (x ∷ text) to) (append-nil done) (begins_more done [] rests (one ∷ []) node (x ∷ text) to begins);
            spells = refl;
            stands = inr (length rests, refl, slice_get-push rests one);
          })
        ] in
        let r = chained text done rests' bytes' fresh to old law' (inr (length rests, refl, slice_get-push rests one)) in
        let n : count + length rests' ≡ fresh + 1 = let l = length-append rests (one ∷ []) in omega arith in
        let same : bytes' ++ chain fresh (count + length rests') text to ≡ bytes ++ chain node fresh (x ∷ text) to =
        append_assoc bytes (first ∷ []) (chain fresh (count + length rests') text to) ∙ ap (λ k. bytes ++ first ∷ chain fresh k text to) n in
        let whole : (rests' ++ r.more) ≡ rests ++ one ∷ r.more = append_assoc rests (one ∷ []) r.more in
        let all = bytes ++ chain node fresh (x ∷ text) to in
        let held : Contains all first = subst (λ bs. Contains bs first) same (Contains-append_left bytes' (chain fresh (count + length rests') text to) first (Contains-push bytes first)) in
        record {
          more = one ∷ r.more;
          count_is = ap suc r.count_is;
          law = λ b h. subst (λ rs. Lawful done rs b) whole (r.law b (subst (λ bs. Contains bs b) (sym same) h));
          path = prepend all first (Some (record { 0 = x })) node to (word_of text) held refl refl (subst (λ bs. Connects bs fresh (word_of text) to) same r.path);
        }

    -- an edge more
    pub spelled_more : (done : List (Edge Sym)) (rests : List Rest) (bytes : List (Edge Byte)) (e : Edge Sym) → IsSpelled done rests bytes → e.from < count → e.to < count
        → (more : List Rest) × (length more ≡ length (text_on alphabet e.letter))
        × IsSpelled (done ++ e ∷ []) (rests ++ more) (bytes ++ chain e.from (count + length rests) (text_on alphabet e.letter) e.to)
    spelled_more done rests bytes e s from to =
        let text = text_on alphabet e.letter in
        let done' = done ++ e ∷ [] in
        let law : (b : Edge Byte) → Contains bytes b → Lawful done' rests b = λ b h. subst (λ rs. Lawful done' rs b) (append-nil rests) (lawful_more done (e ∷ []) rests [] b (s.law b h)) in
        let r = chained text done' rests bytes e.from e.to to law (inl (e, Contains-push done e, refl, from, refl, refl)) in
        let all = bytes ++ chain e.from (count + length rests) text e.to in (
          r.more,
          r.count_is,
          record {
            chains = λ f h. elim (Contains-push_cases done e f h) [
              | inl before ↦ connects_among bytes all (λ b k. Contains-append_left bytes (chain e.from (count + length rests) text e.to) b k) f.from f.to (word_of (text_on alphabet f.letter)) (s.chains f before)
              | inr same ↦ subst (λ x. Connects all x.from (word_of (text_on alphabet x.letter)) x.to) same r.path
            ];
            law = r.law;
          },
        )

    module _ (done : List (Edge Sym)) (rests : List Rest) (bytes : List (Edge Byte)) (s : IsSpelled done rests bytes) where
      -- the nodes of the new graph
      pub spelled_within : (nodes : ℕ) → nodes ≡ count + length rests → IsWithin bytes nodes
      spelled_within nodes is b h =
          let l = s.law b h in (
            elim l.begins [ inl x ↦ let k = x.3 in omega arith | inr x ↦ let w = slice_get_within rests x.0 (l.whole, l.to) x.2 in let e = x.1 in omega arith ],
            elim l.stands [ inl x ↦ let k = x.0 in omega arith | inr x ↦ let w = slice_get_within rests x.0 (l.rest, l.to) x.2 in let e = x.1 in omega arith ],
          )

      -- a path of edges as a path of bytes
      encode : (a b : ℕ) (q : List (Edge Sym)) → IsPath done a q b → Connects bytes a (word_of (text_along q)) b
      encode a b [] h = ([], h, refl)
      encode a b (e ∷ q) (held, from, rest) =
          subst (λ x. Connects bytes x (word_of (text_on alphabet e.letter ++ text_along q)) b) from
          (subst (λ w. Connects bytes e.from w b) (sym (map-append (λ n. record { 0 = n }) (text_on alphabet e.letter) (text_along q)))
          (connects-append bytes e.from e.to b (word_of (text_on alphabet e.letter)) (word_of (text_along q)) (s.chains e held) (encode e.to b q rest)))

      joint : (b : Edge Byte) (p : List (Edge Byte)) (v last : ℕ) (rest : List ℕ) (to : ℕ) (whole : List ℕ) (next : ℕ) → b.from ≡ v → Stands rests v rest to → Begins done rests b.from whole next
          → (q : List (Edge Sym)) → IsPath done next q last → letters_of (b ∷ p) ≡ word_of (whole ++ text_along q)
          → (q : List (Edge Sym)) × IsPath done to q last × (letters_of (b ∷ p) ≡ word_of (rest ++ text_along q))
      joint b p v last rest to whole next from (inl (below, none, at)) (inl (e, held, leaves, old, text, enters)) q h letters = (
        e ∷ q,
        (held, leaves ∙ from ∙ at, subst (λ x. IsPath done x q last) (sym enters) h),
        letters ∙ ap (λ w. word_of (w ++ text_along q)) (sym text) ∙ ap (λ r. word_of (r ++ (text_on alphabet e.letter ++ text_along q))) (sym none),
      )
      joint b p v last rest to whole next from (inl (below, none, at)) (inr (i, is, there)) q h letters = absurd (omega arith)
      joint b p v last rest to whole next from (inr (i, is, there)) (inl (e, held, leaves, old, text, enters)) q h letters = absurd (omega arith)
      joint b p v last rest to whole next from (inr (i, is, there)) (inr (j, js, here)) q h letters =
          let n : j ≡ i = omega arith in
          let pair : (whole, next) ≡ (rest, to) = same_Some (whole, next) (rest, to) (sym here ∙ ap (slice_get rests) n ∙ there) in
          let one : whole ≡ rest = ap (λ r. r.0) pair in
          let two : next ≡ to = ap (λ r. r.1) pair in
          (q, subst (λ x. IsPath done x q last) two h, letters ∙ ap (λ r. word_of (r ++ text_along q)) one)

      -- a path of bytes to an old node, from what is left at its first node on
      decode : (p : List (Edge Byte)) (v last : ℕ) (rest : List ℕ) (to : ℕ) → last < count → IsPath bytes v p last → Stands rests v rest to
          → (q : List (Edge Sym)) × IsPath done to q last × (letters_of p ≡ word_of (rest ++ text_along q))
      decode [] v last rest to old h (inl (below, none, at)) = ([], sym at ∙ h, ap word_of (sym (ap (λ r. r ++ []) none)))
      decode [] v last rest to old h (inr (i, is, at)) = absurd (let e : v ≡ last = h in omega arith)
      decode (b ∷ p) v last rest to old (held, from, path) stands =
          let l = s.law b held in
          let r = decode p b.to last l.rest l.to old path l.stands in
          let letters : option_to_list b.letter ++ letters_of p ≡ word_of (l.whole ++ text_along r.0) =
          ap (λ w. option_to_list b.letter ++ w) (r.2 ∙ map-append (λ n. record { 0 = n }) l.rest (text_along r.0))
          ∙ sym (append_assoc (option_to_list b.letter) (word_of l.rest) (word_of (text_along r.0)))
          ∙ ap (λ w. w ++ word_of (text_along r.0)) (sym l.spells) ∙ sym (map-append (λ n. record { 0 = n }) l.whole (text_along r.0)) in
          joint b p v last rest to l.whole l.to from stands l.begins r.0 r.1 letters

      pub same_texts : 1 < count → (text : List ℕ) → WritesText bytes text ↔ GraphTexts alphabet done text
      same_texts two text = (
        λ (p, h, letters).
            let r = decode p start end [] start (omega arith) h (inl (two, refl, refl)) in
            let is = same_text_of text (text_along r.0) (sym letters ∙ r.2) in
            (spelled alphabet (letters_of r.0), (letters_of r.0, (r.0, r.1, refl), refl), is ∙ text_along_is r.0),
        λ (texts, (word, (q, h, letters), are), is).
            let e : text ≡ text_along q = is ∙ ap joined are ∙ ap (λ w. joined (spelled alphabet w)) (sym letters) ∙ sym (text_along_is q) in
            subst (λ t. WritesText bytes t) (sym e) (encode start end q h),
      )

  -- texts of UTF-8 along a path are one
  utf8_along : (done : List (Edge Sym)) → ((e : Edge Sym) → Contains done e → IsUtf8 (text_on alphabet e.letter)) → (a b : ℕ) (q : List (Edge Sym)) → IsPath done a q b → IsUtf8 (text_along q)
  utf8_along done each a b [] h = IsUtf8-nil
  utf8_along done each a b (e ∷ q) (held, from, rest) = IsUtf8-append (text_on alphabet e.letter) (text_along q) (each e held) (utf8_along done each e.to b q rest)

  pub texts_utf8 : (done : List (Edge Sym)) → ((e : Edge Sym) → Contains done e → IsUtf8 (text_on alphabet e.letter)) → (text : List ℕ) → GraphTexts alphabet done text → IsUtf8 text
  texts_utf8 done each text (texts, (word, (q, h, letters), are), is) =
      let e : text ≡ text_along q = is ∙ ap joined are ∙ ap (λ w. joined (spelled alphabet w)) (sym letters) ∙ sym (text_along_is q) in
      subst (λ t. IsUtf8 t) (sym e) (utf8_along done each start end q h)

-- the letter of an edge is of the alphabet
pub letter_of : (alphabet : List (Sym × List ℕ)) (edges : List (Edge Sym)) → AreOf alphabet edges → (e : Edge Sym) → Contains edges e → IsOf alphabet e.letter
letter_of alphabet edges of e held =
    elim e.letter as (λ o. e.letter ≡ o → IsOf alphabet o) [
      | None ↦ λ _. tt
      | Some symbol ↦ λ is. of e symbol held is
    ] refl
