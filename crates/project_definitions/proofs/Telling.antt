-- What one form tells of many items together: whether all fit and can be built, and what they weigh.
use Rattle.std.proofs.Common.{◌≡◌, ◌↔◌, ◌+◌, ◌<◌, ℕ, min, Bool, true, false, ◌==◌, IsTrue, ◌&&◌, List, [], ◌∷◌, ◌++◌, length, map, take, drop, get_or, All, refl, sym, ap, subst, ◌∙◌, arith}
use Rattle.std.specs.Prelude.{Vec, sum_by}
use Rattle.std.specs.Global.{Global}
use Rattle.std.proofs.lemmas.Bool.Decides.{nat_tests}
use Rattle.std.proofs.lemmas.List.{length-map, map-append, take-append-drop, take_more}
use Rattle.std.proofs.lemmas.List.Elements.{All-nil, All-cons, All-head, All-append}
use Rattle.std.proofs.lemmas.List.Sums.{sum_by-append, sum_by-cons}
use Rattle.regex_ast.specs.declared.expr.Atom.{Atom}
use Rattle.word_relations.proofs.Behind.{left_behind}
use Rattle.regex_ast.specs.Terms.{term}
use Rattle.regex_ast.specs.declared.expr.Expr.{Expr}
use Rattle.regex_ast.specs.declared.lexc.Piece.{Piece as PieceOf}
use Rattle.regex_ast.specs.declared.lexc.Form.{Form as FormOf}
use Rattle.regex_ast.specs.declared.lexc.Form.TheVariants.{Sides, Pairs}
use Rattle.regex_ast.specs.declared.lexc.Entry.{Entry as EntryOf}
use Rattle.regex_ast.specs.declared.lexc.Lexicon.{Lexicon as LexiconOf}
use Rattle.expr_kinds.specs.Atoms.{is_known_at, is_symbol, leaves_at, weights_at}
use Rattle.expr_kinds.specs.Forms.{beside, capped, heavier, of_leaf}
use Rattle.expr_kinds.specs.Weights.{most_weight, weight_of}
use Rattle.expr_kinds.specs.declared.form.Form.{Form}
use Rattle.expr_kinds.specs.declared.form.Kind.TheVariants.{Language}
use Rattle.expr_kinds.proofs.FitLaws.{both_true}
use Rattle.name_resolution.specs.Plain.{entry_of, form_of, lexicon_of, piece_of}
use Rattle.project_meaning.specs.Trees.{Entry, Lexicon}
use Rattle.project_sources.specs.Built.{FormIsBuiltBy, LexiconIsBuiltBy, PieceIsBuiltBy}
use Rattle.project_definitions.specs.Bodies.{BodyFitsBy, FormFitsBy, LexiconFitsBy, form_weight, lexicon_weight, weighty}
use Rattle.project_definitions.specs.Plain.{body_of}
use Rattle.project_definitions.specs.declared.definition.Body.{Body as BodyOf}
use Rattle.project_definitions.specs.declared.definition.Body.TheVariants.{Lexc}
use Rattle.project_definitions.proofs.Bodies.{lexicons_fit}
use Rattle.project_definitions.proofs.Built.{All-front, All-back}

pub record Tells {X : Type 0} (IsFit : X → Type 0) (weigh : X → ℕ) (IsMade : X → Type 0) (xs : List X) (form : Form) : Type 0 where
  pub fits : IsTrue form.fits ↔ All IsFit xs
  pub weight : form.weight ≡ capped (sum_by weigh xs)
  pub built : IsTrue form.built ↔ All IsMade xs

-- the same of one item
pub record TellsOne {X : Type 0} (IsFit : X → Type 0) (weigh : X → ℕ) (IsMade : X → Type 0) (x : X) (form : Form) : Type 0 where
  pub fits : IsTrue form.fits ↔ IsFit x
  pub weight : form.weight ≡ capped (weigh x)
  pub built : IsTrue form.built ↔ IsMade x

together : (a b c d : ℕ) → a ≡ capped c → b ≡ capped d → capped (a + b) ≡ capped (c + d)
unfolding capped most_weight
together a b c d first second = omega (arith, first, second)

all_with : {X : Type 0} (P : X → Type 0) (xs : List X) (x : X) (a b : Bool) → IsTrue a ↔ All P xs → IsTrue b ↔ P x → IsTrue (a && b) ↔ All P (xs ++ x ∷ [])
all_with P xs x a b before here = (
  λ h. let (first, second) = (both_true a b).0 h in All-append P xs (x ∷ []) (before.0 first) (All-cons P x [] (here.0 second) (All-nil P)),
  λ all. (both_true a b).1 (before.1 (All-front P xs (x ∷ []) all), here.1 (All-head P x [] (All-back P xs (x ∷ []) all))),
)

module _ {X : Type 0} (IsFit : X → Type 0) (weigh : X → ℕ) (IsMade : X → Type 0) where
  pub tells_none : Tells IsFit weigh IsMade [] (of_leaf Language 0)
  tells_none = record { fits = (λ h. All-nil IsFit, λ h. refl); weight = refl; built = (λ h. All-nil IsMade, λ h. refl) }

  pub tells_more : (xs : List X) (x : X) (form one : Form) → Tells IsFit weigh IsMade xs form → TellsOne IsFit weigh IsMade x one → Tells IsFit weigh IsMade (xs ++ x ∷ []) (beside form one)
  tells_more xs x form one before here = record {
    fits = all_with IsFit xs x form.fits one.fits before.fits here.fits;
    weight =
        together form.weight one.weight (sum_by weigh xs) (weigh x) before.weight here.weight
        ∙ ap capped (sym (sum_by-append weigh xs (x ∷ []) ∙ ap (λ (n : ℕ). sum_by weigh xs + n) (let one_item = sum_by-cons weigh x [] in let e : sum_by weigh (x ∷ []) ≡ weigh x = omega (arith, one_item) in e)));
    built = all_with IsMade xs x form.built one.built before.built here.built;
  }

-- entries and lexicons, where names have these forms
module _ (names : List Form) where
  abbrev pub EntryFits : Entry Atom → Type 0
  EntryFits entry = FormFitsBy (leaves_at names) entry.form

  abbrev pub entry_weight : Entry Atom → ℕ
  entry_weight entry = form_weight (weights_at names) entry.form

  abbrev pub EntryIsBuilt : Entry Atom → Type 0
  EntryIsBuilt entry = FormIsBuiltBy (is_known_at names) is_symbol entry.form

  abbrev pub EntriesTell : List (EntryOf Atom) → Form → Type 0
  EntriesTell entries form = Tells EntryFits entry_weight EntryIsBuilt (map entry_of entries) form

  abbrev pub LexiconsTell : List (LexiconOf Atom) → Form → Type 0
  LexiconsTell lexicons form = Tells (LexiconFitsBy (leaves_at names)) (lexicon_weight (weights_at names)) (LexiconIsBuiltBy (is_known_at names) is_symbol) (map lexicon_of lexicons) form

  pub entries_more : (entries : List (EntryOf Atom)) (i : ℕ) (e : EntryOf Atom) (form one all : Form) → i < length entries → e ≡ get_or entries i e → all ≡ beside form one
      → TellsOne EntryFits entry_weight EntryIsBuilt (entry_of e) one → EntriesTell (take i entries) form → EntriesTell (take (i + 1) entries) all
  entries_more entries i e form one all below is all_is here so_far =
      let more = tells_more EntryFits entry_weight EntryIsBuilt (map entry_of (take i entries)) (entry_of e) form one so_far here in
      let front = map-append entry_of (take i entries) (e ∷ []) in
      let taken = ap (map entry_of) (take_more entries i e below ∙ ap (λ (x : EntryOf Atom). take i entries ++ x ∷ []) (sym is)) ∙ front in
      subst (λ (f : Form). EntriesTell (take (i + 1) entries) f) (sym all_is)
      (subst (λ (xs : List (Entry Atom)). Tells EntryFits entry_weight EntryIsBuilt xs (beside form one)) (sym taken) more)

  pub lexicons_more : (lexicons : List (LexiconOf Atom)) (i : ℕ) (l : LexiconOf Atom) (form one all : Form) → i < length lexicons → l ≡ get_or lexicons i l → all ≡ beside form one
      → TellsOne (LexiconFitsBy (leaves_at names)) (lexicon_weight (weights_at names)) (LexiconIsBuiltBy (is_known_at names) is_symbol) (lexicon_of l) one → LexiconsTell (take i lexicons) form
      → LexiconsTell (take (i + 1) lexicons) all
  lexicons_more lexicons i l form one all below is all_is here so_far =
      let more =
      tells_more (LexiconFitsBy (leaves_at names)) (lexicon_weight (weights_at names)) (LexiconIsBuiltBy (is_known_at names) is_symbol) (map lexicon_of (take i lexicons)) (lexicon_of l) form one so_far here in
      let front = map-append lexicon_of (take i lexicons) (l ∷ []) in
      let taken = ap (map lexicon_of) (take_more lexicons i l below ∙ ap (λ (x : LexiconOf Atom). take i lexicons ++ x ∷ []) (sym is)) ∙ front in
      subst (λ (f : Form). LexiconsTell (take (i + 1) lexicons) f) (sym all_is)
      (subst (λ (xs : List (Lexicon Atom)). Tells (LexiconFitsBy (leaves_at names)) (lexicon_weight (weights_at names)) (LexiconIsBuiltBy (is_known_at names) is_symbol) xs (beside form one)) (sym taken) more)

pub never : IsTrue false → ⊥
never e = cc

-- the pieces of a side, one after another
module _ (side : List (PieceOf Atom)) (i : ℕ) (piece : PieceOf Atom) (below : i < length side) (is : piece ≡ get_or side i piece) where
  pub piece_here : All (PieceIsBuiltBy is_symbol) (map piece_of side) → PieceIsBuiltBy is_symbol (piece_of piece)
  piece_here all =
      let split : map piece_of side ≡ map piece_of (take i side) ++ piece_of piece ∷ map piece_of (drop (i + 1) side) =
      ap (map piece_of) (sym (take-append-drop i side) ∙ ap (λ (z : List (PieceOf Atom)). take i side ++ z) (left_behind side i piece below is))
      ∙ map-append piece_of (take i side) (piece ∷ drop (i + 1) side) in
      let behind = All-back (PieceIsBuiltBy is_symbol) (map piece_of (take i side)) (piece_of piece ∷ map piece_of (drop (i + 1) side)) (subst (All (PieceIsBuiltBy is_symbol)) split all) in
      All-head (PieceIsBuiltBy is_symbol) (piece_of piece) (map piece_of (drop (i + 1) side)) behind

  pub pieces_more : PieceIsBuiltBy is_symbol (piece_of piece) → All (PieceIsBuiltBy is_symbol) (map piece_of (take i side)) → All (PieceIsBuiltBy is_symbol) (map piece_of (take (i + 1) side))
  pieces_more here so_far =
      let taken = ap (map piece_of) (take_more side i piece below ∙ ap (λ (x : PieceOf Atom). take i side ++ x ∷ []) (sym is)) ∙ map-append piece_of (take i side) (piece ∷ []) in
      subst (All (PieceIsBuiltBy is_symbol)) (sym taken)
      (All-append (PieceIsBuiltBy is_symbol) (map piece_of (take i side)) (piece_of piece ∷ []) so_far (All-cons (PieceIsBuiltBy is_symbol) (piece_of piece) [] here (All-nil (PieceIsBuiltBy is_symbol))))

thrice : (a b : ℕ) → capped (capped (capped a + b) + 1) ≡ capped (a + b + 1)
unfolding capped most_weight
thrice a b = omega arith

once_more : (w n : ℕ) → w ≡ min n (most_weight + 1) → capped (w + 1) ≡ capped (n + 1)
unfolding capped most_weight
once_more w n is = omega (arith, is)

capped_zero : 0 ≡ capped 0
unfolding capped most_weight
capped_zero = omega arith

-- the weight of an entry: of its sides, and of its expression
pub sides_weigh : (names : List Form) (form : FormOf Atom) (upper lower : Vec (PieceOf Atom) Global) → form ≡ Sides upper lower → (a b : ℕ) → a ≡ length upper.items → b ≡ length lower.items → (leaf one two : Form)
    → leaf ≡ of_leaf Language a → one ≡ heavier leaf b → two ≡ heavier one 1 → two.weight ≡ capped (form_weight (weights_at names) (form_of form))
sides_weigh names form upper lower is a b a_is b_is leaf one two leaf_is one_is two_is =
    let up = length-map upper.items piece_of in
    let low = length-map lower.items piece_of in
    ap (λ (f : Form). f.weight) two_is ∙ ap (λ (f : Form). capped (f.weight + 1)) one_is ∙ ap (λ (f : Form). capped (capped (f.weight + b) + 1)) leaf_is ∙ thrice a b
    ∙ (λ i. capped (a_is i + b_is i + 1)) ∙ sym (λ i. capped (up i + low i + 1)) ∙ ap (λ (f : FormOf Atom). capped (form_weight (weights_at names) (form_of f))) (sym is)

pub pairs_weigh : (names : List Form) (form : FormOf Atom) (e : Expr Atom) → form ≡ Pairs e → (told one : Form) → told.weight ≡ min (weight_of (weights_at names) (term e)) (most_weight + 1) → one ≡ heavier told 1
    → one.weight ≡ capped (form_weight (weights_at names) (form_of form))
pairs_weigh names form e is told one told_is one_is =
    ap (λ (f : Form). f.weight) one_is ∙ once_more told.weight (weight_of (weights_at names) (term e)) told_is ∙ ap (λ (f : FormOf Atom). capped (form_weight (weights_at names) (form_of f))) (sym is)

-- and of declared symbols, which weigh nothing
pub nameless : (leaf : Atom → ℕ) (lexicon : Lexicon Atom) → (length lexicon.name == 0) ≡ true → 0 ≡ capped (lexicon_weight leaf lexicon)
nameless leaf lexicon empty = by lexicon.name empty
  where
    some : (n : ℕ) → 0 < n → (n == 0) ≡ true → ⊥
    some n less same = grind (arith, nat_tests)

    by : (name : List ℕ) → (length name == 0) ≡ true → 0 ≡ capped (sum_by (λ (entry : Entry Atom). form_weight leaf entry.form) (weighty name lexicon.entries))
    by [] is = capped_zero
    by (b ∷ bs) is = absurd (some (length (b ∷ bs)) (omega arith) is)

-- lexicons fit as a body
pub body_fits : (names : List Form) (body : BodyOf Atom) (lexicons : Vec (LexiconOf Atom) Global) (ls : List (LexiconOf Atom)) → body ≡ Lexc lexicons → ls ≡ lexicons.items → (a b : Bool) → a ≡ b
    → IsTrue b ↔ All (LexiconFitsBy (leaves_at names)) (map lexicon_of ls) → IsTrue a ↔ BodyFitsBy (leaves_at names) (body_of body)
body_fits names body lexicons ls is ls_is a b same told =
    let both = lexicons_fit (leaves_at names) (map lexicon_of lexicons.items) in (
      λ h. subst (λ (x : BodyOf Atom). BodyFitsBy (leaves_at names) (body_of x)) (sym is) (both.0 (subst (λ (z : List (LexiconOf Atom)). All (LexiconFitsBy (leaves_at names)) (map lexicon_of z)) ls_is (told.0 (subst IsTrue same h)))),
      λ h. subst IsTrue (sym same)
          (told.1 (subst (λ (z : List (LexiconOf Atom)). All (LexiconFitsBy (leaves_at names)) (map lexicon_of z)) (sym ls_is) (both.1 (subst (λ (x : BodyOf Atom). BodyFitsBy (leaves_at names) (body_of x)) is h)))),
    )
