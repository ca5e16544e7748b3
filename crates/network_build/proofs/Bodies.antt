-- Bodies of definitions are built as their forms are, and over other symbols where their leaves are among these.
use Rattle.std.proofs.Common.{◌≡◌, ◌||◌, Bool, true, false, List, [], ◌∷◌, All, Contains, IsTrue, map, refl, sym, subst, inl, inr}
use Rattle.std.specs.List.{flat_map, list_any}
use Rattle.std.proofs.lemmas.List.Elements.{All-nil, All-cons, All-head, All-append, All-map, All-contains, All-weaker}
use Rattle.word_relations.proofs.Members.{Contains-nil_cases, Contains-cons_cases, Contains-head, Contains-map}
use Rattle.fsm_base.specs.declared.letters.Sym.{Sym as Symbol}
use Rattle.regex_ast.specs.declared.expr.Atom.{Atom}
use Rattle.regex_ast.specs.Terms.{Term}
use Rattle.expr_kinds.specs.Atoms.{is_symbol_of}
use Rattle.expr_kinds.specs.Built.{IsBuiltBy}
use Rattle.expr_kinds.specs.Kinds.{Fits}
use Rattle.expr_leaves.specs.Alphabet.{uses_alphabet}
use Rattle.expr_leaves.specs.Leaves.{leaves_in}
use Rattle.name_resolution.specs.Leaves.{leaves_in as leaves_in_grammar}
use Rattle.project_meaning.specs.Trees.{Piece, letter, flag, Form, sides, pairs, Entry, Lexicon, Body, xfst, lexc, twolc}
use Rattle.project_meaning.specs.Leaves.{expressions_in, expressions_of, forms_in}
use Rattle.project_meaning.specs.Lexicons.{letters_of}
use Rattle.project_meaning.proofs.Places.{in_front, in_back, in_flat}
use Rattle.project_sources.specs.Built.{PieceIsBuiltBy, FormIsBuiltBy, LexiconIsBuiltBy, BodyIsBuiltBy}
use Rattle.project_definitions.specs.Bodies.{BodyFitsBy, IsFormed}
use Rattle.network_expr.specs.Built.{IsBuiltOver}
use Rattle.network_expr.specs.Parts.{is_leaf_of, kinds}
use Rattle.network_expr.specs.declared.parts.Part.{Part}
use Rattle.network_lexicons.specs.Built.{PieceIsBuilt, FormIsBuilt, EntriesAreBuilt}
use Rattle.network_build.specs.Made.{IsReady}
use Rattle.network_build.specs.Networks.{body_leaves, body_uses_alphabet, form_leaves}
use Rattle.network_build.proofs.Built.{built_alone, built_by, leaves_pass}
use Rattle.network_build.proofs.Grammars.{grammar_by, grammar_passes}
use Rattle.network_build.proofs.Lists.{all_flat, all_within, flat_cases}

-- the form of an entry of a lexicon is one of the forms
form_among : (lexicons : List (Lexicon Atom)) (lexicon : Lexicon Atom) (entry : Entry Atom) → Contains lexicons lexicon → Contains lexicon.entries entry → Contains (forms_in lexicons) entry.form
form_among lexicons lexicon entry among within =
    in_flat (λ (l : Lexicon Atom). map (λ (e : Entry Atom). e.form) l.entries) lexicons lexicon entry.form among (Contains-map (λ (e : Entry Atom). e.form) lexicon.entries entry within)

module _ (is_leaf is_letter : Atom → Bool) where
  forms_built : (lexicons : List (Lexicon Atom)) → All (LexiconIsBuiltBy is_leaf is_letter) lexicons → All (FormIsBuiltBy is_leaf is_letter) (forms_in lexicons)
  forms_built lexicons h =
      all_flat (λ (l : Lexicon Atom). map (λ (e : Entry Atom). e.form) l.entries) (FormIsBuiltBy is_leaf is_letter) lexicons
      (λ l at. All-map (FormIsBuiltBy is_leaf is_letter) (λ (e : Entry Atom). e.form) l.entries (All-contains (LexiconIsBuiltBy is_leaf is_letter) lexicons l h at))

  form_built : (form : Form Atom) → FormIsBuiltBy is_leaf is_letter form → All (IsBuiltBy is_leaf is_letter) (expressions_in form)
  form_built (sides upper lower) h = All-nil (IsBuiltBy is_leaf is_letter)
  form_built (pairs e) h = All-cons (IsBuiltBy is_leaf is_letter) e [] h (All-nil (IsBuiltBy is_leaf is_letter))

  -- each expression of a body that is built is built
  pub expressions_built : (body : Body Atom) → BodyIsBuiltBy is_leaf is_letter body → All (IsBuiltBy is_leaf is_letter) (expressions_of body)
  expressions_built (xfst e) h = All-cons (IsBuiltBy is_leaf is_letter) e [] h (All-nil (IsBuiltBy is_leaf is_letter))
  expressions_built (lexc lexicons) h =
      all_flat expressions_in (IsBuiltBy is_leaf is_letter) (forms_in lexicons)
      (λ form at. form_built form (All-contains (FormIsBuiltBy is_leaf is_letter) (forms_in lexicons) form (forms_built lexicons h) at))
  expressions_built (twolc grammar) h = All-nil (IsBuiltBy is_leaf is_letter)

  module _ (fewer : (a : Atom) → IsTrue (is_letter a) → IsTrue (is_leaf a)) where
    -- the leaves that pass
    abbrev Passes : Atom → Type 0
    Passes a = IsTrue (is_leaf a)

    piece_passes : (piece : Piece Atom) → PieceIsBuiltBy is_letter piece → All Passes (letters_of piece)
    piece_passes (letter a) h = All-cons Passes a [] (fewer a h) (All-nil Passes)
    piece_passes (flag f) h = All-nil Passes

    side_passes : (pieces : List (Piece Atom)) → All (PieceIsBuiltBy is_letter) pieces → All Passes (flat_map letters_of pieces)
    side_passes pieces h = all_flat letters_of Passes pieces (λ piece at. piece_passes piece (All-contains (PieceIsBuiltBy is_letter) pieces piece h at))

    form_passes : (form : Form Atom) → FormIsBuiltBy is_leaf is_letter form → All Passes (form_leaves form)
    form_passes (sides upper lower) h = All-append Passes (flat_map letters_of upper) (flat_map letters_of lower) (side_passes upper h.0) (side_passes lower h.1)
    form_passes (pairs e) h = leaves_pass is_leaf e (built_alone is_leaf is_letter fewer e h)

    -- each leaf of a body that is built passes
    pub body_passes : (body : Body Atom) → BodyIsBuiltBy is_leaf is_letter body → All Passes (body_leaves body)
    body_passes (xfst e) h = leaves_pass is_leaf e (built_alone is_leaf is_letter fewer e h)
    body_passes (lexc lexicons) h =
        all_flat form_leaves Passes (forms_in lexicons) (λ form at. form_passes form (All-contains (FormIsBuiltBy is_leaf is_letter) (forms_in lexicons) form (forms_built lexicons h) at))
    body_passes (twolc grammar) h = All-weaker (λ a. IsTrue (is_letter a)) Passes fewer (leaves_in_grammar grammar) (grammar_passes is_letter grammar h)

-- the leaves of an expression of a form are leaves of the form, and those of an expression of a body are leaves of the body
form_has : (form : Form Atom) (e : Term Atom) → Contains (expressions_in form) e → (a : Atom) → Contains (leaves_in e) a → Contains (form_leaves form) a
form_has (sides upper lower) e among a at = absurd (Contains-nil_cases e among)
form_has (pairs f) e among a at = elim (Contains-cons_cases f [] e among) as (λ _. Contains (leaves_in f) a) [
  | inl is ↦ subst (λ (t : Term Atom). Contains (leaves_in t) a) (sym is) at
  | inr none ↦ absurd (Contains-nil_cases e none)
]

pub body_has : (body : Body Atom) (e : Term Atom) → Contains (expressions_of body) e → (a : Atom) → Contains (leaves_in e) a → Contains (body_leaves body) a
body_has (xfst f) e among a at = elim (Contains-cons_cases f [] e among) as (λ _. Contains (leaves_in f) a) [
  | inl is ↦ subst (λ (t : Term Atom). Contains (leaves_in t) a) (sym is) at
  | inr none ↦ absurd (Contains-nil_cases e none)
]
body_has (lexc lexicons) e among a at =
    let (form, held, there) = flat_cases expressions_in (forms_in lexicons) e among in
    in_flat form_leaves (forms_in lexicons) form a held (form_has form e there a at)
body_has (twolc grammar) e among a at = absurd (Contains-nil_cases e among)

-- no expression uses the alphabet
none_uses : (es : List (Term Atom)) → list_any (λ e. uses_alphabet e) es ≡ false → All (λ (e : Term Atom). uses_alphabet e ≡ false) es
none_uses [] h = All-nil (λ (e : Term Atom). uses_alphabet e ≡ false)
none_uses (e ∷ es) h =
    let both = neither (uses_alphabet e) (list_any (λ f. uses_alphabet f) es) h in
    All-cons (λ (f : Term Atom). uses_alphabet f ≡ false) e es both.0 (none_uses es both.1)
  where
    neither : (a b : Bool) → (a || b) ≡ false → (a ≡ false) × (b ≡ false)
    neither true b h = let clash : true ≡ false = h in absurd (cc)
    neither false b h = (refl, h)

pub none_uses_it : (body : Body Atom) → body_uses_alphabet body ≡ false → All (λ (e : Term Atom). uses_alphabet e ≡ false) (expressions_of body)
none_uses_it body h = none_uses (expressions_of body) h

module _ (parts : List Part) (alphabet other : List Symbol) where
  -- symbols of the alphabet, among these leaves, are among the other ones
  abbrev Go : List Atom → Type 0
  Go leaves = (a : Atom) → Contains leaves a → IsTrue (is_symbol_of alphabet a) → IsTrue (is_symbol_of other a)

  -- these expressions are built over the other symbols, and fit
  abbrev AreOver : List (Term Atom) → Type 0
  AreOver es = (e : Term Atom) → Contains es e → IsBuiltBy (is_leaf_of parts alphabet) (is_symbol_of alphabet) e → IsBuiltOver parts other e

  abbrev AreFit : List (Term Atom) → Type 0
  AreFit es = (e : Term Atom) → Contains es e → Fits (kinds parts) e

  piece_ready : (piece : Piece Atom) → Go (letters_of piece) → PieceIsBuiltBy (is_symbol_of alphabet) piece → PieceIsBuilt other piece
  piece_ready (letter a) go h = go a (Contains-head a []) h
  piece_ready (flag f) go h = tt

  side_ready : (pieces : List (Piece Atom)) → Go (flat_map letters_of pieces) → All (PieceIsBuiltBy (is_symbol_of alphabet)) pieces → All (PieceIsBuilt other) pieces
  side_ready pieces go h =
      all_within (PieceIsBuiltBy (is_symbol_of alphabet)) (PieceIsBuilt other) pieces
      (λ piece at built. piece_ready piece (λ a there. go a (in_flat letters_of pieces piece a at there)) built) h

  form_ready : (form : Form Atom) → Go (form_leaves form) → AreOver (expressions_in form) → AreFit (expressions_in form) → FormIsBuiltBy (is_leaf_of parts alphabet) (is_symbol_of alphabet) form → FormIsBuilt parts other form
  form_ready (sides upper lower) go over fit h = (
    side_ready upper (λ a at. go a (in_front (flat_map letters_of upper) (flat_map letters_of lower) a at)) h.0,
    side_ready lower (λ a at. go a (in_back (flat_map letters_of upper) (flat_map letters_of lower) a at)) h.1,
  )
  form_ready (pairs e) go over fit h = (over e (Contains-head e []) h, fit e (Contains-head e []))

  -- a body that is built over the alphabet is so over the other symbols
  pub body_ready : (body : Body Atom) → Go (body_leaves body) → AreOver (expressions_of body) → IsFormed body → BodyFitsBy (kinds parts) body
      → BodyIsBuiltBy (is_leaf_of parts alphabet) (is_symbol_of alphabet) body → IsReady parts other body
  body_ready (xfst e) go over formed fit h = (over e (Contains-head e []) h, All-head (Fits (kinds parts)) e [] fit)
  body_ready (lexc lexicons) go over formed fit h = (
    all_within (LexiconIsBuiltBy (is_leaf_of parts alphabet) (is_symbol_of alphabet)) (λ (l : Lexicon Atom). EntriesAreBuilt parts other l.entries) lexicons entries h,
    formed,
  )
    where
      entries : (l : Lexicon Atom) → Contains lexicons l → LexiconIsBuiltBy (is_leaf_of parts alphabet) (is_symbol_of alphabet) l → EntriesAreBuilt parts other l.entries
      entries l among built =
          all_within (λ (entry : Entry Atom). FormIsBuiltBy (is_leaf_of parts alphabet) (is_symbol_of alphabet) entry.form) (λ (entry : Entry Atom). FormIsBuilt parts other entry.form) l.entries
          (λ entry within each.
          let held = form_among lexicons l entry among within in
          form_ready entry.form (λ a at. go a (in_flat form_leaves (forms_in lexicons) entry.form a held at)) (λ e at. over e (in_flat expressions_in (forms_in lexicons) entry.form e held at))
          (λ e at. All-contains (Fits (kinds parts)) (expressions_of (lexc lexicons)) e fit (in_flat expressions_in (forms_in lexicons) entry.form e held at)) each)
          built
  body_ready (twolc grammar) go over formed fit h = (grammar_by (is_symbol_of alphabet) (is_symbol_of other) grammar go h, formed)

-- a body that is built is so by any tests that its leaves pass, where those in braces and on sides pass the second
module _ (spells letter_passes passes held : Atom → Bool) where
  abbrev Follow : List Atom → Type 0
  Follow leaves = ((a : Atom) → Contains leaves a → IsTrue (spells a) → IsTrue (passes a)) × ((a : Atom) → Contains leaves a → IsTrue (letter_passes a) → IsTrue (held a))

  piece_by : (piece : Piece Atom) → Follow (letters_of piece) → PieceIsBuiltBy letter_passes piece → PieceIsBuiltBy held piece
  piece_by (letter a) go h = go.1 a (Contains-head a []) h
  piece_by (flag f) go h = tt

  side_by : (pieces : List (Piece Atom)) → Follow (flat_map letters_of pieces) → All (PieceIsBuiltBy letter_passes) pieces → All (PieceIsBuiltBy held) pieces
  side_by pieces (one, two) h =
      all_within (PieceIsBuiltBy letter_passes) (PieceIsBuiltBy held) pieces
      (λ piece at built. piece_by piece (λ a there. one a (in_flat letters_of pieces piece a at there), λ a there. two a (in_flat letters_of pieces piece a at there)) built) h

  form_by : (form : Form Atom) → Follow (form_leaves form) → FormIsBuiltBy spells letter_passes form → FormIsBuiltBy passes held form
  form_by (sides upper lower) (one, two) h =
      let u = flat_map letters_of upper in
      let l = flat_map letters_of lower in (
        side_by upper (λ a at. one a (in_front u l a at), λ a at. two a (in_front u l a at)) h.0,
        side_by lower (λ a at. one a (in_back u l a at), λ a at. two a (in_back u l a at)) h.1,
      )
  form_by (pairs e) go h = built_by spells letter_passes passes held e h go

  pub body_by : (body : Body Atom) → BodyIsBuiltBy spells letter_passes body → Follow (body_leaves body) → BodyIsBuiltBy passes held body
  body_by (xfst e) h go = built_by spells letter_passes passes held e h go
  body_by (lexc lexicons) h (one, two) = all_within (LexiconIsBuiltBy spells letter_passes) (LexiconIsBuiltBy passes held) lexicons lexicon h
    where
      lexicon : (l : Lexicon Atom) → Contains lexicons l → LexiconIsBuiltBy spells letter_passes l → LexiconIsBuiltBy passes held l
      lexicon l among built =
          all_within (λ (entry : Entry Atom). FormIsBuiltBy spells letter_passes entry.form) (λ (entry : Entry Atom). FormIsBuiltBy passes held entry.form) l.entries
          (λ entry within each.
          let held_form = form_among lexicons l entry among within in
          form_by entry.form (
            λ a at. one a (in_flat form_leaves (forms_in lexicons) entry.form a held_form at),
            λ a at. two a (in_flat form_leaves (forms_in lexicons) entry.form a held_form at),
          ) each)
          built
  body_by (twolc grammar) h (one, two) = grammar_by letter_passes held grammar two h
