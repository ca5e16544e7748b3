-- The tokens of an entry say one thing only, where no declared symbol is a flag.
use Rattle.std.proofs.Common.{◌≡◌, ℕ, true, List, [], ◌∷◌, Option, Result, Ok, Err, sym, ap, subst, ◌∙◌}
use Rattle.regex_ast.specs.Terms.{Term}
use Rattle.regex_ast.specs.declared.expr.Raw.{Raw}
use Rattle.regex_ast.specs.declared.lexc.Form.{Form as FormOf}
use Rattle.regex_ast.specs.declared.lexc.Form.TheVariants.{Sides, Pairs}
use Rattle.regex_reader.specs.Files.{FaultAt}
use Rattle.regex_reader.proofs.Once.{one_expression}
use Rattle.project_meaning.specs.Trees.{Form}
use Rattle.lexc_forms.specs.declared.letters.Letter.{Letter}
use Rattle.lexc_forms.specs.Forms.{HasNoSides, IsForm}
use Rattle.lexc_tokens.specs.declared.token.Token.{Token}
use Rattle.lexc_tokens.specs.declared.token.Token.TheVariants.{Word as word, Semicolon as semicolon, Expression as expression}
use Rattle.lexc_grammar.specs.Entries.{Said, with_form, with_expression, WordSays, EntrySays}
use Rattle.lexc_grammar.specs.Files.{HasTokens, line_of}
use Rattle.lexc_grammar.specs.Lexicons.{Known}
use Rattle.lexc_grammar.specs.declared.statements.Ending.{Ending}
use Rattle.lexc_grammar.specs.declared.statements.Ending.TheVariants.{Ended}
use Rattle.lexc_grammar.proofs.Forms.{HasNoFlags, form_once}
use Rattle.lexc_grammar.proofs.Tokens.{tokens_once, behind_end}

has_sides : (declared : List (List ℕ)) (letters : List Letter) (f : FormOf Raw) → IsForm declared letters f → HasNoSides letters → ⊥
has_sides declared letters (Sides upper lower) is no_sides = no_sides is.0 is.1 is.2
has_sides declared letters (Pairs e) is no_sides = is

module _ (declared : List (List ℕ)) (none : HasNoFlags declared) (line : ℕ) where
  word_once : (letters : List Letter) (a b : Result (Form Raw) FaultAt) → WordSays declared line letters a → WordSays declared line letters b → a ≡ b
  word_once letters (Ok f) (Ok g) p q = ap Ok (p.2 ∙ form_once declared none letters p.0 q.0 p.1 q.1 ∙ sym q.2)
  word_once letters (Ok f) (Err found) p q = absurd (has_sides declared letters p.0 p.1 q.0)
  word_once letters (Err found) (Ok g) p q = absurd (has_sides declared letters q.0 q.1 p.0)
  word_once letters (Err found) (Err other) p q = p.1 ∙ sym q.1

  pub entry_once : (tokens : List Token) (ending : Ending) (a b : Said) → EntrySays declared line tokens ending a → EntrySays declared line tokens ending b → a ≡ b
  entry_once [] ending a b p q = p ∙ sym q
  entry_once (word next ∷ []) ending a b p q = p ∙ sym q
  entry_once (word letters ∷ t ∷ ts) ending a b p q = p.2 ∙ ap (λ (form : Result (Form Raw) FaultAt). with_form line form (t ∷ ts) ending) (word_once letters p.0 q.0 p.1 q.1) ∙ sym q.2
  entry_once (semicolon ∷ ts) ending a b p q = absurd p
  entry_once (expression e ∷ ts) ending a b p q = p.2 ∙ ap (λ (read : Result (Term Raw) FaultAt). with_expression line read ts ending) (one_expression e line p.0 q.0 p.1 q.1) ∙ sym q.2

-- An entry of a text.

-- what the next entry of a text says, and what is behind it
pub data Entry : Type 0 where
  accepted : Form Raw → Option (List ℕ) → List ℕ → Entry
  refused : FaultAt → Entry

module _ (lines : ℕ) (known : Known) (text : List ℕ) where
  abbrev pub IsEntry : Entry → Type 0
  IsEntry (accepted form next rest) = (tokens : List Token) × HasTokens lines true text tokens Ended rest × EntrySays known.declared (line_of lines text) tokens Ended (Ok (form, next))
  IsEntry (refused found) = (tokens : List Token) × (ending : Ending) × (rest : List ℕ) × HasTokens lines true text tokens ending rest × EntrySays known.declared (line_of lines text) tokens ending (Err found)

  -- any tokens of the text, and what they say
  record Found : Type 0 where
    tokens : List Token
    ending : Ending
    rest : List ℕ
    has : HasTokens lines true text tokens ending rest
    said : Said
    says : EntrySays known.declared (line_of lines text) tokens ending said

  abbrev found_in : (entry : Entry) → IsEntry entry → Found
  found_in (accepted form next rest) is = record { tokens = is.0; ending = Ended; rest = rest; has = is.1; said = Ok (form, next); says = is.2 }
  found_in (refused found) is = record { tokens = is.0; ending = is.1; rest = is.2; has = is.3; said = Err found; says = is.4 }

  module _ (none : HasNoFlags known.declared) where
    found_once : (a b : Found) → (a.said ≡ b.said) × (behind_end a.ending a.rest ≡ behind_end b.ending b.rest)
    found_once a b =
        let same = tokens_once lines true text a.tokens b.tokens a.ending b.ending a.rest b.rest a.has b.has in
        let says = subst (λ (e : Ending). EntrySays known.declared (line_of lines text) b.tokens e a.said) same.ending (subst (λ (ts : List Token). EntrySays known.declared (line_of lines text) ts a.ending a.said) same.tokens a.says) in
        (entry_once known.declared none (line_of lines text) b.tokens b.ending a.said b.said says b.says, same.behind)

    oks_same : (x y : Form Raw × Option (List ℕ)) → ◌≡◌ {A = Said} (Ok x) (Ok y) → x ≡ y
    oks_same x y same = cc

    ok_same : (f g : Form Raw) (n m : Option (List ℕ)) (r s : List ℕ) → ◌≡◌ {A = Said} (Ok (f, n)) (Ok (g, m)) → r ≡ s → accepted f n r ≡ accepted g m s
    ok_same f g n m r s same rest = let both : (f, n) ≡ (g, m) = oks_same (f, n) (g, m) same in λ i. accepted (both i).0 (both i).1 (rest i)

    ok_err : (x : Form Raw × Option (List ℕ)) (found : FaultAt) → ◌≡◌ {A = Said} (Ok x) (Err found) → ⊥
    ok_err x found same = cc

    err_same : (found other : FaultAt) → ◌≡◌ {A = Said} (Err found) (Err other) → refused found ≡ refused other
    err_same found other same = cc

    -- the next entry is one
    pub next_entry_once : (a b : Entry) → IsEntry a → IsEntry b → a ≡ b
    next_entry_once (accepted f n r) (accepted g m s) p q = let same = found_once (found_in (accepted f n r) p) (found_in (accepted g m s) q) in ok_same f g n m r s same.0 same.1
    next_entry_once (accepted f n r) (refused other) p q = absurd (ok_err (f, n) other (found_once (found_in (accepted f n r) p) (found_in (refused other) q)).0)
    next_entry_once (refused found) (accepted g m s) p q = absurd (ok_err (g, m) found (found_once (found_in (accepted g m s) q) (found_in (refused found) p)).0)
    next_entry_once (refused found) (refused other) p q = err_same found other (found_once (found_in (refused found) p) (found_in (refused other) q)).0
