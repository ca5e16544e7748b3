-- What an entry says, by its tokens.
use Rattle.std.proofs.Common.{◌≡◌, ◌≢◌, ℕ, List, [], ◌∷◌, length, Option, Result, Ok, Err, refl, sym, ap, subst, ◌∙◌, arith}
use Rattle.regex_ast.specs.Terms.{Term, term}
use Rattle.regex_ast.specs.declared.expr.Raw.{Raw}
use Rattle.regex_ast.specs.declared.expr.Expr.{Expr}
use Rattle.regex_ast.specs.declared.fault.ReadError.{ReadError}
use Rattle.regex_ast.specs.declared.fault.ReadError.TheVariants.{Fault, Memory}
use Rattle.regex_ast.specs.declared.fault.Why.{Why}
use Rattle.regex_ast.specs.declared.fault.Why.TheVariants as why
use Rattle.regex_ast.specs.declared.lexc.Form.{Form as FormOf}
use Rattle.regex_reader.specs.Reads.{IsReadExpression}
use Rattle.project_meaning.specs.Trees.{Form, sides}
use Rattle.regex_reader.specs.Files.{FaultAt, ReadsExpression}
use Rattle.lexc_forms.specs.declared.letters.Letter.{Letter}
use Rattle.lexc_tokens.specs.declared.token.Token.{Token}
use Rattle.lexc_tokens.specs.declared.token.Token.TheVariants.{Word as word, Semicolon as semicolon, Expression as expression}
use Rattle.lexc_grammar.specs.Entries.{Said, fault_at, with_form, with_expression, WordSays, EntrySays}
use Rattle.lexc_reader.specs.EntryAnswers.{IsSaid, IsMemory, IsSaidBehind, IsSaidByWord, IsEntryRead}
use Rattle.lexc_grammar.specs.declared.statements.Ending.{Ending}
use Rattle.lexc_grammar.specs.declared.statements.Ending.TheVariants.{Ended, Unended, Broken}

-- One word.

module _ (tokens : List Token) (first : Token) (others : List Token) (split : tokens ≡ first ∷ others) where
  pub not_one : (length others ≡ 0 → ⊥) → (letters : List Letter) → tokens ≢ word letters ∷ []
  not_one some letters e =
      let whole : first ∷ others ≡ word letters ∷ [] = sym split ∙ e in
      let none : others ≡ [] = cc in
      some (ap length none)

  pub no_word : ((letters : List Letter) → first ≡ word letters → ⊥) → (letters : List Letter) → tokens ≢ word letters ∷ []
  no_word other letters e =
      let whole : first ∷ others ≡ word letters ∷ [] = sym split ∙ e in
      let same : first ≡ word letters = cc in
      other letters same

  pub one_word : (letters : List Letter) → first ≡ word letters → length others ≡ 0 → tokens ≡ word letters ∷ []
  one_word letters is none = split ∙ ap (λ (t : Token). t ∷ others) is ∙ ap (λ (ts : List Token). word letters ∷ ts) (no_others others none)
    where
      no_others : (ts : List Token) → length ts ≡ 0 → ts ≡ []
      no_others [] none = refl
      no_others (t ∷ ts) none = absurd (omega (arith, none))

pub no_tokens : (tokens : List Token) → length tokens ≡ 0 → (letters : List Letter) → tokens ≢ word letters ∷ []
no_tokens tokens none letters e = absurd (omega (arith, none, ap length e))

-- the end of an entry that isn't one word
pub other_end : (line : ℕ) (form : Result (Form Raw) FaultAt) (more : List Token) → ((letters : List Letter) → more ≢ word letters ∷ []) → with_form line form more Ended ≡ fault_at line why.Statement
other_end line form [] other = refl
other_end line form (word letters ∷ []) other = absurd (other letters refl)
other_end line form (word letters ∷ t ∷ ts) other = refl
other_end line form (semicolon ∷ ts) other = refl
other_end line form (expression e ∷ ts) other = refl

-- a fault of an expression that goes before no other is one of its form
pub other_fault : (line at : ℕ) (reason : Why) (more : List Token) (ending : Ending) → reason ≢ why.Token → reason ≢ why.LimitNesting → with_expression line (fault_at at reason) more ending ≡ with_form line (fault_at at reason) more ending
other_fault line at why.NoProject more ending no_token no_depth = refl
other_fault line at why.LimitFile more ending no_token no_depth = refl
other_fault line at why.NotUtf8 more ending no_token no_depth = refl
other_fault line at why.Control more ending no_token no_depth = refl
other_fault line at why.Token more ending no_token no_depth = absurd (no_token refl)
other_fault line at why.LimitNesting more ending no_token no_depth = absurd (no_depth refl)
other_fault line at why.Statement more ending no_token no_depth = refl
other_fault line at why.LimitPower more ending no_token no_depth = refl
other_fault line at why.LimitRule more ending no_token no_depth = refl
other_fault line at why.LimitFiles more ending no_token no_depth = refl
other_fault line at why.LimitEntries more ending no_token no_depth = refl
other_fault line at why.LimitFeatures more ending no_token no_depth = refl
other_fault line at why.UnknownLexicon more ending no_token no_depth = refl
other_fault line at why.NoFile more ending no_token no_depth = refl
other_fault line at why.Duplicate more ending no_token no_depth = refl
other_fault line at why.LimitNames more ending no_token no_depth = refl
other_fault line at why.LimitSymbols more ending no_token no_depth = refl
other_fault line at why.UnknownName more ending no_token no_depth = refl
other_fault line at why.Cycle more ending no_token no_depth = refl
other_fault line at why.NotALanguage more ending no_token no_depth = refl
other_fault line at why.LimitWeight more ending no_token no_depth = refl
other_fault line at why.EmptyCentre more ending no_token no_depth = refl
other_fault line at why.BadSplice more ending no_token no_depth = refl

-- what is said of a form that is a word
pub said_by_word : (declared : List (List ℕ)) (line : ℕ) (letters : List Letter) (more : List Token) (ending : Ending) (result : Result (FormOf Raw × Option (List ℕ)) ReadError) (form : Result (Form Raw) FaultAt) → WordSays declared line letters form → IsSaid (with_form line form more ending) result → IsSaidByWord declared line letters more ending result
said_by_word declared line letters more ending (Ok x) form says said = (form, says, said)
said_by_word declared line letters more ending (Err (Fault at reason)) form says said = (form, says, said)
said_by_word declared line letters more ending (Err (Memory refused)) form says said = tt

-- What is said is what is read.

module _ (declared : List (List ℕ)) (line : ℕ) (tokens : List Token) (ending : Ending) where
  pub said_is_read : (result : Result (FormOf Raw × Option (List ℕ)) ReadError) (said : Said) → EntrySays declared line tokens ending said → IsSaid said result → IsEntryRead declared line tokens ending result
  said_is_read (Ok x) said says is = subst (EntrySays declared line tokens ending) is says
  said_is_read (Err (Fault at reason)) said says is = subst (EntrySays declared line tokens ending) is says
  said_is_read (Err (Memory refused)) said says is = tt

  pub read_empty : (result : Result (FormOf Raw × Option (List ℕ)) ReadError) → length tokens ≡ 0 → IsSaid (with_form line (Ok (sides [] [])) tokens ending) result → IsEntryRead declared line tokens ending result
  read_empty result none is = said_is_read result (with_form line (Ok (sides [] [])) tokens ending) (by tokens none) is
    where
      by : (ts : List Token) → length ts ≡ 0 → EntrySays declared line ts ending (with_form line (Ok (sides [] [])) ts ending)
      by [] none = refl
      by (t ∷ ts) none = absurd (omega (arith, none))

  module _ (first : Token) (more : List Token) (split : tokens ≡ first ∷ more) where
    pub read_alone : (result : Result (FormOf Raw × Option (List ℕ)) ReadError) (letters : List Letter) → first ≡ word letters → length more ≡ 0 → IsSaid (with_form line (Ok (sides [] [])) tokens ending) result → IsEntryRead declared line tokens ending result
    read_alone result letters is none said =
        let whole : tokens ≡ word letters ∷ [] = one_word tokens first more split letters is none in
        said_is_read result (with_form line (Ok (sides [] [])) tokens ending) (subst (λ (ts : List Token). EntrySays declared line ts ending (with_form line (Ok (sides [] [])) ts ending)) (sym whole) refl) said

    word_says : (letters : List Letter) (form : Result (Form Raw) FaultAt) (ts : List Token) → (length ts ≡ 0 → ⊥) → WordSays declared line letters form → EntrySays declared line (word letters ∷ ts) ending (with_form line form ts ending)
    word_says letters form [] some says = absurd (some refl)
    word_says letters form (t ∷ ts) some says = (form, says, refl)

    pub read_word : (result : Result (FormOf Raw × Option (List ℕ)) ReadError) (letters : List Letter) → first ≡ word letters → (length more ≡ 0 → ⊥) → IsSaidByWord declared line letters more ending result → IsEntryRead declared line tokens ending result
    read_word (Err (Memory refused)) letters is some said = tt
    read_word (Ok x) letters is some said =
        said_is_read (Ok x) (with_form line said.0 more ending) (subst (λ (ts : List Token). EntrySays declared line ts ending (with_form line said.0 more ending)) (sym (split ∙ ap (λ (t : Token). t ∷ more) is)) (word_says letters said.0 more some said.1)) said.2
    read_word (Err (Fault at reason)) letters is some said =
        said_is_read (Err (Fault at reason)) (with_form line said.0 more ending) (subst (λ (ts : List Token). EntrySays declared line ts ending (with_form line said.0 more ending)) (sym (split ∙ ap (λ (t : Token). t ∷ more) is)) (word_says letters said.0 more some said.1)) said.2

    pub read_expression : (result : Result (FormOf Raw × Option (List ℕ)) ReadError) (e bytes : List ℕ) (read : Result (Expr Raw) ReadError) → first ≡ expression e → bytes ≡ e → IsReadExpression bytes line read → IsSaidBehind line read more ending result → IsEntryRead declared line tokens ending result
    read_expression result e bytes (Ok expr) is same reads said = by (Ok (term expr)) (subst (λ (b : List ℕ). ReadsExpression b line (Ok (term expr))) same reads) said
      where
        by : (answer : Result (Term Raw) FaultAt) → ReadsExpression e line answer → IsSaid (with_expression line answer more ending) result → IsEntryRead declared line tokens ending result
        by answer reads said = said_is_read result (with_expression line answer more ending) (subst (λ (ts : List Token). EntrySays declared line ts ending (with_expression line answer more ending)) (sym (split ∙ ap (λ (t : Token). t ∷ more) is)) (answer, reads, refl)) said
    read_expression result e bytes (Err (Fault at reason)) is same reads said = by (fault_at at reason) (subst (λ (b : List ℕ). ReadsExpression b line (fault_at at reason)) same reads) said
      where
        by : (answer : Result (Term Raw) FaultAt) → ReadsExpression e line answer → IsSaid (with_expression line answer more ending) result → IsEntryRead declared line tokens ending result
        by answer reads said = said_is_read result (with_expression line answer more ending) (subst (λ (ts : List Token). EntrySays declared line ts ending (with_expression line answer more ending)) (sym (split ∙ ap (λ (t : Token). t ∷ more) is)) (answer, reads, refl)) said
    read_expression result e bytes (Err (Memory refused)) is same reads said = by result said
      where
        by : (r : Result (FormOf Raw × Option (List ℕ)) ReadError) → IsMemory r → IsEntryRead declared line tokens ending r
        by (Ok x) none = absurd none
        by (Err (Fault at reason)) none = absurd none
        by (Err (Memory refused)) any = tt
