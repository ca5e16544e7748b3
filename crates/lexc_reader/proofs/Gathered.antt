-- The tokens of an entry, one by one.
use Rattle.std.proofs.Common.{◌≡◌, ◌≢◌, ◌+◌, ◌-◌, ◌≤◌, ℕ, false, List, [], ◌∷◌, ◌++◌, length, drop, refl, sym, ap, subst, ◌∙◌, arith, append_assoc, append-nil}
use Rattle.std.proofs.lemmas.List.{drop-drop}
use Rattle.regex_tokens.specs.Cuts.{newlines}
use Rattle.lexc_tokens.specs.Tokens.{Follows, NoneFollows, behind_blanks}
use Rattle.lexc_tokens.specs.declared.token.Token.{Token}
use Rattle.lexc_tokens.specs.declared.token.Token.TheVariants.{Semicolon as semicolon}
use Rattle.lexc_grammar.specs.Files.{HasTokens, line_of}
use Rattle.lexc_grammar.specs.declared.statements.Ending.{Ending}
use Rattle.lexc_grammar.specs.declared.statements.Ending.TheVariants.{Ended, Unended, Broken}

module _ (lines : ℕ) (first : Token) (text : List ℕ) where
  -- the tokens so far, and those of the other characters
  pub record SoFar (len : ℕ) (tokens : List Token) : Type 0 where
    pub others : List Token
    pub all : tokens ≡ first ∷ others
    pub goes_on : (more : List Token) (ending : Ending) (rest : List ℕ) → HasTokens lines false (drop len text) more ending rest → HasTokens lines false text (others ++ more) ending rest

  pub none_yet : (tokens : List Token) → tokens ≡ [] ++ first ∷ [] → SoFar 0 tokens
  none_yet tokens is = record { others = []; all = is; goes_on = λ more ending rest has. has }

  module _ (len : ℕ) (tokens : List Token) (here : List ℕ) (here_is : here ≡ drop len text) (so_far : SoFar len tokens) where
    pub one_more : (n : ℕ) (token : Token) (pushed : List Token) → token ≢ semicolon → Follows false here token (drop n here) → pushed ≡ tokens ++ token ∷ [] → SoFar (len + n) pushed
    one_more n token pushed no_end follows is = record {
      others = so_far.others ++ token ∷ [];
      all = is ∙ ap (λ (z : List Token). z ++ token ∷ []) so_far.all;
      goes_on = λ more ending rest has.
          subst (λ (z : List Token). HasTokens lines false text z ending rest) (sym (append_assoc so_far.others (token ∷ []) more))
          (so_far.goes_on (token ∷ more) ending rest (
            no_end,
            drop n here,
            subst (λ (z : List ℕ). Follows false z token (drop n here)) here_is follows,
            subst (λ (z : List ℕ). HasTokens lines false z more ending rest) (sym (drop-drop n len text) ∙ ap (drop n) (sym here_is)) has,
          ));
    }

    ended_by : (ending : Ending) (rest : List ℕ) → HasTokens lines false (drop len text) [] ending rest → HasTokens lines false text so_far.others ending rest
    ended_by ending rest has = subst (λ (z : List Token). HasTokens lines false text z ending rest) (append-nil so_far.others) (so_far.goes_on [] ending rest has)

    pub ended : (n : ℕ) → Follows false here semicolon (drop n here) → HasTokens lines false text so_far.others Ended (drop (len + n) text)
    ended n follows = ended_by Ended (drop (len + n) text) (subst (λ (z : List ℕ). Follows false (drop len text) semicolon z) (ap (drop n) here_is ∙ drop-drop n len text) (subst (λ (z : List ℕ). Follows false z semicolon (drop n here)) here_is follows))

    pub unended : behind_blanks here ≡ [] → HasTokens lines false text so_far.others Unended (drop len text)
    unended none = ended_by Unended (drop len text) (subst (λ (z : List ℕ). behind_blanks z ≡ []) here_is none)

    pub broken : (at line : ℕ) → NoneFollows false here → line + newlines here ≡ lines → at + newlines (behind_blanks here) ≡ line + newlines here → HasTokens lines false text so_far.others (Broken at) (drop len text)
    broken at line none whole at_is = ended_by (Broken at) (drop len text) (subst (λ (z : List ℕ). NoneFollows false z × (at ≡ line_of lines z)) here_is (none, omega (arith, whole, at_is)))
