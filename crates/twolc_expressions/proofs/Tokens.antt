-- Tokens as those of xfst, one after another.
use Rattle.std.proofs.Common.{◌≡◌, ◌+◌, ◌<◌, ◌≤◌, ℕ, Bool, false, List, [], ◌∷◌, ◌++◌, Option, None, Some, length, drop, get_or, refl, sym, ap, ◌∙◌, append_assoc, append-nil}
use Rattle.std.proofs.lemmas.List.{drop_all}
use Rattle.std.specs.Option.{option_map, option_and_then}
use Rattle.regex_tokens.specs.declared.token.Token.{Token as XfstToken}
use Rattle.word_relations.proofs.Behind.{left_behind}
use Rattle.twolc_tokens.specs.declared.token.Placed.{Placed}
use Rattle.twolc_grammar.specs.Expressions.{as_token, as_xfst, is_caret}
use Rattle.twolc_grammar.specs.Sections.{tokens_of}

-- what was found stands in front of what the rest is
abbrev pub SoFar : List Placed → ℕ → Bool → List XfstToken → Type 0
SoFar tokens i mark found = option_map (λ xs. found ++ xs) (as_xfst mark (tokens_of (drop i tokens))) ≡ as_xfst false (tokens_of tokens)

pub begin : (tokens : List Placed) → SoFar tokens 0 false []
begin tokens = by (as_xfst false (tokens_of tokens))
  where
    by : (o : Option (List XfstToken)) → option_map (λ xs. [] ++ xs) o ≡ o
    by None = refl
    by (Some xs) = refl

step : (found new : List XfstToken) (x : XfstToken) (o : Option (List XfstToken)) → new ≡ found ++ x ∷ [] → option_map (λ xs. new ++ xs) o ≡ option_map (λ xs. found ++ xs) (option_map (λ xs. x ∷ xs) o)
step found new x None e = refl
step found new x (Some xs) e = ap Some (ap (λ ys. ys ++ xs) e ∙ append_assoc found (x ∷ []) xs)

pub more : (tokens : List Placed) (i : ℕ) (mark next : Bool) (p : Placed) (found new : List XfstToken) (x : XfstToken) → i < length tokens → p ≡ get_or tokens i p → new ≡ found ++ x ∷ [] → Some x ≡ as_token mark p.token → next ≡ is_caret p.token → SoFar tokens i mark found → SoFar tokens (i + 1) next new
more tokens i mark next p found new x below is new_is made caret so_far =
    let rest : Option (List XfstToken) = as_xfst (is_caret p.token) (tokens_of (drop (i + 1) tokens)) in
    let here : as_xfst mark (tokens_of (drop i tokens)) ≡ option_map (λ xs. x ∷ xs) rest =
    ap (λ ps. as_xfst mark (tokens_of ps)) (left_behind tokens i p below is) ∙ ap (option_and_then (λ y. option_map (λ xs. y ∷ xs) rest)) (sym made) in
    ap (λ b. option_map (λ xs. new ++ xs) (as_xfst b (tokens_of (drop (i + 1) tokens)))) caret ∙ step found new x rest new_is ∙ ap (option_map (λ xs. found ++ xs)) (sym here) ∙ so_far

pub failed : (tokens : List Placed) (i : ℕ) (mark : Bool) (p : Placed) (found : List XfstToken) → i < length tokens → p ≡ get_or tokens i p → None ≡ as_token mark p.token → SoFar tokens i mark found → None ≡ as_xfst false (tokens_of tokens)
failed tokens i mark p found below is none so_far =
    let rest : Option (List XfstToken) = as_xfst (is_caret p.token) (tokens_of (drop (i + 1) tokens)) in
    let here : as_xfst mark (tokens_of (drop i tokens)) ≡ None = ap (λ ps. as_xfst mark (tokens_of ps)) (left_behind tokens i p below is) ∙ ap (option_and_then (λ y. option_map (λ xs. y ∷ xs) rest)) (sym none) in
    ap (option_map (λ xs. found ++ xs)) (sym here) ∙ so_far

pub ended : (tokens : List Placed) (i : ℕ) (mark : Bool) (found : List XfstToken) → length tokens ≤ i → SoFar tokens i mark found → Some found ≡ as_xfst false (tokens_of tokens)
ended tokens i mark found over so_far = ap Some (sym (append-nil found)) ∙ ap (λ ps. option_map (λ xs. found ++ xs) (as_xfst mark (tokens_of ps))) (sym (drop_all i tokens over)) ∙ so_far
