-- Whether a run is a flag.
use Rattle.std.proofs.Common.{◌≡◌, ◌++◌, ℕ, Bool, true, false, List, [], ◌∷◌, Option, Some, None, sym, ◌∙◌, append_assoc, IsTrue, MatchOption}
use Rattle.std.specs.Option.{is_some}
use Rattle.regex_ast.specs.Flags.{IsFlag, valued, plain}
use Rattle.regex_ast.specs.declared.lexc.FlagOp.{FlagOp}
use Rattle.flag_texts.specs.Reading.{IsFlagOf, MayHave, letter_of, ending_of}

flag_is : (text : List ℕ) (flag : FlagOp) → IsFlagOf text flag → IsFlag text
flag_is text flag h = by flag.value h.value h.spelled
  where
    by : (value : Option (List ℕ)) → MayHave flag.kind value → text ≡ 64 ∷ letter_of flag.kind ∷ 46 ∷ flag.feature ++ ending_of value → IsFlag text
    by None may e = plain (letter_of flag.kind) flag.feature may h.feature e
    by (Some v) may e = valued (letter_of flag.kind) flag.feature v may.0 h.feature may.1 (e ∙ sym (append_assoc (64 ∷ letter_of flag.kind ∷ 46 ∷ flag.feature) (46 ∷ v) (64 ∷ [])))

pub flag_found : (text : List ℕ) (flag : Option FlagOp) (is : Bool) → MatchOption flag (IsFlag text → ⊥) (IsFlagOf text) → is ≡ is_some flag → (IsTrue is → IsFlag text) × (IsFlag text → IsTrue is)
flag_found text None is h e = ((λ t. let clash : true ≡ false = sym t ∙ e in absurd cc), (λ f. absurd (h f)))
flag_found text (Some flag) is h e = ((λ t. flag_is text flag h), (λ f. e))
