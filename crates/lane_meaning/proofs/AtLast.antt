-- Behind the mark a lane is answered at the last value.
use Rattle.std.proofs.Common.{◌≡◌, ◌+◌, ◌++◌, ◌∷◌, [], ℕ, List, Option, length, length-append, refl, sym, ap, subst, ◌∙◌, arith}
use Rattle.std.proofs.lemmas.List.{same_from_push}
use Rattle.reply_meaning.specs.Transcripts.{IsTranscript, WithoutState}
use Rattle.lane_meaning.specs.Lanes.{Answers, HasNumber, Place, beside, behind}

no_more : {V : Type 0} (back : List V) → length back ≡ 0 → back ≡ []
no_more [] none = refl
no_more (value ∷ back) none = absurd (omega arith)

-- the value whose number is the greatest is the last one
ends_with : {V : Type 0} (values : List V) (value : V) → HasNumber values (length values) value → (front : List V) × (values ≡ front ++ value ∷ [])
ends_with {V} values value has =
    let long : length values ≡ length has.front + length (value ∷ has.back) = ap length has.values_are ∙ length-append has.front (value ∷ has.back) in
    let none : length has.back ≡ 0 = omega (arith, long, has.number_is) in
    (has.front, has.values_are ∙ ap (λ (back : List V). has.front ++ value ∷ back) (no_more has.back none))

module _ {V : Type 0} (Replies : V → Option (List ℕ) → List ℕ → Type 0) where
  pub line_at_last : (values : List V) (entered : ℕ) (line : Option (List ℕ)) (reply : List ℕ) (place : Place) → Answers Replies values entered behind line reply place
      → (front : List V) × (value : V) × (values ≡ front ++ value ∷ []) × Replies value line reply × (place ≡ behind)
  line_at_last values entered line reply (beside number answers) a = absurd a
  line_at_last values entered line reply behind (value, has, lawful) = let ends = ends_with values value has in (ends.0, value, ends.1, lawful, refl)

  pub rest_at_last : (front : List V) (value : V) (entered : ℕ) (lines : List (Option (List ℕ))) (bytes : List ℕ) (last : Place)
      → IsTranscript (Answers Replies (front ++ value ∷ []) entered) behind lines bytes last → IsTranscript (WithoutState (Replies value)) tt lines bytes tt × (last ≡ behind)
  rest_at_last front value entered [] bytes last t = ((t.0, refl), sym t.1)
  rest_at_last front value entered (line ∷ lines) bytes last (reply, rest, beside number answers, is, step, others) = absurd step
  rest_at_last front value entered (line ∷ lines) bytes last (reply, rest, behind, is, (at, has, lawful), others) =
      let ends = ends_with (front ++ value ∷ []) at has in
      let same : value ≡ at = (same_from_push front ends.0 value at ends.1).1 in
      let later = rest_at_last front value entered lines rest last others in
      ((reply, rest, tt, is, subst (λ (v : V). Replies v line reply) (sym same) lawful, later.0), later.1)
