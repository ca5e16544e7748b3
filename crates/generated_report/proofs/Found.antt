-- So many strings are found of a word, and no other number.
use Rattle.std.proofs.Common.{◌≡◌, ℕ, List, Result, Ok, Err, refl, sym, ap, subst, ◌∙◌}
use Rattle.fsm_base.specs.Cut.{cut}
use Rattle.lookup_answers.specs.OneKind.{IsSameKind}
use Rattle.lookup_answers.specs.declared.direction.Direction.TheVariants.{Up}
use Rattle.lookup_answers.proofs.AnswerKinds.{same_kind}
use Rattle.lookup_answers.proofs.OneList.{one_list}
use Rattle.project_meaning.specs.Projects.{Project}
use Rattle.reply_meaning.specs.Replies.{Related}
use Rattle.word_relations.specs.Answers.{Answers, Found, strings, more, loop}
use Rattle.generated_report.specs.Counts.{HasStrings, how_many, looked_up, no_symbol}
use Rattle.generated_report.specs.declared.told.HowMany.{HowMany}

-- answers that are lawful for one set have as many strings
alike : (T : List ℕ → Type 0) (f g : Found) → Answers T f → Answers T g → IsSameKind f g → how_many f ≡ how_many g
alike T (strings texts) (strings others) p q same = ap (λ ts. how_many (strings ts)) (one_list T texts others p q)
alike T more more p q same = refl
alike T (loop before round after) (loop before2 round2 after2) p q same = refl
alike T (strings texts) more p q same = absurd same
alike T (strings texts) (loop before round after) p q same = absurd same
alike T more (strings texts) p q same = absurd same
alike T more (loop before round after) p q same = absurd same
alike T (loop before round after) (strings texts) p q same = absurd same
alike T (loop before round after) more p q same = absurd same

same_ok : {A B : Type 0} (r : Result A B) (x y : A) → r ≡ Ok x → r ≡ Ok y → x ≡ y
same_ok r x y e f = let is : Ok x ≡ Ok y = sym e ∙ f in cc

apart : {A B : Type 0} (r : Result A B) (x : A) (y : B) → r ≡ Ok x → r ≡ Err y → ⊥
apart r x y e f = let is : Ok x ≡ Err y = sym e ∙ f in cc

pub one_number : (project : Project) (net word : List ℕ) (a b : HowMany) → HasStrings project net word a → HasStrings project net word b → a ≡ b
one_number project net word a b (no_symbol at e is) (no_symbol at2 e2 is2) = is ∙ sym is2
one_number project net word a b (no_symbol at e is) (looked_up symbols found e2 answers is2) = absurd (apart (cut project.alphabet word) symbols at e2 e)
one_number project net word a b (looked_up symbols found e answers is) (no_symbol at e2 is2) = absurd (apart (cut project.alphabet word) symbols at e e2)
one_number project net word a b (looked_up symbols found e answers is) (looked_up symbols2 found2 e2 answers2 is2) =
    let one = same_ok (cut project.alphabet word) symbols symbols2 e e2 in
    let T = Related project Up net symbols in
    let also = subst (λ ss. Answers (Related project Up net ss) found2) (sym one) answers2 in
    is ∙ alike T found found2 answers also (same_kind T found found2 answers also) ∙ sym is2
