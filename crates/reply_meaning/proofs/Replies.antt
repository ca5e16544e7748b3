-- Lawful replies to one line.
use Rattle.std.proofs.Common.{◌≡◌, ℕ, ◌⊎◌, List, ◌∷◌, ◌++◌, Option, None, Some, Result, Ok, Err, sym, ap, subst, ◌∙◌, inl, inr, true≢false, true, false, Bool}
use Rattle.std.specs.Prelude.{codes, decimal}
use Rattle.fsm_base.specs.Cut.{cut}
use Rattle.word_relations.specs.Answers.{Found, strings, more, loop, Answers}
use Rattle.lookup_answers.specs.OneKind.{IsSameKind}
use Rattle.lookup_answers.proofs.AnswerKinds.{same_kind}
use Rattle.lookup_answers.proofs.OneList.{one_list}
use Rattle.project_meaning.specs.Projects.{Project}
use Rattle.reply_meaning.specs.Replies.{Replies, RepliesToWord, Related, no_net, no_symbol, answered, no_memory, long, no_word, word, answer_bytes, headed, word_of}
use Rattle.reply_meaning.specs.OneReply.{MayDiffer}
use Rattle.lookup_answers.specs.declared.direction.Direction.{Direction}

-- a cut is one
ok_or : {A B : Type 0} → A → Result A B → A
ok_or other (Ok x) = x
ok_or other (Err e) = other

err_or : {A B : Type 0} → B → Result A B → B
err_or other (Ok x) = other
err_or other (Err e) = e

is_ok : {A B : Type 0} → Result A B → Bool
is_ok (Ok x) = true
is_ok (Err e) = false

same_ok : {A B : Type 0} (r : Result A B) (x y : A) → r ≡ Ok x → r ≡ Ok y → x ≡ y
unfolding ok_or
same_ok r x y e f = ap (ok_or x) (sym e ∙ f)

same_err : {A B : Type 0} (r : Result A B) (x y : B) → r ≡ Err x → r ≡ Err y → x ≡ y
unfolding err_or
same_err r x y e f = ap (err_or x) (sym e ∙ f)

apart : {A B : Type 0} (r : Result A B) (x : A) (y : B) → r ≡ Ok x → r ≡ Err y → ⊥
unfolding is_ok
apart r x y e f = true≢false (ap is_ok (sym e ∙ f))

abbrev AreOne : ℕ → List ℕ → List ℕ → Type 0
AreOne version a b = (a ≡ b) ⊎ MayDiffer version a b

-- answers that are both lawful for one set are the same, or both loops
same_answer : (T : List ℕ → Type 0) (version : ℕ) (w a b : List ℕ) (f g : Found) → Answers T f → Answers T g → a ≡ answer_bytes version w f → b ≡ answer_bytes version w g
    → AreOne version a b
same_answer T version w a b f g p q is_a is_b = by f g p q is_a is_b (same_kind T f g p q)
  where
    by : (f g : Found) → Answers T f → Answers T g → a ≡ answer_bytes version w f → b ≡ answer_bytes version w g → IsSameKind f g → AreOne version a b
    by (strings texts) (strings others) p q is_a is_b same = inl (is_a ∙ ap (λ ts. answer_bytes version w (strings ts)) (one_list T texts others p q) ∙ sym is_b)
    by more more p q is_a is_b same = inl (is_a ∙ sym is_b)
    by (loop before round after) (loop before2 round2 after2) p q is_a is_b same =
        inr (inr (w, record { before = before; round = round; after = after; is = is_a }, record { before = before2; round = round2; after = after2; is = is_b }))
    by (strings texts) more p q is_a is_b same = absurd same
    by (strings texts) (loop before round after) p q is_a is_b same = absurd same
    by more (strings texts) p q is_a is_b same = absurd same
    by more (loop before round after) p q is_a is_b same = absurd same
    by (loop before round after) (strings texts) p q is_a is_b same = absurd same
    by (loop before round after) more p q is_a is_b same = absurd same

module _ (project : Project) (direction : Direction) (version : ℕ) (net : List ℕ) where
  pub word_replies : (w a b : List ℕ) → RepliesToWord project direction version net w a → RepliesToWord project direction version net w b → (a ≡ b) ⊎ MayDiffer version a b
  word_replies w a b (no_memory is) q = inr (inl (inl is))
  word_replies w a b p (no_memory is) = inr (inl (inr is))
  word_replies w a b (no_net none is) (no_net none2 is2) = inl (is ∙ sym is2)
  word_replies w a b (no_net none is) (no_symbol at defined e is2) = absurd (none defined)
  word_replies w a b (no_net none is) (answered symbols found defined e answers is2) = absurd (none defined)
  word_replies w a b (no_symbol at defined e is) (no_net none is2) = absurd (none defined)
  word_replies w a b (answered symbols found defined e answers is) (no_net none is2) = absurd (none defined)
  word_replies w a b (no_symbol at defined e is) (no_symbol at2 defined2 e2 is2) =
      inl (is ∙ ap (λ n. headed version (codes "symbol " ++ decimal n ++ 32 ∷ w)) (same_err (cut project.alphabet w) at at2 e e2) ∙ sym is2)
  word_replies w a b (no_symbol at defined e is) (answered symbols found defined2 e2 answers is2) = absurd (apart (cut project.alphabet w) symbols at e2 e)
  word_replies w a b (answered symbols found defined e answers is) (no_symbol at defined2 e2 is2) = absurd (apart (cut project.alphabet w) symbols at e e2)
  word_replies w a b (answered symbols found defined e answers is) (answered symbols2 found2 defined2 e2 answers2 is2) =
      let same = same_ok (cut project.alphabet w) symbols symbols2 e e2 in
      same_answer (Related project direction net symbols) version w a b found found2 answers
      (subst (λ ss. Answers (Related project direction net ss) found2) (sym same) answers2) is is2

  pub replies : (line : Option (List ℕ)) (a b : List ℕ) → Replies project direction version net line a → Replies project direction version net line b → AreOne version a b
  replies None a b (long is) (long is2) = inl (is ∙ sym is2)
  replies (Some line) a b (no_word none is) (no_word none2 is2) = inl (is ∙ sym is2)
  replies (Some line) a b (no_word none is) (word well is2) = absurd (none well)
  replies (Some line) a b (word well is) (no_word none is2) = absurd (none well)
  replies (Some line) a b (word well is) (word well2 is2) = word_replies (word_of line) a b is is2
