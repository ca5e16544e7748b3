-- Lawful replies to one line by a text.
use Rattle.std.proofs.Common.{◌≡◌, ℕ, ◌⊎◌, List, ◌∷◌, ◌++◌, Option, None, Some, Result, Ok, Err, sym, ap, subst, ◌∙◌, inl, inr, codes, decimal}
use Rattle.fsm_base.specs.Cut.{cut}
use Rattle.word_relations.specs.Answers.{Found, strings, more, loop, Answers}
use Rattle.lookup_answers.specs.OneKind.{IsSameKind}
use Rattle.lookup_answers.proofs.AnswerKinds.{same_kind}
use Rattle.lookup_answers.proofs.OneList.{one_list}
use Rattle.reply_meaning.specs.OneReply.{IsMemory, AreLoops}
use Rattle.reply_meaning.specs.Replies.{answer_bytes, headed, word_of}
use Rattle.saved_networks.specs.Replies.{RepliesBySaved, RepliesToWordBySaved, TextsAbove, answered, long, no_memory, no_symbol, no_word, symbols_in, word}

abbrev AreOne : ℕ → List ℕ → List ℕ → Type 0
AreOne version a b = (a ≡ b) ⊎ (IsMemory version a ⊎ IsMemory version b) ⊎ AreLoops version a b

-- a cut is one
same_ok : {A B : Type 0} (r : Result A B) (x y : A) → r ≡ Ok x → r ≡ Ok y → x ≡ y
same_ok r x y e f = cc

same_err : {A B : Type 0} (r : Result A B) (x y : B) → r ≡ Err x → r ≡ Err y → x ≡ y
same_err r x y e f = cc

apart : {A B : Type 0} (r : Result A B) (x : A) (y : B) → r ≡ Ok x → r ≡ Err y → ⊥
apart r x y e f = cc

-- answers that are both lawful for one set are the same, or both loops
same_answer : (T : List ℕ → Type 0) (version : ℕ) (w a b : List ℕ) (f g : Found) → Answers T f → Answers T g → a ≡ answer_bytes version w f → b ≡ answer_bytes version w g → AreOne version a b
same_answer T version w a b f g p q is_a is_b = by f g p q is_a is_b (same_kind T f g p q)
  where
    by : (f g : Found) → Answers T f → Answers T g → a ≡ answer_bytes version w f → b ≡ answer_bytes version w g → IsSameKind f g → AreOne version a b
    by (strings texts) (strings others) p q is_a is_b same = inl (is_a ∙ ap (λ ts. answer_bytes version w (strings ts)) (one_list T texts others p q) ∙ sym is_b)
    by more more p q is_a is_b same = inl (is_a ∙ sym is_b)
    by (loop before round after) (loop before2 round2 after2) p q is_a is_b same =
        inr (inr (w, record { before = before; round = round; after = after; is = is_a }, record { before = before2; round = round2; after = after2; is = is_b }))
    by (strings texts) more p q is_a is_b same = absurd same
    by (strings texts) (loop before round after) p q is_a is_b same = absurd same
    by more (strings texts) p q is_a is_b same = absurd same
    by more (loop before round after) p q is_a is_b same = absurd same
    by (loop before round after) (strings texts) p q is_a is_b same = absurd same
    by (loop before round after) more p q is_a is_b same = absurd same

module _ (text : List ℕ) (version : ℕ) where
  word_replies : (w a b : List ℕ) → RepliesToWordBySaved text version w a → RepliesToWordBySaved text version w b → AreOne version a b
  word_replies w a b (no_memory is) q = inr (inl (inl is))
  word_replies w a b p (no_memory is) = inr (inl (inr is))
  word_replies w a b (no_symbol at e is) (no_symbol at2 e2 is2) =
      inl (is ∙ ap (λ n. headed version (codes "symbol " ++ decimal n ++ 32 ∷ w)) (same_err (cut (symbols_in text) w) at at2 e e2) ∙ sym is2)
  word_replies w a b (no_symbol at e is) (answered symbols found e2 answers is2) = absurd (apart (cut (symbols_in text) w) symbols at e2 e)
  word_replies w a b (answered symbols found e answers is) (no_symbol at e2 is2) = absurd (apart (cut (symbols_in text) w) symbols at e e2)
  word_replies w a b (answered symbols found e answers is) (answered symbols2 found2 e2 answers2 is2) =
      let same = same_ok (cut (symbols_in text) w) symbols symbols2 e e2 in
      same_answer (TextsAbove text symbols) version w a b found found2 answers (subst (λ ss. Answers (TextsAbove text ss) found2) (sym same) answers2) is is2

pub replies : (text : List ℕ) (version : ℕ) (line : Option (List ℕ)) (a b : List ℕ) → RepliesBySaved text version line a → RepliesBySaved text version line b → AreOne version a b
replies text version None a b (long is) (long is2) = inl (is ∙ sym is2)
replies text version (Some line) a b (no_word none is) (no_word none2 is2) = inl (is ∙ sym is2)
replies text version (Some line) a b (no_word none is) (word well is2) = absurd (none well)
replies text version (Some line) a b (word well is) (no_word none is2) = absurd (none well)
replies text version (Some line) a b (word well is) (word well2 is2) = word_replies text version (word_of line) a b is is2
