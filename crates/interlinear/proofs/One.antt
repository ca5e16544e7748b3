-- Lawful replies to one line of text are the same, but for want of memory.
use Rattle.std.proofs.Common.{◌≡◌, ◌⊎◌, ℕ, List, [], ◌∷◌, map, All, Option, None, Some, Result, Ok, Err, refl, sym, ap, subst, ◌∙◌, inl, inr}
use Rattle.std.proofs.lemmas.List.Elements.{All-head, All-tail}
use Rattle.fsm_base.specs.Cut.{cut}
use Rattle.word_relations.specs.Answers.{Found, strings, more, loop, Answers}
use Rattle.lookup_answers.specs.OneKind.{IsSameKind}
use Rattle.lookup_answers.specs.declared.direction.Direction.TheVariants.{Up}
use Rattle.lookup_answers.proofs.AnswerKinds.{same_kind}
use Rattle.lookup_answers.proofs.OneList.{one_list}
use Rattle.project_meaning.specs.Projects.{Project}
use Rattle.reply_meaning.specs.OneReply.{IsMemory}
use Rattle.reply_meaning.specs.Replies.{Related, word_of}
use Rattle.interlinear.specs.Blocks.{block_of}
use Rattle.interlinear.specs.Glosses.{Entry}
use Rattle.interlinear.specs.Replies.{GlossesLine, GlossesText, IsCell, analysis_of, gloss_in, glossed_line, in_block, long, looked_up, no_memory, no_net, no_symbol, no_text}
use Rattle.interlinear.specs.declared.columns.Cell.{Cell}

same_ok : {A B : Type 0} (r : Result A B) (x y : A) → r ≡ Ok x → r ≡ Ok y → x ≡ y
same_ok r x y e f = let is : Ok x ≡ Ok y = sym e ∙ f in cc

apart : {A B : Type 0} (r : Result A B) (x : A) (y : B) → r ≡ Ok x → r ≡ Err y → ⊥
apart r x y e f = let is : Ok x ≡ Err y = sym e ∙ f in cc

-- what is found of one word
module _ (entries : List Entry) (T : List ℕ → Type 0) where
  abbrev Alike : Found → Found → Type 0
  Alike f g = (analysis_of f ≡ analysis_of g) × (gloss_in entries f ≡ gloss_in entries g)

  alike : (f g : Found) → Answers T f → Answers T g → IsSameKind f g → Alike f g
  alike (strings texts) (strings others) p q same =
      let one = one_list T texts others p q in (ap (λ ts. analysis_of (strings ts)) one, ap (λ ts. gloss_in entries (strings ts)) one)
  alike more more p q same = (refl, refl)
  alike (loop before round after) (loop before2 round2 after2) p q same = (refl, refl)
  alike (strings texts) more p q same = absurd same
  alike (strings texts) (loop before round after) p q same = absurd same
  alike more (strings texts) p q same = absurd same
  alike more (loop before round after) p q same = absurd same
  alike (loop before round after) (strings texts) p q same = absurd same
  alike (loop before round after) more p q same = absurd same

module _ (project : Project) (entries : List Entry) (net : List ℕ) where
  same_cell : (c d : Cell) → c.word ≡ d.word → IsCell project entries net c → IsCell project entries net d → c ≡ d
  same_cell c d same (no_symbol at e a g) (no_symbol at2 e2 a2 g2) =
      let analyses : c.analysis ≡ d.analysis = a ∙ sym a2 in
      let glosses : c.gloss ≡ d.gloss = g ∙ sym g2 in
      λ i. record { word = same i; analysis = analyses i; gloss = glosses i }
  same_cell c d same (no_symbol at e a g) (looked_up symbols found e2 answers a2 g2) = absurd (apart (cut project.alphabet c.word) symbols at (ap (cut project.alphabet) same ∙ e2) e)
  same_cell c d same (looked_up symbols found e answers a g) (no_symbol at e2 a2 g2) = absurd (apart (cut project.alphabet c.word) symbols at e (ap (cut project.alphabet) same ∙ e2))
  same_cell c d same (looked_up symbols found e answers a g) (looked_up symbols2 found2 e2 answers2 a2 g2) =
      let one = same_ok (cut project.alphabet c.word) symbols symbols2 e (ap (cut project.alphabet) same ∙ e2) in
      let also = subst (λ ss. Answers (Related project Up net ss) found2) (sym one) answers2 in
      let are = alike entries (Related project Up net symbols) found found2 answers also (same_kind (Related project Up net symbols) found found2 answers also) in
      let analyses : c.analysis ≡ d.analysis = a ∙ are.0 ∙ sym a2 in
      let glosses : c.gloss ≡ d.gloss = g ∙ are.1 ∙ sym g2 in
      λ i. record { word = same i; analysis = analyses i; gloss = glosses i }

  abbrev Lawful : List Cell → Type 0
  Lawful cells = All (IsCell project entries net) cells

  abbrev word_in : Cell → List ℕ
  word_in c = c.word

  same_cells : (cells others : List Cell) → map word_in cells ≡ map word_in others → Lawful cells → Lawful others → cells ≡ others
  same_cells [] [] same p q = refl
  same_cells [] (d ∷ others) same p q = let clash : [] ≡ d.word ∷ map word_in others = same in cc
  same_cells (c ∷ cells) [] same p q = let clash : c.word ∷ map word_in cells ≡ [] = same in cc
  same_cells (c ∷ cells) (d ∷ others) same p q =
      let both : c.word ∷ map word_in cells ≡ d.word ∷ map word_in others = same in
      let words : c.word ≡ d.word = cc in
      let rest : map word_in cells ≡ map word_in others = cc in
      let here = same_cell c d words (All-head (IsCell project entries net) c cells p) (All-head (IsCell project entries net) d others q) in
      let later = same_cells cells others rest (All-tail (IsCell project entries net) c cells p) (All-tail (IsCell project entries net) d others q) in
      ap (λ z. z ∷ cells) here ∙ ap (λ z. d ∷ z) later

  abbrev AreOne : ℕ → List ℕ → List ℕ → Type 0
  AreOne version a b = (a ≡ b) ⊎ (IsMemory version a ⊎ IsMemory version b)

  module _ (version : ℕ) where
    same_text : (text a b : List ℕ) → GlossesText project entries version net text a → GlossesText project entries version net text b → AreOne version a b
    same_text text a b (no_memory is) q = inr (inl is)
    same_text text a b p (no_memory is) = inr (inr is)
    same_text text a b (no_net none is) (no_net none2 is2) = inl (is ∙ sym is2)
    same_text text a b (no_net none is) (in_block cells defined are is2) = absurd (none defined)
    same_text text a b (in_block cells defined are is) (no_net none is2) = absurd (none defined)
    same_text text a b (in_block cells defined are is) (in_block others defined2 also is2) =
        inl (is ∙ ap (block_of version) (same_cells cells others (are.words_are ∙ sym also.words_are) are.each also.each) ∙ sym is2)

    same_line : (line : Option (List ℕ)) (a b : List ℕ) → GlossesLine project entries version net line a → GlossesLine project entries version net line b → AreOne version a b
    same_line None a b (long is) (long is2) = inl (is ∙ sym is2)
    same_line (Some line) a b (no_text none is) (no_text none2 is2) = inl (is ∙ sym is2)
    same_line (Some line) a b (no_text none is) (glossed_line well is2) = absurd (none well)
    same_line (Some line) a b (glossed_line well is) (no_text none is2) = absurd (none well)
    same_line (Some line) a b (glossed_line well is) (glossed_line well2 is2) = same_text (word_of line) a b is is2

pub one_block : (project : Project) (entries : List Entry) (version : ℕ) (net : List ℕ) (line : Option (List ℕ)) (a b : List ℕ) → GlossesLine project entries version net line a
    → GlossesLine project entries version net line b → (a ≡ b) ⊎ (IsMemory version a ⊎ IsMemory version b)
one_block project entries version net = same_line project entries net version
