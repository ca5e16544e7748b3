-- Lawful replies to one line of a lane.
use Rattle.std.proofs.Common.{◌≡◌, ◌<◌, ◌+◌, ◌⊎◌, ℕ, List, [], ◌∷◌, ◌++◌, Option, None, Some, length, get_or, drop, true, inl, inr, arith, refl, ap, sym, subst, ◌∙◌, append_assoc, length-append}
use Rattle.std.specs.Str.{IsUtf8, is_utf8}
use Rattle.std.proofs.lemmas.List.{drop_at, get_or_at}
use Rattle.std.proofs.lemmas.Str.{IsCharBoundary-after_ascii, IsUtf8-drop, IsUtf8-from_is_utf8, IsUtf8-nil, is_utf8-from_IsUtf8}
use Rattle.fsm_base.specs.Normal.{nfc_of}
use Rattle.edit_script.specs.Commands.{Asks, IsLook, IsNetAndWord, SpellsLook, asks, rests, spaced}
use Rattle.edit_script.specs.declared.looks.Look.{Look}
use Rattle.edit_script.specs.declared.looks.Look.TheVariants as looks
use Rattle.edit_script.proofs.Unique.{one_look}
use Rattle.interlinear.specs.Glosses.{Entry}
use Rattle.interlinear.specs.Replies.{GlossesText, glossed_line}
use Rattle.interlinear.proofs.One.{one_block}
use Rattle.lookup_answers.specs.declared.direction.Direction.TheVariants.{Up, Down}
use Rattle.project_meaning.specs.Projects.{Project}
use Rattle.project_sources.specs.Edits.{Version}
use Rattle.project_sources.specs.Laws.{all_readers}
use Rattle.project_sources.proofs.Glossing.{one_table}
use Rattle.project_sources.proofs.Once.{all_exact}
use Rattle.reply_meaning.specs.OneReply.{IsMemory}
use Rattle.reply_meaning.specs.Replies.{IsWord, without_return}
use Rattle.reply_meaning.proofs.Replies.{word_replies}
use Rattle.project_versions.specs.Laws.{AsksFor, MayDiffer}
use Rattle.project_versions.specs.Looks.{RepliesToAsked, RepliesToLook, asked, long, no_look}

-- what stands behind a space is text
behind_space : (text front rest : List ℕ) → IsUtf8 text → text ≡ spaced front rest → IsUtf8 rest
behind_space text front rest utf8 is =
    let total : length text ≡ length front + length (32 ∷ rest) = ap length is ∙ length-append front (32 ∷ rest) in
    let within : length front < length text = omega arith in
    let byte : get_or text (length front) 0 ≡ 32 = ap (λ t. get_or t (length front) 0) is ∙ get_or_at front 32 rest 0 (length front) refl in
    let small : get_or text (length front) 0 < 128 = omega (arith, byte) in
    let cut : drop (length front + 1) text ≡ rest = ap (drop (length front + 1)) (is ∙ sym (append_assoc front (32 ∷ []) rest)) ∙ drop_at (front ++ 32 ∷ []) rest (length front + 1) (length-append front (32 ∷ [])) in
    subst IsUtf8 cut (IsUtf8-drop text (length front + 1) utf8 (IsCharBoundary-after_ascii text (length front) utf8 within small))

-- the word, or the text that is glossed, is text
behind_net : (net word rest : List ℕ) → IsUtf8 rest → IsNetAndWord net word rest → IsUtf8 word
behind_net net word rest utf8 h = by h.words
  where
    by : ((rest ≡ spaced net word) ⊎ ((word ≡ []) × (rest ≡ net))) → IsUtf8 word
    by (inl is) = behind_space rest net word utf8 is
    by (inr is) = subst IsUtf8 (sym is.0) IsUtf8-nil

abbrev AsksForText : Look → Type 0
AsksForText (looks.Up net word) = IsUtf8 word
AsksForText (looks.Down net word) = IsUtf8 word
AsksForText (looks.Gloss net text) = IsUtf8 text
AsksForText looks.Rest = Unit {0}

asks_text : (keyword rest : List ℕ) (look : Look) → IsUtf8 rest → Asks keyword rest look → AsksForText look
asks_text keyword rest (looks.Up net word) utf8 h = behind_net net word rest utf8 h.1
asks_text keyword rest (looks.Down net word) utf8 h = behind_net net word rest utf8 h.1
asks_text keyword rest (looks.Gloss net text) utf8 h = behind_net net text rest utf8 h.1
asks_text keyword rest looks.Rest utf8 h = tt

spells_text : (text : List ℕ) (look : Look) → IsUtf8 text → SpellsLook text look → AsksForText look
spells_text text looks.Rest utf8 (rests is) = tt
spells_text text look utf8 (asks keyword rest is h) = asks_text keyword rest look (behind_space text keyword rest utf8 is) h

-- a word stands in a line of its own
returned : (word : List ℕ) → without_return (word ++ 13 ∷ []) ≡ word
returned [] = refl
returned (b ∷ []) = refl
returned (b ∷ c ∷ word) = ap (λ w. b ∷ w) (returned (c ∷ word))

is_word : (word : List ℕ) → IsUtf8 word → IsWord (word ++ 13 ∷ [])
is_word word utf8 = subst (λ w. is_utf8 w ≡ true) (sym (returned word)) (is_utf8-from_IsUtf8 word utf8)

one_text : (project : Project) (table : List Entry) (version : ℕ) (net text a b : List ℕ) → IsUtf8 text → GlossesText project table version net (nfc_of text) a → GlossesText project table version net (nfc_of text) b
    → (a ≡ b) ⊎ (IsMemory version a ⊎ IsMemory version b)
one_text project table version net text a b utf8 p q =
    let own = sym (ap nfc_of (returned text)) in
    let is = is_word text utf8 in
    one_block project table version net (Some (text ++ 13 ∷ [])) a b (glossed_line is (subst (λ w. GlossesText project table version net w a) own p)) (glossed_line is (subst (λ w. GlossesText project table version net w b) own q))

module _ (version : Version) (a b : List ℕ) where
  one_asked : (table : List Entry) (look : Look) → AsksForText look → RepliesToAsked version table look a → RepliesToAsked version table look b → (a ≡ b) ⊎ MayDiffer version.number look a b
  one_asked table (looks.Up net word) utf8 p q = word_replies version.project Up version.number (nfc_of net) (nfc_of word) a b p q
  one_asked table (looks.Down net word) utf8 p q = word_replies version.project Down version.number (nfc_of net) (nfc_of word) a b p q
  one_asked table (looks.Gloss net text) utf8 p q = one_text version.project table version.number (nfc_of net) text a b utf8 p q
  one_asked table looks.Rest utf8 p q = inl (p ∙ sym q)

  of_line : (line : List ℕ) (look : Look) → IsLook line look → ((a ≡ b) ⊎ MayDiffer version.number look a b) → (a ≡ b) ⊎ ((look : Look) × AsksFor (Some line) look × MayDiffer version.number look a b)
  of_line line look is (inl same) = inl same
  of_line line look is (inr differ) = inr (look, is, differ)

pub one_reply : (version : Version) (line : Option (List ℕ)) (a b : List ℕ) → RepliesToLook version line a → RepliesToLook version line b → (a ≡ b) ⊎ ((look : Look) × AsksFor line look × MayDiffer version.number look a b)
one_reply version None a b (long is) (long is2) = inl (is ∙ sym is2)
one_reply version (Some line) a b (no_look none is) (no_look none2 is2) = inl (is ∙ sym is2)
one_reply version (Some line) a b (no_look none is) (asked look table asks_it has told) = absurd (none look asks_it)
one_reply version (Some line) a b (asked look table asks_it has told) (no_look none is) = absurd (none look asks_it)
one_reply version (Some line) a b (asked look table asks_it has told) (asked other glosses asks_too also told2) =
    let same_look : other ≡ look = one_look line other look asks_too asks_it in
    let same_table : glosses ≡ table = one_table all_readers all_exact version.files glosses table also has in
    let here : RepliesToAsked version glosses look b = subst (λ (l : Look). RepliesToAsked version glosses l b) same_look told2 in
    let there : RepliesToAsked version table look b = subst (λ (t : List Entry). RepliesToAsked version t look b) same_table here in
    let utf8 = spells_text (without_return line) look (IsUtf8-from_is_utf8 (without_return line) asks_it.0.word) asks_it.1 in
    of_line version a b line look asks_it (one_asked version a b table look utf8 told there)
