-- From the text of a line to its command or look-up.
use Rattle.std.proofs.Common.{◌≡◌, ◌≤◌, ℕ, true, false, true≢false, nat_eq, List, length, codes, Option, Some, None, MatchOption, Result, Ok, Err, MatchResult, Bor, refl, sym, subst, ◌∙◌}
use Rattle.std.specs.Cmp.Lexicographic.{pointwise}
use Rattle.std.specs.Result.{result_ok}
use Rattle.std.specs.Str.{IsUtf8}
use Rattle.std.proofs.lemmas.Slice.Eq.{bytes_eq-Decides}
use Rattle.std.proofs.lemmas.Str.{IsUtf8-from_is_utf8, is_utf8-from_IsUtf8}
use Rattle.fsm_io.specs.Lines.{most_line}
use Rattle.reply_meaning.specs.Replies.{without_return}
use Rattle.edit_script.specs.Commands.{HasNoSpace, IsAlone, IsText, Orders, SpellsCommand, Asks, SpellsLook, IsCommand, IsLook, HasLines, of_command, of_none, lines_behind, alone, orders, rests, asks, spaced}
use Rattle.edit_script.specs.Reading.{command_of, look_of}
use Rattle.edit_script.specs.declared.commands.EditCommand.{EditCommand}
use Rattle.edit_script.specs.declared.commands.CommandOf.{CommandOf}
use Rattle.edit_script.specs.declared.looks.Look.{Look}
use Rattle.edit_script.specs.declared.looks.Look.TheVariants as looks
use Rattle.edit_script.specs.declared.looks.LookOf.{LookOf}
use Rattle.edit_script.proofs.Splits.{one_split, no_split, spelled_out}
use Rattle.edit_script.proofs.Unique.{alone_word, ordered_word, asked_word}

-- the text of a line
pub text_read : {X : Type 0} (line bytes : List ℕ) (r : Result (Bor (List ℕ)) X) (Q : X → Type 0) → length line ≤ most_line → bytes ≡ without_return line
    → MatchResult r (λ s. (s.now ≡ bytes) × IsUtf8 bytes) (λ e. ¬ (IsUtf8 bytes) × Q e) → MatchOption (result_ok r) (IsText line → ⊥) (λ text. IsText line × (text.now ≡ without_return line))
text_read {X} line bytes (Ok s) Q short is h = (record { short = short; word = is_utf8-from_IsUtf8 _ (subst IsUtf8 is h.1) }, h.0 ∙ is)
text_read {X} line bytes (Err e) Q short is h = λ text. h.0 (subst IsUtf8 (sym is) (IsUtf8-from_is_utf8 _ text.word))

pub same_text : (text word : List ℕ) → pointwise nat_eq text word ≡ true → text ≡ word
same_text text word h = (bytes_eq-Decides text word).0 h

pub other_text : (text word : List ℕ) → pointwise nat_eq text word ≡ false → text ≡ word → ⊥
other_text text word h same = let clash = sym ((bytes_eq-Decides text word).1 same) ∙ h in true≢false clash

-- how many lines follow
pub lines_of_command : (line : List ℕ) (parts : CommandOf) (n : ℕ) → IsCommand line (command_of parts) → n ≡ lines_behind (command_of parts) → HasLines line n
lines_of_command line parts n is h = of_command (command_of parts) is h

pub lines_of_none : (line : List ℕ) → ((c : EditCommand) → IsCommand line c → ⊥) → HasLines line 0
lines_of_none line none = of_none none refl

module _ (line text : List ℕ) (is_text : IsText line) (is : text ≡ without_return line) where
  -- a text with a space
  module _ (keyword rest : List ℕ) (no_space : HasNoSpace keyword) (words : text ≡ spaced keyword rest) where
    ordered_parts : (c : EditCommand) → SpellsCommand (without_return line) c → Orders keyword rest c
    ordered_parts c (alone x) = absurd (no_split (without_return line) keyword rest (alone_word (without_return line) c x) (sym is ∙ words))
    ordered_parts c (orders k r x h) =
        let parts = one_split k keyword r rest (ordered_word k r c h) no_space (sym x ∙ sym is ∙ words) in
        subst (λ (w : List ℕ). Orders w rest c) parts.0 (subst (λ (w : List ℕ). Orders k w c) parts.1 h)

    pub line_orders : (r : Option CommandOf) → MatchOption r ((c : EditCommand) → Orders keyword rest c → ⊥) (λ parts. Orders keyword rest (command_of parts))
        → MatchOption r ((c : EditCommand) → IsCommand line c → ⊥) (λ parts. IsCommand line (command_of parts))
    line_orders None none = λ c h. none c (ordered_parts c h.1)
    line_orders (Some parts) h = (is_text, orders keyword rest (sym is ∙ words) h)

    asked_parts : (l : Look) → SpellsLook (without_return line) l → Asks keyword rest l
    asked_parts looks.Rest (rests x) = absurd (no_split (codes "---") keyword rest (spelled_out (codes "---") refl) (sym x ∙ sym is ∙ words))
    asked_parts l (asks k r x h) =
        let parts = one_split k keyword r rest (asked_word k r l h) no_space (sym x ∙ sym is ∙ words) in
        subst (λ (w : List ℕ). Asks w rest l) parts.0 (subst (λ (w : List ℕ). Asks k w l) parts.1 h)

    pub line_asks : (r : Option LookOf) → MatchOption r ((l : Look) → Asks keyword rest l → ⊥) (λ parts. Asks keyword rest (look_of parts))
        → MatchOption r ((l : Look) → IsLook line l → ⊥) (λ parts. IsLook line (look_of parts))
    line_asks None none = λ l h. none l (asked_parts l h.1)
    line_asks (Some parts) h = (is_text, asks keyword rest (sym is ∙ words) h)

  -- a text without one
  module _ (no_space : HasNoSpace text) where
    alone_part : (c : EditCommand) → SpellsCommand (without_return line) c → IsAlone text c
    alone_part c (alone x) = subst (λ (w : List ℕ). IsAlone w c) (sym is) x
    alone_part c (orders k r x h) = absurd (no_split text k r no_space (is ∙ x))

    pub line_alone : (r : Option CommandOf) → MatchOption r ((c : EditCommand) → IsAlone text c → ⊥) (λ parts. IsAlone text (command_of parts))
        → MatchOption r ((c : EditCommand) → IsCommand line c → ⊥) (λ parts. IsCommand line (command_of parts))
    line_alone None none = λ c h. none c (alone_part c h.1)
    line_alone (Some parts) h = (is_text, alone (subst (λ (w : List ℕ). IsAlone w (command_of parts)) is h))

    pub no_look : (text ≡ codes "---" → ⊥) → (l : Look) → IsLook line l → ⊥
    no_look other l h = by l h.1
      where
        by : (l : Look) → SpellsLook (without_return line) l → ⊥
        by looks.Rest (rests x) = other (is ∙ x)
        by l (asks k r x h) = no_split text k r no_space (is ∙ x)

  pub is_rest : text ≡ codes "---" → IsLook line looks.Rest
  is_rest x = (is_text, rests (sym is ∙ x))
