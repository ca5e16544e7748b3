-- Texts that are shared.
use Rattle.std.specs.Prelude.{◌≡◌, [], ◌∷◌, List, Option, All, IfSome}
use Rattle.std.specs.Str.{encode_utf8_all}
use Rattle.lexc_forms.specs.Letters.{text_of}
use Rattle.lexc_forms.specs.declared.sharing.KnownCharacter.{KnownCharacter}
use Rattle.lexc_forms.specs.declared.sharing.KnownWord.{KnownWord}

-- the text is that of its character, where there is one
abbrev pub IsText : Option KnownCharacter → Type 0
IsText place = IfSome place (λ known. known.text ≡ encode_utf8_all (known.character ∷ []))

abbrev pub AreTexts : List (Option KnownCharacter) → Type 0
AreTexts places = All IsText places

-- the text is that of its word, where there is one
abbrev pub IsTextOfWord : Option KnownWord → Type 0
IsTextOfWord word = IfSome word (λ known. known.text ≡ text_of known.letters.items)
