-- The symbols of single bytes in a table: one more, and that such a letter is what the table says.
use Rattle.std.proofs.Common.{◌≡◌, ℕ, ◌<◌, ◌==◌, ◌⊎◌, inl, inr, false, refl, List, [], ◌∷◌, Option, Some, get_or, length, set, slice_get, sym, ap, arith, ◌∙◌}
use Rattle.std.proofs.lemmas.Bool.{cases_lt}
use Rattle.std.proofs.lemmas.List.{length-set}
use Rattle.std.proofs.lemmas.Option.{same_Some, slice_get_within}
use Rattle.fsm_base.specs.Symbols.{number_of}
use Rattle.fsm_base.specs.declared.letters.Sym.{Sym as Symbol}
use Rattle.name_resolution.specs.Bytes.{AreOfBytes}
use Rattle.name_resolution.proofs.GrammarLeaves.{letter_with_text}
use Rattle.name_resolution.specs.Resolved.{letter_of}
use Rattle.project_meaning.specs.Leaves.{written}
use Rattle.regex_ast.specs.declared.expr.Atom.TheVariants.{Sym}
use Rattle.regex_ast.specs.declared.expr.Raw.{Raw}
use Rattle.word_relations.proofs.Places.{slice_get-set_other, slice_get-set_same}

one_byte : (text : List ℕ) → length text ≡ 1 → text ≡ get_or text 0 0 ∷ []
one_byte [] one = absurd (omega arith)
one_byte (x ∷ []) one = refl
one_byte (x ∷ y ∷ rest) one = absurd (omega arith)

-- what stands at a place where one place was set
put_cases : (old : List (Option Symbol)) (k : ℕ) (own : Symbol) (byte : ℕ) (symbol : Symbol) → slice_get (set old k (Some own)) byte ≡ Some (Some symbol)
    → (slice_get old byte ≡ Some (Some symbol)) ⊎ ((byte ≡ k) × (own ≡ symbol))
put_cases old k own byte symbol at = elim (cases_lt byte k) as (λ _. (slice_get old byte ≡ Some (Some symbol)) ⊎ ((byte ≡ k) × (own ≡ symbol))) [
  | inl l ↦ inl (sym (slice_get-set_other old k byte (Some own) (λ e. omega arith)) ∙ at)
  | inr le ↦ elim (cases_lt k byte) as (λ _. (slice_get old byte ≡ Some (Some symbol)) ⊎ ((byte ≡ k) × (own ≡ symbol))) [
    | inl l ↦ inl (sym (slice_get-set_other old k byte (Some own) (λ e. omega arith)) ∙ at)
    | inr ge ↦
        let e : byte ≡ k = omega arith in
        let inside : k < length old = omega (arith, slice_get_within (set old k (Some own)) byte (Some symbol) at, length-set old k (Some own)) in
        let there : slice_get (set old k (Some own)) k ≡ Some (Some own) = slice_get-set_same old k (Some own) inside in
        let same : Some own ≡ Some symbol = same_Some (Some own) (Some symbol) (sym there ∙ ap (slice_get (set old k (Some own))) (sym e) ∙ at) in
        inr (e, same_Some own symbol same)
  ]
]

pub put_more : (table : List (List ℕ)) (old : List (Option Symbol)) (text bytes : List ℕ) (k : ℕ) (own : Symbol) → bytes ≡ text → length bytes ≡ 1 → k ≡ get_or bytes 0 0 → own.0 ≡ number_of text table → AreOfBytes table old
    → AreOfBytes table (set old k (Some own))
put_more table old text bytes k own same one first number are byte symbol at =
    elim (put_cases old k own byte symbol at) as (λ _. symbol.0 ≡ number_of (byte ∷ []) table) [
      | inl was ↦ are byte symbol was
      | inr (e, is) ↦
          let whole : text ≡ byte ∷ [] = sym same ∙ one_byte bytes one ∙ ap (λ (n : ℕ). n ∷ []) (sym first ∙ sym e) in
          ap (λ (s : Symbol). s.0) (sym is) ∙ number ∙ ap (λ (t : List ℕ). number_of t table) whole
    ]

pub byte_letter : (names table : List (List ℕ)) (leaf : Raw) (symbols : List (Option Symbol)) (text : List ℕ) (symbol : Symbol) → AreOfBytes table symbols → text ≡ written leaf
    → (byte : ℕ) × (text ≡ byte ∷ []) × (slice_get symbols byte ≡ Some (Some symbol)) → Sym symbol ≡ letter_of names table leaf
byte_letter names table leaf symbols text symbol are is (byte, one, at) =
    let whole : written leaf ≡ byte ∷ [] = sym is ∙ one in
    let some : (length (written leaf) == 0) ≡ false = ap (λ (t : List ℕ). length t == 0) whole in
    ap (λ (n : ℕ). Sym (record { 0 = n })) (are byte symbol at ∙ ap (λ (t : List ℕ). number_of t table) (sym whole)) ∙ letter_with_text names leaf table some
