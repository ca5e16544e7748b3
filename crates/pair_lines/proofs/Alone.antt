-- A text that is one atom alone, by its tokens.
use Rattle.std.proofs.Common.{◌≡◌, ◌+◌, ℕ, true, false, List, [], ◌∷◌, length, refl, sym, ap, subst, ◌∙◌, arith, append-nil, length-append}
use Rattle.std.proofs.lemmas.Bool.Decides.{nat_tests}
use Rattle.regex_tokens.specs.Bytes.{is_blank, begins_comment}
use Rattle.regex_tokens.specs.Cuts.{behind_gap, gap, newlines}
use Rattle.regex_tokens.specs.declared.comments.Comments.TheVariants.{OfEntries}
use Rattle.regex_tokens.specs.declared.token.Ending.{Ending}
use Rattle.regex_tokens.specs.declared.token.Ending.TheVariants.{Whole}
use Rattle.twolc_tokens.specs.Cuts.{Cuts, HasFlag, IsFirst}
use Rattle.twolc_tokens.specs.Spelling.{IsAtom, sides_of}
use Rattle.twolc_tokens.specs.declared.token.Placed.{Placed}
use Rattle.twolc_tokens.specs.declared.token.Token.TheVariants.{Atom as atom}
use Rattle.twolc_tokens.proofs.Atoms.{Head, atom_head, begins_atom}
use Rattle.twolc_tokens.proofs.Texts.{cuts_once}

-- no gap stands before an atom
no_gap : (b : ℕ) → begins_atom b ≡ true → (is_blank b ≡ false) × (begins_comment OfEntries b ≡ false)
no_gap b e = (grind (arith, nat_tests), grind (arith, nat_tests))

gap_first : (b : ℕ) (more : List ℕ) → is_blank b ≡ false → begins_comment OfEntries b ≡ false → (gap OfEntries (b ∷ more) ≡ []) × (behind_gap OfEntries (b ∷ more) ≡ b ∷ more)
gap_first b more blank comment = rw (blank, comment) (refl, refl)

no_gap_before : (text : List ℕ) → IsAtom text → (gap OfEntries text ≡ []) × (behind_gap OfEntries text ≡ text)
no_gap_before text is =
    let h : Head begins_atom text = atom_head text is in
    let none = no_gap h.first h.passes in
    let first = gap_first h.first h.more none.0 none.1 in (
      ap (gap OfEntries) h.spelled ∙ first.0,
      ap (behind_gap OfEntries) h.spelled ∙ first.1 ∙ sym h.spelled,
    )

abbrev here : List ℕ → Placed
here text = record { token = atom text; line = 1 }

-- it is cut so
alone_cut : (text : List ℕ) → IsAtom text → ¬ HasFlag text (sides_of text) → Cuts 1 text (here text ∷ []) Whole
alone_cut text is plain =
    let none = no_gap_before text is in
    let first : IsFirst text (atom text) text [] = record {
      longest = record {
        stands = sym (append-nil text);
        spelled = (is, refl);
        longest = λ other longer behind e spelled. (let size = ap length e in omega (arith, size, length-append longer behind));
      };
      taken = plain;
    } in (
      text,
      [],
      subst (λ (z : List ℕ). IsFirst z (atom text) text []) (sym none.1) first,
      ap (λ (z : List ℕ). 1 + newlines z) (sym none.0),
      refl,
    )

-- the tokens of a text are this atom alone where it is an atom without a flag
pub alone : (text : List ℕ) (tokens : List Placed) (ending : Ending) → Cuts 1 text tokens ending → IsAtom text → ¬ HasFlag text (sides_of text) → (tokens ≡ here text ∷ []) × (ending ≡ Whole)
alone text tokens ending cut is plain = cuts_once 1 text tokens (here text ∷ []) ending Whole cut (alone_cut text is plain)

pub alone_back : (text : List ℕ) (line : ℕ) → Cuts 1 text (record { token = atom text; line = line } ∷ []) Whole → IsAtom text × ¬ HasFlag text (sides_of text)
alone_back text line (front, rest, first, at, ended) = (subst IsAtom (sym first.longest.spelled.1) first.longest.spelled.0, first.taken)
