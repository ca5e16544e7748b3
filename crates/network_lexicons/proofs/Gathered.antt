-- Entries and lexicons, given one after another while flags are added.
use Rattle.std.proofs.Common.{◌≡◌, ℕ, zero, suc, ◌+◌, ◌<◌, ◌≤◌, ◌⊎◌, List, [], ◌∷◌, ◌++◌, Option, None, Some, All, length, map, take, get_or, refl, sym, ap, subst, inl, inr, arith, append-nil, append_assoc, ◌∙◌}
use Rattle.std.specs.List.{Contains, slice_get}
use Rattle.std.specs.Option.{option_map}
use Rattle.std.proofs.lemmas.List.{length-map, take_all}
use Rattle.std.proofs.lemmas.List.Elements.{All-contains, Contains-append_cases, Contains-append_left, Contains-append_right, Contains-push, Contains-push_cases}
use Rattle.std.proofs.lemmas.Option.{same_Some, slice_get-get_or, slice_get-map, slice_get_within}
use Rattle.word_relations.proofs.Members.{Contains-nil_cases}
use Rattle.word_relations.proofs.Places.{Contains-from_slice_get, take_more-slice_get, slice_get-append_left, slice_get-append_cases, slice_get-push}
use Rattle.fsm_base.specs.declared.letters.Sym.{Sym}
use Rattle.regex_ast.specs.declared.expr.Atom.{Atom}
use Rattle.regex_ast.specs.declared.lexc.FlagOp.{FlagOp}
use Rattle.project_meaning.specs.Trees.{Form, Entry, Lexicon}
use Rattle.flag_diacritics.specs.Numbers.{Keeps}
use Rattle.lexc_compile.specs.Blocks.{IsThere}
use Rattle.lexc_compile.specs.Growing.{Growing, IsBegun, IsGiven}
use Rattle.lexc_compile.specs.Paths.{Content, PlacedEntry}
use Rattle.network_expr.specs.declared.parts.Part.{Part}
use Rattle.network_lexicons.specs.Entries.{HasSidesOf, IsPlaceOf, IsEntryFor, AreEntriesFor, AreLexiconsFor, GivesAll, GivesForm}
use Rattle.network_lexicons.proofs.Sided.{keeps_more}

-- what a list of mapped values has at the place of a loop
module _ {X Y : Type 0} (f : X → Y) (all : List X) (i : ℕ) (x : X) (within : i < length all) (is : x ≡ get_or all i x) where
  at_place : slice_get (map f all) i ≡ Some (f x)
  at_place = slice_get-map f all i ∙ ap (option_map f) (slice_get-get_or all i x within ∙ ap Some (sym is))

  pub mapped_more : take (i + 1) (map f all) ≡ take i (map f all) ++ f x ∷ []
  mapped_more = take_more-slice_get (map f all) i (f x) at_place

  pub mapped_holds : (P : Y → Type 0) → All P (map f all) → P (f x)
  mapped_holds P holds = All-contains P (map f all) (f x) holds (Contains-from_slice_get (map f all) i (f x) at_place)

pub mapped_all : {X Y : Type 0} (f : X → Y) (all : List X) (i : ℕ) → length all ≤ i → take i (map f all) ≡ map f all
mapped_all f all i past = let same = length-map all f in take_all i (map f all) (omega arith)

module _ (parts : List Part) (alphabet : List Sym) (names : List (List ℕ)) where
  -- nothing changes where flags are added
  module _ (flags more : List FlagOp) (keeps : Keeps flags more) where
    sides_kept : (form : Form Atom) (content : Content) → HasSidesOf parts alphabet flags form content → HasSidesOf parts alphabet more form content
    sides_kept form content is all kept = is all (keeps_more flags more all keeps kept)

    entry_kept : (entry : Entry Atom) (g : PlacedEntry) → IsEntryFor parts alphabet names flags entry g → IsEntryFor parts alphabet names more entry g
    entry_kept entry g is = record { symbols = is.symbols; sides = sides_kept entry.form g.content is.sides; next = is.next }

    entries_kept : (place : ℕ) (entries : List (Entry Atom)) (given : List PlacedEntry) → AreEntriesFor parts alphabet names flags place entries given → AreEntriesFor parts alphabet names more place entries given
    entries_kept place entries given are = record {
      only = λ g held. let r = are.only g held in (r.0, (r.1.0, r.1.1, entry_kept r.1.0 g r.1.2));
      all = λ entry next held at. let r = are.all entry next held at in (r.0, r.1, r.2, entry_kept entry r.0 r.3);
    }

    lexicons_kept : (lexicons : List (Lexicon Atom)) (given : List PlacedEntry) → AreLexiconsFor parts alphabet names flags lexicons given → AreLexiconsFor parts alphabet names more lexicons given
    lexicons_kept lexicons given are = record {
      only = λ g held. let r = are.only g held in (r.0, r.1, r.2, r.3, entry_kept r.1 g r.4);
      all = λ k lexicon entry next at held goes. let r = are.all k lexicon entry next at held goes in (r.0, r.1, r.2, entry_kept entry r.0 r.3);
    }

  module _ (place : ℕ) where
    entries_none : (flags : List FlagOp) → AreEntriesFor parts alphabet names flags place [] []
    entries_none flags = record { only = λ g held. absurd (Contains-nil_cases g held); all = λ entry next held at. absurd (Contains-nil_cases entry held) }

    module _ (flags : List FlagOp) (entries : List (Entry Atom)) (given : List PlacedEntry) (before : AreEntriesFor parts alphabet names flags place entries given) (entry : Entry Atom) where
      entries_more : (more : List FlagOp) (g : PlacedEntry) → Keeps flags more → g.place ≡ place → IsEntryFor parts alphabet names more entry g
          → AreEntriesFor parts alphabet names more place (entries ++ entry ∷ []) (given ++ g ∷ [])
      entries_more more g keeps here is =
          let kept = entries_kept flags more keeps place entries given before in
          record {
            only = λ f held. elim (Contains-push_cases given g f held) [
              | inl old ↦ let r = kept.only f old in (r.0, (r.1.0, Contains-append_left entries (entry ∷ []) r.1.0 r.1.1, r.1.2))
              | inr same ↦ subst (λ (d : PlacedEntry). (d.place ≡ place) × ((e : Entry Atom) × Contains (entries ++ entry ∷ []) e × IsEntryFor parts alphabet names more e d)) same (here, (entry, Contains-push entries entry, is))
            ];
            all = λ e next held at. elim (Contains-push_cases entries entry e held) [
              | inl old ↦ let r = kept.all e next old at in (r.0, Contains-append_left given (g ∷ []) r.0 r.1, r.2, r.3)
              | inr same ↦ (g, Contains-push given g, here, subst (λ (d : Entry Atom). IsEntryFor parts alphabet names more d g) same is)
            ];
          }

      entries_past : ((next : Option ℕ) → IsPlaceOf names entry.next next → ⊥) → AreEntriesFor parts alphabet names flags place (entries ++ entry ∷ []) given
      entries_past missing = record {
        only = λ f held. let r = before.only f held in (r.0, (r.1.0, Contains-append_left entries (entry ∷ []) r.1.0 r.1.1, r.1.2));
        all = λ e next held at. elim (Contains-push_cases entries entry e held) [
          | inl old ↦ before.all e next old at
          | inr same ↦ absurd (missing next (subst (λ (d : Entry Atom). IsPlaceOf names d.next next) (sym same) at))
        ];
      }

    -- the entries so far are given, and flags were only added
    pub record HasGiven (before flags : List FlagOp) (entries : List (Entry Atom)) (old new : Growing) : Type 0 where
      pub kept : Keeps before flags
      pub given : GivesAll (AreEntriesFor parts alphabet names flags place entries) old new

    pub given_none : (flags : List FlagOp) (old : Growing) → HasGiven flags flags [] old old
    given_none flags old = record {
      kept = λ k f at. at;
      given = (refl, λ root before is. ([], entries_none flags, subst (λ gs. IsGiven root gs old) (sym (append-nil before)) is));
    }

    module _ (before flags : List FlagOp) (entries new : List (Entry Atom)) (old now : Growing) (has : HasGiven before flags entries old now) (entry : Entry Atom) (is : new ≡ entries ++ entry ∷ []) where
      pub given_more : (more : List FlagOp) (next : Option ℕ) (then : Growing) → Keeps flags more → IsPlaceOf names entry.next next → GivesForm parts alphabet more place entry.form next now then
          → HasGiven before more new old then
      given_more more next then keeps goes (content, symbols, sides, gives) =
          let g : PlacedEntry = record { place = place; content = content; next = next } in
          let is_for : IsEntryFor parts alphabet names more entry g = record { symbols = symbols; sides = sides; next = goes } in
          record {
            kept = keeps_more before flags more has.kept keeps;
            given = (
              gives.0 ∙ has.given.0,
              λ root begin is_begun.
                  let r = has.given.1 root begin is_begun in
                  let all = gives.1 root (begin ++ r.0) r.2 in (
                    r.0 ++ g ∷ [],
                    subst (λ es. AreEntriesFor parts alphabet names more place es (r.0 ++ g ∷ [])) (sym is) (entries_more flags entries r.0 r.1 entry more g keeps refl is_for),
                    subst (λ gs. IsGiven root gs then) (append_assoc begin r.0 (g ∷ [])) all,
                  ),
            );
          }

      pub given_past : ((next : Option ℕ) → IsPlaceOf names entry.next next → ⊥) → HasGiven before flags new old now
      given_past missing = record {
        kept = has.kept;
        given = (
          has.given.0,
          λ root begin is_begun.
              let r = has.given.1 root begin is_begun in
              (r.0, subst (λ es. AreEntriesFor parts alphabet names flags place es r.0) (sym is) (entries_past flags entries r.0 r.1 entry missing), r.2),
        );
      }

  -- the lexicons so far are given, and flags were only added
  pub record HasLexicons (before flags : List FlagOp) (lexicons : List (Lexicon Atom)) (old new : Growing) : Type 0 where
    pub kept : Keeps before flags
    pub given : GivesAll (AreLexiconsFor parts alphabet names flags lexicons) old new

  pub lexicons_none : (flags : List FlagOp) (old : Growing) → HasLexicons flags flags [] old old
  lexicons_none flags old = record {
    kept = λ k f at. at;
    given = (
      refl,
      λ root before is. (
        [],
        record { only = λ g held. absurd (Contains-nil_cases g held); all = λ k lexicon entry next at. let clash : None ≡ Some lexicon = at in cc },
        subst (λ gs. IsGiven root gs old) (sym (append-nil before)) is,
      ),
    );
  }

  module _ (flags more : List FlagOp) (keeps : Keeps flags more) (lexicons : List (Lexicon Atom)) (l : Lexicon Atom) (given others : List PlacedEntry)
      (before : AreLexiconsFor parts alphabet names flags lexicons given) (are : AreEntriesFor parts alphabet names more (length lexicons) l.entries others) where
    kept_lexicons : AreLexiconsFor parts alphabet names more lexicons given
    kept_lexicons = lexicons_kept flags more keeps lexicons given before

    -- the entry of a lexicon at a place, and of the one that comes behind the others
    at_last : (k : ℕ) (m : Lexicon Atom) → slice_get (lexicons ++ l ∷ []) k ≡ Some m → (slice_get lexicons k ≡ Some m) ⊎ ((k ≡ length lexicons) × (l ≡ m))
    at_last k m at = elim (slice_get-append_cases lexicons (l ∷ []) k m at) [ inl old ↦ inl old | inr r ↦ inr (last r.0 r.1 r.2) ]
      where
        last : (j : ℕ) → k ≡ j + length lexicons → slice_get (l ∷ []) j ≡ Some m → (k ≡ length lexicons) × (l ≡ m)
        last zero here one = (omega arith, same_Some l m one)
        last (suc j) here one = let clash : None ≡ Some m = one in cc

    lexicons_more : AreLexiconsFor parts alphabet names more (lexicons ++ l ∷ []) (given ++ others)
    lexicons_more = record {
      only = λ g held. elim (Contains-append_cases given others g held) [
        | inl old ↦
            let r = kept_lexicons.only g old in
            (r.0, r.1, slice_get-append_left lexicons (l ∷ []) g.place (slice_get_within lexicons g.place r.0 r.2) ∙ r.2, r.3, r.4)
        | inr new ↦
            let r = are.only g new in
            (l, r.1.0, ap (slice_get (lexicons ++ l ∷ [])) r.0 ∙ slice_get-push lexicons l, r.1.1, r.1.2)
      ];
      all = λ k m entry next at held goes. elim (at_last k m at) [
        | inl old ↦ let r = kept_lexicons.all k m entry next old held goes in (r.0, Contains-append_left given others r.0 r.1, r.2, r.3)
        | inr last ↦
            let r = are.all entry next (subst (λ (d : Lexicon Atom). Contains d.entries entry) (sym last.1) held) goes in
            (r.0, Contains-append_right given others r.0 r.1, r.2 ∙ sym last.0, r.3)
      ];
    }

  pub lexicons_given : (before flags more : List FlagOp) (lexicons new : List (Lexicon Atom)) (place : ℕ) (l : Lexicon Atom) (old now then : Growing)
      → HasLexicons before flags lexicons old now → place ≡ length lexicons → new ≡ lexicons ++ l ∷ [] → Keeps flags more
      → GivesAll (AreEntriesFor parts alphabet names more place l.entries) now then → HasLexicons before more new old then
  lexicons_given before flags more lexicons new place l old now then has here is keeps gives = record {
    kept = keeps_more before flags more has.kept keeps;
    given = (
      gives.0 ∙ has.given.0,
      λ root begin is_begun.
          let r = has.given.1 root begin is_begun in
          let s = gives.1 root (begin ++ r.0) r.2 in (
            r.0 ++ s.0,
            subst (λ ls. AreLexiconsFor parts alphabet names more ls (r.0 ++ s.0)) (sym is)
                (lexicons_more flags more keeps lexicons l r.0 s.0 r.1 (subst (λ p. AreEntriesFor parts alphabet names more p l.entries s.0) here s.1)),
            subst (λ gs. IsGiven root gs then) (append_assoc begin r.0 s.0) s.2,
          ),
    );
  }

-- what some entries are given to stays begun
pub still_begun : (AreRight : List PlacedEntry → Type 0) (old new : Growing) → IsBegun old → GivesAll AreRight old new → IsBegun new
still_begun AreRight old new (root, before, is) gives = let r = gives.1 root before is in (root, before ++ r.0, r.2)

-- where a path goes on is there
pub place_there : (names : List (List ℕ)) (next : Option (List ℕ)) (place : Option ℕ) (count : ℕ) → count ≡ length names → IsPlaceOf names next place → IsThere count place
place_there names None None count is goes = tt
place_there names None (Some k) count is goes = absurd goes
place_there names (Some name) None count is goes = absurd goes
place_there names (Some name) (Some k) count is goes = let within = slice_get_within names k name goes in omega arith
