-- A network that was read from a text, over the alphabet of all symbols of its table.
use Rattle.std.proofs.Common.{◌≡◌, ◌<◌, ℕ, List, [], ◌∷◌, length, Contains, refl, sym, ap, subst, ◌∙◌, inl, inr}
use Rattle.std.specs.List.{AllZip}
use Rattle.std.proofs.lemmas.Option.{same_Some, slice_get_within}
use Rattle.word_relations.proofs.Members.{Contains-head, Contains-tail}
use Rattle.fsm_base.specs.declared.letters.Sym.{Sym}
use Rattle.fsm_base.specs.declared.letters.Pair.{Pair}
use Rattle.fsm_base.specs.Alphabet.{IsAlphabet, listed, spelled, text_of}
use Rattle.fsm_base.proofs.AlphabetLemmas.{symbols_of-listed}
use Rattle.fsa.specs.Automaton.{Automaton}
use Rattle.fst_algebra.specs.Relation.{IsRelated}
use Rattle.fst_algebra.proofs.Used.{lower_used, upper_used}
use Rattle.att_text.specs.Paths.{HasSymbolsIn, HasTextIn}
use Rattle.lookup_walk.specs.Answering.{IsOverAlphabet}
use Rattle.lookup_walk.specs.Nets.{NetView, plain}
use Rattle.saved_networks.specs.Networks.{IsReadFrom, IsSavedAs}
use Rattle.saved_networks.proofs.Numbered.{AreNumbered, all_among, listed_texts, text_at}

module _ (table : List (List ℕ)) (symbols : List Sym) (numbers : AreNumbered symbols) (count : length symbols ≡ length table) where
  -- the texts of a word in the table are those in the alphabet
  spelled_from : (word : List Sym) (texts : List (List ℕ)) → AllZip (HasTextIn table) word texts → texts ≡ spelled (listed table symbols) word
  spelled_from [] [] h = refl
  spelled_from [] (t ∷ texts) h = absurd h
  spelled_from (s ∷ word) [] h = absurd h
  spelled_from (s ∷ word) (t ∷ texts) (at, more) =
      let first : t ≡ text_of (listed table symbols) s = same_Some t (text_of (listed table symbols) s) (sym at ∙ text_at table symbols numbers count s (slice_get_within table s.0 t at)) in
      ap (λ (z : List ℕ). z ∷ texts) first ∙ ap (λ (z : List (List ℕ)). text_of (listed table symbols) s ∷ z) (spelled_from word texts more)

  texts_from : (word : List Sym) → ((s : Sym) → Contains word s → s.0 < length table) → AllZip (HasTextIn table) word (spelled (listed table symbols) word)
  texts_from [] each = tt
  texts_from (s ∷ word) each = (text_at table symbols numbers count s (each s (Contains-head s word)), texts_from word (λ x among. each x (Contains-tail s word x among)))

  module _ (m : Automaton Pair) (within : HasSymbolsIn table m) where
    listed_over : IsOverAlphabet (listed table symbols) (plain m)
    listed_over pair symbol uses on =
        subst (λ (letters : List Sym). Contains letters symbol) (sym (symbols_of-listed table symbols)) (all_among table symbols numbers count symbol (within pair symbol uses on))

    upper_within : (upper lower : List Sym) → IsRelated m upper lower → (s : Sym) → Contains upper s → s.0 < length table
    upper_within upper lower related s among = let used = upper_used m upper lower related s among in within used.0 s used.1 (inl used.2)

    lower_within : (upper lower : List Sym) → IsRelated m upper lower → (s : Sym) → Contains lower s → s.0 < length table
    lower_within upper lower related s among = let used = lower_used m upper lower related s among in within used.0 s used.1 (inr used.2)

    listed_as : (text : List ℕ) → IsReadFrom text table m → IsAlphabet (listed table symbols) → IsSavedAs text (record { alphabet = listed table symbols; net = plain m })
    listed_as text read formed = record {
      formed = formed;
      symbols = listed_texts table symbols numbers count ∙ read.symbols;
      relates = λ u w. (
        λ h.
            let r = (read.relates u w).1 h in
            (r.upper_word, r.lower_word, r.related, spelled_from r.upper_word u r.upper_texts, spelled_from r.lower_word w r.lower_texts),
        λ (upper, lower, related, u_is, w_is).
            (read.relates u w).0 (record {
              upper_word = upper;
              lower_word = lower;
              related = related;
              upper_texts = subst (λ (z : List (List ℕ)). AllZip (HasTextIn table) upper z) (sym u_is) (texts_from upper (upper_within upper lower related));
              lower_texts = subst (λ (z : List (List ℕ)). AllZip (HasTextIn table) lower z) (sym w_is) (texts_from lower (lower_within upper lower related));
            }),
      );
    }

    -- so for an alphabet and a network that are these
    pub saved_over : (alphabet : List (Sym × List ℕ)) (net : NetView) → alphabet ≡ listed table symbols → net ≡ plain m → IsOverAlphabet alphabet net
    saved_over alphabet net letters ready =
        subst (λ (z : NetView). IsOverAlphabet alphabet z) (sym ready) (subst (λ (z : List (Sym × List ℕ)). IsOverAlphabet z (plain m)) (sym letters) listed_over)

    pub saved_as : (alphabet : List (Sym × List ℕ)) (net : NetView) → alphabet ≡ listed table symbols → net ≡ plain m → IsAlphabet alphabet → (text : List ℕ) → IsReadFrom text table m
        → IsSavedAs text (record { alphabet = alphabet; net = net })
    saved_as alphabet net letters ready formed text read =
        subst (λ (z : NetView). IsSavedAs text (record { alphabet = alphabet; net = z })) (sym ready)
        (subst (λ (z : List (Sym × List ℕ)). IsSavedAs text (record { alphabet = z; net = plain m })) (sym letters) (listed_as text read (subst IsAlphabet letters formed)))
