-- The files that a map of strings holds.
use Rattle.std.proofs.Common.{◌≡◌, ℕ, Bool, true, false, cond, List, [], ◌∷◌, map, String, Vec, Global, Option, Some, refl, sym, ap, subst, ◌∙◌}
use Rattle.std.proofs.lemmas.Slice.Eq.{bytes_eq-Decides}
use Rattle.std.proofs.lemmas.Map.Text.{hash_map_updates_text}
use Rattle.std.specs.Arc.{arc_value}
use Rattle.std.specs.declared.sync.Arc.{Arc}
use Rattle.std.specs.HashMap.{HashMap, UpdatesBy}
use Rattle.std.specs.List.{AllZip, IsDistinct as IsApart}
use Rattle.std.specs.Map.{lookup, keys_of}
use Rattle.std.specs.Option.{option_map}
use Rattle.std.specs.Str.{bytes_eq}
use Rattle.std.specs.String.{string_bytes, string_eq}
use Rattle.word_relations.specs.Words.{IsDistinct}
use Rattle.fsm_base.proofs.TableLemmas.{IsDistinct-strings}
use Rattle.fsm_io.specs.Folders.{file_of}
use Rattle.project_sources.specs.Files.{files_in, names_in}

abbrev Content : Type 0
Content = Arc (Vec ℕ Global) Global

abbrev pub content_of : Content → List ℕ
content_of content = (arc_value content).items

-- two texts are the same, whichever is named first
bytes_eq_turned : (a b : List ℕ) → bytes_eq a b ≡ bytes_eq b a
bytes_eq_turned a b = by (bytes_eq a b) (bytes_eq b a) refl refl
  where
    by : (x y : Bool) → bytes_eq a b ≡ x → bytes_eq b a ≡ y → x ≡ y
    by true y e f = sym ((bytes_eq-Decides b a).1 (sym ((bytes_eq-Decides a b).0 e))) ∙ f
    by false true e f = sym e ∙ (bytes_eq-Decides a b).1 (sym ((bytes_eq-Decides b a).0 f))
    by false false e f = refl

pub found_file : (name : List ℕ) (entries : List (String Global × Content))
    → option_map content_of (lookup (λ k. bytes_eq name (string_bytes k)) entries) ≡ file_of name (files_in entries)
found_file name [] = refl
found_file name (e ∷ entries) =
    by (bytes_eq name (string_bytes e.0)) (found_file name entries)
    ∙ ap (λ b. cond b (Some (content_of e.1)) (file_of name (files_in entries))) (bytes_eq_turned name (string_bytes e.0))
  where
    by : (b : Bool) → option_map content_of (lookup (λ k. bytes_eq name (string_bytes k)) entries) ≡ file_of name (files_in entries)
        → option_map content_of (cond b (Some e.1) (lookup (λ k. bytes_eq name (string_bytes k)) entries)) ≡ cond b (Some (content_of e.1)) (file_of name (files_in entries))
    by true rest = refl
    by false rest = rest

-- a file that is put or removed is found so under its name, and the others as before
pub updated_file : {S : Type 0} (file : List ℕ) (old new : HashMap (String Global) Content S) (content : Option Content)
    → UpdatesBy string_eq (λ k. bytes_eq file (string_bytes k)) old new content
    → (name : List ℕ) → file_of name (files_in new.entries) ≡ cond (bytes_eq file name) (option_map content_of content) (file_of name (files_in old.entries))
updated_file file old new content updates name =
    sym (found_file name new.entries) ∙ ap (option_map content_of) (hash_map_updates_text file old new content updates name) ∙ by (bytes_eq file name)
    ∙ ap (cond (bytes_eq file name) (option_map content_of content)) (found_file name old.entries)
  where
    by : (b : Bool) → option_map content_of (cond b content (lookup (λ k. bytes_eq name (string_bytes k)) old.entries))
        ≡ cond b (option_map content_of content) (option_map content_of (lookup (λ k. bytes_eq name (string_bytes k)) old.entries))
    by true = refl
    by false = refl

-- clones of names and shared contents are the same files
pub same_files : (entries copies : List (String Global × Content)) → AllZip (λ p q. (string_bytes q.0 ≡ string_bytes p.0) × (arc_value q.1 ≡ arc_value p.1)) entries copies → files_in copies ≡ files_in entries
same_files [] [] all = refl
same_files [] (c ∷ copies) all = absurd all
same_files (e ∷ entries) [] all = absurd all
same_files (e ∷ entries) (c ∷ copies) all =
    let name : string_bytes c.0 ≡ string_bytes e.0 = all.0.0 in
    let content : content_of c.1 ≡ content_of e.1 = ap (λ (v : Vec ℕ Global). v.items) all.0.1 in
    let rest : files_in copies ≡ files_in entries = same_files entries copies all.1 in
    cc

-- each file has a name of its own
same_names : (entries : List (String Global × Content)) → map string_bytes (keys_of entries) ≡ names_in (files_in entries)
same_names [] = refl
same_names (e ∷ entries) = ap (λ (names : List (List ℕ)). string_bytes e.0 ∷ names) (same_names entries)

pub distinct_names : (entries : List (String Global × Content)) → IsApart string_eq (keys_of entries) → IsDistinct (names_in (files_in entries))
distinct_names entries apart = subst (λ (names : List (List ℕ)). IsDistinct names) (same_names entries) (IsDistinct-strings (keys_of entries) apart)
