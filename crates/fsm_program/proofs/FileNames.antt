-- The test of a file's name says what the form of such a name does.
use Rattle.std.proofs.Common.{◌≡◌, ◌≤◌, ◌==◌, ◌&&◌, ℕ, List, [], ◌∷◌, Decides, None, Some, slice_get, length, nat_le, ap, refl, arith}
use Rattle.std.specs.Str.{bytes_eq}
use Rattle.std.proofs.lemmas.Bool.{cond-false, cond-true, false_from_ne_true, leb-true, le-leb}
use Rattle.std.proofs.lemmas.Bool.Decides.{Decides-and, Decides-by_and, Decides-eqb, Decides-like, Decides-not, Decides-or}
use Rattle.std.proofs.lemmas.Slice.Eq.{bytes_eq-Decides}
use Rattle.project_manifest.specs.Manifests.{IsFileByte, IsFileName, most_name_bytes, project_name}
use Rattle.fsm_program.specs.Ends.{asked_of_file, for_saved}
use Rattle.fsm_program.specs.FileNames.{are_file_bytes, begins_with_dot, is_file_byte, is_file_name}

between : (low high n : ℕ) → Decides (nat_le low n && nat_le n high) ((low ≤ n) × (n ≤ high))
between low high n = Decides-and (nat_le low n) (nat_le n high) (leb-true low n, le-leb low n) (leb-true n high, le-leb n high)

byte_decides : (b : ℕ) → Decides (is_file_byte b) (IsFileByte b)
byte_decides b =
    Decides-or _ _ (between 48 57 b)
    (Decides-or _ _ (between 65 90 b) (Decides-or _ _ (between 97 122 b) (Decides-or _ _ (Decides-eqb b 95) (Decides-or _ _ (Decides-eqb b 45) (Decides-eqb b 46)))))

dot_decides : (name : List ℕ) → Decides (begins_with_dot name) (slice_get name 0 ≡ Some 46)
dot_decides [] = (λ e. cc, λ e. cc)
dot_decides (b ∷ bytes) = Decides-like (b == 46) (ap (λ (n : ℕ). Some n)) (λ e. cc) (Decides-eqb b 46)

pub name_decides : (name : List ℕ) → Decides (is_file_name name) (IsFileName name)
name_decides name =
    Decides-like (is_file_name name)
    (λ parts. record { some = omega (arith, parts.0); short = parts.1.0; bytes = parts.1.1.0; first = parts.1.1.1.0; other = parts.1.1.1.1 })
    (λ form. (omega (arith, form.some), (form.short, (form.bytes, (form.first, form.other)))))
    (Decides-and _ _ (leb-true 1 (length name), le-leb 1 (length name))
    (Decides-and _ _ (leb-true (length name) most_name_bytes, le-leb (length name) most_name_bytes)
    (Decides-and _ _ (Decides-by_and is_file_byte IsFileByte are_file_bytes byte_decides refl (λ b bytes. refl) name)
    (Decides-and _ _ (Decides-not (begins_with_dot name) (dot_decides name)) (Decides-not (bytes_eq name project_name) (bytes_eq-Decides name project_name))))))

-- what is asked of a file by its name
pub asks_file : (file : List ℕ) → IsFileName file → asked_of_file file ≡ Some (for_saved file)
asks_file file form = cond-true (is_file_name file) (Some (for_saved file)) None ((name_decides file).1 form)

pub asks_no_file : (file : List ℕ) → ¬ (IsFileName file) → asked_of_file file ≡ None
asks_no_file file none = cond-false (is_file_name file) (Some (for_saved file)) None (false_from_ne_true _ (λ yes. none ((name_decides file).0 yes)))
