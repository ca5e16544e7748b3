-- Whether a word has the form of the name of a file that a manifest may name, as a test.
use Rattle.std.specs.Prelude.{◌&&◌, ◌||◌, ◌==◌, ℕ, Bool, true, false, not, List, [], ◌∷◌, length, nat_le}
use Rattle.std.specs.Str.{bytes_eq}
use Rattle.project_manifest.specs.Manifests.{most_name_bytes, project_name}

-- a letter, a digit, `_`, `-` or `.`
abbrev pub is_file_byte : ℕ → Bool
is_file_byte b = (nat_le 48 b && nat_le b 57) || ((nat_le 65 b && nat_le b 90) || ((nat_le 97 b && nat_le b 122) || (b == 95 || (b == 45 || b == 46))))

abbrev pub are_file_bytes : List ℕ → Bool
are_file_bytes [] = true
are_file_bytes (b ∷ bytes) = is_file_byte b && are_file_bytes bytes

abbrev pub begins_with_dot : List ℕ → Bool
begins_with_dot [] = false
begins_with_dot (b ∷ bytes) = b == 46

-- such bytes, one or more but not too many, the first no `.`, and not the manifest's own name
abbrev pub is_file_name : List ℕ → Bool
is_file_name name = nat_le 1 (length name) && (nat_le (length name) most_name_bytes && (are_file_bytes name && (not (begins_with_dot name) && not (bytes_eq name project_name))))
