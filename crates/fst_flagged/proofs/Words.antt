-- Words with conditions, joined and cut.
use Rattle.std.proofs.Common.{◌≡◌, ◌<◌, ◌≤◌, ◌-◌, ℕ, Bool, true, false, cond, List, [], ◌∷◌, ◌++◌, refl, sym, ap, subst, ◌∙◌}
use Rattle.std.specs.Prelude.{IsTrue, slice_get}
use Rattle.std.specs.Option.{option_to_list}
use Rattle.std.specs.List.{flat_map}
use Rattle.std.proofs.lemmas.Bool.{lt-ltb, le-ltb}
use Rattle.std.proofs.lemmas.List.Concat.{flat_map-append}
use Rattle.fsm_base.specs.declared.letters.Sym.{Sym}
use Rattle.project_meaning.specs.Trees.{Piece}
use Rattle.project_meaning.specs.Lexicons.{flags_pass}
use Rattle.project_meaning.specs.Settings.{neutral}
use Rattle.fst_flagged.specs.declared.condition.Condition.{Condition}
use Rattle.fst_flagged.specs.declared.condition.Run.{Run}
use Rattle.fst_flagged.specs.declared.condition.Run.TheVariants.{Upper, Lower}
use Rattle.fst_flagged.specs.Conditions.{first, is_letter, letter_at, letters_of, condition_at, flag_in, flags_of, Hold}
use Rattle.fst_flagged.proofs.Runs.{run_front}

-- words joined
pub letters_of-append : (v w : List Sym) → letters_of (v ++ w) ≡ letters_of v ++ letters_of w
letters_of-append v w = flat_map-append letter_at v w

pub flags_of-append : (run : Run) (conditions : List Condition) (v w : List Sym) → flags_of run conditions (v ++ w) ≡ flags_of run conditions v ++ flags_of run conditions w
flags_of-append run conditions v w =
    ap (λ (cs : List Condition). flat_map (flag_in run) cs) (flat_map-append (condition_at conditions) v w)
    ∙ flat_map-append (flag_in run) (flat_map (condition_at conditions) v) (flat_map (condition_at conditions) w)

-- what holds of a word holds of each front of it
pub hold_front : (conditions : List Condition) (front rest : List Sym) → Hold conditions (front ++ rest) → Hold conditions front
hold_front conditions front rest h = (of Upper h.0, of Lower h.1)
  where
    of : (run : Run) → IsTrue (flags_pass (flags_of run conditions (front ++ rest))) → IsTrue (flags_pass (flags_of run conditions front))
    of run passes =
        run_front (λ feature. neutral) (flags_of run conditions front) (flags_of run conditions rest)
        (subst (λ (ps : List (Piece (List ℕ))). IsTrue (flags_pass ps)) (flags_of-append run conditions front rest) passes)

-- a symbol of words, and a condition
pub letter_below : (x : Sym) → x.0 < first → is_letter x ≡ true
letter_below x below = lt-ltb x.0 first below

pub condition_from : (x : Sym) → first ≤ x.0 → is_letter x ≡ false
condition_from x from = le-ltb x.0 first from

pub letters-letter : (x : Sym) → is_letter x ≡ true → letters_of (x ∷ []) ≡ x ∷ []
letters-letter x is = ap (λ (b : Bool). cond b (x ∷ []) [] ++ []) is

pub letters-condition : (x : Sym) → is_letter x ≡ false → letters_of (x ∷ []) ≡ []
letters-condition x is = ap (λ (b : Bool). cond b (x ∷ []) [] ++ []) is

pub flags-letter : (run : Run) (conditions : List Condition) (x : Sym) → is_letter x ≡ true → flags_of run conditions (x ∷ []) ≡ []
flags-letter run conditions x is =
    ap (λ (b : Bool). flat_map (flag_in run) (cond b [] (option_to_list (slice_get conditions (x.0 - first))) ++ [])) is
