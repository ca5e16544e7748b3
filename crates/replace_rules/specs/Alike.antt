-- Symbols that no part of rules tells from one another, and numbers of symbols, which are equal only for such.
use Rattle.std.specs.Prelude.{◌≡◌, ◌⊎◌, ◌↔◌, ℕ, List, ◌∷◌, ◌++◌, Some, Contains, length, slice_get}
use Rattle.fsm_base.specs.declared.letters.Bound.{Bound}
use Rattle.fsm_base.specs.declared.letters.Bound.TheVariants.{Inner}
use Rattle.fsm_base.specs.declared.letters.Sym.{Sym}
use Rattle.fsa.specs.Complete.{Complete, Accepts}
use Rattle.replace_rules.specs.declared.rules.LangMap.{LangMap}
use Rattle.replace_rules.specs.declared.rules.LangContext.{LangContext}
use Rattle.replace_rules.specs.declared.rules.LangGroup.{LangGroup}

-- a word with the one letter is in the set just where the same word with the other is
abbrev pub IsLike : {L : Type 0} → (List L → Type 0) → L → L → Type 0
IsLike {L} P x y = (front back : List L) → P (front ++ x ∷ back) ↔ P (front ++ y ∷ back)

-- in each language of a mapping, of a context and of a group
pub record MapIsLike (m : LangMap) (s t : Sym) : Type 0 where
  pub centre : IsLike (Accepts m.centre) s t
  pub result : IsLike (Accepts m.result) s t
  pub after : (lang : Complete Sym) → m.after ≡ Some lang → IsLike (Accepts lang) s t

pub record ContextIsLike (c : LangContext) (x y : Bound Sym) : Type 0 where
  pub left : IsLike (Accepts c.left) x y
  pub right : IsLike (Accepts c.right) x y

pub record GroupIsLike (g : LangGroup) (s t : Sym) : Type 0 where
  pub maps : (m : LangMap) → Contains g.maps.items m → MapIsLike m s t
  pub contexts : (c : LangContext) → Contains g.contexts.items c → ContextIsLike c (Inner s) (Inner t)

-- places with equal new numbers have equal old ones
abbrev pub IsFiner : List ℕ → List ℕ → Type 0
IsFiner old new = (j k n : ℕ) → slice_get new j ≡ Some n → slice_get new k ≡ Some n → (m : ℕ) × (slice_get old j ≡ Some m) × (slice_get old k ≡ Some m)

-- letters with equal numbers are related
pub record IsDivided {L : Type 0} (letters : List L) (numbers : List ℕ) (Q : L → L → Type 0) : Type 0 where
  pub count : length numbers ≡ length letters
  pub alike : (j k n : ℕ) (x y : L) → slice_get numbers j ≡ Some n → slice_get numbers k ≡ Some n → slice_get letters j ≡ Some x → slice_get letters k ≡ Some y → Q x y

-- the number that stands where the letter does, or the number for those that don't stand there
abbrev pub IsColumn : {L : Type 0} → List L → List ℕ → ℕ → L → ℕ → Type 0
IsColumn own of_places none x n = ((Contains own x → ⊥) × (n ≡ none)) ⊎ ((k : ℕ) × (slice_get own k ≡ Some x) × (slice_get of_places k ≡ Some n))

pub record AreColumns {L : Type 0} (own : List L) (of_places : List ℕ) (none : ℕ) (letters : List L) (columns : List ℕ) : Type 0 where
  pub count : length columns ≡ length letters
  pub each : (j : ℕ) (x : L) (n : ℕ) → slice_get letters j ≡ Some x → slice_get columns j ≡ Some n → IsColumn own of_places none x n

-- the symbol that stands at the place of the first of the class
abbrev pub IsFirstIn : List Sym → List ℕ → ℕ → Sym → Type 0
IsFirstIn symbols firsts class f = (k : ℕ) × (slice_get firsts class ≡ Some k) × (slice_get symbols k ≡ Some f)

pub record AreFirstsIn (symbols : List Sym) (firsts of_places : List ℕ) (found : List Sym) : Type 0 where
  pub count : length found ≡ length of_places
  pub each : (j class : ℕ) (f : Sym) → slice_get of_places j ≡ Some class → slice_get found j ≡ Some f → IsFirstIn symbols firsts class f

-- for each symbol one that no part of the groups tells from it
pub record AreFirsts (symbols : List Sym) (groups : List LangGroup) (firsts : List Sym) : Type 0 where
  pub count : length firsts ≡ length symbols
  pub each : (j : ℕ) (s f : Sym) → slice_get symbols j ≡ Some s → slice_get firsts j ≡ Some f → Contains symbols f × ((g : LangGroup) → Contains groups g → GroupIsLike g s f)
