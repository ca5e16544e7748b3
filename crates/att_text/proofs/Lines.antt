-- What lines say, one after another, and the first fault of them.
use Rattle.std.proofs.Common.{◌≡◌, ◌+◌, ◌<◌, ◌≤◌, ◌==◌, ◌||◌, ℕ, Bool, true, false, cond, List, [], ◌∷◌, ◌++◌, length, map, Option, Some, None, IfSome, refl, sym, subst, ap, ◌∙◌, arith}
use Rattle.std.specs.List.{cons_option, filter_map, onto_first}
use Rattle.std.specs.Option.{option_map}
use Rattle.std.specs.Str.{bytes_eq}
use Rattle.std.proofs.lemmas.Bool.{eqb-false}
use Rattle.std.proofs.lemmas.List.{append_assoc, append-nil}
use Rattle.fsm_base.specs.declared.letters.Pair.{Pair}
use Rattle.fsa.specs.declared.automaton.Edge.{Edge}
use Rattle.att_text.specs.declared.faults.AttWhy.{AttWhy}
use Rattle.att_text.specs.declared.faults.AttError.{AttError}
use Rattle.att_text.specs.declared.faults.AttError.TheVariants.{Refused, Memory}
use Rattle.att_text.specs.declared.fields.Said as seen
use Rattle.att_text.specs.Lines.{Saying, arc, final, arc_between, arc_of, fields_of, final_of, lines_of, no_symbol, said_by, said_in, said_of, side_of, state_of}
use Rattle.att_text.specs.Faults.{IsWhyRefused, fault_of, fault_or, first_fault, line_fault, with_all, with_line, with_said}
use Rattle.att_text.specs.Drawing.{Extends, HasSymbols, IsAdded, IsBeside, IsDrawn, IsLineError, MayBeSymbol}
use Rattle.att_text.specs.Views.{said_seen, HasNo}
use Rattle.att_text.proofs.Pieces.{field_first, field_alone}
use Rattle.att_text.proofs.Beside.{beside_none, beside_said, extends_none, extends_then}

-- the first field of a line
pub said_behind : (line from behind : List ℕ) → HasNo 9 from → line ≡ from ++ 9 ∷ behind → said_by (from ∷ fields_of behind) ≡ said_of line
said_behind line from behind none is = ap said_by (sym (field_first line from behind none is))

pub said_alone : (line : List ℕ) → HasNo 9 line → said_by (line ∷ []) ≡ said_of line
said_alone line none = ap said_by (sym (field_alone line none))

module _ (from : List ℕ) where
  pub said_two : (to : List ℕ) → HasNo 9 to → None ≡ said_by (from ∷ fields_of to)
  said_two to none = ap (λ fs. said_by (from ∷ fs)) (sym (field_alone to none))

  pub said_second : (behind to sides : List ℕ) → HasNo 9 to → behind ≡ to ++ 9 ∷ sides → said_by (from ∷ to ∷ fields_of sides) ≡ said_by (from ∷ fields_of behind)
  said_second behind to sides none is = ap (λ fs. said_by (from ∷ fs)) (sym (field_first behind to sides none is))

  pub said_both : (to sides : List ℕ) → HasNo 9 sides → arc_of from to sides sides ≡ said_by (from ∷ to ∷ fields_of sides)
  said_both to sides none = ap (λ fs. said_by (from ∷ to ∷ fs)) (sym (field_alone sides none))

  pub said_third : (to sides upper behind : List ℕ) → HasNo 9 upper → sides ≡ upper ++ 9 ∷ behind → said_by (from ∷ to ∷ upper ∷ fields_of behind) ≡ said_by (from ∷ to ∷ fields_of sides)
  said_third to sides upper behind none is = ap (λ fs. said_by (from ∷ to ∷ fs)) (sym (field_first sides upper behind none is))

  pub said_four : (to upper lower : List ℕ) → HasNo 9 lower → arc_of from to upper lower ≡ said_by (from ∷ to ∷ upper ∷ fields_of lower)
  said_four to upper lower none = ap (λ fs. said_by (from ∷ to ∷ upper ∷ fs)) (sym (field_alone lower none))

  -- there is always a first field
  fields_some : (line : List ℕ) → (field : List ℕ) × (fields : List (List ℕ)) × (fields_of line ≡ field ∷ fields)
  fields_some [] = ([], [], refl)
  fields_some (b ∷ bs) = by (b == 9) (fields_some bs)
    where
      onto : (b : ℕ) (fields : List (List ℕ)) → (field : List ℕ) × (more : List (List ℕ)) × (onto_first b fields ≡ field ∷ more)
      onto b [] = (b ∷ [], [], refl)
      onto b (f ∷ fs) = (b ∷ f, fs, refl)

      by : (t : Bool) → (field : List ℕ) × (fields : List (List ℕ)) × (fields_of bs ≡ field ∷ fields) → (field : List ℕ) × (fields : List (List ℕ)) × (cond t ([] ∷ fields_of bs) (onto_first b (fields_of bs)) ≡ field ∷ fields)
      by true rest = ([], fields_of bs, refl)
      by false rest = onto b (fields_of bs)

  pub said_five : (to upper behind lower weight : List ℕ) → HasNo 9 lower → behind ≡ lower ++ 9 ∷ weight → None ≡ said_by (from ∷ to ∷ upper ∷ fields_of behind)
  said_five to upper behind lower weight none is =
      let more = fields_some weight in
      sym (ap (λ fs. said_by (from ∷ to ∷ upper ∷ fs)) (field_first behind lower weight none is) ∙ ap (λ fs. said_by (from ∷ to ∷ upper ∷ lower ∷ fs)) more.2)

-- a side's symbol isn't empty
side_symbol : (field : List ℕ) → 0 < length field → MayBeSymbol (side_of field)
side_symbol field some = by (bytes_eq field no_symbol)
  where
    by : (b : Bool) → MayBeSymbol (cond b None (Some field))
    by true = tt
    by false = some

some_field : (field : List ℕ) → (length field == 0) ≡ false → 0 < length field
some_field [] e = absurd (eqb-false 0 0 e refl)
some_field (b ∷ bs) e = omega arith

between_symbols : (from to : Option ℕ) (upper lower : List ℕ) (said : Saying) → 0 < length upper → 0 < length lower → arc_between from to upper lower ≡ Some said → HasSymbols said
between_symbols None to upper lower said u l e = cc
between_symbols (Some p) None upper lower said u l e = cc
between_symbols (Some p) (Some q) upper lower said u l e =
    let same : arc p q (side_of upper) (side_of lower) ≡ said = cc in
    subst HasSymbols same (side_symbol upper u, side_symbol lower l)

arc_symbols : (from to upper lower : List ℕ) (said : Saying) → arc_of from to upper lower ≡ Some said → HasSymbols said
arc_symbols from to upper lower said e = by (length upper == 0) refl (length lower == 0) refl e
  where
    by : (a : Bool) → (length upper == 0) ≡ a → (b : Bool) → (length lower == 0) ≡ b → cond (a || b) None (arc_between (state_of from) (state_of to) upper lower) ≡ Some said → HasSymbols said
    by true p b q e = cc
    by false p true q e = cc
    by false p false q e = between_symbols (state_of from) (state_of to) upper lower said (some_field upper p) (some_field lower q) e

final_symbols : (state : Option ℕ) (said : Saying) → final_of state ≡ Some said → HasSymbols said
final_symbols None said e = cc
final_symbols (Some state) said e = let same : final state ≡ said = cc in subst HasSymbols same tt

fields_symbols : (fields : List (List ℕ)) (said : Saying) → said_by fields ≡ Some said → HasSymbols said
fields_symbols [] said e = cc
fields_symbols (state ∷ []) said e = final_symbols (state_of state) said e
fields_symbols (from ∷ to ∷ []) said e = cc
fields_symbols (from ∷ to ∷ both ∷ []) said e = arc_symbols from to both both said e
fields_symbols (from ∷ to ∷ upper ∷ lower ∷ []) said e = arc_symbols from to upper lower said e
fields_symbols (from ∷ to ∷ upper ∷ lower ∷ weight ∷ more) said e = cc

pub seen_symbols : (fields : List (List ℕ)) (r : Option seen.Said) → option_map said_seen r ≡ said_by fields → IfSome r (λ said. HasSymbols (said_seen said))
seen_symbols fields None e = tt
seen_symbols fields (Some said) e = fields_symbols fields (said_seen said) (sym e)

abbrev fault_at : AttWhy → ℕ → Option (ℕ × AttWhy)
fault_at why line = Some (line, why)

-- the lines of a text up to a rest were read
pub record IsReading (text : List ℕ) (first : List (List ℕ)) (rest : List ℕ) (number : ℕ) (symbols table : List (List ℕ)) (states : List ℕ) (edges : List (Edge Pair)) (finals : List Bool) : Type 0 where
  pub counted : number + length rest ≤ length text
  pub faults : first_fault (number + 1) symbols (map said_of (lines_of rest)) ≡ fault_of text
  pub lines : List Saying
  pub lines_are : lines ++ said_in rest ≡ said_in text
  pub drawn : IsDrawn table lines states edges finals
  pub table_is : with_all (said_in rest) table ≡ with_all (said_in text) first
  pub beside : IsBeside first symbols table
  pub grows : Extends first table

pub reading_none : (text : List ℕ) (first symbols : List (List ℕ)) (states : List ℕ) (edges : List (Edge Pair)) (finals : List Bool) → symbols ≡ [] → IsDrawn first [] states edges finals → IsReading text first text 0 symbols first states edges finals
reading_none text first symbols states edges finals none drawn = record {
  counted = omega arith;
  faults = ap (λ s. first_fault 1 s (map said_of (lines_of text))) none;
  lines = [];
  lines_are = refl;
  drawn = drawn;
  table_is = refl;
  beside = subst (λ s. IsBeside first s first) (sym none) (beside_none first);
  grows = extends_none first;
}

module _ (text : List ℕ) (first : List (List ℕ)) (rest : List ℕ) (number : ℕ) (symbols table : List (List ℕ)) (states : List ℕ) (edges : List (Edge Pair)) (finals : List Bool) (r : IsReading text first rest number symbols table states edges finals) (line behind : List ℕ) (are : lines_of rest ≡ line ∷ lines_of behind) where
  faults_at : fault_or (number + 1) (line_fault symbols (said_of line)) (first_fault (number + 1 + 1) (with_line (said_of line) symbols) (map said_of (lines_of behind))) ≡ fault_of text
  faults_at = sym (ap (λ ls. first_fault (number + 1) symbols (map said_of ls)) are) ∙ r.faults

  pub reading_error : (error : AttError) → IsLineError (number + 1) symbols (said_of line) error → IsWhyRefused (fault_of text) error
  reading_error (Refused at why) (same, is) =
      sym faults_at
      ∙ ap (λ o. fault_or (number + 1) o (first_fault (number + 1 + 1) (with_line (said_of line) symbols) (map said_of (lines_of behind)))) is
      ∙ ap (fault_at why) (sym same)
  reading_error (Memory refused) e = tt

  pub reading_more : length behind < length rest → (new_symbols new_table : List (List ℕ)) (new_states : List ℕ) (new_edges : List (Edge Pair)) (new_finals : List Bool) → Extends table new_table
      → IsAdded line symbols table states edges finals new_symbols new_table new_states new_edges new_finals → IsReading text first behind (number + 1) new_symbols new_table new_states new_edges new_finals
  reading_more shorter new_symbols new_table new_states new_edges new_finals grows a = record {
    counted = let counted = r.counted in omega arith;
    faults =
        ap (λ s. first_fault (number + 1 + 1) s (map said_of (lines_of behind))) a.symbols_are
        ∙ sym (ap (λ o. fault_or (number + 1) o (first_fault (number + 1 + 1) (with_said a.said symbols) (map said_of (lines_of behind)))) a.faultless)
        ∙ sym (ap (λ o. fault_or (number + 1) (line_fault symbols o) (first_fault (number + 1 + 1) (with_line o symbols) (map said_of (lines_of behind)))) a.says)
        ∙ faults_at;
    lines = r.lines ++ a.said ∷ [];
    lines_are = append_assoc r.lines (a.said ∷ []) (said_in behind) ∙ ap (λ ls. r.lines ++ ls) (sym said_are) ∙ r.lines_are;
    drawn = a.drawn r.lines r.drawn;
    table_is = ap (λ t. with_all (said_in behind) t) a.table_is ∙ sym (ap (λ ls. with_all ls table) said_are) ∙ r.table_is;
    beside = subst (λ s. IsBeside first s new_table) (sym a.symbols_are) (subst (λ t. IsBeside first (with_said a.said symbols) t) (sym a.table_is) (beside_said first a.said symbols table r.beside));
    grows = extends_then first table new_table r.grows grows;
  }
    where
      said_are : said_in rest ≡ a.said ∷ said_in behind
      said_are = ap (filter_map said_of) are ∙ ap (λ o. cons_option o (said_in behind)) a.says

pub reading_all : (text : List ℕ) (first : List (List ℕ)) (rest : List ℕ) (number : ℕ) (symbols table : List (List ℕ)) (states : List ℕ) (edges : List (Edge Pair)) (finals : List Bool) → IsReading text first rest number symbols table states edges finals → rest ≡ []
    → (fault_of text ≡ None) × (table ≡ with_all (said_in text) first) × IsDrawn table (said_in text) states edges finals
reading_all text first rest number symbols table states edges finals r none = (
  sym r.faults ∙ ap (λ t. first_fault (number + 1) symbols (map said_of (lines_of t))) none,
  sym (ap (λ t. with_all (said_in t) table) none) ∙ r.table_is,
  subst (λ ls. IsDrawn table ls states edges finals) (sym (append-nil r.lines) ∙ sym (ap (λ t. r.lines ++ said_in t) none) ∙ r.lines_are) r.drawn,
)
