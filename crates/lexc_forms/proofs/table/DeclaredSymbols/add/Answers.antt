use Rattle.std.proofs.Common.{◌≡◌, ◌++◌, ◌∷◌, [], List, ℕ, Vec, Global, false, true, map, max, nat_eq, sym, ap, subst, ◌∙◌, rules, arith}
use Rattle.std.proofs.lemmas.List.{map-append}
use Rattle.std.proofs.lemmas.List.Elements.{All-push}
use Rattle.std.specs.Bool.{if◌then◌else◌}
use Rattle.std.specs.Cmp.Lexicographic.{pointwise}
use Rattle.std.specs.List.{list_any}
use Rattle.std.specs.Str.{bytes_eq}
use Rattle.lexc_forms.specs.Kept.{kept, IsWithin, AreWithin, IsMarkedFor, AreMarked}
use Rattle.lexc_forms.proofs.Begins.{with_marked}
use Rattle.lexc_forms.proofs.Symbols.{any_kept, held, new, within-more}
use Rattle.lexc_forms.proofs.table.DeclaredSymbols.add.Goals as goal

pub returns-then-contains : goal.returns-then-contains
returns-then-contains c =
    let symbol = c.args.symbol.items in
    let there : list_any (bytes_eq symbol) c.args.self.now ≡ true =
    ap (list_any (bytes_eq symbol)) (sym c.self.view_is) ∙ sym (any_kept c.self.inside.symbols.keys symbol) ∙ ap (λ (q : List ℕ). list_any (λ (k : Vec ℕ Global). pointwise nat_eq q k.items) c.self.inside.symbols.keys) (sym c.as_slice.ensures.value) ∙ sym c.contains.ensures ∙ c.if-contains.true in
    sym (held symbol c.args.self.now there)

pub invariant_of-self-2 : goal.invariant_of-self-2
invariant_of-self-2 c =
    let symbol = c.args.symbol.items in
    let keys = c.self.inside.symbols.keys in
    let absent : list_any (λ (k : Vec ℕ Global). pointwise nat_eq symbol k.items) keys ≡ false =
    ap (λ (q : List ℕ). list_any (λ (k : Vec ℕ Global). pointwise nat_eq q k.items) keys) (sym c.as_slice.ensures.value) ∙ sym c.contains.ensures ∙ c.if-contains.false in
    let grown : map kept c.insert_full.new.self.keys ≡ map kept keys ++ symbol ∷ [] =
    ap (map kept) (c.in_ok-insert_full.ensures.keys ∙ ap (λ b. if b then keys else keys ++ c.args.symbol ∷ []) absent) ∙ map-append kept keys (c.args.symbol ∷ []) in
    let most = c.max-self-inside.result in
    let is : most ≡ max c.self.inside.longest c.len.result = search rules in (
      subst (AreWithin most) (sym grown)
          (All-push (IsWithin most) (map kept keys) symbol (within-more c.self.inside.longest most (map kept keys) (omega (arith, is)) c.self.invariant.0) (c.requires, omega (arith, is, c.len.ensures, c.args.symbol.ok))),
      subst (AreMarked c.with_mark-begins.result.items) (sym grown)
          (with_marked c.in_ok-marks.field-0.items c.with_mark-begins.result.items (map kept keys) symbol c.with_mark-begins.ensures.kept (subst (AreMarked c.in_ok-marks.field-0.items) (sym c.self.view_is) c.in_ok-marks.ensures) (subst (IsMarkedFor c.with_mark-begins.result.items) c.as_slice-2.ensures.value c.with_mark-begins.ensures.marked)),
    )

pub returns : goal.returns
returns c =
    let symbol = c.args.symbol.items in
    let keys = c.self.inside.symbols.keys in
    let absent : list_any (λ (k : Vec ℕ Global). pointwise nat_eq symbol k.items) keys ≡ false =
    ap (λ (q : List ℕ). list_any (λ (k : Vec ℕ Global). pointwise nat_eq q k.items) keys) (sym c.as_slice.ensures.value) ∙ sym c.contains.ensures ∙ c.if-contains.false in
    let grown : map kept c.insert_full.new.self.keys ≡ map kept keys ++ symbol ∷ [] =
    ap (map kept) (c.in_ok-insert_full.ensures.keys ∙ ap (λ b. if b then keys else keys ++ c.args.symbol ∷ []) absent) ∙ map-append kept keys (c.args.symbol ∷ []) in
    let none : list_any (bytes_eq symbol) c.args.self.now ≡ false = ap (list_any (bytes_eq symbol)) (sym c.self.view_is) ∙ sym (any_kept keys symbol) ∙ absent in
    grown ∙ ap (λ (z : List (List ℕ)). z ++ symbol ∷ []) c.self.view_is ∙ sym (new symbol c.args.self.now none)
