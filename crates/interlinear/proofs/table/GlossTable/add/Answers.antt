use Rattle.std.proofs.Common.{◌≡◌, ◌++◌, ◌∷◌, [], List, ℕ, Vec, Global, None, Ok, is_some, map, max, nat_eq, sym, ap, subst, ◌∙◌, rules, arith}
use Rattle.std.proofs.lemmas.List.{map-append}
use Rattle.std.proofs.lemmas.List.Elements.{All-push}
use Rattle.std.specs.Cmp.Lexicographic.{pointwise}
use Rattle.std.specs.Map.{lookup}
use Rattle.std.specs.Option.{option_copied}
use Rattle.indexmap.proofs.CallerLemmas.{insert_entry-new}
use Rattle.interlinear.specs.Glosses.{Entry, gloss_of}
use Rattle.interlinear.specs.Tables.{kept, IsWithin, AreWithin}
use Rattle.interlinear.proofs.Keys.{lookup-kept, within-more, some_copied, none_copied, entry_again, entry_added}
use Rattle.interlinear.proofs.table.GlossTable.add.Goals as goal

pub returns-then-is_some : goal.returns-then-is_some
returns-then-is_some c =
    let key = c.args.key.items in
    let found : gloss_of c.args.self.now key ≡ option_copied c.get.result =
    ap (λ (es : List Entry). gloss_of es key) (sym c.self.view_is) ∙ sym (lookup-kept c.self.inside.glosses.entries key)
    ∙ ap (λ (q : List ℕ). lookup (λ (k : Vec ℕ Global). pointwise nat_eq q k.items) c.self.inside.glosses.entries) (sym c.as_slice.ensures.value) ∙ sym c.get.ensures.value in
    entry_again c.args.self.now (key, c.args.gloss) (ap is_some found ∙ some_copied c.get.result ∙ sym c.if-is_some.ensures)

pub invariant_of-self-2 : goal.invariant_of-self-2
invariant_of-self-2 c =
    let entries = c.self.inside.glosses.entries in
    let absent : lookup (λ (k : Vec ℕ Global). pointwise nat_eq c.args.key.items k.items) entries ≡ None =
    ap (λ (q : List ℕ). lookup (λ (k : Vec ℕ Global). pointwise nat_eq q k.items) entries) (sym c.as_slice.ensures.value) ∙ sym c.get.ensures.value ∙ none_copied c.get.result (sym c.if-is_some.ensures) in
    let grown : map kept c.insert.new.self.entries ≡ map kept entries ++ (c.args.key.items, c.args.gloss) ∷ [] =
    ap (map kept) (c.in_ok-insert.ensures.entries ∙ insert_entry-new _ c.self.inside.glosses _ _ absent) ∙ map-append kept entries ((c.args.key, c.args.gloss) ∷ []) in
    let most = c.max-self-inside.result in
    let is : most ≡ max c.self.inside.longest c.len.result = search rules in
    subst (AreWithin most) (sym grown)
    (All-push (IsWithin most) (map kept entries) (c.args.key.items, c.args.gloss) (within-more c.self.inside.longest most (map kept entries) (omega (arith, is)) c.self.invariant) (c.requires, omega (arith, is, c.len.ensures, c.args.key.ok)))

pub returns : goal.returns
returns c =
    let entries = c.self.inside.glosses.entries in
    let absent : lookup (λ (k : Vec ℕ Global). pointwise nat_eq c.args.key.items k.items) entries ≡ None =
    ap (λ (q : List ℕ). lookup (λ (k : Vec ℕ Global). pointwise nat_eq q k.items) entries) (sym c.as_slice.ensures.value) ∙ sym c.get.ensures.value ∙ none_copied c.get.result (sym c.if-is_some.ensures) in
    let grown : map kept c.insert.new.self.entries ≡ map kept entries ++ (c.args.key.items, c.args.gloss) ∷ [] =
    ap (map kept) (c.in_ok-insert.ensures.entries ∙ insert_entry-new _ c.self.inside.glosses _ _ absent) ∙ map-append kept entries ((c.args.key, c.args.gloss) ∷ []) in
    let none : gloss_of c.args.self.now c.args.key.items ≡ None =
    ap (λ (es : List Entry). gloss_of es c.args.key.items) (sym c.self.view_is) ∙ sym (lookup-kept entries c.args.key.items) ∙ absent in
    entry_added c.args.self.now (c.args.key.items, c.args.gloss) (ap is_some none)
    ∙ ap Ok (ap (λ (es : List Entry). es ++ (c.args.key.items, c.args.gloss) ∷ []) (sym c.self.view_is) ∙ sym grown)
