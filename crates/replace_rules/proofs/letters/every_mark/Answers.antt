use Rattle.std.proofs.Common.{rules, ◌≡◌, sym, subst}
use Rattle.std.specs.List.{Contains}
use Rattle.word_relations.specs.Words.{IsDistinct}
use Rattle.replace_rules.specs.Letters.{IsMarkOf}
use Rattle.replace_rules.proofs.Listing.{listed, listed_marks, listed_once}
use Rattle.replace_rules.proofs.letters.every_mark.Goals as goal

pub returns-clause-all : goal.returns-clause-all
returns-clause-all c m =
    let e : c.add_brackets.new.marks.items ≡ listed c.args.symbols.now c.args.places = search rules in
    subst (λ ms. (Contains ms m → IsMarkOf c.args.symbols.now c.args.places m) × (IsMarkOf c.args.symbols.now c.args.places m → Contains ms m)) (sym e) (listed_marks c.args.symbols.now c.args.places m)

pub returns-clause-once : goal.returns-clause-once
returns-clause-once c distinct =
    let e : c.add_brackets.new.marks.items ≡ listed c.args.symbols.now c.args.places = search rules in
    subst IsDistinct (sym e) (listed_once c.args.symbols.now c.args.places distinct)
