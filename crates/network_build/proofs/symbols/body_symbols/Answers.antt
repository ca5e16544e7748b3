use Rattle.std.proofs.Common.{Contains}
use Rattle.regex_ast.specs.declared.expr.Atom.TheVariants.{Sym}
use Rattle.project_definitions.specs.Plain.{body_of}
use Rattle.network_build.specs.Networks.{PartsUse, body_leaves}
use Rattle.network_build.proofs.Gathering.{adds_to_none}
use Rattle.network_build.proofs.Uses.{given_behind}
use Rattle.network_build.proofs.symbols.body_symbols.Goals as goal

pub returns-clause-same : goal.returns-clause-same
returns-clause-same c = λ s.
    let leaves = body_leaves (body_of c.args.body.now) in
    let among = adds_to_none c.in_ok-symbols.symbols c.add_body.new.symbols leaves c.in_ok-symbols.ensures c.in_ok-add_body.ensures in
    let all = given_behind c.add_body.new.symbols c.add_parts.new.symbols (λ t. Contains leaves (Sym t)) (PartsUse c.args.parts.now) among c.in_ok-add_parts.ensures s in
    let kept = c.into_sorted.ensures.same s in
    (λ h. all.0 (kept.0 h), λ h. kept.1 (all.1 h))
