use Rattle.std.proofs.Common.{List, subst}
use Rattle.regex_tokens.specs.declared.token.Ending.{Ending}
use Rattle.twolc_tokens.specs.Cuts.{Cuts}
use Rattle.twolc_tokens.specs.declared.token.Placed.{Placed}
use Rattle.pair_lines.proofs.Alone.{alone, alone_back}
use Rattle.pair_lines.proofs.read.is_atom.Goals as goal

pub returns : goal.returns
returns c =
    let text = c.args.text.now in
    let found = c.in_ok-found.found in (
      λ yes.
          let (line, tokens, ending) = c.is_alone.ensures.0 yes in
          alone_back text line (subst (λ (z : List Placed). Cuts 1 text z Rattle.regex_tokens.specs.declared.token.Ending.TheVariants.Whole) tokens (subst (λ (e : Ending). Cuts 1 text found.tokens.items e) ending c.in_ok-found.ensures)),
      λ both. let r = alone text found.tokens.items found.ending c.in_ok-found.ensures both.0 both.1 in c.is_alone.ensures.1 (1, r.0, r.1),
    )
