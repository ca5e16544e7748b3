use Rattle.std.proofs.Common.{◌≡◌, ◌+◌, ℕ, List, false, length, drop, sym, ap, subst, ◌∙◌, arith, length-drop}
use Rattle.std.proofs.lemmas.List.{drop-drop}
use Rattle.regex_tokens.specs.Cuts.{newlines}
use Rattle.lexc_tokens.specs.Tokens.{Follows}
use Rattle.lexc_tokens.specs.declared.token.Token.{Token}
use Rattle.lexc_reader.proofs.Gathered.{one_more, ended, unended, broken}
use Rattle.lexc_reader.proofs.gathering.entry_tokens.Goals as goal

-- the lines of the rest of a text, and of what is behind its first characters
line_here : (text here : List ℕ) (len behind lines : ℕ) → here ≡ drop len text → behind + newlines (drop len text) ≡ lines → behind + newlines here ≡ lines
line_here text here len behind lines here_is whole = ap (λ (z : List ℕ). behind + newlines z) here_is ∙ whole

line_behind : (text here : List ℕ) (len n behind lines : ℕ) → here ≡ drop len text → behind + newlines (drop n here) ≡ lines → behind + newlines (drop (len + n) text) ≡ lines
line_behind text here len n behind lines here_is whole = ap (λ (z : List ℕ). behind + newlines z) (sym (ap (drop n) here_is ∙ drop-drop n len text)) ∙ whole

pub returns-in-End : goal.returns-in-End
returns-in-End c =
    let so_far = c.tokens.invariant.so_far in
    let none = rw c.in-End.is at c.in_ok-scan.ensures in
    record {
      others = so_far.others;
      all = so_far.all;
      has = unended (c.args.line + newlines c.args.text.now) c.args.first c.args.text.now c.tokens.len c.tokens.tokens.items c.split_at.result.1.now c.split_at.ensures.back so_far none;
      within = c.tokens.invariant.within;
      line_is = c.tokens.invariant.line_is;
    }

pub returns-in-NoToken : goal.returns-in-NoToken
returns-in-NoToken c =
    let so_far = c.tokens.invariant.so_far in
    let next = rw c.in-NoToken.is at c.in_ok-scan.ensures in
    let whole = line_here c.args.text.now c.split_at.result.1.now c.tokens.len c.tokens.behind (c.args.line + newlines c.args.text.now) c.split_at.ensures.back c.tokens.invariant.line_is in
    record {
      others = so_far.others;
      all = so_far.all;
      has = broken (c.args.line + newlines c.args.text.now) c.args.first c.args.text.now c.tokens.len c.tokens.tokens.items c.split_at.result.1.now c.split_at.ensures.back so_far c.in-NoToken.at c.tokens.behind next.0 whole next.1;
      within = c.tokens.invariant.within;
      line_is = c.tokens.invariant.line_is;
    }

pub returns-in-Semicolon : goal.returns-in-Semicolon
returns-in-Semicolon c =
    let so_far = c.tokens.invariant.so_far in
    let next = rw c.in-Found.is at c.in_ok-scan.ensures in
    let whole = line_here c.args.text.now c.split_at.result.1.now c.tokens.len c.tokens.behind (c.args.line + newlines c.args.text.now) c.split_at.ensures.back c.tokens.invariant.line_is in
    let follows = subst (λ (t : Token). Follows false c.split_at.result.1.now t (drop c.in-Found.found.len c.split_at.result.1.now)) c.in-Semicolon.is next.2 in
    record {
      others = so_far.others;
      all = so_far.all;
      has = ended (c.args.line + newlines c.args.text.now) c.args.first c.args.text.now c.tokens.len c.tokens.tokens.items c.split_at.result.1.now c.split_at.ensures.back so_far c.in-Found.found.len follows;
      within = omega (arith, c.tokens.invariant.within, next.1, ap length c.split_at.ensures.back, length-drop c.tokens.len c.args.text.now);
      line_is = line_behind c.args.text.now c.split_at.result.1.now c.tokens.len c.in-Found.found.len c.in-Found.found.behind (c.args.line + newlines c.args.text.now) c.split_at.ensures.back (next.4 ∙ whole);
    }

pub tokens-preserved : goal.tokens-preserved
tokens-preserved c =
    let so_far = c.tokens.invariant.so_far in
    let next = rw c.in-Found.is at c.in_ok-scan.ensures in
    let whole = line_here c.args.text.now c.split_at.result.1.now c.tokens.len c.tokens.behind (c.args.line + newlines c.args.text.now) c.split_at.ensures.back c.tokens.invariant.line_is in
    record {
      within = omega (arith, c.tokens.invariant.within, next.1, ap length c.split_at.ensures.back, length-drop c.tokens.len c.args.text.now);
      line_is = line_behind c.args.text.now c.split_at.result.1.now c.tokens.len c.in-Found.found.len c.in-Found.found.behind (c.args.line + newlines c.args.text.now) c.split_at.ensures.back (next.4 ∙ whole);
      so_far = one_more (c.args.line + newlines c.args.text.now) c.args.first c.args.text.now c.tokens.len c.tokens.tokens.items c.split_at.result.1.now c.split_at.ensures.back so_far c.in-Found.found.len c.in-Found.found.token c.push-in-Found.new.self.items c.in_default.not-Semicolon next.2 c.in_ok-push-in-Found.ensures.items;
    }
