use Rattle.std.proofs.Common.{map}
use Rattle.lexc_compile.proofs.Entries.{HasEach, Before, Upto}
use Rattle.lexc_compile.proofs.lexicons.lexicon.Given as goal

abbrev pub invariant-lexicons : goal.invariant-lexicons
invariant-lexicons l = HasEach (map (λ v. v.items) l.lexicons) l.root (Before (map (λ v. v.items) l.lexicons) l.place) l.builder

abbrev pub invariant-entries : goal.invariant-entries
invariant-entries l = HasEach (map (λ v. v.items) l.lexicons) l.root (Upto (map (λ v. v.items) l.lexicons) l.place l.entry-items l.entry-index) l.builder
