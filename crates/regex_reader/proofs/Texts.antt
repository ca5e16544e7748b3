-- What a text says, by its tokens.
use Rattle.std.proofs.Common.{◌≡◌, ℕ, List, [], ◌∷◌, length, Result, Ok, Err, Vec, Global, refl, sym, subst, arith}
use Rattle.regex_ast.specs.declared.expr.Define.{Define}
use Rattle.regex_ast.specs.declared.expr.Expr.{Expr}
use Rattle.regex_ast.specs.declared.expr.Raw.{Raw}
use Rattle.regex_ast.specs.declared.fault.ReadError.{ReadError}
use Rattle.regex_ast.specs.declared.fault.ReadError.TheVariants.{Fault, Memory}
use Rattle.regex_ast.specs.declared.fault.Why.TheVariants as why
use Rattle.regex_tokens.specs.Cuts.{Cuts}
use Rattle.regex_tokens.specs.declared.comments.Comments.TheVariants.{OfDefinitions, OfEntries}
use Rattle.regex_tokens.specs.declared.token.Ending.{Ending}
use Rattle.regex_tokens.specs.declared.token.Ending.TheVariants.{Whole, NoToken}
use Rattle.regex_tokens.specs.declared.token.Place.{Place}
use Rattle.regex_tokens.specs.declared.token.Token.{Token}
use Rattle.regex_reader.specs.Files.{Says, ReadsExpression, no_token, tokens_of, places_of}
use Rattle.regex_reader.specs.Reads.{IsAnswer, IsRead, IsReadExpression}
use Rattle.regex_reader.specs.Verdicts.{placed, IsEntryAnswer}
use Rattle.regex_reader.proofs.Placed.{tokens_placed, places_placed}

pub as_many : (ts : List Token) (line : ℕ) (text : List ℕ) (ps : List Place) (e : Ending) → Cuts OfDefinitions line text ts ps e → length ts ≡ length ps
as_many [] line text [] e cut = refl
as_many [] line text (p ∷ ps) e cut = absurd cut
as_many (t ∷ ts) line text [] e cut = absurd cut
as_many (t ∷ ts) line text (p ∷ ps) e cut = omega (arith, as_many ts _ _ ps e cut.5)

cut_placed : (line : ℕ) (text : List ℕ) (ts : List Token) (ps : List Place) (e : Ending) → Cuts OfDefinitions line text ts ps e → Cuts OfDefinitions line text (tokens_of (placed ts ps)) (places_of (placed ts ps)) e
cut_placed line text ts ps e cut =
    let same = as_many ts line text ps e cut in
    subst (λ (v : List Token). Cuts OfDefinitions line text v (places_of (placed ts ps)) e) (sym (tokens_placed ts ps same)) (subst (λ (v : List Place). Cuts OfDefinitions line text ts v e) (sym (places_placed ts ps same)) cut)

reads : (text : List ℕ) (ts : List Token) (ps : List Place) (e : Ending) → Cuts OfDefinitions 1 text ts ps e → (r : Result (Vec (Define Raw) Global) ReadError) → IsAnswer (Says (placed ts ps) e) r → IsRead text r
reads text ts ps e cut (Ok defines) says = record { placed = placed ts ps; ending = e; cut = cut_placed 1 text ts ps e cut; says = says }
reads text ts ps e cut (Err (Fault line why)) says = record { placed = placed ts ps; ending = e; cut = cut_placed 1 text ts ps e cut; says = says }
reads text ts ps e cut (Err (Memory error)) says = says

pub is_read : (text : List ℕ) (ts us : List Token) (ps qs : List Place) (e : Ending) (r : Result (Vec (Define Raw) Global) ReadError) → Cuts OfDefinitions 1 text ts ps e → us ≡ ts → qs ≡ ps → IsAnswer (Says (placed us qs) e) r → IsRead text r
is_read text ts us ps qs e r cut tokens places says =
    reads text us qs e (subst (λ (v : List Token). Cuts OfDefinitions 1 text v qs e) (sym tokens) (subst (λ (v : List Place). Cuts OfDefinitions 1 text ts v e) (sym places) cut)) r says

entry_reads : (text : List ℕ) (line : ℕ) (ts : List Token) (ps : List Place) → Cuts OfEntries line text ts ps Whole → (r : Result (Expr Raw) ReadError) → IsEntryAnswer line ts r → IsReadExpression text line r
entry_reads text line ts ps cut (Ok expr) says = record { tokens = ts; places = ps; ending = Whole; cut = cut; says = says }
entry_reads text line ts ps cut (Err (Fault at why)) says = record { tokens = ts; places = ps; ending = Whole; cut = cut; says = says }
entry_reads text line ts ps cut (Err (Memory error)) says = says

pub is_entry_read : (text : List ℕ) (line : ℕ) (ts us : List Token) (ps : List Place) (e : Ending) (r : Result (Expr Raw) ReadError) → Cuts OfEntries line text ts ps e → e ≡ Whole → us ≡ ts → IsEntryAnswer line us r → IsReadExpression text line r
is_entry_read text line ts us ps e r cut whole tokens says =
    entry_reads text line us ps (subst (λ (v : Ending). Cuts OfEntries line text us ps v) whole (subst (λ (v : List Token). Cuts OfEntries line text v ps e) (sym tokens) cut)) r says

pub entry_no_token : (text : List ℕ) (line : ℕ) (ts : List Token) (ps : List Place) (e : Ending) (at : ℕ) → Cuts OfEntries line text ts ps e → e ≡ NoToken at → ReadsExpression text line (Err (record { line = at; why = why.Token }))
entry_no_token text line ts ps e at cut is = record { tokens = ts; places = ps; ending = NoToken at; cut = subst (λ (v : Ending). Cuts OfEntries line text ts ps v) is cut; says = no_token at }
