use Rattle.std.proofs.Common.{◌≡◌, ◌<◌, ◌≤◌, ◌+◌, ◌++◌, [], ◌∷◌, ℕ, Some, length, MatchBool, subst, ap, refl, arith, ◌∙◌, length-append}
use Rattle.std.specs.List.{slice_get}
use Rattle.word_relations.specs.Answers.{most_answers}
use Rattle.lookup.specs.Listings.{AddsText}
use Rattle.lookup.specs.Walks.{Follows, IsLeast, WritesText}
use Rattle.lookup.proofs.ListingSteps.{all_listed, first_holds, follows_short, listing_enter, listing_first, listing_leave, more_listed}
use Rattle.lookup.proofs.OrderOfBytes.{enter_left, leave_left}
use Rattle.lookup.proofs.listing.listed.Goals as goal

pub moves-init : goal.moves-init
moves-init c =
    let walk = c.args.walk.now in
    let rows = walk.rows in
    let new = c.add.new.found.items in
    let old = c.new-found.result.items in
    let none : old ≡ [] = c.new-found.ensures.items in
    let added : AddsText rows walk.text.items old new =
    first_holds c.in_ok-add.field-0 (AddsText rows walk.text.items old new) (WritesText rows walk.text.items × (new ≡ old) × (length old ≡ most_answers))
    c.in_ok-add.ensures.added (λ h. let e = ap length none in let f = h.2 in omega arith) in
    let first = listing_first rows new (subst (λ t. AddsText rows t [] new) c.requires.text (subst (λ o. AddsText rows walk.text.items o new) none added)) in
    record {
      walk = c.requires.walk;
      rows = refl;
      bound = refl;
      short = let e = ap length c.requires.text in omega arith;
      listing = rw (c.requires.text, c.requires.floor) first;
      few = c.in_ok-add.ensures.few;
    }

pub moves-smaller : goal.moves-smaller
moves-smaller c =
    let inv = c.moves.invariant in
    let walk = c.moves.walk in
    let new = c.leave.new.self in
    let left_is = c.if-not-leave.ensures.left in
    let byte = left_is.0 in
    let short : length walk.text.items ≤ walk.marked.bound = rw inv.bound inv.short in
    let low : byte + 1 ≤ 256 = let f = left_is.1.1 in let w = left_is.1.2.floor_within in omega arith in
    rw (c.if-not-leave.ensures.bound, left_is.1.1)
    (leave_left walk.marked.bound walk.text.items new.text.items walk.floor byte left_is.1.0 short inv.walk.bytes inv.walk.floor_within left_is.1.2.bytes low)

pub moves-preserved : goal.moves-preserved
moves-preserved c =
    let inv = c.moves.invariant in
    let walk = c.moves.walk in
    let new = c.leave.new.self in
    let rows = c.args.walk.now.rows in
    let left_is = c.if-not-leave.ensures.left in
    let byte = left_is.0 in
    let next = subst (λ rs. IsLeast (λ b. (walk.floor ≤ b) × Follows rs walk.text.items b) c.next.result) inv.rows c.next.ensures in
    record {
      walk = left_is.1.2;
      rows = c.if-not-leave.ensures.rows ∙ inv.rows;
      bound = c.if-not-leave.ensures.bound ∙ inv.bound;
      short = let e = ap length left_is.1.0 in let l = length-append new.text.items (byte ∷ []) in let s = inv.short in omega arith;
      listing = rw left_is.1.1
          (listing_leave rows walk.text.items walk.floor c.moves.found.items inv.listing (λ other low goes. next.none c.in-None.is other (low, goes)) new.text.items byte left_is.1.0);
      few = inv.few;
    }

pub moves-smaller-else-not-branch : goal.moves-smaller-else-not-branch
moves-smaller-else-not-branch c =
    let inv = c.moves.invariant in
    let walk = c.moves.walk in
    let new = c.enter.new.self in
    let byte = c.in-Some.byte in
    let rows = c.args.walk.now.rows in
    let entered = c.in_ok-enter-in-Some.ensures in
    let least = c.next.ensures.passes byte c.in-Some.is in
    let goes : Follows rows walk.text.items byte = subst (λ rs. Follows rs walk.text.items byte) inv.rows least.1 in
    let short : length (walk.text.items ++ byte ∷ []) ≤ walk.marked.bound = rw inv.bound (follows_short rows c.args.walk.now.marked.bound walk.text.items byte c.requires.useful c.requires.short goes) in
    let small = subst (λ t. (k b : ℕ) → slice_get t k ≡ Some b → b < 256) entered.text entered.walk.bytes in
    rw (entered.bound, entered.text, entered.floor)
    (enter_left walk.marked.bound walk.text.items walk.floor byte short inv.walk.bytes inv.walk.floor_within small least.0)

pub moves-preserved-else-not-branch : goal.moves-preserved-else-not-branch
moves-preserved-else-not-branch c =
    let inv = c.moves.invariant in
    let walk = c.moves.walk in
    let new = c.enter.new.self in
    let byte = c.in-Some.byte in
    let rows = c.args.walk.now.rows in
    let entered = c.in_ok-enter-in-Some.ensures in
    let next = subst (λ rs. IsLeast (λ b. (walk.floor ≤ b) × Follows rs walk.text.items b) c.next.result) inv.rows c.next.ensures in
    let least = next.passes byte c.in-Some.is in
    let old = c.moves.found.items in
    let found = c.add-in-Some.new.found.items in
    let at_new = subst (λ b. MatchBool b (AddsText new.rows new.text.items old found) (WritesText new.rows new.text.items × (found ≡ old) × (length old ≡ most_answers))) c.if-not-branch.false c.in_ok-add-in-Some.ensures.added in
    let added : AddsText rows (walk.text.items ++ byte ∷ []) old found =
    subst (λ t. AddsText rows t old found) entered.text (subst (λ rs. AddsText rs new.text.items old found) (entered.rows ∙ inv.rows) at_new) in
    record {
      walk = entered.walk;
      rows = entered.rows ∙ inv.rows;
      bound = entered.bound ∙ inv.bound;
      short = rw entered.text (follows_short rows c.args.walk.now.marked.bound walk.text.items byte c.requires.useful c.requires.short least.1);
      listing = rw (entered.text, entered.floor)
          (listing_enter rows walk.text.items walk.floor old inv.listing byte least.0 (λ other low goes. next.least byte other c.in-Some.is (low, goes)) found added);
      few = c.in_ok-add-in-Some.ensures.few;
    }

pub returns-then-not-branch-clause-more : goal.returns-then-not-branch-clause-more
returns-then-not-branch-clause-more c =
    let inv = c.moves.invariant in
    let walk = c.moves.walk in
    let new = c.enter.new.self in
    let byte = c.in-Some.byte in
    let rows = c.args.walk.now.rows in
    let entered = c.in_ok-enter-in-Some.ensures in
    let next = subst (λ rs. IsLeast (λ b. (walk.floor ≤ b) × Follows rs walk.text.items b) c.next.result) inv.rows c.next.ensures in
    let least = next.passes byte c.in-Some.is in
    let old = c.moves.found.items in
    let found = c.add-in-Some.new.found.items in
    let full = subst (λ b. MatchBool b (AddsText new.rows new.text.items old found) (WritesText new.rows new.text.items × (found ≡ old) × (length old ≡ most_answers))) c.if-not-branch.true c.in_ok-add-in-Some.ensures.added in
    let written : WritesText rows (walk.text.items ++ byte ∷ []) =
    subst (λ t. WritesText rows t) entered.text (subst (λ rs. WritesText rs new.text.items) (entered.rows ∙ inv.rows) full.0) in
    more_listed rows walk.text.items walk.floor old inv.listing c.args.walk.now.marked.bound byte least.0 (λ other low goes. next.least byte other c.in-Some.is (low, goes))
    c.requires.short written full.2

pub returns-then-not-leave-clause-all : goal.returns-then-not-leave-clause-all
returns-then-not-leave-clause-all c =
    let inv = c.moves.invariant in
    let walk = c.moves.walk in
    let new = c.leave.new.self in
    let rows = c.args.walk.now.rows in
    let done = c.if-not-leave.ensures.left in
    let next = subst (λ rs. IsLeast (λ b. (walk.floor ≤ b) × Follows rs walk.text.items b) c.next.result) inv.rows c.next.ensures in
    all_listed rows walk.text.items walk.floor c.moves.found.items inv.listing (λ other low goes. next.none c.in-None.is other (low, goes)) done inv.few

pub enter-requires-clause-follows : goal.enter-requires-clause-follows
enter-requires-clause-follows c = (c.next.ensures.passes c.in-Some.byte c.in-Some.is).1
