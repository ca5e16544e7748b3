-- Pieces, escaped or not, as they are written and read.
use Rattle.std.proofs.Common.{◌≡◌, ◌≢◌, ◌≤◌, ℕ, suc, ◌+◌, Bool, true, false, cond, ◌&&◌, ◌==◌, List, [], ◌∷◌, ◌++◌, length, drop, refl, sym, ap, subst, ◌∙◌, arith, append-nil, length-drop}
use Rattle.std.specs.List.{list_all, list_any}
use Rattle.std.proofs.lemmas.Bool.Decides.{Decides-eqb}
use Rattle.std.proofs.lemmas.List.{drop-drop}
use Rattle.regex_tokens.specs.Bytes.{begins, is_escapable}
use Rattle.regex_tokens.specs.Spelling.{Piece, plain, escaped, is_piece, is_escape, written, meant}
use Rattle.regex_tokens.specs.Reading.{piece_len, IsPiecesLen, undone_from}
use Rattle.regex_tokens.proofs.Lists.{and_left, and_right, and_true, false_by, suc_of}

-- a piece at the front is found
pub begins_fine : (p : ℕ → Bool) (q : Piece) (more : List Piece) (rest : List ℕ) → is_piece p q ≡ true → piece_len p (written (q ∷ more) ++ rest) ≢ 0
begins_fine p (plain b) more rest fine none = by (p b) fine none
  where
    by : (here : Bool) → here ≡ true → ◌≡◌ {A = ℕ} (cond here 1 (cond (b == 37 && begins is_escapable (written more ++ rest)) 2 0)) 0 → ⊥
    by true is e = omega arith
    by false is e = cc
begins_fine p (escaped b) more rest fine none = by (p 37) (is_escapable b) fine none
  where
    by : (here next : Bool) → next ≡ true → ◌≡◌ {A = ℕ} (cond here 1 (cond next 2 0)) 0 → ⊥
    by true next is e = omega arith
    by false true is e = omega arith
    by false false is e = cc

-- Pieces behind which none is reach at least as far as any others, and go on where those end.
pub record Reach (p : ℕ → Bool) (ps qs : List Piece) (a b : List ℕ) : Type 0 where
  pub more : List Piece
  pub longer : ps ≡ qs ++ more
  pub fine : list_all (is_piece p) more ≡ true
  pub behind : b ≡ written more ++ a

differs : (p : ℕ → Bool) (b : ℕ) → p 37 ≡ false → p b ≡ true → (b == 37) ≡ false
differs p b escape here = false_by (b == 37) (λ e. sym here ∙ ap p ((Decides-eqb b 37).0 e) ∙ escape)

onward : (p : ℕ → Bool) (c : Piece) (ps qs : List Piece) (a b : List ℕ) → Reach p ps qs a b → Reach p (c ∷ ps) (c ∷ qs) a b
onward p c ps qs a b h = record { more = h.more; longer = ap (λ xs. c ∷ xs) h.longer; fine = h.fine; behind = h.behind }

same_first : (p : ℕ → Bool) (c d : Piece) (ps qs : List Piece) (a b : List ℕ) → c ≡ d → Reach p ps qs a b → Reach p (c ∷ ps) (d ∷ qs) a b
same_first p c d ps qs a b e h = subst (λ x. Reach p (c ∷ ps) (x ∷ qs) a b) e (onward p c ps qs a b h)

heads : (x y : ℕ) (xs ys : List ℕ) → x ∷ xs ≡ y ∷ ys → x ≡ y
heads x y xs ys e = cc

tails : (x y : ℕ) (xs ys : List ℕ) → x ∷ xs ≡ y ∷ ys → xs ≡ ys
tails x y xs ys e = cc

pub reach : (p : ℕ → Bool) → p 37 ≡ false → (ps qs : List Piece) (a b : List ℕ) → list_all (is_piece p) ps ≡ true → list_all (is_piece p) qs ≡ true → piece_len p a ≡ 0 → written ps ++ a ≡ written qs ++ b → Reach p ps qs a b
reach p escape ps [] a b all_p all_q stop e = record { more = ps; longer = refl; fine = all_p; behind = sym e }
reach p escape [] (q ∷ qs) a b all_p all_q stop e = absurd (begins_fine p q qs b (and_left _ _ all_q) (sym (ap (piece_len p) e) ∙ stop))
reach p escape (plain c ∷ ps) (plain d ∷ qs) a b all_p all_q stop e =
    same_first p (plain c) (plain d) ps qs a b (ap plain (heads c d _ _ e)) (reach p escape ps qs a b (and_right (p c) _ all_p) (and_right (p d) _ all_q) stop (tails c d _ _ e))
reach p escape (plain c ∷ ps) (escaped d ∷ qs) a b all_p all_q stop e = let clash : true ≡ false = sym (and_left (p c) _ all_p) ∙ ap p (heads c 37 _ _ e) ∙ escape in absurd cc
reach p escape (escaped c ∷ ps) (plain d ∷ qs) a b all_p all_q stop e = let clash : true ≡ false = sym (and_left (p d) _ all_q) ∙ ap p (sym (heads 37 d _ _ e)) ∙ escape in absurd cc
reach p escape (escaped c ∷ ps) (escaped d ∷ qs) a b all_p all_q stop e =
    let behind : c ∷ written ps ++ a ≡ d ∷ written qs ++ b = tails 37 37 _ _ e in
    same_first p (escaped c) (escaped d) ps qs a b (ap escaped (heads c d _ _ behind)) (reach p escape ps qs a b (and_right (is_escapable c) _ all_p) (and_right (is_escapable d) _ all_q) stop (tails c d _ _ behind))

once_by : (p : ℕ → Bool) (ps qs more : List Piece) (a b : List ℕ) → ps ≡ qs ++ more → list_all (is_piece p) more ≡ true → b ≡ written more ++ a → piece_len p b ≡ 0 → (ps ≡ qs) × (a ≡ b)
once_by p ps qs [] a b longer fine behind stop = (longer ∙ append-nil qs, sym behind)
once_by p ps qs (m ∷ more) a b longer fine behind stop = absurd (begins_fine p m more a (and_left _ _ fine) (sym (ap (piece_len p) behind) ∙ stop))

-- pieces behind which none is are written in one way
pub once : (p : ℕ → Bool) → p 37 ≡ false → (ps qs : List Piece) (a b : List ℕ) → list_all (is_piece p) ps ≡ true → list_all (is_piece p) qs ≡ true → piece_len p a ≡ 0 → piece_len p b ≡ 0 → written ps ++ a ≡ written qs ++ b → (ps ≡ qs) × (a ≡ b)
once p escape ps qs a b all_p all_q stop_a stop_b e =
    let r : Reach p ps qs a b = reach p escape ps qs a b all_p all_q stop_a e in
    once_by p ps qs r.more a b r.longer r.fine r.behind stop_b

pub undone-written : (p : ℕ → Bool) → p 37 ≡ false → (ps : List Piece) → list_all (is_piece p) ps ≡ true → undone_from false (written ps) ≡ meant ps
undone-written p escape [] all = refl
undone-written p escape (plain b ∷ ps) all = rw (differs p b escape (and_left _ _ all)) (ap (λ bs. b ∷ bs) (undone-written p escape ps (and_right (p b) _ all)))
undone-written p escape (escaped b ∷ ps) all = ap (λ bs. b ∷ bs) (undone-written p escape ps (and_right (is_escapable b) _ all))

-- an escape shows in the text
pub escape_shows : (p : ℕ → Bool) → p 37 ≡ false → (ps : List Piece) → list_all (is_piece p) ps ≡ true → list_any (λ b. b == 37) (written ps) ≡ list_any is_escape ps
escape_shows p escape [] all = refl
escape_shows p escape (plain b ∷ ps) all = rw (differs p b escape (and_left _ _ all)) (escape_shows p escape ps (and_right (p b) _ all))
escape_shows p escape (escaped b ∷ ps) all = refl

-- The loop over the pieces.

pub no_pieces : (p : ℕ → Bool) (text : List ℕ) → piece_len p text ≡ 0 → IsPiecesLen p text 0
no_pieces p text stop = record { pieces = []; fine = refl; spelled = refl; within = omega arith; stops = stop }

pub piece_within : (p : ℕ → Bool) (text : List ℕ) → piece_len p text ≤ length text
piece_within p [] = omega arith
piece_within p (b ∷ bs) = by (p b) bs
  where
    second : (e : Bool) (bs : List ℕ) → (b == 37 && begins is_escapable bs) ≡ e → cond e 2 0 ≤ length (b ∷ bs)
    second true [] e = let clash : begins is_escapable [] ≡ true = and_right (b == 37) _ e in absurd cc
    second true (c ∷ cs) e = omega arith
    second false bs e = omega arith

    by : (here : Bool) (bs : List ℕ) → cond here 1 (cond (b == 37 && begins is_escapable bs) 2 0) ≤ length (b ∷ bs)
    by true bs = omega arith
    by false bs = second (b == 37 && begins is_escapable bs) bs refl

plain_step : (p : ℕ → Bool) (b : ℕ) (bs : List ℕ) (m : ℕ) → p b ≡ true → IsPiecesLen p bs m → IsPiecesLen p (b ∷ bs) (suc m)
plain_step p b bs m here h = record { pieces = plain b ∷ h.pieces; fine = and_true _ _ here h.fine; spelled = ap (λ xs. b ∷ xs) h.spelled; within = omega (arith, h.within); stops = h.stops }

escape_step : (p : ℕ → Bool) (b : ℕ) (bs : List ℕ) (m : ℕ) → is_escapable b ≡ true → IsPiecesLen p bs m → IsPiecesLen p (37 ∷ b ∷ bs) (suc (suc m))
escape_step p b bs m here h = record { pieces = escaped b ∷ h.pieces; fine = and_true _ _ here h.fine; spelled = ap (λ xs. 37 ∷ b ∷ xs) h.spelled; within = omega (arith, h.within); stops = h.stops }

pub piece_step : (p : ℕ → Bool) (text : List ℕ) (m : ℕ) → piece_len p text ≢ 0 → IsPiecesLen p (drop (piece_len p text) text) m → IsPiecesLen p text (piece_len p text + m)
piece_step p [] m some h = absurd (some refl)
piece_step p (b ∷ bs) m some h = by (p b) refl bs some h
  where
    Goal : ℕ → List ℕ → Type 0
    Goal n bs = n ≢ 0 → IsPiecesLen p (drop n (b ∷ bs)) m → IsPiecesLen p (b ∷ bs) (n + m)

    second : (e : Bool) (bs : List ℕ) → (b == 37 && begins is_escapable bs) ≡ e → Goal (cond e 2 0) bs
    second true [] e some h = let clash : begins is_escapable [] ≡ true = and_right (b == 37) _ e in absurd cc
    second true (c ∷ cs) e some h =
        let first : b ≡ 37 = (Decides-eqb b 37).0 (and_left (b == 37) _ e) in
        let there : IsPiecesLen p (37 ∷ c ∷ cs) (suc (suc m)) = escape_step p c cs m (and_right (b == 37) _ e) h in
        let sum : suc (suc m) ≡ 2 + m = omega arith in
        subst (λ x. IsPiecesLen p (x ∷ c ∷ cs) (2 + m)) (sym first) (subst (IsPiecesLen p (37 ∷ c ∷ cs)) sum there)
    second false bs e some h = absurd (some refl)

    by : (here : Bool) → p b ≡ here → (bs : List ℕ) → Goal (cond here 1 (cond (b == 37 && begins is_escapable bs) 2 0)) bs
    by true here bs some h = subst (IsPiecesLen p (b ∷ bs)) (sym (suc_of m)) (plain_step p b bs m here h)
    by false here bs some h = second (b == 37 && begins is_escapable bs) bs refl some h

pub piece_none : (p : ℕ → Bool) (text : List ℕ) (n : ℕ) → length text ≤ n → piece_len p (drop n text) ≡ 0
piece_none p text n past = by (drop n text) (omega (arith, length-drop n text))
  where
    by : (rest : List ℕ) → length rest ≡ 0 → piece_len p rest ≡ 0
    by [] e = refl
    by (b ∷ bs) e = absurd (omega arith)

pub past_end : (p : ℕ → Bool) (text : List ℕ) (n : ℕ) → piece_len p (drop n text) ≡ 0 → ((m : ℕ) → IsPiecesLen p (drop n text) m → IsPiecesLen p text (n + m)) → IsPiecesLen p text n
past_end p text n stop so_far = let sum : n + 0 ≡ n = omega arith in subst (IsPiecesLen p text) sum (so_far 0 (no_pieces p (drop n text) stop))

pub go_on : (p : ℕ → Bool) (text : List ℕ) (n k : ℕ) → k ≡ piece_len p (drop n text) → k ≢ 0 → n ≤ length text → ((m : ℕ) → IsPiecesLen p (drop n text) m → IsPiecesLen p text (n + m)) → (n + k ≤ length text) × ((m : ℕ) → IsPiecesLen p (drop (n + k) text) m → IsPiecesLen p text (n + k + m))
go_on p text n k is some low so_far = (
  omega (arith, piece_within p (drop n text), length-drop n text, is),
  (λ m h.
      let there : IsPiecesLen p (drop (piece_len p (drop n text)) (drop n text)) m = subst (λ j. IsPiecesLen p (drop j (drop n text)) m) is (subst (λ xs. IsPiecesLen p xs m) (sym (drop-drop k n text)) h) in
      let here : IsPiecesLen p (drop n text) (piece_len p (drop n text) + m) = piece_step p (drop n text) m (λ e. some (is ∙ e)) there in
      let sum : n + (piece_len p (drop n text) + m) ≡ n + k + m = omega (arith, is) in
      subst (IsPiecesLen p text) sum (so_far (piece_len p (drop n text) + m) here)),
)
