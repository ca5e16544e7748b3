-- A line is one command, and one look-up, only.
use Rattle.std.proofs.Common.{◌≡◌, ℕ, List, codes, slice_index_or, arith, refl, sym, ap, subst, ◌∙◌}
use Rattle.reply_meaning.specs.Replies.{without_return}
use Rattle.edit_script.specs.Commands.{HasNoSpace, IsAlone, Orders, SpellsCommand, Asks, SpellsLook, OneCommand, OneLook, alone, orders, rests, asks}
use Rattle.edit_script.specs.declared.commands.EditCommand.{EditCommand}
use Rattle.edit_script.specs.declared.commands.EditCommand.TheVariants as commands
use Rattle.edit_script.specs.declared.looks.Look.{Look}
use Rattle.edit_script.specs.declared.looks.Look.TheVariants as looks
use Rattle.edit_script.proofs.Splits.{one_split, no_split, spelled_out}
use Rattle.edit_script.proofs.Parts.{one_put, one_splice, one_net}

known : (keyword word : List ℕ) → keyword ≡ word → HasNoSpace word → HasNoSpace keyword
known keyword word e h = subst HasNoSpace (sym e) h

-- the keyword has no space
pub ordered_word : (keyword rest : List ℕ) (c : EditCommand) → Orders keyword rest c → HasNoSpace keyword
ordered_word keyword rest (commands.Put f n) h = known keyword (codes "put") h.0 (spelled_out (codes "put") refl)
ordered_word keyword rest (commands.Splice f i j n) h = known keyword (codes "splice") h.0 (spelled_out (codes "splice") refl)
ordered_word keyword rest (commands.Drop f) h = known keyword (codes "drop") h.0 (spelled_out (codes "drop") refl)
ordered_word keyword rest (commands.Up n w) h = known keyword (codes "up") h.0 (spelled_out (codes "up") refl)
ordered_word keyword rest (commands.Down n w) h = known keyword (codes "down") h.0 (spelled_out (codes "down") refl)
ordered_word keyword rest commands.Begin h = absurd h
ordered_word keyword rest commands.Commit h = absurd h
ordered_word keyword rest commands.Abandon h = absurd h
ordered_word keyword rest commands.End h = absurd h

-- a word alone has none either
pub alone_word : (text : List ℕ) (c : EditCommand) → IsAlone text c → HasNoSpace text
alone_word text (commands.Put f n) h = absurd h
alone_word text (commands.Splice f i j n) h = absurd h
alone_word text (commands.Drop f) h = absurd h
alone_word text (commands.Up n w) h = absurd h
alone_word text (commands.Down n w) h = absurd h
alone_word text commands.Begin h = known text (codes "begin") h (spelled_out (codes "begin") refl)
alone_word text commands.Commit h = known text (codes "commit") h (spelled_out (codes "commit") refl)
alone_word text commands.Abandon h = known text (codes "abandon") h (spelled_out (codes "abandon") refl)
alone_word text commands.End h = known text (codes "end") h (spelled_out (codes "end") refl)

pub asked_word : (keyword rest : List ℕ) (l : Look) → Asks keyword rest l → HasNoSpace keyword
asked_word keyword rest (looks.Up n w) h = known keyword (codes "up") h.0 (spelled_out (codes "up") refl)
asked_word keyword rest (looks.Down n w) h = known keyword (codes "down") h.0 (spelled_out (codes "down") refl)
asked_word keyword rest (looks.Gloss n w) h = known keyword (codes "gloss") h.0 (spelled_out (codes "gloss") refl)
asked_word keyword rest looks.Rest h = absurd h

two_words : (keyword a b : List ℕ) → keyword ≡ a → keyword ≡ b → a ≡ b
two_words keyword a b p q = sym p ∙ q

one_order : (keyword rest : List ℕ) (a b : EditCommand) → Orders keyword rest a → Orders keyword rest b → a ≡ b
one_order keyword rest (commands.Put f m) (commands.Put f' m') p q = let same = one_put rest f f' m m' p.1 q.1 in ap (λ (x : List ℕ). commands.Put x m) same.0 ∙ ap (commands.Put f') same.1
one_order keyword rest (commands.Put f m) (commands.Splice f' i' j' k') p q = let clash = two_words keyword (codes "put") (codes "splice") p.0 q.0 in cc
one_order keyword rest (commands.Put f m) (commands.Drop f') p q = let clash = two_words keyword (codes "put") (codes "drop") p.0 q.0 in cc
one_order keyword rest (commands.Put f m) (commands.Up m' v') p q = let clash = two_words keyword (codes "put") (codes "up") p.0 q.0 in cc
one_order keyword rest (commands.Put f m) (commands.Down m' v') p q = let clash = two_words keyword (codes "put") (codes "down") p.0 q.0 in cc
one_order keyword rest (commands.Put f m) commands.Begin p q = absurd q
one_order keyword rest (commands.Put f m) commands.Commit p q = absurd q
one_order keyword rest (commands.Put f m) commands.Abandon p q = absurd q
one_order keyword rest (commands.Put f m) commands.End p q = absurd q
one_order keyword rest (commands.Splice f i j k) (commands.Put f' m') p q = let clash = two_words keyword (codes "splice") (codes "put") p.0 q.0 in cc
one_order keyword rest (commands.Splice f i j k) (commands.Splice f' i' j' k') p q = let same = one_splice rest f f' i j k i' j' k' p.1 q.1 in ap (λ (x : List ℕ). commands.Splice x i j k) same.0 ∙ ap (λ (n : ℕ). commands.Splice f' n j k) same.1 ∙ ap (λ (n : ℕ). commands.Splice f' i' n k) same.2 ∙ ap (commands.Splice f' i' j') same.3
one_order keyword rest (commands.Splice f i j k) (commands.Drop f') p q = let clash = two_words keyword (codes "splice") (codes "drop") p.0 q.0 in cc
one_order keyword rest (commands.Splice f i j k) (commands.Up m' v') p q = let clash = two_words keyword (codes "splice") (codes "up") p.0 q.0 in cc
one_order keyword rest (commands.Splice f i j k) (commands.Down m' v') p q = let clash = two_words keyword (codes "splice") (codes "down") p.0 q.0 in cc
one_order keyword rest (commands.Splice f i j k) commands.Begin p q = absurd q
one_order keyword rest (commands.Splice f i j k) commands.Commit p q = absurd q
one_order keyword rest (commands.Splice f i j k) commands.Abandon p q = absurd q
one_order keyword rest (commands.Splice f i j k) commands.End p q = absurd q
one_order keyword rest (commands.Drop f) (commands.Put f' m') p q = let clash = two_words keyword (codes "drop") (codes "put") p.0 q.0 in cc
one_order keyword rest (commands.Drop f) (commands.Splice f' i' j' k') p q = let clash = two_words keyword (codes "drop") (codes "splice") p.0 q.0 in cc
one_order keyword rest (commands.Drop f) (commands.Drop f') p q = ap commands.Drop (sym p.2 ∙ q.2)
one_order keyword rest (commands.Drop f) (commands.Up m' v') p q = let clash = two_words keyword (codes "drop") (codes "up") p.0 q.0 in cc
one_order keyword rest (commands.Drop f) (commands.Down m' v') p q = let clash = ap (λ (w : List ℕ). slice_index_or w 2 0) (two_words keyword (codes "drop") (codes "down") p.0 q.0) in absurd (omega (arith, clash))
one_order keyword rest (commands.Drop f) commands.Begin p q = absurd q
one_order keyword rest (commands.Drop f) commands.Commit p q = absurd q
one_order keyword rest (commands.Drop f) commands.Abandon p q = absurd q
one_order keyword rest (commands.Drop f) commands.End p q = absurd q
one_order keyword rest (commands.Up m v) (commands.Put f' m') p q = let clash = two_words keyword (codes "up") (codes "put") p.0 q.0 in cc
one_order keyword rest (commands.Up m v) (commands.Splice f' i' j' k') p q = let clash = two_words keyword (codes "up") (codes "splice") p.0 q.0 in cc
one_order keyword rest (commands.Up m v) (commands.Drop f') p q = let clash = two_words keyword (codes "up") (codes "drop") p.0 q.0 in cc
one_order keyword rest (commands.Up m v) (commands.Up m' v') p q = let same = one_net rest m m' v v' p.1 q.1 in ap (λ (x : List ℕ). commands.Up x v) same.0 ∙ ap (commands.Up m') same.1
one_order keyword rest (commands.Up m v) (commands.Down m' v') p q = let clash = two_words keyword (codes "up") (codes "down") p.0 q.0 in cc
one_order keyword rest (commands.Up m v) commands.Begin p q = absurd q
one_order keyword rest (commands.Up m v) commands.Commit p q = absurd q
one_order keyword rest (commands.Up m v) commands.Abandon p q = absurd q
one_order keyword rest (commands.Up m v) commands.End p q = absurd q
one_order keyword rest (commands.Down m v) (commands.Put f' m') p q = let clash = two_words keyword (codes "down") (codes "put") p.0 q.0 in cc
one_order keyword rest (commands.Down m v) (commands.Splice f' i' j' k') p q = let clash = two_words keyword (codes "down") (codes "splice") p.0 q.0 in cc
one_order keyword rest (commands.Down m v) (commands.Drop f') p q = let clash = ap (λ (w : List ℕ). slice_index_or w 2 0) (two_words keyword (codes "down") (codes "drop") p.0 q.0) in absurd (omega (arith, clash))
one_order keyword rest (commands.Down m v) (commands.Up m' v') p q = let clash = two_words keyword (codes "down") (codes "up") p.0 q.0 in cc
one_order keyword rest (commands.Down m v) (commands.Down m' v') p q = let same = one_net rest m m' v v' p.1 q.1 in ap (λ (x : List ℕ). commands.Down x v) same.0 ∙ ap (commands.Down m') same.1
one_order keyword rest (commands.Down m v) commands.Begin p q = absurd q
one_order keyword rest (commands.Down m v) commands.Commit p q = absurd q
one_order keyword rest (commands.Down m v) commands.Abandon p q = absurd q
one_order keyword rest (commands.Down m v) commands.End p q = absurd q
one_order keyword rest commands.Begin b p q = absurd p
one_order keyword rest commands.Commit b p q = absurd p
one_order keyword rest commands.Abandon b p q = absurd p
one_order keyword rest commands.End b p q = absurd p

one_asked : (keyword rest : List ℕ) (a b : Look) → Asks keyword rest a → Asks keyword rest b → a ≡ b
one_asked keyword rest (looks.Up m v) (looks.Up m' v') p q = let same = one_net rest m m' v v' p.1 q.1 in ap (λ (x : List ℕ). looks.Up x v) same.0 ∙ ap (looks.Up m') same.1
one_asked keyword rest (looks.Up m v) (looks.Down m' v') p q = let clash = two_words keyword (codes "up") (codes "down") p.0 q.0 in cc
one_asked keyword rest (looks.Up m v) (looks.Gloss m' v') p q = let clash = two_words keyword (codes "up") (codes "gloss") p.0 q.0 in cc
one_asked keyword rest (looks.Up m v) looks.Rest p q = absurd q
one_asked keyword rest (looks.Down m v) (looks.Up m' v') p q = let clash = two_words keyword (codes "down") (codes "up") p.0 q.0 in cc
one_asked keyword rest (looks.Down m v) (looks.Down m' v') p q = let same = one_net rest m m' v v' p.1 q.1 in ap (λ (x : List ℕ). looks.Down x v) same.0 ∙ ap (looks.Down m') same.1
one_asked keyword rest (looks.Down m v) (looks.Gloss m' v') p q = let clash = two_words keyword (codes "down") (codes "gloss") p.0 q.0 in cc
one_asked keyword rest (looks.Down m v) looks.Rest p q = absurd q
one_asked keyword rest (looks.Gloss m v) (looks.Up m' v') p q = let clash = two_words keyword (codes "gloss") (codes "up") p.0 q.0 in cc
one_asked keyword rest (looks.Gloss m v) (looks.Down m' v') p q = let clash = two_words keyword (codes "gloss") (codes "down") p.0 q.0 in cc
one_asked keyword rest (looks.Gloss m v) (looks.Gloss m' v') p q = let same = one_net rest m m' v v' p.1 q.1 in ap (λ (x : List ℕ). looks.Gloss x v) same.0 ∙ ap (looks.Gloss m') same.1
one_asked keyword rest (looks.Gloss m v) looks.Rest p q = absurd q
one_asked keyword rest looks.Rest b p q = absurd p

-- a word alone is one command only
one_alone : (text : List ℕ) (a b : EditCommand) → IsAlone text a → IsAlone text b → a ≡ b
one_alone text (commands.Put f n) b p q = absurd p
one_alone text (commands.Splice f i j n) b p q = absurd p
one_alone text (commands.Drop f) b p q = absurd p
one_alone text (commands.Up n w) b p q = absurd p
one_alone text (commands.Down n w) b p q = absurd p
one_alone text commands.Begin (commands.Put f n) p q = absurd q
one_alone text commands.Begin (commands.Splice f i j n) p q = absurd q
one_alone text commands.Begin (commands.Drop f) p q = absurd q
one_alone text commands.Begin (commands.Up n w) p q = absurd q
one_alone text commands.Begin (commands.Down n w) p q = absurd q
one_alone text commands.Begin commands.Begin p q = refl
one_alone text commands.Begin commands.Commit p q = let clash = two_words text (codes "begin") (codes "commit") p q in cc
one_alone text commands.Begin commands.Abandon p q = let clash = two_words text (codes "begin") (codes "abandon") p q in cc
one_alone text commands.Begin commands.End p q = let clash = two_words text (codes "begin") (codes "end") p q in cc
one_alone text commands.Commit (commands.Put f n) p q = absurd q
one_alone text commands.Commit (commands.Splice f i j n) p q = absurd q
one_alone text commands.Commit (commands.Drop f) p q = absurd q
one_alone text commands.Commit (commands.Up n w) p q = absurd q
one_alone text commands.Commit (commands.Down n w) p q = absurd q
one_alone text commands.Commit commands.Begin p q = let clash = two_words text (codes "commit") (codes "begin") p q in cc
one_alone text commands.Commit commands.Commit p q = refl
one_alone text commands.Commit commands.Abandon p q = let clash = two_words text (codes "commit") (codes "abandon") p q in cc
one_alone text commands.Commit commands.End p q = let clash = two_words text (codes "commit") (codes "end") p q in cc
one_alone text commands.Abandon (commands.Put f n) p q = absurd q
one_alone text commands.Abandon (commands.Splice f i j n) p q = absurd q
one_alone text commands.Abandon (commands.Drop f) p q = absurd q
one_alone text commands.Abandon (commands.Up n w) p q = absurd q
one_alone text commands.Abandon (commands.Down n w) p q = absurd q
one_alone text commands.Abandon commands.Begin p q = let clash = two_words text (codes "abandon") (codes "begin") p q in cc
one_alone text commands.Abandon commands.Commit p q = let clash = two_words text (codes "abandon") (codes "commit") p q in cc
one_alone text commands.Abandon commands.Abandon p q = refl
one_alone text commands.Abandon commands.End p q = let clash = two_words text (codes "abandon") (codes "end") p q in cc
one_alone text commands.End (commands.Put f n) p q = absurd q
one_alone text commands.End (commands.Splice f i j n) p q = absurd q
one_alone text commands.End (commands.Drop f) p q = absurd q
one_alone text commands.End (commands.Up n w) p q = absurd q
one_alone text commands.End (commands.Down n w) p q = absurd q
one_alone text commands.End commands.Begin p q = let clash = two_words text (codes "end") (codes "begin") p q in cc
one_alone text commands.End commands.Commit p q = let clash = two_words text (codes "end") (codes "commit") p q in cc
one_alone text commands.End commands.Abandon p q = let clash = two_words text (codes "end") (codes "abandon") p q in cc
one_alone text commands.End commands.End p q = refl

one_spelling : (text : List ℕ) (a b : EditCommand) → SpellsCommand text a → SpellsCommand text b → a ≡ b
one_spelling text a b (alone x) (alone y) = one_alone text a b x y
one_spelling text a b (alone x) (orders k r y h) = absurd (no_split text k r (alone_word text a x) y)
one_spelling text a b (orders k r x h) (alone y) = absurd (no_split text k r (alone_word text b y) x)
one_spelling text a b (orders k r x g) (orders k' r' y h) =
    let parts = one_split k k' r r' (ordered_word k r a g) (ordered_word k' r' b h) (sym x ∙ y) in
    one_order k' r' a b (subst (λ (w : List ℕ). Orders w r' a) parts.0 (subst (λ (w : List ℕ). Orders k w a) parts.1 g)) h

pub one_command : OneCommand
one_command line a b p q = one_spelling (without_return line) a b p.1 q.1

one_wish : (text : List ℕ) (a b : Look) → SpellsLook text a → SpellsLook text b → a ≡ b
one_wish text looks.Rest looks.Rest (rests x) (rests y) = refl
one_wish text looks.Rest b (rests x) (asks k r y h) = absurd (no_split (codes "---") k r (spelled_out (codes "---") refl) (sym x ∙ y))
one_wish text a looks.Rest (asks k r x h) (rests y) = absurd (no_split (codes "---") k r (spelled_out (codes "---") refl) (sym y ∙ x))
one_wish text a b (asks k r x g) (asks k' r' y h) =
    let parts = one_split k k' r r' (asked_word k r a g) (asked_word k' r' b h) (sym x ∙ y) in
    one_asked k' r' a b (subst (λ (w : List ℕ). Asks w r' a) parts.0 (subst (λ (w : List ℕ). Asks k w a) parts.1 g)) h

pub one_look : OneLook
one_look line a b p q = one_wish (without_return line) a b p.1 q.1
