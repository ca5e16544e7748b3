-- What is written comes to a word one move after another: what the first move writes, and then what is behind it.
use Rattle.std.proofs.Common.{◌≡◌, ℕ, ◌↔◌, List, [], ◌∷◌, ◌++◌, Bool, Option, None, Some, true, false, cond, refl, sym, ap, subst, ◌∙◌}
use Rattle.std.specs.Option.{option_to_list}
use Rattle.fsm_base.specs.declared.letters.Sym.{Sym}
use Rattle.flag_diacritics.specs.Numbers.{Features}
use Rattle.flag_runs.specs.Runs.{Passes, RulesView, behind_by}
use Rattle.flag_runs.proofs.Holding.{behind_letter_is}
use Rattle.fst_flagged.specs.Conditions.{is_letter, letter_at, letters_of}
use Rattle.lookup_walk.specs.Walks.{ComesFrom, behind_write, stays_of}
use Rattle.lookup_walk.specs.Ways.{IsSymbol}

pub comes_apart : (rules : Option RulesView) (values : Features) (write : Option Sym) (written word : List Sym) → ComesFrom rules values (option_to_list write ++ written) word
    → (next : Features) × (more : List Sym) × (behind_write rules values write ≡ Some next) × ComesFrom rules next written more × (word ≡ stays_of rules write ++ more)
comes_apart None values write written word is = (values, written, refl, refl, sym is)
comes_apart (Some rules) values None written word (passes, is) = (values, word, refl, (passes, is), refl)
comes_apart (Some rules) values (Some s) written word ((next, behind, passes), is) = (next, letters_of written, behind, (passes, refl), sym is)

pub comes_together : (rules : Option RulesView) (values next : Features) (write : Option Sym) (written more word : List Sym) → behind_write rules values write ≡ Some next
    → ComesFrom rules next written more → word ≡ stays_of rules write ++ more → ComesFrom rules values (option_to_list write ++ written) word
comes_together None values next write written more word behind is word_is = ap (λ v. option_to_list write ++ v) is ∙ sym word_is
comes_together (Some rules) values next None written more word behind (passes, is) word_is =
    let same : values ≡ next = cc in
    (subst (λ v. Passes rules v written) (sym same) passes, is ∙ sym word_is)
comes_together (Some rules) values next (Some s) written more word behind (passes, is) word_is = ((next, behind, passes), ap (λ v. letter_at s ++ v) is ∙ sym word_is)

pub comes_to_nothing : (rules : Option RulesView) (values : Features) (word : List Sym) → ComesFrom rules values [] word ↔ (word ≡ [])
comes_to_nothing None values word = (λ e. sym e, λ e. sym e)
comes_to_nothing (Some rules) values word = (λ (passes, e). sym e, λ e. (tt, sym e))

-- a symbol changes nothing, and stays
pub symbol_behind : (rules : Option RulesView) (values : Features) (write : Option Sym) → ((s : Sym) → write ≡ Some s → IsSymbol rules s) → behind_write rules values write ≡ Some values
symbol_behind None values write are = refl
symbol_behind (Some rules) values None are = refl
symbol_behind (Some rules) values (Some s) are = behind_letter_is rules values s (are s refl)

letter_stays : (s : Sym) → is_letter s ≡ true → letter_at s ≡ s ∷ []
letter_stays s is = ap (λ b. cond b (s ∷ []) []) is

pub symbol_stays : (rules : Option RulesView) (write : Option Sym) → ((s : Sym) → write ≡ Some s → IsSymbol rules s) → stays_of rules write ≡ option_to_list write
symbol_stays None write are = refl
symbol_stays (Some rules) None are = refl
symbol_stays (Some rules) (Some s) are = letter_stays s (are s refl)

-- nothing stays of a condition
pub condition_leaves : (rules : RulesView) (s : Sym) → is_letter s ≡ false → stays_of (Some rules) (Some s) ≡ []
condition_leaves rules s is = ap (λ b. cond b (s ∷ []) []) is
