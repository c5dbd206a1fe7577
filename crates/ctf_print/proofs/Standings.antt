-- Types that stand for others.
use Rattle.std.proofs.Common.{◌≡◌, ℕ, zero, suc, ◌+◌, ◌-◌, ◌∙◌, Option, Some, None, refl, ap, arith}
use Rattle.std.specs.BTreeMap.{BTreeMap, IsEmpty}
use Rattle.std.specs.Option.{option_map}
use Rattle.ctf_model.specs.format.Shown.{Shape, shape}
use Rattle.ctf_model.specs.spaces.Space.{Space, space_type}
use Rattle.ctf_model.specs.format.Term.{Term}
use Rattle.ctf_model.specs.spaces.TypeNumbers.{or_no_type}
use Rattle.ctf_model.specs.values.Values.{shown_within}
use Rattle.ctf_print.specs.ShowCacheView.{AreRight}
use Rattle.ctf_print.specs.Standing.{StandsFor}
use Rattle.ctf_print.specs.declared.show_cache.Behind.{Behind}
use Rattle.ctf_print.specs.ShowRules.{like, rule_in, text_by_rule}
use Rattle.ctf_print.proofs.Tellings.{type_shown}

pub itself : (s : Space) (n : ℕ) → StandsFor s n 0 n
itself s n memory k p = let e : k ≡ k - 0 = omega arith in ap (λ (j : ℕ). shown_within s memory j n p) e

pub one_step : (s : Space) (n t : ℕ) (o : Option Term) (x : Shape) → (n ≡ 0 → ⊥) → or_no_type o ≡ space_type s n → option_map (λ z. shape z.body) o ≡ Some x → rule_in x ≡ like t → StandsFor s n 1 t
unfolding shown_within
one_step s n t o x some e is how memory zero p = refl
one_step s n t o x some e is how memory (suc k) p =
    type_shown s memory (suc k) n p o x (λ z. absurd cc) some e is ∙ ap (text_by_rule s memory (shown_within s memory (suc k - 1)) p) how

pub more_steps : (s : Space) (n t m steps : ℕ) → StandsFor s n 1 t → StandsFor s t steps m → StandsFor s n (steps + 1) m
more_steps s n t m steps first rest memory k p =
    let e : k - 1 - steps ≡ k - (steps + 1) = omega arith in
    first memory k p ∙ rest memory (k - 1) p ∙ ap (λ (j : ℕ). shown_within s memory j m p) e

pub none_known : (s : Space) (m : BTreeMap ℕ Behind) → IsEmpty m → AreRight s m
none_known s m e q b is = absurd (nothing b (rw e at is))
  where
    nothing : (x : Behind) → None ≡ Some x → ⊥
    nothing x h = absurd cc
