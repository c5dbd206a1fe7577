-- The declaration of a type does not depend on the bound on layers, once that is large enough.
use Rattle.std.proofs.Common.{◌≡◌, ℕ, zero, suc, ◌≤◌, ◌<◌, cond, eqb, Result, Ok, Err, refl, sym, ap, ◌∙◌, arith}
use Rattle.std.specs.Prelude.{codes}
use Rattle.std.specs.List.{AllByRecursion}
use Rattle.ctf_model.specs.rules.ChainLaws.{HasShortChainsIn}
use Rattle.ctf_model.specs.rules.Chains.{declarator}
use Rattle.ctf_model.specs.names.NameLaws.{NamesAreTheirRules, NamesAskByDeclarator, declaration_rule}
use Rattle.ctf_model.specs.names.TypeNames.{Declaration, around, bare_name, declaration, declaration_of, declaration_within, longest_text, text_of_declaration}
use Rattle.ctf_model.specs.spaces.Space.{Space, space_type}
use Rattle.ctf_model.specs.format.Term.{Term, Body}
use Rattle.ctf_model.specs.format.Term as term
use Rattle.ctf_model.specs.declared.faults.Fault.{Fault}
use Rattle.ctf_model.specs.declared.layers.Layer.TheVariants.{Pointer, Array, Function, Qualified}
use Rattle.ctf_model.specs.declared.layers.Qualifier.TheVariants.{Volatile, Const, Restrict}
use Rattle.ctf_model.proofs.Settled.{all_map}
use Rattle.ctf_model.proofs.ShortChains.{PassesOn, descend}

-- ---- dependence of a declaration

pub names_ask : NamesAskByDeclarator
names_ask f g name (term.pointer t) a = ap (around Pointer) a.0
names_ask f g name (term.array e) a = ap (around (Array e.count)) a.0
names_ask f g name (term.function ret ts) a = ap (around Function) a.0
names_ask f g name (term.volatile t) a = ap (around (Qualified Volatile)) a.0
names_ask f g name (term.const t) a = ap (around (Qualified Const)) a.0
names_ask f g name (term.restrict t) a = ap (around (Qualified Restrict)) a.0
names_ask f g name (term.typedef t) a = refl
names_ask f g name (term.integer x) a = refl
names_ask f g name (term.float x) a = refl
names_ask f g name (term.struct said ms) a = refl
names_ask f g name (term.union said ms) a = refl
names_ask f g name (term.enum said es) a = refl
names_ask f g name (term.forward t) a = refl
names_ask f g name term.unknown a = refl

-- the same for a number, if it names a type
rule_same : (s : Space) (f g : ℕ → Result Declaration Fault) (n : ℕ) → ((z : Term) → space_type s n ≡ Ok z → AllByRecursion (λ t. f t ≡ g t) (declarator z.body)) → declaration_rule s f n ≡ declaration_rule s g n
rule_same s f g n h = ap (λ (x : Result Declaration Fault). cond (eqb n 0) (bare_name (codes "void")) x) (at (space_type s n) refl)
  where
    at : (r : Result Term Fault) → space_type s n ≡ r → declaration_of f r ≡ declaration_of g r
    at (Err fault) e = refl
    at (Ok z) e = names_ask f g z.name z.body (h z e)

-- ---- enough layers

-- with more than `x` layers the declaration of a number stays the same
abbrev SameFrom : Space → ℕ → ℕ → Type 0
SameFrom s x n = (y : ℕ) → x ≤ y → declaration_within s x n ≡ declaration_within s y n

passes_on : (s : Space) → PassesOn declarator s (SameFrom s)
unfolding declaration_within
passes_on s x n h zero le = absurd (omega arith)
passes_on s x n h (suc y) le =
    rule_same s (declaration_within s x) (declaration_within s y) n
    (λ z e. all_map (SameFrom s x) (λ t. declaration_within s x t ≡ declaration_within s y t) (λ t settled. settled y (omega arith)) (declarator z.body) (h z e))

settle : (s : Space) → HasShortChainsIn declarator s → (x n y : ℕ) → 1026 < x → x ≤ y → declaration_within s x n ≡ declaration_within s y n
settle s short x n y lt le = descend declarator s short (SameFrom s) (passes_on s) x n lt y le

-- ---- the law

one_more : (s : Space) (x n : ℕ) → declaration_within s (suc x) n ≡ declaration_rule s (declaration_within s x) n
unfolding declaration_within
one_more s x n = refl

pub names_rule : NamesAreTheirRules
names_rule s short = record { rule = rule; name = λ n. ap text_of_declaration (rule n); bound = bound }
  where
    rule : (n : ℕ) → declaration s n ≡ declaration_rule s (declaration s) n
    rule n = settle s short longest_text n (suc longest_text) (omega arith) (omega arith) ∙ one_more s longest_text n

    bound : (k n : ℕ) → 1026 < k → declaration_within s k n ≡ declaration s n
    bound k n lt = sym (settle s short 1027 n k (omega arith) (omega arith)) ∙ settle s short 1027 n longest_text (omega arith) (omega arith)
