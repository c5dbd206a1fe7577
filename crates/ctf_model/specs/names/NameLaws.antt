-- Laws of names.
use Rattle.std.specs.Prelude.{◌≡◌, ◌<◌, ℕ, ◌*◌, ◌+◌, ◌==◌, List, Result, codes, if◌then◌else◌}
use Rattle.std.specs.List.{AllByRecursion}
use Rattle.ctf_model.specs.rules.ChainLaws.{HasShortChainsIn}
use Rattle.ctf_model.specs.rules.Chains.{declarator, longest_chain}
use Rattle.ctf_model.specs.names.TypeNames.{Declaration, bare_name, declaration, declaration_by, declaration_of, declaration_within, spelled_name, text_of_declaration}
use Rattle.ctf_model.specs.spaces.Space.{Space, space_type}
use Rattle.ctf_model.specs.format.Term.{Body}
use Rattle.ctf_model.specs.declared.faults.Fault.{Fault}

-- the declaration of a type depends only on those of the types that its declarator refers to
abbrev pub NamesAskByDeclarator : Type 0
NamesAskByDeclarator =
    (f g : ℕ → Result Declaration Fault) (name : List ℕ) (body : Body)
    → AllByRecursion (λ t. f t ≡ g t) (declarator body)
    → declaration_by f name body ≡ declaration_by g name body

-- the rule of declarations: that of number `n`, given the declarations of others
abbrev pub declaration_rule : Space → (ℕ → Result Declaration Fault) → ℕ → Result Declaration Fault
declaration_rule s others n =
    if n == 0 then bare_name (codes "void") else declaration_of others (space_type s n)

-- declarations follow their rule, and a name is the text of its declaration; any greater bound on
-- layers gives the same
pub record NamesFollowRules (s : Space) : Type 0 where
  pub rule : (n : ℕ) → declaration s n ≡ declaration_rule s (declaration s) n
  pub name : (n : ℕ)
      → spelled_name s n ≡ text_of_declaration (declaration_rule s (declaration s) n)
  pub bound : (k n : ℕ) → 2 * (longest_chain + 1) < k → declaration_within s k n ≡ declaration s n

abbrev pub NamesAreTheirRules : Type 0
NamesAreTheirRules = (s : Space) → HasShortChainsIn declarator s → NamesFollowRules s
