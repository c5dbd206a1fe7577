-- The figure of a type depends only on the types that it leads to by value.
use Rattle.std.proofs.Common.{◌≡◌, ℕ, cond, ltb, List, [], ◌∷◌, map, Result, Ok, refl, ap}
use Rattle.std.specs.List.{AllByRecursion}
use Rattle.ctf_model.specs.rules.Chains.{by_value}
use Rattle.ctf_model.specs.figures.FigureLaws.{FiguresAskByValue}
use Rattle.ctf_model.specs.figures.Figures.{resolved_body, size_body, align_body, greatest, first_of, times}
use Rattle.ctf_model.specs.format.Term.{Body, Member}
use Rattle.ctf_model.specs.format.Term as term
use Rattle.ctf_model.specs.declared.data_model.DataModel.{DataModel}
use Rattle.ctf_model.specs.declared.faults.Fault.{Fault}

-- ---- members

greatest_same : (f g : ℕ → Result ℕ Fault) (ms : List Member) → AllByRecursion (λ t. f t ≡ g t) (map (λ m. m.tnum) ms) → greatest f ms ≡ greatest g ms
greatest_same f g [] a = refl
greatest_same f g (m ∷ ms) a = rw (a.0, greatest_same f g ms a.1) refl

first_same : (f g : ℕ → Result ℕ Fault) (ms : List Member) → AllByRecursion (λ t. f t ≡ g t) (map (λ m. m.tnum) ms) → first_of f ms ≡ first_of g ms
first_same f g [] a = refl
first_same f g (m ∷ ms) a = a.0

-- ---- each figure

resolved_same : (f g : ℕ → Result ℕ Fault) (n : ℕ) (body : Body) → AllByRecursion (λ t. f t ≡ g t) (by_value body) → resolved_body f n body ≡ resolved_body g n body
resolved_same f g n (term.typedef t) a = a.0
resolved_same f g n (term.volatile t) a = a.0
resolved_same f g n (term.const t) a = a.0
resolved_same f g n (term.restrict t) a = a.0
resolved_same f g n (term.array e) a = refl
resolved_same f g n (term.integer x) a = refl
resolved_same f g n (term.float x) a = refl
resolved_same f g n (term.pointer t) a = refl
resolved_same f g n (term.function r ts) a = refl
resolved_same f g n (term.struct said ms) a = refl
resolved_same f g n (term.union said ms) a = refl
resolved_same f g n (term.enum said xs) a = refl
resolved_same f g n (term.forward t) a = refl
resolved_same f g n term.unknown a = refl

size_same : (model : DataModel) (f g : ℕ → Result ℕ Fault) (body : Body) → AllByRecursion (λ t. f t ≡ g t) (by_value body) → size_body model f body ≡ size_body model g body
size_same model f g (term.array e) a = ap (λ (r : Result ℕ Fault). cond (ltb 0 e.size) (Ok e.size) (times e.count r)) a.0
size_same model f g (term.typedef t) a = a.0
size_same model f g (term.volatile t) a = a.0
size_same model f g (term.const t) a = a.0
size_same model f g (term.restrict t) a = a.0
size_same model f g (term.integer x) a = refl
size_same model f g (term.float x) a = refl
size_same model f g (term.pointer t) a = refl
size_same model f g (term.function r ts) a = refl
size_same model f g (term.struct said ms) a = refl
size_same model f g (term.union said ms) a = refl
size_same model f g (term.enum said xs) a = refl
size_same model f g (term.forward t) a = refl
size_same model f g term.unknown a = refl

align_same : (model : DataModel) (f g : ℕ → Result ℕ Fault) (body : Body) → AllByRecursion (λ t. f t ≡ g t) (by_value body) → align_body model f body ≡ align_body model g body
align_same model f g (term.array e) a = a.0
align_same model f g (term.typedef t) a = a.0
align_same model f g (term.volatile t) a = a.0
align_same model f g (term.const t) a = a.0
align_same model f g (term.restrict t) a = a.0
align_same model f g (term.struct said ms) a = first_same f g ms a
align_same model f g (term.union said ms) a = greatest_same f g ms a
align_same model f g (term.integer x) a = refl
align_same model f g (term.float x) a = refl
align_same model f g (term.pointer t) a = refl
align_same model f g (term.function r ts) a = refl
align_same model f g (term.enum said xs) a = refl
align_same model f g (term.forward t) a = refl
align_same model f g term.unknown a = refl

pub figures_ask : FiguresAskByValue
figures_ask = record {
  resolving_asks = record { same = resolved_same };
  sizing_asks = λ model. record { same = λ f g n body. size_same model f g body };
  aligning_asks = λ model. record { same = λ f g n body. align_same model f g body };
}
