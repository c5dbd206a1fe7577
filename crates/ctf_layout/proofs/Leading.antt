-- The targets of types; no type leads to itself.
use Rattle.std.proofs.Common.{◌≡◌, ℕ, zero, suc, ◌-◌, ◌≤◌, ◌<◌, List, [], ◌∷◌, length, Some, get_or, refl, sym, subst, ◌∙◌, arith}
use Rattle.std.specs.List.{AllByRecursion, filter_map}
use Rattle.ctf_model.specs.rules.Chains.{IsWithin, by_value, own_index}
use Rattle.ctf_model.specs.format.Dictionary.{Dictionary}
use Rattle.ctf_layout.specs.Table.{LeadsOn}
use Rattle.ctf_model.specs.figures.FigureLaws.{value_edges, own_body}
use Rattle.ctf_model.specs.spaces.TypePlaces.{own_number}
use Rattle.ctf_model.proofs.OwnTypes.{one_own, own_inside, targets_are}
use Rattle.ctf_chains.proofs.Depths.{IsWithin-more}

leads_on : (d : Dictionary) (i k j : ℕ) → k < length (by_value (own_body d i)) → own_index d.child (length d.terms) (get_or (by_value (own_body d i)) k 0) ≡ Some j → (n : ℕ) → IsWithin (value_edges d) n i → (m : ℕ) × (m < n) × IsWithin (value_edges d) m j
unfolding IsWithin
leads_on d i k j lt is zero w =
    let P : ℕ → Type 0 = λ j. ⊥ in
    let none : [] ≡ filter_map (own_index d.child (length d.terms)) (by_value (own_body d i)) = sym w ∙ targets_are d i in
    absurd (one_own P (own_index d.child (length d.terms)) (by_value (own_body d i)) k j lt is (subst (AllByRecursion P) none tt))
leads_on d i k j lt is (suc n) w =
    (n, omega arith, one_own (IsWithin (value_edges d) n) (own_index d.child (length d.terms)) (by_value (own_body d i)) k j lt is (subst (AllByRecursion (IsWithin (value_edges d) n)) (targets_are d i) w))

-- a type leads to each own type that it refers to by value
pub leads_by_value : (d : Dictionary) (i k j : ℕ) → k < length (by_value (own_body d i)) → own_index d.child (length d.terms) (get_or (by_value (own_body d i)) k 0) ≡ Some j → LeadsOn (value_edges d) i j
leads_by_value d i k j lt is = record { on = leads_on d i k j lt is }

-- chains from a target are shorter
pub leads_within : (es : List (List ℕ)) (i j budget : ℕ) → LeadsOn es i j → IsWithin es budget i → (1 ≤ budget) × IsWithin es (budget - 1) j
leads_within es i j budget a w =
    let f = a.on budget w in
    let less : f.0 < budget = f.1 in
    (omega arith, IsWithin-more es f.0 (budget - 1) j (omega arith) f.2)

pub leads_leads : (es : List (List ℕ)) (i j m : ℕ) → LeadsOn es i j → LeadsOn es j m → LeadsOn es i m
leads_leads es i j m a b = record {
  on = λ k w.
      let f = a.on k w in
      let g = b.on f.0 f.2 in
      let less : f.0 < k = f.1 in
      let lesser : g.0 < f.0 = g.1 in
      (g.0, omega arith, g.2);
}

descends : (es : List (List ℕ)) (i n k : ℕ) → LeadsOn es i i → k < n → IsWithin es k i → ⊥
descends es i zero k a lt w = omega arith
descends es i (suc n) k a lt w =
    let f = a.on k w in
    let less : f.0 < k = f.1 in
    descends es i n f.0 a (omega arith) f.2

-- no type with finite chains leads to itself
pub not_itself : (es : List (List ℕ)) (i k : ℕ) → IsWithin es k i → LeadsOn es i i → ⊥
not_itself es i k w a = descends es i (suc k) k a (omega arith) w

-- the target of a type, as the code computes it
pub step_found : (d : Dictionary) (i k t j : ℕ) → k < length (by_value (own_body d i)) → t ≡ get_or (by_value (own_body d i)) k 0 → Some j ≡ own_index d.child (length d.terms) t → LeadsOn (value_edges d) i j × (j < length d.terms) × (t ≡ own_number d.child j)
step_found d i k t j lt t_is is =
    let own : own_index d.child (length d.terms) t ≡ Some j = sym is in
    let where_it_is = own_inside d.child (length d.terms) t j own in
    (leads_by_value d i k j lt (rw t_is at own), where_it_is.1, where_it_is.2)

-- the same for a type with a single target
pub one_found : (d : Dictionary) (i t j : ℕ) → by_value (own_body d i) ≡ t ∷ [] → Some j ≡ own_index d.child (length d.terms) t → LeadsOn (value_edges d) i j × (j < length d.terms) × (t ≡ own_number d.child j)
one_found d i t j one = step_found d i 0 t j (rw one (omega arith)) (rw one refl)
