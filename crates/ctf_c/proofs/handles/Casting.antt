-- A `&mut` to a struct is cast to a `&mut` to another that is the same in memory, for what C is given without type
-- parameters.
--     casting           the code of such a cast: the two types as the references have them, and as they are followed
--     meets             it lends the other struct, and the first follows it
use mathlib.Core.Path.{◌≡◌, refl, sym, subst}
use mathlib.Core.List.{List, [], ◌∷◌, ◌++◌}
use Prim.Native.Nat.{ℕ}
use seplogic.Ra.Ura.{Ura}
use mir.Syntax.{Fn, Ty, named, erased, mut, ty_ptr, ty_ref, local, value_local, place, deref, copy, rv_opd, addr_of, seq, assign, block, return}
use mir.Val.{Val, vptr}
use base.Fraction.{full_share}
use base.Logic.{SProp, ent, sep, emp, id⊢, via, fst∗}
use base.Fml.{Fml, Lft, GName, Share, ftrue, fsep, flft, fobs, fbor}
use prog.Wp.{Env, Calls, Loops, WpFn, Tables}
use types.Logic.{Logic, sem}
use types.SemTy.{Body as Borrowed}
use contract.Monad.{fact}
use sound.WpLaws.{WpFn-mono}
use types.Kit.{Item, ⋆, ‵, raw, ◌⊛◌, some, later, at_ret, ◌$◌, ◌∵◌, !, qed, by, move, keep, use1, use2, join, pick, split, fsplit, fsplit3, fjoin, fpick, fpack, feq_l, suffices, frame, await, group, done}
use types.Run.{stop, of_opd, addr, first, blocks, exec, returns, enter}
use types.ByLocal.{alloc_all, pass_all, free_all, look_at, get, through, sets, sets_last, env}
use denote.Builtin.{RefMutOf, One}
use denote.Exit.{no}
use denote.Follow.{follows, Part, lends_Part}
use denote.Memory.{mem, cell_at, part_of}
use denote.RattleType.{RattleType, owns}
use denote.Ref.{MutBor, MutRef}
use denote.Signature.{plain, mut_ref_to}
use denote.Steps.{nothing, opens}
use denote.Triple.Clauses.{Clauses, Ended, closing}
use denote.Triple.Entry.{on_entry}
use denote.Triple.Spec.{Meets}
use denote.Triple.Walked.{says, Stays, stay_dropped, walk_of, ends_at, Goes-spent_ref, walk_Meets}
use Rattle.core.proofs.alloc.Shapes.{after}

abbrev pub casting : Ty → Ty → Ty → Ty → Fn
casting given made followed reached = record {
  lifetimes = 1;
  outlives = [];
  ty_params = [];
  givens = 0;
  params = 1;
  locals = local (ty_ref (named 0) mut made) value_local ∷ local (ty_ref (named 0) mut given) value_local ∷ local (ty_ref erased mut made) value_local ∷ local ty_ptr value_local ∷ local ty_ptr value_local ∷ [];
  body = seq (block (seq (assign (place 3 []) (addr_of (place 1 (deref followed ∷ [])))) (seq (assign (place 4 []) (rv_opd (copy (place 3 [])))) (assign (place 2 []) (addr_of (place 4 (deref reached ∷ [])))))))
      (seq (assign (place 0 []) (rv_opd (copy (place 2 [])))) return);
}

module _ (From To : RattleType) (into : From.Denot → To.Denot) (back : To.Denot → From.Denot) (Same : From.Denot → To.Denot → Type 0) (one-from : One From.mir) (one-to : One To.mir) where
  abbrev ended : Ended
  ended = record { signature = record { lifetimes = 1; outlives = []; params = RefMutOf (0 ∷ []) tt (plain (λ _. From)) (λ _. one-from) ∷ []; result = RefMutOf (0 ∷ []) tt (plain (λ _. To)) (λ _. one-to) }; kept = (no, tt) }

  abbrev stayed : Stays ended.signature.params ended.kept
  stayed = (stay_dropped (mut_ref_to (0 ∷ []) tt (plain (λ _. From))) no, tt)

  abbrev spec : {M : Type 1} {𝓤 : Ura M} (𝓛 : Logic 𝓤) → Clauses 𝓤 ended
  spec {𝓤 = 𝓤} 𝓛 κs a = record { ghost = Unit {0}; requires = λ _. emp 𝓤; ensures = λ _ r _. sep 𝓤 (sem 𝓛 (follows From To a.0.ghost_name r.ghost_name back)) (fact 𝓤 (Same a.0.now r.now)) }

  abbrev Lies : (R : RattleType) → R.Denot → List Val → ℕ → ℕ → Fml
  Lies R h vs b o = fsep (cell_at full_share R.mir vs b o) (R.own_val h vs)

  module _ (given made followed reached : Ty) (goes : (h : From.Denot) (vs : List Val) (b o : ℕ) → Lies From h vs b o ≡ Lies To (into h) vs b o) (comes : (w : To.Denot) (vs : List Val) (b o : ℕ) → Lies To w vs b o ≡ Lies From (back w) vs b o) (same : (h : From.Denot) → Same h (into h)) {M : Type 1} {𝓤 : Ura M} (𝓛 : Logic 𝓤) where
    open 𝓛 use {H, A}

    turned : (h : From.Denot) (vs : List Val) (b o : ℕ) → ent 𝓤 (sep 𝓤 (sem 𝓛 (cell_at full_share From.mir vs b o)) (sem 𝓛 (From.own_val h vs))) (sem 𝓛 ((mem To).own_at (into h) b o))
    unfolding part_of
    turned h vs b o =
        qed 𝓛 (‵ (cell_at full_share From.mir vs b o) ∷ ‵ (From.own_val h vs) ∷ []) ∵ fjoin ! $
        use1 𝓛 (‵ (Lies To (into h) vs b o)) (subst (λ (F : Fml). ent 𝓤 (sem 𝓛 (Lies From h vs b o)) (sem 𝓛 F)) (goes h vs b o) (id⊢ 𝓤 _)) $
        fpack ! (List Val) (λ us. Lies To (into h) us b o) vs $ done !

    returned : (w : To.Denot) (b o : ℕ) → ent 𝓤 (sep 𝓤 (sem 𝓛 ((mem To).own_at w b o)) (sem 𝓛 ftrue)) (sem 𝓛 ((mem From).own_at (back w) b o))
    unfolding part_of
    returned w b o =
        qed 𝓛 (‵ ((mem To).own_at w b o) ∷ ‵ ftrue ∷ []) ∵ fpick ! (λ vs. keep ! (0 ∷ []) $
        use1 𝓛 (‵ (Lies From (back w) vs b o)) (subst (λ (F : Fml). ent 𝓤 (sem 𝓛 (Lies To w vs b o)) (sem 𝓛 F)) (comes w vs b o) (id⊢ 𝓤 _)) $
        fpack ! (List Val) (λ us. Lies From (back w) us b o) vs $ done !)

    abbrev function : Fn
    function = casting given made followed reached

    module _ (C : Calls 𝓤 H) (Λ : Loops 𝓤 H) (κ : Lft) (q : Share) (b o : ℕ) (γ : GName) (h : From.Denot) (ps : List Val) where
      abbrev self : MutBor From.Denot
      self = record { ref_ptr = (b, o); ghost_name = γ; now = h }

      abbrev bound : (walk_of 𝓛 ended stayed (spec 𝓛)).Ghost
      bound = (((κ, tt), (q, tt), tt, (self, tt), (ps, tt)), tt)

      abbrev Post : Val → SProp 𝓤
      Post = (walk_of 𝓛 ended stayed (spec 𝓛)).post bound

      exits : (δ : GName)
          → ent 𝓤 (sep 𝓤 (sem 𝓛 ((MutRef (named 0) κ To).own_val (record { ref_ptr = (b, o); ghost_name = δ; now = into h }) (vptr b o ∷ []))) (sep 𝓤 (A.lft κ q) (sem 𝓛 (follows From To γ δ back)))) (Post (vptr b o))
      exits δ =
          qed 𝓛 (‵ ((MutRef (named 0) κ To).own_val (record { ref_ptr = (b, o); ghost_name = δ; now = into h }) (vptr b o ∷ [])) ∷ ‵ (flft κ q) ∷ ‵ (follows From To γ δ back) ∷ []) ∵
          suffices ! _ (ends_at 𝓛 ended stayed (spec 𝓛) bound (vptr b o) (record { ref_ptr = (b, o); ghost_name = δ; now = into h }) (tt, tt) (tt, tt)) $
          nothing ! $ nothing ! $ fjoin ! $ join ! $ nothing ! $ move ! (2 ∷ 0 ∷ []) $ join ! $ join ! $ frame ! $ says ! (same h) $ done !

      abbrev Had : List (Item 𝓤)
      Had = ‵ (fobs γ (From.coded.code h)) ∷ ‵ (fbor κ (Borrowed (mem From) b o γ)) ∷ ‵ (flft κ q) ∷ []

      walk : ent 𝓤 (⋆ 𝓛 Had) (WpFn 𝓤 H C Λ function (vptr b o ∷ []) Post)
      walk =
          let said = From.coded.code h in let home = λ (w : To.Denot). returned w b o in
          qed 𝓛 Had ∵ enter ! C Λ function (vptr b o ∷ []) _ $ alloc_all ! (λ l. pass_all ! refl ((tt, tt), tt) $
          let En : Env 𝓤 H = env function.locals l in
          opens ! tt From {h = h} b o (λ vs.
          use2 𝓛 (‵ ((mem To).own_at (into h) b o)) (turned h vs b o) $
          -- [the other struct; the open borrow; obs; auth]
          first ! $ blocks ! $ sets ! (addr ! (through ! refl (stop !))) refl (tt, tt) $ sets ! (of_opd ! (get ! refl)) refl (tt, tt) $ sets_last ! (addr ! (through ! refl (stop !))) refl (tt, tt) $
          exec ! C Λ En (after 1 function.body) (at_ret En Post) $ sets ! (of_opd ! (get ! refl)) refl (tt, tt) $
          nothing ! $ move ! (2 ∷ 3 ∷ 4 ∷ 1 ∷ 0 ∷ []) $ group ! 5 $
          use1 𝓛 (later (some (λ (δ : GName). raw (Part 𝓛 From To back (named 0) κ q b o b o γ (sem 𝓛 ftrue) home (into h) δ))))
          (lends_Part 𝓛 From To back (named 0) κ q b o b o γ (sem 𝓛 ftrue) home said said (into h)) $ await ! tt $ pick ! (λ δ.
          returns ! (look_at ! 0 refl) $ free_all ! refl $ keep ! (0 ∷ []) $ by ! (exits δ))))

      entry : ent 𝓤 (on_entry 𝓛 ended.signature (κ, tt) (q, tt) (self, tt) (ps, tt)) (WpFn 𝓤 H C Λ function (ps ++ []) Post)
      entry =
          qed 𝓛 ((‵ (flft κ q) ⊛ ‵ ftrue) ∷ ‵ (owns (MutRef (named 0) κ From ∷ []) (self, tt) (ps, tt)) ∷ []) ∵ split ! $ move ! (2 ∷ []) $ fsplit ! $ fsplit3 ! $ feq_l ! (λ e. keep ! (0 ∷ 1 ∷ 3 ∷ []) $
          by ! (subst (λ (ws : List Val). ent 𝓤 (⋆ 𝓛 Had) (WpFn 𝓤 H C Λ function (ws ++ []) Post)) (sym e) walk))

    pub meets : (𝓣 : Tables 𝓤 H) → Meets 𝓛 ended.signature (WpFn 𝓤 H 𝓣.C 𝓣.Λ function) (closing 𝓛 ended (spec 𝓛))
    meets 𝓣 =
        walk_Meets 𝓛 ended stayed (Goes-spent_ref 𝓛 1 (0 ∷ []) tt (plain (λ _. From)), tt) (spec 𝓛) (WpFn 𝓤 H 𝓣.C 𝓣.Λ function) (WpFn-mono 𝓤 H 𝓛.laws 𝓣 function)
        (λ z. let a = z.0.3.0 in via 𝓤 _ (fst∗ 𝓤 _ (emp 𝓤)) (entry 𝓣.C 𝓣.Λ z.0.0.0 z.0.1.0 a.ref_ptr.0 a.ref_ptr.1 a.ghost_name a.now z.0.4.0))
