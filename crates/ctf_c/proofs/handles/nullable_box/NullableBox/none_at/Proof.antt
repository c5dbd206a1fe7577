-- `none_at` moves two values into the fields, and owns nothing.
use mathlib.Core.Path.{refl, sym, subst}
use mathlib.Core.List.{List, [], ◌∷◌, ◌++◌}
use seplogic.Ra.Ura.{Ura}
use mir.Syntax.{Fn, ty_ptr}
use mir.MapTy.{inst_fn}
use mir.Val.{Val, vstruct, vcons, vnil, has_ty, WT}
use mathlib.Core.Bool.{Bool, true, false, ◌&&◌}
use lib.Dec.{T}
use base.Logic.{SProp, ent, id⊢}
use base.Fml.{ftrue, fsep, flft}
use prog.Memory.{Memory}
use prog.Routine.{Routine}
use prog.Wp.{WpFn, Tables}
use types.Logic.{Logic}
use contract.Monad.{Fun, fact}
use contract.BorrowLft.{◌⊑◌}
use contract.Running.{tables, tables_of}
use sound.WpLaws.{WpFn-mono}
use types.Kit.{Item, ‵, raw, ◌⊛◌, ◌$◌, ◌∵◌, !, qed, move, keep, join, split, fsplit, fjoin, fpack, feq_i, feq_l, suffices, done}
use types.Part.{agg}
use types.Run.{no_more, and_then, of_opd, returns, enter}
use types.ByLocal.{alloc_all, pass_all, free_all, look_at, get, sets}
use denote.Builtin.{RawPtr}
use denote.Exit.{yes, no}
use denote.Param.{layout}
use denote.RattleType.{Valss}
use denote.RawPtr.{Ptr, ptr_val}
use denote.Signature.{plain}
use denote.Steps.{nothing}
use denote.Struct.Struct.{within}
use denote.Struct.Owning.{shape, to}
use denote.Triple.Clauses.{Ended, Clauses}
use denote.Triple.Spec.{triple_of}
use denote.Triple.Table.{entered}
use denote.Triple.Walked.{says, Stays, stay_dropped, walk_of, ends_at, Goes-dropped, walk_Meets}
use Rattle.core.proofs.alloc.Calls.{handle_tells, Goes-blank}
use Rattle.core.proofs.atomic.Steps.{Ptr-Good}
use Rattle.std.specs.Prelude.{None}
use Rattle.std_alloc.proofs.BoxSteps.Form.{Bx, R, P, args}
use Rattle.ctf_c.proofs.handles.NullableBoxSteps.{Hd}
use Rattle.ctf_c.specs.contracts.handles.nullable_box.NullableBox as NullableBox
use Rattle.ctf_c.specs.contracts.handles.nullable_box.NullableBox.none_at as F
use Rattle.ctf_c.specs.contracts.handles.nullable_box.NullableBox.none_at.Key.{name as #self}
use Rattle.ctf_c.proofs.handles.nullable_box.NullableBox.none_at.Statement as stated
use Rattle.ctf_c.proofs.handles.nullable_box.NullableBox.none_at.Code as code

abbrev both : Val → Val → Val
both v w = vstruct (vcons v (vcons w vnil))

both_tt : (x y : Bool) → T x → T y → T (x && (y && true))
both_tt true true s t = tt
both_tt true false s t = absurd t
both_tt false y s t = absurd s

module _ (E : Bx) where
  abbrev fn' : Fn
  fn' = inst_fn (args E) code.function

  abbrev ended : Ended
  ended = F.ended E.row E.al.row E.al.g E.al.d E.al.drops

  abbrev stayed : Stays ended.signature.params ended.kept
  stayed = (stay_dropped (plain (λ _. RawPtr)) yes, (stay_dropped (plain (λ _. P E)) no, tt))

  module _ {M : Type 1} {𝓤 : Ura M} (𝓛 : Logic 𝓤) (at_mem : Memory → SProp 𝓤) (run : Routine → Fun 𝓤) (𝓣 : Tables 𝓤 𝓛.H) where
    open 𝓛 use {H}

    abbrev held : Clauses 𝓤 ended
    held = F.clauses E.row E.al.row E.al.g E.al.d E.al.drops 𝓛 at_mem run

    walk : (z : (walk_of 𝓛 ended stayed held).Ghost)
        → ent 𝓤 ((walk_of 𝓛 ended stayed held).pre z) (WpFn 𝓤 H 𝓣.C 𝓣.Λ fn' (z.0.4.0 ++ (z.0.4.1.0 ++ [])) ((walk_of 𝓛 ended stayed held).post z))
    walk z =
        let κs = z.0.0 in let qs = z.0.1 in
        let Post = (walk_of 𝓛 ended stayed held).post z in
        let p : Ptr = z.0.3.0 in
        let a = z.0.3.1.0 in
        let made : (Hd E).Denot = record { at = p; alloc = a; value = None } in
        let ts : Item 𝓤 = ‵ (flft κs.0 qs.0) ⊛ ‵ (flft κs.1.0 qs.1.0) ⊛ ‵ ftrue in
        let asked : Item 𝓤 = raw (fact 𝓤 (κs.0 ⊑ E.row.lives)) ⊛ raw (fact 𝓤 (κs.1.0 ⊑ E.al.row.lives)) ⊛ ‵ ftrue in
        qed 𝓛 ((ts ⊛ ‵ (fsep (RawPtr.own_val p z.0.4.0) (fsep ((P E).own_val a z.0.4.1.0) ftrue))) ∷ asked ∷ []) ∵ split ! $ move ! (1 ∷ []) $ fsplit ! $
        feq_l ! (λ ep. fsplit ! $ handle_tells E.al ! a z.0.4.1.0 (λ h eh fits.
        let v = ptr_val p in
        let w : Val = both v h in
        let typed : T (has_ty ty_ptr v && (has_ty (layout E.al.row) h && true)) × WT w = (both_tt (has_ty ty_ptr v) (has_ty (layout E.al.row) h) (Ptr-Good p).0 fits.0, ((Ptr-Good p).1, (fits.1, tt))) in
        suffices ! (WpFn 𝓤 H 𝓣.C 𝓣.Λ fn' (v ∷ h ∷ []) Post) (subst (λ (us : List Val). ent 𝓤 (WpFn 𝓤 H 𝓣.C 𝓣.Λ fn' (v ∷ h ∷ []) Post) (WpFn 𝓤 H 𝓣.C 𝓣.Λ fn' us Post)) (sym (λ i. ep i ++ (eh i ++ []))) (id⊢ 𝓤 _)) $
        enter ! 𝓣.C 𝓣.Λ fn' (v ∷ h ∷ []) Post $ alloc_all ! (λ ls. pass_all ! refl (Ptr-Good p, (fits, tt)) $
        sets ! (of_opd ! (get ! refl)) refl fits $
        sets ! (agg ! (and_then ! (get ! refl) (and_then ! (get ! refl) (no_more !)))) refl typed $ returns ! (look_at ! 0 refl) $ free_all ! refl $
        keep ! (0 ∷ 1 ∷ 2 ∷ []) $ fjoin ! $ feq_i ! (List Val) (v ∷ []) (v ∷ []) refl $ fjoin ! $ feq_i ! (List Val) (w ∷ []) (w ∷ []) refl $ fjoin ! $
        fpack ! (Valss (RawPtr ∷ P E ∷ [])) (within (shape (NullableBox.the_type (R E) (P E) E.al.g)) (to (NullableBox.the_type (R E) (P E) E.al.g) made) (w ∷ [])) (v ∷ [], (h ∷ [], tt)) $ nothing ! $ move ! (1 ∷ 0 ∷ []) $ fjoin ! $
        suffices ! _ (ends_at 𝓛 ended stayed held z w made (tt, (tt, tt)) (tt, (tt, tt))) $ says ! refl $
        nothing ! $ nothing ! $ fjoin ! $ nothing ! $ fjoin ! $ join ! $ move ! (1 ∷ 0 ∷ []) $ join ! $ done !)))

pub none_at_spec : {M : Type 1} → stated.statement M
unfolding tables_of
none_at_spec 𝓤 𝓛 𝓜 𝓡 wired X Z LX LZ g d dd allocator md =
    let E : Bx = record { row = X; laws = LX; al = record { row = Z; laws = LZ; g = g; d = d; drops = dd } } in
    let 𝓣 : Tables 𝓤 𝓛.H = tables_of 𝓤 𝓛.H 𝓜 (tables 𝓤 𝓛.H 𝓜 𝓡 𝓡.env) in
    let fn = fn' E in
    entered 𝓤 𝓛.H (triple_of 𝓛 (ended E).signature (F.spec X Z g d dd 𝓛 𝓜.mem 𝓡.returns)) 𝓣.C 𝓣.Λ (#self (args E)) fn (code.unfolded 𝓤 𝓛.H 𝓜 𝓡 wired (X, (Z, tt)) d dd)
    (walk_Meets 𝓛 (ended E) (stayed E) (Goes-dropped 𝓛 2 (plain (λ _. RawPtr)) yes (λ κs x f. refl), (Goes-blank 𝓛 2 (plain (λ _. P E)) no (λ κs x f. tt), tt)) (held E 𝓛 𝓜.mem 𝓡.returns 𝓣) (WpFn 𝓤 𝓛.H 𝓣.C 𝓣.Λ fn) (WpFn-mono 𝓤 𝓛.H 𝓛.laws 𝓣 fn)
    (walk E 𝓛 𝓜.mem 𝓡.returns 𝓣))
