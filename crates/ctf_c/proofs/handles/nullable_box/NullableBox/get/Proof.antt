-- `get` reads through the pointer that a `&` lends.
use mathlib.Core.Path.{◌≡◌, refl, sym, subst, ap, ◌∙◌}
use mathlib.Core.Bool.{true≢false}
use mathlib.Core.List.{List, [], ◌∷◌, ◌++◌}
use Prim.Native.Nat.{ℕ, ◌+◌}
use seplogic.Ra.Ura.{Ura}
use mir.Syntax.{Fn, named}
use mir.MapTy.{inst_fn}
use mir.Val.{Val, vptr}
use base.Logic.{SProp, ent}
use base.Fml.{Lft, Share, ftrue, flft}
use prog.Wp.{Env, Calls, Loops, WpFn, Tables}
use types.Logic.{Logic}
use contract.Monad.{fact}
use contract.Running.{tables, tables_of}
use sound.WpLaws.{WpFn-mono}
use types.Kit.{Item, ⋆, ‵, raw, ◌⊛◌, at_ret, ◌$◌, ◌∵◌, !, qed, by, move, keep, use1, split, join, rewrite, fsplit, fjoin, feq_i, feq_l, suffices, frame, done}
use types.Run.{look, stop, fld, hop, of_opd, addr, first, blocks, exec, returns, enter}
use types.ByLocal.{alloc_all, pass_all, free_all, look_at, get, through, sets, sets_last, env}
use denote.Builtin.{RefOf}
use denote.Exit.{yes}
use denote.Memory.{hidden_shr}
use denote.Opens.{hide, unhide}
use denote.RattleType.{owns}
use denote.RawPtr.{InBlock, block_of, count_of}
use denote.Ref.{Bor, ShrRef}
use denote.Signature.{plain}
use denote.Steps.{heard, nothing}
use denote.Struct.Lending.{in_block_says}
use denote.Triple.Carry.{spared}
use denote.Triple.Clauses.{Clauses, Ended, closing}
use denote.Triple.Entry.{on_entry}
use denote.Triple.Spec.{Meets, triple_of}
use denote.Triple.Table.{entered, run_framed}
use denote.Triple.Walked.{says, needs, Stays, stay_dropped, walk_of, ends_at, Goes-dropped, walk_Meets}
use Rattle.core.proofs.alloc.Shapes.{after}
use Rattle.std.specs.Prelude.{Option, None, Some, is_some, true}
use Rattle.std_alloc.proofs.BoxSteps.Form.{Bx, X, R, args}
use Rattle.std_alloc.proofs.BoxSteps.Shows.{shows_ptr}
use Rattle.std_alloc.proofs.Words.{pointer_in, pointer_out}
use Rattle.ctf_c.proofs.handles.NullableBoxSteps.{Hd, boxed}
use Rattle.ctf_c.specs.contracts.handles.nullable_box.NullableBox.get.Key.{name as #self}
use Rattle.ctf_c.proofs.handles.nullable_box.NullableBox.get.Statement as stated
use Rattle.ctf_c.proofs.handles.nullable_box.NullableBox.get.Code as code

module _ (E : Bx) where
  abbrev fn' : Fn
  fn' = inst_fn (args E) code.function

  abbrev ended : Ended
  ended = record { signature = record { lifetimes = 1; outlives = []; params = RefOf (0 ∷ []) tt (plain (λ _. Hd E)) (λ _. tt) ∷ []; result = RefOf (0 ∷ []) tt (plain (λ _. R E)) (λ _. tt) }; kept = (yes, tt) }

  abbrev stayed : Stays ended.signature.params ended.kept
  stayed = (stay_dropped (RefOf (0 ∷ []) tt (plain (λ _. Hd E)) (λ _. tt)) yes, tt)

  abbrev spec : {M : Type 1} {𝓤 : Ura M} (𝓛 : Logic 𝓤) → Clauses 𝓤 ended
  spec {𝓤 = 𝓤} 𝓛 κs a = record { ghost = Unit {0}; requires = λ _. fact 𝓤 (is_some a.0.now.value ≡ true); ensures = λ _ r _. fact 𝓤 (Some r.now ≡ a.0.now.value) }

module _ (E : Bx) {M : Type 1} {𝓤 : Ura M} (𝓛 : Logic 𝓤) (C : Calls 𝓤 𝓛.H) (Λ : Loops 𝓤 𝓛.H) (κ : Lft) (q : Share) (rb ro : ℕ) (h : (Hd E).Denot) (ps : List Val) where
  open 𝓛 use {H}

  abbrev self : Bor (Hd E).Denot
  self = record { ref_ptr = (rb, ro); now = h }

  abbrev bound : (walk_of 𝓛 (ended E) (stayed E) (spec E 𝓛)).Ghost
  bound = (((κ, tt), (q, tt), tt, (self, tt), (ps, tt)), tt)

  abbrev Post : Val → SProp 𝓤
  Post = (walk_of 𝓛 (ended E) (stayed E) (spec E 𝓛)).post bound

  abbrev at : ℕ × ℕ
  at = (block_of h.at, count_of h.at)

  exits : (x : X E) → h.value ≡ Some x → ent 𝓤 (⋆ 𝓛 (‵ (flft κ q) ∷ ‵ ((ShrRef (named 0) κ (R E)).own_val (record { ref_ptr = at; now = x }) (vptr at.0 at.1 ∷ [])) ∷ [])) (Post (vptr at.0 at.1))
  exits x full =
      qed 𝓛 (‵ (flft κ q) ∷ ‵ ((ShrRef (named 0) κ (R E)).own_val (record { ref_ptr = at; now = x }) (vptr at.0 at.1 ∷ [])) ∷ []) ∵
      suffices ! _ (ends_at 𝓛 (ended E) (stayed E) (spec E 𝓛) bound (vptr at.0 at.1) (record { ref_ptr = at; now = x }) (tt, tt) (tt, tt)) $ says ! (sym full) $
      nothing ! $ move ! (1 ∷ 0 ∷ []) $ join ! $ frame ! $ nothing ! $ nothing ! $ fjoin ! $ done !

  abbrev Had : List (Item 𝓤)
  Had = ‵ (hidden_shr (Hd E) κ h rb ro) ∷ ‵ (flft κ q) ∷ []

  walk : (m : Option (X E)) → h.value ≡ m → is_some h.value ≡ true → ent 𝓤 (⋆ 𝓛 Had) (WpFn 𝓤 H C Λ (fn' E) (vptr rb ro ∷ []) Post)
  walk None e asked = absurd (true≢false (sym asked ∙ ap is_some e))
  walk (Some x) e asked =
      qed 𝓛 Had ∵ enter ! C Λ (fn' E) (vptr rb ro ∷ []) _ $ alloc_all ! (λ l. pass_all ! refl ((tt, tt), tt) $
      let En : Env 𝓤 H = env (fn' E).locals l in
      rewrite ! 0 (λ (m : Option (X E)). ‵ (hidden_shr (Hd E) κ (record { at = h.at; alloc = h.alloc; value = m }) rb ro)) e refl $
      unhide ! $ fsplit ! $ hide ! $ move ! (1 ∷ []) $ fsplit ! $ use1 𝓛 (raw (fact 𝓤 (InBlock h.at))) (in_block_says 𝓛 h.at) $ heard ! (InBlock h.at) (λ inb. hide ! $
      -- [the value; the fields; the token]
      move ! (1 ∷ 2 ∷ []) $ first ! $ blocks ! $
      pointer_in ! tt h.at inb rb (ro + 0) (shows_ptr E 𝓛 κ rb ro (boxed E h x)) (λ q'.
      sets_last ! (addr ! (through ! refl (fld ! refl (hop ! (look ! 1 refl) (stop !))))) refl (tt, tt) $ exec ! C Λ En (after 1 (fn' E).body) (at_ret En Post) $
      pointer_out ! tt h.at inb rb (ro + 0) $ sets ! (of_opd ! (get ! refl)) refl (tt, tt) $
      move ! (2 ∷ []) $ feq_i ! (List Val) (vptr at.0 at.1 ∷ []) (vptr at.0 at.1 ∷ []) refl $ fjoin ! $
      returns ! (look_at ! 0 refl) $ free_all ! refl $ keep ! (1 ∷ 0 ∷ []) $ by ! (exits x e))))

  entry : is_some h.value ≡ true → ent 𝓤 (on_entry 𝓛 (ended E).signature (κ, tt) (q, tt) (self, tt) (ps, tt)) (WpFn 𝓤 H C Λ (fn' E) (ps ++ []) Post)
  entry asked =
      qed 𝓛 ((‵ (flft κ q) ⊛ ‵ ftrue) ∷ ‵ (owns (ShrRef (named 0) κ (Hd E) ∷ []) (self, tt) (ps, tt)) ∷ []) ∵ split ! $ move ! (2 ∷ []) $ fsplit ! $ fsplit ! $ feq_l ! (λ e. keep ! (0 ∷ 2 ∷ []) $
      by ! (subst (λ (ws : List Val). ent 𝓤 (⋆ 𝓛 Had) (WpFn 𝓤 H C Λ (fn' E) (ws ++ []) Post)) (sym e) (walk h.value refl asked)))

meets : (E : Bx) {M : Type 1} {𝓤 : Ura M} (𝓛 : Logic 𝓤) (𝓣 : Tables 𝓤 𝓛.H)
    → Meets 𝓛 (ended E).signature (WpFn 𝓤 𝓛.H 𝓣.C 𝓣.Λ (fn' E)) (closing 𝓛 (ended E) (spec E 𝓛))
meets E {𝓤 = 𝓤} 𝓛 𝓣 =
    walk_Meets 𝓛 (ended E) (stayed E) (Goes-dropped 𝓛 1 (RefOf (0 ∷ []) tt (plain (λ _. Hd E)) (λ _. tt)) yes (λ κs x f. refl), tt) (spec E 𝓛) (WpFn 𝓤 𝓛.H 𝓣.C 𝓣.Λ (fn' E)) (WpFn-mono 𝓤 𝓛.H 𝓛.laws 𝓣 (fn' E))
    (λ z. let a = z.0.3.0 in needs 𝓤 (is_some a.now.value ≡ true) _ (entry E 𝓛 𝓣.C 𝓣.Λ z.0.0.0 z.0.1.0 a.ref_ptr.0 a.ref_ptr.1 a.now z.0.4.0))

pub get_spec : {M : Type 1} → stated.statement M
unfolding tables_of
get_spec 𝓤 𝓛 𝓜 𝓡 wired Y Z L LZ g d dd met md y =
    let E : Bx = record { row = Y; laws = L; al = record { row = Z; laws = LZ; g = g; d = d; drops = dd } } in
    let 𝓣 : Tables 𝓤 𝓛.H = tables_of 𝓤 𝓛.H 𝓜 (tables 𝓤 𝓛.H 𝓜 𝓡 𝓡.env) in
    spared 𝓛 (ended E).signature (𝓡.run (𝓡.env (#self (args E)))) (run_framed 𝓤 𝓛.H 𝓜 𝓡 (𝓡.env (#self (args E)))) 2 (Y.lives, (Z.lives, tt)) (closing 𝓛 (ended E) (spec E 𝓛))
    (entered 𝓤 𝓛.H (triple_of 𝓛 (ended E).signature (closing 𝓛 (ended E) (spec E 𝓛))) 𝓣.C 𝓣.Λ (#self (args E)) (fn' E) (code.unfolded 𝓤 𝓛.H 𝓜 𝓡 wired (Y, (Z, tt)) d dd) (meets E 𝓛 𝓣))
    ((y.0.0, y.0.1, tt, y.0.3, y.0.4), y.1)
