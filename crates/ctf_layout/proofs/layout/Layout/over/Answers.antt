use Rattle.std.proofs.Common.{◌≡◌, true, false, sym, ap, ◌∙◌}
use Rattle.std.specs.Option.{is_some}
use Rattle.ctf_space.specs.SpaceView.{space_of}
use Rattle.ctf_layout.proofs.Few.{in_few}
use Rattle.ctf_layout.proofs.Tables.{over_none, over_shared, same_some}
use Rattle.ctf_layout.proofs.layout.Layout.over.Goals as goal
use Rattle.ctf_layout.proofs.layout.Layout.over.Goals.{in-Some+in_ok-clone-in-Some, in-None}

pub beside_shared-requires-clause-over : goal.beside_shared-requires-clause-over
beside_shared-requires-clause-over c =
    let s = space_of c.args.space.now in
    let same : is_some c.parent.result ≡ is_some s.parent = sym (same_some _ c.parent.result) ∙ ap is_some c.parent.ensures.parent ∙ same_some _ s.parent in
    elim c.match-parent.branch [
      | in-Some+in_ok-clone-in-Some w ↦
          let some : is_some s.parent ≡ true = sym same ∙ ap is_some w.in-Some.is in
          rw (w.shared-is, w.in_ok-clone-in-Some.ensures.cases) (over_shared s c.args.parent.now c.requires c.parent.ensures.plain some)
      | in-None w ↦
          let none : is_some s.parent ≡ false = sym same ∙ ap is_some w.in-None.is in
          rw w.shared-is (over_none s none)
    ]

pub returns-clause-bounded : goal.returns-clause-bounded
returns-clause-bounded c = in_few c.beside_shared.result (space_of c.args.space.now).own.terms c.beside_shared.ensures.steps
