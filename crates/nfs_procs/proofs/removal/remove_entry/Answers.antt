use Rattle.std.proofs.Common.{Some, ap, subst, ◌∙◌}
use Rattle.nfs_attrs.specs.Encoding.{IsWcc, wcc_text}
use Rattle.nfs_attrs.specs.declared.wcc.Wcc.{Wcc}
use Rattle.nfs_procs.specs.Doing.{change}
use Rattle.nfs_xdr.proofs.Writing.{appends_then}
use Rattle.nfs_xdr.specs.Written.{Appends}
use Rattle.nfs_procs.proofs.removal.remove_entry.Goals as goal

pub returns-clause-text : goal.returns-clause-text
returns-clause-text c = appends_then _ _ _ _ _ c.u32.ensures.text
    (subst (λ wcc. Appends (wcc_text wcc) c.u32.new.self c.write_wcc.new.out) (c.change.ensures ∙ ap (change (Some c.args.plan.now.dir.attributes)) c.attributes.ensures) c.write_wcc.ensures.text)

pub returns-clause-encoded : goal.returns-clause-encoded
returns-clause-encoded c = subst (λ (wcc : Wcc). IsWcc wcc (wcc_text wcc)) (c.change.ensures ∙ ap (change (Some c.args.plan.now.dir.attributes)) c.attributes.ensures) c.write_wcc.ensures.encoded
