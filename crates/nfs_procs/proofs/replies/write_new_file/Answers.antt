use Rattle.std.proofs.Common.{subst, ◌∙◌}
use Rattle.nfs_args.specs.Results.{IsMade, made_text}
use Rattle.nfs_args.specs.declared.made.Made.{Made}
use Rattle.nfs_procs.proofs.Made.{shows_seen, shows_none}
use Rattle.nfs_xdr.specs.Written.{Appends}
use Rattle.nfs_procs.proofs.replies.write_new_file.Goals as goal

pub returns-in-Some-clause-text : goal.returns-in-Some-clause-text
returns-in-Some-clause-text c = subst (λ (m : Made). Appends (made_text m) c.args.out.now c.write_made.new.out)
    (shows_seen c.args.tree.now c.args.file.0 c.args.dir c.in-Some.file c.new.result c.handle-handle.result c.attributes.result c.in-Some.ensures.some c.in-Some.ensures.number c.handle-handle.ensures (c.new.ensures ∙ c.as_slice.ensures) c.attributes.ensures)
    c.write_made.ensures.text

pub returns-in-None-clause-text : goal.returns-in-None-clause-text
returns-in-None-clause-text c = subst (λ (m : Made). Appends (made_text m) c.args.out.now c.write_made-in-None.new.out) (shows_none c.args.tree.now c.args.file.0 c.args.dir c.in-None.ensures.none) c.write_made-in-None.ensures.text

pub returns-in-Some-clause-encoded : goal.returns-in-Some-clause-encoded
returns-in-Some-clause-encoded c = subst (λ (m : Made). IsMade m (made_text m))
    (shows_seen c.args.tree.now c.args.file.0 c.args.dir c.in-Some.file c.new.result c.handle-handle.result c.attributes.result c.in-Some.ensures.some c.in-Some.ensures.number c.handle-handle.ensures (c.new.ensures ∙ c.as_slice.ensures) c.attributes.ensures)
    c.write_made.ensures.encoded

pub returns-in-None-clause-encoded : goal.returns-in-None-clause-encoded
returns-in-None-clause-encoded c = subst (λ (m : Made). IsMade m (made_text m)) (shows_none c.args.tree.now c.args.file.0 c.args.dir c.in-None.ensures.none) c.write_made-in-None.ensures.encoded
