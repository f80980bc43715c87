use Rattle.std.proofs.Common.{◌≡◌, ◌∙◌, rules}
use Rattle.nfs_args.specs.Chains.{chained_text}
use Rattle.nfs_args.specs.MountAnswers.{IsMounted, mounted_text}
use Rattle.nfs_exports.specs.Addresses.{addr_text}
use Rattle.nfs_xdr.specs.Written.{Appends}
use Rattle.nfs_mount.specs.MountAnswers.{client}
use Rattle.nfs_mount.proofs.Listed.{client_reported}
use Rattle.nfs_mount.proofs.replies.write_client.Goals as goal

pub returns-clause-text : goal.returns-clause-text
returns-clause-text c =
    let host : c.new.result ≡ addr_text c.args.mount.now.addr = search rules in
    client_reported (λ m. Appends (chained_text mounted_text m) c.args.out.now c.write_mounted.new.out) c.new.result c.new-2.result (client c.args.tree.now c.args.mount.now) host (c.new-2.ensures ∙ c.path_at.ensures.path) c.write_mounted.ensures.text

pub returns-clause-encoded : goal.returns-clause-encoded
returns-clause-encoded c =
    let host : c.new.result ≡ addr_text c.args.mount.now.addr = search rules in
    client_reported (λ m. IsMounted m (mounted_text m)) c.new.result c.new-2.result (client c.args.tree.now c.args.mount.now) host (c.new-2.ensures ∙ c.path_at.ensures.path) c.write_mounted.ensures.encoded
