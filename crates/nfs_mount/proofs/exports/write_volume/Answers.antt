use Rattle.std.proofs.Common.{map, ap, ◌∙◌}
use Rattle.nfs_xdr.specs.Encoding.{opaque_text}
use Rattle.nfs_xdr.proofs.Writing.{followed}
use Rattle.nfs_args.specs.Chains.{IsChain, chain_text}
use Rattle.nfs_args.specs.Encoding.{IsString}
use Rattle.nfs_args.proofs.Chains.{chain_written}
use Rattle.nfs_mount.specs.MountAnswers.{exported_at, group}
use Rattle.nfs_mount.proofs.Listed.{volume_encoded}
use Rattle.nfs_mount.proofs.exports.write_volume.Goals as goal

pub returns-clause-encoded : goal.returns-clause-encoded
returns-clause-encoded c = let groups = map group c.patterns.result.now in
    let made = followed (IsString c.new.result) (IsChain IsString groups) (opaque_text c.new.result) (chain_text opaque_text groups) c.write_chained_string.ensures.encoded (chain_written IsString opaque_text groups c.write_patterns.ensures.encoded) in
    volume_encoded c.new.result groups (exported_at c.args.tree.now c.args.table.now c.args.index) (c.new.ensures ∙ c.path_at.ensures.path) (ap (map group) c.patterns.ensures) made
