use Rattle.std.proofs.Common.{min, length, ◌-◌, ap, ◌∙◌}
use Rattle.nfs_flat.proofs.Inside.{inside_written}
use Rattle.nfs_flat.proofs.flat.put_inside.Goals as goal

pub returns-clause-ok : goal.returns-clause-ok
returns-clause-ok c = inside_written c.args.content.now.items c.args.bytes.now c.extend_from_slice.new.self.items c.overwrite.new.content.items c.args.offset c.min-inside.result (c.min-inside.ensures ∙ ap (λ n. min (length c.args.bytes.now) (n - c.args.offset)) (c.len.ensures ∙ c.args.content.now.ok.0)) c.requires c.in_ok-extend_from_slice.ensures.items c.overwrite.ensures
