use Rattle.std.proofs.Common.{List, ℕ, [], drop, subst, refl}
use Rattle.nfs_inodes.specs.Tree.{File, bytes_in}
use Rattle.nfs_inodes.specs.Storage.{kind_of}
use Rattle.nfs_inodes.specs.Reading.{IsFirstChunk, bytes_at}
use Rattle.nfs_inodes.proofs.Readers.{seen, unseen, whole_run, drop_none}
use Rattle.nfs_inodes.proofs.tree.Tree.bytes_at.Goals as goal

pub returns-in-Some : goal.returns-in-Some
returns-in-Some c = subst (λ (bytes : List ℕ). IsFirstChunk c.run_from.result.now (drop c.args.offset bytes))
    (seen c.self.inside.files c.self.inside.volumes.items c.args.self.now c.self.view_is [] (λ (f : File). bytes_in f.kind) c.args.number.0 c.in-Some.stored_file.now (bytes_in (kind_of c.in-Some.stored_file.now.node)) c.in-Some.ensures (λ tag. refl))
    c.run_from.ensures

pub returns-in-None : goal.returns-in-None
returns-in-None c = whole_run [] (drop c.args.offset (bytes_at c.args.self.now c.args.number.0)) (drop_none c.args.offset (bytes_at c.args.self.now c.args.number.0)
    (unseen c.self.inside.files c.self.inside.volumes.items c.args.self.now c.self.view_is [] (λ (f : File). bytes_in f.kind) c.args.number.0 c.in-None.ensures))
