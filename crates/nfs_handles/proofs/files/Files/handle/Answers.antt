use Rattle.std.proofs.Common.{◌≡◌, ℕ, List, Option, None, Some, option_map}
use Rattle.std.specs.Option.{IsSome}
use Rattle.nfs_handles.specs.NumberedFiles.{TaggedFile, at}
use Rattle.nfs_handles.specs.Handles.{handle_text}
use Rattle.nfs_handles.proofs.files.Files.handle.Goals as goal

-- what is there has a handle
handled : {T : Type 0} (key : List ℕ) (n : ℕ) (o : Option (TaggedFile T)) → IsSome o → None ≡ option_map (λ (file : TaggedFile T). handle_text key file.tag n) o → ⊥
handled key n None some none = cc
handled key n (Some file) some none = cc

pub unreachable-requires : goal.unreachable-requires
unreachable-requires g c = handled c.args.self.now.key c.args.number.0 (at c.args.self.now c.args.number.0) c.requires c.in-None.ensures
