-- What the rules look at: who calls, and the file that a handle names.
use Rattle.std.specs.Prelude.{ℕ, ◌-◌, List, Option, None, option_map}
use Rattle.nfs_attrs.specs.declared.fattr.Fattr.{Fattr}
use Rattle.nfs_exports.specs.declared.addr.Addr.{Addr}
use Rattle.nfs_exports.specs.declared.options.Options.{Options}
use Rattle.nfs_exports.specs.declared.export_table.Export.{Export}
use Rattle.nfs_exports.specs.Ids.{Ids, squash}
use Rattle.nfs_exports.specs.Tables.{exports_of, grant}
use Rattle.nfs_handles.specs.Handles.{reading}
use Rattle.nfs_handles.specs.declared.reading.Reading.{Reading}
use Rattle.nfs_handles.specs.declared.reading.Reading.TheVariants.{Live, Stale, Bad}
use Rattle.nfs_inodes.specs.Reading.{attributes_at, numbered_files}
use Rattle.nfs_inodes.specs.Tree.{Tree, on_some}
use Rattle.nfs_rpc.specs.AuthSys.{Credential}

-- from where a call comes, and who calls in the client's words
pub record Caller : Type 0 where
  pub addr : Addr
  pub cred : Credential

-- the tree, the file that a handle names, the options that the address has at its volume, and the ids that these leave to the caller
pub record Subject : Type 0 where
  pub tree : Tree
  pub file : Fattr
  pub options : Options
  pub ids : Ids

-- the attributes of the file that a handle names, if one lives
abbrev pub live_at : Tree → Reading → Option Fattr
live_at t (Live n) = attributes_at t n.0
live_at t Stale = None
live_at t Bad = None

abbrev pub named : Tree → List ℕ → Option Fattr
named t handle = live_at t (reading (numbered_files t) handle)

-- the options that an address has at the volume of a file, if a pattern covers it; the number of a volume is 1 more than its index
abbrev pub granted : List (List Export) → Addr → Fattr → Option Options
granted exports addr f = grant (exports_of exports (f.fsid - 1)) addr

abbrev pub subject_with : Tree → Credential → Fattr → Options → Subject
subject_with t cred f options = record { tree = t; file = f; options = options; ids = squash options cred }

-- none where the handle names no file that lives, or no pattern of its volume covers the address
abbrev pub subject_at : Tree → List (List Export) → Caller → List ℕ → Option Subject
subject_at t exports caller handle = on_some (named t handle) None (λ f. option_map (subject_with t caller.cred f) (granted exports caller.addr f))
