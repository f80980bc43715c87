-- The results of the procedures of NFS (RFC 1813, section 3.3).
use Rattle.std.specs.Prelude.{ℕ, List}
use Rattle.nfs_attrs.specs.Encoding.{IsFattr, IsPostOpAttr, IsWcc, fattr_text, post_op_attr_text, wcc_text}
use Rattle.nfs_args.specs.declared.procedure.Procedure.{Procedure}
use Rattle.nfs_args.specs.declared.procedure.Procedure.TheVariants as proc
use Rattle.nfs_args.specs.declared.answer.NfsAnswer.{NfsAnswer}
use Rattle.nfs_args.specs.declared.answer.NfsAnswer.TheVariants as answer
use Rattle.nfs_args.specs.Encoding.{Arm}
use Rattle.nfs_args.specs.Results.{AlwaysFits, committed_text, empty_text, found_text, FoundFits, IsCommitted, IsEmpty, IsFound, IsLinked}
use Rattle.nfs_args.specs.Results.{IsLinkPath, IsMade, IsPathLimits, IsReadData, IsRenamed, IsResult, IsRights, IsRoom, IsServerLimits}
use Rattle.nfs_args.specs.Results.{IsWritten, link_path_text, linked_text, LinkPathFits, made_text, MadeFits, path_limits_text}
use Rattle.nfs_args.specs.Results.{read_data_text, ReadDataFits, renamed_text, result_text, ResultFits, rights_text, room_text}
use Rattle.nfs_args.specs.Results.{server_limits_text, written_text}
use Rattle.nfs_args.specs.Pages.{IsPage, page_text, PageFits, IsPagePlus, page_plus_text, PagePlusFits}

-- Which bytes encode which result of a procedure. NULL has none.
abbrev pub IsAnswerOf : Procedure → NfsAnswer → List ℕ → Type 0
IsAnswerOf proc.Null = λ value text. ⊥
IsAnswerOf proc.Getattr = Arm answer.Getattr (IsResult IsFattr IsEmpty)
IsAnswerOf proc.Setattr = Arm answer.Setattr (IsResult IsWcc IsWcc)
IsAnswerOf proc.Lookup = Arm answer.Lookup (IsResult IsFound IsPostOpAttr)
IsAnswerOf proc.Access = Arm answer.Access (IsResult IsRights IsPostOpAttr)
IsAnswerOf proc.Readlink = Arm answer.Readlink (IsResult IsLinkPath IsPostOpAttr)
IsAnswerOf proc.Read = Arm answer.Read (IsResult IsReadData IsPostOpAttr)
IsAnswerOf proc.Write = Arm answer.Write (IsResult IsWritten IsWcc)
IsAnswerOf proc.Create = Arm answer.Create (IsResult IsMade IsWcc)
IsAnswerOf proc.Mkdir = Arm answer.Mkdir (IsResult IsMade IsWcc)
IsAnswerOf proc.Symlink = Arm answer.Symlink (IsResult IsMade IsWcc)
IsAnswerOf proc.Mknod = Arm answer.Mknod (IsResult IsMade IsWcc)
IsAnswerOf proc.Remove = Arm answer.Remove (IsResult IsWcc IsWcc)
IsAnswerOf proc.Rmdir = Arm answer.Rmdir (IsResult IsWcc IsWcc)
IsAnswerOf proc.Rename = Arm answer.Rename (IsResult IsRenamed IsRenamed)
IsAnswerOf proc.Link = Arm answer.Link (IsResult IsLinked IsLinked)
IsAnswerOf proc.Readdir = Arm answer.Readdir (IsResult IsPage IsPostOpAttr)
IsAnswerOf proc.Readdirplus = Arm answer.Readdirplus (IsResult IsPagePlus IsPostOpAttr)
IsAnswerOf proc.Fsstat = Arm answer.Fsstat (IsResult IsRoom IsPostOpAttr)
IsAnswerOf proc.Fsinfo = Arm answer.Fsinfo (IsResult IsServerLimits IsPostOpAttr)
IsAnswerOf proc.Pathconf = Arm answer.Pathconf (IsResult IsPathLimits IsPostOpAttr)
IsAnswerOf proc.Commit = Arm answer.Commit (IsResult IsCommitted IsWcc)

-- the text that is written
abbrev pub nfs_text : NfsAnswer → List ℕ
nfs_text (answer.Getattr value) = result_text fattr_text empty_text value
nfs_text (answer.Setattr value) = result_text wcc_text wcc_text value
nfs_text (answer.Lookup value) = result_text found_text post_op_attr_text value
nfs_text (answer.Access value) = result_text rights_text post_op_attr_text value
nfs_text (answer.Readlink value) = result_text link_path_text post_op_attr_text value
nfs_text (answer.Read value) = result_text read_data_text post_op_attr_text value
nfs_text (answer.Write value) = result_text written_text wcc_text value
nfs_text (answer.Create value) = result_text made_text wcc_text value
nfs_text (answer.Mkdir value) = result_text made_text wcc_text value
nfs_text (answer.Symlink value) = result_text made_text wcc_text value
nfs_text (answer.Mknod value) = result_text made_text wcc_text value
nfs_text (answer.Remove value) = result_text wcc_text wcc_text value
nfs_text (answer.Rmdir value) = result_text wcc_text wcc_text value
nfs_text (answer.Rename value) = result_text renamed_text renamed_text value
nfs_text (answer.Link value) = result_text linked_text linked_text value
nfs_text (answer.Readdir value) = result_text page_text post_op_attr_text value
nfs_text (answer.Readdirplus value) = result_text page_plus_text post_op_attr_text value
nfs_text (answer.Fsstat value) = result_text room_text post_op_attr_text value
nfs_text (answer.Fsinfo value) = result_text server_limits_text post_op_attr_text value
nfs_text (answer.Pathconf value) = result_text path_limits_text post_op_attr_text value
nfs_text (answer.Commit value) = result_text committed_text wcc_text value

-- the procedure that has this result
abbrev pub answered : NfsAnswer → Procedure
answered (answer.Getattr value) = proc.Getattr
answered (answer.Setattr value) = proc.Setattr
answered (answer.Lookup value) = proc.Lookup
answered (answer.Access value) = proc.Access
answered (answer.Readlink value) = proc.Readlink
answered (answer.Read value) = proc.Read
answered (answer.Write value) = proc.Write
answered (answer.Create value) = proc.Create
answered (answer.Mkdir value) = proc.Mkdir
answered (answer.Symlink value) = proc.Symlink
answered (answer.Mknod value) = proc.Mknod
answered (answer.Remove value) = proc.Remove
answered (answer.Rmdir value) = proc.Rmdir
answered (answer.Rename value) = proc.Rename
answered (answer.Link value) = proc.Link
answered (answer.Readdir value) = proc.Readdir
answered (answer.Readdirplus value) = proc.Readdirplus
answered (answer.Fsstat value) = proc.Fsstat
answered (answer.Fsinfo value) = proc.Fsinfo
answered (answer.Pathconf value) = proc.Pathconf
answered (answer.Commit value) = proc.Commit

-- what can be written
abbrev pub NfsFits : NfsAnswer → Type 0
NfsFits (answer.Getattr value) = ResultFits AlwaysFits value
NfsFits (answer.Setattr value) = ResultFits AlwaysFits value
NfsFits (answer.Lookup value) = ResultFits FoundFits value
NfsFits (answer.Access value) = ResultFits AlwaysFits value
NfsFits (answer.Readlink value) = ResultFits LinkPathFits value
NfsFits (answer.Read value) = ResultFits ReadDataFits value
NfsFits (answer.Write value) = ResultFits AlwaysFits value
NfsFits (answer.Create value) = ResultFits MadeFits value
NfsFits (answer.Mkdir value) = ResultFits MadeFits value
NfsFits (answer.Symlink value) = ResultFits MadeFits value
NfsFits (answer.Mknod value) = ResultFits MadeFits value
NfsFits (answer.Remove value) = ResultFits AlwaysFits value
NfsFits (answer.Rmdir value) = ResultFits AlwaysFits value
NfsFits (answer.Rename value) = ResultFits AlwaysFits value
NfsFits (answer.Link value) = ResultFits AlwaysFits value
NfsFits (answer.Readdir value) = ResultFits PageFits value
NfsFits (answer.Readdirplus value) = ResultFits PagePlusFits value
NfsFits (answer.Fsstat value) = ResultFits AlwaysFits value
NfsFits (answer.Fsinfo value) = ResultFits AlwaysFits value
NfsFits (answer.Pathconf value) = ResultFits AlwaysFits value
NfsFits (answer.Commit value) = ResultFits AlwaysFits value
