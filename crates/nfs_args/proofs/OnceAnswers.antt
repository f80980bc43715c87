-- Results of a procedure are encoded once.
use Rattle.nfs_xdr.specs.Encoding.{EncodesOnce}
use Rattle.nfs_attrs.specs.Encoding.{IsFattr, IsPostOpAttr, IsWcc}
use Rattle.nfs_args.specs.declared.procedure.Procedure.{Procedure}
use Rattle.nfs_args.specs.declared.procedure.Procedure.TheVariants as proc
use Rattle.nfs_args.specs.declared.answer.NfsAnswer.TheVariants as answer
use Rattle.nfs_args.specs.Results.{IsCommitted, IsEmpty, IsFound, IsLinked, IsLinkPath, IsMade, IsPathLimits, IsReadData, IsRenamed, IsResult, IsRights, IsRoom, IsServerLimits, IsWritten}
use Rattle.nfs_args.specs.Answers.{IsAnswerOf}
use Rattle.nfs_args.proofs.Once.{arm_once, result_once, attributes_once, committed_once, empty_once, fattr_once, found_once, link_path_once, linked_once, made_once, path_limits_once, read_data_once, renamed_once, rights_once, room_once, server_limits_once, wcc_once, written_once}
use Rattle.nfs_args.specs.Pages.{IsPage, IsPagePlus}
use Rattle.nfs_args.proofs.Chains.{page_once, page_plus_once}

pub answer_once : (p : Procedure) → EncodesOnce (IsAnswerOf p)
answer_once proc.Null = λ v w a b x y p q e. absurd p
answer_once proc.Getattr = arm_once answer.Getattr (IsResult IsFattr IsEmpty) (result_once IsFattr IsEmpty fattr_once empty_once)
answer_once proc.Setattr = arm_once answer.Setattr (IsResult IsWcc IsWcc) (result_once IsWcc IsWcc wcc_once wcc_once)
answer_once proc.Lookup = arm_once answer.Lookup (IsResult IsFound IsPostOpAttr) (result_once IsFound IsPostOpAttr found_once attributes_once)
answer_once proc.Access = arm_once answer.Access (IsResult IsRights IsPostOpAttr) (result_once IsRights IsPostOpAttr rights_once attributes_once)
answer_once proc.Readlink = arm_once answer.Readlink (IsResult IsLinkPath IsPostOpAttr) (result_once IsLinkPath IsPostOpAttr link_path_once attributes_once)
answer_once proc.Read = arm_once answer.Read (IsResult IsReadData IsPostOpAttr) (result_once IsReadData IsPostOpAttr read_data_once attributes_once)
answer_once proc.Write = arm_once answer.Write (IsResult IsWritten IsWcc) (result_once IsWritten IsWcc written_once wcc_once)
answer_once proc.Create = arm_once answer.Create (IsResult IsMade IsWcc) (result_once IsMade IsWcc made_once wcc_once)
answer_once proc.Mkdir = arm_once answer.Mkdir (IsResult IsMade IsWcc) (result_once IsMade IsWcc made_once wcc_once)
answer_once proc.Symlink = arm_once answer.Symlink (IsResult IsMade IsWcc) (result_once IsMade IsWcc made_once wcc_once)
answer_once proc.Mknod = arm_once answer.Mknod (IsResult IsMade IsWcc) (result_once IsMade IsWcc made_once wcc_once)
answer_once proc.Remove = arm_once answer.Remove (IsResult IsWcc IsWcc) (result_once IsWcc IsWcc wcc_once wcc_once)
answer_once proc.Rmdir = arm_once answer.Rmdir (IsResult IsWcc IsWcc) (result_once IsWcc IsWcc wcc_once wcc_once)
answer_once proc.Rename = arm_once answer.Rename (IsResult IsRenamed IsRenamed) (result_once IsRenamed IsRenamed renamed_once renamed_once)
answer_once proc.Link = arm_once answer.Link (IsResult IsLinked IsLinked) (result_once IsLinked IsLinked linked_once linked_once)
answer_once proc.Readdir = arm_once answer.Readdir (IsResult IsPage IsPostOpAttr) (result_once IsPage IsPostOpAttr page_once attributes_once)
answer_once proc.Readdirplus = arm_once answer.Readdirplus (IsResult IsPagePlus IsPostOpAttr) (result_once IsPagePlus IsPostOpAttr page_plus_once attributes_once)
answer_once proc.Fsstat = arm_once answer.Fsstat (IsResult IsRoom IsPostOpAttr) (result_once IsRoom IsPostOpAttr room_once attributes_once)
answer_once proc.Fsinfo = arm_once answer.Fsinfo (IsResult IsServerLimits IsPostOpAttr) (result_once IsServerLimits IsPostOpAttr server_limits_once attributes_once)
answer_once proc.Pathconf = arm_once answer.Pathconf (IsResult IsPathLimits IsPostOpAttr) (result_once IsPathLimits IsPostOpAttr path_limits_once attributes_once)
answer_once proc.Commit = arm_once answer.Commit (IsResult IsCommitted IsWcc) (result_once IsCommitted IsWcc committed_once wcc_once)
