-- What becomes of a call.
use Rattle.std.specs.Prelude.{◌≡◌, ℕ, true, Option, Some, None, option_map}
use Rattle.nfs_args.specs.Answers.{IsAnswerOf, answered, nfs_text}
use Rattle.nfs_args.specs.declared.answer.NfsAnswer.{NfsAnswer}
use Rattle.nfs_handles.specs.Tags.{IsNextTag}
use Rattle.nfs_inodes.specs.Reading.{numbered_files}
use Rattle.nfs_inodes.specs.Tree.{Tree}
use Rattle.nfs_procs.specs.Doing.{Doing}
use Rattle.nfs_procs.specs.Scenes.{Scene, verdict_in, subjects_in, seen_in}
use Rattle.nfs_procs.specs.declared.done.Done.{Done}
use Rattle.nfs_procs.specs.declared.done.Done.TheVariants.{Granted, Denied, Memory}
use Rattle.nfs_rules.specs.Rules.{status_of}
use Rattle.nfs_rules.specs.Subjects.{Subject}
use Rattle.nfs_rules.specs.declared.rule.Rule.{Rule}
use Rattle.nfs_xdr.specs.Written.{Written, Appends}

-- no rule fails, and this is what the handles name
pub record IsGranted (c : Scene) (one two : Subject) : Type 0 where
  pub subjects : subjects_in c ≡ Some (one, two)
  pub verdict : verdict_in c ≡ None

-- the text that is written for an answer is an encoding of it (RFC 1813, section 3.3)
abbrev pub IsEncoded : NfsAnswer → Type 0
IsEncoded value = IsAnswerOf (answered value) value (nfs_text value)

-- an answer is written, and so it is encoded
pub record AppendsAnswer (value : NfsAnswer) (before after : Written) : Type 0 where
  pub text : Appends (nfs_text value) before after
  pub encoded : IsEncoded value

-- the procedure is done and answered; a new file has the next tag
pub record HasEffect (c : Scene) (doing : Doing) (new : Tree) (before after : Written) : Type 0 where
  pub one : Subject
  pub two : Subject
  pub granted : IsGranted c one two
  pub tag : ℕ
  pub tag_is : IsNextTag (numbered_files c.tree) tag
  pub new_is : new ≡ doing.effect one two c.now tag
  pub written : AppendsAnswer (doing.granted one two new) before after

-- the first rule that fails is answered by its status, and the tree stays; the uid is known where the rules of the handles are kept
pub record HasFailed (c : Scene) (doing : Doing) (rule : Rule) (uid : Option ℕ) (new : Tree) (before after : Written) : Type 0 where
  pub verdict : verdict_in c ≡ Some rule
  pub uid_is : uid ≡ option_map (λ s. s.0.ids.uid) (subjects_in c)
  pub new_is : new ≡ c.tree
  pub written : AppendsAnswer (doing.denied (status_of rule) (seen_in c)) before after

-- no rule fails, but there is no memory for what grows; the tree stays, and nothing is written
pub record HasNoMemory (c : Scene) (doing : Doing) (new : Tree) (before after : Written) : Type 0 where
  pub one : Subject
  pub two : Subject
  pub granted : IsGranted c one two
  pub takes : doing.takes_memory one two ≡ true
  pub new_is : new ≡ c.tree
  pub written : after ≡ before

abbrev pub Performs : Scene → Doing → Done → Tree → Written → Written → Type 0
Performs c doing Granted new before after = HasEffect c doing new before after
Performs c doing (Denied rule uid) new before after = HasFailed c doing rule uid new before after
Performs c doing (Memory refused) new before after = HasNoMemory c doing new before after
