-- How many bytes the longest results have.
use Rattle.std.specs.Prelude.{ℕ, ◌+◌, ◌*◌, ◌≤◌, length, Result, Ok, Err}
use Rattle.nfs_args.specs.declared.procedure.Procedure.{Procedure}
use Rattle.nfs_args.specs.declared.procedure.Procedure.TheVariants as proc
use Rattle.nfs_args.specs.declared.answer.NfsAnswer.{NfsAnswer}
use Rattle.nfs_args.specs.declared.answer.NfsAnswer.TheVariants as answer
use Rattle.nfs_args.specs.declared.failed.Failed.{Failed}
use Rattle.nfs_args.specs.Pages.{page_text, page_plus_text}

-- the most bytes of what a READ answers, of the path of a symbolic link, and of a page after its status
abbrev pub max_data : ℕ
max_data = 131072

abbrev pub max_path : ℕ
max_path = 4096

abbrev pub max_page : ℕ
max_page = 65536

-- the status, an integer and a hyper integer
abbrev pub status_size : ℕ
status_size = 4

abbrev pub word_size : ℕ
word_size = 4

abbrev pub hyper_size : ℕ
hyper_size = 8

abbrev pub moment_size : ℕ
moment_size = 8

-- fattr3, wcc_attr, post_op_attr and wcc_data
abbrev pub attributes_size : ℕ
attributes_size = 84

abbrev pub pre_attributes_size : ℕ
pre_attributes_size = 24

abbrev pub post_op_attributes_size : ℕ
post_op_attributes_size = word_size + attributes_size

abbrev pub change_size : ℕ
change_size = word_size + pre_attributes_size + post_op_attributes_size

-- nfs_fh3
abbrev pub handle_size : ℕ
handle_size = word_size + 64

-- CREATE3resok and the like
abbrev pub made_size : ℕ
made_size = word_size + handle_size + post_op_attributes_size + change_size

abbrev pub largest_of : Procedure → ℕ
largest_of proc.Null = 0
largest_of proc.Getattr = status_size + attributes_size
largest_of proc.Setattr = status_size + change_size
largest_of proc.Lookup = status_size + handle_size + 2 * post_op_attributes_size
largest_of proc.Access = status_size + post_op_attributes_size + word_size
largest_of proc.Readlink = status_size + post_op_attributes_size + word_size + max_path
largest_of proc.Read = status_size + post_op_attributes_size + 3 * word_size + max_data
largest_of proc.Write = status_size + change_size + 2 * word_size + hyper_size
largest_of proc.Create = status_size + made_size
largest_of proc.Mkdir = status_size + made_size
largest_of proc.Symlink = status_size + made_size
largest_of proc.Mknod = status_size + made_size
largest_of proc.Remove = status_size + change_size
largest_of proc.Rmdir = status_size + change_size
largest_of proc.Rename = status_size + 2 * change_size
largest_of proc.Link = status_size + post_op_attributes_size + change_size
largest_of proc.Readdir = status_size + max_page
largest_of proc.Readdirplus = status_size + max_page
largest_of proc.Fsstat = status_size + post_op_attributes_size + 6 * hyper_size + word_size
largest_of proc.Fsinfo = status_size + post_op_attributes_size + 8 * word_size + hyper_size + moment_size
largest_of proc.Pathconf = status_size + post_op_attributes_size + 6 * word_size
largest_of proc.Commit = status_size + change_size + hyper_size

-- this holds of the answer, if there is one
abbrev pub IfAnswered : {A B : Type 0} → (A → Type 0) → Result A (Failed B) → Type 0
IfAnswered P (Ok value) = P value
IfAnswered P (Err failed) = Unit {0}

-- data, path or page, where there is one, are within their bounds
abbrev pub IsWithin : NfsAnswer → Type 0
IsWithin (answer.Getattr value) = Unit {0}
IsWithin (answer.Setattr value) = Unit {0}
IsWithin (answer.Lookup value) = Unit {0}
IsWithin (answer.Access value) = Unit {0}
IsWithin (answer.Readlink value) = IfAnswered (λ a. length a.path ≤ max_path) value
IsWithin (answer.Read value) = IfAnswered (λ a. length a.content ≤ max_data) value
IsWithin (answer.Write value) = Unit {0}
IsWithin (answer.Create value) = Unit {0}
IsWithin (answer.Mkdir value) = Unit {0}
IsWithin (answer.Symlink value) = Unit {0}
IsWithin (answer.Mknod value) = Unit {0}
IsWithin (answer.Remove value) = Unit {0}
IsWithin (answer.Rmdir value) = Unit {0}
IsWithin (answer.Rename value) = Unit {0}
IsWithin (answer.Link value) = Unit {0}
IsWithin (answer.Readdir value) = IfAnswered (λ p. length (page_text p) ≤ max_page) value
IsWithin (answer.Readdirplus value) = IfAnswered (λ p. length (page_plus_text p) ≤ max_page) value
IsWithin (answer.Fsstat value) = Unit {0}
IsWithin (answer.Fsinfo value) = Unit {0}
IsWithin (answer.Pathconf value) = Unit {0}
IsWithin (answer.Commit value) = Unit {0}
