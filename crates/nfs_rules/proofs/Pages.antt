-- Whether the first entry of a page fits.
use Rattle.std.proofs.Common.{◌≡◌, ℕ, Bool, subst}
use Rattle.nfs_dirs.specs.Opening.{first_of, is_below}
use Rattle.nfs_dirs.specs.Pages.{left_after}
use Rattle.nfs_dirs.proofs.Firsts.{first_after}
use Rattle.nfs_inodes.specs.Reading.{entry_after}
use Rattle.nfs_rules.specs.Subjects.{Subject}

-- by what is left of the directory, and by the rule
pub below_by_rule : (s u : Subject) → s ≡ u → (cookie bound one two : ℕ) → one ≡ two → (b : Bool) → is_below bound (first_of (left_after s.tree s.file.fileid cookie)) one ≡ b → is_below bound (entry_after u.tree u.file.fileid cookie) two ≡ b
below_by_rule s u same cookie bound one two beside b e =
    subst (λ (v : Subject). is_below bound (entry_after v.tree v.file.fileid cookie) two ≡ b) same
    (subst (λ n. is_below bound (entry_after s.tree s.file.fileid cookie) n ≡ b) beside
    (subst (λ o. is_below bound o one ≡ b) (first_after s.tree s.file.fileid cookie) e))
