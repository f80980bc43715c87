-- What a file is like whose attributes are seen.
use Rattle.std.proofs.Common.{◌≡◌, ℕ, ◌+◌, ◌-◌, true, List, length, Option, Some, None, option_map, refl, sym, ap, ◌∙◌, arith}
use Rattle.nfs_attrs.specs.declared.fattr.Fattr.{Fattr}
use Rattle.nfs_inodes.specs.Tree.{Tree, File, Kind, Regular, Directory, Link, at, on_some, is_directory, is_regular, bytes_in, nlink}
use Rattle.nfs_inodes.specs.Law.{Law, Lives}
use Rattle.nfs_inodes.specs.Reading.{attributes_of, attributes_at, number_under, type_of, size_of, is_directory_type, is_regular_type}
use Rattle.nfs_inodes.proofs.Lists.{same_some, not_both, none_from}
use Rattle.nfs_inodes.proofs.Lookups.{found_shown}
use Rattle.nfs_inodes.proofs.Views.{mapped}
use Rattle.nfs_rules.specs.Subjects.{Subject}
use Rattle.nfs_rules.specs.Tests.{found}

directory_type : (k : Kind) → is_directory_type (type_of k) ≡ is_directory k
directory_type (Regular bytes) = refl
directory_type (Directory parent next_cookie entries) = refl
directory_type (Link path) = refl

regular_type : (k : Kind) → is_regular_type (type_of k) ≡ is_regular k
regular_type (Regular bytes) = refl
regular_type (Directory parent next_cookie entries) = refl
regular_type (Link path) = refl

regular_size : (k : Kind) → is_regular k ≡ true → size_of k ≡ length (bytes_in k)
regular_size (Regular bytes) e = refl
regular_size (Directory parent next_cookie entries) e = cc
regular_size (Link path) e = cc

module _ (t : Tree) (f : Fattr) (seen : attributes_at t f.fileid ≡ Some f) where
  abbrev shown : File → Fattr
  shown h = attributes_of f.fileid h (nlink t.files f.fileid h)

  -- it lives
  pub seen_lives : (h : File) × Lives t f.fileid h
  seen_lives = let m = mapped shown (at f.fileid t.files) f seen in (m.0, m.1)

  module _ (h : File) (at_h : Lives t f.fileid h) where
    is_shown : shown h ≡ f
    is_shown = same_some (sym (ap (option_map shown) at_h) ∙ seen)

    pub seen_directory : is_directory_type f.file_type ≡ is_directory h.kind
    seen_directory = ap (λ (g : Fattr). is_directory_type g.file_type) (sym is_shown) ∙ directory_type h.kind

    pub seen_regular : is_regular_type f.file_type ≡ is_regular h.kind
    seen_regular = ap (λ (g : Fattr). is_regular_type g.file_type) (sym is_shown) ∙ regular_type h.kind

    pub seen_size : is_regular h.kind ≡ true → f.size ≡ length (bytes_in h.kind)
    seen_size regular = ap (λ (g : Fattr). g.size) (sym is_shown) ∙ regular_size h.kind regular

    pub seen_place : f.fsid - 1 ≡ h.volume
    seen_place = let e : f.fsid ≡ h.volume + 1 = ap (λ (g : Fattr). g.fsid) (sym is_shown) in omega (arith, e)

    pub seen_links : f.nlink ≡ nlink t.files f.fileid h
    seen_links = ap (λ (g : Fattr). g.nlink) (sym is_shown)

-- ---- what is found

module _ (s : Subject) (name : List ℕ) where
  -- nothing is found where nothing is under the name
  pub none_under : Law s.tree → found s name ≡ None → number_under s.tree s.file.fileid name ≡ None
  none_under law e = none_from (number_under s.tree s.file.fileid name) (λ n under. found_shown s.tree law s.file.fileid n name under (sym (ap (λ o. on_some o None (attributes_at s.tree)) under) ∙ e))

  -- what is found is what its number shows
  pub found_seen : (f : Fattr) → found s name ≡ Some f → (number_under s.tree s.file.fileid name ≡ Some f.fileid) × (attributes_at s.tree f.fileid ≡ Some f)
  found_seen f e = of (number_under s.tree s.file.fileid name) refl e
    where
      of : (o : Option ℕ) → number_under s.tree s.file.fileid name ≡ o → on_some o None (attributes_at s.tree) ≡ Some f → (number_under s.tree s.file.fileid name ≡ Some f.fileid) × (attributes_at s.tree f.fileid ≡ Some f)
      of None under e = absurd (not_both refl e)
      of (Some n) under e =
          let m = mapped (λ (h : File). attributes_of n h (nlink s.tree.files n h)) (at n s.tree.files) f e in
          let same : f.fileid ≡ n = ap (λ (g : Fattr). g.fileid) (sym m.2) in
          (under ∙ ap Some (sym same), ap (attributes_at s.tree) same ∙ e)
