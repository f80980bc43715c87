-- What a file is like whose attributes are read.
use Rattle.std.proofs.Common.{◌≡◌, ℕ, ◌+◌, ◌-◌, true, false, length, Option, Some, None, option_map, refl, sym, ap, ◌∙◌, arith}
use Rattle.std.specs.Bool.{Decides}
use Rattle.nfs_attrs.specs.declared.fattr.Fattr.{Fattr}
use Rattle.nfs_inodes.specs.Tree.{Tree, File, Kind, Regular, Directory, Link, at, on_some, is_directory, is_regular, bytes_in, nlink}
use Rattle.nfs_inodes.specs.Law.{Lives}
use Rattle.nfs_inodes.specs.Reading.{attributes_of, attributes_at, type_of, size_of, is_directory_type, is_regular_type}
use Rattle.nfs_inodes.proofs.Lists.{same_some, not_both}
use Rattle.nfs_inodes.proofs.Views.{mapped}
use Rattle.nfs_conditions.specs.Parts.{is_directory_at}

-- `true`, where it holds
pub always : {P : Type 0} → P → Decides true P
always holds = (λ e. holds, λ p. refl)

-- the cases of an option
pub by_option : {X P : Type 0} (o : Option X) → (o ≡ None → P) → ((x : X) → o ≡ Some x → P) → P
by_option None p q = p refl
by_option (Some x) p q = q x refl

directory_type : (k : Kind) → is_directory_type (type_of k) ≡ is_directory k
directory_type (Regular bytes) = refl
directory_type (Directory parent next_cookie entries) = refl
directory_type (Link path) = refl

regular_type : (k : Kind) → is_regular_type (type_of k) ≡ is_regular k
regular_type (Regular bytes) = refl
regular_type (Directory parent next_cookie entries) = refl
regular_type (Link path) = refl

regular_size : (k : Kind) → is_regular k ≡ true → size_of k ≡ length (bytes_in k)
regular_size (Regular bytes) e = refl
regular_size (Directory parent next_cookie entries) e = cc
regular_size (Link path) e = cc

pub directory_is : (t : Tree) (n : ℕ) (f : File) → Lives t n f → is_directory_at t n ≡ is_directory f.kind
directory_is t n f e = ap (λ o. on_some o false (λ f. is_directory f.kind)) e

module _ (t : Tree) (n : ℕ) where
  abbrev shown : File → Fattr
  shown f = attributes_of n f (nlink t.files n f)

  -- a file without attributes doesn't live
  pub none_lives : None ≡ attributes_at t n → (f : File) → Lives t n f → ⊥
  none_lives e f at_f = not_both (sym e) (ap (option_map shown) at_f)

  pub no_directory : None ≡ attributes_at t n → false ≡ is_directory_at t n
  no_directory e = by_option (at n t.files) (λ none. sym (ap (λ o. on_some o false (λ f. is_directory f.kind)) none)) (λ f some. absurd (none_lives e f some))

  module _ (a : Fattr) (e : Some a ≡ attributes_at t n) where
    -- one with attributes does
    pub lives : (f : File) × Lives t n f
    lives = let m = mapped shown (at n t.files) a (sym e) in (m.0, m.1)

    module _ (f : File) (at_f : Lives t n f) where
      is_shown : shown f ≡ a
      is_shown = same_some (sym (ap (option_map shown) at_f) ∙ sym e)

      pub of_type : is_directory_type a.file_type ≡ is_directory f.kind
      of_type = ap (λ (g : Fattr). is_directory_type g.file_type) (sym is_shown) ∙ directory_type f.kind

      pub regular : is_regular_type a.file_type ≡ is_regular f.kind
      regular = ap (λ (g : Fattr). is_regular_type g.file_type) (sym is_shown) ∙ regular_type f.kind

      pub size : is_regular f.kind ≡ true → a.size ≡ length (bytes_in f.kind)
      size y = ap (λ (g : Fattr). g.size) (sym is_shown) ∙ regular_size f.kind y

      pub fsid : a.fsid ≡ f.volume + 1
      fsid = ap (λ (g : Fattr). g.fsid) (sym is_shown)

      pub index : a.fsid - 1 ≡ f.volume
      index = let e : a.fsid ≡ f.volume + 1 = fsid in omega (arith, e)

      pub links : a.nlink ≡ nlink t.files n f
      links = ap (λ (g : Fattr). g.nlink) (sym is_shown)

    pub directory_at : is_directory_type a.file_type ≡ is_directory_at t n
    directory_at = let l = lives in of_type l.0 l.1 ∙ sym (directory_is t n l.0 l.1)
