-- An entry that a directory loses, in what is kept.
use Rattle.std.proofs.Common.{◌≡◌, ◌≢◌, ℕ, ◌+◌, Bool, false, List, Some, option_map, refl, sym, ap, subst, ◌∙◌, arith}
use Rattle.nfs_attrs.specs.declared.moment.Moment.{Moment}
use Rattle.nfs_handles.specs.NumberedFiles.{NumberedFiles, TaggedFile, value_at, with_value, without}
use Rattle.nfs_handles.specs.NumberedFiles as numbered
use Rattle.nfs_inodes.specs.declared.limits.Limits.{Limits}
use Rattle.nfs_inodes.specs.declared.stored_file.StoredFile.{StoredFile}
use Rattle.nfs_inodes.specs.declared.stored_volume.StoredVolume.{StoredVolume}
use Rattle.nfs_inodes.specs.Tree.{Tree, File, Entry, at, on_some, one_when, entries_in, is_directory, names_of, nlink}
use Rattle.nfs_inodes.specs.Law.{Lives, LivesAsDirectory}
use Rattle.nfs_inodes.specs.Changes.{with_file, left}
use Rattle.nfs_inodes.specs.Reading.{entry_named}
use Rattle.nfs_inodes.specs.Counts.{CountedFile, CountedTree, Agrees, tree_in}
use Rattle.nfs_inodes.specs.Storage.{file_of, kind_of, counted_tree_of, HasRoom}
use Rattle.nfs_inodes.specs.StoredFiles.{Revalues, IsThere}
use Rattle.nfs_inodes.specs.StepConditions.{retagged}
use Rattle.nfs_inodes.specs.Removals.{HasRoomAt, LosesEntry, Leaves}
use Rattle.nfs_inodes.proofs.Lists.{by_number, same_some}
use Rattle.nfs_inodes.proofs.Maps.{at_with_other, at_without_other}
use Rattle.nfs_inodes.proofs.law.WithEntry.{one_same}
use Rattle.nfs_inodes.proofs.StoredFiles.{counted_file, at_counted_file, at_value_same, at_value_other}
use Rattle.nfs_inodes.proofs.counts.FileChanged.{AgreesBut, view_recounted, kept_as}
use Rattle.nfs_inodes.proofs.law.WithoutEntry.{names_apart, one_less, nlink_less_there}
use Rattle.nfs_inodes.proofs.counts.Removals.{counted_left, agrees_left}
use Rattle.nfs_inodes.proofs.Views.{kept_at, lives}

-- ---- room for an entry

pub room_revalued : {From : StoredFile → StoredFile → Type 0} (a b : NumberedFiles StoredFile) (n : ℕ) (r : Revalues a n From b) → (HasRoom r.was.value → HasRoom r.value) → (d : ℕ) → HasRoomAt a d → HasRoomAt b d
room_revalued a b n r more d has i e = by_number d n
    (λ s. let is : r.value ≡ i = same_some (sym (ap (option_map (λ (f : TaggedFile StoredFile). f.value)) (ap (λ (u : NumberedFiles StoredFile). numbered.at u d) r.new_is ∙ ap (numbered.at (with_value a n r.value)) s ∙ at_value_same a n r.was r.value r.at_was)) ∙ e) in
    subst HasRoom is (more (has r.was.value (ap (value_at a) s ∙ ap (option_map (λ (f : TaggedFile StoredFile). f.value)) r.at_was))))
    (λ o. has i (ap (option_map (λ (f : TaggedFile StoredFile). f.value)) (sym (ap (λ (u : NumberedFiles StoredFile). numbered.at u d) r.new_is ∙ at_value_other a n d r.was r.value r.at_was o)) ∙ e))

pub room_without : (a b : NumberedFiles StoredFile) (n : ℕ) → b ≡ without a n → (d : ℕ) → d ≢ n → HasRoomAt a d → HasRoomAt b d
room_without a b n is d o has i e = has i (ap (option_map (λ (f : TaggedFile StoredFile). f.value)) (sym (ap (λ (u : NumberedFiles StoredFile). numbered.at u d) is ∙ at_without_other n d a.files o)) ∙ e)

-- ---- an entry less

-- the entry of a name in directory d names file n
pub record NamesFile (t : Tree) (d : ℕ) (name : List ℕ) (n : ℕ) : Type 0 where
  pub dir : File
  pub at_dir : LivesAsDirectory t d dir
  pub entry : Entry
  pub found : entry_named name (entries_in dir.kind) ≡ Some entry
  pub number : n ≡ entry.number
  pub file : File
  pub at_entry : Lives t entry.number file

module _ {limits : Limits} (a : NumberedFiles StoredFile) (olds : List StoredVolume) (d : ℕ) (name : List ℕ) (n : ℕ) (agree : Agrees (counted_tree_of limits a olds)) (names : NamesFile (tree_in (counted_tree_of limits a olds)) d name n) where
  abbrev k : CountedTree
  k = counted_tree_of limits a olds

  abbrev t : Tree
  t = tree_in (counted_tree_of limits a olds)

  pub at_file : Lives t n names.file
  at_file = ap (λ m. at m t.files) names.number ∙ names.at_entry

  kept_dir : (f : TaggedFile StoredFile) × (numbered.at a d ≡ Some f) × (file_of f.tag f.value ≡ names.dir)
  kept_dir = kept_at a olds t refl d names.dir names.at_dir.0

  pub kept_file : (f : TaggedFile StoredFile) × (numbered.at a n ≡ Some f) × (file_of f.tag f.value ≡ names.file)
  kept_file = kept_at a olds t refl n names.file at_file

  pub is_subdirectory : (b : Bool) → b ≡ on_some (value_at a n) false (λ f. is_directory (kind_of f.node)) → b ≡ is_directory names.file.kind
  is_subdirectory b e = e ∙ ap (λ o. on_some (option_map (λ (f : TaggedFile StoredFile). f.value) o) false (λ f. is_directory (kind_of f.node))) kept_file.1 ∙ ap (λ (f : File). is_directory f.kind) kept_file.2

  pub loses_entry : (b : Bool) → b ≡ on_some (value_at a n) false (λ f. is_directory (kind_of f.node)) → LosesEntry a d (one_when b)
  loses_entry b e =
      let sub : one_when b ≡ one_when (is_directory names.file.kind) = ap one_when (is_subdirectory b e) in
      let are : kept_dir.0.value.nlink ≡ nlink t.files d names.dir = agree.links d (counted_file kept_dir.0) (at_counted_file a d kept_dir.0 kept_dir.1) ∙ ap (nlink t.files d) kept_dir.2 in
      let less = nlink_less_there t d names.dir.ctime name names.dir names.entry agree.law.rising names.at_dir.0 (names_apart names.dir (agree.law.sound d names.dir names.at_dir.0)) names.found names.file names.at_dir.1 names.at_entry in
      record { dir = kept_dir.0; at_dir = kept_dir.1; nlink = omega (arith, sub, are, less) }

  -- the links of its file
  pub links_of_file : kept_file.0.value.nlink ≡ nlink t.files n names.file
  links_of_file = agree.links n (counted_file kept_file.0) (at_counted_file a n kept_file.0 kept_file.1) ∙ ap (nlink t.files n) kept_file.2

  module _ (other : n ≢ d) (now : Moment) (b : NumberedFiles StoredFile) (sub : Bool) (is_sub : sub ≡ on_some (value_at a n) false (λ f. is_directory (kind_of f.node))) (leaves : Revalues a d (Leaves name (one_when sub) now) b) where
    dir_was : file_of leaves.was.tag leaves.was.value ≡ names.dir
    dir_was = same_some (sym (lives limits a olds d leaves.was leaves.at_was) ∙ names.at_dir.0)

    -- what is kept without the entry
    abbrev pub k1 : CountedTree
    k1 = counted_left (counted_tree_of limits a olds) d names.dir name now leaves.value.nlink

    abbrev pub t1 : Tree
    t1 = with_file (tree_in (counted_tree_of limits a olds)) d (left names.dir name now)

    pub counted_1 : counted_tree_of limits b olds ≡ k1
    counted_1 = kept_as a b olds olds d leaves (left names.dir name now) (ap (λ (f : File). retagged f leaves.was.tag) leaves.from.file ∙ ap (λ (f : File). left f name now) dir_was)

    pub view_1 : tree_in k1 ≡ t1
    view_1 = view_recounted k d (record { file = left names.dir name now; nlink = leaves.value.nlink }) k.volumes refl

    abbrev dir_held : CountedFile
    dir_held = record { file = names.dir; nlink = leaves.was.value.nlink }

    at_dir_held : at d k.files ≡ Some dir_held
    at_dir_held = at_counted_file a d leaves.was leaves.at_was ∙ ap (λ (f : File). Some (with_links f)) dir_was
      where
        with_links : File → CountedFile
        with_links f = record { file = f; nlink = leaves.was.value.nlink }

    pub agrees_1 : AgreesBut n k1
    agrees_1 = subst (λ m. AgreesBut m k1) (sym names.number)
        (agrees_left k d leaves.value.nlink now name dir_held names.entry names.file agree at_dir_held names.at_dir.1 names.found names.at_entry
        (ap (λ m. leaves.value.nlink + m) (ap one_when (sym (is_subdirectory sub is_sub))) ∙ leaves.from.nlink))

    pub at_1 : numbered.at b n ≡ Some kept_file.0
    at_1 = ap (λ (u : NumberedFiles StoredFile). numbered.at u n) leaves.new_is ∙ at_value_other a d n leaves.was leaves.value leaves.at_was other ∙ kept_file.1

    pub is_there_still : IsThere b n
    is_there_still = record { file = kept_file.0; at_file = at_1 }

    pub names_1 : names_of n t1.files + 1 ≡ names_of n t.files
    names_1 = let reported = (one_less t d now name names.dir names.entry agree.law.rising names.at_dir.0 (names_apart names.dir (agree.law.sound d names.dir names.at_dir.0)) names.found).names n in
        let one = one_same n names.entry names.number in omega (arith, reported, one)

    pub at_t1 : Lives t1 n names.file
    at_t1 = at_with_other d n (left names.dir name now) t.files other ∙ at_file

    -- what is kept of its file
    abbrev pub held : CountedFile
    held = record { file = names.file; nlink = kept_file.0.value.nlink }

    pub at_k1 : at n k1.files ≡ Some held
    at_k1 = at_with_other d n (record { file = left names.dir name now; nlink = leaves.value.nlink }) k.files other ∙ at_counted_file a n kept_file.0 kept_file.1 ∙ ap (λ (f : File). Some (with_links f)) kept_file.2
      where
        with_links : File → CountedFile
        with_links f = record { file = f; nlink = kept_file.0.value.nlink }
