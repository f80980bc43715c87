-- A new file, in what is kept.
use Rattle.std.proofs.Common.{◌≡◌, ℕ, ◌<◌, Bool, true, List, [], ◌∷◌, ◌++◌, ◌≢◌, map, length, Option, Some, None, option_map, refl, sym, ap, subst, ◌∙◌, arith}
use Rattle.std.proofs.Common.{Fits, w64}
use Rattle.std.specs.Prelude.{All, slice_get, if◌then◌else◌}
use Rattle.nfs_attrs.specs.declared.moment.Moment.{Moment}
use Rattle.nfs_handles.specs.NumberedFiles.{NumberedFiles, value_at}
use Rattle.nfs_inodes.specs.declared.limits.Limits.{Limits}
use Rattle.nfs_inodes.specs.declared.stored_file.StoredFile.{StoredFile}
use Rattle.nfs_inodes.specs.declared.stored_volume.StoredVolume.{StoredVolume}
use Rattle.nfs_inodes.specs.Tree.{Tree, File, Kind, Directory, Entry, Volume, is_directory, bytes_in, entries_in, next_cookie_in, nlink, bytes_of, files_of}
use Rattle.nfs_inodes.specs.Law.{IsSound, Lives, LivesAsDirectory}
use Rattle.nfs_inodes.specs.Reading.{entry_named}
use Rattle.nfs_inodes.specs.Changes.{with_named_file, Makes, entered, new_file, after_link, after_write_at, file_with_bytes, with_file, after_add_volume, with_new_volume}
use Rattle.nfs_inodes.specs.Changes as changes
use Rattle.nfs_inodes.specs.declared.new_file.NewFile.{NewFile}
use Rattle.nfs_inodes.specs.Conditions.{MayEnter, MayMake, MayLink, MayAddVolume, IsNew}
use Rattle.nfs_inodes.specs.Counts.{CountedFile, CountedVolume, CountedTree, Agrees, tree_in, with_totals}
use Rattle.nfs_inodes.specs.Storage.{file_of, counted_file_of, counted_files, counted_volume_of, counted_tree_of}
use Rattle.nfs_inodes.specs.StoredFiles.{TakesEntry, HasNoEntry, Revalues, SameFile, SameFiles, AddsFile, TakesLink, LinksFile}
use Rattle.nfs_inodes.specs.StepConditions.{MayAdd, MayAddKind, HasRoomFor, IsFresh, retagged}
use Rattle.nfs_inodes.proofs.Lists.{same_some}
use Rattle.nfs_handles.specs.Changes.{Adds}
use Rattle.std.proofs.lemmas.List.{map-append, length-map}
use Rattle.nfs_inodes.proofs.Maps.{rising_bounds, shows_push}
use Rattle.nfs_inodes.proofs.StoredFiles.{counted_file, at_counted_file, same_files}
use Rattle.nfs_inodes.proofs.counts.Operations.{CountsNewFile, counted_after_make, view_after_make, agree_after_make}
use Rattle.nfs_inodes.proofs.counts.Additions.{counted_after_link, CountsLink, view_after_link, agree_after_link, counted_after_add_volume, view_after_add_volume, agree_after_add_volume}
use Rattle.nfs_inodes.proofs.law.Operations.{apart_kinds}
use Rattle.nfs_inodes.proofs.law.NewFiles.{new_here, may_be_founded}
use Rattle.nfs_inodes.proofs.law.WithNewFile.{MayBeFounded}
use Rattle.nfs_inodes.proofs.Tests.{like_there, no_entry_named}
use Rattle.nfs_inodes.proofs.Readers.{next_tag_there}
use Rattle.nfs_inodes.proofs.Views.{lives, kept_at, mapped, place_there, stored_volume_at, stored_volume_counted}

pub counted_parts : (k l : CountedTree) → l.files ≡ k.files → l.next ≡ k.next → l.key ≡ k.key → l.volumes ≡ k.volumes → l.limits ≡ k.limits → l ≡ k
counted_parts k l f n e v m =
    ap (λ x. make x l.next l.key l.volumes l.limits) f ∙ ap (λ x. make k.files x l.key l.volumes l.limits) n ∙ ap (λ x. make k.files k.next x l.volumes l.limits) e ∙ ap (λ x. make k.files k.next k.key x l.limits) v ∙ ap (λ x. make k.files k.next k.key k.volumes x) m
  where
    make : List (ℕ × CountedFile) → ℕ → List ℕ → List CountedVolume → Limits → CountedTree
    make f n e v m = record { files = f; next = n; key = e; volumes = v; limits = m }

pub same_counted : {limits : Limits} (a b : NumberedFiles StoredFile) (stored_volumes : List StoredVolume) → SameFiles a b → counted_tree_of limits b stored_volumes ≡ counted_tree_of limits a stored_volumes
same_counted {limits} a b stored_volumes same = counted_parts (counted_tree_of limits a stored_volumes) (counted_tree_of limits b stored_volumes) same.files same.next same.key refl refl

-- directory d of the tree takes an entry
pub takes_entry_at : {limits : Limits} (a : NumberedFiles StoredFile) (stored_volumes : List StoredVolume) (d : ℕ) (dir : File) → Agrees (counted_tree_of limits a stored_volumes) → LivesAsDirectory (tree_in (counted_tree_of limits a stored_volumes)) d dir → next_cookie_in dir.kind < 18446744073709551615 → TakesEntry a d
takes_entry_at {limits} a stored_volumes d dir keeps at_dir low =
    let t : Tree = tree_in (counted_tree_of limits a stored_volumes) in
    let f = kept_at a stored_volumes t refl d dir at_dir.0 in
    let few = keeps.law.links d dir at_dir.0 in
    let cap = keeps.law.limits.links in
    let are = keeps.links d (counted_file f.0) (at_counted_file a d f.0 f.1) in
    let same : nlink t.files d (file_of f.0.tag f.0.value) ≡ nlink t.files d dir = ap (nlink t.files d) f.2 in
    let cookies : next_cookie_in (file_of f.0.tag f.0.value).kind ≡ next_cookie_in dir.kind = ap (λ (f : File). next_cookie_in f.kind) f.2 in
    record {
      dir = f.0;
      at_dir = f.1;
      is_dir = ap (λ (f : File). is_directory f.kind) f.2 ∙ at_dir.1;
      next_cookie = omega (arith, low, cookies);
      nlink = omega (arith, few, cap, are, same);
      below = (rising_bounds 0 a.next t.files d dir keeps.law.rising at_dir.0).1;
    }

-- no entry of directory d has a name that is fresh there
pub fresh_at : {limits : Limits} (a : NumberedFiles StoredFile) (stored_volumes : List StoredVolume) (t : Tree) → tree_in (counted_tree_of limits a stored_volumes) ≡ t → (d : ℕ) (name : List ℕ) (dir : File) → Lives t d dir → All (λ (e : Entry). e.name ≢ name) (entries_in dir.kind) → HasNoEntry a d name
fresh_at {limits} a stored_volumes t view d name dir at_dir fresh i e =
    ap (λ k. entry_named name (entries_in k)) (like_there a stored_volumes t view d i (sym e) dir at_dir).1 ∙ no_entry_named name (entries_in dir.kind) fresh

pub takes_entry : {limits : Limits} (a : NumberedFiles StoredFile) (stored_volumes : List StoredVolume) (d : ℕ) (name : List ℕ) → Agrees (counted_tree_of limits a stored_volumes) → MayEnter (tree_in (counted_tree_of limits a stored_volumes)) d name → TakesEntry a d
takes_entry {limits} a stored_volumes d name keeps enter = takes_entry_at a stored_volumes d enter.dir keeps enter.at_dir enter.cookie

-- the share of a volume of the tree, and what it counts
pub stored_volume_of : {limits : Limits} (a : NumberedFiles StoredFile) (stored_volumes : List StoredVolume) (index : ℕ) (v : Volume) → Agrees (counted_tree_of limits a stored_volumes) → slice_get (tree_in (counted_tree_of limits a stored_volumes)).volumes index ≡ Some v →
    (s : StoredVolume) × (slice_get stored_volumes index ≡ Some s) × (s.bytes ≡ bytes_of index (tree_in (counted_tree_of limits a stored_volumes)).files) × (s.files ≡ files_of index (tree_in (counted_tree_of limits a stored_volumes)).files) × (v.max_bytes < 18446744073709551616) × (v.max_files < 18446744073709551616)
stored_volume_of {limits} a stored_volumes index v keeps e =
    let s = stored_volume_at stored_volumes index v e in
    let c = stored_volume_counted stored_volumes index s.0 s.1 in
    let t = keeps.totals index (counted_volume_of s.0) c in
    let l = keeps.limits index (counted_volume_of s.0) c in
    (s.0, s.1, t.bytes, t.files, subst (λ (v : Volume). v.max_bytes < 18446744073709551616) s.2 l.0, subst (λ (v : Volume). v.max_files < 18446744073709551616) s.2 l.1)

module _ {limits : Limits} (a : NumberedFiles StoredFile) (stored_volumes : List StoredVolume) (d : ℕ) (name : List ℕ) (stored_file : StoredFile) (keeps : Agrees (counted_tree_of limits a stored_volumes)) (may : MayAdd (tree_in (counted_tree_of limits a stored_volumes)) d name stored_file) where
  abbrev t : Tree
  t = tree_in (counted_tree_of limits a stored_volumes)

  abbrev size : ℕ
  size = length (bytes_in (file_of 0 stored_file).kind)

  pub takes_here : TakesEntry a d
  takes_here = takes_entry a stored_volumes d name keeps may.may.enter

  pub room_here : HasRoomFor stored_volumes stored_file.volume size 1
  room_here =
      let at_index : slice_get t.volumes stored_file.volume ≡ Some may.may.volume = ap (slice_get t.volumes) may.is_new.volume ∙ may.may.at_volume in
      let s = stored_volume_of a stored_volumes stored_file.volume may.may.volume keeps at_index in
      let bytes = s.2 in let files = s.3 in let wide = s.4 in let wide_files = s.5 in
      let same_bytes : bytes_of stored_file.volume t.files ≡ bytes_of may.may.enter.dir.volume t.files = ap (λ k. bytes_of k t.files) may.is_new.volume in
      let same_files : files_of stored_file.volume t.files ≡ files_of may.may.enter.dir.volume t.files = ap (λ k. files_of k t.files) may.is_new.volume in
      let room = may.may.bytes in let few = may.may.files in
      record {
        stored_volume = s.0;
        at_index = s.1;
        bytes_fit = omega (arith, bytes, wide, same_bytes, room);
        files_fit = omega (arith, files, wide_files, same_files, few);
      }

  module _ (now : Moment) (b : NumberedFiles StoredFile) (news : List StoredVolume) (adds : AddsFile a d name stored_file now b) (counts : map counted_volume_of news ≡ with_totals (map counted_volume_of stored_volumes) stored_file.volume size 1) where
    abbrev dir_held : CountedFile
    dir_held = counted_file adds.dir

    abbrev dir_now : CountedFile
    dir_now = counted_file_of adds.dir.tag adds.value

    abbrev new_held : CountedFile
    new_held = counted_file_of adds.tag stored_file

    counted_is : counted_tree_of limits b news ≡ counted_after_make (counted_tree_of limits a stored_volumes) d dir_now new_held stored_file.volume size
    counted_is = counted_parts (counted_after_make (counted_tree_of limits a stored_volumes) d dir_now new_held stored_file.volume size) (counted_tree_of limits b news) adds.files adds.next adds.key counts refl

    has : CountsNewFile (counted_tree_of limits a stored_volumes) d size name now dir_held dir_now new_held
    has = record {
      may = may.may;
      at_dir = at_counted_file a d adds.dir adds.at_dir;
      entered = ap (λ (f : File). retagged f adds.dir.tag) adds.enters.file;
      links = adds.enters.nlink;
      first_links = may.nlink;
      new_file = record { tag = adds.tag_is.fits; sound = retagged_sound (file_of 0 stored_file) adds.tag may.is_new.sound; volume = may.is_new.volume; empty = may.is_new.empty; bytes = may.is_new.bytes; parent = may.is_new.parent };
      few = may.links;
    }
      where
        retagged_sound : {l : Limits} (f : File) (tag : ℕ) → IsSound l f → IsSound l (retagged f tag)
        retagged_sound f tag s = record { mode = s.mode; bytes = s.bytes; path = s.path; names = s.names; cookies = s.cookies; next_cookie = s.next_cookie; apart = s.apart }

    pub stored_agree_after_make : Agrees (counted_tree_of limits b news)
    stored_agree_after_make = subst Agrees (sym counted_is) (agree_after_make (counted_tree_of limits a stored_volumes) d size name now dir_held dir_now new_held stored_file.volume keeps has same_volume)
      where
        same_volume : stored_file.volume ≡ dir_held.file.volume
        same_volume = may.is_new.volume ∙ ap (λ (f : File). f.volume) (same_some (sym may.may.enter.at_dir.0 ∙ lives limits a stored_volumes d adds.dir adds.at_dir))

    pub stored_view_after_make : Makes (tree_in (counted_tree_of limits a stored_volumes)) (λ tag. with_named_file (tree_in (counted_tree_of limits a stored_volumes)) d name (retagged (file_of 0 stored_file) tag) now) (tree_in (counted_tree_of limits b news))
    stored_view_after_make = record {
      tag = adds.tag;
      tag_is = next_tag_there limits a stored_volumes adds.tag adds.tag_is;
      new_is = ap tree_in counted_is ∙ view_after_make (counted_tree_of limits a stored_volumes) d size name now dir_held dir_now new_held stored_file.volume keeps.law has;
    }

-- ---- a file to be added

pub may_add : (t : Tree) (d size : ℕ) (name : List ℕ) (k : Kind) (given : NewFile) (verifier : Option (List ℕ)) (now : Moment) (stored_file : StoredFile) (index : ℕ) (may : MayMake t d name size) → index ≡ changes.volume_index t d → file_of 0 stored_file ≡ new_file index k given verifier 0 now → stored_file.nlink ≡ (if is_directory k then 2 else 1) → IsFresh t.limits d size k → (is_directory k ≡ true → nlink t.files d may.enter.dir < t.limits.links) → MayAdd t d name stored_file
may_add t d size name k given verifier now stored_file index may is_place is links fresh few =
    let f : File = file_of 0 stored_file in
    let kind : f.kind ≡ k = ap (λ (f : File). f.kind) is in
    let long : size ≡ length (bytes_in f.kind) = sym (ap (λ k. length (bytes_in k)) kind ∙ fresh.bytes) in
    let new : IsNew t.limits d size may.enter.dir f = new_here t d size name k given f may kind (ap (λ (f : File). f.volume) is ∙ is_place) (ap (λ (f : File). f.mode) is) (subst (λ n. n < 4294967296) (sym (ap (λ (f : File). f.tag) is)) (omega arith)) fresh in
    let sized : (m : MayMake t d name (length (bytes_in f.kind))) × (m.enter.dir ≡ may.enter.dir) = subst (λ n. (m : MayMake t d name n) × (m.enter.dir ≡ may.enter.dir)) long (may, refl) in
    let directory : is_directory f.kind ≡ is_directory k = ap is_directory kind in
    record {
      may = sized.0;
      is_new = subst (λ g. IsNew t.limits d (length (bytes_in f.kind)) g f) (sym sized.1) (subst (λ n. IsNew t.limits d n may.enter.dir f) long new);
      links = λ y. subst (λ (g : File). nlink t.files d g < t.limits.links) (sym sized.1) (few (sym directory ∙ y));
      nlink = links ∙ ap (λ (b : Bool). if b then 2 else 1) (sym directory);
    }

module _ {limits : Limits} (a : NumberedFiles StoredFile) (stored_volumes : List StoredVolume) (t : Tree) (view : tree_in (counted_tree_of limits a stored_volumes) ≡ t) (keeps : Agrees (counted_tree_of limits a stored_volumes)) (d : ℕ) where
  pub takes_entry_seen : (name : List ℕ) → MayEnter t d name → TakesEntry a d
  takes_entry_seen name enter = takes_entry a stored_volumes d name keeps (subst (λ (t : Tree). MayEnter t d name) (sym view) enter)

  is_place : (index : ℕ) → option_map (λ (i : StoredFile). i.volume) (value_at a d) ≡ Some index → index ≡ changes.volume_index t d
  is_place index e = let i = mapped (λ (i : StoredFile). i.volume) (value_at a d) index e in sym i.2 ∙ place_there a stored_volumes t view d i.0 (sym i.1)

  -- room for an entry changes nothing that is reported
  module _ (b : NumberedFiles StoredFile) (reserved : Revalues a d SameFile b) where
    counted_still : counted_tree_of limits b stored_volumes ≡ counted_tree_of limits a stored_volumes
    counted_still = same_counted a b stored_volumes (same_files a b d reserved)

    pub view_still : tree_in (counted_tree_of limits b stored_volumes) ≡ t
    view_still = ap tree_in counted_still ∙ view

    pub agree_still : Agrees (counted_tree_of limits b stored_volumes)
    agree_still = subst Agrees (sym counted_still) keeps

    module _ (name : List ℕ) (k : Kind) (given : NewFile) (verifier : Option (List ℕ)) (now : Moment) (stored_file : StoredFile) (index : ℕ) (at_index : option_map (λ (i : StoredFile). i.volume) (value_at a d) ≡ Some index)
        (is : file_of 0 stored_file ≡ new_file index k given verifier 0 now) (links : stored_file.nlink ≡ (if is_directory k then 2 else 1)) (may : MayAddKind t d name k) where
      pub may_add_still : MayAdd (tree_in (counted_tree_of limits b stored_volumes)) d name stored_file
      may_add_still = subst (λ (t : Tree). MayAdd t d name stored_file) (sym view_still)
          (may_add t d (length (bytes_in k)) name k given verifier now stored_file index may.may (is_place index at_index) is links may.fresh may.links)

      pub makes_still : (new : Tree) → Makes (tree_in (counted_tree_of limits b stored_volumes)) (λ tag. with_named_file (tree_in (counted_tree_of limits b stored_volumes)) d name (retagged (file_of 0 stored_file) tag) now) new → Makes t (λ tag. with_named_file t d name (new_file (changes.volume_index t d) k given verifier tag now) now) new
      makes_still new makes = subst (λ (f : File). Makes t (λ tag. with_named_file t d name (retagged f tag) now) new) (is ∙ ap (λ index. new_file index k given verifier 0 now) (is_place index at_index))
          (subst (λ (t : Tree). Makes t (λ tag. with_named_file t d name (retagged (file_of 0 stored_file) tag) now) new) view_still makes)

-- ---- a link

pub may_link : {limits : Limits} (a : NumberedFiles StoredFile) (stored_volumes : List StoredVolume) (n d : ℕ) (name given : List ℕ) (t : Tree) → tree_in (counted_tree_of limits a stored_volumes) ≡ t → name ≡ given → MayLink t n d given → MayLink (tree_in (counted_tree_of limits a stored_volumes)) n d name
may_link {limits} a stored_volumes n d name given t view is may = subst (λ (t : Tree). MayLink t n d name) (sym view) (subst (λ (name : List ℕ). MayLink t n d name) (sym is) may)

module _ {limits : Limits} (a : NumberedFiles StoredFile) (stored_volumes : List StoredVolume) (n d : ℕ) (name : List ℕ) (keeps : Agrees (counted_tree_of limits a stored_volumes)) (may : MayLink (tree_in (counted_tree_of limits a stored_volumes)) n d name) where
  pub takes_link : TakesLink a n d
  takes_link =
      let t : Tree = tree_in (counted_tree_of limits a stored_volumes) in
      let f = kept_at a stored_volumes t refl n may.file may.at_file in
      let few = keeps.law.links n may.file may.at_file in
      let cap = keeps.law.limits.links in
      let are = keeps.links n (counted_file f.0) (at_counted_file a n f.0 f.1) in
      let same : nlink t.files n (file_of f.0.tag f.0.value) ≡ nlink t.files n may.file = ap (nlink t.files n) f.2 in
      record {
        file = f.0;
        at_file = f.1;
        nlink = omega (arith, few, are, same);
        other = apart_kinds t n d may.file may.enter.dir may.at_file may.not_directory may.enter.at_dir;
      }

  module _ (now : Moment) (b : NumberedFiles StoredFile) (links : LinksFile a n d name now b) where
    abbrev file_then : CountedFile
    file_then = counted_file links.file

    abbrev file_since : CountedFile
    file_since = counted_file_of links.file.tag links.file_now

    abbrev dir_then : CountedFile
    dir_then = counted_file links.dir

    abbrev dir_since : CountedFile
    dir_since = counted_file_of links.dir.tag links.dir_now

    linked_kept : counted_tree_of limits b stored_volumes ≡ counted_after_link (counted_tree_of limits a stored_volumes) n file_since d dir_since
    linked_kept = counted_parts (counted_after_link (counted_tree_of limits a stored_volumes) n file_since d dir_since) (counted_tree_of limits b stored_volumes) links.files links.next links.key refl refl

    has_link : CountsLink (counted_tree_of limits a stored_volumes) n d name now file_then file_since dir_then dir_since
    has_link = record {
      may = may;
      at_file = at_counted_file a n links.file links.at_file;
      touched = ap (λ (f : File). retagged f links.file.tag) links.gains.file;
      one_more = links.gains.nlink;
      at_dir = at_counted_file a d links.dir links.at_dir;
      entered = ap (λ (f : File). retagged f links.dir.tag) links.enters.file;
      same_links = let l = links.enters.nlink in omega (arith, l);
    }

    pub stored_agree_after_link : Agrees (counted_tree_of limits b stored_volumes)
    stored_agree_after_link = subst Agrees (sym linked_kept) (agree_after_link (counted_tree_of limits a stored_volumes) n d name now file_then file_since dir_then dir_since keeps has_link)

    pub stored_view_after_link : tree_in (counted_tree_of limits b stored_volumes) ≡ after_link (tree_in (counted_tree_of limits a stored_volumes)) n d name now
    stored_view_after_link = ap tree_in linked_kept ∙ view_after_link (counted_tree_of limits a stored_volumes) n d name now file_then file_since dir_then dir_since keeps has_link

-- ---- a volume

pub unchanged : {limits : Limits} (a b : NumberedFiles StoredFile) (stored_volumes news : List StoredVolume) → b ≡ a → news ≡ stored_volumes → Agrees (counted_tree_of limits a stored_volumes) → Agrees (counted_tree_of limits b news)
unchanged {limits} a b stored_volumes news e f keeps = subst (λ (b : NumberedFiles StoredFile). Agrees (counted_tree_of limits b news)) (sym e) (subst (λ (n : List StoredVolume). Agrees (counted_tree_of limits a n)) (sym f) keeps)

pub may_found : {limits : Limits} (a : NumberedFiles StoredFile) (stored_volumes : List StoredVolume) (max_bytes max_files : ℕ) (path given : List ℕ) (t : Tree) → tree_in (counted_tree_of limits a stored_volumes) ≡ t → path ≡ given → MayAddVolume t given max_bytes max_files → MayAddVolume (tree_in (counted_tree_of limits a stored_volumes)) path max_bytes max_files
may_found {limits} a stored_volumes max_bytes max_files path given t view is may = subst (λ (t : Tree). MayAddVolume t path max_bytes max_files) (sym view) (subst (λ (path : List ℕ). MayAddVolume t path max_bytes max_files) (sym is) may)

pub root_file : (f : File) (index places next number : ℕ) (given : NewFile) (now : Moment) (kind : Kind) → index ≡ places → next ≡ number → kind ≡ Directory next 3 [] → f ≡ new_file index kind given None 0 now → f ≡ new_file places (Directory number 3 []) given None 0 now
root_file f index places next number given now kind a b c is =
    is ∙ ap (λ kind. new_file index kind given None 0 now) c
    ∙ ap (λ n. new_file index (Directory n 3 []) given None 0 now) b
    ∙ ap (λ n. new_file n (Directory number 3 []) given None 0 now) a

pub bounded : {n : ℕ} → Fits w64 n → n < 18446744073709551616
bounded f = f.fits

module _ {limits : Limits} (a : NumberedFiles StoredFile) (stored_volumes : List StoredVolume) (path : List ℕ) (max_bytes max_files : ℕ) (given : NewFile) (now : Moment) (keeps : Agrees (counted_tree_of limits a stored_volumes)) (may : MayAddVolume (tree_in (counted_tree_of limits a stored_volumes)) path max_bytes max_files) (stored_file : StoredFile) where
  abbrev the_volume : Volume
  the_volume = record { path = path; max_bytes = max_bytes; max_files = max_files; root = a.next }

  module _ (is : file_of 0 stored_file ≡ new_file (length stored_volumes) (Directory a.next 3 []) given None 0 now) (two : stored_file.nlink ≡ 2) (wide : max_bytes < 18446744073709551616) (wide_files : max_files < 18446744073709551616)
      (b : NumberedFiles StoredFile) (adds : Adds a stored_file b) (stored_volume : StoredVolume) (counted : counted_volume_of stored_volume ≡ record { volume = the_volume; bytes = 0; files = 1 }) where
    abbrev root_held : CountedFile
    root_held = counted_file_of adds.tag stored_file

    places : length (tree_in (counted_tree_of limits a stored_volumes)).volumes ≡ length stored_volumes
    places = length-map (map counted_volume_of stored_volumes) (λ (c : CountedVolume). c.volume) ∙ length-map stored_volumes counted_volume_of

    root_is : root_held.file ≡ new_file (length (tree_in (counted_tree_of limits a stored_volumes)).volumes) (Directory a.next 3 []) given None adds.tag now
    root_is = ap (λ (f : File). retagged f adds.tag) is ∙ ap (λ n. new_file n (Directory a.next 3 []) given None adds.tag now) (sym places)

    founded_kept : counted_tree_of limits b (stored_volumes ++ stored_volume ∷ []) ≡ counted_after_add_volume (counted_tree_of limits a stored_volumes) the_volume root_held
    founded_kept = counted_parts (counted_after_add_volume (counted_tree_of limits a stored_volumes) the_volume root_held) (counted_tree_of limits b (stored_volumes ++ stored_volume ∷ []))
        (ap (λ (k : NumberedFiles StoredFile). counted_files k.files) adds.new_is ∙ shows_push counted_file a.next (record { tag = adds.tag; value = stored_file }) a.files)
        (ap (λ (k : NumberedFiles StoredFile). k.next) adds.new_is)
        (ap (λ (k : NumberedFiles StoredFile). k.key) adds.new_is)
        (map-append counted_volume_of stored_volumes (stored_volume ∷ []) ∙ ap (λ c. map counted_volume_of stored_volumes ++ c ∷ []) counted)
        refl

    may_be : MayBeFounded (tree_in (counted_tree_of limits a stored_volumes)) the_volume root_held.file
    may_be = may_be_founded (tree_in (counted_tree_of limits a stored_volumes)) path max_bytes max_files adds.tag given now root_held.file may adds.tag_is.fits root_is

    pub stored_agree_after_add_volume : Agrees (counted_tree_of limits b (stored_volumes ++ stored_volume ∷ []))
    stored_agree_after_add_volume = subst Agrees (sym founded_kept) (agree_after_add_volume (counted_tree_of limits a stored_volumes) the_volume root_held keeps may_be two wide wide_files)

    pub stored_view_after_add_volume : Makes (tree_in (counted_tree_of limits a stored_volumes)) (λ tag. after_add_volume (tree_in (counted_tree_of limits a stored_volumes)) path max_bytes max_files given tag now) (tree_in (counted_tree_of limits b (stored_volumes ++ stored_volume ∷ [])))
    stored_view_after_add_volume = record {
      tag = adds.tag;
      tag_is = next_tag_there limits a stored_volumes adds.tag adds.tag_is;
      new_is = ap tree_in founded_kept ∙ view_after_add_volume (counted_tree_of limits a stored_volumes) the_volume root_held
          ∙ ap (with_new_volume (tree_in (counted_tree_of limits a stored_volumes)) the_volume) root_is;
    }
