-- What the tests of conditions report: each is true just where its condition holds.
use Rattle.std.proofs.Common.{◌≡◌, ◌≢◌, ℕ, ◌+◌, ◌<◌, ◌≤◌, Bool, true, false, true≢false, List, [], ◌∷◌, map, Option, Some, None, option_map, refl, sym, ap, subst, ◌∙◌, arith}
use Rattle.std.specs.Prelude.{◌&&◌, bytes_eq, cond, slice_get, All, not, is_some, is_none}
use Rattle.std.specs.Bool.{Decides}
use Rattle.std.specs.List.{find}
use Rattle.std.proofs.lemmas.Bool.Decides.{Decides-at, Decides-like, Decides-not, Decides-by_and}
use Rattle.std.proofs.lemmas.Slice.Eq.{bytes_eq-Decides}
use Rattle.std.proofs.lemmas.Option.{slice_get-map}
use Rattle.nfs_handles.specs.declared.number.Number.{Number}
use Rattle.nfs_handles.specs.NumberedFiles.{NumberedFiles, value_at}
use Rattle.nfs_entries.specs.Listing.{Listed}
use Rattle.nfs_inodes.specs.declared.limits.Limits.{Limits}
use Rattle.nfs_inodes.specs.declared.stored_file.StoredFile.{StoredFile}
use Rattle.nfs_inodes.specs.declared.stored_volume.StoredVolume.{StoredVolume}
use Rattle.nfs_inodes.specs.Tree.{Tree, File, Kind, Directory, Entry, Volume, entries_in, next_cookie_in, is_directory, nlink, names_of, bytes_of, files_of}
use Rattle.nfs_inodes.specs.Law.{IsName, Lives}
use Rattle.nfs_inodes.specs.Conditions.{MayEnter, MayMake, MayMakeDirectory, MayLink}
use Rattle.nfs_inodes.specs.Counts.{CountedVolume, Agrees, tree_in}
use Rattle.nfs_inodes.specs.Storage.{file_of, kind_of, counted_tree_of, counted_volume_of, volume_of}
use Rattle.nfs_inodes.specs.StepConditions.{TakesName, TakesFile, MayGainLink, HasRoomIn}
use Rattle.nfs_inodes.specs.Reading.{entry_named, number_named, index_where}
use Rattle.nfs_inodes.proofs.Lists.{same_some, not_both, if_false}
use Rattle.nfs_inodes.proofs.Views.{filed, lives_there, none_there, stored_volume_at, stored_volume_counted}
use Rattle.nfs_inodes.proofs.StoredFiles.{counted_file, at_counted_file}

-- `false`, where it can't hold
pub never : {P : Type 0} → (P → ⊥) → Decides false P
never refuted = (λ e. absurd (true≢false (sym e)), λ p. absurd (refuted p))

-- ---- searches that find nothing

-- f says that p passes nowhere
unfound : {X : Type 0} (p : X → Bool) (P : X → Type 0) (f : List X → Bool) → ((x : X) → Decides (p x) (P x)) → f [] ≡ true → ((x : X) (xs : List X) → f (x ∷ xs) ≡ (not (p x) && f xs)) → (xs : List X) → Decides (f xs) (All (λ x. P x → ⊥) xs)
unfound p P f each none more = Decides-by_and (λ x. not (p x)) (λ x. P x → ⊥) f (λ x. Decides-not (p x) (each x)) none more

-- no entry has a name
unlisted : (name : List ℕ) (es : List Entry) → Decides (is_none (find (λ e. bytes_eq e.name name) es)) (All (λ (e : Entry). e.name ≢ name) es)
unlisted name = unfound (λ (e : Entry). bytes_eq e.name name) (λ e. e.name ≡ name) (λ es. is_none (find (λ e. bytes_eq e.name name) es)) (λ e. bytes_eq-Decides e.name name) refl
    (λ e es. first (bytes_eq e.name name) e (find (λ e. bytes_eq e.name name) es))
  where
    first : (b : Bool) (e : Entry) (o : Option Entry) → is_none (cond b (Some e) o) ≡ (not b && is_none o)
    first true e o = refl
    first false e o = refl

-- no volume has a path
pub unnamed : (path : List ℕ) (vs : List Volume) → Decides (is_none (index_where (λ (v : Volume). bytes_eq v.path path) vs)) (All (λ (v : Volume). v.path ≢ path) vs)
unnamed path = unfound (λ (v : Volume). bytes_eq v.path path) (λ v. v.path ≡ path) (λ vs. is_none (index_where (λ (v : Volume). bytes_eq v.path path) vs)) (λ v. bytes_eq-Decides v.path path) refl
    (λ v vs. first (bytes_eq v.path path) (index_where (λ (v : Volume). bytes_eq v.path path) vs))
  where
    first : (b : Bool) (o : Option ℕ) → is_none (cond b (Some 0) (option_map (λ n. n + 1) o)) ≡ (not b && is_none o)
    first true o = refl
    first false None = refl
    first false (Some n) = refl

pub none_reported : {X : Type 0} (o : Option X) (b : Bool) → is_some o ≡ not b → b ≡ is_none o
none_reported None true e = refl
none_reported None false e = cc
none_reported (Some x) true e = cc
none_reported (Some x) false e = refl

none_alike : {X Y Z : Type 0} (f : X → Z) (g : Y → Z) (o : Option X) (p : Option Y) → option_map f o ≡ option_map g p → is_none o ≡ is_none p
none_alike f g None None e = refl
none_alike f g None (Some y) e = absurd (not_both refl e)
none_alike f g (Some x) None e = absurd (not_both refl (sym e))
none_alike f g (Some x) (Some y) e = refl

-- ---- entries

-- where all have other names, none is found
pub no_entry_named : (name : List ℕ) (es : List Entry) → All (λ (e : Entry). e.name ≢ name) es → entry_named name es ≡ None
no_entry_named name es fresh = is_none_of (entry_named name es) ((unlisted name es).1 fresh)
  where
    is_none_of : (o : Option Entry) → is_none o ≡ true → o ≡ None
    is_none_of None e = refl
    is_none_of (Some x) e = cc

-- the kept directory takes the name where no entry has it
pub takes_name : (i : StoredFile) (parent : ℕ) (entries : Listed) (name : List ℕ) (o : Option Number) (b : Bool) → kind_of i.node ≡ Directory parent entries.next entries.entries → entries.next < 18446744073709551615 → IsName name →
    option_map (λ (n : Number). n.0) o ≡ number_named name entries.entries → is_some o ≡ not b → Decides b (TakesName i name)
takes_name i parent entries name o b kind below is_name search none =
    Decides-at b (is_none (entry_named name entries.entries)) (none_reported o b none ∙ none_alike (λ (n : Number). n.0) (λ (e : Entry). e.number) o (entry_named name entries.entries) search)
    (Decides-like (is_none (entry_named name entries.entries))
    (λ all. record {
      directory = ap is_directory kind;
      cookie = subst (λ (k : Kind). next_cookie_in k < 18446744073709551615) (sym kind) below;
      is_name = is_name;
      fresh = subst (λ (k : Kind). All (λ (e : Entry). e.name ≢ name) (entries_in k)) (sym kind) all;
    })
    (λ takes. subst (λ (k : Kind). All (λ (e : Entry). e.name ≢ name) (entries_in k)) kind takes.fresh)
    (unlisted name entries.entries))
  where
    itself : (o : Option ℕ) → option_map (λ n. n) o ≡ o
    itself None = refl
    itself (Some n) = refl

-- ---- what is kept, and the tree

module _ {limits : Limits} (a : NumberedFiles StoredFile) (stored_volumes : List StoredVolume) (t : Tree) (view : tree_in (counted_tree_of limits a stored_volumes) ≡ t) where
  -- a kept file in the tree
  pub shown_there : (n : ℕ) (i : StoredFile) → Some i ≡ value_at a n → (tag : ℕ) × Lives t n (file_of tag i)
  shown_there n i e = let k = filed a n i e in (k.0.tag, lives_there a stored_volumes t view n k.0 k.1 ∙ ap (λ i. Some (file_of k.0.tag i)) k.2)

  -- and what is there under its number is like it
  pub like_there : (n : ℕ) (i : StoredFile) → Some i ≡ value_at a n → (f : File) → Lives t n f → (i.volume ≡ f.volume) × (kind_of i.node ≡ f.kind)
  like_there n i e f at_n = let s = shown_there n i e in let same : file_of s.0 i ≡ f = same_some (sym s.1 ∙ at_n) in
      (ap (λ (f : File). f.volume) same, ap (λ (f : File). f.kind) same)

  pub none_lives : (n : ℕ) → None ≡ value_at a n → (f : File) → Lives t n f → ⊥
  none_lives n e f at_n = not_both (none_there a stored_volumes t view n e) at_n

  enters : (d : ℕ) (i : StoredFile) (name : List ℕ) → Some i ≡ value_at a d → TakesName i name → MayEnter t d name
  enters d i name e takes = let s = shown_there d i e in record {
    dir = file_of s.0 i;
    at_dir = (s.1, takes.directory);
    cookie = takes.cookie;
    is_name = takes.is_name;
    fresh = takes.fresh;
  }

  entered : (d : ℕ) (i : StoredFile) (name : List ℕ) → Some i ≡ value_at a d → MayEnter t d name → TakesName i name
  entered d i name e enter = let kind = sym (like_there d i e enter.dir enter.at_dir.0).1 in record {
    directory = subst (λ k. is_directory k ≡ true) kind enter.at_dir.1;
    cookie = subst (λ k. next_cookie_in k < 18446744073709551615) kind enter.cookie;
    is_name = enter.is_name;
    fresh = subst (λ k. All (λ (e : Entry). e.name ≢ name) (entries_in k)) kind enter.fresh;
  }

  makes : (d size : ℕ) (i : StoredFile) (name : List ℕ) → Some i ≡ value_at a d → TakesFile t i name size → MayMake t d name size
  makes d size i name e takes =
      let enter = enters d i name e takes.entry in
      let room : HasRoomIn t enter.dir.volume size = subst (λ p. HasRoomIn t p size) (like_there d i e enter.dir enter.at_dir.0).0 takes.room in
      record { enter = enter; number = takes.number; volume = room.volume; at_volume = room.at_volume; files = room.files; bytes = room.bytes; large = takes.large }

  with_named_file : (d size : ℕ) (i : StoredFile) (name : List ℕ) → Some i ≡ value_at a d → MayMake t d name size → TakesFile t i name size
  with_named_file d size i name e may = record {
    entry = entered d i name e may.enter;
    number = may.number;
    room = subst (λ p. HasRoomIn t p size) (sym (like_there d i e may.enter.dir may.enter.at_dir.0).0) (record { volume = may.volume; at_volume = may.at_volume; files = may.files; bytes = may.bytes });
    large = may.large;
  }

  -- ---- tests of a new file

  pub may_make_there : (d size : ℕ) (i : StoredFile) (name : List ℕ) (b : Bool) → Some i ≡ value_at a d → Decides b (TakesFile t i name size) → Decides b (MayMake t d name size)
  may_make_there d size i name b e takes = Decides-like b (makes d size i name e) (with_named_file d size i name e) takes

  pub may_make_none : (d size : ℕ) (name : List ℕ) → None ≡ value_at a d → MayMake t d name size → ⊥
  may_make_none d size name e may = none_lives d e may.enter.dir may.enter.at_dir.0

  module _ (keeps : Agrees (counted_tree_of limits a stored_volumes)) where
    pub links_there : (n : ℕ) (i : StoredFile) → Some i ≡ value_at a n → (f : File) → Lives t n f → i.nlink ≡ nlink t.files n f
    links_there n i e f at_n =
        let k = filed a n i e in
        let kept = keeps.links n (counted_file k.0) (at_counted_file a n k.0 k.1) in
        ap (λ (i : StoredFile). i.nlink) (sym k.2) ∙ kept ∙ ap (λ (t : Tree). nlink t.files n (file_of k.0.tag k.0.value)) view ∙ ap (nlink t.files n) (same_some (sym (lives_there a stored_volumes t view n k.0 k.1) ∙ at_n))

    pub may_mkdir_there : (d : ℕ) (i : StoredFile) (name : List ℕ) (b : Bool) → Some i ≡ value_at a d → i.nlink < t.limits.links → Decides b (TakesFile t i name 0) → Decides b (MayMakeDirectory t d name)
    may_mkdir_there d i name b e few takes = Decides-like b
        (λ takes. let make = makes d 0 i name e takes in record { make = make; links = subst (λ n. n < t.limits.links) (links_there d i e make.enter.dir make.enter.at_dir.0) few })
        (λ (may : MayMakeDirectory t d name). with_named_file d 0 i name e may.make)
        takes

    pub few_links : (d : ℕ) (i : StoredFile) (name : List ℕ) → Some i ≡ value_at a d → MayMakeDirectory t d name → i.nlink < t.limits.links
    few_links d i name e may = let few = may.links in let same = links_there d i e may.make.enter.dir may.make.enter.at_dir.0 in omega (arith, few, same)

    -- ---- tests of a link

    pub gains_link : (n index : ℕ) (i : StoredFile) (b : Bool) → Some i ≡ value_at a n → Decides b ((is_directory (kind_of i.node) ≡ false) × (i.volume ≡ index) × (i.nlink < t.limits.links)) → Decides b (MayGainLink t n index)
    gains_link n index i b e takes = Decides-like b
        (λ takes. let s = shown_there n i e in
        let links = links_there n i e (file_of s.0 i) s.1 in
        let names : nlink t.files n (file_of s.0 i) ≡ names_of n t.files = if_false _ _ takes.0 in
        let few = takes.2 in
        record { file = file_of s.0 i; at_file = s.1; not_directory = takes.0; volume = takes.1; links = omega (arith, few, links, names) })
        (λ (may : MayGainLink t n index). let like = like_there n i e may.file may.at_file in
        let links = links_there n i e may.file may.at_file in
        let names : nlink t.files n may.file ≡ names_of n t.files = if_false _ _ may.not_directory in
        let few = may.links in
        (ap is_directory like.1 ∙ may.not_directory, like.0 ∙ may.volume, omega (arith, few, links, names)))
        takes

    -- ---- volumes

    volume_there : (index : ℕ) (s : StoredVolume) → slice_get stored_volumes index ≡ Some s → slice_get t.volumes index ≡ Some (volume_of s)
    volume_there index s e = ap (λ (t : Tree). slice_get t.volumes index) (sym view) ∙ slice_get-map (λ (c : CountedVolume). c.volume) (map counted_volume_of stored_volumes) index ∙ ap (option_map (λ (c : CountedVolume). c.volume)) (stored_volume_counted stored_volumes index s e)

    its_limits : (index : ℕ) (s : StoredVolume) (v : Volume) → slice_get stored_volumes index ≡ Some s → slice_get t.volumes index ≡ Some v → volume_of s ≡ v
    its_limits index s v e there = same_some (sym (volume_there index s e) ∙ there)

    bytes_there : (index : ℕ) (s : StoredVolume) → slice_get stored_volumes index ≡ Some s → s.bytes ≡ bytes_of index t.files
    bytes_there index s e = (keeps.totals index (counted_volume_of s) (stored_volume_counted stored_volumes index s e)).bytes ∙ ap (λ (t : Tree). bytes_of index t.files) view

    files_there : (index : ℕ) (s : StoredVolume) → slice_get stored_volumes index ≡ Some s → s.files ≡ files_of index t.files
    files_there index s e = (keeps.totals index (counted_volume_of s) (stored_volume_counted stored_volumes index s e)).files ∙ ap (λ (t : Tree). files_of index t.files) view

    pub room_there : (index size : ℕ) (s : StoredVolume) (b : Bool) → slice_get stored_volumes index ≡ Some s → s.files < s.max_files → Decides b (s.bytes + size ≤ s.max_bytes) → Decides b (HasRoomIn t index size)
    room_there index size s b e few fits = Decides-like b
        (λ fits. let bytes = bytes_there index s e in let files = files_there index s e in
        record { volume = volume_of s; at_volume = volume_there index s e; files = omega (arith, files, few); bytes = omega (arith, bytes, fits) })
        (λ (room : HasRoomIn t index size). let has = bytes_there index s e in let fits = room.bytes in
        let limit : s.max_bytes ≡ room.volume.max_bytes = ap (λ (v : Volume). v.max_bytes) (its_limits index s room.volume e room.at_volume) in
        omega (arith, has, fits, limit))
        fits

    pub full : (index size : ℕ) (s : StoredVolume) → slice_get stored_volumes index ≡ Some s → s.max_files ≤ s.files → HasRoomIn t index size → ⊥
    full index size s e many room =
        let limit : s.max_files ≡ room.volume.max_files = ap (λ (v : Volume). v.max_files) (its_limits index s room.volume e room.at_volume) in
        let has = files_there index s e in let few = room.files in omega (arith, has, many, few, limit)

  pub no_room : (index size : ℕ) → slice_get stored_volumes index ≡ None → HasRoomIn t index size → ⊥
  no_room index size e room = let s = stored_volume_at stored_volumes index room.volume (subst (λ (t : Tree). slice_get t.volumes index ≡ Some room.volume) (sym view) room.at_volume) in not_both e s.1

  -- ---- tests of an entry for a file that is there

  pub may_link_there : (n d : ℕ) (i : StoredFile) (name : List ℕ) (b : Bool) → Some i ≡ value_at a d → MayGainLink t n i.volume → Decides b (TakesName i name) → Decides b (MayLink t n d name)
  may_link_there n d i name b e gains takes = Decides-like b
      (λ takes. let enter = enters d i name e takes in record {
        enter = enter;
        file = gains.file;
        at_file = gains.at_file;
        not_directory = gains.not_directory;
        volume = gains.volume ∙ (like_there d i e enter.dir enter.at_dir.0).0;
        links = gains.links;
      })
      (λ (may : MayLink t n d name). entered d i name e may.enter)
      takes

  pub gains_by : (n d : ℕ) (i : StoredFile) (name : List ℕ) → Some i ≡ value_at a d → MayLink t n d name → MayGainLink t n i.volume
  gains_by n d i name e may = record {
    file = may.file;
    at_file = may.at_file;
    not_directory = may.not_directory;
    volume = may.volume ∙ sym (like_there d i e may.enter.dir may.enter.at_dir.0).0;
    links = may.links;
  }
