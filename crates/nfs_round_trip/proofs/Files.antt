-- The line of the next step does it.
use Rattle.std.proofs.Common.{inl, inr, ◌≡◌, ◌≢◌, ℕ, suc, ◌+◌, ◌-◌, ◌%◌, ◌<◌, ◌≤◌, Bool, true, false, List, [], ◌∷◌, ◌++◌, length, Option, Some, None}
use Rattle.std.proofs.Common.{option_map, Ok, refl, sym, ap, subst, ◌∙◌, arith}
use Rattle.std.specs.Prelude.{AllPairs, Contains, Err, Result, if◌then◌else◌, slice_get}
use Rattle.hex.specs.Hex.{IsBytes}
use Rattle.nfs_attrs.specs.declared.fattr.Fattr.{Fattr}
use Rattle.nfs_inodes.specs.Changes.{Makes, after_link, after_mkdir, after_make_file, after_make_link, new_file, volume_index, with_named_file}
use Rattle.nfs_inodes.specs.Conditions.{MayLink, MayMake, MayMakeDirectory, MayMakeLink}
use Rattle.nfs_inodes.specs.Law.{IsName, Law, Lives, LivesAsDirectory}
use Rattle.nfs_inodes.specs.declared.limits.Limits.{Limits}
use Rattle.nfs_inodes.specs.Reading.{attributes_of, entries_at, is_directory_type, type_of}
use Rattle.nfs_inodes.specs.Tree as tree
use Rattle.nfs_inodes.specs.Tree.{Tree, File, Kind, Regular, Directory, Link, Entry, Volume, at, bytes_in, entries_in, is_directory, names_of, nlink, on_some, parent_in}
use Rattle.nfs_inodes.proofs.Lists.{not_in_empty, same_some}
use Rattle.nfs_load.specs.Descriptions.{OnTree, Then, last_root, root_or_cause}
use Rattle.nfs_load.specs.Effects.{AddsName, MakesDir, MakesFile, MakesLink, attributes, link_attributes, link_end, named_file, start}
use Rattle.nfs_load.specs.Fields.{◌>>=◌}
use Rattle.nfs_load.specs.PathEnds as path_ends
use Rattle.nfs_load.specs.PathEnds.{PathEnd, file_at, free_end}
use Rattle.nfs_load.specs.Statements.{Read, FileLine, LinkLine, dir_in, file_in, hard_in, link_in}
use Rattle.nfs_load.specs.Paths as paths
use Rattle.nfs_load.specs.declared.name_form.NameForm.{NameForm}
use Rattle.nfs_load.specs.declared.cause.Cause.{Cause}
use Rattle.nfs_load.specs.declared.cause.Cause.TheVariants.{NoTarget}
use Rattle.nfs_load.specs.declared.line.Keyword.TheVariants as keyword
use Rattle.nfs_load.specs.declared.loaded.Loaded.{Loaded}
use Rattle.nfs_load.specs.declared.refusal.Refusal.{Refusal}
use Rattle.nfs_load.specs.declared.statement.DirLine.{DirLine}
use Rattle.nfs_load.specs.declared.statement.Given.{Given}
use Rattle.nfs_load.specs.declared.statement.HardLine.{HardLine}
use Rattle.nfs_describe.specs.Lines.{dir_line, file_line, link_line, path_text, target_text}
use Rattle.nfs_describe.specs.Places.{FilePath}
use Rattle.nfs_describe.specs.Texts.{given_of, hard_text, own_line}
use Rattle.nfs_read_back.specs.ReadBack.{is_said}
use Rattle.nfs_read_back.proofs.Statements as read_back
use Rattle.nfs_round_trip.specs.Copies.{CanBeSaid, HoldsBytes, copied, copied_kind, copied_mode, copied_volume}
use Rattle.nfs_round_trip.proofs.Changes.{part_with_file, part_with_name}
use Rattle.nfs_round_trip.proofs.Directories.{entries_of, none_named, one_named, shown}
use Rattle.nfs_round_trip.proofs.Going.{IsNamed, end_free, file_found, named_path, path_in_names}
use Rattle.nfs_round_trip.proofs.Made.{Has, partly, with_entries}
use Rattle.nfs_round_trip.proofs.Parts.{IsPart, copy_is_directory, directory_made, file_made, none_before}
use Rattle.nfs_round_trip.proofs.Paths.{IsByteName, PathHeld, PlaceHeld, names_push, path_held, slashed, slashed_push, target_word}
use Rattle.nfs_round_trip.proofs.Reaches.{HasNone, leads}
use Rattle.nfs_round_trip.proofs.Rooms.{has_name, is_entry, may_link, may_make, may_mkdir, may_make_link, same_volume}
use Rattle.nfs_round_trip.proofs.Runs.{Done, Goes, does_made, goes_on, root_is, then_is}
use Rattle.nfs_round_trip.proofs.Walks.{Step, place_of}

pub done_map : {A B : Type 0} (result : Result Unit Refusal) → (A → B) → Done result A → Done result B
done_map result f done = elim done [ inl memory ↦ inl memory | inr it ↦ inr (it.0, f it.1) ]

-- ---- lines of files

own_regular : (form : NameForm) (path : List ℕ) (a : Fattr) (bytes : List ℕ) → path ≢ [] → own_line form path a (Regular bytes) ≡ file_line (path_text form path) (given_of a) bytes
own_regular form [] a bytes some = absurd (some refl)
own_regular form (x ∷ path) a bytes some = refl

own_directory : (form : NameForm) (path : List ℕ) (a : Fattr) (parent next_cookie : ℕ) (entries : List Entry) → path ≢ []
    → own_line form path a (Directory parent next_cookie entries) ≡ dir_line (path_text form path) (given_of a)
own_directory form [] a parent next_cookie entries some = absurd (some refl)
own_directory form (x ∷ path) a parent next_cookie entries some = refl

own_link : (form : NameForm) (path : List ℕ) (a : Fattr) (target : List ℕ) → path ≢ []
    → own_line form path a (Link target) ≡ link_line (path_text form path) a.uid a.gid (target_text form target)
own_link form [] a target some = absurd (some refl)
own_link form (x ∷ path) a target some = refl

pub small : (mode : ℕ) → mode < 4096 → mode % 4096 ≡ mode
small mode less = omega (arith, less)

no_end : (path name : List ℕ) → path ++ 47 ∷ name ≢ []
no_end [] name e = cc
no_end (x ∷ path) name e = cc

-- what a line does in the last volume
pub on_tree : {A : Type 0} (old : Loaded) (w : Volume) (number : ℕ → ℕ) → last_root old.tree ≡ Ok (number w.root) → (read : Read A) (line : A)
    → read ≡ Ok (line, [])
    → (Does : Tree → ℕ → A → Result Unit Refusal → Tree → Type 0) (result : Result Unit Refusal) (loaded : Loaded) → OnTree read Does old result loaded
    → Does old.tree (number w.root) line result loaded.tree × (loaded.table ≡ old.table) × (loaded.names ≡ old.names)
on_tree {A} old w number last read line is Does result loaded on =
    then_is read line [] result (λ (it : A). Does old.tree (number w.root) it result loaded.tree × (loaded.table ≡ old.table) × (loaded.names ≡ old.names)) is
    (root_is (last_root old.tree) (number w.root) result
    (λ root. Then read result (λ (it : A). Does old.tree root it result loaded.tree × (loaded.table ≡ old.table) × (loaded.names ≡ old.names))) last on)

-- the names in a file that holds bytes
pub named_bytes : (k : Kind) (e : Entry) → HoldsBytes k → Contains (entries_in k) e → IsBytes e.name
named_bytes (Regular bytes) e holds c = absurd (not_in_empty [] e refl c)
named_bytes (Directory parent next_cookie entries) e holds c = holds e c
named_bytes (Link path) e holds c = absurd (not_in_empty [] e refl c)

-- what is known before the next step
pub record IsNext (form : NameForm) (t : Tree) (number : ℕ → ℕ) (timed : ℕ → Bool) (all : List Step) (ns : List ℕ) (vs : List Volume) (w : Volume) (s : Step) (f g : File) : Type 0 where
  pub at_w : slice_get t.volumes f.volume ≡ Some w
  pub at_vs : slice_get vs f.volume ≡ Some (copied_volume number w)
  pub last : length vs ≡ suc f.volume
  pub has_root : Has w.root ns
  pub at_dir : LivesAsDirectory t s.0.number f
  pub has : Has s.0.number ns
  pub rest : List Entry
  pub here : entries_at t s.0.number ≡ shown all s.0.number ++ s.1 ∷ rest
  pub lives : Lives t s.1.number g
  pub untimed : timed s.0.number ≡ false
  pub early : timed s.1.number ≡ false
  pub words : CanBeSaid g
  pub dir_words : CanBeSaid f
  pub room : length all + length vs ≤ 4611686018427387968
  pub named : IsNamed all w.root s.0
  pub held : PlaceHeld form t (place_of s)

module _ (Last : Option Loaded → Type 0) (form : NameForm) (t : Tree) (law : Law t) (number : ℕ → ℕ) (timed : ℕ → Bool) (all : List Step) (ns : List ℕ) (vs : List Volume)
    (old : Loaded) (part : IsPart t number timed all ns vs old.tree) (form_is : old.names ≡ form)
    (w : Volume) (s : Step) (f g : File) (next : IsNext form t number timed all ns vs w s f g) where
  abbrev names : List (List ℕ)
  names = next.named.names ++ s.1.name ∷ []

  abbrev path : List ℕ
  path = (place_of s).path

  abbrev word : List ℕ
  word = path_text form path

  abbrev end : PathEnd
  end = record { dir = number s.0.number; name = s.1.name }

  pub is_name : IsName s.1.name
  is_name = has_name t law number timed all ns vs old.tree part s f next.at_dir next.has next.rest next.here next.room

  pub byte_name : IsByteName s.1.name
  byte_name = (is_name, named_bytes f.kind s.1 next.dir_words.holds (is_entry t law number timed all ns vs old.tree part s f next.at_dir next.has next.rest next.here next.room))

  pub fresh : HasNone s.1.name (shown all s.0.number)
  fresh = none_before (shown all s.0.number) s.1 next.rest
      (subst (AllPairs (λ (e g : Entry). (e.name ≢ g.name) × (e.cookie < g.cookie))) (sym (entries_of t law s.0.number f next.at_dir.0) ∙ next.here)
      (law.sound s.0.number f next.at_dir.0).apart)

  path_is : path ≡ slashed names
  path_is = ap (λ l. l ++ 47 ∷ s.1.name) next.named.path ∙ sym (slashed_push next.named.names s.1.name)

  read : (paths.path_in form word ≡ Ok names) × (is_said word ≡ true)
  read = path_in_names form path next.named.names s.1.name path_is (names_push next.named.names s.1.name next.named.are byte_name) (path_held form t (place_of s) next.held)

  free : free_end old.tree (number w.root) names ≡ Ok end
  free = end_free t law number timed all ns vs old.tree part w.root next.has_root s f next.at_dir next.named is_name fresh

  last_is : last_root old.tree ≡ Ok (number w.root)
  last_is =
      let index : length vs - 1 ≡ f.volume = let l = next.last in omega (arith, l) in
      ap (λ l. root_or_cause (option_map (λ (v : Volume). v.root) (slice_get l (length l - 1)))) part.volumes
      ∙ ap (λ i. root_or_cause (option_map (λ (v : Volume). v.root) (slice_get vs i))) index
      ∙ ap (λ o. root_or_cause (option_map (λ (v : Volume). v.root) o)) next.at_vs

  -- ---- a new file

  module _ (new : number s.1.number ≡ suc (length ns)) where
    -- one file more, and the same table and form of names
    abbrev pub IsMore : Loaded → Type 0
    IsMore loaded = IsPart t number timed (all ++ s ∷ []) (ns ++ s.1.number ∷ []) vs loaded.tree × (loaded.table ≡ old.table) × (loaded.names ≡ form)

    volume_is : volume_index old.tree (number s.0.number) ≡ g.volume
    volume_is =
        let made = directory_made t law number timed all ns vs old.tree part s.0.number f next.has next.at_dir in
        ap (λ o. on_some o 0 (λ (h : File). h.volume)) made.1.lives.0 ∙ made.1.volume
        ∙ sym (same_volume t law number timed all ns vs old.tree part s f next.at_dir next.has next.rest next.here next.room w (copied_volume number w)
        next.at_w next.at_vs refl refl g next.lives new)

    file_is : (tag mode : ℕ) (k : Kind) → k ≡ copied_kind number (with_entries [] g.kind) → mode % 4096 ≡ copied_mode (with_entries [] g.kind) g.mode
        → new_file (volume_index old.tree (number s.0.number)) k (attributes (record { mode = mode; uid = g.uid; gid = g.gid })) None tag start
        ≡ copied number tag (partly [] false g)
    file_is tag mode k kind_is mode_is =
        let given : Given = record { mode = mode; uid = g.uid; gid = g.gid } in
        ap (λ v. new_file v k (attributes given) None tag start) volume_is
        ∙ ap (λ k. new_file g.volume k (attributes given) None tag start) kind_is
        ∙ ap (λ m. record (copied number tag (partly [] false g)) { mode = m }) mode_is

    more : (tag mode : ℕ) (k : Kind) → k ≡ copied_kind number (with_entries [] g.kind) → mode % 4096 ≡ copied_mode (with_entries [] g.kind) g.mode → (u : Tree)
        → u ≡ with_named_file old.tree (number s.0.number) s.1.name
        (new_file (volume_index old.tree (number s.0.number)) k (attributes (record { mode = mode; uid = g.uid; gid = g.gid })) None tag start) start
        → IsPart t number timed (all ++ s ∷ []) (ns ++ s.1.number ∷ []) vs u
    more tag mode k kind_is mode_is u is = subst (IsPart t number timed (all ++ s ∷ []) (ns ++ s.1.number ∷ []) vs)
        (ap (λ h. with_named_file old.tree (number s.0.number) s.1.name h start) (sym (file_is tag mode k kind_is mode_is)) ∙ sym is)
        (part_with_file t law number timed all s f next.at_dir next.untimed ns vs old.tree part next.has next.rest next.here tag g next.lives next.early new)

    abbrev given : Given
    given = record { mode = g.mode; uid = g.uid; gid = g.gid }

    module _ (All : Option Loaded → Type 0) (goes : (loaded : Loaded) → IsMore loaded → All (Some loaded)) (links : ℕ) where
      regular_goes : (bytes : List ℕ) → g.kind ≡ Regular bytes → Goes Last (Some old) (own_line form path (attributes_of s.1.number g links) (Regular bytes)) All
      regular_goes bytes is =
          let line : FileLine = record { path = names; given = given; content = bytes } in
          let sound = law.sound s.1.number g next.lives in
          let few : length bytes ≤ t.limits.file_size = subst (λ k. length (bytes_in k) ≤ t.limits.file_size) is sound.bytes in
          let r = read_back.files form old.tree.limits.file_size word names given bytes read.1 read.0 (sound.mode, next.words.uid, next.words.gid)
          (subst HoldsBytes is next.words.holds) (subst (λ (l : Limits). length bytes ≤ l.file_size) (sym part.limits) few) in
          subst (λ l. Goes Last (Some old) l All) (sym (own_regular form path (attributes_of s.1.number g links) bytes (no_end s.0.path s.1.name)))
          (goes_on Last old (file_line word given bytes) keyword.File r.0 IsMore All r.1 goes (λ result loaded done. elim done [
            | inl on ↦
                let it = on_tree old w number last_is (file_in old.names old.tree.limits.file_size r.0) line (ap (λ m. file_in m old.tree.limits.file_size r.0) form_is ∙ r.2) MakesFile result loaded on in
                done_map result (λ made. (
                  more made.tag g.mode (Regular bytes) (ap (λ k. copied_kind number (with_entries [] k)) (sym is))
                      (small g.mode sound.mode ∙ ap (λ k. copied_mode (with_entries [] k) g.mode) (sym is)) loaded.tree made.new_is,
                  it.1,
                  it.2 ∙ form_is,
                ))
                (does_made old.tree (free_end old.tree (number w.root) names)
                (λ (e : PathEnd). MayMake old.tree e.dir e.name (length bytes))
                (λ (e : PathEnd). Makes old.tree (λ tag. after_make_file old.tree e.dir e.name bytes (attributes given) None tag start)) result loaded.tree end free
                (may_make t law number timed all ns vs old.tree part s f next.at_dir next.has next.rest next.here next.room w (copied_volume number w)
                next.at_w next.at_vs refl refl g next.lives new
                (length bytes) (ap (λ k. length (bytes_in k)) is)) it.0)
            | inr memory ↦ inl memory.0
          ]))

      directory_goes : (parent next_cookie : ℕ) (entries : List Entry) → g.kind ≡ Directory parent next_cookie entries
          → Goes Last (Some old) (own_line form path (attributes_of s.1.number g links) (Directory parent next_cookie entries)) All
      directory_goes parent next_cookie entries is =
          let line : DirLine = record { path = names; given = given } in
          let sound = law.sound s.1.number g next.lives in
          let dir : is_directory g.kind ≡ true = ap is_directory is in
          let above : parent ≡ s.0.number = ap parent_in (sym is)
          ∙ law.parents s.0.number f s.1 g next.at_dir.0 (is_entry t law number timed all ns vs old.tree part s f next.at_dir next.has next.rest next.here next.room)
          (next.lives, dir) in
          let r = read_back.dirs form word names given read.1 read.0 (sound.mode, next.words.uid, next.words.gid) in
          subst (λ l. Goes Last (Some old) l All)
          (sym (own_directory form path (attributes_of s.1.number g links) parent next_cookie entries (no_end s.0.path s.1.name)))
          (goes_on Last old (dir_line word given) keyword.Dir r.0 IsMore All r.1 goes (λ result loaded on.
          let it = on_tree old w number last_is (dir_in old.names r.0) line (ap (λ m. dir_in m r.0) form_is ∙ r.2) MakesDir result loaded on in
          done_map result (λ made. (
            more made.tag g.mode (Directory (number s.0.number) 3 [])
                (ap (λ d. Directory (number d) 3 []) (sym above) ∙ ap (λ k. copied_kind number (with_entries [] k)) (sym is))
                (small g.mode sound.mode ∙ ap (λ k. copied_mode (with_entries [] k) g.mode) (sym is)) loaded.tree made.new_is,
            it.1,
            it.2 ∙ form_is,
          ))
          (does_made old.tree (free_end old.tree (number w.root) names)
          (λ (e : PathEnd). MayMakeDirectory old.tree e.dir e.name)
          (λ (e : PathEnd). Makes old.tree (λ tag. after_mkdir old.tree e.dir e.name (attributes given) tag start)) result loaded.tree end free
          (may_mkdir t law number timed all ns vs old.tree part s f next.at_dir next.has next.rest next.here next.room w (copied_volume number w)
          next.at_w next.at_vs refl refl g next.lives new dir) it.0)))

      link_goes : (target : List ℕ) → g.kind ≡ Link target → Goes Last (Some old) (own_line form path (attributes_of s.1.number g links) (Link target)) All
      link_goes target is =
          let line : LinkLine = record { path = names; uid = g.uid; gid = g.gid; target = target } in
          let few : length target ≤ t.limits.link_path = subst (λ k. length (tree.path_in k) ≤ t.limits.link_path) is (law.sound s.1.number g next.lives).path in
          let target_read = target_word form t (place_of s) g old.tree.limits.link_path target next.held next.lives is (subst HoldsBytes is next.words.holds)
          (subst (λ (l : Limits). length target ≤ l.link_path) (sym part.limits) few) in
          let r = read_back.links form old.tree.limits.link_path word names g.uid g.gid (target_text form target) target read.1 read.0 next.words.uid next.words.gid
          target_read.1 target_read.0 in
          subst (λ l. Goes Last (Some old) l All) (sym (own_link form path (attributes_of s.1.number g links) target (no_end s.0.path s.1.name)))
          (goes_on Last old (link_line word g.uid g.gid (target_text form target)) keyword.Link r.0 IsMore All r.1 goes (λ result loaded on.
          let it = on_tree old w number last_is (link_in old.names old.tree.limits.link_path r.0) line (ap (λ m. link_in m old.tree.limits.link_path r.0) form_is ∙ r.2) MakesLink result loaded on in
          done_map result (λ made. (
            more made.tag 511 (Link target) (ap (λ k. copied_kind number (with_entries [] k)) (sym is))
                (ap (λ k. copied_mode (with_entries [] k) g.mode) (sym is)) loaded.tree made.new_is,
            it.1,
            it.2 ∙ form_is,
          ))
          (does_made old.tree (free_end old.tree (number w.root) names)
          (λ (e : PathEnd). MayMakeLink old.tree e.dir e.name target)
          (λ (e : PathEnd). Makes old.tree (λ tag. after_make_link old.tree e.dir e.name target (link_attributes g.uid g.gid) tag start)) result loaded.tree end free
          (may_make_link t law number timed all ns vs old.tree part s f next.at_dir next.has next.rest next.here next.room w (copied_volume number w)
          next.at_w next.at_vs refl refl g next.lives new target is) it.0)))

      by_kind : (k : Kind) → g.kind ≡ k → Goes Last (Some old) (own_line form path (attributes_of s.1.number g links) k) All
      by_kind (Regular bytes) is = regular_goes bytes is
      by_kind (Directory parent next_cookie entries) is = directory_goes parent next_cookie entries is
      by_kind (Link target) is = link_goes target is

      -- the line of a new file makes it
      pub own_goes : Goes Last (Some old) (own_line form path (attributes_of s.1.number g links) g.kind) All
      own_goes = by_kind g.kind refl

  -- ---- a hard link

  module _ (first : FilePath) (named : IsNamed all w.root first) (same : first.number ≡ s.1.number) (held : PathHeld form first.path)
      (there : Has s.1.number ns) (no_dir : is_directory g.kind ≡ false) where
    -- one name more, and the same table and form of names
    abbrev pub IsNamedMore : Loaded → Type 0
    IsNamedMore loaded = IsPart t number timed (all ++ s ∷ []) ns vs loaded.tree × (loaded.table ≡ old.table) × (loaded.names ≡ form)

    no_root : named.names ≢ []
    no_root none =
        let is_root : w.root ≡ s.1.number = same_some (ap (leads (shown all) w.root) (sym none) ∙ named.lead) ∙ same in
        let nowhere = none_named t law s.1.number s.0.number (ap (λ n. names_of n t.files) (sym is_root) ∙ (law.roots f.volume w next.at_w).4) in
        let one = one_named s.1.number (entries_at t s.0.number) s.1
        (subst (λ l. Contains l s.1) (sym (entries_of t law s.0.number f next.at_dir.0))
        (is_entry t law number timed all ns vs old.tree part s f next.at_dir next.has next.rest next.here next.room)) refl in
        omega (arith, nowhere, one)

    first_read : (paths.path_in form (path_text form first.path) ≡ Ok named.names) × (is_said (path_text form first.path) ≡ true)
    first_read = named_path form all w.root first named no_root held

    not_directory : (o : Option File) (h : File) → o ≡ Some h → is_directory h.kind ≡ false
        → path_ends.is_directory (option_map (λ (k : File). attributes_of (number s.1.number) k (nlink old.tree.files (number s.1.number) k)) o) ≡ false
    not_directory o h is plain = ap (λ o. path_ends.is_directory
        (option_map (λ (k : File). attributes_of (number s.1.number) k (nlink old.tree.files (number s.1.number) k)) o)) is ∙ in_kind h.kind plain
      where
        in_kind : (k : Kind) → is_directory k ≡ false → is_directory_type (type_of k) ≡ false
        in_kind (Regular bytes) e = refl
        in_kind (Directory parent next_cookie entries) e = e
        in_kind (Link target) e = refl

    link_end_is : link_end old.tree (number w.root) names named.names ≡ Ok (end, number s.1.number)
    link_end_is =
        let found : file_at old.tree (number w.root) named.names ≡ Some (number s.1.number) =
        file_found t law number timed all ns vs old.tree part w.root next.has_root first named no_root ∙ ap (λ n. Some (number n)) same in
        let made = file_made t law number timed all ns vs old.tree part s.1.number g there next.lives in
        let no : is_directory made.0.kind ≡ false = ap (λ (h : File). is_directory h.kind) made.3 ∙ copy_is_directory number (shown all s.1.number) g.kind
        ∙ no_dir in
        let plain = not_directory (at (number s.1.number) old.tree.files) made.0 made.1 no in
        ap (λ (r : Result PathEnd Cause). r >>= (λ (e : PathEnd). named_file old.tree (file_at old.tree (number w.root) named.names) >>=
        (λ (n : ℕ). Ok (e, n)))) free
        ∙ ap (λ o. named_file old.tree o >>= (λ (n : ℕ). Ok (end, n))) found
        ∙ ap (λ b. unless_directory b >>= (λ (n : ℕ). Ok (end, n))) plain
      where
        unless_directory : Bool → Result ℕ Cause
        unless_directory b = if b then Err NoTarget else Ok (number s.1.number)

    module _ (All : Option Loaded → Type 0) (goes : (loaded : Loaded) → IsNamedMore loaded → All (Some loaded)) where
      pub hard_goes : Goes Last (Some old) (hard_text form path first.path) All
      hard_goes =
          let line : HardLine = record { path = names; old = named.names } in
          let r = read_back.hards form word (path_text form first.path) names named.names read.1 read.0 first_read.1 first_read.0 in
          goes_on Last old (hard_text form path first.path) keyword.Hard r.0 IsNamedMore All r.1 goes (λ result loaded on.
          let it = on_tree old w number last_is (hard_in old.names r.0) line (ap (λ m. hard_in m r.0) form_is ∙ r.2) AddsName result loaded on in
          done_map result (λ (made : loaded.tree ≡ after_link old.tree (number s.1.number) (number s.0.number) s.1.name start). (
            subst (IsPart t number timed (all ++ s ∷ []) ns vs) (sym made)
                (part_with_name t law number timed all s f next.at_dir next.untimed ns vs old.tree part next.has next.rest next.here g next.lives next.early no_dir there),
            it.1,
            it.2 ∙ form_is,
          ))
          (does_made old.tree (link_end old.tree (number w.root) names named.names)
          (λ (e : PathEnd × ℕ). MayLink old.tree e.1 e.0.dir e.0.name)
          (λ (e : PathEnd × ℕ) (u : Tree). u ≡ after_link old.tree e.1 e.0.dir e.0.name start) result loaded.tree (end, number s.1.number) link_end_is
          (may_link t law number timed all ns vs old.tree part s f next.at_dir next.has next.rest next.here next.room g next.lives no_dir there) it.0))
