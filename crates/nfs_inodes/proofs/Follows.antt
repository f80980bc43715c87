-- Each operation as changes of the numbered files, and what handles keep through them.
use Rattle.std.proofs.Common.{◌≡◌, ℕ, ◌-◌, ◌^◌, ◌<◌, List, [], ◌∷◌, ◌++◌, Option, Some, None, option_map, is_some, cond, refl, sym, ap, subst, ◌∙◌, arith}
use Rattle.std.specs.Prelude.{length, nat_eq}
use Rattle.nfs_attrs.specs.declared.moment.Moment.{Moment}
use Rattle.nfs_handles.specs.NumberedFiles.{TaggedFile, IsNumbered}
use Rattle.nfs_handles.specs.Handles.{number}
use Rattle.nfs_handles.specs.declared.reading.Reading.TheVariants.{Live, Stale}
use Rattle.nfs_handles.specs.Runs.{Put, Changed, Taken}
use Rattle.nfs_handles.proofs.Runs.{runs_keep, numbers_are_for_good}
use Rattle.nfs_handles.proofs.Handles.{handles_name_one}
use Rattle.nfs_inodes.specs.declared.given_attributes.GivenAttributes.{GivenAttributes}
use Rattle.nfs_inodes.specs.declared.new_file.NewFile.{NewFile}
use Rattle.nfs_inodes.specs.Tree.{Tree, File, Directory, Entry, at, on_some, entries_in, names_of}
use Rattle.nfs_inodes.specs.Law.{Law, Lives}
use Rattle.nfs_inodes.specs.Changes.{with_new_file, with_file, without_file, entered, left, moved_to, touched, released, carried, file_with_bytes, resized_to, with_given, with_entry, with_named_file, after_link, after_write_at, after_resize, after_set, after_unlink, after_rename, after_add_volume, new_file}
use Rattle.nfs_inodes.specs.Conditions.{MayMake, MayLink, MayWrite, MayResize, MayUnlink, MayCarry, MayRename, MayAddVolume}
use Rattle.nfs_inodes.specs.Reading.{numbered_files, entry_named}
use Rattle.nfs_inodes.specs.Laws.{Follows, ChangesFollow, HandlesAreForGood}
use Rattle.nfs_inodes.proofs.Lists.{by_test, by_number, if_true, if_false}
use Rattle.nfs_inodes.proofs.Maps.{at_shows, at_with_other}
use Rattle.nfs_inodes.proofs.Numbers.{numbered_born, numbered_changed, numbered_gone}
use Rattle.nfs_inodes.proofs.law.WithNewFile.{stays}
use Rattle.nfs_inodes.proofs.law.WithEntry.{gained_is}
use Rattle.nfs_inodes.proofs.law.Operations.{apart_kinds, linked_is, touched_is}
use Rattle.nfs_inodes.proofs.law.Settings.{resized_is, set_is}
use Rattle.nfs_inodes.proofs.law.Unlinks.{unlinked_is, may_be_released, law_after_unlink}
use Rattle.nfs_inodes.proofs.law.Carried.{first, second, carried_is, may_move, may_gain}
use Rattle.nfs_inodes.proofs.law.Renames.{Ready, renamed_new, renamed_same, renamed_over, ready_new, ready_over, may_unlink}

itself : (t : Tree) → Follows t t
itself t = record { changes = []; run = refl }

joined : (t u w : Tree) → Follows t u → Follows u w → Follows t w
joined t u w first later = record { changes = first.changes ++ later.changes; run = runs_keep.joined (numbered_files t) (numbered_files u) (numbered_files w) first.changes later.changes first.run later.run }

follows_born : (t : Tree) (f : File) → f.tag < 2 ^ 32 → t.next < 2 ^ 64 - 1 → Follows t (with_new_file t f)
follows_born t f fits room = record {
  changes = Put f.tag f ∷ [];
  run = ((fits, λ last. let s : t.next ≡ 2 ^ 64 - 1 = last in omega (arith, room, s)), numbered_born t f);
}

follows_changed : (t : Tree) (n : ℕ) (f g : File) → Lives t n f → g.tag ≡ f.tag → Follows t (with_file t n g)
follows_changed t n f g at_n same = record { changes = Changed n g ∷ []; run = (tt, numbered_changed t n f g at_n same) }

follows_gained : (t : Tree) (d n : ℕ) (name : List ℕ) (now : Moment) (f : File) → Lives t d f → Follows t (with_entry t d name n now)
follows_gained t d n name now f at_d = subst (Follows t) (sym (gained_is t d n now name f at_d)) (follows_changed t d f (entered f name n now) at_d refl)

follows_made : (t : Tree) (d size : ℕ) (name : List ℕ) (f : File) (now : Moment) → MayMake t d name size → f.tag < 2 ^ 32 → Law t → Follows t (with_named_file t d name f now)
follows_made t d size name f now may fits law =
    joined t (with_new_file t f) (with_named_file t d name f now) (follows_born t f fits may.number) (follows_gained (with_new_file t f) d t.next name now may.enter.dir (stays t f d may.enter.dir law may.enter.at_dir.0))

follows_linked : (t : Tree) (n d : ℕ) (name : List ℕ) (now : Moment) → MayLink t n d name → Law t → Follows t (after_link t n d name now)
follows_linked t n d name now may law =
    let g : File = record may.file { ctime = now } in
    let apart = apart_kinds t n d may.file may.enter.dir may.at_file may.not_directory may.enter.at_dir in
    subst (Follows t) (sym (linked_is t n d name now may.file may.at_file))
    (joined t (with_file t n g) (with_entry (with_file t n g) d name n now) (follows_changed t n may.file g may.at_file refl)
    (follows_gained (with_file t n g) d n name now may.enter.dir (at_with_other n d g t.files apart ∙ may.enter.at_dir.0)))

follows_written : (t : Tree) (n offset : ℕ) (bytes : List ℕ) (now : Moment) → MayWrite t n offset (length bytes) → Law t → Follows t (after_write_at t n offset bytes now)
follows_written t n offset [] now may law = itself t
follows_written t n offset (b ∷ bs) now may law = subst (Follows t) (sym (ap (λ o. on_some o t (λ f. with_file t n (file_with_bytes f offset (b ∷ bs) now))) may.at_file))
    (follows_changed t n may.file (file_with_bytes may.file offset (b ∷ bs) now) may.at_file refl)

follows_resized : (t : Tree) (n size : ℕ) (now : Moment) → MayResize t n size → Law t → Follows t (after_resize t n size now)
follows_resized t n size now may law = subst (Follows t) (sym (resized_is t n size now may.file may.at_file))
    (follows_changed t n may.file (resized_to may.file size now) may.at_file refl)

follows_set : (t : Tree) (n : ℕ) (given : GivenAttributes) (now : Moment) (f : File) → Lives t n f → Law t → Follows t (after_set t n given now)
follows_set t n given now f at_n law = subst (Follows t) (sym (set_is t n given now f at_n)) (follows_changed t n f (with_given f given now) at_n refl)

follows_released : (t : Tree) (n : ℕ) (now : Moment) (f : File) → Lives t n f → Follows t (released t n now)
follows_released t n now f at_n = by_test (nat_eq (names_of n t.files) 0)
    (λ y. subst (Follows t) (sym (if_true (without_file t n) (touched t n now) y)) (record { changes = Taken n ∷ []; run = (tt, numbered_gone t n) }))
    (λ z. subst (Follows t) (sym (if_false (without_file t n) (touched t n now) z ∙ touched_is t n now f at_n)) (follows_changed t n f (record f { ctime = now }) at_n refl))

follows_unlinked : (t : Tree) (d : ℕ) (name : List ℕ) (now : Moment) → MayUnlink t d name → Law t → Follows t (after_unlink t d name now)
follows_unlinked t d name now may law =
    let u : Tree = with_file t d (left may.dir name now) in
    let released_file = may_be_released t d name now may law in
    subst (Follows t) (sym (unlinked_is t d name now may))
    (joined t u (released u may.entry.number now) (follows_changed t d may.dir (left may.dir name now) may.at_dir.0 refl)
    (follows_released u may.entry.number now released_file.file released_file.at_file))

follows_carried : (t : Tree) (from : ℕ) (name : List ℕ) (to : ℕ) (new_name : List ℕ) (now : Moment) (may : MayCarry t from name to new_name) → Law t → Follows t (carried t from name may.entry.number to new_name now)
follows_carried t from name to new_name now may law =
    let n = may.entry.number in
    let u : Tree = first t from name to new_name now law may in
    let w : Tree = second t from name to new_name now law may in
    let gain = may_gain t from name to new_name now law may in
    subst (Follows t) (sym (carried_is t from name to new_name now law may))
    (joined t w (with_entry w to new_name n now)
    (joined t u w (follows_changed t from may.source (left may.source name now) may.at_source.0 refl)
    (follows_changed u n may.file (moved_to may.file to now) (may_move t from name to new_name now law may).at_file refl))
    (follows_gained w to n new_name now gain.dir gain.at_dir.0))

follows_renamed : (t : Tree) (from : ℕ) (name : List ℕ) (to : ℕ) (new_name : List ℕ) (now : Moment) → MayRename t from name to new_name → Law t → Follows t (after_rename t from name to new_name now)
follows_renamed t from name to new_name now may law = onto (entry_named new_name (entries_in may.target.kind)) refl
  where
    n : ℕ
    n = may.entry.number

    from_ready : (u : Tree) → Law u → Ready t from name to new_name now may u → Follows u (carried u from name n to new_name now)
    from_ready u law ready = subst (λ (e : Entry). Follows u (carried u from name e.number to new_name now)) ready.1 (follows_carried u from name to new_name now ready.0 law)

    onto : (o : Option Entry) → entry_named new_name (entries_in may.target.kind) ≡ o → Follows t (after_rename t from name to new_name now)
    onto None is = subst (Follows t) (sym (renamed_new t from name to new_name now may is)) (from_ready t law (ready_new t from name to new_name now may is))
    onto (Some old) is = by_number old.number n
        (λ s. subst (Follows t) (sym (renamed_same t from name to new_name now may old is s)) (itself t))
        (λ o. let u = after_unlink t to new_name now in
        let unlink = may_unlink t from name to new_name now may law old is o in
        subst (Follows t) (sym (renamed_over t from name to new_name now may old is o))
        (joined t u (carried u from name n to new_name now) (follows_unlinked t to new_name now unlink law)
        (from_ready u (law_after_unlink t to new_name now unlink law) (ready_over t from name to new_name now may law old is o))))

follows_volume : (t : Tree) (max_bytes max_files tag : ℕ) (path : List ℕ) (given : NewFile) (now : Moment) → MayAddVolume t path max_bytes max_files → tag < 2 ^ 32 → Law t → Follows t (after_add_volume t path max_bytes max_files given tag now)
follows_volume t max_bytes max_files tag path given now may fits law =
    let f = follows_born t (new_file (length t.volumes) (Directory t.next 3 []) given None tag now) fits may.number in record { changes = f.changes; run = f.run }

pub changes_follow : ChangesFollow
changes_follow = record {
  itself = itself;
  joined = joined;
  operations = record {
    files = λ t d tag name bytes given verifier now may fits law. follows_made t d (length bytes) name _ now may fits law;
    directories = λ t d tag name given now may fits law. follows_made t d 0 name _ now may.make fits law;
    links = λ t d tag name path given now may fits law. follows_made t d 0 name _ now may.make fits law;
    names = follows_linked;
    bytes = follows_written;
    sizes = follows_resized;
    attributes = follows_set;
    removals = follows_unlinked;
    renames = follows_renamed;
    volumes = follows_volume;
  };
}

-- ---- handles

abbrev tagged : File → TaggedFile File
tagged f = record { tag = f.tag; value = f }

pub lives_alike : (u : Tree) (n : ℕ) → is_some (Rattle.nfs_handles.specs.NumberedFiles.at (numbered_files u) n) ≡ is_some (at n u.files)
lives_alike u n = ap is_some (at_shows tagged n u.files) ∙ mapped (at n u.files)
  where
    mapped : (o : Option File) → is_some (option_map tagged o) ≡ is_some o
    mapped None = refl
    mapped (Some f) = refl

none_from : (o : Option File) → option_map tagged o ≡ None → o ≡ None
none_from None e = refl
none_from (Some f) e = cc

pub handles_are_for_good : HandlesAreForGood
handles_are_for_good = record {
  read = λ t n handle law. handles_name_one.read (numbered_files t) n handle law.numbers;
  once = λ t m n handle law. handles_name_one.once (numbered_files t) m n handle law.numbers;
  for_good = λ t u n handle law follows live. numbers_are_for_good.handle (numbered_files t) (numbered_files u) follows.changes n handle law.numbers follows.run live
      ∙ ap (λ b. cond b (Live (number n)) Stale) (lives_alike u n);
  gone = λ t u n law follows below none. none_from (at n u.files) (sym (at_shows tagged n u.files)
      ∙ numbers_are_for_good.gone (numbered_files t) (numbered_files u) follows.changes n law.numbers follows.run below (at_shows tagged n t.files ∙ ap (option_map tagged) none));
  next = λ t u follows. runs_keep.next (numbered_files t) (numbered_files u) follows.changes follows.run;
  key = λ t u follows. runs_keep.key (numbered_files t) (numbered_files u) follows.changes follows.run;
}
