-- An entry that goes to another name, in what is kept.
use Rattle.std.proofs.Common.{◌≡◌, ◌≢◌, ℕ, ◌+◌, ◌<◌, ◌≤◌, Bool, true, false, List, map, Some, option_map, refl, sym, ap, subst, ◌∙◌, arith}
use Rattle.nfs_attrs.specs.declared.moment.Moment.{Moment}
use Rattle.nfs_handles.specs.NumberedFiles.{NumberedFiles, TaggedFile, value_at}
use Rattle.nfs_handles.specs.NumberedFiles as numbered
use Rattle.nfs_inodes.specs.Limits.{max_links}
use Rattle.nfs_inodes.specs.declared.limits.Limits.{Limits}
use Rattle.nfs_inodes.specs.declared.stored_file.StoredFile.{StoredFile}
use Rattle.nfs_inodes.specs.declared.stored_volume.StoredVolume.{StoredVolume}
use Rattle.nfs_inodes.specs.declared.renaming.Route.{Route}
use Rattle.nfs_inodes.specs.Tree.{Tree, File, at, on_some, one_when, entries_in, is_directory, next_cookie_in, names_of, nlink}
use Rattle.nfs_inodes.specs.Law.{Law, Lives, LivesAsDirectory}
use Rattle.nfs_inodes.specs.Changes.{with_file, with_entry, moved_to, entered, carried}
use Rattle.nfs_inodes.specs.Counts.{CountedFile, CountedTree, Agrees, tree_in}
use Rattle.nfs_inodes.specs.Storage.{file_of, kind_of, counted_volume_of, counted_tree_of}
use Rattle.nfs_inodes.specs.StoredFiles.{Revalues, TakesEntry, HasNoEntry, Enters}
use Rattle.nfs_inodes.specs.Reading.{entry_named}
use Rattle.nfs_inodes.specs.StepConditions.{retagged}
use Rattle.nfs_inodes.specs.Removals.{HasRoomAt, Leaves}
use Rattle.nfs_inodes.specs.Renamings.{MovesTo, Carries, HasCarried}
use Rattle.nfs_inodes.proofs.Lists.{if_false, same_some}
use Rattle.nfs_inodes.proofs.Maps.{at_with_same, at_with_other, rising_bounds}
use Rattle.nfs_inodes.proofs.law.WithEntry.{gained_is}
use Rattle.nfs_inodes.proofs.StoredFiles.{at_counted_file}
use Rattle.nfs_inodes.proofs.counts.FileChanged.{AgreesBut, recounted, view_recounted, kept_as}
use Rattle.nfs_inodes.proofs.law.WithoutEntry.{names_apart, nlink_less_elsewhere}
use Rattle.nfs_inodes.proofs.law.Moved.{MayMove, has_moved, names_moved, nlink_moved}
use Rattle.nfs_inodes.proofs.law.Carried as carries
use Rattle.nfs_inodes.proofs.counts.Carried.{counted_moved, agrees_moved, counted_entered, agrees_entered}
use Rattle.nfs_inodes.proofs.KeptLeavings as leavings
use Rattle.nfs_inodes.proofs.KeptLeavings.{NamesFile, room_revalued}
use Rattle.nfs_inodes.proofs.Tests.{no_entry_named}
use Rattle.nfs_inodes.proofs.Views.{kept_at}

module _ {limits : Limits} (a : NumberedFiles StoredFile) (olds : List StoredVolume) (route : Route) (name new_name : List ℕ) (c : Carries limits a olds route name new_name) where
  abbrev t : Tree
  t = tree_in (counted_tree_of limits a olds)

  abbrev n : ℕ
  n = route.number.0

  abbrev from : ℕ
  from = route.from.0

  abbrev to : ℕ
  to = route.to.0

  abbrev pub names : NamesFile (tree_in (counted_tree_of limits a olds)) route.from.0 name route.number.0
  names = record { dir = c.may.source; at_dir = c.may.at_source; entry = c.may.entry; found = c.may.found; number = c.number; file = c.may.file; at_entry = c.may.at_file }

  pub not_source : route.number.0 ≢ route.from.0
  not_source s = carries.not_source t from name to new_name c.may.file.ctime c.agree.law c.may (sym c.number ∙ s)

  module _ (now : Moment) (b : NumberedFiles StoredFile) (sub : Bool) (is_sub : sub ≡ on_some (value_at a route.number.0) false (λ f. is_directory (kind_of f.node))) (leaves : Revalues a route.from.0 (Leaves name (one_when sub) now) b) where
    abbrev kept_file : (f : TaggedFile StoredFile) × (numbered.at a n ≡ Some f) × (file_of f.tag f.value ≡ c.may.file)
    kept_file = leavings.kept_file a olds from name n c.agree names

    abbrev k1 : CountedTree
    k1 = leavings.k1 a olds from name n c.agree names not_source now b sub is_sub leaves

    abbrev held : CountedFile
    held = leavings.held a olds from name n c.agree names not_source now b sub is_sub leaves

    -- the trees without the old entry, and with the file in the new directory
    abbrev t1 : Tree
    t1 = carries.first t from name to new_name now c.agree.law c.may

    abbrev t2 : Tree
    t2 = with_file t1 n (moved_to c.may.file to now)

    at_k1 : at n k1.files ≡ Some held
    at_k1 = leavings.at_k1 a olds from name n c.agree names not_source now b sub is_sub leaves

    view_1 : tree_in k1 ≡ t1
    view_1 = leavings.view_1 a olds from name n c.agree names not_source now b sub is_sub leaves

    may_move : MayMove t1 n to c.may.file
    may_move = subst (λ m. MayMove t1 m to c.may.file) (sym c.number) (carries.may_move t from name to new_name now c.agree.law c.may)

    not_target : to ≢ n
    not_target s = carries.not_target t from name to new_name now c.agree.law c.may (s ∙ c.number)

    module _ (b2 : NumberedFiles StoredFile) (moves : Revalues b route.number.0 (MovesTo route.to.0 now) b2) where
      file_was : file_of moves.was.tag moves.was.value ≡ c.may.file
      file_was = ap (λ (f : TaggedFile StoredFile). file_of f.tag f.value) (same_some (sym moves.at_was ∙ leavings.at_1 a olds from name n c.agree names not_source now b sub is_sub leaves)) ∙ kept_file.2

      same_links : moves.value.nlink ≡ kept_file.0.value.nlink
      same_links = moves.from.nlink ∙ ap (λ (f : TaggedFile StoredFile). f.value.nlink) (same_some (sym moves.at_was ∙ leavings.at_1 a olds from name n c.agree names not_source now b sub is_sub leaves))

      abbrev k2 : CountedTree
      k2 = counted_moved k1 n to now held

      abbrev moved_held : CountedFile
      moved_held = record { file = moved_to c.may.file to now; nlink = held.nlink }

      counted_2 : counted_tree_of limits b2 olds ≡ k2
      counted_2 = kept_as b b2 olds olds n moves (moved_to c.may.file to now) (ap (λ (f : File). retagged f moves.was.tag) moves.from.file ∙ ap (λ (f : File). moved_to f to now) file_was)
          ∙ ap (λ l. recounted (counted_tree_of limits b olds) n (record { file = moved_to c.may.file to now; nlink = l }) (map counted_volume_of olds)) same_links
          ∙ ap (λ (k : CountedTree). recounted k n moved_held k.volumes) (leavings.counted_1 a olds from name n c.agree names not_source now b sub is_sub leaves)

      view_2 : tree_in k2 ≡ t2
      view_2 = view_recounted k1 n moved_held k1.volumes refl ∙ ap (λ u. with_file u n (moved_to c.may.file to now)) view_1

      agrees_2 : AgreesBut n k2
      agrees_2 = agrees_moved k1 n to now held (leavings.agrees_1 a olds from name n c.agree names not_source now b sub is_sub leaves) at_k1 (subst (λ u. MayMove u n to c.may.file) (sym view_1) may_move)

      at_k2 : at n k2.files ≡ Some moved_held
      at_k2 = at_with_same n held moved_held k1.files at_k1

      -- the directory that it comes into
      abbrev dir : File
      dir = (carries.target_now t from name to new_name now c.agree.law c.may).dir

      at_dir : LivesAsDirectory t2 to dir
      at_dir =
          let there = (carries.target_now t from name to new_name now c.agree.law c.may).at_dir in
          (at_with_other n to (moved_to c.may.file to now) t1.files not_target ∙ there.0, there.1)

      in_b2 : (f : TaggedFile StoredFile) × (numbered.at b2 to ≡ Some f) × (file_of f.tag f.value ≡ dir)
      in_b2 = kept_at b2 olds t2 (ap tree_in counted_2 ∙ view_2) to dir at_dir.0

      abbrev dir_held : CountedFile
      dir_held = record { file = dir; nlink = in_b2.0.value.nlink }

      at_dir_held : at to k2.files ≡ Some dir_held
      at_dir_held = ap (λ (k : CountedTree). at to k.files) (sym counted_2) ∙ at_counted_file b2 to in_b2.0 in_b2.1 ∙ ap (λ (f : File). Some (with_links f)) in_b2.2
        where
          with_links : File → CountedFile
          with_links f = record { file = f; nlink = in_b2.0.value.nlink }

      pub takes_entry_there : TakesEntry b2 route.to.0
      takes_entry_there =
          let law = subst (λ (u : Tree). (nlink u.files to dir ≤ max_links) × (to < u.next)) view_2 (let few = agrees_2.law.links to dir in_k2 in let cap = agrees_2.law.limits.links in omega (arith, few, cap), (rising_bounds 0 k2.next (tree_in k2).files to dir agrees_2.law.rising in_k2).1) in
          let few = law.0 in let low = law.1 in
          let are : in_b2.0.value.nlink ≡ nlink (tree_in k2).files to dir = agrees_2.links to dir_held not_target at_dir_held in
          let same : nlink (tree_in k2).files to dir ≡ nlink t2.files to dir = ap (λ (u : Tree). nlink u.files to dir) view_2 in
          let cookie = c.may.cookie in
          let now_cookie = (carries.target_now t from name to new_name now c.agree.law c.may).cookie in
          let its : next_cookie_in (file_of in_b2.0.tag in_b2.0.value).kind ≡ next_cookie_in dir.kind = ap (λ (f : File). next_cookie_in f.kind) in_b2.2 in
          let next : b2.next ≡ t2.next = ap (λ (k : CountedTree). k.next) counted_2 in
          record {
            dir = in_b2.0;
            at_dir = in_b2.1;
            is_dir = ap (λ (f : File). is_directory f.kind) in_b2.2 ∙ at_dir.1;
            next_cookie = omega (arith, cookie, now_cookie, its);
            nlink = omega (arith, few, are, same);
            below = omega (arith, low, next);
          }
        where
          in_k2 : Lives (tree_in k2) to dir
          in_k2 = ap (λ (u : Tree). at to u.files) view_2 ∙ at_dir.0

      pub fresh_there : HasNoEntry b2 route.to.0 new_name
      fresh_there i v =
          let is : in_b2.0.value ≡ i = same_some (sym (ap (option_map (λ (f : TaggedFile StoredFile). f.value)) in_b2.1) ∙ v) in
          ap (λ (i : StoredFile). entry_named new_name (entries_in (kind_of i.node))) (sym is)
          ∙ ap (λ (f : File). entry_named new_name (entries_in f.kind)) in_b2.2
          ∙ no_entry_named new_name (entries_in dir.kind) (carries.target_now t from name to new_name now c.agree.law c.may).fresh

      pub room_there_still : HasRoomAt b2 route.to.0
      room_there_still = room_revalued b b2 n moves moves.from.room to (room_revalued a b from leaves leaves.from.room to c.room)

      module _ (b3 : NumberedFiles StoredFile) (enters : Revalues b2 route.to.0 (Enters new_name route.number.0 (one_when sub) now) b3) where
        was_dir : enters.was ≡ in_b2.0
        was_dir = same_some (sym enters.at_was ∙ in_b2.1)

        same_sub : one_when sub ≡ one_when (is_directory moved_held.file.kind)
        same_sub = ap one_when (leavings.is_subdirectory a olds from name n c.agree names sub is_sub ∙ sym (has_moved c.may.file to now).directory)

        abbrev k3 : CountedTree
        k3 = counted_entered k2 to new_name n now dir_held (one_when (is_directory moved_held.file.kind))

        counted_3 : counted_tree_of limits b3 olds ≡ k3
        counted_3 = kept_as b2 b3 olds olds to enters (entered dir new_name n now)
            (ap (λ (f : File). retagged f enters.was.tag) enters.from.file ∙ ap (λ (f : TaggedFile StoredFile). entered (file_of f.tag f.value) new_name n now) was_dir ∙ ap (λ (f : File). entered f new_name n now) in_b2.2)
            ∙ ap (λ l. recounted (counted_tree_of limits b2 olds) to (record { file = entered dir new_name n now; nlink = l }) (map counted_volume_of olds))
            (enters.from.nlink ∙ ap (λ (f : TaggedFile StoredFile). f.value.nlink + one_when sub) was_dir ∙ ap (λ l. in_b2.0.value.nlink + l) same_sub)
            ∙ ap (λ (k : CountedTree). recounted k to (record { file = entered dir new_name n now; nlink = in_b2.0.value.nlink + one_when (is_directory moved_held.file.kind) }) k.volumes) counted_2

        view_3 : tree_in k3 ≡ with_file t2 to (entered dir new_name n now)
        view_3 = view_recounted k2 to (record { file = entered dir new_name n now; nlink = in_b2.0.value.nlink + one_when (is_directory moved_held.file.kind) }) k2.volumes refl ∙ ap (λ u. with_file u to (entered dir new_name n now)) view_2

        carried_3 : carried t from name n to new_name now ≡ with_file t2 to (entered dir new_name n now)
        carried_3 = ap (λ m. carried t from name m to new_name now) c.number
            ∙ carries.carried_is t from name to new_name now c.agree.law c.may
            ∙ ap (λ m. with_entry (with_file t1 m (moved_to c.may.file to now)) to new_name m now) (sym c.number)
            ∙ gained_is t2 to n now new_name dir at_dir.0

        law_3 : Law (with_file t2 to (entered dir new_name n now))
        law_3 = subst Law (ap (λ m. carried t from name m to new_name now) (sym c.number) ∙ carried_3) (carries.law_carried t from name to new_name now c.agree.law c.may)

        links_then : held.nlink ≡ nlink t.files n c.may.file
        links_then = leavings.links_of_file a olds from name n c.agree names

        names_then : names_of n t2.files + 1 ≡ names_of n t.files
        names_then = ap (λ m. m + 1) (names_moved t1 n to now c.may.file may_move.at_file n) ∙ leavings.names_1 a olds from name n c.agree names not_source now b sub is_sub leaves

        as_directory : is_directory moved_held.file.kind ≡ true → moved_held.nlink ≡ nlink t2.files n moved_held.file
        as_directory y =
            let was : is_directory c.may.file.kind ≡ true = sym (has_moved c.may.file to now).directory ∙ y in
            links_then
            ∙ sym ((nlink_less_elsewhere t from now name c.may.source c.may.entry c.agree.law.rising c.may.at_source.0 (names_apart c.may.source (c.agree.law.sound from c.may.source c.may.at_source.0)) c.may.found n c.may.file).0 was)
            ∙ sym (nlink_moved t1 n to now c.may.file may_move.at_file n c.may.file moved_held.file (has_moved c.may.file to now))

        as_file : is_directory moved_held.file.kind ≡ false → moved_held.nlink ≡ names_of n t2.files + 1
        as_file z =
            let was : is_directory c.may.file.kind ≡ false = sym (has_moved c.may.file to now).directory ∙ z in
            links_then ∙ if_false _ _ was ∙ sym names_then

        pub has_carried : HasCarried limits a b3 olds route name new_name now
        has_carried = record {
          agree = subst Agrees (sym counted_3) (agrees_entered k2 to n now new_name dir_held moved_held agrees_2 at_dir_held at_dir.1 at_k2 not_target
              (subst (λ u. Law (with_file u to (entered dir new_name n now))) (sym view_2) law_3)
              (λ y. as_directory y ∙ ap (λ (u : Tree). nlink u.files n moved_held.file) (sym view_2))
              (λ z. as_file z ∙ ap (λ (u : Tree). names_of n u.files + 1) (sym view_2)));
          done = ap tree_in counted_3 ∙ view_3 ∙ sym carried_3;
        }
