-- An entry that goes to another name, which may be another file's, in what is kept.
use Rattle.std.proofs.Common.{◌≡◌, ◌≢◌, ℕ, ◌-◌, ◌<◌, List, Option, Some, None, option_map, sym, ap, subst, ◌∙◌}
use Rattle.std.specs.Prelude.{◌^◌}
use Rattle.nfs_attrs.specs.declared.moment.Moment.{Moment}
use Rattle.nfs_handles.specs.NumberedFiles.{NumberedFiles}
use Rattle.nfs_handles.specs.declared.number.Number.{Number}
use Rattle.nfs_inodes.specs.declared.limits.Limits.{Limits}
use Rattle.nfs_inodes.specs.declared.stored_file.StoredFile.{StoredFile}
use Rattle.nfs_inodes.specs.declared.stored_volume.StoredVolume.{StoredVolume}
use Rattle.nfs_inodes.specs.declared.renaming.Route.{Route}
use Rattle.nfs_inodes.specs.Tree.{Tree, Entry, at, entries_in, next_cookie_in}
use Rattle.nfs_inodes.specs.Changes.{after_unlink, after_rename, carried}
use Rattle.nfs_inodes.specs.Conditions.{MayUnlink, MayRename, MayRenameSeen, NamesOther}
use Rattle.nfs_inodes.specs.Counts.{Agrees, tree_in}
use Rattle.nfs_inodes.specs.Reading.{entry_named, entry_at}
use Rattle.nfs_inodes.specs.Storage.{counted_tree_of}
use Rattle.nfs_inodes.specs.StoredFiles.{SameFiles, TakesEntry}
use Rattle.nfs_inodes.specs.Removals.{HasRoomAt, Removes}
use Rattle.nfs_inodes.specs.Renamings.{Carries, HasCarried, Renames}
use Rattle.nfs_inodes.proofs.Lists.{same_some, none_from, not_both}
use Rattle.nfs_inodes.proofs.law.Unlinks.{entry_is, other_file}
use Rattle.nfs_inodes.proofs.law.Renames as renames
use Rattle.nfs_inodes.proofs.Views.{mapped}
use Rattle.nfs_inodes.proofs.Steps.{same_counted, takes_entry_at}

-- ---- the steps

module _ {limits : Limits} (a : NumberedFiles StoredFile) (olds : List StoredVolume) (route : Route) (name new_name : List ℕ) (r : Renames limits a olds route name new_name) (now : Moment) where
  abbrev replaced : Option Number
  replaced = route.replaced

  abbrev t : Tree
  t = tree_in (counted_tree_of limits a olds)

  abbrev may : MayRename t route.from.0 name route.to.0 new_name
  may = r.may

  abbrev named : Option Entry
  named = entry_named new_name (entries_in may.target.kind)

  none_named : replaced ≡ None → named ≡ None
  none_named none = none_from named (λ e is. not_both (sym r.names ∙ ap (option_map (λ (n : Number). n.0)) none) (ap (option_map (λ (e : Entry). e.number)) is))

  pub carries_new : replaced ≡ None → Carries limits a olds route name new_name
  carries_new none =
      let ready = renames.ready_new t route.from.0 name route.to.0 new_name now may (none_named none) in
      record { agree = r.agree; may = ready.0; number = r.number ∙ ap (λ (e : Entry). e.number) (sym ready.1); room = r.room }

  pub done_new : replaced ≡ None → (b : NumberedFiles StoredFile) → HasCarried limits a b olds route name new_name now → tree_in (counted_tree_of limits b olds) ≡ after_rename t route.from.0 name route.to.0 new_name now
  done_new none b h = h.done ∙ ap (λ m. carried t route.from.0 name m route.to.0 new_name now) r.number ∙ sym (renames.renamed_new t route.from.0 name route.to.0 new_name now may (none_named none))

  module _ (old : Number) (is : replaced ≡ Some old) where
    its : (e : Entry) × (named ≡ Some e) × (e.number ≡ old.0)
    its = mapped (λ (e : Entry). e.number) named old.0 (sym r.names ∙ ap (option_map (λ (n : Number). n.0)) is)

    other : its.0.number ≢ may.entry.number
    other s = r.other (ap (option_map (λ (n : Number). n.0)) is ∙ ap Some (sym its.2 ∙ s ∙ sym r.number))

    abbrev may_unlink : MayUnlink t route.to.0 new_name
    may_unlink = renames.may_unlink t route.from.0 name route.to.0 new_name now may r.agree.law its.0 its.1 other

    pub removes_old : Removes limits a olds route.to.0 new_name old.0
    removes_old = record { agree = r.agree; may = may_unlink; number = sym its.2 }

    not_old : route.to.0 ≢ old.0
    not_old s = other_file t route.to.0 new_name now may_unlink (its.2 ∙ sym s)

    module _ (b : NumberedFiles StoredFile) (news : List StoredVolume) (agree : Agrees (counted_tree_of limits b news)) (done : tree_in (counted_tree_of limits b news) ≡ after_unlink t route.to.0 new_name now) where
      ready : renames.Ready t route.from.0 name route.to.0 new_name now may (tree_in (counted_tree_of limits b news))
      ready = subst (renames.Ready t route.from.0 name route.to.0 new_name now may) (sym done) (renames.ready_over t route.from.0 name route.to.0 new_name now may r.agree.law its.0 its.1 other)

      pub carries_over : ((d : ℕ) → d ≢ old.0 → HasRoomAt a d → HasRoomAt b d) → Carries limits b news route name new_name
      carries_over room = record { agree = agree; may = ready.0; number = r.number ∙ ap (λ (e : Entry). e.number) (sym ready.1); room = room route.to.0 not_old r.room }

      pub done_over : (b3 : NumberedFiles StoredFile) → HasCarried limits b b3 news route name new_name now → tree_in (counted_tree_of limits b3 news) ≡ after_rename t route.from.0 name route.to.0 new_name now
      done_over b3 h = h.done ∙ ap (λ u. carried u route.from.0 name route.number.0 route.to.0 new_name now) done
          ∙ ap (λ m. carried (after_unlink t route.to.0 new_name now) route.from.0 name m route.to.0 new_name now) r.number
          ∙ sym (renames.renamed_over t route.from.0 name route.to.0 new_name now may its.0 its.1 other)

-- ---- the tree's own

-- the file of the old name and that of the new one, as they were found
module _ (t : Tree) (from : ℕ) (name : List ℕ) (to : ℕ) (new_name : List ℕ) (now : Moment) (may : MayRename t from name to new_name) (n : Number) (found : Some n.0 ≡ option_map (λ (e : Entry). e.number) (entry_at t from name))
    (replaced : Option Number) (names : option_map (λ (m : Number). m.0) replaced ≡ option_map (λ (e : Entry). e.number) (entry_at t to new_name)) where
  its_number : n.0 ≡ may.entry.number
  its_number = same_some (found ∙ ap (option_map (λ (e : Entry). e.number)) (entry_is t from name may.source may.at_source.0 ∙ may.found))

  found_to : entry_at t to new_name ≡ entry_named new_name (entries_in may.target.kind)
  found_to = entry_is t to new_name may.target may.at_target.0

  pub names_other : option_map (λ (m : Number). m.0) replaced ≢ Some n.0 → NamesOther t to new_name may.entry.number
  names_other other old is s = other (names ∙ ap (option_map (λ (e : Entry). e.number)) is ∙ ap Some (s ∙ sym its_number))

  abbrev pub IsRoute : Tree → List ℕ → Type 0
  IsRoute u new = (m : MayRename u from name to new) × (n.0 ≡ m.entry.number) × (option_map (λ (m : Number). m.0) replaced ≡ option_map (λ (e : Entry). e.number) (entry_named new (entries_in m.target.kind)))

  pub is_route : IsRoute t new_name
  is_route = (may, its_number, names ∙ ap (option_map (λ (e : Entry). e.number)) found_to)

-- room changes nothing that clients see
pub takes_target : {limits : Limits} (a : NumberedFiles StoredFile) (olds : List StoredVolume) (t : Tree) (from to : ℕ) (name new_name : List ℕ) → tree_in (counted_tree_of limits a olds) ≡ t → Agrees (counted_tree_of limits a olds) → (may : MayRename t from name to new_name) → NamesOther t to new_name may.entry.number → TakesEntry a to
takes_target {limits} a olds t from to name new_name view agree may other =
    let low = subst (λ (u : Tree). (at to u.files ≡ Some may.target) × (next_cookie_in may.target.kind < 2 ^ 64 - 1)) (sym view) (may.at_target.0, may.cookie other) in
    takes_entry_at a olds to may.target agree (low.0, may.at_target.1) low.1

pub renames_found : {limits : Limits} (a b : NumberedFiles StoredFile) (olds : List StoredVolume) (t : Tree) (route : Route) (name given new_name : List ℕ) (now : Moment) → tree_in (counted_tree_of limits a olds) ≡ t → Agrees (counted_tree_of limits a olds) → MayRenameSeen t route name given
    → option_map (λ (m : Number). m.0) route.replaced ≢ Some route.number.0 → new_name ≡ given → SameFiles a b → HasRoomAt b route.to.0 → Renames limits b olds route name new_name
renames_found {limits} a b olds t route name given new_name now view agree seen other copy same room =
    let counted = same_counted a b olds same in
    let it = subst (λ new. IsRoute t route.from.0 name route.to.0 given now seen.may route.number seen.found route.replaced seen.names (tree_in (counted_tree_of limits b olds)) new) (sym copy)
    (subst (λ u. IsRoute t route.from.0 name route.to.0 given now seen.may route.number seen.found route.replaced seen.names u given) (sym (ap tree_in counted ∙ view)) (is_route t route.from.0 name route.to.0 given now seen.may route.number seen.found route.replaced seen.names)) in
    record { agree = subst Agrees (sym counted) agree; may = it.0; number = it.1; names = it.2; other = other; room = room }
