-- What operations on directories do, as the policy allows it, where the caller may enter the directories.
use Rattle.std.proofs.Common.{inl, inr, ◌≡◌, ◌≢◌, ◌⊎◌, ℕ, ◌<◌, ◌≤◌, Bool, true, false, List, [], ◌∷◌, ◌++◌, Option, Some, None, refl, sym, ap, subst, ◌∙◌, arith}
use Rattle.std.specs.Prelude.{nat_eq, All, Contains, if◌then◌else◌}
use Rattle.std.proofs.lemmas.List.Elements.{All-head, All-tail, All-contains}
use Rattle.std.proofs.lemmas.Slice.Eq.{bytes_eq-Decides}
use Rattle.nfs_attrs.specs.declared.moment.Moment.{Moment}
use Rattle.nfs_exports.specs.Ids.{Ids}
use Rattle.nfs_inodes.proofs.law.WithEntry.{entered_entries}
use Rattle.nfs_inodes.proofs.law.WithoutEntry.{left_is, left_entries, left_placed, left_cookie}
use Rattle.nfs_inodes.proofs.Lists.{by_test, by_number, if_false, same_some, not_both, find_contains, in_head, in_tail}
use Rattle.nfs_inodes.proofs.Maps.{at_next, at_with_same, at_with_other, at_without_other, rising_with}
use Rattle.nfs_inodes.proofs.law.WithNewFile.{stays}
use Rattle.nfs_inodes.proofs.law.Renames.{none_left, renamed_new, renamed_same, renamed_over, may_unlink}
use Rattle.nfs_inodes.proofs.law.Unlinks.{entry_is, other_file}
use Rattle.nfs_inodes.specs.Changes.{with_file, with_new_file, entered, with_entry, left, without_entry, without_file, touched, released, entries_without, kind_with_parent, moved_to, moved, with_named_file, after_link, after_unlink, carried, after_rename}
use Rattle.nfs_inodes.specs.Conditions.{MayUnlink, MayRename}
use Rattle.nfs_inodes.specs.Law.{Law, Lives, LivesAsDirectory, AreRising}
use Rattle.nfs_inodes.specs.Reading.{has_name, entry_named}
use Rattle.nfs_inodes.specs.Tree.{Tree, File, Kind, Regular, Directory, Link, Entry, at, on_some, entries_in, next_cookie_in, is_directory, names_of}
use Rattle.nfs_policy.specs.Policy.{EntriesDiffer, IsOwn, is_writer, is_enterer}
use Rattle.nfs_policy.proofs.Edits.{left_allowed, entered_allowed, touched_allowed, moved_allowed}
use Rattle.nfs_policy.proofs.Leading.{Leads, leads_itself, leads_on, leads_without, leads_new}

-- ---- the entries of a directory differ that has lost one

none_found : (name : List ℕ) (es : List Entry) → All (λ e. e.name ≢ name) es → entry_named name es ≡ None
none_found name [] all = refl
none_found name (e ∷ es) all = by_test (has_name name e)
    (λ y. absurd (All-head (λ (e : Entry). e.name ≢ name) e es all ((bytes_eq-Decides e.name name).0 y)))
    (λ z. if_false (Some e) (entry_named name es) z ∙ none_found name es (All-tail (λ (e : Entry). e.name ≢ name) e es all))

unnamed : (name : List ℕ) (es : List Entry) (e : Entry) → entry_named name es ≡ Some e → es ≢ entries_without name es
unnamed name es e found same = absurd (not_both (none_found name (entries_without name es) (none_left name es)) (ap (entry_named name) (sym same) ∙ found))

-- ---- and of one that has got one, whose cookie none had before

-- directory d still has the cookie that kind k has next
pub record HasCookie (u : Tree) (d : ℕ) (k : Kind) : Type 0 where
  pub file : File
  pub at_file : Lives u d file
  pub directory : is_directory file.kind ≡ true
  pub cookie : next_cookie_in file.kind ≡ next_cookie_in k

-- a change of a file that leaves its cookie, and whether it is a directory
record LeavesCookie (h : File → File) : Type 0 where
  directory : (f : File) → is_directory (h f).kind ≡ is_directory f.kind
  cookie : (f : File) → next_cookie_in (h f).kind ≡ next_cookie_in f.kind

module _ (u : Tree) (d : ℕ) (k : Kind) (has : HasCookie u d k) where
  cookie_on : (n : ℕ) (h : File → File) → LeavesCookie h → HasCookie (on_some (at n u.files) u (λ f. with_file u n (h f))) d k
  cookie_on n h leaves = by (at n u.files) refl
    where
      by : (o : Option File) → at n u.files ≡ o → HasCookie (on_some o u (λ f. with_file u n (h f))) d k
      by None e = has
      by (Some f) e = by_number d n
          (λ s. let same : f ≡ has.file = same_some (sym e ∙ ap (λ m. at m u.files) (sym s) ∙ has.at_file) in
          record {
            file = h f;
            at_file = ap (λ m. at m (with_file u n (h f)).files) s ∙ at_with_same n f (h f) u.files e;
            directory = leaves.directory f ∙ ap (λ (g : File). is_directory g.kind) same ∙ has.directory;
            cookie = leaves.cookie f ∙ ap (λ (g : File). next_cookie_in g.kind) same ∙ has.cookie;
          })
          (λ o. record { file = has.file; at_file = at_with_other n d (h f) u.files o ∙ has.at_file; directory = has.directory; cookie = has.cookie })

  cookie_without : (n : ℕ) → d ≢ n → HasCookie (without_file u n) d k
  cookie_without n o = record { file = has.file; at_file = at_without_other n d u.files o ∙ has.at_file; directory = has.directory; cookie = has.cookie }

left_leaves : (name : List ℕ) (now : Moment) → LeavesCookie (λ f. left f name now)
left_leaves name now = record { directory = λ f. (left_placed f name now).directory; cookie = λ f. left_cookie f.kind name }

touched_leaves : (now : Moment) → LeavesCookie (λ f. record f { ctime = now })
touched_leaves now = record { directory = λ f. refl; cookie = λ f. refl }

moved_leaves : (d : ℕ) (now : Moment) → LeavesCookie (λ f. moved_to f d now)
moved_leaves d now = record { directory = λ f. of_directory f.kind; cookie = λ f. of_cookie f.kind }
  where
    of_directory : (k : Kind) → is_directory (kind_with_parent k d) ≡ is_directory k
    of_directory (Regular bytes) = refl
    of_directory (Directory parent next_cookie entries) = refl
    of_directory (Link path) = refl

    of_cookie : (k : Kind) → next_cookie_in (kind_with_parent k d) ≡ next_cookie_in k
    of_cookie (Regular bytes) = refl
    of_cookie (Directory parent next_cookie entries) = refl
    of_cookie (Link path) = refl

in_last : (es : List Entry) (e : Entry) → Contains (es ++ e ∷ []) e
in_last [] e = in_head e []
in_last (x ∷ es) e = in_tail x e (es ++ e ∷ []) (in_last es e)

pub entered_differs : (t u : Tree) (d n : ℕ) (name : List ℕ) (now : Moment) (dir : File) → Law t → Lives t d dir → HasCookie u d dir.kind → EntriesDiffer t (with_entry u d name n now)
entered_differs t u d n name now dir law at_dir has = record {
  number = d;
  before = dir;
  at_before = at_dir;
  after = entered has.file name n now;
  at_after = ap (λ o. at d (on_some o u (λ f. with_file u d (entered f name n now))).files) has.at_file ∙ at_with_same d has.file (entered has.file name n now) u.files has.at_file;
  differ = λ e.
      let new : Entry = record { cookie = next_cookie_in has.file.kind; name = name; number = n } in
      let all = (law.sound d dir at_dir).cookies in
      let there : Contains (entries_in dir.kind) new = subst (λ es. Contains es new) (sym (e ∙ entered_entries has.file.kind name n has.directory)) (in_last (entries_in has.file.kind) new) in
      let below = (All-contains (λ (e : Entry). (3 ≤ e.cookie) × (e.cookie < next_cookie_in dir.kind)) (entries_in dir.kind) new all there).1 in
      let same = has.cookie in
      omega (arith, below, same);
}

at_released : (u : Tree) (n m : ℕ) (now : Moment) → m ≢ n → at m (released u n now).files ≡ at m u.files
at_released u n m now o = by (nat_eq (names_of n u.files) 0)
  where
    at_touched : (f : Option File) → at m (on_some f u (λ f. with_file u n (record f { ctime = now }))).files ≡ at m u.files
    at_touched None = refl
    at_touched (Some f) = at_with_other n m (record f { ctime = now }) u.files o

    by : (b : Bool) → at m (if b then without_file u n else touched u n now).files ≡ at m u.files
    by true = at_without_other n m u.files o
    by false = at_touched (at n u.files)

-- ---- the operations

module _ (t : Tree) (law : Law t) (ids : Ids) (now : Moment) (index : ℕ) where
  -- a directory that the caller may enter
  pub record Enters (d : ℕ) (dir : File) : Type 0 where
    pub at_dir : LivesAsDirectory t d dir
    pub volume : dir.volume ≡ index
    pub writer : is_writer ids dir ≡ true
    pub enterer : is_enterer ids dir ≡ true

  has_cookie : (d : ℕ) (dir : File) → LivesAsDirectory t d dir → HasCookie t d dir.kind
  has_cookie d dir at_dir = record { file = dir; at_file = at_dir.0; directory = at_dir.1; cookie = refl }

  module _ (Moves : Type 0) where
    abbrev To : Tree → Type 0
    To = Leads ids now index Moves t

    gains : (u : Tree) → To u → (d n : ℕ) (name : List ℕ) (dir : File) → Enters d dir → To (with_entry u d name n now)
    gains u led d n name dir may = leads_on ids now index Moves t u led d dir may.at_dir.0 may.volume (λ f. entered f name n now) (λ f e. entered_allowed ids now index Moves dir f name n may.writer may.enterer)

    loses : (u : Tree) → To u → (d : ℕ) (name : List ℕ) (dir : File) → Enters d dir → To (without_entry u d name now)
    loses u led d name dir may = leads_on ids now index Moves t u led d dir may.at_dir.0 may.volume (λ f. left f name now) (λ f e. left_allowed ids now index Moves dir f name may.writer may.enterer)

    touches : (u : Tree) → To u → (n : ℕ) (f : File) → Lives t n f → f.volume ≡ index → To (touched u n now)
    touches u led n f at_f volume = leads_on ids now index Moves t u led n f at_f volume (λ f. record f { ctime = now }) (λ g e. touched_allowed ids now index Moves f g)

    -- an entry goes, and what it named, where it was the last
    module _ (moves : Moves) (d : ℕ) (name : List ℕ) (may : MayUnlink t d name) (enters : Enters d may.dir) where
      abbrev u : Tree
      u = without_entry t d name now

      of_volume : may.file.volume ≡ index
      of_volume = let l = law.entries d may.dir may.entry may.at_dir.0 (find_contains (has_name name) (entries_in may.dir.kind) may.entry may.found) in
          ap (λ (f : File). f.volume) (same_some (sym may.at_file ∙ l.1)) ∙ l.2 ∙ enters.volume

      rising : AreRising 0 u.files t.next
      rising = subst (λ (w : Tree). AreRising 0 w.files t.next) (sym (left_is t d now name may.dir may.at_dir.0)) (rising_with 0 t.next d t.files (left may.dir name now) law.rising)

      by_last : (b : Bool) → To (if b then without_file u may.entry.number else touched u may.entry.number now)
      by_last true = leads_without ids now index Moves t u (loses t (leads_itself ids now index Moves t) d name may.dir enters) may.entry.number 0 t.next may.file rising may.at_file of_volume moves
      by_last false = touches u (loses t (leads_itself ids now index Moves t) d name may.dir enters) may.entry.number may.file may.at_file of_volume

      unlinked : after_unlink t d name now ≡ released u may.entry.number now
      unlinked = ap (λ o. on_some o t (λ e. released (without_entry t d name now) e.number now)) (entry_is t d name may.dir may.at_dir.0 ∙ may.found)

      pub unlink_led : To (after_unlink t d name now)
      unlink_led = subst To (sym unlinked) (by_last (nat_eq (names_of may.entry.number u.files) 0))

    -- an entry goes from one directory to another
    carry_led : Moves → (u : Tree) → To u → (from n to : ℕ) (name new_name : List ℕ) (source file target : File) → Enters from source → Lives t n file → file.volume ≡ index → Enters to target → To (carried u from name n to new_name now)
    carry_led moves u led from n to name new_name source file target enters at_file volume enters_too =
        gains (moved (without_entry u from name now) n to now)
        (leads_on ids now index Moves t (without_entry u from name now) (loses u led from name source enters) n file at_file volume (λ f. moved_to f to now) (λ f e. moved_allowed ids now index Moves file f to moves))
        to n new_name target enters_too

  -- a file is made
  pub make_led : (Moves : Type 0) → Moves → (d : ℕ) (name : List ℕ) (dir f : File) → Enters d dir → IsOwn ids f → f.volume ≡ index → Leads ids now index Moves t (with_named_file t d name f now)
  make_led Moves moves d name dir f enters own volume =
      let none = at_next 0 t.next t.files law.rising in
      gains Moves (with_new_file t f) (leads_new ids now index Moves t t (leads_itself ids now index Moves t) f none none (record { own = own; volume = volume; moves = moves })) d t.next name dir enters

  pub make_differs : (d : ℕ) (name : List ℕ) (dir f : File) → LivesAsDirectory t d dir → EntriesDiffer t (with_named_file t d name f now)
  make_differs d name dir f at_dir = entered_differs t (with_new_file t f) d t.next name now dir law at_dir.0 (record { file = dir; at_file = stays t f d dir law at_dir.0; directory = at_dir.1; cookie = refl })

  -- a hard link
  pub link_led : (Moves : Type 0) (n d : ℕ) (name : List ℕ) (file dir : File) → Lives t n file → file.volume ≡ index → Enters d dir → Leads ids now index Moves t (after_link t n d name now)
  link_led Moves n d name file dir at_file volume enters = gains Moves (touched t n now) (touches Moves t (leads_itself ids now index Moves t) n file at_file volume) d n name dir enters

  pub link_differs : (n d : ℕ) (name : List ℕ) (dir : File) → LivesAsDirectory t d dir → EntriesDiffer t (after_link t n d name now)
  link_differs n d name dir at_dir = entered_differs t (touched t n now) d n name now dir law at_dir.0 (cookie_on t d dir.kind (has_cookie d dir at_dir) n (λ f. record f { ctime = now }) (touched_leaves now))

  -- ---- removals

  released_cookie : (u : Tree) (d n : ℕ) (k : Kind) → HasCookie u d k → d ≢ n → HasCookie (released u n now) d k
  released_cookie u d n k has o = by (nat_eq (names_of n u.files) 0)
    where
      by : (b : Bool) → HasCookie (if b then without_file u n else touched u n now) d k
      by true = cookie_without u d k has n o
      by false = cookie_on u d k has n (λ f. record f { ctime = now }) (touched_leaves now)

  unlinked_cookie : (d : ℕ) (name : List ℕ) → (may : MayUnlink t d name) → HasCookie (after_unlink t d name now) d may.dir.kind
  unlinked_cookie d name may = subst (λ w. HasCookie w d may.dir.kind) (sym (ap (λ o. on_some o t (λ e. released (without_entry t d name now) e.number now)) (entry_is t d name may.dir may.at_dir.0 ∙ may.found)))
      (released_cookie (without_entry t d name now) d may.entry.number may.dir.kind (cookie_on t d may.dir.kind (has_cookie d may.dir may.at_dir) d (λ f. left f name now) (left_leaves name now)) (λ e. other_file t d name now may (sym e)))

  -- the directory has lost an entry
  pub unlink_differs : (d : ℕ) (name : List ℕ) → MayUnlink t d name → EntriesDiffer t (after_unlink t d name now)
  unlink_differs d name may = subst (EntriesDiffer t) (sym (ap (λ o. on_some o t (λ e. released (without_entry t d name now) e.number now)) (entry_is t d name may.dir may.at_dir.0 ∙ may.found))) (record {
    number = d;
    before = may.dir;
    at_before = may.at_dir.0;
    after = left may.dir name now;
    at_after = at_released (without_entry t d name now) may.entry.number d now (λ e. other_file t d name now may (sym e)) ∙ ap (λ (w : Tree). at d w.files) (left_is t d now name may.dir may.at_dir.0) ∙ at_with_same d may.dir (left may.dir name now) t.files may.at_dir.0;
    differ = λ e. unnamed name (entries_in may.dir.kind) may.entry may.found (e ∙ left_entries may.dir.kind name);
  })

  -- ---- renames

  module _ (from : ℕ) (name : List ℕ) (to : ℕ) (new_name : List ℕ) (may : MayRename t from name to new_name) (enters : Enters from may.source) (enters_too : Enters to may.target) where
    abbrev number : ℕ
    number = may.entry.number

    carried_differs : (u : Tree) → HasCookie u to may.target.kind → EntriesDiffer t (carried u from name number to new_name now)
    carried_differs u has = entered_differs t (moved (without_entry u from name now) number to now) to number new_name now may.target law may.at_target.0
        (cookie_on (without_entry u from name now) to may.target.kind (cookie_on u to may.target.kind has from (λ f. left f name now) (left_leaves name now)) number (λ f. moved_to f to now) (moved_leaves to now))

    carries : (u new : Tree) → new ≡ carried u from name number to new_name now → HasCookie u to may.target.kind → ((Moves : Type 0) → Moves → Leads ids now index Moves t u) → (new ≡ t) ⊎ (EntriesDiffer t new × Leads ids now index (EntriesDiffer t new) t new)
    carries u new is has led =
        let moves : EntriesDiffer t new = subst (EntriesDiffer t) (sym is) (carried_differs u has) in
        inr (
          moves,
          subst (Leads ids now index (EntriesDiffer t new) t) (sym is)
              (carry_led (EntriesDiffer t new) moves u (led (EntriesDiffer t new) moves) from number to name new_name may.source may.file may.target enters may.at_file (may.volume ∙ enters_too.volume) enters_too),
        )

    onto : (o : Option Entry) → entry_named new_name (entries_in may.target.kind) ≡ o → (after_rename t from name to new_name now ≡ t) ⊎ (EntriesDiffer t (after_rename t from name to new_name now) × Leads ids now index (EntriesDiffer t (after_rename t from name to new_name now)) t (after_rename t from name to new_name now))
    onto None is = carries t (after_rename t from name to new_name now) (renamed_new t from name to new_name now may is) (has_cookie to may.target may.at_target) (λ Moves moves. leads_itself ids now index Moves t)
    onto (Some old) is = by_number old.number number
        (λ s. inl (renamed_same t from name to new_name now may old is s))
        (λ o. let gone = may_unlink t from name to new_name now may law old is o in
        carries (after_unlink t to new_name now) (after_rename t from name to new_name now) (renamed_over t from name to new_name now may old is o) (unlinked_cookie to new_name gone)
        (λ Moves moves. unlink_led Moves moves to new_name gone enters_too))

    pub rename_led : (after_rename t from name to new_name now ≡ t) ⊎ (EntriesDiffer t (after_rename t from name to new_name now) × Leads ids now index (EntriesDiffer t (after_rename t from name to new_name now)) t (after_rename t from name to new_name now))
    rename_led = onto (entry_named new_name (entries_in may.target.kind)) refl
