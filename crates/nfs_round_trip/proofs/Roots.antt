-- The line of a volume makes its root, and those of its exports add them.
use Rattle.std.proofs.Common.{inl, inr, ◌≡◌, ◌≢◌, ℕ, suc, ◌+◌, ◌-◌, ◌^◌, ◌<◌, ◌≤◌, Bool, true, false, List, [], ◌∷◌, ◌++◌, length, Option, Some, None, option_map, Ok, refl}
use Rattle.std.proofs.Common.{sym, ap, subst, ◌∙◌, append_assoc, append-nil, arith}
use Rattle.std.specs.List.{flat_map}
use Rattle.std.specs.Prelude.{All, Contains, Err, Result, bytes_eq, if◌then◌else◌, is_some, slice_get}
use Rattle.std.proofs.lemmas.List.{length-append}
use Rattle.std.proofs.lemmas.List.Elements.{All-head, All-tail}
use Rattle.nfs_exports.specs.Tables.{added, pattern_count}
use Rattle.nfs_exports.specs.declared.export_table.Export.{Export}
use Rattle.nfs_inodes.specs.Changes.{Makes, after_add_volume, new_file}
use Rattle.nfs_inodes.specs.Conditions.{MayAddVolume}
use Rattle.nfs_inodes.specs.declared.limits.Limits.{Limits}
use Rattle.nfs_inodes.specs.Law.{Law, LivesAsDirectory}
use Rattle.nfs_inodes.specs.Reading.{attributes_at, attributes_of, entries_at, index_where}
use Rattle.nfs_inodes.specs.Tree.{Tree, File, Kind, Regular, Directory, Link, Volume, is_directory, nlink, parent_in}
use Rattle.nfs_inodes.proofs.Lists.{in_head, in_tail}
use Rattle.nfs_load.specs.Descriptions.{ExportDone, Then, VolumeTaken, last_root, with_export}
use Rattle.nfs_load.specs.Effects.{AddsVolume, attributes, free_path, start}
use Rattle.nfs_load.specs.Paths.{volume_path_in}
use Rattle.nfs_load.specs.Statements.{VolumeLine, export_in, volume_in}
use Rattle.nfs_load.specs.declared.cause.Cause.{Cause}
use Rattle.nfs_load.specs.declared.cause.Cause.TheVariants.{VolumeTwice}
use Rattle.nfs_load.specs.declared.line.Keyword.TheVariants as keyword
use Rattle.nfs_load.specs.declared.loaded.Loaded.{Loaded}
use Rattle.nfs_load.specs.declared.name_form.NameForm.{NameForm}
use Rattle.nfs_load.specs.declared.refusal.Refusal.{Refusal}
use Rattle.nfs_load.specs.declared.refusal.Refusal.TheVariants.{Fault, Memory}
use Rattle.nfs_load.specs.declared.statement.ExportLine.{ExportLine}
use Rattle.nfs_load.specs.declared.statement.Given.{Given}
use Rattle.nfs_describe.specs.Lines.{export_line, volume_line}
use Rattle.nfs_describe.specs.Texts.{root_text}
use Rattle.nfs_read_back.specs.ReadBack.{IsExport, is_said}
use Rattle.nfs_read_back.proofs.Exports as read_back_exports
use Rattle.nfs_read_back.proofs.Statements as read_back
use Rattle.nfs_round_trip.specs.Copies.{CanBeSaid, copied, copied_kind, copied_mode, copied_volume}
use Rattle.nfs_round_trip.proofs.Directories.{shown}
use Rattle.nfs_round_trip.proofs.Files.{done_map, small}
use Rattle.nfs_round_trip.proofs.Made.{Has, made_push, partly, push_has, with_entries}
use Rattle.nfs_round_trip.proofs.Parts.{IsPart, known_number, shown_unknown, so_far}
use Rattle.nfs_round_trip.proofs.Paths.{other_bytes}
use Rattle.nfs_round_trip.proofs.Runs.{Done, Goes, does_made, goes_both, goes_none, goes_on, not_both, root_is, then_is}
use Rattle.nfs_round_trip.proofs.Walks.{Step}

-- ---- a root

root_kind : (number : ℕ → ℕ) (k : Kind) → is_directory k ≡ true → Directory (number (parent_in k)) 3 [] ≡ copied_kind number (with_entries [] k)
root_kind number (Regular bytes) y = cc
root_kind number (Directory parent next_cookie entries) y = refl
root_kind number (Link path) y = cc

root_mode : (k : Kind) (mode : ℕ) → is_directory k ≡ true → mode ≡ copied_mode (with_entries [] k) mode
root_mode (Regular bytes) mode y = refl
root_mode (Directory parent next_cookie entries) mode y = refl
root_mode (Link path) mode y = cc

volume_given : File → Given
volume_given f = record { mode = f.mode; uid = f.uid; gid = f.gid }

module _ (t : Tree) (law : Law t) (number : ℕ → ℕ) (timed : ℕ → Bool) (all : List Step) (ns : List ℕ) (vs : List Volume) (u : Tree)
    (part : IsPart t number timed all ns vs u)
    (w : Volume) (f : File) (at_w : slice_get t.volumes f.volume ≡ Some w) (lives : LivesAsDirectory t w.root f) (parent : parent_in f.kind ≡ w.root)
    (index : length vs ≡ f.volume) (new : number w.root ≡ suc (length ns)) (fresh : Has w.root ns → ⊥) (early : timed w.root ≡ false) where
  next_is : number w.root ≡ u.next
  next_is = new ∙ sym part.next

  root_is_copy : (tag : ℕ) → new_file (length u.volumes) (Directory u.next 3 [])
      (attributes (record { mode = f.mode; uid = f.uid; gid = f.gid })) None tag start ≡ copied number tag (partly [] false f)
  root_is_copy tag =
      let given : Given = record { mode = f.mode; uid = f.uid; gid = f.gid } in
      ap (λ v. new_file v (Directory u.next 3 []) (attributes given) None tag start) (ap length part.volumes ∙ index)
      ∙ ap (λ k. new_file f.volume k (attributes given) None tag start)
      (ap (λ n. Directory n 3 []) (sym next_is ∙ ap number (sym parent)) ∙ root_kind number f.kind lives.1)
      ∙ ap (λ m. record (copied number tag (partly [] false f)) { mode = m }) (small f.mode (law.sound w.root f lives.0).mode ∙ root_mode f.kind f.mode lives.1)

  -- with the volume and its root
  pub part_with_volume : (tag : ℕ) → IsPart t number timed all (ns ++ w.root ∷ []) (vs ++ copied_volume number w ∷ [])
      (after_add_volume u w.path w.max_bytes w.max_files (attributes (record { mode = f.mode; uid = f.uid; gid = f.gid })) tag start)
  part_with_volume tag =
      let given : Given = record { mode = f.mode; uid = f.uid; gid = f.gid } in
      let root : File = new_file (length u.volumes) (Directory u.next 3 []) (attributes given) None tag start in
      let none : shown all w.root ≡ [] = shown_unknown ns all w.root part.known fresh in
      record {
        files = made_push t number (so_far all timed) 1 ns u.files w.root u.next root part.files (let n = part.next in omega (arith, n)) next_is
            (record {
              file = f;
              at_file = lives.0;
              tag = tag;
              is = root_is_copy tag ∙ ap (λ es. copied number tag (partly es false f)) (sym none)
                  ∙ ap (λ b. copied number tag (partly (shown all w.root) b f)) (sym early);
            });
        next = let n = part.next in let l = length-append ns (w.root ∷ []) in omega (arith, n, l);
        known = known_number w.root ns all part.known;
        begun = λ m has_m. elim (push_has m w.root ns has_m) [
          | inl was ↦ part.begun m was
          | inr e ↦ (entries_at t m, ap (λ l. l ++ entries_at t m) (sym none ∙ ap (shown all) e))
        ];
        few = let l = length-append ns (w.root ∷ []) in let k = length-append vs (copied_volume number w ∷ []) in let was = part.few in
            omega (arith, l, k, was);
        key = part.key;
        volumes = ap (λ l. l ++ record { path = w.path; max_bytes = w.max_bytes; max_files = w.max_files; root = u.next } ∷ []) part.volumes
            ∙ ap (λ n. vs ++ record { path = w.path; max_bytes = w.max_bytes; max_files = w.max_files; root = n } ∷ []) (sym next_is);
        limits = part.limits;
      }

-- ---- the line of a volume

none_where : (path : List ℕ) (vs : List Volume) → All (λ v. v.path ≢ path) vs → index_where (λ (v : Volume). bytes_eq v.path path) vs ≡ None
none_where path [] all = refl
none_where path (v ∷ vs) all =
    ap (λ b. if b then Some 0 else option_map (λ n. n + 1) (index_where (λ (v : Volume). bytes_eq v.path path) vs))
    (other_bytes v.path path (All-head (λ (v : Volume). v.path ≢ path) v vs all))
    ∙ ap (option_map (λ n. n + 1)) (none_where path vs (All-tail (λ (v : Volume). v.path ≢ path) v vs all))

taken : (old : Loaded) (line : VolumeLine) (result : Result Unit Refusal) (new : Loaded) (Made : Tree → Type 0)
    → ((r : Result Unit Refusal) → AddsVolume old.tree line r new.tree → Done r (Made new.tree)) → VolumeTaken old line result new
    → Done result (Made new.tree × (new.table ≡ old.table ++ [] ∷ []) × (new.names ≡ old.names))
taken old line (Ok x) new Made does it = elim (does (Ok x) it.0) [ inl memory ↦ inl memory | inr made ↦ inr (made.0, (made.1, it.1, it.2)) ]
taken old line (Err (Fault cause)) new Made does it = elim (does (Err (Fault cause)) it) [
  | inl memory ↦ inl memory
  | inr made ↦ absurd (not_both (Err (Fault cause)) tt (Fault cause) made.0 refl)
]
taken old line (Err Memory) new Made does it = inl refl

module _ (Last : Option Loaded → Type 0) (t : Tree) (law : Law t) (number : ℕ → ℕ) (timed : ℕ → Bool) (all : List Step) (ns : List ℕ) (vs : List Volume)
    (old : Loaded) (part : IsPart t number timed all ns vs old.tree)
    (w : Volume) (f : File) (at_w : slice_get t.volumes f.volume ≡ Some w) (lives : LivesAsDirectory t w.root f) (parent : parent_in f.kind ≡ w.root)
    (index : length vs ≡ f.volume) (new : number w.root ≡ suc (length ns)) (fresh : Has w.root ns → ⊥) (early : timed w.root ≡ false)
    (words : CanBeSaid f) (said : is_said w.path ≡ true) (path : volume_path_in w.path ≡ Ok w.path) (bytes : w.max_bytes ≤ 1099511627776)
    (some : 1 ≤ w.max_files) (files : w.max_files ≤ t.limits.files)
    (other : All (λ v. v.path ≢ w.path) vs) (few : length vs < 64) (short : length w.path ≤ 255) (room : length all + length vs ≤ 4611686018427387968) where
  may_add : MayAddVolume old.tree w.path w.max_bytes w.max_files
  may_add = record {
    few = let l = ap length part.volumes in omega (arith, l, few);
    short = short;
    fresh = subst (All (λ (v : Volume). v.path ≢ w.path)) (sym part.volumes) other;
    number = let n = part.next in let m = part.few in omega (arith, n, m, room);
    bytes = bytes;
    files = some;
    many = subst (λ (l : Limits). w.max_files ≤ l.files) (sym part.limits) files;
  }

  free : free_path old.tree w.path ≡ Ok w.path
  free = ap (λ l. unless_found (index_where (λ (v : Volume). bytes_eq v.path w.path) l)) part.volumes ∙ ap unless_found (none_where w.path vs other)
    where
      unless_found : Option ℕ → Result (List ℕ) Cause
      unless_found o = if is_some o then Err VolumeTwice else Ok w.path

  pub root_goes : (All : Option Loaded → Type 0) → ((loaded : Loaded) → IsPart t number timed all (ns ++ w.root ∷ []) (vs ++ copied_volume number w ∷ []) loaded.tree
      → loaded.table ≡ old.table ++ [] ∷ [] → loaded.names ≡ old.names → All (Some loaded))
      → Goes Last (Some old) (root_text w (attributes_at t w.root)) All
  root_goes All goes =
      let given : Given = record { mode = f.mode; uid = f.uid; gid = f.gid } in
      let line : VolumeLine = record { path = w.path; max_bytes = w.max_bytes; max_files = w.max_files; given = given } in
      let Rooted : Loaded → Type 0 = λ loaded. IsPart t number timed all (ns ++ w.root ∷ []) (vs ++ copied_volume number w ∷ []) loaded.tree
      × (loaded.table ≡ old.table ++ [] ∷ []) × (loaded.names ≡ old.names) in
      let few : w.max_files < 2 ^ 64 = let cap = law.limits.files in omega (arith, files, cap) in
      let r = read_back.volumes old.tree.limits.files w.path w.max_bytes w.max_files given said path bytes some
      (subst (λ (l : Limits). w.max_files ≤ l.files) (sym part.limits) files) few ((law.sound w.root f lives.0).mode, words.uid, words.gid) in
      subst (λ l. Goes Last (Some old) l All)
      (sym (ap (λ o. root_text w (option_map (λ (g : File). attributes_of w.root g (nlink t.files w.root g)) o)) lives.0))
      (goes_on Last old (volume_line w.path w.max_bytes w.max_files given) keyword.Volume r.0 Rooted All r.1 (λ loaded it. goes loaded it.0 it.1 it.2)
      (λ result loaded done.
      taken old line result loaded (λ u. IsPart t number timed all (ns ++ w.root ∷ []) (vs ++ copied_volume number w ∷ []) u)
      (λ result adds. done_map result
      (λ (made : Makes old.tree (λ tag. after_add_volume old.tree w.path w.max_bytes w.max_files (attributes given) tag start) loaded.tree).
      subst (IsPart t number timed all (ns ++ w.root ∷ []) (vs ++ copied_volume number w ∷ [])) (sym made.new_is)
      (part_with_volume t law number timed all ns vs old.tree part w f at_w lives parent index new fresh early made.tag))
      (does_made old.tree (free_path old.tree w.path) (λ (p : List ℕ). MayAddVolume old.tree p w.max_bytes w.max_files)
      (λ (p : List ℕ). Makes old.tree (λ tag. after_add_volume old.tree p w.max_bytes w.max_files (attributes given) tag start))
      result loaded.tree w.path free may_add adds))
      (then_is (volume_in old.tree.limits.files r.0) line [] result (λ (it : VolumeLine). VolumeTaken old it result loaded) r.2 done)))

-- ---- the lines of exports

added_last : (front : List (List Export)) (es : List Export) (e : Export) → added (front ++ es ∷ []) (length front) e ≡ front ++ (es ++ e ∷ []) ∷ []
added_last [] es e = refl
added_last (x ∷ front) es e = ap (λ l. x ∷ l) (added_last front es e)

count_last : (front : List (List Export)) (es : List Export) → pattern_count (front ++ es ∷ []) ≡ pattern_count front + length es
count_last [] es = omega arith
count_last (x ∷ front) es = let rest = count_last front es in omega (arith, rest)

export_done : (old : Loaded) (line : ExportLine) (result : Result Unit Refusal) (new : Loaded) → pattern_count old.table < 256 → ExportDone old line result new
    → Done result (new ≡ with_export old line)
export_done old line (Ok x) new few it = inr (refl, it.1)
export_done old line (Err (Fault cause)) new few it = absurd (let many = it.0 in omega (arith, few, many))
export_done old line (Err Memory) new few it = inl refl

module _ (Last : Option Loaded → Type 0) (tree : Tree) (root : ℕ) (front : List (List Export)) (last_is : last_root tree ≡ Ok root)
    (index : length tree.volumes ≡ suc (length front)) (form : NameForm) where
  -- they are the last of the last volume, and the tree stays
  pub exports_go : (es so_far : List Export) (old : Loaded) → old.tree ≡ tree → old.table ≡ front ++ so_far ∷ [] → old.names ≡ form
      → pattern_count front + (length so_far + length es) ≤ 256
      → ((e : Export) → Contains es e → IsExport e) → (All : Option Loaded → Type 0)
      → ((loaded : Loaded) → loaded.tree ≡ tree → loaded.table ≡ front ++ (so_far ++ es) ∷ [] → loaded.names ≡ form → All (Some loaded))
      → Goes Last (Some old) (flat_map export_line es) All
  exports_go [] so_far old tree_is table_is form_is few each All goes =
      goes_none Last (Some old) All (goes old tree_is (table_is ∙ ap (λ l. front ++ l ∷ []) (sym (append-nil so_far))) form_is)
  exports_go (e ∷ es) so_far old tree_is table_is form_is few each All goes =
      let Between : Option Loaded → Type 0 = λ new. (loaded : Loaded) × (new ≡ Some loaded) × (loaded.tree ≡ tree)
      × (loaded.table ≡ front ++ (so_far ++ e ∷ []) ∷ []) × (loaded.names ≡ form) in
      let line : ExportLine = record { pattern = e.pattern; options = e.options } in
      let r = read_back_exports.exports e (each e (in_head e es)) in
      let count : pattern_count old.table ≡ pattern_count front + length so_far = ap pattern_count table_is ∙ count_last front so_far in
      let place : length old.tree.volumes - 1 ≡ length front = let l = ap (λ (u : Tree). length u.volumes) tree_is in omega (arith, l, index) in
      let long = length-append so_far (e ∷ []) in
      goes_both Last (Some old) (export_line e) (flat_map export_line es) Between All
      (goes_on Last old (export_line e) keyword.Export r.0 (λ loaded. (loaded.tree ≡ tree) × (loaded.table ≡ front ++ (so_far ++ e ∷ []) ∷ []) × (loaded.names ≡ form)) Between r.1
      (λ loaded it. (loaded, refl, it.0, it.1, it.2))
      (λ result loaded done. done_map result
      (λ (is : loaded ≡ with_export old line). (
        ap (λ (l : Loaded). l.tree) is ∙ tree_is,
        ap (λ (l : Loaded). l.table) is ∙ ap (λ i. added old.table i e) place ∙ ap (λ l. added l (length front) e) table_is ∙ added_last front so_far e,
        ap (λ (l : Loaded). l.names) is ∙ form_is,
      ))
      (export_done old line result loaded (omega (arith, count, few))
      (then_is (export_in r.0) line [] result (λ (it : ExportLine). ExportDone old it result loaded) r.2
      (root_is (last_root old.tree) root result (λ (m : ℕ). Then (export_in r.0) result (λ (it : ExportLine). ExportDone old it result loaded))
      (ap last_root tree_is ∙ last_is) done)))))
      (λ new it. subst (λ o. Goes Last o (flat_map export_line es) All) (sym it.1)
      (exports_go es (so_far ++ e ∷ []) it.0 it.2 it.3 it.4 (omega (arith, few, long)) (λ x c. each x (in_tail e x es c)) All
      (λ loaded same table names. goes loaded same (table ∙ ap (λ l. front ++ l ∷ []) (append_assoc so_far (e ∷ []) es)) names)))
