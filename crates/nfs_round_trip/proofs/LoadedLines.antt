-- Each line keeps what can be described.
use Rattle.std.proofs.Common.{inl, inr, ◌≡◌, ◌≢◌, ◌⊎◌, ℕ, suc, zero, ◌+◌, ◌-◌, ◌<◌, ◌≤◌, ◌^◌, Bool, true, false, List, [], ◌∷◌, ◌++◌, length, nat_eq}
use Rattle.std.proofs.Common.{Option, Some, None, Ok, refl, sym, ap, subst, ◌∙◌, arith}
use Rattle.std.specs.List.{list_all}
use Rattle.std.specs.Prelude.{All, Contains, Err, Result, if◌then◌else◌, is_some, nat_lt}
use Rattle.nfs_inodes.specs.Reading.{attributes_at, number_under, volume_named}
use Rattle.std.specs.List.Sorted.{IsStrictlySortedBy}
use Rattle.std.specs.Ordering.{nat_cmp}
use Rattle.std.proofs.lemmas.Bool.{eq-eqb}
use Rattle.std.proofs.lemmas.List.{length-append}
use Rattle.nfs_text.specs.Lines.{lines}
use Rattle.std.proofs.lemmas.List.Elements.{All-head, All-nil, All-push, All-tail}
use Rattle.hex.specs.Hex.{IsBytes}
use Rattle.nfs_attrs.specs.declared.moment.Moment.{Moment}
use Rattle.nfs_exports.specs.Tables.{added, exports_of, pattern_count}
use Rattle.nfs_exports.specs.declared.options.Options.{Options}
use Rattle.nfs_exports.specs.declared.pattern.Pattern.{Pattern}
use Rattle.nfs_exports.specs.declared.export_table.Export.{Export}
use Rattle.nfs_inodes.specs.Changes.{after_set, entered, touched, with_entry, with_file}
use Rattle.nfs_inodes.specs.declared.limits.Limits.{Limits}
use Rattle.nfs_inodes.specs.Law.{IsWithin, Law}
use Rattle.nfs_inodes.proofs.law.Opened.{law_limited}
use Rattle.nfs_inodes.proofs.law.Settings.{set_is}
use Rattle.nfs_inodes.specs.Limits.{default_limits}
use Rattle.nfs_inodes.specs.Tree.{Tree, File, Volume, at, on_some}
use Rattle.nfs_inodes.proofs.Lists.{by_test, head_or_tail, in_head, in_tail, not_both as not_one, not_in_empty, same_some, true_and_false}
use Rattle.nfs_load.specs.Descriptions.{Asked, Begins, GoesOn, InRoot, IsFault, LimitsSet, NamesSet, early_limits, early_names, Then, Through, begun, finished, last_root}
use Rattle.nfs_load.specs.Effects.{TimesSet, free_path, link_end, named_file, start, timed_file, times_given}
use Rattle.nfs_load.specs.Fields.{◌>>=◌, by, content_in, key_in, number_in, options_at, pattern_in, target_in}
use Rattle.nfs_load.specs.Lines.{Line, shape}
use Rattle.nfs_load.specs.Moments.{IsTime, moment_in}
use Rattle.nfs_load.specs.PathEnds.{PathEnd, end_after, end_at, file_at, file_or_root_at, free_end, is_directory, unless_taken}
use Rattle.nfs_load.specs.Paths.{is_volume_path, path_in, path_names, path_or_cause, path_or_root_in, volume_path_in}
use Rattle.nfs_load.specs.Statements.{FileLine, LinkLine, Read, TimesLine, VolumeLine, dir_in, export_in, file_in, given_in, hard_in, id_in, link_in, times_in, volume_in}
use Rattle.nfs_load.specs.declared.cause.Cause.{Cause}
use Rattle.nfs_load.specs.declared.cause.Cause.TheVariants.{BadVolumePath, NameTaken, NoVolume, ServerTwice, VolumeTwice}
use Rattle.nfs_load.specs.declared.line.Keyword.{Keyword}
use Rattle.nfs_load.specs.declared.line.Keyword.TheVariants as keyword
use Rattle.nfs_load.specs.declared.loaded.Loaded.{Loaded}
use Rattle.nfs_load.specs.declared.name_form.NameForm.{NameForm}
use Rattle.nfs_load.specs.declared.name_form.NameForm.TheVariants.{Plain}
use Rattle.nfs_load.specs.declared.refusal.Refusal.TheVariants.{Fault, Memory}
use Rattle.nfs_load.specs.declared.statement.DirLine.{DirLine}
use Rattle.nfs_load.specs.declared.statement.ExportLine.{ExportLine}
use Rattle.nfs_load.specs.declared.statement.Given.{Given}
use Rattle.nfs_load.specs.declared.statement.HardLine.{HardLine}
use Rattle.nfs_load.proofs.Descriptions.{length_added}
use Rattle.nfs_load.proofs.Timed.{living_lives}
use Rattle.nfs_describe.specs.Lines.{is_shown}
use Rattle.nfs_read_back.specs.ReadBack.{IsExport, is_said}
use Rattle.nfs_round_trip.specs.Changes.{IsGivenSaid}
use Rattle.nfs_round_trip.specs.RoundTrip as law
use Rattle.nfs_round_trip.specs.RoundTrip.{IsDescribable, IsVolumeSaid}
use Rattle.nfs_round_trip.proofs.Bounds.{bind_is, by_is, content_bound, given_bound, key_bound, moment_bound, number_bound, options_bound, pattern_bound}
use Rattle.nfs_round_trip.proofs.LimitBounds.{early, limits_kept}
use Rattle.nfs_round_trip.proofs.Loaded.{AllSaid, IsKept, fields_said, kept_dir, kept_file, kept_link, kept_name, kept_times, kept_volume}
use Rattle.nfs_round_trip.proofs.Reaches.{on_some_is}
use Rattle.nfs_round_trip.proofs.Runs.{not_both, same_ok}
use Rattle.nfs_round_trip.proofs.Truths.{both}
use Rattle.nfs_round_trip.proofs.WordBytes.{path_names_bytes, shown_bytes, target_bytes}

abbrev Left : Type 0 → Type 0
Left A = A × List (List ℕ)

abbrev Ids : Given → Type 0
Ids given = (given.uid < 2 ^ 32) × (given.gid < 2 ^ 32)

line_is : {A : Type 0} (a b : A) (x y : List (List ℕ)) (r : Result (A × List (List ℕ)) Cause) → r ≡ Ok (a, x) → r ≡ Ok (b, y) → a ≡ b
line_is {A} a b x y r one two = ap (λ (p : A × List (List ℕ)). p.0) (same_ok r (a, x) (b, y) one two)

rest_said : (fields rest : List (List ℕ)) (field : List ℕ) → fields ≡ field ∷ rest → AllSaid fields → (is_said field ≡ true) × AllSaid rest
rest_said fields rest field is said = subst AllSaid is said

-- ---- what lines say

-- the names of a path are bytes, where its field is a word
path_bytes : (form : NameForm) (field : List ℕ) (names : List (List ℕ)) → is_said field ≡ true → path_in form field ≡ Ok names → All IsBytes names
path_bytes form field names said e = from (path_names form field) refl e
  where
    from : (o : Option (List (List ℕ))) → path_names form field ≡ o → path_or_cause o ≡ Ok names → All IsBytes names
    from None is e = cc
    from (Some found) is e = subst (All IsBytes) (same_ok (path_or_cause (Some found)) found names refl e) (path_names_bytes form field found (shown_bytes field (both (nat_lt 0 (length field)) (list_all is_shown field) said).1) is)

-- the name at the end of a path is one of them
after_bytes : (t : Tree) (dir : ℕ) (name : List ℕ) (names : List (List ℕ)) (end : PathEnd) → IsBytes name → All IsBytes names → end_after t dir name names ≡ Some end → IsBytes end.name
after_bytes t dir name [] end is all e = of (is_directory (attributes_at t dir)) e
  where
    of : (b : Bool) → (if b then Some (record { dir = dir; name = name }) else None) ≡ Some end → IsBytes end.name
    of true e = subst (λ (x : PathEnd). IsBytes x.name) (same_some e) is
    of false e = cc
after_bytes t dir name (next ∷ names) end is all e =
    let s = on_some_is (number_under t dir name) (λ n. end_after t n next names) end e in
    after_bytes t s.0 next names end (All-head IsBytes next names all) (All-tail IsBytes next names all) s.2

end_bytes : (t : Tree) (root : ℕ) (path : List (List ℕ)) (end : PathEnd) → All IsBytes path → free_end t root path ≡ Ok end → IsBytes end.name
end_bytes t root path end all e = of (end_at t root path) refl e
  where
    along : (names : List (List ℕ)) → All IsBytes names → end_at t root names ≡ Some end → IsBytes end.name
    along [] each is = cc
    along (name ∷ names) each is = after_bytes t root name names end (All-head IsBytes name names each) (All-tail IsBytes name names each) is

    of : (o : Option PathEnd) → end_at t root path ≡ o → unless_taken t o ≡ Ok end → IsBytes end.name
    of None is e = cc
    of (Some found) is e = by_test (is_some (number_under t found.dir found.name))
        (λ y. absurd (not_both (unless_taken t (Some found)) end NameTaken e (ap (λ b. if b then Err NameTaken else Ok found) y)))
        (λ o. along path all (is ∙ ap Some (same_ok (unless_taken t (Some found)) found end (ap (λ b. if b then Err NameTaken else Ok found) o) e)))

dir_bound : (form : NameForm) (fields : List (List ℕ)) (line : DirLine) (rest : List (List ℕ)) → AllSaid fields → dir_in form fields ≡ Ok (line, rest)
    → Ids line.given × All IsBytes line.path
dir_bound form fields line rest said e =
    let path = bind_is (by (path_in form) fields) (λ (path : Left (List (List ℕ))). given_in path.1 >>=
    (λ (given : Left Given). Ok (record { path = path.0; given = given.0 }, given.1))) (line, rest) e in
    let given = bind_is (given_in path.0.1) (λ (given : Left Given). Ok (record { path = path.0.0; given = given.0 }, given.1)) (line, rest) path.2 in
    let made : DirLine = record { path = path.0.0; given = given.0.0 } in
    let p = by_is (path_in form) fields path.0.0 path.0.1 path.1 in
    subst (λ (l : DirLine). Ids l.given × All IsBytes l.path) (line_is made line given.0.1 rest (Ok (made, given.0.1)) refl given.2)
    (given_bound path.0.1 given.0.0 given.0.1 given.1, path_bytes form p.0 path.0.0 (rest_said fields path.0.1 p.0 p.1 said).0 p.2)

file_bound : (form : NameForm) (most : ℕ) (fields : List (List ℕ)) (line : FileLine) (rest : List (List ℕ)) → AllSaid fields → file_in form most fields ≡ Ok (line, rest)
    → Ids line.given × All IsBytes line.path × IsBytes line.content
file_bound form most fields line rest said e =
    let path = bind_is (by (path_in form) fields) (λ (path : Left (List (List ℕ))). given_in path.1 >>=
    (λ (given : Left Given). by (content_in most) given.1 >>= (λ (content : Left (List ℕ)).
    Ok (record { path = path.0; given = given.0; content = content.0 }, content.1)))) (line, rest) e in
    let given = bind_is (given_in path.0.1) (λ (given : Left Given). by (content_in most) given.1 >>= (λ (content : Left (List ℕ)).
    Ok (record { path = path.0.0; given = given.0; content = content.0 }, content.1))) (line, rest) path.2 in
    let content = bind_is (by (content_in most) given.0.1) (λ (content : Left (List ℕ)). Ok
    (record { path = path.0.0; given = given.0.0; content = content.0 }, content.1)) (line, rest) given.2 in
    let made : FileLine = record { path = path.0.0; given = given.0.0; content = content.0.0 } in
    let p = by_is (path_in form) fields path.0.0 path.0.1 path.1 in
    let c = by_is (content_in most) given.0.1 content.0.0 content.0.1 content.1 in
    subst (λ (l : FileLine). Ids l.given × All IsBytes l.path × IsBytes l.content) (line_is made line content.0.1 rest (Ok (made, content.0.1)) refl content.2)
    (given_bound path.0.1 given.0.0 given.0.1 given.1, path_bytes form p.0 path.0.0 (rest_said fields path.0.1 p.0 p.1 said).0 p.2, content_bound most c.0 content.0.0 c.2)

hard_bound : (form : NameForm) (fields : List (List ℕ)) (line : HardLine) (rest : List (List ℕ)) → AllSaid fields → hard_in form fields ≡ Ok (line, rest) → All IsBytes line.path
hard_bound form fields line rest said e =
    let path = bind_is (by (path_in form) fields) (λ (path : Left (List (List ℕ))). by (path_in form) path.1 >>=
    (λ (old : Left (List (List ℕ))). Ok (record { path = path.0; old = old.0 }, old.1))) (line, rest) e in
    let old = bind_is (by (path_in form) path.0.1) (λ (old : Left (List (List ℕ))). Ok (record { path = path.0.0; old = old.0 }, old.1)) (line, rest) path.2 in
    let made : HardLine = record { path = path.0.0; old = old.0.0 } in
    let p = by_is (path_in form) fields path.0.0 path.0.1 path.1 in
    subst (λ (l : HardLine). All IsBytes l.path) (line_is made line old.0.1 rest (Ok (made, old.0.1)) refl old.2)
    (path_bytes form p.0 path.0.0 (rest_said fields path.0.1 p.0 p.1 said).0 p.2)

-- what a line of times says
record AreTimes (l : TimesLine) : Type 0 where
  atime : IsTime l.atime
  mtime : IsTime l.mtime
  ctime : IsTime l.ctime

times_bound : (form : NameForm) (fields : List (List ℕ)) (line : TimesLine) (rest : List (List ℕ)) → times_in form fields ≡ Ok (line, rest) → AreTimes line
times_bound form fields line rest e =
    let path = bind_is (by (path_or_root_in form) fields) (λ (path : Left (List (List ℕ))). by moment_in path.1 >>=
    (λ (atime : Left Moment). by moment_in atime.1 >>= (λ (mtime : Left Moment). by moment_in mtime.1 >>= (λ (ctime : Left Moment).
    Ok (record { path = path.0; atime = atime.0; mtime = mtime.0; ctime = ctime.0 }, ctime.1))))) (line, rest) e in
    let atime = bind_is (by moment_in path.0.1) (λ (atime : Left Moment). by moment_in atime.1 >>= (λ (mtime : Left Moment). by moment_in mtime.1 >>=
    (λ (ctime : Left Moment). Ok (record { path = path.0.0; atime = atime.0; mtime = mtime.0; ctime = ctime.0 }, ctime.1)))) (line, rest) path.2 in
    let mtime = bind_is (by moment_in atime.0.1) (λ (mtime : Left Moment). by moment_in mtime.1 >>= (λ (ctime : Left Moment).
    Ok (record { path = path.0.0; atime = atime.0.0; mtime = mtime.0; ctime = ctime.0 }, ctime.1))) (line, rest) atime.2 in
    let ctime = bind_is (by moment_in mtime.0.1) (λ (ctime : Left Moment).
    Ok (record { path = path.0.0; atime = atime.0.0; mtime = mtime.0.0; ctime = ctime.0 }, ctime.1)) (line, rest) mtime.2 in
    let made : TimesLine = record { path = path.0.0; atime = atime.0.0; mtime = mtime.0.0; ctime = ctime.0.0 } in
    let a = by_is moment_in path.0.1 atime.0.0 atime.0.1 atime.1 in
    let m = by_is moment_in atime.0.1 mtime.0.0 mtime.0.1 mtime.1 in
    let c = by_is moment_in mtime.0.1 ctime.0.0 ctime.0.1 ctime.1 in
    subst AreTimes (line_is made line ctime.0.1 rest (Ok (made, ctime.0.1)) refl ctime.2) (record {
      atime = moment_bound a.0 atime.0.0 a.2;
      mtime = moment_bound m.0 mtime.0.0 m.2;
      ctime = moment_bound c.0 ctime.0.0 c.2;
    })

times_said : (line : TimesLine) → AreTimes line → IsGivenSaid (times_given line)
times_said line are = record {
  uid = λ n e. absurd (not_one refl e);
  gid = λ n e. absurd (not_one refl e);
  atime = λ m e. subst IsTime (same_some e) are.atime;
  mtime = λ m e. subst IsTime (same_some e) are.mtime;
}

link_bound : (form : NameForm) (most : ℕ) (fields : List (List ℕ)) (line : LinkLine) (rest : List (List ℕ)) → AllSaid fields → link_in form most fields ≡ Ok (line, rest)
    → (line.uid < 2 ^ 32) × (line.gid < 2 ^ 32) × All IsBytes line.path × IsBytes line.target
link_bound form most fields line rest said e =
    let path = bind_is (by (path_in form) fields) (λ (path : Left (List (List ℕ))). by id_in path.1 >>=
    (λ (uid : Left ℕ). by id_in uid.1 >>= (λ (gid : Left ℕ). by (target_in form most) gid.1 >>= (λ (target : Left (List ℕ)).
    Ok (record { path = path.0; uid = uid.0; gid = gid.0; target = target.0 }, target.1))))) (line, rest) e in
    let uid = bind_is (by id_in path.0.1) (λ (uid : Left ℕ). by id_in uid.1 >>= (λ (gid : Left ℕ). by (target_in form most) gid.1 >>= (λ (target : Left (List ℕ)).
    Ok (record { path = path.0.0; uid = uid.0; gid = gid.0; target = target.0 }, target.1)))) (line, rest) path.2 in
    let gid = bind_is (by id_in uid.0.1) (λ (gid : Left ℕ). by (target_in form most) gid.1 >>= (λ (target : Left (List ℕ)).
    Ok (record { path = path.0.0; uid = uid.0.0; gid = gid.0; target = target.0 }, target.1))) (line, rest) uid.2 in
    let target = bind_is (by (target_in form most) gid.0.1) (λ (target : Left (List ℕ)). Ok
    (record { path = path.0.0; uid = uid.0.0; gid = gid.0.0; target = target.0 }, target.1)) (line, rest) gid.2 in
    let made : LinkLine = record { path = path.0.0; uid = uid.0.0; gid = gid.0.0; target = target.0.0 } in
    let p = by_is (path_in form) fields path.0.0 path.0.1 path.1 in
    let u = by_is id_in path.0.1 uid.0.0 uid.0.1 uid.1 in
    let g = by_is id_in uid.0.1 gid.0.0 gid.0.1 gid.1 in
    let x = by_is (target_in form most) gid.0.1 target.0.0 target.0.1 target.1 in
    let after_path = rest_said fields path.0.1 p.0 p.1 said in
    let word = (rest_said gid.0.1 target.0.1 x.0 x.1 (rest_said uid.0.1 gid.0.1 g.0 g.1
    (rest_said path.0.1 uid.0.1 u.0 u.1 after_path.1).1).1).0 in
    let high_u = number_bound 0 4294967295 u.0 uid.0.0 u.2 in
    let high_g = number_bound 0 4294967295 g.0 gid.0.0 g.2 in
    subst (λ (l : LinkLine). (l.uid < 2 ^ 32) × (l.gid < 2 ^ 32) × All IsBytes l.path × IsBytes l.target)
    (line_is made line target.0.1 rest (Ok (made, target.0.1)) refl target.2) (
      omega (arith, high_u),
      omega (arith, high_g),
      path_bytes form p.0 path.0.0 after_path.0 p.2,
      target_bytes form most x.0 target.0.0 (shown_bytes x.0 (both (nat_lt 0 (length x.0)) (list_all is_shown x.0) word).1) x.2,
    )

volume_path_is : (field path : List ℕ) → volume_path_in field ≡ Ok path → (field ≡ path) × (volume_path_in path ≡ Ok path)
volume_path_is field path e = by_test (is_volume_path field)
    (λ y.
    let ok : volume_path_in field ≡ Ok field = ap (λ b. if b then Ok field else Err BadVolumePath) y in
    let same : field ≡ path = same_ok (volume_path_in field) field path ok e in
    (same, subst (λ p. volume_path_in p ≡ Ok p) same ok))
    (λ o. absurd (not_both (volume_path_in field) path BadVolumePath e (ap (λ b. if b then Ok field else Err BadVolumePath) o)))

-- what a volume's line says
record IsLineSaid (most : ℕ) (l : VolumeLine) : Type 0 where
  word : is_said l.path ≡ true
  path : volume_path_in l.path ≡ Ok l.path
  bytes : l.max_bytes ≤ 1099511627776
  files : l.max_files ≤ most
  ids : Ids l.given

volume_bound : (most : ℕ) (fields : List (List ℕ)) (line : VolumeLine) (rest : List (List ℕ)) → AllSaid fields → volume_in most fields ≡ Ok (line, rest) → IsLineSaid most line
volume_bound most fields line rest said e =
    let path = bind_is (by volume_path_in fields) (λ (path : Left (List ℕ)). by (number_in 0 1099511627776) path.1 >>=
    (λ (max_bytes : Left ℕ). by (number_in 1 most) max_bytes.1 >>= (λ (max_files : Left ℕ).
    given_in max_files.1 >>= (λ (given : Left Given). Ok
    (record { path = path.0; max_bytes = max_bytes.0; max_files = max_files.0; given = given.0 }, given.1))))) (line, rest) e in
    let max_bytes = bind_is (by (number_in 0 1099511627776) path.0.1) (λ (max_bytes : Left ℕ). by (number_in 1 most) max_bytes.1 >>= (λ (max_files : Left ℕ).
    given_in max_files.1 >>= (λ (given : Left Given). Ok
    (record { path = path.0.0; max_bytes = max_bytes.0; max_files = max_files.0; given = given.0 }, given.1)))) (line, rest) path.2 in
    let max_files = bind_is (by (number_in 1 most) max_bytes.0.1) (λ (max_files : Left ℕ).
    given_in max_files.1 >>= (λ (given : Left Given). Ok
    (record { path = path.0.0; max_bytes = max_bytes.0.0; max_files = max_files.0; given = given.0 }, given.1))) (line, rest) max_bytes.2 in
    let given = bind_is (given_in max_files.0.1) (λ (given : Left Given). Ok
    (record { path = path.0.0; max_bytes = max_bytes.0.0; max_files = max_files.0.0; given = given.0 }, given.1)) (line, rest) max_files.2 in
    let made : VolumeLine = record { path = path.0.0; max_bytes = max_bytes.0.0; max_files = max_files.0.0; given = given.0.0 } in
    let p = by_is volume_path_in fields path.0.0 path.0.1 path.1 in
    let b = by_is (number_in 0 1099511627776) path.0.1 max_bytes.0.0 max_bytes.0.1 max_bytes.1 in
    let f = by_is (number_in 1 most) max_bytes.0.1 max_files.0.0 max_files.0.1 max_files.1 in
    let held = volume_path_is p.0 path.0.0 p.2 in
    subst (IsLineSaid most) (line_is made line given.0.1 rest (Ok (made, given.0.1)) refl given.2) (record {
      word = subst (λ t. is_said t ≡ true) held.0 (rest_said fields path.0.1 p.0 p.1 said).0;
      path = held.1;
      bytes = number_bound 0 1099511627776 b.0 max_bytes.0.0 b.2;
      files = number_bound 1 most f.0 max_files.0.0 f.2;
      ids = given_bound max_files.0.1 given.0.0 given.0.1 given.1;
    })

export_bound : (fields : List (List ℕ)) (line : ExportLine) (rest : List (List ℕ)) → export_in fields ≡ Ok (line, rest)
    → IsExport (record { pattern = line.pattern; options = line.options })
export_bound fields line rest e =
    let pattern = bind_is (by pattern_in fields) (λ (pattern : Left Pattern). options_at pattern.1 >>=
    (λ (options : Left Options). Ok (record { pattern = pattern.0; options = options.0 }, options.1))) (line, rest) e in
    let options = bind_is (options_at pattern.0.1) (λ (options : Left Options). Ok (record { pattern = pattern.0.0; options = options.0 }, options.1))
    (line, rest) pattern.2 in
    let made : ExportLine = record { pattern = pattern.0.0; options = options.0.0 } in
    let p = by_is pattern_in fields pattern.0.0 pattern.0.1 pattern.1 in
    let one = pattern_bound p.0 pattern.0.0 p.2 in
    let two = options_bound pattern.0.1 options.0.0 options.0.1 options.1 in
    subst (λ (l : ExportLine). IsExport (record { pattern = l.pattern; options = l.options }))
    (line_is made line options.0.1 rest (Ok (made, options.0.1)) refl options.2) (one.0, one.1, two.0, two.1)

-- ---- what is kept

pub record IsHeld (loaded : Loaded) : Type 0 where
  pub tree : IsKept loaded.tree
  pub volumes : All IsVolumeSaid loaded.tree.volumes
  pub lists : length loaded.table ≡ length loaded.tree.volumes
  pub few : pattern_count loaded.table ≤ 256
  pub exports : (place : ℕ) (e : Export) → Contains (exports_of loaded.table place) e → IsExport e

-- another tree with the same volumes
held_on : (old new : Loaded) → IsHeld old → IsKept new.tree → new.tree.volumes ≡ old.tree.volumes → new.table ≡ old.table → IsHeld new
held_on old new held tree volumes table = record {
  tree = tree;
  volumes = subst (All IsVolumeSaid) (sym volumes) held.volumes;
  lists = ap length table ∙ held.lists ∙ ap length (sym volumes);
  few = subst (λ l. pattern_count l ≤ 256) (sym table) held.few;
  exports = λ place e c. held.exports place e (subst (λ l. Contains (exports_of l place) e) table c);
}

entry_volumes : (u : Tree) (d : ℕ) (name : List ℕ) (n : ℕ) (now : Moment) → (with_entry u d name n now).volumes ≡ u.volumes
entry_volumes u d name n now = of (at d u.files)
  where
    of : (o : Option File) → (on_some o u (λ f. with_file u d (entered f name n now))).volumes ≡ u.volumes
    of None = refl
    of (Some f) = refl

touched_volumes : (u : Tree) (n : ℕ) (now : Moment) → (touched u n now).volumes ≡ u.volumes
touched_volumes u n now = of (at n u.files)
  where
    of : (o : Option File) → (on_some o u (λ f. with_file u n (record f { ctime = now }))).volumes ≡ u.volumes
    of None = refl
    of (Some f) = refl

-- ---- tables

count_added : (table : List (List Export)) (place : ℕ) (e : Export) → pattern_count (added table place e) ≤ pattern_count table + 1
count_added [] place e = omega arith
count_added (es ∷ table) zero e = let l = length-append es (e ∷ []) in omega (arith, l)
count_added (es ∷ table) (suc place) e = let rest = count_added table place e in omega (arith, rest)

contains_push : (es : List Export) (e x : Export) → Contains (es ++ e ∷ []) x → Contains es x ⊎ (e ≡ x)
contains_push [] e x c = elim (head_or_tail e x [] c) [ inl is ↦ inr is | inr r ↦ absurd (not_in_empty [] x refl r) ]
contains_push (y ∷ es) e x c = elim (head_or_tail y x (es ++ e ∷ []) c) [
  | inl is ↦ inl (subst (λ z. Contains (z ∷ es) x) (sym is) (in_head x es))
  | inr r ↦ elim (contains_push es e x r) [ inl was ↦ inl (in_tail y x es was) | inr is ↦ inr is ]
]

exports_added : (table : List (List Export)) (at_place place : ℕ) (e x : Export) → Contains (exports_of (added table at_place e) place) x
    → Contains (exports_of table place) x ⊎ (e ≡ x)
exports_added [] at_place place e x c = inl c
exports_added (es ∷ table) zero zero e x c = contains_push es e x c
exports_added (es ∷ table) zero (suc place) e x c = inl c
exports_added (es ∷ table) (suc at_place) zero e x c = inl c
exports_added (es ∷ table) (suc at_place) (suc place) e x c = exports_added table at_place place e x c

exports_more : (table : List (List Export)) (place : ℕ) → exports_of (table ++ [] ∷ []) place ≡ exports_of table place
exports_more [] zero = refl
exports_more [] (suc place) = refl
exports_more (es ∷ table) zero = refl
exports_more (es ∷ table) (suc place) = exports_more table place

count_more : (table : List (List Export)) → pattern_count (table ++ [] ∷ []) ≡ pattern_count table
count_more [] = refl
count_more (es ∷ table) = ap (λ n. length es + n) (count_more table)

-- ---- lines that are done

no_fault : (cause : Cause) → IsFault cause (Ok tt) → ⊥
no_fault cause e = not_both (Ok tt) tt (Fault cause) refl e

root_of : (found : Result ℕ Cause) (Holds : ℕ → Type 0) → InRoot found (Ok tt) Holds → (root : ℕ) × Holds root
root_of (Ok root) Holds it = (root, it)
root_of (Err cause) Holds it = absurd (no_fault cause it)

then_of : {A : Type 0} (read : Read A) (Holds : A → Type 0) → Then read (Ok tt) Holds → (line : A) × (rest : List (List ℕ)) × (read ≡ Ok (line, rest))
    × Holds line
then_of (Ok line) Holds it = (line.0, line.1, refl, it)
then_of (Err cause) Holds it = absurd (no_fault cause it)

times_of : (u new : Tree) (found : Result ℕ Cause) (line : TimesLine) → TimesSet u found line (Ok tt) new
    → (n : ℕ) × (found ≡ Ok n) × (new ≡ after_set u n (times_given line) line.ctime)
times_of u new (Ok n) line it = (n, refl, it.1)
times_of u new (Err cause) line it = absurd (no_fault cause it.0)

-- where a hard link goes is a free end
link_free : (t : Tree) (root : ℕ) (path old : List (List ℕ)) (it : PathEnd × ℕ) → link_end t root path old ≡ Ok it → free_end t root path ≡ Ok it.0
link_free t root path old it e =
    let end = bind_is (free_end t root path) (λ (end : PathEnd). named_file t (file_at t root old) >>= (λ (n : ℕ). Ok (end, n))) it e in
    let n = bind_is (named_file t (file_at t root old)) (λ (n : ℕ). Ok (end.0, n)) it end.2 in
    end.1 ∙ ap (λ (pair : PathEnd × ℕ). Ok pair.0) (same_ok {E = Cause} (Ok (end.0, n.0)) (end.0, n.0) it refl n.2)

goes_held : (old new : Loaded) (k : Keyword) (fields : List (List ℕ)) → AllSaid fields → GoesOn old k fields (Ok tt) new → IsHeld old → IsHeld new
goes_held old new keyword.Server fields said it held = absurd (no_fault ServerTwice it)
goes_held old new keyword.Limits fields said it held = limits_held old new (early_limits old.tree fields) refl it held
  where
    limits_held : (old new : Loaded) (limits : Result Limits Cause) → early_limits old.tree fields ≡ limits → LimitsSet old limits (Ok tt) new → IsHeld old → IsHeld new
    limits_held old new (Err cause) e it held = absurd (no_fault cause it)
    limits_held old new (Ok limits) e it held =
        let set = early old.tree fields limits e in
        subst IsHeld (sym it.1) (record {
          tree = (law_limited old.tree limits (limits_kept old.tree.limits fields limits held.tree.0.limits set.1) set.0 held.tree.0, held.tree.1);
          volumes = held.volumes;
          lists = held.lists;
          few = held.few;
          exports = held.exports;
        })
goes_held old new keyword.Names fields said it held = names_held (early_names old fields) it
  where
    names_held : (read : Read NameForm) → NamesSet old read (Ok tt) new → IsHeld new
    names_held (Err cause) it = absurd (no_fault cause it)
    names_held (Ok form) it = subst IsHeld (sym it.1) (record {
      tree = held.tree;
      volumes = held.volumes;
      lists = held.lists;
      few = held.few;
      exports = held.exports;
    })
goes_held old new keyword.Volume fields said it held =
    let line = then_of (volume_in old.tree.limits.files fields) _ it in
    let made = line.3.0 in
    let words = volume_bound old.tree.limits.files fields line.0 line.1 said line.2 in
    let is = made.3.new_is in
    let volume : Volume = record { path = made.0; max_bytes = line.0.max_bytes; max_files = line.0.max_files; root = old.tree.next } in
    let volumes : new.tree.volumes ≡ old.tree.volumes ++ volume ∷ [] = ap (λ (u : Tree). u.volumes) is in
    let path : made.0 ≡ line.0.path = free_is old.tree line.0.path made.0 made.1 in
    record {
      tree = subst IsKept (sym is)
          (kept_volume old.tree made.0 line.0.max_bytes line.0.max_files made.3.tag line.0.given made.2 made.3.tag_is.fits words.ids held.tree);
      volumes = subst (All IsVolumeSaid) (sym volumes) (All-push IsVolumeSaid old.tree.volumes volume held.volumes (record {
        word = ap is_said path ∙ words.word;
        path = ap volume_path_in path ∙ words.path ∙ ap Ok (sym path);
      }));
      lists =
          let l = ap length line.3.1 in let m = length-append old.table ([] ∷ []) in let v = ap length volumes in
          let w = length-append old.tree.volumes (volume ∷ []) in
          let was = held.lists in omega (arith, l, m, v, w, was);
      few = let was = held.few in let c = ap pattern_count line.3.1 in let m = count_more old.table in omega (arith, was, c, m);
      exports = λ place e c. held.exports place e (subst (λ l. Contains l e) (ap (λ l. exports_of l place) line.3.1 ∙ exports_more old.table place) c);
    }
  where
    free_is : (u : Tree) (path found : List ℕ) → free_path u path ≡ Ok found → found ≡ path
    free_is u path found e = by_test (is_some (volume_named u path))
        (λ y. absurd (not_both (free_path u path) found VolumeTwice e (ap (λ b. if b then Err VolumeTwice else Ok path) y)))
        (λ o. same_ok (free_path u path) found path e (ap (λ b. if b then Err VolumeTwice else Ok path) o))
goes_held old new keyword.Export fields said it held =
    let root = root_of (last_root old.tree) _ it in
    let line = then_of (export_in fields) _ root.1 in
    let export : Export = record { pattern = line.0.pattern; options = line.0.options } in
    let is = line.3.1 in
    let table : new.table ≡ added old.table (length old.tree.volumes - 1) export = ap (λ (l : Loaded). l.table) is in
    let tree : new.tree ≡ old.tree = ap (λ (l : Loaded). l.tree) is in
    record {
      tree = subst IsKept (sym tree) held.tree;
      volumes = subst (λ (u : Tree). All IsVolumeSaid u.volumes) (sym tree) held.volumes;
      lists = ap length table ∙ length_added old.table (length old.tree.volumes - 1) export ∙ held.lists ∙ ap (λ (u : Tree). length u.volumes) (sym tree);
      few = let c = count_added old.table (length old.tree.volumes - 1) export in let e = ap pattern_count table in let few = line.3.0 in
          omega (arith, c, e, few);
      exports = λ place e c. elim
          (exports_added old.table (length old.tree.volumes - 1) place export e (subst (λ l. Contains (exports_of l place) e) table c)) [
            | inl was ↦ held.exports place e was
            | inr same ↦ subst IsExport same (export_bound fields line.0 line.1 line.2)
          ];
    }
goes_held old new keyword.Dir fields said it held =
    let root = root_of (last_root old.tree) _ it in
    let line = then_of (dir_in old.names fields) _ root.1 in
    let made = line.3.0 in
    let bound = dir_bound old.names fields line.0 line.1 said line.2 in
    held_on old new held
    (subst IsKept (sym made.3.new_is) (kept_dir old.tree made.0.dir made.3.tag made.0.name line.0.given made.2 made.3.tag_is.fits
    bound.0 (end_bytes old.tree root.0 line.0.path made.0 bound.1 made.1) held.tree))
    (ap (λ (u : Tree). u.volumes) made.3.new_is ∙ entry_volumes _ made.0.dir made.0.name old.tree.next start) line.3.1
goes_held old new keyword.File fields said it held = elim it [
  | inl on ↦
      let root = root_of (last_root old.tree) _ on in
      let line = then_of (file_in old.names old.tree.limits.file_size fields) _ root.1 in
      let made = line.3.0 in
      let bound = file_bound old.names old.tree.limits.file_size fields line.0 line.1 said line.2 in
      held_on old new held
      (subst IsKept (sym made.3.new_is)
      (kept_file old.tree made.0.dir made.3.tag made.0.name line.0.content line.0.given made.2 made.3.tag_is.fits bound.0 (end_bytes old.tree root.0 line.0.path made.0 bound.1 made.1) bound.2 held.tree))
      (ap (λ (u : Tree). u.volumes) made.3.new_is ∙ entry_volumes _ made.0.dir made.0.name old.tree.next start) line.3.1
  | inr memory ↦ absurd (not_both (Ok tt) tt Memory refl memory.0)
]
goes_held old new keyword.Link fields said it held =
    let root = root_of (last_root old.tree) _ it in
    let line = then_of (link_in old.names old.tree.limits.link_path fields) _ root.1 in
    let made = line.3.0 in
    let bound = link_bound old.names old.tree.limits.link_path fields line.0 line.1 said line.2 in
    held_on old new held
    (subst IsKept (sym made.3.new_is)
    (kept_link old.tree made.0.dir made.3.tag made.0.name line.0.target line.0.uid line.0.gid made.2 made.3.tag_is.fits bound.0 bound.1
    (end_bytes old.tree root.0 line.0.path made.0 bound.2 made.1) bound.3 held.tree))
    (ap (λ (u : Tree). u.volumes) made.3.new_is ∙ entry_volumes _ made.0.dir made.0.name old.tree.next start) line.3.1
goes_held old new keyword.Hard fields said it held =
    let root = root_of (last_root old.tree) _ it in
    let line = then_of (hard_in old.names fields) _ root.1 in
    let made = line.3.0 in
    held_on old new held
    (subst IsKept (sym made.3) (kept_name old.tree made.0.1 made.0.0.dir made.0.0.name made.2
    (end_bytes old.tree root.0 line.0.path made.0.0 (hard_bound old.names fields line.0 line.1 said line.2) (link_free old.tree root.0 line.0.path line.0.old made.0 made.1)) held.tree))
    (ap (λ (u : Tree). u.volumes) made.3 ∙ entry_volumes (touched old.tree made.0.1 start) made.0.0.dir made.0.0.name made.0.1 start
    ∙ touched_volumes old.tree made.0.1 start) line.3.1
goes_held old new keyword.Times fields said it held =
    let root = root_of (last_root old.tree) _ it in
    let line = then_of (times_in old.names fields) _ root.1 in
    let are = times_bound old.names fields line.0 line.1 line.2 in
    let set = times_of old.tree new.tree (timed_file old.tree root.0 line.0) line.0 line.3.0 in
    let f = living_lives old.tree (file_or_root_at old.tree root.0 line.0.path) set.0 set.1 in
    held_on old new held
    (subst IsKept (sym set.2) (kept_times old.tree set.0 (times_given line.0) line.0.ctime f.0 f.1 (times_said line.0 are) are.ctime held.tree))
    (ap (λ (u : Tree). u.volumes) (set.2 ∙ set_is old.tree set.0 (times_given line.0) line.0.ctime f.0 f.1)) line.3.1

-- ---- the whole text

none_sorted : IsStrictlySortedBy nat_cmp []
unfolding IsStrictlySortedBy
none_sorted = tt

empty_law : (key : List ℕ) → length key ≡ 8 → IsBytes key → Law (record { files = []; next = 1; key = key; volumes = []; limits = default_limits })
empty_law key long bytes = record {
  numbers = record { rising = none_sorted; given = All-nil _; tags = All-nil _; some = omega arith; last = omega arith; key_len = long; key_bytes = bytes };
  rising = omega arith;
  sound = λ n f e. absurd (none f e);
  placed = λ n f e. absurd (none f e);
  entries = λ d f e is c. absurd (none f is);
  absent = λ n e. refl;
  roots = λ index v e. absurd (none v e);
  once = λ n f o e. absurd (none f e.0);
  parents = λ d f e g is. absurd (none f is);
  stands = λ n f o e. absurd (none f e.0);
  homes = λ n f e. absurd (none f e.0);
  reached = λ n f e. absurd (none f e.0);
  named = λ n f o e. absurd (none f e);
  links = λ n f e. absurd (none f e);
  limits = record { file_size = omega arith; links_2 = omega arith; links = omega arith; link_path = omega arith; files = omega arith };
  volumes = record { few = omega arith; within = All-nil (IsWithin default_limits); paths = All-nil (λ (v : Volume). length v.path ≤ 255); apart = λ j k d less within. absurd (omega (arith, within)) };
  bytes = λ index v e. absurd (none v e);
  count = λ index v e. absurd (none v e);
}
  where
    none : {X : Type 0} (x : X) → None ≡ Some x → ⊥
    none x e = cc

abbrev HeldOr : Option Loaded → Type 0
HeldOr None = Unit {0}
HeldOr (Some loaded) = IsHeld loaded

begun_held : (k : Keyword) (fields : List (List ℕ)) (loaded : Loaded) → begun k fields ≡ Ok loaded → IsHeld loaded
begun_held keyword.Server fields loaded e =
    let key = bind_is (by key_in fields) (λ (key : Left (List ℕ)). Ok
    (record { tree = record { files = []; next = 1; key = key.0; volumes = []; limits = default_limits }; table = []; names = Plain })) loaded e in
    let made : Loaded = record { tree = record { files = []; next = 1; key = key.0.0; volumes = []; limits = default_limits }; table = []; names = Plain } in
    let k = by_is key_in fields key.0.0 key.0.1 key.1 in
    let bound = key_bound k.0 key.0.0 k.2 in
    subst IsHeld (same_ok {E = Cause} (Ok made) made loaded refl key.2) (record {
      tree = (empty_law key.0.0 bound.0 bound.1, (λ n f is. absurd (none_lives f is)));
      volumes = All-nil IsVolumeSaid;
      lists = refl;
      few = omega arith;
      exports = λ place e c. absurd (not_in_empty [] e refl c);
    })
  where
    none_lives : (f : File) → None ≡ Some f → ⊥
    none_lives f e = cc
begun_held keyword.Limits fields loaded e = cc
begun_held keyword.Names fields loaded e = cc
begun_held keyword.Volume fields loaded e = cc
begun_held keyword.Export fields loaded e = cc
begun_held keyword.Dir fields loaded e = cc
begun_held keyword.File fields loaded e = cc
begun_held keyword.Link fields loaded e = cc
begun_held keyword.Hard fields loaded e = cc
begun_held keyword.Times fields loaded e = cc

begins_held : (b : Result Loaded Cause) (new : Option Loaded) → Begins b (Ok tt) new → ((loaded : Loaded) → b ≡ Ok loaded → IsHeld loaded) → HeldOr new
begins_held (Ok loaded) new it each = subst HeldOr (sym it.1) (each loaded refl)
begins_held (Err cause) new it each = absurd (no_fault cause it)

asked_held : (old new : Option Loaded) (asks : Result (Option Line) Cause) → ((l : Line) → asks ≡ Ok (Some l) → AllSaid l.fields) → Asked old asks (Ok tt) new
    → HeldOr old → HeldOr new
asked_held old new (Err cause) said it held = absurd (no_fault cause it)
asked_held old new (Ok None) said it held = subst HeldOr (sym it.1) held
asked_held None new (Ok (Some line)) said it held = begins_held (begun line.keyword line.fields) new it (begun_held line.keyword line.fields)
asked_held (Some old) new (Ok (Some line)) said it held = subst HeldOr (sym it.1) (goes_held old it.0 line.keyword line.fields (said line refl) it.2 held)

through_held : (old new : Option Loaded) (ls : List (List ℕ)) → Through old ls new → HeldOr old → HeldOr new
through_held old new [] it held = subst HeldOr it held
through_held old new (line ∷ ls) it held = through_held it.0 new ls it.2 (asked_held old it.0 (shape line) (fields_said line) it.1 held)

some_volume : (loaded : Loaded) → finished (Some loaded) ≡ Ok loaded → 1 ≤ length loaded.tree.volumes
some_volume loaded e = by_test (nat_eq (length loaded.tree.volumes) 0)
    (λ y. absurd (not_both (finished (Some loaded)) loaded NoVolume e (ap (λ b. if b then Err NoVolume else Ok loaded) y)))
    (λ o. let more : length loaded.tree.volumes ≢ 0 = λ z. true_and_false (eq-eqb (length loaded.tree.volumes) 0 z) o in omega (arith, more))

pub loaded_describable : law.LoadedAreDescribable
loaded_describable text loaded describes =
    let held = through_held None (Some loaded) (lines text) describes.0 tt in
    record {
      law = held.tree.0;
      some = some_volume loaded describes.1;
      volumes = held.volumes;
      files = held.tree.1;
      lists = held.lists;
      few = held.few;
      exports = held.exports;
    }
