-- The replies to calls that may change the tree are short enough to be kept.
use Rattle.std.proofs.Common.{◌≡◌, ℕ, ◌+◌, ◌≤◌, true, List, ◌++◌, length, Option, Some, None, option_map, refl, ap, subst, ◌∙◌, arith}
use Rattle.std.specs.Int.{w32, w64, to_be_bytes}
use Rattle.std.proofs.lemmas.Bool.{false≢true}
use Rattle.std.proofs.lemmas.List.{length-append}
use Rattle.nfs_args.specs.Answers.{nfs_text}
use Rattle.nfs_args.specs.Results.{HandleFits, made_text, renamed_text, linked_text}
use Rattle.nfs_args.specs.Encoding.{stability_number}
use Rattle.nfs_args.specs.declared.args.NfsArgs.{NfsArgs}
use Rattle.nfs_args.specs.declared.args.NfsArgs.TheVariants as nfs
use Rattle.nfs_args.specs.declared.linked.Linked.{Linked}
use Rattle.nfs_args.specs.declared.renamed.Renamed.{Renamed}
use Rattle.nfs_args.specs.declared.write.Stability.TheVariants.{FileSync}
use Rattle.nfs_args.proofs.Lengths.{after_change, change_within, linked_within, made_within, renamed_within}
use Rattle.nfs_attrs.specs.Encoding.{wcc_text}
use Rattle.nfs_attrs.specs.declared.fattr.Fattr.{Fattr}
use Rattle.nfs_attrs.specs.declared.wcc.Wcc.{Wcc}
use Rattle.nfs_handles.specs.Handles.{handle_text, magic}
use Rattle.nfs_handles.specs.NumberedFiles.{TaggedFile, at as file_at}
use Rattle.nfs_inodes.specs.Law.{Law}
use Rattle.nfs_inodes.specs.Tree.{File, Tree, on_some}
use Rattle.nfs_inodes.specs.Reading.{attributes_at, numbered_files}
use Rattle.nfs_procs.specs.Changers.{changed, create, link, made_of, mkdir, remove, rmdir, rename, setattr, symlink, write}
use Rattle.nfs_procs.specs.Doing.{Doing, no_change}
use Rattle.nfs_procs.specs.Procedures.{PerformsAs, doing_of}
use Rattle.nfs_procs.specs.Readers.{verifier_of}
use Rattle.nfs_procs.specs.Scenes.{Scene, seen_in}
use Rattle.nfs_procs.specs.declared.done.Done.{Done}
use Rattle.nfs_procs.specs.declared.done.Done.TheVariants.{Granted, Denied, Memory}
use Rattle.nfs_rules.specs.Rules.{status_of}
use Rattle.nfs_rules.specs.Subjects.{Subject}
use Rattle.nfs_rules.specs.Tests.{found}
use Rattle.nfs_server.specs.Retransmissions.{may_change}
use Rattle.nfs_xdr.specs.Written.{Appends, Written}

-- a granted call and a denied one are answered by few bytes
abbrev pub IsShort : Doing → Tree → Type 0
IsShort doing new = ((one two : Subject) → length (nfs_text (doing.granted one two new)) ≤ 280) × ((status : ℕ) (seen : List ℕ → Option Fattr) → length (nfs_text (doing.denied status seen)) ≤ 280)

short_handle : (text : List ℕ) → length text ≡ 20 → length (magic ++ text) ≤ 64
short_handle text e = omega (arith, e)

handle_fits : (key : List ℕ) (n : ℕ) (file : Option (TaggedFile File)) → length key ≡ 8 → HandleFits (option_map (λ (f : TaggedFile File). handle_text key f.tag n) file)
handle_fits key n None e = tt
handle_fits key n (Some file) e =
    let text = key ++ to_be_bytes w32 file.tag ++ to_be_bytes w64 n in
    let len : length text ≡ length key + 4 + 8 = length-append (key ++ to_be_bytes w32 file.tag) (to_be_bytes w64 n) ∙ ap (λ k. k + 8) (length-append key (to_be_bytes w32 file.tag)) in
    short_handle text (len ∙ ap (λ k. k + 4 + 8) e)

same_some : {X : Type 0} {x y : X} → Some x ≡ Some y → x ≡ y
same_some e = cc

-- the procedure of these arguments
of_args : (one doing : Doing) (new : Tree) → Some one ≡ Some doing → IsShort one new → IsShort doing new
of_args one doing new e short = subst (λ d. IsShort d new) (same_some e) short

-- a status, and what has at most so many bytes
after_status : (status m : ℕ) (text : List ℕ) → length text ≤ m → m ≤ 276 → length (to_be_bytes w32 status ++ text) ≤ 280
after_status status m text within small = omega (arith, within, small)

wcc_short : (status : ℕ) (w : Wcc) → length (to_be_bytes w32 status ++ wcc_text w) ≤ 280
wcc_short status w = after_status status 116 (wcc_text w) (change_within w) (omega arith)

made_short : (new : Tree) (n : ℕ) (dir : Subject) → Law new → length (to_be_bytes w32 0 ++ made_text (made_of new n dir)) ≤ 280
made_short new n dir law = after_status 0 276 (made_text (made_of new n dir)) (made_within (made_of new n dir) (handle_fits new.key n (file_at (numbered_files new) n) law.numbers.key_len)) (omega arith)

written_short : (w : Wcc) (rest : List ℕ) → length rest ≡ 16 → length (to_be_bytes w32 0 ++ (wcc_text w ++ rest)) ≤ 280
written_short w rest size = after_status 0 132 (wcc_text w ++ rest) (after_change w rest 16 size) (omega arith)

renamed_short : (status : ℕ) (r : Renamed) → length (to_be_bytes w32 status ++ renamed_text r) ≤ 280
renamed_short status r = after_status status 232 (renamed_text r) (renamed_within r) (omega arith)

linked_short : (status : ℕ) (l : Linked) → length (to_be_bytes w32 status ++ linked_text l) ≤ 280
linked_short status l = after_status status 204 (linked_text l) (linked_within l) (omega arith)

is_short : (args : NfsArgs) (doing : Doing) (new : Tree) → Law new → may_change args ≡ true → doing_of args ≡ Some doing → IsShort doing new
is_short nfs.Null doing new law m e = absurd (false≢true m)
is_short (nfs.Getattr a) doing new law m e = absurd (false≢true m)
is_short (nfs.Lookup a) doing new law m e = absurd (false≢true m)
is_short (nfs.Access a) doing new law m e = absurd (false≢true m)
is_short (nfs.Readlink a) doing new law m e = absurd (false≢true m)
is_short (nfs.Read a) doing new law m e = absurd (false≢true m)
is_short (nfs.Mknod a) doing new law m e = absurd (false≢true m)
is_short (nfs.Readdir a) doing new law m e = absurd (false≢true m)
is_short (nfs.Readdirplus a) doing new law m e = absurd (false≢true m)
is_short (nfs.Fsstat a) doing new law m e = absurd (false≢true m)
is_short (nfs.Fsinfo a) doing new law m e = absurd (false≢true m)
is_short (nfs.Pathconf a) doing new law m e = absurd (false≢true m)
is_short (nfs.Commit a) doing new law m e = absurd (false≢true m)
is_short (nfs.Setattr a) doing new law m e = of_args (setattr a) doing new e (λ one two. wcc_short 0 (changed new one), λ status seen. wcc_short status (no_change (seen a.file)))
is_short (nfs.Write a) doing new law m e = of_args (write a) doing new e (λ one two. written_short (changed new one) (to_be_bytes w32 (length a.content) ++ to_be_bytes w32 (stability_number FileSync) ++ to_be_bytes w64 (verifier_of one.tree)) refl, λ status seen. wcc_short status (no_change (seen a.file)))
is_short (nfs.Create a) doing new law m e = of_args (create a) doing new e (λ one two. made_short new (on_some (found one a.place.name) one.tree.next (λ f. f.fileid)) one law, λ status seen. wcc_short status (no_change (seen a.place.dir)))
is_short (nfs.Mkdir a) doing new law m e = of_args (mkdir a) doing new e (λ one two. made_short new one.tree.next one law, λ status seen. wcc_short status (no_change (seen a.place.dir)))
is_short (nfs.Symlink a) doing new law m e = of_args (symlink a) doing new e (λ one two. made_short new one.tree.next one law, λ status seen. wcc_short status (no_change (seen a.place.dir)))
is_short (nfs.Remove a) doing new law m e = of_args (remove a) doing new e (λ one two. wcc_short 0 (changed new one), λ status seen. wcc_short status (no_change (seen a.dir)))
is_short (nfs.Rmdir a) doing new law m e = of_args (rmdir a) doing new e (λ one two. wcc_short 0 (changed new one), λ status seen. wcc_short status (no_change (seen a.dir)))
is_short (nfs.Rename a) doing new law m e = of_args (rename a) doing new e (λ one two. renamed_short 0 (record { from = changed new one; to = changed new two }), λ status seen. renamed_short status (record { from = no_change (seen a.from.dir); to = no_change (seen a.to.dir) }))
is_short (nfs.Link a) doing new law m e = of_args (link a) doing new e (λ one two. linked_short 0 (record { attributes = attributes_at new one.file.fileid; dir = changed new two }), λ status seen. linked_short status (record { attributes = seen a.file; dir = no_change (seen a.place.dir) }))

-- what is written of a call
appended : (text : List ℕ) (before after : Written) → Appends text before after → length text ≤ 280 → length after.bytes ≤ length before.bytes + 280
appended text before after w short = omega (arith, ap length w.bytes ∙ length-append before.bytes text, short)

pub short_result : (c : Scene) (o : Option Doing) (came : Option Done) (new : Tree) (before after : Written) → doing_of c.args ≡ o → Law new → may_change c.args ≡ true → PerformsAs c o came new before after → length after.bytes ≤ length before.bytes + 280
short_result c None None new before after e law m p = omega (arith, ap (λ (w : Written). length w.bytes) p.1)
short_result c None (Some came) new before after e law m p = absurd p
short_result c (Some doing) None new before after e law m p = absurd p
short_result c (Some doing) (Some Granted) new before after e law m p = appended (nfs_text (doing.granted p.one p.two new)) before after p.written.text ((is_short c.args doing new law m e).0 p.one p.two)
short_result c (Some doing) (Some (Denied rule uid)) new before after e law m p = appended (nfs_text (doing.denied (status_of rule) (seen_in c))) before after p.written.text ((is_short c.args doing new law m e).1 (status_of rule) (seen_in c))
short_result c (Some doing) (Some (Memory refused)) new before after e law m p = omega (arith, ap (λ (w : Written). length w.bytes) p.written)
