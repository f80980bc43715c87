-- Cases of the definitions that no call comes to.
use Rattle.std.proofs.Common.{◌≡◌, Bool, true, false, cond, not, ◌||◌, ◌&&◌, List, [], ◌∷◌, ◌++◌, Option, Some, None, is_some, is_none, option_map, refl, sym, ap, ◌∙◌}
use Rattle.std.specs.Prelude.{IsSome, nat_eq}
use Rattle.std.specs.List.{find}
use Rattle.std.proofs.lemmas.Bool.{true≢false, false≢true}
use Rattle.nfs_handles.specs.NumberedFiles.{TaggedFile, at as file_at}
use Rattle.nfs_handles.specs.Handles.{handle_text}
use Rattle.nfs_inodes.specs.Tree.{File}
use Rattle.nfs_inodes.specs.Reading.{numbered_files}
use Rattle.nfs_inodes.proofs.Lookups.{found_lives}
use Rattle.nfs_inodes.proofs.Follows.{lives_alike}
use Rattle.nfs_rpc.specs.AuthSys.{Credential, caller}
use Rattle.nfs_exports.specs.declared.addr.Addr.{Addr}
use Rattle.nfs_server.specs.declared.rpc_rules.RpcRule.TheVariants.{Version, Program, ProgramVersion, Procedure, Flavor, WeakCredential, Arguments, Credential as RpcCredential}
use Rattle.nfs_args.specs.declared.args.NfsArgs.{NfsArgs}
use Rattle.nfs_args.specs.declared.mount_args.MountArgs.{MountArgs}
use Rattle.nfs_server.specs.Requests.{Nothing, OfMount, args_in, asked, is_nfs, is_null, mount_args_in}
use Rattle.nfs_server.specs.RpcRules.{AUTH_NONE, AUTH_SYS, fails_rpc, caller_rules}
use Rattle.nfs_server.specs.Cases.{CallsCanBeRead, FoundHasHandle}

-- where none of a list passes, the first doesn't, and none of the others does
first_not : {X : Type 0} (p : X → Bool) (x : X) (xs : List X) → find p (x ∷ xs) ≡ None → p x ≡ false
first_not {X} p x xs none = of (p x) refl
  where
    of : (b : Bool) → p x ≡ b → p x ≡ false
    of false e = e
    of true e = absurd (false≢true (ap is_some (sym none ∙ ap (λ b. cond b (Some x) (find p xs)) e)))

others_not : {X : Type 0} (p : X → Bool) (x : X) (xs : List X) → find p (x ∷ xs) ≡ None → find p xs ≡ None
others_not p x xs none = sym (ap (λ b. cond b (Some x) (find p xs)) (first_not p x xs none)) ∙ none

-- ---- calls

-- who calls NFS by a flavor that the rules take has a credential that can be read
readable : (unknown sys unread : Bool) → not (unknown || sys) ≡ false → (sys && unread) ≡ false → unknown ≡ false → unread ≡ false
readable true sys unread a b c = absurd (true≢false c)
readable false true unread a b c = b
readable false false unread a b c = absurd (true≢false a)

some_asked : (addr : Addr) (cred : Option Credential) (args : Option NfsArgs) → is_none cred ≡ false → is_none args ≡ false → IsSome (asked addr cred args)
some_asked addr None args c a = absurd (true≢false c)
some_asked addr (Some cred) None c a = absurd (true≢false a)
some_asked addr (Some cred) (Some args) c a = refl

some_mount : (args : Option MountArgs) → is_none args ≡ false → IsSome (option_map OfMount args)
some_mount None a = absurd (true≢false a)
some_mount (Some args) a = refl

-- by whether the call is NULL, and whether it is of NFS
can_be_read : (addr : Addr) (cred : Option Credential) (args : Option NfsArgs) (mount_args : Option MountArgs) (null nfs unknown sys : Bool)
    → not null && not (unknown || sys) ≡ false → not null && (sys && is_none cred) ≡ false → not null && (nfs && unknown) ≡ false → not null && cond nfs (is_none args) (is_none mount_args) ≡ false
    → IsSome (cond null (Some Nothing) (cond nfs (asked addr cred args) (option_map OfMount mount_args)))
can_be_read addr cred args mount_args true nfs unknown sys a b c d = refl
can_be_read addr cred args mount_args false true unknown sys a b c d = some_asked addr cred args (readable unknown sys (is_none cred) a b c) d
can_be_read addr cred args mount_args false false unknown sys a b c d = some_mount mount_args d

pub calls_can_be_read : CallsCanBeRead
calls_can_be_read addr call bytes none =
    let p = fails_rpc call bytes in
    let a = others_not p Version (Program ∷ ProgramVersion ∷ Procedure ∷ caller_rules ++ Arguments ∷ []) none in
    let b = others_not p Program (ProgramVersion ∷ Procedure ∷ caller_rules ++ Arguments ∷ []) a in
    let c = others_not p ProgramVersion (Procedure ∷ caller_rules ++ Arguments ∷ []) b in
    let d = others_not p Procedure (caller_rules ++ Arguments ∷ []) c in
    let e = others_not p Flavor (RpcCredential ∷ WeakCredential ∷ Arguments ∷ []) d in
    let f = others_not p RpcCredential (WeakCredential ∷ Arguments ∷ []) e in
    let g = others_not p WeakCredential (Arguments ∷ []) f in
    can_be_read addr (caller call.cred.body) (args_in call.proc bytes) (mount_args_in call.proc bytes) (is_null call) (is_nfs call) (nat_eq call.cred.flavor AUTH_NONE) (nat_eq call.cred.flavor AUTH_SYS)
    (first_not p Flavor (RpcCredential ∷ WeakCredential ∷ Arguments ∷ []) d)
    (first_not p RpcCredential (WeakCredential ∷ Arguments ∷ []) e)
    (first_not p WeakCredential (Arguments ∷ []) f)
    (first_not p Arguments [] g)

-- ---- handles

pub found_has_handle : FoundHasHandle
found_has_handle t d n name law e =
    let lives = found_lives t law d n name e in
    handled (file_at (numbered_files t) n) (lives_alike t n ∙ ap is_some lives.at_file)
  where
    handled : (o : Option (TaggedFile File)) → is_some o ≡ true → IsSome (option_map (λ (file : TaggedFile File). handle_text t.key file.tag n) o)
    handled None e = absurd (false≢true e)
    handled (Some file) e = refl
