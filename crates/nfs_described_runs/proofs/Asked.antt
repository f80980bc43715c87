-- What is read of an event of bytes fits into lines of a description: ids and times of 32 bits, and names and contents of bytes.
use Rattle.std.proofs.Common.{◌≡◌, ℕ, suc, zero, ◌<◌, ◌^◌, Bool, true, false, List, [], ◌∷◌, ◌++◌, Option, Some, None, option_map, refl, ap, subst, arith}
use Rattle.std.specs.Prelude.{Ok, Err, if◌then◌else◌}
use Rattle.std.specs.Int.{w32}
use Rattle.nfs_args.specs.declared.args.NfsArgs.{NfsArgs}
use Rattle.nfs_args.specs.declared.args.NfsArgs.TheVariants as nfs
use Rattle.nfs_args.specs.declared.create.CreateHow.{CreateHow}
use Rattle.nfs_args.specs.declared.create.CreateHow.TheVariants as how
use Rattle.nfs_args.specs.declared.mount_args.MountArgs.{MountArgs}
use Rattle.nfs_args.specs.declared.procedure.Procedure.{Procedure}
use Rattle.nfs_args.specs.declared.procedure.Procedure.TheVariants as proc
use Rattle.nfs_args.specs.declared.dir_op.DirOp.{DirOp}
use Rattle.nfs_args.specs.declared.symlink.Symlink.{Symlink}
use Rattle.nfs_args.specs.declared.write.Write.{Write}
use Rattle.nfs_args.specs.Encoding.{CreateMode, Unchecked, Guarded, Exclusive, IsArgsOf, IsCreateArm, IsCreateHow, IsDirOp, IsSymlink, IsWrite}
use Rattle.nfs_args.specs.Procedures.{procedure_number, procedures}
use Rattle.nfs_args.specs.Reading.{args_at}
use Rattle.nfs_args.proofs.Finds.{finds_args}
use Rattle.nfs_attrs.specs.declared.sattr.Sattr.{Sattr}
use Rattle.nfs_attrs.specs.declared.time_setting.TimeSetting.{TimeSetting}
use Rattle.nfs_attrs.specs.declared.time_setting.TimeSetting.TheVariants.{Leave, ServerTime, ClientTime}
use Rattle.nfs_attrs.specs.Encoding.{IsSattr, IsTimeSetting}
use Rattle.nfs_exports.specs.declared.addr.Addr.{Addr}
use Rattle.nfs_inodes.proofs.Lists.{not_both, same_some}
use Rattle.nfs_inodes.specs.Tree.{on_some}
use Rattle.nfs_load.specs.Moments.{IsTime}
use Rattle.nfs_policy.specs.Confining.{Asks}
use Rattle.nfs_rpc.proofs.AuthSys.{finds_cred}
use Rattle.nfs_rpc.proofs.Calls.{finds_head}
use Rattle.nfs_rpc.specs.AuthSys.{Credential, caller, cred_at, value_of}
use Rattle.nfs_rpc.specs.Calls.{Call, head_at}
use Rattle.nfs_rules.specs.Subjects.{Caller}
use Rattle.nfs_server.specs.Events.{Event}
use Rattle.nfs_server.specs.Requests as requests
use Rattle.nfs_server.specs.Requests.{Request, Nothing, OfNfs, OfMount, args_in, is_nfs, is_null, mount_args_in, read_args, request_of}
use Rattle.nfs_xdr.proofs.Finding.{AreBytes-rest}
use Rattle.nfs_xdr.specs.Encoding.{IsFollowed, IsNumber, IsOpaque, IsOptional}
use Rattle.nfs_xdr.specs.Reading.{AreBytes, Read, numbered}

-- ---- bytes of a part

front_bytes : (xs ys : List ℕ) → AreBytes (xs ++ ys) → AreBytes xs
front_bytes [] ys h i = omega arith
front_bytes (x ∷ xs) ys h zero = h 0
front_bytes (x ∷ xs) ys h (suc i) = front_bytes xs ys (λ j. h (suc j)) i

first_bytes : {F S : List ℕ → Type 0} (text : List ℕ) (is : IsFollowed F S text) → AreBytes text → AreBytes is.front
first_bytes text is h = front_bytes is.front is.back (subst AreBytes is.text_is h)

second_bytes : {F S : List ℕ → Type 0} (text : List ℕ) (is : IsFollowed F S text) → AreBytes text → AreBytes is.back
second_bytes text is h = AreBytes-rest is.front is.back (subst AreBytes is.text_is h)

opaque_bytes : (max : ℕ) (item text : List ℕ) → IsOpaque max item text → AreBytes text → AreBytes item
opaque_bytes max item text is h = let fixed = is.encoded.second in front_bytes item fixed.pad (subst AreBytes fixed.text_is (second_bytes text is.encoded h))

-- ---- arguments

-- an id, where there is one, has 32 bits
abbrev pub IsIdSaid : Option ℕ → Type 0
IsIdSaid id = (n : ℕ) → id ≡ Some n → n < 2 ^ 32

-- so have both numbers of a time that a client gives
abbrev pub IsTimeSaid : TimeSetting → Type 0
IsTimeSaid (ClientTime moment) = IsTime moment
IsTimeSaid other = Unit {0}

pub record IsSattrSaid (a : Sattr) : Type 0 where
  pub uid : IsIdSaid a.uid
  pub gid : IsIdSaid a.gid
  pub atime : IsTimeSaid a.atime
  pub mtime : IsTimeSaid a.mtime

abbrev pub IsHowSaid : CreateHow → Type 0
IsHowSaid (how.Unchecked attributes) = IsSattrSaid attributes
IsHowSaid (how.Guarded attributes) = IsSattrSaid attributes
IsHowSaid (how.Exclusive verifier) = Unit {0}

abbrev pub AreSaid : NfsArgs → Type 0
AreSaid (nfs.Setattr a) = IsSattrSaid a.attributes
AreSaid (nfs.Write a) = AreBytes a.content
AreSaid (nfs.Create a) = IsHowSaid a.how × AreBytes a.place.name
AreSaid (nfs.Mkdir a) = IsSattrSaid a.attributes × AreBytes a.place.name
AreSaid (nfs.Symlink a) = IsSattrSaid a.attributes × AreBytes a.place.name × AreBytes a.path
AreSaid (nfs.Rename a) = AreBytes a.to.name
AreSaid (nfs.Link a) = AreBytes a.place.name
AreSaid other = Unit {0}

id_said : (id : Option ℕ) (text : List ℕ) → IsOptional (IsNumber w32) id text → IsIdSaid id
id_said None text is n e = absurd (not_both refl e)
id_said (Some m) text is n e = subst (λ k. k < 2 ^ 32) (same_some e) is.second.fits

time_said : (setting : TimeSetting) (text : List ℕ) → IsTimeSetting setting text → IsTimeSaid setting
time_said Leave text is = tt
time_said ServerTime text is = tt
time_said (ClientTime moment) text is = (is.second.first.fits, is.second.second.fits)

sattr_said : (a : Sattr) (text : List ℕ) → IsSattr a text → IsSattrSaid a
sattr_said a text is =
    let times = is.second.second.second.second in
    record {
      uid = id_said a.uid is.second.front is.second.first;
      gid = id_said a.gid is.second.second.front is.second.second.first;
      atime = time_said a.atime times.front times.first;
      mtime = time_said a.mtime times.back times.second;
    }

write_said : (a : Write) (text : List ℕ) → IsWrite a text → AreBytes text → AreBytes a.content
write_said a text is h =
    let one = second_bytes text is h in
    let two = second_bytes is.back is.second one in
    let three = second_bytes is.second.back is.second.second two in
    let four = second_bytes is.second.second.back is.second.second.second three in
    opaque_bytes 4294967295 a.content is.second.second.second.back is.second.second.second.second four

name_said : (place : DirOp) (text : List ℕ) → IsDirOp place text → AreBytes text → AreBytes place.name
name_said place text is h = opaque_bytes 4294967295 place.name is.back is.second (second_bytes text is h)

symlink_said : (a : Symlink) (text : List ℕ) → IsSymlink a text → AreBytes text → IsSattrSaid a.attributes × AreBytes a.place.name × AreBytes a.path
symlink_said a text is h =
    let rest = second_bytes text is h in (
      sattr_said a.attributes is.second.front is.second.first,
      name_said a.place is.front is.first (first_bytes text is h),
      opaque_bytes 4294967295 a.path is.second.back is.second.second (second_bytes is.back is.second rest),
    )

arm_said : (mode : CreateMode) (value : CreateHow) (text : List ℕ) → IsCreateArm mode value text → IsHowSaid value
arm_said Unchecked value text arm = subst IsHowSaid arm.1 (sattr_said arm.0 text arm.2)
arm_said Guarded value text arm = subst IsHowSaid arm.1 (sattr_said arm.0 text arm.2)
arm_said Exclusive value text arm = subst IsHowSaid arm.1 tt

how_said : (value : CreateHow) (text : List ℕ) → IsCreateHow value text → IsHowSaid value
how_said value text is = arm_said is.kind value is.encoded.back is.encoded.second

args_said : (p : Procedure) (args : NfsArgs) (text : List ℕ) → IsArgsOf p args text → AreBytes text → AreSaid args
args_said proc.Null args text is h = subst AreSaid is.value_is tt
args_said proc.Getattr args text arm h = subst AreSaid arm.1 tt
args_said proc.Setattr args text arm h = subst AreSaid arm.1 (sattr_said arm.0.attributes arm.2.second.front arm.2.second.first)
args_said proc.Lookup args text arm h = subst AreSaid arm.1 tt
args_said proc.Access args text arm h = subst AreSaid arm.1 tt
args_said proc.Readlink args text arm h = subst AreSaid arm.1 tt
args_said proc.Read args text arm h = subst AreSaid arm.1 tt
args_said proc.Write args text arm h = subst AreSaid arm.1 (write_said arm.0 text arm.2 h)
args_said proc.Create args text arm h = subst AreSaid arm.1 (how_said arm.0.how arm.2.back arm.2.second, name_said arm.0.place arm.2.front arm.2.first (first_bytes text arm.2 h))
args_said proc.Mkdir args text arm h = subst AreSaid arm.1 (sattr_said arm.0.attributes arm.2.back arm.2.second, name_said arm.0.place arm.2.front arm.2.first (first_bytes text arm.2 h))
args_said proc.Symlink args text arm h = subst AreSaid arm.1 (symlink_said arm.0 text arm.2 h)
args_said proc.Mknod args text arm h = subst AreSaid arm.1 tt
args_said proc.Remove args text arm h = subst AreSaid arm.1 tt
args_said proc.Rmdir args text arm h = subst AreSaid arm.1 tt
args_said proc.Rename args text arm h = subst AreSaid arm.1 (name_said arm.0.to arm.2.back arm.2.second (second_bytes text arm.2 h))
args_said proc.Link args text arm h = subst AreSaid arm.1 (name_said arm.0.place arm.2.back arm.2.second (second_bytes text arm.2 h))
args_said proc.Readdir args text arm h = subst AreSaid arm.1 tt
args_said proc.Readdirplus args text arm h = subst AreSaid arm.1 tt
args_said proc.Fsstat args text arm h = subst AreSaid arm.1 tt
args_said proc.Fsinfo args text arm h = subst AreSaid arm.1 tt
args_said proc.Pathconf args text arm h = subst AreSaid arm.1 tt
args_said proc.Commit args text arm h = subst AreSaid arm.1 tt

read_said : (p : Procedure) (bytes : List ℕ) (args : NfsArgs) → AreBytes bytes → read_args (args_at p bytes) ≡ Some args → AreSaid args
read_said p bytes args h e = of (args_at p bytes) refl e
  where
    of : (read : Read NfsArgs) → args_at p bytes ≡ read → read_args read ≡ Some args → AreSaid args
    of (Ok x) is e = let b = (finds_args p).found bytes x.0 x.1 h is in
        subst AreSaid (same_some e) (args_said p x.0 b.text b.encoded (front_bytes b.text x.1 (subst AreBytes b.bytes_are h)))
    of (Err fault) is e = absurd (not_both refl e)

args_in_said : (number : ℕ) (bytes : List ℕ) (args : NfsArgs) → AreBytes bytes → args_in number bytes ≡ Some args → AreSaid args
args_in_said number bytes args h e = of (numbered procedure_number procedures number) e
  where
    of : (o : Option Procedure) → on_some o None (λ p. read_args (args_at p bytes)) ≡ Some args → AreSaid args
    of None e = absurd (not_both refl e)
    of (Some p) e = read_said p bytes args h e

-- ---- credentials

pub record IsCredSaid (cred : Credential) : Type 0 where
  pub uid : cred.uid < 2 ^ 32
  pub gid : cred.gid < 2 ^ 32

cred_said : (body : List ℕ) (cred : Credential) → AreBytes body → caller body ≡ Some cred → IsCredSaid cred
cred_said body cred h e = of (cred_at body) refl e
  where
    of : (read : Read Credential) → cred_at body ≡ read → value_of read ≡ Some cred → IsCredSaid cred
    of (Ok x) is e = let parms = (finds_cred.found body x.0 x.1 h is).encoded.1 in
        subst IsCredSaid (same_some e) (record { uid = parms.second.second.first.fits; gid = parms.second.second.second.first.fits })
    of (Err fault) is e = absurd (not_both refl e)

-- ---- an event

head_bytes : (bytes : List ℕ) (call : Call) (rest : List ℕ) → AreBytes bytes → head_at bytes ≡ Ok (call, rest) → AreBytes call.cred.body × AreBytes rest
head_bytes bytes call rest h e =
    let b = finds_head.found bytes call rest h e in
    let all = subst AreBytes b.bytes_are h in
    let xid = b.encoded.1 in
    let one = second_bytes b.text xid (front_bytes b.text rest all) in
    let two = second_bytes xid.back xid.second one in
    let three = second_bytes xid.second.back xid.second.second two in
    let four = second_bytes xid.second.second.back xid.second.second.second three in
    let five = second_bytes xid.second.second.second.back xid.second.second.second.second four in
    let six = second_bytes xid.second.second.second.second.back xid.second.second.second.second.second five in
    let cred = xid.second.second.second.second.second.second in
    let seven = first_bytes xid.second.second.second.second.second.back cred six in (
      opaque_bytes 400 call.cred.body cred.first.back cred.first.second (second_bytes cred.front cred.first seven),
      AreBytes-rest b.text rest all,
    )

abbrev cred_in : Request → Option Credential
cred_in Nothing = None
cred_in (OfNfs who args) = Some who.cred
cred_in (OfMount args) = None

abbrev asked_in : Request → Option NfsArgs
asked_in Nothing = None
asked_in (OfNfs who args) = Some args
asked_in (OfMount args) = None

asked_is : (addr : Addr) (cred : Option Credential) (args : Option NfsArgs) (who : Caller) (a : NfsArgs) → requests.asked addr cred args ≡ Some (OfNfs who a)
    → (cred ≡ Some who.cred) × (args ≡ Some a)
asked_is addr (Some cred) (Some args) who a e = (ap cred_in (same_some e), ap asked_in (same_some e))
asked_is addr (Some cred) None who a e = absurd (not_both refl e)
asked_is addr None args who a e = absurd (not_both refl e)

mount_apart : (o : Option MountArgs) (who : Caller) (a : NfsArgs) → option_map OfMount o ≡ Some (OfNfs who a) → ⊥
mount_apart None who a e = not_both refl e
mount_apart (Some args) who a e = cc

request_is : (addr : Addr) (call : Call) (bytes : List ℕ) (who : Caller) (a : NfsArgs) → request_of addr call bytes ≡ Some (OfNfs who a)
    → (caller call.cred.body ≡ Some who.cred) × (args_in call.proc bytes ≡ Some a)
request_is addr call bytes who a e = by (is_null call) (is_nfs call) e
  where
    by : (null nfs : Bool) → (if null then Some Nothing else if nfs then requests.asked addr (caller call.cred.body) (args_in call.proc bytes) else option_map OfMount (mount_args_in call.proc bytes)) ≡ Some (OfNfs who a)
        → (caller call.cred.body ≡ Some who.cred) × (args_in call.proc bytes ≡ Some a)
    by true nfs e = absurd cc
    by false true e = asked_is addr (caller call.cred.body) (args_in call.proc bytes) who a e
    by false false e = absurd (mount_apart (mount_args_in call.proc bytes) who a e)

-- what an event of bytes asks, and who asks it
pub asks_said : (event : Event) (who : Caller) (args : NfsArgs) → AreBytes event.bytes → Asks event who args → IsCredSaid who.cred × AreSaid args
asks_said event who args h asks =
    let parts = head_bytes event.bytes asks.call asks.rest h asks.head in
    let is = request_is event.addr asks.call asks.rest who args asks.request in (
      cred_said asks.call.cred.body who.cred parts.0 is.0,
      args_in_said asks.call.proc asks.rest args parts.1 is.1,
    )
